-- Places of cells of a kind, one after another.
use Rattle.std.proofs.Common.{◌≡◌, ℕ, ◌+◌, ◌<◌, Bool, true, false, List, [], ◌∷◌, ◌++◌, length, drop, get_or, Some, None, refl, sym, ap, ◌∙◌, append_assoc, append-nil}
use Rattle.std.specs.Prelude.{if◌then◌else◌, slice_get}
use Rattle.std.proofs.lemmas.Option.{slice_get_within, get_or_from_slice_get}
use Rattle.pc_grammar.specs.declared.programs.CellKind.{CellKind}
use Rattle.pc_grammar.specs.declared.typed.Cell.{Cell}
use Rattle.pc_meaning.specs.declared.places.Room.{Room}
use Rattle.pc_meaning.specs.Programs.{chosen}
use Rattle.pc_meaning.proofs.Leaving.{drop-at, drop-none}

module _ (test : CellKind → Bool) (cells : List Cell) (rooms : List Room) (i : ℕ) (k : Cell) (r : Room) (less : i < length cells) (is : k ≡ get_or cells i k) (there : slice_get rooms i ≡ Some r) where
  step : chosen test (drop i cells) (drop i rooms) ≡ (if test k.kind then r.first ∷ chosen test (drop (i + 1) cells) (drop (i + 1) rooms) else chosen test (drop (i + 1) cells) (drop (i + 1) rooms))
  step =
      ap (λ l. chosen test l (drop i rooms)) (drop-at cells i k less is)
      ∙ ap (chosen test (k ∷ drop (i + 1) cells)) (drop-at rooms i r (slice_get_within rooms i r there) (sym (get_or_from_slice_get rooms i r r there)))

  -- a cell of the kind gives its place, and another gives nothing
  pub chosen-here : test k.kind ≡ true → chosen test (drop i cells) (drop i rooms) ≡ r.first ∷ chosen test (drop (i + 1) cells) (drop (i + 1) rooms)
  chosen-here held = step ∙ ap (λ b. if b then r.first ∷ chosen test (drop (i + 1) cells) (drop (i + 1) rooms) else chosen test (drop (i + 1) cells) (drop (i + 1) rooms)) held

  pub chosen-else : test k.kind ≡ false → chosen test (drop i cells) (drop i rooms) ≡ chosen test (drop (i + 1) cells) (drop (i + 1) rooms)
  chosen-else held = step ∙ ap (λ b. if b then r.first ∷ chosen test (drop (i + 1) cells) (drop (i + 1) rooms) else chosen test (drop (i + 1) cells) (drop (i + 1) rooms)) held

-- no rooms are left
pub chosen-past : (test : CellKind → Bool) (cells : List Cell) (rooms : List Room) (i : ℕ) (places all : List ℕ) → slice_get rooms i ≡ None → places ++ chosen test cells (drop i rooms) ≡ all → places ≡ all
chosen-past test cells rooms i places all is h = sym (append-nil places) ∙ ap (λ l. places ++ l) (sym (ap (chosen test cells) (drop-none rooms i is) ∙ by cells)) ∙ h
  where
    by : (ks : List Cell) → chosen test ks [] ≡ []
    by [] = refl
    by (k ∷ ks) = refl

pub push-more : (places new : List ℕ) (place : ℕ) (rest more all : List ℕ) → new ≡ places ++ place ∷ [] → more ≡ place ∷ rest → places ++ more ≡ all → new ++ rest ≡ all
push-more places new place rest more all is cut h =
    ap (λ l. l ++ rest) is ∙ append_assoc places (place ∷ []) rest ∙ ap (λ l. places ++ l) (sym cut) ∙ h
