-- The laws of the data.
use Rattle.std.proofs.Common.{◌≡◌, ℕ, zero, suc, ◌+◌, ◌-◌, ◌<◌, ◌≤◌, ◌==◌, not, ℤ, pos, negsuc, Bool, true, false, IsTrue, if◌then◌else◌, FitsSigned, List, [], ◌∷◌, ◌++◌, length, get_or, set, map, replicate, Option, Some, unwrap_or, refl, sym, ap, subst, ◌∙◌, arith, ⊎_elim}
use Rattle.std.specs.Int.{w32}
use Rattle.std.specs.List.{AllByRecursion}
use Rattle.std.specs.Ordering.{int_eq}
use Rattle.std.proofs.lemmas.Bool.{cases_lt}
use Rattle.std.proofs.lemmas.List.{length-append, length-replicate}
use Rattle.pt_base.specs.Operators.{same, not_of, is_true}
use Rattle.mb_isa.specs.declared.Reg.{Reg}
use Rattle.mb_isa.specs.declared.Reg.TheVariants.{R4}
use Rattle.mb_isa.specs.Registers.{number}
use Rattle.pt_image.specs.declared.Parts.{Parts}
use Rattle.pt_image.specs.Ranges.{AllBelow}
use Rattle.mb_isa.specs.Cells.{Cells, register, word_at, with_inputs, machine}
use Rattle.mb_isa.specs.Run.{loaded_cells}
use Rattle.pc_meaning.specs.Values as values
use Rattle.pc_meaning.specs.Runs.{words_at}
use Rattle.pc_lower.specs.declared.nodes.Test.{Test}
use Rattle.pc_lower.specs.Flow.{State, Flow, Temps, run, tested, put_store, sampled}
use Rattle.pc_lower.specs.Words.{DataLaws}
use Rattle.pc_lower.specs.RegionLaws.{Agree}
use Rattle.pc_lower.specs.Runs.{IsRow, RunLaws}
use Rattle.pc_regs.specs.declared.placement.Placement.{Placement}
use Rattle.pc_regs.specs.declared.placement.Location.{Location}
use Rattle.pc_regs.specs.declared.placement.Location.TheVariants.{Register as in_register, Memory as in_memory}
use Rattle.pc_regs.specs.Placement.{location_of, memory_words, IsPlacement, is_placed, word_in}
use Rattle.pc_regs.specs.Words.{fetched, steps_words, test_words, test_register, are_written, is_test_written, writing_of}
use Rattle.pc_regs.specs.Represents.{compared}
use Rattle.pc_regs.specs.Laws.{HasCells}
use Rattle.pc_regs.proofs.Numbers.{fits_zero}
use Rattle.pc_regs.proofs.Registers.{does, followed}
use Rattle.pc_regs.proofs.Places.{parts, IsLocation, located, Represented, represented, agrees}
use Rattle.pc_regs.proofs.Delivering.{operand_4, operand, set_cell}
use Rattle.pc_regs.proofs.Done.{steps_done}

equals_zero : (z : ℤ) → int_eq z (pos 0) ≡ same z (pos 0)
equals_zero (pos n) = grind arith
equals_zero (negsuc n) = refl

not_is : (b : Bool) → not b ≡ not_of b
not_is true = refl
not_is false = refl

unequal : (z : ℤ) → not (int_eq z (pos 0)) ≡ is_true z
unequal z = not_is (int_eq z (pos 0)) ∙ ap not_of (equals_zero z)

equal_of : (z : ℤ) → int_eq z (pos 0) ≡ not (is_true z)
equal_of z = equals_zero z ∙ sym (not_is (not_of (same z (pos 0))) ∙ twice (same z (pos 0)))
  where
    twice : (b : Bool) → not_of (not_of b) ≡ b
    twice true = refl
    twice false = refl

module _ (p : Placement) (image : Parts) (row : List ℤ) (room : IsPlacement p) where
  -- a test's words, and the register that is looked at
  record Decided (t : Test) (d : Cells) (w : State) : Type 0 where
    pub after : Cells
    pub done : does image row (test_words p t) d ≡ Some after
    pub represents : Represented p after (tested t w)
    pub value : register after (test_register p t) ≡ (tested t w).temps t.by

  decided : (t : Test) (d : Cells) (w : State) → IsTrue (is_test_written p t) → Represented p d w → Decided t d w
  decided t d w h r =
      let c = parts (are_written p t.steps) (is_placed p t.by) h in
      let first = steps_done image row p room t.steps d w r c.0 in
      let f = operand image row p room R4 (operand_4 image row) (omega arith) t.by first.after (tested t w) first.represents c.1 in
      record {
        after = f.after;
        done = followed image row (steps_words p t.steps) (fetched R4 (location_of p t.by)) d first.after f.after first.done f.done;
        represents = f.represents;
        value = f.value;
      }

  only : (a b : Cells) (o : Option Cells) → o ≡ Some a → o ≡ Some b → a ≡ b
  only a b o e f = ap (λ x. unwrap_or x a) (sym e ∙ f)

  -- the inputs are set
  inputs_set : (places : List ℕ) (words : List ℤ) (d : Cells) (w : State) → Represented p d w → AllBelow p.cells places → IsRow words →
      Represented p (record d { memory = with_inputs places words d.memory }) (put_store (values.set_all places words w.store) w)
  inputs_set [] words d w r below fits = r
  inputs_set (place ∷ places) [] d w r below fits = r
  inputs_set (place ∷ places) (word ∷ words) d w r below fits =
      let e = record d { memory = set d.memory place word } in
      let next = set_cell image row p room d e w place word r r.count refl (λ q above. refl) below.0 fits.0 in
      inputs_set places words e (put_store (set w.store place word) w) next below.1 fits.1

  pub data_laws : (f : Flow) → HasCells p image f → IsRow row → DataLaws (machine image row) (Agree (compared p)) (sampled f row) (writing_of p)
  data_laws f has fits = record {
    steps = λ steps d w h a. let l = steps_done image row p room steps d w (represented p d w a) h in (l.after, l.done, agrees p l.after (run steps w) l.represents);
    test = λ t d w h a. let l = decided t d w h (represented p d w a) in (l.after, l.done);
    taken = λ t d between w h a done.
        let l = decided t d w h (represented p d w a) in
        let is = only l.after between (does image row (test_words p t) d) l.done done in (
          between,
          (λ lower. ap (λ z. Some (z, between)) (ap (λ e. int_eq (register e (test_register p t)) (pos 0)) (sym is) ∙ ap (λ x. int_eq x (pos 0)) l.value ∙ equal_of ((tested t w).temps t.by))),
          agrees p between (tested t w) (subst (λ e. Represented p e (tested t w)) is l.represents),
        );
    holds = λ t d between w h a done.
        let l = decided t d w h (represented p d w a) in
        let is = only l.after between (does image row (test_words p t) d) l.done done in (
          between,
          ap (λ z. Some (z, between)) (ap (λ e. not (int_eq (register e (test_register p t)) (pos 0))) (sym is) ∙ ap (λ x. not (int_eq x (pos 0))) l.value ∙ unequal ((tested t w).temps t.by)),
          agrees p between (tested t w) (subst (λ e. Represented p e (tested t w)) is l.represents),
        );
    sampled = λ d w a.
        let set_all = inputs_set f.inputs row d w (represented p d w a) has.inputs_are_cells fits in
        subst (λ places. Agree (compared p) (record d { memory = with_inputs places row d.memory }) (sampled f row w)) (sym has.inputs) (agrees p (record d { memory = with_inputs f.inputs row d.memory }) (sampled f row w) set_all);
  }

-- ---- the beginning

zeros : (n i : ℕ) → get_or (replicate n (pos 0)) i (pos 0) ≡ pos 0
zeros zero i = refl
zeros (suc n) zero = refl
zeros (suc n) (suc i) = zeros n i

ahead : (xs ys : List ℤ) (i : ℕ) → i < length xs → get_or (xs ++ ys) i (pos 0) ≡ get_or xs i (pos 0)
ahead [] ys i h = absurd (omega (arith, h))
ahead (x ∷ xs) ys zero h = refl
ahead (x ∷ xs) ys (suc i) h = ahead xs ys i (omega (arith, h))

further : (xs : List ℤ) (n i : ℕ) → length xs ≤ i → get_or (xs ++ replicate n (pos 0)) i (pos 0) ≡ pos 0
further [] n i h = zeros n i
further (x ∷ xs) n zero h = absurd (omega (arith, h))
further (x ∷ xs) n (suc i) h = further xs n i (omega (arith, h))

all_fit : (xs : List ℤ) (i : ℕ) → AllByRecursion (FitsSigned w32) xs → FitsSigned w32 (get_or xs i (pos 0))
all_fit [] i h = fits_zero
all_fit (x ∷ xs) zero h = h.0
all_fit (x ∷ xs) (suc i) h = all_fit xs i h.1

abbrev pub nothing : Temps
nothing place = pos 0

module _ (p : Placement) (image : Parts) (room : IsPlacement p) (f : Flow) (has : HasCells p image f) where
  abbrev pub first_state : State
  first_state = record { store = f.declared; temps = nothing }

  register_zero : (r : Reg) → register (loaded_cells image) r ≡ pos 0
  register_zero r = ap (λ x. if number r == 0 then pos 0 else x) (zeros 32 (number r)) ∙ same_both (number r == 0)
    where
      same_both : (b : Bool) → (if b then pos 0 else pos 0) ≡ pos 0
      same_both true = refl
      same_both false = refl

  word_there : (i : ℕ) → word_at (loaded_cells image) i ≡ get_or (f.declared ++ replicate (memory_words p - p.cells) (pos 0)) i (pos 0)
  word_there i = ap (λ ws. get_or ws i (pos 0)) has.memory

  word_zero : (at : Location) → IsLocation p at → word_in at (loaded_cells image) ≡ pos 0
  word_zero (in_register r) is = register_zero r
  word_zero (in_memory word) is = let behind = is.0 in let count = has.count in word_there word ∙ further f.declared (memory_words p - p.cells) word (omega (arith, behind, count))

  pub begins : Represented p (loaded_cells image) first_state
  begins =
      let count = has.count in
      record {
        count = length-replicate 32 (pos 0);
        memory = ap length has.memory ∙ length-append f.declared (replicate (memory_words p - p.cells) (pos 0)) ∙ ap (λ n. length f.declared + n) (length-replicate (memory_words p - p.cells) (pos 0)) ∙ omega (arith, count);
        store = has.count;
        cell = λ i lt. (word_there i ∙ ahead f.declared (replicate (memory_words p - p.cells) (pos 0)) i (omega (arith, lt, count)), all_fit f.declared i has.words);
        place = λ q is. (word_zero (location_of p q) (located p room q is), fits_zero);
        words = λ i. subst (FitsSigned w32) (sym (word_there i)) (⊎_elim
            (λ less. subst (FitsSigned w32) (sym (ahead f.declared (replicate (memory_words p - p.cells) (pos 0)) i less)) (all_fit f.declared i has.words))
            (λ behind. subst (FitsSigned w32) (sym (further f.declared (memory_words p - p.cells) i behind)) fits_zero) (cases_lt i (length f.declared)));
      }

  -- the outputs' words
  shown : (places : List ℕ) (d : Cells) (w : State) → Represented p d w → AllBelow p.cells places → map (word_at d) places ≡ words_at places w.store
  shown [] d w r below = refl
  shown (place ∷ places) d w r below =
      let was = r.cell place below.0 in
      ap (λ x. x ∷ map (word_at d) places) was.0 ∙ ap (λ xs. values.word_at w.store place ∷ xs) (shown places d w r below.1)

  pub run_laws : RunLaws image f (writing_of p) (Agree (compared p))
  run_laws = record {
    data_laws = λ row fits. data_laws p image row room f has fits;
    temps = nothing;
    begins = agrees p (loaded_cells image) first_state begins;
    shows = λ d w a. ap (λ places. map (word_at d) places) has.outputs ∙ shown f.outputs d w (represented p d w a) has.outputs_are_cells;
  }
