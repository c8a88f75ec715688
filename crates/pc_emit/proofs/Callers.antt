-- Which functions are called, told from the last to the first.
use Rattle.std.proofs.Common.{◌≡◌, ℕ, ◌+◌, ◌==◌, Bool, true, false, ◌||◌, if◌then◌else◌, List, [], ◌∷◌, ◌++◌, reverse, refl, sym, ap, subst, ◌∙◌, append_assoc, append-nil}
use Rattle.std.proofs.lemmas.List.{reverse-append}
use Rattle.pc_lower.specs.Flow.{Node}
use Rattle.pc_emit.specs.Image.{slot_of}
use Rattle.pc_emit.specs.Sections.{is_among, is_used, calls_in, used_calls}
use Rattle.pc_emit.specs.Made.{calls_from}

pub ruleset callers = (append_assoc, append-nil)

or-assoc : (a b c : Bool) → ((a || b) || c) ≡ (a || (b || c))
or-assoc true b c = refl
or-assoc false b c = refl

or-turned : (a b : Bool) → (a || b) ≡ (b || a)
or-turned true true = refl
or-turned true false = refl
or-turned false true = refl
or-turned false false = refl

-- a number is among two lists where it is among one of them
pub among-both : (k : ℕ) (xs ys : List ℕ) → is_among k (xs ++ ys) ≡ (is_among k xs || is_among k ys)
among-both k [] ys = refl
among-both k (x ∷ xs) ys = ap (λ b. (x == k) || b) (among-both k xs ys) ∙ sym (or-assoc (x == k) (is_among k xs) (is_among k ys))

-- so of no matter is which list stands first
pub among-turned : (k : ℕ) (xs ys zs : List ℕ) → is_among k xs ≡ is_among k zs → is_among k (xs ++ ys) ≡ is_among k (ys ++ zs)
among-turned k xs ys zs same =
    among-both k xs ys ∙ ap (λ b. b || is_among k ys) same ∙ or-turned (is_among k zs) (is_among k ys) ∙ sym (among-both k ys zs)

-- ---- one function more, before those behind it

module _ (slots : List ℕ) where
  -- the same numbers are among these as among the calls of the used ones of these functions
  abbrev pub AreCalls : List ℕ → (g : ℕ) → List Node → Type 0
  AreCalls calls g nodes = (k : ℕ) → is_among k calls ≡ is_among k (used_calls slots g nodes)

  pub called-more : (g number : ℕ) (n : Node) (nodes : List Node) (known : List Bool) (calls : List ℕ) (b : Bool) → number ≡ g + 1 →
      reverse known ≡ calls_from slots number nodes → AreCalls calls number nodes → b ≡ is_among g calls →
      reverse (known ++ b ∷ []) ≡ calls_from slots g (n ∷ nodes)
  called-more g number n nodes known calls b next told same is =
      reverse-append known (b ∷ []) ∙ ap (λ l. b ∷ l) told ∙ ap (λ x. x ∷ calls_from slots number nodes) (is ∙ same g)
      ∙ ap (λ m. is_among g (used_calls slots m nodes) ∷ calls_from slots m nodes) next

  unused : (b : Bool) (front behind : List ℕ) (k : ℕ) → b ≡ false → is_among k behind ≡ is_among k (if b then front ++ behind else behind)
  unused true front behind k e = cc
  unused false front behind k e = refl

  used : (b : Bool) (calls front behind : List ℕ) (k : ℕ) → b ≡ true → is_among k calls ≡ is_among k behind →
      is_among k (calls ++ front) ≡ is_among k (if b then front ++ behind else behind)
  used true calls front behind k e same = among-turned k calls front behind same
  used false calls front behind k e same = cc

  is-told : (g number : ℕ) (nodes : List Node) (calls : List ℕ) (b : Bool) → number ≡ g + 1 → AreCalls calls number nodes → b ≡ is_among g calls →
      is_used (slot_of slots g) b ≡ is_used (slot_of slots g) (is_among g (used_calls slots (g + 1) nodes))
  is-told g number nodes calls b next same is =
      ap (is_used (slot_of slots g)) (is ∙ same g ∙ ap (λ m. is_among g (used_calls slots m nodes)) next)

  pub unused-more : (g number : ℕ) (n : Node) (nodes : List Node) (calls : List ℕ) (b : Bool) → number ≡ g + 1 → AreCalls calls number nodes →
      b ≡ is_among g calls → is_used (slot_of slots g) b ≡ false → AreCalls calls g (n ∷ nodes)
  unused-more g number n nodes calls b next same is not k =
      same k ∙ ap (λ m. is_among k (used_calls slots m nodes)) next
      ∙ unused (is_used (slot_of slots g) (is_among g (used_calls slots (g + 1) nodes))) (calls_in n) (used_calls slots (g + 1) nodes) k
      (sym (is-told g number nodes calls b next same is) ∙ not)

  pub used-more : (g number : ℕ) (n : Node) (nodes : List Node) (calls after : List ℕ) (b : Bool) → number ≡ g + 1 → AreCalls calls number nodes →
      b ≡ is_among g calls → is_used (slot_of slots g) b ≡ true → after ≡ calls ++ calls_in n → AreCalls after g (n ∷ nodes)
  used-more g number n nodes calls after b next same is yet new k =
      ap (is_among k) new
      ∙ used (is_used (slot_of slots g) (is_among g (used_calls slots (g + 1) nodes))) calls (calls_in n) (used_calls slots (g + 1) nodes) k
      (sym (is-told g number nodes calls b next same is) ∙ yet) (same k ∙ ap (λ m. is_among k (used_calls slots m nodes)) next)
