-- The functions of a flow in a whole.
use Rattle.std.proofs.Common.{◌≡◌, ℕ, zero, suc, ◌+◌, ◌<◌, ◌≤◌, false, Option, Some, None, List, [], ◌∷◌, length, refl, ap, subst, ◌∙◌, arith, eq-eqb, length-append}
use Rattle.std.specs.Prelude.{◌==◌, if◌then◌else◌, slice_index_or, unwrap_or}
use Rattle.std.proofs.lemmas.Bool.{ne_eqb}
use Rattle.pc_lower.specs.Flow.{Node}
use Rattle.pc_lower.specs.Residuals.{body_at}
use Rattle.pc_lower.specs.Words.{Writing}
use Rattle.pc_lower.specs.Layable.{pauses_in, forks_of, guards_of, numbers_in}
use Rattle.pc_emit.specs.Part.{Part, joined}
use Rattle.pc_emit.specs.Code.{size, code}
use Rattle.pc_emit.specs.Image.{found_from, slot_of, closing, functions_size, entrances_from, function_code, functions_code}
use Rattle.pc_emit.proofs.Lengths.{code_size}
use Rattle.pc_emit.proofs.Places.{joined_assoc, behind}
use Rattle.pc_emit.proofs.Stands.{Spot, past, Stands, first_stands, second_stands, Counted, counted_both, counted_behind, Numbers, first_numbers, second_numbers, words_plain, counted}

-- ---- the slot of a function

-- in a list without repetition
pub found_there : (slots : List ℕ) (b c : ℕ) → c < length slots → ((d : ℕ) → d < length slots → slice_index_or slots d 0 ≡ slice_index_or slots c 0 → d ≡ c) →
    found_from b (slice_index_or slots c 0) slots ≡ Some (b + c)
found_there [] b c lt once = absurd (omega (arith, lt))
found_there (x ∷ xs) b zero lt once =
    ap (λ t. if t then Some b else found_from (b + 1) x xs) (eq-eqb x x refl) ∙ (let e : b ≡ b + 0 = omega arith in ap (λ k. Some k) e)
found_there (x ∷ xs) b (suc c) lt once =
    let y = slice_index_or xs c 0 in
    let other : (x == y) ≡ false = ne_eqb x y (λ e. let z : zero ≡ suc c = once zero (omega arith) e in absurd (omega (arith, z))) in
    let more = found_there xs (b + 1) c (omega (arith, lt)) (λ d k e. let z : suc d ≡ suc c = once (suc d) (omega (arith, k)) e in omega (arith, z)) in
    ap (λ t. if t then Some b else found_from (b + 1) y xs) other ∙ more ∙ (let e : b + 1 + c ≡ b + suc c = omega arith in ap (λ k. Some k) e)

pub found_nowhere : (slots : List ℕ) (b g : ℕ) → ((d : ℕ) → d < length slots → slice_index_or slots d 0 ≡ g → ⊥) → found_from b g slots ≡ None
found_nowhere [] b g apart = refl
found_nowhere (x ∷ xs) b g apart =
    ap (λ t. if t then Some b else found_from (b + 1) g xs) (ne_eqb x g (λ e. apart zero (omega arith) e))
    ∙ found_nowhere xs (b + 1) g (λ d k e. apart (suc d) (omega (arith, k)) e)

-- ---- where functions stand

module _ (writing : Writing) where
  -- an entrance is no further than all of the functions
  pub entrance_within : (nodes : List Node) (at g : ℕ) → slice_index_or (entrances_from writing nodes at) g 0 ≤ at + functions_size writing nodes
  entrance_within [] at g = omega arith
  entrance_within (n ∷ nodes) at zero = omega arith
  entrance_within (n ∷ nodes) at (suc g) = let h = entrance_within nodes (at + size writing n + 1) g in omega (arith, h)

  module _ (entrances slots : List ℕ) (first : ℕ → ℕ) where
    pub function_long : (slot : Option ℕ) (n : Node) (at : ℕ) → length (function_code writing entrances slots first slot n at).words ≡ size writing n + 1
    function_long slot n at = let h = code_size writing entrances (unwrap_or slot 0) n [] (first (unwrap_or slot 0)) at in simp length-append (omega (arith, h))

    pub functions_long : (nodes : List Node) (g at : ℕ) → length (functions_code writing entrances slots first g nodes at).words ≡ functions_size writing nodes
    functions_long [] g at = refl
    functions_long (n ∷ nodes) g at =
        length-append (function_code writing entrances slots first (slot_of slots g) n at).words (functions_code writing entrances slots first (g + 1) nodes (at + size writing n + 1)).words
        ∙ (let h = function_long (slot_of slots g) n at in let k = functions_long nodes (g + 1) (at + size writing n + 1) in omega (arith, h, k))

    -- a function, and those behind it
    pub function_more : (g : ℕ) (out after : Part) (n : Node) (nodes : List Node)
        → after ≡ joined out (function_code writing entrances slots first (slot_of slots g) n (length out.words))
        → joined after (functions_code writing entrances slots first (g + 1) nodes (length after.words)) ≡ joined out (functions_code writing entrances slots first g (n ∷ nodes) (length out.words))
    function_more g out after n nodes h =
        let at = length out.words in
        let y = function_code writing entrances slots first (slot_of slots g) n at in
        let k = function_long (slot_of slots g) n at in
        let e : length after.words ≡ at + size writing n + 1 = behind out after y (size writing n + 1) h k ∙ omega arith in
        ap (λ m. joined after (functions_code writing entrances slots first (g + 1) nodes m)) e
        ∙ ap (λ p. joined p (functions_code writing entrances slots first (g + 1) nodes (at + size writing n + 1))) h
        ∙ joined_assoc out y (functions_code writing entrances slots first (g + 1) nodes (at + size writing n + 1))

    pub function_counted : (slot : Option ℕ) (n : Node) (at : ℕ) → Counted (function_code writing entrances slots first slot n at) (pauses_in n) (forks_of n) (guards_of n)
    function_counted slot n at =
        counted_behind (code writing entrances (unwrap_or slot 0) n [] (first (unwrap_or slot 0)) at) (closing slot ∷ []) (pauses_in n) (forks_of n) (guards_of n)
        (counted writing entrances (unwrap_or slot 0) n [] (first (unwrap_or slot 0)) at)

    pub functions_counted : (nodes : List Node) (g at : ℕ) →
        Counted (functions_code writing entrances slots first g nodes at) (numbers_in pauses_in nodes) (numbers_in forks_of nodes) (numbers_in guards_of nodes)
    functions_counted [] g at = words_plain []
    functions_counted (n ∷ nodes) g at =
        counted_both _ _ _ _ _ _ _ _ (function_counted (slot_of slots g) n at) (functions_counted nodes (g + 1) (at + size writing n + 1))

    module _ (whole : Part) (counts : Spot) where
      -- a function, the place where it begins and the numbers of its pauses, forks and aborts
      pub record Found (g : ℕ) (n : Node) (at : ℕ) : Type 0 where
        pub spot : Spot
        pub here : spot.words ≡ at
        pub stands : Stands whole spot (function_code writing entrances slots first (slot_of slots g) n at)
        pub numbers : Numbers counts spot (pauses_in n) (forks_of n) (guards_of n)

      pub find : (nodes : List Node) (g at i : ℕ) (p : Spot) → i < length nodes → p.words ≡ at
          → Stands whole p (functions_code writing entrances slots first g nodes at)
          → Numbers counts p (numbers_in pauses_in nodes) (numbers_in forks_of nodes) (numbers_in guards_of nodes)
          → Found (g + i) (body_at nodes i) (slice_index_or (entrances_from writing nodes at) i 0)
      find [] g at i p lt here st num = absurd (omega (arith, lt))
      find (n ∷ nodes) g at zero p lt here st num =
          let x = function_code writing entrances slots first (slot_of slots g) n at in
          let y = functions_code writing entrances slots first (g + 1) nodes (at + size writing n + 1) in
          let e : g ≡ g + 0 = omega arith in
          subst (λ k. Found k n at) e (record {
            spot = p;
            here = here;
            stands = first_stands whole p x y st;
            numbers = first_numbers counts p _ _ _ _ _ _ num;
          })
      find (n ∷ nodes) g at (suc i) p lt here st num =
          let x = function_code writing entrances slots first (slot_of slots g) n at in
          let y = functions_code writing entrances slots first (g + 1) nodes (at + size writing n + 1) in
          let h : p.words + length x.words ≡ at + size writing n + 1 = let k = function_long (slot_of slots g) n at in omega (arith, k, here) in
          let e : g + 1 + i ≡ g + suc i = omega arith in
          subst (λ k. Found k (body_at nodes i) (slice_index_or (entrances_from writing nodes (at + size writing n + 1)) i 0)) e
          (find nodes (g + 1) (at + size writing n + 1) i (past p x) (omega (arith, lt)) h (second_stands whole p x y st)
          (second_numbers counts p x _ _ _ _ _ _ (function_counted (slot_of slots g) n at) num))
