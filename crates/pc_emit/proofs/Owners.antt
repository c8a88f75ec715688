-- Which section is that of a slot, and how many slots have one.
use Rattle.std.proofs.Common.{◌≡◌, inl, inr, ℕ, zero, suc, ◌+◌, ◌<◌, ◌≤◌, ◌==◌, Bool, true, false, if◌then◌else◌, Option, Some, None}
use Rattle.std.proofs.Common.{List, [], ◌∷◌, length, refl, sym, ap, subst, ◌∙◌, arith, eq-eqb, ⊎_elim}
use Rattle.std.specs.Prelude.{slice_index_or}
use Rattle.std.specs.Option.{is_some}
use Rattle.std.proofs.lemmas.Bool.{eqb-true, ne_eqb, cases_eq}
use Rattle.pc_lower.specs.declared.nodes.Test.{Test}
use Rattle.pc_lower.specs.Flow.{Node}
use Rattle.pc_lower.specs.Residuals.{body_at}
use Rattle.pc_lower.specs.Words.{Writing}
use Rattle.tk_paths.specs.Regions.{Region}
use Rattle.tk_paths.specs.Programs.{Section, OfThread, IsIn}
use Rattle.tk_paths.specs.Trees.{threads_in, code_of}
use Rattle.pc_emit.specs.Code.{size}
use Rattle.pc_emit.specs.Image.{found_from, slot_of, condition_size, entrances_from}
use Rattle.pc_emit.proofs.Entrances.{found_there, found_nowhere}
use Rattle.pc_emit.specs.Sections.{is_among, used_calls, thread_code, condition_sections, function_section, with_routine}
use Rattle.pc_emit.specs.Sections.{function_sections}

-- ---- the slot of a function

-- a slot that is found is there, and runs the function
pub found-is : (slots : List ℕ) (b g c : ℕ) → found_from b g slots ≡ Some c → (i : ℕ) × (i < length slots) × (c ≡ b + i) ×
    (slice_index_or slots i 0 ≡ g)
found-is [] b g c h = absurd cc
found-is (x ∷ xs) b g c h = by (found-is xs (b + 1) g c) (x == g) refl
  where
    by : (found_from (b + 1) g xs ≡ Some c → (i : ℕ) × (i < length xs) × (c ≡ b + 1 + i) × (slice_index_or xs i 0 ≡ g)) → (t : Bool) →
        (x == g) ≡ t →
        (i : ℕ) × (i < length (x ∷ xs)) × (c ≡ b + i) × (slice_index_or (x ∷ xs) i 0 ≡ g)
    by rest true e =
        let k : Some b ≡ Some c = sym (ap (λ t. if t then Some b else found_from (b + 1) g xs) e) ∙ h in
        let z : c ≡ b = cc in
        (0, omega arith, omega (arith, z), eqb-true x g e)
    by rest false e =
        let r = rest (sym (ap (λ t. if t then Some b else found_from (b + 1) g xs) e) ∙ h) in
        let lt = r.1 in
        let is = r.2 in
        (suc r.0, omega (arith, lt), omega (arith, is), r.3)

pub slot-is : (slots : List ℕ) (g c : ℕ) → slot_of slots g ≡ Some c → (c < length slots) × (slice_index_or slots c 0 ≡ g)
slot-is slots g c h =
    let r = found-is slots 0 g c h in
    let is : c ≡ r.0 = (let e = r.2 in omega (arith, e)) in
    (subst (λ k. k < length slots) (sym is) r.1, ap (λ k. slice_index_or slots k 0) is ∙ r.3)

-- ---- how many functions run in slots

abbrev some_more : Bool → ℕ → ℕ
some_more true n = n + 1
some_more false n = n

-- so many functions from a number on
abbrev tally : List ℕ → (g n : ℕ) → ℕ
tally slots g zero = 0
tally slots g (suc n) = some_more (is_some (found_from 0 g slots)) (tally slots (g + 1) n)

is-found : (b c g : ℕ) (xs : List ℕ) → is_some (found_from b g xs) ≡ is_some (found_from c g xs)
is-found b c g [] = refl
is-found b c g (x ∷ xs) = by (is-found (b + 1) (c + 1) g xs) (x == g)
  where
    by : is_some (found_from (b + 1) g xs) ≡ is_some (found_from (c + 1) g xs) → (t : Bool) → is_some
        (if t then Some b else found_from (b + 1) g xs) ≡ is_some (if t then Some c else found_from (c + 1) g xs)
    by rest true = refl
    by rest false = rest

abbrev Apart : ℕ → List ℕ → Type 0
Apart x xs = (d : ℕ) → d < length xs → slice_index_or xs d 0 ≡ x → ⊥

-- a number apart from the others counts where it is met
module _ (x : ℕ) (xs : List ℕ) (apart : Apart x xs) where
  other-found : (g : ℕ) → (x ≡ g → ⊥) → is_some (found_from 0 g (x ∷ xs)) ≡ is_some (found_from 0 g xs)
  other-found g differs = ap (λ t. is_some (if t then Some 0 else found_from (0 + 1) g xs)) (ne_eqb x g differs) ∙ is-found (0 + 1) 0 g xs

  tally-without : (n g : ℕ) → x < g → tally (x ∷ xs) g n ≡ tally xs g n
  tally-without zero g lt = refl
  tally-without (suc n) g lt =
      ap (λ t. some_more t (tally (x ∷ xs) (g + 1) n)) (other-found g (λ e. omega (arith, e, lt))) ∙ ap
      (some_more (is_some (found_from 0 g xs))) (tally-without n (g + 1) (omega (arith, lt)))

  more-some : (t : Bool) (m : ℕ) → some_more t (m + 1) ≡ some_more t m + 1
  more-some true m = refl
  more-some false m = refl

  tally-with : (n g : ℕ) → g ≤ x → x < g + n → tally (x ∷ xs) g n ≡ tally xs g n + 1
  tally-with zero g le lt = absurd (omega (arith, le, lt))
  tally-with (suc n) g le lt = ⊎_elim (λ same.
      let yes : is_some (found_from 0 g (x ∷ xs)) ≡ true = ap (λ t. is_some (if t then Some 0 else found_from (0 + 1) g xs))
      (eq-eqb x g same) in
      let no : is_some (found_from 0 g xs) ≡ false = ap is_some (found_nowhere xs 0 g (λ d k e. apart d k (e ∙ sym same))) in
      ap (λ t. some_more t (tally (x ∷ xs) (g + 1) n)) yes ∙ ap (λ m. m + 1) (tally-without n (g + 1) (omega (arith, same)))
      ∙ sym (ap (λ t. some_more t (tally xs (g + 1) n) + 1) no))
      (λ differs.
      ap (λ t. some_more t (tally (x ∷ xs) (g + 1) n)) (other-found g differs)
      ∙ ap (some_more (is_some (found_from 0 g xs))) (tally-with n (g + 1) (omega (arith, le, differs)) (omega (arith, lt)))
      ∙ more-some (is_some (found_from 0 g xs)) (tally xs (g + 1) n)) (cases_eq x g)

none-tallied : (n g : ℕ) → tally [] g n ≡ 0
none-tallied zero g = refl
none-tallied (suc n) g = none-tallied n (g + 1)

pub all-tallied : (slots : List ℕ) (n : ℕ) → ((c : ℕ) → c < length slots → slice_index_or slots c 0 < n)
    → ((c d : ℕ) → c < length slots → d < length slots → slice_index_or slots c 0 ≡ slice_index_or slots d 0 → c ≡ d) →
    tally slots 0 n ≡ length slots
all-tallied [] n below once = none-tallied n 0
all-tallied (x ∷ xs) n below once =
    let apart : Apart x xs = λ d lt e. (let z : suc d ≡ 0 = once (suc d) 0 (omega (arith, lt)) (omega arith) e in omega (arith, z)) in
    let first : x < n = below 0 (omega arith) in
    let rest = all-tallied xs n (λ c lt. below (suc c) (omega (arith, lt)))
    (λ c d lt l e. (let z : suc c ≡ suc d = once (suc c) (suc d) (omega (arith, lt)) (omega (arith, l)) e in omega (arith, z))) in
    tally-with x xs apart n 0 (omega arith) (omega (arith, first)) ∙ ap (λ k. k + 1) rest ∙ omega arith

-- ---- sections

module _ (writing : Writing) where
  no-threads : (aborts : List (Bool × Test)) (at : ℕ) → threads_in (condition_sections writing aborts at) ≡ 0
  no-threads [] at = refl
  no-threads (a ∷ aborts) at = no-threads aborts (at + condition_size writing a.1)

  module _ (numbers slots : List ℕ) (first : ℕ → ℕ) (aborts : List (Bool × Test)) (last : ℕ) where
    abbrev behind : List Section
    behind = condition_sections writing aborts last

    abbrev sections_from : List Region → ℕ → List Node → ℕ → List Section
    sections_from routines g nodes at = function_sections writing numbers slots first routines g nodes at behind

    pub threads-tallied : (nodes : List Node) (routines : List Region) (g at : ℕ) → threads_in
        (sections_from routines g nodes at) ≡ tally slots g (length nodes)
    threads-tallied [] routines g at = no-threads aborts last
    threads-tallied (n ∷ nodes) routines g at = by (λ more. threads-tallied nodes more (g + 1) (at + size writing n + 1)) (slot_of slots g)
        (is_among g (used_calls slots (g + 1) nodes))
      where
        by : ((more : List Region) → threads_in (sections_from more (g + 1) nodes (at + size writing n + 1)) ≡ tally slots (g + 1)
            (length nodes)) → (slot : Option ℕ) (called : Bool) →
            threads_in (function_section writing numbers slots first routines slot called n at ∷ sections_from
            (with_routine writing numbers slots first routines slot called n at) (g + 1) nodes (at + size writing n + 1))
            ≡ some_more (is_some slot) (tally slots (g + 1) (length nodes))
        by rest None true = rest (with_routine writing numbers slots first routines None true n at)
        by rest None false = rest routines
        by rest (Some s) called = let e = rest routines in omega (arith, e)

    -- the first section of a slot among these is that of this function at this place
    pub record HasCode (sections : List Section) (c : ℕ) (n : Node) (at : ℕ) : Type 0 where
      pub routines : List Region
      pub is : code_of c sections ≡ thread_code writing numbers routines n (first c) at
      pub listed : IsIn (OfThread c (thread_code writing numbers routines n (first c) at)) sections

    module _ (c : ℕ) (lt : c < length slots) (once : (c d : ℕ) → c < length slots → d < length slots →
        slice_index_or slots c 0 ≡ slice_index_or slots d 0 → c ≡ d) where
      -- its function and the place where that begins, among these functions
      pub has-code : (nodes : List Node) (routines : List Region) (g at i : ℕ) → i < length nodes → slice_index_or slots c 0 ≡ g + i
          → HasCode (sections_from routines g nodes at) c (body_at nodes i) (slice_index_or (entrances_from writing nodes at) i 0)
      has-code [] routines g at i less is = absurd (omega (arith, less))
      has-code (n ∷ nodes) routines g at zero less is =
          let own : slot_of slots g ≡ Some c =
          subst (λ k. slot_of slots k ≡ Some c) (is ∙ (let e : g + 0 ≡ g = omega arith in e))
          (found_there slots 0 c lt (λ d k e. once d c k lt e) ∙ (let z : 0 + c ≡ c = omega arith in ap (λ k. Some k) z)) in
          let called = is_among g (used_calls slots (g + 1) nodes) in
          subst (λ slot. HasCode (function_section writing numbers slots first routines slot called n at ∷ sections_from
          (with_routine writing numbers slots first routines slot called n at) (g + 1) nodes (at + size writing n + 1)) c n at)
          (sym own)
          (record {
            routines = routines;
            is = ap (λ t. if t then thread_code writing numbers routines n (first c) at else code_of c
                (sections_from routines (g + 1) nodes (at + size writing n + 1))) (eq-eqb c c refl);
            listed = inl refl;
          })
      has-code (n ∷ nodes) routines g at (suc i) less is =
          by (λ more. has-code nodes more (g + 1) (at + size writing n + 1) i (omega (arith, less))
          (is ∙ (let e : g + suc i ≡ g + 1 + i = omega arith in e))) (slot_of slots g)
          (is_among g (used_calls slots (g + 1) nodes)) refl
        where
          by : ((more : List Region) → HasCode (sections_from more (g + 1) nodes (at + size writing n + 1)) c (body_at nodes i)
              (slice_index_or (entrances_from writing nodes (at + size writing n + 1)) i 0)) → (slot : Option ℕ) (called : Bool) →
              slot_of slots g ≡ slot →
              HasCode (function_section writing numbers slots first routines slot called n at ∷ sections_from
              (with_routine writing numbers slots first routines slot called n at) (g + 1) nodes (at + size writing n + 1)) c
              (body_at nodes i) (slice_index_or (entrances_from writing nodes (at + size writing n + 1)) i 0)
          by later None true own = let h = later (with_routine writing numbers slots first routines None true n at) in
              record { routines = h.routines; is = h.is; listed = inr h.listed }
          by later None false own = let h = later routines in record { routines = h.routines; is = h.is; listed = inr h.listed }
          by later (Some s) called own =
              let h = later routines in
              let runs = (slot-is slots g s own).1 in
              let differs : s ≡ c → ⊥ = λ e. (let k : g ≡ g + suc i = sym runs ∙ ap (λ k. slice_index_or slots k 0) e ∙ is in omega
              (arith, k)) in
              record {
                routines = h.routines;
                is = ap (λ t. if t then thread_code writing numbers routines n (first s) at else code_of c
                    (sections_from routines (g + 1) nodes (at + size writing n + 1))) (ne_eqb s c differs) ∙ h.is;
                listed = inr h.listed;
              }
