-- What slots come to, where each comes to something of its own and to what the slots come to that it starts.
use Rattle.std.proofs.Common.{◌≡◌, ◌≤◌, ◌<◌, ◌+◌, ◌==◌, ℕ, zero, suc, Bool, true, false, if◌then◌else◌, List, [], ◌∷◌, length, append-nil, slice_index_or, refl, sym, ap, ◌∙◌, subst, arith}
use Rattle.std.specs.List.{AllByRecursion}
use Rattle.std.proofs.lemmas.Bool.Decides.{nat_tests}
use Rattle.pc_lower.specs.Flow.{Flow}
use Rattle.pc_lower.specs.Slots.{Runs}
use Rattle.pc_lower.specs.StepCounts.{total_of}
use Rattle.pc_lower.specs.Program.{InOrder}
use Rattle.pc_lower.specs.Limits.{started_by, times_in, times_below, sum_below}
use Rattle.pc_lower.specs.Numbering.{all_started, slots_of, function_of, first_started, HaveSlots}
use Rattle.pc_lower.proofs.Slots.{same-of}
use Rattle.pc_lower.proofs.RegionThreads.{all-append, all-less, below-more, sum-more, one-less, sums}
use Rattle.pc_lower.proofs.Numbering.{starts-below, slots-are, have-slots}
use Rattle.tk_paths.specs.Counts.{total}

-- what stands for a number at its place in a list, counted from a place
abbrev found : (ℕ → ℕ) → ℕ → ℕ → List ℕ → ℕ
found S c g [] = 0
found S c g (x ∷ xs) = if x == g then S c else found S (c + 1) g xs

found-is : (S : ℕ → ℕ) (xs : List ℕ) (c i : ℕ) → i < length xs → ((a b : ℕ) → a < length xs → b < length xs → slice_index_or xs a 0 ≡ slice_index_or xs b 0 → a ≡ b) →
    found S c (slice_index_or xs i 0) xs ≡ S (c + i)
found-is S [] c i h once = absurd (omega (arith, h))
found-is S (x ∷ xs) c zero h once =
    let e : (x == x) ≡ true = grind (arith, nat_tests) in
    let d : c ≡ c + 0 = omega arith in
    ap (λ (b : Bool). if b then S c else found S (c + 1) x xs) e ∙ ap S d
found-is S (x ∷ xs) c (suc i) h once =
    ap (λ (b : Bool). if b then S c else found S (c + 1) g xs) (apart (x == g) refl)
    ∙ (found-is S xs (c + 1) i (omega (arith, h)) (λ a b k l e. let s = once (suc a) (suc b) (omega (arith, k)) (omega (arith, l)) e in omega (arith, s)) ∙ ap S d)
  where
    g : ℕ
    g = slice_index_or xs i 0

    d : c + 1 + i ≡ c + suc i
    d = omega arith

    apart : (b : Bool) → (x == slice_index_or xs i 0) ≡ b → (x == slice_index_or xs i 0) ≡ false
    apart true e =
        let s : slice_index_or xs i 0 ≡ x = same-of x (slice_index_or xs i 0) e in
        let z = once 0 (suc i) (omega (arith, h)) h (sym s) in
        absurd (omega (arith, z))
    apart false e = e

all-there : (P : ℕ → Type 0) (xs : List ℕ) → ((c : ℕ) → c < length xs → P (slice_index_or xs c 0)) → AllByRecursion P xs
all-there P [] h = tt
all-there P (x ∷ xs) h = (h 0 (omega arith), all-there P xs (λ c l. h (suc c) (omega (arith, l))))

all-index : (P : ℕ → Type 0) (xs : List ℕ) (c : ℕ) → c < length xs → AllByRecursion P xs → P (slice_index_or xs c 0)
all-index P [] c h all = absurd (omega (arith, h))
all-index P (x ∷ xs) zero h all = all.0
all-index P (x ∷ xs) (suc c) h all = all-index P xs c (omega (arith, h)) all.1

module _ (f : Flow) (order : InOrder 0 f.bodies) (main : f.main < length f.bodies) (apart : (c d : ℕ) → c < length (slots_of f) → d < length (slots_of f) → function_of f c ≡ function_of f d → c ≡ d)
    (there : (c : ℕ) → c < length (slots_of f) → function_of f c < length f.bodies) where
  abbrev L : ℕ
  L = length (slots_of f)

  abbrev count : ℕ
  count = length f.bodies

  abbrev started : ℕ → List ℕ
  started g = started_by f.bodies g

  early : (g : ℕ) → AllByRecursion (λ k. k < g) (started g)
  early = starts-below f.bodies order

  pub first-main : function_of f 0 ≡ f.main
  first-main = ap (λ xs. slice_index_or xs 0 0) (slots-are f order main)

  pub some-slot : 0 < L
  some-slot = let e = ap length (slots-are f order main) in omega (arith, e)

  -- what a slot starts is in slots of its own, one behind the other
  pub starts-slots : (c : ℕ) → c < L → HaveSlots f c (first_started f c) (started (function_of f c))
  starts-slots c less =
      let e : first_started f c + 0 ≡ first_started f c = omega arith in
      subst (λ n. HaveSlots f c n (started (function_of f c))) e
      (have-slots f order main c less [] (started (function_of f c)) [] (sym (append-nil (started (function_of f c)))))

  -- what each thread has, where all of them come to no more
  pub slot-own : (own : ℕ → ℕ) (most : ℕ) → own f.main + sum_below started own count ≤ most → (c : ℕ) → c < L → own (function_of f c) ≤ most
  slot-own own most le c less = all-index (λ g. own g ≤ most) (slots_of f) c less (subst (AllByRecursion (λ g. own g ≤ most)) (sym (slots-are f order main)) (omega (arith, le), by (slots_of f) (all-there (λ g. g < count) (slots_of f) there)))
    where
      by : (xs : List ℕ) → AllByRecursion (λ g. g < count) xs → AllByRecursion (λ g. own g ≤ most) (all_started f.bodies xs)
      by [] h = tt
      by (x ∷ xs) h =
          let o = one-less started early own x count h.0 in
          all-append (λ g. own g ≤ most) (started x) (all_started f.bodies xs) (all-less own most (started x) (omega (arith, o, le))) (by xs h.1)

  module _ (S : ℕ → ℕ) where
    -- what the slot comes to that runs a function
    abbrev pub worth : ℕ → ℕ
    worth g = found S 0 g (slots_of f)

    worth-is : (c : ℕ) → c < L → worth (function_of f c) ≡ S c
    worth-is c less = let e : 0 + c ≡ c = omega arith in found-is S (slots_of f) 0 c less apart ∙ ap S e

    pub total-runs : (fs : List ℕ) (c : ℕ) → c + length fs ≤ L → Runs (function_of f) c fs → total S c (length fs) ≡ total_of worth fs
    total-runs [] c le run = refl
    total-runs (g ∷ fs) c le run =
        let a : S c ≡ worth g = sym (worth-is c (omega (arith, le))) ∙ ap worth run.0 in
        let b = total-runs fs (c + 1) (omega (arith, le)) run.1 in
        omega (arith, a, b)

    abbrev IsRun : ℕ → Type 0
    IsRun g = (c : ℕ) × (c < L) × (function_of f c ≡ g)

    runs-all : (fs : List ℕ) (c : ℕ) → c + length fs ≤ L → Runs (function_of f) c fs → AllByRecursion IsRun fs
    runs-all [] c le run = tt
    runs-all (g ∷ fs) c le run = ((c, omega (arith, le), run.0), runs-all fs (c + 1) (omega (arith, le)) run.1)

    theirs : (g : ℕ) → IsRun g → AllByRecursion IsRun (started g)
    theirs g h =
        let s = starts-slots h.0 h.1 in
        subst (λ x. AllByRecursion IsRun (started x)) h.2 (runs-all (started (function_of f h.0)) (first_started f h.0) s.within s.run)

    module _ (own : ℕ → ℕ) (shares : (c : ℕ) → c < L → S c ≤ own (function_of f c) + total_of worth (started (function_of f c)))
        (once : (q : ℕ) → times_in q (f.main ∷ []) + times_below started q count ≤ 1) where
      shared : (g : ℕ) → IsRun g → worth g ≤ own g + total_of worth (started g)
      shared g h = subst (λ x. worth x ≤ own x + total_of worth (started x)) h.2 (let s = shares h.0 h.1 in let w = worth-is h.0 h.1 in omega (arith, s, w))

      -- slot 0 comes to no more than all threads have
      pub first-most : S 0 ≤ own f.main + sum_below started own count
      first-most =
          let s = sums started early IsRun theirs own worth shared count (f.main ∷ []) (main, tt) ((0, some-slot, first-main), tt) once in
          let w = worth-is 0 some-slot in
          let e : worth (function_of f 0) ≡ worth f.main = ap worth first-main in
          omega (arith, s, w, e)

      -- nor do those that a slot starts
      pub started-most : (c : ℕ) → c < L → total_of worth (started (function_of f c)) ≤ own f.main + sum_below started own count
      started-most c less =
          let g = function_of f c in
          let low = there c less in
          let few : (q : ℕ) → times_in q (started g) + times_below started q g ≤ 1 = λ q. let a = below-more started early q (suc g) count (omega (arith, low)) in let b = once q in omega (arith, a, b) in
          let s = sums started early IsRun theirs own worth shared g (started g) (early g) (theirs g (c, less, refl)) few in
          let m = sum-more started early own (suc g) count (omega (arith, low)) in
          omega (arith, s, m)

      pub slot-most : (c : ℕ) → c < L → S c ≤ own (function_of f c) + (own f.main + sum_below started own count)
      slot-most c less = let s = started-most c less in let o = shares c less in omega (arith, s, o)
