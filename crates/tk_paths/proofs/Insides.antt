-- Sums of a region's numbers, kinds inside loops, and how many lines a region has.
use Rattle.std.proofs.Common.{◌≡◌, ◌≤◌, ◌<◌, ◌+◌, ◌-◌, ◌*◌, ◌++◌, ◌==◌, max, ℕ, suc, nat_le, Bool, true, false, if◌then◌else◌, List, [], ◌∷◌, length, Option, Some, None, refl, ap, ◌∙◌, leb-true, arith}
use Rattle.std.proofs.lemmas.Bool.Decides.{nat_tests}
use Rattle.std.proofs.lemmas.Option.{none-some, same_Some}
use Rattle.mb_isa.specs.declared.Class.TheVariants as class
use Rattle.mb_isa.specs.Costs.{cost_of}
use Rattle.mb_pfu.specs.Calls.{last_from, last_of}
use Rattle.pt_image.specs.declared.Parts.{Parts}
use Rattle.tk_paths.specs.declared.view.View.{View}
use Rattle.tk_paths.specs.declared.view.View.TheVariants.{On, Value}
use Rattle.tk_paths.specs.Sums.{greater, lowered}
use Rattle.tk_paths.specs.Shape.{may_loop}
use Rattle.tk_paths.specs.Acceptance.{more}
use Rattle.tk_paths.specs.Regions.{Region, Words, Then, Choice, Counted, Repeated, Calling, from, to, links_in, counters_in, word_place, behind, IsLaid}
use Rattle.tk_paths.specs.Numbers.{Kind, thread, routine, condition, inside, Numbers, just, after, next_number, unit_lines, units_lines, branched, jumping, jump_lines, testing, test_lines, passing, tested_weight, plain_weight, at_next, at_test, region_lines}
use Rattle.tk_paths.specs.Numbers as numbers
use Rattle.tk_paths.proofs.Covered.{Covers}
use Rattle.tk_paths.proofs.Lines.{Fits, IsFull, There, kind_loops, with_loops}
use Rattle.tk_paths.proofs.PlaceLaws.{lt-test}
use Rattle.tk_paths.proofs.UnitLaws.{IsCode, unit-size, size-join, units-size, test-size}

-- ---- sums

pub choice-sum : (T u x J t y : ℕ) (o : Option ℕ) → more T (greater (more u (more x (more J o))) (more t (more y o))) ≡ more (T + max (u + (x + J)) (t + y)) o
choice-sum T u x J t y None = refl
choice-sum T u x J t y (Some n) = by (nat_le (u + (x + (J + n))) (t + (y + n))) refl
  where
    by : (b : Bool) → nat_le (u + (x + (J + n))) (t + (y + n)) ≡ b → Some (T + (if b then t + (y + n) else u + (x + (J + n)))) ≡ Some (T + max (u + (x + J)) (t + y) + n)
    by true e = let l : u + (x + (J + n)) ≤ t + (y + n) = leb-true (u + (x + (J + n))) (t + (y + n)) e in let s : T + (t + (y + n)) ≡ T + max (u + (x + J)) (t + y) + n = omega (arith, l) in ap Some s
    by false e = let l : t + (y + n) < u + (x + (J + n)) = grind (arith, nat_tests, e) in let s : T + (u + (x + (J + n))) ≡ T + max (u + (x + J)) (t + y) + n = omega (arith, l) in ap Some s

pub counted-sum : (x L N out w m : ℕ) (o : Option ℕ) → more x (more (L + suc m * w) (next_number N out w o)) ≡ more ((x + L) + max (suc m * w + N) (m * w + out)) o
counted-sum x L N out w m None = refl
counted-sum x L N out w m (Some c) = let e : suc m * w ≡ m * w + w = omega arith in ap Some (omega (arith, e))

pub repeated-sum : (x L N w m : ℕ) (o : Option ℕ) → more x (more (L + suc m * w) (more N o)) ≡ more ((x + L) + (suc m * w + N)) o
repeated-sum x L N w m None = refl
repeated-sum x L N w m (Some c) = let e : x + (L + suc m * w + (N + c)) ≡ (x + L) + (suc m * w + N) + c = omega arith in ap Some e

-- at a `next`: what a whole turn comes to, its weight taken off
pub turn-covers : (N T U A D b J : ℕ) (o : Option ℕ) →
    Covers (next_number N (N + ((T + A) + D)) (N + ((T + U) + (b + J))) o)
    (lowered (N + ((T + U) + (b + J))) (more N (more T (greater (more U (more b (more J (next_number N (N + ((T + A) + D)) (N + ((T + U) + (b + J))) o)))) (more A (more D o))))))
turn-covers N T U A D b J None n e = absurd (none-some n e)
turn-covers N T U A D b J (Some c) n e = by (nat_le X Y) refl e
  where
    w : ℕ
    w = N + ((T + U) + (b + J))

    m : ℕ
    m = max (N + c) ((N + ((T + A) + D)) + c - w)

    X : ℕ
    X = U + (b + (J + m))

    Y : ℕ
    Y = A + (D + c)

    by : (t : Bool) → nat_le X Y ≡ t → Some ((N + (T + (if t then Y else X))) - w) ≡ Some n → (k : ℕ) × (Some m ≡ Some k) × (n ≤ k)
    by true l e = let s : (N + (T + Y)) - w ≡ n = same_Some ((N + (T + Y)) - w) n e in (m, refl, omega (arith, s))
    by false l e = let s : (N + (T + X)) - w ≡ n = same_Some ((N + (T + X)) - w) n e in (m, refl, omega (arith, s))

pub out-covers : (N out w : ℕ) (o : Option ℕ) → Covers (next_number N out w o) (more N o)
out-covers N out w None n e = absurd (none-some n e)
out-covers N out w (Some c) n e = let s : N + c ≡ n = same_Some (N + c) n e in (max (N + c) ((out + c) - w), refl, omega (arith, s))

pub round-covers : (N b J : ℕ) (o : Option ℕ) → Covers (more N o) (lowered (N + (b + J)) (more N (more b (more J (more N o)))))
round-covers N b J None n e = absurd (none-some n e)
round-covers N b J (Some c) n e = let s : (N + (b + (J + (N + c)))) - (N + (b + J)) ≡ n = same_Some ((N + (b + (J + (N + c)))) - (N + (b + J))) n e in (N + c, refl, omega (arith, s))

pub next-there : (N out w : ℕ) (o : Option ℕ) → There o → There (next_number N out w o)
next-there N out w None t = absurd (none-some t.0 t.1)
next-there N out w (Some n) t = (max (N + n) ((out + n) - w), refl)

-- ---- kinds inside a loop

pub last-added : (before : List ℕ) (x : ℕ) → last_of (before ++ x ∷ []) ≡ Some (before, x)
last-added [] x = refl
last-added (y ∷ before) x = ap (λ o. Some (last_from y o)) (last-added before x)

pub code-inside : (a : ℕ) (kind : Kind) → IsCode kind → IsCode (inside a kind)
code-inside a (thread s b l) c = tt
code-inside a (routine h l) c = tt
code-inside a condition c = absurd c

pub loops-inside : (a : ℕ) (kind : Kind) → IsCode kind → kind_loops (inside a kind) ≡ kind_loops kind ++ a ∷ []
loops-inside a (thread s b l) c = refl
loops-inside a (routine h l) c = refl
loops-inside a condition c = absurd c

pub inside-is : (a : ℕ) (kind : Kind) → inside a kind ≡ with_loops (kind_loops kind ++ a ∷ []) kind
inside-is a (thread s b l) = refl
inside-is a (routine h l) = refl
inside-is a condition = refl

pub outside-is : (a : ℕ) (kind : Kind) → kind ≡ with_loops (kind_loops kind) (inside a kind)
outside-is a (thread s b l) = refl
outside-is a (routine h l) = refl
outside-is a condition = refl

pub fits-inside : (a : ℕ) (kind : Kind) (view : View) → Fits view (inside a kind) → Fits view kind
fits-inside a (thread s b l) (On side k) f = f
fits-inside a (thread s b l) Value f = f
fits-inside a (routine h l) (On side k) f = f
fits-inside a (routine h l) Value f = f
fits-inside a condition (On side k) f = f
fits-inside a condition Value f = f

pub full-inside : (a : ℕ) (kind : Kind) (V : Numbers) → IsFull kind V → IsFull (inside a kind) V
full-inside a (thread s b l) V f = f
full-inside a (routine h l) V f = f
full-inside a condition V f = f

pub length-last : (l : List ℕ) (x : ℕ) → length (l ++ x ∷ []) ≡ length l + 1
length-last [] x = refl
length-last (y ∷ l) x = let e = length-last l x in omega (arith, e)

pub not-empty : (l : List ℕ) (x : ℕ) → (length (l ++ x ∷ []) == 0) ≡ false
not-empty l x = let e = length-last l x in grind (arith, nat_tests, e)

-- the unit has room for a region's links and counters; a routine calls lower ones
abbrev pub HasRoom : Kind → Region → Type 0
HasRoom (thread s a l) r = (links_in r ≤ 16) × (counters_in r ≤ 136)
HasRoom (routine h l) r = links_in r < h
HasRoom condition r = Unit {0}

pub room-less : (kind : Kind) (x r : Region) → links_in x ≤ links_in r → counters_in x ≤ counters_in r → HasRoom kind r → HasRoom kind x
room-less (thread s a l) x r e f h = (let p = h.0 in omega (arith, e, p), let q = h.1 in omega (arith, f, q))
room-less (routine g l) x r e f h = omega (arith, e, h)
room-less condition x r e f h = tt

pub room-inside : (a : ℕ) (kind : Kind) (r : Region) → HasRoom kind r → HasRoom (inside a kind) r
room-inside a (thread s b l) r h = h
room-inside a (routine g l) r h = h
room-inside a condition r h = h

pub may-loop : (kind : Kind) (V : Numbers) → IsCode kind → length (kind_loops kind) < 8 → may_loop (numbers.line kind V) ≡ true
may-loop (thread s a l) V c h = lt-test (length l) 8 h
may-loop (routine g l) V c h = lt-test (length l) 8 h
may-loop condition V c h = absurd c

-- ---- sizes

pub size-from : {X : Type 0} (p q m : ℕ) (xs : List X) → p ≡ q → q + length xs ≡ m → p + length xs ≡ m
size-from p q m xs e f = omega (arith, e, f)

pub size-one : {X : Type 0} (p : ℕ) (x : X) (m : ℕ) (xs : List X) → p + 1 + length xs ≡ m → p + length (x ∷ xs) ≡ m
size-one p x m xs e = omega (arith, e)

module _ (image : Parts) (costs : List ℕ) where
  pub region-size : (kind : Kind) (r : Region) (V : Numbers) → IsLaid image r → from r + length (region_lines image costs kind r V) ≡ to r
  region-size kind (Words p n q) V l = units-size image costs kind n p q V l
  region-size kind (Then x y) V l =
      size-join (from x) (to x) (to y) (region_lines image costs kind x (passing image costs y V)) (region_lines image costs kind y V) (region-size kind x (passing image costs y V) l.0)
      (size-from (to x) (from y) (to y) (region_lines image costs kind y V) l.2 (region-size kind y V l.1))
  region-size kind (Choice p n at x y) V l =
      let J = jumping image costs (to x) V in
      let B = branched image costs (passing image costs x J) (passing image costs y V) in
      let t = test_lines image costs kind p n at B in
      let a = region_lines image costs kind x J in
      let j = jump_lines image costs kind (to x) V in
      size-join p (from y) (to y) (t ++ a ++ j) (region_lines image costs kind y V)
      (size-join p (to x) (from y) (t ++ a) j (size-join p (behind image at) (to x) t a (test-size image costs kind p n at B l.0) (size-from (behind image at) (from x) (to x) a l.2 (region-size kind x J l.3)))
      (unit-size image costs kind (to x) (after (cost_of costs class.Jump) V) ∙ l.5))
      (region-size kind y V l.6)
  region-size kind (Counted p m n at body q) V l =
      let a = word_place image p in
      let inner = inside a kind in
      let N = at_next image costs p n at body V in
      let B = at_test image costs p n at body V in
      let J = jumping image costs (to body) N in
      let h = behind image p in
      let o = unit_lines image costs kind p (after (cost_of costs class.Loop + suc m * tested_weight image costs p n at body) N) in
      let t = test_lines image costs inner (h + 1) n at B in
      let b = region_lines image costs inner body J in
      let j = jump_lines image costs inner (to body) N in
      let d = numbers.line inner (after (cost_of costs class.Drop) V) ∷ [] in
      size-join p q (q + 1) (o ++ numbers.line inner N ∷ t ++ b ++ j) d
      (size-join p (to body) q (o ++ numbers.line inner N ∷ t ++ b) j
      (size-join p (behind image at) (to body) (o ++ numbers.line inner N ∷ t) b
      (size-join p h (behind image at) o (numbers.line inner N ∷ t) (unit-size image costs kind p (after (cost_of costs class.Loop + suc m * tested_weight image costs p n at body) N))
      (size-one h (numbers.line inner N) (behind image at) t (test-size image costs inner (h + 1) n at B l.2)))
      (size-from (behind image at) (from body) (to body) b l.4 (region-size inner body J l.5)))
      (unit-size image costs inner (to body) (after (cost_of costs class.Jump) N) ∙ l.7))
      (omega arith)
  region-size kind (Repeated p m body q) V l =
      let a = word_place image p in
      let inner = inside a kind in
      let N = after (cost_of costs class.Next) V in
      let J = jumping image costs (to body) N in
      let h = behind image p in
      let o = unit_lines image costs kind p (after (cost_of costs class.Loop + suc m * plain_weight image costs body) N) in
      let b = region_lines image costs inner body J in
      let j = jump_lines image costs inner (to body) N in
      size-join p (to body) q (o ++ numbers.line inner N ∷ b) j
      (size-join p h (to body) o (numbers.line inner N ∷ b) (unit-size image costs kind p (after (cost_of costs class.Loop + suc m * plain_weight image costs body) N))
      (size-one h (numbers.line inner N) (to body) b (size-from (h + 1) (from body) (to body) b l.2 (region-size inner body J l.3))))
      (unit-size image costs inner (to body) (after (cost_of costs class.Jump) N) ∙ l.5)
  region-size kind (Calling p callee) V l = omega arith
