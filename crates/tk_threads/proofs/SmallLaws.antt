-- Where the sums of a code, of sections or of what slots start with are small, so are those of its parts.
use Rattle.std.proofs.Common.{◌≡◌, ℕ, zero, suc, ◌+◌, ◌-◌, ◌<◌, ◌≤◌, List, [], ◌∷◌, map, min, drop, length, nat_le, if◌then◌else◌, Option, Some, None, sym, ap, ◌∙◌, subst, arith}
use mathlib.Core.Path.{ap₂}
use Rattle.std.proofs.lemmas.Bool.Decides.{nat_tests}
use Rattle.std.specs.List.{range_with_len}
use Rattle.mb_isa.specs.declared.Class.TheVariants as class
use Rattle.pt_image.specs.declared.Parts.{Parts}
use Rattle.tk_paths.specs.declared.view.Side.{Side}
use Rattle.tk_paths.specs.declared.view.Side.TheVariants.{ToPause, ToEnd}
use Rattle.tk_paths.specs.Sums.{plus, greater, or_zero, all_ends, most, most_paused, resumed_most}
use Rattle.tk_paths.specs.Acceptance.{more}
use Rattle.tk_paths.specs.Walks.{most_cycles}
use Rattle.tk_paths.specs.declared.trees.Code.{Code as Kept}
use Rattle.tk_paths.specs.declared.Region.TheVariants as kept_region
use Rattle.tk_paths.specs.Codes.{Code}
use Rattle.mb_isa.specs.Costs.{cost_of}
use Rattle.tk_paths.specs.declared.view.View.TheVariants.{On}
use Rattle.tk_paths.specs.Numbers.{Numbers, Handler, level, cost, branched, left, rested, grouped, entered}
use Rattle.tk_paths.specs.Programs.{ended, pair_from, starts_from}
use Rattle.tk_paths.specs.Trees.{codes_from}
use Rattle.tk_paths.specs.Faults.{IsSmall, AllSmall, HasRoom}
use Rattle.tk_paths.specs.Levels.{added, branching}
use Rattle.tk_numbers.proofs.Tests.{branching_small}
use Rattle.tk_paths.proofs.Rooms.{small-left, small-right, small-plain}
use Rattle.tk_threads.specs.Codes.{forking, entered_all}
use Rattle.tk_threads.specs.Rooms.{IsSmallEntry, IsSmallCode, AreSmallStarts}
use Rattle.tk_threads.proofs.EntranceLaws.{entered-all}

-- ---- sums over children

greater-most : (a b : ℕ) → a ≤ (if nat_le a b then b else a)
greater-most a b = grind (arith, nat_tests)

greater-more : (a b : ℕ) → b ≤ (if nat_le a b then b else a)
greater-more a b = grind (arith, nat_tests)

or-left : (a b : Option ℕ) → or_zero a ≤ or_zero (greater a b)
or-left None b = omega arith
or-left (Some x) None = omega arith
or-left (Some x) (Some y) = greater-most x y

or-right : (a b : Option ℕ) → or_zero b ≤ or_zero (greater a b)
or-right None b = omega arith
or-right (Some x) None = omega arith
or-right (Some x) (Some y) = greater-more x y

or-plus : (a b : Option ℕ) → or_zero (plus a b) ≤ or_zero a + or_zero b
or-plus None b = omega arith
or-plus (Some x) None = omega arith
or-plus (Some x) (Some y) = omega arith

both-less : (a b n : ℕ) → a ≤ n → b ≤ n → (if nat_le a b then b else a) ≤ n
both-less a b n f g = grind (arith, nat_tests)

or-both : (a b : Option ℕ) (n : ℕ) → or_zero a ≤ n → or_zero b ≤ n → or_zero (greater a b) ≤ n
or-both None b n f g = g
or-both (Some x) None n f g = f
or-both (Some x) (Some y) n f g = both-less x y n f g

small-zero : (o : Option ℕ) → or_zero o ≤ most_cycles → IsSmall o
small-zero None h = tt
small-zero (Some n) h = h

module _ (f : Side → ℕ → Option ℕ) where
  ends-less : (n c : ℕ) → or_zero (all_ends f c n) ≤ resumed_most f c n
  ends-less zero c = omega arith
  ends-less (suc n) c =
      let a = or-plus (f ToEnd c) (all_ends f (c + 1) n) in
      let b = or-right (f ToPause c) (f ToEnd c) in
      let r = ends-less n (c + 1) in
      omega (arith, a, b, r)

  most-less : (n c : ℕ) → or_zero (most f c n) ≤ resumed_most f c n
  most-less zero c = omega arith
  most-less (suc n) c =
      let a = or-plus (greater (f ToPause c) (f ToEnd c)) (most f (c + 1) n) in
      let r = most-less n (c + 1) in
      omega (arith, a, r)

  paused-less : (n c : ℕ) → or_zero (most_paused f c n) ≤ resumed_most f c n
  paused-less zero c = omega arith
  paused-less (suc n) c =
      let x = plus (f ToPause c) (most f (c + 1) n) in
      let y = plus (f ToEnd c) (most_paused f (c + 1) n) in
      let a = or-plus (f ToPause c) (most f (c + 1) n) in
      let b = or-plus (f ToEnd c) (most_paused f (c + 1) n) in
      let p = or-left (f ToPause c) (f ToEnd c) in
      let e = or-right (f ToPause c) (f ToEnd c) in
      let q = most-less n (c + 1) in
      let r = paused-less n (c + 1) in
      or-both x y (resumed_most f c (suc n)) (omega (arith, a, p, q)) (omega (arith, b, e, r))

  -- the last ones come to no more than all
  last-less : (k n c : ℕ) → k ≤ n → resumed_most f (c + k) (n - k) ≤ resumed_most f c n
  last-less zero n c h =
      let a : c + 0 ≡ c = omega arith in
      let b : n - 0 ≡ n = omega arith in
      let e = ap₂ (resumed_most f) a b in
      omega (arith, e)
  last-less (suc k) zero c h = absurd (omega (arith, h))
  last-less (suc k) (suc n) c h =
      let r = last-less k n (c + 1) (omega (arith, h)) in
      let a : c + suc k ≡ c + 1 + k = omega arith in
      let b : suc n - suc k ≡ n - k = omega arith in
      let e = ap₂ (resumed_most f) a b in
      omega (arith, r, e)

  -- one child and those behind it
  one-less : (low left count : ℕ) → 1 ≤ left → left ≤ count →
      or_zero (greater (f ToPause (low + (left - 1))) (f ToEnd (low + (left - 1)))) + resumed_most f (low + left) (count - left) ≤ resumed_most f low count
  one-less low left count some within =
      let r = last-less (left - 1) count low (omega (arith, within)) in
      let a : count - (left - 1) ≡ suc (count - left) = omega (arith, some, within) in
      let b : low + (left - 1) + 1 ≡ low + left = omega (arith, some) in
      let e = ap (resumed_most f (low + (left - 1))) a in
      let g = ap (λ x. resumed_most f x (count - left)) b in
      omega (arith, r, e, g)

  pub end-small : (low left count : ℕ) (p total : Option ℕ) → 1 ≤ left → left ≤ count → p ≡ f ToEnd (low + (left - 1)) → total ≡ all_ends f (low + left) (count - left) →
      resumed_most f low count ≤ most_cycles → IsSmall (plus p total)
  end-small low left count p total some within is told h =
      let all = one-less low left count some within in
      let a = or-plus (f ToEnd (low + (left - 1))) (all_ends f (low + left) (count - left)) in
      let b = or-right (f ToPause (low + (left - 1))) (f ToEnd (low + (left - 1))) in
      let r = ends-less (count - left) (low + left) in
      subst IsSmall (sym (ap₂ plus is told)) (small-zero (plus (f ToEnd (low + (left - 1))) (all_ends f (low + left) (count - left))) (omega (arith, all, a, b, r, h)))

  pub pause-small : (low left count : ℕ) (p any : Option ℕ) → 1 ≤ left → left ≤ count → p ≡ f ToPause (low + (left - 1)) → any ≡ most f (low + left) (count - left) →
      resumed_most f low count ≤ most_cycles → IsSmall (plus p any)
  pause-small low left count p any some within is told h =
      let all = one-less low left count some within in
      let a = or-plus (f ToPause (low + (left - 1))) (most f (low + left) (count - left)) in
      let b = or-left (f ToPause (low + (left - 1))) (f ToEnd (low + (left - 1))) in
      let r = most-less (count - left) (low + left) in
      subst IsSmall (sym (ap₂ plus is told)) (small-zero (plus (f ToPause (low + (left - 1))) (most f (low + left) (count - left))) (omega (arith, all, a, b, r, h)))

  pub later-small : (low left count : ℕ) (p paused : Option ℕ) → 1 ≤ left → left ≤ count → p ≡ f ToEnd (low + (left - 1)) → paused ≡ most_paused f (low + left) (count - left) →
      resumed_most f low count ≤ most_cycles → IsSmall (plus p paused)
  later-small low left count p paused some within is told h =
      let all = one-less low left count some within in
      let a = or-plus (f ToEnd (low + (left - 1))) (most_paused f (low + left) (count - left)) in
      let b = or-right (f ToPause (low + (left - 1))) (f ToEnd (low + (left - 1))) in
      let r = paused-less (count - left) (low + left) in
      subst IsSmall (sym (ap₂ plus is told)) (small-zero (plus (f ToEnd (low + (left - 1))) (most_paused f (low + left) (count - left))) (omega (arith, all, a, b, r, h)))

  pub both-small : (low left count : ℕ) (p q both any : Option ℕ) → 1 ≤ left → left ≤ count → p ≡ f ToPause (low + (left - 1)) → q ≡ f ToEnd (low + (left - 1)) →
      both ≡ greater p q → any ≡ most f (low + left) (count - left) → resumed_most f low count ≤ most_cycles → IsSmall (plus both any)
  both-small low left count p q both any some within pause end is told h =
      let all = one-less low left count some within in
      let g = greater (f ToPause (low + (left - 1))) (f ToEnd (low + (left - 1))) in
      let a = or-plus g (most f (low + left) (count - left)) in
      let r = most-less (count - left) (low + left) in
      subst IsSmall (sym (ap₂ plus (is ∙ ap₂ greater pause end) told)) (small-zero (plus g (most f (low + left) (count - left))) (omega (arith, all, a, r, h)))

  -- one child more in front
  pub most-step : (low left count : ℕ) (p q both any more : Option ℕ) → 1 ≤ left → left ≤ count → p ≡ f ToPause (low + (left - 1)) → q ≡ f ToEnd (low + (left - 1)) →
      both ≡ greater p q → any ≡ most f (low + left) (count - left) → more ≡ plus both any → more ≡ most f (low + (left - 1)) (count - (left - 1))
  most-step low left count p q both any more some within pause end is told m =
      let a : count - (left - 1) ≡ suc (count - left) = omega (arith, some, within) in
      let b : low + (left - 1) + 1 ≡ low + left = omega (arith, some) in
      m ∙ ap₂ plus (is ∙ ap₂ greater pause end) (told ∙ ap (λ x. most f x (count - left)) (sym b)) ∙ sym (ap (most f (low + (left - 1))) a)

  pub paused-step : (low left count : ℕ) (p q any paused here later now : Option ℕ) → 1 ≤ left → left ≤ count → p ≡ f ToPause (low + (left - 1)) → q ≡ f ToEnd (low + (left - 1)) →
      any ≡ most f (low + left) (count - left) → paused ≡ most_paused f (low + left) (count - left) → here ≡ plus p any → later ≡ plus q paused → now ≡ greater here later →
      now ≡ most_paused f (low + (left - 1)) (count - (left - 1))
  paused-step low left count p q any paused here later now some within pause end told rest h l n =
      let a : count - (left - 1) ≡ suc (count - left) = omega (arith, some, within) in
      let b : low + (left - 1) + 1 ≡ low + left = omega (arith, some) in
      n ∙ ap₂ greater (h ∙ ap₂ plus pause (told ∙ ap (λ x. most f x (count - left)) (sym b))) (l ∙ ap₂ plus end (rest ∙ ap (λ x. most_paused f x (count - left)) (sym b)))
      ∙ sym (ap (most_paused f (low + (left - 1))) a)

-- ---- codes

module _ (image : Parts) (costs : List ℕ) where
  -- the numbers at a branch
  pub test-branch : (n : ℕ) (V W : Numbers) → HasRoom n (branched image costs V W) → AllSmall (branching costs V W)
  test-branch n V W h = branching_small image costs V W (λ view. small-plain n (branched image costs V W view) (h.before view))

  -- the numbers at a `leave`
  pub left-pause : (aborts : List Handler) (V : Numbers) (k n : ℕ) (p : Option ℕ × Option ℕ) → k < length aborts + 1 → n ≡ cost_of costs class.Leave → p ≡ level V k →
      AllSmall (left image costs aborts V) → IsSmall (plus (Some n) p.0)
  left-pause aborts V k n p within e is h =
      let m : min k (length aborts) ≡ k = omega (arith, within) in
      let S : Option ℕ × Option ℕ → Type 0 = λ q. IsSmall (plus (Some n) q.0) in
      let T : ℕ → Type 0 = λ c. IsSmall (plus (Some c) (V (On ToPause k))) in
      let U : ℕ → Type 0 = λ i. IsSmall (plus (Some (cost_of costs class.Leave)) (V (On ToPause i))) in
      subst S (sym is) (subst T (sym e) (subst U m (h (On ToPause k))))

  pub left-end : (aborts : List Handler) (V : Numbers) (k n : ℕ) (p : Option ℕ × Option ℕ) → k < length aborts + 1 → n ≡ cost_of costs class.Leave → p ≡ level V k →
      AllSmall (left image costs aborts V) → IsSmall (plus (Some n) p.1)
  left-end aborts V k n p within e is h =
      let m : min k (length aborts) ≡ k = omega (arith, within) in
      let S : Option ℕ × Option ℕ → Type 0 = λ q. IsSmall (plus (Some n) q.1) in
      let T : ℕ → Type 0 = λ c. IsSmall (plus (Some c) (V (On ToEnd k))) in
      let U : ℕ → Type 0 = λ i. IsSmall (plus (Some (cost_of costs class.Leave)) (V (On ToEnd i))) in
      subst S (sym is) (subst T (sym e) (subst U m (h (On ToEnd k))))

module _ (image : Parts) (costs : List ℕ) (starts : Side → ℕ → Option ℕ) where
  pub entry-read : (aborts : List Handler) (c d : Code) (V : Numbers) → c ≡ d → IsSmallEntry image costs starts aborts c V → IsSmallEntry image costs starts aborts d V
  entry-read aborts c d V is h = let P : Code → Type 0 = λ x. IsSmallEntry image costs starts aborts x V in subst P is h

  pub entry-behind : (aborts : List Handler) (c : Code) (V W : Numbers) → W ≡ V → IsSmallEntry image costs starts aborts c V → IsSmallEntry image costs starts aborts c W
  entry-behind aborts c V W is h = let P : Numbers → Type 0 = λ x. IsSmallEntry image costs starts aborts c x in subst P (sym is) h

  pub code-read : (aborts : List Handler) (c d : Code) (V : Numbers) → c ≡ d → IsSmallCode image costs starts aborts c V → IsSmallCode image costs starts aborts d V
  code-read aborts c d V is h = let P : Code → Type 0 = λ x. IsSmallCode image costs starts aborts x V in subst P is h

  pub code-behind : (aborts : List Handler) (c : Code) (V W : Numbers) → W ≡ V → IsSmallCode image costs starts aborts c V → IsSmallCode image costs starts aborts c W
  code-behind aborts c V W is h = let P : Numbers → Type 0 = λ x. IsSmallCode image costs starts aborts c x in subst P (sym is) h

  pub entry-inside : (a b : List Handler) (c : Code) (V W : Numbers) → b ≡ a → W ≡ V → IsSmallEntry image costs starts a c V → IsSmallEntry image costs starts b c W
  entry-inside a b c V W e is h =
      let P : List Handler → Type 0 = λ x. IsSmallEntry image costs starts x c W in
      subst P (sym e) (entry-behind a c V W is h)

  pub code-inside : (a b : List Handler) (c : Code) (V W : Numbers) → b ≡ a → W ≡ V → IsSmallCode image costs starts a c V → IsSmallCode image costs starts b c W
  code-inside a b c V W e is h =
      let P : List Handler → Type 0 = λ x. IsSmallCode image costs starts x c W in
      subst P (sym e) (code-behind a c V W is h)

  -- numbers that are these
  pub numbers-small : (V W : Numbers) → W ≡ V → AllSmall V → AllSmall W
  numbers-small V W is h = subst AllSmall (sym is) h

  -- a test between numbers that are these
  pub test-room : (n : ℕ) (X Y A B : Numbers) → A ≡ X → B ≡ Y → HasRoom n (branched image costs X Y) → HasRoom n (branched image costs A B)
  test-room n X Y A B a b h =
      let P : Numbers → Type 0 = λ x. HasRoom n x in
      subst P (sym (ap₂ (branched image costs) a b)) h

  -- codes one behind the other: from one on
  entry-from : (aborts : List Handler) (f : Kept → Code) (q : ℕ) (parts : List Kept) (i : ℕ) (V : Numbers) →
      IsSmallEntry image costs starts aborts (codes_from q (map f parts)) V → IsSmallEntry image costs starts aborts (codes_from q (map f (drop i parts))) V
  entry-from aborts f q parts zero V h = h
  entry-from aborts f q [] (suc i) V h = h
  entry-from aborts f q (x ∷ parts) (suc i) V h = entry-from aborts f q parts i V h.0

  code-from : (aborts : List Handler) (f : Kept → Code) (q : ℕ) (parts : List Kept) (i : ℕ) (V : Numbers) →
      IsSmallCode image costs starts aborts (codes_from q (map f parts)) V → IsSmallCode image costs starts aborts (codes_from q (map f (drop i parts))) V
  code-from aborts f q parts zero V h = h
  code-from aborts f q [] (suc i) V h = h
  code-from aborts f q (x ∷ parts) (suc i) V h = code-from aborts f q parts i V h.0

  pub entry-part : (aborts : List Handler) (f : Kept → Code) (q : ℕ) (parts : List Kept) (i : ℕ) (x : Kept) (V W : Numbers) →
      drop (i - 1) parts ≡ x ∷ drop i parts → W ≡ entered_all image costs starts aborts (map f (drop i parts)) V →
      IsSmallEntry image costs starts aborts (codes_from q (map f parts)) V → IsSmallEntry image costs starts aborts (f x) W
  entry-part aborts f q parts i x V W front is h =
      let all = entry-from aborts f q parts (i - 1) V h in
      let P : List Kept → Type 0 = λ l. IsSmallEntry image costs starts aborts (codes_from q (map f l)) V in
      let one = subst P front all in
      entry-behind aborts (f x) (entered image costs starts aborts (codes_from q (map f (drop i parts))) V) W
      (is ∙ sym (entered-all image costs starts aborts q (map f (drop i parts)) V)) one.1

  pub code-part : (aborts : List Handler) (f : Kept → Code) (q : ℕ) (parts : List Kept) (i : ℕ) (x : Kept) (V W : Numbers) →
      drop (i - 1) parts ≡ x ∷ drop i parts → W ≡ entered_all image costs starts aborts (map f (drop i parts)) V →
      IsSmallCode image costs starts aborts (codes_from q (map f parts)) V → IsSmallCode image costs starts aborts (f x) W
  code-part aborts f q parts i x V W front is h =
      let all = code-from aborts f q parts (i - 1) V h in
      let P : List Kept → Type 0 = λ l. IsSmallCode image costs starts aborts (codes_from q (map f l)) V in
      let one = subst P front all in
      code-behind aborts (f x) (entered image costs starts aborts (codes_from q (map f (drop i parts))) V) W
      (is ∙ sym (entered-all image costs starts aborts q (map f (drop i parts)) V)) one.1

  -- what a fork is made of
  pub fork-small : (aborts : List Handler) (lo n : ℕ) (V : Numbers) → AllSmall (forking image costs starts aborts lo n V) →
      AllSmall (added (most_paused starts lo n) (rested image costs aborts)) × AllSmall (added (all_ends starts lo n) V)
  unfolding forking added
  fork-small aborts lo n V h =
      let both : AllSmall (grouped image costs starts aborts lo n V) = λ view. small-plain (cost image costs class.Fork) (grouped image costs starts aborts lo n V view) (h view) in (
        λ view. small-left (plus (most_paused starts lo n) (rested image costs aborts view)) (plus (all_ends starts lo n) (V view)) (both view),
        λ view. small-right (plus (most_paused starts lo n) (rested image costs aborts view)) (plus (all_ends starts lo n) (V view)) (both view),
      )

-- ---- what slots start with, from one slot on

starts-later : (image : Parts) (costs : List ℕ) (code : ℕ → Code) (s n : ℕ) → AreSmallStarts image costs s (map code (range_with_len s (suc n))) →
    AreSmallStarts image costs (s + 1) (map code (range_with_len (s + 1) n))
unfolding AreSmallStarts
starts-later image costs code s n h = h.0

starts-first : (image : Parts) (costs : List ℕ) (code : ℕ → Code) (s n : ℕ) → AreSmallStarts image costs s (map code (range_with_len s (suc n))) →
    IsSmallEntry image costs (pair_from (s + 1) (starts_from image costs (s + 1) (map code (range_with_len (s + 1) n)))) [] (code s) (ended image costs)
unfolding AreSmallStarts
starts-first image costs code s n h = h.1

starts-on : (image : Parts) (costs : List ℕ) (code : ℕ → Code) (t s : ℕ) → s ≤ t → AreSmallStarts image costs 0 (map code (range_with_len 0 t)) →
    AreSmallStarts image costs s (map code (range_with_len s (t - s)))
starts-on image costs code t zero h all =
    let e : t ≡ t - 0 = omega arith in
    let P : ℕ → Type 0 = λ n. AreSmallStarts image costs 0 (map code (range_with_len 0 n)) in
    subst P e all
starts-on image costs code t (suc s) h all =
    let r = starts-on image costs code t s (omega (arith, h)) all in
    let e : t - s ≡ suc (t - suc s) = omega (arith, h) in
    let P : ℕ → Type 0 = λ n. AreSmallStarts image costs s (map code (range_with_len s n)) in
    let a : s + 1 ≡ suc s = omega arith in
    let Q : ℕ → Type 0 = λ k. AreSmallStarts image costs k (map code (range_with_len k (t - suc s))) in
    subst Q a (starts-later image costs code s (t - suc s) (subst P e r))

pub slot-here : (image : Parts) (costs : List ℕ) (code : ℕ → Code) (t slot : ℕ) (later seen : List (Option ℕ × Option ℕ)) → 1 ≤ slot → slot ≤ t →
    later ≡ starts_from image costs slot (map code (range_with_len slot (t - slot))) → seen ≡ later →
    AreSmallStarts image costs 0 (map code (range_with_len 0 t)) →
    IsSmallEntry image costs (pair_from ((slot - 1) + 1) seen) [] (code (slot - 1)) (ended image costs)
slot-here image costs code t slot later seen low high told same all =
    let r = starts-on image costs code t (slot - 1) (omega (arith, high)) all in
    let e : t - (slot - 1) ≡ suc (t - slot) = omega (arith, low, high) in
    let a : slot ≡ (slot - 1) + 1 = omega (arith, low) in
    let P : ℕ → Type 0 = λ n. AreSmallStarts image costs (slot - 1) (map code (range_with_len (slot - 1) n)) in
    let Q : List (Option ℕ × Option ℕ) → Type 0 = λ l. IsSmallEntry image costs (pair_from ((slot - 1) + 1) l) [] (code (slot - 1)) (ended image costs) in
    subst Q (sym (same ∙ told ∙ ap (λ s. starts_from image costs s (map code (range_with_len s (t - slot)))) a))
    (starts-first image costs code (slot - 1) (t - slot) (subst P e r))
