-- Where the counts of a code are small, so are all sums at its places.
use Rattle.std.proofs.Common.{◌≡◌, ◌≤◌, ◌+◌, ◌-◌, ◌*◌, ◌++◌, max, length-append, ℕ, zero, suc, List, [], ◌∷◌, length, Option, Some, None, refl, arith}
use Rattle.mb_isa.specs.declared.Class.{Class}
use Rattle.mb_isa.specs.Costs.{cost_of}
use Rattle.pt_image.specs.declared.Parts.{Parts}
use Rattle.tk_paths.specs.declared.view.Side.{Side}
use Rattle.tk_paths.specs.Acceptance.{more}
use Rattle.tk_paths.specs.Walks.{most_cycles}
use Rattle.tk_paths.specs.Regions.{Region, behind, extra, units_cost, IsLaid, through}
use Rattle.tk_paths.specs.Codes.{Code, Passed, Sequence, Either, Turns, Forever, Resting, Forking, Guarded, entry, exit, IsLaidIn}
use Rattle.tk_paths.specs.Numbers.{Numbers, Handler, nothing, branched, jumping, left, with_abort, entered}
use Rattle.tk_paths.specs.Counts.{Below, words_most, region_most, way_most}
use Rattle.tk_paths.proofs.Weights.{units-after}
use Rattle.tk_paths.proofs.Ranges.{AreBelow, below-more, below-none, are-wider, behind-after, unit-most, units-most, through-most, jumping-below, branched-below}
use Rattle.tk_paths.proofs.CodeRanges.{seq-begins, either-begins, turns-begins, ever-begins, guard-begins, reaches, in-reach, goes-on, guard-reaches, Handles, abort-handles, left-below, pass, pass-way, begin, entered-below}
use Rattle.tk_paths.proofs.CountLaws.{most-within}
use Rattle.tk_paths.specs.Faults.{IsSmall, AllSmall, HasRoom}
use Rattle.tk_threads.specs.Rooms.{IsSmallEntry, IsSmallCode}
use Rattle.tk_plans.specs.Small.{HasSmallWays}

pub small-below : (b : ℕ) (o : Option ℕ) → b ≤ most_cycles → Below b o → IsSmall o
small-below b None h f = tt
small-below b (Some n) h f = let x = f n refl in omega (arith, x, h)

pub all-below : (b : ℕ) (V : Numbers) → b ≤ most_cycles → AreBelow b V → AllSmall V
all-below b V h f view = small-below b (V view) h (f view)

-- so many cycles, which are at most a, before numbers that are at most b
pub room-below : (n a b : ℕ) (V : Numbers) → n ≤ a → a + b ≤ most_cycles → AreBelow b V → HasRoom n V
room-below n a b V l h f = record {
  cycles = omega (arith, l, h);
  before = λ view. small-below (a + b) (more n (V view)) h (below-more a b n (V view) (f view) l);
}

pub region-room : (image : Parts) (costs : List ℕ) → ((c : Class) → cost_of costs c ≤ 255) → (r : Region) (b : ℕ) (V : Numbers) → IsLaid image r →
    region_most image r + b ≤ most_cycles → AreBelow b V → HasRoom (through image costs r) V
region-room image costs small r b V l h f = room-below (through image costs r) (region_most image r) b V (through-most image costs small r l) h f

module _ (image : Parts) (costs : List ℕ) (small : (c : Class) → cost_of costs c ≤ 255) (starts : Side → ℕ → Option ℕ) (worth : ℕ → ℕ) (known : (side : Side) (c : ℕ) → Below (worth c) (starts side c)) where
  abbrev way : Code → ℕ
  way code = way_most image worth code

  abbrev passes : Code → ℕ
  passes code = pass image costs small starts worth known code

  abbrev begins : Code → ℕ → ℕ → ℕ
  begins code M H = begin image costs small starts worth known code M H

  abbrev Held : ℕ → List Handler → Type 0
  Held b a = Handles image costs small starts worth known b a

  below : (s : ℕ) (stack : List ℕ) (code : Code) (a : List Handler) (M H : ℕ) (V : Numbers) → IsLaidIn image s stack code → Held H a → AreBelow M V →
      AreBelow (begins code M H) (entered image costs starts a code V)
  below s stack code a M H V l h f = entered-below image costs small starts worth known s stack code a M H V l h f

  less-way : (code : Code) → passes code ≤ way code
  less-way code = pass-way image costs small starts worth known code

  -- where a code begins
  pub entry-small : (s : ℕ) (stack : List ℕ) (code : Code) (a : List Handler) (M H : ℕ) (V : Numbers) → IsLaidIn image s stack code → Held H a → AreBelow M V →
      begins code M H ≤ most_cycles → IsSmallEntry image costs starts a code V
  entry-small s stack (Passed r) a M H V l h f b = region-room image costs small r M V l.0 (omega (arith, b)) f
  entry-small s stack (Sequence x y) a M H V l h f b =
      let m = begins y M H in
      let Y = entered image costs starts a y V in
      let k = seq-begins (passes x) (way x) (passes y) (way y) M H (less-way x) in
      (entry-small s stack y a M H V l.1 h f (omega (arith, b)), entry-small s stack x a m H Y l.0 h (below s stack y a M H V l.1 h f) (omega (arith, b, k)))
  entry-small s stack (Either p n at x y) a M H V l h f b =
      let jw = words_most (exit x) (entry y) in
      let J = jumping image costs (exit x) V in
      let X = entered image costs starts a x J in
      let Y = entered image costs starts a y V in
      let g = l.5 in
      let fJ : AreBelow (jw + M) J = are-wider ((behind image (exit x) - exit x) * 255 + M) (jw + M) J (omega (arith, g)) (jumping-below image costs small (exit x) M V f) in
      let m = max (begins x (jw + M) H) (begins y M H) in
      let fX = are-wider (begins x (jw + M) H) m X (omega arith) (below s stack x a (jw + M) H J l.3 h fJ) in
      let fY = are-wider (begins y M H) m Y (omega arith) (below s stack y a M H V l.6 h f) in
      let u = units-most image costs small n p at l.0 in
      let v = units-after image n p at l.0 in
      let c = unit-most image costs small at 255 (omega arith) in
      let e = l.2 in
      let k = behind-after image costs small at in
      let T = units_cost image costs p n + extra image costs at in
      let t : T + 255 ≤ words_most p (entry x) = omega (arith, u, v, c, e, k) in
      let q = either-begins T (words_most p (entry x)) (passes x) (way x) (passes y) (way y) jw M H t in (
        all-below (jw + M) J (omega (arith, b)) fJ,
        entry-small s stack x a (jw + M) H J l.3 h fJ (omega (arith, b)),
        entry-small s stack y a M H V l.6 h f (omega (arith, b)),
        room-below T T (255 + m) (branched image costs X Y) (omega arith) (omega (arith, q, b)) (branched-below image costs small m (255 + m) X Y fX fY (omega arith)),
      )
  entry-small s stack (Turns p n at body q) a M H V l h f b =
      let X = entered image costs starts a body nothing in
      let m = max M (begins body 0 H) in
      let fX = are-wider (begins body 0 H) m X (omega arith) (below s stack body a 0 H nothing l.3 h (λ view. below-none 0)) in
      let u = units-most image costs small n p at l.0 in
      let v = units-after image n p at l.0 in
      let c = unit-most image costs small at 255 (omega arith) in
      let e = l.2 in
      let k = behind-after image costs small at in
      let T = units_cost image costs p n + extra image costs at in
      let t : T + 255 ≤ words_most p (entry body) = omega (arith, u, v, c, e, k) in
      let w = turns-begins T (words_most p (entry body)) (passes body) (way body) (words_most (exit body) q) M H t (less-way body) in
      let i = less-way body in (
        entry-small s stack body a 0 H nothing l.3 h (λ view. below-none 0) (omega (arith, b, i)),
        room-below T T (255 + m) (branched image costs X V) (omega arith) (omega (arith, w, b))
            (branched-below image costs small m (255 + m) X V fX (are-wider M m V (omega arith) f) (omega arith)),
      )
  entry-small s stack (Forever body q) a M H V l h f b =
      let k = ever-begins (passes body) (way body) (words_most (exit body) q) M H (less-way body) in
      entry-small s stack body a 0 H nothing l.0 h (λ view. below-none 0) (omega (arith, b, k))
  entry-small s stack (Resting p) a M H V l h f b =
      all-below (begins (Resting p) M H) (entered image costs starts a (Resting p) V) b (below s stack (Resting p) a M H V l h f)
  entry-small s stack (Forking p lo n) a M H V l h f b =
      let r = most-within starts worth known n lo in (
        omega (arith, r, b),
        all-below (begins (Forking p lo n) M H) (entered image costs starts a (Forking p lo n) V) b (below s stack (Forking p lo n) a M H V l h f),
      )
  entry-small s stack (Guarded p j body) a M H V l h f b =
      let A = with_abort image costs a j V in
      let L = left image costs a V in
      let fL = left-below image costs small starts worth known M a V f in
      let k = guard-begins (passes body) (way body) M H (less-way body) in (
        all-below (255 + M) L (omega (arith, b)) fL,
        entry-small s (stack ++ j ∷ []) body A (255 + M) (max H M) L l.4 (abort-handles image costs small starts worth known H M j a V h f) fL (omega (arith, b, k)),
        all-below (begins (Guarded p j body) M H) (entered image costs starts a (Guarded p j body) V) b (below s stack (Guarded p j body) a M H V l h f),
      )

  begins-reach : (g : ℕ) (code : Code) (M H : ℕ) → begins code M H ≤ reaches g (way code) M H
  begins-reach g code M H = let k = less-way code in in-reach g (way code) (passes code) (way code) M H (begins code M H) (omega arith) k (omega arith)

  -- at all of its places, inside so many aborts that g more are in reach
  pub code-small : (s g : ℕ) (stack : List ℕ) (code : Code) (a : List Handler) (M H : ℕ) (V : Numbers) → 8 ≤ length stack + g → IsLaidIn image s stack code →
      Held H a → AreBelow M V → reaches g (way code) M H ≤ most_cycles → IsSmallCode image costs starts a code V
  code-small s g stack (Passed r) a M H V room l h f b =
      let k = begins-reach g (Passed r) M H in
      entry-small s stack (Passed r) a M H V l h f (omega (arith, b, k))
  code-small s g stack (Sequence x y) a M H V room l h f b =
      let w = way x + way y in
      let m = begins y M H in
      let Y = entered image costs starts a y V in
      let k = less-way y in
      let near = goes-on g (way x) w (passes y) (way y) M m H (omega arith) (omega (arith, k)) (omega arith) (omega arith) in
      let far = goes-on g (way y) w 0 0 M M H (omega arith) (omega arith) (omega arith) (omega arith) in (
        code-small s g stack y a M H V room l.1 h f (omega (arith, b, far)),
        code-small s g stack x a m H Y room l.0 h (below s stack y a M H V l.1 h f) (omega (arith, b, near)),
      )
  code-small s g stack (Either p n at x y) a M H V room l h f b =
      let w = way (Either p n at x y) in
      let jw = words_most (exit x) (entry y) in
      let J = jumping image costs (exit x) V in
      let i = l.5 in
      let fJ : AreBelow (jw + M) J = are-wider ((behind image (exit x) - exit x) * 255 + M) (jw + M) J (omega (arith, i)) (jumping-below image costs small (exit x) M V f) in
      let k = begins-reach g (Either p n at x y) M H in
      let e = entry-small s stack (Either p n at x y) a M H V l h f (omega (arith, b, k)) in
      let near = goes-on g (way x) w jw 0 M (jw + M) H (omega arith) (omega arith) (omega arith) (omega arith) in
      let far = goes-on g (way y) w 0 0 M M H (omega arith) (omega arith) (omega arith) (omega arith) in (
        e.0,
        code-small s g stack x a (jw + M) H J room l.3 h fJ (omega (arith, b, near)),
        code-small s g stack y a M H V room l.6 h f (omega (arith, b, far)),
        e.3,
      )
  code-small s g stack (Turns p n at body q) a M H V room l h f b =
      let wt = words_most p (entry body) in
      let jw = words_most (exit body) q in
      let w = wt + way body + jw in
      let all = entered image costs starts a (Turns p n at body q) V in
      let fall = below s stack (Turns p n at body q) a M H V l h f in
      let mA = begins (Turns p n at body q) M H in
      let J = jumping image costs (exit body) all in
      let i = l.5 in
      let fJ : AreBelow (jw + mA) J = are-wider ((behind image (exit body) - exit body) * 255 + mA) (jw + mA) J (omega (arith, i)) (jumping-below image costs small (exit body) mA all fall) in
      let k = begins-reach g (Turns p n at body q) M H in
      let jump = in-reach g w (jw + wt) (jw + w) M H (jw + mA) (omega arith) (omega arith) (omega arith) in
      let again = goes-on g (way body) w (jw + wt) (jw + w) M (jw + mA) H (omega arith) (omega arith) (omega arith) (omega arith) in (
        entry-small s stack (Turns p n at body q) a M H V l h f (omega (arith, b, k)),
        all-below (jw + mA) J (omega (arith, b, jump)) fJ,
        code-small s g stack body a (jw + mA) H J room l.3 h fJ (omega (arith, b, again)),
      )
  code-small s g stack (Forever body q) a M H V room l h f b =
      let jw = words_most (exit body) q in
      let w = way body + jw in
      let all = entered image costs starts a body nothing in
      let mA = begins body 0 H in
      let fall = below s stack body a 0 H nothing l.0 h (λ view. below-none 0) in
      let J = jumping image costs (exit body) all in
      let i = l.2 in
      let pb = less-way body in
      let fJ : AreBelow (jw + mA) J = are-wider ((behind image (exit body) - exit body) * 255 + mA) (jw + mA) J (omega (arith, i)) (jumping-below image costs small (exit body) mA all fall) in
      let k = begins-reach g (Forever body q) M H in
      let jump = in-reach g w jw (jw + way body) M H (jw + mA) (omega (arith, pb)) (omega arith) (omega arith) in
      let again = goes-on g (way body) w jw (jw + way body) M (jw + mA) H (omega arith) (omega arith) (omega arith) (omega (arith, pb)) in (
        entry-small s stack (Forever body q) a M H V l h f (omega (arith, b, k)),
        all-below (jw + mA) J (omega (arith, b, jump)) fJ,
        code-small s g stack body a (jw + mA) H J room l.0 h fJ (omega (arith, b, again)),
      )
  code-small s g stack (Resting p) a M H V room l h f b =
      let k = begins-reach g (Resting p) M H in
      entry-small s stack (Resting p) a M H V l h f (omega (arith, b, k))
  code-small s g stack (Forking p lo n) a M H V room l h f b =
      let k = begins-reach g (Forking p lo n) M H in
      entry-small s stack (Forking p lo n) a M H V l h f (omega (arith, b, k))
  code-small s zero stack (Guarded p j body) a M H V room l h f b = let few = l.2 in absurd (omega (arith, few, room))
  code-small s (suc g) stack (Guarded p j body) a M H V room l h f b =
      let A = with_abort image costs a j V in
      let L = left image costs a V in
      let fL = left-below image costs small starts worth known M a V f in
      let n : length (stack ++ j ∷ []) ≡ length stack + 1 = length-append stack (j ∷ []) in
      let k = begins-reach (suc g) (Guarded p j body) M H in
      let e = entry-small s stack (Guarded p j body) a M H V l h f (omega (arith, b, k)) in
      let inner = guard-reaches g (way body) M H in (
        e.0,
        code-small s g (stack ++ j ∷ []) body A (255 + M) (max H M) L (omega (arith, n, room)) l.4 (abort-handles image costs small starts worth known H M j a V h f) fL (omega (arith, b, inner)),
        e.2,
      )

-- so the regions of a code in which no slot rests are small
pub code-ways : (image : Parts) (costs : List ℕ) (starts : Side → ℕ → Option ℕ) (a : List Handler) (code : Code) (V : Numbers) →
    IsSmallCode image costs starts a code V → HasSmallWays image costs code
code-ways image costs starts a (Passed r) V h = h.cycles
code-ways image costs starts a (Sequence x y) V h =
    (code-ways image costs starts a x (entered image costs starts a y V) h.1, code-ways image costs starts a y V h.0)
code-ways image costs starts a (Either p n at x y) V h =
    (code-ways image costs starts a x (jumping image costs (exit x) V) h.1, code-ways image costs starts a y V h.2)
code-ways image costs starts a (Turns p n at body q) V h =
    code-ways image costs starts a body (jumping image costs (exit body) (entered image costs starts a (Turns p n at body q) V)) h.2
code-ways image costs starts a (Forever body q) V h =
    code-ways image costs starts a body (jumping image costs (exit body) (entered image costs starts a body nothing)) h.2
code-ways image costs starts a (Resting p) V h = tt
code-ways image costs starts a (Forking p lo n) V h = tt
code-ways image costs starts a (Guarded p j body) V h = code-ways image costs starts (with_abort image costs a j V) body (left image costs a V) h.1
