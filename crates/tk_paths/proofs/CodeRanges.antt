-- The numbers of a thread's code are within what its words come to, and what its forks start.
use Rattle.std.proofs.Common.{◌≡◌, ◌≤◌, ◌+◌, ◌-◌, ◌*◌, ◌++◌, max, min, length-append, ℕ, zero, suc, Bool, true, false, if◌then◌else◌, List, [], ◌∷◌, length, Option, Some, None, refl, arith}
use Rattle.mb_isa.specs.declared.Class.{Class}
use Rattle.mb_isa.specs.declared.Class.TheVariants as class
use Rattle.mb_isa.specs.Costs.{cost_of}
use Rattle.pt_image.specs.declared.Parts.{Parts}
use Rattle.tk_paths.specs.declared.view.Side.{Side}
use Rattle.tk_paths.specs.declared.view.Side.TheVariants.{ToPause, ToEnd}
use Rattle.tk_paths.specs.declared.view.View.TheVariants.{On, Value}
use Rattle.tk_paths.specs.Sums.{plus, greater, all_ends, most, most_paused}
use Rattle.tk_paths.specs.Kinds.{abort_at}
use Rattle.tk_paths.specs.Acceptance.{on_side}
use Rattle.tk_paths.specs.Regions.{behind, extra, units_cost}
use Rattle.tk_paths.specs.Greatest.{stays}
use Rattle.tk_paths.specs.Codes.{Code, Passed, Sequence, Either, Turns, Forever, Resting, Forking, Guarded, entry, exit, IsLaidIn}
use Rattle.tk_paths.specs.Numbers.{Kind, thread, Numbers, level, nothing, Handler, stack_of, after, branched, jumping, jump_lines, testing, test_lines, region_lines, handled, rested, left, with_abort, grouped, entered, code_lines, code_weights}
use Rattle.tk_paths.specs.Numbers as numbers
use Rattle.tk_paths.specs.Counts.{Below, Within, dearest, words_most, total, region_most, way_most, code_most}
use Rattle.tk_paths.proofs.Covered.{greater-left, greater-right, all-append}
use Rattle.tk_paths.proofs.Weights.{units-after}
use Rattle.tk_paths.proofs.Ranges.{AreBelow, below-more, below-greater, below-plus, below-none, below-some, below-wider, are-wider, are-after, AllWithin, line-within, all-wider, join-within, behind-after, unit-most, units-most, jump-within, test-within, branched-below, passing-below, jumping-below, region-within, AreLight, light-wider, light-join, region-light}

-- ---- what numbers come to, where behind a code none is greater than M, and in the handlers of its aborts none than H

pub seq-begins : (px wx py wy M H : ℕ) → px ≤ wx → max (px + max (py + M) (wy + H)) (wx + H) ≤ max (px + py + M) (wx + wy + H)
seq-begins px wx py wy M H h = omega arith

pub either-begins : (T t px wx py wy jw M H : ℕ) → T + 255 ≤ t → T + (255 + max (max (px + (jw + M)) (wx + H)) (max (py + M) (wy + H))) ≤ max (t + max (px + jw) py + M) (t + max (wx + jw) wy + H)
either-begins T t px wx py wy jw M H h = omega arith

pub turns-begins : (T t pb wb jw M H : ℕ) → T + 255 ≤ t → pb ≤ wb → T + (255 + max M (max (pb + 0) (wb + H))) ≤ max (t + M) (t + wb + jw + H)
turns-begins T t pb wb jw M H h k = omega arith

pub ever-begins : (pb wb jw M H : ℕ) → pb ≤ wb → max (pb + 0) (wb + H) ≤ max (0 + M) (wb + jw + H)
ever-begins pb wb jw M H k = omega arith

pub guard-begins : (pb wb M H : ℕ) → pb ≤ wb → 255 + max (pb + (255 + M)) (wb + max H M) ≤ max (wb + 510 + M) (wb + 510 + H)
guard-begins pb wb M H k = omega arith

-- from any place of a code whose words come to w: on to what is behind it, or to a rest in it, where g aborts more may be inside it
pub reaches : ℕ → ℕ → ℕ → ℕ → ℕ
reaches g w M H = max ((g + 1) * w + M) ((g + 2) * w + H)

mul-up : (g v w : ℕ) → v ≤ w → g * v ≤ g * w
mul-up zero v w h = omega arith
mul-up (suc g) v w h =
    let r = mul-up g v w h in
    let x : suc g * v ≡ g * v + v = omega arith in
    let y : suc g * w ≡ g * w + w = omega arith in
    omega (arith, r, x, y, h)

-- what begins a way in it
pub in-reach : (g w e f M H x : ℕ) → x ≤ max (e + M) (f + H) → e ≤ w → f ≤ w + w → x ≤ reaches g w M H
unfolding reaches
in-reach g w e f M H x h k l =
    let a : (g + 1) * w ≡ g * w + w = omega arith in
    let b : (g + 2) * w ≡ g * w + (w + w) = omega arith in
    omega (arith, h, k, l, a, b)

-- from a part of v, behind which a way goes on
pub goes-on : (g v w e f M N H : ℕ) → v ≤ w → v + e ≤ w → v + f ≤ w + w → N ≤ max (e + M) (f + H) → reaches g v N H ≤ reaches g w M H
unfolding reaches
goes-on g v w e f M N H h k l n =
    let m = mul-up g v w h in
    let a : (g + 1) * v ≡ g * v + v = omega arith in
    let b : (g + 2) * v ≡ g * v + (v + v) = omega arith in
    let c : (g + 1) * w ≡ g * w + w = omega arith in
    let d : (g + 2) * w ≡ g * w + (w + w) = omega arith in
    omega (arith, h, k, l, n, m, a, b, c, d)

-- inside an abort, behind which a rest may lead
pub guard-reaches : (g v M H : ℕ) → reaches g v (255 + M) (max H M) ≤ reaches (suc g) (v + 510) M H
unfolding reaches
guard-reaches g v M H =
    let m = mul-up g v (v + 510) (omega arith) in
    let w = v + 510 in
    let a : (g + 1) * v ≡ g * v + v = omega arith in
    let b : (g + 2) * v ≡ g * v + (v + v) = omega arith in
    let c : (suc g + 1) * w ≡ g * w + (w + w) = omega arith in
    let d : (suc g + 2) * w ≡ g * w + (w + w + w) = omega arith in
    omega (arith, m, a, b, c, d)

pub eight-reach : (w : ℕ) → reaches 8 w 255 0 ≤ 10 * w + 255
unfolding reaches
eight-reach w = omega arith

either-first : (u E t px wx py wy jw M H : ℕ) → u + E + 255 ≤ t → px ≤ wx → py ≤ wy →
    u + (E + (255 + max (max (px + (jw + M)) (wx + H)) (max (py + M) (wy + H)))) ≤ max (t + max (wx + jw) wy + M) (t + max (wx + jw) wy + H)
either-first u E t px wx py wy jw M H h k l = omega arith

turns-first : (u E t pb wb jw M H : ℕ) → u + E + 255 ≤ t → pb ≤ wb → u + (E + (255 + max M (max (pb + 0) (wb + H)))) ≤ max (t + wb + jw + M) (t + wb + jw + H)
turns-first u E t pb wb jw M H h k = omega arith

-- sums over children
module _ (f : Side → ℕ → Option ℕ) (worth : ℕ → ℕ) (small : (side : Side) (c : ℕ) → Below (worth c) (f side c)) where
  pub ends-below : (n c : ℕ) → Below (total worth c n) (all_ends f c n)
  ends-below zero c = below-some 0 0 (omega arith)
  ends-below (suc n) c = below-plus (worth c) (total worth (c + 1) n) (f ToEnd c) (all_ends f (c + 1) n) (small ToEnd c) (ends-below n (c + 1))

  most-below : (n c : ℕ) → Below (total worth c n) (most f c n)
  most-below zero c = below-some 0 0 (omega arith)
  most-below (suc n) c =
      below-plus (worth c) (total worth (c + 1) n) (greater (f ToPause c) (f ToEnd c)) (most f (c + 1) n) (below-greater (worth c) (f ToPause c) (f ToEnd c) (small ToPause c) (small ToEnd c)) (most-below n (c + 1))

  pub paused-below : (n c : ℕ) → Below (total worth c n) (most_paused f c n)
  paused-below zero c = below-none 0
  paused-below (suc n) c =
      below-greater (worth c + total worth (c + 1) n) (plus (f ToPause c) (most f (c + 1) n)) (plus (f ToEnd c) (most_paused f (c + 1) n))
      (below-plus (worth c) (total worth (c + 1) n) (f ToPause c) (most f (c + 1) n) (small ToPause c) (most-below n (c + 1)))
      (below-plus (worth c) (total worth (c + 1) n) (f ToEnd c) (most_paused f (c + 1) n) (small ToEnd c) (paused-below n (c + 1)))

module _ (image : Parts) (costs : List ℕ) (small : (c : Class) → cost_of costs c ≤ 255) (starts : Side → ℕ → Option ℕ) (worth : ℕ → ℕ) (known : (side : Side) (c : ℕ) → Below (worth c) (starts side c)) where
  -- the handlers of these aborts
  abbrev pub Handles : ℕ → List Handler → Type 0
  Handles b aborts = (side : Side) (k : ℕ) → Below b (handled image costs side aborts k)

  handles-wider : (a b : ℕ) (aborts : List Handler) → a ≤ b → Handles a aborts → Handles b aborts
  handles-wider a b aborts h f side k = below-wider a b (handled image costs side aborts k) h (f side k)

  side-below : (b : ℕ) (p : Option ℕ × Option ℕ) → Below b p.0 → Below b p.1 → (side : Side) → Below b (on_side side (Some p))
  side-below b p f g ToPause = f
  side-below b p f g ToEnd = g

  handles-with : (b : ℕ) (aborts : List Handler) (h : Handler) → Handles b aborts → ((side : Side) → Below b (on_side side (Some (h.1)))) → Handles b (aborts ++ h ∷ [])
  handles-with b [] h f g side zero = below-none b
  handles-with b [] h f g side (suc k) =
      let w = (abort_at image h.0).weak in
      below-greater b (if w then on_side side (Some (h.1)) else None) None (by w) (below-none b)
    where
      by : (x : Bool) → Below b (if x then on_side side (Some (h.1)) else None)
      by true = g side
      by false = below-none b
  handles-with b (x ∷ aborts) h f g side zero = below-none b
  handles-with b (x ∷ aborts) h f g side (suc k) =
      let w = (abort_at image x.0).weak in
      let one = if w then on_side side (Some (x.1)) else None in
      below-greater b one (handled image costs side (aborts ++ h ∷ []) k) (alone w refl)
      (handles-with b aborts h (λ side i. later side i) g side k)
    where
      -- the greater of two is within it, so each of them is
      first-below : (a c : Option ℕ) → Below b (greater a c) → Below b a
      first-below None c e = below-none b
      first-below (Some m) None e = e
      first-below (Some m) (Some n) e = λ k s.
          let r = greater-left (Some m) (Some n) k s in
          let z = e r.0 r.1 in
          let l = r.2 in
          omega (arith, z, l)

      second-below : (a c : Option ℕ) → Below b (greater a c) → Below b c
      second-below None c e = e
      second-below (Some m) None e = below-none b
      second-below (Some m) (Some n) e = λ k s.
          let r = greater-right (Some m) (Some n) k s in
          let z = e r.0 r.1 in
          let l = r.2 in
          omega (arith, z, l)

      alone : (v : Bool) → (abort_at image x.0).weak ≡ v → Below b (if (abort_at image x.0).weak then on_side side (Some (x.1)) else None)
      alone v e = first-below (if (abort_at image x.0).weak then on_side side (Some (x.1)) else None) (handled image costs side aborts k) (f side (suc k))

      later : (other : Side) (i : ℕ) → Below b (handled image costs other aborts i)
      later other i = second-below (if (abort_at image x.0).weak then on_side other (Some (x.1)) else None) (handled image costs other aborts i) (f other (suc i))

  -- inside one abort more, behind which these numbers come
  pub abort-handles : (H M j : ℕ) (aborts : List Handler) (V : Numbers) → Handles H aborts → AreBelow M V → Handles (max H M) (with_abort image costs aborts j V)
  abort-handles H M j aborts V h f =
      handles-with (max H M) aborts (j, level V (length aborts)) (handles-wider H (max H M) aborts (omega arith) h)
      (λ side. side-below (max H M) (level V (length aborts)) (below-wider M (max H M) (V (On ToPause (length aborts))) (omega arith) (f (On ToPause (length aborts)))) (below-wider M (max H M) (V (On ToEnd (length aborts))) (omega arith) (f (On ToEnd (length aborts)))) side)

  stays-below : (b : ℕ) (side : Side) → Below b (stays side)
  stays-below b ToPause = below-some b 0 (omega arith)
  stays-below b ToEnd = below-none b

  rested-below : (b : ℕ) (aborts : List Handler) → Handles b aborts → AreBelow b (rested image costs aborts)
  rested-below b aborts h (On side k) = below-greater b (stays side) (handled image costs side aborts k) (stays-below b side) (h side k)
  rested-below b aborts h Value = below-none b

  pub left-below : (b : ℕ) (aborts : List Handler) (V : Numbers) → AreBelow b V → AreBelow (255 + b) (left image costs aborts V)
  left-below b aborts V f (On side k) = below-more 255 b (cost_of costs class.Leave) (V (On side (min k (length aborts)))) (f (On side (min k (length aborts)))) (small class.Leave)
  left-below b aborts V f Value = below-none (255 + b)

  -- ---- where a code begins

  -- from its beginning to what is behind it: a loop without a number passes its test alone
  abbrev pub pass : Code → ℕ
  pass (Passed r) = region_most image r
  pass (Sequence x y) = pass x + pass y
  pass (Either p n at x y) = words_most p (entry x) + max (pass x + words_most (exit x) (entry y)) (pass y)
  pass (Turns p n at body q) = words_most p (entry body)
  pass (Forever body q) = 0
  pass (Resting p) = 0
  pass (Forking p lo n) = dearest + total worth lo n
  pass (Guarded p j body) = way_most image worth body + 2 * dearest

  pub pass-way : (code : Code) → pass code ≤ way_most image worth code
  pass-way (Passed r) = omega arith
  pass-way (Sequence x y) = let a = pass-way x in let b = pass-way y in omega (arith, a, b)
  pass-way (Either p n at x y) = let a = pass-way x in let b = pass-way y in omega (arith, a, b)
  pass-way (Turns p n at body q) = omega arith
  pass-way (Forever body q) = omega arith
  pass-way (Resting p) = omega arith
  pass-way (Forking p lo n) = omega arith
  pass-way (Guarded p j body) = omega arith

  -- behind it no number is greater than M, in the handlers none than H
  abbrev pub begin : Code → ℕ → ℕ → ℕ
  begin code M H = max (pass code + M) (way_most image worth code + H)

  pub entered-below : (s : ℕ) (stack : List ℕ) (code : Code) (a : List Handler) (M H : ℕ) (V : Numbers) → IsLaidIn image s stack code → Handles H a → AreBelow M V → AreBelow (begin code M H) (entered image costs starts a code V)
  entered-below s stack (Passed r) a M H V l h f = are-wider (region_most image r + M) (begin (Passed r) M H) (entered image costs starts a (Passed r) V) (omega arith) (passing-below image costs small r M V l.0 f)
  entered-below s stack (Sequence x y) a M H V l h f =
      let m = begin y M H in
      let Y = entered image costs starts a y V in
      are-wider (begin x m H) (begin (Sequence x y) M H) (entered image costs starts a x Y) (seq-begins (pass x) (way_most image worth x) (pass y) (way_most image worth y) M H (pass-way x))
      (entered-below s stack x a m H Y l.0 h (entered-below s stack y a M H V l.1 h f))
  entered-below s stack (Either p n at x y) a M H V l h f =
      let jw = words_most (exit x) (entry y) in
      let J = jumping image costs (exit x) V in
      let X = entered image costs starts a x J in
      let Y = entered image costs starts a y V in
      let g = l.5 in
      let fJ : AreBelow (jw + M) J = are-wider ((behind image (exit x) - exit x) * 255 + M) (jw + M) J (omega (arith, g)) (jumping-below image costs small (exit x) M V f) in
      let m = max (begin x (jw + M) H) (begin y M H) in
      let fX = are-wider (begin x (jw + M) H) m X (omega arith) (entered-below s stack x a (jw + M) H J l.3 h fJ) in
      let fY = are-wider (begin y M H) m Y (omega arith) (entered-below s stack y a M H V l.6 h f) in
      let u = units-most image costs small n p at l.0 in
      let v = units-after image n p at l.0 in
      let c = unit-most image costs small at 255 (omega arith) in
      let e = l.2 in
      let k = behind-after image costs small at in
      let T = units_cost image costs p n + extra image costs at in
      let t : T + 255 ≤ words_most p (entry x) = omega (arith, u, v, c, e, k) in
      are-after T (255 + m) T (begin (Either p n at x y) M H) (branched image costs X Y) (branched-below image costs small m (255 + m) X Y fX fY (omega arith)) (omega arith)
      (either-begins T (words_most p (entry x)) (pass x) (way_most image worth x) (pass y) (way_most image worth y) jw M H t)
  entered-below s stack (Turns p n at body q) a M H V l h f =
      let X = entered image costs starts a body nothing in
      let m = max M (begin body 0 H) in
      let fX = are-wider (begin body 0 H) m X (omega arith) (entered-below s stack body a 0 H nothing l.3 h (λ view. below-none 0)) in
      let u = units-most image costs small n p at l.0 in
      let v = units-after image n p at l.0 in
      let c = unit-most image costs small at 255 (omega arith) in
      let e = l.2 in
      let k = behind-after image costs small at in
      let T = units_cost image costs p n + extra image costs at in
      let t : T + 255 ≤ words_most p (entry body) = omega (arith, u, v, c, e, k) in
      are-after T (255 + m) T (begin (Turns p n at body q) M H) (branched image costs X V) (branched-below image costs small m (255 + m) X V fX (are-wider M m V (omega arith) f) (omega arith)) (omega arith)
      (turns-begins T (words_most p (entry body)) (pass body) (way_most image worth body) (words_most (exit body) q) M H t (pass-way body))
  entered-below s stack (Forever body q) a M H V l h f =
      are-wider (begin body 0 H) (begin (Forever body q) M H) (entered image costs starts a body nothing) (ever-begins (pass body) (way_most image worth body) (words_most (exit body) q) M H (pass-way body))
      (entered-below s stack body a 0 H nothing l.0 h (λ view. below-none 0))
  entered-below s stack (Resting p) a M H V l h f =
      are-after 255 H (cost_of costs class.Eot) (begin (Resting p) M H) (rested image costs a) (rested-below H a h) (small class.Eot) (omega arith)
  entered-below s stack (Forking p lo n) a M H V l h f =
      let T = total worth lo n in
      let m = max M H in
      let h' = handles-wider H m a (omega arith) h in
      are-after 255 (T + m) (cost_of costs class.Fork) (begin (Forking p lo n) M H) (grouped image costs starts a lo n V)
      (λ view.
      below-greater (T + m) (plus (most_paused starts lo n) (rested image costs a view)) (plus (all_ends starts lo n) (V view))
      (below-plus T m (most_paused starts lo n) (rested image costs a view) (paused-below starts worth known n lo) (rested-below m a h' view))
      (below-plus T m (all_ends starts lo n) (V view) (ends-below starts worth known n lo) (below-wider M m (V view) (omega arith) (f view))))
      (small class.Fork) (omega arith)
  entered-below s stack (Guarded p j body) a M H V l h f =
      let A = with_abort image costs a j V in
      let L = left image costs a V in
      are-after 255 (begin body (255 + M) (max H M)) (cost_of costs class.Abrt) (begin (Guarded p j body) M H) (entered image costs starts A body L)
      (entered-below s (stack ++ j ∷ []) body A (255 + M) (max H M) L l.4 (abort-handles H M j a V h f) (left-below M a V f)) (small class.Abrt)
      (guard-begins (pass body) (way_most image worth body) M H (pass-way body))

  -- a thread's, behind which comes its `end`
  pub begins-below : (s : ℕ) (code : Code) (V : Numbers) → IsLaidIn image s [] code → AreBelow 255 V → AreBelow (way_most image worth code + 255) (entered image costs starts [] code V)
  begins-below s code V l f =
      let p = pass-way code in
      are-wider (begin code 255 0) (way_most image worth code + 255) (entered image costs starts [] code V) (omega (arith, p)) (entered-below s [] code [] 255 0 V l (λ side k. below-none 0) f)

  -- ---- all of its lines

  module _ (s : ℕ) where
    abbrev in_code : List Handler → Kind
    in_code a = thread s (stack_of a) []

    -- inside so many aborts that g more are in reach
    pub code-within : (g : ℕ) (stack : List ℕ) (code : Code) (a : List Handler) (M H : ℕ) (V : Numbers) → 8 ≤ length stack + g → IsLaidIn image s stack code → Handles H a → AreBelow M V →
        AllWithin (reaches g (way_most image worth code) M H) (code_lines image costs starts s a code V)
    code-within g stack (Passed r) a M H V room l h f =
        let w = region_most image r in
        all-wider (w + M) (reaches g w M H) (in-reach g w w 0 M H (w + M) (omega arith) (omega arith) (omega arith)) (region_lines image costs (in_code a) r V) (region-within image costs small (in_code a) r M V l.0 f)
    code-within g stack (Sequence x y) a M H V room l h f =
        let wx = way_most image worth x in
        let wy = way_most image worth y in
        let w = wx + wy in
        let m = begin y M H in
        let Y = entered image costs starts a y V in
        let B = reaches g w M H in
        let k = pass-way y in
        join-within (reaches g wx m H) (reaches g wy M H) B (code_lines image costs starts s a x Y) (code_lines image costs starts s a y V)
        (goes-on g wx w (pass y) wy M m H (omega arith) (omega (arith, k)) (omega arith) (omega arith)) (goes-on g wy w 0 0 M M H (omega arith) (omega arith) (omega arith) (omega arith))
        (code-within g stack x a m H Y room l.0 h (entered-below s stack y a M H V l.1 h f)) (code-within g stack y a M H V room l.1 h f)
    code-within g stack (Either p n at x y) a M H V room l h f =
        let wx = way_most image worth x in
        let wy = way_most image worth y in
        let w = way_most image worth (Either p n at x y) in
        let jw = words_most (exit x) (entry y) in
        let B = reaches g w M H in
        let J = jumping image costs (exit x) V in
        let i = l.5 in
        let fJ : AreBelow (jw + M) J = are-wider ((behind image (exit x) - exit x) * 255 + M) (jw + M) J (omega (arith, i)) (jumping-below image costs small (exit x) M V f) in
        let X = entered image costs starts a x J in
        let Y = entered image costs starts a y V in
        let m = max (begin x (jw + M) H) (begin y M H) in
        let fX = are-wider (begin x (jw + M) H) m X (omega arith) (entered-below s stack x a (jw + M) H J l.3 h fJ) in
        let fY = are-wider (begin y M H) m Y (omega arith) (entered-below s stack y a M H V l.6 h f) in
        let v = units-after image n p at l.0 in
        let c = unit-most image costs small at 255 (omega arith) in
        let e = l.2 in
        let k = behind-after image costs small at in
        let E = extra image costs at in
        let t : (at - p) * 255 + E + 255 ≤ words_most p (entry x) = omega (arith, v, c, e, k) in
        let T = branched image costs X Y in
        let u = code_lines image costs starts s a x J in
        let z = code_lines image costs starts s a y V in
        let px = pass-way x in
        let py = pass-way y in
        let first : (at - p) * 255 + (E + (255 + m)) ≤ B = in-reach g w w w M H ((at - p) * 255 + (E + (255 + m))) (either-first ((at - p) * 255) E (words_most p (entry x)) (pass x) wx (pass y) wy jw M H t px py) (omega arith) (omega arith) in
        all-append (Within B) (test_lines image costs (in_code a) p n at T ++ u ++ jump_lines image costs (in_code a) (exit x) V) z
        (all-append (Within B) (test_lines image costs (in_code a) p n at T ++ u) (jump_lines image costs (in_code a) (exit x) V)
        (all-append (Within B) (test_lines image costs (in_code a) p n at T) u (test-within image costs small (in_code a) p n at (255 + m) B T l.0 (branched-below image costs small m (255 + m) X Y fX fY (omega arith)) first)
        (all-wider (reaches g wx (jw + M) H) B (goes-on g wx w jw 0 M (jw + M) H (omega arith) (omega arith) (omega arith) (omega arith)) u (code-within g stack x a (jw + M) H J room l.3 h fJ)))
        (jump-within image costs small (in_code a) (exit x) M B V f (in-reach g w jw 0 M H ((behind image (exit x) - exit x) * 255 + M) (omega (arith, i)) (omega arith) (omega arith))))
        (all-wider (reaches g wy M H) B (goes-on g wy w 0 0 M M H (omega arith) (omega arith) (omega arith) (omega arith)) z (code-within g stack y a M H V room l.6 h f))
    code-within g stack (Turns p n at body q) a M H V room l h f =
        let wt = words_most p (entry body) in
        let wb = way_most image worth body in
        let jw = words_most (exit body) q in
        let w = wt + wb + jw in
        let B = reaches g w M H in
        let all = entered image costs starts a (Turns p n at body q) V in
        let fall = entered-below s stack (Turns p n at body q) a M H V l h f in
        let mA = begin (Turns p n at body q) M H in
        let J = jumping image costs (exit body) all in
        let i = l.5 in
        let fJ : AreBelow (jw + mA) J = are-wider ((behind image (exit body) - exit body) * 255 + mA) (jw + mA) J (omega (arith, i)) (jumping-below image costs small (exit body) mA all fall) in
        let X = entered image costs starts a body nothing in
        let m = max M (begin body 0 H) in
        let fX = are-wider (begin body 0 H) m X (omega arith) (entered-below s stack body a 0 H nothing l.3 h (λ view. below-none 0)) in
        let T = branched image costs X V in
        let fT = branched-below image costs small m (255 + m) X V fX (are-wider M m V (omega arith) f) (omega arith) in
        let v = units-after image n p at l.0 in
        let c = unit-most image costs small at 255 (omega arith) in
        let e = l.2 in
        let k = behind-after image costs small at in
        let E = extra image costs at in
        let t : (at - p) * 255 + E + 255 ≤ wt = omega (arith, v, c, e, k) in
        let pb = pass-way body in
        let u = code_lines image costs starts s a body J in
        all-append (Within B) (test_lines image costs (in_code a) p n at T ++ u) (jump_lines image costs (in_code a) (exit body) all)
        (all-append (Within B) (test_lines image costs (in_code a) p n at T) u
        (test-within image costs small (in_code a) p n at (255 + m) B T l.0 fT (in-reach g w w w M H ((at - p) * 255 + (E + (255 + m))) (turns-first ((at - p) * 255) E wt (pass body) wb jw M H t pb) (omega arith) (omega arith)))
        (all-wider (reaches g wb (jw + mA) H) B (goes-on g wb w (jw + wt) (jw + w) M (jw + mA) H (omega arith) (omega arith) (omega arith) (omega arith)) u (code-within g stack body a (jw + mA) H J room l.3 h fJ)))
        (jump-within image costs small (in_code a) (exit body) mA B all fall (in-reach g w (jw + wt) (jw + w) M H ((behind image (exit body) - exit body) * 255 + mA) (omega (arith, i)) (omega arith) (omega arith)))
    code-within g stack (Forever body q) a M H V room l h f =
        let wb = way_most image worth body in
        let jw = words_most (exit body) q in
        let w = wb + jw in
        let B = reaches g w M H in
        let all = entered image costs starts a body nothing in
        let mA = begin body 0 H in
        let fall = entered-below s stack body a 0 H nothing l.0 h (λ view. below-none 0) in
        let J = jumping image costs (exit body) all in
        let i = l.2 in
        let pb = pass-way body in
        let fJ : AreBelow (jw + mA) J = are-wider ((behind image (exit body) - exit body) * 255 + mA) (jw + mA) J (omega (arith, i)) (jumping-below image costs small (exit body) mA all fall) in
        let u = code_lines image costs starts s a body J in
        all-append (Within B) u (jump_lines image costs (in_code a) (exit body) all)
        (all-wider (reaches g wb (jw + mA) H) B (goes-on g wb w jw (jw + wb) M (jw + mA) H (omega arith) (omega arith) (omega arith) (omega (arith, pb))) u (code-within g stack body a (jw + mA) H J room l.0 h fJ))
        (jump-within image costs small (in_code a) (exit body) mA B all fall (in-reach g w jw (jw + wb) M H ((behind image (exit body) - exit body) * 255 + mA) (omega (arith, i, pb)) (omega arith) (omega arith)))
    code-within g stack (Resting p) a M H V room l h f =
        let m = begin (Resting p) M H in
        let B = reaches g 255 M H in
        let G = entered image costs starts a (Resting p) V in
        (line-within (in_code a) B G (are-wider m B G (in-reach g 255 0 255 M H m (omega arith) (omega arith) (omega arith)) (entered-below s stack (Resting p) a M H V l h f)), tt)
    code-within g stack (Forking p lo n) a M H V room l h f =
        let w = 255 + total worth lo n in
        let m = begin (Forking p lo n) M H in
        let B = reaches g w M H in
        let G = entered image costs starts a (Forking p lo n) V in
        (line-within (in_code a) B G (are-wider m B G (in-reach g w w w M H m (omega arith) (omega arith) (omega arith)) (entered-below s stack (Forking p lo n) a M H V l h f)), tt)
    code-within zero stack (Guarded p j body) a M H V room l h f = let few = l.2 in absurd (omega (arith, few, room))
    code-within (suc g) stack (Guarded p j body) a M H V room l h f =
        let wb = way_most image worth body in
        let w = wb + 510 in
        let B = reaches (suc g) w M H in
        let A = with_abort image costs a j V in
        let L = left image costs a V in
        let G = entered image costs starts a (Guarded p j body) V in
        let m = begin (Guarded p j body) M H in
        let fG = entered-below s stack (Guarded p j body) a M H V l h f in
        let fL = left-below M a V f in
        let u = code_lines image costs starts s A body L in
        let n : length (stack ++ j ∷ []) ≡ length stack + 1 = length-append stack (j ∷ []) in
        all-append (Within B) (numbers.line (in_code a) G ∷ u) (numbers.line (in_code A) L ∷ []) (
          line-within (in_code a) B G (are-wider m B G (in-reach (suc g) w w w M H m (omega arith) (omega arith) (omega arith)) fG),
          all-wider (reaches g wb (255 + M) (max H M)) B (guard-reaches g wb M H) u (code-within g (stack ++ j ∷ []) body A (255 + M) (max H M) L (omega (arith, n, room)) l.4 (abort-handles H M j a V h f) fL),
        )
        (line-within (in_code A) B L (are-wider (255 + M) B L (in-reach (suc g) w w 0 M H (255 + M) (omega arith) (omega arith) (omega arith)) fL), tt)

  pub lines-below : (s : ℕ) (code : Code) (V : Numbers) → IsLaidIn image s [] code → AreBelow 255 V → AllWithin (code_most image worth code + 255) (code_lines image costs starts s [] code V)
  lines-below s code V l f =
      let w = way_most image worth code in
      all-wider (reaches 8 w 255 0) (code_most image worth code + 255) (eight-reach w) (code_lines image costs starts s [] code V) (code-within s 8 [] code [] 255 0 V (omega arith) l (λ side k. below-none 0) f)

  pub code-light : (s : ℕ) (stack : List ℕ) (code : Code) → IsLaidIn image s stack code → AreLight (way_most image worth code) (code_weights image costs code)
  code-light s stack (Passed r) l = region-light image costs small r l.0
  code-light s stack (Sequence x y) l = light-join (way_most image worth x) (way_most image worth y) (way_most image worth (Sequence x y)) (code_weights image costs x) (code_weights image costs y) (omega arith) (omega arith) (code-light s stack x l.0) (code-light s stack y l.1)
  code-light s stack (Either p n at x y) l =
      light-join (way_most image worth x) (way_most image worth y) (way_most image worth (Either p n at x y)) (code_weights image costs x) (code_weights image costs y) (omega arith) (omega arith) (code-light s stack x l.3) (code-light s stack y l.6)
  code-light s stack (Turns p n at body q) l = light-wider (way_most image worth body) (way_most image worth (Turns p n at body q)) (code_weights image costs body) (omega arith) (code-light s stack body l.3)
  code-light s stack (Forever body q) l = light-wider (way_most image worth body) (way_most image worth (Forever body q)) (code_weights image costs body) (omega arith) (code-light s stack body l.0)
  code-light s stack (Resting p) l = tt
  code-light s stack (Forking p lo n) l = tt
  code-light s stack (Guarded p j body) l = light-wider (way_most image worth body) (way_most image worth (Guarded p j body)) (code_weights image costs body) (omega arith) (code-light s (stack ++ j ∷ []) body l.4)
