-- The numbers of regions and codes are within what their words come to.
use Rattle.std.proofs.Common.{◌≡◌, ◌≤◌, ◌+◌, ◌-◌, ◌*◌, ◌++◌, max, ℕ, ℤ, zero, suc, List, [], ◌∷◌, map, length, Option, Some, None, refl, ap, ⊎_elim, arith}
use Rattle.std.proofs.lemmas.Option.{none-some, same_Some}
use Rattle.std.specs.List.{AllByRecursion, range_with_len}
use Rattle.mb_isa.specs.declared.Class.{Class}
use Rattle.mb_isa.specs.declared.Class.TheVariants as class
use Rattle.mb_isa.specs.Costs.{cost_of}
use Rattle.pt_image.specs.declared.Parts.{Parts}
use Rattle.tk_cert.specs.declared.cert.Line.{Line}
use Rattle.tk_cert.specs.declared.cert.Line.TheVariants as line
use Rattle.tk_paths.specs.declared.view.Side.TheVariants.{ToPause, ToEnd}
use Rattle.tk_paths.specs.declared.view.View.{View}
use Rattle.tk_paths.specs.declared.view.View.TheVariants.{On, Value}
use Rattle.tk_paths.specs.declared.word.Word.TheVariants.{Does}
use Rattle.tk_paths.specs.Sums.{plus, greater, or_zero}
use Rattle.tk_paths.specs.Acceptance.{more}
use Rattle.tk_paths.specs.Regions.{Region, Words, Then, Choice, Counted, Repeated, Calling, from, to, behind_half, half, word_place, behind, unit_word, AreUnits, IsLaid, half_cost, extra, word_cost, units_cost, leaving, through}
use Rattle.tk_paths.specs.Numbers.{Kind, thread, routine, condition, inside, Numbers, level, nothing, Handler, stack_of, after, next_number, half_lines, unit_lines, units_lines, branched, jumping, jump_lines, testing, test_lines, passing, tested_weight, plain_weight, at_next, at_test, region_lines, region_weights, handled, rested, left, with_abort, grouped, entered, code_lines, code_weights}
use Rattle.tk_paths.specs.Numbers as numbers
use Rattle.tk_paths.specs.Counts.{Below, ArePairBelow, Within, words_most, turn_most, region_most}
use Rattle.tk_paths.proofs.Covered.{all-append}
use Rattle.tk_paths.proofs.MaxPlus.{greater-is, plus-is, more-is}
use Rattle.tk_paths.proofs.Weights.{RisesTo, units-after, region-rises}

-- ---- numbers that are within others

abbrev pub AreBelow : ℕ → Numbers → Type 0
AreBelow b V = (view : View) → Below b (V view)

pub below-more : (a b c : ℕ) (o : Option ℕ) → Below b o → c ≤ a → Below (a + b) (more c o)
below-more a b c o h l n e = let m = more-is c o n e in let x = h m.0 m.1 in let y = m.2 in omega (arith, x, y, l)

pub below-greater : (b : ℕ) (x y : Option ℕ) → Below b x → Below b y → Below b (greater x y)
below-greater b x y f g n e = ⊎_elim (λ k. f n k) (λ k. g n k) (greater-is x y n e)

pub below-plus : (a b : ℕ) (x y : Option ℕ) → Below a x → Below b y → Below (a + b) (plus x y)
below-plus a b x y f g n e = let m = plus-is x y n e in let u = f m.0 m.2 in let v = g m.1 m.3 in let z = m.4 in omega (arith, u, v, z)

pub below-none : (b : ℕ) → Below b None
below-none b n e = absurd (none-some n e)

pub below-some : (b m : ℕ) → m ≤ b → Below b (Some m)
below-some b m h n e = let s : m ≡ n = same_Some m n e in omega (arith, s, h)

pub below-wider : (a b : ℕ) (o : Option ℕ) → a ≤ b → Below a o → Below b o
below-wider a b o h f n e = let x = f n e in omega (arith, x, h)

pub are-wider : (a b : ℕ) (V : Numbers) → a ≤ b → AreBelow a V → AreBelow b V
are-wider a b V h f view = below-wider a b (V view) h (f view)

pub are-after : (a b c d : ℕ) (V : Numbers) → AreBelow b V → c ≤ a → a + b ≤ d → AreBelow d (after c V)
are-after a b c d V f l m view = below-wider (a + b) d (more c (V view)) m (below-more a b c (V view) (f view) l)

-- ---- lines whose numbers are within others

abbrev pub AllWithin : ℕ → List Line → Type 0
AllWithin b xs = AllByRecursion (Within b) xs

levels-below : (b : ℕ) (V : Numbers) → AreBelow b V → (n low : ℕ) → AllByRecursion (ArePairBelow b) (map (level V) (range_with_len low n))
levels-below b V f zero low = tt
levels-below b V f (suc n) low = ((f (On ToPause low), f (On ToEnd low)), levels-below b V f n (low + 1))

zero-below : (b : ℕ) (o : Option ℕ) → Below b o → or_zero o ≤ b
zero-below b None f = omega arith
zero-below b (Some n) f = f n refl

pub line-within : (kind : Kind) (b : ℕ) (V : Numbers) → AreBelow b V → Within b (numbers.line kind V)
line-within (thread s a l) b V f = levels-below b V f (length a + 1) 0
line-within (routine h l) b V f = zero-below b (V Value) (f Value)
line-within condition b V f = zero-below b (V Value) (f Value)

pairs-wider : (a b : ℕ) → a ≤ b → (v : List (Option ℕ × Option ℕ)) → AllByRecursion (ArePairBelow a) v → AllByRecursion (ArePairBelow b) v
pairs-wider a b h [] f = tt
pairs-wider a b h (p ∷ v) f = ((below-wider a b p.0 h f.0.0, below-wider a b p.1 h f.0.1), pairs-wider a b h v f.1)

pub within-wider : (a b : ℕ) → a ≤ b → (x : Line) → Within a x → Within b x
within-wider a b h line.Bare f = tt
within-wider a b h (line.Thread s c l v) f = pairs-wider a b h v f
within-wider a b h (line.Routine g l n) f = omega (arith, h, f)
within-wider a b h (line.Cond n) f = omega (arith, h, f)

pub all-wider : (a b : ℕ) → a ≤ b → (xs : List Line) → AllWithin a xs → AllWithin b xs
all-wider a b h [] f = tt
all-wider a b h (x ∷ xs) f = (within-wider a b h x f.0, all-wider a b h xs f.1)

pub join-within : (a b c : ℕ) (xs ys : List Line) → a ≤ c → b ≤ c → AllWithin a xs → AllWithin b ys → AllWithin c (xs ++ ys)
join-within a b c xs ys h k f g = all-append (Within c) xs ys (all-wider a c h xs f) (all-wider b c k ys g)

mul-less : (m a b : ℕ) → a ≤ b → m * a ≤ m * b
mul-less zero a b h = omega arith
mul-less (suc m) a b h =
    let r = mul-less m a b h in
    let x : suc m * a ≡ m * a + a = omega arith in
    let y : suc m * b ≡ m * b + b = omega arith in
    omega (arith, r, x, y, h)

next-below : (N out w c M : ℕ) (o : Option ℕ) → Below M o → N ≤ c → out ≤ c → Below (c + M) (next_number N out w o)
next-below N out w c M None f h k n e = absurd (none-some n e)
next-below N out w c M (Some m) f h k n e =
    let x = f m refl in
    let s : max (N + m) ((out + m) - w) ≡ n = same_Some (max (N + m) ((out + m) - w)) n e in
    omega (arith, x, s, h, k)

pub rises-least : (p q : ℕ) (ws : List (ℕ × ℕ)) → RisesTo p ws q → p ≤ q
rises-least p q [] h = h
rises-least p q (w ∷ ws) h = let r = rises-least (w.0 + 1) q ws h.1 in let x = h.0 in omega (arith, r, x)

-- weights that are within others
abbrev pub AreLight : ℕ → List (ℕ × ℕ) → Type 0
AreLight b ws = AllByRecursion (λ (w : ℕ × ℕ). w.1 ≤ b) ws

pub light-wider : (a b : ℕ) (ws : List (ℕ × ℕ)) → a ≤ b → AreLight a ws → AreLight b ws
light-wider a b [] h f = tt
light-wider a b (w ∷ ws) h f = ((let x = f.0 in omega (arith, x, h)), light-wider a b ws h f.1)

pub light-join : (a b c : ℕ) (xs ys : List (ℕ × ℕ)) → a ≤ c → b ≤ c → AreLight a xs → AreLight b ys → AreLight c (xs ++ ys)
light-join a b c xs ys h k f g = all-append (λ (w : ℕ × ℕ). w.1 ≤ c) xs ys (light-wider a c xs h f) (light-wider b c ys k g)

module _ (image : Parts) (costs : List ℕ) (small : (c : Class) → cost_of costs c ≤ 255) where
  -- an upper half and one charge more
  half-most : (o : Option ℤ) (p c : ℕ) → c ≤ 255 → half_cost image costs o + c ≤ (behind_half o p + 1 - p) * 255
  half-most None p c h = omega (arith, h)
  half-most (Some u) p c h = let i = small class.Imm in omega (arith, h, i)

  pub unit-most : (p c : ℕ) → c ≤ 255 → extra image costs p + c ≤ (behind image p - p) * 255
  unit-most p c h = half-most (half image p) p c h

  pub behind-after : (p : ℕ) → p + 1 ≤ behind image p
  behind-after p = by (half image p)
    where
      by : (o : Option ℤ) → p + 1 ≤ behind_half o p + 1
      by None = omega arith
      by (Some u) = omega arith

  does-most : (p : ℕ) (c : Class) → unit_word image p ≡ Some (Does c) → extra image costs p + word_cost image costs (unit_word image p) ≤ (behind image p - p) * 255
  does-most p c u =
      let e : word_cost image costs (unit_word image p) ≡ cost_of costs c = ap (word_cost image costs) u in
      let s = small c in
      unit-most p (word_cost image costs (unit_word image p)) (omega (arith, e, s))

  pub units-most : (n p q : ℕ) → AreUnits image p n q → units_cost image costs p n ≤ (q - p) * 255
  units-most zero p q u = omega arith
  units-most (suc n) p q u =
      let a = does-most p u.0 u.1 in
      let r = units-most n (behind image p) q u.2 in
      let b = behind-after p in
      let c = units-after image n (behind image p) q u.2 in
      omega (arith, a, r, b, c)

  -- a unit's lines
  unit-within : (kind : Kind) (p M B : ℕ) (V : Numbers) → AreBelow M V → extra image costs p + M ≤ B → AllWithin B (unit_lines image costs kind p V)
  unit-within kind p M B V f h = by (half image p) h
    where
      by : (o : Option ℤ) → half_cost image costs o + M ≤ B → AllWithin B (half_lines image costs kind o V ++ numbers.line kind V ∷ [])
      by None k = (line-within kind B V (are-wider M B V (omega (arith, k)) f), tt)
      by (Some u) k = (
        line-within kind B (after (cost_of costs class.Imm) V) (are-after (cost_of costs class.Imm) M (cost_of costs class.Imm) B V f (omega arith) (omega (arith, k))),
        (line-within kind B V (are-wider M B V (omega (arith, k)) f), tt),
      )

  pub units-within : (kind : Kind) (n p q M : ℕ) (V : Numbers) → AreUnits image p n q → AreBelow M V → AllWithin ((q - p) * 255 + M) (units_lines image costs kind p n V)
  units-within kind zero p q M V u f = tt
  units-within kind (suc n) p q M V u f =
      let next = behind image p in
      let x = extra image costs p in
      let w = word_cost image costs (unit_word image p) in
      let r = units_cost image costs next n in
      let a : x + w ≤ (next - p) * 255 = does-most p u.0 u.1 in
      let b = behind-after p in
      let c = units-after image n next q u.2 in
      let d = units-most n next q u.2 in
      let B = (q - p) * 255 + M in
      let E = after (w + r) V in
      all-append (Within B) (unit_lines image costs kind p E) (units_lines image costs kind next n V)
      (unit-within kind p (w + r + M) B E (are-after (w + r) M (w + r) (w + r + M) V f (omega arith) (omega arith)) (omega (arith, a, b, c, d)))
      (all-wider ((q - next) * 255 + M) B (omega (arith, b, c)) (units_lines image costs kind next n V) (units-within kind n next q M V u.2 f))

  pub jump-within : (kind : Kind) (p M B : ℕ) (V : Numbers) → AreBelow M V → (behind image p - p) * 255 + M ≤ B → AllWithin B (jump_lines image costs kind p V)
  jump-within kind p M B V f h =
      let c = cost_of costs class.Jump in
      let e = unit-most p c (small class.Jump) in
      unit-within kind p (c + M) B (after c V) (are-after c M c (c + M) V f (omega arith) (omega arith)) (omega (arith, e, h))

  pub test-within : (kind : Kind) (p n at M B : ℕ) (V : Numbers) → AreUnits image p n at → AreBelow M V → (at - p) * 255 + (extra image costs at + M) ≤ B → AllWithin B (test_lines image costs kind p n at V)
  test-within kind p n at M B V u f h =
      let x = extra image costs at in
      let front = units_lines image costs kind p n (after x V) in
      all-append (Within B) front (unit_lines image costs kind at V)
      (all-wider ((at - p) * 255 + (x + M)) B h front (units-within kind n p at (x + M) (after x V) u (are-after x M x (x + M) V f (omega arith) (omega arith))))
      (unit-within kind at M B V f (omega (arith, h)))

  pub branched-below : (M B : ℕ) (V W : Numbers) → AreBelow M V → AreBelow M W → 255 + M ≤ B → AreBelow B (branched image costs V W)
  branched-below M B V W f g h view =
      below-greater B (more (cost_of costs class.Untaken) (V view)) (more (cost_of costs class.Taken) (W view))
      (below-wider (255 + M) B (more (cost_of costs class.Untaken) (V view)) h (below-more 255 M (cost_of costs class.Untaken) (V view) (f view) (small class.Untaken)))
      (below-wider (255 + M) B (more (cost_of costs class.Taken) (W view)) h (below-more 255 M (cost_of costs class.Taken) (W view) (g view) (small class.Taken)))

  -- ---- regions

  region-after : (r : Region) → IsLaid image r → from r ≤ to r
  region-after r l = rises-least (from r) (to r) (region_weights image costs r) (region-rises image costs r l)

  -- a whole turn, the way out, and one `next`
  weight-most : (p m n at : ℕ) (body : Region) (q : ℕ) → IsLaid image (Counted p m n at body q) → through image costs body ≤ region_most image body →
      (tested_weight image costs p n at body ≤ turn_most image p body q (region_most image body))
      × (leaving image costs p n at ≤ words_most (behind image p) (from body) + 255) × (cost_of costs class.Next ≤ words_most (behind image p) (from body))
  weight-most p m n at body q l t =
      let head = behind image p in
      let u = units-most n (head + 1) at l.2 in
      let v = units-after image n (head + 1) at l.2 in
      let a = unit-most at (cost_of costs class.Untaken) (small class.Untaken) in
      let b = unit-most at (cost_of costs class.Taken) (small class.Taken) in
      let c = unit-most (to body) (cost_of costs class.Jump) (small class.Jump) in
      let d = behind-after at in
      let e = l.4 in
      let f = l.7 in
      let x = small class.Next in
      let y = small class.Drop in
      (omega (arith, u, v, a, c, d, e, f, x, t), omega (arith, u, v, b, d, e, x, y), omega (arith, v, d, e, x))

  plain-most : (p m : ℕ) (body : Region) (q : ℕ) → IsLaid image (Repeated p m body q) → through image costs body ≤ region_most image body →
      (plain_weight image costs body ≤ turn_most image p body q (region_most image body)) × (cost_of costs class.Next ≤ words_most (behind image p) (from body))
  plain-most p m body q l t =
      let c = unit-most (to body) (cost_of costs class.Jump) (small class.Jump) in
      let e = l.2 in
      let f = l.5 in
      let x = small class.Next in
      (omega (arith, c, e, f, x, t), omega (arith, e, x))

  -- the dearest way
  pub through-most : (r : Region) → IsLaid image r → through image costs r ≤ region_most image r
  through-most (Words p n q) l = units-most n p q l
  through-most (Then x y) l = let a = through-most x l.0 in let b = through-most y l.1 in omega (arith, a, b)
  through-most (Choice p n at x y) l =
      let a = through-most x l.3 in
      let b = through-most y l.6 in
      let u = units-most n p at l.0 in
      let v = units-after image n p at l.0 in
      let c = unit-most at (cost_of costs class.Untaken) (small class.Untaken) in
      let d = unit-most at (cost_of costs class.Taken) (small class.Taken) in
      let e = unit-most (to x) (cost_of costs class.Jump) (small class.Jump) in
      let f = l.2 in
      let g = l.5 in
      let h = behind-after at in
      let i = behind-after (to x) in
      omega (arith, a, b, u, v, c, d, e, f, g, h, i)
  through-most (Counted p m n at body q) l =
      let t = through-most body l.5 in
      let w = weight-most p m n at body q l t in
      let turn = turn_most image p body q (region_most image body) in
      let W = tested_weight image costs p n at body in
      let o = unit-most p (cost_of costs class.Loop) (small class.Loop) in
      let x = mul-less m W turn w.0 in
      let e1 : suc m * turn ≡ m * turn + turn = omega arith in
      let e2 : suc m * W ≡ m * W + W = omega arith in
      let a = w.0 in
      let b = w.1 in
      let c = w.2 in
      omega (arith, o, x, e1, e2, a, b, c)
  through-most (Repeated p m body q) l =
      let t = through-most body l.3 in
      let w = plain-most p m body q l t in
      let turn = turn_most image p body q (region_most image body) in
      let W = plain_weight image costs body in
      let o = unit-most p (cost_of costs class.Loop) (small class.Loop) in
      let x = mul-less m W turn w.0 in
      let e1 : suc m * turn ≡ m * turn + turn = omega arith in
      let e2 : suc m * W ≡ m * W + W = omega arith in
      let a = w.0 in
      let c = w.1 in
      omega (arith, o, x, e1, e2, a, c)
  through-most (Calling p callee) l = let a = through-most callee l.1 in let b = small class.Call in let c = small class.Ret in omega (arith, a, b, c)

  -- ---- a region's lines

  pub passing-below : (r : Region) (M : ℕ) (V : Numbers) → IsLaid image r → AreBelow M V → AreBelow (region_most image r + M) (passing image costs r V)
  passing-below r M V l f = are-after (region_most image r) M (through image costs r) (region_most image r + M) V f (through-most r l) (omega arith)

  pub jumping-below : (p M : ℕ) (V : Numbers) → AreBelow M V → AreBelow ((behind image p - p) * 255 + M) (jumping image costs p V)
  jumping-below p M V f =
      let e = unit-most p (cost_of costs class.Jump) (small class.Jump) in
      are-after ((behind image p - p) * 255) M (extra image costs p + cost_of costs class.Jump) ((behind image p - p) * 255 + M) V f e (omega arith)

  pub region-within : (kind : Kind) (r : Region) (M : ℕ) (V : Numbers) → IsLaid image r → AreBelow M V → AllWithin (region_most image r + M) (region_lines image costs kind r V)
  region-within kind (Words p n q) M V l f = units-within kind n p q M V l f
  region-within kind (Then x y) M V l f =
      let W = passing image costs y V in
      let a = region_most image x in
      let b = region_most image y in
      join-within (a + (b + M)) (b + M) (a + b + M) (region_lines image costs kind x W) (region_lines image costs kind y V) (omega arith) (omega arith) (region-within kind x (b + M) W l.0 (passing-below y M V l.1 f)) (region-within kind y M V l.1 f)
  region-within kind (Choice p n at x y) M V l f =
      let a = region_most image x in
      let b = region_most image y in
      let jw = (behind image (to x) - to x) * 255 in
      let B = region_most image (Choice p n at x y) + M in
      let J = jumping image costs (to x) V in
      let X = passing image costs x J in
      let Y = passing image costs y V in
      let fJ = jumping-below (to x) M V f in
      let m = max (a + jw) b + M in
      let fX = are-wider (a + (jw + M)) m X (omega arith) (passing-below x (jw + M) J l.3 fJ) in
      let fY = are-wider (b + M) m Y (omega arith) (passing-below y M V l.6 f) in
      let T = branched image costs X Y in
      let fT = branched-below m (255 + m) X Y fX fY (omega arith) in
      let v = units-after image n p at l.0 in
      let c = unit-most at 255 (omega arith) in
      let e = l.2 in
      let g = l.5 in
      let h = behind-after at in
      let i = behind-after (to x) in
      let k = region-after x l.3 in
      let t = test_lines image costs kind p n at T in
      let u = region_lines image costs kind x J in
      let j = jump_lines image costs kind (to x) V in
      let w = region_lines image costs kind y V in
      all-append (Within B) (t ++ u ++ j) w
      (all-append (Within B) (t ++ u) j
      (all-append (Within B) t u (test-within kind p n at (255 + m) B T l.0 fT (omega (arith, v, c, e, g, h, i))) (all-wider (a + (jw + M)) B (omega (arith, g, i)) u (region-within kind x (jw + M) J l.3 fJ)))
      (jump-within kind (to x) M B V f (omega (arith, g, i))))
      (all-wider (b + M) B (omega arith) w (region-within kind y M V l.6 f))
  region-within kind (Counted p m n at body q) M V l f =
      let head = behind image p in
      let inner = inside (word_place image p) kind in
      let rb = region_most image body in
      let jw = (behind image (to body) - to body) * 255 in
      let turn = turn_most image p body q rb in
      let out = words_most head (from body) + 255 in
      let B = region_most image (Counted p m n at body q) + M in
      let W = tested_weight image costs p n at body in
      let w = weight-most p m n at body q l (through-most body l.5) in
      let w0 = w.0 in
      let w1 = w.1 in
      let w2 = w.2 in
      let N = at_next image costs p n at body V in
      let fN : AreBelow (out + M) N = λ view. next-below (cost_of costs class.Next) (leaving image costs p n at) W out M (V view) (f view) (omega (arith, w2)) w1 in
      let J = jumping image costs (to body) N in
      let fJ = jumping-below (to body) (out + M) N fN in
      let X = passing image costs body J in
      let D = after (cost_of costs class.Drop) V in
      let mX = rb + (jw + (out + M)) in
      let fX = passing-below body (jw + (out + M)) J l.5 fJ in
      let fD = are-after 255 M (cost_of costs class.Drop) (255 + M) V f (small class.Drop) (omega arith) in
      let i = behind-after (to body) in
      let g = l.7 in
      let T = at_test image costs p n at body V in
      let fT = branched-below mX (255 + mX) X D fX (are-wider (255 + M) mX D (omega (arith, i)) fD) (omega arith) in
      let v = units-after image n (head + 1) at l.2 in
      let c = unit-most at 255 (omega arith) in
      let e = l.4 in
      let h = behind-after at in
      let e1 : suc m * turn ≡ m * turn + turn = omega arith in
      let e2 : suc m * W ≡ m * W + W = omega arith in
      let less = mul-less m W turn w0 in
      let op = unit-most p (cost_of costs class.Loop) (small class.Loop) in
      let E = after (cost_of costs class.Loop + suc m * W) N in
      let mE = cost_of costs class.Loop + suc m * W + (out + M) in
      let o = unit_lines image costs kind p E in
      let t = test_lines image costs inner (head + 1) n at T in
      let b = region_lines image costs inner body J in
      let j = jump_lines image costs inner (to body) N in
      let wide : turn + (out + M) ≤ B = omega (arith, e1) in
      let jump : jw ≤ words_most (to body) q = omega (arith, g) in
      all-append (Within B) (o ++ numbers.line inner N ∷ t ++ b ++ j) (numbers.line inner D ∷ [])
      (all-append (Within B) (o ++ numbers.line inner N ∷ t ++ b) j
      (all-append (Within B) (o ++ numbers.line inner N ∷ t) b
      (all-append (Within B) o (numbers.line inner N ∷ t)
      (unit-within kind p mE B E (are-after (cost_of costs class.Loop + suc m * W) (out + M) (cost_of costs class.Loop + suc m * W) mE N fN (omega arith) (omega arith)) (omega (arith, op, e1, e2, less, w0)))
      (line-within inner B N (are-wider (out + M) B N (omega (arith, wide)) fN), test-within inner (head + 1) n at (255 + mX) B T l.2 fT (omega (arith, v, c, e, h, jump, wide))))
      (all-wider mX B (omega (arith, jump, wide)) b (region-within inner body (jw + (out + M)) J l.5 fJ)))
      (jump-within inner (to body) (out + M) B N fN (omega (arith, jump, wide))))
      (line-within inner B D (are-wider (255 + M) B D (omega (arith, wide)) fD), tt)
  region-within kind (Repeated p m body q) M V l f =
      let head = behind image p in
      let inner = inside (word_place image p) kind in
      let rb = region_most image body in
      let jw = (behind image (to body) - to body) * 255 in
      let turn = turn_most image p body q rb in
      let out = words_most head (from body) in
      let B = region_most image (Repeated p m body q) + M in
      let W = plain_weight image costs body in
      let w = plain-most p m body q l (through-most body l.3) in
      let w0 = w.0 in
      let w1 = w.1 in
      let N = after (cost_of costs class.Next) V in
      let fN : AreBelow (out + M) N = are-after out M (cost_of costs class.Next) (out + M) V f w1 (omega arith) in
      let J = jumping image costs (to body) N in
      let fJ = jumping-below (to body) (out + M) N fN in
      let i = behind-after (to body) in
      let g = l.5 in
      let e1 : suc m * turn ≡ m * turn + turn = omega arith in
      let e2 : suc m * W ≡ m * W + W = omega arith in
      let less = mul-less m W turn w0 in
      let op = unit-most p (cost_of costs class.Loop) (small class.Loop) in
      let E = after (cost_of costs class.Loop + suc m * W) N in
      let mE = cost_of costs class.Loop + suc m * W + (out + M) in
      let o = unit_lines image costs kind p E in
      let b = region_lines image costs inner body J in
      let j = jump_lines image costs inner (to body) N in
      let wide : turn + (out + M) ≤ B = omega (arith, e1) in
      let jump : jw ≤ words_most (to body) q = omega (arith, g) in
      all-append (Within B) (o ++ numbers.line inner N ∷ b) j
      (all-append (Within B) o (numbers.line inner N ∷ b)
      (unit-within kind p mE B E (are-after (cost_of costs class.Loop + suc m * W) (out + M) (cost_of costs class.Loop + suc m * W) mE N fN (omega arith) (omega arith)) (omega (arith, op, e1, e2, less, w0)))
      (line-within inner B N (are-wider (out + M) B N (omega (arith, wide)) fN), all-wider (rb + (jw + (out + M))) B (omega (arith, jump, wide)) b (region-within inner body (jw + (out + M)) J l.3 fJ)))
      (jump-within inner (to body) (out + M) B N fN (omega (arith, jump, wide)))
  region-within kind (Calling p callee) M V l f =
      (line-within kind (region_most image (Calling p callee) + M) (passing image costs (Calling p callee) V) (passing-below (Calling p callee) M V l f), tt)

  pub region-light : (r : Region) → IsLaid image r → AreLight (region_most image r) (region_weights image costs r)
  region-light (Words p n q) l = tt
  region-light (Then x y) l = light-join (region_most image x) (region_most image y) (region_most image (Then x y)) (region_weights image costs x) (region_weights image costs y) (omega arith) (omega arith) (region-light x l.0) (region-light y l.1)
  region-light (Choice p n at x y) l =
      light-join (region_most image x) (region_most image y) (region_most image (Choice p n at x y)) (region_weights image costs x) (region_weights image costs y) (omega arith) (omega arith) (region-light x l.3) (region-light y l.6)
  region-light (Counted p m n at body q) l =
      let w = weight-most p m n at body q l (through-most body l.5) in
      let w0 = w.0 in
      let turn = turn_most image p body q (region_most image body) in
      let e1 : suc m * turn ≡ m * turn + turn = omega arith in
      (omega (arith, w0, e1), light-wider (region_most image body) (region_most image (Counted p m n at body q)) (region_weights image costs body) (omega (arith, e1)) (region-light body l.5))
  region-light (Repeated p m body q) l =
      let w = plain-most p m body q l (through-most body l.3) in
      let w0 = w.0 in
      let turn = turn_most image p body q (region_most image body) in
      let e1 : suc m * turn ≡ m * turn + turn = omega arith in
      (omega (arith, w0, e1), light-wider (region_most image body) (region_most image (Repeated p m body q)) (region_weights image costs body) (omega (arith, e1)) (region-light body l.3))
  region-light (Calling p callee) l = tt
