-- No number of a program's certificate is greater than a count of its words.
use Rattle.std.proofs.Common.{◌≡◌, ◌≤◌, ◌<◌, ◌+◌, ◌-◌, ◌*◌, ◌++◌, ◌==◌, max, ℕ, zero, suc, Bool, true, false, if◌then◌else◌, List, [], ◌∷◌, flat_map, length, replicate, slice_get, slice_index_or, Option, Some, None, refl, sym, ap, ◌∙◌, subst, inl, inr, ⊎_elim, arith}
use Rattle.std.proofs.lemmas.Bool.{cases_lt}
use Rattle.std.proofs.lemmas.Option.{same_Some}
use Rattle.std.specs.List.{AllByRecursion}
use Rattle.mb_isa.specs.declared.Class.{Class}
use Rattle.mb_isa.specs.declared.Class.TheVariants as class
use Rattle.mb_isa.specs.declared.Instr.{Instr}
use Rattle.mb_isa.specs.declared.Instr.TheVariants as instr
use Rattle.mb_isa.specs.Costs.{cost_of}
use Rattle.pt_image.specs.declared.Point.{Point}
use Rattle.pt_image.specs.declared.Parts.{Parts}
use Rattle.pt_image.specs.Ranges.{AllBelow, IsPoint, IsImage}
use Rattle.tk_cert.specs.declared.cert.Line.{Line}
use Rattle.tk_cert.specs.declared.cert.Line.TheVariants as line
use Rattle.tk_cert.specs.declared.cert.Walk.{Walk}
use Rattle.tk_cert.specs.declared.cert.CertParts.{CertParts}
use Rattle.tk_paths.specs.declared.view.Side.{Side}
use Rattle.tk_paths.specs.declared.view.Side.TheVariants.{ToPause, ToEnd}
use Rattle.tk_paths.specs.declared.view.View.TheVariants.{On, Value}
use Rattle.tk_paths.specs.Sums.{plus, greater, or_zero, and_more, resumed_ends, resumed_most, resumed_paused, greatest}
use Rattle.tk_paths.specs.Words.{instr_at}
use Rattle.tk_paths.specs.Kinds.{line_at, start_of, abort_at}
use Rattle.tk_paths.specs.Shape.{children_at, children_in}
use Rattle.tk_paths.specs.Acceptance.{on_side, value_of, number_in, value, resumed, begins, more}
use Rattle.tk_paths.proofs.Lists.{IsAmong, index-among, all-among}
use Rattle.tk_paths.specs.Greatest.{stays, where_some, best, num, handlers, resting, tested, paused, ending_sum, pausing_sum, waited_by, waited, beginnings}
use Rattle.tk_paths.specs.Codes.{Code, IsLaidIn}
use Rattle.tk_paths.specs.Numbers.{Numbers, thread, routine, condition, level, just, entered, units_lines, region_lines, code_lines, region_weights, code_weights}
use Rattle.tk_paths.specs.Numbers as numbers
use Rattle.tk_paths.specs.Programs.{Section, OfThread, OfRoutine, OfCondition, Unused, Program, IsIn, IsProgram, pair_from, height, ended, starts_from, section_lines, section_weights, so_far, known_from, resumption, slots_from, certificate}
use Rattle.tk_paths.specs.Counts.{Below, ArePairBelow, Within, words_most, total, region_most, way_most, code_most, starts_most_from, starts_most, section_most, greatest_most, condition_most, tests_most, waited_most, place_most, slots_most_from, slots_most, IsCounted}
use Rattle.tk_paths.proofs.Covered.{all-append}
use Rattle.tk_paths.proofs.Ranges.{AreBelow, below-more, below-greater, below-plus, below-none, below-some, below-wider, AllWithin, line-within, all-wider, AreLight, light-wider, units-most, units-within, region-within, region-light}
use Rattle.tk_paths.proofs.CodeRanges.{begins-below, lines-below, code-light}
use Rattle.tk_paths.proofs.PlaceLaws.{level-number}
use Rattle.tk_paths.proofs.Starts.{side-of, starts-are}
use Rattle.tk_paths.proofs.Sections.{C, S, SectionAt, all-in, all-at, thread-at, code-of, start-line}
use Rattle.tk_paths.proofs.SlotLaws.{get-past}
use Rattle.tk_paths.proofs.UnitLaws.{units-first}
use Rattle.tk_paths.specs.Regions.{units_cost}

-- ---- sums over children that are resumed

module _ (f : Side → ℕ → Option ℕ) (worth : ℕ → ℕ) (small : (side : Side) (c : ℕ) → Below (worth c) (f side c)) where
  zero-within : (b : ℕ) (o : Option ℕ) → Below b o → or_zero o ≤ b
  zero-within b None h = omega arith
  zero-within b (Some n) h = h n refl

  below-and : (a b : ℕ) (x y : Option ℕ) → Below a x → Below b y → Below (a + b) (and_more x y)
  below-and a b None y h k n e = let z = k n e in omega (arith, z)
  below-and a b (Some v) y h k n e = let p = h v refl in let q = zero-within b y k in let s : v + or_zero y ≡ n = same_Some (v + or_zero y) n e in omega (arith, p, q, s)

  ends-within : (n c : ℕ) → Below (total worth c n) (resumed_ends f c n)
  ends-within zero c = below-none 0
  ends-within (suc n) c = below-and (worth c) (total worth (c + 1) n) (f ToEnd c) (resumed_ends f (c + 1) n) (small ToEnd c) (ends-within n (c + 1))

  pub most-within : (n c : ℕ) → resumed_most f c n ≤ total worth c n
  most-within zero c = omega arith
  most-within (suc n) c =
      let a = zero-within (worth c) (greater (f ToPause c) (f ToEnd c)) (below-greater (worth c) (f ToPause c) (f ToEnd c) (small ToPause c) (small ToEnd c)) in
      let b = most-within n (c + 1) in
      omega (arith, a, b)

  paused-within : (n c : ℕ) → Below (total worth c n) (resumed_paused f c n)
  paused-within zero c = below-none 0
  paused-within (suc n) c =
      let w = worth c in
      let t = total worth (c + 1) n in
      let m = resumed_most f (c + 1) n in
      below-greater (w + t) (plus (f ToPause c) (Some m)) (plus (Some (or_zero (f ToEnd c))) (resumed_paused f (c + 1) n))
      (below-plus w t (f ToPause c) (Some m) (small ToPause c) (below-some t m (most-within n (c + 1))))
      (below-plus w t (Some (or_zero (f ToEnd c))) (resumed_paused f (c + 1) n) (below-some w (or_zero (f ToEnd c)) (zero-within w (f ToEnd c) (small ToEnd c))) (paused-within n (c + 1)))

mul-left : (a b m : ℕ) → a ≤ b → a * m ≤ b * m
mul-left zero b m h = omega arith
mul-left (suc a) zero m h = absurd (omega (arith, h))
mul-left (suc a) (suc b) m h =
    let r = mul-left a b m (omega (arith, h)) in
    let x : suc a * m ≡ a * m + m = omega arith in
    let y : suc b * m ≡ b * m + m = omega arith in
    omega (arith, r, x, y)

-- ---- numbers of lines

pair-side : (b : ℕ) (side : Side) (v : List (Option ℕ × Option ℕ)) (k : ℕ) → AllByRecursion (ArePairBelow b) v → Below b (on_side side (slice_get v k))
pair-side b side [] k h = below-none b
pair-side b ToPause (p ∷ v) zero h = h.0.0
pair-side b ToEnd (p ∷ v) zero h = h.0.1
pair-side b side (p ∷ v) (suc k) h = pair-side b side v k h.1

side-within : (b : ℕ) (l : Line) (side : Side) (k : ℕ) → Within b l → Below b (number_in (On side k) l)
side-within b line.Bare side k h = pair-side b side [] k tt
side-within b (line.Thread s a l v) side k h = pair-side b side v k h
side-within b (line.Routine g l n) side k h = pair-side b side [] k tt
side-within b (line.Cond n) side k h = pair-side b side [] k tt

value-within : (b : ℕ) (l : Line) → Within b l → value_of l ≤ b
value-within b line.Bare h = omega arith
value-within b (line.Thread s a l v) h = omega arith
value-within b (line.Routine g l n) h = h
value-within b (line.Cond n) h = h

-- ---- a slot's points

best-within : (b s : ℕ) (given : Point → Option ℕ) (points : List Point) → ((p : Point) → IsAmong p points → Below b (given p)) → Below b (best given s points)
best-within b s given [] f = below-none b
best-within b s given (x ∷ points) f = by (x.slot == s) (best-within b s given points (λ p k. f p (inr k)))
  where
    by : (t : Bool) → Below b (best given s points) → Below b (if t then greater (given x) (best given s points) else best given s points)
    by true r = below-greater b (given x) (best given s points) (f x (inl refl)) r
    by false r = r

waiting-within : (image : Parts) (a s : ℕ) (worth : ℕ → ℕ) (given : Point → Option ℕ) (points : List Point) →
    ((p : Point) → IsAmong p points → Below (a + total worth ((children_at image p.at).0) ((children_at image p.at).1)) (given p)) → Below (a + waited_most image worth s points) (best given s points)
waiting-within image a s worth given [] f = below-none (a + 0)
waiting-within image a s worth given (x ∷ points) f = by (x.slot == s) (waiting-within image a s worth given points (λ p k. f p (inr k)))
  where
    own : ℕ
    own = total worth ((children_at image x.at).0) ((children_at image x.at).1)

    later : ℕ
    later = waited_most image worth s points

    by : (t : Bool) → Below (a + later) (best given s points) → Below (a + max (if t then own else 0) later) (if t then greater (given x) (best given s points) else best given s points)
    by true r =
        below-greater (a + max own later) (given x) (best given s points) (below-wider (a + own) (a + max own later) (given x) (omega arith) (f x (inl refl))) (below-wider (a + later) (a + max own later) (best given s points) (omega arith) r)
    by false r = below-wider (a + later) (a + max 0 later) (best given s points) (omega arith) r

get-front : {X : Type 0} (n c : ℕ) (x : X) (xs : List X) → c < n → slice_get (replicate n x ++ xs) c ≡ Some x
get-front zero c x xs h = absurd (omega (arith, h))
get-front (suc n) zero x xs h = refl
get-front (suc n) (suc c) x xs h = get-front n c x xs (omega (arith, h))

-- any certificate whose lines are within a number, and the conditions of whose aborts are within another
module _ (image : Parts) (cert : CertParts) (costs : List ℕ) (P Q : ℕ) (fits : AllWithin P cert.lines) (tests : (j : ℕ) → j < length image.aborts → value image cert costs ((abort_at image j).cond) ≤ Q) where
  num-within : (side : Side) (k p : ℕ) → Below P (num image cert costs side k p)
  num-within side k p = side-within P (line_at cert.lines p) side k (index-among (Within P) cert.lines p line.Bare fits tt)

  handlers-within : (side : Side) (i : ℕ) (stack : List ℕ) (k : ℕ) → Below P (handlers image cert costs side i stack k)
  handlers-within side i [] k = below-none P
  handlers-within side i (j ∷ stack) zero = below-none P
  handlers-within side i (j ∷ stack) (suc k) =
      below-greater P (if (abort_at image j).weak then num image cert costs side i ((abort_at image j).handler) else None) (handlers image cert costs side (i + 1) stack k) (by (abort_at image j).weak) (handlers-within side (i + 1) stack k)
    where
      by : (b : Bool) → Below P (if b then num image cert costs side i ((abort_at image j).handler) else None)
      by true = num-within side i ((abort_at image j).handler)
      by false = below-none P

  stays-within : (side : Side) → Below P (stays side)
  stays-within ToPause = below-some P 0 (omega arith)
  stays-within ToEnd = below-none P

  resting-within : (side : Side) (stack : List ℕ) (k : ℕ) → Below P (resting image cert costs stack k side)
  resting-within side stack k = below-greater P (stays side) (handlers image cert costs side 0 stack k) (stays-within side) (handlers-within side 0 stack k)

  tested-within : (R : ℕ) → P ≤ R → (side : Side) (i : ℕ) (stack : List ℕ) (rest : Option ℕ) → AllBelow (length image.aborts) stack → Below R rest → Below (length stack * Q + R) (tested image cert costs side i stack rest)
  tested-within R wide side i [] rest there f = below-wider R (0 * Q + R) rest (omega arith) f
  tested-within R wide side i (j ∷ stack) rest there f =
      let v = value image cert costs ((abort_at image j).cond) in
      let strong = if (abort_at image j).weak then None else num image cert costs side i ((abort_at image j).handler) in
      let later = tested image cert costs side (i + 1) stack rest in
      let B = length stack * Q + R in
      let e : Q + B ≡ length (j ∷ stack) * Q + R = (let x : suc (length stack) * Q ≡ length stack * Q + Q = omega arith in omega (arith, x)) in
      below-wider (Q + B) (length (j ∷ stack) * Q + R) (more v (greater strong later)) (omega (arith, e))
      (below-more Q B v (greater strong later) (below-greater B strong later (below-wider P B strong (omega (arith, wide)) (by (abort_at image j).weak)) (tested-within R wide side (i + 1) stack rest there.1 f)) (tests j there.0))
    where
      by : (b : Bool) → Below P (if b then None else num image cert costs side i ((abort_at image j).handler))
      by true = below-none P
      by false = num-within side i ((abort_at image j).handler)

  tested-eight : (R : ℕ) → P ≤ R → (side : Side) (stack : List ℕ) (rest : Option ℕ) → length stack ≤ 8 → AllBelow (length image.aborts) stack → Below R rest → Below (8 * Q + R) (tested image cert costs side 0 stack rest)
  tested-eight R wide side stack rest few there f =
      let m = mul-left (length stack) 8 Q few in
      below-wider (length stack * Q + R) (8 * Q + R) (tested image cert costs side 0 stack rest) (omega (arith, m)) (tested-within R wide side 0 stack rest there f)

  paused-point : (side : Side) (p : Point) → length p.stack ≤ 8 → AllBelow (length image.aborts) p.stack → Below (8 * Q + P) (paused image cert costs side p)
  paused-point side p few there = tested-eight P (omega arith) side p.stack (num image cert costs side (length p.stack) (p.at + 1)) few there (num-within side (length p.stack) (p.at + 1))

  waited-point : (worth : ℕ → ℕ) → ((side : Side) (c : ℕ) → Below (worth c) (resumed image cert costs side c)) → (side : Side) (p : Point) → length p.stack ≤ 8 → AllBelow (length image.aborts) p.stack →
      Below (8 * Q + P + total worth ((children_at image p.at).0) ((children_at image p.at).1)) (waited image cert costs side p)
  waited-point worth small side p few there = by (instr_at image p.at)
    where
      by : (o : Option Instr) → Below (8 * Q + P + total worth ((children_in o).0) ((children_in o).1)) (waited_by image cert costs o side p)
      by None = below-none (8 * Q + P + 0)
      by (Some (instr.Fork lo n)) =
          let T = total worth lo n in
          let f = resumed image cert costs in
          let k = length p.stack in
          let a = plus (pausing_sum image cert costs lo n) (resting image cert costs p.stack k side) in
          let b = plus (ending_sum image cert costs lo n) (num image cert costs side k (p.at + 1)) in
          let inner = below-greater (T + P) a b (below-plus T P (pausing_sum image cert costs lo n) (resting image cert costs p.stack k side) (paused-within f worth small n lo) (resting-within side p.stack k))
          (below-plus T P (ending_sum image cert costs lo n) (num image cert costs side k (p.at + 1)) (ends-within f worth small n lo) (num-within side k (p.at + 1))) in
          let whole = tested-eight (T + P) (omega arith) side p.stack (greater a b) few there inner in
          gate (greater (ending_sum image cert costs lo n) (pausing_sum image cert costs lo n)) (tested image cert costs side 0 p.stack (greater a b))
          (below-wider (8 * Q + (T + P)) (8 * Q + P + T) (tested image cert costs side 0 p.stack (greater a b)) (omega arith) whole)
        where
          gate : {d : ℕ} (x y : Option ℕ) → Below d y → Below d (where_some x y)
          gate {d} None y h = below-none d
          gate (Some z) y h = h
      by (Some other) = below-none (8 * Q + P + 0)

greatest-within : (b : ℕ) (l : List (Option ℕ)) → AllByRecursion (Below b) l → greatest l ≤ b
greatest-within b [] h = omega arith
greatest-within b (o ∷ l) h =
    let r = greatest-within b l h.1 in
    let z : Below b (greater o (Some (greatest l))) = below-greater b o (Some (greatest l)) h.0 (below-some b (greatest l) r) in
    zero-in (greater o (Some (greatest l))) z
  where
    zero-in : (x : Option ℕ) → Below b x → or_zero x ≤ b
    zero-in None f = omega arith
    zero-in (Some n) f = f n refl

module _ (image : Parts) (program : Program) (costs : List ℕ) (walk : Walk) (ok : IsProgram image program) (image_is : IsImage image) (positive : (c : Class) → 1 ≤ cost_of costs c) (small : (c : Class) → cost_of costs c ≤ 255) where
  abbrev P : ℕ
  P = place_most image program

  abbrev T : ℕ → ℕ
  T = starts_most image program.threads

  abbrev Q : ℕ
  Q = tests_most image program.sections

  ended-below : AreBelow 255 (ended image costs)
  ended-below (On ToPause k) = below-none 255
  ended-below (On ToEnd k) = below-some 255 (cost_of costs class.End) (small class.End)
  ended-below Value = below-none 255

  -- ---- what slots start with

  pub starts-suffix : (codes : List Code) (s : ℕ) → ((i : ℕ) (code : Code) → slice_get codes i ≡ Some code → (c : ℕ) × IsLaidIn image c [] code) → (i : ℕ) (side : Side) →
      Below (slice_index_or (starts_most_from image s codes) i 0) (on_side side (slice_get (starts_from image costs s codes) i))
  starts-suffix [] s laid i side = below-none 0
  starts-suffix (c ∷ rest) s laid zero side =
      let F' = pair_from (s + 1) (starts_from image costs (s + 1) rest) in
      let T' : ℕ → ℕ = λ x. slice_index_or (starts_most_from image (s + 1) rest) (x - (s + 1)) 0 in
      let l = laid 0 c refl in
      let V = entered image costs F' [] c (ended image costs) in
      let B : Option ℕ → Type 0 = Below (way_most image T' c + 255) in
      subst B (sym (side-of V side 0))
      (begins-below image costs small F' T' (λ x d. starts-suffix rest (s + 1) (λ i code e. laid (suc i) code e) (d - (s + 1)) x) l.0 c (ended image costs) l.1 ended-below (On side 0))
  starts-suffix (c ∷ rest) s laid (suc i) side = starts-suffix rest (s + 1) (λ j code e. laid (suc j) code e) i side

  starts-within : (side : Side) (c : ℕ) → Below (T c) (S image program costs walk side c)
  starts-within side c =
      let e : c ≡ c - 0 = omega arith in
      let B : ℕ → Type 0 = λ x. Below (T c) (on_side side (slice_get (starts_from image costs 0 program.threads) x)) in
      subst B e (starts-suffix program.threads 0 (λ i code k. (i, (thread-at image program costs walk ok positive i code k).0)) c side)

  -- ---- lines and weights

  section-within : (x : Section) → SectionAt image program costs walk x → AllWithin (section_most image program.threads x) (section_lines image costs program x)
  section-within (OfThread s code) f =
      let B = code_most image T code + 255 in
      all-append (Within B) (code_lines image costs (S image program costs walk) s [] code (ended image costs)) (numbers.line (thread s [] []) (ended image costs) ∷ [])
      (lines-below image costs small (S image program costs walk) T starts-within s code (ended image costs) f.0 ended-below)
      (line-within (thread s [] []) B (ended image costs) (λ view. below-wider 255 B (ended image costs view) (omega arith) (ended-below view)), tt)
  section-within (OfRoutine r) f =
      let B = region_most image r + 255 in
      let c = cost_of costs class.Ret in
      let k = routine (height r) [] in
      let fc : AreBelow 255 (just c) = λ view. below-some 255 c (small class.Ret) in
      all-append (Within B) (region_lines image costs k r (just c)) (numbers.line k (just c) ∷ []) (region-within image costs small k r 255 (just c) f.0 fc)
      (line-within k B (just c) (λ view. below-wider 255 B (Some c) (omega arith) (fc view)), tt)
  section-within (OfCondition p n q) f =
      let B = words_most p q + 255 in
      let c = cost_of costs class.Cend in
      let fc : AreBelow 255 (just c) = λ view. below-some 255 c (small class.Cend) in
      all-append (Within B) (units_lines image costs condition p n (just c)) (numbers.line condition (just c) ∷ []) (units-within image costs small condition n p q 255 (just c) f.0 fc)
      (line-within condition B (just c) (λ view. below-wider 255 B (Some c) (omega arith) (fc view)), tt)
  section-within (Unused n) f = bare-within 0 n
    where
      bare-within : (b n : ℕ) → AllWithin b (replicate n line.Bare)
      bare-within b zero = tt
      bare-within b (suc n) = (tt, bare-within b n)

  section-light : (x : Section) → SectionAt image program costs walk x → AreLight (section_most image program.threads x) (section_weights image costs program x)
  section-light (OfThread s code) f = light-wider (way_most image T code) (code_most image T code + 255) (code_weights image costs code) (omega arith) (code-light image costs small (S image program costs walk) T starts-within s [] code f.0)
  section-light (OfRoutine r) f = light-wider (region_most image r) (region_most image r + 255) (region_weights image costs r) (omega arith) (region-light image costs small r f.0)
  section-light (OfCondition p n q) f = tt
  section-light (Unused n) f = tt

  pub most-of : (xs : List Section) (x : Section) → IsIn x xs → section_most image program.threads x ≤ greatest_most image program.threads xs
  most-of [] x h = absurd h
  most-of (y ∷ xs) x h =
      let M : Section → ℕ = section_most image program.threads in
      ⊎_elim (λ e. let s : M y ≡ M x = ap M e in omega (arith, s)) (λ r. let m = most-of xs x r in omega (arith, m)) h

  flat-all : {Y : Type 0} (Q : Y → Type 0) (f : Section → List Y) (xs : List Section) → ((x : Section) → IsIn x xs → AllByRecursion Q (f x)) → AllByRecursion Q (flat_map f xs)
  flat-all Q f [] h = tt
  flat-all Q f (x ∷ xs) h = all-append Q (f x) (flat_map f xs) (h x (inl refl)) (flat-all Q f xs (λ y k. h y (inr k)))

  lines-within : AllWithin P (C image program costs walk).lines
  lines-within =
      flat-all (Within P) (section_lines image costs program) program.sections
      (λ x h. all-wider (section_most image program.threads x) P (most-of program.sections x h) (section_lines image costs program x)
      (section-within x (all-in (SectionAt image program costs walk) program.sections x (all-at image program costs walk ok positive) h)))

  weights-within : AreLight P (C image program costs walk).weights
  weights-within =
      flat-all (λ (w : ℕ × ℕ). w.1 ≤ P) (section_weights image costs program) program.sections
      (λ x h. light-wider (section_most image program.threads x) P (section_weights image costs program x) (most-of program.sections x h)
      (section-light x (all-in (SectionAt image program costs walk) program.sections x (all-at image program costs walk ok positive) h)))

  -- ---- conditions

  test-of : (xs : List Section) (x : Section) → IsIn x xs → condition_most image x ≤ tests_most image xs
  test-of [] x h = absurd h
  test-of (y ∷ xs) x h =
      let M : Section → ℕ = condition_most image in
      ⊎_elim (λ e. let s : M y ≡ M x = ap M e in omega (arith, s)) (λ r. let m = test-of xs x r in omega (arith, m)) h

  tests-within : (j : ℕ) → j < length image.aborts → value image (C image program costs walk) costs ((abort_at image j).cond) ≤ Q
  tests-within j h =
      let t = ok.tested j h in
      let p = (abort_at image j).cond in
      let cend = cost_of costs class.Cend in
      let u = units_cost image costs p t.0 in
      let f = all-in (SectionAt image program costs walk) program.sections (OfCondition p t.0 t.1) (all-at image program costs walk ok positive) t.2 in
      let e : value image (C image program costs walk) costs p ≡ u + cend = ap value_of (units-first image (C image program costs walk) costs (λ p. None) condition t.0 p t.1 (just cend) f.0 f.3 f.4) in
      let a = units-most image costs small t.0 p t.1 f.0 in
      let b = small class.Cend in
      let m = test-of program.sections (OfCondition p t.0 t.1) t.2 in
      omega (arith, e, a, b, m)

  -- ---- slots

  few-pauses : (p : Point) → IsAmong p image.pauses → (length p.stack ≤ 8) × AllBelow (length image.aborts) p.stack
  few-pauses p h = let i = all-among (IsPoint image) image.pauses p image_is.pauses.1 h in (i.2, i.3)

  few-forks : (p : Point) → IsAmong p image.forks → (length p.stack ≤ 8) × AllBelow (length image.aborts) p.stack
  few-forks p h = let i = all-among (IsPoint image) image.forks p image_is.forks.1 h in (i.2, i.3)

  slots-within : (n s i : ℕ) (side : Side) → Below (slice_index_or (slots_most_from image program s n) i 0) (on_side side (slice_get (slots_from image costs program s n) i))
  slots-within zero s i side = below-none 0
  slots-within (suc n) s zero side =
      let later = slots_from image costs program (s + 1) n in
      let pairs = known_from image costs program s later in
      let worth : ℕ → ℕ = λ c. slice_index_or (slots_most_from image program (s + 1) n) (c - (s + 1)) 0 in
      let K = so_far image costs program pairs in
      let known : (x : Side) (c : ℕ) → Below (worth c) (resumed image K costs x c) = λ x c. later-within x c (λ i. slots-within n (s + 1) i x) in
      let own = 8 * Q + P in
      let B = own + waited_most image worth s image.forks in
      let one : (x : Side) → Below B (resumption image costs program pairs s x) = λ x.
      below-greater B (best (paused image K costs x) s image.pauses) (best (waited image K costs x) s image.forks)
      (below-wider own B (best (paused image K costs x) s image.pauses) (omega arith)
      (best-within own s (paused image K costs x) image.pauses (λ p h. let few = few-pauses p h in paused-point image K costs P Q lines-within tests-within x p few.0 few.1)))
      (waiting-within image own s worth (waited image K costs x) image.forks (λ p h. let few = few-forks p h in waited-point image K costs P Q lines-within tests-within worth known x p few.0 few.1)) in
      by side one
    where
      by : (x : Side) → ((y : Side) → Below (8 * Q + P + waited_most image (λ c. slice_index_or (slots_most_from image program (s + 1) n) (c - (s + 1)) 0) s image.forks) (resumption image costs program (known_from image costs program s (slots_from image costs program (s + 1) n)) s y)) →
          Below (8 * Q + P + waited_most image (λ c. slice_index_or (slots_most_from image program (s + 1) n) (c - (s + 1)) 0) s image.forks) (on_side x (slice_get (slots_from image costs program s (suc n)) 0))
      by ToPause f = f ToPause
      by ToEnd f = f ToEnd

      later-within : (x : Side) (c : ℕ) → ((i : ℕ) → Below (slice_index_or (slots_most_from image program (s + 1) n) i 0) (on_side x (slice_get (slots_from image costs program (s + 1) n) i))) →
          Below (slice_index_or (slots_most_from image program (s + 1) n) (c - (s + 1)) 0) (on_side x (slice_get (known_from image costs program s (slots_from image costs program (s + 1) n)) c))
      later-within x c f =
          let later = slots_from image costs program (s + 1) n in
          let W = slice_index_or (slots_most_from image program (s + 1) n) (c - (s + 1)) 0 in
          let B : Option (Option ℕ × Option ℕ) → Type 0 = λ o. Below W (on_side x o) in
          ⊎_elim (λ h. subst B (sym (get-front (s + 1) c (None, None) later h)) (none-side x W)) (λ h. subst B (sym (get-past (s + 1) c (None, None) later h)) (f (c - (s + 1)))) (cases_lt c (s + 1))
        where
          none-side : (y : Side) (b : ℕ) → Below b (on_side y (Some (None, None)))
          none-side ToPause b = below-none b
          none-side ToEnd b = below-none b
  slots-within (suc n) s (suc i) side = slots-within n (s + 1) i side

  -- ---- the bound

  begins-within : (side : Side) → Below (T 0) (begins image (C image program costs walk) costs side 0)
  begins-within side =
      let some = image_is.slots.0 in
      let g = code-of image program costs walk ok positive 0 (omega (arith, some)) in
      let V = entered image costs (S image program costs walk) [] g.0 (ended image costs) in
      let B : Option ℕ → Type 0 = Below (T 0) in
      let e = level-number image (C image program costs walk) costs (λ p. None) 0 [] [] V (start_of image 0) side 0 (start-line image program costs walk ok positive 0 g.0 g.1) (omega arith) in
      let k = starts-are image costs program.threads 0 g.0 g.1 (thread-at image program costs walk ok positive 0 g.0 g.1).0 side in
      subst B (k ∙ sym e) (starts-within side 0)

  resumed-within : (side : Side) (s : ℕ) → Below (slots_most image program s) (resumed image (C image program costs walk) costs side s)
  resumed-within side s = slots-within (length image.slots) 0 s side

  bound-within : greatest (beginnings image (C image program costs walk) costs) ≤ max (T 0) (slots_most image program 0)
  bound-within =
      let b = max (T 0) (slots_most image program 0) in
      let cert = C image program costs walk in
      let one : (side : Side) → Below b (begins image cert costs side 0) = λ side. below-wider (T 0) b (begins image cert costs side 0) (omega arith) (begins-within side) in
      let two : (side : Side) → Below b (resumed image cert costs side 0) = λ side. below-wider (slots_most image program 0) b (resumed image cert costs side 0) (omega arith) (resumed-within side 0) in
      greatest-within b (beginnings image cert costs) (one ToPause, (one ToEnd, (two ToPause, (two ToEnd, tt))))

  pub counted : IsCounted image program costs (certificate image costs program walk)
  counted = record {
    lines = lines-within;
    weights = weights-within;
    starts = λ side s. starts-within side s;
    slots = λ s side. resumed-within side s;
    bound = (let b = bound-within in omega (arith, b));
  }
