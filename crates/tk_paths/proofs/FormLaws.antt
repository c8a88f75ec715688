-- A program's certificate is within the ranges of its file's form, where its counts are small.
use Rattle.std.proofs.Common.{◌≡◌, ◌≤◌, ◌<◌, ◌+◌, ◌*◌, ◌++◌, ℕ, ℤ, zero, suc, List, [], ◌∷◌, flat_map, length, replicate, slice_get, Option, Some, None, refl, sym, ap, ◌∙◌, subst, inl, inr, arith}
use Rattle.std.proofs.lemmas.Option.{none-some}
use Rattle.std.specs.List.{AllByRecursion}
use Rattle.mb_isa.specs.declared.Class.{Class}
use Rattle.mb_isa.specs.declared.Class.TheVariants as class
use Rattle.mb_isa.specs.Costs.{IsCosts, cost_of}
use Rattle.pt_image.specs.declared.Parts.{Parts}
use Rattle.pt_image.specs.Ranges.{IsImage}
use Rattle.tk_cert.specs.declared.cert.Line.{Line}
use Rattle.tk_cert.specs.declared.cert.Line.TheVariants as line
use Rattle.tk_cert.specs.declared.cert.Walk.{Walk}
use Rattle.tk_cert.specs.Form.{IsOptional, ArePair, AreLoops, IsStack, IsLine, IsWeight, IsWalk, IsInForm}
use Rattle.tk_paths.specs.declared.view.Side.{Side}
use Rattle.tk_paths.specs.declared.view.Side.TheVariants.{ToPause, ToEnd}
use Rattle.tk_paths.specs.declared.word.Word.{Word}
use Rattle.tk_paths.specs.Words.{instr_in, read_instr, read}
use Rattle.tk_paths.specs.Acceptance.{on_side}
use Rattle.tk_paths.specs.Regions.{Region, Words, Then, Choice, Counted, Repeated, Calling, to, half, word_place, behind, IsLaid}
use Rattle.tk_paths.specs.Codes.{Code, Passed, Sequence, Either, Turns, Forever, Resting, Forking, Guarded, exit, loops_in, IsLaidIn}
use Rattle.tk_paths.specs.Numbers.{Kind, thread, routine, condition, inside, Numbers, level, nothing, just, Handler, stack_of, after, half_lines, unit_lines, units_lines, branched, jumping, jump_lines, test_lines, passing, tested_weight, plain_weight, at_next, at_test, region_lines, left, with_abort, entered, code_lines}
use Rattle.tk_paths.specs.Numbers as numbers
use Rattle.tk_paths.specs.Programs.{Section, OfThread, OfRoutine, OfCondition, Unused, Program, IsIn, IsClosed, IsProgram, height, ended, section_lines, certificate}
use Rattle.tk_paths.specs.Counts.{Below, ArePairBelow, Within, place_most, slots_most, AreSmall}
use Rattle.tk_paths.proofs.Covered.{all-append}
use Rattle.tk_paths.proofs.Lines.{levels-size, kind_loops}
use Rattle.tk_paths.proofs.UnitLaws.{IsCode}
use Rattle.tk_paths.proofs.Insides.{code-inside, loops-inside, length-last}
use Rattle.tk_paths.proofs.Starts.{get-within}
use Rattle.tk_paths.proofs.Weights.{RisesTo, rises-from}
use Rattle.tk_paths.proofs.Sections.{C, S, SectionAt, all-in, all-at, sections-size, sections-rise}
use Rattle.tk_paths.proofs.SlotLaws.{bounds-size}
use Rattle.tk_paths.proofs.CountLaws.{counted}

-- ---- lines but for their numbers

abbrev IsFormed : Line → Type 0
IsFormed line.Bare = Unit {0}
IsFormed (line.Thread s a l v) = (s < 64) × IsStack a × AreLoops l × (length v ≡ length a + 1)
IsFormed (line.Routine h l n) = (1 ≤ h) × (h ≤ 16) × AreLoops l
IsFormed (line.Cond n) = Unit {0}

abbrev IsFormedKind : Kind → Type 0
IsFormedKind (thread s a l) = (s < 64) × IsStack a × AreLoops l
IsFormedKind (routine h l) = (1 ≤ h) × (h ≤ 16) × AreLoops l
IsFormedKind condition = Unit {0}

abbrev AllFormed : List Line → Type 0
AllFormed xs = AllByRecursion IsFormed xs

line-formed : (kind : Kind) (V : Numbers) → IsFormedKind kind → IsFormed (numbers.line kind V)
line-formed (thread s a l) V h = (h.0, h.1, h.2, levels-size V (length a + 1))
line-formed (routine g l) V h = h
line-formed condition V h = tt

optional-below : (b : ℕ) (o : Option ℕ) → b ≤ 1000000000000 → Below b o → IsOptional o
optional-below b None h f = tt
optional-below b (Some n) h f = let x = f n refl in omega (arith, x, h)

pairs-below : (b : ℕ) (v : List (Option ℕ × Option ℕ)) → b ≤ 1000000000000 → AllByRecursion (ArePairBelow b) v → AllByRecursion ArePair v
pairs-below b [] h f = tt
pairs-below b (p ∷ v) h f = ((optional-below b p.0 h f.0.0, optional-below b p.1 h f.0.1), pairs-below b v h f.1)

line-is : (b : ℕ) (l : Line) → b ≤ 1000000000000 → IsFormed l → Within b l → IsLine l
line-is b line.Bare h f w = tt
line-is b (line.Thread s a l v) h f w = (f.0, f.1, f.2, f.3, pairs-below b v h w)
line-is b (line.Routine g l n) h f w = (f.0, f.1, f.2, omega (arith, w, h))
line-is b (line.Cond n) h f w = omega (arith, w, h)

lines-are : (b : ℕ) (xs : List Line) → b ≤ 1000000000000 → AllFormed xs → AllByRecursion (Within b) xs → AllByRecursion IsLine xs
lines-are b [] h f w = tt
lines-are b (x ∷ xs) h f w = (line-is b x h f.0 w.0, lines-are b xs h f.1 w.1)

all-last : (P : ℕ → Type 0) (l : List ℕ) (x : ℕ) → AllByRecursion P l → P x → AllByRecursion P (l ++ x ∷ [])
all-last P [] x h p = (p, tt)
all-last P (y ∷ l) x h p = (h.0, all-last P l x h.1 p)

inside-formed : (a : ℕ) (kind : Kind) → IsFormedKind kind → IsCode kind → a < 65536 → length (kind_loops kind) < 8 → IsFormedKind (inside a kind)
inside-formed a (thread s b l) h c low few = (h.0, h.1, ((let e = length-last l a in omega (arith, e, few)), all-last (λ n. n < 65536) l a h.2.1 low))
inside-formed a (routine g l) h c low few = (h.0, h.1, ((let e = length-last l a in omega (arith, e, few)), all-last (λ n. n < 65536) l a h.2.1 low))
inside-formed a condition h c low few = absurd c

-- ---- regions and codes

-- a word that is read is in the code
read-within : (image : Parts) (p : ℕ) (up : Option ℤ) (w : Word) → read image p up ≡ Some w → p < length image.code
read-within image p up w e = by (slice_get image.code p) refl e
  where
    by : (o : Option ℕ) → slice_get image.code p ≡ o → read_instr image p up (instr_in o) ≡ Some w → p < length image.code
    by None h k = absurd (none-some w k)
    by (Some c) h k = get-within image.code p c h

module _ (image : Parts) (costs : List ℕ) (short : length image.code ≤ 65536) where
  half-formed : (kind : Kind) (o : Option ℤ) (V : Numbers) → IsFormedKind kind → AllFormed (half_lines image costs kind o V)
  half-formed kind None V h = tt
  half-formed kind (Some u) V h = (line-formed kind (after (cost_of costs class.Imm) V) h, tt)

  unit-formed : (kind : Kind) (p : ℕ) (V : Numbers) → IsFormedKind kind → AllFormed (unit_lines image costs kind p V)
  unit-formed kind p V h = all-append IsFormed (half_lines image costs kind (half image p) V) (numbers.line kind V ∷ []) (half-formed kind (half image p) V h) (line-formed kind V h, tt)

  units-formed : (kind : Kind) (n p : ℕ) (V : Numbers) → IsFormedKind kind → AllFormed (units_lines image costs kind p n V)
  units-formed kind zero p V h = tt
  units-formed kind (suc n) p V h = all-append IsFormed (unit_lines image costs kind p _) (units_lines image costs kind (behind image p) n V) (unit-formed kind p _ h) (units-formed kind n (behind image p) V h)

  test-formed : (kind : Kind) (p n at : ℕ) (V : Numbers) → IsFormedKind kind → AllFormed (test_lines image costs kind p n at V)
  test-formed kind p n at V h = all-append IsFormed (units_lines image costs kind p n _) (unit_lines image costs kind at V) (units-formed kind n p _ h) (unit-formed kind at V h)

  pub region-formed : (kind : Kind) (r : Region) (V : Numbers) → IsFormedKind kind → IsCode kind → IsLaid image r → length (kind_loops kind) + loops_in r ≤ 8 → AllFormed (region_lines image costs kind r V)
  region-formed kind (Words p n q) V h c l few = units-formed kind n p V h
  region-formed kind (Then x y) V h c l few =
      all-append IsFormed (region_lines image costs kind x (passing image costs y V)) (region_lines image costs kind y V) (region-formed kind x (passing image costs y V) h c l.0 (omega (arith, few))) (region-formed kind y V h c l.1 (omega (arith, few)))
  region-formed kind (Choice p n at x y) V h c l few =
      let J = jumping image costs (to x) V in
      let T = branched image costs (passing image costs x J) (passing image costs y V) in
      let t = test_lines image costs kind p n at T in
      let a = region_lines image costs kind x J in
      let j = jump_lines image costs kind (to x) V in
      all-append IsFormed (t ++ a ++ j) (region_lines image costs kind y V)
      (all-append IsFormed (t ++ a) j (all-append IsFormed t a (test-formed kind p n at T h) (region-formed kind x J h c l.3 (omega (arith, few)))) (unit-formed kind (to x) (after (cost_of costs class.Jump) V) h))
      (region-formed kind y V h c l.6 (omega (arith, few)))
  region-formed kind (Counted p m n at body q) V h c l few =
      let a = word_place image p in
      let inner = inside a kind in
      let low = read-within image a (half image p) _ l.0 in
      let hi = inside-formed a kind h c (omega (arith, low, short)) (omega (arith, few)) in
      let z : length (kind_loops inner) ≡ length (kind_loops kind) + 1 = ap (λ (x : List ℕ). length x) (loops-inside a kind c) ∙ length-last (kind_loops kind) a in
      let N = at_next image costs p n at body V in
      let T = at_test image costs p n at body V in
      let J = jumping image costs (to body) N in
      let D = after (cost_of costs class.Drop) V in
      let E = after (cost_of costs class.Loop + suc m * tested_weight image costs p n at body) N in
      let o = unit_lines image costs kind p E in
      let t = test_lines image costs inner (behind image p + 1) n at T in
      let b = region_lines image costs inner body J in
      let j = jump_lines image costs inner (to body) N in
      all-append IsFormed (o ++ numbers.line inner N ∷ t ++ b ++ j) (numbers.line inner D ∷ [])
      (all-append IsFormed (o ++ numbers.line inner N ∷ t ++ b) j
      (all-append IsFormed (o ++ numbers.line inner N ∷ t) b (all-append IsFormed o (numbers.line inner N ∷ t) (unit-formed kind p E h) (line-formed inner N hi, test-formed inner (behind image p + 1) n at T hi))
      (region-formed inner body J hi (code-inside a kind c) l.5 (omega (arith, few, z))))
      (unit-formed inner (to body) (after (cost_of costs class.Jump) N) hi))
      (line-formed inner D hi, tt)
  region-formed kind (Repeated p m body q) V h c l few =
      let a = word_place image p in
      let inner = inside a kind in
      let low = read-within image a (half image p) _ l.0 in
      let hi = inside-formed a kind h c (omega (arith, low, short)) (omega (arith, few)) in
      let z : length (kind_loops inner) ≡ length (kind_loops kind) + 1 = ap (λ (x : List ℕ). length x) (loops-inside a kind c) ∙ length-last (kind_loops kind) a in
      let N = after (cost_of costs class.Next) V in
      let J = jumping image costs (to body) N in
      let E = after (cost_of costs class.Loop + suc m * plain_weight image costs body) N in
      let o = unit_lines image costs kind p E in
      let b = region_lines image costs inner body J in
      let j = jump_lines image costs inner (to body) N in
      all-append IsFormed (o ++ numbers.line inner N ∷ b) j
      (all-append IsFormed o (numbers.line inner N ∷ b) (unit-formed kind p E h) (line-formed inner N hi, region-formed inner body J hi (code-inside a kind c) l.3 (omega (arith, few, z))))
      (unit-formed inner (to body) (after (cost_of costs class.Jump) N) hi)
  region-formed kind (Calling p callee) V h c l few = (line-formed kind (passing image costs (Calling p callee) V) h, tt)

  module _ (starts : Side → ℕ → Option ℕ) (s : ℕ) (slot : s < 64) (aborts : length image.aborts ≤ 65536) where
    thread-formed : (a : List Handler) → IsStack (stack_of a) → IsFormedKind (thread s (stack_of a) [])
    thread-formed a h = (slot, h, (omega arith, tt))

    stack-more : (a : List Handler) (x : Handler) → length (stack_of a) < 8 → x.0 < 4294967296 → IsStack (stack_of a) → IsStack (stack_of (a ++ x ∷ []))
    stack-more a x few low h =
        let e = append-stack a x in
        subst IsStack (sym e) ((let k = length-last (stack_of a) x.0 in omega (arith, k, few)), all-last (λ n. n < 4294967296) (stack_of a) x.0 h.1 low)
      where
        append-stack : (a : List Handler) (x : Handler) → stack_of (a ++ x ∷ []) ≡ stack_of a ++ x.0 ∷ []
        append-stack [] x = refl
        append-stack (y ∷ a) x = ap (λ l. y.0 ∷ l) (append-stack a x)

    pub code-formed : (a : List Handler) (stack : List ℕ) (code : Code) (V : Numbers) → stack_of a ≡ stack → IsStack (stack_of a) → IsLaidIn image s stack code → AllFormed (code_lines image costs starts s a code V)
    code-formed a stack (Passed r) V e h l = let few = l.1 in region-formed (thread s (stack_of a) []) r V (thread-formed a h) tt l.0 (omega (arith, few))
    code-formed a stack (Sequence x y) V e h l =
        let W = entered image costs starts a y V in
        all-append IsFormed (code_lines image costs starts s a x W) (code_lines image costs starts s a y V) (code-formed a stack x W e h l.0) (code-formed a stack y V e h l.1)
    code-formed a stack (Either p n at x y) V e h l =
        let k = thread s (stack_of a) [] in
        let J = jumping image costs (exit x) V in
        let T = branched image costs (entered image costs starts a x J) (entered image costs starts a y V) in
        let t = test_lines image costs k p n at T in
        let u = code_lines image costs starts s a x J in
        let j = jump_lines image costs k (exit x) V in
        all-append IsFormed (t ++ u ++ j) (code_lines image costs starts s a y V)
        (all-append IsFormed (t ++ u) j (all-append IsFormed t u (test-formed k p n at T (thread-formed a h)) (code-formed a stack x J e h l.3)) (unit-formed k (exit x) (after (cost_of costs class.Jump) V) (thread-formed a h)))
        (code-formed a stack y V e h l.6)
    code-formed a stack (Turns p n at body q) V e h l =
        let k = thread s (stack_of a) [] in
        let H = entered image costs starts a (Turns p n at body q) V in
        let J = jumping image costs (exit body) H in
        let T = branched image costs (entered image costs starts a body nothing) V in
        let t = test_lines image costs k p n at T in
        let u = code_lines image costs starts s a body J in
        all-append IsFormed (t ++ u) (jump_lines image costs k (exit body) H)
        (all-append IsFormed t u (test-formed k p n at T (thread-formed a h)) (code-formed a stack body J e h l.3)) (unit-formed k (exit body) (after (cost_of costs class.Jump) H) (thread-formed a h))
    code-formed a stack (Forever body q) V e h l =
        let k = thread s (stack_of a) [] in
        let H = entered image costs starts a body nothing in
        let J = jumping image costs (exit body) H in
        all-append IsFormed (code_lines image costs starts s a body J) (jump_lines image costs k (exit body) H) (code-formed a stack body J e h l.0) (unit-formed k (exit body) (after (cost_of costs class.Jump) H) (thread-formed a h))
    code-formed a stack (Resting p) V e h l = (line-formed (thread s (stack_of a) []) (entered image costs starts a (Resting p) V) (thread-formed a h), tt)
    code-formed a stack (Forking p lo n) V e h l = (line-formed (thread s (stack_of a) []) (entered image costs starts a (Forking p lo n) V) (thread-formed a h), tt)
    code-formed a stack (Guarded p j body) V e h l =
        let k = thread s (stack_of a) [] in
        let x : Handler = (j, level V (length a)) in
        let A = with_abort image costs a j V in
        let L = left image costs a V in
        let G = entered image costs starts a (Guarded p j body) V in
        let few = l.2 in
        let low = l.1 in
        let same : length (stack_of a) ≡ length stack = ap (λ (z : List ℕ). length z) e in
        let hA = stack-more a x (omega (arith, few, same)) (omega (arith, low, aborts)) h in
        let u = code_lines image costs starts s A body L in
        all-append IsFormed (numbers.line k G ∷ u) (numbers.line (thread s (stack_of A) []) L ∷ [])
        (line-formed k G (thread-formed a h), code-formed A (stack ++ j ∷ []) body L (append-two a x stack e) hA l.4) (line-formed (thread s (stack_of A) []) L (thread-formed A hA), tt)
      where
        append-two : (a : List Handler) (x : Handler) (stack : List ℕ) → stack_of a ≡ stack → stack_of (a ++ x ∷ []) ≡ stack ++ x.0 ∷ []
        append-two a x stack e = plain a x ∙ ap (λ l. l ++ x.0 ∷ []) e
          where
            plain : (a : List Handler) (x : Handler) → stack_of (a ++ x ∷ []) ≡ stack_of a ++ x.0 ∷ []
            plain [] x = refl
            plain (y ∷ a) x = ap (λ l. y.0 ∷ l) (plain a x)

-- ---- weights

rises-least : (o q : ℕ) (vs : List (ℕ × ℕ)) → RisesTo o vs q → o ≤ q
rises-least o q [] r = r
rises-least o q (v ∷ vs) r = let y = rises-least (v.0 + 1) q vs r.1 in let z = r.0 in omega (arith, y, z)

weights-are : (p q : ℕ) (ws : List (ℕ × ℕ)) (b : ℕ) → RisesTo p ws q → q ≤ 65536 → b ≤ 1000000000000 → AllByRecursion (λ (w : ℕ × ℕ). w.1 ≤ b) ws → AllByRecursion IsWeight ws
weights-are p q [] b h k l f = tt
weights-are p q (w ∷ ws) b h k l f =
    let r = rises-least (w.0 + 1) q ws h.1 in
    let x = f.0 in
    ((omega (arith, r, k), omega (arith, x, l)), weights-are (w.0 + 1) q ws b h.1 k l f.1)

pairs-by-index : (v : List (Option ℕ × Option ℕ)) → ((i : ℕ) (side : Side) → IsOptional (on_side side (slice_get v i))) → AllByRecursion ArePair v
pairs-by-index [] f = tt
pairs-by-index (p ∷ v) f = ((f 0 ToPause, f 0 ToEnd), pairs-by-index v (λ i side. f (suc i) side))

module _ (image : Parts) (program : Program) (costs : List ℕ) (walk : Walk) (ok : IsProgram image program) (image_is : IsImage image) (positive : (c : Class) → 1 ≤ cost_of costs c) (small : (c : Class) → cost_of costs c ≤ 255) where
  section-formed : (x : Section) → SectionAt image program costs walk x → ((s : ℕ) (code : Code) → x ≡ OfThread s code → s < 64) → AllFormed (section_lines image costs program x)
  section-formed (OfThread s code) f slot =
      let k = thread s [] [] in
      let s64 = slot s code refl in
      let kind : IsFormedKind k = (s64, (omega arith, tt), (omega arith, tt)) in
      all-append IsFormed (code_lines image costs (S image program costs walk) s [] code (ended image costs)) (numbers.line k (ended image costs) ∷ [])
      (code-formed image costs image_is.code.1 (S image program costs walk) s s64 image_is.aborts.0 [] [] code (ended image costs) refl (omega arith, tt) f.0) (line-formed k (ended image costs) kind, tt)
  section-formed (OfRoutine r) f slot =
      let c = just (cost_of costs class.Ret) in
      let k = routine (height r) [] in
      let few = f.1 in
      let kind : IsFormedKind k = (omega arith, f.2, (omega arith, tt)) in
      all-append IsFormed (region_lines image costs k r c) (numbers.line k c ∷ []) (region-formed image costs image_is.code.1 k r c kind tt f.0 (omega (arith, few))) (line-formed k c kind, tt)
  section-formed (OfCondition p n q) f slot =
      let c = just (cost_of costs class.Cend) in
      all-append IsFormed (units_lines image costs condition p n c) (numbers.line condition c ∷ []) (units-formed image costs image_is.code.1 condition n p c tt) (line-formed condition c tt, tt)
  section-formed (Unused n) f slot = bares n
    where
      bares : (n : ℕ) → AllFormed (replicate n line.Bare)
      bares zero = tt
      bares (suc n) = (tt, bares n)

  flat-formed : (xs : List Section) → ((x : Section) → IsIn x xs → AllFormed (section_lines image costs program x)) → AllFormed (flat_map (section_lines image costs program) xs)
  flat-formed [] h = tt
  flat-formed (x ∷ xs) h = all-append IsFormed (section_lines image costs program x) (flat_map (section_lines image costs program) xs) (h x (inl refl)) (flat-formed xs (λ y k. h y (inr k)))

  slot-of : (s : ℕ) (code : Code) → IsIn (OfThread s code) program.sections → s < 64
  slot-of s code h =
      let c = all-in (IsClosed program) program.sections (OfThread s code) ok.closed h in
      let w = get-within program.threads s code c.0 in
      let e = ok.slots in
      let few = image_is.slots.1 in
      omega (arith, w, e, few)

  pub in-form : IsCosts costs → AreSmall image program → IsWalk walk → IsInForm (certificate image costs program walk)
  in-form priced little walk_is =
      let cert = C image program costs walk in
      let n = counted image program costs walk ok image_is positive small in
      let b = n.bound in
      let lb = little.bound costs priced in
      let size = sections-size image program costs walk program.sections 0 ok.laid in
      let code0 = image_is.code.0 in
      let code1 = image_is.code.1 in
      let some = image_is.slots.0 in
      let most = image_is.slots.1 in
      let slots = bounds-size image program costs walk (length image.slots) 0 in
      let formed = flat-formed program.sections
      (λ x h. section-formed x (all-in (SectionAt image program costs walk) program.sections x (all-at image program costs walk ok positive) h)
      (λ s code e. let I : Section → Type 0 = λ y. IsIn y program.sections in slot-of s code (subst I e h))) in
      let rise = sections-rise image program costs walk program.sections 0 ok.laid in
      record {
        bound = λ k. omega (arith, b, lb);
        lines = λ k. (omega (arith, size, code0), omega (arith, size, code1), lines-are (place_most image program) cert.lines little.places formed n.lines);
        weights = λ k. (weights-are 0 (length image.code) cert.weights (place_most image program) rise code1 little.places n.weights, rises-from 0 (length image.code) cert.weights rise);
        slots = λ k. (omega (arith, slots, some), omega (arith, slots, most), pairs-by-index cert.slot_bounds (λ i side. optional-below (slots_most image program i) (on_side side (slice_get cert.slot_bounds i)) (little.slots i) (n.slots i side)));
        walk = λ k. walk_is;
      }
