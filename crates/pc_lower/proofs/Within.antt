-- The flow of an accepted program is within the limits.
use Rattle.std.proofs.Common.{◌≡◌, ◌⊎◌, ℕ, zero, suc, ◌+◌, ◌<◌, ◌≤◌, Bool, true, false, if◌then◌else◌, cond, List, [], ◌∷◌, ◌++◌, map, length, Some, inl, inr, ⊎_elim, refl, sym, ap, subst, ◌∙◌, append_assoc, length-append, arith}
use Rattle.std.specs.Prelude.{slice_get, slice_index_or, unwrap_or, count_by, sum_by, replicate}
use Rattle.std.specs.List.{AllByRecursion}
use Rattle.std.proofs.lemmas.List.{length-replicate}
use Rattle.std.proofs.lemmas.List.Sums.{sum_by-cons}
use Rattle.pt_image.specs.declared.Parts.{Parts}
use Rattle.pc_grammar.specs.declared.programs.CellKind.{CellKind}
use Rattle.pc_grammar.specs.declared.typed.Cell.{Cell}
use Rattle.pc_grammar.specs.declared.typed.Function.{Function}
use Rattle.pc_grammar.specs.Uses.{joined}
use Rattle.pc_grammar.specs.Typing.{Typing}
use Rattle.pc_grammar.specs.Keeping.{IsTyped}
use Rattle.pc_grammar.specs.Meant.{starts_in, function_uses, started}
use Rattle.pc_grammar.proofs.Scalars.{means_well}
use Rattle.pc_grammar.proofs.FirstPassing.{get_seam}
use Rattle.pc_rules.specs.Known.{each_given}
use Rattle.pc_rules.specs.Weights.{passages, function_passage, program_passage, program_weight}
use Rattle.pc_rules.specs.Judging.{is_input, is_output, words as too_many_words, weight as too_heavy, passage as too_long, inputs as too_many_inputs, outputs as too_many_outputs, IsWithin}
use Rattle.pc_meaning.specs.declared.places.Room.{Room}
use Rattle.pc_meaning.specs.Programs as programs
use Rattle.pc_meaning.specs.Programs.{rooms_of, chosen, declared_of, program_of}
use Rattle.pc_lower.specs.declared.nodes.Test.{Test}
use Rattle.pc_lower.specs.Flow.{Node, abort_at}
use Rattle.pc_lower.specs.Counts.{conditions_words, bodies_words, count_at}
use Rattle.pc_lower.proofs.Words.{passages-few, routines-words}
use Rattle.pc_lower.proofs.Weighed.{program_weighs, program_passes}
use Rattle.pc_lower.specs.StepCounts.{Sizes}
use Rattle.pc_lower.specs.Program.{InOrder}
use Rattle.pc_lower.specs.Words.{words_in, Writing}
use Rattle.pc_lower.specs.Image.{condition_words}
use Rattle.pc_lower.specs.Limits.{started_by, passage, sum_below, IsWithinLimits}
use Rattle.pc_lower.proofs.Earlier.{below-or-past}
use Rattle.pc_lower.proofs.Sizing.{counts}
use Rattle.pc_lower.proofs.RegionThreads.{all-append, total-mono, all-as}
use Rattle.pc_lower.specs.Few.{WritesFew, sizes_for}
use Rattle.pc_lower.proofs.Order.{flow-in-order}
use Rattle.pc_lower.proofs.Starts.{starts-append, function-starts}
use Rattle.pc_lower.proofs.Functions.{there-below}
use Rattle.pc_lower.proofs.Once.{once, sum-all, all-once}
use Rattle.pc_lower.proofs.FlowProgram.{routines, flow, fit, long, main-there, IsThread, started-threads, rooms, numbers, started-is}
use Rattle.pc_lower.proofs.Counting.{threads-sum, threads-worth, few-threads}
use Rattle.pc_lower.proofs.Passages.{passage-less}
use Rattle.pc_lower.proofs.Laying.{thread-has-room, called-below, called-room, place}

get-is : (xs : List ℕ) (i : ℕ) → unwrap_or (slice_get xs i) 0 ≡ slice_index_or xs i 0
get-is [] i = refl
get-is (x ∷ xs) zero = refl
get-is (x ∷ xs) (suc i) = get-is xs i

passages-long : (known : List ℕ) (fs : List Function) → length (each_given function_passage known fs) ≡ length known + length fs
passages-long known [] = omega arith
passages-long known (f ∷ fs) =
    let h = passages-long (known ++ function_passage known f ∷ []) fs in
    let a = length-append known (function_passage known f ∷ []) in
    omega (arith, h, a)

-- ---- conditions

condition-less : (writing : Writing) → WritesFew writing → (aborts : List (Bool × Test)) (j : ℕ) → (words_in (writing.test_words_of (abort_at aborts j).1) + 1 ≤ conditions_words aborts) ⊎ (words_in (writing.test_words_of (abort_at aborts j).1) + 1 ≤ 3)
condition-less writing few [] j = inr (let h = few.tests (record { steps = []; by = Rattle.pc_lower.specs.declared.nodes.Place.TheVariants.Temp 0 }) in omega (arith, h))
condition-less writing few (a ∷ aborts) zero = inl (let h = few.tests a.1 in omega (arith, h))
condition-less writing few (a ∷ aborts) (suc j) = ⊎_elim (λ h. inl (omega (arith, h))) (λ h. inr h) (condition-less writing few aborts j)

-- ---- ports

chosen-few : (test : CellKind → Bool) (counted : Cell → Bool) → ((k : Cell) → counted k ≡ test k.kind) → (cells : List Cell) (more : List Room) → length (chosen test cells more) ≤ count_by counted cells
chosen-few test counted same [] more = omega arith
chosen-few test counted same (k ∷ cells) [] = omega arith
chosen-few test counted same (k ∷ cells) (r ∷ more) =
    subst (λ m. length (chosen test (k ∷ cells) (r ∷ more)) ≤ m) (sym (sum_by-cons (λ (x : Cell). cond (counted x) 1 0) k cells))
    (by (test k.kind) (counted k) (same k) (chosen-few test counted same cells more))
  where
    by : (b c : Bool) → c ≡ b → length (chosen test cells more) ≤ count_by counted cells →
        length (if b then r.first ∷ chosen test cells more else chosen test cells more) ≤ cond c 1 0 + count_by counted cells
    by true true e h = omega (arith, h)
    by true false e h = cc
    by false true e h = cc
    by false false e h = omega (arith, h)

module _ (t : Typing) (typed : IsTyped t) (within : IsWithin t) where
  abbrev bodies : List Node
  bodies = (flow t typed within).bodies

  abbrev starts : ℕ → List ℕ
  starts x = started_by bodies x

  -- what the functions of a program name are threads
  all-named : (rest front : List Function) → front ++ rest ≡ t.functions → AllByRecursion (IsThread t typed within) (starts_in (joined (map function_uses rest)))
  all-named [] front e = tt
  all-named (x ∷ rest) front e =
      let there : slice_get t.functions (length front) ≡ Some x = ap (λ l. slice_get l (length front)) (sym e) ∙ get_seam front rest x in
      let is : starts (length front) ≡ starts_in (function_uses x) = started-is t typed within (length front) x there ∙ sym (function-starts (rooms t typed within) (numbers t typed within) x) in
      let mine = subst (AllByRecursion (IsThread t typed within)) is (started-threads t typed within (length front)) in
      subst (AllByRecursion (IsThread t typed within)) (sym (starts-append (function_uses x) (joined (map function_uses rest))))
      (all-append (IsThread t typed within) (starts_in (function_uses x)) (starts_in (joined (map function_uses rest))) mine (all-named rest (front ++ x ∷ []) (append_assoc front (x ∷ []) rest ∙ e)))

  all-threads : AllByRecursion (IsThread t typed within) (t.main ∷ started t)
  all-threads = let m = (means_well t typed).main in ((m.function, m.at, m.is_thread), all-named t.functions [] refl)

  pub few : 1 + sum_below starts (λ g. 1) (length bodies) ≤ 64
  few =
      let a = sum-all t typed within (λ g. 1) in
      let b = threads-worth t typed within (λ g. 1) (t.main ∷ started t) all-threads (all-once t typed within) in
      let c = few-threads t typed within in
      omega (arith, a, b, c)

  pub inputs-few : length (flow t typed within).inputs ≤ 64
  inputs-few =
      let a = chosen-few programs.is_input is_input (λ k. refl) t.cells (rooms_of t.cells) in
      ⊎_elim (λ (many : 64 < count_by is_input t.cells). absurd (within.limits _ _ (too_many_inputs many))) (λ h. omega (arith, a, h)) (below-or-past 64 (count_by is_input t.cells))

  pub outputs-few : length (flow t typed within).outputs ≤ 64
  outputs-few =
      let a = chosen-few programs.is_output is_output (λ k. refl) t.cells (rooms_of t.cells) in
      ⊎_elim (λ (many : 64 < count_by is_output t.cells). absurd (within.limits _ _ (too_many_outputs many))) (λ h. omega (arith, a, h)) (below-or-past 64 (count_by is_output t.cells))

  declared-long : (cells : List Cell) → length (declared_of cells) ≡ sum_by (λ (cell : Cell). cell.size) cells
  declared-long [] = refl
  declared-long (k ∷ cells) =
      length-append (replicate k.size k.start) (declared_of cells)
      ∙ (let a = length-replicate k.size k.start in let b = declared-long cells in let c = sum_by-cons (λ (cell : Cell). cell.size) k cells in omega (arith, a, b, c))

  pub declared-few : length (flow t typed within).declared ≤ 15000
  declared-few =
      let a = declared-long t.cells in
      ⊎_elim (λ (many : 15000 < sum_by (λ (cell : Cell). cell.size) t.cells). absurd (within.limits _ _ (too_many_words many))) (λ h. omega (arith, a, h)) (below-or-past 15000 (sum_by (λ (cell : Cell). cell.size) t.cells))

  module _ (writing : Writing) (short : WritesFew writing) where
    abbrev sizes : Sizes
    sizes = sizes_for writing bodies

    order : InOrder 0 bodies
    order = flow-in-order (program_of t) (fit t typed within)

    thread-less : (x : ℕ) → IsThread t typed within x → passage sizes bodies x ≤ slice_index_or (passages t.functions) x 0
    thread-less x h =
        let l = long t typed within in
        let below = there-below t.functions x h.0 h.1 in
        let a = passage-less bodies order (place t typed within (λ g. 0)) (λ p. words_in (writing.words_of p)) (λ q. words_in (writing.test_words_of q) + 2) short.steps (λ q. let e = short.tests q in omega (arith, e))
        (λ f is. let b = called-below t typed within (λ g. 0) f is in omega (arith, l, b)) (called-room t typed within (λ g. 0)) x (omega (arith, l, below)) (thread-has-room t typed within (λ g. 0) x h.0 h.1) in
        let b = passages-few (routines t typed within) x in
        let c = ap (λ list. count_at list x) (program_passes t) in
        let d = get-is (passages t.functions) x in
        omega (arith, a, b, c, d)

    single-less : program_passage t ≤ 2000000
    single-less = ⊎_elim (λ (long : 2000000 < program_passage t). absurd (within.limits _ _ (too_long long))) (λ h. h) (below-or-past 2000000 (program_passage t))

    weight-less : program_weight t ≤ 60000
    weight-less = ⊎_elim (λ (heavy : 60000 < program_weight t). absurd (within.limits _ _ (too_heavy heavy))) (λ h. h) (below-or-past 60000 (program_weight t))

    passages-less : passage sizes bodies t.main + sum_below starts (passage sizes bodies) (length bodies) ≤ 2000000
    passages-less =
        let size : ℕ → ℕ = λ x. slice_index_or (passages t.functions) x 0 in
        let a = sum-all t typed within (passage sizes bodies) in
        let b = total-mono (passage sizes bodies) size (t.main ∷ started t) (all-as (IsThread t typed within) (λ x. passage sizes bodies x ≤ size x) (t.main ∷ started t) thread-less all-threads) in
        let c = threads-worth t typed within size (t.main ∷ started t) all-threads (all-once t typed within) in
        let d = threads-sum t.functions (passages t.functions) (sym (passages-long [] t.functions ∙ omega arith)) in
        let e = single-less in
        omega (arith, a, b, c, d, e)

    pub words-less : bodies_words bodies + conditions_words (flow t typed within).aborts ≤ 60000
    words-less =
        let a = routines-words (routines t typed within) (routines t typed within) in
        let b = program_weighs t in
        let c = weight-less in
        omega (arith, a, b, c)

    conditions-less : (j : ℕ) → condition_words writing (flow t typed within) j ≤ 60002
    conditions-less j =
        let w = words-less in
        ⊎_elim (λ h. omega (arith, h, w)) (λ h. omega (arith, h)) (condition-less writing short (flow t typed within).aborts j)

    pub limits : (image : Parts) → image.inputs ≡ (flow t typed within).inputs → image.outputs ≡ (flow t typed within).outputs → IsWithinLimits image (flow t typed within) writing sizes
    limits image inputs outputs = record {
      main_is = main-there t typed within;
      once = once t typed within;
      few = few;
      passages = passages-less;
      conditions = conditions-less;
      ports = let a = ap length inputs in let b = ap length outputs in let c = inputs-few in let d = outputs-few in omega (arith, a, b, c, d);
      exact = λ g. (counts (λ p. words_in (writing.words_of p)) (λ q. words_in (writing.test_words_of q) + 2) bodies order g).exact;
    }
