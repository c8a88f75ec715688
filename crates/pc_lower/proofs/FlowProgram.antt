-- What an accepted program's functions keep.
use Rattle.std.proofs.Common.{◌≡◌, ◌⊎◌, ℕ, ◌+◌, ◌<◌, ◌≤◌, Bool, true, false, not, ◌&&◌, ◌||◌, List, [], ◌∷◌, map, length, Some, ⊎_elim, refl, sym, ap, subst, ◌∙◌, arith}
use Rattle.std.specs.Prelude.{IsTrue, Contains, slice_get, unwrap_or, nat_lt}
use Rattle.std.specs.List.{AllByRecursion, list_any}
use Rattle.std.proofs.lemmas.List.{length-map}
use Rattle.std.proofs.lemmas.Option.{slice_get_past}
use Rattle.std.proofs.lemmas.Bool.Decides.{Decides-ltb}
use Rattle.pt_base.proofs.Elements.{in_left, in_right}
use Rattle.pc_grammar.specs.declared.statements.Stmt.{Stmt}
use Rattle.pc_grammar.specs.declared.typed.Function.{Function}
use Rattle.pc_grammar.specs.Uses.{Use, joined, value_uses, statements_uses, holds_pause}
use Rattle.pc_grammar.specs.Typing.{Typing}
use Rattle.pc_grammar.specs.Keeping.{IsTyped}
use Rattle.pc_grammar.specs.Meant.{NamesRoutine, NamesThread, IsMeant, MeansWell}
use Rattle.pc_grammar.proofs.Scalars.{means_well}
use Rattle.pc_grammar.proofs.FirstPassing.{contains_get}
use Rattle.pc_rules.specs.Known.{known_of}
use Rattle.pc_rules.specs.Nests.{greatest, called_height, function_height, heights}
use Rattle.pc_rules.specs.Judging.{height as too_high, IsWithin}
use Rattle.pc_meaning.specs.declared.places.Room.{Room}
use Rattle.pc_meaning.specs.Tree.{Statements, Routine}
use Rattle.pc_meaning.specs.Promises.{some_pauses, finishing_of}
use Rattle.pc_meaning.specs.Programs.{rooms_of, Numbering, numbering_of, statements_of, routine_of, program_of}
use Rattle.pc_meaning.proofs.Bridge.{same_pause}
use Rattle.pc_lower.specs.Flow.{Node, Flow, flows_of}
use Rattle.pc_lower.specs.Residuals.{body_at}
use Rattle.pc_lower.specs.Lowered.{body_of}
use Rattle.pc_lower.specs.Aborts.{aborts_of}
use Rattle.pc_lower.specs.Sound.{AllFit, ProgramFits}
use Rattle.pc_lower.specs.Loops.{AllLoopsKept}
use Rattle.pc_lower.proofs.Promised.{typed_fits}
use Rattle.pc_lower.proofs.Lasting.{loops_kept}
use Rattle.pc_lower.proofs.Going.{all_more}
use Rattle.pc_lower.specs.Laid.{Placing}
use Rattle.pc_lower.specs.Limits.{threads_of, started_by}
use Rattle.pc_lower.specs.Numbering.{slots_of, function_of}
use Rattle.pc_lower.proofs.Numbering.{slots-are}
use Rattle.pc_lower.specs.Placing.{runs_in_slot, typed_flow, placing_of}
use Rattle.pc_lower.proofs.Order.{bodies-long, flow-in-order}
use Rattle.pc_lower.proofs.Shapes.{Anything, AllName, all-name-both, AllNest, threads_in_all}
use Rattle.pc_lower.proofs.Room.{IsLow}
use Rattle.pc_lower.proofs.Nesting.{function-nests, good-nests}
use Rattle.pc_lower.proofs.Naming.{body-names}
use Rattle.pc_lower.proofs.Heights.{body-low, height-at, height-before, height-own}
use Rattle.pc_lower.proofs.Functions.{body-there, fits-there, kept-there, map-there, there-below, some-there}
use Rattle.pc_lower.proofs.FlowThreads.{body-starts, all-threads-keep, all-started-keep, all-get, any-there}

module _ (t : Typing) (typed : IsTyped t) (within : IsWithin t) where
  abbrev pub rooms : List Room
  rooms = rooms_of t.cells

  abbrev pub numbers : Numbering
  numbers = numbering_of t.functions

  abbrev pub routines : List Routine
  routines = (program_of t).routines

  abbrev pub flow : Flow
  flow = typed_flow t

  abbrev pub body : Function → Statements
  body g = statements_of rooms numbers g.body

  abbrev pub routine : Function → Routine
  routine g = routine_of rooms numbers g

  well : MeansWell t
  well = means_well t typed

  pub fit : ProgramFits (program_of t)
  fit = typed_fits t typed

  pub long : length flow.bodies ≡ length t.functions
  long = bodies-long routines routines ∙ length-map t.functions (routine_of rooms numbers)

  pub main-there : flow.main < length flow.bodies
  main-there = let m = fit.main in let b = bodies-long routines routines in omega (arith, m, b)

  module _ (i : ℕ) (g : Function) (there : slice_get t.functions i ≡ Some g) where
    pub routine-there : slice_get routines i ≡ Some (routine g)
    routine-there = map-there (routine_of rooms numbers) t.functions i g there

    pub body-is : body_at flow.bodies i ≡ body_of routines (routine g)
    body-is = body-there routines routines i (routine g) routine-there

    pub fits : AllFit routines (aborts_of routines) (length routines) (body g)
    fits =
        let h = fits-there routines (aborts_of routines) routines 0 i (routine g) routine-there fit.routines in
        let below = there-below routines i (routine g) routine-there in
        all_more routines (aborts_of routines) (0 + i) (length routines) (omega (arith, below)) (body g) h.body

    pub kept : AllLoopsKept (finishing_of routines) (body g)
    kept = kept-there (finishing_of routines) routines i (routine g) routine-there (loops_kept t within)

    pub nests : AllNest 0 0 (body g)
    nests = function-nests rooms numbers t.functions g (contains_get t.functions i g there) (good-nests t within)

    meant : (u : Use ℕ) → Contains (statements_uses g.body) u → IsMeant t i g u
    meant u h = well.meant i g there u (in_right (joined (map (λ p. value_uses p.1) g.locals)) _ u (in_left (statements_uses g.body) (value_uses g.result) u h))

    pub names : (Called Started : ℕ → Type 0) → ((k arguments : ℕ) (taken : Bool) → NamesRoutine t i arguments taken k → Called k) → ((k : ℕ) → NamesThread t i k → Started k) → AllName Called Started (body g)
    names Called Started callable startable = body-names t i g rooms numbers Called Started callable startable g.body meant

  paused : (all : List (Stmt ℕ)) → some_pauses (statements_of rooms numbers all) ≡ list_any holds_pause all
  paused [] = refl
  paused (s ∷ all) = ap (λ b. b || some_pauses (statements_of rooms numbers all)) (same_pause rooms numbers s) ∙ ap (λ b. holds_pause s || b) (paused all)

  -- a routine pauses nowhere
  pub calm-body : (i : ℕ) (g : Function) → slice_get t.functions i ≡ Some g → g.thread ≡ false → some_pauses (body g) ≡ false
  calm-body i g there calm = paused g.body ∙ well.runs i g there calm

  -- ---- threads

  abbrev pub IsThread : ℕ → Type 0
  IsThread k = (g : Function) × (slice_get t.functions k ≡ Some g) × (g.thread ≡ true)

  is-thread : (i k : ℕ) → NamesThread t i k → IsThread k
  is-thread i k m = (m.thread, m.at, m.is_thread)

  pub started-is : (i : ℕ) (g : Function) → slice_get t.functions i ≡ Some g → started_by flow.bodies i ≡ threads_in_all (body g)
  started-is i g there = ap threads_of (body-is i g there) ∙ body-starts routines (finishing_of routines) (routine g) (kept i g there)

  pub started-threads : (i : ℕ) → AllByRecursion IsThread (started_by flow.bodies i)
  started-threads i = ⊎_elim (λ less. inside less) (λ past. outside past) (Rattle.pc_lower.proofs.Earlier.below-or-past i (length t.functions))
    where
      inside : i < length t.functions → AllByRecursion IsThread (started_by flow.bodies i)
      inside less =
          let h = some-there t.functions i less in
          let all = all-threads-keep Anything IsThread (body h.0) (names i h.0 h.1 Anything IsThread (λ k arguments taken m. tt) (is-thread i)) in
          subst (AllByRecursion IsThread) (sym (started-is i h.0 h.1)) all

      outside : length t.functions ≤ i → AllByRecursion IsThread (started_by flow.bodies i)
      outside past =
          let e : body_at flow.bodies i ≡ Rattle.pc_lower.specs.Flow.sequence Rattle.pc_lower.specs.Flow.no_nodes = ap (λ o. unwrap_or o (Rattle.pc_lower.specs.Flow.sequence Rattle.pc_lower.specs.Flow.no_nodes)) (slice_get_past flow.bodies i (let l = long in omega (arith, l, past))) in
          subst (λ n. AllByRecursion IsThread (threads_of n)) (sym e) tt

  pub slots-threads : AllByRecursion IsThread (slots_of flow)
  slots-threads =
      subst (AllByRecursion IsThread) (sym (slots-are flow (flow-in-order (program_of t) fit) main-there))
      ((well.main.function, well.main.at, well.main.is_thread), all-started-keep IsThread flow.bodies started-threads (slots_of flow))

  pub slot-thread : (c : ℕ) → c < length (slots_of flow) → IsThread (function_of flow c)
  slot-thread c less = all-get IsThread (slots_of flow) c less slots-threads

  -- ---- routines

  both : (a b : Bool) → a ≡ true → b ≡ true → (a && b) ≡ true
  both true true p q = refl
  both true false p q = q
  both false b p q = p

  pub no-slot : (k : ℕ) (g : Function) → slice_get t.functions k ≡ Some g → g.thread ≡ false → runs_in_slot flow k ≡ false
  no-slot k g there calm = by (runs_in_slot flow k) refl
    where
      by : (b : Bool) → runs_in_slot flow k ≡ b → runs_in_slot flow k ≡ false
      by false e = e
      by true e =
          let h = any-there k (slots_of flow) e in
          let s = subst IsThread h.2 (slot-thread h.0 h.1) in
          let same : Some s.0 ≡ Some g = sym s.1 ∙ there in
          let one : s.0 ≡ g = cc in
          let bad : true ≡ false = sym s.2 ∙ ap (λ (x : Function). x.thread) one ∙ calm in
          absurd (cc)

  pub may-be-called : (entrance : ℕ → ℕ) (k : ℕ) (g : Function) → slice_get t.functions k ≡ Some g → g.thread ≡ false → IsTrue ((placing_of t entrance).called k)
  may-be-called entrance k g there calm =
      both (nat_lt k (length t.functions)) (not (runs_in_slot flow k)) ((Decides-ltb k (length t.functions)).1 (there-below t.functions k g there)) (ap not (no-slot k g there calm))

  abbrev pub height : ℕ → ℕ
  height k = known_of (heights t.functions) k

  height-is : (i : ℕ) (g : Function) (there : slice_get t.functions i ≡ Some g) → height i ≡ function_height (height-at t.functions i g there).known g
  height-is i g there = ap (λ o. unwrap_or o 0) (height-own (heights t.functions) i g (height-at t.functions i g there))

  pub some-height : (i : ℕ) (g : Function) → slice_get t.functions i ≡ Some g → 1 ≤ height i
  some-height i g there = let e = height-is i g there in omega (arith, e)

  pub low-height : (i : ℕ) (g : Function) → slice_get t.functions i ≡ Some g → g.thread ≡ false → height i ≤ 16
  low-height i g there calm =
      let h = height-at t.functions i g there in
      let own = height-own (heights t.functions) i g h in
      let e = height-is i g there in
      ⊎_elim (λ (past : 16 < height i). absurd (within.limits _ _ (too_high i (function_height h.known g) g there own calm (omega (arith, past, e))))) (λ low. low) (by 16 (height i))
    where
      by : (a b : ℕ) → (a < b) ⊎ (b ≤ a)
      by a b = Rattle.pc_lower.proofs.Earlier.below-or-past a b

  module _ (entrance : ℕ → ℕ) where
    abbrev pub placing : Placing
    placing = placing_of t entrance

    callable : (i k arguments : ℕ) (taken : Bool) → NamesRoutine t i arguments taken k → IsLow placing height 17 k
    callable i k arguments taken m =
        (may-be-called entrance k m.routine m.at m.no_thread, some-height k m.routine m.at, (let l = low-height k m.routine m.at m.no_thread in omega (arith, l)))

    -- what is called anywhere is low
    pub calls-low : (i : ℕ) (g : Function) → slice_get t.functions i ≡ Some g → AllName (IsLow placing height 17) Anything (body g)
    calls-low i g there = names i g there (IsLow placing height 17) Anything (callable i) (λ k m. tt)

    abbrev IsLowBefore : ℕ → ℕ → Type 0
    IsLowBefore i k = IsLow placing height 17 k × (k < i)

    -- and lower than what calls it
    pub calls-lower : (i : ℕ) (g : Function) → slice_get t.functions i ≡ Some g → AllName (IsLow placing height (height i)) Anything (body g)
    calls-lower i g there =
        let h = height-at t.functions i g there in
        let under = body-low rooms numbers h.known (greatest (map (called_height h.known) g.body)) g.body (omega arith) in
        all-name-both (IsLowBefore i) (λ k. known_of h.known k ≤ greatest (map (called_height h.known) g.body)) (IsLow placing height (height i)) Anything
        (λ k low less.
        let same = height-before (heights t.functions) i g h k low.1 in
        let own = height-is i g there in
        (low.0.0, low.0.1, omega (arith, same, own, less)))
        (body g) (names i g there (IsLowBefore i) Anything (λ k arguments taken m. (callable i k arguments taken m, m.earlier)) (λ k m. tt)) under
