-- A program's flow does in each tick what the program means.
use Rattle.std.proofs.Common.{◌≡◌, ℕ, zero, suc, ◌+◌, ◌<◌, Bool, List, [], ◌∷◌, ◌++◌, length, map, Option, Some, None, slice_get, refl, sym, ap, ◌∙◌, subst, arith, append_assoc, length-append}
use Rattle.std.specs.Prelude.{ℤ, unwrap_or}
use Rattle.pc_meaning.specs.Tree.{Expression, Statements, Routine, Program}
use Rattle.pc_lower.specs.Aborts.{aborts_of}
use Rattle.pc_meaning.specs.Values.{Store, value, value_or_zero, holds, set_all, set_locals}
use Rattle.pc_meaning.specs.Outcomes.{Residual, Outcome, Done, Paused}
use Rattle.pc_meaning.specs.Statements.{no_routine, routine_at, Known, known_at, start_all, resume, start_routine, starts_from, starts_of}
use Rattle.pc_meaning.specs.Runs.{words_at, Standing, Unstarted, At, Ended, Moment, moment_of, went, ticked, outputs_at, moments_from, meaning_of}
use Rattle.pc_lower.specs.declared.nodes.Place.TheVariants.{Temp as temp}
use Rattle.pc_lower.specs.Flow.{Temps, State, put_store, run, decides, straight, no_nodes, and, End, Through, Halted, state_of, then_do, Flows, flow_at, go, go_all, again, flows_from, flows_of, abort_at, is_weak, fires_of, Position, Fresh, Waits, Stopped, Point, point_of, goes, moved, shown_from, run_of}
use Rattle.pc_lower.specs.Lowered.{test_of, steps_of, locals_steps, nodes_of, rest_of, finished, body_of, bodies_of, conditions_of, flow_of}
use Rattle.pc_lower.specs.Sound.{Tidy, RestFits, RoutineFits, RoutinesFit, ProgramFits}
use Rattle.pc_meaning.specs.Promises.{IsDone}
use Rattle.pc_lower.specs.Laws.{Same, SameFrom, OutcomeFits, IsLowered}
use Rattle.pc_lower.proofs.Values.{leaves_value}
use Rattle.pc_lower.proofs.Moves.{locals_set, test_decides}
use Rattle.pc_meaning.proofs.Lookups.{slice_get_middle, both_grow}
use Rattle.pc_lower.proofs.StatementFacts.{same_start_all}
use Rattle.pc_lower.proofs.Going.{same_resume, fits_start_all, fits_resume, outcome_more}
use Rattle.pc_meaning.proofs.Pausing.{none_pauses}

-- a result that stays in temporary 0
abbrev Back : Option Expression → (State → End) → Type 0
Back result g = (e : Expression) → result ≡ Some e → (w : State) → (state_of (g w)).temps (temp 0) ≡ value e (state_of (g w)).store

with_result : (routines : List Routine) (flows : Flows) (e : Expression) (o : Outcome) (end : End) → IsDone o → Same routines o end → Same routines o (then_do end (and (straight (steps_of e 0)) no_nodes) (go_all flows (and (straight (steps_of e 0)) no_nodes)))
with_result routines flows e (Done store) (Through w) done h = (leaves_value e 0 w).store ∙ h
with_result routines flows e (Done store) (Halted q w) done h = absurd h
with_result routines flows e (Paused r store) end done h = absurd done

result_there : (routines : List Routine) (flows : Flows) (e : Expression) (o : Outcome) (end : End) → IsDone o → Same routines o end →
    let last = state_of (then_do end (and (straight (steps_of e 0)) no_nodes) (go_all flows (and (straight (steps_of e 0)) no_nodes))) in
    last.temps (temp 0) ≡ value e last.store
result_there routines flows e (Done store) (Through w) done h = (leaves_value e 0 w).there ∙ ap (value e) (sym (leaves_value e 0 w).store)
result_there routines flows e (Done store) (Halted q w) done h = absurd h
result_there routines flows e (Paused r store) end done h = absurd done

module _ (routines : List Routine) (aborts : List (Bool × Expression)) where
  -- what is known of a function and of its body
  pub record Meets (n : ℕ) (f : Store → Outcome) (g : State → End) : Type 0 where
    pub same : SameFrom routines f g
    pub back : Back (routine_at routines n).result g
    pub fits : (store : Store) → OutcomeFits routines aborts n (f store)

  record AllMeet (known : Known) (flows : Flows) : Type 0 where
    pub long : length known ≡ length flows
    pub each_meets : (f : ℕ) → f < length known → Meets f (known_at known f) (flow_at flows f)

  module _ (known : Known) (flows : Flows) (all : AllMeet known flows) where
    body_same : (result : Option Expression) (body : Statements) → Tidy result body → SameFrom routines (start_all routines known body) (go_all flows (nodes_of routines body)) → SameFrom routines (start_all routines known body) (go_all flows (finished routines result (nodes_of routines body)))
    body_same None body tidy same store w is = same store w is
    body_same (Some e) body tidy same store w is =
        with_result routines flows e (start_all routines known body store) (go_all flows (nodes_of routines body) w) (none_pauses routines known body tidy store) (same store w is)

    body_back : (result : Option Expression) (body : Statements) → Tidy result body → SameFrom routines (start_all routines known body) (go_all flows (nodes_of routines body)) → Back result (go_all flows (finished routines result (nodes_of routines body)))
    body_back None body tidy same e is w = cc
    body_back (Some d) body tidy same e is w =
        result_there routines flows d (start_all routines known body w.store) (go_all flows (nodes_of routines body) w) (none_pauses routines known body tidy w.store) (same w.store w refl)
        ∙ ap (λ o. value_or_zero o (state_of (go_all flows (finished routines (Some d) (nodes_of routines body)) w)).store) is

    meets_new : (r : Routine) → routine_at routines (length known) ≡ r → RoutineFits routines aborts (length known) r → Meets (length known) (start_routine routines known r) (go flows (body_of routines r))
    meets_new r is fits =
        let same : SameFrom routines (start_all routines known r.body) (go_all flows (nodes_of routines r.body)) =
        same_start_all routines known flows (length known) (λ f less. (all.each_meets f less).same) aborts (λ f less. (all.each_meets f less).back) r.body fits.body in
        record {
          same = λ store w here. body_same r.result r.body fits.tidy same (set_locals r.locals store) (run (locals_steps r.locals) w) (locals_set r.locals w ∙ ap (set_locals r.locals) here);
          back = subst (λ o. Back o.result (go flows (body_of routines r))) (sym is) (λ e some w. body_back r.result r.body fits.tidy same e some (run (locals_steps r.locals) w));
          fits = λ store. fits_start_all routines aborts known (length known) (λ f less later. outcome_more routines aborts f (length known) (omega arith) (known_at known f later) ((all.each_meets f less).fits later)) r.body fits.body (set_locals r.locals store);
        }

  all_grow : (known : Known) (flows : Flows) (f : Store → Outcome) (g : State → End) → AllMeet known flows → Meets (length known) f g → AllMeet (known ++ f ∷ []) (flows ++ g ∷ [])
  all_grow known flows f g all new =
      let a = length-append known (f ∷ []) in
      let b = length-append flows (g ∷ []) in
      record {
        long = omega (arith, a, b, all.long);
        each_meets = λ k less. both_grow Meets Done Through known flows f g all.long all.each_meets new k (omega (arith, a, less));
      }

  all_meet : (rest front : List Routine) (n : ℕ) (known : Known) (flows : Flows) → front ++ rest ≡ routines → length known ≡ length front → n ≡ length known → AllMeet known flows → RoutinesFit routines aborts n rest →
      AllMeet (starts_from routines known rest) (flows_from flows (bodies_of routines rest)) × (length (starts_from routines known rest) ≡ length known + length rest)
  all_meet [] front n known flows whole long is all fits = (all, omega arith)
  all_meet (r ∷ rest) front n known flows whole long is all fits =
      let here : routine_at routines (length known) ≡ r = ap (λ l. routine_at l (length known)) (sym whole) ∙ ap (routine_at (front ++ r ∷ rest)) long ∙ ap (λ o. unwrap_or o no_routine) (slice_get_middle front r rest) in
      let new = meets_new known flows all r here (subst (λ k. RoutineFits routines aborts k r) is fits.0) in
      let a = length-append known (start_routine routines known r ∷ []) in
      let b = length-append front (r ∷ []) in
      let more = all_meet rest (front ++ r ∷ []) (suc n) (known ++ start_routine routines known r ∷ []) (flows ++ go flows (body_of routines r) ∷ []) (append_assoc front (r ∷ []) rest ∙ whole) (omega (arith, a, b, long)) (omega (arith, a, is))
      (all_grow known flows (start_routine routines known r) (go flows (body_of routines r)) all new) fits.1 in
      (more.0, omega (arith, a, more.1))

-- ---- conditions

abort_at-is : (aborts : List (Bool × Expression)) (j : ℕ) (a : Bool × Expression) → slice_get aborts j ≡ Some a → abort_at (conditions_of aborts) j ≡ (a.0, test_of a.1)
abort_at-is [] j a is = cc
abort_at-is (b ∷ aborts) zero a is = ap (λ o. abort_at (conditions_of (unwrap_or o b ∷ [])) 0) is
abort_at-is (b ∷ aborts) (suc j) a is = abort_at-is aborts j a is

agree : (aborts : List (Bool × Expression)) (before : Store) (w : State) → w.store ≡ before → (j : ℕ) (a : Bool × Expression) → slice_get aborts j ≡ Some a → (is_weak (conditions_of aborts) j ≡ a.0) × (fires_of (conditions_of aborts) w j ≡ holds a.1 before)
agree aborts before w here j a is =
    let e = abort_at-is aborts j a is in
    (ap (λ x. x.0) e, ap (λ x. decides x.1 w) e ∙ test_decides a.1 w ∙ ap (holds a.1) here)

-- ---- ticks

module _ (p : Program) (fit : ProgramFits p) where
  abbrev pub SamePosition : Standing → Position → Type 0
  SamePosition Unstarted Fresh = Unit {0}
  SamePosition Unstarted (Waits q) = ⊥
  SamePosition Unstarted Stopped = ⊥
  SamePosition (At r) Fresh = ⊥
  SamePosition (At r) (Waits q) = (q ≡ rest_of p.routines r) × RestFits p.routines (aborts_of p.routines) (length p.routines) r
  SamePosition (At r) Stopped = ⊥
  SamePosition Ended Fresh = ⊥
  SamePosition Ended (Waits q) = ⊥
  SamePosition Ended Stopped = Unit {0}

  pub record SamePoint (m : Moment) (q : Point) : Type 0 where
    pub position : SamePosition m.standing q.position
    pub store : q.state.store ≡ m.store

  same_end : (o : Outcome) (e : End) → Same p.routines o e → OutcomeFits p.routines (aborts_of p.routines) (length p.routines) o → SamePoint (moment_of o) (point_of e)
  same_end (Done store) (Through w) h fits = record { position = tt; store = h }
  same_end (Done store) (Halted q w) h fits = absurd h
  same_end (Paused r store) (Through w) h fits = absurd h
  same_end (Paused r store) (Halted q w) h fits = record { position = (h.0, fits); store = h.1 }

  all : AllMeet p.routines (aborts_of p.routines) (starts_of p.routines) (flows_of (bodies_of p.routines p.routines)) × (length (starts_of p.routines) ≡ 0 + length p.routines)
  all = all_meet p.routines (aborts_of p.routines) p.routines [] 0 [] [] refl refl refl (record { long = refl; each_meets = λ f less. absurd (omega arith) }) fit.routines

  count_is : length (starts_of p.routines) ≡ length p.routines
  count_is = omega (arith, all.1)

  pub meets_at : (f : ℕ) → f < length p.routines → Meets p.routines (aborts_of p.routines) f (known_at (starts_of p.routines) f) (flow_at (flows_of (bodies_of p.routines p.routines)) f)
  meets_at f less = all.0.each_meets f (omega (arith, less, all.1))

  fits_at : (f : ℕ) → f < length p.routines → (store : Store) → OutcomeFits p.routines (aborts_of p.routines) (length p.routines) (known_at (starts_of p.routines) f store)
  fits_at f less store = outcome_more p.routines (aborts_of p.routines) f (length p.routines) (omega arith) (known_at (starts_of p.routines) f store) ((meets_at f less).fits store)

  same_went : (s : Standing) (q : Position) → SamePosition s q → (before : Store) (b : State) → b.store ≡ before → (store : Store) (w : State) → w.store ≡ store → SamePoint (moment_of (went p s before store)) (point_of (goes (flow_of p) q b w))
  same_went Unstarted Fresh h before b was store w is =
      same_end (known_at (starts_of p.routines) p.main store) (flow_at (flows_of (bodies_of p.routines p.routines)) p.main w) ((meets_at p.main fit.main).same store w is) (fits_at p.main fit.main store)
  same_went Unstarted (Waits q) h before b was store w is = absurd h
  same_went Unstarted Stopped h before b was store w is = absurd h
  same_went (At r) Fresh h before b was store w is = absurd h
  same_went (At r) (Waits q) h before b was store w is =
      let flows = flows_of (bodies_of p.routines p.routines) in
      let weak = is_weak (conditions_of (aborts_of p.routines)) in
      let fires = fires_of (conditions_of (aborts_of p.routines)) b in
      subst (λ x. SamePoint (moment_of (resume p.routines (starts_of p.routines) before r store)) (point_of (again flows weak fires x w))) (sym h.0) (
      same_end (resume p.routines (starts_of p.routines) before r store) (again flows weak fires (rest_of p.routines r) w)
      (same_resume p.routines (starts_of p.routines) flows (length p.routines) (λ f less. (meets_at f less).same) (aborts_of p.routines) (λ f less. (meets_at f less).back) weak fires before (agree (aborts_of p.routines) before b was) r h.1 store w is)
      (fits_resume p.routines (aborts_of p.routines) (starts_of p.routines) (length p.routines) fits_at before r h.1 store)
      )
  same_went (At r) Stopped h before b was store w is = absurd h
  same_went Ended Fresh h before b was store w is = absurd h
  same_went Ended (Waits q) h before b was store w is = absurd h
  same_went Ended Stopped h before b was store w is = same_end (Done store) (Through w) is tt

  pub same_tick : (m : Moment) (q : Point) → SamePoint m q → (row : List ℤ) → SamePoint (ticked p m row) (moved (flow_of p) q row)
  same_tick m q h row =
      same_went m.standing q.position h.position m.store q.state h.store (set_all p.inputs row m.store) (put_store (set_all p.inputs row q.state.store) q.state) (ap (set_all p.inputs row) h.store)

  same_shown : (rows : List (List ℤ)) (m : Moment) (q : Point) → SamePoint m q → shown_from (flow_of p) q rows ≡ map (outputs_at p) (moments_from p m rows)
  same_shown [] m q h = refl
  same_shown (row ∷ rows) m q h =
      let t = same_tick m q h row in
      ap (λ s. words_at p.outputs s ∷ shown_from (flow_of p) (moved (flow_of p) q row) rows) t.store
      ∙ ap (λ l. words_at p.outputs (ticked p m row).store ∷ l) (same_shown rows (ticked p m row) (moved (flow_of p) q row) t)

  pub same_run : (temps : Temps) (rows : List (List ℤ)) → run_of (flow_of p) temps rows ≡ meaning_of p rows
  same_run temps rows = same_shown rows (record { standing = Unstarted; store = p.declared }) (record { position = Fresh; state = record { store = p.declared; temps = temps } }) (record { position = tt; store = refl })

  resumes_at : (before : Store) (b : State) → b.store ≡ before → (r : Residual) → RestFits p.routines (aborts_of p.routines) (length p.routines) r →
      SameFrom p.routines (resume p.routines (starts_of p.routines) before r) (again (flows_of (bodies_of p.routines p.routines)) (is_weak (conditions_of (aborts_of p.routines))) (fires_of (conditions_of (aborts_of p.routines)) b) (rest_of p.routines r))
  resumes_at before b was r fits =
      same_resume p.routines (starts_of p.routines) (flows_of (bodies_of p.routines p.routines)) (length p.routines) (λ f less. (meets_at f less).same) (aborts_of p.routines) (λ f less. (meets_at f less).back) (is_weak (conditions_of (aborts_of p.routines))) (fires_of (conditions_of (aborts_of p.routines)) b) before (agree (aborts_of p.routines) before b was) r fits

  pub is_lowered : IsLowered p
  is_lowered = record {
    starts = λ f less. (meets_at f less).same;
    resumes = resumes_at;
    leaves = fits_at;
    keeps = λ before r fits store. fits_resume p.routines (aborts_of p.routines) (starts_of p.routines) (length p.routines) fits_at before r fits store;
  }
