-- A tick of the flow of a program does the same whatever the temporaries hold.
use Rattle.std.proofs.Common.{◌≡◌, length, List, refl, sym, ◌∙◌, subst}
use Rattle.pc_meaning.specs.Tree.{Program, Routine}
use Rattle.pc_meaning.specs.Outcomes.{Outcome, Done, Paused, Residual}
use Rattle.pc_meaning.specs.Statements.{known_at, starts_of, resume}
use Rattle.pc_lower.specs.Flow.{State, End, Through, Halted, flow_at, flows_of, again, is_weak, fires_of, Position, Fresh, Waits, Stopped, point_of, goes}
use Rattle.pc_lower.specs.Lowered.{rest_of, flow_of}
use Rattle.pc_lower.specs.Aborts.{aborts_of}
use Rattle.pc_lower.specs.Sound.{RestFits, ProgramFits}
use Rattle.pc_lower.specs.Laws.{Same, OutcomeFits, IsLowered}
use Rattle.pc_lower.proofs.Whole.{is_lowered}
use Rattle.pc_lower.specs.Runs.{SameEnd, IsSteady}

same-ends : (routines : List Routine) (o : Outcome) (e f : End) → Same routines o e → Same routines o f → SameEnd e f
same-ends routines (Done store) (Through w) (Through v) h k = h ∙ sym k
same-ends routines (Done store) (Through w) (Halted q v) h k = absurd k
same-ends routines (Done store) (Halted q w) f h k = absurd h
same-ends routines (Paused r store) (Through w) f h k = absurd h
same-ends routines (Paused r store) (Halted q w) (Through v) h k = absurd k
same-ends routines (Paused r store) (Halted q w) (Halted u v) h k = (h.0 ∙ sym k.0, h.1 ∙ sym k.1)

module _ (p : Program) (fit : ProgramFits p) where
  -- what is left is that of something left of the program
  abbrev pub Kept : Position → Type 0
  Kept Fresh = Unit {0}
  Kept (Waits q) = (r : Residual) × (q ≡ rest_of p.routines r) × RestFits p.routines (aborts_of p.routines) (length p.routines) r
  Kept Stopped = Unit {0}

  low : IsLowered p
  low = is_lowered p fit

  kept-after : (o : Outcome) (e : End) → Same p.routines o e → OutcomeFits p.routines (aborts_of p.routines) (length p.routines) o → Kept (point_of e).position
  kept-after (Done store) (Through w) h fits = tt
  kept-after (Done store) (Halted q w) h fits = absurd h
  kept-after (Paused r store) (Through w) h fits = absurd h
  kept-after (Paused r store) (Halted q w) h fits = (r, h.0, fits)

  steady-same : (place : Position) → Kept place → (b c w v : State) → b.store ≡ c.store → w.store ≡ v.store → SameEnd (goes (flow_of p) place b w) (goes (flow_of p) place c v)
  steady-same Fresh kept b c w v before here =
      same-ends p.routines (known_at (starts_of p.routines) p.main w.store) _ _ (low.starts p.main fit.main w.store w refl) (low.starts p.main fit.main w.store v (sym here))
  steady-same (Waits q) kept b c w v before here =
      let r = kept.0 in
      let weak = is_weak (flow_of p).aborts in
      let flows = flows_of (flow_of p).bodies in
      subst (λ x. SameEnd (again flows weak (fires_of (flow_of p).aborts b) x w) (again flows weak (fires_of (flow_of p).aborts c) x v)) (sym kept.1)
      (same-ends p.routines (resume p.routines (starts_of p.routines) b.store r w.store) _ _
      (low.resumes b.store b refl r kept.2 w.store w refl) (low.resumes b.store c (sym before) r kept.2 w.store v (sym here)))
  steady-same Stopped kept b c w v before here = here

  steady-keeps : (place : Position) → Kept place → (b w : State) → Kept (point_of (goes (flow_of p) place b w)).position
  steady-keeps Fresh kept b w =
      kept-after (known_at (starts_of p.routines) p.main w.store) (flow_at (flows_of (flow_of p).bodies) p.main w) (low.starts p.main fit.main w.store w refl) (low.leaves p.main fit.main w.store)
  steady-keeps (Waits q) kept b w =
      let r = kept.0 in
      let weak = is_weak (flow_of p).aborts in
      let flows = flows_of (flow_of p).bodies in
      subst (λ x. Kept (point_of (again flows weak (fires_of (flow_of p).aborts b) x w)).position) (sym kept.1)
      (kept-after (resume p.routines (starts_of p.routines) b.store r w.store) (again flows weak (fires_of (flow_of p).aborts b) (rest_of p.routines r) w)
      (low.resumes b.store b refl r kept.2 w.store w refl) (low.keeps b.store r kept.2 w.store))
  steady-keeps Stopped kept b w = tt

  pub steady : IsSteady (flow_of p) Kept
  steady = record { fresh = tt; same = steady-same; keeps = steady-keeps }
