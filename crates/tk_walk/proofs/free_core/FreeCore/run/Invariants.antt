use Rattle.std.proofs.Common.{◌≡◌, ◌≤◌, ◌+◌, ◌-◌, ℕ, suc}
use Rattle.mb_isa.specs.Tick.{run}
use Rattle.mb_isa.specs.Free.{free}
use Rattle.tk_walk.specs.Going.{left}
use Rattle.tk_walk.specs.Phases.{control_of, IsPhase}
use Rattle.tk_walk.proofs.free_core.FreeCore.run.Given as goal

-- the tick goes on from here, with fuel for all that is left
abbrev pub invariant-steps : goal.invariant-steps
invariant-steps l = record {
  within : l.charged ≤ l.most;
  phase : IsPhase l.phase l.self.unit;
  rest : (fuel : ℕ) × (l.most + 1 ≤ fuel + l.charged)
      × (run free l.image l.costs (suc l.most) l.most l.begin (control_of l.fn.start l.fn.self) (left l.choices l.fn.self) ≡ run free l.image l.costs fuel l.most l.charged (control_of l.phase l.self) (left l.choices l.self));
}

abbrev pub decreases-steps : goal.decreases-steps
decreases-steps l = l.most - l.charged
