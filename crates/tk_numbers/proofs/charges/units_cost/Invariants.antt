use Rattle.std.proofs.Common.{◌≡◌, ◌+◌, ◌-◌, ◌*◌, ◌≤◌}
use Rattle.tk_paths.specs.Regions.{units_cost}
use Rattle.tk_numbers.proofs.charges.units_cost.Given as goal

abbrev pub invariant-loop : goal.invariant-loop
invariant-loop l = record {
  near : l.at ≤ l.place + 2 * l.counter;
  exact : l.total + units_cost l.image l.costs l.at (l.count - l.counter) ≡ units_cost l.image l.costs l.place l.count;
}
