use Rattle.std.proofs.Common.{◌≡◌, ◌+◌, ◌-◌, ◌*◌, ◌≤◌, ◌++◌}
use Rattle.tk_numbers.specs.Units.{places_from}
use Rattle.tk_numbers.proofs.units.places_from.Given as goal

abbrev pub invariant-loop : goal.invariant-loop
invariant-loop l = record {
  near : l.at ≤ l.place + 2 * l.counter;
  places : l.places.items ++ places_from l.image l.at (l.count - l.counter) ≡ places_from l.image l.place l.count;
}
