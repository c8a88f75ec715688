-- What the tests' machines have: two inputs and one output.
use Rattle.std.specs.Prelude.{◌≡◌, length}
use Rattle.mb_core.specs.Machine.{Whole}

abbrev pub HasPorts : Whole → Type 0
HasPorts m = (length m.image.inputs ≡ 2) × (length m.image.outputs ≡ 1)
