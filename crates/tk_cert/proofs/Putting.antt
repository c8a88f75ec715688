-- What is put at the end in several steps.
use Rattle.std.proofs.Common.{append_assoc}

pub ruleset in_order = (append_assoc)
