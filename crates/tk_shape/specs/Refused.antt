-- The first demand that fails, as the judge says it.
use Rattle.std.specs.Prelude.{List, Option, option_map}
use Rattle.tk_cert.specs.Demands.{Demand, first_failing}
use Rattle.tk_shape.specs.declared.refusal.Refusal.{Refusal}

abbrev pub refusal_of : Demand → Refusal
refusal_of d = record { condition = d.condition; at = d.at; level = d.level; needed = d.needed; given = d.given }

abbrev pub refused : List Demand → Option Refusal
refused ds = option_map refusal_of (first_failing ds)
