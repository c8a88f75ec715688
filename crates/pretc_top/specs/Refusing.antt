-- How the refusal of a program ends a call.
use Rattle.std.specs.Prelude.{◌≡◌}
use Rattle.pt_base.specs.declared.Refusal.{Refusal}
use Rattle.pt_base.specs.declared.Refusal.TheVariants.{Broken, Memory}
use Rattle.pretc_run.specs.declared.endings.Ending.{Ending}
use Rattle.pretc_run.specs.declared.endings.Ending.TheVariants.{Refused, WantOfMemory}

abbrev pub ending_of : Refusal → Ending
ending_of (Broken rule span) = Refused rule span
ending_of Memory = WantOfMemory
