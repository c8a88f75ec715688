-- The command of borrowed names is that of the names.
use Rattle.std.specs.Prelude.{ℕ, List, Option, Some, None}
use Rattle.std.specs.Borrow.{Bor}
use Rattle.pretc_top.specs.declared.commands.Command.{Command}
use Rattle.pretc_top.specs.declared.commands.Command.TheVariants.{Go, Run, Check, Print, Rules, Mean, Gen, Job, Exec}

abbrev pub named : Command (Bor (List ℕ)) → Command (List ℕ)
named (Go program image) = Go program.now image.now
named (Run program costs image cert) = Run program.now costs.now image.now cert.now
named (Check image cert costs) = Check image.now cert.now costs.now
named (Print program) = Print program.now
named (Rules program) = Rules program.now
named (Mean program) = Mean program.now
named (Gen n) = Gen n
named (Job n) = Job n
named (Exec image cert costs) = Exec image.now cert.now costs.now
