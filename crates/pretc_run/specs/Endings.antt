-- How a call ends: docs/commands.md, "Statuses".
use Rattle.std.specs.Prelude.{ℕ, List, [], codes}
use Rattle.pt_trace.specs.Refused.{refused_line, trace_line, trap_line, costs_line, cost_line}
use Rattle.tk_cert.specs.CostTables.{key_of}
use Rattle.pt_trace.specs.Verdict.{no_line, image_line, cert_line}
use Rattle.pretc_run.specs.declared.endings.Ending.{Ending}
use Rattle.pretc_run.specs.declared.endings.Ending.TheVariants as end

-- the exit status
abbrev pub number_of : Ending → ℕ
number_of end.Done = 0
number_of (end.Refused rule span) = 1
number_of end.Usage = 2
number_of end.ReadFault = 3
number_of end.WantOfMemory = 5
number_of (end.BadCosts rule) = 6
number_of (end.BadCost rule class) = 6
number_of (end.BadTrace rule line) = 7
number_of (end.BadImage number) = 8
number_of (end.BadCert number) = 8
number_of (end.NotAccepted condition at level needed given) = 9
number_of (end.Trapped at tick) = 10
number_of end.StoreFault = 11
number_of end.NoFile = 17

-- the status of a call whose sink failed
abbrev pub write_fault : ℕ
write_fault = 4

-- the line that is printed last; a command that is done has a line of its own
abbrev pub line_of : Ending → List ℕ
line_of end.Done = []
line_of (end.Refused rule span) = refused_line rule span.from span.to
line_of end.Usage = codes "usage\n"
line_of end.ReadFault = codes "read fault\n"
line_of end.WantOfMemory = codes "want of memory\n"
line_of (end.BadCosts rule) = costs_line rule
line_of (end.BadCost rule class) = cost_line rule (key_of class)
line_of (end.BadTrace rule line) = trace_line rule line
line_of (end.BadImage number) = image_line number
line_of (end.BadCert number) = cert_line number
line_of (end.NotAccepted condition at level needed given) = no_line condition at level needed given
line_of (end.Trapped at tick) = trap_line at tick
line_of end.StoreFault = codes "store fault\n"
line_of end.NoFile = codes "no file\n"
