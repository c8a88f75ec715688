use Rattle.std.proofs.Common.{sym, ap, count_by, ◌∙◌}
use Rattle.pc_rules.specs.Judging.{is_input}
use Rattle.pretc_run.proofs.Ports.{input_count_is}
use Rattle.pretc_run.proofs.beginning.input_count.Goals as goal

pub returns : goal.returns
returns c = c.inputs.ensures ∙ ap (count_by is_input) c.cells.ensures.cells ∙ sym (input_count_is c.args.typed.now)
