use Rattle.std.proofs.Common.{◌≡◌, ◌<◌, length, sym, ap, ◌∙◌}
use Rattle.pretc_top.proofs.Lines.{first_is_ended, first_is_last}
use Rattle.pretc_top.proofs.printing.line_length.Goals as goal

pub returns-in-Some-clause-first : goal.returns-in-Some-clause-first
returns-in-Some-clause-first c = first_is_ended c.args.text.now c.in-Some.at (sym c.line_feed.ensures ∙ c.in-Some.is)

pub returns-in-None-clause-first : goal.returns-in-None-clause-first
returns-in-None-clause-first c = first_is_last c.args.text.now c.requires (sym c.line_feed.ensures ∙ c.in-None.is)
