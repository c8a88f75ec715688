use Rattle.std.proofs.Common.{◌+◌, ◌*◌, ap, ◌∙◌}
use Rattle.pc_grammar.proofs.Values.{read_too_large}
use Rattle.pc_grammar.proofs.numbers.number_in.Goals as goal

pub returns-then-value-gt4294967295 : goal.returns-then-value-gt4294967295
returns-then-value-gt4294967295 c =
    read_too_large c.args.base c.args.digits.now c.loop-digit.digit-index c.loop-digit.value _ c.loop-digit.invariant c.loop-digit-test.true
    (ap (λ n. c.loop-digit.value * c.args.base + n) (c.from.ensures ∙ c.count_of.ensures)) c.if-value-gt4294967295.true c.requires.low
