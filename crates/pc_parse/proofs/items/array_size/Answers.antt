use Rattle.pc_parse.proofs.Sizes.{size_not_ended}
use Rattle.pc_parse.proofs.items.array_size.Goals as goal

pub returns-in_default-after-2-clause-err : goal.returns-in_default-after-2-clause-err
returns-in_default-after-2-clause-err c =
    size_not_ended c.args.tokens.now c.in-Some.inner.now c.in-Some-number_at.rest.now c.in-Some-after.closed.now c.in-Some-number_at.size c.in-Some.ensures c.in-Some-number_at.ensures c.in-Some-after.ensures c.in_default-after-2.ensures
