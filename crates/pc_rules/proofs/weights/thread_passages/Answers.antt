use Rattle.std.proofs.Common.{◌≡◌, ◌+◌, drop, arith, add-one}
use Rattle.pc_rules.specs.Weights.{thread_sum}
use Rattle.pc_rules.proofs.OverThreads.{one_less, no_functions}
use Rattle.pc_rules.proofs.weights.thread_passages.Goals as goal

pub loop-i-preserved : goal.loop-i-preserved
loop-i-preserved c =
    let functions = c.args.functions.now in
    let sizes = c.args.sizes.now in
    let i = c.loop-i.i in
    let less : thread_sum (drop i functions) (drop i sizes) ≡ c.thread_words.result + thread_sum (drop (i + 1) functions) (drop (i + 1) sizes) =
    rw add-one (one_less functions sizes i c.index-functions-i.result c.known_of.result c.thread_words.result c.index-functions-i.is c.loop-i-test.true c.known_of.ensures c.thread_words.ensures) in
    (omega arith, omega arith)

pub returns : goal.returns
returns c = omega (arith, no_functions c.args.functions.now c.args.sizes.now c.loop-i.i)
