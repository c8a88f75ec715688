use Rattle.std.proofs.Common.{◌≡◌, ◌+◌, length, ap, sym, ◌∙◌}
use Rattle.tk_paths.specs.Numbers.{line}
use Rattle.tk_paths.specs.Levels.{numbers_of}
use Rattle.tk_paths.specs.PlaceKinds.{kind_of}
use Rattle.tk_paths.proofs.LevelLaws.{thread-line}
use Rattle.tk_paths.proofs.kinds.line.Goals as goal

pub returns-in_ok-loops-in-Thread-clause-exact : goal.returns-in_ok-loops-in-Thread-clause-exact
returns-in_ok-loops-in-Thread-clause-exact c =
    let V = numbers_of c.args.levels.now in
    let count : length c.items.result.now + 1 ≡ length c.in-Thread.stack + 1 = ap (λ l. length l + 1) c.items.ensures in
    thread-line c.in-Thread.slot c.in-Thread.stack c.in_ok-stack-in-Thread.stack c.in-Thread.loops c.in_ok-loops-in-Thread.loops c.of.result V (length c.items.result.now + 1)
    c.in_ok-stack-in-Thread.ensures.exact c.in_ok-loops-in-Thread.ensures.exact (c.of.ensures ∙ c.in_ok-levels-in-Thread.ensures.exact) count
    ∙ ap (λ k. line (kind_of k) V) (sym c.in-Thread.is)
