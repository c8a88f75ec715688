use Rattle.std.proofs.Common.{◌≡◌, ◌<◌, ◌≤◌, ◌+◌, ◌-◌, true, take, drop, List, ℕ, length, sym, ap, ◌∙◌, subst, arith}
use Rattle.std.specs.List.{AllByRecursion}
use Rattle.tk_walk.specs.Building.{any_loose}
use Rattle.tk_walk.proofs.Lines.{lines-of}
use Rattle.tk_walk.proofs.Loops.{range-length}
use Rattle.tk_walk.proofs.Resting.{bare, no-fork, other-fork, no-word, too-far, none-loose, waits-or-not}
use Rattle.tk_walk.proofs.configuration.wait_in.Goals as goal

pub returns-in_default : goal.returns-in_default
returns-in_default c = no-fork c.args.image.now c.args.states.now c.args.s c.args.unit.now c.requires.building c.requires.ready c.args.at c.requires.state c.in_default.ensures c.args.unit.now

pub returns-then-point-s : goal.returns-then-point-s
returns-then-point-s c = other-fork c.args.image.now c.args.states.now c.args.s c.args.unit.now c.requires.building c.requires.ready c.args.at c.requires.state c.args.listing.now.forks c.in-Some.i c.index-forks-i.result c.requires.listing.forks c.in-Some.ensures (rw c.forks.ensures at c.index-forks-i.is) c.if-point-s.true c.args.unit.now

pub returns-in_default-fork_at : goal.returns-in_default-fork_at
returns-in_default-fork_at c = no-word c.args.image.now c.args.states.now c.args.s c.args.unit.now c.requires.building c.requires.ready c.args.at c.requires.state c.in_default-fork_at.ensures c.args.unit.now

pub returns-then-slots-to : goal.returns-then-slots-to
returns-then-slots-to c = too-far c.args.image.now c.args.states.now c.args.s c.args.unit.now c.requires.building c.requires.ready c.args.at c.requires.state c.in-Some-fork_at.lo c.in-Some-fork_at.count c.in-Some-fork_at.ensures (omega (arith, c.from-from.ensures, c.from.ensures, ap length c.slots.ensures)) c.args.unit.now

pub returns-then-not-any_loose : goal.returns-then-not-any_loose
returns-then-not-any_loose c =
    none-loose c.args.image.now c.args.states.now c.args.s c.args.unit.now c.requires.building c.requires.ready c.args.at c.requires.state c.in-Some-fork_at.lo c.in-Some-fork_at.count c.in-Some-fork_at.ensures ((λ i. any_loose c.args.states.now (sym c.from-from.ensures i) (sym c.from-2.ensures i)) ∙ sym c.any_loose.ensures ∙ c.if-not-any_loose.true) c.args.unit.now

pub enter_all-requires-clause-bare : goal.enter_all-requires-clause-bare
enter_all-requires-clause-bare c = bare c.args.image.now c.args.states.now c.args.s c.args.unit.now c.requires.building c.requires.ready

pub enter_all-requires-clause-lines : goal.enter_all-requires-clause-lines
enter_all-requires-clause-lines c = subst (λ (ns : List ℕ). AllByRecursion (λ j. j < length c.args.image.now.aborts) ns) (sym c.items.ensures) (lines-of c.args.image.now c.args.image.now.forks c.in-Some.i c.index-forks-i.result c.ranges-2.ensures.forks.1 c.in-Some.ensures.0 (rw c.forks.ensures at c.index-forks-i.is))

pub returns : goal.returns
returns c =
    let starts : List ℕ = take (c.from-from.result + c.from.result - c.from-from.result) (drop c.from-from.result c.slots-2.result.now) in
    let within : c.from-from.result + c.from.result ≤ length c.slots-2.result.now = omega (arith, ap length c.slots.ensures, ap length c.slots-2.ensures) in
    let many : length (take (c.from-from.result + c.from.result - c.from-from.result) (drop c.from-from.result c.slots-2.result.now)) ≡ c.in-Some-fork_at.count =
    range-length c.slots-2.result.now c.from-from.result c.from.result (c.from-from.result + c.from.result - c.from-from.result) (omega arith) within ∙ c.from.ensures in
    let any : any_loose c.args.states.now c.in-Some-fork_at.lo c.in-Some-fork_at.count ≡ true = (λ i. any_loose c.args.states.now (sym c.from-from.ensures i) (sym c.from-2.ensures i)) ∙ sym c.any_loose.ensures ∙ c.if-not-any_loose.false in
    waits-or-not c.args.image.now c.args.states.now c.args.s c.args.unit.now c.requires.building c.requires.ready c.args.at c.requires.state c.in-Some-fork_at.lo c.in-Some-fork_at.count c.in-Some-fork_at.ensures c.args.listing.now.forks c.in-Some.i c.index-forks-i.result c.requires.listing.forks c.in-Some.ensures (rw c.forks.ensures at c.index-forks-i.is)
    (take (c.from-from.result + c.from.result - c.from-from.result) (drop c.from-from.result c.slots-2.result.now)) many any c.if-point-s.false (lines-of c.args.image.now c.args.image.now.forks c.in-Some.i c.index-forks-i.result c.ranges-2.ensures.forks.1 c.in-Some.ensures.0 (rw c.forks.ensures at c.index-forks-i.is))
    c.wait.result c.enter_all.new.unit c.wait.new.self (rw c.items.ensures at c.enter_all.ensures.entered) (rw c.from-3.ensures at c.wait.ensures.free) (rw c.from-3.ensures at c.wait.ensures.tree)
