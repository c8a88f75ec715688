use Rattle.std.proofs.Common.{◌≡◌, ◌+◌, ◌-◌, take, drop, sym, ap, ◌∙◌, arith}
use Rattle.pt_image.specs.Listed.{is_listed}
use Rattle.tk_walk.proofs.Listings.{listed_found, listed_none}
use Rattle.tk_walk.proofs.listing.Places.is_listed.Goals as goal

pub returns-in-None : goal.returns-in-None
returns-in-None c = sym (listed_none c.args.points.now c.args.place c.args.slot c.args.stack.now c.in-None.ensures)

pub returns-in-Some : goal.returns-in-Some
returns-in-Some c =
    let one : c.in-Some.i + 1 - c.in-Some.i ≡ 1 = omega arith in
    c.is_listed.ensures ∙ ap (λ n. is_listed (take n (drop c.in-Some.i c.args.points.now)) c.args.place c.args.slot c.args.stack.now) one
    ∙ sym (listed_found c.args.points.now c.args.self.now c.in-Some.i c.args.place c.args.slot c.args.stack.now c.requires.table c.in-Some.ensures)
