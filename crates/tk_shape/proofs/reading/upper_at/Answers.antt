use Rattle.std.proofs.Common.{arith, sym, ◌≡◌, ◌-◌, ◌∙◌, suc}
use Rattle.tk_shape.proofs.Uppers.{upper_before}
use Rattle.tk_shape.proofs.reading.upper_at.Goals as goal

pub returns : goal.returns
returns c =
    let e : c.args.place ≡ suc (c.args.place - 1) = omega arith in
    c.upper_behind.ensures ∙ sym (upper_before c.args.image.now c.args.cert.now.lines c.args.place (c.args.place - 1) e)
