use Rattle.std.proofs.Common.{◌≡◌, ◌<◌, ◌∙◌, length, arith}
use Rattle.std.proofs.lemmas.List.{length-set}
use Rattle.mb_core.specs.Tables.{blank, point_of}
use Rattle.mb_core.proofs.Listings.{more-read, same-read, whole}
use Rattle.mb_core.proofs.tables.table_of.Goals as goal

pub loop-i-preserved : goal.loop-i-preserved
loop-i-preserved c =
    let within : c.loop-i.i < length c.args.points.now = omega arith in
    let point : c.index-points-i.result ≡ point_of c.args.points.now c.loop-i.i = c.index-points-i.is ∙ same-read c.args.points.now c.loop-i.i c.index-points-i.result blank within in
    record {
      size = length-set c.loop-i.table.items _ _ ∙ c.loop-i.invariant.size;
      part = more-read c.loop-i.i c.args.size c.args.points.now c.loop-i.table.items c.index-points-i.result point c.loop-i.invariant.size c.loop-i.invariant.part c.requires.once c.requires.within within;
    }

pub returns : goal.returns
returns c =
    let end : c.loop-i.i ≡ length c.args.points.now = omega arith in
    whole c.args.points.now c.loop-i.table.items (rw end at c.loop-i.invariant.part)
