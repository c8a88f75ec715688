use Rattle.mb_pfu.specs.Rows.{finish_row, settle_row, numbered}
use Rattle.mb_pfu.proofs.Ways.{climbed-whole, level-read}
use Rattle.mb_pfu.proofs.table.finish.Goals as goal

pub returns : goal.returns
returns c =
    climbed-whole (numbered c.args.s) finish_row settle_row c.args.i c.level-level.result c.args.rows.now.items c.finish_at.new.rows.items c.climb.new.rows.items c.requires.here
    (level-read _ c.args.rows.now.items _ _ c.index-deref-i.result c.index-deref-i.is c.deref.ensures.0 c.requires.here.within c.level-level.ensures)
    c.finish_at.ensures c.climb.ensures
