use Rattle.mb_pfu.specs.Rows.{pause_row, settle_row, numbered}
use Rattle.mb_pfu.proofs.Ways.{climbed-whole, level-read}
use Rattle.mb_pfu.proofs.table.pause.Goals as goal

pub returns-clause-rows : goal.returns-clause-rows
returns-clause-rows c =
    climbed-whole (numbered c.args.s) (pause_row c.args.at) settle_row c.args.i c.level-level.result c.args.rows.now.items c.pause_at-handler.new.rows.items c.climb.new.rows.items c.requires.here
    (level-read _ c.args.rows.now.items _ _ c.index-deref-i.result c.index-deref-i.is c.deref.ensures.0 c.requires.here.within c.level-level.ensures)
    c.pause_at-handler.ensures.done c.climb.ensures
