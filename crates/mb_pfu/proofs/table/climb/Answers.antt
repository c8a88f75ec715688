use Rattle.std.proofs.Common.{arith, ◌∙◌, ◌≡◌, ◌-◌, ◌≤◌, ◌<◌, length}
use Rattle.mb_pfu.specs.Rows.{row_at, settle_row}
use Rattle.mb_pfu.proofs.Ways.{climbs-past, climbs-done, done-length, level-read}
use Rattle.mb_pfu.proofs.table.climb.Goals as goal

pub loop-i-preserved-then-above-level : goal.loop-i-preserved-then-above-level
loop-i-preserved-then-above-level c =
    let low : c.loop-i.i - 1 < length c.loop-i.rows.items = omega arith in
    let is : c.level-above.result ≡ (row_at c.loop-i.rows.items (c.loop-i.i - 1)).level = level-read _ c.loop-i.rows.items _ _ c.index-deref-i.result c.index-deref-i.is c.deref.ensures.0 low c.level-above.ensures in
    record {
      within = omega arith;
      rest = climbs-past settle_row c.loop-i.rows.items c.loop-i.i c.loop-i.level c.level-above.result (omega arith) c.loop-i.invariant.within is c.if-above-level.true ∙ c.loop-i.invariant.rest;
    }

pub loop-i-preserved : goal.loop-i-preserved
loop-i-preserved c =
    let low : c.loop-i.i - 1 < length c.loop-i.rows.items = omega arith in
    let is : c.level-above.result ≡ (row_at c.loop-i.rows.items (c.loop-i.i - 1)).level = level-read _ c.loop-i.rows.items _ _ c.index-deref-i.result c.index-deref-i.is c.deref.ensures.0 low c.level-above.ensures in
    let low' : c.loop-i.i - 1 ≤ length c.loop-i.rows.items = omega arith in
    record {
      within = done-length settle_row (c.loop-i.i - 1) c.loop-i.rows.items c.settle_at.new.rows.items low' c.settle_at.ensures;
      rest = climbs-done settle_row c.loop-i.rows.items c.settle_at.new.rows.items c.loop-i.i c.loop-i.level c.level-above.result (omega arith) c.loop-i.invariant.within is c.if-above-level.false c.settle_at.ensures ∙ c.loop-i.invariant.rest;
    }
