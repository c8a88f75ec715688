use Rattle.pc_emit.proofs.Ranges.{image_in_range, image_has_words}
use Rattle.pc_emit.proofs.Numbered.{slots}
use Rattle.pc_emit.proofs.laws.a_laid_flow_is_in_its_ranges.Goals as goal

pub returns : goal.returns
returns c = λ f writing placing further can.
    let has = slots f can.laid.order can.laid.main in
    (image_in_range f writing placing further can has, image_has_words f writing placing further can has)
