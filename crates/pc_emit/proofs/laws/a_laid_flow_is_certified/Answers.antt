use Rattle.mb_isa.proofs.CostRange.{cost_of-range}
use Rattle.tk_paths.specs.Programs.{certificate}
use Rattle.tk_paths.proofs.Greatest.{greatest-worst}
use Rattle.tk_paths.proofs.ProgramLaws.{program-greatest, program-accepted}
use Rattle.pc_emit.specs.Image.{image_of}
use Rattle.pc_emit.specs.Sections.{program_of}
use Rattle.pc_emit.proofs.Numbered.{slots}
use Rattle.pc_emit.proofs.Programs.{holds}
use Rattle.pc_emit.proofs.Ranges.{image_in_range}
use Rattle.pc_emit.proofs.laws.a_laid_flow_is_certified.Goals as goal

pub returns : goal.returns
returns c = λ f writing placing further costs walk can priced.
    let has = slots f can.laid.order can.laid.main in
    let image = image_of writing f further in
    let program = program_of writing f in
    let ok = holds f writing placing further can has in
    let ranges = image_in_range f writing placing further can has in
    let accepted = program-accepted image program costs walk ok ranges (λ k. (cost_of-range costs priced k).0) priced in
    let greatest = program-greatest image program costs walk ok ranges (λ k. (cost_of-range costs priced k).0) in
    (accepted, greatest-worst image (certificate image costs program walk) costs accepted greatest)
