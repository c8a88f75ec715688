use Rattle.pretc_run.specs.declared.endings.Ending.TheVariants.{WantOfMemory}
use Rattle.pretc_top.specs.Loading.{program_memory}
use Rattle.pretc_top.proofs.stages.load_image.Goals as goal

pub returns-clause-failed : goal.returns-clause-failed
returns-clause-failed g c = program_memory c.in-Ok.ensures.kept
