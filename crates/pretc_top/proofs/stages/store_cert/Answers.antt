use Rattle.pretc_top.specs.Go.{store_memory}
use Rattle.pretc_top.proofs.Shelves.{as_it_was}
use Rattle.pretc_top.proofs.stages.store_cert.Goals as goal

pub returns-in-Err-clause-failed : goal.returns-in-Err-clause-failed
returns-in-Err-clause-failed g c = store_memory (as_it_was (g.H.Shelf.told c.args.shelf.now))
