use Rattle.std.proofs.Common.{◌≡◌, drop}
use Rattle.pt_base.specs.First.{first_of}
use Rattle.pc_names.specs.Faults.{sites_faults}
use Rattle.pc_names.proofs.finding.note_sites.Given as goal

abbrev pub invariant-loop-site : goal.invariant-loop-site
invariant-loop-site l = first_of l.so_far (sites_faults l.threads (drop l.site-index l.sites)) ≡ first_of l.fn.first (sites_faults l.threads l.sites)
