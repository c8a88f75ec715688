use Rattle.std.proofs.Common.{◌≡◌, ◌++◌, drop}
use Rattle.pc_names.specs.Sites.{sites_of_uses}
use Rattle.pc_names.proofs.sites.add_uses.Given as goal

abbrev pub invariant-loop-used : goal.invariant-loop-used
invariant-loop-used l = l.sites.items ++ sites_of_uses l.before l.own (drop l.used-index l.uses) ≡ l.initial.sites.items ++ sites_of_uses l.before l.own l.uses
