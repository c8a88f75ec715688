use Rattle.std.proofs.Common.{◌≡◌, ◌++◌, take, drop}
use Rattle.pc_names.specs.Sites.{sites_from, sites_of}
use Rattle.pc_names.proofs.sites.all_sites.Given as goal

abbrev pub invariant-loop-place : goal.invariant-loop-place
invariant-loop-place l = record {
  sites : l.sites.items ++ sites_from (take l.place l.items) (drop l.place l.items) ≡ sites_of l.items;
  before : l.before ≡ take l.place l.items;
}
