use Rattle.std.proofs.Common.{◌≡◌, ◌++◌, take, drop}
use Rattle.pc_grammar.specs.Places.{names_of}
use Rattle.pc_names.specs.Names.{HasNames}
use Rattle.pc_names.specs.Sites.{sites_of_locals}
use Rattle.pc_names.proofs.sites.add_locals.Given as goal

abbrev pub invariant-loop-name : goal.invariant-loop-name
invariant-loop-name l = record {
  sites : l.sites.items ++ sites_of_locals l.before (l.parameters ++ names_of (take l.name-index l.locals)) (drop l.name-index l.locals) ≡ l.initial.sites.items ++ sites_of_locals l.before l.parameters l.locals;
  own : HasNames l.own (l.parameters ++ names_of (take l.name-index l.locals));
}
