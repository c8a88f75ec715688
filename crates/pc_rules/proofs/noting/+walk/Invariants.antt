use Rattle.std.proofs.Common.{◌≡◌, map, fold, drop}
use Rattle.pc_grammar.specs.Finishing.{finishing}
use Rattle.pc_grammar.specs.Uses.{joined}
use Rattle.pc_rules.specs.Nests.{nests}
use Rattle.pc_rules.specs.Faults.{note_nest}
use Rattle.pc_rules.proofs.noting.+walk.Given as goal

abbrev pub invariant-walk_all-loop-s : goal.invariant-walk_all-loop-s
invariant-walk_all-loop-s l = fold (note_nest (finishing l.typed.functions)) l.total (joined (map (λ s. nests s l.aborts l.loops) (drop l.s-index l.all))) ≡ fold (note_nest (finishing l.typed.functions)) l.fn.noted (joined (map (λ s. nests s l.aborts l.loops) l.all))
