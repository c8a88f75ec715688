use Rattle.std.proofs.Common.{◌≡◌, ◌++◌, drop}
use Rattle.pt_base.specs.Spelling.{each}
use Rattle.tk_cert.specs.Text.{level_text}
use Rattle.tk_cert.proofs.writing.put_levels.Given as goal

abbrev pub invariant-loop-level : goal.invariant-loop-level
invariant-loop-level l = l.out.items ++ each level_text (drop l.level-index l.levels) ≡ l.fn.out.items ++ each level_text l.levels
