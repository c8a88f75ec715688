use Rattle.std.proofs.Common.{◌≡◌, ◌++◌, map, drop}
use Rattle.mb_isa.specs.Codes.{code_of}
use Rattle.pc_emit.proofs.image.codes.Given as goal

abbrev pub invariant-loop-word : goal.invariant-loop-word
invariant-loop-word l = l.codes.items ++ map code_of (drop l.word-index l.words) ≡ map code_of l.words
