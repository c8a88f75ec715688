use Rattle.std.proofs.Common.{◌≡◌, take, map}
use Rattle.mb_isa.specs.Candidates.{decoded}
use Rattle.mb_core.proofs.loading.words.Given as goal

abbrev pub invariant-loop-word : goal.invariant-loop-word
invariant-loop-word l = l.words.items ≡ map decoded (take l.word-index l.code)
