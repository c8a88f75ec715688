use Rattle.std.proofs.Common.{◌≡◌, [], map, drop}
use Rattle.pt_base.specs.First.{first_of}
use Rattle.pc_names.specs.Faults.{repeats}
use Rattle.pc_names.proofs.faults.note_repeats.Given as goal

abbrev pub invariant-loop-word : goal.invariant-loop-word
invariant-loop-word l = first_of l.so_far (repeats l.rule l.before (map (λ w. w.now) (drop l.word-index l.words))) ≡ first_of l.fn.first (repeats l.rule [] (map (λ w. w.now) l.words))
