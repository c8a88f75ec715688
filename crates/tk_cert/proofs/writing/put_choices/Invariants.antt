use Rattle.std.proofs.Common.{◌≡◌, ◌++◌, drop}
use Rattle.pt_base.specs.Spelling.{each}
use Rattle.tk_cert.specs.Text.{choice_text}
use Rattle.tk_cert.proofs.writing.put_choices.Given as goal

abbrev pub invariant-loop-choice : goal.invariant-loop-choice
invariant-loop-choice l = l.out.items ++ each choice_text (drop l.choice-index l.choices) ≡ l.fn.out.items ++ each choice_text l.choices
