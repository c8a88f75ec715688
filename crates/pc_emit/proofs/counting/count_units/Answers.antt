use Rattle.std.proofs.Common.{◌≡◌, ◌++◌, List, ap, subst, ◌∙◌}
use Rattle.std.specs.Prelude.{IfOk}
use Rattle.mb_isa.specs.declared.words.Instr.{Instr}
use Rattle.pc_regs.specs.Words.{steps_words}
use Rattle.pc_regs.specs.Writings.{instrs}
use Rattle.pc_emit.specs.Units.{units_in}
use Rattle.pc_emit.proofs.Halves.{units_of}
use Rattle.pc_emit.proofs.counting.count_units.Goals as goal

pub returns : goal.returns
returns c =
    let ws = steps_words c.args.placement c.args.steps.now in
    let work = (c.words_are_work.ensures c.args.placement c.requires.room).steps c.args.steps.now c.requires.written in
    let words : c.deref.result.now ≡ instrs ws =
    c.deref.ensures.value ∙ c.in_ok-push_steps.ensures ∙ ap (λ (l : List Instr). l ++ instrs ws) c.new-words.ensures.items in
    subst (λ m. IfOk c.units.result (λ n. n ≡ m)) (ap units_in words ∙ units_of ws work) c.units.ensures
