use Rattle.std.proofs.Common.{◌-◌, sym, subst}
use Rattle.pc_lower.specs.Trees.{flow_read}
use Rattle.pc_lower.specs.Laid.{Placing}
use Rattle.pc_regs.specs.Placement.{memory_words, IsPlacement}
use Rattle.pc_regs.specs.Words.{writing_of}
use Rattle.pc_regs.specs.Writings.{FlowWritten}
use Rattle.tk_paths.specs.Programs.{IsProgram}
use Rattle.tk_paths.specs.Trees.{read_program}
use Rattle.tk_paths.specs.Counts.{AreSmall}
use Rattle.pc_emit.specs.Image.{image_of}
use Rattle.pc_emit.specs.Sections.{program_of}
use Rattle.pc_emit.specs.Fits.{CanBeEmitted}
use Rattle.pc_compile.specs.Compiled.{Compiles}
use Rattle.pc_compile.proofs.Lowered.{IsLowered}
use Rattle.pc_compile.proofs.Whole.{has-room, is-emitted, is-compiled, is-held}
use Rattle.pc_compile.proofs.compile.Goals as goal

pub emit-requires-clause-room : goal.emit-requires-clause-room
emit-requires-clause-room c =
    let flow = flow_read c.in_ok-flow.flow in
    let low : IsLowered c.args.typed.now flow = record {
      typed = c.functions.ensures.typed;
      within = c.requires.within;
      same = c.in_ok-flow.ensures.exact;
      bodies = c.in_ok-flow.ensures.few.0;
      conditions = c.in_ok-flow.ensures.few.1;
    } in
    subst IsPlacement (sym c.assign-placement.ensures) (has-room c.args.typed.now flow low c.words_are_work.ensures c.words_are_few.ensures)

pub emit-requires-clause-fits : goal.emit-requires-clause-fits
emit-requires-clause-fits c =
    let flow = flow_read c.in_ok-flow.flow in
    let low : IsLowered c.args.typed.now flow = record {
      typed = c.functions.ensures.typed;
      within = c.requires.within;
      same = c.in_ok-flow.ensures.exact;
      bodies = c.in_ok-flow.ensures.few.0;
      conditions = c.in_ok-flow.ensures.few.1;
    } in
    subst (λ p. (placing : Placing) × CanBeEmitted flow (writing_of p) placing (memory_words p - p.cells)) (sym c.assign-placement.ensures)
    (is-emitted c.args.typed.now flow low c.words_are_work.ensures c.words_are_few.ensures)

pub program-requires-clause-room : goal.program-requires-clause-room
program-requires-clause-room c =
    let flow = flow_read c.in_ok-flow.flow in
    let low : IsLowered c.args.typed.now flow = record {
      typed = c.functions.ensures.typed;
      within = c.requires.within;
      same = c.in_ok-flow.ensures.exact;
      bodies = c.in_ok-flow.ensures.few.0;
      conditions = c.in_ok-flow.ensures.few.1;
    } in
    subst IsPlacement (sym c.assign-placement.ensures) (has-room c.args.typed.now flow low c.words_are_work.ensures c.words_are_few.ensures)

pub program-requires-clause-written : goal.program-requires-clause-written
program-requires-clause-written c =
    let flow = flow_read c.in_ok-flow.flow in
    let low : IsLowered c.args.typed.now flow = record {
      typed = c.functions.ensures.typed;
      within = c.requires.within;
      same = c.in_ok-flow.ensures.exact;
      bodies = c.in_ok-flow.ensures.few.0;
      conditions = c.in_ok-flow.ensures.few.1;
    } in
    subst (λ p. FlowWritten (writing_of p) flow) (sym c.assign-placement.ensures)
    (is-emitted c.args.typed.now flow low c.words_are_work.ensures c.words_are_few.ensures).1.written

pub returns : goal.returns
returns c =
    let flow = flow_read c.in_ok-flow.flow in
    let low : IsLowered c.args.typed.now flow = record {
      typed = c.functions.ensures.typed;
      within = c.requires.within;
      same = c.in_ok-flow.ensures.exact;
      bodies = c.in_ok-flow.ensures.few.0;
      conditions = c.in_ok-flow.ensures.few.1;
    } in
    let held : IsProgram c.in_ok-image.image (read_program c.in_ok-held.held) × AreSmall c.in_ok-image.image (read_program c.in_ok-held.held) =
    subst (λ x. IsProgram c.in_ok-image.image x × AreSmall c.in_ok-image.image x) (sym c.in_ok-held.ensures)
    (subst (λ image. IsProgram image (program_of (writing_of c.assign-placement.result) flow) × AreSmall image (program_of (writing_of c.assign-placement.result) flow)) (sym c.in_ok-image.ensures)
    (subst (λ p. IsProgram (image_of (writing_of p) flow (memory_words p - p.cells)) (program_of (writing_of p) flow) × AreSmall (image_of (writing_of p) flow (memory_words p - p.cells)) (program_of (writing_of p) flow)) (sym c.assign-placement.ensures)
    (is-held c.args.typed.now flow low c.words_are_work.ensures c.words_are_few.ensures c.a_laid_flow_is_a_program.ensures c.a_flow_is_small.ensures))) in
    record {
      compiled =
          subst (Compiles c.args.typed.now) (sym c.in_ok-image.ensures)
          (subst (λ p. Compiles c.args.typed.now (image_of (writing_of p) flow (memory_words p - p.cells))) (sym c.assign-placement.ensures)
          (is-compiled c.args.typed.now flow low c.words_are_work.ensures c.words_are_few.ensures c.words_do_the_steps.ensures
          c.a_flow_is_laid_out.ensures c.a_laid_flow_is_in_its_ranges.ensures c.a_laid_flow_lists_all.ensures));
      program = held.0;
      small = held.1;
    }
