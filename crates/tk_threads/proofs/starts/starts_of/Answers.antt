use Rattle.std.proofs.Common.{arith, [], ◌∙◌}
use Rattle.tk_paths.specs.Trees.{read_sections, threads_in}
use Rattle.tk_threads.proofs.Begun.{starts_step}
use Rattle.std.proofs.lemmas.Result.{err_from_is_err_and}
use Rattle.tk_paths.specs.Trees.{code_of}
use Rattle.tk_threads.proofs.SmallLaws.{slot-here}
use Rattle.tk_threads.proofs.starts.starts_of.Goals as goal

pub loop-slot-preserved : goal.loop-slot-preserved
loop-slot-preserved c = (
  omega arith,
  c.in_ok-insert.ensures.items
      ∙ starts_step c.args.image.now c.args.costs.now (read_sections [] c.args.sections.now) (threads_in (read_sections [] c.args.sections.now)) c.loop-slot.slot
      c.loop-slot.starts.items c.as_slice.result.now c.in_ok-numbers.numbers (omega arith) c.loop-slot.invariant.0 c.loop-slot.invariant.1
      c.as_slice.ensures.value c.in_ok-numbers.ensures.exact,
)

pub returns-in_err-numbers-clause-fits : goal.returns-in_err-numbers-clause-fits
returns-in_err-numbers-clause-fits c = λ k h.
    let p = err_from_is_err_and c.from_residual.result c.from_residual.ensures.1 in
    rw (p.1, p.2) (c.in_err-numbers.ensures.fits
    (slot-here c.args.image.now c.args.costs.now (λ s. code_of s (read_sections [] c.args.sections.now)) (threads_in (read_sections [] c.args.sections.now)) c.loop-slot.slot
    c.loop-slot.starts.items c.as_slice.result.now (omega arith) c.loop-slot.invariant.0 c.loop-slot.invariant.1 c.as_slice.ensures.value h))
