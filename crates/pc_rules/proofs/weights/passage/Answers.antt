use Rattle.std.proofs.Common.{◌≡◌, ℕ, min, map, List, ap, ◌∙◌}
use Rattle.pc_grammar.specs.declared.typed.Function.{Function}
use Rattle.pc_rules.specs.Weights.{passages, thread_sum}
use Rattle.pc_rules.proofs.OverThreads.{thread_sum-bounded}
use Rattle.pc_rules.proofs.weights.passage.Goals as goal

of_sizes : (functions one other : List Function) (sizes : List ℕ) (words : ℕ) → one ≡ functions → other ≡ functions → sizes ≡ map (min 2000001) (passages one) →
    words ≡ min 2000001 (thread_sum other sizes) → words ≡ min 2000001 (thread_sum functions (passages functions))
of_sizes functions one other sizes words first second sizes_are words_are =
    words_are ∙ ap (λ fs. min 2000001 (thread_sum fs sizes)) second ∙ ap (λ l. min 2000001 (thread_sum functions l)) sizes_are
    ∙ ap (λ fs. min 2000001 (thread_sum functions (map (min 2000001) (passages fs)))) first
    ∙ thread_sum-bounded 2000001 functions (passages functions)

pub returns : goal.returns
returns c = of_sizes c.args.typed.now.functions c.functions.result.now c.functions-2.result.now c.deref.result.now c.thread_passages.result c.functions.ensures.functions c.functions-2.ensures.functions (c.deref.ensures.value ∙ c.in_ok-sizes.ensures) c.thread_passages.ensures
