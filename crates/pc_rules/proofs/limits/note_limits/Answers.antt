use Rattle.std.proofs.Common.{◌≡◌, ◌++◌, List, Option, ℕ, min, map, sym, ap, ◌∙◌}
use Rattle.std.proofs.lemmas.List.Sums.{fold-append}
use Rattle.pc_grammar.specs.declared.typed.Function.{Function}
use Rattle.pc_grammar.specs.Typing.{Typing}
use Rattle.pc_rules.specs.Nests.{heights}
use Rattle.pt_base.specs.First.{Fault, sooner, first_of}
use Rattle.pc_rules.specs.Faults.{tall_faults, whole_faults}
use Rattle.pc_rules.proofs.Tall.{tall-bounded}
use Rattle.pc_rules.proofs.limits.note_limits.Goals as goal

both : (t : Typing) (one other : List Function) (high : List ℕ) (first tall last : Option Fault) → one ≡ t.functions → other ≡ t.functions → high ≡ map (min 17) (heights one) →
    tall ≡ first_of first (tall_faults other high) → last ≡ first_of tall (whole_faults t) → last ≡ first_of first (tall_faults t.functions (heights t.functions) ++ whole_faults t)
both t one other high first tall last one_is other_is high_is tall_is last_is =
    last_is
    ∙ ap (λ f. first_of f (whole_faults t))
    (tall_is ∙ ap (λ fs. first_of first (tall_faults fs high)) other_is
    ∙ ap (λ hs. first_of first (tall_faults t.functions hs)) (high_is ∙ ap (λ fs. map (min 17) (heights fs)) one_is)
    ∙ ap (first_of first) (tall-bounded t.functions (heights t.functions)))
    ∙ sym (fold-append sooner first (tall_faults t.functions (heights t.functions)) (whole_faults t))

pub returns : goal.returns
returns c = record {
  found =
      both c.args.typed.now c.functions.result.now c.functions-2.result.now c.deref.result.now c.args.first c.note_tall-tall.result c.note_whole.result
      c.functions.ensures.functions c.functions-2.ensures.functions (c.deref.ensures.value ∙ c.in_ok-heights.ensures) c.note_tall-tall.ensures c.note_whole.ensures;
  sizes = c.in_ok-sizes.ensures;
}
