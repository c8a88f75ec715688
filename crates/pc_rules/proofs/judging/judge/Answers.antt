use Rattle.std.proofs.Common.{◌≡◌, refl, map, fold, Option, Some, None, sym, ap, ◌∙◌}
use Rattle.std.specs.Prelude.{List}
use Rattle.pc_grammar.specs.declared.typed.Function.{Function}
use Rattle.pc_grammar.specs.Finishing.{finishing}
use Rattle.pc_grammar.specs.Typing.{Typing}
use Rattle.pc_grammar.specs.Uses.{joined}
use Rattle.pc_rules.specs.Nests.{function_nests}
use Rattle.pc_rules.specs.Judging.{IsWithin}
use Rattle.pc_rules.specs.Faults.{note_nest}
use Rattle.pc_rules.specs.declared.noting.Noted.{Noted}
use Rattle.pc_rules.proofs.VerdictFacts.{broken_rule, broken_limit, nothing_broken, IsNoted, is_noted}
use Rattle.pc_rules.proofs.Counts.{are_sizes}
use Rattle.pc_rules.proofs.judging.judge.Goals as goal

abbrev nothing : Noted
nothing = record { rules = None; limits = None }

noted_is : (t : Typing) (functions : List Function) (first noted : Noted) → functions ≡ t.functions → first ≡ nothing →
    noted ≡ fold (note_nest (finishing t.functions)) first (joined (map function_nests functions)) → IsNoted t noted
noted_is t functions first noted functions_are first_is is =
    is_noted t noted
    (is ∙ ap (λ n. fold (note_nest (finishing t.functions)) n (joined (map function_nests functions))) first_is
    ∙ ap (λ fs. fold (note_nest (finishing t.functions)) nothing (joined (map function_nests fs))) functions_are)

is_none : {A : Type 0} (o : Option A) → ((x : A) → o ≡ Some x → ⊥) → o ≡ None
is_none None none = refl
is_none (Some x) none = absurd (none x refl)

pub returns-in-Some : goal.returns-in-Some
returns-in-Some c =
    let t = c.args.typed.now in
    let n : IsNoted t c.of_functions-noted.result = noted_is t c.functions.result.now c.nothing.result c.of_functions-noted.result c.functions.ensures.functions c.nothing.ensures c.of_functions-noted.ensures in
    record { verdict = broken_rule t c.in-Some.rule c.in-Some.span (sym n.rules ∙ sym c.found.ensures ∙ c.in-Some.is); sizes = tt }

pub returns-in-None : goal.returns-in-None
returns-in-None c =
    let t = c.args.typed.now in
    let n : IsNoted t c.of_functions-noted.result = noted_is t c.functions.result.now c.nothing.result c.of_functions-noted.result c.functions.ensures.functions c.nothing.ensures c.of_functions-noted.ensures in
    let within : IsWithin t = nothing_broken t (sym n.rules ∙ sym c.found.ensures ∙ is_none c.found.result c.in_default.not-Some) (sym (n.limits c.in-Ok.limits.first c.in-Ok.ensures.found) ∙ sym c.found-2.ensures ∙ c.in-None.is) in
    record { verdict = within; sizes = are_sizes t c.in-Ok.limits.sizes within c.in-Ok.ensures.sizes }

pub returns-in-Some-found : goal.returns-in-Some-found
returns-in-Some-found c =
    let t = c.args.typed.now in
    let n : IsNoted t c.of_functions-noted.result = noted_is t c.functions.result.now c.nothing.result c.of_functions-noted.result c.functions.ensures.functions c.nothing.ensures c.of_functions-noted.ensures in
    record { verdict = broken_limit t c.in-Some-found.rule c.in-Some-found.span (sym n.rules ∙ sym c.found.ensures ∙ is_none c.found.result c.in_default.not-Some) (sym (n.limits c.in-Ok.limits.first c.in-Ok.ensures.found) ∙ sym c.found-2.ensures ∙ c.in-Some-found.is); sizes = tt }
