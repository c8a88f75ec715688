use Rattle.std.proofs.Common.{◌≡◌, ℕ, suc, ◌+◌, ◌<◌, Bool, List, [], ◌∷◌, ◌++◌, length, get_or, drop, sym, ap, ◌∙◌, rules, add-one, drop-cons}
use Rattle.pc_grammar.specs.declared.typed.Function.{Function}
use Rattle.pc_grammar.specs.Finishing.{all_finish, finishing, finishing_from}
use Rattle.pc_grammar.proofs.finishing.of_each.Goals as goal

one_more : (known : List Bool) (functions all : List Function) (i : ℕ) (f : Function) → f ≡ get_or functions i f → i < length functions →
    finishing_from known (drop i functions) ≡ finishing all → finishing_from (known ++ all_finish known f.body ∷ []) (drop (i + 1) functions) ≡ finishing all
one_more known functions all i f is within so_far =
    let first : drop i functions ≡ f ∷ drop (i + 1) functions = rw (add-one, drop-cons functions i f) (ap (λ g. g ∷ drop (suc i) functions) (sym is)) in
    ap (finishing_from known) (sym first) ∙ so_far

pub loop-function-preserved : goal.loop-function-preserved
loop-function-preserved c =
    let known : List Bool = c.loop-function.known.items in
    let finishes : c.all_may-finishes.result ≡ all_finish known c.function-item.result.body = search rules in
    ap (λ next. finishing_from next (drop (c.loop-function.function-index + 1) c.args.functions.now)) (c.in_ok-push.ensures.items ∙ ap (λ b. known ++ b ∷ []) finishes)
    ∙ one_more known c.args.functions.now c.args.functions.now c.loop-function.function-index c.function-item.result c.function-item.is c.loop-function-test.true c.loop-function.invariant
