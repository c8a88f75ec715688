use Rattle.std.proofs.Common.{◌≡◌, ◌+◌, Bool, List, [], ◌∷◌, ◌++◌, drop, sym, ap, ◌∙◌, subst}
use Rattle.std.specs.Prelude.{OnOk}
use Rattle.pc_grammar.specs.declared.statements.Stmt.TheVariants.{If}
use Rattle.pc_meaning.specs.Programs.{numbering_of, expression_of}
use Rattle.pc_meaning.specs.Lefts.{tree, trees}
use Rattle.pc_meaning.proofs.Leaving.{drop-at}
use Rattle.pc_meaning.proofs.Trees.{statement-If_else, statement-Abort}
use Rattle.pc_lower.specs.declared.nodes.Test.{Test}
use Rattle.pc_lower.specs.Trees.{pairs_of}
use Rattle.pc_lower.specs.Aborts.{aborts_in, aborts_in_all}
use Rattle.pc_lower.specs.Lowered.{test_of, conditions_of}
use Rattle.pc_lower.proofs.Trees.{aborts-then, pairs-push}
use Rattle.pc_lower.proofs.conditions.+push_aborts.Goals as goal

pub push_aborts-returns-in-Some : goal.push_aborts-returns-in-Some
push_aborts-returns-in-Some t c =
    let rooms = c.args.rooms.now in
    let functions = c.args.functions.now in
    let test = c.in-If.test in
    let yes = c.in-If.yes in
    let no = c.in-Some.no in
    let old = pairs_of c.args.aborts.now.items in
    let mid = pairs_of c.push_aborts.new.aborts.items in
    let first = c.in_ok-push_aborts-in-If.ensures ∙ ap (λ x. old ++ conditions_of (aborts_in (tree rooms functions x))) c.get.ensures in
    let whole = ap (tree rooms functions) (c.in-If.is ∙ ap (λ o. If test yes o) c.in-Some.is) ∙ statement-If_else rooms (numbering_of functions) test yes no in
    let is =
    ap (λ x. mid ++ conditions_of (aborts_in (tree rooms functions x))) c.get-in-Some.ensures
    ∙ aborts-then old mid (aborts_in (tree rooms functions yes)) (aborts_in (tree rooms functions no)) first
    ∙ ap (λ x. old ++ conditions_of (aborts_in x)) (sym whole) in
    let P : List (Bool × Test) → Type 0 = λ l. OnOk c.push_aborts-in-Some.result (pairs_of c.push_aborts-in-Some.new.aborts.items ≡ l) in
    subst P is c.push_aborts-in-Some.ensures

pub push_aborts-returns-in_ok-push-in-Abort : goal.push_aborts-returns-in_ok-push-in-Abort
push_aborts-returns-in_ok-push-in-Abort t c =
    let rooms = c.args.rooms.now in
    let functions = c.args.functions.now in
    let weak = c.in-Abort.weak in
    let body = c.in-Abort.body in
    let e = expression_of rooms c.in-Abort.tested in
    let old = pairs_of c.args.aborts.now.items in
    let mid = pairs_of c.push.new.self.items in
    let first = pairs-push c.args.aborts.now.items c.push.new.self.items weak c.in_ok-test-in-Abort.test (test_of e) c.in_ok-push-in-Abort.ensures.items c.in_ok-test-in-Abort.ensures in
    let whole = ap (tree rooms functions) c.in-Abort.is ∙ statement-Abort rooms (numbering_of functions) c.in-Abort.span weak body c.in-Abort.tested in
    let is =
    ap (λ x. mid ++ conditions_of (aborts_in (tree rooms functions x))) c.get-in-Abort.ensures
    ∙ aborts-then old mid ((weak, e) ∷ []) (aborts_in (tree rooms functions body)) first
    ∙ ap (λ x. old ++ conditions_of (aborts_in x)) (sym whole) in
    let P : List (Bool × Test) → Type 0 = λ l. OnOk c.push_aborts-in-Abort.result (pairs_of c.push_aborts-in-Abort.new.aborts.items ≡ l) in
    subst P is c.push_aborts-in-Abort.ensures

pub push_all-loop-s-preserved : goal.push_all-loop-s-preserved
push_all-loop-s-preserved t c =
    let rooms = c.args.rooms.now in
    let functions = c.args.functions.now in
    let all = c.args.all.now in
    let i = c.loop-s.s-index in
    let s = c.s-item.result in
    let old = pairs_of c.loop-s.aborts.items in
    aborts-then old (pairs_of c.push_aborts.new.aborts.items) (aborts_in (tree rooms functions s)) (aborts_in_all (trees rooms functions (drop (i + 1) all))) c.in_ok-push_aborts.ensures
    ∙ ap (λ l. old ++ conditions_of (aborts_in_all (trees rooms functions l))) (sym (drop-at all i s c.loop-s-test.true c.s-item.is))
    ∙ c.loop-s.invariant
