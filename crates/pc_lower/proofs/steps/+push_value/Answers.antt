use Rattle.std.proofs.Common.{rules, ◌<◌, ◌^◌, [], ◌∷◌, ◌++◌, sym, ap, ◌∙◌, FitsSigned, w32, to_z-of_z}
use Rattle.pc_meaning.specs.Programs.{expression_of}
use Rattle.pc_meaning.proofs.Trees.{expression-Number, expression-Elem, expression-Unary}
use Rattle.pc_meaning.proofs.Rolled.{literal}
use Rattle.pc_lower.specs.declared.nodes.Place.TheVariants.{Temp as temp}
use Rattle.pc_lower.specs.declared.nodes.Step.TheVariants.{Const as const, Unary as unary_step, TakeElement as take_element}
use Rattle.pc_lower.specs.Lowered.{steps_of}
use Rattle.pc_lower.proofs.Trees.{behind}
use Rattle.pc_lower.proofs.steps.+push_value.Goals as goal

pub push_value-returns-in_ok-push-in-Number : goal.push_value-returns-in_ok-push-in-Number
push_value-returns-in_ok-push-in-Number t c =
    let rooms = c.args.rooms.now in
    let to = c.args.to in
    let n = c.in-Number.n in
    let less : n < 2 ^ 32 = search rules in
    let fits : FitsSigned w32 c.cast_signed.result = search rules in
    let h = c.in_ok-push-in-Number.ensures.ok in
    let word = to_z-of_z fits ∙ c.cast_signed.ensures ∙ literal n less in
    h ∙ ap (λ w. c.args.steps.now ++ const (temp to) w ∷ []) word
    ∙ ap (λ x. c.args.steps.now ++ steps_of x to) (sym (expression-Number rooms n) ∙ ap (expression_of rooms) (sym c.in-Number.is))

pub push_value-returns-in_ok-push-in-Elem : goal.push_value-returns-in_ok-push-in-Elem
push_value-returns-in_ok-push-in-Elem t c =
    let rooms = c.args.rooms.now in
    let to = c.args.to in
    let old = c.args.steps.now in
    let mid = c.push_value.new.steps in
    let array = c.in-Elem.array in
    let index = c.in-Elem.index in
    behind old mid c.push-in-Elem.new.self (steps_of (expression_of rooms index) to) _
    (c.in_ok-push_value-in-Elem.ensures ∙ ap (λ x. old ++ steps_of (expression_of rooms x) to) c.get.ensures)
    (c.in_ok-push-in-Elem.ensures.ok ∙ ap (λ r. mid ++ take_element (temp to) r.first r.size (temp to) ∷ []) c.room-first.ensures)
    ∙ ap (λ x. old ++ steps_of x to) (sym (expression-Elem rooms array index) ∙ ap (expression_of rooms) (sym c.in-Elem.is))

pub push_value-returns-in_ok-push-in-Unary : goal.push_value-returns-in_ok-push-in-Unary
push_value-returns-in_ok-push-in-Unary t c =
    let rooms = c.args.rooms.now in
    let to = c.args.to in
    let old = c.args.steps.now in
    let op = c.in-Unary.op in
    let e = c.in-Unary.e in
    behind old c.push_value-in-Unary.new.steps c.push-in-Unary.new.self (steps_of (expression_of rooms e) to) (unary_step op (temp to) (temp to))
    (c.in_ok-push_value-in-Unary.ensures ∙ ap (λ x. old ++ steps_of (expression_of rooms x) to) c.get-in-Unary.ensures)
    c.in_ok-push-in-Unary.ensures.ok
    ∙ ap (λ x. old ++ steps_of x to) (sym (expression-Unary rooms op e) ∙ ap (expression_of rooms) (sym c.in-Unary.is))
