-- What is promised of a flow in memory that is the flow of a program.
use Rattle.std.proofs.Common.{◌≡◌, ℕ, ◌+◌, ◌≤◌, ℤ, Bool, List, [], map, sym, ap, subst, ◌∙◌, arith}
use Rattle.pc_grammar.specs.declared.typed.Cell.{Cell}
use Rattle.pc_grammar.specs.declared.typed.Function.{Function}
use Rattle.pc_grammar.specs.Typing.{Typing}
use Rattle.pc_grammar.specs.Keeping.{IsTyped}
use Rattle.pc_rules.specs.Known.{known_of}
use Rattle.pc_rules.specs.Weights.{passages, program_weight}
use Rattle.pc_meaning.specs.Tree.{Routine}
use Rattle.pc_meaning.specs.declared.places.Room.{Room}
use Rattle.pc_meaning.specs.Lefts.{routines_of}
use Rattle.pc_meaning.specs.Runs.{meaning_of}
use Rattle.pc_meaning.specs.Programs.{rooms_of, declared_of, chosen, is_input, is_output, program_of}
use Rattle.pc_lower.specs.declared.flow.Flow.{Flow as Kept}
use Rattle.pc_lower.specs.declared.nodes.Test.{Test}
use Rattle.pc_lower.specs.Flow.{Node, Flow, Temps, run_of}
use Rattle.pc_lower.specs.Trees.{read, pairs_of, flow_read}
use Rattle.pc_lower.specs.Aborts.{aborts_of}
use Rattle.pc_lower.specs.Lowered.{bodies_of, conditions_of, flow_of}
use Rattle.pc_lower.specs.Counts.{BodiesWithin, ConditionsWithin, bodies_words, conditions_words, count_at, passages_from}
use Rattle.pc_lower.proofs.Whole.{same_run}
use Rattle.pc_lower.proofs.Words.{routines-words, passages-few}
use Rattle.pc_lower.proofs.Promised.{typed_fits, typed_nested}
use Rattle.pc_lower.proofs.Few.{bodies_few, conditions_few}
use Rattle.pc_lower.proofs.Weighed.{program_weighs, program_passes}

abbrev routines : Typing → List Routine
routines t = (program_of t).routines

abbrev flow : List Node → ℕ → List (Bool × Test) → List ℤ → List ℕ → List ℕ → Flow
flow bodies main aborts declared inputs outputs = record { bodies = bodies; main = main; aborts = aborts; declared = declared; inputs = inputs; outputs = outputs }

pub flow_is : (t : Typing) (f : Kept) (cells : List Cell) (functions : List Function) (rooms : List Room) → cells ≡ t.cells → functions ≡ t.functions → rooms ≡ rooms_of cells →
    map read f.bodies.items ≡ bodies_of (routines_of rooms functions) (routines_of rooms functions) → f.main ≡ t.main → pairs_of f.aborts.items ≡ conditions_of (aborts_of (routines_of rooms functions)) →
    f.declared.items ≡ declared_of cells → f.inputs.items ≡ chosen is_input cells rooms → f.outputs.items ≡ chosen is_output cells rooms → flow_read f ≡ flow_of (program_of t)
flow_is t f cells functions rooms cells_are functions_are rooms_are bodies main aborts declared inputs outputs =
    let placed : rooms ≡ rooms_of t.cells = rooms_are ∙ ap rooms_of cells_are in
    let same : routines_of rooms functions ≡ routines t = ap (λ x. routines_of x functions) placed ∙ ap (routines_of (rooms_of t.cells)) functions_are in
    let bodies_are : map read f.bodies.items ≡ bodies_of (routines t) (routines t) = bodies ∙ ap (λ x. bodies_of x x) same in
    let aborts_are : pairs_of f.aborts.items ≡ conditions_of (aborts_of (routines t)) = aborts ∙ ap (λ x. conditions_of (aborts_of x)) same in
    let declared_are : f.declared.items ≡ declared_of t.cells = declared ∙ ap declared_of cells_are in
    let inputs_are : f.inputs.items ≡ chosen is_input t.cells (rooms_of t.cells) = inputs ∙ ap (λ x. chosen is_input x rooms) cells_are ∙ ap (chosen is_input t.cells) placed in
    let outputs_are : f.outputs.items ≡ chosen is_output t.cells (rooms_of t.cells) = outputs ∙ ap (λ x. chosen is_output x rooms) cells_are ∙ ap (chosen is_output t.cells) placed in
    ap (λ x. flow x f.main (pairs_of f.aborts.items) f.declared.items f.inputs.items f.outputs.items) bodies_are
    ∙ ap (λ x. flow (bodies_of (routines t) (routines t)) x (pairs_of f.aborts.items) f.declared.items f.inputs.items f.outputs.items) main
    ∙ ap (λ x. flow (bodies_of (routines t) (routines t)) t.main x f.declared.items f.inputs.items f.outputs.items) aborts_are
    ∙ ap (λ x. flow (bodies_of (routines t) (routines t)) t.main (conditions_of (aborts_of (routines t))) x f.inputs.items f.outputs.items) declared_are
    ∙ ap (λ x. flow (bodies_of (routines t) (routines t)) t.main (conditions_of (aborts_of (routines t))) (declared_of t.cells) x f.outputs.items) inputs_are
    ∙ ap (λ x. flow (bodies_of (routines t) (routines t)) t.main (conditions_of (aborts_of (routines t))) (declared_of t.cells) (chosen is_input t.cells (rooms_of t.cells)) x) outputs_are

module _ (t : Typing) (f : Flow) (is : f ≡ flow_of (program_of t)) where
  pub correct : IsTyped t → (temps : Temps) (rows : List (List ℤ)) → run_of f temps rows ≡ meaning_of (program_of t) rows
  correct typed temps rows = ap (λ x. run_of x temps rows) is ∙ same_run (program_of t) (typed_fits t typed) temps rows

  pub few : IsTyped t → BodiesWithin 652 f.bodies × ConditionsWithin 652 f.aborts
  few typed =
      let nested = typed_nested t typed in
      subst (λ x. BodiesWithin 652 x.bodies × ConditionsWithin 652 x.aborts) (sym is) (bodies_few (routines t) (routines t) nested, conditions_few (routines t) nested)

  pub within_weight : bodies_words f.bodies + conditions_words f.aborts ≤ program_weight t
  within_weight =
      let a = routines-words (routines t) (routines t) in
      let b = program_weighs t in
      subst (λ x. bodies_words x.bodies + conditions_words x.aborts ≤ program_weight t) (sym is) (omega (arith, a, b))

  pub within_passages : (i : ℕ) → count_at (passages_from [] f.bodies) i ≤ known_of (passages t.functions) i
  within_passages i =
      subst (λ x. count_at (passages_from [] x.bodies) i ≤ known_of (passages t.functions) i) (sym is)
      (subst (λ ks. count_at (passages_from [] (bodies_of (routines t) (routines t))) i ≤ count_at ks i) (program_passes t) (passages-few (routines t) i))
