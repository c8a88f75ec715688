-- The spans of items and programs that tokens spell.
use Rattle.std.proofs.Common.{ℕ, ℤ, List, [], ◌++◌, Option, length, refl, sym, subst, arith}
use Rattle.pc_grammar.specs.declared.tokens.Token.{Token}
use Rattle.pc_grammar.proofs.Cuts.{known}
use Rattle.pc_grammar.specs.declared.expressions.Word.{Word}
use Rattle.pc_grammar.specs.declared.expressions.Expr.{Expr}
use Rattle.pc_grammar.specs.declared.programs.CellKind.{CellKind}
use Rattle.pc_grammar.specs.declared.programs.Item.{Item}
use Rattle.pc_grammar.specs.declared.frames.Frame.{Frame}
use Rattle.pc_grammar.specs.Constants.{ended, SpellsStart, positive, negative}
use Rattle.pc_grammar.specs.Frames.{SpellsParameter, parameter, SpellsParameters, nothing, void, some, SpellsLocal, bare, valued, SpellsLocals, none, more, SpellsFrame, framed}
use Rattle.pc_grammar.specs.Items.{size, SpellsReactive, reactive, function, SpellsNamedItem, plain, started, array, giving, SpellsItem, input, output, named, routine}
use Rattle.pc_grammar.specs.Programs.{IsProgram, none as no_items, more as more_items}
use Rattle.pc_grammar.specs.Spans.{each, name_spans, expression_spans, local_spans, frame_spans, item_spans, spans_of, Rises, SpansRise}
use Rattle.pc_grammar.proofs.Within.{Within, nowhere, past, here, both, then, within_as, within_between}
use Rattle.pc_grammar.proofs.StatementFacts.{within_listed, Behind, within_parts}

within_start : {w : List Token} {z : ℤ} → SpellsStart w z → Within w []
within_start (positive a is (ended n z is_number is_end)) = past a (past n (past z nowhere))
within_start (negative a m is is_minus (ended n z is_number is_end)) = past a (past m (past n (past z nowhere)))

-- ---- functions

within_parameter : {source : List ℕ} (w : List Token) (x : Word) → SpellsParameter source w x → Within w (name_spans x)
within_parameter w x (parameter t n is is_name) = past t (here n nowhere)

within_parameters : {source : List ℕ} {w : List Token} {ps : List Word} → SpellsParameters source w ps → Within w (each name_spans ps)
within_parameters (nothing a b opens closes) = past a (past b nowhere)
within_parameters (void a v b opens is closes) = past a (past v (past b nowhere))
within_parameters (some d) = within_listed name_spans within_parameter d

within_local : {source : List ℕ} {w : List Token} {p : Word × Option (Expr Word)} → SpellsLocal source w p → Within w (local_spans p)
within_local (bare {w = w} {name = x} z is d) = then (within_parameter w x d) (past z nowhere)
within_local (valued {w = w} {name = x} d e) = both (within_parameter w x d) (within_between e)

within_locals : {source : List ℕ} {w : List Token} {ls : List (Word × Option (Expr Word))} → SpellsLocals source w ls → Within w (each local_spans ls)
within_locals none = nowhere
within_locals (more d ds) = both (within_local d) (within_locals ds)

within_frame : {source : List ℕ} {w : List Token} {f : Frame} → SpellsFrame source w f → Within w (frame_spans f.parameters f.locals f.body)
within_frame (framed b is ps ls d) = both (within_parameters ps) (past b (both (within_locals ls) (within_parts d)))

-- ---- items

within_named : {source : List ℕ} (x : Word) {w : List Token} {i : Item} → SpellsNamedItem source x w i → Behind (name_spans x) w (item_spans i)
within_named x (plain z is) = record { back = []; whole = refl; within = past z nowhere }
within_named x (started d) = record { back = []; whole = refl; within = within_start d }
within_named x (array (size a n b z opens is closes ends)) = record { back = []; whole = refl; within = past a (past n (past b (past z nowhere))) }
within_named x (giving (function {f = f} {e = e} b is d r)) = record {
  back = frame_spans f.parameters f.locals f.body ++ expression_spans e;
  whole = refl;
  within = both (within_frame d) (then (within_between r) (past b nowhere));
}

within_cell : {source : List ℕ} {kind : CellKind} {w : List Token} {i : Item} → SpellsReactive source kind w i → Within w (item_spans i)
within_cell (reactive {w = w} {name = x} d s) = then (within_parameter w x d) (within_start s)

within_item : {source : List ℕ} {w : List Token} {i : Item} → SpellsItem source w i → Within w (item_spans i)
within_item (input t is d) = past t (within_cell d)
within_item (output t is d) = past t (within_cell d)
within_item (named {w = w} {name = x} d n) = let k = within_named x n in within_as _ _ k.whole (both (within_parameter w x d) k.within)
within_item (routine t n b is is_name closes d) = past t (here n (both (within_frame d) (past b nowhere)))

within_items : {source : List ℕ} {w : List Token} {all : List Item} → IsProgram source w all → Within w (spans_of all)
within_items no_items = nowhere
within_items (more_items d ds) = both (within_item d) (within_items ds)

pub rise : SpansRise
rise program tree =
    let order = (known tree.cut tree.source refl (omega arith)).in_order in
    subst (Rises 0 (spans_of program.items)) (sym tree.length_is) ((within_items tree.spelled).rises 0 (length tree.source) order)
