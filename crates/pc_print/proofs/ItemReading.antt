-- The lines of items are read whole, whatever follows them.
use Rattle.std.proofs.Common.{ℕ, suc, ◌<◌, ℤ, pos, negsuc, Bool, true, false, List, [], ◌∷◌, ◌++◌, Option, Some, None, w32, FitsSigned, neg_ℤ, rules, refl, arith}
use Rattle.std.proofs.lemmas.Int.{SFits-int_wrap}
use Rattle.pc_grammar.specs.declared.tokens.Sort.TheVariants.{CloseParenthesis, OpenBracket, CloseBracket, Semicolon, ReturnWord, OpenBrace, CloseBrace}
use Rattle.pc_grammar.specs.declared.tokens.Token.{Token}
use Rattle.pc_grammar.specs.declared.expressions.Word.{Word}
use Rattle.pc_grammar.specs.declared.expressions.Expr.{Expr}
use Rattle.pc_grammar.specs.declared.programs.CellKind.{CellKind}
use Rattle.pc_grammar.specs.declared.programs.CellKind.TheVariants.{Input, Output, Plain}
use Rattle.pc_grammar.specs.declared.programs.Item.{Item}
use Rattle.pc_grammar.specs.declared.programs.Item.TheVariants.{Scalar, Array, Function}
use Rattle.pc_grammar.specs.Expressions.{word_at}
use Rattle.pc_grammar.specs.declared.frames.Frame.{Frame}
use Rattle.pc_grammar.specs.Constants.{SpellsStart, positive, negative}
use Rattle.pc_grammar.specs.Frames.{SpellsParameter, parameter, SpellsParameters, nothing, void, some, SpellsLocal, bare, valued, SpellsLocals, none, more, SpellsFrame, framed}
use Rattle.pc_grammar.specs.Items.{size, SpellsReactive, reactive, SpellsFunction, function, SpellsNamedItem, plain, started, array, giving, SpellsItem, input, output, named, routine}
use Rattle.pc_grammar.specs.Programs.{IsProgram, none as no_items, more as more_items}
use Rattle.pc_print.specs.Parts.{Part, mark, word, literal, blank, text}
use Rattle.pc_print.specs.Canonical.{expression, in_parentheses, listed as listed_parts, equals, line, statements, signed, reactive as reactive_parts, declared, local, locals, returned, typed, head_line, item, items}
use Rattle.pc_print.proofs.Fronts.{Breaks, read_number, read_minus, read_open_bracket, read_close_bracket}
use Rattle.pc_print.proofs.Stands.{stands-append}
use Rattle.pc_print.proofs.Sound.{GoodName, Goods, goods_front, goods_back, good_name, name_read, Sound, sound_between}
use Rattle.pc_print.proofs.Words.{read_int_word, read_void_word, read_return_word, read_reactive_input_word, read_reactive_output_word, read_semicolon, read_open_brace, read_close_brace}
use Rattle.pc_print.proofs.Reading.{Standing, Closed, closed_both, closed_none, then_standing, standing_closed, standing_expression, closed_line, closed_stop, closed_in_parentheses, closed_listed, open_breaks, open_bracket_breaks, close_bracket_breaks, equals_closed, closed_mark_line, closed_parts}

standing_then : (source : List ℕ) (a b : List Part) → Standing source a → Closed source b → ((v : List ℕ) → Breaks (text b ++ v)) → Closed source (a ++ b)
standing_then source a b s c breaks = record { stands = λ v. stands-append source a b v (s.stands (text b ++ v) (breaks v)) (c.stands v) }

-- ---- names and words

good_parameter : (source : List ℕ) {w : List Token} {x : Word} → SpellsParameter source w x → Goods source w → GoodName source x
good_parameter source (parameter t n is_int is_name) g = good_name source n g.1.0 is_name

standing_declared : (source : List ℕ) (x : Word) → GoodName source x → Standing source (declared x)
standing_declared source x good = record { stands = λ v breaks. (read_int_word (text (blank ∷ word x ∷ []) ++ v) refl, (tt, (name_read source x v good breaks, tt))) }

pub start_fits : {w : List Token} {z : ℤ} → SpellsStart w z → FitsSigned w32 z
start_fits (positive {value = n} a is d) = SFits-int_wrap w32 (pos n)
start_fits (negative {value = n} a m is is_minus d) = SFits-int_wrap w32 (neg_ℤ (pos n))

standing_signed : (source : List ℕ) (z : ℤ) → FitsSigned w32 z → Standing source (signed z)
standing_signed source (pos n) f = let g = f.sfits in let small : n < 4294967296 = omega arith in record { stands = λ v breaks. (read_number n v small breaks, tt) }
standing_signed source (negsuc n) f =
    let g = f.sfits in
    let small : suc n < 4294967296 = omega arith in
    record { stands = λ v breaks. (record { read = read_minus (text (literal (suc n) ∷ []) ++ v); nameless = λ x. refl }, (read_number (suc n) v small breaks, tt)) }

-- ---- cells

closed_reactive : (source : List ℕ) (kind : CellKind) → Closed source (reactive_parts kind)
closed_reactive source Input = record { stands = λ v. (read_reactive_input_word (32 ∷ v) refl, (tt, tt)) }
closed_reactive source Output = record { stands = λ v. (read_reactive_output_word (32 ∷ v) refl, (tt, tt)) }
closed_reactive source _ = closed_none source

closed_scalar : (source : List ℕ) (kind : CellKind) (x : Word) (z : ℤ) → GoodName source x → FitsSigned w32 z → Closed source (item (Scalar kind x z))
closed_scalar source kind x z good fits =
    let end = signed z ++ mark Semicolon ∷ [] in
    let set = closed_both source equals end (equals_closed source) (closed_stop source (signed z) (standing_signed source z fits)) in
    let named_set = standing_then source (declared x) (equals ++ end) (standing_declared source x good) set (λ v. refl) in
    closed_line source 0 (reactive_parts kind ++ (declared x ++ (equals ++ end)))
    (standing_closed source (reactive_parts kind ++ (declared x ++ (equals ++ end))) (closed_both source (reactive_parts kind) (declared x ++ (equals ++ end)) (closed_reactive source kind) named_set))

closed_array : (source : List ℕ) (x : Word) (n : ℕ) → GoodName source x → n < 4294967296 → Closed source (item (Array x n))
closed_array source x n good small =
    let sized = mark OpenBracket ∷ literal n ∷ mark CloseBracket ∷ mark Semicolon ∷ [] in
    let c : Closed source sized = record {
      stands = λ v. (
        record { read = read_open_bracket (text (literal n ∷ mark CloseBracket ∷ mark Semicolon ∷ []) ++ v); nameless = λ y. refl },
        (
          read_number n (text (mark CloseBracket ∷ mark Semicolon ∷ []) ++ v) small (close_bracket_breaks (text (mark Semicolon ∷ [])) v),
          (record { read = read_close_bracket (text (mark Semicolon ∷ []) ++ v); nameless = λ y. refl }, (read_semicolon v, tt)),
        ),
      );
    } in
    closed_line source 0 (declared x ++ sized) (standing_closed source (declared x ++ sized)
    (standing_then source (declared x) sized (standing_declared source x good) c (λ v. open_bracket_breaks (text (literal n ∷ mark CloseBracket ∷ mark Semicolon ∷ [])) v)))

-- ---- functions

closed_parameters : (source : List ℕ) {w : List Token} {ps : List Word} → SpellsParameters source w ps → Goods source w → Closed source (in_parentheses (listed_parts declared ps))
closed_parameters source (nothing a b opens closes) g = closed_in_parentheses source [] (standing_closed source [] (closed_none source))
closed_parameters source (void a v b opens is closes) g = closed_in_parentheses source [] (standing_closed source [] (closed_none source))
closed_parameters source (some d) g = closed_listed source (SpellsParameter source) declared (λ w x p h. standing_declared source x (good_parameter source p h)) d g

closed_local : (source : List ℕ) {w : List Token} {p : Word × Option (Expr Word)} → SpellsLocal source w p → Goods source w → Closed source (local p)
closed_local source (bare {w = w} {name = x} z is d) g =
    closed_line source 1 (declared x ++ ([] ++ mark Semicolon ∷ [])) (standing_closed source (declared x ++ ([] ++ mark Semicolon ∷ []))
    (closed_stop source (declared x) (standing_declared source x (good_parameter source d (goods_front source w (z ∷ []) g)))))
closed_local source (valued {w = w} {v = v} {name = x} {e = e} d b) g =
    let s = sound_between b (goods_back source w v g) in
    let end = expression e ++ mark Semicolon ∷ [] in
    let both = (equals ++ expression e) ++ mark Semicolon ∷ [] in
    let set : Closed source both = closed_stop source (equals ++ expression e) (then_standing source equals (expression e) (equals_closed source) (standing_expression source e s)) in
    closed_line source 1 (declared x ++ both) (standing_closed source (declared x ++ both)
    (standing_then source (declared x) both (standing_declared source x (good_parameter source d (goods_front source w v g))) set (λ u. refl)))

closed_locals : (source : List ℕ) {w : List Token} {ls : List (Word × Option (Expr Word))} → SpellsLocals source w ls → Goods source w → Closed source (locals ls)
closed_locals source none g = closed_none source
closed_locals source (more {w = w} {v = v} {one = p} {rest = rest} d ds) g = closed_both source (local p) (locals rest) (closed_local source d (goods_front source w v g)) (closed_locals source ds (goods_back source w v g))

record ClosedFrame (source : List ℕ) (f : Frame) : Type 0 where
  parameters : Closed source (in_parentheses (listed_parts declared f.parameters))
  locals : Closed source (locals f.locals)
  body : Closed source (statements 1 f.body)

closed_frame : (source : List ℕ) {w : List Token} {f : Frame} → SpellsFrame source w f → Goods source w → ClosedFrame source f
closed_frame source (framed {w = w} {u = u} {v = v} b is ps ls d) g =
    let behind = goods_back source w (b ∷ (u ++ v)) g in
    record {
      parameters = closed_parameters source ps (goods_front source w (b ∷ (u ++ v)) g);
      locals = closed_locals source ls (goods_front source u v behind.1);
      body = closed_parts d (goods_back source u v behind.1) 1;
    }

standing_typed : (source : List ℕ) (x : Word) (gives : Bool) → GoodName source x → Standing source (typed x gives)
standing_typed source x true good = record { stands = λ v breaks. (read_int_word (text (blank ∷ word x ∷ []) ++ v) refl, (tt, (name_read source x v good breaks, tt))) }
standing_typed source x false good = record { stands = λ v breaks. (read_void_word (text (blank ∷ word x ∷ []) ++ v) refl, (tt, (name_read source x v good breaks, tt))) }

closed_head : (source : List ℕ) (x : Word) (gives : Bool) (ps : List Word) → GoodName source x → Closed source (in_parentheses (listed_parts declared ps)) → Closed source (head_line x gives ps)
closed_head source x gives ps good c =
    let list_of = in_parentheses (listed_parts declared ps) in
    let brace : Closed source (blank ∷ mark OpenBrace ∷ []) = record { stands = λ v. (tt, (read_open_brace v, tt)) } in
    let tail = closed_both source list_of (blank ∷ mark OpenBrace ∷ []) c brace in
    closed_line source 0 (typed x gives ++ (list_of ++ blank ∷ mark OpenBrace ∷ [])) (standing_closed source (typed x gives ++ (list_of ++ blank ∷ mark OpenBrace ∷ []))
    (standing_then source (typed x gives) (list_of ++ blank ∷ mark OpenBrace ∷ []) (standing_typed source x gives good) tail
    (λ v. open_breaks (text (listed_parts declared ps ++ mark CloseParenthesis ∷ [] ++ blank ∷ mark OpenBrace ∷ [])) v)))

closed_function : (source : List ℕ) (x : Word) (gives : Bool) (f : Frame) (result : Option (Expr Word)) → GoodName source x → ClosedFrame source f → Closed source (returned result) → Closed source (item (Function x gives f.parameters f.locals f.body result))
closed_function source x gives f result good c r =
    let last = line 0 (mark CloseBrace ∷ []) in
    closed_both source (head_line x gives f.parameters) (locals f.locals ++ (statements 1 f.body ++ (returned result ++ last))) (closed_head source x gives f.parameters good c.parameters)
    (closed_both source (locals f.locals) (statements 1 f.body ++ (returned result ++ last)) c.locals
    (closed_both source (statements 1 f.body) (returned result ++ last) c.body
    (closed_both source (returned result) last r (closed_mark_line source 0 CloseBrace (λ v breaks. read_close_brace v)))))

closed_returned : (source : List ℕ) (e : Expr Word) → Sound source (expression e) → Closed source (returned (Some e))
closed_returned source e s =
    let end = closed_stop source (expression e) (standing_expression source e s) in
    closed_line source 1 (mark ReturnWord ∷ blank ∷ (expression e ++ mark Semicolon ∷ [])) (record { stands = λ v breaks. (read_return_word (text (blank ∷ (expression e ++ mark Semicolon ∷ [])) ++ v) refl, (tt, end.stands v)) })

closed_giving : (source : List ℕ) (x : Word) {w : List Token} {i : Item} → SpellsFunction source x w i → Goods source w → GoodName source x → Closed source (item i)
closed_giving source x (function {w = w} {v = v} {f = f} {e = e} b is d r) g good =
    closed_function source x true f (Some e) good (closed_frame source d (goods_front source w (v ++ b ∷ []) g)) (closed_returned source e (sound_between r (goods_front source v (b ∷ []) (goods_back source w (v ++ b ∷ []) g))))

-- ---- items

closed_named : (source : List ℕ) (x : Word) {w : List Token} {i : Item} → SpellsNamedItem source x w i → Goods source w → GoodName source x → Closed source (item i)
closed_named source x (plain z is) g good = closed_scalar source Plain x (pos 0) good (search rules)
closed_named source x (started {z = z} d) g good = closed_scalar source Plain x z good (start_fits d)
closed_named source x (array (size {value = n} a m b z opens is closes ends)) g good = closed_array source x n good (g.1.0.small n is)
closed_named source x (giving d) g good = closed_giving source x d g good

closed_cell : (source : List ℕ) (kind : CellKind) {w : List Token} {i : Item} → SpellsReactive source kind w i → Goods source w → Closed source (item i)
closed_cell source kind (reactive {w = w} {v = v} {name = x} {z = z} d s) g = closed_scalar source kind x z (good_parameter source d (goods_front source w v g)) (start_fits s)

closed_item : (source : List ℕ) {w : List Token} {i : Item} → SpellsItem source w i → Goods source w → Closed source (item i)
closed_item source (input t is d) g = closed_cell source Input d g.1
closed_item source (output t is d) g = closed_cell source Output d g.1
closed_item source (named {w = w} {v = v} {name = x} d n) g = closed_named source x n (goods_back source w v g) (good_parameter source d (goods_front source w v g))
closed_item source (routine {w = w} {f = f} t n b is is_name closes d) g =
    closed_function source (word_at source n) false f None (good_name source n g.1.0 is_name) (closed_frame source d (goods_front source w (b ∷ []) g.1.1)) (closed_none source)

pub closed_items : (source : List ℕ) {w : List Token} {all : List Item} → IsProgram source w all → Goods source w → Closed source (items all)
closed_items source no_items g = closed_none source
closed_items source (more_items {w = w} {v = v} {i = i} {rest = rest} d ds) g = closed_both source (item i) (items rest) (closed_item source d (goods_front source w v g)) (closed_items source ds (goods_back source w v g))
