-- The statements that tokens spell, with places for names: their expressions are nested as the grammar nests them, and the
-- numbers that are tests of loops have 32 bits.
use Rattle.std.proofs.Common.{◌≡◌, ℕ, suc, ◌+◌, ◌<◌, ◌≤◌, ◌^◌, Bool, true, false, List, [], ◌∷◌, ◌++◌, map, length, Option, refl, sym, subst, arith}
use Rattle.pt_base.specs.declared.operators.BinOp.{BinOp}
use Rattle.pt_base.specs.declared.limits.TheConstants.{MOST_EXPRESSION_LEVELS}
use Rattle.pc_grammar.specs.declared.tokens.Token.{Token}
use Rattle.pc_grammar.specs.declared.expressions.Word.{Word}
use Rattle.pc_grammar.specs.declared.expressions.Expr.{Expr}
use Rattle.pc_grammar.specs.declared.expressions.Goal.{Goal}
use Rattle.pc_grammar.specs.declared.expressions.Goal.TheVariants.{Nothing}
use Rattle.pc_grammar.specs.declared.statements.Stmt.{Stmt}
use Rattle.pc_grammar.specs.declared.marks.Pair.{Pair}
use Rattle.pc_grammar.specs.Expressions.{word_at, grown, SpellsOperand, number as spells_number, name as spells_name, element as spells_element, unary as spells_unary, inside, SpellsBetween, between, SpellsLevel, operand as spells_operand, chain as spells_chain, SpellsRest, none as no_rest, more as more_rest, IsExpression}
use Rattle.pc_grammar.specs.Lists.{SpellsMore, none as no_more, more as more_of, SpellsList, list, SpellsListed, listed, SpellsArguments, no_arguments, some_arguments, SpellsName}
use Rattle.pc_grammar.specs.Settings.{SpellsSetting, value, call, SpellsLoop, free, counted, SpellsTest, test as spells_test}
use Rattle.pc_grammar.specs.Simple.{SpellsNamed, variable, element as spells_target, routine as spells_routine, SpellsSimple, skip as spells_skip, named as spells_named, eot as spells_eot, par as spells_par}
use Rattle.pc_grammar.specs.Statements.{SpellsStmt, simple, block as spells_block, if_open, if_else, while, abort as spells_abort, weak_abort, SpellsAborted, aborted, SpellsParts, none as no_parts, more as more_parts, IsBody}
use Rattle.pc_grammar.specs.Typing.{numbered, numbered_goal}
use Rattle.pc_meaning.specs.declared.places.Room.{Room}
use Rattle.pc_meaning.specs.Tree.{Expression, Statement, Statements, skip, assign, call_of, eot, par, block, if_so, repeat, loop, abort, none, each}
use Rattle.pc_meaning.specs.Programs.{operands_of, expression_of, target_of, loop_from, Numbering}
use Rattle.pc_meaning.specs.Promises.{LiteralFits}
use Rattle.pc_lower.specs.Counts.{Nested, nested_number, nested_cell, nested_element, nested_unary, nested_chain, nested_in, AllNested, nested_alone, nested_operand, GoalNested, EachNested, StatementNested, StatementsNested}
use Rattle.pc_lower.proofs.Placed.{placed, placed-Number, placed-Var, placed-Elem, placed-Unary, numbered_operands, placed-Chain, placed_statement, placed_statements, placed-Skip, placed-Assign, placed-Call, placed-Eot, placed-Par, placed-Block, placed-If, placed-If_else, placed-While, placed-Abort}
use Rattle.pc_lower.proofs.Spelled.{Small, small_left, small_right}

-- ---- numbers and lists as they are spelled: the test of a loop that is a literal, and the number of a loop, are of 32 bits; a
-- `PAR` names some thread

abbrev mutual
  pub LiteralsFit : Statement → Type 0
  LiteralsFit skip = Unit {0}
  LiteralsFit (assign goal e) = Unit {0}
  LiteralsFit (call_of goal f es) = Unit {0}
  LiteralsFit (block all) = AllLiteralsFit all
  LiteralsFit (if_so test first second) = LiteralsFit first × LiteralsFit second
  LiteralsFit (repeat most test body) = LiteralFits test × LiteralsFit body × (most < 2 ^ 32)
  LiteralsFit (loop test body) = LiteralFits test × LiteralsFit body
  LiteralsFit (eot i) = Unit {0}
  LiteralsFit (par i threads) = 1 ≤ length threads
  LiteralsFit (abort j weak body test) = LiteralsFit body

  pub AllLiteralsFit : Statements → Type 0
  AllLiteralsFit none = Unit {0}
  AllLiteralsFit (each s rest) = LiteralsFit s × AllLiteralsFit rest

-- a value at a looser level
loosen : {deep level looser : ℕ} {e : Expression} → looser ≤ level → Nested deep level e → Nested deep looser e
loosen le (nested_number d l) = nested_number d (omega arith)
loosen le (nested_cell d l) = nested_cell d (omega arith)
loosen le (nested_element l x) = nested_element (omega arith) x
loosen le (nested_unary l x) = nested_unary (omega arith) x
loosen le (nested_chain l x xs) = nested_chain (omega arith) x xs
loosen le (nested_in l x) = nested_in (omega arith) x

module _ (rooms : List Room) (number_of : Word → ℕ) where
  abbrev at : Expr Word → Expression
  at = placed rooms number_of

  -- ---- expressions

  grown_nested : {deep own : ℕ} (head : Expr Word) (rest : List (BinOp × Expr Word)) → Nested deep (suc own) (at head) → AllNested deep (suc own) (operands_of rooms (numbered_operands rooms number_of rest)) → Nested deep own (at (grown head rest))
  grown_nested head [] x xs = loosen (omega arith) x
  grown_nested {deep = deep} {own = own} head (p ∷ rest) x xs = subst (Nested deep own) (sym (placed-Chain rooms number_of head (p ∷ rest))) (nested_chain (omega arith) x xs)

  mutual
    operand_nested : {source : List ℕ} {room : ℕ} {w : List Token} {e : Expr Word} → SpellsOperand source room w e → (deep : ℕ) → deep + room ≡ 64 → Nested deep 10 (at e)
    operand_nested (spells_number {n = n} t is) deep sum = subst (Nested deep 10) (sym (placed-Number rooms number_of n)) (nested_number (omega arith) (omega arith))
    operand_nested (spells_name {source = source} t is) deep sum = subst (Nested deep 10) (sym (placed-Var rooms number_of (word_at source t))) (nested_cell (omega arith) (omega arith))
    operand_nested (spells_element {source = source} {index = index} t is b) deep sum = subst (Nested deep 10) (sym (placed-Elem rooms number_of (word_at source t) index)) (nested_element (omega arith) (between_nested b (suc deep) (omega arith)))
    operand_nested (spells_unary {e = e} t op is d) deep sum = subst (Nested deep 10) (sym (placed-Unary rooms number_of op e)) (nested_unary (omega arith) (operand_nested d (suc deep) (omega arith)))
    operand_nested (inside b) deep sum = nested_in (omega arith) (between_nested b (suc deep) (omega arith))

    between_nested : {source : List ℕ} {room : ℕ} {pair : Pair} {w : List Token} {e : Expr Word} → SpellsBetween source room pair w e → (deep : ℕ) → deep + room ≡ 64 → Nested deep 0 (at e)
    between_nested (between a b opens closes d) deep sum = level_nested d deep 0 sum (omega arith)

    level_nested : {source : List ℕ} {room level : ℕ} {w : List Token} {e : Expr Word} → SpellsLevel source room level w e → (deep own : ℕ) → deep + room ≡ 64 → own + level ≡ 10 → Nested deep own (at e)
    level_nested (spells_operand {e = e} d) deep own sum level = let is : 10 ≡ own = omega arith in subst (λ l. Nested deep l (at e)) is (operand_nested d deep sum)
    level_nested (spells_chain {head = head} {rest = rest} d r) deep own sum level = grown_nested head rest (level_nested d deep (suc own) sum (omega arith)) (rest_nested r deep (suc own) sum (omega arith))

    rest_nested : {source : List ℕ} {room level : ℕ} {w : List Token} {rest : List (BinOp × Expr Word)} → SpellsRest source room level w rest → (deep own : ℕ) → deep + room ≡ 64 → own + level ≡ 10 → AllNested deep own (operands_of rooms (numbered_operands rooms number_of rest))
    rest_nested no_rest deep own sum level = nested_alone
    rest_nested (more_rest t op is of_level d r) deep own sum level = nested_operand (level_nested d deep own sum level) (rest_nested r deep own sum level)

  pub alone_nested : {source : List ℕ} {w : List Token} {e : Expr Word} → IsExpression source w e → Nested 0 0 (at e)
  alone_nested d = level_nested d 0 0 refl refl

  pub enclosed_nested : {source : List ℕ} {pair : Pair} {w : List Token} {e : Expr Word} → SpellsBetween source MOST_EXPRESSION_LEVELS pair w e → Nested 0 0 (at e)
  enclosed_nested d = between_nested d 0 refl

  grown_literal : (head : Expr Word) (rest : List (BinOp × Expr Word)) → LiteralFits (at head) → LiteralFits (at (grown head rest))
  grown_literal head [] h = h
  grown_literal head (p ∷ rest) h = subst LiteralFits (sym (placed-Chain rooms number_of head (p ∷ rest))) tt

  mutual
    operand_literal : {source : List ℕ} {room : ℕ} {w : List Token} {e : Expr Word} → SpellsOperand source room w e → Small w → LiteralFits (at e)
    operand_literal (spells_number {n = n} t is) small = subst LiteralFits (sym (placed-Number rooms number_of n)) (small.0 n is)
    operand_literal (spells_name {source = source} t is) small = subst LiteralFits (sym (placed-Var rooms number_of (word_at source t))) tt
    operand_literal (spells_element {source = source} {index = index} t is b) small = subst LiteralFits (sym (placed-Elem rooms number_of (word_at source t) index)) tt
    operand_literal (spells_unary {e = e} t op is d) small = subst LiteralFits (sym (placed-Unary rooms number_of op e)) tt
    operand_literal (inside b) small = between_literal b small

    between_literal : {source : List ℕ} {room : ℕ} {pair : Pair} {w : List Token} {e : Expr Word} → SpellsBetween source room pair w e → Small w → LiteralFits (at e)
    between_literal (between {w = w} a b opens closes d) small = level_literal d (small_left w (b ∷ []) small.1)

    level_literal : {source : List ℕ} {room level : ℕ} {w : List Token} {e : Expr Word} → SpellsLevel source room level w e → Small w → LiteralFits (at e)
    level_literal (spells_operand d) small = operand_literal d small
    level_literal (spells_chain {w = w} {v = v} {head = head} {rest = rest} d r) small = grown_literal head rest (level_literal d (small_left w v small))

  -- ---- statements

  module _ (function : Word → ℕ) (n : Numbering) where
    abbrev Kept : Statement → Type 0
    Kept s = StatementNested s × LiteralsFit s

    abbrev AllKept : Statements → Type 0
    AllKept all = StatementsNested all × AllLiteralsFit all

    abbrev set : Stmt Word → Statement
    set = placed_statement rooms number_of function n

    abbrev set_all : List (Stmt Word) → Statements
    set_all = placed_statements rooms number_of function n

    more_nested : {source : List ℕ} {w : List Token} {es : List (Expr Word)} → SpellsMore (IsExpression source) w es → EachNested (map (expression_of rooms) (map (numbered number_of) es))
    more_nested no_more = tt
    more_nested (more_of t is d ds) = (alone_nested d, more_nested ds)

    list_nested : {source : List ℕ} {w : List Token} {es : List (Expr Word)} → SpellsList (IsExpression source) w es → EachNested (map (expression_of rooms) (map (numbered number_of) es))
    list_nested (list d ds) = (alone_nested d, more_nested ds)

    listed_nested : {source : List ℕ} {w : List Token} {es : List (Expr Word)} → SpellsListed (IsExpression source) w es → EachNested (map (expression_of rooms) (map (numbered number_of) es))
    listed_nested (listed a b opens closes d) = list_nested d

    arguments_nested : {source : List ℕ} {w : List Token} {es : List (Expr Word)} → SpellsArguments source w es → EachNested (map (expression_of rooms) (map (numbered number_of) es))
    arguments_nested (no_arguments a b opens closes) = tt
    arguments_nested (some_arguments d) = listed_nested d

    setting_kept : {source : List ℕ} {goal : Goal Word} {w : List Token} {s : Stmt Word} → SpellsSetting source goal w s → GoalNested (target_of rooms (numbered_goal number_of goal)) → Kept (set s)
    setting_kept {goal = goal} (value {e = e} d) g = subst Kept (sym (placed-Assign rooms number_of function n goal e)) ((g, enclosed_nested d), tt)
    setting_kept {source = source} {goal = goal} (call {all = es} a t z sets is ends d) g = subst Kept (sym (placed-Call rooms number_of function n goal (word_at source t) es)) ((g, arguments_nested d), tt)

    named_kept : {source : List ℕ} {x : Word} {w : List Token} {s : Stmt Word} → SpellsNamed source x w s → Kept (set s)
    named_kept (variable d) = setting_kept d tt
    named_kept (spells_target d e) = setting_kept e (enclosed_nested d)
    named_kept {x = x} (spells_routine {all = es} z is d) = subst Kept (sym (placed-Call rooms number_of function n Nothing x es)) ((tt, arguments_nested d), tt)

    some_threads : {source : List ℕ} {w : List Token} {all : List Word} → SpellsListed (SpellsName source) w all → 1 ≤ length (map function all)
    some_threads (listed a b opens closes (list d ds)) = omega arith

    simple_kept : {source : List ℕ} {w : List Token} {s : Stmt Word} → SpellsSimple source w s → Kept (set s)
    simple_kept (spells_skip t is) = subst Kept (sym (placed-Skip rooms number_of function n)) (tt, tt)
    simple_kept (spells_named t is d) = named_kept d
    simple_kept (spells_eot t z is ends) = subst Kept (sym (placed-Eot rooms number_of function n t.span)) (tt, tt)
    simple_kept (spells_par {all = threads} t z is ends d) = subst Kept (sym (placed-Par rooms number_of function n t.span threads)) (tt, some_threads d)

    loop_kept : {source : List ℕ} {w : List Token} {p : Expr Word × Option ℕ} → SpellsLoop source w p → Small w → (body : Statement) → Kept body → Kept (loop_from p.1 (at p.0) body)
    loop_kept (free d) small body k = ((enclosed_nested d, k.0), (between_literal d small, k.1))
    loop_kept (counted {w = w} {most = most} h t d is_hash is) small body k =
        ((enclosed_nested d, k.0), (between_literal d (small_left w (h ∷ t ∷ []) small), k.1, (small_right w (h ∷ t ∷ []) small).1.0 most is))

    test_nested : {source : List ℕ} {w : List Token} {e : Expr Word} → SpellsTest source w e → Nested 0 0 (at e)
    test_nested (spells_test a b z is_when is_pre ends d) = enclosed_nested d

    mutual
      statement_kept : {source : List ℕ} {room : ℕ} {dangling : Bool} {w : List Token} {s : Stmt Word} → SpellsStmt source room dangling w s → Small w → Kept (set s)
      statement_kept (simple d) small = simple_kept d
      statement_kept (spells_block {w = w} {all = all} a b opens closes d) small =
          let k = parts_kept d (small_left w (b ∷ []) small.1) in
          subst Kept (sym (placed-Block rooms number_of function n all)) (k.0, k.1)
      statement_kept (if_open {w = w} {v = v} {test = c} {yes = first} t is b d) small =
          let k = statement_kept d (small_right w v small.1) in
          subst Kept (sym (placed-If rooms number_of function n c first)) ((enclosed_nested b, k.0, tt), (k.1, tt))
      statement_kept (if_else {w = w} {v = v} {u = u} {test = c} {yes = first} {other = other} t x is is_else b d o) small =
          let behind = small_right w (v ++ x ∷ u) small.1 in
          let k = statement_kept d (small_left v (x ∷ u) behind) in
          let m = statement_kept o (small_right v (x ∷ u) behind).1 in
          subst Kept (sym (placed-If_else rooms number_of function n c first other)) ((enclosed_nested b, k.0, m.0), (k.1, m.1))
      statement_kept (while {w = w} {v = v} {p = p} {body = body} t is l d) small =
          subst Kept (sym (placed-While rooms number_of function n t.span p.0 p.1 body)) (loop_kept l (small_left w v small.1) (set body) (statement_kept d (small_right w v small.1)))
      statement_kept (spells_abort {q = q} t is d) small =
          let k = aborted_kept d small.1 in
          subst Kept (sym (placed-Abort rooms number_of function n t.span false q.0 q.1)) ((k.0.0, k.1), k.0.1)
      statement_kept (weak_abort {q = q} t a is is_abort d) small =
          let k = aborted_kept d small.1.1 in
          subst Kept (sym (placed-Abort rooms number_of function n t.span true q.0 q.1)) ((k.0.0, k.1), k.0.1)

      aborted_kept : {source : List ℕ} {room : ℕ} {w : List Token} {q : Stmt Word × Expr Word} → SpellsAborted source room w q → Small w → Kept (set q.0) × Nested 0 0 (at q.1)
      aborted_kept (aborted {w = w} {v = v} d c) small = (statement_kept d (small_left w v small), test_nested c)

      parts_kept : {source : List ℕ} {room : ℕ} {w : List Token} {all : List (Stmt Word)} → SpellsParts source room w all → Small w → AllKept (set_all all)
      parts_kept no_parts small = (tt, tt)
      parts_kept (more_parts {w = w} {v = v} d ds) small =
          let k = statement_kept d (small_left w v small) in
          let m = parts_kept ds (small_right w v small) in
          ((k.0, m.0), (k.1, m.1))

    pub body_kept : {source : List ℕ} {w : List Token} {all : List (Stmt Word)} → IsBody source w all → Small w → StatementsNested (set_all all) × AllLiteralsFit (set_all all)
    body_kept d small = parts_kept d small
