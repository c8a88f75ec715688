-- The spans of lists and statements that tokens spell.
use Rattle.std.proofs.Common.{◌≡◌, ℕ, Bool, true, false, List, ◌∷◌, ◌++◌, Option}
use Rattle.pt_base.specs.declared.rules.Span.{Span}
use Rattle.pc_grammar.specs.declared.tokens.Token.{Token}
use Rattle.pc_grammar.specs.declared.expressions.Word.{Word}
use Rattle.pc_grammar.specs.declared.expressions.Expr.{Expr}
use Rattle.pc_grammar.specs.declared.expressions.Goal.{Goal}
use Rattle.pc_grammar.specs.declared.expressions.Goal.TheVariants.{Nothing, Var, Elem}
use Rattle.pc_grammar.specs.declared.statements.Stmt.{Stmt}
use Rattle.pc_grammar.specs.Expressions.{word_at}
use Rattle.pc_grammar.specs.Lists.{SpellsMore, none, more, list, SpellsListed, listed, SpellsArguments, no_arguments, some_arguments, SpellsName, name}
use Rattle.pc_grammar.specs.Settings.{SpellsSetting, value, call, SpellsLoop, free, counted, SpellsTest, test as tested}
use Rattle.pc_grammar.specs.Simple.{SpellsNamed, variable, element, routine, SpellsSimple, skip, named, eot, par}
use Rattle.pc_grammar.specs.Statements.{SpellsStmt, simple, block, if_open, if_else, while, abort, weak_abort, SpellsAborted, aborted, SpellsParts, none as no_parts, more as more_parts}
use Rattle.pc_grammar.specs.Spans.{each, name_spans, expression_spans, goal_spans, statement_spans}
use Rattle.pc_grammar.proofs.Equations.{statement-Skip, statement-Assign, statement-Call, statement-Block, statement-If-None, statement-If-Some, statement-While, statement-Eot, statement-Par, statement-Abort}
use Rattle.pc_grammar.proofs.Within.{Within, nowhere, past, here, both, then, within_as, within_between, within_level}

-- ---- lists

within_more : {A : Type 0} {X : List Token → A → Type 0} (spans : A → List Span) → ((w : List Token) (a : A) → X w a → Within w (spans a)) →
    {w : List Token} {all : List A} → SpellsMore X w all → Within w (each spans all)
within_more spans one none = nowhere
within_more spans one (more {w = w} {a = a} t is d ds) = past t (both (one w a d) (within_more spans one ds))

pub within_listed : {A : Type 0} {X : List Token → A → Type 0} (spans : A → List Span) → ((w : List Token) (a : A) → X w a → Within w (spans a)) →
    {w : List Token} {all : List A} → SpellsListed X w all → Within w (each spans all)
within_listed spans one (listed a b opens closes (list {w = w} {a = x} d ds)) = past a (then (both (one w x d) (within_more spans one ds)) (past b nowhere))

within_arguments : {source : List ℕ} {w : List Token} {all : List (Expr Word)} → SpellsArguments source w all → Within w (each expression_spans all)
within_arguments (no_arguments a b opens closes) = past a (past b nowhere)
within_arguments (some_arguments d) = within_listed expression_spans (λ w e s. within_level s) d

within_name : {source : List ℕ} (w : List Token) (x : Word) → SpellsName source w x → Within w (name_spans x)
within_name w x (name t is) = here t nowhere

-- ---- what stands behind a front of the spans

pub record Behind (front : List Span) (w : List Token) (spans : List Span) : Type 0 where
  pub back : List Span
  pub whole : spans ≡ front ++ back
  pub within : Within w back

within_setting : {source : List ℕ} (goal : Goal Word) {w : List Token} {s : Stmt Word} → SpellsSetting source goal w s → Behind (goal_spans goal) w (statement_spans s)
within_setting goal (value {e = e} d) = record { back = expression_spans e; whole = statement-Assign goal e; within = within_between d }
within_setting {source = source} goal (call {all = all} a t z is_equals is_name is_end d) =
    record { back = t.span ∷ each expression_spans all; whole = statement-Call goal (word_at source t) all; within = past a (here t (then (within_arguments d) (past z nowhere))) }

within_named : {source : List ℕ} (x : Word) {w : List Token} {s : Stmt Word} → SpellsNamed source x w s → Behind (name_spans x) w (statement_spans s)
within_named x (variable d) = within_setting (Var x) d
within_named x (element {index = index} i d) =
    let k = within_setting (Elem x index) d in
    record { back = expression_spans index ++ k.back; whole = k.whole; within = both (within_between i) k.within }
within_named x (routine {all = all} z is d) = record { back = each expression_spans all; whole = statement-Call Nothing x all; within = then (within_arguments d) (past z nowhere) }

within_simple : {source : List ℕ} {w : List Token} {s : Stmt Word} → SpellsSimple source w s → Within w (statement_spans s)
within_simple (skip t is) = within_as _ _ statement-Skip (past t nowhere)
within_simple {source = source} (named t is d) = let k = within_named (word_at source t) d in within_as _ _ k.whole (here t k.within)
within_simple (eot t z is ends) = within_as _ _ (statement-Eot t.span) (here t (past z nowhere))
within_simple (par {all = all} t z is ends d) = within_as _ _ (statement-Par t.span all) (here t (then (within_listed name_spans within_name d) (past z nowhere)))

-- ---- statements with parts

within_loop : {source : List ℕ} {w : List Token} {p : Expr Word × Option ℕ} → SpellsLoop source w p → Within w (expression_spans p.0)
within_loop (free d) = within_between d
within_loop (counted h n d is_hash is_number) = then (within_between d) (past h (past n nowhere))

within_test : {source : List ℕ} {w : List Token} {e : Expr Word} → SpellsTest source w e → Within w (expression_spans e)
within_test (tested a b z is_when is_pre is_end d) = past a (past b (then (within_between d) (past z nowhere)))

mutual
  within_statement : {source : List ℕ} {room : ℕ} {dangling : Bool} {w : List Token} {s : Stmt Word} → SpellsStmt source room dangling w s → Within w (statement_spans s)
  within_statement (simple d) = within_simple d
  within_statement (block {all = all} a b opens closes d) = within_as _ _ (statement-Block all) (past a (then (within_parts d) (past b nowhere)))
  within_statement (if_open {test = test} {yes = first} t is c d) = within_as _ _ (statement-If-None test first) (past t (both (within_between c) (within_statement d)))
  within_statement (if_else {test = test} {yes = first} {other = second} t x is is_else c d e) =
      within_as _ _ (statement-If-Some test first second) (past t (both (within_between c) (both (within_statement d) (past x (within_statement e)))))
  within_statement (while {p = p} {body = body} t is l d) = within_as _ _ (statement-While t.span p.0 p.1 body) (here t (both (within_loop l) (within_statement d)))
  within_statement (abort {q = q} t is d) = within_as _ _ (statement-Abort t.span false q.0 q.1) (here t (within_aborted d))
  within_statement (weak_abort {q = q} t a is is_abort d) = within_as _ _ (statement-Abort t.span true q.0 q.1) (here t (past a (within_aborted d)))

  within_aborted : {source : List ℕ} {room : ℕ} {w : List Token} {q : Stmt Word × Expr Word} → SpellsAborted source room w q → Within w (statement_spans q.0 ++ expression_spans q.1)
  within_aborted (aborted d c) = both (within_statement d) (within_test c)

  pub within_parts : {source : List ℕ} {room : ℕ} {w : List Token} {all : List (Stmt Word)} → SpellsParts source room w all → Within w (each statement_spans all)
  within_parts no_parts = nowhere
  within_parts (more_parts d ds) = both (within_statement d) (within_parts ds)
