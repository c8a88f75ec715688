-- What a tree names with numbers for names is what it names, each with its number.
use Rattle.std.proofs.Common.{◌≡◌, ℕ, Bool, true, false, ◌||◌, List, [], ◌∷◌, ◌++◌, Option, Some, None, map, length, refl, sym, ap, subst, ◌∙◌}
use Rattle.std.proofs.lemmas.List.{length-map, map-append}
use Rattle.pt_base.specs.declared.rules.Span.{Span}
use Rattle.pt_base.specs.declared.operators.UnOp.{UnOp}
use Rattle.pt_base.specs.declared.operators.BinOp.{BinOp}
use Rattle.pc_grammar.specs.declared.expressions.Word.{Word}
use Rattle.pc_grammar.specs.declared.expressions.Expr.{Expr}
use Rattle.pc_grammar.specs.declared.expressions.Expr.TheFolds.{fold-roll-Expr, ind-Expr, map-Expr}
use Rattle.pc_grammar.specs.declared.expressions.Expr.TheViews.{roll-Expr}
use Rattle.pc_grammar.specs.declared.expressions.Expr.TheVariants.{Number, Var, Elem, Unary, Chain, rolls-Number, rolls-Var, rolls-Elem, rolls-Unary, rolls-Chain}
use Rattle.pc_grammar.specs.declared.expressions.Expr.TheOpen.{Expr-F, Number as OpenNumber, Var as OpenVar, Elem as OpenElem, Unary as OpenUnary, Chain as OpenChain}
use Rattle.pc_grammar.specs.declared.expressions.Goal.{Goal}
use Rattle.pc_grammar.specs.declared.expressions.Goal.TheVariants.{Nothing, Var as GoalVar, Elem as GoalElem}
use Rattle.pc_grammar.specs.declared.statements.Stmt.{Stmt}
use Rattle.pc_grammar.specs.declared.statements.Stmt.TheFolds.{fold-roll-Stmt, ind-Stmt, map-Stmt}
use Rattle.pc_grammar.specs.declared.statements.Stmt.TheViews.{roll-Stmt}
use Rattle.pc_grammar.specs.declared.statements.Stmt.TheVariants.{Skip, Assign, Call, Block, If, While, Eot, Par, Abort, rolls-Skip, rolls-Assign, rolls-Call, rolls-Block, rolls-If, rolls-While, rolls-Eot, rolls-Par, rolls-Abort}
use Rattle.pc_grammar.specs.declared.statements.Stmt.TheOpen.{Stmt-F, Skip as OpenSkip, Assign as OpenAssign, Call as OpenCall, Block as OpenBlock, If as OpenIf, While as OpenWhile, Eot as OpenEot, Par as OpenPar, Abort as OpenAbort}
use Rattle.pc_grammar.specs.declared.roles.Role.{Role}
use Rattle.pc_grammar.specs.declared.roles.Role.TheVariants.{Reads, ReadsElement, Writes, WritesElement, Calls, Starts}
use Rattle.pc_grammar.specs.Uses.{Use, use_of, joined, operands_uses, expression_step, expression_uses, expressions_uses, value_uses, goal_uses, is_taken, else_uses, statement_step, statement_uses, statements_uses, any_of, pauses_step, holds_pause}
use Rattle.pc_grammar.specs.Typing.{numbered_step, numbered, numbered_value, numbered_goal, numbered_statement_step, numbered_statement}

-- the number of a name, by what it does where it stands
abbrev pub number_in : (Word → ℕ) → (Word → ℕ) → Role → Word → ℕ
number_in cell function (Calls arguments taken) = function
number_in cell function Starts = function
number_in cell function _ = cell

abbrev pub numbered_use : (Word → ℕ) → (Word → ℕ) → Use Word → Use ℕ
numbered_use cell function u = use_of u.role (number_in cell function u.role u.word)

-- ---- expressions

uses-Number : {N : Type 0} (n : ℕ) → expression_uses {N = N} (Number n) ≡ []
uses-Number {N} n = ap expression_uses (sym (rolls-Number n)) ∙ fold-roll-Expr N (List (Use N)) expression_step (OpenNumber n)

uses-Var : {N : Type 0} (x : N) → expression_uses (Var x) ≡ use_of Reads x ∷ []
uses-Var {N} x = ap expression_uses (sym (rolls-Var x)) ∙ fold-roll-Expr N (List (Use N)) expression_step (OpenVar x)

uses-Elem : {N : Type 0} (x : N) (index : Expr N) → expression_uses (Elem x index) ≡ use_of ReadsElement x ∷ expression_uses index
uses-Elem {N} x index = ap expression_uses (sym (rolls-Elem x index)) ∙ fold-roll-Expr N (List (Use N)) expression_step (OpenElem x index)

uses-Unary : {N : Type 0} (op : UnOp) (e : Expr N) → expression_uses (Unary op e) ≡ expression_uses e
uses-Unary {N} op e = ap expression_uses (sym (rolls-Unary op e)) ∙ fold-roll-Expr N (List (Use N)) expression_step (OpenUnary op e)

uses-Chain : {N : Type 0} (head : Expr N) (rest : List (BinOp × Expr N)) → expression_uses (Chain head rest) ≡ expression_uses head ++ operands_uses (map (λ p. (p.0, expression_uses p.1)) rest)
uses-Chain {N} head rest = ap expression_uses (sym (rolls-Chain head rest)) ∙ fold-roll-Expr N (List (Use N)) expression_step (OpenChain head rest)

module _ (cell function : Word → ℕ) where
  abbrev renamed : List (Use Word) → List (Use ℕ)
  renamed uses = map (numbered_use cell function) uses

  abbrev SameExpression : Expr Word → Type 0
  SameExpression e = expression_uses (numbered cell e) ≡ renamed (expression_uses e)

  abbrev KnownExpression : Type 0
  KnownExpression = (e : Expr Word) × SameExpression e

  -- the equation of a level
  opened : (x : Expr-F Word (Expr Word)) (e : Expr Word) → roll-Expr Word x ≡ e → numbered cell e ≡ numbered_step cell (map-Expr Word (Expr Word) (Expr ℕ) (numbered cell) x)
  opened x e is = ap (numbered cell) (sym is) ∙ fold-roll-Expr Word (Expr ℕ) (numbered_step cell) x

  operands_renamed : (rest : List (BinOp × KnownExpression)) →
      operands_uses (map (λ (p : BinOp × Expr ℕ). (p.0, expression_uses p.1)) (map (λ (p : BinOp × Expr Word). (p.0, numbered cell p.1)) (map (λ (p : BinOp × KnownExpression). (p.0, p.1.0)) rest)))
      ≡ renamed (operands_uses (map (λ (p : BinOp × Expr Word). (p.0, expression_uses p.1)) (map (λ (p : BinOp × KnownExpression). (p.0, p.1.0)) rest)))
  operands_renamed [] = refl
  operands_renamed (p ∷ rest) =
      ap (λ us. us ++ operands_uses (map (λ (p : BinOp × Expr ℕ). (p.0, expression_uses p.1)) (map (λ (p : BinOp × Expr Word). (p.0, numbered cell p.1)) (map (λ (p : BinOp × KnownExpression). (p.0, p.1.0)) rest)))) p.1.1
      ∙ ap (λ us. renamed (expression_uses p.1.0) ++ us) (operands_renamed rest)
      ∙ sym (map-append (numbered_use cell function) (expression_uses p.1.0) (operands_uses (map (λ (p : BinOp × Expr Word). (p.0, expression_uses p.1)) (map (λ (p : BinOp × KnownExpression). (p.0, p.1.0)) rest))))

  expression_level : (x : Expr-F Word KnownExpression) → SameExpression (roll-Expr Word (map-Expr Word KnownExpression (Expr Word) (λ e. e.0) x))
  expression_level (OpenNumber n) = subst SameExpression (sym (rolls-Number n))
      (ap expression_uses (opened (OpenNumber n) (Number n) (rolls-Number n)) ∙ uses-Number n ∙ sym (ap renamed (uses-Number n)))
  expression_level (OpenVar w) = subst SameExpression (sym (rolls-Var w))
      (ap expression_uses (opened (OpenVar w) (Var w) (rolls-Var w)) ∙ uses-Var (cell w) ∙ sym (ap renamed (uses-Var w)))
  expression_level (OpenElem w index) = subst SameExpression (sym (rolls-Elem w index.0))
      (ap expression_uses (opened (OpenElem w index.0) (Elem w index.0) (rolls-Elem w index.0)) ∙ uses-Elem (cell w) (numbered cell index.0)
      ∙ ap (λ us. use_of ReadsElement (cell w) ∷ us) index.1 ∙ sym (ap renamed (uses-Elem w index.0)))
  expression_level (OpenUnary op e) = subst SameExpression (sym (rolls-Unary op e.0))
      (ap expression_uses (opened (OpenUnary op e.0) (Unary op e.0) (rolls-Unary op e.0)) ∙ uses-Unary op (numbered cell e.0) ∙ e.1 ∙ sym (ap renamed (uses-Unary op e.0)))
  expression_level (OpenChain head rest) =
      let plain : List (BinOp × Expr Word) = map (λ (p : BinOp × KnownExpression). (p.0, p.1.0)) rest in
      subst SameExpression (sym (rolls-Chain head.0 plain))
      (ap expression_uses (opened (OpenChain head.0 plain) (Chain head.0 plain) (rolls-Chain head.0 plain))
      ∙ uses-Chain (numbered cell head.0) (map (λ (p : BinOp × Expr Word). (p.0, numbered cell p.1)) plain)
      ∙ ap (λ us. us ++ operands_uses (map (λ (p : BinOp × Expr ℕ). (p.0, expression_uses p.1)) (map (λ (p : BinOp × Expr Word). (p.0, numbered cell p.1)) plain))) head.1
      ∙ ap (λ us. renamed (expression_uses head.0) ++ us) (operands_renamed rest)
      ∙ sym (map-append (numbered_use cell function) (expression_uses head.0) (operands_uses (map (λ (p : BinOp × Expr Word). (p.0, expression_uses p.1)) plain)))
      ∙ sym (ap renamed (uses-Chain head.0 plain)))

  pub same_expression : (e : Expr Word) → SameExpression e
  same_expression = ind-Expr Word SameExpression (λ x y is. subst (λ z. SameExpression (roll-Expr Word z)) is (expression_level y))

  pub same_value : (v : Option (Expr Word)) → value_uses (numbered_value cell v) ≡ renamed (value_uses v)
  same_value None = refl
  same_value (Some e) = same_expression e

  same_expressions : (es : List (Expr Word)) → expressions_uses (map (numbered cell) es) ≡ renamed (expressions_uses es)
  same_expressions [] = refl
  same_expressions (e ∷ es) =
      ap (λ us. us ++ expressions_uses (map (numbered cell) es)) (same_expression e) ∙ ap (λ us. renamed (expression_uses e) ++ us) (same_expressions es)
      ∙ sym (map-append (numbered_use cell function) (expression_uses e) (expressions_uses es))

  same_goal : (g : Goal Word) → goal_uses (numbered_goal cell g) ≡ renamed (goal_uses g)
  same_goal Nothing = refl
  same_goal (GoalVar w) = refl
  same_goal (GoalElem w index) = ap (λ us. use_of WritesElement (cell w) ∷ us) (same_expression index)

  same_taken : (g : Goal Word) → is_taken (numbered_goal cell g) ≡ is_taken g
  same_taken Nothing = refl
  same_taken (GoalVar w) = refl
  same_taken (GoalElem w index) = refl

  -- ---- statements

  abbrev SameStatement : Stmt Word → Type 0
  SameStatement s = statement_uses (numbered_statement cell function s) ≡ renamed (statement_uses s)

  abbrev KnownStatement : Type 0
  KnownStatement = (s : Stmt Word) × SameStatement s

  numbered_level : (x : Stmt-F Word (Stmt Word)) → numbered_statement cell function (roll-Stmt Word x) ≡ numbered_statement_step cell function (map-Stmt Word (Stmt Word) (Stmt ℕ) (numbered_statement cell function) x)
  numbered_level x = fold-roll-Stmt Word (Stmt ℕ) (numbered_statement_step cell function) x

  both : (a b : List (Use Word)) (c d : List (Use ℕ)) → c ≡ renamed a → d ≡ renamed b → c ++ d ≡ renamed (a ++ b)
  both a b c d first second = ap (λ us. us ++ d) first ∙ ap (λ us. renamed a ++ us) second ∙ sym (map-append (numbered_use cell function) a b)

  threads_renamed : (threads : List Word) → map (use_of Starts) (map function threads) ≡ renamed (map (use_of Starts) threads)
  threads_renamed [] = refl
  threads_renamed (w ∷ threads) = ap (λ us. use_of Starts (function w) ∷ us) (threads_renamed threads)

  call_renamed : (goal : Goal Word) (f : Word) (arguments : List (Expr Word)) →
      goal_uses (numbered_goal cell goal) ++ (use_of (Calls (length (map (numbered cell) arguments)) (is_taken (numbered_goal cell goal))) (function f) ∷ expressions_uses (map (numbered cell) arguments))
      ≡ renamed (goal_uses goal ++ (use_of (Calls (length arguments) (is_taken goal)) f ∷ expressions_uses arguments))
  call_renamed goal f arguments =
      both (goal_uses goal) (use_of (Calls (length arguments) (is_taken goal)) f ∷ expressions_uses arguments) (goal_uses (numbered_goal cell goal)) _ (same_goal goal)
      (ap (λ n. use_of (Calls n (is_taken (numbered_goal cell goal))) (function f) ∷ expressions_uses (map (numbered cell) arguments)) (length-map arguments (numbered cell))
      ∙ ap (λ b. use_of (Calls (length arguments) b) (function f) ∷ expressions_uses (map (numbered cell) arguments)) (same_taken goal)
      ∙ ap (λ us. use_of (Calls (length arguments) (is_taken goal)) (function f) ∷ us) (same_expressions arguments))

  -- the uses of a level, of a statement over numbers and over words
  uses_level : {N : Type 0} (x : Stmt-F N (Stmt N)) → statement_uses (roll-Stmt N x) ≡ statement_step (map-Stmt N (Stmt N) (List (Use N)) statement_uses x)
  uses_level {N} x = fold-roll-Stmt N (List (Use N)) statement_step x

  block_renamed : (all : List KnownStatement) →
      joined (map statement_uses (map (numbered_statement cell function) (map (λ s. s.0) all))) ≡ renamed (joined (map statement_uses (map (λ s. s.0) all)))
  block_renamed [] = refl
  block_renamed (s ∷ all) = both (statement_uses s.0) (joined (map statement_uses (map (λ s. s.0) all))) _ _ s.1 (block_renamed all)

  -- from the equations of both sides
  by_level : (x : Stmt-F Word (Stmt Word)) (level : Stmt-F ℕ (Stmt ℕ)) → numbered_statement_step cell function (map-Stmt Word (Stmt Word) (Stmt ℕ) (numbered_statement cell function) x) ≡ roll-Stmt ℕ level →
      statement_step (map-Stmt ℕ (Stmt ℕ) (List (Use ℕ)) statement_uses level) ≡ renamed (statement_step (map-Stmt Word (Stmt Word) (List (Use Word)) statement_uses x)) → SameStatement (roll-Stmt Word x)
  by_level x level rolled same = ap statement_uses (numbered_level x ∙ rolled) ∙ uses_level level ∙ same ∙ sym (ap renamed (uses_level x))

  abbrev plain : Stmt-F Word KnownStatement → Stmt-F Word (Stmt Word)
  plain x = map-Stmt Word KnownStatement (Stmt Word) (λ s. s.0) x

  statement_level : (x : Stmt-F Word KnownStatement) → SameStatement (roll-Stmt Word (plain x))
  statement_level OpenSkip = by_level OpenSkip OpenSkip (sym rolls-Skip) refl
  statement_level (OpenAssign goal value) = by_level (OpenAssign goal value) (OpenAssign (numbered_goal cell goal) (numbered cell value)) (sym (rolls-Assign (numbered_goal cell goal) (numbered cell value)))
      (both (goal_uses goal) (expression_uses value) _ _ (same_goal goal) (same_expression value))
  statement_level (OpenCall goal f arguments) = by_level (OpenCall goal f arguments) (OpenCall (numbered_goal cell goal) (function f) (map (numbered cell) arguments))
      (sym (rolls-Call (numbered_goal cell goal) (function f) (map (numbered cell) arguments))) (call_renamed goal f arguments)
  statement_level (OpenBlock all) = by_level (plain (OpenBlock all)) (OpenBlock (map (numbered_statement cell function) (map (λ s. s.0) all)))
      (sym (rolls-Block (map (numbered_statement cell function) (map (λ s. s.0) all)))) (block_renamed all)
  statement_level (OpenIf test first None) = by_level (OpenIf test first.0 None) (OpenIf (numbered cell test) (numbered_statement cell function first.0) None)
      (sym (rolls-If (numbered cell test) (numbered_statement cell function first.0) None))
      (both (expression_uses test) (statement_uses first.0 ++ []) _ _ (same_expression test) (both (statement_uses first.0) [] _ _ first.1 refl))
  statement_level (OpenIf test first (Some second)) = by_level (OpenIf test first.0 (Some second.0)) (OpenIf (numbered cell test) (numbered_statement cell function first.0) (Some (numbered_statement cell function second.0)))
      (sym (rolls-If (numbered cell test) (numbered_statement cell function first.0) (Some (numbered_statement cell function second.0))))
      (both (expression_uses test) (statement_uses first.0 ++ statement_uses second.0) _ _ (same_expression test) (both (statement_uses first.0) (statement_uses second.0) _ _ first.1 second.1))
  statement_level (OpenWhile span test most body) = by_level (OpenWhile span test most body.0) (OpenWhile span (numbered cell test) most (numbered_statement cell function body.0))
      (sym (rolls-While span (numbered cell test) most (numbered_statement cell function body.0))) (both (expression_uses test) (statement_uses body.0) _ _ (same_expression test) body.1)
  statement_level (OpenEot span) = by_level (OpenEot span) (OpenEot span) (sym (rolls-Eot span)) refl
  statement_level (OpenPar span threads) = by_level (OpenPar span threads) (OpenPar span (map function threads)) (sym (rolls-Par span (map function threads))) (threads_renamed threads)
  statement_level (OpenAbort span weak body test) = by_level (OpenAbort span weak body.0 test) (OpenAbort span weak (numbered_statement cell function body.0) (numbered cell test))
      (sym (rolls-Abort span weak (numbered_statement cell function body.0) (numbered cell test))) (both (statement_uses body.0) (expression_uses test) _ _ body.1 (same_expression test))

  same_statement : (s : Stmt Word) → SameStatement s
  same_statement = ind-Stmt Word SameStatement (λ x y is. subst (λ z. SameStatement (roll-Stmt Word z)) is (statement_level y))

  pub same_statements : (all : List (Stmt Word)) → statements_uses (map (numbered_statement cell function) all) ≡ renamed (statements_uses all)
  same_statements [] = refl
  same_statements (s ∷ all) = both (statement_uses s) (statements_uses all) _ _ (same_statement s) (same_statements all)

  -- ---- pauses

  abbrev SamePause : Stmt Word → Type 0
  SamePause s = holds_pause (numbered_statement cell function s) ≡ holds_pause s

  abbrev KnownPause : Type 0
  KnownPause = (s : Stmt Word) × SamePause s

  pause_level : {N : Type 0} (x : Stmt-F N (Stmt N)) → holds_pause (roll-Stmt N x) ≡ pauses_step (map-Stmt N (Stmt N) Bool holds_pause x)
  pause_level {N} x = fold-roll-Stmt N Bool pauses_step x

  pauses_renamed : (all : List KnownPause) → any_of (map holds_pause (map (numbered_statement cell function) (map (λ s. s.0) all))) ≡ any_of (map holds_pause (map (λ s. s.0) all))
  pauses_renamed [] = refl
  pauses_renamed (s ∷ all) = ap (λ b. b || any_of (map holds_pause (map (numbered_statement cell function) (map (λ s. s.0) all)))) s.1 ∙ ap (λ b. holds_pause s.0 || b) (pauses_renamed all)

  pause_by_level : (x : Stmt-F Word (Stmt Word)) (level : Stmt-F ℕ (Stmt ℕ)) → numbered_statement_step cell function (map-Stmt Word (Stmt Word) (Stmt ℕ) (numbered_statement cell function) x) ≡ roll-Stmt ℕ level →
      pauses_step (map-Stmt ℕ (Stmt ℕ) Bool holds_pause level) ≡ pauses_step (map-Stmt Word (Stmt Word) Bool holds_pause x) → SamePause (roll-Stmt Word x)
  pause_by_level x level rolled same = ap holds_pause (numbered_level x ∙ rolled) ∙ pause_level level ∙ same ∙ sym (pause_level x)

  pauses_level : (x : Stmt-F Word KnownPause) → SamePause (roll-Stmt Word (map-Stmt Word KnownPause (Stmt Word) (λ s. s.0) x))
  pauses_level OpenSkip = pause_by_level OpenSkip OpenSkip (sym rolls-Skip) refl
  pauses_level (OpenAssign goal value) = pause_by_level (OpenAssign goal value) (OpenAssign (numbered_goal cell goal) (numbered cell value)) (sym (rolls-Assign (numbered_goal cell goal) (numbered cell value))) refl
  pauses_level (OpenCall goal f arguments) = pause_by_level (OpenCall goal f arguments) (OpenCall (numbered_goal cell goal) (function f) (map (numbered cell) arguments))
      (sym (rolls-Call (numbered_goal cell goal) (function f) (map (numbered cell) arguments))) refl
  pauses_level (OpenBlock all) = pause_by_level (OpenBlock (map (λ s. s.0) all)) (OpenBlock (map (numbered_statement cell function) (map (λ s. s.0) all)))
      (sym (rolls-Block (map (numbered_statement cell function) (map (λ s. s.0) all)))) (pauses_renamed all)
  pauses_level (OpenIf test first None) = pause_by_level (OpenIf test first.0 None) (OpenIf (numbered cell test) (numbered_statement cell function first.0) None)
      (sym (rolls-If (numbered cell test) (numbered_statement cell function first.0) None)) (ap (λ b. b || false) first.1)
  pauses_level (OpenIf test first (Some second)) = pause_by_level (OpenIf test first.0 (Some second.0)) (OpenIf (numbered cell test) (numbered_statement cell function first.0) (Some (numbered_statement cell function second.0)))
      (sym (rolls-If (numbered cell test) (numbered_statement cell function first.0) (Some (numbered_statement cell function second.0))))
      (ap (λ b. b || holds_pause (numbered_statement cell function second.0)) first.1 ∙ ap (λ b. holds_pause first.0 || b) second.1)
  pauses_level (OpenWhile span test most body) = pause_by_level (OpenWhile span test most body.0) (OpenWhile span (numbered cell test) most (numbered_statement cell function body.0))
      (sym (rolls-While span (numbered cell test) most (numbered_statement cell function body.0))) body.1
  pauses_level (OpenEot span) = pause_by_level (OpenEot span) (OpenEot span) (sym (rolls-Eot span)) refl
  pauses_level (OpenPar span threads) = pause_by_level (OpenPar span threads) (OpenPar span (map function threads)) (sym (rolls-Par span (map function threads))) refl
  pauses_level (OpenAbort span weak body test) = pause_by_level (OpenAbort span weak body.0 test) (OpenAbort span weak (numbered_statement cell function body.0) (numbered cell test))
      (sym (rolls-Abort span weak (numbered_statement cell function body.0) (numbered cell test))) refl

  pub same_pause : (s : Stmt Word) → SamePause s
  same_pause = ind-Stmt Word SamePause (λ x y is. subst (λ z. SamePause (roll-Stmt Word z)) is (pauses_level y))
