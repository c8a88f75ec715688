-- Spans that are those of some of the tokens, in their order, and expressions that tokens spell.
use Rattle.std.proofs.Common.{◌≡◌, ℕ, ◌<◌, ◌≤◌, List, [], ◌∷◌, ◌++◌, sym, subst, append-nil, arith}
use Rattle.pt_base.specs.declared.operators.BinOp.{BinOp}
use Rattle.pt_base.specs.declared.rules.Span.{Span}
use Rattle.pc_grammar.specs.declared.tokens.Token.{Token}
use Rattle.pc_grammar.specs.Lexing.{InOrder}
use Rattle.pc_grammar.specs.declared.expressions.Word.{Word}
use Rattle.pc_grammar.specs.declared.expressions.Expr.{Expr}
use Rattle.pc_grammar.specs.declared.marks.Pair.{Pair}
use Rattle.pc_grammar.specs.Expressions.{word_at, grown, SpellsOperand, number, name, element, unary, inside, SpellsBetween, between, SpellsLevel, operand, chain, SpellsRest, none, more}
use Rattle.pc_grammar.specs.Spans.{expression_spans, Rises}
use Rattle.pc_grammar.proofs.Equations.{expression-Number, expression-Var, expression-Elem, expression-Unary, expression-Chain, operand_spans}

-- where the tokens are in order, the spans rise
pub record Within (w : List Token) (spans : List Span) : Type 0 where
  pub rises : (from to : ℕ) → InOrder from w to → Rises from spans to

lower : (spans : List Span) (from later to : ℕ) → from ≤ later → Rises later spans to → Rises from spans to
lower [] from later to le h = omega arith
lower (s ∷ rest) from later to le h = let first : later ≤ s.from = h.0 in (omega arith, h.1, h.2)

rises_both : (a b : List Span) (from middle to : ℕ) → Rises from a middle → Rises middle b to → Rises from (a ++ b) to
rises_both [] b from middle to p q = lower b from middle to p q
rises_both (s ∷ a) b from middle to p q = (p.0, p.1, rises_both a b s.to middle to p.2 q)

record Divided (w v : List Token) (from to : ℕ) : Type 0 where
  middle : ℕ
  front : InOrder from w middle
  back : InOrder middle v to

divided : (w v : List Token) (from to : ℕ) → InOrder from (w ++ v) to → Divided w v from to
divided [] v from to h = record { middle = from; front = omega arith; back = h }
divided (t ∷ w) v from to h = let d = divided w v t.span.to to h.2 in record { middle = d.middle; front = (h.0, h.1, d.front); back = d.back }

pub nowhere : Within [] []
nowhere = record { rises = λ from to h. h }

-- a token without a span of the tree
pub past : {w : List Token} {a : List Span} (t : Token) → Within w a → Within (t ∷ w) a
past {a = a} t k = record { rises = λ from to h. let first : from ≤ t.span.from = h.0 in let some : t.span.from < t.span.to = h.1 in lower a from t.span.to to (omega arith) (k.rises t.span.to to h.2) }

-- a token with its span
pub here : {w : List Token} {a : List Span} (t : Token) → Within w a → Within (t ∷ w) (t.span ∷ a)
here t k = record { rises = λ from to h. (h.0, h.1, k.rises t.span.to to h.2) }

pub both : {w v : List Token} {a b : List Span} → Within w a → Within v b → Within (w ++ v) (a ++ b)
both {w = w} {v = v} {a = a} {b = b} p q = record { rises = λ from to h. let d = divided w v from to h in rises_both a b from d.middle to (p.rises from d.middle d.front) (q.rises d.middle to d.back) }

-- tokens without spans at the end
pub then : {w v : List Token} {a : List Span} → Within w a → Within v [] → Within (w ++ v) a
then {w = w} {v = v} {a = a} p q = subst (Within (w ++ v)) (append-nil a) (both p q)

pub within_as : {w : List Token} (a b : List Span) → a ≡ b → Within w b → Within w a
within_as {w = w} a b eq k = subst (Within w) (sym eq) k

-- ---- expressions

within_grown : {w : List Token} (head : Expr Word) (rest : List (BinOp × Expr Word)) → Within w (expression_spans head ++ operand_spans rest) → Within w (expression_spans (grown head rest))
within_grown {w = w} head [] k = subst (Within w) (append-nil (expression_spans head)) k
within_grown head (p ∷ rest) k = within_as (expression_spans (grown head (p ∷ rest))) _ (expression-Chain head (p ∷ rest)) k

mutual
  within_operand : {source : List ℕ} {room : ℕ} {w : List Token} {e : Expr Word} → SpellsOperand source room w e → Within w (expression_spans e)
  within_operand (number {n = n} t is) = within_as _ _ (expression-Number n) (past t nowhere)
  within_operand (name {source = source} t is) = within_as _ _ (expression-Var (word_at source t)) (here t nowhere)
  within_operand (element {source = source} {index = index} t is d) = within_as _ _ (expression-Elem (word_at source t) index) (here t (within_between d))
  within_operand (unary {e = e} t op is d) = within_as _ _ (expression-Unary op e) (past t (within_operand d))
  within_operand (inside d) = within_between d

  pub within_between : {source : List ℕ} {room : ℕ} {pair : Pair} {w : List Token} {e : Expr Word} → SpellsBetween source room pair w e → Within w (expression_spans e)
  within_between (between a b opens closes d) = past a (then (within_level d) (past b nowhere))

  pub within_level : {source : List ℕ} {room level : ℕ} {w : List Token} {e : Expr Word} → SpellsLevel source room level w e → Within w (expression_spans e)
  within_level (operand d) = within_operand d
  within_level (chain {head = head} {rest = rest} d ds) = within_grown head rest (both (within_level d) (within_rest ds))

  within_rest : {source : List ℕ} {room level : ℕ} {w : List Token} {es : List (BinOp × Expr Word)} → SpellsRest source room level w es → Within w (operand_spans es)
  within_rest none = nowhere
  within_rest (more t op is at d ds) = past t (both (within_level d) (within_rest ds))
