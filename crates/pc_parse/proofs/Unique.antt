-- Tokens spell one tree: what is read off the front, seen from its first token.
use Rattle.std.proofs.Common.{◌≡◌, ℕ, suc, ◌<◌, List, [], ◌∷◌, ◌++◌, ◌⊎◌, inl, inr, ⊎_elim, Some, refl, sym, ap, subst, ◌∙◌, append_assoc, arith}
use Rattle.pt_base.specs.declared.operators.UnOp.{UnOp}
use Rattle.pt_base.specs.declared.operators.BinOp.{BinOp}
use Rattle.pc_grammar.specs.declared.tokens.Token.{Token}
use Rattle.pc_grammar.specs.declared.expressions.Word.{Word}
use Rattle.pc_grammar.specs.declared.expressions.Expr.{Expr}
use Rattle.pc_grammar.specs.declared.expressions.Expr.TheVariants.{Number, Var, Elem, Unary}
use Rattle.pc_grammar.specs.declared.marks.Pair.{Pair}
use Rattle.pc_grammar.specs.declared.marks.Pair.TheVariants.{Parentheses, Brackets}
use Rattle.pc_grammar.specs.declared.marks.OperandOpening.{OperandOpening}
use Rattle.pc_grammar.specs.declared.marks.OperandOpening.TheVariants.{Number as NumberOpening, Name as NameOpening, Unary as UnaryOpening, Parenthesis as ParenthesisOpening, Nothing as NothingOpening}
use Rattle.pc_grammar.specs.Signs.{binary_in, level_of, opening_of, opens_of, closes_of}
use Rattle.pc_grammar.specs.Refusing.{first}
use Rattle.pc_grammar.specs.Expressions.{word_at, grown, SpellsOperand, number, name, element, unary, inside, SpellsBetween, between, SpellsLevel, operand, chain, SpellsRest, none, more, OneTree}
use Rattle.pc_parse.specs.Expressions.{hold_in, Ends}
use Rattle.pc_parse.proofs.Holds.{operator_holds, ends_closed, ends_end, ends_less, index_follows, opening_number, opening_name, opening_unary, opening_parenthesis}

-- ---- an expression between two tokens

pub record BetweenAfter (source : List ℕ) (room : ℕ) (pair : Pair) (t : Token) (i : List Token) (e : Expr Word) (rest : List Token) : Type 0 where
  pub last : Token
  pub opens : t.sort ≡ opens_of pair
  pub closes : last.sort ≡ closes_of pair
  pub w : List Token
  pub inner : SpellsLevel source room 10 w e
  pub whole : i ≡ w ++ last ∷ rest

pub between_after : {source : List ℕ} {room : ℕ} {pair : Pair} {w : List Token} {e : Expr Word} → SpellsBetween source room pair w e → (t : Token) (i rest : List Token) → w ++ rest ≡ t ∷ i → BetweenAfter source room pair t i e rest
between_after (between {pair = pair} {w = w} a b opens closes d) t i rest eq =
    let at : a ≡ t = cc in
    let tail : (w ++ b ∷ []) ++ rest ≡ i = cc in
    record { last = b; opens = ap (λ (x : Token). x.sort) (sym at) ∙ opens; closes = closes; w = w; inner = d; whole = sym tail ∙ append_assoc w (b ∷ []) rest }

-- what stands between two tokens begins with the first of them
pub between_first : {source : List ℕ} {room : ℕ} {pair : Pair} {w : List Token} {e : Expr Word} → SpellsBetween source room pair w e → (rest : List Token) → first (w ++ rest) ≡ Some (opens_of pair)
between_first (between a b opens closes d) rest = ap Some opens

-- ---- an operand

pub record ElementAfter (source : List ℕ) (room : ℕ) (t : Token) (i : List Token) (e : Expr Word) (rest : List Token) : Type 0 where
  pub less : ℕ
  pub deep : room ≡ suc less
  pub w : List Token
  pub index : Expr Word
  pub inner : SpellsBetween source less Brackets w index
  pub tree : e ≡ Elem (word_at source t) index
  pub whole : i ≡ w ++ rest

pub record UnaryAfter (source : List ℕ) (room : ℕ) (op : UnOp) (i : List Token) (e : Expr Word) (rest : List Token) : Type 0 where
  pub less : ℕ
  pub deep : room ≡ suc less
  pub w : List Token
  pub operand : Expr Word
  pub inner : SpellsOperand source less w operand
  pub tree : e ≡ Unary op operand
  pub whole : i ≡ w ++ rest

pub record InsideAfter (source : List ℕ) (room : ℕ) (t : Token) (i : List Token) (e : Expr Word) (rest : List Token) : Type 0 where
  pub less : ℕ
  pub deep : room ≡ suc less
  pub w : List Token
  pub inner : SpellsBetween source less Parentheses w e
  pub whole : t ∷ i ≡ w ++ rest

-- an operand before `rest` in the input t ∷ i
abbrev pub OperandAfter : List ℕ → ℕ → OperandOpening → Token → List Token → Expr Word → List Token → Type 0
OperandAfter source room (NumberOpening n) t i e rest = (i ≡ rest) × (e ≡ Number n)
OperandAfter source room NameOpening t i e rest = ((i ≡ rest) × (e ≡ Var (word_at source t))) ⊎ ElementAfter source room t i e rest
OperandAfter source room (UnaryOpening op) t i e rest = UnaryAfter source room op i e rest
OperandAfter source room ParenthesisOpening t i e rest = InsideAfter source room t i e rest
OperandAfter source room NothingOpening t i e rest = ⊥

at_token : (source : List ℕ) (room : ℕ) (o : OperandOpening) (t t' : Token) (i i' : List Token) (e : Expr Word) (rest : List Token) → opening_of t'.sort ≡ o → t' ∷ i' ≡ t ∷ i →
    OperandAfter source room o t' i' e rest → OperandAfter source room (opening_of t.sort) t i e rest
at_token source room o t t' i i' e rest is eq h =
    let a : t' ≡ t = cc in
    let b : i' ≡ i = cc in
    subst (λ x. OperandAfter source room (opening_of x.sort) x i e rest) a (subst (λ x. OperandAfter source room x t' i e rest) (sym is) (subst (λ x. OperandAfter source room o t' x e rest) b h))

inside_after : {source : List ℕ} {room : ℕ} {w : List Token} {e : Expr Word} → SpellsBetween source room Parentheses w e → (t : Token) (i rest : List Token) → w ++ rest ≡ t ∷ i → OperandAfter source (suc room) (opening_of t.sort) t i e rest
inside_after {source = source} {room = room} {w = w} {e = e} d t i rest eq =
    let v = between_after d t i rest eq in
    subst (λ o. OperandAfter source (suc room) o t i e rest) (sym (opening_parenthesis t.sort v.opens)) (record { less = room; deep = refl; w = w; inner = d; whole = sym eq })

pub operand_after : {source : List ℕ} {room : ℕ} {w : List Token} {e : Expr Word} → SpellsOperand source room w e → (t : Token) (i rest : List Token) → w ++ rest ≡ t ∷ i → OperandAfter source room (opening_of t.sort) t i e rest
operand_after (number {source = source} {room = room} {n = n} t' is) t i rest eq = at_token source room (NumberOpening n) t t' i rest (Number n) rest (opening_number t'.sort n is) eq (refl, refl)
operand_after (name {source = source} {room = room} t' is) t i rest eq = at_token source room NameOpening t t' i rest (Var (word_at source t')) rest (opening_name t'.sort is) eq (inl (refl, refl))
operand_after (element {source = source} {room = room} {w = w} {index = index} t' is d) t i rest eq =
    at_token source (suc room) NameOpening t t' i (w ++ rest) (Elem (word_at source t') index) rest (opening_name t'.sort is) eq
    (inr (record { less = room; deep = refl; w = w; index = index; inner = d; tree = refl; whole = refl }))
operand_after (unary {source = source} {room = room} {w = w} {e = e} t' op is d) t i rest eq =
    at_token source (suc room) (UnaryOpening op) t t' i (w ++ rest) (Unary op e) rest (opening_unary t'.sort op is) eq
    (record { less = room; deep = refl; w = w; operand = e; inner = d; tree = refl; whole = refl })
operand_after (inside d) t i rest eq = inside_after d t i rest eq

-- the same where it is known what the token begins
pub operand_as : {source : List ℕ} {room : ℕ} {w : List Token} {e : Expr Word} → SpellsOperand source room w e → (o : OperandOpening) (t : Token) (i rest : List Token) → opening_of t.sort ≡ o → w ++ rest ≡ t ∷ i → OperandAfter source room o t i e rest
operand_as {source = source} {room = room} {e = e} d o t i rest is eq = subst (λ x. OperandAfter source room x t i e rest) is (operand_after d t i rest eq)

-- ---- a chain

pub record RestAfter (source : List ℕ) (room level : ℕ) (t : Token) (i : List Token) (es : List (BinOp × Expr Word)) (rest : List Token) : Type 0 where
  pub op : BinOp
  pub is : binary_in t.sort ≡ Some op
  pub at : level_of op ≡ suc level
  pub w : List Token
  pub v : List Token
  pub e : Expr Word
  pub others : List (BinOp × Expr Word)
  pub operand : SpellsLevel source room level w e
  pub more : SpellsRest source room level v others
  pub tree : es ≡ (op, e) ∷ others
  pub whole : i ≡ w ++ (v ++ rest)

-- an operator of this level is no end
not_ended : (level : ℕ) (r : List Token) (t : Token) (i : List Token) (op : BinOp) → r ≡ t ∷ i → binary_in t.sort ≡ Some op → level_of op ≡ suc level → Ends (suc level) r → ⊥
not_ended level r t i op eq is at ends =
    let a : suc level < level_of op = ends (level_of op) (ap (λ x. hold_in (first x)) eq ∙ operator_holds t.sort op is) in
    omega arith

pub rest_after : {source : List ℕ} {room level : ℕ} {w : List Token} {es : List (BinOp × Expr Word)} → SpellsRest source room level w es → (t : Token) (op : BinOp) (i rest : List Token) →
    binary_in t.sort ≡ Some op → level_of op ≡ suc level → Ends (suc level) rest → w ++ rest ≡ t ∷ i → RestAfter source room level t i es rest
rest_after (none {level = level}) t op i rest is at ends eq = absurd (not_ended level rest t i op eq is at ends)
rest_after (more {w = w} {v = v} {e = e} {rest = others} t' op' is' at' d ds) t op i rest is at ends eq =
    let a : t' ≡ t = cc in
    let b : (w ++ v) ++ rest ≡ i = cc in
    record { op = op'; is = ap (λ (x : Token). binary_in x.sort) (sym a) ∙ is'; at = at'; w = w; v = v; e = e; others = others; operand = d; more = ds; tree = refl; whole = sym b ∙ append_assoc w v rest }

pub ends_rest : {source : List ℕ} {room level : ℕ} {w : List Token} {es : List (BinOp × Expr Word)} → SpellsRest source room level w es → (rest : List Token) → Ends (suc level) rest → Ends level (w ++ rest)
ends_rest (none {level = level}) rest h = ends_less level rest h
ends_rest (more {level = level} t op is at d ds) rest h = λ n eq. let a : Some (level_of op) ≡ Some n = sym (operator_holds t.sort op is) ∙ eq in let b : level_of op ≡ n = cc in omega arith

pub level_zero : {source : List ℕ} {room : ℕ} {w : List Token} {e : Expr Word} → SpellsLevel source room 0 w e → SpellsOperand source room w e
level_zero (operand d) = d

pub record Chained (source : List ℕ) (room level : ℕ) (w : List Token) (e : Expr Word) : Type 0 where
  pub front : List Token
  pub back : List Token
  pub head : Expr Word
  pub others : List (BinOp × Expr Word)
  pub whole : w ≡ front ++ back
  pub tree : e ≡ grown head others
  pub operand : SpellsLevel source room level front head
  pub more : SpellsRest source room level back others

pub level_suc : {source : List ℕ} {room level : ℕ} {w : List Token} {e : Expr Word} → SpellsLevel source room (suc level) w e → Chained source room level w e
level_suc (chain {w = w} {v = v} {head = head} {rest = others} d ds) = record { front = w; back = v; head = head; others = others; whole = refl; tree = refl; operand = d; more = ds }

-- where nothing more is read, nothing more can be
no_more : {source : List ℕ} {room level : ℕ} {w : List Token} {es : List (BinOp × Expr Word)} → SpellsRest source room level w es → (r r' : List Token) → Ends (suc level) r → r ≡ w ++ r' → (r ≡ r') × ([] ≡ es)
no_more none r r' ends eq = (eq, refl)
no_more (more {level = level} {w = w} {v = v} t op is at d ds) r r' ends eq = absurd (not_ended level r t ((w ++ v) ++ r') op eq is at ends)

-- ---- one tree

-- a name's index isn't passed over
pub no_index : {source : List ℕ} {room : ℕ} {w : List Token} {e : Expr Word} → SpellsBetween source room Brackets w e → (rest r : List Token) → r ≡ w ++ rest → Ends 0 r → ⊥
no_index d rest r eq ends = index_follows r (ap first eq ∙ between_first d rest) ends

-- an operand that begins as an expression in parentheses does is one
pub open_inside : {source : List ℕ} {room : ℕ} {w : List Token} {e : Expr Word} → SpellsBetween source room Parentheses w e → {w' : List Token} {e' : Expr Word} → SpellsOperand source (suc room) w' e' → (r r' : List Token) → w ++ r ≡ w' ++ r' →
    (v : List Token) × SpellsBetween source room Parentheses v e' × (w ++ r ≡ v ++ r')
open_inside (between {source = source} {room = room} {w = w} a b opens closes d) {e' = e'} d' r r' eq =
    let v = operand_as d' ParenthesisOpening a ((w ++ b ∷ []) ++ r) r' (opening_parenthesis a.sort opens) (sym eq) in
    let same : v.less ≡ room = (let p : suc room ≡ suc v.less = v.deep in cc) in
    (v.w, subst (λ n. SpellsBetween source n Parentheses v.w e') same v.inner, v.whole)

mutual
  pub unique_operand : {source : List ℕ} {room : ℕ} {w : List Token} {e : Expr Word} → SpellsOperand source room w e → (w' : List Token) (e' : Expr Word) (r r' : List Token) → Ends 0 r → SpellsOperand source room w' e' → Ends 0 r' → w ++ r ≡ w' ++ r' → (r ≡ r') × (e ≡ e')
  unique_operand (number {n = n} t is) w' e' r r' ends d' ends' eq = let v = operand_as d' (NumberOpening n) t r r' (opening_number t.sort n is) (sym eq) in (v.0, sym v.1)
  unique_operand (name t is) w' e' r r' ends d' ends' eq = ⊎_elim
      (λ v. (v.0, sym v.1))
      (λ v. absurd (no_index v.inner r' r v.whole ends))
      (operand_as d' NameOpening t r r' (opening_name t.sort is) (sym eq))
  unique_operand (element {source = source} {room = room} {w = w} {index = index} t is d) w' e' r r' ends d' ends' eq = ⊎_elim
      (λ v. absurd (no_index d r r' (sym v.0) ends'))
      (λ v.
      let same : v.less ≡ room = (let p : suc room ≡ suc v.less = v.deep in cc) in
      let u = unique_between d v.w v.index r r' (subst (λ n. SpellsBetween source n Brackets v.w v.index) same v.inner) v.whole in
      (u.0, ap (Elem (word_at source t)) u.1 ∙ sym v.tree))
      (operand_as d' NameOpening t (w ++ r) r' (opening_name t.sort is) (sym eq))
  unique_operand (unary {source = source} {room = room} {w = w} t op is d) w' e' r r' ends d' ends' eq =
      let v = operand_as d' (UnaryOpening op) t (w ++ r) r' (opening_unary t.sort op is) (sym eq) in
      let same : v.less ≡ room = (let p : suc room ≡ suc v.less = v.deep in cc) in
      let u = unique_operand d v.w v.operand r r' ends (subst (λ n. SpellsOperand source n v.w v.operand) same v.inner) ends' v.whole in
      (u.0, ap (Unary op) u.1 ∙ sym v.tree)
  unique_operand (inside {source = source} {room = room} {w = w} d) w' e' r r' ends d' ends' eq =
      let v = open_inside d d' r r' eq in
      unique_between d v.0 e' r r' v.1 v.2

  pub unique_between : {source : List ℕ} {room : ℕ} {pair : Pair} {w : List Token} {e : Expr Word} → SpellsBetween source room pair w e → (w' : List Token) (e' : Expr Word) (r r' : List Token) → SpellsBetween source room pair w' e' → w ++ r ≡ w' ++ r' → (r ≡ r') × (e ≡ e')
  unique_between (between {pair = pair} {w = w} a b opens closes d) w' e' r r' d' eq =
      let v = between_after d' a ((w ++ b ∷ []) ++ r) r' (sym eq) in
      let u = unique_level d v.w e' (b ∷ r) (v.last ∷ r') (ends_closed 10 pair b r closes) v.inner (ends_closed 10 pair v.last r' v.closes) (sym (append_assoc w (b ∷ []) r) ∙ v.whole) in
      let tail : b ∷ r ≡ v.last ∷ r' = u.0 in
      (cc, u.1)

  pub unique_level : {source : List ℕ} {room level : ℕ} {w : List Token} {e : Expr Word} → SpellsLevel source room level w e → (w' : List Token) (e' : Expr Word) (r r' : List Token) → Ends level r → SpellsLevel source room level w' e' → Ends level r' → w ++ r ≡ w' ++ r' → (r ≡ r') × (e ≡ e')
  unique_level (operand d) w' e' r r' ends d' ends' eq = unique_operand d w' e' r r' ends (level_zero d') ends' eq
  unique_level (chain {level = level} {w = w} {v = v} {head = head} {rest = others} d ds) w' e' r r' ends d' ends' eq =
      let k = level_suc d' in
      let whole : w ++ (v ++ r) ≡ k.front ++ (k.back ++ r') = sym (append_assoc w v r) ∙ eq ∙ ap (λ x. x ++ r') k.whole ∙ append_assoc k.front k.back r' in
      let u = unique_level d k.front k.head (v ++ r) (k.back ++ r') (ends_rest ds r ends) k.operand (ends_rest k.more r' ends') whole in
      let t = unique_rest ds k.back k.others r r' ends k.more ends' u.0 in
      (t.0, ap (λ x. grown x others) u.1 ∙ ap (grown k.head) t.1 ∙ sym k.tree)

  pub unique_rest : {source : List ℕ} {room level : ℕ} {w : List Token} {es : List (BinOp × Expr Word)} → SpellsRest source room level w es → (w' : List Token) (es' : List (BinOp × Expr Word)) (r r' : List Token) → Ends (suc level) r → SpellsRest source room level w' es' → Ends (suc level) r' → w ++ r ≡ w' ++ r' → (r ≡ r') × (es ≡ es')
  unique_rest none w' es' r r' ends d' ends' eq = no_more d' r r' ends eq
  unique_rest (more {w = w} {v = v} {e = e} {rest = others} t op is at d ds) w' es' r r' ends d' ends' eq =
      let k = rest_after d' t op ((w ++ v) ++ r) r' is at ends' (sym eq) in
      let same : op ≡ k.op = (let p : Some op ≡ Some k.op = sym is ∙ k.is in cc) in
      let u = unique_level d k.w k.e (v ++ r) (k.v ++ r') (ends_rest ds r ends) k.operand (ends_rest k.more r' ends') (sym (append_assoc w v r) ∙ k.whole) in
      let s = unique_rest ds k.v k.others r r' ends k.more ends' u.0 in
      (s.0, ap (λ x. (x, e) ∷ others) same ∙ ap (λ x. (k.op, x) ∷ others) u.1 ∙ ap (λ x. (k.op, k.e) ∷ x) s.1 ∙ sym k.tree)

pub one_tree : OneTree
one_tree source ts a b p q = (unique_level p ts b [] [] (ends_end 10) q (ends_end 10) refl).1
