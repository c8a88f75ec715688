-- A tree that some tokens spell is spelled by its canonical tokens.
use Rattle.std.proofs.Common.{◌≡◌, ℕ, zero, suc, ◌+◌, ◌-◌, ◌<◌, ◌≤◌, Bool, true, false, List, [], ◌∷◌, ◌++◌, ◌⊎◌, inl, inr, ⊎_elim, Some, refl, sym, ap, subst, ◌∙◌, append-nil, arith}
use Rattle.std.proofs.lemmas.Bool.{cases_lt}
use Rattle.pt_base.specs.declared.operators.UnOp.{UnOp}
use Rattle.pt_base.specs.declared.operators.UnOp.TheVariants.{Neg, Not, Flip}
use Rattle.pt_base.specs.declared.operators.BinOp.{BinOp}
use Rattle.pc_grammar.specs.declared.tokens.Sort.TheVariants.{Name, Number as NumberSort, OpenParenthesis, CloseParenthesis, OpenBracket, CloseBracket}
use Rattle.pc_grammar.specs.declared.tokens.Token.{Token}
use Rattle.pc_grammar.specs.declared.expressions.Word.{Word}
use Rattle.pc_grammar.specs.declared.expressions.Expr.{Expr}
use Rattle.pc_grammar.specs.declared.expressions.Expr.TheVariants.{Number, Var, Elem, Unary, Chain}
use Rattle.pc_grammar.specs.declared.marks.Pair.{Pair}
use Rattle.pc_grammar.specs.Signs.{unary_in, binary_in, level_of}
use Rattle.pc_grammar.specs.Expressions.{word_at, grown, SpellsOperand, number, name, element, unary, inside, SpellsBetween, between, SpellsLevel, operand, chain, SpellsRest, none, more, IsExpression}
use Rattle.pc_print.specs.Parts.{Part, mark, word, literal, blank, margin, line_end}
use Rattle.pc_print.specs.Canonical.{Piece, is_neg, unary_sign, binary_sign, in_parentheses, tighter, gap, further, operands, written, pieces, expression}
use Rattle.pc_print.specs.Tokens.{token_of, tokens}
use Rattle.pc_print.proofs.Pieces.{written-Number, written-Var, written-Elem, written-Unary, written-Chain}

pub tokens-append : (a b : List Part) → tokens (a ++ b) ≡ tokens a ++ tokens b
tokens-append [] b = refl
tokens-append (mark s ∷ a) b = ap (λ x. token_of s ∷ x) (tokens-append a b)
tokens-append (word w ∷ a) b = ap (λ x. let t : Token = record { sort = Name; span = w.span } in t ∷ x) (tokens-append a b)
tokens-append (literal n ∷ a) b = ap (λ x. token_of (NumberSort n) ∷ x) (tokens-append a b)
tokens-append (blank ∷ a) b = tokens-append a b
tokens-append (margin level ∷ a) b = tokens-append a b
tokens-append (line_end ∷ a) b = tokens-append a b

-- ---- more room, looser levels

mutual
  more_room : {source : List ℕ} {room : ℕ} {w : List Token} {e : Expr Word} → SpellsOperand source room w e → SpellsOperand source (suc room) w e
  more_room (number t is) = number t is
  more_room (name t is) = name t is
  more_room (element t is d) = element t is (more_room_between d)
  more_room (unary t op is d) = unary t op is (more_room d)
  more_room (inside d) = inside (more_room_between d)

  more_room_between : {source : List ℕ} {room : ℕ} {pair : Pair} {w : List Token} {e : Expr Word} → SpellsBetween source room pair w e → SpellsBetween source (suc room) pair w e
  more_room_between (between a b opens closes d) = between a b opens closes (more_room_level d)

  more_room_level : {source : List ℕ} {room level : ℕ} {w : List Token} {e : Expr Word} → SpellsLevel source room level w e → SpellsLevel source (suc room) level w e
  more_room_level (operand d) = operand (more_room d)
  more_room_level (chain d ds) = chain (more_room_level d) (more_room_rest ds)

  more_room_rest : {source : List ℕ} {room level : ℕ} {w : List Token} {es : List (BinOp × Expr Word)} → SpellsRest source room level w es → SpellsRest source (suc room) level w es
  more_room_rest none = none
  more_room_rest (more t op is at d ds) = more t op is at (more_room_level d) (more_room_rest ds)

looser_by : (source : List ℕ) (n room level : ℕ) (w : List Token) (e : Expr Word) → SpellsLevel source room level w e → SpellsLevel source room (n + level) w e
looser_by source zero room level w e d = subst (λ k. SpellsLevel source room k w e) (omega arith) d
looser_by source (suc n) room level w e d =
    let k : SpellsLevel source room (suc (n + level)) (w ++ []) e = chain (looser_by source n room level w e d) none in
    let p : SpellsLevel source room (suc (n + level)) w e = subst (λ x. SpellsLevel source room (suc (n + level)) x e) (append-nil w) k in
    subst (λ k. SpellsLevel source room k w e) (omega arith) p

looser : (source : List ℕ) (room level wide : ℕ) (w : List Token) (e : Expr Word) → level ≤ wide → SpellsLevel source room level w e → SpellsLevel source room wide w e
looser source room level wide w e less d = subst (λ k. SpellsLevel source room k w e) (omega arith) (looser_by source (wide - level) room level w e d)

-- ---- a piece is spelled, with parentheses where its level is too loose

-- the bare tokens are spelled at their level: in this room, or where they need parentheses in one less
record Fits (source : List ℕ) (room l : ℕ) (p : Piece) (e : Expr Word) : Type 0 where
  small : p.level ≤ 10
  spelled : ((p.level ≤ l) × SpellsLevel source room p.level (tokens p.parts) e) ⊎ ((l < p.level) × (less : ℕ) × (room ≡ suc less) × SpellsLevel source less p.level (tokens p.parts) e)

without : (l : ℕ) (p : Piece) → p.level ≤ l → tighter (suc l) p ≡ p.parts
without l p h = grind arith

within : (l : ℕ) (p : Piece) → l < p.level → tighter (suc l) p ≡ in_parentheses p.parts
within l p h = grind arith

within-tokens : (l : ℕ) (p : Piece) → l < p.level → tokens (tighter (suc l) p) ≡ token_of OpenParenthesis ∷ (tokens p.parts ++ token_of CloseParenthesis ∷ [])
within-tokens l p h = ap tokens (within l p h) ∙ ap (λ x. token_of OpenParenthesis ∷ x) (tokens-append p.parts (mark CloseParenthesis ∷ []))

spelled_at : (source : List ℕ) (room l : ℕ) (p : Piece) (e : Expr Word) → Fits source room l p e → SpellsLevel source room l (tokens (tighter (suc l) p)) e
spelled_at source room l p e f = ⊎_elim
    (λ h. subst (λ x. SpellsLevel source room l x e) (sym (ap tokens (without l p h.0))) (looser source room p.level l (tokens p.parts) e h.0 h.1))
    (λ h.
    let inner : SpellsLevel source h.1 10 (tokens p.parts) e = looser source h.1 p.level 10 (tokens p.parts) e f.small h.3 in
    let outer : List Token = token_of OpenParenthesis ∷ (tokens p.parts ++ token_of CloseParenthesis ∷ []) in
    let whole : SpellsLevel source (suc h.1) l outer e = looser source (suc h.1) 0 l outer e (omega arith) (operand (inside (between (token_of OpenParenthesis) (token_of CloseParenthesis) refl refl inner))) in
    subst (λ x. SpellsLevel source room l x e) (sym (within-tokens l p h.0)) (subst (λ n. SpellsLevel source n l outer e) (sym h.2) whole))
    f.spelled

-- the same piece at a looser level
fits_looser : (source : List ℕ) (room l : ℕ) (p : Piece) (e : Expr Word) → Fits source room l p e → Fits source room (suc l) p e
fits_looser source room l p e f = record {
  small = f.small;
  spelled = ⊎_elim
      (λ h. let a : p.level ≤ suc l = (let b : p.level ≤ l = h.0 in omega arith) in inl (a, h.1))
      (λ h. by_level h (cases_lt (suc l) p.level))
      f.spelled;
}
  where
    by_level : ((l < p.level) × (less : ℕ) × (room ≡ suc less) × SpellsLevel source less p.level (tokens p.parts) e) → (suc l < p.level) ⊎ (p.level ≤ suc l) →
        ((p.level ≤ suc l) × SpellsLevel source room p.level (tokens p.parts) e) ⊎ ((suc l < p.level) × (less : ℕ) × (room ≡ suc less) × SpellsLevel source less p.level (tokens p.parts) e)
    by_level h (inl a) = inr (a, h.1, h.2, h.3)
    by_level h (inr a) = inl (a, subst (λ n. SpellsLevel source n p.level (tokens p.parts) e) (sym h.2) (more_room_level h.3))

-- in parentheses there is one level of nesting more
fits_parentheses : (source : List ℕ) (room : ℕ) (p : Piece) (e : Expr Word) → Fits source room 10 p e → Fits source (suc room) 0 p e
fits_parentheses source room p e f = record {
  small = f.small;
  spelled = ⊎_elim
      (λ h. by_level h.1 (cases_lt 0 p.level))
      (λ h. let a : 10 < p.level = h.0 in let b : p.level ≤ 10 = f.small in absurd (omega arith))
      f.spelled;
}
  where
    by_level : SpellsLevel source room p.level (tokens p.parts) e → (0 < p.level) ⊎ (p.level ≤ 0) →
        ((p.level ≤ 0) × SpellsLevel source (suc room) p.level (tokens p.parts) e) ⊎ ((0 < p.level) × (less : ℕ) × (suc room ≡ suc less) × SpellsLevel source less p.level (tokens p.parts) e)
    by_level d (inl a) = inr (a, room, refl, d)
    by_level d (inr a) = inl (a, more_room_level d)

-- the bare tokens, where nothing is too loose
spelled_bare : (source : List ℕ) (room : ℕ) (p : Piece) (e : Expr Word) → Fits source room 10 p e → SpellsLevel source room 10 (tokens p.parts) e
spelled_bare source room p e f = subst (λ x. SpellsLevel source room 10 x e) (ap tokens (without 10 p f.small)) (spelled_at source room 10 p e f)

pub unary-sign : (op : UnOp) → unary_in (unary_sign op) ≡ Some op
unfolding unary_in
unary-sign Neg = refl
unary-sign Not = refl
unary-sign Flip = refl

pub binary-sign : (op : BinOp) → binary_in (binary_sign op) ≡ Some op
unfolding binary_in
binary-sign BinOp.Or = refl
binary-sign BinOp.And = refl
binary-sign BinOp.BitOr = refl
binary-sign BinOp.BitXor = refl
binary-sign BinOp.BitAnd = refl
binary-sign BinOp.Equal = refl
binary-sign BinOp.NotEqual = refl
binary-sign BinOp.Less = refl
binary-sign BinOp.LessEqual = refl
binary-sign BinOp.Greater = refl
binary-sign BinOp.GreaterEqual = refl
binary-sign BinOp.ShiftLeft = refl
binary-sign BinOp.ShiftRight = refl
binary-sign BinOp.Add = refl
binary-sign BinOp.Sub = refl
binary-sign BinOp.Mul = refl
binary-sign BinOp.Div = refl
binary-sign BinOp.Rem = refl

level_small : (op : BinOp) → level_of op ≤ 10
unfolding level_of
level_small BinOp.Or = omega arith
level_small BinOp.And = omega arith
level_small BinOp.BitOr = omega arith
level_small BinOp.BitXor = omega arith
level_small BinOp.BitAnd = omega arith
level_small BinOp.Equal = omega arith
level_small BinOp.NotEqual = omega arith
level_small BinOp.Less = omega arith
level_small BinOp.LessEqual = omega arith
level_small BinOp.Greater = omega arith
level_small BinOp.GreaterEqual = omega arith
level_small BinOp.ShiftLeft = omega arith
level_small BinOp.ShiftRight = omega arith
level_small BinOp.Add = omega arith
level_small BinOp.Sub = omega arith
level_small BinOp.Mul = omega arith
level_small BinOp.Div = omega arith
level_small BinOp.Rem = omega arith

fits_as : (source : List ℕ) (room l : ℕ) (p : Piece) (e : Expr Word) → written e ≡ p → Fits source room l p e → Fits source room l (written e) e
fits_as source room l p e eq f = subst (λ x. Fits source room l x e) (sym eq) f

-- a piece that is no chain
fits_zero : (source : List ℕ) (room l : ℕ) (p : Piece) (e : Expr Word) → p.level ≡ 0 → SpellsOperand source room (tokens p.parts) e → Fits source room l p e
fits_zero source room l p e eq d = record { small = omega arith; spelled = inl (omega arith, subst (λ n. SpellsLevel source room n (tokens p.parts) e) (sym eq) (operand d)) }

-- every operator of a rest has its level
fits_grown : (source : List ℕ) (room l : ℕ) (head : Expr Word) (rest : List (BinOp × Expr Word)) → Fits source room l (written head) head → SpellsRest source room l (tokens (operands (suc l) (pieces rest))) rest →
    ((op : BinOp) (e : Expr Word) (others : List (BinOp × Expr Word)) → rest ≡ (op, e) ∷ others → level_of op ≡ suc l) → Fits source room (suc l) (written (grown head rest)) (grown head rest)
fits_grown source room l head [] f d at = fits_looser source room l (written head) head f
fits_grown source room l head (p ∷ rest) f d at =
    let here : level_of p.0 ≡ suc l = at p.0 p.1 rest refl in
    let parts = λ (k : ℕ). tighter k (written head) ++ operands k (pieces (p ∷ rest)) in
    let whole : SpellsLevel source room (suc l) (tokens (tighter (suc l) (written head)) ++ tokens (operands (suc l) (pieces (p ∷ rest)))) (Chain head (p ∷ rest)) = chain (spelled_at source room l (written head) head f) d in
    let joined : SpellsLevel source room (suc l) (tokens (parts (suc l))) (Chain head (p ∷ rest)) = subst (λ x. SpellsLevel source room (suc l) x (Chain head (p ∷ rest))) (sym (tokens-append (tighter (suc l) (written head)) (operands (suc l) (pieces (p ∷ rest))))) whole in
    let piece : Piece = record { level = level_of p.0; negates = false; parts = parts (level_of p.0) } in
    fits_as source room (suc l) piece (Chain head (p ∷ rest)) (written-Chain head (p ∷ rest)) (record {
      small = level_small p.0;
      spelled = inl (omega arith, subst (λ n. SpellsLevel source room n (tokens (parts n)) (Chain head (p ∷ rest))) (sym here) joined);
    })

rest_level : {source : List ℕ} {room l : ℕ} {w : List Token} {es : List (BinOp × Expr Word)} → SpellsRest source room l w es → (op : BinOp) (e : Expr Word) (others : List (BinOp × Expr Word)) → es ≡ (op, e) ∷ others → level_of op ≡ suc l
rest_level none op e others eq = cc
rest_level (more {e = e'} t op' is at d ds) op e others eq = let heads : ◌≡◌ {A = BinOp × Expr Word} (op', e') (op, e) = cc in ap (λ p. level_of p.0) (sym heads) ∙ at

-- a blank is no token
gap-tokens : (op : UnOp) (negates : Bool) (parts : List Part) → tokens (gap op negates ++ parts) ≡ tokens parts
gap-tokens Neg true parts = refl
gap-tokens Neg false parts = refl
gap-tokens Not negates parts = refl
gap-tokens Flip negates parts = refl

level_zero : {source : List ℕ} {room : ℕ} {w : List Token} {e : Expr Word} → SpellsLevel source room 0 w e → SpellsOperand source room w e
level_zero (operand d) = d

fits_element : (source : List ℕ) (room : ℕ) (t : Token) (index : Expr Word) → Fits source room 10 (written index) index → Fits source (suc room) 0 (written (Elem (word_at source t) index)) (Elem (word_at source t) index)
fits_element source room t index f =
    let w = word_at source t in
    let e = Elem w index in
    let p : Piece = record { level = 0; negates = false; parts = word w ∷ mark OpenBracket ∷ ((written index).parts ++ mark CloseBracket ∷ []) } in
    let at : Token = record { sort = Name; span = t.span } in
    let whole : SpellsOperand source (suc room) (at ∷ (token_of OpenBracket ∷ (tokens (written index).parts ++ token_of CloseBracket ∷ []))) e = element at refl (between (token_of OpenBracket) (token_of CloseBracket) refl refl (spelled_bare source room (written index) index f)) in
    fits_as source (suc room) 0 p e (written-Elem w index) (fits_zero source (suc room) 0 p e refl
    (subst (λ x. SpellsOperand source (suc room) (at ∷ (token_of OpenBracket ∷ x)) e) (sym (tokens-append (written index).parts (mark CloseBracket ∷ []))) whole))

fits_unary : (source : List ℕ) (room : ℕ) (op : UnOp) (e : Expr Word) → Fits source room 0 (written e) e → Fits source (suc room) 0 (written (Unary op e)) (Unary op e)
fits_unary source room op e f =
    let p : Piece = record { level = 0; negates = is_neg op; parts = mark (unary_sign op) ∷ (gap op (written e).negates ++ tighter 1 (written e)) } in
    let whole : SpellsOperand source (suc room) (token_of (unary_sign op) ∷ tokens (tighter 1 (written e))) (Unary op e) = unary (token_of (unary_sign op)) op (unary-sign op) (level_zero (spelled_at source room 0 (written e) e f)) in
    fits_as source (suc room) 0 p (Unary op e) (written-Unary op e) (fits_zero source (suc room) 0 p (Unary op e) refl
    (subst (λ x. SpellsOperand source (suc room) (token_of (unary_sign op) ∷ x) (Unary op e)) (sym (gap-tokens op (written e).negates (tighter 1 (written e)))) whole))

mutual
  fits_operand : {source : List ℕ} {room : ℕ} {w : List Token} {e : Expr Word} → SpellsOperand source room w e → Fits source room 0 (written e) e
  fits_operand (number {source = source} {room = room} {n = n} t is) =
      fits_as source room 0 _ (Number n) (written-Number n) (fits_zero source room 0 (record { level = 0; negates = false; parts = literal n ∷ [] }) (Number n) refl (number (token_of (NumberSort n)) refl))
  fits_operand (name {source = source} {room = room} t is) =
      let w = word_at source t in
      fits_as source room 0 _ (Var w) (written-Var w) (fits_zero source room 0 (record { level = 0; negates = false; parts = word w ∷ [] }) (Var w) refl (name (record { sort = Name; span = t.span }) refl))
  fits_operand (element {source = source} {room = room} {index = index} t is d) = fits_element source room t index (fits_between d)
  fits_operand (unary {source = source} {room = room} {e = e} t op is d) = fits_unary source room op e (fits_operand d)
  fits_operand (inside {source = source} {room = room} {e = e} d) = fits_parentheses source room (written e) e (fits_between d)

  fits_between : {source : List ℕ} {room : ℕ} {pair : Pair} {w : List Token} {e : Expr Word} → SpellsBetween source room pair w e → Fits source room 10 (written e) e
  fits_between (between a b opens closes d) = fits_level d

  fits_level : {source : List ℕ} {room level : ℕ} {w : List Token} {e : Expr Word} → SpellsLevel source room level w e → Fits source room level (written e) e
  fits_level (operand d) = fits_operand d
  fits_level (chain {source = source} {room = room} {level = level} {head = head} {rest = rest} d ds) = fits_grown source room level head rest (fits_level d) (fits_rest ds) (rest_level ds)

  fits_rest : {source : List ℕ} {room level : ℕ} {w : List Token} {es : List (BinOp × Expr Word)} → SpellsRest source room level w es → SpellsRest source room level (tokens (operands (suc level) (pieces es))) es
  fits_rest none = none
  fits_rest (more {source = source} {room = room} {level = level} {e = e} {rest = rest} t op is at d ds) =
      subst (λ x. SpellsRest source room level x ((op, e) ∷ rest)) (sym (tokens-append (further (suc level) (op, written e)) (operands (suc level) (pieces rest))))
      (more (token_of (binary_sign op)) op (binary-sign op) at (spelled_at source room level (written e) e (fits_level d)) (fits_rest ds))

pub spelled_again : (source : List ℕ) (ts : List Token) (e : Expr Word) → IsExpression source ts e → IsExpression source (tokens (expression e)) e
spelled_again source ts e d = spelled_bare source 64 (written e) e (fits_level d)
