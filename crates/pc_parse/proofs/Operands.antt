-- One lemma for each way on which the parser of an operand answers.
use Rattle.std.proofs.Common.{◌≡◌, ℕ, suc, ◌-◌, ◌<◌, List, [], ◌∷◌, ◌++◌, ⊎_elim, Option, Some, length, refl, sym, ap, subst, ◌∙◌, append-nil, arith}
use Rattle.pt_base.specs.declared.operators.UnOp.{UnOp}
use Rattle.pc_grammar.specs.declared.tokens.Sort.{Sort}
use Rattle.pc_grammar.specs.declared.tokens.Sort.TheVariants.{Number as NumberSort, Name as NameSort, OpenBracket}
use Rattle.pc_grammar.specs.declared.tokens.Token.{Token}
use Rattle.pc_grammar.specs.declared.expressions.Word.{Word}
use Rattle.pc_grammar.specs.declared.expressions.Expr.{Expr}
use Rattle.pc_grammar.specs.declared.expressions.Expr.TheVariants.{Number, Var, Elem, Unary}
use Rattle.pc_grammar.specs.declared.marks.Pair.{Pair}
use Rattle.pc_grammar.specs.declared.marks.Pair.TheVariants.{Parentheses, Brackets}
use Rattle.pc_grammar.specs.declared.marks.OperandOpening.{OperandOpening}
use Rattle.pc_grammar.specs.declared.marks.OperandOpening.TheVariants.{Number as NumberOpening, Name as NameOpening, Unary as UnaryOpening, Parenthesis as ParenthesisOpening, Nothing as NothingOpening}
use Rattle.pc_parse.specs.declared.reading.Failure.{Failure}
use Rattle.pc_parse.specs.declared.reading.Failure.TheVariants.{Broken, Memory}
use Rattle.pc_grammar.specs.Signs.{opening_of}
use Rattle.pc_grammar.specs.Refusing.{first, IsViable}
use Rattle.pc_parse.specs.Reading.{Takes, Always, Refuses}
use Rattle.pc_grammar.specs.Expressions.{word_at, SpellsOperand, number, name, element, unary, inside, SpellsBetween}
use Rattle.pc_parse.specs.Expressions.{Ends, OperandTakes, OperandFails, BetweenTakes, BetweenFails}
use Rattle.pc_parse.proofs.Behind.{fails_behind, fails_here}
use Rattle.pc_parse.proofs.Holds.{index_follows, operand_ends, is_number, is_name, is_unary, opening_name}
use Rattle.pc_parse.proofs.Unique.{ElementAfter, UnaryAfter, InsideAfter, OperandAfter, operand_as, operand_after, no_index, open_inside, unique_between}

-- what is read one level deeper
deeper : (source : List ℕ) (room : ℕ) (w : List Token) (e : Expr Word) → 0 < room → SpellsOperand source (suc (room - 1)) w e → SpellsOperand source room w e
deeper source room w e some d = let at : suc (room - 1) ≡ room = omega arith in subst (λ n. SpellsOperand source n w e) at d

shallower : (source : List ℕ) (room : ℕ) (w : List Token) (e : Expr Word) → 0 < room → SpellsOperand source room w e → SpellsOperand source (suc (room - 1)) w e
shallower source room w e some d = let at : room ≡ suc (room - 1) = omega arith in subst (λ n. SpellsOperand source n w e) at d

-- an operand alone can be completed
complete : (source : List ℕ) (room : ℕ) (w : List Token) (e : Expr Word) → SpellsOperand source room w e → IsViable (SpellsOperand source room) w
complete source room w e d = ([], e, subst (λ x. SpellsOperand source room x e) (sym (append-nil w)) d)

-- where an index follows that isn't taken, no operand is at its end
ends_before : (rest others r : List Token) → first others ≡ first rest → first rest ≡ Some OpenBracket → others ≡ r → Ends 0 r → ⊥
ends_before rest others r same at eq ends = index_follows r (ap first (sym eq) ∙ same ∙ at) ends

-- ---- numbers

pub takes_number : (source : List ℕ) (room n : ℕ) (tokens : List Token) (t : Token) (rest : List Token) → tokens ≡ t ∷ rest → opening_of t.sort ≡ NumberOpening n → (first rest ≡ Some OpenBracket → ⊥) → OperandTakes source room tokens (Number n) rest
takes_number source room n tokens t rest eq is other = record { used = t ∷ []; whole = eq; spelled = number t (is_number t.sort n is); stops = operand_ends rest other }

pub fails_number : (source : List ℕ) (room n : ℕ) (tokens : List Token) (t : Token) (rest : List Token) → tokens ≡ t ∷ rest → opening_of t.sort ≡ NumberOpening n → first rest ≡ Some OpenBracket → OperandFails source room tokens (length rest)
fails_number source room n tokens t rest eq is at =
    fails_here (SpellsOperand source room) (λ _. Ends 0) (t ∷ []) rest tokens eq (complete source room (t ∷ []) (Number n) (number t (is_number t.sort n is)))
    (λ others c r same k. let v = operand_as k.spelled (NumberOpening n) t others r is (sym k.whole) in ends_before rest others r same at v.0 k.stops)

-- ---- names

pub takes_name : (source : List ℕ) (room : ℕ) (tokens : List Token) (t : Token) (rest : List Token) (called : Word) → tokens ≡ t ∷ rest → opening_of t.sort ≡ NameOpening → (first rest ≡ Some OpenBracket → ⊥) → called ≡ word_at source t → OperandTakes source room tokens (Var called) rest
takes_name source room tokens t rest called eq is other word = record {
  used = t ∷ [];
  whole = eq;
  spelled = subst (λ n. SpellsOperand source room (t ∷ []) (Var n)) (sym word) (name t (is_name t.sort is));
  stops = operand_ends rest other;
}

-- where the limit is reached, a bracket behind a name is refused
pub fails_deep : (source : List ℕ) (room : ℕ) (tokens : List Token) (t : Token) (rest : List Token) → tokens ≡ t ∷ rest → opening_of t.sort ≡ NameOpening → first rest ≡ Some OpenBracket → room ≡ 0 → OperandFails source room tokens (length rest)
fails_deep source room tokens t rest eq is at flat =
    fails_here (SpellsOperand source room) (λ _. Ends 0) (t ∷ []) rest tokens eq (complete source room (t ∷ []) (Var (word_at source t)) (name t (is_name t.sort is)))
    (λ others c r same k. ⊎_elim
    (λ v. ends_before rest others r same at v.0 k.stops)
    (λ v. let d : room ≡ suc v.less = v.deep in absurd (omega arith))
    (operand_as k.spelled NameOpening t others r is (sym k.whole)))

-- the index that a name has
index_of : (source : List ℕ) (room : ℕ) (t : Token) (i : List Token) (c : Expr Word) (r : List Token) → 0 < room → opening_of t.sort ≡ NameOpening → first i ≡ Some OpenBracket →
    OperandTakes source room (t ∷ i) c r → (index : Expr Word) × (left : List Token) × Takes (SpellsBetween source (room - 1) Brackets) Always i index left × (left ≡ r)
index_of source room t i c r some is at k = ⊎_elim
    (λ v. absurd (index_follows r (ap first (sym v.0) ∙ at) k.stops))
    (λ v. let same : v.less ≡ room - 1 = let p : room ≡ suc v.less = v.deep in omega arith in
    (v.index, r, record { used = v.w; whole = v.whole; spelled = subst (λ n. SpellsBetween source n Brackets v.w v.index) same v.inner; stops = tt }, refl))
    (operand_as k.spelled NameOpening t i r is (sym k.whole))

pub takes_element : (source : List ℕ) (room : ℕ) (tokens : List Token) (t : Token) (i : List Token) (called : Word) (index : Expr Word) (rest : List Token) →
    tokens ≡ t ∷ i → opening_of t.sort ≡ NameOpening → 0 < room → BetweenTakes source (room - 1) Brackets i index rest → (first rest ≡ Some OpenBracket → ⊥) → called ≡ word_at source t → OperandTakes source room tokens (Elem called index) rest
takes_element source room tokens t i called index rest eq is some h other word = record {
  used = t ∷ h.used;
  whole = eq ∙ ap (λ x. t ∷ x) h.whole;
  spelled = subst (λ n. SpellsOperand source room (t ∷ h.used) (Elem n index)) (sym word) (deeper source room (t ∷ h.used) (Elem (word_at source t) index) some (element t (is_name t.sort is) h.spelled));
  stops = operand_ends rest other;
}

pub fails_index : (source : List ℕ) (room : ℕ) (tokens : List Token) (t : Token) (i : List Token) (n : ℕ) →
    tokens ≡ t ∷ i → opening_of t.sort ≡ NameOpening → first i ≡ Some OpenBracket → 0 < room → BetweenFails source (room - 1) Brackets i n → OperandFails source room tokens n
fails_index source room tokens t i n eq is at some f =
    fails_behind (SpellsBetween source (room - 1) Brackets) Always (SpellsOperand source room) (λ _. Ends 0) (t ∷ []) i tokens n eq f
    (λ v e d. complete source room (t ∷ v) (Elem (word_at source t) e) (deeper source room (t ∷ v) (Elem (word_at source t) e) some (element t (is_name t.sort is) d)))
    (λ others c r _ same k. let v = index_of source room t others c r some is (same ∙ at) k in (v.0, v.1, v.2))

pub fails_behind_element : (source : List ℕ) (room : ℕ) (tokens : List Token) (t : Token) (i : List Token) (index : Expr Word) (rest : List Token) →
    tokens ≡ t ∷ i → opening_of t.sort ≡ NameOpening → first i ≡ Some OpenBracket → 0 < room → BetweenTakes source (room - 1) Brackets i index rest → first rest ≡ Some OpenBracket → OperandFails source room tokens (length rest)
fails_behind_element source room tokens t i index rest eq is opens some h at =
    fails_here (SpellsOperand source room) (λ _. Ends 0) (t ∷ h.used) rest tokens (eq ∙ ap (λ x. t ∷ x) h.whole)
    (complete source room (t ∷ h.used) (Elem (word_at source t) index) (deeper source room (t ∷ h.used) (Elem (word_at source t) index) some (element t (is_name t.sort is) h.spelled)))
    (λ others c r same k. ⊎_elim
    (λ v. no_index h.spelled others r (sym v.0) k.stops)
    (λ v. let less : v.less ≡ room - 1 = let p : room ≡ suc v.less = v.deep in omega arith in
    let u = unique_between h.spelled v.w v.index others r (subst (λ n. SpellsBetween source n Brackets v.w v.index) less v.inner) v.whole in
    ends_before rest others r same at u.0 k.stops)
    (operand_as k.spelled NameOpening t (h.used ++ others) r is (sym k.whole)))

-- ---- operators before an operand

pub takes_unary : (source : List ℕ) (room : ℕ) (op : UnOp) (tokens : List Token) (t : Token) (i : List Token) (e : Expr Word) (rest : List Token) →
    tokens ≡ t ∷ i → opening_of t.sort ≡ UnaryOpening op → 0 < room → OperandTakes source (room - 1) i e rest → OperandTakes source room tokens (Unary op e) rest
takes_unary source room op tokens t i e rest eq is some h = record {
  used = t ∷ h.used;
  whole = eq ∙ ap (λ x. t ∷ x) h.whole;
  spelled = deeper source room (t ∷ h.used) (Unary op e) some (unary t op (is_unary t.sort op is) h.spelled);
  stops = h.stops;
}

pub fails_unary : (source : List ℕ) (room : ℕ) (op : UnOp) (tokens : List Token) (t : Token) (i : List Token) (n : ℕ) →
    tokens ≡ t ∷ i → opening_of t.sort ≡ UnaryOpening op → 0 < room → OperandFails source (room - 1) i n → OperandFails source room tokens n
fails_unary source room op tokens t i n eq is some f =
    fails_behind (SpellsOperand source (room - 1)) (λ _. Ends 0) (SpellsOperand source room) (λ _. Ends 0) (t ∷ []) i tokens n eq f
    (λ v e d. complete source room (t ∷ v) (Unary op e) (deeper source room (t ∷ v) (Unary op e) some (unary t op (is_unary t.sort op is) d)))
    (λ others c r _ same k.
    let v = operand_as k.spelled (UnaryOpening op) t others r is (sym k.whole) in
    let less : v.less ≡ room - 1 = let p : room ≡ suc v.less = v.deep in omega arith in
    (v.operand, r, record { used = v.w; whole = v.whole; spelled = subst (λ n. SpellsOperand source n v.w v.operand) less v.inner; stops = k.stops }))

-- ---- parentheses

pub takes_inside : (source : List ℕ) (room : ℕ) (tokens : List Token) (e : Expr Word) (rest : List Token) → 0 < room → BetweenTakes source (room - 1) Parentheses tokens e rest → (first rest ≡ Some OpenBracket → ⊥) → OperandTakes source room tokens e rest
takes_inside source room tokens e rest some h other = record { used = h.used; whole = h.whole; spelled = deeper source room h.used e some (inside h.spelled); stops = operand_ends rest other }

inside_again : (source : List ℕ) (room : ℕ) (s : Sort) (others : List Token) (c : Expr Word) (r : List Token) → 0 < room → opening_of s ≡ ParenthesisOpening → first others ≡ Some s → OperandTakes source room others c r → BetweenTakes source (room - 1) Parentheses others c r
inside_again source room s [] c r some is at k = cc
inside_again source room s (x ∷ xs) c r some is at k =
    let here : x.sort ≡ s = cc in
    let v = operand_as k.spelled ParenthesisOpening x xs r (ap opening_of here ∙ is) (sym k.whole) in
    let less : v.less ≡ room - 1 = let p : room ≡ suc v.less = v.deep in omega arith in
    record { used = v.w; whole = v.whole; spelled = subst (λ n. SpellsBetween source n Parentheses v.w c) less v.inner; stops = tt }

pub fails_inside : (source : List ℕ) (room : ℕ) (tokens : List Token) (t : Token) (i : List Token) (n : ℕ) → tokens ≡ t ∷ i → opening_of t.sort ≡ ParenthesisOpening → 0 < room → BetweenFails source (room - 1) Parentheses tokens n → OperandFails source room tokens n
fails_inside source room tokens t i n eq is some f =
    fails_behind (SpellsBetween source (room - 1) Parentheses) Always (SpellsOperand source room) (λ _. Ends 0) [] tokens tokens n refl f
    (λ v e d. complete source room v e (deeper source room v e some (inside d)))
    (λ others c r _ same k. (c, r, inside_again source room t.sort others c r some is (same ∙ ap first eq) k))

pub fails_behind_inside : (source : List ℕ) (room : ℕ) (tokens : List Token) (e : Expr Word) (rest : List Token) → 0 < room → BetweenTakes source (room - 1) Parentheses tokens e rest → first rest ≡ Some OpenBracket → OperandFails source room tokens (length rest)
fails_behind_inside source room tokens e rest some h at =
    fails_here (SpellsOperand source room) (λ _. Ends 0) h.used rest tokens h.whole (complete source room h.used e (deeper source room h.used e some (inside h.spelled)))
    (λ others c r same k.
    let v = open_inside h.spelled (shallower source room k.used c some k.spelled) others r k.whole in
    let u = unique_between h.spelled v.0 c others r v.1 v.2 in
    ends_before rest others r same at u.0 k.stops)

-- ---- no operand

-- with a bracket or an operator an operand begins only where there is room
abbrev pub CannotBegin : ℕ → OperandOpening → Type 0
CannotBegin room (NumberOpening n) = ⊥
CannotBegin room NameOpening = ⊥
CannotBegin room (UnaryOpening op) = room ≡ 0
CannotBegin room ParenthesisOpening = room ≡ 0
CannotBegin room NothingOpening = Unit {0}

no_operand : (source : List ℕ) (room : ℕ) (o : OperandOpening) (t : Token) (i : List Token) (e : Expr Word) (r : List Token) → CannotBegin room o → OperandAfter source room o t i e r → ⊥
no_operand source room (NumberOpening n) t i e r bad v = bad
no_operand source room NameOpening t i e r bad v = bad
no_operand source room (UnaryOpening op) t i e r bad v = let a : room ≡ suc v.less = v.deep in omega arith
no_operand source room ParenthesisOpening t i e r bad v = let a : room ≡ suc v.less = v.deep in omega arith
no_operand source room NothingOpening t i e r bad v = v

not_empty : {source : List ℕ} {room : ℕ} {w : List Token} {e : Expr Word} → SpellsOperand source room w e → (r : List Token) → [] ≡ w ++ r → ⊥
not_empty (number t is) r eq = cc
not_empty (name t is) r eq = cc
not_empty (element t is d) r eq = cc
not_empty (unary t op is d) r eq = cc
not_empty (inside d) r eq = between_begins d r eq
  where
    between_begins : {source : List ℕ} {room : ℕ} {pair : Pair} {w : List Token} {e : Expr Word} → SpellsBetween source room pair w e → (r : List Token) → [] ≡ w ++ r → ⊥
    between_begins d r eq = let a : Option.None ≡ Some (Rattle.pc_grammar.specs.Signs.opens_of _) = ap first eq ∙ Rattle.pc_parse.proofs.Unique.between_first d r in cc

-- some tokens
abbrev pub some_token : Sort → Token
some_token s = record { sort = s; span = record { from = 0; to = 0 } }

pub some_operand : (source : List ℕ) (room : ℕ) → SpellsOperand source room (some_token (NumberSort 0) ∷ []) (Number 0)
some_operand source room = number (some_token (NumberSort 0)) refl

-- what holds of what comes next, and no operand begins with it
no_front : (source : List ℕ) (room : ℕ) (tokens others : List Token) (c : Expr Word) (r : List Token) → first others ≡ first tokens → ((t : Token) (i : List Token) → tokens ≡ t ∷ i → CannotBegin room (opening_of t.sort)) → OperandTakes source room others c r → ⊥
no_front source room tokens [] c r same bad k = not_empty k.spelled r k.whole
no_front source room [] (x ∷ xs) c r same bad k = cc
no_front source room (t ∷ i) (x ∷ xs) c r same bad k =
    let here : t.sort ≡ x.sort = let p : Some x.sort ≡ Some t.sort = same in cc in
    no_operand source room (opening_of x.sort) x xs c r (subst (λ s. CannotBegin room (opening_of s)) here (bad t i refl)) (operand_after k.spelled x xs r (sym k.whole))

fails_beginning : (source : List ℕ) (room : ℕ) (tokens : List Token) → ((t : Token) (i : List Token) → tokens ≡ t ∷ i → CannotBegin room (opening_of t.sort)) → OperandFails source room tokens (length tokens)
fails_beginning source room tokens bad =
    fails_here (SpellsOperand source room) (λ _. Ends 0) [] tokens tokens refl (some_token (NumberSort 0) ∷ [], Number 0, some_operand source room)
    (λ others c r same k. no_front source room tokens others c r same bad k)

pub fails_empty : (source : List ℕ) (room : ℕ) (tokens : List Token) → tokens ≡ [] → OperandFails source room tokens (length tokens)
fails_empty source room tokens eq = fails_beginning source room tokens (λ t i h. let a : [] ≡ t ∷ i = sym eq ∙ h in cc)

fails_operand : (source : List ℕ) (room : ℕ) (o : OperandOpening) (tokens : List Token) (t : Token) (i : List Token) → tokens ≡ t ∷ i → opening_of t.sort ≡ o → CannotBegin room o → OperandFails source room tokens (length tokens)
fails_operand source room o tokens t i eq is bad = fails_beginning source room tokens (λ t' i' h.
    let a : t ∷ i ≡ t' ∷ i' = sym eq ∙ h in
    let b : t ≡ t' = cc in
    subst (λ (x : Token). CannotBegin room (opening_of x.sort)) b (subst (CannotBegin room) (sym is) bad))

pub fails_nothing : (source : List ℕ) (room : ℕ) (tokens : List Token) (t : Token) (i : List Token) → tokens ≡ t ∷ i → opening_of t.sort ≡ NothingOpening → OperandFails source room tokens (length tokens)
fails_nothing source room tokens t i eq is = fails_operand source room NothingOpening tokens t i eq is tt

pub fails_deep_unary : (source : List ℕ) (room : ℕ) (op : UnOp) (tokens : List Token) (t : Token) (i : List Token) → tokens ≡ t ∷ i → opening_of t.sort ≡ UnaryOpening op → room ≡ 0 → OperandFails source room tokens (length tokens)
fails_deep_unary source room op tokens t i eq is flat = fails_operand source room (UnaryOpening op) tokens t i eq is flat

pub fails_deep_inside : (source : List ℕ) (room : ℕ) (tokens : List Token) (t : Token) (i : List Token) → tokens ≡ t ∷ i → opening_of t.sort ≡ ParenthesisOpening → room ≡ 0 → OperandFails source room tokens (length tokens)
fails_deep_inside source room tokens t i eq is flat = fails_operand source room ParenthesisOpening tokens t i eq is flat

pub inside_refuses : (source : List ℕ) (room : ℕ) (tokens : List Token) (t : Token) (i : List Token) (f : Failure) → tokens ≡ t ∷ i → opening_of t.sort ≡ ParenthesisOpening → 0 < room → Refuses (BetweenFails source (room - 1) Parentheses) tokens f → Refuses (OperandFails source room) tokens f
inside_refuses source room tokens t i (Broken n) eq is some f = fails_inside source room tokens t i n eq is some f
inside_refuses source room tokens t i Memory eq is some f = tt

-- ---- the same for an element, as the code has it

pub element_deep : (source : List ℕ) (room : ℕ) (t : Token) (rest : List Token) → t.sort ≡ NameSort → first rest ≡ Some OpenBracket → room ≡ 0 → OperandFails source room (t ∷ rest) (length rest)
element_deep source room t rest is at flat = fails_deep source room (t ∷ rest) t rest refl (opening_name t.sort is) at flat

pub element_fails : (source : List ℕ) (room : ℕ) (t : Token) (i : List Token) (n : ℕ) → t.sort ≡ NameSort → first i ≡ Some OpenBracket → 0 < room → BetweenFails source (room - 1) Brackets i n → OperandFails source room (t ∷ i) n
element_fails source room t i n is at some f = fails_index source room (t ∷ i) t i n refl (opening_name t.sort is) at some f

pub element_fails_behind : (source : List ℕ) (room : ℕ) (t : Token) (i : List Token) (index : Expr Word) (rest : List Token) →
    t.sort ≡ NameSort → first i ≡ Some OpenBracket → 0 < room → BetweenTakes source (room - 1) Brackets i index rest → first rest ≡ Some OpenBracket → OperandFails source room (t ∷ i) (length rest)
element_fails_behind source room t i index rest is opens some h at = fails_behind_element source room (t ∷ i) t i index rest refl (opening_name t.sort is) opens some h at

pub element_takes : (source : List ℕ) (room : ℕ) (t : Token) (i : List Token) (called : Word) (index : Expr Word) (rest : List Token) →
    t.sort ≡ NameSort → 0 < room → BetweenTakes source (room - 1) Brackets i index rest → (first rest ≡ Some OpenBracket → ⊥) → called ≡ word_at source t → OperandTakes source room (t ∷ i) (Elem called index) rest
element_takes source room t i called index rest is some h other word = takes_element source room (t ∷ i) t i called index rest refl (opening_name t.sort is) some h other word

pub ruleset element_steps = (element_deep, element_fails, element_fails_behind)

pub ruleset operand_steps = (takes_number, fails_number, takes_unary, fails_unary, takes_inside, fails_behind_inside, fails_empty)
