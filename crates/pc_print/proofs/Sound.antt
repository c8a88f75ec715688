-- The parts of an expression are read whole, before anything that doesn't go on with a word.
use Rattle.std.proofs.Common.{◌≡◌, ℕ, ◌<◌, ◌≤◌, ◌^◌, Bool, true, false, cond, nat_eq, nat_le, List, [], ◌∷◌, ◌++◌, slice_range, refl, sym, ap, subst, ◌∙◌, append_assoc, arith}
use Rattle.std.proofs.lemmas.Bool.Decides.{nat_tests}
use Rattle.std.specs.Fmt.{decimal}
use Rattle.std.specs.List.{list_all}
use Rattle.pt_base.specs.declared.operators.UnOp.{UnOp}
use Rattle.pt_base.specs.declared.operators.UnOp.TheVariants.{Neg, Not, Flip}
use Rattle.pt_base.specs.declared.operators.BinOp.{BinOp}
use Rattle.pc_grammar.specs.declared.tokens.Sort.TheVariants.{Name, Number as NumberSort, OpenParenthesis, CloseParenthesis, OpenBracket, CloseBracket}
use Rattle.pc_grammar.specs.declared.tokens.Token.{Token}
use Rattle.pc_grammar.specs.Spelling.{spelling_of}
use Rattle.pc_grammar.specs.Numbers.{is_word}
use Rattle.pc_grammar.specs.Lexing.{begins, run_front, reads_name, is_name}
use Rattle.pc_grammar.proofs.Found.{both_first}
use Rattle.pt_base.proofs.NumberLaws.{leads}
use Rattle.pc_grammar.specs.declared.expressions.Word.{Word}
use Rattle.pc_grammar.specs.declared.expressions.Expr.{Expr}
use Rattle.pc_grammar.specs.declared.expressions.Expr.TheVariants.{Number, Var, Elem, Unary, Chain}
use Rattle.pc_grammar.specs.declared.marks.Pair.{Pair}
use Rattle.pc_grammar.specs.Expressions.{word_at, grown, SpellsOperand, number, name, element, unary, inside, SpellsBetween, between, SpellsLevel, operand, chain, SpellsRest, none, more}
use Rattle.pc_print.specs.Parts.{Part, mark, word, literal, blank, text}
use Rattle.pc_print.specs.Canonical.{Piece, unary_sign, binary_sign, in_parentheses, tighter, gap, chain_level, further, operands, written, pieces, expression}
use Rattle.pc_print.specs.Tokens.{bytes_of_name}
use Rattle.pc_print.proofs.Pieces.{text-append, written-Number, written-Var, written-Elem, written-Unary, written-Chain}
use Rattle.pc_print.proofs.Fronts.{Breaks, read_name, read_number, read_open, read_close, read_open_bracket, read_close_bracket, read_minus, read_tilde, read_bang, read_operator}
use Rattle.pc_print.proofs.Stands.{NameRead, Stands, stands-append}

pub record Sound (source : List ℕ) (parts : List Part) : Type 0 where
  pub stands : (v : List ℕ) → Breaks v → Stands source parts v
  pub other : (v : List ℕ) → begins 61 (text parts ++ v) ≡ false

-- ---- operands

digit_other : (b : ℕ) → 48 ≤ b → b ≤ 57 → nat_eq b 61 ≡ false
digit_other b low high = grind (arith, nat_tests)

word_other : (b : ℕ) → is_word b ≡ true → nat_eq b 61 ≡ false
word_other b h = grind (arith, nat_tests)

literal_other : (n : ℕ) → n < 2 ^ 64 → (v : List ℕ) → begins 61 ((decimal n ++ []) ++ v) ≡ false
literal_other n fits v = let l = leads n fits in rw l.is (digit_other l.first l.low l.high)

sound_literal : (source : List ℕ) (n : ℕ) → n < 4294967296 → Sound source (literal n ∷ [])
sound_literal source n small = record { stands = λ v breaks. (read_number n v small breaks, tt); other = literal_other n (omega arith) }

name_other : (u x v : List ℕ) → is_name u ≡ true → begins 61 ((u ++ x) ++ v) ≡ false
unfolding is_name run_front
name_other [] x v h = absurd cc
name_other (b ∷ u) x v h = word_other b (both_first (is_word b) (list_all is_word u) (both_first (list_all is_word (b ∷ u)) (reads_name (run_front (b ∷ u))) h))

-- a name of the source
pub record GoodName (source : List ℕ) (w : Word) : Type 0 where
  pub bytes : slice_range source w.span.from w.span.to ≡ w.text
  pub name : is_name w.text ≡ true

pub name_read : (source : List ℕ) (w : Word) (v : List ℕ) → GoodName source w → Breaks v → NameRead source w v
name_read source w v good breaks = record { read = read_name w.text v good.name breaks; bytes = good.bytes }

sound_word : (source : List ℕ) (w : Word) → GoodName source w → Sound source (word w ∷ [])
sound_word source w good = record { stands = λ v breaks. (name_read source w v good breaks, tt); other = λ v. name_other w.text [] v good.name }

open_bracket_breaks : (x v : List ℕ) → Breaks ((spelling_of OpenBracket ++ x) ++ v)
unfolding spelling_of
open_bracket_breaks x v = refl

close_bracket_breaks : (x v : List ℕ) → Breaks ((spelling_of CloseBracket ++ x) ++ v)
unfolding spelling_of
close_bracket_breaks x v = refl

close_breaks : (x v : List ℕ) → Breaks ((spelling_of CloseParenthesis ++ x) ++ v)
unfolding spelling_of
close_breaks x v = refl

pub sound_element : (source : List ℕ) (w : Word) (parts : List Part) → GoodName source w → Sound source parts → Sound source (word w ∷ mark OpenBracket ∷ (parts ++ mark CloseBracket ∷ []))
sound_element source w parts good s = record {
  stands = λ v breaks. (
    name_read source w (text (mark OpenBracket ∷ (parts ++ mark CloseBracket ∷ [])) ++ v) good (open_bracket_breaks (text (parts ++ mark CloseBracket ∷ [])) v),
    (
      record { read = read_open_bracket (text (parts ++ mark CloseBracket ∷ []) ++ v); nameless = λ x. refl },
      stands-append source parts (mark CloseBracket ∷ []) v (s.stands (text (mark CloseBracket ∷ []) ++ v) (close_bracket_breaks [] v)) (record { read = read_close_bracket v; nameless = λ x. refl }, tt),
    ),
  );
  other = λ v. name_other w.text (text (mark OpenBracket ∷ (parts ++ mark CloseBracket ∷ []))) v good.name;
}

open_other : (x v : List ℕ) → begins 61 ((spelling_of OpenParenthesis ++ x) ++ v) ≡ false
unfolding spelling_of
open_other x v = refl

pub sound_in_parentheses : (source : List ℕ) (parts : List Part) → Sound source parts → Sound source (in_parentheses parts)
sound_in_parentheses source parts s = record {
  stands = λ v breaks. (
    record { read = read_open (text (parts ++ mark CloseParenthesis ∷ []) ++ v); nameless = λ x. refl },
    stands-append source parts (mark CloseParenthesis ∷ []) v (s.stands (text (mark CloseParenthesis ∷ []) ++ v) (close_breaks [] v)) (record { read = read_close v; nameless = λ x. refl }, tt),
  );
  other = λ v. open_other (text (parts ++ mark CloseParenthesis ∷ [])) v;
}

sound_chosen : (source : List ℕ) (parts : List Part) (t : Bool) → Sound source parts → Sound source (cond t (in_parentheses parts) parts)
sound_chosen source parts true s = sound_in_parentheses source parts s
sound_chosen source parts false s = s

sound_tighter : (source : List ℕ) (level : ℕ) (p : Piece) → Sound source p.parts → Sound source (tighter level p)
sound_tighter source level p s = sound_chosen source p.parts (nat_le level p.level) s

unary_other : (op : UnOp) (x v : List ℕ) → begins 61 ((spelling_of (unary_sign op) ++ x) ++ v) ≡ false
unfolding spelling_of
unary_other Neg x v = refl
unary_other Not x v = refl
unary_other Flip x v = refl

unary_stands : (source : List ℕ) (op : UnOp) (negates : Bool) (parts : List Part) (v : List ℕ) → Sound source parts → Breaks v → Stands source (mark (unary_sign op) ∷ (gap op negates ++ parts)) v
unary_stands source Neg true parts v s breaks = (record { read = read_minus (text (blank ∷ parts) ++ v); nameless = λ x. refl }, (tt, s.stands v breaks))
unary_stands source Neg false parts v s breaks = (record { read = read_minus (text parts ++ v); nameless = λ x. refl }, s.stands v breaks)
unary_stands source Not negates parts v s breaks = (record { read = read_bang (text parts ++ v) (s.other v); nameless = λ x. refl }, s.stands v breaks)
unary_stands source Flip negates parts v s breaks = (record { read = read_tilde (text parts ++ v); nameless = λ x. refl }, s.stands v breaks)

sound_unary : (source : List ℕ) (op : UnOp) (negates : Bool) (parts : List Part) → Sound source parts → Sound source (mark (unary_sign op) ∷ (gap op negates ++ parts))
sound_unary source op negates parts s = record {
  stands = λ v breaks. unary_stands source op negates parts v s breaks;
  other = λ v. unary_other op (text (gap op negates ++ parts)) v;
}

-- ---- chains

operator_nameless : (op : BinOp) (x : List ℕ) → bytes_of_name (binary_sign op) x ≡ []
operator_nameless BinOp.Or x = refl
operator_nameless BinOp.And x = refl
operator_nameless BinOp.BitOr x = refl
operator_nameless BinOp.BitXor x = refl
operator_nameless BinOp.BitAnd x = refl
operator_nameless BinOp.Equal x = refl
operator_nameless BinOp.NotEqual x = refl
operator_nameless BinOp.Less x = refl
operator_nameless BinOp.LessEqual x = refl
operator_nameless BinOp.Greater x = refl
operator_nameless BinOp.GreaterEqual x = refl
operator_nameless BinOp.ShiftLeft x = refl
operator_nameless BinOp.ShiftRight x = refl
operator_nameless BinOp.Add x = refl
operator_nameless BinOp.Sub x = refl
operator_nameless BinOp.Mul x = refl
operator_nameless BinOp.Div x = refl
operator_nameless BinOp.Rem x = refl

-- the operands behind the first one, at any level
record RestSound (source : List ℕ) (rest : List (BinOp × Expr Word)) : Type 0 where
  stands : (level : ℕ) (v : List ℕ) → Breaks v → Stands source (operands level (pieces rest)) v

-- a blank stands before an operator
operands_break : (level : ℕ) (rest : List (BinOp × Piece)) (v : List ℕ) → Breaks v → Breaks (text (operands level rest) ++ v)
operands_break level [] v breaks = breaks
operands_break level (p ∷ rest) v breaks = refl

further_stands : (source : List ℕ) (level : ℕ) (op : BinOp) (p : Piece) (v : List ℕ) → Sound source p.parts → Breaks v → Stands source (further level (op, p)) v
further_stands source level op p v s breaks = (tt, (record { read = read_operator op (text (tighter level p) ++ v); nameless = operator_nameless op }, (tt, (sound_tighter source level p s).stands v breaks)))

rest_more : (source : List ℕ) (op : BinOp) (e : Expr Word) (rest : List (BinOp × Expr Word)) → Sound source (expression e) → RestSound source rest → RestSound source ((op, e) ∷ rest)
rest_more source op e rest s others = record {
  stands = λ level v breaks. stands-append source (further level (op, written e)) (operands level (pieces rest)) v
      (further_stands source level op (written e) (text (operands level (pieces rest)) ++ v) s (operands_break level (pieces rest) v breaks)) (others.stands level v breaks);
}

sound_as : (source : List ℕ) (e : Expr Word) (p : Piece) → written e ≡ p → Sound source p.parts → Sound source (expression e)
sound_as source e p eq s = subst (λ (q : Piece). Sound source q.parts) (sym eq) s

sound_grown : (source : List ℕ) (head : Expr Word) (rest : List (BinOp × Expr Word)) → Sound source (expression head) → RestSound source rest → Sound source (expression (grown head rest))
sound_grown source head [] s others = s
sound_grown source head (p ∷ rest) s others =
    let level = chain_level (p ∷ rest) in
    let front = tighter level (written head) in
    let back = operands level (pieces (p ∷ rest)) in
    let f = sound_tighter source level (written head) s in
    sound_as source (Chain head (p ∷ rest)) (record { level = level; negates = false; parts = front ++ back }) (written-Chain head (p ∷ rest)) (record {
      stands = λ v breaks. stands-append source front back v (f.stands (text back ++ v) (operands_break level (pieces (p ∷ rest)) v breaks)) (others.stands level v breaks);
      other = λ v. ap (begins 61) (ap (λ x. x ++ v) (text-append front back) ∙ append_assoc (text front) (text back) v) ∙ f.other (text back ++ v);
    })

-- ---- trees that tokens spell

-- names are names, and numbers have 32 bits
pub record Good (source : List ℕ) (t : Token) : Type 0 where
  pub name : t.sort ≡ Name → is_name (slice_range source t.span.from t.span.to) ≡ true
  pub small : (n : ℕ) → t.sort ≡ NumberSort n → n < 4294967296

abbrev pub Goods : List ℕ → List Token → Type 0
Goods source [] = Unit {0}
Goods source (t ∷ ts) = Good source t × Goods source ts

pub goods_front : (source : List ℕ) (a b : List Token) → Goods source (a ++ b) → Goods source a
goods_front source [] b g = tt
goods_front source (t ∷ a) b g = (g.0, goods_front source a b g.1)

pub goods_back : (source : List ℕ) (a b : List Token) → Goods source (a ++ b) → Goods source b
goods_back source [] b g = g
goods_back source (t ∷ a) b g = goods_back source a b g.1

pub good_name : (source : List ℕ) (t : Token) → Good source t → t.sort ≡ Name → GoodName source (word_at source t)
good_name source t good is = record { bytes = refl; name = good.name is }

mutual
  pub sound_operand : {source : List ℕ} {room : ℕ} {w : List Token} {e : Expr Word} → SpellsOperand source room w e → Goods source w → Sound source (expression e)
  sound_operand (number {source = source} {n = n} t is) g = sound_as source (Number n) _ (written-Number n) (sound_literal source n (g.0.small n is))
  sound_operand (name {source = source} t is) g = sound_as source (Var (word_at source t)) _ (written-Var (word_at source t)) (sound_word source (word_at source t) (good_name source t g.0 is))
  sound_operand (element {source = source} {index = index} t is d) g =
      sound_as source (Elem (word_at source t) index) _ (written-Elem (word_at source t) index) (sound_element source (word_at source t) (expression index) (good_name source t g.0 is) (sound_between d g.1))
  sound_operand (unary {source = source} {e = e} t op is d) g =
      sound_as source (Unary op e) _ (written-Unary op e) (sound_unary source op (written e).negates (tighter 1 (written e)) (sound_tighter source 1 (written e) (sound_operand d g.1)))
  sound_operand (inside d) g = sound_between d g

  pub sound_between : {source : List ℕ} {room : ℕ} {pair : Pair} {w : List Token} {e : Expr Word} → SpellsBetween source room pair w e → Goods source w → Sound source (expression e)
  sound_between (between {source = source} {w = w} a b opens closes d) g = sound_level d (goods_front source w (b ∷ []) g.1)

  pub sound_level : {source : List ℕ} {room level : ℕ} {w : List Token} {e : Expr Word} → SpellsLevel source room level w e → Goods source w → Sound source (expression e)
  sound_level (operand d) g = sound_operand d g
  sound_level (chain {source = source} {w = w} {v = v} {head = head} {rest = rest} d ds) g = sound_grown source head rest (sound_level d (goods_front source w v g)) (sound_rest ds (goods_back source w v g))

  sound_rest : {source : List ℕ} {room level : ℕ} {w : List Token} {es : List (BinOp × Expr Word)} → SpellsRest source room level w es → Goods source w → RestSound source es
  sound_rest none g = record { stands = λ level v breaks. tt }
  sound_rest (more {source = source} {w = w} {v = v} {e = e} {rest = rest} t op is at d ds) g = rest_more source op e rest (sound_level d (goods_front source w v g.1)) (sound_rest ds (goods_back source w v g.1))
