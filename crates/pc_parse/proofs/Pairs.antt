-- One lemma for each way on which the parser of an expression between two tokens answers.
use Rattle.std.proofs.Common.{◌≡◌, ℕ, zero, suc, List, [], ◌∷◌, ◌++◌, Some, length, refl, sym, ap, ◌∙◌, append_assoc}
use Rattle.pc_grammar.specs.declared.tokens.Sort.{Sort}
use Rattle.pc_grammar.specs.declared.tokens.Sort.TheVariants.{Number as NumberSort}
use Rattle.pc_grammar.specs.declared.tokens.Token.{Token}
use Rattle.pc_grammar.specs.declared.expressions.Word.{Word}
use Rattle.pc_grammar.specs.declared.expressions.Expr.{Expr}
use Rattle.pc_grammar.specs.declared.expressions.Expr.TheVariants.{Number}
use Rattle.pc_grammar.specs.declared.marks.Pair.{Pair}
use Rattle.pc_grammar.specs.Signs.{opens_of, closes_of}
use Rattle.pc_grammar.specs.Refusing.{first}
use Rattle.pc_parse.specs.Reading.{Comes, Always}
use Rattle.pc_grammar.specs.Expressions.{SpellsBetween, between, SpellsLevel, operand, chain, none}
use Rattle.pc_parse.specs.Expressions.{Ends, BetweenTakes, BetweenFails, LevelTakes, LevelFails}
use Rattle.pc_parse.proofs.Behind.{fails_behind, fails_here}
use Rattle.pc_parse.proofs.Holds.{ends_same, ends_closed}
use Rattle.pc_parse.proofs.Unique.{between_after, between_first, unique_level}
use Rattle.pc_parse.proofs.Operands.{some_token, some_operand}

-- a number is an expression of each level
pub some_level : (source : List ℕ) (room level : ℕ) → SpellsLevel source room level (some_token (NumberSort 0) ∷ []) (Number 0)
some_level source room zero = operand (some_operand source room)
some_level source room (suc level) = chain (some_level source room level) none

pub takes_between : (source : List ℕ) (room : ℕ) (pair : Pair) (s z : Sort) (tokens i : List Token) (e : Expr Word) (r rest : List Token) →
    s ≡ opens_of pair → z ≡ closes_of pair → Comes s tokens i → LevelTakes source room 10 i e r → Comes z r rest → BetweenTakes source room pair tokens e rest
takes_between source room pair s z tokens i e r rest opens closes a h b = record {
  used = a.token ∷ (h.used ++ b.token ∷ []);
  whole = a.whole ∙ ap (λ x. a.token ∷ x) (h.whole ∙ ap (λ x. h.used ++ x) b.whole ∙ sym (append_assoc h.used (b.token ∷ []) rest));
  spelled = between a.token b.token (a.is ∙ opens) (b.is ∙ closes) h.spelled;
  stops = tt;
}

pub fails_first : (source : List ℕ) (room : ℕ) (pair : Pair) (s : Sort) (tokens : List Token) → s ≡ opens_of pair → (first tokens ≡ Some s → ⊥) → BetweenFails source room pair tokens (length tokens)
fails_first source room pair s tokens opens other =
    fails_here (SpellsBetween source room pair) Always [] tokens tokens refl
    (some_token (opens_of pair) ∷ some_token (NumberSort 0) ∷ some_token (closes_of pair) ∷ [], Number 0, between (some_token (opens_of pair)) (some_token (closes_of pair)) refl refl (some_level source room 10))
    (λ others c r same k. other (sym same ∙ ap first k.whole ∙ between_first k.spelled r ∙ ap Some (sym opens)))

-- what stands between the tokens
inner : (source : List ℕ) (room : ℕ) (pair : Pair) (t : Token) (others : List Token) (c : Expr Word) (r : List Token) → BetweenTakes source room pair (t ∷ others) c r →
    (last : Token) × (last.sort ≡ closes_of pair) × LevelTakes source room 10 others c (last ∷ r)
inner source room pair t others c r k =
    let v = between_after k.spelled t others r (sym k.whole) in
    (v.last, v.closes, record { used = v.w; whole = v.whole; spelled = v.inner; stops = ends_closed 10 pair v.last r v.closes })

pub fails_inner : (source : List ℕ) (room : ℕ) (pair : Pair) (s : Sort) (tokens i : List Token) (n : ℕ) → s ≡ opens_of pair → Comes s tokens i → LevelFails source room 10 i n → BetweenFails source room pair tokens n
fails_inner source room pair s tokens i n opens a f =
    fails_behind (SpellsLevel source room 10) (λ _. Ends 10) (SpellsBetween source room pair) Always (a.token ∷ []) i tokens n a.whole f
    (λ v e d. (some_token (closes_of pair) ∷ [], e, between a.token (some_token (closes_of pair)) (a.is ∙ opens) refl d))
    (λ others c r _ same k. let v = inner source room pair a.token others c r k in (c, v.0 ∷ r, v.2))

pub fails_last : (source : List ℕ) (room : ℕ) (pair : Pair) (s z : Sort) (tokens i : List Token) (e : Expr Word) (r : List Token) →
    s ≡ opens_of pair → z ≡ closes_of pair → Comes s tokens i → LevelTakes source room 10 i e r → (first r ≡ Some z → ⊥) → BetweenFails source room pair tokens (length r)
fails_last source room pair s z tokens i e r opens closes a h other =
    fails_here (SpellsBetween source room pair) Always (a.token ∷ h.used) r tokens (a.whole ∙ ap (λ x. a.token ∷ x) h.whole)
    (some_token (closes_of pair) ∷ [], e, between a.token (some_token (closes_of pair)) (a.is ∙ opens) refl h.spelled)
    (λ others c rest same k.
    let v = inner source room pair a.token (h.used ++ others) c rest k in
    let u = unique_level h.spelled v.2.used c others (v.0 ∷ rest) (ends_same 10 others r same h.stops) v.2.spelled v.2.stops v.2.whole in
    other (sym same ∙ ap first u.0 ∙ ap Some (v.1 ∙ sym closes)))

pub ruleset between_steps = (takes_between, fails_first, fails_inner, fails_last)
