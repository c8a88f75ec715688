-- The place of refusal in a whole list, from what a function of the parser answers.
use Rattle.std.proofs.Common.{◌≡◌, ℕ, ◌<◌, List, [], ◌∷◌, ◌++◌, Option, length, refl, sym, ap, subst, ◌∙◌, append_assoc, append-nil, arith}
use Rattle.pc_grammar.specs.declared.tokens.Token.{Token}
use Rattle.pc_grammar.specs.declared.expressions.Word.{Word}
use Rattle.pc_grammar.specs.declared.expressions.Expr.{Expr}
use Rattle.pc_parse.specs.declared.reading.Failure.{Failure}
use Rattle.pc_parse.specs.declared.reading.Failure.TheVariants.{Broken, Memory}
use Rattle.pc_grammar.specs.Refusing.{first, IsRefused}
use Rattle.pc_parse.specs.Reading.{Takes, Fails, AtEnd, Refuses}
use Rattle.pc_grammar.specs.Expressions.{SpellsLevel}
use Rattle.pc_parse.specs.Expressions.{Ends, LevelTakes, LevelFails}
use Rattle.pc_parse.proofs.Behind.{fails_here}
use Rattle.pc_parse.proofs.Holds.{ends_same, ends_end}
use Rattle.pc_parse.proofs.Unique.{unique_level}

module _ {A : Type 0} (X : List Token → A → Type 0) where
  all_of : (ts : List Token) (a : A) → X ts a → Takes X AtEnd ts a []
  all_of ts a x = record { used = ts; whole = sym (append-nil ts); spelled = x; stops = refl }

  -- where a whole list fails, that is its place of refusal
  pub refused_where : (ts : List Token) (left : ℕ) → Fails X AtEnd ts left → IsRefused X ts left
  refused_where ts left f = record {
    before = f.before;
    rest = f.rest;
    whole = f.whole;
    count = f.count;
    viable = f.viable;
    here = λ t more eq v. f.stuck (t ∷ v.0) v.1 [] (ap first (sym eq)) (all_of (f.before ++ t ∷ v.0) v.1 (subst (λ x. X x v.1) (append_assoc f.before (t ∷ []) v.0) v.2));
    none = λ a x. f.stuck f.rest a [] refl (subst (λ y. Takes X AtEnd y a []) f.whole (all_of ts a x));
  }

end_ends : (level : ℕ) (r : List Token) → r ≡ [] → Ends level r
end_ends level r eq = subst (Ends level) (sym eq) (ends_end level)

whole_fails : (source : List ℕ) (room level : ℕ) (ts : List Token) (left : ℕ) → LevelFails source room level ts left → Fails (SpellsLevel source room level) AtEnd ts left
whole_fails source room level ts left f = record {
  before = f.before;
  rest = f.rest;
  whole = f.whole;
  count = f.count;
  viable = f.viable;
  stuck = λ others a r same t. f.stuck others a r same (record { used = t.used; whole = t.whole; spelled = t.spelled; stops = end_ends level r t.stops });
}

some_first : (l : List Token) → 0 < length l → first l ≡ Option.None → ⊥
some_first [] less eq = absurd (omega arith)
some_first (t ∷ l) less eq = cc

empty : (l : List Token) → length l ≡ 0 → l ≡ []
empty [] eq = refl
empty (t ∷ l) eq = absurd (omega arith)

pub whole_spelled : (source : List ℕ) (room level : ℕ) (ts : List Token) (e : Expr Word) (rest : List Token) → LevelTakes source room level ts e rest → length rest ≡ 0 → SpellsLevel source room level ts e
whole_spelled source room level ts e rest h nothing = subst (λ x. SpellsLevel source room level x e) (sym (h.whole ∙ ap (λ x. h.used ++ x) (empty rest nothing) ∙ append-nil h.used)) h.spelled

-- what comes after a whole expression is refused
pub refused_behind : (source : List ℕ) (room level : ℕ) (ts : List Token) (e : Expr Word) (rest : List Token) → LevelTakes source room level ts e rest → 0 < length rest → IsRefused (SpellsLevel source room level) ts (length rest)
refused_behind source room level ts e rest h some = refused_where (SpellsLevel source room level) ts (length rest)
    (fails_here (SpellsLevel source room level) AtEnd h.used rest ts h.whole
    ([], e, subst (λ x. SpellsLevel source room level x e) (sym (append-nil h.used)) h.spelled)
    (λ others a r same t.
    let u = unique_level h.spelled t.used a others r (ends_same level others rest same h.stops) t.spelled (end_ends level r t.stops) t.whole in
    some_first rest some (sym same ∙ ap first (u.0 ∙ t.stops))))

pub refused_in : (source : List ℕ) (room level : ℕ) (ts : List Token) (f : Failure) → Refuses (LevelFails source room level) ts f → Refuses (IsRefused (SpellsLevel source room level)) ts f
refused_in source room level ts (Broken left) f = refused_where (SpellsLevel source room level) ts left (whole_fails source room level ts left f)
refused_in source room level ts Memory f = tt

pub ruleset whole_steps = (whole_spelled, refused_behind, refused_in)
