-- A failure behind a front that was read is a failure of the whole.
use Rattle.std.proofs.Common.{◌≡◌, ℕ, List, [], ◌∷◌, ◌++◌, length, refl, sym, ap, subst, ◌∙◌, append_assoc}
use Rattle.pc_grammar.specs.declared.tokens.Token.{Token}
use Rattle.pc_grammar.specs.Refusing.{first, IsViable}
use Rattle.pc_parse.specs.Reading.{Takes, Fails}

-- what comes next is the same if the input goes on with the same token
pub first_after : (u a b : List Token) → first a ≡ first b → first (u ++ a) ≡ first (u ++ b)
first_after [] a b eq = eq
first_after (t ∷ u) a b eq = refl

-- what begins so can be completed, in the language of the whole
module _ {A B : Type 0} (Y : List Token → A → Type 0) (T : A → List Token → Type 0) (Z : List Token → B → Type 0) (U : B → List Token → Type 0) where
  longer : (u v more : List Token) → IsViable Z (u ++ (v ++ more)) → IsViable Z (u ++ v)
  longer u v more k = (more ++ k.0, k.1, subst (λ x. Z x k.1) (append_assoc u (v ++ more) k.0 ∙ ap (λ x. u ++ x) (append_assoc v more k.0) ∙ sym (append_assoc u v (more ++ k.0))) k.2)

  pub fails_behind : (u j i : List Token) (n : ℕ) → i ≡ u ++ j → Fails Y T j n →
      -- whatever is read behind the front goes on to a whole
      ((v : List Token) (b : A) → Y v b → IsViable Z (u ++ v)) →
      -- a whole that is read has such a part behind the front
      ((others : List Token) (c : B) (r : List Token) → first (u ++ others) ≡ first i → first others ≡ first j → Takes Z U (u ++ others) c r → (b : A) × (left : List Token) × Takes Y T others b left) →
      Fails Z U i n
  fails_behind u j i n eq f up down = record {
    before = u ++ f.before;
    rest = f.rest;
    whole = eq ∙ ap (λ x. u ++ x) f.whole ∙ sym (append_assoc u f.before f.rest);
    count = f.count;
    viable = longer u f.before f.viable.0 (up (f.before ++ f.viable.0) f.viable.1 f.viable.2);
    stuck = λ others c r same t.
        let at : first (f.before ++ others) ≡ first j = first_after f.before others f.rest same ∙ ap first (sym f.whole) in
        let k = down (f.before ++ others) c r (first_after u (f.before ++ others) j at ∙ ap first (sym eq)) at (subst (λ x. Takes Z U x c r) (append_assoc u f.before others) t) in
        f.stuck others k.0 k.1 same k.2;
  }

-- where the front can be completed, and with what comes next nothing is taken
pub fails_here : {B : Type 0} (Z : List Token → B → Type 0) (U : B → List Token → Type 0) (u r i : List Token) → i ≡ u ++ r → IsViable Z u →
    ((others : List Token) (c : B) (end : List Token) → first others ≡ first r → Takes Z U (u ++ others) c end → ⊥) → Fails Z U i (length r)
fails_here Z U u r i eq viable stuck = record { before = u; rest = r; whole = eq; count = refl; viable = viable; stuck = stuck }
