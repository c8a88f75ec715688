-- Texts one after another.
use Rattle.std.proofs.Common.{◌≡◌, ℕ, suc, ◌+◌, List, ◌++◌, refl, sym, ap, ◌∙◌, append_assoc, arith}
use Rattle.pc_print.specs.Generated.{counted}

pub ruleset joined = (append_assoc)

-- one text more goes behind those before it
pub counted-more : (text : ℕ → List ℕ) (i : ℕ) (out new start : List ℕ) → new ≡ out ++ text (i + 1) → out ≡ start ++ counted text i → new ≡ start ++ counted text (i + 1)
counted-more text i out new start pushed h =
    let e : i + 1 ≡ suc i = omega arith in
    pushed
    ∙ ap (λ l. l ++ text (i + 1)) h
    ∙ append_assoc start (counted text i) (text (i + 1))
    ∙ ap (λ k. start ++ (counted text i ++ text k)) e
    ∙ ap (λ k. start ++ counted text k) (sym e)

-- three texts, one after another
pub three : (start a b c one two : List ℕ) → one ≡ start ++ a → two ≡ one ++ b → two ++ c ≡ start ++ ((a ++ b) ++ c)
three start a b c one two h g = ap (λ l. l ++ c) (g ∙ ap (λ l. l ++ b) h ∙ append_assoc start a b) ∙ append_assoc start (a ++ b) c
