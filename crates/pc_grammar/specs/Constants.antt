-- Which tokens spell the word that a cell starts with: docs/language.md, "Items".
use Rattle.std.specs.Prelude.{◌≡◌, ℕ, ℤ, pos, neg_ℤ, List, [], ◌∷◌}
use Rattle.pt_base.specs.Operators.{word_of}
use Rattle.pc_grammar.specs.declared.tokens.Sort.TheVariants.{Number, Equals, Minus, Semicolon}
use Rattle.pc_grammar.specs.declared.tokens.Token.{Token}

-- `n ;`
pub data SpellsEnded : List Token → ℕ → Type 0 where
  ended : {value : ℕ} (n z : Token) → n.sort ≡ Number value → z.sort ≡ Semicolon → SpellsEnded (n ∷ z ∷ []) value

-- `= n ;` is the word of n, and `= - n ;` that of -n, modulo 2^32
pub data SpellsStart : List Token → ℤ → Type 0 where
  positive : {w : List Token} {value : ℕ} (a : Token) → a.sort ≡ Equals → SpellsEnded w value → SpellsStart (a ∷ w) (word_of (pos value))
  negative : {w : List Token} {value : ℕ} (a m : Token) → a.sort ≡ Equals → m.sort ≡ Minus → SpellsEnded w value → SpellsStart (a ∷ m ∷ w) (word_of (neg_ℤ (pos value)))
