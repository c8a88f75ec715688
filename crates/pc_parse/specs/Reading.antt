-- What a function answers that reads tokens from the front, for any relation X of lists of tokens and trees.
use Rattle.std.specs.Prelude.{◌≡◌, ℕ, List, [], ◌∷◌, ◌++◌, length}
use Rattle.pc_grammar.specs.declared.tokens.Sort.{Sort}
use Rattle.pc_grammar.specs.declared.tokens.Token.{Token}
use Rattle.pc_parse.specs.declared.reading.Failure.{Failure}
use Rattle.pc_parse.specs.declared.reading.Failure.TheVariants.{Broken, Memory}
use Rattle.pc_grammar.specs.Refusing.{first, IsViable}

-- a token of this sort comes next
pub record Comes (sort : Sort) (ts after : List Token) : Type 0 where
  pub token : Token
  pub whole : ts ≡ token ∷ after
  pub is : token.sort ≡ sort

-- the front of the input spells a, and what comes next doesn't go on with it
pub record Takes {A : Type 0} (X : List Token → A → Type 0) (Stops : A → List Token → Type 0) (input : List Token) (a : A) (rest : List Token) : Type 0 where
  pub used : List Token
  pub whole : input ≡ used ++ rest
  pub spelled : X used a
  pub stops : Stops a rest

-- the tokens before the last `left` can be completed, and with the next one, or the end, no front is taken
pub record Fails {A : Type 0} (X : List Token → A → Type 0) (Stops : A → List Token → Type 0) (input : List Token) (left : ℕ) : Type 0 where
  pub before : List Token
  pub rest : List Token
  pub whole : input ≡ before ++ rest
  pub count : length rest ≡ left
  pub viable : IsViable X before
  pub stuck : (others : List Token) (a : A) (r : List Token) → first others ≡ first rest → Takes X Stops (before ++ others) a r → ⊥

-- anything may come next
abbrev pub Always : {A : Type 0} → A → List Token → Type 0
Always a ts = Unit {0}

-- the input ends here
abbrev pub AtEnd : {A : Type 0} → A → List Token → Type 0
AtEnd a ts = ts ≡ []

-- want of memory says nothing of the tokens
abbrev pub Refuses : (List Token → ℕ → Type 0) → List Token → Failure → Type 0
Refuses F ts (Broken left) = F ts left
Refuses F ts Memory = Unit {0}
