-- The end of a comment, byte by byte.
use Rattle.std.proofs.Common.{◌≡◌, ℕ, suc, ◌+◌, ◌≤◌, ◌&&◌, Bool, true, false, cond, nat_eq, List, [], ◌∷◌, length, Option, Some, None, refl, sym, ap, ◌∙◌, arith}
use Rattle.std.specs.Option.{option_map}
use Rattle.pc_grammar.specs.Lexing.{begins, closed_in}

-- what comes of the rest comes of the whole, so many bytes on
pub record SoFar (bytes : List ℕ) (count : ℕ) (rest : List ℕ) : Type 0 where
  pub counted : count + length rest ≡ length bytes
  pub whole : option_map (λ n. count + n) (closed_in rest) ≡ closed_in bytes

later : (count : ℕ) (o : Option ℕ) → option_map (λ n. count + n) (option_map suc o) ≡ option_map (λ n. count + 1 + n) o
later count None = refl
later count (Some n) = ap Some (omega arith)

same : (o : Option ℕ) → option_map (λ n. 0 + n) o ≡ o
same None = refl
same (Some n) = ap Some (omega arith)

pub so_far_begins : (bytes : List ℕ) → SoFar bytes 0 bytes
so_far_begins bytes = record { counted = omega arith; whole = same (closed_in bytes) }

pub so_far_goes_on : (bytes : List ℕ) (count : ℕ) (rest : List ℕ) (b : ℕ) (tail : List ℕ) → SoFar bytes count rest → rest ≡ b ∷ tail → (nat_eq b 42 && begins 47 tail) ≡ false → SoFar bytes (count + 1) tail
so_far_goes_on bytes count rest b tail s eq h = record {
  counted = omega (arith, s.counted, ap length eq);
  whole = sym (later count (closed_in tail)) ∙ ap (λ t. option_map (λ n. count + n) (cond t (Some 2) (option_map suc (closed_in tail)))) (sym h) ∙ ap (λ x. option_map (λ n. count + n) (closed_in x)) (sym eq) ∙ s.whole;
}

pub so_far_ends : (bytes : List ℕ) (count : ℕ) (rest : List ℕ) (b : ℕ) (tail : List ℕ) → SoFar bytes count rest → rest ≡ b ∷ tail → (nat_eq b 42 && begins 47 tail) ≡ true → Some (count + 2) ≡ closed_in bytes
so_far_ends bytes count rest b tail s eq h =
    ap (λ t. option_map (λ n. count + n) (cond t (Some 2) (option_map suc (closed_in tail)))) (sym h) ∙ ap (λ x. option_map (λ n. count + n) (closed_in x)) (sym eq) ∙ s.whole

pub so_far_none : (bytes : List ℕ) (count : ℕ) (rest : List ℕ) → SoFar bytes count rest → rest ≡ [] → Option.None ≡ closed_in bytes
so_far_none bytes count rest s eq = ap (λ x. option_map (λ n. count + n) (closed_in x)) (sym eq) ∙ s.whole

begins-within : (c : ℕ) (tail : List ℕ) → begins c tail ≡ true → 1 ≤ length tail
begins-within c [] h = cc
begins-within c (d ∷ ds) h = omega arith

both-second : (p q : Bool) → (p && q) ≡ true → q ≡ true
both-second true q h = h
both-second false q h = cc

pub so_far_within : (bytes : List ℕ) (count : ℕ) (rest : List ℕ) (b : ℕ) (tail : List ℕ) → SoFar bytes count rest → rest ≡ b ∷ tail → (nat_eq b 42 && begins 47 tail) ≡ true → count + 2 ≤ length bytes
so_far_within bytes count rest b tail s eq h = omega (arith, s.counted, ap length eq, begins-within 47 tail (both-second (nat_eq b 42) (begins 47 tail) h))

pub ruleset closing_steps = (so_far_begins, so_far_goes_on, so_far_ends, so_far_none, so_far_within)
