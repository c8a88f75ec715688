-- What is worked out of the functions in order, up to a bound.
use Rattle.std.proofs.Common.{◌≡◌, ℕ, zero, suc, ◌<◌, min, map, length, take, get_or, List, [], ◌∷◌, ◌++◌, refl, sym, ap, ◌∙◌, arith}
use Rattle.std.proofs.lemmas.List.{map-append}
use Rattle.std.proofs.Math.Seq.{take-suc}
use Rattle.pc_grammar.specs.declared.typed.Function.{Function}
use Rattle.pc_rules.specs.Known.{known_of, each_given}

pub known_bounded : (c : ℕ) (known : List ℕ) (f : ℕ) → min c (known_of known f) ≡ min c (known_of (map (min c) known) f)
known_bounded c [] f = refl
known_bounded c (n ∷ known) zero = omega arith
known_bounded c (n ∷ known) (suc f) = known_bounded c known f

-- up to a bound it comes from what is known up to the bound
abbrev pub IsBounded : ℕ → (List ℕ → Function → ℕ) → Type 0
IsBounded c of = (known : List ℕ) (f : Function) → min c (of known f) ≡ min c (of (map (min c) known) f)

each_given-push : (of : List ℕ → Function → ℕ) (known : List ℕ) (functions : List Function) (f : Function) →
    each_given of known (functions ++ f ∷ []) ≡ each_given of known functions ++ of (each_given of known functions) f ∷ []
each_given-push of known [] f = refl
each_given-push of known (g ∷ functions) f = each_given-push of (known ++ of known g ∷ []) functions f

-- one more function
pub one_more : (c : ℕ) (of : List ℕ → Function → ℕ) → IsBounded c of → (functions : List Function) (i : ℕ) (f : Function) (known : List ℕ) → f ≡ get_or functions i f → i < length functions →
    known ≡ map (min c) (each_given of [] (take i functions)) →
    known ++ min c (of known f) ∷ [] ≡ map (min c) (each_given of [] (take (suc i) functions))
one_more c of bounded functions i f known is within so_far =
    let before = each_given of [] (take i functions) in
    ap (λ k. k ++ min c (of k f) ∷ []) so_far
    ∙ ap (λ n. map (min c) before ++ n ∷ []) (sym (bounded before f))
    ∙ sym (map-append (min c) before (of before f ∷ []))
    ∙ ap (map (min c)) (sym (each_given-push of [] (take i functions) f))
    ∙ ap (λ g. map (min c) (each_given of [] (take i functions ++ g ∷ []))) is
    ∙ ap (λ l. map (min c) (each_given of [] l)) (sym (take-suc functions i f within))
