-- Answers that are fitted one by one.
use Rattle.std.proofs.Common.{◌≡◌, ℕ, ◌+◌, ◌-◌, ◌<◌, ◌≤◌, ◌++◌, zero, suc, Bool, false, List, [], ◌∷◌, drop, slice_index_or, refl, sym, ap, ◌∙◌, append_assoc, arith}
use Rattle.tk_paths.specs.Choices.{fitted}

first-suc : (k : ℕ) (f : List Bool) (i : ℕ) → fitted (suc k) (drop i f) ≡ slice_index_or f i false ∷ fitted k (drop (suc i) f)
first-suc k [] zero = refl
first-suc k [] (suc i) = refl
first-suc k (b ∷ f) zero = refl
first-suc k (b ∷ f) (suc i) = first-suc k f i

-- one more of them
pub fit_step : (done : List Bool) (level i : ℕ) (f : List Bool) → i < level →
    (done ++ slice_index_or f i false ∷ []) ++ fitted (level - (i + 1)) (drop (i + 1) f) ≡ done ++ fitted (level - i) (drop i f)
fit_step done level i f h =
    let e : level - i ≡ suc (level - (i + 1)) = omega (arith, h) in
    let s : suc i ≡ i + 1 = omega arith in
    append_assoc done (slice_index_or f i false ∷ []) (fitted (level - (i + 1)) (drop (i + 1) f))
    ∙ ap (λ l. done ++ l)
    (sym (ap (λ n. fitted n (drop i f)) e ∙ first-suc (level - (i + 1)) f i ∙ ap (λ n. slice_index_or f i false ∷ fitted (level - (i + 1)) (drop n f)) s))

-- none is left
pub fit_end : (done : List Bool) (level i : ℕ) (f : List Bool) → level ≤ i → done ++ fitted (level - i) (drop i f) ≡ done
fit_end done level i f h = let e : level - i ≡ 0 = omega (arith, h) in ap (λ n. done ++ fitted n (drop i f)) e ∙ append-none done
  where
    append-none : (l : List Bool) → l ++ [] ≡ l
    append-none [] = refl
    append-none (b ∷ l) = ap (λ z. b ∷ z) (append-none l)

pub ruleset fits = (fit_step, fit_end)
