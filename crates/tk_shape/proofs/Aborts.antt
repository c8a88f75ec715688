-- The aborts of a slot, one after another.
use Rattle.std.proofs.Common.{◌≡◌, ℕ, ◌<◌, ◌≤◌, ◌+◌, suc, zero, Bool, true, false, ◌&&◌, nat_lt, List, [], ◌∷◌, ◌++◌, take, drop, length, slice_get, slice_index_or, Option, Some, None, refl, sym, ap, ◌∙◌, subst, arith}
use Rattle.std.proofs.lemmas.Bool.{false≢true}
use Rattle.std.proofs.lemmas.Bool.Decides.{nat_tests}
use Rattle.std.proofs.Math.Seq.{drop-cons}
use Rattle.pt_image.specs.declared.AbortLine.{AbortLine}
use Rattle.pt_image.specs.declared.Parts.{Parts}
use Rattle.tk_cert.specs.declared.cert.CertParts.{CertParts}
use Rattle.tk_paths.specs.Kinds.{line_at, is_thread, is_cond, abort_at, no_abort}
use Rattle.tk_paths.specs.Shape.{aborts_are_shaped}
use Rattle.tk_shape.specs.Calling.{line_is_fit, abort_is_shaped}

take-suc : (l : List ℕ) (d : ℕ) → d < length l → take (suc d) l ≡ take d l ++ slice_index_or l d 0 ∷ []
take-suc [] d h = absurd (omega (arith, h))
take-suc (x ∷ l) zero h = refl
take-suc (x ∷ l) (suc d) h = ap (λ t. x ∷ t) (take-suc l d (omega (arith, h)))

take-more : (l : List ℕ) (d : ℕ) → d < length l → take (d + 1) l ≡ take d l ++ slice_index_or l d 0 ∷ []
take-more l d h = let n : d + 1 ≡ suc d = omega arith in ap (λ m. take m l) n ∙ take-suc l d h

both-ways : (aborts : List AbortLine) (j : ℕ) (cert : CertParts) (slot : ℕ) (outside : List ℕ) →
    (nat_lt j (length aborts) && is_cond (line_at cert.lines ((slice_index_or aborts j no_abort).cond)) && is_thread slot outside [] (line_at cert.lines ((slice_index_or aborts j no_abort).handler))) ≡ line_is_fit cert slot outside (slice_get aborts j)
both-ways [] j cert slot outside = let e : nat_lt j 0 ≡ false = grind (arith, nat_tests) in ap (λ b. b && is_cond (line_at cert.lines 0) && is_thread slot outside [] (line_at cert.lines 0)) e
both-ways (l ∷ aborts) zero cert slot outside = let e : nat_lt 0 (length (l ∷ aborts)) ≡ true = grind (arith, nat_tests) in ap (λ b. b && is_cond (line_at cert.lines l.cond) && is_thread slot outside [] (line_at cert.lines l.handler)) e
both-ways (l ∷ aborts) (suc j) cert slot outside =
    let e : nat_lt (suc j) (length (l ∷ aborts)) ≡ nat_lt j (length aborts) = grind (arith, nat_tests) in
    ap (λ b. b && is_cond (line_at cert.lines ((slice_index_or aborts j no_abort).cond)) && is_thread slot outside [] (line_at cert.lines ((slice_index_or aborts j no_abort).handler))) e ∙ both-ways aborts j cert slot outside

step : (image : Parts) (cert : CertParts) (slot : ℕ) (stack : List ℕ) (d : ℕ) → d < length stack →
    aborts_are_shaped image cert slot (take d stack) (drop d stack) ≡ (abort_is_shaped image cert slot (take d stack) (slice_index_or stack d 0) && aborts_are_shaped image cert slot (take (d + 1) stack) (drop (d + 1) stack))
step image cert slot stack d h =
    let j = slice_index_or stack d 0 in
    let rest = drop (d + 1) stack in
    let n : suc d ≡ d + 1 = omega arith in
    let c : drop d stack ≡ j ∷ rest = drop-cons stack d 0 h ∙ ap (λ m. j ∷ drop m stack) n in
    ap (aborts_are_shaped image cert slot (take d stack)) c
    ∙ ap (λ b. b && aborts_are_shaped image cert slot (take d stack ++ j ∷ []) rest) (both-ways image.aborts j cert slot (take d stack))
    ∙ ap (λ t. abort_is_shaped image cert slot (take d stack) j && aborts_are_shaped image cert slot t rest) (sym (take-more stack d h))

pub aborts_past : (image : Parts) (cert : CertParts) (slot : ℕ) (stack : List ℕ) (d : ℕ) (whole : Bool) → d < length stack → whole ≡ aborts_are_shaped image cert slot (take d stack) (drop d stack) →
    abort_is_shaped image cert slot (take d stack) (slice_index_or stack d 0) ≡ true → whole ≡ aborts_are_shaped image cert slot (take (d + 1) stack) (drop (d + 1) stack)
aborts_past image cert slot stack d whole h w e = w ∙ step image cert slot stack d h ∙ ap (λ b. b && aborts_are_shaped image cert slot (take (d + 1) stack) (drop (d + 1) stack)) e

pub aborts_at : (image : Parts) (cert : CertParts) (slot : ℕ) (stack : List ℕ) (d : ℕ) (whole : Bool) → d < length stack → whole ≡ aborts_are_shaped image cert slot (take d stack) (drop d stack) →
    abort_is_shaped image cert slot (take d stack) (slice_index_or stack d 0) ≡ false → whole ≡ false
aborts_at image cert slot stack d whole h w e = w ∙ step image cert slot stack d h ∙ ap (λ b. b && aborts_are_shaped image cert slot (take (d + 1) stack) (drop (d + 1) stack)) e

drop-all : (l : List ℕ) (d : ℕ) → length l ≤ d → drop d l ≡ []
drop-all [] zero h = refl
drop-all [] (suc d) h = refl
drop-all (x ∷ l) zero h = absurd (omega (arith, h))
drop-all (x ∷ l) (suc d) h = drop-all l d (omega (arith, h))

pub aborts_end : (image : Parts) (cert : CertParts) (slot : ℕ) (stack : List ℕ) (d : ℕ) → length stack ≤ d → aborts_are_shaped image cert slot (take d stack) (drop d stack) ≡ true
aborts_end image cert slot stack d h = ap (aborts_are_shaped image cert slot (take d stack)) (drop-all stack d h)
