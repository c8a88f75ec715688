-- Abort lines: what is read of them is spelled so, and what is spelled so is read.
use Rattle.std.proofs.Common.{◌≡◌, ℕ, ◌^◌, ◌<◌, ◌≤◌, Bool, true, false, cond, eqb, List, [], ◌∷◌, ◌++◌, Some, None, refl, sym, ap, subst, ◌∙◌, append_assoc, inl, inr}
use Rattle.std.proofs.lemmas.Bool.{eqb-true}
use Rattle.pt_base.specs.Spelling.{number_text}
use Rattle.pt_base.specs.Reading.{◌>>=◌, past_at, number_then_at}
use Rattle.pt_base.proofs.Laws.{Reads, Anything, bind_some, some_is, test_some, chosen, past_found}
use Rattle.pt_base.proofs.FieldLaws.{number_then_reads}
use Rattle.pt_image.specs.declared.image.AbortLine.{AbortLine}
use Rattle.pt_image.specs.Text.{strength, abort_text}
use Rattle.pt_image.specs.Reading.{strength_at, abort_at}

strength_found : (bytes : List ℕ) (weak : Bool) (rest : List ℕ) → strength_at bytes ≡ Some (weak, rest) → bytes ≡ strength weak ∷ rest
strength_found [] weak rest e = absurd cc
strength_found (b ∷ bs) weak rest e =
    let P : Bool × List ℕ → Type 0 = λ y. b ∷ bs ≡ strength y.0 ∷ y.1 in
    elim (chosen (eqb b 119) (Some (true, bs)) (cond (eqb b 115) (Some (false, bs)) None) (Some (weak, rest)) e) [
      | inl p ↦ subst P (some_is (true, bs) (weak, rest) p.1) (ap (λ (k : ℕ). k ∷ bs) (eqb-true b 119 p.0))
      | inr p ↦
          let t = test_some (eqb b 115) (Some (false, bs)) (weak, rest) p.1 in
          subst P (some_is (false, bs) (weak, rest) t.1) (ap (λ (k : ℕ). k ∷ bs) (eqb-true b 115 t.0))
    ]

strength_again : (weak : Bool) (rest : List ℕ) → strength_at (strength weak ∷ rest) ≡ Some (weak, rest)
strength_again true rest = refl
strength_again false rest = refl

-- both places lie inside a code of so many words
abbrev pub IsAbortOf : ℕ → AbortLine → Type 0
IsAbortOf code a = (a.cond < code) × (a.handler < code)

abort_found : (code : ℕ) → code ≤ 2 ^ 64 → (bytes : List ℕ) (x : AbortLine) (rest : List ℕ) → abort_at code bytes ≡ Some (x, rest) → IsAbortOf code x × (bytes ≡ abort_text x ++ rest)
unfolding abort_at
abort_found code fits bytes x rest e =
    let w = bind_some (strength_at bytes) (λ weak. past_at 32 weak.1 >>= λ r. number_then_at 32 code r >>= λ c. number_then_at 10 code c.1 >>= λ h. Some (record { weak = weak.0; cond = c.0; handler = h.0 }, h.1)) (x, rest) e in
    let r = bind_some (past_at 32 w.0.1) (λ r. number_then_at 32 code r >>= λ c. number_then_at 10 code c.1 >>= λ h. Some (record { weak = w.0.0; cond = c.0; handler = h.0 }, h.1)) (x, rest) w.2 in
    let c = bind_some (number_then_at 32 code r.0) (λ c. number_then_at 10 code c.1 >>= λ h. Some (record { weak = w.0.0; cond = c.0; handler = h.0 }, h.1)) (x, rest) r.2 in
    let h = bind_some (number_then_at 10 code c.0.1) (λ h. Some (record { weak = w.0.0; cond = c.0.0; handler = h.0 }, h.1)) (x, rest) c.2 in
    let fc = (number_then_reads 32 code fits refl).found r.0 c.0.0 c.0.1 c.1 in
    let fh = (number_then_reads 10 code fits refl).found c.0.1 h.0.0 h.0.1 h.1 in
    let made : AbortLine = record { weak = w.0.0; cond = c.0.0; handler = h.0.0 } in
    let front : bytes ≡ strength w.0.0 ∷ 32 ∷ r.0 = strength_found bytes w.0.0 w.0.1 w.1 ∙ ap (λ (t : List ℕ). strength w.0.0 ∷ t) (past_found 32 w.0.1 r.0 r.1) in
    let tail : r.0 ≡ (number_text 32 c.0.0 ++ number_text 10 h.0.0) ++ h.0.1 = fc.1 ∙ ap (λ (t : List ℕ). number_text 32 c.0.0 ++ t) fh.1 ∙ sym (append_assoc (number_text 32 c.0.0) (number_text 10 h.0.0) h.0.1) in
    let both : bytes ≡ abort_text made ++ h.0.1 = front ∙ ap (λ (t : List ℕ). strength w.0.0 ∷ 32 ∷ t) tail in
    subst (λ (y : AbortLine × List ℕ). IsAbortOf code y.0 × (bytes ≡ abort_text y.0 ++ y.1)) (some_is (made, h.0.1) (x, rest) h.2) ((fc.0, fh.0), both)

abort_again : (code : ℕ) → code ≤ 2 ^ 64 → (x : AbortLine) (rest : List ℕ) → IsAbortOf code x → Anything rest → abort_at code (abort_text x ++ rest) ≡ Some (x, rest)
unfolding abort_at
abort_again code fits x rest is _ =
    let e : abort_text x ++ rest ≡ strength x.weak ∷ 32 ∷ (number_text 32 x.cond ++ (number_text 10 x.handler ++ rest)) = ap (λ (t : List ℕ). strength x.weak ∷ 32 ∷ t) (append_assoc (number_text 32 x.cond) (number_text 10 x.handler) rest) in
    ap (abort_at code) e
    ∙ rw (strength_again x.weak (32 ∷ (number_text 32 x.cond ++ (number_text 10 x.handler ++ rest))), (number_then_reads 32 code fits refl).again x.cond (number_text 10 x.handler ++ rest) is.0 tt, (number_then_reads 10 code fits refl).again x.handler rest is.1 tt) refl

pub abort_reads : (code : ℕ) → code ≤ 2 ^ 64 → Reads (abort_at code) abort_text (IsAbortOf code) Anything
abort_reads code fits = record { found = abort_found code fits; again = abort_again code fits }
