-- The open places of a certificate, as the proofs of the bound see them.
use Rattle.std.proofs.Common.{◌≡◌, ◌==◌, ◌&&◌, ℕ, Bool, true, false, nat_le, if◌then◌else◌, reverse, List, [], length, refl, ap, ◌∙◌, arith}
use Rattle.std.proofs.lemmas.Bool.Decides.{nat_tests}
use Rattle.pt_image.specs.Listed.{same_numbers}
use Rattle.pt_image.specs.declared.Parts.{Parts}
use Rattle.tk_cert.specs.declared.cert.Line.{Line}
use Rattle.tk_cert.specs.declared.cert.Line.TheVariants as line
use Rattle.tk_cert.specs.declared.cert.CertParts.{CertParts}
use Rattle.tk_paths.specs.Kinds.{line_at, is_thread, is_cond}
use Rattle.tk_paths.proofs.Conditions.{Thread, Cond, Bare, IsAt, loops_of}
use Rattle.tk_paths.proofs.Conditions as kinds
use Rattle.tk_paths.proofs.Carried.{kind_of, image_of, cert_of, thread-kind}
use Rattle.tk_paths.proofs.Turns.{reverse-none}
use Rattle.tk_paths.specs.Reached.{IsOpen}
use Rattle.tk_paths.proofs.Lines.{numbers-same}

abbrev slot_in : kinds.Line → ℕ
slot_in (Thread s a l) = s
slot_in other = 0

abbrev stack_in : kinds.Line → List ℕ
stack_in (Thread s a l) = a
stack_in other = []

bare-thread : (s : ℕ) (a : List ℕ) → Bare ≡ Thread s a [] → ⊥
bare-thread s a e = cc

kind-thread : (line : Line) (s : ℕ) (a : List ℕ) → kind_of line ≡ Thread s a [] → is_thread s a [] line ≡ true
kind-thread line.Bare s a h = absurd (bare-thread s a h)
kind-thread (line.Thread t b m v) s a h = by (nat_le (length m) 8) h
  where
    by : (c : Bool) → (if c then Thread t b (reverse m) else Bare) ≡ Thread s a [] → is_thread s a [] (line.Thread t b m v) ≡ true
    by true e =
        let e1 : t ≡ s = ap slot_in e in
        let e2 : b ≡ a = ap stack_in e in
        let e3 : m ≡ [] = reverse-none m (ap loops_of e) in
        let same : (s == s) ≡ true = grind (arith, nat_tests) in
        ap (λ x. x == s && same_numbers b a && same_numbers m []) e1 ∙ ap (λ x. x && same_numbers b a && same_numbers m []) same ∙ ap (λ x. same_numbers x a && same_numbers m []) e2
        ∙ ap (λ x. x && same_numbers m []) (numbers-same a) ∙ ap (λ x. same_numbers x []) e3
    by false e = absurd (bare-thread s a e)
kind-thread (line.Routine g l v) s a h = by (nat_le (length l) 8) h
  where
    none : kinds.Routine g (reverse l) ≡ Thread s a [] → ⊥
    none e = cc

    by : (c : Bool) → (if c then kinds.Routine g (reverse l) else Bare) ≡ Thread s a [] → is_thread s a [] (line.Routine g l v) ≡ true
    by true e = absurd (none e)
    by false e = absurd (bare-thread s a e)
kind-thread (line.Cond v) s a h = absurd (none h)
  where
    none : Cond ≡ Thread s a [] → ⊥
    none e = cc

kind-cond : (line : Line) → kind_of line ≡ Cond → is_cond line ≡ true
kind-cond line.Bare h = absurd (none h)
  where
    none : Bare ≡ Cond → ⊥
    none e = cc
kind-cond (line.Thread t b m v) h = by (nat_le (length m) 8) h
  where
    none : Thread t b (reverse m) ≡ Cond → ⊥
    none e = cc

    bare : Bare ≡ Cond → ⊥
    bare e = cc

    by : (c : Bool) → (if c then Thread t b (reverse m) else Bare) ≡ Cond → is_cond (line.Thread t b m v) ≡ true
    by true e = absurd (none e)
    by false e = absurd (bare e)
kind-cond (line.Routine g l v) h = by (nat_le (length l) 8) h
  where
    none : kinds.Routine g (reverse l) ≡ Cond → ⊥
    none e = cc

    bare : Bare ≡ Cond → ⊥
    bare e = cc

    by : (c : Bool) → (if c then kinds.Routine g (reverse l) else Bare) ≡ Cond → is_cond (line.Routine g l v) ≡ true
    by true e = absurd (none e)
    by false e = absurd (bare e)
kind-cond (line.Cond v) h = refl

module _ (image : Parts) (cert : CertParts) (costs : List ℕ) where
  pub open-at : (place s : ℕ) (a : List ℕ) → IsOpen image cert costs place s a → IsAt (image_of image costs) (cert_of image cert costs) place (Thread s a [])
  open-at place s a h = (thread-kind (line_at cert.lines place) s a [] h.0 (omega arith), h.1)

  pub at-open : (place s : ℕ) (a : List ℕ) → IsAt (image_of image costs) (cert_of image cert costs) place (Thread s a []) → IsOpen image cert costs place s a
  at-open place s a h = (kind-thread (line_at cert.lines place) s a h.0, h.1)

  pub at-cond : (place : ℕ) → IsAt (image_of image costs) (cert_of image cert costs) place Cond → is_cond (line_at cert.lines place) ≡ true
  at-cond place h = kind-cond (line_at cert.lines place) h.0
