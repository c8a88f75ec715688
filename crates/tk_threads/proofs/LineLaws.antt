-- The lines of a code, piece by piece, in front of others.
use Rattle.std.proofs.Common.{◌≡◌, ◌++◌, ℕ, List, [], ◌∷◌, Option, refl, sym, ap, ◌∙◌, append_assoc}
use mathlib.Core.Path.{ap₂}
use Rattle.mb_isa.specs.declared.Class.TheVariants as class
use Rattle.pt_image.specs.declared.Parts.{Parts}
use Rattle.tk_cert.specs.declared.cert.Line.{Line}
use Rattle.tk_paths.specs.declared.view.Side.{Side}
use Rattle.tk_paths.specs.Codes.{Code, Either, Turns, Forever, Guarded, exit}
use Rattle.tk_paths.specs.Numbers.{Kind, thread, stack_of, Numbers, Handler, cost, nothing, line, after, branched, jumping, testing}
use Rattle.tk_paths.specs.Numbers.{test_lines, jump_lines, left, with_abort, entered, code_lines, code_weights}
use Rattle.tk_paths.specs.Trees.{codes_from}
use Rattle.tk_threads.specs.Codes.{entered_all, lines_all, weights_all}
use Rattle.tk_threads.proofs.EntranceLaws.{entered-all, entered-turns, entered-guarded}

four-parts : {A : Type 0} (a b c d old : List A) → (((a ++ b) ++ c) ++ d) ++ old ≡ a ++ (b ++ (c ++ (d ++ old)))
four-parts a b c d old = simp append_assoc

three-parts : {A : Type 0} (a b c old : List A) → ((a ++ b) ++ c) ++ old ≡ a ++ (b ++ (c ++ old))
three-parts a b c old = simp append_assoc

module _ (image : Parts) (costs : List ℕ) (starts : Side → ℕ → Option ℕ) (s : ℕ) where
  pub lines-all : (aborts : List Handler) (q : ℕ) (codes : List Code) (V : Numbers) →
      code_lines image costs starts s aborts (codes_from q codes) V ≡ lines_all image costs starts s aborts codes V
  lines-all aborts q [] V = refl
  lines-all aborts q (c ∷ codes) V =
      ap₂ (λ (V : Numbers) (rest : List Line). code_lines image costs starts s aborts c V ++ rest)
      (entered-all image costs starts aborts q codes V) (lines-all aborts q codes V)

  -- one code more in front
  pub lines-more : (aborts : List Handler) (c : Code) (codes : List Code) (V W : Numbers) (old M N : List Line) →
      W ≡ entered_all image costs starts aborts codes V → M ≡ lines_all image costs starts s aborts codes V ++ old →
      N ≡ code_lines image costs starts s aborts c W ++ M → N ≡ lines_all image costs starts s aborts (c ∷ codes) V ++ old
  lines-more aborts c codes V W old M N w m n =
      n ∙ ap₂ (λ (W : Numbers) (M : List Line). code_lines image costs starts s aborts c W ++ M) w m
      ∙ sym (append_assoc (code_lines image costs starts s aborts c (entered_all image costs starts aborts codes V)) (lines_all image costs starts s aborts codes V) old)

  pub lines-either : (aborts : List Handler) (p n at : ℕ) (x y : Code) (V J A B : Numbers) (old M1 M2 M3 M4 : List Line) →
      J ≡ jumping image costs (exit x) V → A ≡ entered image costs starts aborts x J → B ≡ entered image costs starts aborts y V →
      M1 ≡ code_lines image costs starts s aborts y V ++ old → M2 ≡ jump_lines image costs (thread s (stack_of aborts) []) (exit x) V ++ M1 →
      M3 ≡ code_lines image costs starts s aborts x J ++ M2 →
      M4 ≡ test_lines image costs (thread s (stack_of aborts) []) p n at (branched image costs A B) ++ M3 →
      M4 ≡ code_lines image costs starts s aborts (Either p n at x y) V ++ old
  lines-either aborts p n at x y V J A B old M1 M2 M3 M4 j a b m1 m2 m3 m4 =
      let K : Kind = thread s (stack_of aborts) [] in
      let back : Numbers = jumping image costs (exit x) V in
      let T : Numbers → Numbers → List Line = λ A B. test_lines image costs K p n at (branched image costs A B) in
      let X : List Line = code_lines image costs starts s aborts x back in
      let Y : List Line = code_lines image costs starts s aborts y V in
      let Z : List Line = jump_lines image costs K (exit x) V in
      let one : M3 ≡ X ++ (Z ++ (Y ++ old)) =
      m3 ∙ ap₂ (λ (J : Numbers) (m : List Line). code_lines image costs starts s aborts x J ++ m) j (m2 ∙ ap (λ (m : List Line). Z ++ m) m1) in
      m4 ∙ ap₂ (λ (A B : Numbers). T A B ++ M3) (a ∙ ap (entered image costs starts aborts x) j) b
      ∙ ap (λ (m : List Line). T (entered image costs starts aborts x back) (entered image costs starts aborts y V) ++ m) one
      ∙ sym (four-parts (T (entered image costs starts aborts x back) (entered image costs starts aborts y V)) X Z Y old)

  pub lines-turns : (aborts : List Handler) (p n at : ℕ) (body : Code) (q : ℕ) (V N A H J : Numbers) (old M1 M2 M3 : List Line) →
      N ≡ nothing → A ≡ entered image costs starts aborts body N → H ≡ testing image costs p n at (branched image costs A V) →
      J ≡ jumping image costs (exit body) H → M1 ≡ jump_lines image costs (thread s (stack_of aborts) []) (exit body) H ++ old →
      M2 ≡ code_lines image costs starts s aborts body J ++ M1 →
      M3 ≡ test_lines image costs (thread s (stack_of aborts) []) p n at (branched image costs A V) ++ M2 →
      M3 ≡ code_lines image costs starts s aborts (Turns p n at body q) V ++ old
  lines-turns aborts p n at body q V N A H J old M1 M2 M3 none a h j m1 m2 m3 =
      let K : Kind = thread s (stack_of aborts) [] in
      let head : Numbers = entered image costs starts aborts (Turns p n at body q) V in
      let h' : H ≡ head = h ∙ entered-turns image costs starts aborts p n at body q V N A none a in
      let T : Numbers → List Line = λ A. test_lines image costs K p n at (branched image costs A V) in
      let X : List Line = code_lines image costs starts s aborts body (jumping image costs (exit body) head) in
      let Z : List Line = jump_lines image costs K (exit body) head in
      let one : M2 ≡ X ++ (Z ++ old) =
      m2 ∙ ap₂ (λ (J : Numbers) (m : List Line). code_lines image costs starts s aborts body J ++ m) (j ∙ ap (jumping image costs (exit body)) h')
      (m1 ∙ ap (λ (H : Numbers). jump_lines image costs K (exit body) H ++ old) h') in
      m3 ∙ ap (λ (A : Numbers). T A ++ M2) (a ∙ ap (entered image costs starts aborts body) none)
      ∙ ap (λ (m : List Line). T (entered image costs starts aborts body nothing) ++ m) one
      ∙ sym (three-parts (T (entered image costs starts aborts body nothing)) X Z old)

  pub lines-forever : (aborts : List Handler) (body : Code) (q : ℕ) (V N H J : Numbers) (old M1 M2 : List Line) →
      N ≡ nothing → H ≡ entered image costs starts aborts body N → J ≡ jumping image costs (exit body) H →
      M1 ≡ jump_lines image costs (thread s (stack_of aborts) []) (exit body) H ++ old → M2 ≡ code_lines image costs starts s aborts body J ++ M1 →
      M2 ≡ code_lines image costs starts s aborts (Forever body q) V ++ old
  lines-forever aborts body q V N H J old M1 M2 none h j m1 m2 =
      let K : Kind = thread s (stack_of aborts) [] in
      let head : Numbers = entered image costs starts aborts body nothing in
      let h' : H ≡ head = h ∙ ap (entered image costs starts aborts body) none in
      let X : List Line = code_lines image costs starts s aborts body (jumping image costs (exit body) head) in
      let Z : List Line = jump_lines image costs K (exit body) head in
      m2 ∙ ap₂ (λ (J : Numbers) (m : List Line). code_lines image costs starts s aborts body J ++ m) (j ∙ ap (jumping image costs (exit body)) h')
      (m1 ∙ ap (λ (H : Numbers). jump_lines image costs K (exit body) H ++ old) h')
      ∙ sym (append_assoc X Z old)

  pub lines-guarded : (aborts inner : List Handler) (p j : ℕ) (body : Code) (V L B E : Numbers) (old M1 M2 M3 : List Line) →
      inner ≡ with_abort image costs aborts j V → L ≡ left image costs aborts V → B ≡ entered image costs starts inner body L →
      E ≡ after (cost image costs class.Abrt) B → M1 ≡ line (thread s (stack_of inner) []) L ∷ old →
      M2 ≡ code_lines image costs starts s inner body L ++ M1 → M3 ≡ line (thread s (stack_of aborts) []) E ∷ M2 →
      M3 ≡ code_lines image costs starts s aborts (Guarded p j body) V ++ old
  lines-guarded aborts inner p j body V L B E old M1 M2 M3 i l b e m1 m2 m3 =
      let K : Kind = thread s (stack_of aborts) [] in
      let inner' : List Handler = with_abort image costs aborts j V in
      let L' : Numbers = left image costs aborts V in
      let head : Numbers = entered image costs starts aborts (Guarded p j body) V in
      let e' : E ≡ head = e ∙ entered-guarded image costs starts aborts inner p j body V L B i l b in
      let X : List Line = code_lines image costs starts s inner' body L' in
      let last : Line = line (thread s (stack_of inner') []) L' in
      let first : M1 ≡ last ∷ old = m1 ∙ ap₂ (λ (i : List Handler) (L : Numbers). line (thread s (stack_of i) []) L ∷ old) i l in
      let one : M2 ≡ X ++ (last ∷ old) =
      m2 ∙ ap₂ (λ (i : List Handler) (L : Numbers). code_lines image costs starts s i body L ++ M1) i l ∙ ap (λ (m : List Line). X ++ m) first in
      m3 ∙ ap₂ (λ (E : Numbers) (m : List Line). line K E ∷ m) e' (one ∙ sym (append_assoc X (last ∷ []) old))

-- the weights of codes one behind the other
pub weights-all : (image : Parts) (costs : List ℕ) (q : ℕ) (codes : List Code) →
    code_weights image costs (codes_from q codes) ≡ weights_all image costs codes
weights-all image costs q [] = refl
weights-all image costs q (c ∷ codes) = ap (λ (rest : List (ℕ × ℕ)). code_weights image costs c ++ rest) (weights-all image costs q codes)
