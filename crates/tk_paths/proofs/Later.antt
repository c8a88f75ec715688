-- The numbers of slots, one slot after another.
use Rattle.std.proofs.Common.{◌≡◌, ℕ, zero, suc, ◌+◌, ◌-◌, ◌<◌, ◌≤◌, ◌++◌, List, [], ◌∷◌, replicate, set, length, Option, None, refl, sym, ap, ◌∙◌, arith}
use Rattle.std.proofs.lemmas.List.{append-nil}
use Rattle.pt_image.specs.declared.Parts.{Parts}
use Rattle.tk_cert.specs.declared.cert.Line.{Line}
use Rattle.tk_paths.specs.declared.view.Side.TheVariants.{ToPause, ToEnd}
use Rattle.tk_paths.specs.Programs.{Program}
use Rattle.tk_paths.specs.Programs as programs
use Rattle.tk_paths.specs.Told.{known_from, resumption, slots_from}

-- the slots of a program are told from its lines
pub slots_are : (image : Parts) (costs : List ℕ) (program : Program) (s n : ℕ) →
    slots_from image costs (programs.lines image costs program) s n ≡ programs.slots_from image costs program s n
unfolding slots_from
slots_are image costs program s zero = refl
slots_are image costs program s (suc n) =
    ap (λ (l : List (Option ℕ × Option ℕ)).
    (programs.resumption image costs program (known_from s l) s ToPause, programs.resumption image costs program (known_from s l) s ToEnd) ∷ l)
    (slots_are image costs program (s + 1) n)

set-behind : {X : Type 0} (s : ℕ) (x p : X) (later : List X) → set (replicate (suc s) x ++ later) s p ≡ replicate s x ++ p ∷ later
set-behind zero x p later = refl
set-behind (suc s) x p later = ap (λ l. x ∷ l) (set-behind s x p later)

abbrev none : Option ℕ × Option ℕ
none = (None, None)

-- no slot is to be told
pub none_left : (image : Parts) (costs : List ℕ) (lines : List Line) (s n : ℕ) (known : List (Option ℕ × Option ℕ)) → n ≡ 0 →
    known ≡ replicate (s + n) none → known ≡ replicate s none ++ slots_from image costs lines s n
unfolding slots_from
none_left image costs lines s zero known h k =
    let e : s + zero ≡ s = omega arith in
    k ∙ ap (λ m. replicate m none) e ∙ sym (append-nil (replicate s none))
none_left image costs lines s (suc n) known h k = absurd (omega (arith, h))

-- one slot more is known
more-known : (image : Parts) (costs : List ℕ) (lines : List Line) (s n : ℕ) (known : List (Option ℕ × Option ℕ)) (pause end : Option ℕ) →
    known ≡ known_from s (slots_from image costs lines (s + 1) n) →
    pause ≡ resumption image costs lines known s ToPause → end ≡ resumption image costs lines known s ToEnd →
    set known s (pause, end) ≡ replicate s none ++ slots_from image costs lines s (suc n)
unfolding slots_from
more-known image costs lines s n known pause end k p e =
    let a : s + 1 ≡ suc s = omega arith in
    let later : List (Option ℕ × Option ℕ) = slots_from image costs lines (s + 1) n in
    ap (λ (l : List (Option ℕ × Option ℕ)). set l s (pause, end)) (k ∙ ap (λ m. replicate m none ++ later) a)
    ∙ set-behind s none (pause, end) later
    ∙ ap (λ (x : Option ℕ). replicate s none ++ (x, end) ∷ later) (p ∙ ap (λ (l : List (Option ℕ × Option ℕ)). resumption image costs lines l s ToPause) k)
    ∙ ap (λ (x : Option ℕ). replicate s none ++ (resumption image costs lines (known_from s later) s ToPause, x) ∷ later)
    (e ∙ ap (λ (l : List (Option ℕ × Option ℕ)). resumption image costs lines l s ToEnd) k)

pub one_known : (image : Parts) (costs : List ℕ) (lines : List Line) (s n : ℕ) (known seen : List (Option ℕ × Option ℕ)) (pause end : Option ℕ) → 1 ≤ n →
    seen ≡ known → known ≡ replicate (s + 1) none ++ slots_from image costs lines (s + 1) (n - 1) →
    pause ≡ resumption image costs lines seen s ToPause → end ≡ resumption image costs lines seen s ToEnd →
    set known s (pause, end) ≡ replicate s none ++ slots_from image costs lines s n
one_known image costs lines s n known seen pause end h same k p e =
    let a : suc (n - 1) ≡ n = omega (arith, h) in
    more-known image costs lines s (n - 1) known pause end k
    (p ∙ ap (λ (l : List (Option ℕ × Option ℕ)). resumption image costs lines l s ToPause) same)
    (e ∙ ap (λ (l : List (Option ℕ × Option ℕ)). resumption image costs lines l s ToEnd) same)
    ∙ ap (λ m. replicate s none ++ slots_from image costs lines s m) a

-- where one is to be told, all from it on are unknown
pub unknown : (s n : ℕ) → 1 ≤ n → replicate (s + n) none ≡ replicate ((s + 1) + (n - 1)) none
unknown s n h = let e : s + n ≡ (s + 1) + (n - 1) = omega (arith, h) in ap (λ m. replicate m none) e
