-- The numbers where codes begin, piece by piece.
use Rattle.std.proofs.Common.{◌≡◌, ◌≤◌, ◌<◌, ◌+◌, ◌-◌, ℕ, suc, length, get_or, drop, drop-cons, List, [], ◌∷◌, Option, Some, None, refl, sym, ap, ◌∙◌, arith}
use mathlib.Core.Path.{fun_ext, ap₂}
use Rattle.mb_isa.specs.declared.Class.TheVariants as class
use Rattle.pt_image.specs.declared.Parts.{Parts}
use Rattle.tk_paths.specs.declared.view.Side.{Side}
use Rattle.tk_paths.specs.Sums.{plus, all_ends, most_paused}
use Rattle.tk_paths.specs.Codes.{Code, Either, Turns, Resting, Forking, Guarded, exit}
use Rattle.tk_paths.specs.Numbers.{Numbers, Handler, cost, nothing, after, branched, jumping, testing, rested, left, with_abort, entered}
use Rattle.tk_paths.specs.Trees.{codes_from}
use Rattle.tk_paths.specs.Levels.{added, dearer, branching}
use Rattle.tk_threads.specs.Codes.{pausing, forking, entered_all}

-- the part before what is left
pub front : {A : Type 0} (all : List A) (i : ℕ) (x : A) → 1 ≤ i → i ≤ length all → x ≡ get_or all (i - 1) x → drop (i - 1) all ≡ x ∷ drop i all
front {A} all i x p q is =
    let here : i - 1 < length all = omega arith in
    let next : suc (i - 1) ≡ i = omega arith in
    drop-cons all (i - 1) x here ∙ ap₂ (λ (y : A) (rest : List A). y ∷ rest) (sym is) (ap (λ j. drop j all) next)

-- no cycles before what comes behind
no-more : (o : Option ℕ) → plus (Some 0) o ≡ o
no-more None = refl
no-more (Some n) = let e : 0 + n ≡ n = omega arith in ap (λ m. Some m) e

pub after-nothing : (V : Numbers) → after 0 V ≡ V
after-nothing V = fun_ext (λ view. no-more (V view))

module _ (image : Parts) (costs : List ℕ) where
  pub branching-is : (V W : Numbers) → branching costs V W ≡ branched image costs V W
  unfolding branching dearer
  branching-is V W = refl

  module _ (starts : Side → ℕ → Option ℕ) where
    pub forking-is : (aborts : List Handler) (lo n : ℕ) (V R S G : Numbers) →
        R ≡ rested image costs aborts → S ≡ added (most_paused starts lo n) R → G ≡ added (all_ends starts lo n) V →
        after (cost image costs class.Fork) (dearer S G) ≡ forking image costs starts aborts lo n V
    unfolding forking dearer added
    forking-is aborts lo n V R S G r s g =
        ap₂ (λ S G. after (cost image costs class.Fork) (dearer S G)) (s ∙ ap (added (most_paused starts lo n)) r) g

    pub pausing-is : (aborts : List Handler) (p : ℕ) (V : Numbers) → pausing image costs aborts ≡ entered image costs starts aborts (Resting p) V
    unfolding pausing
    pausing-is aborts p V = refl

    pub forking-is-entered : (aborts : List Handler) (p lo n : ℕ) (V : Numbers) →
        forking image costs starts aborts lo n V ≡ entered image costs starts aborts (Forking p lo n) V
    unfolding forking
    forking-is-entered aborts p lo n V = refl

    -- codes one behind the other
    pub entered-all : (aborts : List Handler) (q : ℕ) (codes : List Code) (V : Numbers) →
        entered image costs starts aborts (codes_from q codes) V ≡ entered_all image costs starts aborts codes V
    entered-all aborts q [] V = after-nothing V
    entered-all aborts q (c ∷ codes) V = ap (entered image costs starts aborts c) (entered-all aborts q codes V)

    pub entered-either : (aborts : List Handler) (p n at : ℕ) (x y : Code) (V J A B : Numbers) →
        J ≡ jumping image costs (exit x) V → A ≡ entered image costs starts aborts x J → B ≡ entered image costs starts aborts y V →
        testing image costs p n at (branched image costs A B) ≡ entered image costs starts aborts (Either p n at x y) V
    entered-either aborts p n at x y V J A B j a b =
        ap₂ (λ (A B : Numbers). testing image costs p n at (branched image costs A B)) (a ∙ ap (entered image costs starts aborts x) j) b

    pub entered-turns : (aborts : List Handler) (p n at : ℕ) (body : Code) (q : ℕ) (V N A : Numbers) →
        N ≡ nothing → A ≡ entered image costs starts aborts body N →
        testing image costs p n at (branched image costs A V) ≡ entered image costs starts aborts (Turns p n at body q) V
    entered-turns aborts p n at body q V N A e a =
        ap (λ (A : Numbers). testing image costs p n at (branched image costs A V)) (a ∙ ap (entered image costs starts aborts body) e)

    pub entered-guarded : (aborts inner : List Handler) (p j : ℕ) (body : Code) (V L B : Numbers) →
        inner ≡ with_abort image costs aborts j V → L ≡ left image costs aborts V → B ≡ entered image costs starts inner body L →
        after (cost image costs class.Abrt) B ≡ entered image costs starts aborts (Guarded p j body) V
    entered-guarded aborts inner p j body V L B i l b =
        ap (after (cost image costs class.Abrt)) (b ∙ ap₂ (λ inner L. entered image costs starts inner body L) i l)
