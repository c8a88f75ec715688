-- The answers that a plan gives the aborts of a stack, and of two numbers the greater.
use Rattle.std.proofs.Common.{◌≡◌, ◌+◌, ◌++◌, ◌==◌, ℕ, zero, suc, Bool, true, false, if◌then◌else◌, List, [], ◌∷◌, length, Option, Some, None, refl, sym, ap, ◌∙◌, arith}
use Rattle.std.proofs.lemmas.Bool.{false≢true}
use Rattle.std.proofs.lemmas.Option.{none-some, same_Some}
use Rattle.pt_image.specs.declared.Parts.{Parts}
use Rattle.pt_image.specs.Listed.{same_numbers}
use Rattle.tk_cert.specs.declared.cert.Line.{Line}
use Rattle.tk_cert.specs.declared.cert.Line.TheVariants as lines
use Rattle.tk_paths.specs.declared.view.Side.{Side}
use Rattle.tk_paths.specs.declared.view.Side.TheVariants.{ToPause, ToEnd}
use Rattle.tk_paths.specs.Sums.{greater}
use Rattle.tk_paths.specs.Kinds.{is_thread}
use Rattle.tk_paths.specs.Acceptance.{stack_of}
use Rattle.tk_paths.proofs.Lists.{three_parts}
use Rattle.tk_paths.proofs.Carried.{same-list}
use Rattle.tk_paths.specs.Greatest.{stays}
use Rattle.tk_paths.specs.Choices.{is_second, fitted}
use Rattle.tk_paths.proofs.Flags.{made, falses}

-- the greater of two numbers is the one that is said
pub greater-so : (a b : Option ℕ) (n : ℕ) → greater a b ≡ Some n → (c : Bool) → is_second a b ≡ c → (if c then b else a) ≡ Some n
greater-so None b n h true e = h
greater-so None b n h false e = absurd (false≢true (sym e))
greater-so (Some x) None n h true e = absurd (false≢true e)
greater-so (Some x) None n h false e = h
greater-so (Some x) (Some y) n h c e = by c (sym (ap (λ b. Some (if b then y else x)) e) ∙ h)
  where
    by : (c : Bool) → Some (if c then y else x) ≡ Some n → (if c then Some y else Some x) ≡ Some n
    by true k = k
    by false k = k

pub fitted-size : (k : ℕ) (f : List Bool) → length (fitted k f) ≡ k
fitted-size zero f = refl
fitted-size (suc k) [] = ap suc (fitted-size k [])
fitted-size (suc k) (b ∷ f) = ap suc (fitted-size k f)

pub fitted-same : (k : ℕ) (f : List Bool) → length f ≡ k → fitted k f ≡ f
fitted-same zero [] e = refl
fitted-same zero (b ∷ f) e = absurd (omega (arith, e))
fitted-same (suc k) [] e = absurd (omega (arith, e))
fitted-same (suc k) (b ∷ f) e = ap (λ g. b ∷ g) (fitted-same k f (omega (arith, e)))

pub fitted-one : (k : ℕ) (f : List Bool) → k ≡ length f + 1 → fitted k f ≡ f ++ false ∷ []
fitted-one zero f e = absurd (omega (arith, e))
fitted-one (suc zero) [] e = refl
fitted-one (suc (suc k)) [] e = absurd (omega (arith, e))
fitted-one (suc k) (b ∷ f) e = ap (λ g. b ∷ g) (fitted-one k f (omega (arith, e)))

-- a line's aborts
pub stack-at : (l : Line) (s : ℕ) (a : List ℕ) → is_thread s a [] l ≡ true → stack_of l ≡ a
stack-at lines.Bare s a h = absurd (false≢true h)
stack-at (lines.Thread t b l v) s a h = same-list b a (three_parts (t == s) (same_numbers b a) (same_numbers l []) h).1
stack-at (lines.Routine g l v) s a h = absurd (false≢true h)
stack-at (lines.Cond v) s a h = absurd (false≢true h)

pub by-weak : (b : Bool) (o : Option ℕ) (n : ℕ) → (if b then o else None) ≡ Some n → (b ≡ true) × (o ≡ Some n)
by-weak true o n h = (refl, h)
by-weak false o n h = absurd (none-some n h)

pub stays-is : (side : Side) (n : ℕ) → stays side ≡ Some n → (side ≡ ToPause) × (n ≡ 0)
stays-is ToPause n h = (refl, sym (same_Some 0 n h))
stays-is ToEnd n h = absurd (none-some n h)

module _ (image : Parts) where
  pub fitted-none : (k : ℕ) → fitted k [] ≡ falses image k
  fitted-none zero = refl
  fitted-none (suc k) = ap (λ f. false ∷ f) (fitted-none k)

  pub fitted-join : (g : List Bool) (k n : ℕ) → n ≡ length g + suc k → fitted n (g ++ true ∷ []) ≡ g ++ true ∷ falses image k
  fitted-join [] k zero e = absurd (omega (arith, e))
  fitted-join [] k (suc n) e = let same : n ≡ k = omega (arith, e) in ap (λ f. true ∷ f) (fitted-none n ∙ ap (falses image) same)
  fitted-join (b ∷ g) k zero e = absurd (omega (arith, e))
  fitted-join (b ∷ g) k (suc n) e = ap (λ f. b ∷ f) (fitted-join g k n (omega (arith, e)))

  pub made-none : (f : List Bool) → made image f [] ≡ []
  made-none [] = refl
  made-none (b ∷ f) = refl
