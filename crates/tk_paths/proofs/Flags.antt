-- The entries of an abort stack of which the first ones are old, with flags that say which of these are fired.
use Rattle.std.proofs.Common.{◌≡◌, ◌≤◌, ◌+◌, ◌++◌, ℕ, zero, suc, Bool, true, false, List, [], ◌∷◌, Some, None, refl, ap, arith, length}
use Rattle.std.proofs.lemmas.Bool.{false≢true}
use Rattle.mb_pfu.specs.declared.parts.Watch.{Watch}
use Rattle.mb_pfu.specs.Rows.{relief, relief_with, with_last}
use Rattle.mb_pfu.specs.Unit.{fresh}
use Rattle.pt_image.specs.declared.Parts.{Parts}
use Rattle.tk_paths.specs.Kinds.{abort_at}
use Rattle.tk_paths.proofs.SlotFacts.{without_last}
use Rattle.tk_paths.proofs.Inner.{stack}

module _ (image : Parts) where
  abbrev pub aged_entry : ℕ → Bool → Watch
  aged_entry j fired =
      record { entry = record { number = j; weak = (abort_at image j).weak; cond = (abort_at image j).cond; handler = (abort_at image j).handler; aged = true; fired = fired }; due = false }

  abbrev pub new_entry : ℕ → Watch
  new_entry j = fresh j ((abort_at image j).weak) ((abort_at image j).cond) ((abort_at image j).handler)

  abbrev pub made : List Bool → List ℕ → List Watch
  made f [] = []
  made [] (j ∷ a) = new_entry j ∷ made [] a
  made (b ∷ f) (j ∷ a) = aged_entry j b ∷ made f a

  -- only weak aborts are fired
  abbrev pub AreFlags : List ℕ → List Bool → Type 0
  AreFlags a [] = Unit {0}
  AreFlags [] (b ∷ f) = ⊥
  AreFlags (j ∷ a) (b ∷ f) = (b ≡ true → (abort_at image j).weak ≡ true) × AreFlags a f

  abbrev pub falses : ℕ → List Bool
  falses zero = []
  falses (suc k) = false ∷ falses k

  pub falses-length : (k : ℕ) → length (falses k) ≡ k
  falses-length zero = refl
  falses-length (suc k) = ap suc (falses-length k)

  pub falses-flags : (k : ℕ) (a : List ℕ) → k ≤ length a → AreFlags a (falses k)
  falses-flags zero a h = tt
  falses-flags (suc k) [] h = absurd (omega (arith, h))
  falses-flags (suc k) (j ∷ a) h = ((λ e. absurd (false≢true e)), falses-flags k a (omega (arith, h)))

  pub falses-unrelieved : (k : ℕ) (a : List ℕ) → relief (made (falses k) a) ≡ None
  falses-unrelieved zero [] = refl
  falses-unrelieved zero (j ∷ a) = ap (relief_with (new_entry j)) (falses-unrelieved zero a)
  falses-unrelieved (suc k) [] = refl
  falses-unrelieved (suc k) (j ∷ a) = ap (relief_with (aged_entry j false)) (falses-unrelieved k a)

  pub made-nil : (a : List ℕ) → stack (made [] a) ≡ a
  made-nil [] = refl
  made-nil (j ∷ a) = ap (λ b. j ∷ b) (made-nil a)

  -- an entry behind others, of which it is the innermost fired one
  pub relief-join : (outside a : List ℕ) (g : List Bool) (j k : ℕ) → length g ≡ length outside → relief (made (g ++ true ∷ falses k) (outside ++ j ∷ a)) ≡ Some (made g outside, (abort_at image j).handler)
  relief-join [] a [] j k e = ap (relief_with (aged_entry j true)) (falses-unrelieved k a)
  relief-join [] a (b ∷ g) j k e = absurd (omega (arith, e))
  relief-join (i ∷ outside) a [] j k e = absurd (omega (arith, e))
  relief-join (i ∷ outside) a (b ∷ g) j k e = ap (relief_with (aged_entry i b)) (relief-join outside a g j k (omega (arith, e)))

  pub flags-join : (outside a : List ℕ) (g f : List Bool) → length g ≡ length outside → AreFlags outside g → AreFlags a f → AreFlags (outside ++ a) (g ++ f)
  flags-join [] a [] f e x y = y
  flags-join [] a (b ∷ g) f e x y = absurd x
  flags-join (i ∷ outside) a [] f e x y = absurd (omega (arith, e))
  flags-join (i ∷ outside) a (b ∷ g) f e x y = (x.0, flags-join outside a g f (omega (arith, e)) x.1 y)

  pub length-join : (g f : List Bool) → length (g ++ f) ≡ length g + length f
  length-join [] f = omega arith
  length-join (b ∷ g) f = let r = length-join g f in omega (arith, r)

  -- entering
  pub made-enter : (a : List ℕ) (f : List Bool) (j : ℕ) → length f ≤ length a → made f (a ++ j ∷ []) ≡ with_last (new_entry j) (made f a)
  made-enter [] [] j h = refl
  made-enter [] (b ∷ f) j h = absurd (omega (arith, h))
  made-enter (i ∷ a) [] j h = ap (λ w. new_entry i ∷ w) (made-enter a [] j (omega arith))
  made-enter (i ∷ a) (b ∷ f) j h = ap (λ w. aged_entry i b ∷ w) (made-enter a f j (omega (arith, h)))

  pub flags-less : (a : List ℕ) (f : List Bool) (j : ℕ) → length f ≤ length a → AreFlags (a ++ j ∷ []) f → AreFlags a f
  flags-less a [] j h x = tt
  flags-less [] (b ∷ f) j h x = absurd (omega (arith, h))
  flags-less (i ∷ a) (b ∷ f) j h x = (x.0, flags-less a f j (omega (arith, h)) x.1)

  pub flags-more : (a : List ℕ) (f : List Bool) (j : ℕ) → AreFlags a f → AreFlags (a ++ j ∷ []) f
  flags-more a [] j x = tt
  flags-more [] (b ∷ f) j x = absurd x
  flags-more (i ∷ a) (b ∷ f) j x = (x.0, flags-more a f j x.1)

  -- leaving
  pub without-with : (l : Watch) (ws : List Watch) → without_last (with_last l ws) ≡ ws
  without-with l [] = refl
  without-with l (k ∷ []) = refl
  without-with l (k ∷ m ∷ ws) = ap (λ w. k ∷ w) (without-with l (m ∷ ws))

  pub made-more : (outside : List ℕ) (g : List Bool) (b : Bool) (j : ℕ) → length g ≡ length outside → made (g ++ b ∷ []) (outside ++ j ∷ []) ≡ with_last (aged_entry j b) (made g outside)
  made-more [] [] b j e = refl
  made-more [] (x ∷ g) b j e = absurd (omega (arith, e))
  made-more (i ∷ outside) [] b j e = absurd (omega (arith, e))
  made-more (i ∷ outside) (x ∷ g) b j e = ap (λ w. aged_entry i x ∷ w) (made-more outside g b j (omega (arith, e)))

  -- the flags of a stack and one more
  pub record Split (outside : List ℕ) (j : ℕ) (f : List Bool) : Type 0 where
    pub less : List Bool
    pub last : Bool
    pub is : f ≡ less ++ last ∷ []
    pub size : length less ≡ length outside
    pub flags : AreFlags outside less
    pub weak : last ≡ true → (abort_at image j).weak ≡ true

  pub split : (outside : List ℕ) (j : ℕ) (f : List Bool) → length f ≡ length outside + 1 → AreFlags (outside ++ j ∷ []) f → Split outside j f
  split [] j [] e x = absurd (omega (arith, e))
  split [] j (b ∷ []) e x = record { less = []; last = b; is = refl; size = refl; flags = tt; weak = x.0 }
  split [] j (b ∷ c ∷ f) e x = absurd (omega (arith, e))
  split (i ∷ outside) j [] e x = absurd (omega (arith, e))
  split (i ∷ outside) j (b ∷ f) e x =
      let r = split outside j f (omega (arith, e)) x.1 in
      record { less = b ∷ r.less; last = r.last; is = ap (λ g. b ∷ g) r.is; size = ap suc r.size; flags = (x.0, r.flags); weak = r.weak }
