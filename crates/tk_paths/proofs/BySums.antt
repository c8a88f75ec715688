-- The sums of A4 to A6 as they are asked; the other conditions are those of `Conditions`.
use Rattle.std.specs.Prelude.{length, ◌≡◌, ◌≤◌, ◌<◌, ℕ, zero, suc, ◌+◌, true, false, List, [], ◌∷◌, Option, Some, None}
use Rattle.tk_paths.specs.declared.word.Word.{Word}
use Rattle.tk_paths.specs.declared.word.Word.TheVariants.{Eot, Fork}
use Rattle.tk_paths.proofs.Inner.{Image}
use Rattle.tk_paths.specs.declared.view.Side.{Side}
use Rattle.tk_paths.specs.declared.view.Side.TheVariants.{ToPause}
use Rattle.tk_paths.specs.Sums.{plus, all_ends, most_paused, resumed_ends, resumed_paused}
use Rattle.tk_paths.proofs.Conditions.{Cert, Line, Thread, IsBare, Pays, upper_at, IsPlain, IsAt, ThreadIs, Levels, IsThreadFine, IsFine}
use Rattle.mb_isa.specs.declared.Class.TheVariants as class

-- a number that isn't there asks for nothing where it is the smaller side
abbrev pub Asks : Option ℕ → Option ℕ → Type 0
Asks given None = Unit {0}
Asks given (Some n) = Pays given n

module _ (image : Image) (cert : Cert) where
  -- SP and SE of a child
  abbrev pub begins : Side → ℕ → Option ℕ
  begins side c = cert.number side 0 (image.start c)

  -- for each of the first k aborts that is weak; the first has number i
  abbrev pub EachWeak : (ℕ → ℕ → Type 0) → ℕ → List ℕ → ℕ → Type 0
  EachWeak P i [] k = Unit {0}
  EachWeak P i (j ∷ a) zero = Unit {0}
  EachWeak P i (j ∷ a) (suc k) = (image.weak j ≡ true → P i (image.handler j)) × EachWeak P (i + 1) a k

  -- for each abort that is strong, with the sum of the conditions up to and with it
  abbrev pub EachStrong : (ℕ → ℕ → ℕ → Type 0) → ℕ → ℕ → List ℕ → Type 0
  EachStrong P sum i [] = Unit {0}
  EachStrong P sum i (j ∷ a) = (image.weak j ≡ false → P (sum + cert.value (image.cond j)) i (image.handler j)) × EachStrong P (sum + cert.value (image.cond j)) (i + 1) a

  -- the sum of all conditions
  abbrev pub conditions : ℕ → List ℕ → ℕ
  conditions sum [] = sum
  conditions sum (j ∷ a) = conditions (sum + cert.value (image.cond j)) a

  -- A4
  pub record PausesPay (place : ℕ) (a : List ℕ) (k : ℕ) : Type 0 where
    pub itself : Asks (cert.number ToPause k place) (Some (image.cost class.Eot))
    pub handlers : (side : Side) → EachWeak (λ i h. Asks (cert.number side k place) (plus (Some (image.cost class.Eot)) (cert.number side i h))) 0 a k

  -- A5
  pub record ForksPay (place lo n : ℕ) (a : List ℕ) (k : ℕ) : Type 0 where
    pub ends : (side : Side) → Asks (cert.number side k place) (plus (Some (image.cost class.Fork)) (plus (all_ends begins lo n) (cert.number side k (place + 1))))
    pub itself : Asks (cert.number ToPause k place) (plus (Some (image.cost class.Fork)) (most_paused begins lo n))
    pub handlers : (side : Side) → EachWeak (λ i h. Asks (cert.number side k place) (plus (Some (image.cost class.Fork)) (plus (most_paused begins lo n) (cert.number side i h)))) 0 a k

  abbrev pub IsFineWritten : ℕ → Line → Word → Type 0
  IsFineWritten place line Eot = IsAt image cert (place + 1) line × ThreadIs image cert line (λ s a. (image.is_pause place s a ≡ true) × Levels image cert a (PausesPay place a))
  IsFineWritten place line (Fork lo n) =
      IsAt image cert (place + 1) line × ThreadIs image cert line (λ s a. (image.is_fork place s a ≡ true) × (s < lo) × (1 ≤ n) × (lo + n ≤ image.slots)
      × ((c : ℕ) → lo ≤ c → c < lo + n → IsAt image cert (image.start c) (Thread c [] [])) × Levels image cert a (ForksPay place lo n a))
  IsFineWritten place line other = IsFine image cert place line other

  -- A6
  abbrev pub StrongPay : ℕ → List ℕ → Side → Type 0
  StrongPay s a side = EachStrong (λ sum i h. Asks (cert.resumed side s) (plus (Some sum) (cert.number side i h))) 0 0 a

  pub record IsPauseWritten (at s : ℕ) (a : List ℕ) : Type 0 where
    pub word : image.code at None ≡ Some Eot
    pub plain : IsPlain image cert at
    pub line : cert.line at ≡ Thread s a []
    pub strong : (side : Side) → StrongPay s a side
    pub behind : (side : Side) → Asks (cert.resumed side s) (plus (Some (conditions 0 a)) (cert.number side (length a) (at + 1)))

  pub record ForkResumes (at s : ℕ) (a : List ℕ) (lo n : ℕ) : Type 0 where
    pub strong : (side : Side) → StrongPay s a side
    pub ends : (side : Side) → Asks (cert.resumed side s) (plus (Some (conditions 0 a)) (plus (resumed_ends cert.resumed lo n) (cert.number side (length a) (at + 1))))
    pub itself : Asks (cert.resumed ToPause s) (plus (Some (conditions 0 a)) (resumed_paused cert.resumed lo n))
    pub handlers : (side : Side) → EachWeak (λ i h. Asks (cert.resumed side s) (plus (Some (conditions 0 a)) (plus (resumed_paused cert.resumed lo n) (cert.number side i h)))) 0 a (length a)

  -- some child has a number
  abbrev pub HasResumed : ℕ → ℕ → Type 0
  HasResumed lo n = (c : ℕ) × (side : Side) × (m : ℕ) × (lo ≤ c) × (c < lo + n) × (cert.resumed side c ≡ Some m)

  pub record IsForkWritten (at s : ℕ) (a : List ℕ) : Type 0 where
    pub lo : ℕ
    pub count : ℕ
    pub word : image.code at None ≡ Some (Fork lo count)
    pub plain : IsPlain image cert at
    pub line : cert.line at ≡ Thread s a []
    pub resumes : HasResumed lo count → ForkResumes at s a lo count

  pub record IsAcceptedWritten : Type 0 where
    pub start : IsAt image cert (image.start 0) (Thread 0 [] [])
    pub thread : (place : ℕ) → IsThreadFine image cert place (cert.line place)
    pub place : (place : ℕ) → (IsBare (cert.line place) → ⊥) → (w : Word) × (image.code place (upper_at image cert place) ≡ Some w) × IsFineWritten place (cert.line place) w
    pub pause : (at s : ℕ) (a : List ℕ) → image.is_pause at s a ≡ true → IsPauseWritten at s a
    pub fork : (at s : ℕ) (a : List ℕ) → image.is_fork at s a ≡ true → IsForkWritten at s a
    pub apart : (at s at' s' : ℕ) (a a' : List ℕ) (lo count lo' count' c : ℕ) → image.is_fork at s a ≡ true → image.is_fork at' s' a' ≡ true →
        image.code at None ≡ Some (Fork lo count) → image.code at' None ≡ Some (Fork lo' count') → lo ≤ c → c < lo + count → lo' ≤ c → c < lo' + count' → at ≡ at'
    pub no_zero : (at s : ℕ) (a : List ℕ) (lo count : ℕ) → image.is_fork at s a ≡ true → image.code at None ≡ Some (Fork lo count) → 1 ≤ lo
    pub base : image.base ≤ cert.bound
    pub first : (side : Side) → Asks (Some cert.bound) (plus (Some image.base) (cert.number side 0 (image.start 0)))
    pub again : (side : Side) → Asks (Some cert.bound) (plus (Some image.base) (cert.resumed side 0))
