-- Sums over the children of a fork of numbers that may be none: docs/bounds.md, "Acceptance".
use Rattle.tk_paths.specs.declared.view.Side.{Side}
use Rattle.tk_paths.specs.declared.view.Side.TheVariants.{ToPause, ToEnd}
use Rattle.std.specs.Prelude.{ℕ, zero, suc, ◌+◌, ◌-◌, nat_le, if◌then◌else◌, List, [], ◌∷◌, Option, Some, None}

-- a sum, where both numbers are there
abbrev pub plus : Option ℕ → Option ℕ → Option ℕ
plus None b = None
plus (Some a) None = None
plus (Some a) (Some b) = Some (a + b)

-- the greater of the numbers that are there
abbrev pub greater : Option ℕ → Option ℕ → Option ℕ
greater None b = b
greater (Some a) None = Some a
greater (Some a) (Some b) = Some (if nat_le a b then b else a)

abbrev pub or_zero : Option ℕ → ℕ
or_zero None = 0
or_zero (Some n) = n

-- a number and what there is of another; none where that number isn't there and the other isn't
abbrev pub and_more : Option ℕ → Option ℕ → Option ℕ
and_more None rest = rest
and_more (Some v) rest = Some (v + or_zero rest)

-- so much less, and not below 0
abbrev pub lowered : ℕ → Option ℕ → Option ℕ
lowered n None = None
lowered n (Some m) = Some (m - n)

-- a child's two numbers
module _ (number : Side → ℕ → Option ℕ) where
  -- the sum of the numbers to the end of n children from c on, where all are there
  abbrev pub all_ends : ℕ → ℕ → Option ℕ
  all_ends c zero = Some 0
  all_ends c (suc n) = plus (number ToEnd c) (all_ends (c + 1) n)

  -- the greatest sum of one number per child
  abbrev pub most : ℕ → ℕ → Option ℕ
  most c zero = Some 0
  most c (suc n) = plus (greater (number ToPause c) (number ToEnd c)) (most (c + 1) n)

  -- the same with at least one of them up to a pause
  abbrev pub most_paused : ℕ → ℕ → Option ℕ
  most_paused c zero = None
  most_paused c (suc n) = greater (plus (number ToPause c) (most (c + 1) n)) (plus (number ToEnd c) (most_paused (c + 1) n))

  -- the sum of all numbers to the end that are there; none where no child has one
  abbrev pub resumed_ends : ℕ → ℕ → Option ℕ
  resumed_ends c zero = None
  resumed_ends c (suc n) = and_more (number ToEnd c) (resumed_ends (c + 1) n)

  -- the greatest sum in which each child gives one of its numbers or 0
  abbrev pub resumed_most : ℕ → ℕ → ℕ
  resumed_most c zero = 0
  resumed_most c (suc n) = or_zero (greater (number ToPause c) (number ToEnd c)) + resumed_most (c + 1) n

  -- the same with at least one of them up to a pause
  abbrev pub resumed_paused : ℕ → ℕ → Option ℕ
  resumed_paused c zero = None
  resumed_paused c (suc n) = greater (plus (number ToPause c) (Some (resumed_most (c + 1) n))) (plus (Some (or_zero (number ToEnd c))) (resumed_paused (c + 1) n))

-- the greatest of the numbers that are there, or 0
abbrev pub greatest : List (Option ℕ) → ℕ
greatest [] = 0
greatest (o ∷ numbers) = or_zero (greater o (Some (greatest numbers)))
