-- Where a sum is small, what it is made of is small.
use Rattle.std.proofs.Common.{◌≡◌, ◌≤◌, ◌+◌, ℕ, List, Bool, true, false, if◌then◌else◌, nat_le, Option, Some, None, sym, subst, arith}
use Rattle.std.proofs.lemmas.Bool.Decides.{nat_tests}
use Rattle.mb_isa.specs.declared.Class.TheVariants as class
use Rattle.mb_isa.specs.Costs.{cost_of}
use Rattle.tk_paths.specs.declared.view.Side.TheVariants.{ToPause, ToEnd}
use Rattle.tk_paths.specs.declared.view.View.TheVariants.{On, Value}
use Rattle.tk_paths.specs.Sums.{plus, greater}
use Rattle.tk_paths.specs.Acceptance.{more}
use Rattle.tk_paths.specs.Walks.{most_cycles}
use Rattle.tk_paths.specs.Numbers.{Numbers, level, after}
use Rattle.tk_paths.specs.declared.levels.Levels.{Levels}
use Rattle.tk_paths.specs.Levels.{numbers_of, added, dearer, branching}
use Rattle.tk_paths.specs.Faults.{IsSmall, AllSmall, HasRoom}

-- the greater of two is as great as each
left-less : (a b m : ℕ) → (if nat_le a b then b else a) ≤ m → a ≤ m
left-less a b m h = grind (arith, nat_tests)

right-less : (a b m : ℕ) → (if nat_le a b then b else a) ≤ m → b ≤ m
right-less a b m h = grind (arith, nat_tests)

pub small-left : (a b : Option ℕ) → IsSmall (greater a b) → IsSmall a
small-left None b h = tt
small-left (Some a) None h = h
small-left (Some a) (Some b) h = left-less a b most_cycles h

pub small-right : (a b : Option ℕ) → IsSmall (greater a b) → IsSmall b
small-right None b h = h
small-right (Some a) None h = tt
small-right (Some a) (Some b) h = right-less a b most_cycles h

pub small-greater : (n : ℕ) (a b : Option ℕ) → IsSmall (more n a) → IsSmall (more n b) → IsSmall (more n (greater a b))
small-greater n None b f g = g
small-greater n (Some a) None f g = f
small-greater n (Some a) (Some b) f g = by (nat_le a b)
  where
    by : (c : Bool) → n + (if c then b else a) ≤ most_cycles
    by true = g
    by false = f

-- a number alone, behind a charge, and behind several
pub small-plain : (n : ℕ) (o : Option ℕ) → IsSmall (more n o) → IsSmall o
small-plain n None h = tt
small-plain n (Some x) h = omega (arith, h)

pub small-less : (m n : ℕ) (o : Option ℕ) → m ≤ n → IsSmall (more n o) → IsSmall (more m o)
small-less m n None l h = tt
small-less m n (Some x) l h = omega (arith, l, h)

pub small-onto : (m k n : ℕ) (o : Option ℕ) → m + k ≤ n → IsSmall (more n o) → IsSmall (more m (more k o))
small-onto m k n None l h = tt
small-onto m k n (Some x) l h = omega (arith, l, h)

pub small-three : (a b c n : ℕ) (o : Option ℕ) → a + (b + c) ≤ n → IsSmall (more n o) → IsSmall (more a (more b (more c o)))
small-three a b c n None l h = tt
small-three a b c n (Some x) l h = omega (arith, l, h)

pub small-four : (a b c d n : ℕ) (o : Option ℕ) → a + (b + (c + d)) ≤ n → IsSmall (more n o) → IsSmall (more a (more b (more c (more d o))))
small-four a b c d n None l h = tt
small-four a b c d n (Some x) l h = omega (arith, l, h)

-- the same at all views
pub all-less : (m n : ℕ) (V : Numbers) → m ≤ n → HasRoom n V → AllSmall (after m V)
all-less m n V l h view = small-less m n (V view) l (h.before view)

pub all-onto : (m k n : ℕ) (V : Numbers) → m + k ≤ n → HasRoom n V → AllSmall (after m (after k V))
all-onto m k n V l h view = small-onto m k n (V view) l (h.before view)

pub room-less : (m n : ℕ) (V : Numbers) → m ≤ n → HasRoom n V → HasRoom m V
room-less m n V l h = record {
  cycles = (let c = h.cycles in omega (arith, c, l));
  before = all-less m n V l h;
}

pub room-onto : (m k n : ℕ) (V : Numbers) → m + k ≤ n → HasRoom n V → HasRoom m (after k V)
room-onto m k n V l h = record {
  cycles = (let c = h.cycles in omega (arith, c, l));
  before = all-onto m k n V l h;
}

-- what is added at each level
pub added-pause : (o : Option ℕ) (V : Numbers) (k : ℕ) (p : Option ℕ × Option ℕ) → p ≡ level V k → AllSmall (added o V) → IsSmall (plus o p.0)
unfolding added
added-pause o V k p e h = let S : Option ℕ × Option ℕ → Type 0 = λ q. IsSmall (plus o q.0) in subst S (sym e) (h (On ToPause k))

pub added-end : (o : Option ℕ) (V : Numbers) (k : ℕ) (p : Option ℕ × Option ℕ) → p ≡ level V k → AllSmall (added o V) → IsSmall (plus o p.1)
unfolding added
added-end o V k p e h = let S : Option ℕ × Option ℕ → Type 0 = λ q. IsSmall (plus o q.1) in subst S (sym e) (h (On ToEnd k))

pub added-value : (o : Option ℕ) (l : Levels) → AllSmall (added o (numbers_of l)) → IsSmall (plus o l.value)
unfolding added numbers_of
added-value o l h = h Value

pub added-after : (n : ℕ) (V : Numbers) → AllSmall (after n V) → AllSmall (added (Some n) V)
unfolding added
added-after n V h = h

-- the two ways of a branch
pub branch-untaken : (costs : List ℕ) (V W : Numbers) (u : ℕ) → u ≡ cost_of costs class.Untaken → AllSmall (branching costs V W) → AllSmall (after u V)
unfolding branching dearer
branch-untaken costs V W u e h =
    let S : ℕ → Type 0 = λ n. AllSmall (after n V) in
    subst S (sym e) (λ view. small-left (more (cost_of costs class.Untaken) (V view)) (more (cost_of costs class.Taken) (W view)) (h view))

pub branch-taken : (costs : List ℕ) (V W : Numbers) (u : ℕ) → u ≡ cost_of costs class.Taken → AllSmall (branching costs V W) → AllSmall (after u W)
unfolding branching dearer
branch-taken costs V W u e h =
    let S : ℕ → Type 0 = λ n. AllSmall (after n W) in
    subst S (sym e) (λ view. small-right (more (cost_of costs class.Untaken) (V view)) (more (cost_of costs class.Taken) (W view)) (h view))
