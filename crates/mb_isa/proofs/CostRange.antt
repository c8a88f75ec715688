-- What a class charges is from 1 to 255.
use Rattle.std.proofs.Common.{◌≤◌, ◌<◌, ℕ, List, sym, subst, lit<}
use Rattle.mb_isa.specs.declared.costs.Class.{Class}
use Rattle.mb_isa.specs.declared.costs.Class.TheVariants.{Alu, Shift, Mul, Div, Imm, Load, Store, Jump, Taken, Untaken, Fork, Eot, End, Abrt, Leave, Call, Ret, Loop, Next, Drop, Cend, Tick}
use Rattle.mb_isa.specs.Costs.{place, cost_of, IsCosts}

place-below : (class : Class) → place class < 22
place-below Alu = lit< tt
place-below Shift = lit< tt
place-below Mul = lit< tt
place-below Div = lit< tt
place-below Imm = lit< tt
place-below Load = lit< tt
place-below Store = lit< tt
place-below Jump = lit< tt
place-below Taken = lit< tt
place-below Untaken = lit< tt
place-below Fork = lit< tt
place-below Eot = lit< tt
place-below End = lit< tt
place-below Abrt = lit< tt
place-below Leave = lit< tt
place-below Call = lit< tt
place-below Ret = lit< tt
place-below Loop = lit< tt
place-below Next = lit< tt
place-below Drop = lit< tt
place-below Cend = lit< tt
place-below Tick = lit< tt

pub cost_of-range : (costs : List ℕ) → IsCosts costs → (class : Class) → (1 ≤ cost_of costs class) × (cost_of costs class < 256)
cost_of-range costs h class = let P : ℕ → Type 0 = λ n. place class < n in h.range (place class) 0 (subst P (sym h.count) (place-below class))
