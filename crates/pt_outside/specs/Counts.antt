-- Counts of faults: they never fall, they end at 18446744073709551615, and exactly a call that failed raises one.
use Rattle.std.specs.Prelude.{◌≡◌, ℕ, ◌+◌, ◌-◌, ◌^◌, ◌≤◌, min, Result, Ok, Err, OnOk, OnErr, MatchResult}
use Rattle.pt_outside.specs.declared.traits.ShelfFault.{ShelfFault}
use Rattle.pt_outside.specs.declared.traits.ShelfFault.TheVariants as load
use Rattle.pt_outside.specs.declared.traits.StoreFault.{StoreFault}
use Rattle.pt_outside.specs.declared.traits.StoreFault.TheVariants as store

-- the end of a count
abbrev pub last : ℕ
last = 2 ^ 64 - 1

-- one more, up to the end
abbrev pub next : ℕ → ℕ
next n = min (n + 1) last

-- a count of faults rose, or stands at its end
abbrev pub Rose : ℕ → ℕ → Type 0
Rose before now = next before ≤ now

-- a count never falls and never passes its end; it stays where the call was done, and rose where it failed
pub record HasCause {T E : Type 0} (before now : ℕ) (result : Result T E) : Type 0 where
  pub later : before ≤ now
  pub within : now ≤ last
  pub kept : OnOk result (now ≡ before)
  pub failed : OnErr result (Rose before now)

-- of the answers of a load, `Failed` alone has a cause in the count
abbrev pub LoadCounts : {T : Type 0} → ℕ → ℕ → Result T ShelfFault → Type 0
LoadCounts before now (Ok text) = now ≡ before
LoadCounts before now (Err load.Absent) = now ≡ before
LoadCounts before now (Err load.Failed) = Rose before now
LoadCounts before now (Err load.Memory) = now ≡ before

pub record HasLoadCause {T : Type 0} (before now : ℕ) (result : Result T ShelfFault) : Type 0 where
  pub later : before ≤ now
  pub within : now ≤ last
  pub counted : LoadCounts before now result

-- the same of the answers of a store
abbrev pub StoreCounts : {T : Type 0} → ℕ → ℕ → Result T StoreFault → Type 0
StoreCounts before now (Ok done) = now ≡ before
StoreCounts before now (Err store.Failed) = Rose before now
StoreCounts before now (Err store.Memory) = now ≡ before

pub record HasStoreCause {T : Type 0} (before now : ℕ) (result : Result T StoreFault) : Type 0 where
  pub later : before ≤ now
  pub within : now ≤ last
  pub counted : StoreCounts before now result

-- in memory exactly a call that failed raises the count, by one
abbrev pub Counts : {T E : Type 0} → ℕ → ℕ → Result T E → Type 0
Counts before now result = MatchResult result (λ _. now ≡ before) (λ _. now ≡ next before)
