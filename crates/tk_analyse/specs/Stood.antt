-- What a walk says of slots, set one slot after another.
use Rattle.std.specs.Prelude.{◌≡◌, ℕ, ◌<◌, ◌==◌, ◌&&◌, Bool, true, false, if◌then◌else◌, List, length, slice_index_or, Option, Some, None}
use Rattle.mb_pfu.specs.Rows.{numbered, Report}
use Rattle.mb_pfu.specs.Tree.{Tree, Group, report, report_among}
use Rattle.tk_cert.specs.declared.cert.State.{State}
use Rattle.tk_cert.specs.declared.cert.State.TheVariants.{Free, Start, Paused, Waiting, Ended}
use Rattle.tk_paths.specs.Walks.{state_of}

abbrev pub state_at : List State → ℕ → State
state_at states q = slice_index_or states q Free

abbrev pub reported : Option Report → State
reported None = Free
reported (Some r) = state_of (r.1)

-- what is said of a slot: first this, and if that is nothing, what is reported
abbrev pub stood : State → Option Report → State
stood Free r = reported r
stood Start r = Start
stood (Paused place) r = Paused place
stood (Waiting place) r = Waiting place
stood Ended r = Ended

abbrev pub AreStood : (ℕ → Option Report) → List State → List State → Type 0
AreStood report old new = (length new ≡ length old) × ((q : ℕ) → q < length old → state_at new q ≡ stood (state_at old q) (report q))

-- the slots of the tree of slot k, and those of a group whose numbers begin at k
unfoldable pub IsStood : ℕ → Tree → List State → List State → Type 0
IsStood k t old new = AreStood (λ q. report (numbered q) k t) old new

unfoldable pub IsGroupStood : ℕ → Group → List State → List State → Type 0
IsGroupStood k g old new = AreStood (λ q. report_among (numbered q) k g) old new

-- this is said of one slot, if nothing was
abbrev pub is_free : State → Bool
is_free Free = true
is_free Start = false
is_free (Paused place) = false
is_free (Waiting place) = false
is_free Ended = false

unfoldable pub IsSet : ℕ → State → List State → List State → Type 0
IsSet slot state old new =
    (length new ≡ length old)
    × ((q : ℕ) → q < length old → state_at new q ≡ (if (slot == q) && is_free (state_at old q) then state else state_at old q))
