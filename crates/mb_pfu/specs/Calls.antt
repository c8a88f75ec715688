-- The unit's calls as functions, each with its traps in their order: "The unit" in docs/machine.md.
use Rattle.std.specs.Prelude.{ℕ, zero, suc, ◌++◌, ◌==◌, not, ◌||◌, Bool, true, false, List, [], ◌∷◌, length, Option, Some, None, Result, Ok, Err}
use Rattle.mb_pfu.specs.declared.parts.TrapKind.{TrapKind}
use Rattle.mb_pfu.specs.declared.parts.TrapKind.TheVariants.{WrongPlace, SlotBusy, TableFull, TableEmpty}
use Rattle.mb_pfu.specs.declared.parts.Watch.{Watch}
use Rattle.mb_pfu.specs.Tree.{Tree, paused, finished, forked, entered, left, is_busy, watches_of}
use Rattle.mb_pfu.specs.Unit.{State, is_nested, is_misplaced}

-- refused where it is so, else as the result says
abbrev pub unless : {X : Type 0} → Bool → TrapKind → Result X TrapKind → Result X TrapKind
unless true kind result = Err kind
unless false kind result = result

-- other slots
abbrev pub with_tree : Tree → State → State
with_tree t u = record u { tree = t }

-- slot s pauses at a place
abbrev pub pause : State → ℕ → ℕ → Result State TrapKind
pause u s at = unless (is_nested u) WrongPlace (Ok (with_tree (paused s at u.tree) u))

-- slot s ends
abbrev pub finish : State → ℕ → Result State TrapKind
finish u s = unless (is_nested u || not (length (watches_of s u.tree) == 0)) WrongPlace (Ok (with_tree (finished s u.tree) u))

-- slot s waits at a place for the slots from `lo` on, which start
abbrev pub fork : State → ℕ → ℕ → ℕ → List ℕ → Result State TrapKind
fork u s at lo starts = unless (is_misplaced u s lo starts) WrongPlace (unless (is_busy lo starts u.tree) SlotBusy (Ok (with_tree (forked s at lo starts u.tree) u)))

-- slot s enters an abort
abbrev pub enter : State → ℕ → Watch → Result State TrapKind
enter u s l = unless (is_nested u) WrongPlace (unless (length (watches_of s u.tree) == 8) TableFull (Ok (with_tree (entered s l u.tree) u)))

-- slot s leaves its innermost abort
abbrev pub leave : State → ℕ → Result State TrapKind
leave u s = unless (is_nested u) WrongPlace (unless (length (watches_of s u.tree) == 0) TableEmpty (Ok (with_tree (left s u.tree) u)))

-- one more link
abbrev pub call : State → ℕ → Result State TrapKind
call u back = unless (length u.links == 16) TableFull (Ok (record u { links = u.links ++ back ∷ [] }))

-- one more counter
abbrev pub loop_set : State → ℕ → Result State TrapKind
loop_set u turns = unless (length u.counters == 136) TableFull (Ok (record u { counters = u.counters ++ turns ∷ [] }))

-- a list's last number, and the list without it
abbrev pub last_from : ℕ → Option (List ℕ × ℕ) → List ℕ × ℕ
last_from n None = ([], n)
last_from n (Some p) = (n ∷ p.0, p.1)

abbrev pub last_of : List ℕ → Option (List ℕ × ℕ)
last_of [] = None
last_of (n ∷ ns) = Some (last_from n (last_of ns))

-- a call that needs a last number
abbrev pub on_last : {X : Type 0} → Option (List ℕ × ℕ) → (List ℕ → ℕ → X) → Result X TrapKind
on_last None f = Err TableEmpty
on_last (Some p) f = Ok (f p.0 p.1)

-- the last link, which is dropped
abbrev pub ret : State → Result (State × ℕ) TrapKind
ret u = on_last (last_of u.links) (λ before back. (record u { links = before }, back))

-- the last counter over 0 is one less, and the loop goes on; at 0 it is dropped, and the loop is over
abbrev pub counted : State → List ℕ → ℕ → State × Bool
counted u before zero = (record u { counters = before }, false)
counted u before (suc turns) = (record u { counters = before ++ turns ∷ [] }, true)

-- the last counter counts down
abbrev pub loop_next : State → Result (State × Bool) TrapKind
loop_next u = on_last (last_of u.counters) (counted u)

-- the last counter is dropped
abbrev pub drop_loop : State → Result State TrapKind
drop_loop u = on_last (last_of u.counters) (λ before turns. record u { counters = before })

-- a call as its answer and the state after it give it
abbrev pub called : {X : Type 0} → Result X TrapKind → State → Result State TrapKind
called (Err kind) u = Err kind
called (Ok x) u = Ok u

-- the same of a call that answers a value
abbrev pub valued : {X : Type 0} → Result X TrapKind → State → Result (State × X) TrapKind
valued (Err kind) u = Err kind
valued (Ok x) u = Ok (u, x)
