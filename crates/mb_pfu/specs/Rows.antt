-- The slots that are taken, in depth-first order: how a table holds the tree.
use Rattle.std.specs.Prelude.{◌++◌, not, slice_set, is_some, IsTrue, IsFalse, ◌≡◌, ℕ, ◌+◌, ◌-◌, ◌^◌, ◌<◌, length, take, drop, slice_index_or, ◌==◌, nat_lt, ◌||◌, ◌&&◌, Bool, true, false, if◌then◌else◌, List, [], ◌∷◌, Option, Some, None}
use Rattle.mb_pfu.specs.declared.parts.Slot.{Slot}
use Rattle.mb_pfu.specs.declared.parts.Slot.TheVariants.{Free, Ready, Paused, Waiting, Ended}
use Rattle.mb_pfu.specs.declared.parts.Watch.{Watch}

-- a slot, how many groups it is below, what it does, and the aborts that it is inside
pub record SlotRow : Type 0 where
  pub slot : ℕ
  pub level : ℕ
  pub state : Slot
  pub watches : List Watch

abbrev pub row : ℕ → ℕ → Slot → List Watch → SlotRow
row slot level state watches = record { slot = slot; level = level; state = state; watches = watches }

abbrev pub blank : SlotRow
blank = row 0 0 Ended []

abbrev pub row_at : List SlotRow → ℕ → SlotRow
row_at rows i = slice_index_or rows i blank

abbrev pub is_ready : Slot → Bool
is_ready Free = false
is_ready (Ready place) = true
is_ready (Paused place) = false
is_ready (Waiting at lo count) = false
is_ready Ended = false

abbrev pub is_free : Slot → Bool
is_free Free = true
is_free (Ready place) = false
is_free (Paused place) = false
is_free (Waiting at lo count) = false
is_free Ended = false

abbrev pub is_ended : Slot → Bool
is_ended Free = false
is_ended (Ready place) = false
is_ended (Paused place) = false
is_ended (Waiting at lo count) = false
is_ended Ended = true

-- the first row of these is not below this level
abbrev pub stops : ℕ → List SlotRow → Bool
stops level [] = true
stops level (r ∷ rows) = if nat_lt level r.level then false else true

-- the rows after the group that is below this level
abbrev pub after : ℕ → List SlotRow → List SlotRow
after level [] = []
after level (r ∷ rows) = if nat_lt level r.level then after level rows else (r ∷ rows)

-- a slot of the group is ready
abbrev pub runs_in : ℕ → List SlotRow → Bool
runs_in level [] = false
runs_in level (r ∷ rows) = if nat_lt level r.level then is_ready r.state || runs_in level rows else false

-- all slots of the group have ended
abbrev pub ended_in : ℕ → List SlotRow → Bool
ended_in level [] = true
ended_in level (r ∷ rows) = if nat_lt level r.level then is_ended r.state && ended_in level rows else true

-- the innermost fired abort and all inside it are dropped: what is left, and the handler
abbrev pub relief_with : Watch → Option (List Watch × ℕ) → Option (List Watch × ℕ)
relief_with l None = if l.entry.fired then Some ([], l.entry.handler) else None
relief_with l (Some r) = Some (l ∷ r.0, r.1)

abbrev pub relief : List Watch → Option (List Watch × ℕ)
relief [] = None
relief (l ∷ watches) = relief_with l (relief watches)

-- a row goes on at the handler, where one is due; else the rows stay as they are handed in
abbrev pub relieved : SlotRow → List SlotRow → List SlotRow → Option (List Watch × ℕ) → List SlotRow
relieved r gone stay None = stay
relieved r gone stay (Some to) = row r.slot r.level (Ready to.1) to.0 ∷ gone

-- a waiting row, before the rows that follow it, settles
abbrev pub settled_rows : SlotRow → List SlotRow → Slot → List SlotRow
settled_rows r rows Free = r ∷ rows
settled_rows r rows (Ready place) = r ∷ rows
settled_rows r rows (Paused place) = r ∷ rows
settled_rows r rows (Waiting at lo count) =
    if runs_in r.level rows then r ∷ rows
    else if ended_in r.level rows then row r.slot r.level (Ready (at + 1)) r.watches ∷ after r.level rows
    else relieved r (after r.level rows) (r ∷ rows) (relief r.watches)
settled_rows r rows Ended = r ∷ rows

abbrev pub settle_row : SlotRow → List SlotRow → List SlotRow
settle_row r rows = settled_rows r rows r.state

-- the rows with a slot changed and what is above it, and the level that was reached
abbrev pub Climbed : Type 0
Climbed = List SlotRow × ℕ

abbrev pub climb_over : (SlotRow → List SlotRow → List SlotRow) → SlotRow → Climbed → Climbed
climb_over g r c = if nat_lt r.level c.1 then (g r c.0, r.level) else (r ∷ c.0, c.1)

-- which slots are meant, by their number, state and aborts
abbrev pub Selector : Type 0
Selector = ℕ → Slot → List Watch → Bool

abbrev pub selects : Selector → SlotRow → Bool
selects p r = p r.slot r.state r.watches

abbrev pub numbered : ℕ → Selector
numbered s = λ k state watches. k == s

abbrev pub ready : Selector
ready = λ k state watches. is_ready state

-- `f` is done at the first selected slot, and `g` at each slot above it, from the innermost on
abbrev pub climbed : Selector → (SlotRow → List SlotRow → List SlotRow) → (SlotRow → List SlotRow → List SlotRow) → List SlotRow → Climbed
climbed p f g [] = ([], 0)
climbed p f g (r ∷ rows) = if selects p r then (f r rows, r.level) else climb_over g r (climbed p f g rows)

abbrev pub or_else : {X : Type 0} → Option X → Option X → Option X
or_else None b = b
or_else (Some a) b = Some a

-- the place of a pause or a fork has a next one
abbrev pub IsLow : Slot → Type 0
IsLow Free = Unit {0}
IsLow (Ready place) = Unit {0}
IsLow (Paused place) = place < 2 ^ 32 - 1
IsLow (Waiting at lo count) = at < 2 ^ 32 - 1
IsLow Ended = Unit {0}

abbrev pub with_state : SlotRow → Slot → SlotRow
with_state r state = row r.slot r.level state r.watches

-- a waiting row goes on after its fork
abbrev pub resumed : SlotRow → Slot → SlotRow
resumed r Free = r
resumed r (Ready place) = r
resumed r (Paused place) = r
resumed r (Waiting at lo count) = with_state r (Ready (at + 1))
resumed r Ended = r

-- a row goes on at the handler where one is due, and says so
abbrev pub Relieves : Option (List Watch × ℕ) → SlotRow → Option ℕ → SlotRow → Type 0
Relieves None old result new = (result ≡ None) × (new ≡ old)
Relieves (Some to) old result new = (result ≡ Some to.1) × (new ≡ row old.slot old.level (Ready to.1) to.0)

-- the rows from this one on are what a change gives, and those before it stay
abbrev pub at_first : (SlotRow → List SlotRow → List SlotRow) → List SlotRow → List SlotRow
at_first f [] = []
at_first f (r ∷ rows) = f r rows

pub record IsDoneAt (f : SlotRow → List SlotRow → List SlotRow) (i : ℕ) (old new : List SlotRow) : Type 0 where
  pub before : take i new ≡ take i old
  pub from_here : drop i new ≡ at_first f (drop i old)

-- a row on the way up stays
abbrev pub stay : SlotRow → List SlotRow → List SlotRow
stay r rows = r ∷ rows

-- a row is the first that is selected
pub record IsAt (p : Selector) (i : ℕ) (rows : List SlotRow) : Type 0 where
  pub within : i < length rows
  pub here : IsTrue (selects p (row_at rows i))
  pub first : (k : ℕ) → k < i → IsFalse (selects p (row_at rows k))

-- what the first selected row says: its number, state and aborts
abbrev pub Report : Type 0
Report = ℕ × Slot × List Watch

abbrev pub report_in : Selector → List SlotRow → Option Report
report_in p [] = None
report_in p (r ∷ rows) = if selects p r then Some (r.slot, r.state, r.watches) else report_in p rows

abbrev pub report_at : List SlotRow → Option ℕ → Option Report
report_at rows None = None
report_at rows (Some i) = Some ((row_at rows i).slot, (row_at rows i).state, (row_at rows i).watches)

-- on the way up over these rows, the last one first
abbrev pub climbs : (SlotRow → List SlotRow → List SlotRow) → List SlotRow → Climbed → Climbed
climbs g [] c = c
climbs g (r ∷ before) c = climb_over g r (climbs g before c)

abbrev pub handler_of : Option (List Watch × ℕ) → Option ℕ
handler_of None = None
handler_of (Some to) = Some to.1

-- the moves of one row, where it is ready
abbrev pub paused_row : ℕ → SlotRow → List SlotRow → Slot → List SlotRow
paused_row at r rows Free = r ∷ rows
paused_row at r rows (Ready place) = relieved r rows (with_state r (Paused at) ∷ rows) (relief r.watches)
paused_row at r rows (Paused place) = r ∷ rows
paused_row at r rows (Waiting at' lo count) = r ∷ rows
paused_row at r rows Ended = r ∷ rows

abbrev pub pause_row : ℕ → SlotRow → List SlotRow → List SlotRow
pause_row at r rows = paused_row at r rows r.state

abbrev pub finished_row : SlotRow → List SlotRow → Slot → List SlotRow
finished_row r rows Free = r ∷ rows
finished_row r rows (Ready place) = with_state r Ended ∷ rows
finished_row r rows (Paused place) = r ∷ rows
finished_row r rows (Waiting at lo count) = r ∷ rows
finished_row r rows Ended = r ∷ rows

abbrev pub finish_row : SlotRow → List SlotRow → List SlotRow
finish_row r rows = finished_row r rows r.state

-- how many rows have the number q
abbrev pub count_in : ℕ → List SlotRow → ℕ
count_in q [] = 0
count_in q (r ∷ rows) = (if r.slot == q then 1 else 0) + count_in q rows

-- the rows of a fork's children
abbrev pub started : ℕ → ℕ → List ℕ → List SlotRow → List SlotRow
started level lo [] rows = rows
started level lo (start ∷ starts) rows = row lo level (Ready start) [] ∷ started level (lo + 1) starts rows

abbrev pub forked_row : ℕ → ℕ → List ℕ → SlotRow → List SlotRow → Slot → List SlotRow
forked_row at lo starts r rows Free = r ∷ rows
forked_row at lo starts r rows (Ready place) = with_state r (Waiting at lo (length starts)) ∷ started (r.level + 1) lo starts rows
forked_row at lo starts r rows (Paused place) = r ∷ rows
forked_row at lo starts r rows (Waiting at' lo' count) = r ∷ rows
forked_row at lo starts r rows Ended = r ∷ rows

abbrev pub fork_row : ℕ → ℕ → List ℕ → SlotRow → List SlotRow → List SlotRow
fork_row at lo starts r rows = forked_row at lo starts r rows r.state

abbrev pub busy_in : ℕ → List ℕ → List SlotRow → Bool
busy_in lo [] rows = false
busy_in lo (start ∷ starts) rows = is_some (report_in (numbered lo) rows) || busy_in (lo + 1) starts rows

-- the aborts of a row change
abbrev pub watches_row : (List Watch → List Watch) → SlotRow → List SlotRow → List SlotRow
watches_row h r rows = row r.slot r.level r.state (h r.watches) ∷ rows

abbrev pub with_last : Watch → List Watch → List Watch
with_last l watches = watches ++ l ∷ []

abbrev pub without_last : List Watch → List Watch
without_last watches = take (length watches - 1) watches

-- each row changes
abbrev pub each_row : (List Watch → List Watch) → (Slot → Slot) → SlotRow → SlotRow
each_row h d r = row r.slot r.level (d r.state) (h r.watches)

-- an entry is aged and not fired, and its condition is due
abbrev pub renewed : Watch → Watch
renewed l = record { entry = record { number = l.entry.number; weak = l.entry.weak; cond = l.entry.cond; handler = l.entry.handler; aged = true; fired = false }; due = true }

-- a paused slot is ready one word on
abbrev pub woken : Slot → Slot
woken Free = Free
woken (Ready place) = Ready place
woken (Paused place) = Ready (place + 1)
woken (Waiting at lo count) = Waiting at lo count
woken Ended = Ended

abbrev pub as_they_are : List Watch → List Watch
as_they_are watches = watches

abbrev pub as_it_is : Slot → Slot
as_it_is state = state

abbrev pub any_due : List Watch → Bool
any_due [] = false
any_due (l ∷ watches) = l.due || any_due watches

-- the place of the first entry whose condition is due
abbrev pub first_due : List Watch → ℕ
first_due [] = 0
first_due (l ∷ watches) = if l.due then 0 else first_due watches + 1

abbrev pub due : Selector
due = λ k state watches. any_due watches

abbrev pub no_watch : Watch
no_watch = record { entry = record { number = 0; weak = false; cond = 0; handler = 0; aged = false; fired = false }; due = false }

abbrev pub watch_due : List Watch → Watch
watch_due watches = slice_index_or watches (first_due watches) no_watch

-- an entry is answered
abbrev pub answered : Bool → Watch → Watch
answered fired l = record { entry = record { number = l.entry.number; weak = l.entry.weak; cond = l.entry.cond; handler = l.entry.handler; aged = l.entry.aged; fired = fired }; due = false }

abbrev pub with_answer : Bool → List Watch → List Watch
with_answer fired watches = slice_set watches (first_due watches) (answered fired (watch_due watches))

-- a strong entry whose condition holds is dropped with all inside it and the group below its slot, which goes on at the handler
abbrev pub is_cut : Bool → List Watch → Bool
is_cut fired watches = fired && not (watch_due watches).entry.weak

abbrev pub answer_row : Bool → SlotRow → List SlotRow → List SlotRow
answer_row fired r rows =
    if is_cut fired r.watches then row r.slot r.level (Ready (watch_due r.watches).entry.handler) (take (first_due r.watches) r.watches) ∷ after r.level rows
    else watches_row (with_answer fired) r rows

abbrev pub reported_test : Option Report → Option (ℕ × ℕ)
reported_test None = None
reported_test (Some x) = Some (x.0, first_due x.2)
