-- What one step of a run does.
use Rattle.std.proofs.Common.{◌≡◌, ◌≤◌, ◌+◌, max, ℕ, ℤ, suc, Bool, true, false, List, [], ◌∷◌, ◌++◌, length, Option, Some, None, Result, Ok, Err, refl, sym, ap, subst, ◌∙◌, append_assoc, append-nil, length-append, add-zero, arith}
use Rattle.std.specs.Io.KnownBytes.{Keeps, IsAtEnd}
use Rattle.pt_outside.specs.Counts.{Rose}
use Rattle.pt_outside.specs.Told.{SourceTold, SinkTold}
use Rattle.pt_outside.specs.declared.traits.Failed.{Failed}
use Rattle.pt_image.specs.declared.image.Parts.{Parts}
use Rattle.pt_trace.specs.Next.{Reader, unread, IsOver, GaveRow, MetEnd, RefusedLine, MetFault}
use Rattle.pt_trace.specs.Given.{HasGiven, HasRead, IsWhole, IsBad, IsCut}
use Rattle.pt_trace.specs.Readings.{begun}
use Rattle.pt_trace.specs.Report.{tick_line, greatest, worst_line}
use Rattle.pretc_run.specs.Lines.{tick_lines, last_line}
use Rattle.pt_trace.proofs.Chaining.{begins_with_none, gives_one_more, ends_with_all, ended_with_all, refuses_the_first, fails_after_whole, pulls_few, pulled_few}
use Rattle.mb_pfu.specs.declared.TrapKind.{TrapKind}
use Rattle.mb_core.specs.declared.parts.Trap.{Trap}
use Rattle.mb_isa.specs.Run.{MachineState}
use Rattle.mb_core.specs.Machine.{Whole, fresh, tick_of, tick_after, Ticks}
use Rattle.mb_isa.specs.Run.{Ticked, Ends, Trapped, tick_from}
use Rattle.mb_isa.specs.Run.{run_of, loaded, ticks_from, after_tick}
use Rattle.pretc_run.specs.declared.endings.Ending.{Ending}
use Rattle.pretc_run.specs.declared.endings.Ending.TheVariants as end
use Rattle.pretc_run.specs.Endings.{line_of}
use Rattle.pretc_run.specs.Told.{told, AllEnded}
use Rattle.pretc_run.specs.Writing.{Wrote, BrokeOff}
use Rattle.pretc_run.specs.Running.{run_lines, HasTicked, IsTrapped, RunEnds, run_done, run_bad, run_fault, run_trapped, next_tick, next_last, RunBreaks, RunWrote}
use Rattle.pretc_run.specs.UnderWay.{Start, IsUnderWay, SaysLast, TickEnds, TickComes, StepComes}
use Rattle.pretc_run.proofs.Written.{wrote_none, wrote_both, wrote_broke}

-- ---- a tick that trapped

abbrev at_of : Result ℕ Trap → ℕ
at_of (Ok cycles) = 0
at_of (Err trap) = trap.at

pub trap_comes : (o : Ticked) (tick : ℕ) (old new : Whole) (worst : ℕ) (before : List ℤ) (trap : Trap) (after : List ℤ) (s t : SinkTold) (result : Result (Option Ending) Failed) →
    Ticks o old before (Err trap) new after → SaysLast (end.Trapped trap.at tick) (line_of (end.Trapped trap.at tick)) s t result → TickComes o tick old new worst worst s t result
trap_comes (Ends cycles outputs state) tick old new worst before trap after s t result h said = absurd (cc (h.0))
trap_comes (Trapped kind at charged) tick old new worst before trap after s t result h said =
    let P : ℕ → Type 0 = λ a. SaysLast (end.Trapped a tick) (line_of (end.Trapped a tick)) s t result in
    subst P (ap at_of h.0) said

-- ---- the ticks that are told

all_ended_push : (os : List Ticked) (c : ℕ) (o : List ℤ) (s : MachineState) → AllEnded os → AllEnded (os ++ Ends c o s ∷ [])
all_ended_push [] c o s h = (tt, tt)
all_ended_push (x ∷ os) c o s h = (h.0, all_ended_push os c o s h.1)

told_push : (os : List Ticked) (c : ℕ) (o : List ℤ) (s : MachineState) → told (os ++ Ends c o s ∷ []) ≡ told os ++ (o, c) ∷ []
told_push [] c o s = refl
told_push (Ends d p t ∷ os) c o s = ap (λ l. (p, d) ∷ l) (told_push os c o s)
told_push (Trapped kind at charged ∷ os) c o s = told_push os c o s

told_count : (os : List Ticked) → AllEnded os → length (told os) ≡ length os
told_count [] h = refl
told_count (Ends c o s ∷ os) h = ap suc (told_count os h.1)
told_count (Trapped kind at charged ∷ os) h = absurd h.0

tick_lines_push : (k : ℕ) (ts : List (List ℤ × ℕ)) (t : List ℤ × ℕ) → tick_lines k (ts ++ t ∷ []) ≡ tick_lines k ts ++ tick_line (k + length ts) t.0 (Some t.1) ∷ []
tick_lines_push k [] t = ap (λ n. tick_line n t.0 (Some t.1) ∷ []) (sym (add-zero k))
tick_lines_push k (x ∷ ts) t =
    let e : k + 1 + length ts ≡ k + suc (length ts) = omega arith in
    ap (λ l. tick_line k x.0 (Some x.1) ∷ l) (tick_lines_push (k + 1) ts t ∙ ap (λ n. tick_lines (k + 1) ts ++ tick_line n t.0 (Some t.1) ∷ []) e)

greatest_push : (ts : List (List ℤ × ℕ)) (t : List ℤ × ℕ) → greatest (ts ++ t ∷ []) ≡ max (greatest ts) t.1
greatest_push [] t = omega arith
greatest_push (x ∷ ts) t = let e = greatest_push ts t in omega arith

-- ---- a run that is under way

tick_is : (image : Parts) (costs : List ℕ) (m : Whole) (most : ℕ) (row : List ℤ) → m.image ≡ image → m.costs ≡ costs → m.trap ≡ None → tick_of m row most ≡ tick_from image costs m.state row most
tick_is image costs m most row i c t =
    ap (λ trap. tick_after trap m row most) t ∙ ap (λ image. tick_from image m.costs m.state row most) i ∙ ap (λ costs. tick_from image costs m.state row most) c

pub run_is : (start : Start) (rows : List (List ℤ)) (m : Whole) (r : Reader) (w : ℕ) (src : SourceTold) (k : SinkTold) (u : IsUnderWay start rows m r w src k) →
    run_of start.image start.costs start.most rows ≡ u.outcomes
run_is start rows m r w src k u =
    ap (ticks_from start.image start.costs start.most (loaded start.image)) (sym (append-nil rows)) ∙ u.run [] ∙ append-nil u.outcomes

-- the run on one row more, whatever comes after it
run_more : (start : Start) (rows : List (List ℤ)) (row : List ℤ) (m : Whole) (r : Reader) (w : ℕ) (src : SourceTold) (k : SinkTold) (u : IsUnderWay start rows m r w src k) (o : Ticked) →
    tick_of m row start.most ≡ o → (more : List (List ℤ)) →
    ticks_from start.image start.costs start.most (loaded start.image) (rows ++ row ∷ more) ≡ u.outcomes ++ after_tick (λ s. ticks_from start.image start.costs start.most s more) o
run_more start rows row m r w src k u o is more =
    u.run (row ∷ more)
    ∙ ap (λ x. u.outcomes ++ after_tick (λ s. ticks_from start.image start.costs start.most s more) x)
    (sym (tick_is start.image start.costs m start.most row u.image_is u.costs_is u.going) ∙ is)

lines_are : (start : Start) (rows : List (List ℤ)) (m : Whole) (r : Reader) (w : ℕ) (src : SourceTold) (k : SinkTold) (u : IsUnderWay start rows m r w src k) →
    Wrote start.sink k (run_lines start.image start.costs start.most rows)
lines_are start rows m r w src k u =
    let P : List Ticked → Type 0 = λ os. Wrote start.sink k (tick_lines 0 (told os)) in
    subst P (sym (run_is start rows m r w src k u)) u.wrote

are_ended : (start : Start) (rows : List (List ℤ)) (m : Whole) (r : Reader) (w : ℕ) (src : SourceTold) (k : SinkTold) (u : IsUnderWay start rows m r w src k) →
    AllEnded (run_of start.image start.costs start.most rows)
are_ended start rows m r w src k u = subst AllEnded (sym (run_is start rows m r w src k u)) u.ended

-- the last line is said
pub says_last : (start : Start) (rows : List (List ℤ)) (m n : Whole) (r s : Reader) (w v : ℕ) (src now : SourceTold) (k l : SinkTold) (e : Ending) (line : List ℕ) (result : Result (Option Ending) Failed) →
    IsUnderWay start rows m r w src k → RunEnds start.image start.costs start.most rows start.source now line e → SaysLast e line k l result → StepComes start rows n s v now l result
says_last start rows m n r s w v src now k l e line (Ok None) u ends h = absurd h
says_last start rows m n r s w v src now k l e line (Ok (Some ending)) u ends h =
    let P : Ending → Type 0 = λ x. RunWrote start.image start.costs start.most start.source now start.sink l x in
    subst P (sym h.0) (record {
      rows = rows;
      last = line;
      ends = ends;
      wrote = wrote_both start.sink k l (run_lines start.image start.costs start.most rows) (line ∷ []) (lines_are start rows m r w src k u) h.1;
    })
says_last start rows m n r s w v src now k l e line (Err failed) u ends h =
    let P : List (List ℕ) → Type 0 = λ xs. BrokeOff start.sink l xs line in
    record {
      rows = rows;
      ended = are_ended start rows m r w src k u;
      next = line;
      is_next = next_last e line ends;
      broke = subst P (append-nil (run_lines start.image start.costs start.most rows)) (wrote_broke start.sink k l (run_lines start.image start.costs start.most rows) [] line (lines_are start rows m r w src k u) h);
    }

-- ---- a tick

-- the tick on one row more ended, and its line was written
ticked : (start : Start) (rows : List (List ℤ)) (row outputs : List ℤ) (cycles tick : ℕ) (state : MachineState) (m n : Whole) (r s : Reader) (w v : ℕ) (src now : SourceTold) (k l : SinkTold) →
    IsUnderWay start rows m r w src k → tick_of m row start.most ≡ Ends cycles outputs state → r.ended ≡ false → GaveRow r s (unread r src.left) now.left row → now.faults ≡ src.faults →
    tick ≡ length rows → TickEnds cycles m n w v → n.state ≡ state → Wrote k l (tick_line tick outputs (Some cycles) ∷ []) → IsUnderWay start (rows ++ row ∷ []) n s v now l
ticked start rows row outputs cycles tick state m n r s w v src now k l u is opened gave stays number ends state_is wrote =
    let run_of : MachineState → List (List ℤ) → List Ticked = λ t more. ticks_from start.image start.costs start.most t more in
    let o : Ticked = Ends cycles outputs state in
    let line : 0 + length (told u.outcomes) ≡ tick = omega (arith, told_count u.outcomes u.ended, u.count, number) in
    let lines : tick_lines 0 (told (u.outcomes ++ o ∷ [])) ≡ tick_lines 0 (told u.outcomes) ++ tick_line tick outputs (Some cycles) ∷ [] =
    ap (tick_lines 0) (told_push u.outcomes cycles outputs state)
    ∙ tick_lines_push 0 (told u.outcomes) (outputs, cycles)
    ∙ ap (λ n. tick_lines 0 (told u.outcomes) ++ tick_line n outputs (Some cycles) ∷ []) line in
    let P : List (List ℕ) → Type 0 = λ xs. Wrote start.sink l xs in
    record {
      outcomes = u.outcomes ++ o ∷ [];
      image_is = ends.image ∙ u.image_is;
      costs_is = ends.costs ∙ u.costs_is;
      going = ends.going;
      run = λ more.
          ap (run_of (loaded start.image)) (append_assoc rows (row ∷ []) more)
          ∙ run_more start rows row m r w src k u o is more
          ∙ ap (λ t. u.outcomes ++ o ∷ run_of t more) (sym state_is)
          ∙ sym (append_assoc u.outcomes (o ∷ []) (run_of n.state more));
      ended = all_ended_push u.outcomes cycles outputs state u.ended;
      count = length-append u.outcomes (o ∷ []) ∙ ap (λ n. n + 1) u.count ∙ sym (length-append rows (row ∷ []));
      given = gives_one_more _ _ r s src.left now.left rows row opened u.given gave;
      faults = stays ∙ u.faults;
      wrote = subst P (sym lines) (wrote_both start.sink k l (tick_lines 0 (told u.outcomes)) (tick_line tick outputs (Some cycles) ∷ []) u.wrote wrote);
      worst_is = ends.worst_is ∙ ap (λ n. max n cycles) u.worst_is ∙ sym (greatest_push (told u.outcomes) (outputs, cycles)) ∙ ap greatest (sym (told_push u.outcomes cycles outputs state));
    }

-- the rows that were read, with one more
read_more : (start : Start) (rows : List (List ℤ)) (row : List ℤ) (m : Whole) (r s : Reader) (w : ℕ) (src now : SourceTold) (k : SinkTold) →
    IsUnderWay start rows m r w src k → r.ended ≡ false → GaveRow r s (unread r src.left) now.left row → length s.kept ≤ 2048 →
    HasRead (length start.image.inputs) start.source.left now.left (rows ++ row ∷ [])
read_more start rows row m r s w src now k u opened gave few =
    pulls_few _ _ s now.left (rows ++ row ∷ []) (gives_one_more _ _ r s src.left now.left rows row opened u.given gave) few

-- the tick on one row more ended, and its line broke off
tick_breaks : (start : Start) (rows : List (List ℤ)) (row outputs : List ℤ) (cycles tick : ℕ) (state : MachineState) (m : Whole) (r s : Reader) (w : ℕ) (src now : SourceTold) (k l : SinkTold) →
    IsUnderWay start rows m r w src k → tick_of m row start.most ≡ Ends cycles outputs state → r.ended ≡ false → GaveRow r s (unread r src.left) now.left row → now.faults ≡ src.faults →
    length s.kept ≤ 2048 → tick ≡ length rows → BrokeOff k l [] (tick_line tick outputs (Some cycles)) → RunBreaks start.image start.costs start.most start.source now start.sink l
tick_breaks start rows row outputs cycles tick state m r s w src now k l u is opened gave stays few number broke =
    let o : Ticked = Ends cycles outputs state in
    let line : List ℕ = tick_line (length rows) outputs (Some cycles) in
    let run_is_more : run_of start.image start.costs start.most (rows ++ row ∷ []) ≡ u.outcomes ++ o ∷ [] = run_more start rows row m r w src k u o is [] in
    let B : ℕ → Type 0 = λ n. BrokeOff k l [] (tick_line n outputs (Some cycles)) in
    let P : List (List ℕ) → Type 0 = λ xs. BrokeOff start.sink l xs line in
    record {
      rows = rows;
      ended = are_ended start rows m r w src k u;
      next = line;
      is_next =
          next_tick row outputs cycles
          (record { read = read_more start rows row m r s w src now k u opened gave few; ended = subst AllEnded (sym run_is_more) (all_ended_push u.outcomes cycles outputs state u.ended) })
          (ap told run_is_more ∙ told_push u.outcomes cycles outputs state ∙ ap (λ os. told os ++ (outputs, cycles) ∷ []) (sym (run_is start rows m r w src k u)))
          (stays ∙ u.faults);
      broke = subst P (append-nil (run_lines start.image start.costs start.most rows)) (wrote_broke start.sink k l (run_lines start.image start.costs start.most rows) [] line (lines_are start rows m r w src k u) (subst B number broke));
    }

trap_ends : (start : Start) (rows : List (List ℤ)) (row : List ℤ) (kind : TrapKind) (at charged tick : ℕ) (m : Whole) (r s : Reader) (w : ℕ) (src now : SourceTold) (k : SinkTold) →
    IsUnderWay start rows m r w src k → tick_of m row start.most ≡ Trapped kind at charged → r.ended ≡ false → GaveRow r s (unread r src.left) now.left row → now.faults ≡ src.faults →
    length s.kept ≤ 2048 → tick ≡ length rows → RunEnds start.image start.costs start.most rows start.source now (line_of (end.Trapped at tick)) (end.Trapped at tick)
trap_ends start rows row kind at charged tick m r s w src now k u is opened gave stays few number =
    let P : ℕ → Type 0 = λ n. RunEnds start.image start.costs start.most rows start.source now (line_of (end.Trapped at n)) (end.Trapped at n) in
    subst P (sym number)
    (run_trapped row kind at (read_more start rows row m r s w src now k u opened gave few) (are_ended start rows m r w src k u)
    (record { charged = charged; traps = run_more start rows row m r w src k u (Trapped kind at charged) is [] ∙ ap (λ os. os ++ Trapped kind at charged ∷ []) (sym (run_is start rows m r w src k u)) })
    (stays ∙ u.faults))

steps_by : (start : Start) (rows : List (List ℤ)) (row : List ℤ) (tick : ℕ) (m n : Whole) (r s : Reader) (w v : ℕ) (src now : SourceTold) (k l : SinkTold) (o : Ticked) (result : Result (Option Ending) Failed) →
    IsUnderWay start rows m r w src k → tick_of m row start.most ≡ o → r.ended ≡ false → GaveRow r s (unread r src.left) now.left row → now.faults ≡ src.faults →
    length s.kept ≤ 2048 → tick ≡ length rows → TickComes o tick m n w v k l result → StepComes start rows n s v now l result
steps_by start rows row tick m n r s w v src now k l (Ends cycles outputs state) (Ok None) u is opened gave stays few number h =
    (row, ticked start rows row outputs cycles tick state m n r s w v src now k l u is opened gave stays number h.0 h.1 h.2)
steps_by start rows row tick m n r s w v src now k l (Ends cycles outputs state) (Ok (Some e)) u is opened gave stays few number h = absurd h
steps_by start rows row tick m n r s w v src now k l (Ends cycles outputs state) (Err failed) u is opened gave stays few number h =
    tick_breaks start rows row outputs cycles tick state m r s w src now k l u is opened gave stays few number h
steps_by start rows row tick m n r s w v src now k l (Trapped kind at charged) result u is opened gave stays few number h =
    says_last start rows m n r s w v src now k l (end.Trapped at tick) (line_of (end.Trapped at tick)) result u
    (trap_ends start rows row kind at charged tick m r s w src now k u is opened gave stays few number) h

-- the next row was read, and its tick done
pub steps : (start : Start) (rows : List (List ℤ)) (row : List ℤ) (tick : ℕ) (m n : Whole) (r s : Reader) (w v : ℕ) (src now : SourceTold) (k l : SinkTold) (result : Result (Option Ending) Failed) →
    IsUnderWay start rows m r w src k → r.ended ≡ false → GaveRow r s (unread r src.left) now.left row → now.faults ≡ src.faults →
    length s.kept ≤ 2048 → tick + 1 ≡ s.given → TickComes (tick_of m row start.most) tick m n w v k l result → StepComes start rows n s v now l result
steps start rows row tick m n r s w v src now k l result u opened gave stays few number h =
    let count : tick ≡ length rows = omega (arith, number, ap (λ (t : Reader). t.given) gave.reader, u.given.counted) in
    steps_by start rows row tick m n r s w v src now k l _ result u refl opened gave stays few count h

-- ---- the other answers of the reader

has_ticked : (start : Start) (rows : List (List ℤ)) (m : Whole) (r s : Reader) (w : ℕ) (src now : SourceTold) (k : SinkTold) →
    IsUnderWay start rows m r w src k → Keeps (unread r src.left) (unread s now.left) → length s.kept ≤ 2048 → HasTicked start.image start.costs start.most rows start.source now
has_ticked start rows m r s w src now k u keeps few =
    record { read = pulled_few _ _ r s src.left now.left rows u.given keeps few; ended = are_ended start rows m r w src k u }

-- the end was met, now or before
pub record IsRead (width : ℕ) (before now : Option (List ℕ)) (given : ℕ) (rows : List (List ℤ)) : Type 0 where
  pub whole : IsWhole width before now rows
  pub read : HasRead width before now rows
  pub count : given ≡ length rows

pub read_by : (width : ℕ) (before : Option (List ℕ)) (r s : Reader) (now then : SourceTold) (rows : List (List ℤ)) (b : Bool) → r.ended ≡ b →
    HasGiven width before r now.left rows → (r.ended ≡ true → (s ≡ r) × (then ≡ now)) → (r.ended ≡ false → MetEnd r s (unread r now.left) then.left) →
    length r.kept ≤ 2048 → length s.kept ≤ 2048 → IsRead width before then.left s.given rows
read_by width before r s now then rows false is h again met few_before few =
    let m = met is in
    record {
      whole = ends_with_all width before r s now.left then.left rows h m;
      read = pulled_few width before r s now.left then.left rows h m.unread few;
      count = ap (λ (t : Reader). t.given) m.reader ∙ sym h.counted;
    }
read_by width before r s now then rows true is h again met few_before few =
    let same = again is in
    let P : SourceTold → Type 0 = λ t. IsRead width before t.left s.given rows in
    subst P (sym same.1) (record {
      whole = ended_with_all width before r now.left rows h (h.over is);
      read = pulls_few width before r now.left rows h few_before;
      count = ap (λ (t : Reader). t.given) same.0 ∙ sym h.counted;
    })

pub says_worst : (start : Start) (rows : List (List ℤ)) (m : Whole) (r s : Reader) (w ticks : ℕ) (src now : SourceTold) (k l : SinkTold) (result : Result (Option Ending) Failed) →
    IsUnderWay start rows m r w src k → IsRead (length start.image.inputs) start.source.left now.left s.given rows → now.faults ≡ src.faults → ticks ≡ s.given →
    SaysLast end.Done (worst_line ticks w) k l result → StepComes start rows m s w now l result
says_worst start rows m r s w ticks src now k l result u read stays count h =
    let same : told u.outcomes ≡ told (run_of start.image start.costs start.most rows) = ap told (sym (run_is start rows m r w src k u)) in
    let line : worst_line ticks w ≡ last_line (told (run_of start.image start.costs start.most rows)) =
    ap (λ n. worst_line n w) (count ∙ read.count ∙ sym u.count ∙ sym (told_count u.outcomes u.ended))
    ∙ ap (λ n. worst_line (length (told u.outcomes)) n) u.worst_is
    ∙ ap last_line same in
    let P : List ℕ → Type 0 = λ t. SaysLast end.Done t k l result in
    says_last start rows m m r s w w src now k l end.Done _ result u
    (run_done (record { read = read.read; ended = are_ended start rows m r w src k u }) read.whole (stays ∙ u.faults)) (subst P line h)

pub says_bad : (start : Start) (rows : List (List ℤ)) (m : Whole) (r s : Reader) (w rule number : ℕ) (src now : SourceTold) (k l : SinkTold) (result : Result (Option Ending) Failed) →
    IsUnderWay start rows m r w src k → RefusedLine r s (unread r src.left) now.left rule number → length s.kept ≤ 2048 → now.faults ≡ src.faults →
    SaysLast (end.BadTrace rule number) (line_of (end.BadTrace rule number)) k l result → StepComes start rows m s w now l result
says_bad start rows m r s w rule number src now k l result u bad few stays h =
    says_last start rows m m r s w w src now k l (end.BadTrace rule number) _ result u
    (run_bad rule number (has_ticked start rows m r s w src now k u bad.unread few) (refuses_the_first _ _ r s src.left now.left rows rule number u.given bad) (stays ∙ u.faults)) h

pub says_fault : (start : Start) (rows : List (List ℤ)) (m : Whole) (r s : Reader) (w : ℕ) (src now : SourceTold) (k l : SinkTold) (result : Result (Option Ending) Failed) →
    IsUnderWay start rows m r w src k → r.ended ≡ false → MetFault r s (unread r src.left) now.left (Rose src.faults now.faults) → src.faults ≤ now.faults → length s.kept ≤ 2048 →
    SaysLast end.ReadFault (line_of end.ReadFault) k l result → StepComes start rows m s w now l result
says_fault start rows m r s w src now k l result u opened fault later few h =
    let R : ℕ → Type 0 = λ n. Rose n now.faults in
    let L : ℕ → Type 0 = λ n. n ≤ now.faults in
    says_last start rows m m r s w w src now k l end.ReadFault _ result u
    (run_fault (has_ticked start rows m r s w src now k u fault.unread few) (fails_after_whole _ _ r s src.left now.left rows src.faults now.faults opened u.given fault)
    (record { later = subst L u.faults later; rose = subst R u.faults fault.counted })) h

-- ---- whether the reader had met the end

pub opened_by : (b : Bool) → (b ≡ true → ⊥) → b ≡ false
opened_by false h = refl
opened_by true h = absurd (h refl)

-- ---- a run that begins

pub begins : (start : Start) (m : Whole) (r : Reader) → m ≡ fresh start.image start.costs → r ≡ begun (length start.image.inputs) →
    IsUnderWay start [] m r 0 start.source start.sink
begins start m r fresh_is begun_is =
    let P : Reader → Type 0 = λ t. HasGiven (length start.image.inputs) start.source.left t start.source.left [] in
    record {
      outcomes = [];
      image_is = ap (λ (w : Whole). w.image) fresh_is;
      costs_is = ap (λ (w : Whole). w.costs) fresh_is;
      going = ap (λ (w : Whole). w.trap) fresh_is;
      run = λ more. ap (λ s. ticks_from start.image start.costs start.most s more) (sym (ap (λ (w : Whole). w.state) fresh_is));
      ended = tt;
      count = refl;
      given = subst P (sym begun_is) (begins_with_none (length start.image.inputs) start.source.left);
      faults = refl;
      wrote = wrote_none start.sink;
      worst_is = refl;
    }
