-- What one step of a meaning does.
use Rattle.std.proofs.Common.{◌≡◌, ◌≤◌, ◌+◌, ℕ, ℤ, suc, false, List, [], ◌∷◌, ◌++◌, length, map, Option, Some, None, Result, Ok, Err, refl, sym, ap, subst, ◌∙◌, append_assoc, append-nil, length-append, add-zero, arith}
use Rattle.std.specs.Io.KnownBytes.{Keeps}
use Rattle.pt_outside.specs.Counts.{Rose}
use Rattle.pt_outside.specs.Told.{SourceTold, SinkTold}
use Rattle.pt_outside.specs.declared.traits.Failed.{Failed}
use Rattle.pt_trace.specs.Next.{Reader, unread, GaveRow, RefusedLine, MetFault, Next, Stays}
use Rattle.pt_trace.specs.declared.reader.TraceFault.{TraceFault}
use Rattle.pt_trace.specs.declared.reader.TraceFault.TheVariants.{Refused, ReadFault}
use Rattle.pt_trace.specs.Given.{HasGiven, HasRead}
use Rattle.pt_trace.specs.Readings.{begun}
use Rattle.pt_trace.specs.Report.{tick_line, ticks_line}
use Rattle.pt_trace.proofs.Chaining.{begins_with_none, gives_one_more, refuses_the_first, fails_after_whole, pulls_few, pulled_few}
use Rattle.pc_meaning.specs.Tree.{Program}
use Rattle.pc_meaning.specs.Runs.{Moment, before_ticks, ticked, outputs_at, moments_from, meaning_of}
use Rattle.pc_meaning.specs.Programs.{program_of}
use Rattle.pc_meaning.specs.Moments.{State, moment}
use Rattle.pretc_run.specs.declared.endings.Ending.{Ending}
use Rattle.pretc_run.specs.declared.endings.Ending.TheVariants as end
use Rattle.pretc_run.specs.Endings.{line_of}
use Rattle.pretc_run.specs.Writing.{Wrote, BrokeOff}
use Rattle.pretc_run.specs.UnderWay.{SaysLast}
use Rattle.pretc_run.specs.Meant.{plain_lines, meant_lines, width_of, MeanEnds, mean_done, mean_bad, mean_fault, mean_lacks, next_meant, next_end, MeanBreaks, MeanWrote}
use Rattle.pretc_run.specs.MeanUnderWay.{ending_of, MeanStart, IsMeaning, SaysTick, MeanTickComes, tick_meant, tick_lacks, MeanStepComes}
use Rattle.pretc_run.proofs.Written.{wrote_none, wrote_both, wrote_broke}
use Rattle.pretc_run.proofs.Stepping.{IsRead}

plain_lines_push : (k : ℕ) (ts : List (List ℤ)) (o : List ℤ) → plain_lines k (ts ++ o ∷ []) ≡ plain_lines k ts ++ tick_line (k + length ts) o None ∷ []
plain_lines_push k [] o = ap (λ n. tick_line n o None ∷ []) (sym (add-zero k))
plain_lines_push k (x ∷ ts) o =
    let e : k + 1 + length ts ≡ k + suc (length ts) = omega arith in
    ap (λ l. tick_line k x None ∷ l) (plain_lines_push (k + 1) ts o ∙ ap (λ n. plain_lines (k + 1) ts ++ tick_line n o None ∷ []) e)

-- ---- the last line

pub says_end : (start : MeanStart) (rows : List (List ℤ)) (s t : State) (r q : Reader) (src now : SourceTold) (k l : SinkTold) (e : Ending) (line : List ℕ) (result : Result (Option Ending) Failed) →
    IsMeaning start rows s r src k → MeanEnds start.program rows start.source now line e → SaysLast e line k l result → MeanStepComes start rows t q now l result
says_end start rows s t r q src now k l e line (Ok None) u ends h = absurd h
says_end start rows s t r q src now k l e line (Ok (Some ending)) u ends h =
    let P : Ending → Type 0 = λ x. MeanWrote start.program start.source now start.sink l x in
    subst P (sym h.0) (record {
      rows = rows;
      last = line;
      ends = ends;
      wrote = wrote_both start.sink k l (meant_lines start.program rows) (line ∷ []) u.wrote h.1;
    })
says_end start rows s t r q src now k l e line (Err failed) u ends h =
    let P : List (List ℕ) → Type 0 = λ xs. BrokeOff start.sink l xs line in
    record {
      rows = rows;
      next = line;
      is_next = next_end e line ends;
      broke = subst P (append-nil (meant_lines start.program rows)) (wrote_broke start.sink k l (meant_lines start.program rows) [] line u.wrote h);
    }

-- ---- a tick

-- the meaning on one row more
means_more : (start : MeanStart) (rows : List (List ℤ)) (row : List ℤ) (s : State) (after : Moment) (r : Reader) (src : SourceTold) (k : SinkTold) → IsMeaning start rows s r src k →
    after ≡ ticked start.program (moment s) row → meaning_of start.program (rows ++ row ∷ []) ≡ meaning_of start.program rows ++ outputs_at start.program after ∷ []
means_more start rows row s after r src k u went =
    u.meant (row ∷ []) ∙ ap (λ m. meaning_of start.program rows ++ outputs_at start.program m ∷ []) (sym went)

-- the rows that were read, with one more
reads_more : (start : MeanStart) (rows : List (List ℤ)) (row : List ℤ) (s : State) (r q : Reader) (src now : SourceTold) (k : SinkTold) → IsMeaning start rows s r src k → r.ended ≡ false →
    GaveRow r q (unread r src.left) now.left row → length q.kept ≤ 2048 → HasRead (width_of start.program) start.source.left now.left (rows ++ row ∷ [])
reads_more start rows row s r q src now k u opened gave few =
    pulls_few _ _ q now.left (rows ++ row ∷ []) (gives_one_more _ _ r q src.left now.left rows row opened u.given gave) few

-- the tick on one row more is done, and its line is written
means_tick : (start : MeanStart) (rows : List (List ℤ)) (row : List ℤ) (tick : ℕ) (s t : State) (r q : Reader) (src now : SourceTold) (k l : SinkTold) → IsMeaning start rows s r src k →
    t.typing ≡ s.typing → r.ended ≡ false → GaveRow r q (unread r src.left) now.left row → now.faults ≡ src.faults → tick ≡ length rows → moment t ≡ ticked start.program (moment s) row →
    Wrote k l (tick_line tick (outputs_at start.program (moment t)) None ∷ []) → IsMeaning start (rows ++ row ∷ []) t q now l
means_tick start rows row tick s t r q src now k l u typing opened gave stays number went wrote =
    let p : Program = start.program in
    let outputs : List ℤ = outputs_at p (moment t) in
    let more_is : meaning_of p (rows ++ row ∷ []) ≡ meaning_of p rows ++ outputs ∷ [] = means_more start rows row s (moment t) r src k u went in
    let place : 0 + length (meaning_of p rows) ≡ tick = omega (arith, u.count, number) in
    let lines : meant_lines p (rows ++ row ∷ []) ≡ meant_lines p rows ++ tick_line tick outputs None ∷ [] =
    ap (plain_lines 0) more_is ∙ plain_lines_push 0 (meaning_of p rows) outputs ∙ ap (λ n. meant_lines p rows ++ tick_line n outputs None ∷ []) place in
    let P : List (List ℕ) → Type 0 = λ xs. Wrote start.sink l xs in
    record {
      program_is = ap program_of typing ∙ u.program_is;
      meant = λ more.
          let rest : Moment → List (List ℤ) = λ m. map (outputs_at p) (moments_from p m more) in
          ap (meaning_of p) (append_assoc rows (row ∷ []) more)
          ∙ u.meant (row ∷ more)
          ∙ ap (λ m. meaning_of p rows ++ outputs_at p m ∷ rest m) (sym went)
          ∙ sym (append_assoc (meaning_of p rows) (outputs ∷ []) (rest (moment t)))
          ∙ ap (λ l. l ++ rest (moment t)) (sym more_is);
      count = ap length more_is ∙ length-append (meaning_of p rows) (outputs ∷ []) ∙ ap (λ n. n + 1) u.count ∙ sym (length-append rows (row ∷ []));
      given = gives_one_more _ _ r q src.left now.left rows row opened u.given gave;
      faults = stays ∙ u.faults;
      wrote = subst P (sym lines) (wrote_both start.sink k l (meant_lines p rows) (tick_line tick outputs None ∷ []) u.wrote wrote);
    }

-- the tick on one row more is done, and its line broke off
means_break : (start : MeanStart) (rows : List (List ℤ)) (row : List ℤ) (tick : ℕ) (s : State) (after : Moment) (r q : Reader) (src now : SourceTold) (k l : SinkTold) → IsMeaning start rows s r src k →
    r.ended ≡ false → GaveRow r q (unread r src.left) now.left row → now.faults ≡ src.faults → length q.kept ≤ 2048 → tick ≡ length rows → after ≡ ticked start.program (moment s) row →
    BrokeOff k l [] (tick_line tick (outputs_at start.program after) None) → MeanBreaks start.program start.source now start.sink l
means_break start rows row tick s after r q src now k l u opened gave stays few number went broke =
    let p : Program = start.program in
    let outputs : List ℤ = outputs_at p after in
    let line : List ℕ = tick_line (length rows) outputs None in
    let B : ℕ → Type 0 = λ n. BrokeOff k l [] (tick_line n outputs None) in
    let P : List (List ℕ) → Type 0 = λ xs. BrokeOff start.sink l xs line in
    record {
      rows = rows;
      next = line;
      is_next = next_meant row outputs (reads_more start rows row s r q src now k u opened gave few) (means_more start rows row s after r src k u went) (stays ∙ u.faults);
      broke = subst P (append-nil (meant_lines p rows)) (wrote_broke start.sink k l (meant_lines p rows) [] line u.wrote (subst B number broke));
    }

by_line : (start : MeanStart) (rows : List (List ℤ)) (row : List ℤ) (tick : ℕ) (s t : State) (r q : Reader) (src now : SourceTold) (k l : SinkTold) (result : Result (Option Ending) Failed) →
    IsMeaning start rows s r src k → t.typing ≡ s.typing → r.ended ≡ false → GaveRow r q (unread r src.left) now.left row → now.faults ≡ src.faults → length q.kept ≤ 2048 → tick ≡ length rows →
    moment t ≡ ticked start.program (moment s) row → SaysTick (tick_line tick (outputs_at start.program (moment t)) None) k l result → MeanStepComes start rows t q now l result
by_line start rows row tick s t r q src now k l (Ok None) u typing opened gave stays few number went h =
    (row, means_tick start rows row tick s t r q src now k l u typing opened gave stays number went h)
by_line start rows row tick s t r q src now k l (Ok (Some e)) u typing opened gave stays few number went h = absurd h
by_line start rows row tick s t r q src now k l (Err failed) u typing opened gave stays few number went h =
    means_break start rows row tick s (moment t) r q src now k l u opened gave stays few number went h

by_tick : (start : MeanStart) (rows : List (List ℤ)) (row : List ℤ) (tick : ℕ) (s t : State) (r q : Reader) (src now : SourceTold) (k l : SinkTold) (result : Result (Option Ending) Failed) →
    IsMeaning start rows s r src k → t.typing ≡ s.typing → r.ended ≡ false → GaveRow r q (unread r src.left) now.left row → now.faults ≡ src.faults → length q.kept ≤ 2048 → tick ≡ length rows →
    MeanTickComes start.program row tick (moment s) (moment t) k l result → MeanStepComes start rows t q now l result
by_tick start rows row tick s t r q src now k l result u typing opened gave stays few number (tick_meant went said) =
    by_line start rows row tick s t r q src now k l result u typing opened gave stays few number went said
by_tick start rows row tick s t r q src now k l result u typing opened gave stays few number (tick_lacks said) =
    says_end start rows s t r q src now k l end.WantOfMemory (line_of end.WantOfMemory) result u (mean_lacks row (reads_more start rows row s r q src now k u opened gave few) (stays ∙ u.faults)) said

-- the next row was read, and its tick done
pub mean_steps : (start : MeanStart) (rows : List (List ℤ)) (row : List ℤ) (tick : ℕ) (s t : State) (r q : Reader) (src now : SourceTold) (k l : SinkTold) (result : Result (Option Ending) Failed) →
    IsMeaning start rows s r src k → t.typing ≡ s.typing → r.ended ≡ false → GaveRow r q (unread r src.left) now.left row → now.faults ≡ src.faults → length q.kept ≤ 2048 → tick + 1 ≡ q.given →
    MeanTickComes (program_of s.typing) row tick (moment s) (moment t) k l result → MeanStepComes start rows t q now l result
mean_steps start rows row tick s t r q src now k l result u typing opened gave stays few number h =
    let count : tick ≡ length rows = omega (arith, number, ap (λ (x : Reader). x.given) gave.reader, u.given.counted) in
    let P : Program → Type 0 = λ p. MeanTickComes p row tick (moment s) (moment t) k l result in
    by_tick start rows row tick s t r q src now k l result u typing opened gave stays few count (subst P u.program_is h)

-- ---- the other answers of the reader

reads_same : (start : MeanStart) (rows : List (List ℤ)) (s : State) (r q : Reader) (src now : SourceTold) (k : SinkTold) →
    IsMeaning start rows s r src k → Keeps (unread r src.left) (unread q now.left) → length q.kept ≤ 2048 → HasRead (width_of start.program) start.source.left now.left rows
reads_same start rows s r q src now k u keeps few = pulled_few _ _ r q src.left now.left rows u.given keeps few

pub mean_is_done : (start : MeanStart) (rows : List (List ℤ)) (s : State) (r q : Reader) (ticks : ℕ) (src now : SourceTold) (k l : SinkTold) (result : Result (Option Ending) Failed) →
    IsMeaning start rows s r src k → IsRead (width_of start.program) start.source.left now.left q.given rows → now.faults ≡ src.faults → ticks ≡ q.given →
    SaysLast end.Done (ticks_line ticks) k l result → MeanStepComes start rows s q now l result
mean_is_done start rows s r q ticks src now k l result u read stays count h =
    let P : List ℕ → Type 0 = λ t. SaysLast end.Done t k l result in
    says_end start rows s s r q src now k l end.Done (ticks_line (length rows)) result u (mean_done read.read read.whole (stays ∙ u.faults)) (subst P (ap ticks_line (count ∙ read.count)) h)

mean_is_bad : (start : MeanStart) (rows : List (List ℤ)) (s : State) (r q : Reader) (rule number : ℕ) (src now : SourceTold) (k l : SinkTold) (result : Result (Option Ending) Failed) →
    IsMeaning start rows s r src k → RefusedLine r q (unread r src.left) now.left rule number → length q.kept ≤ 2048 → now.faults ≡ src.faults →
    SaysLast (end.BadTrace rule number) (line_of (end.BadTrace rule number)) k l result → MeanStepComes start rows s q now l result
mean_is_bad start rows s r q rule number src now k l result u bad few stays h =
    says_end start rows s s r q src now k l (end.BadTrace rule number) _ result u
    (mean_bad rule number (reads_same start rows s r q src now k u bad.unread few) (refuses_the_first _ _ r q src.left now.left rows rule number u.given bad) (stays ∙ u.faults)) h

mean_is_cut : (start : MeanStart) (rows : List (List ℤ)) (s : State) (r q : Reader) (src now : SourceTold) (k l : SinkTold) (result : Result (Option Ending) Failed) →
    IsMeaning start rows s r src k → r.ended ≡ false → MetFault r q (unread r src.left) now.left (Rose src.faults now.faults) → src.faults ≤ now.faults → length q.kept ≤ 2048 →
    SaysLast end.ReadFault (line_of end.ReadFault) k l result → MeanStepComes start rows s q now l result
mean_is_cut start rows s r q src now k l result u opened fault later few h =
    let R : ℕ → Type 0 = λ n. Rose n now.faults in
    let L : ℕ → Type 0 = λ n. n ≤ now.faults in
    says_end start rows s s r q src now k l end.ReadFault _ result u
    (mean_fault (reads_same start rows s r q src now k u fault.unread few) (fails_after_whole _ _ r q src.left now.left rows src.faults now.faults opened u.given fault)
    (record { later = subst L u.faults later; rose = subst R u.faults fault.counted })) h

pub mean_is_faulty : (start : MeanStart) (rows : List (List ℤ)) (s : State) (r q : Reader) (fault : TraceFault) (row : List ℤ) (src now : SourceTold) (k l : SinkTold) (result : Result (Option Ending) Failed) →
    IsMeaning start rows s r src k → r.ended ≡ false → Next r q src now row (Err fault) → Stays src.faults now.faults (Err fault) → src.faults ≤ now.faults → length q.kept ≤ 2048 →
    SaysLast (ending_of fault) (line_of (ending_of fault)) k l result → MeanStepComes start rows s q now l result
mean_is_faulty start rows s r q (Refused rule number) row src now k l result u opened answer stays later few h = mean_is_bad start rows s r q rule number src now k l result u answer few stays h
mean_is_faulty start rows s r q ReadFault row src now k l result u opened answer stays later few h = mean_is_cut start rows s r q src now k l result u opened answer later few h

-- ---- a meaning that begins

pub mean_begins : (start : MeanStart) (s : State) (r : Reader) → program_of s.typing ≡ start.program → moment s ≡ before_ticks start.program → r ≡ begun (width_of start.program) →
    IsMeaning start [] s r start.source start.sink
mean_begins start s r program_is stands begun_is =
    let p : Program = start.program in
    let P : Reader → Type 0 = λ t. HasGiven (width_of p) start.source.left t start.source.left [] in
    record {
      program_is = program_is;
      meant = λ more. ap (λ m. map (outputs_at p) (moments_from p m more)) (sym stands);
      count = refl;
      given = subst P (sym begun_is) (begins_with_none (width_of p) start.source.left);
      faults = refl;
      wrote = wrote_none start.sink;
    }
