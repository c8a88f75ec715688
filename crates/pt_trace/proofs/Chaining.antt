-- Calls one after another give the rows of a trace.
use Rattle.std.proofs.Common.{◌≡◌, ◌≤◌, ◌+◌, ℕ, ℤ, suc, Bool, true, false, not, List, [], ◌∷◌, ◌++◌, length, Option, Some, None, refl, sym, ap, subst, ◌∙◌, append_assoc, append-nil, length-append, add-zero, arith}
use Rattle.std.specs.List.{flat_map}
use Rattle.std.proofs.lemmas.Grind.{flat_map-append}
use Rattle.std.specs.Io.KnownBytes.{Keeps, IsAtEnd, prepend_known}
use Rattle.pt_trace.specs.Trace as trace
use Rattle.pt_trace.specs.Trace.{Line, lines, Reading, Row, reading}
use Rattle.pt_trace.specs.Rows.{BadLine, Rows, onto, rows_from}
use Rattle.pt_trace.specs.Next.{Reader, unread, bytes_of, Gives, Begins, IsOver, GaveRow, MetEnd, RefusedLine, MetFault}
use Rattle.pt_trace.specs.Given.{AreFirst, Begin, HasLines, GiveRows, AllEnded, HasGiven, IsWhole, IsBad, IsCut, HasRead}
use Rattle.pt_trace.specs.Readings.{begun, BeginsWithNone, GivesOneMore, EndsWithAll, EndedWithAll, RefusesTheFirst, FailsAfterWhole, PullsFew, PulledFew}

-- ---- the rows of lines before lines

abbrev unless_bad : List (List ℤ) → Option BadLine → Rows → Rows
unless_bad rows None more = record { rows = rows ++ more.rows; bad = more.bad }
unless_bad rows (Some b) more = record { rows = rows; bad = Some b }

abbrev joined : Rows → Rows → Rows
joined a b = unless_bad a.rows a.bad b

row-joined : (row : List ℤ) (rows : List (List ℤ)) (bad : Option BadLine) (b : Rows) →
    record { rows = row ∷ (unless_bad rows bad b).rows; bad = (unless_bad rows bad b).bad } ≡ unless_bad (row ∷ rows) bad b
row-joined row rows None b = refl
row-joined row rows (Some bad) b = refl

onto-joined : (k : ℕ) (o : Reading) (a b : Rows) → onto k o (joined a b) ≡ joined (onto k o a) b
onto-joined k (Row row) a b = row-joined row a.rows a.bad b
onto-joined k (trace.Refused rule) a b = refl

rows-append : (width k : ℕ) (ls ms : List Line) → rows_from width k (ls ++ ms) ≡ joined (rows_from width k ls) (rows_from width (k + length ls) ms)
rows-append width k [] ms = ap (λ n. rows_from width n ms) (sym (add-zero k))
rows-append width k (l ∷ ls) ms =
    let e : k + 1 + length ls ≡ k + suc (length ls) = omega arith in
    ap (onto k (reading width k l)) (rows-append width (k + 1) ls ms)
    ∙ onto-joined k (reading width k l) (rows_from width (k + 1) ls) (rows_from width (k + 1 + length ls) ms)
    ∙ ap (λ n. joined (onto k (reading width k l) (rows_from width (k + 1) ls)) (rows_from width n ms)) e

-- lines after those that gave these rows
more_rows : (width given : ℕ) (ls ms : List Line) (rows : List (List ℤ)) (more : Rows) → GiveRows width ls rows → length ls ≡ given → rows_from width (given + 1) ms ≡ more →
    rows_from width 1 (ls ++ ms) ≡ record { rows = rows ++ more.rows; bad = more.bad }
more_rows width given ls ms rows more gave count is =
    let e : 1 + length ls ≡ given + 1 = omega (arith, count) in
    rows-append width 1 ls ms
    ∙ ap (λ a. joined a (rows_from width (1 + length ls) ms)) gave
    ∙ ap (λ n. unless_bad rows None (rows_from width n ms)) e
    ∙ ap (λ m. unless_bad rows None m) is

one_row : (width k : ℕ) (l : Line) (row : List ℤ) → reading width k l ≡ Row row → rows_from width k (l ∷ []) ≡ record { rows = row ∷ []; bad = None }
one_row width k l row h = ap (λ o. onto k o (rows_from width (k + 1) [])) h

one_bad : (width k rule number : ℕ) (l : Line) (ls : List Line) → number ≡ k → reading width number l ≡ trace.Refused rule →
    rows_from width k (l ∷ ls) ≡ record { rows = []; bad = Some (record { rule = rule; line = number }) }
one_bad width k rule number l ls n h =
    ap (λ m. onto k (reading width m l) (rows_from width (k + 1) ls)) (sym n)
    ∙ ap (λ o. onto k o (rows_from width (k + 1) ls)) h
    ∙ ap (λ m. record { rows = []; bad = Some (record { rule = rule; line = m }) }) (sym n)

-- ---- the lines of the bytes

one_line : (before now then : Option (List ℕ)) (ls : List Line) (l : Line) → Begin before ls now → Gives now l then → Begin before (ls ++ l ∷ []) then
one_line None now then ls l f g = tt
one_line (Some xs) None then ls l f g = absurd f
one_line (Some xs) (Some ys) None ls l f g = absurd g
one_line (Some xs) (Some ys) (Some zs) ls l f g = record {
  cut =
      f.cut
      ∙ ap (λ t. flat_map bytes_of ls ++ t) g.cut
      ∙ sym (append_assoc (flat_map bytes_of ls) (bytes_of l) zs)
      ∙ ap (λ t. (flat_map bytes_of ls ++ t) ++ zs) (sym (append-nil (bytes_of l)))
      ∙ ap (λ t. t ++ zs) (sym (flat_map-append bytes_of ls (l ∷ [])));
  split = f.split ∙ ap (λ t. ls ++ t) g.line ∙ sym (append_assoc ls (l ∷ []) (lines zs));
}

all_lines : (before now : Option (List ℕ)) (ls : List Line) → Begin before ls now → IsAtEnd now → HasLines before ls
all_lines None now ls f end = tt
all_lines (Some xs) None ls f end = absurd f
all_lines (Some xs) (Some ys) ls f end = f.split ∙ ap (λ t. ls ++ lines t) end ∙ append-nil ls

nothing_lost : (before now then : Option (List ℕ)) (ls : List Line) → Begin before ls now → Keeps now then → Begin before ls then
nothing_lost None now then ls f k = tt
nothing_lost (Some xs) None then ls f k = absurd f
nothing_lost (Some xs) (Some ys) None ls f k = absurd k
nothing_lost (Some xs) (Some ys) (Some zs) ls f k = subst (λ t. AreFirst ls xs t) (sym k) f

none_unread : (kept : List ℕ) (now : Option (List ℕ)) → kept ≡ [] → IsAtEnd now → IsAtEnd (prepend_known kept now)
none_unread kept None k end = tt
none_unread kept (Some ys) k end = ap (λ t. t ++ ys) k ∙ end

abbrev lines_after : (now : Option (List ℕ)) (l : Line) → Begins now l → List Line
lines_after None l g = []
lines_after (Some ys) l g = g.0

all_with_bad : (before now : Option (List ℕ)) (ls : List Line) (l : Line) (f : Begin before ls now) (g : Begins now l) → HasLines before (ls ++ l ∷ lines_after now l g)
all_with_bad None now ls l f g = tt
all_with_bad (Some xs) None ls l f g = absurd f
all_with_bad (Some xs) (Some ys) ls l f g = f.split ∙ ap (λ t. ls ++ t) g.1

-- ---- ends of lines

not-false : (t : Bool) → not t ≡ false → t ≡ true
not-false true e = refl
not-false false e = absurd (cc)

one_ended : (ls : List Line) (l : Line) → AllEnded ls → l.ended ≡ true → AllEnded (ls ++ l ∷ [])
one_ended [] l all e = (e, tt)
one_ended (m ∷ ls) l all e = (all.0, one_ended ls l all.1 e)

-- ---- the laws

begin_none : (before : Option (List ℕ)) → Begin before [] (prepend_known [] before)
begin_none None = tt
begin_none (Some xs) = record { cut = refl; split = refl }

pub begins_with_none : BeginsWithNone
begins_with_none width before = record {
  lines = [];
  first = begin_none before;
  gave = refl;
  count = refl;
  counted = refl;
  width_is = refl;
  no_fault = refl;
  whole = λ e. tt;
  over = λ e. absurd (cc (e));
}

pub gives_one_more : GivesOneMore
gives_one_more width before r s now then rows row opened h g =
    let reads : reading width (r.given + 1) g.line ≡ Row row = ap (λ w. reading w (r.given + 1) g.line) (sym h.width_is) ∙ g.reads in
    record {
      lines = h.lines ++ g.line ∷ [];
      first = one_line before (unread r now) (unread s then) h.lines g.line h.first g.first;
      gave = more_rows width r.given h.lines (g.line ∷ []) rows _ h.gave h.count (one_row width (r.given + 1) g.line row reads);
      count = length-append h.lines (g.line ∷ []) ∙ ap (λ n. n + 1) h.count ∙ sym (ap (λ (t : Reader). t.given) g.reader);
      counted = length-append rows (row ∷ []) ∙ ap (λ n. n + 1) h.counted ∙ sym (ap (λ (t : Reader). t.given) g.reader);
      width_is = ap (λ (t : Reader). t.width) g.reader ∙ h.width_is;
      no_fault = ap (λ (t : Reader). t.fault) g.reader ∙ h.no_fault;
      whole = λ e. one_ended h.lines g.line (h.whole opened) (not-false g.line.ended (sym g.ended ∙ e));
      over = g.over;
    }

pub ends_with_all : EndsWithAll
ends_with_all width before r s now then rows h m = record {
  lines = h.lines;
  all = all_lines before (unread r now) h.lines h.first m.all_read;
  gave = h.gave;
  ended = m.over.none_left;
}

pub ended_with_all : EndedWithAll
ended_with_all width before r now rows h o = record {
  lines = h.lines;
  all = all_lines before (unread r now) h.lines h.first (none_unread r.kept now o.none_kept o.none_left);
  gave = h.gave;
  ended = o.none_left;
}

pub refuses_the_first : RefusesTheFirst
refuses_the_first width before r s now then rows rule number h f =
    let rest = lines_after (unread r now) f.line f.first in
    let refused : reading width number f.line ≡ trace.Refused rule = ap (λ w. reading w number f.line) (sym h.width_is) ∙ f.refused in
    record {
      lines = h.lines ++ f.line ∷ rest;
      all = all_with_bad before (unread r now) h.lines f.line h.first f.first;
      bad =
          more_rows width r.given h.lines (f.line ∷ rest) rows _ h.gave h.count (one_bad width (r.given + 1) rule number f.line rest f.is_next refused)
          ∙ ap (λ l. record { rows = l; bad = Some (record { rule = rule; line = number }) }) (append-nil rows);
    }

pub fails_after_whole : FailsAfterWhole
fails_after_whole width before r s now then rows a b opened h f = record {
  lines = h.lines;
  unfinished = s.kept;
  pulled = nothing_lost before (unread r now) (unread s then) h.lines h.first f.unread;
  gave = h.gave;
  whole = h.whole opened;
  not_whole = f.no_line;
}

pub pulls_few : PullsFew
pulls_few width before r now rows h few = record {
  lines = h.lines;
  ahead = r.kept;
  pulled = h.first;
  gave = h.gave;
  count = h.count ∙ sym h.counted;
  few_ahead = few;
}

pub pulled_few : PulledFew
pulled_few width before r s now then rows h keeps few = record {
  lines = h.lines;
  ahead = s.kept;
  pulled = nothing_lost before (unread r now) (unread s then) h.lines h.first keeps;
  gave = h.gave;
  count = h.count ∙ sym h.counted;
  few_ahead = few;
}
