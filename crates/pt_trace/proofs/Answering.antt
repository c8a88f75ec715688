-- What a call answers, from what was found in the bytes that are kept.
use Rattle.std.proofs.Common.{◌≡◌, ◌+◌, ◌<◌, ℕ, ℤ, true, false, List, [], Option, Some, None, length, take, drop, refl, sym, ap, ◌∙◌, subst}
use Rattle.std.specs.Io.KnownBytes.{Keeps, IsAtEnd, prepend_known}
use Rattle.pt_trace.specs.Trace as trace
use Rattle.pt_trace.specs.Trace.{Line, reading, Row, Reading}
use Rattle.pt_trace.specs.Next.{Reader, unread, line_feed, Gives, Begins, GaveRow, RefusedLine}
use Rattle.pt_trace.specs.declared.reader.TraceFault.TheVariants.{Refused}
use Rattle.pt_trace.proofs.Cutting.{gives-ended, gives-last, begins-given, begins-last}

pub refuses : (r s : Reader) (before left : Option (List ℕ)) (width rule number : ℕ) (l : Line) → Begins before l → Keeps before (unread s left) →
    width ≡ r.width → number ≡ r.given + 1 → trace.Refused rule ≡ reading width number l → s ≡ record r { kept = s.kept; fault = Some (Refused rule number) } →
    RefusedLine r s before left rule number
refuses r s before left width rule number l begins lost wide next refused is =
    record {
      line = l;
      first = begins;
      is_next = next;
      refused = ap (λ (w : ℕ). reading w number l) (sym wide) ∙ sym refused;
      unread = lost;
      reader = is;
    }

-- a line that a line feed ends
pub refuses-ended : (r s : Reader) (before left : Option (List ℕ)) (bytes : List ℕ) (width at rule number : ℕ) →
    Keeps before (unread s left) → line_feed s.kept ≡ Some at → bytes ≡ s.kept → width ≡ r.width → number ≡ r.given + 1 →
    trace.Refused rule ≡ reading width number (record { bytes = take at bytes; ended = true }) → s ≡ record r { kept = s.kept; fault = Some (Refused rule number) } →
    RefusedLine r s before left rule number
refuses-ended r s before left bytes width at rule number lost found same wide next refused is =
    refuses r s before left width rule number (record { bytes = take at s.kept; ended = true }) (begins-given _ _ _ (gives-ended _ left s.kept at lost found)) lost
    wide next (refused ∙ ap (λ (bs : List ℕ). reading width number (record { bytes = take at bs; ended = true })) same) is

-- the last line, which has no line feed
pub refuses-last : (r s : Reader) (before left : Option (List ℕ)) (bytes : List ℕ) (width rule number : ℕ) →
    Keeps before (unread s left) → IsAtEnd left → line_feed s.kept ≡ None → 0 < length s.kept → bytes ≡ s.kept → width ≡ r.width → number ≡ r.given + 1 →
    trace.Refused rule ≡ reading width number (record { bytes = bytes; ended = false }) → s ≡ record r { kept = s.kept; fault = Some (Refused rule number) } →
    RefusedLine r s before left rule number
refuses-last r s before left bytes width rule number lost end none some same wide next refused is =
    refuses r s before left width rule number (record { bytes = s.kept; ended = false }) (begins-last _ left s.kept lost end none some) lost
    wide next (refused ∙ ap (λ (bs : List ℕ). reading width number (record { bytes = bs; ended = false })) same) is

pub gave-ended : (r s : Reader) (before left : Option (List ℕ)) (kept bytes : List ℕ) (row : List ℤ) (width at : ℕ) →
    Keeps before (prepend_known kept left) → line_feed kept ≡ Some at → bytes ≡ kept → width ≡ r.width →
    Row row ≡ reading width (r.given + 1) (record { bytes = take at bytes; ended = true }) → s ≡ record r { given = r.given + 1; kept = s.kept; ended = s.ended } →
    s.ended ≡ false → s.kept ≡ drop (at + 1) kept → GaveRow r s before left row
gave-ended r s before left kept bytes row width at keeps found same wide reads is still rest =
    let l : Line = record { bytes = take at kept; ended = true } in
    let P : List ℕ → Type 0 = λ bs. Gives before l (prepend_known bs left) in
    record {
      line = l;
      first = subst P (sym rest) (gives-ended _ left kept at keeps found);
      reads = ap (λ (w : ℕ). reading w (r.given + 1) l) (sym wide) ∙ sym (reads ∙ ap (λ (bs : List ℕ). reading width (r.given + 1) (record { bytes = take at bs; ended = true })) same);
      ended = still;
      over = λ e. absurd (cc (still, e));
      reader = is;
    }

pub gave-last : (r s : Reader) (before left : Option (List ℕ)) (kept bytes : List ℕ) (row : List ℤ) (width : ℕ) →
    Keeps before (prepend_known kept left) → IsAtEnd left → line_feed kept ≡ None → 0 < length kept → bytes ≡ kept → width ≡ r.width →
    Row row ≡ reading width (r.given + 1) (record { bytes = bytes; ended = false }) → s ≡ record r { given = r.given + 1; kept = s.kept; ended = s.ended } →
    s.ended ≡ true → s.kept ≡ [] → GaveRow r s before left row
gave-last r s before left kept bytes row width keeps end none some same wide reads is over rest =
    let l : Line = record { bytes = kept; ended = false } in
    let P : List ℕ → Type 0 = λ bs. Gives before l (prepend_known bs left) in
    record {
      line = l;
      first = subst P (sym rest) (gives-last _ left kept keeps end none some);
      reads = ap (λ (w : ℕ). reading w (r.given + 1) l) (sym wide) ∙ sym (reads ∙ ap (λ (bs : List ℕ). reading width (r.given + 1) (record { bytes = bs; ended = false })) same);
      ended = over;
      over = λ e. record { none_kept = rest; none_left = end };
      reader = is;
    }
