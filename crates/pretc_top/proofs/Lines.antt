-- A text that is pushed line by line.
use Rattle.std.proofs.Common.{◌≡◌, ◌==◌, ◌<◌, ◌≤◌, ◌+◌, ℕ, true, false, List, [], ◌∷◌, ◌++◌, length, take, drop, get_or, map, Some, None, Result, Ok, Err, refl, sym, ap, subst, ◌∙◌, append_assoc, append-nil, arith}
use Rattle.std.proofs.lemmas.List.{take_more, take_all, drop_all}
use Rattle.std.proofs.lemmas.List.Quantifiers.{position-Some}
use Rattle.std.proofs.lemmas.Bool.{eqb-true}
use Rattle.pt_outside.specs.Told.{SinkTold}
use Rattle.pt_outside.specs.declared.traits.Failed.{Failed}
use Rattle.pt_trace.specs.Trace.{Line, lines}
use Rattle.pt_trace.specs.Next.{line_feed, bytes_of}
use Rattle.pt_trace.proofs.Cutting.{first-ended, first-last}
use Rattle.pretc_run.specs.Writing.{Wrote, BrokeOff}
use Rattle.pretc_run.proofs.Written.{wrote_none, wrote_both, wrote_broke}
use Rattle.pretc_top.specs.Says.{lines_of, Pushes}

-- the first line ends with the first line feed
pub first_is_ended : (text : List ℕ) (at : ℕ) → line_feed text ≡ Some at → lines_of text ≡ take (at + 1) text ∷ lines_of (drop (at + 1) text)
first_is_ended text at found =
    let there = position-Some (λ b. b == 10) text at 0 found in
    let so : get_or text at 0 ≡ 10 = eqb-true (get_or text at 0) 10 there.1 in
    let cut : lines text ≡ record { bytes = take at text; ended = true } ∷ lines (drop (at + 1) text) =
    ap lines (sym (append-nil text)) ∙ (first-ended text [] at found).line ∙ ap (λ bs. record { bytes = take at text; ended = true } ∷ lines bs) (append-nil (drop (at + 1) text)) in
    ap (map bytes_of) cut ∙ ap (λ l. l ∷ lines_of (drop (at + 1) text)) (ap (λ b. take at text ++ b ∷ []) (sym so) ∙ sym (take_more text at 0 there.0))

pub within : (text : List ℕ) (at : ℕ) → line_feed text ≡ Some at → at < length text
within text at found = (position-Some (λ b. b == 10) text at 0 found).0

-- the last line has none
pub first_is_last : (text : List ℕ) → 0 < length text → line_feed text ≡ None → lines_of text ≡ take (length text) text ∷ lines_of (drop (length text) text)
first_is_last text some none =
    ap (map bytes_of) (first-last text none some).line
    ∙ ap (λ l. l ∷ []) (append-nil text ∙ sym (take_all (length text) text (omega arith)))
    ∙ ap (λ bs. take (length text) text ∷ lines_of bs) (sym (drop_all (length text) text (omega arith)))

-- the lines before the rest were pushed
pub record IsPushed (text rest : List ℕ) (old now : SinkTold) : Type 0 where
  pub done : List (List ℕ)
  pub whole : lines_of text ≡ done ++ lines_of rest
  pub wrote : Wrote old now done

pub pushed_none : (text : List ℕ) (old : SinkTold) → IsPushed text text old old
pushed_none text old = record { done = []; whole = refl; wrote = wrote_none old }

pub pushed_more : (text rest line after : List ℕ) (old now later : SinkTold) → IsPushed text rest old now → lines_of rest ≡ line ∷ lines_of after →
    Wrote now later (line ∷ []) → IsPushed text after old later
pushed_more text rest line after old now later p e w = record {
  done = p.done ++ line ∷ [];
  whole = p.whole ∙ ap (λ ls. p.done ++ ls) e ∙ sym (append_assoc p.done (line ∷ []) (lines_of after));
  wrote = wrote_both old now later p.done (line ∷ []) p.wrote w;
}

pub pushed_all : (text rest : List ℕ) (old now : SinkTold) → IsPushed text rest old now → rest ≡ [] → Wrote old now (lines_of text)
pushed_all text rest old now p e =
    let P : List (List ℕ) → Type 0 = λ ls. Wrote old now ls in
    subst P (sym (append-nil p.done) ∙ sym (ap (λ bs. p.done ++ lines_of bs) e) ∙ sym p.whole) p.wrote

pub pushed_front : (T : Type 0) (text rest line after : List ℕ) (old now later : SinkTold) (failed : Failed) → IsPushed text rest old now → lines_of rest ≡ line ∷ lines_of after →
    BrokeOff now later [] line → Pushes {T = T} (lines_of text) old later (Err failed)
pushed_front T text rest line after old now later failed p e b =
    let P : List (List ℕ) → Type 0 = λ ls. BrokeOff old later ls line in
    (p.done, (line ∷ lines_of after, (p.whole ∙ ap (λ ls. p.done ++ ls) e, subst P (append-nil p.done) (wrote_broke old now later p.done [] line p.wrote b))))

pub no_rest : (rest : List ℕ) → length rest ≤ 0 → rest ≡ []
no_rest [] h = refl
no_rest (b ∷ bs) h = absurd (omega arith)
