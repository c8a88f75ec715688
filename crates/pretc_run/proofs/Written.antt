-- Lines that were written one after another.
use Rattle.std.proofs.Common.{◌≡◌, ◌≤◌, ℕ, List, [], ◌∷◌, ◌++◌, Option, Some, None, take, length, refl, sym, ap, subst, ◌∙◌, append_assoc, append-nil, arith}
use Rattle.std.proofs.Math.Seq.{take-length}
use Rattle.std.specs.Io.KnownBytes.{Appends, Keeps}
use Rattle.pt_outside.specs.Counts.{Rose, next}
use Rattle.pt_outside.specs.Told.{SinkTold}
use Rattle.pretc_run.specs.Writing.{text_of, pushed, Wrote, BrokeOff, IsAnswered, IsUnsent, Closes, closed, unsent, Answers, answered, broke_off}
use Rattle.pretc_run.proofs.Fronts.{appends_none, appends_keeps, appends_both}

pub text_append : (xs ys : List (List ℕ)) → text_of (xs ++ ys) ≡ text_of xs ++ text_of ys
text_append [] ys = refl
text_append (x ∷ xs) ys = ap (λ t. x ++ t) (text_append xs ys) ∙ sym (append_assoc x (text_of xs) (text_of ys))

pub pushed_append : (n : ℕ) (xs ys : List (List ℕ)) → pushed n (xs ++ ys) ≡ pushed (pushed n xs) ys
pushed_append n [] ys = refl
pushed_append n (x ∷ xs) ys = pushed_append (next n) xs ys

pub wrote_none : (a : SinkTold) → Wrote a a []
wrote_none a = record { written = appends_none a.written; pushes = refl; faults = refl }

pub wrote_both : (a b c : SinkTold) (xs ys : List (List ℕ)) → Wrote a b xs → Wrote b c ys → Wrote a c (xs ++ ys)
wrote_both a b c xs ys v w =
    let P : List ℕ → Type 0 = λ t. Appends a.written c.written t in
    record {
      written = subst P (sym (text_append xs ys)) (appends_both a.written b.written c.written (text_of xs) (text_of ys) v.written w.written);
      pushes = w.pushes ∙ ap (λ n. pushed n ys) v.pushes ∙ sym (pushed_append a.pushes xs ys);
      faults = w.faults ∙ v.faults;
    }

pub wrote_broke : (a b c : SinkTold) (xs ys : List (List ℕ)) (line : List ℕ) → Wrote a b xs → BrokeOff b c ys line → BrokeOff a c (xs ++ ys) line
wrote_broke a b c xs ys line v w =
    let P : List ℕ → Type 0 = λ t. Appends a.written c.written t in
    let Q : ℕ → Type 0 = λ n. n ≤ c.faults in
    let R : ℕ → Type 0 = λ n. Rose n c.faults in
    record {
      front = w.front;
      written =
          subst P (sym (append_assoc (text_of xs) (text_of ys) (take w.front line)) ∙ ap (λ t. t ++ take w.front line) (sym (text_append xs ys)))
          (appends_both a.written b.written c.written (text_of xs) (text_of ys ++ take w.front line) v.written w.written);
      later = subst Q v.faults w.later;
      rose = subst R v.faults w.rose;
    }

pub answers_after : (a b c : SinkTold) (xs ys : List (List ℕ)) (status answer : ℕ) → Wrote a b xs → Answers ys status b c answer → Answers (xs ++ ys) status a c answer
answers_after a b c xs ys status answer v (answered h) = answered (record { answer_is = h.answer_is; wrote = wrote_both a b c xs ys v h.wrote; sent = h.sent })
answers_after a b c xs ys status answer v (broke_off whole rest e d w) =
    broke_off (xs ++ whole) rest e (ap (λ t. xs ++ t) d ∙ sym (append_assoc xs whole rest)) (wrote_broke a b c xs whole _ v w)

keeps_none : (old new : Option (List ℕ)) → Keeps old new → Appends old new []
keeps_none None new k = tt
keeps_none (Some xs) None k = absurd k
keeps_none (Some xs) (Some ys) k = k ∙ sym (append-nil xs)

-- a flush that failed, with nothing due before it
unsent_breaks : (a b : SinkTold) → IsUnsent a b → BrokeOff a b [] []
unsent_breaks a b h = record { front = 0; written = keeps_none a.written b.written h.written; later = h.later; rose = h.rose }

answers_closing : (a b : SinkTold) (status answer : ℕ) → Closes status a b answer → Answers [] status a b answer
answers_closing a b status answer (closed h) = answered h
answers_closing a b status answer (unsent e h) = broke_off [] [] e refl (unsent_breaks a b h)

-- lines that were written before the end of a call
pub answers_closed : (a b c : SinkTold) (xs : List (List ℕ)) (status answer : ℕ) → Wrote a b xs → Closes status b c answer → Answers xs status a c answer
answers_closed a b c xs status answer v h =
    let P : List (List ℕ) → Type 0 = λ ys. Answers ys status a c answer in
    subst P (append-nil xs) (answers_after a b c xs [] status answer v (answers_closing b c status answer h))

-- the same where the end is in order
pub answered_closed : (a b c : SinkTold) (xs : List (List ℕ)) (status answer : ℕ) → Wrote a b xs → IsAnswered [] status b c answer → IsAnswered xs status a c answer
answered_closed a b c xs status answer v h =
    let P : List (List ℕ) → Type 0 = λ ys. Wrote a c ys in
    record { answer_is = h.answer_is; wrote = subst P (append-nil xs) (wrote_both a b c xs [] v h.wrote); sent = h.sent }

text_push : (xs : List (List ℕ)) (line : List ℕ) → text_of (xs ++ line ∷ []) ≡ text_of xs ++ take (length line) line
text_push xs line = text_append xs (line ∷ []) ∙ ap (λ t. text_of xs ++ t) (append-nil line ∙ sym (take-length line))

-- a flush that failed behind lines and a last one: the last one is the front of itself
pub unsent_last : (a b c : SinkTold) (xs : List (List ℕ)) (line : List ℕ) → Wrote a b (xs ++ line ∷ []) → IsUnsent b c → BrokeOff a c xs line
unsent_last a b c xs line v h =
    let P : List ℕ → Type 0 = λ t. Appends a.written c.written t in
    let Q : ℕ → Type 0 = λ n. n ≤ c.faults in
    let R : ℕ → Type 0 = λ n. Rose n c.faults in
    record {
      front = length line;
      written = subst P (text_push xs line) (appends_keeps a.written b.written c.written (text_of (xs ++ line ∷ [])) v.written h.written);
      later = subst Q v.faults h.later;
      rose = subst R v.faults h.rose;
    }
