-- What is read of each group of lines is spelled so and within its ranges, and what is spelled so is read.
use Rattle.std.proofs.Common.{◌≡◌, ℕ, ◌^◌, ◌<◌, ◌≤◌, ℤ, false, cond, eqb, List, [], ◌∷◌, ◌++◌, length, Some, None, refl, subst, arith, lit≤, codes, replicate, w32, FitsSigned}
use Rattle.std.specs.List.{AllByRecursion, IsDistinct}
use Rattle.pt_base.specs.Spelling.{number_text, word_text, signed_text, lines_text}
use Rattle.pt_base.specs.Reading.{Reader, number_then_at, word_line_at, signed_line_at, lines_at}
use Rattle.pt_base.proofs.Laws.{Reads, Anything, bind_some, some_is, test_some}
use Rattle.pt_base.proofs.FieldLaws.{Below, number_then_reads, AreLines, lines_read}
use Rattle.pt_base.proofs.WordLaws.{IsWord, word_lines_read, signed_lines_read}
use Rattle.pt_image.specs.declared.image.AbortLine.{AbortLine}
use Rattle.pt_image.specs.declared.image.Point.{Point}
use Rattle.pt_image.specs.Ranges.{places_of}
use Rattle.pt_image.specs.Text.{abort_text, point_text}
use Rattle.pt_image.specs.Reading.{abort_at, point_at, fresh, code_at, signals_at, slots_at, aborts_at, points_at}
use Rattle.pt_image.specs.Whole.{memory_at}
use Rattle.pt_image.proofs.AbortLaws.{IsAbortOf, abort_reads}
use Rattle.pt_image.proofs.PointLaws.{IsPointOf, point_reads}
use Rattle.pt_image.proofs.FreshLaws.{distinct_found, distinct_again}

-- a reader of lines under another name for their ranges
narrowed : {A : Type 0} (read : Reader (List A)) (spell : List A → List ℕ) (IsIn IsOut : List A → Type 0) → Reads read spell IsIn Anything → ((xs : List A) → IsIn xs → IsOut xs) → ((xs : List A) → IsOut xs → IsIn xs) → Reads read spell IsOut Anything
narrowed read spell IsIn IsOut reads out inside =
    record {
      found = λ bytes xs rest e. let f = reads.found bytes xs rest e in (out xs f.0, f.1);
      again = λ xs rest is stop. reads.again xs rest (inside xs is) stop;
    }

abbrev pub CodeIn : List ℕ → Type 0
CodeIn xs = ((1 ≤ length xs) × (length xs ≤ 65536)) × AllByRecursion IsWord xs

pub code_reads : Reads code_at (lines_text (codes "code ") word_text) CodeIn Anything
unfolding code_at
code_reads =
    narrowed code_at (lines_text (codes "code ") word_text) (AreLines 1 65537 IsWord) CodeIn (lines_read (codes "code ") 1 65537 word_line_at word_text IsWord (lit≤ tt) word_lines_read)
    (λ xs h. ((h.0, omega (arith, h.1)), h.2)) (λ xs h. (h.0.0, omega (arith, h.0.1), h.1))

abbrev pub MemoryIn : List ℤ → Type 0
MemoryIn xs = (length xs ≤ 16384) × AllByRecursion (FitsSigned w32) xs

pub memory_reads : Reads memory_at (lines_text (codes "memory ") signed_text) MemoryIn Anything
unfolding memory_at
memory_reads =
    narrowed memory_at (lines_text (codes "memory ") signed_text) (AreLines 0 16385 (FitsSigned w32)) MemoryIn (lines_read (codes "memory ") 0 16385 signed_line_at signed_text (FitsSigned w32) (lit≤ tt) signed_lines_read)
    (λ xs h. (omega (arith, h.1), h.2)) (λ xs h. (omega arith, omega (arith, h.0), h.1))

abbrev pub SignalsIn : ℕ → List ℕ → Type 0
SignalsIn memory xs = (length xs ≤ 64) × AllByRecursion (Below memory) xs

pub signals_read : (name : List ℕ) (memory : ℕ) → memory ≤ 2 ^ 64 → Reads (signals_at name memory) (lines_text name (number_text 10)) (SignalsIn memory) Anything
unfolding signals_at
signals_read name memory fits =
    narrowed (signals_at name memory) (lines_text name (number_text 10)) (AreLines 0 65 (Below memory)) (SignalsIn memory) (lines_read name 0 65 (number_then_at 10 memory) (number_text 10) (Below memory) (lit≤ tt) (number_then_reads 10 memory fits refl))
    (λ xs h. (omega (arith, h.1), h.2)) (λ xs h. (omega arith, omega (arith, h.0), h.1))

abbrev pub SlotsIn : ℕ → List ℕ → Type 0
SlotsIn code xs = (1 ≤ length xs) × (length xs ≤ 64) × AllByRecursion (Below code) xs

pub slots_read : (code : ℕ) → code ≤ 2 ^ 64 → Reads (slots_at code) (lines_text (codes "slots ") (number_text 10)) (SlotsIn code) Anything
unfolding slots_at
slots_read code fits =
    narrowed (slots_at code) (lines_text (codes "slots ") (number_text 10)) (AreLines 1 65 (Below code)) (SlotsIn code) (lines_read (codes "slots ") 1 65 (number_then_at 10 code) (number_text 10) (Below code) (lit≤ tt) (number_then_reads 10 code fits refl))
    (λ xs h. (h.0, omega (arith, h.1), h.2)) (λ xs h. (h.0, omega (arith, h.1), h.2))

abbrev pub AbortsIn : ℕ → List AbortLine → Type 0
AbortsIn code xs = (length xs ≤ 65536) × AllByRecursion (IsAbortOf code) xs

pub aborts_read : (code : ℕ) → code ≤ 2 ^ 64 → Reads (aborts_at code) (lines_text (codes "aborts ") abort_text) (AbortsIn code) Anything
unfolding aborts_at
aborts_read code fits =
    narrowed (aborts_at code) (lines_text (codes "aborts ") abort_text) (AreLines 0 65537 (IsAbortOf code)) (AbortsIn code) (lines_read (codes "aborts ") 0 65537 (abort_at code) abort_text (IsAbortOf code) (lit≤ tt) (abort_reads code fits))
    (λ xs h. (omega (arith, h.1), h.2)) (λ xs h. (omega arith, omega (arith, h.0), h.1))

abbrev pub PointsIn : ℕ → ℕ → ℕ → List Point → Type 0
PointsIn code slots aborts xs = (length xs ≤ 65536) × AllByRecursion (IsPointOf code slots aborts) xs × IsDistinct (λ m n. eqb m n) (places_of xs)

inside : (code slots aborts : ℕ) (xs : List Point) → AllByRecursion (IsPointOf code slots aborts) xs → AllByRecursion (λ (x : Point). x.at < code) xs
inside code slots aborts [] all = tt
inside code slots aborts (x ∷ xs) all = (all.0.0, inside code slots aborts xs all.1)

pub points_read : (name : List ℕ) (code slots aborts : ℕ) → code ≤ 2 ^ 64 → slots ≤ 2 ^ 64 → aborts ≤ 2 ^ 64 → Reads (points_at name code slots aborts) (lines_text name point_text) (PointsIn code slots aborts) Anything
unfolding points_at
points_read name code slots aborts fc fs fa =
    let lines = lines_read name 0 65537 (point_at code slots aborts) point_text (IsPointOf code slots aborts) (lit≤ tt) (point_reads code slots aborts fc fs fa) in
    record {
      found = λ bytes xs rest e.
          let a = bind_some (lines_at name 0 65537 (point_at code slots aborts) bytes) (λ x. cond (fresh (replicate code false) x.0) (Some x) None) (xs, rest) e in
          let t = test_some (fresh (replicate code false) a.0.0) (Some a.0) (xs, rest) a.2 in
          let f = lines.found bytes a.0.0 a.0.1 a.1 in
          let d = distinct_found code a.0.0 (inside code slots aborts a.0.0 f.0.2) t.0 in
          subst (λ (y : List Point × List ℕ). PointsIn code slots aborts y.0 × (bytes ≡ lines_text name point_text y.0 ++ y.1)) (some_is a.0 (xs, rest) t.1) ((omega (arith, f.0.1), f.0.2, d), f.1);
      again = λ xs rest is stop.
          let d = distinct_again code xs (inside code slots aborts xs is.1) is.2 in
          rw (lines.again xs rest (omega arith, omega (arith, is.0), is.1) tt, d) refl;
    }
