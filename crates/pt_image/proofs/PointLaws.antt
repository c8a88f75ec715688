-- Listed pauses and forks: what is read of them is spelled so, and no place stands twice.
use Rattle.std.proofs.Common.{◌≡◌, ℕ, ◌^◌, ◌<◌, ◌≤◌, List, [], ◌∷◌, ◌++◌, length, Some, refl, sym, ap, subst, ◌∙◌, append_assoc, arith, All, lit≤}
use Rattle.std.specs.List.{AllByRecursion}
use Rattle.std.proofs.lemmas.List.Elements.{All-from_recursion}
use Rattle.pt_base.specs.Spelling.{number_text, numbers_text}
use Rattle.pt_base.specs.Reading.{◌>>=◌, number_then_at, numbers_at, many_at}
use Rattle.pt_base.proofs.Laws.{Reads, Anything, bind_some, some_is, many_found}
use Rattle.pt_base.proofs.FieldLaws.{Below, number_then_reads, numbers_read}
use Rattle.pt_image.specs.declared.image.Point.{Point}
use Rattle.pt_image.specs.Text.{point_text}
use Rattle.pt_image.specs.Reading.{point_at}

-- a point over so many code words, slots and abort lines
abbrev pub IsPointOf : ℕ → ℕ → ℕ → Point → Type 0
IsPointOf code slots aborts x = (x.at < code) × (x.slot < slots) × (length x.stack ≤ 8) × AllByRecursion (Below aborts) x.stack

point_found : (code slots aborts : ℕ) → code ≤ 2 ^ 64 → slots ≤ 2 ^ 64 → aborts ≤ 2 ^ 64 → (bytes : List ℕ) (x : Point) (rest : List ℕ) → point_at code slots aborts bytes ≡ Some (x, rest) → IsPointOf code slots aborts x × (bytes ≡ point_text x ++ rest)
unfolding point_at
point_found code slots aborts fc fs fa bytes x rest e =
    let a = bind_some (number_then_at 32 code bytes) (λ at. number_then_at 32 slots at.1 >>= λ slot. numbers_at 10 9 aborts slot.1 >>= λ stack. Some (record { at = at.0; slot = slot.0; stack = stack.0 }, stack.1)) (x, rest) e in
    let b = bind_some (number_then_at 32 slots a.0.1) (λ slot. numbers_at 10 9 aborts slot.1 >>= λ stack. Some (record { at = a.0.0; slot = slot.0; stack = stack.0 }, stack.1)) (x, rest) a.2 in
    let c = bind_some (numbers_at 10 9 aborts b.0.1) (λ stack. Some (record { at = a.0.0; slot = b.0.0; stack = stack.0 }, stack.1)) (x, rest) b.2 in
    let ra = (number_then_reads 32 code fc refl).found bytes a.0.0 a.0.1 a.1 in
    let rb = (number_then_reads 32 slots fs refl).found a.0.1 b.0.0 b.0.1 b.1 in
    let rc = (numbers_read 10 9 aborts (lit≤ tt) fa refl).found b.0.1 c.0.0 c.0.1 c.1 in
    let P : Point → Type 0 = λ y. IsPointOf code slots aborts y in
    let made : Point = record { at = a.0.0; slot = b.0.0; stack = c.0.0 } in
    let tail : a.0.1 ≡ (number_text 32 b.0.0 ++ numbers_text 10 c.0.0) ++ c.0.1 = rb.1 ∙ ap (λ (t : List ℕ). number_text 32 b.0.0 ++ t) rc.1 ∙ sym (append_assoc (number_text 32 b.0.0) (numbers_text 10 c.0.0) c.0.1) in
    let both : bytes ≡ point_text made ++ c.0.1 = ra.1 ∙ ap (λ (t : List ℕ). number_text 32 a.0.0 ++ t) tail ∙ sym (append_assoc (number_text 32 a.0.0) (number_text 32 b.0.0 ++ numbers_text 10 c.0.0) c.0.1) in
    subst (λ (y : Point × List ℕ). IsPointOf code slots aborts y.0 × (bytes ≡ point_text y.0 ++ y.1)) (some_is (made, c.0.1) (x, rest) c.2) ((ra.0, rb.0, omega (arith, rc.0.0), rc.0.1), both)

point_again : (code slots aborts : ℕ) → code ≤ 2 ^ 64 → slots ≤ 2 ^ 64 → aborts ≤ 2 ^ 64 → (x : Point) (rest : List ℕ) → IsPointOf code slots aborts x → Anything rest → point_at code slots aborts (point_text x ++ rest) ≡ Some (x, rest)
unfolding point_at
point_again code slots aborts fc fs fa x rest is _ =
    let e : point_text x ++ rest ≡ number_text 32 x.at ++ (number_text 32 x.slot ++ (numbers_text 10 x.stack ++ rest)) = append_assoc (number_text 32 x.at) (number_text 32 x.slot ++ numbers_text 10 x.stack) rest ∙ ap (λ (t : List ℕ). number_text 32 x.at ++ t) (append_assoc (number_text 32 x.slot) (numbers_text 10 x.stack) rest) in
    ap (point_at code slots aborts) e
    ∙ rw ((number_then_reads 32 code fc refl).again x.at (number_text 32 x.slot ++ (numbers_text 10 x.stack ++ rest)) is.0 tt, (number_then_reads 32 slots fs refl).again x.slot (numbers_text 10 x.stack ++ rest) is.1 tt, (numbers_read 10 9 aborts (lit≤ tt) fa refl).again x.stack rest (omega (arith, is.2), is.3) tt) refl

pub point_reads : (code slots aborts : ℕ) → code ≤ 2 ^ 64 → slots ≤ 2 ^ 64 → aborts ≤ 2 ^ 64 → Reads (point_at code slots aborts) point_text (IsPointOf code slots aborts) Anything
point_reads code slots aborts fc fs fa = record { found = point_found code slots aborts fc fs fa; again = point_again code slots aborts fc fs fa }

at_within : (code slots aborts : ℕ) (xs : List Point) → AllByRecursion (IsPointOf code slots aborts) xs → AllByRecursion (λ (x : Point). x.at < code) xs
at_within code slots aborts [] all = tt
at_within code slots aborts (x ∷ xs) all = (all.0.0, at_within code slots aborts xs all.1)

-- the places of points that were read lie inside the code
pub within : (code slots aborts count : ℕ) (bytes : List ℕ) (xs : List Point) (rest : List ℕ) → code ≤ 2 ^ 32 → slots ≤ 2 ^ 32 → aborts ≤ 2 ^ 32 → many_at (point_at code slots aborts) count bytes ≡ Some (xs, rest) → All (λ (x : Point). x.at < code) xs
within code slots aborts count bytes xs rest fc fs fa e =
    let m = many_found (point_at code slots aborts) point_text (IsPointOf code slots aborts) Anything (point_reads code slots aborts (omega arith) (omega arith) (omega arith)) count bytes xs rest e in
    All-from_recursion (λ (x : Point). x.at < code) xs (at_within code slots aborts xs m.1)
