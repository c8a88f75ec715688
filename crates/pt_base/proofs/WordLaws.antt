-- The same of words on lines of their own: eight hexadecimal digits, and signed numbers.
use Rattle.std.proofs.Common.{◌≡◌, ℕ, suc, ◌+◌, ◌-◌, ◌*◌, ◌/◌, ◌%◌, ◌^◌, ◌<◌, ◌≤◌, ℤ, pos, negsuc, Bool, true, false, cond, ◌&&◌, eqb, ltb, leb, List, [], ◌∷◌, ◌++◌, Option, Some, None, refl, sym, ap, subst, ◌∙◌, ◌⊎◌, append_assoc, arith, inl, inr, w32, FitsSigned, lit≤}
use Rattle.std.specs.Fmt.{decimal, signed_decimal, digit_glyph}
use Rattle.std.proofs.lemmas.Bool.{eqb-false, ne_eqb, ltb-true, lt-ltb, ltb-false, le-ltb, le-leb, leb-true, lt-leb, and_parts, and_from, and_right}
use Rattle.pt_base.specs.Spelling.{four_digits, word_text, signed_text}
use Rattle.pt_base.specs.Bytes.{is_digit}
use Rattle.pt_base.specs.Reading.{◌>>=◌, past_at, number_at, digit_at, four_digits_at, word_line_at, negative_of, signed_of, signed_at, signed_line_at}
use Rattle.pt_base.proofs.Laws.{Reads, Anything, bind_some, some_is, test_some, test_none, chosen, past_found}
use Rattle.pt_base.proofs.NumberLaws.{leads, digit_within, digit_is, number_found, number_again}
pub use Rattle.pt_base.specs.Reads.{IsWord}

-- ---- hexadecimal digits

digit_found : (bytes : List ℕ) (d : ℕ) (rest : List ℕ) → digit_at bytes ≡ Some (d, rest) → (d < 16) × (bytes ≡ digit_glyph false d ∷ rest)
digit_found [] d rest e = absurd cc
digit_found (b ∷ bs) d rest e =
    let P : ℕ × List ℕ → Type 0 = λ y. (y.0 < 16) × (b ∷ bs ≡ digit_glyph false y.0 ∷ y.1) in
    elim (chosen (is_digit b) (Some (b - 48, bs)) (cond (leb 97 b && leb b 102) (Some (b - 87, bs)) None) (Some (d, rest)) e) [
      | inl p ↦
          let r = digit_within b p.0 in
          let small : ltb (b - 48) 10 ≡ true = lt-ltb (b - 48) 10 (omega arith) in
          let is : 48 + (b - 48) ≡ b = omega arith in
          subst P (some_is (b - 48, bs) (d, rest) p.1) (omega arith, rw (small, is) refl)
      | inr p ↦
          let t = test_some (leb 97 b && leb b 102) (Some (b - 87, bs)) (d, rest) p.1 in
          let r = and_parts (leb 97 b) (leb b 102) t.0 in
          let low : 97 ≤ b = leb-true 97 b r.0 in
          let high : b ≤ 102 = leb-true b 102 r.1 in
          let large : ltb (b - 87) 10 ≡ false = le-ltb (b - 87) 10 (omega arith) in
          let is : 87 + (b - 87) ≡ b = omega arith in
          subst P (some_is (b - 87, bs) (d, rest) t.1) (omega arith, rw (large, is) refl)
    ]

cases_ten : (d : ℕ) → (d < 10) ⊎ (10 ≤ d)
cases_ten d = elim (chosen (ltb d 10) true false (ltb d 10) (cond_same (ltb d 10))) [ inl p ↦ inl (ltb-true d 10 p.0) | inr p ↦ inr (ltb-false d 10 p.0) ]
  where
    cond_same : (b : Bool) → cond b true false ≡ b
    cond_same true = refl
    cond_same false = refl

digit_again : (d : ℕ) (rest : List ℕ) → d < 16 → digit_at (digit_glyph false d ∷ rest) ≡ Some (d, rest)
digit_again d rest small =
    elim (cases_ten d) [
      | inl lt ↦
          let back : 48 + d - 48 ≡ d = omega arith in
          rw (lt-ltb d 10 lt, digit_is (48 + d) (omega arith) (omega arith), back) refl
      | inr le ↦
          let back : 87 + d - 87 ≡ d = omega arith in
          let other : is_digit (87 + d) ≡ false = and_right (leb 48 (87 + d)) (leb (87 + d) 57) (lt-leb (87 + d) 57 (omega arith)) in
          let within : (leb 97 (87 + d) && leb (87 + d) 102) ≡ true = and_from (leb 97 (87 + d)) (leb (87 + d) 102) (le-leb 97 (87 + d) (omega arith)) (le-leb (87 + d) 102 (omega arith)) in
          rw (le-ltb d 10 le, other, within, back) refl
    ]

four_found : (bytes : List ℕ) (n : ℕ) (rest : List ℕ) → four_digits_at bytes ≡ Some (n, rest) → (n < 65536) × (bytes ≡ four_digits n ++ rest)
unfolding four_digits_at four_digits
four_found bytes n rest e =
    let a = bind_some (digit_at bytes) (λ a. digit_at a.1 >>= λ b. digit_at b.1 >>= λ c. digit_at c.1 >>= λ d. Some (4096 * a.0 + 256 * b.0 + 16 * c.0 + d.0, d.1)) (n, rest) e in
    let b = bind_some (digit_at a.0.1) (λ b. digit_at b.1 >>= λ c. digit_at c.1 >>= λ d. Some (4096 * a.0.0 + 256 * b.0 + 16 * c.0 + d.0, d.1)) (n, rest) a.2 in
    let c = bind_some (digit_at b.0.1) (λ c. digit_at c.1 >>= λ d. Some (4096 * a.0.0 + 256 * b.0.0 + 16 * c.0 + d.0, d.1)) (n, rest) b.2 in
    let d = bind_some (digit_at c.0.1) (λ d. Some (4096 * a.0.0 + 256 * b.0.0 + 16 * c.0.0 + d.0, d.1)) (n, rest) c.2 in
    let fa = digit_found bytes a.0.0 a.0.1 a.1 in
    let fb = digit_found a.0.1 b.0.0 b.0.1 b.1 in
    let fc = digit_found b.0.1 c.0.0 c.0.1 c.1 in
    let fd = digit_found c.0.1 d.0.0 d.0.1 d.1 in
    let n-is : 4096 * a.0.0 + 256 * b.0.0 + 16 * c.0.0 + d.0.0 ≡ n = ap (λ (p : ℕ × List ℕ). p.0) (some_is (4096 * a.0.0 + 256 * b.0.0 + 16 * c.0.0 + d.0.0, d.0.1) (n, rest) d.2) in
    let rest-is : d.0.1 ≡ rest = ap (λ (p : ℕ × List ℕ). p.1) (some_is (4096 * a.0.0 + 256 * b.0.0 + 16 * c.0.0 + d.0.0, d.0.1) (n, rest) d.2) in
    let ea : n / 4096 % 16 ≡ a.0.0 = omega (arith, fa.0, fb.0, fc.0, fd.0) in
    let eb : n / 256 % 16 ≡ b.0.0 = omega (arith, fa.0, fb.0, fc.0, fd.0) in
    let ec : n / 16 % 16 ≡ c.0.0 = omega (arith, fa.0, fb.0, fc.0, fd.0) in
    let ed : n % 16 ≡ d.0.0 = omega (arith, fa.0, fb.0, fc.0, fd.0) in
    let spelled : bytes ≡ digit_glyph false a.0.0 ∷ digit_glyph false b.0.0 ∷ digit_glyph false c.0.0 ∷ digit_glyph false d.0.0 ∷ rest =
    fa.1 ∙ ap (λ (t : List ℕ). digit_glyph false a.0.0 ∷ t) (fb.1 ∙ ap (λ (t : List ℕ). digit_glyph false b.0.0 ∷ t) (fc.1 ∙ ap (λ (t : List ℕ). digit_glyph false c.0.0 ∷ t) (fd.1 ∙ ap (λ (t : List ℕ). digit_glyph false d.0.0 ∷ t) rest-is))) in
    (omega (arith, fa.0, fb.0, fc.0, fd.0), rw (ea, eb, ec, ed) spelled)

four_again : (n : ℕ) (rest : List ℕ) → n < 65536 → four_digits_at (four_digits n ++ rest) ≡ Some (n, rest)
unfolding four_digits_at four_digits
four_again n rest small =
    let a = n / 4096 % 16 in
    let b = n / 256 % 16 in
    let c = n / 16 % 16 in
    let d = n % 16 in
    let whole : 4096 * (n / 4096 % 16) + 256 * (n / 256 % 16) + 16 * (n / 16 % 16) + n % 16 ≡ n = omega arith in
    rw (digit_again (n / 4096 % 16) (digit_glyph false b ∷ digit_glyph false c ∷ digit_glyph false d ∷ rest) (omega arith), digit_again (n / 256 % 16) (digit_glyph false c ∷ digit_glyph false d ∷ rest) (omega arith), digit_again (n / 16 % 16) (digit_glyph false d ∷ rest) (omega arith), digit_again (n % 16) rest (omega arith))
    (ap (λ (k : ℕ). Some (k, rest)) whole)

word_found : (bytes : List ℕ) (n : ℕ) (rest : List ℕ) → word_line_at bytes ≡ Some (n, rest) → IsWord n × (bytes ≡ word_text n ++ rest)
unfolding word_line_at word_text
word_found bytes n rest e =
    let a = bind_some (four_digits_at bytes) (λ high. four_digits_at high.1 >>= λ low. past_at 10 low.1 >>= λ r. Some (65536 * high.0 + low.0, r)) (n, rest) e in
    let b = bind_some (four_digits_at a.0.1) (λ low. past_at 10 low.1 >>= λ r. Some (65536 * a.0.0 + low.0, r)) (n, rest) a.2 in
    let c = bind_some (past_at 10 b.0.1) (λ r. Some (65536 * a.0.0 + b.0.0, r)) (n, rest) b.2 in
    let fa = four_found bytes a.0.0 a.0.1 a.1 in
    let fb = four_found a.0.1 b.0.0 b.0.1 b.1 in
    let fc = past_found 10 b.0.1 c.0 c.1 in
    let n-is : 65536 * a.0.0 + b.0.0 ≡ n = ap (λ (p : ℕ × List ℕ). p.0) (some_is (65536 * a.0.0 + b.0.0, c.0) (n, rest) c.2) in
    let rest-is : c.0 ≡ rest = ap (λ (p : ℕ × List ℕ). p.1) (some_is (65536 * a.0.0 + b.0.0, c.0) (n, rest) c.2) in
    let high : n / 65536 ≡ a.0.0 = omega (arith, fa.0, fb.0) in
    let low : n % 65536 ≡ b.0.0 = omega (arith, fa.0, fb.0) in
    let spelled : bytes ≡ four_digits a.0.0 ++ (four_digits b.0.0 ++ (10 ∷ rest)) = fa.1 ∙ ap (λ (t : List ℕ). four_digits a.0.0 ++ t) (fb.1 ∙ ap (λ (t : List ℕ). four_digits b.0.0 ++ t) (fc ∙ ap (λ (t : List ℕ). 10 ∷ t) rest-is)) in
    let grouped : (four_digits a.0.0 ++ (four_digits b.0.0 ++ 10 ∷ [])) ++ rest ≡ four_digits a.0.0 ++ (four_digits b.0.0 ++ (10 ∷ rest)) = append_assoc (four_digits a.0.0) (four_digits b.0.0 ++ 10 ∷ []) rest ∙ ap (λ (t : List ℕ). four_digits a.0.0 ++ t) (append_assoc (four_digits b.0.0) (10 ∷ []) rest) in
    (omega (arith, fa.0, fb.0), rw (high, low) (spelled ∙ sym grouped))

word_again : (n : ℕ) (rest : List ℕ) → IsWord n → Anything rest → word_line_at (word_text n ++ rest) ≡ Some (n, rest)
unfolding word_line_at word_text
word_again n rest small _ =
    let whole : 65536 * (n / 65536) + n % 65536 ≡ n = omega arith in
    let grouped : word_text n ++ rest ≡ four_digits (n / 65536) ++ (four_digits (n % 65536) ++ (10 ∷ rest)) = append_assoc (four_digits (n / 65536)) (four_digits (n % 65536) ++ 10 ∷ []) rest ∙ ap (λ (t : List ℕ). four_digits (n / 65536) ++ t) (append_assoc (four_digits (n % 65536)) (10 ∷ []) rest) in
    ap word_line_at grouped ∙ rw (four_again (n / 65536) (four_digits (n % 65536) ++ (10 ∷ rest)) (omega arith), four_again (n % 65536) (10 ∷ rest) (omega arith)) (ap (λ (k : ℕ). Some (k, rest)) whole)

pub word_lines_read : Reads word_line_at word_text IsWord Anything
word_lines_read = record { found = word_found; again = word_again }

-- ---- signed numbers

signed_of_found : (bytes : List ℕ) (o : Option (List ℕ)) (z : ℤ) (rest : List ℕ) → past_at 45 bytes ≡ o → signed_of bytes o ≡ Some (z, rest) → FitsSigned w32 z × (bytes ≡ signed_decimal z ++ rest)
signed_of_found bytes None z rest p e =
    let a = bind_some (number_at (2 ^ 31) bytes) (λ n. Some (pos n.0, n.1)) (z, rest) e in
    let f = number_found (2 ^ 31) bytes a.0.0 a.0.1 (lit≤ tt) a.1 in
    subst (λ (y : ℤ × List ℕ). FitsSigned w32 y.0 × (bytes ≡ signed_decimal y.0 ++ y.1)) (some_is (pos a.0.0, a.0.1) (z, rest) a.2) (record { sfits = f.0 }, f.1)
signed_of_found bytes (Some after) z rest p e =
    let a = bind_some (number_at (2 ^ 31 + 1) after) negative_of (z, rest) e in
    let f = number_found (2 ^ 31 + 1) after a.0.0 a.0.1 (lit≤ tt) a.1 in
    let t = test_none (eqb a.0.0 0) (Some (negsuc (a.0.0 - 1), a.0.1)) (z, rest) a.2 in
    let over = eqb-false a.0.0 0 t.0 in
    let back : suc (a.0.0 - 1) ≡ a.0.0 = omega arith in
    let spelled : bytes ≡ signed_decimal (negsuc (a.0.0 - 1)) ++ a.0.1 = past_found 45 bytes after p ∙ ap (λ (x : List ℕ). 45 ∷ x) f.1 ∙ ap (λ (k : ℕ). 45 ∷ (decimal k ++ a.0.1)) (sym back) in
    let small : a.0.0 - 1 < 2 ^ 31 = omega (arith, f.0) in
    subst (λ (y : ℤ × List ℕ). FitsSigned w32 y.0 × (bytes ≡ signed_decimal y.0 ++ y.1)) (some_is (negsuc (a.0.0 - 1), a.0.1) (z, rest) t.1) (record { sfits = small }, spelled)

signed_line_found : (bytes : List ℕ) (z : ℤ) (rest : List ℕ) → signed_line_at bytes ≡ Some (z, rest) → FitsSigned w32 z × (bytes ≡ signed_text z ++ rest)
unfolding signed_line_at signed_at
signed_line_found bytes z rest e =
    let a = bind_some (signed_at bytes) (λ n. past_at 10 n.1 >>= λ r. Some (n.0, r)) (z, rest) e in
    let b = bind_some (past_at 10 a.0.1) (λ r. Some (a.0.0, r)) (z, rest) a.2 in
    let f = signed_of_found bytes (past_at 45 bytes) a.0.0 a.0.1 refl a.1 in
    let both : bytes ≡ signed_text a.0.0 ++ b.0 = f.1 ∙ ap (λ (t : List ℕ). signed_decimal a.0.0 ++ t) (past_found 10 a.0.1 b.0 b.1) ∙ sym (append_assoc (signed_decimal a.0.0) (10 ∷ []) b.0) in
    subst (λ (y : ℤ × List ℕ). FitsSigned w32 y.0 × (bytes ≡ signed_text y.0 ++ y.1)) (some_is (a.0.0, b.0) (z, rest) b.2) (f.0, both)

signed_at_again : (z : ℤ) (rest : List ℕ) → FitsSigned w32 z → signed_at (signed_decimal z ++ (10 ∷ rest)) ≡ Some (z, 10 ∷ rest)
unfolding signed_at
signed_at_again (pos n) rest fits =
    let small : n < 2 ^ 31 = fits.sfits in
    let l = leads n (omega arith) in
    let plain : past_at 45 (decimal n ++ (10 ∷ rest)) ≡ None = rw (l.is, ne_eqb l.first 45 (λ e. omega (arith, l.low))) refl in
    rw (plain, number_again (2 ^ 31) n (10 ∷ rest) (lit≤ tt) small refl) refl
signed_at_again (negsuc n) rest fits =
    let small : n < 2 ^ 31 = fits.sfits in
    let over : eqb (suc n) 0 ≡ false = ne_eqb (suc n) 0 (λ e. omega arith) in
    let back : suc n - 1 ≡ n = omega arith in
    rw (number_again (2 ^ 31 + 1) (suc n) (10 ∷ rest) (lit≤ tt) (omega arith) refl, over, back) refl

signed_line_again : (z : ℤ) (rest : List ℕ) → FitsSigned w32 z → Anything rest → signed_line_at (signed_text z ++ rest) ≡ Some (z, rest)
unfolding signed_line_at
signed_line_again z rest fits _ = ap signed_line_at (append_assoc (signed_decimal z) (10 ∷ []) rest) ∙ rw (signed_at_again z rest fits) refl

pub signed_lines_read : Reads signed_line_at signed_text (FitsSigned w32) Anything
signed_lines_read = record { found = signed_line_found; again = signed_line_again }
