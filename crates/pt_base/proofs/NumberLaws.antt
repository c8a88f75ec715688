-- A number that is read is spelled so, and a number that is spelled is read, whatever follows it.
use Rattle.std.proofs.Common.{◌≡◌, ℕ, zero, suc, ◌+◌, ◌-◌, ◌*◌, ◌/◌, ◌%◌, ◌^◌, ◌<◌, ◌≤◌, true, false, cond, ◌&&◌, eqb, ltb, leb, List, [], ◌∷◌, ◌++◌, Some, None, refl, sym, ap, subst, ◌∙◌, ◌⊎◌, append_assoc, arith, inl, inr}
use Rattle.std.specs.Fmt.{decimal}
use Rattle.std.proofs.lemmas.Fmt.{decimal_digit, decimal_step, decimal_by_steps}
use Rattle.std.proofs.lemmas.Bool.{eqb-true, eqb-false, ne_eqb, ltb-true, lt-ltb, le-leb, leb-true, and_parts, and_from}
use Rattle.pt_base.specs.Bytes.{is_digit}
use Rattle.pt_base.specs.Reading.{digits_at, number_at}
use Rattle.pt_base.proofs.Laws.{some_is, test_some, chosen}
pub use Rattle.pt_base.specs.Reads.{NoDigit}

digits_stop : (limit n : ℕ) (rest : List ℕ) → NoDigit rest → digits_at limit n rest ≡ Some (n, rest)
digits_stop limit n [] h = refl
digits_stop limit n (b ∷ bs) h = rw h refl

pub digit_within : (b : ℕ) → is_digit b ≡ true → (48 ≤ b) × (b ≤ 57)
digit_within b h = let p = and_parts (leb 48 b) (leb b 57) h in (leb-true 48 b p.0, leb-true b 57 p.1)

pub digit_is : (b : ℕ) → 48 ≤ b → b ≤ 57 → is_digit b ≡ true
digit_is b low high = and_from (leb 48 b) (leb b 57) (le-leb 48 b low) (le-leb b 57 high)

digits_step : (limit n d m : ℕ) (rest : List ℕ) → d < 10 → 10 * n + d ≡ m → m < limit → digits_at limit n ((48 + d) ∷ rest) ≡ digits_at limit m rest
digits_step limit n d m rest small is below =
    let k : 48 + d - 48 ≡ d = omega arith in
    rw (digit_is (48 + d) (omega arith) (omega arith), k, is, lt-ltb m limit below) refl

abbrev DigitsRead : ℕ → ℕ → List ℕ → Type 0
DigitsRead limit n ds = n < limit → (rest : List ℕ) → digits_at limit 0 (ds ++ rest) ≡ digits_at limit n rest

digits_again : (limit n : ℕ) → n < 2 ^ 64 → DigitsRead limit n (decimal n)
digits_again limit n fits =
    decimal_by_steps (DigitsRead limit) (λ m small below rest. digits_step limit 0 m m rest small (omega arith) below)
    (λ m ds large so below rest. ap (digits_at limit 0) (append_assoc ds ((48 + m % 10) ∷ []) rest) ∙ so (omega arith) ((48 + m % 10) ∷ rest) ∙ digits_step limit (m / 10) (m % 10) m rest (omega arith) (omega arith) below) n fits

-- what the digits of a number begin with
pub record Leads (n : ℕ) (ds : List ℕ) : Type 0 where
  pub first : ℕ
  pub others : List ℕ
  pub is : ds ≡ first ∷ others
  pub low : 48 ≤ first
  pub over : 0 < n → 48 < first
  pub high : first ≤ 57

pub leads : (n : ℕ) → n < 2 ^ 64 → Leads n (decimal n)
leads n fits =
    decimal_by_steps Leads (λ m small. record { first = 48 + m; others = []; is = refl; low = omega arith; over = λ some. omega arith; high = omega arith })
    (λ m ds large l. record { first = l.first; others = l.others ++ (48 + m % 10) ∷ []; is = ap (λ (t : List ℕ). t ++ (48 + m % 10) ∷ []) l.is; low = l.low; over = λ some. l.over (omega arith); high = l.high }) n fits

cases_over : (n : ℕ) → (n ≡ 0) ⊎ (0 < n)
cases_over zero = inl refl
cases_over (suc n) = inr (omega arith)

shift : (n b m : ℕ) (bs : List ℕ) → 0 < n → 48 ≤ b → b ≤ 57 → 10 * n + (b - 48) ≡ m → m < 2 ^ 64 → decimal n ++ (b ∷ bs) ≡ decimal m ++ bs
shift n b m bs over low high is fits =
    let front : m / 10 ≡ n = omega arith in
    let last : 48 + m % 10 ≡ b = omega arith in
    let spelled : decimal m ≡ decimal n ++ b ∷ [] = subst (λ (k : ℕ). decimal m ≡ decimal n ++ k ∷ []) last (subst (λ (k : ℕ). decimal m ≡ decimal k ++ (48 + m % 10) ∷ []) front (decimal_step m (omega arith) fits)) in
    sym (append_assoc (decimal n) (b ∷ []) bs) ∙ ap (λ (t : List ℕ). t ++ bs) (sym spelled)

digits_found : (limit n : ℕ) (bytes : List ℕ) (m : ℕ) (rest : List ℕ) → limit ≤ 2 ^ 64 → 0 < n → n < limit → digits_at limit n bytes ≡ Some (m, rest) → (m < limit) × (decimal n ++ bytes ≡ decimal m ++ rest)
digits_found limit n [] m rest fits over below e =
    subst (λ (y : ℕ × List ℕ). (y.0 < limit) × (decimal n ++ [] ≡ decimal y.0 ++ y.1)) (some_is (n, []) (m, rest) e) (below, refl)
digits_found limit n (b ∷ bs) m rest fits over below e =
    elim (chosen (is_digit b) (cond (ltb (10 * n + (b - 48)) limit) (digits_at limit (10 * n + (b - 48)) bs) None) (Some (n, b ∷ bs)) (Some (m, rest)) e) [
      | inl p ↦
          let t = test_some (ltb (10 * n + (b - 48)) limit) (digits_at limit (10 * n + (b - 48)) bs) (m, rest) p.1 in
          let r = digit_within b p.0 in
          let small : 10 * n + (b - 48) < limit = ltb-true (10 * n + (b - 48)) limit t.0 in
          let go = digits_found limit (10 * n + (b - 48)) bs m rest fits (omega arith) small t.1 in
          (go.0, shift n b (10 * n + (b - 48)) bs over r.0 r.1 refl (omega arith) ∙ go.1)
      | inr p ↦ subst (λ (y : ℕ × List ℕ). (y.0 < limit) × (decimal n ++ (b ∷ bs) ≡ decimal y.0 ++ y.1)) (some_is (n, b ∷ bs) (m, rest) p.1) (below, refl)
    ]

pub number_found : (limit : ℕ) (bytes : List ℕ) (n : ℕ) (rest : List ℕ) → limit ≤ 2 ^ 64 → number_at limit bytes ≡ Some (n, rest) → (n < limit) × (bytes ≡ decimal n ++ rest)
unfolding number_at
number_found limit [] n rest fits e = absurd cc
number_found limit (b ∷ bs) n rest fits e =
    let t = test_some (is_digit b && ltb 0 limit) (cond (eqb b 48) (Some (0, bs)) (digits_at limit 0 (b ∷ bs))) (n, rest) e in
    let p = and_parts (is_digit b) (ltb 0 limit) t.0 in
    let r = digit_within b p.0 in
    let some : 0 < limit = ltb-true 0 limit p.1 in
    elim (chosen (eqb b 48) (Some (0, bs)) (digits_at limit 0 (b ∷ bs)) (Some (n, rest)) t.1) [
      | inl q ↦
          let zero_is : b ∷ bs ≡ decimal 0 ++ bs = ap (λ (k : ℕ). k ∷ bs) (eqb-true b 48 q.0) ∙ ap (λ (t : List ℕ). t ++ bs) (sym (decimal_digit 0 (omega arith))) in
          subst (λ (y : ℕ × List ℕ). (y.0 < limit) × (b ∷ bs ≡ decimal y.0 ++ y.1)) (some_is (0, bs) (n, rest) q.1) (some, zero_is)
      | inr q ↦
          let over : b ≡ 48 → ⊥ = eqb-false b 48 q.0 in
          let is : 48 + (b - 48) ≡ b = omega arith in
          let start : cond (ltb (10 * 0 + (b - 48)) limit) (digits_at limit (10 * 0 + (b - 48)) bs) None ≡ Some (n, rest) = (rw p.0 at q.1) in
          let t = test_some (ltb (10 * 0 + (b - 48)) limit) (digits_at limit (10 * 0 + (b - 48)) bs) (n, rest) start in
          let go = digits_found limit (10 * 0 + (b - 48)) bs n rest fits (omega arith) (ltb-true (10 * 0 + (b - 48)) limit t.0) t.1 in
          let one : decimal (10 * 0 + (b - 48)) ≡ b ∷ [] = decimal_digit (10 * 0 + (b - 48)) (omega arith) ∙ ap (λ (k : ℕ). k ∷ []) (omega arith) in
          (go.0, ap (λ (t : List ℕ). t ++ bs) (sym one) ∙ go.1)
    ]

pub number_again : (limit n : ℕ) (rest : List ℕ) → limit ≤ 2 ^ 64 → n < limit → NoDigit rest → number_at limit (decimal n ++ rest) ≡ Some (n, rest)
unfolding number_at
number_again limit n rest fits below stop =
    elim (cases_over n) [
      | inl z ↦
          let spelled : decimal n ≡ 48 ∷ [] = ap decimal z ∙ decimal_digit 0 (omega arith) in
          let some : ltb 0 limit ≡ true = lt-ltb 0 limit (omega arith) in
          rw (spelled, some) (ap (λ (k : ℕ). Some (k, rest)) (sym z))
      | inr over ↦
          let l = leads n (omega arith) in
          let some : ltb 0 limit ≡ true = lt-ltb 0 limit (omega arith) in
          let other : eqb l.first 48 ≡ false = ne_eqb l.first 48 (λ e. omega (arith, l.over over)) in
          let first : number_at limit (decimal n ++ rest) ≡ digits_at limit 0 (decimal n ++ rest) = rw (l.is, digit_is l.first l.low l.high, some, other) refl in
          first ∙ digits_again limit n (omega arith) below rest ∙ digits_stop limit n rest stop
    ]
