-- Where places stand, and what it says that registers and memory stand for a state.
use Rattle.std.proofs.Common.{◌≡◌, ℕ, zero, suc, ◌+◌, ◌-◌, ◌<◌, ◌≤◌, ◌==◌, ◌&&◌, nat_lt, nat_le, ℤ, pos, negsuc, Bool, true, false, IsTrue, if◌then◌else◌, FitsSigned, length, refl, sym, ap, subst, arith, ⊎_elim}
use Rattle.std.specs.Int.{w32}
use Rattle.std.proofs.lemmas.Bool.{cases_lt, false≢true}
use Rattle.pt_base.specs.Operators.{same}
use Rattle.mb_isa.specs.Registers.{number, reg_at}
use Rattle.mb_isa.specs.Cells.{Cells, word_at}
use Rattle.pc_meaning.specs.Values as values
use Rattle.pc_lower.specs.declared.nodes.Place.{Place}
use Rattle.pc_lower.specs.declared.nodes.Place.TheVariants.{Temp as temp, Held as held}
use Rattle.pc_lower.specs.Flow.{State, same_place}
use Rattle.pc_lower.specs.RegionLaws.{Agree}
use Rattle.pc_regs.specs.declared.placement.Placement.{Placement}
use Rattle.pc_regs.specs.declared.placement.Location.{Location}
use Rattle.pc_regs.specs.declared.placement.Location.TheVariants.{Register as in_register, Memory as in_memory}
use Rattle.pc_regs.specs.Placement.{location_of, memory_words, IsPlacement, is_placed, word_in}
use Rattle.pc_regs.specs.Words.{is_word}
use Rattle.pc_regs.specs.Represents.{has, sizes_agree, cell_agrees, place_agrees, compared}
use Rattle.pc_regs.proofs.Numbers.{fits_word, word_fits}

-- ---- tests

pub parts : (a b : Bool) → IsTrue (a && b) → IsTrue a × IsTrue b
parts true b h = (refl, h)
parts false b h = absurd (false≢true h)

pub whole : (a b : Bool) → IsTrue a → IsTrue b → IsTrue (a && b)
whole true b g h = h
whole false b g h = absurd (false≢true g)

pub is_less : (n m : ℕ) → IsTrue (nat_lt n m) → n < m
is_less n m h = let e : nat_lt n m ≡ true = h in grind (arith, e)

pub less_is : (n m : ℕ) → n < m → nat_lt n m ≡ true
less_is n m h = grind arith

pub not_less : (n m : ℕ) → m ≤ n → nat_lt n m ≡ false
not_less n m h = grind arith

pub is_at_most : (n m : ℕ) → IsTrue (nat_le n m) → n ≤ m
is_at_most n m h = let e : nat_le n m ≡ true = h in grind (arith, e)

is_equal : (n m : ℕ) → (n == m) ≡ true → n ≡ m
is_equal n m e = grind arith

equal_is : (n : ℕ) → (n == n) ≡ true
equal_is n = grind arith

same_is : (a b : ℤ) → same a b ≡ true → a ≡ b
same_is (pos a) (pos b) e = ap pos (is_equal a b e)
same_is (pos a) (negsuc b) e = absurd (false≢true e)
same_is (negsuc a) (pos b) e = absurd (false≢true e)
same_is (negsuc a) (negsuc b) e = ap negsuc (is_equal a b e)

is_same : (a : ℤ) → same a a ≡ true
is_same (pos a) = equal_is a
is_same (negsuc a) = equal_is a

-- ---- registers by their numbers

all_below : ℕ → (ℕ → Bool) → Bool
all_below zero test = true
all_below (suc n) test = test n && all_below n test

from_all : (m : ℕ) (test : ℕ → Bool) (n : ℕ) → IsTrue (all_below m test) → n < m → IsTrue (test n)
unfolding all_below
from_all zero test n h lt = absurd (omega (arith, lt))
from_all (suc m) test n h lt =
    let both = parts (test m) (all_below m test) h in
    ⊎_elim (λ less. from_all m test n both.1 less) (λ at_least. let e : m ≡ n = omega arith in subst (λ k. IsTrue (test k)) e both.0) (cases_lt n m)

pub number_at : (n : ℕ) → n < 32 → number (reg_at n) ≡ n
unfolding all_below
number_at n h = is_equal (number (reg_at n)) n (from_all 32 (λ k. number (reg_at k) == k) n refl h)

-- ---- locations

-- one of the registers that keep words, or a memory word behind the cells
abbrev pub IsLocation : Placement → Location → Type 0
IsLocation p (in_register r) = 9 ≤ number r
IsLocation p (in_memory word) = (p.cells ≤ word) × (word < memory_words p)

abbrev pub Apart : Location → Location → Type 0
Apart (in_register r) (in_register s) = number r ≡ number s → ⊥
Apart (in_register r) (in_memory word) = Unit {0}
Apart (in_memory word) (in_register r) = Unit {0}
Apart (in_memory a) (in_memory b) = a ≡ b → ⊥

module _ (p : Placement) (room : IsPlacement p) where
  temp_low : (k : ℕ) → k < 10 → location_of p (temp k) ≡ in_register (reg_at (9 + k))
  temp_low k h = ap (λ b. if b then in_register (reg_at (9 + k)) else in_memory (p.cells + (k - 10))) (less_is k 10 h)

  temp_high : (k : ℕ) → 10 ≤ k → location_of p (temp k) ≡ in_memory (p.cells + (k - 10))
  temp_high k h = ap (λ b. if b then in_register (reg_at (9 + k)) else in_memory (p.cells + (k - 10))) (not_less k 10 h)

  pub located : (q : Place) → IsTrue (is_placed p q) → IsLocation p (location_of p q)
  located (temp k) h =
      let lt = is_less k p.temporaries h in
      ⊎_elim
      (λ low. let e = number_at (9 + k) (omega (arith, low)) in subst (IsLocation p) (sym (temp_low k low)) (omega (arith, e)))
      (λ high. subst (IsLocation p) (sym (temp_high k high)) (omega arith, omega (arith, lt, high)))
      (cases_lt k 10)
  located (held k) h =
      let lt = is_less k p.held h in
      let most = room.held in
      let e = number_at (19 + k) (omega (arith, lt, most)) in
      omega (arith, e)

  pub apart : (q to : Place) → IsTrue (is_placed p q) → IsTrue (is_placed p to) → same_place q to ≡ false → Apart (location_of p q) (location_of p to)
  apart (temp a) (temp b) g h other =
      ⊎_elim
      (λ low. ⊎_elim
      (λ low_b.
      let e = number_at (9 + a) (omega (arith, low)) in
      let f = number_at (9 + b) (omega (arith, low_b)) in
      subst (λ l. Apart l (location_of p (temp b))) (sym (temp_low a low)) (subst (λ l. Apart (in_register (reg_at (9 + a))) l) (sym (temp_low b low_b))
      (λ n. differ a b other (omega (arith, e, f, n)))))
      (λ high_b. subst (λ l. Apart l (location_of p (temp b))) (sym (temp_low a low)) (subst (λ l. Apart (in_register (reg_at (9 + a))) l) (sym (temp_high b high_b)) tt))
      (cases_lt b 10))
      (λ high. ⊎_elim
      (λ low_b. subst (λ l. Apart l (location_of p (temp b))) (sym (temp_high a high)) (subst (λ l. Apart (in_memory (p.cells + (a - 10))) l) (sym (temp_low b low_b)) tt))
      (λ high_b. subst (λ l. Apart l (location_of p (temp b))) (sym (temp_high a high)) (subst (λ l. Apart (in_memory (p.cells + (a - 10))) l) (sym (temp_high b high_b))
      (λ n. differ a b other (omega (arith, n, high, high_b)))))
      (cases_lt b 10))
      (cases_lt a 10)
    where
      differ : (a b : ℕ) → (a == b) ≡ false → a ≡ b → ⊥
      differ a b e same_number = grind arith
  apart (temp a) (held b) g h other =
      let lt = is_less b p.held h in
      let most = room.held in
      ⊎_elim
      (λ low.
      let e = number_at (9 + a) (omega (arith, low)) in
      let f = number_at (19 + b) (omega (arith, lt, most)) in
      subst (λ l. Apart l (location_of p (held b))) (sym (temp_low a low)) (λ n. omega (arith, e, f, n, low)))
      (λ high. subst (λ l. Apart l (location_of p (held b))) (sym (temp_high a high)) tt)
      (cases_lt a 10)
  apart (held a) (temp b) g h other =
      let lt = is_less a p.held g in
      let most = room.held in
      ⊎_elim
      (λ low.
      let e = number_at (19 + a) (omega (arith, lt, most)) in
      let f = number_at (9 + b) (omega (arith, low)) in
      subst (λ l. Apart (location_of p (held a)) l) (sym (temp_low b low)) (λ n. omega (arith, e, f, n, low)))
      (λ high. subst (λ l. Apart (location_of p (held a)) l) (sym (temp_high b high)) tt)
      (cases_lt b 10)
  apart (held a) (held b) g h other =
      let lt = is_less a p.held g in
      let lt_b = is_less b p.held h in
      let most = room.held in
      let e = number_at (19 + a) (omega (arith, lt, most)) in
      let f = number_at (19 + b) (omega (arith, lt_b, most)) in
      λ n. let same_number : a ≡ b = omega (arith, e, f, n) in grind (arith, other, same_number)

pub same_place_is : (q to : Place) → same_place q to ≡ true → q ≡ to
same_place_is (temp a) (temp b) e = ap temp (is_equal a b e)
same_place_is (temp a) (held b) e = absurd (false≢true e)
same_place_is (held a) (temp b) e = absurd (false≢true e)
same_place_is (held a) (held b) e = ap held (is_equal a b e)

-- ---- what it says that registers and memory stand for a state

-- a word stands there, and has 32 bits
abbrev pub Stands : ℤ → ℤ → Type 0
Stands there word = (there ≡ word) × FitsSigned w32 word

pub record Represented (p : Placement) (d : Cells) (w : State) : Type 0 where
  pub count : length d.registers ≡ 32
  pub memory : length d.memory ≡ memory_words p
  pub store : length w.store ≡ p.cells
  pub cell : (i : ℕ) → i < p.cells → Stands (word_at d i) (values.word_at w.store i)
  pub place : (q : Place) → IsTrue (is_placed p q) → Stands (word_in (location_of p q) d) (w.temps q)
  pub words : (i : ℕ) → FitsSigned w32 (word_at d i)

stands : (there word : ℤ) → IsTrue (has there word) → Stands there word
stands there word h =
    let both = parts (same there word) (is_word word) h in
    (same_is there word both.0, fits_word word both.1)

has_so : (there word : ℤ) → Stands there word → IsTrue (has there word)
has_so there word s = whole (same there word) (is_word word) (subst (λ z. same z word ≡ true) (sym s.0) (is_same word)) (word_fits word s.1)

where_so : (b c : Bool) → IsTrue (if b then c else true) → IsTrue b → IsTrue c
where_so true c h g = h
where_so false c h g = absurd (false≢true g)

so_where : (b c : Bool) → (IsTrue b → IsTrue c) → IsTrue (if b then c else true)
so_where true c f = f refl
so_where false c f = refl

module _ (p : Placement) where
  pub represented : (d : Cells) (w : State) → Agree (compared p) d w → Represented p d w
  represented d w agree =
      let all = λ (n : ℕ). five n (agree n) in
      let sizes = parts3 (length d.registers == 32) (length d.memory == memory_words p) (length w.store == p.cells) (all 0).0 in
      record {
        count = is_equal (length d.registers) 32 sizes.0;
        memory = is_equal (length d.memory) (memory_words p) sizes.1;
        store = is_equal (length w.store) p.cells sizes.2;
        cell = λ i lt. stands (word_at d i) (values.word_at w.store i) (where_so (nat_lt i p.cells) (has (word_at d i) (values.word_at w.store i)) (all i).1 (less_is i p.cells lt));
        place = at_place;
        words = λ i. fits_word (word_at d i) (all i).4;
      }
    where
      parts3 : (a b c : Bool) → IsTrue (a && b && c) → IsTrue a × IsTrue b × IsTrue c
      parts3 a b c h = let last = parts (a && b) c h in let first = parts a b last.0 in (first.0, first.1, last.1)

      five : (n : ℕ) → IsTrue (compared p n d w) → IsTrue (sizes_agree p d w) × IsTrue (cell_agrees p d w n) × IsTrue (place_agrees p d w (temp n)) × IsTrue (place_agrees p d w (held n)) × IsTrue (is_word (word_at d n))
      five n h =
          let word = parts (sizes_agree p d w && cell_agrees p d w n && place_agrees p d w (temp n) && place_agrees p d w (held n)) (is_word (word_at d n)) h in
          let last = parts (sizes_agree p d w && cell_agrees p d w n && place_agrees p d w (temp n)) (place_agrees p d w (held n)) word.0 in
          let first = parts3 (sizes_agree p d w) (cell_agrees p d w n) (place_agrees p d w (temp n)) last.0 in
          (first.0, first.1, first.2, last.1, word.1)

      at_place : (q : Place) → IsTrue (is_placed p q) → Stands (word_in (location_of p q) d) (w.temps q)
      at_place (temp k) h = stands (word_in (location_of p (temp k)) d) (w.temps (temp k)) (where_so (is_placed p (temp k)) (has (word_in (location_of p (temp k)) d) (w.temps (temp k))) (five k (agree k)).2 h)
      at_place (held k) h = stands (word_in (location_of p (held k)) d) (w.temps (held k)) (where_so (is_placed p (held k)) (has (word_in (location_of p (held k)) d) (w.temps (held k))) (five k (agree k)).3 h)

  pub agrees : (d : Cells) (w : State) → Represented p d w → Agree (compared p) d w
  agrees d w r n =
      let sizes : IsTrue (sizes_agree p d w) =
      whole (length d.registers == 32 && length d.memory == memory_words p) (length w.store == p.cells)
      (whole (length d.registers == 32) (length d.memory == memory_words p) (equal r.count) (equal r.memory)) (equal r.store) in
      let cells : IsTrue (cell_agrees p d w n) =
      so_where (nat_lt n p.cells) (has (word_at d n) (values.word_at w.store n)) (λ h. has_so (word_at d n) (values.word_at w.store n) (r.cell n (is_less n p.cells h))) in
      whole (sizes_agree p d w && cell_agrees p d w n && place_agrees p d w (temp n) && place_agrees p d w (held n)) (is_word (word_at d n))
      (whole (sizes_agree p d w && cell_agrees p d w n && place_agrees p d w (temp n)) (place_agrees p d w (held n))
      (whole (sizes_agree p d w && cell_agrees p d w n) (place_agrees p d w (temp n)) (whole (sizes_agree p d w) (cell_agrees p d w n) sizes cells) (placed (temp n)))
      (placed (held n)))
      (word_fits (word_at d n) (r.words n))
    where
      equal : {a b : ℕ} → a ≡ b → (a == b) ≡ true
      equal {a} {b} e = subst (λ x. (a == x) ≡ true) e (equal_is a)

      placed : (q : Place) → IsTrue (place_agrees p d w q)
      placed q = so_where (is_placed p q) (has (word_in (location_of p q) d) (w.temps q)) (λ h. has_so (word_in (location_of p q) d) (w.temps q) (r.place q h))
