-- The words of steps do the steps.
use Rattle.std.proofs.Common.{◌≡◌, ℕ, zero, suc, ◌+◌, ◌<◌, ◌≤◌, ℤ, pos, Bool, true, false, IsTrue, if◌then◌else◌, FitsSigned, List, [], ◌∷◌, ◌++◌, length, get_or, set, Some, refl, sym, ap, subst, ◌∙◌, arith, ◌⊎◌, inl, inr, ⊎_elim}
use Rattle.std.specs.Int.{w32}
use Rattle.std.proofs.lemmas.Bool.{cases_lt}
use Rattle.std.proofs.lemmas.List.{get_or-set_same, get_or-set_other, length-set}
use Rattle.mb_isa.specs.declared.Reg.{Reg}
use Rattle.mb_isa.specs.declared.Reg.TheVariants.{R0, R3, R4, R5}
use Rattle.mb_isa.specs.Registers.{number}
use Rattle.pt_image.specs.declared.Parts.{Parts}
use Rattle.mb_isa.specs.Cells.{Cells, register, with_register, word_at, with_word}
use Rattle.pc_meaning.specs.Values as values
use Rattle.pc_lower.specs.declared.nodes.Place.{Place}
use Rattle.pc_lower.specs.Flow.{State, same_place, put_temp, put_store}
use Rattle.pc_lower.specs.Words.{Written, and_then}
use Rattle.pc_regs.specs.declared.placement.Placement.{Placement}
use Rattle.pc_regs.specs.declared.placement.Location.{Location}
use Rattle.pc_regs.specs.declared.placement.Location.TheVariants.{Register as in_register, Memory as in_memory}
use Rattle.pc_regs.specs.Placement.{location_of, memory_words, IsPlacement, is_placed, word_in}
use Rattle.pc_regs.specs.Words.{load_word, store_word, register_for, fetched, delivered}
use Rattle.pc_regs.proofs.Registers.{does, does-append, followed, IsOperand, Results, gives, operand_above}
use Rattle.pc_regs.proofs.Operating.{Gained}
use Rattle.pc_regs.proofs.Memory.{load_does, store_does}
use Rattle.pc_regs.proofs.Places.{IsLocation, Apart, located, apart, same_place_is, Stands, Represented}

plus_none : (n : ℕ) → n + 0 ≡ n
plus_none n = omega arith

module _ (image : Parts) (row : List ℤ) where
  -- once the first words are done, the others are left
  pub after_first : (p q : List Written) (d e : Cells) → does image row p d ≡ Some e → does image row (p ++ q) d ≡ does image row q e
  after_first p q d e first = does-append image row p q d ∙ ap (and_then (does image row q)) first

  pub load_word_does : (rd : Reg) (word : ℕ) (d : Cells) → word < length d.memory → length d.memory ≤ 16384 →
      does image row (load_word rd word) d ≡ Some (with_register rd (word_at d word) d)
  load_word_does rd word d within most =
      load_does image row rd R0 word 0 d [] refl (omega arith) most ∙ ap (λ i. Some (with_register rd (word_at d i) d)) (plus_none word)

  pub store_word_does : (rd : Reg) (word : ℕ) (d : Cells) → word < length d.memory → length d.memory ≤ 16384 →
      does image row (store_word rd word) d ≡ Some (with_word word (register d rd) d)
  store_word_does rd word d within most =
      store_does image row rd R0 word 0 d [] refl (omega arith) most ∙ ap (λ i. Some (with_word i (register d rd) d)) (plus_none word)

  -- ---- operands

  pub record Fetched (scratch : Reg) (at : Location) (d : Cells) : Type 0 where
    pub after : Cells
    pub done : does image row (fetched scratch at) d ≡ Some after
    pub count : length after.registers ≡ 32
    pub memory : after.memory ≡ d.memory
    pub value : register after (register_for scratch at) ≡ word_in at d
    pub others : (r : Reg) → (number r ≡ number scratch → ⊥) → register after r ≡ register d r

  pub fetches : (p : Placement) → IsPlacement p → (scratch : Reg) (at : Location) (d : Cells) → 1 ≤ number scratch → IsLocation p at →
      length d.registers ≡ 32 → length d.memory ≡ memory_words p → Fetched scratch at d
  fetches p room scratch (in_register r) d some is count size =
      record { after = d; done = refl; count = count; memory = refl; value = refl; others = λ q other. refl }
  fetches p room scratch (in_memory word) d some is count size =
      let g = gives d scratch (word_at d word) count some in
      let most = room.memory in
      let behind = is.1 in
      record {
        after = with_register scratch (word_at d word) d;
        done = load_word_does scratch word d (omega (arith, behind, size)) (omega (arith, most, size));
        count = g.count;
        memory = refl;
        value = g.value;
        others = g.others;
      }

  -- an operand's register is none of those of use within a step
  operand_at : (p : Placement) (scratch : Reg) (at : Location) → IsOperand scratch → IsLocation p at → IsOperand (register_for scratch at)
  operand_at p scratch (in_register r) o is = operand_above r is
  operand_at p scratch (in_memory word) o is = o

  pub operand_4 : IsOperand R4
  operand_4 = record { above = omega arith; not_6 = λ n. omega (arith, n); not_7 = λ n. omega (arith, n); not_8 = λ n. omega (arith, n) }

  pub operand_5 : IsOperand R5
  operand_5 = record { above = omega arith; not_6 = λ n. omega (arith, n); not_7 = λ n. omega (arith, n); not_8 = λ n. omega (arith, n) }

  pub some_target : (p : Placement) (at : Location) → IsLocation p at → 1 ≤ number (register_for R3 at)
  some_target p (in_register r) is = omega (arith, is)
  some_target p (in_memory word) is = omega arith

  -- ---- results

  -- words bring a word to a location; what stands at other locations, and the cells, are as they were
  pub record Delivered (p : Placement) (ws : List Written) (d e : Cells) (at : Location) (v : ℤ) : Type 0 where
    pub after : Cells
    pub done : does image row ws e ≡ Some after
    pub count : length after.registers ≡ 32
    pub size : length after.memory ≡ length d.memory
    pub value : word_in at after ≡ v
    pub others : (other : Location) → IsLocation p other → Apart other at → word_in other after ≡ word_in other d
    pub cells : (i : ℕ) → i < p.cells → word_at after i ≡ word_at d i
    pub words : FitsSigned w32 v → ((i : ℕ) → FitsSigned w32 (word_at d i)) → (i : ℕ) → FitsSigned w32 (word_at after i)

  -- a memory word is the one that was written, or as it was
  words_fit : (before after : List ℤ) (place : ℕ) (v : ℤ) → after ≡ set before place v → FitsSigned w32 v → ((i : ℕ) → FitsSigned w32 (get_or before i (pos 0))) →
      (i : ℕ) → FitsSigned w32 (get_or after i (pos 0))
  words_fit before after place v is fits were i = subst (λ ws. FitsSigned w32 (get_or ws i (pos 0))) (sym is) (written before place i were)
    where
      written : (ws : List ℤ) (k i : ℕ) → ((i : ℕ) → FitsSigned w32 (get_or ws i (pos 0))) → FitsSigned w32 (get_or (set ws k v) i (pos 0))
      written [] k i were = were i
      written (x ∷ ws) zero zero were = fits
      written (x ∷ ws) zero (suc i) were = were (suc i)
      written (x ∷ ws) (suc k) zero were = were zero
      written (x ∷ ws) (suc k) (suc i) were = written ws k i (λ j. were (suc j))

  pub in_register_already : (p : Placement) (r : Reg) (d e : Cells) (v : ℤ) → Results d e r v → Delivered p [] d e (in_register r) v
  in_register_already p r d e v results = record {
    after = e;
    done = refl;
    count = results.count;
    size = ap length results.memory;
    value = results.value;
    others = other_register;
    cells = λ i lt. ap (λ ws. get_or ws i (pos 0)) results.memory;
    words = λ fits were i. subst (λ ws. FitsSigned w32 (get_or ws i (pos 0))) (sym results.memory) (were i);
  }
    where
      other_register : (other : Location) → IsLocation p other → Apart other (in_register r) → word_in other e ≡ word_in other d
      other_register (in_register s) fits differ = results.kept s fits differ
      other_register (in_memory word) fits differ = ap (λ ws. get_or ws word (pos 0)) results.memory

  -- a register goes to a memory word
  pub stored_there : (p : Placement) → IsPlacement p → (place : ℕ) (from : Reg) (d e : Cells) (v : ℤ) → IsLocation p (in_memory place) → length d.memory ≡ memory_words p →
      length e.registers ≡ 32 → e.memory ≡ d.memory → ((r : Reg) → 9 ≤ number r → register e r ≡ register d r) → register e from ≡ v →
      Delivered p (store_word from place) d e (in_memory place) v
  stored_there p room place from d e v is size count memory kept value =
      let most = room.memory in
      let behind = is.1 in
      let size_e : length e.memory ≡ memory_words p = ap length memory ∙ size in
      record {
        after = with_word place (register e from) e;
        done = store_word_does from place e (omega (arith, behind, size_e)) (omega (arith, most, size_e));
        count = count;
        size = length-set e.memory place (register e from) ∙ ap length memory;
        value = get_or-set_same e.memory place (register e from) (pos 0) (omega (arith, behind, size_e)) ∙ value;
        others = other_word;
        cells = λ i lt.
            let front = is.0 in
            get_or-set_other e.memory place i (register e from) (pos 0) (λ n. omega (arith, n, lt, front)) ∙ ap (λ ws. get_or ws i (pos 0)) memory;
        words = λ fits were. words_fit d.memory (set e.memory place (register e from)) place v (ap (λ ws. set ws place (register e from)) memory ∙ ap (set d.memory place) value) fits were;
      }
    where
      other_word : (other : Location) → IsLocation p other → Apart other (in_memory place) → word_in other (with_word place (register e from) e) ≡ word_in other d
      other_word (in_register s) fits differ = kept s fits
      other_word (in_memory word) fits differ = get_or-set_other e.memory place word (register e from) (pos 0) differ ∙ ap (λ ws. get_or ws word (pos 0)) memory

  pub delivers : (p : Placement) → IsPlacement p → (at : Location) (d e : Cells) (v : ℤ) → IsLocation p at → length d.memory ≡ memory_words p →
      Results d e (register_for R3 at) v → Delivered p (delivered R3 at) d e at v
  delivers p room (in_register r) d e v is size results = in_register_already p r d e v results
  delivers p room (in_memory place) d e v is size results =
      stored_there p room place R3 d e v is size results.count results.memory (λ r above. results.kept r above (λ n. omega (arith, n, above))) results.value

  module _ (p : Placement) (room : IsPlacement p) where
    -- the words lead to data for a state
    pub record LeadsTo (ws : List Written) (d : Cells) (w : State) : Type 0 where
      pub after : Cells
      pub done : does image row ws d ≡ Some after
      pub represents : Represented p after w

    -- a place has its word
    pub set_place : (ws : List Written) (d e : Cells) (w : State) (to : Place) (v : ℤ) → Represented p d w → IsTrue (is_placed p to) → FitsSigned w32 v →
        Delivered p ws d e (location_of p to) v → LeadsTo ws e (put_temp to v w)
    set_place ws d e w to v r placed fits del = record {
      after = del.after;
      done = del.done;
      represents = record {
        count = del.count;
        memory = del.size ∙ r.memory;
        store = r.store;
        cell = λ i lt. let was = r.cell i lt in (del.cells i lt ∙ was.0, was.1);
        place = λ q is. at_place q is (same_place q to) refl;
        words = del.words fits r.words;
      };
    }
      where
        at_place : (q : Place) → IsTrue (is_placed p q) → (b : Bool) → same_place q to ≡ b → Stands (word_in (location_of p q) del.after) (if b then v else w.temps q)
        at_place q is true e = (ap (λ x. word_in (location_of p x) del.after) (same_place_is q to e) ∙ del.value, fits)
        at_place q is false e =
            let was = r.place q is in
            (del.others (location_of p q) (located p room q is) (apart p room q to is placed e) ∙ was.0, was.1)

    -- the words that give a register its value, and those that bring it to its place
    pub gained_step : (core : List Written) (d e : Cells) (w : State) (to : Place) (v : ℤ) → Represented p d w → IsTrue (is_placed p to) → FitsSigned w32 v →
        e.memory ≡ d.memory → ((r : Reg) → 9 ≤ number r → register e r ≡ register d r) →
        Gained image row core e (register_for R3 (location_of p to)) v → LeadsTo (core ++ delivered R3 (location_of p to)) e (put_temp to v w)
    gained_step core d e w to v r placed fits memory kept g =
        let results : Results d g.after (register_for R3 (location_of p to)) v = record {
          count = g.results.count;
          memory = g.results.memory ∙ memory;
          value = g.results.value;
          kept = λ q above other. g.results.kept q above other ∙ kept q above;
        } in
        let last = set_place (delivered R3 (location_of p to)) d g.after w to v r placed fits (delivers p room (location_of p to) d g.after v (located p room to placed) r.memory results) in
        record { after = last.after; done = followed image row core (delivered R3 (location_of p to)) e g.after last.after g.done last.done; represents = last.represents }

    -- behind words that are done
    pub behind : (first rest : List Written) (d e : Cells) (w : State) → does image row first d ≡ Some e → LeadsTo rest e w → LeadsTo (first ++ rest) d w
    behind first rest d e w done l = record { after = l.after; done = after_first first rest d e done ∙ l.done; represents = l.represents }

    -- a cell has its word
    pub set_cell : (d e : Cells) (w : State) (place : ℕ) (v : ℤ) → Represented p d w → length e.registers ≡ 32 → e.memory ≡ set d.memory place v →
        ((r : Reg) → 9 ≤ number r → register e r ≡ register d r) → place < p.cells → FitsSigned w32 v → Represented p e (put_store (set w.store place v) w)
    set_cell d e w place v r count memory kept within fits =
        record {
          count = count;
          memory = ap length memory ∙ length-set d.memory place v ∙ r.memory;
          store = length-set w.store place v ∙ r.store;
          cell = λ i lt. ⊎_elim (λ same_cell. at_cell i lt same_cell) (λ other. off_cell i lt other) (same_or_not i place);
          place = λ q is. let was = r.place q is in (at_place (location_of p q) (located p room q is) ∙ was.0, was.1);
          words = words_fit d.memory e.memory place v memory fits r.words;
        }
      where
        same_or_not : (a b : ℕ) → (a ≡ b) ⊎ (a ≡ b → ⊥)
        same_or_not a b = ⊎_elim (λ less. inr (λ e. omega (arith, e, less))) (λ at_least. ⊎_elim (λ more. inr (λ e. omega (arith, e, more))) (λ at_most. inl (omega arith)) (cases_lt b a)) (cases_lt a b)

        there : (i : ℕ) → word_at e i ≡ get_or (set d.memory place v) i (pos 0)
        there i = ap (λ ws. get_or ws i (pos 0)) memory

        at_cell : (i : ℕ) → i < p.cells → i ≡ place → Stands (word_at e i) (values.word_at (set w.store place v) i)
        at_cell i lt same_cell =
            let size = r.memory in
            let size_store = r.store in
            let known : get_or (set d.memory place v) i (pos 0) ≡ v = ap (λ k. get_or (set d.memory place v) k (pos 0)) same_cell ∙ get_or-set_same d.memory place v (pos 0) (omega (arith, within, size)) in
            let stored : get_or (set w.store place v) i (pos 0) ≡ v = ap (λ k. get_or (set w.store place v) k (pos 0)) same_cell ∙ get_or-set_same w.store place v (pos 0) (omega (arith, within, size_store)) in
            (there i ∙ known ∙ sym stored, subst (FitsSigned w32) (sym stored) fits)

        off_cell : (i : ℕ) → i < p.cells → (i ≡ place → ⊥) → Stands (word_at e i) (values.word_at (set w.store place v) i)
        off_cell i lt other =
            let was = r.cell i lt in
            let stored : get_or (set w.store place v) i (pos 0) ≡ get_or w.store i (pos 0) = get_or-set_other w.store place i v (pos 0) other in
            (there i ∙ get_or-set_other d.memory place i v (pos 0) other ∙ was.0 ∙ sym stored, subst (FitsSigned w32) (sym stored) was.1)

        at_place : (at : Location) → IsLocation p at → word_in at e ≡ word_in at d
        at_place (in_register s) is = kept s is
        at_place (in_memory word) is = let front = is.0 in there word ∙ get_or-set_other d.memory place word v (pos 0) (λ n. omega (arith, n, front, within))

    -- ---- operands

    pub record Operand (scratch : Reg) (q : Place) (d : Cells) (w : State) : Type 0 where
      pub after : Cells
      pub done : does image row (fetched scratch (location_of p q)) d ≡ Some after
      pub represents : Represented p after w
      pub memory : after.memory ≡ d.memory
      pub value : register after (register_for scratch (location_of p q)) ≡ w.temps q
      pub fits : FitsSigned w32 (register after (register_for scratch (location_of p q)))
      pub operand : IsOperand (register_for scratch (location_of p q))
      pub others : (r : Reg) → (number r ≡ number scratch → ⊥) → register after r ≡ register d r

    pub word_kept : (at : Location) (d e : Cells) → IsLocation p at → e.memory ≡ d.memory → ((r : Reg) → 9 ≤ number r → register e r ≡ register d r) → word_in at e ≡ word_in at d
    word_kept (in_register r) d e is memory kept = kept r is
    word_kept (in_memory word) d e is memory kept = ap (λ ws. get_or ws word (pos 0)) memory

    -- only registers of use within a step differ
    pub still : (d e : Cells) (w : State) → Represented p d w → length e.registers ≡ 32 → e.memory ≡ d.memory → ((r : Reg) → 9 ≤ number r → register e r ≡ register d r) → Represented p e w
    still d e w r count memory kept = record {
      count = count;
      memory = ap length memory ∙ r.memory;
      store = r.store;
      cell = λ i lt. let was = r.cell i lt in (ap (λ ws. get_or ws i (pos 0)) memory ∙ was.0, was.1);
      place = λ q is. let was = r.place q is in (word_kept (location_of p q) d e (located p room q is) memory kept ∙ was.0, was.1);
      words = λ i. subst (λ ws. FitsSigned w32 (get_or ws i (pos 0))) (sym memory) (r.words i);
    }

    pub operand : (scratch : Reg) → IsOperand scratch → number scratch < 9 → (q : Place) (d : Cells) (w : State) → Represented p d w → IsTrue (is_placed p q) → Operand scratch q d w
    operand scratch o low q d w r placed =
        let at = location_of p q in
        let is = located p room q placed in
        let above = o.above in
        let f = fetches p room scratch at d (omega (arith, above)) is r.count r.memory in
        let was = r.place q placed in
        let value : register f.after (register_for scratch at) ≡ w.temps q = f.value ∙ was.0 in
        record {
          after = f.after;
          done = f.done;
          represents = still d f.after w r f.count f.memory (λ s high. f.others s (λ n. omega (arith, n, high, low)));
          memory = f.memory;
          value = value;
          fits = subst (FitsSigned w32) (sym value) was.1;
          operand = operand_at p scratch at o is;
          others = f.others;
        }
