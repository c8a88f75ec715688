-- The words of steps do the steps: each kind of step.
use Rattle.std.proofs.Common.{◌≡◌, ℕ, ◌+◌, ◌<◌, ◌≤◌, ◌&&◌, nat_lt, nat_le, ℤ, pos, negsuc, Bool, true, false, IsTrue, if◌then◌else◌, FitsSigned, List, [], ◌∷◌, ◌++◌, set, Some, refl, sym, ap, subst, ◌∙◌, arith, ⊎_elim}
use Rattle.std.specs.Int.{w32, int_bit_and, int_bit_or}
use Rattle.std.proofs.lemmas.Bool.{cases_lt}
use Rattle.std.proofs.lemmas.List.{set-get_or}
use Rattle.pt_base.specs.declared.UnOp.{UnOp}
use Rattle.pt_base.specs.declared.BinOp.{BinOp}
use Rattle.pt_base.specs.declared.BinOp.TheVariants as op
use Rattle.pt_base.specs.Operators.{unary_of, binary_of, not_of}
use Rattle.mb_isa.specs.declared.Reg.{Reg}
use Rattle.mb_isa.specs.declared.Reg.TheVariants.{R0, R3, R4, R5}
use Rattle.mb_isa.specs.declared.Instr.TheVariants.{Addk}
use Rattle.mb_isa.specs.Registers.{number}
use Rattle.pt_image.specs.declared.Parts.{Parts}
use Rattle.mb_isa.specs.Cells.{Cells, register, with_register, word_at, with_word}
use Rattle.pc_meaning.specs.Values as values
use Rattle.pc_lower.specs.declared.nodes.Place.{Place}
use Rattle.pc_lower.specs.declared.nodes.Step.{Step}
use Rattle.pc_lower.specs.declared.nodes.Step.TheVariants.{Const as const, Load as load, Save as save, Unary as unary_step, Binary as binary_step, TakeElement as take_element, PutElement as put_element, Move as move}
use Rattle.pc_lower.specs.Flow.{State, put_temp, put_store, step, run}
use Rattle.pc_lower.specs.Words.{Written, alone}
use Rattle.pc_regs.specs.declared.placement.Placement.{Placement}
use Rattle.pc_regs.specs.declared.placement.Location.{Location}
use Rattle.pc_regs.specs.declared.placement.Location.TheVariants.{Register as in_register, Memory as in_memory}
use Rattle.pc_regs.specs.Placement.{location_of, memory_words, IsPlacement, is_placed, word_in}
use Rattle.pc_regs.specs.Words.{is_word, constant, load_word, store_word, register_for, fetched, delivered, unary_words, binary_words, take_words, put_words, moved, step_words, steps_words, is_step_written, are_written}
use Rattle.pc_regs.proofs.Numbers.{mask_of, is_outside, outside_is, outside_below, and_ones, and_none, or_none, none_or, zero_and, and_zero, fits_word, fits_unary, fits_binary, fits_zero}
use Rattle.pc_regs.proofs.Registers.{does, followed, one_word}
use Rattle.pc_regs.proofs.Operating.{Gained, unary_gains, binary_gains}
use Rattle.pc_regs.proofs.Memory.{constant_does}
use Rattle.pc_regs.proofs.Masking.{take_gains, Stored, put_stores}
use Rattle.pc_regs.proofs.Delivering.{load_word_does, store_word_does, operand_4, operand_5, some_target, Delivered, in_register_already, stored_there, LeadsTo, set_place, gained_step, behind, set_cell, Operand, operand, still, fetches}
use Rattle.pc_regs.proofs.Places.{parts, is_less, less_is, not_less, is_at_most, IsLocation, located, Stands, Represented}

-- an index is within an array, or what is read there is 0 and what is written there is nothing
data Element (first size : ℕ) (z : ℤ) : Type 0 where
  inside : (i : ℕ) → z ≡ pos i → i < size → Element first size z
  beyond : is_outside size z ≡ true → ((store : List ℤ) → values.element_at store first size z ≡ pos 0) →
      ((store : List ℤ) (x : ℤ) → values.with_element store first size z x ≡ store) → Element first size z

element_of : (first size : ℕ) (z : ℤ) → Element first size z
element_of first size (pos i) =
    ⊎_elim (λ less. inside i refl less)
    (λ at_least.
    let no = not_less i size at_least in
    beyond (outside_is size i ∙ ap not_of no) (λ store. ap (λ b. if b then values.word_at store (first + i) else pos 0) no)
    (λ store x. ap (λ b. if b then set store (first + i) x else store) no))
    (cases_lt i size)
element_of first size (negsuc i) = beyond (outside_below size i) (λ store. refl) (λ store x. refl)

element_within : (store : List ℤ) (first size i : ℕ) (z : ℤ) → z ≡ pos i → i < size → values.element_at store first size z ≡ values.word_at store (first + i)
element_within store first size i z e less =
    ap (values.element_at store first size) e ∙ ap (λ b. if b then values.word_at store (first + i) else pos 0) (less_is i size less)

with_within : (store : List ℤ) (first size i : ℕ) (z x : ℤ) → z ≡ pos i → i < size → values.with_element store first size z x ≡ set store (first + i) x
with_within store first size i z x e less =
    ap (λ y. values.with_element store first size y x) e ∙ ap (λ b. if b then set store (first + i) x else store) (less_is i size less)

module _ (image : Parts) (row : List ℤ) (p : Placement) (room : IsPlacement p) where
  abbrev Leads : List Written → Cells → State → Type 0
  Leads ws d w = LeadsTo image row p room ws d w

  const_done : (to : Place) (n : ℤ) (d : Cells) (w : State) → Represented p d w → IsTrue (is_placed p to) → FitsSigned w32 n →
      Leads (step_words p (const to n)) d (step (const to n) w)
  const_done to n d w r placed fits =
      let rd = register_for R3 (location_of p to) in
      let core : Gained image row (constant rd n) d rd n = record {
        after = with_register rd (binary_of op.Add (pos 0) n) d;
        done = constant_does image row rd R0 n d fits;
        results = one_word d rd (binary_of op.Add (pos 0) n) n r.count (some_target image row p (location_of p to) (located p room to placed)) (zero_and n fits);
      } in
      gained_step image row p room (constant rd n) d d w to n r placed fits refl (λ q above. refl) core

  load_done : (to : Place) (word : ℕ) (d : Cells) (w : State) → Represented p d w → IsTrue (is_placed p to) → word < p.cells →
      Leads (step_words p (load to word)) d (step (load to word) w)
  load_done to word d w r placed cell =
      let rd = register_for R3 (location_of p to) in
      let was = r.cell word cell in
      let size = r.memory in
      let most = room.memory in
      let core : Gained image row (load_word rd word) d rd (values.word_at w.store word) = record {
        after = with_register rd (word_at d word) d;
        done = load_word_does image row rd word d (omega (arith, size, cell)) (omega (arith, size, most));
        results = one_word d rd (word_at d word) (values.word_at w.store word) r.count (some_target image row p (location_of p to) (located p room to placed)) was.0;
      } in
      gained_step image row p room (load_word rd word) d d w to (values.word_at w.store word) r placed was.1 refl (λ q above. refl) core

  save_done : (word : ℕ) (by : Place) (d : Cells) (w : State) → Represented p d w → word < p.cells → IsTrue (is_placed p by) →
      Leads (step_words p (save word by)) d (step (save word by) w)
  save_done word by d w r cell placed =
      let f = operand image row p room R4 (operand_4 image row) (omega arith) by d w r placed in
      let from = register_for R4 (location_of p by) in
      let size = f.represents.memory in
      let most = room.memory in
      let e = with_word word (register f.after from) f.after in
      let fits : FitsSigned w32 (w.temps by) = subst (FitsSigned w32) f.value f.fits in
      behind image row p room (fetched R4 (location_of p by)) (store_word from word) d f.after (put_store (set w.store word (w.temps by)) w) f.done
      (record {
        after = e;
        done = store_word_does image row from word f.after (omega (arith, size, cell)) (omega (arith, size, most));
        represents = set_cell image row p room f.after e w word (w.temps by) f.represents f.represents.count (ap (set f.after.memory word) f.value) (λ q above. refl) cell fits;
      })

  unary_done : (o : UnOp) (to by : Place) (d : Cells) (w : State) → Represented p d w → IsTrue (is_placed p to) → IsTrue (is_placed p by) →
      Leads (step_words p (unary_step o to by)) d (step (unary_step o to by) w)
  unary_done o to by d w r placed placed_by =
      let f = operand image row p room R4 (operand_4 image row) (omega arith) by d w r placed_by in
      let rd = register_for R3 (location_of p to) in
      let ra = register_for R4 (location_of p by) in
      let fits : FitsSigned w32 (w.temps by) = subst (FitsSigned w32) f.value f.fits in
      let core : Gained image row (unary_words o rd ra) f.after rd (unary_of o (w.temps by)) =
      subst (λ x. Gained image row (unary_words o rd ra) f.after rd (unary_of o x)) f.value
      (unary_gains image row o f.after rd ra f.represents.count f.operand (some_target image row p (location_of p to) (located p room to placed)) f.fits) in
      behind image row p room (fetched R4 (location_of p by)) (unary_words o rd ra ++ delivered R3 (location_of p to)) d f.after (put_temp to (unary_of o (w.temps by)) w) f.done
      (gained_step image row p room (unary_words o rd ra) f.after f.after w to (unary_of o (w.temps by)) f.represents placed (fits_unary o (w.temps by) fits) refl (λ q above. refl) core)

  -- two operands
  record Operands (left right : Place) (d : Cells) (w : State) : Type 0 where
    pub first : Operand image row p room R4 left d w
    pub second : Operand image row p room R5 right first.after w
    pub value : register second.after (register_for R4 (location_of p left)) ≡ w.temps left
    pub fits : FitsSigned w32 (register second.after (register_for R4 (location_of p left)))

  not_five : (at : Location) → IsLocation p at → number (register_for R4 at) ≡ 5 → ⊥
  not_five (in_register r) is n = omega (arith, is, n)
  not_five (in_memory word) is n = omega (arith, n)

  operands : (left right : Place) (d : Cells) (w : State) → Represented p d w → IsTrue (is_placed p left) → IsTrue (is_placed p right) → Operands left right d w
  operands left right d w r placed placed_right =
      let f = operand image row p room R4 (operand_4 image row) (omega arith) left d w r placed in
      let g = operand image row p room R5 (operand_5 image row) (omega arith) right f.after w f.represents placed_right in
      let same_left = g.others (register_for R4 (location_of p left)) (not_five (location_of p left) (located p room left placed)) in
      record { first = f; second = g; value = same_left ∙ f.value; fits = subst (FitsSigned w32) (sym same_left) f.fits }

  behind_both : (left right : Place) (rest : List Written) (d : Cells) (w v : State) (o : Operands left right d w) → Leads rest o.second.after v →
      Leads (fetched R4 (location_of p left) ++ (fetched R5 (location_of p right) ++ rest)) d v
  behind_both left right rest d w v o l =
      behind image row p room (fetched R4 (location_of p left)) (fetched R5 (location_of p right) ++ rest) d o.first.after v o.first.done
      (behind image row p room (fetched R5 (location_of p right)) rest o.first.after o.second.after v o.second.done l)

  binary_done : (o : BinOp) (to left right : Place) (d : Cells) (w : State) → Represented p d w → IsTrue (is_placed p to) → IsTrue (is_placed p left) → IsTrue (is_placed p right) →
      Leads (step_words p (binary_step o to left right)) d (step (binary_step o to left right) w)
  binary_done o to left right d w r placed placed_left placed_right =
      let two = operands left right d w r placed_left placed_right in
      let g = two.second in
      let rd = register_for R3 (location_of p to) in
      let ra = register_for R4 (location_of p left) in
      let rb = register_for R5 (location_of p right) in
      let fits_left : FitsSigned w32 (w.temps left) = subst (FitsSigned w32) two.value two.fits in
      let fits_right : FitsSigned w32 (w.temps right) = subst (FitsSigned w32) g.value g.fits in
      let gains = binary_gains image row o g.after rd ra rb g.represents.count two.first.operand g.operand (some_target image row p (location_of p to) (located p room to placed)) two.fits g.fits in
      let core : Gained image row (binary_words o rd ra rb) g.after rd (binary_of o (w.temps left) (w.temps right)) =
      subst (λ x. Gained image row (binary_words o rd ra rb) g.after rd (binary_of o (w.temps left) x)) g.value
      (subst (λ x. Gained image row (binary_words o rd ra rb) g.after rd (binary_of o x (register g.after rb))) two.value gains) in
      behind_both left right (binary_words o rd ra rb ++ delivered R3 (location_of p to)) d w (put_temp to (binary_of o (w.temps left) (w.temps right)) w) two
      (gained_step image row p room (binary_words o rd ra rb) g.after g.after w to (binary_of o (w.temps left) (w.temps right)) g.represents placed
      (fits_binary o (w.temps left) (w.temps right) fits_left fits_right) refl (λ q above. refl) core)

  take_done : (to : Place) (first size : ℕ) (index : Place) (d : Cells) (w : State) → Represented p d w →
      IsTrue (is_placed p to) → first + size ≤ p.cells → IsTrue (is_placed p index) →
      Leads (step_words p (take_element to first size index)) d (step (take_element to first size index) w)
  take_done to first size index d w r placed cells placed_index =
      by_case (element_of first size (w.temps index))
    where
      f : Operand image row p room R4 index d w
      f = operand image row p room R4 (operand_4 image row) (omega arith) index d w r placed_index

      rd : Reg
      rd = register_for R3 (location_of p to)

      ra : Reg
      ra = register_for R4 (location_of p index)

      -- so many words behind the first one
      taken : (off : Bool) (j : ℕ) → is_outside size (w.temps index) ≡ off → int_bit_and w32 (w.temps index) (mask_of (not_of off)) ≡ pos j → first + j < memory_words p →
          FitsSigned w32 (values.element_at w.store first size (w.temps index)) →
          int_bit_and w32 (word_at f.after (first + j)) (mask_of (not_of off)) ≡ values.element_at w.store first size (w.temps index) →
          Leads (step_words p (take_element to first size index)) d (put_temp to (values.element_at w.store first size (w.temps index)) w)
      taken off j is reached within fits value =
          let size_f = f.represents.memory in
          let most = room.memory in
          let gains = take_gains image row rd first size ra f.after off j f.represents.count f.operand (some_target image row p (location_of p to) (located p room to placed))
          (omega (arith, cells, most)) f.fits (ap (is_outside size) f.value ∙ is) (ap (λ x. int_bit_and w32 x (mask_of (not_of off))) f.value ∙ reached)
          (omega (arith, within, size_f)) (omega (arith, most, size_f)) in
          let core = subst (Gained image row (take_words rd first size ra) f.after rd) value gains in
          behind image row p room (fetched R4 (location_of p index)) (take_words rd first size ra ++ delivered R3 (location_of p to)) d f.after
          (put_temp to (values.element_at w.store first size (w.temps index)) w) f.done
          (gained_step image row p room (take_words rd first size ra) f.after f.after w to (values.element_at w.store first size (w.temps index)) f.represents placed fits refl
          (λ q above. refl) core)

      fits_index : FitsSigned w32 (w.temps index)
      fits_index = subst (FitsSigned w32) f.value f.fits

      by_case : Element first size (w.temps index) → Leads (step_words p (take_element to first size index)) d (put_temp to (values.element_at w.store first size (w.temps index)) w)
      by_case (inside i e less) =
          let element = element_within w.store first size i (w.temps index) e less in
          let was = f.represents.cell (first + i) (omega (arith, less, cells)) in
          let fits_there : FitsSigned w32 (word_at f.after (first + i)) = subst (FitsSigned w32) (sym was.0) was.1 in
          taken false i (ap (is_outside size) e ∙ outside_is size i ∙ ap not_of (less_is i size less)) (and_ones (w.temps index) fits_index ∙ e) (omega (arith, less, cells))
          (subst (FitsSigned w32) (sym element) was.1) (and_ones (word_at f.after (first + i)) fits_there ∙ was.0 ∙ sym element)
      by_case (beyond off none still_there) =
          taken true 0 off (and_none (w.temps index)) (omega (arith, cells)) (subst (FitsSigned w32) (sym (none w.store)) fits_zero)
          (and_none (word_at f.after (first + 0)) ∙ sym (none w.store))

  put_done : (first size : ℕ) (index by : Place) (d : Cells) (w : State) → Represented p d w →
      first + size ≤ p.cells → IsTrue (is_placed p index) → IsTrue (is_placed p by) →
      Leads (step_words p (put_element first size index by)) d (step (put_element first size index by) w)
  put_done first size index by d w r cells placed_index placed =
      by_case (element_of first size (w.temps index))
    where
      two : Operands index by d w
      two = operands index by d w r placed_index placed

      g : Operand image row p room R5 by two.first.after w
      g = two.second

      ra : Reg
      ra = register_for R4 (location_of p index)

      rb : Reg
      rb = register_for R5 (location_of p by)

      fits : FitsSigned w32 (w.temps by)
      fits = subst (FitsSigned w32) g.value g.fits

      fits_index : FitsSigned w32 (w.temps index)
      fits_index = subst (FitsSigned w32) two.value two.fits

      target : State
      target = step (put_element first size index by) w

      stores : (off : Bool) (j : ℕ) → is_outside size (w.temps index) ≡ off → int_bit_and w32 (w.temps index) (mask_of (not_of off)) ≡ pos j → first + j < memory_words p →
          Stored image row (put_words first size ra rb) g.after (first + j)
          (int_bit_or w32 (int_bit_and w32 (word_at g.after (first + j)) (mask_of off)) (int_bit_and w32 (register g.after rb) (mask_of (not_of off))))
      stores off j is reached within =
          let size_g = g.represents.memory in
          let most = room.memory in
          put_stores image row first size ra rb g.after off j g.represents.count two.first.operand g.operand (omega (arith, cells, most)) two.fits
          (ap (is_outside size) two.value ∙ is) (ap (λ x. int_bit_and w32 x (mask_of (not_of off))) two.value ∙ reached) (omega (arith, within, size_g)) (omega (arith, most, size_g))

      done : (after : Cells) → does image row (put_words first size ra rb) g.after ≡ Some after → Represented p after target → Leads (step_words p (put_element first size index by)) d target
      done after is represents = behind_both index by (put_words first size ra rb) d w target two (record { after = after; done = is; represents = represents })

      by_case : Element first size (w.temps index) → Leads (step_words p (put_element first size index by)) d target
      by_case (inside i e less) =
          let s = stores false i (ap (is_outside size) e ∙ outside_is size i ∙ ap not_of (less_is i size less)) (and_ones (w.temps index) fits_index ∙ e) (omega (arith, less, cells)) in
          let new : int_bit_or w32 (int_bit_and w32 (word_at g.after (first + i)) (pos 0)) (int_bit_and w32 (register g.after rb) (negsuc 0)) ≡ w.temps by =
          ap (λ x. int_bit_or w32 x (int_bit_and w32 (register g.after rb) (negsuc 0))) (and_none (word_at g.after (first + i)))
          ∙ ap (int_bit_or w32 (pos 0)) (and_ones (register g.after rb) g.fits ∙ g.value) ∙ none_or (w.temps by) fits in
          let set_there = set_cell image row p room g.after s.after w (first + i) (w.temps by) g.represents s.count (s.memory ∙ ap (set g.after.memory (first + i)) new) s.kept (omega (arith, less, cells)) fits in
          done s.after s.done (subst (λ store. Represented p s.after (put_store store w)) (sym (with_within w.store first size i (w.temps index) (w.temps by) e less)) set_there)
      by_case (beyond off none still_there) =
          let s = stores true 0 off (and_none (w.temps index)) (omega (arith, cells)) in
          let old = word_at g.after (first + 0) in
          let fits_old = g.represents.words (first + 0) in
          let same_word : int_bit_or w32 (int_bit_and w32 old (negsuc 0)) (int_bit_and w32 (register g.after rb) (pos 0)) ≡ old =
          ap (λ x. int_bit_or w32 x (int_bit_and w32 (register g.after rb) (pos 0))) (and_ones old fits_old)
          ∙ ap (int_bit_or w32 old) (and_none (register g.after rb)) ∙ or_none old fits_old in
          let same_memory : s.after.memory ≡ g.after.memory = s.memory ∙ ap (set g.after.memory (first + 0)) same_word ∙ set-get_or g.after.memory (first + 0) (pos 0) in
          done s.after s.done (subst (λ store. Represented p s.after (put_store store w)) (sym (still_there w.store (w.temps by))) (still image row p room g.after s.after w g.represents s.count same_memory s.kept))

  move_done : (to by : Place) (d : Cells) (w : State) → Represented p d w → IsTrue (is_placed p to) → IsTrue (is_placed p by) →
      Leads (step_words p (move to by)) d (step (move to by) w)
  move_done to by d w r placed placed_by =
      set_place image row p room (moved (location_of p to) (location_of p by)) d d w to (w.temps by) r placed was.1
      (moves (location_of p to) (location_of p by) (located p room to placed) (located p room by placed_by) was.0)
    where
      was : Stands (word_in (location_of p by) d) (w.temps by)
      was = r.place by placed_by

      moves : (to_there from : Location) → IsLocation p to_there → IsLocation p from → word_in from d ≡ w.temps by → Delivered image row p (moved to_there from) d d to_there (w.temps by)
      moves (in_register rd) (in_register ra) is is_from value =
          let v = binary_of op.Add (register d ra) (pos 0) in
          let fits : FitsSigned w32 (register d ra) = subst (FitsSigned w32) (sym value) was.1 in
          let del = in_register_already image row p rd d (with_register rd v d) (w.temps by) (one_word d rd v (w.temps by) r.count (omega (arith, is)) (and_zero (register d ra) fits ∙ value)) in
          record { after = del.after; done = followed image row (alone (Addk rd ra R0) ∷ []) [] d (with_register rd v d) del.after refl del.done; count = del.count; size = del.size; value = del.value; others = del.others; cells = del.cells; words = del.words }
      moves (in_register rd) (in_memory word) is is_from value =
          let size = r.memory in
          let most = room.memory in
          let front = is_from.1 in
          let v = word_at d word in
          let loads = load_word_does image row rd word d (omega (arith, size, front)) (omega (arith, size, most)) in
          let del = in_register_already image row p rd d (with_register rd v d) (w.temps by) (one_word d rd v (w.temps by) r.count (omega (arith, is)) value) in
          record { after = del.after; done = followed image row (load_word rd word) [] d (with_register rd v d) del.after loads del.done; count = del.count; size = del.size; value = del.value; others = del.others; cells = del.cells; words = del.words }
      moves (in_memory place) from is is_from value =
          let f = fetches image row p room R4 from d (omega arith) is_from r.count r.memory in
          let del = stored_there image row p room place (register_for R4 from) d f.after (w.temps by) is r.memory f.count f.memory (λ q above. f.others q (λ n. omega (arith, n, above))) (f.value ∙ value) in
          record { after = del.after; done = followed image row (fetched R4 from) (store_word (register_for R4 from) place) d f.after del.after f.done del.done; count = del.count; size = del.size; value = del.value; others = del.others; cells = del.cells; words = del.words }

  -- ---- every step

  pub step_done : (s : Step) (d : Cells) (w : State) → Represented p d w → IsTrue (is_step_written p s) → Leads (step_words p s) d (step s w)
  step_done (const to n) d w r h = let c = parts (is_placed p to) (is_word n) h in const_done to n d w r c.0 (fits_word n c.1)
  step_done (load to word) d w r h = let c = parts (is_placed p to) (nat_lt word p.cells) h in load_done to word d w r c.0 (is_less word p.cells c.1)
  step_done (save word by) d w r h = let c = parts (nat_lt word p.cells) (is_placed p by) h in save_done word by d w r (is_less word p.cells c.0) c.1
  step_done (unary_step o to by) d w r h = let c = parts (is_placed p to) (is_placed p by) h in unary_done o to by d w r c.0 c.1
  step_done (binary_step o to left right) d w r h =
      let c = parts (is_placed p to && is_placed p left) (is_placed p right) h in
      let e = parts (is_placed p to) (is_placed p left) c.0 in
      binary_done o to left right d w r e.0 e.1 c.1
  step_done (take_element to first size index) d w r h =
      let c = parts (is_placed p to && nat_le (first + size) p.cells) (is_placed p index) h in
      let e = parts (is_placed p to) (nat_le (first + size) p.cells) c.0 in
      take_done to first size index d w r e.0 (is_at_most (first + size) p.cells e.1) c.1
  step_done (put_element first size index by) d w r h =
      let c = parts (nat_le (first + size) p.cells && is_placed p index) (is_placed p by) h in
      let e = parts (nat_le (first + size) p.cells) (is_placed p index) c.0 in
      put_done first size index by d w r (is_at_most (first + size) p.cells e.0) e.1 c.1
  step_done (move to by) d w r h = let c = parts (is_placed p to) (is_placed p by) h in move_done to by d w r c.0 c.1

  pub steps_done : (steps : List Step) (d : Cells) (w : State) → Represented p d w → IsTrue (are_written p steps) → Leads (steps_words p steps) d (run steps w)
  steps_done [] d w r h = record { after = d; done = refl; represents = r }
  steps_done (s ∷ steps) d w r h =
      let c = parts (is_step_written p s) (are_written p steps) h in
      let first = step_done s d w r c.0 in
      behind image row p room (step_words p s) (steps_words p steps) d first.after (run steps (step s w)) first.done (steps_done steps first.after (step s w) first.represents c.1)
