-- What a program with numbers for names keeps is all that lowering asks.
use Rattle.std.proofs.Common.{◌≡◌, ℕ, zero, suc, ◌+◌, ◌<◌, ◌≤◌, Bool, true, false, ◌||◌, List, [], ◌∷◌, ◌++◌, map, length, Option, Some, None, refl, sym, ap, subst, ◌∙◌, append_assoc, length-append, arith}
use Rattle.std.specs.Prelude.{Contains, slice_get, is_some, nat_eq}
use Rattle.std.specs.List.{list_any}
use Rattle.std.proofs.lemmas.List.{length-map}
use Rattle.pt_base.proofs.Elements.{in_left, in_right}
use Rattle.pt_base.specs.declared.rules.Rule.{Rule}
use Rattle.pt_base.specs.declared.rules.Span.{Span}
use Rattle.pc_grammar.specs.declared.expressions.Word.{Word}
use Rattle.pc_grammar.specs.declared.expressions.Expr.{Expr}
use Rattle.pc_grammar.specs.declared.statements.Stmt.{Stmt}
use Rattle.pc_grammar.specs.declared.programs.Item.{Item}
use Rattle.pc_grammar.specs.declared.programs.Item.TheVariants.{Scalar, Array, Function as FunctionItem}
use Rattle.pc_grammar.specs.Spans as spans
use Rattle.pc_grammar.specs.Spans.{Rises}
use Rattle.pc_grammar.proofs.ItemSpans.{rise}
use Rattle.pc_grammar.specs.declared.typed.Cell.{Cell}
use Rattle.pc_grammar.specs.declared.typed.Function.{Function}
use Rattle.pc_grammar.specs.Uses.{Use, joined, value_uses, statements_uses, holds_pause}
use Rattle.pc_grammar.specs.Places.{names_of}
use Rattle.pc_grammar.specs.Breaking.{Breaks}
use Rattle.pc_grammar.specs.Typing.{Typing, item_cells, cells_of, functions_in, cell_number, function_number, numbered_value, typed_item, typed_from, typing_of}
use Rattle.pc_grammar.specs.Keeping.{IsTyped}
use Rattle.pc_grammar.specs.Meant.{is_item_kind, own_cells, IsNear, item, own, NamesCell, IsMeant, MeansWell}
use Rattle.pc_grammar.proofs.FirstPassing.{contains_get, get_seam}
use Rattle.pc_grammar.proofs.Standing.{declared}
use Rattle.pc_grammar.proofs.Scalars.{means_well}
use Rattle.pc_meaning.specs.declared.places.Room.{Room}
use Rattle.pc_meaning.specs.Programs.{rooms_of, room_at, place_of, spans_of, aborts_step, Numbering, numbering_of, statements_of, optional, routine_of, program_of}
use Rattle.pc_meaning.specs.Promises.{some_pauses}
use Rattle.pc_meaning.proofs.Bridge.{same_pause}
use Rattle.pc_lower.specs.Aborts.{aborts_of}
use Rattle.pc_lower.specs.Order.{RoutinesListed, AllListed}
use Rattle.pc_lower.specs.Sound.{Tidy, RoutineFits, RoutinesFit, ProgramFits}
use Rattle.pc_lower.specs.Counts.{RoutineNested, RoutinesNested}
use Rattle.pc_lower.proofs.Listing.{in_order_listed}
use Rattle.pc_lower.proofs.Spelled.{cut_small}
use Rattle.pc_lower.proofs.Nestings.{AllLiteralsFit}
use Rattle.pc_lower.proofs.Frames.{FunctionKept, EachKept, each_at, items_kept}
use Rattle.pc_lower.proofs.Apart.{room_size, words_apart, plain_size, own_low, ParameterCell, parameter_cell, functions_rise, expression_apart}
use Rattle.pc_lower.proofs.Ordered.{among_rise, program_in, routines_ordered}
use Rattle.pc_lower.proofs.Fitting.{Callable, all_fit, body_fits}
use Rattle.pc_lower.proofs.Threads.{thread_plain}

only : {g h : Function} → g ∷ [] ≡ h ∷ [] → g ≡ h
only e = cc

below_length : {A : Type 0} (xs : List A) (k : ℕ) (x : A) → slice_get xs k ≡ Some x → k < length xs
below_length [] k x h = absurd (cc)
below_length (y ∷ xs) zero x h = omega arith
below_length (y ∷ xs) (suc k) x h = let e = below_length xs k x h in omega (arith, e)

no_result : (e : Option (Expr ℕ)) → is_some e ≡ false → e ≡ None
no_result None h = refl
no_result (Some e) h = absurd (cc)

some_result : (e : Option (Expr ℕ)) → is_some e ≡ true → (v : Expr ℕ) × (e ≡ Some v)
some_result None h = absurd (cc)
some_result (Some v) h = (v, refl)

valued : (cell : Word → ℕ) (o : Option (Expr Word)) → is_some (numbered_value cell o) ≡ is_some o
valued cell None = refl
valued cell (Some e) = refl

module _ (items : List Item) (end : ℕ) (unbroken : (rule : Rule) (span : Span) → Breaks items end rule span → ⊥) (kept : EachKept items) (main : ℕ) where
  abbrev t : Typing
  t = record { cells = cells_of items; functions = typed_from items [] items; main = main; length = end }

  abbrev rooms : List Room
  rooms = rooms_of t.cells

  abbrev n : Numbering
  n = numbering_of t.functions

  -- ---- functions

  -- a function gives exactly where it has a result, and a thread doesn't give
  record Framed (f : Function) : Type 0 where
    given : is_some f.result ≡ f.gives
    plain : f.thread ≡ true → f.gives ≡ false
    literals : AllLiteralsFit (statements_of rooms n f.body)
    nested : RoutineNested (routine_of rooms n f)

  framed_item : (before : List Item) (x : Item) (after : List Item) (f : Function) → items ≡ before ++ x ∷ after → typed_item items before x ≡ f ∷ [] → Framed f
  framed_item before (Scalar kind name start) after f w is = absurd (cc)
  framed_item before (Array name size) after f w is = absurd (cc)
  framed_item before (FunctionItem name gives parameters locals body result) after f w is =
      let k : FunctionKept gives locals body result = each_at before (FunctionItem name gives parameters locals body result) after (subst EachKept w kept) in
      let own : List Word = parameters ++ names_of locals in
      let cell = cell_number before own in
      subst Framed (only is) (record {
        given = valued cell result ∙ k.given;
        plain = λ thread. thread_plain items end unbroken before name gives parameters locals body result after w thread;
        literals = k.literals rooms cell (function_number before) n;
        nested = (k.locals_nested rooms before parameters, k.body_nested rooms cell (function_number before) n, k.result_nested rooms cell);
      })

  framed : (i : ℕ) (f : Function) → slice_get t.functions i ≡ Some f → Framed f
  framed i f at = let d = declared items [] items i f at in framed_item d.before d.item d.after f d.whole d.is

  -- ---- an expression of a function names no parameter of an earlier one

  one_size : (f : Function) (c : ℕ) → NamesCell t f false false c → (room_at rooms c).size ≡ 1
  one_size f c m = room_size 0 t.cells c m.cell m.at ∙ plain_size items m.cell (contains_get t.cells c m.cell m.at) m.kind

  other_cell : (f : Function) (p c limit : ℕ) (indexed : Bool) → ParameterCell t.cells limit p → ((d : ℕ) → Contains (own_cells f) d → limit ≤ d) → NamesCell t f indexed false c → c ≡ p → ⊥
  other_cell f p c limit indexed k low m same = by m.near
    where
      by : IsNear f c m.cell → ⊥
      by (item is) =
          let one : Some m.cell ≡ Some k.cell = sym m.at ∙ ap (slice_get t.cells) same ∙ k.at in
          let cell : m.cell ≡ k.cell = cc in
          let bad : true ≡ false = sym is ∙ ap (λ (x : Cell). is_item_kind x.kind) cell ∙ k.kind in
          absurd (cc)
      by (own listed) = let e = low c listed in let b = k.below in absurd (omega (arith, e, b, same))

  callable : (i : ℕ) (f : Function) → slice_get t.functions i ≡ Some f → Callable t i f
  callable i f at = record {
    gives = λ k g there h. some_result g.result ((framed k g there).given ∙ h);
    apart = λ k g there less p listed e meant.
        let d = declared items [] items i f at in
        let c = declared items [] items k g there in
        let limit : ℕ = length (cells_of c.before) + length (item_cells c.item) in
        let cell = parameter_cell items items c.before c.item c.after g p c.whole c.is listed in
        let order : functions_in c.before < functions_in d.before = subst (λ x. x < functions_in d.before) c.number (subst (λ x. k < x) d.number less) in
        let rises = functions_rise c.before d.before c.item d.item c.after d.after (sym c.whole ∙ d.whole) order in
        let low : (m : ℕ) → Contains (own_cells f) m → limit ≤ m = λ m inside. (let b = own_low items d.before d.item f m d.is inside in omega (arith, rises, b)) in
        let clear : (m : ℕ) (indexed : Bool) → NamesCell t f indexed false m → (j : ℕ) → j < (room_at rooms m).size → nat_eq ((room_at rooms m).first + j) (place_of rooms p) ≡ false =
        λ m indexed names j inside. words_apart t.cells m p names.cell cell.cell names.at cell.at cell.one (other_cell f p m limit indexed cell low names) j (subst (λ s. j < s) (room_size 0 t.cells m names.cell names.at) inside) in
        let some : (m : ℕ) → NamesCell t f false false m → 0 < (room_at rooms m).size = λ m names. (let s = one_size f m names in omega (arith, s)) in
        expression_apart t i f p clear some e meant;
  }

  -- ---- the parts of what lowering asks

  paused : (all : List (Stmt ℕ)) → some_pauses (statements_of rooms n all) ≡ list_any holds_pause all
  paused [] = refl
  paused (s ∷ all) = ap (λ b. b || some_pauses (statements_of rooms n all)) (same_pause rooms n s) ∙ ap (λ b. holds_pause s || b) (paused all)

  tidy : MeansWell t → (i : ℕ) (f : Function) → slice_get t.functions i ≡ Some f → Framed f → Tidy (optional rooms f.result) (statements_of rooms n f.body)
  tidy well i f at k = by f.result refl
    where
      by : (o : Option (Expr ℕ)) → f.result ≡ o → Tidy (optional rooms o) (statements_of rooms n f.body)
      by None e = tt
      by (Some v) e = paused f.body ∙ well.runs i f at (calm f.thread refl)
        where
          gives : f.gives ≡ true
          gives = sym k.given ∙ ap is_some e

          calm : (b : Bool) → f.thread ≡ b → f.thread ≡ false
          calm true is = let bad : f.gives ≡ false = k.plain is in absurd (let x : true ≡ false = sym gives ∙ bad in cc)
          calm false is = is

  listed : (rises : Rises 0 (spans.spans_of items) end) → RoutinesListed (aborts_of (program_of t).routines) (program_of t).routines
  listed rises =
      in_order_listed (program_of t).routines
      (routines_ordered rooms n (spans_of aborts_step t.functions) (λ s. refl) end (among_rise (program_in items [] items) 0 end rises) t.functions [] refl)

  body_meant : MeansWell t → (i : ℕ) (f : Function) → slice_get t.functions i ≡ Some f → (u : Use ℕ) → Contains (statements_uses f.body) u → IsMeant t i f u
  body_meant well i f at u h =
      well.meant i f at u (in_right (joined (map (λ p. value_uses p.1) f.locals)) _ u (in_left (statements_uses f.body) (value_uses f.result) u h))

  routine_fits : MeansWell t → (i : ℕ) (f : Function) → slice_get t.functions i ≡ Some f → AllListed (aborts_of (program_of t).routines) (statements_of rooms n f.body) →
      RoutineFits (program_of t).routines (aborts_of (program_of t).routines) i (routine_of rooms n f)
  routine_fits well i f at order =
      let k = framed i f at in
      record {
        tidy = tidy well i f at k;
        body = all_fit (program_of t).routines (aborts_of (program_of t).routines) i (statements_of rooms n f.body) (body_fits t i f n (aborts_of (program_of t).routines) (callable i f at) f.body (body_meant well i f at)) k.literals order;
      }

  routines_fit : MeansWell t → (front fs : List Function) → front ++ fs ≡ t.functions → RoutinesListed (aborts_of (program_of t).routines) (map (routine_of rooms n) fs) →
      RoutinesFit (program_of t).routines (aborts_of (program_of t).routines) (length front) (map (routine_of rooms n) fs)
  routines_fit well front [] e order = tt
  routines_fit well front (f ∷ fs) e order =
      let at : slice_get t.functions (length front) ≡ Some f = ap (λ xs. slice_get xs (length front)) (sym e) ∙ get_seam front fs f in
      let grown : length (front ++ f ∷ []) ≡ suc (length front) = (let a = length-append front (f ∷ []) in omega (arith, a)) in (
        routine_fits well (length front) f at order.0,
        subst (λ k. RoutinesFit (program_of t).routines (aborts_of (program_of t).routines) k (map (routine_of rooms n) fs)) grown (routines_fit well (front ++ f ∷ []) fs (append_assoc front (f ∷ []) fs ∙ e) order.1),
      )

  pub whole_fits : MeansWell t → Rises 0 (spans.spans_of items) end → ProgramFits (program_of t)
  whole_fits well rises = record {
    main = let b = below_length t.functions t.main well.main.function well.main.at in let l = length-map t.functions (routine_of rooms n) in omega (arith, b, l);
    routines = routines_fit well [] t.functions refl (listed rises);
  }

  nested_from : (front fs : List Function) → front ++ fs ≡ t.functions → RoutinesNested (map (routine_of rooms n) fs)
  nested_from front [] e = tt
  nested_from front (f ∷ fs) e =
      let at : slice_get t.functions (length front) ≡ Some f = ap (λ xs. slice_get xs (length front)) (sym e) ∙ get_seam front fs f in
      ((framed (length front) f at).nested, nested_from (front ++ f ∷ []) fs (append_assoc front (f ∷ []) fs ∙ e))

  pub whole_nested : RoutinesNested (program_of t).routines
  whole_nested = nested_from [] t.functions refl

-- ---- of what a program with numbers for names keeps

pub typed_fits : (t : Typing) → IsTyped t → ProgramFits (program_of t)
unfolding typing_of
typed_fits t typed =
    let items : List Item = typed.program.items in
    let kept = items_kept typed.tree.spelled (cut_small typed.tree.cut) in
    let well : MeansWell (typing_of items typed.program.length) = subst MeansWell typed.same (means_well t typed) in
    subst (λ x. ProgramFits (program_of x)) (sym typed.same) (whole_fits items typed.program.length typed.unbroken kept _ well (rise typed.program typed.tree))

pub typed_nested : (t : Typing) → IsTyped t → RoutinesNested (program_of t).routines
unfolding typing_of
typed_nested t typed =
    let items : List Item = typed.program.items in
    let kept = items_kept typed.tree.spelled (cut_small typed.tree.cut) in
    subst (λ x. RoutinesNested (program_of x).routines) (sym typed.same) (whole_nested items typed.program.length typed.unbroken kept (typing_of items typed.program.length).main)

-- what is spelled, of each function
pub typed_spelled : (t : Typing) → IsTyped t → (i : ℕ) (f : Function) → slice_get t.functions i ≡ Some f → AllLiteralsFit (statements_of (rooms_of t.cells) (numbering_of t.functions) f.body)
unfolding typing_of
typed_spelled t typed =
    let items : List Item = typed.program.items in
    let kept = items_kept typed.tree.spelled (cut_small typed.tree.cut) in
    subst (λ x. (i : ℕ) (f : Function) → slice_get x.functions i ≡ Some f → AllLiteralsFit (statements_of (rooms_of x.cells) (numbering_of x.functions) f.body)) (sym typed.same)
    (λ i f at. (framed items typed.program.length typed.unbroken kept (typing_of items typed.program.length).main i f at).literals)
