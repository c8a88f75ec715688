-- What an accepted program names are cells, and their words are among the declared ones.
use Rattle.std.proofs.Common.{◌≡◌, ℕ, zero, suc, ◌+◌, ◌<◌, ◌≤◌, Bool, true, false, List, [], ◌∷◌, ◌++◌, map, length, Option, Some, None, ⊎_elim, refl, sym, ap, subst, ◌∙◌, append_assoc, length-append, arith}
use Rattle.std.specs.Prelude.{Contains, slice_get, replicate, if◌then◌else◌}
use Rattle.std.specs.List.{AllByRecursion}
use Rattle.std.proofs.lemmas.List.{length-map, length-replicate}
use Rattle.pt_base.proofs.Elements.{in_head, in_tail, in_none, in_cases, in_left, in_right, in_either}
use Rattle.pt_base.specs.declared.operators.BinOp.{BinOp}
use Rattle.pc_grammar.specs.declared.expressions.Word.{Word}
use Rattle.pc_grammar.specs.declared.expressions.Expr.{Expr}
use Rattle.pc_grammar.specs.declared.expressions.Expr.TheFolds.{fold-roll-Expr, ind-Expr, map-Expr}
use Rattle.pc_grammar.specs.declared.expressions.Expr.TheViews.{roll-Expr}
use Rattle.pc_grammar.specs.declared.expressions.Expr.TheOpen.{Expr-F, Number, Var, Elem, Unary, Chain}
use Rattle.pc_grammar.specs.declared.expressions.Goal.{Goal}
use Rattle.pc_grammar.specs.declared.expressions.Goal.TheVariants.{Nothing, Var as GoalVar, Elem as GoalElem}
use Rattle.pc_grammar.specs.declared.statements.Stmt.{Stmt}
use Rattle.pc_grammar.specs.declared.statements.Stmt.TheFolds.{fold-roll-Stmt, ind-Stmt, map-Stmt}
use Rattle.pc_grammar.specs.declared.statements.Stmt.TheViews.{roll-Stmt}
use Rattle.pc_grammar.specs.declared.statements.Stmt.TheOpen.{Stmt-F, Skip, Assign, Call, Block, If, While, Eot, Par, Abort}
use Rattle.pc_grammar.specs.declared.programs.CellKind.{CellKind}
use Rattle.pc_grammar.specs.declared.programs.CellKind.TheVariants.{Input, Output, Plain, Array as ArrayKind, Parameter, Local}
use Rattle.pc_grammar.specs.declared.programs.Item.{Item}
use Rattle.pc_grammar.specs.declared.programs.Item.TheVariants.{Scalar, Array, Function as FunctionItem}
use Rattle.pc_grammar.specs.declared.roles.Role.TheVariants.{Reads, ReadsElement, Writes, WritesElement, Calls}
use Rattle.pc_grammar.specs.declared.typed.Cell.{Cell}
use Rattle.pc_grammar.specs.declared.typed.Function.{Function}
use Rattle.pc_grammar.specs.Uses.{Use, use_of, joined, operands_uses, expression_step, expression_uses, expressions_uses, value_uses, goal_uses, is_taken, statement_step, statement_uses, statements_uses}
use Rattle.pc_grammar.specs.Places.{names_of}
use Rattle.pc_grammar.specs.Typing.{Typing, cell_of, item_cells, cells_of, typed_locals, typed_item, typing_of}
use Rattle.pc_grammar.specs.Keeping.{IsTyped}
use Rattle.pc_grammar.specs.Meant.{is_array_kind, own_cells, NamesCell, NamesRoutine, IsMeant}
use Rattle.pc_grammar.proofs.FirstPassing.{get_left, get_right, contains_get}
use Rattle.pc_grammar.proofs.Standing.{cells_append, declared}
use Rattle.pc_grammar.proofs.Scalars.{means_well}
use Rattle.pc_meaning.specs.declared.places.Room.{Room}
use Rattle.pc_meaning.specs.Tree.{Expression, Statement, Routine}
use Rattle.pc_meaning.specs.Statements.{routine_at}
use Rattle.pc_meaning.specs.Programs as programs
use Rattle.pc_meaning.specs.Programs.{rooms_from, rooms_of, room_at, place_of, declared_of, Numbering, numbering_of, expression_of, target_of, optional, locals_of, loop_from, statements_from, statement_of, statements_of, routine_of, program_of}
use Rattle.pc_lower.proofs.Apart.{plain_size, parameter_cell, nth_cell}
use Rattle.pc_lower.proofs.Fitting.{routine_there}
use Rattle.pc_lower.specs.Placing.{typed_flow}
use Rattle.pc_lower.specs.Cells.{KeepsCells}
use Rattle.pc_lower.specs.Aborts.{aborts_of}
use Rattle.pt_image.specs.Ranges.{AllBelow}
use Rattle.pc_lower.proofs.FlowWords.{bodies-keep, tests-keep, routines-conditions, NamesCells, AllNameCells, GoalCells, EachCells, SomeCells, StatementCells, StatementsCells, LocalsCells, RoutineCells}

-- ---- the words of a cell are among those of all

words-within : (place : ℕ) (cells : List Cell) (c : ℕ) (k : Cell) → slice_get cells c ≡ Some k → (room_at (rooms_from place cells) c).first + (room_at (rooms_from place cells) c).size ≤ place + length (declared_of cells)
words-within place [] c k h = cc
words-within place (x ∷ cells) zero k h =
    let a = length-append (replicate x.size x.start) (declared_of cells) in
    let b = length-replicate x.size x.start in
    omega (arith, a, b)
words-within place (x ∷ cells) (suc c) k h =
    let r = words-within (place + x.size) cells c k h in
    let a = length-append (replicate x.size x.start) (declared_of cells) in
    let b = length-replicate x.size x.start in
    omega (arith, a, b, r)

room-size : (place : ℕ) (cells : List Cell) (c : ℕ) (k : Cell) → slice_get cells c ≡ Some k → (room_at (rooms_from place cells) c).size ≡ k.size
room-size place [] c k h = cc
room-size place (x ∷ cells) zero k h = let e : x ≡ k = cc in ap (λ (k : Cell). k.size) e
room-size place (x ∷ cells) (suc c) k h = room-size (place + x.size) cells c k h

-- ---- the own cells of a function are there, and have one word

pub record OneWord (cells : List Cell) (p : ℕ) : Type 0 where
  pub cell : Cell
  pub at : slice_get cells p ≡ Some cell
  pub one : cell.size ≡ 1

only : {g h : Function} → g ∷ [] ≡ h ∷ [] → g ≡ h
only e = cc

local-inside : (before : List Item) (mine : List Word) (locals : List (Word × Option (Expr Word))) (p : ℕ) → Contains (map (λ q. q.0) (typed_locals before mine locals)) p → (k : ℕ) × (p ≡ length (cells_of before) + length mine + k) × (k < length (names_of locals))
local-inside before mine [] p h = absurd (in_none p h)
local-inside before mine (l ∷ locals) p h =
    ⊎_elim (λ is. (0, (let e : length (cells_of before) + length mine ≡ p = is in omega (arith, e)), omega arith))
    (λ rest. let r = local-inside before (mine ++ l.0 ∷ []) locals p rest in let a = length-append mine (l.0 ∷ []) in (suc r.0, omega (arith, r.1, a), omega (arith, r.2)))
    (in_cases _ p (map (λ q. q.0) (typed_locals before (mine ++ l.0 ∷ []) locals)) h)

own-item : (all items before : List Item) (x : Item) (after : List Item) (f : Function) (p : ℕ) → items ≡ before ++ x ∷ after → typed_item all before x ≡ f ∷ [] → Contains (own_cells f) p → OneWord (cells_of items) p
own-item all items before (Scalar kind name start) after f p whole t h = absurd (cc)
own-item all items before (Array name size) after f p whole t h = absurd (cc)
own-item all items before (FunctionItem name gives parameters locals body result) after f p whole t h =
    let x : Item = FunctionItem name gives parameters locals body result in
    ⊎_elim (λ own. let c = parameter_cell all items before x after f p whole t own in record { cell = c.cell; at = c.at; one = c.one })
    (λ own.
    let base : ℕ = length (cells_of before) in
    let r = local-inside before parameters locals p (subst (λ (g : Function). Contains (map (λ q. q.0) g.locals) p) (sym (only t)) own) in
    let c = nth_cell Local (names_of locals) r.0 r.2 in
    let mapped = length-map parameters (cell_of Parameter) in
    let e : p ≡ base + (length (map (cell_of Parameter) parameters) + r.0) = omega (arith, r.1, mapped) in
    record {
      cell = c.0;
      at = ap (slice_get (cells_of items)) e ∙ ap (λ cs. slice_get cs (base + (length (map (cell_of Parameter) parameters) + r.0))) (ap cells_of whole ∙ cells_append before (x ∷ after))
          ∙ get_right (cells_of before) (item_cells x ++ cells_of after) (length (map (cell_of Parameter) parameters) + r.0)
          ∙ get_left (item_cells x) (cells_of after) (length (map (cell_of Parameter) parameters) + r.0) c.0 (get_right (map (cell_of Parameter) parameters) (map (cell_of Local) (names_of locals)) r.0 ∙ c.1);
      one = c.3;
    })
    (in_either f.parameters (map (λ q. q.0) f.locals) p h)

pub own-words : (t : Typing) → IsTyped t → (i : ℕ) (f : Function) → slice_get t.functions i ≡ Some f → (p : ℕ) → Contains (own_cells f) p → OneWord t.cells p
unfolding typing_of
own-words t typed =
    let items : List Item = typed.program.items in
    subst (λ x. (i : ℕ) (f : Function) → slice_get x.functions i ≡ Some f → (p : ℕ) → Contains (own_cells f) p → OneWord x.cells p) (sym typed.same)
    (λ i f at p h. let d = declared items [] items i f at in own-item items items d.before d.item d.after f p d.whole d.is h)

pub plain-words : (t : Typing) → IsTyped t → (k : Cell) → Contains t.cells k → is_array_kind k.kind ≡ false → k.size ≡ 1
unfolding typing_of
plain-words t typed = subst (λ x. (k : Cell) → Contains x.cells k → is_array_kind k.kind ≡ false → k.size ≡ 1) (sym typed.same) (plain_size typed.program.items)

-- ---- what expressions and statements of a function name

module _ (t : Typing) (typed : IsTyped t) where
  abbrev rooms : List Room
  rooms = rooms_of t.cells

  abbrev total : ℕ
  total = length (declared_of t.cells)

  abbrev n : Numbering
  n = numbering_of t.functions

  abbrev routines : List Routine
  routines = map (routine_of rooms n) t.functions

  one-word : (c : ℕ) (k : Cell) → slice_get t.cells c ≡ Some k → k.size ≡ 1 → place_of rooms c < total
  one-word c k at one = let w = words-within 0 t.cells c k at in let s = room-size 0 t.cells c k at in omega (arith, w, s, one)

  own-place : (i : ℕ) (f : Function) → slice_get t.functions i ≡ Some f → (p : ℕ) → Contains (own_cells f) p → place_of rooms p < total
  own-place i f at p h = let o = own-words t typed i f at p h in one-word p o.cell o.at o.one

  module _ (i : ℕ) (f : Function) where
    abbrev AllMeant : List (Use ℕ) → Type 0
    AllMeant uses = (u : Use ℕ) → Contains uses u → IsMeant t i f u

    scalar : (written : Bool) (c : ℕ) → NamesCell t f false written c → place_of rooms c < total
    scalar written c m = one-word c m.cell m.at (plain-words t typed m.cell (contains_get t.cells c m.cell m.at) m.kind)

    array : (written : Bool) (c : ℕ) → NamesCell t f true written c → place_of rooms c + (room_at rooms c).size ≤ total
    array written c m = let w = words-within 0 t.cells c m.cell m.at in omega (arith, w)

    abbrev Named : Expr ℕ → Type 0
    Named e = AllMeant (expression_uses e) → NamesCells total (expression_of rooms e)

    abbrev KnownExpr : Type 0
    KnownExpr = (e : Expr ℕ) × Named e

    operands-named : (rest : List (BinOp × KnownExpr)) → AllMeant (operands_uses (map (λ (q : BinOp × Expr ℕ). (q.0, expression_uses q.1)) (map (λ (q : BinOp × KnownExpr). (q.0, q.1.0)) rest))) →
        AllNameCells total (programs.operands_from (map (λ (q : BinOp × Expr ℕ). (q.0, expression_of rooms q.1)) (map (λ (q : BinOp × KnownExpr). (q.0, q.1.0)) rest)))
    operands-named [] h = tt
    operands-named (q ∷ rest) h = (q.1.1 (λ u c. h u (in_left _ _ u c)), operands-named rest (λ u c. h u (in_right (expression_uses q.1.0) _ u c)))

    level-named : (x : Expr-F ℕ KnownExpr) → AllMeant (expression_step (map-Expr ℕ (Expr ℕ) (List (Use ℕ)) (expression_uses {N = ℕ}) (map-Expr ℕ KnownExpr (Expr ℕ) (λ e. e.0) x))) →
        NamesCells total (programs.expression_step rooms (map-Expr ℕ (Expr ℕ) Expression (expression_of rooms) (map-Expr ℕ KnownExpr (Expr ℕ) (λ e. e.0) x)))
    level-named (Number k) h = tt
    level-named (Var c) h = scalar false c (h (use_of Reads c) (in_head _ []))
    level-named (Elem c index) h = (array false c (h (use_of ReadsElement c) (in_head _ (expression_uses index.0))), index.1 (λ u d. h u (in_tail (use_of ReadsElement c) u (expression_uses index.0) d)))
    level-named (Unary op e) h = e.1 h
    level-named (Chain first rest) h = (first.1 (λ u c. h u (in_left (expression_uses first.0) _ u c)), operands-named rest (λ u c. h u (in_right (expression_uses first.0) _ u c)))

    expression-named : (e : Expr ℕ) → Named e
    expression-named = ind-Expr ℕ Named (λ x y is.
        subst (λ z. Named (roll-Expr ℕ z)) is
        (let below = map-Expr ℕ KnownExpr (Expr ℕ) (λ e. e.0) y in
        let uses = fold-roll-Expr ℕ (List (Use ℕ)) (expression_step {N = ℕ}) below in
        λ h. subst (NamesCells total) (sym (fold-roll-Expr ℕ Expression (programs.expression_step rooms) below)) (level-named y (subst AllMeant uses h))))

    arguments-named : (es : List (Expr ℕ)) → AllMeant (expressions_uses es) → EachCells total (map (expression_of rooms) es)
    arguments-named [] h = tt
    arguments-named (e ∷ es) h = (expression-named e (λ u c. h u (in_left (expression_uses e) (expressions_uses es) u c)), arguments-named es (λ u c. h u (in_right (expression_uses e) (expressions_uses es) u c)))

    goal-named : (goal : Goal ℕ) → AllMeant (goal_uses goal) → GoalCells total (target_of rooms goal)
    goal-named Nothing h = tt
    goal-named (GoalVar c) h = scalar true c (h (use_of Writes c) (in_head _ []))
    goal-named (GoalElem c index) h =
        (array true c (h (use_of WritesElement c) (in_head _ (expression_uses index))), expression-named index (λ u d. h u (in_tail (use_of WritesElement c) u (expression_uses index) d)))

    places-there : (k : ℕ) (g : Function) → slice_get t.functions k ≡ Some g → (ps : List ℕ) → ((p : ℕ) → Contains ps p → Contains g.parameters p) → AllByRecursion (λ place. place < total) (map (place_of rooms) ps)
    places-there k g at [] inside = tt
    places-there k g at (p ∷ ps) inside =
        (own-place k g at p (in_left g.parameters (map (λ q. q.0) g.locals) p (inside p (in_head p ps))), places-there k g at ps (λ q c. inside q (in_tail p q ps c)))

    call-named : (goal : Goal ℕ) (k : ℕ) (es : List (Expr ℕ)) → AllMeant (statement_step (Call goal k es)) →
        GoalCells total (target_of rooms goal) × EachCells total (map (expression_of rooms) es) × AllByRecursion (λ place. place < total) (routine_at routines k).parameters
    call-named goal k es h =
        let call : Use ℕ = use_of (Calls (length es) (is_taken goal)) k in
        let m : NamesRoutine t i (length es) (is_taken goal) k = h call (in_right (goal_uses goal) (call ∷ expressions_uses es) call (in_head call (expressions_uses es))) in
        let there : routine_at routines k ≡ routine_of rooms n m.routine = routine_there (routine_of rooms n) t.functions k m.routine m.at in (
          goal-named goal (λ u c. h u (in_left (goal_uses goal) (call ∷ expressions_uses es) u c)),
          arguments-named es (λ u c. h u (in_right (goal_uses goal) (call ∷ expressions_uses es) u (in_tail call u (expressions_uses es) c))),
          subst (λ (r : Routine). AllByRecursion (λ place. place < total) r.parameters) (sym there) (places-there k m.routine m.at m.routine.parameters (λ p c. c)),
        )

    abbrev NamedStatement : Stmt ℕ → Type 0
    NamedStatement s = AllMeant (statement_uses s) → StatementCells total routines (statement_of rooms n s)

    abbrev Known : Type 0
    Known = (s : Stmt ℕ) × NamedStatement s

    abbrev bare : Stmt-F ℕ Known → Stmt-F ℕ (Stmt ℕ)
    bare x = map-Stmt ℕ Known (Stmt ℕ) (λ s. s.0) x

    all-known : (all : List Known) → AllMeant (joined (map statement_uses (map (λ s. s.0) all))) → StatementsCells total routines (statements_from (map (statement_of rooms n) (map (λ s. s.0) all)))
    all-known [] h = tt
    all-known (s ∷ all) h = (s.1 (λ u c. h u (in_left (statement_uses s.0) _ u c)), all-known all (λ u c. h u (in_right (statement_uses s.0) _ u c)))

    looped : (most : Option ℕ) (test : Expression) (body : Statement) → NamesCells total test → StatementCells total routines body → StatementCells total routines (loop_from most test body)
    looped None test body h k = (h, k)
    looped (Some most) test body h k = (h, k)

    level-statement : (x : Stmt-F ℕ Known) → AllMeant (statement_step (map-Stmt ℕ (Stmt ℕ) (List (Use ℕ)) (statement_uses {N = ℕ}) (bare x))) → StatementCells total routines (programs.statement_step rooms n (map-Stmt ℕ (Stmt ℕ) Statement (statement_of rooms n) (bare x)))
    level-statement Skip h = tt
    level-statement (Assign goal e) h = (goal-named goal (λ u c. h u (in_left (goal_uses goal) (expression_uses e) u c)), expression-named e (λ u c. h u (in_right (goal_uses goal) (expression_uses e) u c)))
    level-statement (Call goal k es) h = call-named goal k es h
    level-statement (Block all) h = all-known all h
    level-statement (If test first None) h =
        (expression-named test (λ u c. h u (in_left (expression_uses test) _ u c)), first.1 (λ u c. h u (in_right (expression_uses test) _ u (in_left (statement_uses first.0) _ u c))), tt)
    level-statement (If test first (Some second)) h = (
      expression-named test (λ u c. h u (in_left (expression_uses test) _ u c)),
      first.1 (λ u c. h u (in_right (expression_uses test) _ u (in_left (statement_uses first.0) _ u c))),
      second.1 (λ u c. h u (in_right (expression_uses test) _ u (in_right (statement_uses first.0) _ u c))),
    )
    level-statement (While span test most body) h =
        looped most (expression_of rooms test) (statement_of rooms n body.0) (expression-named test (λ u c. h u (in_left (expression_uses test) _ u c))) (body.1 (λ u c. h u (in_right (expression_uses test) _ u c)))
    level-statement (Eot span) h = tt
    level-statement (Par span threads) h = tt
    level-statement (Abort span weak body test) h = (body.1 (λ u c. h u (in_left (statement_uses body.0) _ u c)), expression-named test (λ u c. h u (in_right (statement_uses body.0) _ u c)))

    statement-named : (s : Stmt ℕ) → NamedStatement s
    statement-named = ind-Stmt ℕ NamedStatement (λ x y is.
        subst (λ z. NamedStatement (roll-Stmt ℕ z)) is
        (let below = bare y in
        let uses = fold-roll-Stmt ℕ (List (Use ℕ)) (statement_step {N = ℕ}) below in
        λ h. subst (StatementCells total routines) (sym (fold-roll-Stmt ℕ Statement (programs.statement_step rooms n) below)) (level-statement y (subst AllMeant uses h))))

    body-named : (all : List (Stmt ℕ)) → AllMeant (statements_uses all) → StatementsCells total routines (statements_of rooms n all)
    body-named [] h = tt
    body-named (s ∷ all) h = (statement-named s (λ u c. h u (in_left (statement_uses s) (statements_uses all) u c)), body-named all (λ u c. h u (in_right (statement_uses s) (statements_uses all) u c)))

    value-named : (o : Option (Expr ℕ)) → AllMeant (value_uses o) → SomeCells total (optional rooms o)
    value-named None h = tt
    value-named (Some e) h = expression-named e h

    locals-named : slice_get t.functions i ≡ Some f → (locals : List (ℕ × Option (Expr ℕ))) → ((p : ℕ) → Contains (map (λ q. q.0) locals) p → Contains (map (λ q. q.0) f.locals) p) → AllMeant (joined (map (λ p. value_uses p.1) locals)) → LocalsCells total routines (locals_of rooms locals)
    locals-named at [] inside h = tt
    locals-named at (l ∷ locals) inside h = (
      own-place i f at l.0 (in_right f.parameters (map (λ q. q.0) f.locals) l.0 (inside l.0 (in_head l.0 (map (λ q. q.0) locals)))),
      value-named l.1 (λ u c. h u (in_left (value_uses l.1) _ u c)),
      locals-named at locals (λ p c. inside p (in_tail l.0 p (map (λ q. q.0) locals) c)) (λ u c. h u (in_right (value_uses l.1) _ u c)),
    )

  routine-named : (i : ℕ) (f : Function) → slice_get t.functions i ≡ Some f → RoutineCells total routines (routine_of rooms n f)
  routine-named i f at =
      let meant = (means_well t typed).meant i f at in
      record {
        locals = locals-named i f at f.locals (λ p c. c) (λ u c. meant u (in_left (joined (map (λ p. value_uses p.1) f.locals)) _ u c));
        body = body-named i f f.body (λ u c. meant u (in_right (joined (map (λ p. value_uses p.1) f.locals)) _ u (in_left (statements_uses f.body) (value_uses f.result) u c)));
        result = value-named i f f.result (λ u c. meant u (in_right (joined (map (λ p. value_uses p.1) f.locals)) _ u (in_right (statements_uses f.body) (value_uses f.result) u c)));
      }

  routines-from : (rest front : List Function) → front ++ rest ≡ t.functions → AllByRecursion (RoutineCells total routines) (map (routine_of rooms n) rest)
  routines-from [] front e = tt
  routines-from (f ∷ rest) front e = (
    routine-named (length front) f (ap (λ l. slice_get l (length front)) (sym e) ∙ Rattle.pc_grammar.proofs.FirstPassing.get_seam front rest f),
    routines-from rest (front ++ f ∷ []) (append_assoc front (f ∷ []) rest ∙ e),
  )

  pub routines-named : AllByRecursion (RoutineCells total routines) routines
  routines-named = routines-from t.functions [] refl

-- inputs and outputs are words of the cells
module _ (test : CellKind → Bool) (scalar : (kind : CellKind) → test kind ≡ true → is_array_kind kind ≡ false) where
  ports-from : (cells : List Cell) (place most : ℕ) → ((k : Cell) → Contains cells k → is_array_kind k.kind ≡ false → k.size ≡ 1) → place + length (declared_of cells) ≤ most → AllBelow most (programs.chosen test cells (rooms_from place cells))
  ports-from [] place most one fits = tt
  ports-from (k ∷ cells) place most one fits =
      let a = length-append (replicate k.size k.start) (declared_of cells) in
      let b = length-replicate k.size k.start in
      by (test k.kind) refl (ports-from cells (place + k.size) most (λ m c. one m (in_tail k m cells c)) (omega (arith, a, b, fits))) (omega (arith, a, b, fits))
    where
      by : (b : Bool) → test k.kind ≡ b → AllBelow most (programs.chosen test cells (rooms_from (place + k.size) cells)) → place + k.size ≤ most →
          AllBelow most (if b then place ∷ programs.chosen test cells (rooms_from (place + k.size) cells) else programs.chosen test cells (rooms_from (place + k.size) cells))
      by true e h fits = let s = one k (in_head k cells) (scalar k.kind e) in (omega (arith, s, fits), h)
      by false e h fits = h

scalar-input : (kind : CellKind) → programs.is_input kind ≡ true → is_array_kind kind ≡ false
scalar-input Input e = refl
scalar-input Output e = refl
scalar-input Plain e = refl
scalar-input ArrayKind e = cc
scalar-input Parameter e = refl
scalar-input Local e = refl

scalar-output : (kind : CellKind) → programs.is_output kind ≡ true → is_array_kind kind ≡ false
scalar-output Input e = refl
scalar-output Output e = refl
scalar-output Plain e = refl
scalar-output ArrayKind e = cc
scalar-output Parameter e = refl
scalar-output Local e = refl

pub inputs-below : (t : Typing) → IsTyped t → AllBelow (length (program_of t).declared) (program_of t).inputs
inputs-below t typed = ports-from programs.is_input scalar-input t.cells 0 (length (declared_of t.cells)) (plain-words t typed) (omega arith)

pub outputs-below : (t : Typing) → IsTyped t → AllBelow (length (program_of t).declared) (program_of t).outputs
outputs-below t typed = ports-from programs.is_output scalar-output t.cells 0 (length (declared_of t.cells)) (plain-words t typed) (omega arith)

-- ---- the whole flow

pub keeps-cells : (t : Typing) → IsTyped t → KeepsCells (typed_flow t)
keeps-cells t typed = record {
  bodies = bodies-keep (length (program_of t).declared) (program_of t).routines (program_of t).routines (routines-named t typed);
  conditions = tests-keep (length (program_of t).declared) (aborts_of (program_of t).routines) (routines-conditions (length (program_of t).declared) (program_of t).routines (program_of t).routines (routines-named t typed));
}
