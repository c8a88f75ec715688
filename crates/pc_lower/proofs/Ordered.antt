-- Aborts are numbered in the order of the text: their spans rise, and a number counts the spans that begin earlier.
use Rattle.std.proofs.Common.{◌≡◌, ℕ, suc, ◌+◌, ◌<◌, ◌≤◌, Bool, true, false, List, [], ◌∷◌, ◌++◌, map, length, Option, Some, None, refl, sym, ap, subst, ◌∙◌, append_assoc, append-nil, length-append, arith}
use Rattle.std.specs.Prelude.{nat_lt, if◌then◌else◌}
use Rattle.std.proofs.lemmas.Bool.Decides.{Decides-ltb}
use Rattle.pt_base.specs.declared.rules.Span.{Span}
use Rattle.pc_grammar.specs.declared.expressions.Word.{Word}
use Rattle.pc_grammar.specs.declared.statements.Stmt.{Stmt}
use Rattle.pc_grammar.specs.declared.statements.Stmt.TheFolds.{fold-roll-Stmt, ind-Stmt, map-Stmt}
use Rattle.pc_grammar.specs.declared.statements.Stmt.TheViews.{roll-Stmt}
use Rattle.pc_grammar.specs.declared.statements.Stmt.TheVariants.{rolls-Skip, rolls-Assign, rolls-Call, rolls-Eot, rolls-Par, rolls-Block, rolls-If, rolls-While, rolls-Abort}
use Rattle.pc_grammar.specs.declared.statements.Stmt.TheOpen.{Stmt-F, Skip, Assign, Call, Block, If, While, Eot, Par, Abort}
use Rattle.pc_grammar.specs.declared.programs.Item.{Item}
use Rattle.pc_grammar.specs.declared.programs.Item.TheVariants.{Scalar, Array, Function as FunctionItem}
use Rattle.pc_grammar.specs.Spans as spans
use Rattle.pc_grammar.specs.Spans.{expression_spans, goal_spans, statement_spans_of, statement_spans, Rises}
use Rattle.pc_grammar.specs.declared.typed.Function.{Function}
use Rattle.pc_grammar.specs.Places.{names_of}
use Rattle.pc_grammar.specs.Typing.{cell_number, function_number, numbered, numbered_goal, numbered_statement_step, numbered_statement, typed_from}
use Rattle.pc_meaning.specs.declared.places.Room.{Room}
use Rattle.pc_meaning.specs.Tree.{Expression, Statement, Statements, block, if_so, none, each, Routine}
use Rattle.pc_meaning.specs.Programs.{joined, aborts_step, spans_of, number_of, expression_of, loop_from, Numbering, statement_step, statement_of, statements_from, statements_of, routine_of}
use Rattle.pc_lower.specs.Aborts.{aborts_in, aborts_in_all}
use Rattle.pc_lower.specs.Order.{InOrder, AllInOrder, RoutinesInOrder}

-- ---- spans that rise, and their numbers

earlier : (a b : ℕ) → a < b → nat_lt a b ≡ true
earlier a b h = (Decides-ltb a b).1 h

later : (a b : ℕ) → b ≤ a → nat_lt a b ≡ false
later a b h = by (nat_lt a b) refl
  where
    by : (t : Bool) → nat_lt a b ≡ t → nat_lt a b ≡ false
    by true e = let less : a < b = (Decides-ltb a b).0 e in absurd (omega arith)
    by false e = e

-- none of these begins before a place that they all come after
none_earlier : (after : List Span) (s : Span) (from to : ℕ) → Rises from after to → s.from ≤ from → number_of after s ≡ 0
none_earlier [] s from to h le = refl
none_earlier (x ∷ after) s from to h le =
    let begins : from ≤ x.from = h.0 in
    let some : x.from < x.to = h.1 in
    ap (λ t. (if t then 1 else 0) + number_of after s) (later x.from s.from (omega arith)) ∙ (let e = none_earlier after s x.to to h.2 (omega arith) in omega (arith, e))

rises_from : (before after : List Span) (s : Span) (from to : ℕ) → Rises from (before ++ s ∷ after) to → from ≤ s.from
rises_from [] after s from to h = h.0
rises_from (x ∷ before) after s from to h =
    let e = rises_from before after s x.to to h.2 in
    let begins : from ≤ x.from = h.0 in
    let some : x.from < x.to = h.1 in
    omega (arith, e)

pub number_there : (before after : List Span) (s : Span) (from to : ℕ) → Rises from (before ++ s ∷ after) to → number_of (before ++ s ∷ after) s ≡ length before
number_there [] after s from to h =
    let some : s.from < s.to = h.1 in
    ap (λ t. (if t then 1 else 0) + number_of after s) (later s.from s.from (omega arith)) ∙ (let e = none_earlier after s s.to to h.2 (omega arith) in omega (arith, e))
number_there (x ∷ before) after s from to h =
    let some : x.from < x.to = h.1 in
    let e = rises_from before after s x.to to h.2 in
    ap (λ t. (if t then 1 else 0) + number_of (before ++ s ∷ after) s) (earlier x.from s.from (omega (arith, e))) ∙ (let r = number_there before after s x.to to h.2 in omega (arith, r))

-- ---- some of a list, in their order

pub data Among {A : Type 0} : List A → List A → Type 0 where
  no_more : Among [] []
  passed : {xs ys : List A} (y : A) → Among xs ys → Among xs (y ∷ ys)
  taken : {xs ys : List A} (y : A) → Among xs ys → Among (y ∷ xs) (y ∷ ys)

pub none_among : {A : Type 0} (ys : List A) → Among [] ys
none_among [] = no_more
none_among (y ∷ ys) = passed y (none_among ys)

pub both_among : {A : Type 0} {xs ys us vs : List A} → Among xs ys → Among us vs → Among (xs ++ us) (ys ++ vs)
both_among no_more q = q
both_among (passed y p) q = passed y (both_among p q)
both_among (taken y p) q = taken y (both_among p q)

-- behind or before what is passed over
pub behind : {A : Type 0} {us vs : List A} (ys : List A) → Among us vs → Among us (ys ++ vs)
behind ys q = both_among (none_among ys) q

pub before : {A : Type 0} {us vs : List A} (ys : List A) → Among us vs → Among us (vs ++ ys)
before {us = us} {vs = vs} ys q = subst (λ zs. Among zs (vs ++ ys)) (append-nil us) (both_among q (none_among ys))

pub among_rise : {xs ys : List Span} → Among xs ys → (from to : ℕ) → Rises from ys to → Rises from xs to
among_rise no_more from to h = h
among_rise (passed {xs = xs} y p) from to h = lower xs from y.to to (omega (arith, h.0, h.1)) (among_rise p y.to to h.2)
  where
    lower : (zs : List Span) (from after to : ℕ) → from ≤ after → Rises after zs to → Rises from zs to
    lower [] from after to le r = omega arith
    lower (z ∷ zs) from after to le r = let first : after ≤ z.from = r.0 in (omega arith, r.1, r.2)
among_rise (taken y p) from to h = (h.0, h.1, among_rise p y.to to h.2)

-- ---- the spans of the aborts are some of the spans of the text

abbrev pub abort_spans : Stmt ℕ → List Span
abort_spans = Rattle.pc_grammar.specs.declared.statements.Stmt.fold-Stmt ℕ (List Span) aborts_step

abbrev pub all_abort_spans : List (Stmt ℕ) → List Span
all_abort_spans all = joined (map abort_spans all)

module _ (cell function : Word → ℕ) where
  abbrev In : Stmt Word → Type 0
  In s = Among (abort_spans (numbered_statement cell function s)) (statement_spans s)

  abbrev Known : Type 0
  Known = (s : Stmt Word) × In s

  abbrev plain : Stmt-F Word Known → Stmt-F Word (Stmt Word)
  plain x = map-Stmt Word Known (Stmt Word) (λ s. s.0) x

  by_level : (x : Stmt-F Word (Stmt Word)) (level : Stmt-F ℕ (Stmt ℕ)) → numbered_statement_step cell function (map-Stmt Word (Stmt Word) (Stmt ℕ) (numbered_statement cell function) x) ≡ roll-Stmt ℕ level →
      Among (aborts_step (map-Stmt ℕ (Stmt ℕ) (List Span) abort_spans level)) (statement_spans_of (map-Stmt Word (Stmt Word) (List Span) statement_spans x)) → In (roll-Stmt Word x)
  by_level x level rolled among =
      let mine : abort_spans (numbered_statement cell function (roll-Stmt Word x)) ≡ aborts_step (map-Stmt ℕ (Stmt ℕ) (List Span) abort_spans level) =
      ap abort_spans (fold-roll-Stmt Word (Stmt ℕ) (numbered_statement_step cell function) x ∙ rolled) ∙ fold-roll-Stmt ℕ (List Span) aborts_step level in
      let all : statement_spans (roll-Stmt Word x) ≡ statement_spans_of (map-Stmt Word (Stmt Word) (List Span) statement_spans x) = fold-roll-Stmt Word (List Span) statement_spans_of x in
      subst (λ zs. Among zs (statement_spans (roll-Stmt Word x))) (sym mine) (subst (Among (aborts_step (map-Stmt ℕ (Stmt ℕ) (List Span) abort_spans level))) (sym all) among)

  all_in : (all : List Known) → Among (joined (map abort_spans (map (numbered_statement cell function) (map (λ s. s.0) all)))) (spans.each (λ s. s) (map statement_spans (map (λ s. s.0) all)))
  all_in [] = no_more
  all_in (s ∷ all) = both_among s.1 (all_in all)

  level_in : (x : Stmt-F Word Known) → In (roll-Stmt Word (plain x))
  level_in Skip = by_level Skip Skip (sym rolls-Skip) no_more
  level_in (Assign goal value) = by_level (Assign goal value) (Assign (numbered_goal cell goal) (numbered cell value)) (sym (rolls-Assign (numbered_goal cell goal) (numbered cell value)))
      (none_among (goal_spans goal ++ expression_spans value))
  level_in (Call goal f arguments) = by_level (Call goal f arguments) (Call (numbered_goal cell goal) (function f) (map (numbered cell) arguments))
      (sym (rolls-Call (numbered_goal cell goal) (function f) (map (numbered cell) arguments))) (none_among (goal_spans goal ++ f.span ∷ spans.each expression_spans arguments))
  level_in (Block all) = by_level (plain (Block all)) (Block (map (numbered_statement cell function) (map (λ s. s.0) all)))
      (sym (rolls-Block (map (numbered_statement cell function) (map (λ s. s.0) all)))) (all_in all)
  level_in (If test first None) = by_level (If test first.0 None) (If (numbered cell test) (numbered_statement cell function first.0) None)
      (sym (rolls-If (numbered cell test) (numbered_statement cell function first.0) None)) (behind (expression_spans test) (both_among first.1 no_more))
  level_in (If test first (Some second)) = by_level (If test first.0 (Some second.0)) (If (numbered cell test) (numbered_statement cell function first.0) (Some (numbered_statement cell function second.0)))
      (sym (rolls-If (numbered cell test) (numbered_statement cell function first.0) (Some (numbered_statement cell function second.0)))) (behind (expression_spans test) (both_among first.1 second.1))
  level_in (While span test most body) = by_level (While span test most body.0) (While span (numbered cell test) most (numbered_statement cell function body.0))
      (sym (rolls-While span (numbered cell test) most (numbered_statement cell function body.0))) (passed span (behind (expression_spans test) body.1))
  level_in (Eot span) = by_level (Eot span) (Eot span) (sym (rolls-Eot span)) (none_among (span ∷ []))
  level_in (Par span threads) = by_level (Par span threads) (Par span (map function threads)) (sym (rolls-Par span (map function threads))) (none_among (span ∷ spans.each spans.name_spans threads))
  level_in (Abort span weak body test) = by_level (Abort span weak body.0 test) (Abort span weak (numbered_statement cell function body.0) (numbered cell test))
      (sym (rolls-Abort span weak (numbered_statement cell function body.0) (numbered cell test))) (taken span (before (expression_spans test) body.1))

  statement_in : (s : Stmt Word) → In s
  statement_in = ind-Stmt Word In (λ x y is. subst (λ z. In (roll-Stmt Word z)) is (level_in y))

  statements_in : (all : List (Stmt Word)) → Among (all_abort_spans (map (numbered_statement cell function) all)) (spans.each statement_spans all)
  statements_in [] = no_more
  statements_in (s ∷ all) = both_among (statement_in s) (statements_in all)

-- of a whole program
pub program_in : (all pre items : List Item) → Among (spans_of aborts_step (typed_from all pre items)) (spans.spans_of items)
program_in all pre [] = no_more
program_in all pre (Scalar kind name start ∷ items) = passed name.span (program_in all (pre ++ Scalar kind name start ∷ []) items)
program_in all pre (Array name size ∷ items) = passed name.span (program_in all (pre ++ Array name size ∷ []) items)
program_in all pre (FunctionItem name gives parameters locals body result ∷ items) =
    let own : List Word = parameters ++ names_of locals in
    let mine = statements_in (cell_number pre own) (function_number pre) body in
    passed name.span (both_among (before (spans.optional expression_spans result) (behind (spans.each spans.name_spans parameters) (behind (spans.each spans.local_spans locals) mine)))
    (program_in all (pre ++ FunctionItem name gives parameters locals body result ∷ []) items))

-- ---- the numbers of a tree with places

module _ (rooms : List Room) (n : Numbering) (all : List Span) (numbered_is : (s : Span) → n.abort_number s ≡ number_of all s) (end : ℕ) (rise : Rises 0 all end) where
  record Ordered (s : Stmt ℕ) : Type 0 where
    counted : length (aborts_in (statement_of rooms n s)) ≡ length (abort_spans s)
    ordered : (front back : List Span) → front ++ (abort_spans s ++ back) ≡ all → InOrder (length front) (statement_of rooms n s)

  abbrev Placed : Type 0
  Placed = (s : Stmt ℕ) × Ordered s

  abbrev bare : Stmt-F ℕ Placed → Stmt-F ℕ (Stmt ℕ)
  bare x = map-Stmt ℕ Placed (Stmt ℕ) (λ s. s.0) x

  -- the same of a level, over what its parts are
  record Level (spans : List Span) (s : Statement) : Type 0 where
    counted : length (aborts_in s) ≡ length spans
    ordered : (front back : List Span) → front ++ (spans ++ back) ≡ all → InOrder (length front) s

  record Levels (spans : List Span) (ss : Statements) : Type 0 where
    counted : length (aborts_in_all ss) ≡ length spans
    ordered : (front back : List Span) → front ++ (spans ++ back) ≡ all → AllInOrder (length front) ss

  split_first : (front a b back : List Span) → front ++ ((a ++ b) ++ back) ≡ all → front ++ (a ++ (b ++ back)) ≡ all
  split_first front a b back e = ap (λ l. front ++ l) (sym (append_assoc a b back)) ∙ e

  split_second : (front a b back : List Span) → front ++ ((a ++ b) ++ back) ≡ all → (front ++ a) ++ (b ++ back) ≡ all
  split_second front a b back e = append_assoc front a (b ++ back) ∙ split_first front a b back e

  two : (a b : List Span) (s r : Statement) → Level a s → Level b r → (test : Expression) → Level (a ++ b) (if_so test s r)
  two a b s r p q test = record {
    counted = length-append (aborts_in s) (aborts_in r) ∙ ap (λ k. k + length (aborts_in r)) p.counted ∙ ap (λ k. length a + k) q.counted ∙ sym (length-append a b);
    ordered = λ front back e. (
      p.ordered front (b ++ back) (split_first front a b back e),
      subst (λ k. InOrder k r) (length-append front a ∙ ap (λ k. length front + k) (sym p.counted)) (q.ordered (front ++ a) back (split_second front a b back e)),
    );
  }

  more : (a b : List Span) (s : Statement) (ss : Statements) → Level a s → Levels b ss → Levels (a ++ b) (each s ss)
  more a b s ss p q = record {
    counted = length-append (aborts_in s) (aborts_in_all ss) ∙ ap (λ k. k + length (aborts_in_all ss)) p.counted ∙ ap (λ k. length a + k) q.counted ∙ sym (length-append a b);
    ordered = λ front back e. (
      p.ordered front (b ++ back) (split_first front a b back e),
      subst (λ k. AllInOrder k ss) (length-append front a ∙ ap (λ k. length front + k) (sym p.counted)) (q.ordered (front ++ a) back (split_second front a b back e)),
    );
  }

  of : (s : Placed) → Level (abort_spans s.0) (statement_of rooms n s.0)
  of s = record { counted = s.1.counted; ordered = s.1.ordered }

  all_of : (ss : List Placed) → Levels (joined (map abort_spans (map (λ s. s.0) ss))) (statements_from (map (statement_of rooms n) (map (λ s. s.0) ss)))
  all_of [] = record { counted = refl; ordered = λ front back e. tt }
  all_of (s ∷ ss) = more (abort_spans s.0) (joined (map abort_spans (map (λ s. s.0) ss))) (statement_of rooms n s.0) _ (of s) (all_of ss)

  looped : (most : Option ℕ) (test : Expression) (spans : List Span) (s : Statement) → Level spans s → Level spans (loop_from most test s)
  looped None test spans s p = record { counted = p.counted; ordered = p.ordered }
  looped (Some most) test spans s p = record { counted = p.counted; ordered = p.ordered }

  nothing : (s : Statement) → aborts_in s ≡ [] → ((k : ℕ) → InOrder k s) → Level [] s
  nothing s e h = record { counted = ap length e; ordered = λ front back is. h (length front) }

  level_ordered : (x : Stmt-F ℕ Placed) → Level (aborts_step (map-Stmt ℕ (Stmt ℕ) (List Span) abort_spans (bare x))) (statement_step rooms n (map-Stmt ℕ (Stmt ℕ) Statement (statement_of rooms n) (bare x)))
  level_ordered Skip = nothing _ refl (λ k. tt)
  level_ordered (Assign goal e) = nothing _ refl (λ k. tt)
  level_ordered (Call goal f es) = nothing _ refl (λ k. tt)
  level_ordered (Block ss) = let p = all_of ss in record { counted = p.counted; ordered = p.ordered }
  level_ordered (If test first None) = two (abort_spans first.0) [] (statement_of rooms n first.0) Rattle.pc_meaning.specs.Tree.skip (of first) (nothing _ refl (λ k. tt)) (expression_of rooms test)
  level_ordered (If test first (Some second)) = two (abort_spans first.0) (abort_spans second.0) (statement_of rooms n first.0) (statement_of rooms n second.0) (of first) (of second) (expression_of rooms test)
  level_ordered (While span test most body) = looped most (expression_of rooms test) (abort_spans body.0) (statement_of rooms n body.0) (of body)
  level_ordered (Eot span) = nothing _ refl (λ k. tt)
  level_ordered (Par span threads) = nothing _ refl (λ k. tt)
  level_ordered (Abort span weak body test) = record {
    counted = ap suc body.1.counted;
    ordered = λ front back e. (
      numbered_is span ∙ ap (λ l. number_of l span) (sym e) ∙ number_there front (abort_spans body.0 ++ back) span 0 end (subst (λ l. Rises 0 l end) (sym e) rise),
      (let grown : length (front ++ span ∷ []) ≡ suc (length front) = (let a = length-append front (span ∷ []) in omega (arith, a)) in
          subst (λ k. InOrder k (statement_of rooms n body.0)) grown (body.1.ordered (front ++ span ∷ []) back (append_assoc front (span ∷ []) (abort_spans body.0 ++ back) ∙ e))),
    );
  }

  statement_ordered : (s : Stmt ℕ) → Ordered s
  statement_ordered = ind-Stmt ℕ Ordered (λ x y is.
      subst (λ z. Ordered (roll-Stmt ℕ z)) is
      (let below = bare y in
      let spans_are = fold-roll-Stmt ℕ (List Span) aborts_step below in
      let tree_is = fold-roll-Stmt ℕ Statement (statement_step rooms n) below in
      let p : Level (abort_spans (roll-Stmt ℕ below)) (statement_of rooms n (roll-Stmt ℕ below)) =
      subst (λ z. Level z (statement_of rooms n (roll-Stmt ℕ below))) (sym spans_are) (subst (Level (aborts_step (map-Stmt ℕ (Stmt ℕ) (List Span) abort_spans below))) (sym tree_is) (level_ordered y)) in
      record { counted = p.counted; ordered = p.ordered }))

  body_ordered : (ss : List (Stmt ℕ)) → Levels (all_abort_spans ss) (statements_of rooms n ss)
  body_ordered [] = record { counted = refl; ordered = λ front back e. tt }
  body_ordered (s ∷ ss) =
      let p = statement_ordered s in
      more (abort_spans s) (all_abort_spans ss) (statement_of rooms n s) (statements_of rooms n ss) (record { counted = p.counted; ordered = p.ordered }) (body_ordered ss)

  pub routines_ordered : (fs : List Function) (front : List Span) → front ++ spans_of aborts_step fs ≡ all → RoutinesInOrder (length front) (map (routine_of rooms n) fs)
  routines_ordered [] front e = tt
  routines_ordered (f ∷ fs) front e =
      let p = body_ordered f.body in
      let mine : List Span = all_abort_spans f.body in (
        p.ordered front (spans_of aborts_step fs) e,
        subst (λ k. RoutinesInOrder k (map (routine_of rooms n) fs)) (length-append front mine ∙ ap (λ k. length front + k) (sym p.counted)) (routines_ordered fs (front ++ mine) (append_assoc front mine (spans_of aborts_step fs) ∙ e)),
      )
