-- Pauses, forks and aborts have their numbers in the order of the text: their spans rise, and a number counts the spans before it.
use Rattle.std.proofs.Common.{◌≡◌, ℕ, ◌+◌, List, [], ◌∷◌, ◌++◌, map, length, Option, Some, None, refl, sym, ap, subst, ◌∙◌, append_assoc, length-append}
use Rattle.std.specs.List.{range_with_len}
use Rattle.std.proofs.lemmas.List.{map-append}
use Rattle.pt_base.specs.declared.rules.Span.{Span}
use Rattle.pc_grammar.specs.declared.expressions.Word.{Word}
use Rattle.pc_grammar.specs.declared.statements.Stmt.{Stmt, fold-Stmt}
use Rattle.pc_grammar.specs.declared.statements.Stmt.TheFolds.{fold-roll-Stmt, ind-Stmt, map-Stmt}
use Rattle.pc_grammar.specs.declared.statements.Stmt.TheViews.{roll-Stmt}
use Rattle.pc_grammar.specs.declared.statements.Stmt.TheVariants.{rolls-Skip, rolls-Assign, rolls-Call, rolls-Eot, rolls-Par, rolls-Block, rolls-If, rolls-While, rolls-Abort}
use Rattle.pc_grammar.specs.declared.statements.Stmt.TheOpen.{Stmt-F, Skip, Assign, Call, Block, If, While, Eot, Par, Abort}
use Rattle.pc_grammar.specs.declared.programs.Item.{Item}
use Rattle.pc_grammar.specs.declared.programs.Item.TheVariants.{Scalar, Array, Function as FunctionItem}
use Rattle.pc_grammar.specs.Spans as spans
use Rattle.pc_grammar.specs.Spans.{expression_spans, goal_spans, statement_spans_of, statement_spans, Rises}
use Rattle.pc_grammar.specs.Places.{names_of}
use Rattle.pc_grammar.specs.Typing.{cell_number, function_number, numbered, numbered_goal, numbered_statement_step, numbered_statement, typed_from}
use Rattle.pc_meaning.specs.declared.places.Room.{Room}
use Rattle.pc_meaning.specs.Tree.{Expression, Statement, Statements, skip, assign, call_of, block, if_so, repeat, loop, eot, par, abort, none, each}
use Rattle.pc_meaning.specs.Programs.{joined, or_none, spans_of, number_of, expression_of, loop_from, Numbering, statement_step, statement_of, statements_from, statements_of}
use Rattle.pc_lower.proofs.Ordered.{number_there, Among, no_more, passed, none_among, both_among, behind, before}

-- ---- the numbers of spans that rise

pub counted-from : (back front all : List Span) (end : ℕ) → front ++ back ≡ all → Rises 0 all end → map (number_of all) back ≡ range_with_len (length front) (length back)
counted-from [] front all end e rise = refl
counted-from (s ∷ back) front all end e rise =
    let here : number_of all s ≡ length front = ap (λ l. number_of l s) (sym e) ∙ number_there front back s 0 end (subst (λ l. Rises 0 l end) (sym e) rise) in
    let grown : length (front ++ s ∷ []) ≡ length front + 1 = length-append front (s ∷ []) in
    let rest = counted-from back (front ++ s ∷ []) all end (append_assoc front (s ∷ []) back ∙ e) rise in
    ap (λ k. k ∷ map (number_of all) back) here ∙ ap (λ l. length front ∷ l) (rest ∙ ap (λ k. range_with_len k (length back)) grown)

-- ---- the spans that are chosen

module _ (of_eot of_par of_abort : Span → List Span) where
  abbrev pub chosen_step : Stmt-F ℕ (List Span) → List Span
  chosen_step Skip = []
  chosen_step (Assign goal e) = []
  chosen_step (Call goal f es) = []
  chosen_step (Block all) = joined all
  chosen_step (If test first second) = first ++ or_none second
  chosen_step (While span test most body) = body
  chosen_step (Eot span) = of_eot span
  chosen_step (Par span threads) = of_par span
  chosen_step (Abort span weak body test) = of_abort span ++ body

  abbrev pub chosen_in : Stmt ℕ → List Span
  chosen_in = fold-Stmt ℕ (List Span) chosen_step

  abbrev pub chosen_in_all : List (Stmt ℕ) → List Span
  chosen_in_all all = joined (map chosen_in all)

  -- they are some of the spans of the text
  module _ (some-eot : (span : Span) → Among (of_eot span) (span ∷ [])) (some-par : (span : Span) → Among (of_par span) (span ∷ [])) (some-abort : (span : Span) → Among (of_abort span) (span ∷ [])) where
    module _ (cell function : Word → ℕ) where
      abbrev In : Stmt Word → Type 0
      In s = Among (chosen_in (numbered_statement cell function s)) (statement_spans s)

      abbrev KnownIn : Type 0
      KnownIn = (s : Stmt Word) × In s

      abbrev plain : Stmt-F Word KnownIn → Stmt-F Word (Stmt Word)
      plain x = map-Stmt Word KnownIn (Stmt Word) (λ s. s.0) x

      by_level : (x : Stmt-F Word (Stmt Word)) (level : Stmt-F ℕ (Stmt ℕ)) → numbered_statement_step cell function (map-Stmt Word (Stmt Word) (Stmt ℕ) (numbered_statement cell function) x) ≡ roll-Stmt ℕ level →
          Among (chosen_step (map-Stmt ℕ (Stmt ℕ) (List Span) chosen_in level)) (statement_spans_of (map-Stmt Word (Stmt Word) (List Span) statement_spans x)) → In (roll-Stmt Word x)
      by_level x level rolled among =
          let mine : chosen_in (numbered_statement cell function (roll-Stmt Word x)) ≡ chosen_step (map-Stmt ℕ (Stmt ℕ) (List Span) chosen_in level) =
          ap chosen_in (fold-roll-Stmt Word (Stmt ℕ) (numbered_statement_step cell function) x ∙ rolled) ∙ fold-roll-Stmt ℕ (List Span) chosen_step level in
          let all : statement_spans (roll-Stmt Word x) ≡ statement_spans_of (map-Stmt Word (Stmt Word) (List Span) statement_spans x) = fold-roll-Stmt Word (List Span) statement_spans_of x in
          subst (λ zs. Among zs (statement_spans (roll-Stmt Word x))) (sym mine) (subst (Among (chosen_step (map-Stmt ℕ (Stmt ℕ) (List Span) chosen_in level))) (sym all) among)

      all_in : (all : List KnownIn) → Among (joined (map chosen_in (map (numbered_statement cell function) (map (λ s. s.0) all)))) (spans.each (λ s. s) (map statement_spans (map (λ s. s.0) all)))
      all_in [] = no_more
      all_in (s ∷ all) = both_among s.1 (all_in all)

      level_in : (x : Stmt-F Word KnownIn) → In (roll-Stmt Word (plain x))
      level_in Skip = by_level Skip Skip (sym rolls-Skip) no_more
      level_in (Assign goal value) = by_level (Assign goal value) (Assign (numbered_goal cell goal) (numbered cell value)) (sym (rolls-Assign (numbered_goal cell goal) (numbered cell value)))
          (none_among (goal_spans goal ++ expression_spans value))
      level_in (Call goal f arguments) = by_level (Call goal f arguments) (Call (numbered_goal cell goal) (function f) (map (numbered cell) arguments))
          (sym (rolls-Call (numbered_goal cell goal) (function f) (map (numbered cell) arguments))) (none_among (goal_spans goal ++ f.span ∷ spans.each expression_spans arguments))
      level_in (Block all) = by_level (plain (Block all)) (Block (map (numbered_statement cell function) (map (λ s. s.0) all)))
          (sym (rolls-Block (map (numbered_statement cell function) (map (λ s. s.0) all)))) (all_in all)
      level_in (If test first None) = by_level (If test first.0 None) (If (numbered cell test) (numbered_statement cell function first.0) None)
          (sym (rolls-If (numbered cell test) (numbered_statement cell function first.0) None)) (behind (expression_spans test) (both_among first.1 no_more))
      level_in (If test first (Some second)) = by_level (If test first.0 (Some second.0)) (If (numbered cell test) (numbered_statement cell function first.0) (Some (numbered_statement cell function second.0)))
          (sym (rolls-If (numbered cell test) (numbered_statement cell function first.0) (Some (numbered_statement cell function second.0)))) (behind (expression_spans test) (both_among first.1 second.1))
      level_in (While span test most body) = by_level (While span test most body.0) (While span (numbered cell test) most (numbered_statement cell function body.0))
          (sym (rolls-While span (numbered cell test) most (numbered_statement cell function body.0))) (passed span (behind (expression_spans test) body.1))
      level_in (Eot span) = by_level (Eot span) (Eot span) (sym (rolls-Eot span)) (some-eot span)
      level_in (Par span threads) = by_level (Par span threads) (Par span (map function threads)) (sym (rolls-Par span (map function threads))) (before (spans.each spans.name_spans threads) (some-par span))
      level_in (Abort span weak body test) = by_level (Abort span weak body.0 test) (Abort span weak (numbered_statement cell function body.0) (numbered cell test))
          (sym (rolls-Abort span weak (numbered_statement cell function body.0) (numbered cell test))) (both_among (some-abort span) (before (expression_spans test) body.1))

      statement_in : (s : Stmt Word) → In s
      statement_in = ind-Stmt Word In (λ x y is. subst (λ z. In (roll-Stmt Word z)) is (level_in y))

      statements_in : (all : List (Stmt Word)) → Among (chosen_in_all (map (numbered_statement cell function) all)) (spans.each statement_spans all)
      statements_in [] = no_more
      statements_in (s ∷ all) = both_among (statement_in s) (statements_in all)

    pub program_in : (all pre items : List Item) → Among (spans_of chosen_step (typed_from all pre items)) (spans.spans_of items)
    program_in all pre [] = no_more
    program_in all pre (Scalar kind name start ∷ items) = passed name.span (program_in all (pre ++ Scalar kind name start ∷ []) items)
    program_in all pre (Array name size ∷ items) = passed name.span (program_in all (pre ++ Array name size ∷ []) items)
    program_in all pre (FunctionItem name gives parameters locals body result ∷ items) =
        let own : List Word = parameters ++ names_of locals in
        let mine = statements_in (cell_number pre own) (function_number pre) body in
        passed name.span (both_among (before (spans.optional expression_spans result) (behind (spans.each spans.name_spans parameters) (behind (spans.each spans.local_spans locals) mine)))
        (program_in all (pre ++ FunctionItem name gives parameters locals body result ∷ []) items))

-- ---- their numbers in the tree

module _ (in_eot in_par in_abort : ℕ → List ℕ) where
  abbrev mutual
    pub numbers_in_tree : Statement → List ℕ
    numbers_in_tree skip = []
    numbers_in_tree (assign goal e) = []
    numbers_in_tree (call_of goal f es) = []
    numbers_in_tree (block all) = numbers_in_trees all
    numbers_in_tree (if_so test first second) = numbers_in_tree first ++ numbers_in_tree second
    numbers_in_tree (repeat most test body) = numbers_in_tree body
    numbers_in_tree (loop test body) = numbers_in_tree body
    numbers_in_tree (eot i) = in_eot i
    numbers_in_tree (par i threads) = in_par i
    numbers_in_tree (abort j weak body test) = in_abort j ++ numbers_in_tree body

    pub numbers_in_trees : Statements → List ℕ
    numbers_in_trees none = []
    numbers_in_trees (each s rest) = numbers_in_tree s ++ numbers_in_trees rest

  module _ (rooms : List Room) (n : Numbering) (of_eot of_par of_abort : Span → List Span) (number : Span → ℕ)
      (same-eot : (span : Span) → in_eot (n.eot_number span) ≡ map number (of_eot span)) (same-par : (span : Span) → in_par (n.par_number span) ≡ map number (of_par span))
      (same-abort : (span : Span) → in_abort (n.abort_number span) ≡ map number (of_abort span)) where
    abbrev step : Stmt-F ℕ (List Span) → List Span
    step = chosen_step of_eot of_par of_abort

    abbrev spans_in : Stmt ℕ → List Span
    spans_in = chosen_in of_eot of_par of_abort

    abbrev Same : Stmt ℕ → Type 0
    Same s = numbers_in_tree (statement_of rooms n s) ≡ map number (spans_in s)

    abbrev Known : Type 0
    Known = (s : Stmt ℕ) × Same s

    abbrev bare : Stmt-F ℕ Known → Stmt-F ℕ (Stmt ℕ)
    bare x = map-Stmt ℕ Known (Stmt ℕ) (λ s. s.0) x

    two : (a b : List Span) (xs ys : List ℕ) → xs ≡ map number a → ys ≡ map number b → xs ++ ys ≡ map number (a ++ b)
    two a b xs ys p q = ap (λ l. l ++ ys) p ∙ ap (λ l. map number a ++ l) q ∙ sym (map-append number a b)

    all_same : (all : List Known) → numbers_in_trees (statements_from (map (statement_of rooms n) (map (λ s. s.0) all))) ≡ map number (joined (map spans_in (map (λ s. s.0) all)))
    all_same [] = refl
    all_same (s ∷ all) = two (spans_in s.0) (joined (map spans_in (map (λ s. s.0) all))) (numbers_in_tree (statement_of rooms n s.0)) (numbers_in_trees (statements_from (map (statement_of rooms n) (map (λ s. s.0) all)))) s.1 (all_same all)

    looped : (most : Option ℕ) (test : Expression) (body : Statement) → numbers_in_tree (loop_from most test body) ≡ numbers_in_tree body
    looped None test body = refl
    looped (Some most) test body = refl

    level_same : (x : Stmt-F ℕ Known) → numbers_in_tree (statement_step rooms n (map-Stmt ℕ (Stmt ℕ) Statement (statement_of rooms n) (bare x))) ≡ map number (step (map-Stmt ℕ (Stmt ℕ) (List Span) spans_in (bare x)))
    level_same Skip = refl
    level_same (Assign goal e) = refl
    level_same (Call goal k es) = refl
    level_same (Block all) = all_same all
    level_same (If test first None) = two (spans_in first.0) [] (numbers_in_tree (statement_of rooms n first.0)) [] first.1 refl
    level_same (If test first (Some second)) = two (spans_in first.0) (spans_in second.0) (numbers_in_tree (statement_of rooms n first.0)) (numbers_in_tree (statement_of rooms n second.0)) first.1 second.1
    level_same (While span test most body) = looped most (expression_of rooms test) (statement_of rooms n body.0) ∙ body.1
    level_same (Eot span) = same-eot span
    level_same (Par span threads) = same-par span
    level_same (Abort span weak body test) = two (of_abort span) (spans_in body.0) (in_abort (n.abort_number span)) (numbers_in_tree (statement_of rooms n body.0)) (same-abort span) body.1

    statement_same : (s : Stmt ℕ) → Same s
    statement_same = ind-Stmt ℕ Same (λ x y is.
        subst (λ z. Same (roll-Stmt ℕ z)) is
        (let below = bare y in
        ap numbers_in_tree (fold-roll-Stmt ℕ Statement (statement_step rooms n) below) ∙ level_same y ∙ sym (ap (map number) (fold-roll-Stmt ℕ (List Span) step below))))

    pub body_same : (all : List (Stmt ℕ)) → numbers_in_trees (statements_of rooms n all) ≡ map number (chosen_in_all of_eot of_par of_abort all)
    body_same [] = refl
    body_same (s ∷ all) = two (spans_in s) (chosen_in_all of_eot of_par of_abort all) (numbers_in_tree (statement_of rooms n s)) (numbers_in_trees (statements_of rooms n all)) (statement_same s) (body_same all)
