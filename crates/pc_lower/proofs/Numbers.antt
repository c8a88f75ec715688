-- The pauses, forks and aborts of an accepted program's flow are numbered in the order of the text.
use mathlib.Core.Path.{fun_ext}
use Rattle.std.proofs.Common.{◌≡◌, ℕ, zero, suc, Bool, false, List, [], ◌∷◌, ◌++◌, map, length, Option, Some, None, refl, sym, ap, subst, ◌∙◌, append-nil, length-append, arith}
use Rattle.std.specs.List.{range_with_len}
use Rattle.std.proofs.lemmas.List.{map-append, length-map}
use Rattle.pt_base.specs.declared.rules.Span.{Span}
use Rattle.pc_grammar.specs.declared.statements.Stmt.TheOpen.{Stmt-F, Skip, Assign, Call, Block, If, While, Eot, Par, Abort}
use Rattle.pc_grammar.specs.declared.programs.Item.{Item}
use Rattle.pc_grammar.proofs.ItemSpans.{rise}
use Rattle.pc_grammar.specs.declared.typed.Function.{Function}
use Rattle.pc_grammar.specs.Typing.{Typing, typed_from, typing_of}
use Rattle.pc_grammar.specs.Keeping.{IsTyped}
use Rattle.pc_rules.specs.Judging.{IsWithin}
use Rattle.pc_meaning.specs.declared.places.Room.{Room}
use Rattle.pc_meaning.specs.Tree.{Expression, Statement, Statements, skip, assign, call_of, block, if_so, repeat, loop, eot, par, abort, none, each, Routine}
use Rattle.pc_meaning.specs.Promises.{pauses, some_pauses, finishing_of}
use Rattle.pc_meaning.specs.Programs.{rooms_of, spans_of, eots_step, pars_step, aborts_step, number_of, Numbering, numbering_of, routine_of, program_of}
use Rattle.pc_lower.specs.declared.nodes.Test.{Test}
use Rattle.pc_lower.specs.Flow.{Node, Nodes}
use Rattle.pc_lower.specs.Lowered.{loop_test, bounded_of, node_of, nodes_of, finished, body_of, bodies_of, conditions_of}
use Rattle.pc_lower.specs.Aborts.{aborts_in, aborts_in_all, aborts_of}
use Rattle.pc_lower.specs.Loops.{LoopsKept, AllLoopsKept, RoutinesLoopsKept}
use Rattle.pc_lower.proofs.Lasting.{loops_kept}
use Rattle.pc_lower.proofs.Ordered.{Among, no_more, passed, taken, among_rise}
use Rattle.pc_lower.specs.Layable.{numbers_of, numbers_of_all, itself, nothing, pauses_in, forks_of, guards_of, numbers_in, AreCounted}
use Rattle.pc_lower.specs.Placing.{typed_flow}
use Rattle.pc_lower.proofs.NodeFacts.{neither-first, neither-second}
use Rattle.pc_lower.proofs.Spans.{counted-from, chosen_step, chosen_in_all, program_in, numbers_in_tree, numbers_in_trees, body_same}

-- ---- from nodes to statements

bounded-numbers : (P : List ℕ → Type 0) (e p a : ℕ → List ℕ) (most : ℕ) (test : Option Test) (body : Node) → P [] → P (numbers_of e p a body) → P (numbers_of e p a (bounded_of most test body))
bounded-numbers P e p a zero test body h k = h
bounded-numbers P e p a (suc n) test body h k = k

module _ (routines : List Routine) (e p a : ℕ → List ℕ) where
  mutual
    calm-numbers : (s : Statement) → pauses s ≡ false → numbers_in_tree e p a s ≡ []
    calm-numbers skip h = refl
    calm-numbers (assign goal x) h = refl
    calm-numbers (call_of goal f es) h = refl
    calm-numbers (block all) h = calm-numbers-all all h
    calm-numbers (if_so test first second) h =
        ap (λ l. l ++ numbers_in_tree e p a second) (calm-numbers first (neither-first (pauses first) (pauses second) h)) ∙ calm-numbers second (neither-second (pauses first) (pauses second) h)
    calm-numbers (repeat most test body) h = calm-numbers body h
    calm-numbers (loop test body) h = calm-numbers body h
    calm-numbers (eot i) h = cc
    calm-numbers (par i threads) h = cc
    calm-numbers (abort j weak body test) h = cc

    calm-numbers-all : (all : Statements) → some_pauses all ≡ false → numbers_in_trees e p a all ≡ []
    calm-numbers-all none h = refl
    calm-numbers-all (each s rest) h =
        ap (λ l. l ++ numbers_in_trees e p a rest) (calm-numbers s (neither-first (pauses s) (some_pauses rest) h)) ∙ calm-numbers-all rest (neither-second (pauses s) (some_pauses rest) h)

  module _ (whole : List Bool) where
    mutual
      node-numbers : (s : Statement) → LoopsKept whole s → numbers_of e p a (node_of routines s) ≡ numbers_in_tree e p a s
      node-numbers skip k = refl
      node-numbers (assign goal x) k = refl
      node-numbers (call_of goal f es) k = refl
      node-numbers (block all) k = nodes-numbers all k
      node-numbers (if_so test first second) k =
          ap (λ l. l ++ numbers_of e p a (node_of routines second)) (node-numbers first k.0) ∙ ap (λ l. numbers_in_tree e p a first ++ l) (node-numbers second k.1)
      node-numbers (repeat most test body) k = bounded-numbers (λ l. l ≡ numbers_in_tree e p a body) e p a most (loop_test test) (node_of routines body) (sym (calm-numbers body k.0)) (node-numbers body k.1)
      node-numbers (loop test body) k = node-numbers body k.1
      node-numbers (eot i) k = refl
      node-numbers (par i threads) k = refl
      node-numbers (abort j weak body test) k = ap (λ l. a j ++ l) (node-numbers body k)

      nodes-numbers : (all : Statements) → AllLoopsKept whole all → numbers_of_all e p a (nodes_of routines all) ≡ numbers_in_trees e p a all
      nodes-numbers none k = refl
      nodes-numbers (each s rest) k =
          ap (λ l. l ++ numbers_of_all e p a (nodes_of routines rest)) (node-numbers s k.0) ∙ ap (λ l. numbers_in_tree e p a s ++ l) (nodes-numbers rest k.1)

    finished-numbers : (result : Option Expression) (nodes : Nodes) → numbers_of_all e p a (finished routines result nodes) ≡ numbers_of_all e p a nodes
    finished-numbers None nodes = refl
    finished-numbers (Some x) nodes = append-nil (numbers_of_all e p a nodes)

    body-numbers : (r : Routine) → AllLoopsKept whole r.body → numbers_of e p a (body_of routines r) ≡ numbers_in_trees e p a r.body
    body-numbers r k = finished-numbers r.result (nodes_of routines r.body) ∙ nodes-numbers r.body k

    -- of all functions, from the spans of the text
    module _ (rooms : List Room) (n : Numbering) (of_eot of_par of_abort : Span → List Span) (number : Span → ℕ)
        (same-eot : (span : Span) → e (n.eot_number span) ≡ map number (of_eot span)) (same-par : (span : Span) → p (n.par_number span) ≡ map number (of_par span))
        (same-abort : (span : Span) → a (n.abort_number span) ≡ map number (of_abort span)) where
      bodies-numbers : (fs : List Function) → RoutinesLoopsKept whole (map (routine_of rooms n) fs) →
          numbers_in (numbers_of e p a) (bodies_of routines (map (routine_of rooms n) fs)) ≡ map number (spans_of (chosen_step of_eot of_par of_abort) fs)
      bodies-numbers [] k = refl
      bodies-numbers (f ∷ fs) k =
          ap (λ l. l ++ numbers_in (numbers_of e p a) (bodies_of routines (map (routine_of rooms n) fs))) (body-numbers (routine_of rooms n f) k.0 ∙ body_same e p a rooms n of_eot of_par of_abort number same-eot same-par same-abort f.body)
          ∙ ap (λ l. map number (chosen_in_all of_eot of_par of_abort f.body) ++ l) (bodies-numbers fs k.1)
          ∙ sym (map-append number (chosen_in_all of_eot of_par of_abort f.body) (spans_of (chosen_step of_eot of_par of_abort) fs))

-- ---- each kind has its spans

abbrev alone : Span → List Span
alone s = s ∷ []

abbrev left : Span → List Span
left s = []

eots-are : chosen_step alone left left ≡ eots_step
eots-are = fun_ext by
  where
    by : (x : Stmt-F ℕ (List Span)) → chosen_step alone left left x ≡ eots_step x
    by Skip = refl
    by (Assign goal e) = refl
    by (Call goal f es) = refl
    by (Block all) = refl
    by (If test first second) = refl
    by (While span test most body) = refl
    by (Eot span) = refl
    by (Par span threads) = refl
    by (Abort span weak body test) = refl

pars-are : chosen_step left alone left ≡ pars_step
pars-are = fun_ext by
  where
    by : (x : Stmt-F ℕ (List Span)) → chosen_step left alone left x ≡ pars_step x
    by Skip = refl
    by (Assign goal e) = refl
    by (Call goal f es) = refl
    by (Block all) = refl
    by (If test first second) = refl
    by (While span test most body) = refl
    by (Eot span) = refl
    by (Par span threads) = refl
    by (Abort span weak body test) = refl

aborts-are : chosen_step left left alone ≡ aborts_step
aborts-are = fun_ext by
  where
    by : (x : Stmt-F ℕ (List Span)) → chosen_step left left alone x ≡ aborts_step x
    by Skip = refl
    by (Assign goal e) = refl
    by (Call goal f es) = refl
    by (Block all) = refl
    by (If test first second) = refl
    by (While span test most body) = refl
    by (Eot span) = refl
    by (Par span threads) = refl
    by (Abort span weak body test) = refl

-- spans of a kind rise, so their numbers are counted
kind-counted : (t : Typing) → IsTyped t → (of_eot of_par of_abort : Span → List Span) → ((span : Span) → Among (of_eot span) (span ∷ [])) → ((span : Span) → Among (of_par span) (span ∷ [])) → ((span : Span) → Among (of_abort span) (span ∷ [])) →
    map (number_of (spans_of (chosen_step of_eot of_par of_abort) t.functions)) (spans_of (chosen_step of_eot of_par of_abort) t.functions) ≡ range_with_len 0 (length (spans_of (chosen_step of_eot of_par of_abort) t.functions))
unfolding typing_of
kind-counted t typed of_eot of_par of_abort some-eot some-par some-abort =
    let items : List Item = typed.program.items in
    let step = chosen_step of_eot of_par of_abort in
    let rising = among_rise (program_in of_eot of_par of_abort some-eot some-par some-abort items [] items) 0 _ (rise typed.program typed.tree) in
    subst (λ x. map (number_of (spans_of step x.functions)) (spans_of step x.functions) ≡ range_with_len 0 (length (spans_of step x.functions))) (sym typed.same)
    (counted-from (spans_of step (typed_from items [] items)) [] (spans_of step (typed_from items [] items)) _ refl rising)

one-of : (span : Span) → Among (span ∷ []) (span ∷ [])
one-of span = taken span no_more

none-of : (span : Span) → Among [] (span ∷ [])
none-of span = passed span no_more

module _ (t : Typing) (typed : IsTyped t) (within : IsWithin t) where
  abbrev routines : List Routine
  routines = (program_of t).routines

  kept : RoutinesLoopsKept (finishing_of routines) (map (routine_of (rooms_of t.cells) (numbering_of t.functions)) t.functions)
  kept = loops_kept t within

  counted : (numbers : List ℕ) (all : List Span) → numbers ≡ map (number_of all) all → map (number_of all) all ≡ range_with_len 0 (length all) → numbers ≡ range_with_len 0 (length numbers)
  counted numbers all is count =
      let long : length numbers ≡ length all = ap length is ∙ length-map all (number_of all) in
      is ∙ count ∙ ap (range_with_len 0) (sym long)

  pub pauses-counted : AreCounted (numbers_in pauses_in (typed_flow t).bodies)
  pauses-counted =
      let all = spans_of (chosen_step alone left left) t.functions in
      let number : (span : Span) → number_of (spans_of eots_step t.functions) span ≡ number_of all span = λ span. ap (λ step. number_of (spans_of step t.functions) span) (sym eots-are) in
      counted (numbers_in pauses_in (typed_flow t).bodies) all
      (bodies-numbers routines itself nothing nothing (finishing_of routines) (rooms_of t.cells) (numbering_of t.functions) alone left left (number_of all) (λ span. ap (λ k. k ∷ []) (number span)) (λ span. refl) (λ span. refl) t.functions kept)
      (kind-counted t typed alone left left one-of none-of none-of)

  pub forks-counted : AreCounted (numbers_in forks_of (typed_flow t).bodies)
  forks-counted =
      let all = spans_of (chosen_step left alone left) t.functions in
      let number : (span : Span) → number_of (spans_of pars_step t.functions) span ≡ number_of all span = λ span. ap (λ step. number_of (spans_of step t.functions) span) (sym pars-are) in
      counted (numbers_in forks_of (typed_flow t).bodies) all
      (bodies-numbers routines nothing itself nothing (finishing_of routines) (rooms_of t.cells) (numbering_of t.functions) left alone left (number_of all) (λ span. refl) (λ span. ap (λ k. k ∷ []) (number span)) (λ span. refl) t.functions kept)
      (kind-counted t typed left alone left none-of one-of none-of)

  guards-numbers : AreCounted (numbers_in guards_of (typed_flow t).bodies)
  guards-numbers =
      let all = spans_of (chosen_step left left alone) t.functions in
      let number : (span : Span) → number_of (spans_of aborts_step t.functions) span ≡ number_of all span = λ span. ap (λ step. number_of (spans_of step t.functions) span) (sym aborts-are) in
      counted (numbers_in guards_of (typed_flow t).bodies) all
      (bodies-numbers routines nothing nothing itself (finishing_of routines) (rooms_of t.cells) (numbering_of t.functions) left left alone (number_of all) (λ span. refl) (λ span. refl) (λ span. ap (λ k. k ∷ []) (number span)) t.functions kept)
      (kind-counted t typed left left alone none-of none-of one-of)

  -- as many as there are conditions
  mutual
    aborts-many : (s : Statement) → length (numbers_in_tree nothing nothing itself s) ≡ length (aborts_in s)
    aborts-many skip = refl
    aborts-many (assign goal e) = refl
    aborts-many (call_of goal f es) = refl
    aborts-many (block all) = aborts-many-all all
    aborts-many (if_so test first second) =
        length-append (numbers_in_tree nothing nothing itself first) (numbers_in_tree nothing nothing itself second)
        ∙ (let x = aborts-many first in let y = aborts-many second in let z = length-append (aborts_in first) (aborts_in second) in omega (arith, x, y, z))
    aborts-many (repeat most test body) = aborts-many body
    aborts-many (loop test body) = aborts-many body
    aborts-many (eot i) = refl
    aborts-many (par i threads) = refl
    aborts-many (abort j weak body test) = ap suc (aborts-many body)

    aborts-many-all : (all : Statements) → length (numbers_in_trees nothing nothing itself all) ≡ length (aborts_in_all all)
    aborts-many-all none = refl
    aborts-many-all (each s rest) =
        length-append (numbers_in_tree nothing nothing itself s) (numbers_in_trees nothing nothing itself rest)
        ∙ (let x = aborts-many s in let y = aborts-many-all rest in let z = length-append (aborts_in s) (aborts_in_all rest) in omega (arith, x, y, z))

  conditions-many : (aborts : List (Bool × Expression)) → length (conditions_of aborts) ≡ length aborts
  conditions-many [] = refl
  conditions-many (a ∷ aborts) = ap suc (conditions-many aborts)

  guards-many : (rest : List Routine) → RoutinesLoopsKept (finishing_of routines) rest → length (numbers_in guards_of (bodies_of routines rest)) ≡ length (aborts_of rest)
  guards-many [] k = refl
  guards-many (r ∷ rest) k =
      length-append (guards_of (body_of routines r)) (numbers_in guards_of (bodies_of routines rest))
      ∙ (let x = ap length (body-numbers routines nothing nothing itself (finishing_of routines) r k.0) in
      let y = aborts-many-all r.body in
      let z = length-append (aborts_in_all r.body) (aborts_of rest) in
      let w = guards-many rest k.1 in
      omega (arith, x, y, z, w))

  pub guards-counted : numbers_in guards_of (typed_flow t).bodies ≡ range_with_len 0 (length (typed_flow t).aborts)
  guards-counted = guards-numbers ∙ ap (range_with_len 0) (guards-many routines kept ∙ sym (conditions-many (aborts_of routines)))

  -- as many as the text has
  pub pauses-many : length (numbers_in pauses_in (typed_flow t).bodies) ≡ length (spans_of eots_step t.functions)
  pauses-many =
      let all = spans_of (chosen_step alone left left) t.functions in
      let number : (span : Span) → number_of (spans_of eots_step t.functions) span ≡ number_of all span = λ span. ap (λ step. number_of (spans_of step t.functions) span) (sym eots-are) in
      ap length (bodies-numbers routines itself nothing nothing (finishing_of routines) (rooms_of t.cells) (numbering_of t.functions) alone left left (number_of all) (λ span. ap (λ k. k ∷ []) (number span)) (λ span. refl) (λ span. refl) t.functions kept)
      ∙ length-map all (number_of all) ∙ ap (λ step. length (spans_of step t.functions)) eots-are

  pub forks-many : length (numbers_in forks_of (typed_flow t).bodies) ≡ length (spans_of pars_step t.functions)
  forks-many =
      let all = spans_of (chosen_step left alone left) t.functions in
      let number : (span : Span) → number_of (spans_of pars_step t.functions) span ≡ number_of all span = λ span. ap (λ step. number_of (spans_of step t.functions) span) (sym pars-are) in
      ap length (bodies-numbers routines nothing itself nothing (finishing_of routines) (rooms_of t.cells) (numbering_of t.functions) left alone left (number_of all) (λ span. refl) (λ span. ap (λ k. k ∷ []) (number span)) (λ span. refl) t.functions kept)
      ∙ length-map all (number_of all) ∙ ap (λ step. length (spans_of step t.functions)) pars-are

  pub aborts-many-are : length (typed_flow t).aborts ≡ length (spans_of aborts_step t.functions)
  aborts-many-are =
      let all = spans_of (chosen_step left left alone) t.functions in
      let number : (span : Span) → number_of (spans_of aborts_step t.functions) span ≡ number_of all span = λ span. ap (λ step. number_of (spans_of step t.functions) span) (sym aborts-are) in
      sym (guards-many routines kept ∙ sym (conditions-many (aborts_of routines)))
      ∙ ap length (bodies-numbers routines nothing nothing itself (finishing_of routines) (rooms_of t.cells) (numbering_of t.functions) left left alone (number_of all) (λ span. refl) (λ span. refl) (λ span. ap (λ k. k ∷ []) (number span)) t.functions kept)
      ∙ length-map all (number_of all) ∙ ap (λ step. length (spans_of step t.functions)) aborts-are
