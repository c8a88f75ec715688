-- Aborts and loops with `#n` stand eight deep at most in each statement of an accepted program.
use Rattle.std.proofs.Common.{◌≡◌, ℕ, ◌+◌, ◌<◌, List, [], ◌∷◌, map, Option, Some, None, ⊎_elim, sym, ap, subst}
use Rattle.std.specs.Prelude.{Contains}
use Rattle.pt_base.proofs.Elements.{in_head, in_tail, in_none, in_cases, in_left, in_right}
use Rattle.pt_base.specs.declared.rules.Span.{Span}
use Rattle.pc_grammar.specs.declared.statements.Stmt.{Stmt, para-roll-Stmt}
use Rattle.pc_grammar.specs.declared.statements.Stmt.TheFolds.{fold-roll-Stmt, ind-Stmt, map-Stmt}
use Rattle.pc_grammar.specs.declared.statements.Stmt.TheViews.{roll-Stmt}
use Rattle.pc_grammar.specs.declared.statements.Stmt.TheOpen.{Stmt-F, Skip, Assign, Call, Block, If, While, Eot, Par, Abort}
use Rattle.pc_grammar.specs.declared.typed.Function.{Function}
use Rattle.pc_grammar.specs.Typing.{Typing}
use Rattle.pc_grammar.specs.Uses.{joined}
use Rattle.pc_rules.specs.Nests.{Nest, Loop, Aborted, one_more, all_nests, nests_step, nests, function_nests, program_nests}
use Rattle.pc_rules.specs.Judging.{aborts as too_many_aborts, loops as too_many_loops, IsWithin}
use Rattle.pc_meaning.specs.declared.places.Room.{Room}
use Rattle.pc_meaning.specs.Tree.{Expression, Statement}
use Rattle.pc_meaning.specs.Programs.{Numbering, expression_of, loop_from, statements_from, statement_step, statement_of, statements_of}
use Rattle.pc_lower.proofs.Earlier.{below-or-past}
use Rattle.pc_lower.proofs.Shapes.{Nests, AllNest}

abbrev Good : Nest → Type 0
Good (Loop span None body loops) = Unit {0}
Good (Loop span (Some most) body loops) = loops < 8
Good (Aborted span aborts) = aborts < 8

abbrev AllGood : List Nest → Type 0
AllGood ms = (m : Nest) → Contains ms m → Good m

module _ (rooms : List Room) (n : Numbering) where
  abbrev Kept : Stmt ℕ → Type 0
  Kept s = (a l : ℕ) → AllGood (nests s a l) → Nests a l (statement_of rooms n s)

  abbrev Known : Type 0
  Known = (s : Stmt ℕ) × Kept s

  abbrev bare : Stmt-F ℕ Known → Stmt-F ℕ (Stmt ℕ)
  bare x = map-Stmt ℕ Known (Stmt ℕ) (λ s. s.0) x

  abbrev Nesting : Type 0
  Nesting = ℕ → ℕ → List Nest

  abbrev beside : Stmt ℕ → Stmt ℕ × Nesting
  beside s = (s, nests s)

  all_kept : (all : List Known) (a l : ℕ) → AllGood (all_nests (map beside (map (λ s. s.0) all)) a l) → AllNest a l (statements_from (map (statement_of rooms n) (map (λ s. s.0) all)))
  all_kept [] a l h = tt
  all_kept (s ∷ all) a l h = (s.1 a l (λ m c. h m (in_left (nests s.0 a l) _ m c)), all_kept all a l (λ m c. h m (in_right (nests s.0 a l) _ m c)))

  loop_kept : (span : Span) (most : Option ℕ) (test : Expression) (body : Known) (a l : ℕ) → AllGood (Loop span most body.0 l ∷ nests body.0 a (one_more most l)) → Nests a l (loop_from most test (statement_of rooms n body.0))
  loop_kept span None test body a l h = body.1 a l (λ m c. h m (in_tail (Loop span None body.0 l) m (nests body.0 a l) c))
  loop_kept span (Some most) test body a l h =
      (h (Loop span (Some most) body.0 l) (in_head _ (nests body.0 a (l + 1))), body.1 a (l + 1) (λ m c. h m (in_tail (Loop span (Some most) body.0 l) m (nests body.0 a (l + 1)) c)))

  level_kept : (x : Stmt-F ℕ Known) (a l : ℕ) → AllGood (nests_step (map-Stmt ℕ (Stmt ℕ) (Stmt ℕ × Nesting) beside (bare x)) a l) → Nests a l (statement_step rooms n (map-Stmt ℕ (Stmt ℕ) Statement (statement_of rooms n) (bare x)))
  level_kept Skip a l h = tt
  level_kept (Assign goal e) a l h = tt
  level_kept (Call goal k es) a l h = tt
  level_kept (Block all) a l h = all_kept all a l h
  level_kept (If test first None) a l h = (first.1 a l (λ m c. h m (in_left (nests first.0 a l) [] m c)), tt)
  level_kept (If test first (Some second)) a l h =
      (first.1 a l (λ m c. h m (in_left (nests first.0 a l) (nests second.0 a l) m c)), second.1 a l (λ m c. h m (in_right (nests first.0 a l) (nests second.0 a l) m c)))
  level_kept (While span test most body) a l h = loop_kept span most (expression_of rooms test) body a l h
  level_kept (Eot span) a l h = tt
  level_kept (Par span threads) a l h = tt
  level_kept (Abort span weak body test) a l h =
      (h (Aborted span a) (in_head _ (nests body.0 (a + 1) l)), body.1 (a + 1) l (λ m c. h m (in_tail (Aborted span a) m (nests body.0 (a + 1) l) c)))

  statement_kept : (s : Stmt ℕ) → Kept s
  statement_kept = ind-Stmt ℕ Kept (λ x y is.
      subst (λ z. Kept (roll-Stmt ℕ z)) is
      (let below = bare y in
      let nested : (a l : ℕ) → nests (roll-Stmt ℕ below) a l ≡ nests_step (map-Stmt ℕ (Stmt ℕ) (Stmt ℕ × Nesting) beside below) a l = λ a l. ap (λ f. f a l) (para-roll-Stmt ℕ Nesting nests_step below) in
      λ a l h. subst (Nests a l) (sym (fold-roll-Stmt ℕ Statement (statement_step rooms n) below)) (level_kept y a l (subst AllGood (nested a l) h))))

  body_kept : (all : List (Stmt ℕ)) → AllGood (joined (map (λ s. nests s 0 0) all)) → AllNest 0 0 (statements_of rooms n all)
  body_kept [] h = tt
  body_kept (s ∷ all) h = (statement_kept s 0 0 (λ m c. h m (in_left (nests s 0 0) _ m c)), body_kept all (λ m c. h m (in_right (nests s 0 0) _ m c)))

  nests-in : (fs : List Function) (f : Function) (m : Nest) → Contains fs f → Contains (function_nests f) m → Contains (joined (map function_nests fs)) m
  nests-in [] f m there c = absurd (in_none f there)
  nests-in (x ∷ fs) f m there c =
      ⊎_elim (λ same. in_left (function_nests x) (joined (map function_nests fs)) m (subst (λ g. Contains (function_nests g) m) (sym same) c))
      (λ later. in_right (function_nests x) (joined (map function_nests fs)) m (nests-in fs f m later c)) (in_cases x f fs there)

  pub function-nests : (fs : List Function) (f : Function) → Contains fs f → AllGood (joined (map function_nests fs)) → AllNest 0 0 (statements_of rooms n f.body)
  function-nests fs f there good = body_kept f.body (λ m c. good m (nests-in fs f m there c))

pub good-nests : (t : Typing) → IsWithin t → AllGood (program_nests t)
good-nests t within (Loop span None body loops) c = tt
good-nests t within (Loop span (Some most) body loops) c = ⊎_elim (λ less. less) (λ past. absurd (within.limits _ _ (too_many_loops span most body loops c past))) (below-or-past loops 8)
good-nests t within (Aborted span aborts) c = ⊎_elim (λ less. less) (λ past. absurd (within.limits _ _ (too_many_aborts span aborts c past))) (below-or-past aborts 8)
