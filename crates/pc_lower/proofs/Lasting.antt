-- What the rules on loops promise of the trees that the meaning takes.
use Rattle.std.proofs.Common.{◌≡◌, ℕ, zero, suc, ◌+◌, ◌<◌, Bool, true, false, ◌&&◌, ◌||◌, List, [], ◌∷◌, ◌++◌, map, length, Option, Some, None, refl, sym, ap, subst, ◌∙◌, append_assoc, append-nil, length-append, arith}
use Rattle.std.specs.Prelude.{Contains, slice_get, unwrap_or}
use Rattle.std.specs.List.{list_all}
use Rattle.pt_base.proofs.Elements.{in_head, in_tail, in_left, in_right}
use Rattle.pt_base.specs.declared.rules.Span.{Span}
use Rattle.pc_grammar.specs.declared.statements.Stmt.{Stmt, para-roll-Stmt}
use Rattle.pc_grammar.specs.declared.statements.Stmt.TheFolds.{fold-roll-Stmt, ind-Stmt, map-Stmt}
use Rattle.pc_grammar.specs.declared.statements.Stmt.TheViews.{roll-Stmt}
use Rattle.pc_grammar.specs.declared.statements.Stmt.TheOpen.{Stmt-F, Skip, Assign, Call, Block, If, While, Eot, Par, Abort}
use Rattle.pc_grammar.specs.declared.typed.Function.{Function}
use Rattle.pc_grammar.specs.Typing.{Typing}
use Rattle.pc_grammar.specs.Keeping.{IsTyped}
use Rattle.pc_grammar.specs.Uses.{joined, holds_pause}
use Rattle.pc_grammar.specs.Finishing as typed
use Rattle.pc_grammar.proofs.FirstPassing.{is_false}
use Rattle.pc_rules.specs.Nests.{Nest, Loop, Aborted, one_more, all_nests, nests_step, nests, function_nests, program_nests}
use Rattle.pc_rules.specs.Judging.{may_finish, pauses as may_pause, IsWithin}
use Rattle.pc_meaning.specs.declared.places.Room.{Room}
use Rattle.pc_meaning.specs.Tree.{Expression, Statement, Statements, skip, assign, call_of, block, if_so, repeat, loop, eot, par, abort, none, each, Routine}
use Rattle.pc_meaning.specs.Programs.{rooms_of, Numbering, numbering_of, loop_from, statements_from, statement_step, statement_of, statements_of, routine_of, program_of}
use Rattle.pc_meaning.specs.Promises.{is_known, finishes, all_finish, Lasts, AllLast, AllBelow, finishing_from, finishing_of, RoutinesLast}
use Rattle.pc_meaning.proofs.Bridge.{same_pause, same_finish, same_finishing}
use Rattle.pc_lower.specs.Aborts.{aborts_of}
use Rattle.pc_lower.specs.Sound.{Fits, AllFit, RoutinesFit}
use Rattle.pc_lower.specs.Loops.{LoopsKept, AllLoopsKept, RoutinesLoopsKept}
use Rattle.pc_lower.proofs.Promised.{typed_fits}

-- ---- from the loops and aborts of a statement

module _ (rooms : List Room) (n : Numbering) (whole : List Bool) where
  abbrev Good : Nest → Type 0
  Good (Loop span None body loops) = typed.finishes whole body ≡ false
  Good (Loop span (Some most) body loops) = holds_pause body ≡ false
  Good (Aborted span aborts) = Unit {0}

  abbrev AllGood : List Nest → Type 0
  AllGood ms = (m : Nest) → Contains ms m → Good m

  abbrev Kept : Stmt ℕ → Type 0
  Kept s = (a l : ℕ) → AllGood (nests s a l) → LoopsKept whole (statement_of rooms n s)

  abbrev Known : Type 0
  Known = (s : Stmt ℕ) × Kept s

  abbrev bare : Stmt-F ℕ Known → Stmt-F ℕ (Stmt ℕ)
  bare x = map-Stmt ℕ Known (Stmt ℕ) (λ s. s.0) x

  abbrev Nesting : Type 0
  Nesting = ℕ → ℕ → List Nest

  abbrev beside : Stmt ℕ → Stmt ℕ × Nesting
  beside s = (s, nests s)

  all_kept : (all : List Known) (a l : ℕ) → AllGood (all_nests (map beside (map (λ s. s.0) all)) a l) → AllLoopsKept whole (statements_from (map (statement_of rooms n) (map (λ s. s.0) all)))
  all_kept [] a l h = tt
  all_kept (s ∷ all) a l h = (s.1 a l (λ m c. h m (in_left (nests s.0 a l) _ m c)), all_kept all a l (λ m c. h m (in_right (nests s.0 a l) _ m c)))

  loop_kept : (span : Span) (most : Option ℕ) (test : Expression) (body : Known) (a l : ℕ) → AllGood (Loop span most body.0 l ∷ nests body.0 a (one_more most l)) → LoopsKept whole (loop_from most test (statement_of rooms n body.0))
  loop_kept span None test body a l h =
      (same_finish rooms n whole body.0 ∙ h (Loop span None body.0 l) (in_head _ (nests body.0 a l)), body.1 a l (λ m c. h m (in_tail (Loop span None body.0 l) m (nests body.0 a l) c)))
  loop_kept span (Some most) test body a l h =
      (same_pause rooms n body.0 ∙ h (Loop span (Some most) body.0 l) (in_head _ (nests body.0 a (l + 1))), body.1 a (l + 1) (λ m c. h m (in_tail (Loop span (Some most) body.0 l) m (nests body.0 a (l + 1)) c)))

  level_kept : (x : Stmt-F ℕ Known) (a l : ℕ) → AllGood (nests_step (map-Stmt ℕ (Stmt ℕ) (Stmt ℕ × Nesting) beside (bare x)) a l) → LoopsKept whole (statement_step rooms n (map-Stmt ℕ (Stmt ℕ) Statement (statement_of rooms n) (bare x)))
  level_kept Skip a l h = tt
  level_kept (Assign goal e) a l h = tt
  level_kept (Call goal k es) a l h = tt
  level_kept (Block all) a l h = all_kept all a l h
  level_kept (If test first None) a l h = (first.1 a l (λ m c. h m (in_left (nests first.0 a l) [] m c)), tt)
  level_kept (If test first (Some second)) a l h =
      (first.1 a l (λ m c. h m (in_left (nests first.0 a l) (nests second.0 a l) m c)), second.1 a l (λ m c. h m (in_right (nests first.0 a l) (nests second.0 a l) m c)))
  level_kept (While span test most body) a l h = loop_kept span most (Rattle.pc_meaning.specs.Programs.expression_of rooms test) body a l h
  level_kept (Eot span) a l h = tt
  level_kept (Par span threads) a l h = tt
  level_kept (Abort span weak body test) a l h = body.1 (a + 1) l (λ m c. h m (in_tail (Aborted span a) m (nests body.0 (a + 1) l) c))

  statement_kept : (s : Stmt ℕ) → Kept s
  statement_kept = ind-Stmt ℕ Kept (λ x y is.
      subst (λ z. Kept (roll-Stmt ℕ z)) is
      (let below = bare y in
      let marked : (a l : ℕ) → nests (roll-Stmt ℕ below) a l ≡ nests_step (map-Stmt ℕ (Stmt ℕ) (Stmt ℕ × Nesting) beside below) a l = λ a l. ap (λ f. f a l) (para-roll-Stmt ℕ Nesting nests_step below) in
      λ a l h. subst (LoopsKept whole) (sym (fold-roll-Stmt ℕ Statement (statement_step rooms n) below)) (level_kept y a l (subst AllGood (marked a l) h))))

  body_kept : (all : List (Stmt ℕ)) → AllGood (joined (map (λ s. nests s 0 0) all)) → AllLoopsKept whole (statements_of rooms n all)
  body_kept [] h = tt
  body_kept (s ∷ all) h = (statement_kept s 0 0 (λ m c. h m (in_left (nests s 0 0) _ m c)), body_kept all (λ m c. h m (in_right (nests s 0 0) _ m c)))

  routines_kept : (fs : List Function) → AllGood (joined (map function_nests fs)) → RoutinesLoopsKept whole (map (routine_of rooms n) fs)
  routines_kept [] h = tt
  routines_kept (f ∷ fs) h = (body_kept f.body (λ m c. h m (in_left (function_nests f) _ m c)), routines_kept fs (λ m c. h m (in_right (function_nests f) _ m c)))

-- ---- what is known of more functions changes nothing

module _ (known more : List Bool) where
  known_first : (xs : List Bool) (f : ℕ) → f < length xs → unwrap_or (slice_get (xs ++ more) f) true ≡ unwrap_or (slice_get xs f) true
  known_first [] f less = absurd (omega arith)
  known_first (x ∷ xs) zero less = refl
  known_first (x ∷ xs) (suc f) less = known_first xs f (omega arith)

  threads_first : (fs : List ℕ) → AllBelow (length known) fs → list_all (is_known (known ++ more)) fs ≡ list_all (is_known known) fs
  threads_first [] h = refl
  threads_first (f ∷ fs) h = ap (λ b. b && list_all (is_known (known ++ more)) fs) (known_first known f h.0) ∙ ap (λ b. is_known known f && b) (threads_first fs h.1)

  module _ (routines : List Routine) (aborts : List (Bool × Expression)) where
    mutual
      finishes_first : (s : Statement) → Fits routines aborts (length known) s → finishes (known ++ more) s ≡ finishes known s
      finishes_first skip h = refl
      finishes_first (assign goal e) h = refl
      finishes_first (call_of goal f es) h = refl
      finishes_first (block all) h = all_first all h
      finishes_first (if_so test first second) h = ap (λ b. b || finishes (known ++ more) second) (finishes_first first h.0) ∙ ap (λ b. finishes known first || b) (finishes_first second h.1)
      finishes_first (repeat most test body) h = refl
      finishes_first (loop test body) h = refl
      finishes_first (eot i) h = refl
      finishes_first (par i threads) h = threads_first threads h
      finishes_first (abort j weak body test) h = finishes_first body h.1

      all_first : (all : Statements) → AllFit routines aborts (length known) all → all_finish (known ++ more) all ≡ all_finish known all
      all_first none h = refl
      all_first (each s rest) h = ap (λ b. b && all_finish (known ++ more) rest) (finishes_first s h.0) ∙ ap (λ b. finishes known s && b) (all_first rest h.1)

    mutual
      lasts : (s : Statement) → Fits routines aborts (length known) s → LoopsKept (known ++ more) s → Lasts known s
      lasts skip h k = tt
      lasts (assign goal e) h k = tt
      lasts (call_of goal f es) h k = tt
      lasts (block all) h k = all_last all h k
      lasts (if_so test first second) h k = (lasts first h.0 k.0, lasts second h.1 k.1)
      lasts (repeat most test body) h k = lasts body h.1 k.1
      lasts (loop test body) h k = (h.0, sym (finishes_first body h.1) ∙ k.0, lasts body h.1 k.1)
      lasts (eot i) h k = tt
      lasts (par i threads) h k = tt
      lasts (abort j weak body test) h k = lasts body h.1 k

      all_last : (all : Statements) → AllFit routines aborts (length known) all → AllLoopsKept (known ++ more) all → AllLast known all
      all_last none h k = tt
      all_last (each s rest) h k = (lasts s h.0 k.0, all_last rest h.1 k.1)

grows : (known : List Bool) (rs : List Routine) → (more : List Bool) × (finishing_from known rs ≡ known ++ more)
grows known [] = ([], sym (append-nil known))
grows known (r ∷ rs) =
    let one : Bool = all_finish known r.body in
    let g = grows (known ++ one ∷ []) rs in
    (one ∷ g.0, g.1 ∙ append_assoc known (one ∷ []) g.0)

module _ (routines : List Routine) (aborts : List (Bool × Expression)) where
  routines_last : (whole known : List Bool) (rs : List Routine) → finishing_from known rs ≡ whole → RoutinesFit routines aborts (length known) rs → RoutinesLoopsKept whole rs → RoutinesLast known rs
  routines_last whole known [] is h k = tt
  routines_last whole known (r ∷ rs) is h k =
      let one : Bool = all_finish known r.body in
      let g = grows known (r ∷ rs) in
      let kept : AllLoopsKept (known ++ g.0) r.body = subst (λ w. AllLoopsKept w r.body) (sym is ∙ g.1) k.0 in
      let grown : suc (length known) ≡ length (known ++ one ∷ []) = (let a = length-append known (one ∷ []) in omega (arith, a)) in
      (all_last known g.0 routines aborts r.body h.0.body kept, routines_last whole (known ++ one ∷ []) rs is (subst (λ m. RoutinesFit routines aborts m rs) grown h.1) k.1)

pub loops_kept : (t : Typing) → IsWithin t → RoutinesLoopsKept (finishing_of (program_of t).routines) (program_of t).routines
loops_kept t within =
    let rooms : List Room = rooms_of t.cells in
    let n : Numbering = numbering_of t.functions in
    subst (λ w. RoutinesLoopsKept w (program_of t).routines) (sym (same_finishing rooms n [] t.functions)) (routines_kept rooms n (typed.finishing t.functions) t.functions good)
  where
    good : (m : Nest) → Contains (program_nests t) m → Good (rooms_of t.cells) (numbering_of t.functions) (typed.finishing t.functions) m
    good (Loop span None body loops) c = is_false _ (λ e. within.rules _ _ (may_finish span body loops c e))
    good (Loop span (Some most) body loops) c = is_false _ (λ e. within.rules _ _ (may_pause span most body loops c e))
    good (Aborted span aborts) c = tt

pub loops_last : (t : Typing) → IsTyped t → IsWithin t → RoutinesLast [] (program_of t).routines
loops_last t typed_t within =
    routines_last (program_of t).routines (aborts_of (program_of t).routines) (finishing_of (program_of t).routines) [] (program_of t).routines refl (typed_fits t typed_t).routines (loops_kept t within)
