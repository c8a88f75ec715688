-- A statement whose names mean what the rules ask of them is one that lowering takes.
use Rattle.std.proofs.Common.{◌≡◌, ℕ, zero, suc, ◌<◌, Bool, true, List, [], ◌∷◌, map, length, Option, Some, None, refl, sym, ap, subst}
use Rattle.std.specs.Prelude.{Contains, slice_get}
use Rattle.pt_base.proofs.Elements.{in_head, in_tail, in_left, in_right}
use Rattle.pc_grammar.specs.declared.expressions.Expr.{Expr}
use Rattle.pc_grammar.specs.declared.expressions.Goal.{Goal}
use Rattle.pc_grammar.specs.declared.expressions.Goal.TheVariants.{Nothing, Var as GoalVar, Elem as GoalElem}
use Rattle.pc_grammar.specs.declared.statements.Stmt.{Stmt}
use Rattle.pc_grammar.specs.declared.statements.Stmt.TheFolds.{fold-roll-Stmt, ind-Stmt, map-Stmt}
use Rattle.pc_grammar.specs.declared.statements.Stmt.TheViews.{roll-Stmt}
use Rattle.pc_grammar.specs.declared.statements.Stmt.TheOpen.{Stmt-F, Skip, Assign, Call, Block, If, While, Eot, Par, Abort}
use Rattle.pc_grammar.specs.declared.roles.Role.TheVariants.{Calls, Starts}
use Rattle.pc_grammar.specs.declared.typed.Function.{Function}
use Rattle.pc_grammar.specs.Uses.{Use, use_of, joined, expression_uses, expressions_uses, goal_uses, is_taken, statement_step, statement_uses, statements_uses}
use Rattle.pc_grammar.specs.Typing.{Typing}
use Rattle.pc_grammar.specs.Meant.{NamesRoutine, NamesThread, IsMeant}
use Rattle.pc_meaning.specs.declared.places.Room.{Room}
use Rattle.pc_meaning.specs.Tree.{Expression, Statement, Statements, skip, assign, call_of, block, if_so, repeat, loop, eot, par, abort, none, each, Routine}
use Rattle.pc_meaning.specs.Statements.{routine_at}
use Rattle.pc_meaning.specs.Programs.{rooms_of, place_of, expression_of, target_of, optional, loop_from, or_skip, Numbering, statements_from, statement_of, statements_of, routine_of}
use Rattle.pc_meaning.specs.Programs as programs
use Rattle.pc_meaning.specs.Promises.{AllBelow}
use Rattle.pc_lower.specs.Order.{Listed, AllListed}
use Rattle.pc_lower.specs.Sound.{Apart, EachApart, ArgumentsApart, Gives, CallFits, Fits, AllFit}
use Rattle.pc_lower.proofs.Nestings.{LiteralsFit, AllLiteralsFit}

pub routine_there : (g : Function → Routine) (fs : List Function) (k : ℕ) (f : Function) → slice_get fs k ≡ Some f → routine_at (map g fs) k ≡ g f
routine_there g [] k f h = absurd (cc)
routine_there g (x ∷ fs) zero f h = let e : x ≡ f = cc in ap g e
routine_there g (x ∷ fs) (suc k) f h = routine_there g fs k f h

-- what names ask, of the parts of a statement that name functions
module _ (routines : List Routine) (aborts : List (Bool × Expression)) (count : ℕ) where
  abbrev mutual
    pub NamesFit : Statement → Type 0
    NamesFit skip = Unit {0}
    NamesFit (assign goal e) = Unit {0}
    NamesFit (call_of goal f es) = CallFits routines aborts count goal f es
    NamesFit (block all) = AllNamesFit all
    NamesFit (if_so test first second) = NamesFit first × NamesFit second
    NamesFit (repeat most test body) = NamesFit body
    NamesFit (loop test body) = NamesFit body
    NamesFit (eot i) = Unit {0}
    NamesFit (par i threads) = AllBelow count threads
    NamesFit (abort j weak body test) = NamesFit body

    pub AllNamesFit : Statements → Type 0
    AllNamesFit none = Unit {0}
    AllNamesFit (each s rest) = NamesFit s × AllNamesFit rest

  -- with the tests of loops and the numbers of aborts this is all
  mutual
    fits : (s : Statement) → NamesFit s → LiteralsFit s → Listed aborts s → Fits routines aborts count s
    fits skip h l o = tt
    fits (assign goal e) h l o = tt
    fits (call_of goal f es) h l o = h
    fits (block all) h l o = all_fit all h l o
    fits (if_so test first second) h l o = (fits first h.0 l.0 o.0, fits second h.1 l.1 o.1)
    fits (repeat most test body) h l o = (l.0, fits body h l.1 o)
    fits (loop test body) h l o = (l.0, fits body h l.1 o)
    fits (eot i) h l o = tt
    fits (par i threads) h l o = h
    fits (abort j weak body test) h l o = (o.0, fits body h l o.1)

    pub all_fit : (all : Statements) → AllNamesFit all → AllLiteralsFit all → AllListed aborts all → AllFit routines aborts count all
    all_fit none h l o = tt
    all_fit (each s rest) h l o = (fits s h.0 l.0 o.0, all_fit rest h.1 l.1 o.1)

-- what is asked of a function's result, and of its parameters
pub record Callable (t : Typing) (i : ℕ) (f : Function) : Type 0 where
  pub gives : (k : ℕ) (g : Function) → slice_get t.functions k ≡ Some g → g.gives ≡ true → (e : Expr ℕ) × (g.result ≡ Some e)
  pub apart : (k : ℕ) (g : Function) → slice_get t.functions k ≡ Some g → k < i → (p : ℕ) → Contains g.parameters p → (e : Expr ℕ) → ((u : Use ℕ) → Contains (expression_uses e) u → IsMeant t i f u) → Apart (place_of (rooms_of t.cells) p) (expression_of (rooms_of t.cells) e)

module _ (t : Typing) (i : ℕ) (f : Function) (n : Numbering) (aborts : List (Bool × Expression)) (callable : Callable t i f) where
  abbrev rooms : List Room
  rooms = rooms_of t.cells

  abbrev routines : List Routine
  routines = map (routine_of rooms n) t.functions

  abbrev AllMeant : List (Use ℕ) → Type 0
  AllMeant uses = (u : Use ℕ) → Contains uses u → IsMeant t i f u

  arguments_apart : (g : Function) (k : ℕ) → slice_get t.functions k ≡ Some g → k < i → (p : ℕ) → Contains g.parameters p → (es : List (Expr ℕ)) → AllMeant (expressions_uses es) → EachApart (place_of rooms p) (map (expression_of rooms) es)
  arguments_apart g k at less p listed [] h = tt
  arguments_apart g k at less p listed (e ∷ es) h = (
    callable.apart k g at less p listed e (λ u c. h u (in_left (expression_uses e) (expressions_uses es) u c)),
    arguments_apart g k at less p listed es (λ u c. h u (in_right (expression_uses e) (expressions_uses es) u c)),
  )

  parameters_apart : (g : Function) (k : ℕ) → slice_get t.functions k ≡ Some g → k < i → (ps : List ℕ) → ((p : ℕ) → Contains ps p → Contains g.parameters p) → (es : List (Expr ℕ)) → AllMeant (expressions_uses es) →
      ArgumentsApart (map (place_of rooms) ps) (map (expression_of rooms) es)
  parameters_apart g k at less [] inside es h = tt
  parameters_apart g k at less (p ∷ ps) inside es h =
      (arguments_apart g k at less p (inside p (in_head p ps)) es h, parameters_apart g k at less ps (λ q c. inside q (in_tail p q ps c)) es h)

  taken_gives : (goal : Goal ℕ) (o : Option Expression) → (is_taken goal ≡ true → (e : Expression) × (o ≡ Some e)) → Gives (target_of rooms goal) o
  taken_gives Nothing o h = tt
  taken_gives (GoalVar c) None h = absurd (let k = h refl in let e : None ≡ Some k.0 = k.1 in cc)
  taken_gives (GoalVar c) (Some e) h = tt
  taken_gives (GoalElem c index) None h = absurd (let k = h refl in let e : None ≡ Some k.0 = k.1 in cc)
  taken_gives (GoalElem c index) (Some e) h = tt

  call_fits : (goal : Goal ℕ) (k : ℕ) (es : List (Expr ℕ)) → AllMeant (statement_step (Call goal k es)) → CallFits routines aborts i (target_of rooms goal) k (map (expression_of rooms) es)
  call_fits goal k es h =
      let call : Use ℕ = use_of (Calls (length es) (is_taken goal)) k in
      let m : NamesRoutine t i (length es) (is_taken goal) k = h call (in_right (goal_uses goal) (call ∷ expressions_uses es) call (in_head call (expressions_uses es))) in
      let r : Routine = routine_of rooms n m.routine in
      let there : routine_at routines k ≡ r = routine_there (routine_of rooms n) t.functions k m.routine m.at in
      let gives : Gives (target_of rooms goal) r.result =
      taken_gives goal r.result (λ taken. let g = callable.gives k m.routine m.at (m.gives taken) in (expression_of rooms g.0, ap (optional rooms) g.1)) in
      let apart : ArgumentsApart r.parameters (map (expression_of rooms) es) =
      parameters_apart m.routine k m.at m.earlier m.routine.parameters (λ p c. c) es (λ u c. h u (in_right (goal_uses goal) (call ∷ expressions_uses es) u (in_tail call u (expressions_uses es) c))) in
      record {
        below = m.earlier;
        gives = subst (λ (x : Routine). Gives (target_of rooms goal) x.result) (sym there) gives;
        apart = subst (λ (x : Routine). ArgumentsApart x.parameters (map (expression_of rooms) es)) (sym there) apart;
      }

  threads_below : (threads : List ℕ) → AllMeant (map (use_of Starts) threads) → AllBelow i threads
  threads_below [] h = tt
  threads_below (k ∷ threads) h =
      let m : NamesThread t i k = h (use_of Starts k) (in_head _ (map (use_of Starts) threads)) in
      (m.earlier, threads_below threads (λ u c. h u (in_tail (use_of Starts k) u (map (use_of Starts) threads) c)))

  -- ---- a statement

  abbrev Fit : Statement → Type 0
  Fit = NamesFit routines aborts i

  abbrev IsFit : Stmt ℕ → Type 0
  IsFit s = AllMeant (statement_uses s) → Fit (statement_of rooms n s)

  abbrev Known : Type 0
  Known = (s : Stmt ℕ) × IsFit s

  abbrev bare : Stmt-F ℕ Known → Stmt-F ℕ (Stmt ℕ)
  bare x = map-Stmt ℕ Known (Stmt ℕ) (λ s. s.0) x

  all_known : (all : List Known) → AllMeant (joined (map statement_uses (map (λ s. s.0) all))) → AllNamesFit routines aborts i (statements_from (map (statement_of rooms n) (map (λ s. s.0) all)))
  all_known [] h = tt
  all_known (s ∷ all) h = (s.1 (λ u c. h u (in_left (statement_uses s.0) _ u c)), all_known all (λ u c. h u (in_right (statement_uses s.0) _ u c)))

  looped : (most : Option ℕ) (test : Expression) (body : Statement) → Fit body → Fit (loop_from most test body)
  looped None test body h = h
  looped (Some most) test body h = h

  level_fits : (x : Stmt-F ℕ Known) → AllMeant (statement_step (map-Stmt ℕ (Stmt ℕ) (List (Use ℕ)) (statement_uses {N = ℕ}) (bare x))) → Fit (programs.statement_step rooms n (map-Stmt ℕ (Stmt ℕ) Statement (statement_of rooms n) (bare x)))
  level_fits Skip h = tt
  level_fits (Assign goal e) h = tt
  level_fits (Call goal k es) h = call_fits goal k es h
  level_fits (Block all) h = all_known all h
  level_fits (If test first None) h = (first.1 (λ u c. h u (in_right (expression_uses test) _ u (in_left (statement_uses first.0) _ u c))), tt)
  level_fits (If test first (Some second)) h =
      (first.1 (λ u c. h u (in_right (expression_uses test) _ u (in_left (statement_uses first.0) _ u c))), second.1 (λ u c. h u (in_right (expression_uses test) _ u (in_right (statement_uses first.0) _ u c))))
  level_fits (While span test most body) h = looped most (expression_of rooms test) (statement_of rooms n body.0) (body.1 (λ u c. h u (in_right (expression_uses test) _ u c)))
  level_fits (Eot span) h = tt
  level_fits (Par span threads) h = threads_below threads h
  level_fits (Abort span weak body test) h = body.1 (λ u c. h u (in_left (statement_uses body.0) _ u c))

  statement_fits : (s : Stmt ℕ) → IsFit s
  statement_fits = ind-Stmt ℕ IsFit (λ x y is.
      subst (λ z. IsFit (roll-Stmt ℕ z)) is
      (let below = bare y in
      let uses = fold-roll-Stmt ℕ (List (Use ℕ)) (statement_step {N = ℕ}) below in
      λ h. subst Fit (sym (fold-roll-Stmt ℕ Statement (programs.statement_step rooms n) below)) (level_fits y (subst AllMeant uses h))))

  pub body_fits : (all : List (Stmt ℕ)) → AllMeant (statements_uses all) → AllNamesFit routines aborts i (statements_of rooms n all)
  body_fits [] h = tt
  body_fits (s ∷ all) h = (statement_fits s (λ u c. h u (in_left (statement_uses s) (statements_uses all) u c)), body_fits all (λ u c. h u (in_right (statement_uses s) (statements_uses all) u c)))
