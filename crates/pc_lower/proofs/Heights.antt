-- The functions that a statement calls are no higher than the rules count.
use Rattle.std.proofs.Common.{◌≡◌, ℕ, suc, ◌+◌, ◌<◌, ◌≤◌, max, List, [], ◌∷◌, ◌++◌, map, length, Option, Some, None, refl, sym, ap, subst, ◌∙◌, append_assoc, append-nil, length-append, arith}
use Rattle.std.specs.Prelude.{Contains, slice_get}
use Rattle.pc_grammar.specs.declared.statements.Stmt.{Stmt}
use Rattle.pc_grammar.specs.declared.statements.Stmt.TheFolds.{fold-roll-Stmt, ind-Stmt, map-Stmt}
use Rattle.pc_grammar.specs.declared.statements.Stmt.TheViews.{roll-Stmt}
use Rattle.pc_grammar.specs.declared.statements.Stmt.TheOpen.{Stmt-F, Skip, Assign, Call, Block, If, While, Eot, Par, Abort}
use Rattle.pc_grammar.specs.declared.typed.Function.{Function}
use Rattle.pc_rules.specs.Known.{known_of, each_given}
use Rattle.pc_rules.specs.Nests.{greatest, height_step, called_height, function_height, heights}
use Rattle.pc_meaning.specs.declared.places.Room.{Room}
use Rattle.pc_meaning.specs.Tree.{Expression, Statement}
use Rattle.pc_meaning.specs.Programs.{Numbering, expression_of, loop_from, statements_from, statement_step, statement_of, statements_of}
use Rattle.pc_meaning.proofs.Lookups.{slice_get_front, slice_get_middle}
use Rattle.pc_lower.proofs.Shapes.{Anything, Names, AllName}

module _ (rooms : List Room) (n : Numbering) (known : List ℕ) (most : ℕ) where
  abbrev IsUnder : ℕ → Type 0
  IsUnder f = known_of known f ≤ most

  abbrev Low : Stmt ℕ → Type 0
  Low s = called_height known s ≤ most → Names IsUnder Anything (statement_of rooms n s)

  abbrev Known : Type 0
  Known = (s : Stmt ℕ) × Low s

  abbrev bare : Stmt-F ℕ Known → Stmt-F ℕ (Stmt ℕ)
  bare x = map-Stmt ℕ Known (Stmt ℕ) (λ s. s.0) x

  no-threads : (fs : List ℕ) → Rattle.std.specs.List.AllByRecursion Anything fs
  no-threads [] = tt
  no-threads (f ∷ fs) = (tt, no-threads fs)

  all-low : (all : List Known) → greatest (map (called_height known) (map (λ s. s.0) all)) ≤ most → AllName IsUnder Anything (statements_from (map (statement_of rooms n) (map (λ s. s.0) all)))
  all-low [] h = tt
  all-low (s ∷ all) h = (s.1 (omega (arith, h)), all-low all (omega (arith, h)))

  looped : (most : Option ℕ) (test : Expression) (body : Statement) → Names IsUnder Anything body → Names IsUnder Anything (loop_from most test body)
  looped None test body h = h
  looped (Some k) test body h = h

  level-low : (x : Stmt-F ℕ Known) → height_step known (map-Stmt ℕ (Stmt ℕ) ℕ (called_height known) (bare x)) ≤ most → Names IsUnder Anything (statement_step rooms n (map-Stmt ℕ (Stmt ℕ) Statement (statement_of rooms n) (bare x)))
  level-low Skip h = tt
  level-low (Assign goal e) h = tt
  level-low (Call goal k es) h = h
  level-low (Block all) h = all-low all h
  level-low (If test first None) h = (first.1 (omega (arith, h)), tt)
  level-low (If test first (Some second)) h = (first.1 (omega (arith, h)), second.1 (omega (arith, h)))
  level-low (While span test number body) h = looped number (expression_of rooms test) (statement_of rooms n body.0) (body.1 h)
  level-low (Eot span) h = tt
  level-low (Par span threads) h = no-threads threads
  level-low (Abort span weak body test) h = body.1 h

  statement-low : (s : Stmt ℕ) → Low s
  statement-low = ind-Stmt ℕ Low (λ x y is.
      subst (λ z. Low (roll-Stmt ℕ z)) is
      (let below = bare y in
      let tall = fold-roll-Stmt ℕ ℕ (height_step known) below in
      λ h. subst (Names IsUnder Anything) (sym (fold-roll-Stmt ℕ Statement (statement_step rooms n) below)) (level-low y (subst (λ m. m ≤ most) tall h))))

  pub body-low : (all : List (Stmt ℕ)) → greatest (map (called_height known) all) ≤ most → AllName IsUnder Anything (statements_of rooms n all)
  body-low [] h = tt
  body-low (s ∷ all) h = (statement-low s (omega (arith, h)), body-low all (omega (arith, h)))

-- ---- the list of heights

grows : (known : List ℕ) (fs : List Function) → (more : List ℕ) × (each_given function_height known fs ≡ known ++ more)
grows known [] = ([], sym (append-nil known))
grows known (f ∷ fs) =
    let one : ℕ = function_height known f in
    let g = grows (known ++ one ∷ []) fs in
    (one ∷ g.0, g.1 ∙ append_assoc known (one ∷ []) g.0)

-- the heights before a function, and its own
pub record HeightAt (whole : List ℕ) (i : ℕ) (f : Function) : Type 0 where
  pub known : List ℕ
  pub more : List ℕ
  pub long : length known ≡ i
  pub is : whole ≡ known ++ function_height known f ∷ more

height-from : (fs : List Function) (known : List ℕ) (k : ℕ) (f : Function) → slice_get fs k ≡ Some f → HeightAt (each_given function_height known fs) (length known + k) f
height-from [] known k f there = absurd (cc)
height-from (x ∷ fs) known Rattle.std.proofs.Common.zero f there =
    let same : x ≡ f = cc in
    let g = grows (known ++ function_height known x ∷ []) fs in
    subst (HeightAt (each_given function_height known (x ∷ fs)) (length known + 0)) same
    (record { known = known; more = g.0; long = omega arith; is = g.1 ∙ append_assoc known (function_height known x ∷ []) g.0 })
height-from (x ∷ fs) known (suc k) f there =
    let h = height-from fs (known ++ function_height known x ∷ []) k f there in
    let a = length-append known (function_height known x ∷ []) in
    record { known = h.known; more = h.more; long = h.long ∙ omega (arith, a); is = h.is }

pub height-at : (fs : List Function) (i : ℕ) (f : Function) → slice_get fs i ≡ Some f → HeightAt (heights fs) i f
height-at fs i f there = let h = height-from fs [] i f there in record { known = h.known; more = h.more; long = h.long ∙ omega arith; is = h.is }

-- earlier functions have the same heights among those before
pub height-before : (whole : List ℕ) (i : ℕ) (f : Function) (h : HeightAt whole i f) (k : ℕ) → k < i → known_of whole k ≡ known_of h.known k
height-before whole i f h k less =
    ap (λ l. known_of l k) h.is
    ∙ ap (λ o. Rattle.std.specs.Prelude.unwrap_or o 0) (slice_get_front h.known (function_height h.known f ∷ h.more) k (let e = h.long in omega (arith, e, less)))

pub height-own : (whole : List ℕ) (i : ℕ) (f : Function) (h : HeightAt whole i f) → slice_get whole i ≡ Some (function_height h.known f)
height-own whole i f h = ap (slice_get whole) (sym h.long) ∙ ap (λ l. slice_get l (length h.known)) h.is ∙ slice_get_middle h.known (function_height h.known f) h.more
