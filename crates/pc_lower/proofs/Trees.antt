-- The equations of trees and of nodes, for the search.
use Rattle.std.proofs.Common.{◌≡◌, ◌≤◌, ℕ, Bool, List, [], ◌∷◌, ◌++◌, map, length, drop, refl, sym, ap, ◌∙◌, append_assoc, append-nil}
use Rattle.std.proofs.lemmas.List.{map-append}
use Rattle.pc_grammar.specs.declared.expressions.Expr.{Expr}
use Rattle.pc_meaning.specs.declared.places.Room.{Room}
use Rattle.pc_meaning.specs.Tree.{Expression}
use Rattle.pc_meaning.specs.Programs.{expression_of}
use Rattle.pc_meaning.proofs.Leaving.{drop-past}
use Rattle.pc_meaning.proofs.Trees.{expression-Number, expression-Var, expression-Elem, expression-Unary, expression-Chain, statement-Skip, statement-Assign, statement-Call, statement-Block, statement-If, statement-If_else, statement-While, statement-Eot, statement-Par, statement-Abort}
use Rattle.pc_lower.specs.declared.nodes.Node.{Node as Kept}
use Rattle.pc_lower.specs.declared.nodes.Abort.{Abort}
use Rattle.pc_lower.specs.declared.nodes.Test.{Test}
use Rattle.pc_lower.specs.Flow.{Nodes, no_nodes, and}
use Rattle.pc_lower.specs.Trees.{read, all_read, pairs_of}
use Rattle.pc_lower.proofs.FlowTrees.{read-Straight, read-Sequence, read-Branch, read-Turns, read-Bounded, read-Call, read-Pause, read-Fork, read-Guard}
use Rattle.pc_lower.specs.Lowered.{test_of, passed, conditions_of}

-- one more behind what was pushed
pub behind : {A : Type 0} (old mid new part : List A) (last : A) → mid ≡ old ++ part → new ≡ mid ++ last ∷ [] → new ≡ old ++ (part ++ last ∷ [])
behind old mid new part last is more = more ∙ ap (λ l. l ++ last ∷ []) is ∙ append_assoc old part (last ∷ [])

-- no arguments are left
pub passed-past : (rooms : List Room) (places : List ℕ) (es : List (Expr ℕ)) (i : ℕ) → length es ≤ i → passed places (map (expression_of rooms) (drop i es)) ≡ []
passed-past rooms places es i past = ap (λ l. passed places (map (expression_of rooms) l)) (drop-past es i past) ∙ by places
  where
    by : (ps : List ℕ) → passed ps [] ≡ []
    by [] = refl
    by (p ∷ ps) = refl

-- nodes in memory, and others behind them
abbrev pub before : List Kept → Nodes → Nodes
before [] rest = rest
before (n ∷ ns) rest = and (read n) (before ns rest)

pub before-push : (ns : List Kept) (n : Kept) (rest : Nodes) → before (ns ++ n ∷ []) rest ≡ before ns (and (read n) rest)
before-push [] n rest = refl
before-push (m ∷ ns) n rest = ap (and (read m)) (before-push ns n rest)

pub before-none : (ns : List Kept) → before ns no_nodes ≡ all_read ns
before-none [] = refl
before-none (n ∷ ns) = ap (and (read n)) (before-none ns)

pub read-append : (ns ms : List Kept) → all_read (ns ++ ms) ≡ before ns (all_read ms)
read-append [] ms = refl
read-append (n ∷ ns) ms = ap (and (read n)) (read-append ns ms)

pub conditions-append : (a b : List (Bool × Expression)) → conditions_of (a ++ b) ≡ conditions_of a ++ conditions_of b
conditions-append [] b = refl
conditions-append (x ∷ a) b = ap (λ l. (x.0, test_of x.1) ∷ l) (conditions-append a b)

pub pairs-append : (a b : List Abort) → pairs_of (a ++ b) ≡ pairs_of a ++ pairs_of b
pairs-append a b = map-append (λ (x : Abort). (x.weak, x.test)) a b

-- one more abort
pub pairs-push : (aborts new : List Abort) (weak : Bool) (test is : Test) → new ≡ aborts ++ record { weak = weak; test = test } ∷ [] → test ≡ is → pairs_of new ≡ pairs_of aborts ++ (weak, is) ∷ []
pairs-push aborts new weak test is more same = ap pairs_of more ∙ pairs-append aborts (record { weak = weak; test = test } ∷ []) ∙ ap (λ t. pairs_of aborts ++ (weak, t) ∷ []) same

-- aborts behind others
pub aborts-then : (old mid : List (Bool × Test)) (a b : List (Bool × Expression)) → mid ≡ old ++ conditions_of a → mid ++ conditions_of b ≡ old ++ conditions_of (a ++ b)
aborts-then old mid a b is = ap (λ l. l ++ conditions_of b) is ∙ append_assoc old (conditions_of a) (conditions_of b) ∙ ap (λ l. old ++ l) (sym (conditions-append a b))

pub ruleset values = (append_assoc, append-nil, expression-Number, expression-Var, expression-Elem, expression-Unary, expression-Chain)

pub ruleset nodes = (statement-Skip, statement-Assign, statement-Call, statement-Block, statement-If, statement-If_else, statement-While, statement-Eot, statement-Par, statement-Abort, read-Straight, read-Sequence, read-Branch, read-Turns, read-Bounded, read-Call, read-Pause, read-Fork, read-Guard, before-push, before-none, read-append)

pub ruleset conditions = (append_assoc, append-nil, statement-Skip, statement-Assign, statement-Call, statement-Block, statement-If, statement-If_else, statement-While, statement-Eot, statement-Par, statement-Abort, conditions-append, pairs-append)
