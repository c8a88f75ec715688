-- One lemma for each way on which the parser of statements answers.
use Rattle.std.proofs.Common.{◌≡◌, ℕ, suc, ◌-◌, ◌<◌, Bool, List, [], ◌∷◌, ◌++◌, length, refl, sym, ap, subst, ◌∙◌, append_assoc, append-nil, length-append, arith}
use Rattle.pc_grammar.specs.declared.tokens.Token.{Token}
use Rattle.pc_grammar.specs.declared.expressions.Word.{Word}
use Rattle.pc_grammar.specs.declared.statements.Stmt.{Stmt}
use Rattle.pc_parse.specs.declared.reading.Failure.{Failure}
use Rattle.pc_parse.specs.declared.reading.Failure.TheVariants.{Broken, Memory}
use Rattle.pc_grammar.specs.Refusing.{first}
use Rattle.pc_parse.specs.Reading.{Refuses}
use Rattle.pc_parse.proofs.Behind.{fails_behind, fails_here}
use Rattle.pc_grammar.specs.Statements.{SpellsStmt, SpellsParts, none, more}
use Rattle.pc_parse.specs.Statements.{Spells, NoElse, Closes, AtClose, StmtTakes, StmtFails, SomeTakes, PartsTakes, PartsFails}
use Rattle.pc_parse.proofs.Ends.{closes_same, not_closing, parts_not_else, stmt_begins}
use Rattle.pc_parse.proofs.StatementUnique.{parts_after, unique_stmt}

-- what has been read of statements: whatever comes of the rest comes of the whole
pub record PartsSoFar (source : List ℕ) (room : ℕ) (ts : List Token) (items : List (Stmt Word)) (left : List Token) : Type 0 where
  pub takes : (all : List (Stmt Word)) (r : List Token) → PartsTakes source room left all r → PartsTakes source room ts (items ++ all) r
  pub fails : (n : ℕ) → PartsFails source room left n → PartsFails source room ts n

pub parts_begin : (source : List ℕ) (room : ℕ) (ts : List Token) → PartsSoFar source room ts [] ts
parts_begin source room ts = record { takes = λ all r t. t; fails = λ n f. f }

-- statements that aren't at their end begin with one
opened : (source : List ℕ) (room less : ℕ) (others : List Token) (c : List (Stmt Word)) (r : List Token) → room ≡ suc less → (Closes (first others) → ⊥) → PartsTakes source room others c r →
    (p : Bool × Stmt Word) × (back : List Token) × StmtTakes source less others p back × (rest : List (Stmt Word)) × PartsTakes source room back rest r
opened source room less others c r deep other t =
    let k = parts_after t.spelled others r t.stops other (sym t.whole) in
    let here : k.less ≡ less = let p : suc less ≡ suc k.less = sym deep ∙ k.deep in cc in (
      (k.open_front, k.s),
      k.v ++ r,
      record { used = k.w; whole = k.whole; spelled = subst (λ n. SpellsStmt source n k.open_front k.w k.s) here k.front; stops = λ o. parts_not_else k.back r t.stops },
      k.others,
      record { used = k.v; whole = refl; spelled = k.back; stops = t.stops },
    )

more_parts : (source : List ℕ) (room less : ℕ) (dangling : Bool) (w v : List Token) (s : Stmt Word) (all : List (Stmt Word)) → room ≡ suc less → SpellsStmt source less dangling w s → SpellsParts source room v all → SpellsParts source room (w ++ v) (s ∷ all)
more_parts source room less dangling w v s all deep d ds = subst (λ n. SpellsParts source n (w ++ v) (s ∷ all)) (sym deep) (more d (subst (λ n. SpellsParts source n v all) deep ds))

go_on : (source : List ℕ) (room less : ℕ) (ts : List Token) (items : List (Stmt Word)) (left : List Token) (s : Stmt Word) (after : List Token) (longer : List (Stmt Word)) → room ≡ suc less →
    PartsSoFar source room ts items left → SomeTakes source less left s after → longer ≡ items ++ s ∷ [] → PartsSoFar source room ts longer after
go_on source room less ts items left s after longer deep so p grows = record {
  takes = λ all r t. subst (λ x. PartsTakes source room ts x r) (sym (ap (λ x. x ++ all) grows ∙ append_assoc items (s ∷ []) all))
      (so.takes (s ∷ all) r (record {
        used = p.takes.used ++ t.used;
        whole = p.takes.whole ∙ ap (λ x. p.takes.used ++ x) t.whole ∙ sym (append_assoc p.takes.used t.used r);
        spelled = more_parts source room less p.dangling p.takes.used t.used s all deep p.takes.spelled t.spelled;
        stops = t.stops;
      }));
  fails = λ n f. so.fails n (fails_behind (SpellsParts source room) AtClose (SpellsParts source room) AtClose p.takes.used after left n p.takes.whole f
      (λ v all d. ([], s ∷ all, subst (λ x. SpellsParts source room x (s ∷ all)) (sym (append-nil (p.takes.used ++ v))) (more_parts source room less p.dangling p.takes.used v s all deep p.takes.spelled d)))
      (λ others c r _ same t.
      let k = opened source room less (p.takes.used ++ others) c r deep (not_closing p.takes.spelled others) t in
      let u = unique_stmt p.takes.spelled k.2.used k.0.0 k.0.1 others k.1 (λ o h. p.takes.stops o (sym same ∙ h)) k.2.spelled k.2.stops k.2.whole in
      (k.3, r, subst (λ x. PartsTakes source room x k.3 r) (sym u.0) k.4)));
}

pub parts_go_on : (source : List ℕ) (room : ℕ) (ts : List Token) (items : List (Stmt Word)) (left : List Token) (s : Stmt Word) (after : List Token) (longer : List (Stmt Word)) → (room ≡ 0 → ⊥) →
    PartsSoFar source room ts items left → SomeTakes source (room - 1) left s after → longer ≡ items ++ s ∷ [] → PartsSoFar source room ts longer after
parts_go_on source room ts items left s after longer deep so p grows = go_on source room (room - 1) ts items left s after longer (omega arith) so p grows

parts_fail : (source : List ℕ) (room less : ℕ) (ts : List Token) (items : List (Stmt Word)) (left : List Token) (n : ℕ) → room ≡ suc less → PartsSoFar source room ts items left → (Closes (first left) → ⊥) → StmtFails source less left n → PartsFails source room ts n
parts_fail source room less ts items left n deep so other f = so.fails n (fails_behind (Spells source less) NoElse (SpellsParts source room) AtClose [] left left n refl f
    (λ v p d. ([], p.1 ∷ [], more_parts source room less p.0 v [] p.1 [] deep d none))
    (λ others c r _ same t. let k = opened source room less others c r deep (λ h. other (closes_same others left same h)) t in (k.0, k.1, k.2)))

pub parts_refuse : (source : List ℕ) (room : ℕ) (ts : List Token) (items : List (Stmt Word)) (left : List Token) (f : Failure) → (room ≡ 0 → ⊥) → PartsSoFar source room ts items left → (Closes (first left) → ⊥) → Refuses (StmtFails source (room - 1)) left f → Refuses (PartsFails source room) ts f
parts_refuse source room ts items left (Broken n) deep so other f = parts_fail source room (room - 1) ts items left n (omega arith) so other f
parts_refuse source room ts items left Memory deep so other f = tt

pub parts_too_deep : (source : List ℕ) (room : ℕ) (ts : List Token) (items : List (Stmt Word)) (left : List Token) → room ≡ 0 → PartsSoFar source room ts items left → (Closes (first left) → ⊥) → PartsFails source room ts (length left)
parts_too_deep source room ts items left flat so other = so.fails (length left)
    (fails_here (SpellsParts source room) AtClose [] left left refl ([], [], none)
    (λ others c r same t.
    let k = parts_after t.spelled others r t.stops (λ h. other (closes_same others left same h)) (sym t.whole) in
    let a : room ≡ suc k.less = k.deep in omega arith))

pub parts_end : (source : List ℕ) (room : ℕ) (ts : List Token) (items : List (Stmt Word)) (left : List Token) → PartsSoFar source room ts items left → Closes (first left) → PartsTakes source room ts items left
parts_end source room ts items left so at = subst (λ x. PartsTakes source room ts x left) (append-nil items) (so.takes [] left (record { used = []; whole = refl; spelled = none; stops = at }))

pub stmt_shorter : (source : List ℕ) (room : ℕ) (ts : List Token) (s : Stmt Word) (rest : List Token) → SomeTakes source room ts s rest → length rest < length ts
stmt_shorter source room ts s rest p =
    let b = stmt_begins p.takes.spelled [] in
    let used : length (p.takes.used ++ []) ≡ suc (length b.1) = ap length b.2 in
    omega (arith, length-append p.takes.used rest, length-append p.takes.used [], ap length p.takes.whole)

pub ruleset parts_steps = (parts_begin, parts_go_on, parts_refuse, parts_too_deep, parts_end, stmt_shorter)
