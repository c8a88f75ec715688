-- One lemma for each way on which the parser of an `if` answers.
use Rattle.std.proofs.Common.{◌≡◌, ℕ, suc, ◌+◌, ◌-◌, Bool, true, false, List, [], ◌∷◌, ◌++◌, ◌⊎◌, ⊎_elim, Some, None, length, refl, sym, ap, subst, ◌∙◌, append_assoc, append-nil, arith}
use Rattle.pc_grammar.specs.declared.tokens.Sort.TheVariants.{Semicolon, IfWord, ElseWord}
use Rattle.pc_grammar.specs.declared.tokens.Token.{Token}
use Rattle.pc_grammar.specs.declared.expressions.Word.{Word}
use Rattle.pc_grammar.specs.declared.expressions.Expr.{Expr}
use Rattle.pc_grammar.specs.declared.statements.Stmt.{Stmt}
use Rattle.pc_grammar.specs.declared.statements.Stmt.TheVariants.{Skip, If}
use Rattle.pc_parse.specs.declared.reading.Failure.{Failure}
use Rattle.pc_parse.specs.declared.reading.Failure.TheVariants.{Broken, Memory}
use Rattle.pc_grammar.specs.declared.marks.Pair.TheVariants.{Parentheses}
use Rattle.pc_grammar.specs.Refusing.{first}
use Rattle.pc_parse.specs.Reading.{Comes, Refuses, Always}
use Rattle.pc_grammar.specs.Expressions.{SpellsBetween}
use Rattle.pc_parse.specs.Expressions.{BetweenTakes, BetweenFails}
use Rattle.pc_parse.proofs.Behind.{fails_behind}
use Rattle.pc_parse.proofs.Operands.{some_token}
use Rattle.pc_parse.proofs.Unique.{unique_between}
use Rattle.pc_parse.specs.declared.simple.StatementOpening.TheVariants.{If as IfBeginning}
use Rattle.pc_parse.specs.Simple.{beginning_of}
use Rattle.pc_grammar.specs.Statements.{SpellsStmt, if_open, if_else}
use Rattle.pc_parse.specs.Statements.{Spells, NoElse, StmtTakes, StmtFails, SomeTakes}
use Rattle.pc_parse.proofs.Ends.{if_begins}
use Rattle.pc_parse.proofs.StatementUnique.{PlainAfter, ElseAfter, stmt_as, unique_stmt}
use Rattle.pc_parse.proofs.Steps.{closed_stops, deeper, complete, some_stmt, too_deep}

pub if_too_deep : (source : List ℕ) (room : ℕ) (t : Token) (i : List Token) → t.sort ≡ IfWord → room ≡ 0 → StmtFails source room (t ∷ i) (length i + 1)
if_too_deep source room t i word flat = too_deep source room IfBeginning t i (ap beginning_of word ∙ if_begins) (λ x others c r v. let a : room ≡ suc v.less = v.deep in omega arith)

pub test_refuses : (source : List ℕ) (room : ℕ) (t : Token) (i : List Token) (f : Failure) → t.sort ≡ IfWord → (room ≡ 0 → ⊥) → Refuses (BetweenFails source 64 Parentheses) i f → Refuses (StmtFails source room) (t ∷ i) f
test_refuses source room t i (Broken n) word some f =
    fails_behind (SpellsBetween source 64 Parentheses) Always (Spells source room) NoElse (t ∷ []) i (t ∷ i) n refl f
    (λ v e d. (some_token Semicolon ∷ [], (true, If e Skip None), deeper source room (t ∷ (v ++ some_token Semicolon ∷ [])) (true, If e Skip None) some (if_open t word d (some_stmt source (room - 1)))))
    (λ others c r _ same k.
    let v = stmt_as k.spelled IfBeginning t others r (ap beginning_of word ∙ if_begins) (sym k.whole) in
    (v.test, v.v ++ v.back, record { used = v.w; whole = v.whole; spelled = v.front; stops = tt }))
test_refuses source room t i Memory word some f = tt

-- in front of what comes after the first part, that part is at its end
part_stops : (source : List ℕ) (less : ℕ) (dangling : Bool) (p : Bool × Stmt Word) (test : Expr Word) (part : Stmt Word) (back rest : List Token) → NoElse p rest → PlainAfter p test part back rest ⊎ ElseAfter source less dangling p test part back rest → NoElse (dangling, part) back
part_stops source less dangling p test part back rest ends tail =
    ⊎_elim (λ plain o h. ends plain.is_open (ap first (sym plain.at) ∙ h)) (λ other o h. let c : false ≡ true = sym other.closed ∙ o in cc) tail

-- an `if`, where its condition is known
record Opened (source : List ℕ) (less : ℕ) (others : List Token) (c : Bool × Stmt Word) (r : List Token) : Type 0 where
  pub p : Bool × Stmt Word
  pub back : List Token
  pub part : StmtTakes source less others p back
  pub test : Expr Word
  pub tail : PlainAfter c test p.1 back r ⊎ ElseAfter source less p.0 c test p.1 back r

if_opened : (source : List ℕ) (room : ℕ) (t : Token) (i : List Token) (test : Expr Word) (j : List Token) (h : BetweenTakes source 64 Parentheses i test j) (others : List Token) (c : Bool × Stmt Word) (r : List Token) → t.sort ≡ IfWord → (room ≡ 0 → ⊥) →
    StmtTakes source room ((t ∷ h.used) ++ others) c r → Opened source (room - 1) others c r
if_opened source room t i test j h others c r word some k =
    let v = stmt_as k.spelled IfBeginning t (h.used ++ others) r (ap beginning_of word ∙ if_begins) (sym k.whole) in
    let same : v.less ≡ room - 1 = let p : room ≡ suc v.less = v.deep in omega arith in
    let u = unique_between h.spelled v.w v.test others (v.v ++ v.back) v.front v.whole in
    record {
      p = (v.open_yes, v.yes);
      back = v.back;
      part = record { used = v.v; whole = u.0; spelled = subst (λ n. SpellsStmt source n v.open_yes v.v v.yes) same v.part; stops = part_stops source v.less v.open_yes c v.test v.yes v.back r k.stops v.tail };
      test = v.test;
      tail = subst (λ n. PlainAfter c v.test v.yes v.back r ⊎ ElseAfter source n v.open_yes c v.test v.yes v.back r) same v.tail;
    }

pub yes_refuses : (source : List ℕ) (room : ℕ) (t : Token) (i : List Token) (test : Expr Word) (j : List Token) (f : Failure) → t.sort ≡ IfWord → (room ≡ 0 → ⊥) → BetweenTakes source 64 Parentheses i test j → Refuses (StmtFails source (room - 1)) j f → Refuses (StmtFails source room) (t ∷ i) f
yes_refuses source room t i test j (Broken n) word some h f =
    fails_behind (Spells source (room - 1)) NoElse (Spells source room) NoElse (t ∷ h.used) j (t ∷ i) n (ap (λ x. t ∷ x) h.whole) f
    (λ v p d. complete source room (t ∷ (h.used ++ v)) (true, If test p.1 None) (deeper source room (t ∷ (h.used ++ v)) (true, If test p.1 None) some (if_open t word h.spelled d)))
    (λ others c r _ same k. let o = if_opened source room t i test j h others c r word some k in (o.p, o.back, o.part))
yes_refuses source room t i test j Memory word some h f = tt

pub takes_if : (source : List ℕ) (room : ℕ) (t : Token) (i : List Token) (test : Expr Word) (j : List Token) (part : Stmt Word) (k : List Token) → t.sort ≡ IfWord → (room ≡ 0 → ⊥) → BetweenTakes source 64 Parentheses i test j → SomeTakes source (room - 1) j part k → (first k ≡ Some ElseWord → ⊥) → SomeTakes source room (t ∷ i) (If test part None) k
takes_if source room t i test j part k word some h p other = record {
  dangling = true;
  takes = record {
    used = t ∷ (h.used ++ p.takes.used);
    whole = ap (λ x. t ∷ x) (h.whole ∙ ap (λ x. h.used ++ x) p.takes.whole ∙ sym (append_assoc h.used p.takes.used k));
    spelled = deeper source room (t ∷ (h.used ++ p.takes.used)) (true, If test part None) some (if_open t word h.spelled p.takes.spelled);
    stops = λ o. other;
  };
}

-- before an `else` stands a closed statement
closed_before : (source : List ℕ) (less : ℕ) (j : List Token) (part : Stmt Word) (k l : List Token) → (p : SomeTakes source less j part k) → Comes ElseWord k l → SpellsStmt source less false p.takes.used part
closed_before source less j part k l p x = subst (λ b. SpellsStmt source less b p.takes.used part) (by_cases p.dangling refl) p.takes.spelled
  where
    by_cases : (b : Bool) → p.dangling ≡ b → p.dangling ≡ false
    by_cases false e = e
    by_cases true e = absurd (p.takes.stops e (ap first x.whole ∙ ap Some x.is))

pub takes_if_else : (source : List ℕ) (room : ℕ) (t : Token) (i : List Token) (test : Expr Word) (j : List Token) (part : Stmt Word) (k l : List Token) (other : Stmt Word) (rest : List Token) → t.sort ≡ IfWord → (room ≡ 0 → ⊥) → BetweenTakes source 64 Parentheses i test j → SomeTakes source (room - 1) j part k → Comes ElseWord k l → SomeTakes source (room - 1) l other rest → SomeTakes source room (t ∷ i) (If test part (Some other)) rest
takes_if_else source room t i test j part k l other rest word some h p x q =
    let a = closed_before source (room - 1) j part k l p x in
    record {
      dangling = q.dangling;
      takes = record {
        used = t ∷ (h.used ++ (p.takes.used ++ x.token ∷ q.takes.used));
        whole = ap (λ y. t ∷ y) (h.whole ∙ ap (λ y. h.used ++ y) (p.takes.whole ∙ ap (λ y. p.takes.used ++ y) (x.whole ∙ ap (λ y. x.token ∷ y) q.takes.whole) ∙ sym (append_assoc p.takes.used (x.token ∷ q.takes.used) rest)) ∙ sym (append_assoc h.used (p.takes.used ++ x.token ∷ q.takes.used) rest));
        spelled = deeper source room (t ∷ (h.used ++ (p.takes.used ++ x.token ∷ q.takes.used))) (q.dangling, If test part (Some other)) some (if_else t x.token word x.is h.spelled a q.takes.spelled);
        stops = q.takes.stops;
      };
    }

no_fails : (source : List ℕ) (room : ℕ) (t : Token) (i : List Token) (test : Expr Word) (j : List Token) (part : Stmt Word) (k l : List Token) (n : ℕ) → t.sort ≡ IfWord → (room ≡ 0 → ⊥) → BetweenTakes source 64 Parentheses i test j → SomeTakes source (room - 1) j part k → Comes ElseWord k l → StmtFails source (room - 1) l n → StmtFails source room (t ∷ i) n
no_fails source room t i test j part k l n word some h p x f =
    let a = closed_before source (room - 1) j part k l p x in
    let regroup = λ (v : List Token). append_assoc (t ∷ h.used) (p.takes.used ++ x.token ∷ []) v ∙ ap (λ y. (t ∷ h.used) ++ y) (append_assoc p.takes.used (x.token ∷ []) v) in
    fails_behind (Spells source (room - 1)) NoElse (Spells source room) NoElse ((t ∷ h.used) ++ (p.takes.used ++ x.token ∷ [])) l (t ∷ i) n
    (ap (λ y. t ∷ y) (h.whole ∙ ap (λ y. h.used ++ y) (p.takes.whole ∙ ap (λ y. p.takes.used ++ y) x.whole)) ∙ sym (regroup l)) f
    (λ v q d. ([], (q.0, If test part (Some q.1)), subst (λ y. SpellsStmt source room q.0 y (If test part (Some q.1))) (sym (append-nil (((t ∷ h.used) ++ (p.takes.used ++ x.token ∷ [])) ++ v) ∙ regroup v)) (deeper source room (t ∷ (h.used ++ (p.takes.used ++ x.token ∷ v))) (q.0, If test part (Some q.1)) some (if_else t x.token word x.is h.spelled a d))))
    (λ others c r _ same m.
    let o = if_opened source room t i test j h (p.takes.used ++ x.token ∷ others) c r word some (subst (λ y. StmtTakes source room y c r) (regroup others) m) in
    let u = unique_stmt a o.part.used o.p.0 o.p.1 (x.token ∷ others) o.back (closed_stops part (x.token ∷ others)) o.part.spelled o.part.stops o.part.whole in
    let behind : x.token ∷ others ≡ o.back = u.0 in
    ⊎_elim
    (λ plain. absurd (m.stops plain.is_open (ap first (sym (behind ∙ plain.at)) ∙ ap Some x.is)))
    (λ other. let tails : x.token ∷ others ≡ other.x ∷ (other.u ++ r) = behind ∙ other.at in
    ((c.0, other.other), r, record { used = other.u; whole = cc; spelled = other.second; stops = m.stops }))
    o.tail)

pub no_refuses : (source : List ℕ) (room : ℕ) (t : Token) (i : List Token) (test : Expr Word) (j : List Token) (part : Stmt Word) (k l : List Token) (f : Failure) → t.sort ≡ IfWord → (room ≡ 0 → ⊥) → BetweenTakes source 64 Parentheses i test j → SomeTakes source (room - 1) j part k → Comes ElseWord k l → Refuses (StmtFails source (room - 1)) l f → Refuses (StmtFails source room) (t ∷ i) f
no_refuses source room t i test j part k l (Broken n) word some h p x f = no_fails source room t i test j part k l n word some h p x f
no_refuses source room t i test j part k l Memory word some h p x f = tt

pub ruleset branch_steps = (if_too_deep, test_refuses, yes_refuses, takes_if, takes_if_else, no_refuses)
