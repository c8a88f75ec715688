-- One lemma for each way on which the parsers of a statement, a loop and an abort answer.
use Rattle.std.proofs.Common.{◌≡◌, ℕ, suc, ◌+◌, ◌-◌, Bool, true, false, List, [], ◌∷◌, ◌++◌, Option, Some, length, refl, sym, ap, subst, ◌∙◌, append_assoc, append-nil, arith}
use Rattle.pc_grammar.specs.declared.tokens.Sort.{Sort}
use Rattle.pc_grammar.specs.declared.tokens.Sort.TheVariants.{Semicolon, WhileWord, AbortWord, WeakWord, CloseBrace}
use Rattle.pc_grammar.specs.declared.tokens.Token.{Token}
use Rattle.pc_grammar.specs.declared.expressions.Word.{Word}
use Rattle.pc_grammar.specs.declared.expressions.Expr.{Expr}
use Rattle.pc_grammar.specs.declared.expressions.Expr.TheVariants.{Number}
use Rattle.pc_grammar.specs.declared.statements.Stmt.{Stmt}
use Rattle.pc_grammar.specs.declared.statements.Stmt.TheVariants.{Skip, Block, While, Abort}
use Rattle.pc_parse.specs.declared.reading.Failure.{Failure}
use Rattle.pc_parse.specs.declared.reading.Failure.TheVariants.{Broken, Memory}
use Rattle.pc_grammar.specs.Refusing.{first, IsViable}
use Rattle.pc_parse.specs.Reading.{Comes, Refuses, Always}
use Rattle.pc_parse.proofs.Behind.{fails_behind, fails_here}
use Rattle.pc_parse.proofs.Operands.{some_token}
use Rattle.pc_parse.specs.declared.simple.StatementOpening.{StatementOpening}
use Rattle.pc_parse.specs.declared.simple.StatementOpening.TheVariants.{Block as BlockBeginning, If as IfBeginning, While as WhileBeginning, Abort as AbortBeginning, Weak as WeakBeginning, Nothing as NothingBeginning}
use Rattle.pc_grammar.specs.Settings.{SpellsLoop, SpellsTest}
use Rattle.pc_parse.specs.Settings.{NoHash, LoopTakes, LoopFails, TestTakes, TestFails}
use Rattle.pc_grammar.specs.Simple.{SpellsSimple, skip}
use Rattle.pc_parse.specs.Simple.{beginning_of, SimpleTakes, SimpleFails}
use Rattle.pc_parse.proofs.Loops.{unique_loop, some_test}
use Rattle.pc_grammar.specs.Statements.{SpellsStmt, simple, block, while, abort, weak_abort, SpellsAborted, aborted, SpellsParts}
use Rattle.pc_parse.specs.Statements.{Spells, NoElse, AtClose, StmtTakes, StmtFails, SomeTakes, AbortedTakes, AbortedFails, PartsTakes, PartsFails}
use Rattle.pc_parse.proofs.Ends.{is_brace, while_begins, abort_begins, weak_begins, closes_same, stmt_begins}
use Rattle.pc_parse.proofs.StatementUnique.{StmtAfter, stmt_after, stmt_as, aborted_parts, when_not_else, brace_closes, no_hash, unique_stmt, unique_parts}

pub closed_stops : (s : Stmt Word) (r : List Token) → NoElse (false, s) r
closed_stops s r h = cc

-- what is read one level deeper
pub deeper : (source : List ℕ) (room : ℕ) (w : List Token) (p : Bool × Stmt Word) → (room ≡ 0 → ⊥) → Spells source (suc (room - 1)) w p → Spells source room w p
deeper source room w p some d = let at : suc (room - 1) ≡ room = omega arith in subst (λ n. Spells source n w p) at d

pub some_stmt : (source : List ℕ) (room : ℕ) → SpellsStmt source room false (some_token Semicolon ∷ []) Skip
some_stmt source room = simple (skip (some_token Semicolon) refl)

pub complete : (source : List ℕ) (room : ℕ) (w : List Token) (p : Bool × Stmt Word) → Spells source room w p → IsViable (Spells source room) w
complete source room w p d = ([], p, subst (λ x. Spells source room x p) (sym (append-nil w)) d)

-- ---- statements without statements in them

pub plain_takes : (source : List ℕ) (room : ℕ) (tokens : List Token) (s : Stmt Word) (rest : List Token) → SimpleTakes source tokens s rest → SomeTakes source room tokens s rest
plain_takes source room tokens s rest h = record { dangling = false; takes = record { used = h.used; whole = h.whole; spelled = simple h.spelled; stops = closed_stops s rest } }

-- what begins no statement with statements in it
pub record IsPlain (b : StatementOpening) : Type 0 where
  pub not_block : b ≡ BlockBeginning → ⊥
  pub not_if : b ≡ IfBeginning → ⊥
  pub not_while : b ≡ WhileBeginning → ⊥
  pub not_abort : b ≡ AbortBeginning → ⊥
  pub not_weak : b ≡ WeakBeginning → ⊥

plain_of : (source : List ℕ) (room : ℕ) (b : StatementOpening) (t : Token) (i : List Token) (p : Bool × Stmt Word) (rest : List Token) → IsPlain b → StmtAfter source room b t i p rest → SimpleTakes source (t ∷ i) p.1 rest
plain_of source room BlockBeginning t i p rest plain v = absurd (plain.not_block refl)
plain_of source room IfBeginning t i p rest plain v = absurd (plain.not_if refl)
plain_of source room WhileBeginning t i p rest plain v = absurd (plain.not_while refl)
plain_of source room AbortBeginning t i p rest plain v = absurd (plain.not_abort refl)
plain_of source room WeakBeginning t i p rest plain v = absurd (plain.not_weak refl)
plain_of source room NothingBeginning t i p rest plain v = absurd v
plain_of source room _ t i p rest plain v = v.takes

plain_down : (source : List ℕ) (room : ℕ) (s : Sort) (others : List Token) (c : Bool × Stmt Word) (r : List Token) → IsPlain (beginning_of s) → first others ≡ Some s → StmtTakes source room others c r → SimpleTakes source others c.1 r
plain_down source room s [] c r plain at k = cc
plain_down source room s (x ∷ xs) c r plain at k =
    let here : s ≡ x.sort = let p : Some x.sort ≡ Some s = at in cc in
    plain_of source room (beginning_of x.sort) x xs c r (subst (λ y. IsPlain (beginning_of y)) here plain) (stmt_after k.spelled x xs r (sym k.whole))

pub plain_refuses : (source : List ℕ) (room : ℕ) (b : StatementOpening) (tokens : List Token) (t : Token) (i : List Token) (f : Failure) → tokens ≡ t ∷ i → b ≡ beginning_of t.sort → IsPlain b → Refuses (SimpleFails source) tokens f → Refuses (StmtFails source room) tokens f
plain_refuses source room b tokens t i (Broken n) eq is plain f =
    fails_behind (SpellsSimple source) Always (Spells source room) NoElse [] tokens tokens n refl f
    (λ v s d. complete source room v (false, s) (simple d))
    (λ others c r at _ k. (c.1, r, plain_down source room t.sort others c r (subst IsPlain is plain) (at ∙ ap first eq) k))
plain_refuses source room b tokens t i Memory eq is plain f = tt

pub fails_empty : (source : List ℕ) (room : ℕ) (tokens : List Token) → tokens ≡ [] → StmtFails source room tokens (length tokens)
fails_empty source room tokens eq =
    fails_here (Spells source room) NoElse [] tokens tokens refl (some_token Semicolon ∷ [], (false, Skip), some_stmt source room)
    (λ others c r same k.
    let b = stmt_begins k.spelled r in
    let a : Option.None ≡ Some b.0.sort = sym (same ∙ ap first eq) ∙ ap first (k.whole ∙ b.2) in cc)

-- ---- blocks

pub takes_block : (source : List ℕ) (room : ℕ) (tokens : List Token) (t : Token) (i : List Token) (all : List (Stmt Word)) (r last : List Token) → tokens ≡ t ∷ i → beginning_of t.sort ≡ BlockBeginning → PartsTakes source room i all r → Comes CloseBrace r last → SomeTakes source room tokens (Block all) last
takes_block source room tokens t i all r last eq is h b = record {
  dangling = false;
  takes = record {
    used = t ∷ (h.used ++ b.token ∷ []);
    whole = eq ∙ ap (λ x. t ∷ x) (h.whole ∙ ap (λ x. h.used ++ x) b.whole ∙ sym (append_assoc h.used (b.token ∷ []) last));
    spelled = block t b.token (is_brace t.sort is) b.is h.spelled;
    stops = closed_stops (Block all) last;
  };
}

parts_inside : (source : List ℕ) (room : ℕ) (t : Token) (others : List Token) (c : Bool × Stmt Word) (r : List Token) → beginning_of t.sort ≡ BlockBeginning → StmtTakes source room (t ∷ others) c r →
    (all : List (Stmt Word)) × (last : Token) × (last.sort ≡ CloseBrace) × PartsTakes source room others all (last ∷ r)
parts_inside source room t others c r is k =
    let v = stmt_as k.spelled BlockBeginning t others r is (sym k.whole) in
    (v.all, v.last, v.closes, record { used = v.w; whole = v.whole; spelled = v.inner; stops = brace_closes v.last r v.closes })

pub block_refuses : (source : List ℕ) (room : ℕ) (tokens : List Token) (t : Token) (i : List Token) (f : Failure) → tokens ≡ t ∷ i → beginning_of t.sort ≡ BlockBeginning → Refuses (PartsFails source room) i f → Refuses (StmtFails source room) tokens f
block_refuses source room tokens t i (Broken n) eq is f =
    fails_behind (SpellsParts source room) AtClose (Spells source room) NoElse (t ∷ []) i tokens n eq f
    (λ v all d. (some_token CloseBrace ∷ [], (false, Block all), block t (some_token CloseBrace) (is_brace t.sort is) refl d))
    (λ others c r _ same k. let v = parts_inside source room t others c r is k in (v.0, v.1 ∷ r, v.3))
block_refuses source room tokens t i Memory eq is f = tt

pub block_not_closed : (source : List ℕ) (room : ℕ) (tokens : List Token) (t : Token) (i : List Token) (all : List (Stmt Word)) (r : List Token) → tokens ≡ t ∷ i → beginning_of t.sort ≡ BlockBeginning → PartsTakes source room i all r → (first r ≡ Some CloseBrace → ⊥) → StmtFails source room tokens (length r)
block_not_closed source room tokens t i all r eq is h other =
    fails_here (Spells source room) NoElse (t ∷ h.used) r tokens (eq ∙ ap (λ x. t ∷ x) h.whole)
    (some_token CloseBrace ∷ [], (false, Block all), block t (some_token CloseBrace) (is_brace t.sort is) refl h.spelled)
    (λ others c end same k.
    let v = parts_inside source room t (h.used ++ others) c end is k in
    let u = unique_parts h.spelled v.3.used v.0 others (v.1 ∷ end) (closes_same r others (sym same) h.stops) v.3.spelled v.3.stops v.3.whole in
    other (sym same ∙ ap first u.0 ∙ ap Some v.2))

pub ruleset stmt_steps = (plain_takes, fails_empty, takes_block, block_refuses, block_not_closed)

-- ---- a word that begins a statement, where the limit is reached

pub too_deep : (source : List ℕ) (room : ℕ) (b : StatementOpening) (t : Token) (i : List Token) → beginning_of t.sort ≡ b → ((x : Token) (others : List Token) (c : Bool × Stmt Word) (r : List Token) → StmtAfter source room b x others c r → ⊥) → StmtFails source room (t ∷ i) (length i + 1)
too_deep source room b t i is never =
    let at : length (t ∷ i) ≡ length i + 1 = omega arith in
    subst (λ n. StmtFails source room (t ∷ i) n) at
    (fails_here (Spells source room) NoElse [] (t ∷ i) (t ∷ i) refl (some_token Semicolon ∷ [], (false, Skip), some_stmt source room)
    (λ others c r same k. stuck others c r same k))
  where
    stuck : (others : List Token) (c : Bool × Stmt Word) (r : List Token) → first others ≡ Some t.sort → StmtTakes source room others c r → ⊥
    stuck [] c r same k = cc
    stuck (x ∷ xs) c r same k =
        let here : x.sort ≡ t.sort = cc in
        never x xs c r (stmt_as k.spelled b x xs r (ap beginning_of here ∙ is) (sym k.whole))

-- ---- loops

pub loop_too_deep : (source : List ℕ) (room : ℕ) (t : Token) (i : List Token) → t.sort ≡ WhileWord → room ≡ 0 → StmtFails source room (t ∷ i) (length i + 1)
loop_too_deep source room t i word flat = too_deep source room WhileBeginning t i (ap beginning_of word ∙ while_begins) (λ x others c r v. let a : room ≡ suc v.less = v.deep in omega arith)

pub head_refuses : (source : List ℕ) (room : ℕ) (t : Token) (i : List Token) (f : Failure) → t.sort ≡ WhileWord → (room ≡ 0 → ⊥) → Refuses (LoopFails source) i f → Refuses (StmtFails source room) (t ∷ i) f
head_refuses source room t i (Broken n) word some f =
    fails_behind (SpellsLoop source) NoHash (Spells source room) NoElse (t ∷ []) i (t ∷ i) n refl f
    (λ v q d. (some_token Semicolon ∷ [], (false, While t.span q.0 q.1 Skip), deeper source room (t ∷ (v ++ some_token Semicolon ∷ [])) (false, While t.span q.0 q.1 Skip) some (while t word d (some_stmt source (room - 1)))))
    (λ others c r _ same k.
    let v = stmt_as k.spelled WhileBeginning t others r (ap beginning_of word ∙ while_begins) (sym k.whole) in
    (v.q, v.v ++ r, record { used = v.w; whole = v.whole; spelled = v.front; stops = no_hash v.part r v.q }))
head_refuses source room t i Memory word some f = tt

pub body_refuses : (source : List ℕ) (room : ℕ) (t : Token) (i : List Token) (q : Expr Word × Option ℕ) (j : List Token) (f : Failure) → t.sort ≡ WhileWord → (room ≡ 0 → ⊥) → LoopTakes source i q j → Refuses (StmtFails source (room - 1)) j f → Refuses (StmtFails source room) (t ∷ i) f
body_refuses source room t i q j (Broken n) word some h f =
    fails_behind (Spells source (room - 1)) NoElse (Spells source room) NoElse (t ∷ h.used) j (t ∷ i) n (ap (λ x. t ∷ x) h.whole) f
    (λ v p d. complete source room (t ∷ (h.used ++ v)) (p.0, While t.span q.0 q.1 p.1) (deeper source room (t ∷ (h.used ++ v)) (p.0, While t.span q.0 q.1 p.1) some (while t word h.spelled d)))
    (λ others c r _ same k.
    let v = stmt_as k.spelled WhileBeginning t (h.used ++ others) r (ap beginning_of word ∙ while_begins) (sym k.whole) in
    let here : v.less ≡ room - 1 = let p : room ≡ suc v.less = v.deep in omega arith in
    let u = unique_loop h.spelled v.w v.q others (v.v ++ r) (λ o x. h.stops o (sym same ∙ x)) v.front (no_hash v.part r v.q) v.whole in
    ((c.0, v.body), r, record { used = v.v; whole = u.0; spelled = subst (λ n. SpellsStmt source n c.0 v.v v.body) here v.part; stops = k.stops }))
body_refuses source room t i q j Memory word some h f = tt

pub takes_loop : (source : List ℕ) (room : ℕ) (t : Token) (i : List Token) (test : Expr Word) (most : Option ℕ) (j : List Token) (body : Stmt Word) (k : List Token) → t.sort ≡ WhileWord → (room ≡ 0 → ⊥) →
    LoopTakes source i (test, most) j → SomeTakes source (room - 1) j body k → SomeTakes source room (t ∷ i) (While t.span test most body) k
takes_loop source room t i test most j body k word some h p = record {
  dangling = p.dangling;
  takes = record {
    used = t ∷ (h.used ++ p.takes.used);
    whole = ap (λ x. t ∷ x) (h.whole ∙ ap (λ x. h.used ++ x) p.takes.whole ∙ sym (append_assoc h.used p.takes.used k));
    spelled = deeper source room (t ∷ (h.used ++ p.takes.used)) (p.dangling, While t.span test most body) some (while t word h.spelled p.takes.spelled);
    stops = p.takes.stops;
  };
}

pub ruleset repetition_steps = (loop_too_deep, head_refuses, body_refuses, takes_loop)

-- ---- aborts

pub takes_aborted : (source : List ℕ) (room : ℕ) (tokens : List Token) (body : Stmt Word) (j : List Token) (test : Expr Word) (last : List Token) → SomeTakes source room tokens body j → TestTakes source j test last → AbortedTakes source room tokens (body, test) last
takes_aborted source room tokens body j test last p h = record {
  used = p.takes.used ++ h.used;
  whole = p.takes.whole ∙ ap (λ x. p.takes.used ++ x) h.whole ∙ sym (append_assoc p.takes.used h.used last);
  spelled = aborted p.takes.spelled h.spelled;
  stops = tt;
}

pub aborted_body_refuses : (source : List ℕ) (room : ℕ) (tokens : List Token) (f : Failure) → Refuses (StmtFails source room) tokens f → Refuses (AbortedFails source room) tokens f
aborted_body_refuses source room tokens (Broken n) f =
    fails_behind (Spells source room) NoElse (SpellsAborted source room) Always [] tokens tokens n refl f
    (λ v p d. ((some_test source).0, (p.1, Number 0), aborted d (some_test source).1))
    (λ others c r _ same k.
    let v = aborted_parts k.spelled in
    ((v.dangling, c.0), v.back ++ r, record { used = v.front; whole = k.whole ∙ ap (λ x. x ++ r) v.whole ∙ append_assoc v.front v.back r; spelled = v.body; stops = λ o. when_not_else v.test r }))
aborted_body_refuses source room tokens Memory f = tt

pub aborted_test_refuses : (source : List ℕ) (room : ℕ) (tokens : List Token) (body : Stmt Word) (j : List Token) (f : Failure) → SomeTakes source room tokens body j → Refuses (TestFails source) j f → Refuses (AbortedFails source room) tokens f
aborted_test_refuses source room tokens body j (Broken n) p f =
    fails_behind (SpellsTest source) Always (SpellsAborted source room) Always p.takes.used j tokens n p.takes.whole f
    (λ v e d. ([], (body, e), subst (λ x. SpellsAborted source room x (body, e)) (sym (append-nil (p.takes.used ++ v))) (aborted p.takes.spelled d)))
    (λ others c r _ same k.
    let v = aborted_parts k.spelled in
    let u = unique_stmt p.takes.spelled v.front v.dangling c.0 others (v.back ++ r) (λ o x. p.takes.stops o (sym same ∙ x)) v.body (λ o. when_not_else v.test r) (k.whole ∙ ap (λ x. x ++ r) v.whole ∙ append_assoc v.front v.back r) in
    (c.1, r, record { used = v.back; whole = u.0; spelled = v.test; stops = tt }))
aborted_test_refuses source room tokens body j Memory p f = tt

pub ruleset aborted_steps = (takes_aborted, aborted_body_refuses, aborted_test_refuses)

pub abort_too_deep : (source : List ℕ) (room : ℕ) (t : Token) (i : List Token) → t.sort ≡ AbortWord → room ≡ 0 → StmtFails source room (t ∷ i) (length i + 1)
abort_too_deep source room t i word flat = too_deep source room AbortBeginning t i (ap beginning_of word ∙ abort_begins) (λ x others c r v. let a : room ≡ suc v.less = v.deep in omega arith)

pub takes_abort : (source : List ℕ) (room : ℕ) (t : Token) (i : List Token) (body : Stmt Word) (test : Expr Word) (last : List Token) → t.sort ≡ AbortWord → (room ≡ 0 → ⊥) → AbortedTakes source (room - 1) i (body, test) last → SomeTakes source room (t ∷ i) (Abort t.span false body test) last
takes_abort source room t i body test last word some h = record {
  dangling = false;
  takes = record {
    used = t ∷ h.used;
    whole = ap (λ x. t ∷ x) h.whole;
    spelled = deeper source room (t ∷ h.used) (false, Abort t.span false body test) some (abort t word h.spelled);
    stops = closed_stops (Abort t.span false body test) last;
  };
}

pub abort_refuses : (source : List ℕ) (room : ℕ) (t : Token) (i : List Token) (f : Failure) → t.sort ≡ AbortWord → (room ≡ 0 → ⊥) → Refuses (AbortedFails source (room - 1)) i f → Refuses (StmtFails source room) (t ∷ i) f
abort_refuses source room t i (Broken n) word some f =
    fails_behind (SpellsAborted source (room - 1)) Always (Spells source room) NoElse (t ∷ []) i (t ∷ i) n refl f
    (λ v q d. complete source room (t ∷ v) (false, Abort t.span false q.0 q.1) (deeper source room (t ∷ v) (false, Abort t.span false q.0 q.1) some (abort t word d)))
    (λ others c r _ same k.
    let v = stmt_as k.spelled AbortBeginning t others r (ap beginning_of word ∙ abort_begins) (sym k.whole) in
    let here : v.less ≡ room - 1 = let p : room ≡ suc v.less = v.deep in omega arith in
    (v.q, r, record { used = v.w; whole = v.whole; spelled = subst (λ n. SpellsAborted source n v.w v.q) here v.inner; stops = tt }))
abort_refuses source room t i Memory word some f = tt

pub ruleset abort_steps = (abort_too_deep, takes_abort, abort_refuses)

pub weak_too_deep : (source : List ℕ) (room : ℕ) (t : Token) (i : List Token) → t.sort ≡ WeakWord → room ≡ 0 → StmtFails source room (t ∷ i) (length i + 1)
weak_too_deep source room t i word flat = too_deep source room WeakBeginning t i (ap beginning_of word ∙ weak_begins) (λ x others c r v. let a : room ≡ suc v.behind.less = v.behind.deep in omega arith)

pub weak_without_abort : (source : List ℕ) (room : ℕ) (t : Token) (i : List Token) → t.sort ≡ WeakWord → (room ≡ 0 → ⊥) → (first i ≡ Some AbortWord → ⊥) → StmtFails source room (t ∷ i) (length i)
weak_without_abort source room t i word some other =
    let e : SpellsAborted source (room - 1) ((some_token Semicolon ∷ []) ++ (some_test source).0) (Skip, Number 0) = aborted (some_stmt source (room - 1)) (some_test source).1 in
    fails_here (Spells source room) NoElse (t ∷ []) i (t ∷ i) refl (
      some_token AbortWord ∷ ((some_token Semicolon ∷ []) ++ (some_test source).0),
      (false, Abort t.span true Skip (Number 0)),
      deeper source room (t ∷ some_token AbortWord ∷ ((some_token Semicolon ∷ []) ++ (some_test source).0)) (false, Abort t.span true Skip (Number 0)) some (weak_abort t (some_token AbortWord) word refl e),
    )
    (λ others c r same k.
    let v = stmt_as k.spelled WeakBeginning t others r (ap beginning_of word ∙ weak_begins) (sym k.whole) in
    other (sym same ∙ ap first v.whole ∙ ap Some v.is_abort))

pub takes_weak : (source : List ℕ) (room : ℕ) (t : Token) (i j : List Token) (body : Stmt Word) (test : Expr Word) (last : List Token) → t.sort ≡ WeakWord → (room ≡ 0 → ⊥) → Comes AbortWord i j → AbortedTakes source (room - 1) j (body, test) last → SomeTakes source room (t ∷ i) (Abort t.span true body test) last
takes_weak source room t i j body test last word some a h = record {
  dangling = false;
  takes = record {
    used = t ∷ a.token ∷ h.used;
    whole = ap (λ x. t ∷ x) (a.whole ∙ ap (λ x. a.token ∷ x) h.whole);
    spelled = deeper source room (t ∷ a.token ∷ h.used) (false, Abort t.span true body test) some (weak_abort t a.token word a.is h.spelled);
    stops = closed_stops (Abort t.span true body test) last;
  };
}

pub weak_refuses : (source : List ℕ) (room : ℕ) (t : Token) (i j : List Token) (f : Failure) → t.sort ≡ WeakWord → (room ≡ 0 → ⊥) → Comes AbortWord i j → Refuses (AbortedFails source (room - 1)) j f → Refuses (StmtFails source room) (t ∷ i) f
weak_refuses source room t i j (Broken n) word some a f =
    fails_behind (SpellsAborted source (room - 1)) Always (Spells source room) NoElse (t ∷ a.token ∷ []) j (t ∷ i) n (ap (λ x. t ∷ x) a.whole) f
    (λ v q d. complete source room (t ∷ a.token ∷ v) (false, Abort t.span true q.0 q.1) (deeper source room (t ∷ a.token ∷ v) (false, Abort t.span true q.0 q.1) some (weak_abort t a.token word a.is d)))
    (λ others c r _ same k.
    let m = stmt_as k.spelled WeakBeginning t (a.token ∷ others) r (ap beginning_of word ∙ weak_begins) (sym k.whole) in
    let v = m.behind in
    let here : v.less ≡ room - 1 = let p : room ≡ suc v.less = v.deep in omega arith in
    let both : a.token ∷ others ≡ m.a ∷ m.j = m.whole in
    let tail : others ≡ m.j = cc in
    (v.q, r, record { used = v.w; whole = tail ∙ v.whole; spelled = subst (λ n. SpellsAborted source n v.w v.q) here v.inner; stops = tt }))
weak_refuses source room t i j Memory word some a f = tt

pub ruleset weak_steps = (weak_too_deep, weak_without_abort, takes_weak, weak_refuses)
