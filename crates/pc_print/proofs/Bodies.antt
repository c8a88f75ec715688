-- Tokens that look like the canonical ones of statements spell the same ones but for places.
use Rattle.std.proofs.Common.{◌≡◌, ℕ, suc, ◌+◌, Bool, true, false, List, [], ◌∷◌, ◌++◌, Option, Some, None, refl, sym, ap, subst, ◌∙◌, append-nil}
use Rattle.pc_grammar.specs.declared.tokens.Sort.TheVariants.{Number as NumberSort, OpenParenthesis, CloseParenthesis, Semicolon, Hash, IfWord, ElseWord, WhileWord, AbortWord, WeakWord, WhenWord, PreWord, OpenBrace, CloseBrace}
use Rattle.pc_grammar.specs.declared.tokens.Token.{Token}
use Rattle.pc_grammar.specs.declared.expressions.Word.{Word}
use Rattle.pc_grammar.specs.declared.expressions.Expr.{Expr}
use Rattle.pc_grammar.specs.declared.statements.Stmt.{Stmt}
use Rattle.pc_grammar.specs.declared.statements.Stmt.TheVariants.{Block, If, While, Abort}
use Rattle.pc_grammar.specs.Settings.{SpellsLoop, free, counted, SpellsTest, test as tested}
use Rattle.pc_grammar.specs.Statements.{SpellsStmt, simple, block, if_open, if_else, while, abort, weak_abort, SpellsAborted, aborted, SpellsParts, none as no_parts, more as more_parts}
use Rattle.pc_print.specs.Parts.{mark, blank}
use Rattle.pc_print.specs.Canonical.{expression, in_parentheses, line, most_turns, if_line, while_line, abort_line, when_line, statement, statements}
use Rattle.pc_print.specs.Tokens.{nowhere, token_of, tokens, plain, bare}
use Rattle.pc_print.proofs.Levels.{statement-Block, statement-If-None, statement-If-Some, statement-While, statement-Abort}
use Rattle.pc_print.proofs.Spelled.{tokens-append}
use Rattle.pc_print.proofs.Respelled.{empty_of_map}
use Rattle.pc_print.specs.Same.{bare_statement, bare_statements}
use Rattle.pc_print.proofs.BareBodies.{bare-Block, bare-If-None, bare-If-Some, bare-While, bare-Abort}
use Rattle.pc_print.proofs.Alike.{Looks, looks_as, head_of, cut_of, only_of, sort_same, between_alike, parenthesis-tokens, Seen, seen_as}
use Rattle.pc_print.proofs.Settings.{line-tokens, stop-tokens, simple_seen}

-- ---- heads and conditions

-- a condition in parentheses
abbrev condition : Expr Word → List Token
condition e = token_of OpenParenthesis ∷ (tokens (expression e) ++ token_of CloseParenthesis ∷ [])

condition-tokens : (e : Expr Word) → tokens (in_parentheses (expression e)) ≡ condition e
condition-tokens e = parenthesis-tokens (expression e)

if-tokens : (level : ℕ) (e : Expr Word) → tokens (if_line level e) ≡ token_of IfWord ∷ condition e
if-tokens level e = line-tokens level (mark IfWord ∷ blank ∷ in_parentheses (expression e)) ∙ ap (λ r. token_of IfWord ∷ r) (condition-tokens e)

abbrev bound : Option ℕ → List Token
bound None = []
bound (Some n) = token_of Hash ∷ token_of (NumberSort n) ∷ []

bound-tokens : (most : Option ℕ) → tokens (most_turns most) ≡ bound most
bound-tokens None = refl
bound-tokens (Some n) = refl

while-tokens : (level : ℕ) (e : Expr Word) (most : Option ℕ) → tokens (while_line level e most) ≡ token_of WhileWord ∷ (condition e ++ bound most)
while-tokens level e most =
    line-tokens level (mark WhileWord ∷ blank ∷ (in_parentheses (expression e) ++ most_turns most))
    ∙ ap (λ r. token_of WhileWord ∷ r) (tokens-append (in_parentheses (expression e)) (most_turns most) ∙ ap (λ r. r ++ tokens (most_turns most)) (condition-tokens e) ∙ ap (λ r. condition e ++ r) (bound-tokens most))

loop_seen : (source again : List ℕ) {w : List Token} {p : Expr Word × Option ℕ} → SpellsLoop source w p → (v : List Token) → Looks source again v (condition p.0 ++ bound p.1) → Seen (SpellsLoop again) (λ q. let k : Expr (List ℕ) × Option ℕ = (bare q.0, q.1) in k) v p
loop_seen source again (free {e = e} d) v h =
    let i = between_alike d again v (looks_as source again v (condition e ++ []) (condition e) (append-nil (condition e)) h) in
    record { tree = (i.tree, None); spelled = free i.spelled; same = ap (λ x. let k : Expr (List ℕ) × Option ℕ = (x, None) in k) i.same }
loop_seen source again (counted {e = e} {most = most} x n d is_hash is_number) v h =
    let c = cut_of source again v (condition e) (bound (Some most)) h in
    let k = head_of source again c.back (token_of Hash) (token_of (NumberSort most) ∷ []) c.left in
    let z = only_of source again k.rest (token_of (NumberSort most)) k.left in
    let i = between_alike d again c.front c.is in
    let q : Expr Word × Option ℕ = (e, Some most) in
    seen_as (SpellsLoop again) _ v (c.front ++ k.first ∷ z.first ∷ []) q (c.whole ∙ ap (λ r. c.front ++ r) (k.whole ∙ ap (λ r. k.first ∷ r) z.whole))
    (record {
      tree = (i.tree, Some most);
      spelled = counted k.first z.first i.spelled (sort_same source again (token_of Hash) k.first k.is) (sort_same source again (token_of (NumberSort most)) z.first z.is);
      same = ap (λ x. let k : Expr (List ℕ) × Option ℕ = (x, Some most) in k) i.same;
    })

-- `when pre ( e ) ;`
abbrev when_tokens : Expr Word → List Token
when_tokens e = token_of WhenWord ∷ token_of PreWord ∷ (condition e ++ token_of Semicolon ∷ [])

when-tokens : (level : ℕ) (e : Expr Word) → tokens (when_line level e) ≡ when_tokens e
when-tokens level e =
    line-tokens level (mark WhenWord ∷ blank ∷ mark PreWord ∷ blank ∷ (in_parentheses (expression e) ++ mark Semicolon ∷ []))
    ∙ ap (λ r. token_of WhenWord ∷ token_of PreWord ∷ r) (stop-tokens (in_parentheses (expression e)) ∙ ap (λ r. r ++ token_of Semicolon ∷ []) (condition-tokens e))

test_seen : (source again : List ℕ) {w : List Token} {e : Expr Word} → SpellsTest source w e → (v : List Token) → Looks source again v (when_tokens e) → Seen (SpellsTest again) bare v e
test_seen source again (tested {e = e} a b z is_when is_pre is_end d) v h =
    let k = head_of source again v (token_of WhenWord) (token_of PreWord ∷ (condition e ++ token_of Semicolon ∷ [])) h in
    let p = head_of source again k.rest (token_of PreWord) (condition e ++ token_of Semicolon ∷ []) k.left in
    let c = cut_of source again p.rest (condition e) (token_of Semicolon ∷ []) p.left in
    let last = only_of source again c.back (token_of Semicolon) c.left in
    let i = between_alike d again c.front c.is in
    seen_as (SpellsTest again) bare v (k.first ∷ p.first ∷ (c.front ++ last.first ∷ [])) e (k.whole ∙ ap (λ r. k.first ∷ r) (p.whole ∙ ap (λ r. p.first ∷ r) (c.whole ∙ ap (λ r. c.front ++ r) last.whole)))
    (record {
      tree = i.tree;
      spelled = tested k.first p.first last.first (sort_same source again (token_of WhenWord) k.first k.is) (sort_same source again (token_of PreWord) p.first p.is) (sort_same source again (token_of Semicolon) last.first last.is) i.spelled;
      same = i.same;
    })

-- ---- the tokens of statements with parts

block-tokens : (all : List (Stmt Word)) (level : ℕ) → tokens (statement (Block all) level) ≡ token_of OpenBrace ∷ (tokens (statements (level + 1) all) ++ token_of CloseBrace ∷ [])
block-tokens all level = ap tokens (statement-Block all level) ∙ ap (λ r. token_of OpenBrace ∷ r) (tokens-append (statements (level + 1) all) (line level (mark CloseBrace ∷ [])))

if_none-tokens : (e : Expr Word) (first : Stmt Word) (level : ℕ) → tokens (statement (If e first None) level) ≡ token_of IfWord ∷ (condition e ++ tokens (statement first (level + 1)))
if_none-tokens e first level =
    ap tokens (statement-If-None e first level ∙ ap (λ r. if_line level e ++ r) (append-nil (statement first (level + 1)))) ∙ tokens-append (if_line level e) (statement first (level + 1)) ∙ ap (λ r. r ++ tokens (statement first (level + 1))) (if-tokens level e)

if_some-tokens : (e : Expr Word) (first second : Stmt Word) (level : ℕ) →
    tokens (statement (If e first (Some second)) level) ≡ token_of IfWord ∷ (condition e ++ (tokens (statement first (level + 1)) ++ (token_of ElseWord ∷ tokens (statement second (level + 1)))))
if_some-tokens e first second level =
    let tail = line level (mark ElseWord ∷ []) ++ statement second (level + 1) in
    ap tokens (statement-If-Some e first second level) ∙ tokens-append (if_line level e) (statement first (level + 1) ++ tail)
    ∙ ap (λ r. r ++ tokens (statement first (level + 1) ++ tail)) (if-tokens level e) ∙ ap (λ r. token_of IfWord ∷ (condition e ++ r)) (tokens-append (statement first (level + 1)) tail)

while_body-tokens : (t : Token) (p : Expr Word × Option ℕ) (body : Stmt Word) (level : ℕ) → tokens (statement (While t.span p.0 p.1 body) level) ≡ token_of WhileWord ∷ ((condition p.0 ++ bound p.1) ++ tokens (statement body (level + 1)))
while_body-tokens t p body level =
    ap tokens (statement-While t.span p.0 p.1 body level) ∙ tokens-append (while_line level p.0 p.1) (statement body (level + 1)) ∙ ap (λ r. r ++ tokens (statement body (level + 1))) (while-tokens level p.0 p.1)

abbrev aborted_tokens : Stmt Word × Expr Word → ℕ → List Token
aborted_tokens q level = tokens (statement q.0 (level + 1)) ++ when_tokens q.1

abbrev begun : Bool → List Token
begun true = token_of WeakWord ∷ token_of AbortWord ∷ []
begun false = token_of AbortWord ∷ []

begun-tokens : (level : ℕ) (weak : Bool) → tokens (abort_line level weak) ≡ begun weak
begun-tokens level true = refl
begun-tokens level false = refl

abort-tokens : (t : Token) (weak : Bool) (q : Stmt Word × Expr Word) (level : ℕ) → tokens (statement (Abort t.span weak q.0 q.1) level) ≡ begun weak ++ aborted_tokens q level
abort-tokens t weak q level =
    ap tokens (statement-Abort t.span weak q.0 q.1 level) ∙ tokens-append (abort_line level weak) (statement q.0 (level + 1) ++ when_line level q.1)
    ∙ ap (λ r. r ++ tokens (statement q.0 (level + 1) ++ when_line level q.1)) (begun-tokens level weak)
    ∙ ap (λ r. begun weak ++ r) (tokens-append (statement q.0 (level + 1)) (when_line level q.1) ∙ ap (λ r. tokens (statement q.0 (level + 1)) ++ r) (when-tokens level q.1))

-- ---- statements

abbrev bare_aborted : Stmt Word × Expr Word → Stmt (List ℕ) × Expr (List ℕ)
bare_aborted q = (bare_statement q.0, bare q.1)

abort_same : (t u : Token) (weak : Bool) (p q : Stmt Word × Expr Word) → bare_aborted p ≡ bare_aborted q → bare_statement (Abort t.span weak p.0 p.1) ≡ bare_statement (Abort u.span weak q.0 q.1)
abort_same t u weak p q eq = bare-Abort t.span weak p.0 p.1 ∙ ap (λ (x : Stmt (List ℕ) × Expr (List ℕ)). Abort nowhere weak x.0 x.1) eq ∙ sym (bare-Abort u.span weak q.0 q.1)

while_same : (t u : Token) (p q : Expr Word × Option ℕ) (a b : Stmt Word) → ◌≡◌ {A = Expr (List ℕ) × Option ℕ} (bare p.0, p.1) (bare q.0, q.1) → bare_statement a ≡ bare_statement b → bare_statement (While t.span p.0 p.1 a) ≡ bare_statement (While u.span q.0 q.1 b)
while_same t u p q a b eq same =
    bare-While t.span p.0 p.1 a ∙ ap (λ (x : Expr (List ℕ) × Option ℕ). While nowhere x.0 x.1 (bare_statement a)) eq ∙ ap (λ x. While nowhere (bare q.0) q.1 x) same ∙ sym (bare-While u.span q.0 q.1 b)

mutual
  pub statement_seen : {source : List ℕ} {room : ℕ} {open_end : Bool} {w : List Token} {s : Stmt Word} → SpellsStmt source room open_end w s → (again : List ℕ) (level : ℕ) (v : List Token) →
      Looks source again v (tokens (statement s level)) → Seen (SpellsStmt again room open_end) bare_statement v s
  statement_seen (simple {source = source} d) again level v h = let i = simple_seen source again d level v h in record { tree = i.tree; spelled = simple i.spelled; same = i.same }
  statement_seen (block {source = source} {room = room} {all = all} a b opens closes d) again level v h =
      let k = head_of source again v (token_of OpenBrace) (tokens (statements (level + 1) all) ++ token_of CloseBrace ∷ []) (looks_as source again v _ _ (block-tokens all level) h) in
      let c = cut_of source again k.rest (tokens (statements (level + 1) all)) (token_of CloseBrace ∷ []) k.left in
      let z = only_of source again c.back (token_of CloseBrace) c.left in
      let i = parts_seen d again (level + 1) c.front c.is in
      seen_as (SpellsStmt again room false) bare_statement v (k.first ∷ (c.front ++ z.first ∷ [])) (Block all) (k.whole ∙ ap (λ r. k.first ∷ r) (c.whole ∙ ap (λ r. c.front ++ r) z.whole))
      (record {
        tree = Block i.tree;
        spelled = block k.first z.first (sort_same source again (token_of OpenBrace) k.first k.is) (sort_same source again (token_of CloseBrace) z.first z.is) i.spelled;
        same = bare-Block i.tree ∙ ap (λ x. Block x) i.same ∙ sym (bare-Block all);
      })
  statement_seen (if_open {source = source} {room = room} {test = e} {yes = first} t is c d) again level v h =
      let body = tokens (statement first (level + 1)) in
      let k = head_of source again v (token_of IfWord) (condition e ++ body) (looks_as source again v _ _ (if_none-tokens e first level) h) in
      let u = cut_of source again k.rest (condition e) body k.left in
      let i = between_alike c again u.front u.is in
      let j = statement_seen d again (level + 1) u.back u.left in
      seen_as (SpellsStmt again (suc room) true) bare_statement v (k.first ∷ (u.front ++ u.back)) (If e first None) (k.whole ∙ ap (λ r. k.first ∷ r) u.whole)
      (record {
        tree = If i.tree j.tree None;
        spelled = if_open k.first (sort_same source again (token_of IfWord) k.first k.is) i.spelled j.spelled;
        same = bare-If-None i.tree j.tree ∙ ap (λ x. If x (bare_statement j.tree) None) i.same ∙ ap (λ x. If (bare e) x None) j.same ∙ sym (bare-If-None e first);
      })
  statement_seen (if_else {source = source} {room = room} {dangling = dangling} {test = e} {yes = first} {other = second} t x is is_else c d f) again level v h =
      let one = tokens (statement first (level + 1)) in
      let two = tokens (statement second (level + 1)) in
      let k = head_of source again v (token_of IfWord) (condition e ++ (one ++ (token_of ElseWord ∷ two))) (looks_as source again v _ _ (if_some-tokens e first second level) h) in
      let u = cut_of source again k.rest (condition e) (one ++ (token_of ElseWord ∷ two)) k.left in
      let m = cut_of source again u.back one (token_of ElseWord ∷ two) u.left in
      let l = head_of source again m.back (token_of ElseWord) two m.left in
      let i = between_alike c again u.front u.is in
      let j = statement_seen d again (level + 1) m.front m.is in
      let n = statement_seen f again (level + 1) l.rest l.left in
      seen_as (SpellsStmt again (suc room) dangling) bare_statement v (k.first ∷ (u.front ++ (m.front ++ l.first ∷ l.rest))) (If e first (Some second))
      (k.whole ∙ ap (λ r. k.first ∷ r) (u.whole ∙ ap (λ r. u.front ++ r) (m.whole ∙ ap (λ r. m.front ++ r) l.whole)))
      (record {
        tree = If i.tree j.tree (Some n.tree);
        spelled = if_else k.first l.first (sort_same source again (token_of IfWord) k.first k.is) (sort_same source again (token_of ElseWord) l.first l.is) i.spelled j.spelled n.spelled;
        same = bare-If-Some i.tree j.tree n.tree ∙ ap (λ y. If y (bare_statement j.tree) (Some (bare_statement n.tree))) i.same ∙ ap (λ y. If (bare e) y (Some (bare_statement n.tree))) j.same ∙ ap (λ y. If (bare e) (bare_statement first) (Some y)) n.same ∙ sym (bare-If-Some e first second);
      })
  statement_seen (while {source = source} {room = room} {dangling = dangling} {p = p} {body = body} t is l d) again level v h =
      let inner = tokens (statement body (level + 1)) in
      let k = head_of source again v (token_of WhileWord) ((condition p.0 ++ bound p.1) ++ inner) (looks_as source again v _ _ (while_body-tokens t p body level) h) in
      let u = cut_of source again k.rest (condition p.0 ++ bound p.1) inner k.left in
      let i = loop_seen source again l u.front u.is in
      let j = statement_seen d again (level + 1) u.back u.left in
      seen_as (SpellsStmt again (suc room) dangling) bare_statement v (k.first ∷ (u.front ++ u.back)) (While t.span p.0 p.1 body) (k.whole ∙ ap (λ r. k.first ∷ r) u.whole)
      (record {
        tree = While k.first.span i.tree.0 i.tree.1 j.tree;
        spelled = while k.first (sort_same source again (token_of WhileWord) k.first k.is) i.spelled j.spelled;
        same = while_same k.first t i.tree p j.tree body i.same j.same;
      })
  statement_seen (abort {source = source} {room = room} {q = q} t is d) again level v h =
      let k = head_of source again v (token_of AbortWord) (aborted_tokens q level) (looks_as source again v _ _ (abort-tokens t false q level) h) in
      let i = aborted_seen d again level k.rest k.left in
      seen_as (SpellsStmt again (suc room) false) bare_statement v (k.first ∷ k.rest) (Abort t.span false q.0 q.1) k.whole
      (record { tree = Abort k.first.span false i.tree.0 i.tree.1; spelled = abort k.first (sort_same source again (token_of AbortWord) k.first k.is) i.spelled; same = abort_same k.first t false i.tree q i.same })
  statement_seen (weak_abort {source = source} {room = room} {q = q} t a is is_abort d) again level v h =
      let k = head_of source again v (token_of WeakWord) (token_of AbortWord ∷ aborted_tokens q level) (looks_as source again v _ _ (abort-tokens t true q level) h) in
      let l = head_of source again k.rest (token_of AbortWord) (aborted_tokens q level) k.left in
      let i = aborted_seen d again level l.rest l.left in
      seen_as (SpellsStmt again (suc room) false) bare_statement v (k.first ∷ l.first ∷ l.rest) (Abort t.span true q.0 q.1) (k.whole ∙ ap (λ r. k.first ∷ r) l.whole)
      (record {
        tree = Abort k.first.span true i.tree.0 i.tree.1;
        spelled = weak_abort k.first l.first (sort_same source again (token_of WeakWord) k.first k.is) (sort_same source again (token_of AbortWord) l.first l.is) i.spelled;
        same = abort_same k.first t true i.tree q i.same;
      })

  aborted_seen : {source : List ℕ} {room : ℕ} {w : List Token} {q : Stmt Word × Expr Word} → SpellsAborted source room w q → (again : List ℕ) (level : ℕ) (v : List Token) →
      Looks source again v (aborted_tokens q level) → Seen (SpellsAborted again room) bare_aborted v q
  aborted_seen (aborted {source = source} {room = room} {body = body} {test = e} d c) again level v h =
      let u = cut_of source again v (tokens (statement body (level + 1))) (when_tokens e) h in
      let i = statement_seen d again (level + 1) u.front u.is in
      let j = test_seen source again c u.back u.left in
      let q : Stmt Word × Expr Word = (body, e) in
      seen_as (SpellsAborted again room) bare_aborted v (u.front ++ u.back) q u.whole
      (record { tree = (i.tree, j.tree); spelled = aborted i.spelled j.spelled; same = ap (λ x. let k : Stmt (List ℕ) × Expr (List ℕ) = (x, bare j.tree) in k) i.same ∙ ap (λ x. let k : Stmt (List ℕ) × Expr (List ℕ) = (bare_statement body, x) in k) j.same })

  pub parts_seen : {source : List ℕ} {room : ℕ} {w : List Token} {all : List (Stmt Word)} → SpellsParts source room w all → (again : List ℕ) (level : ℕ) (v : List Token) →
      Looks source again v (tokens (statements level all)) → Seen (SpellsParts again room) bare_statements v all
  parts_seen (no_parts {source = source} {room = room}) again level v h = record { tree = []; spelled = subst (λ x. SpellsParts again room x []) (sym (empty_of_map (plain again) v h)) no_parts; same = refl }
  parts_seen (more_parts {source = source} {room = room} {s = s} {all = all} d ds) again level v h =
      let u = cut_of source again v (tokens (statement s level)) (tokens (statements level all)) (looks_as source again v _ _ (tokens-append (statement s level) (statements level all)) h) in
      let i = statement_seen d again level u.front u.is in
      let j = parts_seen ds again level u.back u.left in
      seen_as (SpellsParts again (suc room)) bare_statements v (u.front ++ u.back) (s ∷ all) u.whole
      (record { tree = i.tree ∷ j.tree; spelled = more_parts i.spelled j.spelled; same = ap (λ x. x ∷ bare_statements j.tree) i.same ∙ ap (λ r. bare_statement s ∷ r) j.same })
