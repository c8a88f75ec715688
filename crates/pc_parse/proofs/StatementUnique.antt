-- Tokens spell one tree: a statement that is read off the front, seen from its first token.
use Rattle.std.proofs.Common.{◌≡◌, ℕ, suc, Bool, true, false, List, [], ◌∷◌, ◌++◌, ◌⊎◌, inl, inr, ⊎_elim, Option, Some, None, refl, sym, ap, subst, ◌∙◌, append_assoc}
use Rattle.pc_grammar.specs.declared.tokens.Sort.TheVariants.{ElseWord, AbortWord, WhenWord, CloseBrace, Hash}
use Rattle.pc_grammar.specs.declared.tokens.Token.{Token}
use Rattle.pc_grammar.specs.declared.expressions.Word.{Word}
use Rattle.pc_grammar.specs.declared.expressions.Expr.{Expr}
use Rattle.pc_grammar.specs.declared.statements.Stmt.{Stmt}
use Rattle.pc_grammar.specs.declared.statements.Stmt.TheVariants.{Block, If, While, Abort}
use Rattle.pc_grammar.specs.declared.marks.Pair.TheVariants.{Parentheses}
use Rattle.pc_grammar.specs.Refusing.{first}
use Rattle.pc_grammar.specs.Expressions.{SpellsBetween}
use Rattle.pc_parse.proofs.Unique.{unique_between}
use Rattle.pc_parse.specs.declared.simple.StatementOpening.{StatementOpening}
use Rattle.pc_parse.specs.declared.simple.StatementOpening.TheVariants.{Skip as SkipBeginning, Name as NameBeginning, Eot as EotBeginning, Par as ParBeginning, Block as BlockBeginning, If as IfBeginning, While as WhileBeginning, Abort as AbortBeginning, Weak as WeakBeginning, Nothing as NothingBeginning}
use Rattle.pc_grammar.specs.Settings.{SpellsLoop, SpellsTest}
use Rattle.pc_parse.specs.Settings.{NoHash}
use Rattle.pc_grammar.specs.Simple.{SpellsSimple}
use Rattle.pc_parse.specs.Simple.{beginning_of, SimpleTakes}
use Rattle.pc_parse.proofs.Loops.{unique_loop, unique_test, test_first}
use Rattle.pc_parse.proofs.Plain.{SimpleAfter, simple_after, simple_begins, unique_simple}
use Rattle.pc_grammar.specs.Statements.{SpellsStmt, simple, block, if_open, if_else, while, abort, weak_abort, SpellsAborted, aborted, SpellsParts, none, more, OneBody}
use Rattle.pc_parse.specs.Statements.{NoElse, Closes, at_end, at_brace}
use Rattle.pc_parse.proofs.Ends.{brace_begins, if_begins, while_begins, abort_begins, weak_begins, not_start, not_closing, parts_not_else}

-- ---- a statement, from its first token

pub record PlainAfter (p : Bool × Stmt Word) (test : Expr Word) (yes : Stmt Word) (back rest : List Token) : Type 0 where
  pub is_open : p.0 ≡ true
  pub tree : p.1 ≡ If test yes None
  pub at : back ≡ rest

pub record ElseAfter (source : List ℕ) (room : ℕ) (open_yes : Bool) (p : Bool × Stmt Word) (test : Expr Word) (yes : Stmt Word) (back rest : List Token) : Type 0 where
  pub closed : open_yes ≡ false
  pub x : Token
  pub is_else : x.sort ≡ ElseWord
  pub u : List Token
  pub other : Stmt Word
  pub second : SpellsStmt source room p.0 u other
  pub tree : p.1 ≡ If test yes (Some other)
  pub at : back ≡ x ∷ (u ++ rest)

pub record IfAfter (source : List ℕ) (room : ℕ) (i : List Token) (p : Bool × Stmt Word) (rest : List Token) : Type 0 where
  pub less : ℕ
  pub deep : room ≡ suc less
  pub w : List Token
  pub test : Expr Word
  pub front : SpellsBetween source 64 Parentheses w test
  pub v : List Token
  pub yes : Stmt Word
  pub open_yes : Bool
  pub part : SpellsStmt source less open_yes v yes
  pub back : List Token
  pub whole : i ≡ w ++ (v ++ back)
  pub tail : PlainAfter p test yes back rest ⊎ ElseAfter source less open_yes p test yes back rest

pub record WhileAfter (source : List ℕ) (room : ℕ) (t : Token) (i : List Token) (p : Bool × Stmt Word) (rest : List Token) : Type 0 where
  pub less : ℕ
  pub deep : room ≡ suc less
  pub w : List Token
  pub q : Expr Word × Option ℕ
  pub front : SpellsLoop source w q
  pub v : List Token
  pub body : Stmt Word
  pub part : SpellsStmt source less p.0 v body
  pub tree : p.1 ≡ While t.span q.0 q.1 body
  pub whole : i ≡ w ++ (v ++ rest)

pub record BlockAfter (source : List ℕ) (room : ℕ) (i : List Token) (p : Bool × Stmt Word) (rest : List Token) : Type 0 where
  pub w : List Token
  pub all : List (Stmt Word)
  pub inner : SpellsParts source room w all
  pub last : Token
  pub closes : last.sort ≡ CloseBrace
  pub tree : p.1 ≡ Block all
  pub whole : i ≡ w ++ last ∷ rest

pub record AbortAfter (source : List ℕ) (room : ℕ) (weak : Bool) (t : Token) (i : List Token) (p : Bool × Stmt Word) (rest : List Token) : Type 0 where
  pub less : ℕ
  pub deep : room ≡ suc less
  pub w : List Token
  pub q : Stmt Word × Expr Word
  pub inner : SpellsAborted source less w q
  pub tree : p.1 ≡ Abort t.span weak q.0 q.1
  pub whole : i ≡ w ++ rest

pub record WeakAfter (source : List ℕ) (room : ℕ) (t : Token) (i : List Token) (p : Bool × Stmt Word) (rest : List Token) : Type 0 where
  pub a : Token
  pub is_abort : a.sort ≡ AbortWord
  pub j : List Token
  pub behind : AbortAfter source room true t j p rest
  pub whole : i ≡ a ∷ j

pub record SimpleIs (source : List ℕ) (t : Token) (i : List Token) (p : Bool × Stmt Word) (rest : List Token) : Type 0 where
  pub takes : SimpleTakes source (t ∷ i) p.1 rest

abbrev pub StmtAfter : List ℕ → ℕ → StatementOpening → Token → List Token → Bool × Stmt Word → List Token → Type 0
StmtAfter source room BlockBeginning t i p rest = BlockAfter source room i p rest
StmtAfter source room IfBeginning t i p rest = IfAfter source room i p rest
StmtAfter source room WhileBeginning t i p rest = WhileAfter source room t i p rest
StmtAfter source room AbortBeginning t i p rest = AbortAfter source room false t i p rest
StmtAfter source room WeakBeginning t i p rest = WeakAfter source room t i p rest
StmtAfter source room NothingBeginning t i p rest = ⊥
StmtAfter source room _ t i p rest = SimpleIs source t i p rest

at_token : (source : List ℕ) (room : ℕ) (b : StatementOpening) (t t' : Token) (i i' : List Token) (p : Bool × Stmt Word) (rest : List Token) → beginning_of t'.sort ≡ b → t' ∷ i' ≡ t ∷ i →
    StmtAfter source room b t' i' p rest → StmtAfter source room (beginning_of t.sort) t i p rest
at_token source room b t t' i i' p rest is eq h =
    let one : t' ≡ t = cc in
    let two : i' ≡ i = cc in
    subst (λ x. StmtAfter source room (beginning_of x.sort) x i p rest) one (subst (λ x. StmtAfter source room x t' i p rest) (sym is) (subst (λ x. StmtAfter source room b t' x p rest) two h))

as_simple : (source : List ℕ) (room : ℕ) (b : StatementOpening) (t : Token) (i : List Token) (dangling : Bool) (s : Stmt Word) (rest : List Token) → SimpleAfter source b t i s rest → SimpleTakes source (t ∷ i) s rest → StmtAfter source room b t i (dangling, s) rest
as_simple source room SkipBeginning t i dangling s rest v h = record { takes = h }
as_simple source room NameBeginning t i dangling s rest v h = record { takes = h }
as_simple source room EotBeginning t i dangling s rest v h = record { takes = h }
as_simple source room ParBeginning t i dangling s rest v h = record { takes = h }
as_simple source room _ t i dangling s rest v h = absurd v

pub stmt_after : {source : List ℕ} {room : ℕ} {dangling : Bool} {w : List Token} {s : Stmt Word} → SpellsStmt source room dangling w s → (t : Token) (i rest : List Token) → w ++ rest ≡ t ∷ i → StmtAfter source room (beginning_of t.sort) t i (dangling, s) rest
stmt_after {source = source} {room = room} {dangling = dangling} {s = s} (simple {w = w} d) t i rest eq =
    as_simple source room (beginning_of t.sort) t i dangling s rest (simple_after d t i rest eq) (record { used = w; whole = sym eq; spelled = d; stops = tt })
stmt_after {source = source} {room = room} (block {w = w} {all = all} a b opens closes d) t i rest eq =
    at_token source room BlockBeginning t a i ((w ++ b ∷ []) ++ rest) (false, Block all) rest (ap beginning_of opens ∙ brace_begins) eq
    (record { w = w; all = all; inner = d; last = b; closes = closes; tree = refl; whole = append_assoc w (b ∷ []) rest })
stmt_after {source = source} (if_open {room = room} {dangling = dangling} {w = w} {v = v} {test = test} {yes = first_part} t' word d a) t i rest eq =
    at_token source (suc room) IfBeginning t t' i ((w ++ v) ++ rest) (true, If test first_part None) rest (ap beginning_of word ∙ if_begins) eq (record {
      less = room;
      deep = refl;
      w = w;
      test = test;
      front = d;
      v = v;
      yes = first_part;
      open_yes = dangling;
      part = a;
      back = rest;
      whole = append_assoc w v rest;
      tail = inl (record { is_open = refl; tree = refl; at = refl });
    })
stmt_after {source = source} (if_else {room = room} {dangling = dangling} {w = w} {v = v} {u = u} {test = test} {yes = first_part} {other = second} t' x word is_else d a b) t i rest eq =
    at_token source (suc room) IfBeginning t t' i ((w ++ (v ++ x ∷ u)) ++ rest) (dangling, If test first_part (Some second)) rest (ap beginning_of word ∙ if_begins) eq (record {
      less = room;
      deep = refl;
      w = w;
      test = test;
      front = d;
      v = v;
      yes = first_part;
      open_yes = false;
      part = a;
      back = x ∷ (u ++ rest);
      whole = append_assoc w (v ++ x ∷ u) rest ∙ ap (λ y. w ++ y) (append_assoc v (x ∷ u) rest);
      tail = inr (record { closed = refl; x = x; is_else = is_else; u = u; other = second; second = b; tree = refl; at = refl });
    })
stmt_after {source = source} (while {room = room} {dangling = dangling} {w = w} {v = v} {p = q} {body = body} t' word d a) t i rest eq =
    at_token source (suc room) WhileBeginning t t' i ((w ++ v) ++ rest) (dangling, While t'.span q.0 q.1 body) rest (ap beginning_of word ∙ while_begins) eq
    (record { less = room; deep = refl; w = w; q = q; front = d; v = v; body = body; part = a; tree = refl; whole = append_assoc w v rest })
stmt_after {source = source} (abort {room = room} {w = w} {q = q} t' word d) t i rest eq =
    at_token source (suc room) AbortBeginning t t' i (w ++ rest) (false, Abort t'.span false q.0 q.1) rest (ap beginning_of word ∙ abort_begins) eq
    (record { less = room; deep = refl; w = w; q = q; inner = d; tree = refl; whole = refl })
stmt_after {source = source} (weak_abort {room = room} {w = w} {q = q} t' a word is_abort d) t i rest eq =
    at_token source (suc room) WeakBeginning t t' i (a ∷ (w ++ rest)) (false, Abort t'.span true q.0 q.1) rest (ap beginning_of word ∙ weak_begins) eq
    (record { a = a; is_abort = is_abort; j = w ++ rest; behind = record { less = room; deep = refl; w = w; q = q; inner = d; tree = refl; whole = refl }; whole = refl })

pub stmt_as : {source : List ℕ} {room : ℕ} {dangling : Bool} {w : List Token} {s : Stmt Word} → SpellsStmt source room dangling w s → (b : StatementOpening) (t : Token) (i rest : List Token) → beginning_of t.sort ≡ b → w ++ rest ≡ t ∷ i → StmtAfter source room b t i (dangling, s) rest
stmt_as {source = source} {room = room} {dangling = dangling} {s = s} d b t i rest is eq = subst (λ x. StmtAfter source room x t i (dangling, s) rest) is (stmt_after d t i rest eq)

-- ---- an abort's body and condition

pub record AbortedParts (source : List ℕ) (room : ℕ) (w : List Token) (q : Stmt Word × Expr Word) : Type 0 where
  pub dangling : Bool
  pub front : List Token
  pub back : List Token
  pub body : SpellsStmt source room dangling front q.0
  pub test : SpellsTest source back q.1
  pub whole : w ≡ front ++ back

pub aborted_parts : {source : List ℕ} {room : ℕ} {w : List Token} {q : Stmt Word × Expr Word} → SpellsAborted source room w q → AbortedParts source room w q
aborted_parts (aborted {dangling = dangling} {w = w} {v = v} d e) = record { dangling = dangling; front = w; back = v; body = d; test = e; whole = refl }

-- a condition is no `else`
pub when_not_else : {source : List ℕ} {w : List Token} {e : Expr Word} → SpellsTest source w e → (r : List Token) → first (w ++ r) ≡ Some ElseWord → ⊥
when_not_else d r h = let a : Some WhenWord ≡ Some ElseWord = sym (test_first d r) ∙ h in cc

-- ---- lists of statements

pub record PartsAfter (source : List ℕ) (room : ℕ) (i : List Token) (all : List (Stmt Word)) (rest : List Token) : Type 0 where
  pub less : ℕ
  pub deep : room ≡ suc less
  pub open_front : Bool
  pub w : List Token
  pub s : Stmt Word
  pub front : SpellsStmt source less open_front w s
  pub v : List Token
  pub others : List (Stmt Word)
  pub back : SpellsParts source room v others
  pub tree : all ≡ s ∷ others
  pub whole : i ≡ w ++ (v ++ rest)

pub parts_after : {source : List ℕ} {room : ℕ} {w : List Token} {all : List (Stmt Word)} → SpellsParts source room w all → (i rest : List Token) → Closes (first rest) → (Closes (first i) → ⊥) → w ++ rest ≡ i → PartsAfter source room i all rest
parts_after none i rest at other eq = absurd (other (subst (λ x. Closes (first x)) eq at))
parts_after (more {room = room} {dangling = dangling} {w = w} {v = v} {s = s} {all = all} d ds) i rest at other eq = record {
  less = room;
  deep = refl;
  open_front = dangling;
  w = w;
  s = s;
  front = d;
  v = v;
  others = all;
  back = ds;
  tree = refl;
  whole = sym eq ∙ append_assoc w v rest;
}

no_parts : {source : List ℕ} {room : ℕ} {w : List Token} {all : List (Stmt Word)} → SpellsParts source room w all → (r r' : List Token) → Closes (first r) → r ≡ w ++ r' → (r ≡ r') × ([] ≡ all)
no_parts none r r' at eq = (eq, refl)
no_parts (more {w = w} {v = v} d ds) r r' at eq = absurd (not_closing d (v ++ r') (subst (λ x. Closes (first x)) (eq ∙ append_assoc w v r') at))

pub brace_closes : (b : Token) (r : List Token) → b.sort ≡ CloseBrace → Closes (first (b ∷ r))
brace_closes b r is = subst Closes (ap Some (sym is)) at_brace

-- ---- what the parts of a rule follow

hash_begins : beginning_of Hash ≡ NothingBeginning
unfolding beginning_of
hash_begins = refl

-- no statement begins with the sign of a bound
pub no_hash : {source : List ℕ} {room : ℕ} {dangling : Bool} {w : List Token} {s : Stmt Word} → SpellsStmt source room dangling w s → (r : List Token) (p : Expr Word × Option ℕ) → NoHash p (w ++ r)
no_hash d r p unbounded h = not_start d r Hash h hash_begins

-- where a statement without statements in it can be read, it is one
plain_is : (source : List ℕ) (room : ℕ) (b : StatementOpening) (t : Token) (i : List Token) (p : Bool × Stmt Word) (s : Stmt Word) (rest r : List Token) → SimpleAfter source b t i s r → StmtAfter source room b t i p rest → SimpleTakes source (t ∷ i) p.1 rest
plain_is source room SkipBeginning t i p s rest r v k = k.takes
plain_is source room NameBeginning t i p s rest r v k = k.takes
plain_is source room EotBeginning t i p s rest r v k = k.takes
plain_is source room ParBeginning t i p s rest r v k = k.takes
plain_is source room _ t i p s rest r v k = absurd v

pub unique_plain : {source : List ℕ} {room : ℕ} {w : List Token} {s : Stmt Word} → SpellsSimple source w s → {dangling' : Bool} {w' : List Token} {s' : Stmt Word} → SpellsStmt source room dangling' w' s' → (r r' : List Token) → w ++ r ≡ w' ++ r' → (r ≡ r') × (s ≡ s')
unique_plain {source = source} {room = room} {s = s} d {dangling' = dangling'} {s' = s'} d' r r' eq =
    let b = simple_begins d r in
    let k = plain_is source room (beginning_of b.0.sort) b.0 b.1 (dangling', s') s r' r (simple_after d b.0 b.1 r b.2) (stmt_after d' b.0 b.1 r' (sym eq ∙ b.2)) in
    unique_simple d k.used s' r r' k.spelled (b.2 ∙ k.whole)

-- ---- one tree

mutual
  pub unique_stmt : {source : List ℕ} {room : ℕ} {dangling : Bool} {w : List Token} {s : Stmt Word} → SpellsStmt source room dangling w s → (w' : List Token) (dangling' : Bool) (s' : Stmt Word) (r r' : List Token) →
      NoElse (dangling, s) r → SpellsStmt source room dangling' w' s' → NoElse (dangling', s') r' → w ++ r ≡ w' ++ r' → (r ≡ r') × (s ≡ s')
  unique_stmt {source = source} {room = room} (simple {w = w} {s = s} d) w' dangling' s' r r' ends d' ends' eq = unique_plain d d' r r' eq
  unique_stmt (block {w = w} a b opens closes d) w' dangling' s' r r' ends d' ends' eq =
      let k = stmt_as d' BlockBeginning a ((w ++ b ∷ []) ++ r) r' (ap beginning_of opens ∙ brace_begins) (sym eq) in
      let u = unique_parts d k.w k.all (b ∷ r) (k.last ∷ r') (brace_closes b r closes) k.inner (brace_closes k.last r' k.closes) (sym (append_assoc w (b ∷ []) r) ∙ k.whole) in
      let tail : b ∷ r ≡ k.last ∷ r' = u.0 in
      (cc, ap Block u.1 ∙ sym k.tree)
  unique_stmt {source = source} (if_open {room = room} {dangling = dangling} {w = w} {v = v} {test = test} {yes = first_part} t word d a) w' dangling' s' r r' ends d' ends' eq =
      let k = stmt_as d' IfBeginning t ((w ++ v) ++ r) r' (ap beginning_of word ∙ if_begins) (sym eq) in
      let same : k.less ≡ room = let p : suc room ≡ suc k.less = k.deep in cc in
      let u = unique_between d k.w k.test (v ++ r) (k.v ++ k.back) k.front (sym (append_assoc w v r) ∙ k.whole) in
      let no_else : first r ≡ Some ElseWord → ⊥ = ends refl in
      ⊎_elim
      (λ plain.
      let q = unique_stmt a k.v k.open_yes k.yes r k.back (λ o. no_else) (subst (λ n. SpellsStmt source n k.open_yes k.v k.yes) same k.part) (λ o h. ends' plain.is_open (ap first (sym plain.at) ∙ h)) u.0 in
      (q.0 ∙ plain.at, ap (λ x. If x first_part None) u.1 ∙ ap (λ x. If k.test x None) q.1 ∙ sym plain.tree))
      (λ other.
      let q = unique_stmt a k.v k.open_yes k.yes r k.back (λ o. no_else) (subst (λ n. SpellsStmt source n k.open_yes k.v k.yes) same k.part) (λ o h. let c : false ≡ true = sym other.closed ∙ o in cc) u.0 in
      absurd (no_else (ap first (q.0 ∙ other.at) ∙ ap Some other.is_else)))
      k.tail
  unique_stmt {source = source} (if_else {room = room} {dangling = dangling} {w = w} {v = v} {u = z} {test = test} {yes = first_part} {other = second} t x word is_else d a b) w' dangling' s' r r' ends d' ends' eq =
      let k = stmt_as d' IfBeginning t ((w ++ (v ++ x ∷ z)) ++ r) r' (ap beginning_of word ∙ if_begins) (sym eq) in
      let same : k.less ≡ room = let p : suc room ≡ suc k.less = k.deep in cc in
      let u = unique_between d k.w k.test (v ++ x ∷ (z ++ r)) (k.v ++ k.back) k.front (sym (append_assoc w (v ++ x ∷ z) r ∙ ap (λ y. w ++ y) (append_assoc v (x ∷ z) r)) ∙ k.whole) in
      ⊎_elim
      (λ plain.
      let q = unique_stmt a k.v k.open_yes k.yes (x ∷ (z ++ r)) k.back (λ o h. cc) (subst (λ n. SpellsStmt source n k.open_yes k.v k.yes) same k.part) (λ o h. ends' plain.is_open (ap first (sym plain.at) ∙ h)) u.0 in
      absurd (ends' plain.is_open (ap first (sym (q.0 ∙ plain.at)) ∙ ap Some is_else)))
      (λ other.
      let q = unique_stmt a k.v k.open_yes k.yes (x ∷ (z ++ r)) k.back (λ o h. cc) (subst (λ n. SpellsStmt source n k.open_yes k.v k.yes) same k.part) (λ o h. let c : false ≡ true = sym other.closed ∙ o in cc) u.0 in
      let tails : x ∷ (z ++ r) ≡ other.x ∷ (other.u ++ r') = q.0 ∙ other.at in
      let y = unique_stmt b other.u dangling' other.other r r' ends (subst (λ n. SpellsStmt source n dangling' other.u other.other) same other.second) ends' (cc) in
      (y.0, ap (λ y. If y first_part (Some second)) u.1 ∙ ap (λ y. If k.test y (Some second)) q.1 ∙ ap (λ y. If k.test k.yes (Some y)) y.1 ∙ sym other.tree))
      k.tail
  unique_stmt {source = source} (while {room = room} {dangling = dangling} {w = w} {v = v} {p = p} {body = body} t word d a) w' dangling' s' r r' ends d' ends' eq =
      let k = stmt_as d' WhileBeginning t ((w ++ v) ++ r) r' (ap beginning_of word ∙ while_begins) (sym eq) in
      let same : k.less ≡ room = let h : suc room ≡ suc k.less = k.deep in cc in
      let u = unique_loop d k.w k.q (v ++ r) (k.v ++ r') (no_hash a r p) k.front (no_hash k.part r' k.q) (sym (append_assoc w v r) ∙ k.whole) in
      let q = unique_stmt a k.v dangling' k.body r r' ends (subst (λ n. SpellsStmt source n dangling' k.v k.body) same k.part) ends' u.0 in
      (q.0, ap (λ (x : Expr Word × Option ℕ). While t.span x.0 x.1 body) u.1 ∙ ap (While t.span k.q.0 k.q.1) q.1 ∙ sym k.tree)
  unique_stmt {source = source} (abort {room = room} {w = w} t word d) w' dangling' s' r r' ends d' ends' eq =
      let k = stmt_as d' AbortBeginning t (w ++ r) r' (ap beginning_of word ∙ abort_begins) (sym eq) in
      let same : k.less ≡ room = let h : suc room ≡ suc k.less = k.deep in cc in
      let u = unique_aborted d k.w k.q r r' (subst (λ n. SpellsAborted source n k.w k.q) same k.inner) k.whole in
      (u.0, ap (λ (x : Stmt Word × Expr Word). Abort t.span false x.0 x.1) u.1 ∙ sym k.tree)
  unique_stmt {source = source} (weak_abort {room = room} {w = w} t a word is_abort d) w' dangling' s' r r' ends d' ends' eq =
      let m = stmt_as d' WeakBeginning t (a ∷ (w ++ r)) r' (ap beginning_of word ∙ weak_begins) (sym eq) in
      let k = m.behind in
      let same : k.less ≡ room = let h : suc room ≡ suc k.less = k.deep in cc in
      let both : a ∷ (w ++ r) ≡ m.a ∷ m.j = m.whole in
      let tail : w ++ r ≡ m.j = cc in
      let u = unique_aborted d k.w k.q r r' (subst (λ n. SpellsAborted source n k.w k.q) same k.inner) (tail ∙ k.whole) in
      (u.0, ap (λ (x : Stmt Word × Expr Word). Abort t.span true x.0 x.1) u.1 ∙ sym k.tree)

  pub unique_aborted : {source : List ℕ} {room : ℕ} {w : List Token} {q : Stmt Word × Expr Word} → SpellsAborted source room w q → (w' : List Token) (q' : Stmt Word × Expr Word) (r r' : List Token) → SpellsAborted source room w' q' → w ++ r ≡ w' ++ r' → (r ≡ r') × (q ≡ q')
  unique_aborted (aborted {w = w} {v = v} {test = test} d e) w' q' r r' d' eq =
      let k = aborted_parts d' in
      let u = unique_stmt d k.front k.dangling q'.0 (v ++ r) (k.back ++ r') (λ o. when_not_else e r) k.body (λ o. when_not_else k.test r') (sym (append_assoc w v r) ∙ eq ∙ ap (λ x. x ++ r') k.whole ∙ append_assoc k.front k.back r') in
      let t = unique_test e k.back q'.1 r r' k.test u.0 in
      (t.0, ap (λ x. (x, test)) u.1 ∙ ap (λ x. (q'.0, x)) t.1)

  pub unique_parts : {source : List ℕ} {room : ℕ} {w : List Token} {all : List (Stmt Word)} → SpellsParts source room w all → (w' : List Token) (all' : List (Stmt Word)) (r r' : List Token) → Closes (first r) → SpellsParts source room w' all' → Closes (first r') → w ++ r ≡ w' ++ r' → (r ≡ r') × (all ≡ all')
  unique_parts none w' all' r r' ends d' ends' eq = no_parts d' r r' ends eq
  unique_parts {source = source} (more {room = room} {dangling = dangling} {w = w} {v = v} {s = s} {all = all} d ds) w' all' r r' ends d' ends' eq =
      let k = parts_after d' ((w ++ v) ++ r) r' ends' (λ c. not_closing d (v ++ r) (subst (λ x. Closes (first x)) (append_assoc w v r) c)) (sym eq) in
      let same : k.less ≡ room = let p : suc room ≡ suc k.less = k.deep in cc in
      let u = unique_stmt d k.w k.open_front k.s (v ++ r) (k.v ++ r') (λ o. parts_not_else ds r ends) (subst (λ n. SpellsStmt source n k.open_front k.w k.s) same k.front) (λ o. parts_not_else k.back r' ends') (sym (append_assoc w v r) ∙ k.whole) in
      let t = unique_parts ds k.v k.others r r' ends k.back ends' u.0 in
      (t.0, ap (λ x. x ∷ all) u.1 ∙ ap (λ x. k.s ∷ x) t.1 ∙ sym k.tree)

pub one_body : OneBody
one_body source ts a b p q = (unique_parts p ts b [] [] at_end q at_end refl).1
