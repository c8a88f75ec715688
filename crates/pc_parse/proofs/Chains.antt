-- One lemma for each way on which the parser of a level answers.
use Rattle.std.proofs.Common.{◌≡◌, ℕ, suc, ◌<◌, ◌≤◌, List, [], ◌∷◌, ◌++◌, Some, length, refl, sym, ap, subst, ◌∙◌, append_assoc, append-nil, length-append, arith}
use Rattle.pt_base.specs.declared.operators.BinOp.{BinOp}
use Rattle.pc_grammar.specs.declared.tokens.Token.{Token}
use Rattle.pc_grammar.specs.declared.expressions.Word.{Word}
use Rattle.pc_grammar.specs.declared.expressions.Expr.{Expr}
use Rattle.pc_parse.specs.declared.reading.Failure.{Failure}
use Rattle.pc_parse.specs.declared.reading.Failure.TheVariants.{Broken, Memory}
use Rattle.pc_grammar.specs.Signs.{binary_in, level_of}
use Rattle.pc_parse.specs.Reading.{Refuses}
use Rattle.pc_grammar.specs.Expressions.{grown, SpellsLevel, operand, chain, SpellsRest, none, more}
use Rattle.pc_parse.specs.Expressions.{Ends, OperandTakes, OperandFails, LevelTakes, LevelFails, RestTakes, RestFails, ComesNext, NoneNext}
use Rattle.pc_parse.proofs.Behind.{fails_behind}
use Rattle.pc_parse.proofs.Holds.{ends_same}
use Rattle.pc_parse.proofs.Unique.{rest_after, ends_rest, level_zero, level_suc, unique_level}

-- ---- level 0

pub takes_zero : (source : List ℕ) (room : ℕ) (tokens : List Token) (e : Expr Word) (rest : List Token) → OperandTakes source room tokens e rest → LevelTakes source room 0 tokens e rest
takes_zero source room tokens e rest h = record { used = h.used; whole = h.whole; spelled = operand h.spelled; stops = h.stops }

pub fails_zero : (source : List ℕ) (room : ℕ) (tokens : List Token) (left : ℕ) → OperandFails source room tokens left → LevelFails source room 0 tokens left
fails_zero source room tokens left h = record {
  before = h.before;
  rest = h.rest;
  whole = h.whole;
  count = h.count;
  viable = (h.viable.0, h.viable.1, operand h.viable.2);
  stuck = λ others a r same t. h.stuck others a r same (record { used = t.used; whole = t.whole; spelled = level_zero t.spelled; stops = t.stops });
}

pub refuses_zero : (source : List ℕ) (room : ℕ) (tokens : List Token) (f : Failure) → Refuses (OperandFails source room) tokens f → Refuses (LevelFails source room 0) tokens f
refuses_zero source room tokens (Broken left) h = fails_zero source room tokens left h
refuses_zero source room tokens Memory h = tt

-- ---- a chain

-- what has been read of a chain: whatever comes of the rest comes of the whole
pub record ChainSoFar (source : List ℕ) (room level : ℕ) (tokens : List Token) (head : Expr Word) (items : List (BinOp × Expr Word)) (left : List Token) : Type 0 where
  pub ends : Ends level left
  pub takes : (es : List (BinOp × Expr Word)) (r : List Token) → RestTakes source room level left es r → LevelTakes source room (suc level) tokens (grown head (items ++ es)) r
  pub fails : (n : ℕ) → RestFails source room level left n → LevelFails source room (suc level) tokens n

-- a front of a chain, as its first operand and the rest
split_chain : (source : List ℕ) (room level : ℕ) (used i : List Token) (head a : Expr Word) (r : List Token) → SpellsLevel source room level used head → Ends level i →
    LevelTakes source room (suc level) (used ++ i) a r → (es : List (BinOp × Expr Word)) × RestTakes source room level i es r
split_chain source room level used i head a r d ends t =
    let k = level_suc t.spelled in
    let whole : used ++ i ≡ k.front ++ (k.back ++ r) = t.whole ∙ ap (λ x. x ++ r) k.whole ∙ append_assoc k.front k.back r in
    let u = unique_level d k.front k.head i (k.back ++ r) ends k.operand (ends_rest k.more r t.stops) whole in
    (k.others, record { used = k.back; whole = u.0; spelled = k.more; stops = t.stops })

pub chain_begins : (source : List ℕ) (room level : ℕ) (tokens : List Token) (head : Expr Word) (left : List Token) → LevelTakes source room level tokens head left → ChainSoFar source room level tokens head [] left
chain_begins source room level tokens head left h = record {
  ends = h.stops;
  takes = λ es r t. record {
    used = h.used ++ t.used;
    whole = h.whole ∙ ap (λ x. h.used ++ x) t.whole ∙ sym (append_assoc h.used t.used r);
    spelled = chain h.spelled t.spelled;
    stops = t.stops;
  };
  fails = λ n f. fails_behind (SpellsRest source room level) (λ _. Ends (suc level)) (SpellsLevel source room (suc level)) (λ _. Ends (suc level)) h.used left tokens n h.whole f
      (λ v es d. ([], grown head es, subst (λ x. SpellsLevel source room (suc level) x (grown head es)) (sym (append-nil (h.used ++ v))) (chain h.spelled d)))
      (λ others c r _ same t. let k = split_chain source room level h.used others head c r h.spelled (ends_same level others left same h.stops) t in (k.0, r, k.1));
}

-- one more operator with its operand
rest_takes : (source : List ℕ) (room level : ℕ) (t : Token) (op : BinOp) (i : List Token) (e : Expr Word) (left : List Token) (es : List (BinOp × Expr Word)) (r : List Token) →
    binary_in t.sort ≡ Some op → level_of op ≡ suc level → LevelTakes source room level i e left → RestTakes source room level left es r → RestTakes source room level (t ∷ i) ((op, e) ∷ es) r
rest_takes source room level t op i e left es r is at h k = record {
  used = t ∷ (h.used ++ k.used);
  whole = ap (λ x. t ∷ x) (h.whole ∙ ap (λ x. h.used ++ x) k.whole ∙ sym (append_assoc h.used k.used r));
  spelled = more t op is at h.spelled k.spelled;
  stops = k.stops;
}

-- a front of a rest, from its first operator on
record RestOpened (source : List ℕ) (room level : ℕ) (i : List Token) (r : List Token) : Type 0 where
  pub e : Expr Word
  pub others : List (BinOp × Expr Word)
  pub left : List Token
  pub operand : LevelTakes source room level i e left
  pub more : RestTakes source room level left others r

open_rest : (source : List ℕ) (room level : ℕ) (t : Token) (op : BinOp) (i : List Token) (a : List (BinOp × Expr Word)) (r : List Token) →
    binary_in t.sort ≡ Some op → level_of op ≡ suc level → RestTakes source room level (t ∷ i) a r → RestOpened source room level i r
open_rest source room level t op i a r is at k =
    let v = rest_after k.spelled t op i r is at k.stops (sym k.whole) in
    record {
      e = v.e;
      others = v.others;
      left = v.v ++ r;
      operand = record { used = v.w; whole = v.whole; spelled = v.operand; stops = ends_rest v.more r k.stops };
      more = record { used = v.v; whole = refl; spelled = v.more; stops = k.stops };
    }

rest_fails : (source : List ℕ) (room level : ℕ) (t : Token) (op : BinOp) (i : List Token) (e : Expr Word) (left : List Token) (n : ℕ) →
    binary_in t.sort ≡ Some op → level_of op ≡ suc level → LevelTakes source room level i e left → RestFails source room level left n → RestFails source room level (t ∷ i) n
rest_fails source room level t op i e left n is at h f =
    fails_behind (SpellsRest source room level) (λ _. Ends (suc level)) (SpellsRest source room level) (λ _. Ends (suc level)) (t ∷ h.used) left (t ∷ i) n (ap (λ x. t ∷ x) h.whole) f
    (λ v es d. ([], (op, e) ∷ es, subst (λ x. SpellsRest source room level (t ∷ x) ((op, e) ∷ es)) (sym (append-nil (h.used ++ v))) (more t op is at h.spelled d)))
    (λ others c r _ same k.
    let o = open_rest source room level t op (h.used ++ others) c r is at k in
    let u = unique_level h.spelled o.operand.used o.e others o.left (ends_same level others left same h.stops) o.operand.spelled o.operand.stops o.operand.whole in
    (o.others, r, subst (λ x. RestTakes source room level x o.others r) (sym u.0) o.more))

operand_fails : (source : List ℕ) (room level : ℕ) (t : Token) (op : BinOp) (i : List Token) (n : ℕ) →
    binary_in t.sort ≡ Some op → level_of op ≡ suc level → LevelFails source room level i n → RestFails source room level (t ∷ i) n
operand_fails source room level t op i n is at f =
    fails_behind (SpellsLevel source room level) (λ _. Ends level) (SpellsRest source room level) (λ _. Ends (suc level)) (t ∷ []) i (t ∷ i) n refl f
    (λ v e d. ([], (op, e) ∷ [], more t op is at d none))
    (λ others c r _ same k. let o = open_rest source room level t op others c r is at k in (o.e, o.left, o.operand))

-- where the first operand fails, the chain does
head_fails : (source : List ℕ) (room level : ℕ) (tokens : List Token) (n : ℕ) → LevelFails source room level tokens n → LevelFails source room (suc level) tokens n
head_fails source room level tokens n f =
    fails_behind (SpellsLevel source room level) (λ _. Ends level) (SpellsLevel source room (suc level)) (λ _. Ends (suc level)) [] tokens tokens n refl f
    (λ v e d. ([], e, chain d none))
    (λ others c r _ same t.
    let k = level_suc t.spelled in (
      k.head,
      k.back ++ r,
      record {
        used = k.front;
        whole = t.whole ∙ ap (λ x. x ++ r) k.whole ∙ append_assoc k.front k.back r;
        spelled = k.operand;
        stops = ends_rest k.more r t.stops;
      },
    ))

-- ---- the same, as the code numbers its levels

pub chain_head_fails : (source : List ℕ) (room level full : ℕ) (tokens : List Token) (n : ℕ) → full ≡ suc level → LevelFails source room level tokens n → LevelFails source room full tokens n
chain_head_fails source room level full tokens n eq f = subst (λ x. LevelFails source room x tokens n) (sym eq) (head_fails source room level tokens n f)

pub chain_head_refuses : (source : List ℕ) (room level full : ℕ) (tokens : List Token) (f : Failure) → full ≡ suc level → Refuses (LevelFails source room level) tokens f → Refuses (LevelFails source room full) tokens f
chain_head_refuses source room level full tokens (Broken n) eq h = chain_head_fails source room level full tokens n eq h
chain_head_refuses source room level full tokens Memory eq h = tt

pub chain_goes_on : (source : List ℕ) (room level full : ℕ) (tokens : List Token) (head : Expr Word) (items : List (BinOp × Expr Word)) (left : List Token) (op : BinOp) (i : List Token) (e : Expr Word) (after : List Token) (longer : List (BinOp × Expr Word)) →
    full ≡ suc level → ChainSoFar source room level tokens head items left → ComesNext full left op i → LevelTakes source room level i e after → longer ≡ items ++ (op, e) ∷ [] →
    ChainSoFar source room level tokens head longer after
chain_goes_on source room level full tokens head items left op i e after longer deep s next h grows =
    let at : level_of op ≡ suc level = next.at ∙ deep in
    subst (λ x. ChainSoFar source room level tokens head x after) (sym grows) (record {
      ends = h.stops;
      takes = λ es r k. subst (λ x. LevelTakes source room (suc level) tokens (grown head x) r) (sym (append_assoc items ((op, e) ∷ []) es))
          (s.takes ((op, e) ∷ es) r (subst (λ x. RestTakes source room level x ((op, e) ∷ es) r) (sym next.whole) (rest_takes source room level next.token op i e after es r next.is at h k)));
      fails = λ n f. s.fails n (subst (λ x. RestFails source room level x n) (sym next.whole) (rest_fails source room level next.token op i e after n next.is at h f));
    })

pub chain_fails : (source : List ℕ) (room level full : ℕ) (tokens : List Token) (head : Expr Word) (items : List (BinOp × Expr Word)) (left : List Token) (op : BinOp) (i : List Token) (n : ℕ) →
    full ≡ suc level → ChainSoFar source room level tokens head items left → ComesNext full left op i → LevelFails source room level i n →
    LevelFails source room full tokens n
chain_fails source room level full tokens head items left op i n deep s next f =
    subst (λ x. LevelFails source room x tokens n) (sym deep)
    (s.fails n (subst (λ x. RestFails source room level x n) (sym next.whole) (operand_fails source room level next.token op i n next.is (next.at ∙ deep) f)))

pub chain_refuses : (source : List ℕ) (room level full : ℕ) (tokens : List Token) (head : Expr Word) (items : List (BinOp × Expr Word)) (left : List Token) (op : BinOp) (i : List Token) (f : Failure) →
    full ≡ suc level → ChainSoFar source room level tokens head items left → ComesNext full left op i → Refuses (LevelFails source room level) i f →
    Refuses (LevelFails source room full) tokens f
chain_refuses source room level full tokens head items left op i (Broken n) deep s next f = chain_fails source room level full tokens head items left op i n deep s next f
chain_refuses source room level full tokens head items left op i Memory deep s next f = tt

pub chain_ends : (source : List ℕ) (room level full : ℕ) (tokens : List Token) (head : Expr Word) (items : List (BinOp × Expr Word)) (left : List Token) (e : Expr Word) →
    full ≡ suc level → ChainSoFar source room level tokens head items left → NoneNext full left → e ≡ grown head items → LevelTakes source room full tokens e left
chain_ends source room level full tokens head items left e deep s none_next is =
    let ends : Ends (suc level) left = λ n eq.
    let a : level < n = s.ends n eq in
    let b : n ≡ full → ⊥ = (λ (h : n ≡ full). none_next.none (eq ∙ ap Some h)) in
    omega arith in
    subst (λ x. LevelTakes source room full tokens x left) (sym is)
    (subst (λ x. LevelTakes source room x tokens (grown head items) left) (sym deep)
    (subst (λ x. LevelTakes source room (suc level) tokens (grown head x) left) (append-nil items) (s.takes [] left (record { used = []; whole = refl; spelled = none; stops = ends }))))

pub level_shorter : (source : List ℕ) (room level : ℕ) (tokens : List Token) (e : Expr Word) (rest : List Token) → LevelTakes source room level tokens e rest → length rest ≤ length tokens
level_shorter source room level tokens e rest h = omega (arith, length-append h.used rest, ap length h.whole)

pub ruleset chain_steps = (takes_zero, refuses_zero, chain_begins, chain_head_refuses, chain_goes_on, chain_refuses, chain_ends, level_shorter)
