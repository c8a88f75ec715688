-- One lemma for each way on which the parser of a program answers, and the place of refusal.
use Rattle.std.proofs.Common.{◌≡◌, ℕ, suc, ◌+◌, ◌-◌, ◌<◌, ◌≤◌, List, [], ◌∷◌, ◌++◌, length, drop, refl, sym, ap, subst, ◌∙◌, append_assoc, append-nil, length-append, arith}
use Rattle.pt_base.specs.declared.rules.Rule.TheVariants.{S1}
use Rattle.pt_base.specs.declared.rules.Span.{Span}
use Rattle.pc_grammar.specs.declared.tokens.Token.{Token}
use Rattle.pc_grammar.specs.Lexing.{Lexes, whole}
use Rattle.pc_grammar.specs.declared.programs.Item.{Item}
use Rattle.pc_parse.specs.declared.reading.Failure.{Failure}
use Rattle.pc_parse.specs.declared.reading.Failure.TheVariants.{Broken, Memory}
use Rattle.pc_grammar.specs.Refusing.{first}
use Rattle.pc_parse.specs.Reading.{Takes, Refuses, Always, AtEnd}
use Rattle.pc_parse.proofs.Behind.{fails_behind}
use Rattle.pc_parse.proofs.WholeExpression.{refused_where}
use Rattle.pc_grammar.specs.Items.{SpellsItem}
use Rattle.pc_parse.specs.Items.{ItemTakes, ItemFails}
use Rattle.pc_grammar.specs.Programs.{IsProgram, none, more, OneProgram, span_at, IsBroken}
use Rattle.pc_parse.specs.Programs.{ProgramFails}
use Rattle.pc_grammar.specs.Trees.{IsTree}
use Rattle.pc_parse.proofs.Openings.{item_begins}
use Rattle.pc_parse.proofs.ItemSteps.{unique_item}

-- ---- a program that isn't at its end begins with an item

pub record ProgramParts (source : List ℕ) (ts : List Token) (all : List Item) : Type 0 where
  pub front : List Token
  pub v : List Token
  pub item : Item
  pub others : List Item
  pub one : SpellsItem source front item
  pub rest : IsProgram source v others
  pub tree : all ≡ item ∷ others
  pub whole : ts ≡ front ++ v

program_parts : {source : List ℕ} {w : List Token} {all : List Item} → IsProgram source w all → (t : Token) (i : List Token) → w ≡ t ∷ i → ProgramParts source (t ∷ i) all
program_parts none t i eq = cc
program_parts (more {w = w} {v = v} {i = item} {rest = others} d ds) t i eq = record { front = w; v = v; item = item; others = others; one = d; rest = ds; tree = refl; whole = sym eq }

empty_program : {source : List ℕ} {w : List Token} {all : List Item} → IsProgram source w all → [] ≡ w → [] ≡ all
empty_program none eq = refl
empty_program (more {v = v} d ds) eq = let b = item_begins d v in let e : [] ≡ b.0 ∷ b.1 = eq ∙ b.2 in cc

unique_program : {source : List ℕ} {w : List Token} {a : List Item} → IsProgram source w a → (w' : List Token) (a' : List Item) → IsProgram source w' a' → w ≡ w' → a ≡ a'
unique_program none w' a' d' eq = empty_program d' eq
unique_program (more {v = v} {rest = others} d ds) w' a' d' eq =
    let b = item_begins d v in
    let k = program_parts d' b.0 b.1 (sym eq ∙ b.2) in
    let u = unique_item d k.front k.item v k.v k.one (b.2 ∙ k.whole) in
    let s = unique_program ds k.v k.others k.rest u.0 in
    ap (λ x. x ∷ others) u.1 ∙ ap (λ x. k.item ∷ x) s ∙ sym k.tree

pub one_program : OneProgram
one_program source ts a b p q = unique_program p ts b q refl

-- ---- the loop over items

-- what has been read of a program: whatever comes of the rest comes of the whole
pub record ItemsSoFar (source : List ℕ) (ts : List Token) (items : List Item) (left : List Token) : Type 0 where
  pub takes : (all : List Item) → IsProgram source left all → IsProgram source ts (items ++ all)
  pub fails : (n : ℕ) → ProgramFails source left n → ProgramFails source ts n

pub items_begin : (source : List ℕ) (ts : List Token) → ItemsSoFar source ts [] ts
items_begin source ts = record { takes = λ all d. d; fails = λ n f. f }

-- a whole program, from its first token on
whole_used : (source : List ℕ) (ts : List Token) (c : List Item) (r : List Token) → (k : Takes (IsProgram source) AtEnd ts c r) → k.used ≡ ts
whole_used source ts c r k = sym (k.whole ∙ ap (λ x. k.used ++ x) k.stops ∙ append-nil k.used)

pub items_go_on : (source : List ℕ) (ts : List Token) (items : List Item) (left : List Token) (one : Item) (after : List Token) (longer : List Item) → ItemsSoFar source ts items left → ItemTakes source left one after → longer ≡ items ++ one ∷ [] → ItemsSoFar source ts longer after
items_go_on source ts items left one after longer so h grows = record {
  takes = λ all d. subst (IsProgram source ts) (sym (ap (λ x. x ++ all) grows ∙ append_assoc items (one ∷ []) all))
      (so.takes (one ∷ all) (subst (λ x. IsProgram source x (one ∷ all)) (sym h.whole) (more h.spelled d)));
  fails = λ n f. so.fails n (fails_behind (IsProgram source) AtEnd (IsProgram source) AtEnd h.used after left n h.whole f
      (λ v all d. ([], one ∷ all, subst (λ x. IsProgram source x (one ∷ all)) (sym (append-nil (h.used ++ v))) (more h.spelled d)))
      (λ others c r _ same k.
      let b = item_begins h.spelled others in
      let v = program_parts k.spelled b.0 b.1 (whole_used source (h.used ++ others) c r k ∙ b.2) in
      let u = unique_item h.spelled v.front v.item others v.v v.one (b.2 ∙ v.whole) in
      (v.others, [], record { used = v.v; whole = u.0 ∙ sym (append-nil v.v); spelled = v.rest; stops = refl })));
}

-- the first item of tokens that aren't at their end
first_item : (source : List ℕ) (left others : List Token) (c : List Item) (r : List Token) → 0 < length left → first others ≡ first left → Takes (IsProgram source) AtEnd others c r → (item : Item) × (back : List Token) × Takes (SpellsItem source) Always others item back
first_item source [] others c r some same k = absurd (omega arith)
first_item source (t ∷ i) [] c r some same k = cc
first_item source (t ∷ i) (x ∷ xs) c r some same k =
    let v = program_parts k.spelled x xs (whole_used source (x ∷ xs) c r k) in
    (v.item, v.v, record { used = v.front; whole = v.whole; spelled = v.one; stops = tt })

pub items_refuse : (source : List ℕ) (ts : List Token) (items : List Item) (left : List Token) (f : Failure) → ItemsSoFar source ts items left → 0 < length left → Refuses (ItemFails source) left f → Refuses (ProgramFails source) ts f
items_refuse source ts items left (Broken n) so some f = so.fails n (fails_behind (SpellsItem source) Always (IsProgram source) AtEnd [] left left n refl f
    (λ v item d. ([], item ∷ [], more d none))
    (λ others c r same _ k. first_item source left others c r some same k))
items_refuse source ts items left Memory so some f = tt

pub items_end : (source : List ℕ) (ts : List Token) (items : List Item) (left : List Token) → ItemsSoFar source ts items left → (0 < length left → ⊥) → IsProgram source ts items
items_end source ts items left so other = subst (IsProgram source ts) (append-nil items) (so.takes [] (at_end left other))
  where
    at_end : (left : List Token) → (0 < length left → ⊥) → IsProgram source left []
    at_end [] other = none
    at_end (t ∷ i) other = absurd (other (omega arith))

pub item_shorter : (source : List ℕ) (ts : List Token) (one : Item) (rest : List Token) → ItemTakes source ts one rest → length rest < length ts
item_shorter source ts one rest h =
    let b = item_begins h.spelled [] in
    let used : length (h.used ++ []) ≡ suc (length b.1) = ap length b.2 in
    omega (arith, length-append h.used rest, length-append h.used [], ap length h.whole)

pub ruleset items_steps = (items_begin, items_go_on, items_refuse, items_end, item_shorter)

-- ---- the place of refusal

drop_front : (u v : List Token) (n : ℕ) → n ≡ length u → drop n (u ++ v) ≡ v
drop_front [] v n eq = rw eq
drop_front (t ∷ u) v n eq = rw eq (drop_front u v (length u) refl)

pub broken_at : (source : List ℕ) (ts : List Token) (length_of : ℕ) (left : ℕ) (span : Span) → ProgramFails source ts left → span ≡ span_at length_of (drop (length ts - left) ts) → IsBroken source ts length_of S1 span
broken_at source ts length_of left span f at =
    let r = refused_where (IsProgram source) ts left f in
    let lengths : length ts ≡ length r.before + length r.rest = ap length r.whole ∙ length-append r.before r.rest in
    let count : length r.rest ≡ left = r.count in
    let n : length ts - left ≡ length r.before = omega arith in
    record { is = refl; left = left; refused = r; place = at ∙ ap (span_at length_of) (ap (drop (length ts - left)) r.whole ∙ drop_front r.before r.rest (length ts - left) n) }

pub fails_within : (source : List ℕ) (ts : List Token) (left : ℕ) → ProgramFails source ts left → left ≤ length ts
fails_within source ts left f = omega (arith, length-append f.before f.rest, ap length f.whole, f.count)

-- the tokens of a text spell its program
pub is_tree : (text : List ℕ) (tokens : List Token) (items : List Item) (n : ℕ) → Lexes 0 text tokens whole → n ≡ length text → IsProgram text tokens items → IsTree (record { items = items; length = n })
is_tree text tokens items n cut same spelled = record { source = text; tokens = tokens; cut = cut; spelled = spelled; length_is = same }

pub ruleset parse_steps = (broken_at, fails_within, is_tree)
