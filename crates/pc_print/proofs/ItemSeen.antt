-- Tokens that look like the canonical ones of items spell the same ones but for places.
use Rattle.std.proofs.Common.{◌≡◌, ℕ, suc, ℤ, pos, negsuc, Bool, true, false, List, [], ◌∷◌, ◌++◌, Option, Some, None, map, w32, FitsSigned, rules, refl, sym, ap, subst, ◌∙◌, append_assoc}
use Rattle.std.specs.Option.{option_map}
use Rattle.std.proofs.lemmas.Int.{int_wrap_fits}
use Rattle.pc_grammar.specs.declared.tokens.Sort.TheVariants.{Number as NumberSort, OpenParenthesis, CloseParenthesis, OpenBracket, CloseBracket, Semicolon, Equals, Minus, IntWord, VoidWord, ReturnWord, ReactiveInputWord, ReactiveOutputWord, OpenBrace, CloseBrace}
use Rattle.pc_grammar.specs.declared.tokens.Token.{Token}
use Rattle.pc_grammar.specs.declared.expressions.Word.{Word}
use Rattle.pc_grammar.specs.declared.expressions.Expr.{Expr}
use Rattle.pc_grammar.specs.declared.programs.CellKind.{CellKind}
use Rattle.pc_grammar.specs.declared.programs.CellKind.TheVariants.{Input, Output, Plain}
use Rattle.pc_grammar.specs.declared.programs.Item.{Item}
use Rattle.pc_grammar.specs.declared.programs.Item.TheVariants.{Scalar, Array, Function}
use Rattle.pc_grammar.specs.Expressions.{word_at}
use Rattle.pc_grammar.specs.declared.frames.Frame.{Frame}
use Rattle.pc_grammar.specs.Constants.{ended, SpellsStart, positive, negative}
use Rattle.pc_grammar.specs.Frames.{SpellsParameter, parameter, SpellsParameters, nothing, void, some, SpellsLocal, bare as bare_local_rule, valued, SpellsLocals, none, more, SpellsFrame, framed}
use Rattle.pc_grammar.specs.Items.{size, SpellsReactive, reactive, SpellsFunction, function as function_rule, SpellsNamedItem, plain as plain_rule, started, array as array_rule, giving, SpellsItem, input, output, named, routine}
use Rattle.pc_grammar.specs.Programs.{IsProgram, none as no_items, more as more_items}
use Rattle.pc_print.specs.Parts.{mark, blank}
use Rattle.pc_print.specs.Canonical.{expression, in_parentheses, listed as listed_parts, equals, line, statements, signed, reactive as reactive_parts, declared, local, locals, returned, type_name, typed, head_line, item, items}
use Rattle.pc_print.specs.Tokens.{token_of, tokens, plain, bare}
use Rattle.pc_print.proofs.Spelled.{tokens-append}
use Rattle.pc_print.proofs.Respelled.{empty_of_map}
use Rattle.pc_print.specs.Same.{bare_statements}
use Rattle.pc_print.specs.SameItems.{scalar, array, function, bytes_of, bare_local, bare_item}
use Rattle.pc_print.proofs.Alike.{Looks, looks_as, head_of, cut_of, only_of, sort_same, name_token, name_same, between_alike, Seen, seen_as, Again, listed_seen}
use Rattle.pc_print.proofs.Settings.{line-tokens, stop-tokens}
use Rattle.pc_print.proofs.Bodies.{parts_seen}
use Rattle.pc_print.proofs.ItemReading.{start_fits}

-- ---- words and names

parameter_again : (source again : List ℕ) → Again source again (SpellsParameter source) (SpellsParameter again) declared bytes_of
parameter_again source again w x (parameter t n is_int is_name) v h =
    let k = head_of source again v (token_of IntWord) (name_token (word_at source n) ∷ []) h in
    let m = only_of source again k.rest (name_token (word_at source n)) k.left in
    seen_as (SpellsParameter again) bytes_of v (k.first ∷ m.first ∷ []) (word_at source n) (k.whole ∙ ap (λ r. k.first ∷ r) m.whole)
    (record {
      tree = word_at again m.first;
      spelled = parameter k.first m.first (sort_same source again (token_of IntWord) k.first k.is) (sort_same source again (name_token (word_at source n)) m.first m.is);
      same = name_same source again n m.first m.is;
    })

-- `= n ;` with the word's sign
abbrev start_tokens : ℤ → List Token
start_tokens z = token_of Equals ∷ (tokens (signed z) ++ token_of Semicolon ∷ [])

start_seen : (source again : List ℕ) (z : ℤ) → FitsSigned w32 z → (v : List Token) → Looks source again v (start_tokens z) → SpellsStart v z
start_seen source again (pos n) fits v h =
    let k = head_of source again v (token_of Equals) (token_of (NumberSort n) ∷ token_of Semicolon ∷ []) h in
    let m = head_of source again k.rest (token_of (NumberSort n)) (token_of Semicolon ∷ []) k.left in
    let last = only_of source again m.rest (token_of Semicolon) m.left in
    let whole : v ≡ k.first ∷ m.first ∷ last.first ∷ [] = k.whole ∙ ap (λ r. k.first ∷ r) (m.whole ∙ ap (λ r. m.first ∷ r) last.whole) in
    let d = positive k.first (sort_same source again (token_of Equals) k.first k.is) (ended m.first last.first (sort_same source again (token_of (NumberSort n)) m.first m.is) (sort_same source again (token_of Semicolon) last.first last.is)) in
    subst (λ x. SpellsStart x (pos n)) (sym whole) (subst (λ z. SpellsStart (k.first ∷ m.first ∷ last.first ∷ []) z) (int_wrap_fits w32 (pos n) fits) d)
start_seen source again (negsuc n) fits v h =
    let k = head_of source again v (token_of Equals) (token_of Minus ∷ token_of (NumberSort (suc n)) ∷ token_of Semicolon ∷ []) h in
    let i = head_of source again k.rest (token_of Minus) (token_of (NumberSort (suc n)) ∷ token_of Semicolon ∷ []) k.left in
    let m = head_of source again i.rest (token_of (NumberSort (suc n))) (token_of Semicolon ∷ []) i.left in
    let last = only_of source again m.rest (token_of Semicolon) m.left in
    let whole : v ≡ k.first ∷ i.first ∷ m.first ∷ last.first ∷ [] = k.whole ∙ ap (λ r. k.first ∷ r) (i.whole ∙ ap (λ r. i.first ∷ r) (m.whole ∙ ap (λ r. m.first ∷ r) last.whole)) in
    let d = negative k.first i.first (sort_same source again (token_of Equals) k.first k.is) (sort_same source again (token_of Minus) i.first i.is)
    (ended m.first last.first (sort_same source again (token_of (NumberSort (suc n))) m.first m.is) (sort_same source again (token_of Semicolon) last.first last.is)) in
    subst (λ x. SpellsStart x (negsuc n)) (sym whole) (subst (λ z. SpellsStart (k.first ∷ i.first ∷ m.first ∷ last.first ∷ []) z) (int_wrap_fits w32 (negsuc n) fits) d)

-- ---- the tokens of items

scalar-tokens : (kind : CellKind) (x : Word) (z : ℤ) → tokens (item (Scalar kind x z)) ≡ tokens (reactive_parts kind) ++ (tokens (declared x) ++ start_tokens z)
scalar-tokens kind x z =
    line-tokens 0 (reactive_parts kind ++ (declared x ++ (equals ++ (signed z ++ mark Semicolon ∷ []))))
    ∙ tokens-append (reactive_parts kind) (declared x ++ (equals ++ (signed z ++ mark Semicolon ∷ [])))
    ∙ ap (λ r. tokens (reactive_parts kind) ++ (tokens (declared x) ++ (token_of Equals ∷ r))) (stop-tokens (signed z))

abbrev size_tokens : ℕ → List Token
size_tokens n = token_of OpenBracket ∷ token_of (NumberSort n) ∷ token_of CloseBracket ∷ token_of Semicolon ∷ []

array-tokens : (x : Word) (n : ℕ) → tokens (item (Array x n)) ≡ tokens (declared x) ++ size_tokens n
array-tokens x n = refl

local_seen : (source again : List ℕ) {w : List Token} {p : Word × Option (Expr Word)} → SpellsLocal source w p → (v : List Token) → Looks source again v (tokens (local p)) → Seen (SpellsLocal again) bare_local v p
local_seen source again (bare_local_rule {w = w} {name = x} z is d) v h =
    let c = cut_of source again v (tokens (declared x)) (token_of Semicolon ∷ []) (looks_as source again v (tokens (local (x, None))) (tokens (declared x) ++ token_of Semicolon ∷ []) refl h) in
    let i = parameter_again source again w x d c.front c.is in
    let last = only_of source again c.back (token_of Semicolon) c.left in
    let p : Word × Option (Expr Word) = (x, None) in
    seen_as (SpellsLocal again) bare_local v (c.front ++ last.first ∷ []) p (c.whole ∙ ap (λ r. c.front ++ r) last.whole)
    (record { tree = (i.tree, None); spelled = bare_local_rule last.first (sort_same source again (token_of Semicolon) last.first last.is) i.spelled; same = ap (λ y. let k : List ℕ × Option (Expr (List ℕ)) = (y, None) in k) i.same })
local_seen source again (valued {w = w} {name = x} {e = e} d b) v h =
    let set = token_of Equals ∷ (tokens (expression e) ++ token_of Semicolon ∷ []) in
    let eq : tokens (local (x, Some e)) ≡ tokens (declared x) ++ set = line-tokens 1 (declared x ++ ((equals ++ expression e) ++ mark Semicolon ∷ [])) ∙ ap (λ r. tokens (declared x) ++ (token_of Equals ∷ r)) (stop-tokens (expression e)) in
    let c = cut_of source again v (tokens (declared x)) set (looks_as source again v (tokens (local (x, Some e))) (tokens (declared x) ++ set) eq h) in
    let i = parameter_again source again w x d c.front c.is in
    let j = between_alike b again c.back c.left in
    let p : Word × Option (Expr Word) = (x, Some e) in
    seen_as (SpellsLocal again) bare_local v (c.front ++ c.back) p c.whole
    (record {
      tree = (i.tree, Some j.tree);
      spelled = valued i.spelled j.spelled;
      same = ap (λ y. let k : List ℕ × Option (Expr (List ℕ)) = (y, Some (bare j.tree)) in k) i.same ∙ ap (λ y. let k : List ℕ × Option (Expr (List ℕ)) = (x.text, Some y) in k) j.same;
    })

locals_seen : (source again : List ℕ) {w : List Token} {ls : List (Word × Option (Expr Word))} → SpellsLocals source w ls → (v : List Token) → Looks source again v (tokens (locals ls)) → Seen (SpellsLocals again) (map bare_local) v ls
locals_seen source again none v h = record { tree = []; spelled = subst (λ x. SpellsLocals again x []) (sym (empty_of_map (plain again) v h)) none; same = refl }
locals_seen source again (more {one = p} {rest = rest} d ds) v h =
    let c = cut_of source again v (tokens (local p)) (tokens (locals rest)) (looks_as source again v (tokens (locals (p ∷ rest))) (tokens (local p) ++ tokens (locals rest)) (tokens-append (local p) (locals rest)) h) in
    let i = local_seen source again d c.front c.is in
    let j = locals_seen source again ds c.back c.left in
    seen_as (SpellsLocals again) (map bare_local) v (c.front ++ c.back) (p ∷ rest) c.whole
    (record { tree = i.tree ∷ j.tree; spelled = more i.spelled j.spelled; same = ap (λ y. y ∷ map bare_local j.tree) i.same ∙ ap (λ r. bare_local p ∷ r) j.same })

no_parameters_seen : (source again : List ℕ) (v : List Token) → Looks source again v (token_of OpenParenthesis ∷ token_of CloseParenthesis ∷ []) → Seen (SpellsParameters again) (map bytes_of) v []
no_parameters_seen source again v h =
    let k = head_of source again v (token_of OpenParenthesis) (token_of CloseParenthesis ∷ []) h in
    let z = only_of source again k.rest (token_of CloseParenthesis) k.left in
    seen_as (SpellsParameters again) (map bytes_of) v (k.first ∷ z.first ∷ []) [] (k.whole ∙ ap (λ r. k.first ∷ r) z.whole)
    (record { tree = []; spelled = nothing k.first z.first (sort_same source again (token_of OpenParenthesis) k.first k.is) (sort_same source again (token_of CloseParenthesis) z.first z.is); same = refl })

parameters_seen : (source again : List ℕ) {w : List Token} {ps : List Word} → SpellsParameters source w ps → (v : List Token) → Looks source again v (tokens (in_parentheses (listed_parts declared ps))) → Seen (SpellsParameters again) (map bytes_of) v ps
parameters_seen source again (nothing a b opens closes) v h = no_parameters_seen source again v h
parameters_seen source again (void a b c opens is closes) v h = no_parameters_seen source again v h
parameters_seen source again (some d) v h =
    let i = listed_seen source again (SpellsParameter source) (SpellsParameter again) declared bytes_of (parameter_again source again) d v h in
    record { tree = i.tree; spelled = some i.spelled; same = i.same }

-- what a frame is without places
record FrameSeen (again : List ℕ) (v : List Token) (f : Frame) : Type 0 where
  tree : Frame
  spelled : SpellsFrame again v tree
  parameters : map bytes_of tree.parameters ≡ map bytes_of f.parameters
  locals : map bare_local tree.locals ≡ map bare_local f.locals
  body : bare_statements tree.body ≡ bare_statements f.body

abbrev frame_tokens : Frame → List Token
frame_tokens f = tokens (in_parentheses (listed_parts declared f.parameters)) ++ (token_of OpenBrace ∷ (tokens (locals f.locals) ++ tokens (statements 1 f.body)))

frame_seen : (source again : List ℕ) {w : List Token} {f : Frame} → SpellsFrame source w f → (v : List Token) → Looks source again v (frame_tokens f) → FrameSeen again v f
frame_seen source again (framed {ps = ps} {ls = ls} {all = all} b is p l d) v h =
    let c = cut_of source again v (tokens (in_parentheses (listed_parts declared ps))) (token_of OpenBrace ∷ (tokens (locals ls) ++ tokens (statements 1 all))) h in
    let k = head_of source again c.back (token_of OpenBrace) (tokens (locals ls) ++ tokens (statements 1 all)) c.left in
    let u = cut_of source again k.rest (tokens (locals ls)) (tokens (statements 1 all)) k.left in
    let i = parameters_seen source again p c.front c.is in
    let j = locals_seen source again l u.front u.is in
    let m = parts_seen d again 1 u.back u.left in
    let whole : v ≡ c.front ++ k.first ∷ (u.front ++ u.back) = c.whole ∙ ap (λ r. c.front ++ r) (k.whole ∙ ap (λ r. k.first ∷ r) u.whole) in
    let t : Frame = record { parameters = i.tree; locals = j.tree; body = m.tree } in
    record {
      tree = t;
      spelled = subst (λ x. SpellsFrame again x t) (sym whole) (framed k.first (sort_same source again (token_of OpenBrace) k.first k.is) i.spelled j.spelled m.spelled);
      parameters = i.same;
      locals = j.same;
      body = m.same;
    }

-- ---- functions

abbrev returned_tokens : Expr Word → List Token
returned_tokens e = token_of ReturnWord ∷ (tokens (expression e) ++ token_of Semicolon ∷ [])

returned-tokens : (e : Expr Word) → tokens (returned (Some e)) ≡ returned_tokens e
returned-tokens e = line-tokens 1 (mark ReturnWord ∷ blank ∷ (expression e ++ mark Semicolon ∷ [])) ∙ ap (λ r. token_of ReturnWord ∷ r) (stop-tokens (expression e))

regrouped : (p l b z : List Token) (t : Token) → (p ++ t ∷ []) ++ (l ++ (b ++ z)) ≡ (p ++ (t ∷ (l ++ b))) ++ z
regrouped p l b z t = append_assoc p (t ∷ []) (l ++ (b ++ z)) ∙ ap (λ r. p ++ (t ∷ r)) (sym (append_assoc l b z)) ∙ sym (append_assoc p (t ∷ (l ++ b)) z)

-- the tokens behind a function's name
abbrev behind_name : Frame → Option (Expr Word) → List Token
behind_name f result = frame_tokens f ++ (tokens (returned result) ++ token_of CloseBrace ∷ [])

head-tokens : (x : Word) (gives : Bool) (ps : List Word) → tokens (head_line x gives ps) ≡ token_of (type_name gives) ∷ name_token x ∷ (tokens (in_parentheses (listed_parts declared ps)) ++ token_of OpenBrace ∷ [])
head-tokens x gives ps =
    line-tokens 0 (typed x gives ++ (in_parentheses (listed_parts declared ps) ++ blank ∷ mark OpenBrace ∷ []))
    ∙ ap (λ r. token_of (type_name gives) ∷ name_token x ∷ r) (tokens-append (in_parentheses (listed_parts declared ps)) (blank ∷ mark OpenBrace ∷ []))

function-tokens : (x : Word) (gives : Bool) (f : Frame) (result : Option (Expr Word)) → tokens (item (Function x gives f.parameters f.locals f.body result)) ≡ token_of (type_name gives) ∷ name_token x ∷ behind_name f result
function-tokens x gives f result =
    let last = line 0 (mark CloseBrace ∷ []) in
    let l = locals f.locals in
    let b = statements 1 f.body in
    let r = returned result in
    let p = tokens (in_parentheses (listed_parts declared f.parameters)) in
    let tail : tokens (l ++ (b ++ (r ++ last))) ≡ tokens l ++ (tokens b ++ (tokens r ++ token_of CloseBrace ∷ [])) = tokens-append l (b ++ (r ++ last)) ∙ ap (λ y. tokens l ++ y) (tokens-append b (r ++ last) ∙ ap (λ y. tokens b ++ y) (tokens-append r last)) in
    tokens-append (head_line x gives f.parameters) (l ++ (b ++ (r ++ last)))
    ∙ ap (λ y. y ++ tokens (l ++ (b ++ (r ++ last)))) (head-tokens x gives f.parameters)
    ∙ ap (λ y. token_of (type_name gives) ∷ name_token x ∷ ((p ++ token_of OpenBrace ∷ []) ++ y)) tail
    ∙ ap (λ y. token_of (type_name gives) ∷ name_token x ∷ y) (regrouped p (tokens l) (tokens b) (tokens r ++ token_of CloseBrace ∷ []) (token_of OpenBrace))

function_same : (x y : Word) (gives : Bool) (f g : Frame) (a b : Option (Expr Word)) → x.text ≡ y.text → map bytes_of f.parameters ≡ map bytes_of g.parameters → map bare_local f.locals ≡ map bare_local g.locals → bare_statements f.body ≡ bare_statements g.body → option_map bare a ≡ option_map bare b →
    bare_item (Function x gives f.parameters f.locals f.body a) ≡ bare_item (Function y gives g.parameters g.locals g.body b)
function_same x y gives f g a b name ps ls body result =
    ap (λ k. function k gives (map bytes_of f.parameters) (map bare_local f.locals) (bare_statements f.body) (option_map bare a)) name
    ∙ ap (λ k. function y.text gives k (map bare_local f.locals) (bare_statements f.body) (option_map bare a)) ps
    ∙ ap (λ k. function y.text gives (map bytes_of g.parameters) k (bare_statements f.body) (option_map bare a)) ls
    ∙ ap (λ k. function y.text gives (map bytes_of g.parameters) (map bare_local g.locals) k (option_map bare a)) body
    ∙ ap (λ k. function y.text gives (map bytes_of g.parameters) (map bare_local g.locals) (bare_statements g.body) k) result

-- ---- items

record NamedSeen (source again : List ℕ) (x : Word) (i : Item) : Type 0 where
  behind : List Token
  is : tokens (item i) ≡ tokens (declared x) ++ behind
  alike : (other : Word) → other.text ≡ x.text → (v : List Token) → Looks source again v behind → Seen (SpellsNamedItem again other) bare_item v i

started_seen : (source again : List ℕ) (x : Word) (z : ℤ) → FitsSigned w32 z → NamedSeen source again x (Scalar Plain x z)
started_seen source again x z fits = record {
  behind = start_tokens z;
  is = scalar-tokens Plain x z;
  alike = λ other eq v h. record { tree = Scalar Plain other z; spelled = started (start_seen source again z fits v h); same = ap (λ y. scalar Plain y z) eq };
}

array_seen : (source again : List ℕ) (x : Word) (n : ℕ) → NamedSeen source again x (Array x n)
array_seen source again x n = record {
  behind = size_tokens n;
  is = array-tokens x n;
  alike = λ other eq v h.
      let k = head_of source again v (token_of OpenBracket) (token_of (NumberSort n) ∷ token_of CloseBracket ∷ token_of Semicolon ∷ []) h in
      let m = head_of source again k.rest (token_of (NumberSort n)) (token_of CloseBracket ∷ token_of Semicolon ∷ []) k.left in
      let l = head_of source again m.rest (token_of CloseBracket) (token_of Semicolon ∷ []) m.left in
      let last = only_of source again l.rest (token_of Semicolon) l.left in
      let d = size k.first m.first l.first last.first (sort_same source again (token_of OpenBracket) k.first k.is) (sort_same source again (token_of (NumberSort n)) m.first m.is) (sort_same source again (token_of CloseBracket) l.first l.is) (sort_same source again (token_of Semicolon) last.first last.is) in
      seen_as (SpellsNamedItem again other) bare_item v (k.first ∷ m.first ∷ l.first ∷ last.first ∷ []) (Array x n)
      (k.whole ∙ ap (λ r. k.first ∷ r) (m.whole ∙ ap (λ r. m.first ∷ r) (l.whole ∙ ap (λ r. l.first ∷ r) last.whole)))
      (record { tree = Array other n; spelled = array_rule d; same = ap (λ y. array y n) eq });
}

giving_seen : (source again : List ℕ) (x : Word) {w : List Token} {i : Item} → SpellsFunction source x w i → NamedSeen source again x i
giving_seen source again x (function_rule {f = f} {e = e} b is d r) = record {
  behind = behind_name f (Some e);
  is = function-tokens x true f (Some e);
  alike = λ other eq v h.
      let c = cut_of source again v (frame_tokens f) (tokens (returned (Some e)) ++ token_of CloseBrace ∷ []) h in
      let u = cut_of source again c.back (tokens (returned (Some e))) (token_of CloseBrace ∷ []) c.left in
      let z = only_of source again u.back (token_of CloseBrace) u.left in
      let i = frame_seen source again d c.front c.is in
      let j = between_alike r again u.front (looks_as source again u.front (tokens (returned (Some e))) (returned_tokens e) (returned-tokens e) u.is) in
      let whole : v ≡ c.front ++ (u.front ++ z.first ∷ []) = c.whole ∙ ap (λ y. c.front ++ y) (u.whole ∙ ap (λ y. u.front ++ y) z.whole) in
      seen_as (SpellsNamedItem again other) bare_item v (c.front ++ (u.front ++ z.first ∷ [])) (Function x true f.parameters f.locals f.body (Some e)) whole
      (record {
        tree = Function other true i.tree.parameters i.tree.locals i.tree.body (Some j.tree);
        spelled = giving (function_rule z.first (sort_same source again (token_of CloseBrace) z.first z.is) i.spelled j.spelled);
        same = function_same other x true i.tree f (Some j.tree) (Some e) eq i.parameters i.locals i.body (ap (λ y. Some y) j.same);
      });
}

named_seen : (source again : List ℕ) (x : Word) {w : List Token} {i : Item} → SpellsNamedItem source x w i → NamedSeen source again x i
named_seen source again x (plain_rule z is) = started_seen source again x (pos 0) (search rules)
named_seen source again x (started {z = z} d) = started_seen source again x z (start_fits d)
named_seen source again x (array_rule (size {value = n} a m b z opens is closes ends)) = array_seen source again x n
named_seen source again x (giving d) = giving_seen source again x d

cell_seen : (source again : List ℕ) (kind : CellKind) (x : Word) (z : ℤ) {w u : List Token} → SpellsParameter source w x → SpellsStart u z → (v : List Token) → Looks source again v (tokens (declared x) ++ start_tokens z) → Seen (SpellsReactive again kind) bare_item v (Scalar kind x z)
cell_seen source again kind x z {w = w} d s v h =
    let c = cut_of source again v (tokens (declared x)) (start_tokens z) h in
    let i = parameter_again source again w x d c.front c.is in
    let j = start_seen source again z (start_fits s) c.back c.left in
    seen_as (SpellsReactive again kind) bare_item v (c.front ++ c.back) (Scalar kind x z) c.whole (record { tree = Scalar kind i.tree z; spelled = reactive i.spelled j; same = ap (λ y. scalar kind y z) i.same })

item_seen : (source again : List ℕ) {w : List Token} {i : Item} → SpellsItem source w i → (v : List Token) → Looks source again v (tokens (item i)) → Seen (SpellsItem again) bare_item v i
item_seen source again (input t is (reactive {name = x} {z = z} d s)) v h =
    let k = head_of source again v (token_of ReactiveInputWord) (tokens (declared x) ++ start_tokens z) (looks_as source again v (tokens (item (Scalar Input x z))) (token_of ReactiveInputWord ∷ (tokens (declared x) ++ start_tokens z)) (scalar-tokens Input x z) h) in
    let i = cell_seen source again Input x z d s k.rest k.left in
    seen_as (SpellsItem again) bare_item v (k.first ∷ k.rest) (Scalar Input x z) k.whole (record { tree = i.tree; spelled = input k.first (sort_same source again (token_of ReactiveInputWord) k.first k.is) i.spelled; same = i.same })
item_seen source again (output t is (reactive {name = x} {z = z} d s)) v h =
    let k = head_of source again v (token_of ReactiveOutputWord) (tokens (declared x) ++ start_tokens z) (looks_as source again v (tokens (item (Scalar Output x z))) (token_of ReactiveOutputWord ∷ (tokens (declared x) ++ start_tokens z)) (scalar-tokens Output x z) h) in
    let i = cell_seen source again Output x z d s k.rest k.left in
    seen_as (SpellsItem again) bare_item v (k.first ∷ k.rest) (Scalar Output x z) k.whole (record { tree = i.tree; spelled = output k.first (sort_same source again (token_of ReactiveOutputWord) k.first k.is) i.spelled; same = i.same })
item_seen source again (named {w = w} {name = x} {i = i} d n) v h =
    let m = named_seen source again x n in
    let c = cut_of source again v (tokens (declared x)) m.behind (looks_as source again v (tokens (item i)) (tokens (declared x) ++ m.behind) m.is h) in
    let p = parameter_again source again w x d c.front c.is in
    let q = m.alike p.tree p.same c.back c.left in
    seen_as (SpellsItem again) bare_item v (c.front ++ c.back) i c.whole (record { tree = q.tree; spelled = named p.spelled q.spelled; same = q.same })
item_seen source again (routine {f = f} t n b is is_name closes d) v h =
    let x = word_at source n in
    let whole_item = Function x false f.parameters f.locals f.body None in
    let k = head_of source again v (token_of VoidWord) (name_token x ∷ (frame_tokens f ++ token_of CloseBrace ∷ [])) (looks_as source again v (tokens (item whole_item)) (token_of VoidWord ∷ name_token x ∷ (frame_tokens f ++ token_of CloseBrace ∷ [])) (function-tokens x false f None) h) in
    let m = head_of source again k.rest (name_token x) (frame_tokens f ++ token_of CloseBrace ∷ []) k.left in
    let c = cut_of source again m.rest (frame_tokens f) (token_of CloseBrace ∷ []) m.left in
    let z = only_of source again c.back (token_of CloseBrace) c.left in
    let i = frame_seen source again d c.front c.is in
    let y = word_at again m.first in
    seen_as (SpellsItem again) bare_item v (k.first ∷ m.first ∷ (c.front ++ z.first ∷ [])) whole_item (k.whole ∙ ap (λ r. k.first ∷ r) (m.whole ∙ ap (λ r. m.first ∷ r) (c.whole ∙ ap (λ r. c.front ++ r) z.whole)))
    (record {
      tree = Function y false i.tree.parameters i.tree.locals i.tree.body None;
      spelled = routine k.first m.first z.first (sort_same source again (token_of VoidWord) k.first k.is) (sort_same source again (name_token x) m.first m.is) (sort_same source again (token_of CloseBrace) z.first z.is) i.spelled;
      same = function_same y x false i.tree f None None (name_same source again n m.first m.is) i.parameters i.locals i.body refl;
    })

pub items_seen : (source again : List ℕ) {w : List Token} {all : List Item} → IsProgram source w all → (v : List Token) → Looks source again v (tokens (items all)) → Seen (IsProgram again) (map bare_item) v all
items_seen source again no_items v h = record { tree = []; spelled = subst (λ x. IsProgram again x []) (sym (empty_of_map (plain again) v h)) no_items; same = refl }
items_seen source again (more_items {i = i} {rest = rest} d ds) v h =
    let c = cut_of source again v (tokens (item i)) (tokens (items rest)) (looks_as source again v (tokens (items (i ∷ rest))) (tokens (item i) ++ tokens (items rest)) (tokens-append (item i) (items rest)) h) in
    let k = item_seen source again d c.front c.is in
    let l = items_seen source again ds c.back c.left in
    seen_as (IsProgram again) (map bare_item) v (c.front ++ c.back) (i ∷ rest) c.whole
    (record { tree = k.tree ∷ l.tree; spelled = more_items k.spelled l.spelled; same = ap (λ y. y ∷ map bare_item l.tree) k.same ∙ ap (λ r. bare_item i ∷ r) l.same })
