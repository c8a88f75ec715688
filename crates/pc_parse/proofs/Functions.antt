-- One lemma for each way on which the parsers of functions answer.
use Rattle.std.proofs.Common.{◌≡◌, ℕ, true, false, List, [], ◌∷◌, ◌++◌, Some, None, length, refl, sym, ap, subst, ◌∙◌, append_assoc}
use Rattle.pc_grammar.specs.declared.tokens.Sort.TheVariants.{Number as NumberSort, Name, VoidWord, OpenParenthesis, CloseParenthesis, OpenBrace, CloseBrace, ReturnWord, Semicolon}
use Rattle.pc_grammar.specs.declared.tokens.Token.{Token}
use Rattle.pc_grammar.specs.declared.expressions.Word.{Word}
use Rattle.pc_grammar.specs.declared.expressions.Expr.{Expr}
use Rattle.pc_grammar.specs.declared.expressions.Expr.TheVariants.{Number}
use Rattle.pc_grammar.specs.declared.programs.Item.{Item}
use Rattle.pc_grammar.specs.declared.programs.Item.TheVariants.{Function}
use Rattle.pc_parse.specs.declared.reading.Failure.{Failure}
use Rattle.pc_parse.specs.declared.reading.Failure.TheVariants.{Broken, Memory}
use Rattle.pc_grammar.specs.declared.marks.Pair.TheVariants.{Result}
use Rattle.pc_grammar.specs.Refusing.{first}
use Rattle.pc_parse.specs.Reading.{Comes, Refuses, Always}
use Rattle.pc_grammar.specs.Expressions.{word_at, SpellsBetween, between}
use Rattle.pc_parse.specs.Expressions.{BetweenTakes, BetweenFails}
use Rattle.pc_parse.proofs.Behind.{fails_behind, fails_here}
use Rattle.pc_parse.proofs.Operands.{some_token}
use Rattle.pc_parse.proofs.Pairs.{some_level}
use Rattle.pc_parse.proofs.Unique.{between_first, unique_between}
use Rattle.pc_grammar.specs.Statements.{none as no_parts}
use Rattle.pc_parse.specs.Statements.{Closes, at_return}
use Rattle.pc_parse.proofs.Ends.{closes_same}
use Rattle.pc_parse.proofs.StatementUnique.{brace_closes}
use Rattle.pc_grammar.specs.declared.frames.Frame.{Frame}
use Rattle.pc_grammar.specs.Frames.{SpellsFrame, framed, nothing, none}
use Rattle.pc_parse.specs.Frames.{FrameEnds, FrameTakes, FrameFails}
use Rattle.pc_parse.proofs.Framed.{unique_frame, frame_first}
use Rattle.pc_grammar.specs.Items.{SpellsFunction, function, SpellsItem, routine}
use Rattle.pc_parse.specs.Items.{FunctionTakes, FunctionFails, ItemTakes, ItemFails}
use Rattle.pc_parse.proofs.Openings.{as_routine}

-- ---- a function with a result

pub record FunctionParts (source : List ℕ) (name : Word) (i : List Token) (item : Item) (rest : List Token) : Type 0 where
  pub w : List Token
  pub v : List Token
  pub b : Token
  pub f : Frame
  pub e : Expr Word
  pub closes : b.sort ≡ CloseBrace
  pub front : SpellsFrame source w f
  pub value : SpellsBetween source 64 Result v e
  pub tree : item ≡ Function name true f.parameters f.locals f.body (Some e)
  pub whole : i ≡ w ++ (v ++ b ∷ rest)

pub function_parts : {source : List ℕ} {name : Word} {w : List Token} {item : Item} → SpellsFunction source name w item → (i rest : List Token) → i ≡ w ++ rest → FunctionParts source name i item rest
function_parts (function {w = w} {v = v} {f = f} {e = e} b closes d k) i rest eq = record {
  w = w;
  v = v;
  b = b;
  f = f;
  e = e;
  closes = closes;
  front = d;
  value = k;
  tree = refl;
  whole = eq ∙ append_assoc w (v ++ b ∷ []) rest ∙ ap (λ x. w ++ x) (append_assoc v (b ∷ []) rest);
}

pub function_first : {source : List ℕ} {name : Word} {w : List Token} {item : Item} → SpellsFunction source name w item → (rest : List Token) → first (w ++ rest) ≡ Some OpenParenthesis
function_first (function {w = w} {v = v} b closes d k) rest = ap first (append_assoc w (v ++ b ∷ []) rest) ∙ frame_first d ((v ++ b ∷ []) ++ rest)

-- a frame ends before a `return`
before_return : {source : List ℕ} {v : List Token} {e : Expr Word} → SpellsBetween source 64 Result v e → (r : List Token) → Closes (first (v ++ r))
before_return d r = subst Closes (sym (between_first d r)) at_return

pub unique_function : {source : List ℕ} {name : Word} {w : List Token} {item : Item} → SpellsFunction source name w item → (w' : List Token) (item' : Item) (r r' : List Token) → SpellsFunction source name w' item' → w ++ r ≡ w' ++ r' → (r ≡ r') × (item ≡ item')
unique_function {name = name} {w = w} d w' item' r r' d' eq =
    let k = function_parts d (w ++ r) r refl in
    let m = function_parts d' (w ++ r) r' eq in
    let u = unique_frame k.front m.w m.f (k.v ++ k.b ∷ r) (m.v ++ m.b ∷ r') (before_return k.value (k.b ∷ r)) m.front (before_return m.value (m.b ∷ r')) (sym k.whole ∙ m.whole) in
    let s = unique_between k.value m.v m.e (k.b ∷ r) (m.b ∷ r') m.value u.0 in
    let tail : k.b ∷ r ≡ m.b ∷ r' = s.0 in
    (cc, k.tree ∙ ap (λ (x : Frame). Function name true x.parameters x.locals x.body (Some k.e)) u.1 ∙ ap (λ x. Function name true m.f.parameters m.f.locals m.f.body (Some x)) s.1 ∙ sym m.tree)

some_result : (source : List ℕ) → SpellsBetween source 64 Result (some_token ReturnWord ∷ some_token (NumberSort 0) ∷ some_token Semicolon ∷ []) (Number 0)
some_result source = between (some_token ReturnWord) (some_token Semicolon) refl refl (some_level source 64 10)

pub takes_function : (source : List ℕ) (name : Word) (tokens i : List Token) (f : Frame) (e : Expr Word) (r last : List Token) → FrameTakes source tokens f i → BetweenTakes source 64 Result i e r → Comes CloseBrace r last → FunctionTakes source name tokens (Function name true f.parameters f.locals f.body (Some e)) last
takes_function source name tokens i f e r last h k b = record {
  used = h.used ++ (k.used ++ b.token ∷ []);
  whole = h.whole ∙ ap (λ x. h.used ++ x) (k.whole ∙ ap (λ x. k.used ++ x) b.whole ∙ sym (append_assoc k.used (b.token ∷ []) last)) ∙ sym (append_assoc h.used (k.used ++ b.token ∷ []) last);
  spelled = function b.token b.is h.spelled k.spelled;
  stops = tt;
}

pub function_frame_refuses : (source : List ℕ) (name : Word) (tokens : List Token) (f : Failure) → Refuses (FrameFails source) tokens f → Refuses (FunctionFails source name) tokens f
function_frame_refuses source name tokens (Broken n) f =
    fails_behind (SpellsFrame source) FrameEnds (SpellsFunction source name) Always [] tokens tokens n refl f
    (λ v g d. ((some_token ReturnWord ∷ some_token (NumberSort 0) ∷ some_token Semicolon ∷ []) ++ some_token CloseBrace ∷ [], Function name true g.parameters g.locals g.body (Some (Number 0)), function (some_token CloseBrace) refl d (some_result source)))
    (λ others c r _ same k.
    let m = function_parts k.spelled others r k.whole in
    (m.f, m.v ++ m.b ∷ r, record { used = m.w; whole = m.whole; spelled = m.front; stops = before_return m.value (m.b ∷ r) }))
function_frame_refuses source name tokens Memory f = tt

pub result_refuses : (source : List ℕ) (name : Word) (tokens i : List Token) (g : Frame) (f : Failure) → FrameTakes source tokens g i → Refuses (BetweenFails source 64 Result) i f → Refuses (FunctionFails source name) tokens f
result_refuses source name tokens i g (Broken n) h f =
    fails_behind (SpellsBetween source 64 Result) Always (SpellsFunction source name) Always h.used i tokens n h.whole f
    (λ v e d. (some_token CloseBrace ∷ [], Function name true g.parameters g.locals g.body (Some e), subst (λ x. SpellsFunction source name x (Function name true g.parameters g.locals g.body (Some e))) (sym (append_assoc h.used v (some_token CloseBrace ∷ []))) (function (some_token CloseBrace) refl h.spelled d)))
    (λ others c r _ same k.
    let m = function_parts k.spelled (h.used ++ others) r k.whole in
    let u = unique_frame h.spelled m.w m.f others (m.v ++ m.b ∷ r) (closes_same i others (sym same) h.stops) m.front (before_return m.value (m.b ∷ r)) m.whole in
    (m.e, m.b ∷ r, record { used = m.v; whole = u.0; spelled = m.value; stops = tt }))
result_refuses source name tokens i g Memory h f = tt

pub function_not_closed : (source : List ℕ) (name : Word) (tokens i : List Token) (g : Frame) (e : Expr Word) (r : List Token) → FrameTakes source tokens g i → BetweenTakes source 64 Result i e r → (first r ≡ Some CloseBrace → ⊥) → FunctionFails source name tokens (length r)
function_not_closed source name tokens i g e r h k other =
    fails_here (SpellsFunction source name) Always (h.used ++ k.used) r tokens (h.whole ∙ ap (λ x. h.used ++ x) k.whole ∙ sym (append_assoc h.used k.used r))
    (some_token CloseBrace ∷ [], Function name true g.parameters g.locals g.body (Some e), subst (λ x. SpellsFunction source name x (Function name true g.parameters g.locals g.body (Some e))) (sym (append_assoc h.used k.used (some_token CloseBrace ∷ []))) (function (some_token CloseBrace) refl h.spelled k.spelled))
    (λ others c end same t.
    let m = function_parts t.spelled (h.used ++ (k.used ++ others)) end (sym (append_assoc h.used k.used others) ∙ t.whole) in
    let u = unique_frame h.spelled m.w m.f (k.used ++ others) (m.v ++ m.b ∷ end) (before_return k.spelled others) m.front (before_return m.value (m.b ∷ end)) m.whole in
    let s = unique_between k.spelled m.v m.e others (m.b ∷ end) m.value u.0 in
    other (sym same ∙ ap first s.0 ∙ ap Some m.closes))

pub ruleset function_steps = (takes_function, function_frame_refuses, result_refuses, function_not_closed)

-- ---- a function without a result

-- `( ) {` is a frame
some_frame : (source : List ℕ) → SpellsFrame source ((some_token OpenParenthesis ∷ some_token CloseParenthesis ∷ []) ++ some_token OpenBrace ∷ ([] ++ [])) (record { parameters = []; locals = []; body = [] })
some_frame source = framed (some_token OpenBrace) refl (nothing (some_token OpenParenthesis) (some_token CloseParenthesis) refl refl) none no_parts

pub takes_routine : (source : List ℕ) (t n : Token) (i j : List Token) (called : Word) (f : Frame) (r last : List Token) → t.sort ≡ VoidWord → i ≡ n ∷ j → n.sort ≡ Name → called ≡ word_at source n → FrameTakes source j f r → Comes CloseBrace r last →
    ItemTakes source (t ∷ i) (Function called false f.parameters f.locals f.body None) last
takes_routine source t n i j called f r last word eq is at h b = record {
  used = t ∷ n ∷ (h.used ++ b.token ∷ []);
  whole = ap (λ x. t ∷ x) (eq ∙ ap (λ x. n ∷ x) (h.whole ∙ ap (λ x. h.used ++ x) b.whole ∙ sym (append_assoc h.used (b.token ∷ []) last)));
  spelled = subst (λ x. SpellsItem source (t ∷ n ∷ (h.used ++ b.token ∷ [])) (Function x false f.parameters f.locals f.body None)) (sym at) (routine t n b.token word is b.is h.spelled);
  stops = tt;
}

pub routine_no_name : (source : List ℕ) (t : Token) (i : List Token) → t.sort ≡ VoidWord → (first i ≡ Some Name → ⊥) → ItemFails source (t ∷ i) (length i)
routine_no_name source t i word other =
    fails_here (SpellsItem source) Always (t ∷ []) i (t ∷ i) refl
    (some_token Name ∷ (((some_token OpenParenthesis ∷ some_token CloseParenthesis ∷ []) ++ some_token OpenBrace ∷ ([] ++ [])) ++ some_token CloseBrace ∷ []), Function (word_at source (some_token Name)) false [] [] [] None, routine t (some_token Name) (some_token CloseBrace) word refl refl (some_frame source))
    (λ others c r same k. let v = as_routine k.spelled t others r word (sym k.whole) in other (sym same ∙ ap first v.whole ∙ ap Some v.is_name))

-- the frame behind the name
routine_inner : (source : List ℕ) (t n : Token) (others : List Token) (c : Item) (r : List Token) → t.sort ≡ VoidWord → ItemTakes source (t ∷ n ∷ others) c r → (f : Frame) × (b : Token) × (b.sort ≡ CloseBrace) × FrameTakes source others f (b ∷ r)
routine_inner source t n others c r word k =
    let v = as_routine k.spelled t (n ∷ others) r word (sym k.whole) in
    let both : n ∷ others ≡ v.n ∷ (v.w ++ v.b ∷ r) = v.whole in
    (v.f, v.b, v.closes, record { used = v.w; whole = cc; spelled = v.front; stops = brace_closes v.b r v.closes })

pub routine_frame_refuses : (source : List ℕ) (t n : Token) (i j : List Token) (f : Failure) → t.sort ≡ VoidWord → i ≡ n ∷ j → n.sort ≡ Name → Refuses (FrameFails source) j f → Refuses (ItemFails source) (t ∷ i) f
routine_frame_refuses source t n i j (Broken m) word eq is f =
    fails_behind (SpellsFrame source) FrameEnds (SpellsItem source) Always (t ∷ n ∷ []) j (t ∷ i) m (ap (λ x. t ∷ x) eq) f
    (λ v g d. (some_token CloseBrace ∷ [], Function (word_at source n) false g.parameters g.locals g.body None, routine t n (some_token CloseBrace) word is refl d))
    (λ others c r _ same k. let v = routine_inner source t n others c r word k in (v.0, v.1 ∷ r, v.3))
routine_frame_refuses source t n i j Memory word eq is f = tt

pub routine_not_closed : (source : List ℕ) (t n : Token) (i j : List Token) (g : Frame) (r : List Token) → t.sort ≡ VoidWord → i ≡ n ∷ j → n.sort ≡ Name → FrameTakes source j g r → (first r ≡ Some CloseBrace → ⊥) → ItemFails source (t ∷ i) (length r)
routine_not_closed source t n i j g r word eq is h other =
    fails_here (SpellsItem source) Always (t ∷ n ∷ h.used) r (t ∷ i) (ap (λ x. t ∷ x) (eq ∙ ap (λ x. n ∷ x) h.whole))
    (some_token CloseBrace ∷ [], Function (word_at source n) false g.parameters g.locals g.body None, routine t n (some_token CloseBrace) word is refl h.spelled)
    (λ others c end same k.
    let v = routine_inner source t n (h.used ++ others) c end word k in
    let u = unique_frame h.spelled v.3.used v.0 others (v.1 ∷ end) (closes_same r others (sym same) h.stops) v.3.spelled v.3.stops v.3.whole in
    other (sym same ∙ ap first u.0 ∙ ap Some v.2))

pub ruleset routine_steps = (takes_routine, routine_no_name, routine_frame_refuses, routine_not_closed)
