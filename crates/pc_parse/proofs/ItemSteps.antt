-- One lemma for each way on which the parser of an item answers.
use Rattle.std.proofs.Common.{◌≡◌, ℕ, false, pos, List, [], ◌∷◌, ◌++◌, Some, None, length, refl, sym, ap, subst, ◌∙◌, append_assoc, append-nil}
use Rattle.pc_grammar.specs.declared.tokens.Sort.{Sort}
use Rattle.pc_grammar.specs.declared.tokens.Sort.TheVariants.{Semicolon, IntWord, Name}
use Rattle.pc_grammar.specs.declared.tokens.Token.{Token}
use Rattle.pc_grammar.specs.declared.expressions.Word.{Word}
use Rattle.pc_grammar.specs.declared.programs.CellKind.TheVariants.{Input, Output, Plain}
use Rattle.pc_grammar.specs.declared.programs.Item.{Item}
use Rattle.pc_grammar.specs.declared.programs.Item.TheVariants.{Scalar, Function}
use Rattle.pc_parse.specs.declared.reading.Failure.{Failure}
use Rattle.pc_parse.specs.declared.reading.Failure.TheVariants.{Broken, Memory}
use Rattle.pc_grammar.specs.Refusing.{first}
use Rattle.pc_parse.specs.Reading.{Refuses, Always}
use Rattle.pc_grammar.specs.Expressions.{word_at}
use Rattle.pc_parse.proofs.Behind.{fails_behind, fails_here}
use Rattle.pc_parse.proofs.Operands.{some_token}
use Rattle.pc_parse.specs.Lists.{AfterName}
use Rattle.pc_parse.proofs.StatementUnique.{brace_closes}
use Rattle.pc_grammar.specs.declared.frames.Frame.{Frame}
use Rattle.pc_grammar.specs.Frames.{SpellsParameter}
use Rattle.pc_parse.specs.Frames.{ParameterTakes, ParameterFails}
use Rattle.pc_parse.proofs.Framed.{unique_frame}
use Rattle.pc_parse.proofs.Parameters.{some_parameter, unique_parameter}
use Rattle.pc_parse.specs.declared.items.ItemOpening.TheVariants.{Input as InputOpening, Output as OutputOpening, Int as IntOpening, Void as VoidOpening, Nothing as NothingOpening}
use Rattle.pc_grammar.specs.Items.{SpellsReactive, SpellsNamedItem, plain, SpellsItem, input, output, named, routine}
use Rattle.pc_parse.specs.Items.{item_opening_of, ReactiveTakes, ReactiveFails, NamedItemTakes, NamedItemFails, ItemTakes, ItemFails}
use Rattle.pc_parse.proofs.NamedItems.{unique_named_item}
use Rattle.pc_parse.proofs.Openings.{input_opens, output_opens, int_opens, void_opens, is_input, is_output, item_as, item_begins}
use Rattle.pc_parse.proofs.Sizes.{unique_reactive}

pub some_item : (source : List ℕ) → SpellsItem source ((some_token IntWord ∷ some_token Name ∷ []) ++ some_token Semicolon ∷ []) (Scalar Plain (word_at source (some_token Name)) (pos 0))
some_item source = named (some_parameter source) (plain (some_token Semicolon) refl)

complete : (source : List ℕ) (w : List Token) (i : Item) → SpellsItem source w i → (more : List Token) × (a : Item) × SpellsItem source (w ++ more) a
complete source w i d = ([], i, subst (λ x. SpellsItem source x i) (sym (append-nil w)) d)

-- ---- one tree

pub unique_item : {source : List ℕ} {w : List Token} {item : Item} → SpellsItem source w item → (w' : List Token) (item' : Item) (r r' : List Token) → SpellsItem source w' item' → w ++ r ≡ w' ++ r' → (r ≡ r') × (item ≡ item')
unique_item (input {w = w} t is d) w' item' r r' d' eq =
    let k = item_as d' InputOpening t (w ++ r) r' (ap item_opening_of is ∙ input_opens) (sym eq) in
    unique_reactive d k.used item' r r' k.spelled k.whole
unique_item (output {w = w} t is d) w' item' r r' d' eq =
    let k = item_as d' OutputOpening t (w ++ r) r' (ap item_opening_of is ∙ output_opens) (sym eq) in
    unique_reactive d k.used item' r r' k.spelled k.whole
unique_item {source = source} (named {w = w} {v = v} {name = name} d e) w' item' r r' d' eq =
    let b = item_begins (named d e) r in
    let word : b.0.sort ≡ IntWord = (let at : Some b.0.sort ≡ Some IntWord = ap first (sym b.2) ∙ ap first (append_assoc w v r) ∙ Rattle.pc_parse.proofs.Parameters.parameter_first d (v ++ r) in cc) in
    let k = item_as d' IntOpening b.0 b.1 r' (ap item_opening_of word ∙ int_opens) (sym eq ∙ b.2) in
    let u = unique_parameter d k.w k.name (v ++ r) (k.v ++ r') k.front (sym (append_assoc w v r) ∙ b.2 ∙ k.whole) in
    unique_named_item e k.v item' r r' (subst (λ n. SpellsNamedItem source n k.v item') (sym u.1) k.back) u.0
unique_item {source = source} (routine {w = w} {f = f} t n b is is_name closes d) w' item' r r' d' eq =
    let k = item_as d' VoidOpening t (n ∷ ((w ++ b ∷ []) ++ r)) r' (ap item_opening_of is ∙ void_opens) (sym eq) in
    let both : n ∷ ((w ++ b ∷ []) ++ r) ≡ k.n ∷ (k.w ++ k.b ∷ r') = k.whole in
    let at : n ≡ k.n = cc in
    let tail : (w ++ b ∷ []) ++ r ≡ k.w ++ k.b ∷ r' = cc in
    let u = unique_frame d k.w k.f (b ∷ r) (k.b ∷ r') (brace_closes b r closes) k.front (brace_closes k.b r' k.closes) (sym (append_assoc w (b ∷ []) r) ∙ tail) in
    let ends : b ∷ r ≡ k.b ∷ r' = u.0 in
    (cc, ap (λ x. Function (word_at source x) false f.parameters f.locals f.body None) at ∙ ap (λ (x : Frame). Function (word_at source k.n) false x.parameters x.locals x.body None) u.1 ∙ sym k.tree)

-- ---- the ways of the parser

pub takes_input : (source : List ℕ) (tokens : List Token) (t : Token) (i : List Token) (item : Item) (rest : List Token) → tokens ≡ t ∷ i → item_opening_of t.sort ≡ InputOpening → ReactiveTakes source Input i item rest → ItemTakes source tokens item rest
takes_input source tokens t i item rest eq is h = record { used = t ∷ h.used; whole = eq ∙ ap (λ x. t ∷ x) h.whole; spelled = input t (is_input t.sort is) h.spelled; stops = tt }

pub takes_output : (source : List ℕ) (tokens : List Token) (t : Token) (i : List Token) (item : Item) (rest : List Token) → tokens ≡ t ∷ i → item_opening_of t.sort ≡ OutputOpening → ReactiveTakes source Output i item rest → ItemTakes source tokens item rest
takes_output source tokens t i item rest eq is h = record { used = t ∷ h.used; whole = eq ∙ ap (λ x. t ∷ x) h.whole; spelled = output t (is_output t.sort is) h.spelled; stops = tt }

pub takes_named : (source : List ℕ) (tokens : List Token) (name : Word) (i : List Token) (item : Item) (rest : List Token) → ParameterTakes source tokens name i → NamedItemTakes source name i item rest → ItemTakes source tokens item rest
takes_named source tokens name i item rest h k = record { used = h.used ++ k.used; whole = h.whole ∙ ap (λ x. h.used ++ x) k.whole ∙ sym (append_assoc h.used k.used rest); spelled = named h.spelled k.spelled; stops = tt }

pub input_refuses : (source : List ℕ) (tokens : List Token) (t : Token) (i : List Token) (f : Failure) → tokens ≡ t ∷ i → item_opening_of t.sort ≡ InputOpening → Refuses (ReactiveFails source Input) i f → Refuses (ItemFails source) tokens f
input_refuses source tokens t i (Broken n) eq is f =
    fails_behind (SpellsReactive source Input) Always (SpellsItem source) Always (t ∷ []) i tokens n eq f
    (λ v item d. complete source (t ∷ v) item (input t (is_input t.sort is) d))
    (λ others c r _ same k. (c, r, item_as k.spelled InputOpening t others r is (sym k.whole)))
input_refuses source tokens t i Memory eq is f = tt

pub output_refuses : (source : List ℕ) (tokens : List Token) (t : Token) (i : List Token) (f : Failure) → tokens ≡ t ∷ i → item_opening_of t.sort ≡ OutputOpening → Refuses (ReactiveFails source Output) i f → Refuses (ItemFails source) tokens f
output_refuses source tokens t i (Broken n) eq is f =
    fails_behind (SpellsReactive source Output) Always (SpellsItem source) Always (t ∷ []) i tokens n eq f
    (λ v item d. complete source (t ∷ v) item (output t (is_output t.sort is) d))
    (λ others c r _ same k. (c, r, item_as k.spelled OutputOpening t others r is (sym k.whole)))
output_refuses source tokens t i Memory eq is f = tt

-- an item that begins with `int`, as its name and what stands behind it
record NamedParts (source : List ℕ) (others : List Token) (c : Item) (r : List Token) : Type 0 where
  pub w : List Token
  pub v : List Token
  pub name : Word
  pub front : SpellsParameter source w name
  pub back : SpellsNamedItem source name v c
  pub whole : others ≡ w ++ (v ++ r)

named_parts : (source : List ℕ) (s : Sort) (others : List Token) (c : Item) (r : List Token) → item_opening_of s ≡ IntOpening → first others ≡ Some s → ItemTakes source others c r → NamedParts source others c r
named_parts source s [] c r is at k = cc
named_parts source s (x ∷ xs) c r is at k =
    let here : x.sort ≡ s = cc in
    let v = item_as k.spelled IntOpening x xs r (ap item_opening_of here ∙ is) (sym k.whole) in
    record { w = v.w; v = v.v; name = v.name; front = v.front; back = v.back; whole = v.whole }

pub name_refuses : (source : List ℕ) (tokens : List Token) (t : Token) (i : List Token) (f : Failure) → tokens ≡ t ∷ i → item_opening_of t.sort ≡ IntOpening → Refuses (ParameterFails source) tokens f → Refuses (ItemFails source) tokens f
name_refuses source tokens t i (Broken n) eq is f =
    fails_behind (SpellsParameter source) (λ _. AfterName) (SpellsItem source) Always [] tokens tokens n refl f
    (λ v name d. (some_token Semicolon ∷ [], Scalar Plain name (pos 0), named d (plain (some_token Semicolon) refl)))
    (λ others c r at _ k.
    let v = named_parts source t.sort others c r is (at ∙ ap first eq) k in
    (v.name, v.v ++ r, record { used = v.w; whole = v.whole; spelled = v.front; stops = tt }))
name_refuses source tokens t i Memory eq is f = tt

pub behind_refuses : (source : List ℕ) (tokens : List Token) (t : Token) (i : List Token) (name : Word) (j : List Token) (f : Failure) → tokens ≡ t ∷ i → item_opening_of t.sort ≡ IntOpening → ParameterTakes source tokens name j → Refuses (NamedItemFails source name) j f → Refuses (ItemFails source) tokens f
behind_refuses source tokens t i name j (Broken n) eq is h f =
    fails_behind (SpellsNamedItem source name) Always (SpellsItem source) Always h.used j tokens n h.whole f
    (λ v item d. complete source (h.used ++ v) item (named h.spelled d))
    (λ others c r at same k.
    let v = named_parts source t.sort (h.used ++ others) c r is (at ∙ ap first eq) k in
    let u = unique_parameter h.spelled v.w v.name others (v.v ++ r) v.front v.whole in
    (c, r, record { used = v.v; whole = u.0; spelled = subst (λ x. SpellsNamedItem source x v.v c) (sym u.1) v.back; stops = tt }))
behind_refuses source tokens t i name j Memory eq is h f = tt

no_item : (source : List ℕ) (tokens others : List Token) (c : Item) (r : List Token) → first others ≡ first tokens → ((t : Token) (i : List Token) → tokens ≡ t ∷ i → item_opening_of t.sort ≡ NothingOpening) → ItemTakes source others c r → ⊥
no_item source tokens [] c r same bad k = let b = item_begins k.spelled r in let e : [] ≡ b.0 ∷ b.1 = k.whole ∙ b.2 in cc
no_item source [] (x ∷ xs) c r same bad k = cc
no_item source (t ∷ i) (x ∷ xs) c r same bad k =
    let here : t.sort ≡ x.sort = let p : Some x.sort ≡ Some t.sort = same in cc in
    item_as k.spelled NothingOpening x xs r (ap item_opening_of (sym here) ∙ bad t i refl) (sym k.whole)

fails_beginning : (source : List ℕ) (tokens : List Token) → ((t : Token) (i : List Token) → tokens ≡ t ∷ i → item_opening_of t.sort ≡ NothingOpening) → ItemFails source tokens (length tokens)
fails_beginning source tokens bad =
    fails_here (SpellsItem source) Always [] tokens tokens refl ((some_token IntWord ∷ some_token Name ∷ []) ++ some_token Semicolon ∷ [], Scalar Plain (word_at source (some_token Name)) (pos 0), some_item source)
    (λ others c r same k. no_item source tokens others c r same bad k)

pub fails_empty : (source : List ℕ) (tokens : List Token) → tokens ≡ [] → ItemFails source tokens (length tokens)
fails_empty source tokens eq = fails_beginning source tokens (λ t i h. let a : [] ≡ t ∷ i = sym eq ∙ h in cc)

pub fails_nothing : (source : List ℕ) (tokens : List Token) (t : Token) (i : List Token) → tokens ≡ t ∷ i → item_opening_of t.sort ≡ NothingOpening → ItemFails source tokens (length tokens)
fails_nothing source tokens t i eq is = fails_beginning source tokens (λ t' i' h.
    let a : t ∷ i ≡ t' ∷ i' = sym eq ∙ h in
    let at : t ≡ t' = cc in
    ap (λ (x : Token). item_opening_of x.sort) (sym at) ∙ is)

pub ruleset item_steps = (takes_input, takes_output, takes_named, input_refuses, output_refuses, name_refuses, behind_refuses, fails_empty, fails_nothing)
