-- One lemma for each way on which the parsers of an array's size and of inputs and outputs answer.
use Rattle.std.proofs.Common.{◌≡◌, ℕ, ℤ, pos, List, [], ◌∷◌, ◌++◌, Some, length, refl, sym, ap, subst, ◌∙◌, append_assoc, append-nil}
use Rattle.pt_base.specs.Operators.{word_of}
use Rattle.pc_grammar.specs.declared.tokens.Sort.TheVariants.{Number, Equals, OpenBracket, CloseBracket, Semicolon}
use Rattle.pc_grammar.specs.declared.tokens.Token.{Token}
use Rattle.pc_grammar.specs.declared.expressions.Word.{Word}
use Rattle.pc_grammar.specs.declared.programs.CellKind.{CellKind}
use Rattle.pc_grammar.specs.declared.programs.Item.{Item}
use Rattle.pc_grammar.specs.declared.programs.Item.TheVariants.{Scalar}
use Rattle.pc_parse.specs.declared.reading.Failure.{Failure}
use Rattle.pc_parse.specs.declared.reading.Failure.TheVariants.{Broken, Memory}
use Rattle.pc_grammar.specs.Refusing.{first}
use Rattle.pc_parse.specs.Reading.{Comes, Refuses, Always}
use Rattle.pc_parse.proofs.Behind.{fails_behind, fails_here}
use Rattle.pc_parse.proofs.Operands.{some_token}
use Rattle.pc_parse.specs.Lists.{AfterName}
use Rattle.pc_parse.specs.Settings.{NumberComes, NoNumber}
use Rattle.pc_grammar.specs.Constants.{ended, SpellsStart, positive}
use Rattle.pc_parse.specs.Constants.{StartTakes, StartFails}
use Rattle.pc_grammar.specs.Frames.{SpellsParameter}
use Rattle.pc_parse.specs.Frames.{ParameterTakes, ParameterFails}
use Rattle.pc_parse.proofs.Parameters.{unique_parameter}
use Rattle.pc_parse.proofs.Starts.{unique_start}
use Rattle.pc_grammar.specs.Items.{SpellsSize, size, SpellsReactive, reactive}
use Rattle.pc_parse.specs.Items.{SizeTakes, SizeFails, ReactiveTakes, ReactiveFails}

-- ---- the size of an array

pub record SizeParts (i : List Token) (value : ℕ) (rest : List Token) : Type 0 where
  pub a : Token
  pub n : Token
  pub b : Token
  pub z : Token
  pub opens : a.sort ≡ OpenBracket
  pub is : n.sort ≡ Number value
  pub closes : b.sort ≡ CloseBracket
  pub ends : z.sort ≡ Semicolon
  pub whole : i ≡ a ∷ n ∷ b ∷ z ∷ rest

size_parts : {w : List Token} {value : ℕ} → SpellsSize w value → (i rest : List Token) → i ≡ w ++ rest → SizeParts i value rest
size_parts (size a n b z opens is closes ends) i rest eq = record { a = a; n = n; b = b; z = z; opens = opens; is = is; closes = closes; ends = ends; whole = eq }

pub size_first : {w : List Token} {value : ℕ} → SpellsSize w value → (rest : List Token) → first (w ++ rest) ≡ Some OpenBracket
size_first (size a n b z opens is closes ends) rest = ap Some opens

pub unique_size : {w : List Token} {value : ℕ} → SpellsSize w value → (w' : List Token) (value' : ℕ) (r r' : List Token) → SpellsSize w' value' → w ++ r ≡ w' ++ r' → (r ≡ r') × (value ≡ value')
unique_size (size a n b z opens is closes ends) w' value' r r' d' eq =
    let v = size_parts d' (a ∷ n ∷ b ∷ z ∷ r) r' eq in
    let both : a ∷ n ∷ b ∷ z ∷ r ≡ v.a ∷ v.n ∷ v.b ∷ v.z ∷ r' = v.whole in
    let number : n ≡ v.n = cc in
    let same : Number _ ≡ Number value' = sym is ∙ ap (λ (x : Token). x.sort) number ∙ v.is in
    (cc, cc)

pub takes_size : (tokens i j k last : List Token) (value : ℕ) → Comes OpenBracket tokens i → NumberComes i value j → Comes CloseBracket j k → Comes Semicolon k last → SizeTakes tokens value last
takes_size tokens i j k last value a n b z = record {
  used = a.token ∷ n.token ∷ b.token ∷ z.token ∷ [];
  whole = a.whole ∙ ap (λ x. a.token ∷ x) (n.whole ∙ ap (λ x. n.token ∷ x) (b.whole ∙ ap (λ x. b.token ∷ x) z.whole));
  spelled = size a.token n.token b.token z.token a.is n.is b.is z.is;
  stops = tt;
}

pub size_not_opened : (tokens : List Token) → (first tokens ≡ Some OpenBracket → ⊥) → SizeFails tokens (length tokens)
size_not_opened tokens other =
    fails_here SpellsSize Always [] tokens tokens refl (some_token OpenBracket ∷ some_token (Number 0) ∷ some_token CloseBracket ∷ some_token Semicolon ∷ [], 0, size (some_token OpenBracket) (some_token (Number 0)) (some_token CloseBracket) (some_token Semicolon) refl refl refl refl)
    (λ others c r same k. other (sym same ∙ ap first k.whole ∙ size_first k.spelled r))

pub size_no_number : (tokens i : List Token) → Comes OpenBracket tokens i → NoNumber i → SizeFails tokens (length i)
size_no_number tokens i a never =
    fails_here SpellsSize Always (a.token ∷ []) i tokens a.whole (some_token (Number 0) ∷ some_token CloseBracket ∷ some_token Semicolon ∷ [], 0, size a.token (some_token (Number 0)) (some_token CloseBracket) (some_token Semicolon) a.is refl refl refl)
    (λ others c r same k.
    let v = size_parts k.spelled (a.token ∷ others) r k.whole in
    let both : a.token ∷ others ≡ v.a ∷ v.n ∷ v.b ∷ v.z ∷ r = v.whole in
    let tail : others ≡ v.n ∷ v.b ∷ v.z ∷ r = cc in
    never.none c (sym same ∙ ap first tail ∙ ap Some v.is))

pub size_not_closed : (tokens i j : List Token) (value : ℕ) → Comes OpenBracket tokens i → NumberComes i value j → (first j ≡ Some CloseBracket → ⊥) → SizeFails tokens (length j)
size_not_closed tokens i j value a n other =
    fails_here SpellsSize Always (a.token ∷ n.token ∷ []) j tokens (a.whole ∙ ap (λ x. a.token ∷ x) n.whole) (some_token CloseBracket ∷ some_token Semicolon ∷ [], value, size a.token n.token (some_token CloseBracket) (some_token Semicolon) a.is n.is refl refl)
    (λ others c r same k.
    let v = size_parts k.spelled (a.token ∷ n.token ∷ others) r k.whole in
    let both : a.token ∷ n.token ∷ others ≡ v.a ∷ v.n ∷ v.b ∷ v.z ∷ r = v.whole in
    let tail : others ≡ v.b ∷ v.z ∷ r = cc in
    other (sym same ∙ ap first tail ∙ ap Some v.closes))

pub size_not_ended : (tokens i j l : List Token) (value : ℕ) → Comes OpenBracket tokens i → NumberComes i value j → Comes CloseBracket j l → (first l ≡ Some Semicolon → ⊥) → SizeFails tokens (length l)
size_not_ended tokens i j l value a n b other =
    fails_here SpellsSize Always (a.token ∷ n.token ∷ b.token ∷ []) l tokens (a.whole ∙ ap (λ x. a.token ∷ x) (n.whole ∙ ap (λ x. n.token ∷ x) b.whole)) (some_token Semicolon ∷ [], value, size a.token n.token b.token (some_token Semicolon) a.is n.is b.is refl)
    (λ others c r same k.
    let v = size_parts k.spelled (a.token ∷ n.token ∷ b.token ∷ others) r k.whole in
    let both : a.token ∷ n.token ∷ b.token ∷ others ≡ v.a ∷ v.n ∷ v.b ∷ v.z ∷ r = v.whole in
    let tail : others ≡ v.z ∷ r = cc in
    other (sym same ∙ ap first tail ∙ ap Some v.ends))

pub ruleset size_steps = (takes_size, size_not_opened, size_no_number, size_not_closed, size_not_ended)

-- ---- inputs and outputs

pub some_start : SpellsStart (some_token Equals ∷ some_token (Number 0) ∷ some_token Semicolon ∷ []) (word_of (pos 0))
some_start = positive (some_token Equals) refl (ended (some_token (Number 0)) (some_token Semicolon) refl refl)

pub record ReactiveParts (source : List ℕ) (kind : CellKind) (i : List Token) (item : Item) (rest : List Token) : Type 0 where
  pub w : List Token
  pub v : List Token
  pub name : Word
  pub z : ℤ
  pub front : SpellsParameter source w name
  pub start : SpellsStart v z
  pub tree : item ≡ Scalar kind name z
  pub whole : i ≡ w ++ (v ++ rest)

pub reactive_parts : {source : List ℕ} {kind : CellKind} {w : List Token} {item : Item} → SpellsReactive source kind w item → (i rest : List Token) → i ≡ w ++ rest → ReactiveParts source kind i item rest
reactive_parts (reactive {w = w} {v = v} {name = name} {z = z} d e) i rest eq = record { w = w; v = v; name = name; z = z; front = d; start = e; tree = refl; whole = eq ∙ append_assoc w v rest }

pub unique_reactive : {source : List ℕ} {kind : CellKind} {w : List Token} {item : Item} → SpellsReactive source kind w item → (w' : List Token) (item' : Item) (r r' : List Token) → SpellsReactive source kind w' item' → w ++ r ≡ w' ++ r' → (r ≡ r') × (item ≡ item')
unique_reactive {kind = kind} (reactive {w = w} {v = v} {name = name} {z = z} d e) w' item' r r' d' eq =
    let k = reactive_parts d' ((w ++ v) ++ r) r' eq in
    let u = unique_parameter d k.w k.name (v ++ r) (k.v ++ r') k.front (sym (append_assoc w v r) ∙ k.whole) in
    let s = unique_start e k.v k.z r r' k.start u.0 in
    (s.0, ap (λ x. Scalar kind x z) u.1 ∙ ap (Scalar kind k.name) s.1 ∙ sym k.tree)

pub takes_reactive : (source : List ℕ) (kind : CellKind) (tokens i : List Token) (name : Word) (z : ℤ) (last : List Token) → ParameterTakes source tokens name i → StartTakes i z last → ReactiveTakes source kind tokens (Scalar kind name z) last
takes_reactive source kind tokens i name z last h k = record {
  used = h.used ++ k.used;
  whole = h.whole ∙ ap (λ x. h.used ++ x) k.whole ∙ sym (append_assoc h.used k.used last);
  spelled = reactive h.spelled k.spelled;
  stops = tt;
}

pub reactive_name_refuses : (source : List ℕ) (kind : CellKind) (tokens : List Token) (f : Failure) → Refuses (ParameterFails source) tokens f → Refuses (ReactiveFails source kind) tokens f
reactive_name_refuses source kind tokens (Broken n) f =
    fails_behind (SpellsParameter source) (λ _. AfterName) (SpellsReactive source kind) Always [] tokens tokens n refl f
    (λ v name d. (some_token Equals ∷ some_token (Number 0) ∷ some_token Semicolon ∷ [], Scalar kind name (word_of (pos 0)), reactive d some_start))
    (λ others c r _ same k. let v = reactive_parts k.spelled others r k.whole in (v.name, v.v ++ r, record { used = v.w; whole = v.whole; spelled = v.front; stops = tt }))
reactive_name_refuses source kind tokens Memory f = tt

pub reactive_start_refuses : (source : List ℕ) (kind : CellKind) (tokens i : List Token) (name : Word) (f : Failure) → ParameterTakes source tokens name i → Refuses StartFails i f → Refuses (ReactiveFails source kind) tokens f
reactive_start_refuses source kind tokens i name (Broken n) h f =
    fails_behind SpellsStart Always (SpellsReactive source kind) Always h.used i tokens n h.whole f
    (λ v z d. ([], Scalar kind name z, subst (λ x. SpellsReactive source kind x (Scalar kind name z)) (sym (append-nil (h.used ++ v))) (reactive h.spelled d)))
    (λ others c r _ same k.
    let v = reactive_parts k.spelled (h.used ++ others) r k.whole in
    let u = unique_parameter h.spelled v.w v.name others (v.v ++ r) v.front v.whole in
    (v.z, r, record { used = v.v; whole = u.0; spelled = v.start; stops = tt }))
reactive_start_refuses source kind tokens i name Memory h f = tt

pub ruleset reactive_steps = (takes_reactive, reactive_name_refuses, reactive_start_refuses)
