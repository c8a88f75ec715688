-- One lemma for each way on which the parser of what stands behind `int` and a name answers.
use Rattle.std.proofs.Common.{◌≡◌, ℕ, ℤ, pos, List, [], ◌∷◌, ◌++◌, Option, Some, refl, sym, ap, subst, ◌∙◌, append-nil}
use Rattle.pc_grammar.specs.declared.tokens.Sort.{Sort}
use Rattle.pc_grammar.specs.declared.tokens.Sort.TheVariants.{Equals, OpenBracket, OpenParenthesis, Semicolon}
use Rattle.pc_grammar.specs.declared.tokens.Token.{Token}
use Rattle.pc_grammar.specs.declared.expressions.Word.{Word}
use Rattle.pc_grammar.specs.declared.programs.CellKind.TheVariants.{Plain}
use Rattle.pc_grammar.specs.declared.programs.Item.{Item}
use Rattle.pc_grammar.specs.declared.programs.Item.TheVariants.{Scalar, Array}
use Rattle.pc_parse.specs.declared.reading.Failure.{Failure}
use Rattle.pc_parse.specs.declared.reading.Failure.TheVariants.{Broken, Memory}
use Rattle.pc_grammar.specs.Refusing.{first}
use Rattle.pc_parse.specs.Reading.{Comes, Refuses, Always}
use Rattle.pc_parse.proofs.Behind.{fails_behind}
use Rattle.pc_grammar.specs.Constants.{SpellsStart}
use Rattle.pc_parse.specs.Constants.{StartTakes, StartFails}
use Rattle.pc_parse.proofs.Starts.{start_first, unique_start}
use Rattle.pc_grammar.specs.Items.{SpellsSize, SpellsFunction, SpellsNamedItem, plain, started, array, giving}
use Rattle.pc_parse.specs.Items.{SizeTakes, SizeFails, FunctionTakes, FunctionFails, NamedItemTakes, NamedItemFails}
use Rattle.pc_parse.proofs.Sizes.{size_first, unique_size}
use Rattle.pc_parse.proofs.Functions.{function_first, unique_function}

-- ---- what stands there, by its first token

clash : {A : Type 0} (o : Option Sort) (s z : Sort) → o ≡ Some s → o ≡ Some z → (s ≡ z → ⊥) → A
clash o s z a b differ = let c : Some s ≡ Some z = sym a ∙ b in absurd (differ (cc))

pub record ArrayIs (source : List ℕ) (name : Word) (w : List Token) (item : Item) : Type 0 where
  pub value : ℕ
  pub inner : SpellsSize w value
  pub tree : item ≡ Array name value

pub as_array : {source : List ℕ} {name : Word} {w : List Token} {item : Item} → SpellsNamedItem source name w item → (r : List Token) → first (w ++ r) ≡ Some OpenBracket → ArrayIs source name w item
as_array (plain z is) r at = clash (Some z.sort) Semicolon OpenBracket (ap Some is) at (λ h. cc)
as_array (started {w = w} d) r at = clash (first (w ++ r)) Equals OpenBracket (start_first d r) at (λ h. cc)
as_array (array {value = value} d) r at = record { value = value; inner = d; tree = refl }
as_array (giving {w = w} d) r at = clash (first (w ++ r)) OpenParenthesis OpenBracket (function_first d r) at (λ h. cc)

pub as_giving : {source : List ℕ} {name : Word} {w : List Token} {item : Item} → SpellsNamedItem source name w item → (r : List Token) → first (w ++ r) ≡ Some OpenParenthesis → SpellsFunction source name w item
as_giving (plain z is) r at = clash (Some z.sort) Semicolon OpenParenthesis (ap Some is) at (λ h. cc)
as_giving (started {w = w} d) r at = clash (first (w ++ r)) Equals OpenParenthesis (start_first d r) at (λ h. cc)
as_giving (array {w = w} d) r at = clash (first (w ++ r)) OpenBracket OpenParenthesis (size_first d r) at (λ h. cc)
as_giving (giving d) r at = d

pub record StartIs (name : Word) (w : List Token) (item : Item) : Type 0 where
  pub z : ℤ
  pub inner : SpellsStart w z
  pub tree : item ≡ Scalar Plain name z

pub as_started : {source : List ℕ} {name : Word} {w : List Token} {item : Item} → SpellsNamedItem source name w item → (r : List Token) → (first (w ++ r) ≡ Some Semicolon → ⊥) → (first (w ++ r) ≡ Some OpenBracket → ⊥) → (first (w ++ r) ≡ Some OpenParenthesis → ⊥) → StartIs name w item
as_started (plain z is) r a b c = absurd (a (ap Some is))
as_started (started {z = z} d) r a b c = record { z = z; inner = d; tree = refl }
as_started (array d) r a b c = absurd (b (size_first d r))
as_started (giving d) r a b c = absurd (c (function_first d r))

pub record PlainIs (name : Word) (w : List Token) (item : Item) : Type 0 where
  pub z : Token
  pub whole : w ≡ z ∷ []
  pub tree : item ≡ Scalar Plain name (pos 0)

pub as_plain : {source : List ℕ} {name : Word} {w : List Token} {item : Item} → SpellsNamedItem source name w item → (r : List Token) → first (w ++ r) ≡ Some Semicolon → PlainIs name w item
as_plain (plain z is) r at = record { z = z; whole = refl; tree = refl }
as_plain (started {w = w} d) r at = clash (first (w ++ r)) Equals Semicolon (start_first d r) at (λ h. cc)
as_plain (array {w = w} d) r at = clash (first (w ++ r)) OpenBracket Semicolon (size_first d r) at (λ h. cc)
as_plain (giving {w = w} d) r at = clash (first (w ++ r)) OpenParenthesis Semicolon (function_first d r) at (λ h. cc)

pub unique_named_item : {source : List ℕ} {name : Word} {w : List Token} {item : Item} → SpellsNamedItem source name w item → (w' : List Token) (item' : Item) (r r' : List Token) → SpellsNamedItem source name w' item' → w ++ r ≡ w' ++ r' → (r ≡ r') × (item ≡ item')
unique_named_item (plain z is) w' item' r r' d' eq =
    let k = as_plain d' r' (ap first (sym eq) ∙ ap Some is) in
    let both : z ∷ r ≡ k.z ∷ r' = eq ∙ ap (λ x. x ++ r') k.whole in
    (cc, sym k.tree)
unique_named_item {name = name} (started {w = w} d) w' item' r r' d' eq =
    let at : first (w' ++ r') ≡ Some Equals = ap first (sym eq) ∙ start_first d r in
    let k = as_started d' r' (λ h. clash (first (w' ++ r')) Equals Semicolon at h (λ x. cc)) (λ h. clash (first (w' ++ r')) Equals OpenBracket at h (λ x. cc)) (λ h. clash (first (w' ++ r')) Equals OpenParenthesis at h (λ x. cc)) in
    let u = unique_start d w' k.z r r' k.inner eq in
    (u.0, ap (Scalar Plain name) u.1 ∙ sym k.tree)
unique_named_item {name = name} (array {w = w} d) w' item' r r' d' eq =
    let k = as_array d' r' (ap first (sym eq) ∙ size_first d r) in
    let u = unique_size d w' k.value r r' k.inner eq in
    (u.0, ap (Array name) u.1 ∙ sym k.tree)
unique_named_item (giving d) w' item' r r' d' eq = unique_function d w' item' r r' (as_giving d' r' (ap first (sym eq) ∙ function_first d r)) eq

-- ---- the ways of the parser

pub takes_plain : (source : List ℕ) (name : Word) (tokens last : List Token) → Comes Semicolon tokens last → NamedItemTakes source name tokens (Scalar Plain name (pos 0)) last
takes_plain source name tokens last z = record { used = z.token ∷ []; whole = z.whole; spelled = plain z.token z.is; stops = tt }

pub takes_array : (source : List ℕ) (name : Word) (tokens : List Token) (value : ℕ) (last : List Token) → SizeTakes tokens value last → NamedItemTakes source name tokens (Array name value) last
takes_array source name tokens value last h = record { used = h.used; whole = h.whole; spelled = array h.spelled; stops = tt }

pub takes_giving : (source : List ℕ) (name : Word) (tokens : List Token) (item : Item) (last : List Token) → FunctionTakes source name tokens item last → NamedItemTakes source name tokens item last
takes_giving source name tokens item last h = record { used = h.used; whole = h.whole; spelled = giving h.spelled; stops = tt }

pub takes_started : (source : List ℕ) (name : Word) (tokens : List Token) (z : ℤ) (last : List Token) → StartTakes tokens z last → NamedItemTakes source name tokens (Scalar Plain name z) last
takes_started source name tokens z last h = record { used = h.used; whole = h.whole; spelled = started h.spelled; stops = tt }

pub array_refuses : (source : List ℕ) (name : Word) (tokens : List Token) (f : Failure) → first tokens ≡ Some OpenBracket → Refuses SizeFails tokens f → Refuses (NamedItemFails source name) tokens f
array_refuses source name tokens (Broken n) at f =
    fails_behind SpellsSize Always (SpellsNamedItem source name) Always [] tokens tokens n refl f
    (λ v value d. ([], Array name value, subst (λ x. SpellsNamedItem source name x (Array name value)) (sym (append-nil v)) (array d)))
    (λ others c r same _ k. let v = as_array k.spelled r (ap first (sym k.whole) ∙ same ∙ at) in (v.value, r, record { used = k.used; whole = k.whole; spelled = v.inner; stops = tt }))
array_refuses source name tokens Memory at f = tt

pub giving_refuses : (source : List ℕ) (name : Word) (tokens : List Token) (f : Failure) → first tokens ≡ Some OpenParenthesis → Refuses (FunctionFails source name) tokens f → Refuses (NamedItemFails source name) tokens f
giving_refuses source name tokens (Broken n) at f =
    fails_behind (SpellsFunction source name) Always (SpellsNamedItem source name) Always [] tokens tokens n refl f
    (λ v item d. ([], item, subst (λ x. SpellsNamedItem source name x item) (sym (append-nil v)) (giving d)))
    (λ others c r same _ k. (c, r, record { used = k.used; whole = k.whole; spelled = as_giving k.spelled r (ap first (sym k.whole) ∙ same ∙ at); stops = tt }))
giving_refuses source name tokens Memory at f = tt

pub started_refuses : (source : List ℕ) (name : Word) (tokens : List Token) (f : Failure) → (first tokens ≡ Some Semicolon → ⊥) → (first tokens ≡ Some OpenBracket → ⊥) → (first tokens ≡ Some OpenParenthesis → ⊥) → Refuses StartFails tokens f → Refuses (NamedItemFails source name) tokens f
started_refuses source name tokens (Broken n) a b c f =
    fails_behind SpellsStart Always (SpellsNamedItem source name) Always [] tokens tokens n refl f
    (λ v z d. ([], Scalar Plain name z, subst (λ x. SpellsNamedItem source name x (Scalar Plain name z)) (sym (append-nil v)) (started d)))
    (λ others item r same _ k.
    let v = as_started k.spelled r (λ h. a (sym same ∙ ap first k.whole ∙ h)) (λ h. b (sym same ∙ ap first k.whole ∙ h)) (λ h. c (sym same ∙ ap first k.whole ∙ h)) in
    (v.z, r, record { used = k.used; whole = k.whole; spelled = v.inner; stops = tt }))
started_refuses source name tokens Memory a b c f = tt

pub ruleset named_steps = (takes_plain, takes_array, takes_giving, takes_started, array_refuses, giving_refuses, started_refuses)
