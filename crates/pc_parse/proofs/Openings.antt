-- An item, by what it begins with.
use Rattle.std.proofs.Common.{◌≡◌, ℕ, false, List, [], ◌∷◌, ◌++◌, Some, None, refl, sym, ap, subst, ◌∙◌, append_assoc}
use Rattle.pc_grammar.specs.declared.tokens.Sort.{Sort}
use Rattle.pc_grammar.specs.declared.tokens.Sort.TheVariants.{Name, VoidWord, IntWord, ReactiveInputWord, ReactiveOutputWord, CloseBrace}
use Rattle.pc_grammar.specs.declared.tokens.Token.{Token}
use Rattle.pc_grammar.specs.declared.expressions.Word.{Word}
use Rattle.pc_grammar.specs.declared.programs.CellKind.TheVariants.{Input, Output}
use Rattle.pc_grammar.specs.declared.programs.Item.{Item}
use Rattle.pc_grammar.specs.declared.programs.Item.TheVariants.{Function}
use Rattle.pc_grammar.specs.Refusing.{first}
use Rattle.pc_grammar.specs.Expressions.{word_at}
use Rattle.pc_grammar.specs.declared.frames.Frame.{Frame}
use Rattle.pc_grammar.specs.Frames.{SpellsParameter, parameter, SpellsFrame}
use Rattle.pc_parse.proofs.Parameters.{parameter_first}
use Rattle.pc_parse.specs.declared.items.ItemOpening.{ItemOpening}
use Rattle.pc_parse.specs.declared.items.ItemOpening.TheVariants.{Input as InputOpening, Output as OutputOpening, Int as IntOpening, Void as VoidOpening, Nothing as NothingOpening}
use Rattle.pc_grammar.specs.Items.{SpellsNamedItem, SpellsItem, input, output, named, routine}
use Rattle.pc_parse.specs.Items.{item_opening_of, ReactiveTakes}

pub input_opens : item_opening_of ReactiveInputWord ≡ InputOpening
unfolding item_opening_of
input_opens = refl

pub output_opens : item_opening_of ReactiveOutputWord ≡ OutputOpening
unfolding item_opening_of
output_opens = refl

pub int_opens : item_opening_of IntWord ≡ IntOpening
unfolding item_opening_of
int_opens = refl

pub void_opens : item_opening_of VoidWord ≡ VoidOpening
unfolding item_opening_of
void_opens = refl

pub is_input : (s : Sort) → item_opening_of s ≡ InputOpening → s ≡ ReactiveInputWord
unfolding item_opening_of
is_input ReactiveInputWord is = refl
is_input s is = cc

pub is_output : (s : Sort) → item_opening_of s ≡ OutputOpening → s ≡ ReactiveOutputWord
unfolding item_opening_of
is_output ReactiveOutputWord is = refl
is_output s is = cc

pub is_int : (s : Sort) → item_opening_of s ≡ IntOpening → s ≡ IntWord
unfolding item_opening_of
is_int IntWord is = refl
is_int s is = cc

pub is_void : (s : Sort) → item_opening_of s ≡ VoidOpening → s ≡ VoidWord
unfolding item_opening_of
is_void VoidWord is = refl
is_void s is = cc

pub record NamedAfter (source : List ℕ) (t : Token) (i : List Token) (item : Item) (rest : List Token) : Type 0 where
  pub w : List Token
  pub v : List Token
  pub name : Word
  pub front : SpellsParameter source w name
  pub back : SpellsNamedItem source name v item
  pub whole : t ∷ i ≡ w ++ (v ++ rest)

pub record RoutineAfter (source : List ℕ) (i : List Token) (item : Item) (rest : List Token) : Type 0 where
  pub n : Token
  pub is_name : n.sort ≡ Name
  pub w : List Token
  pub f : Frame
  pub front : SpellsFrame source w f
  pub b : Token
  pub closes : b.sort ≡ CloseBrace
  pub tree : item ≡ Function (word_at source n) false f.parameters f.locals f.body None
  pub whole : i ≡ n ∷ (w ++ b ∷ rest)

abbrev pub ItemAfter : List ℕ → ItemOpening → Token → List Token → Item → List Token → Type 0
ItemAfter source InputOpening t i item rest = ReactiveTakes source Input i item rest
ItemAfter source OutputOpening t i item rest = ReactiveTakes source Output i item rest
ItemAfter source IntOpening t i item rest = NamedAfter source t i item rest
ItemAfter source VoidOpening t i item rest = RoutineAfter source i item rest
ItemAfter source NothingOpening t i item rest = ⊥

at_token : (source : List ℕ) (o : ItemOpening) (t t' : Token) (i i' : List Token) (item : Item) (rest : List Token) → item_opening_of t'.sort ≡ o → t' ∷ i' ≡ t ∷ i →
    ItemAfter source o t' i' item rest → ItemAfter source (item_opening_of t.sort) t i item rest
at_token source o t t' i i' item rest is eq h =
    let one : t' ≡ t = cc in
    let two : i' ≡ i = cc in
    subst (λ x. ItemAfter source (item_opening_of x.sort) x i item rest) one (subst (λ x. ItemAfter source x t' i item rest) (sym is) (subst (λ x. ItemAfter source o t' x item rest) two h))

named_after : (source : List ℕ) {w v : List Token} {name : Word} {item : Item} → SpellsParameter source w name → SpellsNamedItem source name v item → (t : Token) (i rest : List Token) → (w ++ v) ++ rest ≡ t ∷ i → ItemAfter source (item_opening_of t.sort) t i item rest
named_after source {w = w} {v = v} {name = name} {item = item} d e t i rest eq =
    let at : Some t.sort ≡ Some IntWord = ap first (sym eq) ∙ ap first (append_assoc w v rest) ∙ parameter_first d (v ++ rest) in
    let word : t.sort ≡ IntWord = cc in
    subst (λ x. ItemAfter source x t i item rest) (sym (ap item_opening_of word ∙ int_opens)) (record { w = w; v = v; name = name; front = d; back = e; whole = sym eq ∙ append_assoc w v rest })

pub item_after : {source : List ℕ} {w : List Token} {item : Item} → SpellsItem source w item → (t : Token) (i rest : List Token) → w ++ rest ≡ t ∷ i → ItemAfter source (item_opening_of t.sort) t i item rest
item_after {source = source} {item = item} (input {w = w} t' is d) t i rest eq = at_token source InputOpening t t' i (w ++ rest) item rest (ap item_opening_of is ∙ input_opens) eq (record { used = w; whole = refl; spelled = d; stops = tt })
item_after {source = source} {item = item} (output {w = w} t' is d) t i rest eq = at_token source OutputOpening t t' i (w ++ rest) item rest (ap item_opening_of is ∙ output_opens) eq (record { used = w; whole = refl; spelled = d; stops = tt })
item_after {source = source} (named d e) t i rest eq = named_after source d e t i rest eq
item_after {source = source} {item = item} (routine {w = w} {f = f} t' n b is is_name closes d) t i rest eq =
    at_token source VoidOpening t t' i (n ∷ ((w ++ b ∷ []) ++ rest)) item rest (ap item_opening_of is ∙ void_opens) eq
    (record { n = n; is_name = is_name; w = w; f = f; front = d; b = b; closes = closes; tree = refl; whole = ap (λ x. n ∷ x) (append_assoc w (b ∷ []) rest) })

pub item_as : {source : List ℕ} {w : List Token} {item : Item} → SpellsItem source w item → (o : ItemOpening) (t : Token) (i rest : List Token) → item_opening_of t.sort ≡ o → w ++ rest ≡ t ∷ i → ItemAfter source o t i item rest
item_as {source = source} {item = item} d o t i rest is eq = subst (λ x. ItemAfter source x t i item rest) is (item_after d t i rest eq)

pub as_routine : {source : List ℕ} {w : List Token} {item : Item} → SpellsItem source w item → (t : Token) (i rest : List Token) → t.sort ≡ VoidWord → w ++ rest ≡ t ∷ i → RoutineAfter source i item rest
as_routine d t i rest word eq = item_as d VoidOpening t i rest (ap item_opening_of word ∙ void_opens) eq

parameter_begins : {source : List ℕ} {w : List Token} {name : Word} → SpellsParameter source w name → (r : List Token) → (t : Token) × (i : List Token) × (w ++ r ≡ t ∷ i)
parameter_begins (parameter t n is_int is_name) r = (t, n ∷ r, refl)

pub item_begins : {source : List ℕ} {w : List Token} {item : Item} → SpellsItem source w item → (r : List Token) → (t : Token) × (i : List Token) × (w ++ r ≡ t ∷ i)
item_begins (input {w = w} t is d) r = (t, w ++ r, refl)
item_begins (output {w = w} t is d) r = (t, w ++ r, refl)
item_begins (named {w = w} {v = v} d e) r = let b = parameter_begins d (v ++ r) in (b.0, b.1, append_assoc w v r ∙ b.2)
item_begins (routine {w = w} t n b is is_name closes d) r = (t, n ∷ ((w ++ b ∷ []) ++ r), refl)
