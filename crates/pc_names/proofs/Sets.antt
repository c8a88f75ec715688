-- Names that are kept as a set.
use Rattle.std.proofs.Common.{◌≡◌, Bool, true, false, ◌||◌, List, [], ◌∷◌, ◌++◌, Option, refl, sym, ap, ◌∙◌, append_assoc}
use Rattle.std.specs.Prelude.{not, if◌then◌else◌}
use Rattle.std.specs.List.{list_any}
use Rattle.std.specs.Str.{bytes_eq}
use Rattle.std.specs.Cmp.Lexicographic.{bytes_decides}
use Rattle.std.proofs.lemmas.List.Folds.{list_any-append}
use Rattle.std.proofs.lemmas.List.Sums.{fold-append}
use Rattle.pt_base.specs.First.{Fault, first_of, fault_if}
use Rattle.pt_base.specs.declared.Rule.{Rule}
use Rattle.indexmap.specs.IndexSet.{insert_key}
use Rattle.pc_grammar.specs.declared.expressions.Word.{Word}
use Rattle.pc_grammar.specs.Places.{same_text, is_among}
use Rattle.pc_names.specs.Names.{HasNames, AreOnce}
use Rattle.pc_names.specs.Started.{one_if}
use Rattle.pc_names.specs.Faults.{repeats}

-- two names of one text are among the same words
same_among : (v w : Word) (words : List Word) → same_text v w ≡ true → is_among v words ≡ is_among w words
same_among v w words e = ap (λ t. list_any (λ x. bytes_eq t x.text) words) ((bytes_decides v.text w.text).0 e)

absorbed : (a b : Bool) → (b ≡ true → a ≡ true) → a ≡ (a || b)
absorbed true b h = refl
absorbed false false h = refl
absorbed false true h = let e : false ≡ true = h refl in cc

or_false : (b : Bool) → (b || false) ≡ b
or_false true = refl
or_false false = refl

-- what is among the names once one more is added
pub among_more : (names grown : List Word) (w : Word) → grown ≡ insert_key same_text names w → (v : Word) → is_among v grown ≡ (is_among v names || same_text v w)
among_more names grown w is v = ap (is_among v) is ∙ by_test (is_among w names) refl
  where
    by_test : (b : Bool) → is_among w names ≡ b → is_among v (if b then names else names ++ w ∷ []) ≡ (is_among v names || same_text v w)
    by_test true there = absorbed (is_among v names) (same_text v w) (λ e. same_among v w names e ∙ there)
    by_test false there = list_any-append (same_text v) names (w ∷ []) ∙ ap (λ b. is_among v names || b) (or_false (same_text v w))

-- one more word
pub has_more : (names grown words : List Word) (w : Word) → HasNames names words → grown ≡ insert_key same_text names w → HasNames grown (words ++ w ∷ [])
has_more names grown words w has is v =
    among_more names grown w is v ∙ ap (λ b. b || same_text v w) (has v)
    ∙ sym (list_any-append (same_text v) words (w ∷ []) ∙ ap (λ b. is_among v words || b) (or_false (same_text v w)))

or_moves : (a b c : Bool) → ((a || b) || c) ≡ (a || (b || c))
or_moves true b c = refl
or_moves false b c = refl

-- one more of the words that are left
pub among_next : (names grown : List Word) (w : Word) (rest all : List Word) → grown ≡ insert_key same_text names w →
    ((v : Word) → (is_among v names || is_among v (w ∷ rest)) ≡ is_among v all) → (v : Word) → (is_among v grown || is_among v rest) ≡ is_among v all
among_next names grown w rest all is so_far v =
    ap (λ b. b || is_among v rest) (among_more names grown w is v) ∙ or_moves (is_among v names) (same_text v w) (is_among v rest) ∙ so_far v

pub not_not : (b : Bool) → not (not b) ≡ b
not_not true = refl
not_not false = refl

pub among_started : (names grown : List Word) (w : Word) (b : Bool) → b ≡ true → grown ≡ insert_key same_text names w → (v : Word) → is_among v grown ≡ (is_among v names || is_among v (one_if b w))
among_started names grown w b starts is v =
    among_more names grown w is v ∙ ap (λ c. is_among v names || c) (sym (or_false (same_text v w))) ∙ ap (λ c. is_among v names || is_among v (one_if c w)) (sym starts)

-- what a site adds, and then the other sites
pub among_sites : (names grown added rest all : List Word) → ((v : Word) → is_among v grown ≡ (is_among v names || is_among v added)) →
    ((v : Word) → (is_among v names || is_among v (added ++ rest)) ≡ is_among v all) → (v : Word) → (is_among v grown || is_among v rest) ≡ is_among v all
among_sites names grown added rest all is so_far v =
    ap (λ b. b || is_among v rest) (is v) ∙ or_moves (is_among v names) (is_among v added) (is_among v rest)
    ∙ ap (λ b. is_among v names || b) (sym (list_any-append (same_text v) added rest)) ∙ so_far v

-- what stands there again is the same for the words and for their set
same_repeats : (rule : Rule) (names words rest : List Word) → HasNames names words → repeats rule names rest ≡ repeats rule words rest
same_repeats rule names words [] has = refl
same_repeats rule names words (w ∷ rest) has =
    ap (λ b. fault_if b (rule, w.span) ++ repeats rule (names ++ w ∷ []) rest) (has w)
    ∙ ap (λ fs. fault_if (is_among w words) (rule, w.span) ++ fs) (same_repeats rule (names ++ w ∷ []) (words ++ w ∷ []) rest (both_more names words w has))
  where
    both_more : (names words : List Word) (w : Word) → HasNames names words → HasNames (names ++ w ∷ []) (words ++ w ∷ [])
    both_more names words w has v = list_any-append (same_text v) names (w ∷ []) ∙ ap (λ b. b || is_among v (w ∷ [])) (has v) ∙ sym (list_any-append (same_text v) words (w ∷ []))

pub repeats_next : (rule : Rule) (names grown : List Word) (w : Word) (rest : List Word) (so_far next : Option Fault) (again : Bool) → grown ≡ insert_key same_text names w → again ≡ is_among w names →
    next ≡ first_of so_far (fault_if again (rule, w.span)) → first_of next (repeats rule grown rest) ≡ first_of so_far (repeats rule names (w ∷ rest))
repeats_next rule names grown w rest so_far next again is again_is next_is =
    ap (λ f. first_of f (repeats rule grown rest)) (next_is ∙ ap (λ b. first_of so_far (fault_if b (rule, w.span))) again_is)
    ∙ sym (fold-append _ so_far (fault_if (is_among w names) (rule, w.span)) (repeats rule grown rest))
    ∙ ap (λ fs. first_of so_far (fault_if (is_among w names) (rule, w.span) ++ fs)) (same_repeats rule grown (names ++ w ∷ []) rest (has_more names grown names w (λ v. refl) is))

-- the front of words that are there once
pub once_front : (words rest : List Word) → AreOnce (words ++ rest) → AreOnce words
once_front words rest once before after w is = once before (after ++ rest) w (ap (λ ws. ws ++ rest) is ∙ append_assoc before (w ∷ after) rest)
