-- Keywords and further signs that are read whole.
use Rattle.std.proofs.Common.{◌≡◌, ℕ, ◌<◌, true, List, ◌∷◌, length, refl, ap, ◌∙◌, arith}
use Rattle.std.specs.List.{list_all}
use Rattle.pc_grammar.specs.declared.tokens.Sort.{Sort}
use Rattle.pc_grammar.specs.declared.tokens.Sort.TheVariants.{IfWord, ElseWord, WhileWord, ParWord, EotWord, AbortWord, WeakWord, WhenWord, PreWord, IntWord, VoidWord, ReturnWord, ReactiveInputWord, ReactiveOutputWord, Semicolon, Comma, OpenBrace, CloseBrace, Hash, Equals}
use Rattle.pc_grammar.specs.declared.fronts.Front.{Front}
use Rattle.pc_grammar.specs.declared.fronts.Front.TheVariants.{Piece}
use Rattle.pc_grammar.specs.Spelling.{spelling_of, keywords, signs}
use Rattle.pc_grammar.specs.Numbers.{is_word}
use Rattle.pc_grammar.specs.Lexing.{word_sort, run_front, sign_of, front_of}
use Rattle.pc_print.proofs.Fronts.{Breaks, ReadWhole, word_front}
use Rattle.pc_print.proofs.Stands.{MarkRead}

-- a keyword, where no word follows it
record Keyword (s : Sort) : Type 0 where
  some : 0 < length (spelling_of s)
  words : list_all is_word (spelling_of s) ≡ true
  is : run_front (spelling_of s) ≡ Piece s

read_keyword : (s : Sort) → Keyword s → (v : List ℕ) → Breaks v → ReadWhole s (spelling_of s) v
read_keyword s k v breaks = record {
  some = k.some;
  front = word_front (spelling_of s) v k.some k.words breaks ∙ ap (λ (f : Front). let p : Front × ℕ = (f, length (spelling_of s)) in p) k.is;
}

is_if_word : Keyword IfWord
unfolding spelling_of run_front word_sort keywords
is_if_word = record { some = omega arith; words = refl; is = refl }

pub read_if_word : (v : List ℕ) → Breaks v → MarkRead IfWord v
read_if_word v breaks = record { read = read_keyword IfWord is_if_word v breaks; nameless = λ x. refl }

is_else_word : Keyword ElseWord
unfolding spelling_of run_front word_sort keywords
is_else_word = record { some = omega arith; words = refl; is = refl }

pub read_else_word : (v : List ℕ) → Breaks v → MarkRead ElseWord v
read_else_word v breaks = record { read = read_keyword ElseWord is_else_word v breaks; nameless = λ x. refl }

is_while_word : Keyword WhileWord
unfolding spelling_of run_front word_sort keywords
is_while_word = record { some = omega arith; words = refl; is = refl }

pub read_while_word : (v : List ℕ) → Breaks v → MarkRead WhileWord v
read_while_word v breaks = record { read = read_keyword WhileWord is_while_word v breaks; nameless = λ x. refl }

is_par_word : Keyword ParWord
unfolding spelling_of run_front word_sort keywords
is_par_word = record { some = omega arith; words = refl; is = refl }

pub read_par_word : (v : List ℕ) → Breaks v → MarkRead ParWord v
read_par_word v breaks = record { read = read_keyword ParWord is_par_word v breaks; nameless = λ x. refl }

is_eot_word : Keyword EotWord
unfolding spelling_of run_front word_sort keywords
is_eot_word = record { some = omega arith; words = refl; is = refl }

pub read_eot_word : (v : List ℕ) → Breaks v → MarkRead EotWord v
read_eot_word v breaks = record { read = read_keyword EotWord is_eot_word v breaks; nameless = λ x. refl }

is_abort_word : Keyword AbortWord
unfolding spelling_of run_front word_sort keywords
is_abort_word = record { some = omega arith; words = refl; is = refl }

pub read_abort_word : (v : List ℕ) → Breaks v → MarkRead AbortWord v
read_abort_word v breaks = record { read = read_keyword AbortWord is_abort_word v breaks; nameless = λ x. refl }

is_weak_word : Keyword WeakWord
unfolding spelling_of run_front word_sort keywords
is_weak_word = record { some = omega arith; words = refl; is = refl }

pub read_weak_word : (v : List ℕ) → Breaks v → MarkRead WeakWord v
read_weak_word v breaks = record { read = read_keyword WeakWord is_weak_word v breaks; nameless = λ x. refl }

is_when_word : Keyword WhenWord
unfolding spelling_of run_front word_sort keywords
is_when_word = record { some = omega arith; words = refl; is = refl }

pub read_when_word : (v : List ℕ) → Breaks v → MarkRead WhenWord v
read_when_word v breaks = record { read = read_keyword WhenWord is_when_word v breaks; nameless = λ x. refl }

is_pre_word : Keyword PreWord
unfolding spelling_of run_front word_sort keywords
is_pre_word = record { some = omega arith; words = refl; is = refl }

pub read_pre_word : (v : List ℕ) → Breaks v → MarkRead PreWord v
read_pre_word v breaks = record { read = read_keyword PreWord is_pre_word v breaks; nameless = λ x. refl }

is_int_word : Keyword IntWord
unfolding spelling_of run_front word_sort keywords
is_int_word = record { some = omega arith; words = refl; is = refl }

pub read_int_word : (v : List ℕ) → Breaks v → MarkRead IntWord v
read_int_word v breaks = record { read = read_keyword IntWord is_int_word v breaks; nameless = λ x. refl }

is_void_word : Keyword VoidWord
unfolding spelling_of run_front word_sort keywords
is_void_word = record { some = omega arith; words = refl; is = refl }

pub read_void_word : (v : List ℕ) → Breaks v → MarkRead VoidWord v
read_void_word v breaks = record { read = read_keyword VoidWord is_void_word v breaks; nameless = λ x. refl }

is_return_word : Keyword ReturnWord
unfolding spelling_of run_front word_sort keywords
is_return_word = record { some = omega arith; words = refl; is = refl }

pub read_return_word : (v : List ℕ) → Breaks v → MarkRead ReturnWord v
read_return_word v breaks = record { read = read_keyword ReturnWord is_return_word v breaks; nameless = λ x. refl }

is_reactive_input_word : Keyword ReactiveInputWord
unfolding spelling_of run_front word_sort keywords
is_reactive_input_word = record { some = omega arith; words = refl; is = refl }

pub read_reactive_input_word : (v : List ℕ) → Breaks v → MarkRead ReactiveInputWord v
read_reactive_input_word v breaks = record { read = read_keyword ReactiveInputWord is_reactive_input_word v breaks; nameless = λ x. refl }

is_reactive_output_word : Keyword ReactiveOutputWord
unfolding spelling_of run_front word_sort keywords
is_reactive_output_word = record { some = omega arith; words = refl; is = refl }

pub read_reactive_output_word : (v : List ℕ) → Breaks v → MarkRead ReactiveOutputWord v
read_reactive_output_word v breaks = record { read = read_keyword ReactiveOutputWord is_reactive_output_word v breaks; nameless = λ x. refl }

pub read_semicolon : (v : List ℕ) → MarkRead Semicolon v
unfolding front_of sign_of signs spelling_of
read_semicolon v = record { read = record { some = omega arith; front = refl }; nameless = λ x. refl }

pub read_comma : (v : List ℕ) → MarkRead Comma v
unfolding front_of sign_of signs spelling_of
read_comma v = record { read = record { some = omega arith; front = refl }; nameless = λ x. refl }

pub read_open_brace : (v : List ℕ) → MarkRead OpenBrace v
unfolding front_of sign_of signs spelling_of
read_open_brace v = record { read = record { some = omega arith; front = refl }; nameless = λ x. refl }

pub read_close_brace : (v : List ℕ) → MarkRead CloseBrace v
unfolding front_of sign_of signs spelling_of
read_close_brace v = record { read = record { some = omega arith; front = refl }; nameless = λ x. refl }

pub read_hash : (v : List ℕ) → MarkRead Hash v
unfolding front_of sign_of signs spelling_of
read_hash v = record { read = record { some = omega arith; front = refl }; nameless = λ x. refl }

pub read_equals : (v : List ℕ) → MarkRead Equals (32 ∷ v)
unfolding front_of sign_of signs spelling_of
read_equals v = record { read = record { some = omega arith; front = refl }; nameless = λ x. refl }
