-- The words of steps and tests. r3 to r8 hold what is of use within one step only.
use Rattle.std.specs.Prelude.{ℕ, zero, suc, ◌+◌, ◌*◌, ◌/◌, ◌%◌, nat_lt, nat_le, ℤ, pos, negsuc, Bool, true, ◌&&◌, if◌then◌else◌, List, [], ◌∷◌, ◌++◌}
use Rattle.std.specs.Int.{w16, w32, cast_signed, cast_unsigned}
use Rattle.pt_base.specs.declared.UnOp.{UnOp}
use Rattle.pt_base.specs.declared.UnOp.TheVariants as unary
use Rattle.pt_base.specs.declared.BinOp.{BinOp}
use Rattle.pt_base.specs.declared.BinOp.TheVariants as binary
use Rattle.mb_isa.specs.declared.Reg.{Reg}
use Rattle.mb_isa.specs.declared.Reg.TheVariants.{R0, R3, R4, R5, R6, R7, R8}
use Rattle.mb_isa.specs.declared.Instr.{Instr}
use Rattle.mb_isa.specs.declared.Instr.TheVariants.{Addk, Rsubk, Cmp, Or, And, Xor, Mul, Idiv, Bsrl, Bsra, Bsll, Addik, Xori, Beqi, Lwi, Swi}
use Rattle.pc_lower.specs.declared.nodes.Place.{Place}
use Rattle.pc_lower.specs.declared.nodes.Step.{Step}
use Rattle.pc_lower.specs.declared.nodes.Step.TheVariants.{Const as const, Load as load, Save as save, Unary as unary_step, Binary as binary_step, TakeElement as take_element, PutElement as put_element, Move as move}
use Rattle.pc_lower.specs.declared.nodes.Test.{Test}
use Rattle.pc_lower.specs.Words.{Written, alone, after_imm, Writing}
use Rattle.pc_regs.specs.declared.placement.Placement.{Placement}
use Rattle.pc_regs.specs.declared.placement.Location.{Location}
use Rattle.pc_regs.specs.declared.placement.Location.TheVariants.{Register as in_register, Memory as in_memory}
use Rattle.pc_regs.specs.Placement.{location_of, is_placed}

-- ---- numbers in words

-- a number fits the 16 bits of a word's imm
abbrev pub is_short : ℤ → Bool
is_short (pos n) = nat_lt n 32768
is_short (negsuc n) = nat_lt n 32768

-- a number fits 32 bits
abbrev pub is_word : ℤ → Bool
is_word (pos n) = nat_lt n 2147483648
is_word (negsuc n) = nat_lt n 2147483648

abbrev pub upper_half : ℤ → ℤ
upper_half n = cast_signed w16 (cast_unsigned w32 n / 65536)

abbrev pub lower_half : ℤ → ℤ
lower_half n = cast_signed w16 (cast_unsigned w32 n % 65536)

-- a word with a number: where 16 bits don't hold it, an `imm` before the word has its upper half
abbrev pub wide : ℤ → (ℤ → Instr) → Written
wide n word = if is_short n then alone (word n) else after_imm (upper_half n) (word (lower_half n))

-- the byte of a memory word
abbrev pub byte_of : ℕ → ℤ
byte_of word = pos (4 * word)

-- ---- operands and results

-- a number into a register
abbrev pub constant : Reg → ℤ → List Written
constant rd n = wide n (Addik rd R0) ∷ []

-- a memory word into a register, and back
abbrev pub load_word : Reg → ℕ → List Written
load_word rd word = wide (byte_of word) (Lwi rd R0) ∷ []

abbrev pub store_word : Reg → ℕ → List Written
store_word rd word = wide (byte_of word) (Swi rd R0) ∷ []

-- the register in which a word is used: its own, or this one where it stands in the memory
abbrev pub register_for : Reg → Location → Reg
register_for scratch (in_register r) = r
register_for scratch (in_memory word) = scratch

-- what brings it there
abbrev pub fetched : Reg → Location → List Written
fetched scratch (in_register r) = []
fetched scratch (in_memory word) = load_word scratch word

-- what brings a result from there to its place
abbrev pub delivered : Reg → Location → List Written
delivered scratch (in_register r) = []
delivered scratch (in_memory word) = store_word scratch word

-- ---- operators

-- 1 where r6 is negative, and 0 elsewhere
abbrev pub sign : Reg → List Written
sign to = alone (Addik R7 R0 (pos 31)) ∷ alone (Bsrl to R6 R7) ∷ []

-- 0 where r6 is negative, and 1 elsewhere
abbrev pub no_sign : Reg → List Written
no_sign to = alone (Addik R7 R0 (pos 31)) ∷ alone (Bsrl R6 R6 R7) ∷ alone (Xori to R6 (pos 1)) ∷ []

-- r6 is negative where a word isn't 0
abbrev pub unequal_zero : Reg → List Written
unequal_zero by = alone (Cmp R6 by R0) ∷ alone (Or R6 R6 by) ∷ []

-- r6 is negative where two words differ
abbrev pub unequal : (left right : Reg) → List Written
unequal left right = alone (Cmp R6 right left) ∷ alone (Cmp R7 left right) ∷ alone (Or R6 R6 R7) ∷ []

-- r6 and r7 are negative where the words aren't 0
abbrev pub both_unequal_zero : (left right : Reg) → List Written
both_unequal_zero left right = unequal_zero left ++ alone (Cmp R7 right R0) ∷ alone (Or R7 R7 right) ∷ []

abbrev pub unary_words : UnOp → (to by : Reg) → List Written
unary_words unary.Neg to by = alone (Rsubk to by R0) ∷ []
unary_words unary.Not to by = unequal_zero by ++ no_sign to
unary_words unary.Flip to by = alone (Xori to by (negsuc 0)) ∷ []

abbrev pub binary_words : BinOp → (to left right : Reg) → List Written
binary_words binary.Or to left right = both_unequal_zero left right ++ alone (Or R6 R6 R7) ∷ sign to
binary_words binary.And to left right = both_unequal_zero left right ++ alone (And R6 R6 R7) ∷ sign to
binary_words binary.BitOr to left right = alone (Or to left right) ∷ []
binary_words binary.BitXor to left right = alone (Xor to left right) ∷ []
binary_words binary.BitAnd to left right = alone (And to left right) ∷ []
binary_words binary.Equal to left right = unequal left right ++ no_sign to
binary_words binary.NotEqual to left right = unequal left right ++ sign to
binary_words binary.Less to left right = alone (Cmp R6 right left) ∷ sign to
binary_words binary.LessEqual to left right = alone (Cmp R6 left right) ∷ no_sign to
binary_words binary.Greater to left right = alone (Cmp R6 left right) ∷ sign to
binary_words binary.GreaterEqual to left right = alone (Cmp R6 right left) ∷ no_sign to
binary_words binary.ShiftLeft to left right = alone (Bsll to left right) ∷ []
binary_words binary.ShiftRight to left right = alone (Bsra to left right) ∷ []
binary_words binary.Add to left right = alone (Addk to left right) ∷ []
binary_words binary.Sub to left right = alone (Rsubk to right left) ∷ []
binary_words binary.Mul to left right = alone (Mul to left right) ∷ []
binary_words binary.Div to left right = alone (Idiv to right left) ∷ []
binary_words binary.Rem to left right = alone (Idiv R6 right left) ∷ alone (Mul R6 R6 right) ∷ alone (Rsubk to R6 left) ∷ []

-- ---- elements

abbrev pub last_index : ℕ → ℤ
last_index zero = negsuc 0
last_index (suc n) = pos n

-- r6 is -1 where the index is outside of an array of so many words, and 0 within
abbrev pub outside : (size : ℕ) (index : Reg) → List Written
outside size index =
    alone (Addik R6 R0 (last_index size)) ∷ alone (Cmp R6 index R6) ∷ alone (Or R6 R6 index) ∷ alone (Addik R7 R0 (pos 31)) ∷ alone (Bsra R6 R6 R7) ∷ []

-- the mask of what is within, from r6; and four times the index, or 0 outside
abbrev pub masked : (mask to index : Reg) → List Written
masked mask to index = alone (Xori mask R6 (negsuc 0)) ∷ alone (And to index mask) ∷ alone (Addk to to to) ∷ alone (Addk to to to) ∷ []

-- outside the first element is read, and 0 comes of it
abbrev pub take_words : (to : Reg) (first size : ℕ) (index : Reg) → List Written
take_words to first size index =
    outside size index ++ (masked R6 R7 index ++ wide (byte_of first) (Lwi R7 R7) ∷ alone (And to R7 R6) ∷ [])

-- the memory word that stands so many words behind a first one, under the mask r6, and a word under the mask r7 go there
abbrev pub replaced : (first : ℕ) (by : Reg) → List Written
replaced first by =
    alone (And R8 by R7) ∷ wide (byte_of first) (Lwi R7 R3) ∷ alone (And R7 R7 R6) ∷ alone (Or R7 R7 R8) ∷ wide (byte_of first) (Swi R7 R3) ∷ []

-- outside the first element is written as it was
abbrev pub put_words : (first size : ℕ) (index by : Reg) → List Written
put_words first size index by = outside size index ++ (masked R7 R3 index ++ replaced first by)

-- ---- steps and tests

-- a word from a register, or into one
abbrev pub moved : (to by : Location) → List Written
moved (in_register rd) (in_register ra) = alone (Addk rd ra R0) ∷ []
moved (in_register rd) (in_memory word) = load_word rd word
moved (in_memory word) by = fetched R4 by ++ store_word (register_for R4 by) word

-- an operator on words of these locations, its result to one
abbrev pub unary_at : UnOp → (to by : Location) → List Written
unary_at op to by = fetched R4 by ++ (unary_words op (register_for R3 to) (register_for R4 by) ++ delivered R3 to)

abbrev pub binary_at : BinOp → (to left right : Location) → List Written
binary_at op to left right =
    fetched R4 left ++ (fetched R5 right
    ++ (binary_words op (register_for R3 to) (register_for R4 left) (register_for R5 right) ++ delivered R3 to))

-- an element to a location, and a word to an element
abbrev pub take_at : (to : Location) (first size : ℕ) (index : Location) → List Written
take_at to first size index = fetched R4 index ++ (take_words (register_for R3 to) first size (register_for R4 index) ++ delivered R3 to)

abbrev pub put_at : (first size : ℕ) (index by : Location) → List Written
put_at first size index by = fetched R4 index ++ (fetched R5 by ++ put_words first size (register_for R4 index) (register_for R5 by))

module _ (p : Placement) where
  abbrev pub location : Place → Location
  location place = location_of p place

  abbrev pub step_words : Step → List Written
  step_words (const to n) = constant (register_for R3 (location to)) n ++ delivered R3 (location to)
  step_words (load to word) = load_word (register_for R3 (location to)) word ++ delivered R3 (location to)
  step_words (save word by) = fetched R4 (location by) ++ store_word (register_for R4 (location by)) word
  step_words (unary_step op to by) = unary_at op (location to) (location by)
  step_words (binary_step op to left right) = binary_at op (location to) (location left) (location right)
  step_words (take_element to first size index) = take_at (location to) first size (location index)
  step_words (put_element first size index by) = put_at first size (location index) (location by)
  step_words (move to by) = moved (location to) (location by)

  abbrev pub steps_words : List Step → List Written
  steps_words [] = []
  steps_words (s ∷ steps) = step_words s ++ steps_words steps

  -- the word that is looked at comes to a register
  abbrev pub test_words : Test → List Written
  test_words t = steps_words t.steps ++ fetched R4 (location t.by)

  abbrev pub test_register : Test → Reg
  test_register t = register_for R4 (location t.by)

  -- ---- which steps are written

  -- the words of an array are cells
  abbrev pub is_array : (first size : ℕ) → Bool
  is_array first size = nat_le (first + size) p.cells

  abbrev pub is_step_written : Step → Bool
  is_step_written (const to n) = is_placed p to && is_word n
  is_step_written (load to word) = is_placed p to && nat_lt word p.cells
  is_step_written (save word by) = nat_lt word p.cells && is_placed p by
  is_step_written (unary_step op to by) = is_placed p to && is_placed p by
  is_step_written (binary_step op to left right) = is_placed p to && is_placed p left && is_placed p right
  is_step_written (take_element to first size index) = is_placed p to && is_array first size && is_placed p index
  is_step_written (put_element first size index by) = is_array first size && is_placed p index && is_placed p by
  is_step_written (move to by) = is_placed p to && is_placed p by

  abbrev pub are_written : List Step → Bool
  are_written [] = true
  are_written (s ∷ steps) = is_step_written s && are_written steps

  abbrev pub is_test_written : Test → Bool
  is_test_written t = are_written t.steps && is_placed p t.by

  -- how steps and tests are written
  abbrev pub writing_of : Writing
  writing_of = record {
    is_written = are_written;
    is_test_written = is_test_written;
    words_of = steps_words;
    test_words_of = test_words;
    register_of = test_register;
    branch_of = λ t. Beqi (test_register t);
  }
