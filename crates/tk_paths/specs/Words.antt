-- How the words of a code lead on, whatever the data are: docs/bounds.md, "Words".
use Rattle.std.specs.Prelude.{ℕ, ℤ, false, if◌then◌else◌, length, slice_get, Option, Some, None}
use Rattle.mb_isa.specs.declared.Instr.{Instr}
use Rattle.mb_isa.specs.declared.Instr.TheVariants as instr
use Rattle.tk_paths.specs.declared.word.Word.{Word}
use Rattle.tk_paths.specs.declared.word.Word.TheVariants.{Does, Imm, Jump, Branch, Fork, Eot, End, Abrt, Leave, Call, Ret, Loop, Next, Drop, Cend}
use Rattle.mb_isa.specs.Candidates.{decoded}
use Rattle.mb_isa.specs.Classes.{class_of}
use Rattle.pt_image.specs.declared.Parts.{Parts}
use Rattle.mb_isa.specs.Operands.{immediate, turns_of, branch_place}
use Rattle.mb_isa.specs.Words.{is_barred}

-- where a branch with this imm leads, if that is a place of the code
abbrev pub goal_of : Parts → ℕ → Option ℤ → ℤ → Option ℕ
goal_of image place upper imm = branch_place (length image.code) place (immediate upper imm)

-- what an instruction at a place comes to, read with this upper half
abbrev pub word_of : Parts → ℕ → Option ℤ → Instr → Word
word_of image place upper (instr.Imm imm) = Imm imm
word_of image place upper (instr.Bri imm) = Jump (goal_of image place upper imm)
word_of image place upper (instr.Beqi ra imm) = Branch (goal_of image place upper imm)
word_of image place upper (instr.Bnei ra imm) = Branch (goal_of image place upper imm)
word_of image place upper (instr.Blti ra imm) = Branch (goal_of image place upper imm)
word_of image place upper (instr.Blei ra imm) = Branch (goal_of image place upper imm)
word_of image place upper (instr.Bgti ra imm) = Branch (goal_of image place upper imm)
word_of image place upper (instr.Bgei ra imm) = Branch (goal_of image place upper imm)
word_of image place upper (instr.Fork lo count) = Fork lo count
word_of image place upper instr.Eot = Eot
word_of image place upper instr.End = End
word_of image place upper (instr.Abrt j) = Abrt j
word_of image place upper instr.Leave = Leave
word_of image place upper (instr.Call to) = Call to
word_of image place upper instr.Ret = Ret
word_of image place upper (instr.Loop n) = Loop (turns_of upper n)
word_of image place upper (instr.Next to) = Next to
word_of image place upper instr.Drop = Drop
word_of image place upper (instr.Cend ra) = Cend
word_of image place upper other = Does (class_of false other)

-- the instruction at a place, if there is one
abbrev pub instr_in : Option ℕ → Option Instr
instr_in None = None
instr_in (Some word) = decoded word

abbrev pub instr_at : Parts → ℕ → Option Instr
instr_at image place = instr_in (slice_get image.code place)

-- what an instruction comes to, if it may follow the upper half that stands
abbrev pub read_instr : Parts → ℕ → Option ℤ → Option Instr → Option Word
read_instr image place upper None = None
read_instr image place upper (Some i) = if is_barred upper i then None else Some (word_of image place upper i)

-- what the word of a place comes to, read with this upper half; none outside the code, and where it can't be read so
abbrev pub read : Parts → ℕ → Option ℤ → Option Word
read image place upper = read_instr image place upper (instr_at image place)
