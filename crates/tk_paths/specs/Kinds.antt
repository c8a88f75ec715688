-- What a certificate's lines say but for their numbers: docs/bounds.md, "Kinds".
use Rattle.std.specs.Prelude.{ℕ, ℤ, zero, suc, ◌==◌, ◌&&◌, Bool, true, false, if◌then◌else◌, List, [], ◌∷◌, ◌++◌, map, length, slice_get, slice_index_or, Option, Some, None, option_map}
use Rattle.std.specs.List.{list_any, filter, flat_map, range_with_len}
use Rattle.mb_isa.specs.declared.Instr.{Instr}
use Rattle.mb_isa.specs.declared.Instr.TheVariants as instr
use Rattle.pt_image.specs.declared.AbortLine.{AbortLine}
use Rattle.pt_image.specs.declared.Point.{Point}
use Rattle.pt_image.specs.declared.Parts.{Parts}
use Rattle.pt_image.specs.Listed.{same_numbers}
use Rattle.tk_cert.specs.declared.cert.Line.{Line}
use Rattle.tk_cert.specs.declared.cert.Line.TheVariants.{Bare, Thread, Routine, Cond}
use Rattle.tk_paths.specs.declared.word.Word.{Word}
use Rattle.tk_paths.specs.declared.word.Word.TheVariants.{Jump, Branch, Fork, Call, Next}
use Rattle.tk_paths.specs.Words.{word_of, instr_at, read}

-- the line of a place; a place without one has a line that says nothing
abbrev pub line_at : List Line → ℕ → Line
line_at lines place = slice_index_or lines place Bare

-- the line is that of a thread with this slot, these aborts and these loops
abbrev pub is_thread : ℕ → List ℕ → List ℕ → Line → Bool
is_thread slot stack loops (Thread s a l levels) = s == slot && same_numbers a stack && same_numbers l loops
is_thread slot stack loops other = false

-- the line is that of a routine of this height inside these loops
abbrev pub is_routine : ℕ → List ℕ → Line → Bool
is_routine height loops (Routine h l value) = h == height && same_numbers l loops
is_routine height loops other = false

abbrev pub is_cond : Line → Bool
is_cond (Cond value) = true
is_cond other = false

-- the loops that a line is inside, from the outermost
abbrev pub loops_of : Line → List ℕ
loops_of (Thread slot stack loops levels) = loops
loops_of (Routine height loops value) = loops
loops_of other = []

-- another line has the kind of a line, but for these loops
abbrev pub is_inside : Line → List ℕ → Line → Bool
is_inside Bare loops other = false
is_inside (Thread slot stack l levels) loops other = is_thread slot stack loops other
is_inside (Routine height l value) loops other = is_routine height loops other
is_inside (Cond value) loops other = is_cond other

-- two lines have one kind
abbrev pub same_kind : Line → Line → Bool
same_kind line other = is_inside line (loops_of line) other

-- the imm of an `imm` word
abbrev pub imm_in : Option Instr → Option ℤ
imm_in (Some (instr.Imm imm)) = Some imm
imm_in other = None

-- the upper half behind a line and its instruction
abbrev pub upper_behind : Line → Option Instr → Option ℤ
upper_behind Bare i = None
upper_behind line i = imm_in i

-- the upper half with which the word of a place is read: that of an `imm` word before it whose line says something
abbrev pub upper_at : Parts → List Line → ℕ → Option ℤ
upper_at image lines zero = None
upper_at image lines (suc before) = upper_behind (line_at lines before) (instr_at image before)

-- what the word of a place comes to
abbrev pub word_at : Parts → List Line → ℕ → Option Word
word_at image lines place = read image place (upper_at image lines place)

-- the places of a code
abbrev pub places_of : Parts → List ℕ
places_of image = range_with_len 0 (length image.code)

-- the place where a slot starts
abbrev pub start_of : Parts → ℕ → ℕ
start_of image slot = slice_index_or image.slots slot 0

abbrev pub no_abort : AbortLine
no_abort = record { weak = false; cond = 0; handler = 0 }

-- a line of the table of aborts
abbrev pub abort_at : Parts → ℕ → AbortLine
abort_at image j = slice_index_or image.aborts j no_abort

-- the points that are listed for a place
abbrev pub points_at : List Point → ℕ → List Point
points_at points place = filter (λ p. p.at == place) points

abbrev pub place_in : Option ℕ → List ℕ
place_in None = []
place_in (Some place) = place ∷ []

-- the condition and the handler of an abort, if it stands in the table
abbrev pub places_of_abort : Option AbortLine → List ℕ
places_of_abort None = []
places_of_abort (Some line) = line.cond ∷ line.handler ∷ []

-- the places whose kind the aborts of a line ask
abbrev pub asked_by_aborts : Parts → Line → List ℕ
asked_by_aborts image (Thread slot stack loops levels) = flat_map (λ j. places_of_abort (slice_get image.aborts j)) stack
asked_by_aborts image other = []

-- the places whose kind the word of a line asks, but for the place after it
abbrev pub asked_by_word : Parts → Line → Option Word → List ℕ
asked_by_word image line (Some (Jump to)) = place_in to
asked_by_word image line (Some (Branch to)) = place_in to
asked_by_word image line (Some (Fork lo count)) = flat_map (λ child. place_in (slice_get image.slots child)) (range_with_len lo count)
asked_by_word image line (Some (Call to)) = to ∷ []
asked_by_word image line (Some (Next to)) = if length (loops_of line) == 0 then [] else to ∷ []
asked_by_word image line other = []

-- what the instruction of a place comes to, whether or not it may follow the word before it
abbrev pub word_in : Parts → List Line → ℕ → Option Word
word_in image lines place = option_map (word_of image place (upper_at image lines place)) (instr_at image place)

-- the places whose kind a place asks, but for the place after it
abbrev pub asked_from_line : Parts → List Line → ℕ → Line → List ℕ
asked_from_line image lines place Bare = []
asked_from_line image lines place line = asked_by_aborts image line ++ asked_by_word image line (word_in image lines place)

abbrev pub asked_from : Parts → List Line → ℕ → List ℕ
asked_from image lines place = asked_from_line image lines place (line_at lines place)

-- the places whose kind is asked, but by the places before them: slot 0's start, listed points, and what places ask
abbrev pub asked : Parts → List Line → List ℕ
asked image lines = start_of image 0 ∷ map (λ (p : Point). p.at) image.pauses ++ map (λ (p : Point). p.at) image.forks ++ flat_map (asked_from image lines) (places_of image)

abbrev pub is_asked : Parts → List Line → ℕ → Bool
is_asked image lines place = list_any (λ goal. goal == place) (asked image lines)
