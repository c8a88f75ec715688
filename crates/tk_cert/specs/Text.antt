-- The one text of a certificate: docs/files.md, "The certificate file".
use Rattle.std.specs.Prelude.{ℕ, Bool, true, false, List, [], ◌∷◌, ◌++◌, length, codes, Option, Some, None}
use Rattle.std.specs.Fmt.{decimal}
use Rattle.pt_base.specs.Spelling.{each, joined, number_text, list_text, numbers_text, count_text, lines_text}
use Rattle.tk_cert.specs.declared.cert.State.{State}
use Rattle.tk_cert.specs.declared.cert.State.TheVariants.{Free, Start, Paused, Waiting, Ended}
use Rattle.tk_cert.specs.declared.cert.Walk.{Walk}
use Rattle.tk_cert.specs.declared.cert.Line.{Line}
use Rattle.tk_cert.specs.declared.cert.Line.TheVariants.{Bare, Thread, Routine, Cond}
use Rattle.tk_cert.specs.declared.cert.CertParts.{CertParts}

-- a number, or `-` for none
abbrev pub optional_text : Option ℕ → List ℕ
optional_text None = 45 ∷ []
optional_text (Some n) = decimal n

-- the two numbers of a level, each behind a blank
abbrev pub level_text : Option ℕ × Option ℕ → List ℕ
level_text l = 32 ∷ (optional_text l.0 ++ (32 ∷ optional_text l.1))

-- the slot, the abort stack, the loops, and the numbers of each level
abbrev pub thread_text : ℕ → List ℕ → List ℕ → List (Option ℕ × Option ℕ) → List ℕ
thread_text slot stack loops levels = 32 ∷ (number_text 32 slot ++ (numbers_text 32 stack ++ (list_text loops ++ (each level_text levels ++ 10 ∷ []))))

-- the height, the loops, and the number
abbrev pub routine_text : ℕ → List ℕ → ℕ → List ℕ
routine_text height loops value = 32 ∷ (number_text 32 height ++ (numbers_text 32 loops ++ number_text 10 value))

abbrev pub cond_text : ℕ → List ℕ
cond_text value = 32 ∷ number_text 10 value

-- `-`, or a letter and what the line says
abbrev pub line_text : Line → List ℕ
line_text Bare = 45 ∷ 10 ∷ []
line_text (Thread slot stack loops levels) = 84 ∷ thread_text slot stack loops levels
line_text (Routine height loops value) = 82 ∷ routine_text height loops value
line_text (Cond value) = 67 ∷ cond_text value

-- the place of a loop word, and its weight
abbrev pub weight_text : ℕ × ℕ → List ℕ
weight_text w = number_text 32 w.0 ++ number_text 10 w.1

-- the two numbers of a slot
abbrev pub slot_text : Option ℕ × Option ℕ → List ℕ
slot_text b = optional_text b.0 ++ (32 ∷ (optional_text b.1 ++ 10 ∷ []))

-- `f`, `s`, `p` and a place, `w` and a place, or `e`
abbrev pub state_text : State → List ℕ
state_text Free = 102 ∷ 10 ∷ []
state_text Start = 115 ∷ 10 ∷ []
state_text (Paused at) = 112 ∷ 32 ∷ number_text 10 at
state_text (Waiting at) = 119 ∷ 32 ∷ number_text 10 at
state_text Ended = 101 ∷ 10 ∷ []

abbrev pub choice_text : Bool → List ℕ
choice_text false = 48 ∷ []
choice_text true = 49 ∷ []

-- how many choices there are, and one line of them
abbrev pub choices_text : List Bool → List ℕ
choices_text bs = count_text (codes "choices ") (length bs) ++ (each choice_text bs ++ 10 ∷ [])

abbrev pub walk_text : Walk → List ℕ
walk_text w = lines_text (codes "walk ") state_text w.states ++ choices_text w.choices

abbrev pub heading : List ℕ
heading = codes "PRETCERT 1" ++ 10 ∷ []

abbrev pub bound_text : CertParts → List ℕ
bound_text c = count_text (codes "bound ") c.bound

abbrev pub places_text : CertParts → List ℕ
places_text c = lines_text (codes "at ") line_text c.lines

abbrev pub loops_text : CertParts → List ℕ
loops_text c = lines_text (codes "loops ") weight_text c.weights

abbrev pub slots_text : CertParts → List ℕ
slots_text c = lines_text (codes "slots ") slot_text c.slot_bounds

-- the groups of lines, in their order; the first is the heading
unfoldable pub groups : CertParts → List (List ℕ)
groups c = heading ∷ bound_text c ∷ places_text c ∷ loops_text c ∷ slots_text c ∷ walk_text c.walk ∷ []

unfoldable pub text_of : CertParts → List ℕ
text_of c = joined (groups c)
