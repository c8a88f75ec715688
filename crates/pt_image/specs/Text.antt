-- The one text of an image: docs/files.md, "The image file".
use Rattle.std.specs.Prelude.{ℕ, Bool, true, false, List, [], ◌∷◌, ◌++◌, codes}
use Rattle.pt_base.specs.Spelling.{joined, number_text, numbers_text, word_text, signed_text, lines_text}
use Rattle.pt_image.specs.declared.image.AbortLine.{AbortLine}
use Rattle.pt_image.specs.declared.image.Point.{Point}
use Rattle.pt_image.specs.declared.image.Parts.{Parts}

-- `w` or `s`
abbrev pub strength : Bool → ℕ
strength true = 119
strength false = 115

-- an abort line: its strength, the place of its condition, that of its handler
abbrev pub abort_text : AbortLine → List ℕ
abort_text a = strength a.weak ∷ 32 ∷ (number_text 32 a.cond ++ number_text 10 a.handler)

-- a listed pause or fork: its place, its slot, how many abort lines it is inside, and their numbers
abbrev pub point_text : Point → List ℕ
point_text x = number_text 32 x.at ++ (number_text 32 x.slot ++ numbers_text 10 x.stack)

abbrev pub heading : List ℕ
heading = codes "ARPRET 1" ++ 10 ∷ []

abbrev pub code_text : Parts → List ℕ
code_text p = lines_text (codes "code ") word_text p.code

abbrev pub memory_text : Parts → List ℕ
memory_text p = lines_text (codes "memory ") signed_text p.memory

abbrev pub inputs_text : Parts → List ℕ
inputs_text p = lines_text (codes "inputs ") (number_text 10) p.inputs

abbrev pub outputs_text : Parts → List ℕ
outputs_text p = lines_text (codes "outputs ") (number_text 10) p.outputs

abbrev pub slots_text : Parts → List ℕ
slots_text p = lines_text (codes "slots ") (number_text 10) p.slots

abbrev pub aborts_text : Parts → List ℕ
aborts_text p = lines_text (codes "aborts ") abort_text p.aborts

abbrev pub pauses_text : Parts → List ℕ
pauses_text p = lines_text (codes "pauses ") point_text p.pauses

abbrev pub forks_text : Parts → List ℕ
forks_text p = lines_text (codes "forks ") point_text p.forks

-- the groups of lines, in their order; the first is the heading
unfoldable pub groups : Parts → List (List ℕ)
groups p = heading ∷ code_text p ∷ memory_text p ∷ inputs_text p ∷ outputs_text p ∷ slots_text p ∷ aborts_text p ∷ pauses_text p ∷ forks_text p ∷ []

unfoldable pub text_of : Parts → List ℕ
text_of p = joined (groups p)
