-- What a canonical text is made of, and how each part looks: docs/language.md, "Canonical text".
use Rattle.std.specs.Prelude.{ℕ, zero, suc, List, [], ◌∷◌, ◌++◌}
use Rattle.std.specs.Fmt.{decimal}
use Rattle.pc_grammar.specs.declared.tokens.Sort.{Sort}
use Rattle.pc_grammar.specs.Spelling.{spelling_of}
use Rattle.pc_grammar.specs.declared.expressions.Word.{Word}

-- a keyword or a sign; a name; a number; a blank; the blanks before a line of a level; a line's end
pub data Part : Type 0 where
  mark : Sort → Part
  word : Word → Part
  literal : ℕ → Part
  blank : Part
  margin : ℕ → Part
  line_end : Part

-- two blanks a level
abbrev pub blanks : ℕ → List ℕ
blanks zero = []
blanks (suc level) = 32 ∷ 32 ∷ blanks level

-- the bytes of a part
abbrev pub look : Part → List ℕ
look (mark s) = spelling_of s
look (word w) = w.text
look (literal n) = decimal n
look blank = 32 ∷ []
look (margin level) = blanks level
look line_end = 10 ∷ []

-- the bytes of parts, one after another
abbrev pub text : List Part → List ℕ
text [] = []
text (p ∷ parts) = look p ++ text parts
