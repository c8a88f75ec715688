-- What a program is, whoever holds it: docs/language.md, "Items".
use Rattle.std.specs.Prelude.{◌≡◌, ℕ, List, length, refl}
use Rattle.std.specs.Coded.{Coded, code_by, coded×, coded_ℕ, coded_list}
use Rattle.pc_grammar.specs.declared.tokens.Token.{Token}
use Rattle.pc_grammar.specs.Lexing.{Lexes, whole}
use Rattle.pc_grammar.specs.declared.programs.Item.{Item}
use Rattle.pc_grammar.specs.contracts.programs.Item as item
use Rattle.pc_grammar.specs.Programs.{IsProgram}

-- the items of a source in order, and the number of its bytes
pub record Program : Type 0 where
  pub items : List Item
  pub length : ℕ

-- a program is stored as the pair of its fields
abbrev pub program_code : Coded Program
program_code = code_by (List Item × ℕ) (coded× (coded_list item.the_row.coded) coded_ℕ) (λ p. (p.items, p.length)) (λ p. record { items = p.0; length = p.1 }) (λ _. refl)

-- the tokens of some source spell the program, and its length is the source's
pub record IsTree (program : Program) : Type 0 where
  pub source : List ℕ
  pub tokens : List Token
  pub cut : Lexes 0 source tokens whole
  pub spelled : IsProgram source tokens program.items
  pub length_is : program.length ≡ length source
