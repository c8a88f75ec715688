-- What the function answers that reads all items.
use Rattle.std.specs.Prelude.{ℕ, List}
use Rattle.pc_grammar.specs.declared.tokens.Token.{Token}
use Rattle.pc_parse.specs.Reading.{Fails, AtEnd}
use Rattle.pc_grammar.specs.Programs.{IsProgram}

abbrev pub ProgramFails : List ℕ → List Token → ℕ → Type 0
ProgramFails source = Fails (IsProgram source) AtEnd
