-- What each function answers that reads the word that a cell starts with.
use Rattle.std.specs.Prelude.{ℕ, ℤ, List}
use Rattle.pc_grammar.specs.declared.tokens.Token.{Token}
use Rattle.pc_parse.specs.Reading.{Takes, Fails, Always}
use Rattle.pc_grammar.specs.Constants.{SpellsEnded, SpellsStart}

abbrev pub EndedTakes : List Token → ℕ → List Token → Type 0
EndedTakes = Takes SpellsEnded Always

abbrev pub EndedFails : List Token → ℕ → Type 0
EndedFails = Fails SpellsEnded Always

abbrev pub StartTakes : List Token → ℤ → List Token → Type 0
StartTakes = Takes SpellsStart Always

abbrev pub StartFails : List Token → ℕ → Type 0
StartFails = Fails SpellsStart Always
