-- What a call of `pretc mean` comes to once its program is taken: docs/commands.md, "mean".
use Rattle.std.specs.Prelude.{◌≡◌, ℕ, ℤ, List, [], ◌∷◌, ◌++◌}
use Rattle.pc_grammar.specs.Trees as grammar
use Rattle.pc_grammar.specs.Typing.{Typing}
use Rattle.pc_meaning.specs.Programs.{program_of}
use Rattle.pretc_run.specs.declared.endings.Ending.{Ending}
use Rattle.pretc_run.specs.Meant.{meant_lines, MeanEnds, MeanBreaks}
use Rattle.pretc_top.specs.Outside.{Outside}
use Rattle.pretc_top.specs.Loading.{IsAsBefore, IsTaken}

-- the program was loaded and keeps every rule, and the shelf is as before
pub record IsMeant (program : List ℕ) (old new : Outside) : Type 0 where
  pub tree : grammar.Program
  pub typing : Typing
  pub taken : IsTaken program old.shelf.files tree typing
  pub kept : IsAsBefore old.shelf new.shelf

-- the meaning of the program ran on the trace to its end, with these lines
pub record MeanRan (program : List ℕ) (old new : Outside) (due : List (List ℕ)) (e : Ending) : Type 0 where
  pub meant : IsMeant program old new
  pub rows : List (List ℤ)
  pub last : List ℕ
  pub ends : MeanEnds (program_of meant.typing) rows old.source new.source last e
  pub due_is : due ≡ meant_lines (program_of meant.typing) rows ++ last ∷ []

-- the report of the meaning broke off
pub record MeanBroke (program : List ℕ) (old new : Outside) : Type 0 where
  pub meant : IsMeant program old new
  pub breaks : MeanBreaks (program_of meant.typing) old.source new.source old.sink new.sink
