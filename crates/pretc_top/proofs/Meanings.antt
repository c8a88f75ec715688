-- The report of a program's meaning is what `mean` comes to.
use Rattle.std.proofs.Common.{ℕ, List, [], ◌∷◌, ◌++◌, Some, refl}
use Rattle.pc_grammar.specs.Typing.{Typing}
use Rattle.pc_grammar.specs.Trees as grammar
use Rattle.pc_meaning.specs.Programs.{program_of}
use Rattle.pretc_run.specs.declared.endings.Ending.TheVariants.{WantOfMemory}
use Rattle.pretc_run.specs.Endings.{line_of}
use Rattle.pretc_run.specs.Meant.{meant_lines, MeanComes, mean_ends, mean_breaks, MeanCallComes, never_began, began}
use Rattle.pretc_top.specs.declared.commands.Command.TheVariants.{Mean}
use Rattle.pretc_top.specs.Outside.{Outside}
use Rattle.pretc_top.specs.Loading.{IsAsBefore, IsTaken, program_memory}
use Rattle.pretc_top.specs.Mean.{IsMeant}
use Rattle.pretc_top.specs.Comes as comes

reports : (program : List ℕ) (old new : Outside) (m : IsMeant program old new) (answer : ℕ) →
    MeanComes (program_of m.typing) old.source new.source old.sink new.sink answer → comes.Comes (Some (Mean program)) old new answer
reports program old new m answer (mean_ends rows last e ends h) =
    let due : List (List ℕ) = meant_lines (program_of m.typing) rows ++ last ∷ [] in
    comes.ran due e (comes.mean_ran program due e (record { meant = m; rows = rows; last = last; ends = ends; due_is = refl })) h
reports program old new m answer (mean_breaks is b) = comes.broke is (comes.mean_broke program (record { meant = m; breaks = b }))

pub mean_reports : (program : List ℕ) (old new : Outside) (tree : grammar.Program) (typing : Typing) (answer : ℕ) → IsTaken program old.shelf.files tree typing →
    IsAsBefore old.shelf new.shelf → MeanCallComes (program_of typing) old.source new.source old.sink new.sink answer → comes.Comes (Some (Mean program)) old new answer
mean_reports program old new tree typing answer t k (never_began s h) =
    comes.ends (line_of WantOfMemory ∷ []) WantOfMemory (comes.mean_ends program WantOfMemory (program_memory k)) s h
mean_reports program old new tree typing answer t k (began h) =
    reports program old new (record { tree = tree; typing = typing; taken = t; kept = k }) answer h
