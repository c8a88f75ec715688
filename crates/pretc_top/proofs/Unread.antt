-- A text that was loaded and isn't a program that is taken.
use Rattle.std.proofs.Common.{◌≡◌, ℕ, List, Err, sym, subst}
use Rattle.pt_outside.specs.Files.{Holds}
use Rattle.pt_outside.specs.Told.{ShelfTold}
use Rattle.pt_base.specs.declared.Refusal.{Refusal}
use Rattle.pt_base.specs.declared.Refusal.TheVariants.{Broken, Memory}
use Rattle.pc_rules.specs.Sources.{Breaks, IsRead}
use Rattle.pc_rules.specs.Verdicts.{BreaksFirst, IsJudgedText}
use Rattle.pretc_run.specs.declared.endings.Ending.{Ending}
use Rattle.pretc_top.specs.Refusing.{ending_of}
use Rattle.pretc_top.specs.Loading.{source_most, IsAsBefore, ProgramFails, program_refused, program_memory}

unread_by : (name : List ℕ) (old new : ShelfTold) (text : List ℕ) (f : Refusal) → Holds old.files name source_most text → IsRead text (Err f) → IsAsBefore old new →
    ProgramFails Breaks name old new (ending_of f)
unread_by name old new text (Broken rule span) h r k = program_refused text rule span h r k
unread_by name old new text Memory h r k = program_memory k

-- its size, its tokens or its grammar break a rule
pub unread : (name : List ℕ) (old new : ShelfTold) (text : List ℕ) (f : Refusal) (e : Ending) → Holds old.files name source_most text → IsRead text (Err f) → IsAsBefore old new →
    e ≡ ending_of f → ProgramFails Breaks name old new e
unread name old new text f e h r k is = let P : Ending → Type 0 = λ x. ProgramFails Breaks name old new x in subst P (sym is) (unread_by name old new text f h r k)

unaccepted_by : (name : List ℕ) (old new : ShelfTold) (text : List ℕ) (f : Refusal) → Holds old.files name source_most text → IsJudgedText text (Err f) → IsAsBefore old new →
    ProgramFails BreaksFirst name old new (ending_of f)
unaccepted_by name old new text (Broken rule span) h r k = program_refused text rule span h r k
unaccepted_by name old new text Memory h r k = program_memory k

-- it breaks a rule
pub unaccepted : (name : List ℕ) (old new : ShelfTold) (text : List ℕ) (f : Refusal) (e : Ending) → Holds old.files name source_most text → IsJudgedText text (Err f) → IsAsBefore old new →
    e ≡ ending_of f → ProgramFails BreaksFirst name old new e
unaccepted name old new text f e h r k is = let P : Ending → Type 0 = λ x. ProgramFails BreaksFirst name old new x in subst P (sym is) (unaccepted_by name old new text f h r k)
