-- The line of a program that keeps all rules: docs/commands.md, "rules".
use Rattle.std.specs.Prelude.{ℕ, List, ◌++◌, codes}
use Rattle.std.specs.Fmt.{decimal}

-- its threads, the words of its cells, its weight and its longest passage
abbrev pub accepted_line : ℕ → ℕ → ℕ → ℕ → List ℕ
accepted_line threads words weight single =
    codes "accepted threads " ++ decimal threads ++ codes " words " ++ decimal words ++ codes " weight " ++ decimal weight
    ++ codes " single " ++ decimal single ++ codes "\n"
