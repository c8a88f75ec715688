-- The text of a program of so many threads beside a last one that shows their sum: docs/commands.md, "gen".
use Rattle.std.specs.Prelude.{ℕ, zero, suc, List, [], ◌∷◌, ◌++◌, codes}
use Rattle.std.specs.Fmt.{decimal}

-- a line, ended by a line feed
abbrev pub line : List ℕ → List ℕ
line bytes = bytes ++ 10 ∷ []

-- a text for each number from 1 on, up to this one
abbrev pub counted : (ℕ → List ℕ) → ℕ → List ℕ
counted text zero = []
counted text (suc n) = counted text n ++ text (suc n)

abbrev pub head : ℕ → List ℕ
head k = (codes "void t" ++ decimal k) ++ line (codes "() {")

abbrev pub tests : ℕ → List ℕ
tests k = (codes "  while (1) { i = 0; while (i < " ++ decimal k) ++ codes ") #"

abbrev pub loops : ℕ → List ℕ
loops k = (tests k ++ decimal k) ++ line (codes " { i = i + 1; s = s + a; } EOT; }")

-- thread number k makes k turns in each tick, and adds the input in each turn
abbrev pub thread : ℕ → List ℕ
thread k = ((head k ++ line (codes "  int i = 0;")) ++ loops k) ++ line (codes "}")

abbrev pub name : ℕ → List ℕ
name k = (codes "t" ++ decimal k) ++ codes ", "

abbrev pub declarations : List ℕ
declarations = line (codes "ReactiveInput int a = 0;") ++ line (codes "ReactiveOutput int o = 0;") ++ line (codes "int s = 0;")

-- the last thread shows the sum
abbrev pub shown : List ℕ
shown = line (codes "void out() {") ++ line (codes "  while (1) { o = s; EOT; }") ++ line (codes "}")

abbrev pub beside : ℕ → List ℕ
beside n = (codes "  while (1) { weak abort PAR(" ++ counted name n) ++ line (codes "out); when pre (a == 9); s = 0; }")

-- all threads run beside one another, and begin anew after an input of 9
abbrev pub main : ℕ → List ℕ
main n = (line (codes "void main() {") ++ beside n) ++ line (codes "}")

abbrev pub generated : ℕ → List ℕ
generated n = ((declarations ++ counted thread n) ++ shown) ++ main n
