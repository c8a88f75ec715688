-- Whether a place is among others.
use Rattle.std.specs.Prelude.{ℕ, ◌==◌, Bool, List, ◌++◌}
use Rattle.std.specs.List.{list_any}
use Rattle.pt_image.specs.declared.Parts.{Parts}
use Rattle.tk_cert.specs.declared.cert.Line.{Line}
use Rattle.tk_paths.specs.Kinds.{asked_by_aborts, asked_by_word, word_in}

abbrev pub is_for : ℕ → ℕ → Bool
is_for place goal = goal == place

abbrev pub any_for : ℕ → List ℕ → Bool
any_for place goals = list_any (is_for place) goals

-- the places that a line that says something asks for
abbrev pub asked_by_line : Parts → List Line → ℕ → Line → List ℕ
asked_by_line image lines place line = asked_by_aborts image line ++ asked_by_word image line (word_in image lines place)
