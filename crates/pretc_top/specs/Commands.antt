-- The words of the command line: docs/commands.md.
use Rattle.std.specs.Prelude.{◌+◌, ◌*◌, ◌-◌, nat_le, ◌&&◌, not, if◌then◌else◌, ℕ, Bool, List, [], ◌∷◌, codes, Option, Some, None}
use Rattle.std.specs.Option.{option_map}
use Rattle.std.specs.Str.{bytes_eq}
use Rattle.pretc_top.specs.declared.commands.Command.{Command}
use Rattle.pretc_top.specs.declared.commands.Command.TheVariants.{Go, Run, Check, Print, Rules, Mean, Gen, Job, Exec}

-- a decimal from 1 to 62 without a leading zero
abbrev pub of_digit : ℕ → Option ℕ
of_digit d = if nat_le 49 d && nat_le d 57 then Some (d - 48) else None

abbrev pub of_digits : ℕ → ℕ → Option ℕ
of_digits d e =
    if (nat_le 49 d && nat_le d 57) && (nat_le 48 e && nat_le e 57) && nat_le (10 * (d - 48) + (e - 48)) 62 then Some (10 * (d - 48) + (e - 48)) else None

abbrev pub threads_of : List ℕ → Option ℕ
threads_of (d ∷ []) = of_digit d
threads_of (d ∷ e ∷ []) = of_digits d e
threads_of word = None

abbrev pub generating : List ℕ → Option (Command (List ℕ))
generating word = option_map Gen (threads_of word)

abbrev pub doing_job : List ℕ → Option (Command (List ℕ))
doing_job word = option_map Job (threads_of word)

-- the command of two words
abbrev pub of_two : (verb word : List ℕ) → Option (Command (List ℕ))
of_two verb word =
    if bytes_eq verb (codes "print") then Some (Print word)
    else if bytes_eq verb (codes "rules") then Some (Rules word)
    else if bytes_eq verb (codes "mean") then Some (Mean word)
    else if bytes_eq verb (codes "gen") then generating word
    else if bytes_eq verb (codes "job") then doing_job word else None

-- no two of four words are equal
abbrev pub are_apart : (program costs image cert : List ℕ) → Bool
are_apart program costs image cert =
    (not (bytes_eq program costs) && not (bytes_eq program image) && not (bytes_eq program cert))
    && (not (bytes_eq costs image) && not (bytes_eq costs cert)) && not (bytes_eq image cert)

-- the command that words are, if they are one; `go` and `run` with two equal names are none
abbrev pub command_of : List (List ℕ) → Option (Command (List ℕ))
command_of (verb ∷ word ∷ []) = of_two verb word
command_of (verb ∷ program ∷ image ∷ []) = if bytes_eq verb (codes "go") && not (bytes_eq program image) then Some (Go program image) else None
command_of (verb ∷ image ∷ cert ∷ costs ∷ []) =
    if bytes_eq verb (codes "check") then Some (Check image cert costs)
    else if bytes_eq verb (codes "exec") then Some (Exec image cert costs) else None
command_of (verb ∷ program ∷ costs ∷ image ∷ cert ∷ []) =
    if bytes_eq verb (codes "run") && are_apart program costs image cert then Some (Run program costs image cert) else None
command_of words = None
