-- The lines of a check: docs/commands.md, "check". Each ends with its line feed.
use Rattle.std.specs.Prelude.{ℕ, Bool, if◌then◌else◌, List, [], ◌++◌, Option, Some, None, codes}
use Rattle.std.specs.Fmt.{decimal}

abbrev pub reached_text : Bool → List ℕ
reached_text reached = if reached then codes " reached" else []

-- the bound of a certificate that is accepted, and whether its walk costs as much
abbrev pub yes_line : ℕ → Bool → List ℕ
yes_line bound reached = codes "yes bound " ++ decimal bound ++ reached_text reached ++ codes "\n"

-- a number, or `-` for none
abbrev pub number_text : Option ℕ → List ℕ
number_text None = codes "-"
number_text (Some n) = decimal n

-- the first demand that fails
abbrev pub no_line : ℕ → ℕ → ℕ → ℕ → Option ℕ → List ℕ
no_line condition at level needed given =
    codes "no A" ++ decimal condition ++ codes " at " ++ decimal at ++ codes " level " ++ decimal level
    ++ codes " needed " ++ decimal needed ++ codes " given " ++ number_text given ++ codes "\n"

-- the group of lines of an image file at fault, and that of a certificate file
abbrev pub image_line : ℕ → List ℕ
image_line number = codes "image I" ++ decimal number ++ codes "\n"

abbrev pub cert_line : ℕ → List ℕ
cert_line number = codes "cert K" ++ decimal number ++ codes "\n"
