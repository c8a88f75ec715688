-- Where the words of an image stand: words, jumps, pauses, forks and aborts.
use Rattle.std.specs.Prelude.{◌≡◌, ℕ, ℤ, ◌+◌, ◌*◌, ◌<◌, length, Bool, false, Option, Some, None, slice_get, slice_index_or}
use Rattle.mb_isa.specs.declared.Instr.{Instr}
use Rattle.mb_isa.specs.declared.Instr.TheVariants.{Imm, Bri, Fork, Loop}
use Rattle.mb_isa.specs.Candidates.{decoded}
use Rattle.mb_isa.specs.Operands.{immediate, turns_of, branch_byte}
use Rattle.mb_pfu.specs.declared.parts.Watch.{Watch}
use Rattle.pt_image.specs.declared.AbortLine.{AbortLine}
use Rattle.pt_image.specs.declared.Point.{Point}
use Rattle.pt_image.specs.declared.Parts.{Parts}

abbrev pub place_in : Option Point → ℕ
place_in None = 0
place_in (Some p) = p.at

abbrev pub line_in : Option AbortLine → AbortLine
line_in None = record { weak = false; cond = 0; handler = 0 }
line_in (Some line) = line

abbrev pub word_in : Option ℕ → Option Instr
word_in None = None
word_in (Some code) = decoded code

-- the first slot that a `fork` starts
abbrev pub first_in : Option Instr → ℕ
first_in (Some (Fork lo count)) = lo
first_in other = 0

module _ (image : Parts) where
  -- the place of the pause of a number
  abbrev pub pause_place : ℕ → ℕ
  pause_place i = place_in (slice_get image.pauses i)

  -- the place of the fork of a number, and the first slot that it starts
  abbrev pub fork_place : ℕ → ℕ
  fork_place i = place_in (slice_get image.forks i)

  abbrev pub first_child : ℕ → ℕ
  first_child i = first_in (word_in (slice_get image.code (fork_place i)))

  -- the abort line of a number
  abbrev pub line : ℕ → AbortLine
  line j = line_in (slice_get image.aborts j)

  -- the place where slot c starts
  abbrev pub slot_start : ℕ → ℕ
  slot_start c = slice_index_or image.slots c 0

  -- an abort's entry whose condition isn't due
  abbrev pub watch : ℕ → (aged fired : Bool) → Watch
  watch j aged fired = record {
    entry = record {
      number = j;
      weak = (line j).weak;
      cond = (line j).cond;
      handler = (line j).handler;
      aged = aged;
      fired = fired;
    };
    due = false;
  }

-- the machine decodes this word at a place
pub record Has (image : Parts) (place : ℕ) (word : Instr) : Type 0 where
  pub code : ℕ
  pub stands : slice_get image.code place ≡ Some code
  pub decodes : decoded code ≡ Some word

-- a branch at a place, with its upper half, leads to a place of the code
abbrev pub LeadsTo : Parts → ℕ → Option ℤ → ℤ → ℕ → Type 0
LeadsTo image place upper lower to = (branch_byte place (immediate upper lower) ≡ 4 * to) × (to < length image.code)

-- a jump from a place to another, of two words or of one, and the place behind it
pub data HasJump (image : Parts) (at next to : ℕ) : Type 0 where
  wide : (upper lower : ℤ) → Has image at (Imm upper) → Has image (at + 1) (Bri lower) →
      LeadsTo image (at + 1) (Some upper) lower to → at + 2 ≡ next → HasJump image at next to
  short : (lower : ℤ) → Has image at (Bri lower) → LeadsTo image at None lower to → at + 1 ≡ next → HasJump image at next to

-- the opening of a loop of so many turns, of two words or of one, and the place behind it
pub data HasLoop (image : Parts) (most at next : ℕ) : Type 0 where
  wide_loop : (upper : ℤ) (n : ℕ) → Has image at (Imm upper) → Has image (at + 1) (Loop n) →
      turns_of (Some upper) n ≡ most → at + 2 ≡ next → HasLoop image most at next
  short_loop : Has image at (Loop most) → at + 1 ≡ next → HasLoop image most at next
