-- What a program compiles to: docs/language.md, "What a compiled program does".
use Rattle.std.specs.Prelude.{◌≡◌, length}
use Rattle.pt_image.specs.declared.image.Parts.{Parts}
use Rattle.pt_image.specs.Ranges.{IsImage, places_of}
use Rattle.pt_image.specs.Form.{AreWords}
use Rattle.pc_grammar.specs.Typing.{Typing}
use Rattle.pc_meaning.specs.Programs.{spans_of, eots_step, pars_step, aborts_step, program_of}
use Rattle.pc_lower.specs.Numbering.{slots_of}
use Rattle.pc_emit.specs.Eots.{eots_from}
use Rattle.pc_lower.specs.Meant.{DoesWhatIsMeant}
use Rattle.pc_lower.specs.Placing.{typed_flow}

-- The image is within its ranges, so that its text is read back as this image; its inputs and outputs are the program's. It has a slot
-- for each thread, and as many pauses, forks and abort lines as the text has `EOT`s, `PAR`s and aborts; a pause is listed at every
-- `eot` of its code and nowhere else. And it does what the program means.
pub record Compiles (t : Typing) (image : Parts) : Type 0 where
  pub ranges : IsImage image
  pub words : AreWords image
  pub inputs : image.inputs ≡ (program_of t).inputs
  pub outputs : image.outputs ≡ (program_of t).outputs
  pub slots : length image.slots ≡ length (slots_of (typed_flow t))
  pub pauses : length image.pauses ≡ length (spans_of eots_step t.functions)
  pub places : places_of image.pauses ≡ eots_from 0 image.code
  pub forks : length image.forks ≡ length (spans_of pars_step t.functions)
  pub aborts : length image.aborts ≡ length (spans_of aborts_step t.functions)
  pub faithful : DoesWhatIsMeant (program_of t) image
