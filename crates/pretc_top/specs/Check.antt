-- What `check` comes to: docs/commands.md, "check".
use Rattle.std.specs.Prelude.{◌≡◌, ◌≢◌, ◌↔◌, ℕ, Bool, IsTrue, List, [], ◌∷◌, codes, Option, Some, None, Ok, Err}
use Rattle.pt_base.specs.Forms.{IsFault}
use Rattle.pt_outside.specs.Files.{Files, Holds}
use Rattle.pt_outside.specs.Told.{ShelfTold}
use Rattle.pt_trace.specs.Verdict.{yes_line}
use Rattle.pt_image.specs.declared.Parts.{Parts}
use Rattle.pt_image.specs.Ranges.{IsImage}
use Rattle.pt_image.specs.Form.{AreWords, image_form}
use Rattle.pt_image.specs.Text as image_file
use Rattle.mb_isa.specs.Costs.{unit}
use Rattle.tk_cert.specs.declared.CertParts.{CertParts}
use Rattle.tk_cert.specs.Form.{IsInForm, cert_form}
use Rattle.tk_cert.specs.Text as cert_file
use Rattle.tk_cert.specs.Demands.{Demand, first_failing, AllHold}
use Rattle.tk_paths.specs.Acceptance.{asks}
use Rattle.tk_paths.specs.Bounded.{BoundsFreeTicks, BoundsRuns}
use Rattle.tk_paths.specs.Walks.{IsCostOf, IsWorst}
use Rattle.tk_cert.specs.declared.costs.CostFault.TheVariants.{Form, Missing, Range, Unknown}
use Rattle.tk_cert.specs.CostTables.{Reads}
use Rattle.mb_isa.specs.declared.costs.Class.{Class}
use Rattle.pretc_run.specs.declared.endings.Ending.{Ending}
use Rattle.pretc_run.specs.declared.endings.Ending.TheVariants.{Done, WantOfMemory, BadImage, BadCert, BadCosts, BadCost, NotAccepted}
use Rattle.pretc_run.specs.Endings.{line_of}
use Rattle.pretc_top.specs.Loading.{IsAsBefore, LoadFails}

-- one byte more than an image file may have, and than a certificate file may have
abbrev pub image_most : ℕ
image_most = 16777217

abbrev pub cert_most : ℕ
cert_most = 1099511627777

-- one byte more than a table of costs may have
abbrev pub costs_most : ℕ
costs_most = 65537

-- the costs that are no file: each class costs 1
abbrev pub unit_word : List ℕ
unit_word = codes "-"

-- the text is that of an image
pub record IsImageText (text : List ℕ) (image : Parts) : Type 0 where
  pub spelled : text ≡ image_file.text_of image
  pub ranges : IsImage image
  pub words : AreWords image

-- the text is that of a certificate
pub record IsCertText (text : List ℕ) (cert : CertParts) : Type 0 where
  pub spelled : text ≡ cert_file.text_of cert
  pub form : IsInForm cert

-- both texts are in form
pub record AreRead (image_text cert_text : List ℕ) (image : Parts) (cert : CertParts) : Type 0 where
  pub image_is : IsImageText image_text image
  pub cert_is : IsCertText cert_text cert

-- The certificate is accepted, so its bound bounds each free tick and each tick of each run.
pub record IsYes (image : Parts) (cert : CertParts) (costs : List ℕ) (reached : Bool) : Type 0 where
  pub accepted : AllHold (asks image cert costs)
  pub free_ticks : BoundsFreeTicks image costs cert.bound
  pub runs : BoundsRuns image costs cert.bound
  pub reached_is : IsTrue reached ↔ IsCostOf image costs cert.walk cert.bound
  pub worst : IsTrue reached → IsWorst image costs cert.bound

-- the ending that names a demand
abbrev pub refusal_of : Demand → Ending
refusal_of d = NotAccepted d.condition d.at d.level d.needed d.given

-- the image's text isn't read
pub data ImageFails (text : List ℕ) : Ending → Type 0 where
  bad_image : (number : ℕ) → IsFault image_form number text → ImageFails text (BadImage number)
  image_memory : ImageFails text WantOfMemory

-- the certificate's text isn't read
pub data CertFails (text : List ℕ) : Ending → Type 0 where
  bad_cert : (number : ℕ) → IsFault cert_form number text → CertFails text (BadCert number)
  cert_memory : CertFails text WantOfMemory

-- the costs: the units, or those of a table's text
pub data CostsRead : Option (List ℕ) → List ℕ → Type 0 where
  unit_costs : CostsRead None unit
  table_costs : (text costs : List ℕ) → Reads text (Ok costs) → CostsRead (Some text) costs

-- the table's text isn't read: it is no document, a class is missing, its value is out of range, or a key is that of no class
pub data CostsFail : Option (List ℕ) → Ending → Type 0 where
  no_document : (text : List ℕ) → Reads text (Err Form) → CostsFail (Some text) (BadCosts 1)
  missing_class : (text : List ℕ) (class : Class) → Reads text (Err (Missing class)) → CostsFail (Some text) (BadCost 2 class)
  wrong_cost : (text : List ℕ) (class : Class) → Reads text (Err (Range class)) → CostsFail (Some text) (BadCost 3 class)
  unknown_key : (text : List ℕ) → Reads text (Err Unknown) → CostsFail (Some text) (BadCosts 4)
  costs_memory : (text : Option (List ℕ)) → CostsFail text WantOfMemory

-- what the checker says, and the line that is due
pub data Decided (image : Parts) (cert : CertParts) (costs : List ℕ) : List ℕ → Ending → Type 0 where
  accepted : (reached : Bool) → IsYes image cert costs reached → Decided image cert costs (yes_line cert.bound reached) Done
  not_accepted : (d : Demand) → first_failing (asks image cert costs) ≡ Some d → Decided image cert costs (line_of (refusal_of d)) (refusal_of d)

-- one of the texts isn't read, by the order of the words
pub data Unread (image_text cert_text : List ℕ) (costs_text : Option (List ℕ)) : Ending → Type 0 where
  image_fails : (e : Ending) → ImageFails image_text e → Unread image_text cert_text costs_text e
  cert_fails : (e : Ending) (image : Parts) → IsImageText image_text image → CertFails cert_text e → Unread image_text cert_text costs_text e
  costs_fail : (e : Ending) (image : Parts) (cert : CertParts) → AreRead image_text cert_text image cert → CostsFail costs_text e →
      Unread image_text cert_text costs_text e

-- what the texts come to, and the line that is due: one isn't read, or what the checker says of all
pub data Judged (image_text cert_text : List ℕ) (costs_text : Option (List ℕ)) : List ℕ → Ending → Type 0 where
  not_read : (e : Ending) → Unread image_text cert_text costs_text e → Judged image_text cert_text costs_text (line_of e) e
  decided : (image : Parts) (cert : CertParts) (costs line : List ℕ) (e : Ending) → AreRead image_text cert_text image cert → CostsRead costs_text costs →
      Decided image cert costs line e → Judged image_text cert_text costs_text line e

-- the table of costs was loaded, but for the word that is none
pub data CostsHeld (files : Option Files) (costs : List ℕ) : Option (List ℕ) → Type 0 where
  no_table : costs ≡ unit_word → CostsHeld files costs None
  table_held : (text : List ℕ) → costs ≢ unit_word → Holds files costs costs_most text → CostsHeld files costs (Some text)

-- the word names a table, which wasn't loaded
pub record CostsNotLoaded (costs : List ℕ) (old new : ShelfTold) (e : Ending) : Type 0 where
  pub table : costs ≢ unit_word
  pub fails : LoadFails costs old new e

-- the files were loaded in this order
pub record AreLoaded (image cert costs : List ℕ) (old new : ShelfTold) (image_text cert_text : List ℕ) (costs_text : Option (List ℕ)) : Type 0 where
  pub image_held : Holds old.files image image_most image_text
  pub cert_held : Holds old.files cert cert_most cert_text
  pub costs_held : CostsHeld old.files costs costs_text
  pub kept : IsAsBefore old new

-- a file wasn't loaded
pub data LoadsFail (image cert costs : List ℕ) (old new : ShelfTold) : Ending → Type 0 where
  no_image : (e : Ending) → LoadFails image old new e → LoadsFail image cert costs old new e
  no_cert : (e : Ending) (image_text : List ℕ) → Holds old.files image image_most image_text → LoadFails cert old new e →
      LoadsFail image cert costs old new e
  no_costs : (e : Ending) (image_text cert_text : List ℕ) → Holds old.files image image_most image_text → Holds old.files cert cert_most cert_text →
      costs ≢ unit_word → LoadFails costs old new e → LoadsFail image cert costs old new e

-- how `check` ends, with the lines that are due: a file isn't loaded, or what the texts come to
pub data CheckEnds (image cert costs : List ℕ) (old new : ShelfTold) : List (List ℕ) → Ending → Type 0 where
  not_loaded : (e : Ending) → LoadsFail image cert costs old new e → CheckEnds image cert costs old new (line_of e ∷ []) e
  judged : (image_text cert_text : List ℕ) (costs_text : Option (List ℕ)) (line : List ℕ) (e : Ending) →
      AreLoaded image cert costs old new image_text cert_text costs_text → Judged image_text cert_text costs_text line e →
      CheckEnds image cert costs old new (line ∷ []) e
