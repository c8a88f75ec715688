-- What is known of a compiled program and its certificate: docs/promises.md, "The headline".
use Rattle.std.specs.Prelude.{ℕ, ℤ, ◌≤◌, List}
use Rattle.std.specs.List.{AllByRecursion}
use Rattle.mb_isa.specs.Costs.{IsCosts}
use Rattle.mb_isa.specs.Run.{run_of}
use Rattle.pt_image.specs.declared.image.Parts.{Parts}
use Rattle.pc_meaning.specs.Tree.{Program}
use Rattle.pc_meaning.specs.Programs.{program_of}
use Rattle.pc_meaning.specs.Runs.{before_ticks, moments_from}
use Rattle.pc_lower.specs.Runs.{IsRow}
use Rattle.pc_lower.specs.Meant.{EachMeans}
use Rattle.pc_grammar.specs.Typing.{Typing}
use Rattle.pc_compile.specs.Compiled.{Compiles}
use Rattle.tk_cert.specs.declared.CertParts.{CertParts}
use Rattle.tk_cert.specs.Form.{IsInForm}
use Rattle.tk_analyse.specs.Certified.{Certifies}

-- Under these costs, on every list of rows of words, with every limit of at least so many cycles, the image never traps, its outputs
-- are those of the program, and after each tick its slots stand where the program stands.
abbrev pub MeansWithin : Program → Parts → List ℕ → ℕ → Type 0
MeansWithin p image costs bound =
    (most : ℕ) → bound ≤ most → (rows : List (List ℤ)) → AllByRecursion IsRow rows → EachMeans p image (moments_from p (before_ticks p) rows) (run_of image costs most rows)

-- The program was compiled to this image, which does what it means within the bound; the certificate is within the ranges of its file,
-- accepted for the image under these costs, and its bound is the worst of all free ticks.
pub record IsCertified (t : Typing) (costs : List ℕ) (image : Parts) (cert : CertParts) : Type 0 where
  pub compiled : Compiles t image
  pub priced : IsCosts costs
  pub form : IsInForm cert
  pub certifies : Certifies image costs cert
  pub means : MeansWithin (program_of t) image costs cert.bound
