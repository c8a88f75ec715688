-- What the analyser's certificate is worth: docs/bounds.md, "What a yes means".
use Rattle.std.specs.Prelude.{ℕ, List}
use Rattle.pt_image.specs.declared.Parts.{Parts}
use Rattle.tk_cert.specs.declared.cert.CertParts.{CertParts}
use Rattle.tk_cert.specs.Demands.{AllHold}
use Rattle.tk_paths.specs.Acceptance.{asks}
use Rattle.tk_paths.specs.Bounded.{BoundsFreeTicks, BoundsRuns}
use Rattle.tk_paths.specs.Walks.{IsWorst, IsCostOf}

-- A certificate is accepted, its walk costs just the bound, and the bound is the worst of the image: no free tick and no tick of a run
-- passes it.
pub record Certifies (image : Parts) (costs : List ℕ) (cert : CertParts) : Type 0 where
  pub accepted : AllHold (asks image cert costs)
  pub worst : IsWorst image costs cert.bound
  pub free_ticks : BoundsFreeTicks image costs cert.bound
  pub runs : BoundsRuns image costs cert.bound
  pub reached : IsCostOf image costs cert.walk cert.bound
