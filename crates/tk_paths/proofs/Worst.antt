-- A bound that its walk reaches is the worst.
use Rattle.std.proofs.Common.{ℕ, Bool, List, subst}
use Rattle.mb_isa.specs.Tick.{Outcome}
use Rattle.pt_image.specs.declared.Parts.{Parts}
use Rattle.tk_cert.specs.declared.cert.CertParts.{CertParts}
use Rattle.tk_paths.specs.Bounded.{IsFreelyWithin, IsAcceptedFor}
use Rattle.tk_paths.specs.Walks.{most_cycles, IsCostOf, IsWorst}
use Rattle.tk_paths.proofs.Bounds.{accepts-of, bounds-free}

pub reached-worst : (image : Parts) (cert : CertParts) (costs : List ℕ) → IsAcceptedFor image cert costs → IsCostOf image costs cert.walk cert.bound → IsWorst image costs cert.bound
reached-worst image cert costs h reached = record {
  walk = cert.walk;
  attained = reached;
  greatest = λ other cost k.
      let W : Outcome (List Bool) → Type 0 = IsFreelyWithin cert.bound in
      subst W k.ends (bounds-free image cert costs (accepts-of image cert costs h) h.priced most_cycles k.begins other.choices reached.within k.configuration);
}
