-- The certificate of a program is accepted, and its numbers are the greatest.
use Rattle.std.proofs.Common.{◌≤◌, ℕ, List, length, refl, arith}
use Rattle.mb_isa.specs.declared.Class.{Class}
use Rattle.mb_isa.specs.Costs.{cost_of, IsCosts}
use Rattle.pt_image.specs.declared.Point.{Point}
use Rattle.pt_image.specs.declared.Parts.{Parts}
use Rattle.pt_image.specs.Ranges.{IsPoint, IsImage}
use Rattle.tk_cert.specs.declared.cert.Walk.{Walk}
use Rattle.tk_paths.specs.Bounded.{IsAcceptedFor}
use Rattle.tk_paths.proofs.Lists.{all-among}
use Rattle.tk_paths.specs.Greatest.{IsGreatest}
use Rattle.tk_paths.specs.Programs.{Program, IsPauseIn, IsForkIn, IsProgram, certificate}
use Rattle.tk_paths.proofs.Sections.{F, sections-size, weights-rise, code-of, start-kind, start-plain, covered, thread-good}
use Rattle.tk_paths.proofs.SlotLaws.{slot-greatest, bounds-size}
use Rattle.tk_paths.proofs.Accepting.{IsSound, greatest, accepted}

module _ (image : Parts) (program : Program) (costs : List ℕ) (walk : Walk) (ok : IsProgram image program) (image_is : IsImage image) (positive : (c : Class) → 1 ≤ cost_of costs c) where
  pub sound : IsSound image (certificate image costs program walk) costs (F image program costs walk)
  sound =
      let some = image_is.slots.0 in
      let first = code-of image program costs walk ok positive 0 (omega (arith, some)) in
      record {
        covered = covered image program costs walk ok positive;
        size = (let e = sections-size image program costs walk program.sections 0 ok.laid in omega (arith, e));
        slots_size = bounds-size image program costs walk (length image.slots) 0;
        start = start-kind image program costs walk ok positive 0 first.0 first.1;
        start_plain = start-plain image program costs walk ok positive 0 first.0 first.1;
        weights = weights-rise image program costs walk ok positive;
        pause = λ p h.
            let k = all-among (λ (q : Point). IsPauseIn image program q.at) image.pauses p ok.pauses h in
            (k.0, thread-good image program costs walk ok positive p.at k.1);
        fork = λ p h.
            let k = all-among (λ (q : Point). IsForkIn image program q.at) image.forks p ok.forks h in
            (k.0, k.1, k.2, thread-good image program costs walk ok positive p.at k.3);
        apart = ok.apart;
        slot = λ above. slot-greatest image program costs walk (λ p k. (all-among (IsPoint image) image.pauses p image_is.pauses.1 k).1) (λ p k. (all-among (IsPoint image) image.forks p image_is.forks.1 k).1) above;
        bound = refl;
      }

  pub program-greatest : IsGreatest image (certificate image costs program walk) costs
  program-greatest = greatest image (certificate image costs program walk) costs (F image program costs walk) image_is sound

  pub program-accepted : IsCosts costs → IsAcceptedFor image (certificate image costs program walk) costs
  program-accepted priced = accepted image (certificate image costs program walk) costs (F image program costs walk) image_is sound priced
