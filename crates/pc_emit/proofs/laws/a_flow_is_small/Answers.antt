use Rattle.std.proofs.Common.{◌<◌, ◌≤◌, ℕ, List, [], ◌∷◌, All, refl, arith}
use Rattle.std.specs.List.{AllByRecursion}
use Rattle.std.proofs.lemmas.List.{length-map}
use Rattle.std.proofs.lemmas.List.Elements.{All-cons, All-nil}
use Rattle.mb_isa.specs.Costs.{IsCosts, unit}
use Rattle.pc_lower.specs.Numbering.{slots_of}
use Rattle.pc_emit.specs.Image.{image_of}
use Rattle.pc_emit.proofs.Whole.{image_holds}
use Rattle.pc_emit.proofs.Eots.{lists_all}
use Rattle.pc_emit.proofs.Numbered.{slots}
use Rattle.pc_emit.proofs.Small.{are-small}
use Rattle.pc_emit.proofs.laws.a_flow_is_small.Goals as goal

all_of : (P : ℕ → Type 0) (xs : List ℕ) → AllByRecursion P xs → All P xs
all_of P [] h = All-nil P
all_of P (x ∷ xs) h = All-cons P x xs h.0 (all_of P xs h.1)

-- the words stand in the image at whatever cost
priced : IsCosts unit
priced =
    let one : (1 ≤ 1) × (1 < 256) = (omega arith, omega arith) in
    record { count = refl; range = all_of (λ n. (1 ≤ n) × (n < 256)) unit (one, (one, (one, (one, (one, (one, (one, (one, (one, (one, (one, (one, (one, (one, (one, (one, (one, (one, (one, (one, (one, (one, tt)))))))))))))))))))))) }

pub returns : goal.returns
returns c = λ f writing placing further sizes can counted small ok.
    let has = slots f can.laid.order can.laid.main in
    are-small f writing sizes placing (image_of writing f further) unit can.laid counted small
    (image_holds f writing placing further can has sizes counted unit priced) (lists_all f writing placing further can has) (length-map (slots_of f) _) ok
