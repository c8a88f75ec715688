-- Routes: what a slot does from a place with exactly these entries, to a pause or its end, at exactly this cost and by exactly
-- these choices, its children's and those that it makes behind them included.
use Rattle.std.specs.Prelude.{◌≡◌, ℕ, suc, ◌+◌, ◌≤◌, ◌++◌, Bool, List, [], length, Some, None}
use Rattle.mb_isa.specs.declared.Instr.TheVariants as instr
use Rattle.mb_isa.specs.declared.Class.TheVariants as class
use Rattle.mb_isa.specs.Costs.{cost_of}
use Rattle.mb_pfu.specs.declared.parts.Watch.{Watch}
use Rattle.mb_pfu.specs.Rows.{relief, with_last}
use Rattle.pt_image.specs.declared.Parts.{Parts}
use Rattle.tk_cert.specs.declared.cert.CertParts.{CertParts}
use Rattle.tk_paths.specs.declared.view.Side.{Side}
use Rattle.tk_paths.specs.declared.view.Side.TheVariants.{ToPause, ToEnd}
use Rattle.tk_paths.specs.Words.{instr_at}
use Rattle.tk_paths.specs.Kinds.{line_at, start_of}
use Rattle.tk_paths.proofs.SlotFacts.{without_last}
use Rattle.tk_paths.proofs.Conditions.{IsAt}
use Rattle.tk_paths.proofs.Carried.{kind_of, image_of, cert_of}
use Rattle.mb_pfu.specs.Unit.{State}
use Rattle.mb_isa.specs.Control.{Turn}
use Rattle.mb_isa.specs.Control as control
use Rattle.tk_paths.specs.Passages.{IsUnnested, Leads}
use Rattle.tk_paths.specs.Reached.{both_sides}
use Rattle.tk_paths.proofs.Flags.{new_entry}

-- a slot's turn goes from one place to another at this cost by these choices, whatever is round the slot, and leaves the unit as it is
pub record Crosses (image : Parts) (costs : List ℕ) (from cost : ℕ) (choices : List Bool) (to : ℕ) : Type 0 where
  pub costs_one : 1 ≤ cost
  -- each choice costs something
  pub short : length choices ≤ cost
  pub leads : (s : ℕ) (u : State) → IsUnnested u → Leads image costs (control.goes (Turn s) from u) choices cost (control.goes (Turn s) to u)

module _ (image : Parts) (cert : CertParts) (costs : List ℕ) where
  mutual
    pub data Route : List Watch → ℕ → Side → ℕ → List Bool → Type 0 where
      -- the place behind has the kind of the place before
      passes : {ws : List Watch} {p : ℕ} {side : Side} {n : ℕ} {z : List Bool} (c q m : ℕ) (first rest : List Bool) → Crosses image costs p c first q → IsAt (image_of image costs) (cert_of image cert costs) q (kind_of (line_at cert.lines p)) → Route ws q side m rest → n ≡ c + m → z ≡ first ++ rest → Route ws p side n z
      enters : {ws : List Watch} {p : ℕ} {side : Side} {n : ℕ} {z : List Bool} (j m : ℕ) → instr_at image p ≡ Some (instr.Abrt j) → Route (with_last (new_entry image j) ws) (p + 1) side m z → n ≡ cost_of costs class.Abrt + m → Route ws p side n z
      leaves : {ws : List Watch} {p : ℕ} {side : Side} {n : ℕ} {z : List Bool} (m : ℕ) → instr_at image p ≡ Some instr.Leave → Route (without_last ws) (p + 1) side m z → n ≡ cost_of costs class.Leave + m → Route ws p side n z
      pauses : {ws : List Watch} {p : ℕ} {side : Side} {n : ℕ} {z : List Bool} (m : ℕ) → instr_at image p ≡ Some instr.Eot → Rested ws side m z → n ≡ cost_of costs class.Eot + m → Route ws p side n z
      forks : {ws : List Watch} {p : ℕ} {side : Side} {n : ℕ} {z : List Bool} (lo count : ℕ) (y : Side) (g m : ℕ) (first rest : List Bool) →
          instr_at image p ≡ Some (instr.Fork lo count) → Routes lo count y g first → Afterwards ws p y side m rest → n ≡ cost_of costs class.Fork + (g + m) → z ≡ first ++ rest → Route ws p side n z
      ends : {ws : List Watch} {p : ℕ} {side : Side} {n : ℕ} {z : List Bool} → instr_at image p ≡ Some instr.End → side ≡ ToEnd → n ≡ cost_of costs class.End → z ≡ [] → Route ws p side n z

    -- a slot, or its group, came to a pause: it stays, or goes on at the handler of its innermost fired abort
    pub data Rested : List Watch → Side → ℕ → List Bool → Type 0 where
      stays : {ws : List Watch} {side : Side} {n : ℕ} {z : List Bool} → relief ws ≡ None → side ≡ ToPause → n ≡ 0 → z ≡ [] → Rested ws side n z
      goes : {ws : List Watch} {side : Side} {n : ℕ} {z : List Bool} (left : List Watch) (handler : ℕ) → relief ws ≡ Some (left, handler) → Route left handler side n z → Rested ws side n z

    -- a group came to its end, or to a pause
    pub data Afterwards : List Watch → ℕ → Side → Side → ℕ → List Bool → Type 0 where
      joins : {ws : List Watch} {p : ℕ} {y side : Side} {n : ℕ} {z : List Bool} → y ≡ ToEnd → Route ws (p + 1) side n z → Afterwards ws p y side n z
      rests : {ws : List Watch} {p : ℕ} {y side : Side} {n : ℕ} {z : List Bool} → y ≡ ToPause → Rested ws side n z → Afterwards ws p y side n z

    -- children that start
    pub data Routes : ℕ → ℕ → Side → ℕ → List Bool → Type 0 where
      nobody : {lo count : ℕ} {side : Side} {n : ℕ} {z : List Bool} → count ≡ 0 → side ≡ ToEnd → n ≡ 0 → z ≡ [] → Routes lo count side n z
      child : {lo count : ℕ} {side : Side} {n : ℕ} {z : List Bool} (x y : Side) (p q more : ℕ) (first rest : List Bool) → count ≡ suc more → Route [] (start_of image lo) x p first → Routes (lo + 1) more y q rest →
          side ≡ both_sides x y → n ≡ p + q → z ≡ first ++ rest → Routes lo count side n z
