-- Ways: what a slot does from a place with exactly these entries, to a pause or its end, at exactly this cost.
use Rattle.std.specs.Prelude.{◌≡◌, ℕ, suc, ◌+◌, List, [], Some, None}
use Rattle.mb_isa.specs.declared.Instr.TheVariants as instr
use Rattle.mb_isa.specs.declared.Class.TheVariants as class
use Rattle.mb_isa.specs.Costs.{cost_of}
use Rattle.mb_pfu.specs.declared.parts.Watch.{Watch}
use Rattle.mb_pfu.specs.Rows.{relief, with_last}
use Rattle.pt_image.specs.declared.Parts.{Parts}
use Rattle.tk_cert.specs.declared.cert.CertParts.{CertParts}
use Rattle.tk_paths.specs.declared.view.Side.{Side}
use Rattle.tk_paths.specs.declared.view.Side.TheVariants.{ToPause, ToEnd}
use Rattle.tk_paths.specs.Words.{instr_at}
use Rattle.tk_paths.specs.Kinds.{line_at, start_of}
use Rattle.tk_paths.proofs.SlotFacts.{without_last}
use Rattle.tk_paths.proofs.Conditions.{IsAt}
use Rattle.tk_paths.proofs.Carried.{kind_of, image_of, cert_of}
use Rattle.tk_paths.specs.Passages.{Passage}
use Rattle.tk_paths.specs.Reached.{both_sides}
use Rattle.tk_paths.proofs.Flags.{new_entry}

module _ (image : Parts) (cert : CertParts) (costs : List ℕ) where
  mutual
    pub data Way : List Watch → ℕ → Side → ℕ → Type 0 where
      -- the place behind has the kind of the place before
      passes : {ws : List Watch} {p : ℕ} {side : Side} {n : ℕ} (c q m : ℕ) → Passage image costs p c q → IsAt (image_of image costs) (cert_of image cert costs) q (kind_of (line_at cert.lines p)) → Way ws q side m → n ≡ c + m → Way ws p side n
      enters : {ws : List Watch} {p : ℕ} {side : Side} {n : ℕ} (j m : ℕ) → instr_at image p ≡ Some (instr.Abrt j) → Way (with_last (new_entry image j) ws) (p + 1) side m → n ≡ cost_of costs class.Abrt + m → Way ws p side n
      leaves : {ws : List Watch} {p : ℕ} {side : Side} {n : ℕ} (m : ℕ) → instr_at image p ≡ Some instr.Leave → Way (without_last ws) (p + 1) side m → n ≡ cost_of costs class.Leave + m → Way ws p side n
      pauses : {ws : List Watch} {p : ℕ} {side : Side} {n : ℕ} (m : ℕ) → instr_at image p ≡ Some instr.Eot → Rested ws side m → n ≡ cost_of costs class.Eot + m → Way ws p side n
      forks : {ws : List Watch} {p : ℕ} {side : Side} {n : ℕ} (lo count : ℕ) (y : Side) (g m : ℕ) →
          instr_at image p ≡ Some (instr.Fork lo count) → Ways lo count y g → Afterwards ws p y side m → n ≡ cost_of costs class.Fork + (g + m) → Way ws p side n
      ends : {ws : List Watch} {p : ℕ} {side : Side} {n : ℕ} → instr_at image p ≡ Some instr.End → side ≡ ToEnd → n ≡ cost_of costs class.End → Way ws p side n

    -- a slot, or its group, came to a pause: it stays, or goes on at the handler of its innermost fired abort
    pub data Rested : List Watch → Side → ℕ → Type 0 where
      stays : {ws : List Watch} {side : Side} {n : ℕ} → relief ws ≡ None → side ≡ ToPause → n ≡ 0 → Rested ws side n
      goes : {ws : List Watch} {side : Side} {n : ℕ} (left : List Watch) (handler : ℕ) → relief ws ≡ Some (left, handler) → Way left handler side n → Rested ws side n

    -- a group came to its end, or to a pause
    pub data Afterwards : List Watch → ℕ → Side → Side → ℕ → Type 0 where
      joins : {ws : List Watch} {p : ℕ} {y side : Side} {n : ℕ} → y ≡ ToEnd → Way ws (p + 1) side n → Afterwards ws p y side n
      rests : {ws : List Watch} {p : ℕ} {y side : Side} {n : ℕ} → y ≡ ToPause → Rested ws side n → Afterwards ws p y side n

    -- children that start
    pub data Ways : ℕ → ℕ → Side → ℕ → Type 0 where
      nobody : {lo count : ℕ} {side : Side} {n : ℕ} → count ≡ 0 → side ≡ ToEnd → n ≡ 0 → Ways lo count side n
      child : {lo count : ℕ} {side : Side} {n : ℕ} (x y : Side) (p q more : ℕ) → count ≡ suc more → Way [] (start_of image lo) x p → Ways (lo + 1) more y q →
          side ≡ both_sides x y → n ≡ p + q → Ways lo count side n
