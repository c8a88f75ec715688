-- Words that are written make as many units as they are said to.
use Rattle.std.proofs.Common.{◌≡◌, ℕ, ℤ, suc, ◌+◌, false, if◌then◌else◌, Option, Some, None, List, [], ◌∷◌, length, refl, ap, ◌∙◌, arith}
use Rattle.mb_isa.specs.declared.words.Instr.{Instr}
use Rattle.mb_isa.specs.declared.words.Instr.TheVariants.{Imm}
use Rattle.mb_pfu.specs.Tree.{Leaf, Finished}
use Rattle.mb_pfu.specs.Unit.{State}
use Rattle.mb_isa.specs.Control.{Condition}
use Rattle.pt_image.specs.declared.image.Parts.{Parts}
use Rattle.pc_lower.specs.Words.{Written, alone, after_imm, IsWork}
use Rattle.pc_regs.specs.Writings.{instrs, AreWork}
use Rattle.pc_emit.specs.Units.{is_half, units_in}

no_image : Parts
no_image = record { code = []; memory = []; inputs = []; outputs = []; slots = []; aborts = []; pauses = []; forks = [] }

some_unit : State
some_unit = record { slots = 0; tree = Leaf [] Finished; links = []; counters = [] }

-- a word that the data do is no upper half
whole-word : (upper : Option ℤ) (w : Instr) → IsWork no_image upper w → is_half w ≡ false
whole-word upper (Imm z) h = let k = h.1 Condition 0 some_unit in absurd cc
whole-word upper w h = refl

one : (w : Instr) (words : List Instr) → is_half w ≡ false → units_in (w ∷ words) ≡ suc (units_in words)
one w words e = ap (λ b. (if b then 0 else 1) + units_in words) e ∙ more (units_in words)
  where
    more : (n : ℕ) → 1 + n ≡ suc n
    more n = omega arith

nothing-more : (n : ℕ) → 0 + n ≡ n
nothing-more n = omega arith

pub units_of : (ws : List Written) → AreWork ws → units_in (instrs ws) ≡ length ws
units_of [] h = refl
units_of (alone w ∷ ws) h = one w (instrs ws) (whole-word None w (h.1 no_image)) ∙ ap suc (units_of ws h.2)
units_of (after_imm upper w ∷ ws) h =
    nothing-more (units_in (w ∷ instrs ws)) ∙ one w (instrs ws) (whole-word (Some upper) w (h.2 no_image)) ∙ ap suc (units_of ws h.3)
