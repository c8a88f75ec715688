-- Lists of words one after another.
use Rattle.std.proofs.Common.{◌≡◌, arith, length, List, [], ◌∷◌, ◌++◌, refl, ap, ◌∙◌, append_assoc}
use Rattle.pc_lower.specs.Words.{Written, alone, after_imm, words_in}
use Rattle.mb_isa.specs.declared.words.Instr.{Instr}
use Rattle.mb_isa.specs.declared.words.Instr.TheVariants.{Imm}
use Rattle.pc_regs.specs.Writings.{instrs}

pub instrs-append : (p q : List Written) → instrs (p ++ q) ≡ instrs p ++ instrs q
instrs-append [] q = refl
instrs-append (alone w ∷ p) q = ap (λ ws. w ∷ ws) (instrs-append p q)
instrs-append (after_imm upper w ∷ p) q = ap (λ ws. Imm upper ∷ w ∷ ws) (instrs-append p q)

pub flat_two : (old : List Instr) (p q : List Written) → old ++ instrs (p ++ q) ≡ (old ++ instrs p) ++ instrs q
flat_two old p q = rw (instrs-append p q, append_assoc)

pub flat_three : (old : List Instr) (p q r : List Written) → old ++ instrs (p ++ (q ++ r)) ≡ ((old ++ instrs p) ++ instrs q) ++ instrs r
flat_three old p q r = flat_two old p (q ++ r) ∙ flat_two (old ++ instrs p) q r

pub flat_four : (old : List Instr) (p q r s : List Written) → old ++ instrs (p ++ (q ++ (r ++ s))) ≡ (((old ++ instrs p) ++ instrs q) ++ instrs r) ++ instrs s
flat_four old p q r s = flat_two old p (q ++ (r ++ s)) ∙ flat_three (old ++ instrs p) q r s

pub instrs-length : (ws : List Written) → length (instrs ws) ≡ words_in ws
instrs-length [] = refl
instrs-length (alone w ∷ ws) = let e = instrs-length ws in omega (arith, e)
instrs-length (after_imm upper w ∷ ws) = let e = instrs-length ws in omega (arith, e)

pub count_from : (out : List Instr) (ws : List Written) → out ≡ [] ++ instrs ws → length out ≡ words_in ws
count_from out ws e = ap length e ∙ instrs-length ws
