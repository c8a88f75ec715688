-- The registers and their numbers.
use Rattle.std.specs.Prelude.{ℕ, List, [], ◌∷◌, slice_index_or}
use Rattle.mb_isa.specs.declared.registers.Reg.{Reg}
use Rattle.mb_isa.specs.declared.registers.Reg.TheVariants.{R0, R1, R2, R3, R4, R5, R6, R7, R8, R9, R10, R11, R12, R13, R14, R15, R16, R17, R18, R19, R20, R21, R22, R23, R24, R25, R26, R27, R28, R29, R30, R31}

-- the registers in order
abbrev pub regs : List Reg
regs = R0 ∷ R1 ∷ R2 ∷ R3 ∷ R4 ∷ R5 ∷ R6 ∷ R7 ∷ R8 ∷ R9 ∷ R10 ∷ R11 ∷ R12 ∷ R13 ∷ R14 ∷ R15 ∷ R16 ∷ R17 ∷ R18 ∷ R19 ∷ R20 ∷ R21 ∷ R22 ∷ R23 ∷ R24 ∷ R25 ∷ R26 ∷ R27 ∷ R28 ∷ R29 ∷ R30 ∷ R31 ∷ []

-- the register of a number
abbrev pub reg_at : ℕ → Reg
reg_at n = slice_index_or regs n R0

-- the number of a register
abbrev pub number : Reg → ℕ
number R0 = 0
number R1 = 1
number R2 = 2
number R3 = 3
number R4 = 4
number R5 = 5
number R6 = 6
number R7 = 7
number R8 = 8
number R9 = 9
number R10 = 10
number R11 = 11
number R12 = 12
number R13 = 13
number R14 = 14
number R15 = 15
number R16 = 16
number R17 = 17
number R18 = 18
number R19 = 19
number R20 = 20
number R21 = 21
number R22 = 22
number R23 = 23
number R24 = 24
number R25 = 25
number R26 = 26
number R27 = 27
number R28 = 28
number R29 = 29
number R30 = 30
number R31 = 31
