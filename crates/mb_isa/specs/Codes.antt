-- The table of the instruction words: docs/machine.md, "Instruction words" and "Unit words".
use Rattle.std.specs.Prelude.{ℕ, ◌+◌, ◌*◌, ◌<◌, FitsSigned}
use Rattle.std.specs.Int.{w16, cast_unsigned}
use Rattle.mb_isa.specs.declared.words.Instr.{Instr}
use Rattle.mb_isa.specs.declared.words.Instr.TheVariants.{Addk, Rsubk, Cmp, Or, And, Xor, Mul, Idiv, Bsrl, Bsra, Bsll, Addik, Ori, Andi, Xori, Imm, Bri, Beqi, Bnei, Blti, Blei, Bgti, Bgei, Lw, Sw, Lwi, Swi, Fork, Eot, End, Abrt, Leave, Call, Ret, Loop, Next, Drop, Cend}
use Rattle.mb_isa.specs.Registers.{number}

-- opcode (6 bits), rd (5), ra (5), and the low 16 bits
abbrev pub word_of : ℕ → ℕ → ℕ → ℕ → ℕ
word_of op rd ra low = ((op * 32 + rd) * 32 + ra) * 65536 + low

-- the code of an instruction word
abbrev pub code_of : Instr → ℕ
code_of (Addk rd ra rb) = word_of 4 (number rd) (number ra) (number rb * 2048 + 0)
code_of (Rsubk rd ra rb) = word_of 5 (number rd) (number ra) (number rb * 2048 + 0)
code_of (Cmp rd ra rb) = word_of 5 (number rd) (number ra) (number rb * 2048 + 1)
code_of (Or rd ra rb) = word_of 32 (number rd) (number ra) (number rb * 2048 + 0)
code_of (And rd ra rb) = word_of 33 (number rd) (number ra) (number rb * 2048 + 0)
code_of (Xor rd ra rb) = word_of 34 (number rd) (number ra) (number rb * 2048 + 0)
code_of (Mul rd ra rb) = word_of 16 (number rd) (number ra) (number rb * 2048 + 0)
code_of (Idiv rd ra rb) = word_of 18 (number rd) (number ra) (number rb * 2048 + 0)
code_of (Bsrl rd ra rb) = word_of 17 (number rd) (number ra) (number rb * 2048 + 0)
code_of (Bsra rd ra rb) = word_of 17 (number rd) (number ra) (number rb * 2048 + 512)
code_of (Bsll rd ra rb) = word_of 17 (number rd) (number ra) (number rb * 2048 + 1024)
code_of (Addik rd ra imm) = word_of 12 (number rd) (number ra) (cast_unsigned w16 imm)
code_of (Ori rd ra imm) = word_of 40 (number rd) (number ra) (cast_unsigned w16 imm)
code_of (Andi rd ra imm) = word_of 41 (number rd) (number ra) (cast_unsigned w16 imm)
code_of (Xori rd ra imm) = word_of 42 (number rd) (number ra) (cast_unsigned w16 imm)
code_of (Imm imm) = word_of 44 0 0 (cast_unsigned w16 imm)
code_of (Bri imm) = word_of 46 0 0 (cast_unsigned w16 imm)
code_of (Beqi ra imm) = word_of 47 0 (number ra) (cast_unsigned w16 imm)
code_of (Bnei ra imm) = word_of 47 1 (number ra) (cast_unsigned w16 imm)
code_of (Blti ra imm) = word_of 47 2 (number ra) (cast_unsigned w16 imm)
code_of (Blei ra imm) = word_of 47 3 (number ra) (cast_unsigned w16 imm)
code_of (Bgti ra imm) = word_of 47 4 (number ra) (cast_unsigned w16 imm)
code_of (Bgei ra imm) = word_of 47 5 (number ra) (cast_unsigned w16 imm)
code_of (Lw rd ra rb) = word_of 50 (number rd) (number ra) (number rb * 2048 + 0)
code_of (Sw rd ra rb) = word_of 54 (number rd) (number ra) (number rb * 2048 + 0)
code_of (Lwi rd ra imm) = word_of 58 (number rd) (number ra) (cast_unsigned w16 imm)
code_of (Swi rd ra imm) = word_of 62 (number rd) (number ra) (cast_unsigned w16 imm)
code_of (Fork lo count) = word_of 63 0 0 (lo * 256 + count)
code_of Eot = word_of 63 1 0 0
code_of End = word_of 63 2 0 0
code_of (Abrt n) = word_of 63 3 0 n
code_of Leave = word_of 63 4 0 0
code_of (Call n) = word_of 63 5 0 n
code_of Ret = word_of 63 6 0 0
code_of (Loop n) = word_of 63 7 0 n
code_of (Next n) = word_of 63 8 0 n
code_of Drop = word_of 63 9 0 0
code_of (Cend ra) = word_of 63 10 (number ra) 0

-- its parts are numbers of their types
abbrev pub IsInstr : Instr → Type 0
IsInstr (Addk rd ra rb) = Unit {0}
IsInstr (Rsubk rd ra rb) = Unit {0}
IsInstr (Cmp rd ra rb) = Unit {0}
IsInstr (Or rd ra rb) = Unit {0}
IsInstr (And rd ra rb) = Unit {0}
IsInstr (Xor rd ra rb) = Unit {0}
IsInstr (Mul rd ra rb) = Unit {0}
IsInstr (Idiv rd ra rb) = Unit {0}
IsInstr (Bsrl rd ra rb) = Unit {0}
IsInstr (Bsra rd ra rb) = Unit {0}
IsInstr (Bsll rd ra rb) = Unit {0}
IsInstr (Addik rd ra imm) = FitsSigned w16 imm
IsInstr (Ori rd ra imm) = FitsSigned w16 imm
IsInstr (Andi rd ra imm) = FitsSigned w16 imm
IsInstr (Xori rd ra imm) = FitsSigned w16 imm
IsInstr (Imm imm) = FitsSigned w16 imm
IsInstr (Bri imm) = FitsSigned w16 imm
IsInstr (Beqi ra imm) = FitsSigned w16 imm
IsInstr (Bnei ra imm) = FitsSigned w16 imm
IsInstr (Blti ra imm) = FitsSigned w16 imm
IsInstr (Blei ra imm) = FitsSigned w16 imm
IsInstr (Bgti ra imm) = FitsSigned w16 imm
IsInstr (Bgei ra imm) = FitsSigned w16 imm
IsInstr (Lw rd ra rb) = Unit {0}
IsInstr (Sw rd ra rb) = Unit {0}
IsInstr (Lwi rd ra imm) = FitsSigned w16 imm
IsInstr (Swi rd ra imm) = FitsSigned w16 imm
IsInstr (Fork lo count) = (lo < 256) × (count < 256)
IsInstr Eot = Unit {0}
IsInstr End = Unit {0}
IsInstr (Abrt n) = n < 65536
IsInstr Leave = Unit {0}
IsInstr (Call n) = n < 65536
IsInstr Ret = Unit {0}
IsInstr (Loop n) = n < 65536
IsInstr (Next n) = n < 65536
IsInstr Drop = Unit {0}
IsInstr (Cend ra) = Unit {0}
