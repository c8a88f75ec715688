-- Decoding: the only instruction word that may have a code's fields, and then whether it has that code.
use Rattle.std.specs.Prelude.{ℕ, ℤ, ◌/◌, ◌%◌, ◌==◌, if◌then◌else◌, Option, Some, None, option_and_then}
use Rattle.std.specs.Int.{w16, cast_signed}
use Rattle.mb_isa.specs.declared.registers.Reg.{Reg}
use Rattle.mb_isa.specs.declared.words.Instr.{Instr}
use Rattle.mb_isa.specs.declared.words.Instr.TheVariants.{Addk, Rsubk, Cmp, Or, And, Xor, Mul, Idiv, Bsrl, Bsra, Bsll, Addik, Ori, Andi, Xori, Imm, Bri, Beqi, Bnei, Blti, Blei, Bgti, Bgei, Lw, Sw, Lwi, Swi, Fork, Eot, End, Abrt, Leave, Call, Ret, Loop, Next, Drop, Cend}
use Rattle.mb_isa.specs.Registers.{reg_at}
use Rattle.mb_isa.specs.Codes.{code_of}

abbrev pub shift_candidate : Reg → Reg → Reg → ℕ → Option Instr
shift_candidate d a b low =
    if low == 0 then Some (Bsrl d a b) else
    if low == 512 then Some (Bsra d a b) else
    if low == 1024 then Some (Bsll d a b) else
    None

abbrev pub branch_candidate : ℕ → Reg → ℤ → Option Instr
branch_candidate test a imm =
    if test == 0 then Some (Beqi a imm) else
    if test == 1 then Some (Bnei a imm) else
    if test == 2 then Some (Blti a imm) else
    if test == 3 then Some (Blei a imm) else
    if test == 4 then Some (Bgti a imm) else
    if test == 5 then Some (Bgei a imm) else
    None

abbrev pub unit_candidate : ℕ → Reg → ℕ → Option Instr
unit_candidate function a low =
    if function == 0 then Some (Fork (low / 256) (low % 256)) else
    if function == 1 then Some Eot else
    if function == 2 then Some End else
    if function == 3 then Some (Abrt low) else
    if function == 4 then Some Leave else
    if function == 5 then Some (Call low) else
    if function == 6 then Some Ret else
    if function == 7 then Some (Loop low) else
    if function == 8 then Some (Next low) else
    if function == 9 then Some Drop else
    if function == 10 then Some (Cend a) else
    None

abbrev pub candidate_of : ℕ → ℕ → Reg → Reg → Reg → ℕ → ℤ → Option Instr
candidate_of op rd d a b low imm =
    if op == 4 then Some (Addk d a b) else
    if op == 32 then Some (Or d a b) else
    if op == 33 then Some (And d a b) else
    if op == 34 then Some (Xor d a b) else
    if op == 16 then Some (Mul d a b) else
    if op == 18 then Some (Idiv d a b) else
    if op == 50 then Some (Lw d a b) else
    if op == 54 then Some (Sw d a b) else
    if op == 12 then Some (Addik d a imm) else
    if op == 40 then Some (Ori d a imm) else
    if op == 41 then Some (Andi d a imm) else
    if op == 42 then Some (Xori d a imm) else
    if op == 44 then Some (Imm imm) else
    if op == 46 then Some (Bri imm) else
    if op == 58 then Some (Lwi d a imm) else
    if op == 62 then Some (Swi d a imm) else
    if op == 5 then (if low % 2048 == 1 then Some (Cmp d a b) else Some (Rsubk d a b)) else
    if op == 17 then shift_candidate d a b (low % 2048) else
    if op == 47 then branch_candidate rd a imm else
    if op == 63 then unit_candidate rd a low else
    None

abbrev pub candidate_at : ℕ → ℕ → ℕ → ℕ → Option Instr
candidate_at op rd ra low = candidate_of op rd (reg_at rd) (reg_at ra) (reg_at (low / 2048)) low (cast_signed w16 low)

-- the only instruction that may have this code
abbrev pub candidate_for : ℕ → Option Instr
candidate_for w = candidate_at (w / 67108864) (w / 2097152 % 32) (w / 65536 % 32) (w % 65536)

-- the instruction with this code
abbrev pub decoded : ℕ → Option Instr
decoded w = option_and_then (λ i. if code_of i == w then Some i else None) (candidate_for w)
