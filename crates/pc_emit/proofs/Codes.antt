-- The code of an instruction word has 32 bits.
use Rattle.std.proofs.Common.{ℕ, ◌+◌, ◌*◌, ◌^◌, ◌<◌, ℤ, FitsSigned, arith}
use Rattle.std.specs.Int.{w16, cast_unsigned}
use Rattle.std.proofs.lemmas.Int.{ints}
use Rattle.mb_isa.specs.declared.registers.Reg.{Reg}
use Rattle.mb_isa.specs.declared.words.Instr.{Instr}
use Rattle.mb_isa.specs.declared.words.Instr.TheVariants.{Addk, Rsubk, Cmp, Or, And, Xor, Mul, Idiv, Bsrl, Bsra, Bsll, Addik, Ori, Andi, Xori, Imm, Bri, Beqi, Bnei, Blti, Blei, Bgti, Bgei, Lw, Sw, Lwi, Swi, Fork, Eot, End, Abrt, Leave, Call, Ret, Loop, Next, Drop, Cend}
use Rattle.mb_isa.specs.Registers.{number}
use Rattle.mb_isa.specs.Codes.{word_of, code_of, IsInstr}
use Rattle.mb_isa.proofs.Inverse.{number-below}

plain : (op rd ra low : ℕ) → op < 64 → rd < 32 → ra < 32 → low < 65536 → word_of op rd ra low < 2 ^ 32
plain op rd ra low a b c d = omega arith

half : (z : ℤ) → FitsSigned w16 z → cast_unsigned w16 z < 65536
half z h = omega (arith, ints)

three : (op : ℕ) (rd ra rb : Reg) (low : ℕ) → op < 64 → low < 2048 → word_of op (number rd) (number ra) (number rb * 2048 + low) < 2 ^ 32
three op rd ra rb low a b =
    let k = number-below rb in
    plain op (number rd) (number ra) (number rb * 2048 + low) a (number-below rd) (number-below ra) (omega (arith, k))

two : (op : ℕ) (rd ra : Reg) (imm : ℤ) → op < 64 → FitsSigned w16 imm → word_of op (number rd) (number ra) (cast_unsigned w16 imm) < 2 ^ 32
two op rd ra imm a h = plain op (number rd) (number ra) (cast_unsigned w16 imm) a (number-below rd) (number-below ra) (half imm h)

pub code_fits : (i : Instr) → IsInstr i → code_of i < 2 ^ 32
code_fits (Addk rd ra rb) ok = three 4 rd ra rb 0 (omega arith) (omega arith)
code_fits (Rsubk rd ra rb) ok = three 5 rd ra rb 0 (omega arith) (omega arith)
code_fits (Cmp rd ra rb) ok = three 5 rd ra rb 1 (omega arith) (omega arith)
code_fits (Or rd ra rb) ok = three 32 rd ra rb 0 (omega arith) (omega arith)
code_fits (And rd ra rb) ok = three 33 rd ra rb 0 (omega arith) (omega arith)
code_fits (Xor rd ra rb) ok = three 34 rd ra rb 0 (omega arith) (omega arith)
code_fits (Mul rd ra rb) ok = three 16 rd ra rb 0 (omega arith) (omega arith)
code_fits (Idiv rd ra rb) ok = three 18 rd ra rb 0 (omega arith) (omega arith)
code_fits (Bsrl rd ra rb) ok = three 17 rd ra rb 0 (omega arith) (omega arith)
code_fits (Bsra rd ra rb) ok = three 17 rd ra rb 512 (omega arith) (omega arith)
code_fits (Bsll rd ra rb) ok = three 17 rd ra rb 1024 (omega arith) (omega arith)
code_fits (Addik rd ra imm) ok = two 12 rd ra imm (omega arith) ok
code_fits (Ori rd ra imm) ok = two 40 rd ra imm (omega arith) ok
code_fits (Andi rd ra imm) ok = two 41 rd ra imm (omega arith) ok
code_fits (Xori rd ra imm) ok = two 42 rd ra imm (omega arith) ok
code_fits (Imm imm) ok = plain 44 0 0 (cast_unsigned w16 imm) (omega arith) (omega arith) (omega arith) (half imm ok)
code_fits (Bri imm) ok = plain 46 0 0 (cast_unsigned w16 imm) (omega arith) (omega arith) (omega arith) (half imm ok)
code_fits (Beqi ra imm) ok = plain 47 0 (number ra) (cast_unsigned w16 imm) (omega arith) (omega arith) (number-below ra) (half imm ok)
code_fits (Bnei ra imm) ok = plain 47 1 (number ra) (cast_unsigned w16 imm) (omega arith) (omega arith) (number-below ra) (half imm ok)
code_fits (Blti ra imm) ok = plain 47 2 (number ra) (cast_unsigned w16 imm) (omega arith) (omega arith) (number-below ra) (half imm ok)
code_fits (Blei ra imm) ok = plain 47 3 (number ra) (cast_unsigned w16 imm) (omega arith) (omega arith) (number-below ra) (half imm ok)
code_fits (Bgti ra imm) ok = plain 47 4 (number ra) (cast_unsigned w16 imm) (omega arith) (omega arith) (number-below ra) (half imm ok)
code_fits (Bgei ra imm) ok = plain 47 5 (number ra) (cast_unsigned w16 imm) (omega arith) (omega arith) (number-below ra) (half imm ok)
code_fits (Lw rd ra rb) ok = three 50 rd ra rb 0 (omega arith) (omega arith)
code_fits (Sw rd ra rb) ok = three 54 rd ra rb 0 (omega arith) (omega arith)
code_fits (Lwi rd ra imm) ok = two 58 rd ra imm (omega arith) ok
code_fits (Swi rd ra imm) ok = two 62 rd ra imm (omega arith) ok
code_fits (Fork lo count) ok = plain 63 0 0 (lo * 256 + count) (omega arith) (omega arith) (omega arith) (let a = ok.0 in let b = ok.1 in omega (arith, a, b))
code_fits Eot ok = plain 63 1 0 0 (omega arith) (omega arith) (omega arith) (omega arith)
code_fits End ok = plain 63 2 0 0 (omega arith) (omega arith) (omega arith) (omega arith)
code_fits (Abrt n) ok = plain 63 3 0 n (omega arith) (omega arith) (omega arith) ok
code_fits Leave ok = plain 63 4 0 0 (omega arith) (omega arith) (omega arith) (omega arith)
code_fits (Call n) ok = plain 63 5 0 n (omega arith) (omega arith) (omega arith) ok
code_fits Ret ok = plain 63 6 0 0 (omega arith) (omega arith) (omega arith) (omega arith)
code_fits (Loop n) ok = plain 63 7 0 n (omega arith) (omega arith) (omega arith) ok
code_fits (Next n) ok = plain 63 8 0 n (omega arith) (omega arith) (omega arith) ok
code_fits Drop ok = plain 63 9 0 0 (omega arith) (omega arith) (omega arith) (omega arith)
code_fits (Cend ra) ok = plain 63 10 (number ra) 0 (omega arith) (omega arith) (number-below ra) (omega arith)
