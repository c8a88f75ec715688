-- What decode makes of the code of an instruction.
use Rattle.std.proofs.Common.{◌≡◌, ℕ, ◌+◌, ◌*◌, ◌/◌, ◌%◌, ◌<◌, Some, ◌==◌, if◌then◌else◌, refl, ap, ◌∙◌, arith, lit<}
use Rattle.std.specs.Int.{w16, cast_signed, cast_unsigned}
use Rattle.std.specs.Prelude.{ℤ, FitsSigned}
use Rattle.std.proofs.lemmas.Int.{to_z-of_z, ints}
use Rattle.mb_isa.specs.declared.registers.Reg.{Reg}
use Rattle.mb_isa.specs.declared.registers.Reg.TheVariants.{R0, R1, R2, R3, R4, R5, R6, R7, R8, R9, R10, R11, R12, R13, R14, R15, R16, R17, R18, R19, R20, R21, R22, R23, R24, R25, R26, R27, R28, R29, R30, R31}
use Rattle.mb_isa.specs.declared.words.Instr.{Instr}
use Rattle.mb_isa.specs.declared.words.Instr.TheVariants.{Addk, Rsubk, Cmp, Or, And, Xor, Mul, Idiv, Bsrl, Bsra, Bsll, Lw, Sw, Addik, Ori, Andi, Xori, Imm, Bri, Beqi, Bnei, Blti, Blei, Bgti, Bgei, Lwi, Swi, Fork, Eot, End, Abrt, Leave, Call, Ret, Loop, Next, Drop, Cend}
use Rattle.mb_isa.specs.Registers.{number, reg_at}
use Rattle.mb_isa.specs.Codes.{word_of, code_of, IsInstr}
use Rattle.mb_isa.specs.Candidates.{candidate_at, candidate_for, shift_candidate}

pub number-below : (r : Reg) → number r < 32
number-below R0 = lit< tt
number-below R1 = lit< tt
number-below R2 = lit< tt
number-below R3 = lit< tt
number-below R4 = lit< tt
number-below R5 = lit< tt
number-below R6 = lit< tt
number-below R7 = lit< tt
number-below R8 = lit< tt
number-below R9 = lit< tt
number-below R10 = lit< tt
number-below R11 = lit< tt
number-below R12 = lit< tt
number-below R13 = lit< tt
number-below R14 = lit< tt
number-below R15 = lit< tt
number-below R16 = lit< tt
number-below R17 = lit< tt
number-below R18 = lit< tt
number-below R19 = lit< tt
number-below R20 = lit< tt
number-below R21 = lit< tt
number-below R22 = lit< tt
number-below R23 = lit< tt
number-below R24 = lit< tt
number-below R25 = lit< tt
number-below R26 = lit< tt
number-below R27 = lit< tt
number-below R28 = lit< tt
number-below R29 = lit< tt
number-below R30 = lit< tt
number-below R31 = lit< tt

pub reg_at-number : (r : Reg) → reg_at (number r) ≡ r
reg_at-number R0 = refl
reg_at-number R1 = refl
reg_at-number R2 = refl
reg_at-number R3 = refl
reg_at-number R4 = refl
reg_at-number R5 = refl
reg_at-number R6 = refl
reg_at-number R7 = refl
reg_at-number R8 = refl
reg_at-number R9 = refl
reg_at-number R10 = refl
reg_at-number R11 = refl
reg_at-number R12 = refl
reg_at-number R13 = refl
reg_at-number R14 = refl
reg_at-number R15 = refl
reg_at-number R16 = refl
reg_at-number R17 = refl
reg_at-number R18 = refl
reg_at-number R19 = refl
reg_at-number R20 = refl
reg_at-number R21 = refl
reg_at-number R22 = refl
reg_at-number R23 = refl
reg_at-number R24 = refl
reg_at-number R25 = refl
reg_at-number R26 = refl
reg_at-number R27 = refl
reg_at-number R28 = refl
reg_at-number R29 = refl
reg_at-number R30 = refl
reg_at-number R31 = refl

op_of : (op rd ra low : ℕ) → rd < 32 → ra < 32 → low < 65536 → word_of op rd ra low / 67108864 ≡ op
op_of op rd ra low d a l = omega arith

rd_of : (op rd ra low : ℕ) → rd < 32 → ra < 32 → low < 65536 → word_of op rd ra low / 2097152 % 32 ≡ rd
rd_of op rd ra low d a l = omega arith

ra_of : (op rd ra low : ℕ) → rd < 32 → ra < 32 → low < 65536 → word_of op rd ra low / 65536 % 32 ≡ ra
ra_of op rd ra low d a l = omega arith

low_of : (op rd ra low : ℕ) → low < 65536 → word_of op rd ra low % 65536 ≡ low
low_of op rd ra low l = omega arith

-- it finds the fields of which the word is made
at_fields : (op rd ra low : ℕ) → rd < 32 → ra < 32 → low < 65536 → candidate_for (word_of op rd ra low) ≡ candidate_at op rd ra low
at_fields op rd ra low d a l =
    ap (λ (x : ℕ). candidate_at x (word_of op rd ra low / 2097152 % 32) (word_of op rd ra low / 65536 % 32) (word_of op rd ra low % 65536)) (op_of op rd ra low d a l)
    ∙ ap (λ (x : ℕ). candidate_at op x (word_of op rd ra low / 65536 % 32) (word_of op rd ra low % 65536)) (rd_of op rd ra low d a l)
    ∙ ap (λ (x : ℕ). candidate_at op rd x (word_of op rd ra low % 65536)) (ra_of op rd ra low d a l)
    ∙ ap (λ (x : ℕ). candidate_at op rd ra x) (low_of op rd ra low l)

-- the third register of a word of type A, and what is below it
high : (rb : Reg) (c : ℕ) → c < 2048 → (number rb * 2048 + c) / 2048 ≡ number rb
high rb c h = omega arith

rest : (rb : Reg) (c : ℕ) → c < 2048 → (number rb * 2048 + c) % 2048 ≡ c
rest rb c h = omega arith

in_half : (rb : Reg) (c : ℕ) → c < 2048 → number rb * 2048 + c < 65536
in_half rb c h = omega (arith, number-below rb)

three_regs : (f : Reg → Reg → Reg → Instr) (rd ra rb : Reg) (c : ℕ) → c < 2048 → Some (f (reg_at (number rd)) (reg_at (number ra)) (reg_at ((number rb * 2048 + c) / 2048))) ≡ Some (f rd ra rb)
three_regs f rd ra rb c h =
    ap (λ (x : ℕ). Some (f (reg_at (number rd)) (reg_at (number ra)) (reg_at x))) (high rb c h)
    ∙ ap (λ (x : Reg). Some (f x (reg_at (number ra)) (reg_at (number rb)))) (reg_at-number rd)
    ∙ ap (λ (x : Reg). Some (f rd x (reg_at (number rb)))) (reg_at-number ra)
    ∙ ap (λ (x : Reg). Some (f rd ra x)) (reg_at-number rb)

unsigned_below : (z : ℤ) → FitsSigned w16 z → cast_unsigned w16 z < 65536
unsigned_below z h = omega (arith, ints)

two_regs : (f : Reg → Reg → ℤ → Instr) (rd ra : Reg) (z : ℤ) → FitsSigned w16 z → Some (f (reg_at (number rd)) (reg_at (number ra)) (cast_signed w16 (cast_unsigned w16 z))) ≡ Some (f rd ra z)
two_regs f rd ra z h =
    ap (λ (x : ℤ). Some (f (reg_at (number rd)) (reg_at (number ra)) x)) (to_z-of_z w16 z h)
    ∙ ap (λ (x : Reg). Some (f x (reg_at (number ra)) z)) (reg_at-number rd)
    ∙ ap (λ (x : Reg). Some (f rd x z)) (reg_at-number ra)

two_bytes : (lo count : ℕ) → count < 256 → Some (Fork ((lo * 256 + count) / 256) ((lo * 256 + count) % 256)) ≡ Some (Fork lo count)
two_bytes lo count h =
    let high : (lo * 256 + count) / 256 ≡ lo = omega arith in
    let low : (lo * 256 + count) % 256 ≡ count = omega arith in
    ap (λ (x : ℕ). Some (Fork x ((lo * 256 + count) % 256))) high ∙ ap (λ (x : ℕ). Some (Fork lo x)) low

-- what decode looks at for a code is the instruction
pub candidate_for-code_of : (i : Instr) → IsInstr i → candidate_for (code_of i) ≡ Some i
candidate_for-code_of (Addk rd ra rb) h = at_fields 4 (number rd) (number ra) (number rb * 2048 + 0) (number-below rd) (number-below ra) (in_half rb 0 (lit< tt)) ∙ three_regs Addk rd ra rb 0 (lit< tt)
candidate_for-code_of (Rsubk rd ra rb) h = at_fields 5 (number rd) (number ra) (number rb * 2048 + 0) (number-below rd) (number-below ra) (in_half rb 0 (lit< tt)) ∙ ap (λ (x : ℕ). if x == 1 then Some (Cmp (reg_at (number rd)) (reg_at (number ra)) (reg_at ((number rb * 2048 + 0) / 2048))) else Some (Rsubk (reg_at (number rd)) (reg_at (number ra)) (reg_at ((number rb * 2048 + 0) / 2048)))) (rest rb 0 (lit< tt)) ∙ three_regs Rsubk rd ra rb 0 (lit< tt)
candidate_for-code_of (Cmp rd ra rb) h = at_fields 5 (number rd) (number ra) (number rb * 2048 + 1) (number-below rd) (number-below ra) (in_half rb 1 (lit< tt)) ∙ ap (λ (x : ℕ). if x == 1 then Some (Cmp (reg_at (number rd)) (reg_at (number ra)) (reg_at ((number rb * 2048 + 1) / 2048))) else Some (Rsubk (reg_at (number rd)) (reg_at (number ra)) (reg_at ((number rb * 2048 + 1) / 2048)))) (rest rb 1 (lit< tt)) ∙ three_regs Cmp rd ra rb 1 (lit< tt)
candidate_for-code_of (Or rd ra rb) h = at_fields 32 (number rd) (number ra) (number rb * 2048 + 0) (number-below rd) (number-below ra) (in_half rb 0 (lit< tt)) ∙ three_regs Or rd ra rb 0 (lit< tt)
candidate_for-code_of (And rd ra rb) h = at_fields 33 (number rd) (number ra) (number rb * 2048 + 0) (number-below rd) (number-below ra) (in_half rb 0 (lit< tt)) ∙ three_regs And rd ra rb 0 (lit< tt)
candidate_for-code_of (Xor rd ra rb) h = at_fields 34 (number rd) (number ra) (number rb * 2048 + 0) (number-below rd) (number-below ra) (in_half rb 0 (lit< tt)) ∙ three_regs Xor rd ra rb 0 (lit< tt)
candidate_for-code_of (Mul rd ra rb) h = at_fields 16 (number rd) (number ra) (number rb * 2048 + 0) (number-below rd) (number-below ra) (in_half rb 0 (lit< tt)) ∙ three_regs Mul rd ra rb 0 (lit< tt)
candidate_for-code_of (Idiv rd ra rb) h = at_fields 18 (number rd) (number ra) (number rb * 2048 + 0) (number-below rd) (number-below ra) (in_half rb 0 (lit< tt)) ∙ three_regs Idiv rd ra rb 0 (lit< tt)
candidate_for-code_of (Bsrl rd ra rb) h = at_fields 17 (number rd) (number ra) (number rb * 2048 + 0) (number-below rd) (number-below ra) (in_half rb 0 (lit< tt)) ∙ ap (shift_candidate (reg_at (number rd)) (reg_at (number ra)) (reg_at ((number rb * 2048 + 0) / 2048))) (rest rb 0 (lit< tt)) ∙ three_regs Bsrl rd ra rb 0 (lit< tt)
candidate_for-code_of (Bsra rd ra rb) h = at_fields 17 (number rd) (number ra) (number rb * 2048 + 512) (number-below rd) (number-below ra) (in_half rb 512 (lit< tt)) ∙ ap (shift_candidate (reg_at (number rd)) (reg_at (number ra)) (reg_at ((number rb * 2048 + 512) / 2048))) (rest rb 512 (lit< tt)) ∙ three_regs Bsra rd ra rb 512 (lit< tt)
candidate_for-code_of (Bsll rd ra rb) h = at_fields 17 (number rd) (number ra) (number rb * 2048 + 1024) (number-below rd) (number-below ra) (in_half rb 1024 (lit< tt)) ∙ ap (shift_candidate (reg_at (number rd)) (reg_at (number ra)) (reg_at ((number rb * 2048 + 1024) / 2048))) (rest rb 1024 (lit< tt)) ∙ three_regs Bsll rd ra rb 1024 (lit< tt)
candidate_for-code_of (Addik rd ra imm) h = at_fields 12 (number rd) (number ra) (cast_unsigned w16 imm) (number-below rd) (number-below ra) (unsigned_below imm h) ∙ two_regs Addik rd ra imm h
candidate_for-code_of (Ori rd ra imm) h = at_fields 40 (number rd) (number ra) (cast_unsigned w16 imm) (number-below rd) (number-below ra) (unsigned_below imm h) ∙ two_regs Ori rd ra imm h
candidate_for-code_of (Andi rd ra imm) h = at_fields 41 (number rd) (number ra) (cast_unsigned w16 imm) (number-below rd) (number-below ra) (unsigned_below imm h) ∙ two_regs Andi rd ra imm h
candidate_for-code_of (Xori rd ra imm) h = at_fields 42 (number rd) (number ra) (cast_unsigned w16 imm) (number-below rd) (number-below ra) (unsigned_below imm h) ∙ two_regs Xori rd ra imm h
candidate_for-code_of (Imm imm) h = at_fields 44 0 0 (cast_unsigned w16 imm) (lit< tt) (lit< tt) (unsigned_below imm h) ∙ two_regs (λ _ _ z. Imm z) R0 R0 imm h
candidate_for-code_of (Bri imm) h = at_fields 46 0 0 (cast_unsigned w16 imm) (lit< tt) (lit< tt) (unsigned_below imm h) ∙ two_regs (λ _ _ z. Bri z) R0 R0 imm h
candidate_for-code_of (Beqi ra imm) h = at_fields 47 0 (number ra) (cast_unsigned w16 imm) (lit< tt) (number-below ra) (unsigned_below imm h) ∙ two_regs (λ _ a z. Beqi a z) R0 ra imm h
candidate_for-code_of (Bnei ra imm) h = at_fields 47 1 (number ra) (cast_unsigned w16 imm) (lit< tt) (number-below ra) (unsigned_below imm h) ∙ two_regs (λ _ a z. Bnei a z) R0 ra imm h
candidate_for-code_of (Blti ra imm) h = at_fields 47 2 (number ra) (cast_unsigned w16 imm) (lit< tt) (number-below ra) (unsigned_below imm h) ∙ two_regs (λ _ a z. Blti a z) R0 ra imm h
candidate_for-code_of (Blei ra imm) h = at_fields 47 3 (number ra) (cast_unsigned w16 imm) (lit< tt) (number-below ra) (unsigned_below imm h) ∙ two_regs (λ _ a z. Blei a z) R0 ra imm h
candidate_for-code_of (Bgti ra imm) h = at_fields 47 4 (number ra) (cast_unsigned w16 imm) (lit< tt) (number-below ra) (unsigned_below imm h) ∙ two_regs (λ _ a z. Bgti a z) R0 ra imm h
candidate_for-code_of (Bgei ra imm) h = at_fields 47 5 (number ra) (cast_unsigned w16 imm) (lit< tt) (number-below ra) (unsigned_below imm h) ∙ two_regs (λ _ a z. Bgei a z) R0 ra imm h
candidate_for-code_of (Lw rd ra rb) h = at_fields 50 (number rd) (number ra) (number rb * 2048 + 0) (number-below rd) (number-below ra) (in_half rb 0 (lit< tt)) ∙ three_regs Lw rd ra rb 0 (lit< tt)
candidate_for-code_of (Sw rd ra rb) h = at_fields 54 (number rd) (number ra) (number rb * 2048 + 0) (number-below rd) (number-below ra) (in_half rb 0 (lit< tt)) ∙ three_regs Sw rd ra rb 0 (lit< tt)
candidate_for-code_of (Lwi rd ra imm) h = at_fields 58 (number rd) (number ra) (cast_unsigned w16 imm) (number-below rd) (number-below ra) (unsigned_below imm h) ∙ two_regs Lwi rd ra imm h
candidate_for-code_of (Swi rd ra imm) h = at_fields 62 (number rd) (number ra) (cast_unsigned w16 imm) (number-below rd) (number-below ra) (unsigned_below imm h) ∙ two_regs Swi rd ra imm h
candidate_for-code_of (Fork lo count) h = at_fields 63 0 0 (lo * 256 + count) (lit< tt) (lit< tt) (omega arith) ∙ two_bytes lo count h.1
candidate_for-code_of Eot h = at_fields 63 1 0 0 (lit< tt) (lit< tt) (lit< tt)
candidate_for-code_of End h = at_fields 63 2 0 0 (lit< tt) (lit< tt) (lit< tt)
candidate_for-code_of (Abrt n) h = at_fields 63 3 0 n (lit< tt) (lit< tt) h
candidate_for-code_of Leave h = at_fields 63 4 0 0 (lit< tt) (lit< tt) (lit< tt)
candidate_for-code_of (Call n) h = at_fields 63 5 0 n (lit< tt) (lit< tt) h
candidate_for-code_of Ret h = at_fields 63 6 0 0 (lit< tt) (lit< tt) (lit< tt)
candidate_for-code_of (Loop n) h = at_fields 63 7 0 n (lit< tt) (lit< tt) h
candidate_for-code_of (Next n) h = at_fields 63 8 0 n (lit< tt) (lit< tt) h
candidate_for-code_of Drop h = at_fields 63 9 0 0 (lit< tt) (lit< tt) (lit< tt)
candidate_for-code_of (Cend ra) h = at_fields 63 10 (number ra) 0 (lit< tt) (number-below ra) (lit< tt) ∙ ap (λ (x : Reg). Some (Cend x)) (reg_at-number ra)
