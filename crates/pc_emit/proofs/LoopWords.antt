-- A `loop` word alone has a number of sixteen bits, so one with a greater number stands behind an `imm`.
use Rattle.std.proofs.Common.{◌≡◌, ◌≤◌, ◌<◌, ◌+◌, ◌/◌, ◌%◌, ◌==◌, ℕ, ℤ, Bool, true, false, if◌then◌else◌, nat_lt, Option, Some, None, refl, sym, ap, subst, arith}
use Rattle.std.specs.Prelude.{option_and_then, slice_get}
use Rattle.std.proofs.lemmas.Bool.Decides.{nat_tests}
use Rattle.mb_isa.specs.declared.registers.Reg.{Reg}
use Rattle.mb_isa.specs.declared.words.Instr.{Instr}
use Rattle.mb_isa.specs.declared.words.Instr.TheVariants as instr
use Rattle.mb_isa.specs.Codes.{code_of}
use Rattle.mb_isa.specs.Candidates.{shift_candidate, branch_candidate, unit_candidate, candidate_of, candidate_for, decoded}
use Rattle.mb_isa.specs.Words.{is_barred}
use Rattle.pt_image.specs.declared.Parts.{Parts}
use Rattle.tk_paths.specs.declared.word.Word.{Word}
use Rattle.tk_paths.specs.declared.word.Word.TheVariants as word
use Rattle.tk_paths.specs.Words.{word_of, instr_in, instr_at, read_instr, read}
use Rattle.tk_paths.specs.Regions.{behind_half, half, behind, IsUnit}
use Rattle.pc_emit.specs.Code.{loop_size}

-- the number of a loop, if it is one
abbrev turns_in : Option Instr → ℕ
turns_in (Some (instr.Loop n)) = n
turns_in other = 0

pick : (b : Bool) (x y : Option Instr) (low : ℕ) → turns_in x ≤ low → turns_in y ≤ low → turns_in (if b then x else y) ≤ low
pick true x y low f g = f
pick false x y low f g = g

shift-low : (d a b : Reg) (n low : ℕ) → turns_in (shift_candidate d a b n) ≤ low
shift-low d a b n low =
    pick (n == 0) (Some (instr.Bsrl d a b)) _ low (omega arith)
    (pick (n == 512) (Some (instr.Bsra d a b)) _ low (omega arith)
    (pick (n == 1024) (Some (instr.Bsll d a b)) None low (omega arith) (omega arith)))

branch-low : (rd : ℕ) (a : Reg) (imm : ℤ) (low : ℕ) → turns_in (branch_candidate rd a imm) ≤ low
branch-low rd a imm low =
    pick (rd == 0) (Some (instr.Beqi a imm)) _ low (omega arith)
    (pick (rd == 1) (Some (instr.Bnei a imm)) _ low (omega arith)
    (pick (rd == 2) (Some (instr.Blti a imm)) _ low (omega arith)
    (pick (rd == 3) (Some (instr.Blei a imm)) _ low (omega arith)
    (pick (rd == 4) (Some (instr.Bgti a imm)) _ low (omega arith)
    (pick (rd == 5) (Some (instr.Bgei a imm)) None low (omega arith) (omega arith))))))

unit-low : (rd : ℕ) (a : Reg) (low : ℕ) → turns_in (unit_candidate rd a low) ≤ low
unit-low rd a low =
    pick (rd == 0) (Some (instr.Fork (low / 256) (low % 256))) _ low (omega arith)
    (pick (rd == 1) (Some instr.Eot) _ low (omega arith)
    (pick (rd == 2) (Some instr.End) _ low (omega arith)
    (pick (rd == 3) (Some (instr.Abrt low)) _ low (omega arith)
    (pick (rd == 4) (Some instr.Leave) _ low (omega arith)
    (pick (rd == 5) (Some (instr.Call low)) _ low (omega arith)
    (pick (rd == 6) (Some instr.Ret) _ low (omega arith)
    (pick (rd == 7) (Some (instr.Loop low)) _ low (omega arith)
    (pick (rd == 8) (Some (instr.Next low)) _ low (omega arith)
    (pick (rd == 9) (Some instr.Drop) _ low (omega arith)
    (pick (rd == 10) (Some (instr.Cend a)) None low (omega arith) (omega arith)))))))))))

candidate-low : (op rd : ℕ) (d a b : Reg) (low : ℕ) (imm : ℤ) → turns_in (candidate_of op rd d a b low imm) ≤ low
candidate-low op rd d a b low imm =
    pick (op == 4) (Some (instr.Addk d a b)) _ low (omega arith)
    (pick (op == 32) (Some (instr.Or d a b)) _ low (omega arith)
    (pick (op == 33) (Some (instr.And d a b)) _ low (omega arith)
    (pick (op == 34) (Some (instr.Xor d a b)) _ low (omega arith)
    (pick (op == 16) (Some (instr.Mul d a b)) _ low (omega arith)
    (pick (op == 18) (Some (instr.Idiv d a b)) _ low (omega arith)
    (pick (op == 50) (Some (instr.Lw d a b)) _ low (omega arith)
    (pick (op == 54) (Some (instr.Sw d a b)) _ low (omega arith)
    (pick (op == 12) (Some (instr.Addik d a imm)) _ low (omega arith)
    (pick (op == 40) (Some (instr.Ori d a imm)) _ low (omega arith)
    (pick (op == 41) (Some (instr.Andi d a imm)) _ low (omega arith)
    (pick (op == 42) (Some (instr.Xori d a imm)) _ low (omega arith)
    (pick (op == 44) (Some (instr.Imm imm)) _ low (omega arith)
    (pick (op == 46) (Some (instr.Bri imm)) _ low (omega arith)
    (pick (op == 58) (Some (instr.Lwi d a imm)) _ low (omega arith)
    (pick (op == 62) (Some (instr.Swi d a imm)) _ low (omega arith)
    (pick (op == 5) _ _ low (pick (low % 2048 == 1) (Some (instr.Cmp d a b)) (Some (instr.Rsubk d a b)) low (omega arith) (omega arith))
    (pick (op == 17) _ _ low (shift-low d a b (low % 2048) low)
    (pick (op == 47) _ _ low (branch-low rd a imm low)
    (pick (op == 63) _ None low (unit-low rd a low) (omega arith))))))))))))))))))))

kept : (w low : ℕ) (o : Option Instr) → turns_in o ≤ low → turns_in (option_and_then (λ i. if code_of i == w then Some i else None) o) ≤ low
kept w low None h = omega arith
kept w low (Some i) h = pick (code_of i == w) (Some i) None low h (omega arith)

turns-low : (w : ℕ) → turns_in (decoded w) < 65536
turns-low w =
    let h = kept w (w % 65536) (candidate_for w) (candidate-low (w / 67108864) (w / 2097152 % 32) _ _ _ (w % 65536) _) in
    let m : w % 65536 < 65536 = omega arith in
    omega (arith, h, m)

turns-at : (o : Option ℕ) → turns_in (instr_in o) < 65536
turns-at None = omega arith
turns-at (Some w) = turns-low w

-- the number of what a word alone comes to
abbrev turns_of_word : Option Word → ℕ
turns_of_word (Some (word.Loop n)) = n
turns_of_word other = 0

word-turns : (image : Parts) (p : ℕ) (i : Instr) → turns_of_word (Some (word_of image p None i)) ≤ turns_in (Some i)
word-turns image p (instr.Loop n) = omega arith
word-turns image p i = omega arith

read-turns : (image : Parts) (p : ℕ) (o : Option Instr) → turns_of_word (read_instr image p None o) ≤ turns_in o
read-turns image p None = omega arith
read-turns image p (Some i) = by (is_barred None i)
  where
    by : (b : Bool) → turns_of_word (if b then None else Some (word_of image p None i)) ≤ turns_in (Some i)
    by true = omega arith
    by false = word-turns image p i

-- where a unit is a loop, the place behind it leaves room for its words
pub loop-behind : (image : Parts) (p n : ℕ) → IsUnit image p (word.Loop n) → p + loop_size n ≤ behind image p
loop-behind image p n u = by (half image p) refl
  where
    size : (b : Bool) → nat_lt n 65536 ≡ b → (if b then 1 else 2) ≤ 2
    size true e = omega arith
    size false e = omega arith

    by : (o : Option ℤ) → half image p ≡ o → p + loop_size n ≤ behind_half (half image p) p + 1
    by (Some upper) e =
        let B : Option ℤ → Type 0 = λ x. p + loop_size n ≤ behind_half x p + 1 in
        let s = size (nat_lt n 65536) refl in
        subst B (sym e) (omega (arith, s))
    by None e =
        let P : Option ℤ → Type 0 = λ x. read image (behind_half x p) x ≡ Some (word.Loop n) in
        let here : read image p None ≡ Some (word.Loop n) = subst P e u in
        let t : turns_of_word (read image p None) ≡ n = ap turns_of_word here in
        let r = read-turns image p (instr_at image p) in
        let low = turns-at (slice_get image.code p) in
        let few : nat_lt n 65536 ≡ true = grind (arith, nat_tests, t, r, low) in
        let one : loop_size n ≡ 1 = ap (λ (b : Bool). if b then 1 else 2) few in
        let B : Option ℤ → Type 0 = λ x. p + loop_size n ≤ behind_half x p + 1 in
        subst B (sym e) (omega (arith, one))
