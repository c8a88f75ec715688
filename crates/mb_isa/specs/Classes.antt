-- The class of each instruction word, and which of them takes an upper half.
use Rattle.std.specs.Prelude.{Bool, true, false, if◌then◌else◌}
use Rattle.mb_isa.specs.declared.words.Instr.{Instr}
use Rattle.mb_isa.specs.declared.words.Instr.TheVariants.{Addk, Rsubk, Cmp, Or, And, Xor, Mul, Idiv, Bsrl, Bsra, Bsll, Addik, Ori, Andi, Xori, Imm, Bri, Beqi, Bnei, Blti, Blei, Bgti, Bgei, Lw, Sw, Lwi, Swi, Fork, Eot, End, Abrt, Leave, Call, Ret, Loop, Next, Drop, Cend}
use Rattle.mb_isa.specs.declared.costs.Class.{Class}
use Rattle.mb_isa.specs.declared.costs.Class.TheVariants as class

-- the class of a conditional branch, where it is taken or not
abbrev pub branch_class : Bool → Class
branch_class taken = if taken then class.Taken else class.Untaken

-- the class of an instruction word; of a conditional branch, where it is taken or not
abbrev pub class_of : Bool → Instr → Class
class_of taken (Addk _ _ _) = class.Alu
class_of taken (Rsubk _ _ _) = class.Alu
class_of taken (Cmp _ _ _) = class.Alu
class_of taken (Or _ _ _) = class.Alu
class_of taken (And _ _ _) = class.Alu
class_of taken (Xor _ _ _) = class.Alu
class_of taken (Mul _ _ _) = class.Mul
class_of taken (Idiv _ _ _) = class.Div
class_of taken (Bsrl _ _ _) = class.Shift
class_of taken (Bsra _ _ _) = class.Shift
class_of taken (Bsll _ _ _) = class.Shift
class_of taken (Addik _ _ _) = class.Alu
class_of taken (Ori _ _ _) = class.Alu
class_of taken (Andi _ _ _) = class.Alu
class_of taken (Xori _ _ _) = class.Alu
class_of taken (Imm _) = class.Imm
class_of taken (Bri _) = class.Jump
class_of taken (Beqi _ _) = branch_class taken
class_of taken (Bnei _ _) = branch_class taken
class_of taken (Blti _ _) = branch_class taken
class_of taken (Blei _ _) = branch_class taken
class_of taken (Bgti _ _) = branch_class taken
class_of taken (Bgei _ _) = branch_class taken
class_of taken (Lw _ _ _) = class.Load
class_of taken (Sw _ _ _) = class.Store
class_of taken (Lwi _ _ _) = class.Load
class_of taken (Swi _ _ _) = class.Store
class_of taken (Fork _ _) = class.Fork
class_of taken Eot = class.Eot
class_of taken End = class.End
class_of taken (Abrt _) = class.Abrt
class_of taken Leave = class.Leave
class_of taken (Call _) = class.Call
class_of taken Ret = class.Ret
class_of taken (Loop _) = class.Loop
class_of taken (Next _) = class.Next
class_of taken Drop = class.Drop
class_of taken (Cend _) = class.Cend

-- the word may stand after an `imm`, which then gives its upper half
abbrev pub takes_upper : Instr → Bool
takes_upper (Addk _ _ _) = false
takes_upper (Rsubk _ _ _) = false
takes_upper (Cmp _ _ _) = false
takes_upper (Or _ _ _) = false
takes_upper (And _ _ _) = false
takes_upper (Xor _ _ _) = false
takes_upper (Mul _ _ _) = false
takes_upper (Idiv _ _ _) = false
takes_upper (Bsrl _ _ _) = false
takes_upper (Bsra _ _ _) = false
takes_upper (Bsll _ _ _) = false
takes_upper (Addik _ _ _) = true
takes_upper (Ori _ _ _) = true
takes_upper (Andi _ _ _) = true
takes_upper (Xori _ _ _) = true
takes_upper (Imm _) = false
takes_upper (Bri _) = true
takes_upper (Beqi _ _) = true
takes_upper (Bnei _ _) = true
takes_upper (Blti _ _) = true
takes_upper (Blei _ _) = true
takes_upper (Bgti _ _) = true
takes_upper (Bgei _ _) = true
takes_upper (Lw _ _ _) = false
takes_upper (Sw _ _ _) = false
takes_upper (Lwi _ _ _) = true
takes_upper (Swi _ _ _) = true
takes_upper (Fork _ _) = false
takes_upper Eot = false
takes_upper End = false
takes_upper (Abrt _) = false
takes_upper Leave = false
takes_upper (Call _) = false
takes_upper Ret = false
takes_upper (Loop _) = true
takes_upper (Next _) = false
takes_upper Drop = false
takes_upper (Cend _) = false
