-- What the text of a cost table says: docs/files.md, "The cost table".
use Rattle.std.specs.Prelude.{◌≡◌, ◌<◌, ◌≤◌, ◌⊎◌, ℕ, ℤ, pos, negsuc, List, [], ◌∷◌, map, length, codes, Option, Some, None, option_and_then, unwrap_or, Result, Ok, Err, nat_le, ◌&&◌, ◌||◌, not, Bool, true, false, if◌then◌else◌, IsUtf8}
use Rattle.std.specs.List.{list_any}
use Rattle.std.specs.Str.{bytes_eq}
use Rattle.toml.specs.Data.{Data, Members, no_members, member, get_member, as_integer}
use Rattle.toml.specs.Parse.{parse_document}
use Rattle.mb_isa.specs.declared.costs.Class.{Class}
use Rattle.mb_isa.specs.declared.costs.Class.TheVariants.{Alu, Shift, Mul, Div, Imm, Load, Store, Jump, Taken, Untaken, Fork, Eot, End, Abrt, Leave, Call, Ret, Loop, Next, Drop, Cend, Tick}
use Rattle.tk_cert.specs.declared.costs.CostFault.{CostFault}
use Rattle.tk_cert.specs.declared.costs.CostFault.TheVariants.{Form, Missing, Range, Unknown, Memory}

-- the key of a class
abbrev pub key_of : Class → List ℕ
key_of Alu = codes "alu"
key_of Shift = codes "shift"
key_of Mul = codes "mul"
key_of Div = codes "div"
key_of Imm = codes "imm"
key_of Load = codes "load"
key_of Store = codes "store"
key_of Jump = codes "jump"
key_of Taken = codes "taken"
key_of Untaken = codes "untaken"
key_of Fork = codes "fork"
key_of Eot = codes "eot"
key_of End = codes "end"
key_of Abrt = codes "abrt"
key_of Leave = codes "leave"
key_of Call = codes "call"
key_of Ret = codes "ret"
key_of Loop = codes "loop"
key_of Next = codes "next"
key_of Drop = codes "drop"
key_of Cend = codes "cend"
key_of Tick = codes "tick"

-- the classes in the order of the table
abbrev pub classes : List Class
classes =
    Alu ∷ Shift ∷ Mul ∷ Div ∷ Imm ∷ Load ∷ Store ∷ Jump ∷ Taken ∷ Untaken ∷ Fork
    ∷ Eot ∷ End ∷ Abrt ∷ Leave ∷ Call ∷ Ret ∷ Loop ∷ Next ∷ Drop ∷ Cend ∷ Tick ∷ []

-- the most bytes of a table's text
abbrev pub text_most : ℕ
text_most = 65536

-- a whole number from 1 to 255
abbrev pub in_range : ℤ → Option ℕ
in_range (pos n) = if nat_le 1 n && nat_le n 255 then Some n else None
in_range (negsuc n) = None

abbrev pub cost_in : Data → Option ℕ
cost_in d = option_and_then in_range (as_integer d)

-- the cost of a class, where the table has one
abbrev pub cost_at : Members → Class → Option ℕ
cost_at table c = option_and_then cost_in (get_member (key_of c) table)

-- the first class that is no key
abbrev pub missing_at : Option Data → Class → Option Class → Option Class
missing_at None c rest = Some c
missing_at (Some d) c rest = rest

abbrev pub missing : Members → List Class → Option Class
missing table [] = None
missing table (c ∷ cs) = missing_at (get_member (key_of c) table) c (missing table cs)

-- the first class that has no cost
abbrev pub wrong_at : Option ℕ → Class → Option Class → Option Class
wrong_at None c rest = Some c
wrong_at (Some n) c rest = rest

abbrev pub wrong : Members → List Class → Option Class
wrong table [] = None
wrong table (c ∷ cs) = wrong_at (cost_at table c) c (wrong table cs)

-- a key is that of a class
abbrev pub is_key : List ℕ → Bool
is_key k = list_any (λ c. bytes_eq (key_of c) k) classes

-- some key is that of no class
abbrev pub has_unknown : Members → Bool
has_unknown no_members = false
has_unknown (member k d ms) = not (is_key k) || has_unknown ms

abbrev pub numbers : Members → List Class → List ℕ
numbers table cs = map (λ c. unwrap_or (cost_at table c) 0) cs

abbrev pub faults_in : Option Class → Option Class → Bool → List ℕ → Result (List ℕ) CostFault
faults_in (Some c) wrong unknown ns = Err (Missing c)
faults_in None (Some c) unknown ns = Err (Range c)
faults_in None None true ns = Err Unknown
faults_in None None false ns = Ok ns

-- what a table says
abbrev pub costs_of : Members → Result (List ℕ) CostFault
costs_of table = faults_in (missing table classes) (wrong table classes) (has_unknown table) (numbers table classes)

-- the bytes are a document with this table
pub record IsDocument (bytes : List ℕ) (table : Members) : Type 0 where
  pub short : length bytes ≤ text_most
  pub text : IsUtf8 bytes
  pub parsed : parse_document bytes ≡ Some table

-- the bytes are no document, or too many
abbrev pub IsNoDocument : List ℕ → Type 0
IsNoDocument bytes = (text_most < length bytes) ⊎ (IsUtf8 bytes → parse_document bytes ≡ None)

-- what reading answers: what the table says, or that there is none
abbrev pub Reads : List ℕ → Result (List ℕ) CostFault → Type 0
Reads bytes (Err Memory) = Unit {0}
Reads bytes (Err Form) = IsNoDocument bytes
Reads bytes result = (table : Members) × IsDocument bytes table × (costs_of table ≡ result)
