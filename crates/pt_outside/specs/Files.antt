-- What a shelf holds and what a sink has, where they tell it.
use Rattle.std.specs.Prelude.{◌≡◌, ◌≢◌, ◌⊎◌, ℕ, List, [], ◌∷◌, Option, Some, None, false, take, ⊤}
use Rattle.std.specs.Ordering.{nat_cmp}
use Rattle.std.specs.Cmp.Lexicographic.{slice_cmp}
use Rattle.std.specs.FinMap.{FinMap, get, insert}
use Rattle.std.specs.Io.KnownBytes.{Appends}
use Rattle.std.specs.List.{AllByRecursion}
use Rattle.std.specs.Str.{bytes_eq}

-- files by their names: a finite map from names to bytes
abbrev pub Files : Type 0
Files = FinMap (slice_cmp nat_cmp) (List ℕ)

-- a file beside its name
abbrev pub File : Type 0
File = List ℕ × List ℕ

-- no two of the files have one name
abbrev pub HaveDistinctNames : List File → Type 0
HaveDistinctNames [] = ⊤
HaveDistinctNames (f ∷ fs) = AllByRecursion (λ (g : File). bytes_eq f.0 g.0 ≡ false) fs × HaveDistinctNames fs

-- known files stay as they were
abbrev pub KeepsFiles : Option Files → Option Files → Type 0
KeepsFiles None new = ⊤
KeepsFiles (Some fs) None = ⊥
KeepsFiles (Some fs) (Some gs) = gs ≡ fs

-- known files are as before but for this name, which has these bytes
abbrev pub Stores : Option Files → Option Files → List ℕ → List ℕ → Type 0
Stores None new name bytes = ⊤
Stores (Some fs) None name bytes = ⊥
Stores (Some fs) (Some gs) name bytes = gs ≡ insert fs name bytes

-- other names stay, and this one holds what it held or a front of the bytes
pub record IsTorn (old new : Files) (name bytes : List ℕ) : Type 0 where
  pub others : (other : List ℕ) → other ≢ name → get new other ≡ get old other
  pub this : (get new name ≡ get old name) ⊎ ((n : ℕ) × (get new name ≡ Some (take n bytes)))

-- known files are torn at most
abbrev pub Tears : Option Files → Option Files → List ℕ → List ℕ → Type 0
Tears None new name bytes = ⊤
Tears (Some fs) None name bytes = ⊥
Tears (Some fs) (Some gs) name bytes = IsTorn fs gs name bytes

-- the first bytes of the file of this name, where files are known
abbrev pub Holds : Option Files → List ℕ → ℕ → List ℕ → Type 0
Holds None name most text = ⊤
Holds (Some fs) name most text = (whole : List ℕ) × (get fs name ≡ Some whole) × (text ≡ take most whole)

-- known files have no such name
abbrev pub Lacks : Option Files → List ℕ → Type 0
Lacks None name = ⊤
Lacks (Some fs) name = get fs name ≡ None

-- a front of the bytes was appended
abbrev pub AppendsFront : Option (List ℕ) → Option (List ℕ) → List ℕ → Type 0
AppendsFront old new bytes = (n : ℕ) × Appends old new (take n bytes)
