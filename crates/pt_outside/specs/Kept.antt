-- What a shelf, a source and a sink in memory keep. Their calls are numbered from 0, and `fails` lists those that are to fail.
use Rattle.std.specs.Prelude.{ℕ, Bool, List, [], Option, Some, None, refl}
use Rattle.std.specs.declared.vec.Vec.{Vec}
use Rattle.std.specs.Coded.{Coded, code_by, coded×, coded_ℕ, coded_list}
use Rattle.std.specs.FinMap.{code}
use Rattle.pt_outside.specs.Files.{Files, File}

-- a source in memory
pub record Flow : Type 0 where
  pub left : List ℕ
  pub step : ℕ
  pub fails : List ℕ
  pub calls : ℕ
  pub faults : ℕ

-- a sink in memory
pub record Drained : Type 0 where
  pub written : List ℕ
  pub room : ℕ
  pub pushes : ℕ
  pub sent : Bool
  pub fails : List ℕ
  pub calls : ℕ
  pub faults : ℕ

-- a shelf in memory
pub record Shelved : Type 0 where
  pub files : Files
  pub fails : List ℕ
  pub calls : ℕ
  pub load_faults : ℕ
  pub store_faults : ℕ

abbrev pub files_code : Coded Files
files_code = code (coded_list coded_ℕ) (coded_list coded_ℕ)

abbrev pub shelved_code : Coded Shelved
shelved_code =
    code_by (Files × (List ℕ × (ℕ × (ℕ × ℕ)))) (coded× files_code (coded× (coded_list coded_ℕ) (coded× coded_ℕ (coded× coded_ℕ coded_ℕ))))
    (λ s. (s.files, (s.fails, (s.calls, (s.load_faults, s.store_faults)))))
    (λ p. record { files = p.0; fails = p.1.0; calls = p.1.1.0; load_faults = p.1.1.1.0; store_faults = p.1.1.1.1 })
    (λ _. refl)

-- the files of a list that may not have been made yet
abbrev pub entries_of : {Z : Type 0} → Option (Vec File Z) → List File
entries_of None = []
entries_of (Some files) = files.items
