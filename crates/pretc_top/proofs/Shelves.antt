-- A shelf after calls that left it as it was.
use Rattle.std.proofs.Common.{◌≡◌, ◌≤◌, ℕ, List, Option, Some, None, refl, sym, ap, subst, ◌∙◌}
use Rattle.std.specs.FinMap.{insert}
use Rattle.pt_outside.specs.Counts.{Rose}
use Rattle.pt_outside.specs.Files.{Files, KeepsFiles, Stores, Tears, Holds, Lacks}
use Rattle.pt_outside.specs.Told.{ShelfTold}
use Rattle.pretc_run.specs.declared.endings.Ending.{Ending}
use Rattle.pretc_top.specs.Loading.{IsAsBefore, IsFailedLoad, LoadFails, load_fault, no_file, load_memory}
use Rattle.pretc_top.specs.Check.{costs_most, CostsHeld, no_table, table_held}
use Rattle.pretc_top.specs.Go.{IsStored, IsFailedStore, StoreFails, store_fault, store_memory}

pub held_before : (old new : Option Files) (name : List ℕ) (most : ℕ) (text : List ℕ) → KeepsFiles old new → Holds new name most text → Holds old name most text
held_before None new name most text k h = tt
held_before (Some fs) None name most text k h = absurd k
held_before (Some fs) (Some gs) name most text k h = let P : Files → Type 0 = λ f. Holds (Some f) name most text in subst P k h

lacked_before : (old new : Option Files) (name : List ℕ) → KeepsFiles old new → Lacks new name → Lacks old name
lacked_before None new name k h = tt
lacked_before (Some fs) None name k h = absurd k
lacked_before (Some fs) (Some gs) name k h = let P : Files → Type 0 = λ f. Lacks (Some f) name in subst P k h

keeps_both : (old mid new : Option Files) → KeepsFiles old mid → KeepsFiles mid new → KeepsFiles old new
keeps_both None mid new a b = tt
keeps_both (Some fs) None new a b = absurd a
keeps_both (Some fs) (Some gs) None a b = absurd b
keeps_both (Some fs) (Some gs) (Some hs) a b = b ∙ a

stores_after : (old mid new : Option Files) (name text : List ℕ) → KeepsFiles old mid → Stores mid new name text → Stores old new name text
stores_after None mid new name text k s = tt
stores_after (Some fs) None new name text k s = absurd k
stores_after (Some fs) (Some gs) None name text k s = absurd s
stores_after (Some fs) (Some gs) (Some hs) name text k s = s ∙ ap (λ f. insert f name text) k

tears_after : (old mid new : Option Files) (name text : List ℕ) → KeepsFiles old mid → Tears mid new name text → Tears old new name text
tears_after None mid new name text k t = tt
tears_after (Some fs) None new name text k t = absurd k
tears_after (Some fs) (Some gs) None name text k t = absurd t
tears_after (Some fs) (Some gs) (Some hs) name text k t = let P : Files → Type 0 = λ f. Tears (Some f) (Some hs) name text in subst P k t

keeps_same : (files : Option Files) → KeepsFiles files files
keeps_same None = tt
keeps_same (Some fs) = refl

pub as_it_was : (shelf : ShelfTold) → IsAsBefore shelf shelf
as_it_was shelf = record { files = keeps_same shelf.files; load_faults = refl; store_faults = refl }

pub same_shelf : (old new : ShelfTold) → new ≡ old → IsAsBefore old new
same_shelf old new s = let P : ShelfTold → Type 0 = λ t. IsAsBefore old t in subst P (sym s) (as_it_was old)

pub costs_before : (old new : Option Files) (costs : List ℕ) (text : Option (List ℕ)) → KeepsFiles old new → CostsHeld new costs text → CostsHeld old costs text
costs_before old new costs _ k (no_table e) = no_table e
costs_before old new costs _ k (table_held text n h) = table_held text n (held_before old new costs costs_most text k h)

pub before_both : (old mid new : ShelfTold) → IsAsBefore old mid → IsAsBefore mid new → IsAsBefore old new
before_both old mid new a b = record {
  files = keeps_both old.files mid.files new.files a.files b.files;
  load_faults = b.load_faults ∙ a.load_faults;
  store_faults = b.store_faults ∙ a.store_faults;
}

pub stored_after : (old mid new : ShelfTold) (name text : List ℕ) → IsAsBefore old mid → IsStored name text mid new → IsStored name text old new
stored_after old mid new name text a s = record {
  stored = stores_after old.files mid.files new.files name text a.files s.stored;
  load_faults = s.load_faults ∙ a.load_faults;
  store_faults = s.store_faults ∙ a.store_faults;
}

stores_before : (old mid new : Option Files) (name text : List ℕ) → Stores old mid name text → KeepsFiles mid new → Stores old new name text
stores_before None mid new name text s k = tt
stores_before (Some fs) None new name text s k = absurd s
stores_before (Some fs) (Some gs) None name text s k = absurd k
stores_before (Some fs) (Some gs) (Some hs) name text s k = k ∙ s

pub stored_before : (old mid new : ShelfTold) (name text : List ℕ) → IsStored name text old mid → IsAsBefore mid new → IsStored name text old new
stored_before old mid new name text s a = record {
  stored = stores_before old.files mid.files new.files name text s.stored a.files;
  load_faults = a.load_faults ∙ s.load_faults;
  store_faults = a.store_faults ∙ s.store_faults;
}

pub store_fails_after : (old mid new : ShelfTold) (name text : List ℕ) (e : Ending) → IsAsBefore old mid → StoreFails name text mid new e → StoreFails name text old new e
store_fails_after old mid new name text _ a (store_fault f) =
    let P : ℕ → Type 0 = λ n. Rose n new.store_faults in
    let Q : ℕ → Type 0 = λ n. n ≤ new.store_faults in
    store_fault (record {
      rose = subst P a.store_faults f.rose;
      later = subst Q a.store_faults f.later;
      torn = tears_after old.files mid.files new.files name text a.files f.torn;
      load_faults = f.load_faults ∙ a.load_faults;
    })
store_fails_after old mid new name text _ a (store_memory b) = store_memory (before_both old mid new a b)

pub load_fails_after : (old mid new : ShelfTold) (name : List ℕ) (e : Ending) → IsAsBefore old mid → LoadFails name mid new e → LoadFails name old new e
load_fails_after old mid new name _ a (load_fault f) =
    let P : ℕ → Type 0 = λ n. Rose n new.load_faults in
    let Q : ℕ → Type 0 = λ n. n ≤ new.load_faults in
    load_fault (record {
      rose = subst P a.load_faults f.rose;
      later = subst Q a.load_faults f.later;
      files = keeps_both old.files mid.files new.files a.files f.files;
      store_faults = f.store_faults ∙ a.store_faults;
    })
load_fails_after old mid new name _ a (no_file l b) = no_file (lacked_before old.files mid.files name a.files l) (before_both old mid new a b)
load_fails_after old mid new name _ a (load_memory b) = load_memory (before_both old mid new a b)
