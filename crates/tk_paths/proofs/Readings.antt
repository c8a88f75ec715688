-- The equations of `read_region` and `read_code`, and where sequences end.
use Rattle.std.proofs.Common.{◌≡◌, ℕ, List, [], ◌∷◌, map, refl, sym, ap, ◌∙◌}
use Rattle.tk_paths.specs.declared.trees.Region.{Region as KeptRegion, fold-roll-Region}
use Rattle.tk_paths.specs.declared.trees.Region.TheVariants as kept_region
use Rattle.tk_paths.specs.declared.trees.Region.TheVariants.{rolls-Words, rolls-Choice, rolls-Counted, rolls-Repeated, rolls-Calling}
use Rattle.tk_paths.specs.declared.trees.Region.TheVariants.{rolls-Sequence as rolls-Parts}
use Rattle.tk_paths.specs.declared.trees.Region.TheOpen as open_region
use Rattle.tk_paths.specs.declared.trees.Code.{Code as KeptCode, fold-roll-Code}
use Rattle.tk_paths.specs.declared.trees.Code.TheVariants as kept_code
use Rattle.tk_paths.specs.declared.trees.Code.TheVariants.{rolls-Passed, rolls-Sequence, rolls-Either, rolls-Turns, rolls-Forever, rolls-Resting, rolls-Forking, rolls-Guarded}
use Rattle.tk_paths.specs.declared.trees.Code.TheOpen as open_code
use Rattle.tk_paths.specs.Regions.{Region, Words, Choice, Counted, Repeated, Calling, to}
use Rattle.tk_paths.specs.Codes.{Code, Passed, Either, Turns, Forever, Resting, Forking, Guarded, exit}
use Rattle.tk_paths.specs.Trees.{regions_from, codes_from, routine_at, region_step, read_region, code_step, read_code}

module _ (routines : List Region) where
  pub read-Words : (p n q : ℕ) → read_region routines (kept_region.Words p n q) ≡ Words p n q
  read-Words p n q = ap (read_region routines) (sym (rolls-Words p n q)) ∙ fold-roll-Region Region (region_step routines) (open_region.Words p n q)

  pub read-Parts : (parts : List KeptRegion) (q : ℕ) →
      read_region routines (kept_region.Sequence parts q) ≡ regions_from q (map (read_region routines) parts)
  read-Parts parts q =
      ap (read_region routines) (sym (rolls-Parts parts q)) ∙ fold-roll-Region Region (region_step routines) (open_region.Sequence parts q)

  pub read-Choice : (p n at : ℕ) (x y : KeptRegion) →
      read_region routines (kept_region.Choice p n at x y) ≡ Choice p n at (read_region routines x) (read_region routines y)
  read-Choice p n at x y =
      ap (read_region routines) (sym (rolls-Choice p n at x y)) ∙ fold-roll-Region Region (region_step routines) (open_region.Choice p n at x y)

  pub read-Counted : (p m n at : ℕ) (body : KeptRegion) (q : ℕ) →
      read_region routines (kept_region.Counted p m n at body q) ≡ Counted p m n at (read_region routines body) q
  read-Counted p m n at body q =
      ap (read_region routines) (sym (rolls-Counted p m n at body q))
      ∙ fold-roll-Region Region (region_step routines) (open_region.Counted p m n at body q)

  pub read-Repeated : (p m : ℕ) (body : KeptRegion) (q : ℕ) →
      read_region routines (kept_region.Repeated p m body q) ≡ Repeated p m (read_region routines body) q
  read-Repeated p m body q =
      ap (read_region routines) (sym (rolls-Repeated p m body q)) ∙ fold-roll-Region Region (region_step routines) (open_region.Repeated p m body q)

  pub read-Calling : (p f : ℕ) → read_region routines (kept_region.Calling p f) ≡ Calling p (routine_at routines p f)
  read-Calling p f =
      ap (read_region routines) (sym (rolls-Calling p f)) ∙ fold-roll-Region Region (region_step routines) (open_region.Calling p f)

  pub read-Passed : (r : KeptRegion) → read_code routines (kept_code.Passed r) ≡ Passed (read_region routines r)
  read-Passed r = ap (read_code routines) (sym (rolls-Passed r)) ∙ fold-roll-Code Code (code_step routines) (open_code.Passed r)

  pub read-Sequence : (parts : List KeptCode) (q : ℕ) →
      read_code routines (kept_code.Sequence parts q) ≡ codes_from q (map (read_code routines) parts)
  read-Sequence parts q =
      ap (read_code routines) (sym (rolls-Sequence parts q)) ∙ fold-roll-Code Code (code_step routines) (open_code.Sequence parts q)

  pub read-Either : (p n at : ℕ) (x y : KeptCode) →
      read_code routines (kept_code.Either p n at x y) ≡ Either p n at (read_code routines x) (read_code routines y)
  read-Either p n at x y =
      ap (read_code routines) (sym (rolls-Either p n at x y)) ∙ fold-roll-Code Code (code_step routines) (open_code.Either p n at x y)

  pub read-Turns : (p n at : ℕ) (body : KeptCode) (q : ℕ) →
      read_code routines (kept_code.Turns p n at body q) ≡ Turns p n at (read_code routines body) q
  read-Turns p n at body q =
      ap (read_code routines) (sym (rolls-Turns p n at body q)) ∙ fold-roll-Code Code (code_step routines) (open_code.Turns p n at body q)

  pub read-Forever : (body : KeptCode) (q : ℕ) → read_code routines (kept_code.Forever body q) ≡ Forever (read_code routines body) q
  read-Forever body q =
      ap (read_code routines) (sym (rolls-Forever body q)) ∙ fold-roll-Code Code (code_step routines) (open_code.Forever body q)

  pub read-Resting : (p : ℕ) → read_code routines (kept_code.Resting p) ≡ Resting p
  read-Resting p = ap (read_code routines) (sym (rolls-Resting p)) ∙ fold-roll-Code Code (code_step routines) (open_code.Resting p)

  pub read-Forking : (p lo n : ℕ) → read_code routines (kept_code.Forking p lo n) ≡ Forking p lo n
  read-Forking p lo n =
      ap (read_code routines) (sym (rolls-Forking p lo n)) ∙ fold-roll-Code Code (code_step routines) (open_code.Forking p lo n)

  pub read-Guarded : (p j : ℕ) (body : KeptCode) → read_code routines (kept_code.Guarded p j body) ≡ Guarded p j (read_code routines body)
  read-Guarded p j body =
      ap (read_code routines) (sym (rolls-Guarded p j body)) ∙ fold-roll-Code Code (code_step routines) (open_code.Guarded p j body)

pub ruleset region_reads = (read-Words, read-Parts, read-Choice, read-Counted, read-Repeated, read-Calling)

pub ruleset code_reads = (read-Passed, read-Sequence, read-Either, read-Turns, read-Forever, read-Resting, read-Forking, read-Guarded)

-- a sequence ends at the place behind its last part
pub sequence-ends : (q : ℕ) (rs : List Region) → to (regions_from q rs) ≡ q
sequence-ends q [] = refl
sequence-ends q (r ∷ rs) = sequence-ends q rs

pub codes-end : (q : ℕ) (cs : List Code) → exit (codes_from q cs) ≡ q
codes-end q [] = refl
codes-end q (c ∷ cs) = codes-end q cs
