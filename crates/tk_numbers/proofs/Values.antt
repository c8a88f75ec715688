-- What routines cost, by their numbers.
use Rattle.std.proofs.Common.{◌≡◌, ℕ, List, [], ◌∷◌, map, zero, suc, ◌+◌, slice_index_or, refl, ap, sym, ◌∙◌}
use Rattle.pt_image.specs.declared.Parts.{Parts}
use Rattle.tk_paths.specs.declared.Region.{Region as Kept}
use Rattle.tk_paths.specs.declared.Region.TheVariants as kept
use Rattle.tk_paths.specs.declared.Region.TheVariants.{Sequence}
use Rattle.tk_paths.specs.Regions.{Region, Choice, Counted, Repeated, to, through}
use Rattle.tk_paths.specs.Trees.{regions_from, read_region, routine_at}
use Rattle.tk_paths.proofs.Readings.{read-Parts, read-Choice, read-Counted, read-Repeated, sequence-ends}

-- the cost at a number is that of the routine
pub value_is : (image : Parts) (costs : List ℕ) (routines : List Region) (p f : ℕ) →
    slice_index_or (map (through image costs) routines) f 0 ≡ through image costs (routine_at routines p f)
value_is image costs [] p zero = refl
value_is image costs [] p (suc f) = refl
value_is image costs (r ∷ routines) p zero = refl
value_is image costs (r ∷ routines) p (suc f) = value_is image costs routines p f

-- a sequence in memory, by its parts
pub parts_read : (routines : List Region) (r : Kept) (parts all : List Kept) (q : ℕ) → r ≡ Sequence parts q → all ≡ parts →
    read_region routines r ≡ regions_from q (map (read_region routines) all)
parts_read routines r parts all q e a =
    ap (read_region routines) e ∙ read-Parts routines parts q ∙ ap (λ ps. regions_from q (map (read_region routines) ps)) (sym a)

pub sequence_to : (routines : List Region) (r : Kept) (parts : List Kept) (q : ℕ) → r ≡ Sequence parts q → q ≡ to (read_region routines r)
sequence_to routines r parts q e =
    sym (ap to (parts_read routines r parts parts q e refl) ∙ sequence-ends q (map (read_region routines) parts))

-- the other regions in memory, by what they are made of
pub choice_read : (routines : List Region) (r x y first second : Kept) (p n at : ℕ) → r ≡ kept.Choice p n at x y → first ≡ x → second ≡ y →
    read_region routines r ≡ Choice p n at (read_region routines first) (read_region routines second)
choice_read routines r x y first second p n at e ex ey =
    ap (read_region routines) e ∙ read-Choice routines p n at x y
    ∙ ap (λ (z : Kept). Choice p n at (read_region routines z) (read_region routines y)) (sym ex)
    ∙ ap (λ (z : Kept). Choice p n at (read_region routines first) (read_region routines z)) (sym ey)

pub counted_read : (routines : List Region) (r b body : Kept) (p m n at q : ℕ) → r ≡ kept.Counted p m n at b q → body ≡ b →
    read_region routines r ≡ Counted p m n at (read_region routines body) q
counted_read routines r b body p m n at q e eb =
    ap (read_region routines) e ∙ read-Counted routines p m n at b q ∙ ap (λ (z : Kept). Counted p m n at (read_region routines z) q) (sym eb)

pub repeated_read : (routines : List Region) (r b body : Kept) (p m q : ℕ) → r ≡ kept.Repeated p m b q → body ≡ b →
    read_region routines r ≡ Repeated p m (read_region routines body) q
repeated_read routines r b body p m q e eb =
    ap (read_region routines) e ∙ read-Repeated routines p m b q ∙ ap (λ (z : Kept). Repeated p m (read_region routines z) q) (sym eb)
