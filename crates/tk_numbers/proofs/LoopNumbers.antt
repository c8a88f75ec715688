-- The numbers at the `next` of a bounded loop.
use Rattle.std.proofs.Common.{◌≡◌, ◌≤◌, ◌-◌, ℕ, List, length, Option, refl, sym, ap, subst, arith}
use Rattle.pt_image.specs.declared.Parts.{Parts}
use Rattle.mb_isa.specs.declared.Class.TheVariants as class
use Rattle.tk_paths.specs.declared.view.Side.TheVariants.{ToPause, ToEnd}
use Rattle.tk_paths.specs.declared.view.View.TheVariants.{On, Value}
use Rattle.tk_paths.specs.Regions.{Region, leaving}
use Rattle.tk_paths.specs.Numbers.{Numbers, level, next_number, at_next, tested_weight, cost}
use Rattle.tk_paths.specs.declared.levels.Levels.{Levels}
use Rattle.tk_paths.specs.Levels.{numbers_of, levels_to}
use Rattle.tk_paths.specs.Faults.{IsSmall, AllSmall}
use Rattle.tk_numbers.specs.Nexts.{nexts}
use Rattle.tk_paths.proofs.LevelLaws.{told, settles, one-more}

pub nexts_level : (next out w : ℕ) (V : Numbers) (k : ℕ) →
    level (nexts next out w V) k ≡ (next_number next out w (V (On ToPause k)), next_number next out w (V (On ToEnd k)))
unfolding nexts
nexts_level next out w V k = refl

pub nexts_told : (next out w : ℕ) (behind l : Levels) (n : ℕ) → 1 ≤ n → length behind.levels ≤ n → l.levels ≡ levels_to (nexts next out w (numbers_of behind)) n →
    l.value ≡ next_number next out w behind.value → numbers_of l ≡ nexts next out w (numbers_of behind)
unfolding nexts numbers_of
nexts_told next out w behind l n h b e v =
    told l (nexts next out w (numbers_of behind)) n h e v
    (λ side k a. ap (next_number next out w) (settles behind side k (n - 1) (omega arith) (omega arith)))

pub nexts_are : (image : Parts) (costs : List ℕ) (p n at : ℕ) (body : Region) (V : Numbers) →
    nexts (cost image costs class.Next) (leaving image costs p n at) (tested_weight image costs p n at body) V ≡ at_next image costs p n at body V
unfolding nexts
nexts_are image costs p n at body V = refl

pub nexts_pause : (next out w : ℕ) (V : Numbers) (k : ℕ) (p : Option ℕ × Option ℕ) → p ≡ level V k → AllSmall (nexts next out w V) → IsSmall (next_number next out w p.0)
unfolding nexts
nexts_pause next out w V k p e h =
    let S : Option ℕ × Option ℕ → Type 0 = λ q. IsSmall (next_number next out w q.0) in subst S (sym e) (h (On ToPause k))

pub nexts_end : (next out w : ℕ) (V : Numbers) (k : ℕ) (p : Option ℕ × Option ℕ) → p ≡ level V k → AllSmall (nexts next out w V) → IsSmall (next_number next out w p.1)
unfolding nexts
nexts_end next out w V k p e h =
    let S : Option ℕ × Option ℕ → Type 0 = λ q. IsSmall (next_number next out w q.1) in subst S (sym e) (h (On ToEnd k))

pub nexts_value : (next out w : ℕ) (behind : Levels) → AllSmall (nexts next out w (numbers_of behind)) → IsSmall (next_number next out w behind.value)
unfolding nexts numbers_of
nexts_value next out w behind h = h Value

pub ruleset loop_numbers = (nexts_level, nexts_told, one-more)
