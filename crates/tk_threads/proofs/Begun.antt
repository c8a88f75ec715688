-- What slots start with, one slot after another.
use Rattle.std.proofs.Common.{◌≡◌, ℕ, suc, ◌+◌, ◌-◌, ◌<◌, ◌≤◌, ◌==◌, if◌then◌else◌, Bool, true, false, List, [], ◌∷◌, map, take, drop, length, min, get_or, slice_index_or, Option, Some, None, refl, ap, ◌∙◌, arith}
use mathlib.Core.Path.{fun_ext}
use Rattle.std.specs.List.{range_with_len}
use Rattle.mb_isa.specs.declared.Class.TheVariants as class
use Rattle.mb_isa.specs.Costs.{cost_of}
use Rattle.pt_image.specs.declared.Parts.{Parts}
use Rattle.tk_paths.specs.declared.view.Side.TheVariants.{ToPause, ToEnd}
use Rattle.tk_paths.specs.Acceptance.{on_side}
use Rattle.tk_paths.specs.declared.view.View.{View}
use Rattle.tk_paths.specs.declared.view.View.TheVariants.{On, Value}
use Rattle.tk_paths.specs.declared.Section.{Section as KeptSection}
use Rattle.tk_paths.specs.declared.Section.TheVariants as kept
use Rattle.tk_paths.specs.Regions.{Region}
use Rattle.tk_paths.specs.Numbers.{level, entered}
use Rattle.tk_paths.specs.Programs.{Section, pair_from, ended, starts_from}
use Rattle.tk_paths.specs.Trees.{read_code, read_sections, threads_in, code_of}
use Rattle.tk_paths.specs.declared.levels.Levels.{Levels}
use Rattle.tk_numbers.specs.Charges.{routines_in}
use Rattle.tk_paths.specs.Levels.{level_in, numbers_of}
use Rattle.tk_threads.specs.Sections.{is_own, own_code, is_thread}
use Rattle.tk_numbers.specs.Routines.{read_section}
use Rattle.tk_numbers.proofs.Before.{reads_on}

-- the numbers of a thread's `end`: all levels are as the only one
level-one : (p : Option ℕ × Option ℕ) (k : ℕ) → level_in (p ∷ []) k ≡ p
level-one p k =
    let ps : List (Option ℕ × Option ℕ) = p ∷ [] in
    let e : min k (length ps - 1) ≡ 0 = omega arith in
    ap (λ n. slice_index_or ps n (None, None)) e

pub ended_is : (image : Parts) (costs : List ℕ) (l : Levels) → l.value ≡ None → l.levels ≡ (None, Some (cost_of costs class.End)) ∷ [] →
    numbers_of l ≡ ended image costs
unfolding numbers_of
ended_is image costs l v e = fun_ext by
  where
    by : (view : View) → numbers_of l view ≡ ended image costs view
    by (On ToPause k) = ap (λ ps. on_side ToPause (Some (level_in ps k))) e ∙ ap (λ p. on_side ToPause (Some p)) (level-one (None, Some (cost_of costs class.End)) k)
    by (On ToEnd k) = ap (λ ps. on_side ToEnd (Some (level_in ps k))) e ∙ ap (λ p. on_side ToEnd (Some p)) (level-one (None, Some (cost_of costs class.End)) k)
    by Value = v

own-here : (rs : List Region) (x : KeptSection) (slot : ℕ) (rest : List Section) → is_own slot x ≡ true →
    code_of slot (read_section rs x ∷ rest) ≡ own_code rs x
own-here rs (kept.OfThread t code) slot rest e = ap (λ (b : Bool). if b then read_code rs code else code_of slot rest) e
own-here rs (kept.OfRoutine r) slot rest e = cc e
own-here rs (kept.OfCondition p n q) slot rest e = cc e
own-here rs (kept.Unused n) slot rest e = cc e

own-past : (rs : List Region) (x : KeptSection) (slot : ℕ) (rest : List Section) → is_own slot x ≡ false →
    code_of slot (read_section rs x ∷ rest) ≡ code_of slot rest
own-past rs (kept.OfThread t code) slot rest e = ap (λ (b : Bool). if b then read_code rs code else code_of slot rest) e
own-past rs (kept.OfRoutine r) slot rest e = refl
own-past rs (kept.OfCondition p n q) slot rest e = refl
own-past rs (kept.Unused n) slot rest e = refl

pub code_here : (xs : List KeptSection) (i : ℕ) (d : KeptSection) (slot : ℕ) → i < length xs → is_own slot (get_or xs i d) ≡ true →
    code_of slot (read_sections (routines_in (take i xs)) (drop i xs)) ≡ own_code (routines_in (take i xs)) (get_or xs i d)
code_here xs i d slot h e =
    ap (code_of slot) (reads_on xs i d h)
    ∙ own-here (routines_in (take i xs)) (get_or xs i d) slot (read_sections (routines_in (take (i + 1) xs)) (drop (i + 1) xs)) e

pub code_past : (xs : List KeptSection) (i : ℕ) (d : KeptSection) (slot : ℕ) → i < length xs → is_own slot (get_or xs i d) ≡ false →
    code_of slot (read_sections (routines_in (take i xs)) (drop i xs))
    ≡ code_of slot (read_sections (routines_in (take (i + 1) xs)) (drop (i + 1) xs))
code_past xs i d slot h e =
    ap (code_of slot) (reads_on xs i d h)
    ∙ own-past (routines_in (take i xs)) (get_or xs i d) slot (read_sections (routines_in (take (i + 1) xs)) (drop (i + 1) xs)) e

thread-one : (rs : List Region) (x : KeptSection) (rest : List Section) →
    threads_in (read_section rs x ∷ rest) ≡ (if is_thread x then 1 else 0) + threads_in rest
thread-one rs (kept.OfThread t code) rest = omega arith
thread-one rs (kept.OfRoutine r) rest = omega arith
thread-one rs (kept.OfCondition p n q) rest = omega arith
thread-one rs (kept.Unused n) rest = omega arith

thread-more : (xs : List KeptSection) (i : ℕ) (d : KeptSection) → i < length xs →
    threads_in (read_sections (routines_in (take i xs)) (drop i xs))
    ≡ (if is_thread (get_or xs i d) then 1 else 0) + threads_in (read_sections (routines_in (take (i + 1) xs)) (drop (i + 1) xs))
thread-more xs i d h =
    ap threads_in (reads_on xs i d h)
    ∙ thread-one (routines_in (take i xs)) (get_or xs i d) (read_sections (routines_in (take (i + 1) xs)) (drop (i + 1) xs))

pub thread_there : (xs : List KeptSection) (i : ℕ) (d : KeptSection) → i < length xs → is_thread (get_or xs i d) ≡ true →
    threads_in (read_sections (routines_in (take i xs)) (drop i xs))
    ≡ 1 + threads_in (read_sections (routines_in (take (i + 1) xs)) (drop (i + 1) xs))
thread_there xs i d h e =
    thread-more xs i d h
    ∙ ap (λ b. (if b then 1 else 0) + threads_in (read_sections (routines_in (take (i + 1) xs)) (drop (i + 1) xs))) e

pub thread_past : (xs : List KeptSection) (i : ℕ) (d : KeptSection) → i < length xs → is_thread (get_or xs i d) ≡ false →
    threads_in (read_sections (routines_in (take i xs)) (drop i xs))
    ≡ threads_in (read_sections (routines_in (take (i + 1) xs)) (drop (i + 1) xs))
thread_past xs i d h e =
    let n : ℕ = threads_in (read_sections (routines_in (take (i + 1) xs)) (drop (i + 1) xs)) in
    let z : 0 + n ≡ n = omega arith in
    thread-more xs i d h ∙ ap (λ b. (if b then 1 else 0) + n) e ∙ z

-- one slot more in front
starts-more : (image : Parts) (costs : List ℕ) (sections : List Section) (s n : ℕ) (later : List (Option ℕ × Option ℕ)) (first : Option ℕ × Option ℕ) →
    later ≡ starts_from image costs (s + 1) (map (λ c. code_of c sections) (range_with_len (s + 1) n)) →
    first ≡ level (entered image costs (pair_from (s + 1) later) [] (code_of s sections) (ended image costs)) 0 →
    first ∷ later ≡ starts_from image costs s (map (λ c. code_of c sections) (range_with_len s (suc n)))
starts-more image costs sections s n later first h e =
    ap (λ p. p ∷ later) e
    ∙ ap (λ (l : List (Option ℕ × Option ℕ)). level (entered image costs (pair_from (s + 1) l) [] (code_of s sections) (ended image costs)) 0 ∷ l) h

pub starts_step : (image : Parts) (costs : List ℕ) (sections : List Section) (t slot : ℕ) (later seen : List (Option ℕ × Option ℕ)) (first : Option ℕ × Option ℕ) →
    1 ≤ slot → slot ≤ t →
    later ≡ starts_from image costs slot (map (λ c. code_of c sections) (range_with_len slot (t - slot))) → seen ≡ later →
    first ≡ level (entered image costs (pair_from ((slot - 1) + 1) seen) [] (code_of (slot - 1) sections) (ended image costs)) 0 →
    first ∷ later ≡ starts_from image costs (slot - 1) (map (λ c. code_of c sections) (range_with_len (slot - 1) (t - (slot - 1))))
starts_step image costs sections t slot later seen first low high h same e =
    let a : slot ≡ (slot - 1) + 1 = omega (arith, low) in
    let b : suc (t - slot) ≡ t - (slot - 1) = omega (arith, low, high) in
    starts-more image costs sections (slot - 1) (t - slot) later first
    (h ∙ ap (λ s. starts_from image costs s (map (λ c. code_of c sections) (range_with_len s (t - slot)))) a)
    (e ∙ ap (λ (l : List (Option ℕ × Option ℕ)). level (entered image costs (pair_from ((slot - 1) + 1) l) [] (code_of (slot - 1) sections) (ended image costs)) 0) same)
    ∙ ap (λ n. starts_from image costs (slot - 1) (map (λ c. code_of c sections) (range_with_len (slot - 1) n))) b
