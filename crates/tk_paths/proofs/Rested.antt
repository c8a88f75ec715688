-- Greatest numbers reach what pauses and forks ask, where the shape holds.
use Rattle.std.proofs.Common.{◌≡◌, ◌≤◌, ◌<◌, ◌+◌, ◌++◌, ◌==◌, ◌&&◌, ℤ, ℕ, zero, suc, not, Bool, true, false, if◌then◌else◌, List, [], flat_map, length, Option, Some, None, refl, sym, ap, ◌∙◌, subst, ⊎_elim, arith}
use Rattle.std.proofs.lemmas.Bool.{false≢true, and_parts}
use Rattle.std.proofs.lemmas.Bool.Decides.{nat_tests}
use Rattle.std.proofs.lemmas.Option.{none-some, same_Some}
use Rattle.std.specs.List.{list_all, range_with_len}
use Rattle.mb_isa.specs.declared.Instr.{Instr}
use Rattle.mb_isa.specs.declared.Instr.TheVariants as instr
use Rattle.mb_isa.specs.declared.Class.TheVariants as class
use Rattle.mb_isa.specs.Classes.{takes_upper}
use Rattle.mb_isa.specs.Costs.{cost_of}
use Rattle.pt_image.specs.declared.Parts.{Parts}
use Rattle.pt_image.specs.Listed.{same_numbers}
use Rattle.tk_cert.specs.declared.cert.Line.{Line}
use Rattle.tk_cert.specs.declared.cert.Line.TheVariants as line
use Rattle.tk_cert.specs.declared.cert.CertParts.{CertParts}
use Rattle.tk_cert.specs.Shapes.{IsShaped, IsCert}
use Rattle.tk_cert.specs.Demands.{Demand, shape_demand, at_least, AllHold}
use Rattle.tk_paths.specs.declared.view.Side.{Side}
use Rattle.tk_paths.specs.declared.view.Side.TheVariants.{ToPause, ToEnd}
use Rattle.tk_paths.specs.declared.word.Word.{Word}
use Rattle.tk_paths.specs.declared.word.Word.TheVariants.{Eot, Fork}
use Rattle.tk_paths.specs.Sums.{plus, greater, all_ends, most_paused}
use Rattle.tk_paths.specs.Words.{instr_at, word_of, read_instr}
use Rattle.tk_paths.specs.Kinds.{line_at, is_thread, upper_at, word_at, places_of, points_at}
use Rattle.tk_paths.specs.Shape.{pause_is_shaped, fork_is_shaped, line_is_shaped, place_is_shaped, says_well, word_is_shaped, shape}
use Rattle.tk_paths.specs.Acceptance.{levels_of, levels, begins, more, pause_handlers, pause_at_level, word_pauses, pauses, fork_ends, fork_handlers, fork_at_level, word_forks, forks}
use Rattle.tk_paths.proofs.Lists.{IsAmong, all-map, index-among, three_parts}
use Rattle.tk_paths.proofs.Accepts.{nothing}
use Rattle.tk_paths.specs.Reached.{IsOpen}
use Rattle.tk_paths.specs.Greatest.{stays, num, handlers, resting, grouping, IsGreatestWith, IsGreatest}
use Rattle.tk_paths.proofs.Lines.{numbers-same}
use Rattle.tk_paths.proofs.Covered.{Covers, holds-of, through, greater-left, greater-right, more-covers, plus-covers, staying, all-append, all-flat-in, Holding, weak-hold}

range-among : (n low k : ℕ) → IsAmong k (range_with_len low n) → (low ≤ k) × (k < low + n)
range-among zero low k h = absurd h
range-among (suc n) low k h =
    ⊎_elim (λ e. (omega (arith, e), omega (arith, e))) (λ x. let r = range-among n (low + 1) k x in ((let a = r.0 in omega (arith, a)), (let b = r.1 in omega (arith, b)))) h

-- only a pause word is read as one, and with no upper half
abbrev is_eot : Option Word → Bool
is_eot (Some Eot) = true
is_eot other = false

abbrev is_fork : Option Word → Bool
is_fork (Some (Fork lo n)) = true
is_fork other = false

module _ (image : Parts) where
  eot-is : (place : ℕ) (o : Option Instr) → is_eot (read_instr image place None o) ≡ true → o ≡ Some instr.Eot
  eot-is place None h = absurd (false≢true h)
  eot-is place (Some instr.Eot) h = refl
  eot-is place (Some (instr.Bri imm)) h = absurd (false≢true h)
  eot-is place (Some other) h = absurd (false≢true h)

  eot-plain : (place : ℕ) (upper : Option ℤ) (o : Option Instr) → read_instr image place upper o ≡ Some Eot → (upper ≡ None) × (o ≡ Some instr.Eot)
  eot-plain place None o h = (refl, eot-is place o (ap is_eot h))
  eot-plain place (Some u) None h = absurd (none-some Eot h)
  eot-plain place (Some u) (Some i) h = absurd (told i (ap is_eot h))
    where
      told : (i : Instr) → is_eot (if not (takes_upper i) then None else Some (word_of image place (Some u) i)) ≡ true → ⊥
      told instr.Eot k = false≢true k
      told other k = false≢true k

  fork-is : (place lo n : ℕ) (o : Option Instr) → read_instr image place None o ≡ Some (Fork lo n) → o ≡ Some (instr.Fork lo n)
  fork-is place lo n None h = absurd (none-some (Fork lo n) h)
  fork-is place lo n (Some (instr.Fork i m)) h = cc
  fork-is place lo n (Some other) h = absurd (false≢true (ap is_fork h))

  fork-plain : (place lo n : ℕ) (upper : Option ℤ) (o : Option Instr) → read_instr image place upper o ≡ Some (Fork lo n) → (upper ≡ None) × (o ≡ Some (instr.Fork lo n))
  fork-plain place lo n None o h = (refl, fork-is place lo n o h)
  fork-plain place lo n (Some u) None h = absurd (none-some (Fork lo n) h)
  fork-plain place lo n (Some u) (Some i) h = absurd (told i (ap is_fork h))
    where
      told : (i : Instr) → is_fork (if not (takes_upper i) then None else Some (word_of image place (Some u) i)) ≡ true → ⊥
      told (instr.Fork j m) k = false≢true k
      told other k = false≢true k

module _ (image : Parts) (cert : CertParts) (costs : List ℕ) (g : IsGreatest image cert costs) where
  -- a place of a thread inside no loop that is read with no upper half
  open-place : (place s : ℕ) (a l : List ℕ) (v : List (Option ℕ × Option ℕ)) → line_at cert.lines place ≡ line.Thread s a l v → l ≡ [] → upper_at image cert.lines place ≡ None → IsOpen image cert costs place s a
  open-place place s a l v e none plain =
      let same : (s == s) ≡ true = grind (arith, nat_tests) in (
        ap (is_thread s a []) e ∙ ap (λ b. b && same_numbers a a && same_numbers l []) same ∙ ap (λ b. b && same_numbers l []) (numbers-same a) ∙ ap (λ x. same_numbers x []) none,
        plain,
      )

  -- the pause itself
  pause-covers : (c : ℕ) (w : Option ℕ) → Covers (more c (greater (stays ToPause) w)) (Some c)
  pause-covers c w n e =
      let z = greater-left (Some 0) w 0 refl in
      let s : c ≡ n = same_Some c n e in
      (c + z.0, ap (more c) z.1, omega (arith, s))

  pause-level : (place s : ℕ) (a : List ℕ) (k : ℕ) → ((side : Side) → num image cert costs side k place ≡ more (cost_of costs class.Eot) (resting image cert costs a k side)) → AllHold (pause_at_level image cert costs place a k)
  pause-level place s a k are =
      let c = cost_of costs class.Eot in
      let w : Side → Option ℕ = λ side. handlers image cert costs side 0 a k in
      let handled : (side : Side) → AllHold (pause_handlers image cert costs place a k side) = λ side.
      let C : Option ℕ → Type 0 = λ o. Covers o (more c (w side)) in
      weak-hold image cert costs 4 place k (num image cert costs side k place) (λ o. more c o) (λ x y f. more-covers c x y f) side 0 a k
      (subst C (sym (are side)) (more-covers c (greater (stays side) (w side)) (w side) (greater-right (stays side) (w side)))) in
      let P : Option ℕ → Type 0 = λ o. Covers o (Some c) in
      let pause = holds-of 4 place k (num image cert costs ToPause k place) (Some c) (subst P (sym (are ToPause)) (pause-covers c (w ToPause))) in
      let A = at_least 4 place k (num image cert costs ToPause k place) (Some c) in
      all-append Holding (A ++ pause_handlers image cert costs place a k ToPause) (pause_handlers image cert costs place a k ToEnd) (all-append Holding A (pause_handlers image cert costs place a k ToPause) pause (handled ToPause)) (handled ToEnd)

  fork-level : (place s lo n : ℕ) (a : List ℕ) (k : ℕ) → ((side : Side) → num image cert costs side k place ≡ more (cost_of costs class.Fork) (grouping image cert costs place lo n a k side)) → AllHold (fork_at_level image cert costs place a lo n k)
  fork-level place s lo n a k are =
      let c = cost_of costs class.Fork in
      let m = most_paused (begins image cert costs) lo n in
      let w : Side → Option ℕ = λ side. handlers image cert costs side 0 a k in
      let r : Side → Option ℕ = λ side. greater (stays side) (w side) in
      let e : Side → Option ℕ = λ side. plus (all_ends (begins image cert costs) lo n) (num image cert costs side k (place + 1)) in
      let whole : Side → Option ℕ = λ side. greater (plus m (r side)) (e side) in
      let rest : (side : Side) → Covers (num image cert costs side k place) (more c (plus m (r side))) = λ side.
      let C : Option ℕ → Type 0 = λ o. Covers o (more c (plus m (r side))) in
      subst C (sym (are side)) (more-covers c (whole side) (plus m (r side)) (greater-left (plus m (r side)) (e side))) in
      let ends : (side : Side) → AllHold (fork_ends image cert costs place lo n k side) = λ side.
      let C : Option ℕ → Type 0 = λ o. Covers o (more c (e side)) in
      holds-of 5 place k (num image cert costs side k place) (more c (e side)) (subst C (sym (are side)) (more-covers c (whole side) (e side) (greater-right (plus m (r side)) (e side)))) in
      let handled : (side : Side) → AllHold (fork_handlers image cert costs place a lo n k side) = λ side.
      weak-hold image cert costs 5 place k (num image cert costs side k place) (λ o. more c (plus m o)) (λ x y f. more-covers c (plus m x) (plus m y) (plus-covers m x y f)) side 0 a k
      (through (num image cert costs side k place) (more c (plus m (r side))) (more c (plus m (w side))) (rest side) (more-covers c (plus m (r side)) (plus m (w side)) (plus-covers m (r side) (w side) (greater-right (stays side) (w side))))) in
      let stay = holds-of 5 place k (num image cert costs ToPause k place) (more c m)
      (through (num image cert costs ToPause k place) (more c (plus m (r ToPause))) (more c m) (rest ToPause) (more-covers c (plus m (r ToPause)) m (staying m (w ToPause)))) in
      let A = fork_ends image cert costs place lo n k ToPause in
      let B = at_least 5 place k (num image cert costs ToPause k place) (more c m) in
      let G = fork_handlers image cert costs place a lo n k ToPause in
      let H = fork_ends image cert costs place lo n k ToEnd in
      let I = fork_handlers image cert costs place a lo n k ToEnd in
      all-append Holding (A ++ B ++ G ++ H) I
      (all-append Holding (A ++ B ++ G) H (all-append Holding (A ++ B) G (all-append Holding A B (ends ToPause) stay) (handled ToPause)) (ends ToEnd)) (handled ToEnd)

  -- each level of a line
  each-level : (f : ℕ → List Demand) (x : Line) (a : List ℕ) → length (levels_of x) ≡ length a + 1 → ((k : ℕ) → k ≤ length a → AllHold (f k)) → AllHold (flat_map f (levels x))
  each-level f x a size h =
      all-flat-in Holding f (levels x)
      (λ k among. let r = range-among (length (levels_of x)) 0 k among in h k (let b = r.1 in omega (arith, b, size)))

  word-pauses : (place : ℕ) (x : Line) → line_at cert.lines place ≡ x → IsShaped x → (w : Option Word) → word_at image cert.lines place ≡ w → line_is_shaped image cert place x ≡ true → AllHold (word_pauses image cert costs place x w)
  word-pauses place line.Bare e sized (Some Eot) word shaped = tt
  word-pauses place (line.Routine h l v) e sized (Some Eot) word shaped = tt
  word-pauses place (line.Cond v) e sized (Some Eot) word shaped = tt
  word-pauses place (line.Thread s a l v) e sized (Some Eot) word shaped =
      let x = line.Thread s a l v in
      let y : word_is_shaped image cert place x (Some Eot) ≡ true = ap (word_is_shaped image cert place x) (sym word) ∙ (and_parts (says_well image cert x) (word_is_shaped image cert place x (word_at image cert.lines place)) shaped).1 in
      let none = nothing l (and_parts (length l == 0) _ y).0 in
      let plain = eot-plain image place (upper_at image cert.lines place) (instr_at image place) word in
      let W : Option Instr → Type 0 = λ o. IsGreatestWith image cert costs o place s a in
      let are = subst W plain.1 (g.place place s a (open-place place s a l v e none plain.0)) in
      each-level (pause_at_level image cert costs place a) x a sized (λ k within. pause-level place s a k (λ side. are side k within))
  word-pauses place x e sized None word shaped = tt
  word-pauses place x e sized (Some other) word shaped = tt

  word-forks : (place : ℕ) (x : Line) → line_at cert.lines place ≡ x → IsShaped x → (w : Option Word) → word_at image cert.lines place ≡ w → line_is_shaped image cert place x ≡ true → AllHold (word_forks image cert costs place x w)
  word-forks place line.Bare e sized (Some (Fork lo n)) word shaped = tt
  word-forks place (line.Routine h l v) e sized (Some (Fork lo n)) word shaped = tt
  word-forks place (line.Cond v) e sized (Some (Fork lo n)) word shaped = tt
  word-forks place (line.Thread s a l v) e sized (Some (Fork lo n)) word shaped =
      let x = line.Thread s a l v in
      let y : word_is_shaped image cert place x (Some (Fork lo n)) ≡ true = ap (word_is_shaped image cert place x) (sym word) ∙ (and_parts (says_well image cert x) (word_is_shaped image cert place x (word_at image cert.lines place)) shaped).1 in
      let none = nothing l (and_parts (length l == 0) _ y).0 in
      let plain = fork-plain image place lo n (upper_at image cert.lines place) (instr_at image place) word in
      let W : Option Instr → Type 0 = λ o. IsGreatestWith image cert costs o place s a in
      let are = subst W plain.1 (g.place place s a (open-place place s a l v e none plain.0)) in
      each-level (fork_at_level image cert costs place a lo n) x a sized (λ k within. fork-level place s lo n a k (λ side. are side k within))
  word-forks place x e sized None word shaped = tt
  word-forks place x e sized (Some other) word shaped = tt

  -- the shape that holds says it of each place
  shaped-at : AllHold (shape image cert) → (place : ℕ) → IsAmong place (places_of image) → line_is_shaped image cert place (line_at cert.lines place) ≡ true
  shaped-at h place among =
      let here : place_is_shaped image cert place ≡ true = all-map Holding (λ q. shape_demand 1 q (place_is_shaped image cert q)) (places_of image) place h.1 among in
      (three_parts (list_all (pause_is_shaped image cert) (points_at image.pauses place)) (list_all (fork_is_shaped image cert) (points_at image.forks place)) (line_is_shaped image cert place (line_at cert.lines place)) here).2

  pub rests-covered : IsCert cert → AllHold (shape image cert) → AllHold (pauses image cert costs ++ forks image cert costs)
  rests-covered fits h =
      let sized : (place : ℕ) → IsShaped (line_at cert.lines place) = λ place. index-among IsShaped cert.lines place line.Bare fits.lines tt in
      all-append Holding (pauses image cert costs) (forks image cert costs)
      (all-flat-in Holding (λ place. word_pauses image cert costs place (line_at cert.lines place) (word_at image cert.lines place)) (places_of image)
      (λ place among. word-pauses place (line_at cert.lines place) refl (sized place) (word_at image cert.lines place) refl (shaped-at h place among)))
      (all-flat-in Holding (λ place. word_forks image cert costs place (line_at cert.lines place) (word_at image cert.lines place)) (places_of image)
      (λ place among. word-forks place (line_at cert.lines place) refl (sized place) (word_at image cert.lines place) refl (shaped-at h place among)))
