-- What acceptance says of the places of an image.
use Rattle.std.proofs.Common.{◌≡◌, ◌≤◌, ◌<◌, ◌+◌, ◌==◌, ℕ, ℤ, zero, suc, Bool, true, false, not, nat_le, if◌then◌else◌, List, [], ◌∷◌, ◌++◌, map, flat_map, reverse, length, Option, Some, None, option_map, refl, sym, ap, ◌∙◌, subst, ⊎_elim, arith, eqb-true, eq-eqb, add-one}
use Rattle.std.proofs.lemmas.Bool.{and_parts, false≢true, both_ways, not-true, cases_lt}
use Rattle.std.proofs.lemmas.List.{get_or_past}
use Rattle.std.proofs.lemmas.Option.{none-some, same_Some}
use Rattle.std.specs.List.{list_all}
use Rattle.mb_isa.specs.declared.Instr.{Instr}
use Rattle.mb_isa.specs.declared.Instr.TheVariants as instr
use Rattle.pt_image.specs.declared.Point.{Point}
use Rattle.pt_image.specs.declared.Parts.{Parts}
use Rattle.mb_isa.specs.Words.{is_barred}
use Rattle.tk_cert.specs.declared.cert.Line.{Line}
use Rattle.tk_cert.specs.declared.cert.Line.TheVariants as line
use Rattle.tk_cert.specs.declared.cert.CertParts.{CertParts}
use Rattle.tk_cert.specs.Shapes.{IsShaped}
use Rattle.tk_cert.specs.Demands.{Demand, shape_demand, AllHold}
use Rattle.tk_paths.specs.declared.word.Word.{Word}
use Rattle.tk_paths.specs.declared.word.Word.TheVariants.{Imm}
use Rattle.tk_paths.specs.Words.{word_of, instr_at, read_instr}
use Rattle.tk_paths.specs.Kinds.{line_at, is_thread, loops_of, upper_behind, upper_at, word_at, word_in, places_of, start_of, points_at, asked_by_aborts, asked_by_word, asked_from_line, asked_from, asked, is_asked}
use Rattle.tk_paths.specs.Shape.{may_follow, keeps_kind, word_is_shaped, says_well, line_is_shaped, pause_is_shaped, fork_is_shaped, place_is_shaped, shape, apart}
use Rattle.tk_paths.specs.Acceptance.{edges, pauses, forks, resuming, bounded}
use Rattle.tk_paths.proofs.Inner.{Image}
use Rattle.tk_paths.proofs.Conditions.{Cert, Bare, Thread, Routine, IsBare}
use Rattle.tk_paths.proofs.Lists.{IsAmong, all-left, all-right, all-map, among-range, passes-any, index-among, three_parts}
use Rattle.tk_paths.proofs.Accepts.{Accepts, Holding, among-left, among-right, among-flat}
use Rattle.tk_paths.proofs.Carried.{kind_of, image_of, cert_of, le-true}

abbrev pub IsSpoken : Line → Type 0
IsSpoken line.Bare = ⊥
IsSpoken other = Unit {0}

-- the upper half behind a word
abbrev pub upper_of : Word → Option ℤ
upper_of (Imm upper) = Some upper
upper_of other = None

upper-instr : (image : Parts) (place : ℕ) (up : Option ℤ) (line : Line) (i : Instr) → IsSpoken line → upper_behind line (Some i) ≡ upper_of (word_of image place up i)
upper-instr image place up line.Bare i s = absurd s
upper-instr image place up (line.Thread t a l v) (instr.Imm imm) s = refl
upper-instr image place up (line.Thread t a l v) other s = refl
upper-instr image place up (line.Routine g l v) (instr.Imm imm) s = refl
upper-instr image place up (line.Routine g l v) other s = refl
upper-instr image place up (line.Cond v) (instr.Imm imm) s = refl
upper-instr image place up (line.Cond v) other s = refl

upper-read : (image : Parts) (place : ℕ) (up : Option ℤ) (line : Line) (o : Option Instr) (w : Word) → IsSpoken line → read_instr image place up o ≡ Some w → upper_behind line o ≡ upper_of w
upper-read image place up line None w s e = absurd (none-some w e)
upper-read image place up line (Some i) w s e = by (is_barred up i) e
  where
    by : (b : Bool) → (if b then None else Some (word_of image place up i)) ≡ Some w → upper_behind line (Some i) ≡ upper_of w
    by true q = absurd (none-some w q)
    by false q = upper-instr image place up line i s ∙ ap upper_of (same_Some (word_of image place up i) w q)

-- a word that is read is what its instruction comes to
in-word : (image : Parts) (place : ℕ) (up : Option ℤ) (o : Option Instr) (w : Word) → read_instr image place up o ≡ Some w → option_map (word_of image place up) o ≡ Some w
in-word image place up None w e = absurd (none-some w e)
in-word image place up (Some i) w e = by (is_barred up i) e
  where
    by : (b : Bool) → (if b then None else Some (word_of image place up i)) ≡ Some w → Some (word_of image place up i) ≡ Some w
    by true q = absurd (none-some w q)
    by false q = q

upper-word : (line : Line) (o : Option Instr) (u : ℤ) → upper_behind line o ≡ Some u → IsSpoken line × (o ≡ Some (instr.Imm u))
upper-word line.Bare o u h = absurd (none-some u h)
upper-word (line.Thread t a l v) None u h = absurd (none-some u h)
upper-word (line.Thread t a l v) (Some (instr.Imm imm)) u h = (tt, ap (λ x. Some (instr.Imm x)) (same_Some imm u h))
upper-word (line.Thread t a l v) (Some other) u h = absurd (none-some u h)
upper-word (line.Routine g l v) None u h = absurd (none-some u h)
upper-word (line.Routine g l v) (Some (instr.Imm imm)) u h = (tt, ap (λ x. Some (instr.Imm x)) (same_Some imm u h))
upper-word (line.Routine g l v) (Some other) u h = absurd (none-some u h)
upper-word (line.Cond v) None u h = absurd (none-some u h)
upper-word (line.Cond v) (Some (instr.Imm imm)) u h = (tt, ap (λ x. Some (instr.Imm x)) (same_Some imm u h))
upper-word (line.Cond v) (Some other) u h = absurd (none-some u h)

pub spoken-of : (line : Line) → (IsBare (kind_of line) → ⊥) → IsSpoken line × (length (loops_of line) ≤ 8)
spoken-of line.Bare h = absurd (h tt)
spoken-of (line.Thread s a l v) h = (tt, by (nat_le (length l) 8) refl h)
  where
    by : (b : Bool) → nat_le (length l) 8 ≡ b → (IsBare (if b then Thread s a (reverse l) else Bare) → ⊥) → length l ≤ 8
    by true e k = le-true (length l) 8 e
    by false e k = absurd (k tt)
spoken-of (line.Routine g l v) h = (tt, by (nat_le (length l) 8) refl h)
  where
    by : (b : Bool) → nat_le (length l) 8 ≡ b → (IsBare (if b then Routine g (reverse l) else Bare) → ⊥) → length l ≤ 8
    by true e k = le-true (length l) 8 e
    by false e k = absurd (k tt)
spoken-of (line.Cond v) h = (tt, omega arith)

spoken-bare : (x : Line) → IsSpoken x → x ≡ line.Bare → ⊥
spoken-bare x s e = subst IsSpoken e s

module _ (image : Parts) (cert : CertParts) (costs : List ℕ) (a : Accepts image cert costs) where
  abbrev pub I : Image
  I = image_of image costs

  abbrev pub C : Cert
  C = cert_of image cert costs

  abbrev pub at_line : ℕ → Line
  at_line place = line_at cert.lines place

  abbrev to5 : List Demand
  to5 = shape image cert ++ apart image ++ edges image cert costs ++ pauses image cert costs ++ forks image cert costs

  hold6 : AllHold (to5 ++ resuming image cert costs)
  hold6 = all-left Holding (to5 ++ resuming image cert costs) (bounded image cert costs) a.hold

  hold5 : AllHold to5
  hold5 = all-left Holding to5 (resuming image cert costs) hold6

  hold4 : AllHold (shape image cert ++ apart image ++ edges image cert costs ++ pauses image cert costs)
  hold4 = all-left Holding (shape image cert ++ apart image ++ edges image cert costs ++ pauses image cert costs) (forks image cert costs) hold5

  hold3 : AllHold (shape image cert ++ apart image ++ edges image cert costs)
  hold3 = all-left Holding (shape image cert ++ apart image ++ edges image cert costs) (pauses image cert costs) hold4

  hold2 : AllHold (shape image cert ++ apart image)
  hold2 = all-left Holding (shape image cert ++ apart image) (edges image cert costs) hold3

  pub shape-holds : AllHold (shape image cert)
  shape-holds = all-left Holding (shape image cert) (apart image) hold2

  pub apart-holds : AllHold (apart image)
  apart-holds = all-right Holding (shape image cert) (apart image) hold2

  pub edges-hold : AllHold (edges image cert costs)
  edges-hold = all-right Holding (shape image cert ++ apart image) (edges image cert costs) hold3

  pub pauses-hold : AllHold (pauses image cert costs)
  pauses-hold = all-right Holding (shape image cert ++ apart image ++ edges image cert costs) (pauses image cert costs) hold4

  pub forks-hold : AllHold (forks image cert costs)
  forks-hold = all-right Holding (shape image cert ++ apart image ++ edges image cert costs ++ pauses image cert costs) (forks image cert costs) hold5

  pub resuming-holds : AllHold (resuming image cert costs)
  resuming-holds = all-right Holding to5 (resuming image cert costs) hold6

  pub bounded-holds : AllHold (bounded image cert costs)
  bounded-holds = all-right Holding (to5 ++ resuming image cert costs) (bounded image cert costs) a.hold

  pub among-places : (place : ℕ) → place < length image.code → IsAmong place (places_of image)
  among-places place inside = among-range 0 (length image.code) place (omega arith) (omega (arith, inside))

  pub place-shaped : (place : ℕ) → place < length image.code → place_is_shaped image cert place ≡ true
  place-shaped place inside = all-map Holding (λ p. shape_demand 1 p (place_is_shaped image cert p)) (places_of image) place shape-holds.1 (among-places place inside)

  pub fit-parts : (length cert.lines ≡ length image.code) × (is_thread 0 [] [] (at_line (start_of image 0)) ≡ true)
  fit-parts =
      let p = three_parts (length cert.lines == length image.code) (length cert.slot_bounds == length image.slots) (is_thread 0 [] [] (at_line (start_of image 0))) shape-holds.0 in
      (eqb-true (length cert.lines) (length image.code) p.0, p.2)

  pub inside-spoken : (place : ℕ) → IsSpoken (at_line place) → place < length image.code
  inside-spoken place s =
      let same = fit-parts.0 in
      ⊎_elim (λ below. omega (arith, same, below)) (λ past. absurd (spoken-bare (at_line place) s (get_or_past cert.lines place line.Bare past))) (cases_lt place (length cert.lines))

  line-parts : (place : ℕ) (line : Line) → IsSpoken line → line_is_shaped image cert place line ≡ true → (says_well image cert line ≡ true) × (word_is_shaped image cert place line (word_at image cert.lines place) ≡ true)
  line-parts place line.Bare s h = absurd s
  line-parts place (line.Thread t b l v) s h = and_parts (says_well image cert (line.Thread t b l v)) (word_is_shaped image cert place (line.Thread t b l v) (word_at image cert.lines place)) h
  line-parts place (line.Routine g l v) s h = and_parts (says_well image cert (line.Routine g l v)) (word_is_shaped image cert place (line.Routine g l v) (word_at image cert.lines place)) h
  line-parts place (line.Cond v) s h = and_parts (says_well image cert (line.Cond v)) (word_is_shaped image cert place (line.Cond v) (word_at image cert.lines place)) h

  pub place-parts : (place : ℕ) → place < length image.code → (list_all (pause_is_shaped image cert) (points_at image.pauses place) ≡ true) × (list_all (fork_is_shaped image cert) (points_at image.forks place) ≡ true) × (line_is_shaped image cert place (at_line place) ≡ true)
  place-parts place inside = three_parts (list_all (pause_is_shaped image cert) (points_at image.pauses place)) (list_all (fork_is_shaped image cert) (points_at image.forks place)) (line_is_shaped image cert place (at_line place)) (place-shaped place inside)

  pub spoken-shaped : (place : ℕ) → IsSpoken (at_line place) → (says_well image cert (at_line place) ≡ true) × (word_is_shaped image cert place (at_line place) (word_at image cert.lines place) ≡ true)
  spoken-shaped place s = line-parts place (at_line place) s (place-parts place (inside-spoken place s)).2

  -- the word behind an `imm` word that is asked by no other place
  imm-shaped : (place : ℕ) (line : Line) (u : ℤ) (o : Option ℤ) → word_is_shaped image cert place line (if is_barred o (instr.Imm u) then None else Some (Imm u)) ≡ true → is_asked image cert.lines (place + 1) ≡ false
  imm-shaped place line u None h =
      not-true (is_asked image cert.lines (place + 1)) (three_parts (keeps_kind image cert line (place + 1)) (may_follow (instr_at image (place + 1))) (not (is_asked image cert.lines (place + 1))) h).2
  imm-shaped place line u (Some x) h = absurd (false≢true h)

  unasked : (before : ℕ) (u : ℤ) → upper_behind (at_line before) (instr_at image before) ≡ Some u → is_asked image cert.lines (before + 1) ≡ false
  unasked before u h =
      let p = upper-word (at_line before) (instr_at image before) u h in
      let W : Option Instr → Type 0 = λ o. word_is_shaped image cert before (at_line before) (read_instr image before (upper_at image cert.lines before) o) ≡ true in
      imm-shaped before (at_line before) u (upper_at image cert.lines before) (subst W p.1 (spoken-shaped before p.0).1)

  plain-by : (before : ℕ) (o : Option ℤ) → upper_behind (at_line before) (instr_at image before) ≡ o → is_asked image cert.lines (suc before) ≡ true → o ≡ None
  plain-by before None e h = refl
  plain-by before (Some u) e h = let A : ℕ → Type 0 = λ p. is_asked image cert.lines p ≡ false in absurd (both_ways (is_asked image cert.lines (suc before)) (subst A (add-one before) (unasked before u e)) h)

  plain : (place : ℕ) → is_asked image cert.lines place ≡ true → upper_at image cert.lines place ≡ None
  plain zero h = refl
  plain (suc before) h = plain-by before (upper_behind (at_line before) (instr_at image before)) refl h

  pub asked-plain : (place : ℕ) → IsAmong place (asked image cert.lines) → upper_at image cert.lines place ≡ None
  asked-plain place h = plain place (passes-any (λ goal. goal == place) (asked image cert.lines) place h (eq-eqb place place refl))

  from-plain : (place goal : ℕ) (line : Line) → at_line place ≡ line → IsSpoken line → IsAmong goal (asked_by_aborts image line ++ asked_by_word image line (word_in image cert.lines place)) → IsAmong goal (asked_from_line image cert.lines place line)
  from-plain place goal line.Bare e s h = absurd s
  from-plain place goal (line.Thread t b l v) e s h = h
  from-plain place goal (line.Routine g l v) e s h = h
  from-plain place goal (line.Cond v) e s h = h

  place-plain : (place goal : ℕ) → IsSpoken (at_line place) → IsAmong goal (asked_by_aborts image (at_line place) ++ asked_by_word image (at_line place) (word_in image cert.lines place)) → upper_at image cert.lines goal ≡ None
  place-plain place goal s h =
      asked-plain goal (among-right goal (start_of image 0 ∷ map (λ (p : Point). p.at) image.pauses ++ map (λ (p : Point). p.at) image.forks) (flat_map (asked_from image cert.lines) (places_of image))
      (among-flat (asked_from image cert.lines) place goal (places_of image) (among-places place (inside-spoken place s)) (from-plain place goal (at_line place) refl s h)))

  -- the places to which a word leads, and those of the aborts of a line, are read with no upper half
  pub goal-plain : (place goal : ℕ) (line : Line) (w : Word) → at_line place ≡ line → IsSpoken line → word_at image cert.lines place ≡ Some w → IsAmong goal (asked_by_word image line (Some w)) → upper_at image cert.lines goal ≡ None
  goal-plain place goal line w e s q h =
      let A : Line → Option Word → Type 0 = λ x o. IsAmong goal (asked_by_word image x o) in
      let h' : IsAmong goal (asked_by_word image (at_line place) (word_in image cert.lines place)) = subst (λ x. A x (word_in image cert.lines place)) (sym e) (subst (A line) (sym (in-word image place (upper_at image cert.lines place) (instr_at image place) w q)) h) in
      place-plain place goal (subst IsSpoken (sym e) s) (among-right goal (asked_by_aborts image (at_line place)) (asked_by_word image (at_line place) (word_in image cert.lines place)) h')

  pub abort-plain : (place goal : ℕ) (line : Line) → at_line place ≡ line → IsSpoken line → IsAmong goal (asked_by_aborts image line) → upper_at image cert.lines goal ≡ None
  abort-plain place goal line e s h =
      let A : Line → Type 0 = λ x. IsAmong goal (asked_by_aborts image x) in
      place-plain place goal (subst IsSpoken (sym e) s) (among-left goal (asked_by_aborts image (at_line place)) (asked_by_word image (at_line place) (word_in image cert.lines place)) (subst A (sym e) h))

  -- the upper half behind a word
  pub next-upper : (place : ℕ) (line : Line) (w : Word) → at_line place ≡ line → IsSpoken line → word_at image cert.lines place ≡ Some w → upper_at image cert.lines (place + 1) ≡ upper_of w
  next-upper place line w e s q =
      let U : ℕ → Type 0 = λ p. upper_at image cert.lines p ≡ upper_of w in
      subst U (sym (add-one place)) (upper-read image place (upper_at image cert.lines place) (at_line place) (instr_at image place) w (subst IsSpoken (sym e) s) q)

  pub shaped-at : (place : ℕ) → IsShaped (at_line place)
  shaped-at place = index-among IsShaped cert.lines place line.Bare a.cert_is.lines tt
