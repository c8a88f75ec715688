-- What acceptance says of an image as a whole: the conditions of which the bound is proved.
use Rattle.std.proofs.Common.{◌≡◌, ◌≤◌, ◌<◌, ◌+◌, ◌&&◌, ◌||◌, ◌==◌, ◌⊎◌, ℕ, zero, suc, Bool, true, false, not, nat_le, nat_lt, if◌then◌else◌, List, [], ◌∷◌, ◌++◌, map, flat_map, reverse, length, slice_get, slice_index_or, is_some, Option, Some, None, refl, sym, ap, ◌∙◌, subst, inl, inr, ⊎_elim, arith, eqb-true, eq-eqb}
use Rattle.std.proofs.lemmas.Bool.{and_parts, or_cases, false≢true, both_ways, not-true, cases_eq}
use Rattle.std.proofs.lemmas.Bool.Decides.{nat_tests}
use Rattle.std.proofs.lemmas.List.{length-reverse}
use Rattle.std.proofs.lemmas.Option.{none-some, same_Some}
use Rattle.std.specs.List.{list_all, range_with_len}
use Rattle.mb_isa.specs.declared.Instr.{Instr}
use Rattle.mb_isa.specs.declared.Instr.TheVariants as instr
use Rattle.pt_image.specs.declared.Point.{Point}
use Rattle.pt_image.specs.declared.AbortLine.{AbortLine}
use Rattle.pt_image.specs.declared.Parts.{Parts}
use Rattle.pt_image.specs.Ranges.{IsPoint}
use Rattle.pt_image.specs.Listed.{is_listed, is_point, same_numbers}
use Rattle.mb_isa.specs.Tick.{base_of}
use Rattle.tk_cert.specs.declared.cert.Line.{Line}
use Rattle.tk_cert.specs.declared.cert.Line.TheVariants as line
use Rattle.tk_cert.specs.declared.cert.CertParts.{CertParts}
use Rattle.tk_cert.specs.Shapes.{IsShaped}
use Rattle.tk_cert.specs.Demands.{Demand, shape_demand, AllHold}
use Rattle.tk_paths.specs.declared.view.Side.{Side}
use Rattle.tk_paths.specs.declared.view.Side.TheVariants.{ToPause, ToEnd}
use Rattle.tk_paths.specs.Sums.{plus, greater, or_zero, resumed_ends, resumed_paused, greatest}
use Rattle.tk_paths.specs.declared.word.Word.{Word}
use Rattle.tk_paths.specs.declared.word.Word.TheVariants.{Fork}
use Rattle.tk_paths.specs.Words.{word_of, instr_at, read_instr, read}
use Rattle.tk_paths.specs.Kinds.{line_at, is_thread, is_cond, upper_at, word_at, places_of, start_of, abort_at, points_at, places_of_abort, no_abort, asked_by_aborts, asked_from}
use Rattle.tk_paths.specs.Shape.{has_number, word_is_shaped, aborts_are_shaped, says_well, pause_is_shaped, fork_is_shaped, apart, is_pause_word, is_fork_word, children_in, children_at, meet, earlier, is_apart}
use Rattle.tk_paths.specs.declared.view.View.TheVariants.{On}
use Rattle.tk_paths.specs.Acceptance.{number_in, views_of, more, number, value, resumed, begins, strong_handlers, conditions, word_edges, line_edges, word_pauses, word_forks, resumes, resumed_strong, pause_resumes, resumed_handlers, resumed_join, has_resumed, fork_resumes, on_side}
use Rattle.tk_paths.proofs.Inner.{Image}
use Rattle.tk_paths.proofs.Conditions.{Cert, Bare, Thread, Routine, IsBare, Pays, IsPlain, IsAt, AreAborts, IsThreadFine}
use Rattle.tk_paths.proofs.BySums.{Asks, EachWeak, EachStrong, IsFineWritten, StrongPay, IsPauseWritten, ForkResumes, HasResumed, IsForkWritten, IsAcceptedWritten}
use Rattle.tk_paths.proofs.Lists.{IsAmong, any-passes, all-left, all-right, all-flat, all-map, among-range, all-passes, passes-any, three_parts, all-among}
use Rattle.tk_paths.proofs.Accepts.{Accepts, Holding, among-left, among-right, among-flat, among-map, among-filter, asks-of}
use Rattle.tk_paths.proofs.Places.{IsSpoken, spoken-of, I, C, apart-holds, edges-hold, pauses-hold, forks-hold, resuming-holds, bounded-holds, among-places, fit-parts, inside-spoken, place-parts, spoken-shaped, asked-plain, abort-plain, shaped-at}
use Rattle.tk_paths.proofs.Fine.{some-there, weak-each, both, Here, fine}
use Rattle.tk_paths.proofs.Carried.{kind_of, same-list, lt-true, le-true, thread-kind, cond-kind}

level-some : (v : List (Option ℕ × Option ℕ)) (k : ℕ) → k < length v → list_all has_number v ≡ true → (side : Side) × (n : ℕ) × (on_side side (slice_get v k) ≡ Some n)
level-some [] k h t = absurd (omega (arith, h))
level-some (x ∷ v) zero h t =
    let p = and_parts (has_number x) (list_all has_number v) t in
    ⊎_elim (λ e. let n = some-there x.0 e in (ToPause, n.0, n.1)) (λ e. let n = some-there x.1 e in (ToEnd, n.0, n.1)) (or_cases (is_some x.0) (is_some x.1) p.0)
level-some (x ∷ v) (suc k) h t = level-some v k (omega (arith, h)) (and_parts (has_number x) (list_all has_number v) t).1

pub abort-there : (aborts : List AbortLine) (j : ℕ) → j < length aborts → (l : AbortLine) × (slice_get aborts j ≡ Some l) × (slice_index_or aborts j no_abort ≡ l)
abort-there [] j h = absurd (omega (arith, h))
abort-there (l ∷ aborts) zero h = (l, refl, refl)
abort-there (l ∷ aborts) (suc j) h = abort-there aborts j (omega (arith, h))

pause-word : (o : Option Instr) → is_pause_word o ≡ true → o ≡ Some instr.Eot
pause-word None h = absurd (false≢true h)
pause-word (Some instr.Eot) h = refl
pause-word (Some other) h = absurd (false≢true h)

fork-word : (o : Option Instr) → is_fork_word o ≡ true → (lo n : ℕ) × (o ≡ Some (instr.Fork lo n))
fork-word None h = absurd (false≢true h)
fork-word (Some (instr.Fork lo n)) h = (lo, n, refl)
fork-word (Some other) h = absurd (false≢true h)

abbrev fork_of : Word → ℕ × ℕ
fork_of (Fork lo n) = (lo, n)
fork_of other = (0, 0)

children-instr : (image : Parts) (place : ℕ) (i : Instr) → children_in (Some i) ≡ fork_of (word_of image place None i)
children-instr image place (instr.Fork lo n) = refl
children-instr image place other = refl

children-read : (image : Parts) (place : ℕ) (o : Option Instr) (lo n : ℕ) → read_instr image place None o ≡ Some (Fork lo n) → children_in o ≡ (lo, n)
children-read image place None lo n h = absurd (none-some (Fork lo n) h)
children-read image place (Some i) lo n h = children-instr image place i ∙ ap fork_of (same_Some (word_of image place None i) (Fork lo n) h)

-- one of two listed places stands before the other
abbrev Before : List Point → ℕ → ℕ → Type 0
Before points x y = (r : Point) × IsAmong r (earlier points y) × (r.at ≡ x)

abbrev IsIn : List Point → ℕ → Type 0
IsIn points x = (p : Point) × IsAmong p points × (p.at ≡ x)

in-tail : (z : Point) (points : List Point) (x : ℕ) → (z.at == x) ≡ false → IsIn (z ∷ points) x → IsIn points x
in-tail z points x e h = ⊎_elim (λ same. absurd (both_ways (z.at == x) e (eq-eqb z.at x (ap (λ (p : Point). p.at) same ∙ h.2)))) (λ later. (h.0, later, h.2)) h.1

before-first : (z : Point) (points : List Point) (x y : ℕ) → z.at ≡ x → (z.at == y) ≡ false → Before (z ∷ points) x y
before-first z points x y e f = let A : Bool → Type 0 = λ b. IsAmong z (if b then [] else z ∷ earlier points y) in (z, subst A (sym f) (inl refl), e)

before-later : (z : Point) (points : List Point) (x y : ℕ) → (z.at == y) ≡ false → Before points x y → Before (z ∷ points) x y
before-later z points x y f h = let A : Bool → Type 0 = λ b. IsAmong h.0 (if b then [] else z ∷ earlier points y) in (h.0, subst A (sym f) (inr h.1), h.2)

ordered : (points : List Point) (x y : ℕ) → (x ≡ y → ⊥) → IsIn points x → IsIn points y → Before points x y ⊎ Before points y x
ordered [] x y apart h k = absurd h.1
ordered (z ∷ points) x y apart h k =
    by (z.at == x) (z.at == y) refl refl (λ h' k'. ordered points x y apart h' k')
  where
    by : (b c : Bool) → (z.at == x) ≡ b → (z.at == y) ≡ c → (IsIn points x → IsIn points y → Before points x y ⊎ Before points y x) → Before (z ∷ points) x y ⊎ Before (z ∷ points) y x
    by true true e f more = absurd (apart (sym (eqb-true z.at x e) ∙ eqb-true z.at y f))
    by true false e f more = inl (before-first z points x y (eqb-true z.at x e) f)
    by false true e f more = inr (before-first z points y x (eqb-true z.at y f) e)
    by false false e f more = ⊎_elim (λ r. inl (before-later z points x y f r)) (λ r. inr (before-later z points y x e r)) (more (in-tail z points x e h) (in-tail z points y f k))

greatest-least : (l : List (Option ℕ)) (n : ℕ) → IsAmong (Some n) l → n ≤ greatest l
greatest-least [] n h = absurd h
greatest-least (o ∷ l) n h = ⊎_elim (λ e. first o e) (λ e. later o (greatest-least l n e)) h
  where
    first : (p : Option ℕ) → p ≡ Some n → n ≤ or_zero (greater p (Some (greatest l)))
    first None e = absurd (none-some n e)
    first (Some m) e = let s : m ≡ n = same_Some m n e in grind (arith, nat_tests, s)

    later : (p : Option ℕ) → n ≤ greatest l → n ≤ or_zero (greater p (Some (greatest l)))
    later None e = e
    later (Some m) e = grind (arith, nat_tests, e)

module _ (image : Parts) (cert : CertParts) (costs : List ℕ) (a : Accepts image cert costs) where
  abbrev E : Image
  E = I image cert costs a

  abbrev D : Cert
  D = C image cert costs a

  is-start : IsAt E D (start_of image 0) (Thread 0 [] [])
  is-start = (thread-kind (line_at cert.lines (start_of image 0)) 0 [] [] (fit-parts image cert costs a).1 (omega arith), asked-plain image cert costs a (start_of image 0) (inl refl))

  aborts-fine : (place : ℕ) (line : Line) (s : ℕ) (outside whole b : List ℕ) → line_at cert.lines place ≡ line → IsSpoken line → asked_by_aborts image line ≡ flat_map (λ j. places_of_abort (slice_get image.aborts j)) whole →
      ((j : ℕ) → IsAmong j b → IsAmong j whole) → aborts_are_shaped image cert s outside b ≡ true → AreAborts E D s outside b
  aborts-fine place line s outside whole [] e sp q sub h = tt
  aborts-fine place line s outside whole (j ∷ b) e sp q sub h =
      let cond = (abort_at image j).cond in
      let handler = (abort_at image j).handler in
      let isc = is_cond (line_at cert.lines cond) in
      let ish = is_thread s outside [] (line_at cert.lines handler) in
      let outer = and_parts (nat_lt j (length image.aborts) && isc && ish) (aborts_are_shaped image cert s (outside ++ j ∷ []) b) h in
      let p = three_parts (nat_lt j (length image.aborts)) isc ish outer.0 in
      let l = abort-there image.aborts j (lt-true j (length image.aborts) p.0) in
      let f : ℕ → List ℕ = λ z. places_of_abort (slice_get image.aborts z) in
      let A : Option AbortLine → Type 0 = λ o. (IsAmong cond (places_of_abort o)) × IsAmong handler (places_of_abort o) in
      let m : A (slice_get image.aborts j) = subst A (sym l.1) (inl (sym (ap (λ (x : AbortLine). x.cond) l.2)), inr (inl (sym (ap (λ (x : AbortLine). x.handler) l.2)))) in
      let F : (goal : ℕ) → IsAmong goal (f j) → IsPlain E D goal =
      λ goal k. abort-plain image cert costs a place goal line e sp (let L : List ℕ → Type 0 = IsAmong goal in subst L (sym q) (among-flat f j goal whole (sub j (inl refl)) k)) in (
        (cond-kind (line_at cert.lines cond) p.1, F cond m.0),
        (thread-kind (line_at cert.lines handler) s outside [] p.2 (omega arith), F handler m.1),
        aborts-fine place line s (outside ++ j ∷ []) whole b e sp q (λ z k. sub z (inr k)) outer.1,
      )

  thread-by : (place : ℕ) (line : Line) → line_at cert.lines place ≡ line → IsShaped line → (IsSpoken line → says_well image cert line ≡ true) → IsThreadFine E D place (kind_of line)
  thread-by place line.Bare e sh well = tt
  thread-by place (line.Thread s b l v) e sh well = by (nat_le (length l) 8) refl
    where
      number-there : (k : ℕ) → k ≤ length b → (side : Side) × (n : ℕ) × (D.number side k place ≡ Some n)
      number-there k within =
          let w = three_parts (nat_lt s (length image.slots)) (aborts_are_shaped image cert s [] b) (list_all has_number v) (well tt) in
          let size : length v ≡ length b + 1 = sh in
          let n = level-some v k (omega (arith, within, size)) w.2 in
          (n.0, n.1, ap (λ x. number_in (On n.0 k) x) e ∙ n.2)

      by : (t : Bool) → nat_le (length l) 8 ≡ t → IsThreadFine E D place (if t then Thread s b (reverse l) else Bare)
      by false q = tt
      by true q =
          let few = le-true (length l) 8 q in
          let w = three_parts (nat_lt s (length image.slots)) (aborts_are_shaped image cert s [] b) (list_all has_number v) (well tt) in
          (aborts-fine place (line.Thread s b l v) s [] b b e tt refl (λ j k. k) w.1, (let z = length-reverse l in omega (arith, z, few)), λ k within. number-there k within)
  thread-by place (line.Routine g l v) e sh well = by (nat_le (length l) 8) refl
    where
      by : (t : Bool) → nat_le (length l) 8 ≡ t → IsThreadFine E D place (if t then Routine g (reverse l) else Bare)
      by false q = tt
      by true q = let few = le-true (length l) 8 q in let z = length-reverse l in (omega (arith, z, few), sh.1)
  thread-by place (line.Cond v) e sh well = tt

  thread-fine : (place : ℕ) → IsThreadFine E D place (kind_of (line_at cert.lines place))
  thread-fine place = thread-by place (line_at cert.lines place) refl (shaped-at image cert costs a place) (λ s. (spoken-shaped image cert costs a place s).0)

  word-there : (place : ℕ) (line : Line) (o : Option Word) → word_is_shaped image cert place line o ≡ true → (w : Word) × (o ≡ Some w)
  word-there place line None h = absurd (false≢true h)
  word-there place line (Some w) h = (w, refl)

  place-fine : (place : ℕ) → (IsBare (kind_of (line_at cert.lines place)) → ⊥) → (w : Word) × (read image place (upper_at image cert.lines place) ≡ Some w) × IsFineWritten E D place (kind_of (line_at cert.lines place)) w
  place-fine place there =
      let line = line_at cert.lines place in
      let sp = spoken-of line there in
      let st = (spoken-shaped image cert costs a place sp.0).1 in
      let w = word-there place line (word_at image cert.lines place) st in
      let inside = among-places image cert costs a place (inside-spoken image cert costs a place sp.0) in
      let S : Option Word → Type 0 = λ o. word_is_shaped image cert place line o ≡ true in
      let ed : AllHold (line_edges image cert costs place line) = all-flat Holding (λ p. line_edges image cert costs p (line_at cert.lines p)) (places_of image) place (edges-hold image cert costs a) inside in
      let P : Option Word → Type 0 = λ o. AllHold (word_pauses image cert costs place line o) in
      let F : Option Word → Type 0 = λ o. AllHold (word_forks image cert costs place line o) in
      let h : Here image cert costs a place line w.0 = record {
        line_is = refl;
        spoken = sp.0;
        few = sp.1;
        shaped = shaped-at image cert costs a place;
        word = w.1;
        stands = subst S w.1 st;
        edged = λ view among.
            let V : Option Word → Type 0 = λ o. AllHold (word_edges image cert costs place line view o) in
            subst V w.1 (all-flat Holding (λ v. word_edges image cert costs place line v (word_at image cert.lines place)) (views_of line) view ed among);
        paused = subst P w.1 (all-flat Holding (λ p. word_pauses image cert costs p (line_at cert.lines p) (word_at image cert.lines p)) (places_of image) place (pauses-hold image cert costs a) inside);
        forked = subst F w.1 (all-flat Holding (λ p. word_forks image cert costs p (line_at cert.lines p) (word_at image cert.lines p)) (places_of image) place (forks-hold image cert costs a) inside);
      } in
      (w.0, w.1, fine image cert costs a place line w.0 h)

  strong-each : (f : ℕ → ℕ → ℕ → List Demand) (P : ℕ → ℕ → ℕ → Type 0) → ((sum i h : ℕ) → AllHold (f sum i h) → P sum i h) → (sum i : ℕ) (b : List ℕ) → AllHold (strong_handlers image cert costs f sum i b) → EachStrong E D P sum i b
  strong-each f P each sum i [] h = tt
  strong-each f P each sum i (j ∷ b) h =
      let w = (abort_at image j).weak in
      let handler = (abort_at image j).handler in
      let more = sum + value image cert costs ((abort_at image j).cond) in
      let A : Bool → Type 0 = λ x. AllHold (if x then [] else f more i handler) in (
        λ e. each more i handler (subst A e (all-left Holding (if w then [] else f more i handler) (strong_handlers image cert costs f more (i + 1) b) h)),
        strong-each f P each more (i + 1) b (all-right Holding (if w then [] else f more i handler) (strong_handlers image cert costs f more (i + 1) b) h),
      )

  strong-pay : (p : Point) (side : Side) → AllHold (resumed_strong image cert costs p side) → StrongPay E D p.slot p.stack side
  strong-pay p side h =
      strong-each (λ sum i handler. resumes image cert costs p side (more sum (number image cert costs (On side i) handler))) (λ sum i h. Asks (D.resumed side p.slot) (plus (Some sum) (D.number side i h)))
      (λ sum i h x. asks-of 6 p.at 0 (resumed image cert costs side p.slot) (more sum (number image cert costs (On side i) h)) x) 0 0 p.stack h

  -- a listed point
  point-of : (points : List Point) (at s : ℕ) (b : List ℕ) → is_listed points at s b ≡ true → (p : Point) × IsAmong p points × (p.at ≡ at) × (p.slot ≡ s) × (p.stack ≡ b)
  point-of points at s b h =
      let w = any-passes (is_point at s b) points h in
      let p = w.which in
      let q = three_parts (p.at == at) (p.slot == s) (same_numbers p.stack b) w.passes in
      (p, w.among, eqb-true p.at at q.0, eqb-true p.slot s q.1, same-list p.stack b q.2)

  abbrev early : List ℕ
  early = start_of image 0 ∷ map (λ (p : Point). p.at) image.pauses

  pause-plain : (p : Point) → IsAmong p image.pauses → IsPlain E D p.at
  pause-plain p h =
      let f : Point → ℕ = λ (x : Point). x.at in
      asked-plain image cert costs a p.at
      (among-left p.at (early ++ map (λ (x : Point). x.at) image.forks) (flat_map (asked_from image cert.lines) (places_of image)) (among-left p.at early (map (λ (x : Point). x.at) image.forks) (inr (among-map f p image.pauses h))))

  fork-plain : (p : Point) → IsAmong p image.forks → IsPlain E D p.at
  fork-plain p h =
      let f : Point → ℕ = λ (x : Point). x.at in
      asked-plain image cert costs a p.at
      (among-left p.at (early ++ map (λ (x : Point). x.at) image.forks) (flat_map (asked_from image cert.lines) (places_of image)) (among-right p.at early (map (λ (x : Point). x.at) image.forks) (among-map f p image.forks h)))

  at-place : (points : List Point) (p : Point) → IsAmong p points → IsAmong p (points_at points p.at)
  at-place points p h = among-filter (λ (x : Point). x.at == p.at) p points h (eq-eqb p.at p.at refl)

  abbrev both_pauses : Point → List Demand
  both_pauses p = pause_resumes image cert costs p ToPause ++ pause_resumes image cert costs p ToEnd

  abbrev fork_at_place : ℕ → Point → List Demand
  fork_at_place place p = fork_resumes image cert costs p ((children_at image place).0) ((children_at image place).1)

  resumed-at : (place : ℕ) → place < length image.code → AllHold (flat_map both_pauses (points_at image.pauses place) ++ flat_map (fork_at_place place) (points_at image.forks place))
  resumed-at place inside =
      all-flat Holding (λ place. flat_map both_pauses (points_at image.pauses place) ++ flat_map (fork_at_place place) (points_at image.forks place)) (places_of image) place (resuming-holds image cert costs a)
      (among-places image cert costs a place inside)

  pause-written : (p : Point) → IsAmong p image.pauses → IsPauseWritten E D p.at p.slot p.stack
  pause-written p h =
      let inside : p.at < length image.code = (all-among (IsPoint image) image.pauses p a.image_is.pauses.1 h).0 in
      let here = at-place image.pauses p h in
      let sh = and_parts (is_pause_word (instr_at image p.at)) (is_thread p.slot p.stack [] (line_at cert.lines p.at))
      (all-passes (pause_is_shaped image cert) (points_at image.pauses p.at) p (place-parts image cert costs a p.at inside).0 here) in
      let two = all-flat Holding both_pauses (points_at image.pauses p.at) p (all-left Holding (flat_map both_pauses (points_at image.pauses p.at)) (flat_map (fork_at_place p.at) (points_at image.forks p.at)) (resumed-at p.at inside)) here in
      let x = pause_resumes image cert costs p ToPause in
      let y = pause_resumes image cert costs p ToEnd in
      let last : Side → Option ℕ = λ side. more (conditions image cert costs 0 p.stack) (number image cert costs (On side (length p.stack)) (p.at + 1)) in
      let st : Side → List Demand = resumed_strong image cert costs p in
      let be : Side → List Demand = λ side. resumes image cert costs p side (last side) in
      let hx : AllHold x = all-left Holding x y two in
      let hy : AllHold y = all-right Holding x y two in
      record {
        word = ap (read_instr image p.at None) (pause-word (instr_at image p.at) sh.0);
        plain = pause-plain p h;
        line = thread-kind (line_at cert.lines p.at) p.slot p.stack [] sh.1 (omega arith);
        strong = both image cert costs a (StrongPay E D p.slot p.stack) (strong-pay p ToPause (all-left Holding (st ToPause) (be ToPause) hx)) (strong-pay p ToEnd (all-left Holding (st ToEnd) (be ToEnd) hy));
        behind = both image cert costs a (λ side. Asks (D.resumed side p.slot) (last side))
            (asks-of 6 p.at 0 (resumed image cert costs ToPause p.slot) (last ToPause) (all-right Holding (st ToPause) (be ToPause) hx))
            (asks-of 6 p.at 0 (resumed image cert costs ToEnd p.slot) (last ToEnd) (all-right Holding (st ToEnd) (be ToEnd) hy));
      }

  pause-fine : (at s : ℕ) (b : List ℕ) → is_listed image.pauses at s b ≡ true → IsPauseWritten E D at s b
  pause-fine at s b h =
      let p = point-of image.pauses at s b h in
      let W : ℕ → ℕ → List ℕ → Type 0 = IsPauseWritten E D in
      subst (λ x. W x s b) p.2 (subst (λ x. W p.0.at x b) p.3 (subst (λ x. W p.0.at p.0.slot x) p.4 (pause-written p.0 p.1)))

  some-resumed : (lo n : ℕ) → HasResumed E D lo n → has_resumed image cert costs lo n ≡ true
  some-resumed lo n h =
      passes-any (λ child. is_some (resumed image cert costs ToPause child) || is_some (resumed image cert costs ToEnd child)) (range_with_len lo n) h.0 (among-range lo n h.0 h.3 h.4) (by h.1 h.5)
    where
      or-true : (x : Bool) → x || true ≡ true
      or-true true = refl
      or-true false = refl

      by : (side : Side) → D.resumed side h.0 ≡ Some h.2 → is_some (resumed image cert costs ToPause h.0) || is_some (resumed image cert costs ToEnd h.0) ≡ true
      by ToPause e = ap (λ o. is_some o || is_some (resumed image cert costs ToEnd h.0)) e
      by ToEnd e = ap (λ o. is_some (resumed image cert costs ToPause h.0) || is_some o) e ∙ or-true (is_some (resumed image cert costs ToPause h.0))

  fork-resumed : (p : Point) (lo n : ℕ) → AllHold (fork_resumes image cert costs p lo n) → HasResumed E D lo n → ForkResumes E D p.at p.slot p.stack lo n
  fork-resumed p lo n h has =
      let st : Side → List Demand = resumed_strong image cert costs p in
      let jn : Side → List Demand = λ side. resumed_join image cert costs p lo n side in
      let hd : Side → List Demand = λ side. resumed_handlers image cert costs p lo n side in
      let total = conditions image cert costs 0 p.stack in
      let g = resumed_paused (resumed image cert costs) lo n in
      let it = resumes image cert costs p ToPause (more total g) in
      let A : Bool → Type 0 = λ t. AllHold (if t then st ToPause ++ jn ToPause ++ it ++ hd ToPause ++ st ToEnd ++ jn ToEnd ++ hd ToEnd else []) in
      let h7 : AllHold (st ToPause ++ jn ToPause ++ it ++ hd ToPause ++ st ToEnd ++ jn ToEnd ++ hd ToEnd) = subst A (some-resumed lo n has) h in
      let h6 = all-left Holding (st ToPause ++ jn ToPause ++ it ++ hd ToPause ++ st ToEnd ++ jn ToEnd) (hd ToEnd) h7 in
      let h5 = all-left Holding (st ToPause ++ jn ToPause ++ it ++ hd ToPause ++ st ToEnd) (jn ToEnd) h6 in
      let h4 = all-left Holding (st ToPause ++ jn ToPause ++ it ++ hd ToPause) (st ToEnd) h5 in
      let h3 = all-left Holding (st ToPause ++ jn ToPause ++ it) (hd ToPause) h4 in
      let h2 = all-left Holding (st ToPause ++ jn ToPause) it h3 in
      let last : Side → Option ℕ = λ side. more total (plus (resumed_ends (resumed image cert costs) lo n) (number image cert costs (On side (length p.stack)) (p.at + 1))) in
      record {
        strong = both image cert costs a (StrongPay E D p.slot p.stack) (strong-pay p ToPause (all-left Holding (st ToPause) (jn ToPause) h2))
            (strong-pay p ToEnd (all-right Holding (st ToPause ++ jn ToPause ++ it ++ hd ToPause) (st ToEnd) h5));
        ends = both image cert costs a (λ side. Asks (D.resumed side p.slot) (last side))
            (asks-of 6 p.at 0 (resumed image cert costs ToPause p.slot) (last ToPause) (all-right Holding (st ToPause) (jn ToPause) h2))
            (asks-of 6 p.at 0 (resumed image cert costs ToEnd p.slot) (last ToEnd) (all-right Holding (st ToPause ++ jn ToPause ++ it ++ hd ToPause ++ st ToEnd) (jn ToEnd) h6));
        itself = asks-of 6 p.at 0 (resumed image cert costs ToPause p.slot) (more total g) (all-right Holding (st ToPause ++ jn ToPause) it h3);
        handlers = both image cert costs a (λ side. EachWeak E D (λ i h. Asks (D.resumed side p.slot) (plus (Some total) (plus g (D.number side i h)))) 0 p.stack (length p.stack))
            (handled p lo n ToPause (all-right Holding (st ToPause ++ jn ToPause ++ it) (hd ToPause) h4))
            (handled p lo n ToEnd (all-right Holding (st ToPause ++ jn ToPause ++ it ++ hd ToPause ++ st ToEnd ++ jn ToEnd) (hd ToEnd) h7));
      }
    where
      handled : (p : Point) (lo n : ℕ) (side : Side) → AllHold (resumed_handlers image cert costs p lo n side) →
          EachWeak E D (λ i h. Asks (D.resumed side p.slot) (plus (Some (conditions image cert costs 0 p.stack)) (plus (resumed_paused (resumed image cert costs) lo n) (D.number side i h)))) 0 p.stack (length p.stack)
      handled p lo n side h =
          let total = conditions image cert costs 0 p.stack in
          let g = resumed_paused (resumed image cert costs) lo n in
          weak-each image cert costs a (λ i handler. resumes image cert costs p side (more total (plus g (number image cert costs (On side i) handler))))
          (λ i h. Asks (D.resumed side p.slot) (plus (Some total) (plus g (D.number side i h))))
          (λ i h x. asks-of 6 p.at 0 (resumed image cert costs side p.slot) (more total (plus g (number image cert costs (On side i) h))) x) 0 p.stack (length p.stack) h

  fork-written : (p : Point) → IsAmong p image.forks → IsForkWritten E D p.at p.slot p.stack
  fork-written p h =
      let inside : p.at < length image.code = (all-among (IsPoint image) image.forks p a.image_is.forks.1 h).0 in
      let here = at-place image.forks p h in
      let sh = and_parts (is_fork_word (instr_at image p.at)) (is_thread p.slot p.stack [] (line_at cert.lines p.at))
      (all-passes (fork_is_shaped image cert) (points_at image.forks p.at) p (place-parts image cert costs a p.at inside).1 here) in
      let f = fork-word (instr_at image p.at) sh.0 in
      let kids : children_at image p.at ≡ (f.0, f.1) = ap children_in f.2 in
      let one = all-flat Holding (fork_at_place p.at) (points_at image.forks p.at) p (all-right Holding (flat_map both_pauses (points_at image.pauses p.at)) (flat_map (fork_at_place p.at) (points_at image.forks p.at)) (resumed-at p.at inside)) here in
      let K : ℕ × ℕ → Type 0 = λ k. AllHold (fork_resumes image cert costs p k.0 k.1) in
      record {
        lo = f.0;
        count = f.1;
        word = ap (read_instr image p.at None) f.2;
        plain = fork-plain p h;
        line = thread-kind (line_at cert.lines p.at) p.slot p.stack [] sh.1 (omega arith);
        resumes = λ has. fork-resumed p f.0 f.1 (subst K kids one) has;
      }

  fork-fine : (at s : ℕ) (b : List ℕ) → is_listed image.forks at s b ≡ true → IsForkWritten E D at s b
  fork-fine at s b h =
      let p = point-of image.forks at s b h in
      let W : ℕ → ℕ → List ℕ → Type 0 = IsForkWritten E D in
      subst (λ x. W x s b) p.2 (subst (λ x. W p.0.at x b) p.3 (subst (λ x. W p.0.at p.0.slot x) p.4 (fork-written p.0 p.1)))

  -- the forks
  fork-apart : (at s : ℕ) (b : List ℕ) → is_listed image.forks at s b ≡ true → IsIn image.forks at × (is_apart image at ≡ true)
  fork-apart at s b h =
      let p = point-of image.forks at s b h in
      let inside : p.0.at < length image.code = (all-among (IsPoint image) image.forks p.0 a.image_is.forks.1 p.1).0 in
      let F : ℕ → List Demand = λ place. map (λ (x : Point). shape_demand 2 place (is_apart image place)) (points_at image.forks place) in
      let m = all-flat Holding F (places_of image) p.0.at (apart-holds image cert costs a) (among-places image cert costs a p.0.at inside) in
      let e = all-map Holding (λ (x : Point). shape_demand 2 p.0.at (is_apart image p.0.at)) (points_at image.forks p.0.at) p.0 m (at-place image.forks p.0 p.1) in
      let A : ℕ → Type 0 = λ x. is_apart image x ≡ true in
      ((p.0, p.1, p.2), subst A p.2 e)

  no-meeting : (x y lo n lo' n' c : ℕ) → is_apart image y ≡ true → Before image.forks x y → children_at image x ≡ (lo, n) → children_at image y ≡ (lo', n') → lo ≤ c → c < lo + n → lo' ≤ c → c < lo' + n' → ⊥
  no-meeting x y lo n lo' n' c h r ex ey l1 u1 l2 u2 =
      let p = and_parts (nat_lt 0 ((children_at image y).0)) (list_all (λ (q : Point). not (meet (children_at image y) (children_at image q.at))) (earlier image.forks y)) h in
      let m : not (meet (children_at image y) (children_at image r.0.at)) ≡ true = all-passes (λ (q : Point). not (meet (children_at image y) (children_at image q.at))) (earlier image.forks y) r.0 p.1 r.1 in
      let m' : meet (children_at image y) (children_at image r.0.at) ≡ false = not-true (meet (children_at image y) (children_at image r.0.at)) m in
      let er : children_at image r.0.at ≡ (lo, n) = ap (children_at image) r.2 ∙ ex in
      let M : ℕ × ℕ → ℕ × ℕ → Type 0 = λ u v. meet u v ≡ false in
      let z : meet (lo', n') (lo, n) ≡ false = subst (λ u. M u (lo, n)) ey (subst (M (children_at image y)) er m') in
      both_ways (meet (lo', n') (lo, n)) z (meeting lo n lo' n' c l1 u1 l2 u2)
    where
      meeting : (lo n lo' n' c : ℕ) → lo ≤ c → c < lo + n → lo' ≤ c → c < lo' + n' → (nat_lt lo' (lo + n) && nat_lt lo (lo' + n')) ≡ true
      meeting lo n lo' n' c l1 u1 l2 u2 =
          let e : nat_lt lo' (lo + n) ≡ true = grind (arith, nat_tests, u1, l2) in
          let f : nat_lt lo (lo' + n') ≡ true = grind (arith, nat_tests, l1, u2) in
          ap (λ b. b && nat_lt lo (lo' + n')) e ∙ f

  all-apart : (at s at' s' : ℕ) (b b' : List ℕ) (lo n lo' n' c : ℕ) → is_listed image.forks at s b ≡ true → is_listed image.forks at' s' b' ≡ true →
      read image at None ≡ Some (Fork lo n) → read image at' None ≡ Some (Fork lo' n') → lo ≤ c → c < lo + n → lo' ≤ c → c < lo' + n' → at ≡ at'
  all-apart at s at' s' b b' lo n lo' n' c h h' w w' l1 u1 l2 u2 =
      let k = children-read image at (instr_at image at) lo n w in
      let k' = children-read image at' (instr_at image at') lo' n' w' in
      let p = fork-apart at s b h in
      let p' = fork-apart at' s' b' h' in
      ⊎_elim (λ e. e)
      (λ e. absurd (⊎_elim (λ r. no-meeting at at' lo n lo' n' c p'.1 r k k' l1 u1 l2 u2) (λ r. no-meeting at' at lo' n' lo n c p.1 r k' k l2 u2 l1 u1) (ordered image.forks at at' e p.0 p'.0)))
      (cases_eq at at')

  not-zero : (at s : ℕ) (b : List ℕ) (lo n : ℕ) → is_listed image.forks at s b ≡ true → read image at None ≡ Some (Fork lo n) → 1 ≤ lo
  not-zero at s b lo n h w =
      let k = children-read image at (instr_at image at) lo n w in
      let p = and_parts (nat_lt 0 ((children_at image at).0)) (list_all (λ (q : Point). not (meet (children_at image at) (children_at image q.at))) (earlier image.forks at)) (fork-apart at s b h).1 in
      let z = lt-true 0 ((children_at image at).0) p.0 in
      let e : (children_at image at).0 ≡ lo = ap (λ x. x.0) k in
      omega (arith, z, e)

  abbrev starts : List (Option ℕ)
  starts = begins image cert costs ToPause 0 ∷ begins image cert costs ToEnd 0 ∷ resumed image cert costs ToPause 0 ∷ resumed image cert costs ToEnd 0 ∷ []

  bound-covers : base_of image costs + greatest starts ≤ cert.bound
  bound-covers =
      let p : Pays (Some cert.bound) (base_of image costs + greatest starts) = asks-of 7 0 0 (Some cert.bound) (Some (base_of image costs + greatest starts)) (bounded-holds image cert costs a) in
      let e : cert.bound ≡ p.0 = same_Some cert.bound p.0 p.1 in
      let q = p.2 in
      omega (arith, e, q)

  start-bound : (o : Option ℕ) → IsAmong o starts → Asks (Some cert.bound) (plus (Some (base_of image costs)) o)
  start-bound None h = tt
  start-bound (Some n) h = (cert.bound, refl, (let b = bound-covers in let g = greatest-least starts n h in omega (arith, b, g)))

  pub accepted : IsAcceptedWritten E D
  accepted = record {
    start = is-start;
    thread = thread-fine;
    place = place-fine;
    pause = pause-fine;
    fork = fork-fine;
    apart = all-apart;
    no_zero = not-zero;
    base = (let b = bound-covers in omega (arith, b));
    first = both image cert costs a (λ side. Asks (Some cert.bound) (plus (Some (base_of image costs)) (D.number side 0 (start_of image 0)))) (start-bound (begins image cert costs ToPause 0) (inl refl)) (start-bound (begins image cert costs ToEnd 0) (inr (inl refl)));
    again = both image cert costs a (λ side. Asks (Some cert.bound) (plus (Some (base_of image costs)) (D.resumed side 0))) (start-bound (resumed image cert costs ToPause 0) (inr (inr (inl refl)))) (start-bound (resumed image cert costs ToEnd 0) (inr (inr (inr (inl refl)))));
  }
