-- The sections of a program: their lines in its certificate, and that each of their places is good.
use Rattle.std.proofs.Common.{◌≡◌, ◌⊎◌, ◌≤◌, ◌<◌, ◌+◌, ◌++◌, ℕ, zero, suc, Bool, true, false, List, [], ◌∷◌, map, flat_map, length, replicate, slice_get, Option, Some, None, refl, sym, ap, ◌∙◌, subst, inl, inr, ⊎_elim, add-one, arith}
use Rattle.std.proofs.lemmas.Bool.{cases_eq}
use Rattle.std.specs.List.{AllByRecursion, range_with_len}
use Rattle.mb_isa.specs.declared.Class.{Class}
use Rattle.mb_isa.specs.declared.Class.TheVariants as class
use Rattle.mb_isa.specs.declared.Instr.{Instr}
use Rattle.mb_isa.specs.declared.Instr.TheVariants as instr
use Rattle.mb_isa.specs.Costs.{cost_of}
use Rattle.pt_image.specs.declared.Parts.{Parts}
use Rattle.tk_cert.specs.declared.cert.Line.{Line}
use Rattle.tk_cert.specs.declared.cert.Line.TheVariants.{Bare}
use Rattle.tk_cert.specs.declared.cert.Walk.{Walk}
use Rattle.tk_cert.specs.declared.cert.CertParts.{CertParts}
use Rattle.tk_cert.specs.Shapes.{RiseFrom}
use Rattle.tk_cert.specs.Demands.{AllHold}
use Rattle.tk_paths.specs.declared.view.Side.{Side}
use Rattle.tk_paths.specs.declared.view.Side.TheVariants.{ToPause, ToEnd}
use Rattle.tk_paths.specs.declared.view.View.{View}
use Rattle.tk_paths.specs.declared.view.View.TheVariants.{On, Value}
use Rattle.tk_paths.specs.declared.word.Word.TheVariants.{End, Ret, Cend}
use Rattle.tk_paths.specs.Words.{instr_at, read}
use Rattle.tk_paths.specs.Kinds.{line_at, is_thread, is_cond, upper_behind, upper_at, start_of, abort_at}
use Rattle.tk_paths.specs.Acceptance.{number, value_of, ending, closing}
use Rattle.tk_paths.proofs.Lists.{IsAmong}
use Rattle.tk_paths.proofs.Accepts.{among-flat}
use Rattle.tk_paths.specs.Regions.{Region, from, to, IsWord, AreUnits, IsLaid}
use Rattle.tk_paths.specs.Greatest.{ended as greatest_ended}
use Rattle.tk_paths.specs.Choices.{code_pieces, section_pieces, piece_in}
use Rattle.tk_paths.specs.Codes.{Code, Passed, Sequence, Either, Turns, Forever, Resting, Forking, Guarded, entry, exit, loops_in, EachCalled, EachCall, IsLasting, IsLaidIn}
use Rattle.tk_paths.specs.Regions.{Words, Then, Choice, Counted, Repeated, Calling}
use Rattle.tk_paths.specs.Numbers.{Kind, thread, routine, condition, Numbers, level, just, units_lines, region_lines, region_weights, entered, code_lines, code_weights}
use Rattle.tk_paths.specs.Numbers as numbers
use Rattle.tk_paths.specs.Programs.{Section, OfThread, OfRoutine, OfCondition, Unused, Program, ends_in, height, AreSections, IsIn, IsInThread, IsClosed, IsProgram, ended, starts_in, section_lines, section_weights, certificate}
use Rattle.tk_paths.proofs.Covered.{Covers, holds-of}
use Rattle.tk_paths.proofs.Lines.{Fits, IsFull, own-thread, AreAt, at-left, at-right, append-size, lines-at}
use Rattle.tk_paths.proofs.OpenPlaces.{IsStepWith}
use Rattle.tk_paths.proofs.PlaceLaws.{Every, every-one, every-join, IsPlain, plain-next, place-good, numbered, level-number, itself}
use Rattle.tk_paths.proofs.UnitLaws.{At, Good, On_line, units-size, units-first, units-plain, units-law}
use Rattle.tk_paths.proofs.Insides.{region-size}
use Rattle.tk_paths.proofs.RegionLaws.{region-plain, region-first, IsCalled, region-law}
use Rattle.tk_paths.proofs.CodeLaws.{rest_word, rest-is, code-size, code-plain, Around, code-first, code-law}
use Rattle.tk_paths.proofs.Weights.{RisesTo, rises-below, rises-above, rises-join, rises-from, weight-found, units-after, region-rises, code-rises, AreFound, region-weighed, code-weighed}
use Rattle.tk_paths.proofs.Pieces.{RisesTo as PiecesTo, rises-below as pieces-below, rises-above as pieces-above, rises-join as pieces-join, piece-found, code-rises as pieces-rise, AreFound as FindsAll, code-listed}
use Rattle.tk_paths.proofs.Starts.{get-there, get-within, starts-are, starts-quiet, starts-there}

-- ---- lists of sections

pub all-in : (P : Section → Type 0) (xs : List Section) (x : Section) → AllByRecursion P xs → IsIn x xs → P x
all-in P [] x h k = absurd k
all-in P (y ∷ xs) x h k = ⊎_elim (λ e. subst P e h.0) (λ r. all-in P xs x h.1 r) k

all-make : (P : Section → Type 0) (xs : List Section) → ((x : Section) → IsIn x xs → P x) → AllByRecursion P xs
all-make P [] f = tt
all-make P (x ∷ xs) f = (f x (inl refl), all-make P xs (λ y k. f y (inr k)))

in-among : (x : Section) (xs : List Section) → IsIn x xs → IsAmong x xs
in-among x [] h = absurd h
in-among x (y ∷ xs) h = ⊎_elim (λ e. inl e) (λ r. inr (in-among x xs r)) h

each-called : (P Q : Region → Type 0) (r : Region) → ((x : Region) → P x → Q x) → EachCalled P r → EachCalled Q r
each-called P Q (Words p n q) f h = tt
each-called P Q (Then x y) f h = (each-called P Q x f h.0, each-called P Q y f h.1)
each-called P Q (Choice p n at x y) f h = (each-called P Q x f h.0, each-called P Q y f h.1)
each-called P Q (Counted p m n at body q) f h = each-called P Q body f h
each-called P Q (Repeated p m body q) f h = each-called P Q body f h
each-called P Q (Calling p callee) f h = f callee h

each-call : (P Q : Region → Type 0) (code : Code) → ((x : Region) → P x → Q x) → EachCall P code → EachCall Q code
each-call P Q (Passed r) f h = each-called P Q r f h
each-call P Q (Sequence x y) f h = (each-call P Q x f h.0, each-call P Q y f h.1)
each-call P Q (Either p n at x y) f h = (each-call P Q x f h.0, each-call P Q y f h.1)
each-call P Q (Turns p n at body q) f h = each-call P Q body f h
each-call P Q (Forever body q) f h = each-call P Q body f h
each-call P Q (Resting p) f h = tt
each-call P Q (Forking p lo n) f h = tt
each-call P Q (Guarded p j body) f h = each-call P Q body f h

replicate-size : {X : Type 0} (n : ℕ) (x : X) → length (replicate n x) ≡ n
replicate-size zero x = refl
replicate-size (suc n) x = let e = replicate-size n x in omega (arith, e)

bare-at : (cert : CertParts) (n p x : ℕ) → AreAt cert p (replicate n Bare) → p ≤ x → x < p + n → line_at cert.lines x ≡ Bare
bare-at cert zero p x h low high = absurd (omega (arith, low, high))
bare-at cert (suc n) p x h low high =
    ⊎_elim (λ e. let L : ℕ → Type 0 = λ y. line_at cert.lines y ≡ Bare in subst L e h.0) (λ k. bare-at cert n (p + 1) x h.1 k (omega (arith, high))) (split p x low)
  where
    split : (p x : ℕ) → p ≤ x → (p ≡ x) ⊎ (p + 1 ≤ x)
    split p x h = ⊎_elim (λ e. inl e) (λ e. inr (omega (arith, h, e))) (cases_eq p x)

module _ (image : Parts) (program : Program) (costs : List ℕ) (walk : Walk) where
  abbrev pub C : CertParts
  C = certificate image costs program walk

  abbrev pub S : Side → ℕ → Option ℕ
  S = starts_in image costs program.threads

  -- the bounded loops and the calls of its threads
  abbrev pub F : ℕ → Option Region
  F = piece_in (flat_map section_pieces program.sections)

  abbrev pub K : ℕ → Bool
  K = ends_in program.threads

  abbrev pub quiet : (c : ℕ) → K c ≡ false → S ToEnd c ≡ None
  quiet = starts-quiet image costs program.threads

  abbrev section : Section → List Line
  section = section_lines image costs program

  abbrev pub last : Numbers
  last = ended image costs

  abbrev pub back : Numbers
  back = just (cost_of costs class.Ret)

  abbrev pub close : Numbers
  close = just (cost_of costs class.Cend)

  -- ---- where they stand

  joined-size : (p q n : ℕ) (xs ys : List Line) (x : Line) → p + length xs ≡ q → q + 1 + length ys ≡ n → p + length ((xs ++ x ∷ []) ++ ys) ≡ n
  joined-size p q n xs ys x e f =
      let a = append-size xs (x ∷ []) in
      let b = append-size (xs ++ x ∷ []) ys in
      omega (arith, a, b, e, f)

  closed-size : (p q : ℕ) (xs : List Line) (x : Line) → p + length xs ≡ q → p + length (xs ++ x ∷ []) ≡ q + 1
  closed-size p q xs x e = let a = append-size xs (x ∷ []) in omega (arith, a, e)

  pub sections-size : (xs : List Section) (p : ℕ) → AreSections image p xs → p + length (flat_map section xs) ≡ length image.code
  sections-size [] p h = omega (arith, h)
  sections-size (OfThread s code ∷ rest) p h =
      let front = code_lines image costs S s [] code last in
      let e = h.0 in
      let a = joined-size (entry code) (exit code) (length image.code) front (flat_map section rest) (numbers.line (thread s [] []) last) (code-size image costs S s [] code last h.1) (sections-size rest (exit code + 1) h.3) in
      omega (arith, e, a)
  sections-size (OfRoutine r ∷ rest) p h =
      let front = region_lines image costs (routine (height r) []) r back in
      let e = h.0 in
      let a = joined-size (from r) (to r) (length image.code) front (flat_map section rest) (numbers.line (routine (height r) []) back) (region-size image costs (routine (height r) []) r back h.1) (sections-size rest (to r + 1) h.5) in
      omega (arith, e, a)
  sections-size (OfCondition a n q ∷ rest) p h =
      let front = units_lines image costs condition a n close in
      let e = h.0 in
      let b = joined-size a q (length image.code) front (flat_map section rest) (numbers.line condition close) (units-size image costs condition n a q close h.1) (sections-size rest (q + 1) h.3) in
      omega (arith, e, b)
  sections-size (Unused n ∷ rest) p h =
      let a = append-size (replicate n Bare) (flat_map section rest) in
      let b = replicate-size n Bare in
      let c = sections-size rest (p + n) h in
      omega (arith, a, b, c)

  -- the places that a section has its lines at
  abbrev pub SectionAt : Section → Type 0
  SectionAt (OfThread s code) =
      IsLaidIn image s [] code × IsWord image (exit code) End × IsPlain image C costs F (entry code) × At image C costs F (entry code) (code_lines image costs S s [] code last) × On_line image C costs F (thread s [] []) (exit code) last
  SectionAt (OfRoutine r) =
      IsLaid image r × (loops_in r ≤ 8) × (height r ≤ 16) × IsWord image (to r) Ret × IsPlain image C costs F (from r)
      × At image C costs F (from r) (region_lines image costs (routine (height r) []) r back) × On_line image C costs F (routine (height r) []) (to r) back
  SectionAt (OfCondition p n q) =
      AreUnits image p n q × IsWord image q Cend × IsPlain image C costs F p × At image C costs F p (units_lines image costs condition p n close) × On_line image C costs F condition q close
  SectionAt (Unused n) = Unit {0}

  plain-bare : (p n : ℕ) → IsPlain image C costs F p → At image C costs F p (replicate n Bare) → IsPlain image C costs F (p + n)
  plain-bare p zero c h = let e : p ≡ p + 0 = omega arith in subst (IsPlain image C costs F) e c
  plain-bare p (suc n) c h =
      let e : p + n + 1 ≡ p + suc n = omega arith in
      let U : ℕ → Type 0 = λ x. upper_at image C.lines x ≡ None in
      subst (IsPlain image C costs F) e (subst U (sym (add-one (p + n))) (ap (λ l. upper_behind l (instr_at image (p + n))) (bare-at C (suc n) p (p + n) h (omega arith) (omega arith))))

  sections-at : (xs : List Section) (p : ℕ) → AreSections image p xs → At image C costs F p (flat_map section xs) → IsPlain image C costs F p → AllByRecursion SectionAt xs
  sections-at [] p h lines plain = tt
  sections-at (OfThread s code ∷ rest) p h lines plain =
      let front = code_lines image costs S s [] code last in
      let x = numbers.line (thread s [] []) last in
      let whole = front ++ x ∷ [] in
      let A : ℕ → Type 0 = λ q. At image C costs F q (whole ++ flat_map section rest) in
      let here = subst A h.0 lines in
      let mine = at-left C whole (flat_map section rest) (entry code) here in
      let size = code-size image costs S s [] code last h.1 in
      let more = at-right C whole (flat_map section rest) (entry code) (exit code + 1) (closed-size (entry code) (exit code) front x size) here in (
        (h.1, h.2, subst (IsPlain image C costs F) h.0 plain, at-left C front (x ∷ []) (entry code) mine, (at-right C front (x ∷ []) (entry code) (exit code) size mine).0),
        sections-at rest (exit code + 1) h.3 more (plain-next image C costs F (exit code) None End h.2 refl),
      )
  sections-at (OfRoutine r ∷ rest) p h lines plain =
      let front = region_lines image costs (routine (height r) []) r back in
      let x = numbers.line (routine (height r) []) back in
      let whole = front ++ x ∷ [] in
      let A : ℕ → Type 0 = λ q. At image C costs F q (whole ++ flat_map section rest) in
      let here = subst A h.0 lines in
      let mine = at-left C whole (flat_map section rest) (from r) here in
      let size = region-size image costs (routine (height r) []) r back h.1 in
      let more = at-right C whole (flat_map section rest) (from r) (to r + 1) (closed-size (from r) (to r) front x size) here in (
        (h.1, h.2, h.3, h.4, subst (IsPlain image C costs F) h.0 plain, at-left C front (x ∷ []) (from r) mine, (at-right C front (x ∷ []) (from r) (to r) size mine).0),
        sections-at rest (to r + 1) h.5 more (plain-next image C costs F (to r) None Ret h.4 refl),
      )
  sections-at (OfCondition a n q ∷ rest) p h lines plain =
      let front = units_lines image costs condition a n close in
      let x = numbers.line condition close in
      let whole = front ++ x ∷ [] in
      let A : ℕ → Type 0 = λ y. At image C costs F y (whole ++ flat_map section rest) in
      let here = subst A h.0 lines in
      let mine = at-left C whole (flat_map section rest) a here in
      let size = units-size image costs condition n a q close h.1 in
      let more = at-right C whole (flat_map section rest) a (q + 1) (closed-size a q front x size) here in (
        (h.1, h.2, subst (IsPlain image C costs F) h.0 plain, at-left C front (x ∷ []) a mine, (at-right C front (x ∷ []) a q size mine).0),
        sections-at rest (q + 1) h.3 more (plain-next image C costs F q None Cend h.2 refl),
      )
  sections-at (Unused n ∷ rest) p h lines plain =
      let front = replicate n Bare in
      let b = replicate-size n Bare in
      (tt, sections-at rest (p + n) h (at-right C front (flat_map section rest) p (p + n) (omega (arith, b)) lines) (plain-bare p n plain (at-left C front (flat_map section rest) p lines)))

  -- ---- weights

  abbrev weights : Section → List (ℕ × ℕ)
  weights = section_weights image costs program

  pub sections-rise : (xs : List Section) (p : ℕ) → AreSections image p xs → RisesTo p (flat_map weights xs) (length image.code)
  sections-rise [] p h = omega (arith, h)
  sections-rise (OfThread s code ∷ rest) p h =
      let e = h.0 in
      rises-join p (exit code + 1) (length image.code) (code_weights image costs code) (flat_map weights rest)
      (rises-above p (exit code) (exit code + 1) (code_weights image costs code) (omega arith) (rises-below (entry code) p (exit code) (code_weights image costs code) (omega (arith, e)) (code-rises image costs s [] code h.1)))
      (sections-rise rest (exit code + 1) h.3)
  sections-rise (OfRoutine r ∷ rest) p h =
      let e = h.0 in
      rises-join p (to r + 1) (length image.code) (region_weights image costs r) (flat_map weights rest)
      (rises-above p (to r) (to r + 1) (region_weights image costs r) (omega arith) (rises-below (from r) p (to r) (region_weights image costs r) (omega (arith, e)) (region-rises image costs r h.1)))
      (sections-rise rest (to r + 1) h.5)
  sections-rise (OfCondition a n q ∷ rest) p h =
      let e = h.0 in
      let u = units-after image n a q h.1 in
      rises-below (q + 1) p (length image.code) (flat_map weights rest) (omega (arith, e, u)) (sections-rise rest (q + 1) h.3)
  sections-rise (Unused n ∷ rest) p h = rises-below (p + n) p (length image.code) (flat_map weights rest) (omega arith) (sections-rise rest (p + n) h)

  -- what isn't a thread has none
  pieces-after : (p q n : ℕ) (xs : List (ℕ × Region)) → p ≤ q → PiecesTo q xs n → PiecesTo p xs n
  pieces-after p q n xs e h = pieces-below q p n xs e h

  sections-pieces : (xs : List Section) (p : ℕ) → AreSections image p xs → PiecesTo p (flat_map section_pieces xs) (length image.code)
  sections-pieces [] p h = omega (arith, h)
  sections-pieces (OfThread s code ∷ rest) p h =
      let e = h.0 in
      pieces-join p (exit code + 1) (length image.code) (code_pieces code) (flat_map section_pieces rest)
      (pieces-above p (exit code) (exit code + 1) (code_pieces code) (omega arith) (pieces-below (entry code) p (exit code) (code_pieces code) (omega (arith, e)) (pieces-rise image s [] code h.1)))
      (sections-pieces rest (exit code + 1) h.3)
  sections-pieces (OfRoutine r ∷ rest) p h =
      let e = h.0 in
      let size = region-size image costs (routine (height r) []) r back h.1 in
      pieces-after p (to r + 1) (length image.code) (flat_map section_pieces rest) (omega (arith, e, size)) (sections-pieces rest (to r + 1) h.5)
  sections-pieces (OfCondition a n q ∷ rest) p h =
      let e = h.0 in
      let u = units-after image n a q h.1 in
      pieces-after p (q + 1) (length image.code) (flat_map section_pieces rest) (omega (arith, e, u)) (sections-pieces rest (q + 1) h.3)
  sections-pieces (Unused n ∷ rest) p h = pieces-after p (p + n) (length image.code) (flat_map section_pieces rest) (omega arith) (sections-pieces rest (p + n) h)

  module _ (ok : IsProgram image program) (positive : (c : Class) → 1 ≤ cost_of costs c) where
    pub weights-rise : RiseFrom 0 C.weights
    weights-rise = rises-from 0 (length image.code) C.weights (sections-rise program.sections 0 ok.laid)

    pub all-at : AllByRecursion SectionAt program.sections
    all-at = sections-at program.sections 0 ok.laid (lines-at C [] C.lines 0 refl refl) refl

    section-found : (x : Section) → IsIn x program.sections → AreFound image costs C (weights x)
    section-found x h y among = weight-found 0 C.weights y weights-rise (among-flat weights x y program.sections (in-among x program.sections h) among)

    pieces-found : (x : Section) → IsIn x program.sections → FindsAll image C costs F (section_pieces x)
    pieces-found x h y among =
        piece-found 0 (length image.code) (flat_map section_pieces program.sections) y (sections-pieces program.sections 0 ok.laid)
        (among-flat section_pieces x y program.sections (in-among x program.sections h) among)

    called : (callee : Region) → IsIn (OfRoutine callee) program.sections → IsCalled image C costs F callee
    called callee h =
        let f = all-in SectionAt program.sections (OfRoutine callee) all-at h in
        record { line = region-first image C costs F (routine (height callee) []) callee back f.0 f.5 f.6; plain = f.4 }

    -- ---- threads

    pub thread-at : (s : ℕ) (code : Code) → slice_get program.threads s ≡ Some code → SectionAt (OfThread s code)
    thread-at s code h = all-in SectionAt program.sections (OfThread s code) all-at (ok.thread s code h).1

    thread-lasts : (s : ℕ) (code : Code) → slice_get program.threads s ≡ Some code → IsLasting K code
    thread-lasts s code h = (all-in (IsClosed program) program.sections (OfThread s code) ok.closed (ok.thread s code h).1).2

    -- where a slot starts
    pub start-line : (s : ℕ) (code : Code) → slice_get program.threads s ≡ Some code → On_line image C costs F (thread s [] []) (start_of image s) (entered image costs S [] code last)
    start-line s code h =
        let f = thread-at s code h in
        let e = (ok.thread s code h).0 in
        ap (line_at C.lines) e ∙ code-first image C costs F positive S K quiet s [] code last f.0 (thread-lasts s code h) f.3 f.4

    pub start-plain : (s : ℕ) (code : Code) → slice_get program.threads s ≡ Some code → IsPlain image C costs F (start_of image s)
    start-plain s code h = subst (IsPlain image C costs F) (sym (ok.thread s code h).0) (thread-at s code h).2

    pub start-kind : (s : ℕ) (code : Code) → slice_get program.threads s ≡ Some code → is_thread s [] [] (line_at C.lines (start_of image s)) ≡ true
    start-kind s code h = ap (is_thread s [] []) (start-line s code h) ∙ own-thread s [] [] (map (level (entered image costs S [] code last)) (range_with_len 0 1))

    pub code-of : (c : ℕ) → c < length image.slots → (code : Code) × (slice_get program.threads c ≡ Some code)
    code-of c h = let e = ok.slots in get-there program.threads c (omega (arith, h, e))

    condition-at : (j : ℕ) → j < length image.aborts → (is_cond (line_at C.lines ((abort_at image j).cond)) ≡ true) × IsPlain image C costs F ((abort_at image j).cond)
    condition-at j h =
        let t = ok.tested j h in
        let p = (abort_at image j).cond in
        let f = all-in SectionAt program.sections (OfCondition p t.0 t.1) all-at t.2 in
        (ap is_cond (units-first image C costs F condition t.0 p t.1 close f.0 f.3 f.4), f.2)

    around : (s : ℕ) (code : Code) → slice_get program.threads s ≡ Some code → Around image C costs F positive S K quiet s
    around s code h = record {
      inside = (let w = get-within program.threads s code h in let e = ok.slots in omega (arith, w, e));
      begins_is = λ side c above below.
          let g = code-of c below in
          level-number image C costs F c [] [] (entered image costs S [] g.0 last) (start_of image c) side 0 (start-line c g.0 g.1) (omega arith)
          ∙ sym (starts-are image costs program.threads c g.0 g.1 (thread-at c g.0 g.1).0 side);
      child = λ c above below. let g = code-of c below in (start-kind c g.0 g.1, start-plain c g.0 g.1);
      there = λ c above below.
          starts-there image costs program.threads (λ d code k. ((thread-at d code k).0, thread-lasts d code k)) ok.slots (length image.slots) c below (omega arith);
      condition = condition-at;
    }

    -- ---- closing words

    ended-full : (s : ℕ) → IsFull (thread s [] []) last
    ended-full s k w = (ToEnd, (cost_of costs class.End, refl))

    end-good : (s p : ℕ) → s < length image.slots → IsWord image p End → IsPlain image C costs F p → On_line image C costs F (thread s [] []) p last → Good image C costs F p
    end-good s p inside word plain here =
        let G : Option Instr → Type 0 = λ o. IsStepWith image C costs F o p s [] in
        place-good image C costs F (thread s [] []) last p End here (inside, tt) (ended-full s) (ap (read image p) plain ∙ word) (λ un. refl) edges (λ g x. absurd x)
        (λ x. subst G (sym (rest-is image p (instr_at image p) instr.End (ap rest_word word))) numbers_are)
      where
        edges : (view : View) → Fits view (thread s [] []) → AllHold (ending image C costs p view)
        edges (On ToPause k) fit = tt
        edges (On ToEnd k) fit =
            let c = cost_of costs class.End in
            let A : Option ℕ → Type 0 = λ o. Covers o (Some c) in
            holds-of 3 p k (number image C costs (On ToEnd k) p) (Some c) (subst A (sym (level-number image C costs F s [] [] last p ToEnd k here fit)) (itself image C costs F (Some c)))
        edges Value fit = absurd fit

        numbers_are : (side : Side) (k : ℕ) → k ≤ 0 → number image C costs (On side k) p ≡ greatest_ended image C costs side
        numbers_are ToPause k w = level-number image C costs F s [] [] last p ToPause k here w
        numbers_are ToEnd k w = level-number image C costs F s [] [] last p ToEnd k here w

    ret-good : (h p : ℕ) → 1 ≤ h → h ≤ 16 → IsWord image p Ret → IsPlain image C costs F p → On_line image C costs F (routine h []) p back → Good image C costs F p
    ret-good h p low high word plain here =
        place-good image C costs F (routine h []) back p Ret here (low, high) (cost_of costs class.Ret, refl) (ap (read image p) plain ∙ word) (λ un. refl) edges (λ g x. absurd x) (λ x. tt)
      where
        edges : (view : View) → Fits view (routine h []) → AllHold (closing image C costs p class.Ret view)
        edges (On side k) fit = absurd fit
        edges Value fit =
            let c = cost_of costs class.Ret in
            let A : Option ℕ → Type 0 = λ o. Covers o (Some c) in
            holds-of 3 p 0 (number image C costs Value p) (Some c) (subst A (sym (numbered image C costs F (routine h []) back p Value here tt (c, refl))) (itself image C costs F (Some c)))

    cend-good : (p : ℕ) → IsWord image p Cend → IsPlain image C costs F p → On_line image C costs F condition p close → Good image C costs F p
    cend-good p word plain here =
        place-good image C costs F condition close p Cend here tt (cost_of costs class.Cend, refl) (ap (read image p) plain ∙ word) (λ un. refl) edges (λ g x. absurd x)
        (λ x. record { count = 0; close = p; units = refl; closes = word; value_is = ap value_of here ∙ zero_more (cost_of costs class.Cend) })
      where
        zero_more : (n : ℕ) → n ≡ 0 + n
        zero_more n = omega arith

        edges : (view : View) → Fits view condition → AllHold (closing image C costs p class.Cend view)
        edges (On side k) fit = absurd fit
        edges Value fit =
            let c = cost_of costs class.Cend in
            let A : Option ℕ → Type 0 = λ o. Covers o (Some c) in
            holds-of 3 p 0 (number image C costs Value p) (Some c) (subst A (sym (numbered image C costs F condition close p Value here tt (c, refl))) (itself image C costs F (Some c)))

    -- ---- all places

    abbrev pub SectionGood : Section → Type 0
    SectionGood (OfThread s code) = Every (entry code) (exit code + 1) (Good image C costs F)
    SectionGood (OfRoutine r) = Every (from r) (to r + 1) (Good image C costs F)
    SectionGood (OfCondition p n q) = Every p (q + 1) (Good image C costs F)
    SectionGood (Unused n) = Unit {0}

    section-good : (x : Section) → IsIn x program.sections → SectionGood x
    section-good (OfThread s code) h =
        let f = all-in SectionAt program.sections (OfThread s code) all-at h in
        let c = all-in (IsClosed program) program.sections (OfThread s code) ok.closed h in
        let a = around s code c.0 in
        every-join (entry code) (exit code) (exit code + 1) (Good image C costs F)
        (code-law image C costs F positive S K quiet s a [] code last f.0 (each-call (λ r. IsIn (OfRoutine r) program.sections) (IsCalled image C costs F) code called c.1)
        (code-weighed image costs C F code (section-found (OfThread s code) h)) (code-listed image C costs F code (pieces-found (OfThread s code) h)) c.2 f.2 tt (ended-full s) f.3 f.4)
        (every-one (exit code) (Good image C costs F) (end-good s (exit code) a.inside f.1 (code-plain image C costs F s [] code f.0 f.2) f.4))
    section-good (OfRoutine r) h =
        let f = all-in SectionAt program.sections (OfRoutine r) all-at h in
        let c = all-in (IsClosed program) program.sections (OfRoutine r) ok.closed h in
        let k = routine (height r) [] in
        let few = f.1 in
        let high = f.2 in
        every-join (from r) (to r) (to r + 1) (Good image C costs F)
        (region-law image C costs F positive k r tt back f.0 (each-called (λ x. IsIn (OfRoutine x) program.sections) (IsCalled image C costs F) r called c)
        (region-weighed image costs C F r (section-found (OfRoutine r) h)) tt (omega arith) (omega (arith, few)) f.4 (omega arith, high) (cost_of costs class.Ret, refl) f.5 f.6)
        (every-one (to r) (Good image C costs F) (ret-good (height r) (to r) (omega arith) high f.3 (region-plain image C costs F r f.0 f.4) f.6))
    section-good (OfCondition p n q) h =
        let f = all-in SectionAt program.sections (OfCondition p n q) all-at h in
        every-join p q (q + 1) (Good image C costs F)
        (units-law image C costs F positive condition n p q close f.0 f.2 tt (cost_of costs class.Cend, refl) f.3 f.4 (f.1, refl))
        (every-one q (Good image C costs F) (cend-good q f.1 (units-plain image C costs F n p q f.0 f.2) f.4))
    section-good (Unused n) h = tt

    pub all-good : AllByRecursion SectionGood program.sections
    all-good = all-make SectionGood program.sections section-good

    abbrev pub IsCovered : ℕ → Type 0
    IsCovered p = Good image C costs F p ⊎ (line_at C.lines p ≡ Bare)

    from-good : (p q : ℕ) → Every p q (Good image C costs F) → Every p q IsCovered
    from-good p q f x a b = inl (f x a b)

    from-place : (p q m : ℕ) → p ≡ q → Every q m IsCovered → Every p m IsCovered
    from-place p q m e f x a b = f x (omega (arith, e, a)) b

    sections-cover : (xs : List Section) (p : ℕ) → AreSections image p xs → At image C costs F p (flat_map section xs) → AllByRecursion SectionGood xs → Every p (length image.code) IsCovered
    sections-cover [] p h lines good = λ x a b. absurd (omega (arith, h, a, b))
    sections-cover (OfThread s code ∷ rest) p h lines good =
        let front = code_lines image costs S s [] code last in
        let x = numbers.line (thread s [] []) last in
        let A : ℕ → Type 0 = λ q. At image C costs F q ((front ++ x ∷ []) ++ flat_map section rest) in
        let size = closed-size (entry code) (exit code) front x (code-size image costs S s [] code last h.1) in
        from-place p (entry code) (length image.code) h.0
        (every-join (entry code) (exit code + 1) (length image.code) IsCovered (from-good (entry code) (exit code + 1) good.0)
        (sections-cover rest (exit code + 1) h.3 (at-right C (front ++ x ∷ []) (flat_map section rest) (entry code) (exit code + 1) size (subst A h.0 lines)) good.1))
    sections-cover (OfRoutine r ∷ rest) p h lines good =
        let front = region_lines image costs (routine (height r) []) r back in
        let x = numbers.line (routine (height r) []) back in
        let A : ℕ → Type 0 = λ q. At image C costs F q ((front ++ x ∷ []) ++ flat_map section rest) in
        let size = closed-size (from r) (to r) front x (region-size image costs (routine (height r) []) r back h.1) in
        from-place p (from r) (length image.code) h.0
        (every-join (from r) (to r + 1) (length image.code) IsCovered (from-good (from r) (to r + 1) good.0)
        (sections-cover rest (to r + 1) h.5 (at-right C (front ++ x ∷ []) (flat_map section rest) (from r) (to r + 1) size (subst A h.0 lines)) good.1))
    sections-cover (OfCondition a n q ∷ rest) p h lines good =
        let front = units_lines image costs condition a n close in
        let x = numbers.line condition close in
        let A : ℕ → Type 0 = λ y. At image C costs F y ((front ++ x ∷ []) ++ flat_map section rest) in
        let size = closed-size a q front x (units-size image costs condition n a q close h.1) in
        from-place p a (length image.code) h.0
        (every-join a (q + 1) (length image.code) IsCovered (from-good a (q + 1) good.0)
        (sections-cover rest (q + 1) h.3 (at-right C (front ++ x ∷ []) (flat_map section rest) a (q + 1) size (subst A h.0 lines)) good.1))
    sections-cover (Unused n ∷ rest) p h lines good =
        let front = replicate n Bare in
        let b = replicate-size n Bare in
        every-join p (p + n) (length image.code) IsCovered (λ x low high. inr (bare-at C n p x (at-left C front (flat_map section rest) p lines) low high))
        (sections-cover rest (p + n) h (at-right C front (flat_map section rest) p (p + n) (omega (arith, b)) lines) good.1)

    pub covered : (p : ℕ) → p < length image.code → IsCovered p
    covered p h = sections-cover program.sections 0 ok.laid (lines-at C [] C.lines 0 refl refl) all-good p (omega arith) h

    in-thread : (xs : List Section) (p : ℕ) → AllByRecursion SectionGood xs → IsInThread xs p → Good image C costs F p
    in-thread [] p h k = absurd k
    in-thread (OfThread s code ∷ rest) p h k = ⊎_elim (λ e. let a = e.0 in let b = e.1 in h.0 p a (omega (arith, b))) (λ r. in-thread rest p h.1 r) k
    in-thread (OfRoutine r ∷ rest) p h k = in-thread rest p h.1 k
    in-thread (OfCondition a n q ∷ rest) p h k = in-thread rest p h.1 k
    in-thread (Unused n ∷ rest) p h k = in-thread rest p h.1 k

    pub thread-good : (p : ℕ) → IsInThread program.sections p → Good image C costs F p
    thread-good p k = in-thread program.sections p all-good k
