-- Each place of a thread's code that lies in an image is good, where the lines from its beginning on are those of the code.
use Rattle.std.proofs.Common.{◌≡◌, ◌≤◌, ◌<◌, ◌+◌, ◌-◌, ◌++◌, ◌&&◌, min, ℕ, zero, suc, nat_lt, nat_le, Bool, true, false, if◌then◌else◌, List, [], ◌∷◌, map, flat_map, length, slice_get, slice_index_or, Option, Some, None, refl, sym, ap, ◌∙◌, subst, ⊎_elim, arith}
use Rattle.std.proofs.lemmas.Option.{none-some}
use Rattle.std.specs.List.{list_all, range_with_len}
use Rattle.mb_isa.specs.declared.Class.{Class}
use Rattle.mb_isa.specs.declared.Class.TheVariants as class
use Rattle.mb_isa.specs.declared.Instr.{Instr}
use Rattle.mb_isa.specs.declared.Instr.TheVariants as instr
use Rattle.mb_isa.specs.Costs.{cost_of}
use Rattle.mb_pfu.specs.Calls.{last_of}
use Rattle.pt_image.specs.declared.Parts.{Parts}
use Rattle.pt_image.specs.Listed.{is_listed}
use Rattle.tk_cert.specs.declared.cert.CertParts.{CertParts}
use Rattle.tk_cert.specs.Demands.{AllHold, at_least}
use Rattle.tk_paths.specs.declared.view.Side.{Side}
use Rattle.tk_paths.specs.declared.view.Side.TheVariants.{ToPause, ToEnd}
use Rattle.tk_paths.specs.declared.view.View.{View}
use Rattle.tk_paths.specs.declared.view.View.TheVariants.{On, Value}
use Rattle.tk_paths.specs.declared.word.Word.{Word}
use Rattle.tk_paths.specs.declared.word.Word.TheVariants.{Jump, Branch, Fork, Eot, End, Abrt, Leave}
use Rattle.tk_paths.specs.Sums.{plus, greater, all_ends, most_paused}
use Rattle.tk_paths.specs.Words.{instr_at, read_instr, read}
use Rattle.tk_paths.specs.Kinds.{line_at, is_thread, is_cond, start_of, abort_at, place_in}
use Rattle.tk_paths.specs.Shape.{on_last, children_start, keeps_kind}
use Rattle.tk_paths.specs.Acceptance.{on_side, level_of, number, begins, more, left_view, edge}
use Rattle.tk_paths.proofs.Lists.{IsAmong}
use Rattle.tk_paths.proofs.Carried.{le-test}
use Rattle.tk_paths.specs.Regions.{Region, behind, IsWord, extra}
use Rattle.tk_paths.specs.Greatest.{stays, handlers, resting}
use Rattle.tk_paths.specs.Codes.{Code, Passed, Sequence, Either, Turns, Forever, Resting, Forking, Guarded, entry, exit, EachCall, can_end, IsLasting, IsLaidIn}
use Rattle.tk_paths.specs.Numbers.{Kind, thread, Numbers, level, nothing, Handler, stack_of, after, unit_lines, branched, jumping, jump_lines, testing, test_lines, region_lines, handled, rested, left, with_abort, grouped, entered, code_lines}
use Rattle.tk_paths.specs.Numbers as numbers
use Rattle.tk_paths.proofs.Covered.{Covers, holds-of}
use Rattle.tk_paths.proofs.Lines.{Fits, IsFull, There, line-same, own-thread, at-left, at-right, append-size, map-size}
use Rattle.tk_paths.proofs.OpenPlaces.{IsStepWith}
use Rattle.tk_paths.proofs.Listing.{AreListed}
use Rattle.tk_paths.proofs.PlaceLaws.{and-two, lt-test, among-either, Every, every-one, every-join, IsPlain, plain-next, unit-plain, AreAborts, Known, place-good, numbered, edge-holds, itself, full-after, unit-first}
use Rattle.tk_paths.proofs.UnitLaws.{more-more, there-more, size-join, unit-size, test-size, At, Good, On_line, moved, same-numbers, test-first, keeps, jump-law, test-law}
use Rattle.tk_paths.proofs.Insides.{last-added, length-last, size-from, size-one, region-size}
use Rattle.tk_paths.proofs.RegionLaws.{region-plain, region-first, IsCalled, AreWeighed, region-law}
use Rattle.tk_paths.proofs.Entered.{ends-alike, paused-alike, entered-same, parents-of, entered-full}

-- ---- the words at which a thread rests

abbrev pub rest_word : Option Word → Option Instr
rest_word (Some Eot) = Some instr.Eot
rest_word (Some (Fork lo n)) = Some (instr.Fork lo n)
rest_word (Some (Abrt j)) = Some (instr.Abrt j)
rest_word (Some Leave) = Some instr.Leave
rest_word (Some End) = Some instr.End
rest_word other = None

pub rest-is : (image : Parts) (p : ℕ) (o : Option Instr) (i : Instr) → rest_word (read_instr image p None o) ≡ Some i → o ≡ Some i
rest-is image p None i h = absurd (none-some i h)
rest-is image p (Some instr.Eot) i h = h
rest-is image p (Some (instr.Fork lo n)) i h = h
rest-is image p (Some (instr.Abrt j)) i h = h
rest-is image p (Some instr.Leave) i h = h
rest-is image p (Some instr.End) i h = h
rest-is image p (Some (instr.Bri imm)) i h = absurd (none-some i h)
rest-is image p (Some (instr.Beqi ra imm)) i h = absurd (none-some i h)
rest-is image p (Some (instr.Bnei ra imm)) i h = absurd (none-some i h)
rest-is image p (Some (instr.Blti ra imm)) i h = absurd (none-some i h)
rest-is image p (Some (instr.Blei ra imm)) i h = absurd (none-some i h)
rest-is image p (Some (instr.Bgti ra imm)) i h = absurd (none-some i h)
rest-is image p (Some (instr.Bgei ra imm)) i h = absurd (none-some i h)
rest-is image p (Some other) i h = absurd (none-some i h)

stack-with : (aborts : List Handler) (h : Handler) → stack_of (aborts ++ h ∷ []) ≡ stack_of aborts ++ h.0 ∷ []
stack-with [] h = refl
stack-with (x ∷ aborts) h = ap (λ l. x.0 ∷ l) (stack-with aborts h)

pub stack-size : (aborts : List Handler) → length (stack_of aborts) ≡ length aborts
stack-size aborts = map-size (λ (h : Handler). h.0) aborts

module _ (image : Parts) (costs : List ℕ) (starts : Side → ℕ → Option ℕ) (s : ℕ) where
  abbrev kind : List Handler → Kind
  kind aborts = thread s (stack_of aborts) []

  pub code-size : (aborts : List Handler) (code : Code) (V : Numbers) → IsLaidIn image s (stack_of aborts) code → entry code + length (code_lines image costs starts s aborts code V) ≡ exit code
  code-size a (Passed r) V l = region-size image costs (kind a) r V l.0
  code-size a (Sequence x y) V l =
      let W = entered image costs starts a y V in
      size-join (entry x) (exit x) (exit y) (code_lines image costs starts s a x W) (code_lines image costs starts s a y V) (code-size a x W l.0)
      (size-from (exit x) (entry y) (exit y) (code_lines image costs starts s a y V) l.2 (code-size a y V l.1))
  code-size a (Either p n at x y) V l =
      let J = jumping image costs (exit x) V in
      let B = branched image costs (entered image costs starts a x J) (entered image costs starts a y V) in
      let t = test_lines image costs (kind a) p n at B in
      let u = code_lines image costs starts s a x J in
      let j = jump_lines image costs (kind a) (exit x) V in
      size-join p (entry y) (exit y) (t ++ u ++ j) (code_lines image costs starts s a y V)
      (size-join p (exit x) (entry y) (t ++ u) j (size-join p (behind image at) (exit x) t u (test-size image costs (kind a) p n at B l.0) (size-from (behind image at) (entry x) (exit x) u l.2 (code-size a x J l.3)))
      (unit-size image costs (kind a) (exit x) (after (cost_of costs class.Jump) V) ∙ l.5))
      (code-size a y V l.6)
  code-size a (Turns p n at body q) V l =
      let H = entered image costs starts a (Turns p n at body q) V in
      let J = jumping image costs (exit body) H in
      let B = branched image costs (entered image costs starts a body nothing) V in
      let t = test_lines image costs (kind a) p n at B in
      let u = code_lines image costs starts s a body J in
      size-join p (exit body) q (t ++ u) (jump_lines image costs (kind a) (exit body) H)
      (size-join p (behind image at) (exit body) t u (test-size image costs (kind a) p n at B l.0) (size-from (behind image at) (entry body) (exit body) u l.2 (code-size a body J l.3)))
      (unit-size image costs (kind a) (exit body) (after (cost_of costs class.Jump) H) ∙ l.5)
  code-size a (Forever body q) V l =
      let H = entered image costs starts a body nothing in
      let J = jumping image costs (exit body) H in
      size-join (entry body) (exit body) q (code_lines image costs starts s a body J) (jump_lines image costs (kind a) (exit body) H) (code-size a body J l.0)
      (unit-size image costs (kind a) (exit body) (after (cost_of costs class.Jump) H) ∙ l.2)
  code-size a (Resting p) V l = omega arith
  code-size a (Forking p lo n) V l = omega arith
  code-size a (Guarded p j body) V l =
      let A = with_abort image costs a j V in
      let L = left image costs a V in
      let M = entered image costs starts a (Guarded p j body) V in
      let u = code_lines image costs starts s A body L in
      let I : List ℕ → Type 0 = λ stack. IsLaidIn image s stack body in
      let size = code-size A body L (subst I (sym (stack-with a (j, level V (length a)))) l.4) in
      size-join p (exit body) (exit body + 1) (numbers.line (kind a) M ∷ u) (numbers.line (kind A) L ∷ [])
      (size-one p (numbers.line (kind a) M) (exit body) u (size-from (p + 1) (entry body) (exit body) u l.3 size)) (omega arith)

module _ (image : Parts) (cert : CertParts) (costs : List ℕ) (find : ℕ → Option Region) where
  pub code-plain : (s : ℕ) (stack : List ℕ) (code : Code) → IsLaidIn image s stack code → IsPlain image cert costs find (entry code) → IsPlain image cert costs find (exit code)
  code-plain s a (Passed r) l c = region-plain image cert costs find r l.0 c
  code-plain s a (Sequence x y) l c = let P : ℕ → Type 0 = IsPlain image cert costs find in code-plain s a y l.1 (subst P l.2 (code-plain s a x l.0 c))
  code-plain s a (Either p n at x y) l c = let P : ℕ → Type 0 = IsPlain image cert costs find in code-plain s a y l.6 (subst P l.5 (unit-plain image cert costs find (exit x) (Jump (Some (exit y))) l.4 refl))
  code-plain s a (Turns p n at body q) l c = let P : ℕ → Type 0 = IsPlain image cert costs find in subst P l.5 (unit-plain image cert costs find (exit body) (Jump (Some p)) l.4 refl)
  code-plain s a (Forever body q) l c = let P : ℕ → Type 0 = IsPlain image cert costs find in subst P l.2 (unit-plain image cert costs find (exit body) (Jump (Some (entry body))) l.1 refl)
  code-plain s a (Resting p) l c = plain-next image cert costs find p None Eot l.0 refl
  code-plain s a (Forking p lo n) l c = plain-next image cert costs find p None (Fork lo n) l.0 refl
  code-plain s a (Guarded p j body) l c = plain-next image cert costs find (exit body) None Leave l.5 refl

  -- the weights of its loops are in the certificate
  abbrev pub AreWeighedIn : Code → Type 0
  AreWeighedIn (Passed r) = AreWeighed image cert costs find r
  AreWeighedIn (Sequence x y) = AreWeighedIn x × AreWeighedIn y
  AreWeighedIn (Either p n at x y) = AreWeighedIn x × AreWeighedIn y
  AreWeighedIn (Turns p n at body q) = AreWeighedIn body
  AreWeighedIn (Forever body q) = AreWeighedIn body
  AreWeighedIn (Resting p) = Unit {0}
  AreWeighedIn (Forking p lo n) = Unit {0}
  AreWeighedIn (Guarded p j body) = AreWeighedIn body

  -- its bounded loops and its calls are found at their places
  abbrev pub AreListedIn : Code → Type 0
  AreListedIn (Passed r) = AreListed image cert costs find r
  AreListedIn (Sequence x y) = AreListedIn x × AreListedIn y
  AreListedIn (Either p n at x y) = AreListedIn x × AreListedIn y
  AreListedIn (Turns p n at body q) = AreListedIn body
  AreListedIn (Forever body q) = AreListedIn body
  AreListedIn (Resting p) = Unit {0}
  AreListedIn (Forking p lo n) = Unit {0}
  AreListedIn (Guarded p j body) = AreListedIn body

  -- the aborts round a code stand as acceptance wants it, and their handlers have these numbers; the first has number i
  abbrev pub AreHandled : ℕ → ℕ → List ℕ → List Handler → Type 0
  AreHandled s i outside [] = Unit {0}
  AreHandled s i outside (h ∷ aborts) =
      (h.0 < length image.aborts) × (is_cond (line_at cert.lines ((abort_at image h.0).cond)) ≡ true) × IsPlain image cert costs find ((abort_at image h.0).cond)
      × (is_thread s outside [] (line_at cert.lines ((abort_at image h.0).handler)) ≡ true) × IsPlain image cert costs find ((abort_at image h.0).handler)
      × ((side : Side) → number image cert costs (On side i) ((abort_at image h.0).handler) ≡ on_side side (Some (h.1))) × AreHandled s (i + 1) (outside ++ h.0 ∷ []) aborts

  pub aborts-of : (s i : ℕ) (outside : List ℕ) (aborts : List Handler) → AreHandled s i outside aborts → AreAborts image cert costs find s outside (stack_of aborts)
  aborts-of s i outside [] h = tt
  aborts-of s i outside (x ∷ aborts) h = (h.0, h.1, h.2, h.3, h.4, aborts-of s (i + 1) (outside ++ x.0 ∷ []) aborts h.6)

  handlers-are : (s : ℕ) (side : Side) (i : ℕ) (outside : List ℕ) (aborts : List Handler) (k : ℕ) → AreHandled s i outside aborts → handlers image cert costs side i (stack_of aborts) k ≡ handled image costs side aborts k
  handlers-are s side i outside [] k h = refl
  handlers-are s side i outside (x ∷ aborts) zero h = refl
  handlers-are s side i outside (x ∷ aborts) (suc k) h =
      ap (λ o. greater (if (abort_at image x.0).weak then o else None) (handlers image cert costs side (i + 1) (stack_of aborts) k)) (h.5 side)
      ∙ ap (greater (if (abort_at image x.0).weak then on_side side (Some (x.1)) else None)) (handlers-are s side (i + 1) (outside ++ x.0 ∷ []) aborts k h.6)

  resting-is : (s : ℕ) (side : Side) (aborts : List Handler) (k : ℕ) → AreHandled s 0 [] aborts → resting image cert costs (stack_of aborts) k side ≡ rested image costs aborts (On side k)
  resting-is s side aborts k h = ap (greater (stays side)) (handlers-are s side 0 [] aborts k h)

  handled-more : (s i : ℕ) (outside : List ℕ) (aborts : List Handler) (x : Handler) → AreHandled s i outside aborts → AreHandled s (i + length aborts) (outside ++ stack_of aborts) (x ∷ []) → AreHandled s i outside (aborts ++ x ∷ [])
  handled-more s i outside [] x h k =
      let e : i + 0 ≡ i = omega arith in
      let f : outside ++ [] ≡ outside = append-none outside in
      let A : ℕ → List ℕ → Type 0 = λ n l. AreHandled s n l (x ∷ []) in
      subst (λ n. A n outside) e (subst (λ l. A (i + 0) l) f k)
    where
      append-none : (l : List ℕ) → l ++ [] ≡ l
      append-none [] = refl
      append-none (y ∷ l) = ap (λ z. y ∷ z) (append-none l)
  handled-more s i outside (y ∷ aborts) x h k =
      let e : i + length (y ∷ aborts) ≡ (i + 1) + length aborts = omega arith in
      let f = append-assoc outside y.0 (stack_of aborts) in
      let A : ℕ → List ℕ → Type 0 = λ n l. AreHandled s n l (x ∷ []) in
      (h.0, h.1, h.2, h.3, h.4, h.5, handled-more s (i + 1) (outside ++ y.0 ∷ []) aborts x h.6 (subst (λ n. A n ((outside ++ y.0 ∷ []) ++ stack_of aborts)) e (subst (λ l. A (i + length (y ∷ aborts)) l) f k)))
    where
      append-assoc : (l : List ℕ) (a : ℕ) (m : List ℕ) → l ++ a ∷ m ≡ (l ++ a ∷ []) ++ m
      append-assoc [] a m = refl
      append-assoc (b ∷ l) a m = ap (λ z. b ∷ z) (append-assoc l a m)

  -- ---- a thread

  module _ (positive : (c : Class) → 1 ≤ cost_of costs c) (starts : Side → ℕ → Option ℕ) (ends : ℕ → Bool) (quiet : (c : ℕ) → ends c ≡ false → starts ToEnd c ≡ None) where
    -- what is known round the code of slot s
    pub record Around (s : ℕ) : Type 0 where
      pub inside : s < length image.slots
      pub begins_is : (side : Side) (c : ℕ) → s < c → c < length image.slots → begins image cert costs side c ≡ starts side c
      pub child : (c : ℕ) → s < c → c < length image.slots → (is_thread c [] [] (line_at cert.lines (start_of image c)) ≡ true) × IsPlain image cert costs find (start_of image c)
      pub there : (c : ℕ) → s < c → c < length image.slots → (side : Side) × There (starts side c)
      pub condition : (j : ℕ) → j < length image.aborts → (is_cond (line_at cert.lines ((abort_at image j).cond)) ≡ true) × IsPlain image cert costs find ((abort_at image j).cond)

    module _ (s : ℕ) where
      abbrev in_code : List Handler → Kind
      in_code aborts = thread s (stack_of aborts) []

      later : (aborts : List Handler) (c : ℕ) (V : Numbers) → IsFull (in_code aborts) V → IsFull (in_code aborts) (after c V)
      later a c V full = full-after image cert costs find (in_code a) c V full

      -- the line of a body that can't end says what its loop takes of it
      body-first : (aborts : List Handler) (body : Code) (V : Numbers) (p : ℕ) → can_end ends body ≡ false → On_line image cert costs find (in_code aborts) p (entered image costs starts aborts body V) →
          On_line image cert costs find (in_code aborts) p (entered image costs starts aborts body nothing)
      body-first a body V p c h =
          h ∙ line-same (in_code a) (entered image costs starts a body V) (entered image costs starts a body nothing) (λ view fit. by view fit)
        where
          by : (view : View) → Fits view (in_code a) → entered image costs starts a body V view ≡ entered image costs starts a body nothing view
          by (On side k) fit = let e = stack-size a in entered-same image costs starts ends quiet body a V nothing c side k (omega (arith, fit, e))
          by Value fit = absurd fit

      jump-end : (aborts : List Handler) (p : ℕ) (V : Numbers) → At image cert costs find p (jump_lines image costs (in_code aborts) p V) → On_line image cert costs find (in_code aborts) p (jumping image costs p V)
      jump-end a p V h =
          same-numbers image cert costs find (in_code a) p (after (extra image costs p) (after (cost_of costs class.Jump) V)) (jumping image costs p V) (λ view. more-more (extra image costs p) (cost_of costs class.Jump) (V view))
          (unit-first image cert costs find (in_code a) (after (cost_of costs class.Jump) V) p h)

      -- the line of a code's first place
      pub code-first : (aborts : List Handler) (code : Code) (V : Numbers) → IsLaidIn image s (stack_of aborts) code → IsLasting ends code → At image cert costs find (entry code) (code_lines image costs starts s aborts code V) →
          On_line image cert costs find (in_code aborts) (exit code) V → On_line image cert costs find (in_code aborts) (entry code) (entered image costs starts aborts code V)
      code-first a (Passed r) V l last h e = region-first image cert costs find (in_code a) r V l.0 h e
      code-first a (Sequence x y) V l last h e =
          let W = entered image costs starts a y V in
          let u = code_lines image costs starts s a x W in
          let v = code_lines image costs starts s a y V in
          let second = code-first a y V l.1 last.1 (at-right cert u v (entry x) (entry y) (code-size image costs starts s a x W l.0 ∙ l.2) h) e in
          code-first a x W l.0 last.0 (at-left cert u v (entry x) h) (moved image cert costs find (in_code a) (entry y) (exit x) W (sym l.2) second)
      code-first a (Either p n at x y) V l last h e =
          let J = jumping image costs (exit x) V in
          let B = branched image costs (entered image costs starts a x J) (entered image costs starts a y V) in
          let t = test_lines image costs (in_code a) p n at B in
          let u = code_lines image costs starts s a x J in
          let j = jump_lines image costs (in_code a) (exit x) V in
          let v = code_lines image costs starts s a y V in
          test-first image cert costs find (in_code a) p n at B l.0 (at-left cert t u p (at-left cert (t ++ u) j p (at-left cert (t ++ u ++ j) v p h)))
      code-first a (Turns p n at body q) V l last h e =
          let H = entered image costs starts a (Turns p n at body q) V in
          let B = branched image costs (entered image costs starts a body nothing) V in
          let t = test_lines image costs (in_code a) p n at B in
          let u = code_lines image costs starts s a body (jumping image costs (exit body) H) in
          let j = jump_lines image costs (in_code a) (exit body) H in
          test-first image cert costs find (in_code a) p n at B l.0 (at-left cert t u p (at-left cert (t ++ u) j p h))
      code-first a (Forever body q) V l last h e =
          let H = entered image costs starts a body nothing in
          let J = jumping image costs (exit body) H in
          let u = code_lines image costs starts s a body J in
          let j = jump_lines image costs (in_code a) (exit body) H in
          let back = jump-end a (exit body) H (at-right cert u j (entry body) (exit body) (code-size image costs starts s a body J l.0) h) in
          body-first a body J (entry body) last.1 (code-first a body J l.0 last.0 (at-left cert u j (entry body) h) back)
      code-first a (Resting p) V l last h e = h.0
      code-first a (Forking p lo n) V l last h e = h.0
      code-first a (Guarded p j body) V l last h e = h.0

      module _ (around : Around s) where
        -- numbers of a code's kind are there at each level
        full-in : (aborts : List Handler) (code : Code) (V : Numbers) → IsLaidIn image s (stack_of aborts) code → IsLasting ends code → IsFull (in_code aborts) V → IsFull (in_code aborts) (entered image costs starts aborts code V)
        full-in a code V l last full k w =
            let e = stack-size a in
            entered-full image costs starts ends quiet code a V last (parents-of image costs starts ends quiet s around.there (stack_of a) code l) (λ i x. full i (omega (arith, x, e))) k (omega (arith, w, e))

        body-full : (aborts : List Handler) (body : Code) → IsLaidIn image s (stack_of aborts) body → IsLasting ends body → can_end ends body ≡ false → IsFull (in_code aborts) (entered image costs starts aborts body nothing)
        body-full a body l last c k w =
            let e = stack-size a in
            let Z : Numbers = λ view. Some 0 in
            let t = full-in a body Z l last (λ i x. (ToPause, (0, refl))) k w in
            (t.0, (t.1.0, entered-same image costs starts ends quiet body a nothing Z c t.0 k (omega (arith, w, e)) ∙ t.1.1))

        -- ---- pauses

        known-in : (aborts : List Handler) → AreHandled s 0 [] aborts → Known image cert costs find (in_code aborts)
        known-in a h = (around.inside, aborts-of s 0 [] a h)

        rest-good : (aborts : List Handler) (p : ℕ) (V : Numbers) → IsLaidIn image s (stack_of aborts) (Resting p) → AreHandled s 0 [] aborts → IsPlain image cert costs find p → IsFull (in_code aborts) (entered image costs starts aborts (Resting p) V) →
            On_line image cert costs find (in_code aborts) p (entered image costs starts aborts (Resting p) V) → On_line image cert costs find (in_code aborts) (p + 1) V → Good image cert costs find p
        rest-good a p V l handles plain full here next =
            let k = in_code a in
            let E = entered image costs starts a (Resting p) V in
            let c = cost_of costs class.Eot in
            let G : Option Instr → Type 0 = λ o. IsStepWith image cert costs find o p s (stack_of a) in
            place-good image cert costs find k E p Eot here (known-in a handles) full (ap (read image p) plain ∙ l.0)
            (λ un. and-two (is_listed image.pauses p s (stack_of a)) (keeps_kind image cert (numbers.line k E) (p + 1)) l.1 (keeps image cert costs find k E V (p + 1) next)) (λ view fit. tt) (λ g x. absurd x)
            (λ x. subst G (sym (rest-is image p (instr_at image p) instr.Eot (ap rest_word l.0)))
            (λ side i w. numbered image cert costs find k E p (On side i) here w full ∙ ap (more c) (sym (resting-is s side a i handles))))

        -- ---- forks

        range-places : (P : ℕ → Type 0) (n c goal : ℕ) → c + n ≤ length image.slots → ((x : ℕ) → c ≤ x → x < c + n → P (start_of image x)) → IsAmong goal (flat_map (λ x. place_in (slice_get image.slots x)) (range_with_len c n)) → P goal
        range-places P zero c goal room f h = absurd h
        range-places P (suc n) c goal room f h =
            let g : ℕ → List ℕ = λ x. place_in (slice_get image.slots x) in
            let one : g c ≡ start_of image c ∷ [] = ap place_in (slot-there image.slots c (omega (arith, room))) in
            let A : List ℕ → Type 0 = λ l. IsAmong goal l in
            ⊎_elim (λ x. ⊎_elim (λ e. subst P e (f c (omega arith) (omega arith))) (λ y. absurd y) (subst A one x))
            (λ x. range-places P n (c + 1) goal (omega (arith, room)) (λ y low high. f y (omega (arith, low)) (omega (arith, high))) x) (among-either goal (g c) (flat_map g (range_with_len (c + 1) n)) h)
          where
            slot-there : (slots : List ℕ) (i : ℕ) → i < length slots → slice_get slots i ≡ Some (slice_index_or slots i 0)
            slot-there [] i h = absurd (omega (arith, h))
            slot-there (x ∷ slots) zero h = refl
            slot-there (x ∷ slots) (suc i) h = slot-there slots i (omega (arith, h))

        kids-start : (n c : ℕ) → ((x : ℕ) → c ≤ x → x < c + n → is_thread x [] [] (line_at cert.lines (start_of image x)) ≡ true) →
            list_all (λ child. is_thread child [] [] (line_at cert.lines (start_of image child))) (range_with_len c n) ≡ true
        kids-start zero c h = refl
        kids-start (suc n) c h =
            and-two (is_thread c [] [] (line_at cert.lines (start_of image c))) (list_all (λ child. is_thread child [] [] (line_at cert.lines (start_of image child))) (range_with_len (c + 1) n)) (h c (omega arith) (omega arith))
            (kids-start n (c + 1) (λ x low high. h x (omega (arith, low)) (omega (arith, high))))

        fork-good : (aborts : List Handler) (p lo n : ℕ) (V : Numbers) → IsLaidIn image s (stack_of aborts) (Forking p lo n) → AreHandled s 0 [] aborts → IsPlain image cert costs find p → IsFull (in_code aborts) V → IsFull (in_code aborts) (entered image costs starts aborts (Forking p lo n) V) →
            On_line image cert costs find (in_code aborts) p (entered image costs starts aborts (Forking p lo n) V) → On_line image cert costs find (in_code aborts) (p + 1) V → Good image cert costs find p
        fork-good a p lo n V l handles plain fullV full here next =
            let k = in_code a in
            let E = entered image costs starts a (Forking p lo n) V in
            let c = cost_of costs class.Fork in
            let low = l.2 in
            let some = l.3 in
            let high = l.4 in
            let listed = is_listed image.forks p s (stack_of a) in
            let kids = children_start image cert lo n in
            let G : Option Instr → Type 0 = λ o. IsStepWith image cert costs find o p s (stack_of a) in
            let child : (x : ℕ) → lo ≤ x → x < lo + n → (is_thread x [] [] (line_at cert.lines (start_of image x)) ≡ true) × IsPlain image cert costs find (start_of image x) =
            λ x b t. around.child x (omega (arith, low, b)) (omega (arith, high, t)) in
            let alike : (side : Side) (x : ℕ) → lo ≤ x → x < lo + n → begins image cert costs side x ≡ starts side x = λ side x b t. around.begins_is side x (omega (arith, low, b)) (omega (arith, high, t)) in
            place-good image cert costs find k E p (Fork lo n) here (known-in a handles) full (ap (read image p) plain ∙ l.0)
            (λ un. and-two (listed && nat_lt s lo && nat_lt 0 n && nat_le (lo + n) (length image.slots) && kids) (keeps_kind image cert (numbers.line k E) (p + 1))
            (and-two (listed && nat_lt s lo && nat_lt 0 n && nat_le (lo + n) (length image.slots)) kids
            (and-two (listed && nat_lt s lo && nat_lt 0 n) (nat_le (lo + n) (length image.slots)) (and-two (listed && nat_lt s lo) (nat_lt 0 n) (and-two listed (nat_lt s lo) l.1 (lt-test s lo low)) (lt-test 0 n (omega (arith, some))))
            (le-test (lo + n) (length image.slots) high)) (kids-start n lo (λ x b t. (child x b t).0)))
            (keeps image cert costs find k E V (p + 1) next))
            (λ view fit. tt) (λ g x. range-places (IsPlain image cert costs find) n lo g high (λ y b t. (child y b t).1) x)
            (λ x. subst G (sym (rest-is image p (instr_at image p) (instr.Fork lo n) (ap rest_word l.0)))
            (λ side i w.
            let v = sym (numbered image cert costs find k V (p + 1) (On side i) next w fullV) in
            let r = sym (resting-is s side a i handles) in
            let m = sym (paused-alike (begins image cert costs) starts n lo alike) in
            let z = sym (ends-alike (begins image cert costs) starts n lo alike) in
            numbered image cert costs find k E p (On side i) here w full
            ∙ ap (λ o. more c (greater (plus o (rested image costs a (On side i))) (plus (all_ends starts lo n) (V (On side i))))) m
            ∙ ap (λ o. more c (greater (plus (most_paused (begins image cert costs) lo n) o) (plus (all_ends starts lo n) (V (On side i))))) r
            ∙ ap (λ o. more c (greater (plus (most_paused (begins image cert costs) lo n) (resting image cert costs (stack_of a) i side)) (plus o (V (On side i))))) z
            ∙ ap (λ o. more c (greater (plus (most_paused (begins image cert costs) lo n) (resting image cert costs (stack_of a) i side)) (plus (all_ends (begins image cert costs) lo n) o))) v))

        -- ---- aborts

        -- the kind of an abort's body
        inner-kind : (aborts : List Handler) (j : ℕ) (V : Numbers) → in_code (with_abort image costs aborts j V) ≡ thread s (stack_of aborts ++ j ∷ []) []
        inner-kind a j V = ap (λ l. thread s l []) (stack-with a (j, level V (length a)))

        enter-good : (aborts : List Handler) (p j : ℕ) (body : Code) (V W : Numbers) → IsLaidIn image s (stack_of aborts) (Guarded p j body) → AreHandled s 0 [] aborts → IsPlain image cert costs find p →
            IsFull (in_code aborts) (after (cost_of costs class.Abrt) W) → IsFull (in_code (with_abort image costs aborts j V)) W → On_line image cert costs find (in_code aborts) p (after (cost_of costs class.Abrt) W) →
            On_line image cert costs find (in_code (with_abort image costs aborts j V)) (p + 1) W → Good image cert costs find p
        enter-good a p j body V W l handles plain full fullW here next =
            let k = in_code a in
            let A = with_abort image costs a j V in
            let c = cost_of costs class.Abrt in
            let E = after c W in
            let stack = stack_of a in
            let size : length (stack_of A) ≡ length stack + 1 = ap (λ (x : List ℕ). length x) (stack-with a (j, level V (length a))) ∙ length-last stack j in
            let there : is_thread s (stack ++ j ∷ []) [] (line_at cert.lines (p + 1)) ≡ true =
            ap (is_thread s (stack ++ j ∷ []) []) (next ∙ ap (λ x. numbers.line x W) (inner-kind a j V)) ∙ own-thread s (stack ++ j ∷ []) [] (map (level W) (range_with_len 0 (length (stack ++ j ∷ []) + 1))) in
            let G : Option Instr → Type 0 = λ o. IsStepWith image cert costs find o p s stack in
            let inner : (side : Side) (i : ℕ) → i ≤ length stack → number image cert costs (On side i) (p + 1) ≡ W (On side i) =
            λ side i w. numbered image cert costs find (in_code A) W (p + 1) (On side i) next (omega (arith, w, size)) fullW in
            place-good image cert costs find k E p (Abrt j) here (known-in a handles) full (ap (read image p) plain ∙ l.0)
            (λ un. and-two (nat_lt j (length image.aborts) && nat_lt (length stack) 8) (is_thread s (stack ++ j ∷ []) [] (line_at cert.lines (p + 1)))
            (and-two (nat_lt j (length image.aborts)) (nat_lt (length stack) 8) (lt-test j (length image.aborts) l.1) (lt-test (length stack) 8 l.2)) there)
            (λ view fit. edges view fit inner) (λ g x. absurd x)
            (λ x. subst G (sym (rest-is image p (instr_at image p) (instr.Abrt j) (ap rest_word l.0)))
            (λ side i w. numbered image cert costs find k E p (On side i) here w full ∙ ap (more c) (sym (inner side i w))))
          where
            edges : (view : View) → Fits view (in_code a) → ((side : Side) (i : ℕ) → i ≤ length (stack_of a) → number image cert costs (On side i) (p + 1) ≡ W (On side i)) → AllHold (edge image cert costs p view (cost_of costs class.Abrt) (p + 1))
            edges (On side i) fit f =
                edge-holds image cert costs find p (On side i) (cost_of costs class.Abrt) (p + 1) (more (cost_of costs class.Abrt) (W (On side i))) (W (On side i))
                (numbered image cert costs find (in_code a) (after (cost_of costs class.Abrt) W) p (On side i) here fit full) (f side i fit) (itself image cert costs find (more (cost_of costs class.Abrt) (W (On side i))))
            edges Value fit f = absurd fit

        leave-good : (aborts : List Handler) (p j : ℕ) (V : Numbers) → IsWord image p Leave → AreHandled s 0 [] (with_abort image costs aborts j V) → IsPlain image cert costs find p → IsFull (in_code aborts) V →
            IsFull (in_code (with_abort image costs aborts j V)) (left image costs aborts V) → On_line image cert costs find (in_code (with_abort image costs aborts j V)) p (left image costs aborts V) →
            On_line image cert costs find (in_code aborts) (p + 1) V → Good image cert costs find p
        leave-good a p j V word handles plain fullV full here next =
            let A = with_abort image costs a j V in
            let k = in_code A in
            let c = cost_of costs class.Leave in
            let E = left image costs a V in
            let stack = stack_of a in
            let same = stack-with a (j, level V (length a)) in
            let last : last_of (stack_of A) ≡ Some (stack, j) = ap last_of same ∙ last-added stack j in
            let size : length (stack_of A) ≡ length stack + 1 = ap (λ (x : List ℕ). length x) same ∙ length-last stack j in
            let short = stack-size a in
            let G : Option Instr → Type 0 = λ o. IsStepWith image cert costs find o p s (stack_of A) in
            let outer : (side : Side) (i : ℕ) → number image cert costs (On side (min i (length (stack_of A) - 1))) (p + 1) ≡ V (On side (min i (length a))) =
            λ side i.
            let e : min i (length (stack_of A) - 1) ≡ min i (length a) = omega (arith, size, short) in
            ap (λ n. number image cert costs (On side n) (p + 1)) e ∙ numbered image cert costs find (in_code a) V (p + 1) (On side (min i (length a))) next (omega (arith, short)) fullV in
            let W : Option (List ℕ × ℕ) → Type 0 = λ o. on_last o (λ outside x. is_thread s outside [] (line_at cert.lines (p + 1))) ≡ true in
            place-good image cert costs find k E p Leave here (known-in A handles) full (ap (read image p) plain ∙ word)
            (λ un. subst W (sym last) (ap (is_thread s stack []) next ∙ own-thread s stack [] (map (level V) (range_with_len 0 (length stack + 1)))))
            (λ view fit. edges view fit outer) (λ g x. absurd x)
            (λ x. subst G (sym (rest-is image p (instr_at image p) instr.Leave (ap rest_word word)))
            (λ side i w. numbered image cert costs find k E p (On side i) here w full ∙ ap (more c) (sym (outer side i))))
          where
            edges : (view : View) → Fits view (in_code (with_abort image costs a j V)) →
                ((side : Side) (i : ℕ) → number image cert costs (On side (min i (length (stack_of (with_abort image costs a j V)) - 1))) (p + 1) ≡ V (On side (min i (length a)))) →
                AllHold (at_least 3 p (level_of view) (number image cert costs view p) (more (cost_of costs class.Leave) (number image cert costs (left_view image cert costs (length (stack_of (with_abort image costs a j V))) view) (p + 1))))
            edges (On side i) fit f =
                let A = with_abort image costs a j V in
                let c = cost_of costs class.Leave in
                let C : Option ℕ → Option ℕ → Type 0 = λ x y. Covers x (more c y) in
                let n = numbered image cert costs find (in_code A) (left image costs a V) p (On side i) here fit full in
                holds-of 3 p i (number image cert costs (On side i) p) (more c (number image cert costs (On side (min i (length (stack_of A) - 1))) (p + 1)))
                (subst (λ x. C x (number image cert costs (On side (min i (length (stack_of A) - 1))) (p + 1))) (sym n)
                (subst (λ y. C (more c (V (On side (min i (length a))))) y) (sym (f side i)) (itself image cert costs find (more c (V (On side (min i (length a))))))))
            edges Value fit f = absurd fit

        -- ---- the law

        abbrev pub CodeLaw : List Handler → Code → Type 0
        CodeLaw aborts code = (V : Numbers) → IsLaidIn image s (stack_of aborts) code → EachCall (IsCalled image cert costs find) code → AreWeighedIn code → AreListedIn code → IsLasting ends code → IsPlain image cert costs find (entry code) → AreHandled s 0 [] aborts →
            IsFull (in_code aborts) V → At image cert costs find (entry code) (code_lines image costs starts s aborts code V) → On_line image cert costs find (in_code aborts) (exit code) V → Every (entry code) (exit code) (Good image cert costs find)

        from-other : (p q m : ℕ) → q ≡ p → Every p m (Good image cert costs find) → Every q m (Good image cert costs find)
        from-other p q m e f x a b = f x (omega (arith, e, a)) b

        to-other : (p m q : ℕ) → m ≡ q → Every p m (Good image cert costs find) → Every p q (Good image cert costs find)
        to-other p m q e f x a b = f x a (omega (arith, e, b))

        sequence-law : (a : List Handler) (x y : Code) → CodeLaw a x → CodeLaw a y → CodeLaw a (Sequence x y)
        sequence-law a x y first second V l calls weighed listed last plain handles full h e =
            let W = entered image costs starts a y V in
            let u = code_lines image costs starts s a x W in
            let v = code_lines image costs starts s a y V in
            let P : ℕ → Type 0 = IsPlain image cert costs find in
            let rest = at-right cert u v (entry x) (entry y) (code-size image costs starts s a x W l.0 ∙ l.2) h in
            let there = code-first a y V l.1 last.1 rest e in
            every-join (entry x) (exit x) (exit y) (Good image cert costs find)
            (first W l.0 calls.0 weighed.0 listed.0 last.0 plain handles (full-in a y V l.1 last.1 full) (at-left cert u v (entry x) h) (moved image cert costs find (in_code a) (entry y) (exit x) W (sym l.2) there))
            (from-other (entry y) (exit x) (exit y) l.2 (second V l.1 calls.1 weighed.1 listed.1 last.1 (subst P l.2 (code-plain s (stack_of a) x l.0 plain)) handles full rest e))

        either-law : (a : List Handler) (p n at : ℕ) (x y : Code) → CodeLaw a x → CodeLaw a y → CodeLaw a (Either p n at x y)
        either-law a p n at x y first second V l calls weighed listed last plain handles full h e =
            let k = in_code a in
            let J = jumping image costs (exit x) V in
            let X = entered image costs starts a x J in
            let Y = entered image costs starts a y V in
            let B = branched image costs X Y in
            let P : ℕ → Type 0 = IsPlain image cert costs find in
            let G = Good image cert costs find in
            let t = test_lines image costs k p n at B in
            let u = code_lines image costs starts s a x J in
            let j = jump_lines image costs k (exit x) V in
            let v = code_lines image costs starts s a y V in
            let s1 = test-size image costs k p n at B l.0 in
            let s2 = size-join p (behind image at) (exit x) t u s1 (size-from (behind image at) (entry x) (exit x) u l.2 (code-size image costs starts s a x J l.3)) in
            let s3 = size-join p (exit x) (entry y) (t ++ u) j s2 (unit-size image costs k (exit x) (after (cost_of costs class.Jump) V) ∙ l.5) in
            let h2 = at-left cert (t ++ u ++ j) v p h in
            let h1 = at-left cert (t ++ u) j p h2 in
            let tests = at-left cert t u p h1 in
            let firsts = at-right cert t u p (entry x) (s1 ∙ l.2) h1 in
            let jumps = at-right cert (t ++ u) j p (exit x) s2 h2 in
            let seconds = at-right cert (t ++ u ++ j) v p (entry y) s3 h in
            let x_plain : P (entry x) = subst P l.2 (unit-plain image cert costs find at (Branch (Some (entry y))) l.1 refl) in
            let back_plain : P (exit x) = code-plain s (stack_of a) x l.3 x_plain in
            let y_plain : P (entry y) = subst P l.5 (unit-plain image cert costs find (exit x) (Jump (Some (exit y))) l.4 refl) in
            let end_plain : P (exit y) = code-plain s (stack_of a) y l.6 y_plain in
            let fullJ : IsFull k J = later a (extra image costs (exit x) + cost_of costs class.Jump) V full in
            let x_end = jump-end a (exit x) V jumps in
            let x_here = code-first a x J l.3 last.0 firsts x_end in
            let y_here = code-first a y V l.6 last.1 seconds e in
            let known = known-in a handles in
            every-join p (behind image at) (exit y) G
            (test-law image cert costs find positive k p n at (entry y) X Y l.0 l.1 tt plain known tests (moved image cert costs find k (entry x) (behind image at) X (sym l.2) x_here) (full-in a x J l.3 last.0 fullJ) y_here y_plain (full-in a y V l.6 last.1 full))
            (every-join (behind image at) (exit x) (exit y) G (from-other (entry x) (behind image at) (exit x) l.2 (first J l.3 calls.0 weighed.0 listed.0 last.0 x_plain handles fullJ firsts x_end))
            (every-join (exit x) (entry y) (exit y) G
            (to-other (exit x) (behind image (exit x)) (entry y) l.5 (jump-law image cert costs find positive k (exit x) (exit y) V l.4 tt back_plain known full jumps e end_plain))
            (second V l.6 calls.1 weighed.1 listed.1 last.1 y_plain handles full seconds e)))

        turns-law : (a : List Handler) (p n at : ℕ) (body : Code) (q : ℕ) → CodeLaw a body → CodeLaw a (Turns p n at body q)
        turns-law a p n at body q ih V l calls weighed listed last plain handles full h e =
            let k = in_code a in
            let X = entered image costs starts a body nothing in
            let B = branched image costs X V in
            let H = testing image costs p n at B in
            let J = jumping image costs (exit body) H in
            let P : ℕ → Type 0 = IsPlain image cert costs find in
            let G = Good image cert costs find in
            let t = test_lines image costs k p n at B in
            let u = code_lines image costs starts s a body J in
            let j = jump_lines image costs k (exit body) H in
            let s1 = test-size image costs k p n at B l.0 in
            let s2 = size-join p (behind image at) (exit body) t u s1 (size-from (behind image at) (entry body) (exit body) u l.2 (code-size image costs starts s a body J l.3)) in
            let h1 = at-left cert (t ++ u) j p h in
            let tests = at-left cert t u p h1 in
            let bodies = at-right cert t u p (entry body) (s1 ∙ l.2) h1 in
            let jumps = at-right cert (t ++ u) j p (exit body) s2 h in
            let body_plain : P (entry body) = subst P l.2 (unit-plain image cert costs find at (Branch (Some q)) l.1 refl) in
            let back_plain : P (exit body) = code-plain s (stack_of a) body l.3 body_plain in
            let end_plain : P q = subst P l.5 (unit-plain image cert costs find (exit body) (Jump (Some p)) l.4 refl) in
            let fullH : IsFull k H = full-in a (Turns p n at body q) V l last full in
            let fullJ : IsFull k J = later a (extra image costs (exit body) + cost_of costs class.Jump) H fullH in
            let body_end = jump-end a (exit body) H jumps in
            let body_here = body-first a body J (entry body) last.1 (code-first a body J l.3 last.0 bodies body_end) in
            let head = test-first image cert costs find k p n at B l.0 tests in
            let known = known-in a handles in
            let fullX : IsFull k X = body-full a body l.3 last.0 last.1 in
            every-join p (behind image at) q G
            (test-law image cert costs find positive k p n at q X V l.0 l.1 tt plain known tests (moved image cert costs find k (entry body) (behind image at) X (sym l.2) body_here) fullX e end_plain full)
            (every-join (behind image at) (exit body) q G (from-other (entry body) (behind image at) (exit body) l.2 (ih J l.3 calls weighed listed last.0 body_plain handles fullJ bodies body_end))
            (to-other (exit body) (behind image (exit body)) q l.5 (jump-law image cert costs find positive k (exit body) p H l.4 tt back_plain known fullH jumps head plain)))

        forever-law : (a : List Handler) (body : Code) (q : ℕ) → CodeLaw a body → CodeLaw a (Forever body q)
        forever-law a body q ih V l calls weighed listed last plain handles full h e =
            let k = in_code a in
            let H = entered image costs starts a body nothing in
            let J = jumping image costs (exit body) H in
            let P : ℕ → Type 0 = IsPlain image cert costs find in
            let u = code_lines image costs starts s a body J in
            let j = jump_lines image costs k (exit body) H in
            let bodies = at-left cert u j (entry body) h in
            let jumps = at-right cert u j (entry body) (exit body) (code-size image costs starts s a body J l.0) h in
            let back_plain : P (exit body) = code-plain s (stack_of a) body l.0 plain in
            let fullH : IsFull k H = full-in a (Forever body q) V l last full in
            let fullJ : IsFull k J = later a (extra image costs (exit body) + cost_of costs class.Jump) H fullH in
            let body_end = jump-end a (exit body) H jumps in
            let body_here = body-first a body J (entry body) last.1 (code-first a body J l.0 last.0 bodies body_end) in
            every-join (entry body) (exit body) q (Good image cert costs find) (ih J l.0 calls weighed listed last.0 plain handles fullJ bodies body_end)
            (to-other (exit body) (behind image (exit body)) q l.2 (jump-law image cert costs find positive k (exit body) (entry body) H l.1 tt back_plain (known-in a handles) fullH jumps body_here plain))

        guarded-law : (a : List Handler) (p j : ℕ) (body : Code) → ((V : Numbers) → CodeLaw (with_abort image costs a j V) body) → CodeLaw a (Guarded p j body)
        guarded-law a p j body ih V l calls weighed listed last plain handles full h e =
            let k = in_code a in
            let A = with_abort image costs a j V in
            let inner = in_code A in
            let L = left image costs a V in
            let W = entered image costs starts A body L in
            let M = after (cost_of costs class.Abrt) W in
            let P : ℕ → Type 0 = IsPlain image cert costs find in
            let G = Good image cert costs find in
            let u = code_lines image costs starts s A body L in
            let same = stack-with a (j, level V (length a)) in
            let I : List ℕ → Type 0 = λ stack. IsLaidIn image s stack body in
            let laid : I (stack_of A) = subst I (sym same) l.4 in
            let x = stack-size a in
            let z = stack-size A in
            let y = append-size a ((j, level V (length a)) ∷ []) in
            -- the handler
            let goal = (abort_at image j).handler in
            let at_handler : goal ≡ exit body + 1 = l.6 in
            let end_plain : P (exit body + 1) = plain-next image cert costs find (exit body) None Leave l.5 refl in
            let condition = around.condition j l.1 in
            let T : ℕ → Type 0 = λ g. is_thread s (stack_of a) [] (line_at cert.lines g) ≡ true in
            let N : ℕ → Type 0 = λ g. (side : Side) → number image cert costs (On side (length a)) g ≡ on_side side (Some (level V (length a))) in
            let own : AreHandled s (0 + length a) ([] ++ stack_of a) ((j, level V (length a)) ∷ []) = (
              l.1,
              condition.0,
              condition.1,
              subst T (sym at_handler) (ap (is_thread s (stack_of a) []) e ∙ own-thread s (stack_of a) [] (map (level V) (range_with_len 0 (length (stack_of a) + 1)))),
              subst P (sym at_handler) end_plain,
              zero-level (length a) (λ i eq. subst (λ g. (side : Side) → number image cert costs (On side i) g ≡ on_side side (Some (level V (length a)))) (sym at_handler)
                  (λ side. ap (λ n. number image cert costs (On side n) (exit body + 1)) eq ∙ numbered image cert costs find k V (exit body + 1) (On side (length a)) e (omega (arith, x)) full ∙ sides V (length a) side)),
              tt,
            ) in
            let all : AreHandled s 0 [] A = handled-more s 0 [] a (j, level V (length a)) handles own in
            let fullL : IsFull inner L = left-full V full (length (stack_of A)) in
            let fullW : IsFull inner W = full-in A body L laid last fullL in
            let fullM : IsFull k M = full-in a (Guarded p j body) V l last full in
            let s1 = size-one p (numbers.line k M) (exit body) u (size-from (p + 1) (entry body) (exit body) u l.3 (code-size image costs starts s A body L laid)) in
            let h1 = at-left cert (numbers.line k M ∷ u) (numbers.line inner L ∷ []) p h in
            let leaves = at-right cert (numbers.line k M ∷ u) (numbers.line inner L ∷ []) p (exit body) s1 h in
            let At_u : ℕ → Type 0 = λ g. At image cert costs find g u in
            let bodies : At_u (entry body) = subst At_u l.3 h1.1 in
            let body_plain : P (entry body) = subst P l.3 (plain-next image cert costs find p None (Abrt j) l.0 refl) in
            let body_here = code-first A body L laid last bodies leaves.0 in
            every-join p (p + 1) (exit body + 1) G
            (every-one p G (enter-good a p j body V W l handles plain fullM fullW h1.0 (moved image cert costs find inner (entry body) (p + 1) W (sym l.3) body_here)))
            (every-join (p + 1) (exit body) (exit body + 1) G (from-other (entry body) (p + 1) (exit body) l.3 (ih V L laid calls weighed listed last body_plain all fullL bodies leaves.0))
            (every-one (exit body) G (leave-good a (exit body) j V l.5 all (code-plain s (stack_of A) body laid body_plain) full fullL leaves.0 e)))
          where
            sides : (V : Numbers) (n : ℕ) (side : Side) → V (On side n) ≡ on_side side (Some (level V n))
            sides V n ToPause = refl
            sides V n ToEnd = refl

            zero-level : {X : ℕ → Type 0} (n : ℕ) → ((i : ℕ) → i ≡ n → X i) → X (0 + n)
            zero-level n f = f (0 + n) (omega arith)

            left-full : (V : Numbers) → IsFull (in_code a) V → (m k : ℕ) → k ≤ m → (side : Side) × There (left image costs a V (On side k))
            left-full V f m k w =
                let e = stack-size a in
                let t = f (min k (length a)) (omega (arith, e)) in
                (t.0, there-more (cost_of costs class.Leave) (V (On t.0 (min k (length a)))) t.1)

        pub code-law : (a : List Handler) (code : Code) → CodeLaw a code
        code-law a (Passed r) = λ V l calls weighed listed last plain handles full h e.
            let few = l.1 in
            region-law image cert costs find positive (in_code a) r tt V l.0 calls weighed listed (l.2, l.3) (omega (arith, few)) plain (known-in a handles) full h e
        code-law a (Sequence x y) = sequence-law a x y (code-law a x) (code-law a y)
        code-law a (Either p n at x y) = either-law a p n at x y (code-law a x) (code-law a y)
        code-law a (Turns p n at body q) = turns-law a p n at body q (code-law a body)
        code-law a (Forever body q) = forever-law a body q (code-law a body)
        code-law a (Resting p) = λ V l calls weighed listed last plain handles full h e. every-one p (Good image cert costs find) (rest-good a p V l handles plain (full-in a (Resting p) V l last full) h.0 e)
        code-law a (Forking p lo n) = λ V l calls weighed listed last plain handles full h e. every-one p (Good image cert costs find) (fork-good a p lo n V l handles plain full (full-in a (Forking p lo n) V l last full) h.0 e)
        code-law a (Guarded p j body) = guarded-law a p j body (λ V. code-law (with_abort image costs a j V) body)
