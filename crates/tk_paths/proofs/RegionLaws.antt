-- Each place of a region that lies in an image is good, where the lines from its beginning on are those of the region.
use Rattle.std.proofs.Common.{◌≡◌, ◌≤◌, ◌<◌, ◌+◌, ◌*◌, ◌++◌, ◌==◌, ◌&&◌, ℕ, suc, nat_lt, Bool, true, false, if◌then◌else◌, List, [], ◌∷◌, is_some, length, Option, Some, None, refl, sym, ap, ◌∙◌, subst, ⊎_elim, arith}
use Rattle.mb_isa.specs.declared.Class.{Class}
use Rattle.mb_isa.specs.declared.Class.TheVariants as class
use Rattle.mb_isa.specs.Costs.{cost_of}
use Rattle.mb_pfu.specs.Calls.{last_of}
use Rattle.pt_image.specs.declared.Parts.{Parts}
use Rattle.tk_cert.specs.declared.cert.Line.TheVariants as lines
use Rattle.tk_cert.specs.declared.cert.CertParts.{CertParts}
use Rattle.tk_cert.specs.Demands.{at_least}
use Rattle.tk_paths.specs.declared.view.View.{View}
use Rattle.tk_paths.specs.declared.view.View.TheVariants.{On, Value}
use Rattle.tk_paths.specs.declared.word.Word.TheVariants.{Jump, Branch, Call, Loop, Next, Drop}
use Rattle.tk_paths.specs.Sums.{lowered, or_zero}
use Rattle.tk_paths.specs.Words.{instr_at, read}
use Rattle.tk_paths.specs.Kinds.{line_at, loops_of, is_inside}
use Rattle.tk_paths.specs.Shape.{weight_in, on_last, may_call, may_loop, keeps_kind}
use Rattle.tk_paths.specs.Acceptance.{level_of, number, value, value_of, weight, more, inner_weight, edge}
use Rattle.tk_paths.proofs.Lists.{IsAmong}
use Rattle.tk_paths.specs.Regions.{Region, Words, Then, Choice, Counted, Repeated, Calling, from, to, behind_half, word_place, behind, unit_word, IsUnit, IsWord, IsLaid, extra, units_cost, test_cost, leaving, through}
use Rattle.tk_paths.specs.Choices.{stretch}
use Rattle.tk_paths.specs.Codes.{loops_in, EachCalled}
use Rattle.tk_paths.specs.Numbers.{Kind, thread, routine, condition, inside, Numbers, just, after, next_number, unit_lines, branched, jumping, jump_lines, testing, test_lines, passing, tested_weight, plain_weight, at_next, at_test, region_lines}
use Rattle.tk_paths.specs.Numbers as numbers
use Rattle.tk_paths.specs.Programs.{height}
use Rattle.tk_paths.proofs.Covered.{Covers, holds-of, all-append, Holding}
use Rattle.tk_paths.proofs.Lines.{Fits, IsFull, full-map, kind_loops, kind-inside, loops-line, at-left, at-right}
use Rattle.tk_paths.proofs.OpenPlaces.{IsStep, IsStepWith, passing as passes}
use Rattle.tk_paths.proofs.Listing.{AreListed, Listed, listed-inside}
use Rattle.tk_paths.proofs.PlaceLaws.{and-two, lt-test, Every, every-one, every-join, no-half, straight-with, straight-at, IsPlain, plain-next, unit-plain, Known, openly-map, Meets, place-good, numbered, edge-holds, itself, full-after, unit-first, unit-good}
use Rattle.tk_paths.proofs.UnitLaws.{more-more, IsCode, unit-size, size-join, test-size, At, Good, On_line, moved, same-numbers, unit-word, units-first, test-first, keeps, opens, code-closes, units-law, jump-law, branched-full, units-plain, test-law}
use Rattle.tk_paths.proofs.Insides.{choice-sum, counted-sum, repeated-sum, turn-covers, out-covers, round-covers, next-there, last-added, code-inside, loops-inside, inside-is, outside-is, fits-inside, full-inside, length-last, not-empty, HasRoom, room-less, room-inside, may-loop, size-from, size-one, region-size}

module _ (image : Parts) (cert : CertParts) (costs : List ℕ) (find : ℕ → Option Region) where
  -- a region's words end with no upper half
  pub region-plain : (r : Region) → IsLaid image r → IsPlain image cert costs find (from r) → IsPlain image cert costs find (to r)
  region-plain (Words p n q) l c = units-plain image cert costs find n p q l c
  region-plain (Then x y) l c = let P : ℕ → Type 0 = IsPlain image cert costs find in region-plain y l.1 (subst P l.2 (region-plain x l.0 c))
  region-plain (Choice p n at x y) l c =
      let P : ℕ → Type 0 = IsPlain image cert costs find in
      region-plain y l.6 (subst P l.5 (unit-plain image cert costs find (to x) (Jump (Some (to y))) l.4 refl))
  region-plain (Counted p m n at body q) l c = plain-next image cert costs find q None Drop l.8 refl
  region-plain (Repeated p m body q) l c = let P : ℕ → Type 0 = IsPlain image cert costs find in subst P l.5 (unit-plain image cert costs find (to body) (Jump (Some (behind image p))) l.4 refl)
  region-plain (Calling p callee) l c = plain-next image cert costs find p None (Call (from callee)) l.0 refl

  -- the line of a region's first place
  pub region-first : (kind : Kind) (r : Region) (V : Numbers) → IsLaid image r → At image cert costs find (from r) (region_lines image costs kind r V) → On_line image cert costs find kind (to r) V → On_line image cert costs find kind (from r) (passing image costs r V)
  region-first kind (Words p n q) V l h e = units-first image cert costs find kind n p q V l h e
  region-first kind (Then x y) V l h e =
      let W = passing image costs y V in
      let a = region_lines image costs kind x W in
      let b = region_lines image costs kind y V in
      let second = region-first kind y V l.1 (at-right cert a b (from x) (from y) (region-size image costs kind x W l.0 ∙ l.2) h) e in
      same-numbers image cert costs find kind (from x) (passing image costs x W) (passing image costs (Then x y) V) (λ view. more-more (through image costs x) (through image costs y) (V view))
      (region-first kind x W l.0 (at-left cert a b (from x) h) (moved image cert costs find kind (from y) (to x) W (sym l.2) second))
  region-first kind (Choice p n at x y) V l h e =
      let J = jumping image costs (to x) V in
      let B = branched image costs (passing image costs x J) (passing image costs y V) in
      let t = test_lines image costs kind p n at B in
      let a = region_lines image costs kind x J in
      let j = jump_lines image costs kind (to x) V in
      let b = region_lines image costs kind y V in
      let T = units_cost image costs p n + extra image costs at in
      same-numbers image cert costs find kind p (testing image costs p n at B) (passing image costs (Choice p n at x y) V)
      (λ view. choice-sum T (cost_of costs class.Untaken) (through image costs x) (extra image costs (to x) + cost_of costs class.Jump) (cost_of costs class.Taken) (through image costs y) (V view))
      (test-first image cert costs find kind p n at B l.0 (at-left cert t a p (at-left cert (t ++ a) j p (at-left cert (t ++ a ++ j) b p h))))
  region-first kind (Counted p m n at body q) V l h e =
      let a = word_place image p in
      let inner = inside a kind in
      let w = tested_weight image costs p n at body in
      let N = at_next image costs p n at body V in
      let E = after (cost_of costs class.Loop + suc m * w) N in
      let o = unit_lines image costs kind p E in
      let t = test_lines image costs inner (behind image p + 1) n at (at_test image costs p n at body V) in
      let b = region_lines image costs inner body (jumping image costs (to body) N) in
      let j = jump_lines image costs inner (to body) N in
      let d = numbers.line inner (after (cost_of costs class.Drop) V) ∷ [] in
      let first = at-left cert o (numbers.line inner N ∷ t) p
      (at-left cert (o ++ numbers.line inner N ∷ t) b p (at-left cert (o ++ numbers.line inner N ∷ t ++ b) j p (at-left cert (o ++ numbers.line inner N ∷ t ++ b ++ j) d p h))) in
      same-numbers image cert costs find kind p (after (extra image costs p) E) (passing image costs (Counted p m n at body q) V)
      (λ view. counted-sum (extra image costs p) (cost_of costs class.Loop) (cost_of costs class.Next) (leaving image costs p n at) w m (V view)) (unit-first image cert costs find kind E p first)
  region-first kind (Repeated p m body q) V l h e =
      let a = word_place image p in
      let inner = inside a kind in
      let w = plain_weight image costs body in
      let N = after (cost_of costs class.Next) V in
      let E = after (cost_of costs class.Loop + suc m * w) N in
      let o = unit_lines image costs kind p E in
      let b = region_lines image costs inner body (jumping image costs (to body) N) in
      let j = jump_lines image costs inner (to body) N in
      let first = at-left cert o (numbers.line inner N ∷ b) p (at-left cert (o ++ numbers.line inner N ∷ b) j p h) in
      same-numbers image cert costs find kind p (after (extra image costs p) E) (passing image costs (Repeated p m body q) V)
      (λ view. repeated-sum (extra image costs p) (cost_of costs class.Loop) (cost_of costs class.Next) w m (V view)) (unit-first image cert costs find kind E p first)
  region-first kind (Calling p callee) V l h e = h.0

  -- ---- what a region stands in

  -- a routine that is called has its lines
  pub record IsCalled (callee : Region) : Type 0 where
    pub line : On_line image cert costs find (routine (height callee) []) (from callee) (passing image costs callee (just (cost_of costs class.Ret)))
    pub plain : IsPlain image cert costs find (from callee)

  -- the weights of its loops are in the certificate
  abbrev pub AreWeighed : Region → Type 0
  AreWeighed (Words p n q) = Unit {0}
  AreWeighed (Then x y) = AreWeighed x × AreWeighed y
  AreWeighed (Choice p n at x y) = AreWeighed x × AreWeighed y
  AreWeighed (Counted p m n at body q) = (weight_in cert.weights (word_place image p) ≡ Some (tested_weight image costs p n at body)) × AreWeighed body
  AreWeighed (Repeated p m body q) = (weight_in cert.weights (word_place image p) ≡ Some (plain_weight image costs body)) × AreWeighed body
  AreWeighed (Calling p callee) = Unit {0}

  known-inside : (a : ℕ) (kind : Kind) → Known image cert costs find kind → Known image cert costs find (inside a kind)
  known-inside a (thread s b l) k = k
  known-inside a (routine h l) k = k
  known-inside a condition k = k

  -- inside a loop nothing is asked of the greatest number
  meets-inside : (a p : ℕ) (kind : Kind) → IsCode kind → Meets image cert costs find p (inside a kind)
  meets-inside a p (thread s b []) c = tt
  meets-inside a p (thread s b (x ∷ l)) c = tt
  meets-inside a p (routine h l) c = tt
  meets-inside a p condition c = absurd c

  -- a line of a kind inside a loop, and one outside it
  goes-in : (a : ℕ) (kind : Kind) (V W : Numbers) (q : ℕ) → On_line image cert costs find (inside a kind) q W → is_inside (numbers.line kind V) (loops_of (numbers.line kind V) ++ a ∷ []) (line_at cert.lines q) ≡ true
  goes-in a kind V W q h =
      let m = kind_loops kind ++ a ∷ [] in
      ap (λ l. is_inside (numbers.line kind V) (l ++ a ∷ []) (line_at cert.lines q)) (loops-line kind V)
      ∙ ap (is_inside (numbers.line kind V) m) (h ∙ ap (λ k. numbers.line k W) (inside-is a kind)) ∙ kind-inside kind V W m

  goes-out : (a : ℕ) (kind : Kind) (V W : Numbers) (q : ℕ) → On_line image cert costs find kind q W → is_inside (numbers.line (inside a kind) V) (kind_loops kind) (line_at cert.lines q) ≡ true
  goes-out a kind V W q h =
      ap (is_inside (numbers.line (inside a kind) V) (kind_loops kind)) (h ∙ ap (λ k. numbers.line k W) (outside-is a kind)) ∙ kind-inside (inside a kind) V W (kind_loops kind)

  last-inside : (a : ℕ) (kind : Kind) (V : Numbers) → IsCode kind → last_of (loops_of (numbers.line (inside a kind) V)) ≡ Some (kind_loops kind, a)
  last-inside a kind V c = ap last_of (loops-line (inside a kind) V ∙ loops-inside a kind c) ∙ last-added (kind_loops kind) a

  some-weight : (a w : ℕ) → weight_in cert.weights a ≡ Some w → is_some (weight_in cert.weights a) ≡ true
  some-weight a w e = ap is_some e

  -- the opener of a loop
  module _ (positive : (c : Class) → 1 ≤ cost_of costs c) where
    loop-meets : (kind : Kind) (p w m : ℕ) (r : Region) (V : Numbers) → IsUnit image p (Loop (suc m)) → IsCode kind → IsLaid image r → from r ≡ p → 1 ≤ through image costs r → HasRoom kind r → Listed image cert costs find kind (find p ≡ Some r) →
        On_line image cert costs find kind p (passing image costs r V) → On_line image cert costs find kind (to r) V → IsPlain image cert costs find (to r) → IsFull kind V → Meets image cert costs find p kind
    loop-meets (thread s a []) p w m r V u code laid e one room listed here there plain full =
        let kind = thread s a [] in
        straight-at image cert costs find p s a (Loop (suc m)) u refl
        (passes r laid e one room.0 room.1 (opens image cert costs find s a (to r) V there plain)
        (λ side k within.
        let view = On side k in
        numbered image cert costs find kind (passing image costs r V) p view here within (full-after image cert costs find kind (through image costs r) V full)
        ∙ sym (ap (more (through image costs r)) (numbered image cert costs find kind V (to r) view there within full)))
        (ap (λ o. stretch image find o p) u ∙ listed))
    loop-meets (thread s a (x ∷ l)) p w m r V u code laid e one room listed here there plain full = tt
    loop-meets (routine h l) p w m r V u code laid e one room listed here there plain full = tt
    loop-meets condition p w m r V u code laid e one room listed here there plain full = absurd code

    opener-law : (kind : Kind) (p m w : ℕ) (N : Numbers) → IsUnit image p (Loop (suc m)) → IsCode kind → IsPlain image cert costs find p → Known image cert costs find kind → IsFull kind N → length (kind_loops kind) < 8 →
        weight_in cert.weights (word_place image p) ≡ Some w → At image cert costs find p (unit_lines image costs kind p (after (cost_of costs class.Loop + suc m * w) N)) →
        On_line image cert costs find (inside (word_place image p) kind) (behind image p) N → Meets image cert costs find p kind → Every p (behind image p) (Good image cert costs find)
    opener-law kind p m w N u code plain known full few weighed h next meets =
        let a = word_place image p in
        let inner = inside a kind in
        let c = cost_of costs class.Loop in
        let E = after (c + suc m * w) N in
        let fullE = full-after image cert costs find kind (c + suc m * w) N full in
        let same : weight image cert costs a ≡ w = ap or_zero weighed in
        unit-good image cert costs find kind E p (Loop (suc m)) u refl plain known fullE h
        (λ un. and-two (may_loop (numbers.line kind E) && is_some (weight_in cert.weights a)) (is_inside (numbers.line kind E) (loops_of (numbers.line kind E) ++ a ∷ []) (line_at cert.lines (a + 1)))
        (and-two (may_loop (numbers.line kind E)) (is_some (weight_in cert.weights a)) (may-loop kind E code few) (some-weight a w weighed)) (goes-in a kind E N (a + 1) next))
        (λ view fit.
        let s : E view ≡ more (c + suc m * weight image cert costs a) (N view) = ap (λ x. more (c + suc m * x) (N view)) (sym same) in
        let C : Option ℕ → Type 0 = Covers (E view) in
        edge-holds image cert costs find a view (c + suc m * weight image cert costs a) (a + 1) (E view) (N view) (numbered image cert costs find kind E a view (unit-word image cert costs find kind E p h) fit fullE)
        (numbered image cert costs find inner N (a + 1) view next (fits-in a kind view fit) (full-inside a kind N full)) (subst C s (itself image cert costs find (E view))))
        (λ g k. absurd k) meets
      where
        fits-in : (a : ℕ) (kind : Kind) (view : View) → Fits view kind → Fits view (inside a kind)
        fits-in a (thread s b l) (On side k) f = f
        fits-in a (thread s b l) Value f = f
        fits-in a (routine h l) (On side k) f = f
        fits-in a (routine h l) Value f = f
        fits-in a condition (On side k) f = f
        fits-in a condition Value f = f

    -- a `next`, which goes on at the next place or leaves for q
    next-law : (kind : Kind) (a h q w : ℕ) (V N F : Numbers) → IsWord image h (Next q) → IsCode kind → IsPlain image cert costs find h → Known image cert costs find kind → IsFull kind V → IsFull kind N → IsFull kind F →
        weight_in cert.weights a ≡ Some w → On_line image cert costs find (inside a kind) h N → On_line image cert costs find (inside a kind) (h + 1) F → On_line image cert costs find kind q V → IsPlain image cert costs find q →
        ((view : View) → Covers (N view) (lowered w (more (cost_of costs class.Next) (F view)))) → ((view : View) → Covers (N view) (more (cost_of costs class.Next) (V view))) → Good image cert costs find h
    next-law kind a h q w V N F word code plain known fullV fullN fullF weighed here next there clear turn leave =
        let inner = inside a kind in
        let line = numbers.line inner N in
        let c = cost_of costs class.Next in
        let fV = full-inside a kind V fullV in
        let fN = full-inside a kind N fullN in
        let fF = full-inside a kind F fullF in
        let last = last-inside a kind N code in
        let weighs : inner_weight image cert costs (last_of (loops_of line)) ≡ w = ap (inner_weight image cert costs) last ∙ ap or_zero weighed in
        let W : Option (List ℕ × ℕ) → Type 0 = λ o. on_last o (λ outside x. is_some (weight_in cert.weights x) && keeps_kind image cert line (h + 1) && is_inside line outside (line_at cert.lines q)) ≡ true in
        place-good image cert costs find inner N h (Next q) here (known-inside a kind known) fN (ap (read image h) plain ∙ word)
        (λ un. subst W (sym last)
        (and-two (is_some (weight_in cert.weights a) && keeps_kind image cert line (h + 1)) (is_inside line (kind_loops kind) (line_at cert.lines q))
        (and-two (is_some (weight_in cert.weights a)) (keeps_kind image cert line (h + 1)) (some-weight a w weighed) (keeps image cert costs find inner N F (h + 1) next)) (goes-out a kind N V q there)))
        (λ view fit.
        let out = fits-inside a kind view fit in
        let n = numbered image cert costs find inner N h view here fit fN in
        let f = numbered image cert costs find inner F (h + 1) view next fit fF in
        let first = at_least 3 h (level_of view) (number image cert costs view h) (lowered (inner_weight image cert costs (last_of (loops_of line))) (more c (number image cert costs view (h + 1)))) in
        let C : Option ℕ → ℕ → Option ℕ → Type 0 = λ x y z. Covers x (lowered y (more c z)) in
        let turns : Covers (number image cert costs view h) (lowered (inner_weight image cert costs (last_of (loops_of line))) (more c (number image cert costs view (h + 1)))) =
        subst (λ x. C x (inner_weight image cert costs (last_of (loops_of line))) (number image cert costs view (h + 1))) (sym n)
        (subst (λ y. C (N view) y (number image cert costs view (h + 1))) (sym weighs) (subst (λ z. C (N view) w z) (sym f) (turn view))) in
        all-append Holding first (edge image cert costs h view c q) (holds-of 3 h (level_of view) (number image cert costs view h) (lowered (inner_weight image cert costs (last_of (loops_of line))) (more c (number image cert costs view (h + 1)))) turns)
        (edge-holds image cert costs find h view c q (N view) (V view) n (numbered image cert costs find kind V q view there out fullV) (leave view)))
        (λ g k.
        let A : Bool → Type 0 = λ b. IsAmong g (if b then [] else q ∷ []) in
        let e : (length (loops_of line) == 0) ≡ false = ap (λ l. length l == 0) (loops-line inner N ∙ loops-inside a kind code) ∙ not-empty (kind_loops kind) a in
        ⊎_elim (λ s. subst (IsPlain image cert costs find) s clear) (λ x. absurd x) (subst A e k))
        (λ x. meets-inside a h kind code)

    drop-law : (kind : Kind) (a q : ℕ) (V : Numbers) → IsWord image q Drop → IsCode kind → IsPlain image cert costs find q → Known image cert costs find kind → IsFull kind V →
        On_line image cert costs find (inside a kind) q (after (cost_of costs class.Drop) V) → On_line image cert costs find kind (q + 1) V → Good image cert costs find q
    drop-law kind a q V word code plain known full here next =
        let inner = inside a kind in
        let c = cost_of costs class.Drop in
        let E = after c V in
        let line = numbers.line inner E in
        let fE = full-inside a kind E (full-after image cert costs find kind c V full) in
        let last = last-inside a kind E code in
        let W : Option (List ℕ × ℕ) → Type 0 = λ o. on_last o (λ outside x. is_inside line outside (line_at cert.lines (q + 1))) ≡ true in
        place-good image cert costs find inner E q Drop here (known-inside a kind known) fE (ap (read image q) plain ∙ word)
        (λ un. subst W (sym last) (goes-out a kind E V (q + 1) next))
        (λ view fit. edge-holds image cert costs find q view c (q + 1) (E view) (V view) (numbered image cert costs find inner E q view here fit fE)
        (numbered image cert costs find kind V (q + 1) view next (fits-inside a kind view fit) full) (itself image cert costs find (E view))) (λ g k. absurd k) (λ x. meets-inside a q kind code)

    -- a call
    call-meets : (kind : Kind) (p : ℕ) (callee : Region) (V : Numbers) → IsLaid image (Calling p callee) → IsCode kind → HasRoom kind (Calling p callee) → Listed image cert costs find kind (find p ≡ Some (Calling p callee)) →
        On_line image cert costs find kind p (passing image costs (Calling p callee) V) → On_line image cert costs find kind (p + 1) V → IsPlain image cert costs find p → IsPlain image cert costs find (p + 1) → IsFull kind V → Meets image cert costs find p kind
    call-meets (thread s a []) p callee V laid code room listed here there plain next full =
        let kind = thread s a [] in
        let r = Calling p callee in
        let one = positive class.Call in
        call-at s a
        (passes r laid refl (omega (arith, one)) room.0 room.1 (opens image cert costs find s a (p + 1) V there next)
        (λ side k within.
        let view = On side k in
        numbered image cert costs find kind (passing image costs r V) p view here within (full-after image cert costs find kind (through image costs r) V full)
        ∙ sym (ap (more (through image costs r)) (numbered image cert costs find kind V (p + 1) view there within full)))
        (ap (λ o. stretch image find o p) call-unit ∙ listed))
      where
        call-unit : unit_word image p ≡ Some (Call (from callee))
        call-unit = ap (λ o. read image (behind_half o p) o) (no-half image p None (instr_at image p) (Call (from callee)) laid.0 refl) ∙ laid.0

        call-at : (s : ℕ) (a : List ℕ) → IsStep image cert costs find p s a → IsStepWith image cert costs find (instr_at image p) p s a
        call-at s a g = straight-with image cert costs find p s a (instr_at image p) (Call (from callee)) laid.0 refl g
    call-meets (thread s a (x ∷ l)) p callee V laid code room listed here there plain next full = tt
    call-meets (routine h l) p callee V laid code room listed here there plain next full = tt
    call-meets condition p callee V laid code room listed here there plain next full = absurd code

    may-call : (kind : Kind) (V : Numbers) (p : ℕ) (callee : Region) (n : ℕ) → IsCode kind → HasRoom kind (Calling p callee) → may_call (numbers.line kind V) (lines.Routine (height callee) [] n) ≡ true
    may-call (thread s a l) V p callee n code room = refl
    may-call (routine g l) V p callee n code room = and-two true (nat_lt (height callee) g) refl (lt-test (height callee) g (omega (arith, room)))
    may-call condition V p callee n code room = absurd code

    calling-law : (kind : Kind) (p : ℕ) (callee : Region) (V : Numbers) → IsLaid image (Calling p callee) → IsCalled callee → IsCode kind → HasRoom kind (Calling p callee) → Listed image cert costs find kind (find p ≡ Some (Calling p callee)) → IsPlain image cert costs find p → Known image cert costs find kind → IsFull kind V →
        On_line image cert costs find kind p (passing image costs (Calling p callee) V) → On_line image cert costs find kind (p + 1) V → Good image cert costs find p
    calling-law kind p callee V laid called code room listed plain known full here next =
        let r = Calling p callee in
        let E = passing image costs r V in
        let fE = full-after image cert costs find kind (through image costs r) V full in
        let c = cost_of costs class.Call in
        let ret = cost_of costs class.Ret in
        let t = through image costs callee in
        let to_line = numbers.line (routine (height callee) []) (passing image costs callee (just ret)) in
        let same : value image cert costs (from callee) ≡ t + ret = ap value_of called.line in
        place-good image cert costs find kind E p (Call (from callee)) here known fE (ap (read image p) plain ∙ laid.0)
        (λ un. and-two (may_call (numbers.line kind E) (line_at cert.lines (from callee))) (keeps_kind image cert (numbers.line kind E) (p + 1))
        (ap (may_call (numbers.line kind E)) called.line ∙ may-call kind E p callee (t + ret) code room) (keeps image cert costs find kind E V (p + 1) next))
        (λ view fit.
        let s : E view ≡ more (c + value image cert costs (from callee)) (V view) = ap (λ x. more (c + x) (V view)) (sym same) in
        let C : Option ℕ → Type 0 = Covers (E view) in
        edge-holds image cert costs find p view (c + value image cert costs (from callee)) (p + 1) (E view) (V view) (numbered image cert costs find kind E p view here fit fE) (numbered image cert costs find kind V (p + 1) view next fit full)
        (subst C s (itself image cert costs find (E view))))
        (λ g k. ⊎_elim (λ e. subst (IsPlain image cert costs find) e called.plain) (λ x. absurd x) k)
        (λ x. call-meets kind p callee V laid code room listed here next plain (plain-next image cert costs find p None (Call (from callee)) laid.0 refl) full)

    -- ---- the law

    abbrev pub Law : Kind → Region → Type 0
    Law kind r = (V : Numbers) → IsLaid image r → EachCalled IsCalled r → AreWeighed r → Listed image cert costs find kind (AreListed image cert costs find r) → HasRoom kind r → length (kind_loops kind) + loops_in r ≤ 8 → IsPlain image cert costs find (from r) → Known image cert costs find kind → IsFull kind V →
        At image cert costs find (from r) (region_lines image costs kind r V) → On_line image cert costs find kind (to r) V → Every (from r) (to r) (Good image cert costs find)

    every-from : (p q m : ℕ) → q ≡ p → Every p m (Good image cert costs find) → Every q m (Good image cert costs find)
    every-from p q m e f x a b = f x (omega (arith, e, a)) b

    every-to : (p m q : ℕ) → m ≡ q → Every p m (Good image cert costs find) → Every p q (Good image cert costs find)
    every-to p m q e f x a b = f x a (omega (arith, e, b))

    counted-law : (kind : Kind) (p m n at : ℕ) (body : Region) (q : ℕ) → IsCode kind → Law (inside (word_place image p) kind) body → Law kind (Counted p m n at body q)
    counted-law kind p m n at body q code ih V l calls weighed listed room few plain known full h e =
        let a = word_place image p in
        let inner = inside a kind in
        let head = behind image p in
        let w = tested_weight image costs p n at body in
        let N = at_next image costs p n at body V in
        let B = at_test image costs p n at body V in
        let J = jumping image costs (to body) N in
        let D = after (cost_of costs class.Drop) V in
        let E = after (cost_of costs class.Loop + suc m * w) N in
        let P = IsPlain image cert costs find in
        let G = Good image cert costs find in
        let o = unit_lines image costs kind p E in
        let t = test_lines image costs inner (head + 1) n at B in
        let b = region_lines image costs inner body J in
        let j = jump_lines image costs inner (to body) N in
        let d = numbers.line inner D ∷ [] in
        -- the lines of its parts
        let s1 = size-join p head (behind image at) o (numbers.line inner N ∷ t) (unit-size image costs kind p E) (size-one head (numbers.line inner N) (behind image at) t (test-size image costs inner (head + 1) n at B l.2)) in
        let s2 = size-join p (behind image at) (to body) (o ++ numbers.line inner N ∷ t) b s1 (size-from (behind image at) (from body) (to body) b l.4 (region-size image costs inner body J l.5)) in
        let s3 = size-join p (to body) q (o ++ numbers.line inner N ∷ t ++ b) j s2 (unit-size image costs inner (to body) (after (cost_of costs class.Jump) N) ∙ l.7) in
        let h3 = at-left cert (o ++ numbers.line inner N ∷ t ++ b ++ j) d p h in
        let h2 = at-left cert (o ++ numbers.line inner N ∷ t ++ b) j p h3 in
        let h1 = at-left cert (o ++ numbers.line inner N ∷ t) b p h2 in
        let own = at-left cert o (numbers.line inner N ∷ t) p h1 in
        let heads = at-right cert o (numbers.line inner N ∷ t) p head (unit-size image costs kind p E) h1 in
        let bodies = at-right cert (o ++ numbers.line inner N ∷ t) b p (from body) (s1 ∙ l.4) h2 in
        let jumps = at-right cert (o ++ numbers.line inner N ∷ t ++ b) j p (to body) s2 h3 in
        let drops = at-right cert (o ++ numbers.line inner N ∷ t ++ b ++ j) d p q s3 h in
        -- where upper halves are read
        let head_plain : P head = unit-plain image cert costs find p (Loop (suc m)) l.0 refl in
        let test_plain : P (head + 1) = plain-next image cert costs find head None (Next (q + 1)) l.1 refl in
        let at_plain : P (behind image at) = unit-plain image cert costs find at (Branch (Some q)) l.3 refl in
        let body_plain : P (from body) = subst P l.4 at_plain in
        let back_plain : P (to body) = region-plain body l.5 body_plain in
        let drop_plain : P q = subst P l.7 (unit-plain image cert costs find (to body) (Jump (Some head)) l.6 refl) in
        let end_plain : P (q + 1) = plain-next image cert costs find q None Drop l.8 refl in
        -- numbers
        let ci = code-inside a kind code in
        let ki = known-inside a kind known in
        let fullN : IsFull kind N = full-map kind V N (λ view fit x. next-there (cost_of costs class.Next) (leaving image costs p n at) w (V view) x) full in
        let fullJ : IsFull kind J = full-after image cert costs find kind (extra image costs (to body) + cost_of costs class.Jump) N fullN in
        let fullX : IsFull kind (passing image costs body J) = full-after image cert costs find kind (through image costs body) J fullJ in
        let fullD : IsFull kind D = full-after image cert costs find kind (cost_of costs class.Drop) V full in
        let fullB : IsFull kind B = branched-full image cert costs find kind (passing image costs body J) D fullX in
        let T = testing image costs (head + 1) n at B in
        let fullT : IsFull kind T = full-after image cert costs find kind (units_cost image costs (head + 1) n + extra image costs at) B fullB in
        let test_here = test-first image cert costs find inner (head + 1) n at B l.2 heads.1 in
        let back_here = unit-first image cert costs find inner (after (cost_of costs class.Jump) N) (to body) jumps in
        let body_end : On_line image cert costs find inner (to body) J =
        same-numbers image cert costs find inner (to body) (after (extra image costs (to body)) (after (cost_of costs class.Jump) N)) J (λ view. more-more (extra image costs (to body)) (cost_of costs class.Jump) (N view)) back_here in
        let body_here = region-first inner body J l.5 bodies body_end in
        let whole = region-first kind (Counted p m n at body q) V l h e in
        let one = positive class.Loop in
        let more_loops : length (kind_loops inner) + loops_in body ≤ 8 =
        (let z : length (kind_loops inner) ≡ length (kind_loops kind) + 1 = ap (λ (x : List ℕ). length x) (loops-inside a kind code) ∙ length-last (kind_loops kind) a in omega (arith, few, z)) in
        every-join p head (q + 1) G
        (opener-law kind p m w N l.0 code plain known fullN (omega (arith, few)) weighed.0 own heads.0
        (loop-meets kind p w m (Counted p m n at body q) V l.0 code l refl (omega (arith, one)) room listed whole e end_plain full))
        (every-join head (head + 1) (q + 1) G
        (every-one head G
        (next-law kind a head (q + 1) w V N T l.1 code head_plain known full fullN fullT weighed.0 heads.0 test_here e end_plain
        (λ view. turn-covers (cost_of costs class.Next) (test_cost image costs p n at) (cost_of costs class.Untaken) (cost_of costs class.Taken) (cost_of costs class.Drop) (through image costs body) (extra image costs (to body) + cost_of costs class.Jump) (V view))
        (λ view. out-covers (cost_of costs class.Next) (leaving image costs p n at) w (V view))))
        (every-join (head + 1) (behind image at) (q + 1) G
        (test-law image cert costs find positive inner (head + 1) n at q (passing image costs body J) D l.2 l.3 ci test_plain ki heads.1
        (moved image cert costs find inner (from body) (behind image at) (passing image costs body J) (sym l.4) body_here) (full-inside a kind (passing image costs body J) fullX) drops.0 drop_plain (full-inside a kind D fullD))
        (every-join (behind image at) (to body) (q + 1) G
        (every-from (from body) (behind image at) (to body) l.4
        (ih J l.5 calls weighed.1 (listed-inside image cert costs find a kind (AreListed image cert costs find body) code) (room-inside a kind body (room-less kind body (Counted p m n at body q) (omega arith) (omega arith) room)) more_loops body_plain ki (full-inside a kind J fullJ) bodies body_end))
        (every-join (to body) q (q + 1) G
        (every-to (to body) (behind image (to body)) q l.7 (jump-law image cert costs find positive inner (to body) head N l.6 ci back_plain ki (full-inside a kind N fullN) jumps heads.0 head_plain))
        (every-one q G (drop-law kind a q V l.8 code drop_plain known full drops.0 e))))))

    repeated-law : (kind : Kind) (p m : ℕ) (body : Region) (q : ℕ) → IsCode kind → Law (inside (word_place image p) kind) body → Law kind (Repeated p m body q)
    repeated-law kind p m body q code ih V l calls weighed listed room few plain known full h e =
        let a = word_place image p in
        let inner = inside a kind in
        let head = behind image p in
        let w = plain_weight image costs body in
        let N = after (cost_of costs class.Next) V in
        let J = jumping image costs (to body) N in
        let E = after (cost_of costs class.Loop + suc m * w) N in
        let P = IsPlain image cert costs find in
        let G = Good image cert costs find in
        let o = unit_lines image costs kind p E in
        let b = region_lines image costs inner body J in
        let j = jump_lines image costs inner (to body) N in
        let s1 = size-join p head (to body) o (numbers.line inner N ∷ b) (unit-size image costs kind p E) (size-one head (numbers.line inner N) (to body) b (size-from (head + 1) (from body) (to body) b l.2 (region-size image costs inner body J l.3))) in
        let h1 = at-left cert (o ++ numbers.line inner N ∷ b) j p h in
        let own = at-left cert o (numbers.line inner N ∷ b) p h1 in
        let heads = at-right cert o (numbers.line inner N ∷ b) p head (unit-size image costs kind p E) h1 in
        let jumps = at-right cert (o ++ numbers.line inner N ∷ b) j p (to body) s1 h in
        let A : ℕ → Type 0 = λ x. At image cert costs find x b in
        let bodies : At image cert costs find (from body) b = subst A l.2 heads.1 in
        let head_plain : P head = unit-plain image cert costs find p (Loop (suc m)) l.0 refl in
        let body_plain : P (from body) = subst P l.2 (plain-next image cert costs find head None (Next q) l.1 refl) in
        let back_plain : P (to body) = region-plain body l.3 body_plain in
        let end_plain : P q = subst P l.5 (unit-plain image cert costs find (to body) (Jump (Some head)) l.4 refl) in
        let ci = code-inside a kind code in
        let ki = known-inside a kind known in
        let fullN : IsFull kind N = full-after image cert costs find kind (cost_of costs class.Next) V full in
        let fullJ : IsFull kind J = full-after image cert costs find kind (extra image costs (to body) + cost_of costs class.Jump) N fullN in
        let X = passing image costs body J in
        let fullX : IsFull kind X = full-after image cert costs find kind (through image costs body) J fullJ in
        let back_here = unit-first image cert costs find inner (after (cost_of costs class.Jump) N) (to body) jumps in
        let body_end : On_line image cert costs find inner (to body) J =
        same-numbers image cert costs find inner (to body) (after (extra image costs (to body)) (after (cost_of costs class.Jump) N)) J (λ view. more-more (extra image costs (to body)) (cost_of costs class.Jump) (N view)) back_here in
        let body_here = region-first inner body J l.3 bodies body_end in
        let whole = region-first kind (Repeated p m body q) V l h e in
        let one = positive class.Loop in
        let more_loops : length (kind_loops inner) + loops_in body ≤ 8 =
        (let z : length (kind_loops inner) ≡ length (kind_loops kind) + 1 = ap (λ (x : List ℕ). length x) (loops-inside a kind code) ∙ length-last (kind_loops kind) a in omega (arith, few, z)) in
        every-join p head q G
        (opener-law kind p m w N l.0 code plain known fullN (omega (arith, few)) weighed.0 own heads.0
        (loop-meets kind p w m (Repeated p m body q) V l.0 code l refl (omega (arith, one)) room listed whole e end_plain full))
        (every-join head (head + 1) q G
        (every-one head G
        (next-law kind a head q w V N X l.1 code head_plain known full fullN fullX weighed.0 heads.0 (moved image cert costs find inner (from body) (head + 1) X (sym l.2) body_here) e end_plain
        (λ view. round-covers (cost_of costs class.Next) (through image costs body) (extra image costs (to body) + cost_of costs class.Jump) (V view)) (λ view. itself image cert costs find (N view))))
        (every-join (head + 1) (to body) q G
        (every-from (from body) (head + 1) (to body) l.2
        (ih J l.3 calls weighed.1 (listed-inside image cert costs find a kind (AreListed image cert costs find body) code) (room-inside a kind body (room-less kind body (Repeated p m body q) (omega arith) (omega arith) room)) more_loops body_plain ki (full-inside a kind J fullJ) bodies body_end))
        (every-to (to body) (behind image (to body)) q l.5 (jump-law image cert costs find positive inner (to body) head N l.4 ci back_plain ki (full-inside a kind N fullN) jumps heads.0 head_plain))))

    then-law : (kind : Kind) (x y : Region) → Law kind x → Law kind y → Law kind (Then x y)
    then-law kind x y first second V l calls weighed listed room few plain known full h e =
        let W = passing image costs y V in
        let a = region_lines image costs kind x W in
        let b = region_lines image costs kind y V in
        let P : ℕ → Type 0 = IsPlain image cert costs find in
        let mine = at-left cert a b (from x) h in
        let rest = at-right cert a b (from x) (from y) (region-size image costs kind x W l.0 ∙ l.2) h in
        let there = region-first kind y V l.1 rest e in
        let r = Then x y in
        every-join (from x) (to x) (to y) (Good image cert costs find)
        (first W l.0 calls.0 weighed.0 (openly-map image cert costs find kind (AreListed image cert costs find r) (AreListed image cert costs find x) (λ t. t.0) listed) (room-less kind x r (omega arith) (omega arith) room) (omega (arith, few)) plain known (full-after image cert costs find kind (through image costs y) V full) mine (moved image cert costs find kind (from y) (to x) W (sym l.2) there))
        (every-from (from y) (to x) (to y) l.2
        (second V l.1 calls.1 weighed.1 (openly-map image cert costs find kind (AreListed image cert costs find r) (AreListed image cert costs find y) (λ t. t.1) listed) (room-less kind y r (omega arith) (omega arith) room) (omega (arith, few)) (subst P l.2 (region-plain x l.0 plain)) known full rest e))

    choice-law : (kind : Kind) (p n at : ℕ) (x y : Region) → IsCode kind → Law kind x → Law kind y → Law kind (Choice p n at x y)
    choice-law kind p n at x y code first second V l calls weighed listed room few plain known full h e =
        let J = jumping image costs (to x) V in
        let X = passing image costs x J in
        let Y = passing image costs y V in
        let B = branched image costs X Y in
        let P : ℕ → Type 0 = IsPlain image cert costs find in
        let G = Good image cert costs find in
        let t = test_lines image costs kind p n at B in
        let a = region_lines image costs kind x J in
        let j = jump_lines image costs kind (to x) V in
        let b = region_lines image costs kind y V in
        let s1 = test-size image costs kind p n at B l.0 in
        let s2 = size-join p (behind image at) (to x) t a s1 (size-from (behind image at) (from x) (to x) a l.2 (region-size image costs kind x J l.3)) in
        let s3 = size-join p (to x) (from y) (t ++ a) j s2 (unit-size image costs kind (to x) (after (cost_of costs class.Jump) V) ∙ l.5) in
        let h2 = at-left cert (t ++ a ++ j) b p h in
        let h1 = at-left cert (t ++ a) j p h2 in
        let tests = at-left cert t a p h1 in
        let firsts = at-right cert t a p (from x) (s1 ∙ l.2) h1 in
        let jumps = at-right cert (t ++ a) j p (to x) s2 h2 in
        let seconds = at-right cert (t ++ a ++ j) b p (from y) s3 h in
        let x_plain : P (from x) = subst P l.2 (unit-plain image cert costs find at (Branch (Some (from y))) l.1 refl) in
        let back_plain : P (to x) = region-plain x l.3 x_plain in
        let y_plain : P (from y) = subst P l.5 (unit-plain image cert costs find (to x) (Jump (Some (to y))) l.4 refl) in
        let end_plain : P (to y) = region-plain y l.6 y_plain in
        let fullJ : IsFull kind J = full-after image cert costs find kind (extra image costs (to x) + cost_of costs class.Jump) V full in
        let fullX : IsFull kind X = full-after image cert costs find kind (through image costs x) J fullJ in
        let fullY : IsFull kind Y = full-after image cert costs find kind (through image costs y) V full in
        let x_end : On_line image cert costs find kind (to x) J =
        same-numbers image cert costs find kind (to x) (after (extra image costs (to x)) (after (cost_of costs class.Jump) V)) J (λ view. more-more (extra image costs (to x)) (cost_of costs class.Jump) (V view))
        (unit-first image cert costs find kind (after (cost_of costs class.Jump) V) (to x) jumps) in
        let x_here = region-first kind x J l.3 firsts x_end in
        let y_here = region-first kind y V l.6 seconds e in
        let r = Choice p n at x y in
        every-join p (behind image at) (to y) G
        (test-law image cert costs find positive kind p n at (from y) X Y l.0 l.1 code plain known tests (moved image cert costs find kind (from x) (behind image at) X (sym l.2) x_here) fullX y_here y_plain fullY)
        (every-join (behind image at) (to x) (to y) G
        (every-from (from x) (behind image at) (to x) l.2 (first J l.3 calls.0 weighed.0 (openly-map image cert costs find kind (AreListed image cert costs find r) (AreListed image cert costs find x) (λ t. t.0) listed) (room-less kind x r (omega arith) (omega arith) room) (omega (arith, few)) x_plain known fullJ firsts x_end))
        (every-join (to x) (from y) (to y) G
        (every-to (to x) (behind image (to x)) (from y) l.5 (jump-law image cert costs find positive kind (to x) (to y) V l.4 code back_plain known full jumps e end_plain))
        (second V l.6 calls.1 weighed.1 (openly-map image cert costs find kind (AreListed image cert costs find r) (AreListed image cert costs find y) (λ t. t.1) listed) (room-less kind y r (omega arith) (omega arith) room) (omega (arith, few)) y_plain known full seconds e)))

    pub region-law : (kind : Kind) (r : Region) → IsCode kind → Law kind r
    region-law kind (Words p n q) code = λ V l calls weighed listed room few plain known full h e. units-law image cert costs find positive kind n p q V l plain known full h e (code-closes image cert costs find kind q V code)
    region-law kind (Then x y) code = then-law kind x y (region-law kind x code) (region-law kind y code)
    region-law kind (Choice p n at x y) code = choice-law kind p n at x y code (region-law kind x code) (region-law kind y code)
    region-law kind (Counted p m n at body q) code = counted-law kind p m n at body q code (region-law (inside (word_place image p) kind) body (code-inside (word_place image p) kind code))
    region-law kind (Repeated p m body q) code = repeated-law kind p m body q code (region-law (inside (word_place image p) kind) body (code-inside (word_place image p) kind code))
    region-law kind (Calling p callee) code = λ V l calls weighed listed room few plain known full h e. every-one p (Good image cert costs find) (calling-law kind p callee V l calls code room listed plain known full h.0 e)
