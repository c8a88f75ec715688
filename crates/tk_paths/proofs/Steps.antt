-- A step of a turn: it doesn't trap, and its charge comes off every number.
use Rattle.std.proofs.Common.{ℤ, ◌≡◌, ◌≤◌, ◌<◌, ◌+◌, ◌*◌, ◌++◌, min, ℕ, zero, suc, Bool, true, false, not, ◌||◌, nat_le, nat_lt, List, [], ◌∷◌, Option, Some, None, refl, sym, ap, ◌∙◌, subst, inl, inr, arith, length}
use Rattle.std.proofs.lemmas.Bool.{false≢true}
use Rattle.std.proofs.lemmas.Bool.Decides.{nat_tests}
use Rattle.std.proofs.lemmas.Option.{same_Some}
use Rattle.mb_pfu.specs.declared.parts.Watch.{Watch}
use Rattle.mb_pfu.specs.Tree.{Running, Pausing, Finished, Tree, Leaf, Waits, relieved_tree, pause_at, tally}
use Rattle.mb_pfu.specs.Rows.{relief, with_last}
use Rattle.mb_pfu.specs.Contexts.{Context, plug, climb, IsQuietBefore}
use Rattle.tk_paths.proofs.SlotFacts.{middle, without_last}
use Rattle.mb_pfu.specs.Unit.{fresh}
use Rattle.tk_paths.specs.declared.word.Word.{Word}
use Rattle.tk_paths.specs.declared.word.Word.TheVariants.{Does, Imm, Jump, Branch, Eot, Fork, End, Abrt, Leave, Call, Ret, Loop, Next, Drop, Cend}
use Rattle.tk_paths.proofs.Inner.{Image, State, Outcome, Goes, InTurns, stack, unless, is_none, is_nested, is_busy, is_zero, begun, going, branched, returned, turned, dropped, effect, turn_at, Turn, IsSound}
use Rattle.mb_pfu.specs.declared.parts.TrapKind.{TrapKind}
use Rattle.mb_pfu.specs.declared.parts.TrapKind.TheVariants.{WrongPlace, TableFull, TableEmpty, SlotBusy}
use Rattle.tk_paths.proofs.Conditions.{upper_at, IsAt, seen, Fits, Views, Levels, Reach, Pays, Cert, Line, Thread, Routine, IsBare, loops_of, with_loops, InnerIs, ThreadIs, Sum, Starts, After, Rests, IsFine, IsAccepted}
use Rattle.tk_paths.specs.declared.view.Side.{Side}
use Rattle.tk_paths.specs.declared.view.Side.TheVariants.{ToEnd}
use Rattle.tk_paths.proofs.Values.{old, Dom, Val, CVal, context-dom, dom-after, plug-in}
use Rattle.tk_paths.proofs.Rights.{AreKept, old-is, old-within, IsRight}
use Rattle.tk_paths.proofs.Settles.{climbs, pauses}
use Rattle.tk_paths.proofs.Chains.{IsCounted, Turns, Owes, viewed, owes-in, owes-out, Chain, chain_loops, chain_rest, chain-counted, loops-same, rebuild, rebuild-same, recounted, not-cond, chain-there, loops-next, fits, lowered, loops-are, chain-calm, on-dom, height, counter-room, call-room, raised}
use Rattle.tk_paths.proofs.Running.{under-dom, OwesIn, ArePlain, IsRunning, IsTurned, IsTurnKept, leaf-owes, owes-leaf, turn-running}
use Rattle.tk_paths.proofs.Firsts.{job}
use Rattle.tk_paths.proofs.Entries.{not-empty, stack-last, enters, leaves, size-begun, begun-right, begun-unended, begun-values, right-plug}
use Rattle.tk_paths.proofs.Sounds.{plug-more, sound-less, sound-leaf, climb-less, not-busy, sound-fork, children-free}
use Rattle.mb_isa.specs.declared.Class.TheVariants as class

module _ (image : Image) (cert : Cert) where
  module _ (accepted : IsAccepted image cert) (charged : ℕ) (context : Context) (watches : List Watch) (place : ℕ) (s : State) (phase : s.phase ≡ InTurns) (there : s.tree ≡ plug context (Leaf watches (Running place))) (quiet : IsQuietBefore context)
      (sound : IsSound image s.tree) (run : IsRunning image cert charged (job context watches place) s.links s.counters s.upper) where
    abbrev here : Tree
    here = plug context (Leaf watches (Running place))

    abbrev a : List ℕ
    a = stack watches

    abbrev me : ℕ
    me = middle context

    abbrev Now : Side → ℕ → Type 0
    Now = OwesIn image cert watches place s.links s.counters

    sound-here : IsSound image here
    sound-here = let S : Tree → Type 0 = IsSound image in subst S there sound

    within : old watches ≤ length a
    within = subst (λ k. k ≤ length a) (sym (old-is image run.kept.0 watches run.kept.1)) (old-within image run.kept.0 watches run.kept.1)

    -- the slot in the middle goes on
    moved : (c : ℕ) (watches' : List Watch) (place' : ℕ) (links counters : List ℕ) (upper : Option ℤ) → upper ≡ upper_at image cert place' → ArePlain image cert links → AreKept image watches' → Chain cert me (stack watches') 0 place' links counters →
        Dom c Now (OwesIn image cert watches' place' links counters) → IsTurned image cert (charged + c) (plug context (Leaf watches' (Running place'))) links counters upper
    moved c watches' place' links counters upper u lp k ch d = (
      sound-leaf image context watches watches' (Running place) (Running place') sound-here,
      inr (record {
        runs = job context watches' place';
        is_there = refl;
        quiet = quiet;
        running = record {
          upper_is = u;
          links_plain = lp;
          round = run.round;
          kept = k;
          chain = ch;
          covers = under-dom image cert charged c (CVal image cert context Now) (CVal image cert context (OwesIn image cert watches' place' links counters)) (context-dom image cert c Now (OwesIn image cert watches' place' links counters) d context) run.covers;
        };
      }),
    )

    -- a word that keeps the line
    on : (c place' : ℕ) (upper : Option ℤ) → upper ≡ upper_at image cert place' → cert.line place' ≡ cert.line place → Views image cert (cert.line place) (λ view. Reach (seen cert view place) c (seen cert view place')) →
        IsTurned image cert (charged + c) (plug context (Leaf watches (Running place'))) s.links s.counters upper
    on c place' upper u line reach =
        moved c watches place' s.links s.counters upper u run.links_plain run.kept (rebuild-same cert me a 0 place place' s.links s.counters run.chain line)
        (on-dom cert me a image c (old watches) 0 place place' s.links s.counters within run.chain line reach)

    branch-kept : (to : ℕ) (choices : List Bool) → IsFine image cert place (cert.line place) (Branch (Some to)) → IsTurnKept image cert charged (branched image to context watches place s choices)
    branch-kept to [] f = tt
    branch-kept to (true ∷ choices) f = (phase, on (image.cost class.Taken) to None (sym f.1.1) f.1.0 f.3)
    branch-kept to (false ∷ choices) f = (phase, on (image.cost class.Untaken) (place + 1) None (sym f.0.1) f.0.0 f.2)

    -- a slot that is in no loop and no routine
    pub record Calm (P : ℕ → List ℕ → Type 0) : Type 0 where
      pub links_are : s.links ≡ []
      pub counters_are : s.counters ≡ []
      pub line : cert.line place ≡ Thread me a []
      pub holds : P me a

    calm : (P : ℕ → List ℕ → Type 0) → ThreadIs image cert (cert.line place) P → Calm P
    calm P h = let r = chain-calm cert me a image P 0 place s.links s.counters run.chain h in record { links_are = r.0; counters_are = r.1; line = r.2; holds = r.3 }

    unnested : s.links ≡ [] → s.counters ≡ [] → is_nested s ≡ false
    unnested l c = ap (λ x. not (is_none x) || not (is_none s.counters)) l ∙ ap (λ x. not (is_none x)) c

    abbrev Alone : Side → ℕ → Type 0
    Alone side n = cert.number side (old watches) place ≡ Some n

    alone : cert.line place ≡ Thread me a [] → s.links ≡ [] → s.counters ≡ [] → Dom 0 Now Alone
    alone line l c =
        let D : List ℕ → List ℕ → Type 0 = λ x y. Dom 0 (OwesIn image cert watches place x y) Alone in
        subst (λ x. D x s.counters) (sym l) (subst (λ y. D [] y) (sym c) (owes-leaf image cert watches place me a line))

    -- the slot in the middle, which is in no loop and no routine, goes on
    moved-calm : (P : ℕ → List ℕ → Type 0) (q : Calm P) (c : ℕ) (watches' : List Watch) (place' : ℕ) → AreKept image watches' → IsAt image cert place' (Thread me (stack watches') []) →
        Dom c Alone (λ side n. cert.number side (old watches') place' ≡ Some n) → IsTurned image cert (charged + c) (plug context (Leaf watches' (Running place'))) s.links s.counters None
    moved-calm P q c watches' place' k line d =
        let T : List ℕ → List ℕ → Type 0 = λ x y. IsTurned image cert (charged + c) (plug context (Leaf watches' (Running place'))) x y None in
        subst (λ x. T x s.counters) (sym q.links_are) (subst (λ y. T [] y) (sym q.counters_are)
        (moved c watches' place' [] [] None (sym line.1) tt k ([], line.0, refl)
        (dom-after image cert c Now Alone (OwesIn image cert watches' place' [] []) (alone q.line q.links_are q.counters_are)
        (λ side n h.
        let v = leaf-owes image cert watches' place' me (stack watches') line.0 side n h in
        let r = d side v.0 v.1 in
        (r.0, r.1, (let e = v.2 in let f = r.2 in omega (arith, e, f)))))))

    -- the tree changes otherwise
    settled : (P : ℕ → List ℕ → Type 0) (q : Calm P) (c : ℕ) (t : Tree) → IsSound image t → IsRight image cert 0 t → Dom c (CVal image cert context Now) (Val image cert t) → IsTurned image cert (charged + c) t s.links s.counters None
    settled P q c t so r d = (so, inl (record { upper_is = refl; links_are = q.links_are; counters_are = q.counters_are; right = r; covers = under-dom image cert charged c (CVal image cert context Now) (Val image cert t) d run.covers }))

    -- the slot in the middle comes to another tree, and what is round it settles
    climbed : (P : ℕ → List ℕ → Type 0) (q : Calm P) (c : ℕ) (u : Tree) → ((i k : ℕ) → tally i k u ≤ tally i k (Leaf watches (Running place))) → IsRight image cert me u → Dom c Alone (Val image cert u) →
        IsTurned image cert (charged + c) (climb context u) s.links s.counters None
    climbed P q c u less r d =
        let g = climbs image cert accepted context u run.round r in
        settled P q c (climb context u)
        (sound-less image here (climb context u) (λ i. let x = climb-less image context u i 0 in let y = plug-more image i 0 (Leaf watches (Running place)) u (λ k. let z = less i k in omega (arith, z)) context 0 in omega (arith, x, y)) sound-here)
        g.0
        (λ side n h.
        let x = g.1 side n h in
        let y = context-dom image cert c Now (Val image cert u) (dom-after image cert c Now Alone (Val image cert u) (alone q.line q.links_are q.counters_are) d) context side x.0 x.1 in
        (y.0, y.1, (let e = x.2 in let f = y.2 in omega (arith, e, f))))

    unless-kept : (b : Bool) (kind : TrapKind) (o : Outcome) → b ≡ false → IsTurnKept image cert charged o → IsTurnKept image cert charged (unless b kind o)
    unless-kept b kind o e h = let K : Bool → Type 0 = λ x. IsTurnKept image cert charged (unless x kind o) in subst K (sym e) h

    relieved-less : (r : Option (List Watch × ℕ)) (i k : ℕ) → tally i k (relieved_tree (Leaf watches (Pausing place)) r) ≤ tally i k (Leaf watches (Running place))
    relieved-less None i k = omega arith
    relieved-less (Some to) i k = omega arith

    eot-kept : image.code place (upper_at image cert place) ≡ Some Eot → IsFine image cert place (cert.line place) Eot → IsTurnKept image cert charged (effect image context watches place s Eot)
    eot-kept word f =
        let P : ℕ → List ℕ → Type 0 = λ m b. (image.is_pause place m b ≡ true) × Levels image cert b (λ k. (side : Side) (r : ℕ) → Rests image cert b k side r → Pays (cert.number side k place) (image.cost class.Eot + r)) in
        let q = calm P f.1 in
        let u = pauses image cert accepted me watches place q.line run.kept word in
        let o = Goes (image.cost class.Eot) (record s { tree = climb context (pause_at place (Leaf watches (Running place))); upper = None }) in
        unless-kept (is_nested s) WrongPlace (unless (not (image.is_pause place me a)) WrongPlace o) (unnested q.links_are q.counters_are)
        (unless-kept (not (image.is_pause place me a)) WrongPlace o (ap not (q.holds.0))
        (phase, climbed P q (image.cost class.Eot) (pause_at place (Leaf watches (Running place))) (relieved-less (relief watches)) u.0 u.1))

    empty : (ws : List Watch) → stack ws ≡ [] → ws ≡ []
    empty [] e = refl
    empty (l ∷ ws) e = cc

    end-kept : IsFine image cert place (cert.line place) End → IsTurnKept image cert charged (effect image context watches place s End)
    end-kept f =
        let P : ℕ → List ℕ → Type 0 = λ m b. (b ≡ []) × Pays (cert.number ToEnd 0 place) (image.cost class.End) in
        let q = calm P f in
        let none = empty watches (q.holds.0) in
        let o = Goes (image.cost class.End) (record s { tree = climb context (Leaf watches Finished); upper = None }) in
        unless-kept (is_nested s) WrongPlace (unless (not (is_none watches)) WrongPlace o) (unnested q.links_are q.counters_are)
        (unless-kept (not (is_none watches)) WrongPlace o (ap (λ w. not (is_none w)) none) (
          phase,
          climbed P q (image.cost class.End) (Leaf watches Finished) (λ i k. omega arith) none
              (λ side n h.
              let p = q.holds.1 in
              let e : cert.number side (old watches) place ≡ Some (p.0) = ap (λ x. cert.number x (old watches) place) h.0 ∙ ap (λ w. cert.number ToEnd (old w) place) none ∙ p.1 in
              (p.0, e, (let z = h.1 in let y = p.2 in omega (arith, z, y)))),
        ))

    abrt-kept : (j : ℕ) → IsFine image cert place (cert.line place) (Abrt j) → IsTurnKept image cert charged (effect image context watches place s (Abrt j))
    abrt-kept j f =
        let P : ℕ → List ℕ → Type 0 = λ m b. (image.is_abort j ≡ true) × (length b < 8) × IsAt image cert (place + 1) (Thread m (b ++ j ∷ []) [])
        × Levels image cert b (λ k. (side : Side) → Reach (cert.number side k place) (image.cost class.Abrt) (cert.number side k (place + 1))) in
        let q = calm P f in
        let l = fresh j (image.weak j) (image.cond j) (image.handler j) in
        let more = with_last l watches in
        let o = Goes (image.cost class.Abrt) (going image context more (place + 1) s) in
        let k = run.kept in
        let h = q.holds in
        let kept' = enters image k.0 watches j k.1 in
        let short : length a < 8 = h.1 in
        let same : old more ≡ old watches = old-is image k.0 more kept' ∙ sym (old-is image k.0 watches k.1) in
        unless-kept (not (image.is_abort j)) WrongPlace (unless (is_nested s) WrongPlace (unless (nat_le 8 (length a)) TableFull o)) (ap not h.0)
        (unless-kept (is_nested s) WrongPlace (unless (nat_le 8 (length a)) TableFull o) (unnested q.links_are q.counters_are)
        (unless-kept (nat_le 8 (length a)) TableFull o (grind (arith, nat_tests, short)) (
          phase,
          moved-calm P q (image.cost class.Abrt) more (place + 1) (k.0, kept') (h.2.0 ∙ ap (λ x. Thread me x []) (sym (stack-last watches l)), h.2.1)
              (λ side n e. h.3 (old watches) within side n (ap (λ i. cert.number side i (place + 1)) (sym same) ∙ e)),
        )))

    not-none : (ws : List Watch) (outside : List ℕ) (j : ℕ) → stack ws ≡ outside ++ j ∷ [] → is_none ws ≡ false
    not-none [] outside j e = absurd (not-empty outside j e)
    not-none (l ∷ ws) outside j e = refl

    leave-kept : IsFine image cert place (cert.line place) Leave → IsTurnKept image cert charged (effect image context watches place s Leave)
    leave-kept f =
        let P : ℕ → List ℕ → Type 0 = λ m b. (outside : List ℕ) × (j : ℕ) × (b ≡ outside ++ j ∷ []) × IsAt image cert (place + 1) (Thread m outside [])
        × Levels image cert b (λ k. (side : Side) → Reach (cert.number side k place) (image.cost class.Leave) (cert.number side (min k (length outside)) (place + 1))) in
        let q = calm P f in
        let h = q.holds in
        let k = run.kept in
        let less = without_last watches in
        let o = Goes (image.cost class.Leave) (going image context less (place + 1) s) in
        let r = leaves image k.0 watches h.0 h.1 k.1 h.2 in
        let e1 = old-is image (min k.0 (length h.0)) less r.0 in
        let e2 = old-is image k.0 watches k.1 in
        let same : min (old watches) (length h.0) ≡ old less = ap (λ i. min i (length h.0)) e2 ∙ sym e1 in
        unless-kept (is_nested s) WrongPlace (unless (is_none watches) TableEmpty o) (unnested q.links_are q.counters_are)
        (unless-kept (is_none watches) TableEmpty o (not-none watches h.0 h.1 h.2) (
          phase,
          moved-calm P q (image.cost class.Leave) less (place + 1) (min k.0 (length h.0), r.0) (h.3.0 ∙ ap (λ x. Thread me x []) (sym r.1), h.3.1)
              (λ side n e. h.4 (old watches) within side n (ap (λ i. cert.number side i (place + 1)) same ∙ e)),
        ))

    not-zero : (n : ℕ) → 1 ≤ n → is_zero n ≡ false
    not-zero zero h = absurd (omega (arith, h))
    not-zero (suc n) h = refl

    three-false : (x y z : Bool) → x ≡ false → y ≡ false → z ≡ false → x || y || z ≡ false
    three-false x y z p q r = cc

    fork-kept : (lo count : ℕ) → image.code place (upper_at image cert place) ≡ Some (Fork lo count) → IsFine image cert place (cert.line place) (Fork lo count) → IsTurnKept image cert charged (effect image context watches place s (Fork lo count))
    fork-kept lo count read f =
        let P : ℕ → List ℕ → Type 0 = λ m b. (image.is_fork place m b ≡ true) × (m < lo) × (1 ≤ count) × (lo + count ≤ image.slots)
        × ((c : ℕ) → lo ≤ c → c < lo + count → IsAt image cert (image.start c) (Thread c [] []))
        × Levels image cert b (λ k. (side y : Side) (g r : ℕ) → Sum image cert (Starts image cert) lo count y g → After image cert b k place y side r → Pays (cert.number side k place) (image.cost class.Fork + (g + r))) in
        let q = calm P f.1 in
        let h = q.holds in
        let word : image.code place None ≡ Some (Fork lo count) = ap (image.code place) (sym (accepted.fork place me a h.0).plain) ∙ read in
        let children = begun image lo count in
        let u = Waits watches place lo children in
        let o = Goes (image.cost class.Fork) (record s { tree = plug context u; upper = None }) in
        let leaf = Leaf watches (Running place) in
        let right : IsRight image cert 0 here = right-plug image cert context leaf run.round (q.line, run.kept, (accepted.fork place me a h.0).plain) refl in
        let free : (c : ℕ) → lo ≤ c → c < lo + count → tally c 0 here ≡ 0 = children-free image cert accepted context watches place lo count right sound-here h.0 word in
        let B : Tree → Type 0 = λ t. is_busy lo count t ≡ false in
        let unbusy : is_busy lo count s.tree ≡ false = subst B (sym there) (not-busy image count lo here free) in
        let C : ℕ → Type 0 = λ n. image.code place None ≡ Some (Fork lo n) in
        let above : me < lo = h.1 in
        let inside : lo + count ≤ image.slots = h.3 in
        let misplaced : is_zero count || nat_le lo me || nat_lt image.slots (lo + count) ≡ false =
        three-false (is_zero count) (nat_le lo me) (nat_lt image.slots (lo + count)) (not-zero count h.2) (grind (arith, nat_tests, above)) (grind (arith, nat_tests, inside)) in
        let d : Dom (image.cost class.Fork) Alone (Val image cert u) = λ side n v.
        let p = h.5 (old watches) within side v.0 v.1 v.2 (begun-values image cert count lo v.0 v.1 v.3) v.4 in
        (p.0, p.1, (let e = p.2 in let z = v.5 in omega (arith, e, z))) in
        unless-kept (is_nested s) WrongPlace (unless (not (image.is_fork place me a)) WrongPlace (unless (is_zero count || nat_le lo me || nat_lt image.slots (lo + count)) WrongPlace (unless (is_busy lo count s.tree) SlotBusy o))) (unnested q.links_are q.counters_are)
        (unless-kept (not (image.is_fork place me a)) WrongPlace (unless (is_zero count || nat_le lo me || nat_lt image.slots (lo + count)) WrongPlace (unless (is_busy lo count s.tree) SlotBusy o)) (ap not h.0)
        (unless-kept (is_zero count || nat_le lo me || nat_lt image.slots (lo + count)) WrongPlace (unless (is_busy lo count s.tree) SlotBusy o) misplaced
        (unless-kept (is_busy lo count s.tree) SlotBusy o unbusy (
          phase,
          settled P q (image.cost class.Fork) (plug context u)
              (sound-fork image context watches place lo count (Running place) free sound-here)
              (right-plug image cert context u run.round ((h.0, subst C (sym (size-begun image count lo)) word, run.kept), begun-unended image cert count lo h.2, begun-right image cert count lo h.4) refl)
              (λ side n v.
              let x = plug-in image cert context u side n v in
              let y = context-dom image cert (image.cost class.Fork) Now (Val image cert u) (dom-after image cert (image.cost class.Fork) Now Alone (Val image cert u) (alone q.line q.links_are q.counters_are) d) context side x.0 x.1 in
              (y.0, y.1, (let e = x.2 in let z = y.2 in omega (arith, e, z)))),
        ))))

    call-kept : (to : ℕ) → IsFine image cert place (cert.line place) (Call to) → IsTurnKept image cert charged (effect image context watches place s (Call to))
    call-kept to f =
        let h = f.1 in
        let links = s.links in
        let cs = s.counters in
        let o = Goes (image.cost class.Call) (record s { tree = plug context (Leaf watches (Running to)); links = (place + 1) ∷ s.links; upper = None }) in
        let room : length links < 16 = call-room cert me a image accepted.thread h place links cs run.chain f.5 f.3 in
        let one : 1 ≤ h = f.3 in
        let c = image.cost class.Call in
        unless-kept (nat_le 16 (length links)) TableFull o (grind (arith, nat_tests, room)) (
          phase,
          moved c watches to ((place + 1) ∷ links) cs None (sym f.2.1) (f.0.1, run.links_plain) run.kept (h, [], cs, f.2.0, omega (arith, one), refl, raised cert me a image h place (place + 1) links cs run.chain f.0.0 f.5)
              (λ side n e.
              let T : List ℕ → Type 0 = λ l. Turns cert l cs e.3 e.1 in
              let t = subst T (ap loops_of f.2.0) e.5 in
              let v : cert.value to ≡ e.0 = same_Some (cert.value to) e.0 e.4 in
              let m : Owes cert side (old watches) (place + 1) links cs e.2 = subst (λ r. Owes cert side (old watches) (place + 1) links r e.2) (sym t.0) e.6 in
              let r = on-dom cert me a image (c + cert.value to) (old watches) 0 place (place + 1) links cs within run.chain f.0.0 f.6 side e.2 m in
              (r.0, r.1, (let x = r.2 in let y = e.7 in let z = t.1 in omega (arith, x, y, z, v)))),
        )

    abbrev is_routine : Line → Bool
    is_routine (Routine h l) = true
    is_routine other = false

    ret-kept : (links : List ℕ) → s.links ≡ links → Chain cert me a 0 place links s.counters → IsFine image cert place (cert.line place) Ret → IsTurnKept image cert charged (returned image context watches s links)
    ret-kept [] e c f = absurd (false≢true (ap is_routine (sym c.1 ∙ f.1)))
    ret-kept (l ∷ links) e c f =
        let cs = s.counters in
        let empty : c.1 ≡ [] = ap loops_of (sym c.3 ∙ f.1) in
        let I : List ℕ → Type 0 = λ x. IsCounted cert x cs c.2 in
        let same : cs ≡ c.2 = subst I empty c.5 in
        let C : List ℕ → Type 0 = λ x. Chain cert me a c.0 l links x in
        let D : List ℕ → Type 0 = λ x. Dom (image.cost class.Ret) (OwesIn image cert watches place x cs) (OwesIn image cert watches l links cs) in
        let lp : ArePlain image cert (l ∷ links) = subst (ArePlain image cert) e run.links_plain in (
          phase,
          moved (image.cost class.Ret) watches l links cs None (sym lp.0) lp.1 run.kept (lowered cert me a c.0 l links cs (subst C (sym same) c.6))
              (subst D (sym e)
              (λ side n h.
              let T : List ℕ → Type 0 = λ x. Turns cert x cs cs 0 in
              let t : Turns cert (loops_of (cert.line place)) cs cs 0 = subst T (sym (ap loops_of f.1)) (refl, refl) in
              let v = cert.value place in
              (v + (0 + n), (v, 0, n, cs, refl, t, h, refl), (let p = f.2 in omega (arith, p))))),
        )

    loop-kept : (turns : ℕ) → IsFine image cert place (cert.line place) (Loop turns) → IsTurnKept image cert charged (effect image context watches place s (Loop turns))
    loop-kept turns f =
        let links = s.links in
        let cs = s.counters in
        let Q : List ℕ → Type 0 = λ l. (length l < 8) × (w : ℕ) × (cert.weight place ≡ Some w) × IsAt image cert (place + 1) (with_loops (cert.line place) (place ∷ l))
        × Views image cert (cert.line place) (λ view. Reach (seen cert view place) (image.cost class.Loop + turns * w) (seen cert view (place + 1))) in
        let h = loops-are cert me a image Q 0 place links cs run.chain f in
        let loops = chain_loops cert me a 0 place links cs run.chain in
        let w = h.1 in
        let room = counter-room cert me a image accepted.thread 0 place links cs run.chain in
        let high = height cert me a image accepted.thread 0 place links cs (omega arith) run.chain in
        let short : length loops < 8 = h.0 in
        let few : length cs < 136 = omega (arith, room, high, short) in
        let o = Goes (image.cost class.Loop) (record s { tree = plug context (Leaf watches (Running (place + 1))); counters = turns ∷ cs; upper = None }) in
        let next = loops-next cert me a 0 place (place + 1) links cs (place ∷ loops) run.chain h.3.0 in
        unless-kept (nat_le 136 (length cs)) TableFull o (grind (arith, nat_tests, few)) (
          phase,
          moved (image.cost class.Loop) watches (place + 1) links (turns ∷ cs) None (sym h.3.1) run.links_plain run.kept
              (rebuild cert me a 0 place (place + 1) links cs (turns ∷ cs) (place ∷ loops) run.chain h.3.0 (w, h.2, chain-counted cert me a 0 place links cs run.chain))
              (λ side n e.
              let i = owes-in cert side (old watches) (place + 1) links (turns ∷ cs) n e in
              let T : List ℕ → Type 0 = λ l. Turns cert l (turns ∷ cs) i.3 i.1 in
              let t = subst T next i.5 in
              let p = h.4 (viewed cert side (old watches) links) (fits cert me a side (old watches) 0 place links cs within run.chain) i.0 i.4 in
              let same : t.0 ≡ w = same_Some t.0 w (sym t.2 ∙ h.2) in
              let times : turns * t.0 ≡ turns * w = ap (λ x. turns * x) same in
              let L : List ℕ → Type 0 = λ l. Turns cert l cs i.3 t.1 in
              let total = p.0 + (t.1 + i.2) in (
                total,
                owes-out cert side (old watches) place links cs total (p.0, t.1, i.2, i.3, p.1, subst L (sym (loops-same cert me a 0 place links cs run.chain)) t.3, i.6, refl),
                (let x = p.2 in let y = i.7 in let z = t.4 in omega (arith, x, y, z, times)),
              )),
        )

    abbrev NextInner : ℕ → ℕ → List ℕ → Type 0
    NextInner to b l = (w : ℕ) × (cert.weight b ≡ Some w) × IsAt image cert (place + 1) (cert.line place) × IsAt image cert to (with_loops (cert.line place) l)
        × Views image cert (cert.line place) (λ view. (n : ℕ) → seen cert view (place + 1) ≡ Some n → (m : ℕ) × (seen cert view place ≡ Some m) × (image.cost class.Next + n ≤ m + w))
        × Views image cert (cert.line place) (λ view. Reach (seen cert view place) (image.cost class.Next) (seen cert view to))

    abbrev rest : List ℕ
    rest = chain_rest cert me a 0 place s.links s.counters run.chain

    abbrev own_loops : List ℕ
    own_loops = chain_loops cert me a 0 place s.links s.counters run.chain

    line-loops : loops_of (cert.line place) ≡ own_loops
    line-loops = loops-same cert me a 0 place s.links s.counters run.chain

    view-fits : (side : Side) → Fits (viewed cert side (old watches) s.links) (cert.line place)
    view-fits side = fits cert me a side (old watches) 0 place s.links s.counters within run.chain

    next-kept : (to : ℕ) (counters loops : List ℕ) → s.counters ≡ counters → own_loops ≡ loops → IsCounted cert loops counters rest → InnerIs image cert loops (NextInner to) → IsTurnKept image cert charged (turned image to context watches place s counters)
    next-kept to counters [] ec el i f = absurd f
    next-kept to [] (b ∷ l) ec el i f = absurd i
    next-kept to (zero ∷ cs) (b ∷ l) ec el i f =
        let D : List ℕ → Type 0 = λ x. Dom (image.cost class.Next) (OwesIn image cert watches place s.links x) (OwesIn image cert watches to s.links cs) in
        let next = loops-next cert me a 0 place to s.links s.counters l run.chain f.3.0 in (
          phase,
          moved (image.cost class.Next) watches to s.links cs None (sym f.3.1) run.links_plain run.kept (rebuild cert me a 0 place to s.links s.counters cs l run.chain f.3.0 i.2)
              (subst D (sym ec)
              (λ side n e.
              let j = owes-in cert side (old watches) to s.links cs n e in
              let T : List ℕ → Type 0 = λ x. Turns cert x cs j.3 j.1 in
              let t = subst T next j.5 in
              let p = f.5 (viewed cert side (old watches) s.links) (view-fits side) j.0 j.4 in
              let here : Turns cert (b ∷ l) (zero ∷ cs) j.3 (0 * f.0 + j.1) = (f.0, j.1, f.1, t, refl) in
              let L : List ℕ → Type 0 = λ x. Turns cert x (zero ∷ cs) j.3 (0 * f.0 + j.1) in
              let total = p.0 + ((0 * f.0 + j.1) + j.2) in (
                total,
                owes-out cert side (old watches) place s.links (zero ∷ cs) total (p.0, 0 * f.0 + j.1, j.2, j.3, p.1, subst L (sym (line-loops ∙ el)) here, j.6, refl),
                (let x = p.2 in let y = j.7 in omega (arith, x, y)),
              ))),
        )
    next-kept to (suc k ∷ cs) (b ∷ l) ec el i f =
        let D : List ℕ → Type 0 = λ x. Dom (image.cost class.Next) (OwesIn image cert watches place s.links x) (OwesIn image cert watches (place + 1) s.links (k ∷ cs)) in
        let I : List ℕ → Type 0 = λ x. IsCounted cert x (k ∷ cs) rest in (
          phase,
          moved (image.cost class.Next) watches (place + 1) s.links (k ∷ cs) None (sym f.2.1) run.links_plain run.kept (recounted cert me a 0 place (place + 1) s.links s.counters (k ∷ cs) run.chain f.2.0 (subst I (sym el) (i.0, i.1, i.2)))
              (subst D (sym ec)
              (λ side n e.
              let j = owes-in cert side (old watches) (place + 1) s.links (k ∷ cs) n e in
              let T : List ℕ → Type 0 = λ x. Turns cert x (k ∷ cs) j.3 j.1 in
              let t = subst T (ap loops_of f.2.0 ∙ line-loops ∙ el) j.5 in
              let p = f.4 (viewed cert side (old watches) s.links) (view-fits side) j.0 j.4 in
              let same : t.0 ≡ f.0 = same_Some t.0 f.0 (sym t.2 ∙ f.1) in
              let v = suc k * t.0 + t.1 in
              let more : suc k * t.0 ≡ k * t.0 + t.0 = omega arith in
              let here : Turns cert (b ∷ l) (suc k ∷ cs) j.3 v = (t.0, t.1, t.2, t.3, refl) in
              let L : List ℕ → Type 0 = λ x. Turns cert x (suc k ∷ cs) j.3 v in
              let total = p.0 + (v + j.2) in (
                total,
                owes-out cert side (old watches) place s.links (suc k ∷ cs) total (p.0, v, j.2, j.3, p.1, subst L (sym (line-loops ∙ el)) here, j.6, refl),
                (let x = p.2 in let y = j.7 in let z = t.4 in omega (arith, x, y, z, same, more)),
              ))),
        )

    abbrev DropInner : ℕ → List ℕ → Type 0
    DropInner b l = IsAt image cert (place + 1) (with_loops (cert.line place) l) × Views image cert (cert.line place) (λ view. Reach (seen cert view place) (image.cost class.Drop) (seen cert view (place + 1)))

    drop-kept : (counters loops : List ℕ) → s.counters ≡ counters → own_loops ≡ loops → IsCounted cert loops counters rest → InnerIs image cert loops DropInner → IsTurnKept image cert charged (dropped image context watches place s counters)
    drop-kept counters [] ec el i f = absurd f
    drop-kept [] (b ∷ l) ec el i f = absurd i
    drop-kept (c ∷ cs) (b ∷ l) ec el i f =
        let D : List ℕ → Type 0 = λ x. Dom (image.cost class.Drop) (OwesIn image cert watches place s.links x) (OwesIn image cert watches (place + 1) s.links cs) in
        let next = loops-next cert me a 0 place (place + 1) s.links s.counters l run.chain f.0.0 in (
          phase,
          moved (image.cost class.Drop) watches (place + 1) s.links cs None (sym f.0.1) run.links_plain run.kept (rebuild cert me a 0 place (place + 1) s.links s.counters cs l run.chain f.0.0 i.2)
              (subst D (sym ec)
              (λ side n e.
              let j = owes-in cert side (old watches) (place + 1) s.links cs n e in
              let T : List ℕ → Type 0 = λ x. Turns cert x cs j.3 j.1 in
              let t = subst T next j.5 in
              let p = f.1 (viewed cert side (old watches) s.links) (view-fits side) j.0 j.4 in
              let v = c * i.0 + j.1 in
              let here : Turns cert (b ∷ l) (c ∷ cs) j.3 v = (i.0, j.1, i.1, t, refl) in
              let L : List ℕ → Type 0 = λ x. Turns cert x (c ∷ cs) j.3 v in
              let total = p.0 + (v + j.2) in (
                total,
                owes-out cert side (old watches) place s.links (c ∷ cs) total (p.0, v, j.2, j.3, p.1, subst L (sym (line-loops ∙ el)) here, j.6, refl),
                (let x = p.2 in let y = j.7 in omega (arith, x, y)),
              ))),
        )

    counted : IsCounted cert own_loops s.counters rest
    counted = chain-counted cert me a 0 place s.links s.counters run.chain

    effect-kept : (w : Word) → image.code place (upper_at image cert place) ≡ Some w → IsFine image cert place (cert.line place) w → IsTurnKept image cert charged (effect image context watches place s w)
    effect-kept (Does c) word f = (phase, on (image.cost c) (place + 1) None (sym f.0.1) f.0.0 f.1)
    effect-kept (Imm u) word f = (phase, on (image.cost class.Imm) (place + 1) (Some u) (sym f.1) f.0 f.2)
    effect-kept (Jump None) word f = absurd f
    effect-kept (Jump (Some to)) word f = (phase, on (image.cost class.Jump) to None (sym f.0.1) f.0.0 f.1)
    effect-kept (Branch None) word f = absurd f
    effect-kept (Branch (Some to)) word f = branch-kept to s.choices f
    effect-kept Eot word f = eot-kept word f
    effect-kept (Fork lo count) word f = fork-kept lo count word f
    effect-kept End word f = end-kept f
    effect-kept (Abrt j) word f = abrt-kept j f
    effect-kept Leave word f = leave-kept f
    effect-kept (Call to) word f = call-kept to f
    effect-kept Ret word f = ret-kept s.links refl run.chain f
    effect-kept (Loop turns) word f = loop-kept turns f
    effect-kept (Next to) word f = next-kept to s.counters own_loops refl refl counted (loops-are cert me a image (λ l. InnerIs image cert l (NextInner to)) 0 place s.links s.counters run.chain f)
    effect-kept Drop word f = drop-kept s.counters own_loops refl refl counted (loops-are cert me a image (λ l. InnerIs image cert l DropInner) 0 place s.links s.counters run.chain f)
    effect-kept Cend word f = absurd (not-cond cert me a 0 place s.links s.counters run.chain f.0)

    not-bare : IsBare (cert.line place) → ⊥
    not-bare = chain-there cert me a 0 place s.links s.counters run.chain

    at-kept : (w : Option Word) → image.code place s.upper ≡ w → IsTurnKept image cert charged (turn_at image context watches place s w)
    at-kept w e =
        let r = accepted.place place not-bare in
        let K : Option Word → Type 0 = λ x. IsTurnKept image cert charged (turn_at image context watches place s x) in
        subst K (sym r.1 ∙ ap (image.code place) (sym run.upper_is) ∙ e) (effect-kept r.0 r.1 r.2)

  pub turn-kept : IsAccepted image cert → (charged : ℕ) (s : State) → s.phase ≡ InTurns → IsTurned image cert charged s.tree s.links s.counters s.upper → (t : Turn image s.tree) → IsTurnKept image cert charged (turn_at image t.context t.watches t.place s (image.code t.place s.upper))
  turn-kept accepted charged s phase k t =
      at-kept accepted charged t.context t.watches t.place s phase t.is_there t.quiet k.0 (turn-running image cert charged (job t.context t.watches t.place) s.tree s.links s.counters s.upper t.is_there t.quiet k) (image.code t.place s.upper) refl
