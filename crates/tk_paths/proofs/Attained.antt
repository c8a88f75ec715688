-- A tight, accepted certificate's bound is the cost of a walk.
use Rattle.std.proofs.Common.{◌≡◌, ◌⊎◌, ◌≤◌, ◌<◌, ◌+◌, ◌-◌, ◌++◌, ◌==◌, map, ℕ, zero, suc, Bool, true, false, nat_lt, if◌then◌else◌, List, [], ◌∷◌, length, Option, Some, None, refl, sym, ap, ◌∙◌, subst, inl, inr, ⊎_elim, arith}
use Rattle.std.proofs.lemmas.Bool.Decides.{nat_tests}
use Rattle.std.proofs.lemmas.Bool.{cases_eq}
use Rattle.mb_isa.specs.Costs.{IsCosts}
use Rattle.mb_pfu.specs.declared.parts.Watch.{Watch}
use Rattle.mb_pfu.specs.Rows.{renewed}
use Rattle.mb_pfu.specs.Tree.{Running, Finished, Tree, Group, Leaf, Waits, no_more, member, size, wakes, tests_begun, all_woken, next_test, one, tally, tally_group}
use Rattle.mb_pfu.specs.Unit.{State}
use Rattle.mb_pfu.specs.declared.TrapKind.TheVariants.{Late}
use Rattle.pt_image.specs.declared.Parts.{Parts}
use Rattle.mb_isa.specs.Control.{tests_on}
use Rattle.mb_isa.specs.Step.{samples_from, samples_on}
use Rattle.mb_isa.specs.Free.{free, IsConfigured, IsConfiguration, IsLoose}
use Rattle.mb_isa.specs.Tick.{Outcome, Ends, Trapped, base_of, begun, run, tick}
use Rattle.mb_isa.proofs.Turning.{is_over, path-runs}
use Rattle.tk_cert.specs.declared.cert.Walk.{Walk}
use Rattle.tk_cert.specs.declared.cert.CertParts.{CertParts}
use Rattle.tk_paths.specs.declared.view.Side.{Side}
use Rattle.tk_paths.specs.declared.view.Side.TheVariants.{ToEnd}
use Rattle.tk_paths.specs.declared.word.Word.TheVariants.{Fork}
use Rattle.tk_paths.specs.Kinds.{start_of}
use Rattle.tk_paths.specs.Bounded.{IsFreelyWithin, IsAcceptedFor}
use Rattle.tk_paths.specs.Walks.{most_cycles, states_of, IsCostOf, IsWorst}
use Rattle.tk_paths.proofs.Inner.{Image, stack}
use Rattle.tk_paths.proofs.Conditions.{Cert, Thread, IsFine, IsAccepted}
use Rattle.tk_paths.proofs.Carried.{image_of, cert_of}
use Rattle.tk_paths.proofs.Accepts.{Accepts}
use Rattle.tk_paths.proofs.Controls.{sums}
use Rattle.tk_paths.proofs.Settles.{word-of, read-plain}
use Rattle.tk_paths.proofs.Rights.{IsWaiting, IsRight, AreRight}
use Rattle.tk_paths.proofs.Sounds.{one-same, one-other, below, slot_in}
use Rattle.tk_paths.proofs.Tests.{wakes-right}
use Rattle.tk_paths.proofs.Begins.{begun-testing}
use Rattle.tk_paths.proofs.Whole.{each-tally, begun-kept}
use Rattle.tk_paths.proofs.Bounds.{loose-is, configured, accepts-of, bounds-free}
use Rattle.tk_paths.specs.Tight.{Top, over, starts, resumes, IsTight}
use Rattle.tk_paths.proofs.Ways.{Way}
use Rattle.tk_paths.proofs.Flags.{made}
use Rattle.tk_paths.proofs.Moves.{steps-count}
use Rattle.tk_paths.proofs.Walks.{Walked}
use Rattle.tk_paths.proofs.Extracts.{way-of}
use Rattle.tk_paths.proofs.TestWalks.{TWVal, joined-walk}
use Rattle.tk_paths.proofs.Resumes.{loosened}

pub samples-same : (o : Option (ℕ × ℕ)) (d : List Bool) → samples_from free o d ≡ d
samples-same None d = refl
samples-same (Some t) d = refl

module _ (image : Parts) (cert : CertParts) (costs : List ℕ) (ok : Accepts image cert costs) where
  abbrev E : Image
  E = image_of image costs

  abbrev D : Cert
  D = cert_of image cert costs

  abbrev acc : IsAccepted E D
  acc = sums image cert costs ok

  fork-fine : (s at : ℕ) (a : List ℕ) (lo n : ℕ) → E.is_fork at s a ≡ true → E.code at None ≡ Some (Fork lo n) → IsFine E D at (Thread s a []) (Fork lo n)
  fork-fine s at a lo n l word = let p = acc.fork at s a l in word-of E D acc at (Thread s a []) (Fork lo n) p.line (λ b. b) (read-plain E D acc at (Fork lo n) p.plain word)

  module _ (c : ℕ) where
    -- how many members have this number
    abbrev inside : ℕ → Group → ℕ
    inside k no_more = 0
    inside k (member t ts) = one (k == c) + inside (k + 1) ts

    inside-none : (k : ℕ) (ts : Group) → c < k → inside k ts ≡ 0
    inside-none k no_more h = refl
    inside-none k (member t ts) h = let r = inside-none (k + 1) ts (omega (arith, h)) in let o = one-other k c (λ e. omega (arith, e, h)) in omega (arith, r, o)

    abbrev InRange : ℕ → Group → Type 0
    InRange k ts = (inside k ts ≡ 0) ⊎ ((inside k ts ≡ 1) × (k ≤ c) × (c < k + size ts))

    in-range : (k : ℕ) (ts : Group) → InRange k ts
    in-range k no_more = inl refl
    in-range k (member t ts) =
        ⊎_elim
        (λ e. let o = one-same k c e in let r = inside-none (k + 1) ts (omega (arith, e)) in inr (omega (arith, o, r), omega (arith, e), omega (arith, e)))
        (λ e.
        let o = one-other k c e in
        ⊎_elim (λ r. inl (omega (arith, o, r))) (λ r. inr ((let x = r.0 in omega (arith, o, x)), (let y = r.1 in omega (arith, y)), (let z = r.2 in omega (arith, z)))) (in-range (k + 1) ts))
        (cases_eq k c)

    abbrev Law : ℕ → Type 0
    Law par = (s : ℕ) (ws : List Watch) (at lo n : ℕ) → IsWaiting E D s ws at lo n → lo ≤ c → c < lo + n → s ≡ par

    -- a slot is met at most as often as its parent
    mutual
      met : (par : ℕ) → Law par → (k : ℕ) (t : Tree) → IsRight E D k t → tally c k t ≤ one (k == c) + tally par k t
      met par law k (Leaf ws activity) r = omega arith
      met par law k (Waits ws at lo group) r =
          let g = mets par law lo group r.2 in
          ⊎_elim (λ z. omega (arith, z, g))
          (λ z.
          let own = one-same k par (law k ws at lo (size group) r.0 z.1 z.2) in
          let x = z.0 in
          omega (arith, x, g, own))
          (in-range lo group)

      mets : (par : ℕ) → Law par → (k : ℕ) (ts : Group) → AreRight E D k ts → tally_group c k ts ≤ inside k ts + tally_group par k ts
      mets par law k no_more r = omega arith
      mets par law k (member t ts) r = let a = met par law k t r.0 in let b = mets par law (k + 1) ts r.1 in omega (arith, a, b)

    -- a slot that is in no group's range
    mutual
      alone : ((s : ℕ) (ws : List Watch) (at lo n : ℕ) → IsWaiting E D s ws at lo n → c < lo) → (k : ℕ) (t : Tree) → IsRight E D k t → tally c k t ≤ one (k == c)
      alone law k (Leaf ws activity) r = omega arith
      alone law k (Waits ws at lo group) r = let g = alones law lo group r.2 in let z = inside-none lo group (law k ws at lo (size group) r.0) in omega (arith, g, z)

      alones : ((s : ℕ) (ws : List Watch) (at lo n : ℕ) → IsWaiting E D s ws at lo n → c < lo) → (k : ℕ) (ts : Group) → AreRight E D k ts → tally_group c k ts ≤ inside k ts
      alones law k no_more r = omega arith
      alones law k (member t ts) r = let a = alone law k t r.0 in let b = alones law (k + 1) ts r.1 in omega (arith, a, b)

  one-most : (b : Bool) → one b ≤ 1
  one-most true = omega arith
  one-most false = omega arith

  once : (fuel c : ℕ) → c ≤ fuel → (t : Tree) → IsRight E D 0 t → tally c 0 t ≤ 1
  once fuel zero f t r =
      let a = alone 0 (λ s ws at lo n w. acc.no_zero at s (stack ws) lo n w.0 w.1) 0 t r in
      let o = one-most (0 == 0) in
      omega (arith, a, o)
  once zero (suc c) f t r = absurd (omega (arith, f))
  once (suc fuel) (suc c) f t r = by (tally (suc c) 0 t) refl (λ p h. once fuel p h t r)
    where
      by : (n : ℕ) → tally (suc c) 0 t ≡ n → ((p : ℕ) → p ≤ fuel → tally p 0 t ≤ 1) → n ≤ 1
      by zero e ih = omega arith
      by (suc n) e ih =
          ⊎_elim (λ z. absurd (omega (arith, z)))
          (λ b.
          let w = b.waits in
          let law : (s : ℕ) (ws : List Watch) (at lo m : ℕ) → IsWaiting E D s ws at lo m → lo ≤ suc c → suc c < lo + m → s ≡ b.parent =
          λ s ws at lo m v low high.
          let same = acc.apart at s b.at b.parent (stack ws) (stack b.watches) lo m b.lo b.n (suc c) v.0 w.0 v.1 w.1 low high b.low b.high in
          let l1 = (acc.fork at s (stack ws) v.0).line in
          let l2 = (acc.fork b.at b.parent (stack b.watches) w.0).line in
          ap (slot_in E D) (sym l1 ∙ ap D.line same ∙ l2) in
          let m = met (suc c) b.parent law 0 t r in
          let o = one-other 0 (suc c) (λ z. omega (arith, z)) in
          let above : b.parent < b.lo = (fork-fine b.parent b.at (stack b.watches) b.lo b.n w.0 w.1).1.1 in
          let low = b.low in
          let i = ih b.parent (omega (arith, above, low, f)) in
          omega (arith, m, o, i, e))
          (below E D (suc c) 0 t r (omega (arith, e)))

  within : (q : ℕ) → length image.slots ≤ q → (t : Tree) → IsRight E D 0 t → tally q 0 t ≡ 0
  within q h t r = by (tally q 0 t) refl
    where
      some : 1 ≤ length image.slots
      some = ok.image_is.slots.0

      by : (n : ℕ) → tally q 0 t ≡ n → n ≡ 0
      by zero e = refl
      by (suc n) e =
          ⊎_elim (λ z. absurd (omega (arith, z, h, some)))
          (λ b.
          let w = b.waits in
          let room : b.lo + b.n ≤ length image.slots = (fork-fine b.parent b.at (stack b.watches) b.lo b.n w.0 w.1).1.3 in
          let high = b.high in
          absurd (omega (arith, room, high, h)))
          (below E D q 0 t r (omega (arith, e)))

  abbrev pub unit_of : Tree → State
  unit_of t = record { slots = length image.slots; tree = t; links = []; counters = [] }

  -- slots that stand right in a tree with the same slots make a configuration
  pub configuration : (t u : Tree) → ((q : ℕ) → tally q 0 u ≡ tally q 0 t) → IsRight E D 0 u → IsConfigured image t → IsConfiguration image (unit_of t)
  configuration t u same r h =
      let few : length image.slots ≤ 64 = ok.image_is.slots.1 in
      record {
        tree = h;
        once = record {
          once = λ q. let o = once q q (omega arith) u r in let e = same q in omega (arith, o, e);
          below = λ q b. let w = within q (omega (arith, few, b)) u r in let e = same q in omega (arith, w, e);
        };
        within = λ q b. let w = within q b u r in let e = same q in omega (arith, w, e);
        slots = refl;
        links = refl;
        counters = refl;
      }

  pub loose-configuration : (t : Tree) → IsLoose image 0 t → IsConfiguration image (unit_of t)
  loose-configuration t l =
      let b = begun-testing E D 0 t (loose-is image cert costs ok 0 t l) in
      let w = wakes-right E D acc 0 (tests_begun t) b.0 in
      configuration t (all_woken (tests_begun t)) (λ q. each-tally E (λ x. x) wakes q 0 (tests_begun t) ∙ each-tally E (map renewed) (λ x. x) q 0 t) w.0 (inr (inr l))

  module _ (priced : IsCosts costs) where
    -- a path from the tests to the end of a tick is that tick
    ends-so : (most n : ℕ) (u : State) (w : Walked image cert costs ok priced (tests_on (begun u)) n) → base_of image costs + n ≤ most → tick free image costs most u (w.choices ++ []) ≡ Ends (base_of image costs + n) w.last.unit []
    ends-so most n u w room =
        let base = base_of image costs in
        let c = tests_on (begun u) in
        let d = w.choices ++ [] in
        let p = w.leads in
        let less : p.count ≤ n = steps-count image costs priced c d n p.count w.last [] (p.steps []) in
        let left = suc most - p.count in
        let fuel : suc most ≡ p.count + left = omega (arith, less, room) in
        let early : nat_lt most base ≡ false = grind (arith, nat_tests, room) in
        let R : ℕ → Outcome (List Bool) = λ f. run free image costs f most base c d in
        ap (λ b. if b then Trapped Late 0 0 else run free image costs (suc most) most base c (samples_on free (begun u) d)) early
        ∙ ap (run free image costs (suc most) most base c) (samples-same (next_test (begun u).tree) d)
        ∙ ap R fuel
        ∙ path-runs free image costs most left base n p.count c w.last d [] (p.steps []) room
        ∙ is_over free image costs most (base + n) w.last [] left (omega (arith, less, room)) room w.over

    module _ (tight : IsTight image cert costs) (low : cert.bound ≤ most_cycles) where
      from-tree : (t : Tree) (side : Side) (n : ℕ) → IsConfiguration image (unit_of t) → TWVal image cert costs (tests_begun t) side n → cert.bound ≡ base_of image costs + n → IsWorst image costs cert.bound
      from-tree t side n c v e =
          let u = unit_of t in
          let k = begun-kept E D acc t [] (configured image cert costs ok u c).tree_is in
          let w = joined-walk image cert costs ok priced tight n n (omega arith) (begun u) side (refl, (refl, refl)) k.testing k.sound v in
          let room : base_of image costs + n ≤ most_cycles = (let B : ℕ → Type 0 = λ m. m ≤ most_cycles in subst B e low) in
          let walk : Walk = record { states = states_of u; choices = w.choices ++ [] } in
          let C : ℕ → Type 0 = λ m. IsCostOf image costs walk m in
          let reached : IsCostOf image costs walk (base_of image costs + n) = record { begins = u; configuration = c; states = refl; last = w.last.unit; ends = ends-so most_cycles n u w room; within = room } in
          record {
            walk = walk;
            attained = subst C (sym e) reached;
            greatest = λ other cost h.
                let W : Outcome (List Bool) → Type 0 = IsFreelyWithin cert.bound in
                subst W h.ends (bounds-free image cert costs ok priced most_cycles h.begins other.choices low h.configuration);
          }

      -- the bound is the cost of some walk, and no walk costs more
      pub worst : IsWorst image costs cert.bound
      worst = by tight.top
        where
          by : Top image cert costs → IsWorst image costs cert.bound
          by (over e) =
              let t = Leaf [] Finished in
              from-tree t ToEnd 0 (configuration t t (λ q. refl) refl (inr (inl refl))) (refl, refl) (let z : base_of image costs ≡ base_of image costs + 0 = omega arith in e ∙ z)
          by (starts side n e b) =
              let r = way-of image cert costs ok priced tight n 0 [] 0 (start_of image 0) side n (omega arith) acc.start (omega arith) e in
              let t = Leaf [] (Running (start_of image 0)) in
              from-tree t side n (configuration t t (λ q. refl) (acc.start.0, (0, tt), acc.start.1) (inl refl)) (empty r.flags r.holds) b
            where
              empty : (f : List Bool) → Way image cert costs (made image f []) (start_of image 0) side n → Way image cert costs [] (start_of image 0) side n
              empty [] w = w
              empty (x ∷ f) w = w
          by (resumes side n e b) =
              let r = loosened image cert costs ok priced tight (length image.slots) 0 side n (omega arith) e in
              from-tree r.tree side n (loose-configuration r.tree r.loose) r.value b

pub tight-worst : (image : Parts) (cert : CertParts) (costs : List ℕ) → IsAcceptedFor image cert costs → IsTight image cert costs → cert.bound ≤ most_cycles → IsWorst image costs cert.bound
tight-worst image cert costs h tight low = worst image cert costs (accepts-of image cert costs h) h.priced tight low
