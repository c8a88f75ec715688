-- A tree each of whose ready slots has a way is walked to the end of the turns, at exactly its value.
use Rattle.std.proofs.Common.{◌≡◌, ◌⊎◌, inl, inr, ⊎_elim, ◌≤◌, ◌<◌, ◌+◌, ◌++◌, min, ℕ, zero, suc, Bool, true, false, List, [], ◌∷◌, length, is_some, Option, Some, None, refl, sym, ap, ◌∙◌, subst, arith}
use Rattle.mb_isa.specs.declared.Instr.TheVariants as instr
use Rattle.mb_isa.specs.declared.Class.{Class}
use Rattle.mb_isa.specs.declared.Class.TheVariants as class
use Rattle.mb_isa.specs.Costs.{cost_of, IsCosts}
use Rattle.mb_isa.proofs.CostRange.{cost_of-range}
use Rattle.mb_pfu.specs.declared.parts.Watch.{Watch}
use Rattle.mb_pfu.specs.declared.parts.Slot.{Slot}
use Rattle.mb_pfu.specs.declared.parts.Slot.TheVariants.{Ready}
use Rattle.mb_pfu.specs.Rows.{ready, relief, with_last}
use Rattle.mb_pfu.specs.Tree.{Running, Pausing, Finished, Tree, Leaf, Waits, has_ready, any_ready, relieved_tree, pause_at, slot_of, next_job, report, reported_number, tally}
use Rattle.mb_pfu.specs.Contexts.{Context, plug, climb, IsQuietBefore}
use Rattle.mb_pfu.specs.Contexts as contexts
use Rattle.mb_pfu.specs.Calls.{with_tree}
use Rattle.mb_pfu.specs.Unit.{State}
use Rattle.mb_pfu.proofs.Cases.{none-there}
use Rattle.mb_pfu.proofs.Laws.{is_in-ready, climb-ready}
use Rattle.mb_pfu.proofs.Trees.{is_in-report}
use Rattle.pt_image.specs.declared.Parts.{Parts}
use Rattle.pt_image.specs.Listed.{is_listed}
use Rattle.tk_cert.specs.declared.cert.CertParts.{CertParts}
use Rattle.mb_isa.specs.Control.{Control, Resting, Turn, goes, turns_on, turns_from, start_in}
use Rattle.tk_paths.specs.declared.view.Side.{Side}
use Rattle.tk_paths.specs.declared.view.Side.TheVariants.{ToPause, ToEnd}
use Rattle.tk_paths.specs.declared.word.Word.{Word}
use Rattle.tk_paths.specs.declared.word.Word.TheVariants.{Fork, Eot, End, Abrt, Leave}
use Rattle.tk_paths.specs.Words.{instr_at, read_instr}
use Rattle.tk_paths.proofs.SlotFacts.{middle, without_last}
use Rattle.tk_paths.proofs.Inner.{Image, IsSound, stack, begun}
use Rattle.tk_paths.proofs.Inner as inner
use Rattle.tk_paths.proofs.Conditions.{Cert, Thread, IsFine, IsAccepted}
use Rattle.tk_paths.proofs.Carried.{image_of, cert_of, lt-true}
use Rattle.tk_paths.proofs.Accepts.{Accepts}
use Rattle.tk_paths.proofs.Controls.{sums}
use Rattle.tk_paths.proofs.Turns.{middle-same, is-next, slot-is, plug-occurs}
use Rattle.tk_paths.proofs.Turned.{busy-same}
use Rattle.tk_paths.proofs.Finds.{turn_of}
use Rattle.tk_paths.proofs.Rights.{IsRight, IsContextRight, plug-right}
use Rattle.tk_paths.proofs.Settles.{word-of, read-plain, climbs, pauses}
use Rattle.tk_paths.proofs.Entries.{stack-last, enters, leaves, not-empty, size-begun, begun-right, begun-unended, right-plug}
use Rattle.tk_paths.proofs.Sounds.{plug-more, sound-less, sound-leaf, climb-less, not-busy, sound-fork, children-free}
use Rattle.tk_paths.specs.Passages.{IsUnnested, Leads}
use Rattle.tk_paths.proofs.Flags.{new_entry}
use Rattle.tk_paths.proofs.Ways.{Way, Ways, Afterwards, nobody, child}
use Rattle.tk_paths.proofs.Ways as ways
use Rattle.tk_paths.proofs.Exacts.{when, WVal, WGVal, context-held, unplugged, rest-exact, relieved-way, climbed}
use Rattle.tk_paths.proofs.Moves.{stack-size, no-lead, joined-leads, costing, eot-leads, end-leads, fork-leads, abrt-leads, leave-leads}

module _ (image : Parts) (cert : CertParts) (costs : List ℕ) where
  abbrev F : Image
  F = image_of image costs

  abbrev G : Cert
  G = cert_of image cert costs

  ways-values : (lo count : ℕ) (y : Side) (g : ℕ) → Ways image cert costs lo count y g → (k : ℕ) → count ≡ k → WGVal image cert costs (begun F lo k) y g
  ways-values lo count y g (nobody e a b) zero z = (a, b)
  ways-values lo count y g (nobody e a b) (suc k) z = absurd (omega (arith, e, z))
  ways-values lo count y g (child x y' p q more e w ws a b) zero z = absurd (omega (arith, e, z))
  ways-values lo count y g (child x y' p q more e w ws a b) (suc k) z = (x, y', p, q, w, ways-values (lo + 1) more y' q ws k (omega (arith, e, z)), a, b)

  begun-ready : (lo k : ℕ) → 1 ≤ k → any_ready (begun F lo k) ≡ true
  begun-ready lo zero h = absurd (omega (arith, h))
  begun-ready lo (suc k) h = refl

  -- the slots stand right, and none twice
  abbrev pub IsFit : Tree → Type 0
  IsFit t = IsRight F G 0 t × IsSound F t

  abbrev pub IsFlat : State → Type 0
  IsFlat u = (u.slots ≡ length image.slots) × IsUnnested u

  -- a control that stands for a tree: a slot is in its turn, and the unit's tree knows the place where its turn began; or no slot is ready
  pub data Standing : Control → Tree → Type 0 where
    in_turn : {c : Control} {t : Tree} (context : Context) (watches : List Watch) (place stale : ℕ) (u : State) → IsQuietBefore context → IsFlat u → u.tree ≡ plug context (Leaf watches (Running stale)) →
        c ≡ goes (Turn (contexts.middle context)) place u → t ≡ plug context (Leaf watches (Running place)) → Standing c t
    at_rest : {c : Control} {t : Tree} → c.phase ≡ Resting → has_ready t ≡ false → Standing c t

  -- the next turn
  pub turns-standing : (u : State) → IsFlat u → IsSound F u.tree → Standing (turns_on u) u.tree
  turns-standing u flat sound = by (has_ready u.tree) refl
    where
      by : (b : Bool) → has_ready u.tree ≡ b → Standing (turns_on u) u.tree
      by true e =
          let t = turn_of F u.tree e in
          let S : Tree → Type 0 = IsSound F in
          let sound' = subst S t.is_there sound in
          let s = contexts.middle t.context in
          let n : next_job u.tree ≡ Some s = ap next_job t.is_there ∙ is-next F t.context t.watches t.place t.quiet sound' in
          let at : slot_of s u.tree ≡ Ready t.place = ap (slot_of s) t.is_there ∙ slot-is F t.context t.watches t.place t.quiet sound' in
          in_turn t.context t.watches t.place t.place u t.quiet flat t.is_there (ap (turns_from u) n ∙ ap (λ (x : Slot). goes (Turn s) (start_in x) u) at) t.is_there
      by false e =
          let r : is_some (report ready 0 u.tree) ≡ false = sym (is_in-report ready 0 u.tree) ∙ is_in-ready 0 u.tree ∙ e in
          let n : next_job u.tree ≡ None = ap reported_number (none-there (report ready 0 u.tree) r) in
          at_rest (ap (λ o. (turns_from u o).phase) n) e

  module _ (a : Accepts image cert costs) (priced : IsCosts costs) where
    abbrev acc : IsAccepted F G
    acc = sums image cert costs a

    pub positive : (c : Class) → 1 ≤ cost_of costs c
    positive c = (cost_of-range costs priced c).0

    -- the charge of a way's first part, the control that it leads to, and what stands in the slot's place then
    pub record Next (context : Context) (here : Control) (side : Side) (n : ℕ) : Type 0 where
      pub charge : ℕ
      pub to : Tree
      pub control : Control
      pub left : ℕ
      pub choices : List Bool
      pub costs_one : 1 ≤ charge
      pub sum : n ≡ charge + left
      pub leads : Leads image costs here choices charge control
      pub standing : Standing control (climb context to)
      pub fit : IsFit (climb context to)
      pub value : WVal image cert costs to side left

    relieved-less : (watches : List Watch) (place : ℕ) (r : Option (List Watch × ℕ)) (i k : ℕ) → tally i k (relieved_tree (Leaf watches (Pausing place)) r) ≤ tally i k (Leaf watches (Running place))
    relieved-less watches place None i k = omega arith
    relieved-less watches place (Some to) i k = omega arith

    empty : (ws : List Watch) → stack ws ≡ [] → ws ≡ []
    empty [] e = refl
    empty (l ∷ ws) e = cc

    some-watch : (ws : List Watch) (outside : List ℕ) (j : ℕ) → stack ws ≡ outside ++ j ∷ [] → 1 ≤ length ws
    some-watch [] outside j e = absurd (not-empty outside j e)
    some-watch (l ∷ ws) outside j e = omega arith

    module _ (context : Context) (watches : List Watch) (place stale : ℕ) (u : State) (quiet : IsQuietBefore context) (flat : IsFlat u) (tree_is : u.tree ≡ plug context (Leaf watches (Running stale))) (fit : IsFit (plug context (Leaf watches (Running place)))) where
      abbrev leaf : Tree
      leaf = Leaf watches (Running place)

      abbrev me : ℕ
      me = middle context

      abbrev here : Control
      here = goes (Turn (contexts.middle context)) place u

      round : IsContextRight F G context
      round = (plug-right F G context leaf fit.0).0

      own : IsRight F G me leaf
      own = (plug-right F G context leaf fit.0).1

      stale-sound : IsSound F (plug context (Leaf watches (Running stale)))
      stale-sound = sound-leaf F context watches watches (Running place) (Running stale) fit.1

      read-at : (w : Word) → F.code place None ≡ Some w → F.code place (G.upper place) ≡ Some w
      read-at w e = read-plain F G acc place w own.2 e

      -- the word of the place
      fine : (w : Word) → F.code place None ≡ Some w → IsFine F G place (Thread me (stack watches) []) w
      fine w e = word-of F G acc place (Thread me (stack watches) []) w own.0 (λ b. b) (read-at w e)

      -- the slot goes on
      goes-on : (side : Side) (n : ℕ) (watches' : List Watch) (to charge left : ℕ) (u' : State) (choices : List Bool) → IsFlat u' → u'.tree ≡ plug context (Leaf watches' (Running stale)) → 1 ≤ charge →
          Leads image costs here choices charge (goes (Turn (contexts.middle context)) to u') → IsRight F G me (Leaf watches' (Running to)) → Way image cert costs watches' to side left → n ≡ charge + left → Next context here side n
      goes-on side n watches' to charge left u' choices flat' t one leads r w e =
          let leaf' = Leaf watches' (Running to) in
          let same : climb context leaf' ≡ plug context leaf' = climb-ready context leaf' refl in
          record {
            charge = charge;
            to = leaf';
            control = goes (Turn (contexts.middle context)) to u';
            left = left;
            choices = choices;
            costs_one = one;
            sum = e;
            leads = leads;
            standing = in_turn context watches' to stale u' quiet flat' t refl same;
            fit = subst IsFit (sym same) (right-plug F G context leaf' round r refl, sound-leaf F context watches watches' (Running place) (Running to) fit.1);
            value = w;
          }

      -- the slot rests, and the next turn begins
      rests-at : (side : Side) (n : ℕ) (to : Tree) (charge left : ℕ) → 1 ≤ charge → Leads image costs here [] charge (turns_on (with_tree (climb context to) u)) → IsFit (climb context to) → WVal image cert costs to side left → n ≡ charge + left → Next context here side n
      rests-at side n to charge left one leads f v e =
          record {
            charge = charge;
            to = to;
            control = turns_on (with_tree (climb context to) u);
            left = left;
            choices = [];
            costs_one = one;
            sum = e;
            leads = leads;
            standing = turns-standing (with_tree (climb context to) u) flat f.1;
            fit = f;
            value = v;
          }

      climbing : (to : Tree) → IsRight F G me to → ((i k : ℕ) → tally i k to ≤ tally i k leaf) → IsFit (climb context to)
      climbing to r less = (
        (climbs F G acc context to round r).0,
        sound-less F (plug context leaf) (climb context to)
            (λ i. let x = climb-less F context to i 0 in let y = plug-more F i 0 leaf to (λ k. let z = less i k in omega (arith, z)) context 0 in omega (arith, x, y)) fit.1,
      )

      pause-next : (side : Side) (n m : ℕ) → instr_at image place ≡ Some instr.Eot → ways.Rested image cert costs watches side m → n ≡ cost_of costs class.Eot + m → Next context here side n
      pause-next side n m word w e =
          let code : F.code place None ≡ Some Eot = ap (read_instr image place None) word in
          let listed : is_listed image.pauses place (contexts.middle context) (stack watches) ≡ true = ap (λ x. is_listed image.pauses place x (stack watches)) (middle-same context) ∙ (fine Eot code).1.0 in
          let t = pause_at place leaf in
          let p = pauses F G acc me watches place own.0 own.1 (read-at Eot code) in
          rests-at side n t (cost_of costs class.Eot) m (positive class.Eot) (eot-leads image costs context watches stale quiet stale-sound u flat.1 tree_is place word listed)
          (climbing t p.0 (relieved-less watches place (relief watches)))
          (relieved-way image cert costs (Leaf watches (Pausing place)) watches side m (relief watches) refl (λ s. s) w) e

      end-next : (side : Side) (n : ℕ) → instr_at image place ≡ Some instr.End → side ≡ ToEnd → n ≡ cost_of costs class.End → Next context here side n
      end-next side n word f e =
          let code : F.code place None ≡ Some End = ap (read_instr image place None) word in
          let none : watches ≡ [] = empty watches (fine End code).0 in
          rests-at side n (Leaf watches Finished) (cost_of costs class.End) 0 (positive class.End) (end-leads image costs context watches stale quiet stale-sound u flat.1 tree_is place word none)
          (climbing (Leaf watches Finished) none (λ i k. omega arith)) (f, refl) (omega (arith, e))

      abrt-next : (side : Side) (n j m : ℕ) → instr_at image place ≡ Some (instr.Abrt j) → Way image cert costs (with_last (new_entry image j) watches) (place + 1) side m → n ≡ cost_of costs class.Abrt + m → Next context here side n
      abrt-next side n j m word w e =
          let code : F.code place None ≡ Some (Abrt j) = ap (read_instr image place None) word in
          let f = fine (Abrt j) code in
          let below : j < length image.aborts = lt-true j (length image.aborts) f.0 in
          let few : length watches < 8 = (let x = f.1 in let y = stack-size watches in omega (arith, x, y)) in
          let l = new_entry image j in
          let t = plug context (Leaf (with_last l watches) (Running stale)) in
          let k = own.1 in
          goes-on side n (with_last l watches) (place + 1) (cost_of costs class.Abrt) m (with_tree t u) [] flat refl (positive class.Abrt)
          (abrt-leads image costs context watches stale quiet stale-sound u flat.1 tree_is place j word below few)
          (f.2.0 ∙ ap (λ x. Thread me x []) (sym (stack-last watches l)), (k.0, enters F k.0 watches j k.1), f.2.1) w e

      leave-next : (side : Side) (n m : ℕ) → instr_at image place ≡ Some instr.Leave → Way image cert costs (without_last watches) (place + 1) side m → n ≡ cost_of costs class.Leave + m → Next context here side n
      leave-next side n m word w e =
          let code : F.code place None ≡ Some Leave = ap (read_instr image place None) word in
          let f = fine Leave code in
          let less = without_last watches in
          let t = plug context (Leaf less (Running stale)) in
          let k = own.1 in
          let r = leaves F k.0 watches f.0 f.1 k.1 f.2 in
          goes-on side n less (place + 1) (cost_of costs class.Leave) m (with_tree t u) [] flat refl (positive class.Leave)
          (leave-leads image costs context watches stale quiet stale-sound u flat.1 tree_is place word (some-watch watches f.0 f.1 f.2))
          (f.3.0 ∙ ap (λ x. Thread me x []) (sym r.1), (min k.0 (length f.0), r.0), f.3.1) w e

      fork-next : (side : Side) (n lo count : ℕ) (y : Side) (g m : ℕ) → instr_at image place ≡ Some (instr.Fork lo count) → Ways image cert costs lo count y g → Afterwards image cert costs watches place y side m → n ≡ cost_of costs class.Fork + (g + m) → Next context here side n
      fork-next side n lo count y g m word ws w e =
          let code : F.code place None ≡ Some (Fork lo count) = ap (read_instr image place None) word in
          let f = (fine (Fork lo count) code).1 in
          let mid = middle-same context in
          let listed : is_listed image.forks place (contexts.middle context) (stack watches) ≡ true = ap (λ x. is_listed image.forks place x (stack watches)) mid ∙ f.0 in
          let above : contexts.middle context < lo = (let x = f.1 in omega (arith, mid, x)) in
          let t = Waits watches place lo (begun F lo count) in
          let ready : any_ready (begun F lo count) ≡ true = begun-ready lo count f.2 in
          let free : (c : ℕ) → lo ≤ c → c < lo + count → tally c 0 (plug context leaf) ≡ 0 = children-free F G acc context watches place lo count fit.0 fit.1 f.0 code in
          let idle : inner.is_busy lo count (plug context (Leaf watches (Running stale))) ≡ false =
          busy-same (plug context (Leaf watches (Running stale))) (plug context leaf) (λ c. plug-occurs c (Leaf watches (Running stale)) leaf (λ j. refl) context 0) count lo ∙ not-busy F count lo (plug context leaf) free in
          let same : climb context t ≡ plug context t = climb-ready context t ready in
          let C : ℕ → Type 0 = λ i. F.code place None ≡ Some (Fork lo i) in
          let right : IsRight F G 0 (plug context t) =
          right-plug F G context t round ((f.0, subst C (sym (size-begun F count lo)) code, own.1), begun-unended F G count lo f.2, begun-right F G count lo f.4) refl in
          let fit' : IsFit (plug context t) = (right, sound-fork F context watches place lo count (Running place) free fit.1) in
          let V : Bool → Type 0 = λ b. when b ((z : Side) × (h r : ℕ) × WGVal image cert costs (begun F lo count) z h × Afterwards image cert costs watches place z side r × (g + m ≡ h + r)) ((side ≡ ToPause) × (g + m ≡ 0)) in
          let L : Tree → Type 0 = λ x. Leads image costs here [] (cost_of costs class.Fork) (turns_on (with_tree x u)) in
          rests-at side n t (cost_of costs class.Fork) (g + m) (positive class.Fork)
          (subst L (sym same) (fork-leads image costs context watches stale quiet stale-sound u flat.1 tree_is cert a place lo count word listed flat.0 above f.2 f.3 idle))
          (subst IsFit (sym same) fit') (subst V (sym ready) (y, g, m, ways-values lo count y g ws count refl, w, refl)) e

      pub next : (side : Side) (n : ℕ) → Way image cert costs watches place side n → Next context here side n
      next side n (ways.passes c q m p at w e) = goes-on side n watches q c m u p.choices flat tree_is p.costs_one (p.leads (contexts.middle context) u flat.1) (at.0 ∙ own.0, own.1, at.1) w e
      next side n (ways.enters j m word w e) = abrt-next side n j m word w e
      next side n (ways.leaves m word w e) = leave-next side n m word w e
      next side n (ways.pauses m word w e) = pause-next side n m word w e
      next side n (ways.forks lo count y g m word ws w e) = fork-next side n lo count y g m word ws w e
      next side n (ways.ends word f e) = end-next side n word f e

    -- the same of the whole tree
    pub record Advanced (c : Control) (side : Side) (n : ℕ) : Type 0 where
      pub charge : ℕ
      pub control : Control
      pub tree : Tree
      pub left : ℕ
      pub choices : List Bool
      pub costs_one : 1 ≤ charge
      pub sum : n ≡ charge + left
      pub leads : Leads image costs c choices charge control
      pub standing : Standing control tree
      pub fit : IsFit tree
      pub value : WVal image cert costs tree side left

    advances : (context : Context) (watches : List Watch) (place stale : ℕ) (u : State) → IsQuietBefore context → IsFlat u → u.tree ≡ plug context (Leaf watches (Running stale)) → (side : Side) (n : ℕ) →
        IsFit (plug context (Leaf watches (Running place))) → WVal image cert costs (plug context (Leaf watches (Running place))) side n → Advanced (goes (Turn (contexts.middle context)) place u) side n
    advances context watches place stale u quiet flat tree_is side n fit v =
        let leaf = Leaf watches (Running place) in
        let held = context-held image cert costs context (WVal image cert costs leaf) side n (unplugged image cert costs context leaf refl side n v) in
        let step = next context watches place stale u quiet flat tree_is fit held.0 held.1 held.2 in
        let around = held.3 (WVal image cert costs step.to) step.left step.value in
        record {
          charge = step.charge;
          control = step.control;
          tree = climb context step.to;
          left = around.0;
          choices = step.choices;
          costs_one = step.costs_one;
          sum = (let x = step.sum in let y = around.2 in omega (arith, x, y));
          leads = step.leads;
          standing = step.standing;
          fit = step.fit;
          value = climbed image cert costs context step.to side around.0 around.1;
        }

    -- a free tick goes on from a control to its end at this cost
    pub record Walked (c : Control) (n : ℕ) : Type 0 where
      pub choices : List Bool
      pub last : Control
      pub over : last.phase ≡ Resting
      pub leads : Leads image costs c choices n last

    onwards : (c : Control) (side : Side) (n : ℕ) (x : Advanced c side n) → Walked x.control x.left → Walked c n
    onwards c side n x w = record {
      choices = x.choices ++ w.choices;
      last = w.last;
      over = w.over;
      leads = costing image costs c w.last (x.choices ++ w.choices) (x.charge + x.left) n (sym x.sum) (joined-leads image costs c x.control w.last x.choices w.choices x.charge x.left x.leads w.leads);
    }

    -- one part of a way, where a slot is ready
    advanced : (c : Control) (t : Tree) (side : Side) (n : ℕ) → Standing c t → IsFit t → WVal image cert costs t side n → (Advanced c side n) ⊎ ((c.phase ≡ Resting) × (n ≡ 0))
    advanced c t side n (in_turn context watches place stale u quiet flat tree_is is there) fit v =
        let V : Tree → Type 0 = λ x. WVal image cert costs x side n in
        let A : Control → Type 0 = λ x. Advanced x side n in
        inl (subst A (sym is) (advances context watches place stale u quiet flat tree_is side n (subst IsFit there fit) (subst V there v)))
    advanced c t side n (at_rest over none) fit v = inr (over, (rest-exact image cert costs t side n none v).1)

    rested : (c : Control) (n : ℕ) → c.phase ≡ Resting → n ≡ 0 → Walked c n
    rested c n over z = record { choices = []; last = c; over = over; leads = costing image costs c c [] 0 n (sym z) (no-lead image costs c) }

    -- the whole walk; what is left is less with each step
    pub walks : (fuel n : ℕ) → n ≤ fuel → (c : Control) (t : Tree) (side : Side) → Standing c t → IsFit t → WVal image cert costs t side n → Walked c n
    walks zero n f c t side s fit v = ⊎_elim (λ x. absurd (let a1 = x.costs_one in let b = x.sum in omega (arith, a1, b, f))) (λ z. rested c n z.0 z.1) (advanced c t side n s fit v)
    walks (suc fuel) n f c t side s fit v =
        ⊎_elim
        (λ x. onwards c side n x (walks fuel x.left (let a1 = x.costs_one in let b = x.sum in omega (arith, a1, b, f)) x.control x.tree side x.standing x.fit x.value))
        (λ z. rested c n z.0 z.1) (advanced c t side n s fit v)
