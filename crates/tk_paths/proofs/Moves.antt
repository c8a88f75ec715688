-- The steps of a free tick at the words of the unit, and how paths are joined.
use Rattle.std.proofs.Common.{◌≡◌, ◌≤◌, ◌<◌, ◌+◌, ◌++◌, ◌==◌, ◌||◌, ℕ, suc, Bool, true, false, not, nat_le, nat_lt, if◌then◌else◌, List, [], ◌∷◌, map, take, drop, length, slice_get, Option, Some, None, Ok, refl, sym, ap, ◌∙◌, subst, append_assoc, arith}
use Rattle.std.proofs.lemmas.Bool.Decides.{nat_tests}
use Rattle.std.proofs.lemmas.Option.{none-some}
use Rattle.mb_isa.specs.declared.Instr.{Instr}
use Rattle.mb_isa.specs.declared.Instr.TheVariants as instr
use Rattle.mb_isa.specs.declared.Class.{Class}
use Rattle.mb_isa.specs.declared.Class.TheVariants as class
use Rattle.mb_isa.specs.Candidates.{decoded}
use Rattle.mb_isa.specs.Costs.{cost_of, IsCosts}
use Rattle.mb_pfu.specs.declared.parts.Watch.{Watch}
use Rattle.mb_pfu.specs.declared.parts.TrapKind.TheVariants.{WrongPlace, SlotBusy, TableFull, TableEmpty}
use Rattle.mb_pfu.specs.Rows.{with_last}
use Rattle.mb_pfu.specs.Tree.{Running, Finished, Tree, Leaf, Waits, pause_at, has_ready, watches_of, slot_of, next_job, report, reported_number}
use Rattle.mb_pfu.specs.Tree as tree
use Rattle.mb_pfu.specs.Contexts.{Context, plug, climb, IsQuietBefore}
use Rattle.mb_pfu.specs.Contexts as contexts
use Rattle.mb_pfu.specs.Calls as calls
use Rattle.mb_pfu.specs.Calls.{with_tree}
use Rattle.mb_pfu.specs.Unit as unit
use Rattle.mb_pfu.specs.Unit.{State, fresh, is_nested}
use Rattle.pt_image.specs.declared.AbortLine.{AbortLine}
use Rattle.pt_image.specs.declared.Parts.{Parts}
use Rattle.tk_cert.specs.declared.cert.CertParts.{CertParts}
use Rattle.pt_image.specs.Listed.{is_listed}
use Rattle.mb_isa.specs.Control.{Control, Who, Turn, goes, stack_of, turns_on}
use Rattle.mb_isa.specs.Words.{Refuse, Go, plan_of, plan_word, plan_decoded, rests, on, enters}
use Rattle.mb_isa.specs.Step.{Moves, stepped, step}
use Rattle.mb_isa.specs.Free.{free}
use Rattle.mb_isa.specs.Tick.{Steps, still, onward}
use Rattle.mb_isa.proofs.Charging.{charge-least}
use Rattle.tk_paths.specs.Words.{instr_at, instr_in}
use Rattle.tk_paths.proofs.SlotFacts.{without_last}
use Rattle.tk_paths.proofs.Inner.{Image, begun, IsSound, stack}
use Rattle.tk_paths.proofs.Inner as inner
use Rattle.tk_paths.proofs.Carried.{image_of}
use Rattle.tk_paths.proofs.Accepts.{Accepts}
use Rattle.tk_paths.proofs.Accepted.{abort-there}
use Rattle.tk_paths.proofs.Turns.{watches-are, paused-is, finished-is, forked-is, entered-is, left-is, free-children}
use Rattle.tk_paths.proofs.Turned.{starts-are}
use Rattle.tk_paths.specs.Passages.{IsUnnested, Leads}
use Rattle.tk_paths.proofs.Flags.{new_entry}

pub stack-size : (watches : List Watch) → length (stack watches) ≡ length watches
stack-size [] = refl
stack-size (l ∷ watches) = let e = stack-size watches in omega (arith, e)

module _ (image : Parts) (costs : List ℕ) where
  steps-join : (a : Control) (d : List Bool) (m i : ℕ) (b : Control) (e : List Bool) (n j : ℕ) (c : Control) (f : List Bool) → Steps free image costs a d m i b e → Steps free image costs b e n j c f → Steps free image costs a d (m + n) (i + j) c f
  steps-join a d m i b e n j c f still q =
      let S : ℕ → ℕ → Type 0 = λ x y. Steps free image costs a d x y c f in
      let e1 : n ≡ 0 + n = omega arith in
      let e2 : j ≡ 0 + j = omega arith in
      subst (λ x. S x (0 + j)) e1 (subst (S n) e2 q)
  steps-join a d m i b e n j c f (onward {next = x} {after = y} {charge = k} {rest = r} {count = l} h more) q =
      let S : ℕ → ℕ → Type 0 = λ u v. Steps free image costs a d u v c f in
      let e1 : k + (r + n) ≡ k + r + n = omega arith in
      let e2 : suc (l + j) ≡ suc l + j = omega arith in
      subst (λ u. S u (suc l + j)) e1 (subst (S (k + (r + n))) e2 (onward h (steps-join x y r l b e n j c f more q)))

  pub steps-count : IsCosts costs → (a : Control) (d : List Bool) (m i : ℕ) (b : Control) (e : List Bool) → Steps free image costs a d m i b e → i ≤ m
  steps-count priced a d m i b e still = omega arith
  steps-count priced a d m i b e (onward {next = x} {after = y} {charge = k} {rest = r} {count = l} h more) =
      let one : 1 ≤ k = charge-least free costs priced image a x d y k h in
      let less : l ≤ r = steps-count priced x y r l b e more in
      omega (arith, one, less)

  pub no-lead : (c : Control) → Leads image costs c [] 0 c
  no-lead c = record { count = 0; steps = λ rest. still }

  pub one-lead : (from to : Control) (choices : List Bool) (cost : ℕ) → ((rest : List Bool) → step free costs image from (choices ++ rest) ≡ Moves cost to rest) → Leads image costs from choices cost to
  one-lead from to choices cost h = record {
    count = 1;
    steps = λ rest.
        let S : ℕ → Type 0 = λ n. Steps free image costs from (choices ++ rest) n 1 to rest in
        let e : cost + 0 ≡ cost = omega arith in
        subst S e (onward (h rest) still);
  }

  pub joined-leads : (a b c : Control) (x y : List Bool) (m n : ℕ) → Leads image costs a x m b → Leads image costs b y n c → Leads image costs a (x ++ y) (m + n) c
  joined-leads a b c x y m n p q = record {
    count = p.count + q.count;
    steps = λ rest.
        let S : List Bool → Type 0 = λ d. Steps free image costs a d (m + n) (p.count + q.count) c rest in
        subst S (sym (append_assoc x y rest)) (steps-join a (x ++ (y ++ rest)) m p.count b (y ++ rest) n q.count c rest (p.steps (y ++ rest)) (q.steps rest));
  }

  pub costing : (a b : Control) (x : List Bool) (m n : ℕ) → m ≡ n → Leads image costs a x m b → Leads image costs a x n b
  costing a b x m n e p = subst (λ k. Leads image costs a x k b) e p

  pub there : (place : ℕ) (i : Instr) → instr_at image place ≡ Some i → (w : ℕ) × (slice_get image.code place ≡ Some w) × (decoded w ≡ Some i)
  there place i h = by (slice_get image.code place) refl h
    where
      by : (o : Option ℕ) → slice_get image.code place ≡ o → instr_in o ≡ Some i → (w : ℕ) × (slice_get image.code place ≡ Some w) × (decoded w ≡ Some i)
      by None e k = absurd (none-some i k)
      by (Some w) e k = (w, e, k)

  -- what a word comes to that is read with no upper half
  pub planned : (who : Who) (place : ℕ) (u : State) (i : Instr) → instr_at image place ≡ Some i → plan_word image who place None u (slice_get image.code place) ≡ plan_of image who place None u i
  planned who place u i h = let t = there place i h in ap (plan_word image who place None u) t.1 ∙ ap (plan_decoded image who place None u) t.2

  -- a word of a slot's turn that asks nothing of the data
  pub go-lead : (s place : ℕ) (u : State) (i : Instr) (c : Class) (next : Control) → instr_at image place ≡ Some i → plan_of image (Turn s) place None u i ≡ Go c next → Leads image costs (goes (Turn s) place u) [] (cost_of costs c) next
  go-lead s place u i c next h k = one-lead (goes (Turn s) place u) next [] (cost_of costs c) (λ rest. ap (stepped free costs rest) (planned (Turn s) place u i h ∙ k))

  abbrev F : Image
  F = image_of image costs

  module _ (context : Context) (watches : List Watch) (stale : ℕ) (quiet : IsQuietBefore context) (sound : IsSound F (plug context (Leaf watches (Running stale)))) (u : State) (flat : IsUnnested u) (tree_is : u.tree ≡ plug context (Leaf watches (Running stale))) where
    abbrev s : ℕ
    s = contexts.middle context

    inside : watches_of s u.tree ≡ watches
    inside = ap (watches_of s) tree_is ∙ watches-are F context watches stale quiet sound

    stacked : stack_of s u ≡ stack watches
    stacked = ap (λ (v : List Watch). map (λ (l : Watch). l.entry.number) v) inside

    unnested : is_nested u ≡ false
    unnested = ap (λ (l : List ℕ). not (length l == 0) || not (length u.counters == 0)) flat.0 ∙ ap (λ (l : List ℕ). not (length l == 0)) flat.1

    pub eot-leads : (place : ℕ) → instr_at image place ≡ Some instr.Eot → is_listed image.pauses place s (stack watches) ≡ true →
        Leads image costs (goes (Turn s) place u) [] (cost_of costs class.Eot) (turns_on (with_tree (climb context (pause_at place (Leaf watches (Running stale)))) u))
    eot-leads place word listed =
        let listed' : is_listed image.pauses place s (stack_of s u) ≡ true = ap (is_listed image.pauses place s) stacked ∙ listed in
        let t : tree.paused s place u.tree ≡ climb context (pause_at place (Leaf watches (Running stale))) = ap (tree.paused s place) tree_is ∙ paused-is F context watches stale quiet sound place in
        go-lead s place u instr.Eot class.Eot _ word
        (ap (λ b. if b then rests class.Eot (calls.pause u s place) else Refuse WrongPlace) listed'
        ∙ ap (λ b. rests class.Eot (calls.unless b WrongPlace (Ok (with_tree (tree.paused s place u.tree) u)))) unnested
        ∙ ap (λ x. Go class.Eot (turns_on (with_tree x u))) t)

    pub end-leads : (place : ℕ) → instr_at image place ≡ Some instr.End → watches ≡ [] → Leads image costs (goes (Turn s) place u) [] (cost_of costs class.End) (turns_on (with_tree (climb context (Leaf watches Finished)) u))
    end-leads place word none =
        let alone : watches_of s u.tree ≡ [] = inside ∙ none in
        let t : tree.finished s u.tree ≡ climb context (Leaf watches Finished) = ap (tree.finished s) tree_is ∙ finished-is F context watches stale quiet sound in
        go-lead s place u instr.End class.End _ word
        (ap (λ b. rests class.End (calls.unless (b || not (length (watches_of s u.tree) == 0)) WrongPlace (Ok (with_tree (tree.finished s u.tree) u)))) unnested
        ∙ ap (λ (v : List Watch). rests class.End (calls.unless (not (length v == 0)) WrongPlace (Ok (with_tree (tree.finished s u.tree) u)))) alone
        ∙ ap (λ x. Go class.End (turns_on (with_tree x u))) t)

    pub fork-leads : (cert : CertParts) → Accepts image cert costs → (place lo n : ℕ) → instr_at image place ≡ Some (instr.Fork lo n) → is_listed image.forks place s (stack watches) ≡ true → u.slots ≡ length image.slots →
        s < lo → 1 ≤ n → lo + n ≤ length image.slots → inner.is_busy lo n (plug context (Leaf watches (Running stale))) ≡ false →
        Leads image costs (goes (Turn s) place u) [] (cost_of costs class.Fork) (turns_on (with_tree (plug context (Waits watches place lo (begun F lo n))) u))
    fork-leads cert a place lo n word listed slots above some room idle =
        let starts = take n (drop lo image.slots) in
        let kids = starts-are image cert costs a n lo room in
        let size = kids.1 in
        let room' : nat_lt (length image.slots) (lo + n) ≡ false = grind (arith, nat_tests, room) in
        let first : (not (is_listed image.forks place s (stack_of s u)) || nat_lt (length image.slots) (lo + n)) ≡ false =
        ap (λ v. not (is_listed image.forks place s v) || nat_lt (length image.slots) (lo + n)) stacked ∙ ap (λ b. not b || nat_lt (length image.slots) (lo + n)) listed ∙ room' in
        let some' : (n == 0) ≡ false = grind (arith, nat_tests, some) in
        let above' : nat_le lo s ≡ false = grind (arith, nat_tests, above) in
        let misplaced : unit.is_misplaced u s lo starts ≡ false =
        ap (λ b. b || length starts == 0 || nat_le lo s || nat_lt u.slots (lo + length starts)) unnested
        ∙ ap (λ m. m == 0 || nat_le lo s || nat_lt u.slots (lo + m)) size
        ∙ ap (λ b. b || nat_le lo s || nat_lt u.slots (lo + n)) some'
        ∙ ap (λ b. b || nat_lt u.slots (lo + n)) above'
        ∙ ap (λ x. nat_lt x (lo + n)) slots ∙ room' in
        let idle' : inner.is_busy lo (length starts) u.tree ≡ false = ap (λ m. inner.is_busy lo m u.tree) size ∙ ap (inner.is_busy lo n) tree_is ∙ idle in
        let free : tree.is_busy lo starts u.tree ≡ false = free-children u.tree lo starts idle' in
        let t : tree.forked s place lo starts u.tree ≡ plug context (Waits watches place lo (begun F lo n)) =
        ap (tree.forked s place lo starts) tree_is ∙ forked-is F context watches stale quiet sound place lo starts ∙ ap (λ x. plug context (Waits watches place lo x)) kids.0 in
        go-lead s place u (instr.Fork lo n) class.Fork _ word
        (ap (λ b. if b then Refuse WrongPlace else rests class.Fork (calls.fork u s place lo starts)) first
        ∙ ap (λ b. rests class.Fork (calls.unless b WrongPlace (calls.unless (tree.is_busy lo starts u.tree) SlotBusy (Ok (with_tree (tree.forked s place lo starts u.tree) u))))) misplaced
        ∙ ap (λ b. rests class.Fork (calls.unless b SlotBusy (Ok (with_tree (tree.forked s place lo starts u.tree) u)))) free
        ∙ ap (λ x. Go class.Fork (turns_on (with_tree x u))) t)

    abbrev entry : AbortLine → ℕ → Watch
    entry x j = fresh j x.weak x.cond x.handler

    pub abrt-leads : (place j : ℕ) → instr_at image place ≡ Some (instr.Abrt j) → j < length image.aborts → length watches < 8 →
        Leads image costs (goes (Turn s) place u) [] (cost_of costs class.Abrt) (goes (Turn s) (place + 1) (with_tree (plug context (Leaf (with_last (new_entry image j) watches) (Running stale))) u))
    abrt-leads place j word below few =
        let l = abort-there image.aborts j below in
        let x = entry l.0 j in
        let t : tree.entered s x u.tree ≡ plug context (Leaf (with_last x watches) (Running stale)) = ap (tree.entered s x) tree_is ∙ entered-is F context watches stale quiet sound x in
        let same : x ≡ new_entry image j = ap (λ (y : AbortLine). fresh j y.weak y.cond y.handler) (sym l.2) in
        let room : (length watches == 8) ≡ false = grind (arith, nat_tests, few) in
        let full : (length (watches_of s u.tree) == 8) ≡ false = ap (λ (v : List Watch). length v == 8) inside ∙ room in
        go-lead s place u (instr.Abrt j) class.Abrt _ word
        (ap (enters s place j u) l.1
        ∙ ap (λ b. on class.Abrt s (place + 1) (calls.unless b WrongPlace (calls.unless (length (watches_of s u.tree) == 8) TableFull (Ok (with_tree (tree.entered s x u.tree) u))))) unnested
        ∙ ap (λ b. on class.Abrt s (place + 1) (calls.unless b TableFull (Ok (with_tree (tree.entered s x u.tree) u)))) full
        ∙ ap (λ y. Go class.Abrt (goes (Turn s) (place + 1) (with_tree y u))) (t ∙ ap (λ y. plug context (Leaf (with_last y watches) (Running stale))) same))

    pub leave-leads : (place : ℕ) → instr_at image place ≡ Some instr.Leave → 1 ≤ length watches →
        Leads image costs (goes (Turn s) place u) [] (cost_of costs class.Leave) (goes (Turn s) (place + 1) (with_tree (plug context (Leaf (without_last watches) (Running stale))) u))
    leave-leads place word some =
        let t : tree.left s u.tree ≡ plug context (Leaf (without_last watches) (Running stale)) = ap (tree.left s) tree_is ∙ left-is F context watches stale quiet sound in
        let some' : (length watches == 0) ≡ false = grind (arith, nat_tests, some) in
        let there : (length (watches_of s u.tree) == 0) ≡ false = ap (λ (v : List Watch). length v == 0) inside ∙ some' in
        go-lead s place u instr.Leave class.Leave _ word
        (ap (λ b. on class.Leave s (place + 1) (calls.unless b WrongPlace (calls.unless (length (watches_of s u.tree) == 0) TableEmpty (Ok (with_tree (tree.left s u.tree) u))))) unnested
        ∙ ap (λ b. on class.Leave s (place + 1) (calls.unless b TableEmpty (Ok (with_tree (tree.left s u.tree) u)))) there
        ∙ ap (λ y. Go class.Leave (goes (Turn s) (place + 1) (with_tree y u))) t)
