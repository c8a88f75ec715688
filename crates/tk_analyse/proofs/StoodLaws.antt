-- What a walk says of slots, set one slot after another.
use Rattle.std.proofs.Common.{◌≡◌, ◌≢◌, ◌⊎◌, inl, inr, ℕ, ◌+◌, ◌<◌, ◌≤◌, ◌==◌, ◌&&◌, zero, suc, Bool, true, false, if◌then◌else◌, List, [], ◌∷◌, replicate, map, set, length, get_or, Option, Some, None, refl, sym, ap, ◌∙◌, eqb, arith}
use Rattle.std.proofs.lemmas.List.{length-set, length-replicate}
use Rattle.std.proofs.lemmas.Bool.Decides.{eqb_tells}
use Rattle.std.specs.List.{range_with_len}
use Rattle.mb_pfu.specs.declared.Slot.TheVariants as unit_slot
use Rattle.mb_pfu.specs.declared.parts.Watch.{Watch}
use Rattle.mb_pfu.specs.Rows.{Selector, Report, numbered, or_else}
use Rattle.mb_pfu.specs.Tree.{Activity, Running, Pausing, Finished, Tree, Group, Leaf, Waits, no_more, member, size, slot_of_activity, report, report_among, reported_state, slot_of}
use Rattle.tk_cert.specs.declared.cert.State.{State}
use Rattle.tk_cert.specs.declared.cert.State.TheVariants.{Free, Start, Paused, Waiting, Ended}
use Rattle.tk_paths.specs.Walks.{state_of}
use Rattle.tk_analyse.specs.Stood.{state_at, reported, stood, IsStood, IsGroupStood, is_free, IsSet}

-- ---- one slot

at-index : (xs : List State) (i : ℕ) (x : State) → i < length xs → x ≡ get_or xs i x → state_at xs i ≡ x
at-index [] i x h e = absurd (omega (arith, h))
at-index (y ∷ xs) zero x h e = sym e
at-index (y ∷ xs) (suc i) x h e = at-index xs i x (omega (arith, h)) e

set-same : (xs : List State) (i : ℕ) (v : State) → i < length xs → state_at (set xs i v) i ≡ v
set-same [] i v h = absurd (omega (arith, h))
set-same (y ∷ xs) zero v h = refl
set-same (y ∷ xs) (suc i) v h = set-same xs i v (omega (arith, h))

set-other : (xs : List State) (i q : ℕ) (v : State) → i ≢ q → state_at (set xs i v) q ≡ state_at xs q
set-other [] zero q v n = refl
set-other [] (suc i) q v n = refl
set-other (y ∷ xs) zero zero v n = absurd (n refl)
set-other (y ∷ xs) zero (suc q) v n = refl
set-other (y ∷ xs) (suc i) zero v n = refl
set-other (y ∷ xs) (suc i) (suc q) v n = set-other xs i q v (λ e. n (ap suc e))

none-free : (b : Bool) (state s : State) → is_free s ≡ false → (if b && is_free s then state else s) ≡ s
none-free true state s h = ap (λ (f : Bool). if f then state else s) h
none-free false state s h = refl

pub set_past : (slot : ℕ) (state : State) (old : List State) → length old ≤ slot → IsSet slot state old old
unfolding IsSet
set_past slot state old h = (refl, λ q low. at q low (eqb_tells slot q))
  where
    at : (q : ℕ) → q < length old → ((eqb slot q ≡ true) × (slot ≡ q)) ⊎ ((eqb slot q ≡ false) × (slot ≢ q)) →
        state_at old q ≡ (if (slot == q) && is_free (state_at old q) then state else state_at old q)
    at q low (inl e) = absurd (omega (arith, h, low, e.1))
    at q low (inr e) = sym (ap (λ (b : Bool). if b && is_free (state_at old q) then state else state_at old q) e.0)

pub set_busy : (slot : ℕ) (state x : State) (old : List State) → slot < length old → x ≡ get_or old slot x → is_free x ≡ false → IsSet slot state old old
unfolding IsSet
set_busy slot state x old h is f = (refl, λ q low. at q (eqb_tells slot q))
  where
    at : (q : ℕ) → ((eqb slot q ≡ true) × (slot ≡ q)) ⊎ ((eqb slot q ≡ false) × (slot ≢ q)) →
        state_at old q ≡ (if (slot == q) && is_free (state_at old q) then state else state_at old q)
    at q (inl e) =
        sym (none-free (slot == q) state (state_at old q) (ap (λ (n : ℕ). is_free (state_at old n)) (sym e.1) ∙ ap is_free (at-index old slot x h is) ∙ f))
    at q (inr e) = sym (ap (λ (b : Bool). if b && is_free (state_at old q) then state else state_at old q) e.0)

pub set_free : (slot : ℕ) (state x : State) (old : List State) → slot < length old → x ≡ get_or old slot x → is_free x ≡ true → IsSet slot state old (set old slot state)
unfolding IsSet
set_free slot state x old h is f = (length-set old slot state, λ q low. at q (eqb_tells slot q))
  where
    at : (q : ℕ) → ((eqb slot q ≡ true) × (slot ≡ q)) ⊎ ((eqb slot q ≡ false) × (slot ≢ q)) →
        state_at (set old slot state) q ≡ (if (slot == q) && is_free (state_at old q) then state else state_at old q)
    at q (inl e) =
        ap (state_at (set old slot state)) (sym e.1) ∙ set-same old slot state h
        ∙ sym (ap (λ (b : Bool). if b && is_free (state_at old q) then state else state_at old q) e.0
        ∙ ap (λ (b : Bool). if b then state else state_at old q) (ap (λ (n : ℕ). is_free (state_at old n)) (sym e.1) ∙ ap is_free (at-index old slot x h is) ∙ f))
    at q (inr e) =
        set-other old slot q state e.1
        ∙ sym (ap (λ (b : Bool). if b && is_free (state_at old q) then state else state_at old q) e.0)

pub ruleset sets = (set_past, set_busy, set_free)

-- ---- trees

leaf-said : (b : Bool) (activity : Activity) (s : State) (k : ℕ) (ws : List Watch) →
    (if b && is_free s then state_of (slot_of_activity activity) else s) ≡ stood s (if b then Some (k, slot_of_activity activity, ws) else None)
leaf-said true activity Free k ws = refl
leaf-said true activity Start k ws = refl
leaf-said true activity (Paused p) k ws = refl
leaf-said true activity (Waiting p) k ws = refl
leaf-said true activity Ended k ws = refl
leaf-said false activity Free k ws = refl
leaf-said false activity Start k ws = refl
leaf-said false activity (Paused p) k ws = refl
leaf-said false activity (Waiting p) k ws = refl
leaf-said false activity Ended k ws = refl

pub leaf_stood : (slot : ℕ) (ws : List Watch) (activity : Activity) (old new : List State) → IsSet slot (state_of (slot_of_activity activity)) old new →
    IsStood slot (Leaf ws activity) old new
unfolding IsSet IsStood
leaf_stood slot ws activity old new h = (h.0, λ q low. h.1 q low ∙ leaf-said (slot == q) activity (state_at old q) slot ws)

waits-said : (b : Bool) (s : State) (k at lo n : ℕ) (ws : List Watch) (r : Option Report) →
    stood (if b && is_free s then Waiting at else s) r ≡ stood s (if b then Some (k, unit_slot.Waiting at lo n, ws) else r)
waits-said true Free k at lo n ws r = refl
waits-said true Start k at lo n ws r = refl
waits-said true (Paused p) k at lo n ws r = refl
waits-said true (Waiting p) k at lo n ws r = refl
waits-said true Ended k at lo n ws r = refl
waits-said false Free k at lo n ws r = refl
waits-said false Start k at lo n ws r = refl
waits-said false (Paused p) k at lo n ws r = refl
waits-said false (Waiting p) k at lo n ws r = refl
waits-said false Ended k at lo n ws r = refl

pub waits_stood : (slot at lo : ℕ) (ws : List Watch) (g : Group) (old mid new : List State) → IsSet slot (Waiting at) old mid → IsGroupStood lo g mid new →
    IsStood slot (Waits ws at lo g) old new
unfolding IsSet IsStood IsGroupStood
waits_stood slot at lo ws g old mid new h i =
    (i.0 ∙ h.0, λ q low. i.1 q (omega (arith, low, h.0)) ∙ ap (λ (s : State). stood s (report_among (numbered q) lo g)) (h.1 q low) ∙ waits-said (slot == q) (state_at old q) slot at lo (size g) ws (report_among (numbered q) lo g))

-- ---- groups

none-said : (s : State) → s ≡ stood s None
none-said Free = refl
none-said Start = refl
none-said (Paused p) = refl
none-said (Waiting p) = refl
none-said Ended = refl

pub none_stood : (k : ℕ) (old : List State) → IsGroupStood k no_more old old
unfolding IsGroupStood
none_stood k old = (refl, λ q low. none-said (state_at old q))

-- what is reported of one slot isn't lost
abbrev Stays : Option Report → Type 0
Stays a = (b : Option Report) → stood (reported a) b ≡ reported (or_else a b)

both-stay : (a c : Option Report) → Stays a → Stays c → Stays (or_else a c)
both-stay None c h i = i
both-stay (Some r) c h i = h

leaf-stays : (b : Bool) (k : ℕ) (activity : Activity) (ws : List Watch) → Stays (if b then Some (k, slot_of_activity activity, ws) else None)
leaf-stays true k (Running p) ws = λ b. refl
leaf-stays true k (Pausing p) ws = λ b. refl
leaf-stays true k Finished ws = λ b. refl
leaf-stays false k activity ws = λ b. refl

waits-stay : (b : Bool) (k at lo n : ℕ) (ws : List Watch) (r : Option Report) → Stays r → Stays (if b then Some (k, unit_slot.Waiting at lo n, ws) else r)
waits-stay true k at lo n ws r h = λ b. refl
waits-stay false k at lo n ws r h = h

mutual
  tree-stays : (p : Selector) (k : ℕ) (t : Tree) → Stays (report p k t)
  tree-stays p k (Leaf ws activity) = leaf-stays (p k (slot_of_activity activity) ws) k activity ws
  tree-stays p k (Waits ws at lo g) = waits-stay (p k (unit_slot.Waiting at lo (size g)) ws) k at lo (size g) ws (report_among p lo g) (group-stays p lo g)

  group-stays : (p : Selector) (k : ℕ) (g : Group) → Stays (report_among p k g)
  group-stays p k no_more = λ b. refl
  group-stays p k (member t ts) = both-stay (report p k t) (report_among p (k + 1) ts) (tree-stays p k t) (group-stays p (k + 1) ts)

both-said : (s : State) (a b : Option Report) → Stays a → stood (stood s a) b ≡ stood s (or_else a b)
both-said Free a b h = h b
both-said Start a b h = refl
both-said (Paused p) a b h = refl
both-said (Waiting p) a b h = refl
both-said Ended a b h = refl

pub member_stood : (k : ℕ) (t : Tree) (g : Group) (old mid new : List State) → IsStood k t old mid → IsGroupStood (k + 1) g mid new → IsGroupStood k (member t g) old new
unfolding IsStood IsGroupStood
member_stood k t g old mid new h i =
    (i.0 ∙ h.0, λ q low. i.1 q (omega (arith, low, h.0)) ∙ ap (λ (s : State). stood s (report_among (numbered q) (k + 1) g)) (h.1 q low) ∙ both-said (state_at old q) (report (numbered q) k t) (report_among (numbered q) (k + 1) g) (tree-stays (numbered q) k t))

-- ---- all slots, where nothing was said

free-at : (n q : ℕ) → state_at (replicate n Free) q ≡ Free
free-at zero q = refl
free-at (suc n) zero = refl
free-at (suc n) (suc q) = free-at n q

said : (r : Option Report) → reported r ≡ state_of (reported_state r)
said None = refl
said (Some r) = refl

states-by : (f : ℕ → State) (from n : ℕ) (xs : List State) → length xs ≡ n → ((q : ℕ) → q < n → state_at xs q ≡ f (from + q)) → xs ≡ map f (range_with_len from n)
states-by f from zero [] e h = refl
states-by f from zero (x ∷ xs) e h = absurd (omega (arith, e))
states-by f from (suc n) [] e h = absurd (omega (arith, e))
states-by f from (suc n) (x ∷ xs) e h =
    let first : x ≡ f from = h 0 (omega arith) ∙ ap f (let z : from + 0 ≡ from = omega arith in z) in
    let more : xs ≡ map f (range_with_len (from + 1) n) =
    states-by f (from + 1) n xs (omega (arith, e)) (λ q low. h (suc q) (omega (arith, low)) ∙ ap f (let z : from + suc q ≡ from + 1 + q = omega arith in z)) in
    λ i. first i ∷ more i

pub all_stood : (n : ℕ) (t : Tree) (old new : List State) → old ≡ replicate n Free → IsStood 0 t old new → new ≡ map (λ s. state_of (slot_of s t)) (range_with_len 0 n)
unfolding IsStood
all_stood n t old new e h =
    let size : length old ≡ n = ap length e ∙ length-replicate n Free in
    states-by (λ s. state_of (slot_of s t)) 0 n new (h.0 ∙ size)
    (λ q low. h.1 q (omega (arith, low, size)) ∙ ap (λ (s : State). stood s (report (numbered q) 0 t)) (ap (λ (l : List State). state_at l q) e ∙ free-at n q)
    ∙ said (report (numbered q) 0 t) ∙ ap (λ s. state_of (slot_of s t)) (let z : q ≡ 0 + q = omega arith in z))
