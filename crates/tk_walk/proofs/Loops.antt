-- What loops over states and stacks come to.
use Rattle.std.proofs.Common.{◌≡◌, ◌≢◌, ◌<◌, ◌≤◌, ◌+◌, ◌-◌, ◌||◌, ℕ, zero, suc, Bool, true, false, List, [], ◌∷◌, map, length, take, drop, get_or, length-take, length-drop, slice_index_or, refl, ap, ◌∙◌, arith, add-one}
use Rattle.std.specs.List.{AllByRecursion, range_with_len}
use Rattle.mb_pfu.specs.Tree.{slot_of}
use Rattle.mb_pfu.specs.Unit as unit
use Rattle.mb_pfu.specs.Unit.{fresh}
use Rattle.pt_image.specs.declared.Parts.{Parts}
use Rattle.tk_cert.specs.declared.cert.State.{State}
use Rattle.tk_cert.specs.declared.cert.State.TheVariants.{Free}
use Rattle.tk_paths.specs.Walks.{state_of, states_of}
use Rattle.tk_walk.specs.Building.{state_at, is_loose, any_loose, line_at, entries}
use Rattle.tk_walk.proofs.Targets.{state-said}

or-here : (a b : Bool) → a ≡ true → (a || b) ≡ true
or-here true b e = refl
or-here false b e = cc

or-next : (a b : Bool) → a ≡ false → (a || b) ≡ b
or-next true b e = cc
or-next false b e = refl

any-here : (states : List State) (k n : ℕ) → 1 ≤ n → is_loose (state_at states k) ≡ true → any_loose states k n ≡ true
any-here states k zero some e = absurd (omega arith)
any-here states k (suc n) some e = or-here (is_loose (state_at states k)) (any_loose states (k + 1) n) e

any-next : (states : List State) (k n m : ℕ) → n ≡ m + 1 → is_loose (state_at states k) ≡ false → any_loose states k n ≡ any_loose states (k + 1) m
any-next states k n m same e = ap (any_loose states k) (same ∙ add-one m) ∙ or-next (is_loose (state_at states k)) (any_loose states (k + 1) m) e

-- so many of the slots were passed
pub any-found : (states : List State) (from count j : ℕ) → j < count → is_loose (state_at states (from + j)) ≡ true → any_loose states from count ≡ any_loose states (from + j) (count - j) → any_loose states from count ≡ true
any-found states from count j low e h = h ∙ any-here states (from + j) (count - j) (omega arith) e

pub any-passed : (states : List State) (from count j : ℕ) → j < count → is_loose (state_at states (from + j)) ≡ false → any_loose states from count ≡ any_loose states (from + j) (count - j) → any_loose states from count ≡ any_loose states (from + (j + 1)) (count - (j + 1))
any-passed states from count j low e h =
    let same : from + j + 1 ≡ from + (j + 1) = omega arith in
    h ∙ any-next states (from + j) (count - j) (count - (j + 1)) (omega arith) e ∙ ap (λ k. any_loose states k (count - (j + 1))) same

pub any-none : (states : List State) (from count : ℕ) → any_loose states from count ≡ any_loose states (from + count) (count - count) → any_loose states from count ≡ false
any-none states from count h = let e : count - count ≡ 0 = omega arith in h ∙ ap (any_loose states (from + count)) e

pub any-begin : (states : List State) (from count : ℕ) → any_loose states from count ≡ any_loose states (from + 0) (count - 0)
any-begin states from count =
    let a : from ≡ from + 0 = omega arith in
    let b : count ≡ count - 0 = omega arith in
    λ i. any_loose states (a i) (b i)

-- the states of a unit
length-from : (f : ℕ → State) (from n : ℕ) → length (map f (range_with_len from n)) ≡ n
length-from f from zero = refl
length-from f from (suc n) = omega (arith, length-from f (from + 1) n)

pub states-length : (u : unit.State) (states : List State) → states ≡ states_of u → length states ≡ u.slots
states-length u states e = ap length e ∙ length-from (λ s. state_of (slot_of s u.tree)) 0 u.slots

pub states-differ : (u : unit.State) (states : List State) (q : ℕ) → q < u.slots → state_at states q ≢ state_of (slot_of q u.tree) → states ≢ states_of u
states-differ u states q low other e = other (ap (λ (x : List State). state_at x q) e ∙ state-said u q low)

states-by : (f : ℕ → State) (from n : ℕ) (xs : List State) → length xs ≡ n → ((q : ℕ) → q < n → slice_index_or xs q Free ≡ f (from + q)) → xs ≡ map f (range_with_len from n)
states-by f from zero [] e h = refl
states-by f from zero (x ∷ xs) e h = absurd (omega arith)
states-by f from (suc n) [] e h = absurd (omega arith)
states-by f from (suc n) (x ∷ xs) e h =
    let first : x ≡ f from = h 0 (omega arith) ∙ ap f (let z : from + 0 ≡ from = omega arith in z) in
    let more : xs ≡ map f (range_with_len (from + 1) n) =
    states-by f (from + 1) n xs (omega arith) (λ q low. h (suc q) (omega arith) ∙ ap f (let z : from + suc q ≡ from + 1 + q = omega arith in z)) in
    λ i. first i ∷ more i

pub states-same : (u : unit.State) (states : List State) → length states ≡ u.slots → ((q : ℕ) → q < u.slots → state_at states q ≡ state_of (slot_of q u.tree)) → states ≡ states_of u
states-same u states e h =
    states-by (λ s. state_of (slot_of s u.tree)) 0 u.slots states e (λ q low. h q low ∙ ap (λ n. state_of (slot_of n u.tree)) (let z : q ≡ 0 + q = omega arith in z))

-- a stack of abort lines
pub low-at : (xs : List ℕ) (i n : ℕ) → AllByRecursion (λ j. j < n) xs → i < length xs → get_or xs i 0 < n
low-at [] i n h within = absurd (omega arith)
low-at (x ∷ xs) zero n h within = h.0
low-at (x ∷ xs) (suc i) n h within = low-at xs i n h.1 (omega arith)

pub entries-drop : (image : Parts) (stack : List ℕ) (i : ℕ) → i < length stack →
    entries image (drop i stack) ≡ fresh (get_or stack i 0) (line_at image (get_or stack i 0)).weak (line_at image (get_or stack i 0)).cond (line_at image (get_or stack i 0)).handler ∷ entries image (drop (i + 1) stack)
entries-drop image [] i within = absurd (omega arith)
entries-drop image (x ∷ xs) zero within = refl
entries-drop image (x ∷ xs) (suc i) within = entries-drop image xs i (omega arith) ∙ ap (λ n. fresh (get_or xs i 0) (line_at image (get_or xs i 0)).weak (line_at image (get_or xs i 0)).cond (line_at image (get_or xs i 0)).handler ∷ entries image (drop n (x ∷ xs))) (let z : suc (i + 1) ≡ suc i + 1 = omega arith in z)

-- so many from a place on
pub range-length : (xs : List ℕ) (i n m : ℕ) → m ≡ n → i + n ≤ length xs → length (take m (drop i xs)) ≡ n
range-length xs i n m same within = omega (arith, length-take m (drop i xs), length-drop i xs)
