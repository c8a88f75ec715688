-- The way up from a row.
use Rattle.std.proofs.Common.{◌≡◌, nat_lt, ℕ, zero, suc, ◌+◌, ◌-◌, ◌<◌, ◌≤◌, Bool, true, false, if◌then◌else◌, List, [], ◌∷◌, ◌++◌, length, take, drop, get_or, refl, sym, ap, ◌∙◌, arith, add-one, drop-cons, lt-ltb, le-ltb, length-take}
use Rattle.std.proofs.lemmas.List.{take_more, take-append-drop}
use Rattle.mb_pfu.specs.Rows.{SlotRow, blank, row_at, climbed, climb_over, Climbed, climbs, at_first, IsDoneAt, IsAt, Selector, selects, stay}

climbs-last : (g : SlotRow → List SlotRow → List SlotRow) (xs : List SlotRow) (r : SlotRow) (c : Climbed) → climbs g (xs ++ r ∷ []) c ≡ climbs g xs (climb_over g r c)
climbs-last g [] r c = refl
climbs-last g (x ∷ xs) r c = ap (climb_over g x) (climbs-last g xs r c)

take-last : (xs : List SlotRow) (i : ℕ) → 0 < i → i ≤ length xs → take i xs ≡ take (i - 1) xs ++ row_at xs (i - 1) ∷ []
take-last xs i low high =
    let e : i ≡ (i - 1) + 1 = omega arith in
    ap (λ n. take n xs) e ∙ take_more xs (i - 1) blank (omega arith)

pub climbs-take : (g : SlotRow → List SlotRow → List SlotRow) (xs : List SlotRow) (i : ℕ) (c : Climbed) → 0 < i → i ≤ length xs →
    climbs g (take i xs) c ≡ climbs g (take (i - 1) xs) (climb_over g (row_at xs (i - 1)) c)
climbs-take g xs i c low high = ap (λ ys. climbs g ys c) (take-last xs i low high) ∙ climbs-last g (take (i - 1) xs) (row_at xs (i - 1)) c

pub first-of : (f : SlotRow → List SlotRow → List SlotRow) (xs : List SlotRow) (i : ℕ) → i < length xs → at_first f (drop i xs) ≡ f (row_at xs i) (drop (i + 1) xs)
first-of f xs i h = ap (at_first f) (drop-cons xs i blank h) ∙ ap (λ n. f (row_at xs i) (drop n xs)) (sym (add-one i))

pub climbed-at : (p : Selector) (f g : SlotRow → List SlotRow → List SlotRow) (i : ℕ) (rows : List SlotRow) → IsAt p i rows →
    climbed p f g rows ≡ climbs g (take i rows) (at_first f (drop i rows), (row_at rows i).level)
climbed-at p f g i [] h = absurd (omega (arith, h.within))
climbed-at p f g zero (r ∷ rows) h = rw h.here refl
climbed-at p f g (suc i) (r ∷ rows) h =
    let other : selects p r ≡ false = h.first 0 (omega arith) in
    let rest : IsAt p i rows = record { within = omega (arith, h.within); here = h.here; first = λ k low. h.first (suc k) (omega arith) } in
    rw other (ap (climb_over g r) (climbed-at p f g i rows rest))

-- a change at a row, and then the way up
pub climbed-then : (p : Selector) (f g : SlotRow → List SlotRow → List SlotRow) (i : ℕ) (old mid : List SlotRow) → IsAt p i old → IsDoneAt f i old mid →
    climbs g (take i mid) (drop i mid, (row_at old i).level) ≡ climbed p f g old
climbed-then p f g i old mid at done = rw (done.before, done.from_here) (sym (climbed-at p f g i old at))

pub done-length : (f : SlotRow → List SlotRow → List SlotRow) (i : ℕ) (old mid : List SlotRow) → i ≤ length old → IsDoneAt f i old mid → i ≤ length mid
done-length f i old mid h done = omega (arith, ap length done.before, length-take i mid, length-take i old)

pub climbs-past : (g : SlotRow → List SlotRow → List SlotRow) (rows : List SlotRow) (i level above : ℕ) → 0 < i → i ≤ length rows → above ≡ (row_at rows (i - 1)).level → level ≤ above →
    climbs g (take (i - 1) rows) (drop (i - 1) rows, level) ≡ climbs g (take i rows) (drop i rows, level)
climbs-past g rows i level above low high is h =
    let same : suc (i - 1) ≡ i = omega arith in
    let at : drop (i - 1) rows ≡ row_at rows (i - 1) ∷ drop i rows = drop-cons rows (i - 1) blank (omega arith) ∙ ap (λ n. row_at rows (i - 1) ∷ drop n rows) same in
    let stays : nat_lt (row_at rows (i - 1)).level level ≡ false = le-ltb (row_at rows (i - 1)).level level (omega arith) in
    let step : climb_over g (row_at rows (i - 1)) (drop i rows, level) ≡ (drop (i - 1) rows, level) = rw (stays, at) refl in
    ap (climbs g (take (i - 1) rows)) (sym step) ∙ sym (climbs-take g rows i (drop i rows, level) low high)

pub climbs-done : (g : SlotRow → List SlotRow → List SlotRow) (rows new : List SlotRow) (i level above : ℕ) → 0 < i → i ≤ length rows → above ≡ (row_at rows (i - 1)).level → above < level →
    IsDoneAt g (i - 1) rows new → climbs g (take (i - 1) new) (drop (i - 1) new, above) ≡ climbs g (take i rows) (drop i rows, level)
climbs-done g rows new i level above low high is h done =
    let same : (i - 1) + 1 ≡ i = omega arith in
    let at : at_first g (drop (i - 1) rows) ≡ g (row_at rows (i - 1)) (drop i rows) = first-of g rows (i - 1) (omega arith) ∙ ap (λ n. g (row_at rows (i - 1)) (drop n rows)) same in
    let goes : nat_lt (row_at rows (i - 1)).level level ≡ true = lt-ltb (row_at rows (i - 1)).level level (omega arith) in
    let step : climb_over g (row_at rows (i - 1)) (drop i rows, level) ≡ (g (row_at rows (i - 1)) (drop i rows), above) = rw (goes, is) refl in
    rw (done.before, done.from_here, at) (ap (climbs g (take (i - 1) rows)) (sym step) ∙ sym (climbs-take g rows i (drop i rows, level) low high))

get_or-any : (xs : List SlotRow) (i : ℕ) (d e : SlotRow) → i < length xs → get_or xs i d ≡ get_or xs i e
get_or-any [] i d e h = absurd (omega arith)
get_or-any (x ∷ xs) zero d e h = refl
get_or-any (x ∷ xs) (suc i) d e h = get_or-any xs i d e (omega arith)

-- the level that was read of a row
pub level-read : (xs ys : List SlotRow) (i level : ℕ) (r : SlotRow) → r ≡ get_or xs i r → xs ≡ ys → i < length ys → level ≡ r.level → level ≡ (row_at ys i).level
level-read xs ys i level r is same h e =
    e ∙ ap (λ (x : SlotRow). x.level) (is ∙ ap (λ (zs : List SlotRow). get_or zs i r) same ∙ get_or-any ys i r blank h)

-- the whole: what was done at a row, and the way up
pub climbed-whole : (p : Selector) (f g : SlotRow → List SlotRow → List SlotRow) (i level : ℕ) (old mid new : List SlotRow) → IsAt p i old → level ≡ (row_at old i).level → IsDoneAt f i old mid →
    new ≡ (climbs g (take i mid) (drop i mid, level)).0 → new ≡ (climbed p f g old).0
climbed-whole p f g i level old mid new at is done e =
    e ∙ ap (λ n. (climbs g (take i mid) (drop i mid, n)).0) is ∙ ap (λ (c : Climbed). c.0) (climbed-then p f g i old mid at done)

stays-if : (b : Bool) (x : SlotRow) (c : Climbed) (n : ℕ) → (let d : Climbed = if b then (stay x c.0, n) else (x ∷ c.0, c.1) in d.0) ≡ x ∷ c.0
stays-if true x c n = refl
stays-if false x c n = refl

stays-over : (x : SlotRow) (c : Climbed) → (climb_over stay x c).0 ≡ x ∷ c.0
stays-over x c = stays-if (nat_lt x.level c.1) x c x.level

climbs-stay : (xs : List SlotRow) (c : Climbed) → (climbs stay xs c).0 ≡ xs ++ c.0
climbs-stay [] c = refl
climbs-stay (x ∷ xs) c = stays-over x (climbs stay xs c) ∙ ap (λ (ys : List SlotRow). x ∷ ys) (climbs-stay xs c)

-- a change at a row alone
pub climbed-here : (p : Selector) (f : SlotRow → List SlotRow → List SlotRow) (i : ℕ) (old new : List SlotRow) → IsAt p i old → IsDoneAt f i old new → new ≡ (climbed p f stay old).0
climbed-here p f i old new at done =
    sym (take-append-drop i new) ∙ sym (climbs-stay (take i new) (drop i new, (row_at old i).level)) ∙ ap (λ (c : Climbed). c.0) (climbed-then p f stay i old new at done)
