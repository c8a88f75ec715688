-- The functions of a flow lie in the image as the sections of its program.
use Rattle.std.proofs.Common.{◌≡◌, inl, inr, ℕ, zero, suc, ◌+◌, ◌<◌, ◌==◌, Bool, true, false, IsTrue, if◌then◌else◌, Some, List, [], ◌∷◌}
use Rattle.std.proofs.Common.{◌++◌, length, slice_get, refl, ap, subst, ◌∙◌, arith, eq-eqb, ⊎_elim}
use Rattle.std.specs.List.{AllByRecursion}
use Rattle.std.proofs.lemmas.Bool.{or_left, or_right, or_cases}
use Rattle.pc_lower.specs.Flow.{Node, Nodes, straight, sequence, branch, turns, bounded, call, pause, fork, guard, no_nodes, and}
use Rattle.pc_lower.specs.Residuals.{body_at}
use Rattle.pc_lower.specs.Laid.{Placing}
use Rattle.pc_lower.specs.Program.{IsEarlier, AreEarlier, InOrder, HasRoom, HaveRoom}
use Rattle.tk_paths.proofs.Lists.{IsAmong, passes-any}
use Rattle.pc_emit.specs.Image.{slot_of}
use Rattle.pc_emit.specs.Sections.{calls_in, calls_in_all, is_among, is_used, used_calls}

-- ---- what is called

-- each function that a node calls is an earlier one, and is one that may be called
module _ (placing : Placing) (below : ℕ) where
  abbrev pub MayCall : ℕ → Type 0
  MayCall h = (h < below) × IsTrue (placing.called h)

  both-called : (xs ys : List ℕ) → AllByRecursion MayCall xs → AllByRecursion MayCall ys → AllByRecursion MayCall (xs ++ ys)
  both-called [] ys h k = k
  both-called (x ∷ xs) ys h k = (h.0, both-called xs ys h.1 k)

  mutual
    pub may-call : (n : Node) (l k : ℕ) → HasRoom placing n l k → IsEarlier below n → AllByRecursion MayCall (calls_in n)
    may-call (straight steps) l k room early = tt
    may-call (sequence nodes) l k room early = may-call-all nodes l k room early
    may-call (branch test a b) l k room early = both-called (calls_in a) (calls_in b) (may-call a l k room.0 early.0)
        (may-call b l k room.1 early.1)
    may-call (turns test body) l k room early = may-call body l k room early
    may-call (bounded most test body) l k room early = may-call body l (k + 1) room.1 early
    may-call (call f) l k room early = ((early, room.0), tt)
    may-call (pause i) l k room early = tt
    may-call (fork i fs) l k room early = tt
    may-call (guard j body) l k room early = may-call body l k room.2 early

    may-call-all : (nodes : Nodes) (l k : ℕ) → HaveRoom placing nodes l k → AreEarlier below nodes → AllByRecursion MayCall
        (calls_in_all nodes)
    may-call-all no_nodes l k room early = tt
    may-call-all (and n nodes) l k room early = both-called (calls_in n) (calls_in_all nodes) (may-call n l k room.0 early.0)
        (may-call-all nodes l k room.1 early.1)

pub all-given : {A : Type 0} (P Q : A → Type 0) (xs : List A) → AllByRecursion P xs → ((x : A) → IsAmong x xs → P x → Q x) →
    AllByRecursion Q xs
all-given P Q [] h g = tt
all-given P Q (x ∷ xs) h g = (g x (inl refl) h.0, all-given P Q xs h.1 (λ y among. g y (inr among)))

among-first : (h : ℕ) (xs ys : List ℕ) → is_among h xs ≡ true → is_among h (xs ++ ys) ≡ true
among-first h [] ys e = absurd cc
among-first h (x ∷ xs) ys e = ⊎_elim (λ same. or_left (x == h) (is_among h (xs ++ ys)) same)
    (λ more. or_right (x == h) (is_among h (xs ++ ys)) (among-first h xs ys more)) (or_cases (x == h) (is_among h xs) e)

among-second : (h : ℕ) (xs ys : List ℕ) → is_among h ys ≡ true → is_among h (xs ++ ys) ≡ true
among-second h [] ys e = e
among-second h (x ∷ xs) ys e = or_right (x == h) (is_among h (xs ++ ys)) (among-second h xs ys e)

pub among-is : (h : ℕ) (xs : List ℕ) → IsAmong h xs → is_among h xs ≡ true
among-is h xs among = passes-any (λ f. f == h) xs h among (eq-eqb h h refl)

-- what later functions call is called by these too, and so is what the first calls where it is used
module _ (slots : List ℕ) (g : ℕ) (n : Node) (nodes : List Node) where
  abbrev later_calls : List ℕ
  later_calls = used_calls slots (g + 1) nodes

  pub later-used : (h : ℕ) → is_among h later_calls ≡ true → is_among h (used_calls slots g (n ∷ nodes)) ≡ true
  later-used h e = by (is_used (slot_of slots g) (is_among g later_calls))
    where
      by : (t : Bool) → is_among h (if t then calls_in n ++ later_calls else later_calls) ≡ true
      by true = among-second h (calls_in n) later_calls e
      by false = e

  pub first-used : (h : ℕ) → is_used (slot_of slots g) (is_among g later_calls) ≡ true → is_among h (calls_in n) ≡ true → is_among h
      (used_calls slots g (n ∷ nodes)) ≡ true
  first-used h used e = ap (λ t. is_among h (if t then calls_in n ++ later_calls else later_calls)) used ∙ among-first h
      (calls_in n) later_calls e

pub get-front : {A : Type 0} (xs ys : List A) (i : ℕ) (x : A) → slice_get xs i ≡ Some x → slice_get (xs ++ ys) i ≡ Some x
get-front [] ys i x h = absurd cc
get-front (y ∷ xs) ys zero x h = h
get-front (y ∷ xs) ys (suc i) x h = get-front xs ys i x h

pub get-last : {A : Type 0} (xs : List A) (x : A) → slice_get (xs ++ x ∷ []) (length xs) ≡ Some x
get-last [] x = refl
get-last (y ∷ xs) x = get-last xs x

-- each function calls and starts earlier ones
pub earlier-at : (nodes : List Node) (g i : ℕ) → InOrder g nodes → i < length nodes → IsEarlier (g + i) (body_at nodes i)
earlier-at [] g i h lt = absurd (omega (arith, lt))
earlier-at (n ∷ nodes) g zero h lt = let e : g ≡ g + 0 = omega arith in subst (λ k. IsEarlier k n) e h.0
earlier-at (n ∷ nodes) g (suc i) h lt = let e : g + 1 + i ≡ g + suc i = omega arith in subst (λ k. IsEarlier k (body_at nodes i)) e
    (earlier-at nodes (g + 1) i h.1 (omega (arith, lt)))
