-- A tree has at most one first ready slot.
use Rattle.std.proofs.Common.{◌≡◌, ℕ, Bool, true, false, ◌||◌, List, [], ◌∷◌, Option, Some, None, refl, sym, ap, ◌∙◌}
use Rattle.std.proofs.lemmas.Bool.{false≢true}
use Rattle.std.proofs.lemmas.Option.{same_Some}
use Rattle.mb_pfu.specs.declared.parts.Watch.{Watch}
use Rattle.mb_pfu.specs.Tree.{Running, Pausing, Finished, Tree, Group, Leaf, Waits, no_more, member, has_ready, any_ready, append_group}
use Rattle.mb_pfu.specs.Contexts.{filled, Frame, Context, plug, IsQuietBefore}
use Rattle.mb_pfu.specs.Rows.{or_else}

pub record Job : Type 0 where
  pub context : Context
  pub watches : List Watch
  pub place : ℕ

abbrev pub job : Context → List Watch → ℕ → Job
job context watches place = record { context = context; watches = watches; place = place }

abbrev pub framed : List Watch → ℕ → ℕ → Group → Group → Frame
framed watches at lo before behind = record { watches = watches; at = at; lo = lo; before = before; behind = behind }

abbrev mutual
  first : Context → Tree → Option Job
  first context (Leaf watches (Running place)) = Some (job context watches place)
  first context (Leaf watches (Pausing place)) = None
  first context (Leaf watches Finished) = None
  first context (Waits watches at lo group) = first_among context watches at lo no_more group

  first_among : Context → List Watch → ℕ → ℕ → Group → Group → Option Job
  first_among context watches at lo before no_more = None
  first_among context watches at lo before (member t ts) =
      or_else (first (framed watches at lo before ts ∷ context) t) (first_among context watches at lo (append_group before (member t no_more)) ts)

or-false : (a b : Bool) → a || b ≡ false → (a ≡ false) × (b ≡ false)
or-false true b h = absurd (false≢true (sym h))
or-false false b h = (refl, h)

mutual
  quiet-none : (t : Tree) (context : Context) → has_ready t ≡ false → first context t ≡ None
  quiet-none (Leaf watches (Running place)) context h = absurd (false≢true (sym h))
  quiet-none (Leaf watches (Pausing place)) context h = refl
  quiet-none (Leaf watches Finished) context h = refl
  quiet-none (Waits watches at lo group) context h = quiet-none-among group context watches at lo no_more h

  quiet-none-among : (ts : Group) (context : Context) (watches : List Watch) (at lo : ℕ) (before : Group) → any_ready ts ≡ false → first_among context watches at lo before ts ≡ None
  quiet-none-among no_more context watches at lo before h = refl
  quiet-none-among (member t ts) context watches at lo before h =
      let q = or-false (has_ready t) (any_ready ts) h in
      ap (λ o. or_else o (first_among context watches at lo (append_group before (member t no_more)) ts)) (quiet-none t (framed watches at lo before ts ∷ context) q.0)
      ∙ quiet-none-among ts context watches at lo (append_group before (member t no_more)) q.1

append-nil : (ts : Group) → append_group ts no_more ≡ ts
append-nil no_more = refl
append-nil (member t ts) = ap (member t) (append-nil ts)

pub append-one : (ts us : Group) (t : Tree) → append_group (append_group ts (member t no_more)) us ≡ append_group ts (member t us)
append-one no_more us t = refl
append-one (member x ts) us t = ap (member x) (append-one ts us t)

first-past : (us rest before : Group) (context : Context) (watches : List Watch) (at lo : ℕ) → any_ready us ≡ false →
    first_among context watches at lo before (append_group us rest) ≡ first_among context watches at lo (append_group before us) rest
first-past no_more rest before context watches at lo h = ap (λ b. first_among context watches at lo b rest) (sym (append-nil before))
first-past (member u us) rest before context watches at lo h =
    let q = or-false (has_ready u) (any_ready us) h in
    let next = append_group before (member u no_more) in
    ap (λ o. or_else o (first_among context watches at lo next (append_group us rest))) (quiet-none u (framed watches at lo before (append_group us rest) ∷ context) q.0)
    ∙ first-past us rest next context watches at lo q.1
    ∙ ap (λ b. first_among context watches at lo b rest) (append-one before us u)

found : (context : Context) (t : Tree) (j : Job) → IsQuietBefore context → first context t ≡ Some j → first [] (plug context t) ≡ Some j
found [] t j q h = h
found (f ∷ fs) t j q h =
    found fs (filled f t) j q.1 (
    first-past f.before (member t f.behind) no_more fs f.watches f.at f.lo q.0
    ∙ ap (λ o. or_else o (first_among fs f.watches f.at f.lo (append_group f.before (member t no_more)) f.behind)) h)

pub one-turn : (c d : Context) (v w : List Watch) (p q : ℕ) → IsQuietBefore c → IsQuietBefore d → plug c (Leaf v (Running p)) ≡ plug d (Leaf w (Running q)) → job c v p ≡ job d w q
one-turn c d v w p q qc qd e =
    same_Some (job c v p) (job d w q)
    (sym (found c (Leaf v (Running p)) (job c v p) qc refl) ∙ ap (first []) e ∙ found d (Leaf w (Running q)) (job d w q) qd refl)
