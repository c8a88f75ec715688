-- Where a slot is ready, there is a turn: the first one, and what is round it.
use Rattle.std.proofs.Common.{◌≡◌, ℕ, Bool, true, false, ◌||◌, List, [], ◌∷◌, refl, ap, subst}
use Rattle.std.proofs.lemmas.Bool.{false≢true}
use Rattle.mb_pfu.specs.declared.parts.Watch.{Watch}
use Rattle.mb_pfu.specs.Tree.{Running, Pausing, Finished, Tree, Group, Leaf, Waits, no_more, member, has_ready, any_ready, append_group}
use Rattle.mb_pfu.specs.Contexts.{Context, plug, IsQuietBefore}
use Rattle.tk_paths.proofs.Inner.{Image, Turn}
use Rattle.tk_paths.proofs.Firsts.{framed, append-one}

module _ (image : Image) where
  quiet-more : (before : Group) (t : Tree) → any_ready before ≡ false → has_ready t ≡ false → any_ready (append_group before (member t no_more)) ≡ false
  quiet-more no_more t q h = ap (λ b. b || false) h
  quiet-more (member u us) t q h = by (has_ready u) q (λ e. quiet-more us t e h)
    where
      by : (b : Bool) → b || any_ready us ≡ false → (any_ready us ≡ false → any_ready (append_group us (member t no_more)) ≡ false) → b || any_ready (append_group us (member t no_more)) ≡ false
      by true e ih = e
      by false e ih = ih e

  mutual
    find : (t : Tree) (context : Context) → has_ready t ≡ true → IsQuietBefore context → Turn image (plug context t)
    find (Leaf watches (Running place)) context h q = record { context = context; watches = watches; place = place; is_there = refl; quiet = q }
    find (Leaf watches (Pausing place)) context h q = absurd (false≢true h)
    find (Leaf watches Finished) context h q = absurd (false≢true h)
    find (Waits watches at lo group) context h q = find-among group context watches at lo no_more h refl q

    find-among : (ts : Group) (context : Context) (watches : List Watch) (at lo : ℕ) (before : Group) → any_ready ts ≡ true → any_ready before ≡ false → IsQuietBefore context →
        Turn image (plug context (Waits watches at lo (append_group before ts)))
    find-among no_more context watches at lo before h b q = absurd (false≢true h)
    find-among (member t ts) context watches at lo before h b q =
        by (has_ready t) refl h (λ e. find t (framed watches at lo before ts ∷ context) e (b, q))
        (λ e none. find-among ts context watches at lo (append_group before (member t no_more)) e (quiet-more before t b none) q)
      where
        by : (r : Bool) → has_ready t ≡ r → r || any_ready ts ≡ true → (has_ready t ≡ true → Turn image (plug context (Waits watches at lo (append_group before (member t ts))))) →
            (any_ready ts ≡ true → has_ready t ≡ false → Turn image (plug context (Waits watches at lo (append_group (append_group before (member t no_more)) ts)))) →
            Turn image (plug context (Waits watches at lo (append_group before (member t ts))))
        by true r e here later = here r
        by false r e here later = let T : Group → Type 0 = λ us. Turn image (plug context (Waits watches at lo us)) in subst T (append-one before ts t) (later e r)

  pub turn_of : (t : Tree) → has_ready t ≡ true → Turn image t
  turn_of t h = find t [] h tt
