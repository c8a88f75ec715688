-- A finished tick leaves a configuration in which the next one may begin.
use Rattle.std.proofs.Common.{ℤ, Option, None, ◌≡◌, ◌+◌, ℕ, zero, suc, Bool, true, false, ◌||◌, List, [], ◌∷◌, refl, sym, ap, ◌∙◌, ⊎_elim}
use Rattle.std.proofs.lemmas.Bool.{false≢true}
use Rattle.mb_pfu.specs.declared.parts.Watch.{Watch}
use Rattle.mb_pfu.specs.Tree.{Running, Pausing, Finished, Tree, Group, Leaf, Waits, no_more, member, has_ready, any_ready, append_group}
use Rattle.mb_pfu.specs.Contexts.{filled, Context, plug}
use Rattle.tk_paths.proofs.Inner.{Image, AreListed, IsLoose, AreLoose, IsConfiguration, loose}
use Rattle.tk_paths.proofs.Conditions.{Cert}
use Rattle.tk_paths.proofs.Rights.{AreNew, AreOld, IsRight, AreRight}
use Rattle.tk_paths.proofs.Running.{IsTurned}

or-false : (a b : Bool) → a || b ≡ false → (a ≡ false) × (b ≡ false)
or-false true b h = absurd (false≢true (sym h))
or-false false b h = (refl, h)

middle-ready : (before behind : Group) (t : Tree) → has_ready t ≡ true → any_ready (append_group before (member t behind)) ≡ true
middle-ready no_more behind t h = ap (λ b. b || any_ready behind) h
middle-ready (member u us) behind t h = by (has_ready u) (middle-ready us behind t h)
  where
    by : (b : Bool) → any_ready (append_group us (member t behind)) ≡ true → b || any_ready (append_group us (member t behind)) ≡ true
    by true e = refl
    by false e = e

pub plug-ready : (context : Context) (t : Tree) → has_ready t ≡ true → has_ready (plug context t) ≡ true
plug-ready [] t h = h
plug-ready (f ∷ fs) t h = plug-ready fs (filled f t) (middle-ready f.before f.behind t h)

module _ (image : Image) (cert : Cert) where
  new-listed : (watches : List Watch) → AreNew image watches → AreListed image watches
  new-listed [] h = tt
  new-listed (l ∷ watches) h = (h.2, new-listed watches h.3)

  old-listed : (k : ℕ) (watches : List Watch) → AreOld image k watches → AreListed image watches
  old-listed zero watches h = new-listed watches h
  old-listed (suc k) [] h = absurd h
  old-listed (suc k) (l ∷ watches) h = (h.2, old-listed k watches h.3)

  mutual
    rests-loose : (s : ℕ) (t : Tree) → IsRight image cert s t → has_ready t ≡ false → IsLoose image s t
    rests-loose s (Leaf watches (Running place)) r h = absurd (false≢true (sym h))
    rests-loose s (Leaf watches (Pausing place)) r h = (r.0, old-listed r.1.0 watches r.1.1)
    rests-loose s (Leaf watches Finished) r h = r
    rests-loose s (Waits watches at lo group) r h = let w = r.0 in (w.0, old-listed w.2.0 watches w.2.1, w.1, r.1, rests-loose-among lo group r.2 h)

    rests-loose-among : (k : ℕ) (ts : Group) → AreRight image cert k ts → any_ready ts ≡ false → AreLoose image k ts
    rests-loose-among k no_more r h = tt
    rests-loose-among k (member t ts) r h = let q = or-false (has_ready t) (any_ready ts) h in (rests-loose k t r.0 q.0, rests-loose-among (k + 1) ts r.1 q.1)

  pub record IsFinished (t : Tree) (links counters : List ℕ) (upper : Option ℤ) : Type 0 where
    pub configuration : IsConfiguration image t
    pub links_are : links ≡ []
    pub counters_are : counters ≡ []
    pub upper_is : upper ≡ None

  pub turned-rests : (charged : ℕ) (t : Tree) (links counters : List ℕ) (upper : Option ℤ) → IsTurned image cert charged t links counters upper → has_ready t ≡ false → IsFinished t links counters upper
  turned-rests charged t links counters upper k h =
      ⊎_elim
      (λ c. record { configuration = loose (rests-loose 0 t c.right h) k.0; links_are = c.links_are; counters_are = c.counters_are; upper_is = c.upper_is })
      (λ b. absurd (false≢true (sym h ∙ ap has_ready b.is_there ∙ plug-ready b.runs.context (Leaf b.runs.watches (Running b.runs.place)) refl))) k.1
