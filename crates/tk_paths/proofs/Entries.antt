-- A slot enters an abort, leaves one, and forks.
use Rattle.std.proofs.Common.{◌≡◌, ◌≤◌, ◌<◌, ◌+◌, ◌++◌, min, ℕ, zero, suc, Bool, true, false, ◌&&◌, List, [], ◌∷◌, refl, ap, ◌∙◌, subst, arith, length}
use Rattle.mb_pfu.specs.declared.parts.Watch.{Watch}
use Rattle.mb_pfu.specs.Tree.{Finished, Tree, Group, Leaf, no_more, member, size, has_ended, all_ended, append_group}
use Rattle.mb_pfu.specs.Contexts.{filled, Context, plug}
use Rattle.tk_paths.proofs.SlotFacts.{middle, without_last}
use Rattle.mb_pfu.specs.Unit.{fresh}
use Rattle.mb_pfu.specs.Rows.{with_last}
use Rattle.tk_paths.proofs.Inner.{Image, stack, begun}
use Rattle.tk_paths.specs.declared.view.Side.{Side}
use Rattle.tk_paths.proofs.Conditions.{Cert, Thread, IsAt, Sum, Starts}
use Rattle.tk_paths.proofs.Values.{GVal}
use Rattle.tk_paths.proofs.Rights.{AreNew, AreOld, IsWaiting, IsRight, AreRight, IsContextRight, size-same, join-right}

pub stack-last : (watches : List Watch) (l : Watch) → stack (with_last l watches) ≡ stack watches ++ l.entry.number ∷ []
stack-last [] l = refl
stack-last (k ∷ watches) l = ap (λ a. k.entry.number ∷ a) (stack-last watches l)

abbrev inner : List ℕ → List ℕ
inner [] = []
inner (x ∷ a) = a

no-inner : (outside : List ℕ) (j n : ℕ) (a : List ℕ) → n ∷ a ≡ [] → ⊥
no-inner outside j n a e = cc

pub not-empty : (a : List ℕ) (j : ℕ) → [] ≡ a ++ j ∷ [] → ⊥
not-empty [] j e = cc
not-empty (x ∷ a) j e = cc

module _ (image : Image) where
  enters-new : (watches : List Watch) (j : ℕ) → AreNew image watches → AreNew image (with_last (fresh j (image.weak j) (image.cond j) (image.handler j)) watches)
  enters-new [] j h = (refl, refl, (refl, refl, refl), tt)
  enters-new (l ∷ watches) j h = (h.0, h.1, h.2, enters-new watches j h.3)

  pub enters : (k : ℕ) (watches : List Watch) (j : ℕ) → AreOld image k watches → AreOld image k (with_last (fresh j (image.weak j) (image.cond j) (image.handler j)) watches)
  enters zero watches j h = enters-new watches j h
  enters (suc k) [] j h = absurd h
  enters (suc k) (l ∷ watches) j h = (h.0, h.1, h.2, enters k watches j h.3)

  leaves-new : (watches : List Watch) → AreNew image watches → AreNew image (without_last watches)
  leaves-new [] h = tt
  leaves-new (l ∷ []) h = tt
  leaves-new (l ∷ m ∷ watches) h = (h.0, h.1, h.2, leaves-new (m ∷ watches) h.3)

  abbrev Left : ℕ → List Watch → List ℕ → Type 0
  Left k watches outside = AreOld image (min k (length outside)) (without_last watches) × (stack (without_last watches) ≡ outside)

  pub leaves : (k : ℕ) (watches : List Watch) (outside : List ℕ) (j : ℕ) → AreOld image k watches → stack watches ≡ outside ++ j ∷ [] → Left k watches outside
  leaves k [] outside j h e = absurd (not-empty outside j e)
  leaves k (l ∷ []) [] j h e =
      let O : ℕ → Type 0 = λ i. AreOld image i [] in
      let z : 0 ≡ min k 0 = omega arith in
      (subst O z tt, refl)
  leaves k (l ∷ []) (x ∷ outside) j h e = absurd (not-empty outside j (ap inner e))
  leaves k (l ∷ m ∷ watches) [] j h e = absurd (no-inner [] j m.entry.number (stack watches) (ap inner e))
  leaves zero (l ∷ m ∷ watches) (x ∷ outside) j h e =
      let r = leaves zero (m ∷ watches) outside j h.3 (ap inner e) in
      let O : ℕ → Type 0 = λ i. AreOld image i (without_last (l ∷ m ∷ watches)) in
      let z : 0 ≡ min 0 (suc (length outside)) = omega arith in
      (subst O z (leaves-new (l ∷ m ∷ watches) h), ap (λ a. l.entry.number ∷ a) r.1 ∙ ap (λ a. a ∷ outside) (ap first_of e))
    where
      first_of : List ℕ → ℕ
      first_of [] = 0
      first_of (y ∷ a) = y
  leaves (suc k) (l ∷ m ∷ watches) (x ∷ outside) j h e =
      let r = leaves k (m ∷ watches) outside j h.3 (ap inner e) in
      let O : ℕ → Type 0 = λ i. AreOld image i (without_last (l ∷ m ∷ watches)) in
      let z : suc (min k (length outside)) ≡ min (suc k) (suc (length outside)) = omega arith in
      (subst O z (h.0, h.1, h.2, r.0), ap (λ a. l.entry.number ∷ a) r.1 ∙ ap (λ a. a ∷ outside) (ap first_of e))
    where
      first_of : List ℕ → ℕ
      first_of [] = 0
      first_of (y ∷ a) = y

  pub size-begun : (count lo : ℕ) → size (begun image lo count) ≡ count
  size-begun zero lo = refl
  size-begun (suc count) lo = let r = size-begun count (lo + 1) in omega (arith, r)

module _ (image : Image) (cert : Cert) where
  pub begun-right : (count lo : ℕ) → ((c : ℕ) → lo ≤ c → c < lo + count → IsAt image cert (image.start c) (Thread c [] [])) → AreRight image cert lo (begun image lo count)
  begun-right zero lo h = tt
  begun-right (suc count) lo h = (let f = h lo (omega arith) (omega arith) in ((f.0, (0, tt), f.1), begun-right count (lo + 1) (λ c a b. h c (omega (arith, a)) (omega (arith, b)))))

  pub begun-unended : (count lo : ℕ) → 1 ≤ count → all_ended (begun image lo count) ≡ false
  begun-unended zero lo h = absurd (omega (arith, h))
  begun-unended (suc count) lo h = refl

  pub begun-values : (count lo : ℕ) (side : Side) (n : ℕ) → GVal image cert (begun image lo count) side n → Sum image cert (Starts image cert) lo count side n
  begun-values zero lo side n h = h
  begun-values (suc count) lo side n h = (h.0, h.1, h.2, h.3, h.4, begun-values count (lo + 1) h.1 h.3 h.5, h.6, h.7)

  and-no : (a b : Bool) → b ≡ false → a && b ≡ false
  and-no true b h = h
  and-no false b h = refl

  middle-unended : (before behind : Group) (t : Tree) → has_ended t ≡ false → all_ended (append_group before (member t behind)) ≡ false
  middle-unended no_more behind t h = ap (λ x. x && all_ended behind) h
  middle-unended (member u us) behind t h = and-no (has_ended u) (all_ended (append_group us (member t behind))) (middle-unended us behind t h)

  -- what is round a slot that hasn't ended, and the slot
  pub right-plug : (context : Context) (t : Tree) → IsContextRight image cert context → IsRight image cert (middle context) t → has_ended t ≡ false → IsRight image cert 0 (plug context t)
  right-plug [] t c r h = r
  right-plug (f ∷ fs) t c r h =
      let W : ℕ → Type 0 = λ n. IsWaiting image cert (middle fs) f.watches f.at f.lo n in
      right-plug fs (filled f t) c.1
      (subst W (size-same image cert f.before f.behind (Leaf [] Finished) t) c.0.0, middle-unended f.before f.behind t h, join-right image cert f.lo f.before f.behind t c.0.1 r c.0.2) refl
