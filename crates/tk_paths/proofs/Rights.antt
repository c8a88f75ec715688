-- What holds of the tree between steps: the slots stand where the certificate's lines are theirs.
use Rattle.std.proofs.Common.{◌≡◌, ◌⊎◌, ◌≤◌, ◌+◌, ◌++◌, ℕ, zero, suc, Bool, true, false, ◌&&◌, ◌||◌, if◌then◌else◌, List, [], ◌∷◌, Option, Some, None, refl, sym, ap, ◌∙◌, subst, inl, inr, ⊎_elim, arith, length}
use Rattle.std.proofs.lemmas.Bool.{false≢true}
use Rattle.mb_pfu.specs.declared.parts.Watch.{Watch}
use Rattle.mb_pfu.specs.Tree.{Running, Pausing, Finished, Tree, Group, Leaf, Waits, no_more, member, size, has_ready, any_ready, has_ended, all_ended, append_group}
use Rattle.mb_pfu.specs.Rows.{relief, relief_with}
use Rattle.mb_pfu.specs.Contexts.{filled, Frame, Context, plug}
use Rattle.tk_paths.proofs.SlotFacts.{beyond, middle}
use Rattle.tk_paths.specs.declared.word.Word.TheVariants.{Fork}
use Rattle.tk_paths.proofs.Inner.{Image, stack, IsListed}
use Rattle.tk_paths.proofs.Conditions.{IsPlain, Cert, Thread, both_sides, Handled, AreAborts}
use Rattle.tk_paths.specs.declared.view.Side.{Side}
use Rattle.tk_paths.specs.declared.view.Side.TheVariants.{ToPause, ToEnd}
use Rattle.tk_paths.proofs.Values.{old, Val, GVal}

module _ (image : Image) where
  -- entries of this tick
  abbrev pub AreNew : List Watch → Type 0
  AreNew [] = Unit {0}
  AreNew (l ∷ watches) = (l.entry.aged ≡ false) × (l.entry.fired ≡ false) × IsListed image l × AreNew watches

  -- the first k entries are older; only a weak one of these is fired
  abbrev pub AreOld : ℕ → List Watch → Type 0
  AreOld zero watches = AreNew watches
  AreOld (suc k) [] = ⊥
  AreOld (suc k) (l ∷ watches) = (l.entry.aged ≡ true) × (l.entry.fired ≡ true → l.entry.weak ≡ true) × IsListed image l × AreOld k watches

  abbrev pub AreKept : List Watch → Type 0
  AreKept watches = (k : ℕ) × AreOld k watches

  pub old-new : (watches : List Watch) → AreNew watches → old watches ≡ 0
  old-new [] h = refl
  old-new (l ∷ watches) h = ap (λ b. if b then suc (old watches) else 0) h.0

  pub old-is : (k : ℕ) (watches : List Watch) → AreOld k watches → old watches ≡ k
  old-is zero watches h = old-new watches h
  old-is (suc k) [] h = absurd h
  old-is (suc k) (l ∷ watches) h = ap (λ b. if b then suc (old watches) else 0) h.0 ∙ ap suc (old-is k watches h.3)

  pub old-within : (k : ℕ) (watches : List Watch) → AreOld k watches → k ≤ length (stack watches)
  old-within zero watches h = omega arith
  old-within (suc k) [] h = absurd h
  old-within (suc k) (l ∷ watches) h = let r = old-within k watches h.3 in omega (arith, r)

  new-unrelieved : (watches : List Watch) → AreNew watches → relief watches ≡ None
  new-unrelieved [] h = refl
  new-unrelieved (l ∷ watches) h = ap (relief_with l) (new-unrelieved watches h.3) ∙ ap (λ b. if b then Some ([], l.entry.handler) else None) h.1

module _ (image : Image) (cert : Cert) where
  -- what holds where the innermost fired one of entries, the first of which has number i and stands behind these, is caught
  pub record IsRelief (s i : ℕ) (outside : List ℕ) (k : ℕ) (watches : List Watch) (left : List Watch) (handler : ℕ) : Type 0 where
    pub left_old : ℕ
    pub kept : AreOld image left_old left
    pub line : cert.line handler ≡ Thread s (outside ++ stack left) []
    pub plain : IsPlain image cert handler
    pub covers : (side : Side) (r : ℕ) → cert.number side (i + left_old) handler ≡ Some r → Handled image cert side i (stack watches) k r

  abbrev IfRelief : ℕ → ℕ → List ℕ → ℕ → List Watch → Option (List Watch × ℕ) → Type 0
  IfRelief s i outside k watches None = Unit {0}
  IfRelief s i outside k watches (Some r) = IsRelief s i outside k watches r.0 r.1

  append_nil : (a : List ℕ) → a ++ [] ≡ a
  append_nil [] = refl
  append_nil (x ∷ a) = ap (λ b. x ∷ b) (append_nil a)

  append_assoc : (a : List ℕ) (x : ℕ) (b : List ℕ) → (a ++ x ∷ []) ++ b ≡ a ++ x ∷ b
  append_assoc [] x b = refl
  append_assoc (y ∷ a) x b = ap (λ c. y ∷ c) (append_assoc a x b)

  relieves-here : (s i : ℕ) (outside : List ℕ) (k : ℕ) (l : Watch) (watches : List Watch) → AreOld image (suc k) (l ∷ watches) → AreAborts image cert s outside (stack (l ∷ watches)) → (b : Bool) → l.entry.fired ≡ b →
      IfRelief s i outside (suc k) (l ∷ watches) (if b then Some ([], l.entry.handler) else None)
  relieves-here s i outside k l watches o a false e = tt
  relieves-here s i outside k l watches o a true e =
      let listed = o.2 in
      let weak : image.weak l.entry.number ≡ true = sym listed.0 ∙ o.1 e in
      record {
        left_old = 0;
        kept = tt;
        line = ap cert.line listed.2 ∙ a.1.0 ∙ ap (λ x. Thread s x []) (sym (append_nil outside));
        plain = (let P : ℕ → Type 0 = IsPlain image cert in subst P (sym listed.2) a.1.1);
        covers = λ side r h. let same : i ≡ i + 0 = omega arith in inl (weak, ap (cert.number side i) (sym listed.2) ∙ ap (λ j. cert.number side j l.entry.handler) same ∙ h);
      }

  relieves-inside : (s i : ℕ) (outside : List ℕ) (k : ℕ) (l : Watch) (watches : List Watch) → AreOld image (suc k) (l ∷ watches) → AreAborts image cert s outside (stack (l ∷ watches)) → (r : Option (List Watch × ℕ)) →
      IfRelief s (i + 1) (outside ++ l.entry.number ∷ []) k watches r → IfRelief s i outside (suc k) (l ∷ watches) (relief_with l r)
  relieves-inside s i outside k l watches o a None h = relieves-here s i outside k l watches o a l.entry.fired refl
  relieves-inside s i outside k l watches o a (Some r) h =
      record {
        left_old = suc h.left_old;
        kept = (o.0, o.1, o.2, h.kept);
        line = h.line ∙ ap (λ x. Thread s x []) (append_assoc outside l.entry.number (stack r.0));
        plain = h.plain;
        covers = λ side n e. let same : (i + 1) + h.left_old ≡ i + suc h.left_old = omega arith in inr (h.covers side n (ap (λ j. cert.number side j r.1) same ∙ e));
      }

  relieves : (s i : ℕ) (outside : List ℕ) (k : ℕ) (watches : List Watch) → AreOld image k watches → AreAborts image cert s outside (stack watches) → IfRelief s i outside k watches (relief watches)
  relieves s i outside zero watches o a = subst (IfRelief s i outside zero watches) (sym (new-unrelieved image watches o)) tt
  relieves s i outside (suc k) [] o a = absurd o
  relieves s i outside (suc k) (l ∷ watches) o a = relieves-inside s i outside k l watches o a (relief watches) (relieves s (i + 1) (outside ++ l.entry.number ∷ []) k watches o.3 a.2)

  pub relieves-all : (s k : ℕ) (watches left : List Watch) (handler : ℕ) → AreOld image k watches → AreAborts image cert s [] (stack watches) → relief watches ≡ Some (left, handler) → IsRelief s 0 [] k watches left handler
  relieves-all s k watches left handler o a e = subst (IfRelief s 0 [] k watches) e (relieves s 0 [] k watches o a)

  abbrev pub IsWaiting : ℕ → List Watch → ℕ → ℕ → ℕ → Type 0
  IsWaiting s watches at lo n = (image.is_fork at s (stack watches) ≡ true) × (image.code at None ≡ Some (Fork lo n)) × AreKept image watches

  abbrev mutual
    -- slot s and what is below it stand where they may
    pub IsRight : ℕ → Tree → Type 0
    IsRight s (Leaf watches (Running place)) = (cert.line place ≡ Thread s (stack watches) []) × AreKept image watches × IsPlain image cert place
    IsRight s (Leaf watches (Pausing place)) = (image.is_pause place s (stack watches) ≡ true) × AreKept image watches
    IsRight s (Leaf watches Finished) = watches ≡ []
    IsRight s (Waits watches at lo group) = IsWaiting s watches at lo (size group) × (all_ended group ≡ false) × AreRight lo group

    pub AreRight : ℕ → Group → Type 0
    AreRight k no_more = Unit {0}
    AreRight k (member t ts) = IsRight k t × AreRight (k + 1) ts

  -- the size of a frame's group
  abbrev pub frame_size : Frame → ℕ
  frame_size f = size (append_group f.before (member (Leaf [] Finished) f.behind))

  abbrev pub IsFrameRight : ℕ → Frame → Type 0
  IsFrameRight s f = IsWaiting s f.watches f.at f.lo (frame_size f) × AreRight f.lo f.before × AreRight (beyond f.lo f.before + 1) f.behind

  abbrev pub IsContextRight : Context → Type 0
  IsContextRight [] = Unit {0}
  IsContextRight (f ∷ fs) = IsFrameRight (middle fs) f × IsContextRight fs

  pub size-same : (before behind : Group) (t u : Tree) → size (append_group before (member t behind)) ≡ size (append_group before (member u behind))
  size-same no_more behind t u = refl
  size-same (member x xs) behind t u = ap (λ n. n + 1) (size-same xs behind t u)

  pub join-right : (k : ℕ) (before behind : Group) (t : Tree) → AreRight k before → IsRight (beyond k before) t → AreRight (beyond k before + 1) behind → AreRight k (append_group before (member t behind))
  join-right k no_more behind t a b c = (b, c)
  join-right k (member u us) behind t a b c = (a.0, join-right (k + 1) us behind t a.1 b c)

  abbrev Parts : ℕ → Group → Group → Tree → Type 0
  Parts k before behind t = AreRight k before × IsRight (beyond k before) t × AreRight (beyond k before + 1) behind

  parts-right : (k : ℕ) (before behind : Group) (t : Tree) → AreRight k (append_group before (member t behind)) → Parts k before behind t
  parts-right k no_more behind t h = (tt, h.0, h.1)
  parts-right k (member u us) behind t h = let r = parts-right (k + 1) us behind t h.1 in ((h.0, r.0), r.1, r.2)

  -- the slots of a tree, and of what is round its middle
  pub plug-right : (context : Context) (t : Tree) → IsRight 0 (plug context t) → IsContextRight context × IsRight (middle context) t
  plug-right [] t h = (tt, h)
  plug-right (f ∷ fs) t h =
      let r = plug-right fs (filled f t) h in
      let w = r.1 in
      let p = parts-right f.lo f.before f.behind t w.2 in
      let W : ℕ → Type 0 = λ n. IsWaiting (middle fs) f.watches f.at f.lo n in
      (((subst W (size-same f.before f.behind t (Leaf [] Finished)) w.0, p.0, p.2), r.0), p.1)

  or-true : (a b : Bool) → a || b ≡ true → (a ≡ true) ⊎ (b ≡ true)
  or-true true b h = inl refl
  or-true false b h = inr h

  and-no : (a b : Bool) → a ≡ false → a && b ≡ false
  and-no a b h = ap (λ x. x && b) h

  and-no' : (a b : Bool) → b ≡ false → a && b ≡ false
  and-no' true b h = h
  and-no' false b h = refl

  ready-unended : (t : Tree) → has_ready t ≡ true → has_ended t ≡ false
  ready-unended (Leaf watches (Running place)) h = refl
  ready-unended (Leaf watches (Pausing place)) h = refl
  ready-unended (Leaf watches Finished) h = sym h
  ready-unended (Waits watches at lo group) h = refl

  pub any-unended : (ts : Group) → any_ready ts ≡ true → all_ended ts ≡ false
  any-unended no_more h = absurd (false≢true h)
  any-unended (member t ts) h =
      ⊎_elim (λ e. and-no (has_ended t) (all_ended ts) (ready-unended t e)) (λ e. and-no' (has_ended t) (all_ended ts) (any-unended ts e)) (or-true (has_ready t) (any_ready ts) h)

  or-false : (a b : Bool) → a || b ≡ false → (a ≡ false) × (b ≡ false)
  or-false true b h = absurd (false≢true (sym h))
  or-false false b h = (refl, h)

  abbrev pub rest_side : Bool → Side
  rest_side true = ToEnd
  rest_side false = ToPause

  both-rest : (a b : Bool) → rest_side (a && b) ≡ both_sides (rest_side a) (rest_side b)
  both-rest true true = refl
  both-rest true false = refl
  both-rest false b = refl

  -- a tree that rests may come to nothing more
  mutual
    rest-value : (s : ℕ) (t : Tree) → IsRight s t → has_ready t ≡ false → Val image cert t (rest_side (has_ended t)) 0
    rest-value s (Leaf watches (Running place)) r h = absurd (false≢true (sym h))
    rest-value s (Leaf watches (Pausing place)) r h = (refl, refl)
    rest-value s (Leaf watches Finished) r h = (refl, refl)
    rest-value s (Waits watches at lo group) r h =
        let G : Side → Type 0 = λ side. GVal image cert group side 0 in
        (ToPause, 0, 0, subst G (ap rest_side r.1) (rest-values lo group r.2 h), inl (refl, refl), omega arith)

    pub rest-values : (k : ℕ) (ts : Group) → AreRight k ts → any_ready ts ≡ false → GVal image cert ts (rest_side (all_ended ts)) 0
    rest-values k no_more r h = (refl, refl)
    rest-values k (member t ts) r h =
        let p = or-false (has_ready t) (any_ready ts) h in
        (rest_side (has_ended t), rest_side (all_ended ts), 0, 0, rest-value k t r.0 p.0, rest-values (k + 1) ts r.1 p.1, both-rest (has_ended t) (all_ended ts), omega arith)
