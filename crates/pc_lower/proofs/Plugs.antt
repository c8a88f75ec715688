-- Moves of the slot in the middle, by its number.
use Rattle.std.proofs.Common.{◌≡◌, ℕ, ◌+◌, Bool, true, false, ◌||◌, [], ◌∷◌, Option, Some, None, refl, sym, ap, ◌∙◌, arith, add-zero, is_some}
use Rattle.mb_pfu.specs.Rows.{numbered, Report, or_else}
use Rattle.mb_pfu.specs.Tree.{Tree, Group, Waits, no_more, member, size, append_group, settle, is_in, is_among, at_slot, at_member, report, report_among}
use Rattle.mb_pfu.specs.Contexts.{Frame, Context, filled, plug, middle, climb}
use Rattle.mb_pfu.proofs.Cases.{split, none-there}
use Rattle.mb_pfu.proofs.Trees.{is_in-report}
use Rattle.pc_lower.specs.Slots.{Outside}

or-false : (b : Bool) → (b || false) ≡ b
or-false true = refl
or-false false = refl

module _ (q : ℕ) where
  in-append : (k : ℕ) (left : Group) (t : Tree) (right : Group) → is_among (numbered q) k left ≡ false → is_among (numbered q) (k + size left + 1) right ≡ false →
      is_among (numbered q) k (append_group left (member t right)) ≡ is_in (numbered q) (k + size left) t
  in-append k no_more t right a b =
      let e : k + 0 ≡ k = add-zero k in
      let b' : is_among (numbered q) (k + 1) right ≡ false = rw e at b in
      rw (e, b') (or-false (is_in (numbered q) k t))
  in-append k (member u left) t right a b =
      let n : k + (size left + 1) ≡ k + 1 + size left = omega arith in
      split (is_in (numbered q) k u)
      (λ e. let no : true ≡ false = rw e at a in cc)
      (λ e. rw (e, n) (in-append (k + 1) left t right (rw e at a) (rw n at b)))

  pub in-plug : (context : Context) (t : Tree) → Outside q context → is_in (numbered q) 0 (plug context t) ≡ is_in (numbered q) (middle context) t
  in-plug [] t out = refl
  in-plug (f ∷ fs) t out =
      in-plug fs (filled f t) out.3 ∙ rw out.0 (in-append f.lo f.before t f.behind out.1 out.2)

  at-append : (g h : Tree → Tree) (k : ℕ) (left : Group) (t : Tree) (right : Group) → is_among (numbered q) k left ≡ false → is_in (numbered q) (k + size left) t ≡ true →
      at_member (numbered q) g h k (append_group left (member t right)) ≡ append_group left (member (at_slot (numbered q) g h (k + size left) t) right)
  at-append g h k no_more t right a b =
      let e : k + 0 ≡ k = add-zero k in
      let b' : is_in (numbered q) k t ≡ true = rw e at b in
      rw (e, b') refl
  at-append g h k (member u left) t right a b =
      let n : k + (size left + 1) ≡ k + 1 + size left = omega arith in
      split (is_in (numbered q) k u)
      (λ e. let no : true ≡ false = rw e at a in cc)
      (λ e. rw (e, n) (ap (member u) (at-append g h (k + 1) left t right (rw e at a) (rw n at b))))

  among-true : (context : Context) (f : Frame) (t : Tree) → Outside q (f ∷ context) → is_in (numbered q) (f.lo + size f.before) t ≡ true → is_among (numbered q) f.lo (append_group f.before (member t f.behind)) ≡ true
  among-true fs f t out has = in-append f.lo f.before t f.behind out.1 out.2 ∙ has

  in-filled : (context : Context) (f : Frame) (t : Tree) → Outside q (f ∷ context) → is_in (numbered q) (f.lo + size f.before) t ≡ true → is_in (numbered q) (middle context) (filled f t) ≡ true
  in-filled fs f t out has = rw out.0 (among-true fs f t out has)

  -- a move of the slot in the middle, where what is round it settles
  pub move-plug : (g : Tree → Tree) (context : Context) (t : Tree) → Outside q context → is_in (numbered q) (middle context) t ≡ true →
      at_slot (numbered q) g settle 0 (plug context t) ≡ climb context (at_slot (numbered q) g settle (middle context) t)
  move-plug g [] t out has = refl
  move-plug g (f ∷ fs) t out has =
      let here : at_slot (numbered q) g settle (middle fs) (filled f t) ≡ settle (filled f (at_slot (numbered q) g settle (f.lo + size f.before) t)) =
      rw (out.0, among-true fs f t out has) (ap (λ ts. settle (Waits f.watches f.at f.lo ts)) (at-append g settle f.lo f.before t f.behind out.1 has)) in
      move-plug g fs (filled f t) out.3 (in-filled fs f t out has) ∙ ap (climb fs) here

  -- and where it stays
  pub change-plug : (g : Tree → Tree) (context : Context) (t : Tree) → Outside q context → is_in (numbered q) (middle context) t ≡ true →
      at_slot (numbered q) g (λ u. u) 0 (plug context t) ≡ plug context (at_slot (numbered q) g (λ u. u) (middle context) t)
  change-plug g [] t out has = refl
  change-plug g (f ∷ fs) t out has =
      let here : at_slot (numbered q) g (λ u. u) (middle fs) (filled f t) ≡ filled f (at_slot (numbered q) g (λ u. u) (f.lo + size f.before) t) =
      rw (out.0, among-true fs f t out has) (ap (λ ts. Waits f.watches f.at f.lo ts) (at-append g (λ u. u) f.lo f.before t f.behind out.1 has)) in
      change-plug g fs (filled f t) out.3 (in-filled fs f t out has) ∙ ap (plug fs) here

  report-append : (k : ℕ) (left : Group) (t : Tree) (right : Group) → is_among (numbered q) k left ≡ false → is_in (numbered q) (k + size left) t ≡ true →
      report_among (numbered q) k (append_group left (member t right)) ≡ report (numbered q) (k + size left) t
  report-append k no_more t right a b =
      let e : k + 0 ≡ k = add-zero k in
      let b' : is_some (report (numbered q) k t) ≡ true = sym (is_in-report (numbered q) k t) ∙ rw e at b in
      rw e (some-first (report (numbered q) k t) (report_among (numbered q) (k + 1) right) b')
    where
      some-first : (x y : Option Report) → is_some x ≡ true → or_else x y ≡ x
      some-first None y h = cc
      some-first (Some x) y h = refl
  report-append k (member u left) t right a b =
      let n : k + (size left + 1) ≡ k + 1 + size left = omega arith in
      split (is_in (numbered q) k u)
      (λ e. let no : true ≡ false = rw e at a in cc)
      (λ e.
      let none : report (numbered q) k u ≡ None = none-there (report (numbered q) k u) (sym (is_in-report (numbered q) k u) ∙ e) in
      rw (none, n) (report-append (k + 1) left t right (rw e at a) (rw n at b)))

  pub report-plug : (context : Context) (t : Tree) → Outside q context → is_in (numbered q) (middle context) t ≡ true → report (numbered q) 0 (plug context t) ≡ report (numbered q) (middle context) t
  report-plug [] t out has = refl
  report-plug (f ∷ fs) t out has =
      let here : report (numbered q) (middle fs) (filled f t) ≡ report (numbered q) (f.lo + size f.before) t = rw out.0 (report-append f.lo f.before t f.behind out.1 has) in
      report-plug fs (filled f t) out.3 (in-filled fs f t out has) ∙ here
