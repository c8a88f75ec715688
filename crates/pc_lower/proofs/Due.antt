-- The first slot with a due test, inside a context.
use Rattle.std.proofs.Common.{◌≡◌, ℕ, ◌+◌, ◌++◌, ◌||◌, ◌&&◌, not, Bool, true, false, List, [], ◌∷◌, length, take, slice_index_or, slice_set, Option, Some, None, is_some, refl, sym, ap, ◌∙◌, arith, add-zero}
use Rattle.mb_pfu.specs.declared.parts.Watch.{Watch}
use Rattle.mb_pfu.specs.Rows.{due, any_due, first_due, watch_due, no_watch, answered, with_answer, is_cut, Report, or_else}
use Rattle.mb_pfu.specs.Tree.{Tree, Group, Waits, no_more, member, size, append_group, is_in, is_among, at_slot, at_member, report, report_among}
use Rattle.mb_pfu.specs.Contexts.{Frame, Context, filled, plug, middle}
use Rattle.mb_pfu.proofs.Cases.{split, none-there}
use Rattle.mb_pfu.proofs.Trees.{is_in-report}
use Rattle.pc_lower.specs.Tests.{IsPast}

or-true-right : (b : Bool) → (b || true) ≡ true
or-true-right true = refl
or-true-right false = refl

in-append : (k : ℕ) (left : Group) (t : Tree) (right : Group) → is_in due (k + size left) t ≡ true → is_among due k (append_group left (member t right)) ≡ true
in-append k no_more t right b = let b' : is_in due k t ≡ true = rw (add-zero k) at b in rw b' refl
in-append k (member u left) t right b =
    let n : k + (size left + 1) ≡ k + 1 + size left = omega arith in
    rw (in-append (k + 1) left t right (rw n at b)) (or-true-right (is_in due k u))

at-append : (g h : Tree → Tree) (k : ℕ) (left : Group) (t : Tree) (right : Group) → is_among due k left ≡ false → is_in due (k + size left) t ≡ true →
    at_member due g h k (append_group left (member t right)) ≡ append_group left (member (at_slot due g h (k + size left) t) right)
at-append g h k no_more t right a b =
    let e : k + 0 ≡ k = add-zero k in
    let b' : is_in due k t ≡ true = rw e at b in
    rw (e, b') refl
at-append g h k (member u left) t right a b =
    let n : k + (size left + 1) ≡ k + 1 + size left = omega arith in
    split (is_in due k u)
    (λ e. let no : true ≡ false = rw e at a in cc)
    (λ e. rw (e, n) (ap (member u) (at-append g h (k + 1) left t right (rw e at a) (rw n at b))))

in-filled : (f : Frame) (k : ℕ) (t : Tree) → is_in due (f.lo + size f.before) t ≡ true → is_in due k (filled f t) ≡ true
in-filled f k t has = rw (in-append f.lo f.before t f.behind has) (or-true-right (any_due f.watches))

pub change-due : (g : Tree → Tree) (context : Context) (t : Tree) → IsPast context → is_in due (middle context) t ≡ true →
    at_slot due g (λ u. u) 0 (plug context t) ≡ plug context (at_slot due g (λ u. u) (middle context) t)
change-due g [] t past has = refl
change-due g (f ∷ fs) t past has =
    let here : at_slot due g (λ u. u) (middle fs) (filled f t) ≡ filled f (at_slot due g (λ u. u) (f.lo + size f.before) t) =
    rw (past.0, in-append f.lo f.before t f.behind has) (ap (λ ts. Waits f.watches f.at f.lo ts) (at-append g (λ u. u) f.lo f.before t f.behind past.1 has)) in
    change-due g fs (filled f t) past.2 (in-filled f (middle fs) t has) ∙ ap (plug fs) here

some-first : (x y : Option Report) → is_some x ≡ true → or_else x y ≡ x
some-first None y h = cc
some-first (Some x) y h = refl

report-append : (k : ℕ) (left : Group) (t : Tree) (right : Group) → is_among due k left ≡ false → is_in due (k + size left) t ≡ true →
    report_among due k (append_group left (member t right)) ≡ report due (k + size left) t
report-append k no_more t right a b =
    let e : k + 0 ≡ k = add-zero k in
    let b' : is_some (report due k t) ≡ true = sym (is_in-report due k t) ∙ rw e at b in
    rw e (some-first (report due k t) (report_among due (k + 1) right) b')
report-append k (member u left) t right a b =
    let n : k + (size left + 1) ≡ k + 1 + size left = omega arith in
    split (is_in due k u)
    (λ e. let no : true ≡ false = rw e at a in cc)
    (λ e.
    let none : report due k u ≡ None = none-there (report due k u) (sym (is_in-report due k u) ∙ e) in
    rw (none, n) (report-append (k + 1) left t right (rw e at a) (rw n at b)))

pub report-due : (context : Context) (t : Tree) → IsPast context → is_in due (middle context) t ≡ true → report due 0 (plug context t) ≡ report due (middle context) t
report-due [] t past has = refl
report-due (f ∷ fs) t past has =
    let here : report due (middle fs) (filled f t) ≡ report due (f.lo + size f.before) t = rw past.0 (report-append f.lo f.before t f.behind past.1 has) in
    report-due fs (filled f t) past.2 (in-filled f (middle fs) t has) ∙ here

-- ---- the first due entry of a slot

pub due-some : (e : List Watch) (x : Watch) (more : List Watch) → x.due ≡ true → any_due (e ++ x ∷ more) ≡ true
due-some [] x more h = rw h refl
due-some (l ∷ e) x more h = rw (due-some e x more h) (or-true-right l.due)

or-left : (a b : Bool) → (a || b) ≡ false → a ≡ false
or-left true b h = cc
or-left false b h = refl

or-right : (a b : Bool) → (a || b) ≡ false → b ≡ false
or-right true b h = cc
or-right false b h = h

pub first-is : (e : List Watch) (x : Watch) (more : List Watch) → any_due e ≡ false → x.due ≡ true → first_due (e ++ x ∷ more) ≡ length e
first-is [] x more q h = rw h refl
first-is (l ∷ e) x more q h =
    let n : length e + 1 ≡ length (l ∷ e) = omega arith in
    rw (or-left l.due (any_due e) q) (ap (λ i. i + 1) (first-is e x more (or-right l.due (any_due e) q) h) ∙ n)

pub index-is : (e : List Watch) (x d : Watch) (more : List Watch) → slice_index_or (e ++ x ∷ more) (length e) d ≡ x
index-is [] x d more = refl
index-is (l ∷ e) x d more = index-is e x d more

pub set-is : (e : List Watch) (x y : Watch) (more : List Watch) → slice_set (e ++ x ∷ more) (length e) y ≡ e ++ y ∷ more
set-is [] x y more = refl
set-is (l ∷ e) x y more = ap (λ ws. l ∷ ws) (set-is e x y more)

pub take-is : (e : List Watch) (x : Watch) (more : List Watch) → take (length e) (e ++ x ∷ more) ≡ e
take-is [] x more = refl
take-is (l ∷ e) x more = ap (λ ws. l ∷ ws) (take-is e x more)

pub undue-snoc : (e : List Watch) (w : Watch) → any_due e ≡ false → w.due ≡ false → any_due (e ++ w ∷ []) ≡ false
undue-snoc [] w q h = rw h refl
undue-snoc (l ∷ e) w q h = rw (or-left l.due (any_due e) q) (undue-snoc e w (or-right l.due (any_due e) q) h)

module _ (e : List Watch) (x : Watch) (more : List Watch) (q : any_due e ≡ false) (h : x.due ≡ true) where
  pub watch-is : watch_due (e ++ x ∷ more) ≡ x
  watch-is = ap (λ i. slice_index_or (e ++ x ∷ more) i no_watch) (first-is e x more q h) ∙ index-is e x no_watch more

  pub answer-is : (fired : Bool) → with_answer fired (e ++ x ∷ more) ≡ e ++ answered fired x ∷ more
  answer-is fired = ap (λ i. slice_set (e ++ x ∷ more) i (answered fired (watch_due (e ++ x ∷ more)))) (first-is e x more q h) ∙ ap (λ l. slice_set (e ++ x ∷ more) (length e) (answered fired l)) watch-is ∙ set-is e x (answered fired x) more

  pub cut-is : (fired : Bool) → is_cut fired (e ++ x ∷ more) ≡ (fired && not x.entry.weak)
  cut-is fired = ap (λ l. fired && not l.entry.weak) watch-is

  pub kept-is : take (first_due (e ++ x ∷ more)) (e ++ x ∷ more) ≡ e
  kept-is = ap (λ i. take i (e ++ x ∷ more)) (first-is e x more q h) ∙ take-is e x more
