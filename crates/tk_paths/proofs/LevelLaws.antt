-- Numbers that are told level by level.
use Rattle.std.proofs.Common.{◌≡◌, ◌≤◌, ◌<◌, ◌+◌, ◌-◌, ◌++◌, ℕ, List, [], ◌∷◌, min, map, length, slice_index_or, Option, Some, None, refl, sym, ap, ◌∙◌, ⊎_elim, arith}
use Rattle.std.specs.List.{range_with_len}
use mathlib.Core.Path.{fun_ext, ap₂}
use Rattle.std.proofs.lemmas.Bool.{cases_lt}
use Rattle.std.proofs.lemmas.List.FromFn.{length-map-range_with_len, get_or-map-range_with_len, map-range_with_len_more}
use Rattle.mb_isa.specs.declared.Class.TheVariants as class
use Rattle.mb_isa.specs.Costs.{cost_of}
use Rattle.tk_cert.specs.declared.cert.Line.TheVariants.{Thread}
use Rattle.tk_paths.specs.declared.view.Side.{Side}
use Rattle.tk_paths.specs.declared.view.Side.TheVariants.{ToPause, ToEnd}
use Rattle.tk_paths.specs.declared.view.View.{View}
use Rattle.tk_paths.specs.declared.view.View.TheVariants.{On, Value}
use Rattle.tk_paths.specs.Sums.{plus, greater}
use Rattle.tk_paths.specs.Acceptance.{on_side}
use Rattle.tk_paths.specs.Numbers.{thread, Numbers, level, line, just, nothing, after}
use Rattle.tk_paths.specs.declared.levels.Levels.{Levels}
use Rattle.tk_paths.specs.Levels.{level_in, numbers_of, levels_to, added, dearer, branching}

on-level : (side : Side) (V : Numbers) (k : ℕ) → on_side side (Some (level V k)) ≡ V (On side k)
on-level ToPause V k = refl
on-level ToEnd V k = refl

on-none : (side : Side) → on_side side (Some (None, None)) ≡ None
on-none ToPause = refl
on-none ToEnd = refl

-- one level more
pub one-more : (V : Numbers) (k : ℕ) → levels_to V (k + 1) ≡ levels_to V k ++ level V k ∷ []
unfolding levels_to
one-more V k = map-range_with_len_more (level V) 0 k k (omega arith)

-- levels that are told one by one are these numbers, where further ones are as the last
pub told : (l : Levels) (V : Numbers) (n : ℕ) → 1 ≤ n → l.levels ≡ levels_to V n → l.value ≡ V Value →
    ((side : Side) (k : ℕ) → n ≤ k → V (On side k) ≡ V (On side (n - 1))) → numbers_of l ≡ V
unfolding numbers_of levels_to
told l V n h e v last = fun_ext by
  where
    at-last : (side : Side) (k : ℕ) → V (On side (min k (n - 1))) ≡ V (On side k)
    at-last side k =
        ⊎_elim (λ (b : k < n). let e : min k (n - 1) ≡ k = omega arith in ap (λ i. V (On side i)) e)
        (λ (b : n ≤ k). let e : min k (n - 1) ≡ n - 1 = omega arith in ap (λ i. V (On side i)) e ∙ sym (last side k b)) (cases_lt k n)

    by : (view : View) → numbers_of l view ≡ V view
    by Value = v
    by (On side k) =
        let below : min k (n - 1) < n = omega arith in
        ap (λ xs. on_side side (Some (level_in xs k))) e
        ∙ ap (λ m. on_side side (Some (slice_index_or (map (level V) (range_with_len 0 n)) (min k (m - 1)) (None, None)))) (length-map-range_with_len (level V) 0 n)
        ∙ ap (λ p. on_side side (Some p)) (get_or-map-range_with_len (level V) 0 n (min k (n - 1)) (min k (n - 1)) (None, None) below (omega arith))
        ∙ on-level side V (min k (n - 1)) ∙ at-last side k

-- behind the last level all are alike
pub settles : (l : Levels) (side : Side) (k m : ℕ) → length l.levels - 1 ≤ k → length l.levels - 1 ≤ m → numbers_of l (On side k) ≡ numbers_of l (On side m)
unfolding numbers_of
settles l side k m p q =
    let e : min k (length l.levels - 1) ≡ min m (length l.levels - 1) = omega arith in
    ap (λ i. on_side side (Some (slice_index_or l.levels i (None, None)))) e

pub added-told : (o : Option ℕ) (behind l : Levels) (n : ℕ) → 1 ≤ n → length behind.levels ≤ n → l.levels ≡ levels_to (added o (numbers_of behind)) n →
    l.value ≡ plus o behind.value → numbers_of l ≡ added o (numbers_of behind)
unfolding added numbers_of
added-told o behind l n h w e v =
    told l (added o (numbers_of behind)) n h e v (λ side k b. ap (plus o) (settles behind side k (n - 1) (omega arith) (omega arith)))

pub dearer-told : (a b l : Levels) (n : ℕ) → 1 ≤ n → length a.levels ≤ n → length b.levels ≤ n → l.levels ≡ levels_to (dearer (numbers_of a) (numbers_of b)) n →
    l.value ≡ greater a.value b.value → numbers_of l ≡ dearer (numbers_of a) (numbers_of b)
unfolding dearer numbers_of
dearer-told a b l n h p q e v =
    told l (dearer (numbers_of a) (numbers_of b)) n h e v
    (λ side k r. ap₂ greater (settles a side k (n - 1) (omega arith) (omega arith)) (settles b side k (n - 1) (omega arith) (omega arith)))

pub added-level : (o : Option ℕ) (V : Numbers) (k : ℕ) → level (added o V) k ≡ (plus o (V (On ToPause k)), plus o (V (On ToEnd k)))
unfolding added
added-level o V k = refl

pub dearer-level : (V W : Numbers) (k : ℕ) → level (dearer V W) k ≡ (greater (V (On ToPause k)) (W (On ToPause k)), greater (V (On ToEnd k)) (W (On ToEnd k)))
unfolding dearer
dearer-level V W k = refl

pub no-levels : (V : Numbers) → levels_to V 0 ≡ []
unfolding levels_to
no-levels V = refl

pub just-told : (l : Levels) (n : ℕ) → l.levels ≡ (Some n, Some n) ∷ [] → l.value ≡ Some n → numbers_of l ≡ just n
unfolding levels_to
just-told l n e v = told l (just n) 1 (omega arith) e v (λ side k b. refl)

pub nothing-told : (l : Levels) → l.levels ≡ [] → l.value ≡ None → numbers_of l ≡ nothing
unfolding numbers_of
nothing-told l e v = fun_ext by
  where
    by : (view : View) → numbers_of l view ≡ nothing view
    by Value = v
    by (On side k) = ap (λ xs. on_side side (Some (level_in xs k))) e ∙ on-none side

pub level-read : (l : Levels) (xs : List (Option ℕ × Option ℕ)) (k : ℕ) → xs ≡ l.levels →
    slice_index_or xs (min k (length xs - 1)) (None, None) ≡ level (numbers_of l) k
unfolding numbers_of
level-read l xs k e = ap (λ xs. slice_index_or xs (min k (length xs - 1)) (None, None)) e

no-items : (xs : List (Option ℕ × Option ℕ)) → length xs ≡ 0 → xs ≡ []
no-items [] e = refl
no-items (x ∷ xs) e = absurd (omega arith)

pub level-none : (l : Levels) (xs : List (Option ℕ × Option ℕ)) (k : ℕ) → xs ≡ l.levels → length xs ≡ 0 →
    ◌≡◌ {A = Option ℕ × Option ℕ} (None, None) (level (numbers_of l) k)
level-none l xs k e none =
    let gone = no-items xs none in
    sym (ap (λ xs. slice_index_or xs (min k (length xs - 1)) (None, None)) gone) ∙ level-read l xs k e

pub added-pair : (o : Option ℕ) (V : Numbers) (k : ℕ) (p : Option ℕ × Option ℕ) (x y : Option ℕ) →
    p ≡ level V k → x ≡ plus o p.0 → y ≡ plus o p.1 → ◌≡◌ {A = Option ℕ × Option ℕ} (x, y) (level (added o V) k)
unfolding added
added-pair o V k p x y e f g =
    let pair : Option ℕ → Option ℕ → Option ℕ × Option ℕ = λ x y. (x, y) in
    ap₂ pair (f ∙ ap (λ p. plus o p.0) e) (g ∙ ap (λ p. plus o p.1) e)

pub dearer-pair : (V W : Numbers) (k : ℕ) (p q : Option ℕ × Option ℕ) (x y : Option ℕ) →
    p ≡ level V k → q ≡ level W k → x ≡ greater p.0 q.0 → y ≡ greater p.1 q.1 → ◌≡◌ {A = Option ℕ × Option ℕ} (x, y) (level (dearer V W) k)
unfolding dearer
dearer-pair V W k p q x y d e f g =
    let pair : Option ℕ → Option ℕ → Option ℕ × Option ℕ = λ x y. (x, y) in
    ap₂ pair (f ∙ ap₂ (λ p q. greater p.0 q.0) d e) (g ∙ ap₂ (λ p q. greater p.1 q.1) d e)

pub after-is : (n : ℕ) (V : Numbers) → added (Some n) V ≡ after n V
unfolding added
after-is n V = refl

pub branching-told : (costs : List ℕ) (V W A B R : Numbers) (a b : ℕ) → a ≡ cost_of costs class.Untaken → b ≡ cost_of costs class.Taken →
    A ≡ after a V → B ≡ after b W → R ≡ dearer A B → R ≡ branching costs V W
unfolding branching
branching-told costs V W A B R a b c d e f g =
    g ∙ ap₂ dearer (e ∙ ap (λ n. after n V) c) (f ∙ ap (λ n. after n W) d)

-- the line of a thread's place
pub thread-line : (s : ℕ) (stack stack' loops loops' : List ℕ) (all : List (Option ℕ × Option ℕ)) (V : Numbers) (count : ℕ) →
    stack' ≡ stack → loops' ≡ loops → all ≡ levels_to V count → count ≡ length stack + 1 → Thread s stack' loops' all ≡ line (thread s stack loops) V
unfolding levels_to
thread-line s stack stack' loops loops' all V count p q e c =
    ap₂ (λ x y. Thread s x y all) p q ∙ ap (Thread s stack loops) (e ∙ ap (λ n. map (level V) (range_with_len 0 n)) c)
