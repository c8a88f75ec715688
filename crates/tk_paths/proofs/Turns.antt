-- The unit's moves of the first ready slot, by what is round it.
use Rattle.std.proofs.Common.{◌≡◌, ◌≤◌, ◌+◌, ◌-◌, ◌==◌, ◌||◌, ℕ, Bool, true, false, not, if◌then◌else◌, List, [], ◌∷◌, ◌++◌, take, reverse, length, slice_index_or, Option, Some, None, option_map, refl, sym, ap, ◌∙◌, arith, add-one, leb-true}
use Rattle.std.proofs.lemmas.Bool.{false≢true}
use Rattle.std.proofs.lemmas.List.{reverse-reverse, reverse-append}
use Rattle.mb_pfu.specs.declared.parts.Watch.{Watch}
use Rattle.mb_pfu.specs.declared.parts.Slot.{Slot}
use Rattle.mb_pfu.specs.declared.parts.Slot.TheVariants.{Ready}
use Rattle.mb_pfu.specs.Rows.{Report, numbered, ready, due, any_due, first_due, watch_due, or_else, with_last, relief, reported_test}
use Rattle.mb_pfu.specs.Rows as rows
use Rattle.mb_pfu.specs.Tree.{Running, Pausing, Finished, Tree, Group, Leaf, Waits, no_more, member, size, has_ready, is_in, is_among, at_slot, settle, pause_at, finish_at, fork_at, watches_at, paused, finished, forked, entered, left, report, report_among, reported_state, reported_watches, reported_number, slot_of, watches_of, next_job, next_test, tally, tally_group, append_group, is_busy}
use Rattle.mb_pfu.specs.Tree as tree
use Rattle.mb_pfu.specs.Contexts.{Frame, Context, filled, plug, climb, IsQuietBefore}
use Rattle.mb_pfu.specs.Contexts as contexts
use Rattle.mb_pfu.specs.Calls.{last_of, last_from}
use Rattle.mb_pfu.proofs.Firsts.{at-numbered, report-numbered}
use Rattle.mb_pfu.proofs.Laws.{at-plug, stay-plug, report-plug, free-outside}
use Rattle.tk_paths.proofs.SlotFacts.{beyond, middle, without_last, first_cond, next_cond, next_cond_among}
use Rattle.tk_paths.proofs.Inner.{Image, is_none, occurs, occurs_among, IsSound}
use Rattle.tk_paths.proofs.Inner as machine

pub beyond-size : (k : ℕ) (ts : Group) → beyond k ts ≡ k + size ts
beyond-size k no_more = omega arith
beyond-size k (member t ts) = let r = beyond-size (k + 1) ts in omega (arith, r)

pub middle-same : (context : Context) → contexts.middle context ≡ middle context
middle-same [] = refl
middle-same (f ∷ fs) = sym (beyond-size f.lo f.before)

pub less-last : (l : Watch) (watches : List Watch) → take (length watches) (l ∷ watches) ≡ without_last (l ∷ watches)
less-last l [] = refl
less-last l (k ∷ watches) = ap (λ w. l ∷ w) (less-last k watches)

pub last-less : (watches : List Watch) → rows.without_last watches ≡ without_last watches
last-less [] = refl
last-less (l ∷ watches) = let e : length (l ∷ watches) - 1 ≡ length watches = omega arith in ap (λ n. take n (l ∷ watches)) e ∙ less-last l watches

-- the last number of a list, which is the first of the list turned round
last-append : (b : List ℕ) (x : ℕ) → last_of (b ++ x ∷ []) ≡ Some (b, x)
last-append [] x = refl
last-append (y ∷ b) x = ap (λ o. Some (last_from y o)) (last-append b x)

pub last-reverse : (l rest : List ℕ) (x : ℕ) → reverse l ≡ x ∷ rest → last_of l ≡ Some (reverse rest, x)
last-reverse l rest x h =
    let e : l ≡ reverse rest ++ x ∷ [] = sym (reverse-reverse l) ∙ ap reverse h ∙ reverse-append (x ∷ []) rest in
    ap last_of e ∙ last-append (reverse rest) x

pub reverse-none : (l : List ℕ) → reverse l ≡ [] → l ≡ []
reverse-none l h = sym (reverse-reverse l) ∙ ap reverse h

mutual
  pub occurs-in : (c k : ℕ) (t : Tree) → occurs c k t ≡ is_in (numbered c) k t
  occurs-in c k (Leaf watches activity) = refl
  occurs-in c k (Waits watches at lo group) = ap (λ b. (k == c) || b) (occurs-among c lo group)

  occurs-among : (c k : ℕ) (ts : Group) → occurs_among c k ts ≡ is_among (numbered c) k ts
  occurs-among c k no_more = refl
  occurs-among c k (member t ts) = ap (λ b. b || occurs_among c (k + 1) ts) (occurs-in c k t) ∙ ap (λ b. is_in (numbered c) k t || b) (occurs-among c (k + 1) ts)

around-occurs : (c : ℕ) (t u : Tree) → ((k : ℕ) → occurs c k t ≡ occurs c k u) → (before behind : Group) (k : ℕ) → occurs_among c k (append_group before (member t behind)) ≡ occurs_among c k (append_group before (member u behind))
around-occurs c t u h no_more behind k = ap (λ b. b || occurs_among c (k + 1) behind) (h k)
around-occurs c t u h (member x xs) behind k = ap (λ b. occurs c k x || b) (around-occurs c t u h xs behind (k + 1))

pub plug-occurs : (c : ℕ) (t u : Tree) → ((k : ℕ) → occurs c k t ≡ occurs c k u) → (context : Context) (k : ℕ) → occurs c k (plug context t) ≡ occurs c k (plug context u)
plug-occurs c t u h [] k = h k
plug-occurs c t u h (f ∷ fs) k = plug-occurs c (filled f t) (filled f u) (λ i. ap (λ b. (i == c) || b) (around-occurs c t u h f.before f.behind f.lo)) fs k

-- the children of a fork are not busy where none of them occurs
pub free-children : (t : Tree) (lo : ℕ) (starts : List ℕ) → machine.is_busy lo (length starts) t ≡ false → is_busy lo starts t ≡ false
free-children t lo [] h = refl
free-children t lo (x ∷ starts) h = by (occurs lo 0 t) refl h (λ e. free-children t (lo + 1) starts e)
  where
    by : (b : Bool) → occurs lo 0 t ≡ b → b || machine.is_busy (lo + 1) (length starts) t ≡ false → (machine.is_busy (lo + 1) (length starts) t ≡ false → is_busy (lo + 1) starts t ≡ false) → is_busy lo (x ∷ starts) t ≡ false
    by true e k more = absurd (false≢true (sym k))
    by false e k more =
        let f : rows.is_free (slot_of lo t) ≡ true = free-outside lo t ∙ ap not (sym (occurs-in lo 0 t) ∙ e) in
        ap (λ b. not b || is_busy (lo + 1) starts t) f ∙ more k

-- the conditions that are due
due-first : (watches : List Watch) → first_cond watches ≡ (if any_due watches then Some ((watch_due watches).entry.cond) else None)
due-first [] = refl
due-first (l ∷ watches) = by l.due (due-first watches)
  where
    by : (d : Bool) → first_cond watches ≡ (if any_due watches then Some ((watch_due watches).entry.cond) else None) →
        (if d then Some l.entry.cond else first_cond watches) ≡ (if d || any_due watches then Some ((slice_index_or (l ∷ watches) (if d then 0 else first_due watches + 1) rows.no_watch).entry.cond) else None)
    by true e = refl
    by false e = e ∙ ap (λ n. if any_due watches then Some ((slice_index_or (l ∷ watches) n rows.no_watch).entry.cond) else None) (sym (add-one (first_due watches)))

abbrev pub cond_in : Report → ℕ
cond_in x = (watch_due x.2).entry.cond

-- the next condition, by what the unit reports
mutual
  pub cond-report : (k : ℕ) (t : Tree) → next_cond t ≡ option_map cond_in (report due k t)
  cond-report k (Leaf watches activity) = due-first watches ∙ by (any_due watches)
    where
      by : (d : Bool) → (if d then Some ((watch_due watches).entry.cond) else None) ≡ option_map cond_in (if d then Some (k, tree.slot_of_activity activity, watches) else None)
      by true = refl
      by false = refl
  cond-report k (Waits watches at lo group) = ap (λ o. or_else o (next_cond_among group)) (due-first watches) ∙ by (any_due watches) (cond-report-among lo group)
    where
      by : (d : Bool) → next_cond_among group ≡ option_map cond_in (report_among due lo group) →
          or_else (if d then Some ((watch_due watches).entry.cond) else None) (next_cond_among group) ≡ option_map cond_in (if d then Some (k, Slot.Waiting at lo (size group), watches) else report_among due lo group)
      by true e = refl
      by false e = e

  cond-report-among : (k : ℕ) (ts : Group) → next_cond_among ts ≡ option_map cond_in (report_among due k ts)
  cond-report-among k no_more = refl
  cond-report-among k (member t ts) = ap (λ o. or_else o (next_cond_among ts)) (cond-report k t) ∙ ap (λ o. or_else (option_map cond_in (report due k t)) o) (cond-report-among (k + 1) ts) ∙ by (report due k t)
    where
      by : (o : Option Report) → or_else (option_map cond_in o) (option_map cond_in (report_among due (k + 1) ts)) ≡ option_map cond_in (or_else o (report_among due (k + 1) ts))
      by None = refl
      by (Some x) = refl

module _ (image : Image) where
  pub once-of : (t : Tree) → IsSound image t → (q : ℕ) → tally q 0 t ≤ 1
  once-of t sound q = leb-true (tally q 0 t) 1 (sound q)

  module _ (context : Context) (watches : List Watch) (place : ℕ) (quiet : IsQuietBefore context) (sound : IsSound image (plug context (Leaf watches (Running place)))) where
    abbrev leaf : Tree
    leaf = Leaf watches (Running place)

    abbrev whole : Tree
    whole = plug context leaf

    abbrev pub me : ℕ
    me = contexts.middle context

    once : (q : ℕ) → tally q 0 whole ≤ 1
    once = once-of whole sound

    reported : report ready 0 whole ≡ Some (me, Ready place, watches)
    reported = report-plug context leaf quiet refl

    pub is-next : next_job whole ≡ Some me
    is-next = ap reported_number reported

    by-number : report (numbered me) 0 whole ≡ Some (me, Ready place, watches)
    by-number = report-numbered ready 0 whole (me, Ready place, watches) once reported

    pub slot-is : slot_of me whole ≡ Ready place
    slot-is = ap reported_state by-number

    pub watches-are : watches_of me whole ≡ watches
    watches-are = ap reported_watches by-number

    settling : (f : Tree → Tree) → at_slot (numbered me) f settle 0 whole ≡ climb context (f leaf)
    settling f = sym (at-numbered ready f settle 0 whole (me, Ready place, watches) once reported) ∙ at-plug f context leaf quiet refl

    staying : (f : Tree → Tree) → at_slot (numbered me) f (λ u. u) 0 whole ≡ plug context (f leaf)
    staying f = sym (at-numbered ready f (λ u. u) 0 whole (me, Ready place, watches) once reported) ∙ stay-plug f context leaf quiet refl

    pub paused-is : (at : ℕ) → paused me at whole ≡ climb context (pause_at at leaf)
    paused-is at = settling (pause_at at)

    pub finished-is : finished me whole ≡ climb context (Leaf watches Finished)
    finished-is = settling finish_at

    pub forked-is : (at lo : ℕ) (starts : List ℕ) → forked me at lo starts whole ≡ plug context (Waits watches at lo (tree.begun starts))
    forked-is at lo starts = staying (fork_at at lo starts)

    pub entered-is : (l : Watch) → entered me l whole ≡ plug context (Leaf (with_last l watches) (Running place))
    entered-is l = staying (watches_at (with_last l))

    pub left-is : left me whole ≡ plug context (Leaf (without_last watches) (Running place))
    left-is = staying (watches_at rows.without_last) ∙ ap (λ w. plug context (Leaf w (Running place))) (last-less watches)
