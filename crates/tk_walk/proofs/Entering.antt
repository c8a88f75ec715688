-- A slot enters one abort after another.
use Rattle.std.proofs.Common.{◌≡◌, ◌<◌, ◌≤◌, ℕ, ◌+◌, IsTrue, List, [], ◌∷◌, length, drop, get_or, Result, sym, ap, ◌∙◌, arith, length-append}
use Rattle.mb_pfu.specs.declared.TrapKind.{TrapKind}
use Rattle.mb_pfu.specs.declared.parts.Watch.{Watch}
use Rattle.mb_pfu.specs.Rows.{is_ready}
use Rattle.mb_pfu.specs.Tree.{Tree, slot_of, watches_of, entered}
use Rattle.mb_pfu.specs.Unit as unit
use Rattle.mb_pfu.specs.Unit.{fresh}
use Rattle.mb_pfu.specs.Calls as call
use Rattle.mb_pfu.specs.Calls.{called, with_tree}
use Rattle.pt_image.specs.declared.Parts.{Parts}
use Rattle.tk_walk.specs.Building.{line_at, entries, all_entered}
use Rattle.tk_walk.proofs.Loops.{entries-drop}
use Rattle.tk_walk.proofs.Resting.{enter-done}
use Rattle.tk_walk.proofs.Standings.{watches-entered}

-- so many of a stack were entered
pub record Entering (image : Parts) (s : ℕ) (stack : List ℕ) (i : ℕ) (start u : unit.State) : Type 0 where
  pub rest : u ≡ record start { tree = u.tree }
  pub tree : all_entered s (entries image (drop i stack)) u.tree ≡ all_entered s (entries image stack) start.tree
  pub ready : IsTrue (is_ready (slot_of s u.tree))
  pub depth : length (watches_of s u.tree) ≡ i

abbrev entry : Parts → ℕ → Watch
entry image j = fresh j (line_at image j).weak (line_at image j).cond (line_at image j).handler

pub entering : {X : Type 0} (image : Parts) (s : ℕ) (stack : List ℕ) (i : ℕ) (start u new : unit.State) (result : Result X TrapKind) → Entering image s stack i start u → i < length stack → length stack ≤ 8 → start.links ≡ [] → start.counters ≡ [] →
    call.enter u s (entry image (get_or stack i 0)) ≡ called result new → IsTrue (is_ready (slot_of s new.tree)) → Entering image s stack (i + 1) start new
entering image s stack i start u new result e within few links counters h now =
    let l : Watch = entry image (get_or stack i 0) in
    let links-u : u.links ≡ [] = ap (λ (x : unit.State). x.links) e.rest ∙ links in
    let counters-u : u.counters ≡ [] = ap (λ (x : unit.State). x.counters) e.rest ∙ counters in
    let depth : length (watches_of s u.tree) ≡ i = e.depth in
    let done : new ≡ with_tree (entered s (entry image (get_or stack i 0)) u.tree) u = enter-done u s (entry image (get_or stack i 0)) result new links-u counters-u (omega arith) h in
    let tree : new.tree ≡ entered s (entry image (get_or stack i 0)) u.tree = ap (λ (x : unit.State). x.tree) done in
    let back : entered s (entry image (get_or stack i 0)) u.tree ≡ new.tree = sym tree in
    record {
      rest = done ∙ (λ k. record { slots = (e.rest k).slots; tree = back k; links = (e.rest k).links; counters = (e.rest k).counters });
      tree = ap (all_entered s (entries image (drop (i + 1) stack))) tree ∙ ap (λ (ws : List Watch). all_entered s ws u.tree) (sym (entries-drop image stack i within)) ∙ e.tree;
      ready = now;
      depth = ap (λ (t : Tree). length (watches_of s t)) tree ∙ ap length (watches-entered s (entry image (get_or stack i 0)) u.tree e.ready) ∙ length-append (watches_of s u.tree) (entry image (get_or stack i 0) ∷ []) ∙ ap (λ n. n + 1) depth;
    }
