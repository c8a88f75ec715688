-- A run of an image is the run of its flow.
use Rattle.std.proofs.Common.{◌≡◌, ℕ, ℤ, ◌≤◌, List, [], ◌∷◌, refl, sym, ap, ◌∙◌, subst, arith}
use Rattle.std.specs.List.{AllByRecursion}
use Rattle.mb_pfu.specs.Tree.{Tree}
use Rattle.pt_image.specs.declared.Parts.{Parts}
use Rattle.mb_isa.specs.Cells.{Cells, machine, outputs_of}
use Rattle.mb_isa.specs.Run.{seen, after_tick, ticks_from, run_of}
use Rattle.pc_meaning.specs.Values.{set_all}
use Rattle.pc_meaning.specs.Runs.{words_at}
use Rattle.pc_lower.specs.Flow.{State, Temps, End, Through, Halted, Flow, Position, Waits, Point, point_of, goes, sampled, moved}
use Rattle.pc_lower.specs.Laid.{Placing}
use Rattle.pc_lower.specs.StepCounts.{Sizes}
use Rattle.pc_lower.specs.Law.{unnested, unit_at}
use Rattle.pc_lower.specs.Words.{Writing}
use Rattle.pc_lower.specs.Image.{IsImageOf, StandsAt}
use Rattle.pc_lower.specs.Limits.{IsWithinLimits}
use Rattle.pc_lower.specs.Runs.{SameEnd, IsSteady, IsRow, RunLaws, AreTicksOf, beginning}
use Rattle.pc_lower.proofs.Image.{ticks-as-flow}
use Rattle.pc_lower.proofs.Limits.{limited}

same-place : (o q : End) → SameEnd o q → (point_of o).position ≡ (point_of q).position
same-place (Through w) (Through v) h = refl
same-place (Through w) (Halted r v) h = absurd h
same-place (Halted r w) (Through v) h = absurd h
same-place (Halted r w) (Halted s v) h = ap Waits h.0

same-store : (o q : End) → SameEnd o q → (point_of o).state.store ≡ (point_of q).state.store
same-store (Through w) (Through v) h = h
same-store (Through w) (Halted r v) h = absurd h
same-store (Halted r w) (Through v) h = absurd h
same-store (Halted r w) (Halted s v) h = h.1

module _ (parent : ℕ → ℕ) (image : Parts) (costs : List ℕ) (f : Flow) (writing : Writing) (sizes : Sizes) (placing : Placing) (whole : IsImageOf parent image costs f writing sizes placing) (small : IsWithinLimits image f writing sizes)
    (Represents : Cells → State → Type 0) (laws : RunLaws image f writing Represents) (Kept : Position → Type 0) (steady : IsSteady f Kept) (most : ℕ) (ample : 1000000000000 ≤ most) where
  ticks-run : (rows : List (List ℤ)) → AllByRecursion IsRow rows → (p : Point) (m : State) (tree : Tree) (d : Cells) → Kept p.position → m.store ≡ p.state.store → StandsAt parent image f p.position tree → Represents d m →
      AreTicksOf parent image f p rows (ticks_from image costs most (record { unit = unit_at image unnested tree; cells = d }) rows)
  ticks-run [] fit p m tree d kept same stands rep = refl
  ticks-run (row ∷ rows) fit p m tree d kept same stands rep =
      let t = ticks-as-flow parent image costs f writing sizes placing whole (machine image row) Represents row (laws.data_laws row fit.0) p.position m tree d stands rep in
      let o = goes f p.position m (sampled f row t.begins) in
      let theirs = goes f p.position p.state (sampled f row p.state) in
      let alike : SameEnd o theirs = steady.same p.position kept m p.state (sampled f row t.begins) (sampled f row p.state) same (ap (set_all f.inputs row) (t.same ∙ same)) in
      let place = same-place o theirs alike in
      let store = same-store o theirs alike in
      let limit = limited parent image costs f writing sizes placing whole small p.position tree stands in
      let standing = subst (λ x. StandsAt parent image f x t.tree) place t.stands in
      let shown : outputs_of image t.after ≡ words_at f.outputs (moved f p row).state.store = laws.shows t.after (point_of o).state t.represents ∙ ap (words_at f.outputs) store in
      let onward = ticks-run rows fit.1 (moved f p row) (point_of o).state t.tree t.after (steady.keeps p.position kept p.state (sampled f row p.state)) store standing t.represents in
      subst (λ x. AreTicksOf parent image f p (row ∷ rows) (after_tick (λ s. ticks_from image costs most s rows) (seen image x))) (sym (t.runs most (omega (arith, limit, t.within, ample)))) (shown, omega (arith, limit, t.within), standing, onward)

  pub runs : (temps : Temps) (rows : List (List ℤ)) → AllByRecursion IsRow rows → AreTicksOf parent image f (beginning f temps) rows (run_of image costs most rows)
  runs temps rows fit = ticks-run rows fit (beginning f temps) (record { store = f.declared; temps = laws.temps }) _ _ steady.fresh refl refl laws.begins
