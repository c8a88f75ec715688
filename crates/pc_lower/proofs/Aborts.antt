-- The conditions of a residual are those of aborts that the image has.
use Rattle.std.proofs.Common.{◌≡◌, ℕ, ◌+◌, ◌<◌, ◌≤◌, ◌++◌, ◌&&◌, not, Bool, true, false, List, [], ◌∷◌, length, arith}
use Rattle.std.proofs.lemmas.Option.{slice_get_within}
use Rattle.pt_image.specs.declared.Parts.{Parts}
use Rattle.pc_lower.specs.declared.nodes.Step.{Step}
use Rattle.pc_lower.specs.declared.nodes.Test.{Test}
use Rattle.pc_lower.specs.Flow.{Node, Nodes, Rest, Rests, Flows}
use Rattle.pc_lower.specs.Residuals.{body_at, Of, OfAll, OfThreads, of_list, of_first, of_second, of_turns, of_pause, of_guard, of_fork, of_last, of_head, of_tail, of_nobody, of_over, of_going}
use Rattle.pc_lower.specs.Slots.{Runs}
use Rattle.pc_lower.specs.Places.{line, slot_start}
use Rattle.pc_lower.specs.Laid.{Placing, Laid, LaidAll}
use Rattle.pc_lower.specs.Tests.{unless_cut, looked_at, looked_at_all, AreAborts}

aborts-append : (image : Parts) (xs ys : List ℕ) → AreAborts image xs → AreAborts image ys → AreAborts image (xs ++ ys)
aborts-append image [] ys h k = k
aborts-append image (x ∷ xs) ys h k = (h.0, aborts-append image xs ys h.1 k)

aborts-cut : (image : Parts) (b : Bool) (js : List ℕ) → AreAborts image js → AreAborts image (unless_cut b js)
aborts-cut image true js h = tt
aborts-cut image false js h = h

module _ (parent : ℕ → ℕ) (image : Parts) (known : Flows) (weak : ℕ → Bool) (HasSteps : List Step → ℕ → ℕ → Type 0) (HasTest : Test → ℕ → ℕ → ℕ → Type 0) (placing : Placing) (bodies : List Node)
    (laid_of : (c f : ℕ) → c < length image.slots → placing.thread c ≡ f → (stop : ℕ) × Laid parent image known weak HasSteps HasTest placing c (body_at bodies f) [] (slot_start image c) stop) (fires : ℕ → Bool) where
  mutual
    pub are : (n : Node) (r : Rest) → Of bodies n r → (s : ℕ) (a : List ℕ) (from to : ℕ) → Laid parent image known weak HasSteps HasTest placing s n a from to → AreAborts image (looked_at image fires r)
    are n r (of_list {nodes = nodes} {r = q} o) s a from to laid = are_all nodes q o s a from to laid
    are n r (of_first {a = x} {r = q} o) s a from to laid = are x q o s a laid.0 laid.1 laid.4
    are n r (of_second {b = y} {r = q} o) s a from to laid = are y q o s a laid.2 to laid.6
    are n r (of_turns {body = body} {r = q} o) s a from to laid = are body q o s a laid.0 laid.1 laid.3
    are n r (of_pause {i = i}) s a from to laid = tt
    are n r (of_guard {j = j} {body = body} {r = q} o) s a from to laid =
        (slice_get_within image.aborts j _ laid.4.1, aborts-cut image (not (line image j).weak && fires j) (looked_at image fires q) (are body q o s (a ++ j ∷ []) (from + 1) laid.0 laid.2))
    are n r (of_fork {fs = fs} {rs = rs} o some) s a from to laid = are_threads fs rs o laid.0 laid.4.1 laid.4.3

    are_all : (nodes : Nodes) (r : Rest) → OfAll bodies nodes r → (s : ℕ) (a : List ℕ) (from to : ℕ) → LaidAll parent image known weak HasSteps HasTest placing s nodes a from to → AreAborts image (looked_at image fires r)
    are_all nodes r (of_last {n = n} {r = q} o) s a from to laid = are n q o s a from laid.0 laid.1
    are_all nodes r (of_head {n = n} {r = q} o) s a from to laid = are n q o s a from laid.0 laid.1
    are_all nodes r (of_tail {nodes = rest} {r = q} o) s a from to laid = are_all rest q o s a laid.0 to laid.2

    are_threads : (fs : List ℕ) (rs : Rests) → OfThreads bodies fs rs → (c : ℕ) → c + length fs ≤ length image.slots → Runs placing.thread c fs → AreAborts image (looked_at_all image fires rs)
    are_threads fs rs of_nobody c le run = tt
    are_threads fs rs (of_over {fs = gs} {rs = rest} o) c le run = are_threads gs rest o (c + 1) (omega arith) run.1
    are_threads fs rs (of_going {f = f} {fs = gs} {r = q} {rs = rest} o os) c le run =
        let l = laid_of c f (omega arith) run.0 in
        aborts-append image (looked_at image fires q) (looked_at_all image fires rest) (are (body_at bodies f) q o c [] (slot_start image c) l.0 l.1) (are_threads gs rest os (c + 1) (omega arith) run.1)
