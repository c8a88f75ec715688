-- What is left of a node does in the next instant what it means.
use Rattle.std.proofs.Common.{◌≡◌, ℕ, ◌+◌, ◌<◌, ◌≤◌, ◌++◌, ◌&&◌, ◌||◌, not, max, Bool, true, false, if◌then◌else◌, List, [], ◌∷◌, length, slice_get, Option, refl, sym, ap, ◌∙◌, subst, arith}
use Rattle.mb_isa.specs.declared.Instr.TheVariants.{Leave, End as EndWord}
use Rattle.mb_isa.specs.declared.Class.TheVariants as class
use Rattle.mb_isa.specs.Costs.{cost_of}
use Rattle.mb_pfu.specs.declared.parts.Watch.{Watch}
use Rattle.mb_pfu.specs.Tree.{Tree, Leaf, Waits, Running, Finished, has_ready, any_ready}
use Rattle.mb_pfu.specs.Contexts.{Context, plug, middle, climb}
use Rattle.pt_image.specs.declared.Parts.{Parts}
use Rattle.mb_isa.specs.Control.{Control}
use Rattle.mb_isa.specs.Step.{Rules}
use Rattle.pc_lower.specs.declared.nodes.Step.{Step}
use Rattle.pc_lower.specs.declared.nodes.Test.{Test}
use Rattle.pc_lower.specs.Flow.{Node, Nodes, turns, no_nodes, and, Rest, Rests, ahead, within, group, End, Through, Halted, then_do, fired_or_in_guard, all_over, Flows, go_all, again, agains, State as FlowState}
use Rattle.pc_lower.specs.Residuals.{body_at, Of, OfAll, OfThreads, of_list, of_first, of_second, of_turns, of_pause, of_guard, of_fork, of_last, of_head, of_tail, of_nobody, of_over, of_going}
use Rattle.pc_lower.specs.Slots.{AreChildren, Fits, FitsGroup, IsGood, Runs}
use Rattle.pc_lower.specs.Places.{place_in, line_in, fork_place, first_child, line, slot_start, watch, Has}
use Rattle.pc_lower.specs.Standing.{cut, woken, woken_all}
use Rattle.pc_lower.specs.Laid.{Placing, Laid, LaidAll}
use Rattle.pc_lower.specs.StepCounts.{Sizes, option_words, through_all, reach, reach_all, done_in, rest_in, done_in_all, rest_in_all, all_in}
use Rattle.pc_lower.specs.Law.{unnested, placed, turning, Meets, ThreadMeets, Resumes, Room, RoomAll, Laws, IsPart}
use Rattle.pc_lower.proofs.StepFacts.{finish-step}
use Rattle.pc_lower.proofs.Calling.{first-is}
use Rattle.pc_lower.proofs.Paths.{more, after_step, go_on_to, at_once, same_target, halts_more, meets_more, meets_then, meets_jump}
use Rattle.pc_lower.proofs.Groups.{Lawful, rested-caught, restale}
use Rattle.pc_lower.proofs.RegionGoing.{numbers-snoc, meets_leave, meets_jobs, goes_all}

module _ (parent : ℕ → ℕ) (image : Parts) (costs : List ℕ) {Data : Type 0} (rules : Rules Data) (Represents : Data → FlowState → Type 0) where
  -- a node under an abort that was there when the tick began
  meets_within : (context : Context) (good : IsGood parent context) (e : List Watch) (j mid to : ℕ) (w f : Bool) (t : Tree) (d : Data) (state : FlowState) (u v : ℕ) (o : End) → Represents d state → Has image mid Leave → (line image j).handler ≡ to → mid + 1 ≡ to →
      Meets parent image costs rules Represents unnested context (e ++ watch image j true (w && f) ∷ []) mid (turning image (plug context t)) d u v o →
      Meets parent image costs rules Represents unnested context e to (turning image (plug context (cut (not w && f) (Leaf e (Running (line image j).handler)) t))) d (max (u + 1) v) v (if not w && f then Through state else fired_or_in_guard f j o)
  meets_within context good e j mid to false true t d state u v o rep has handler end h =
      same_target image costs rules Represents _ d _ _ state (max (u + 1) v) (λ q. ap (placed image unnested context e q) handler) (
      restale parent image costs rules Represents context e (line image j).handler good _ d state (max (u + 1) v) (at_once image costs rules Represents _ d state (max (u + 1) v) _ 0 refl rep)
      )
  meets_within context good e j mid to true true t d state u v (Through later) rep has handler end h =
      more image costs rules Represents _ d _ later (u + 1) (max (u + 1) v) (omega arith) (meets_leave parent image costs rules Represents context good e (watch image j true true) mid to _ d later u has end h)
  meets_within context good e j mid to true true t d state u v (Halted r later) rep has handler end h =
      more image costs rules Represents _ d _ later v (max (u + 1) v) (omega arith) (
      same_target image costs rules Represents _ d _ _ later v (λ q. ap (placed image unnested context e q) handler) (
      restale parent image costs rules Represents context e (line image j).handler good _ d later v (
      same_target image costs rules Represents _ d _ _ later v (λ q. ap (turning image) (rested-caught image r context e (watch image j true true) h.tree refl h.stands)) h.comes
      )
      )
      )
  meets_within context good e j mid to true false t d state u v (Through later) rep has handler end h =
      more image costs rules Represents _ d _ later (u + 1) (max (u + 1) v) (omega arith) (meets_leave parent image costs rules Represents context good e (watch image j true false) mid to _ d later u has end h)
  meets_within context good e j mid to true false t d state u v (Halted r later) rep has handler end h = record { tree = h.tree; stands = (true, h.stands); fits = h.fits; comes = h.comes }
  meets_within context good e j mid to false false t d state u v (Through later) rep has handler end h =
      more image costs rules Represents _ d _ later (u + 1) (max (u + 1) v) (omega arith) (meets_leave parent image costs rules Represents context good e (watch image j true false) mid to _ d later u has end h)
  meets_within context good e j mid to false false t d state u v (Halted r later) rep has handler end h = record { tree = h.tree; stands = (true, h.stands); fits = h.fits; comes = h.comes }

  -- a thread's last word
  pub ends_thread : (context : Context) (good : IsGood parent context) (stop : ℕ) (c : Control) (d : Data) (u v : ℕ) (o : End) → Has image stop EndWord →
      Meets parent image costs rules Represents unnested context [] stop c d u v o → ThreadMeets parent image costs rules Represents context c d (max (u + 1) v) o
  ends_thread context good stop c d u v (Through state) has h =
      go_on_to image costs rules Represents c d _ _ state state u 1 (max (u + 1) v) (omega arith) h (
      λ q x rep. after_step image costs rules Represents _ (turning image (climb context (Leaf [] Finished))) x x (cost_of costs class.End) _ state 0 1 (finish-step image costs rules parent context good [] q x stop refl has) (omega arith) (
      at_once image costs rules Represents _ x state 0 _ 0 refl rep
      )
      )
  ends_thread context good stop c d u v (Halted r state) has h = halts_more parent image costs rules Represents c d context [] r state v (max (u + 1) v) (omega arith) h

  pub ends_more : (context : Context) (c : Control) (d : Data) (u v : ℕ) (o : End) → u ≤ v → ThreadMeets parent image costs rules Represents context c d u o → ThreadMeets parent image costs rules Represents context c d v o
  ends_more context c d u v (Through state) le h = more image costs rules Represents c d _ state u v le h
  ends_more context c d u v (Halted r state) le h = halts_more parent image costs rules Represents c d context [] r state u v le h

module _ (image : Parts) (bodies : List Node) (fires : ℕ → Bool) where
  cut-busy : (b : Bool) (t u : Tree) → has_ready t ≡ true → has_ready u ≡ true → has_ready (cut b t u) ≡ true
  cut-busy true t u p q = p
  cut-busy false t u p q = q

  -- a residual that was woken has a ready slot
  mutual
    pub busy : (n : Node) (r : Rest) → Of bodies n r → (e : List Watch) → has_ready (woken image fires e r) ≡ true
    busy n r (of_list {nodes = nodes} {r = q} o) e = busy_all nodes q o e
    busy n r (of_first {a = a} {r = q} o) e = busy a q o e
    busy n r (of_second {b = b} {r = q} o) e = busy b q o e
    busy n r (of_turns {body = body} {r = q} o) e = busy body q o e
    busy n r (of_pause {i = i}) e = refl
    busy n r (of_fork {fs = fs} {rs = rs} o some) e = busy_threads fs rs o some
    busy n r (of_guard {j = j} {body = body} {r = q} o) e =
        let e' = e ++ watch image j true ((line image j).weak && fires j) ∷ [] in
        cut-busy (not ((line image j).weak) && fires j) (Leaf e (Running (line image j).handler)) (woken image fires e' q) refl (busy body q o e')

    pub busy_all : (nodes : Nodes) (r : Rest) → OfAll bodies nodes r → (e : List Watch) → has_ready (woken image fires e r) ≡ true
    busy_all nodes r (of_last {n = n} {r = q} o) e = busy n q o e
    busy_all nodes r (of_head {n = n} {r = q} o) e = busy n q o e
    busy_all nodes r (of_tail {nodes = more} {r = q} o) e = busy_all more q o e

    pub busy_threads : (fs : List ℕ) (rs : Rests) → OfThreads bodies fs rs → all_over rs ≡ false → any_ready (woken_all image fires rs) ≡ true
    busy_threads fs rs of_nobody some = cc
    busy_threads fs rs (of_over {fs = gs} {rs = rest} o) some = busy_threads gs rest o some
    busy_threads fs rs (of_going {f = f} {r = q} {rs = rest} o p) some = ap (λ b. b || any_ready (woken_all image fires rest)) (busy (body_at bodies f) q o [])

module _ (parent : ℕ → ℕ) (image : Parts) (costs : List ℕ) {Data : Type 0} (rules : Rules Data) (Represents : Data → FlowState → Type 0) (known : Flows) (weak : ℕ → Bool) (sizes : Sizes)
    (HasSteps : List Step → ℕ → ℕ → Type 0) (HasTest : Test → ℕ → ℕ → ℕ → Type 0) (placing : Placing) (laws : Laws image costs rules Represents sizes HasSteps HasTest)
    (bodies : List Node) (parts : (c f : ℕ) → c < length image.slots → placing.thread c ≡ f → IsPart parent image costs rules Represents known weak sizes HasSteps HasTest placing (body_at bodies f) c) (fires : ℕ → Bool) where
  -- its slots stand where they belong
  cut-fit : (b : Bool) (s : ℕ) (e : List Watch) (p : ℕ) (u : Tree) → Fits parent s u → Fits parent s (cut b (Leaf e (Running p)) u)
  cut-fit true s e p u h = tt
  cut-fit false s e p u h = h

  mutual
    pub fits : (n : Node) (r : Rest) → Of bodies n r → (s : ℕ) (a : List ℕ) (from to : ℕ) → Laid parent image known weak HasSteps HasTest placing s n a from to → (e : List Watch) → Fits parent s (woken image fires e r)
    fits n r (of_list {nodes = nodes} {r = q} o) s a from to laid e = fits_all nodes q o s a from to laid e
    fits n r (of_first {a = x} {r = q} o) s a from to laid e = fits x q o s a laid.0 laid.1 laid.4 e
    fits n r (of_second {b = y} {r = q} o) s a from to laid e = fits y q o s a laid.2 to laid.6 e
    fits n r (of_turns {body = body} {r = q} o) s a from to laid e = fits body q o s a laid.0 laid.1 laid.3 e
    fits n r (of_pause {i = i}) s a from to laid e = tt
    fits n r (of_fork {i = i} {fs = fs} {rs = rs} o some) s a from to laid e =
        let lowest : first_child image i ≡ laid.0 = first-is image i from s laid.0 (length fs) a laid.2 laid.1 in
        subst (λ k. FitsGroup parent s k (woken_all image fires rs)) (sym lowest) (fits_threads fs rs o s laid.0 laid.4.1 laid.4.2 laid.4.3)
    fits n r (of_guard {j = j} {body = body} {r = q} o) s a from to laid e =
        let e' = e ++ watch image j true ((line image j).weak && fires j) ∷ [] in
        cut-fit (not ((line image j).weak) && fires j) s e (line image j).handler (woken image fires e' q) (fits body q o s (a ++ j ∷ []) (from + 1) laid.0 laid.2 e')

    fits_all : (nodes : Nodes) (r : Rest) → OfAll bodies nodes r → (s : ℕ) (a : List ℕ) (from to : ℕ) → LaidAll parent image known weak HasSteps HasTest placing s nodes a from to → (e : List Watch) → Fits parent s (woken image fires e r)
    fits_all nodes r (of_last {n = n} {r = q} o) s a from to laid e = fits n q o s a from laid.0 laid.1 e
    fits_all nodes r (of_head {n = n} {r = q} o) s a from to laid e = fits n q o s a from laid.0 laid.1 e
    fits_all nodes r (of_tail {nodes = rest} {r = q} o) s a from to laid e = fits_all rest q o s a laid.0 to laid.2 e

    pub fits_threads : (fs : List ℕ) (rs : Rests) → OfThreads bodies fs rs → (s c : ℕ) → c + length fs ≤ length image.slots → AreChildren parent s c (length fs) → Runs placing.thread c fs → FitsGroup parent s c (woken_all image fires rs)
    fits_threads fs rs of_nobody s c le are run = tt
    fits_threads fs rs (of_over {fs = gs} {rs = rest} o) s c le are run = (are.0, tt, fits_threads gs rest o s (c + 1) (omega arith) are.1 run.1)
    fits_threads fs rs (of_going {f = f} {fs = gs} {r = q} {rs = rest} o os) s c le are run =
        let part = parts c f (omega arith) run.0 in
        (are.0, fits (body_at bodies f) q o c [] (slot_start image c) part.stop part.laid [], fits_threads gs rest os s (c + 1) (omega arith) are.1 run.1)

  -- the body of a loop ends, and the loop begins again
  resumes_turn : (test : Option Test) (body : Node) (s : ℕ) (a : List ℕ) (from to : ℕ) (r : Rest) (u v : ℕ) → (laid : Laid parent image known weak HasSteps HasTest placing s (turns test body) a from to) → Room parent image costs rules Represents known sizes placing body unnested →
      Resumes parent image costs rules Represents known weak fires s a laid.1 r u v → Resumes parent image costs rules Represents known weak fires s a to (ahead r (and (turns test body) no_nodes)) (u + 2 + option_words sizes test) (max v (u + 2 + (option_words sizes test + reach sizes body)))
  resumes_turn test body s a from to r u v laid room h context e d state good slot at_a rep =
      let nodes = and (turns test body) no_nodes in
      meets_more parent image costs rules Represents unnested context e to _ d (u + 2 + through_all sizes nodes) (max v (u + 2 + reach_all sizes nodes)) (u + 2 + option_words sizes test) (max v (u + 2 + (option_words sizes test + reach sizes body))) (then_do (again known weak fires r state) nodes (go_all known nodes)) (omega arith) (omega arith) (
      meets_then parent image costs rules Represents unnested context e from to _ d (u + 2) v (through_all sizes nodes) (reach_all sizes nodes) nodes (again known weak fires r state) (go_all known nodes)
      (meets_jump parent image costs rules Represents unnested context e laid.1 to from _ d u v (again known weak fires r state) laid.4 (h context e d state good slot at_a rep)) (
      λ q x st rep1. goes_all parent image costs rules Represents known weak sizes HasSteps HasTest placing laws nodes s a unnested from to (to, laid, refl) (room, tt) context e q x st good slot at_a rep1
      )
      )

  mutual
    pub resumes : (n : Node) (r : Rest) (o : Of bodies n r) (s : ℕ) (a : List ℕ) (from to : ℕ) → Laid parent image known weak HasSteps HasTest placing s n a from to → Room parent image costs rules Represents known sizes placing n unnested →
        Resumes parent image costs rules Represents known weak fires s a to r (done_in sizes bodies n r o) (rest_in sizes bodies n r o)
    resumes n r (of_list {nodes = nodes} {r = q} o) s a from to laid room = resumes_all nodes q o s a from to laid room
    resumes n r (of_first {a = x} {r = q} o) s a from to laid room = λ context e d state good slot at_a rep.
        meets_jump parent image costs rules Represents unnested context e laid.1 laid.2 to _ d (done_in sizes bodies x q o) (rest_in sizes bodies x q o) (again known weak fires q state) laid.5 (resumes x q o s a laid.0 laid.1 laid.4 room.0 context e d state good slot at_a rep)
    resumes n r (of_second {b = y} {r = q} o) s a from to laid room = resumes y q o s a laid.2 to laid.6 room.1
    resumes n r (of_turns {test = test} {body = body} {r = q} o) s a from to laid room =
        resumes_turn test body s a from to q (done_in sizes bodies body q o) (rest_in sizes bodies body q o) laid room (resumes body q o s a laid.0 laid.1 laid.3 room)
    resumes n r (of_pause {i = i}) s a from to laid room = λ context e d state good slot at_a rep.
        let p : place_in (slice_get image.pauses i) + 1 ≡ to = ap (λ x. place_in x + 1) laid.1 ∙ laid.2 in
        same_target image costs rules Represents _ d _ _ state 0 (λ q. ap (placed image unnested context e q) p) (
        restale parent image costs rules Represents context e (place_in (slice_get image.pauses i) + 1) good _ d state 0 (at_once image costs rules Represents _ d state 0 _ 0 refl rep)
        )
    resumes n r (of_fork {i = i} {fs = fs} {rs = rs} o some) s a from to laid room = λ context e d state good slot at_a rep.
        let lo = laid.0 in
        let lowest : first_child image i ≡ lo = first-is image i from s lo (length fs) a laid.2 laid.1 in
        let u = all_in sizes bodies fs rs o in
        let end = again known weak fires (group i rs) state in
        let here : fork_place image i ≡ from = ap place_in laid.2 in
        let fit : FitsGroup parent (middle context) lo (woken_all image fires rs) = subst (λ x. FitsGroup parent x lo (woken_all image fires rs)) (sym slot) (fits_threads fs rs o s lo laid.4.1 laid.4.2 laid.4.3) in
        subst (λ p. Meets parent image costs rules Represents unnested context e to (turning image (plug context (Waits e p (first_child image i) (woken_all image fires rs)))) d u u end) (sym here) (
        subst (λ k. Meets parent image costs rules Represents unnested context e to (turning image (plug context (Waits e from k (woken_all image fires rs)))) d u u end) (sym lowest) (
        meets_jobs parent image costs rules Represents context good e i lo from to (agains known weak fires rs) (woken_all image fires rs) u d state here lowest laid.3
        (resumes_threads fs rs o lo laid.4.1 laid.4.3) (busy_threads image bodies fires fs rs o some) fit rep
        )
        )
    resumes n r (of_guard {j = j} {body = body} {r = q} o) s a from to laid room = λ context e d state good slot at_a rep.
        let handler : (line image j).handler ≡ to = ap (λ x. (line_in x).handler) laid.4.1 in
        let strength : (line image j).weak ≡ weak j = ap (λ x. (line_in x).weak) laid.4.1 in
        let w = watch image j true ((line image j).weak && fires j) in
        let u = done_in sizes bodies body q o in
        let v = rest_in sizes bodies body q o in
        let end = again known weak fires q state in
        subst (λ b. Meets parent image costs rules Represents unnested context e to (turning image (plug context (woken image fires e (within j q)))) d (max (u + 1) v) v (if not b && fires j then Through state else fired_or_in_guard (fires j) j end)) strength (
        meets_within parent image costs rules Represents context good e j laid.0 to (line image j).weak (fires j) _ d state u v end rep laid.3 handler laid.5 (
        resumes body q o s (a ++ j ∷ []) (from + 1) laid.0 laid.2 room.1 context (e ++ w ∷ []) d state good slot (numbers-snoc e w ∙ ap (λ x. x ++ j ∷ []) at_a) rep
        )
        )

    pub resumes_all : (nodes : Nodes) (r : Rest) (o : OfAll bodies nodes r) (s : ℕ) (a : List ℕ) (from to : ℕ) → LaidAll parent image known weak HasSteps HasTest placing s nodes a from to → RoomAll parent image costs rules Represents known sizes placing nodes unnested →
        Resumes parent image costs rules Represents known weak fires s a to r (done_in_all sizes bodies nodes r o) (rest_in_all sizes bodies nodes r o)
    resumes_all nodes r (of_last {n = n} {r = q} o) s a from to laid room = λ context e d state good slot at_a rep.
        subst (λ x. Meets parent image costs rules Represents unnested context e x (turning image (plug context (woken image fires e q))) d (done_in sizes bodies n q o) (rest_in sizes bodies n q o) (again known weak fires q state)) laid.2 (
        resumes n q o s a from laid.0 laid.1 room.0 context e d state good slot at_a rep
        )
    resumes_all nodes r (of_head {n = n} {m = x} {nodes = rest} {r = q} o) s a from to laid room = λ context e d state good slot at_a rep.
        meets_then parent image costs rules Represents unnested context e laid.0 to _ d (done_in sizes bodies n q o) (rest_in sizes bodies n q o) (through_all sizes (and x rest)) (reach_all sizes (and x rest)) (and x rest) (again known weak fires q state) (go_all known (and x rest))
        (resumes n q o s a from laid.0 laid.1 room.0 context e d state good slot at_a rep) (
        λ q1 d1 st rep1. goes_all parent image costs rules Represents known weak sizes HasSteps HasTest placing laws (and x rest) s a unnested laid.0 to laid.2 room.1 context e q1 d1 st good slot at_a rep1
        )
    resumes_all nodes r (of_tail {nodes = rest} {r = q} o) s a from to laid room = resumes_all rest q o s a laid.0 to laid.2 room.1

    pub resumes_threads : (fs : List ℕ) (rs : Rests) (o : OfThreads bodies fs rs) (c : ℕ) → c + length fs ≤ length image.slots → Runs placing.thread c fs → Lawful parent image costs rules Represents c (agains known weak fires rs) (woken_all image fires rs) (all_in sizes bodies fs rs o)
    resumes_threads fs rs of_nobody c le run = tt
    resumes_threads fs rs (of_over {fs = gs} {rs = rest} o) c le run = (refl, resumes_threads gs rest o (c + 1) (omega arith) run.1)
    resumes_threads fs rs (of_going {f = f} {fs = gs} {r = q} {rs = rest} o os) c le run =
        let part = parts c f (omega arith) run.0 in
        let u = done_in sizes bodies (body_at bodies f) q o in
        let v = rest_in sizes bodies (body_at bodies f) q o in (
          busy image bodies fires (body_at bodies f) q o [],
          (
            max (u + 1) v,
            all_in sizes bodies gs rest os,
            omega arith,
            λ context d state good slot rep. ends_thread parent image costs rules Represents context good part.stop _ d u v (again known weak fires q state) part.stops (
                resumes (body_at bodies f) q o c [] (slot_start image c) part.stop part.laid part.room context [] d state good slot refl rep
                ),
            resumes_threads gs rest os (c + 1) (omega arith) run.1,
          ),
        )
