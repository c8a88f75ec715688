-- What a node leaves is a residual of it.
use Rattle.std.proofs.Common.{◌≡◌, ℕ, Bool, true, false, not, ◌&&◌, List, [], ◌∷◌, ◌++◌, length, Some, None, refl, sym, ap, ◌∙◌, subst, arith, append_assoc, length-append}
use Rattle.std.specs.Prelude.{if◌then◌else◌, unwrap_or}
use Rattle.pc_lower.specs.Flow.{tested, decides, Node, Nodes, straight, sequence, branch, turns, bounded, call, pause, fork, guard, no_nodes, and, Rest, Rests, within, group, all_over, State, End, Through, Halted, later, then_do, in_guard, fired_or_in_guard, Group, and_group, work, settle, Flows, flow_at, begins, go, go_all, again, agains, flows_from, flows_of}
use Rattle.pc_lower.specs.Residuals.{body_at, Of, OfAll, OfThreads, of_list, of_first, of_second, of_turns, of_pause, of_guard, of_fork, of_last, of_head, of_tail, of_nobody, of_over, of_going, LeavesSo}
use Rattle.pc_meaning.proofs.Lookups.{slice_get_middle, both_grow_all}

leaves_if : (P : Rest → Type 0) (b : Bool) (x y : End) → LeavesSo P x → LeavesSo P y → LeavesSo P (if b then x else y)
leaves_if P true x y p q = p
leaves_if P false x y p q = q

leaves_then : (P Q : Rest → Type 0) (nodes : Nodes) (o : End) (next : State → End) → ((r : Rest) → P r → Q (later r nodes)) → LeavesSo P o → ((w : State) → LeavesSo Q (next w)) → LeavesSo Q (then_do o nodes next)
leaves_then P Q nodes (Through w) next f p q = q w
leaves_then P Q nodes (Halted r w) next f p q = f r p

leaves_as : (P Q : Rest → Type 0) (o : End) → ((r : Rest) → P r → Q r) → LeavesSo P o → LeavesSo Q o
leaves_as P Q (Through w) f p = tt
leaves_as P Q (Halted r w) f p = f r p

leaves_guard : (P Q : Rest → Type 0) (j : ℕ) (o : End) → ((r : Rest) → P r → Q (within j r)) → LeavesSo P o → LeavesSo Q (in_guard j o)
leaves_guard P Q j (Through w) f p = tt
leaves_guard P Q j (Halted r w) f p = f r p

leaves_fired : (P Q : Rest → Type 0) (b : Bool) (j : ℕ) (o : End) → ((r : Rest) → P r → Q (within j r)) → LeavesSo P o → LeavesSo Q (fired_or_in_guard b j o)
leaves_fired P Q true j o f p = tt
leaves_fired P Q false j o f p = leaves_guard P Q j o f p

module _ (bodies : List Node) (known : Flows) (starts : (f : ℕ) (w : State) → LeavesSo (Of bodies (body_at bodies f)) (flow_at known f w)) where
  leaves_settle : (i : ℕ) (fs : List ℕ) (g : Group) → OfThreads bodies fs g.rests → LeavesSo (Of bodies (fork i fs)) (settle i g)
  leaves_settle i fs g of = by (all_over g.rests) refl
    where
      by : (b : Bool) → all_over g.rests ≡ b → LeavesSo (Of bodies (fork i fs)) (if b then Through g.state else Halted (group i g.rests) g.state)
      by true is = tt
      by false is = of_fork of is

  group_of : (f : ℕ) (fs : List ℕ) (o : End) (next : State → Group) → LeavesSo (Of bodies (body_at bodies f)) o → ((w : State) → OfThreads bodies fs (next w).rests) → OfThreads bodies (f ∷ fs) (and_group o next).rests
  group_of f fs (Through w) next p q = of_over (q w)
  group_of f fs (Halted r w) next p q = of_going p (q w)

  begins_of : (fs : List ℕ) (w : State) → OfThreads bodies fs (work (begins known fs) w).rests
  begins_of [] w = of_nobody
  begins_of (f ∷ fs) w = group_of f fs (flow_at known f w) (work (begins known fs)) (starts f w) (begins_of fs)

  all_as : (n : Node) (nodes : Nodes) (r : Rest) → Of bodies n r → OfAll bodies (and n nodes) (later r nodes)
  all_as n no_nodes r o = of_last o
  all_as n (and m nodes) r o = of_head o

  mutual
    pub go_of : (n : Node) (w : State) → LeavesSo (Of bodies n) (go known n w)
    go_of (straight steps) w = tt
    go_of (sequence nodes) w = leaves_as (OfAll bodies nodes) (Of bodies (sequence nodes)) (go_all known nodes w) (λ r x. of_list x) (go_all_of nodes w)
    go_of (branch test a b) w =
        leaves_if (Of bodies (branch test a b)) (decides test w) (go known a (tested test w)) (go known b (tested test w))
        (leaves_as (Of bodies a) (Of bodies (branch test a b)) (go known a (tested test w)) (λ r x. of_first x) (go_of a (tested test w)))
        (leaves_as (Of bodies b) (Of bodies (branch test a b)) (go known b (tested test w)) (λ r x. of_second x) (go_of b (tested test w)))
    go_of (turns None body) w = leaves_then (Of bodies body) (Of bodies (turns None body)) (and (turns None body) no_nodes) (go known body w) Through (λ r x. of_turns x) (go_of body w) (λ v. tt)
    go_of (turns (Some test) body) w =
        leaves_if (Of bodies (turns (Some test) body)) (decides test w) (then_do (go known body (tested test w)) (and (turns (Some test) body) no_nodes) Through) (Through (tested test w))
        (leaves_then (Of bodies body) (Of bodies (turns (Some test) body)) (and (turns (Some test) body) no_nodes) (go known body (tested test w)) Through (λ r x. of_turns x) (go_of body (tested test w)) (λ v. tt)) tt
    go_of (bounded most test body) w = tt
    go_of (call f) w = tt
    go_of (pause i) w = of_pause
    go_of (fork i fs) w = leaves_settle i fs (work (begins known fs) w) (begins_of fs w)
    go_of (guard j body) w = leaves_guard (Of bodies body) (Of bodies (guard j body)) j (go known body w) (λ r x. of_guard x) (go_of body w)

    pub go_all_of : (nodes : Nodes) (w : State) → LeavesSo (OfAll bodies nodes) (go_all known nodes w)
    go_all_of no_nodes w = tt
    go_all_of (and n nodes) w =
        leaves_then (Of bodies n) (OfAll bodies (and n nodes)) nodes (go known n w) (go_all known nodes) (λ r x. all_as n nodes r x) (go_of n w)
        (λ v. leaves_as (OfAll bodies nodes) (OfAll bodies (and n nodes)) (go_all known nodes v) (λ r x. of_tail x) (go_all_of nodes v))

  module _ (weak fires : ℕ → Bool) where
    mutual
      pub again_of : (n : Node) (r : Rest) → Of bodies n r → (w : State) → LeavesSo (Of bodies n) (again known weak fires r w)
      again_of n r (of_list {nodes = nodes} {r = q} o) w = leaves_as (OfAll bodies nodes) (Of bodies (sequence nodes)) (again known weak fires q w) (λ x y. of_list y) (again_all_of nodes q o w)
      again_of n r (of_first {test = test} {a = a} {b = b} {r = q} o) w = leaves_as (Of bodies a) (Of bodies (branch test a b)) (again known weak fires q w) (λ x y. of_first y) (again_of a q o w)
      again_of n r (of_second {test = test} {a = a} {b = b} {r = q} o) w = leaves_as (Of bodies b) (Of bodies (branch test a b)) (again known weak fires q w) (λ x y. of_second y) (again_of b q o w)
      again_of n r (of_turns {test = test} {body = body} {r = q} o) w =
          leaves_then (Of bodies body) (Of bodies (turns test body)) (and (turns test body) no_nodes) (again known weak fires q w) (go_all known (and (turns test body) no_nodes)) (λ x y. of_turns y) (again_of body q o w)
          (λ v. leaves_then (Of bodies (turns test body)) (Of bodies (turns test body)) no_nodes (go known (turns test body) v) (go_all known no_nodes) (λ x y. y) (go_of (turns test body) v) (λ u. tt))
      again_of n r (of_pause {i = i}) w = tt
      again_of n r (of_guard {j = j} {body = body} {r = q} o) w =
          leaves_if (Of bodies (guard j body)) (not (weak j) && fires j) (Through w) (fired_or_in_guard (fires j) j (again known weak fires q w)) tt
          (leaves_fired (Of bodies body) (Of bodies (guard j body)) (fires j) j (again known weak fires q w) (λ x y. of_guard y) (again_of body q o w))
      again_of n r (of_fork {i = i} {fs = fs} {rs = rs} o some) w = leaves_settle i fs (work (agains known weak fires rs) w) (agains_of fs rs o w)

      pub again_all_of : (nodes : Nodes) (r : Rest) → OfAll bodies nodes r → (w : State) → LeavesSo (OfAll bodies nodes) (again known weak fires r w)
      again_all_of nodes r (of_last {n = n} {r = q} o) w = leaves_as (Of bodies n) (OfAll bodies (and n no_nodes)) (again known weak fires q w) (λ x y. of_last y) (again_of n q o w)
      again_all_of nodes r (of_head {n = n} {m = m} {nodes = more} {r = q} o) w =
          leaves_then (Of bodies n) (OfAll bodies (and n (and m more))) (and m more) (again known weak fires q w) (go_all known (and m more)) (λ x y. of_head y) (again_of n q o w)
          (λ v. leaves_as (OfAll bodies (and m more)) (OfAll bodies (and n (and m more))) (go_all known (and m more) v) (λ x y. of_tail y) (go_all_of (and m more) v))
      again_all_of nodes r (of_tail {n = n} {nodes = more} {r = q} o) w = leaves_as (OfAll bodies more) (OfAll bodies (and n more)) (again known weak fires q w) (λ x y. of_tail y) (again_all_of more q o w)

      agains_of : (fs : List ℕ) (rs : Rests) → OfThreads bodies fs rs → (w : State) → OfThreads bodies fs (work (agains known weak fires rs) w).rests
      agains_of fs rs of_nobody w = of_nobody
      agains_of fs rs (of_over {f = f} {fs = gs} {rs = more} o) w = of_over (agains_of gs more o w)
      agains_of fs rs (of_going {f = f} {fs = gs} {r = q} {rs = more} o os) w =
          group_of f gs (again known weak fires q w) (work (agains known weak fires more)) (again_of (body_at bodies f) q o w) (agains_of gs more os)

-- a whole flow
module _ (bodies : List Node) where
  flows_leave : (rest front : List Node) (known : Flows) → front ++ rest ≡ bodies → length known ≡ length front → ((f : ℕ) (w : State) → LeavesSo (Of bodies (body_at bodies f)) (flow_at known f w)) →
      (f : ℕ) (w : State) → LeavesSo (Of bodies (body_at bodies f)) (flow_at (flows_from known rest) f w)
  flows_leave [] front known whole long h = h
  flows_leave (n ∷ rest) front known whole long h =
      let here : body_at bodies (length known) ≡ n = ap (λ l. body_at l (length known)) (sym whole) ∙ ap (body_at (front ++ n ∷ rest)) long ∙ ap (λ o. unwrap_or o (sequence no_nodes)) (slice_get_middle front n rest) in
      let a = length-append known (go known n ∷ []) in
      let b = length-append front (n ∷ []) in
      flows_leave rest (front ++ n ∷ []) (known ++ go known n ∷ []) (append_assoc front (n ∷ []) rest ∙ whole) (omega (arith, a, b, long)) (
      both_grow_all (λ i x y. (w : State) → LeavesSo (Of bodies (body_at bodies i)) (y w)) Through Through known known (go known n) (go known n) refl h
      (λ w. subst (λ m. LeavesSo (Of bodies m) (go known n w)) (sym here) (go_of bodies known h n w))
      )

  pub flow_leaves : (f : ℕ) (w : State) → LeavesSo (Of bodies (body_at bodies f)) (flow_at (flows_of bodies) f w)
  flow_leaves = flows_leave bodies [] [] refl refl (λ f w. tt)

  pub flow_keeps : (weak fires : ℕ → Bool) (n : Node) (r : Rest) → Of bodies n r → (w : State) → LeavesSo (Of bodies n) (again (flows_of bodies) weak fires r w)
  flow_keeps weak fires n r o w = again_of bodies (flows_of bodies) flow_leaves weak fires n r o w
