-- Functions that call and start earlier ones alone mean what their nodes do.
use Rattle.std.proofs.Common.{◌≡◌, ◌⊎◌, ℕ, zero, suc, ◌+◌, ◌<◌, ◌≤◌, ◌++◌, inl, inr, ⊎_elim, if◌then◌else◌, List, [], ◌∷◌, length, length-append, append_assoc, Option, Some, None, refl, sym, ap, ◌∙◌, subst, arith}
use Rattle.std.specs.Prelude.{unwrap_or}
use Rattle.std.specs.List.{AllByRecursion}
use Rattle.std.proofs.lemmas.Option.{slice_get_past}
use Rattle.pc_meaning.proofs.Lookups.{slice_get_front, slice_get_middle}
use Rattle.pc_lower.specs.declared.nodes.Test.{Test}
use Rattle.pc_lower.specs.Flow.{State, tested, decides, Node, Nodes, straight, sequence, branch, turns, bounded, call, pause, fork, guard, no_nodes, and, End, Through, Halted, state_of, then_do, in_guard, work, settle, looping, Flows, flow_at, begins, go, go_all, flows_from, flows_of}
use Rattle.pc_lower.specs.Residuals.{body_at}
use Rattle.pc_lower.specs.Program.{IsEarlier, AreEarlier, InOrder}

append-none : (xs : List Node) → xs ++ [] ≡ xs
append-none [] = refl
append-none (x ∷ xs) = ap (λ l. x ∷ l) (append-none xs)

below-or-last : (f n : ℕ) → f < n + 1 → (f < n) ⊎ (f ≡ n)
below-or-last zero zero lt = inr refl
below-or-last zero (suc n) lt = inl (omega arith)
below-or-last (suc f) zero lt = absurd (omega arith)
below-or-last (suc f) (suc n) lt = ⊎_elim (λ l. inl (omega (arith, l))) (λ e. inr (ap suc e)) (below-or-last f n (omega arith))

pub below-or-past : (f n : ℕ) → (f < n) ⊎ (n ≤ f)
below-or-past f zero = inr (omega arith)
below-or-past zero (suc n) = inl (omega arith)
below-or-past (suc f) (suc n) = ⊎_elim (λ l. inl (omega (arith, l))) (λ l. inr (omega (arith, l))) (below-or-past f n)

-- ---- the same flows below a number, the same meaning

then_same : (o : End) (nodes : Nodes) (f g : State → End) → ((w : State) → f w ≡ g w) → then_do o nodes f ≡ then_do o nodes g
then_same (Through w) nodes f g h = h w
then_same (Halted r w) nodes f g h = refl

looping_same : (n : ℕ) (test : Option Test) (f g : State → End) → ((w : State) → f w ≡ g w) → (w : State) → looping n test f w ≡ looping n test g w
looping_same zero test f g h w = refl
looping_same (suc n) None f g h w = ap (λ o. looping n None f (state_of o)) (h w) ∙ looping_same n None f g h (state_of (g w))
looping_same (suc n) (Some t) f g h w =
    ap (λ x. if decides t w then x else tested t w) (
    ap (λ o. looping n (Some t) f (state_of o)) (h (tested t w)) ∙ looping_same n (Some t) f g h (state_of (g (tested t w)))
    )

module _ (known other : Flows) (below : ℕ) (agree : (f : ℕ) → f < below → flow_at known f ≡ flow_at other f) where
  begins_same : (fs : List ℕ) → AllByRecursion (λ f. f < below) fs → begins known fs ≡ begins other fs
  begins_same [] lt = refl
  begins_same (f ∷ fs) lt = ap (λ g. Some g ∷ begins known fs) (agree f lt.0) ∙ ap (λ l. Some (flow_at other f) ∷ l) (begins_same fs lt.1)

  mutual
    go_same : (n : Node) → IsEarlier below n → (w : State) → go known n w ≡ go other n w
    go_same (straight steps) early w = refl
    go_same (sequence nodes) early w = go_all_same nodes early w
    go_same (branch test a b) early w =
        ap (λ x. if decides test w then x else go known b (tested test w)) (go_same a early.0 (tested test w))
        ∙ ap (λ x. if decides test w then go other a (tested test w) else x) (go_same b early.1 (tested test w))
    go_same (turns None body) early w = ap (λ o. then_do o (and (turns None body) no_nodes) Through) (go_same body early w)
    go_same (turns (Some test) body) early w =
        ap (λ o. if decides test w then then_do o (and (turns (Some test) body) no_nodes) Through else Through (tested test w)) (go_same body early (tested test w))
    go_same (bounded n test body) early w = ap Through (looping_same n test (go known body) (go other body) (go_same body early) w)
    go_same (call f) early w = ap (λ (g : State → End). Through (state_of (g w))) (agree f early)
    go_same (pause i) early w = refl
    go_same (fork i fs) early w = ap (λ jobs. settle i (work jobs w)) (begins_same fs early)
    go_same (guard j body) early w = ap (in_guard j) (go_same body early w)

    go_all_same : (nodes : Nodes) → AreEarlier below nodes → (w : State) → go_all known nodes w ≡ go_all other nodes w
    go_all_same no_nodes early w = refl
    go_all_same (and n nodes) early w =
        ap (λ o. then_do o nodes (go_all known nodes)) (go_same n early.0 w)
        ∙ then_same (go other n w) nodes (go_all known nodes) (go_all other nodes) (go_all_same nodes early.1)

-- ---- a list of functions

earlier_from : (rest : List Node) (n k : ℕ) → InOrder n rest → IsEarlier (n + k) (body_at rest k)
earlier_from [] n k order = tt
earlier_from (x ∷ rest) n zero order = let e : n ≡ n + 0 = omega arith in subst (λ i. IsEarlier i x) e order.0
earlier_from (x ∷ rest) n (suc k) order = let e : n + 1 + k ≡ n + suc k = omega arith in subst (λ i. IsEarlier i (body_at rest k)) e (earlier_from rest (n + 1) k order.1)

pub earlier : (bodies : List Node) → InOrder 0 bodies → (f : ℕ) → IsEarlier f (body_at bodies f)
earlier bodies order f = let e : 0 + f ≡ f = omega arith in subst (λ i. IsEarlier i (body_at bodies f)) e (earlier_from bodies 0 f order)

module _ (bodies : List Node) (order : InOrder 0 bodies) where
  -- each of the flows so far is what its node does
  abbrev Meant : Flows → Type 0
  Meant known = (f : ℕ) → f < length known → (w : State) → flow_at known f w ≡ go known (body_at bodies f) w

  front-same : (known : Flows) (g : State → End) (f : ℕ) → f < length known → flow_at known f ≡ flow_at (known ++ g ∷ []) f
  front-same known g f lt = ap (λ o. unwrap_or o Through) (sym (slice_get_front known (g ∷ []) f lt))

  last-is : (known : Flows) (g : State → End) (f : ℕ) → f ≡ length known → flow_at (known ++ g ∷ []) f ≡ g
  last-is known g f is = ap (flow_at (known ++ g ∷ [])) is ∙ ap (λ o. unwrap_or o Through) (slice_get_middle known g [])

  grown : (known : Flows) (n : Node) → body_at bodies (length known) ≡ n → Meant known → Meant (known ++ go known n ∷ [])
  grown known n here meant f lt w =
      let long = length-append known (go known n ∷ []) in
      by f w (below-or-last f (length known) (omega (arith, lt, long)))
    where
      longer : Flows
      longer = known ++ go known n ∷ []

      same : (f : ℕ) → f ≤ length known → (w : State) → go known (body_at bodies f) w ≡ go longer (body_at bodies f) w
      same f le w = go_same known longer f (λ g lt. front-same known (go known n) g (omega (arith, lt, le))) (body_at bodies f) (earlier bodies order f) w

      by : (f : ℕ) (w : State) → (f < length known) ⊎ (f ≡ length known) → flow_at longer f w ≡ go longer (body_at bodies f) w
      by f w (inl lt) = ap (λ (g : State → End). g w) (sym (front-same known (go known n) f lt)) ∙ meant f lt w ∙ same f (omega (arith, lt)) w
      by f w (inr is) =
          ap (λ (g : State → End). g w) (last-is known (go known n) f is)
          ∙ ap (λ m. go known m w) (sym here ∙ ap (body_at bodies) (sym is)) ∙ same f (omega (arith, is)) w

  record Whole (known : Flows) : Type 0 where
    meant : Meant known
    long : length known ≡ length bodies

  flows_mean : (rest front : List Node) (known : Flows) → front ++ rest ≡ bodies → length known ≡ length front → Meant known → Whole (flows_from known rest)
  flows_mean [] front known whole long meant =
      let n : length front ≡ length bodies = sym (ap length (append-none front)) ∙ ap length whole in
      record { meant = meant; long = long ∙ n }
  flows_mean (n ∷ rest) front known whole long meant =
      let here : body_at bodies (length known) ≡ n = ap (λ l. body_at l (length known)) (sym whole) ∙ ap (body_at (front ++ n ∷ rest)) long ∙ ap (λ o. unwrap_or o (sequence no_nodes)) (slice_get_middle front n rest) in
      let a = length-append known (go known n ∷ []) in
      let b = length-append front (n ∷ []) in
      flows_mean rest (front ++ n ∷ []) (known ++ go known n ∷ []) (append_assoc front (n ∷ []) rest ∙ whole) (omega (arith, a, b, long)) (grown known n here meant)

  all-mean : Whole (flows_of bodies)
  all-mean = flows_mean bodies [] [] refl refl (λ f lt w. absurd (omega arith))

  -- the flow of a function is what its node does
  pub means : (f : ℕ) (w : State) → flow_at (flows_of bodies) f w ≡ go (flows_of bodies) (body_at bodies f) w
  means f w =
      ⊎_elim (λ lt. all-mean.meant f (omega (arith, lt, all-mean.long)) w)
      (λ past.
      ap (λ (o : Option (State → End)). unwrap_or o Through w) (slice_get_past (flows_of bodies) f (omega (arith, past, all-mean.long)))
      ∙ ap (λ (o : Option Node). go (flows_of bodies) (unwrap_or o (sequence no_nodes)) w) (sym (slice_get_past bodies f past))
      )
      (below-or-past f (length bodies))
