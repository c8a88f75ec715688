-- The slot that runs, and what holds of the tree in which it does.
use Rattle.std.proofs.Common.{ℤ, ◌≡◌, ◌⊎◌, ◌≤◌, ◌+◌, ℕ, List, [], ◌∷◌, Option, None, refl, sym, ap, ◌∙◌, subst, ⊎_elim, arith}
use Rattle.mb_pfu.specs.declared.parts.Watch.{Watch}
use Rattle.mb_pfu.specs.Tree.{Running, Tree, Leaf}
use Rattle.mb_pfu.specs.Contexts.{plug, IsQuietBefore}
use Rattle.tk_paths.proofs.SlotFacts.{middle}
use Rattle.tk_paths.proofs.Inner.{Image, Outcome, Goes, Traps, Stops, InTurns, stack, IsSound}
use Rattle.tk_paths.proofs.Conditions.{upper_at, IsPlain, Cert, Thread, loops_of}
use Rattle.tk_paths.specs.declared.view.Side.{Side}
use Rattle.tk_paths.proofs.Values.{old, Dom, Val, CVal, context-dom, dom-dom, plug-out}
use Rattle.tk_paths.proofs.Rights.{AreKept, IsRight, IsContextRight, plug-right}
use Rattle.tk_paths.proofs.Chains.{Turns, Owes, Chain}
use Rattle.tk_paths.proofs.Firsts.{Job, one-turn}

module _ (image : Image) (cert : Cert) where
  -- with so much charged, no number of these passes the bound
  abbrev pub Under : ℕ → (Side → ℕ → Type 0) → Type 0
  Under charged V = (side : Side) (n : ℕ) → V side n → image.base + (charged + n) ≤ cert.bound

  pub under-dom : (charged c : ℕ) (V W : Side → ℕ → Type 0) → Dom c V W → Under charged V → Under (charged + c) W
  under-dom charged c V W d u side n w =
      let r = d side n w in
      let b : image.base + (charged + r.0) ≤ cert.bound = u side r.0 r.1 in
      omega (arith, b, r.2)

  pub under-same : (charged : ℕ) (V W : Side → ℕ → Type 0) → Dom 0 V W → Under charged V → Under charged W
  under-same charged V W d u side n w =
      let r = d side n w in
      let b : image.base + (charged + r.0) ≤ cert.bound = u side r.0 r.1 in
      omega (arith, b, r.2)

  abbrev pub OwesIn : List Watch → ℕ → List ℕ → List ℕ → Side → ℕ → Type 0
  OwesIn watches place links counters side n = Owes cert side (old watches) place links counters n

  -- the places to which links lead are read with no upper half
  abbrev pub ArePlain : List ℕ → Type 0
  ArePlain [] = Unit {0}
  ArePlain (x ∷ links) = IsPlain image cert x × ArePlain links

  pub record IsRunning (charged : ℕ) (j : Job) (links counters : List ℕ) (upper : Option ℤ) : Type 0 where
    pub upper_is : upper ≡ upper_at image cert j.place
    pub links_plain : ArePlain links
    pub round : IsContextRight image cert j.context
    pub kept : AreKept image j.watches
    pub chain : Chain cert (middle j.context) (stack j.watches) 0 j.place links counters
    pub covers : Under charged (CVal image cert j.context (OwesIn j.watches j.place links counters))

  -- no slot is inside a routine or a loop
  pub record IsCalm (charged : ℕ) (t : Tree) (links counters : List ℕ) (upper : Option ℤ) : Type 0 where
    pub upper_is : upper ≡ None
    pub links_are : links ≡ []
    pub counters_are : counters ≡ []
    pub right : IsRight image cert 0 t
    pub covers : Under charged (Val image cert t)

  -- the first ready slot may be
  pub record IsBusy (charged : ℕ) (t : Tree) (links counters : List ℕ) (upper : Option ℤ) : Type 0 where
    pub runs : Job
    pub is_there : t ≡ plug runs.context (Leaf runs.watches (Running runs.place))
    pub quiet : IsQuietBefore runs.context
    pub running : IsRunning charged runs links counters upper

  abbrev pub IsTurned : ℕ → Tree → List ℕ → List ℕ → Option ℤ → Type 0
  IsTurned charged t links counters upper = IsSound image t × (IsCalm charged t links counters upper ⊎ IsBusy charged t links counters upper)

  -- the outcome of a step of a turn
  abbrev pub IsTurnKept : ℕ → Outcome → Type 0
  IsTurnKept charged (Goes c next) = (next.phase ≡ InTurns) × IsTurned (charged + c) next.tree next.links next.counters next.upper
  IsTurnKept charged (Traps kind) = ⊥
  IsTurnKept charged Stops = Unit {0}

  -- a leaf that runs owes its number alone
  pub leaf-owes : (watches : List Watch) (place s : ℕ) (a : List ℕ) → cert.line place ≡ Thread s a [] → Dom 0 (Val image cert (Leaf watches (Running place))) (OwesIn watches place [] [])
  leaf-owes watches place s a l side n h =
      let T : List ℕ → Type 0 = λ x. Turns cert x [] h.3 h.1 in
      let t = subst T (ap loops_of l) h.5 in
      let r = h.6 in
      (h.0, h.4, (let e = h.7 in let t0 = t.1 in let r0 = r.1 in omega (arith, e, t0, r0)))

  pub owes-leaf : (watches : List Watch) (place s : ℕ) (a : List ℕ) → cert.line place ≡ Thread s a [] → Dom 0 (OwesIn watches place [] []) (Val image cert (Leaf watches (Running place)))
  owes-leaf watches place s a l side n h =
      let T : List ℕ → Type 0 = λ x. Turns cert x [] [] 0 in
      (n, (n, 0, 0, [], h, subst T (sym (ap loops_of l)) (refl, refl), (refl, refl), omega arith), omega arith)

  -- where the tree's slots stand right, the first that is ready runs
  calm-running : (charged : ℕ) (j : Job) (t : Tree) (links counters : List ℕ) (upper : Option ℤ) → t ≡ plug j.context (Leaf j.watches (Running j.place)) → IsCalm charged t links counters upper → IsRunning charged j links counters upper
  calm-running charged j t links counters upper e c =
      let leaf = Leaf j.watches (Running j.place) in
      let R : Tree → Type 0 = IsRight image cert 0 in
      let U : Tree → Type 0 = λ x. Under charged (Val image cert x) in
      let r = plug-right image cert j.context leaf (subst R e c.right) in
      let P : List ℕ → List ℕ → Type 0 = λ l x. IsRunning charged j l x upper in
      let V = CVal image cert j.context (Val image cert leaf) in
      let W = CVal image cert j.context (OwesIn j.watches j.place [] []) in
      let base : IsRunning charged j [] [] upper = record {
        upper_is = c.upper_is ∙ sym r.1.2;
        links_plain = tt;
        round = r.0;
        kept = r.1.1;
        chain = ([], r.1.0, refl);
        covers = under-same charged (Val image cert (plug j.context leaf)) W
            (dom-dom image cert 0 0 (Val image cert (plug j.context leaf)) V W (plug-out image cert j.context leaf)
            (context-dom image cert 0 (Val image cert leaf) (OwesIn j.watches j.place [] []) (leaf-owes j.watches j.place (middle j.context) (stack j.watches) r.1.0) j.context))
            (subst U e c.covers);
      } in
      subst (λ l. P l counters) (sym c.links_are) (subst (λ x. P [] x) (sym c.counters_are) base)

  pub turn-running : (charged : ℕ) (j : Job) (t : Tree) (links counters : List ℕ) (upper : Option ℤ) → t ≡ plug j.context (Leaf j.watches (Running j.place)) → IsQuietBefore j.context → IsTurned charged t links counters upper → IsRunning charged j links counters upper
  turn-running charged j t links counters upper e q k =
      ⊎_elim (λ c. calm-running charged j t links counters upper e c)
      (λ b.
      let same : b.runs ≡ j = one-turn b.runs.context j.context b.runs.watches j.watches b.runs.place j.place b.quiet q (sym b.is_there ∙ e) in
      let R : Job → Type 0 = λ x. IsRunning charged x links counters upper in
      subst R same b.running) k.1
