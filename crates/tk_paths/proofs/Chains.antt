-- The slot that runs, inside routines and bounded loops.
use Rattle.std.proofs.Common.{◌≡◌, ◌≤◌, ◌<◌, ◌+◌, ◌*◌, ℕ, Bool, true, false, List, [], ◌∷◌, Option, Some, refl, sym, ap, ◌∙◌, subst, arith, length}
use Rattle.std.proofs.lemmas.Bool.{false≢true}
use Rattle.tk_paths.proofs.Inner.{Image}
use Rattle.tk_paths.specs.declared.view.Side.{Side}
use Rattle.tk_paths.specs.declared.view.View.{View}
use Rattle.tk_paths.specs.declared.view.View.TheVariants.{On, Value}
use Rattle.tk_paths.proofs.Conditions.{seen, Fits, Views, Reach, Cert, Line, Thread, Routine, Cond, loops_of, with_loops, LoopsAre, ThreadIs, Below, IsBare, IsThreadFine}
use Rattle.tk_paths.proofs.Values.{Dom}

abbrev none : List ℕ
none = []

module _ (cert : Cert) where
  -- a counter for each loop, before others, and each loop has a weight
  abbrev pub IsCounted : List ℕ → List ℕ → List ℕ → Type 0
  IsCounted [] cs rest = cs ≡ rest
  IsCounted (a ∷ l) [] rest = ⊥
  IsCounted (a ∷ l) (c ∷ cs) rest = (w : ℕ) × (cert.weight a ≡ Some w) × IsCounted l cs rest

  -- what the turns that are left come to
  abbrev pub Turns : List ℕ → List ℕ → List ℕ → ℕ → Type 0
  Turns [] cs rest t = (cs ≡ rest) × (t ≡ 0)
  Turns (a ∷ l) [] rest t = ⊥
  Turns (a ∷ l) (c ∷ cs) rest t = (w m : ℕ) × (cert.weight a ≡ Some w) × Turns l cs rest m × (t ≡ c * w + m)

  abbrev pub Nothing : List ℕ → ℕ → Type 0
  Nothing rest m = (rest ≡ []) × (m ≡ 0)

  abbrev pub Owing : Option ℕ → List ℕ → List ℕ → (List ℕ → ℕ → Type 0) → ℕ → Type 0
  Owing o l cs R n = (v t m : ℕ) × (rest : List ℕ) × (o ≡ Some v) × Turns l cs rest t × R rest m × (n ≡ v + (t + m))

  -- what a slot at a place may still come to, on a side at a level
  abbrev pub Owes : Side → ℕ → ℕ → List ℕ → List ℕ → ℕ → Type 0
  Owes side k place [] cs n = Owing (cert.number side k place) (loops_of (cert.line place)) cs Nothing n
  Owes side k place (l ∷ links) cs n = Owing (Some (cert.value place)) (loops_of (cert.line place)) cs (λ rest m. Owes side k l links rest m) n

  abbrev pub viewed : Side → ℕ → List ℕ → View
  viewed side k [] = On side k
  viewed side k (l ∷ links) = Value

  abbrev pub RestOf : Side → ℕ → List ℕ → List ℕ → ℕ → Type 0
  RestOf side k [] rest m = Nothing rest m
  RestOf side k (l ∷ links) rest m = Owes side k l links rest m

  abbrev pub OwesHere : Side → ℕ → ℕ → List ℕ → List ℕ → ℕ → Type 0
  OwesHere side k place links cs n = Owing (seen cert (viewed side k links) place) (loops_of (cert.line place)) cs (RestOf side k links) n

  pub owes-in : (side : Side) (k place : ℕ) (links cs : List ℕ) (n : ℕ) → Owes side k place links cs n → OwesHere side k place links cs n
  owes-in side k place [] cs n h = h
  owes-in side k place (l ∷ links) cs n h = h

  pub owes-out : (side : Side) (k place : ℕ) (links cs : List ℕ) (n : ℕ) → OwesHere side k place links cs n → Owes side k place links cs n
  owes-out side k place [] cs n h = h
  owes-out side k place (l ∷ links) cs n h = h

  module _ (s : ℕ) (a : List ℕ) where
    -- thread s runs inside these aborts, or a routine that it called does; each routine is higher than those that it calls
    abbrev pub Chain : ℕ → ℕ → List ℕ → List ℕ → Type 0
    Chain low place [] cs = (l : List ℕ) × (cert.line place ≡ Thread s a l) × IsCounted l cs []
    Chain low place (x ∷ links) cs = (h : ℕ) × (l rest : List ℕ) × (cert.line place ≡ Routine h l) × (low < h) × IsCounted l cs rest × Chain h x links rest

    abbrev pub chain_loops : (low place : ℕ) (links cs : List ℕ) → Chain low place links cs → List ℕ
    chain_loops low place [] cs c = c.0
    chain_loops low place (x ∷ links) cs c = c.1

    abbrev pub chain_rest : (low place : ℕ) (links cs : List ℕ) → Chain low place links cs → List ℕ
    chain_rest low place [] cs c = []
    chain_rest low place (x ∷ links) cs c = c.2

    pub chain-counted : (low place : ℕ) (links cs : List ℕ) (c : Chain low place links cs) → IsCounted (chain_loops low place links cs c) cs (chain_rest low place links cs c)
    chain-counted low place [] cs c = c.2
    chain-counted low place (x ∷ links) cs c = c.5

    pub loops-same : (low place : ℕ) (links cs : List ℕ) (c : Chain low place links cs) → loops_of (cert.line place) ≡ chain_loops low place links cs c
    loops-same low place [] cs c = ap loops_of c.1
    loops-same low place (x ∷ links) cs c = ap loops_of c.3

    -- the same slot at another place, with other loops
    pub rebuild : (low place place' : ℕ) (links cs cs' l : List ℕ) (c : Chain low place links cs) → cert.line place' ≡ with_loops (cert.line place) l → IsCounted l cs' (chain_rest low place links cs c) → Chain low place' links cs'
    rebuild low place place' [] cs cs' l c e i = (l, e ∙ ap (λ x. with_loops x l) c.1, i)
    rebuild low place place' (x ∷ links) cs cs' l c e i = (c.0, l, c.2, e ∙ ap (λ y. with_loops y l) c.3, c.4, i, c.6)

    pub rebuild-same : (low place place' : ℕ) (links cs : List ℕ) → Chain low place links cs → cert.line place' ≡ cert.line place → Chain low place' links cs
    rebuild-same low place place' [] cs c e = (c.0, e ∙ c.1, c.2)
    rebuild-same low place place' (x ∷ links) cs c e = (c.0, c.1, c.2, e ∙ c.3, c.4, c.5, c.6)

    pub recounted : (low place place' : ℕ) (links cs cs' : List ℕ) (c : Chain low place links cs) → cert.line place' ≡ cert.line place → IsCounted (chain_loops low place links cs c) cs' (chain_rest low place links cs c) → Chain low place' links cs'
    recounted low place place' [] cs cs' c e i = (c.0, e ∙ c.1, i)
    recounted low place place' (x ∷ links) cs cs' c e i = (c.0, c.1, c.2, e ∙ c.3, c.4, i, c.6)

    abbrev is_cond : Line → Bool
    is_cond Cond = true
    is_cond other = false

    pub not-cond : (low place : ℕ) (links cs : List ℕ) → Chain low place links cs → cert.line place ≡ Cond → ⊥
    not-cond low place [] cs c e = false≢true (ap is_cond (sym c.1 ∙ e))
    not-cond low place (x ∷ links) cs c e = false≢true (ap is_cond (sym c.3 ∙ e))

    pub chain-there : (low place : ℕ) (links cs : List ℕ) → Chain low place links cs → IsBare (cert.line place) → ⊥
    chain-there low place [] cs c b = subst IsBare c.1 b
    chain-there low place (x ∷ links) cs c b = subst IsBare c.3 b

    pub loops-next : (low place place' : ℕ) (links cs l : List ℕ) → Chain low place links cs → cert.line place' ≡ with_loops (cert.line place) l → loops_of (cert.line place') ≡ l
    loops-next low place place' [] cs l c e = ap loops_of (e ∙ ap (λ x. with_loops x l) c.1)
    loops-next low place place' (x ∷ links) cs l c e = ap loops_of (e ∙ ap (λ y. with_loops y l) c.3)

    pub fits : (side : Side) (k low place : ℕ) (links cs : List ℕ) → k ≤ length a → Chain low place links cs → Fits (viewed side k links) (cert.line place)
    fits side k low place [] cs h c = subst (Fits (On side k)) (sym c.1) h
    fits side k low place (x ∷ links) cs h c = subst (Fits Value) (sym c.3) tt

    pub lowered : (low place : ℕ) (links cs : List ℕ) → Chain low place links cs → Chain 0 place links cs
    lowered low place [] cs c = c
    lowered low place (x ∷ links) cs c = (c.0, c.1, c.2, c.3, (let e : low < c.0 = c.4 in omega (arith, e)), c.5, c.6)

    module _ (image : Image) where
      pub loops-are : (P : List ℕ → Type 0) (low place : ℕ) (links cs : List ℕ) (c : Chain low place links cs) → LoopsAre image cert (cert.line place) P → P (chain_loops low place links cs c)
      loops-are P low place [] cs c h = let L : Line → Type 0 = λ x. LoopsAre image cert x P in subst L c.1 h
      loops-are P low place (x ∷ links) cs c h = let L : Line → Type 0 = λ y. LoopsAre image cert y P in subst L c.3 h

      -- a thread that is inside no loop is inside no routine either
      pub chain-calm : (P : ℕ → List ℕ → Type 0) (low place : ℕ) (links cs : List ℕ) → Chain low place links cs → ThreadIs image cert (cert.line place) P →
          (links ≡ []) × (cs ≡ []) × (cert.line place ≡ Thread s a []) × P s a
      chain-calm P low place [] cs c h =
          let L : Line → Type 0 = λ x. ThreadIs image cert x P in
          by c.0 c.1 c.2 (subst L c.1 h)
        where
          by : (l : List ℕ) → cert.line place ≡ Thread s a l → IsCounted l cs [] → ThreadIs image cert (Thread s a l) P → (none ≡ none) × (cs ≡ none) × (cert.line place ≡ Thread s a none) × P s a
          by [] e i p = (refl, i, e, p)
          by (x ∷ l) e i p = absurd p
      chain-calm P low place (x ∷ links) cs c h = let L : Line → Type 0 = λ y. ThreadIs image cert y P in absurd (subst L c.3 h)

      -- a word that keeps the line leads to less
      pub on-dom : (c k low place place' : ℕ) (links cs : List ℕ) → k ≤ length a → Chain low place links cs → cert.line place' ≡ cert.line place →
          Views image cert (cert.line place) (λ view. Reach (seen cert view place) c (seen cert view place')) → Dom c (λ side n. Owes side k place links cs n) (λ side n. Owes side k place' links cs n)
      on-dom c k low place place' links cs within chain line reach side n h =
          let o = owes-in side k place' links cs n h in
          let p = reach (viewed side k links) (fits side k low place links cs within chain) o.0 o.4 in
          let T : List ℕ → Type 0 = λ l. Turns l cs o.3 o.1 in
          let t : Turns (loops_of (cert.line place)) cs o.3 o.1 = subst T (ap loops_of line) o.5 in
          (p.0 + (o.1 + o.2), owes-out side k place links cs (p.0 + (o.1 + o.2)) (p.0, o.1, o.2, o.3, p.1, t, o.6, refl), omega (arith, p.2, o.7))

      -- how many links and counters there are
      module _ (thread : (place : ℕ) → IsThreadFine image cert place (cert.line place)) where
        pub height : (low place : ℕ) (links cs : List ℕ) → low ≤ 16 → Chain low place links cs → length links + low ≤ 16
        height low place [] cs h c = omega arith
        height low place (x ∷ links) cs h c =
            let f : IsThreadFine image cert place (Routine c.0 c.1) = subst (IsThreadFine image cert place) c.3 (thread place) in
            let r = height c.0 x links c.2 f.1 c.6 in
            let e : low < c.0 = c.4 in
            omega (arith, r, e)

        counted-length : (l cs rest : List ℕ) → IsCounted l cs rest → length cs ≡ length l + length rest
        counted-length [] cs rest h = let e : length cs ≡ length rest = ap length h in omega (arith, e)
        counted-length (x ∷ l) [] rest h = absurd h
        counted-length (x ∷ l) (c ∷ cs) rest h = let r = counted-length l cs rest h.2 in omega (arith, r)

        pub counter-room : (low place : ℕ) (links cs : List ℕ) (c : Chain low place links cs) → length cs ≤ length (chain_loops low place links cs c) + 8 * length links
        counter-room low place [] cs c = let r = counted-length c.0 cs [] c.2 in omega (arith, r)
        counter-room low place (x ∷ links) cs c =
            let r = counted-length c.1 cs c.2 c.5 in
            let b = counter-room c.0 x links c.2 c.6 in
            let w = loops-within c.0 x links c.2 c.6 in
            omega (arith, r, b, w)
          where
            loops-within : (low place : ℕ) (links cs : List ℕ) (c : Chain low place links cs) → length (chain_loops low place links cs c) ≤ 8
            loops-within low place [] cs c = (subst (IsThreadFine image cert place) c.1 (thread place)).1
            loops-within low place (x ∷ links) cs c = (subst (IsThreadFine image cert place) c.3 (thread place)).0

        -- a call finds room for a link
        pub call-room : (h place : ℕ) (links cs : List ℕ) → Chain 0 place links cs → Below image cert (cert.line place) h → 1 ≤ h → length links < 16
        call-room h place [] cs c b one = omega arith
        call-room h place (x ∷ links) cs c b one =
            let B : Line → Type 0 = λ y. Below image cert y h in
            let lower : h < c.0 = subst B c.3 b in
            let f : IsThreadFine image cert place (Routine c.0 c.1) = subst (IsThreadFine image cert place) c.3 (thread place) in
            let r = height c.0 x links c.2 f.1 c.6 in
            omega (arith, r, lower, one)

      pub raised : (h place place' : ℕ) (links cs : List ℕ) → Chain 0 place links cs → cert.line place' ≡ cert.line place → Below image cert (cert.line place) h → Chain h place' links cs
      raised h place place' [] cs c e b = (c.0, e ∙ c.1, c.2)
      raised h place place' (x ∷ links) cs c e b =
          let B : Line → Type 0 = λ y. Below image cert y h in
          (c.0, c.1, c.2, e ∙ c.3, subst B c.3 b, c.5, c.6)
