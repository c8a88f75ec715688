-- The exact values of a tree in which the turns are taken: every ready slot has a way. What settles keeps them.
use Rattle.std.proofs.Common.{◌≡◌, ◌+◌, ℕ, Bool, true, false, ◌&&◌, ◌||◌, if◌then◌else◌, List, [], ◌∷◌, Option, Some, None, refl, sym, ap, ◌∙◌, subst, arith}
use Rattle.std.proofs.lemmas.Bool.{false≢true}
use Rattle.std.proofs.lemmas.Option.{none-some, same_Some}
use Rattle.mb_pfu.specs.declared.parts.Watch.{Watch}
use Rattle.mb_pfu.specs.Rows.{relief}
use Rattle.mb_pfu.specs.Tree.{Running, Pausing, Finished, Tree, Group, Leaf, Waits, no_more, member, has_ready, any_ready, has_ended, all_ended, relieved_tree, settle, append_group}
use Rattle.mb_pfu.specs.Contexts.{filled, Frame, Context, plug, climb}
use Rattle.pt_image.specs.declared.Parts.{Parts}
use Rattle.tk_cert.specs.declared.cert.CertParts.{CertParts}
use Rattle.tk_paths.specs.declared.view.Side.{Side}
use Rattle.tk_paths.specs.declared.view.Side.TheVariants.{ToPause, ToEnd}
use Rattle.tk_paths.specs.Reached.{both_sides}
use Rattle.tk_paths.proofs.Ways.{Way, Rested, stays, goes, Afterwards, joins, rests}

abbrev pub when : Bool → Type 0 → Type 0 → Type 0
when true P Q = P
when false P Q = Q

module _ (image : Parts) (cert : CertParts) (costs : List ℕ) where
  abbrev mutual
    pub WVal : Tree → Side → ℕ → Type 0
    WVal (Leaf watches (Running place)) side n = Way image cert costs watches place side n
    WVal (Leaf watches (Pausing place)) side n = (side ≡ ToPause) × (n ≡ 0)
    WVal (Leaf watches Finished) side n = (side ≡ ToEnd) × (n ≡ 0)
    WVal (Waits watches at lo group) side n =
        when (any_ready group) ((y : Side) × (g r : ℕ) × WGVal group y g × Afterwards image cert costs watches at y side r × (n ≡ g + r)) ((side ≡ ToPause) × (n ≡ 0))

    pub WGVal : Group → Side → ℕ → Type 0
    WGVal no_more side n = (side ≡ ToEnd) × (n ≡ 0)
    WGVal (member t ts) side n = (x y : Side) × (p q : ℕ) × WVal t x p × WGVal ts y q × (side ≡ both_sides x y) × (n ≡ p + q)

  abbrev pub WAround : Group → Group → (Side → ℕ → Type 0) → Side → ℕ → Type 0
  WAround no_more behind V side n = (x y : Side) × (p q : ℕ) × V x p × WGVal behind y q × (side ≡ both_sides x y) × (n ≡ p + q)
  WAround (member t ts) behind V side n = (x y : Side) × (p q : ℕ) × WVal t x p × WAround ts behind V y q × (side ≡ both_sides x y) × (n ≡ p + q)

  abbrev pub WFVal : Frame → (Side → ℕ → Type 0) → Side → ℕ → Type 0
  WFVal f V side n = (y : Side) × (g r : ℕ) × WAround f.before f.behind V y g × Afterwards image cert costs f.watches f.at y side r × (n ≡ g + r)

  abbrev pub WCVal : Context → (Side → ℕ → Type 0) → Side → ℕ → Type 0
  WCVal [] V = V
  WCVal (f ∷ fs) V = WCVal fs (WFVal f V)

  abbrev pub Into : (Side → ℕ → Type 0) → (Side → ℕ → Type 0) → Type 0
  Into V W = (side : Side) (n : ℕ) → V side n → W side n

  waround-map : (V W : Side → ℕ → Type 0) → Into V W → (before behind : Group) → Into (WAround before behind V) (WAround before behind W)
  waround-map V W f no_more behind side n h = (h.0, h.1, h.2, h.3, f h.0 h.2 h.4, h.5, h.6, h.7)
  waround-map V W f (member t ts) behind side n h = (h.0, h.1, h.2, h.3, h.4, waround-map V W f ts behind h.1 h.3 h.5, h.6, h.7)

  pub context-map : (V W : Side → ℕ → Type 0) → Into V W → (context : Context) → Into (WCVal context V) (WCVal context W)
  context-map V W f [] = f
  context-map V W f (x ∷ fs) = context-map (WFVal x V) (WFVal x W) (λ side n h. (h.0, h.1, h.2, waround-map V W f x.before x.behind h.0 h.1 h.3, h.4, h.5)) fs

  -- what stands in the hole, and how its charge comes off
  abbrev pub Held : ((Side → ℕ → Type 0) → Side → ℕ → Type 0) → (Side → ℕ → Type 0) → Side → ℕ → Type 1
  Held C V side n = (x : Side) × (p : ℕ) × V x p × ((W : Side → ℕ → Type 0) (q : ℕ) → W x q → (m : ℕ) × C W side m × (m + p ≡ n + q))

  around-held : (V : Side → ℕ → Type 0) (before behind : Group) (side : Side) (n : ℕ) → WAround before behind V side n → Held (WAround before behind) V side n
  around-held V no_more behind side n h = (h.0, h.2, h.4, λ W q w. (q + h.3, (h.0, h.1, q, h.3, w, h.5, h.6, refl), (let e = h.7 in omega (arith, e))))
  around-held V (member t ts) behind side n h =
      let r = around-held V ts behind h.1 h.3 h.5 in
      (r.0, r.1, r.2, λ W q w. let m = r.3 W q w in (h.2 + m.0, (h.0, h.1, h.2, m.0, h.4, m.1, h.6, refl), (let e = h.7 in let f = m.2 in omega (arith, e, f))))

  frame-held : (f : Frame) (V : Side → ℕ → Type 0) (side : Side) (n : ℕ) → WFVal f V side n → Held (WFVal f) V side n
  frame-held f V side n h =
      let r = around-held V f.before f.behind h.0 h.1 h.3 in
      (r.0, r.1, r.2, λ W q w. let m = r.3 W q w in (m.0 + h.2, (h.0, m.0, h.2, m.1, h.4, refl), (let e = h.5 in let g = m.2 in omega (arith, e, g))))

  pub context-held : (context : Context) (V : Side → ℕ → Type 0) (side : Side) (n : ℕ) → WCVal context V side n → Held (WCVal context) V side n
  context-held [] V side n h = (side, n, h, λ W q w. (q, w, omega arith))
  context-held (f ∷ fs) V side n h =
      let r = context-held fs (WFVal f V) side n h in
      let s = frame-held f V r.0 r.1 r.2 in
      (s.0, s.1, s.2, λ W q w. let m = s.3 W q w in let l = r.3 (WFVal f W) m.0 m.1 in (l.0, l.1, (let a = m.2 in let b = l.2 in omega (arith, a, b))))

  waround-in : (t : Tree) (before behind : Group) → Into (WGVal (append_group before (member t behind))) (WAround before behind (WVal t))
  waround-in t no_more behind side n h = h
  waround-in t (member u us) behind side n h = (h.0, h.1, h.2, h.3, h.4, waround-in t us behind h.1 h.3 h.5, h.6, h.7)

  waround-out : (t : Tree) (before behind : Group) → Into (WAround before behind (WVal t)) (WGVal (append_group before (member t behind)))
  waround-out t no_more behind side n h = h
  waround-out t (member u us) behind side n h = (h.0, h.1, h.2, h.3, h.4, waround-out t us behind h.1 h.3 h.5, h.6, h.7)

  pub middle-ready : (before behind : Group) (t : Tree) → has_ready t ≡ true → any_ready (append_group before (member t behind)) ≡ true
  middle-ready no_more behind t h = ap (λ b. b || any_ready behind) h
  middle-ready (member u us) behind t h = by (has_ready u) (middle-ready us behind t h)
    where
      by : (b : Bool) → any_ready (append_group us (member t behind)) ≡ true → b || any_ready (append_group us (member t behind)) ≡ true
      by true e = refl
      by false e = e

  pub unplugged : (context : Context) (t : Tree) → has_ready t ≡ true → Into (WVal (plug context t)) (WCVal context (WVal t))
  unplugged [] t h side n v = v
  unplugged (f ∷ fs) t h side n v =
      let ready = middle-ready f.before f.behind t h in
      let open_frame : Into (WVal (filled f t)) (WFVal f (WVal t)) = λ x m w.
      let W : Bool → Type 0 = λ b. when b ((y : Side) × (g r : ℕ) × WGVal (append_group f.before (member t f.behind)) y g × Afterwards image cert costs f.watches f.at y x r × (m ≡ g + r)) ((x ≡ ToPause) × (m ≡ 0)) in
      let o = subst W ready w in
      (o.0, o.1, o.2, waround-in t f.before f.behind o.0 o.1 o.3, o.4, o.5) in
      context-map (WVal (filled f t)) (WFVal f (WVal t)) open_frame fs side n (unplugged fs (filled f t) ready side n v)

  or-false : (a b : Bool) → a || b ≡ false → (a ≡ false) × (b ≡ false)
  or-false true b h = absurd (false≢true (sym h))
  or-false false b h = (refl, h)

  abbrev pub rest_side : Bool → Side
  rest_side true = ToEnd
  rest_side false = ToPause

  both-rest : (a b : Bool) → both_sides (rest_side a) (rest_side b) ≡ rest_side (a && b)
  both-rest true true = refl
  both-rest true false = refl
  both-rest false b = refl

  -- a tree that rests comes to nothing more
  pub rest-exact : (t : Tree) (side : Side) (n : ℕ) → has_ready t ≡ false → WVal t side n → (side ≡ rest_side (has_ended t)) × (n ≡ 0)
  rest-exact (Leaf watches (Running place)) side n h v = absurd (false≢true (sym h))
  rest-exact (Leaf watches (Pausing place)) side n h v = v
  rest-exact (Leaf watches Finished) side n h v = v
  rest-exact (Waits watches at lo group) side n h v =
      let W : Bool → Type 0 = λ b. when b ((y : Side) × (g r : ℕ) × WGVal group y g × Afterwards image cert costs watches at y side r × (n ≡ g + r)) ((side ≡ ToPause) × (n ≡ 0)) in
      subst W h v

  rests-exact : (ts : Group) (side : Side) (n : ℕ) → any_ready ts ≡ false → WGVal ts side n → (side ≡ rest_side (all_ended ts)) × (n ≡ 0)
  rests-exact no_more side n h v = v
  rests-exact (member t ts) side n h v =
      let o = or-false (has_ready t) (any_ready ts) h in
      let a = rest-exact t v.0 v.2 o.0 v.4 in
      let b = rests-exact ts v.1 v.3 o.1 v.5 in
      (v.6 ∙ ap (λ x. both_sides x v.1) a.0 ∙ ap (λ y. both_sides (rest_side (has_ended t)) y) b.0 ∙ both-rest (has_ended t) (all_ended ts), (let e = v.7 in let p = a.1 in let q = b.1 in omega (arith, e, p, q)))

  end-pause : ToEnd ≡ ToPause → ⊥
  end-pause e = cc

  joined : (watches : List Watch) (at : ℕ) (y side : Side) (r : ℕ) → y ≡ ToEnd → Afterwards image cert costs watches at y side r → Way image cert costs watches (at + 1) side r
  joined watches at y side r e (joins x w) = w
  joined watches at y side r e (rests x w) = absurd (end-pause (sym e ∙ x))

  rested : (watches : List Watch) (at : ℕ) (y side : Side) (r : ℕ) → y ≡ ToPause → Afterwards image cert costs watches at y side r → Rested image cert costs watches side r
  rested watches at y side r e (joins x w) = absurd (end-pause (sym x ∙ e))
  rested watches at y side r e (rests x w) = w

  -- the innermost fired abort's handler, or nothing
  pub relieved-way : (t : Tree) (watches : List Watch) (side : Side) (r : ℕ) (to : Option (List Watch × ℕ)) → relief watches ≡ to → ((side ≡ ToPause) × (r ≡ 0) → WVal t side r) → Rested image cert costs watches side r → WVal (relieved_tree t to) side r
  relieved-way t watches side r None e still (stays x y z) = still (y, z)
  relieved-way t watches side r None e still (goes left handler x w) = absurd (none-some (left, handler) (sym e ∙ x))
  relieved-way t watches side r (Some to) e still (stays x y z) = absurd (none-some to (sym x ∙ e))
  relieved-way t watches side r (Some to) e still (goes left handler x w) =
      let same : (left, handler) ≡ to = same_Some (left, handler) to (sym x ∙ e) in
      let W : List Watch × ℕ → Type 0 = λ p. Way image cert costs p.0 p.1 side r in
      subst W same w

  settled : (watches : List Watch) (at lo : ℕ) (group : Group) (side : Side) (n : ℕ) → ((y : Side) × (g r : ℕ) × WGVal group y g × Afterwards image cert costs watches at y side r × (n ≡ g + r)) → WVal (settle (Waits watches at lo group)) side n
  settled watches at lo group side n h = by (any_ready group) (all_ended group) refl refl
    where
      open_rest : any_ready group ≡ false → (h.0 ≡ rest_side (all_ended group)) × (n ≡ h.2)
      open_rest e = let z = rests-exact group h.0 h.1 e h.3 in (z.0, (let a = z.1 in let b = h.5 in omega (arith, a, b)))

      by : (b c : Bool) → any_ready group ≡ b → all_ended group ≡ c → WVal (if b then Waits watches at lo group else if c then Leaf watches (Running (at + 1)) else relieved_tree (Waits watches at lo group) (relief watches)) side n
      by true c e f =
          let W : Bool → Type 0 = λ b. when b ((y : Side) × (g r : ℕ) × WGVal group y g × Afterwards image cert costs watches at y side r × (n ≡ g + r)) ((side ≡ ToPause) × (n ≡ 0)) in
          subst W (sym e) h
      by false true e f = let z = open_rest e in subst (Way image cert costs watches (at + 1) side) (sym z.1) (joined watches at h.0 side h.2 (z.0 ∙ ap rest_side f) h.4)
      by false false e f =
          let z = open_rest e in
          let W : Bool → Type 0 = λ b. when b ((y : Side) × (g r : ℕ) × WGVal group y g × Afterwards image cert costs watches at y side r × (h.2 ≡ g + r)) ((side ≡ ToPause) × (h.2 ≡ 0)) in
          subst (WVal (relieved_tree (Waits watches at lo group) (relief watches)) side) (sym z.1)
          (relieved-way (Waits watches at lo group) watches side h.2 (relief watches) refl (λ s. subst W (sym e) s) (rested watches at h.0 side h.2 (z.0 ∙ ap rest_side f) h.4))

  pub climbed : (context : Context) (t : Tree) → Into (WCVal context (WVal t)) (WVal (climb context t))
  climbed [] t side n v = v
  climbed (f ∷ fs) t side n v =
      climbed fs (settle (filled f t)) side n
      (context-map (WFVal f (WVal t)) (WVal (settle (filled f t)))
      (λ x m w. settled f.watches f.at f.lo (append_group f.before (member t f.behind)) x m (w.0, w.1, w.2, waround-out t f.before f.behind w.0 w.1 w.3, w.4, w.5)) fs side n v)
