-- The exact values of a tree in which the turns are taken: every ready slot has a route, and the routes' choices come in the order
-- of the turns. What settles keeps them.
use Rattle.std.proofs.Common.{◌≡◌, ◌+◌, ◌++◌, ℕ, Bool, true, false, ◌&&◌, ◌||◌, if◌then◌else◌, List, [], ◌∷◌, Option, Some, None, refl, sym, ap, ◌∙◌, subst, append_assoc, arith}
use Rattle.std.proofs.lemmas.Bool.{false≢true}
use Rattle.std.proofs.lemmas.Option.{none-some, same_Some}
use Rattle.mb_pfu.specs.declared.parts.Watch.{Watch}
use Rattle.mb_pfu.specs.Rows.{relief}
use Rattle.mb_pfu.specs.Tree.{Running, Pausing, Finished, Tree, Group, Leaf, Waits, no_more, member, has_ready, any_ready, has_ended, all_ended, relieved_tree, settle, append_group}
use Rattle.mb_pfu.specs.Contexts.{filled, Frame, Context, plug, climb, IsQuietBefore}
use Rattle.pt_image.specs.declared.Parts.{Parts}
use Rattle.tk_cert.specs.declared.cert.CertParts.{CertParts}
use Rattle.tk_paths.specs.declared.view.Side.{Side}
use Rattle.tk_paths.specs.declared.view.Side.TheVariants.{ToPause, ToEnd}
use Rattle.tk_paths.specs.Reached.{both_sides}
use Rattle.tk_paths.proofs.Routes.{Route, Rested, stays, goes, Afterwards, joins, rests}

abbrev pub when : Bool → Type 0 → Type 0 → Type 0
when true P Q = P
when false P Q = Q

abbrev pub Value : Type 1
Value = Side → ℕ → List Bool → Type 0

pub or-false : (a b : Bool) → a || b ≡ false → (a ≡ false) × (b ≡ false)
or-false true b h = absurd (false≢true (sym h))
or-false false b h = (refl, h)

abbrev pub rest_side : Bool → Side
rest_side true = ToEnd
rest_side false = ToPause

both-rest : (a b : Bool) → both_sides (rest_side a) (rest_side b) ≡ rest_side (a && b)
both-rest true true = refl
both-rest true false = refl
both-rest false b = refl

end-pause : ToEnd ≡ ToPause → ⊥
end-pause e = cc

-- nothing, and nothing
pub none-both : (z x y : List Bool) → z ≡ x ++ y → x ≡ [] → y ≡ [] → z ≡ []
none-both z x y e f g = e ∙ ap (λ l. l ++ y) f ∙ g

pub none-first : (z x y : List Bool) → z ≡ x ++ y → x ≡ [] → z ≡ y
none-first z x y e f = e ∙ ap (λ l. l ++ y) f

module _ (image : Parts) (cert : CertParts) (costs : List ℕ) where
  -- a group whose slots are ready, and what comes after it
  abbrev pub GoingBy : Value → List Watch → ℕ → Value
  GoingBy V watches at side n z = (y : Side) × (g r : ℕ) × (a b : List Bool) × V y g a × Afterwards image cert costs watches at y side r b × (n ≡ g + r) × (z ≡ a ++ b)

  abbrev mutual
    pub WVal : Tree → Value
    WVal (Leaf watches (Running place)) side n z = Route image cert costs watches place side n z
    WVal (Leaf watches (Pausing place)) side n z = (side ≡ ToPause) × (n ≡ 0) × (z ≡ [])
    WVal (Leaf watches Finished) side n z = (side ≡ ToEnd) × (n ≡ 0) × (z ≡ [])
    WVal (Waits watches at lo group) side n z = when (any_ready group) (GoingBy (WGVal group) watches at side n z) ((side ≡ ToPause) × (n ≡ 0) × (z ≡ []))

    pub WGVal : Group → Value
    WGVal no_more side n z = (side ≡ ToEnd) × (n ≡ 0) × (z ≡ [])
    WGVal (member t ts) side n z = (x y : Side) × (p q : ℕ) × (a b : List Bool) × WVal t x p a × WGVal ts y q b × (side ≡ both_sides x y) × (n ≡ p + q) × (z ≡ a ++ b)

  abbrev pub Going : List Watch → ℕ → Group → Value
  Going watches at group = GoingBy (WGVal group) watches at

  abbrev pub WAround : Group → Group → Value → Value
  WAround no_more behind V side n z = (x y : Side) × (p q : ℕ) × (a b : List Bool) × V x p a × WGVal behind y q b × (side ≡ both_sides x y) × (n ≡ p + q) × (z ≡ a ++ b)
  WAround (member t ts) behind V side n z = (x y : Side) × (p q : ℕ) × (a b : List Bool) × WVal t x p a × WAround ts behind V y q b × (side ≡ both_sides x y) × (n ≡ p + q) × (z ≡ a ++ b)

  abbrev pub WFVal : Frame → Value → Value
  WFVal f V side n z = (y : Side) × (g r : ℕ) × (a b : List Bool) × WAround f.before f.behind V y g a × Afterwards image cert costs f.watches f.at y side r b × (n ≡ g + r) × (z ≡ a ++ b)

  abbrev pub WCVal : Context → Value → Value
  WCVal [] V = V
  WCVal (f ∷ fs) V = WCVal fs (WFVal f V)

  abbrev pub Into : Value → Value → Type 0
  Into V W = (side : Side) (n : ℕ) (z : List Bool) → V side n z → W side n z

  waround-map : (V W : Value) → Into V W → (before behind : Group) → Into (WAround before behind V) (WAround before behind W)
  waround-map V W f no_more behind side n z h = (h.0, h.1, h.2, h.3, h.4, h.5, f h.0 h.2 h.4 h.6, h.7, h.8, h.9, h.10)
  waround-map V W f (member t ts) behind side n z h = (h.0, h.1, h.2, h.3, h.4, h.5, h.6, waround-map V W f ts behind h.1 h.3 h.5 h.7, h.8, h.9, h.10)

  pub context-map : (V W : Value) → Into V W → (context : Context) → Into (WCVal context V) (WCVal context W)
  context-map V W f [] = f
  context-map V W f (x ∷ fs) = context-map (WFVal x V) (WFVal x W) (λ side n z h. (h.0, h.1, h.2, h.3, h.4, waround-map V W f x.before x.behind h.0 h.1 h.3 h.5, h.6, h.7, h.8)) fs

  -- a tree that rests comes to nothing more
  pub rest-exact : (t : Tree) (side : Side) (n : ℕ) (z : List Bool) → has_ready t ≡ false → WVal t side n z → (side ≡ rest_side (has_ended t)) × (n ≡ 0) × (z ≡ [])
  rest-exact (Leaf watches (Running place)) side n z h v = absurd (false≢true (sym h))
  rest-exact (Leaf watches (Pausing place)) side n z h v = v
  rest-exact (Leaf watches Finished) side n z h v = v
  rest-exact (Waits watches at lo group) side n z h v =
      let W : Bool → Type 0 = λ b. when b (Going watches at group side n z) ((side ≡ ToPause) × (n ≡ 0) × (z ≡ [])) in
      subst W h v

  rests-exact : (ts : Group) (side : Side) (n : ℕ) (z : List Bool) → any_ready ts ≡ false → WGVal ts side n z → (side ≡ rest_side (all_ended ts)) × (n ≡ 0) × (z ≡ [])
  rests-exact no_more side n z h v = v
  rests-exact (member t ts) side n z h v =
      let o = or-false (has_ready t) (any_ready ts) h in
      let a = rest-exact t v.0 v.2 v.4 o.0 v.6 in
      let b = rests-exact ts v.1 v.3 v.5 o.1 v.7 in (
        v.8 ∙ ap (λ x. both_sides x v.1) a.0 ∙ ap (λ y. both_sides (rest_side (has_ended t)) y) b.0 ∙ both-rest (has_ended t) (all_ended ts),
        (let e = v.9 in let p = a.1 in let q = b.1 in omega (arith, e, p, q)),
        none-both z v.4 v.5 v.10 a.2 b.2,
      )

  -- What stands in the hole, and how its charge and its first choices come off.
  abbrev pub Held : (Value → Value) → Value → Side → ℕ → List Bool → Type 1
  Held C V side n z = (x : Side) × (p : ℕ) × (a : List Bool) × V x p a
      × ((W : Value) (q : ℕ) (b : List Bool) → W x q b → (m : ℕ) × (c : List Bool) × C W side m c × (m + p ≡ n + q) × ((l : List Bool) → a ≡ l ++ b → z ≡ l ++ c))

  around-held : (V : Value) (before behind : Group) → any_ready before ≡ false → (side : Side) (n : ℕ) (z : List Bool) → WAround before behind V side n z → Held (WAround before behind) V side n z
  around-held V no_more behind quiet side n z h = (
    h.0,
    h.2,
    h.4,
    h.6,
    λ W q b w. (
      q + h.3,
      b ++ h.5,
      (h.0, h.1, q, h.3, b, h.5, w, h.7, h.8, refl, refl),
      (let e = h.9 in omega (arith, e)),
      λ l e. h.10 ∙ ap (λ x. x ++ h.5) e ∙ append_assoc l b h.5,
    ),
  )
  around-held V (member t ts) behind quiet side n z h =
      let o = or-false (has_ready t) (any_ready ts) quiet in
      let r = around-held V ts behind o.1 h.1 h.3 h.5 h.7 in
      let s = rest-exact t h.0 h.2 h.4 o.0 h.6 in (
        r.0,
        r.1,
        r.2,
        r.3,
        λ W q b w.
            let m = r.4 W q b w in (
              h.2 + m.0,
              h.4 ++ m.1,
              (h.0, h.1, h.2, m.0, h.4, m.1, h.6, m.2, h.8, refl, refl),
              (let e = h.9 in let f = m.3 in omega (arith, e, f)),
              λ l e. none-first z h.4 h.5 h.10 s.2 ∙ m.4 l e ∙ ap (λ x. l ++ (x ++ m.1)) (sym s.2),
            ),
      )

  frame-held : (f : Frame) → any_ready f.before ≡ false → (V : Value) (side : Side) (n : ℕ) (z : List Bool) → WFVal f V side n z → Held (WFVal f) V side n z
  frame-held f quiet V side n z h =
      let r = around-held V f.before f.behind quiet h.0 h.1 h.3 h.5 in (
        r.0,
        r.1,
        r.2,
        r.3,
        λ W q b w.
            let m = r.4 W q b w in (
              m.0 + h.2,
              m.1 ++ h.4,
              (h.0, m.0, h.2, m.1, h.4, m.2, h.6, refl, refl),
              (let e = h.7 in let g = m.3 in omega (arith, e, g)),
              λ l e. h.8 ∙ ap (λ x. x ++ h.4) (m.4 l e) ∙ append_assoc l m.1 h.4,
            ),
      )

  pub context-held : (context : Context) → IsQuietBefore context → (V : Value) (side : Side) (n : ℕ) (z : List Bool) → WCVal context V side n z → Held (WCVal context) V side n z
  context-held [] quiet V side n z h = (side, n, z, h, λ W q b w. (q, b, w, omega arith, λ l e. e))
  context-held (f ∷ fs) quiet V side n z h =
      let r = context-held fs quiet.1 (WFVal f V) side n z h in
      let s = frame-held f quiet.0 V r.0 r.1 r.2 r.3 in (
        s.0,
        s.1,
        s.2,
        s.3,
        λ W q b w.
            let m = s.4 W q b w in
            let i = r.4 (WFVal f W) m.0 m.1 m.2 in
            (i.0, i.1, i.2, (let u = m.3 in let v = i.3 in omega (arith, u, v)), λ l e. i.4 l (m.4 l e)),
      )

  waround-in : (t : Tree) (before behind : Group) → Into (WGVal (append_group before (member t behind))) (WAround before behind (WVal t))
  waround-in t no_more behind side n z h = h
  waround-in t (member u us) behind side n z h = (h.0, h.1, h.2, h.3, h.4, h.5, h.6, waround-in t us behind h.1 h.3 h.5 h.7, h.8, h.9, h.10)

  waround-out : (t : Tree) (before behind : Group) → Into (WAround before behind (WVal t)) (WGVal (append_group before (member t behind)))
  waround-out t no_more behind side n z h = h
  waround-out t (member u us) behind side n z h = (h.0, h.1, h.2, h.3, h.4, h.5, h.6, waround-out t us behind h.1 h.3 h.5 h.7, h.8, h.9, h.10)

  pub middle-ready : (before behind : Group) (t : Tree) → has_ready t ≡ true → any_ready (append_group before (member t behind)) ≡ true
  middle-ready no_more behind t h = ap (λ b. b || any_ready behind) h
  middle-ready (member u us) behind t h = by (has_ready u) (middle-ready us behind t h)
    where
      by : (b : Bool) → any_ready (append_group us (member t behind)) ≡ true → b || any_ready (append_group us (member t behind)) ≡ true
      by true e = refl
      by false e = e

  pub unplugged : (context : Context) (t : Tree) → has_ready t ≡ true → Into (WVal (plug context t)) (WCVal context (WVal t))
  unplugged [] t h side n z v = v
  unplugged (f ∷ fs) t h side n z v =
      let ready = middle-ready f.before f.behind t h in
      let open_frame : Into (WVal (filled f t)) (WFVal f (WVal t)) = λ x m l w.
      let W : Bool → Type 0 = λ b. when b (Going f.watches f.at (append_group f.before (member t f.behind)) x m l) ((x ≡ ToPause) × (m ≡ 0) × (l ≡ [])) in
      let o = subst W ready w in
      (o.0, o.1, o.2, o.3, o.4, waround-in t f.before f.behind o.0 o.1 o.3 o.5, o.6, o.7, o.8) in
      context-map (WVal (filled f t)) (WFVal f (WVal t)) open_frame fs side n z (unplugged fs (filled f t) ready side n z v)

  joined : (watches : List Watch) (at : ℕ) (y side : Side) (r : ℕ) (z : List Bool) → y ≡ ToEnd → Afterwards image cert costs watches at y side r z → Route image cert costs watches (at + 1) side r z
  joined watches at y side r z e (joins x w) = w
  joined watches at y side r z e (rests x w) = absurd (end-pause (sym e ∙ x))

  rested : (watches : List Watch) (at : ℕ) (y side : Side) (r : ℕ) (z : List Bool) → y ≡ ToPause → Afterwards image cert costs watches at y side r z → Rested image cert costs watches side r z
  rested watches at y side r z e (joins x w) = absurd (end-pause (sym x ∙ e))
  rested watches at y side r z e (rests x w) = w

  -- the innermost fired abort's handler, or nothing
  pub relieved-way : (t : Tree) (watches : List Watch) (side : Side) (r : ℕ) (z : List Bool) (to : Option (List Watch × ℕ)) → relief watches ≡ to → ((side ≡ ToPause) × (r ≡ 0) × (z ≡ []) → WVal t side r z) → Rested image cert costs watches side r z → WVal (relieved_tree t to) side r z
  relieved-way t watches side r z None e still (stays x y u w) = still (y, u, w)
  relieved-way t watches side r z None e still (goes left handler x w) = absurd (none-some (left, handler) (sym e ∙ x))
  relieved-way t watches side r z (Some to) e still (stays x y u w) = absurd (none-some to (sym x ∙ e))
  relieved-way t watches side r z (Some to) e still (goes left handler x w) =
      let same : (left, handler) ≡ to = same_Some (left, handler) to (sym x ∙ e) in
      let W : List Watch × ℕ → Type 0 = λ p. Route image cert costs p.0 p.1 side r z in
      subst W same w

  settled : (watches : List Watch) (at lo : ℕ) (group : Group) → Into (Going watches at group) (WVal (settle (Waits watches at lo group)))
  settled watches at lo group side n z h = by (any_ready group) (all_ended group) refl refl
    where
      open_rest : any_ready group ≡ false → (h.0 ≡ rest_side (all_ended group)) × (n ≡ h.2) × (z ≡ h.4)
      open_rest e = let x = rests-exact group h.0 h.1 h.3 e h.5 in (x.0, (let a = x.1 in let b = h.7 in omega (arith, a, b)), none-first z h.3 h.4 h.8 x.2)

      by : (b c : Bool) → any_ready group ≡ b → all_ended group ≡ c → WVal (if b then Waits watches at lo group else if c then Leaf watches (Running (at + 1)) else relieved_tree (Waits watches at lo group) (relief watches)) side n z
      by true c e f =
          let W : Bool → Type 0 = λ b. when b (Going watches at group side n z) ((side ≡ ToPause) × (n ≡ 0) × (z ≡ [])) in
          subst W (sym e) h
      by false true e f =
          let x = open_rest e in
          let R : ℕ → List Bool → Type 0 = Route image cert costs watches (at + 1) side in
          subst (λ l. R n l) (sym x.2) (subst (λ m. R m h.4) (sym x.1) (joined watches at h.0 side h.2 h.4 (x.0 ∙ ap rest_side f) h.6))
      by false false e f =
          let x = open_rest e in
          let W : Bool → Type 0 = λ b. when b (Going watches at group side h.2 h.4) ((side ≡ ToPause) × (h.2 ≡ 0) × (h.4 ≡ [])) in
          let R : ℕ → List Bool → Type 0 = WVal (relieved_tree (Waits watches at lo group) (relief watches)) side in
          subst (λ l. R n l) (sym x.2) (subst (λ m. R m h.4) (sym x.1)
          (relieved-way (Waits watches at lo group) watches side h.2 h.4 (relief watches) refl (λ s. subst W (sym e) s) (rested watches at h.0 side h.2 h.4 (x.0 ∙ ap rest_side f) h.6)))

  pub climbed : (context : Context) (t : Tree) → Into (WCVal context (WVal t)) (WVal (climb context t))
  climbed [] t side n z v = v
  climbed (f ∷ fs) t side n z v =
      climbed fs (settle (filled f t)) side n z
      (context-map (WFVal f (WVal t)) (WVal (settle (filled f t)))
      (λ x m l w. settled f.watches f.at f.lo (append_group f.before (member t f.behind)) x m l (w.0, w.1, w.2, w.3, w.4, waround-out t f.before f.behind w.0 w.1 w.3 w.5, w.6, w.7, w.8)) fs side n z v)
