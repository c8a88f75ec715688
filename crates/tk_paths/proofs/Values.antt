-- The numbers that a tree may still come to, and how they change with a part.
use Rattle.std.proofs.Common.{◌≡◌, ◌≤◌, ◌+◌, ℕ, suc, if◌then◌else◌, List, [], ◌∷◌, Some, refl, arith}
use Rattle.mb_pfu.specs.declared.parts.Watch.{Watch}
use Rattle.mb_pfu.specs.Tree.{Running, Pausing, Finished, Tree, Group, Leaf, Waits, no_more, member, append_group}
use Rattle.mb_pfu.specs.Contexts.{filled, Frame, Context, plug}
use Rattle.tk_paths.proofs.Inner.{Image, stack}
use Rattle.tk_paths.specs.declared.view.Side.{Side}
use Rattle.tk_paths.specs.declared.view.Side.TheVariants.{ToPause, ToEnd}
use Rattle.tk_paths.proofs.Conditions.{Cert, both_sides, After}

-- how many entries from the outermost are old
abbrev pub old : List Watch → ℕ
old [] = 0
old (l ∷ watches) = if l.entry.aged then suc (old watches) else 0

-- a value of the second kind is a value of the first, and so much more
abbrev pub Dom : ℕ → (Side → ℕ → Type 0) → (Side → ℕ → Type 0) → Type 0
Dom c V W = (side : Side) (n : ℕ) → W side n → (m : ℕ) × V side m × (c + n ≤ m)

module _ (image : Image) (cert : Cert) where
  abbrev mutual
    pub Val : Tree → Side → ℕ → Type 0
    Val (Leaf watches (Running place)) side n = cert.number side (old watches) place ≡ Some n
    Val (Leaf watches (Pausing place)) side n = (side ≡ ToPause) × (n ≡ 0)
    Val (Leaf watches Finished) side n = (side ≡ ToEnd) × (n ≡ 0)
    Val (Waits watches at lo group) side n = (y : Side) × (g r : ℕ) × GVal group y g × After image cert (stack watches) (old watches) at y side r × (n ≡ g + r)

    pub GVal : Group → Side → ℕ → Type 0
    GVal no_more side n = (side ≡ ToEnd) × (n ≡ 0)
    GVal (member t ts) side n = (x y : Side) × (p q : ℕ) × Val t x p × GVal ts y q × (side ≡ both_sides x y) × (n ≡ p + q)

  -- a group with a part of these values in its middle
  abbrev pub Around : Group → Group → (Side → ℕ → Type 0) → Side → ℕ → Type 0
  Around no_more behind V side n = (x y : Side) × (p q : ℕ) × V x p × GVal behind y q × (side ≡ both_sides x y) × (n ≡ p + q)
  Around (member t ts) behind V side n = (x y : Side) × (p q : ℕ) × Val t x p × Around ts behind V y q × (side ≡ both_sides x y) × (n ≡ p + q)

  abbrev pub FVal : Frame → (Side → ℕ → Type 0) → Side → ℕ → Type 0
  FVal f V side n = (y : Side) × (g r : ℕ) × Around f.before f.behind V y g × After image cert (stack f.watches) (old f.watches) f.at y side r × (n ≡ g + r)

  abbrev pub CVal : Context → (Side → ℕ → Type 0) → Side → ℕ → Type 0
  CVal [] V = V
  CVal (f ∷ fs) V = CVal fs (FVal f V)

  around-dom : (c : ℕ) (V W : Side → ℕ → Type 0) → Dom c V W → (before behind : Group) → Dom c (Around before behind V) (Around before behind W)
  around-dom c V W d no_more behind side n h =
      let r = d h.0 h.2 h.4 in
      (r.0 + h.3, (h.0, h.1, r.0, h.3, r.1, h.5, h.6, refl), omega (arith, r.2, h.7))
  around-dom c V W d (member t ts) behind side n h =
      let r = around-dom c V W d ts behind h.1 h.3 h.5 in
      (h.2 + r.0, (h.0, h.1, h.2, r.0, h.4, r.1, h.6, refl), omega (arith, r.2, h.7))

  pub frame-dom : (c : ℕ) (V W : Side → ℕ → Type 0) → Dom c V W → (f : Frame) → Dom c (FVal f V) (FVal f W)
  frame-dom c V W d f side n h =
      let r = around-dom c V W d f.before f.behind h.0 h.1 h.3 in
      (r.0 + h.2, (h.0, r.0, h.2, r.1, h.4, refl), omega (arith, r.2, h.5))

  pub context-dom : (c : ℕ) (V W : Side → ℕ → Type 0) → Dom c V W → (context : Context) → Dom c (CVal context V) (CVal context W)
  context-dom c V W d [] = d
  context-dom c V W d (f ∷ fs) = context-dom c (FVal f V) (FVal f W) (frame-dom c V W d f) fs

  pub around-in : (t : Tree) (before behind : Group) (side : Side) (n : ℕ) → GVal (append_group before (member t behind)) side n → Around before behind (Val t) side n
  around-in t no_more behind side n h = h
  around-in t (member u us) behind side n h = (h.0, h.1, h.2, h.3, h.4, around-in t us behind h.1 h.3 h.5, h.6, h.7)

  pub around-out : (t : Tree) (before behind : Group) (side : Side) (n : ℕ) → Around before behind (Val t) side n → GVal (append_group before (member t behind)) side n
  around-out t no_more behind side n h = h
  around-out t (member u us) behind side n h = (h.0, h.1, h.2, h.3, h.4, around-out t us behind h.1 h.3 h.5, h.6, h.7)

  pub frame-in : (f : Frame) (t : Tree) → Dom 0 (FVal f (Val t)) (Val (filled f t))
  frame-in f t side n h = (n, (h.0, h.1, h.2, around-in t f.before f.behind h.0 h.1 h.3, h.4, h.5), omega arith)

  pub frame-out : (f : Frame) (t : Tree) → Dom 0 (Val (filled f t)) (FVal f (Val t))
  frame-out f t side n h = (n, (h.0, h.1, h.2, around-out t f.before f.behind h.0 h.1 h.3, h.4, h.5), omega arith)

  pub dom-dom : (c d : ℕ) (V W X : Side → ℕ → Type 0) → Dom c V W → Dom d W X → Dom (c + d) V X
  dom-dom c d V W X p q side n h =
      let r = q side n h in
      let l = p side r.0 r.1 in
      (l.0, l.1, omega (arith, r.2, l.2))

  pub dom-after : (c : ℕ) (V W X : Side → ℕ → Type 0) → Dom 0 V W → Dom c W X → Dom c V X
  dom-after c V W X p q side n h =
      let r = q side n h in
      let l = p side r.0 r.1 in
      (l.0, l.1, omega (arith, r.2, l.2))

  pub dom-same : (V : Side → ℕ → Type 0) → Dom 0 V V
  dom-same V side n h = (n, h, omega arith)

  pub plug-in : (context : Context) (t : Tree) → Dom 0 (CVal context (Val t)) (Val (plug context t))
  plug-in [] t = dom-same (Val t)
  plug-in (f ∷ fs) t =
      dom-dom 0 0 (CVal fs (FVal f (Val t))) (CVal fs (Val (filled f t))) (Val (plug fs (filled f t)))
      (context-dom 0 (FVal f (Val t)) (Val (filled f t)) (frame-in f t) fs) (plug-in fs (filled f t))

  pub plug-out : (context : Context) (t : Tree) → Dom 0 (Val (plug context t)) (CVal context (Val t))
  plug-out [] t = dom-same (Val t)
  plug-out (f ∷ fs) t =
      dom-dom 0 0 (Val (plug fs (filled f t))) (CVal fs (Val (filled f t))) (CVal fs (FVal f (Val t)))
      (plug-out fs (filled f t)) (context-dom 0 (Val (filled f t)) (FVal f (Val t)) (frame-out f t) fs)
