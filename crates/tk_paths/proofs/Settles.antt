-- A slot came to rest, and what is round it settles: no number is more than it was.
use Rattle.std.proofs.Common.{◌≡◌, ◌≤◌, ◌+◌, ℕ, Bool, true, false, if◌then◌else◌, List, [], ◌∷◌, Option, Some, None, refl, sym, ap, ◌∙◌, subst, inl, inr, arith, length}
use Rattle.std.proofs.lemmas.Option.{same_Some}
use Rattle.mb_pfu.specs.declared.parts.Watch.{Watch}
use Rattle.mb_pfu.specs.Tree.{Running, Pausing, Finished, Tree, Group, Leaf, Waits, member, size, any_ready, all_ended, relieved_tree, settle, pause_at, append_group}
use Rattle.mb_pfu.specs.Rows.{relief}
use Rattle.mb_pfu.specs.Contexts.{filled, Frame, Context, climb}
use Rattle.tk_paths.proofs.SlotFacts.{beyond, middle}
use Rattle.tk_paths.specs.declared.word.Word.{Word}
use Rattle.tk_paths.specs.declared.word.Word.TheVariants.{Eot, Fork}
use Rattle.tk_paths.proofs.Inner.{Image, stack}
use Rattle.tk_paths.specs.declared.view.Side.{Side}
use Rattle.tk_paths.specs.declared.view.Side.TheVariants.{ToPause, ToEnd}
use Rattle.tk_paths.proofs.Conditions.{Cert, Line, Thread, IsBare, Pays, Rests, Handled, upper_at, IsPlain, IsAt, AreAborts, IsThreadFine, IsFine, IsAccepted}
use Rattle.tk_paths.proofs.Values.{old, Dom, Val, GVal, FVal, CVal, frame-in, context-dom, dom-dom, dom-same}
use Rattle.tk_paths.proofs.Rights.{AreKept, old-is, old-within, relieves-all, IsWaiting, IsRight, AreRight, IsFrameRight, IsContextRight, size-same, join-right, any-unended, rest_side, rest-values}
use Rattle.mb_isa.specs.declared.Class.TheVariants as class

module _ (image : Image) (cert : Cert) (accepted : IsAccepted image cert) where
  -- the word of a place whose line is known
  pub word-of : (place : ℕ) (line : Line) (w : Word) → cert.line place ≡ line → (IsBare line → ⊥) → image.code place (upper_at image cert place) ≡ Some w → IsFine image cert place line w
  word-of place line w l there c =
      let B : Line → Type 0 = λ x. IsBare x → ⊥ in
      let r = accepted.place place (subst B (sym l) there) in
      let F : Line → Type 0 = λ x. IsFine image cert place x (r.0) in
      let G : Word → Type 0 = IsFine image cert place line in
      subst G (same_Some (r.0) w (sym r.1 ∙ c)) (subst F l r.2)

  -- the word of a listed fork, and of a listed pause
  pub read-plain : (place : ℕ) (w : Word) → IsPlain image cert place → image.code place None ≡ Some w → image.code place (upper_at image cert place) ≡ Some w
  read-plain place w p e = ap (image.code place) p ∙ e

  pub thread-of : (place : ℕ) (line : Line) → cert.line place ≡ line → IsThreadFine image cert place line
  thread-of place line l = subst (IsThreadFine image cert place) l (accepted.thread place)

  pub aborts-of : (place s : ℕ) (a : List ℕ) → cert.line place ≡ Thread s a [] → AreAborts image cert s [] a
  aborts-of place s a l = (thread-of place (Thread s a []) l).0

  -- a tree in the place of another is right, and no number is more
  abbrev pub Good : ℕ → (Side → ℕ → Type 0) → Tree → Type 0
  Good s V u = IsRight image cert s u × Dom 0 V (Val image cert u)

  module _ (s : ℕ) (watches : List Watch) (at lo : ℕ) (group : Group) (waiting : IsWaiting image cert s watches at lo (size group)) (right : AreRight image cert lo group) where
    abbrev tree : Tree
    tree = Waits watches at lo group

    fork-line : cert.line at ≡ Thread s (stack watches) []
    fork-line = (accepted.fork at s (stack watches) waiting.0).line

    next-line : IsAt image cert (at + 1) (Thread s (stack watches) [])
    next-line = (word-of at (Thread s (stack watches) []) (Fork lo (size group)) fork-line (λ b. b) (read-plain at (Fork lo (size group)) (accepted.fork at s (stack watches) waiting.0).plain waiting.1)).0

    settles-by : (b c : Bool) (r : Option (List Watch × ℕ)) → any_ready group ≡ b → all_ended group ≡ c → relief watches ≡ r →
        Good s (Val image cert tree) (if b then tree else if c then Leaf watches (Running (at + 1)) else relieved_tree tree r)
    settles-by true c r eb ec er = ((waiting, any-unended image cert group eb, right), dom-same image cert (Val image cert tree))
    settles-by false true r eb ec er =
        let G : Side → Type 0 = λ side. GVal image cert group side 0 in
        ((next-line.0, waiting.2, next-line.1), λ side n h. (n, (ToEnd, 0, n, subst G (ap (rest_side image cert) ec) (rest-values image cert lo group right eb), h, omega arith), omega arith))
    settles-by false false None eb ec er = ((waiting, ec, right), dom-same image cert (Val image cert tree))
    settles-by false false (Some to) eb ec er =
        let k = waiting.2 in
        let f = relieves-all image cert s k.0 watches to.0 to.1 k.1 (aborts-of at s (stack watches) fork-line) er in
        let G : Side → Type 0 = λ side. GVal image cert group side 0 in (
          (f.line, (f.left_old, f.kept), f.plain),
          λ side n h.
              let h' : cert.number side f.left_old to.1 ≡ Some n = ap (λ j. cert.number side j to.1) (sym (old-is image f.left_old to.0 f.kept)) ∙ h in
              let c : Handled image cert side 0 (stack watches) (old watches) n = subst (λ j. Handled image cert side 0 (stack watches) j n) (sym (old-is image k.0 watches k.1)) (f.covers side n (ap (λ j. cert.number side j to.1) (omega arith) ∙ h')) in
              (n, (ToPause, 0, n, subst G (ap (rest_side image cert) ec) (rest-values image cert lo group right eb), inr c, omega arith), omega arith),
        )

    pub settles : Good s (Val image cert tree) (settle tree)
    settles = settles-by (any_ready group) (all_ended group) (relief watches) refl refl refl

  frame-settles : (s : ℕ) (f : Frame) (t : Tree) → IsFrameRight image cert s f → IsRight image cert (beyond f.lo f.before) t → Good s (Val image cert (filled f t)) (settle (filled f t))
  frame-settles s f t fr r =
      let W : ℕ → Type 0 = λ n. IsWaiting image cert s f.watches f.at f.lo n in
      settles s f.watches f.at f.lo (append_group f.before (member t f.behind)) (subst W (size-same image cert f.before f.behind (Leaf [] Finished) t) fr.0) (join-right image cert f.lo f.before f.behind t fr.1 r fr.2)

  pub climbs : (context : Context) (t : Tree) → IsContextRight image cert context → IsRight image cert (middle context) t → Good 0 (CVal image cert context (Val image cert t)) (climb context t)
  climbs [] t c r = (r, dom-same image cert (Val image cert t))
  climbs (f ∷ fs) t c r =
      let g = frame-settles (middle fs) f t c.0 r in
      let u = climbs fs (settle (filled f t)) c.1 g.0 in
      let V = FVal image cert f (Val image cert t) in
      let W = Val image cert (settle (filled f t)) in (
        u.0,
        dom-dom image cert 0 0 (CVal image cert fs V) (CVal image cert fs W) (Val image cert (climb fs (settle (filled f t))))
            (context-dom image cert 0 V W (dom-dom image cert 0 0 V (Val image cert (filled f t)) W (frame-in image cert f t) g.1) fs) u.1,
      )

  -- a slot pauses
  module _ (s : ℕ) (watches : List Watch) (place : ℕ) (line : cert.line place ≡ Thread s (stack watches) []) (kept : AreKept image watches) (word : image.code place (upper_at image cert place) ≡ Some Eot) where
    abbrev Here : Side → ℕ → Type 0
    Here side n = cert.number side (old watches) place ≡ Some n

    fine : IsFine image cert place (Thread s (stack watches) []) Eot
    fine = word-of place (Thread s (stack watches) []) Eot line (λ b. b) word

    pays : (side : Side) (r : ℕ) → Rests image cert (stack watches) (old watches) side r → Pays (cert.number side (old watches) place) (image.cost class.Eot + r)
    pays side r h =
        let f = fine.1 in
        let e = old-is image kept.0 watches kept.1 in
        let within = old-within image kept.0 watches kept.1 in
        f.1 (old watches) (subst (λ j. j ≤ length (stack watches)) (sym e) within) side r h

    pauses-by : (r : Option (List Watch × ℕ)) → relief watches ≡ r →
        IsRight image cert s (relieved_tree (Leaf watches (Pausing place)) r) × Dom (image.cost class.Eot) Here (Val image cert (relieved_tree (Leaf watches (Pausing place)) r))
    pauses-by None er = (
      (fine.1.0, kept),
      λ side n h.
          let p = pays side 0 (inl (h.0, refl)) in
          (p.0, p.1, omega (arith, p.2, h.1)),
    )
    pauses-by (Some to) er =
        let f = relieves-all image cert s kept.0 watches to.0 to.1 kept.1 (aborts-of place s (stack watches) line) er in (
          (f.line, (f.left_old, f.kept), f.plain),
          λ side n h.
              let h' : cert.number side f.left_old to.1 ≡ Some n = ap (λ j. cert.number side j to.1) (sym (old-is image f.left_old to.0 f.kept)) ∙ h in
              let c : Handled image cert side 0 (stack watches) (old watches) n = subst (λ j. Handled image cert side 0 (stack watches) j n) (sym (old-is image kept.0 watches kept.1)) (f.covers side n (ap (λ j. cert.number side j to.1) (omega arith) ∙ h')) in
              let p = pays side n (inr c) in
              (p.0, p.1, p.2),
        )

    pub pauses : IsRight image cert s (pause_at place (Leaf watches (Running place))) × Dom (image.cost class.Eot) Here (Val image cert (pause_at place (Leaf watches (Running place))))
    pauses = pauses-by (relief watches) refl
