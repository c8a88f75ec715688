-- Each number of a tight certificate has a way: some of the old weak aborts fired, exactly those whose handlers it takes.
use Rattle.std.proofs.Common.{◌≡◌, ◌⊎◌, ◌≤◌, ◌<◌, ◌+◌, ◌-◌, ◌++◌, min, ℕ, zero, suc, Bool, true, false, List, [], ◌∷◌, Some, None, refl, sym, ap, ◌∙◌, subst, inl, inr, ⊎_elim, nat_le, leb-true, append_assoc, arith, length}
use Rattle.std.proofs.lemmas.Bool.{false≢true}
use Rattle.std.proofs.lemmas.Bool.Decides.{nat_tests}
use Rattle.mb_isa.specs.declared.Class.TheVariants as class
use Rattle.mb_isa.specs.Costs.{IsCosts}
use Rattle.mb_pfu.specs.declared.parts.Watch.{Watch}
use Rattle.pt_image.specs.declared.Parts.{Parts}
use Rattle.tk_cert.specs.declared.cert.CertParts.{CertParts}
use Rattle.tk_paths.specs.declared.view.Side.{Side}
use Rattle.tk_paths.specs.declared.view.Side.TheVariants.{ToPause, ToEnd}
use Rattle.tk_paths.specs.declared.word.Word.{Word}
use Rattle.tk_paths.specs.declared.word.Word.TheVariants.{Fork, Abrt, Leave}
use Rattle.tk_paths.specs.Words.{read_instr}
use Rattle.tk_paths.specs.Kinds.{start_of, abort_at}
use Rattle.tk_paths.proofs.SlotFacts.{without_last}
use Rattle.tk_paths.proofs.Inner.{Image}
use Rattle.tk_paths.proofs.Conditions.{Cert, Thread, IsAt, AreAborts, IsFine, IsAccepted}
use Rattle.tk_paths.proofs.Carried.{image_of, cert_of}
use Rattle.tk_paths.proofs.Accepts.{Accepts}
use Rattle.tk_paths.proofs.Controls.{sums}
use Rattle.tk_paths.proofs.Settles.{word-of, read-plain, aborts-of}
use Rattle.tk_paths.specs.Reached.{Has, Handled, Rests, After, Sum}
use Rattle.tk_paths.specs.Tight.{Edge, across, entering, leaving, pausing, forking, ending, IsTight}
use Rattle.tk_paths.proofs.Opens.{open-at, at-open}
use Rattle.tk_paths.proofs.Ways.{Way, passes, enters, leaves, pauses, forks, ends, Rested, stays, goes, Afterwards, joins, rests, Ways, nobody, child}
use Rattle.tk_paths.proofs.Walks.{positive}
use Rattle.tk_paths.proofs.Flags.{made, AreFlags, falses, falses-length, falses-flags, falses-unrelieved, relief-join, flags-join, length-join, made-enter, flags-less, flags-more, without-with, made-more, aged_entry, new_entry}

pub append-one : (a : List ℕ) (x : ℕ) (b : List ℕ) → (a ++ x ∷ []) ++ b ≡ a ++ x ∷ b
append-one a x b = append_assoc a (x ∷ []) b

pub length-last : (a : List ℕ) (x : ℕ) → length (a ++ x ∷ []) ≡ length a + 1
length-last [] x = refl
length-last (y ∷ a) x = let r = length-last a x in omega (arith, r)

module _ (image : Parts) (cert : CertParts) (costs : List ℕ) (ok : Accepts image cert costs) (priced : IsCosts costs) (tight : IsTight image cert costs) where
  abbrev E : Image
  E = image_of image costs

  abbrev D : Cert
  D = cert_of image cert costs

  abbrev acc : IsAccepted E D
  acc = sums image cert costs ok

  abbrev IsIn : ℕ → ℕ → List ℕ → Type 0
  IsIn place s stack = IsAt E D place (Thread s stack [])

  -- entries of a stack, so many of them old, from which something holds
  pub record Flagged (a : List ℕ) (k : ℕ) (P : List Watch → Type 0) : Type 0 where
    pub flags : List Bool
    pub size : length flags ≡ k
    pub are : AreFlags image a flags
    pub holds : P (made image flags a)

  pub flagged-map : (a : List ℕ) (k : ℕ) (P Q : List Watch → Type 0) → ((ws : List Watch) → P ws → Q ws) → Flagged a k P → Flagged a k Q
  flagged-map a k P Q f r = record { flags = r.flags; size = r.size; are = r.are; holds = f (made image r.flags a) r.holds }

  abbrev pub Under : ℕ → Type 0
  Under fuel = (s : ℕ) (a : List ℕ) (k p : ℕ) (side : Side) (n : ℕ) → n ≤ fuel → IsIn p s a → k ≤ length a → Has image cert costs side k p n → Flagged a k (λ ws. Way image cert costs ws p side n)

  fine-at : (p s : ℕ) (a : List ℕ) (w : Word) → IsIn p s a → E.code p None ≡ Some w → IsFine E D p (Thread s a []) w
  fine-at p s a w here word = word-of E D acc p (Thread s a []) w here.0 (λ b. b) (read-plain E D acc p w here.1 word)

  stays-flagged : (a : List ℕ) (k : ℕ) → k ≤ length a → Flagged a k (λ ws. Rested image cert costs ws ToPause 0)
  stays-flagged a k h = record { flags = falses image k; size = falses-length image k; are = falses-flags image k a h; holds = stays (falses-unrelieved image k a) refl refl }

  -- the handler of one of the old weak aborts
  handled : (fuel : ℕ) → Under fuel → (s i k : ℕ) (outside a : List ℕ) (side : Side) (r : ℕ) → r ≤ fuel → length outside ≡ i → k ≤ length a → AreAborts E D s outside a → Handled image cert costs side i a k r →
      Flagged (outside ++ a) (i + k) (λ ws. Rested image cert costs ws side r)
  handled fuel ih s i k outside [] side r f e h b c = absurd c
  handled fuel ih s i zero outside (j ∷ a) side r f e h b c = absurd c
  handled fuel ih s i (suc k) outside (j ∷ a) side r f e h b c =
      ⊎_elim
      (λ x.
      let g = ih s outside i ((abort_at image j).handler) side r f b.1 (omega (arith, e)) x.1 in
      let size : length g.flags ≡ length outside = g.size ∙ sym e in
      let more = true ∷ falses image k in
      let l1 = length-join image g.flags more in
      let l2 = falses-length image k in
      let weak = x.0 in
      record {
        flags = g.flags ++ more;
        size = (let z = g.size in omega (arith, l1, l2, z));
        are = flags-join image outside (j ∷ a) g.flags more size g.are ((λ t. weak), falses-flags image k a (omega (arith, h)));
        holds = goes (made image g.flags outside) ((abort_at image j).handler) (relief-join image outside a g.flags j k size) g.holds;
      })
      (λ x.
      let longer = length-last outside j in
      let q = handled fuel ih s (i + 1) k (outside ++ j ∷ []) a side r f (omega (arith, longer, e)) (omega (arith, h)) b.2 x in
      let F : List ℕ → ℕ → Type 0 = λ l m. Flagged l m (λ ws. Rested image cert costs ws side r) in
      let same : i + 1 + k ≡ i + suc k = omega arith in
      subst (λ l. F l (i + suc k)) (append-one outside j a) (subst (F ((outside ++ j ∷ []) ++ a)) same q))
      c

  pub rested-flagged : (fuel : ℕ) → Under fuel → (p s k : ℕ) (a : List ℕ) (side : Side) (r : ℕ) → r ≤ fuel → IsIn p s a → k ≤ length a → Rests image cert costs a k side r → Flagged a k (λ ws. Rested image cert costs ws side r)
  rested-flagged fuel ih p s k a side r f here h c =
      ⊎_elim
      (λ x.
      let F : Side → ℕ → Type 0 = λ y m. Flagged a k (λ ws. Rested image cert costs ws y m) in
      subst (λ y. F y r) (sym x.0) (subst (F ToPause) (sym x.1) (stays-flagged a k h)))
      (λ x.
      let F : ℕ → Type 0 = λ m. Flagged a m (λ ws. Rested image cert costs ws side r) in
      let same : 0 + k ≡ k = omega arith in
      subst F same (handled fuel ih s 0 k [] a side r f refl h (aborts-of E D acc p s a here.0) x))
      c

  -- children that start
  children : (fuel : ℕ) → Under fuel → (count lo : ℕ) → ((c : ℕ) → lo ≤ c → c < lo + count → IsIn (start_of image c) c []) → (y : Side) (g : ℕ) → g ≤ fuel → Sum image cert costs lo count y g → Ways image cert costs lo count y g
  children fuel ih zero lo at y g f h = nobody refl h.0 h.1
  children fuel ih (suc count) lo at y g f h =
      let e = h.7 in
      let w = ih lo [] 0 (start_of image lo) h.0 h.2 (omega (arith, e, f)) (at lo (omega arith) (omega arith)) (omega arith) h.4 in
      child h.0 h.1 h.2 h.3 count refl (alone w.flags w.holds)
      (children fuel ih count (lo + 1) (λ c x z. at c (omega (arith, x)) (omega (arith, z))) h.1 h.3 (omega (arith, e, f)) h.5) h.6 h.7
    where
      alone : (f : List Bool) → Way image cert costs (made image f []) (start_of image lo) h.0 h.2 → Way image cert costs [] (start_of image lo) h.0 h.2
      alone [] w = w
      alone (b ∷ f) w = w

  pub after-flagged : (fuel : ℕ) → Under fuel → (p s k : ℕ) (a : List ℕ) (y side : Side) (r : ℕ) → r ≤ fuel → IsIn p s a → IsIn (p + 1) s a → k ≤ length a → After image cert costs a k p y side r →
      Flagged a k (λ ws. Afterwards image cert costs ws p y side r)
  after-flagged fuel ih p s k a ToEnd side r f here next h c = flagged-map a k (λ ws. Way image cert costs ws (p + 1) side r) (λ ws. Afterwards image cert costs ws p ToEnd side r) (λ ws w. joins refl w) (ih s a k (p + 1) side r f next h c)
  after-flagged fuel ih p s k a ToPause side r f here next h c = flagged-map a k (λ ws. Rested image cert costs ws side r) (λ ws. Afterwards image cert costs ws p ToPause side r) (λ ws w. rests refl w) (rested-flagged fuel ih p s k a side r f here h c)

  -- a slot that leaves an abort, which may be old
  left-flagged : (outside : List ℕ) (j k : ℕ) (P : List Watch → Type 0) → k ≤ length outside + 1 → Flagged outside (min k (length outside)) P → Flagged (outside ++ j ∷ []) k (λ ws. P (without_last ws))
  left-flagged outside j k P h g = by g.flags g.size g.are g.holds
    where
      by : (f : List Bool) → length f ≡ min k (length outside) → AreFlags image outside f → P (made image f outside) → Flagged (outside ++ j ∷ []) k (λ ws. P (without_last ws))
      by f size are holds =
          let new : Flagged (outside ++ j ∷ []) (min k (length outside)) (λ ws. P (without_last ws)) =
          record {
            flags = f;
            size = size;
            are = flags-more image outside f j are;
            holds = subst P (sym (ap without_last (made-enter image outside f j (omega (arith, size))) ∙ without-with image (new_entry image j) (made image f outside))) holds;
          } in
          let F : ℕ → Type 0 = λ m. Flagged (outside ++ j ∷ []) m (λ ws. P (without_last ws)) in
          ⊎_elim
          (λ l. subst F l new)
          (λ l.
          let whole : length f ≡ length outside = omega (arith, l, size) in
          let longer = length-join image f (false ∷ []) in
          record {
            flags = f ++ false ∷ [];
            size = (let z : length (false ∷ []) ≡ 1 = refl in omega (arith, longer, whole, l, z));
            are = flags-join image outside (j ∷ []) f (false ∷ []) whole are ((λ t. absurd (false≢true t)), tt);
            holds = subst P (sym (ap without_last (made-more image outside f false j whole) ∙ without-with image (aged_entry image j false) (made image f outside))) holds;
          })
          (either k (length outside) h)
        where
          either : (k m : ℕ) → k ≤ m + 1 → (min k m ≡ k) ⊎ (k ≡ m + 1)
          either k m h = told (nat_le k m) refl
            where
              told : (b : Bool) → nat_le k m ≡ b → (min k m ≡ k) ⊎ (k ≡ m + 1)
              told true e = let l : k ≤ m = leb-true k m e in inl (omega (arith, l))
              told false e = let l : m < k = grind (arith, nat_tests, e) in inr (omega (arith, l, h))

  same-kind : (s : ℕ) (a : List ℕ) (p q : ℕ) → IsIn p s a → IsIn q s a → IsAt E D q (D.line p)
  same-kind s a p q here there = (there.0 ∙ sym here.0, there.1)

  from-edge : (fuel : ℕ) → Under fuel → (s : ℕ) (a : List ℕ) (k p : ℕ) (side : Side) (n : ℕ) → n ≤ suc fuel → IsIn p s a → k ≤ length a → Edge image cert costs s a k p side n → Flagged a k (λ ws. Way image cert costs ws p side n)
  from-edge fuel ih s a k p side n f here h (across c q m via at e g) =
      let one = via.costs_one in
      flagged-map a k (λ ws. Way image cert costs ws q side m) (λ ws. Way image cert costs ws p side n) (λ ws w. passes c q m via (same-kind s a p q here (open-at image cert costs q s a at)) w g) (ih s a k q side m (omega (arith, f, g, one)) (open-at image cert costs q s a at) h e)
  from-edge fuel ih s a k p side n f here h (entering j m word e g) =
      let one = positive image cert costs ok priced class.Abrt in
      let fine = (fine-at p s a (Abrt j) here (ap (read_instr image p None) word)).2 in
      let longer = length-last a j in
      let r = ih s (a ++ j ∷ []) k (p + 1) side m (omega (arith, f, g, one)) fine (omega (arith, longer, h)) e in
      let short : length r.flags ≤ length a = (let z = r.size in omega (arith, z, h)) in
      let W : List Watch → Type 0 = λ ws. Way image cert costs ws (p + 1) side m in
      record { flags = r.flags; size = r.size; are = flags-less image a r.flags j short r.are; holds = enters j m word (subst W (made-enter image a r.flags j short) r.holds) g }
  from-edge fuel ih s a k p side n f here h (leaving m word x g) =
      let one = positive image cert costs ok priced class.Leave in
      let fine = fine-at p s a Leave here (ap (read_instr image p None) word) in
      let outside = fine.0 in
      let j = fine.1 in
      let longer = length-last outside j in
      let size = ap (λ (l : List ℕ). length l) fine.2 in
      let L : List ℕ → Type 0 = λ b. Flagged b k (λ ws. Way image cert costs ws p side n) in
      let N : ℕ → Type 0 = λ i. Has image cert costs side (min k i) (p + 1) m in
      let less : length a - 1 ≡ length outside = omega (arith, size, longer) in
      let within : k ≤ length outside + 1 = omega (arith, h, size, longer) in
      subst L (sym fine.2)
      (flagged-map (outside ++ j ∷ []) k (λ ws. Way image cert costs (without_last ws) (p + 1) side m) (λ ws. Way image cert costs ws p side n) (λ ws w. leaves m word w g)
      (left-flagged outside j k (λ ws. Way image cert costs ws (p + 1) side m) within (ih s outside (min k (length outside)) (p + 1) side m (omega (arith, f, g, one)) fine.3 (omega arith) (subst N less x))))
  from-edge fuel ih s a k p side n f here h (pausing r word c g) =
      let one = positive image cert costs ok priced class.Eot in
      flagged-map a k (λ ws. Rested image cert costs ws side r) (λ ws. Way image cert costs ws p side n) (λ ws w. pauses r word w g) (rested-flagged fuel ih p s k a side r (omega (arith, f, g, one)) here h c)
  from-edge fuel ih s a k p side n f here h (forking lo count y x r word sum c g) =
      let one = positive image cert costs ok priced class.Fork in
      let fine = fine-at p s a (Fork lo count) here (ap (read_instr image p None) word) in
      let ws = children fuel ih count lo fine.1.4 y x (omega (arith, f, g, one)) sum in
      flagged-map a k (λ w. Afterwards image cert costs w p y side r) (λ w. Way image cert costs w p side n) (λ w v. forks lo count y x r word ws v g)
      (after-flagged fuel ih p s k a y side r (omega (arith, f, g, one)) here fine.0 h c)
  from-edge fuel ih s a k p side n f here h (ending word x g) = record { flags = falses image k; size = falses-length image k; are = falses-flags image k a h; holds = ends word x g }

  edge-costs : (s : ℕ) (a : List ℕ) (k p : ℕ) (side : Side) (n : ℕ) → Edge image cert costs s a k p side n → 1 ≤ n
  edge-costs s a k p side n (across c q m via at e g) = let one = via.costs_one in omega (arith, one, g)
  edge-costs s a k p side n (entering j m word e g) = let one = positive image cert costs ok priced class.Abrt in omega (arith, one, g)
  edge-costs s a k p side n (leaving m word x g) = let one = positive image cert costs ok priced class.Leave in omega (arith, one, g)
  edge-costs s a k p side n (pausing r word c g) = let one = positive image cert costs ok priced class.Eot in omega (arith, one, g)
  edge-costs s a k p side n (forking lo count y x r word sum c g) = let one = positive image cert costs ok priced class.Fork in omega (arith, one, g)
  edge-costs s a k p side n (ending word x g) = let one = positive image cert costs ok priced class.End in omega (arith, one, g)

  pub way-of : (fuel : ℕ) → Under fuel
  way-of zero s a k p side n f here h e = absurd (let one = edge-costs s a k p side n (tight.edge p s a k side n (at-open image cert costs p s a here) h e) in omega (arith, one, f))
  way-of (suc fuel) s a k p side n f here h e = from-edge fuel (λ s' a' k' p' side' n' f' here' h' e'. way-of fuel s' a' k' p' side' n' f' here' h' e') s a k p side n f here h (tight.edge p s a k side n (at-open image cert costs p s a here) h e)
