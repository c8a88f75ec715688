-- The words that an image has, as certificates read them.
use Rattle.std.proofs.Common.{◌≡◌, ℕ, ℤ, ◌+◌, false, if◌then◌else◌, Option, Some, None, List, [], ◌∷◌, length, refl, sym, ap, subst, ◌∙◌}
use Rattle.std.proofs.Common.{arith, option_map}
use Rattle.mb_isa.specs.declared.words.Instr.{Instr}
use Rattle.mb_isa.specs.declared.words.Instr.TheVariants.{Addk, Rsubk, Cmp, Or, And, Xor, Mul, Idiv, Bsrl, Bsra, Bsll, Addik, Ori, Andi}
use Rattle.mb_isa.specs.declared.words.Instr.TheVariants.{Xori, Imm, Bri, Beqi, Bnei, Blti, Blei, Bgti, Bgei, Lw, Sw, Lwi, Swi, Loop}
use Rattle.mb_isa.specs.declared.Class.{Class}
use Rattle.mb_isa.specs.Classes.{class_of}
use Rattle.mb_pfu.specs.Tree.{Leaf, Finished}
use Rattle.mb_pfu.specs.Unit.{State}
use Rattle.mb_isa.specs.Control.{Condition, Control, goes, place_of}
use Rattle.mb_isa.specs.Words.{Plan, Go, Work, Refuse, Rest, Conclude, is_barred, goes_to, branched, jump, plan_of}
use Rattle.mb_isa.specs.Words as plan
use Rattle.pt_image.specs.declared.image.Parts.{Parts}
use Rattle.tk_paths.specs.declared.word.Word.{Word}
use Rattle.tk_paths.specs.declared.word.Word.TheVariants.{Does, Jump, Branch}
use Rattle.tk_paths.specs.declared.word.Word.TheVariants as word
use Rattle.tk_paths.specs.Words.{goal_of, word_of, instr_in, instr_at, read_instr, read}
use Rattle.tk_paths.specs.Kinds.{imm_in}
use Rattle.tk_paths.specs.Regions.{behind_half, half, behind, IsUnit, IsWord, AreUnits}
use Rattle.pc_lower.specs.Places.{Has, HasJump, wide, short, HasLoop, wide_loop, short_loop}
use Rattle.pc_lower.specs.Words.{Written, alone, after_imm, IsWork, HasWritten, IsTest, HasBranch, wide_branch, short_branch}
use Rattle.pc_lower.proofs.StepFacts.{leads-to}

any_unit : State
any_unit = record { slots = 0; tree = Leaf [] Finished; links = []; counters = [] }

module _ (image : Parts) where
  -- ---- what words come to

  jump-differs : (place : ℕ) (above : Option ℤ) (o : Option Control) (i : Instr) (upper : Option ℤ) (next : Control) →
      plan.jump image Condition place above any_unit o ≡ Work i upper next → ⊥
  jump-differs place above None i upper next h = cc
  jump-differs place above (Some to) i upper next h = cc

  -- a word that the data do just goes on
  does-of : (upper : Option ℤ) (w : Instr) → IsWork image upper w → (c : Class) × ((p : ℕ) → word_of image p upper w ≡ Does c) ×
      (imm_in (Some w) ≡ None)
  does-of upper (Addk rd ra rb) h = (class_of false (Addk rd ra rb), λ p. refl, refl)
  does-of upper (Rsubk rd ra rb) h = (class_of false (Rsubk rd ra rb), λ p. refl, refl)
  does-of upper (Cmp rd ra rb) h = (class_of false (Cmp rd ra rb), λ p. refl, refl)
  does-of upper (Or rd ra rb) h = (class_of false (Or rd ra rb), λ p. refl, refl)
  does-of upper (And rd ra rb) h = (class_of false (And rd ra rb), λ p. refl, refl)
  does-of upper (Xor rd ra rb) h = (class_of false (Xor rd ra rb), λ p. refl, refl)
  does-of upper (Mul rd ra rb) h = (class_of false (Mul rd ra rb), λ p. refl, refl)
  does-of upper (Idiv rd ra rb) h = (class_of false (Idiv rd ra rb), λ p. refl, refl)
  does-of upper (Bsrl rd ra rb) h = (class_of false (Bsrl rd ra rb), λ p. refl, refl)
  does-of upper (Bsra rd ra rb) h = (class_of false (Bsra rd ra rb), λ p. refl, refl)
  does-of upper (Bsll rd ra rb) h = (class_of false (Bsll rd ra rb), λ p. refl, refl)
  does-of upper (Addik rd ra z) h = (class_of false (Addik rd ra z), λ p. refl, refl)
  does-of upper (Ori rd ra z) h = (class_of false (Ori rd ra z), λ p. refl, refl)
  does-of upper (Andi rd ra z) h = (class_of false (Andi rd ra z), λ p. refl, refl)
  does-of upper (Xori rd ra z) h = (class_of false (Xori rd ra z), λ p. refl, refl)
  does-of upper (Lw rd ra rb) h = (class_of false (Lw rd ra rb), λ p. refl, refl)
  does-of upper (Sw rd ra rb) h = (class_of false (Sw rd ra rb), λ p. refl, refl)
  does-of upper (Lwi rd ra z) h = (class_of false (Lwi rd ra z), λ p. refl, refl)
  does-of upper (Swi rd ra z) h = (class_of false (Swi rd ra z), λ p. refl, refl)
  does-of upper (Bri z) h = absurd (jump-differs 0 upper (branched image Condition 0 upper any_unit z) (Bri z) upper
      (goes Condition 1 any_unit) (h.1 Condition 0 any_unit))
  does-of upper w h = let k = h.1 Condition 0 any_unit in absurd cc

  -- where the branch of a plan goes on
  taken_in : Plan → Option Control
  taken_in (plan.Branch i taken untaken) = taken
  taken_in other = None

  place-back : (p : ℕ) (upper : Option ℤ) (o : Option ℕ) → option_map place_of (goes_to image Condition p upper any_unit o) ≡ o
  place-back p upper None = refl
  place-back p upper (Some to) = refl

  same-goal : (p : ℕ) (upper : Option ℤ) (z imm : ℤ) (i j : Instr) (a b : Control)
      → ◌≡◌ {A = Plan} (plan.Branch i (branched image Condition p upper any_unit z) a)
      (plan.Branch j (branched image Condition p upper any_unit imm) b)
      → goal_of image p upper z ≡ goal_of image p upper imm
  unfolding taken_in
  same-goal p upper z imm i j a b h =
      sym (place-back p upper (goal_of image p upper z))
      ∙ ap (λ (k : Plan). option_map place_of (taken_in k)) h
      ∙ place-back p upper (goal_of image p upper imm)

  -- a branch that the data decide leads where its imm says
  branch-of : (upper : Option ℤ) (imm : ℤ) (w : Instr) (p : ℕ) → IsTest image upper imm w →
      (word_of image p upper w ≡ Branch (goal_of image p upper imm)) × (imm_in (Some w) ≡ None)
  branch-of upper imm (Beqi ra z) p h = (ap Branch (same-goal p upper z imm _ _ _ _ (h.1 Condition p any_unit)), refl)
  branch-of upper imm (Bnei ra z) p h = (ap Branch (same-goal p upper z imm _ _ _ _ (h.1 Condition p any_unit)), refl)
  branch-of upper imm (Blti ra z) p h = (ap Branch (same-goal p upper z imm _ _ _ _ (h.1 Condition p any_unit)), refl)
  branch-of upper imm (Blei ra z) p h = (ap Branch (same-goal p upper z imm _ _ _ _ (h.1 Condition p any_unit)), refl)
  branch-of upper imm (Bgti ra z) p h = (ap Branch (same-goal p upper z imm _ _ _ _ (h.1 Condition p any_unit)), refl)
  branch-of upper imm (Bgei ra z) p h = (ap Branch (same-goal p upper z imm _ _ _ _ (h.1 Condition p any_unit)), refl)
  branch-of upper imm (Bri z) p h = absurd (jump-leads-on p upper _ _ _ _ (h.1 Condition p any_unit))
    where
      jump-leads-on : (place : ℕ) (above : Option ℤ) (o : Option Control) (i : Instr) (taken : Option Control) (next : Control) →
          plan.jump image Condition place above any_unit o ≡ plan.Branch i taken next → ⊥
      jump-leads-on place above None i taken next e = cc
      jump-leads-on place above (Some to) i taken next e = cc
  branch-of upper imm w p h = let k = h.1 Condition p any_unit in absurd cc

  -- ---- what units come to

  -- the unit at a place has this word, and this place is behind it
  abbrev pub UnitTo : ℕ → Word → ℕ → Type 0
  UnitTo p w next = IsUnit image p w × (behind image p ≡ next)

  pub instr-there : (p : ℕ) (w : Instr) → Has image p w → instr_at image p ≡ Some w
  instr-there p w h = ap instr_in h.stands ∙ h.decodes

  pub is-word : (p : ℕ) (w : Instr) → Has image p w → IsWord image p (word_of image p None w)
  is-word p w h = ap (read_instr image p None) (instr-there p w h)

  one-word : (p next : ℕ) (w : Instr) (is : Word) → Has image p w → imm_in (Some w) ≡ None → word_of image p None w ≡ is → p + 1 ≡ next →
      UnitTo p is next
  one-word p next w is h plain comes e =
      let none : half image p ≡ None = ap imm_in (instr-there p w h) ∙ plain in
      (ap (λ o. read image (behind_half o p) o) none ∙ is-word p w h ∙ ap Some comes, ap (λ o. behind_half o p + 1) none ∙ e)

  two-words : (p next : ℕ) (upper : ℤ) (w : Instr) (is : Word) → Has image p (Imm upper) → Has image (p + 1) w → is_barred
      (Some upper) w ≡ false
      → word_of image (p + 1) (Some upper) w ≡ is → p + 2 ≡ next → UnitTo p is next
  two-words p next upper w is h k free comes e =
      let some : half image p ≡ Some upper = ap imm_in (instr-there p (Imm upper) h) in
      let more : p + 1 + 1 ≡ next = omega (arith, e) in (
        ap (λ o. read image (behind_half o p) o) some
            ∙ ap (read_instr image (p + 1) (Some upper)) (instr-there (p + 1) w k)
            ∙ ap (λ b. if b then None else Some (word_of image (p + 1) (Some upper) w)) free
            ∙ ap Some comes,
        ap (λ o. behind_half o p + 1) some ∙ more,
      )

  -- words that the data do are so many units
  pub are-units : (ops : List Written) (from to : ℕ) → HasWritten image ops from to → AreUnits image from (length ops) to
  are-units [] from to h = h
  are-units (alone w ∷ ops) from to h =
      let d = does-of None w h.1 in
      let u = one-word from (from + 1) w (Does d.0) h.0 d.2 (d.1 from) refl in
      (d.0, u.0, subst (λ q. AreUnits image q (length ops) to) (sym u.1) (are-units ops (from + 1) to h.2))
  are-units (after_imm upper w ∷ ops) from to h =
      let d = does-of (Some upper) w h.2 in
      let u = two-words from (from + 2) upper w (Does d.0) h.0 h.1 h.2.0 (d.1 (from + 1)) refl in
      (d.0, u.0, subst (λ q. AreUnits image q (length ops) to) (sym u.1) (are-units ops (from + 2) to h.3))

  pub is-jump : (at next to : ℕ) → HasJump image at next to → UnitTo at (Jump (Some to)) next
  is-jump at next to (wide upper lower h k leads e) =
      two-words at next upper (Bri lower) (Jump (Some to)) h k refl (ap Jump (leads-to image (at + 1) to (Some upper) lower leads)) e
  is-jump at next to (short lower h leads e) = one-word at next (Bri lower) (Jump (Some to)) h refl
      (ap Jump (leads-to image at to None lower leads)) e

  pub is-loop : (most at next : ℕ) → HasLoop image most at next → UnitTo at (word.Loop most) next
  is-loop most at next (wide_loop upper n h k turns e) = two-words at next upper (Loop n) (word.Loop most) h k refl (ap word.Loop turns) e
  is-loop most at next (short_loop h e) = one-word at next (Loop most) (word.Loop most) h refl refl e

  pub is-branch : (w : ℤ → Instr) (at inner out : ℕ) → HasBranch image w at inner out → UnitTo at (Branch (Some out)) inner
  is-branch w at inner out (wide_branch upper lower h k test leads e) =
      let b = branch-of (Some upper) lower (w lower) (at + 1) test in
      two-words at inner upper (w lower) (Branch (Some out)) h k test.0
      (b.0 ∙ ap Branch (leads-to image (at + 1) out (Some upper) lower leads)) e
  is-branch w at inner out (short_branch lower h test leads e) =
      let b = branch-of None lower (w lower) at test in
      one-word at inner (w lower) (Branch (Some out)) h b.1 (b.0 ∙ ap Branch (leads-to image at out None lower leads)) e
