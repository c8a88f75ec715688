-- The choices of children, one child after another.
use Rattle.std.proofs.Common.{◌≡◌, ℕ, ◌+◌, ◌-◌, ◌≤◌, ◌++◌, suc, Bool, true, false, if◌then◌else◌, List, [], Option, refl, sym, ap, ◌∙◌, append_assoc, arith}
use Rattle.std.proofs.lemmas.List.{append-nil}
use Rattle.pt_image.specs.declared.Parts.{Parts}
use Rattle.tk_cert.specs.declared.cert.CertParts.{CertParts}
use Rattle.tk_paths.specs.declared.view.Side.{Side}
use Rattle.tk_paths.specs.declared.view.Side.TheVariants.{ToPause, ToEnd}
use Rattle.tk_paths.specs.Kinds.{start_of}
use Rattle.tk_paths.specs.Sums.{plus, greater, all_ends, most, most_paused}
use Rattle.tk_paths.specs.Acceptance.{begins}
use Rattle.tk_paths.specs.Choices.{Plan, most_choices, paused_choices}
use Rattle.tk_plans.specs.declared.parts.Group.{Group}
use Rattle.tk_plans.specs.declared.parts.Group.TheVariants.{Ending, Resting, Pausing}
use Rattle.tk_plans.specs.Parts.{child_ends, side_by, behind_child, group_choices}

module _ (image : Parts) (cert : CertParts) (costs : List ℕ) where
  abbrev numbers : Side → ℕ → Option ℕ
  numbers = begins image cert costs

  pub all_ends_step : (c n : ℕ) → 1 ≤ n → all_ends (begins image cert costs) c n ≡ plus (begins image cert costs ToEnd c) (all_ends (begins image cert costs) (c + 1) (n - 1))
  all_ends_step c n h = let e : n ≡ suc (n - 1) = omega (arith, h) in ap (all_ends numbers c) e

  pub most_begun_step : (c n : ℕ) → 1 ≤ n →
      most (begins image cert costs) c n ≡ plus (greater (begins image cert costs ToPause c) (begins image cert costs ToEnd c)) (most (begins image cert costs) (c + 1) (n - 1))
  most_begun_step c n h = let e : n ≡ suc (n - 1) = omega (arith, h) in ap (most numbers c) e

  pub paused_begun_step : (c n : ℕ) → 1 ≤ n →
      most_paused (begins image cert costs) c n
      ≡ greater (plus (begins image cert costs ToPause c) (most (begins image cert costs) (c + 1) (n - 1))) (plus (begins image cert costs ToEnd c) (most_paused (begins image cert costs) (c + 1) (n - 1)))
  paused_begun_step c n h = let e : n ≡ suc (n - 1) = omega (arith, h) in ap (most_paused numbers c) e

  module _ (next : ℕ → Side → ℕ → Plan) where
    -- no child
    pub no_child : (old : List Bool) (group : Group) (c n : ℕ) → n ≡ 0 → old ≡ old ++ group_choices image cert costs next group c n
    no_child old group c n h = sym (append-nil old) ∙ sym (ap (λ l. old ++ l) (ap (group_choices image cert costs next group c) h ∙ none group))
      where
        none : (group : Group) → group_choices image cert costs next group c 0 ≡ []
        none Ending = refl
        none Resting = refl
        none Pausing = refl

    -- one child, and the others
    first-child : (group : Group) (c n : ℕ) →
        group_choices image cert costs next group c (suc n)
        ≡ (next (start_of image c) (side_by (child_ends image cert costs group c n)) 0).1
        ++ group_choices image cert costs next (behind_child group (child_ends image cert costs group c n)) (c + 1) n
    first-child Ending c n = refl
    first-child Resting c n = by (child_ends image cert costs Resting c n)
      where
        by : (t : Bool) → (if t then (next (start_of image c) ToEnd 0).1 else (next (start_of image c) ToPause 0).1) ++ most_choices image cert costs next (c + 1) n
            ≡ (next (start_of image c) (side_by t) 0).1 ++ most_choices image cert costs next (c + 1) n
        by true = refl
        by false = refl
    first-child Pausing c n = by (child_ends image cert costs Pausing c n)
      where
        by : (t : Bool) → (if t then (next (start_of image c) ToEnd 0).1 ++ paused_choices image cert costs next (c + 1) n else (next (start_of image c) ToPause 0).1 ++ most_choices image cert costs next (c + 1) n)
            ≡ (next (start_of image c) (side_by t) 0).1 ++ group_choices image cert costs next (behind_child Pausing t) (c + 1) n
        by true = refl
        by false = refl

    pub more_children : (old mid new : List Bool) (group : Group) (c n : ℕ) → 1 ≤ n →
        mid ≡ old ++ (next (start_of image c) (side_by (child_ends image cert costs group c (n - 1))) 0).1 →
        new ≡ mid ++ group_choices image cert costs next (behind_child group (child_ends image cert costs group c (n - 1))) (c + 1) (n - 1) →
        new ≡ old ++ group_choices image cert costs next group c n
    more_children old mid new group c n h f g =
        let e : n ≡ suc (n - 1) = omega (arith, h) in
        let t = child_ends image cert costs group c (n - 1) in
        let rest = group_choices image cert costs next (behind_child group t) (c + 1) (n - 1) in
        g ∙ ap (λ l. l ++ rest) f ∙ append_assoc old ((next (start_of image c) (side_by t) 0).1) rest
        ∙ ap (λ l. old ++ l) (sym (ap (group_choices image cert costs next group c) e ∙ first-child group c (n - 1)))

pub ruleset children = (no_child, more_children)
