-- A plan is its first part and then the plan of where that leads.
use Rattle.std.proofs.Common.{◌≡◌, ℕ, ◌+◌, ◌-◌, ◌≤◌, ◌++◌, zero, suc, Bool, true, false, if◌then◌else◌, List, [], ◌∷◌, Option, Some, None, refl, sym, ap, ◌∙◌, subst, append_assoc, arith}
use Rattle.std.proofs.lemmas.List.{append-nil}
use Rattle.mb_isa.specs.declared.Instr.{Instr}
use Rattle.mb_isa.specs.declared.Instr.TheVariants as instr
use Rattle.pt_image.specs.declared.Parts.{Parts}
use Rattle.tk_cert.specs.declared.cert.CertParts.{CertParts}
use Rattle.tk_paths.specs.declared.view.Side.{Side}
use Rattle.tk_paths.specs.declared.word.Word.{Word}
use Rattle.tk_paths.specs.declared.word.Word.TheVariants.{Jump, Branch}
use Rattle.tk_paths.specs.Kinds.{abort_at, line_at}
use Rattle.tk_paths.specs.Words.{instr_at}
use Rattle.tk_paths.specs.Acceptance.{stack_of}
use Rattle.tk_paths.specs.Regions.{Region, behind, unit_word}
use Rattle.tk_paths.specs.Greatest.{stays, num, handlers}
use Rattle.tk_paths.specs.Choices.{is_second, Plan, behind_choices, ended_choices, paused_choices, nothing, holding, fit, stretch, handled_plan, resting_plan, stretch_plan, straight_plan, word_plan, plan}
use Rattle.tk_plans.specs.declared.parts.Group.{Group}
use Rattle.tk_plans.specs.declared.parts.Next.{Next}
use Rattle.tk_plans.specs.declared.parts.Next.TheVariants.{On, Handler, Stays}
use Rattle.tk_plans.specs.declared.parts.Part.{Part}
use Rattle.tk_plans.specs.declared.parts.Part.TheVariants.{Open, Whole}
use Rattle.tk_plans.specs.Parts.{group_of, first_in, count_in, joins, joined_by, group_choices, handler_next, rest_next, branch_taken, crossed, crossed_way, straight_next, straight_choices, next_by, choices_by, goes, IsPart}

-- no choice is made
pub no_choice : (old : List Bool) → old ≡ old ++ []
no_choice old = sym (append-nil old)

pub handler_step : (image : Parts) (cert : CertParts) (costs : List ℕ) (side : Side) (i j : ℕ) (stack : List ℕ) (k : ℕ) → 1 ≤ k →
    handler_next image cert costs side i (j ∷ stack) k
    ≡ (if is_second (if (abort_at image j).weak then num image cert costs side i ((abort_at image j).handler) else None) (handlers image cert costs side (i + 1) stack (k - 1)) then
    handler_next image cert costs side (i + 1) stack (k - 1)
    else Handler ((abort_at image j).handler) i)
handler_step image cert costs side i j stack k h = let e : k ≡ suc (k - 1) = omega (arith, h) in ap (handler_next image cert costs side i (j ∷ stack)) e

module _ (image : Parts) (cert : CertParts) (costs : List ℕ) (find : ℕ → Option Region) (next : ℕ → Side → ℕ → Plan) where
  handled-by : (n : ℕ) (side : Side) (i : ℕ) (stack : List ℕ) (k : ℕ) →
      fit n (handled_plan image cert costs next side i stack k) ≡ goes next side n (handler_next image cert costs side i stack k)
  handled-by n side i [] zero = refl
  handled-by n side i [] (suc k) = refl
  handled-by n side i (j ∷ stack) zero = refl
  handled-by n side i (j ∷ stack) (suc k) =
      by (is_second (if (abort_at image j).weak then num image cert costs side i ((abort_at image j).handler) else None) (handlers image cert costs side (i + 1) stack k)) (handled-by n side (i + 1) stack k)
    where
      by : (t : Bool) → fit n (handled_plan image cert costs next side (i + 1) stack k) ≡ goes next side n (handler_next image cert costs side (i + 1) stack k) →
          fit n (if t then handled_plan image cert costs next side (i + 1) stack k else holding (next ((abort_at image j).handler) side i))
          ≡ goes next side n (if t then handler_next image cert costs side (i + 1) stack k else Handler ((abort_at image j).handler) i)
      by true e = e
      by false e = refl

  pub resting-by : (stack : List ℕ) (k : ℕ) (side : Side) → resting_plan image cert costs next stack k side ≡ goes next side k (rest_next image cert costs stack k side)
  resting-by stack k side = by (is_second (stays side) (handlers image cert costs side 0 stack k))
    where
      by : (t : Bool) → (if t then fit k (handled_plan image cert costs next side 0 stack k) else fit k nothing)
          ≡ goes next side k (if t then handler_next image cert costs side 0 stack k else Stays)
      by true = handled-by k side 0 stack k
      by false = refl

  crossed-part : (o : Option Region) (side : Side) (k : ℕ) →
      stretch_plan image cert costs find next o side k ≡ behind_choices (crossed_way image costs o) (goes next side k (crossed o))
  crossed-part None side k = refl
  crossed-part (Some r) side k = refl

  straight-part : (w : Option Word) (place : ℕ) (side : Side) (k : ℕ) →
      straight_plan image cert costs find next w place side k
      ≡ behind_choices (straight_choices image cert costs find w place side k) (goes next side k (straight_next image cert costs find w place side k))
  straight-part None place side k = refl
  straight-part (Some (Jump None)) place side k = refl
  straight-part (Some (Jump (Some goal))) place side k = refl
  straight-part (Some (Branch None)) place side k = refl
  straight-part (Some (Branch (Some goal))) place side k = by (branch_taken image cert costs place goal side k)
    where
      by : (t : Bool) → (if t then behind_choices (true ∷ []) (next goal side k) else behind_choices (false ∷ []) (next (behind image place) side k))
          ≡ behind_choices (t ∷ []) (next (if t then goal else behind image place) side k)
      by true = refl
      by false = refl
  straight-part (Some other) place side k = crossed-part (stretch image find (Some other) place) side k

  word-part : (o : Option Instr) (stack : List ℕ) (place : ℕ) (side : Side) (k : ℕ) →
      word_plan image cert costs find next o stack place side k
      ≡ behind_choices (group_choices image cert costs next (group_of (joined_by image cert costs o stack place side k)) (first_in o) (count_in o))
      (behind_choices (choices_by image cert costs find o place side k)
      (goes next side k (next_by image cert costs find (joined_by image cert costs o stack place side k) o stack place side k)))
  word-part (Some (instr.Abrt j)) stack place side k = refl
  word-part (Some instr.Leave) stack place side k = refl
  word-part (Some instr.Eot) stack place side k = resting-by stack k side
  word-part (Some (instr.Fork lo n)) stack place side k = by (joins image cert costs place lo n stack k side)
    where
      by : (t : Bool) →
          (if t then behind_choices (ended_choices image cert costs next lo n) (next (place + 1) side k)
          else behind_choices (paused_choices image cert costs next lo n) (resting_plan image cert costs next stack k side))
          ≡ behind_choices (group_choices image cert costs next (group_of t) lo n)
          (behind_choices [] (goes next side k (if t then On (place + 1) else rest_next image cert costs stack k side)))
      by true = refl
      by false = ap (λ (p : Plan). behind_choices (paused_choices image cert costs next lo n) p) (resting-by stack k side)
  word-part (Some instr.End) stack place side k = refl
  word-part (Some other) stack place side k = straight-part (unit_word image place) place side k
  word-part None stack place side k = straight-part (unit_word image place) place side k

module _ (next : ℕ → Side → ℕ → Plan) (side : Side) (k : ℕ) where
  composed : (whole rest : Plan) (first second : List Bool) (part : Part) (old mid last new : List Bool) → whole ≡ behind_choices first (behind_choices second rest) →
      mid ≡ old ++ first → last ≡ mid ++ second → IsPart next side k rest part last new → IsPart next side k whole part old new
  composed whole rest first second part old mid last new w m l p = by part p
    where
      answers : whole.0 ≡ rest.0
      answers = ap (λ (x : Plan). x.0) w

      added : last ++ rest.1 ≡ old ++ whole.1
      added =
          ap (λ c. c ++ rest.1) (l ∙ ap (λ c. c ++ second) m) ∙ append_assoc (old ++ first) second rest.1 ∙ append_assoc old first (second ++ rest.1)
          ∙ sym (ap (λ (x : Plan). old ++ x.1) w)

      by : (part : Part) → IsPart next side k rest part last new → IsPart next side k whole part old new
      by (Open q) p = (answers ∙ p.0, p.1 ∙ added)
      by (Whole v) p = (p.0 ∙ sym answers, p.1 ∙ added)

-- the first part of a place's plan
pub part_of : (image : Parts) (cert : CertParts) (costs : List ℕ) (find : ℕ → Option Region) (most place : ℕ) (side : Side) (k : ℕ) (part : Part) (old mid last new : List Bool) → 1 ≤ most →
    mid ≡ old ++ group_choices image cert costs (plan image cert costs find (most - 1)) (group_of (joined_by image cert costs (instr_at image place) (stack_of (line_at cert.lines place)) place side k)) (first_in (instr_at image place)) (count_in (instr_at image place)) →
    last ≡ mid ++ choices_by image cert costs find (instr_at image place) place side k →
    IsPart (plan image cert costs find (most - 1)) side k (goes (plan image cert costs find (most - 1)) side k (next_by image cert costs find (joined_by image cert costs (instr_at image place) (stack_of (line_at cert.lines place)) place side k) (instr_at image place) (stack_of (line_at cert.lines place)) place side k)) part last new →
    IsPart (plan image cert costs find (most - 1)) side k (plan image cert costs find most place side k) part old new
part_of image cert costs find most place side k part old mid last new h m l p =
    let e : most ≡ suc (most - 1) = omega (arith, h) in
    let w = ap (λ n. plan image cert costs find n place side k) e
    ∙ word-part image cert costs find (plan image cert costs find (most - 1)) (instr_at image place) (stack_of (line_at cert.lines place)) place side k in
    composed (plan image cert costs find (most - 1)) side k _ _ _ _ part old mid last new w m l p

-- the same, told step by step
pub part_is : (image : Parts) (cert : CertParts) (costs : List ℕ) (find : ℕ → Option Region) (most place : ℕ) (side : Side) (k : ℕ) (part : Part) (old mid last new : List Bool)
    (joined : Bool) (group : Group) (lo n : ℕ) (to : Next) → 1 ≤ most →
    joined ≡ joined_by image cert costs (instr_at image place) (stack_of (line_at cert.lines place)) place side k → group ≡ group_of joined →
    lo ≡ first_in (instr_at image place) → n ≡ count_in (instr_at image place) →
    mid ≡ old ++ group_choices image cert costs (plan image cert costs find (most - 1)) group lo n →
    last ≡ mid ++ choices_by image cert costs find (instr_at image place) place side k →
    to ≡ next_by image cert costs find joined (instr_at image place) (stack_of (line_at cert.lines place)) place side k →
    IsPart (plan image cert costs find (most - 1)) side k (goes (plan image cert costs find (most - 1)) side k to) part last new →
    IsPart (plan image cert costs find (most - 1)) side k (plan image cert costs find most place side k) part old new
part_is image cert costs find most place side k part old mid last new joined group lo n to some j g f c m l t p =
    let next : ℕ → Side → ℕ → Plan = plan image cert costs find (most - 1) in
    let o : Option Instr = instr_at image place in
    let stack : List ℕ = stack_of (line_at cert.lines place) in
    let P : Next → Type 0 = λ x. IsPart next side k (goes next side k x) part last new in
    let added : mid ≡ old ++ group_choices image cert costs next (group_of (joined_by image cert costs o stack place side k)) (first_in o) (count_in o) =
    m ∙ ap (λ (x : Group). old ++ group_choices image cert costs next x lo n) (g ∙ ap group_of j)
    ∙ ap (λ (x : ℕ). old ++ group_choices image cert costs next (group_of (joined_by image cert costs o stack place side k)) x n) f
    ∙ ap (λ (x : ℕ). old ++ group_choices image cert costs next (group_of (joined_by image cert costs o stack place side k)) (first_in o) x) c in
    part_of image cert costs find most place side k part old mid last new some added l
    (subst P (t ∙ ap (λ (x : Bool). next_by image cert costs find x o stack place side k) j) p)

pub ruleset onwards = (handler_step, no_choice)
