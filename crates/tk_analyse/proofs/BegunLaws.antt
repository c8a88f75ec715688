-- The slots with which a tick begins: their states, their answers and their choices, one after another.
use Rattle.std.proofs.Common.{◌≡◌, ℕ, ◌+◌, ◌-◌, ◌≤◌, ◌++◌, suc, Bool, true, false, not, if◌then◌else◌, List, [], ◌∷◌, map, length, Option, Some, None, refl, sym, ap, ◌∙◌, subst, append_assoc, arith}
use Rattle.std.proofs.lemmas.List.{append-nil}
use Rattle.std.specs.List.{range_with_len}
use Rattle.mb_pfu.specs.Tree.{Finished, Waits, slot_of}
use Rattle.mb_pfu.specs.declared.parts.Watch.{Watch}
use Rattle.pt_image.specs.declared.Point.{Point}
use Rattle.pt_image.specs.declared.Parts.{Parts}
use Rattle.tk_cert.specs.declared.cert.State.{State}
use Rattle.tk_cert.specs.declared.cert.State.TheVariants.{Waiting, Ended}
use Rattle.tk_cert.specs.declared.cert.Walk.{Walk}
use Rattle.tk_cert.specs.declared.cert.CertParts.{CertParts}
use Rattle.tk_paths.specs.declared.view.Side.{Side}
use Rattle.tk_paths.specs.declared.view.Side.TheVariants.{ToPause, ToEnd}
use Rattle.tk_paths.specs.Sums.{greater, greatest}
use Rattle.tk_paths.specs.Kinds.{abort_at}
use Rattle.tk_paths.specs.Acceptance.{resumed, begins}
use Rattle.tk_paths.specs.Words.{instr_at}
use Rattle.tk_paths.specs.Walks.{state_of}
use Rattle.tk_paths.specs.Regions.{Region}
use Rattle.tk_paths.specs.Greatest.{best, num, tested, paused, waited, ending_sum, pausing_sum}
use Rattle.tk_paths.specs.Choices.{is_second, Plan, holding, resting_plan}
use Rattle.tk_paths.specs.Dearest.{Begun, Begun_group, ended_slot, empty_group, one_more, resumed_child, plan_or, best_begun, entries, cut_plan, pause_begun, ended_group, most_group, paused_group, waiting, fork_begun, fork_begun_by, slot_begun, start_begun, dearest_begun, dearest_walk}
use Rattle.tk_paths.specs.Told.{joined_paused, joined_ended}
use Rattle.tk_plans.specs.declared.parts.Group.{Group}
use Rattle.tk_plans.specs.declared.parts.Group.TheVariants.{Ending, Resting, Pausing}
use Rattle.tk_plans.specs.declared.parts.Next.{Next}
use Rattle.tk_analyse.specs.declared.walks.Beginning.{Beginning}
use Rattle.tk_analyse.specs.declared.walks.Beginning.TheVariants.{Starts, Resumes, HasEnded}
use Rattle.tk_plans.specs.Parts.{behind_child, group_of, side_by, rest_next, goes}
use Rattle.tk_analyse.specs.Begun.{best_point, at_point, side_where, child_by, cut_by, cut_in, resumed_ends_first, resumed_side, beginning, group_begun}
use Rattle.tk_analyse.specs.Stood.{IsStood, IsGroupStood, IsSet}
use Rattle.tk_analyse.proofs.StoodLaws.{leaf_stood, waits_stood, none_stood, member_stood}
use Rattle.tk_analyse.proofs.PointLaws.{point_begun}
use Rattle.tk_plans.proofs.PartLaws.{resting-by}

-- ---- a slot that has ended

pub ended_states : (slot : ℕ) (old new : List State) → IsSet slot Ended old new → IsStood slot ended_slot.0 old new
ended_states slot old new h = leaf_stood slot [] Finished old new h

pub no_more_choice : (old : List Bool) → old ≡ old ++ []
no_more_choice old = sym (append-nil old)

pub ruleset ending = (ended_states, no_more_choice)

-- ---- children

child-where : (child : Side → ℕ → Begun) (c : ℕ) (o : Option ℕ) (side : Side) → resumed_child o (child side c) ≡ child_by child c (side_where o side)
child-where child c None side = refl
child-where child c (Some n) side = refl

module _ (image : Parts) (cert : CertParts) (costs : List ℕ) (next : ℕ → Side → ℕ → Plan) (child : Side → ℕ → Begun) where
  first-begun : (g : Group) (c n : ℕ) →
      group_begun image cert costs next child g c (suc n)
      ≡ one_more (child_by child c (resumed_side image cert costs g (resumed_ends_first image cert costs g c n) c))
      (group_begun image cert costs next child (behind_child g (resumed_ends_first image cert costs g c n)) (c + 1) n)
  first-begun Ending c n = ap (λ (x : Begun). one_more x (ended_group image cert costs next child (c + 1) n)) (child-where child c (resumed image cert costs ToEnd c) ToEnd)
  first-begun Resting c n = by (resumed_ends_first image cert costs Resting c n)
    where
      by : (t : Bool) →
          one_more (resumed_child (greater (resumed image cert costs ToPause c) (resumed image cert costs ToEnd c)) (if t then child ToEnd c else child ToPause c)) (most_group image cert costs next child (c + 1) n)
          ≡ one_more (child_by child c (side_where (greater (resumed image cert costs ToPause c) (resumed image cert costs ToEnd c)) (side_by t))) (most_group image cert costs next child (c + 1) n)
      by true = ap (λ (x : Begun). one_more x (most_group image cert costs next child (c + 1) n)) (child-where child c (greater (resumed image cert costs ToPause c) (resumed image cert costs ToEnd c)) ToEnd)
      by false = ap (λ (x : Begun). one_more x (most_group image cert costs next child (c + 1) n)) (child-where child c (greater (resumed image cert costs ToPause c) (resumed image cert costs ToEnd c)) ToPause)
  first-begun Pausing c n = by (resumed_ends_first image cert costs Pausing c n)
    where
      by : (t : Bool) →
          (if t then one_more (resumed_child (resumed image cert costs ToEnd c) (child ToEnd c)) (paused_group image cert costs next child (c + 1) n)
          else one_more (child ToPause c) (most_group image cert costs next child (c + 1) n))
          ≡ one_more (child_by child c (resumed_side image cert costs Pausing t c)) (group_begun image cert costs next child (behind_child Pausing t) (c + 1) n)
      by true = ap (λ (x : Begun). one_more x (paused_group image cert costs next child (c + 1) n)) (child-where child c (resumed image cert costs ToEnd c) ToEnd)
      by false = refl

  none-begun : (g : Group) (c : ℕ) → group_begun image cert costs next child g c 0 ≡ empty_group
  none-begun Ending c = refl
  none-begun Resting c = refl
  none-begun Pausing c = refl

  -- the first of some children, and the others
  pub more_begun : (g others : Group) (c n : ℕ) (t : Bool) (side : Option Side) → 1 ≤ n → t ≡ resumed_ends_first image cert costs g c (n - 1) →
      side ≡ resumed_side image cert costs g t c → others ≡ behind_child g t →
      group_begun image cert costs next child g c n ≡ one_more (child_by child c side) (group_begun image cert costs next child others (c + 1) (n - 1))
  more_begun g others c n t side some e f h =
      let one : n ≡ suc (n - 1) = omega (arith, some) in
      ap (group_begun image cert costs next child g c) one ∙ first-begun g c (n - 1)
      ∙ ap (λ (b : Bool). one_more (child_by child c (resumed_side image cert costs g b c)) (group_begun image cert costs next child (behind_child g b) (c + 1) (n - 1))) (sym e)
      ∙ ap (λ (o : Option Side). one_more (child_by child c o) (group_begun image cert costs next child (behind_child g t) (c + 1) (n - 1))) (sym f)
      ∙ ap (λ (x : Group). one_more (child_by child c side) (group_begun image cert costs next child x (c + 1) (n - 1))) (sym h)

  pub none_states : (g : Group) (c n : ℕ) (old : List State) → n ≡ 0 → IsGroupStood c (group_begun image cert costs next child g c n).0 old old
  none_states g c n old h =
      let P : Begun_group → Type 0 = λ x. IsGroupStood c x.0 old old in
      subst P (sym (ap (group_begun image cert costs next child g c) h ∙ none-begun g c)) (none_stood c old)

  pub none_answers : (g : Group) (c n : ℕ) (old : List Bool) → n ≡ 0 → old ≡ old ++ (group_begun image cert costs next child g c n).1.0
  none_answers g c n old h =
      sym (append-nil old) ∙ sym (ap (λ (x : Begun_group). old ++ x.1.0) (ap (group_begun image cert costs next child g c) h ∙ none-begun g c))

  pub none_choices : (g : Group) (c n : ℕ) (old : List Bool) → n ≡ 0 → old ≡ old ++ (group_begun image cert costs next child g c n).1.1
  none_choices g c n old h =
      sym (append-nil old) ∙ sym (ap (λ (x : Begun_group). old ++ x.1.1) (ap (group_begun image cert costs next child g c) h ∙ none-begun g c))

pub ruleset grouping = (none_states, none_answers, none_choices)

module _ (whole : Begun_group) (x : Begun) (g : Begun_group) (e : whole ≡ one_more x g) where
  pub one_states : (c : ℕ) (old mid new : List State) → IsStood c x.0 old mid → IsGroupStood (c + 1) g.0 mid new → IsGroupStood c whole.0 old new
  one_states c old mid new h i = let P : Begun_group → Type 0 = λ w. IsGroupStood c w.0 old new in subst P (sym e) (member_stood c (x.0) (g.0) old mid new h i)

  pub one_answers : (old mid new : List Bool) → mid ≡ old ++ x.1.0 → new ≡ mid ++ g.1.0 → new ≡ old ++ whole.1.0
  one_answers old mid new h i =
      i ∙ ap (λ l. l ++ g.1.0) h ∙ append_assoc old (x.1.0) (g.1.0) ∙ sym (ap (λ (w : Begun_group). old ++ w.1.0) e)

  pub one_choices : (old mid new : List Bool) → mid ≡ old ++ x.1.1 → new ≡ mid ++ g.1.1 → new ≡ old ++ whole.1.1
  one_choices old mid new h i =
      i ∙ ap (λ l. l ++ g.1.1) h ∙ append_assoc old (x.1.1) (g.1.1) ∙ sym (ap (λ (w : Begun_group). old ++ w.1.1) e)

-- ---- conditions that are cut

module _ (image : Parts) (cert : CertParts) (costs : List ℕ) (next : ℕ → Side → ℕ → Plan) where
  pub cut_is : (side : Side) (i : ℕ) (stack : List ℕ) (rest : Option ℕ) →
      cut_plan image cert costs next side i stack rest ≡ cut_by next side (cut_in image cert costs side i stack rest)
  cut_is side i [] rest = refl
  cut_is side i (j ∷ stack) rest =
      by (is_second (if (abort_at image j).weak then None else num image cert costs side i ((abort_at image j).handler)) (tested image cert costs side (i + 1) stack rest)) (cut_is side (i + 1) stack rest)
    where
      by : (t : Bool) → cut_plan image cert costs next side (i + 1) stack rest ≡ cut_by next side (cut_in image cert costs side (i + 1) stack rest) →
          (if t then cut_plan image cert costs next side (i + 1) stack rest else Some (holding (next ((abort_at image j).handler) side i)))
          ≡ cut_by next side (if t then cut_in image cert costs side (i + 1) stack rest else Some ((abort_at image j).handler, i))
      by true e = e
      by false e = refl

  -- ---- the plans of slots that are resumed

  pub rested_own : (find : ℕ → Option Region) (joined : Bool) (ended : Plan) (side : Side) (p : Point) (stack : List ℕ) (to : Next) → joined ≡ false → stack ≡ p.stack →
      to ≡ rest_next image cert costs stack (length stack) side →
      goes next side (length stack) to ≡ (if joined then ended else resting_plan image cert costs next p.stack (length p.stack) side)
  rested_own find joined ended side p stack to is e f =
      ap (goes next side (length stack)) f ∙ sym (resting-by image cert costs find next stack (length stack) side)
      ∙ ap (λ (l : List ℕ). resting_plan image cert costs next l (length l) side) e
      ∙ ap (λ (b : Bool). if b then ended else resting_plan image cert costs next p.stack (length p.stack) side) (sym is)

  pub paused_own : (side : Side) (p : Point) (cut : Option (ℕ × ℕ)) (stack : List ℕ) (behind : Option ℕ) → stack ≡ p.stack →
      behind ≡ num image cert costs side (length stack) (p.at + 1) → cut ≡ cut_in image cert costs side 0 stack behind →
      plan_or (cut_by next side cut) (next (p.at + 1) side (length stack))
      ≡ plan_or (cut_plan image cert costs next side 0 p.stack (num image cert costs side (length p.stack) (p.at + 1))) (next (p.at + 1) side (length p.stack))
  paused_own side p cut stack behind e f c =
      ap (λ (o : Option (ℕ × ℕ)). plan_or (cut_by next side o) (next (p.at + 1) side (length stack))) (c ∙ ap (cut_in image cert costs side 0 stack) f)
      ∙ ap (λ (l : List ℕ). plan_or (cut_by next side (cut_in image cert costs side 0 l (num image cert costs side (length l) (p.at + 1)))) (next (p.at + 1) side (length l))) e
      ∙ ap (λ (o : Option Plan). plan_or o (next (p.at + 1) side (length p.stack))) (sym (cut_is side 0 p.stack (num image cert costs side (length p.stack) (p.at + 1))))

  -- ---- a slot that is resumed

  pub slot_forks : (deep s : ℕ) (side : Side) (a b : Option ℕ) (t : Bool) (q : Option Point) → 1 ≤ deep → a ≡ best (paused image cert costs side) s image.pauses →
      b ≡ best (waited image cert costs side) s image.forks → t ≡ is_second a b → t ≡ true →
      q ≡ best_point (waited image cert costs side) s image.forks →
      slot_begun image cert costs next deep side s
      ≡ at_point (λ p. fork_begun_by image cert costs next (slot_begun image cert costs next (deep - 1)) (instr_at image p.at) side p) q
  slot_forks deep s side a b t q some ea eb e is f =
      let test : is_second (best (paused image cert costs side) s image.pauses) (best (waited image cert costs side) s image.forks) ≡ t =
      ap (λ (o : Option ℕ). is_second o (best (waited image cert costs side) s image.forks)) (sym ea) ∙ ap (is_second a) (sym eb) ∙ sym e in
      let one : deep ≡ suc (deep - 1) = omega (arith, some) in
      let begun : Point → Begun = λ p. fork_begun_by image cert costs next (slot_begun image cert costs next (deep - 1)) (instr_at image p.at) side p in
      ap (λ n. slot_begun image cert costs next n side s) one
      ∙ ap (λ (b : Bool). if b then best_begun (waited image cert costs side) begun s image.forks else best_begun (paused image cert costs side) (pause_begun image cert costs next side) s image.pauses) (test ∙ is)
      ∙ point_begun (waited image cert costs side) begun s image.forks ∙ ap (at_point begun) (sym f)

  pub slot_pauses : (deep s : ℕ) (side : Side) (a b : Option ℕ) (t : Bool) (q : Option Point) → 1 ≤ deep → a ≡ best (paused image cert costs side) s image.pauses →
      b ≡ best (waited image cert costs side) s image.forks → t ≡ is_second a b → t ≡ false →
      q ≡ best_point (paused image cert costs side) s image.pauses →
      slot_begun image cert costs next deep side s ≡ at_point (pause_begun image cert costs next side) q
  slot_pauses deep s side a b t q some ea eb e is f =
      let test : is_second (best (paused image cert costs side) s image.pauses) (best (waited image cert costs side) s image.forks) ≡ t =
      ap (λ (o : Option ℕ). is_second o (best (waited image cert costs side) s image.forks)) (sym ea) ∙ ap (is_second a) (sym eb) ∙ sym e in
      let one : deep ≡ suc (deep - 1) = omega (arith, some) in
      let begun : Point → Begun = λ p. fork_begun_by image cert costs next (slot_begun image cert costs next (deep - 1)) (instr_at image p.at) side p in
      ap (λ n. slot_begun image cert costs next n side s) one
      ∙ ap (λ (b : Bool). if b then best_begun (waited image cert costs side) begun s image.forks else best_begun (paused image cert costs side) (pause_begun image cert costs next side) s image.pauses) (test ∙ is)
      ∙ point_begun (paused image cert costs side) (pause_begun image cert costs next side) s image.pauses ∙ ap (at_point (pause_begun image cert costs next side)) (sym f)

  -- ---- a slot that waits

  module _ (child : Side → ℕ → Begun) (side : Side) (p : Point) (lo n : ℕ) where
    abbrev pausing_way : Option ℕ
    pausing_way = joined_paused image cert costs side p lo n

    abbrev ending_way : Option ℕ
    ending_way = joined_ended image cert costs side p lo n

    pub uncut_is : (cut : Option (ℕ × ℕ)) (a b : Option ℕ) (joined : Bool) → a ≡ joined_paused image cert costs side p lo n → b ≡ joined_ended image cert costs side p lo n →
        cut ≡ cut_in image cert costs side 0 p.stack (greater a b) → cut ≡ None → joined ≡ is_second a b →
        fork_begun image cert costs next child side p lo n
        (cut_plan image cert costs next side 0 p.stack (greater (joined_paused image cert costs side p lo n) (joined_ended image cert costs side p lo n)))
        ≡ waiting image cert costs next child p lo (group_begun image cert costs next child (group_of joined) lo n)
        (if joined then next (p.at + 1) side (length p.stack) else resting_plan image cert costs next p.stack (length p.stack) side)
    uncut_is cut a b joined ea eb c none j =
        ap (fork_begun image cert costs next child side p lo n)
        (cut_is side 0 p.stack (greater pausing_way ending_way)
        ∙ ap (λ (o : Option ℕ). cut_by next side (cut_in image cert costs side 0 p.stack o)) (ap (λ (o : Option ℕ). greater o ending_way) (sym ea) ∙ ap (greater a) (sym eb))
        ∙ ap (cut_by next side) (sym c ∙ none))
        ∙ by (is_second pausing_way ending_way)
        ∙ ap way (ap (λ (o : Option ℕ). is_second o ending_way) (sym ea) ∙ ap (is_second a) (sym eb) ∙ sym j)
      where
        way : Bool → Begun
        way t =
            waiting image cert costs next child p lo (group_begun image cert costs next child (group_of t) lo n)
            (if t then next (p.at + 1) side (length p.stack) else resting_plan image cert costs next p.stack (length p.stack) side)

        by : (t : Bool) →
            (if t then waiting image cert costs next child p lo (ended_group image cert costs next child lo n) (next (p.at + 1) side (length p.stack))
            else waiting image cert costs next child p lo (paused_group image cert costs next child lo n) (resting_plan image cert costs next p.stack (length p.stack) side))
            ≡ waiting image cert costs next child p lo (group_begun image cert costs next child (group_of t) lo n)
            (if t then next (p.at + 1) side (length p.stack) else resting_plan image cert costs next p.stack (length p.stack) side)
        by true = refl
        by false = refl

    pub cut_off : (cut : Option (ℕ × ℕ)) (a b : Option ℕ) (handler level : ℕ) → a ≡ joined_paused image cert costs side p lo n → b ≡ joined_ended image cert costs side p lo n →
        cut ≡ cut_in image cert costs side 0 p.stack (greater a b) → cut ≡ Some (handler, level) →
        fork_begun image cert costs next child side p lo n
        (cut_plan image cert costs next side 0 p.stack (greater (joined_paused image cert costs side p lo n) (joined_ended image cert costs side p lo n)))
        ≡ (
          Waits (entries image p.stack) p.at lo
              (group_begun image cert costs next child (group_of (not (is_second (ending_sum image cert costs lo n) (pausing_sum image cert costs lo n)))) lo n).0,
          holding (next handler side level),
        )
    cut_off cut a b handler level ea eb c some =
        ap (fork_begun image cert costs next child side p lo n)
        (cut_is side 0 p.stack (greater pausing_way ending_way)
        ∙ ap (λ (o : Option ℕ). cut_by next side (cut_in image cert costs side 0 p.stack o)) (ap (λ (o : Option ℕ). greater o ending_way) (sym ea) ∙ ap (greater a) (sym eb))
        ∙ ap (cut_by next side) (sym c ∙ some))
        ∙ by (is_second (ending_sum image cert costs lo n) (pausing_sum image cert costs lo n))
      where
        told : Group → Begun
        told g = (Waits (entries image p.stack) p.at lo (group_begun image cert costs next child g lo n).0, holding (next handler side level))

        other : Begun_group → Begun
        other g = (Waits (entries image p.stack) p.at lo g.0, holding (next handler side level))

        by : (t : Bool) → other (if t then paused_group image cert costs next child lo n else ended_group image cert costs next child lo n) ≡ told (group_of (not t))
        by true = refl
        by false = refl

pub pair_some : (cut : Option (ℕ × ℕ)) (x : ℕ × ℕ) (handler level : ℕ) → cut ≡ Some x → handler ≡ x.0 → level ≡ x.1 → cut ≡ Some (handler, level)
pair_some cut x handler level e h l = e ∙ ap Some (λ i. (sym h i, sym l i))

-- how the children of a slot that is cut go
pub cut_how : (a b x y : Option ℕ) (t : Bool) (how : Group) → a ≡ x → b ≡ y → t ≡ is_second a b → how ≡ group_of (not t) → how ≡ group_of (not (is_second x y))
cut_how a b x y t how ea eb e h =
    h ∙ ap (λ (c : Bool). group_of (not c)) (e ∙ ap (λ (o : Option ℕ). is_second o b) ea ∙ ap (is_second x) eb)

pub waited_states : (slot at lo : ℕ) (ws : List Watch) (groups : Group → Begun_group) (how other : Group) (old mid new : List State) → how ≡ other →
    IsSet slot (Waiting at) old mid → IsGroupStood lo (groups how).0 mid new → IsStood slot (Waits ws at lo (groups other).0) old new
waited_states slot at lo ws groups how other old mid new e h i =
    let P : Group → Type 0 = λ g. IsStood slot (Waits ws at lo (groups g).0) old new in
    subst P e (waits_stood slot at lo ws ((groups how).0) old mid new h i)

-- ---- the whole tick

module _ (image : Parts) (cert : CertParts) (costs : List ℕ) (next : ℕ → Side → ℕ → Plan) where
  abbrev begins_by : Beginning → Begun
  begins_by (Starts side) = start_begun image cert costs next side
  begins_by (Resumes side) = slot_begun image cert costs next (length image.slots) side 0
  begins_by HasEnded = ended_slot

  dearest-by : dearest_begun image cert costs next ≡ begins_by (beginning image cert costs)
  dearest-by =
      by (is_second (begins image cert costs ToPause 0)
      (Some (greatest (begins image cert costs ToEnd 0 ∷ resumed image cert costs ToPause 0 ∷ resumed image cert costs ToEnd 0 ∷ []))))
      (is_second (begins image cert costs ToEnd 0) (Some (greatest (resumed image cert costs ToPause 0 ∷ resumed image cert costs ToEnd 0 ∷ []))))
      (is_second (resumed image cert costs ToPause 0) (Some (greatest (resumed image cert costs ToEnd 0 ∷ []))))
      (is_second (resumed image cert costs ToEnd 0) (Some 0))
    where
      by : (a b c d : Bool) →
          (if a then
          (if b then
          (if c then
          (if d then ended_slot else slot_begun image cert costs next (length image.slots) ToEnd 0)
          else slot_begun image cert costs next (length image.slots) ToPause 0)
          else start_begun image cert costs next ToEnd)
          else start_begun image cert costs next ToPause)
          ≡ begins_by (if a then (if b then (if c then (if d then HasEnded else Resumes ToEnd) else Resumes ToPause) else Starts ToEnd) else Starts ToPause)
      by true true true true = refl
      by true true true false = refl
      by true true false d = refl
      by true false c d = refl
      by false b c d = refl

  pub walk_is : (how : Beginning) (b : Begun) (walk : Walk) (states : List State) (answers choices : List Bool) → how ≡ beginning image cert costs → b ≡ begins_by how →
      walk.states ≡ states → states ≡ map (λ s. state_of (slot_of s b.0)) (range_with_len 0 (length image.slots)) → walk.choices ≡ answers ++ choices →
      answers ≡ b.1.0 → choices ≡ b.1.1 → walk ≡ dearest_walk image cert costs next
  walk_is how b walk states answers choices e f s t c a d =
      let told : Begun → Walk = λ x. record { states = map (λ q. state_of (slot_of q x.0)) (range_with_len 0 (length image.slots)); choices = x.1.0 ++ x.1.1 } in
      let listed : List State → List Bool → Walk = λ x y. record { states = x; choices = y } in
      ap (λ x. listed x walk.choices) (s ∙ t)
      ∙ ap (listed (map (λ q. state_of (slot_of q b.0)) (range_with_len 0 (length image.slots)))) (c ∙ ap (λ l. l ++ choices) a ∙ ap (λ l. b.1.0 ++ l) d)
      ∙ ap told (f ∙ ap begins_by e ∙ sym dearest-by)

-- the same slot, told otherwise
module _ (whole x : Begun) (e : whole ≡ x) where
  pub same_states : (s : ℕ) (old new : List State) → IsStood s x.0 old new → IsStood s whole.0 old new
  same_states s old new h = let P : Begun → Type 0 = λ w. IsStood s w.0 old new in subst P (sym e) h

  pub same_answers : (old new : List Bool) → new ≡ old ++ x.1.0 → new ≡ old ++ whole.1.0
  same_answers old new h = h ∙ sym (ap (λ (w : Begun). old ++ w.1.0) e)

  pub same_choices : (old new : List Bool) → new ≡ old ++ x.1.1 → new ≡ old ++ whole.1.1
  same_choices old new h = h ∙ sym (ap (λ (w : Begun). old ++ w.1.1) e)
