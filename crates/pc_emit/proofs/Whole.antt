-- The image of a flow holds the flow.
use Rattle.std.proofs.Common.{◌≡◌, ℕ, zero, suc, ◌+◌, ◌<◌, ◌≤◌, IsTrue, Some, None, List, [], ◌∷◌, ◌++◌, length, slice_get, refl, sym, ap, subst, ◌∙◌, arith, append-nil, length-append}
use Rattle.std.specs.Prelude.{slice_index_or}
use Rattle.std.specs.List.{AllByRecursion}
use Rattle.std.proofs.lemmas.List.{length-map, get_or-map}
use Rattle.std.proofs.lemmas.List.FromFn.{length-range_with_len}
use Rattle.mb_isa.specs.declared.words.Instr.TheVariants.{End, Ret}
use Rattle.mb_isa.specs.Costs.{IsCosts}
use Rattle.pt_image.specs.declared.image.Parts.{Parts}
use Rattle.pc_lower.specs.Flow.{Node, Flow, Flows, flows_of, is_weak}
use Rattle.pc_lower.specs.Residuals.{body_at}
use Rattle.pc_lower.specs.Places.{slot_start}
use Rattle.pc_lower.specs.Laid.{Placing, HasChildren, Laid}
use Rattle.pc_lower.specs.StepCounts.{Sizes}
use Rattle.pc_lower.specs.Program.{IsThread, IsRoutine}
use Rattle.pc_lower.specs.Words.{Writing, HasSteps, HasTest}
use Rattle.pc_lower.specs.Limits.{threads_of, started_by}
use Rattle.pc_lower.specs.Image.{IsImageOf}
use Rattle.pc_lower.specs.Numbering.{all_started, AreSlots, slots_of, function_of, parent_of, first_started, HaveSlots}
use Rattle.pc_lower.specs.Layable.{pauses_in, forks_of, guards_of, numbers_in}
use Rattle.pc_emit.specs.Part.{Part, joined, just}
use Rattle.pc_emit.specs.Code.{size, short, code}
use Rattle.pc_emit.specs.Image.{slot_of, functions_size, function_code, functions_code, conditions_words, entrances_of, whole_of, code_size, image_of}
use Rattle.pc_regs.specs.Writings.{NodeWritten}
use Rattle.pc_emit.specs.Fits.{placed, CanBeEmitted, AreSizes}
use Rattle.pc_emit.proofs.Lists.{IsAt, at_whole, at_moved, at_within}
use Rattle.pc_emit.proofs.Numbers.{short_is}
use Rattle.pc_emit.proofs.Lengths as lengths
use Rattle.pc_emit.proofs.Stands.{Spot, Stands, first_stands, second_stands, Numbers}
use Rattle.pc_emit.proofs.Made.{IsMade, has_at}
use Rattle.pc_emit.proofs.Laying.{IsTabled, laid}
use Rattle.pc_emit.proofs.Starting.{starts_at, instant_starts, instant_layable, code_instant}
use Rattle.pc_emit.proofs.Entrances.{found_there, found_nowhere, entrance_within, functions_long, functions_counted, Found, find}
use Rattle.pc_emit.proofs.Conditions.{conditions_long, conditions_some, lines_long, line_there, condition_there}

pub all_body : (P : Node → Type 0) (nodes : List Node) (g : ℕ) → AllByRecursion P nodes → g < length nodes → P (body_at nodes g)
all_body P [] g h lt = absurd (omega (arith, lt))
all_body P (n ∷ nodes) zero h lt = h.0
all_body P (n ∷ nodes) (suc g) h lt = all_body P nodes g h.1 (omega (arith, lt))

-- what is known of the slots of a flow
abbrev pub HasThreads : Flow → Type 0
HasThreads f =
    AreSlots f (slots_of f)
    × ((c : ℕ) → c < length (slots_of f) → (before functions behind : List ℕ) →
    started_by f.bodies (function_of f c) ≡ before ++ (functions ++ behind) → HaveSlots f c (first_started f c + length before) functions)

module _ (f : Flow) (writing : Writing) (placing : Placing) (further : ℕ) (can : CanBeEmitted f writing placing further) (has : HasThreads f) where
  abbrev image : Parts
  image = image_of writing f further

  abbrev whole : Part
  whole = whole_of writing f

  abbrev slots : List ℕ
  slots = slots_of f

  abbrev entrances : List ℕ
  entrances = entrances_of writing f

  abbrev functions : Part
  functions = functions_code writing entrances slots (first_started f) 0 f.bodies 0

  abbrev conditions : Part
  conditions = just (conditions_words writing f.aborts)

  abbrev known : Flows
  known = flows_of f.bodies

  abbrev spots : Placing
  spots = placed f writing placing

  abbrev start : Spot
  start = record { words = 0; pauses = 0; forks = 0; handlers = 0 }

  abbrev counts : Spot
  counts = record {
    words = 0;
    pauses = length (numbers_in pauses_in f.bodies);
    forks = length (numbers_in forks_of f.bodies);
    handlers = length f.aborts;
  }

  pub functions_are : length functions.words ≡ functions_size writing f.bodies
  functions_are = functions_long writing entrances slots (first_started f) f.bodies 0 0

  pub whole_long : length whole.words ≡ code_size writing f
  whole_long =
      length-append functions.words conditions.words
      ∙ ap (λ n. n + length conditions.words) functions_are
      ∙ ap (λ n. functions_size writing f.bodies + n) (conditions_long writing f.aborts)

  pub made : IsMade image whole
  made = let e = whole_long in let h = can.code in record { code = refl; room = omega (arith, e, h) }

  pub stands : Stands whole start (joined functions conditions)
  stands = record { words = at_whole whole.words; pauses = at_whole whole.pauses; forks = at_whole whole.forks; handlers = at_whole whole.handlers }

  pub numbers : Numbers counts start (numbers_in pauses_in f.bodies) (numbers_in forks_of f.bodies) (numbers_in guards_of f.bodies)
  numbers =
      let ps = numbers_in pauses_in f.bodies in
      let fs = numbers_in forks_of f.bodies in
      let gs = numbers_in guards_of f.bodies in
      record {
        pauses_at = subst (λ l. IsAt l 0 ps) can.laid.pauses (at_whole ps);
        forks_at = subst (λ l. IsAt l 0 fs) can.laid.forks (at_whole fs);
        guards_at = subst (λ l. IsAt l 0 gs) can.laid.guards (at_whole gs);
      }

  pub handlers_long : length whole.handlers ≡ length f.aborts
  handlers_long =
      ap length (append-nil functions.handlers)
      ∙ (functions_counted writing entrances slots (first_started f) f.bodies 0 0).guards_are
      ∙ ap length can.laid.guards ∙ length-range_with_len 0 (length f.aborts)

  pub slots_long : length image.slots ≡ length slots
  slots_long = length-map slots (λ g. short (slice_index_or entrances g 0))

  pub tabled : IsTabled image whole (is_weak f.aborts) counts
  tabled =
      let many = conditions_some writing f.aborts in
      let long = handlers_long in
      let small = can.code in
      let few = can.laid.few in
      let same = slots_long in
      record {
        pauses = refl;
        forks = refl;
        aborts = λ j handler is lt. let n : j ≡ 0 + j = omega arith in line_there writing f.aborts 0 (functions_size writing f.bodies) whole.handlers j handler (ap (slice_get whole.handlers) (sym n) ∙ is) lt;
        guards = omega (arith, many, long, small);
        few = omega (arith, few, same);
      }

  pub enters : (g : ℕ) → short (slice_index_or entrances g 0) ≡ spots.entrance g
  enters g =
      let h = entrance_within writing f.bodies 0 g in
      let small = can.code in
      short_is (slice_index_or entrances g 0) (omega (arith, h, small))

  found : (g : ℕ) → g < length f.bodies → Found writing entrances slots (first_started f) whole counts g (body_at f.bodies g) (spots.entrance g)
  found g lt =
      let e : 0 + g ≡ g = omega arith in
      subst (λ k. Found writing entrances slots (first_started f) whole counts k (body_at f.bodies g) (spots.entrance g)) e
      (find writing entrances slots (first_started f) whole counts f.bodies 0 0 g start lt refl (first_stands whole start functions conditions stands) numbers)

  abbrev IsLaid : (s : ℕ) → Node → List ℕ → (from to : ℕ) → Type 0
  IsLaid s n a from to = Laid (parent_of f) image known (is_weak f.aborts) (HasSteps image writing) (HasTest image writing) spots s n a from to

  abbrev IsStarted : (s child : ℕ) → List ℕ → Type 0
  IsStarted s child fs = HasChildren (parent_of f) image known (is_weak f.aborts) (HasSteps image writing) (HasTest image writing) spots s child fs

  pub conditions_at : IsAt whole.words (functions_size writing f.bodies) (conditions_words writing f.aborts)
  conditions_at =
      let e = functions_are in
      at_moved (conditions_words writing f.aborts) (second_stands whole start functions conditions stands).words (omega (arith, e))

  -- ---- threads

  children : (c : ℕ) → c < length slots → (before fs behind : List ℕ) → started_by f.bodies (function_of f c) ≡ before ++ (fs ++ behind) → 1 ≤ length fs →
      IsStarted c (first_started f c + length before) fs
  children c lt before fs behind e some =
      let h = has.1 c lt before fs behind e in
      let within = h.within in
      let same = slots_long in
      (some, omega (arith, within, same), h.children, h.run)

  pub starts_here : (c : ℕ) → c < length slots → slot_start image c ≡ spots.entrance (function_of f c)
  starts_here c lt = get_or-map (λ g. short (slice_index_or entrances g 0)) slots c 0 0 lt ∙ enters (function_of f c)

  module _ (sizes : Sizes) (counted : AreSizes f writing sizes) (costs : List ℕ) where
    thread : (c : ℕ) → c < length slots →
        IsThread (parent_of f) image costs f.bodies (is_weak f.aborts) sizes (HasSteps image writing) (HasTest image writing) spots c (function_of f c)
    thread c lt =
        let g = function_of f c in
        let n = body_at f.bodies g in
        let at = spots.entrance g in
        let first = first_started f c in
        let there = can.laid.there c lt in
        let spot = found g there in
        let slot : slot_of slots g ≡ Some c =
        found_there slots 0 c lt (λ d k e. can.laid.once d c k lt e) ∙ (let z : 0 + c ≡ c = omega arith in ap (λ k. Some k) z) in
        let x = code writing entrances c n [] first at in
        let w = just (End ∷ []) in
        let st = subst (λ o. Stands whole spot.spot (function_code writing entrances slots (first_started f) o n at)) slot spot.stands in
        let st0 = first_stands whole spot.spot x w st in
        let st1 = second_stands whole spot.spot x w st in
        let here : spot.spot.words + length x.words ≡ at + size writing n = let k = lengths.code_size writing entrances c n [] first at in let h = spot.here in omega (arith, k, h) in
        let close = at_moved (End ∷ []) st1.words here in
        let lay = can.laid.threads c lt in
        let starts = starts_at (IsStarted c) known spots (threads_of n) first (children c lt) n 0 0 first (at_whole (threads_of n)) (omega arith) (can.laid.room c lt) lay in
        let within = at_within (End ∷ []) close in
        let words = laid (parent_of f) image known (is_weak f.aborts) writing spots whole counts made tabled can.work entrances enters c n [] first at (at + size writing n) 0
        spot.spot spot.here st0 spot.numbers refl lay (all_body (NodeWritten writing) f.bodies g can.written.bodies there) starts refl (omega (arith, within)) in
        record {
          stop = at + size writing n;
          laid = subst (λ from. IsLaid c n [] from (at + size writing n)) (sym (starts_here c lt)) words;
          stops = has_at image whole made (at + size writing n) End [] close tt;
          room = can.laid.room c lt;
          through_bound = (counted.counts g).through_bound;
          reach_bound = (counted.counts g).reach_bound;
        }

    -- ---- routines

    routine : (g : ℕ) → IsTrue (spots.called g) →
        IsRoutine (parent_of f) image costs f.bodies (is_weak f.aborts) sizes (HasSteps image writing) (HasTest image writing) spots g
    routine g is =
        let called = can.laid.called g is in
        let n = body_at f.bodies g in
        let at = spots.entrance g in
        let spot = found g called.there in
        let slot : slot_of slots g ≡ None = found_nowhere slots 0 g (λ d k e. called.apart d k e) in
        let x = code writing entrances 0 n [] (first_started f 0) at in
        let w = just (Ret ∷ []) in
        let st = subst (λ o. Stands whole spot.spot (function_code writing entrances slots (first_started f) o n at)) slot spot.stands in
        let st0 = first_stands whole spot.spot x w st in
        let st1 = second_stands whole spot.spot x w st in
        let here : spot.spot.words + length x.words ≡ at + size writing n = let k = lengths.code_size writing entrances 0 n [] (first_started f 0) at in let h = spot.here in omega (arith, k, h) in
        let close = at_moved (Ret ∷ []) st1.words here in
        let within = at_within (Ret ∷ []) close in
        record {
          passes = called.passes;
          stop = at + size writing n;
          laid = λ s a. laid (parent_of f) image known (is_weak f.aborts) writing spots whole counts made tabled can.work entrances enters s n a 0 at (at + size writing n) (length a)
              spot.spot spot.here (subst (Stands whole spot.spot) (code_instant writing entrances 0 s n [] a (first_started f 0) 0 at called.instant) st0) spot.numbers refl
              (instant_layable (IsStarted s) known spots n 0 (length a) called.instant called.layable)
              (all_body (NodeWritten writing) f.bodies g can.written.bodies called.there)
              (instant_starts (IsStarted s) known spots n 0 called.instant) refl (omega (arith, within));
          stops = has_at image whole made (at + size writing n) Ret [] close tt;
          room = called.room;
          bound = (counted.counts g).routine_bound;
        }

    -- ---- the whole

    pub image_holds : IsCosts costs → IsImageOf (parent_of f) image costs f writing sizes spots
    image_holds priced =
        let same = slots_long in
        let first : slots ≡ f.main ∷ all_started f.bodies slots = has.0 in
        let some : 1 ≤ length slots = let e = ap length first in omega (arith, e) in
        let lines = lines_long writing f.aborts 0 (functions_size writing f.bodies) whole.handlers in
        record {
          compiled = record {
            priced = priced;
            some = omega (arith, some, same);
            starts = ap (λ l. slice_index_or l 0 0) first;
            order = can.laid.order;
            threads = λ c g lt is. subst (IsThread (parent_of f) image costs f.bodies (is_weak f.aborts) sizes (HasSteps image writing) (HasTest image writing) spots c) is (thread c (omega (arith, lt, same)));
            routines = routine;
          };
          conditions = λ j lt. condition_there writing image whole made can.work f.aborts 0 (functions_size writing f.bodies) whole.handlers j (omega (arith, lt, lines)) can.written.conditions conditions_at;
          quiet = λ j lt. can.laid.quiet j (omega (arith, lt, lines));
          words = counted.words;
          test_words = counted.test_words;
        }
