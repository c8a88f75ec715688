-- The sections of a flow's program are those of its image, and each is closed.
use Rattle.std.proofs.Common.{◌≡◌, inl, inr, ℕ, suc, ◌+◌, ◌-◌, ◌<◌, ◌≤◌, Bool, true, false, IsTrue, if◌then◌else◌, Option, Some}
use Rattle.std.proofs.Common.{None, List, [], ◌∷◌, ◌++◌, length, slice_get, refl, sym, ap, subst, ◌∙◌, arith, eq-eqb, ⊎_elim}
use Rattle.std.proofs.Common.{length-append}
use Rattle.std.specs.Prelude.{slice_index_or}
use Rattle.std.specs.List.{AllByRecursion}
use Rattle.std.proofs.lemmas.Bool.{cases_eq, ne_eqb}
use Rattle.mb_isa.specs.declared.words.Instr.TheVariants.{End, Ret, Cend}
use Rattle.pt_image.specs.declared.image.Parts.{Parts}
use Rattle.pc_lower.specs.declared.nodes.Test.{Test}
use Rattle.pc_lower.specs.Flow.{Node, Flow, Flows, flows_of, is_weak}
use Rattle.pc_lower.specs.Residuals.{body_at}
use Rattle.pc_lower.specs.Laid.{Placing}
use Rattle.pc_lower.specs.Program.{IsEarlier, HasRoom}
use Rattle.pc_lower.specs.Words.{words_in, Writing}
use Rattle.pc_lower.specs.Numbering.{slots_of, function_of, parent_of, first_started}
use Rattle.pc_lower.specs.Layable.{pauses_in, forks_of, guards_of, numbers_in, IsLayable, IsInstant, IsCalled}
use Rattle.pc_lower.specs.Shaped.{IsLasting}
use Rattle.pc_lower.specs.Shaped as shaped
use Rattle.tk_paths.specs.declared.word.Word.TheVariants as word
use Rattle.tk_paths.specs.Regions.{Region, from, to, links_in, counters_in, IsWord, IsLaid}
use Rattle.tk_paths.specs.Codes.{Code}
use Rattle.tk_paths.specs.Programs.{Section, OfThread, OfRoutine, Program, ends_in, AreSections, IsIn, IsClosed}
use Rattle.tk_paths.specs.Trees.{code_of}
use Rattle.pc_emit.specs.Part.{Part, just}
use Rattle.pc_emit.specs.Code.{size, code}
use Rattle.pc_emit.specs.Image.{slot_of, functions_size, entrances_from, function_code, functions_code, condition_size, conditions_size}
use Rattle.pc_emit.specs.Image.{conditions_words, entrances_of, whole_of, image_of}
use Rattle.pc_emit.specs.Fits.{placed, CanBeEmitted}
use Rattle.pc_regs.specs.Writings.{instrs, NodeWritten}
use Rattle.pc_emit.proofs.Lists.{IsAt, at_moved, at_within}
use Rattle.pc_emit.proofs.Lengths as lengths
use Rattle.pc_emit.proofs.Lengths.{instrs_size}
use Rattle.pc_emit.proofs.Stands.{Spot, past, Stands, first_stands, second_stands, Numbers, first_numbers, second_numbers}
use Rattle.pc_emit.proofs.Made.{IsMade, code_long, has_at, written_at}
use Rattle.pc_emit.proofs.Entrances.{function_long, function_counted}
use Rattle.pc_emit.proofs.Laying.{Starts}
use Rattle.pc_emit.proofs.Whole.{HasThreads, all_body, whole_long, made, tabled, enters, slots_long, conditions_at}
use Rattle.pc_emit.proofs.Whole as wholes
use Rattle.pc_emit.specs.Sections.{calls_in, is_among, is_used, used_calls, counted, numbers_from, region, thread_code}
use Rattle.pc_emit.specs.Sections.{condition_sections, function_section, with_routine, function_sections, numbers_of, sections_of}
use Rattle.pc_emit.specs.Sections.{program_of}
use Rattle.pc_emit.proofs.Units.{is-word, are-units}
use Rattle.pc_emit.proofs.Passing.{IsPassed, passed, region-from, region-to, IsKnown, IsSmall, region-small}
use Rattle.pc_emit.proofs.Regions.{next-at, region-laid}
use Rattle.pc_emit.proofs.Shapes.{EndsAs, thread-entry, thread-exit, thread-lasts, thread-calls}
use Rattle.pc_emit.proofs.Threads.{thread-laid}
use Rattle.pc_emit.proofs.Owners.{slot-is}
use Rattle.pc_emit.proofs.Ending.{Started, starts}
use Rattle.pc_emit.proofs.Calls.{MayCall, may-call, all-given, among-is, later-used, first-used, get-front, get-last, earlier-at}
use Rattle.pc_emit.proofs.Slotted.{is-called, thread-there, fork-ends}
use Rattle.pc_emit.proofs.Apart.{child-above}

module _ (f : Flow) (writing : Writing) (placing : Placing) (further : ℕ) (can : CanBeEmitted f writing placing further)
    (has : HasThreads f) where
  abbrev image : Parts
  image = image_of writing f further

  abbrev whole : Part
  whole = whole_of writing f

  abbrev slots : List ℕ
  slots = slots_of f

  abbrev many : ℕ
  many = length slots

  abbrev entrances : List ℕ
  entrances = entrances_of writing f

  abbrev spots : Placing
  spots = placed f writing placing

  abbrev known : Flows
  known = flows_of f.bodies

  abbrev numbers : List ℕ
  numbers = numbers_of writing f

  abbrev sections : List Section
  sections = sections_of writing f

  abbrev program : Program
  program = program_of writing f

  abbrev ends : ℕ → Bool
  ends = can.laid.shape.ends

  abbrev counts : Spot
  counts = record {
    words = 0;
    pauses = length (numbers_in pauses_in f.bodies);
    forks = length (numbers_in forks_of f.bodies);
    handlers = length f.aborts;
  }

  abbrev behind : List Section
  behind = condition_sections writing f.aborts (functions_size writing f.bodies)

  abbrev sections_from : List Region → ℕ → List Node → ℕ → List Section
  sections_from routines g nodes at = function_sections writing numbers slots (first_started f) routines g nodes at behind

  abbrev Known : List Region → ℕ → Type 0
  Known routines = IsKnown image sections spots numbers routines

  is_made : IsMade image whole
  is_made = made f writing placing further can has

  -- ---- conditions

  conditions-laid : (aborts : List (Bool × Test)) (at : ℕ) → AllByRecursion
      (λ (a : Bool × Test). IsTrue (writing.is_test_written a.1)) aborts → IsAt whole.words at (conditions_words writing aborts)
      → at + conditions_size writing aborts ≡ length image.code → AreSections image at (condition_sections writing aborts at)
  conditions-laid [] at written s e = omega (arith, e)
  conditions-laid (a ∷ aborts) at written s e =
      let ops = writing.test_words_of a.1 in
      let cend = Cend (writing.register_of a.1) in
      let rest = conditions_words writing aborts in
      let close = at + words_in ops in
      let s1 = next-at (instrs ops) (cend ∷ rest) close s (ap (λ n. at + n) (instrs_size ops)) in
      let next : at + condition_size writing a.1 ≡ close + 1 = omega arith in
      let s2 = next-at (cend ∷ []) rest (at + condition_size writing a.1) s1 (omega arith) in (
        refl,
        are-units image ops at close (written_at image whole is_made ops (cend ∷ rest) at close s (can.work.tests a.1 written.0) refl),
        is-word image close cend (has_at image whole is_made close cend rest s1 tt),
        subst (λ k. AreSections image k (condition_sections writing aborts (at + condition_size writing a.1))) next
            (conditions-laid aborts (at + condition_size writing a.1) written.1 s2 (omega (arith, e))),
      )

  conditions-closed : (aborts : List (Bool × Test)) (at : ℕ) → AllByRecursion (IsClosed program) (condition_sections writing aborts at)
  conditions-closed [] at = tt
  conditions-closed (a ∷ aborts) at = (tt, conditions-closed aborts (at + condition_size writing a.1))

  -- ---- functions from a number on

  -- these are the last functions; so many routines stand before
  abbrev pub IsFrom : (g at count : ℕ) → List Node → Type 0
  IsFrom g at count [] = at ≡ functions_size writing f.bodies
  IsFrom g at count (n ∷ nodes) =
      (body_at f.bodies g ≡ n) × (g < length f.bodies) × (spots.entrance g ≡ at) × (slice_index_or numbers g 0 ≡ count)
      × IsFrom (g + 1) (at + size writing n + 1) (counted (slot_of slots g) (is_among g (used_calls slots (g + 1) nodes)) count) nodes

  is-from : (nodes : List Node) (g at count : ℕ) → ((i : ℕ) → i < length nodes → body_at f.bodies (g + i) ≡ body_at nodes i) →
      g + length nodes ≡ length f.bodies
      → ((i : ℕ) → slice_index_or entrances (g + i) 0 ≡ slice_index_or (entrances_from writing nodes at) i 0)
      → ((i : ℕ) → slice_index_or numbers (g + i) 0 ≡ slice_index_or (numbers_from slots count g nodes) i 0)
      → at + functions_size writing nodes ≡ functions_size writing f.bodies → IsFrom g at count nodes
  is-from [] g at count bodies long places numbered e = omega (arith, e)
  is-from (n ∷ nodes) g at count bodies long places numbered e =
      let z : g ≡ g + 0 = omega arith in
      let next : (i : ℕ) → g + 1 + i ≡ g + suc i = λ i. omega arith in (
        ap (body_at f.bodies) z ∙ bodies 0 (omega arith),
        omega (arith, long),
        ap (λ k. slice_index_or entrances k 0) z ∙ places 0,
        ap
            (λ k. slice_index_or numbers k 0) z ∙ numbered 0,
        is-from nodes (g + 1) (at + size writing n + 1) (counted (slot_of slots g) (is_among g (used_calls slots (g + 1) nodes)) count)
            (λ i lt. ap (body_at f.bodies) (next i) ∙ bodies (suc i) (omega (arith, lt))) (omega (arith, long))
            (λ i. ap (λ k. slice_index_or entrances k 0) (next i) ∙ places (suc i))
            (λ i. ap (λ k. slice_index_or numbers k 0) (next i) ∙ numbered (suc i)) (omega (arith, e)),
      )

  -- from the first on
  pub from-first : IsFrom 0 0 0 f.bodies
  from-first =
      let z : (i : ℕ) → 0 + i ≡ i = λ i. omega arith in
      is-from f.bodies 0 0 0 (λ i lt. ap (body_at f.bodies) (z i)) (omega arith) (λ i. ap (λ k. slice_index_or entrances k 0) (z i))
      (λ i. ap (λ k. slice_index_or numbers k 0) (z i)) (omega arith)

  -- what is known of the functions so far that later ones use
  abbrev AllKnown : (g : ℕ) → List Region → List Node → Type 0
  AllKnown g routines nodes = (h : ℕ) → h < g → IsTrue (spots.called h) → is_among h (used_calls slots g nodes) ≡ true → Known routines h

  -- the sections from a function on: they lie in the image, and are closed
  record AreFine (at : ℕ) (rest : List Section) : Type 0 where
    laid : AreSections image at rest
    closed : AllByRecursion (IsClosed program) rest

  module _ (n : Node) (nodes : List Node) (g at : ℕ) (routines : List Region) (p : Spot) (here : p.words ≡ at)
      (num : Numbers counts p (numbers_in pauses_in (n ∷ nodes)) (numbers_in forks_of (n ∷ nodes)) (numbers_in guards_of (n ∷ nodes)))
      (body : body_at f.bodies g ≡ n) (lt : g < length f.bodies) (enter : spots.entrance g ≡ at)
      (all : AllKnown g routines (n ∷ nodes)) where
    abbrev later : List ℕ
    later = used_calls slots (g + 1) nodes

    abbrev end : ℕ
    end = at + size writing n

    early : IsEarlier g n
    early = let e : 0 + g ≡ g = omega arith in subst (IsEarlier g) body
        (subst (λ k. IsEarlier k (body_at f.bodies g)) e (earlier-at f.bodies 0 g can.laid.order lt))

    lasts : IsLasting ends n
    lasts = subst (IsLasting ends) body (can.laid.shape.lasts g lt)

    nests : shaped.loops_in n ≤ 8
    nests = subst (λ m. shaped.loops_in m ≤ 8) body (can.laid.shape.loops g lt)

    written : NodeWritten writing n
    written = subst (NodeWritten writing) body (all_body (NodeWritten writing) f.bodies g can.written.bodies lt)

    -- what a used function calls is known
    calls : is_used (slot_of slots g) (is_among g later) ≡ true → (l k : ℕ) → HasRoom spots n l k → AllByRecursion (Known routines)
        (calls_in n)
    calls used l k room =
        all-given (MayCall spots g) (Known routines) (calls_in n) (may-call spots g n l k room early)
        (λ h among may. all h may.0 may.1 (first-used slots g n nodes h used (among-is h (calls_in n) among)))

    -- ---- a thread

    module _ (c : ℕ) (own : slot_of slots g ≡ Some c) (st : Stands whole p
        (function_code writing entrances slots (first_started f) (Some c) n at)) where
      there : (c < many) × (function_of f c ≡ g)
      there = slot-is slots g c own

      is : body_at f.bodies (function_of f c) ≡ n
      is = ap (body_at f.bodies) there.1 ∙ body

      abbrev thread : Code
      thread = thread_code writing numbers routines n (first_started f c) at

      room : HasRoom spots n 0 0
      room = subst (λ m. HasRoom spots m 0 0) is (can.laid.room c there.0)

      layable : IsLayable known 0 n
      layable = subst (IsLayable known 0) is (can.laid.threads c there.0)

      known-calls : AllByRecursion (Known routines) (calls_in n)
      known-calls = calls (ap (λ o. is_used o (is_among g later)) own) 0 0 room

      thread-fine : (rest : List Section) → code_of c sections ≡ thread → AreFine (end + 1) rest → AreFine at (OfThread c thread ∷ rest)
      thread-fine rest first more =
          let x = code writing entrances c n [] (first_started f c) at in
          let w = just (End ∷ []) in
          let st0 = first_stands whole p x w st in
          let st1 = second_stands whole p x w st in
          let stop : p.words + length x.words ≡ end = let k = lengths.code_size writing entrances c n [] (first_started f c) at in omega
          (arith, k, here) in
          let close = at_moved (End ∷ []) st1.words stop in
          let within = at_within (End ∷ []) close in
          let same = slots_long f writing placing further can has in
          let Q = Started f writing placing further can has c in
          let begun = subst (λ m. Starts Q m (first_started f c)) is
          (starts f writing placing further can has Q c there.0 (λ child fs h. h)) in
          let out = thread-exit writing numbers routines n (first_started f c) at in
          let lie = thread-laid image known (is_weak f.aborts) writing whole counts is_made
          (tabled f writing placing further can has) can.work entrances sections spots (enters f writing placing further can has)
          numbers routines ends c Q (λ child fs h. (
            child-above (parent_of f) c child (length fs) h.0 h.2,
            h.0,
            (let k = h.1 in omega (arith, k, same)),
          )) n [] (first_started f c) at end 0 p here st0
          (first_numbers counts p _ _ _ _ _ _ num) refl layable written begun room lasts nests known-calls refl (omega (arith, within)) in
          let stops = is-word image end End (has_at image whole is_made end End [] close tt) in
          let E = ends_in program.threads in
          let ended : Starts (EndsAs ends E) n (first_started f c) = subst (λ m. Starts (EndsAs ends E) m (first_started f c)) is
          (fork-ends f writing placing further can has c there.0) in
          record {
            laid = (
              sym (thread-entry writing numbers routines n (first_started f c) at),
              lie,
              subst (λ k. IsWord image k word.End) (sym out) stops,
              subst (λ k. AreSections image (k + 1) rest) (sym out) more.laid,
            );
            closed = (
              (
                thread-there f writing placing further can has c there.0 ∙ ap (λ k. Some k) first,
                thread-calls writing numbers routines image sections spots n (first_started f c) at room known-calls,
                thread-lasts writing numbers routines ends E n (first_started f c) at ended lasts,
              ),
              more.closed,
            );
          }

    -- ---- a routine

    module _ (called : IsTrue (spots.called g)) (used : is_used (slot_of slots g) (is_among g later) ≡ true)
        (mine : slice_index_or numbers g 0 ≡ length routines)
        (st : Stands whole p (function_code writing entrances slots (first_started f) None n at)) where
      abbrev routine : Region
      routine = region writing numbers routines n at

      callable : IsCalled f spots g
      callable = can.laid.called g called

      instant : IsInstant n
      instant = subst IsInstant body callable.instant

      passing : IsPassed n
      passing = passed ends n instant lasts

      low : (spots.links g + 1 ≤ 16) × (spots.counters g ≤ 136)
      low = can.laid.shape.low g called

      room-for : (l k : ℕ) → 1 ≤ l → l + spots.links g ≤ 16 → k + spots.counters g ≤ 136 → HasRoom spots n l k
      room-for l k some a b = subst (λ m. HasRoom spots m l k) body (callable.room l k some a b)

      small : IsSmall image sections spots numbers routines (16 - spots.links g) (136 - spots.counters g) (shaped.loops_in n) routine
      small =
          let a = low.0 in
          let b = low.1 in
          let room = room-for (16 - spots.links g) (136 - spots.counters g) (omega (arith, a)) (omega (arith, a)) (omega (arith, b)) in
          region-small image sections spots numbers routines writing n at (16 - spots.links g) (136 - spots.counters g) room
          (calls used (16 - spots.links g) (136 - spots.counters g) room) (omega arith) (omega arith)

      links-few : links_in routine ≤ spots.links g
      links-few = let a = low.0 in let b = small.links in omega (arith, a, b)

      counters-few : counters_in routine ≤ spots.counters g
      counters-few = let a = low.1 in let b = small.counters in omega (arith, a, b)

      abbrev code-words : Part
      code-words = code writing entrances 0 n [] (first_started f 0) at

      close : IsAt whole.words end (Ret ∷ [])
      close =
          let k = lengths.code_size writing entrances 0 n [] (first_started f 0) at in
          at_moved (Ret ∷ []) (second_stands whole p code-words (just (Ret ∷ [])) st).words (omega (arith, k, here))

      routine-laid : IsLaid image routine
      routine-laid =
          let within = at_within (Ret ∷ []) close in
          let layable = subst (IsLayable known 0) body callable.layable in
          let room = low in
          region-laid image writing whole is_made can.work entrances sections spots
          (enters f writing placing further can has) numbers routines known 0 n [] (first_started f 0) at end 0
          (at_moved code-words.words (first_stands whole p code-words (just (Ret ∷ [])) st).words here) passing layable written
          (calls used 1 0 (room-for 1 0 (omega arith) (let a = room.0 in omega (arith, a)) (let b = room.1 in omega (arith, b)))) refl
          (omega (arith, within))

      routine-stops : IsWord image (to routine) word.Ret
      routine-stops = subst (λ k. IsWord image k word.Ret) (sym (region-to writing numbers routines n at passing))
          (is-word image end Ret (has_at image whole is_made end Ret [] close tt))

      routine-known : IsIn (OfRoutine routine) sections → Known (routines ++ routine ∷ []) g
      routine-known listed = record {
        callee = routine;
        there = ap (slice_get (routines ++ routine ∷ [])) mine ∙ get-last routines routine;
        laid = routine-laid;
        starts = region-from writing numbers routines n at ∙ sym enter;
        returns = routine-stops;
        links = links-few;
        counters = counters-few;
        listed = listed;
      }

      routine-fine : (rest : List Section) → AreFine (end + 1) rest → AreFine at (OfRoutine routine ∷ rest)
      routine-fine rest more =
          let few = small.nests in
          let most = nests in
          let a = links-few in
          let b = low.0 in
          record {
            laid = (
              sym (region-from writing numbers routines n at),
              routine-laid,
              omega (arith, few, most),
              omega (arith, a, b),
              routine-stops,
              subst (λ k. AreSections image (k + 1) rest) (sym (region-to writing numbers routines n at passing)) more.laid,
            );
            closed = (small.calls, more.closed);
          }

  known-more : (routines : List Region) (r : Region) (h : ℕ) → Known routines h → Known (routines ++ r ∷ []) h
  known-more routines r h k = record {
    callee = k.callee;
    there = get-front routines (r ∷ []) (slice_index_or numbers h 0) k.callee k.there;
    laid = k.laid;
    starts = k.starts;
    returns = k.returns;
    links = k.links;
    counters = k.counters;
    listed = k.listed;
  }

  -- the functions before and one more
  one-more : (g : ℕ) (n : Node) (nodes : List Node) (routines more : List Region) → AllKnown g routines (n ∷ nodes) →
      ((h : ℕ) → Known routines h → Known more h)
      → (IsTrue (spots.called g) → is_among g (used_calls slots (g + 1) nodes) ≡ true → Known more g) → AllKnown (g + 1) more nodes
  one-more g n nodes routines more all keeps own h lt is among =
      ⊎_elim (λ e. subst (Known more) (sym e) (own (subst (λ k. IsTrue (spots.called k)) e is)
      (subst (λ k. is_among k (used_calls slots (g + 1) nodes) ≡ true) e among)))
      (λ differs. keeps h (all h (omega (arith, lt, differs)) is (later-used slots g n nodes h among))) (cases_eq h g)

  -- a slot's code is found among these sections if its function is one of these
  abbrev Skipped : (g : ℕ) → List Section → Type 0
  Skipped g rest = (c : ℕ) → c < many → g ≤ function_of f c → code_of c sections ≡ code_of c rest

  fine : (nodes : List Node) (g at : ℕ) (routines : List Region) (p : Spot) → p.words ≡ at → Stands whole p
      (functions_code writing entrances slots (first_started f) g nodes at)
      → Numbers counts p (numbers_in pauses_in nodes) (numbers_in forks_of nodes) (numbers_in guards_of nodes) → IsFrom g at
      (length routines) nodes → AllKnown g routines nodes
      → ((x : Section) → IsIn x (sections_from routines g nodes at) → IsIn x sections) → Skipped g (sections_from routines g nodes at) →
      AreFine at (sections_from routines g nodes at)
  fine [] g at routines p here st num from all inside skipped =
      let long = code_long image whole is_made in
      let whole_size = whole_long f writing placing further can has in
      record {
        laid = subst (λ k. AreSections image k behind) (sym from)
            (conditions-laid f.aborts (functions_size writing f.bodies) can.written.conditions
            (conditions_at f writing placing further can has) (omega (arith, long, whole_size)));
        closed = conditions-closed f.aborts (functions_size writing f.bodies);
      }
  fine (n ∷ nodes) g at routines p here st num from all inside skipped =
      by (λ more from' all' inside' skipped'.
      let x = function_code writing entrances slots (first_started f) (slot_of slots g) n at in
      let y = functions_code writing entrances slots (first_started f) (g + 1) nodes (at + size writing n + 1) in
      let h : p.words + length x.words ≡ (at + size writing n + 1) = let k = function_long writing entrances slots (first_started f)
      (slot_of slots g) n at in omega (arith, k, here) in
      fine nodes (g + 1) (at + size writing n + 1) more (past p x) h (second_stands whole p x y st)
      (second_numbers counts p x _ _ _ _ _ _ (function_counted writing entrances slots (first_started f)
      (slot_of slots g) n at) num) from' all' inside' skipped')
      (slot_of slots g) (is_among g (used_calls slots (g + 1) nodes)) refl refl from.4 inside skipped
    where
      st0 : Stands whole p (function_code writing entrances slots (first_started f) (slot_of slots g) n at)
      st0 = first_stands whole p (function_code writing entrances slots (first_started f) (slot_of slots g) n at)
          (functions_code writing entrances slots (first_started f) (g + 1) nodes (at + size writing n + 1)) st

      by : ((more : List Region) → IsFrom (g + 1) (at + size writing n + 1) (length more) nodes → AllKnown (g + 1) more nodes →
          ((z : Section) → IsIn z (sections_from more (g + 1) nodes (at + size writing n + 1)) → IsIn z sections) → Skipped (g + 1)
          (sections_from more (g + 1) nodes (at + size writing n + 1)) → AreFine (at + size writing n + 1)
          (sections_from more (g + 1) nodes (at + size writing n + 1))) → (slot : Option ℕ) (called : Bool) → slot_of slots g ≡ slot →
          is_among g (used_calls slots (g + 1) nodes) ≡ called → IsFrom (g + 1) (at + size writing n + 1)
          (counted slot called (length routines)) nodes
          → ((z : Section) → IsIn z (function_section writing numbers slots (first_started f) routines slot called n at ∷ sections_from
          (with_routine writing numbers slots (first_started f) routines slot called n at) (g + 1) nodes (at + size writing n + 1)) →
          IsIn z sections) → Skipped g (function_section writing numbers slots (first_started f) routines slot called n at
          ∷ sections_from (with_routine writing numbers slots (first_started f) routines slot called n at) (g + 1) nodes
          (at + size writing n + 1)) → AreFine at (function_section writing numbers slots (first_started f) routines slot called n at
          ∷ sections_from (with_routine writing numbers slots (first_started f) routines slot called n at) (g + 1) nodes
          (at + size writing n + 1))
      by go (Some c) called own among from' inside' skipped' =
          let stands = subst (λ o. Stands whole p (function_code writing entrances slots (first_started f) o n at)) own st0 in
          let runs = slot-is slots g c own in
          let code = thread_code writing numbers routines n (first_started f c) at in
          let rest = sections_from (with_routine writing numbers slots (first_started f) routines (Some c) called n at) (g + 1) nodes
          (at + size writing n + 1) in
          let first : code_of c sections ≡ code =
          skipped' c runs.0 (let e = runs.1 in omega (arith, e)) ∙ ap (λ t. if t then code else code_of c rest) (eq-eqb c c refl) in
          let later' : Skipped (g + 1) rest =
          λ d less le. skipped' d less (omega (arith, le)) ∙ ap (λ t. if t then code else code_of d rest)
          (ne_eqb c d (λ e. (let k = runs.1 in let z : function_of f c ≡ function_of f d = ap (function_of f) e in omega
          (arith, k, z, le)))) in
          let own-known : IsTrue (spots.called g) → is_among g (used_calls slots (g + 1) nodes) ≡ true → Known routines g = λ is _. absurd
          ((can.laid.called g is).apart c runs.0 runs.1) in
          thread-fine n nodes g at routines p here num from.0 from.1 from.2 all c own stands rest first
          (go routines from' (one-more g n nodes routines routines all (λ h k. k) own-known) (λ z i. inside' z (inr i)) later')
      by go None true own among from' inside' skipped' =
          let stands = subst (λ o. Stands whole p (function_code writing entrances slots (first_started f) o n at)) own st0 in
          let is = is-called f writing placing further can has g from.1 own in
          let used : is_used (slot_of slots g) (is_among g (used_calls slots (g + 1) nodes)) ≡ true = ap
          (λ o. is_used o (is_among g (used_calls slots (g + 1) nodes))) own ∙ among in
          let r = region writing numbers routines n at in
          let more = routines ++ r ∷ [] in
          let known' = routine-known n nodes g at routines p here num from.0 from.1 from.2 all is used from.3 stands
          (inside' (OfRoutine r) (inl refl)) in
          routine-fine n nodes g at routines p here num from.0 from.1 from.2 all is used from.3 stands
          (sections_from (with_routine writing numbers slots (first_started f) routines None true n at) (g + 1) nodes
          (at + size writing n + 1))
          (go more (subst (λ k. IsFrom (g + 1) (at + size writing n + 1) k nodes) (sym (length-append routines (r ∷ []))) from')
          (one-more g n nodes routines more all (known-more routines r) (λ _ _. known'))
          (λ z i. inside' z (inr i)) (λ d less le. skipped' d less (omega (arith, le))))
      by go None false own among from' inside' skipped' =
          let unknown : IsTrue (spots.called g) → is_among g (used_calls slots (g + 1) nodes) ≡ true → Known routines g = λ _ yes.
          (let e : true ≡ false = sym yes ∙ among in absurd cc) in
          let h = go routines from' (one-more g n nodes routines routines all (λ h k. k) unknown) (λ z i. inside' z (inr i))
          (λ d less le. skipped' d less (omega (arith, le))) in
          record {
            laid = subst (λ k. AreSections image k (sections_from
                (with_routine writing numbers slots (first_started f) routines None false n at) (g + 1) nodes (at + size writing n + 1)))
                (omega arith) h.laid;
            closed = (tt, h.closed);
          }

  pub sections-fine : AreSections image 0 sections × AllByRecursion (IsClosed program) sections
  sections-fine =
      let start : Spot = record { words = 0; pauses = 0; forks = 0; handlers = 0 } in
      let functions = functions_code writing entrances slots (first_started f) 0 f.bodies 0 in
      let h = fine f.bodies 0 0 [] start refl (first_stands whole start functions (just (conditions_words writing f.aborts))
      (wholes.stands f writing placing further can has))
      (wholes.numbers f writing placing further can has) from-first (λ h lt is among. absurd (omega (arith, lt))) (λ x i. i)
      (λ c lt le. refl) in
      (h.laid, h.closed)
