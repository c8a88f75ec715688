-- The image of a flow holds the flow's program.
use Rattle.std.proofs.Common.{◌≡◌, inl, inr, ℕ, zero, suc, ◌+◌, ◌<◌, ◌≤◌, Bool, Option, Some, None, List, [], ◌∷◌, ◌++◌, length}
use Rattle.std.proofs.Common.{slice_get, refl, sym, ap, subst, ◌∙◌, arith, ⊎_elim, append-nil, length-append}
use Rattle.std.specs.Prelude.{slice_index_or}
use Rattle.std.specs.List.{AllByRecursion, range_with_len}
use Rattle.std.proofs.lemmas.List.{length-map}
use Rattle.std.proofs.lemmas.List.FromFn.{length-range_with_len}
use Rattle.pt_image.specs.declared.image.Point.{Point}
use Rattle.pt_image.specs.declared.image.Parts.{Parts}
use Rattle.pc_lower.specs.declared.nodes.Test.{Test}
use Rattle.pc_lower.specs.Flow.{Node, Flow}
use Rattle.pc_lower.specs.Residuals.{body_at}
use Rattle.pc_lower.specs.Laid.{Placing}
use Rattle.pc_lower.specs.Program.{HasRoom}
use Rattle.pc_lower.specs.Words.{words_in, Writing}
use Rattle.pc_lower.specs.Limits.{threads_of}
use Rattle.pc_lower.specs.Numbering.{slots_of, function_of, parent_of, first_started}
use Rattle.pc_lower.specs.Layable.{IsInstant}
use Rattle.tk_paths.specs.Kinds.{start_of, abort_at, no_abort}
use Rattle.tk_paths.proofs.Lists.{all-among}
use Rattle.tk_paths.specs.Regions.{Region}
use Rattle.tk_paths.specs.Codes.{Code, entry, exit}
use Rattle.tk_paths.specs.Programs.{Section, OfThread, OfRoutine, OfCondition, Unused, Program, IsIn, IsInThread, IsPauseIn, IsForkIn}
use Rattle.tk_paths.specs.Programs.{IsProgram}
use Rattle.pc_emit.specs.Part.{Part, joined, just}
use Rattle.pc_emit.specs.Code.{size, short, code}
use Rattle.pc_emit.specs.Image.{slot_of, closing, functions_size, function_code, functions_code, condition_size, conditions_size}
use Rattle.pc_emit.specs.Image.{conditions_words, abort_lines, entrances_of, whole_of, image_of}
use Rattle.pc_emit.specs.Fits.{placed, CanBeEmitted}
use Rattle.pc_emit.proofs.Lists.{IsAt, at_first, at_within, all_append}
use Rattle.pc_emit.proofs.Numbers.{short_is}
use Rattle.pc_emit.proofs.Lengths as lengths
use Rattle.pc_emit.proofs.Conditions.{lines_long}
use Rattle.pc_emit.proofs.Entrances.{function_long}
use Rattle.pc_emit.proofs.Laying.{Starts}
use Rattle.pc_emit.proofs.Whole.{HasThreads, whole_long, made, slots_long, starts_here}
use Rattle.pc_emit.proofs.Whole as wholes
use Rattle.pc_emit.specs.Sections.{is_among, used_calls, thread_code, condition_sections, function_sections, with_routine, numbers_of}
use Rattle.pc_emit.specs.Sections.{sections_of, program_of}
use Rattle.pc_emit.proofs.Passing.{get-within}
use Rattle.pc_emit.proofs.Regions.{next-at}
use Rattle.pc_emit.proofs.Shapes.{thread-entry, thread-exit}
use Rattle.pc_emit.proofs.Owners.{slot-is}
use Rattle.pc_emit.proofs.Ending.{Started, starts}
use Rattle.pc_emit.proofs.Points.{IsBare, instant-bare, IsPauseAt, IsForkAt, pointed, all-weaker}
use Rattle.pc_emit.proofs.Apart.{AreClear, IsClear, IsOwned, clear-strangers, spread-owned, spread-clear, both-clear, forks-apart}
use Rattle.pc_emit.proofs.Slotted.{thread-there, code-there, is-called, threads-are}
use Rattle.pc_emit.proofs.Sections.{IsFrom, from-first, sections-fine}

-- ---- conditions

module _ (writing : Writing) where
  condition-in : (aborts : List (Bool × Test)) (k at : ℕ) (handlers : List ℕ) (j : ℕ) → j < length aborts →
      at + conditions_size writing aborts ≤ 65535 →
      (n : ℕ) × (close : ℕ) × IsIn (OfCondition (slice_index_or (abort_lines writing aborts k at handlers) j no_abort).cond n close)
      (condition_sections writing aborts at)
  condition-in [] k at handlers j lt le = absurd (omega (arith, lt))
  condition-in (a ∷ aborts) k at handlers zero lt le =
      let n = length (writing.test_words_of a.1) in
      let close = at + words_in (writing.test_words_of a.1) in
      let same : short at ≡ at = short_is at (omega (arith, le)) in
      (n, close, inl (ap (λ p. OfCondition p n close) (sym same)))
  condition-in (a ∷ aborts) k at handlers (suc j) lt le =
      let r = condition-in aborts (k + 1) (at + condition_size writing a.1) handlers j (omega (arith, lt)) (omega (arith, le)) in
      (r.0, r.1, inr r.2)

  in-behind : (numbers slots : List ℕ) (first : ℕ → ℕ) (nodes : List Node) (routines : List Region) (g at : ℕ) (behind : List Section)
      (x : Section) → IsIn x behind →
      IsIn x (function_sections writing numbers slots first routines g nodes at behind)
  in-behind numbers slots first [] routines g at behind x i = i
  in-behind numbers slots first (n ∷ nodes) routines g at behind x i =
      inr (in-behind numbers slots first nodes (with_routine writing numbers slots first routines (slot_of slots g)
      (is_among g (used_calls slots (g + 1) nodes)) n at) (g + 1) (at + size writing n + 1) behind x i)

-- a place of a thread's code that is a section
in-thread : (sections : List Section) (s : ℕ) (code : Code) (place : ℕ) → IsIn (OfThread s code) sections → entry code ≤ place →
    place < exit code → IsInThread sections place
in-thread [] s code place i low high = absurd i
in-thread (OfThread t other ∷ rest) s code place i low high =
    ⊎_elim (λ same. (let e : other ≡ code = cc in inl (subst (λ k. (entry k ≤ place) × (place < exit k)) (sym e) (low, high))))
    (λ more. inr (in-thread rest s code place more low high)) i
in-thread (OfRoutine r ∷ rest) s code place i low high = ⊎_elim (λ same. absurd cc) (λ more. in-thread rest s code place more low high) i
in-thread (OfCondition p n q ∷ rest) s code place i low high = ⊎_elim (λ same. absurd cc)
    (λ more. in-thread rest s code place more low high) i
in-thread (Unused n ∷ rest) s code place i low high = ⊎_elim (λ same. absurd cc) (λ more. in-thread rest s code place more low high) i

module _ (f : Flow) (writing : Writing) (placing : Placing) (further : ℕ) (can : CanBeEmitted f writing placing further)
    (has : HasThreads f) where
  abbrev image : Parts
  image = image_of writing f further

  abbrev whole : Part
  whole = whole_of writing f

  abbrev slots : List ℕ
  slots = slots_of f

  abbrev many : ℕ
  many = length slots

  abbrev entrances : List ℕ
  entrances = entrances_of writing f

  abbrev sections : List Section
  sections = sections_of writing f

  abbrev program : Program
  program = program_of writing f

  -- ---- threads

  thread-is : (s : ℕ) (code : Code) → slice_get program.threads s ≡ Some code → (start_of image s ≡ entry code) × IsIn
      (OfThread s code) sections
  thread-is s code is =
      let lt : s < many = subst (λ n. s < n) (ap length (threads-are f writing placing further can has) ∙ length-map
      (range_with_len 0 many) _ ∙ length-range_with_len 0 many) (get-within program.threads s code is) in
      let h = code-there f writing placing further can has s lt in
      let there : Some (thread_code writing (numbers_of writing f) h.routines (body_at f.bodies (function_of f s)) (first_started f s)
      ((placed f writing placing).entrance (function_of f s))) ≡ Some code =
      ap (λ k. Some k) (sym h.is) ∙ sym (thread-there f writing placing further can has s lt) ∙ is in
      let same : thread_code writing (numbers_of writing f) h.routines (body_at f.bodies (function_of f s)) (first_started f s)
      ((placed f writing placing).entrance (function_of f s)) ≡ code = cc in (
        starts_here f writing placing further can has s lt
            ∙ sym (thread-entry writing (numbers_of writing f) h.routines (body_at f.bodies (function_of f s)) (first_started f s)
            ((placed f writing placing).entrance (function_of f s)))
            ∙ ap entry same,
        subst (λ k. IsIn (OfThread s k) sections) same h.listed,
      )

  -- ---- pauses and forks

  abbrev IsMine : ℕ → Point → Type 0
  IsMine g p = (s : ℕ) × (s < many) × (g ≤ function_of f s) × IsOwned image (parent_of f) s p

  record PointsAre (g : ℕ) (p : Part) : Type 0 where
    pauses : AllByRecursion (λ (x : Point). IsPauseIn image program x.at) p.pauses
    forks : AllByRecursion (λ (x : Point). IsForkIn image program x.at) p.forks
    owned : AllByRecursion (IsMine g) p.forks
    clear : AreClear image (parent_of f) p.forks

  bare-points : (g : ℕ) (p : Part) → IsBare p → PointsAre g p
  bare-points g p h = record {
    pauses = subst (AllByRecursion (λ (x : Point). IsPauseIn image program x.at)) (sym h.0) tt;
    forks = subst (AllByRecursion (λ (x : Point). IsForkIn image program x.at)) (sym h.1) tt;
    owned = subst (AllByRecursion (IsMine g)) (sym h.1) tt;
    clear = subst (AreClear image (parent_of f)) (sym h.1) tt;
  }

  -- a function whose slot is c, and later ones
  both-points : (g c : ℕ) (p q : Part) → g ≡ function_of f c → c < many → AllByRecursion (IsOwned image (parent_of f) c) p.forks →
      PointsAre g p → PointsAre (g + 1) q → PointsAre g (joined p q)
  both-points g c p q e lt own h k = record {
    pauses = all_append (λ (x : Point). IsPauseIn image program x.at) p.pauses q.pauses h.pauses k.pauses;
    forks = all_append (λ (x : Point). IsForkIn image program x.at) p.forks q.forks h.forks k.forks;
    owned = all_append (IsMine g) p.forks q.forks h.owned
        (all-weaker (IsMine (g + 1)) (IsMine g) q.forks (λ x i. (i.0, i.1, (let z = i.2 in omega (arith, z)), i.3)) k.owned);
    clear = both-clear image (parent_of f) p.forks q.forks h.clear k.clear
        (all-weaker (IsOwned image (parent_of f) c) (λ (x : Point). AllByRecursion (IsClear image (parent_of f) x) q.forks) p.forks
        (λ x i. all-weaker (IsMine (g + 1)) (IsClear image (parent_of f) x) q.forks
        (λ y j. clear-strangers image (parent_of f) c j.0 x y
        (λ same. (let z = j.2 in let w : function_of f c ≡ function_of f j.0 = ap (function_of f) same in omega
        (arith, z, w, e))) i j.3) k.owned) own);
  }

  bare-both-points : (g : ℕ) (p q : Part) → IsBare p → PointsAre (g + 1) q → PointsAre g (joined p q)
  bare-both-points g p q h k = record {
    pauses = subst (λ l. AllByRecursion (λ (x : Point). IsPauseIn image program x.at) (l ++ q.pauses)) (sym h.0) k.pauses;
    forks = subst (λ l. AllByRecursion (λ (x : Point). IsForkIn image program x.at) (l ++ q.forks)) (sym h.1) k.forks;
    owned = subst (λ l. AllByRecursion (IsMine g) (l ++ q.forks)) (sym h.1)
        (all-weaker (IsMine (g + 1)) (IsMine g) q.forks (λ x i. (i.0, i.1, (let z = i.2 in omega (arith, z)), i.3)) k.owned);
    clear = subst (λ l. AreClear image (parent_of f) (l ++ q.forks)) (sym h.1) k.clear;
  }

  -- the points of one thread's function
  thread-points : (n : Node) (g at c : ℕ) → body_at f.bodies g ≡ n → (placed f writing placing).entrance g ≡ at → slot_of slots g ≡ Some c
      → IsAt whole.words at (code writing entrances c n [] (first_started f c) at).words → at + size writing n < length whole.words
      → PointsAre g (code writing entrances c n [] (first_started f c) at) × AllByRecursion (IsOwned image (parent_of f) c)
      (code writing entrances c n [] (first_started f c) at).forks
  thread-points n g at c body enter own st lt =
      let runs = slot-is slots g c own in
      let is : body_at f.bodies (function_of f c) ≡ n = ap (body_at f.bodies) runs.1 ∙ body in
      let place : (placed f writing placing).entrance (function_of f c) ≡ at = ap (placed f writing placing).entrance runs.1 ∙ enter in
      let first = first_started f c in
      let end = at + size writing n in
      let x = code writing entrances c n [] first at in
      let Q = Started f writing placing further can has c in
      let same = slots_long f writing placing further can has in
      let few = can.laid.few in
      let begun = subst (λ m. Starts Q m first) is (starts f writing placing further can has Q c runs.0 (λ child fs h. h)) in
      let room = subst (λ m. HasRoom (placed f writing placing) m 0 0) is (can.laid.room c runs.0) in
      let k = pointed image (parent_of f) writing whole (made f writing placing further can has) entrances (placed f writing placing) c Q
      (omega (arith, same, few))
      (λ child fs h. (h.0, (let z = h.1 in omega (arith, z, same)), h.2)) n [] first at end st begun room refl lt in
      let h = code-there f writing placing further can has c runs.0 in
      let low : entry (thread_code writing (numbers_of writing f) h.routines (body_at f.bodies (function_of f c)) first
      ((placed f writing placing).entrance (function_of f c))) ≡ at =
      thread-entry writing (numbers_of writing f) h.routines (body_at f.bodies (function_of f c)) first
      ((placed f writing placing).entrance (function_of f c)) ∙ place in
      let high : exit (thread_code writing (numbers_of writing f) h.routines (body_at f.bodies (function_of f c)) first
      ((placed f writing placing).entrance (function_of f c))) ≡ end =
      thread-exit writing (numbers_of writing f) h.routines (body_at f.bodies (function_of f c)) first
      ((placed f writing placing).entrance (function_of f c))
      ∙ ap (λ q. q + size writing (body_at f.bodies (function_of f c))) place ∙ ap (λ m. at + size writing m) is in
      let inside : (q : ℕ) → at ≤ q → q < end → IsInThread sections q = λ q above below.
      in-thread sections c (thread_code writing (numbers_of writing f) h.routines (body_at f.bodies (function_of f c)) first
      ((placed f writing placing).entrance (function_of f c))) q h.listed
      (omega (arith, low, above)) (omega (arith, high, below)) in
      let owned = spread-owned image (parent_of f) c first (first + length (threads_of n)) x.forks k.spread in (
        record {
          pauses = all-weaker (IsPauseAt image (parent_of f) at end) (λ (p : Point). IsPauseIn image program p.at) x.pauses
              (λ p i. (i.2, inside p.at i.0 i.1)) k.pauses_are;
          forks = all-weaker (IsForkAt image (parent_of f) at end) (λ (p : Point). IsForkIn image program p.at) x.forks
              (λ p i. (i.2, i.3, i.4, inside p.at i.0 i.1)) k.forks_are;
          owned = all-weaker (IsOwned image (parent_of f) c) (IsMine g) x.forks
              (λ p i. (c, runs.0, (let z = runs.1 in omega (arith, z)), i)) owned;
          clear = spread-clear image (parent_of f) c first (first + length (threads_of n)) x.forks k.spread;
        },
        owned,
      )

  points : (nodes : List Node) (g at count : ℕ) → IsAt whole.words at
      (functions_code writing entrances slots (first_started f) g nodes at).words →
      IsFrom f writing placing further can has g at count nodes
      → PointsAre g (functions_code writing entrances slots (first_started f) g nodes at)
  points [] g at count st from = bare-points g (just []) (refl, refl)
  points (n ∷ nodes) g at count st from =
      let next = at + size writing n + 1 in
      let x = function_code writing entrances slots (first_started f) (slot_of slots g) n at in
      let y = functions_code writing entrances slots (first_started f) (g + 1) nodes next in
      let size_is : at + length x.words ≡ next = let k = function_long writing entrances slots (first_started f) (slot_of slots g) n at in
      omega (arith, k) in
      let more = points nodes (g + 1) next _ (next-at x.words y.words next st size_is) from.4 in
      by (slot_of slots g) refl (at_first x.words y.words st) more
    where
      by : (slot : Option ℕ) → slot_of slots g ≡ slot → IsAt whole.words at
          (function_code writing entrances slots (first_started f) slot n at).words
          → PointsAre (g + 1) (functions_code writing entrances slots (first_started f) (g + 1) nodes (at + size writing n + 1))
          → PointsAre g (joined (function_code writing entrances slots (first_started f) slot n at)
          (functions_code writing entrances slots (first_started f) (g + 1) nodes (at + size writing n + 1)))
      by None own st' more =
          let called = (can.laid.called g (is-called f writing placing further can has g from.1 own)).instant in
          let x = code writing entrances 0 n [] (first_started f 0) at in
          let bare = instant-bare writing entrances 0 n [] (first_started f 0) at (subst IsInstant from.0 called) in
          let closed : IsBare (joined x (just (closing None ∷ []))) = (rw bare.0 refl, rw bare.1 refl) in
          bare-both-points g (joined x (just (closing None ∷ [])))
          (functions_code writing entrances slots (first_started f) (g + 1) nodes (at + size writing n + 1)) closed more
      by (Some c) own st' more =
          let runs = slot-is slots g c own in
          let x = code writing entrances c n [] (first_started f c) at in
          let close = closing (Some c) ∷ [] in
          let within = at_within (x.words ++ close) st' in
          let long = lengths.code_size writing entrances c n [] (first_started f c) at in
          let both : length (x.words ++ close) ≡ length x.words + 1 = length-append x.words close in
          let one = thread-points n g at c from.0 from.2 own (at_first x.words close st') (omega (arith, within, long, both)) in
          let all : PointsAre g (joined x (just close)) × AllByRecursion (IsOwned image (parent_of f) c) (joined x (just close)).forks = (
            record {
              pauses = subst (AllByRecursion (λ (p : Point). IsPauseIn image program p.at)) (sym (append-nil x.pauses)) one.0.pauses;
              forks = subst (AllByRecursion (λ (p : Point). IsForkIn image program p.at)) (sym (append-nil x.forks)) one.0.forks;
              owned = subst (AllByRecursion (IsMine g)) (sym (append-nil x.forks)) one.0.owned;
              clear = subst (AreClear image (parent_of f)) (sym (append-nil x.forks)) one.0.clear;
            },
            subst (AllByRecursion (IsOwned image (parent_of f) c)) (sym (append-nil x.forks)) one.1,
          ) in
          both-points g c (joined x (just close)) (functions_code writing entrances slots (first_started f) (g + 1) nodes
          (at + size writing n + 1)) (sym runs.1) runs.0 all.1 all.0 more

  -- ---- the program

  pub holds : IsProgram image program
  holds =
      let fine = sections-fine f writing placing further can has in
      let functions = functions_code writing entrances slots (first_started f) 0 f.bodies 0 in
      let conditions = conditions_words writing f.aborts in
      let all = points f.bodies 0 0 0 (at_first functions.words conditions (wholes.stands f writing placing further can has).words)
      (from-first f writing placing further can has) in
      let size_is = whole_long f writing placing further can has in
      let room = can.code in
      let lines = lines_long writing f.aborts 0 (functions_size writing f.bodies) whole.handlers in
      let forks_are : image.forks ≡ functions.forks = append-nil functions.forks in
      record {
        laid = fine.0;
        closed = fine.1;
        slots = ap length (threads-are f writing placing further can has) ∙ length-map (range_with_len 0 many) _
            ∙ length-range_with_len 0 many ∙ sym (slots_long f writing placing further can has);
        thread = thread-is;
        tested = λ j lt.
            let r = condition-in writing f.aborts 0 (functions_size writing f.bodies) whole.handlers j (omega (arith, lt, lines))
            (omega (arith, room)) in (
              r.0,
              r.1,
              in-behind writing (numbers_of writing f) slots (first_started f) f.bodies [] 0 0
                  (condition_sections writing f.aborts (functions_size writing f.bodies)) (OfCondition (abort_at image j).cond r.0 r.1) r.2,
            );
        pauses = subst (AllByRecursion (λ (p : Point). IsPauseIn image program p.at)) (sym (append-nil functions.pauses)) all.pauses;
        forks = subst (AllByRecursion (λ (p : Point). IsForkIn image program p.at)) (sym forks_are) all.forks;
        apart = forks-apart image (parent_of f) (subst (AreClear image (parent_of f)) (sym forks_are) all.clear)
            (λ p among. let i = all-among (IsMine 0) image.forks p (subst (AllByRecursion (IsMine 0)) (sym forks_are) all.owned) among in
            (i.0, i.3));
      }
