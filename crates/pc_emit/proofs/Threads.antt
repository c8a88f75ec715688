-- A node of a thread lies in the image as its code, inside its aborts.
use Rattle.std.proofs.Common.{◌≡◌, ℕ, ◌+◌, ◌%◌, ◌<◌, ◌≤◌, Bool, IsTrue, Option, Some, None, List, [], ◌∷◌, ◌++◌, length}
use Rattle.std.proofs.Common.{slice_get, refl, sym, ap, subst, ◌∙◌, arith, length-append}
use Rattle.std.specs.Prelude.{slice_index_or}
use Rattle.std.specs.List.{AllByRecursion}
use Rattle.pc_lower.proofs.StepFacts.{listed}
use Rattle.std.proofs.lemmas.List.FromFn.{length-range_with_len}
use Rattle.mb_isa.specs.declared.words.Instr.TheVariants.{Bri, Fork, Eot, Abrt, Leave}
use Rattle.pt_image.specs.declared.image.AbortLine.{AbortLine}
use Rattle.pt_image.specs.declared.image.Point.{Point}
use Rattle.pt_image.specs.declared.image.Parts.{Parts}
use Rattle.pt_image.specs.Listed.{is_listed}
use Rattle.pc_lower.specs.declared.nodes.Test.{Test}
use Rattle.pc_lower.specs.Flow.{Node, Nodes, straight, sequence, branch, turns, bounded, call, pause, fork, guard, no_nodes, and, Flows}
use Rattle.pc_lower.specs.Laid.{Placing}
use Rattle.pc_lower.specs.Program.{HasRoom, HaveRoom}
use Rattle.pc_lower.specs.Words.{Writing}
use Rattle.pc_lower.specs.Limits.{threads_of}
use Rattle.pc_lower.specs.Layable.{IsLayable, AreLayable, pauses_in, pauses_in_all, forks_of, forks_of_all, guards_of, guards_of_all}
use Rattle.pc_lower.specs.Shaped.{IsLasting, AreLasting}
use Rattle.pc_lower.specs.Shaped as shaped
use Rattle.tk_paths.specs.declared.word.Word.TheVariants.{Jump, Branch}
use Rattle.tk_paths.specs.declared.word.Word.TheVariants as word
use Rattle.tk_paths.specs.Kinds.{no_abort}
use Rattle.tk_paths.proofs.Lists.{all-left, all-right}
use Rattle.tk_paths.specs.Regions.{Region, behind, IsUnit, IsWord}
use Rattle.tk_paths.specs.Codes.{Code, entry, exit, IsLaidIn}
use Rattle.tk_paths.specs.Programs.{Section}
use Rattle.pc_emit.specs.Part.{Part, joined, just, entering}
use Rattle.pc_emit.specs.Code.{test_size, option_size, size, sizes, short, jump, point, tested, option_tested, code, codes}
use Rattle.pc_regs.specs.Writings.{WritesWork, OptionWritten, NodeWritten, NodesWritten}
use Rattle.pc_emit.proofs.Lists.{IsAt, at_moved, at_get, at_within, counted_at}
use Rattle.pc_emit.proofs.Numbers.{short_is}
use Rattle.pc_emit.proofs.Lengths.{tested_size, option_tested_size, code_size}
use Rattle.pc_emit.proofs.Stands.{Spot, past, Stands, first_stands, second_stands, Numbers, first_numbers, second_numbers, words_plain}
use Rattle.pc_emit.proofs.Stands.{past_plain, option_plain, counted}
use Rattle.pc_emit.proofs.Made.{IsMade, has_at, jump_at}
use Rattle.pc_emit.proofs.Laying.{Starts, AllStart, IsTabled}
use Rattle.pc_emit.specs.Sections.{calls_in, calls_in_all, turns_code, thread_code, thread_codes}
use Rattle.pc_emit.proofs.Units.{is-word, is-jump}
use Rattle.pc_emit.proofs.Passing.{element-there, get-within, passed, instant-inside, IsKnown, call-small, region-small}
use Rattle.pc_emit.proofs.Regions.{is-tested, straight-units, call-laid, region-laid}
use Rattle.pc_emit.proofs.Shapes.{thread-entry, thread-exit, threads-entry}

-- a point that stands in a list is listed
is-listed : (points : List Point) (n at s : ℕ) (a : List ℕ) (more : List Point) → at ≤ 65535 → IsAt points n (point at s a ∷ more) → IsTrue
    (is_listed points at s a)
is-listed points n at s a more small st =
    let whole_point : Point = record { at = at; slot = s; stack = a } in
    let is : point at s a ≡ whole_point = ap (λ k. let q : Point = record { at = k; slot = s; stack = a } in q) (short_is at small) in
    listed points n at s a (at_get (point at s a) more st ∙ ap (λ k. Some k) is)

module _ (image : Parts) (known : Flows) (weak : ℕ → Bool) (writing : Writing) (whole : Part) (counts : Spot) (made : IsMade image whole)
    (tabled : IsTabled image whole weak counts) (work : WritesWork writing) (entrances : List ℕ) (sections : List Section)
    (placing : Placing)
    (enters : (g : ℕ) → short (slice_index_or entrances g 0) ≡ placing.entrance g) (numbers : List ℕ) (routines : List Region)
    (ends : ℕ → Bool)
    (s : ℕ) (IsStarted : ℕ → List ℕ → Type 0)
    (starts_well : (child : ℕ) (fs : List ℕ) → IsStarted child fs → (s < child) × (1 ≤ length fs) ×
    (child + length fs ≤ length image.slots)) where
  abbrev Known : ℕ → Type 0
  Known = IsKnown image sections placing numbers routines

  -- a loop without a number, if its body lies there
  turns-laid : (test : Option Test) (a : List ℕ) (at inner mid out : ℕ) (body : Code) → OptionWritten writing test → IsAt whole.words at
      (option_tested writing test at out).words
      → at + option_size writing test ≡ inner → IsAt whole.words mid (jump Bri mid at) → mid + 2 ≡ out → out < length whole.words → at ≤ mid
      → entry body ≡ inner → exit body ≡ mid → IsLaidIn image s a body → IsLaidIn image s a (turns_code writing test at body out)
  turns-laid None a at inner mid out body written t ie j me lt le fx tx lx =
      let back = is-jump image mid out at (jump_at image whole made mid out at j me (omega (arith, me, lt, le))) in
      let same : at ≡ entry body = omega (arith, ie, fx) in (
        lx,
        subst (λ k. IsUnit image k (Jump (Some (entry body)))) (sym tx) (back.0 ∙ ap (λ k. Some (Jump (Some k))) same),
        ap (behind image) tx ∙ back.1,
      )
  turns-laid (Some test) a at inner mid out body written t ie j me lt le fx tx lx =
      let one = is-tested image writing whole made work test at inner out written t ie lt in
      let back = is-jump image mid out at (jump_at image whole made mid out at j me (omega (arith, me, lt, le))) in (
        one.units,
        one.branches,
        one.goes_on ∙ sym fx,
        lx,
        subst (λ k. IsUnit image k (Jump (Some at))) (sym tx) back.0,
        ap (behind image) tx ∙ back.1,
      )

  mutual
    pub thread-laid : (n : Node) (a : List ℕ) (child at end depth : ℕ) (p : Spot) → p.words ≡ at → Stands whole p
        (code writing entrances s n a child at)
        → Numbers counts p (pauses_in n) (forks_of n) (guards_of n) → length a ≡ depth → IsLayable known depth n → NodeWritten writing n →
        Starts IsStarted n child
        → HasRoom placing n 0 0 → IsLasting ends n → shaped.loops_in n ≤ 8 → AllByRecursion Known (calls_in n)
        → at + size writing n ≡ end → end < length whole.words → IsLaidIn image s a (thread_code writing numbers routines n child at)
    thread-laid (straight steps) a child at end depth p here st num deep lay written starts room lasts few calls e lt =
        (straight-units image writing whole made work steps at written (at_moved _ st.words here), omega arith, omega arith, omega arith)
    thread-laid (sequence nodes) a child at end depth p here st num deep lay written starts room lasts few calls e lt =
        threads-laid nodes a child at end depth p here st num deep lay written starts room lasts few calls e lt
    thread-laid (branch test n m) a child at end depth p here st num deep lay written starts room lasts few calls e lt =
        let inner = at + test_size writing test in
        let mid = inner + size writing n in
        let out = mid + 2 in
        let x = tested writing test at out in
        let y = code writing entrances s n a child inner in
        let w = just (jump Bri mid (out + size writing m)) in
        let z = code writing entrances s m a (child + length (threads_of n)) out in
        let st1 = second_stands whole p x (joined y (joined w z)) st in
        let st2 = second_stands whole (past p x) y (joined w z) st1 in
        let st3 = second_stands whole (past (past p x) y) w z st2 in
        let h1 : p.words + length x.words ≡ inner = let t = tested_size writing test at out in omega (arith, t, here) in
        let h2 : p.words + length x.words + length y.words ≡ mid = let t = code_size writing entrances s n a child inner in omega
        (arith, t, h1) in
        let h3 : p.words + length x.words + length y.words + 2 ≡ out = omega (arith, h2) in
        let num1 = past_plain counts p x _ _ _ (words_plain x.words) num in
        let num2 = second_numbers counts (past p x) y _ _ _ _ _ _ (counted writing entrances s n a child inner) num1 in
        let last : out + size writing m ≡ end = omega (arith, e) in
        let one = is-tested image writing whole made work test at inner out written.0
        (at_moved x.words (first_stands whole p x (joined y (joined w z)) st).words here) refl (omega (arith, last, lt)) in
        let over = is-jump image mid out end (jump_at image whole made mid out end
        (subst (λ k. IsAt whole.words mid (jump Bri mid k)) last
        (at_moved w.words (first_stands whole (past (past p x) y) w z st2).words h2)) refl lt) in
        let fx = thread-entry writing numbers routines n child inner in
        let tx = thread-exit writing numbers routines n child inner in
        let fy = thread-entry writing numbers routines m (child + length (threads_of n)) out in
        let ty = thread-exit writing numbers routines m (child + length (threads_of n)) out ∙ last in
        let right = exit (thread_code writing numbers routines m (child + length (threads_of n)) out) in (
          one.units,
          one.branches ∙ ap (λ k. Some (Branch (Some k))) (sym fy),
          one.goes_on ∙ sym fx,
          thread-laid n a child inner mid depth (past p x) h1 (first_stands whole (past p x) y (joined w z) st1)
              (first_numbers counts (past p x) _ _ _ _ _ _ num1) deep lay.0 written.1 starts.0
              room.0 lasts.0 (omega (arith, few)) (all-left Known (calls_in n) (calls_in m) calls) refl (omega (arith, last, lt)),
          subst (λ k. IsUnit image k (Jump (Some right))) (sym tx) (over.0 ∙ ap (λ k. Some (Jump (Some k))) (sym ty)),
          ap (behind image) tx ∙ over.1 ∙ sym fy,
          thread-laid m a (child + length (threads_of n)) out end depth (past (past (past p x) y) w) h3 st3
              (past_plain counts (past (past p x) y) w _ _ _ (words_plain w.words) num2) deep lay.1 written.2 starts.1
              room.1 lasts.1 (omega (arith, few)) (all-right Known (calls_in n) (calls_in m) calls) last lt,
        )
    thread-laid (turns test body) a child at end depth p here st num deep lay written starts room lasts few calls e lt =
        let inner = at + option_size writing test in
        let mid = inner + size writing body in
        let x = option_tested writing test at (mid + 2) in
        let y = code writing entrances s body a child inner in
        let w = just (jump Bri mid at) in
        let st1 = second_stands whole p x (joined y w) st in
        let st2 = second_stands whole (past p x) y w st1 in
        let h1 : p.words + length x.words ≡ inner = let t = option_tested_size writing test at (mid + 2) in omega (arith, t, here) in
        let h2 : p.words + length x.words + length y.words ≡ mid = let t = code_size writing entrances s body a child inner in omega
        (arith, t, h1) in
        let num1 = past_plain counts p x _ _ _ (option_plain writing test at (mid + 2)) num in
        let last : mid + 2 ≡ end = omega (arith, e) in
        turns-laid test a at inner mid (mid + 2) (thread_code writing numbers routines body child inner) written.0
        (at_moved x.words (first_stands whole p x (joined y w) st).words here) refl
        (at_moved w.words st2.words h2) refl (omega (arith, last, lt)) (omega arith)
        (thread-entry writing numbers routines body child inner) (thread-exit writing numbers routines body child inner)
        (thread-laid body a child inner mid depth (past p x) h1
        (first_stands whole (past p x) y w st1) num1 deep lay.1 written.1 starts room lasts.0 few calls refl (omega (arith, last, lt)))
    thread-laid (bounded most test body) a child at end depth p here st num deep lay written starts room lasts few calls e lt =
        let small = region-small image sections placing numbers routines writing (bounded most test body) at 0 0 room calls (omega arith)
        (omega arith) in
        let still = instant-inside placing body 0 1 (λ z. omega (arith, z)) room.1 in
        let is = passed ends (bounded most test body) still lasts in
        let nests = small.nests in
        let links = small.links in
        let counters = small.counters in (
          region-laid image writing whole made work entrances sections placing enters numbers routines known s
              (bounded most test body) a child at end depth (at_moved _ st.words here) is lay written calls e lt,
          omega (arith, nests, few),
          omega (arith, links),
          omega (arith, counters),
        )
    thread-laid (call f) a child at end depth p here st num deep lay written starts room lasts few calls e lt =
        let small = call-small image sections placing numbers routines f at 0 0 calls.0 room.1 room.2 in
        let nests = small.nests in
        let links = small.links in
        let counters = small.counters in (
          call-laid image writing whole made work entrances sections placing enters numbers routines known s f at calls.0
              (at_moved _ st.words here),
          omega arith,
          omega (arith, links),
          omega (arith, counters),
        )
    thread-laid (pause i) a child at end depth p here st num deep lay written starts room lasts few calls e lt =
        let wide = made.room in (
          is-word image at Eot (has_at image whole made at Eot [] (at_moved (Eot ∷ []) st.words here) tt),
          subst
              (λ l. IsTrue (is_listed l at s a)) (sym tabled.pauses)
              (is-listed whole.pauses p.pauses at s a [] (omega (arith, e, lt, wide)) st.pauses),
        )
    thread-laid (fork i fs) a child at end depth p here st num deep lay written starts room lasts few calls e lt =
        let wide = made.room in
        let slots = tabled.few in
        let well = starts_well child fs starts in
        let later = well.0 in
        let some = well.1 in
        let within = well.2 in
        let lo : child % 256 ≡ child = omega (arith, slots, within, some) in
        let count : length fs % 256 ≡ length fs = omega (arith, slots, within) in
        let there : IsAt whole.words at (Fork child (length fs) ∷ []) =
        subst (λ k. IsAt whole.words at (Fork child k ∷ [])) count
        (subst (λ k. IsAt whole.words at (Fork k (length fs % 256) ∷ [])) lo
        (at_moved (Fork (child % 256) (length fs % 256) ∷ []) st.words here)) in (
          is-word image at (Fork child (length fs)) (has_at image whole made at (Fork child (length fs)) [] there
              (omega (arith, slots, within), omega (arith, slots, within))),
          subst (λ l. IsTrue (is_listed l at s a)) (sym tabled.forks)
              (is-listed whole.forks p.forks at s a [] (omega (arith, e, lt, wide)) st.forks),
          later,
          some,
          within,
        )
    thread-laid (guard j body) a child at end depth p here st num deep lay written starts room lasts few calls e lt =
        let mid = at + 1 + size writing body in
        let x = entering (short j) (short (mid + 1)) in
        let y = code writing entrances s body (a ++ j ∷ []) child (at + 1) in
        let w = just (Leave ∷ []) in
        let st0 = first_stands whole p x (joined y w) st in
        let st1 = second_stands whole p x (joined y w) st in
        let st2 = second_stands whole (past p x) y w st1 in
        let h1 : p.words + 1 ≡ at + 1 = omega (arith, here) in
        let h2 : p.words + 1 + length y.words ≡ mid = let t = code_size writing entrances s body (a ++ j ∷ []) child (at + 1) in omega
        (arith, t, here) in
        let last : mid + 1 ≡ end = omega (arith, e) in
        let wide = made.room in
        let guards = tabled.guards in
        let number : j ≡ p.handlers = counted_at counts.handlers j (guards_of body) num.guards_at in
        let there : p.handlers + 1 ≤ length whole.handlers = at_within (short (mid + 1) ∷ []) st0.handlers in
        let below : p.handlers + length (j ∷ guards_of body) ≤ counts.handlers =
        let k = at_within (j ∷ guards_of body) num.guards_at in let r = length-range_with_len 0 counts.handlers in omega (arith, k, r) in
        let small : short j ≡ j = short_is j (omega (arith, number, there, guards)) in
        let handler : slice_get whole.handlers j ≡ Some end =
        ap (slice_get whole.handlers) number ∙ at_get (short (mid + 1)) [] st0.handlers ∙ ap Some
        (short_is (mid + 1) (omega (arith, last, lt, wide)) ∙ last) in
        let one : Numbers counts (past p x) (pauses_in body) (forks_of body) (guards_of body) =
        second_numbers counts p x [] [] (j ∷ []) (pauses_in body) (forks_of body) (guards_of body)
        (record { pauses_are = refl; forks_are = refl; guards_are = refl }) num in
        let line = tabled.aborts j end handler (omega (arith, number, below)) in
        let first = thread-entry writing numbers routines body child (at + 1) in
        let stop = thread-exit writing numbers routines body child (at + 1) in
        let leave = is-word image mid Leave (has_at image whole made mid Leave [] (at_moved (Leave ∷ []) st2.words h2) tt) in (
          is-word image at (Abrt j) (has_at image whole made at (Abrt j) []
              (subst (λ k. IsAt whole.words at (Abrt k ∷ [])) small (at_moved (Abrt (short j) ∷ []) st0.words here))
              (omega (arith, number, there, guards))),
          get-within image.aborts j (record { weak = weak j; cond = line.0; handler = end }) line.1,
          subst (λ k. k < 8) (sym deep) lay.0,
          sym first,
          thread-laid body (a ++ j ∷ []) child (at + 1) mid (depth + 1) (past p x) h1 (first_stands whole (past p x) y w st1) one
              (length-append a (j ∷ []) ∙ ap (λ k. k + 1) deep) lay.1 written starts
              room.2 lasts few calls refl (omega (arith, last, lt)),
          subst (λ k. IsWord image k word.Leave) (sym stop) leave,
          ap (λ (l : AbortLine). l.handler) (element-there image.aborts j
              (record { weak = weak j; cond = line.0; handler = end }) no_abort line.1) ∙ sym last ∙ ap (λ k. k + 1) (sym stop),
        )

    pub threads-laid : (nodes : Nodes) (a : List ℕ) (child at end depth : ℕ) (p : Spot) → p.words ≡ at → Stands whole p
        (codes writing entrances s nodes a child at)
        → Numbers counts p (pauses_in_all nodes) (forks_of_all nodes) (guards_of_all nodes) → length a ≡ depth →
        AreLayable known depth nodes → NodesWritten writing nodes → AllStart IsStarted nodes child
        → HaveRoom placing nodes 0 0 → AreLasting ends nodes → shaped.loops_in_all nodes ≤ 8 → AllByRecursion Known (calls_in_all nodes)
        → at + sizes writing nodes ≡ end → end < length whole.words → IsLaidIn image s a
        (thread_codes writing numbers routines nodes child at)
    threads-laid no_nodes a child at end depth p here st num deep lay written starts room lasts few calls e lt =
        (refl, omega arith, omega arith, omega arith)
    threads-laid (and n nodes) a child at end depth p here st num deep lay written starts room lasts few calls e lt =
        let mid = at + size writing n in
        let y = code writing entrances s n a child at in
        let z = codes writing entrances s nodes a (child + length (threads_of n)) mid in
        let h1 : p.words + length y.words ≡ mid = let t = code_size writing entrances s n a child at in omega (arith, t, here) in
        let num1 = second_numbers counts p y _ _ _ _ _ _ (counted writing entrances s n a child at) num in (
          thread-laid n a child at mid depth p here (first_stands whole p y z st)
              (first_numbers counts p _ _ _ _ _ _ num) deep lay.0 written.0 starts.0
              room.0 lasts.0 (omega (arith, few)) (all-left Known (calls_in n) (calls_in_all nodes) calls) refl (omega (arith, e, lt)),
          threads-laid nodes a (child + length (threads_of n)) mid end depth (past p y) h1
              (second_stands whole p y z st) num1 deep lay.1 written.1 starts.1
              room.1 lasts.1 (omega (arith, few)) (all-right Known (calls_in n) (calls_in_all nodes) calls) (omega (arith, e)) lt,
          thread-exit writing numbers routines n child at ∙ sym
              (threads-entry writing numbers routines nodes (child + length (threads_of n)) mid),
        )
