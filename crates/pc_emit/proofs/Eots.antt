-- The pauses of an image are listed at its `eot` words.
use Rattle.std.proofs.Common.{◌≡◌, ℕ, ◌+◌, ◌%◌, ◌/◌, ◌^◌, ◌<◌, ◌≤◌, ℤ, Bool, true, false, IsTrue, FitsSigned, Option, Some, None, List, [], ◌∷◌, ◌++◌, length, map, refl, sym, ap, subst, ◌∙◌, arith, append-nil}
use Rattle.std.specs.Prelude.{◌==◌, nat_lt, if◌then◌else◌, slice_index_or, unwrap_or}
use Rattle.std.specs.Int.{w16}
use Rattle.std.specs.List.{AllByRecursion}
use Rattle.std.proofs.lemmas.Bool.{ne_eqb}
use Rattle.std.proofs.lemmas.Bool.Decides.{Decides-ltb}
use Rattle.std.proofs.lemmas.List.{map-append, length-map}
use Rattle.mb_isa.specs.declared.words.Instr.{Instr}
use Rattle.mb_isa.specs.declared.words.Instr.TheVariants.{Imm, Bri, Fork, Eot, Abrt, Leave, Call, Loop, Next, Drop, End, Ret, Cend}
use Rattle.mb_isa.specs.Codes.{code_of, IsInstr}
use Rattle.mb_isa.specs.Candidates.{candidate_for}
use Rattle.mb_isa.proofs.Inverse.{candidate_for-code_of}
use Rattle.mb_pfu.specs.Tree.{Leaf, Finished}
use Rattle.mb_pfu.specs.Unit.{State}
use Rattle.mb_isa.specs.Control.{Condition}
use Rattle.pt_image.specs.declared.image.Point.{Point}
use Rattle.pt_image.specs.declared.image.Parts.{Parts}
use Rattle.pt_image.specs.Ranges.{places_of}
use Rattle.pc_lower.specs.declared.nodes.Test.{Test}
use Rattle.pc_lower.specs.Flow.{Node, Nodes, straight, sequence, branch, turns, bounded, call, pause, fork, guard, no_nodes, and, Flow, Flows, flows_of}
use Rattle.pc_lower.specs.Laid.{Placing}
use Rattle.pc_lower.specs.Numbering.{slots_of, first_started}
use Rattle.pc_lower.specs.Words.{Written, alone, after_imm, words_in, Writing, IsWork, IsTest}
use Rattle.pc_lower.specs.Limits.{threads_of}
use Rattle.pc_lower.specs.Layable.{IsLayable, AreLayable}
use Rattle.pc_regs.specs.Writings.{instrs, AreWork, WritesWork, OptionWritten, NodeWritten, NodesWritten}
use Rattle.pc_emit.specs.Part.{Part, joined, just, entering}
use Rattle.pc_emit.specs.Code.{loop_size, drop_size, test_size, option_size, size, sizes, short, way, upper_half, lower_half, jump, loop_words, drop_words, tested, option_tested, code, codes}
use Rattle.pc_emit.specs.Image.{slot_of, closing, functions_size, function_code, functions_code, conditions_words, entrances_of, whole_of, image_of}
use Rattle.pc_emit.specs.Fits.{CanBeEmitted}
use Rattle.pc_emit.specs.Eots.{eots_from, ListsAll}
use Rattle.pc_emit.proofs.Lists.{all_append}
use Rattle.pc_emit.proofs.Numbers.{fits_half, way_small, short_is}
use Rattle.pc_emit.proofs.Lengths.{loop_words_size, tested_size, option_tested_size, code_size}
use Rattle.pc_emit.proofs.Entrances.{function_long, functions_long, functions_counted}
use Rattle.pc_emit.proofs.Conditions.{lines_long}
use Rattle.pc_emit.proofs.Whole.{HasThreads, whole_long}
use Rattle.pc_emit.proofs.Ranges.{all_from, layable}

-- ---- words that are no `eot`

same : (w : Instr) → IsInstr w → code_of w ≡ code_of Eot → w ≡ Eot
same w ok e =
    let h : Some w ≡ Some Eot = sym (candidate_for-code_of w ok) ∙ ap candidate_for e ∙ candidate_for-code_of Eot tt in
    cc

abbrev pub IsOther : Instr → Type 0
IsOther w = (code_of w == code_of Eot) ≡ false

other : (w : Instr) → IsInstr w → (w ≡ Eot → ⊥) → IsOther w
other w ok differs = ne_eqb (code_of w) (code_of Eot) (λ e. differs (same w ok e))

any_unit : State
any_unit = record { slots = 0; tree = Leaf [] Finished; links = []; counters = [] }

any_image : Parts
any_image = record { code = []; memory = []; inputs = []; outputs = []; slots = []; aborts = []; pauses = []; forks = [] }

work_differs : (upper : Option ℤ) (w : Instr) → IsWork any_image upper w → w ≡ Eot → ⊥
work_differs upper w work e = let h = (subst (λ v. IsWork any_image upper v) e work).1 Condition 0 any_unit in cc

test_differs : (upper lower : ℤ) (w : Instr) → IsTest any_image (Some upper) lower w → w ≡ Eot → ⊥
test_differs upper lower w test e = let h = (subst (λ v. IsTest any_image (Some upper) lower v) e test).1 Condition 0 any_unit in cc

work_other : (ops : List Written) → AreWork ops → AllByRecursion IsOther (instrs ops)
work_other [] h = tt
work_other (alone w ∷ ops) h = (other w h.0 (work_differs None w (h.1 any_image)), work_other ops h.2)
work_other (after_imm upper w ∷ ops) h = (
  other (Imm upper) h.0 (λ e. cc),
  (other w h.1 (work_differs (Some upper) w (h.2 any_image)), work_other ops h.3),
)

jump_other : (word : ℤ → Instr) (at to : ℕ) → ((z : ℤ) → FitsSigned w16 z → IsOther (word z)) → AllByRecursion IsOther (jump word at to)
jump_other word at to h =
    let w = way_small at to in
    let upper = fits_half (way at to / 65536) (omega (arith, w)) in
    (other (Imm (upper_half (way at to))) upper (λ e. cc), (h (lower_half (way at to)) (fits_half (way at to % 65536) (omega arith)), tt))

bri_other : (at to : ℕ) → AllByRecursion IsOther (jump Bri at to)
bri_other at to = jump_other Bri at to (λ z h. other (Bri z) h (λ e. cc))

loop_other : (most : ℕ) → most < 2 ^ 32 → AllByRecursion IsOther (loop_words most)
loop_other most small = by (nat_lt most 65536) refl
  where
    by : (few : Bool) → nat_lt most 65536 ≡ few → AllByRecursion IsOther (if few then Loop most ∷ [] else Imm (upper_half most) ∷ Loop (most % 65536) ∷ [])
    by true is = let lt : most < 65536 = (Decides-ltb most 65536).0 is in (other (Loop most) lt (λ e. cc), tt)
    by false is = (other (Imm (upper_half most)) (fits_half (most / 65536) (omega arith)) (λ e. cc), (other (Loop (most % 65536)) (omega arith) (λ e. cc), tt))

drop_other : (test : Option Test) → AllByRecursion IsOther (drop_words test)
drop_other None = tt
drop_other (Some test) = (other Drop tt (λ e. cc), tt)

-- ---- the places of `eot` words

none_there : (at : ℕ) (ws : List Instr) → AllByRecursion IsOther ws → eots_from at (map code_of ws) ≡ []
none_there at [] h = refl
none_there at (w ∷ ws) h = ap (λ t. if t then at ∷ eots_from (at + 1) (map code_of ws) else eots_from (at + 1) (map code_of ws)) h.0 ∙ none_there (at + 1) ws h.1

eots_append : (at : ℕ) (xs ys : List ℕ) → eots_from at (xs ++ ys) ≡ eots_from at xs ++ eots_from (at + length xs) ys
eots_append at [] ys = let e : at ≡ at + 0 = omega arith in ap (λ k. eots_from k ys) e
eots_append at (x ∷ xs) ys =
    let e : at + 1 + length xs ≡ at + length (x ∷ xs) = omega arith in
    let h : eots_from (at + 1) (xs ++ ys) ≡ eots_from (at + 1) xs ++ eots_from (at + length (x ∷ xs)) ys =
    eots_append (at + 1) xs ys ∙ ap (λ k. eots_from (at + 1) xs ++ eots_from k ys) e in
    by (x == code_of Eot) h
  where
    by : (t : Bool) → eots_from (at + 1) (xs ++ ys) ≡ eots_from (at + 1) xs ++ eots_from (at + length (x ∷ xs)) ys
        → (if t then at ∷ eots_from (at + 1) (xs ++ ys) else eots_from (at + 1) (xs ++ ys))
        ≡ (if t then at ∷ eots_from (at + 1) xs else eots_from (at + 1) xs) ++ eots_from (at + length (x ∷ xs)) ys
    by true h = ap (λ l. at ∷ l) h
    by false h = h

-- the pauses of a part at a place are at its `eot` words
abbrev pub EotsAre : ℕ → Part → Type 0
EotsAre at p = eots_from at (map code_of p.words) ≡ places_of p.pauses

pub both_eots : (at mid : ℕ) (p q : Part) → at + length p.words ≡ mid → EotsAre at p → EotsAre mid q → EotsAre at (joined p q)
both_eots at mid p q e h k =
    let place : Point → ℕ = λ (x : Point). x.at in
    let long : at + length (map code_of p.words) ≡ mid = ap (λ n. at + n) (length-map p.words code_of) ∙ e in
    ap (eots_from at) (map-append code_of p.words q.words)
    ∙ eots_append at (map code_of p.words) (map code_of q.words)
    ∙ ap (λ k. eots_from at (map code_of p.words) ++ eots_from k (map code_of q.words)) long
    ∙ ap (λ l. l ++ eots_from mid (map code_of q.words)) h
    ∙ ap (λ l. places_of p.pauses ++ l) k
    ∙ sym (map-append place p.pauses q.pauses)

pub words_eots : (at : ℕ) (ws : List Instr) → AllByRecursion IsOther ws → EotsAre at (just ws)
words_eots at ws h = none_there at ws h

module _ (writing : Writing) (work : WritesWork writing) where
  test_eots : (test : Test) (place at out : ℕ) → IsTrue (writing.is_test_written test) → EotsAre place (tested writing test at out)
  test_eots test place at out written =
      let ops = writing.test_words_of test in
      let j = jump (writing.branch_of test) (at + words_in ops) out in
      words_eots place (instrs ops ++ j) (all_append IsOther (instrs ops) j (work_other ops (work.tests test written))
      (jump_other (writing.branch_of test) (at + words_in ops) out (λ z h. other (writing.branch_of test z) (work.branches test z h) (test_differs z z (writing.branch_of test z) (work.decided test any_image z z)))))

  option_eots : (test : Option Test) (place at out : ℕ) → OptionWritten writing test → EotsAre place (option_tested writing test at out)
  option_eots None place at out written = refl
  option_eots (Some test) place at out written = test_eots test place at out written

  module _ (known : Flows) (entrances : List ℕ) (slot room : ℕ) (small : room ≤ 65535) where
    mutual
      pub eots : (n : Node) (stack : List ℕ) (child at to depth : ℕ) → IsLayable known depth n → NodeWritten writing n → at + size writing n ≡ to → to ≤ room →
          EotsAre at (code writing entrances slot n stack child at)
      eots (straight steps) stack child at to depth lay written e le = words_eots at (instrs (writing.words_of steps)) (work_other (writing.words_of steps) (work.steps steps written))
      eots (sequence nodes) stack child at to depth lay written e le = all_eots nodes stack child at to depth lay written e le
      eots (branch test n m) stack child at to depth lay written e le =
          let inner = at + test_size writing test in
          let mid = inner + size writing n in
          let out = mid + 2 in
          let x = tested writing test at out in
          let y = code writing entrances slot n stack child inner in
          let w = just (jump Bri mid (out + size writing m)) in
          let z = code writing entrances slot m stack (child + length (threads_of n)) out in
          both_eots at inner x (joined y (joined w z)) (ap (λ k. at + k) (tested_size writing test at out)) (test_eots test at at out written.0)
          (both_eots inner mid y (joined w z) (ap (λ k. inner + k) (code_size writing entrances slot n stack child inner)) (eots n stack child inner mid depth lay.0 written.1 refl (omega (arith, e, le)))
          (both_eots mid out w z refl (words_eots mid (jump Bri mid (out + size writing m)) (bri_other mid (out + size writing m)))
          (eots m stack (child + length (threads_of n)) out to depth lay.1 written.2 (omega (arith, e)) le)))
      eots (turns test body) stack child at to depth lay written e le =
          let inner = at + option_size writing test in
          let mid = inner + size writing body in
          let x = option_tested writing test at (mid + 2) in
          let y = code writing entrances slot body stack child inner in
          let w = just (jump Bri mid at) in
          both_eots at inner x (joined y w) (ap (λ k. at + k) (option_tested_size writing test at (mid + 2))) (option_eots test at at (mid + 2) written.0)
          (both_eots inner mid y w (ap (λ k. inner + k) (code_size writing entrances slot body stack child inner)) (eots body stack child inner mid depth lay.1 written.1 refl (omega (arith, e, le)))
          (words_eots mid (jump Bri mid at) (bri_other mid at)))
      eots (bounded most test body) stack child at to depth lay written e le =
          let head = at + loop_size most in
          let inner = head + 1 + option_size writing test in
          let mid = inner + size writing body in
          let out = mid + 2 in
          let l = just (loop_words most) in
          let m = just (Next (short (out + drop_size test)) ∷ []) in
          let x = option_tested writing test (head + 1) out in
          let y = code writing entrances slot body stack child inner in
          let w = just (jump Bri mid head) in
          let d = just (drop_words test) in
          both_eots at head l (joined m (joined x (joined y (joined w d)))) (ap (λ k. at + k) (loop_words_size most)) (words_eots at (loop_words most) (loop_other most lay.0))
          (both_eots head (head + 1) m (joined x (joined y (joined w d))) refl (words_eots head (Next (short (out + drop_size test)) ∷ []) (other (Next (short (out + drop_size test))) (omega arith) (λ e. cc), tt))
          (both_eots (head + 1) inner x (joined y (joined w d)) (ap (λ k. head + 1 + k) (option_tested_size writing test (head + 1) out)) (option_eots test (head + 1) (head + 1) out written.0)
          (both_eots inner mid y (joined w d) (ap (λ k. inner + k) (code_size writing entrances slot body stack child inner)) (eots body stack child inner mid depth lay.2 written.1 refl (omega (arith, e, le)))
          (both_eots mid out w d refl (words_eots mid (jump Bri mid head) (bri_other mid head)) (words_eots out (drop_words test) (drop_other test))))))
      eots (call g) stack child at to depth lay written e le =
          words_eots at (Call (short (slice_index_or entrances g 0)) ∷ []) (other (Call (short (slice_index_or entrances g 0))) (omega arith) (λ e. cc), tt)
      eots (pause i) stack child at to depth lay written e le = let is = short_is at (omega (arith, e, le, small)) in ap (λ k. k ∷ []) (sym is)
      eots (fork i fs) stack child at to depth lay written e le =
          none_there at (Fork (child % 256) (length fs % 256) ∷ []) (other (Fork (child % 256) (length fs % 256)) (omega arith, omega arith) (λ e. cc), tt)
      eots (guard j body) stack child at to depth lay written e le =
          let mid = at + 1 + size writing body in
          let y = code writing entrances slot body (stack ++ j ∷ []) child (at + 1) in
          both_eots at (at + 1) (entering (short j) (short (mid + 1))) (joined y (just (Leave ∷ []))) refl
          (none_there at (Abrt (short j) ∷ []) (other (Abrt (short j)) (omega arith) (λ e. cc), tt))
          (both_eots (at + 1) mid y (just (Leave ∷ [])) (ap (λ k. at + 1 + k) (code_size writing entrances slot body (stack ++ j ∷ []) child (at + 1)))
          (eots body (stack ++ j ∷ []) child (at + 1) mid (depth + 1) lay.1 written refl (omega (arith, e, le)))
          (words_eots mid (Leave ∷ []) (other Leave tt (λ e. cc), tt)))

      all_eots : (nodes : Nodes) (stack : List ℕ) (child at to depth : ℕ) → AreLayable known depth nodes → NodesWritten writing nodes → at + sizes writing nodes ≡ to → to ≤ room →
          EotsAre at (codes writing entrances slot nodes stack child at)
      all_eots no_nodes stack child at to depth lay written e le = refl
      all_eots (and n nodes) stack child at to depth lay written e le =
          let mid = at + size writing n in
          let y = code writing entrances slot n stack child at in
          both_eots at mid y (codes writing entrances slot nodes stack (child + length (threads_of n)) mid) (ap (λ k. at + k) (code_size writing entrances slot n stack child at))
          (eots n stack child at mid depth lay.0 written.0 refl (omega (arith, e, le)))
          (all_eots nodes stack (child + length (threads_of n)) mid to depth lay.1 written.1 (omega (arith, e)) le)

-- ---- a whole flow

closing_other : (slot : Option ℕ) → AllByRecursion IsOther (closing slot ∷ [])
closing_other None = (other Ret tt (λ e. cc), tt)
closing_other (Some slot) = (other End tt (λ e. cc), tt)

module _ (f : Flow) (writing : Writing) (placing : Placing) (further : ℕ) (can : CanBeEmitted f writing placing further) (has : HasThreads f) where
  abbrev whole : Part
  whole = whole_of writing f

  abbrev known : Flows
  known = flows_of f.bodies

  function_long_at : (slot : Option ℕ) (n : Node) (at : ℕ) → at + length (function_code writing (entrances_of writing f) (slots_of f) (first_started f) slot n at).words ≡ at + size writing n + 1
  function_long_at slot n at = let h = function_long writing (entrances_of writing f) (slots_of f) (first_started f) slot n at in omega (arith, h)

  functions_eots : (nodes : List Node) (g at room : ℕ) → room ≤ 65535 → AllByRecursion (IsLayable known 0) nodes → AllByRecursion (NodeWritten writing) nodes
      → at + functions_size writing nodes ≤ room → EotsAre at (functions_code writing (entrances_of writing f) (slots_of f) (first_started f) g nodes at)
  functions_eots [] g at room small lay written le = refl
  functions_eots (n ∷ nodes) g at room small lay written le =
      let slot = slot_of (slots_of f) g in
      let own = unwrap_or slot 0 in
      let mid = at + size writing n in
      let y = code writing (entrances_of writing f) own n [] (first_started f own) at in
      let z = functions_code writing (entrances_of writing f) (slots_of f) (first_started f) (g + 1) nodes (mid + 1) in
      both_eots at (mid + 1) (joined y (just (closing slot ∷ []))) z (function_long_at slot n at)
      (both_eots at mid y (just (closing slot ∷ [])) (ap (λ k. at + k) (code_size writing (entrances_of writing f) own n [] (first_started f own) at))
      (eots writing can.work known (entrances_of writing f) own room small n [] (first_started f own) at mid 0 lay.0 written.0 refl (omega (arith, le)))
      (words_eots mid (closing slot ∷ []) (closing_other slot)))
      (functions_eots nodes (g + 1) (mid + 1) room small lay.1 written.1 (omega (arith, le)))

  conditions_other : (aborts : List (Bool × Test)) → AllByRecursion (λ (a : Bool × Test). IsTrue (writing.is_test_written a.1)) aborts → AllByRecursion IsOther (conditions_words writing aborts)
  conditions_other [] written = tt
  conditions_other (a ∷ aborts) written =
      let ops = writing.test_words_of a.1 in
      all_append IsOther (instrs ops) (Cend (writing.register_of a.1) ∷ conditions_words writing aborts) (work_other ops (can.work.tests a.1 written.0))
      (other (Cend (writing.register_of a.1)) tt (λ e. cc), conditions_other aborts written.1)

  pub pauses_at_eots : places_of whole.pauses ≡ eots_from 0 (map code_of whole.words)
  pauses_at_eots =
      let long = whole_long f writing placing further can has in
      let small = can.code in
      let fs = functions_code writing (entrances_of writing f) (slots_of f) (first_started f) 0 f.bodies 0 in
      let size : 0 + length fs.words ≡ functions_size writing f.bodies = let h = functions_long writing (entrances_of writing f) (slots_of f) (first_started f) f.bodies 0 0 in omega (arith, h) in
      sym (both_eots 0 (functions_size writing f.bodies) fs (just (conditions_words writing f.aborts)) size
      (functions_eots f.bodies 0 0 (functions_size writing f.bodies) (omega (arith, small)) (all_from (IsLayable known 0) f.bodies (layable f writing placing further can has)) can.written.bodies (omega arith))
      (words_eots (functions_size writing f.bodies) (conditions_words writing f.aborts) (conditions_other f.aborts can.written.conditions)))

  pub lists_all : ListsAll f (image_of writing f further)
  lists_all =
      let c = functions_counted writing (entrances_of writing f) (slots_of f) (first_started f) f.bodies 0 0 in
      let fs = functions_code writing (entrances_of writing f) (slots_of f) (first_started f) 0 f.bodies 0 in
      record {
        pauses = ap length (append-nil fs.pauses) ∙ c.pauses_are;
        forks = ap length (append-nil fs.forks) ∙ c.forks_are;
        aborts = lines_long writing f.aborts 0 (functions_size writing f.bodies) whole.handlers;
        places = pauses_at_eots;
      }
