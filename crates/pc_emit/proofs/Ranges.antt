-- The image of a flow is within the ranges of an image.
use Rattle.std.proofs.Common.{◌≡◌, ℕ, zero, suc, ◌+◌, ◌%◌, ◌/◌, ◌^◌, ◌<◌, ◌≤◌, ℤ, pos, Bool, true, false, IsTrue, FitsSigned, Option, Some, None, List, [], ◌∷◌, ◌++◌, length, map, replicate, refl, sym, ap, subst, ◌∙◌, arith, length-append, ⊎_elim}
use Rattle.std.specs.Prelude.{◌==◌, nat_lt, if◌then◌else◌, slice_index_or, unwrap_or}
use Rattle.std.specs.Int.{w16, w32}
use Rattle.std.specs.List.{AllByRecursion, IsDistinct, range_with_len}
use Rattle.std.proofs.lemmas.Bool.{ne_eqb}
use Rattle.std.proofs.lemmas.Bool.Decides.{Decides-ltb}
use Rattle.std.proofs.lemmas.List.{length-map, length-replicate}
use Rattle.mb_isa.specs.declared.words.Instr.{Instr}
use Rattle.mb_isa.specs.declared.words.Instr.TheVariants.{Imm, Bri, Leave, Call, Loop, Next, Cend}
use Rattle.mb_isa.specs.Codes.{code_of, IsInstr}
use Rattle.pt_image.specs.declared.image.AbortLine.{AbortLine}
use Rattle.pt_image.specs.declared.image.Point.{Point}
use Rattle.pt_image.specs.declared.image.Parts.{Parts}
use Rattle.pt_image.specs.Form.{AreWords}
use Rattle.pt_image.specs.Ranges.{AllBelow, IsAbortLine, IsPoint, places_of, ArePoints, IsImage}
use Rattle.pc_lower.specs.declared.nodes.Test.{Test}
use Rattle.pc_lower.specs.Flow.{Node, Nodes, straight, sequence, branch, turns, bounded, call, pause, fork, guard, no_nodes, and, Flow, Flows, flows_of}
use Rattle.pc_lower.specs.Residuals.{body_at}
use Rattle.pc_lower.specs.Laid.{Placing}
use Rattle.pc_lower.specs.Words.{Written, alone, after_imm, words_in, Writing}
use Rattle.pc_lower.specs.Limits.{threads_of}
use Rattle.pc_lower.specs.Numbering.{slots_of, first_started}
use Rattle.pc_lower.specs.Layable.{IsLayable, AreLayable, guards_of, guards_of_all, numbers_in}
use Rattle.pc_emit.specs.Part.{Part, joined, just, entering}
use Rattle.pc_regs.specs.Writings.{instrs, AreWork, WritesWork, OptionWritten, NodeWritten, NodesWritten}
use Rattle.pc_emit.specs.Code.{loop_size, drop_size, test_size, option_size, size, sizes, short, way, upper_half, lower_half, jump, loop_words, drop_words, tested, option_tested, code, codes}
use Rattle.pc_emit.specs.Image.{found_from, slot_of, closing, functions_size, entrances_from, function_code, functions_code, condition_size, conditions_size, conditions_words, abort_lines, entrances_of, whole_of, image_of}
use Rattle.pc_emit.specs.Fits.{CanBeEmitted}
use Rattle.pc_emit.proofs.Lists.{all_append}
use Rattle.pc_emit.proofs.Numbers.{fits_half, way_small, short_is}
use Rattle.pc_emit.proofs.Codes.{code_fits}
use Rattle.pc_emit.proofs.Conditions.{conditions_some, lines_long}
use Rattle.pc_emit.proofs.Whole.{HasThreads, whole_long}

-- ---- lists

all_map : {A B : Type 0} (P : A → Type 0) (Q : B → Type 0) (f : A → B) (xs : List A) → ((x : A) → P x → Q (f x)) → AllByRecursion P xs → AllByRecursion Q (map f xs)
all_map P Q f [] g h = tt
all_map P Q f (x ∷ xs) g h = (g x h.0, all_map P Q f xs g h.1)

all_as : {A : Type 0} (P Q : A → Type 0) (xs : List A) → ((x : A) → P x → Q x) → AllByRecursion P xs → AllByRecursion Q xs
all_as P Q [] g h = tt
all_as P Q (x ∷ xs) g h = (g x h.0, all_as P Q xs g h.1)

all_each : {A : Type 0} (P : A → Type 0) (xs : List A) → ((x : A) → P x) → AllByRecursion P xs
all_each P [] g = tt
all_each P (x ∷ xs) g = (g x, all_each P xs g)

-- ---- places that rise

abbrev pub Rising : (from : ℕ) → List Point → (to : ℕ) → Type 0
Rising from [] to = from ≤ to
Rising from (x ∷ xs) to = (from ≤ x.at) × Rising (x.at + 1) xs to

rising_earlier : (a b c : ℕ) (xs : List Point) → a ≤ b → Rising b xs c → Rising a xs c
rising_earlier a b c [] le h = omega (arith, le, h)
rising_earlier a b c (x ∷ xs) le h = let k = h.0 in (omega (arith, le, k), h.1)

rising_append : (a b c : ℕ) (xs ys : List Point) → Rising a xs b → Rising b ys c → Rising a (xs ++ ys) c
rising_append a b c [] ys h k = rising_earlier a b c ys h k
rising_append a b c (x ∷ xs) ys h k = (h.0, rising_append (x.at + 1) b c xs ys h.1 k)

rising_length : (a b : ℕ) (xs : List Point) → Rising a xs b → a + length xs ≤ b
rising_length a b [] h = omega (arith, h)
rising_length a b (x ∷ xs) h = let k = rising_length (x.at + 1) b xs h.1 in let e = h.0 in omega (arith, k, e)

rising_below : (a b : ℕ) (xs : List Point) → Rising a xs b → AllByRecursion (λ (x : Point). x.at < b) xs
rising_below a b [] h = tt
rising_below a b (x ∷ xs) h = let k = rising_length (x.at + 1) b xs h.1 in (omega (arith, k), rising_below (x.at + 1) b xs h.1)

rising_other : (a b p : ℕ) (xs : List Point) → p < a → Rising a xs b → AllByRecursion (λ (q : ℕ). (p == q) ≡ false) (places_of xs)
rising_other a b p [] lt h = tt
rising_other a b p (x ∷ xs) lt h = let k = h.0 in (ne_eqb p x.at (λ e. omega (arith, e, k, lt)), rising_other (x.at + 1) b p xs (omega (arith, k, lt)) h.1)

rising_distinct : (a b : ℕ) (xs : List Point) → Rising a xs b → IsDistinct (λ m n. m == n) (places_of xs)
unfolding IsDistinct
rising_distinct a b [] h = tt
rising_distinct a b (x ∷ xs) h = (rising_other (x.at + 1) b x.at xs (omega arith) h.1, rising_distinct (x.at + 1) b xs h.1)

-- ---- parts in their ranges

-- the words of a part stand from a place to another, in so many words, slots and aborts
module _ (words slots aborts : ℕ) where
  abbrev pub PointFits : Point → Type 0
  PointFits x = (x.slot < slots) × (length x.stack ≤ 8) × AllBelow aborts x.stack

  pub record PartFits (from to : ℕ) (p : Part) : Type 0 where
    pub instrs_fit : AllByRecursion IsInstr p.words
    pub pauses_fit : AllByRecursion PointFits p.pauses
    pub forks_fit : AllByRecursion PointFits p.forks
    pub handlers_fit : AllByRecursion (λ (h : ℕ). h < words) p.handlers
    pub pauses_rise : Rising from p.pauses to
    pub forks_rise : Rising from p.forks to

  pub both_fit : (a b c : ℕ) (p q : Part) → PartFits a b p → PartFits b c q → PartFits a c (joined p q)
  both_fit a b c p q h k = record {
    instrs_fit = all_append IsInstr p.words q.words h.instrs_fit k.instrs_fit;
    pauses_fit = all_append PointFits p.pauses q.pauses h.pauses_fit k.pauses_fit;
    forks_fit = all_append PointFits p.forks q.forks h.forks_fit k.forks_fit;
    handlers_fit = all_append (λ n. n < words) p.handlers q.handlers h.handlers_fit k.handlers_fit;
    pauses_rise = rising_append a b c p.pauses q.pauses h.pauses_rise k.pauses_rise;
    forks_rise = rising_append a b c p.forks q.forks h.forks_rise k.forks_rise;
  }

  pub words_fit : (a b : ℕ) (ws : List Instr) → a ≤ b → AllByRecursion IsInstr ws → PartFits a b (just ws)
  words_fit a b ws le h = record { instrs_fit = h; pauses_fit = tt; forks_fit = tt; handlers_fit = tt; pauses_rise = le; forks_rise = le }

  below_split : (xs ys : List ℕ) → AllBelow aborts (xs ++ ys) → AllBelow aborts xs × AllBelow aborts ys
  below_split [] ys h = (tt, h)
  below_split (x ∷ xs) ys h = let r = below_split xs ys h.1 in ((h.0, r.0), r.1)

  -- ---- words

  work_fits : (ops : List Written) → AreWork ops → AllByRecursion IsInstr (instrs ops)
  work_fits [] h = tt
  work_fits (alone w ∷ ops) h = (h.0, work_fits ops h.2)
  work_fits (after_imm upper w ∷ ops) h = (h.0, (h.1, work_fits ops h.3))

  jump_fits : (word : ℤ → Instr) (at to : ℕ) → ((z : ℤ) → FitsSigned w16 z → IsInstr (word z)) → AllByRecursion IsInstr (jump word at to)
  jump_fits word at to h =
      let w = way_small at to in
      (fits_half (way at to / 65536) (omega (arith, w)), (h (lower_half (way at to)) (fits_half (way at to % 65536) (omega arith)), tt))

  loop_fits : (most : ℕ) → most < 2 ^ 32 → AllByRecursion IsInstr (loop_words most)
  loop_fits most small = by (nat_lt most 65536) refl
    where
      by : (few : Bool) → nat_lt most 65536 ≡ few → AllByRecursion IsInstr (if few then Loop most ∷ [] else Imm (upper_half most) ∷ Loop (most % 65536) ∷ [])
      by true is = let lt : most < 65536 = (Decides-ltb most 65536).0 is in (lt, tt)
      by false is = (fits_half (most / 65536) (omega arith), (omega arith, tt))

  drop_fits : (test : Option Test) → AllByRecursion IsInstr (drop_words test)
  drop_fits None = tt
  drop_fits (Some test) = (tt, tt)

  module _ (writing : Writing) (work : WritesWork writing) where
    test_fits : (test : Test) (at out a b : ℕ) → IsTrue (writing.is_test_written test) → a ≤ b → PartFits a b (tested writing test at out)
    test_fits test at out a b written le =
        let ops = writing.test_words_of test in
        words_fit a b (instrs ops ++ jump (writing.branch_of test) (at + words_in ops) out) le
        (all_append IsInstr (instrs ops) (jump (writing.branch_of test) (at + words_in ops) out) (work_fits ops (work.tests test written))
        (jump_fits (writing.branch_of test) (at + words_in ops) out (work.branches test)))

    option_fits : (test : Option Test) (at out a b : ℕ) → OptionWritten writing test → a ≤ b → PartFits a b (option_tested writing test at out)
    option_fits None at out a b written le = words_fit a b [] le tt
    option_fits (Some test) at out a b written le = test_fits test at out a b written le

    bri_fits : (at to a b : ℕ) → a ≤ b → PartFits a b (just (jump Bri at to))
    bri_fits at to a b le = words_fit a b (jump Bri at to) le (jump_fits Bri at to (λ z h. h))

    -- ---- nodes

    module _ (known : Flows) (entrances : List ℕ) (slot : ℕ) (own : slot < slots) (room : words ≤ 65535) where
      mutual
        pub fits : (n : Node) (stack : List ℕ) (child at to depth : ℕ) → length stack ≡ depth → depth ≤ 8 → AllBelow aborts stack
            → IsLayable known depth n → NodeWritten writing n → AllBelow aborts (guards_of n) → at + size writing n ≡ to → to < words
            → PartFits at to (code writing entrances slot n stack child at)
        fits (straight steps) stack child at to depth deep few below lay written guards e lt =
            words_fit at to (instrs (writing.words_of steps)) (omega (arith, e)) (work_fits (writing.words_of steps) (work.steps steps written))
        fits (sequence nodes) stack child at to depth deep few below lay written guards e lt =
            all_fit nodes stack child at to depth deep few below lay written guards e lt
        fits (branch test n m) stack child at to depth deep few below lay written guards e lt =
            let inner = at + test_size writing test in
            let mid = inner + size writing n in
            let out = mid + 2 in
            let w = just (jump Bri mid (out + size writing m)) in
            let y = code writing entrances slot n stack child inner in
            let z = code writing entrances slot m stack (child + length (threads_of n)) out in
            let g = below_split (guards_of n) (guards_of m) guards in
            both_fit at inner to (tested writing test at out) (joined y (joined w z)) (test_fits test at out at inner written.0 (omega arith))
            (both_fit inner mid to y (joined w z) (fits n stack child inner mid depth deep few below lay.0 written.1 g.0 refl (omega (arith, e, lt)))
            (both_fit mid out to w z (bri_fits mid (out + size writing m) mid out (omega arith))
            (fits m stack (child + length (threads_of n)) out to depth deep few below lay.1 written.2 g.1 (omega (arith, e)) lt)))
        fits (turns test body) stack child at to depth deep few below lay written guards e lt =
            let inner = at + option_size writing test in
            let mid = inner + size writing body in
            let y = code writing entrances slot body stack child inner in
            let w = just (jump Bri mid at) in
            both_fit at inner to (option_tested writing test at (mid + 2)) (joined y w) (option_fits test at (mid + 2) at inner written.0 (omega arith))
            (both_fit inner mid to y w (fits body stack child inner mid depth deep few below lay.1 written.1 guards refl (omega (arith, e, lt)))
            (bri_fits mid at mid to (omega (arith, e))))
        fits (bounded most test body) stack child at to depth deep few below lay written guards e lt =
            let head = at + loop_size most in
            let inner = head + 1 + option_size writing test in
            let mid = inner + size writing body in
            let out = mid + 2 in
            let l = just (loop_words most) in
            let m = just (Next (short (out + drop_size test)) ∷ []) in
            let x = option_tested writing test (head + 1) out in
            let y = code writing entrances slot body stack child inner in
            let w = just (jump Bri mid head) in
            let d = just (drop_words test) in
            both_fit at head to l (joined m (joined x (joined y (joined w d)))) (words_fit at head (loop_words most) (omega arith) (loop_fits most lay.0))
            (both_fit head (head + 1) to m (joined x (joined y (joined w d))) (words_fit head (head + 1) (Next (short (out + drop_size test)) ∷ []) (omega arith) (omega arith, tt))
            (both_fit (head + 1) inner to x (joined y (joined w d)) (option_fits test (head + 1) out (head + 1) inner written.0 (omega arith))
            (both_fit inner mid to y (joined w d) (fits body stack child inner mid depth deep few below lay.2 written.1 guards refl (omega (arith, e, lt)))
            (both_fit mid out to w d (bri_fits mid head mid out (omega arith)) (words_fit out to (drop_words test) (omega (arith, e)) (drop_fits test))))))
        fits (call g) stack child at to depth deep few below lay written guards e lt =
            words_fit at to (Call (short (slice_index_or entrances g 0)) ∷ []) (omega (arith, e)) (omega arith, tt)
        fits (pause i) stack child at to depth deep few below lay written guards e lt =
            let is = short_is at (omega (arith, e, lt, room)) in
            record {
              instrs_fit = (tt, tt);
              pauses_fit = ((own, omega (arith, deep, few), below), tt);
              forks_fit = tt;
              handlers_fit = tt;
              pauses_rise = (omega (arith, is), omega (arith, is, e));
              forks_rise = omega (arith, e);
            }
        fits (fork i fs) stack child at to depth deep few below lay written guards e lt =
            let is = short_is at (omega (arith, e, lt, room)) in
            record {
              instrs_fit = ((omega arith, omega arith), tt);
              pauses_fit = tt;
              forks_fit = ((own, omega (arith, deep, few), below), tt);
              handlers_fit = tt;
              pauses_rise = omega (arith, e);
              forks_rise = (omega (arith, is), omega (arith, is, e));
            }
        fits (guard j body) stack child at to depth deep few below lay written guards e lt =
            let mid = at + 1 + size writing body in
            let y = code writing entrances slot body (stack ++ j ∷ []) child (at + 1) in
            let is = short_is (mid + 1) (omega (arith, e, lt, room)) in
            both_fit at (at + 1) to (entering (short j) (short (mid + 1))) (joined y (just (Leave ∷ []))) (record {
              instrs_fit = (omega arith, tt);
              pauses_fit = tt;
              forks_fit = tt;
              handlers_fit = (omega (arith, is, e, lt), tt);
              pauses_rise = omega arith;
              forks_rise = omega arith;
            })
            (both_fit (at + 1) mid to y (just (Leave ∷ []))
            (fits body (stack ++ j ∷ []) child (at + 1) mid (depth + 1) (length-append stack (j ∷ []) ∙ ap (λ k. k + 1) deep) (let l = lay.0 in omega (arith, l))
            (all_append (λ k. k < aborts) stack (j ∷ []) below (guards.0, tt)) lay.1 written guards.1 refl (omega (arith, e, lt)))
            (words_fit mid to (Leave ∷ []) (omega (arith, e)) (tt, tt)))

        all_fit : (nodes : Nodes) (stack : List ℕ) (child at to depth : ℕ) → length stack ≡ depth → depth ≤ 8 → AllBelow aborts stack
            → AreLayable known depth nodes → NodesWritten writing nodes → AllBelow aborts (guards_of_all nodes) → at + sizes writing nodes ≡ to → to < words
            → PartFits at to (codes writing entrances slot nodes stack child at)
        all_fit no_nodes stack child at to depth deep few below lay written guards e lt = words_fit at to [] (omega (arith, e)) tt
        all_fit (and n nodes) stack child at to depth deep few below lay written guards e lt =
            let mid = at + size writing n in
            let g = below_split (guards_of n) (guards_of_all nodes) guards in
            both_fit at mid to (code writing entrances slot n stack child at) (codes writing entrances slot nodes stack (child + length (threads_of n)) mid)
            (fits n stack child at mid depth deep few below lay.0 written.0 g.0 refl (omega (arith, e, lt)))
            (all_fit nodes stack (child + length (threads_of n)) mid to depth deep few below lay.1 written.1 g.1 (omega (arith, e)) lt)

-- ---- a whole flow

pub all_from : (P : Node → Type 0) (nodes : List Node) → ((g : ℕ) → g < length nodes → P (body_at nodes g)) → AllByRecursion P nodes
all_from P [] h = tt
all_from P (n ∷ nodes) h = (h zero (omega arith), all_from P nodes (λ g lt. h (suc g) (omega (arith, lt))))

found_within : (xs : List ℕ) (b g limit : ℕ) → b + length xs ≤ limit → 0 < limit → unwrap_or (found_from b g xs) 0 < limit
found_within [] b g limit le some = some
found_within (x ∷ xs) b g limit le some = by (x == g) (found_within xs (b + 1) g limit (omega (arith, le)) some)
  where
    by : (t : Bool) → unwrap_or (found_from (b + 1) g xs) 0 < limit → unwrap_or (if t then Some b else found_from (b + 1) g xs) 0 < limit
    by true h = omega (arith, le)
    by false h = h

closing_fits : (slot : Option ℕ) → IsInstr (closing slot)
closing_fits None = tt
closing_fits (Some slot) = tt

module _ (f : Flow) (writing : Writing) (placing : Placing) (further : ℕ) (can : CanBeEmitted f writing placing further) (has : HasThreads f) where
  abbrev image : Parts
  image = image_of writing f further

  abbrev whole : Part
  whole = whole_of writing f

  abbrev slots : List ℕ
  slots = slots_of f

  abbrev entrances : List ℕ
  entrances = entrances_of writing f

  abbrev known : Flows
  known = flows_of f.bodies

  abbrev total : ℕ
  total = length whole.words

  abbrev Fit : (from to : ℕ) → Part → Type 0
  Fit from to p = PartFits total (length slots) (length f.aborts) from to p

  some_slot : 1 ≤ length slots
  some_slot = let e = ap length has.0 in omega (arith, e)

  small : total ≤ 60000
  small = let e = whole_long f writing placing further can has in let h = can.code in omega (arith, e, h)

  pub layable : (g : ℕ) → g < length f.bodies → IsLayable known 0 (body_at f.bodies g)
  layable g lt =
      ⊎_elim (λ s. subst (λ k. IsLayable known 0 (body_at f.bodies k)) s.2 (can.laid.threads s.0 s.1)) (λ is. (can.laid.called g is).layable) (can.laid.each g lt)

  function_fits : (slot : Option ℕ) (n : Node) (at : ℕ) → unwrap_or slot 0 < length slots → IsLayable known 0 n → NodeWritten writing n → AllBelow (length f.aborts) (guards_of n)
      → at + size writing n + 1 ≤ total → Fit at (at + size writing n + 1) (function_code writing entrances slots (first_started f) slot n at)
  function_fits slot n at own lay written guards le =
      let room = small in
      let to = at + size writing n in
      both_fit total (length slots) (length f.aborts) at to (to + 1) (code writing entrances (unwrap_or slot 0) n [] (first_started f (unwrap_or slot 0)) at) (just (closing slot ∷ []))
      (fits total (length slots) (length f.aborts) writing can.work known entrances (unwrap_or slot 0) own (omega (arith, room)) n [] (first_started f (unwrap_or slot 0)) at to 0 refl (omega arith) tt
      lay written guards refl (omega (arith, le)))
      (words_fit total (length slots) (length f.aborts) to (to + 1) (closing slot ∷ []) (omega arith) (closing_fits slot, tt))

  functions_fit : (nodes : List Node) (g at : ℕ) → AllByRecursion (IsLayable known 0) nodes → AllByRecursion (NodeWritten writing) nodes → AllBelow (length f.aborts) (numbers_in guards_of nodes)
      → at + functions_size writing nodes ≤ total → Fit at (at + functions_size writing nodes) (functions_code writing entrances slots (first_started f) g nodes at)
  functions_fit [] g at lay written guards le = words_fit total (length slots) (length f.aborts) at (at + 0) [] (omega arith) tt
  functions_fit (n ∷ nodes) g at lay written guards le =
      let some = some_slot in
      let split = below_split total (length slots) (length f.aborts) (guards_of n) (numbers_in guards_of nodes) guards in
      let mid = at + size writing n + 1 in
      let e : mid + functions_size writing nodes ≡ at + functions_size writing (n ∷ nodes) = omega arith in
      both_fit total (length slots) (length f.aborts) at mid (at + functions_size writing (n ∷ nodes))
      (function_code writing entrances slots (first_started f) (slot_of slots g) n at) (functions_code writing entrances slots (first_started f) (g + 1) nodes mid)
      (function_fits (slot_of slots g) n at (found_within slots 0 g (length slots) (omega arith) (omega (arith, some))) lay.0 written.0 split.0 (omega (arith, le)))
      (subst (λ k. Fit mid k (functions_code writing entrances slots (first_started f) (g + 1) nodes mid)) e (functions_fit nodes (g + 1) mid lay.1 written.1 split.1 (omega (arith, le))))

  conditions_fit : (aborts : List (Bool × Test)) → AllByRecursion (λ (a : Bool × Test). IsTrue (writing.is_test_written a.1)) aborts → AllByRecursion IsInstr (conditions_words writing aborts)
  conditions_fit [] written = tt
  conditions_fit (a ∷ aborts) written =
      let ops = writing.test_words_of a.1 in
      all_append IsInstr (instrs ops) (Cend (writing.register_of a.1) ∷ conditions_words writing aborts)
      (work_fits total (length slots) (length f.aborts) ops (can.work.tests a.1 written.0)) (tt, conditions_fit aborts written.1)

  range_below : (a n limit : ℕ) → a + n ≤ limit → AllBelow limit (range_with_len a n)
  range_below a zero limit le = tt
  range_below a (suc n) limit le = (omega (arith, le), range_below (a + 1) n limit (omega (arith, le)))

  guards_below : AllBelow (length f.aborts) (numbers_in guards_of f.bodies)
  guards_below = subst (AllBelow (length f.aborts)) (sym can.laid.guards) (range_below 0 (length f.aborts) (length f.aborts) (omega arith))

  whole_fits : Fit 0 total whole
  whole_fits =
      let long = whole_long f writing placing further can has in
      let e : 0 + functions_size writing f.bodies + conditions_size writing f.aborts ≡ total = omega (arith, long) in
      let fs = functions_code writing entrances slots (first_started f) 0 f.bodies 0 in
      both_fit total (length slots) (length f.aborts) 0 (0 + functions_size writing f.bodies) total fs (just (conditions_words writing f.aborts))
      (functions_fit f.bodies 0 0 (all_from (IsLayable known 0) f.bodies layable) can.written.bodies guards_below (omega (arith, e)))
      (words_fit total (length slots) (length f.aborts) (0 + functions_size writing f.bodies) total (conditions_words writing f.aborts) (omega (arith, e)) (conditions_fit f.aborts can.written.conditions))

  code_long : length image.code ≡ total
  code_long = length-map whole.words code_of

  slots_long : length image.slots ≡ length slots
  slots_long = length-map slots (λ g. short (slice_index_or entrances g 0))

  handler_below : (handlers : List ℕ) (k : ℕ) → AllByRecursion (λ (h : ℕ). h < total) handlers → 0 < total → slice_index_or handlers k 0 < total
  handler_below [] k h some = some
  handler_below (x ∷ handlers) zero h some = h.0
  handler_below (x ∷ handlers) (suc k) h some = handler_below handlers k h.1 some

  lines_fit : (aborts : List (Bool × Test)) (k at : ℕ) (handlers : List ℕ) → at + conditions_size writing aborts ≤ total → AllByRecursion (λ (h : ℕ). h < total) handlers
      → AllByRecursion (λ (l : AbortLine). (l.cond < total) × (l.handler < total)) (abort_lines writing aborts k at handlers)
  lines_fit [] k at handlers le h = tt
  lines_fit (a ∷ aborts) k at handlers le h =
      let room = small in
      let is = short_is at (omega (arith, le, room)) in
      ((omega (arith, is, le), handler_below handlers k h (omega (arith, le))), lines_fit aborts (k + 1) (at + condition_size writing a.1) handlers (omega (arith, le)) h)

  -- an entrance is the place of a word
  entrance_inside : (nodes : List Node) (at g : ℕ) → 1 ≤ length nodes → slice_index_or (entrances_from writing nodes at) g 0 < at + functions_size writing nodes
  entrance_inside [] at g some = absurd (omega (arith, some))
  entrance_inside (n ∷ nodes) at zero some = omega arith
  entrance_inside (n ∷ []) at (suc g) some = omega arith
  entrance_inside (n ∷ m ∷ nodes) at (suc g) some = let h = entrance_inside (m ∷ nodes) (at + size writing n + 1) g (omega arith) in omega (arith, h)

  slot_inside : (g : ℕ) → short (slice_index_or entrances g 0) < total
  slot_inside g =
      let main = can.laid.main in
      let h = entrance_inside f.bodies 0 g (omega (arith, main)) in
      let long = whole_long f writing placing further can has in
      let room = small in
      let is = short_is (slice_index_or entrances g 0) (omega (arith, h, long, room)) in
      omega (arith, is, h, long)

  lines_all : length image.aborts ≡ length f.aborts
  lines_all = lines_long writing f.aborts 0 (functions_size writing f.bodies) whole.handlers

  points_fit : (points : List Point) → length image.aborts ≡ length f.aborts → AllByRecursion (PointFits total (length slots) (length f.aborts)) points → AllByRecursion (λ (x : Point). x.at < total) points
      → AllByRecursion (IsPoint image) points
  points_fit [] same h k = tt
  points_fit (x ∷ points) same h k =
      let c = code_long in
      let l = slots_long in
      let at = k.0 in
      let own = h.0.0 in
      ((omega (arith, at, c), omega (arith, own, l), h.0.1, subst (λ n. AllBelow n x.stack) (sym same) h.0.2), points_fit points same h.1 k.1)

  are_points : (points : List Point) → length image.aborts ≡ length f.aborts → AllByRecursion (PointFits total (length slots) (length f.aborts)) points → Rising 0 points total → ArePoints image points
  are_points points same h r =
      let long = rising_length 0 total points r in
      let room = small in
      (omega (arith, long, room), points_fit points same h (rising_below 0 total points r), rising_distinct 0 total points r)

  ports_fit : (ports : List ℕ) → AllBelow (length f.declared) ports → AllBelow (length image.memory) ports
  ports_fit ports h =
      let e = length-append f.declared (replicate further (pos 0)) in
      all_as (λ n. n < length f.declared) (λ n. n < length image.memory) ports (λ n lt. omega (arith, e, lt)) h

  memory_fits : (n : ℕ) → AllByRecursion (FitsSigned w32) (replicate n (pos 0))
  memory_fits zero = tt
  memory_fits (suc n) = (record { sfits = omega arith }, memory_fits n)

  pub image_in_range : IsImage image
  image_in_range =
      let fit = whole_fits in
      let long = whole_long f writing placing further can has in
      let room = small in
      let c = code_long in
      let l = slots_long in
      let main = can.laid.main in
      let entrance = slot_inside 0 in
      let some = some_slot in
      let most = can.laid.few in
      let many = conditions_some writing f.aborts in
      let memory = length-append f.declared (replicate further (pos 0)) in
      let more = length-replicate further (pos 0) in
      let within = can.memory in
      let same : length image.aborts ≡ length f.aborts = lines_all in
      record {
        code = (omega (arith, c, entrance), omega (arith, c, room));
        memory = omega (arith, memory, more, within);
        inputs = (can.inputs.0, ports_fit f.inputs can.inputs.1);
        outputs = (can.outputs.0, ports_fit f.outputs can.outputs.1);
        slots = (
          omega (arith, some, l),
          omega (arith, most, l),
          all_map (λ (g : ℕ). Unit {0}) (λ n. n < length image.code) (λ g. short (slice_index_or entrances g 0)) slots
              (λ g u. let inside = slot_inside g in omega (arith, inside, c)) (all_each (λ (g : ℕ). Unit {0}) slots (λ g. tt)),
        );
        aborts = (
          omega (arith, same, many, long, room),
          all_as (λ (a : AbortLine). (a.cond < total) × (a.handler < total)) (IsAbortLine image) image.aborts
              (λ a h. let k = h.0 in let m = h.1 in (omega (arith, k, c), omega (arith, m, c)))
              (lines_fit f.aborts 0 (functions_size writing f.bodies) whole.handlers (omega (arith, long)) fit.handlers_fit),
        );
        pauses = are_points whole.pauses same fit.pauses_fit fit.pauses_rise;
        forks = are_points whole.forks same fit.forks_fit fit.forks_rise;
      }

  pub image_has_words : AreWords image
  image_has_words = record {
    code = all_map IsInstr (λ n. n < 2 ^ 32) code_of whole.words code_fits whole_fits.instrs_fit;
    memory = all_append (FitsSigned w32) f.declared (replicate further (pos 0)) can.declared (memory_fits further);
  }
