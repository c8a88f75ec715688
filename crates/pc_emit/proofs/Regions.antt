-- A node that is passed in one go lies in the image as its region.
use Rattle.std.proofs.Common.{◌≡◌, ℕ, suc, ◌+◌, ◌-◌, ◌^◌, ◌<◌, ◌≤◌, IsTrue, Option, Some, None, List, [], ◌∷◌, ◌++◌, length, refl, sym}
use Rattle.std.proofs.Common.{ap, subst, ◌∙◌, arith, append-nil}
use Rattle.std.specs.Prelude.{slice_index_or}
use Rattle.std.specs.List.{AllByRecursion}
use Rattle.mb_isa.specs.declared.words.Instr.TheVariants.{Bri, Call, Next, Drop}
use Rattle.pt_image.specs.declared.image.Parts.{Parts}
use Rattle.pc_lower.specs.declared.nodes.Step.{Step}
use Rattle.pc_lower.specs.declared.nodes.Test.{Test}
use Rattle.pc_lower.specs.Flow.{Node, Nodes, straight, sequence, branch, turns, bounded, call, pause, fork, guard, no_nodes, and, Flows}
use Rattle.pc_lower.specs.Laid.{Placing}
use Rattle.pc_lower.specs.Words.{words_in, Writing}
use Rattle.pc_lower.specs.Limits.{threads_of}
use Rattle.pc_lower.specs.Layable.{IsLayable, AreLayable}
use Rattle.tk_paths.specs.declared.word.Word.TheVariants.{Jump, Branch}
use Rattle.tk_paths.specs.declared.word.Word.TheVariants as word
use Rattle.tk_paths.proofs.Lists.{all-left, all-right}
use Rattle.tk_paths.specs.Regions.{Region, Choice, Calling, from, to, behind, IsUnit, IsWord, AreUnits, IsLaid}
use Rattle.tk_paths.specs.Programs.{Section}
use Rattle.tk_paths.specs.Trees.{routine_at}
use Rattle.pc_emit.specs.Part.{Part}
use Rattle.pc_emit.specs.Code.{loop_size, drop_size, test_size, option_size, size, sizes, short, jump, loop_words, drop_words, tested}
use Rattle.pc_emit.specs.Code.{option_tested, code, codes}
use Rattle.pc_regs.specs.Writings.{instrs, WritesWork, OptionWritten, NodeWritten, NodesWritten}
use Rattle.pc_emit.proofs.Lists.{IsAt, at_first, at_second, at_moved, at_within}
use Rattle.pc_emit.proofs.Numbers.{short_is}
use Rattle.pc_emit.proofs.Lengths.{instrs_size, loop_words_size, tested_size, option_tested_size, code_size}
use Rattle.pc_emit.proofs.Made.{IsMade, has_at, written_at, jump_at, loop_at, branch_at}
use Rattle.pc_emit.specs.Sections.{calls_in, calls_in_all, loop_region, region, regions}
use Rattle.pc_emit.proofs.Units.{UnitTo, is-word, are-units, is-jump, is-loop, is-branch}
use Rattle.pc_emit.proofs.Passing.{IsPassed, ArePassed, region-from, regions-from, region-to, IsKnown, found-there}

-- what stands behind a piece of so many words
pub next-at : {A : Type 0} {all : List A} {n : ℕ} (p q : List A) (m : ℕ) → IsAt all n (p ++ q) → n + length p ≡ m → IsAt all m q
next-at p q m s e = at_moved q (at_second p q s) e

module _ (image : Parts) (writing : Writing) (whole : Part) (made : IsMade image whole) (work : WritesWork writing) where
  -- a test at a place, and the branch to where it goes on if it doesn't hold
  pub record IsTested (test : Test) (at inner out : ℕ) : Type 0 where
    pub units : AreUnits image at (length (writing.test_words_of test)) (at + words_in (writing.test_words_of test))
    pub branches : IsUnit image (at + words_in (writing.test_words_of test)) (Branch (Some out))
    pub goes_on : behind image (at + words_in (writing.test_words_of test)) ≡ inner

  pub is-tested : (test : Test) (at inner out : ℕ) → IsTrue (writing.is_test_written test) → IsAt whole.words at
      (tested writing test at out).words
      → at + test_size writing test ≡ inner → out < length whole.words → IsTested test at inner out
  is-tested test at inner out written s e lt =
      let ops = writing.test_words_of test in
      let mid = at + words_in ops in
      let j = jump (writing.branch_of test) mid out in
      let b = is-branch image (writing.branch_of test) mid inner out
      (branch_at image whole made writing work test mid inner out (next-at (instrs ops) j mid s (ap (λ n. at + n) (instrs_size ops)))
      (omega (arith, e)) lt) in
      record {
        units = are-units image ops at mid (written_at image whole made ops j at mid s (work.tests test written) refl);
        branches = b.0;
        goes_on = b.1;
      }

  -- straight code
  pub straight-units : (steps : List Step) (at : ℕ) → IsTrue (writing.is_written steps) → IsAt whole.words at
      (instrs (writing.words_of steps)) →
      AreUnits image at (length (writing.words_of steps)) (at + words_in (writing.words_of steps))
  straight-units steps at written s =
      let ops = writing.words_of steps in
      are-units image ops at (at + words_in ops)
      (written_at image whole made ops [] at (at + words_in ops) (subst (IsAt whole.words at) (sym (append-nil (instrs ops))) s)
      (work.steps steps written) refl)

  -- a loop with a number lies where its words stand, if its body does
  module _ (most at : ℕ) (some : 1 ≤ most) (small : most < 2 ^ 32) (l : IsAt whole.words at (loop_words most)) (end out : ℕ)
      (lt : end < length whole.words)
      (n : IsAt whole.words (at + loop_size most) (Next (short end) ∷ [])) (body : Region) (inner mid : ℕ) (starts : from body ≡ inner)
      (stops : to body ≡ mid)
      (laid : IsLaid image body) (j : IsAt whole.words mid (jump Bri mid (at + loop_size most))) (me : mid + 2 ≡ out) where
    abbrev head : ℕ
    head = at + loop_size most

    loops : UnitTo image at (word.Loop most) head
    loops = is-loop image most at head (loop_at image whole made most at head small l refl)

    opens : IsUnit image at (word.Loop (suc (most - 1)))
    opens = let e : most ≡ suc (most - 1) = omega (arith, some) in loops.0 ∙ ap (λ k. Some (word.Loop k)) e

    nexts : IsWord image (behind image at) (word.Next end)
    nexts =
        let room = made.room in
        let same : short end ≡ end = short_is end (omega (arith, lt, room)) in
        subst (λ k. IsWord image k (word.Next end)) (sym loops.1)
        (is-word image head (Next end) (has_at image whole made head (Next end) [] (subst (λ k. IsAt whole.words head (Next k ∷ [])) same n)
        (omega (arith, lt, room))))

    back : UnitTo image mid (Jump (Some head)) out
    back = let w = at_within (Next (short end) ∷ []) n in is-jump image mid out head
        (jump_at image whole made mid out head j me (omega (arith, w)))

    jumps : IsUnit image (to body) (Jump (Some (behind image at)))
    jumps = subst (λ k. IsUnit image k (Jump (Some (behind image at)))) (sym stops) (back.0 ∙ ap (λ k. Some (Jump (Some k))) (sym loops.1))

    leaves : behind image (to body) ≡ out
    leaves = ap (behind image) stops ∙ back.1

    pub loop-laid : (test : Option Test) → OptionWritten writing test → IsAt whole.words (head + 1)
        (option_tested writing test (head + 1) out).words
        → head + 1 + option_size writing test ≡ inner → IsAt whole.words out (drop_words test) → out + drop_size test ≡ end
        → IsLaid image (loop_region writing most test at body out)
    loop-laid None written t ie d oe =
        let same : end ≡ out = omega (arith, oe) in
        let first : head + 1 ≡ inner = omega (arith, ie) in (
          opens,
          subst (λ k. IsWord image (behind image at) (word.Next k)) same nexts,
          ap (λ k. k + 1) loops.1 ∙ first
              ∙ sym starts,
          laid,
          jumps,
          leaves,
        )
    loop-laid (Some test) written t ie d oe =
        let one = is-tested test (head + 1) inner out written t ie (omega (arith, oe, lt)) in
        let drop = is-word image out Drop (has_at image whole made out Drop [] d tt) in (
          opens,
          subst (λ k. IsWord image (behind image at) (word.Next k)) (sym oe) nexts,
          subst (λ k. AreUnits image (k + 1) (length (writing.test_words_of test)) (head + 1 + words_in (writing.test_words_of test)))
              (sym loops.1) one.units,
          one.branches,
          one.goes_on ∙ sym starts,
          laid,
          jumps,
          leaves,
          drop,
        )

  -- a choice likewise
  pub choice-laid : (test : Test) (at inner mid out end : ℕ) (x y : Region) → IsTrue (writing.is_test_written test) → IsAt whole.words at
      (tested writing test at out).words
      → at + test_size writing test ≡ inner → IsAt whole.words mid (jump Bri mid end) → mid + 2 ≡ out → end < length whole.words →
      out < length whole.words
      → from x ≡ inner → to x ≡ mid → from y ≡ out → to y ≡ end → IsLaid image x → IsLaid image y
      → IsLaid image (Choice at (length (writing.test_words_of test)) (at + words_in (writing.test_words_of test)) x y)
  choice-laid test at inner mid out end x y written t ie j me lt less fx tx fy ty lx ly =
      let one = is-tested test at inner out written t ie less in
      let over = is-jump image mid out end (jump_at image whole made mid out end j me lt) in (
        one.units,
        one.branches ∙ ap (λ k. Some (Branch (Some k))) (sym fy),
        one.goes_on ∙ sym fx,
        lx,
        subst (λ k. IsUnit image k (Jump (Some (to y)))) (sym tx) (over.0 ∙ ap (λ k. Some (Jump (Some k))) (sym ty)),
        ap (behind image) tx ∙ over.1 ∙ sym fy,
        ly,
      )

  -- ---- nodes

  module _ (entrances : List ℕ) (sections : List Section) (placing : Placing)
      (enters : (g : ℕ) → short (slice_index_or entrances g 0) ≡ placing.entrance g)
      (numbers : List ℕ) (routines : List Region) (known : Flows) (s : ℕ) where
    pub call-laid : (f at : ℕ) → IsKnown image sections placing numbers routines f → IsAt whole.words at
        (Call (short (slice_index_or entrances f 0)) ∷ [])
        → IsLaid image (Calling at (routine_at routines at (slice_index_or numbers f 0)))
    call-laid f at one st =
        let e = found-there image sections placing numbers routines f at one in
        let small : placing.entrance f < 65536 = subst (λ k. k < 65536) (enters f) (omega arith) in
        let there = is-word image at (Call (placing.entrance f))
        (has_at image whole made at (Call (placing.entrance f)) []
        (subst (λ k. IsAt whole.words at (Call k ∷ [])) (enters f) st) small) in
        subst (λ r. IsLaid image (Calling at r)) (sym e) (
          subst (λ k. IsWord image at (word.Call k))
              (sym one.starts) there,
          one.laid,
          one.returns,
        )

    mutual
      pub region-laid : (n : Node) (a : List ℕ) (child at end depth : ℕ) → IsAt whole.words at (code writing entrances s n a child at).words
          → IsPassed n → IsLayable known depth n
          → NodeWritten writing n → AllByRecursion (IsKnown image sections placing numbers routines) (calls_in n) →
          at + size writing n ≡ end → end < length whole.words
          → IsLaid image (region writing numbers routines n at)
      region-laid (straight steps) a child at end depth st is lay written calls e lt = straight-units steps at written st
      region-laid (sequence nodes) a child at end depth st is lay written calls e lt =
          regions-laid nodes a child at end depth st is lay written calls e lt
      region-laid (branch test n m) a child at end depth st is lay written calls e lt =
          let K = IsKnown image sections placing numbers routines in
          let inner = at + test_size writing test in
          let mid = inner + size writing n in
          let out = mid + 2 in
          let x = tested writing test at out in
          let y = code writing entrances s n a child inner in
          let w = jump Bri mid (out + size writing m) in
          let z = code writing entrances s m a (child + length (threads_of n)) out in
          let st1 = next-at x.words (y.words ++ (w ++ z.words)) inner st (ap (λ k. at + k) (tested_size writing test at out)) in
          let st2 = next-at y.words (w ++ z.words) mid st1 (ap (λ k. inner + k) (code_size writing entrances s n a child inner)) in
          let st3 = next-at w z.words out st2 refl in
          let last : out + size writing m ≡ end = omega (arith, e) in
          let there : IsAt whole.words mid (jump Bri mid end) = subst (λ k. IsAt whole.words mid (jump Bri mid k)) last
          (at_first w z.words st2) in
          choice-laid test at inner mid out end (region writing numbers routines n inner) (region writing numbers routines m out) written.0
          (at_first x.words (y.words ++ (w ++ z.words)) st) refl there refl lt (omega (arith, last, lt))
          (region-from writing numbers routines n inner) (region-to writing numbers routines n inner is.0)
          (region-from writing numbers routines m out) (region-to writing numbers routines m out is.1 ∙ last)
          (region-laid n a child inner mid depth (at_first y.words (w ++ z.words) st1) is.0 lay.0 written.1
          (all-left K (calls_in n) (calls_in m) calls) refl (omega (arith, last, lt)))
          (region-laid m a (child + length (threads_of n)) out end depth st3 is.1 lay.1 written.2
          (all-right K (calls_in n) (calls_in m) calls) last lt)
      region-laid (turns test body) a child at end depth st is lay written calls e lt = absurd is
      region-laid (bounded most test body) a child at end depth st is lay written calls e lt =
          let head = at + loop_size most in
          let inner = head + 1 + option_size writing test in
          let mid = inner + size writing body in
          let out = mid + 2 in
          let l = loop_words most in
          let m = Next (short (out + drop_size test)) ∷ [] in
          let x = option_tested writing test (head + 1) out in
          let y = code writing entrances s body a child inner in
          let w = jump Bri mid head in
          let d = drop_words test in
          let st1 = next-at l (m ++ (x.words ++ (y.words ++ (w ++ d)))) head st (ap (λ k. at + k) (loop_words_size most)) in
          let st2 = next-at m (x.words ++ (y.words ++ (w ++ d))) (head + 1) st1 refl in
          let st3 = next-at x.words (y.words ++ (w ++ d)) inner st2
          (ap (λ k. head + 1 + k) (option_tested_size writing test (head + 1) out)) in
          let st4 = next-at y.words (w ++ d) mid st3 (ap (λ k. inner + k) (code_size writing entrances s body a child inner)) in
          let st5 = next-at w d out st4 refl in
          let last : out + drop_size test ≡ end = omega (arith, e) in
          loop-laid most at is.0 lay.0 (at_first l (m ++ (x.words ++ (y.words ++ (w ++ d)))) st) (out + drop_size test) out
          (omega (arith, last, lt))
          (at_first m (x.words ++ (y.words ++ (w ++ d))) st1) (region writing numbers routines body inner) inner mid
          (region-from writing numbers routines body inner) (region-to writing numbers routines body inner is.1)
          (region-laid body a child inner mid depth (at_first y.words (w ++ d) st3) is.1 lay.2 written.1 calls refl
          (omega (arith, last, lt)))
          (at_first w d st4) refl test written.0 (at_first x.words (y.words ++ (w ++ d)) st2) refl st5 refl
      region-laid (call f) a child at end depth st is lay written calls e lt = call-laid f at calls.0 st
      region-laid (pause i) a child at end depth st is lay written calls e lt = absurd is
      region-laid (fork i fs) a child at end depth st is lay written calls e lt = absurd is
      region-laid (guard j body) a child at end depth st is lay written calls e lt = absurd is

      pub regions-laid : (nodes : Nodes) (a : List ℕ) (child at end depth : ℕ) → IsAt whole.words at
          (codes writing entrances s nodes a child at).words → ArePassed nodes → AreLayable known depth nodes
          → NodesWritten writing nodes → AllByRecursion (IsKnown image sections placing numbers routines) (calls_in_all nodes) →
          at + sizes writing nodes ≡ end → end < length whole.words
          → IsLaid image (regions writing numbers routines nodes at)
      regions-laid no_nodes a child at end depth st is lay written calls e lt = refl
      regions-laid (and n nodes) a child at end depth st is lay written calls e lt =
          let K = IsKnown image sections placing numbers routines in
          let mid = at + size writing n in
          let y = code writing entrances s n a child at in
          let z = codes writing entrances s nodes a (child + length (threads_of n)) mid in
          let st1 = next-at y.words z.words mid st (ap (λ k. at + k) (code_size writing entrances s n a child at)) in (
            region-laid n a child at mid depth (at_first y.words z.words st) is.0 lay.0 written.0
                (all-left K (calls_in n) (calls_in_all nodes) calls) refl (omega (arith, e, lt)),
            regions-laid nodes a (child + length (threads_of n)) mid end depth st1 is.1 lay.1 written.1
                (all-right K (calls_in n) (calls_in_all nodes) calls) (omega (arith, e)) lt,
            region-to writing numbers routines n at is.0 ∙ sym (regions-from writing numbers routines nodes mid),
          )
