-- A node of a thread lies in the image as its code.
use Rattle.std.proofs.Common.{◌≡◌, ℕ, ◌+◌, Bool, false, Option, Some, None, List, length, refl, ◌∙◌, arith}
use Rattle.std.specs.List.{AllByRecursion, list_all}
use Rattle.pt_image.specs.declared.image.Parts.{Parts}
use Rattle.pc_lower.specs.declared.nodes.Test.{Test}
use Rattle.pc_lower.specs.Flow.{Node, Nodes, straight, sequence, branch, turns, bounded, call, pause, fork, guard, no_nodes, and}
use Rattle.pc_lower.specs.Laid.{Placing}
use Rattle.pc_lower.specs.Program.{HasRoom, HaveRoom}
use Rattle.pc_lower.specs.Words.{Writing}
use Rattle.pc_lower.specs.Limits.{threads_of}
use Rattle.pc_lower.specs.Shaped.{can_end, can_all_end, IsLasting, AreLasting}
use Rattle.pc_lower.specs.Shaped as shaped
use Rattle.tk_paths.proofs.Lists.{all-left, all-right}
use Rattle.tk_paths.specs.Regions.{Region}
use Rattle.tk_paths.specs.Codes.{Code, Passed, entry, exit, EachCall, all_end, IsRoomy, IsLaidIn}
use Rattle.tk_paths.specs.Codes as codes_of_threads
use Rattle.tk_paths.specs.Programs.{Section}
use Rattle.pc_emit.specs.Code.{loop_size, test_size, option_size, size, sizes}
use Rattle.pc_emit.proofs.Laying.{Starts, AllStart}
use Rattle.pc_emit.specs.Sections.{calls_in, calls_in_all, turns_code, region, thread_code, thread_codes}
use Rattle.pc_emit.proofs.Passing.{loop-to, IsKnown, IsListed, call-small, region-small}

-- the threads of a fork can all end, where slots can as `starts` says, if their functions can
abbrev pub EndsAs : (ends starts : ℕ → Bool) → ℕ → List ℕ → Type 0
EndsAs ends starts child fs = all_end starts child (length fs) ≡ list_all ends fs

-- ---- where codes begin and end

module _ (writing : Writing) (numbers : List ℕ) (routines : List Region) where
  turns-entry : (test : Option Test) (at : ℕ) (body : Code) (out : ℕ) → entry body ≡ at + option_size writing test → entry
      (turns_code writing test at body out) ≡ at
  turns-entry None at body out e = omega (arith, e)
  turns-entry (Some test) at body out e = refl

  turns-exit : (test : Option Test) (at : ℕ) (body : Code) (out : ℕ) → exit (turns_code writing test at body out) ≡ out
  turns-exit None at body out = refl
  turns-exit (Some test) at body out = refl

  mutual
    pub thread-entry : (n : Node) (child at : ℕ) → entry (thread_code writing numbers routines n child at) ≡ at
    thread-entry (straight steps) child at = refl
    thread-entry (sequence nodes) child at = threads-entry nodes child at
    thread-entry (branch test a b) child at = refl
    thread-entry (turns test body) child at =
        let inner = at + option_size writing test in
        turns-entry test at (thread_code writing numbers routines body child inner) (inner + size writing body + 2)
        (thread-entry body child inner)
    thread-entry (bounded most None body) child at = refl
    thread-entry (bounded most (Some test) body) child at = refl
    thread-entry (call f) child at = refl
    thread-entry (pause i) child at = refl
    thread-entry (fork i fs) child at = refl
    thread-entry (guard j body) child at = refl

    pub threads-entry : (nodes : Nodes) (child at : ℕ) → entry (thread_codes writing numbers routines nodes child at) ≡ at
    threads-entry no_nodes child at = refl
    threads-entry (and n nodes) child at = thread-entry n child at

  mutual
    pub thread-exit : (n : Node) (child at : ℕ) → exit (thread_code writing numbers routines n child at) ≡ at + size writing n
    thread-exit (straight steps) child at = refl
    thread-exit (sequence nodes) child at = threads-exit nodes child at
    thread-exit (branch test a b) child at =
        let e = thread-exit b (child + length (threads_of a)) (at + test_size writing test + size writing a + 2) in omega (arith, e)
    thread-exit (turns test body) child at =
        let inner = at + option_size writing test in
        let e = turns-exit test at (thread_code writing numbers routines body child inner) (inner + size writing body + 2) in
        omega (arith, e)
    thread-exit (bounded most test body) child at =
        let inner = at + loop_size most + 1 + option_size writing test in
        let e = loop-to writing numbers routines most test at (region writing numbers routines body inner)
        (inner + size writing body + 2) in
        omega (arith, e)
    thread-exit (call f) child at = refl
    thread-exit (pause i) child at = refl
    thread-exit (fork i fs) child at = refl
    thread-exit (guard j body) child at = let e = thread-exit body child (at + 1) in omega (arith, e)

    pub threads-exit : (nodes : Nodes) (child at : ℕ) → exit
        (thread_codes writing numbers routines nodes child at) ≡ at + sizes writing nodes
    threads-exit no_nodes child at = omega arith
    threads-exit (and n nodes) child at = let e = threads-exit nodes (child + length (threads_of n)) (at + size writing n) in omega
        (arith, e)

  -- ---- which codes come to their end

  module _ (ends starts : ℕ → Bool) where
    turns-ends : (test : Option Test) (at : ℕ) (body : Code) (out : ℕ) → codes_of_threads.can_end starts
        (turns_code writing test at body out) ≡ shaped.is_tested test
    turns-ends None at body out = refl
    turns-ends (Some test) at body out = refl

    mutual
      pub thread-ends : (n : Node) (child at : ℕ) → Starts (EndsAs ends starts) n child → codes_of_threads.can_end starts
          (thread_code writing numbers routines n child at) ≡ can_end ends n
      thread-ends (straight steps) child at st = refl
      thread-ends (sequence nodes) child at st = threads-end nodes child at st
      thread-ends (branch test a b) child at st =
          let out = at + test_size writing test + size writing a + 2 in
          let e = thread-ends a child (at + test_size writing test) st.0 in
          let h = thread-ends b (child + length (threads_of a)) out st.1 in
          rw (e, h) refl
      thread-ends (turns test body) child at st = turns-ends test at _ _
      thread-ends (bounded most test body) child at st = refl
      thread-ends (call f) child at st = refl
      thread-ends (pause i) child at st = refl
      thread-ends (fork i fs) child at st = st
      thread-ends (guard j body) child at st = thread-ends body child (at + 1) st

      pub threads-end : (nodes : Nodes) (child at : ℕ) → AllStart (EndsAs ends starts) nodes child → codes_of_threads.can_end starts
          (thread_codes writing numbers routines nodes child at) ≡ can_all_end ends nodes
      threads-end no_nodes child at st = refl
      threads-end (and n nodes) child at st =
          let e = thread-ends n child at st.0 in
          let h = threads-end nodes (child + length (threads_of n)) (at + size writing n) st.1 in
          rw (e, h) refl

    turns-last : (test : Option Test) (at : ℕ) (body : Code) (out : ℕ) → codes_of_threads.IsLasting starts body →
        codes_of_threads.can_end starts body ≡ false →
        codes_of_threads.IsLasting starts (turns_code writing test at body out)
    turns-last None at body out h e = (h, e)
    turns-last (Some test) at body out h e = (h, e)

    mutual
      pub thread-lasts : (n : Node) (child at : ℕ) → Starts (EndsAs ends starts) n child → IsLasting ends n →
          codes_of_threads.IsLasting starts (thread_code writing numbers routines n child at)
      thread-lasts (straight steps) child at st h = tt
      thread-lasts (sequence nodes) child at st h = threads-last nodes child at st h
      thread-lasts (branch test a b) child at st h = (
        thread-lasts a child (at + test_size writing test) st.0 h.0,
        thread-lasts b (child + length (threads_of a)) (at + test_size writing test + size writing a + 2) st.1 h.1,
      )
      thread-lasts (turns test body) child at st h =
          let inner = at + option_size writing test in
          turns-last test at (thread_code writing numbers routines body child inner) (inner + size writing body + 2)
          (thread-lasts body child inner st h.0) (thread-ends body child inner st ∙ h.1)
      thread-lasts (bounded most test body) child at st h = tt
      thread-lasts (call f) child at st h = tt
      thread-lasts (pause i) child at st h = tt
      thread-lasts (fork i fs) child at st h = tt
      thread-lasts (guard j body) child at st h = thread-lasts body child (at + 1) st h

      pub threads-last : (nodes : Nodes) (child at : ℕ) → AllStart (EndsAs ends starts) nodes child → AreLasting ends nodes →
          codes_of_threads.IsLasting starts (thread_codes writing numbers routines nodes child at)
      threads-last no_nodes child at st h = tt
      threads-last (and n nodes) child at st h =
          (thread-lasts n child at st.0 h.0, threads-last nodes (child + length (threads_of n)) (at + size writing n) st.1 h.1)

  -- ---- what codes call

  module _ (image : Parts) (sections : List Section) (placing : Placing) where
    abbrev Known : ℕ → Type 0
    Known = IsKnown image sections placing numbers routines

    abbrev Listed : Region → Type 0
    Listed = IsListed image sections placing numbers routines

    turns-calls : (test : Option Test) (at : ℕ) (body : Code) (out : ℕ) → EachCall Listed body → EachCall Listed
        (turns_code writing test at body out)
    turns-calls None at body out h = h
    turns-calls (Some test) at body out h = h

    mutual
      pub thread-calls : (n : Node) (child at : ℕ) → HasRoom placing n 0 0 → AllByRecursion Known (calls_in n) → EachCall Listed
          (thread_code writing numbers routines n child at)
      thread-calls (straight steps) child at room known = tt
      thread-calls (sequence nodes) child at room known = threads-call nodes child at room known
      thread-calls (branch test a b) child at room known = (
        thread-calls a child (at + test_size writing test) room.0 (all-left Known (calls_in a) (calls_in b) known),
        thread-calls b (child + length (threads_of a)) (at + test_size writing test + size writing a + 2) room.1
            (all-right Known (calls_in a) (calls_in b) known),
      )
      thread-calls (turns test body) child at room known =
          let inner = at + option_size writing test in
          turns-calls test at (thread_code writing numbers routines body child inner) (inner + size writing body + 2)
          (thread-calls body child inner room known)
      thread-calls (bounded most test body) child at room known =
          (region-small image sections placing numbers routines writing (bounded most test body) at 0 0 room known (omega arith)
          (omega arith)).calls
      thread-calls (call f) child at room known = (call-small image sections placing numbers routines f at 0 0 known.0 room.1 room.2).calls
      thread-calls (pause i) child at room known = tt
      thread-calls (fork i fs) child at room known = tt
      thread-calls (guard j body) child at room known = thread-calls body child (at + 1) room.2 known

      pub threads-call : (nodes : Nodes) (child at : ℕ) → HaveRoom placing nodes 0 0 → AllByRecursion Known (calls_in_all nodes) →
          EachCall Listed (thread_codes writing numbers routines nodes child at)
      threads-call no_nodes child at room known = tt
      threads-call (and n nodes) child at room known = (
        thread-calls n child at room.0 (all-left Known (calls_in n) (calls_in_all nodes) known),
        threads-call nodes (child + length (threads_of n)) (at + size writing n) room.1
            (all-right Known (calls_in n) (calls_in_all nodes) known),
      )
