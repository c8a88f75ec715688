-- The trees in memory are the sections of the image of a flow.
use Rattle.std.proofs.Common.{◌≡◌, ℕ, zero, suc, ◌+◌, ◌-◌, Bool, true, false, List, [], ◌∷◌, ◌++◌, length, map, Option, Some, None, slice_get, refl, sym, ap, ◌∙◌, append_assoc, length-append, drop}
use Rattle.std.specs.Prelude.{slice_index_or}
use Rattle.pc_lower.specs.declared.nodes.Test.{Test}
use Rattle.pc_lower.specs.Flow.{Node, Nodes, straight, sequence, branch, turns, bounded, call, pause, fork, guard, no_nodes, and, Flow}
use Rattle.pc_lower.specs.Words.{words_in, Writing}
use Rattle.pc_lower.specs.Limits.{threads_of}
use Rattle.pc_lower.specs.Numbering.{slots_of, first_started}
use Rattle.tk_paths.specs.declared.trees.Region.{Region as Kept}
use Rattle.tk_paths.specs.declared.trees.Code.{Code as KeptCode}
use Rattle.tk_paths.specs.declared.trees.Section.{Section as KeptSection}
use Rattle.tk_paths.specs.Regions.{Region, Then, Choice}
use Rattle.tk_paths.specs.Codes.{Passed, Sequence, Either, Guarded}
use Rattle.tk_paths.specs.Programs.{Section, OfThread, OfRoutine, OfCondition}
use Rattle.tk_paths.specs.Trees.{regions_from, codes_from, read_region, read_code, read_sections}
use Rattle.tk_paths.proofs.Readings.{read-Words, read-Parts, read-Choice, read-Counted, read-Repeated, read-Calling, read-Passed, read-Sequence, read-Either, read-Turns, read-Forever, read-Resting, read-Forking, read-Guarded}
use Rattle.pc_emit.specs.Code.{loop_size, test_size, option_size, size}
use Rattle.pc_emit.specs.Image.{slot_of, condition_size, functions_size}
use Rattle.pc_emit.specs.Sections.{is_among, used_calls, counted, numbers_from, numbers_of, loop_region, turns_code, region, regions, thread_code, thread_codes, condition_sections, function_section, with_routine, function_sections, sections_of}
use Rattle.pc_emit.specs.Made.{calls_from, numbers_by, behind, made_loop, made_turns, made_region, made_regions, made_code, made_codes, made_conditions, made_function, made_functions, made_sections}

-- ---- numbers

pub numbers-are : (slots : List ℕ) (count g : ℕ) (nodes : List Node) → numbers_by slots count g (calls_from slots g nodes) ≡ numbers_from slots count g nodes
numbers-are slots count g [] = refl
numbers-are slots count g (n ∷ nodes) =
    ap (λ rest. count ∷ rest) (numbers-are slots (counted (slot_of slots g) (is_among g (used_calls slots (g + 1) nodes)) count) (g + 1) nodes)

-- ---- regions and codes

module _ (writing : Writing) (numbers : List ℕ) (routines : List Region) where
  loop-read : (most : ℕ) (test : Option Test) (at : ℕ) (body : Kept) (out : ℕ) →
      read_region routines (made_loop writing most test at body out) ≡ loop_region writing most test at (read_region routines body) out
  loop-read most None at body out = read-Repeated routines at (most - 1) body out
  loop-read most (Some test) at body out =
      read-Counted routines at (most - 1) (length (writing.test_words_of test)) (at + loop_size most + 1 + words_in (writing.test_words_of test)) body out

  turns-read : (test : Option Test) (at : ℕ) (body : KeptCode) (out : ℕ) →
      read_code routines (made_turns writing test at body out) ≡ turns_code writing test at (read_code routines body) out
  turns-read None at body out = read-Forever routines body out
  turns-read (Some test) at body out =
      read-Turns routines at (length (writing.test_words_of test)) (at + words_in (writing.test_words_of test)) body out

  mutual
    pub region-read : (n : Node) (at : ℕ) → read_region routines (made_region writing numbers n at) ≡ region writing numbers routines n at
    region-read (straight steps) at = read-Words routines at (length (writing.words_of steps)) (at + words_in (writing.words_of steps))
    region-read (sequence nodes) at = read-Parts routines (made_regions writing numbers nodes at) (behind writing nodes at) ∙ regions-read nodes at
    region-read (branch test a b) at =
        let count = length (writing.test_words_of test) in
        let place = at + words_in (writing.test_words_of test) in
        let inner = at + test_size writing test in
        let other = at + test_size writing test + size writing a + 2 in
        read-Choice routines at count place (made_region writing numbers a inner) (made_region writing numbers b other)
        ∙ ap (λ r. Choice at count place r (read_region routines (made_region writing numbers b other))) (region-read a inner)
        ∙ ap (Choice at count place (region writing numbers routines a inner)) (region-read b other)
    region-read (turns test body) at = read-Words routines at 0 at
    region-read (bounded most test body) at =
        let inner = at + loop_size most + 1 + option_size writing test in
        let out = at + loop_size most + 1 + option_size writing test + size writing body + 2 in
        loop-read most test at (made_region writing numbers body inner) out ∙ ap (λ r. loop_region writing most test at r out) (region-read body inner)
    region-read (call f) at = read-Calling routines at (slice_index_or numbers f 0)
    region-read (pause i) at = read-Words routines at 0 at
    region-read (fork i fs) at = read-Words routines at 0 at
    region-read (guard j body) at = read-Words routines at 0 at

    regions-read : (nodes : Nodes) (at : ℕ) →
        regions_from (behind writing nodes at) (map (read_region routines) (made_regions writing numbers nodes at)) ≡ regions writing numbers routines nodes at
    regions-read no_nodes at = refl
    regions-read (and n nodes) at =
        let next = at + size writing n in
        ap (λ r. Then r (regions_from (behind writing nodes next) (map (read_region routines) (made_regions writing numbers nodes next)))) (region-read n at)
        ∙ ap (Then (region writing numbers routines n at)) (regions-read nodes next)

  passed-read : (n : Node) (at : ℕ) → read_code routines (Rattle.tk_paths.specs.declared.trees.Code.TheVariants.Passed (made_region writing numbers n at)) ≡ Passed (region writing numbers routines n at)
  passed-read n at = read-Passed routines (made_region writing numbers n at) ∙ ap Passed (region-read n at)

  mutual
    pub code-read : (n : Node) (child at : ℕ) → read_code routines (made_code writing numbers n child at) ≡ thread_code writing numbers routines n child at
    code-read (straight steps) child at = passed-read (straight steps) at
    code-read (sequence nodes) child at = read-Sequence routines (made_codes writing numbers nodes child at) (behind writing nodes at) ∙ codes-read nodes child at
    code-read (branch test a b) child at =
        let count = length (writing.test_words_of test) in
        let place = at + words_in (writing.test_words_of test) in
        let inner = at + test_size writing test in
        let other = at + test_size writing test + size writing a + 2 in
        let middle = child + length (threads_of a) in
        read-Either routines at count place (made_code writing numbers a child inner) (made_code writing numbers b middle other)
        ∙ ap (λ c. Either at count place c (read_code routines (made_code writing numbers b middle other))) (code-read a child inner)
        ∙ ap (Either at count place (thread_code writing numbers routines a child inner)) (code-read b middle other)
    code-read (turns test body) child at =
        let inner = at + option_size writing test in
        let out = at + option_size writing test + size writing body + 2 in
        turns-read test at (made_code writing numbers body child inner) out ∙ ap (λ c. turns_code writing test at c out) (code-read body child inner)
    code-read (bounded most test body) child at = passed-read (bounded most test body) at
    code-read (call f) child at = passed-read (call f) at
    code-read (pause i) child at = read-Resting routines at
    code-read (fork i fs) child at = read-Forking routines at child (length fs)
    code-read (guard j body) child at =
        read-Guarded routines at j (made_code writing numbers body child (at + 1)) ∙ ap (Guarded at j) (code-read body child (at + 1))

    codes-read : (nodes : Nodes) (child at : ℕ) →
        codes_from (behind writing nodes at) (map (read_code routines) (made_codes writing numbers nodes child at)) ≡ thread_codes writing numbers routines nodes child at
    codes-read no_nodes child at = refl
    codes-read (and n nodes) child at =
        let next = at + size writing n in
        let later = child + length (threads_of n) in
        ap (λ c. Sequence c (codes_from (behind writing nodes next) (map (read_code routines) (made_codes writing numbers nodes later next)))) (code-read n child at)
        ∙ ap (Sequence (thread_code writing numbers routines n child at)) (codes-read nodes later next)

-- ---- sections

module _ (writing : Writing) where
  conditions-read : (routines : List Region) (aborts : List (Bool × Test)) (at : ℕ) →
      read_sections routines (made_conditions writing aborts at) ≡ condition_sections writing aborts at
  conditions-read routines [] at = refl
  conditions-read routines (a ∷ aborts) at =
      ap (λ rest. OfCondition at (length (writing.test_words_of a.1)) (at + words_in (writing.test_words_of a.1)) ∷ rest)
      (conditions-read routines aborts (at + condition_size writing a.1))

  module _ (numbers slots : List ℕ) (first : ℕ → ℕ) (behind : List KeptSection) (last : List Section)
      (told : (routines : List Region) → read_sections routines behind ≡ last) where
    function-read : (routines : List Region) (slot : Option ℕ) (called : Bool) (n : Node) (at : ℕ) (rest : List KeptSection) →
        read_sections routines (made_function writing numbers slots first slot called n at ∷ rest)
        ≡ function_section writing numbers slots first routines slot called n at ∷ read_sections (with_routine writing numbers slots first routines slot called n at) rest
    function-read routines None true n at rest =
        ap (λ r. OfRoutine r ∷ read_sections (routines ++ r ∷ []) rest) (region-read writing numbers routines n at)
    function-read routines None false n at rest = refl
    function-read routines (Some slot) true n at rest =
        ap (λ c. OfThread slot c ∷ read_sections routines rest) (code-read writing numbers routines n (first slot) at)
    function-read routines (Some slot) false n at rest =
        ap (λ c. OfThread slot c ∷ read_sections routines rest) (code-read writing numbers routines n (first slot) at)

    functions-read : (routines : List Region) (g : ℕ) (nodes : List Node) (at : ℕ) →
        read_sections routines (made_functions writing numbers slots first g nodes at ++ behind) ≡ function_sections writing numbers slots first routines g nodes at last
    functions-read routines g [] at = told routines
    functions-read routines g (n ∷ nodes) at =
        let slot = slot_of slots g in
        let called = is_among g (used_calls slots (g + 1) nodes) in
        let next = at + size writing n + 1 in
        function-read routines slot called n at (made_functions writing numbers slots first (g + 1) nodes next ++ behind)
        ∙ ap (λ rest. function_section writing numbers slots first routines slot called n at ∷ rest)
        (functions-read (with_routine writing numbers slots first routines slot called n at) (g + 1) nodes next)

  pub sections-read : (f : Flow) → read_sections [] (made_sections writing f) ≡ sections_of writing f
  sections-read f =
      functions-read (numbers_of writing f) (slots_of f) (first_started f) (made_conditions writing f.aborts (functions_size writing f.bodies))
      (condition_sections writing f.aborts (functions_size writing f.bodies))
      (λ routines. conditions-read routines f.aborts (functions_size writing f.bodies)) [] 0 f.bodies 0

-- ---- one more behind those that are there

module _ (writing : Writing) (numbers : List ℕ) where
  pub region-more : (parts after : List Kept) (r : Kept) (n : Node) (nodes : Nodes) (place next : ℕ) → after ≡ parts ++ r ∷ [] →
      r ≡ made_region writing numbers n place → next ≡ place + size writing n →
      after ++ made_regions writing numbers nodes next ≡ parts ++ made_regions writing numbers (and n nodes) place
  region-more parts after r n nodes place next new is e =
      ap (λ l. l ++ made_regions writing numbers nodes next) new ∙ append_assoc parts (r ∷ []) (made_regions writing numbers nodes next)
      ∙ ap (λ x. parts ++ x ∷ made_regions writing numbers nodes next) is
      ∙ ap (λ q. parts ++ made_region writing numbers n place ∷ made_regions writing numbers nodes q) e

  pub code-more : (parts after : List KeptCode) (c : KeptCode) (n : Node) (nodes : Nodes) (child later place next : ℕ) → after ≡ parts ++ c ∷ [] →
      c ≡ made_code writing numbers n child place → later ≡ child + length (threads_of n) → next ≡ place + size writing n →
      after ++ made_codes writing numbers nodes later next ≡ parts ++ made_codes writing numbers (and n nodes) child place
  code-more parts after c n nodes child later place next new is h e =
      ap (λ l. l ++ made_codes writing numbers nodes later next) new ∙ append_assoc parts (c ∷ []) (made_codes writing numbers nodes later next)
      ∙ ap (λ x. parts ++ x ∷ made_codes writing numbers nodes later next) is
      ∙ ap (λ k. parts ++ made_code writing numbers n child place ∷ made_codes writing numbers nodes k next) h
      ∙ ap (λ q. parts ++ made_code writing numbers n child place ∷ made_codes writing numbers nodes (child + length (threads_of n)) q) e

  pub function-more : (slots : List ℕ) (first : ℕ → ℕ) (all after : List KeptSection) (x : KeptSection) (called : Bool) (g : ℕ) (n : Node) (nodes : List Node) (place next : ℕ) →
      after ≡ all ++ x ∷ [] → x ≡ made_function writing numbers slots first (slot_of slots g) called n place →
      called ≡ is_among g (used_calls slots (g + 1) nodes) → next ≡ place + size writing n + 1 →
      after ++ made_functions writing numbers slots first (g + 1) nodes next ≡ all ++ made_functions writing numbers slots first g (n ∷ nodes) place
  function-more slots first all after x called g n nodes place next new is h e =
      ap (λ l. l ++ made_functions writing numbers slots first (g + 1) nodes next) new
      ∙ append_assoc all (x ∷ []) (made_functions writing numbers slots first (g + 1) nodes next)
      ∙ ap (λ y. all ++ y ∷ made_functions writing numbers slots first (g + 1) nodes next) is
      ∙ ap (λ b. all ++ made_function writing numbers slots first (slot_of slots g) b n place ∷ made_functions writing numbers slots first (g + 1) nodes next) h
      ∙ ap (λ q. all ++ made_function writing numbers slots first (slot_of slots g) (is_among g (used_calls slots (g + 1) nodes)) n place ∷ made_functions writing numbers slots first (g + 1) nodes q) e

-- ---- what is left of lists

-- a list whose rest begins with an element has it at that place
pub get-front : {A : Type 0} (xs : List A) (i : ℕ) (x : A) (rest : List A) → drop i xs ≡ x ∷ rest → slice_get xs i ≡ Some x
get-front [] zero x rest is = cc
get-front [] (suc i) x rest is = cc
get-front (y ∷ ys) zero x rest is = let e : y ≡ x = cc in ap Some e
get-front (y ∷ ys) (suc i) x rest is = get-front ys i x rest is

pub ruleset making = (length-append)
