-- The code of each slot among the sections of a flow's program.
use Rattle.std.proofs.Common.{◌≡◌, ℕ, zero, suc, ◌+◌, ◌<◌, Bool, IsTrue, Some}
use Rattle.std.proofs.Common.{None, List, [], length, map, slice_get, sym, ap, subst, ◌∙◌, arith, ⊎_elim}
use Rattle.std.specs.List.{range_with_len}
use Rattle.pc_lower.specs.Flow.{Flow}
use Rattle.pc_lower.specs.Residuals.{body_at}
use Rattle.pc_lower.specs.Laid.{Placing}
use Rattle.pc_lower.specs.Words.{Writing}
use Rattle.pc_lower.specs.Numbering.{slots_of, function_of, first_started}
use Rattle.tk_paths.specs.Programs.{Section, Program, ends_in}
use Rattle.tk_paths.specs.Trees.{threads_in, code_of}
use Rattle.pc_emit.specs.Image.{slot_of, functions_size}
use Rattle.pc_emit.specs.Fits.{placed, CanBeEmitted}
use Rattle.pc_emit.proofs.Entrances.{found_there}
use Rattle.pc_emit.proofs.Laying.{Starts}
use Rattle.pc_emit.proofs.Whole.{HasThreads}
use Rattle.pc_emit.specs.Sections.{numbers_of, sections_of}
use Rattle.pc_emit.specs.Sections.{program_of}
use Rattle.pc_emit.proofs.Shapes.{EndsAs}
use Rattle.pc_emit.proofs.Owners.{all-tallied, threads-tallied, HasCode, has-code}
use Rattle.pc_emit.proofs.Ending.{forks-end}

get-range : {A : Type 0} (g : ℕ → A) (n a c : ℕ) → c < n → slice_get (map g (range_with_len a n)) c ≡ Some (g (a + c))
get-range g zero a c lt = absurd (omega (arith, lt))
get-range g (suc n) a zero lt = let e : a ≡ a + 0 = omega arith in ap (λ k. Some (g k)) e
get-range g (suc n) a (suc c) lt = get-range g n (a + 1) c (omega (arith, lt)) ∙
    (let e : a + 1 + c ≡ a + suc c = omega arith in ap (λ k. Some (g k)) e)

module _ (f : Flow) (writing : Writing) (placing : Placing) (further : ℕ) (can : CanBeEmitted f writing placing further)
    (has : HasThreads f) where
  abbrev slots : List ℕ
  slots = slots_of f

  abbrev many : ℕ
  many = length slots

  abbrev spots : Placing
  spots = placed f writing placing

  abbrev numbers : List ℕ
  numbers = numbers_of writing f

  abbrev sections : List Section
  sections = sections_of writing f

  abbrev program : Program
  program = program_of writing f

  abbrev ends : ℕ → Bool
  ends = can.laid.shape.ends

  own-slot : (c : ℕ) → c < many → slot_of slots (function_of f c) ≡ Some c
  own-slot c lt = found_there slots 0 c lt (λ d k e. can.laid.once d c k lt e) ∙ (let z : 0 + c ≡ c = omega arith in ap (λ k. Some k) z)

  pub is-called : (g : ℕ) → g < length f.bodies → slot_of slots g ≡ None → IsTrue (spots.called g)
  is-called g lt none =
      ⊎_elim (λ s. (let e : Some s.0 ≡ None = sym (own-slot s.0 s.1) ∙ ap (slot_of slots) s.2 ∙ none in absurd cc)) (λ is. is)
      (can.laid.each g lt)

  slots-many : threads_in sections ≡ many
  slots-many =
      threads-tallied writing numbers slots (first_started f) f.aborts (functions_size writing f.bodies) f.bodies [] 0 0
      ∙ all-tallied slots (length f.bodies) can.laid.there can.laid.once

  pub threads-are : program.threads ≡ map (λ c. code_of c sections) (range_with_len 0 many)
  threads-are = ap (λ n. map (λ c. code_of c sections) (range_with_len 0 n)) slots-many

  pub thread-there : (c : ℕ) → c < many → slice_get program.threads c ≡ Some (code_of c sections)
  thread-there c lt = ap (λ l. slice_get l c) threads-are ∙ get-range (λ d. code_of d sections) many 0 c lt ∙
      (let e : 0 + c ≡ c = omega arith in ap (λ k. Some (code_of k sections)) e)

  pub code-there : (c : ℕ) → c < many → HasCode writing numbers slots (first_started f) f.aborts
      (functions_size writing f.bodies) sections c (body_at f.bodies (function_of f c)) (spots.entrance (function_of f c))
  code-there c lt =
      has-code writing numbers slots (first_started f) f.aborts (functions_size writing f.bodies) c lt can.laid.once f.bodies [] 0 0
      (function_of f c) (can.laid.there c lt) (omega arith)

  -- the threads of the forks of a slot can all end where their functions can
  pub fork-ends : (c : ℕ) → c < many →
      Starts (EndsAs ends (ends_in program.threads)) (body_at f.bodies (function_of f c)) (first_started f c)
  fork-ends c lt =
      let told = forks-end f writing placing further can has (λ d. code_of d sections) numbers
      (λ d less. let h = code-there d less in (h.routines, spots.entrance (function_of f d), h.is)) c lt in
      subst (λ l. Starts (EndsAs ends (ends_in l)) (body_at f.bodies (function_of f c)) (first_started f c)) (sym threads-are) told
