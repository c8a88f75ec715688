-- Which slots of a flow's program can end in the tick in which they start: just those whose functions can.
use Rattle.std.proofs.Common.{◌≡◌, ℕ, zero, suc, ◌+◌, ◌-◌, ◌<◌, ◌≤◌, Bool, false, List, [], ◌∷◌, length, map, refl, sym, ap, ◌∙◌, arith}
use Rattle.std.specs.Prelude.{slice_index_or}
use Rattle.std.specs.List.{range_with_len}
use Rattle.pc_lower.specs.Flow.{Flow, flows_of}
use Rattle.pc_lower.specs.Residuals.{body_at}
use Rattle.pc_lower.specs.Laid.{Placing}
use Rattle.pc_lower.specs.Slots.{AreChildren, Runs}
use Rattle.pc_lower.specs.Words.{Writing}
use Rattle.pc_lower.specs.Limits.{threads_of}
use Rattle.pc_lower.specs.Numbering.{slots_of, function_of, parent_of, first_started}
use Rattle.tk_paths.specs.Regions.{Region}
use Rattle.tk_paths.specs.Codes.{Code, all_end}
use Rattle.tk_paths.specs.Codes as codes_of_threads
use Rattle.tk_paths.specs.Programs.{enders_from, ends_in}
use Rattle.pc_emit.specs.Fits.{placed, CanBeEmitted}
use Rattle.pc_emit.proofs.Lists.{at_whole}
use Rattle.pc_emit.proofs.Laying.{Starts}
use Rattle.pc_emit.proofs.Starting.{starts_at}
use Rattle.pc_emit.proofs.Whole.{HasThreads}
use Rattle.pc_emit.specs.Sections.{thread_code}
use Rattle.pc_emit.proofs.Shapes.{EndsAs, thread-ends}
use Rattle.pc_emit.proofs.Apart.{child-above}

module _ (f : Flow) (writing : Writing) (placing : Placing) (further : ℕ) (can : CanBeEmitted f writing placing further)
    (has : HasThreads f) where
  abbrev many : ℕ
  many = length (slots_of f)

  -- a fork of slot c starts slots of its own
  abbrev pub Started : ℕ → ℕ → List ℕ → Type 0
  Started c child fs = (1 ≤ length fs) × (child + length fs ≤ many) × AreChildren (parent_of f) c child (length fs) × Runs
      (function_of f) child fs

  -- what holds of the forks of a slot holds of those of its function
  pub starts : (Q : ℕ → List ℕ → Type 0) (c : ℕ) → c < many → ((child : ℕ) (fs : List ℕ) → Started c child fs → Q child fs) →
      Starts Q (body_at f.bodies (function_of f c)) (first_started f c)
  starts Q c lt each =
      let n = body_at f.bodies (function_of f c) in
      let first = first_started f c in
      starts_at Q (flows_of f.bodies) (placed f writing placing) (threads_of n) first
      (λ before fs behind e some. let h = has.1 c lt before fs behind e in each (first + length before) fs
      (some, h.within, h.children, h.run))
      n 0 0 first (at_whole (threads_of n)) (omega arith) (can.laid.room c lt) (can.laid.threads c lt)

  module _ (codes : ℕ → Code) (numbers : List ℕ)
      (known : (c : ℕ) → c < many → (routines : List Region) × (at : ℕ) ×
      (codes c ≡ thread_code writing numbers routines (body_at f.bodies (function_of f c)) (first_started f c) at)) where
    abbrev ends : ℕ → Bool
    ends = can.laid.shape.ends

    -- the threads of a fork
    fork-ends : (E : ℕ → Bool) (least : ℕ) → ((c : ℕ) → least ≤ c → c < many → E c ≡ ends (function_of f c)) → (fs : List ℕ) (child : ℕ) →
        least ≤ child → child + length fs ≤ many
        → Runs (function_of f) child fs → EndsAs ends E child fs
    fork-ends E least told [] child le within runs = refl
    fork-ends E least told (g ∷ fs) child le within runs =
        let one : E child ≡ ends g = told child le (omega (arith, within)) ∙ ap ends runs.0 in
        let rest = fork-ends E least told fs (child + 1) (omega (arith, le)) (omega (arith, within)) runs.1 in
        rw (one, rest) refl

    code-ends : (E : ℕ → Bool) (c : ℕ) → c < many → ((d : ℕ) → c + 1 ≤ d → d < many → E d ≡ ends (function_of f d)) →
        codes_of_threads.can_end E (codes c) ≡ ends (function_of f c)
    code-ends E c lt told =
        let k = known c lt in
        let g = function_of f c in
        let n = body_at f.bodies g in
        ap (codes_of_threads.can_end E) k.2
        ∙ thread-ends writing numbers k.0 ends E n (first_started f c) k.1
        (starts (EndsAs ends E) c lt
        (λ child fs h. fork-ends E (c + 1) told fs child
        (let k = child-above (parent_of f) c child (length fs) h.0 h.2 in omega (arith, k)) h.1 h.3))
        ∙ sym (can.laid.shape.told g (can.laid.there c lt))

    -- from the last slot down
    enders : (k s i : ℕ) → s + k ≡ many → i < k → slice_index_or (enders_from s (map codes (range_with_len s k))) i false ≡ ends
        (function_of f (s + i))
    enders zero s i e lt = absurd (omega (arith, lt))
    enders (suc k) s zero e lt =
        let E : ℕ → Bool = λ c. slice_index_or (enders_from (s + 1) (map codes (range_with_len (s + 1) k))) (c - (s + 1)) false in
        let told : (d : ℕ) → s + 1 ≤ d → d < many → E d ≡ ends (function_of f d) =
        λ d le less. enders k (s + 1) (d - (s + 1)) (omega (arith, e)) (omega (arith, e, le, less)) ∙ ap (λ m. ends (function_of f m))
        (omega (arith, le)) in
        code-ends E s (omega (arith, e)) told ∙ ap (λ m. ends (function_of f m)) (omega arith)
    enders (suc k) s (suc i) e lt = enders k (s + 1) i (omega (arith, e)) (omega (arith, lt)) ∙ ap (λ m. ends (function_of f m))
        (omega arith)

    pub slots-end : (c : ℕ) → c < many → ends_in (map codes (range_with_len 0 many)) c ≡ ends (function_of f c)
    slots-end c lt = enders many 0 c (omega arith) lt ∙ ap (λ m. ends (function_of f m)) (omega arith)

    -- so the forks of a slot end as they say
    pub forks-end : (c : ℕ) → c < many → Starts (EndsAs ends (ends_in (map codes (range_with_len 0 many))))
        (body_at f.bodies (function_of f c)) (first_started f c)
    forks-end c lt =
        let E = ends_in (map codes (range_with_len 0 many)) in
        starts (EndsAs ends E) c lt (λ child fs h. fork-ends E 0 (λ d le less. slots-end d less) fs child (omega arith) h.1 h.3)
