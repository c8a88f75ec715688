-- An image of a flow with a routine, a bounded loop, a thread and a loop without a bound: what the laws ask for can be met.
use Rattle.std.specs.Prelude.{ℕ, ℤ, negsuc, zero, suc, Bool, true, false, map, List, [], ◌∷◌, None}
use Rattle.mb_isa.specs.declared.Reg.TheVariants.{R3}
use Rattle.mb_isa.specs.declared.Instr.{Instr}
use Rattle.mb_isa.specs.declared.Instr.TheVariants.{Beqi, Bri, Call, End, Eot, Fork, Loop, Next, Ret}
use Rattle.mb_isa.specs.Codes.{code_of}
use Rattle.pt_image.specs.declared.Parts.{Parts}
use Rattle.pc_lower.specs.declared.nodes.Step.{Step}
use Rattle.pc_lower.specs.Flow.{Node, straight, sequence, turns, bounded, call, pause, fork, no_nodes, and, Flow}
use Rattle.pc_lower.specs.Laid.{Placing}
use Rattle.pc_lower.specs.StepCounts.{Sizes}
use Rattle.pc_lower.specs.Words.{Writing}
use Rattle.pc_lower.specs.Sizing.{sizes_of}

-- a routine that turns twice; a thread that pauses; `main`, which calls the one, starts the other and pauses, for ever
abbrev pub functions : List Node
functions =
    bounded 2 None (straight [])
    ∷ pause 0
    ∷ turns None (sequence (and (call 0) (and (fork 0 (1 ∷ [])) (and (pause 1) no_nodes))))
    ∷ []

abbrev pub flow : Flow
flow = record { bodies = functions; main = 2; aborts = []; declared = []; inputs = []; outputs = [] }

abbrev pub words : List Instr
words = Loop 2 ∷ Next 3 ∷ Bri (negsuc 3) ∷ Ret ∷ Eot ∷ End ∷ Call 0 ∷ Fork 1 1 ∷ Eot ∷ Bri (negsuc 11) ∷ End ∷ []

abbrev pub image : Parts
image = record {
  code = map code_of words;
  memory = [];
  inputs = [];
  outputs = [];
  slots = 6 ∷ 4 ∷ [];
  aborts = [];
  pauses = record { at = 4; slot = 1; stack = [] } ∷ record { at = 8; slot = 0; stack = [] } ∷ [];
  forks = record { at = 7; slot = 0; stack = [] } ∷ [];
}

abbrev pub parent : ℕ → ℕ
parent c = 0

abbrev pub thread : ℕ → ℕ
thread zero = 2
thread (suc c) = 1

abbrev pub called : ℕ → Bool
called zero = true
called (suc f) = false

abbrev pub placing : Placing
placing = record { thread = thread; called = called; entrance = λ f. 0; links = λ f. 0; counters = λ f. 1 }

-- no steps but none at all are written, and no tests
abbrev pub is_none : List Step → Bool
is_none [] = true
is_none (s ∷ p) = false

abbrev pub writing : Writing
writing = record {
  is_written = is_none;
  is_test_written = λ t. false;
  words_of = λ p. [];
  test_words_of = λ t. [];
  register_of = λ t. R3;
  branch_of = λ t. Beqi R3;
}

abbrev pub sizes : Sizes
sizes = sizes_of (λ p. 0) (λ t. 2) functions
