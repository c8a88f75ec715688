-- The example meets what the laws ask for.
use Rattle.std.proofs.Common.{◌≡◌, ℕ, ℤ, negsuc, zero, suc, ◌+◌, ◌<◌, ◌≤◌, ◌==◌, Bool, true, false, if◌then◌else◌, IsTrue, List, [], ◌∷◌, length, Some, refl, sym, subst, arith}
use Rattle.mb_isa.specs.declared.Instr.TheVariants.{Bri, Call, End, Eot, Fork, Loop, Next, Ret}
use Rattle.mb_isa.specs.Codes.{code_of}
use Rattle.mb_isa.specs.Costs.{IsCosts}
use Rattle.mb_pfu.proofs.Cases.{split}
use Rattle.mb_isa.specs.Cells.{Cells, machine}
use Rattle.pc_lower.specs.declared.nodes.Step.{Step}
use Rattle.pc_lower.specs.Flow.{State, run, pause, fork, no_nodes, and, at as at_pause, ahead, group, nobody, going, flows_of, sampled}
use Rattle.pc_lower.specs.Places.{short, short_loop}
use Rattle.pc_lower.specs.Program.{InOrder, IsThread, IsRoutine}
use Rattle.pc_lower.specs.Words.{HasSteps, HasTest, DataLaws, does_all}
use Rattle.pc_lower.specs.Image.{IsImageOf}
use Rattle.pc_lower.specs.Limits.{IsWithinLimits}
use Rattle.pc_lower.specs.RegionLaws.{Agree}
use Rattle.pc_lower.specs.Example.{functions, flow, image, parent, thread, called, placing, is_none, writing, sizes}
use Rattle.pc_lower.proofs.Slots.{same-of}
use Rattle.pc_lower.proofs.Sizing.{counts}

in-order : InOrder 0 functions
in-order = (tt, (tt, ((omega arith, ((omega arith, tt), (tt, tt))), tt)))

module _ (costs : List ℕ) where
  abbrev IsThreadHere : ℕ → ℕ → Type 0
  IsThreadHere c f = IsThread parent image costs functions (λ j. false) sizes (HasSteps image writing) (HasTest image writing) placing c f

  main_thread : IsThreadHere 0 2
  main_thread =
      let count = counts (λ p. 0) (λ t. 2) functions in-order 2 in
      record {
        stop = 10;
        laid = (
          6,
          9,
          refl,
          (
            7,
            (record { code = code_of (Call 0); stands = refl; decodes = refl }, refl),
            (
              8,
              (1, record { code = code_of (Fork 1 1); stands = refl; decodes = refl }, refl, refl, (omega arith, omega arith, ((refl, omega arith), tt), (refl, tt))),
              (9, (record { code = code_of Eot; stands = refl; decodes = refl }, refl, refl), refl),
            ),
          ),
          short (negsuc 11) record { code = code_of (Bri (negsuc 11)); stands = refl; decodes = refl } (refl, omega arith) refl,
          λ w. (ahead (group 0 (going (at_pause 0) nobody)) (and (pause 1) no_nodes), w, refl),
        );
        stops = record { code = code_of End; stands = refl; decodes = refl };
        room = ((refl, omega arith, omega arith), ((refl, refl), ((refl, refl), tt)));
        through_bound = count.through_bound;
        reach_bound = count.reach_bound;
      }

  other_thread : IsThreadHere 1 1
  other_thread =
      let count = counts (λ p. 0) (λ t. 2) functions in-order 1 in
      record {
        stop = 5;
        laid = (record { code = code_of Eot; stands = refl; decodes = refl }, refl, refl);
        stops = record { code = code_of End; stands = refl; decodes = refl };
        room = (refl, refl);
        through_bound = count.through_bound;
        reach_bound = count.reach_bound;
      }

  threads_here : (c f : ℕ) → c < 2 → thread c ≡ f → IsThreadHere c f
  threads_here zero f lt is = subst (IsThreadHere 0) is main_thread
  threads_here (suc zero) f lt is = subst (IsThreadHere 1) is other_thread
  threads_here (suc (suc c)) f lt is = absurd (omega (arith, lt))

  routines_here : (f : ℕ) → IsTrue (called f) → IsRoutine parent image costs functions (λ j. false) sizes (HasSteps image writing) (HasTest image writing) placing f
  routines_here zero is =
      let count = counts (λ p. 0) (λ t. 2) functions in-order 0 in
      record {
        passes = λ w. refl;
        stop = 3;
        laid = λ s a. (
          1,
          2,
          2,
          3,
          short_loop record { code = code_of (Loop 2); stands = refl; decodes = refl } refl,
          record { code = code_of (Next 3); stands = refl; decodes = refl },
          refl,
          (refl, refl),
          short (negsuc 3) record { code = code_of (Bri (negsuc 3)); stands = refl; decodes = refl } (refl, omega arith) refl,
          refl,
          λ w. refl,
        );
        stops = record { code = code_of Ret; stands = refl; decodes = refl };
        room = λ l k le ll kk. (omega (arith, kk), tt);
        bound = count.routine_bound;
      }
  routines_here (suc f) is = cc

  pub image-of : IsCosts costs → IsImageOf parent image costs flow writing sizes placing
  image-of priced = record {
    compiled = record { priced = priced; some = omega arith; starts = refl; order = in-order; threads = threads_here; routines = routines_here };
    conditions = λ j lt. absurd (omega (arith, lt));
    quiet = λ j lt. absurd (omega (arith, lt));
    words = λ p. omega arith;
    test_words = λ t. omega arith;
  }

pub within-limits : IsWithinLimits image flow writing sizes
within-limits = record {
  main_is = omega arith;
  once = λ q. split (q == 2) (λ e. let s = same-of q 2 e in let o : (q == 1) ≡ false = split (q == 1) (λ x. absurd (omega (arith, s, same-of q 1 x))) (λ x. x) in rw (e, o) (omega arith)) (λ e. split (q == 1) (λ x. rw (e, x) (omega arith)) (λ x. rw (e, x) (omega arith)));
  few = omega arith;
  passages = omega arith;
  conditions = λ j. omega arith;
  ports = omega arith;
  exact = λ g. (counts (λ p. 0) (λ t. 2) functions in-order g).exact;
}

abbrev Any : Cells → State → Type 0
Any = Agree (λ n d w. true)

written-steps : (row : List ℤ) (p : List Step) (d : Cells) (w : State) → IsTrue (is_none p) → Any d w → (after : Cells) × (does_all (machine image row) [] d ≡ Some after) × Any after (run p w)
written-steps row [] d w written same = (d, refl, λ n. refl)
written-steps row (s ∷ p) d w written same = cc

pub data-laws : (row : List ℤ) → DataLaws (machine image row) Any (sampled flow row) writing
data-laws row = record {
  steps = written-steps row;
  test = λ t d w written same. cc;
  taken = λ t d between w written same does. cc;
  holds = λ t d between w written same does. cc;
  sampled = λ d w same n. refl;
}
