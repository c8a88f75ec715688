-- The sizes that count what each function takes with all that it calls and starts.
use Rattle.std.specs.Prelude.{ℕ, zero, suc, ◌+◌, ◌≤◌, List}
use Rattle.pc_lower.specs.declared.nodes.Step.{Step}
use Rattle.pc_lower.specs.declared.nodes.Test.{Test}
use Rattle.pc_lower.specs.Flow.{Node}
use Rattle.pc_lower.specs.Residuals.{body_at}
use Rattle.pc_lower.specs.StepCounts.{Sizes, through, reach}
use Rattle.pc_lower.specs.Bounds.{span}

module _ (words : List Step → ℕ) (test_words : Test → ℕ) (bodies : List Node) where
  -- as far as so many calls and starts inside one another
  abbrev pub sizes_to : ℕ → Sizes
  sizes_to zero = record { words = words; test_words = test_words; threads = λ f. 0; routines = λ f. 0 }
  sizes_to (suc n) = record {
    words = words;
    test_words = test_words;
    threads = λ f. span (sizes_to n) (body_at bodies f) + 1;
    routines = λ f. through (sizes_to n) (body_at bodies f) + 1;
  }

  -- a function calls and starts earlier ones alone, so as many as its number are enough
  abbrev pub sizes_of : Sizes
  sizes_of = record {
    words = words;
    test_words = test_words;
    threads = λ f. span (sizes_to f) (body_at bodies f) + 1;
    routines = λ f. through (sizes_to f) (body_at bodies f) + 1;
  }

-- they hold what a function takes, and no more than need be
pub record Count (sizes : Sizes) (bodies : List Node) (f : ℕ) : Type 0 where
  pub through_bound : through sizes (body_at bodies f) + 1 ≤ sizes.threads f
  pub reach_bound : reach sizes (body_at bodies f) ≤ sizes.threads f
  pub routine_bound : through sizes (body_at bodies f) + 1 ≤ sizes.routines f
  pub exact : sizes.threads f ≤ span sizes (body_at bodies f) + 1
