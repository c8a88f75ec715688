-- What it says that an image is that of a flow.
use Rattle.std.specs.Prelude.{◌≡◌, ℕ, ◌+◌, ◌<◌, ◌≤◌, length, Bool, IsTrue, List, [], ◌∷◌}
use Rattle.std.specs.List.{AllByRecursion}
use Rattle.mb_isa.specs.declared.Instr.TheVariants.{End as EndWord, Ret}
use Rattle.mb_isa.specs.Costs.{IsCosts}
use Rattle.pt_image.specs.declared.Parts.{Parts}
use Rattle.pc_lower.specs.declared.nodes.Step.{Step}
use Rattle.pc_lower.specs.declared.nodes.Test.{Test}
use Rattle.pc_lower.specs.Flow.{Node, Nodes, straight, sequence, branch, turns, bounded, call, pause, fork, guard, no_nodes, and, flows_of}
use Rattle.pc_lower.specs.Residuals.{body_at}
use Rattle.pc_lower.specs.Places.{slot_start, Has}
use Rattle.pc_lower.specs.Laid.{Placing, Passes, Laid}
use Rattle.pc_lower.specs.StepCounts.{Sizes, through, reach}

-- a node calls and starts functions below a number alone
abbrev mutual
  pub IsEarlier : ℕ → Node → Type 0
  IsEarlier below (straight steps) = Unit {0}
  IsEarlier below (sequence nodes) = AreEarlier below nodes
  IsEarlier below (branch test a b) = IsEarlier below a × IsEarlier below b
  IsEarlier below (turns test body) = IsEarlier below body
  IsEarlier below (bounded n test body) = IsEarlier below body
  IsEarlier below (call f) = f < below
  IsEarlier below (pause i) = Unit {0}
  IsEarlier below (fork i fs) = AllByRecursion (λ f. f < below) fs
  IsEarlier below (guard j body) = IsEarlier below body

  pub AreEarlier : ℕ → Nodes → Type 0
  AreEarlier below no_nodes = Unit {0}
  AreEarlier below (and n nodes) = IsEarlier below n × AreEarlier below nodes

-- each function calls and starts earlier ones alone
abbrev pub InOrder : ℕ → List Node → Type 0
InOrder f [] = Unit {0}
InOrder f (n ∷ rest) = IsEarlier f n × InOrder (f + 1) rest

-- so many links and counters are alive where a node begins, and there is room for those of the node; what pauses, starts
-- threads or enters aborts stands outside of all calls and bounded loops
module _ (placing : Placing) where
  abbrev mutual
    pub HasRoom : Node → (links counters : ℕ) → Type 0
    HasRoom (straight steps) l k = Unit {0}
    HasRoom (sequence nodes) l k = HaveRoom nodes l k
    HasRoom (branch test a b) l k = HasRoom a l k × HasRoom b l k
    HasRoom (turns test body) l k = HasRoom body l k
    HasRoom (bounded n test body) l k = (k < 136) × HasRoom body l (k + 1)
    HasRoom (call f) l k = IsTrue (placing.called f) × (l + 1 + placing.links f ≤ 16) × (k + placing.counters f ≤ 136)
    HasRoom (pause i) l k = (l ≡ 0) × (k ≡ 0)
    HasRoom (fork i fs) l k = (l ≡ 0) × (k ≡ 0)
    HasRoom (guard j body) l k = (l ≡ 0) × (k ≡ 0) × HasRoom body l k

    pub HaveRoom : Nodes → (links counters : ℕ) → Type 0
    HaveRoom no_nodes l k = Unit {0}
    HaveRoom (and n nodes) l k = HasRoom n l k × HaveRoom nodes l k

module _ (parent : ℕ → ℕ) (image : Parts) (costs : List ℕ) (bodies : List Node) (weak : ℕ → Bool) (sizes : Sizes)
    (HasSteps : List Step → ℕ → ℕ → Type 0) (HasTest : Test → ℕ → ℕ → ℕ → Type 0) (placing : Placing) where
  -- the words of function f stand from the start of slot c to an `end`
  pub record IsThread (c f : ℕ) : Type 0 where
    pub stop : ℕ
    pub laid : Laid parent image (flows_of bodies) weak HasSteps HasTest placing c (body_at bodies f) [] (slot_start image c) stop
    pub stops : Has image stop EndWord
    pub room : HasRoom placing (body_at bodies f) 0 0
    pub through_bound : through sizes (body_at bodies f) + 1 ≤ sizes.threads f
    pub reach_bound : reach sizes (body_at bodies f) ≤ sizes.threads f

  -- the words of function f, which always comes to its end, stand from its entrance to a `ret`
  pub record IsRoutine (f : ℕ) : Type 0 where
    pub passes : Passes (flows_of bodies) (body_at bodies f)
    pub stop : ℕ
    pub laid : (s : ℕ) (a : List ℕ) →
        Laid parent image (flows_of bodies) weak HasSteps HasTest placing s (body_at bodies f) a (placing.entrance f) stop
    pub stops : Has image stop Ret
    pub room : (l k : ℕ) → 1 ≤ l → l + placing.links f ≤ 16 → k + placing.counters f ≤ 136 → HasRoom placing (body_at bodies f) l k
    pub bound : through sizes (body_at bodies f) + 1 ≤ sizes.routines f

  -- the image is that of these functions, of which slot 0 runs `main`
  pub record IsCompiled (main : ℕ) : Type 0 where
    pub priced : IsCosts costs
    pub some : 0 < length image.slots
    pub starts : placing.thread 0 ≡ main
    pub order : InOrder 0 bodies
    pub threads : (c f : ℕ) → c < length image.slots → placing.thread c ≡ f → IsThread c f
    pub routines : (f : ℕ) → IsTrue (placing.called f) → IsRoutine f
