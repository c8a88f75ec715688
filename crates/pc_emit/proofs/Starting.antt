-- The forks of a function start slots of its own, and a function that holds no pause is the same in every slot.
use Rattle.std.proofs.Common.{◌≡◌, ℕ, ◌+◌, ◌≤◌, List, [], ◌∷◌, ◌++◌, length, refl, ap, subst, ◌∙◌, arith}
use Rattle.mb_isa.specs.declared.words.Instr.TheVariants.{Bri, Next}
use Rattle.pc_lower.specs.Flow.{Node, Nodes, straight, sequence, branch, turns, bounded, call, pause, fork, guard, no_nodes, and, Flows}
use Rattle.pc_lower.specs.Laid.{Placing}
use Rattle.pc_lower.specs.Program.{HasRoom, HaveRoom}
use Rattle.pc_lower.specs.Words.{Writing}
use Rattle.pc_lower.specs.Limits.{threads_of, threads_of_all}
use Rattle.pc_lower.specs.Layable.{IsLayable, AreLayable, IsInstant, AreInstant}
use Rattle.pc_emit.specs.Part.{joined, just}
use Rattle.pc_emit.specs.Code.{loop_size, drop_size, test_size, option_size, size, short, jump, loop_words, drop_words, tested, option_tested, code, codes}
use Rattle.pc_emit.proofs.Lists.{IsAt, at_first, at_second}
use Rattle.pc_emit.proofs.Laying.{Starts, AllStart}

module _ (IsStarted : ℕ → List ℕ → Type 0) (known : Flows) (placing : Placing) where
  -- inside a loop with a counter nothing is started
  mutual
    none_start : (n : Node) (l k child : ℕ) → (k ≡ 0 → ⊥) → HasRoom placing n l k → Starts IsStarted n child
    none_start (straight steps) l k child some room = tt
    none_start (sequence nodes) l k child some room = none_start_in nodes l k child some room
    none_start (branch test a b) l k child some room = (none_start a l k child some room.0, none_start b l k (child + length (threads_of a)) some room.1)
    none_start (turns test body) l k child some room = none_start body l k child some room
    none_start (bounded most test body) l k child some room = none_start body l (k + 1) child (λ e. omega (arith, e)) room.1
    none_start (call g) l k child some room = tt
    none_start (pause i) l k child some room = tt
    none_start (fork i fs) l k child some room = absurd (some room.1)
    none_start (guard j body) l k child some room = absurd (some room.1)

    none_start_in : (nodes : Nodes) (l k child : ℕ) → (k ≡ 0 → ⊥) → HaveRoom placing nodes l k → AllStart IsStarted nodes child
    none_start_in no_nodes l k child some room = tt
    none_start_in (and n nodes) l k child some room = (none_start n l k child some room.0, none_start_in nodes l k (child + length (threads_of n)) some room.1)

  -- what a function starts, one thread after another, from a number on
  module _ (started : List ℕ) (first : ℕ)
      (there : (before fs behind : List ℕ) → started ≡ before ++ (fs ++ behind) → 1 ≤ length fs → IsStarted (first + length before) fs) where
    mutual
      pub starts_at : (n : Node) (depth m child : ℕ) → IsAt started m (threads_of n) → first + m ≡ child → HasRoom placing n 0 0 → IsLayable known depth n →
          Starts IsStarted n child
      starts_at (straight steps) depth m child s e room lay = tt
      starts_at (sequence nodes) depth m child s e room lay = all_start_at nodes depth m child s e room lay
      starts_at (branch test a b) depth m child s e room lay = (
        starts_at a depth m child (at_first (threads_of a) (threads_of b) s) e room.0 lay.0,
        starts_at b depth (m + length (threads_of a)) (child + length (threads_of a)) (at_second (threads_of a) (threads_of b) s) (omega (arith, e)) room.1 lay.1,
      )
      starts_at (turns test body) depth m child s e room lay = starts_at body depth m child s e room lay.1
      starts_at (bounded most test body) depth m child s e room lay = none_start body 0 1 child (λ e. omega (arith, e)) room.1
      starts_at (call g) depth m child s e room lay = tt
      starts_at (pause i) depth m child s e room lay = tt
      starts_at (fork i fs) depth m child s e room lay =
          let c = s.count in
          let k : first + length s.before ≡ child = omega (arith, c, e) in
          subst (λ lo. IsStarted lo fs) k (there s.before fs s.after s.is lay)
      starts_at (guard j body) depth m child s e room lay = starts_at body (depth + 1) m child s e room.2 lay.1

      all_start_at : (nodes : Nodes) (depth m child : ℕ) → IsAt started m (threads_of_all nodes) → first + m ≡ child → HaveRoom placing nodes 0 0 → AreLayable known depth nodes →
          AllStart IsStarted nodes child
      all_start_at no_nodes depth m child s e room lay = tt
      all_start_at (and n nodes) depth m child s e room lay = (
        starts_at n depth m child (at_first (threads_of n) (threads_of_all nodes) s) e room.0 lay.0,
        all_start_at nodes depth (m + length (threads_of n)) (child + length (threads_of n)) (at_second (threads_of n) (threads_of_all nodes) s) (omega (arith, e)) room.1 lay.1,
      )

  -- ---- where there is no pause, fork or abort

  mutual
    pub instant_starts : (n : Node) (child : ℕ) → IsInstant n → Starts IsStarted n child
    instant_starts (straight steps) child i = tt
    instant_starts (sequence nodes) child i = instants_start nodes child i
    instant_starts (branch test a b) child i = (instant_starts a child i.0, instant_starts b (child + length (threads_of a)) i.1)
    instant_starts (turns test body) child i = instant_starts body child i
    instant_starts (bounded most test body) child i = instant_starts body child i
    instant_starts (call g) child i = tt
    instant_starts (pause k) child i = tt
    instant_starts (fork k fs) child i = absurd i
    instant_starts (guard j body) child i = absurd i

    instants_start : (nodes : Nodes) (child : ℕ) → AreInstant nodes → AllStart IsStarted nodes child
    instants_start no_nodes child i = tt
    instants_start (and n nodes) child i = (instant_starts n child i.0, instants_start nodes (child + length (threads_of n)) i.1)

  mutual
    pub instant_layable : (n : Node) (d e : ℕ) → IsInstant n → IsLayable known d n → IsLayable known e n
    instant_layable (straight steps) d e i lay = tt
    instant_layable (sequence nodes) d e i lay = instants_layable nodes d e i lay
    instant_layable (branch test a b) d e i lay = (instant_layable a d e i.0 lay.0, instant_layable b d e i.1 lay.1)
    instant_layable (turns test body) d e i lay = (lay.0, instant_layable body d e i lay.1)
    instant_layable (bounded most test body) d e i lay = (lay.0, lay.1, instant_layable body d e i lay.2)
    instant_layable (call g) d e i lay = tt
    instant_layable (pause k) d e i lay = tt
    instant_layable (fork k fs) d e i lay = lay
    instant_layable (guard j body) d e i lay = absurd i

    instants_layable : (nodes : Nodes) (d e : ℕ) → AreInstant nodes → AreLayable known d nodes → AreLayable known e nodes
    instants_layable no_nodes d e i lay = tt
    instants_layable (and n nodes) d e i lay = (instant_layable n d e i.0 lay.0, instants_layable nodes d e i.1 lay.1)

module _ (writing : Writing) (entrances : List ℕ) (s t : ℕ) where
  mutual
    pub code_instant : (n : Node) (a b : List ℕ) (child other at : ℕ) → IsInstant n →
        code writing entrances s n a child at ≡ code writing entrances t n b other at
    code_instant (straight steps) a b child other at i = refl
    code_instant (sequence nodes) a b child other at i = codes_instant nodes a b child other at i
    code_instant (branch test n m) a b child other at i =
        let mid = at + test_size writing test + size writing n in
        let x = tested writing test at (mid + 2) in
        let w = just (jump Bri mid (mid + 2 + size writing m)) in
        let e = code_instant n a b child other (at + test_size writing test) i.0 in
        let h = code_instant m a b (child + length (threads_of n)) (other + length (threads_of n)) (mid + 2) i.1 in
        ap (λ y. joined x (joined y (joined w (code writing entrances s m a (child + length (threads_of n)) (mid + 2))))) e
        ∙ ap (λ z. joined x (joined (code writing entrances t n b other (at + test_size writing test)) (joined w z))) h
    code_instant (turns test body) a b child other at i =
        let mid = at + option_size writing test + size writing body in
        ap (λ y. joined (option_tested writing test at (mid + 2)) (joined y (just (jump Bri mid at)))) (code_instant body a b child other (at + option_size writing test) i)
    code_instant (bounded most test body) a b child other at i =
        let head = at + loop_size most in
        let inner = head + 1 + option_size writing test in
        let mid = inner + size writing body in
        ap (λ y. joined (just (loop_words most)) (joined (just (Next (short (mid + 2 + drop_size test)) ∷ [])) (joined (option_tested writing test (head + 1) (mid + 2)) (joined y (joined (just (jump Bri mid head)) (just (drop_words test)))))))
        (code_instant body a b child other inner i)
    code_instant (call g) a b child other at i = refl
    code_instant (pause k) a b child other at i = absurd i
    code_instant (fork k fs) a b child other at i = absurd i
    code_instant (guard j body) a b child other at i = absurd i

    codes_instant : (nodes : Nodes) (a b : List ℕ) (child other at : ℕ) → AreInstant nodes →
        codes writing entrances s nodes a child at ≡ codes writing entrances t nodes b other at
    codes_instant no_nodes a b child other at i = refl
    codes_instant (and n nodes) a b child other at i =
        ap (λ y. joined y (codes writing entrances s nodes a (child + length (threads_of n)) (at + size writing n))) (code_instant n a b child other at i.0)
        ∙ ap (joined (code writing entrances t n b other at)) (codes_instant nodes a b (child + length (threads_of n)) (other + length (threads_of n)) (at + size writing n) i.1)
