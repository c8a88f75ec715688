-- The points of an image's forks: what stands there starts slots that the point's own slot starts.
use Rattle.std.proofs.Common.{◌≡◌, ◌≤◌, ◌<◌, ◌+◌, ◌++◌, ℕ, suc, Bool, List, [], ◌∷◌, length, slice_get, Some, refl, sym, ap, ◌∙◌, subst, inl, inr, ⊎_elim, arith}
use Rattle.std.specs.Prelude.{◌⊎◌}
use Rattle.std.proofs.lemmas.Option.{same_Some}
use Rattle.mb_isa.specs.declared.Instr.TheVariants as instr
use Rattle.pt_image.specs.declared.Point.{Point}
use Rattle.pt_image.specs.declared.Parts.{Parts}
use Rattle.pc_lower.specs.declared.nodes.Step.{Step}
use Rattle.pc_lower.specs.declared.nodes.Test.{Test}
use Rattle.pc_lower.specs.Flow.{Node, Nodes, straight, sequence, branch, turns, bounded, call, pause, fork, guard, no_nodes, and, Flows}
use Rattle.pc_lower.specs.Residuals.{body_at}
use Rattle.pc_lower.specs.Places.{Has}
use Rattle.pc_lower.specs.Laid.{Placing, HasChildren, Laid, LaidAll}
use Rattle.pc_lower.specs.StepCounts.{total_of}
use Rattle.pc_lower.specs.Program.{HasRoom, HaveRoom}
use Rattle.pc_lower.specs.Limits.{threads_of, threads_of_all}
use Rattle.pc_lower.specs.Layable.{IsInstant, AreInstant, forks_of, forks_of_all, numbers_in}
use Rattle.pc_lower.proofs.RegionThreads.{total-append}
use Rattle.tk_paths.specs.Words.{instr_in, instr_at}
use Rattle.tk_paths.specs.Shape.{children_at, children_in}
use Rattle.tk_paths.proofs.Lists.{IsAmong}

among-parts : (x : ℕ) (xs ys : List ℕ) → IsAmong x (xs ++ ys) → IsAmong x xs ⊎ IsAmong x ys
among-parts x [] ys h = inr h
among-parts x (z ∷ xs) ys h = ⊎_elim (λ e. inl (inl e)) (λ r. ⊎_elim (λ l. inl (inr l)) (λ k. inr k) (among-parts x xs ys r)) h

-- nodes that take no time have no forks
mutual
  pub instant-forks : (n : Node) (i : ℕ) → IsInstant n → IsAmong i (forks_of n) → ⊥
  instant-forks (straight steps) i s h = h
  instant-forks (sequence nodes) i s h = all-instant-forks nodes i s h
  instant-forks (branch test a b) i s h = ⊎_elim (λ k. instant-forks a i s.0 k) (λ k. instant-forks b i s.1 k) (among-parts i (forks_of a) (forks_of b) h)
  instant-forks (turns test body) i s h = instant-forks body i s h
  instant-forks (bounded n test body) i s h = instant-forks body i s h
  instant-forks (call f) i s h = h
  instant-forks (pause k) i s h = s
  instant-forks (fork k fs) i s h = s
  instant-forks (guard j body) i s h = s

  all-instant-forks : (nodes : Nodes) (i : ℕ) → AreInstant nodes → IsAmong i (forks_of_all nodes) → ⊥
  all-instant-forks no_nodes i s h = h
  all-instant-forks (and n nodes) i s h = ⊎_elim (λ k. instant-forks n i s.0 k) (λ k. all-instant-forks nodes i s.1 k) (among-parts i (forks_of n) (forks_of_all nodes) h)

-- nor do those inside a bounded loop
module _ (placing : Placing) (i : ℕ) where
  mutual
    room-forks : (n : Node) (l k : ℕ) → 1 ≤ k → HasRoom placing n l k → IsAmong i (forks_of n) → ⊥
    room-forks (straight steps) l k some room h = h
    room-forks (sequence nodes) l k some room h = all-room-forks nodes l k some room h
    room-forks (branch test a b) l k some room h = ⊎_elim (λ m. room-forks a l k some room.0 m) (λ m. room-forks b l k some room.1 m) (among-parts i (forks_of a) (forks_of b) h)
    room-forks (turns test body) l k some room h = room-forks body l k some room h
    room-forks (bounded n test body) l k some room h = room-forks body l (k + 1) (omega arith) room.1 h
    room-forks (call f) l k some room h = h
    room-forks (pause m) l k some room h = h
    room-forks (fork m fs) l k some room h = let e = room.1 in absurd (omega (arith, some, e))
    room-forks (guard j body) l k some room h = room-forks body l k some room.2 h

    all-room-forks : (nodes : Nodes) (l k : ℕ) → 1 ≤ k → HaveRoom placing nodes l k → IsAmong i (forks_of_all nodes) → ⊥
    all-room-forks no_nodes l k some room h = h
    all-room-forks (and n nodes) l k some room h = ⊎_elim (λ m. room-forks n l k some room.0 m) (λ m. all-room-forks nodes l k some room.1 m) (among-parts i (forks_of n) (forks_of_all nodes) h)

-- a fork is one of some function's
pub owner : (bodies : List Node) (i : ℕ) → IsAmong i (numbers_in forks_of bodies) → (g : ℕ) × (g < length bodies) × IsAmong i (forks_of (body_at bodies g))
owner [] i h = absurd h
owner (n ∷ nodes) i h =
    ⊎_elim (λ k. (0, omega arith, k)) (λ k. let r = owner nodes i k in let l = r.1 in (suc (r.0), omega (arith, l), r.2)) (among-parts i (forks_of n) (numbers_in forks_of nodes) h)

module _ (parent : ℕ → ℕ) (image : Parts) (known : Flows) (weak : ℕ → Bool) (HasSteps : List Step → ℕ → ℕ → Type 0) (HasTest : Test → ℕ → ℕ → ℕ → Type 0) (placing : Placing) where
  -- the point is of this slot, and its fork starts slots of its own, whose threads are some of these
  pub record Starts (s : ℕ) (p : Point) (fs : List ℕ) : Type 0 where
    pub slot : p.slot ≡ s
    pub lo : ℕ
    pub threads : List ℕ
    pub starts : children_at image p.at ≡ (lo, length threads)
    pub children : HasChildren parent image known weak HasSteps HasTest placing s lo threads
    pub some : (worth : ℕ → ℕ) → total_of worth threads ≤ total_of worth fs

  more-starts : (s : ℕ) (p : Point) (xs ys : List ℕ) → ((worth : ℕ → ℕ) → total_of worth xs ≤ total_of worth ys) → Starts s p xs → Starts s p ys
  more-starts s p xs ys le h = record {
    slot = h.slot;
    lo = h.lo;
    threads = h.threads;
    starts = h.starts;
    children = h.children;
    some = λ worth. let a = h.some worth in let b = le worth in omega (arith, a, b);
  }

  left-starts : (s : ℕ) (p : Point) (xs ys : List ℕ) → Starts s p xs → Starts s p (xs ++ ys)
  left-starts s p xs ys h = more-starts s p xs (xs ++ ys) (λ worth. let t = total-append worth xs ys in omega (arith, t)) h

  right-starts : (s : ℕ) (p : Point) (xs ys : List ℕ) → Starts s p ys → Starts s p (xs ++ ys)
  right-starts s p xs ys h = more-starts s p ys (xs ++ ys) (λ worth. let t = total-append worth xs ys in omega (arith, t)) h

  module _ (s i : ℕ) (p : Point) (at : slice_get image.forks i ≡ Some p) where
    here : (from lo : ℕ) (stack fs : List ℕ) → Has image from (instr.Fork lo (length fs)) → slice_get image.forks i ≡ Some (record { at = from; slot = s; stack = stack }) →
        HasChildren parent image known weak HasSteps HasTest placing s lo fs → Starts s p fs
    here from lo stack fs has listed children =
        let q : Point = record { at = from; slot = s; stack = stack } in
        let e : q ≡ p = same_Some q p (sym listed ∙ at) in
        let word : instr_at image from ≡ Some (instr.Fork lo (length fs)) = ap instr_in has.stands ∙ has.decodes in
        subst (λ x. Starts s x fs) e (record {
          slot = refl;
          lo = lo;
          threads = fs;
          starts = ap children_in word;
          children = children;
          some = λ worth. omega arith;
        })

    mutual
      pub laid-fork : (n : Node) (a : List ℕ) (from to l k : ℕ) → HasRoom placing n l k → Laid parent image known weak HasSteps HasTest placing s n a from to → IsAmong i (forks_of n) → Starts s p (threads_of n)
      laid-fork (straight steps) a from to l k room d h = absurd h
      laid-fork (sequence nodes) a from to l k room d h = laid-forks nodes a from to l k room d h
      laid-fork (branch test x y) a from to l k room d h =
          ⊎_elim (λ m. left-starts s p (threads_of x) (threads_of y) (laid-fork x a d.0 d.1 l k room.0 d.4 m)) (λ m. right-starts s p (threads_of x) (threads_of y) (laid-fork y a d.2 to l k room.1 d.6 m)) (among-parts i (forks_of x) (forks_of y) h)
      laid-fork (turns test body) a from to l k room d h = laid-fork body a d.0 d.1 l k room d.3 h
      laid-fork (bounded n test body) a from to l k room d h = absurd (room-forks placing i body l (k + 1) (omega arith) room.1 h)
      laid-fork (call f) a from to l k room d h = absurd h
      laid-fork (pause m) a from to l k room d h = absurd h
      laid-fork (fork m fs) a from to l k room d h =
          ⊎_elim (λ e. let P : ℕ → Type 0 = λ x. slice_get image.forks x ≡ Some (record { at = from; slot = s; stack = a }) in here from d.0 a fs d.1 (subst P e d.2) d.4) (λ r. absurd r) h
      laid-fork (guard j body) a from to l k room d h = laid-fork body (a ++ j ∷ []) (from + 1) d.0 l k room.2 d.2 h

      laid-forks : (nodes : Nodes) (a : List ℕ) (from to l k : ℕ) → HaveRoom placing nodes l k → LaidAll parent image known weak HasSteps HasTest placing s nodes a from to → IsAmong i (forks_of_all nodes) → Starts s p (threads_of_all nodes)
      laid-forks no_nodes a from to l k room d h = absurd h
      laid-forks (and n nodes) a from to l k room d h =
          ⊎_elim (λ m. left-starts s p (threads_of n) (threads_of_all nodes) (laid-fork n a from d.0 l k room.0 d.1 m)) (λ m. right-starts s p (threads_of n) (threads_of_all nodes) (laid-forks nodes a d.0 to l k room.1 d.2 m)) (among-parts i (forks_of n) (forks_of_all nodes) h)
