-- The pauses and the forks of a thread's words: they are at its `eot` and `fork` words, and forks start slots in the order of the text.
use Rattle.std.proofs.Common.{◌≡◌, ℕ, ◌+◌, ◌%◌, ◌<◌, ◌≤◌, Option, Some, None, List, [], ◌∷◌, ◌++◌, length, refl, sym, ap, subst, ◌∙◌}
use Rattle.std.proofs.Common.{arith, length-append}
use Rattle.std.specs.List.{AllByRecursion}
use Rattle.mb_isa.specs.declared.words.Instr.TheVariants.{Bri, Fork, Eot, Leave}
use Rattle.pt_image.specs.declared.image.Point.{Point}
use Rattle.pt_image.specs.declared.image.Parts.{Parts}
use Rattle.pc_lower.specs.declared.nodes.Test.{Test}
use Rattle.pc_lower.specs.Flow.{Node, Nodes, straight, sequence, branch, turns, bounded, call, pause, fork, guard, no_nodes, and}
use Rattle.pc_lower.specs.Laid.{Placing}
use Rattle.pc_lower.specs.Program.{HasRoom, HaveRoom}
use Rattle.pc_lower.specs.Slots.{AreChildren}
use Rattle.pc_lower.specs.Words.{Writing}
use Rattle.pc_lower.specs.Limits.{threads_of, threads_of_all}
use Rattle.pc_lower.specs.Layable.{IsInstant, AreInstant}
use Rattle.tk_paths.specs.Words.{instr_at}
use Rattle.pc_emit.specs.Part.{Part, joined, just, entering}
use Rattle.pc_emit.specs.Code.{loop_size, test_size, option_size, size, sizes, short, jump, drop_words, tested, option_tested, code, codes}
use Rattle.pc_emit.proofs.Lists.{IsAt, at_first, all_append}
use Rattle.pc_emit.proofs.Numbers.{short_is}
use Rattle.pc_emit.proofs.Lengths.{tested_size, option_tested_size, code_size}
use Rattle.pc_emit.proofs.Made.{IsMade, has_at}
use Rattle.pc_emit.proofs.Laying.{Starts, AllStart}
use Rattle.pc_emit.proofs.Units.{instr-there}
use Rattle.pc_emit.proofs.Passing.{instant-inside}
use Rattle.pc_emit.proofs.Regions.{next-at}

pub all-weaker : {A : Type 0} (P Q : A → Type 0) (xs : List A) → ((x : A) → P x → Q x) → AllByRecursion P xs → AllByRecursion Q xs
all-weaker P Q [] g h = tt
all-weaker P Q (x ∷ xs) g h = (g x h.0, all-weaker P Q xs g h.1)

-- a part that adds nothing to these tables
abbrev pub IsBare : Part → Type 0
IsBare p = (p.pauses ≡ []) × (p.forks ≡ [])

bare-both : (p q : Part) → IsBare p → IsBare q → IsBare (joined p q)
bare-both p q h k = (rw (h.0, k.0) refl, rw (h.1, k.1) refl)

module _ (writing : Writing) where
  option-bare : (test : Option Test) (at out : ℕ) → IsBare (option_tested writing test at out)
  option-bare None at out = (refl, refl)
  option-bare (Some test) at out = (refl, refl)

  module _ (entrances : List ℕ) (s : ℕ) where
    mutual
      pub instant-bare : (n : Node) (a : List ℕ) (child at : ℕ) → IsInstant n → IsBare (code writing entrances s n a child at)
      instant-bare (straight steps) a child at i = (refl, refl)
      instant-bare (sequence nodes) a child at i = instants-bare nodes a child at i
      instant-bare (branch test n m) a child at i =
          let mid = at + test_size writing test + size writing n in
          bare-both (code writing entrances s n a child (at + test_size writing test))
          (joined (just (jump Bri mid (mid + 2 + size writing m)))
          (code writing entrances s m a (child + length (threads_of n)) (mid + 2)))
          (instant-bare n a child (at + test_size writing test) i.0) (instant-bare m a (child + length (threads_of n)) (mid + 2) i.1)
      instant-bare (turns test body) a child at i =
          let mid = at + option_size writing test + size writing body in
          bare-both (option_tested writing test at (mid + 2))
          (joined (code writing entrances s body a child (at + option_size writing test)) (just (jump Bri mid at)))
          (option-bare test at (mid + 2))
          (bare-both (code writing entrances s body a child (at + option_size writing test)) (just (jump Bri mid at))
          (instant-bare body a child (at + option_size writing test) i) (refl, refl))
      instant-bare (bounded most test body) a child at i =
          let head = at + loop_size most in
          let inner = head + 1 + option_size writing test in
          let mid = inner + size writing body in
          let y = code writing entrances s body a child inner in
          let z = joined (just (jump Bri mid head)) (just (drop_words test)) in
          bare-both (option_tested writing test (head + 1) (mid + 2)) (joined y z) (option-bare test (head + 1) (mid + 2))
          (bare-both y z (instant-bare body a child inner i) (refl, refl))
      instant-bare (call g) a child at i = (refl, refl)
      instant-bare (pause k) a child at i = absurd i
      instant-bare (fork k fs) a child at i = absurd i
      instant-bare (guard j body) a child at i = absurd i

      pub instants-bare : (nodes : Nodes) (a : List ℕ) (child at : ℕ) → AreInstant nodes → IsBare
          (codes writing entrances s nodes a child at)
      instants-bare no_nodes a child at i = (refl, refl)
      instants-bare (and n nodes) a child at i =
          bare-both (code writing entrances s n a child at) (codes writing entrances s nodes a (child + length (threads_of n))
          (at + size writing n))
          (instant-bare n a child at i.0) (instants-bare nodes a (child + length (threads_of n)) (at + size writing n) i.1)

module _ (image : Parts) (parent : ℕ → ℕ) where
  -- a pause, and a fork, at a place from one place on and before another
  abbrev pub IsPauseAt : (low high : ℕ) → Point → Type 0
  IsPauseAt low high p = (low ≤ p.at) × (p.at < high) × (instr_at image p.at ≡ Some Eot)

  abbrev pub IsForkAt : (low high : ℕ) → Point → Type 0
  IsForkAt low high p = (low ≤ p.at) × (p.at < high) × (lo : ℕ) × (n : ℕ) × (instr_at image p.at ≡ Some (Fork lo n))

  -- forks of slot s start slots from one number on and before another, each behind those of the fork before
  abbrev pub AreSpread : (s from : ℕ) → List Point → (to : ℕ) → Type 0
  AreSpread s from [] to = from ≤ to
  AreSpread s from (p ∷ points) to =
      (lo : ℕ) × (n : ℕ) × (instr_at image p.at ≡ Some (Fork lo n)) × (from ≤ lo) × (1 ≤ n) × AreChildren parent s lo n × AreSpread s
      (lo + n) points to

  spread-earlier : (s a b to : ℕ) (points : List Point) → a ≤ b → AreSpread s b points to → AreSpread s a points to
  spread-earlier s a b to [] le h = omega (arith, le, h)
  spread-earlier s a b to (p ∷ points) le h = (h.0, h.1, h.2, (let k = h.3 in omega (arith, le, k)), h.4, h.5, h.6)

  pub spread-both : (s a b c : ℕ) (xs ys : List Point) → AreSpread s a xs b → AreSpread s b ys c → AreSpread s a (xs ++ ys) c
  spread-both s a b c [] ys h k = spread-earlier s a b c ys h k
  spread-both s a b c (x ∷ xs) ys h k = (h.0, h.1, h.2, h.3, h.4, h.5, spread-both s (h.0 + h.1) b c xs ys h.6 k)

  -- what is said of a part's points
  pub record ArePointed (s low high from to : ℕ) (p : Part) : Type 0 where
    pub pauses_are : AllByRecursion (IsPauseAt low high) p.pauses
    pub forks_are : AllByRecursion (IsForkAt low high) p.forks
    pub spread : AreSpread s from p.forks to

  bare-pointed : (s low high from : ℕ) (p : Part) → IsBare p → ArePointed s low high from from p
  bare-pointed s low high from p h = record {
    pauses_are = subst (AllByRecursion (IsPauseAt low high)) (sym h.0) tt;
    forks_are = subst (AllByRecursion (IsForkAt low high)) (sym h.1) tt;
    spread = subst (λ l. AreSpread s from l from) (sym h.1) (omega arith);
  }

  both-pointed : (s low high a b c : ℕ) (p q : Part) → ArePointed s low high a b p → ArePointed s low high b c q → ArePointed s low high a c
      (joined p q)
  both-pointed s low high a b c p q h k = record {
    pauses_are = all_append (IsPauseAt low high) p.pauses q.pauses h.pauses_are k.pauses_are;
    forks_are = all_append (IsForkAt low high) p.forks q.forks h.forks_are k.forks_are;
    spread = spread-both s a b c p.forks q.forks h.spread k.spread;
  }

  wider-pointed : (s low high l h a b : ℕ) (p : Part) → l ≤ low → high ≤ h → ArePointed s low high a b p → ArePointed s l h a b p
  wider-pointed s low high l h a b p le ge k = record {
    pauses_are = all-weaker (IsPauseAt low high) (IsPauseAt l h) p.pauses
        (λ x i. ((let e = i.0 in omega (arith, le, e)), (let e = i.1 in omega (arith, ge, e)), i.2)) k.pauses_are;
    forks_are = all-weaker (IsForkAt low high) (IsForkAt l h) p.forks
        (λ x i. ((let e = i.0 in omega (arith, le, e)), (let e = i.1 in omega (arith, ge, e)), i.2, i.3, i.4)) k.forks_are;
    spread = k.spread;
  }

  nothing-more : (s child low high : ℕ) (p : Part) → IsBare p → ArePointed s low high child (child + 0) p
  nothing-more s child low high p h = subst (λ k. ArePointed s low high child k p) (omega arith) (bare-pointed s low high child p h)

  -- words before and behind that add nothing
  behind-bare : (s low high a b : ℕ) (p q : Part) → IsBare p → ArePointed s low high a b q → ArePointed s low high a b (joined p q)
  behind-bare s low high a b p q h k = both-pointed s low high a a b p q (bare-pointed s low high a p h) k

  before-bare : (s low high a b : ℕ) (p q : Part) → ArePointed s low high a b p → IsBare q → ArePointed s low high a b (joined p q)
  before-bare s low high a b p q h k = both-pointed s low high a b b p q h (bare-pointed s low high b q k)

  module _ (writing : Writing) (whole : Part) (made : IsMade image whole) (entrances : List ℕ) (placing : Placing) (s : ℕ)
      (IsStarted : ℕ → List ℕ → Type 0) (few : length image.slots ≤ 64)
      (well : (child : ℕ) (fs : List ℕ) → IsStarted child fs → (1 ≤ length fs) ×
      (child + length fs ≤ length image.slots) × AreChildren parent s child (length fs)) where
    mutual
      pub pointed : (n : Node) (a : List ℕ) (child at end : ℕ) → IsAt whole.words at (code writing entrances s n a child at).words →
          Starts IsStarted n child → HasRoom placing n 0 0
          → at + size writing n ≡ end → end < length whole.words → ArePointed s at end child (child + length (threads_of n))
          (code writing entrances s n a child at)
      pointed (straight steps) a child at end st starts room e lt = nothing-more s child at end
          (code writing entrances s (straight steps) a child at) (refl, refl)
      pointed (sequence nodes) a child at end st starts room e lt = all-pointed nodes a child at end st starts room e lt
      pointed (branch test n m) a child at end st starts room e lt =
          let inner = at + test_size writing test in
          let mid = inner + size writing n in
          let out = mid + 2 in
          let next = child + length (threads_of n) in
          let last = next + length (threads_of m) in
          let x = tested writing test at out in
          let y = code writing entrances s n a child inner in
          let w = just (jump Bri mid (out + size writing m)) in
          let z = code writing entrances s m a next out in
          let st1 = next-at x.words (y.words ++ (w.words ++ z.words)) inner st (ap (λ k. at + k) (tested_size writing test at out)) in
          let st2 = next-at y.words (w.words ++ z.words) mid st1 (ap (λ k. inner + k) (code_size writing entrances s n a child inner)) in
          let st3 = next-at w.words z.words out st2 refl in
          let count : last ≡ child + length (threads_of n ++ threads_of m) = simp length-append (omega arith) in
          let left = wider-pointed s inner mid at end child next y (omega arith) (omega (arith, e))
          (pointed n a child inner mid (at_first y.words (w.words ++ z.words) st1) starts.0 room.0 refl (omega (arith, e, lt))) in
          let right = wider-pointed s out end at end next last z (omega arith) (omega arith)
          (pointed m a next out end st3 starts.1 room.1 (omega (arith, e)) lt) in
          subst (λ k. ArePointed s at end child k (joined x (joined y (joined w z)))) count
          (behind-bare s at end child last x (joined y (joined w z)) (refl, refl)
          (both-pointed s at end child next last y (joined w z) left (behind-bare s at end next last w z (refl, refl) right)))
      pointed (turns test body) a child at end st starts room e lt =
          let inner = at + option_size writing test in
          let mid = inner + size writing body in
          let last = child + length (threads_of body) in
          let x = option_tested writing test at (mid + 2) in
          let y = code writing entrances s body a child inner in
          let w = just (jump Bri mid at) in
          let st1 = next-at x.words (y.words ++ w.words) inner st (ap (λ k. at + k) (option_tested_size writing test at (mid + 2))) in
          behind-bare s at end child last x (joined y w) (option-bare writing test at (mid + 2))
          (before-bare s at end child last y w
          (wider-pointed s inner mid at end child last y (omega arith) (omega (arith, e))
          (pointed body a child inner mid (at_first y.words w.words st1) starts room refl (omega (arith, e, lt)))) (refl, refl))
      pointed (bounded most test body) a child at end st starts room e lt =
          nothing-more s child at end (code writing entrances s (bounded most test body) a child at)
          (instant-bare writing entrances s (bounded most test body) a child at
          (instant-inside placing body 0 1 (λ z. omega (arith, z)) room.1))
      pointed (call f) a child at end st starts room e lt = nothing-more s child at end (code writing entrances s (call f) a child at)
          (refl, refl)
      pointed (pause i) a child at end st starts room e lt =
          let wide = made.room in
          let same : short at ≡ at = short_is at (omega (arith, e, lt, wide)) in
          let there = instr-there image at Eot (has_at image whole made at Eot [] st tt) in record {
            pauses_are = ((omega (arith, same), omega (arith, same, e), ap (instr_at image) same ∙ there), tt);
            forks_are = tt;
            spread = omega arith;
          }
      pointed (fork i fs) a child at end st starts room e lt =
          let wide = made.room in
          let same : short at ≡ at = short_is at (omega (arith, e, lt, wide)) in
          let h = well child fs starts in
          let some = h.0 in
          let within = h.1 in
          let lo : child % 256 ≡ child = omega (arith, few, within, some) in
          let count : length fs % 256 ≡ length fs = omega (arith, few, within) in
          let word : IsAt whole.words at (Fork child (length fs) ∷ []) =
          subst (λ k. IsAt whole.words at (Fork child k ∷ [])) count
          (subst (λ k. IsAt whole.words at (Fork k (length fs % 256) ∷ [])) lo st) in
          let there = ap (instr_at image) same ∙ instr-there image at (Fork child (length fs))
          (has_at image whole made at (Fork child (length fs)) [] word (omega (arith, few, within), omega (arith, few, within))) in
          record {
            pauses_are = tt;
            forks_are = ((omega (arith, same), omega (arith, same, e), child, length fs, there), tt);
            spread = (child, length fs, there, omega arith, some, h.2, omega arith);
          }
      pointed (guard j body) a child at end st starts room e lt =
          let mid = at + 1 + size writing body in
          let last = child + length (threads_of body) in
          let x = entering (short j) (short (mid + 1)) in
          let y = code writing entrances s body (a ++ j ∷ []) child (at + 1) in
          let w = just (Leave ∷ []) in
          let st1 = next-at x.words (y.words ++ w.words) (at + 1) st refl in
          behind-bare s at end child last x (joined y w) (refl, refl)
          (before-bare s at end child last y w
          (wider-pointed s (at + 1) mid at end child last y (omega arith) (omega (arith, e))
          (pointed body (a ++ j ∷ []) child (at + 1) mid (at_first y.words w.words st1) starts room.2 refl (omega (arith, e, lt))))
          (refl, refl))

      all-pointed : (nodes : Nodes) (a : List ℕ) (child at end : ℕ) → IsAt whole.words at (codes writing entrances s nodes a child at).words
          → AllStart IsStarted nodes child → HaveRoom placing nodes 0 0
          → at + sizes writing nodes ≡ end → end < length whole.words → ArePointed s at end child (child + length (threads_of_all nodes))
          (codes writing entrances s nodes a child at)
      all-pointed no_nodes a child at end st starts room e lt = nothing-more s child at end (codes writing entrances s no_nodes a child at)
          (refl, refl)
      all-pointed (and n nodes) a child at end st starts room e lt =
          let mid = at + size writing n in
          let next = child + length (threads_of n) in
          let last = next + length (threads_of_all nodes) in
          let y = code writing entrances s n a child at in
          let z = codes writing entrances s nodes a next mid in
          let st1 = next-at y.words z.words mid st (ap (λ k. at + k) (code_size writing entrances s n a child at)) in
          let count : last ≡ child + length (threads_of n ++ threads_of_all nodes) = simp length-append (omega arith) in
          let left = wider-pointed s at mid at end child next y (omega arith) (omega (arith, e))
          (pointed n a child at mid (at_first y.words z.words st) starts.0 room.0 refl (omega (arith, e, lt))) in
          let right = wider-pointed s mid end at end next last z (omega arith) (omega arith)
          (all-pointed nodes a next mid end st1 starts.1 room.1 (omega (arith, e)) lt) in
          subst (λ k. ArePointed s at end child k (joined y z)) count (both-pointed s at end child next last y z left right)
