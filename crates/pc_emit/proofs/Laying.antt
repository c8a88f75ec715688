-- The words of a node are laid out where its part stands.
use Rattle.std.proofs.Common.{◌≡◌, ℕ, ◌+◌, ◌%◌, ◌<◌, ◌≤◌, Bool, Option, Some, None, List, [], ◌∷◌, ◌++◌, length, slice_get, refl, sym, ap, subst, ◌∙◌, arith, append-nil, length-append}
use Rattle.std.proofs.lemmas.List.FromFn.{length-range_with_len}
use Rattle.std.specs.Prelude.{slice_index_or}
use Rattle.mb_isa.specs.declared.words.Instr.TheVariants.{Bri, Fork, Eot, Abrt, Leave, Call, Next, Drop}
use Rattle.pt_image.specs.declared.image.Point.{Point}
use Rattle.pt_image.specs.declared.image.Parts.{Parts}
use Rattle.pc_lower.specs.declared.nodes.Test.{Test}
use Rattle.pc_lower.specs.Flow.{Node, Nodes, straight, sequence, branch, turns, bounded, call, pause, fork, guard, no_nodes, and, Flows}
use Rattle.pc_lower.specs.Laid.{Placing, HasOption, HasDrop, HasChildren, Laid, LaidAll}
use Rattle.pc_lower.specs.Words.{Writing, HasSteps, HasTest}
use Rattle.pc_lower.specs.Limits.{threads_of}
use Rattle.pc_lower.specs.Layable.{IsLayable, AreLayable, pauses_in, pauses_in_all, forks_of, forks_of_all, guards_of, guards_of_all}
use Rattle.pc_emit.specs.Part.{Part, joined, just, entering}
use Rattle.pc_regs.specs.Writings.{instrs, WritesWork, OptionWritten, NodeWritten, NodesWritten}
use Rattle.pc_emit.specs.Code.{loop_size, drop_size, test_size, option_size, size, sizes, short, jump, loop_words, drop_words, point, tested, option_tested, code, codes}
use Rattle.pc_emit.proofs.Lists.{IsAt, at_moved, at_get, at_within, counted_at}
use Rattle.pc_emit.proofs.Numbers.{short_is}
use Rattle.pc_emit.proofs.Lengths.{loop_words_size, tested_size, option_tested_size, code_size}
use Rattle.pc_emit.proofs.Stands.{Spot, past, Stands, first_stands, second_stands, Numbers, first_numbers, second_numbers, words_plain, past_plain, option_plain, counted}
use Rattle.pc_emit.proofs.Made.{IsMade, has_at, written_at, jump_at, loop_at, test_at}

-- every fork in a node starts children from a number on, one fork after another
module _ (IsStarted : ℕ → List ℕ → Type 0) where
  abbrev mutual
    pub Starts : Node → ℕ → Type 0
    Starts (straight steps) child = Unit {0}
    Starts (sequence nodes) child = AllStart nodes child
    Starts (branch test a b) child = Starts a child × Starts b (child + length (threads_of a))
    Starts (turns test body) child = Starts body child
    Starts (bounded most test body) child = Starts body child
    Starts (call f) child = Unit {0}
    Starts (pause i) child = Unit {0}
    Starts (fork i fs) child = IsStarted child fs
    Starts (guard j body) child = Starts body child

    pub AllStart : Nodes → ℕ → Type 0
    AllStart no_nodes child = Unit {0}
    AllStart (and n nodes) child = Starts n child × AllStart nodes (child + length (threads_of n))

-- the lists of an image besides its words, and the numbers in them
pub record IsTabled (image : Parts) (whole : Part) (weak : ℕ → Bool) (counts : Spot) : Type 0 where
  pub pauses : image.pauses ≡ whole.pauses
  pub forks : image.forks ≡ whole.forks
  pub aborts : (j handler : ℕ) → slice_get whole.handlers j ≡ Some handler → j < counts.handlers →
      (cond : ℕ) × (slice_get image.aborts j ≡ Some (record { weak = weak j; cond = cond; handler = handler }))
  pub guards : length whole.handlers ≤ 65536
  pub few : length image.slots ≤ 64

module _ (parent : ℕ → ℕ) (image : Parts) (known : Flows) (weak : ℕ → Bool) (writing : Writing) (placing : Placing)
    (whole : Part) (counts : Spot) (made : IsMade image whole) (tabled : IsTabled image whole weak counts) (work : WritesWork writing)
    (entrances : List ℕ) (enters : (g : ℕ) → short (slice_index_or entrances g 0) ≡ placing.entrance g) (s : ℕ) where
  abbrev IsStarted : ℕ → List ℕ → Type 0
  IsStarted child fs = HasChildren parent image known weak (HasSteps image writing) (HasTest image writing) placing s child fs

  abbrev IsLaid : Node → List ℕ → (from to : ℕ) → Type 0
  IsLaid n a from to = Laid parent image known weak (HasSteps image writing) (HasTest image writing) placing s n a from to

  option_at : (test : Option Test) (at inner out : ℕ) → OptionWritten writing test → IsAt whole.words at (option_tested writing test at out).words
      → at + option_size writing test ≡ inner → out < length whole.words
      → HasOption parent image known weak (HasSteps image writing) (HasTest image writing) placing test at inner out
  option_at None at inner out written st e lt = omega (arith, e)
  option_at (Some test) at inner out written st e lt = test_at image whole made writing work test at inner out written st e lt

  drop_at : (test : Option Test) (at to : ℕ) → IsAt whole.words at (drop_words test) → at + drop_size test ≡ to →
      HasDrop parent image known weak (HasSteps image writing) (HasTest image writing) placing test at to
  drop_at None at to st e = omega (arith, e)
  drop_at (Some test) at to st e = (has_at image whole made at Drop [] st tt, e)

  mutual
    pub laid : (n : Node) (a : List ℕ) (child at to depth : ℕ) (p : Spot) → p.words ≡ at → Stands whole p (code writing entrances s n a child at)
        → Numbers counts p (pauses_in n) (forks_of n) (guards_of n) → length a ≡ depth → IsLayable known depth n → NodeWritten writing n → Starts IsStarted n child
        → at + size writing n ≡ to → to < length whole.words → IsLaid n a at to
    laid (straight steps) a child at to depth p here st num deep lay written starts e lt =
        let ops = writing.words_of steps in
        (written, written_at image whole made ops [] at to (at_moved (instrs ops ++ []) (subst (IsAt whole.words p.words) (sym (append-nil (instrs ops))) st.words) here) (work.steps steps written) e)
    laid (sequence nodes) a child at to depth p here st num deep lay written starts e lt =
        all_laid nodes a child at to depth p here st num deep lay written starts e lt
    laid (branch test n m) a child at to depth p here st num deep lay written starts e lt =
        let inner = at + test_size writing test in
        let mid = inner + size writing n in
        let out = mid + 2 in
        let x = tested writing test at out in
        let y = code writing entrances s n a child inner in
        let w = just (jump Bri mid (out + size writing m)) in
        let z = code writing entrances s m a (child + length (threads_of n)) out in
        let st1 = second_stands whole p x (joined y (joined w z)) st in
        let st2 = second_stands whole (past p x) y (joined w z) st1 in
        let st3 = second_stands whole (past (past p x) y) w z st2 in
        let h1 : p.words + length x.words ≡ inner = let t = tested_size writing test at out in omega (arith, t, here) in
        let h2 : p.words + length x.words + length y.words ≡ mid = let t = code_size writing entrances s n a child inner in omega (arith, t, h1) in
        let h3 : p.words + length x.words + length y.words + 2 ≡ out = omega (arith, h2) in
        let num1 = past_plain counts p x _ _ _ (words_plain x.words) num in
        let num2 = second_numbers counts (past p x) y _ _ _ _ _ _ (counted writing entrances s n a child inner) num1 in
        let end : out + size writing m ≡ to = omega (arith, e) in (
          inner,
          mid,
          out,
          test_at image whole made writing work test at inner out written.0 (at_moved x.words (first_stands whole p x (joined y (joined w z)) st).words here) refl (omega (arith, end, lt)),
          laid n a child inner mid depth (past p x) h1 (first_stands whole (past p x) y (joined w z) st1) (first_numbers counts (past p x) _ _ _ _ _ _ num1) deep lay.0 written.1 starts.0 refl (omega (arith, end, lt)),
          jump_at image whole made mid out to (subst (λ k. IsAt whole.words mid (jump Bri mid k)) end (at_moved w.words (first_stands whole (past (past p x) y) w z st2).words h2)) refl lt,
          laid m a (child + length (threads_of n)) out to depth (past (past (past p x) y) w) h3 st3 (past_plain counts (past (past p x) y) w _ _ _ (words_plain w.words) num2) deep lay.1 written.2 starts.1 end lt,
        )
    laid (turns test body) a child at to depth p here st num deep lay written starts e lt =
        let inner = at + option_size writing test in
        let mid = inner + size writing body in
        let x = option_tested writing test at (mid + 2) in
        let y = code writing entrances s body a child inner in
        let w = just (jump Bri mid at) in
        let st1 = second_stands whole p x (joined y w) st in
        let st2 = second_stands whole (past p x) y w st1 in
        let h1 : p.words + length x.words ≡ inner = let t = option_tested_size writing test at (mid + 2) in omega (arith, t, here) in
        let h2 : p.words + length x.words + length y.words ≡ mid = let t = code_size writing entrances s body a child inner in omega (arith, t, h1) in
        let num1 = past_plain counts p x _ _ _ (option_plain writing test at (mid + 2)) num in
        let end : mid + 2 ≡ to = omega (arith, e) in (
          inner,
          mid,
          option_at test at inner to written.0 (subst (λ k. IsAt whole.words at (option_tested writing test at k).words) end (at_moved x.words (first_stands whole p x (joined y w) st).words here)) refl lt,
          laid body a child inner mid depth (past p x) h1 (first_stands whole (past p x) y w st1) num1 deep lay.1 written.1 starts refl (omega (arith, end, lt)),
          jump_at image whole made mid to at (at_moved w.words st2.words h2) end (omega (arith, end, lt)),
          lay.0,
        )
    laid (bounded most test body) a child at to depth p here st num deep lay written starts e lt =
        let head = at + loop_size most in
        let inner = head + 1 + option_size writing test in
        let mid = inner + size writing body in
        let out = mid + 2 in
        let l = just (loop_words most) in
        let m = just (Next (short (out + drop_size test)) ∷ []) in
        let x = option_tested writing test (head + 1) out in
        let y = code writing entrances s body a child inner in
        let w = just (jump Bri mid head) in
        let d = just (drop_words test) in
        let p1 = past p l in
        let p2 = past p1 m in
        let p3 = past p2 x in
        let p4 = past p3 y in
        let st1 = second_stands whole p l (joined m (joined x (joined y (joined w d)))) st in
        let st2 = second_stands whole p1 m (joined x (joined y (joined w d))) st1 in
        let st3 = second_stands whole p2 x (joined y (joined w d)) st2 in
        let st4 = second_stands whole p3 y (joined w d) st3 in
        let st5 = second_stands whole p4 w d st4 in
        let h1 : p1.words ≡ head = let t = loop_words_size most in omega (arith, t, here) in
        let h2 : p2.words ≡ head + 1 = omega (arith, h1) in
        let h3 : p3.words ≡ inner = let t = option_tested_size writing test (head + 1) out in omega (arith, t, h2) in
        let h4 : p4.words ≡ mid = let t = code_size writing entrances s body a child inner in omega (arith, t, h3) in
        let h5 : p4.words + 2 ≡ out = omega (arith, h4) in
        let num1 = past_plain counts p l _ _ _ (words_plain l.words) num in
        let num2 = past_plain counts p1 m _ _ _ (words_plain m.words) num1 in
        let num3 = past_plain counts p2 x _ _ _ (option_plain writing test (head + 1) out) num2 in
        let end : out + drop_size test ≡ to = omega (arith, e) in
        let room = made.room in
        let goes : short (out + drop_size test) ≡ to = short_is (out + drop_size test) (omega (arith, end, lt, room)) ∙ end in (
          head,
          inner,
          mid,
          out,
          loop_at image whole made most at head lay.0 (at_moved l.words (first_stands whole p l (joined m (joined x (joined y (joined w d)))) st).words here) refl,
          has_at image whole made head (Next to) [] (subst (λ k. IsAt whole.words head (Next k ∷ [])) goes (at_moved m.words (first_stands whole p1 m (joined x (joined y (joined w d))) st1).words h1)) (omega (arith, lt, room)),
          option_at test (head + 1) inner out written.0 (at_moved x.words (first_stands whole p2 x (joined y (joined w d)) st2).words h2) refl (omega (arith, end, lt)),
          laid body a child inner mid depth p3 h3 (first_stands whole p3 y (joined w d) st3) num3 deep lay.2 written.1 starts refl (omega (arith, end, lt)),
          jump_at image whole made mid out head (at_moved w.words (first_stands whole p4 w d st4).words h4) refl (omega (arith, end, lt)),
          drop_at test out to (at_moved d.words st5.words h5) end,
          lay.1,
        )
    laid (call g) a child at to depth p here st num deep lay written starts e lt =
        (has_at image whole made at (Call (placing.entrance g)) [] (subst (λ k. IsAt whole.words at (Call k ∷ [])) (enters g) (at_moved (Call (short (slice_index_or entrances g 0)) ∷ []) st.words here)) (subst (λ k. k < 65536) (enters g) (omega arith)), e)
    laid (pause i) a child at to depth p here st num deep lay written starts e lt =
        let room = made.room in
        let whole_point : Point = record { at = at; slot = s; stack = a } in
        let is : point at s a ≡ whole_point = ap (λ k. let q : Point = record { at = k; slot = s; stack = a } in q) (short_is at (omega (arith, e, lt, room))) in (
          has_at image whole made at Eot [] (at_moved (Eot ∷ []) st.words here) tt,
          ap (λ l. slice_get l i) tabled.pauses ∙ ap (slice_get whole.pauses) (counted_at counts.pauses i [] num.pauses_at) ∙ at_get (point at s a) [] st.pauses ∙ ap Some is,
          e,
        )
    laid (fork i fs) a child at to depth p here st num deep lay written starts e lt =
        let room = made.room in
        let few = tabled.few in
        let some = starts.0 in
        let within = starts.1 in
        let whole_point : Point = record { at = at; slot = s; stack = a } in
        let is : point at s a ≡ whole_point = ap (λ k. let q : Point = record { at = k; slot = s; stack = a } in q) (short_is at (omega (arith, e, lt, room))) in
        let lo : child % 256 ≡ child = omega (arith, few, within, some) in
        let count : length fs % 256 ≡ length fs = omega (arith, few, within) in
        let word : IsAt whole.words at (Fork child (length fs) ∷ []) =
        subst (λ k. IsAt whole.words at (Fork child k ∷ [])) count (subst (λ k. IsAt whole.words at (Fork k (length fs % 256) ∷ [])) lo (at_moved (Fork (child % 256) (length fs % 256) ∷ []) st.words here)) in (
          child,
          has_at image whole made at (Fork child (length fs)) [] word (omega (arith, few, within), omega (arith, few, within)),
          ap (λ l. slice_get l i) tabled.forks ∙ ap (slice_get whole.forks) (counted_at counts.forks i [] num.forks_at) ∙ at_get (point at s a) [] st.forks ∙ ap Some is,
          e,
          starts,
        )
    laid (guard j body) a child at to depth p here st num deep lay written starts e lt =
        let mid = at + 1 + size writing body in
        let x = entering (short j) (short (mid + 1)) in
        let y = code writing entrances s body (a ++ j ∷ []) child (at + 1) in
        let w = just (Leave ∷ []) in
        let st0 = first_stands whole p x (joined y w) st in
        let st1 = second_stands whole p x (joined y w) st in
        let st2 = second_stands whole (past p x) y w st1 in
        let h1 : p.words + 1 ≡ at + 1 = omega (arith, here) in
        let h2 : p.words + 1 + length y.words ≡ mid = let t = code_size writing entrances s body (a ++ j ∷ []) child (at + 1) in omega (arith, t, here) in
        let end : mid + 1 ≡ to = omega (arith, e) in
        let room = made.room in
        let guards = tabled.guards in
        let number : j ≡ p.handlers = counted_at counts.handlers j (guards_of body) num.guards_at in
        let there : p.handlers + 1 ≤ length whole.handlers = at_within (short (mid + 1) ∷ []) st0.handlers in
        let below : p.handlers + length (j ∷ guards_of body) ≤ counts.handlers =
        let k = at_within (j ∷ guards_of body) num.guards_at in let r = length-range_with_len 0 counts.handlers in omega (arith, k, r) in
        let small : short j ≡ j = short_is j (omega (arith, number, there, guards)) in
        let handler : slice_get whole.handlers j ≡ Some to =
        ap (slice_get whole.handlers) number ∙ at_get (short (mid + 1)) [] st0.handlers ∙ ap Some (short_is (mid + 1) (omega (arith, end, lt, room)) ∙ end) in
        let one : Numbers counts (past p x) (pauses_in body) (forks_of body) (guards_of body) =
        second_numbers counts p x [] [] (j ∷ []) (pauses_in body) (forks_of body) (guards_of body) (record { pauses_are = refl; forks_are = refl; guards_are = refl }) num in (
          mid,
          has_at image whole made at (Abrt j) [] (subst (λ k. IsAt whole.words at (Abrt k ∷ [])) small (at_moved (Abrt (short j) ∷ []) st0.words here)) (omega (arith, number, there, guards)),
          laid body (a ++ j ∷ []) child (at + 1) mid (depth + 1) (past p x) h1 (first_stands whole (past p x) y w st1) one (length-append a (j ∷ []) ∙ ap (λ k. k + 1) deep) lay.1 written starts refl (omega (arith, end, lt)),
          has_at image whole made mid Leave [] (at_moved (Leave ∷ []) st2.words h2) tt,
          tabled.aborts j to handler (omega (arith, number, below)),
          end,
          subst (λ k. k < 8) (sym deep) lay.0,
        )

    pub all_laid : (nodes : Nodes) (a : List ℕ) (child at to depth : ℕ) (p : Spot) → p.words ≡ at → Stands whole p (codes writing entrances s nodes a child at)
        → Numbers counts p (pauses_in_all nodes) (forks_of_all nodes) (guards_of_all nodes) → length a ≡ depth → AreLayable known depth nodes → NodesWritten writing nodes
        → AllStart IsStarted nodes child → at + sizes writing nodes ≡ to → to < length whole.words
        → LaidAll parent image known weak (HasSteps image writing) (HasTest image writing) placing s nodes a at to
    all_laid no_nodes a child at to depth p here st num deep lay written starts e lt = omega (arith, e)
    all_laid (and n nodes) a child at to depth p here st num deep lay written starts e lt =
        let mid = at + size writing n in
        let y = code writing entrances s n a child at in
        let z = codes writing entrances s nodes a (child + length (threads_of n)) mid in
        let h1 : p.words + length y.words ≡ mid = let t = code_size writing entrances s n a child at in omega (arith, t, here) in
        let num1 = second_numbers counts p y _ _ _ _ _ _ (counted writing entrances s n a child at) num in (
          mid,
          laid n a child at mid depth p here (first_stands whole p y z st) (first_numbers counts p _ _ _ _ _ _ num) deep lay.0 written.0 starts.0 refl (omega (arith, e, lt)),
          all_laid nodes a (child + length (threads_of n)) mid to depth (past p y) h1 (second_stands whole p y z st) num1 deep lay.1 written.1 starts.1 (omega (arith, e)) lt,
        )
