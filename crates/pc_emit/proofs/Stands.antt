-- Parts that stand in a whole.
use Rattle.std.proofs.Common.{◌≡◌, ℕ, suc, ◌+◌, Option, Some, None, List, [], ◌∷◌, ◌++◌, length, refl, sym, ap, ◌∙◌, arith, length-append, append-nil}
use Rattle.std.specs.List.{range_with_len}
use Rattle.mb_isa.specs.declared.words.Instr.{Instr}
use Rattle.mb_isa.specs.declared.words.Instr.TheVariants.{Bri, Leave}
use Rattle.pc_lower.specs.declared.nodes.Test.{Test}
use Rattle.pc_lower.specs.Flow.{Node, Nodes, straight, sequence, branch, turns, bounded, call, pause, fork, guard, no_nodes, and}
use Rattle.pc_lower.specs.Words.{Writing}
use Rattle.pc_lower.specs.Limits.{threads_of}
use Rattle.pc_lower.specs.Layable.{pauses_in, pauses_in_all, forks_of, forks_of_all, guards_of, guards_of_all}
use Rattle.pc_emit.specs.Part.{Part, joined, just}
use Rattle.pc_emit.specs.Code.{size, test_size, option_size, loop_size, drop_words, jump, option_tested, code, codes}
use Rattle.pc_emit.proofs.Lists.{IsAt, at_first, at_second, at_moved}

-- how many words, pauses, forks and handlers stand before
pub record Spot : Type 0 where
  pub words : ℕ
  pub pauses : ℕ
  pub forks : ℕ
  pub handlers : ℕ

abbrev pub past : Spot → Part → Spot
past s p = record {
  words = s.words + length p.words;
  pauses = s.pauses + length p.pauses;
  forks = s.forks + length p.forks;
  handlers = s.handlers + length p.handlers;
}

pub record Stands (whole : Part) (s : Spot) (part : Part) : Type 0 where
  pub words : IsAt whole.words s.words part.words
  pub pauses : IsAt whole.pauses s.pauses part.pauses
  pub forks : IsAt whole.forks s.forks part.forks
  pub handlers : IsAt whole.handlers s.handlers part.handlers

pub first_stands : (whole : Part) (s : Spot) (p q : Part) → Stands whole s (joined p q) → Stands whole s p
first_stands whole s p q st = record {
  words = at_first p.words q.words st.words;
  pauses = at_first p.pauses q.pauses st.pauses;
  forks = at_first p.forks q.forks st.forks;
  handlers = at_first p.handlers q.handlers st.handlers;
}

pub second_stands : (whole : Part) (s : Spot) (p q : Part) → Stands whole s (joined p q) → Stands whole (past s p) q
second_stands whole s p q st = record {
  words = at_second p.words q.words st.words;
  pauses = at_second p.pauses q.pauses st.pauses;
  forks = at_second p.forks q.forks st.forks;
  handlers = at_second p.handlers q.handlers st.handlers;
}

-- ---- the numbers of pauses, forks and aborts

-- so many are listed in the tables
pub record Counted (p : Part) (pauses forks guards : List ℕ) : Type 0 where
  pub pauses_are : length p.pauses ≡ length pauses
  pub forks_are : length p.forks ≡ length forks
  pub guards_are : length p.handlers ≡ length guards

both : {A B : Type 0} (xs ys : List A) (ns ms : List B) → length xs ≡ length ns → length ys ≡ length ms → length (xs ++ ys) ≡ length (ns ++ ms)
both xs ys ns ms e h = simp length-append (omega (arith, e, h))

pub counted_both : (p q : Part) (ps fs gs ps' fs' gs' : List ℕ) → Counted p ps fs gs → Counted q ps' fs' gs' → Counted (joined p q) (ps ++ ps') (fs ++ fs') (gs ++ gs')
counted_both p q ps fs gs ps' fs' gs' a b = record {
  pauses_are = both p.pauses q.pauses ps ps' a.pauses_are b.pauses_are;
  forks_are = both p.forks q.forks fs fs' a.forks_are b.forks_are;
  guards_are = both p.handlers q.handlers gs gs' a.guards_are b.guards_are;
}

-- words add nothing to the tables
pub counted_before : (words : List Instr) (p : Part) (ps fs gs : List ℕ) → Counted p ps fs gs → Counted (joined (just words) p) ps fs gs
counted_before words p ps fs gs a = record { pauses_are = a.pauses_are; forks_are = a.forks_are; guards_are = a.guards_are }

pub counted_behind : (p : Part) (words : List Instr) (ps fs gs : List ℕ) → Counted p ps fs gs → Counted (joined p (just words)) ps fs gs
counted_behind p words ps fs gs a = record {
  pauses_are = ap length (append-nil p.pauses) ∙ a.pauses_are;
  forks_are = ap length (append-nil p.forks) ∙ a.forks_are;
  guards_are = ap length (append-nil p.handlers) ∙ a.guards_are;
}

-- where the numbers of a piece stand among those of all
pub record Numbers (counts : Spot) (s : Spot) (pauses forks guards : List ℕ) : Type 0 where
  pub pauses_at : IsAt (range_with_len 0 counts.pauses) s.pauses pauses
  pub forks_at : IsAt (range_with_len 0 counts.forks) s.forks forks
  pub guards_at : IsAt (range_with_len 0 counts.handlers) s.handlers guards

pub first_numbers : (counts s : Spot) (ps fs gs ps' fs' gs' : List ℕ) → Numbers counts s (ps ++ ps') (fs ++ fs') (gs ++ gs') → Numbers counts s ps fs gs
first_numbers counts s ps fs gs ps' fs' gs' n = record {
  pauses_at = at_first ps ps' n.pauses_at;
  forks_at = at_first fs fs' n.forks_at;
  guards_at = at_first gs gs' n.guards_at;
}

pub second_numbers : (counts s : Spot) (p : Part) (ps fs gs ps' fs' gs' : List ℕ) → Counted p ps fs gs → Numbers counts s (ps ++ ps') (fs ++ fs') (gs ++ gs') →
    Numbers counts (past s p) ps' fs' gs'
second_numbers counts s p ps fs gs ps' fs' gs' c n = record {
  pauses_at = at_moved ps' (at_second ps ps' n.pauses_at) (ap (λ k. s.pauses + k) (sym c.pauses_are));
  forks_at = at_moved fs' (at_second fs fs' n.forks_at) (ap (λ k. s.forks + k) (sym c.forks_are));
  guards_at = at_moved gs' (at_second gs gs' n.guards_at) (ap (λ k. s.handlers + k) (sym c.guards_are));
}

abbrev pub Plain : Part → Type 0
Plain p = Counted p [] [] []

pub words_plain : (words : List Instr) → Plain (just words)
words_plain words = record { pauses_are = refl; forks_are = refl; guards_are = refl }

-- a part without pauses, forks and aborts
pub past_plain : (counts s : Spot) (p : Part) (ps fs gs : List ℕ) → Plain p → Numbers counts s ps fs gs → Numbers counts (past s p) ps fs gs
past_plain counts s p ps fs gs c n = second_numbers counts s p [] [] [] ps fs gs c n

module _ (writing : Writing) where
  pub option_plain : (test : Option Test) (at out : ℕ) → Plain (option_tested writing test at out)
  option_plain None at out = words_plain []
  option_plain (Some test) at out = record { pauses_are = refl; forks_are = refl; guards_are = refl }

  module _ (entrances : List ℕ) (slot : ℕ) where
    mutual
      pub counted : (n : Node) (stack : List ℕ) (child at : ℕ) → Counted (code writing entrances slot n stack child at) (pauses_in n) (forks_of n) (guards_of n)
      counted (straight steps) stack child at = words_plain _
      counted (sequence nodes) stack child at = all_counted nodes stack child at
      counted (branch test a b) stack child at =
          let out = at + test_size writing test + size writing a + 2 in
          let x = counted a stack child (at + test_size writing test) in
          let y = counted b stack (child + length (threads_of a)) out in
          let w = jump Bri (at + test_size writing test + size writing a) (out + size writing b) in
          let r = counted_both _ _ _ _ _ _ _ _ x (counted_before w _ _ _ _ y) in
          record { pauses_are = r.pauses_are; forks_are = r.forks_are; guards_are = r.guards_are }
      counted (turns test body) stack child at =
          let x = counted body stack child (at + option_size writing test) in
          let w = jump Bri (at + option_size writing test + size writing body) at in
          counted_both _ _ [] [] [] _ _ _ (option_plain test at (at + option_size writing test + size writing body + 2)) (counted_behind _ w _ _ _ x)
      counted (bounded most test body) stack child at =
          let inner = at + loop_size most + 1 + option_size writing test in
          let x = counted body stack child inner in
          let w = jump Bri (inner + size writing body) (at + loop_size most) ++ drop_words test in
          let r = counted_both _ _ [] [] [] _ _ _ (option_plain test (at + loop_size most + 1) (inner + size writing body + 2)) (counted_behind _ w _ _ _ x) in
          record { pauses_are = r.pauses_are; forks_are = r.forks_are; guards_are = r.guards_are }
      counted (call f) stack child at = words_plain _
      counted (pause i) stack child at = record { pauses_are = refl; forks_are = refl; guards_are = refl }
      counted (fork i fs) stack child at = record { pauses_are = refl; forks_are = refl; guards_are = refl }
      counted (guard j body) stack child at =
          let x = counted body (stack ++ j ∷ []) child (at + 1) in
          let r = counted_behind _ (Leave ∷ []) _ _ _ x in
          record { pauses_are = r.pauses_are; forks_are = r.forks_are; guards_are = ap suc r.guards_are }

      pub all_counted : (nodes : Nodes) (stack : List ℕ) (child at : ℕ) → Counted (codes writing entrances slot nodes stack child at) (pauses_in_all nodes) (forks_of_all nodes) (guards_of_all nodes)
      all_counted no_nodes stack child at = words_plain []
      all_counted (and n nodes) stack child at =
          counted_both _ _ _ _ _ _ _ _ (counted n stack child at) (all_counted nodes stack (child + length (threads_of n)) (at + size writing n))
