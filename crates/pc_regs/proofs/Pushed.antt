-- A loop that puts the words of one step after another behind the others.
use Rattle.std.proofs.Common.{◌≡◌, ℕ, ◌+◌, ◌<◌, ◌≤◌, IsTrue, List, ◌∷◌, ◌++◌, length, get_or, drop, sym, ap, subst, ◌∙◌, add-one, drop-cons, append-nil}
use Rattle.std.proofs.Math.ListN.{drop_of_length-le}
use Rattle.mb_isa.specs.declared.words.Instr.{Instr}
use Rattle.pc_lower.specs.declared.nodes.Step.{Step}
use Rattle.pc_regs.specs.declared.placement.Placement.{Placement}
use Rattle.pc_regs.specs.Words.{step_words, steps_words, is_step_written, are_written}
use Rattle.pc_regs.specs.Writings.{instrs}
use Rattle.pc_regs.proofs.Places.{parts}
use Rattle.pc_regs.proofs.Flat.{flat_two}

-- the words so far, and those of the steps that are left, make those of all steps
pub record IsPushed (p : Placement) (steps left : List Step) (first out : List Instr) : Type 0 where
  pub words : out ++ instrs (steps_words p left) ≡ first ++ instrs (steps_words p steps)
  pub written : IsTrue (are_written p left)

split_at : (steps : List Step) (i : ℕ) (d : Step) → i < length steps → drop i steps ≡ get_or steps i d ∷ drop (i + 1) steps
split_at steps i d lt = rw add-one (drop-cons steps i d lt)

-- one more step
pub one_pushed : (p : Placement) (steps : List Step) (i : ℕ) (d : Step) (first out next : List Instr) → i < length steps →
    IsPushed p steps (drop i steps) first out → next ≡ out ++ instrs (step_words p (get_or steps i d)) →
    IsPushed p steps (drop (i + 1) steps) first next
one_pushed p steps i d first out next lt w is =
    let s = get_or steps i d in
    let left = drop (i + 1) steps in
    let split = split_at steps i d lt in
    record {
      words = ap (λ x. x ++ instrs (steps_words p left)) is ∙ sym (flat_two out (step_words p s) (steps_words p left))
          ∙ ap (λ l. out ++ instrs (steps_words p l)) (sym split) ∙ w.words;
      written = (parts (is_step_written p s) (are_written p left) (subst (λ l. IsTrue (are_written p l)) split w.written)).1;
    }

pub next_written : (p : Placement) (steps : List Step) (i : ℕ) (d : Step) (first out : List Instr) → i < length steps →
    IsPushed p steps (drop i steps) first out → IsTrue (is_step_written p (get_or steps i d))
next_written p steps i d first out lt w =
    let s = get_or steps i d in
    let left = drop (i + 1) steps in
    let split = split_at steps i d lt in
    (parts (is_step_written p s) (are_written p left) (subst (λ l. IsTrue (are_written p l)) split w.written)).0

pub all_pushed : (p : Placement) (steps : List Step) (i : ℕ) (first out : List Instr) → length steps ≤ i → IsPushed p steps (drop i steps) first out →
    out ≡ first ++ instrs (steps_words p steps)
all_pushed p steps i first out le w = sym (append-nil out) ∙ ap (λ l. out ++ instrs (steps_words p l)) (sym (drop_of_length-le steps le)) ∙ w.words
