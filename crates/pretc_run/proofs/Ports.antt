-- A program within the limits has few inputs and outputs.
use Rattle.std.proofs.Common.{◌≡◌, ◌≤◌, ◌<◌, ◌+◌, ℕ, Bool, true, false, List, [], ◌∷◌, length, refl, sym, ap, subst, ◌∙◌, if◌then◌else◌, cond, count_by, arith}
use Rattle.std.proofs.lemmas.List.Sums.{sum_by-cons}
use Rattle.pt_base.specs.First.{end_of}
use Rattle.pt_base.specs.declared.Rule.TheVariants.{Z9}
use Rattle.pc_grammar.specs.declared.CellKind.{CellKind}
use Rattle.pc_grammar.specs.declared.CellKind.TheVariants.{Input, Output, Plain, Array, Parameter, Local}
use Rattle.pc_grammar.specs.declared.Cell.{Cell}
use Rattle.pc_grammar.specs.Typing.{Typing}
use Rattle.pc_rules.specs.Judging as rules
use Rattle.pc_rules.specs.Judging.{IsWithin}
use Rattle.pc_meaning.specs.Programs.{program_of, chosen, rooms_from, is_input, is_output}

pick : (b : Bool) (x : ℕ) (xs : List ℕ) (n : ℕ) → length xs ≡ n → length (if b then x ∷ xs else xs) ≡ cond b 1 0 + n
pick true x xs n e = omega (arith, e)
pick false x xs n e = omega (arith, e)

chosen_count : (test : CellKind → Bool) (counts : Cell → Bool) → ((k : Cell) → test k.kind ≡ counts k) → (cells : List Cell) (place : ℕ) →
    length (chosen test cells (rooms_from place cells)) ≡ count_by counts cells
chosen_count test counts same [] place = refl
chosen_count test counts same (k ∷ cells) place =
    pick (test k.kind) place (chosen test cells (rooms_from (place + k.size) cells)) (count_by counts cells) (chosen_count test counts same cells (place + k.size))
    ∙ ap (λ b. cond b 1 0 + count_by counts cells) (same k) ∙ sym (sum_by-cons (λ cell. cond (counts cell) 1 0) k cells)

input_kind : (k : Cell) (c : CellKind) → is_input c ≡ rules.is_input (record k { kind = c })
input_kind k Input = refl
input_kind k Output = refl
input_kind k Plain = refl
input_kind k Array = refl
input_kind k Parameter = refl
input_kind k Local = refl

output_kind : (k : Cell) (c : CellKind) → is_output c ≡ rules.is_output (record k { kind = c })
output_kind k Input = refl
output_kind k Output = refl
output_kind k Plain = refl
output_kind k Array = refl
output_kind k Parameter = refl
output_kind k Local = refl

-- the inputs, counted over the cells
pub input_count_is : (t : Typing) → length (program_of t).inputs ≡ count_by rules.is_input t.cells
input_count_is t = chosen_count is_input rules.is_input (λ k. input_kind k k.kind) t.cells 0

output_count_is : (t : Typing) → length (program_of t).outputs ≡ count_by rules.is_output t.cells
output_count_is t = chosen_count is_output rules.is_output (λ k. output_kind k k.kind) t.cells 0

at_most : (n : ℕ) → (64 < n → ⊥) → n ≤ 64
at_most n h = omega (arith, h)

pub few_inputs : (t : Typing) → IsWithin t → length (program_of t).inputs ≤ 64
few_inputs t within =
    let P : ℕ → Type 0 = λ n. n ≤ 64 in
    subst P (sym (input_count_is t)) (at_most _ (λ more. within.limits Z9 (end_of t.length) (rules.inputs more)))

pub few_outputs : (t : Typing) → IsWithin t → length (program_of t).outputs ≤ 64
few_outputs t within =
    let P : ℕ → Type 0 = λ n. n ≤ 64 in
    subst P (sym (output_count_is t)) (at_most _ (λ more. within.limits Z9 (end_of t.length) (rules.outputs more)))
