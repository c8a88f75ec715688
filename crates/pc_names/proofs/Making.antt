-- A function with numbers for names, put together, and its locals one after another.
use Rattle.std.proofs.Common.{◌≡◌, ℕ, ◌+◌, Bool, List, [], ◌∷◌, ◌++◌, Option, length, sym, ap, ◌∙◌, append_assoc, length-append, arith}
use Rattle.pc_grammar.specs.declared.expressions.Word.{Word}
use Rattle.pc_grammar.specs.declared.expressions.Expr.{Expr}
use Rattle.pc_grammar.specs.declared.statements.Stmt.{Stmt}
use Rattle.pc_grammar.specs.declared.programs.Item.{Item}
use Rattle.pc_grammar.specs.declared.programs.Item.TheVariants.{Function as FunctionItem}
use Rattle.pc_grammar.specs.declared.typed.Function.{Function}
use Rattle.pc_grammar.specs.Places.{names_of, is_thread}
use Rattle.pc_grammar.specs.Typing.{cells_of, cell_number, function_number, numbered_value, numbers_from, typed_locals, typed_item}
use Rattle.pc_names.specs.Chains.{numbered_statements}

abbrev pub made : Word → Bool → Bool → List ℕ → List (ℕ × Option (Expr ℕ)) → List (Stmt ℕ) → Option (Expr ℕ) → Function
made name thread gives parameters locals body result = record { name = name; thread = thread; gives = gives; parameters = parameters; locals = locals; body = body; result = result }

module _ (all before : List Item) (item : Item) (name : Word) (gives : Bool) (parameters : List Word) (locals : List (Word × Option (Expr Word))) (body : List (Stmt Word)) (result : Option (Expr Word)) where
  abbrev own : List Word
  own = parameters ++ names_of locals

  pub function_added : (old new : List Function) (copy : Word) (thread : Bool) (cells : List ℕ) (local_cells : List (ℕ × Option (Expr ℕ))) (statements : List (Stmt ℕ)) (value : Option (Expr ℕ)) →
      item ≡ FunctionItem name gives parameters locals body result → new ≡ old ++ made copy thread gives cells local_cells statements value ∷ [] →
      copy ≡ name → thread ≡ is_thread all name → cells ≡ numbers_from (length (cells_of before)) parameters → local_cells ≡ typed_locals before parameters locals →
      statements ≡ numbered_statements (cell_number before own) (function_number before) body → value ≡ numbered_value (cell_number before own) result → new ≡ old ++ typed_item all before item
  function_added old new copy thread cells local_cells statements value is added c t p l s v =
      added
      ∙ ap (λ x. old ++ made x thread gives cells local_cells statements value ∷ []) c
      ∙ ap (λ x. old ++ made name x gives cells local_cells statements value ∷ []) t
      ∙ ap (λ x. old ++ made name (is_thread all name) gives x local_cells statements value ∷ []) p
      ∙ ap (λ x. old ++ made name (is_thread all name) gives (numbers_from (length (cells_of before)) parameters) x statements value ∷ []) l
      ∙ ap (λ x. old ++ made name (is_thread all name) gives (numbers_from (length (cells_of before)) parameters) (typed_locals before parameters locals) x value ∷ []) s
      ∙ ap (λ x. old ++ made name (is_thread all name) gives (numbers_from (length (cells_of before)) parameters) (typed_locals before parameters locals) (numbered_statements (cell_number before own) (function_number before) body) x ∷ []) v
      ∙ ap (λ i. old ++ typed_item all before i) (sym is)

-- one more local
module _ (before : List Item) (own grown : List Word) (p : Word × Option (Expr Word)) (rest behind : List (Word × Option (Expr Word))) where
  pub local_added : (all added total : List (ℕ × Option (Expr ℕ))) (next : ℕ) (of : Option (Expr ℕ)) → behind ≡ p ∷ rest → grown ≡ own ++ p.0 ∷ [] → added ≡ all ++ (next, of) ∷ [] →
      next ≡ length (cells_of before) + length own → of ≡ numbered_value (cell_number before own) p.1 → all ++ typed_locals before own behind ≡ total → added ++ typed_locals before grown rest ≡ total
  local_added all added total next of is grown_is added_is next_is of_is so_far =
      ap (λ xs. xs ++ typed_locals before grown rest) added_is
      ∙ append_assoc all ((next, of) ∷ []) (typed_locals before grown rest)
      ∙ ap (λ n. all ++ (n, of) ∷ typed_locals before grown rest) next_is
      ∙ ap (λ o. all ++ (length (cells_of before) + length own, o) ∷ typed_locals before grown rest) of_is
      ∙ ap (λ g. all ++ (length (cells_of before) + length own, numbered_value (cell_number before own) p.1) ∷ typed_locals before g rest) grown_is
      ∙ ap (λ b. all ++ typed_locals before own b) (sym is)
      ∙ so_far

  pub local_counted : (next : ℕ) → grown ≡ own ++ p.0 ∷ [] → next ≡ length (cells_of before) + length own → next + 1 ≡ length (cells_of before) + length grown
  local_counted next grown_is next_is =
      let more : length grown ≡ length own + 1 = ap length grown_is ∙ length-append own (p.0 ∷ []) in
      omega (arith, more, next_is)

  pub local_named : (total : List Word) → behind ≡ p ∷ rest → grown ≡ own ++ p.0 ∷ [] → own ++ names_of behind ≡ total → grown ++ names_of rest ≡ total
  local_named total is grown_is so_far =
      ap (λ g. g ++ names_of rest) grown_is ∙ append_assoc own (p.0 ∷ []) (names_of rest) ∙ ap (λ b. own ++ names_of b) (sym is) ∙ so_far
