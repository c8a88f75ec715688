-- Programs that are the same but for their places: docs/language.md, "Canonical text".
use Rattle.std.specs.Prelude.{◌≡◌, ℕ, ℤ, Bool, List, map, Option}
use Rattle.std.specs.Option.{option_map}
use Rattle.pc_grammar.specs.declared.tokens.Token.{Token}
use Rattle.pc_grammar.specs.Lexing.{Lexes, whole}
use Rattle.pc_grammar.specs.declared.expressions.Word.{Word}
use Rattle.pc_grammar.specs.declared.expressions.Expr.{Expr}
use Rattle.pc_grammar.specs.declared.statements.Stmt.{Stmt}
use Rattle.pc_grammar.specs.declared.programs.CellKind.{CellKind}
use Rattle.pc_grammar.specs.declared.programs.Item.{Item}
use Rattle.pc_grammar.specs.declared.programs.Item.TheVariants.{Scalar, Array, Function}
use Rattle.pc_grammar.specs.Programs.{IsProgram}
use Rattle.pc_print.specs.Parts.{text}
use Rattle.pc_print.specs.Canonical.{items}
use Rattle.pc_print.specs.Tokens.{bare}
use Rattle.pc_print.specs.Same.{bare_statements}

-- an item with the bytes of its names alone
pub data BareItem : Type 0 where
  scalar : CellKind → List ℕ → ℤ → BareItem
  array : List ℕ → ℕ → BareItem
  function : List ℕ → Bool → List (List ℕ) → List (List ℕ × Option (Expr (List ℕ))) → List (Stmt (List ℕ)) → Option (Expr (List ℕ)) → BareItem

abbrev pub bytes_of : Word → List ℕ
bytes_of x = x.text

abbrev pub bare_local : Word × Option (Expr Word) → List ℕ × Option (Expr (List ℕ))
bare_local p = (p.0.text, option_map bare p.1)

abbrev pub bare_item : Item → BareItem
bare_item (Scalar kind x start) = scalar kind x.text start
bare_item (Array x size) = array x.text size
bare_item (Function x gives parameters locals body result) = function x.text gives (map bytes_of parameters) (map bare_local locals) (bare_statements body) (option_map bare result)

-- the canonical text of a program that some source spells is cut into tokens that spell the same one but for places
abbrev pub CanonicalProgramSpells : Type 0
CanonicalProgramSpells = (source : List ℕ) (ts : List Token) (all : List Item) → Lexes 0 source ts whole → IsProgram source ts all →
    (us : List Token) × (same : List Item) × Lexes 0 (text (items all)) us whole × IsProgram (text (items all)) us same × (map bare_item same ≡ map bare_item all)
