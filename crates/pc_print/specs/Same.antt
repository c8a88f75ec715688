-- Statements that are the same but for their places: docs/language.md, "Canonical text".
use Rattle.std.specs.Prelude.{◌≡◌, ℕ, List, map}
use Rattle.pc_grammar.specs.declared.tokens.Token.{Token}
use Rattle.pc_grammar.specs.Lexing.{Lexes, whole}
use Rattle.pc_grammar.specs.declared.expressions.Word.{Word}
use Rattle.pc_grammar.specs.declared.expressions.Goal.{Goal}
use Rattle.pc_grammar.specs.declared.expressions.Goal.TheVariants.{Nothing, Var, Elem}
use Rattle.pc_grammar.specs.declared.statements.Stmt.{Stmt, fold-Stmt}
use Rattle.pc_grammar.specs.declared.statements.Stmt.TheVariants.{Skip, Assign, Call, Block, If, While, Eot, Par, Abort}
use Rattle.pc_grammar.specs.declared.statements.Stmt.TheOpen.{Stmt-F, Skip as OpenSkip, Assign as OpenAssign, Call as OpenCall, Block as OpenBlock, If as OpenIf, While as OpenWhile, Eot as OpenEot, Par as OpenPar, Abort as OpenAbort}
use Rattle.pc_grammar.specs.Statements.{IsBody}
use Rattle.pc_print.specs.Parts.{text}
use Rattle.pc_print.specs.Canonical.{statements}
use Rattle.pc_print.specs.Tokens.{nowhere, bare}

abbrev pub bare_goal : Goal Word → Goal (List ℕ)
bare_goal Nothing = Nothing
bare_goal (Var x) = Var x.text
bare_goal (Elem x index) = Elem x.text (bare index)

abbrev pub bare_statement_of : Stmt-F Word (Stmt (List ℕ)) → Stmt (List ℕ)
bare_statement_of OpenSkip = Skip
bare_statement_of (OpenAssign goal value) = Assign (bare_goal goal) (bare value)
bare_statement_of (OpenCall goal function arguments) = Call (bare_goal goal) function.text (map bare arguments)
bare_statement_of (OpenBlock all) = Block all
bare_statement_of (OpenIf test first second) = If (bare test) first second
bare_statement_of (OpenWhile span test most body) = While nowhere (bare test) most body
bare_statement_of (OpenEot span) = Eot nowhere
bare_statement_of (OpenPar span threads) = Par nowhere (map (λ x. x.text) threads)
bare_statement_of (OpenAbort span weak body test) = Abort nowhere weak body (bare test)

-- a statement with the bytes of its names alone
abbrev pub bare_statement : Stmt Word → Stmt (List ℕ)
bare_statement = fold-Stmt Word (Stmt (List ℕ)) bare_statement_of

abbrev pub bare_statements : List (Stmt Word) → List (Stmt (List ℕ))
bare_statements all = map bare_statement all

-- the canonical text of statements that some source spells is cut into tokens that spell the same ones but for places
abbrev pub CanonicalBodySpells : Type 0
CanonicalBodySpells = (source : List ℕ) (ts : List Token) (all : List (Stmt Word)) (level : ℕ) → Lexes 0 source ts whole → IsBody source ts all →
    (us : List Token) × (same : List (Stmt Word)) × Lexes 0 (text (statements level all)) us whole × IsBody (text (statements level all)) us same × (bare_statements same ≡ bare_statements all)
