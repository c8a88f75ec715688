-- What a statement begins with, and what each function answers that reads a statement that holds no statement.
use Rattle.std.specs.Prelude.{ℕ, List}
use Rattle.pc_grammar.specs.declared.tokens.Sort.{Sort}
use Rattle.pc_grammar.specs.declared.tokens.Sort.TheVariants.{Name, Semicolon, EotWord, ParWord, OpenBrace, IfWord, WhileWord, AbortWord, WeakWord}
use Rattle.pc_grammar.specs.declared.tokens.Token.{Token}
use Rattle.pc_grammar.specs.declared.expressions.Word.{Word}
use Rattle.pc_grammar.specs.declared.statements.Stmt.{Stmt}
use Rattle.pc_parse.specs.Reading.{Takes, Fails, Always}
use Rattle.pc_parse.specs.declared.simple.StatementOpening.{StatementOpening}
use Rattle.pc_parse.specs.declared.simple.StatementOpening.TheVariants.{Skip as SkipBeginning, Name as NameBeginning, Eot as EotBeginning, Par as ParBeginning, Block as BlockBeginning, If as IfBeginning, While as WhileBeginning, Abort as AbortBeginning, Weak as WeakBeginning, Nothing as NothingBeginning}
use Rattle.pc_grammar.specs.Simple.{SpellsNamed, SpellsSimple}

-- what a statement begins with
unfoldable pub beginning_of : Sort → StatementOpening
beginning_of Semicolon = SkipBeginning
beginning_of Name = NameBeginning
beginning_of EotWord = EotBeginning
beginning_of ParWord = ParBeginning
beginning_of OpenBrace = BlockBeginning
beginning_of IfWord = IfBeginning
beginning_of WhileWord = WhileBeginning
beginning_of AbortWord = AbortBeginning
beginning_of WeakWord = WeakBeginning
beginning_of _ = NothingBeginning

abbrev pub NamedTakes : List ℕ → Word → List Token → Stmt Word → List Token → Type 0
NamedTakes source name = Takes (SpellsNamed source name) Always

abbrev pub NamedFails : List ℕ → Word → List Token → ℕ → Type 0
NamedFails source name = Fails (SpellsNamed source name) Always

abbrev pub SimpleTakes : List ℕ → List Token → Stmt Word → List Token → Type 0
SimpleTakes source = Takes (SpellsSimple source) Always

abbrev pub SimpleFails : List ℕ → List Token → ℕ → Type 0
SimpleFails source = Fails (SpellsSimple source) Always
