-- What each function answers that reads parameters, locals, or the frame of a function.
use Rattle.std.specs.Prelude.{◌≡◌, ℕ, List, Option, Some}
use Rattle.pc_grammar.specs.declared.tokens.Sort.TheVariants.{IntWord}
use Rattle.pc_grammar.specs.declared.tokens.Token.{Token}
use Rattle.pc_grammar.specs.declared.expressions.Word.{Word}
use Rattle.pc_grammar.specs.declared.expressions.Expr.{Expr}
use Rattle.pc_grammar.specs.Refusing.{first}
use Rattle.pc_parse.specs.Reading.{Takes, Fails, Always}
use Rattle.pc_parse.specs.Lists.{AfterName}
use Rattle.pc_parse.specs.Statements.{Closes}
use Rattle.pc_grammar.specs.declared.frames.Frame.{Frame}
use Rattle.pc_grammar.specs.Frames.{SpellsFrame, SpellsLocal, SpellsLocals, SpellsParameter, SpellsParameters}

abbrev pub ParameterTakes : List ℕ → List Token → Word → List Token → Type 0
ParameterTakes source = Takes (SpellsParameter source) (λ _. AfterName)

abbrev pub ParameterFails : List ℕ → List Token → ℕ → Type 0
ParameterFails source = Fails (SpellsParameter source) (λ _. AfterName)

abbrev pub ParametersTakes : List ℕ → List Token → List Word → List Token → Type 0
ParametersTakes source = Takes (SpellsParameters source) Always

abbrev pub ParametersFails : List ℕ → List Token → ℕ → Type 0
ParametersFails source = Fails (SpellsParameters source) Always

abbrev pub LocalTakes : List ℕ → List Token → Word × Option (Expr Word) → List Token → Type 0
LocalTakes source = Takes (SpellsLocal source) Always

abbrev pub LocalFails : List ℕ → List Token → ℕ → Type 0
LocalFails source = Fails (SpellsLocal source) Always

-- locals end where no `int` comes next
abbrev pub NoInt : {A : Type 0} → A → List Token → Type 0
NoInt a ts = first ts ≡ Some IntWord → ⊥

abbrev pub LocalsTakes : List ℕ → List Token → List (Word × Option (Expr Word)) → List Token → Type 0
LocalsTakes source = Takes (SpellsLocals source) NoInt

abbrev pub LocalsFails : List ℕ → List Token → ℕ → Type 0
LocalsFails source = Fails (SpellsLocals source) NoInt

-- a frame ends where its statements do
abbrev pub FrameEnds : Frame → List Token → Type 0
FrameEnds f ts = Closes (first ts)

abbrev pub FrameTakes : List ℕ → List Token → Frame → List Token → Type 0
FrameTakes source = Takes (SpellsFrame source) FrameEnds

abbrev pub FrameFails : List ℕ → List Token → ℕ → Type 0
FrameFails source = Fails (SpellsFrame source) FrameEnds
