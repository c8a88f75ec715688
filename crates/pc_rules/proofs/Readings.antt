-- What lexing and parsing come to, one after the other.
use Rattle.std.proofs.Common.{◌≡◌, ◌≤◌, ℕ, List, Result, Ok, Err, IfOk, IfErr, length, ◌∙◌, subst}
use Rattle.pt_base.specs.declared.Refusal.{Refusal}
use Rattle.pt_base.specs.declared.Refusal.TheVariants.{Broken, Memory}
use Rattle.pc_grammar.specs.declared.Token.{Token}
use Rattle.pc_grammar.specs.Lexing as lexing
use Rattle.pc_grammar.specs.Programs.{IsProgram, IsBroken, RefusedIn}
use Rattle.pc_grammar.specs.Trees.{Program}
use Rattle.pt_base.specs.declared.limits.TheConstants.{MOST_SOURCE_BYTES}
use Rattle.pc_rules.specs.Sources.{no_tokens, no_program, IsRead}

pub unlexed : (text : List ℕ) (f : Refusal) → length text ≤ MOST_SOURCE_BYTES → lexing.RefusedIn text f → IsRead text (Err f)
unlexed text (Broken rule span) short l = no_tokens (l.0) short (l.1)
unlexed text Memory short l = tt

pub parsed : (text : List ℕ) (tokens : List Token) (count : ℕ) (r : Result Program Refusal) → length text ≤ MOST_SOURCE_BYTES → lexing.Lexes 0 text tokens lexing.whole → count ≡ length text →
    IfOk r (λ p. IsProgram text tokens p.items) → IfOk r (λ p. p.length ≡ count) → IfErr r (λ f. RefusedIn text tokens count f) → IsRead text r
parsed text tokens count (Ok p) short cut same s l f = record { short = short; tokens = tokens; cut = cut; spelled = s; length_is = l ∙ same }
parsed text tokens count (Err (Broken rule span)) short cut same s l f =
    let P : ℕ → Type 0 = λ n. IsBroken text tokens n rule span in no_program tokens short cut (subst P same f)
parsed text tokens count (Err Memory) short cut same s l f = tt
