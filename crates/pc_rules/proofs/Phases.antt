-- What a phase that refuses says of the text.
use Rattle.std.proofs.Common.{◌≡◌, ℕ, List, Result, Err, subst}
use Rattle.pt_base.specs.declared.Refusal.{Refusal}
use Rattle.pt_base.specs.declared.Refusal.TheVariants.{Broken, Memory}
use Rattle.pc_grammar.specs.Trees.{Program}
use Rattle.pc_rules.specs.Sources.{IsSource, IsRead}
use Rattle.pc_grammar.specs.Typing.{Typing}
use Rattle.pc_names.specs.Resolving.{Resolves, IsResolved}
use Rattle.pc_rules.specs.Judging.{IsJudged}
use Rattle.pc_rules.specs.declared.sizes.Sizes.{Sizes}
use Rattle.pc_rules.specs.Verdicts.{IsJudgedText, no_program, name_broken, rule_broken}

source_said : (text : List ℕ) (f : Refusal) → IsRead text (Err f) → IsJudgedText text (Err f)
source_said text (Broken rule span) read = no_program read
source_said text Memory read = tt

pub source_refused : (text : List ℕ) (r : Result Program Refusal) (f : Refusal) → r ≡ Err f → IsRead text r → IsJudgedText text (Err f)
source_refused text r f is read =
    let P : Result Program Refusal → Type 0 = λ x. IsRead text x in source_said text f (subst P is read)

names_said : (text : List ℕ) (program : Program) (f : Refusal) → IsSource text program → IsResolved program (Err f) → IsJudgedText text (Err f)
names_said text program (Broken rule span) source first = name_broken program source first
names_said text program Memory source first = tt

pub names_refused : (text : List ℕ) (program : Program) (r : Result Typing Refusal) (f : Refusal) → r ≡ Err f → IsSource text program → IsResolved program r → IsJudgedText text (Err f)
names_refused text program r f is source resolved =
    let P : Result Typing Refusal → Type 0 = λ x. IsResolved program x in names_said text program f source (subst P is resolved)

rules_said : (text : List ℕ) (program : Program) (typing : Typing) (f : Refusal) → IsSource text program → Resolves program typing →
    IsJudged {A = Sizes} typing (Err f) → IsJudgedText text (Err f)
rules_said text program typing (Broken rule span) source resolved judged = rule_broken program typing source resolved judged
rules_said text program typing Memory source resolved judged = tt

pub rules_refused : (text : List ℕ) (program : Program) (typing : Typing) (r : Result Sizes Refusal) (f : Refusal) → r ≡ Err f → IsSource text program →
    Resolves program typing → IsJudged typing r → IsJudgedText text (Err f)
rules_refused text program typing r f is source resolved judged =
    let P : Result Sizes Refusal → Type 0 = λ x. IsJudged typing x in rules_said text program typing f source resolved (subst P is judged)
