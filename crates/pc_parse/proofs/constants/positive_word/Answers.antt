use Rattle.std.proofs.Common.{◌∙◌, w32, FitsSigned, rules}
use Rattle.std.proofs.lemmas.Int.{to_z-of_z}
use Rattle.pt_base.proofs.WordFacts.{positive_is}
use Rattle.pc_parse.proofs.constants.positive_word.Goals as goal

pub returns : goal.returns
returns c =
    let fits : FitsSigned w32 c.wrapping_add_unsigned.result = search rules in
    to_z-of_z w32 c.wrapping_add_unsigned.result fits ∙ c.wrapping_add_unsigned.ensures ∙ positive_is c.args.value
