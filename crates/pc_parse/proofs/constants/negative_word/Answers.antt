use Rattle.std.proofs.Common.{◌∙◌, ◌<◌, w32, FitsSigned, rules}
use Rattle.std.proofs.lemmas.Int.{to_z-of_z}
use Rattle.pt_base.proofs.WordFacts.{negative_is}
use Rattle.pc_parse.proofs.constants.negative_word.Goals as goal

pub returns : goal.returns
returns c =
    let fits : FitsSigned w32 c.wrapping_sub_unsigned.result = search rules in
    let small : c.args.value < 4294967296 = search rules in
    to_z-of_z w32 c.wrapping_sub_unsigned.result fits ∙ c.wrapping_sub_unsigned.ensures ∙ negative_is c.args.value small
