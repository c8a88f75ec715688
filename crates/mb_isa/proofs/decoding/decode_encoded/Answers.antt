use Rattle.std.proofs.Common.{sym}
use Rattle.mb_isa.proofs.decoding.decode_encoded.Goals as goal

pub returns : goal.returns
returns c = c.decode.ensures.every _ c.encode.ensures.parts (sym c.encode.ensures.code)
