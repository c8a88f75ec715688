use Rattle.std.proofs.Common.{◌≡◌, Some, ap, sym, ◌∙◌}
use Rattle.mb_isa.specs.Codes.{code_of}
use Rattle.mb_isa.specs.Candidates.{candidate_for}
use Rattle.mb_isa.proofs.Inverse.{candidate_for-code_of}
use Rattle.mb_isa.proofs.decoding.decode.Goals as goal

pub returns-in_err-found-clause-every : goal.returns-in_err-found-clause-every
returns-in_err-found-clause-every c = λ i fits e. let p : c.candidate.result ≡ Some i = c.candidate.ensures ∙ ap candidate_for (sym e) ∙ candidate_for-code_of i fits in cc (p, c.in_err-found.was)

pub returns-then-encode-word-clause-every : goal.returns-then-encode-word-clause-every
returns-then-encode-word-clause-every c = λ i fits e. let p : c.candidate.result ≡ Some i = c.candidate.ensures ∙ ap candidate_for (sym e) ∙ candidate_for-code_of i fits in cc (p, c.in_ok-found.was)

pub returns-else-encode-word-clause-every : goal.returns-else-encode-word-clause-every
returns-else-encode-word-clause-every c = λ i fits e.
    let p : c.candidate.result ≡ Some i = c.candidate.ensures ∙ ap candidate_for (sym e) ∙ candidate_for-code_of i fits in
    let same : c.in_ok-found.found ≡ i = cc (p, c.in_ok-found.was) in
    absurd (c.if-encode-word.false (c.encode.ensures.code ∙ ap code_of same ∙ e))
