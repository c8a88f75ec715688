use Rattle.pretc_top.proofs.Within.{means_within}
use Rattle.pretc_top.proofs.certifying.certify.Goals as goal

pub returns-in-Ok-analyse-clause-certified : goal.returns-in-Ok-analyse-clause-certified
returns-in-Ok-analyse-clause-certified c = record {
  compiled = c.in-Ok.ensures.compiled;
  priced = c.priced.ensures;
  form = c.in-Ok-analyse.ensures.in_form;
  certifies = c.in-Ok-analyse.ensures.certifies;
  means = means_within c.args.typed.now c.in-Ok.compiled.image c.args.costs.now c.in-Ok-analyse.cert.bound c.in-Ok.ensures.compiled c.priced.ensures c.in-Ok-analyse.ensures.certifies.runs;
}
