use Rattle.pc_parse.proofs.Plain.{fails_simple}
use Rattle.pc_parse.proofs.simple.simple_statement.Goals as goal

pub returns-in_default-statement_beginning : goal.returns-in_default-statement_beginning
returns-in_default-statement_beginning c = record {
  ok = tt;
  err = fails_simple c.args.source.now c.statement_beginning.result c.args.tokens.now c.in-Some.token c.in-Some.rest.now c.in-Some.ensures c.statement_beginning.ensures c.in_default-statement_beginning.not-Skip c.in_default-statement_beginning.not-Name c.in_default-statement_beginning.not-Eot c.in_default-statement_beginning.not-Par;
}
