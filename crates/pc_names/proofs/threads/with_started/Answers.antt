use Rattle.std.proofs.Common.{◌&&◌, ap, sym, ◌∙◌}
use Rattle.std.specs.Prelude.{not}
use Rattle.pc_grammar.specs.Places.{is_start}
use Rattle.pc_names.specs.Started.{is_own}
use Rattle.indexmap.specs.IndexSet.{insert_key}
use Rattle.pc_grammar.specs.Places.{same_text}
use Rattle.pc_names.proofs.Sets.{among_started}
use Rattle.pc_names.proofs.threads.with_started.Goals as goal

pub returns : goal.returns
returns c =
    among_started c.args.names c.insert.new.self c.args.site.now.word (is_start c.args.site.now.role && not (is_own c.args.site.now.found)) (sym c.if-not-starts_item.ensures)
    (c.in_ok-insert.ensures.names ∙ ap (insert_key same_text c.args.names) c.word.ensures)
