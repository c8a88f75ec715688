use Rattle.std.proofs.Common.{◌≡◌, ◌++◌, length, ap, ◌∙◌}
use Rattle.pc_grammar.specs.Places.{names_of}
use Rattle.pc_grammar.specs.Typing.{cells_of, cell_number, function_number, numbered_value, numbers_from, typed_locals}
use Rattle.pc_names.specs.Chains.{numbered_statements}
use Rattle.pc_names.specs.Names.{cell_in, function_in}
use Rattle.pc_names.proofs.Making.{function_added}
use Rattle.pc_names.proofs.functions.add_function.Goals as goal

pub returns : goal.returns
returns c =
    let f = c.in-Function in
    let all = c.args.threads.now in
    let before = c.args.known.now in
    let parameters = c.as_slice-parameters.ensures in
    let locals = c.as_slice-locals.ensures in
    let own = c.in_ok-own.ensures ∙ ap (λ ps. ps ++ names_of c.as_slice-locals.result.now) parameters ∙ ap (λ ls. f.parameters ++ names_of ls) locals in
    let cells = c.in_ok-parameter_cells.ensures ∙ ap (λ n. numbers_from n c.as_slice-parameters.result.now) c.cell_count.ensures ∙ ap (numbers_from (length (cells_of before))) parameters in
    let local_cells = c.in_ok-local_cells.ensures ∙ ap (λ ps. typed_locals before ps c.as_slice-locals.result.now) parameters ∙ ap (typed_locals before f.parameters) locals in
    let in_scope : c.in_ok-statements.field-0 ≡ numbered_statements (cell_number before c.in_ok-own.own) (function_number before) c.as_slice.result.now =
    c.in_ok-statements.ensures ∙ ap (λ s. numbered_statements (cell_in s) (function_in s) c.as_slice.result.now) c.of-scope.ensures in
    let value_in_scope : c.in_ok-value.field-0 ≡ numbered_value (cell_number before c.in_ok-own.own) f.result = c.in_ok-value.ensures ∙ ap (λ s. numbered_value (cell_in s) f.result) c.of-scope.ensures in
    let statements = in_scope ∙ ap (numbered_statements (cell_number before c.in_ok-own.own) (function_number before)) c.as_slice.ensures ∙ ap (λ ws. numbered_statements (cell_number before ws) (function_number before) f.body) own in
    let value = value_in_scope ∙ ap (λ ws. numbered_value (cell_number before ws) f.result) own in
    function_added all before c.args.item.now f.name f.gives f.parameters f.locals f.body f.result c.args.functions.now.items c.push.new.self.items c.in_ok-copy.field-0 c.is_thread.result
    c.in_ok-parameter_cells.field-0 c.in_ok-local_cells.field-0 c.in_ok-statements.field-0 c.in_ok-value.field-0 f.is c.in_ok-push.ensures.items c.in_ok-copy.ensures c.is_thread.ensures cells local_cells statements value
