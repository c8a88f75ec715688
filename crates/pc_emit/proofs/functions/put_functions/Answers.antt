use Rattle.std.proofs.Common.{◌≡◌, ◌+◌, List, ◌∷◌, length, map, drop, sym, ap, subst, ◌∙◌}
use Rattle.std.specs.List.{AllByRecursion}
use Rattle.pc_lower.specs.declared.nodes.Node.{Node}
use Rattle.pc_lower.specs.Trees.{read, flow_read}
use Rattle.pc_lower.specs.Numbering.{first_started}
use Rattle.pc_regs.specs.Writings.{NodeWritten}
use Rattle.pc_regs.specs.Words.{writing_of}
use Rattle.pc_emit.specs.Part.{joined}
use Rattle.pc_emit.specs.Image.{functions_code}
use Rattle.pc_emit.proofs.Places.{front}
use Rattle.pc_emit.proofs.Entrances.{function_more}
use Rattle.pc_emit.proofs.functions.put_functions.Goals as goal

pub loop-number-preserved : goal.loop-number-preserved
loop-number-preserved c =
    let w = writing_of c.args.placement in
    let es = c.args.entrances.now in
    let ss = c.args.slots.now in
    let first = first_started (flow_read c.args.flow.now) in
    let all = c.args.flow.now.bodies.items in
    let l = c.loop-number in
    let out = l.out in
    let n = c.node-item.result in
    let f : drop l.number all ≡ n ∷ drop (l.number + 1) all =
    subst (λ (xs : List Node). drop l.number xs ≡ n ∷ drop (l.number + 1) xs) c.deref-node-items.ensures.value
    (front c.deref-node-items.result.now l.number n c.loop-number-test.true c.node-item.is) in
    record {
      part =
          function_more w es ss first l.number out c.put_function.new.out (read n) (map read (drop (l.number + 1) all)) c.in_ok-put_function.ensures
          ∙ ap (λ (rest : List Node). joined out (functions_code w es ss first l.number (map read rest) (length out.words))) (sym f)
          ∙ l.invariant.part;
      written = (subst (λ (rest : List Node). AllByRecursion (NodeWritten w) (map read rest)) f l.invariant.written).1;
    }
