use Rattle.std.proofs.Common.{◌≡◌, ◌+◌, ℕ, List, [], length, ap, ◌∙◌, arith, length-append}
use Rattle.pc_lower.specs.declared.nodes.Abort.{Abort}
use Rattle.pc_lower.specs.Trees.{pairs_of, flow_read}
use Rattle.pc_lower.specs.Numbering.{first_started}
use Rattle.pc_regs.specs.Words.{writing_of}
use Rattle.pc_emit.specs.Part.{Part, joined, just}
use Rattle.pc_emit.specs.Image.{functions_size, functions_code, conditions_words, entrances_of}
use Rattle.pc_emit.proofs.Entrances.{functions_long}
use Rattle.pc_emit.proofs.image.whole.Goals as goal

pub returns-clause-start : goal.returns-clause-start
returns-clause-start c =
    let w = writing_of c.args.placement in
    let f = flow_read c.args.flow.now in
    let o = c.new-out.result in
    let fs = functions_code w c.args.entrances.now c.args.slots.now (first_started f) 0 f.bodies (length o.words) in
    let none : length o.words ≡ 0 = ap (λ (p : Part). length p.words) c.new-out.ensures in
    let size = functions_long w c.args.entrances.now c.args.slots.now (first_started f) f.bodies 0 (length o.words) in
    let sum : length o.words + length fs.words ≡ functions_size w f.bodies = omega (arith, none, size) in
    c.place-start.ensures ∙ ap (λ (p : Part). length p.words) c.in_ok-put_functions.ensures ∙ length-append o.words fs.words ∙ sum

pub returns-clause-whole : goal.returns-clause-whole
returns-clause-whole c =
    let w = writing_of c.args.placement in
    let f = flow_read c.args.flow.now in
    let es = c.args.entrances.now in
    let ss = c.args.slots.now in
    let first = first_started f in
    let behind = just (conditions_words w f.aborts) in
    let functions : c.put_functions.new.out ≡ joined (just []) (functions_code w es ss first 0 f.bodies 0) =
    c.in_ok-put_functions.ensures ∙ ap (λ (o : Part). joined o (functions_code w es ss first 0 f.bodies (length o.words))) c.new-out.ensures in
    c.in_ok-put_conditions.ensures
    ∙ ap (λ (l : List Abort). joined c.put_functions.new.out (just (conditions_words w (pairs_of l)))) c.deref.ensures.value
    ∙ ap (λ (p : Part). joined p behind) functions
    ∙ ap (λ (xs : List ℕ). joined (joined (just []) (functions_code w xs ss first 0 f.bodies 0)) behind) c.requires.entrances
    ∙ ap (λ (xs : List ℕ). joined (joined (just []) (functions_code w (entrances_of w f) xs first 0 f.bodies 0)) behind) c.requires.slots
