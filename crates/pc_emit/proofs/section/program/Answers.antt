use Rattle.std.proofs.Common.{◌≡◌, ◌++◌, ℕ, List, [], ◌∷◌, length, map, sym, ap, ◌∙◌}
use Rattle.std.proofs.lemmas.List.{length-map}
use Rattle.pc_lower.specs.declared.nodes.Node.{Node}
use Rattle.pc_lower.specs.declared.nodes.Abort.{Abort}
use Rattle.pc_lower.specs.Trees.{read, pairs_of, flow_read}
use Rattle.pc_lower.specs.Numbering.{generations, slots_of, first_started}
use Rattle.tk_paths.specs.declared.trees.Section.{Section}
use Rattle.tk_paths.specs.Trees.{read_sections, program_of_sections}
use Rattle.pc_regs.specs.Words.{writing_of}
use Rattle.pc_emit.specs.Sections.{numbers_of}
use Rattle.pc_emit.specs.Made.{calls_from, numbers_by, made_functions, made_conditions, made_sections}
use Rattle.pc_emit.proofs.Making.{numbers-are, sections-read}
use Rattle.pc_emit.proofs.section.program.Goals as goal

pub returns : goal.returns
returns c =
    let w = writing_of c.args.placement in
    let f = flow_read c.args.flow.now in
    let own = c.args.flow.now.main ∷ [] in
    let first = first_started f in
    let slots : c.in_ok-slots.slots.items ≡ slots_of f =
    c.in_ok-slots.ensures
    ∙ ap (λ (l : List Node). generations (map read l) (length l) own) c.deref.ensures.value
    ∙ ap (λ (n : ℕ). generations f.bodies n own) (sym (length-map c.args.flow.now.bodies.items read)) in
    let called : c.in_ok-called.called.items ≡ calls_from (slots_of f) 0 f.bodies =
    c.in_ok-called.ensures
    ∙ ap (λ s. calls_from s 0 (map read c.deref-3.result.now)) (c.deref-2.ensures.value ∙ slots)
    ∙ ap (λ (l : List Node). calls_from (slots_of f) 0 (map read l)) c.deref-3.ensures.value in
    let numbers : c.in_ok-numbers.numbers.items ≡ numbers_of w f =
    c.in_ok-numbers.ensures
    ∙ ap (λ s. numbers_by s 0 0 c.deref-5.result.now) (c.deref-4.ensures.value ∙ slots)
    ∙ ap (numbers_by (slots_of f) 0 0) (c.deref-5.ensures.value ∙ called)
    ∙ numbers-are (slots_of f) 0 0 f.bodies in
    let here = made_functions w (numbers_of w f) (slots_of f) first 0 f.bodies 0 in
    let functions : c.put_functions.new.all.items ≡ here =
    c.in_ok-start.ensures.sections
    ∙ ap (λ (l : List Section). l ++ made_functions w c.deref-6.result.now c.deref-7.result.now first 0 f.bodies 0) c.new-all.ensures.items
    ∙ ap (λ s. made_functions w s c.deref-7.result.now first 0 f.bodies 0) (c.deref-6.ensures.value ∙ numbers)
    ∙ ap (λ s. made_functions w (numbers_of w f) s first 0 f.bodies 0) (c.deref-7.ensures.value ∙ slots) in
    let all : c.put_conditions.new.all.items ≡ made_sections w f =
    c.in_ok-put_conditions.ensures
    ∙ ap (λ (l : List Section). l ++ made_conditions w (pairs_of c.deref-9.result.now) c.in_ok-start.start) functions
    ∙ ap (λ (l : List Abort). here ++ made_conditions w (pairs_of l) c.in_ok-start.start) c.deref-9.ensures.value
    ∙ ap (λ n. here ++ made_conditions w f.aborts n) c.in_ok-start.ensures.place in
    ap (λ (l : List Section). program_of_sections (read_sections [] l)) all ∙ ap program_of_sections (sections-read w f)
