use Rattle.std.proofs.Common.{◌≡◌, ◌-◌, ℤ, pos, ℕ, List, [], ◌∷◌, ◌++◌, length, map, replicate, refl, sym, ap, ◌∙◌, rules}
use Rattle.std.specs.Prelude.{slice_index_or}
use Rattle.mb_isa.specs.Codes.{code_of}
use Rattle.pt_image.specs.declared.image.AbortLine.{AbortLine}
use Rattle.pt_image.specs.declared.image.Point.{Point}
use Rattle.pt_image.specs.declared.image.Parts.{Parts}
use Rattle.pc_lower.specs.declared.nodes.Node.{Node}
use Rattle.pc_lower.specs.Trees.{read, pairs_of, flow_read}
use Rattle.pc_lower.specs.Numbering.{generations, slots_of}
use Rattle.std.proofs.lemmas.List.{length-map}
use Rattle.pc_regs.specs.Placement.{memory_words}
use Rattle.pc_regs.specs.Words.{writing_of}
use Rattle.pc_emit.specs.Part.{Part}
use Rattle.pc_emit.specs.Code.{short}
use Rattle.pc_emit.specs.Image.{functions_size, abort_lines, entrances_of, whole_of}
use Rattle.pc_emit.proofs.image.parts.Goals as goal

-- lists that are the same make the same parts
parts_are : (code code' : List ℕ) (memory memory' : List ℤ) (inputs inputs' outputs outputs' slots slots' : List ℕ) (aborts aborts' : List AbortLine) (pauses pauses' forks forks' : List Point)
    → code ≡ code' → memory ≡ memory' → inputs ≡ inputs' → outputs ≡ outputs' → slots ≡ slots' → aborts ≡ aborts' → pauses ≡ pauses' → forks ≡ forks' →
    let p : Parts = record { code = code; memory = memory; inputs = inputs; outputs = outputs; slots = slots; aborts = aborts; pauses = pauses; forks = forks } in
    let q : Parts = record { code = code'; memory = memory'; inputs = inputs'; outputs = outputs'; slots = slots'; aborts = aborts'; pauses = pauses'; forks = forks' } in
    p ≡ q
parts_are code code' memory memory' inputs inputs' outputs outputs' slots slots' aborts aborts' pauses pauses' forks forks' c m i o s a p f = rw (c, m, i, o, s, a, p, f) refl

pub returns : goal.returns
returns c =
    let w = writing_of c.args.placement in
    let f = flow_read c.args.flow.now in
    let all : c.in_ok-out.out ≡ whole_of w f = c.in_ok-out.ensures.whole in
    let own = c.args.flow.now.main ∷ [] in
    let slots : c.deref-7.result.now ≡ slots_of f =
    c.deref-7.ensures.value ∙ c.in_ok-slots.ensures
    ∙ ap (λ (l : List Node). generations (map read l) (length l) own) c.deref.ensures.value
    ∙ ap (λ (n : ℕ). generations f.bodies n own) (sym (length-map c.args.flow.now.bodies.items read)) in
    let entrances : c.deref-6.result.now ≡ entrances_of w f = search rules in
    let code : c.of.result ≡ map code_of (whole_of w f).words = c.of.ensures ∙ c.in_ok-code.ensures ∙ ap (map code_of) (c.words.ensures ∙ ap (λ (p : Part). p.words) all) in
    let memory : c.of-2.result ≡ f.declared ++ replicate (memory_words c.args.placement - c.args.placement.cells) (pos 0) = search rules in
    let inputs : c.of-3.result ≡ f.inputs = search rules in
    let outputs : c.of-4.result ≡ f.outputs = search rules in
    let starts : c.of-5.result ≡ map (λ g. short (slice_index_or (entrances_of w f) g 0)) (slots_of f) =
    c.of-5.ensures ∙ c.in_ok-starts.ensures
    ∙ ap (λ es. map (λ g. short (slice_index_or es g 0)) c.deref-7.result.now) entrances
    ∙ ap (map (λ g. short (slice_index_or (entrances_of w f) g 0))) slots in
    let aborts : c.of-6.result ≡ abort_lines w f.aborts 0 (functions_size w f.bodies) (whole_of w f).handlers =
    c.of-6.ensures ∙ c.in_ok-aborts.ensures
    ∙ ap (λ l. abort_lines w (pairs_of l) 0 c.in_ok-out.start c.handlers.result.now) c.deref-5.ensures.value
    ∙ ap (λ n. abort_lines w f.aborts 0 n c.handlers.result.now) c.in_ok-out.ensures.start
    ∙ ap (abort_lines w f.aborts 0 (functions_size w f.bodies)) (c.handlers.ensures ∙ ap (λ (p : Part). p.handlers) all) in
    let pauses : c.points-pauses.result.0 ≡ (whole_of w f).pauses = c.points-pauses.ensures.0 ∙ ap (λ (p : Part). p.pauses) all in
    let forks : c.points-pauses.result.1 ≡ (whole_of w f).forks = c.points-pauses.ensures.1 ∙ ap (λ (p : Part). p.forks) all in
    parts_are _ _ _ _ _ _ _ _ _ _ _ _ _ _ _ _ code memory inputs outputs starts aborts pauses forks
