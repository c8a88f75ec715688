use Rattle.std.proofs.Common.{◌≡◌, ◌+◌, List, [], ◌∷◌, ◌++◌, true, false, Option, Some, take, cond, sym, ap, subst, ◌∙◌, rules}
use Rattle.std.specs.Prelude.{is_some}
use Rattle.std.specs.Option.{option_map}
use Rattle.std.specs.HashMap.{get}
use Rattle.std.proofs.lemmas.List.{take_more}
use Rattle.pc_grammar.specs.declared.expressions.Word.{Word}
use Rattle.pc_grammar.specs.declared.programs.Item.{Item}
use Rattle.pc_grammar.specs.Places.{word_of, same_text}
use Rattle.pc_names.specs.Names.{FindsItems}
use Rattle.pc_names.proofs.Looking.{still_finds, newly_finds, is_some-map, map-cond}
use Rattle.pc_names.proofs.before.Before.with.Goals as goal
use Rattle.pc_names.proofs.before.Before.with.Goals.{then-not-contains_key+in_ok-insert, else-not-contains_key}

pub invariant_of-result : goal.invariant_of-result
invariant_of-result c =
    let old = c.self.inside in
    let place = c.args.place in
    let items : List Item = c.args.items.now in
    let item : Item = c.index-items-place.result in
    let now : Word → Option Item = λ v. option_map (λ i. i.now) (get same_text c.if-not-contains_key.first v) in
    let before : Word → Option Item = λ v. option_map (λ i. i.now) (get same_text old.first v) in
    let key : c.of-name.result ≡ word_of item = c.of-name.ensures ∙ c.name_of.ensures in
    let grown : take (place + 1) items ≡ old.items.now ++ item ∷ [] =
    take_more items place item c.requires.inside
    ∙ ap (λ i. take place items ++ i ∷ []) (sym c.index-items-place.is)
    ∙ ap (λ is. is ++ item ∷ []) (sym (c.self.view_is ∙ c.requires.before)) in
    let P : List Item → Type 0 = λ is. FindsItems now is in
    subst P (sym grown) (elim c.if-not-contains_key.branch [
      | then-not-contains_key+in_ok-insert w ↦
          let absent : is_some (get same_text old.first c.of-name.result) ≡ false = search rules in
          let unknown : is_some (before (word_of item)) ≡ false = ap (λ v. is_some (before v)) (sym key) ∙ is_some-map (λ i. i.now) (get same_text old.first c.of-name.result) ∙ absent in
          let updated : (v : Word) → now v ≡ cond (same_text (word_of item) v) (Some item) (before v) = λ v.
          ap (λ m. option_map (λ i. i.now) (get same_text m v)) w.first-is
          ∙ ap (option_map (λ i. i.now)) (w.in_ok-insert.ensures.updates.0 v)
          ∙ map-cond (λ i. i.now) (same_text c.of-name.result v) _ (get same_text old.first v)
          ∙ ap (λ n. cond (same_text n v) (Some item) (before v)) key in
          newly_finds before now old.items.now item c.self.invariant unknown updated
      | else-not-contains_key w ↦
          let present : is_some (get same_text c.if-not-contains_key.first c.of-name.result) ≡ true = search rules in
          let known : is_some (now (word_of item)) ≡ true = ap (λ v. is_some (now v)) (sym key) ∙ is_some-map (λ i. i.now) (get same_text c.if-not-contains_key.first c.of-name.result) ∙ present in
          still_finds now old.items.now item (subst (λ m. FindsItems (λ v. option_map (λ i. i.now) (get same_text m v)) old.items.now) (sym w.first-is) c.self.invariant) known
    ])
