use Rattle.std.proofs.Common.{◌≡◌, ◌≤◌, ◌++◌, List, [], ◌∷◌, drop, length, map, refl, sym, ap, ◌∙◌, arith, append_assoc}
use mathlib.Core.Path.{ap₂}
use Rattle.std.proofs.lemmas.List.{drop_all}
use Rattle.tk_paths.specs.declared.trees.Code.{Code as Kept}
use Rattle.tk_paths.specs.Codes.{Code, Either, Turns, Forever, Resting, Forking, Guarded}
use Rattle.tk_paths.specs.Numbers.{Numbers, thread, stack_of, line, after, entered, code_lines, code_weights}
use Rattle.tk_paths.specs.Programs.{pair_from}
use Rattle.tk_paths.specs.Trees.{read_code, codes_from}
use Rattle.tk_paths.proofs.Readings.{read-Sequence, read-Either, read-Turns, read-Forever, read-Resting, read-Forking, read-Guarded}
use Rattle.tk_numbers.specs.Charges.{routines_in}
use Rattle.tk_paths.specs.Levels.{numbers_of}
use Rattle.tk_threads.specs.Codes.{entered_all, lines_all, weights_all}
use Rattle.tk_threads.proofs.EntranceLaws.{front, pausing-is, forking-is-entered, entered-all, entered-either, entered-turns, entered-guarded}
use Rattle.tk_threads.proofs.LineLaws.{lines-all, lines-more, lines-either, lines-turns, lines-forever, lines-guarded, weights-all}
use Rattle.std.proofs.lemmas.Result.{err_from_is_err_and}
use Rattle.tk_paths.specs.Codes.{exit}
use Rattle.tk_paths.specs.Numbers.{jumping}
use Rattle.tk_numbers.specs.Charges.{testing_cost}
use Rattle.tk_threads.proofs.SmallLaws.{entry-behind, code-read, code-behind, code-inside, code-part, numbers-small, test-room}
use Rattle.tk_threads.proofs.codes.+code_lines.Goals as goal

pub loop-rest-init : goal.loop-rest-init
loop-rest-init t c =
    let R = routines_in c.args.before.now in
    let I = c.args.image.now in
    let K = c.args.costs.now in
    let S = pair_from c.args.first c.args.starts.now in
    let A = c.args.aborts.now in
    let V = numbers_of c.args.behind.now in
    let s = c.args.slot in
    let old = c.args.made.now in
    let codes = c.as_slice-codes.result.now in
    let none : drop (length codes) codes ≡ [] = drop_all (length codes) codes (omega arith) in
    record {
      within = omega arith;
      numbers = c.in_ok-levels-in-Sequence.ensures.exact ∙ ap (λ (cs : List Kept). entered_all I K S A (map (read_code R) cs) V) (sym none);
      lines = ap (λ (cs : List Kept). lines_all I K S s A (map (read_code R) cs) V ++ old.lines) (sym none);
      weights = ap (λ (cs : List Kept). weights_all I K (map (read_code R) cs) ++ old.weights) (sym none);
    }

pub loop-rest-preserved : goal.loop-rest-preserved
loop-rest-preserved t c =
    let R = routines_in c.args.before.now in
    let I = c.args.image.now in
    let K = c.args.costs.now in
    let S = pair_from c.args.first c.args.starts.now in
    let A = c.args.aborts.now in
    let V = numbers_of c.args.behind.now in
    let s = c.args.slot in
    let old = c.args.made.now in
    let l = c.loop-rest in
    let codes = c.as_slice-codes.result.now in
    let part = c.index-codes-rest.result in
    let tail = map (read_code R) (drop l.rest codes) in
    let within = l.invariant.within in
    let some : 1 ≤ l.rest = omega arith in
    let one = front codes l.rest part some within c.index-codes-rest.is in
    let told = c.in_ok-levels-in-Sequence-2.ensures in
    record {
      within = omega arith;
      numbers =
          told.numbers ∙ ap (entered I K S A (read_code R part)) l.invariant.numbers
          ∙ ap (λ (cs : List Kept). entered_all I K S A (map (read_code R) cs) V) (sym one);
      lines =
          lines-more I K S s A (read_code R part) tail V (numbers_of l.levels) old.lines l.made.lines _ l.invariant.numbers l.invariant.lines told.lines
          ∙ ap (λ (cs : List Kept). lines_all I K S s A (map (read_code R) cs) V ++ old.lines) (sym one);
      weights =
          told.weights ∙ ap (λ w. code_weights I K (read_code R part) ++ w) l.invariant.weights
          ∙ sym (append_assoc (code_weights I K (read_code R part)) (weights_all I K tail) old.weights)
          ∙ ap (λ (cs : List Kept). weights_all I K (map (read_code R) cs) ++ old.weights) (sym one);
    }

pub returns-after-loop-rest-clause-numbers : goal.returns-after-loop-rest-clause-numbers
returns-after-loop-rest-clause-numbers t c =
    let R = routines_in c.args.before.now in
    let I = c.args.image.now in
    let K = c.args.costs.now in
    let S = pair_from c.args.first c.args.starts.now in
    let A = c.args.aborts.now in
    let V = numbers_of c.args.behind.now in
    let s = c.args.slot in
    let old = c.args.made.now in
    let l = c.loop-rest in
    let e = c.in-Sequence in
    let codes = c.as_slice-codes.result.now in
    let zero : l.rest ≡ 0 = omega arith in
    let is : read_code R c.args.code.now ≡ codes_from e.to (map (read_code R) codes) =
    ap (read_code R) e.is ∙ read-Sequence R e.parts e.to
    ∙ ap (λ (cs : List Kept). codes_from e.to (map (read_code R) cs)) (sym c.as_slice-codes.ensures) in
    l.invariant.numbers
    ∙ ap (λ i. entered_all I K S A (map (read_code R) (drop i codes)) V) zero
    ∙ sym (entered-all I K S A e.to (map (read_code R) codes) V)
    ∙ ap (λ (d : Code). entered I K S A d V) (sym is)

pub returns-after-loop-rest-clause-lines : goal.returns-after-loop-rest-clause-lines
returns-after-loop-rest-clause-lines t c =
    let R = routines_in c.args.before.now in
    let I = c.args.image.now in
    let K = c.args.costs.now in
    let S = pair_from c.args.first c.args.starts.now in
    let A = c.args.aborts.now in
    let V = numbers_of c.args.behind.now in
    let s = c.args.slot in
    let old = c.args.made.now in
    let l = c.loop-rest in
    let e = c.in-Sequence in
    let codes = c.as_slice-codes.result.now in
    let zero : l.rest ≡ 0 = omega arith in
    let is : read_code R c.args.code.now ≡ codes_from e.to (map (read_code R) codes) =
    ap (read_code R) e.is ∙ read-Sequence R e.parts e.to
    ∙ ap (λ (cs : List Kept). codes_from e.to (map (read_code R) cs)) (sym c.as_slice-codes.ensures) in
    l.invariant.lines
    ∙ ap (λ i. lines_all I K S s A (map (read_code R) (drop i codes)) V ++ old.lines) zero
    ∙ ap (λ w. w ++ old.lines) (sym (lines-all I K S s A e.to (map (read_code R) codes) V))
    ∙ ap (λ (d : Code). code_lines I K S s A d V ++ old.lines) (sym is)

pub returns-after-loop-rest-clause-weights : goal.returns-after-loop-rest-clause-weights
returns-after-loop-rest-clause-weights t c =
    let R = routines_in c.args.before.now in
    let I = c.args.image.now in
    let K = c.args.costs.now in
    let S = pair_from c.args.first c.args.starts.now in
    let A = c.args.aborts.now in
    let V = numbers_of c.args.behind.now in
    let s = c.args.slot in
    let old = c.args.made.now in
    let l = c.loop-rest in
    let e = c.in-Sequence in
    let codes = c.as_slice-codes.result.now in
    let zero : l.rest ≡ 0 = omega arith in
    let is : read_code R c.args.code.now ≡ codes_from e.to (map (read_code R) codes) =
    ap (read_code R) e.is ∙ read-Sequence R e.parts e.to
    ∙ ap (λ (cs : List Kept). codes_from e.to (map (read_code R) cs)) (sym c.as_slice-codes.ensures) in
    l.invariant.weights
    ∙ ap (λ i. weights_all I K (map (read_code R) (drop i codes)) ++ old.weights) zero
    ∙ ap (λ w. w ++ old.weights) (sym (weights-all I K e.to (map (read_code R) codes)))
    ∙ ap (λ (d : Code). code_weights I K d ++ old.weights) (sym is)

pub returns-in_ok-levels-in-Either-clause-numbers : goal.returns-in_ok-levels-in-Either-clause-numbers
returns-in_ok-levels-in-Either-clause-numbers t c =
    let R = routines_in c.args.before.now in
    let I = c.args.image.now in
    let K = c.args.costs.now in
    let S = pair_from c.args.first c.args.starts.now in
    let A = c.args.aborts.now in
    let V = numbers_of c.args.behind.now in
    let s = c.args.slot in
    let old = c.args.made.now in
    let e = c.in-Either in
    let x = read_code R c.get-near.result.now in
    let y = read_code R c.get-far.result.now in
    let is : read_code R c.args.code.now ≡ Either e.from e.count e.branch x y =
    ap (read_code R) e.is ∙ read-Either R e.from e.count e.branch e.untaken e.taken
    ∙ ap₂ (λ (a b : Kept). Either e.from e.count e.branch (read_code R a) (read_code R b)) (sym c.get-near.ensures) (sym c.get-far.ensures) in
    let J = numbers_of c.in_ok-back-in-Either.back in
    let one = c.in_ok-one-in-Either in
    let other = c.in_ok-other-in-Either in
    let back = c.in_ok-back-in-Either in
    let last = c.in_ok-levels-in-Either in
    last.ensures.numbers
    ∙ entered-either I K S A e.from e.count e.branch x y V J (numbers_of one.one) (numbers_of other.other) back.ensures.numbers one.ensures.numbers other.ensures.numbers
    ∙ ap (λ (d : Code). entered I K S A d V) (sym is)

pub returns-in_ok-levels-in-Either-clause-lines : goal.returns-in_ok-levels-in-Either-clause-lines
returns-in_ok-levels-in-Either-clause-lines t c =
    let R = routines_in c.args.before.now in
    let I = c.args.image.now in
    let K = c.args.costs.now in
    let S = pair_from c.args.first c.args.starts.now in
    let A = c.args.aborts.now in
    let V = numbers_of c.args.behind.now in
    let s = c.args.slot in
    let old = c.args.made.now in
    let e = c.in-Either in
    let x = read_code R c.get-near.result.now in
    let y = read_code R c.get-far.result.now in
    let is : read_code R c.args.code.now ≡ Either e.from e.count e.branch x y =
    ap (read_code R) e.is ∙ read-Either R e.from e.count e.branch e.untaken e.taken
    ∙ ap₂ (λ (a b : Kept). Either e.from e.count e.branch (read_code R a) (read_code R b)) (sym c.get-near.ensures) (sym c.get-far.ensures) in
    let J = numbers_of c.in_ok-back-in-Either.back in
    let one = c.in_ok-one-in-Either in
    let other = c.in_ok-other-in-Either in
    let back = c.in_ok-back-in-Either in
    let last = c.in_ok-levels-in-Either in
    lines-either I K S s A e.from e.count e.branch x y V J (numbers_of one.one) (numbers_of other.other) old.lines _ _ _ _
    back.ensures.numbers one.ensures.numbers other.ensures.numbers other.ensures.lines back.ensures.lines one.ensures.lines last.ensures.lines
    ∙ ap (λ (d : Code). code_lines I K S s A d V ++ old.lines) (sym is)

pub returns-in_ok-levels-in-Either-clause-weights : goal.returns-in_ok-levels-in-Either-clause-weights
returns-in_ok-levels-in-Either-clause-weights t c =
    let R = routines_in c.args.before.now in
    let I = c.args.image.now in
    let K = c.args.costs.now in
    let S = pair_from c.args.first c.args.starts.now in
    let A = c.args.aborts.now in
    let V = numbers_of c.args.behind.now in
    let s = c.args.slot in
    let old = c.args.made.now in
    let e = c.in-Either in
    let x = read_code R c.get-near.result.now in
    let y = read_code R c.get-far.result.now in
    let is : read_code R c.args.code.now ≡ Either e.from e.count e.branch x y =
    ap (read_code R) e.is ∙ read-Either R e.from e.count e.branch e.untaken e.taken
    ∙ ap₂ (λ (a b : Kept). Either e.from e.count e.branch (read_code R a) (read_code R b)) (sym c.get-near.ensures) (sym c.get-far.ensures) in
    let J = numbers_of c.in_ok-back-in-Either.back in
    let one = c.in_ok-one-in-Either in
    let other = c.in_ok-other-in-Either in
    let back = c.in_ok-back-in-Either in
    let last = c.in_ok-levels-in-Either in
    last.ensures.weights ∙ one.ensures.weights ∙ ap (λ w. code_weights I K x ++ w) (back.ensures.weights ∙ other.ensures.weights)
    ∙ sym (append_assoc (code_weights I K x) (code_weights I K y) old.weights)
    ∙ ap (λ (d : Code). code_weights I K d ++ old.weights) (sym is)

pub returns-in_ok-levels-in-Turns-clause-numbers : goal.returns-in_ok-levels-in-Turns-clause-numbers
returns-in_ok-levels-in-Turns-clause-numbers t c =
    let R = routines_in c.args.before.now in
    let I = c.args.image.now in
    let K = c.args.costs.now in
    let S = pair_from c.args.first c.args.starts.now in
    let A = c.args.aborts.now in
    let V = numbers_of c.args.behind.now in
    let s = c.args.slot in
    let old = c.args.made.now in
    let e = c.in-Turns in
    let x = read_code R c.get-inner.result.now in
    let is : read_code R c.args.code.now ≡ Turns e.from e.count e.branch x e.to =
    ap (read_code R) e.is ∙ read-Turns R e.from e.count e.branch e.body e.to
    ∙ ap (λ (a : Kept). Turns e.from e.count e.branch (read_code R a) e.to) (sym c.get-inner.ensures) in
    let N = numbers_of c.nothing-none.result in
    let one = c.in_ok-one-in-Turns in
    let head = c.in_ok-head-in-Turns in
    let back = c.in_ok-back-in-Turns in
    let again = c.in_ok-_again-in-Turns in
    let last = c.in_ok-levels-in-Turns in
    last.ensures.numbers
    ∙ entered-turns I K S A e.from e.count e.branch x e.to V N (numbers_of one.one) c.nothing-none.ensures one.ensures.exact
    ∙ ap (λ (d : Code). entered I K S A d V) (sym is)

pub returns-in_ok-levels-in-Turns-clause-lines : goal.returns-in_ok-levels-in-Turns-clause-lines
returns-in_ok-levels-in-Turns-clause-lines t c =
    let R = routines_in c.args.before.now in
    let I = c.args.image.now in
    let K = c.args.costs.now in
    let S = pair_from c.args.first c.args.starts.now in
    let A = c.args.aborts.now in
    let V = numbers_of c.args.behind.now in
    let s = c.args.slot in
    let old = c.args.made.now in
    let e = c.in-Turns in
    let x = read_code R c.get-inner.result.now in
    let is : read_code R c.args.code.now ≡ Turns e.from e.count e.branch x e.to =
    ap (read_code R) e.is ∙ read-Turns R e.from e.count e.branch e.body e.to
    ∙ ap (λ (a : Kept). Turns e.from e.count e.branch (read_code R a) e.to) (sym c.get-inner.ensures) in
    let N = numbers_of c.nothing-none.result in
    let one = c.in_ok-one-in-Turns in
    let head = c.in_ok-head-in-Turns in
    let back = c.in_ok-back-in-Turns in
    let again = c.in_ok-_again-in-Turns in
    let last = c.in_ok-levels-in-Turns in
    lines-turns I K S s A e.from e.count e.branch x e.to V N (numbers_of one.one) (numbers_of head.head) (numbers_of back.back) old.lines _ _ _
    c.nothing-none.ensures one.ensures.exact head.ensures.exact back.ensures.numbers back.ensures.lines again.ensures.lines last.ensures.lines
    ∙ ap (λ (d : Code). code_lines I K S s A d V ++ old.lines) (sym is)

pub returns-in_ok-levels-in-Turns-clause-weights : goal.returns-in_ok-levels-in-Turns-clause-weights
returns-in_ok-levels-in-Turns-clause-weights t c =
    let R = routines_in c.args.before.now in
    let I = c.args.image.now in
    let K = c.args.costs.now in
    let S = pair_from c.args.first c.args.starts.now in
    let A = c.args.aborts.now in
    let V = numbers_of c.args.behind.now in
    let s = c.args.slot in
    let old = c.args.made.now in
    let e = c.in-Turns in
    let x = read_code R c.get-inner.result.now in
    let is : read_code R c.args.code.now ≡ Turns e.from e.count e.branch x e.to =
    ap (read_code R) e.is ∙ read-Turns R e.from e.count e.branch e.body e.to
    ∙ ap (λ (a : Kept). Turns e.from e.count e.branch (read_code R a) e.to) (sym c.get-inner.ensures) in
    let N = numbers_of c.nothing-none.result in
    let one = c.in_ok-one-in-Turns in
    let head = c.in_ok-head-in-Turns in
    let back = c.in_ok-back-in-Turns in
    let again = c.in_ok-_again-in-Turns in
    let last = c.in_ok-levels-in-Turns in
    last.ensures.weights ∙ again.ensures.weights ∙ ap (λ w. code_weights I K x ++ w) back.ensures.weights
    ∙ ap (λ (d : Code). code_weights I K d ++ old.weights) (sym is)

pub returns-in_ok-_again-in-Forever-clause-numbers : goal.returns-in_ok-_again-in-Forever-clause-numbers
returns-in_ok-_again-in-Forever-clause-numbers t c =
    let R = routines_in c.args.before.now in
    let I = c.args.image.now in
    let K = c.args.costs.now in
    let S = pair_from c.args.first c.args.starts.now in
    let A = c.args.aborts.now in
    let V = numbers_of c.args.behind.now in
    let s = c.args.slot in
    let old = c.args.made.now in
    let e = c.in-Forever in
    let x = read_code R c.get-inner-in-Forever.result.now in
    let is : read_code R c.args.code.now ≡ Forever x e.to =
    ap (read_code R) e.is ∙ read-Forever R e.body e.to ∙ ap (λ (a : Kept). Forever (read_code R a) e.to) (sym c.get-inner-in-Forever.ensures) in
    let N = numbers_of c.nothing-none-in-Forever.result in
    let head = c.in_ok-levels-in-Forever in
    let back = c.in_ok-back-in-Forever in
    let again = c.in_ok-_again-in-Forever in
    head.ensures.exact ∙ ap (entered I K S A x) c.nothing-none-in-Forever.ensures
    ∙ ap (λ (d : Code). entered I K S A d V) (sym is)

pub returns-in_ok-_again-in-Forever-clause-lines : goal.returns-in_ok-_again-in-Forever-clause-lines
returns-in_ok-_again-in-Forever-clause-lines t c =
    let R = routines_in c.args.before.now in
    let I = c.args.image.now in
    let K = c.args.costs.now in
    let S = pair_from c.args.first c.args.starts.now in
    let A = c.args.aborts.now in
    let V = numbers_of c.args.behind.now in
    let s = c.args.slot in
    let old = c.args.made.now in
    let e = c.in-Forever in
    let x = read_code R c.get-inner-in-Forever.result.now in
    let is : read_code R c.args.code.now ≡ Forever x e.to =
    ap (read_code R) e.is ∙ read-Forever R e.body e.to ∙ ap (λ (a : Kept). Forever (read_code R a) e.to) (sym c.get-inner-in-Forever.ensures) in
    let N = numbers_of c.nothing-none-in-Forever.result in
    let head = c.in_ok-levels-in-Forever in
    let back = c.in_ok-back-in-Forever in
    let again = c.in_ok-_again-in-Forever in
    lines-forever I K S s A x e.to V N (numbers_of head.levels) (numbers_of back.back) old.lines _ _
    c.nothing-none-in-Forever.ensures head.ensures.exact back.ensures.numbers back.ensures.lines again.ensures.lines
    ∙ ap (λ (d : Code). code_lines I K S s A d V ++ old.lines) (sym is)

pub returns-in_ok-_again-in-Forever-clause-weights : goal.returns-in_ok-_again-in-Forever-clause-weights
returns-in_ok-_again-in-Forever-clause-weights t c =
    let R = routines_in c.args.before.now in
    let I = c.args.image.now in
    let K = c.args.costs.now in
    let S = pair_from c.args.first c.args.starts.now in
    let A = c.args.aborts.now in
    let V = numbers_of c.args.behind.now in
    let s = c.args.slot in
    let old = c.args.made.now in
    let e = c.in-Forever in
    let x = read_code R c.get-inner-in-Forever.result.now in
    let is : read_code R c.args.code.now ≡ Forever x e.to =
    ap (read_code R) e.is ∙ read-Forever R e.body e.to ∙ ap (λ (a : Kept). Forever (read_code R a) e.to) (sym c.get-inner-in-Forever.ensures) in
    let N = numbers_of c.nothing-none-in-Forever.result in
    let head = c.in_ok-levels-in-Forever in
    let back = c.in_ok-back-in-Forever in
    let again = c.in_ok-_again-in-Forever in
    again.ensures.weights ∙ ap (λ w. code_weights I K x ++ w) back.ensures.weights
    ∙ ap (λ (d : Code). code_weights I K d ++ old.weights) (sym is)

pub returns-in_ok-put_place-in-Guarded-2-clause-numbers : goal.returns-in_ok-put_place-in-Guarded-2-clause-numbers
returns-in_ok-put_place-in-Guarded-2-clause-numbers t c =
    let R = routines_in c.args.before.now in
    let I = c.args.image.now in
    let K = c.args.costs.now in
    let S = pair_from c.args.first c.args.starts.now in
    let A = c.args.aborts.now in
    let V = numbers_of c.args.behind.now in
    let s = c.args.slot in
    let old = c.args.made.now in
    let e = c.in-Guarded in
    let x = read_code R c.get-inner-in-Guarded.result.now in
    let is : read_code R c.args.code.now ≡ Guarded e.place e.number x =
    ap (read_code R) e.is ∙ read-Guarded R e.place e.number e.body
    ∙ ap (λ (a : Kept). Guarded e.place e.number (read_code R a)) (sym c.get-inner-in-Guarded.ensures) in
    let B = c.as_slice-all.result.now in
    let deeper = c.as_slice-all.ensures.value ∙ c.in_ok-deeper-in-Guarded.ensures.exact in
    let last = c.in_ok-last-in-Guarded in
    let inside = c.in_ok-inside-in-Guarded in
    let levels = c.in_ok-levels-in-Guarded in
    let close = c.in_ok-put_place-in-Guarded in
    let top = c.in_ok-put_place-in-Guarded-2 in
    let paid = levels.ensures.exact ∙ ap (λ n. after n (numbers_of inside.inside)) c.cost.ensures.cost in
    paid ∙ entered-guarded I K S A B e.place e.number x V (numbers_of last.last) (numbers_of inside.inside) deeper last.ensures.exact inside.ensures.numbers
    ∙ ap (λ (d : Code). entered I K S A d V) (sym is)

pub returns-in_ok-put_place-in-Guarded-2-clause-lines : goal.returns-in_ok-put_place-in-Guarded-2-clause-lines
returns-in_ok-put_place-in-Guarded-2-clause-lines t c =
    let R = routines_in c.args.before.now in
    let I = c.args.image.now in
    let K = c.args.costs.now in
    let S = pair_from c.args.first c.args.starts.now in
    let A = c.args.aborts.now in
    let V = numbers_of c.args.behind.now in
    let s = c.args.slot in
    let old = c.args.made.now in
    let e = c.in-Guarded in
    let x = read_code R c.get-inner-in-Guarded.result.now in
    let is : read_code R c.args.code.now ≡ Guarded e.place e.number x =
    ap (read_code R) e.is ∙ read-Guarded R e.place e.number e.body
    ∙ ap (λ (a : Kept). Guarded e.place e.number (read_code R a)) (sym c.get-inner-in-Guarded.ensures) in
    let B = c.as_slice-all.result.now in
    let deeper = c.as_slice-all.ensures.value ∙ c.in_ok-deeper-in-Guarded.ensures.exact in
    let last = c.in_ok-last-in-Guarded in
    let inside = c.in_ok-inside-in-Guarded in
    let levels = c.in_ok-levels-in-Guarded in
    let close = c.in_ok-put_place-in-Guarded in
    let top = c.in_ok-put_place-in-Guarded-2 in
    let paid = levels.ensures.exact ∙ ap (λ n. after n (numbers_of inside.inside)) c.cost.ensures.cost in
    lines-guarded I K S s A B e.place e.number x V (numbers_of last.last) (numbers_of inside.inside) (numbers_of levels.levels) old.lines _ _ _
    deeper last.ensures.exact inside.ensures.numbers paid close.ensures.lines inside.ensures.lines top.ensures.lines
    ∙ ap (λ (d : Code). code_lines I K S s A d V ++ old.lines) (sym is)

pub returns-in_ok-put_place-in-Guarded-2-clause-weights : goal.returns-in_ok-put_place-in-Guarded-2-clause-weights
returns-in_ok-put_place-in-Guarded-2-clause-weights t c =
    let R = routines_in c.args.before.now in
    let I = c.args.image.now in
    let K = c.args.costs.now in
    let S = pair_from c.args.first c.args.starts.now in
    let A = c.args.aborts.now in
    let V = numbers_of c.args.behind.now in
    let s = c.args.slot in
    let old = c.args.made.now in
    let e = c.in-Guarded in
    let x = read_code R c.get-inner-in-Guarded.result.now in
    let is : read_code R c.args.code.now ≡ Guarded e.place e.number x =
    ap (read_code R) e.is ∙ read-Guarded R e.place e.number e.body
    ∙ ap (λ (a : Kept). Guarded e.place e.number (read_code R a)) (sym c.get-inner-in-Guarded.ensures) in
    let B = c.as_slice-all.result.now in
    let deeper = c.as_slice-all.ensures.value ∙ c.in_ok-deeper-in-Guarded.ensures.exact in
    let last = c.in_ok-last-in-Guarded in
    let inside = c.in_ok-inside-in-Guarded in
    let levels = c.in_ok-levels-in-Guarded in
    let close = c.in_ok-put_place-in-Guarded in
    let top = c.in_ok-put_place-in-Guarded-2 in
    let paid = levels.ensures.exact ∙ ap (λ n. after n (numbers_of inside.inside)) c.cost.ensures.cost in
    top.ensures.weights ∙ inside.ensures.weights ∙ ap (λ w. code_weights I K x ++ w) close.ensures.weights
    ∙ ap (λ (d : Code). code_weights I K d ++ old.weights) (sym is)

pub returns-in_ok-put_place-in-Resting-clause-numbers : goal.returns-in_ok-put_place-in-Resting-clause-numbers
returns-in_ok-put_place-in-Resting-clause-numbers t c =
    let R = routines_in c.args.before.now in
    let I = c.args.image.now in
    let K = c.args.costs.now in
    let S = pair_from c.args.first c.args.starts.now in
    let A = c.args.aborts.now in
    let V = numbers_of c.args.behind.now in
    let s = c.args.slot in
    let old = c.args.made.now in
    let e = c.in-Resting in
    let is : read_code R c.args.code.now ≡ Resting e.field-0 = ap (read_code R) e.is ∙ read-Resting R e.field-0 in
    let levels = c.in_ok-levels-in-Resting in
    let put = c.in_ok-put_place-in-Resting in
    levels.ensures.exact ∙ pausing-is I K S A e.field-0 V
    ∙ ap (λ (d : Code). entered I K S A d V) (sym is)

pub returns-in_ok-put_place-in-Resting-clause-lines : goal.returns-in_ok-put_place-in-Resting-clause-lines
returns-in_ok-put_place-in-Resting-clause-lines t c =
    let R = routines_in c.args.before.now in
    let I = c.args.image.now in
    let K = c.args.costs.now in
    let S = pair_from c.args.first c.args.starts.now in
    let A = c.args.aborts.now in
    let V = numbers_of c.args.behind.now in
    let s = c.args.slot in
    let old = c.args.made.now in
    let e = c.in-Resting in
    let is : read_code R c.args.code.now ≡ Resting e.field-0 = ap (read_code R) e.is ∙ read-Resting R e.field-0 in
    let levels = c.in_ok-levels-in-Resting in
    let put = c.in_ok-put_place-in-Resting in
    put.ensures.lines
    ∙ ap (λ (L : Numbers). line (thread s (stack_of A) []) L ∷ old.lines) (levels.ensures.exact ∙ pausing-is I K S A e.field-0 V)
    ∙ ap (λ (d : Code). code_lines I K S s A d V ++ old.lines) (sym is)

pub returns-in_ok-put_place-in-Resting-clause-weights : goal.returns-in_ok-put_place-in-Resting-clause-weights
returns-in_ok-put_place-in-Resting-clause-weights t c =
    let R = routines_in c.args.before.now in
    let I = c.args.image.now in
    let K = c.args.costs.now in
    let S = pair_from c.args.first c.args.starts.now in
    let A = c.args.aborts.now in
    let V = numbers_of c.args.behind.now in
    let s = c.args.slot in
    let old = c.args.made.now in
    let e = c.in-Resting in
    let is : read_code R c.args.code.now ≡ Resting e.field-0 = ap (read_code R) e.is ∙ read-Resting R e.field-0 in
    let levels = c.in_ok-levels-in-Resting in
    let put = c.in_ok-put_place-in-Resting in
    put.ensures.weights
    ∙ ap (λ (d : Code). code_weights I K d ++ old.weights) (sym is)

pub returns-in_ok-put_place-in-Forking-clause-numbers : goal.returns-in_ok-put_place-in-Forking-clause-numbers
returns-in_ok-put_place-in-Forking-clause-numbers t c =
    let R = routines_in c.args.before.now in
    let I = c.args.image.now in
    let K = c.args.costs.now in
    let S = pair_from c.args.first c.args.starts.now in
    let A = c.args.aborts.now in
    let V = numbers_of c.args.behind.now in
    let s = c.args.slot in
    let old = c.args.made.now in
    let e = c.in-Forking in
    let is : read_code R c.args.code.now ≡ Forking e.place e.low e.count =
    ap (read_code R) e.is ∙ read-Forking R e.place e.low e.count in
    let levels = c.in_ok-levels-in-Forking in
    let put = c.in_ok-put_place-in-Forking in
    levels.ensures.exact ∙ forking-is-entered I K S A e.place e.low e.count V
    ∙ ap (λ (d : Code). entered I K S A d V) (sym is)

pub returns-in_ok-put_place-in-Forking-clause-lines : goal.returns-in_ok-put_place-in-Forking-clause-lines
returns-in_ok-put_place-in-Forking-clause-lines t c =
    let R = routines_in c.args.before.now in
    let I = c.args.image.now in
    let K = c.args.costs.now in
    let S = pair_from c.args.first c.args.starts.now in
    let A = c.args.aborts.now in
    let V = numbers_of c.args.behind.now in
    let s = c.args.slot in
    let old = c.args.made.now in
    let e = c.in-Forking in
    let is : read_code R c.args.code.now ≡ Forking e.place e.low e.count =
    ap (read_code R) e.is ∙ read-Forking R e.place e.low e.count in
    let levels = c.in_ok-levels-in-Forking in
    let put = c.in_ok-put_place-in-Forking in
    put.ensures.lines
    ∙ ap (λ (L : Numbers). line (thread s (stack_of A) []) L ∷ old.lines) (levels.ensures.exact ∙ forking-is-entered I K S A e.place e.low e.count V)
    ∙ ap (λ (d : Code). code_lines I K S s A d V ++ old.lines) (sym is)

pub returns-in_ok-put_place-in-Forking-clause-weights : goal.returns-in_ok-put_place-in-Forking-clause-weights
returns-in_ok-put_place-in-Forking-clause-weights t c =
    let R = routines_in c.args.before.now in
    let I = c.args.image.now in
    let K = c.args.costs.now in
    let S = pair_from c.args.first c.args.starts.now in
    let A = c.args.aborts.now in
    let V = numbers_of c.args.behind.now in
    let s = c.args.slot in
    let old = c.args.made.now in
    let e = c.in-Forking in
    let is : read_code R c.args.code.now ≡ Forking e.place e.low e.count =
    ap (read_code R) e.is ∙ read-Forking R e.place e.low e.count in
    let levels = c.in_ok-levels-in-Forking in
    let put = c.in_ok-put_place-in-Forking in
    put.ensures.weights
    ∙ ap (λ (d : Code). code_weights I K d ++ old.weights) (sym is)

pub returns-in_err-levels-in-Sequence-2-clause-fits : goal.returns-in_err-levels-in-Sequence-2-clause-fits
returns-in_err-levels-in-Sequence-2-clause-fits t c = λ h.
    let R = routines_in c.args.before.now in
    let I = c.args.image.now in
    let K = c.args.costs.now in
    let S = pair_from c.args.first c.args.starts.now in
    let A = c.args.aborts.now in
    let V = numbers_of c.args.behind.now in
    let e = c.in-Sequence in
    let codes = c.as_slice-codes.result.now in
    let is : read_code R c.args.code.now ≡ codes_from e.to (map (read_code R) codes) =
    ap (read_code R) e.is ∙ read-Sequence R e.parts e.to
    ∙ ap (λ (cs : List Kept). codes_from e.to (map (read_code R) cs)) (sym c.as_slice-codes.ensures) in
    let part = c.index-codes-rest.result in
    let some : 1 ≤ c.loop-rest.rest = omega arith in
    let front = front codes c.loop-rest.rest part some c.loop-rest.invariant.within c.index-codes-rest.is in
    let r = code-read I K S A (read_code R c.args.code.now) _ V is h in
    let p = err_from_is_err_and c.from_residual-in_err-levels-in-Sequence-2.result c.from_residual-in_err-levels-in-Sequence-2.ensures.1 in
    rw (p.1, p.2) (c.in_err-levels-in-Sequence-2.ensures.fits
    (code-part I K S A (read_code R) e.to codes c.loop-rest.rest part V (numbers_of c.loop-rest.levels) front c.loop-rest.invariant.numbers r))

pub returns-in_err-other-in-Either-clause-fits : goal.returns-in_err-other-in-Either-clause-fits
returns-in_err-other-in-Either-clause-fits t c = λ h.
    let R = routines_in c.args.before.now in
    let I = c.args.image.now in
    let K = c.args.costs.now in
    let S = pair_from c.args.first c.args.starts.now in
    let A = c.args.aborts.now in
    let V = numbers_of c.args.behind.now in
    let e = c.in-Either in
    let x = read_code R c.get-near.result.now in
    let y = read_code R c.get-far.result.now in
    let is : read_code R c.args.code.now ≡ Either e.from e.count e.branch x y =
    ap (read_code R) e.is ∙ read-Either R e.from e.count e.branch e.untaken e.taken
    ∙ ap₂ (λ (a b : Kept). Either e.from e.count e.branch (read_code R a) (read_code R b)) (sym c.get-near.ensures) (sym c.get-far.ensures) in
    let r = code-read I K S A (read_code R c.args.code.now) _ V is h in
    let p = err_from_is_err_and c.from_residual-in_err-other-in-Either.result c.from_residual-in_err-other-in-Either.ensures.1 in
    rw (p.1, p.2) (c.in_err-other-in-Either.ensures.fits
    r.2)

pub returns-in_err-back-in-Either-clause-fits : goal.returns-in_err-back-in-Either-clause-fits
returns-in_err-back-in-Either-clause-fits t c = λ h.
    let R = routines_in c.args.before.now in
    let I = c.args.image.now in
    let K = c.args.costs.now in
    let S = pair_from c.args.first c.args.starts.now in
    let A = c.args.aborts.now in
    let V = numbers_of c.args.behind.now in
    let e = c.in-Either in
    let x = read_code R c.get-near.result.now in
    let y = read_code R c.get-far.result.now in
    let is : read_code R c.args.code.now ≡ Either e.from e.count e.branch x y =
    ap (read_code R) e.is ∙ read-Either R e.from e.count e.branch e.untaken e.taken
    ∙ ap₂ (λ (a b : Kept). Either e.from e.count e.branch (read_code R a) (read_code R b)) (sym c.get-near.ensures) (sym c.get-far.ensures) in
    let r = code-read I K S A (read_code R c.args.code.now) _ V is h in
    let p = err_from_is_err_and c.from_residual-in_err-back-in-Either.result c.from_residual-in_err-back-in-Either.ensures.1 in
    rw (p.1, p.2) (c.in_err-back-in-Either.ensures.fits
    r.0)

pub returns-in_err-one-in-Either-clause-fits : goal.returns-in_err-one-in-Either-clause-fits
returns-in_err-one-in-Either-clause-fits t c = λ h.
    let R = routines_in c.args.before.now in
    let I = c.args.image.now in
    let K = c.args.costs.now in
    let S = pair_from c.args.first c.args.starts.now in
    let A = c.args.aborts.now in
    let V = numbers_of c.args.behind.now in
    let e = c.in-Either in
    let x = read_code R c.get-near.result.now in
    let y = read_code R c.get-far.result.now in
    let is : read_code R c.args.code.now ≡ Either e.from e.count e.branch x y =
    ap (read_code R) e.is ∙ read-Either R e.from e.count e.branch e.untaken e.taken
    ∙ ap₂ (λ (a b : Kept). Either e.from e.count e.branch (read_code R a) (read_code R b)) (sym c.get-near.ensures) (sym c.get-far.ensures) in
    let r = code-read I K S A (read_code R c.args.code.now) _ V is h in
    let p = err_from_is_err_and c.from_residual-in_err-one-in-Either.result c.from_residual-in_err-one-in-Either.ensures.1 in
    rw (p.1, p.2) (c.in_err-one-in-Either.ensures.fits
    (code-behind I K S A x _ (numbers_of c.in_ok-back-in-Either.back) c.in_ok-back-in-Either.ensures.numbers r.1))

pub returns-in_err-levels-in-Either-clause-fits : goal.returns-in_err-levels-in-Either-clause-fits
returns-in_err-levels-in-Either-clause-fits t c = λ h.
    let R = routines_in c.args.before.now in
    let I = c.args.image.now in
    let K = c.args.costs.now in
    let S = pair_from c.args.first c.args.starts.now in
    let A = c.args.aborts.now in
    let V = numbers_of c.args.behind.now in
    let e = c.in-Either in
    let x = read_code R c.get-near.result.now in
    let y = read_code R c.get-far.result.now in
    let is : read_code R c.args.code.now ≡ Either e.from e.count e.branch x y =
    ap (read_code R) e.is ∙ read-Either R e.from e.count e.branch e.untaken e.taken
    ∙ ap₂ (λ (a b : Kept). Either e.from e.count e.branch (read_code R a) (read_code R b)) (sym c.get-near.ensures) (sym c.get-far.ensures) in
    let r = code-read I K S A (read_code R c.args.code.now) _ V is h in
    let p = err_from_is_err_and c.from_residual-in_err-levels-in-Either.result c.from_residual-in_err-levels-in-Either.ensures.1 in
    rw (p.1, p.2) (c.in_err-levels-in-Either.ensures.fits
    (test-room I K S (testing_cost I K e.from e.count e.branch) _ _ (numbers_of c.in_ok-one-in-Either.one) (numbers_of c.in_ok-other-in-Either.other)
    (c.in_ok-one-in-Either.ensures.numbers ∙ ap (entered I K S A x) c.in_ok-back-in-Either.ensures.numbers) c.in_ok-other-in-Either.ensures.numbers r.3))

pub returns-in_err-one-in-Turns-clause-fits : goal.returns-in_err-one-in-Turns-clause-fits
returns-in_err-one-in-Turns-clause-fits t c = λ h.
    let R = routines_in c.args.before.now in
    let I = c.args.image.now in
    let K = c.args.costs.now in
    let S = pair_from c.args.first c.args.starts.now in
    let A = c.args.aborts.now in
    let V = numbers_of c.args.behind.now in
    let e = c.in-Turns in
    let x = read_code R c.get-inner.result.now in
    let is : read_code R c.args.code.now ≡ Turns e.from e.count e.branch x e.to =
    ap (read_code R) e.is ∙ read-Turns R e.from e.count e.branch e.body e.to
    ∙ ap (λ (a : Kept). Turns e.from e.count e.branch (read_code R a) e.to) (sym c.get-inner.ensures) in
    let r = code-read I K S A (read_code R c.args.code.now) _ V is h in
    let p = err_from_is_err_and c.from_residual-in_err-one-in-Turns.result c.from_residual-in_err-one-in-Turns.ensures.1 in
    rw (p.1, p.2) (c.in_err-one-in-Turns.ensures.fits
    (entry-behind I K S A x _ (numbers_of c.nothing-none.result) c.nothing-none.ensures (r.0).0))

pub returns-in_err-head-in-Turns-clause-fits : goal.returns-in_err-head-in-Turns-clause-fits
returns-in_err-head-in-Turns-clause-fits t c = λ h.
    let R = routines_in c.args.before.now in
    let I = c.args.image.now in
    let K = c.args.costs.now in
    let S = pair_from c.args.first c.args.starts.now in
    let A = c.args.aborts.now in
    let V = numbers_of c.args.behind.now in
    let e = c.in-Turns in
    let x = read_code R c.get-inner.result.now in
    let is : read_code R c.args.code.now ≡ Turns e.from e.count e.branch x e.to =
    ap (read_code R) e.is ∙ read-Turns R e.from e.count e.branch e.body e.to
    ∙ ap (λ (a : Kept). Turns e.from e.count e.branch (read_code R a) e.to) (sym c.get-inner.ensures) in
    let r = code-read I K S A (read_code R c.args.code.now) _ V is h in
    let p = err_from_is_err_and c.from_residual-in_err-head-in-Turns.result c.from_residual-in_err-head-in-Turns.ensures.1 in
    rw (p.1, p.2) (c.in_err-head-in-Turns.ensures.fits
    (test-room I K S (testing_cost I K e.from e.count e.branch) _ _ (numbers_of c.in_ok-one-in-Turns.one) V
    (c.in_ok-one-in-Turns.ensures.exact ∙ ap (entered I K S A x) c.nothing-none.ensures) refl (r.0).1))

pub returns-in_err-back-in-Turns-clause-fits : goal.returns-in_err-back-in-Turns-clause-fits
returns-in_err-back-in-Turns-clause-fits t c = λ h.
    let R = routines_in c.args.before.now in
    let I = c.args.image.now in
    let K = c.args.costs.now in
    let S = pair_from c.args.first c.args.starts.now in
    let A = c.args.aborts.now in
    let V = numbers_of c.args.behind.now in
    let e = c.in-Turns in
    let x = read_code R c.get-inner.result.now in
    let is : read_code R c.args.code.now ≡ Turns e.from e.count e.branch x e.to =
    ap (read_code R) e.is ∙ read-Turns R e.from e.count e.branch e.body e.to
    ∙ ap (λ (a : Kept). Turns e.from e.count e.branch (read_code R a) e.to) (sym c.get-inner.ensures) in
    let r = code-read I K S A (read_code R c.args.code.now) _ V is h in
    let p = err_from_is_err_and c.from_residual-in_err-back-in-Turns.result c.from_residual-in_err-back-in-Turns.ensures.1 in
    rw (p.1, p.2) (c.in_err-back-in-Turns.ensures.fits
    (numbers-small I K S _ _ (ap (jumping I K (exit x)) (c.in_ok-head-in-Turns.ensures.exact ∙ entered-turns I K S A e.from e.count e.branch x e.to V (numbers_of c.nothing-none.result) (numbers_of c.in_ok-one-in-Turns.one)
    c.nothing-none.ensures c.in_ok-one-in-Turns.ensures.exact)) r.1))

pub returns-in_err-_again-in-Turns-clause-fits : goal.returns-in_err-_again-in-Turns-clause-fits
returns-in_err-_again-in-Turns-clause-fits t c = λ h.
    let R = routines_in c.args.before.now in
    let I = c.args.image.now in
    let K = c.args.costs.now in
    let S = pair_from c.args.first c.args.starts.now in
    let A = c.args.aborts.now in
    let V = numbers_of c.args.behind.now in
    let e = c.in-Turns in
    let x = read_code R c.get-inner.result.now in
    let is : read_code R c.args.code.now ≡ Turns e.from e.count e.branch x e.to =
    ap (read_code R) e.is ∙ read-Turns R e.from e.count e.branch e.body e.to
    ∙ ap (λ (a : Kept). Turns e.from e.count e.branch (read_code R a) e.to) (sym c.get-inner.ensures) in
    let r = code-read I K S A (read_code R c.args.code.now) _ V is h in
    let p = err_from_is_err_and c.from_residual-in_err-_again-in-Turns.result c.from_residual-in_err-_again-in-Turns.ensures.1 in
    rw (p.1, p.2) (c.in_err-_again-in-Turns.ensures.fits
    (code-behind I K S A x _ (numbers_of c.in_ok-back-in-Turns.back) (c.in_ok-back-in-Turns.ensures.numbers ∙ ap (jumping I K (exit x)) (c.in_ok-head-in-Turns.ensures.exact ∙ entered-turns I K S A e.from e.count e.branch x e.to V (numbers_of c.nothing-none.result) (numbers_of c.in_ok-one-in-Turns.one)
    c.nothing-none.ensures c.in_ok-one-in-Turns.ensures.exact)) r.2))

pub returns-in_err-levels-in-Turns-clause-fits : goal.returns-in_err-levels-in-Turns-clause-fits
returns-in_err-levels-in-Turns-clause-fits t c = λ h.
    let R = routines_in c.args.before.now in
    let I = c.args.image.now in
    let K = c.args.costs.now in
    let S = pair_from c.args.first c.args.starts.now in
    let A = c.args.aborts.now in
    let V = numbers_of c.args.behind.now in
    let e = c.in-Turns in
    let x = read_code R c.get-inner.result.now in
    let is : read_code R c.args.code.now ≡ Turns e.from e.count e.branch x e.to =
    ap (read_code R) e.is ∙ read-Turns R e.from e.count e.branch e.body e.to
    ∙ ap (λ (a : Kept). Turns e.from e.count e.branch (read_code R a) e.to) (sym c.get-inner.ensures) in
    let r = code-read I K S A (read_code R c.args.code.now) _ V is h in
    let p = err_from_is_err_and c.from_residual-in_err-levels-in-Turns.result c.from_residual-in_err-levels-in-Turns.ensures.1 in
    rw (p.1, p.2) (c.in_err-levels-in-Turns.ensures.fits
    (test-room I K S (testing_cost I K e.from e.count e.branch) _ _ (numbers_of c.in_ok-one-in-Turns.one) V
    (c.in_ok-one-in-Turns.ensures.exact ∙ ap (entered I K S A x) c.nothing-none.ensures) refl (r.0).1))

pub returns-in_err-levels-in-Forever-clause-fits : goal.returns-in_err-levels-in-Forever-clause-fits
returns-in_err-levels-in-Forever-clause-fits t c = λ h.
    let R = routines_in c.args.before.now in
    let I = c.args.image.now in
    let K = c.args.costs.now in
    let S = pair_from c.args.first c.args.starts.now in
    let A = c.args.aborts.now in
    let V = numbers_of c.args.behind.now in
    let e = c.in-Forever in
    let x = read_code R c.get-inner-in-Forever.result.now in
    let is : read_code R c.args.code.now ≡ Forever x e.to =
    ap (read_code R) e.is ∙ read-Forever R e.body e.to ∙ ap (λ (a : Kept). Forever (read_code R a) e.to) (sym c.get-inner-in-Forever.ensures) in
    let r = code-read I K S A (read_code R c.args.code.now) _ V is h in
    let p = err_from_is_err_and c.from_residual-in_err-levels-in-Forever.result c.from_residual-in_err-levels-in-Forever.ensures.1 in
    rw (p.1, p.2) (c.in_err-levels-in-Forever.ensures.fits
    (entry-behind I K S A x _ (numbers_of c.nothing-none-in-Forever.result) c.nothing-none-in-Forever.ensures r.0))

pub returns-in_err-back-in-Forever-clause-fits : goal.returns-in_err-back-in-Forever-clause-fits
returns-in_err-back-in-Forever-clause-fits t c = λ h.
    let R = routines_in c.args.before.now in
    let I = c.args.image.now in
    let K = c.args.costs.now in
    let S = pair_from c.args.first c.args.starts.now in
    let A = c.args.aborts.now in
    let V = numbers_of c.args.behind.now in
    let e = c.in-Forever in
    let x = read_code R c.get-inner-in-Forever.result.now in
    let is : read_code R c.args.code.now ≡ Forever x e.to =
    ap (read_code R) e.is ∙ read-Forever R e.body e.to ∙ ap (λ (a : Kept). Forever (read_code R a) e.to) (sym c.get-inner-in-Forever.ensures) in
    let r = code-read I K S A (read_code R c.args.code.now) _ V is h in
    let p = err_from_is_err_and c.from_residual-in_err-back-in-Forever.result c.from_residual-in_err-back-in-Forever.ensures.1 in
    rw (p.1, p.2) (c.in_err-back-in-Forever.ensures.fits
    (numbers-small I K S _ _ (ap (jumping I K (exit x)) (c.in_ok-levels-in-Forever.ensures.exact ∙ ap (entered I K S A x) c.nothing-none-in-Forever.ensures)) r.1))

pub returns-in_err-_again-in-Forever-clause-fits : goal.returns-in_err-_again-in-Forever-clause-fits
returns-in_err-_again-in-Forever-clause-fits t c = λ h.
    let R = routines_in c.args.before.now in
    let I = c.args.image.now in
    let K = c.args.costs.now in
    let S = pair_from c.args.first c.args.starts.now in
    let A = c.args.aborts.now in
    let V = numbers_of c.args.behind.now in
    let e = c.in-Forever in
    let x = read_code R c.get-inner-in-Forever.result.now in
    let is : read_code R c.args.code.now ≡ Forever x e.to =
    ap (read_code R) e.is ∙ read-Forever R e.body e.to ∙ ap (λ (a : Kept). Forever (read_code R a) e.to) (sym c.get-inner-in-Forever.ensures) in
    let r = code-read I K S A (read_code R c.args.code.now) _ V is h in
    let p = err_from_is_err_and c.from_residual-in_err-_again-in-Forever.result c.from_residual-in_err-_again-in-Forever.ensures.1 in
    rw (p.1, p.2) (c.in_err-_again-in-Forever.ensures.fits
    (code-behind I K S A x _ (numbers_of c.in_ok-back-in-Forever.back) (c.in_ok-back-in-Forever.ensures.numbers ∙ ap (jumping I K (exit x)) (c.in_ok-levels-in-Forever.ensures.exact ∙ ap (entered I K S A x) c.nothing-none-in-Forever.ensures)) r.2))

pub returns-in_err-levels-in-Resting-clause-fits : goal.returns-in_err-levels-in-Resting-clause-fits
returns-in_err-levels-in-Resting-clause-fits t c = λ h.
    let R = routines_in c.args.before.now in
    let I = c.args.image.now in
    let K = c.args.costs.now in
    let S = pair_from c.args.first c.args.starts.now in
    let A = c.args.aborts.now in
    let V = numbers_of c.args.behind.now in
    let e = c.in-Resting in
    let is : read_code R c.args.code.now ≡ Resting e.field-0 = ap (read_code R) e.is ∙ read-Resting R e.field-0 in
    let r = code-read I K S A (read_code R c.args.code.now) _ V is h in
    let p = err_from_is_err_and c.from_residual-in_err-levels-in-Resting.result c.from_residual-in_err-levels-in-Resting.ensures.1 in
    rw (p.1, p.2) (c.in_err-levels-in-Resting.ensures.fits
    (numbers-small I K S _ _ (pausing-is I K S A e.field-0 V) r))

pub returns-in_err-levels-in-Forking-clause-fits : goal.returns-in_err-levels-in-Forking-clause-fits
returns-in_err-levels-in-Forking-clause-fits t c = λ h.
    let R = routines_in c.args.before.now in
    let I = c.args.image.now in
    let K = c.args.costs.now in
    let S = pair_from c.args.first c.args.starts.now in
    let A = c.args.aborts.now in
    let V = numbers_of c.args.behind.now in
    let e = c.in-Forking in
    let is : read_code R c.args.code.now ≡ Forking e.place e.low e.count = ap (read_code R) e.is ∙ read-Forking R e.place e.low e.count in
    let r = code-read I K S A (read_code R c.args.code.now) _ V is h in
    let p = err_from_is_err_and c.from_residual-in_err-levels-in-Forking.result c.from_residual-in_err-levels-in-Forking.ensures.1 in
    rw (p.1, p.2) (c.in_err-levels-in-Forking.ensures.fits
    r.0 (numbers-small I K S _ _ (forking-is-entered I K S A e.place e.low e.count V) r.1))

pub returns-in_err-last-in-Guarded-clause-fits : goal.returns-in_err-last-in-Guarded-clause-fits
returns-in_err-last-in-Guarded-clause-fits t c = λ h.
    let R = routines_in c.args.before.now in
    let I = c.args.image.now in
    let K = c.args.costs.now in
    let S = pair_from c.args.first c.args.starts.now in
    let A = c.args.aborts.now in
    let V = numbers_of c.args.behind.now in
    let e = c.in-Guarded in
    let x = read_code R c.get-inner-in-Guarded.result.now in
    let is : read_code R c.args.code.now ≡ Guarded e.place e.number x =
    ap (read_code R) e.is ∙ read-Guarded R e.place e.number e.body
    ∙ ap (λ (a : Kept). Guarded e.place e.number (read_code R a)) (sym c.get-inner-in-Guarded.ensures) in
    let r = code-read I K S A (read_code R c.args.code.now) _ V is h in
    let p = err_from_is_err_and c.from_residual-in_err-last-in-Guarded.result c.from_residual-in_err-last-in-Guarded.ensures.1 in
    rw (p.1, p.2) (c.in_err-last-in-Guarded.ensures.fits
    r.0)

pub returns-in_err-inside-in-Guarded-clause-fits : goal.returns-in_err-inside-in-Guarded-clause-fits
returns-in_err-inside-in-Guarded-clause-fits t c = λ h.
    let R = routines_in c.args.before.now in
    let I = c.args.image.now in
    let K = c.args.costs.now in
    let S = pair_from c.args.first c.args.starts.now in
    let A = c.args.aborts.now in
    let V = numbers_of c.args.behind.now in
    let e = c.in-Guarded in
    let x = read_code R c.get-inner-in-Guarded.result.now in
    let is : read_code R c.args.code.now ≡ Guarded e.place e.number x =
    ap (read_code R) e.is ∙ read-Guarded R e.place e.number e.body
    ∙ ap (λ (a : Kept). Guarded e.place e.number (read_code R a)) (sym c.get-inner-in-Guarded.ensures) in
    let r = code-read I K S A (read_code R c.args.code.now) _ V is h in
    let p = err_from_is_err_and c.from_residual-in_err-inside-in-Guarded.result c.from_residual-in_err-inside-in-Guarded.ensures.1 in
    rw (p.1, p.2) (c.in_err-inside-in-Guarded.ensures.fits
    (code-inside I K S _ c.as_slice-all.result.now x _ (numbers_of c.in_ok-last-in-Guarded.last)
    (c.as_slice-all.ensures.value ∙ c.in_ok-deeper-in-Guarded.ensures.exact) c.in_ok-last-in-Guarded.ensures.exact r.1))

pub returns-in_err-levels-in-Guarded-clause-fits : goal.returns-in_err-levels-in-Guarded-clause-fits
returns-in_err-levels-in-Guarded-clause-fits t c = λ h.
    let R = routines_in c.args.before.now in
    let I = c.args.image.now in
    let K = c.args.costs.now in
    let S = pair_from c.args.first c.args.starts.now in
    let A = c.args.aborts.now in
    let V = numbers_of c.args.behind.now in
    let e = c.in-Guarded in
    let x = read_code R c.get-inner-in-Guarded.result.now in
    let is : read_code R c.args.code.now ≡ Guarded e.place e.number x =
    ap (read_code R) e.is ∙ read-Guarded R e.place e.number e.body
    ∙ ap (λ (a : Kept). Guarded e.place e.number (read_code R a)) (sym c.get-inner-in-Guarded.ensures) in
    let r = code-read I K S A (read_code R c.args.code.now) _ V is h in
    let p = err_from_is_err_and c.from_residual-in_err-levels-in-Guarded.result c.from_residual-in_err-levels-in-Guarded.ensures.1 in
    rw (p.1, p.2) (c.in_err-levels-in-Guarded.ensures.fits
    (numbers-small I K S _ _
    (ap (λ n. after n (numbers_of c.in_ok-inside-in-Guarded.inside)) c.cost.ensures.cost
    ∙ entered-guarded I K S A c.as_slice-all.result.now e.place e.number x V (numbers_of c.in_ok-last-in-Guarded.last)
    (numbers_of c.in_ok-inside-in-Guarded.inside) (c.as_slice-all.ensures.value ∙ c.in_ok-deeper-in-Guarded.ensures.exact)
    c.in_ok-last-in-Guarded.ensures.exact c.in_ok-inside-in-Guarded.ensures.numbers) r.2))
