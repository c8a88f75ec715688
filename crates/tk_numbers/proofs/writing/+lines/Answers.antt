use Rattle.std.proofs.Common.{◌≡◌, ℕ, ◌+◌, ◌-◌, ◌≤◌, ◌++◌, List, [], ◌∷◌, IfOk, drop, length, map, refl, ap, sym, subst, ◌∙◌, append_assoc, arith}
use mathlib.Core.Path.{ap₂}
use Rattle.std.proofs.lemmas.List.{drop_all}
use Rattle.std.proofs.lemmas.Result.{err_from_is_err_and}
use Rattle.tk_cert.specs.declared.cert.Line.{Line}
use Rattle.tk_paths.specs.declared.Region.{Region as Kept}
use Rattle.tk_paths.specs.Walks.{most_cycles}
use Rattle.tk_paths.specs.Regions.{Region, to, word_place, tested_turn, plain_turn, through}
use Rattle.tk_paths.specs.Numbers.{Numbers, after, jumping, branched, region_lines, region_weights}
use Rattle.tk_paths.specs.Trees.{regions_from, read_region}
use Rattle.tk_numbers.specs.Charges.{routines_in}
use Rattle.tk_paths.specs.Faults.{AllSmall, HasRoom}
use Rattle.tk_paths.specs.PlaceKinds.{kind_of}
use Rattle.tk_paths.specs.Levels.{numbers_of}
use Rattle.tk_numbers.proofs.Values.{parts_read, choice_read, counted_read, repeated_read}
use Rattle.tk_numbers.proofs.Lines.{front_before, sequence_lines, choice_lines, counted_lines, repeated_lines, through_anywhere, lines_anywhere, weights_anywhere}
use Rattle.tk_paths.proofs.Rooms.{all-less, room-onto}
use Rattle.tk_numbers.specs.Charges.{counted_cost, repeated_cost, opening_cost}
use Rattle.tk_numbers.proofs.Rooms.{always, room_same, jump_small, choice_rooms, counted_rooms, repeated_rooms, first_less, sequence_room}
use Rattle.tk_numbers.proofs.writing.+lines.Goals as goal

pub parts_lines-loop-i-init : goal.parts_lines-loop-i-init
parts_lines-loop-i-init t c =
    let image = c.args.image.now in
    let costs = c.args.costs.now in
    let R = routines_in c.args.before.now in
    let V = numbers_of c.args.behind.now in
    let K = kind_of c.args.kind.now in
    let parts = c.args.parts.now in
    let all : length parts ≤ length parts = omega arith in
    let none : drop (length parts) parts ≡ [] = drop_all (length parts) parts all in
    record {
      within = all;
      exact = ap (λ (ps : List Kept). through image costs (regions_from 0 (map (read_region R) ps))) (sym none);
      lines = ap (λ (ps : List Kept). region_lines image costs K (regions_from 0 (map (read_region R) ps)) V ++ c.args.made.now.lines) (sym none);
      weights = ap (λ (ps : List Kept). region_weights image costs (regions_from 0 (map (read_region R) ps)) ++ c.args.made.now.weights) (sym none);
    }

pub parts_lines-loop-i-preserved : goal.parts_lines-loop-i-preserved
parts_lines-loop-i-preserved t c =
    let image = c.args.image.now in
    let costs = c.args.costs.now in
    let R = routines_in c.args.before.now in
    let V = numbers_of c.args.behind.now in
    let K = kind_of c.args.kind.now in
    let parts = c.args.parts.now in
    let l = c.loop-i in
    let x = c.index-parts-i.result in
    let rest = drop l.i parts in
    let within = l.invariant.within in
    let cost = c.in_ok-cost.ensures in
    let f : drop (l.i - 1) parts ≡ x ∷ rest = front_before parts l.i x c.loop-i-test.true within c.index-parts-i.is in
    record {
      within = omega (arith, within);
      exact =
          c.in_ok-total.ensures.exact ∙ ap₂ (λ a b. a + b) cost.exact l.invariant.exact
          ∙ ap (λ (ps : List Kept). through image costs (regions_from 0 (map (read_region R) ps))) (sym f);
      lines =
          sequence_lines image costs K V c.args.made.now.lines (read_region R x) (map (read_region R) rest) l.total l.made.lines c.region_lines.new.made.lines
          l.invariant.exact l.invariant.lines
          (cost.lines ∙ ap (λ (N : Numbers). region_lines image costs K (read_region R x) N ++ l.made.lines) c.in_ok-next.ensures.exact)
          ∙ ap (λ (ps : List Kept). region_lines image costs K (regions_from 0 (map (read_region R) ps)) V ++ c.args.made.now.lines) (sym f);
      weights =
          cost.weights ∙ ap (λ ws. region_weights image costs (read_region R x) ++ ws) l.invariant.weights
          ∙ sym (append_assoc (region_weights image costs (read_region R x)) (region_weights image costs (regions_from 0 (map (read_region R) rest))) c.args.made.now.weights)
          ∙ ap (λ (ps : List Kept). region_weights image costs (regions_from 0 (map (read_region R) ps)) ++ c.args.made.now.weights) (sym f);
    }

pub parts_lines-returns-clause-exact : goal.parts_lines-returns-clause-exact
parts_lines-returns-clause-exact t c =
    let l = c.loop-i in
    let end : l.i ≡ 0 = omega arith in
    l.invariant.exact
    ∙ ap (λ i. through c.args.image.now c.args.costs.now (regions_from 0 (map (read_region (routines_in c.args.before.now)) (drop i c.args.parts.now)))) end

pub parts_lines-returns-clause-lines : goal.parts_lines-returns-clause-lines
parts_lines-returns-clause-lines t c =
    let l = c.loop-i in
    let end : l.i ≡ 0 = omega arith in
    l.invariant.lines
    ∙ ap (λ i. region_lines c.args.image.now c.args.costs.now (kind_of c.args.kind.now)
    (regions_from 0 (map (read_region (routines_in c.args.before.now)) (drop i c.args.parts.now))) (numbers_of c.args.behind.now) ++ c.args.made.now.lines) end

pub parts_lines-returns-clause-weights : goal.parts_lines-returns-clause-weights
parts_lines-returns-clause-weights t c =
    let l = c.loop-i in
    let end : l.i ≡ 0 = omega arith in
    l.invariant.weights
    ∙ ap (λ i. region_weights c.args.image.now c.args.costs.now
    (regions_from 0 (map (read_region (routines_in c.args.before.now)) (drop i c.args.parts.now))) ++ c.args.made.now.weights) end

pub region_lines-returns-in_ok-first-in-Choice-clause-lines : goal.region_lines-returns-in_ok-first-in-Choice-clause-lines
region_lines-returns-in_ok-first-in-Choice-clause-lines t c =
    let image = c.args.image.now in
    let costs = c.args.costs.now in
    let R = routines_in c.args.before.now in
    let V = numbers_of c.args.behind.now in
    let K = kind_of c.args.kind.now in
    let old = c.args.made.now.lines in
    let x = c.get-untaken.result.now in
    let y = c.get.result.now in
    let is = choice_read R c.args.region.now _ _ x y _ _ _ c.in-Choice.is c.get-untaken.ensures c.get.ensures in
    let second = c.in_ok-second-in-Choice.ensures in
    let back = c.in_ok-back-in-Choice.ensures in
    let first = c.in_ok-first-in-Choice.ensures in
    let P : List Line → Type 0 = λ ls. IfOk c.put_choice.result (λ n. c.put_choice.new.made.lines ≡ ls) in
    subst P
    (choice_lines image costs K V old c.in-Choice.from c.in-Choice.count c.in-Choice.branch (read_region R x) (read_region R y)
    c.in_ok-first-in-Choice.first c.in_ok-second-in-Choice.second c.end_of-jump.result (numbers_of c.in_ok-back-in-Choice.back)
    c.region_lines.new.made.lines c.put_jump.new.made.lines c.region_lines-in-Choice.new.made.lines _
    first.exact second.exact c.end_of-jump.ensures.place back.numbers second.lines back.lines first.lines refl
    ∙ ap (λ (r : Region). region_lines image costs K r V ++ old) (sym is))
    c.put_choice.ensures.lines

pub region_lines-returns-in_ok-again-in-Counted-clause-lines : goal.region_lines-returns-in_ok-again-in-Counted-clause-lines
region_lines-returns-in_ok-again-in-Counted-clause-lines t c =
    let image = c.args.image.now in
    let costs = c.args.costs.now in
    let R = routines_in c.args.before.now in
    let V = numbers_of c.args.behind.now in
    let K = kind_of c.args.kind.now in
    let old = c.args.made.now.lines in
    let body = c.get-body.result.now in
    let is = counted_read R c.args.region.now _ body _ _ _ _ _ c.in-Counted.is c.get-body.ensures in
    let drop = c.in_ok-drop-in-Counted.ensures in
    let back = c.in_ok-back-in-Counted.ensures in
    let again = c.in_ok-again-in-Counted.ensures in
    let P : List Line → Type 0 = λ ls. IfOk c.put_counted.result (λ n. c.put_counted.new.made.lines ≡ ls) in
    subst P
    (counted_lines image costs K V old c.in-Counted.from c.in-Counted.turns c.in-Counted.count c.in-Counted.branch (read_region R body) c.in-Counted.drop
    (kind_of c.in_ok-inner-in-Counted.inner) c.in_ok-again-in-Counted.again c.end_of-jump-in-Counted.result
    (numbers_of c.in_ok-next-in-Counted.next) (numbers_of c.in_ok-back-in-Counted.back) (numbers_of c.in_ok-drop-in-Counted.drop)
    c.put_drop.new.made.lines c.put_jump-in-Counted.new.made.lines c.region_lines-in-Counted.new.made.lines _
    c.in_ok-inner-in-Counted.ensures.exact again.exact c.end_of-jump-in-Counted.ensures.place c.in_ok-next-in-Counted.ensures.exact back.numbers drop.numbers
    drop.lines back.lines again.lines refl
    ∙ ap (λ (r : Region). region_lines image costs K r V ++ old) (sym is))
    c.put_counted.ensures.lines

pub region_lines-returns-in_ok-cost-in-Repeated-clause-lines : goal.region_lines-returns-in_ok-cost-in-Repeated-clause-lines
region_lines-returns-in_ok-cost-in-Repeated-clause-lines t c =
    let image = c.args.image.now in
    let costs = c.args.costs.now in
    let R = routines_in c.args.before.now in
    let V = numbers_of c.args.behind.now in
    let K = kind_of c.args.kind.now in
    let old = c.args.made.now.lines in
    let body = c.get-body-in-Repeated.result.now in
    let is = repeated_read R c.args.region.now _ body _ _ _ c.in-Repeated.is c.get-body-in-Repeated.ensures in
    let back = c.in_ok-back-in-Repeated.ensures in
    let cost = c.in_ok-cost-in-Repeated.ensures in
    let P : List Line → Type 0 = λ ls. IfOk c.put_repeated.result (λ n. c.put_repeated.new.made.lines ≡ ls) in
    subst P
    (repeated_lines image costs K V old c.in-Repeated.from c.in-Repeated.turns (read_region R body) c.in-Repeated.to
    (kind_of c.in_ok-inner-in-Repeated.inner) c.in_ok-cost-in-Repeated.cost c.end_of-jump-in-Repeated.result
    (numbers_of c.in_ok-next-in-Repeated.next) (numbers_of c.in_ok-back-in-Repeated.back)
    c.put_jump-in-Repeated.new.made.lines c.region_lines-in-Repeated.new.made.lines _
    c.in_ok-inner-in-Repeated.ensures.exact cost.exact c.end_of-jump-in-Repeated.ensures.place
    (c.in_ok-next-in-Repeated.ensures.exact ∙ ap (λ n. after n V) c.cost.ensures.cost) back.numbers
    back.lines cost.lines refl
    ∙ ap (λ (r : Region). region_lines image costs K r V ++ old) (sym is))
    c.put_repeated.ensures.lines

pub region_lines-returns-in-Sequence-clause-exact : goal.region_lines-returns-in-Sequence-clause-exact
region_lines-returns-in-Sequence-clause-exact t c =
    let image = c.args.image.now in
    let costs = c.args.costs.now in
    let R = routines_in c.args.before.now in
    let parts = c.as_slice.result.now in
    let is = parts_read R c.args.region.now _ parts c.in-Sequence.to c.in-Sequence.is c.as_slice.ensures in
    let P : ℕ → Type 0 = λ m. IfOk c.parts_lines.result (λ n. n ≡ m) in
    subst P (through_anywhere image costs 0 c.in-Sequence.to (map (read_region R) parts) ∙ ap (through image costs) (sym is)) c.parts_lines.ensures.exact

pub region_lines-returns-in-Sequence-clause-lines : goal.region_lines-returns-in-Sequence-clause-lines
region_lines-returns-in-Sequence-clause-lines t c =
    let image = c.args.image.now in
    let costs = c.args.costs.now in
    let R = routines_in c.args.before.now in
    let V = numbers_of c.args.behind.now in
    let K = kind_of c.args.kind.now in
    let old = c.args.made.now.lines in
    let parts = c.as_slice.result.now in
    let is = parts_read R c.args.region.now _ parts c.in-Sequence.to c.in-Sequence.is c.as_slice.ensures in
    let P : List Line → Type 0 = λ ls. IfOk c.parts_lines.result (λ n. c.parts_lines.new.made.lines ≡ ls ++ old) in
    subst P
    (lines_anywhere image costs K V 0 c.in-Sequence.to (map (read_region R) parts) ∙ ap (λ (r : Region). region_lines image costs K r V) (sym is))
    c.parts_lines.ensures.lines

pub region_lines-returns-in-Sequence-clause-weights : goal.region_lines-returns-in-Sequence-clause-weights
region_lines-returns-in-Sequence-clause-weights t c =
    let image = c.args.image.now in
    let costs = c.args.costs.now in
    let R = routines_in c.args.before.now in
    let parts = c.as_slice.result.now in
    let is = parts_read R c.args.region.now _ parts c.in-Sequence.to c.in-Sequence.is c.as_slice.ensures in
    let P : List (ℕ × ℕ) → Type 0 = λ ws. IfOk c.parts_lines.result (λ n. c.parts_lines.new.made.weights ≡ ws ++ c.args.made.now.weights) in
    subst P
    (weights_anywhere image costs 0 c.in-Sequence.to (map (read_region R) parts) ∙ ap (λ (r : Region). region_weights image costs r) (sym is))
    c.parts_lines.ensures.weights

pub parts_lines-returns-in_err-next-clause-fits : goal.parts_lines-returns-in_err-next-clause-fits
parts_lines-returns-in_err-next-clause-fits t c = λ h.
    let image = c.args.image.now in
    let costs = c.args.costs.now in
    let R = routines_in c.args.before.now in
    let V = numbers_of c.args.behind.now in
    let p = err_from_is_err_and c.from_residual.result c.from_residual.ensures.1 in
    let parts = c.args.parts.now in
    let l = c.loop-i in
    let x = c.index-parts-i.result in
    let f : drop (l.i - 1) parts ≡ x ∷ drop l.i parts = front_before parts l.i x c.loop-i-test.true l.invariant.within c.index-parts-i.is in
    let whole = through image costs (regions_from 0 (map (read_region R) parts)) in
    let less = first_less image costs (read_region R) parts (l.i - 1) x (drop l.i parts) l.total f l.invariant.exact in
    rw (p.1, p.2) (c.in_err-next.ensures.fits (all-less l.total whole V (omega (arith, less)) h))

pub parts_lines-returns-in_err-cost-clause-fits : goal.parts_lines-returns-in_err-cost-clause-fits
parts_lines-returns-in_err-cost-clause-fits t c = λ h.
    let image = c.args.image.now in
    let costs = c.args.costs.now in
    let R = routines_in c.args.before.now in
    let V = numbers_of c.args.behind.now in
    let p = err_from_is_err_and c.from_residual-in_err-cost.result c.from_residual-in_err-cost.ensures.1 in
    let parts = c.args.parts.now in
    let l = c.loop-i in
    let x = c.index-parts-i.result in
    let f : drop (l.i - 1) parts ≡ x ∷ drop l.i parts = front_before parts l.i x c.loop-i-test.true l.invariant.within c.index-parts-i.is in
    let whole = through image costs (regions_from 0 (map (read_region R) parts)) in
    let less = first_less image costs (read_region R) parts (l.i - 1) x (drop l.i parts) l.total f l.invariant.exact in
    let t = through image costs (read_region R x) in
    rw (p.1, p.2) (c.in_err-cost.ensures.fits
    (room_same t t (after l.total V) (numbers_of c.in_ok-next.next) refl c.in_ok-next.ensures.exact (room-onto t l.total whole V less h)))

pub parts_lines-returns-in_err-total-clause-fits : goal.parts_lines-returns-in_err-total-clause-fits
parts_lines-returns-in_err-total-clause-fits t c = λ h.
    let image = c.args.image.now in
    let costs = c.args.costs.now in
    let R = routines_in c.args.before.now in
    let V = numbers_of c.args.behind.now in
    let p = err_from_is_err_and c.from_residual-in_err-total.result c.from_residual-in_err-total.ensures.1 in
    let parts = c.args.parts.now in
    let l = c.loop-i in
    let x = c.index-parts-i.result in
    let f : drop (l.i - 1) parts ≡ x ∷ drop l.i parts = front_before parts l.i x c.loop-i-test.true l.invariant.within c.index-parts-i.is in
    let whole = through image costs (regions_from 0 (map (read_region R) parts)) in
    let less = first_less image costs (read_region R) parts (l.i - 1) x (drop l.i parts) l.total f l.invariant.exact in
    let k = h.cycles in
    let e = c.in_ok-cost.ensures.exact in
    rw (p.1, p.2) (c.in_err-total.ensures.fits (omega (arith, less, k, e)))

pub region_lines-returns-in_err-back-in-Choice-clause-fits : goal.region_lines-returns-in_err-back-in-Choice-clause-fits
region_lines-returns-in_err-back-in-Choice-clause-fits t c = λ h.
    let image = c.args.image.now in
    let costs = c.args.costs.now in
    let R = routines_in c.args.before.now in
    let V = numbers_of c.args.behind.now in
    let x = read_region R c.get-untaken.result.now in
    let y = read_region R c.get.result.now in
    let e = c.in-Choice in
    let is = choice_read R c.args.region.now _ _ c.get-untaken.result.now c.get.result.now _ _ _ e.is c.get-untaken.ensures c.get.ensures in
    let P : Region → Type 0 = λ r. HasRoom (through image costs r) V in
    let rooms = choice_rooms image costs e.from e.count e.branch (to x) (through image costs x) (through image costs y) V (subst P is h) in
    let p = err_from_is_err_and c.from_residual-in_err-back-in-Choice.result c.from_residual-in_err-back-in-Choice.ensures.1 in
    rw (p.1, p.2) (c.in_err-back-in-Choice.ensures.fits (jump_small image costs c.end_of-jump.result (to x) V V c.end_of-jump.ensures.place refl rooms.jump))

pub region_lines-returns-in_ok-first-in-Choice-clause-weights : goal.region_lines-returns-in_ok-first-in-Choice-clause-weights
region_lines-returns-in_ok-first-in-Choice-clause-weights t c =
    let image = c.args.image.now in
    let costs = c.args.costs.now in
    let R = routines_in c.args.before.now in
    let V = numbers_of c.args.behind.now in
    let x = read_region R c.get-untaken.result.now in
    let y = read_region R c.get.result.now in
    let e = c.in-Choice in
    let is = choice_read R c.args.region.now _ _ c.get-untaken.result.now c.get.result.now _ _ _ e.is c.get-untaken.ensures c.get.ensures in
    let old = c.args.made.now.weights in
    let W : Region → List (ℕ × ℕ) = region_weights image costs in
    always c.put_choice.result _
    (c.put_choice.ensures.weights ∙ c.in_ok-first-in-Choice.ensures.weights
    ∙ ap (λ ws. W x ++ ws) (c.in_ok-back-in-Choice.ensures.weights ∙ c.in_ok-second-in-Choice.ensures.weights) ∙ sym (append_assoc (W x) (W y) old)
    ∙ ap (λ (r : Region). W r ++ old) (sym is))

pub region_lines-returns-in_err-cost-in-Counted-clause-fits : goal.region_lines-returns-in_err-cost-in-Counted-clause-fits
region_lines-returns-in_err-cost-in-Counted-clause-fits t c = λ h.
    let image = c.args.image.now in
    let costs = c.args.costs.now in
    let R = routines_in c.args.before.now in
    let V = numbers_of c.args.behind.now in
    let body = read_region R c.get-body.result.now in
    let e = c.in-Counted in
    let t = through image costs body in
    let is = counted_read R c.args.region.now _ c.get-body.result.now _ _ _ _ _ e.is c.get-body.ensures in
    let P : Region → Type 0 = λ r. HasRoom (through image costs r) V in
    let room = subst P is h in
    let rooms = counted_rooms image costs e.from e.turns e.count e.branch body t V room in
    let p = err_from_is_err_and c.from_residual-in_err-cost-in-Counted.result c.from_residual-in_err-cost-in-Counted.ensures.1 in
    rw (p.1, p.2) (c.in_err-cost-in-Counted.ensures.fits rooms.cheap)

pub region_lines-returns-in_err-next-in-Counted-clause-fits : goal.region_lines-returns-in_err-next-in-Counted-clause-fits
region_lines-returns-in_err-next-in-Counted-clause-fits t c = λ h.
    let image = c.args.image.now in
    let costs = c.args.costs.now in
    let R = routines_in c.args.before.now in
    let V = numbers_of c.args.behind.now in
    let body = read_region R c.get-body.result.now in
    let e = c.in-Counted in
    let t = through image costs body in
    let is = counted_read R c.args.region.now _ c.get-body.result.now _ _ _ _ _ e.is c.get-body.ensures in
    let P : Region → Type 0 = λ r. HasRoom (through image costs r) V in
    let room = subst P is h in
    let rooms = counted_rooms image costs e.from e.turns e.count e.branch body t V room in
    let p = err_from_is_err_and c.from_residual-in_err-next-in-Counted.result c.from_residual-in_err-next-in-Counted.ensures.1 in
    let Q : ℕ → Type 0 = λ n. tested_turn image costs e.from e.count e.branch body n ≤ most_cycles in
    rw (p.1, p.2) (c.in_err-next-in-Counted.ensures.fits (subst Q (sym c.in_ok-cost-in-Counted.ensures.exact) rooms.weight) rooms.leaves rooms.numbers)

pub region_lines-returns-in_err-drop-in-Counted-clause-fits : goal.region_lines-returns-in_err-drop-in-Counted-clause-fits
region_lines-returns-in_err-drop-in-Counted-clause-fits t c = λ h.
    let image = c.args.image.now in
    let costs = c.args.costs.now in
    let R = routines_in c.args.before.now in
    let V = numbers_of c.args.behind.now in
    let body = read_region R c.get-body.result.now in
    let e = c.in-Counted in
    let t = through image costs body in
    let is = counted_read R c.args.region.now _ c.get-body.result.now _ _ _ _ _ e.is c.get-body.ensures in
    let P : Region → Type 0 = λ r. HasRoom (through image costs r) V in
    let room = subst P is h in
    let rooms = counted_rooms image costs e.from e.turns e.count e.branch body t V room in
    let p = err_from_is_err_and c.from_residual-in_err-drop-in-Counted.result c.from_residual-in_err-drop-in-Counted.ensures.1 in
    rw (p.1, p.2) (c.in_err-drop-in-Counted.ensures.fits rooms.last)

pub region_lines-returns-in_err-back-in-Counted-clause-fits : goal.region_lines-returns-in_err-back-in-Counted-clause-fits
region_lines-returns-in_err-back-in-Counted-clause-fits t c = λ h.
    let image = c.args.image.now in
    let costs = c.args.costs.now in
    let R = routines_in c.args.before.now in
    let V = numbers_of c.args.behind.now in
    let body = read_region R c.get-body.result.now in
    let e = c.in-Counted in
    let t = through image costs body in
    let is = counted_read R c.args.region.now _ c.get-body.result.now _ _ _ _ _ e.is c.get-body.ensures in
    let P : Region → Type 0 = λ r. HasRoom (through image costs r) V in
    let room = subst P is h in
    let rooms = counted_rooms image costs e.from e.turns e.count e.branch body t V room in
    let p = err_from_is_err_and c.from_residual-in_err-back-in-Counted.result c.from_residual-in_err-back-in-Counted.ensures.1 in
    rw (p.1, p.2) (c.in_err-back-in-Counted.ensures.fits
    (jump_small image costs c.end_of-jump-in-Counted.result (to body) _ (numbers_of c.in_ok-next-in-Counted.next) c.end_of-jump-in-Counted.ensures.place
    c.in_ok-next-in-Counted.ensures.exact rooms.jump))

pub region_lines-returns-in_err-again-in-Counted-clause-fits : goal.region_lines-returns-in_err-again-in-Counted-clause-fits
region_lines-returns-in_err-again-in-Counted-clause-fits t c = λ h.
    let image = c.args.image.now in
    let costs = c.args.costs.now in
    let R = routines_in c.args.before.now in
    let V = numbers_of c.args.behind.now in
    let body = read_region R c.get-body.result.now in
    let e = c.in-Counted in
    let t = through image costs body in
    let is = counted_read R c.args.region.now _ c.get-body.result.now _ _ _ _ _ e.is c.get-body.ensures in
    let P : Region → Type 0 = λ r. HasRoom (through image costs r) V in
    let room = subst P is h in
    let rooms = counted_rooms image costs e.from e.turns e.count e.branch body t V room in
    let back = c.in_ok-back-in-Counted.ensures.numbers ∙ ap₂ (jumping image costs) c.end_of-jump-in-Counted.ensures.place c.in_ok-next-in-Counted.ensures.exact in
    let p = err_from_is_err_and c.from_residual-in_err-again-in-Counted.result c.from_residual-in_err-again-in-Counted.ensures.1 in
    rw (p.1, p.2) (c.in_err-again-in-Counted.ensures.fits (room_same t t _ (numbers_of c.in_ok-back-in-Counted.back) refl back rooms.inner))

pub region_lines-returns-in_ok-again-in-Counted-clause-exact : goal.region_lines-returns-in_ok-again-in-Counted-clause-exact
region_lines-returns-in_ok-again-in-Counted-clause-exact t c =
    let image = c.args.image.now in
    let costs = c.args.costs.now in
    let R = routines_in c.args.before.now in
    let V = numbers_of c.args.behind.now in
    let body = read_region R c.get-body.result.now in
    let e = c.in-Counted in
    let t = through image costs body in
    let is = counted_read R c.args.region.now _ c.get-body.result.now _ _ _ _ _ e.is c.get-body.ensures in
    let P : ℕ → Type 0 = λ m. IfOk c.put_counted.result (λ n. n ≡ m) in
    subst P (ap (counted_cost image costs e.from e.turns e.count e.branch body) c.in_ok-again-in-Counted.ensures.exact ∙ ap (through image costs) (sym is))
    c.put_counted.ensures.exact

pub region_lines-returns-in_ok-again-in-Counted-clause-weights : goal.region_lines-returns-in_ok-again-in-Counted-clause-weights
region_lines-returns-in_ok-again-in-Counted-clause-weights t c =
    let image = c.args.image.now in
    let costs = c.args.costs.now in
    let R = routines_in c.args.before.now in
    let V = numbers_of c.args.behind.now in
    let body = read_region R c.get-body.result.now in
    let e = c.in-Counted in
    let t = through image costs body in
    let is = counted_read R c.args.region.now _ c.get-body.result.now _ _ _ _ _ e.is c.get-body.ensures in
    let old = c.args.made.now.weights in
    let W : Region → List (ℕ × ℕ) = region_weights image costs in
    let P : List (ℕ × ℕ) → Type 0 = λ ws. IfOk c.put_counted.result (λ n. c.put_counted.new.made.weights ≡ ws) in
    subst P
    (ap₂ (λ (m : ℕ) (ws : List (ℕ × ℕ)). (word_place image e.from, tested_turn image costs e.from e.count e.branch body m) ∷ ws) c.in_ok-again-in-Counted.ensures.exact
    (c.in_ok-again-in-Counted.ensures.weights ∙ ap (λ ws. W body ++ ws) (c.in_ok-back-in-Counted.ensures.weights ∙ c.in_ok-drop-in-Counted.ensures.weights))
    ∙ ap (λ (r : Region). W r ++ old) (sym is))
    c.put_counted.ensures.weights

pub region_lines-returns-in_ok-again-in-Counted-clause-fits : goal.region_lines-returns-in_ok-again-in-Counted-clause-fits
region_lines-returns-in_ok-again-in-Counted-clause-fits t c = λ h.
    let image = c.args.image.now in
    let costs = c.args.costs.now in
    let R = routines_in c.args.before.now in
    let V = numbers_of c.args.behind.now in
    let body = read_region R c.get-body.result.now in
    let e = c.in-Counted in
    let t = through image costs body in
    let is = counted_read R c.args.region.now _ c.get-body.result.now _ _ _ _ _ e.is c.get-body.ensures in
    let P : Region → Type 0 = λ r. HasRoom (through image costs r) V in
    let room = subst P is h in
    let rooms = counted_rooms image costs e.from e.turns e.count e.branch body t V room in
    let back = c.in_ok-back-in-Counted.ensures.numbers ∙ ap₂ (jumping image costs) c.end_of-jump-in-Counted.ensures.place c.in_ok-next-in-Counted.ensures.exact in
    let again = c.in_ok-again-in-Counted.ensures.exact in
    let Q : ℕ → Type 0 = λ n. counted_cost image costs e.from e.turns e.count e.branch body n ≤ most_cycles in
    c.put_counted.ensures.fits (subst Q (sym again) room.cycles)
    (room_same _ _ _ (numbers_of c.in_ok-next-in-Counted.next) (ap (λ n. opening_cost image costs e.from e.turns (tested_turn image costs e.from e.count e.branch body n)) again)
    c.in_ok-next-in-Counted.ensures.exact rooms.opening)
    (room_same _ _ _ _ refl (ap₂ (branched image costs) (ap₂ after again back) c.in_ok-drop-in-Counted.ensures.numbers) rooms.tests)

pub region_lines-returns-in_err-next-in-Repeated-clause-fits : goal.region_lines-returns-in_err-next-in-Repeated-clause-fits
region_lines-returns-in_err-next-in-Repeated-clause-fits t c = λ h.
    let image = c.args.image.now in
    let costs = c.args.costs.now in
    let R = routines_in c.args.before.now in
    let V = numbers_of c.args.behind.now in
    let body = read_region R c.get-body-in-Repeated.result.now in
    let e = c.in-Repeated in
    let t = through image costs body in
    let is = repeated_read R c.args.region.now _ c.get-body-in-Repeated.result.now _ _ _ e.is c.get-body-in-Repeated.ensures in
    let P : Region → Type 0 = λ r. HasRoom (through image costs r) V in
    let room = subst P is h in
    let rooms = repeated_rooms image costs e.from e.turns body t V room in
    let p = err_from_is_err_and c.from_residual-in_err-next-in-Repeated.result c.from_residual-in_err-next-in-Repeated.ensures.1 in
    let Q : ℕ → Type 0 = λ n. AllSmall (after n V) in
    rw (p.1, p.2) (c.in_err-next-in-Repeated.ensures.fits (subst Q (sym c.cost.ensures.cost) rooms.numbers))

pub region_lines-returns-in_err-back-in-Repeated-clause-fits : goal.region_lines-returns-in_err-back-in-Repeated-clause-fits
region_lines-returns-in_err-back-in-Repeated-clause-fits t c = λ h.
    let image = c.args.image.now in
    let costs = c.args.costs.now in
    let R = routines_in c.args.before.now in
    let V = numbers_of c.args.behind.now in
    let body = read_region R c.get-body-in-Repeated.result.now in
    let e = c.in-Repeated in
    let t = through image costs body in
    let is = repeated_read R c.args.region.now _ c.get-body-in-Repeated.result.now _ _ _ e.is c.get-body-in-Repeated.ensures in
    let P : Region → Type 0 = λ r. HasRoom (through image costs r) V in
    let room = subst P is h in
    let rooms = repeated_rooms image costs e.from e.turns body t V room in
    let next = c.in_ok-next-in-Repeated.ensures.exact ∙ ap (λ n. after n V) c.cost.ensures.cost in
    let p = err_from_is_err_and c.from_residual-in_err-back-in-Repeated.result c.from_residual-in_err-back-in-Repeated.ensures.1 in
    rw (p.1, p.2) (c.in_err-back-in-Repeated.ensures.fits
    (jump_small image costs c.end_of-jump-in-Repeated.result (to body) _ (numbers_of c.in_ok-next-in-Repeated.next) c.end_of-jump-in-Repeated.ensures.place next rooms.jump))

pub region_lines-returns-in_err-cost-in-Repeated-clause-fits : goal.region_lines-returns-in_err-cost-in-Repeated-clause-fits
region_lines-returns-in_err-cost-in-Repeated-clause-fits t c = λ h.
    let image = c.args.image.now in
    let costs = c.args.costs.now in
    let R = routines_in c.args.before.now in
    let V = numbers_of c.args.behind.now in
    let body = read_region R c.get-body-in-Repeated.result.now in
    let e = c.in-Repeated in
    let t = through image costs body in
    let is = repeated_read R c.args.region.now _ c.get-body-in-Repeated.result.now _ _ _ e.is c.get-body-in-Repeated.ensures in
    let P : Region → Type 0 = λ r. HasRoom (through image costs r) V in
    let room = subst P is h in
    let rooms = repeated_rooms image costs e.from e.turns body t V room in
    let next = c.in_ok-next-in-Repeated.ensures.exact ∙ ap (λ n. after n V) c.cost.ensures.cost in
    let back = c.in_ok-back-in-Repeated.ensures.numbers ∙ ap₂ (jumping image costs) c.end_of-jump-in-Repeated.ensures.place next in
    let p = err_from_is_err_and c.from_residual-in_err-cost-in-Repeated.result c.from_residual-in_err-cost-in-Repeated.ensures.1 in
    rw (p.1, p.2) (c.in_err-cost-in-Repeated.ensures.fits (room_same t t _ (numbers_of c.in_ok-back-in-Repeated.back) refl back rooms.inner))

pub region_lines-returns-in_ok-cost-in-Repeated-clause-exact : goal.region_lines-returns-in_ok-cost-in-Repeated-clause-exact
region_lines-returns-in_ok-cost-in-Repeated-clause-exact t c =
    let image = c.args.image.now in
    let costs = c.args.costs.now in
    let R = routines_in c.args.before.now in
    let V = numbers_of c.args.behind.now in
    let body = read_region R c.get-body-in-Repeated.result.now in
    let e = c.in-Repeated in
    let t = through image costs body in
    let is = repeated_read R c.args.region.now _ c.get-body-in-Repeated.result.now _ _ _ e.is c.get-body-in-Repeated.ensures in
    let P : ℕ → Type 0 = λ m. IfOk c.put_repeated.result (λ n. n ≡ m) in
    subst P (ap (repeated_cost image costs e.from e.turns body) c.in_ok-cost-in-Repeated.ensures.exact ∙ ap (through image costs) (sym is))
    c.put_repeated.ensures.exact

pub region_lines-returns-in_ok-cost-in-Repeated-clause-weights : goal.region_lines-returns-in_ok-cost-in-Repeated-clause-weights
region_lines-returns-in_ok-cost-in-Repeated-clause-weights t c =
    let image = c.args.image.now in
    let costs = c.args.costs.now in
    let R = routines_in c.args.before.now in
    let V = numbers_of c.args.behind.now in
    let body = read_region R c.get-body-in-Repeated.result.now in
    let e = c.in-Repeated in
    let t = through image costs body in
    let is = repeated_read R c.args.region.now _ c.get-body-in-Repeated.result.now _ _ _ e.is c.get-body-in-Repeated.ensures in
    let old = c.args.made.now.weights in
    let W : Region → List (ℕ × ℕ) = region_weights image costs in
    let P : List (ℕ × ℕ) → Type 0 = λ ws. IfOk c.put_repeated.result (λ n. c.put_repeated.new.made.weights ≡ ws) in
    subst P
    (ap₂ (λ (m : ℕ) (ws : List (ℕ × ℕ)). (word_place image e.from, plain_turn image costs body m) ∷ ws) c.in_ok-cost-in-Repeated.ensures.exact
    (c.in_ok-cost-in-Repeated.ensures.weights ∙ ap (λ ws. W body ++ ws) c.in_ok-back-in-Repeated.ensures.weights)
    ∙ ap (λ (r : Region). W r ++ old) (sym is))
    c.put_repeated.ensures.weights

pub region_lines-returns-in_ok-cost-in-Repeated-clause-fits : goal.region_lines-returns-in_ok-cost-in-Repeated-clause-fits
region_lines-returns-in_ok-cost-in-Repeated-clause-fits t c = λ h.
    let image = c.args.image.now in
    let costs = c.args.costs.now in
    let R = routines_in c.args.before.now in
    let V = numbers_of c.args.behind.now in
    let body = read_region R c.get-body-in-Repeated.result.now in
    let e = c.in-Repeated in
    let t = through image costs body in
    let is = repeated_read R c.args.region.now _ c.get-body-in-Repeated.result.now _ _ _ e.is c.get-body-in-Repeated.ensures in
    let P : Region → Type 0 = λ r. HasRoom (through image costs r) V in
    let room = subst P is h in
    let rooms = repeated_rooms image costs e.from e.turns body t V room in
    let next = c.in_ok-next-in-Repeated.ensures.exact ∙ ap (λ n. after n V) c.cost.ensures.cost in
    let again = c.in_ok-cost-in-Repeated.ensures.exact in
    let Q : ℕ → Type 0 = λ n. repeated_cost image costs e.from e.turns body n ≤ most_cycles in
    c.put_repeated.ensures.fits (subst Q (sym again) room.cycles)
    (room_same _ _ _ (numbers_of c.in_ok-next-in-Repeated.next) (ap (λ n. opening_cost image costs e.from e.turns (plain_turn image costs body n)) again) next rooms.opening)

pub region_lines-returns-in-Sequence-clause-fits : goal.region_lines-returns-in-Sequence-clause-fits
region_lines-returns-in-Sequence-clause-fits t c = λ h.
    let image = c.args.image.now in
    let costs = c.args.costs.now in
    let R = routines_in c.args.before.now in
    let V = numbers_of c.args.behind.now in
    c.parts_lines.ensures.fits (sequence_room image costs R c.args.region.now _ c.as_slice.result.now c.in-Sequence.to c.in-Sequence.is c.as_slice.ensures V h)
