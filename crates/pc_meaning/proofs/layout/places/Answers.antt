use Rattle.std.proofs.Common.{◌++◌, ◌+◌, drop, sym, ap, ◌∙◌}
use Rattle.pc_meaning.specs.Programs.{wanted, chosen}
use Rattle.pc_meaning.proofs.Choosing.{chosen-here, chosen-else, chosen-past, push-more}
use Rattle.pc_meaning.proofs.layout.places.Goals as goal
use Rattle.pc_meaning.proofs.layout.places.Goals.{then-is_wanted+in_ok-push, else-is_wanted}

pub loop-i-preserved : goal.loop-i-preserved
loop-i-preserved c =
    let cells = c.args.cells.now in
    let rooms = c.args.rooms.now in
    let test = wanted c.args.input in
    let i = c.loop-i.i in
    let k = c.index-cells-i.result in
    let r = c.in-Some.room.now in
    let rest = chosen test (drop (i + 1) cells) (drop (i + 1) rooms) in
    let there = sym c.in-Some.ensures in
    elim c.if-is_wanted.branch [
      | then-is_wanted+in_ok-push w ↦
          ap (λ v. v.items ++ rest) w.places-is
          ∙ push-more c.loop-i.places.items w.push.new.self.items r.first rest (chosen test (drop i cells) (drop i rooms)) (chosen test cells rooms) w.in_ok-push.ensures.items
          (chosen-here test cells rooms i k r c.loop-i-test.true c.index-cells-i.is there (sym c.is_wanted.ensures ∙ w.if-is_wanted.true)) c.loop-i.invariant
      | else-is_wanted w ↦
          ap (λ v. v.items ++ rest) w.places-is
          ∙ ap (λ l. c.loop-i.places.items ++ l) (sym (chosen-else test cells rooms i k r c.loop-i-test.true c.index-cells-i.is there (sym c.is_wanted.ensures ∙ w.if-is_wanted.false)))
          ∙ c.loop-i.invariant
    ]

pub returns-in_default : goal.returns-in_default
returns-in_default c =
    let test = wanted c.args.input in
    chosen-past test (drop c.loop-i.i c.args.cells.now) c.args.rooms.now c.loop-i.i c.loop-i.places.items (chosen test c.args.cells.now c.args.rooms.now) (sym c.in_default.ensures) c.loop-i.invariant
