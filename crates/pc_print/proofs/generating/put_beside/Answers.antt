use Rattle.std.proofs.Common.{◌≡◌, ℕ, List, subst}
use Rattle.std.specs.Prelude.{OnOk, codes}
use Rattle.pc_print.specs.Generated.{line, counted, name}
use Rattle.pc_print.proofs.Joining.{three}
use Rattle.pc_print.proofs.generating.put_beside.Goals as goal

pub returns : goal.returns
returns c =
    let P : List ℕ → Type 0 = λ l. OnOk c.put_line.result (c.put_line.new.out.items ≡ l) in
    subst P (three c.args.out.now.items (codes "  while (1) { weak abort PAR(") (counted name c.args.n) (line (codes "out); when pre (a == 9); s = 0; }")) c.put.new.out.items c.put_names.new.out.items c.in_ok-put.ensures c.in_ok-put_names.ensures) c.put_line.ensures
