use Rattle.std.proofs.Common.{◌≡◌, ℕ, List, subst}
use Rattle.std.specs.Prelude.{OnOk, codes}
use Rattle.std.specs.Fmt.{decimal}
use Rattle.pc_print.proofs.Joining.{three}
use Rattle.pc_print.proofs.generating.put_tests.Goals as goal

pub returns : goal.returns
returns c =
    let P : List ℕ → Type 0 = λ l. OnOk c.put-2.result (c.put-2.new.out.items ≡ l) in
    subst P (three c.args.out.now.items (codes "  while (1) { i = 0; while (i < ") (decimal c.args.k) (codes ") #") c.put.new.out.items c.put_number.new.out.items c.in_ok-put.ensures c.in_ok-put_number.ensures) c.put-2.ensures
