use Rattle.std.proofs.Common.{ℕ, List, [], ◌∷◌, ◌≤◌, length, ap, arith}
use Rattle.std.specs.Fmt.{decimal}
use Rattle.std.proofs.lemmas.List.{length-append}
use Rattle.pt_trace.proofs.Decimals.{word_room}
use Rattle.pt_trace.proofs.report.LineBuffer.push_signed.Goals as goal

pub push_digits-requires : goal.push_digits-requires
push_digits-requires c =
    omega (arith, c.requires, word_room c.unsigned_abs-size.result (omega (arith, c.unsigned_abs-size.ensures.bound)), ap (λ (xs : List ℕ). length xs) c.push_byte.ensures, length-append c.args.self.now (45 ∷ []))

pub returns-then-value-lt0-clause-room : goal.returns-then-value-lt0-clause-room
returns-then-value-lt0-clause-room c =
    let digits : length (decimal c.unsigned_abs-size.result) ≤ 10 = word_room c.unsigned_abs-size.result (omega (arith, c.unsigned_abs-size.ensures.bound)) in
    omega (arith, digits, ap (λ (xs : List ℕ). length xs) c.push_byte.ensures, length-append c.args.self.now (45 ∷ []), ap (λ (xs : List ℕ). length xs) c.push_digits.ensures, length-append c.push_byte.new.self (decimal c.unsigned_abs-size.result))

pub push_digits-requires-2 : goal.push_digits-requires-2
push_digits-requires-2 c = omega (arith, c.requires, word_room c.unsigned_abs-size.result (omega (arith, c.unsigned_abs-size.ensures.bound)))

pub returns-clause-room : goal.returns-clause-room
returns-clause-room c =
    let digits : length (decimal c.unsigned_abs-size.result) ≤ 10 = word_room c.unsigned_abs-size.result (omega (arith, c.unsigned_abs-size.ensures.bound)) in
    omega (arith, digits, ap (λ (xs : List ℕ). length xs) c.push_digits-2.ensures, length-append c.args.self.now (decimal c.unsigned_abs-size.result))
