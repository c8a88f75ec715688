use Rattle.std.proofs.Common.{◌≡◌, ℕ, List, ◌++◌, ◌∷◌, [], ◌+◌, ◌/◌, ◌%◌, length, ap, sym, ◌∙◌, append_assoc, arith}
use Rattle.std.specs.Fmt.{decimal}
use Rattle.std.proofs.lemmas.Fmt.{decimal_digit, decimal_step_wide}
use Rattle.std.proofs.lemmas.List.{length-append}
use Rattle.pt_trace.proofs.Decimals.{length-digit, length-step, wide_small}
use Rattle.pt_trace.proofs.report.LineBuffer.+push_digits.Goals as goal

pub push_byte-requires : goal.push_byte-requires
push_byte-requires t c = omega (arith, c.requires, length-digit c.args.n c.if-n-lt10.true)

pub returns-then-n-lt10 : goal.returns-then-n-lt10
returns-then-n-lt10 t c = c.push_byte.ensures ∙ ap (λ (ds : List ℕ). c.args.self.now ++ ds) (sym (decimal_digit c.args.n c.if-n-lt10.true))

pub push_digits-requires : goal.push_digits-requires
push_digits-requires t c = (let d : c.args.n ≡ t = c.decreases in omega (arith, d, c.if-n-lt10.false), omega (arith, c.requires, length-step c.args.n c.if-n-lt10.false (wide_small c.args.n c.ranges.n.fits)))

pub push_byte-requires-2 : goal.push_byte-requires-2
push_byte-requires-2 t c =
    omega (arith, c.requires, length-step c.args.n c.if-n-lt10.false (wide_small c.args.n c.ranges.n.fits), ap (λ (xs : List ℕ). length xs) c.push_digits.ensures, length-append c.args.self.now (decimal (c.args.n / 10)))

pub returns : goal.returns
returns t c =
    c.push_byte-2.ensures
    ∙ ap (λ (xs : List ℕ). xs ++ (48 + c.args.n % 10) ∷ []) c.push_digits.ensures
    ∙ append_assoc c.args.self.now (decimal (c.args.n / 10)) ((48 + c.args.n % 10) ∷ [])
    ∙ ap (λ (ds : List ℕ). c.args.self.now ++ ds) (sym (decimal_step_wide c.args.n c.if-n-lt10.false (wide_small c.args.n c.ranges.n.fits)))
