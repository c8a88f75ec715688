-- Aborts that are numbered in the order of the text stand in the list by their numbers.
use Rattle.std.proofs.Common.{◌≡◌, ℕ, suc, ◌+◌, Bool, List, [], ◌∷◌, ◌++◌, length, slice_get, refl, sym, ap, ◌∙◌, arith, append_assoc, length-append}
use Rattle.pc_meaning.specs.Tree.{Expression, Statement, Statements, skip, assign, call_of, block, if_so, repeat, loop, eot, par, abort, none, each, Routine}
use Rattle.pc_lower.specs.Aborts.{aborts_in, aborts_in_all, aborts_of}
use Rattle.pc_lower.specs.Order.{InOrder, AllInOrder, Listed, AllListed, RoutinesInOrder, RoutinesListed}
use Rattle.pc_meaning.proofs.Lookups.{slice_get_middle}

module _ (aborts : List (Bool × Expression)) where
  -- the aborts of a statement stand between a front, whose length is its first number, and a rest
  mutual
    listed : (s : Statement) (front rest : List (Bool × Expression)) (n : ℕ) → front ++ (aborts_in s ++ rest) ≡ aborts → n ≡ length front → InOrder n s → Listed aborts s
    listed skip front rest n split long order = tt
    listed (assign goal e) front rest n split long order = tt
    listed (call_of goal f es) front rest n split long order = tt
    listed (block all) front rest n split long order = all_listed all front rest n split long order
    listed (if_so test first second) front rest n split long order =
        let a = length-append front (aborts_in first) in (
          listed first front (aborts_in second ++ rest) n (ap (λ l. front ++ l) (sym (append_assoc (aborts_in first) (aborts_in second) rest)) ∙ split) long order.0,
          listed second (front ++ aborts_in first) rest (n + length (aborts_in first)) (append_assoc front (aborts_in first) (aborts_in second ++ rest) ∙ ap (λ l. front ++ l) (sym (append_assoc (aborts_in first) (aborts_in second) rest)) ∙ split) (omega (arith, a, long)) order.1,
        )
    listed (repeat most test body) front rest n split long order = listed body front rest n split long order
    listed (loop test body) front rest n split long order = listed body front rest n split long order
    listed (eot i) front rest n split long order = tt
    listed (par i threads) front rest n split long order = tt
    listed (abort j weak body test) front rest n split long order =
        let a = length-append front ((weak, test) ∷ []) in (
          ap (λ l. slice_get l j) (sym split) ∙ ap (slice_get (front ++ ((weak, test) ∷ aborts_in body ++ rest))) (order.0 ∙ long) ∙ slice_get_middle front (weak, test) (aborts_in body ++ rest),
          listed body (front ++ (weak, test) ∷ []) rest (suc n) (append_assoc front ((weak, test) ∷ []) (aborts_in body ++ rest) ∙ split) (omega (arith, a, long)) order.1,
        )

    all_listed : (all : Statements) (front rest : List (Bool × Expression)) (n : ℕ) → front ++ (aborts_in_all all ++ rest) ≡ aborts → n ≡ length front → AllInOrder n all → AllListed aborts all
    all_listed none front rest n split long order = tt
    all_listed (each s more) front rest n split long order =
        let a = length-append front (aborts_in s) in (
          listed s front (aborts_in_all more ++ rest) n (ap (λ l. front ++ l) (sym (append_assoc (aborts_in s) (aborts_in_all more) rest)) ∙ split) long order.0,
          all_listed more (front ++ aborts_in s) rest (n + length (aborts_in s)) (append_assoc front (aborts_in s) (aborts_in_all more ++ rest) ∙ ap (λ l. front ++ l) (sym (append_assoc (aborts_in s) (aborts_in_all more) rest)) ∙ split) (omega (arith, a, long)) order.1,
        )

  routines_listed : (rs : List Routine) (front : List (Bool × Expression)) (n : ℕ) → front ++ aborts_of rs ≡ aborts → n ≡ length front → RoutinesInOrder n rs → RoutinesListed aborts rs
  routines_listed [] front n split long order = tt
  routines_listed (r ∷ rs) front n split long order =
      let a = length-append front (aborts_in_all r.body) in (
        all_listed r.body front (aborts_of rs) n split long order.0,
        routines_listed rs (front ++ aborts_in_all r.body) (n + length (aborts_in_all r.body)) (append_assoc front (aborts_in_all r.body) (aborts_of rs) ∙ split) (omega (arith, a, long)) order.1,
      )

pub in_order_listed : (rs : List Routine) → RoutinesInOrder 0 rs → RoutinesListed (aborts_of rs) rs
in_order_listed rs order = routines_listed (aborts_of rs) rs [] 0 refl refl order
