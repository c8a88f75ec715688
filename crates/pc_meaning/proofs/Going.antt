-- `main` starts and goes on.
use Rattle.std.proofs.Common.{◌≡◌, ℕ, ◌+◌, ◌<◌, List, [], ◌∷◌, ◌++◌, length, map, drop, get_or, Option, Some, None, refl, sym, ap, ◌∙◌, append_assoc}
use Rattle.std.specs.Prelude.{ℤ}
use Rattle.pc_grammar.specs.Typing.{Typing}
use Rattle.pc_meaning.specs.Tree.{Program}
use Rattle.pc_meaning.specs.Values.{Store}
use Rattle.pc_meaning.specs.Statements.{known_at, resume}
use Rattle.pc_meaning.specs.Runs.{Moment, moment_of, ticked, outputs_at, moments_from}
use Rattle.pc_meaning.specs.Programs.{rooms_of, program_of}
use Rattle.pc_meaning.specs.declared.lefts.Left.{Left}
use Rattle.pc_meaning.specs.declared.standing.Standing.TheVariants.{Unstarted, At}
use Rattle.pc_meaning.specs.Lefts.{left_of, body_of, outcome_of, FunctionStarted, Resumed}
use Rattle.pc_meaning.specs.Moments.{moment_at, standing_after, Goes}
use Rattle.pc_meaning.proofs.Calling.{all_known}
use Rattle.pc_meaning.proofs.Leaving.{drop-at}

after : (p : Program) (left : Option Left) (new : Store) → moment_at p (standing_after left) new ≡ moment_of (outcome_of p.routines (body_of p.routines p.main) left new)
after p None new = refl
after p (Some left) new = refl

pub starts_so : (t : Typing) (left : Option Left) (before old new : Store) → FunctionStarted (rooms_of t.cells) t.functions (length t.functions) t.main left old new → Goes (program_of t) Unstarted (standing_after left) before old new
starts_so t left before old new h =
    after (program_of t) left new ∙ ap moment_of h ∙ ap (λ k. moment_of (known_at k t.main old)) (all_known (rooms_of t.cells) t.functions)

pub goes_so : (t : Typing) (was : Left) (left : Option Left) (before old new : Store) → Resumed (rooms_of t.cells) t.functions before (body_of (program_of t).routines t.main) was left old new → Goes (program_of t) (At was) (standing_after left) before old new
goes_so t was left before old new h =
    after (program_of t) left new ∙ ap moment_of h
    ∙ ap (λ k. moment_of (resume (program_of t).routines k before (left_of (program_of t).routines was (body_of (program_of t).routines t.main)) old)) (all_known (rooms_of t.cells) t.functions)

-- a tick more: its outputs go behind those of the ticks before it
pub one_tick : (p : Program) (m next : Moment) (ticks new all : List (List ℤ)) (rows : List (List ℤ)) (i : ℕ) (row outs : List ℤ) → i < length rows → row ≡ get_or rows i row →
    next ≡ ticked p m row → outs ≡ outputs_at p next → new ≡ ticks ++ outs ∷ [] →
    ticks ++ map (outputs_at p) (moments_from p m (drop i rows)) ≡ all → new ++ map (outputs_at p) (moments_from p next (drop (i + 1) rows)) ≡ all
one_tick p m next ticks new all rows i row outs less is went shown pushed h =
    let rest = λ (n : Moment). map (outputs_at p) (moments_from p n (drop (i + 1) rows)) in
    ap (λ l. l ++ rest next) pushed
    ∙ append_assoc ticks (outs ∷ []) (rest next)
    ∙ ap (λ o. ticks ++ o ∷ rest next) shown
    ∙ ap (λ n. ticks ++ outputs_at p n ∷ rest n) went
    ∙ ap (λ l. ticks ++ map (outputs_at p) (moments_from p m l)) (sym (drop-at rows i row less is))
    ∙ h
