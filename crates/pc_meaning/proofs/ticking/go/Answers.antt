use Rattle.std.proofs.Common.{ℕ, List, length, sym, subst}
use Rattle.pc_grammar.specs.declared.typed.Function.{Function}
use Rattle.pc_meaning.specs.declared.places.Room.{Room}
use Rattle.pc_meaning.specs.declared.standing.Standing.{Standing}
use Rattle.pc_meaning.specs.declared.standing.Standing.TheVariants.{Unstarted, At}
use Rattle.pc_meaning.specs.Programs.{rooms_of, program_of}
use Rattle.pc_meaning.specs.Lefts.{routines_of, body_of, FunctionStarted, Resumed}
use Rattle.pc_meaning.specs.Moments.{Goes}
use Rattle.pc_meaning.proofs.Going.{starts_so, goes_so}
use Rattle.pc_meaning.proofs.ticking.go.Goals as goal

pub returns-in_ok-left-in-Unstarted-clause-went : goal.returns-in_ok-left-in-Unstarted-clause-went
returns-in_ok-left-in-Unstarted-clause-went c =
    let t = c.args.typed.now in
    let before = c.args.cells.now.before in
    let old = c.args.cells.now.current in
    let new = c.start_function.new.cells.current in
    let left = c.in_ok-left-in-Unstarted.left in
    let R : List Room → Type 0 = λ r. FunctionStarted r c.functions-functions.result.now (length c.functions-functions.result.now) c.main-main.result left old new in
    let F : List Function → Type 0 = λ f. FunctionStarted (rooms_of t.cells) f (length f) c.main-main.result left old new in
    let M : ℕ → Type 0 = λ m. FunctionStarted (rooms_of t.cells) t.functions (length t.functions) m left old new in
    let started = subst M c.main-main.ensures (subst F c.functions-functions.ensures.functions (subst R c.requires c.in_ok-left-in-Unstarted.ensures.started)) in
    let A : Standing → Type 0 = λ s. Goes (program_of t) Unstarted s before old new in
    let S : Standing → Type 0 = λ s. Goes (program_of t) s c.standing_after.result before old new in
    subst S (sym c.in-Unstarted.is) (subst A (sym c.standing_after.ensures) (starts_so t left before old new started))

pub returns-in_ok-left-in-At-clause-went : goal.returns-in_ok-left-in-At-clause-went
returns-in_ok-left-in-At-clause-went c =
    let t = c.args.typed.now in
    let before = c.args.cells.now.before in
    let old = c.args.cells.now.current in
    let new = c.resume_function.new.cells.current in
    let was = c.in-At.left in
    let left = c.in_ok-left-in-At.left in
    let R : List Room → Type 0 = λ r. Resumed r c.functions-functions.result.now before (body_of (routines_of r c.functions-functions.result.now) c.main-main.result) was left old new in
    let F : List Function → Type 0 = λ f. Resumed (rooms_of t.cells) f before (body_of (routines_of (rooms_of t.cells) f) c.main-main.result) was left old new in
    let M : ℕ → Type 0 = λ m. Resumed (rooms_of t.cells) t.functions before (body_of (routines_of (rooms_of t.cells) t.functions) m) was left old new in
    let resumed = subst M c.main-main.ensures (subst F c.functions-functions.ensures.functions (subst R c.requires c.in_ok-left-in-At.ensures.resumed)) in
    let A : Standing → Type 0 = λ s. Goes (program_of t) (At was) s before old new in
    let S : Standing → Type 0 = λ s. Goes (program_of t) s c.standing_after-in-At.result before old new in
    subst S (sym c.in-At.is) (subst A (sym c.standing_after-in-At.ensures) (goes_so t was left before old new resumed))
