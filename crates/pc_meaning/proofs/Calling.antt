-- Functions that are started and resumed, by their numbers.
use Rattle.std.proofs.Common.{◌≡◌, ℕ, ◌<◌, ◌≤◌, List, length, get_or, Some, None, sym, ap, ◌∙◌, arith}
use Rattle.std.specs.Prelude.{slice_get, unwrap_or}
use Rattle.std.specs.Option.{option_map}
use Rattle.std.proofs.lemmas.List.{length-map}
use Rattle.std.proofs.lemmas.Option.{slice_get-map, slice_get-get_or}
use Rattle.pc_grammar.specs.declared.typed.Function.{Function}
use Rattle.pc_meaning.specs.Tree.{block}
use Rattle.pc_meaning.specs.Values.{Store, set_locals}
use Rattle.pc_meaning.specs.Outcomes.{Done}
use Rattle.pc_meaning.specs.Statements.{no_routine, routine_at, known_at, starts_of, start_routine}
use Rattle.pc_meaning.specs.declared.places.Room.{Room}
use Rattle.pc_meaning.specs.Programs.{numbering_of, locals_of, routine_of}
use Rattle.pc_meaning.specs.Lefts.{routines_of, known_of, body_of, trees, starts}
use Rattle.pc_meaning.proofs.Known.{cut_before, cut_past, cut-whole, length-starts}

module _ (rooms : List Room) (functions : List Function) where
  -- the routine of a function
  pub routine_is : (f : ℕ) (g : Function) → slice_get functions f ≡ Some g → routine_at (routines_of rooms functions) f ≡ routine_of rooms (numbering_of functions) g
  routine_is f g is =
      ap (λ o. unwrap_or o no_routine) (slice_get-map (routine_of rooms (numbering_of functions)) functions f)
      ∙ ap (λ o. unwrap_or (option_map (routine_of rooms (numbering_of functions)) o) no_routine) is

  pub no_routine_is : (f : ℕ) → slice_get functions f ≡ None → routine_at (routines_of rooms functions) f ≡ no_routine
  no_routine_is f is =
      ap (λ o. unwrap_or o no_routine) (slice_get-map (routine_of rooms (numbering_of functions)) functions f)
      ∙ ap (λ o. unwrap_or (option_map (routine_of rooms (numbering_of functions)) o) no_routine) is

  many : length (routines_of rooms functions) ≡ length functions
  many = length-map functions (routine_of rooms (numbering_of functions))

  pub there : (f : ℕ) (g : Function) → f < length functions → g ≡ get_or functions f g → slice_get functions f ≡ Some g
  there f g less is = slice_get-get_or functions f g less ∙ ap (λ x. Some x) (sym is)

  pub body_is : (f : ℕ) (g : Function) → slice_get functions f ≡ Some g → block (trees rooms functions g.body) ≡ body_of (routines_of rooms functions) f
  body_is f g is = ap (λ r. block r.body) (sym (routine_is f g is))

  -- a function that is known sets its locals and starts its body
  pub known_starts : (known f : ℕ) (g : Function) (store : Store) → f < known → known ≤ length functions → slice_get functions f ≡ Some g →
      starts rooms functions f (block (trees rooms functions g.body)) (set_locals (locals_of rooms g.locals) store) ≡ known_at (known_of rooms functions known) f store
  known_starts known f g store less few is =
      let n = many in
      ap (λ r. start_routine (routines_of rooms functions) (known_of rooms functions f) r store) (sym (routine_is f g is))
      ∙ ap (λ go. go store) (sym (cut_before (routines_of rooms functions) known f less (omega (arith, n))))

  -- and of another nothing is known
  pub unknown : (known f : ℕ) (store : Store) → known ≤ f → known_at (known_of rooms functions known) f store ≡ Done store
  unknown known f store past = ap (λ go. go store) (cut_past (routines_of rooms functions) known f past)

  pub all_known : known_of rooms functions (length functions) ≡ starts_of (routines_of rooms functions)
  all_known = cut-whole (starts_of (routines_of rooms functions)) (length functions) (length-starts (routines_of rooms functions) ∙ many)
