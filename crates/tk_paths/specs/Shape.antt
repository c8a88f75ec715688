-- A1, the shape of a certificate, and A2, the forks of one image: docs/bounds.md, "Acceptance".
use Rattle.std.specs.Prelude.{ℕ, ◌+◌, ◌==◌, ◌&&◌, ◌||◌, not, nat_lt, nat_le, Bool, true, false, if◌then◌else◌, List, [], ◌∷◌, ◌++◌, length, map, Option, Some, None}
use Rattle.std.specs.Option.{is_some}
use Rattle.std.specs.List.{list_all, flat_map, range_with_len}
use Rattle.mb_isa.specs.declared.Instr.{Instr}
use Rattle.mb_isa.specs.declared.Instr.TheVariants as instr
use Rattle.mb_isa.specs.Classes.{takes_upper}
use Rattle.pt_image.specs.declared.Point.{Point}
use Rattle.pt_image.specs.declared.Parts.{Parts}
use Rattle.pt_image.specs.Listed.{is_listed}
use Rattle.mb_pfu.specs.Calls.{last_of}
use Rattle.tk_cert.specs.declared.cert.Line.{Line}
use Rattle.tk_cert.specs.declared.cert.Line.TheVariants.{Bare, Thread, Routine}
use Rattle.tk_cert.specs.declared.cert.CertParts.{CertParts}
use Rattle.tk_cert.specs.Demands.{Demand, shape_demand}
use Rattle.tk_paths.specs.declared.word.Word.{Word}
use Rattle.tk_paths.specs.declared.word.Word.TheVariants.{Does, Imm, Jump, Branch, Fork, Eot, End, Abrt, Leave, Call, Ret, Loop, Next, Drop, Cend}
use Rattle.tk_paths.specs.Words.{instr_at}
use Rattle.tk_paths.specs.Kinds.{line_at, is_thread, is_cond, loops_of, is_inside, same_kind, word_at, places_of, start_of, abort_at, points_at, is_asked}

-- the weight of the loop at a place
abbrev pub weight_in : List (ℕ × ℕ) → ℕ → Option ℕ
weight_in [] place = None
weight_in (w ∷ weights) place = if w.0 == place then Some (w.1) else weight_in weights place

-- a level has at least one number
abbrev pub has_number : Option ℕ × Option ℕ → Bool
has_number numbers = is_some (numbers.0) || is_some (numbers.1)

abbrev pub may_follow : Option Instr → Bool
may_follow None = false
may_follow (Some i) = takes_upper i

abbrev pub is_pause_word : Option Instr → Bool
is_pause_word (Some instr.Eot) = true
is_pause_word other = false

abbrev pub is_fork_word : Option Instr → Bool
is_fork_word (Some (instr.Fork lo count)) = true
is_fork_word other = false

-- the line is that of a thread inside no loop, of which this holds
abbrev pub in_thread : Line → (ℕ → List ℕ → Bool) → Bool
in_thread (Thread slot stack loops levels) holds = length loops == 0 && holds slot stack
in_thread other holds = false

-- a list has a last one and those before it, of which this holds
abbrev pub on_last : Option (List ℕ × ℕ) → (List ℕ → ℕ → Bool) → Bool
on_last None holds = false
on_last (Some p) holds = holds p.0 p.1

-- a line may call a routine whose line is the other: it is inside no loop, and lower where the first is that of a routine
abbrev pub may_call : Line → Line → Bool
may_call (Thread slot stack loops levels) (Routine height l value) = length l == 0
may_call (Routine height loops value) (Routine h l v) = length l == 0 && nat_lt h height
may_call line other = false

-- the line is that of a routine inside no loop
abbrev pub may_return : Line → Bool
may_return (Routine height loops value) = length loops == 0
may_return other = false

-- the line is that of a thread or a routine, inside fewer than eight loops
abbrev pub may_loop : Line → Bool
may_loop (Thread slot stack loops levels) = nat_lt (length loops) 8
may_loop (Routine height loops value) = nat_lt (length loops) 8
may_loop other = false

module _ (image : Parts) (cert : CertParts) where
  -- the place of a line has the kind of this line
  abbrev pub keeps_kind : Line → ℕ → Bool
  keeps_kind line place = same_kind line (line_at cert.lines place)

  abbrev pub leads : Line → Option ℕ → Bool
  leads line None = false
  leads line (Some place) = keeps_kind line place

  -- each of these slots starts in a thread of its own
  abbrev pub children_start : ℕ → ℕ → Bool
  children_start lo count = list_all (λ child. is_thread child [] [] (line_at cert.lines (start_of image child))) (range_with_len lo count)

  -- the word of a line that says something stands and leads as it may
  abbrev pub word_is_shaped : ℕ → Line → Option Word → Bool
  word_is_shaped place line None = false
  word_is_shaped place line (Some (Does class)) = keeps_kind line (place + 1)
  word_is_shaped place line (Some (Imm upper)) = keeps_kind line (place + 1) && may_follow (instr_at image (place + 1)) && not (is_asked image cert.lines (place + 1))
  word_is_shaped place line (Some (Jump to)) = leads line to
  word_is_shaped place line (Some (Branch to)) = keeps_kind line (place + 1) && leads line to
  word_is_shaped place line (Some Eot) = in_thread line (λ slot stack. is_listed image.pauses place slot stack && keeps_kind line (place + 1))
  word_is_shaped place line (Some (Fork lo count)) =
      in_thread line (λ slot stack. is_listed image.forks place slot stack && nat_lt slot lo && nat_lt 0 count && nat_le (lo + count) (length image.slots)
      && children_start lo count && keeps_kind line (place + 1))
  word_is_shaped place line (Some End) = in_thread line (λ slot stack. length stack == 0)
  word_is_shaped place line (Some (Abrt j)) =
      in_thread line (λ slot stack. nat_lt j (length image.aborts) && nat_lt (length stack) 8 && is_thread slot (stack ++ j ∷ []) [] (line_at cert.lines (place + 1)))
  word_is_shaped place line (Some Leave) = in_thread line (λ slot stack. on_last (last_of stack) (λ outside j. is_thread slot outside [] (line_at cert.lines (place + 1))))
  word_is_shaped place line (Some (Call to)) = may_call line (line_at cert.lines to) && keeps_kind line (place + 1)
  word_is_shaped place line (Some Ret) = may_return line
  word_is_shaped place line (Some (Loop turns)) = may_loop line && is_some (weight_in cert.weights place) && is_inside line (loops_of line ++ place ∷ []) (line_at cert.lines (place + 1))
  word_is_shaped place line (Some (Next to)) =
      on_last (last_of (loops_of line)) (λ outside a. is_some (weight_in cert.weights a) && keeps_kind line (place + 1) && is_inside line outside (line_at cert.lines to))
  word_is_shaped place line (Some Drop) = on_last (last_of (loops_of line)) (λ outside a. is_inside line outside (line_at cert.lines (place + 1)))
  word_is_shaped place line (Some Cend) = is_cond line

  -- each of these aborts stands in the table; its condition has a line of its own, and its handler is in the thread outside it
  abbrev pub aborts_are_shaped : ℕ → List ℕ → List ℕ → Bool
  aborts_are_shaped slot outside [] = true
  aborts_are_shaped slot outside (j ∷ stack) =
      nat_lt j (length image.aborts) && is_cond (line_at cert.lines ((abort_at image j).cond)) && is_thread slot outside [] (line_at cert.lines ((abort_at image j).handler))
      && aborts_are_shaped slot (outside ++ j ∷ []) stack

  -- what a line says of itself: its slot and its aborts are there, and each of its levels has a number
  abbrev pub says_well : Line → Bool
  says_well (Thread slot stack loops levels) = nat_lt slot (length image.slots) && aborts_are_shaped slot [] stack && list_all has_number levels
  says_well other = true

  abbrev pub line_is_shaped : ℕ → Line → Bool
  line_is_shaped place Bare = true
  line_is_shaped place line = says_well line && word_is_shaped place line (word_at image cert.lines place)

  -- a listed pause is a pause word in a thread of its slot; likewise a listed fork
  abbrev pub pause_is_shaped : Point → Bool
  pause_is_shaped p = is_pause_word (instr_at image p.at) && is_thread p.slot p.stack [] (line_at cert.lines p.at)

  abbrev pub fork_is_shaped : Point → Bool
  fork_is_shaped p = is_fork_word (instr_at image p.at) && is_thread p.slot p.stack [] (line_at cert.lines p.at)

  abbrev pub place_is_shaped : ℕ → Bool
  place_is_shaped place = list_all pause_is_shaped (points_at image.pauses place) && list_all fork_is_shaped (points_at image.forks place) && line_is_shaped place (line_at cert.lines place)

  -- A1: the tables have the sizes of the image, and slot 0 starts in a thread of its own
  abbrev pub tables_fit : Bool
  tables_fit = length cert.lines == length image.code && length cert.slot_bounds == length image.slots && is_thread 0 [] [] (line_at cert.lines (start_of image 0))

  -- A1, shape
  abbrev pub shape : List Demand
  shape = shape_demand 1 0 tables_fit ∷ map (λ place. shape_demand 1 place (place_is_shaped place)) (places_of image)

-- the first of a fork's children and how many they are
abbrev pub children_in : Option Instr → ℕ × ℕ
children_in (Some (instr.Fork lo count)) = (lo, count)
children_in other = (0, 0)

abbrev pub children_at : Parts → ℕ → ℕ × ℕ
children_at image place = children_in (instr_at image place)

-- two ranges of slots, each a first one and a count, have one in common
abbrev pub meet : ℕ × ℕ → ℕ × ℕ → Bool
meet a b = nat_lt a.0 (b.0 + b.1) && nat_lt b.0 (a.0 + a.1)

-- the points of a list before the one for a place
abbrev pub earlier : List Point → ℕ → List Point
earlier [] place = []
earlier (p ∷ points) place = if p.at == place then [] else p ∷ earlier points place

-- the children of the fork at a place are none of an earlier fork, and slot 0 is none of them
abbrev pub is_apart : Parts → ℕ → Bool
is_apart image place = nat_lt 0 ((children_at image place).0) && list_all (λ (p : Point). not (meet (children_at image place) (children_at image p.at))) (earlier image.forks place)

-- A2: no slot is forked at two places
abbrev pub apart : Parts → List Demand
apart image = flat_map (λ place. map (λ (p : Point). shape_demand 2 place (is_apart image place)) (points_at image.forks place)) (places_of image)
