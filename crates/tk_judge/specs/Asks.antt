-- What one handler, one level and one place ask.
use Rattle.std.specs.Prelude.{ℕ, ◌+◌, ◌==◌, ◌||◌, not, Bool, if◌then◌else◌, List, [], ◌++◌, map, length, Option}
use Rattle.std.specs.Option.{is_some}
use Rattle.std.specs.List.{list_any, flat_map, range_with_len}
use Rattle.mb_isa.specs.declared.Class.TheVariants as class
use Rattle.pt_image.specs.declared.Point.{Point}
use Rattle.pt_image.specs.declared.Parts.{Parts}
use Rattle.tk_cert.specs.declared.cert.Line.{Line}
use Rattle.tk_cert.specs.declared.cert.CertParts.{CertParts}
use Rattle.tk_cert.specs.Demands.{Demand, at_least, shape_demand}
use Rattle.tk_paths.specs.declared.view.Side.{Side}
use Rattle.tk_paths.specs.declared.view.Side.TheVariants.{ToPause, ToEnd}
use Rattle.tk_paths.specs.declared.view.View.TheVariants.{On}
use Rattle.tk_paths.specs.declared.word.Word.{Word}
use Rattle.tk_paths.specs.Sums.{plus, most_paused, resumed_paused}
use Rattle.tk_paths.specs.Kinds.{abort_at, points_at, line_at, word_at}
use Rattle.tk_paths.specs.Shape.{is_apart, children_at, meet}
use Rattle.tk_paths.specs.Acceptance.{more, number, cost, begins, resumed, conditions, on_side, word_edges, line_edges, word_pauses, word_forks, resumes, pause_resumes, resumed_strong, resumed_join, resumed_handlers, fork_resumes, weak_handlers, strong_handlers}
use Rattle.tk_shape.specs.Children.{restarted}
use Rattle.tk_judge.specs.declared.handlers.Rested.{Rested}

-- what a handler of an abort asks where it is weak, and where it is strong
abbrev pub if_weak : Parts → ℕ → (ℕ → List Demand) → List Demand
if_weak image j asks = if (abort_at image j).weak then asks ((abort_at image j).handler) else []

abbrev pub if_strong : Parts → ℕ → (ℕ → List Demand) → List Demand
if_strong image j asks = if (abort_at image j).weak then [] else asks ((abort_at image j).handler)

-- what is asked where this holds
abbrev pub if_any : Bool → List Demand → List Demand
if_any holds asked = if holds then asked else []

-- a fork has none of these children
abbrev pub is_clear : Parts → ℕ × ℕ → Point → Bool
is_clear image children p = not (meet children (children_at image p.at))

-- A2: the forks of a place are apart from those before them
abbrev pub apart_at : Parts → ℕ → List Demand
apart_at image place = map (λ (p : Point). shape_demand 2 place (is_apart image place)) (points_at image.forks place)

-- one of so many children has a number where it is resumed
abbrev pub has_restarted : CertParts → ℕ → ℕ → Bool
has_restarted cert child count =
    list_any (λ c. is_some (restarted cert ToPause c) || is_some (restarted cert ToEnd c)) (range_with_len child count)

module _ (image : Parts) (cert : CertParts) (costs : List ℕ) where
  -- A3: what a word asks of both numbers of a level
  abbrev pub level_edges : ℕ → Line → Option Word → ℕ → List Demand
  level_edges place line word k =
      word_edges image cert costs place line (On ToPause k) word ++ word_edges image cert costs place line (On ToEnd k) word

  abbrev pub edges_at : ℕ → List Demand
  edges_at place = line_edges image cert costs place (line_at cert.lines place)

  -- A4: what a handler asks of a pause
  abbrev pub pause_asks : ℕ → ℕ → Side → ℕ → ℕ → List Demand
  pause_asks place k side i handler =
      at_least 4 place k (number image cert costs (On side k) place) (more (cost image cert costs class.Eot) (number image cert costs (On side i) handler))

  -- what the handlers of the weak ones of so many aborts ask of it; the first has this level
  abbrev pub pause_asked : ℕ → ℕ → Side → ℕ → List ℕ → ℕ → List Demand
  pause_asked place k side level stack count = weak_handlers image cert costs (pause_asks place k side) level stack count

  abbrev pub pauses_at : ℕ → List Demand
  pauses_at place = word_pauses image cert costs place (line_at cert.lines place) (word_at image cert.lines place)

  -- A5, A6: what a handler asks after the children came to rest
  abbrev pub rested_asks : Rested → Side → ℕ → ℕ → List Demand
  rested_asks ask side i handler =
      at_least ask.condition ask.at ask.level ask.given (more ask.charge (plus ask.rest (number image cert costs (On side i) handler)))

  -- the same of the handlers of the weak ones of so many aborts
  abbrev pub rested_asked : Rested → Side → ℕ → List ℕ → ℕ → List Demand
  rested_asked ask side level stack count = weak_handlers image cert costs (rested_asks ask side) level stack count

  -- A5: what a fork asks of a level where its children pause
  abbrev pub fork_pauses : ℕ → ℕ → ℕ → ℕ → List Demand
  fork_pauses place lo count k =
      at_least 5 place k (number image cert costs (On ToPause k) place) (more (cost image cert costs class.Fork) (most_paused (begins image cert costs) lo count))

  abbrev pub forks_at : ℕ → List Demand
  forks_at place = word_forks image cert costs place (line_at cert.lines place) (word_at image cert.lines place)

  -- A6: what the handler of a strong abort asks of a slot that is resumed
  abbrev pub strong_asks : Point → Side → ℕ → ℕ → ℕ → List Demand
  strong_asks p side sum i handler = resumes image cert costs p side (more sum (number image cert costs (On side i) handler))

  -- the same of the handlers of the strong ones of aborts, after conditions of this sum
  abbrev pub strong_asked : Point → Side → ℕ → ℕ → List ℕ → List Demand
  strong_asked p side sum level stack = strong_handlers image cert costs (strong_asks p side) sum level stack

  -- A6: what all conditions and the place after a point ask, and what the children of a fork that pause ask
  abbrev pub resumed_next : Point → Side → List Demand
  resumed_next p side =
      resumes image cert costs p side (more (conditions image cert costs 0 p.stack) (number image cert costs (On side (length p.stack)) (p.at + 1)))

  abbrev pub resumed_pauses : Point → ℕ → ℕ → List Demand
  resumed_pauses p lo count =
      resumes image cert costs p ToPause (more (conditions image cert costs 0 p.stack) (resumed_paused (resumed image cert costs) lo count))

  -- A6: what a listed pause asks, and what the listed pauses and forks of a place ask
  abbrev pub pause_point : Point → List Demand
  pause_point p = pause_resumes image cert costs p ToPause ++ pause_resumes image cert costs p ToEnd

  abbrev pub fork_point : ℕ → Point → List Demand
  fork_point place p = fork_resumes image cert costs p ((children_at image place).0) ((children_at image place).1)

  -- A6: the seven lists of what a listed fork asks
  abbrev pub fork_to_pause : Point → ℕ → ℕ → List Demand
  fork_to_pause p lo count =
      resumed_strong image cert costs p ToPause ++ resumed_join image cert costs p lo count ToPause
      ++ resumes image cert costs p ToPause (more (conditions image cert costs 0 p.stack) (resumed_paused (resumed image cert costs) lo count)) ++ resumed_handlers image cert costs p lo count ToPause

  abbrev pub fork_to_end : Point → ℕ → ℕ → List Demand
  fork_to_end p lo count =
      resumed_strong image cert costs p ToEnd ++ resumed_join image cert costs p lo count ToEnd ++ resumed_handlers image cert costs p lo count ToEnd

  -- all that a listed fork asks, where one of its children has a number
  abbrev pub fork_both : Point → ℕ → ℕ → List Demand
  fork_both p lo count = fork_to_pause p lo count ++ fork_to_end p lo count

  abbrev pub resuming_at : ℕ → List Demand
  resuming_at place = flat_map pause_point (points_at image.pauses place) ++ flat_map (fork_point place) (points_at image.forks place)
