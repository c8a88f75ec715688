-- What acceptance says of a place, by its word.
use Rattle.std.proofs.Common.{◌≡◌, ◌≤◌, ◌<◌, ◌+◌, ◌*◌, ◌-◌, ◌&&◌, ◌==◌, min, ℕ, ℤ, zero, suc, Bool, true, false, not, nat_le, nat_lt, if◌then◌else◌, List, [], ◌∷◌, ◌++◌, reverse, length, slice_get, slice_index_or, is_some, Option, Some, None, refl, sym, ap, ◌∙◌, subst, inl, arith, eqb-true}
use Rattle.std.proofs.lemmas.Bool.{and_parts, false≢true}
use Rattle.std.proofs.lemmas.List.{length-reverse}
use Rattle.std.proofs.lemmas.Option.{none-some, same_Some}
use Rattle.std.specs.List.{range_with_len}
use Rattle.mb_isa.specs.declared.Class.{Class}
use Rattle.mb_isa.specs.declared.Class.TheVariants as class
use Rattle.mb_isa.specs.Costs.{cost_of}
use Rattle.pt_image.specs.declared.Parts.{Parts}
use Rattle.pt_image.specs.Listed.{is_listed}
use Rattle.mb_pfu.specs.Calls.{last_of}
use Rattle.tk_cert.specs.declared.cert.Line.{Line}
use Rattle.tk_cert.specs.declared.cert.Line.TheVariants as line
use Rattle.tk_cert.specs.declared.cert.CertParts.{CertParts}
use Rattle.tk_cert.specs.Shapes.{IsShaped}
use Rattle.tk_cert.specs.Demands.{Demand, at_least, AllHold}
use Rattle.tk_paths.specs.declared.view.Side.{Side}
use Rattle.tk_paths.specs.declared.view.Side.TheVariants.{ToPause, ToEnd}
use Rattle.tk_paths.specs.Sums.{plus, or_zero, lowered, all_ends, most_paused}
use Rattle.tk_paths.specs.declared.word.Word.{Word}
use Rattle.tk_paths.specs.declared.word.Word.TheVariants.{Does, Imm, Jump, Branch, Fork, Eot, End, Abrt, Leave, Call, Ret, Loop, Next, Drop, Cend}
use Rattle.tk_paths.specs.Words.{instr_at}
use Rattle.tk_paths.specs.Kinds.{line_at, is_thread, is_cond, loops_of, is_inside, upper_at, word_at, start_of, abort_at, place_in, asked_by_word, is_asked}
use Rattle.tk_paths.specs.Shape.{weight_in, may_follow, on_last, may_call, may_return, may_loop, keeps_kind, children_start, word_is_shaped}
use Rattle.tk_paths.specs.declared.view.View.{View}
use Rattle.tk_paths.specs.declared.view.View.TheVariants.{On, Value}
use Rattle.tk_paths.specs.Acceptance.{level_of, stack_of, levels, views_of, more, number, value, weight, begins, weak_handlers, edge, closing, inner_weight, word_edges, pause_handlers, pause_at_level, word_pauses, fork_ends, fork_handlers, fork_at_level, word_forks}
use Rattle.tk_paths.proofs.Inner.{Image}
use Rattle.tk_paths.proofs.Conditions.{Cert, Bare, Thread, Routine, Cond, IsBare, Fits, seen, Pays, Reach, IsPlain, IsAt, AreAborts, ThreadIs, LoopsAre, InnerIs, Below, Views, Levels, with_loops, IsThreadFine}
use Rattle.tk_paths.proofs.Conditions as kinds
use Rattle.tk_paths.proofs.BySums.{Asks, EachWeak, PausesPay, ForksPay, IsFineWritten}
use Rattle.tk_paths.proofs.Lists.{IsAmong, all-left, all-right, all-flat, among-range, all-passes, three_parts}
use Rattle.tk_paths.proofs.Accepts.{Accepts, Holding, among-flat, asks-of, reach-of, turn-of, nothing, views-hold, levels-hold, thread-is, thread-fact, loops-are}
use Rattle.tk_paths.proofs.Places.{IsSpoken, upper_of, I, C, goal-plain, next-upper, shaped-at}
use Rattle.tk_paths.proofs.Carried.{short, kind_of, lt-true, le-true, short-is, thread-kind, cond-kind, same-kind, IsLooping, inside-kind, reverse-last, last-is}

looping-loop : (line : Line) → may_loop line ≡ true → IsLooping line
looping-loop line.Bare h = absurd (false≢true h)
looping-loop (line.Thread s a l v) h = tt
looping-loop (line.Routine g l v) h = tt
looping-loop (line.Cond v) h = absurd (false≢true h)

few-loops : (line : Line) → may_loop line ≡ true → length (loops_of line) < 8
few-loops line.Bare h = absurd (false≢true h)
few-loops (line.Thread s a l v) h = lt-true (length l) 8 h
few-loops (line.Routine g l v) h = lt-true (length l) 8 h
few-loops (line.Cond v) h = absurd (false≢true h)

looping-last : (line : Line) (p : List ℕ × ℕ) → last_of (loops_of line) ≡ Some p → IsLooping line
looping-last line.Bare p h = absurd (none-some p h)
looping-last (line.Thread s a l v) p h = tt
looping-last (line.Routine g l v) p h = tt
looping-last (line.Cond v) p h = absurd (none-some p h)

pub some-there : (o : Option ℕ) → is_some o ≡ true → (n : ℕ) × (o ≡ Some n)
some-there None h = absurd (false≢true h)
some-there (Some n) h = (n, refl)

on-last : (o : Option (List ℕ × ℕ)) (f : List ℕ → ℕ → Bool) → on_last o f ≡ true → (p : List ℕ × ℕ) × (o ≡ Some p) × (f p.0 p.1 ≡ true)
on-last None f h = absurd (false≢true h)
on-last (Some p) f h = (p, refl, h)

length-last : (l : List ℕ) (x : ℕ) → length (l ++ x ∷ []) ≡ length l + 1
length-last [] x = refl
length-last (y ∷ l) x = let e = length-last l x in omega (arith, e)

four_parts : (p q r t : Bool) → (p && q && r && t) ≡ true → (p ≡ true) × (q ≡ true) × (r ≡ true) × (t ≡ true)
four_parts p q r t h = let x = and_parts (p && q && r) t h in let y = three_parts p q r x.0 in (y.0, y.1, y.2, x.1)

six_parts : (p q r t u v : Bool) → (p && q && r && t && u && v) ≡ true → (p ≡ true) × (q ≡ true) × (r ≡ true) × (t ≡ true) × (u ≡ true) × (v ≡ true)
six_parts p q r t u v h = let x = and_parts (p && q && r && t && u) v h in let z = and_parts (p && q && r && t) u x.0 in let y = four_parts p q r t z.0 in (y.0, y.1, y.2, y.3, z.1, x.1)

module _ (image : Parts) (cert : CertParts) (costs : List ℕ) (a : Accepts image cert costs) where
  abbrev pub E : Image
  E = I image cert costs a

  abbrev pub D : Cert
  D = C image cert costs a

  -- what a routine's line is to the line that calls it
  pub record Called (line other : Line) : Type 0 where
    pub height : ℕ
    pub kind : kind_of other ≡ Routine height []
    pub least : 1 ≤ height
    pub most : height ≤ 16
    pub below : Below E D (kind_of line) height

  calls : (line other : Line) → length (loops_of line) ≤ 8 → IsShaped other → may_call line other ≡ true → Called line other
  calls line.Bare other few sh h = absurd (false≢true h)
  calls (line.Thread s b l v) line.Bare few sh h = absurd (false≢true h)
  calls (line.Thread s b l v) (line.Thread t c m u) few sh h = absurd (false≢true h)
  calls (line.Thread s b l v) (line.Routine g m u) few sh h =
      let e : m ≡ [] = nothing m h in
      let B : kinds.Line → Type 0 = λ k. Below E D k g in
      record { height = g; kind = ap (λ x. short x (Routine g (reverse x))) e; least = sh.0; most = sh.1; below = subst B (sym (short-is l (Thread s b (reverse l)) few)) tt }
  calls (line.Thread s b l v) (line.Cond u) few sh h = absurd (false≢true h)
  calls (line.Routine f l v) line.Bare few sh h = absurd (false≢true h)
  calls (line.Routine f l v) (line.Thread t c m u) few sh h = absurd (false≢true h)
  calls (line.Routine f l v) (line.Routine g m u) few sh h =
      let p = and_parts (length m == 0) (nat_lt g f) h in
      let e : m ≡ [] = nothing m p.0 in
      let B : kinds.Line → Type 0 = λ k. Below E D k g in
      record { height = g; kind = ap (λ x. short x (Routine g (reverse x))) e; least = sh.0; most = sh.1; below = subst B (sym (short-is l (Routine f (reverse l)) few)) (lt-true g f p.1) }
  calls (line.Routine f l v) (line.Cond u) few sh h = absurd (false≢true h)
  calls (line.Cond v) other few sh h = absurd (false≢true h)

  returns : (line : Line) → may_return line ≡ true → (h : ℕ) × (kind_of line ≡ Routine h []) × IsAmong Value (views_of line)
  returns line.Bare h = absurd (false≢true h)
  returns (line.Thread s b l v) h = absurd (false≢true h)
  returns (line.Routine g l v) h = (g, ap (λ x. short x (Routine g (reverse x))) (nothing l h), inl refl)
  returns (line.Cond v) h = absurd (false≢true h)

  cond-view : (line : Line) → is_cond line ≡ true → IsAmong Value (views_of line)
  cond-view line.Bare h = absurd (false≢true h)
  cond-view (line.Thread s b l v) h = absurd (false≢true h)
  cond-view (line.Routine g l v) h = absurd (false≢true h)
  cond-view (line.Cond v) h = inl refl

  pub weak-each : (f : ℕ → ℕ → List Demand) (P : ℕ → ℕ → Type 0) → ((i h : ℕ) → AllHold (f i h) → P i h) → (i : ℕ) (b : List ℕ) (k : ℕ) → AllHold (weak_handlers image cert costs f i b k) → EachWeak E D P i b k
  weak-each f P each i [] k h = tt
  weak-each f P each i (j ∷ b) zero h = tt
  weak-each f P each i (j ∷ b) (suc k) h =
      let w = (abort_at image j).weak in
      let handler = (abort_at image j).handler in
      let A : Bool → Type 0 = λ x. AllHold (if x then f i handler else []) in (
        λ e. each i handler (subst A e (all-left Holding (if w then f i handler else []) (weak_handlers image cert costs f (i + 1) b k) h)),
        weak-each f P each (i + 1) b k (all-right Holding (if w then f i handler else []) (weak_handlers image cert costs f (i + 1) b k) h),
      )

  pause-handlers-pay : (place : ℕ) (b : List ℕ) (k : ℕ) (side : Side) → AllHold (pause_handlers image cert costs place b k side) →
      EachWeak E D (λ i h. Asks (D.number side k place) (plus (Some (E.cost class.Eot)) (D.number side i h))) 0 b k
  pause-handlers-pay place b k side h =
      weak-each (λ i handler. at_least 4 place k (number image cert costs (On side k) place) (more (cost_of costs class.Eot) (number image cert costs (On side i) handler)))
      (λ i h. Asks (D.number side k place) (plus (Some (E.cost class.Eot)) (D.number side i h)))
      (λ i h x. asks-of 4 place k (number image cert costs (On side k) place) (more (cost_of costs class.Eot) (number image cert costs (On side i) h)) x) 0 b k h

  abbrev pub on_sides : (Side → Type 0) → Type 0
  on_sides P = (side : Side) → P side

  pub both : (P : Side → Type 0) → P ToPause → P ToEnd → on_sides P
  both P p e ToPause = p
  both P p e ToEnd = e

  pause-pays : (place : ℕ) (b : List ℕ) (k : ℕ) → AllHold (pause_at_level image cert costs place b k) → PausesPay E D place b k
  pause-pays place b k h =
      let first = at_least 4 place k (number image cert costs (On ToPause k) place) (Some (cost_of costs class.Eot)) in
      let p = pause_handlers image cert costs place b k ToPause in
      let e = pause_handlers image cert costs place b k ToEnd in
      let front = all-left Holding (first ++ p) e h in
      record {
        itself = asks-of 4 place k (number image cert costs (On ToPause k) place) (Some (cost_of costs class.Eot)) (all-left Holding first p front);
        handlers = both (λ side. EachWeak E D (λ i h. Asks (D.number side k place) (plus (Some (E.cost class.Eot)) (D.number side i h))) 0 b k)
            (pause-handlers-pay place b k ToPause (all-right Holding first p front)) (pause-handlers-pay place b k ToEnd (all-right Holding (first ++ p) e h));
      }

  fork-handlers-pay : (place lo n : ℕ) (b : List ℕ) (k : ℕ) (side : Side) → AllHold (fork_handlers image cert costs place b lo n k side) →
      EachWeak E D (λ i h. Asks (D.number side k place) (plus (Some (E.cost class.Fork)) (plus (most_paused (begins image cert costs) lo n) (D.number side i h)))) 0 b k
  fork-handlers-pay place lo n b k side h =
      let g = most_paused (begins image cert costs) lo n in
      weak-each (λ i handler. at_least 5 place k (number image cert costs (On side k) place) (more (cost_of costs class.Fork) (plus g (number image cert costs (On side i) handler))))
      (λ i h. Asks (D.number side k place) (plus (Some (E.cost class.Fork)) (plus g (D.number side i h))))
      (λ i h x. asks-of 5 place k (number image cert costs (On side k) place) (more (cost_of costs class.Fork) (plus g (number image cert costs (On side i) h))) x) 0 b k h

  fork-pays : (place lo n : ℕ) (b : List ℕ) (k : ℕ) → AllHold (fork_at_level image cert costs place b lo n k) → ForksPay E D place lo n b k
  fork-pays place lo n b k h =
      let needed = more (cost_of costs class.Fork) (most_paused (begins image cert costs) lo n) in
      let ends : Side → Option ℕ = λ side. more (cost_of costs class.Fork) (plus (all_ends (begins image cert costs) lo n) (number image cert costs (On side k) (place + 1))) in
      let x1 = fork_ends image cert costs place lo n k ToPause in
      let x2 = at_least 5 place k (number image cert costs (On ToPause k) place) needed in
      let x3 = fork_handlers image cert costs place b lo n k ToPause in
      let x4 = fork_ends image cert costs place lo n k ToEnd in
      let x5 = fork_handlers image cert costs place b lo n k ToEnd in
      let h4 = all-left Holding (x1 ++ x2 ++ x3 ++ x4) x5 h in
      let h3 = all-left Holding (x1 ++ x2 ++ x3) x4 h4 in
      let h2 = all-left Holding (x1 ++ x2) x3 h3 in
      record {
        ends = both (λ side. Asks (D.number side k place) (ends side))
            (asks-of 5 place k (number image cert costs (On ToPause k) place) (ends ToPause) (all-left Holding x1 x2 h2))
            (asks-of 5 place k (number image cert costs (On ToEnd k) place) (ends ToEnd) (all-right Holding (x1 ++ x2 ++ x3) x4 h4));
        itself = asks-of 5 place k (number image cert costs (On ToPause k) place) needed (all-right Holding x1 x2 h2);
        handlers = both (λ side. EachWeak E D (λ i h. Asks (D.number side k place) (plus (Some (E.cost class.Fork)) (plus (most_paused (begins image cert costs) lo n) (D.number side i h)))) 0 b k)
            (fork-handlers-pay place lo n b k ToPause (all-right Holding (x1 ++ x2) x3 h3)) (fork-handlers-pay place lo n b k ToEnd (all-right Holding (x1 ++ x2 ++ x3 ++ x4) x5 h));
      }

  -- a place with a line that says something, and its word
  pub record Here (place : ℕ) (line : Line) (w : Word) : Type 0 where
    pub line_is : line_at cert.lines place ≡ line
    pub spoken : IsSpoken line
    pub few : length (loops_of line) ≤ 8
    pub shaped : IsShaped line
    pub word : word_at image cert.lines place ≡ Some w
    pub stands : word_is_shaped image cert place line (Some w) ≡ true
    pub edged : (view : View) → IsAmong view (views_of line) → AllHold (word_edges image cert costs place line view (Some w))
    pub paused : AllHold (word_pauses image cert costs place line (Some w))
    pub forked : AllHold (word_forks image cert costs place line (Some w))

  module _ (place : ℕ) (line : Line) where
    edge-of : (view : View) (charge next : ℕ) → AllHold (edge image cert costs place view charge next) → Reach (seen D view place) charge (seen D view next)
    edge-of (On side k) charge next h = reach-of 3 place k charge (number image cert costs (On side k) place) (number image cert costs (On side k) next) h
    edge-of Value charge next h = reach-of 3 place 0 charge (number image cert costs Value place) (number image cert costs Value next) h

    turn-edge : (view : View) (w charge next : ℕ) → AllHold (at_least 3 place (level_of view) (number image cert costs view place) (lowered w (more charge (number image cert costs view next)))) →
        (n : ℕ) → seen D view next ≡ Some n → (m : ℕ) × (seen D view place ≡ Some m) × (charge + n ≤ m + w)
    turn-edge (On side k) w charge next h = turn-of 3 place k w charge (number image cert costs (On side k) place) (number image cert costs (On side k) next) h
    turn-edge Value w charge next h = turn-of 3 place 0 w charge (number image cert costs Value place) (number image cert costs Value next) h

    module _ (w : Word) (x : Here place line w) where
      all-views : (P : View → Type 0) → ((view : View) → AllHold (word_edges image cert costs place line view (Some w)) → P view) → Views E D (kind_of line) P
      all-views P f = views-hold image cert costs P line x.shaped x.few (λ view among. f view (x.edged view among))

      -- a place of the same kind that is read plain
      at-same : (to : ℕ) → upper_at image cert.lines to ≡ None → keeps_kind image cert line to ≡ true → IsAt E D to (kind_of line)
      at-same to p k = (same-kind line (line_at cert.lines to) x.few k, p)

      at-next : upper_of w ≡ None → keeps_kind image cert line (place + 1) ≡ true → IsAt E D (place + 1) (kind_of line)
      at-next u k = at-same (place + 1) (next-upper image cert costs a place line w x.line_is x.spoken x.word ∙ u) k

      next-plain : upper_of w ≡ None → upper_at image cert.lines (place + 1) ≡ None
      next-plain u = next-upper image cert costs a place line w x.line_is x.spoken x.word ∙ u

      goal : (to : ℕ) → IsAmong to (asked_by_word image line (Some w)) → upper_at image cert.lines to ≡ None
      goal to h = goal-plain image cert costs a place to line w x.line_is x.spoken x.word h

      on-level : (s : ℕ) (b : List ℕ) (side : Side) (k : ℕ) → kind_of line ≡ Thread s b [] → k ≤ length b → AllHold (word_edges image cert costs place line (On side k) (Some w))
      on-level s b side k e within = all-views (λ view. AllHold (word_edges image cert costs place line view (Some w))) (λ view h. h) (On side k) (subst (Fits (On side k)) (sym e) within)

    fine-does : (c : Class) → Here place line (Does c) → IsFineWritten E D place (kind_of line) (Does c)
    fine-does c x = (at-next (Does c) x refl x.stands, all-views (Does c) x _ (λ view h. edge-of view (cost_of costs c) (place + 1) h))

    fine-imm : (u : ℤ) → Here place line (Imm u) → IsFineWritten E D place (kind_of line) (Imm u)
    fine-imm u x = (
      same-kind line (line_at cert.lines (place + 1)) x.few (three_parts (keeps_kind image cert line (place + 1)) (may_follow (instr_at image (place + 1))) (not (is_asked image cert.lines (place + 1))) x.stands).0,
      next-upper image cert costs a place line (Imm u) x.line_is x.spoken x.word,
      all-views (Imm u) x _ (λ view h. edge-of view (cost_of costs class.Imm) (place + 1) h),
    )

    fine-jump : (to : ℕ) → Here place line (Jump (Some to)) → IsFineWritten E D place (kind_of line) (Jump (Some to))
    fine-jump to x = (at-same (Jump (Some to)) x to (goal (Jump (Some to)) x to (inl refl)) x.stands, all-views (Jump (Some to)) x _ (λ view h. edge-of view (cost_of costs class.Jump) to h))

    fine-branch : (to : ℕ) → Here place line (Branch (Some to)) → IsFineWritten E D place (kind_of line) (Branch (Some to))
    fine-branch to x =
        let w = Branch (Some to) in
        let p = and_parts (keeps_kind image cert line (place + 1)) (keeps_kind image cert line to) x.stands in
        let un : View → List Demand = λ view. edge image cert costs place view (cost_of costs class.Untaken) (place + 1) in
        let ta : View → List Demand = λ view. edge image cert costs place view (cost_of costs class.Taken) to in (
          at-next w x refl p.0,
          at-same w x to (goal w x to (inl refl)) p.1,
          all-views w x _ (λ view h. edge-of view (cost_of costs class.Untaken) (place + 1) (all-left Holding (un view) (ta view) h)),
          all-views w x _ (λ view h. edge-of view (cost_of costs class.Taken) to (all-right Holding (un view) (ta view) h)),
        )

    fine-eot : Here place line Eot → IsFineWritten E D place (kind_of line) Eot
    fine-eot x =
        let f : ℕ → List ℕ → Bool = λ slot stack. is_listed image.pauses place slot stack && keeps_kind image cert line (place + 1) in
        let t = thread-fact image cert costs line f x.stands in
        let q = and_parts (is_listed image.pauses place t.0 t.1) (keeps_kind image cert line (place + 1)) t.2 in (
          at-next Eot x refl q.1,
          thread-is image cert costs _ line f x.shaped x.stands
              (λ s b e n kind h. (
                (and_parts (is_listed image.pauses place s b) (keeps_kind image cert line (place + 1)) h).0,
                levels-hold image cert costs _ line b n
                    (λ k among. pause-pays place b k
                    (let A : List ℕ → Type 0 = λ y. AllHold (pause_at_level image cert costs place y k) in subst A e (all-flat Holding (pause_at_level image cert costs place (stack_of line)) (levels line) k x.paused among))),
              )),
        )

    fine-fork : (lo n : ℕ) → Here place line (Fork lo n) → IsFineWritten E D place (kind_of line) (Fork lo n)
    fine-fork lo n x =
        let w = Fork lo n in
        let keeps = keeps_kind image cert line (place + 1) in
        let starts = children_start image cert lo n in
        let f : ℕ → List ℕ → Bool = λ slot stack. is_listed image.forks place slot stack && nat_lt slot lo && nat_lt 0 n && nat_le (lo + n) (length image.slots) && starts && keeps in
        let t = thread-fact image cert costs line f x.stands in
        let q = six_parts (is_listed image.forks place t.0 t.1) (nat_lt t.0 lo) (nat_lt 0 n) (nat_le (lo + n) (length image.slots)) starts keeps t.2 in (
          at-next w x refl q.5,
          thread-is image cert costs _ line f x.shaped x.stands
              (λ s b e m kind h.
              let p = six_parts (is_listed image.forks place s b) (nat_lt s lo) (nat_lt 0 n) (nat_le (lo + n) (length image.slots)) starts keeps h in
              let room = le-true (lo + n) (length image.slots) p.3 in (
                p.0,
                lt-true s lo p.1,
                (let z = lt-true 0 n p.2 in omega (arith, z)),
                room,
                λ c low high. child c low high room p.4,
                levels-hold image cert costs _ line b m
                    (λ k among. fork-pays place lo n b k
                    (let A : List ℕ → Type 0 = λ y. AllHold (fork_at_level image cert costs place y lo n k) in subst A e (all-flat Holding (fork_at_level image cert costs place (stack_of line) lo n) (levels line) k x.forked among))),
              )),
        )
      where
        start-there : (slots : List ℕ) (c : ℕ) → c < length slots → (p : ℕ) × (slice_get slots c ≡ Some p) × (slice_index_or slots c 0 ≡ p)
        start-there [] c h = absurd (omega (arith, h))
        start-there (y ∷ slots) zero h = (y, refl, refl)
        start-there (y ∷ slots) (suc c) h = start-there slots c (omega (arith, h))

        child : (c : ℕ) → lo ≤ c → c < lo + n → lo + n ≤ length image.slots → children_start image cert lo n ≡ true → IsAt E D (start_of image c) (Thread c [] [])
        child c low high room h =
            let kind = all-passes (λ z. is_thread z [] [] (line_at cert.lines (start_of image z))) (range_with_len lo n) c h (among-range lo n c low high) in
            let s = start-there image.slots c (omega (arith, high, room)) in
            let A : Option ℕ → Type 0 = λ o. IsAmong s.0 (place_in o) in
            let U : ℕ → Type 0 = λ p. upper_at image cert.lines p ≡ None in (
              thread-kind (line_at cert.lines (start_of image c)) c [] [] kind (omega arith),
              subst U (sym s.2)
                  (goal (Fork lo n) x s.0 (among-flat (λ z. place_in (slice_get image.slots z)) c s.0 (range_with_len lo n) (among-range lo n c low high) (subst A (sym s.1) (inl refl)))),
            )

    fine-end : Here place line End → IsFineWritten E D place (kind_of line) End
    fine-end x =
        thread-is image cert costs _ line (λ slot stack. length stack == 0) x.shaped x.stands
        (λ s b e n kind h. (nothing b h, asks-of 3 place 0 (number image cert costs (On ToEnd 0) place) (Some (cost_of costs class.End)) (on-level End x s b ToEnd 0 kind (omega arith))))

    fine-abrt : (j : ℕ) → Here place line (Abrt j) → IsFineWritten E D place (kind_of line) (Abrt j)
    fine-abrt j x =
        let next = line_at cert.lines (place + 1) in
        thread-is image cert costs _ line (λ slot stack. nat_lt j (length image.aborts) && nat_lt (length stack) 8 && is_thread slot (stack ++ j ∷ []) [] next) x.shaped x.stands
        (λ s b e n kind h.
        let p = three_parts (nat_lt j (length image.aborts)) (nat_lt (length b) 8) (is_thread s (b ++ j ∷ []) [] next) h in (
          p.0,
          lt-true (length b) 8 p.1,
          (thread-kind next s (b ++ j ∷ []) [] p.2 (omega arith), next-plain (Abrt j) x refl),
          λ k within side. edge-of (On side k) (cost_of costs class.Abrt) (place + 1) (on-level (Abrt j) x s b side k kind within),
        ))

    fine-leave : Here place line Leave → IsFineWritten E D place (kind_of line) Leave
    fine-leave x =
        let next = line_at cert.lines (place + 1) in
        thread-is image cert costs _ line (λ slot stack. on_last (last_of stack) (λ outside j. is_thread slot outside [] next)) x.shaped x.stands
        (λ s b e n kind h.
        let l = on-last (last_of b) (λ outside j. is_thread s outside [] next) h in
        let outside = l.0.0 in
        let is : b ≡ outside ++ l.0.1 ∷ [] = last-is b outside l.0.1 l.1 in
        let size : length b ≡ length outside + 1 = ap length is ∙ length-last outside l.0.1 in (
          outside,
          l.0.1,
          is,
          (thread-kind next s outside [] l.2 (omega arith), next-plain Leave x refl),
          λ k within side.
              let inner : length (stack_of line) - 1 ≡ length outside = let z : length (stack_of line) ≡ length b = ap length e in omega (arith, z, size) in
              let R : ℕ → Type 0 = λ m. Reach (D.number side k place) (cost_of costs class.Leave) (D.number side (min k m) (place + 1)) in
              subst R inner
              (reach-of 3 place k (cost_of costs class.Leave) (number image cert costs (On side k) place) (number image cert costs (On side (min k (length (stack_of line) - 1))) (place + 1)) (on-level Leave x s b side k kind within)),
        ))

    fine-call : (to : ℕ) → Here place line (Call to) → IsFineWritten E D place (kind_of line) (Call to)
    fine-call to x =
        let w = Call to in
        let p = and_parts (may_call line (line_at cert.lines to)) (keeps_kind image cert line (place + 1)) x.stands in
        let c = calls line (line_at cert.lines to) x.few (shaped-at image cert costs a to) p.0 in (
          at-next w x refl p.1,
          c.height,
          (c.kind, goal w x to (inl refl)),
          c.least,
          c.most,
          c.below,
          all-views w x _ (λ view h. edge-of view (cost_of costs class.Call + value image cert costs to) (place + 1) h),
        )

    closed : (c : Class) → IsAmong Value (views_of line) → AllHold (closing image cert costs place c Value) → cost_of costs c ≤ value image cert costs place
    closed c v h =
        let v = value image cert costs place in
        let p : Pays (Some v) (cost_of costs c) = asks-of 3 place 0 (number image cert costs Value place) (Some (cost_of costs c)) h in
        let e : v ≡ p.0 = same_Some v p.0 p.1 in
        let q = p.2 in
        omega (arith, e, q)

    fine-ret : Here place line Ret → IsFineWritten E D place (kind_of line) Ret
    fine-ret x = let r = returns line x.stands in (r.0, r.1, closed class.Ret r.2 (x.edged Value r.2))

    fine-cend : Here place line Cend → IsFineWritten E D place (kind_of line) Cend
    fine-cend x = let v = cond-view line x.stands in (cond-kind line x.stands, closed class.Cend v (x.edged Value v))

    fine-loop : (turns : ℕ) → Here place line (Loop turns) → IsFineWritten E D place (kind_of line) (Loop turns)
    fine-loop turns x =
        let w = Loop turns in
        let loops = loops_of line in
        let next = line_at cert.lines (place + 1) in
        let p = three_parts (may_loop line) (is_some (weight_in cert.weights place)) (is_inside line (loops ++ place ∷ []) next) x.stands in
        let few = few-loops line p.0 in
        let n = some-there (weight_in cert.weights place) p.1 in
        let same : weight image cert costs place ≡ n.0 = ap or_zero n.1 in
        let size : length (loops ++ place ∷ []) ≤ 8 = let z = length-last loops place in omega (arith, few, z) in
        let kind : kind_of next ≡ with_loops (kind_of line) (place ∷ reverse loops) =
        inside-kind line next (loops ++ place ∷ []) (looping-loop line p.0) x.few size p.2 ∙ ap (with_loops (kind_of line)) (reverse-last loops place) in
        let V : ℕ → Type 0 = λ m. Views E D (kind_of line) (λ view. Reach (seen D view place) (cost_of costs class.Loop + turns * m) (seen D view (place + 1))) in
        loops-are image cert costs
        (λ l. (length l < 8) × (m : ℕ) × (D.weight place ≡ Some m) × IsAt E D (place + 1) (with_loops (kind_of line) (place ∷ l)) × Views E D (kind_of line) (λ view. Reach (seen D view place) (cost_of costs class.Loop + turns * m) (seen D view (place + 1))))
        line (looping-loop line p.0) x.few (
          (let z = length-reverse loops in omega (arith, few, z)),
          n.0,
          n.1,
          (kind, next-plain w x refl),
          subst V same (all-views w x _ (λ view h. edge-of view (cost_of costs class.Loop + turns * weight image cert costs place) (place + 1) h)),
        )

    fine-next : (to : ℕ) → Here place line (Next to) → IsFineWritten E D place (kind_of line) (Next to)
    fine-next to x =
        let w = Next to in
        let loops = loops_of line in
        let f : List ℕ → ℕ → Bool = λ outside b. is_some (weight_in cert.weights b) && keeps_kind image cert line (place + 1) && is_inside line outside (line_at cert.lines to) in
        let l = on-last (last_of loops) f x.stands in
        let outside = l.0.0 in
        let b = l.0.1 in
        let p = three_parts (is_some (weight_in cert.weights b)) (keeps_kind image cert line (place + 1)) (is_inside line outside (line_at cert.lines to)) l.2 in
        let is : loops ≡ outside ++ b ∷ [] = last-is loops outside b l.1 in
        let back : reverse loops ≡ b ∷ reverse outside = ap reverse is ∙ reverse-last outside b in
        let looping = looping-last line l.0 l.1 in
        let small : length outside ≤ 8 = let z : length loops ≡ length outside + 1 = ap length is ∙ length-last outside b in let few : length loops ≤ 8 = x.few in omega (arith, z, few) in
        let n = some-there (weight_in cert.weights b) p.0 in
        let same : inner_weight image cert costs (last_of loops) ≡ n.0 = ap (inner_weight image cert costs) l.1 ∙ ap or_zero n.1 in
        let turn : View → List Demand = λ view. at_least 3 place (level_of view) (number image cert costs view place) (lowered (inner_weight image cert costs (last_of loops)) (more (cost_of costs class.Next) (number image cert costs view (place + 1)))) in
        let over : View → List Demand = λ view. edge image cert costs place view (cost_of costs class.Next) to in
        let Q : ℕ → List ℕ → Type 0 = λ c m. (v : ℕ) × (D.weight c ≡ Some v) × IsAt E D (place + 1) (kind_of line) × IsAt E D to (with_loops (kind_of line) m)
        × Views E D (kind_of line) (λ view. (n : ℕ) → seen D view (place + 1) ≡ Some n → (q : ℕ) × (seen D view place ≡ Some q) × (cost_of costs class.Next + n ≤ q + v))
        × Views E D (kind_of line) (λ view. Reach (seen D view place) (cost_of costs class.Next) (seen D view to)) in
        let I' : List ℕ → Type 0 = λ m. InnerIs E D m Q in
        let V : ℕ → Type 0 = λ v. Views E D (kind_of line) (λ view. (n : ℕ) → seen D view (place + 1) ≡ Some n → (q : ℕ) × (seen D view place ≡ Some q) × (cost_of costs class.Next + n ≤ q + v)) in
        loops-are image cert costs I' line looping x.few
        (subst I' (sym back) (
          n.0,
          n.1,
          at-next w x refl p.1,
          (inside-kind line (line_at cert.lines to) outside looping x.few small p.2, goal w x to (goes-out loops b outside is)),
          subst V same (all-views w x _ (λ view h. turn-edge view (inner_weight image cert costs (last_of loops)) (cost_of costs class.Next) (place + 1) (all-left Holding (turn view) (over view) h))),
          all-views w x _ (λ view h. edge-of view (cost_of costs class.Next) to (all-right Holding (turn view) (over view) h)),
        ))
      where
        by : (m : ℕ) (t : Bool) → (m == 0) ≡ t → (m ≡ 0 → ⊥) → IsAmong to (if t then [] else to ∷ [])
        by m true e h = absurd (h (eqb-true m 0 e))
        by m false e h = inl refl

        goes-out : (l : List ℕ) (b : ℕ) (outside : List ℕ) → l ≡ outside ++ b ∷ [] → IsAmong to (if length l == 0 then [] else to ∷ [])
        goes-out l b outside is = by (length l) (length l == 0) refl (λ z. let y : length l ≡ length outside + 1 = ap length is ∙ length-last outside b in omega (arith, y, z))

    fine-drop : Here place line Drop → IsFineWritten E D place (kind_of line) Drop
    fine-drop x =
        let loops = loops_of line in
        let next = line_at cert.lines (place + 1) in
        let l = on-last (last_of loops) (λ outside b. is_inside line outside next) x.stands in
        let outside = l.0.0 in
        let b = l.0.1 in
        let is : loops ≡ outside ++ b ∷ [] = last-is loops outside b l.1 in
        let back : reverse loops ≡ b ∷ reverse outside = ap reverse is ∙ reverse-last outside b in
        let looping = looping-last line l.0 l.1 in
        let small : length outside ≤ 8 = let z : length loops ≡ length outside + 1 = ap length is ∙ length-last outside b in let few : length loops ≤ 8 = x.few in omega (arith, z, few) in
        let Q : ℕ → List ℕ → Type 0 = λ c m. IsAt E D (place + 1) (with_loops (kind_of line) m) × Views E D (kind_of line) (λ view. Reach (seen D view place) (cost_of costs class.Drop) (seen D view (place + 1))) in
        let I' : List ℕ → Type 0 = λ m. InnerIs E D m Q in
        loops-are image cert costs I' line looping x.few
        (subst I' (sym back) (
          (inside-kind line next outside looping x.few small l.2, next-plain Drop x refl),
          all-views Drop x _ (λ view h. edge-of view (cost_of costs class.Drop) (place + 1) h),
        ))

    pub fine : (w : Word) → Here place line w → IsFineWritten E D place (kind_of line) w
    fine (Does c) x = fine-does c x
    fine (Imm u) x = fine-imm u x
    fine (Jump None) x = absurd (false≢true x.stands)
    fine (Jump (Some to)) x = fine-jump to x
    fine (Branch None) x = absurd (false≢true (and_parts (keeps_kind image cert line (place + 1)) false x.stands).1)
    fine (Branch (Some to)) x = fine-branch to x
    fine (Fork lo n) x = fine-fork lo n x
    fine Eot x = fine-eot x
    fine End x = fine-end x
    fine (Abrt j) x = fine-abrt j x
    fine Leave x = fine-leave x
    fine (Call to) x = fine-call to x
    fine Ret x = fine-ret x
    fine (Loop turns) x = fine-loop turns x
    fine (Next to) x = fine-next to x
    fine Drop x = fine-drop x
    fine Cend x = fine-cend x
