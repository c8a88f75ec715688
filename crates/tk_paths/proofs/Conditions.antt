-- Acceptance as relations between places, as the proofs go through it. Loops stand innermost first.
use Rattle.std.specs.Prelude.{length, ◌≡◌, ◌⊎◌, ◌≤◌, ◌<◌, ℕ, ℤ, zero, suc, ◌+◌, ◌*◌, ◌++◌, min, Bool, true, false, List, [], ◌∷◌, Option, Some, None}
use Rattle.mb_pfu.specs.Tree.{Tree}
use Rattle.tk_paths.specs.declared.word.Word.{Word}
use Rattle.tk_paths.specs.declared.word.Word.TheVariants.{Does, Imm, Jump, Branch, Eot, Fork, End, Abrt, Leave, Call, Ret, Loop, Next, Drop, Cend}
use Rattle.tk_paths.proofs.Inner.{Image, State, Traps, IsConfiguration, Step, Path, begun_free}
use Rattle.mb_pfu.specs.declared.parts.TrapKind.{TrapKind}
use Rattle.mb_isa.specs.declared.Class.TheVariants as class
use Rattle.tk_paths.specs.declared.view.Side.{Side}
use Rattle.tk_paths.specs.declared.view.Side.TheVariants.{ToPause, ToEnd}
use Rattle.tk_paths.specs.declared.view.View.{View}
use Rattle.tk_paths.specs.declared.view.View.TheVariants.{On, Value}

-- what a line says but for its numbers
pub data Line : Type 0 where
  Bare : Line
  Thread : (slot : ℕ) (stack loops : List ℕ) → Line
  Routine : (height : ℕ) (loops : List ℕ) → Line
  Cond : Line

-- a certificate: the number of a side at a level of a place, the value of a place, the weight of a loop, the numbers of a slot
pub record Cert : Type 0 where
  pub line : ℕ → Line
  pub number : Side → ℕ → ℕ → Option ℕ
  pub value : ℕ → ℕ
  pub weight : ℕ → Option ℕ
  pub resumed : Side → ℕ → Option ℕ
  pub upper : ℕ → Option ℤ
  pub bound : ℕ

abbrev pub seen : Cert → View → ℕ → Option ℕ
seen cert (On side level) place = cert.number side level place
seen cert Value place = Some (cert.value place)

-- the views of a line
abbrev pub Fits : View → Line → Type 0
Fits view Bare = ⊥
Fits (On side level) (Thread s a l) = level ≤ length a
Fits Value (Thread s a l) = ⊥
Fits (On side level) (Routine h l) = ⊥
Fits Value (Routine h l) = Unit {0}
Fits (On side level) Cond = ⊥
Fits Value Cond = Unit {0}

-- a number is there and reaches so much
abbrev pub Pays : Option ℕ → ℕ → Type 0
Pays given n = (m : ℕ) × (given ≡ Some m) × (n ≤ m)

-- a number reaches another and so much more, where that one is there
abbrev pub Reach : Option ℕ → ℕ → Option ℕ → Type 0
Reach given cost next = (n : ℕ) → next ≡ Some n → Pays given (cost + n)

abbrev pub IsBare : Line → Type 0
IsBare Bare = Unit {0}
IsBare other = ⊥

abbrev pub both_sides : Side → Side → Side
both_sides ToEnd ToEnd = ToEnd
both_sides ToEnd ToPause = ToPause
both_sides ToPause other = ToPause

abbrev pub loops_of : Line → List ℕ
loops_of (Thread s a l) = l
loops_of (Routine h l) = l
loops_of other = []

-- the same kind with other loops; only threads and routines have loops
abbrev pub with_loops : Line → List ℕ → Line
with_loops (Thread s a l) m = Thread s a m
with_loops (Routine h l) m = Routine h m
with_loops other m = Bare

-- a child of a group that is resumed has ended or is loose
pub data Ends : Type 0 where
  Over : Ends
  With : (side : Side) → Ends

abbrev pub both_ends : Ends → Ends → Ends
both_ends Over other = other
both_ends (With side) Over = With side
both_ends (With x) (With y) = With (both_sides x y)

module _ (image : Image) (cert : Cert) where
  -- the upper half with which a place is read
  abbrev pub upper_at : ℕ → Option ℤ
  upper_at place = cert.upper place

  abbrev pub IsPlain : ℕ → Type 0
  IsPlain place = upper_at place ≡ None

  -- a place has a line, and is read with no upper half
  abbrev pub IsAt : ℕ → Line → Type 0
  IsAt place line = (cert.line place ≡ line) × IsPlain place

  -- one of the first k aborts of these, the first of which has number i in its stack, is weak, and its handler has this number
  abbrev pub Handled : Side → ℕ → List ℕ → ℕ → ℕ → Type 0
  Handled side i [] k r = ⊥
  Handled side i (j ∷ a) zero r = ⊥
  Handled side i (j ∷ a) (suc k) r = ((image.weak j ≡ true) × (cert.number side i (image.handler j) ≡ Some r)) ⊎ Handled side (i + 1) a k r

  -- what comes after a pause inside these aborts, so many of them old
  abbrev pub Rests : List ℕ → ℕ → Side → ℕ → Type 0
  Rests a k side r = ((side ≡ ToPause) × (r ≡ 0)) ⊎ Handled side 0 a k r

  -- what comes after a group that ended, or paused
  abbrev pub After : List ℕ → ℕ → ℕ → Side → Side → ℕ → Type 0
  After a k at ToEnd side r = cert.number side k (at + 1) ≡ Some r
  After a k at ToPause side r = Rests a k side r

  -- a sum of one number per child from slot c on; it is up to a pause where one of them is
  abbrev pub Sum : (ℕ → Side → ℕ → Type 0) → ℕ → ℕ → Side → ℕ → Type 0
  Sum V c zero side n = (side ≡ ToEnd) × (n ≡ 0)
  Sum V c (suc count) side n = (x y : Side) × (p q : ℕ) × V c x p × Sum V (c + 1) count y q × (side ≡ both_sides x y) × (n ≡ p + q)

  -- a child that starts
  abbrev pub Starts : ℕ → Side → ℕ → Type 0
  Starts c side n = cert.number side 0 (image.start c) ≡ Some n

  -- A1: what the aborts inside these ask of their conditions and handlers
  abbrev pub AreAborts : ℕ → List ℕ → List ℕ → Type 0
  AreAborts s outside [] = Unit {0}
  AreAborts s outside (j ∷ a) = IsAt (image.cond j) Cond × IsAt (image.handler j) (Thread s outside []) × AreAborts s (outside ++ j ∷ []) a

  abbrev pub ThreadIs : Line → (ℕ → List ℕ → Type 0) → Type 0
  ThreadIs (Thread s a []) P = P s a
  ThreadIs (Thread s a (x ∷ l)) P = ⊥
  ThreadIs other P = ⊥

  -- a line with loops, and the same line with other loops
  abbrev pub LoopsAre : Line → (List ℕ → Type 0) → Type 0
  LoopsAre (Thread s a l) P = P l
  LoopsAre (Routine h l) P = P l
  LoopsAre other P = ⊥

  abbrev pub InnerIs : List ℕ → (ℕ → List ℕ → Type 0) → Type 0
  InnerIs [] P = ⊥
  InnerIs (a ∷ l) P = P a l

  -- a routine may be called from a line
  abbrev pub Below : Line → ℕ → Type 0
  Below (Thread s a l) h = Unit {0}
  Below (Routine g l) h = h < g
  Below other h = ⊥

  -- every view of a line
  abbrev pub Views : Line → (View → Type 0) → Type 0
  Views line P = (view : View) → Fits view line → P view

  abbrev pub Levels : List ℕ → (ℕ → Type 0) → Type 0
  Levels a P = (k : ℕ) → k ≤ length a → P k

  -- A1 and A3 to A5 at a place with this line and word
  abbrev pub IsFine : ℕ → Line → Word → Type 0
  IsFine place line (Does c) = IsAt (place + 1) line × Views line (λ view. Reach (seen cert view place) (image.cost c) (seen cert view (place + 1)))
  IsFine place line (Imm u) =
      (cert.line (place + 1) ≡ line) × (upper_at (place + 1) ≡ Some u) × Views line (λ view. Reach (seen cert view place) (image.cost class.Imm) (seen cert view (place + 1)))
  IsFine place line (Jump None) = ⊥
  IsFine place line (Jump (Some to)) = IsAt to line × Views line (λ view. Reach (seen cert view place) (image.cost class.Jump) (seen cert view to))
  IsFine place line (Branch None) = ⊥
  IsFine place line (Branch (Some to)) =
      IsAt (place + 1) line × IsAt to line
      × Views line (λ view. Reach (seen cert view place) (image.cost class.Untaken) (seen cert view (place + 1)))
      × Views line (λ view. Reach (seen cert view place) (image.cost class.Taken) (seen cert view to))
  IsFine place line Eot =
      IsAt (place + 1) line × ThreadIs line (λ s a. (image.is_pause place s a ≡ true)
      × Levels a (λ k. (side : Side) (r : ℕ) → Rests a k side r → Pays (cert.number side k place) (image.cost class.Eot + r)))
  IsFine place line (Fork lo count) =
      IsAt (place + 1) line × ThreadIs line (λ s a. (image.is_fork place s a ≡ true) × (s < lo) × (1 ≤ count) × (lo + count ≤ image.slots)
      × ((c : ℕ) → lo ≤ c → c < lo + count → IsAt (image.start c) (Thread c [] []))
      × Levels a (λ k. (side y : Side) (g r : ℕ) → Sum Starts lo count y g → After a k place y side r → Pays (cert.number side k place) (image.cost class.Fork + (g + r))))
  IsFine place line End = ThreadIs line (λ s a. (a ≡ []) × Pays (cert.number ToEnd 0 place) (image.cost class.End))
  IsFine place line (Abrt j) =
      ThreadIs line (λ s a. (image.is_abort j ≡ true) × (length a < 8) × IsAt (place + 1) (Thread s (a ++ j ∷ []) [])
      × Levels a (λ k. (side : Side) → Reach (cert.number side k place) (image.cost class.Abrt) (cert.number side k (place + 1))))
  IsFine place line Leave =
      ThreadIs line (λ s a. (outside : List ℕ) × (j : ℕ) × (a ≡ outside ++ j ∷ []) × IsAt (place + 1) (Thread s outside [])
      × Levels a (λ k. (side : Side) → Reach (cert.number side k place) (image.cost class.Leave) (cert.number side (min k (length outside)) (place + 1))))
  IsFine place line (Call to) =
      IsAt (place + 1) line × (h : ℕ) × IsAt to (Routine h []) × (1 ≤ h) × (h ≤ 16) × Below line h
      × Views line (λ view. Reach (seen cert view place) (image.cost class.Call + cert.value to) (seen cert view (place + 1)))
  IsFine place line Ret = (h : ℕ) × (line ≡ Routine h []) × (image.cost class.Ret ≤ cert.value place)
  IsFine place line (Loop n) =
      LoopsAre line (λ l. (length l < 8) × (w : ℕ) × (cert.weight place ≡ Some w) × IsAt (place + 1) (with_loops line (place ∷ l))
      × Views line (λ view. Reach (seen cert view place) (image.cost class.Loop + n * w) (seen cert view (place + 1))))
  IsFine place line (Next to) =
      LoopsAre line (λ loops. InnerIs loops (λ a l. (w : ℕ) × (cert.weight a ≡ Some w) × IsAt (place + 1) line × IsAt to (with_loops line l)
      × Views line (λ view. (n : ℕ) → seen cert view (place + 1) ≡ Some n → (m : ℕ) × (seen cert view place ≡ Some m) × (image.cost class.Next + n ≤ m + w))
      × Views line (λ view. Reach (seen cert view place) (image.cost class.Next) (seen cert view to))))
  IsFine place line Drop =
      LoopsAre line (λ loops. InnerIs loops (λ a l. IsAt (place + 1) (with_loops line l)
      × Views line (λ view. Reach (seen cert view place) (image.cost class.Drop) (seen cert view (place + 1)))))
  IsFine place line Cend = (line ≡ Cond) × (image.cost class.Cend ≤ cert.value place)

  -- A1: at each level a number is there, and the aborts are what they are to be
  abbrev pub IsThreadFine : ℕ → Line → Type 0
  IsThreadFine place (Thread s a l) =
      AreAborts s [] a × (length l ≤ 8) × Levels a (λ k. (side : Side) × (n : ℕ) × (cert.number side k place ≡ Some n))
  IsThreadFine place (Routine h l) = (length l ≤ 8) × (h ≤ 16)
  IsThreadFine place other = Unit {0}

  -- what the conditions of these aborts and then a slot come to: an abort whose condition holds, where it is strong, leads to its handler
  abbrev pub Tested : ℕ → List ℕ → (Side → ℕ → Type 0) → Side → ℕ → Type 0
  Tested i [] inner side n = inner side n
  Tested i (j ∷ a) inner side n =
      (m : ℕ) × (n ≡ cert.value (image.cond j) + m) × (((image.weak j ≡ false) × (cert.number side i (image.handler j) ≡ Some m)) ⊎ Tested (i + 1) a inner side m)

  abbrev pub Resumes : ℕ → Ends → ℕ → Type 0
  Resumes c Over n = n ≡ 0
  Resumes c (With side) n = cert.resumed side c ≡ Some n

  abbrev pub Resumed : ℕ → ℕ → Ends → ℕ → Type 0
  Resumed c zero end n = (end ≡ Over) × (n ≡ 0)
  Resumed c (suc count) end n = (x y : Ends) × (p q : ℕ) × Resumes c x p × Resumed (c + 1) count y q × (end ≡ both_ends x y) × (n ≡ p + q)

  -- A6
  pub record IsPauseFine (at s : ℕ) (a : List ℕ) : Type 0 where
    pub word : image.code at None ≡ Some Eot
    pub plain : IsPlain at
    pub line : cert.line at ≡ Thread s a []
    pub covers : (side : Side) (n : ℕ) → Tested 0 a (λ x m. cert.number x (length a) (at + 1) ≡ Some m) side n → Pays (cert.resumed side s) n

  pub record IsForkFine (at s : ℕ) (a : List ℕ) : Type 0 where
    pub lo : ℕ
    pub count : ℕ
    pub word : image.code at None ≡ Some (Fork lo count)
    pub plain : IsPlain at
    pub line : cert.line at ≡ Thread s a []
    -- where no child has a number, nothing is asked
    pub covers : (end : Side) (sum : ℕ) → Resumed lo count (With end) sum → (side : Side) (n : ℕ) →
        Tested 0 a (λ x m. (y : Side) × (g r : ℕ) × Resumed lo count (With y) g × After a (length a) at y x r × (m ≡ g + r)) side n → Pays (cert.resumed side s) n

  -- Acceptance
  pub record IsAccepted : Type 0 where
    pub start : IsAt (image.start 0) (Thread 0 [] [])
    pub thread : (place : ℕ) → IsThreadFine place (cert.line place)
    pub place : (place : ℕ) → (IsBare (cert.line place) → ⊥) → (w : Word) × (image.code place (upper_at place) ≡ Some w) × IsFine place (cert.line place) w
    pub pause : (at s : ℕ) (a : List ℕ) → image.is_pause at s a ≡ true → IsPauseFine at s a
    pub fork : (at s : ℕ) (a : List ℕ) → image.is_fork at s a ≡ true → IsForkFine at s a
    pub apart : (at s at' s' : ℕ) (a a' : List ℕ) (lo count lo' count' c : ℕ) → image.is_fork at s a ≡ true → image.is_fork at' s' a' ≡ true →
        image.code at None ≡ Some (Fork lo count) → image.code at' None ≡ Some (Fork lo' count') → lo ≤ c → c < lo + count → lo' ≤ c → c < lo' + count' → at ≡ at'
    pub no_zero : (at s : ℕ) (a : List ℕ) (lo count : ℕ) → image.is_fork at s a ≡ true → image.code at None ≡ Some (Fork lo count) → 1 ≤ lo
    pub base : image.base ≤ cert.bound
    pub first : (side : Side) (n : ℕ) → cert.number side 0 (image.start 0) ≡ Some n → image.base + n ≤ cert.bound
    pub again : (side : Side) (n : ℕ) → cert.resumed side 0 ≡ Some n → image.base + n ≤ cert.bound

-- No free tick is charged more than the bound, finished or not, and none traps, whatever its configuration and choices.
pub record BoundsFreeTicks (image : Image) (bound : ℕ) : Type 0 where
  pub charged : (t : Tree) (choices : List Bool) (n : ℕ) (s : State) → IsConfiguration image t → Path image (begun_free image t choices) n s → image.base + n ≤ bound
  pub untrapped : (t : Tree) (choices : List Bool) (n : ℕ) (s : State) (kind : TrapKind) →
      IsConfiguration image t → Path image (begun_free image t choices) n s → Step image s (Traps kind) → ⊥
