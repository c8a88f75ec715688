-- What statements keep beside what lowering asks: how deep they stand in one another, and what they call and start.
use Rattle.std.proofs.Common.{ℕ, ◌+◌, ◌<◌, ◌++◌, List, []}
use Rattle.std.specs.List.{AllByRecursion}
use Rattle.pc_meaning.specs.Tree.{Statement, Statements, skip, assign, call_of, block, if_so, repeat, loop, eot, par, abort, none, each}

-- inside so many aborts and loops with `#n`, no more than eight of each stand in one another
abbrev mutual
  pub Nests : (aborts loops : ℕ) → Statement → Type 0
  Nests a l skip = Unit {0}
  Nests a l (assign goal e) = Unit {0}
  Nests a l (call_of goal f es) = Unit {0}
  Nests a l (block all) = AllNest a l all
  Nests a l (if_so test first second) = Nests a l first × Nests a l second
  Nests a l (repeat most test body) = (l < 8) × Nests a (l + 1) body
  Nests a l (loop test body) = Nests a l body
  Nests a l (eot i) = Unit {0}
  Nests a l (par i threads) = Unit {0}
  Nests a l (abort j weak body test) = (a < 8) × Nests (a + 1) l body

  pub AllNest : (aborts loops : ℕ) → Statements → Type 0
  AllNest a l none = Unit {0}
  AllNest a l (each s rest) = Nests a l s × AllNest a l rest

-- the functions that are called keep one thing, and the threads that are started another
module _ (Called Started : ℕ → Type 0) where
  abbrev mutual
    pub Names : Statement → Type 0
    Names skip = Unit {0}
    Names (assign goal e) = Unit {0}
    Names (call_of goal f es) = Called f
    Names (block all) = AllName all
    Names (if_so test first second) = Names first × Names second
    Names (repeat most test body) = Names body
    Names (loop test body) = Names body
    Names (eot i) = Unit {0}
    Names (par i threads) = AllByRecursion Started threads
    Names (abort j weak body test) = Names body

    pub AllName : Statements → Type 0
    AllName none = Unit {0}
    AllName (each s rest) = Names s × AllName rest

abbrev pub Anything : ℕ → Type 0
Anything f = Unit {0}

-- what keeps both of two things
module _ (Called Other Both Started : ℕ → Type 0) (join : (f : ℕ) → Called f → Other f → Both f) where
  mutual
    names-both : (s : Statement) → Names Called Started s → Names Other Anything s → Names Both Started s
    names-both skip h k = tt
    names-both (assign goal e) h k = tt
    names-both (call_of goal f es) h k = join f h k
    names-both (block all) h k = all-name-both all h k
    names-both (if_so test first second) h k = (names-both first h.0 k.0, names-both second h.1 k.1)
    names-both (repeat most test body) h k = names-both body h k
    names-both (loop test body) h k = names-both body h k
    names-both (eot i) h k = tt
    names-both (par i threads) h k = h
    names-both (abort j weak body test) h k = names-both body h k

    pub all-name-both : (all : Statements) → AllName Called Started all → AllName Other Anything all → AllName Both Started all
    all-name-both none h k = tt
    all-name-both (each s rest) h k = (names-both s h.0 k.0, all-name-both rest h.1 k.1)

-- the threads that a statement starts, in the order of the text
abbrev mutual
  pub threads_in : Statement → List ℕ
  threads_in skip = []
  threads_in (assign goal e) = []
  threads_in (call_of goal f es) = []
  threads_in (block all) = threads_in_all all
  threads_in (if_so test first second) = threads_in first ++ threads_in second
  threads_in (repeat most test body) = threads_in body
  threads_in (loop test body) = threads_in body
  threads_in (eot i) = []
  threads_in (par i threads) = threads
  threads_in (abort j weak body test) = threads_in body

  pub threads_in_all : Statements → List ℕ
  threads_in_all none = []
  threads_in_all (each s rest) = threads_in s ++ threads_in_all rest
