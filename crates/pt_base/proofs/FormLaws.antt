-- Reading the groups of a form one after another: what was read is the only value that begins so.
use Rattle.std.proofs.Common.{◌≡◌, ℕ, ◌-◌, ◌≤◌, List, [], ◌∷◌, ◌++◌, length, take, drop, Option, Some, None, Result, Ok, Err, refl, sym, ap, subst, ◌∙◌, append_assoc, arith}
use Rattle.std.proofs.lemmas.List.{take-append-drop}
use Rattle.pt_base.specs.Spelling.{joined}
use Rattle.pt_base.specs.Reading.{Reader}
use Rattle.pt_base.specs.Steps.{◌>>=◌, numbered}
use Rattle.pt_base.specs.Forms.{Form, Begins, IsFault}
use Rattle.pt_base.proofs.Laws.{Reads, Anything, some_is}

-- What was read of the first groups: they are spelled so, within their ranges, and no other value begins so.
-- `upto` leaves a value its first groups alone.
pub record Known {P : Type 0} (form : Form P) (upto : ℕ → P → P) (number : ℕ) (text : List ℕ) (p : P) (rest : List ℕ) : Type 0 where
  pub ranges : form.Ranges number p
  pub spelled : text ≡ joined (take number (form.groups p)) ++ rest
  pub short : length text ≤ form.most
  pub only : (q : P) (more : List ℕ) → form.Ranges number q → text ≡ joined (take number (form.groups q)) ++ more → (upto number q ≡ p) × (more ≡ rest)

-- one group, behind the first so many
pub record Group {P : Type 0} (form : Form P) (upto : ℕ → P → P) (A : Type 0) (before number : ℕ) : Type 1 where
  pub read : P → Reader A
  pub spell : A → List ℕ
  pub IsIn : P → A → Type 0
  pub part : P → A
  pub put : P → A → P
  pub reads : (p : P) → form.Ranges before p → Reads (read p) spell (IsIn p) Anything
  pub grows : (p : P) (x : A) → joined (take number (form.groups (put p x))) ≡ joined (take before (form.groups p)) ++ spell x
  pub back : (q : P) → put q (part q) ≡ q
  pub up : (p : P) (x : A) → form.Ranges before p → IsIn p x → form.Ranges number (put p x)
  pub down : (q : P) → form.Ranges number q → form.Ranges before q
  pub within : (q : P) → form.Ranges number q → IsIn (upto before q) (part q)
  pub upto-put : (q : P) → put (upto before q) (part q) ≡ upto number q

-- what another value that begins so has as this group is what is read
again : {P A : Type 0} (form : Form P) (upto : ℕ → P → P) (before number : ℕ) (g : Group form upto A before number) (text : List ℕ) (p : P) (rest : List ℕ) (k : Known form upto before text p rest)
    (q : P) (more : List ℕ) → form.Ranges number q → text ≡ joined (take number (form.groups q)) ++ more → (g.read p rest ≡ Some (g.part q, more)) × (upto before q ≡ p)
again form upto before number g text p rest k q more ranges spelled =
    let grown : joined (take number (form.groups q)) ≡ joined (take before (form.groups q)) ++ g.spell (g.part q) = ap (λ x. joined (take number (form.groups x))) (sym (g.back q)) ∙ g.grows q (g.part q) in
    let split : text ≡ joined (take before (form.groups q)) ++ (g.spell (g.part q) ++ more) = spelled ∙ ap (λ (t : List ℕ). t ++ more) grown ∙ append_assoc (joined (take before (form.groups q))) (g.spell (g.part q)) more in
    let o = k.only q (g.spell (g.part q) ++ more) (g.down q ranges) split in
    let inside : g.IsIn p (g.part q) = subst (λ x. g.IsIn x (g.part q)) o.0 (g.within q ranges) in
    (subst (λ (t : List ℕ). g.read p t ≡ Some (g.part q, more)) o.1 ((g.reads p k.ranges).again (g.part q) more inside tt), o.0)

-- a group that is read leads on
pub goes_on : {P A : Type 0} (form : Form P) (upto : ℕ → P → P) (before number : ℕ) (g : Group form upto A before number) (text : List ℕ) (p : P) (rest : List ℕ) → Known form upto before text p rest
    → (x : A) (after : List ℕ) → g.read p rest ≡ Some (x, after) → Known form upto number text (g.put p x) after
goes_on {P} {A} form upto before number g text p rest k x after e =
    let f = (g.reads p k.ranges).found rest x after e in
    let spelled : text ≡ joined (take number (form.groups (g.put p x))) ++ after =
    k.spelled ∙ ap (λ (t : List ℕ). joined (take before (form.groups p)) ++ t) f.1 ∙ sym (append_assoc (joined (take before (form.groups p))) (g.spell x) after) ∙ ap (λ (t : List ℕ). t ++ after) (sym (g.grows p x)) in
    record {
      ranges = g.up p x k.ranges f.0;
      spelled = spelled;
      short = k.short;
      only = λ q more ranges other.
          let a = again form upto before number g text p rest k q more ranges other in
          let same : (g.part q, more) ≡ (x, after) = some_is (g.part q, more) (x, after) (sym a.0 ∙ e) in
          let first : g.part q ≡ x = ap (λ (y : A × List ℕ). y.0) same in
          (sym (g.upto-put q) ∙ ap (λ y. g.put y (g.part q)) a.1 ∙ ap (λ y. g.put p y) first, ap (λ (y : A × List ℕ). y.1) same);
    }

-- a group that can't be read is the first at fault
pub stops : {P A : Type 0} (form : Form P) (upto : ℕ → P → P) (before number : ℕ) (g : Group form upto A before number) (text : List ℕ) (p : P) (rest : List ℕ) → Known form upto before text p rest
    → g.read p rest ≡ None → Begins form number text → ⊥
stops form upto before number g text p rest k e b =
    let a = again form upto before number g text p rest k b.value b.rest b.ranges b.spelled in
    let clash = sym a.0 ∙ e in
    absurd cc

-- what was read of the first groups, where they aren't all
pub begins : {P : Type 0} (form : Form P) (upto : ℕ → P → P) (number : ℕ) (text : List ℕ) (p : P) (rest : List ℕ) → Known form upto number text p rest → (form.last ≤ number → ⊥) → Begins form number text
begins form upto number text p rest k early =
    record { value = p; rest = rest; ranges = k.ranges; spelled = k.spelled; short = λ some. k.short; ended = λ late. absurd (early late) }

-- ---- all groups

-- what was read of a whole text is right
abbrev pub Outcome : {P : Type 0} → Form P → (ℕ → P → P) → ℕ → List ℕ → Result P ℕ → Type 0
Outcome form upto all text (Ok p) = Known form upto all text p []
Outcome form upto all text (Err number) = IsFault form number text

joined-append : (a b : List (List ℕ)) → joined (a ++ b) ≡ joined a ++ joined b
joined-append [] b = refl
joined-append (t ∷ ts) b = ap (λ (x : List ℕ). t ++ x) (joined-append ts b) ∙ sym (append_assoc t (joined ts) (joined b))

-- the text of a value begins with its first groups
pub whole_begins : {P : Type 0} (form : Form P) (number : ℕ) (p : P) → form.Ranges number p → length (joined (form.groups p)) ≤ form.most → (form.last ≤ number → drop number (form.groups p) ≡ []) → Begins form number (joined (form.groups p))
whole_begins form number p ranges short ended =
    let parts : joined (form.groups p) ≡ joined (take number (form.groups p)) ++ joined (drop number (form.groups p)) = ap joined (sym (take-append-drop number (form.groups p))) ∙ joined-append (take number (form.groups p)) (drop number (form.groups p)) in
    record { value = p; rest = joined (drop number (form.groups p)); ranges = ranges; spelled = parts; short = λ some. short; ended = λ late. ap joined (ended late) }

-- what a group's reading leads to is right, where what follows it is
advance_at : {P A : Type 0} (form : Form P) (upto : ℕ → P → P) (all before number : ℕ) (g : Group form upto A before number) (text : List ℕ) (p : P) (rest : List ℕ) → Known form upto before text p rest
    → 1 ≤ number → number ≤ form.last → number - 1 ≡ before → (f : A × List ℕ → Result P ℕ)
    → ((x : A) (after : List ℕ) → Known form upto number text (g.put p x) after → Outcome form upto all text (f (x, after)))
    → (o : Option (A × List ℕ)) → g.read p rest ≡ o → Outcome form upto all text (numbered number o >>= f)
advance_at form upto all before number g text p rest k low high prev f next None e =
    record { low = low; high = high; before = subst (λ (n : ℕ). Begins form n text) (sym prev) (begins form upto before text p rest k (λ late. absurd (omega arith))); here = stops form upto before number g text p rest k e }
advance_at form upto all before number g text p rest k low high prev f next (Some y) e = next y.0 y.1 (goes_on form upto before number g text p rest k y.0 y.1 e)

pub advance : {P A : Type 0} (form : Form P) (upto : ℕ → P → P) (all before number : ℕ) (g : Group form upto A before number) (text : List ℕ) (p : P) (rest : List ℕ) → Known form upto before text p rest
    → 1 ≤ number → number ≤ form.last → number - 1 ≡ before → (f : A × List ℕ → Result P ℕ)
    → ((x : A) (after : List ℕ) → Known form upto number text (g.put p x) after → Outcome form upto all text (f (x, after)))
    → Outcome form upto all text (numbered number (g.read p rest) >>= f)
advance form upto all before number g text p rest k low high prev f next = advance_at form upto all before number g text p rest k low high prev f next (g.read p rest) refl
