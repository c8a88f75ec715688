-- An image and a certificate as the proofs of the bound see them: their words, kinds and numbers.
use Rattle.std.proofs.Common.{◌≡◌, ◌≤◌, ◌<◌, ◌==◌, ℕ, true, nat_le, nat_lt, if◌then◌else◌, List, [], ◌∷◌, ◌++◌, reverse, length, Option, Some, None, refl, sym, ap, ◌∙◌, subst, arith, eqb-true}
use Rattle.std.proofs.lemmas.Bool.{and_parts, false≢true}
use Rattle.std.proofs.lemmas.Bool.Decides.{nat_tests}
use Rattle.std.proofs.lemmas.Option.{same_Some}
use Rattle.std.proofs.lemmas.List.{reverse-append}
use Rattle.mb_isa.specs.Costs.{cost_of}
use Rattle.pt_image.specs.declared.Parts.{Parts}
use Rattle.pt_image.specs.Listed.{is_listed, same_numbers}
use Rattle.mb_pfu.specs.Calls.{last_from, last_of}
use Rattle.mb_isa.specs.Tick.{base_of}
use Rattle.tk_cert.specs.declared.cert.Line.{Line}
use Rattle.tk_cert.specs.declared.cert.Line.TheVariants as line
use Rattle.tk_cert.specs.declared.cert.CertParts.{CertParts}
use Rattle.tk_paths.specs.Words.{read}
use Rattle.tk_paths.specs.Kinds.{line_at, is_thread, is_routine, is_cond, loops_of, is_inside, same_kind, upper_at, start_of, abort_at}
use Rattle.tk_paths.specs.Shape.{weight_in}
use Rattle.tk_paths.specs.declared.view.View.TheVariants.{On}
use Rattle.tk_paths.specs.Acceptance.{number, value, resumed}
use Rattle.tk_paths.proofs.Inner.{Image}
use Rattle.tk_paths.proofs.Conditions.{Cert, Bare, Thread, Routine, Cond, with_loops}
use Rattle.tk_paths.proofs.Conditions as kinds
use Rattle.tk_paths.proofs.Lists.{three_parts}

-- a line inside more than eight loops is one that no word leads to
abbrev pub short : List ℕ → kinds.Line → kinds.Line
short loops kind = if nat_le (length loops) 8 then kind else Bare

abbrev pub kind_of : Line → kinds.Line
kind_of line.Bare = Bare
kind_of (line.Thread slot stack loops levels) = short loops (Thread slot stack (reverse loops))
kind_of (line.Routine height loops value) = short loops (Routine height (reverse loops))
kind_of (line.Cond value) = Cond

abbrev pub image_of : Parts → List ℕ → Image
image_of image costs = record {
  code = read image;
  slots = length image.slots;
  start = start_of image;
  is_abort = λ j. nat_lt j (length image.aborts);
  weak = λ j. (abort_at image j).weak;
  cond = λ j. (abort_at image j).cond;
  handler = λ j. (abort_at image j).handler;
  is_pause = is_listed image.pauses;
  is_fork = is_listed image.forks;
  cost = cost_of costs;
  base = base_of image costs;
}

abbrev pub cert_of : Parts → CertParts → List ℕ → Cert
cert_of image cert costs = record {
  line = λ place. kind_of (line_at cert.lines place);
  number = λ side level place. number image cert costs (On side level) place;
  value = value image cert costs;
  weight = weight_in cert.weights;
  resumed = resumed image cert costs;
  upper = upper_at image cert.lines;
  bound = cert.bound;
}

pub same-list : (a b : List ℕ) → same_numbers a b ≡ true → a ≡ b
same-list [] [] h = refl
same-list [] (y ∷ b) h = absurd (false≢true h)
same-list (x ∷ a) [] h = absurd (false≢true h)
same-list (x ∷ a) (y ∷ b) h =
    let p = and_parts (x == y) (same_numbers a b) h in
    let e : x ≡ y = eqb-true x y p.0 in
    let f : a ≡ b = same-list a b p.1 in
    cc (e, f)

pub lt-true : (m n : ℕ) → nat_lt m n ≡ true → m < n
lt-true m n h = grind (arith, nat_tests, h)

pub le-true : (m n : ℕ) → nat_le m n ≡ true → m ≤ n
le-true m n h = grind (arith, nat_tests, h)

pub le-test : (m n : ℕ) → m ≤ n → nat_le m n ≡ true
le-test m n h = grind (arith, nat_tests, h)

pub short-is : (loops : List ℕ) (kind : kinds.Line) → length loops ≤ 8 → short loops kind ≡ kind
short-is loops kind h = ap (λ b. if b then kind else Bare) (le-test (length loops) 8 h)

pub thread-kind : (line : Line) (s : ℕ) (a l : List ℕ) → is_thread s a l line ≡ true → length l ≤ 8 → kind_of line ≡ Thread s a (reverse l)
thread-kind line.Bare s a l h few = absurd (false≢true h)
thread-kind (line.Thread t b m v) s a l h few =
    let p = three_parts (t == s) (same_numbers b a) (same_numbers m l) h in
    let e1 : t ≡ s = eqb-true t s p.0 in
    let e2 : b ≡ a = same-list b a p.1 in
    let e3 : m ≡ l = same-list m l p.2 in
    let E : List ℕ → Type 0 = λ x. length x ≤ 8 in
    let all : Thread t b (reverse m) ≡ Thread s a (reverse l) = cc (e1, e2, e3) in
    short-is m (Thread t b (reverse m)) (subst E (sym e3) few) ∙ all
thread-kind (line.Routine t m v) s a l h few = absurd (false≢true h)
thread-kind (line.Cond v) s a l h few = absurd (false≢true h)

pub routine-kind : (line : Line) (g : ℕ) (l : List ℕ) → is_routine g l line ≡ true → length l ≤ 8 → kind_of line ≡ Routine g (reverse l)
routine-kind line.Bare g l h few = absurd (false≢true h)
routine-kind (line.Thread t b m v) g l h few = absurd (false≢true h)
routine-kind (line.Routine t m v) g l h few =
    let p = and_parts (t == g) (same_numbers m l) h in
    let e1 : t ≡ g = eqb-true t g p.0 in
    let e3 : m ≡ l = same-list m l p.1 in
    let E : List ℕ → Type 0 = λ x. length x ≤ 8 in
    let all : Routine t (reverse m) ≡ Routine g (reverse l) = cc (e1, e3) in
    short-is m (Routine t (reverse m)) (subst E (sym e3) few) ∙ all
routine-kind (line.Cond v) g l h few = absurd (false≢true h)

pub cond-kind : (line : Line) → is_cond line ≡ true → kind_of line ≡ Cond
cond-kind line.Bare h = absurd (false≢true h)
cond-kind (line.Thread t b m v) h = absurd (false≢true h)
cond-kind (line.Routine t m v) h = absurd (false≢true h)
cond-kind (line.Cond v) h = refl

-- another line of the same kind
pub same-kind : (line other : Line) → length (loops_of line) ≤ 8 → same_kind line other ≡ true → kind_of other ≡ kind_of line
same-kind line.Bare other few h = absurd (false≢true h)
same-kind (line.Thread s a l v) other few h = thread-kind other s a l h few ∙ sym (short-is l (Thread s a (reverse l)) few)
same-kind (line.Routine g l v) other few h = routine-kind other g l h few ∙ sym (short-is l (Routine g (reverse l)) few)
same-kind (line.Cond v) other few h = cond-kind other h

-- a line of a thread or a routine
abbrev pub IsLooping : Line → Type 0
IsLooping (line.Thread s a l v) = Unit {0}
IsLooping (line.Routine g l v) = Unit {0}
IsLooping other = ⊥

-- another line of the same kind but for its loops
pub inside-kind : (line other : Line) (l : List ℕ) → IsLooping line → length (loops_of line) ≤ 8 → length l ≤ 8 → is_inside line l other ≡ true → kind_of other ≡ with_loops (kind_of line) (reverse l)
inside-kind line.Bare other l t few less h = absurd (false≢true h)
inside-kind (line.Thread s a m v) other l t few less h = thread-kind other s a l h less ∙ ap (λ k. with_loops k (reverse l)) (sym (short-is m (Thread s a (reverse m)) few))
inside-kind (line.Routine g m v) other l t few less h = routine-kind other g l h less ∙ ap (λ k. with_loops k (reverse l)) (sym (short-is m (Routine g (reverse m)) few))
inside-kind (line.Cond v) other l t few less h = absurd t

pub reverse-last : (l : List ℕ) (x : ℕ) → reverse (l ++ x ∷ []) ≡ x ∷ reverse l
reverse-last l x = reverse-append l (x ∷ [])

-- the last of a list
pub last-is : (l before : List ℕ) (x : ℕ) → last_of l ≡ Some (before, x) → l ≡ before ++ x ∷ []
last-is [] before x h = cc h
last-is (n ∷ ns) before x h = by (last_of ns) refl h (λ b y e. last-is ns b y e)
  where
    by : (o : Option (List ℕ × ℕ)) → last_of ns ≡ o → Some (last_from n o) ≡ Some (before, x) → ((b : List ℕ) (y : ℕ) → last_of ns ≡ Some (b, y) → ns ≡ b ++ y ∷ []) → n ∷ ns ≡ before ++ x ∷ []
    by None e h more =
        let gone : ns ≡ [] = nothing ns e in
        let both : last_from n None ≡ (before, x) = same_Some (last_from n None) (before, x) h in
        let b : [] ≡ before = ap (λ p. p.0) both in
        let y : n ≡ x = ap (λ p. p.1) both in
        cc (gone, b, y)
      where
        nothing : (m : List ℕ) → last_of m ≡ None → m ≡ []
        nothing [] e = refl
        nothing (k ∷ m) e = cc e
    by (Some p) e h more =
        let rest : ns ≡ p.0 ++ p.1 ∷ [] = more p.0 p.1 e in
        let both : last_from n (Some p) ≡ (before, x) = same_Some (last_from n (Some p)) (before, x) h in
        let b : n ∷ p.0 ≡ before = ap (λ q. q.0) both in
        let y : p.1 ≡ x = ap (λ q. q.1) both in
        ap (λ m. n ∷ m) rest ∙ ap (λ z. n ∷ p.0 ++ z ∷ []) y ∙ ap (λ m. m ++ x ∷ []) b
