-- A text is read exactly where it is that of a certificate.
use Rattle.std.proofs.Common.{◌≡◌, ℕ, suc, ◌+◌, ◌*◌, ◌<◌, ◌≤◌, Bool, true, false, List, [], ◌∷◌, ◌++◌, length, take, drop, Option, Some, None, Result, Ok, Err, refl, sym, ap, subst, ◌∙◌, arith, lit≤, codes}
use Rattle.std.specs.List.{AllByRecursion}
use Rattle.std.specs.Fmt.{decimal}
use Rattle.std.proofs.Math.ListN.{drop_of_length-le}
use Rattle.std.proofs.lemmas.Fmt.{length-decimal-le}
use Rattle.std.proofs.lemmas.List.{append-nil, length-append}
use Rattle.pt_base.specs.Spelling.{each, joined, number_text, list_text, numbers_text, count_text, lines_text}
use Rattle.pt_base.specs.Forms.{Begins, IsFault}
use Rattle.pt_base.proofs.Lengths.{Medium, each_short, number_short, list_short, numbers_short, lines_short}
use Rattle.pt_base.proofs.FormLaws.{Known, Outcome, whole_begins}
use Rattle.tk_cert.specs.declared.cert.State.{State}
use Rattle.tk_cert.specs.declared.cert.State.TheVariants.{Free, Start, Paused, Waiting, Ended}
use Rattle.tk_cert.specs.declared.cert.Walk.{Walk}
use Rattle.tk_cert.specs.declared.fault.CertFault.{CertFault}
use Rattle.tk_cert.specs.declared.fault.CertFault.TheVariants.{Form, Memory}
use Rattle.tk_cert.specs.declared.cert.Line.{Line}
use Rattle.tk_cert.specs.declared.cert.Line.TheVariants.{Bare, Thread, Routine, Cond}
use Rattle.tk_cert.specs.declared.cert.CertParts.{CertParts}
use Rattle.tk_cert.specs.Shapes.{IsShaped, IsCert}
use Rattle.tk_cert.specs.Text.{heading, groups, text_of, optional_text, level_text, thread_text, routine_text, line_text, weight_text, slot_text, state_text, choice_text, choices_text, walk_text, bound_text, places_text, loops_text, slots_text}
use Rattle.tk_cert.specs.Whole.{most_bytes, FailsAs, parts_at}
use Rattle.tk_cert.specs.Form.{IsNumber, IsOptional, ArePair, IsLine, IsWeight, IsState, IsWalk, Ranges, IsInForm, cert_form, FaultIsFirst, IsRead}
use Rattle.tk_cert.proofs.ListLaws.{rise_few}
use Rattle.tk_cert.proofs.CertGroups.{upto}
use Rattle.tk_cert.proofs.CertLaws.{outcome}

-- ---- what is in the form has the shape of a certificate

shaped : (l : Line) → IsLine l → IsShaped l
shaped Bare is = tt
shaped (Thread slot stack loops levels) is = is.3
shaped (Routine height loops value) is = (is.0, is.1)
shaped (Cond value) is = tt

all_shaped : (ls : List Line) → AllByRecursion IsLine ls → AllByRecursion IsShaped ls
all_shaped [] all = tt
all_shaped (l ∷ ls) all = (shaped l all.0, all_shaped ls all.1)

pub is_cert : (c : CertParts) → IsInForm c → IsCert c
is_cert c r = record { lines = all_shaped c.lines (r.lines (lit≤ tt)).2; weights = (r.weights (lit≤ tt)).1 }

-- ---- the text of a certificate in the form isn't too long

digits_short : (n : ℕ) → IsNumber n → length (decimal n) ≤ 13
digits_short n is = length-decimal-le 13 n (omega arith) (omega arith) (omega arith)

large_short : (ends n : ℕ) → IsNumber n → length (number_text ends n) ≤ 14
large_short ends n is = omega (arith, length-append (decimal n) (ends ∷ []), digits_short n is)

optional_short : (o : Option ℕ) → IsOptional o → length (optional_text o) ≤ 13
optional_short None is = omega arith
optional_short (Some n) is = digits_short n is

level_short : (l : Option ℕ × Option ℕ) → ArePair l → length (level_text l) ≤ 28
level_short l is = omega (arith, length-append (optional_text l.0) (32 ∷ optional_text l.1), optional_short l.0 is.0, optional_short l.1 is.1)

medium_loops : (ns : List ℕ) → AllByRecursion (λ n. n < 65536) ns → AllByRecursion Medium ns
medium_loops [] all = tt
medium_loops (n ∷ ns) all = (omega (arith, all.0), medium_loops ns all.1)

medium_stack : (ns : List ℕ) → AllByRecursion (λ n. n < 4294967296) ns → AllByRecursion Medium ns
medium_stack [] all = tt
medium_stack (n ∷ ns) all = (omega (arith, all.0), medium_stack ns all.1)

thread_short : (slot : ℕ) (stack loops : List ℕ) (levels : List (Option ℕ × Option ℕ)) → IsLine (Thread slot stack loops levels) → length (thread_text slot stack loops levels) ≤ 500
thread_short slot stack loops levels is =
    let a = number_short 32 slot (omega (arith, is.0)) in
    let b = numbers_short 32 stack is.1.0 (medium_stack stack is.1.1) in
    let c = list_short loops is.2.0 (medium_loops loops is.2.1) in
    let d = each_short level_text ArePair 28 level_short levels is.4 in
    omega (arith, is.1.0, is.3, length-append (number_text 32 slot) (numbers_text 32 stack ++ (list_text loops ++ (each level_text levels ++ 10 ∷ []))), length-append (numbers_text 32 stack) (list_text loops ++ (each level_text levels ++ 10 ∷ [])), length-append (list_text loops) (each level_text levels ++ 10 ∷ []), length-append (each level_text levels) (10 ∷ []))

routine_short : (height : ℕ) (loops : List ℕ) (value : ℕ) → IsLine (Routine height loops value) → length (routine_text height loops value) ≤ 500
routine_short height loops value is =
    let a = number_short 32 height (omega (arith, is.1)) in
    let b = numbers_short 32 loops is.2.0 (medium_loops loops is.2.1) in
    let c = large_short 10 value is.3 in
    omega (arith, length-append (number_text 32 height) (numbers_text 32 loops ++ number_text 10 value), length-append (numbers_text 32 loops) (number_text 10 value))

line_short : (l : Line) → IsLine l → length (line_text l) ≤ 501
line_short Bare is = omega arith
line_short (Thread slot stack loops levels) is = omega (arith, thread_short slot stack loops levels is)
line_short (Routine height loops value) is = omega (arith, routine_short height loops value is)
line_short (Cond value) is = omega (arith, large_short 10 value is)

weight_short : (w : ℕ × ℕ) → IsWeight w → length (weight_text w) ≤ 20
weight_short w is = omega (arith, length-append (number_text 32 w.0) (number_text 10 w.1), number_short 32 w.0 (omega (arith, is.0)), large_short 10 w.1 is.1)

slot_short : (b : Option ℕ × Option ℕ) → ArePair b → length (slot_text b) ≤ 28
slot_short b is = omega (arith, length-append (optional_text b.0) (32 ∷ (optional_text b.1 ++ 10 ∷ [])), length-append (optional_text b.1) (10 ∷ []), optional_short b.0 is.0, optional_short b.1 is.1)

state_short : (s : State) → IsState s → length (state_text s) ≤ 8
state_short Free is = omega arith
state_short Start is = omega arith
state_short (Paused at) is = omega (arith, number_short 10 at (omega (arith, is)))
state_short (Waiting at) is = omega (arith, number_short 10 at (omega (arith, is)))
state_short Ended is = omega arith

choices_length : (bs : List Bool) → length (each choice_text bs) ≡ length bs
choices_length [] = refl
choices_length (true ∷ bs) = ap suc (choices_length bs)
choices_length (false ∷ bs) = ap suc (choices_length bs)

walk_short : (w : Walk) → IsWalk w → length (walk_text w) ≤ 1000000001000
walk_short w is =
    let states = lines_short (codes "walk ") state_text IsState 8 state_short w.states (omega (arith, is.1)) is.2 in
    let count = large_short 10 (length w.choices) is.3 in
    omega (arith, is.1, is.3, choices_length w.choices, length-append (lines_text (codes "walk ") state_text w.states) (choices_text w.choices), length-append (count_text (codes "choices ") (length w.choices)) (each choice_text w.choices ++ 10 ∷ []), length-append (each choice_text w.choices) (10 ∷ []), length-append (codes "choices ") (number_text 10 (length w.choices)))

six : (a b c d e f : List ℕ) → length (joined (a ∷ b ∷ c ∷ d ∷ e ∷ f ∷ [])) ≡ length a + (length b + (length c + (length d + (length e + length f))))
six a b c d e f = simp (length-append, append-nil)

bound_short : (c : CertParts) → IsNumber c.bound → length (bound_text c) ≤ 20
bound_short c is = omega (arith, large_short 10 c.bound is, length-append (codes "bound ") (number_text 10 c.bound))

text_short : (c : CertParts) → IsInForm c → length (text_of c) ≤ most_bytes
unfolding text_of groups
text_short c r =
    let lines = r.lines (lit≤ tt) in
    let weights = r.weights (lit≤ tt) in
    let slots = r.slots (lit≤ tt) in
    let few : length c.weights ≤ 65536 = omega (arith, rise_few 0 c.weights (lit≤ tt) weights.0 weights.1) in
    let a : length (bound_text c) ≤ 20 = bound_short c (r.bound (lit≤ tt)) in
    let b : length (places_text c) ≤ 9 + 65536 * 501 = omega (arith, lines.1, lines_short (codes "at ") line_text IsLine 501 line_short c.lines (omega (arith, lines.1)) lines.2) in
    let d : length (loops_text c) ≤ 12 + 65536 * 20 = omega (arith, lines_short (codes "loops ") weight_text IsWeight 20 weight_short c.weights (omega arith) weights.0) in
    let e : length (slots_text c) ≤ 12 + 64 * 28 = omega (arith, slots.1, lines_short (codes "slots ") slot_text ArePair 28 slot_short c.slot_bounds (omega (arith, slots.1)) slots.2) in
    let f : length (walk_text c.walk) ≤ 1000000001000 = walk_short c.walk (r.walk (lit≤ tt)) in
    omega (arith, six heading (bound_text c) (places_text c) (loops_text c) (slots_text c) (walk_text c.walk))

-- ---- both directions

all_ranges : (number : ℕ) (c : CertParts) → IsInForm c → Ranges number c
all_ranges number c r = record { bound = λ late. r.bound (lit≤ tt); lines = λ late. r.lines (lit≤ tt); weights = λ late. r.weights (lit≤ tt); slots = λ late. r.slots (lit≤ tt); walk = λ late. r.walk (lit≤ tt) }

whole_text : (c : CertParts) → joined (take 6 (groups c)) ++ [] ≡ text_of c
unfolding text_of groups
whole_text c = append-nil (joined (groups c))

known_ok : (text : List ℕ) (r : Result CertParts ℕ) (c : CertParts) → Outcome cert_form upto 6 text r → r ≡ Ok c → Known cert_form upto 6 text c []
known_ok text (Ok q) c o e = subst (λ (r : Result CertParts ℕ). Outcome cert_form upto 6 text r) e o
known_ok text (Err n) c o e = absurd cc

pub read_found : (text : List ℕ) (c : CertParts) → parts_at text ≡ Ok c → IsInForm c × (text ≡ text_of c)
read_found text c e =
    let k = known_ok text (parts_at text) c (outcome text) e in
    (k.ranges, k.spelled ∙ whole_text c)

known_err : (text : List ℕ) (r : Result CertParts ℕ) (n : ℕ) → Outcome cert_form upto 6 text r → r ≡ Err n → IsFault cert_form n text
known_err text (Ok q) n o e = absurd cc
known_err text (Err m) n o e = subst (λ (r : Result CertParts ℕ). Outcome cert_form upto 6 text r) e o

read_fault : (text : List ℕ) (n : ℕ) → parts_at text ≡ Err n → IsFault cert_form n text
read_fault text n e = known_err text (parts_at text) n (outcome text) e

no_more : (number : ℕ) (c : CertParts) → 7 ≤ number → drop number (groups c) ≡ []
unfolding groups
no_more number c late = drop_of_length-le (groups c) (omega arith)

text_begins : (number : ℕ) (c : CertParts) → IsInForm c → Begins cert_form number (text_of c)
unfolding text_of
text_begins number c r = whole_begins cert_form number c (all_ranges number c r) (text_short c r) (no_more number c)

only_at : (c : CertParts) → IsInForm c → (r : Result CertParts ℕ) → Outcome cert_form upto 6 (text_of c) r → r ≡ Ok c
only_at c is (Ok q) o = ap (λ (x : CertParts). Ok x) (sym (o.only c [] is (sym (whole_text c))).0)
only_at c is (Err n) o = absurd (o.here (text_begins n c is))

read_only : (text : List ℕ) (c : CertParts) → IsInForm c → text ≡ text_of c → parts_at text ≡ Ok c
read_only text c is e = ap parts_at e ∙ only_at c is (parts_at (text_of c)) (outcome (text_of c))

-- ---- what a call answers

pub only_ok : (text : List ℕ) (q c : CertParts) → parts_at text ≡ Ok q → IsInForm c → text ≡ text_of c → q ≡ c
only_ok text q c e is spelled = let both = sym e ∙ read_only text c is spelled in cc

abbrev pub refused : CertFault → Result CertParts CertFault
refused f = Err f

pub only_err : (text : List ℕ) (f : CertFault) → FailsAs f (parts_at text) → (c : CertParts) → IsInForm c → text ≡ text_of c → IsRead c (refused f)
only_err text (Form n) h c is spelled = let clash = sym h ∙ read_only text c is spelled in absurd cc
only_err text Memory h c is spelled = tt

pub fault_err : (text : List ℕ) (f : CertFault) → FailsAs f (parts_at text) → FaultIsFirst text (refused f)
fault_err text (Form n) h = read_fault text n h
fault_err text Memory h = tt
