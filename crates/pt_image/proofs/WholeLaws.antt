-- A text is read exactly where it is that of an image.
use Rattle.std.proofs.Common.{◌≡◌, ℕ, ◌+◌, ◌*◌, ◌≤◌, List, [], ◌∷◌, ◌++◌, length, take, drop, Result, Ok, Err, sym, ap, subst, ◌∙◌, arith, lit≤, codes, w32, FitsSigned}
use Rattle.std.specs.List.{AllByRecursion}
use Rattle.std.proofs.lemmas.List.{append-nil, length-append}
use Rattle.std.proofs.Math.ListN.{drop_of_length-le}
use Rattle.pt_base.specs.Spelling.{joined, number_text, numbers_text, word_text, signed_text, lines_text}
use Rattle.pt_base.specs.Forms.{Begins, IsFault}
use Rattle.pt_base.proofs.Lengths.{Small, Medium, number_short, numbers_short, word_short, signed_short, lines_short}
use Rattle.pt_base.proofs.FormLaws.{Known, Outcome, whole_begins}
use Rattle.pt_image.specs.declared.fault.ImageFault.{ImageFault}
use Rattle.pt_image.specs.declared.fault.ImageFault.TheVariants.{Form, Memory}
use Rattle.pt_image.specs.declared.image.AbortLine.{AbortLine}
use Rattle.pt_image.specs.declared.image.Point.{Point}
use Rattle.pt_image.specs.declared.image.Parts.{Parts}
use Rattle.pt_image.specs.Ranges.{AllBelow, IsImage, IsPoint, IsAbortLine}
use Rattle.pt_image.specs.Text.{heading, groups, text_of, code_text, memory_text, inputs_text, outputs_text, slots_text, aborts_text, pauses_text, forks_text, abort_text, point_text}
use Rattle.pt_image.specs.Whole.{most_bytes, FailsAs, parts_at}
use Rattle.pt_image.specs.Form.{AreWords, Ranges, image_form, FaultIsFirst, IsRead}
use Rattle.pt_image.proofs.ImageGroups.{upto}
use Rattle.pt_image.proofs.ImageLaws.{outcome}

is_image : (p : Parts) → Ranges 9 p → IsImage p
is_image p r = record { code = r.code (lit≤ tt); memory = r.memory (lit≤ tt); inputs = r.inputs (lit≤ tt); outputs = r.outputs (lit≤ tt); slots = r.slots (lit≤ tt); aborts = r.aborts (lit≤ tt); pauses = r.pauses (lit≤ tt); forks = r.forks (lit≤ tt) }

are_words : (p : Parts) → Ranges 9 p → AreWords p
are_words p r = record { code = r.words (lit≤ tt); memory = r.values (lit≤ tt) }

all_ranges : (number : ℕ) (p : Parts) → IsImage p → AreWords p → Ranges number p
all_ranges number p i w = record { code = λ late. i.code; words = λ late. w.code; memory = λ late. i.memory; values = λ late. w.memory; inputs = λ late. i.inputs; outputs = λ late. i.outputs; slots = λ late. i.slots; aborts = λ late. i.aborts; pauses = λ late. i.pauses; forks = λ late. i.forks }

-- ---- the text of an image isn't too long

small_all : (limit : ℕ) (ns : List ℕ) → limit ≤ 65536 → AllBelow limit ns → AllByRecursion Small ns
small_all limit [] le all = tt
small_all limit (n ∷ ns) le all = (omega (arith, all.0), small_all limit ns le all.1)

medium_all : (limit : ℕ) (ns : List ℕ) → limit ≤ 65536 → AllBelow limit ns → AllByRecursion Medium ns
medium_all limit [] le all = tt
medium_all limit (n ∷ ns) le all = (omega (arith, all.0), medium_all limit ns le all.1)

abort_short : (p : Parts) → length p.code ≤ 65536 → (a : AbortLine) → IsAbortLine p a → length (abort_text a) ≤ 14
abort_short p le a is =
    omega (arith, length-append (number_text 32 a.cond) (number_text 10 a.handler), number_short 32 a.cond (omega (arith, is.0)), number_short 10 a.handler (omega (arith, is.1)))

point_short : (p : Parts) → length p.code ≤ 65536 → length p.slots ≤ 64 → length p.aborts ≤ 65536 → (x : Point) → IsPoint p x → length (point_text x) ≤ 106
point_short p fc fs fa x is =
    omega (
      arith,
      length-append (number_text 32 x.at) (number_text 32 x.slot ++ numbers_text 10 x.stack),
      length-append (number_text 32 x.slot) (numbers_text 10 x.stack),
      number_short 32 x.at (omega (arith, is.0)),
      number_short 32 x.slot (omega (arith, is.1)),
      numbers_short 10 x.stack is.2 (medium_all (length p.aborts) x.stack fa is.3),
    )

anything : {A : Type 0} (xs : List A) → AllByRecursion (λ x. Unit {0}) xs
anything [] = tt
anything (x ∷ xs) = (tt, anything xs)

signals_short : (name words : List ℕ) (memory : ℕ) → length name ≤ 8 → memory ≤ 65536 → length words ≤ 64 → AllBelow memory words → length (lines_text name (number_text 10) words) ≤ 398
signals_short name words memory short le few all =
    omega (arith, lines_short name (number_text 10) Small 6 (number_short 10) words (omega arith) (small_all memory words le all))

nine : (a b c d e f g h i : List ℕ) → length (joined (a ∷ b ∷ c ∷ d ∷ e ∷ f ∷ g ∷ h ∷ i ∷ [])) ≡ length a + (length b + (length c + (length d + (length e + (length f + (length g + (length h + length i)))))))
nine a b c d e f g h i = simp (length-append, append-nil)

pub text_short : (p : Parts) → IsImage p → AreWords p → length (text_of p) ≤ most_bytes
unfolding text_of groups
text_short p i w =
    let code : length (code_text p) ≤ 11 + 65536 * 9 = omega (arith, i.code, lines_short (codes "code ") word_text (λ n. Unit {0}) 9 (λ n _. word_short n) p.code (omega (arith, i.code.1)) (anything p.code)) in
    let memory : length (memory_text p) ≤ 13 + 16384 * 12 = omega (arith, i.memory, lines_short (codes "memory ") signed_text (FitsSigned w32) 12 signed_short p.memory (omega (arith, i.memory)) w.memory) in
    let inputs : length (inputs_text p) ≤ 398 = signals_short (codes "inputs ") p.inputs (length p.memory) (lit≤ tt) (omega (arith, i.memory)) i.inputs.0 i.inputs.1 in
    let outputs : length (outputs_text p) ≤ 398 = signals_short (codes "outputs ") p.outputs (length p.memory) (lit≤ tt) (omega (arith, i.memory)) i.outputs.0 i.outputs.1 in
    let slots : length (slots_text p) ≤ 398 = signals_short (codes "slots ") p.slots (length p.code) (lit≤ tt) i.code.1 i.slots.1 i.slots.2 in
    let aborts : length (aborts_text p) ≤ 13 + 65536 * 14 = omega (arith, i.aborts.0, lines_short (codes "aborts ") abort_text (IsAbortLine p) 14 (abort_short p i.code.1) p.aborts (omega (arith, i.aborts.0)) i.aborts.1) in
    let pauses : length (pauses_text p) ≤ 13 + 65536 * 106 = omega (arith, i.pauses.0, lines_short (codes "pauses ") point_text (IsPoint p) 106 (point_short p i.code.1 i.slots.1 i.aborts.0) p.pauses (omega (arith, i.pauses.0)) i.pauses.1) in
    let forks : length (forks_text p) ≤ 12 + 65536 * 106 = omega (arith, i.forks.0, lines_short (codes "forks ") point_text (IsPoint p) 106 (point_short p i.code.1 i.slots.1 i.aborts.0) p.forks (omega (arith, i.forks.0)) i.forks.1) in
    omega (arith, nine heading (code_text p) (memory_text p) (inputs_text p) (outputs_text p) (slots_text p) (aborts_text p) (pauses_text p) (forks_text p))

-- ---- both directions

whole_text : (p : Parts) → joined (take 9 (groups p)) ++ [] ≡ text_of p
unfolding text_of groups
whole_text p = append-nil (joined (groups p))

known_ok : (text : List ℕ) (r : Result Parts ℕ) (p : Parts) → Outcome image_form upto 9 text r → r ≡ Ok p → Known image_form upto 9 text p []
known_ok text (Ok q) p o e = subst (λ (r : Result Parts ℕ). Outcome image_form upto 9 text r) e o
known_ok text (Err n) p o e = absurd cc

pub read_found : (text : List ℕ) (p : Parts) → parts_at text ≡ Ok p → IsImage p × AreWords p × (text ≡ text_of p)
read_found text p e =
    let k = known_ok text (parts_at text) p (outcome text) e in
    (is_image p k.ranges, are_words p k.ranges, k.spelled ∙ whole_text p)

known_err : (text : List ℕ) (r : Result Parts ℕ) (n : ℕ) → Outcome image_form upto 9 text r → r ≡ Err n → IsFault image_form n text
known_err text (Ok q) n o e = absurd cc
known_err text (Err m) n o e = subst (λ (r : Result Parts ℕ). Outcome image_form upto 9 text r) e o

pub read_fault : (text : List ℕ) (n : ℕ) → parts_at text ≡ Err n → IsFault image_form n text
read_fault text n e = known_err text (parts_at text) n (outcome text) e

no_more : (number : ℕ) (p : Parts) → 10 ≤ number → drop number (groups p) ≡ []
unfolding groups
no_more number p late = drop_of_length-le (groups p) (omega arith)

text_begins : (number : ℕ) (p : Parts) → IsImage p → AreWords p → Begins image_form number (text_of p)
unfolding text_of
text_begins number p i w = whole_begins image_form number p (all_ranges number p i w) (text_short p i w) (no_more number p)

only_at : (p : Parts) → IsImage p → AreWords p → (r : Result Parts ℕ) → Outcome image_form upto 9 (text_of p) r → r ≡ Ok p
only_at p i w (Ok q) o = ap (λ (x : Parts). Ok x) (sym (o.only p [] (all_ranges 9 p i w) (sym (whole_text p))).0)
only_at p i w (Err n) o = absurd (o.here (text_begins n p i w))

pub read_only : (text : List ℕ) (p : Parts) → IsImage p → AreWords p → text ≡ text_of p → parts_at text ≡ Ok p
read_only text p i w e = ap parts_at e ∙ only_at p i w (parts_at (text_of p)) (outcome (text_of p))

-- ---- what a call answers

pub only_ok : (text : List ℕ) (q p : Parts) → parts_at text ≡ Ok q → IsImage p → AreWords p → text ≡ text_of p → q ≡ p
only_ok text q p e i w spelled = let both = sym e ∙ read_only text p i w spelled in cc

abbrev pub refused : ImageFault → Result Parts ImageFault
refused f = Err f

pub only_err : (text : List ℕ) (f : ImageFault) → FailsAs f (parts_at text) → (p : Parts) → IsImage p → AreWords p → text ≡ text_of p → IsRead p (refused f)
only_err text (Form n) h p i w spelled = let clash = sym h ∙ read_only text p i w spelled in absurd cc
only_err text Memory h p i w spelled = tt

pub fault_err : (text : List ℕ) (f : ImageFault) → FailsAs f (parts_at text) → FaultIsFirst text (refused f)
fault_err text (Form n) h = read_fault text n h
fault_err text Memory h = tt
