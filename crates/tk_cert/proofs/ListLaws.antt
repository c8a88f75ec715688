-- Weights, slots, states and choices: what is read of them is spelled so, and what is spelled so is read.
use Rattle.std.proofs.Common.{◌≡◌, ℕ, ◌+◌, ◌<◌, ◌≤◌, Bool, true, false, cond, eqb, leb, List, [], ◌∷◌, ◌++◌, length, Option, Some, None, refl, sym, ap, subst, ◌∙◌, append_assoc, arith, inl, inr, lit≤, codes}
use Rattle.std.specs.List.{AllByRecursion}
use Rattle.std.proofs.lemmas.Bool.{eqb-true, leb-true, le-leb, and_parts, and_from}
use Rattle.pt_base.specs.Spelling.{each, number_text, count_text, lines_text}
use Rattle.pt_base.specs.Reading.{◌>>=◌, past_at, number_then_at, many_at, count_at, lines_at}
use Rattle.pt_base.proofs.Laws.{Reads, Anything, bind_some, some_is, test_some, chosen, past_found, many_found, many_again}
use Rattle.pt_base.proofs.FieldLaws.{number_then_reads, count_reads, lines_read}
use Rattle.tk_cert.specs.declared.cert.State.{State}
use Rattle.tk_cert.specs.declared.cert.State.TheVariants.{Free, Start, Paused, Waiting, Ended}
use Rattle.tk_cert.specs.declared.cert.Walk.{Walk}
use Rattle.tk_cert.specs.declared.cert.Line.{Line}
use Rattle.tk_cert.specs.Shapes.{RiseFrom}
use Rattle.tk_cert.specs.Text.{optional_text, line_text, weight_text, slot_text, state_text, choice_text, choices_text, walk_text}
use Rattle.tk_cert.specs.Reading.{too_large, optional_at, line_at, weight_at, rise_from, slot_at, place_at, plain_at, state_at, choice_at, bound_at, places_at, loops_at, slots_at, choices_at, walk_at}
use Rattle.tk_cert.specs.Form.{IsNumber, ArePair, IsLine, IsWeight, IsState, IsWalk}
use Rattle.tk_cert.proofs.PartLaws.{optional_reads, line_reads}

-- ---- the bound, and the lines of places

pub bound_reads : Reads bound_at (count_text (codes "bound ")) IsNumber Anything
unfolding bound_at
bound_reads =
    let r = count_reads (codes "bound ") 0 too_large (lit≤ tt) in
    record { found = λ bytes n rest e. let f = r.found bytes n rest e in (f.0.1, f.1); again = λ n rest is stop. r.again n rest (omega arith, is) tt }

abbrev pub PlacesIn : List Line → Type 0
PlacesIn xs = (1 ≤ length xs) × (length xs ≤ 65536) × AllByRecursion IsLine xs

pub places_read : Reads places_at (lines_text (codes "at ") line_text) PlacesIn Anything
unfolding places_at
places_read =
    let r = lines_read (codes "at ") 1 65537 line_at line_text IsLine (lit≤ tt) line_reads in
    record { found = λ bytes xs rest e. let f = r.found bytes xs rest e in ((f.0.0, omega (arith, f.0.1), f.0.2), f.1); again = λ xs rest is stop. r.again xs rest (is.0, omega (arith, is.1), is.2) tt }

-- ---- weights

weight_found : (bytes : List ℕ) (x : ℕ × ℕ) (rest : List ℕ) → weight_at bytes ≡ Some (x, rest) → IsWeight x × (bytes ≡ weight_text x ++ rest)
unfolding weight_at
weight_found bytes x rest e =
    let p = bind_some (number_then_at 32 65536 bytes) (λ p. number_then_at 10 too_large p.1 >>= λ w. Some ((p.0, w.0), w.1)) (x, rest) e in
    let w = bind_some (number_then_at 10 too_large p.0.1) (λ w. Some ((p.0.0, w.0), w.1)) (x, rest) p.2 in
    let fp = (number_then_reads 32 65536 (lit≤ tt) refl).found bytes p.0.0 p.0.1 p.1 in
    let fw = (number_then_reads 10 too_large (lit≤ tt) refl).found p.0.1 w.0.0 w.0.1 w.1 in
    let both : bytes ≡ weight_text (p.0.0, w.0.0) ++ w.0.1 = fp.1 ∙ ap (λ (t : List ℕ). number_text 32 p.0.0 ++ t) fw.1 ∙ sym (append_assoc (number_text 32 p.0.0) (number_text 10 w.0.0) w.0.1) in
    subst (λ (y : (ℕ × ℕ) × List ℕ). IsWeight y.0 × (bytes ≡ weight_text y.0 ++ y.1)) (some_is ((p.0.0, w.0.0), w.0.1) (x, rest) w.2) ((fp.0, fw.0), both)

weight_again : (x : ℕ × ℕ) (rest : List ℕ) → IsWeight x → Anything rest → weight_at (weight_text x ++ rest) ≡ Some (x, rest)
unfolding weight_at
weight_again x rest is _ =
    ap weight_at (append_assoc (number_text 32 x.0) (number_text 10 x.1) rest) ∙ rw ((number_then_reads 32 65536 (lit≤ tt) refl).again x.0 (number_text 10 x.1 ++ rest) is.0 tt, (number_then_reads 10 too_large (lit≤ tt) refl).again x.1 rest is.1 tt) refl

pub weight_reads : Reads weight_at weight_text IsWeight Anything
weight_reads = record { found = weight_found; again = weight_again }

rise_found : (low : ℕ) (ws : List (ℕ × ℕ)) → rise_from low ws ≡ true → RiseFrom low ws
rise_found low [] e = tt
rise_found low (w ∷ ws) e = let p = and_parts (leb low w.0) (rise_from (w.0 + 1) ws) e in (leb-true low w.0 p.0, rise_found (w.0 + 1) ws p.1)

rise_again : (low : ℕ) (ws : List (ℕ × ℕ)) → RiseFrom low ws → rise_from low ws ≡ true
rise_again low [] r = refl
rise_again low (w ∷ ws) r = and_from (leb low w.0) (rise_from (w.0 + 1) ws) (le-leb low w.0 r.0) (rise_again (w.0 + 1) ws r.1)

-- places that rise are not more than there are places
pub rise_few : (low : ℕ) (ws : List (ℕ × ℕ)) → low ≤ 65536 → AllByRecursion IsWeight ws → RiseFrom low ws → length ws + low ≤ 65536
rise_few low [] le all r = omega arith
rise_few low (w ∷ ws) le all r = let more = rise_few (w.0 + 1) ws (omega (arith, all.0.0)) all.1 r.1 in omega (arith, r.0)

abbrev pub WeightsIn : List (ℕ × ℕ) → Type 0
WeightsIn ws = AllByRecursion IsWeight ws × RiseFrom 0 ws

pub loops_read : Reads loops_at (lines_text (codes "loops ") weight_text) WeightsIn Anything
unfolding loops_at
loops_read =
    let lines = lines_read (codes "loops ") 0 65537 weight_at weight_text IsWeight (lit≤ tt) weight_reads in
    record {
      found = λ bytes xs rest e.
          let a = bind_some (lines_at (codes "loops ") 0 65537 weight_at bytes) (λ x. cond (rise_from 0 x.0) (Some x) None) (xs, rest) e in
          let t = test_some (rise_from 0 a.0.0) (Some a.0) (xs, rest) a.2 in
          let f = lines.found bytes a.0.0 a.0.1 a.1 in
          subst (λ (y : List (ℕ × ℕ) × List ℕ). WeightsIn y.0 × (bytes ≡ lines_text (codes "loops ") weight_text y.0 ++ y.1)) (some_is a.0 (xs, rest) t.1) ((f.0.2, rise_found 0 a.0.0 t.0), f.1);
      again = λ xs rest is stop.
          rw (lines.again xs rest (omega arith, omega (arith, rise_few 0 xs (lit≤ tt) is.0 is.1), is.0) tt, rise_again 0 xs is.1) refl;
    }

-- ---- slots

slot_found : (bytes : List ℕ) (x : Option ℕ × Option ℕ) (rest : List ℕ) → slot_at bytes ≡ Some (x, rest) → ArePair x × (bytes ≡ slot_text x ++ rest)
unfolding slot_at
slot_found bytes x rest e =
    let p = bind_some (optional_at bytes) (λ p. past_at 32 p.1 >>= λ m. optional_at m >>= λ q. past_at 10 q.1 >>= λ r. Some ((p.0, q.0), r)) (x, rest) e in
    let m = bind_some (past_at 32 p.0.1) (λ m. optional_at m >>= λ q. past_at 10 q.1 >>= λ r. Some ((p.0.0, q.0), r)) (x, rest) p.2 in
    let q = bind_some (optional_at m.0) (λ q. past_at 10 q.1 >>= λ r. Some ((p.0.0, q.0), r)) (x, rest) m.2 in
    let r = bind_some (past_at 10 q.0.1) (λ r. Some ((p.0.0, q.0.0), r)) (x, rest) q.2 in
    let fp = optional_reads.found bytes p.0.0 p.0.1 p.1 in
    let fq = optional_reads.found m.0 q.0.0 q.0.1 q.1 in
    let tail : m.0 ≡ (optional_text q.0.0 ++ 10 ∷ []) ++ r.0 = fq.1 ∙ ap (λ (t : List ℕ). optional_text q.0.0 ++ t) (past_found 10 q.0.1 r.0 r.1) ∙ sym (append_assoc (optional_text q.0.0) (10 ∷ []) r.0) in
    let both : bytes ≡ slot_text (p.0.0, q.0.0) ++ r.0 = fp.1 ∙ ap (λ (t : List ℕ). optional_text p.0.0 ++ t) (past_found 32 p.0.1 m.0 m.1 ∙ ap (λ (t : List ℕ). 32 ∷ t) tail) ∙ sym (append_assoc (optional_text p.0.0) (32 ∷ (optional_text q.0.0 ++ 10 ∷ [])) r.0) in
    subst (λ (y : (Option ℕ × Option ℕ) × List ℕ). ArePair y.0 × (bytes ≡ slot_text y.0 ++ y.1)) (some_is ((p.0.0, q.0.0), r.0) (x, rest) r.2) ((fp.0, fq.0), both)

slot_again : (x : Option ℕ × Option ℕ) (rest : List ℕ) → ArePair x → Anything rest → slot_at (slot_text x ++ rest) ≡ Some (x, rest)
unfolding slot_at
slot_again x rest is _ =
    let e : slot_text x ++ rest ≡ optional_text x.0 ++ (32 ∷ (optional_text x.1 ++ (10 ∷ rest))) = append_assoc (optional_text x.0) (32 ∷ (optional_text x.1 ++ 10 ∷ [])) rest ∙ ap (λ (t : List ℕ). optional_text x.0 ++ (32 ∷ t)) (append_assoc (optional_text x.1) (10 ∷ []) rest) in
    ap slot_at e ∙ rw (optional_reads.again x.0 (32 ∷ (optional_text x.1 ++ (10 ∷ rest))) is.0 refl, optional_reads.again x.1 (10 ∷ rest) is.1 refl) refl

abbrev pub SlotsIn : List (Option ℕ × Option ℕ) → Type 0
SlotsIn xs = (1 ≤ length xs) × (length xs ≤ 64) × AllByRecursion ArePair xs

pub slots_read : Reads slots_at (lines_text (codes "slots ") slot_text) SlotsIn Anything
unfolding slots_at
slots_read =
    let one : Reads slot_at slot_text ArePair Anything = record { found = slot_found; again = slot_again } in
    let r = lines_read (codes "slots ") 1 65 slot_at slot_text ArePair (lit≤ tt) one in
    record { found = λ bytes xs rest e. let f = r.found bytes xs rest e in ((f.0.0, omega (arith, f.0.1), f.0.2), f.1); again = λ xs rest is stop. r.again xs rest (is.0, omega (arith, is.1), is.2) tt }

-- ---- states

abbrev Found : ℕ → List ℕ → State → List ℕ → Type 0
Found letter bytes x rest = IsState x × (letter ∷ bytes ≡ state_text x ++ rest)

place_found : (bytes : List ℕ) (n : ℕ) (rest : List ℕ) → place_at bytes ≡ Some (n, rest) → (n < 65536) × (bytes ≡ 32 ∷ (number_text 10 n ++ rest))
unfolding place_at
place_found bytes n rest e =
    let a = bind_some (past_at 32 bytes) (λ r. number_then_at 10 65536 r) (n, rest) e in
    let f = (number_then_reads 10 65536 (lit≤ tt) refl).found a.0 n rest a.2 in
    (f.0, past_found 32 bytes a.0 a.1 ∙ ap (λ (t : List ℕ). 32 ∷ t) f.1)

place_again : (n : ℕ) (rest : List ℕ) → n < 65536 → place_at (32 ∷ (number_text 10 n ++ rest)) ≡ Some (n, rest)
unfolding place_at
place_again n rest is = (number_then_reads 10 65536 (lit≤ tt) refl).again n rest is tt

plain_found : (letter : ℕ) (s : State) → IsState s → state_text s ≡ letter ∷ 10 ∷ [] → (bytes : List ℕ) (x : State) (rest : List ℕ) → plain_at s bytes ≡ Some (x, rest) → Found letter bytes x rest
plain_found letter s is spelled bytes x rest e =
    let a = bind_some (past_at 10 bytes) (λ r. Some (s, r)) (x, rest) e in
    subst (λ (y : State × List ℕ). Found letter bytes y.0 y.1) (some_is (s, a.0) (x, rest) a.2) (is, ap (λ (t : List ℕ). letter ∷ t) (past_found 10 bytes a.0 a.1) ∙ ap (λ (t : List ℕ). t ++ a.0) (sym spelled))

abbrev as_paused : ℕ × List ℕ → Option (State × List ℕ)
as_paused n = Some (Paused n.0, n.1)

abbrev as_waiting : ℕ × List ℕ → Option (State × List ℕ)
as_waiting n = Some (Waiting n.0, n.1)

paused_found : (bytes : List ℕ) (x : State) (rest : List ℕ) → (place_at bytes >>= as_paused) ≡ Some (x, rest) → Found 112 bytes x rest
paused_found bytes x rest e =
    let a = bind_some (place_at bytes) as_paused (x, rest) e in
    let f = place_found bytes a.0.0 a.0.1 a.1 in
    subst (λ (y : State × List ℕ). Found 112 bytes y.0 y.1) (some_is (Paused a.0.0, a.0.1) (x, rest) a.2) (f.0, ap (λ (t : List ℕ). 112 ∷ t) f.1)

waiting_found : (bytes : List ℕ) (x : State) (rest : List ℕ) → (place_at bytes >>= as_waiting) ≡ Some (x, rest) → Found 119 bytes x rest
waiting_found bytes x rest e =
    let a = bind_some (place_at bytes) as_waiting (x, rest) e in
    let f = place_found bytes a.0.0 a.0.1 a.1 in
    subst (λ (y : State × List ℕ). Found 119 bytes y.0 y.1) (some_is (Waiting a.0.0, a.0.1) (x, rest) a.2) (f.0, ap (λ (t : List ℕ). 119 ∷ t) f.1)

found_at : (b letter : ℕ) (bytes : List ℕ) (x : State) (rest : List ℕ) → eqb b letter ≡ true → Found letter bytes x rest → Found b bytes x rest
found_at b letter bytes x rest e f = subst (λ (k : ℕ). Found k bytes x rest) (sym (eqb-true b letter e)) f

abbrev after_w : ℕ → List ℕ → Option (State × List ℕ)
after_w b bs = cond (eqb b 101) (plain_at Ended bs) None

abbrev after_p : ℕ → List ℕ → Option (State × List ℕ)
after_p b bs = cond (eqb b 119) (place_at bs >>= as_waiting) (after_w b bs)

abbrev after_s : ℕ → List ℕ → Option (State × List ℕ)
after_s b bs = cond (eqb b 112) (place_at bs >>= as_paused) (after_p b bs)

abbrev after_f : ℕ → List ℕ → Option (State × List ℕ)
after_f b bs = cond (eqb b 115) (plain_at Start bs) (after_s b bs)

state_found : (bytes : List ℕ) (x : State) (rest : List ℕ) → state_at bytes ≡ Some (x, rest) → IsState x × (bytes ≡ state_text x ++ rest)
unfolding state_at
state_found [] x rest e = absurd cc
state_found (b ∷ bs) x rest e =
    elim (chosen (eqb b 102) (plain_at Free bs) (after_f b bs) (Some (x, rest)) e) [
      | inl p ↦ found_at b 102 bs x rest p.0 (plain_found 102 Free tt refl bs x rest p.1)
      | inr p ↦
          elim (chosen (eqb b 115) (plain_at Start bs) (after_s b bs) (Some (x, rest)) p.1) [
            | inl q ↦ found_at b 115 bs x rest q.0 (plain_found 115 Start tt refl bs x rest q.1)
            | inr q ↦
                elim (chosen (eqb b 112) (place_at bs >>= as_paused) (after_p b bs) (Some (x, rest)) q.1) [
                  | inl r ↦ found_at b 112 bs x rest r.0 (paused_found bs x rest r.1)
                  | inr r ↦
                      elim (chosen (eqb b 119) (place_at bs >>= as_waiting) (after_w b bs) (Some (x, rest)) r.1) [
                        | inl s ↦ found_at b 119 bs x rest s.0 (waiting_found bs x rest s.1)
                        | inr s ↦ let t = test_some (eqb b 101) (plain_at Ended bs) (x, rest) s.1 in found_at b 101 bs x rest t.0 (plain_found 101 Ended tt refl bs x rest t.1)
                      ]
                ]
          ]
    ]

state_again : (x : State) (rest : List ℕ) → IsState x → Anything rest → state_at (state_text x ++ rest) ≡ Some (x, rest)
unfolding state_at
state_again Free rest is _ = refl
state_again Start rest is _ = refl
state_again (Paused at) rest is _ = rw (place_again at rest is) refl
state_again (Waiting at) rest is _ = rw (place_again at rest is) refl
state_again Ended rest is _ = refl

pub state_reads : Reads state_at state_text IsState Anything
state_reads = record { found = state_found; again = state_again }

-- ---- choices

abbrev AnyChoice : Bool → Type 0
AnyChoice b = Unit {0}

choice_found : (bytes : List ℕ) (x : Bool) (rest : List ℕ) → choice_at bytes ≡ Some (x, rest) → AnyChoice x × (bytes ≡ choice_text x ++ rest)
unfolding choice_at
choice_found [] x rest e = absurd cc
choice_found (b ∷ bs) x rest e =
    let P : Bool × List ℕ → Type 0 = λ y. Unit {0} × (b ∷ bs ≡ choice_text y.0 ++ y.1) in
    elim (chosen (eqb b 48) (Some (false, bs)) (cond (eqb b 49) (Some (true, bs)) None) (Some (x, rest)) e) [
      | inl p ↦ subst P (some_is (false, bs) (x, rest) p.1) (tt, ap (λ (k : ℕ). k ∷ bs) (eqb-true b 48 p.0))
      | inr p ↦ let t = test_some (eqb b 49) (Some (true, bs)) (x, rest) p.1 in subst P (some_is (true, bs) (x, rest) t.1) (tt, ap (λ (k : ℕ). k ∷ bs) (eqb-true b 49 t.0))
    ]

choice_again : (x : Bool) (rest : List ℕ) → AnyChoice x → Anything rest → choice_at (choice_text x ++ rest) ≡ Some (x, rest)
unfolding choice_at
choice_again false rest is _ = refl
choice_again true rest is _ = refl

choice_reads : Reads choice_at choice_text AnyChoice Anything
choice_reads = record { found = choice_found; again = choice_again }

any_choices : (bs : List Bool) → AllByRecursion AnyChoice bs
any_choices [] = tt
any_choices (b ∷ bs) = (tt, any_choices bs)

choices_found : (bytes : List ℕ) (bs : List Bool) (rest : List ℕ) → choices_at bytes ≡ Some (bs, rest) → IsNumber (length bs) × (bytes ≡ choices_text bs ++ rest)
unfolding choices_at
choices_found bytes bs rest e =
    let n = bind_some (count_at (codes "choices ") 0 too_large bytes) (λ n. many_at choice_at n.0 n.1 >>= λ x. past_at 10 x.1 >>= λ r. Some (x.0, r)) (bs, rest) e in
    let m = bind_some (many_at choice_at n.0.0 n.0.1) (λ x. past_at 10 x.1 >>= λ r. Some (x.0, r)) (bs, rest) n.2 in
    let r = bind_some (past_at 10 m.0.1) (λ r. Some (m.0.0, r)) (bs, rest) m.2 in
    let fn = (count_reads (codes "choices ") 0 too_large (lit≤ tt)).found bytes n.0.0 n.0.1 n.1 in
    let fm = many_found choice_at choice_text AnyChoice Anything choice_reads n.0.0 n.0.1 m.0.0 m.0.1 m.1 in
    let tail : n.0.1 ≡ (each choice_text m.0.0 ++ 10 ∷ []) ++ r.0 = fm.2 ∙ ap (λ (t : List ℕ). each choice_text m.0.0 ++ t) (past_found 10 m.0.1 r.0 r.1) ∙ sym (append_assoc (each choice_text m.0.0) (10 ∷ []) r.0) in
    let counted : count_text (codes "choices ") n.0.0 ≡ count_text (codes "choices ") (length m.0.0) = ap (count_text (codes "choices ")) (sym fm.0) in
    let both : bytes ≡ choices_text m.0.0 ++ r.0 = fn.1 ∙ ap (λ (t : List ℕ). count_text (codes "choices ") n.0.0 ++ t) tail ∙ ap (λ (t : List ℕ). t ++ ((each choice_text m.0.0 ++ 10 ∷ []) ++ r.0)) counted ∙ sym (append_assoc (count_text (codes "choices ") (length m.0.0)) (each choice_text m.0.0 ++ 10 ∷ []) r.0) in
    let few : IsNumber (length m.0.0) = omega (arith, fn.0.1, fm.0) in
    subst (λ (y : List Bool × List ℕ). IsNumber (length y.0) × (bytes ≡ choices_text y.0 ++ y.1)) (some_is (m.0.0, r.0) (bs, rest) r.2) (few, both)

choices_again : (bs : List Bool) (rest : List ℕ) → IsNumber (length bs) → Anything rest → choices_at (choices_text bs ++ rest) ≡ Some (bs, rest)
unfolding choices_at
choices_again bs rest few _ =
    let e : choices_text bs ++ rest ≡ count_text (codes "choices ") (length bs) ++ (each choice_text bs ++ (10 ∷ rest)) = append_assoc (count_text (codes "choices ") (length bs)) (each choice_text bs ++ 10 ∷ []) rest ∙ ap (λ (t : List ℕ). count_text (codes "choices ") (length bs) ++ t) (append_assoc (each choice_text bs) (10 ∷ []) rest) in
    ap choices_at e
    ∙ rw ((count_reads (codes "choices ") 0 too_large (lit≤ tt)).again (length bs) (each choice_text bs ++ (10 ∷ rest)) (omega arith, few) tt, many_again choice_at choice_text AnyChoice Anything choice_reads (λ x r. tt) bs (10 ∷ rest) (any_choices bs) tt) refl

-- ---- walks

walk_found : (bytes : List ℕ) (w : Walk) (rest : List ℕ) → walk_at bytes ≡ Some (w, rest) → IsWalk w × (bytes ≡ walk_text w ++ rest)
unfolding walk_at
walk_found bytes w rest e =
    let s = bind_some (lines_at (codes "walk ") 1 65 state_at bytes) (λ s. choices_at s.1 >>= λ c. Some (record { states = s.0; choices = c.0 }, c.1)) (w, rest) e in
    let c = bind_some (choices_at s.0.1) (λ c. Some (record { states = s.0.0; choices = c.0 }, c.1)) (w, rest) s.2 in
    let fs = (lines_read (codes "walk ") 1 65 state_at state_text IsState (lit≤ tt) state_reads).found bytes s.0.0 s.0.1 s.1 in
    let fc = choices_found s.0.1 c.0.0 c.0.1 c.1 in
    let made : Walk = record { states = s.0.0; choices = c.0.0 } in
    let both : bytes ≡ walk_text made ++ c.0.1 = fs.1 ∙ ap (λ (t : List ℕ). lines_text (codes "walk ") state_text s.0.0 ++ t) fc.1 ∙ sym (append_assoc (lines_text (codes "walk ") state_text s.0.0) (choices_text c.0.0) c.0.1) in
    subst (λ (y : Walk × List ℕ). IsWalk y.0 × (bytes ≡ walk_text y.0 ++ y.1)) (some_is (made, c.0.1) (w, rest) c.2) ((fs.0.0, omega (arith, fs.0.1), fs.0.2, fc.0), both)

walk_again : (w : Walk) (rest : List ℕ) → IsWalk w → Anything rest → walk_at (walk_text w ++ rest) ≡ Some (w, rest)
unfolding walk_at
walk_again w rest is _ =
    ap walk_at (append_assoc (lines_text (codes "walk ") state_text w.states) (choices_text w.choices) rest)
    ∙ rw ((lines_read (codes "walk ") 1 65 state_at state_text IsState (lit≤ tt) state_reads).again w.states (choices_text w.choices ++ rest) (is.0, omega (arith, is.1), is.2) tt, choices_again w.choices rest is.3 tt) refl

pub walk_reads : Reads walk_at walk_text IsWalk Anything
walk_reads = record { found = walk_found; again = walk_again }
