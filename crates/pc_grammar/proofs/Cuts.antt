-- What has been cut so far, and what is known of a whole cut.
use Rattle.std.proofs.Common.{◌≡◌, ℕ, zero, suc, ◌+◌, ◌<◌, ◌≤◌, List, [], ◌∷◌, ◌++◌, length, drop, take, refl, sym, ap, subst, ◌∙◌, append_assoc, append-nil, ◌-◌, length-drop, arith}
use Rattle.std.proofs.lemmas.List.{drop-drop}
use Rattle.std.specs.List.{slice_range}
use Rattle.pt_base.specs.declared.rules.Rule.{Rule}
use Rattle.pt_base.specs.declared.rules.Refusal.TheVariants.{Broken}
use Rattle.pc_grammar.specs.declared.tokens.Sort.{Sort}
use Rattle.pc_grammar.specs.declared.tokens.Token.{Token}
use Rattle.pc_grammar.specs.declared.fronts.Front.{Front}
use Rattle.pc_grammar.specs.declared.fronts.Front.TheVariants.{Blank, Piece, Fault}
use Rattle.pc_grammar.specs.Lexing.{front_of, CutEnd, whole, broken, Lexes, done, blank, piece, fault, RefusedIn, InOrder, AreSlices, TextOf}
use Rattle.pc_grammar.proofs.Facts.{facts}

abbrev pub token_at : Sort → ℕ → ℕ → Token
token_at s at to = record { sort = s; span = record { from = at; to = to } }

-- whatever comes of the rest comes of the whole
pub record CutSoFar (bytes : List ℕ) (tokens : List Token) (at : ℕ) (rest : List ℕ) : Type 0 where
  pub counted : at + length rest ≡ length bytes
  pub whole : (ts : List Token) (e : CutEnd) → Lexes at rest ts e → Lexes 0 bytes (tokens ++ ts) e

pub cut_begins : (bytes : List ℕ) → CutSoFar bytes [] 0 bytes
cut_begins bytes = record { counted = omega arith; whole = λ ts e d. d }

pub cut_blank : (bytes : List ℕ) (tokens : List Token) (at n to : ℕ) (rest : List ℕ) → CutSoFar bytes tokens at rest → 0 < length rest → n ≤ length rest → front_of rest ≡ (Blank, n) → to ≡ at + n → CutSoFar bytes tokens to (drop n rest)
cut_blank bytes tokens at n to rest s some within is eq = record {
  counted = omega (arith, s.counted, length-drop n rest);
  whole = λ ts e d. s.whole ts e (blank some is (subst (λ x. Lexes x (drop n rest) ts e) eq d));
}

pub cut_piece : (bytes : List ℕ) (tokens longer : List Token) (at n to : ℕ) (rest : List ℕ) (s : Sort) → CutSoFar bytes tokens at rest → 0 < length rest → n ≤ length rest → front_of rest ≡ (Piece s, n) → to ≡ at + n →
    longer ≡ tokens ++ token_at s at to ∷ [] → CutSoFar bytes longer to (drop n rest)
cut_piece bytes tokens longer at n to rest s so some within is eq grows = record {
  counted = omega (arith, so.counted, length-drop n rest);
  whole = λ ts e d. subst (λ x. Lexes 0 bytes x e) (sym (append_assoc tokens (token_at s at (at + n) ∷ []) ts) ∙ ap (λ x. (tokens ++ token_at s at x ∷ []) ++ ts) (sym eq) ∙ ap (λ x. x ++ ts) (sym grows))
      (so.whole (token_at s at (at + n) ∷ ts) e (piece s some is (subst (λ x. Lexes x (drop n rest) ts e) eq d)));
}

pub cut_fault : (bytes : List ℕ) (tokens : List Token) (at n to : ℕ) (rest : List ℕ) (r : Rule) → CutSoFar bytes tokens at rest → 0 < length rest → front_of rest ≡ (Fault r, n) → to ≡ at + n → RefusedIn bytes (Broken r (record { from = at; to = to }))
cut_fault bytes tokens at n to rest r s some is eq = (tokens ++ [], subst (λ x. Lexes 0 bytes (tokens ++ []) (broken r at x)) (sym eq) (s.whole [] (broken r at (at + n)) (fault r some is)))

none_left : (l : List ℕ) → length l ≤ 0 → [] ≡ l
none_left [] h = refl
none_left (b ∷ l) h = absurd (omega arith)

pub cut_ends : (bytes : List ℕ) (tokens : List Token) (at : ℕ) (rest : List ℕ) → CutSoFar bytes tokens at rest → length rest ≤ 0 → Lexes 0 bytes tokens whole
cut_ends bytes tokens at rest s none = subst (λ x. Lexes 0 bytes x whole) (append-nil tokens) (s.whole [] whole (subst (λ x. Lexes at x [] whole) (none_left rest none) done))

pub front_is : (bytes : List ℕ) (r : Front × ℕ) (f : Front) → r ≡ front_of bytes → r.0 ≡ f → front_of bytes ≡ (f, r.1)
front_is bytes r f value is = sym value ∙ ap (λ x. let k : Front × ℕ = (x, r.1) in k) is

-- a cut's tokens are in order, and each has its slice
pub record Known (text : List ℕ) (at : ℕ) (ts : List Token) : Type 0 where
  pub in_order : InOrder at ts (length text)
  pub slices : AreSlices text ts

earlier : (at later : ℕ) (ts : List Token) (end : ℕ) → at ≤ later → InOrder later ts end → InOrder at ts end
earlier at later [] end le h = omega arith
earlier at later (t ∷ ts) end le h = let first : later ≤ t.span.from = h.0 in (omega arith, h.1, h.2)

no_slices : (text : List ℕ) → AreSlices text []
no_slices text k d h = absurd (omega arith)

more_slices : (text : List ℕ) (t : Token) (ts : List Token) → TextOf t.sort (slice_range text t.span.from t.span.to) → AreSlices text ts → AreSlices text (t ∷ ts)
more_slices text t ts first rest zero d h = first
more_slices text t ts first rest (suc k) d h = rest k d (omega arith)

-- where a front's bytes end, the rest of the text begins
record After (at n : ℕ) (bytes text : List ℕ) : Type 0 where
  pub rest : drop n bytes ≡ drop (at + n) text
  pub counted : at + n + length (drop n bytes) ≡ length text

after : (at n : ℕ) (bytes text : List ℕ) (f : Front) → 0 < length bytes → front_of bytes ≡ (f, n) → bytes ≡ drop at text → at + length bytes ≡ length text → After at n bytes text
after at n bytes text f some is rest counted =
    let P : Front × ℕ → Type 0 = λ x. x.1 ≤ length bytes in
    let within : n ≤ length bytes = subst P is (facts bytes some).within in
    record { rest = ap (drop n) rest ∙ drop-drop n at text; counted = omega (arith, length-drop n bytes) }

slice_of : (at n : ℕ) (bytes text : List ℕ) → bytes ≡ drop at text → take n bytes ≡ slice_range text at (at + n)
slice_of at n bytes text rest = let e : n ≡ at + n - at = omega arith in ap (take n) rest ∙ ap (λ m. take m (drop at text)) e

pub known : {at : ℕ} {bytes : List ℕ} {ts : List Token} {e : CutEnd} → Lexes at bytes ts e → (text : List ℕ) → bytes ≡ drop at text → at + length bytes ≡ length text → Known text at ts
known done text rest counted = record { in_order = omega (arith, counted); slices = no_slices text }
known (blank {at = at} {n = n} {bytes = bytes} {ts = ts} some is d) text rest counted =
    let next = after at n bytes text Blank some is rest counted in
    let k = known d text next.rest next.counted in
    record { in_order = earlier at (at + n) ts (length text) (omega arith) k.in_order; slices = k.slices }
known (piece {at = at} {n = n} {bytes = bytes} {ts = ts} s some is d) text rest counted =
    let next = after at n bytes text (Piece s) some is rest counted in
    let k = known d text next.rest next.counted in
    let P : Front × ℕ → Type 0 = λ x. 0 < x.1 in
    let longer : 0 < n = subst P is (facts bytes some).some in
    let Q : Front × ℕ → Type 0 = λ x. TextOf s (take x.1 bytes) in
    let here : TextOf s (take n bytes) = subst Q is ((facts bytes some).text s (ap (λ x. let y : Front × ℕ = x in y.0) is)) in
    record {
      in_order = (omega arith, omega arith, k.in_order);
      slices = more_slices text (token_at s at (at + n)) ts (subst (λ x. TextOf s x) (slice_of at n bytes text rest) here) k.slices;
    }
known (fault {at = at} r some is) text rest counted = record { in_order = omega (arith, counted); slices = no_slices text }

pub ruleset cut_steps = (cut_begins, cut_blank, cut_piece, cut_fault, cut_ends)
