-- A text is cut in one way.
use Rattle.std.proofs.Common.{◌≡◌, ℕ, ◌+◌, ◌<◌, List, [], ◌∷◌, length, drop, refl, sym, ap, subst, ◌∙◌, arith}
use Rattle.pc_grammar.specs.declared.tokens.Token.{Token}
use Rattle.pc_grammar.specs.declared.fronts.Front.{Front}
use Rattle.pc_grammar.specs.declared.fronts.Front.TheVariants.{Blank, Piece, Fault}
use Rattle.pc_grammar.specs.Lexing.{front_of, CutEnd, whole, broken, Lexes, done, blank, piece, fault, OneCut}

-- a lexing, by what the text begins with
abbrev pub After : ℕ → List ℕ → Front → ℕ → List Token → CutEnd → Type 0
After at bytes Blank n ts e = Lexes (at + n) (drop n bytes) ts e
After at bytes (Piece s) n ts e = (rest : List Token) × (ts ≡ record { sort = s; span = record { from = at; to = at + n } } ∷ rest) × Lexes (at + n) (drop n bytes) rest e
After at bytes (Fault r) n ts e = (ts ≡ []) × (e ≡ broken r at (at + n))

known : (at : ℕ) (bytes : List ℕ) (f g : Front) (n m : ℕ) (ts : List Token) (e : CutEnd) → front_of bytes ≡ (f, n) → front_of bytes ≡ (g, m) → After at bytes f n ts e → After at bytes g m ts e
known at bytes f g n m ts e p q h =
    let both : ◌≡◌ {A = Front × ℕ} (f, n) (g, m) = sym p ∙ q in
    let P : Front × ℕ → Type 0 = λ x. After at bytes x.0 x.1 ts e in
    subst P both h

after : {at : ℕ} {bytes : List ℕ} {ts : List Token} {e : CutEnd} → Lexes at bytes ts e → (f : Front) (n : ℕ) → 0 < length bytes → front_of bytes ≡ (f, n) → After at bytes f n ts e
after done f n some is = absurd (omega arith)
after (blank {at = at} {n = m} {bytes = bytes} {ts = ts} {e = e} some' is' d) f n some is = known at bytes Blank f m n ts e is' is d
after (piece {at = at} {n = m} {bytes = bytes} {ts = ts} {e = e} s some' is' d) f n some is = known at bytes (Piece s) f m n _ e is' is (ts, refl, d)
after (fault {at = at} {n = m} {bytes = bytes} r some' is') f n some is = known at bytes (Fault r) f m n [] _ is' is (refl, refl)

at_end : {at : ℕ} {bytes : List ℕ} {ts : List Token} {e : CutEnd} → Lexes at bytes ts e → bytes ≡ [] → (ts ≡ []) × (e ≡ whole)
at_end done eq = (refl, refl)
at_end (blank some is d) eq = absurd (omega (arith, ap length eq))
at_end (piece s some is d) eq = absurd (omega (arith, ap length eq))
at_end (fault r some is) eq = absurd (omega (arith, ap length eq))

one : {at : ℕ} {bytes : List ℕ} {ts : List Token} {e : CutEnd} → Lexes at bytes ts e → (ts' : List Token) (e' : CutEnd) → Lexes at bytes ts' e' → (ts ≡ ts') × (e ≡ e')
one done ts' e' d' = let k = at_end d' refl in (sym k.0, sym k.1)
one (blank {n = n} some is d) ts' e' d' = one d ts' e' (after d' Blank n some is)
one (piece {at = at} {n = n} s some is d) ts' e' d' =
    let k = after d' (Piece s) n some is in
    let rest = one d k.0 e' k.2 in
    let t : Token = record { sort = s; span = record { from = at; to = at + n } } in
    (ap (λ x. t ∷ x) rest.0 ∙ sym k.1, rest.1)
one (fault {n = n} r some is) ts' e' d' = let k = after d' (Fault r) n some is in (sym k.0, sym k.1)

pub one_cut : OneCut
one_cut bytes ts ts' e e' p q = one p ts' e' q
