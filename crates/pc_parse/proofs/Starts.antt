-- One lemma for each way on which the parsers of constants answer.
use Rattle.std.proofs.Common.{◌≡◌, ℕ, ℤ, pos, neg_ℤ, List, [], ◌∷◌, ◌++◌, Option, Some, None, length, refl, sym, ap, subst, ◌∙◌}
use Rattle.pt_base.specs.Operators.{word_of}
use Rattle.pc_grammar.specs.declared.tokens.Sort.TheVariants.{Number, Equals, Minus, Semicolon}
use Rattle.pc_grammar.specs.declared.tokens.Token.{Token}
use Rattle.pc_parse.specs.declared.reading.Failure.{Failure}
use Rattle.pc_parse.specs.declared.reading.Failure.TheVariants.{Broken, Memory}
use Rattle.pc_grammar.specs.Refusing.{first}
use Rattle.pc_parse.specs.Reading.{Comes, Refuses, Always}
use Rattle.pc_parse.proofs.Behind.{fails_behind, fails_here}
use Rattle.pc_parse.proofs.Operands.{some_token}
use Rattle.pc_parse.specs.Settings.{NumberComes, NoNumber}
use Rattle.pc_grammar.specs.Constants.{SpellsEnded, ended, SpellsStart, positive, negative}
use Rattle.pc_parse.specs.Constants.{EndedTakes, EndedFails, StartTakes, StartFails}

-- ---- a number and its semicolon

pub record EndedAfter (t : Token) (i : List Token) (value : ℕ) (rest : List Token) : Type 0 where
  pub is : t.sort ≡ Number value
  pub z : Token
  pub closes : z.sort ≡ Semicolon
  pub whole : i ≡ z ∷ rest

ended_after : {w : List Token} {value : ℕ} → SpellsEnded w value → (t : Token) (i rest : List Token) → w ++ rest ≡ t ∷ i → EndedAfter t i value rest
ended_after (ended n z is closes) t i rest eq =
    let at : n ≡ t = cc in
    let tail : z ∷ rest ≡ i = cc in
    record { is = ap (λ (x : Token). x.sort) (sym at) ∙ is; z = z; closes = closes; whole = sym tail }

ended_first : {w : List Token} {value : ℕ} → SpellsEnded w value → (rest : List Token) → first (w ++ rest) ≡ Some (Number value)
ended_first (ended n z is closes) rest = ap Some is

some_ended : SpellsEnded (some_token (Number 0) ∷ some_token Semicolon ∷ []) 0
some_ended = ended (some_token (Number 0)) (some_token Semicolon) refl refl

pub unique_ended : {w : List Token} {value : ℕ} → SpellsEnded w value → (w' : List Token) (value' : ℕ) (r r' : List Token) → SpellsEnded w' value' → w ++ r ≡ w' ++ r' → (r ≡ r') × (value ≡ value')
unique_ended (ended n z is closes) w' value' r r' d' eq =
    let v = ended_after d' n (z ∷ r) r' (sym eq) in
    let tail : z ∷ r ≡ v.z ∷ r' = v.whole in
    let same : Number _ ≡ Number value' = sym is ∙ v.is in
    (cc, cc)

pub takes_ended : (tokens i : List Token) (value : ℕ) (last : List Token) → NumberComes tokens value i → Comes Semicolon i last → EndedTakes tokens value last
takes_ended tokens i value last n z = record { used = n.token ∷ z.token ∷ []; whole = n.whole ∙ ap (λ x. n.token ∷ x) z.whole; spelled = ended n.token z.token n.is z.is; stops = tt }

pub ended_no_number : (tokens : List Token) → NoNumber tokens → EndedFails tokens (length tokens)
ended_no_number tokens never =
    fails_here SpellsEnded Always [] tokens tokens refl (some_token (Number 0) ∷ some_token Semicolon ∷ [], 0, some_ended)
    (λ others c r same k. never.none c (sym same ∙ ap first k.whole ∙ ended_first k.spelled r))

pub ended_not_closed : (tokens i : List Token) (value : ℕ) → NumberComes tokens value i → (first i ≡ Some Semicolon → ⊥) → EndedFails tokens (length i)
ended_not_closed tokens i value n other =
    fails_here SpellsEnded Always (n.token ∷ []) i tokens n.whole (some_token Semicolon ∷ [], value, ended n.token (some_token Semicolon) n.is refl)
    (λ others c r same k. let v = ended_after k.spelled n.token others r (sym k.whole) in other (sym same ∙ ap first v.whole ∙ ap Some v.closes))

pub ruleset ended_steps = (takes_ended, ended_no_number, ended_not_closed)

-- ---- the word that a cell starts with

pub start_first : {w : List Token} {z : ℤ} → SpellsStart w z → (rest : List Token) → first (w ++ rest) ≡ Some Equals
start_first (positive a is d) rest = ap Some is
start_first (negative a m is is_minus d) rest = ap Some is

-- without a sign
pub record PlainStart (i : List Token) (z : ℤ) (rest : List Token) : Type 0 where
  pub w : List Token
  pub value : ℕ
  pub number : SpellsEnded w value
  pub tree : z ≡ word_of (pos value)
  pub whole : i ≡ w ++ rest

plain_start : {w : List Token} {z : ℤ} → SpellsStart w z → (t : Token) (i rest : List Token) → (first i ≡ Some Minus → ⊥) → w ++ rest ≡ t ∷ i → PlainStart i z rest
plain_start (positive {w = w} {value = value} a is d) t i rest other eq = let tail : w ++ rest ≡ i = cc in record { w = w; value = value; number = d; tree = refl; whole = sym tail }
plain_start (negative {w = w} a m is is_minus d) t i rest other eq = let tail : m ∷ (w ++ rest) ≡ i = cc in absurd (other (ap first (sym tail) ∙ ap Some is_minus))

-- with one
pub record SignedStart (i : List Token) (z : ℤ) (rest : List Token) : Type 0 where
  pub w : List Token
  pub value : ℕ
  pub number : SpellsEnded w value
  pub tree : z ≡ word_of (neg_ℤ (pos value))
  pub whole : i ≡ w ++ rest

signed_start : {w : List Token} {z : ℤ} → SpellsStart w z → (t m : Token) (i rest : List Token) → m.sort ≡ Minus → w ++ rest ≡ t ∷ m ∷ i → SignedStart i z rest
signed_start (positive {w = w} {value = value} a is d) t m i rest is_minus eq =
    let tail : w ++ rest ≡ m ∷ i = cc in
    let clash : Some (Number value) ≡ Some m.sort = sym (ended_first d rest) ∙ ap first tail in cc
signed_start (negative {w = w} {value = value} a m' is is_minus' d) t m i rest is_minus eq = let tail : w ++ rest ≡ i = cc in record { w = w; value = value; number = d; tree = refl; whole = sym tail }

pub unique_start : {w : List Token} {z : ℤ} → SpellsStart w z → (w' : List Token) (z' : ℤ) (r r' : List Token) → SpellsStart w' z' → w ++ r ≡ w' ++ r' → (r ≡ r') × (z ≡ z')
unique_start (positive {w = w} {value = value} a is d) w' z' r r' d' eq =
    let v = plain_start d' a (w ++ r) r' (λ h. let clash : Some (Number value) ≡ Some Minus = sym (ended_first d r) ∙ h in cc) (sym eq) in
    let u = unique_ended d v.w v.value r r' v.number v.whole in
    (u.0, ap (λ n. word_of (pos n)) u.1 ∙ sym v.tree)
unique_start (negative {w = w} a m is is_minus d) w' z' r r' d' eq =
    let v = signed_start d' a m (w ++ r) r' is_minus (sym eq) in
    let u = unique_ended d v.w v.value r r' v.number v.whole in
    (u.0, ap (λ n. word_of (neg_ℤ (pos n))) u.1 ∙ sym v.tree)

pub takes_positive : (tokens i : List Token) (value : ℕ) (z : ℤ) (last : List Token) → Comes Equals tokens i → EndedTakes i value last → z ≡ word_of (pos value) → StartTakes tokens z last
takes_positive tokens i value z last a h word = record { used = a.token ∷ h.used; whole = a.whole ∙ ap (λ x. a.token ∷ x) h.whole; spelled = subst (SpellsStart (a.token ∷ h.used)) (sym word) (positive a.token a.is h.spelled); stops = tt }

pub takes_negative : (tokens i j : List Token) (value : ℕ) (z : ℤ) (last : List Token) → Comes Equals tokens i → Comes Minus i j → EndedTakes j value last → z ≡ word_of (neg_ℤ (pos value)) → StartTakes tokens z last
takes_negative tokens i j value z last a m h word = record {
  used = a.token ∷ m.token ∷ h.used;
  whole = a.whole ∙ ap (λ x. a.token ∷ x) (m.whole ∙ ap (λ x. m.token ∷ x) h.whole);
  spelled = subst (SpellsStart (a.token ∷ m.token ∷ h.used)) (sym word) (negative a.token m.token a.is m.is h.spelled);
  stops = tt;
}

pub start_no_equals : (tokens : List Token) → (first tokens ≡ Some Equals → ⊥) → StartFails tokens (length tokens)
start_no_equals tokens other =
    fails_here SpellsStart Always [] tokens tokens refl (some_token Equals ∷ some_token (Number 0) ∷ some_token Semicolon ∷ [], word_of (pos 0), positive (some_token Equals) refl some_ended)
    (λ others c r same k. other (sym same ∙ ap first k.whole ∙ start_first k.spelled r))

pub positive_refuses : (tokens i : List Token) (f : Failure) → Comes Equals tokens i → (first i ≡ Some Minus → ⊥) → Refuses EndedFails i f → Refuses StartFails tokens f
positive_refuses tokens i (Broken n) a other f =
    fails_behind SpellsEnded Always SpellsStart Always (a.token ∷ []) i tokens n a.whole f
    (λ v value d. ([], word_of (pos value), positive a.token a.is (subst (λ x. SpellsEnded x value) (sym (Rattle.std.proofs.Common.append-nil v)) d)))
    (λ others c r _ same k.
    let v = plain_start k.spelled a.token others r (λ h. other (sym same ∙ h)) (sym k.whole) in
    (v.value, r, record { used = v.w; whole = v.whole; spelled = v.number; stops = tt }))
positive_refuses tokens i Memory a other f = tt

pub negative_refuses : (tokens i j : List Token) (f : Failure) → Comes Equals tokens i → Comes Minus i j → Refuses EndedFails j f → Refuses StartFails tokens f
negative_refuses tokens i j (Broken n) a m f =
    fails_behind SpellsEnded Always SpellsStart Always (a.token ∷ m.token ∷ []) j tokens n (a.whole ∙ ap (λ x. a.token ∷ x) m.whole) f
    (λ v value d. ([], word_of (neg_ℤ (pos value)), negative a.token m.token a.is m.is (subst (λ x. SpellsEnded x value) (sym (Rattle.std.proofs.Common.append-nil v)) d)))
    (λ others c r _ same k.
    let v = signed_start k.spelled a.token m.token others r m.is (sym k.whole) in
    (v.value, r, record { used = v.w; whole = v.whole; spelled = v.number; stops = tt }))
negative_refuses tokens i j Memory a m f = tt

pub ruleset start_steps = (takes_positive, takes_negative, start_no_equals, positive_refuses, negative_refuses)
