-- One lemma for each way on which the parsers of a loop's head and of an abort's condition answer.
use Rattle.std.proofs.Common.{◌≡◌, ℕ, List, [], ◌∷◌, ◌++◌, Option, Some, None, length, refl, sym, ap, subst, ◌∙◌, append_assoc, append-nil}
use Rattle.pc_grammar.specs.declared.tokens.Sort.TheVariants.{Number as NumberSort, Semicolon, Hash, WhenWord, PreWord, OpenParenthesis, CloseParenthesis}
use Rattle.pc_grammar.specs.declared.tokens.Token.{Token}
use Rattle.pc_grammar.specs.declared.expressions.Word.{Word}
use Rattle.pc_grammar.specs.declared.expressions.Expr.{Expr}
use Rattle.pc_grammar.specs.declared.expressions.Expr.TheVariants.{Number}
use Rattle.pc_parse.specs.declared.reading.Failure.{Failure}
use Rattle.pc_parse.specs.declared.reading.Failure.TheVariants.{Broken, Memory}
use Rattle.pc_grammar.specs.declared.marks.Pair.{Pair}
use Rattle.pc_grammar.specs.declared.marks.Pair.TheVariants.{Parentheses}
use Rattle.pc_grammar.specs.Signs.{opens_of, closes_of}
use Rattle.pc_grammar.specs.Refusing.{first}
use Rattle.pc_parse.specs.Reading.{Comes, Refuses, Always}
use Rattle.pc_grammar.specs.Expressions.{SpellsBetween, between}
use Rattle.pc_parse.specs.Expressions.{BetweenTakes, BetweenFails}
use Rattle.pc_parse.proofs.Behind.{fails_behind, fails_here}
use Rattle.pc_parse.proofs.Operands.{some_token}
use Rattle.pc_parse.proofs.Pairs.{some_level}
use Rattle.pc_parse.proofs.Unique.{unique_between, between_first}
use Rattle.pc_grammar.specs.Settings.{SpellsLoop, free, counted, SpellsTest, test}
use Rattle.pc_parse.specs.Settings.{NumberComes, NoNumber, NoHash, LoopTakes, LoopFails, TestTakes, TestFails}

-- an expression between two tokens
some_between : (source : List ℕ) (pair : Pair) → SpellsBetween source 64 pair (some_token (opens_of pair) ∷ some_token (NumberSort 0) ∷ some_token (closes_of pair) ∷ []) (Number 0)
some_between source pair = between (some_token (opens_of pair)) (some_token (closes_of pair)) refl refl (some_level source 64 10)

-- ---- the head of a loop

-- what stands behind the test: nothing, or a bound
abbrev pub BoundAfter : Option ℕ → List Token → List Token → Type 0
BoundAfter None back rest = back ≡ rest
BoundAfter (Some most) back rest = (h : Token) × (n : Token) × (h.sort ≡ Hash) × (n.sort ≡ NumberSort most) × (back ≡ h ∷ n ∷ rest)

pub record LoopParts (source : List ℕ) (i : List Token) (p : Expr Word × Option ℕ) (rest : List Token) : Type 0 where
  pub w : List Token
  pub back : List Token
  pub e : Expr Word
  pub most : Option ℕ
  pub front : SpellsBetween source 64 Parentheses w e
  pub tree : p ≡ (e, most)
  pub bound : BoundAfter most back rest
  pub whole : i ≡ w ++ back

pub loop_parts : {source : List ℕ} {w : List Token} {p : Expr Word × Option ℕ} → SpellsLoop source w p → (i rest : List Token) → i ≡ w ++ rest → LoopParts source i p rest
loop_parts (free {w = w} {e = e} d) i rest eq = record { w = w; back = rest; e = e; most = None; front = d; tree = refl; bound = refl; whole = eq }
loop_parts (counted {w = w} {e = e} {most = most} h n d is_hash is_number) i rest eq =
    record { w = w; back = h ∷ n ∷ rest; e = e; most = Some most; front = d; tree = refl; bound = (h, n, is_hash, is_number, refl); whole = eq ∙ append_assoc w (h ∷ n ∷ []) rest }

pub loop_first : {source : List ℕ} {w : List Token} {p : Expr Word × Option ℕ} → SpellsLoop source w p → (rest : List Token) → first (w ++ rest) ≡ Some OpenParenthesis
loop_first (free d) rest = between_first d rest
loop_first (counted {w = w} h n d is_hash is_number) rest = ap first (append_assoc w (h ∷ n ∷ []) rest) ∙ between_first d (h ∷ n ∷ rest)

same_bound : (a b : Option ℕ) (r r' : List Token) (e e' : Expr Word) → e ≡ e' → (NoHash (e, a) r) → (NoHash (e', b) r') → (back : List Token) → BoundAfter a back r → BoundAfter b back r' → (r ≡ r') × ◌≡◌ {A = Expr Word × Option ℕ} (e, a) (e', b)
same_bound None None r r' e e' same ends ends' back h h' = (sym h ∙ h', ap (λ x. (x, Option.None)) same)
same_bound None (Some most) r r' e e' same ends ends' back h h' = absurd (ends refl (ap first (sym h ∙ h'.4) ∙ ap Some h'.2))
same_bound (Some most) None r r' e e' same ends ends' back h h' = absurd (ends' refl (ap first (sym h' ∙ h.4) ∙ ap Some h.2))
same_bound (Some most) (Some other) r r' e e' same ends ends' back h h' =
    let both : h.0 ∷ h.1 ∷ r ≡ h'.0 ∷ h'.1 ∷ r' = sym h.4 ∙ h'.4 in
    let number : h.1 ≡ h'.1 = cc in
    let sorts : NumberSort most ≡ NumberSort other = sym h.3 ∙ ap (λ (x : Token). x.sort) number ∙ h'.3 in
    let value : most ≡ other = cc in
    (cc, ap (λ x. (x, Some most)) same ∙ ap (λ x. (e', Some x)) value)

pub unique_loop : {source : List ℕ} {w : List Token} {p : Expr Word × Option ℕ} → SpellsLoop source w p → (w' : List Token) (p' : Expr Word × Option ℕ) (r r' : List Token) → NoHash p r → SpellsLoop source w' p' → NoHash p' r' → w ++ r ≡ w' ++ r' → (r ≡ r') × (p ≡ p')
unique_loop {w = w} {p = p} d w' p' r r' ends d' ends' eq =
    let k = loop_parts d (w ++ r) r refl in
    let v = loop_parts d' (w ++ r) r' eq in
    let u = unique_between k.front v.w v.e k.back v.back v.front (sym k.whole ∙ v.whole) in
    let s = same_bound k.most v.most r r' k.e v.e u.1 (subst (λ x. NoHash x r) k.tree ends) (subst (λ x. NoHash x r') v.tree ends') v.back (subst (λ x. BoundAfter k.most x r) u.0 k.bound) v.bound in
    (s.0, k.tree ∙ s.1 ∙ sym v.tree)

pub takes_free : (source : List ℕ) (tokens : List Token) (e : Expr Word) (rest : List Token) → BetweenTakes source 64 Parentheses tokens e rest → (first rest ≡ Some Hash → ⊥) → LoopTakes source tokens (e, None) rest
takes_free source tokens e rest h other = record { used = h.used; whole = h.whole; spelled = free h.spelled; stops = λ _. other }

pub takes_counted : (source : List ℕ) (tokens : List Token) (e : Expr Word) (rest i : List Token) (most : ℕ) (last : List Token) → BetweenTakes source 64 Parentheses tokens e rest → Comes Hash rest i → NumberComes i most last → LoopTakes source tokens (e, Some most) last
takes_counted source tokens e rest i most last h c n = record {
  used = h.used ++ c.token ∷ n.token ∷ [];
  whole = h.whole ∙ ap (λ x. h.used ++ x) (c.whole ∙ ap (λ x. c.token ∷ x) n.whole) ∙ sym (append_assoc h.used (c.token ∷ n.token ∷ []) last);
  spelled = counted c.token n.token h.spelled c.is n.is;
  stops = λ none. cc;
}

pub loop_refuses : (source : List ℕ) (tokens : List Token) (f : Failure) → Refuses (BetweenFails source 64 Parentheses) tokens f → Refuses (LoopFails source) tokens f
loop_refuses source tokens (Broken n) f =
    fails_behind (SpellsBetween source 64 Parentheses) Always (SpellsLoop source) NoHash [] tokens tokens n refl f
    (λ v e d. ([], (e, None), free (subst (λ x. SpellsBetween source 64 Parentheses x e) (sym (append-nil v)) d)))
    (λ others c r _ same k. let v = loop_parts k.spelled others r k.whole in (v.e, v.back, record { used = v.w; whole = v.whole; spelled = v.front; stops = tt }))
loop_refuses source tokens Memory f = tt

pub fails_bound : (source : List ℕ) (tokens : List Token) (e : Expr Word) (rest i : List Token) → BetweenTakes source 64 Parentheses tokens e rest → Comes Hash rest i → NoNumber i → LoopFails source tokens (length i)
fails_bound source tokens e rest i h c never =
    fails_here (SpellsLoop source) NoHash (h.used ++ c.token ∷ []) i tokens (h.whole ∙ ap (λ x. h.used ++ x) c.whole ∙ sym (append_assoc h.used (c.token ∷ []) i))
    (some_token (NumberSort 0) ∷ [], (e, Some 0), subst (λ x. SpellsLoop source x (e, Some 0)) (sym (append_assoc h.used (c.token ∷ []) (some_token (NumberSort 0) ∷ []))) (counted c.token (some_token (NumberSort 0)) h.spelled c.is refl))
    (λ others p r same k.
    let v = loop_parts k.spelled (h.used ++ c.token ∷ others) r (sym (append_assoc h.used (c.token ∷ []) others) ∙ k.whole) in
    let u = unique_between h.spelled v.w v.e (c.token ∷ others) v.back v.front v.whole in
    no_bound v.e v.most others r v.back u.0 same (subst (λ x. NoHash x r) v.tree k.stops) v.bound)
  where
    no_bound : (e' : Expr Word) (most : Option ℕ) (others r back : List Token) → c.token ∷ others ≡ back → first others ≡ first i → NoHash (e', most) r → BoundAfter most back r → ⊥
    no_bound e' None others r back eq same ends b = ends refl (ap first (sym b ∙ sym eq) ∙ ap Some c.is)
    no_bound e' (Some most) others r back eq same ends b =
        let both : c.token ∷ others ≡ b.0 ∷ b.1 ∷ r = eq ∙ b.4 in
        let tail : others ≡ b.1 ∷ r = cc in
        never.none most (sym same ∙ ap first tail ∙ ap Some b.3)

pub ruleset loop_steps = (takes_free, takes_counted, loop_refuses, fails_bound)

-- ---- the condition of an abort

pub record TestAfter (source : List ℕ) (t : Token) (i : List Token) (e : Expr Word) (rest : List Token) : Type 0 where
  pub b : Token
  pub z : Token
  pub is_when : t.sort ≡ WhenWord
  pub is_pre : b.sort ≡ PreWord
  pub closes : z.sort ≡ Semicolon
  pub w : List Token
  pub inner : SpellsBetween source 64 Parentheses w e
  pub whole : i ≡ b ∷ (w ++ z ∷ rest)

pub test_after : {source : List ℕ} {w : List Token} {e : Expr Word} → SpellsTest source w e → (t : Token) (i rest : List Token) → w ++ rest ≡ t ∷ i → TestAfter source t i e rest
test_after (test {w = w} a b z is_when is_pre closes d) t i rest eq =
    let at : a ≡ t = cc in
    let tail : b ∷ ((w ++ z ∷ []) ++ rest) ≡ i = cc in
    record { b = b; z = z; is_when = ap (λ (x : Token). x.sort) (sym at) ∙ is_when; is_pre = is_pre; closes = closes; w = w; inner = d; whole = sym tail ∙ ap (λ x. b ∷ x) (append_assoc w (z ∷ []) rest) }

pub test_first : {source : List ℕ} {w : List Token} {e : Expr Word} → SpellsTest source w e → (rest : List Token) → first (w ++ rest) ≡ Some WhenWord
test_first (test a b z is_when is_pre closes d) rest = ap Some is_when

pub unique_test : {source : List ℕ} {w : List Token} {e : Expr Word} → SpellsTest source w e → (w' : List Token) (e' : Expr Word) (r r' : List Token) → SpellsTest source w' e' → w ++ r ≡ w' ++ r' → (r ≡ r') × (e ≡ e')
unique_test (test {w = w} a b z is_when is_pre closes d) w' e' r r' d' eq =
    let v = test_after d' a (b ∷ ((w ++ z ∷ []) ++ r)) r' (sym eq) in
    let both : b ∷ ((w ++ z ∷ []) ++ r) ≡ v.b ∷ (v.w ++ v.z ∷ r') = v.whole in
    let tail : (w ++ z ∷ []) ++ r ≡ v.w ++ v.z ∷ r' = cc in
    let u = unique_between d v.w e' (z ∷ r) (v.z ∷ r') v.inner (sym (append_assoc w (z ∷ []) r) ∙ tail) in
    let ends : z ∷ r ≡ v.z ∷ r' = u.0 in
    (cc, u.1)

pub some_test : (source : List ℕ) → (w : List Token) × SpellsTest source w (Number 0)
some_test source = (some_token WhenWord ∷ some_token PreWord ∷ (some_token OpenParenthesis ∷ some_token (NumberSort 0) ∷ some_token CloseParenthesis ∷ []) ++ some_token Semicolon ∷ [], test (some_token WhenWord) (some_token PreWord) (some_token Semicolon) refl refl refl (some_between source Parentheses))

pub takes_test : (source : List ℕ) (tokens i j : List Token) (e : Expr Word) (r last : List Token) → Comes WhenWord tokens i → Comes PreWord i j → BetweenTakes source 64 Parentheses j e r → Comes Semicolon r last → TestTakes source tokens e last
takes_test source tokens i j e r last a b h z = record {
  used = a.token ∷ b.token ∷ (h.used ++ z.token ∷ []);
  whole = a.whole ∙ ap (λ x. a.token ∷ x) (b.whole ∙ ap (λ x. b.token ∷ x) (h.whole ∙ ap (λ x. h.used ++ x) z.whole ∙ sym (append_assoc h.used (z.token ∷ []) last)));
  spelled = test a.token b.token z.token a.is b.is z.is h.spelled;
  stops = tt;
}

pub fails_when : (source : List ℕ) (tokens : List Token) → (first tokens ≡ Some WhenWord → ⊥) → TestFails source tokens (length tokens)
fails_when source tokens other =
    fails_here (SpellsTest source) Always [] tokens tokens refl ((some_test source).0, Number 0, (some_test source).1)
    (λ others c r same k. other (sym same ∙ ap first k.whole ∙ test_first k.spelled r))

pub fails_pre : (source : List ℕ) (tokens i : List Token) → Comes WhenWord tokens i → (first i ≡ Some PreWord → ⊥) → TestFails source tokens (length i)
fails_pre source tokens i a other =
    fails_here (SpellsTest source) Always (a.token ∷ []) i tokens a.whole
    (some_token PreWord ∷ ((some_token OpenParenthesis ∷ some_token (NumberSort 0) ∷ some_token CloseParenthesis ∷ []) ++ some_token Semicolon ∷ []), Number 0, test a.token (some_token PreWord) (some_token Semicolon) a.is refl refl (some_between source Parentheses))
    (λ others c r same k. let v = test_after k.spelled a.token others r (sym k.whole) in other (sym same ∙ ap first v.whole ∙ ap Some v.is_pre))

-- what stands between the words and the sign
test_inner : (source : List ℕ) (a b : Token) (i : List Token) (c : Expr Word) (r : List Token) → TestTakes source (a ∷ b ∷ i) c r → (z : Token) × (z.sort ≡ Semicolon) × BetweenTakes source 64 Parentheses i c (z ∷ r)
test_inner source a b i c r k =
    let v = test_after k.spelled a (b ∷ i) r (sym k.whole) in
    let both : b ∷ i ≡ v.b ∷ (v.w ++ v.z ∷ r) = v.whole in
    (v.z, v.closes, record { used = v.w; whole = cc; spelled = v.inner; stops = tt })

pub test_refuses : (source : List ℕ) (tokens i j : List Token) (f : Failure) → Comes WhenWord tokens i → Comes PreWord i j → Refuses (BetweenFails source 64 Parentheses) j f → Refuses (TestFails source) tokens f
test_refuses source tokens i j (Broken n) a b f =
    fails_behind (SpellsBetween source 64 Parentheses) Always (SpellsTest source) Always (a.token ∷ b.token ∷ []) j tokens n (a.whole ∙ ap (λ x. a.token ∷ x) b.whole) f
    (λ v e d. (some_token Semicolon ∷ [], e, test a.token b.token (some_token Semicolon) a.is b.is refl d))
    (λ others c r _ same k. let v = test_inner source a.token b.token others c r k in (c, v.0 ∷ r, v.2))
test_refuses source tokens i j Memory a b f = tt

pub fails_test_last : (source : List ℕ) (tokens i j : List Token) (e : Expr Word) (r : List Token) → Comes WhenWord tokens i → Comes PreWord i j → BetweenTakes source 64 Parentheses j e r → (first r ≡ Some Semicolon → ⊥) → TestFails source tokens (length r)
fails_test_last source tokens i j e r a b h other =
    fails_here (SpellsTest source) Always (a.token ∷ b.token ∷ h.used) r tokens (a.whole ∙ ap (λ x. a.token ∷ x) (b.whole ∙ ap (λ x. b.token ∷ x) h.whole))
    (some_token Semicolon ∷ [], e, test a.token b.token (some_token Semicolon) a.is b.is refl h.spelled)
    (λ others c end same k.
    let v = test_inner source a.token b.token (h.used ++ others) c end k in
    let u = unique_between h.spelled v.2.used c others (v.0 ∷ end) v.2.spelled v.2.whole in
    other (sym same ∙ ap first u.0 ∙ ap Some v.1))

pub ruleset test_steps = (takes_test, fails_when, fails_pre, test_refuses, fails_test_last)
