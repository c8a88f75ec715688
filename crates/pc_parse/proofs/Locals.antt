-- One lemma for each way on which the parsers of locals answer.
use Rattle.std.proofs.Common.{◌≡◌, ℕ, ◌+◌, ◌<◌, List, [], ◌∷◌, ◌++◌, Option, Some, None, length, refl, sym, ap, subst, ◌∙◌, append_assoc, append-nil, length-append, arith}
use Rattle.pc_grammar.specs.declared.tokens.Sort.TheVariants.{IntWord, Equals, Semicolon}
use Rattle.pc_grammar.specs.declared.tokens.Token.{Token}
use Rattle.pc_grammar.specs.declared.expressions.Word.{Word}
use Rattle.pc_grammar.specs.declared.expressions.Expr.{Expr}
use Rattle.pc_parse.specs.declared.reading.Failure.{Failure}
use Rattle.pc_parse.specs.declared.reading.Failure.TheVariants.{Broken, Memory}
use Rattle.pc_grammar.specs.declared.marks.Pair.TheVariants.{Assignment}
use Rattle.pc_grammar.specs.Refusing.{first}
use Rattle.pc_parse.specs.Reading.{Comes, Refuses, Always}
use Rattle.pc_grammar.specs.Expressions.{SpellsBetween}
use Rattle.pc_parse.specs.Expressions.{BetweenTakes, BetweenFails}
use Rattle.pc_parse.proofs.Behind.{fails_behind}
use Rattle.pc_parse.proofs.Operands.{some_token}
use Rattle.pc_parse.proofs.Unique.{between_first, unique_between}
use Rattle.pc_parse.specs.Lists.{AfterName}
use Rattle.pc_grammar.specs.Frames.{SpellsParameter, SpellsLocal, bare, valued, SpellsLocals, none, more}
use Rattle.pc_parse.specs.Frames.{ParameterTakes, ParameterFails, LocalTakes, LocalFails, NoInt, LocalsTakes, LocalsFails}
use Rattle.pc_parse.proofs.Parameters.{parameter_first, unique_parameter}

-- ---- a local

-- what stands behind the name
abbrev pub ValueAfter : List ℕ → Option (Expr Word) → List Token → List Token → Type 0
ValueAfter source None back rest = (z : Token) × (z.sort ≡ Semicolon) × (back ≡ z ∷ rest)
ValueAfter source (Some e) back rest = BetweenTakes source 64 Assignment back e rest

pub record LocalParts (source : List ℕ) (i : List Token) (p : Word × Option (Expr Word)) (rest : List Token) : Type 0 where
  pub w : List Token
  pub back : List Token
  pub name : Word
  pub set : Option (Expr Word)
  pub front : SpellsParameter source w name
  pub value : ValueAfter source set back rest
  pub tree : p ≡ (name, set)
  pub whole : i ≡ w ++ back

pub local_parts : {source : List ℕ} {w : List Token} {p : Word × Option (Expr Word)} → SpellsLocal source w p → (i rest : List Token) → i ≡ w ++ rest → LocalParts source i p rest
local_parts (bare {w = w} {name = name} z closes d) i rest eq = record { w = w; back = z ∷ rest; name = name; set = None; front = d; value = (z, closes, refl); tree = refl; whole = eq ∙ append_assoc w (z ∷ []) rest }
local_parts (valued {w = w} {v = v} {name = name} {e = e} d ds) i rest eq =
    record { w = w; back = v ++ rest; name = name; set = Some e; front = d; value = record { used = v; whole = refl; spelled = ds; stops = tt }; tree = refl; whole = eq ∙ append_assoc w v rest }

pub local_first : {source : List ℕ} {w : List Token} {p : Word × Option (Expr Word)} → SpellsLocal source w p → (rest : List Token) → first (w ++ rest) ≡ Some IntWord
local_first (bare {w = w} z closes d) rest = ap first (append_assoc w (z ∷ []) rest) ∙ parameter_first d (z ∷ rest)
local_first (valued {w = w} {v = v} d ds) rest = ap first (append_assoc w v rest) ∙ parameter_first d (v ++ rest)

value_begins : (source : List ℕ) (back : List Token) (e : Expr Word) (rest : List Token) → BetweenTakes source 64 Assignment back e rest → first back ≡ Some Equals
value_begins source back e rest h = ap first h.whole ∙ between_first h.spelled rest

same_value : (source : List ℕ) (name name' : Word) (a b : Option (Expr Word)) (r r' back : List Token) → name ≡ name' → ValueAfter source a back r → ValueAfter source b back r' → (r ≡ r') × ◌≡◌ {A = Word × Option (Expr Word)} (name, a) (name', b)
same_value source name name' None None r r' back same h h' =
    let both : h.0 ∷ r ≡ h'.0 ∷ r' = sym h.2 ∙ h'.2 in
    (cc, ap (λ x. (x, Option.None)) same)
same_value source name name' None (Some e) r r' back same h h' = let clash : Some Semicolon ≡ Some Equals = ap Some (sym h.1) ∙ ap first (sym h.2) ∙ value_begins source back e r' h' in cc
same_value source name name' (Some e) None r r' back same h h' = let clash : Some Semicolon ≡ Some Equals = ap Some (sym h'.1) ∙ ap first (sym h'.2) ∙ value_begins source back e r h in cc
same_value source name name' (Some e) (Some e') r r' back same h h' =
    let u = unique_between h.spelled h'.used e' r r' h'.spelled (sym h.whole ∙ h'.whole) in
    (u.0, ap (λ x. (x, Some e)) same ∙ ap (λ x. (name', Some x)) u.1)

pub unique_local : {source : List ℕ} {w : List Token} {p : Word × Option (Expr Word)} → SpellsLocal source w p → (w' : List Token) (p' : Word × Option (Expr Word)) (r r' : List Token) → SpellsLocal source w' p' → w ++ r ≡ w' ++ r' → (r ≡ r') × (p ≡ p')
unique_local {source = source} {w = w} d w' p' r r' d' eq =
    let k = local_parts d (w ++ r) r refl in
    let v = local_parts d' (w ++ r) r' eq in
    let u = unique_parameter k.front v.w v.name k.back v.back v.front (sym k.whole ∙ v.whole) in
    let s = same_value source k.name v.name k.set v.set r r' v.back u.1 (subst (λ x. ValueAfter source k.set x r) u.0 k.value) v.value in
    (s.0, k.tree ∙ s.1 ∙ sym v.tree)

pub takes_bare : (source : List ℕ) (tokens i : List Token) (name : Word) (last : List Token) → ParameterTakes source tokens name i → Comes Semicolon i last → LocalTakes source tokens (name, None) last
takes_bare source tokens i name last h z = record {
  used = h.used ++ z.token ∷ [];
  whole = h.whole ∙ ap (λ x. h.used ++ x) z.whole ∙ sym (append_assoc h.used (z.token ∷ []) last);
  spelled = bare z.token z.is h.spelled;
  stops = tt;
}

pub takes_valued : (source : List ℕ) (tokens i : List Token) (name : Word) (e : Expr Word) (last : List Token) → ParameterTakes source tokens name i → BetweenTakes source 64 Assignment i e last → LocalTakes source tokens (name, Some e) last
takes_valued source tokens i name e last h k = record {
  used = h.used ++ k.used;
  whole = h.whole ∙ ap (λ x. h.used ++ x) k.whole ∙ sym (append_assoc h.used k.used last);
  spelled = valued h.spelled k.spelled;
  stops = tt;
}

pub local_refuses : (source : List ℕ) (tokens : List Token) (f : Failure) → Refuses (ParameterFails source) tokens f → Refuses (LocalFails source) tokens f
local_refuses source tokens (Broken n) f =
    fails_behind (SpellsParameter source) (λ _. AfterName) (SpellsLocal source) Always [] tokens tokens n refl f
    (λ v name d. (some_token Semicolon ∷ [], (name, None), bare (some_token Semicolon) refl d))
    (λ others c r _ same k. let v = local_parts k.spelled others r k.whole in (v.name, v.back, record { used = v.w; whole = v.whole; spelled = v.front; stops = tt }))
local_refuses source tokens Memory f = tt

-- a value, where no semicolon comes next
valued_only : (source : List ℕ) (set : Option (Expr Word)) (back r : List Token) → (first back ≡ Some Semicolon → ⊥) → ValueAfter source set back r → (e : Expr Word) × BetweenTakes source 64 Assignment back e r
valued_only source None back r other h = absurd (other (ap first h.2 ∙ ap Some h.1))
valued_only source (Some e) back r other h = (e, h)

pub value_refuses : (source : List ℕ) (tokens i : List Token) (name : Word) (f : Failure) → ParameterTakes source tokens name i → (first i ≡ Some Semicolon → ⊥) → Refuses (BetweenFails source 64 Assignment) i f → Refuses (LocalFails source) tokens f
value_refuses source tokens i name (Broken n) h other f =
    fails_behind (SpellsBetween source 64 Assignment) Always (SpellsLocal source) Always h.used i tokens n h.whole f
    (λ v e d. ([], (name, Some e), subst (λ x. SpellsLocal source x (name, Some e)) (sym (append-nil (h.used ++ v))) (valued h.spelled d)))
    (λ others c r _ same k.
    let v = local_parts k.spelled (h.used ++ others) r k.whole in
    let u = unique_parameter h.spelled v.w v.name others v.back v.front v.whole in
    let b = valued_only source v.set v.back r (λ p. other (sym same ∙ ap first u.0 ∙ p)) v.value in
    (b.0, r, subst (λ x. BetweenTakes source 64 Assignment x b.0 r) (sym u.0) b.1))
value_refuses source tokens i name Memory h other f = tt

pub ruleset local_steps = (takes_bare, takes_valued, local_refuses, value_refuses)

-- ---- locals

-- what has been read of locals: whatever comes of the rest comes of the whole
pub record LocalsSoFar (source : List ℕ) (ts : List Token) (items : List (Word × Option (Expr Word))) (left : List Token) : Type 0 where
  pub takes : (all : List (Word × Option (Expr Word))) (r : List Token) → LocalsTakes source left all r → LocalsTakes source ts (items ++ all) r
  pub fails : (n : ℕ) → LocalsFails source left n → LocalsFails source ts n

pub locals_begin : (source : List ℕ) (ts : List Token) → LocalsSoFar source ts [] ts
locals_begin source ts = record { takes = λ all r t. t; fails = λ n f. f }

pub record LocalsAfter (source : List ℕ) (i : List Token) (all : List (Word × Option (Expr Word))) (rest : List Token) : Type 0 where
  pub w : List Token
  pub v : List Token
  pub one : Word × Option (Expr Word)
  pub others : List (Word × Option (Expr Word))
  pub front : SpellsLocal source w one
  pub back : SpellsLocals source v others
  pub tree : all ≡ one ∷ others
  pub whole : i ≡ w ++ (v ++ rest)

pub locals_after : {source : List ℕ} {w : List Token} {all : List (Word × Option (Expr Word))} → SpellsLocals source w all → (i rest : List Token) → first i ≡ Some IntWord → NoInt all rest → w ++ rest ≡ i → LocalsAfter source i all rest
locals_after none i rest at ends eq = absurd (ends (ap first eq ∙ at))
locals_after (more {w = w} {v = v} {one = one} {rest = others} d ds) i rest at ends eq = record { w = w; v = v; one = one; others = others; front = d; back = ds; tree = refl; whole = sym eq ∙ append_assoc w v rest }

no_more : {source : List ℕ} {w : List Token} {all : List (Word × Option (Expr Word))} → SpellsLocals source w all → (r r' : List Token) → NoInt all r → r ≡ w ++ r' → (r ≡ r') × ([] ≡ all)
no_more none r r' ends eq = (eq, refl)
no_more (more {w = w} {v = v} d ds) r r' ends eq = absurd (ends (ap first (eq ∙ append_assoc w v r') ∙ local_first d (v ++ r')))

pub unique_locals : {source : List ℕ} {w : List Token} {all : List (Word × Option (Expr Word))} → SpellsLocals source w all → (w' : List Token) (all' : List (Word × Option (Expr Word))) (r r' : List Token) → NoInt all r → SpellsLocals source w' all' → NoInt all' r' → w ++ r ≡ w' ++ r' → (r ≡ r') × (all ≡ all')
unique_locals none w' all' r r' ends d' ends' eq = no_more d' r r' ends eq
unique_locals (more {w = w} {v = v} {one = one} {rest = others} d ds) w' all' r r' ends d' ends' eq =
    let k = locals_after d' ((w ++ v) ++ r) r' (ap first (append_assoc w v r) ∙ local_first d (v ++ r)) ends' (sym eq) in
    let u = unique_local d k.w k.one (v ++ r) (k.v ++ r') k.front (sym (append_assoc w v r) ∙ k.whole) in
    let s = unique_locals ds k.v k.others r r' ends k.back ends' u.0 in
    (s.0, ap (λ x. x ∷ others) u.1 ∙ ap (λ x. k.one ∷ x) s.1 ∙ sym k.tree)

pub locals_go_on : (source : List ℕ) (ts : List Token) (items : List (Word × Option (Expr Word))) (left : List Token) (one : Word × Option (Expr Word)) (after : List Token) (longer : List (Word × Option (Expr Word))) →
    LocalsSoFar source ts items left → LocalTakes source left one after → longer ≡ items ++ one ∷ [] → LocalsSoFar source ts longer after
locals_go_on source ts items left one after longer so h grows = record {
  takes = λ all r t. subst (λ x. LocalsTakes source ts x r) (sym (ap (λ x. x ++ all) grows ∙ append_assoc items (one ∷ []) all))
      (so.takes (one ∷ all) r (record {
        used = h.used ++ t.used;
        whole = h.whole ∙ ap (λ x. h.used ++ x) t.whole ∙ sym (append_assoc h.used t.used r);
        spelled = more h.spelled t.spelled;
        stops = t.stops;
      }));
  fails = λ n f. so.fails n (fails_behind (SpellsLocals source) NoInt (SpellsLocals source) NoInt h.used after left n h.whole f
      (λ v all d. ([], one ∷ all, subst (λ x. SpellsLocals source x (one ∷ all)) (sym (append-nil (h.used ++ v))) (more h.spelled d)))
      (λ others c r _ same t.
      let k = locals_after t.spelled (h.used ++ others) r (local_first h.spelled others) t.stops (sym t.whole) in
      let u = unique_local h.spelled k.w k.one others (k.v ++ r) k.front k.whole in
      (k.others, r, record { used = k.v; whole = u.0; spelled = k.back; stops = t.stops })));
}

pub locals_refuse : (source : List ℕ) (ts : List Token) (items : List (Word × Option (Expr Word))) (left : List Token) (f : Failure) → LocalsSoFar source ts items left → first left ≡ Some IntWord → Refuses (LocalFails source) left f → Refuses (LocalsFails source) ts f
locals_refuse source ts items left (Broken n) so at f = so.fails n (fails_behind (SpellsLocal source) Always (SpellsLocals source) NoInt [] left left n refl f
    (λ v one d. ([], one ∷ [], more d none))
    (λ others c r _ same t.
    let k = locals_after t.spelled others r (same ∙ at) t.stops (sym t.whole) in
    (k.one, k.v ++ r, record { used = k.w; whole = k.whole; spelled = k.front; stops = tt })))
locals_refuse source ts items left Memory so at f = tt

pub locals_end : (source : List ℕ) (ts : List Token) (items : List (Word × Option (Expr Word))) (left : List Token) → LocalsSoFar source ts items left → (first left ≡ Some IntWord → ⊥) → LocalsTakes source ts items left
locals_end source ts items left so other = subst (λ x. LocalsTakes source ts x left) (append-nil items) (so.takes [] left (record { used = []; whole = refl; spelled = none; stops = other }))

pub local_shorter : (source : List ℕ) (ts : List Token) (one : Word × Option (Expr Word)) (rest : List Token) → LocalTakes source ts one rest → length rest < length ts
local_shorter source ts one rest h = shorter h.used (local_first h.spelled []) (omega (arith, length-append h.used rest, ap length h.whole))
  where
    shorter : (used : List Token) → first (used ++ []) ≡ Some IntWord → length ts ≡ length used + length rest → length rest < length ts
    shorter [] at eq = cc
    shorter (t ∷ used) at eq = omega arith

pub ruleset locals_steps = (locals_begin, locals_go_on, locals_refuse, locals_end, local_shorter)
