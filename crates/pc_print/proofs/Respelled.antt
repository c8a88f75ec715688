-- Tokens that are alike but for their places spell trees that are alike but for their places.
use Rattle.std.proofs.Common.{◌≡◌, ℕ, suc, List, [], ◌∷◌, ◌++◌, map, slice_range, refl, sym, ap, subst, ◌∙◌}
use Rattle.pt_base.specs.declared.operators.BinOp.{BinOp}
use Rattle.pc_grammar.specs.declared.tokens.Sort.{Sort}
use Rattle.pc_grammar.specs.declared.tokens.Sort.TheVariants.{Name, Number as NumberSort}
use Rattle.pc_grammar.specs.declared.tokens.Token.{Token}
use Rattle.pc_grammar.specs.declared.expressions.Word.{Word}
use Rattle.pc_grammar.specs.declared.expressions.Expr.{Expr}
use Rattle.pc_grammar.specs.declared.expressions.Expr.TheVariants.{Number, Var, Elem, Unary, Chain}
use Rattle.pc_grammar.specs.declared.marks.Pair.{Pair}
use Rattle.pc_grammar.specs.Signs.{unary_in, binary_in, opens_of, closes_of}
use Rattle.pc_grammar.specs.Expressions.{word_at, grown, SpellsOperand, number, name, element, unary, inside, SpellsBetween, between, SpellsLevel, operand, chain, SpellsRest, none, more, IsExpression}
use Rattle.pc_print.specs.Tokens.{bytes_of_name, plain, bare}
use Rattle.pc_print.proofs.Bare.{bares, bare-Var, bare-Elem, bare-Unary, bare-Chain}

-- ---- lists that look like others

pub map-append : {A B : Type 0} (f : A → B) (a b : List A) → map f (a ++ b) ≡ map f a ++ map f b
map-append f [] b = refl
map-append f (x ∷ a) b = ap (λ y. f x ∷ y) (map-append f a b)

pub record Front {A B : Type 0} (f : A → B) (l : List A) (x : B) (xs : List B) : Type 0 where
  pub first : A
  pub rest : List A
  pub whole : l ≡ first ∷ rest
  pub is : f first ≡ x
  pub left : map f rest ≡ xs

pub front_of_map : {A B : Type 0} (f : A → B) (l : List A) (x : B) (xs : List B) → map f l ≡ x ∷ xs → Front f l x xs
front_of_map f [] x xs eq = absurd cc
front_of_map f (y ∷ l) x xs eq = record { first = y; rest = l; whole = refl; is = cc; left = cc }

pub record Cut {A B : Type 0} (f : A → B) (l : List A) (x y : List B) : Type 0 where
  pub front : List A
  pub back : List A
  pub whole : l ≡ front ++ back
  pub is : map f front ≡ x
  pub left : map f back ≡ y

pub cut_of_map : {A B : Type 0} (f : A → B) (l : List A) (x y : List B) → map f l ≡ x ++ y → Cut f l x y
cut_of_map f l [] y eq = record { front = []; back = l; whole = refl; is = refl; left = eq }
cut_of_map f l (b ∷ x) y eq =
    let k = front_of_map f l b (x ++ y) eq in
    let c = cut_of_map f k.rest x y k.left in
    record {
      front = k.first ∷ c.front;
      back = c.back;
      whole = k.whole ∙ ap (λ r. k.first ∷ r) c.whole;
      is = ap (λ h. h ∷ map f c.front) k.is ∙ ap (λ r. b ∷ r) c.is;
      left = c.left;
    }

pub empty_of_map : {A B : Type 0} (f : A → B) (l : List A) → map f l ≡ [] → l ≡ []
empty_of_map f [] eq = refl
empty_of_map f (x ∷ l) eq = absurd cc

-- ---- tokens that look like others

same_sort : (source again : List ℕ) (t u : Token) → plain again u ≡ plain source t → u.sort ≡ t.sort
same_sort source again t u eq = ap (λ p. p.0) eq

sort_is : (source again : List ℕ) (t u : Token) (s : Sort) → plain again u ≡ plain source t → t.sort ≡ s → u.sort ≡ s
sort_is source again t u s eq is = same_sort source again t u eq ∙ is

-- a name has the same bytes
same_name : (source again : List ℕ) (t u : Token) → plain again u ≡ plain source t → t.sort ≡ Name → (word_at again u).text ≡ (word_at source t).text
same_name source again t u eq is =
    let other : u.sort ≡ Name = sort_is source again t u Name eq is in
    ap (λ s. bytes_of_name s (slice_range again u.span.from u.span.to)) (sym other)
    ∙ ap (λ p. p.1) eq
    ∙ ap (λ s. bytes_of_name s (slice_range source t.span.from t.span.to)) is

-- ---- the same tree but for places

pub record Alike (X : List Token → Expr Word → Type 0) (w : List Token) (e : Expr Word) : Type 0 where
  pub tree : Expr Word
  pub spelled : X w tree
  pub same : bare tree ≡ bare e

record AlikeRest (X : List Token → List (BinOp × Expr Word) → Type 0) (w : List Token) (es : List (BinOp × Expr Word)) : Type 0 where
  trees : List (BinOp × Expr Word)
  spelled : X w trees
  same : bares trees ≡ bares es

alike : (X : List Token → Expr Word → Type 0) (w v : List Token) (e : Expr Word) → w ≡ v → Alike X v e → Alike X w e
alike X w v e eq k = record { tree = k.tree; spelled = subst (λ x. X x k.tree) (sym eq) k.spelled; same = k.same }

grown_alike : (a b : Expr Word) (xs ys : List (BinOp × Expr Word)) → bare a ≡ bare b → bares xs ≡ bares ys → bare (grown a xs) ≡ bare (grown b ys)
grown_alike a b [] [] p q = p
grown_alike a b [] (y ∷ ys) p q = absurd cc
grown_alike a b (x ∷ xs) [] p q = absurd cc
grown_alike a b (x ∷ xs) (y ∷ ys) p q = bare-Chain a (x ∷ xs) ∙ ap (λ h. Chain h (bares (x ∷ xs))) p ∙ ap (λ r. Chain (bare b) r) q ∙ sym (bare-Chain b (y ∷ ys))

mutual
  respelled_operand : {source : List ℕ} {room : ℕ} {w : List Token} {e : Expr Word} → SpellsOperand source room w e → (again : List ℕ) (v : List Token) → map (plain again) v ≡ map (plain source) w → Alike (SpellsOperand again room) v e
  respelled_operand (number {source = source} {room = room} {n = n} t is) again v eq =
      let k = front_of_map (plain again) v (plain source t) [] eq in
      let none_left : k.rest ≡ [] = empty_of_map (plain again) k.rest k.left in
      alike (SpellsOperand again room) v (k.first ∷ []) (Number n) (k.whole ∙ ap (λ r. k.first ∷ r) none_left)
      (record { tree = Number n; spelled = number k.first (sort_is source again t k.first (NumberSort n) k.is is); same = refl })
  respelled_operand (name {source = source} {room = room} t is) again v eq =
      let k = front_of_map (plain again) v (plain source t) [] eq in
      let none_left : k.rest ≡ [] = empty_of_map (plain again) k.rest k.left in
      alike (SpellsOperand again room) v (k.first ∷ []) (Var (word_at source t)) (k.whole ∙ ap (λ r. k.first ∷ r) none_left)
      (record {
        tree = Var (word_at again k.first);
        spelled = name k.first (sort_is source again t k.first Name k.is is);
        same = bare-Var (word_at again k.first) ∙ ap (λ x. Var x) (same_name source again t k.first k.is is) ∙ sym (bare-Var (word_at source t));
      })
  respelled_operand (element {source = source} {room = room} {w = w} {index = index} t is d) again v eq =
      let k = front_of_map (plain again) v (plain source t) (map (plain source) w) eq in
      let i = respelled_between d again k.rest k.left in
      alike (SpellsOperand again (suc room)) v (k.first ∷ k.rest) (Elem (word_at source t) index) k.whole
      (record {
        tree = Elem (word_at again k.first) i.tree;
        spelled = element k.first (sort_is source again t k.first Name k.is is) i.spelled;
        same = bare-Elem (word_at again k.first) i.tree ∙ ap (λ x. Elem x (bare i.tree)) (same_name source again t k.first k.is is) ∙ ap (λ x. Elem (word_at source t).text x) i.same ∙ sym (bare-Elem (word_at source t) index);
      })
  respelled_operand (unary {source = source} {room = room} {w = w} {e = e} t op is d) again v eq =
      let k = front_of_map (plain again) v (plain source t) (map (plain source) w) eq in
      let i = respelled_operand d again k.rest k.left in
      alike (SpellsOperand again (suc room)) v (k.first ∷ k.rest) (Unary op e) k.whole
      (record {
        tree = Unary op i.tree;
        spelled = unary k.first op (ap unary_in (same_sort source again t k.first k.is) ∙ is) i.spelled;
        same = bare-Unary op i.tree ∙ ap (λ x. Unary op x) i.same ∙ sym (bare-Unary op e);
      })
  respelled_operand (inside d) again v eq =
      let i = respelled_between d again v eq in
      record { tree = i.tree; spelled = inside i.spelled; same = i.same }

  respelled_between : {source : List ℕ} {room : ℕ} {pair : Pair} {w : List Token} {e : Expr Word} → SpellsBetween source room pair w e → (again : List ℕ) (v : List Token) → map (plain again) v ≡ map (plain source) w → Alike (SpellsBetween again room pair) v e
  respelled_between (between {source = source} {room = room} {pair = pair} {w = w} {e = e} a b opens closes d) again v eq =
      let k = front_of_map (plain again) v (plain source a) (map (plain source) (w ++ b ∷ [])) eq in
      let c = cut_of_map (plain again) k.rest (map (plain source) w) (map (plain source) (b ∷ [])) (k.left ∙ map-append (plain source) w (b ∷ [])) in
      let z = front_of_map (plain again) c.back (plain source b) [] c.left in
      let none_left : z.rest ≡ [] = empty_of_map (plain again) z.rest z.left in
      let i = respelled_level d again c.front c.is in
      alike (SpellsBetween again room pair) v (k.first ∷ (c.front ++ z.first ∷ [])) e
      (k.whole ∙ ap (λ r. k.first ∷ r) (c.whole ∙ ap (λ r. c.front ++ r) (z.whole ∙ ap (λ r. z.first ∷ r) none_left)))
      (record {
        tree = i.tree;
        spelled = between k.first z.first (sort_is source again a k.first (opens_of pair) k.is opens) (sort_is source again b z.first (closes_of pair) z.is closes) i.spelled;
        same = i.same;
      })

  respelled_level : {source : List ℕ} {room level : ℕ} {w : List Token} {e : Expr Word} → SpellsLevel source room level w e → (again : List ℕ) (v : List Token) → map (plain again) v ≡ map (plain source) w → Alike (SpellsLevel again room level) v e
  respelled_level (operand d) again v eq =
      let i = respelled_operand d again v eq in
      record { tree = i.tree; spelled = operand i.spelled; same = i.same }
  respelled_level (chain {source = source} {room = room} {level = level} {w = w} {v = u} {head = head} {rest = rest} d ds) again v eq =
      let c = cut_of_map (plain again) v (map (plain source) w) (map (plain source) u) (eq ∙ map-append (plain source) w u) in
      let i = respelled_level d again c.front c.is in
      let j = respelled_rest ds again c.back c.left in
      alike (SpellsLevel again room (suc level)) v (c.front ++ c.back) (grown head rest) c.whole
      (record { tree = grown i.tree j.trees; spelled = chain i.spelled j.spelled; same = grown_alike i.tree head j.trees rest i.same j.same })

  respelled_rest : {source : List ℕ} {room level : ℕ} {w : List Token} {es : List (BinOp × Expr Word)} → SpellsRest source room level w es → (again : List ℕ) (v : List Token) → map (plain again) v ≡ map (plain source) w → AlikeRest (SpellsRest again room level) v es
  respelled_rest (none {room = room} {level = level}) again v eq =
      record { trees = []; spelled = subst (λ x. SpellsRest again room level x []) (sym (empty_of_map (plain again) v eq)) none; same = refl }
  respelled_rest (more {source = source} {room = room} {level = level} {w = w} {v = u} {e = e} {rest = rest} t op is at d ds) again v eq =
      let k = front_of_map (plain again) v (plain source t) (map (plain source) (w ++ u)) eq in
      let c = cut_of_map (plain again) k.rest (map (plain source) w) (map (plain source) u) (k.left ∙ map-append (plain source) w u) in
      let i = respelled_level d again c.front c.is in
      let j = respelled_rest ds again c.back c.left in
      record {
        trees = (op, i.tree) ∷ j.trees;
        spelled = subst (λ x. SpellsRest again room level x ((op, i.tree) ∷ j.trees)) (sym (k.whole ∙ ap (λ r. k.first ∷ r) c.whole))
            (more k.first op (ap binary_in (same_sort source again t k.first k.is) ∙ is) at i.spelled j.spelled);
        same = ap (λ x. (op, x) ∷ bares j.trees) i.same ∙ ap (λ r. (op, bare e) ∷ r) j.same;
      }

pub respelled : (source : List ℕ) (ts : List Token) (e : Expr Word) → IsExpression source ts e → (again : List ℕ) (us : List Token) → map (plain again) us ≡ map (plain source) ts → Alike (IsExpression again) us e
respelled source ts e d again us eq = respelled_level d again us eq
