-- Lists with commas, of items that are read off the front in one way.
use Rattle.std.proofs.Common.{◌≡◌, ℕ, ◌<◌, ◌≤◌, List, [], ◌∷◌, ◌++◌, Some, length, refl, sym, ap, subst, ◌∙◌, append_assoc, append-nil, length-append, arith}
use Rattle.pc_grammar.specs.declared.tokens.Sort.{Sort}
use Rattle.pc_grammar.specs.declared.tokens.Sort.TheVariants.{Comma, CloseParenthesis}
use Rattle.pc_grammar.specs.declared.tokens.Token.{Token}
use Rattle.pc_parse.specs.declared.reading.Failure.{Failure}
use Rattle.pc_parse.specs.declared.reading.Failure.TheVariants.{Broken, Memory}
use Rattle.pc_grammar.specs.Refusing.{first}
use Rattle.pc_parse.specs.Reading.{Comes, Takes, Fails, Refuses}
use Rattle.pc_parse.proofs.Behind.{fails_behind}
use Rattle.pc_grammar.specs.Lists.{SpellsMore, none, more, SpellsList, list}
use Rattle.pc_parse.specs.Lists.{ListEnds, MoreTakes, MoreFails, ListTakes, ListFails}

-- items that are read off the front in one way, before whatever S allows
pub record IsItem {A : Type 0} (X : List Token → A → Type 0) (S : List Token → Type 0) : Type 0 where
  pub unique : (w : List Token) (a : A) (w' : List Token) (a' : A) (r r' : List Token) → X w a → S r → X w' a' → S r' → w ++ r ≡ w' ++ r' → (r ≡ r') × (a ≡ a')
  pub comma : (t : Token) (r : List Token) → t.sort ≡ Comma → S (t ∷ r)
  pub close : (t : Token) (r : List Token) → t.sort ≡ CloseParenthesis → S (t ∷ r)
  pub same : (r r' : List Token) → first r ≡ first r' → S r' → S r

pub comes_shorter : (s : Sort) (ts after : List Token) → Comes s ts after → length after < length ts
comes_shorter s ts after c = omega (arith, ap length c.whole)

pub takes_shorter : {A : Type 0} (X : List Token → A → Type 0) (T : A → List Token → Type 0) (ts : List Token) (a : A) (rest : List Token) → Takes X T ts a rest → length rest ≤ length ts
takes_shorter X T ts a rest h = omega (arith, length-append h.used rest, ap length h.whole)

module _ {A : Type 0} (X : List Token → A → Type 0) (S : List Token → Type 0) (law : IsItem X S) where
  pub record MoreAfter (t : Token) (i : List Token) (all : List A) (rest : List Token) : Type 0 where
    pub w : List Token
    pub v : List Token
    pub a : A
    pub others : List A
    pub item : X w a
    pub more : SpellsMore X v others
    pub tree : all ≡ a ∷ others
    pub whole : i ≡ w ++ (v ++ rest)

  pub more_after : {w : List Token} {all : List A} → SpellsMore X w all → (t : Token) (i rest : List Token) → t.sort ≡ Comma → ListEnds S rest → w ++ rest ≡ t ∷ i → MoreAfter t i all rest
  more_after none t i rest is ends eq = absurd (ends.comma (ap first eq ∙ ap Some is))
  more_after (more {w = w} {v = v} {a = a} {rest = others} t' is' d ds) t i rest is ends eq =
      let b : (w ++ v) ++ rest ≡ i = cc in
      record { w = w; v = v; a = a; others = others; item = d; more = ds; tree = refl; whole = sym b ∙ append_assoc w v rest }

  pub ends_more : {w : List Token} {all : List A} → SpellsMore X w all → (rest : List Token) → ListEnds S rest → S (w ++ rest)
  ends_more none rest ends = ends.item
  ends_more (more {w = w} {v = v} t is d ds) rest ends = law.comma t ((w ++ v) ++ rest) is

  no_more : {w : List Token} {all : List A} → SpellsMore X w all → (r r' : List Token) → ListEnds S r → r ≡ w ++ r' → (r ≡ r') × ([] ≡ all)
  no_more none r r' ends eq = (eq, refl)
  no_more (more t is d ds) r r' ends eq = absurd (ends.comma (ap first eq ∙ ap Some is))

  pub unique_more : {w : List Token} {all : List A} → SpellsMore X w all → (w' : List Token) (all' : List A) (r r' : List Token) → ListEnds S r → SpellsMore X w' all' → ListEnds S r' → w ++ r ≡ w' ++ r' → (r ≡ r') × (all ≡ all')
  unique_more none w' all' r r' ends d' ends' eq = no_more d' r r' ends eq
  unique_more (more {w = w} {v = v} {a = a} {rest = others} t is d ds) w' all' r r' ends d' ends' eq =
      let k = more_after d' t ((w ++ v) ++ r) r' is ends' (sym eq) in
      let u = law.unique w a k.w k.a (v ++ r) (k.v ++ r') d (ends_more ds r ends) k.item (ends_more k.more r' ends') (sym (append_assoc w v r) ∙ k.whole) in
      let s = unique_more ds k.v k.others r r' ends k.more ends' u.0 in
      (s.0, ap (λ x. x ∷ others) u.1 ∙ ap (λ x. k.a ∷ x) s.1 ∙ sym k.tree)

  pub record ListParts (w : List Token) (all : List A) : Type 0 where
    pub front : List Token
    pub back : List Token
    pub a : A
    pub others : List A
    pub item : X front a
    pub more : SpellsMore X back others
    pub whole : w ≡ front ++ back
    pub tree : all ≡ a ∷ others

  pub list_parts : {w : List Token} {all : List A} → SpellsList X w all → ListParts w all
  list_parts (list {w = w} {v = v} {a = a} {rest = others} d ds) = record { front = w; back = v; a = a; others = others; item = d; more = ds; whole = refl; tree = refl }

  -- a front of a list, as its first item and the rest
  split_list : (used i : List Token) (a : A) (c : List A) (r : List Token) → X used a → S i → ListTakes X S (used ++ i) c r → (others : List A) × MoreTakes X S i others r × (a ∷ others ≡ c)
  split_list used i a c r d ends t =
      let k = list_parts t.spelled in
      let whole : used ++ i ≡ k.front ++ (k.back ++ r) = t.whole ∙ ap (λ x. x ++ r) k.whole ∙ append_assoc k.front k.back r in
      let u = law.unique used a k.front k.a i (k.back ++ r) d ends k.item (ends_more k.more r t.stops) whole in
      (k.others, record { used = k.back; whole = u.0; spelled = k.more; stops = t.stops }, ap (λ x. x ∷ k.others) u.1 ∙ sym k.tree)

  pub unique_list : {w : List Token} {all : List A} → SpellsList X w all → (w' : List Token) (all' : List A) (r r' : List Token) → ListEnds S r → SpellsList X w' all' → ListEnds S r' → w ++ r ≡ w' ++ r' → (r ≡ r') × (all ≡ all')
  unique_list (list {w = w} {v = v} {a = a} {rest = others} d ds) w' all' r r' ends d' ends' eq =
      let k = split_list w (v ++ r) a all' r' d (ends_more ds r ends) (record { used = w'; whole = sym (append_assoc w v r) ∙ eq; spelled = d'; stops = ends' }) in
      let u = unique_more ds k.1.used k.0 r r' ends k.1.spelled ends' k.1.whole in
      (u.0, ap (λ x. a ∷ x) u.1 ∙ k.2)

  -- what has been read of a list: whatever comes of the rest comes of the whole
  pub record ListSoFar (tokens : List Token) (items : List A) (left : List Token) : Type 0 where
    pub ends : S left
    pub takes : (all : List A) (r : List Token) → MoreTakes X S left all r → ListTakes X S tokens (items ++ all) r
    pub fails : (n : ℕ) → MoreFails X S left n → ListFails X S tokens n

  pub list_begins : (tokens : List Token) (a : A) (left : List Token) (items : List A) → Takes X (λ _. S) tokens a left → items ≡ a ∷ [] → ListSoFar tokens items left
  list_begins tokens a left items h is = subst (λ x. ListSoFar tokens x left) (sym is) (record {
    ends = h.stops;
    takes = λ all r t. record {
      used = h.used ++ t.used;
      whole = h.whole ∙ ap (λ x. h.used ++ x) t.whole ∙ sym (append_assoc h.used t.used r);
      spelled = list h.spelled t.spelled;
      stops = t.stops;
    };
    fails = λ n f. fails_behind (SpellsMore X) (λ _. ListEnds S) (SpellsList X) (λ _. ListEnds S) h.used left tokens n h.whole f
        (λ v all d. ([], a ∷ all, subst (λ x. SpellsList X x (a ∷ all)) (sym (append-nil (h.used ++ v))) (list h.spelled d)))
        (λ others c r _ same t. let k = split_list h.used others a c r h.spelled (law.same others left same h.stops) t in (k.0, r, k.1));
  })

  -- a list fails where its first item does
  pub list_first_refuses : (tokens : List Token) (f : Failure) → Refuses (Fails X (λ _. S)) tokens f → Refuses (ListFails X S) tokens f
  list_first_refuses tokens (Broken n) f =
      fails_behind X (λ _. S) (SpellsList X) (λ _. ListEnds S) [] tokens tokens n refl f
      (λ v a d. ([], a ∷ [], list d none))
      (λ others c r _ same t.
      let k = list_parts t.spelled in
      (k.a, k.back ++ r, record { used = k.front; whole = t.whole ∙ ap (λ x. x ++ r) k.whole ∙ append_assoc k.front k.back r; spelled = k.item; stops = ends_more k.more r t.stops }))
  list_first_refuses tokens Memory f = tt

  -- a front of more, from its first comma on
  open_more : (t : Token) (i : List Token) (c : List A) (r : List Token) → t.sort ≡ Comma → MoreTakes X S (t ∷ i) c r → (a : A) × (left : List Token) × Takes X (λ _. S) i a left × (others : List A) × MoreTakes X S left others r
  open_more t i c r is k =
      let v = more_after k.spelled t i r is k.stops (sym k.whole) in
      (v.a, v.v ++ r, record { used = v.w; whole = v.whole; spelled = v.item; stops = ends_more v.more r k.stops }, v.others, record { used = v.v; whole = refl; spelled = v.more; stops = k.stops })

  more_takes : (t : Token) (i : List Token) (a : A) (left : List Token) (all : List A) (r : List Token) → t.sort ≡ Comma → Takes X (λ _. S) i a left → MoreTakes X S left all r → MoreTakes X S (t ∷ i) (a ∷ all) r
  more_takes t i a left all r is h k = record {
    used = t ∷ (h.used ++ k.used);
    whole = ap (λ x. t ∷ x) (h.whole ∙ ap (λ x. h.used ++ x) k.whole ∙ sym (append_assoc h.used k.used r));
    spelled = more t is h.spelled k.spelled;
    stops = k.stops;
  }

  more_fails : (t : Token) (i : List Token) (a : A) (left : List Token) (n : ℕ) → t.sort ≡ Comma → Takes X (λ _. S) i a left → MoreFails X S left n → MoreFails X S (t ∷ i) n
  more_fails t i a left n is h f =
      fails_behind (SpellsMore X) (λ _. ListEnds S) (SpellsMore X) (λ _. ListEnds S) (t ∷ h.used) left (t ∷ i) n (ap (λ x. t ∷ x) h.whole) f
      (λ v all d. ([], a ∷ all, subst (λ x. SpellsMore X (t ∷ x) (a ∷ all)) (sym (append-nil (h.used ++ v))) (more t is h.spelled d)))
      (λ others c r _ same k.
      let o = open_more t (h.used ++ others) c r is k in
      let u = law.unique h.used a o.2.used o.0 others o.1 h.spelled (law.same others left same h.stops) o.2.spelled o.2.stops o.2.whole in
      (o.3, r, subst (λ x. MoreTakes X S x o.3 r) (sym u.0) o.4))

  item_fails : (t : Token) (i : List Token) (n : ℕ) → t.sort ≡ Comma → Fails X (λ _. S) i n → MoreFails X S (t ∷ i) n
  item_fails t i n is f =
      fails_behind X (λ _. S) (SpellsMore X) (λ _. ListEnds S) (t ∷ []) i (t ∷ i) n refl f
      (λ v a d. ([], a ∷ [], more t is d none))
      (λ others c r _ same k. let o = open_more t others c r is k in (o.0, o.1, o.2))

  pub list_goes_on : (tokens : List Token) (items : List A) (left next : List Token) (a : A) (after : List Token) (longer : List A) →
      ListSoFar tokens items left → Comes Comma left next → Takes X (λ _. S) next a after → longer ≡ items ++ a ∷ [] → ListSoFar tokens longer after
  list_goes_on tokens items left next a after longer s c h grows = subst (λ x. ListSoFar tokens x after) (sym grows) (record {
    ends = h.stops;
    takes = λ all r k. subst (λ x. ListTakes X S tokens x r) (sym (append_assoc items (a ∷ []) all))
        (s.takes (a ∷ all) r (subst (λ x. MoreTakes X S x (a ∷ all) r) (sym c.whole) (more_takes c.token next a after all r c.is h k)));
    fails = λ n f. s.fails n (subst (λ x. MoreFails X S x n) (sym c.whole) (more_fails c.token next a after n c.is h f));
  })

  pub list_refuses : (tokens : List Token) (items : List A) (left next : List Token) (f : Failure) → ListSoFar tokens items left → Comes Comma left next → Refuses (Fails X (λ _. S)) next f → Refuses (ListFails X S) tokens f
  list_refuses tokens items left next (Broken n) s c f = s.fails n (subst (λ x. MoreFails X S x n) (sym c.whole) (item_fails c.token next n c.is f))
  list_refuses tokens items left next Memory s c f = tt

  pub list_ends : (tokens : List Token) (items : List A) (left : List Token) → ListSoFar tokens items left → (first left ≡ Some Comma → ⊥) → ListTakes X S tokens items left
  list_ends tokens items left s other =
      subst (λ x. ListTakes X S tokens x left) (append-nil items) (s.takes [] left (record { used = []; whole = refl; spelled = none; stops = record { item = s.ends; comma = other } }))
