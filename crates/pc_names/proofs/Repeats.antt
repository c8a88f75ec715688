-- Names that stand there a second time.
use Rattle.std.proofs.Common.{◌≡◌, Bool, true, false, ◌||◌, ◌&&◌, List, [], ◌∷◌, ◌++◌, ◌⊎◌, inl, inr, map, refl, sym, ap, ◌∙◌, append_assoc}
use Rattle.std.specs.Prelude.{Contains}
use Rattle.std.specs.List.{list_any}
use Rattle.std.proofs.lemmas.List.Folds.{list_any-append}
use Rattle.pt_base.specs.declared.Rule.{Rule}
use Rattle.pt_base.specs.declared.Span.{Span}
use Rattle.pc_grammar.specs.declared.expressions.Word.{Word}
use Rattle.pc_grammar.specs.Places.{Place, same_text, is_among, is_start}
use Rattle.pc_grammar.specs.Breaking.{starts_text}
use Rattle.pt_base.specs.First.{Fault, fault_if}
use Rattle.pt_base.proofs.Elements.{in_none, in_left, in_right, in_either}
use Rattle.pt_base.proofs.Least.{fault_in, in_fault}
use Rattle.pc_names.specs.Sites.{site_of}
use Rattle.pc_names.specs.Started.{one_if, started}
use Rattle.pc_names.specs.Faults.{repeats}

-- a broken rule and its place
abbrev pub fault : Rule → Span → Fault
fault rule span = (rule, span)

-- ---- words

or_false : (a : Bool) → (a || false) ≡ a
or_false true = refl
or_false false = refl

or_moves : (a b c : Bool) → (a || (b || c)) ≡ ((a || (b || false)) || c)
or_moves true b c = refl
or_moves false true c = refl
or_moves false false c = refl

moved : (w x : Word) (seen before : List Word) → (is_among w seen || is_among w (x ∷ before)) ≡ (is_among w (seen ++ x ∷ []) || is_among w before)
moved w x seen before =
    or_moves (is_among w seen) (same_text w x) (is_among w before)
    ∙ ap (λ b. b || is_among w before) (sym (list_any-append (same_text w) seen (x ∷ [])))

pub repeats_to : (rule : Rule) (seen before after : List Word) (w : Word) → (is_among w seen || is_among w before) ≡ true → Contains (repeats rule seen (before ++ w ∷ after)) (fault rule w.span)
repeats_to rule seen [] after w h =
    in_left (fault_if (is_among w seen) (rule, w.span)) (repeats rule (seen ++ w ∷ []) after) (fault rule w.span) (fault_in (is_among w seen) (fault rule w.span) (sym (or_false (is_among w seen)) ∙ h))
repeats_to rule seen (x ∷ before) after w h =
    in_right (fault_if (is_among x seen) (rule, x.span)) (repeats rule (seen ++ x ∷ []) (before ++ w ∷ after)) (fault rule w.span) (repeats_to rule (seen ++ x ∷ []) before after w (sym (moved w x seen before) ∙ h))

pub record Again (rule : Rule) (seen words : List Word) (f : Fault) : Type 0 where
  pub before : List Word
  pub after : List Word
  pub word : Word
  pub is : words ≡ before ++ word ∷ after
  pub again : (is_among word seen || is_among word before) ≡ true
  pub place : fault rule word.span ≡ f

later : (rule : Rule) (seen words : List Word) (x : Word) (f : Fault) → Again rule (seen ++ x ∷ []) words f → Again rule seen (x ∷ words) f
later rule seen words x f a = record { before = x ∷ a.before; after = a.after; word = a.word; is = ap (λ ws. x ∷ ws) a.is; again = moved a.word x seen a.before ∙ a.again; place = a.place }

pub repeats_from : (rule : Rule) (seen words : List Word) (f : Fault) → Contains (repeats rule seen words) f → Again rule seen words f
repeats_from rule seen [] f h = absurd (in_none f h)
repeats_from rule seen (w ∷ words) f h =
    by_cases (in_either (fault_if (is_among w seen) (rule, w.span)) (repeats rule (seen ++ w ∷ []) words) f h) (repeats_from rule (seen ++ w ∷ []) words f)
  where
    by_cases : Contains (fault_if (is_among w seen) (rule, w.span)) f ⊎ Contains (repeats rule (seen ++ w ∷ []) words) f → (Contains (repeats rule (seen ++ w ∷ []) words) f → Again rule (seen ++ w ∷ []) words f) → Again rule seen (w ∷ words) f
    by_cases (inl a) rec = let o = in_fault (is_among w seen) (fault rule w.span) f a in record { before = []; after = words; word = w; is = refl; again = or_false (is_among w seen) ∙ o.0; place = o.1 }
    by_cases (inr a) rec = later rule seen words w f (rec a)

-- ---- words that are mapped from other things

pub list_any-map : {A B : Type 0} (p : B → Bool) (f : A → B) (xs : List A) → list_any p (map f xs) ≡ list_any (λ x. p (f x)) xs
list_any-map p f [] = refl
list_any-map p f (x ∷ xs) = ap (λ b. p (f x) || b) (list_any-map p f xs)

pub record MapSplit {A B : Type 0} (f : A → B) (xs : List A) (bs : List B) (y : B) : Type 0 where
  pub before : List A
  pub after : List A
  pub element : A
  pub is : xs ≡ before ++ element ∷ after
  pub front : map f before ≡ bs
  pub maps : f element ≡ y

pub map_split : {A B : Type 0} (f : A → B) (xs : List A) (bs cs : List B) (y : B) → map f xs ≡ bs ++ y ∷ cs → MapSplit f xs bs y
map_split f [] [] cs y e = cc
map_split f [] (b ∷ bs) cs y e = cc
map_split f (x ∷ xs) [] cs y e = let m : f x ≡ y = cc in record { before = []; after = xs; element = x; is = refl; front = refl; maps = m }
map_split f (x ∷ xs) (b ∷ bs) cs y e = with_rest (map_split f xs bs cs y (let r : map f xs ≡ bs ++ y ∷ cs = cc in r)) (let m : f x ≡ b = cc in m)
  where
    with_rest : MapSplit f xs bs y → f x ≡ b → MapSplit f (x ∷ xs) (b ∷ bs) y
    with_rest s m = record { before = x ∷ s.before; after = s.after; element = s.element; is = ap (λ ys. x ∷ ys) s.is; front = ap (λ c. c ∷ map f s.before) m ∙ ap (λ cs. b ∷ cs) s.front; maps = s.maps }

-- ---- the names in `PAR`s

one_start : (a : Bool) (name w : Word) → (a && same_text name w) ≡ list_any (same_text name) (one_if a w)
one_start false name w = refl
one_start true name w = sym (or_false (same_text name w))

pub any_starts : (name : Word) (ps : List Place) → list_any (starts_text name) ps ≡ is_among name (started (map site_of ps))
any_starts name [] = refl
any_starts name (p ∷ ps) =
    ap (λ b. b || list_any (starts_text name) ps) (one_start (is_start p.role) name p.word)
    ∙ ap (λ b. list_any (same_text name) (one_if (is_start p.role) p.word) || b) (any_starts name ps)
    ∙ sym (list_any-append (same_text name) (one_if (is_start p.role) p.word) (started (map site_of ps)))

pub started_at : (before after : List Place) (p : Place) → is_start p.role ≡ true → started (map site_of (before ++ p ∷ after)) ≡ started (map site_of before) ++ p.word ∷ started (map site_of after)
started_at [] after p e = ap (λ b. one_if b p.word ++ started (map site_of after)) e
started_at (x ∷ before) after p e =
    ap (λ ws. one_if (is_start x.role) x.word ++ ws) (started_at before after p e)
    ∙ sym (append_assoc (one_if (is_start x.role) x.word) (started (map site_of before)) (p.word ∷ started (map site_of after)))

pub record StartSplit (ps : List Place) (bs : List Word) (w : Word) : Type 0 where
  pub before : List Place
  pub after : List Place
  pub place : Place
  pub is : ps ≡ before ++ place ∷ after
  pub front : started (map site_of before) ≡ bs
  pub starts : is_start place.role ≡ true
  pub names : place.word ≡ w

-- a place before those that are split
passed : (p : Place) (ps : List Place) (bs cs : List Word) (w : Word) → one_if (is_start p.role) p.word ++ bs ≡ cs → StartSplit ps bs w → StartSplit (p ∷ ps) cs w
passed p ps bs cs w e s = record {
  before = p ∷ s.before;
  after = s.after;
  place = s.place;
  is = ap (λ qs. p ∷ qs) s.is;
  front = ap (λ ws. one_if (is_start p.role) p.word ++ ws) s.front ∙ e;
  starts = s.starts;
  names = s.names;
}

pub start_split : (ps : List Place) (bs cs : List Word) (w : Word) → started (map site_of ps) ≡ bs ++ w ∷ cs → StartSplit ps bs w
start_split [] [] cs w e = cc
start_split [] (b ∷ bs) cs w e = cc
start_split (p ∷ ps) bs cs w e = by_test (is_start p.role) refl bs e (start_split ps)
  where
    by_test : (t : Bool) → is_start p.role ≡ t → (bs : List Word) → one_if t p.word ++ started (map site_of ps) ≡ bs ++ w ∷ cs → ((bs cs : List Word) (w : Word) → started (map site_of ps) ≡ bs ++ w ∷ cs → StartSplit ps bs w) → StartSplit (p ∷ ps) bs w
    by_test true t [] e rec = let m : p.word ≡ w = cc in record { before = []; after = ps; place = p; is = refl; front = refl; starts = t; names = m }
    by_test true t (b ∷ bs) e rec =
        let r : started (map site_of ps) ≡ bs ++ w ∷ cs = cc in
        let m : p.word ≡ b = cc in
        passed p ps bs (b ∷ bs) w (ap (λ t. one_if t p.word ++ bs) t ∙ ap (λ v. v ∷ bs) m) (rec bs cs w r)
    by_test false t bs e rec = passed p ps bs bs w (ap (λ t. one_if t p.word ++ bs) t) (rec bs cs w e)
