-- What is in the list of faults is what is broken.
use Rattle.std.proofs.Common.{◌≡◌, ℕ, Bool, true, false, ◌||◌, ◌&&◌, List, [], ◌∷◌, ◌++◌, ◌⊎◌, inl, inr, map, refl, sym, ap, subst, ◌∙◌}
use Rattle.std.specs.Prelude.{not, find, Contains}
use Rattle.std.specs.List.{list_any}
use Rattle.std.proofs.lemmas.List.{map-append}
use Rattle.pt_base.specs.declared.Rule.{Rule}
use Rattle.pt_base.specs.declared.Rule.TheVariants.{N1, N2, N3, N4, N5, N6, N7, N8}
use Rattle.pt_base.specs.declared.Span.{Span}
use Rattle.pc_grammar.specs.declared.expressions.Word.{Word}
use Rattle.pc_grammar.specs.declared.programs.Item.{Item}
use Rattle.pc_grammar.specs.Places.{Place, places, Found, Unknown, Own, Known, found, word_of, same_text, is_among, has_name, is_start, is_main, is_thread}
use Rattle.pc_grammar.specs.Breaking.{Breaks, item_twice, own_twice, unknown, wrong_kind, input_written, miscounted, no_main, started_twice, no_thread, is_wrong, is_written, is_input, is_miscounted, is_main_item, is_named_main, main_place, own_of, holds_some_pause, starts_text}
use Rattle.pt_base.specs.First.{Fault, fault_if}
use Rattle.pt_base.proofs.Elements.{in_left, in_right, in_either, in_flat, flat_in}
use Rattle.pt_base.proofs.Least.{fault_in, in_fault}
use Rattle.pc_names.specs.Sites.{site_of, sites_of}
use Rattle.pc_names.specs.Started.{started, is_unknown}
use Rattle.pc_names.specs.Faults.{repeats, own_faults, site_faults, sites_faults, main_faults, pause_faults, faults}
use Rattle.pc_names.proofs.Members.{split_at, in_split}
use Rattle.pc_names.proofs.Repeats.{fault, repeats_to, repeats_from, list_any-map, map_split, any_starts, started_at, start_split}
use Rattle.pc_names.proofs.Flat.{own_flat, sites_flat, pause_fault, pauses_flat}

-- ---- truths

both : (a b : Bool) → a ≡ true → b ≡ true → (a && b) ≡ true
both true b e f = f
both false b e f = cc

first_holds : (a b : Bool) → (a && b) ≡ true → a ≡ true
first_holds true b e = refl
first_holds false b e = e

second_holds : (a b : Bool) → (a && b) ≡ true → b ≡ true
second_holds true b e = e
second_holds false b e = cc

negated : (b : Bool) → b ≡ false → not b ≡ true
negated b e = ap not e

not_true : (b : Bool) → not b ≡ true → b ≡ false
not_true true e = cc
not_true false e = refl

or_first : (a b : Bool) → a ≡ true → (a || b) ≡ true
or_first a b e = ap (λ t. t || b) e

or_second : (a b : Bool) → b ≡ true → (a || b) ≡ true
or_second true b e = refl
or_second false b e = e

is_unknown_to : (x : Found) → x ≡ Unknown → is_unknown x ≡ true
is_unknown_to x e = ap is_unknown e

is_unknown_from : (x : Found) → is_unknown x ≡ true → x ≡ Unknown
is_unknown_from Unknown e = refl
is_unknown_from Own e = cc
is_unknown_from (Known i) e = cc

-- ---- the parts of the list

module _ (items : List Item) (end : ℕ) where
  abbrev twice : List Fault
  twice = repeats N1 [] (map word_of items)

  abbrev own : List Fault
  own = own_faults items

  abbrev at_sites : List Fault
  at_sites = sites_faults items (sites_of items)

  abbrev again : List Fault
  again = repeats N7 [] (started (sites_of items))

  abbrev at_main : List Fault
  at_main = main_faults items end

  abbrev pausing : List Fault
  pausing = pause_faults items items

  in_twice : (f : Fault) → Contains twice f → Contains (faults items end) f
  unfolding faults
  in_twice f h = in_left twice (own ++ (at_sites ++ (again ++ (at_main ++ pausing)))) f h

  in_own : (f : Fault) → Contains own f → Contains (faults items end) f
  unfolding faults
  in_own f h = in_right twice (own ++ (at_sites ++ (again ++ (at_main ++ pausing)))) f (in_left own (at_sites ++ (again ++ (at_main ++ pausing))) f h)

  behind_own : (f : Fault) → Contains (at_sites ++ (again ++ (at_main ++ pausing))) f → Contains (faults items end) f
  unfolding faults
  behind_own f h = in_right twice (own ++ (at_sites ++ (again ++ (at_main ++ pausing)))) f (in_right own (at_sites ++ (again ++ (at_main ++ pausing))) f h)

  in_sites : (f : Fault) → Contains at_sites f → Contains (faults items end) f
  in_sites f h = behind_own f (in_left at_sites (again ++ (at_main ++ pausing)) f h)

  in_again : (f : Fault) → Contains again f → Contains (faults items end) f
  in_again f h = behind_own f (in_right at_sites (again ++ (at_main ++ pausing)) f (in_left again (at_main ++ pausing) f h))

  in_main : (f : Fault) → Contains at_main f → Contains (faults items end) f
  in_main f h = behind_own f (in_right at_sites (again ++ (at_main ++ pausing)) f (in_right again (at_main ++ pausing) f (in_left at_main pausing f h)))

  in_pausing : (f : Fault) → Contains pausing f → Contains (faults items end) f
  in_pausing f h = behind_own f (in_right at_sites (again ++ (at_main ++ pausing)) f (in_right again (at_main ++ pausing) f (in_right at_main pausing f h)))

  -- a fault at a place
  at_place : (p : Place) (f : Fault) → Contains (places items) p → Contains (site_faults items (site_of p)) f → Contains (faults items end) f
  at_place p f m h = in_sites f (subst (λ fs. Contains fs f) (sym (sites_flat items (places items))) (flat_in (λ q. site_faults items (site_of q)) (places items) p f m h))

  module _ (p : Place) where
    abbrev two : List Fault
    two = fault_if (is_unknown (found p)) (N2, p.word.span)

    abbrev three : List Fault
    three = fault_if (is_wrong items p.role (found p)) (N3, p.word.span)

    abbrev four : List Fault
    four = fault_if (is_written p.role && is_input (found p)) (N4, p.word.span)

    abbrev five : List Fault
    five = fault_if (is_miscounted p.role (found p)) (N5, p.word.span)

    abbrev seven : List Fault
    seven = fault_if (is_start p.role && is_main p.word) (N7, p.word.span)

    at_two : (f : Fault) → Contains two f → Contains (site_faults items (site_of p)) f
    at_two f h = in_left two (three ++ (four ++ (five ++ seven))) f h

    at_three : (f : Fault) → Contains three f → Contains (site_faults items (site_of p)) f
    at_three f h = in_right two (three ++ (four ++ (five ++ seven))) f (in_left three (four ++ (five ++ seven)) f h)

    behind_three : (f : Fault) → Contains (four ++ (five ++ seven)) f → Contains (site_faults items (site_of p)) f
    behind_three f h = in_right two (three ++ (four ++ (five ++ seven))) f (in_right three (four ++ (five ++ seven)) f h)

    at_four : (f : Fault) → Contains four f → Contains (site_faults items (site_of p)) f
    at_four f h = behind_three f (in_left four (five ++ seven) f h)

    at_five : (f : Fault) → Contains five f → Contains (site_faults items (site_of p)) f
    at_five f h = behind_three f (in_right four (five ++ seven) f (in_left five seven f h))

    at_seven : (f : Fault) → Contains seven f → Contains (site_faults items (site_of p)) f
    at_seven f h = behind_three f (in_right four (five ++ seven) f (in_right five seven f h))

  -- ---- what is broken is in the list

  twice_to : (before after : List Item) (i : Item) → items ≡ before ++ i ∷ after → list_any (has_name (word_of i)) before ≡ true → Contains (faults items end) (fault N1 (word_of i).span)
  twice_to before after i is again =
      let words : map word_of items ≡ map word_of before ++ word_of i ∷ map word_of after = ap (map word_of) is ∙ map-append word_of before (i ∷ after) in
      let there : is_among (word_of i) (map word_of before) ≡ true = list_any-map (same_text (word_of i)) word_of before ∙ again in
      in_twice (fault N1 (word_of i).span) (subst (λ ws. Contains (repeats N1 [] ws) (fault N1 (word_of i).span)) (sym words) (repeats_to N1 [] (map word_of before) (map word_of after) (word_of i) there))

  own_to : (i : Item) (before after : List Word) (w : Word) → Contains items i → own_of i ≡ before ++ w ∷ after → is_among w before ≡ true → Contains (faults items end) (fault N1 w.span)
  own_to i before after w m is again =
      in_own (fault N1 w.span) (subst (λ fs. Contains fs (fault N1 w.span)) (sym (own_flat items)) (flat_in (λ j. repeats N1 [] (own_of j)) items i (fault N1 w.span) m
      (subst (λ ws. Contains (repeats N1 [] ws) (fault N1 w.span)) (sym is) (repeats_to N1 [] before after w again))))

  again_to : (before after : List Place) (p : Place) → places items ≡ before ++ p ∷ after → is_start p.role ≡ true → list_any (starts_text p.word) before ≡ true → Contains (faults items end) (fault N7 p.word.span)
  again_to before after p is start twice =
      let words : started (sites_of items) ≡ started (map site_of before) ++ p.word ∷ started (map site_of after) = ap (λ ps. started (map site_of ps)) is ∙ started_at before after p start in
      let there : is_among p.word (started (map site_of before)) ≡ true = sym (any_starts p.word before) ∙ twice in
      in_again (fault N7 p.word.span) (subst (λ ws. Contains (repeats N7 [] ws) (fault N7 p.word.span)) (sym words) (repeats_to N7 [] (started (map site_of before)) (started (map site_of after)) p.word there))

  main_or_again : (before after : List Place) (p : Place) → places items ≡ before ++ p ∷ after → is_start p.role ≡ true → (t : Bool) → is_main p.word ≡ t → (t || list_any (starts_text p.word) before) ≡ true → Contains (faults items end) (fault N7 p.word.span)
  main_or_again before after p is start true e h =
      at_place p (fault N7 p.word.span) (in_split p (places items) before after is)
      (at_seven p (fault N7 p.word.span) (fault_in (is_start p.role && is_main p.word) (fault N7 p.word.span) (both (is_start p.role) (is_main p.word) start e)))
  main_or_again before after p is start false e h = again_to before after p is start h

  pub in_faults : {rule : Rule} {span : Span} → Breaks items end rule span → Contains (faults items end) (fault rule span)
  in_faults (item_twice before after i is again) = twice_to before after i is again
  in_faults (own_twice i before after w m is again) = own_to i before after w m is again
  in_faults (unknown p m e) = at_place p (fault N2 p.word.span) m (at_two p (fault N2 p.word.span) (fault_in (is_unknown (found p)) (fault N2 p.word.span) (is_unknown_to (found p) e)))
  in_faults (wrong_kind p m e) = at_place p (fault N3 p.word.span) m (at_three p (fault N3 p.word.span) (fault_in (is_wrong items p.role (found p)) (fault N3 p.word.span) e))
  in_faults (input_written p m e g) = at_place p (fault N4 p.word.span) m (at_four p (fault N4 p.word.span) (fault_in (is_written p.role && is_input (found p)) (fault N4 p.word.span) (both (is_written p.role) (is_input (found p)) e g)))
  in_faults (miscounted p m e) = at_place p (fault N5 p.word.span) m (at_five p (fault N5 p.word.span) (fault_in (is_miscounted p.role (found p)) (fault N5 p.word.span) e))
  in_faults (no_main e) = in_main (fault N6 (main_place end (find is_named_main items))) (fault_in (not (list_any is_main_item items)) (fault N6 (main_place end (find is_named_main items))) (negated (list_any is_main_item items) e))
  in_faults (started_twice before after p is start e) = main_or_again before after p is start (is_main p.word) refl e
  in_faults (no_thread i m e g) = in_pausing (fault N8 (word_of i).span) (subst (λ fs. Contains fs (fault N8 (word_of i).span)) (sym (pauses_flat items items)) (flat_in (pause_fault items) items i (fault N8 (word_of i).span) m
      (fault_in (not (is_thread items (word_of i)) && holds_some_pause i) (fault N8 (word_of i).span) (both (not (is_thread items (word_of i))) (holds_some_pause i) (negated (is_thread items (word_of i)) e) g))))

  -- ---- what is in the list is broken

  abbrev B : Fault → Type 0
  B f = Breaks items end f.0 f.1

  twice_from : (f : Fault) → Contains twice f → B f
  twice_from f h =
      let a = repeats_from N1 [] (map word_of items) f h in
      let s = map_split word_of items a.before a.after a.word a.is in
      let there : list_any (has_name (word_of s.element)) s.before ≡ true =
      sym (list_any-map (same_text (word_of s.element)) word_of s.before) ∙ ap (is_among (word_of s.element)) s.front ∙ ap (λ w. is_among w a.before) s.maps ∙ a.again in
      subst B (ap (λ w. fault N1 w.span) s.maps ∙ a.place) (item_twice s.before s.after s.element s.is there)

  own_from : (f : Fault) → Contains own f → B f
  own_from f h =
      let s = in_flat (λ i. repeats N1 [] (own_of i)) items f (subst (λ fs. Contains fs f) (own_flat items) h) in
      let a = repeats_from N1 [] (own_of s.of) f s.found in
      subst B a.place (own_twice s.of a.before a.after a.word s.listed a.is a.again)

  again_from : (f : Fault) → Contains again f → B f
  again_from f h =
      let a = repeats_from N7 [] (started (sites_of items)) f h in
      let s = start_split (places items) a.before a.after a.word a.is in
      let there : list_any (starts_text s.place.word) s.before ≡ true =
      any_starts s.place.word s.before ∙ ap (is_among s.place.word) s.front ∙ ap (λ w. is_among w a.before) s.names ∙ a.again in
      subst B (ap (λ w. fault N7 w.span) s.names ∙ a.place) (started_twice s.before s.after s.place s.is s.starts (or_second (is_main s.place.word) (list_any (starts_text s.place.word) s.before) there))

  main_from : (f : Fault) → Contains at_main f → B f
  main_from f h =
      let o = in_fault (not (list_any is_main_item items)) (fault N6 (main_place end (find is_named_main items))) f h in
      subst B o.1 (no_main (not_true (list_any is_main_item items) o.0))

  pausing_from : (f : Fault) → Contains pausing f → B f
  pausing_from f h =
      let s = in_flat (pause_fault items) items f (subst (λ fs. Contains fs f) (pauses_flat items items) h) in
      let t = is_thread items (word_of s.of) in
      let p = holds_some_pause s.of in
      let o = in_fault (not t && p) (fault N8 (word_of s.of).span) f s.found in
      subst B o.1 (no_thread s.of s.listed (not_true t (first_holds (not t) p o.0)) (second_holds (not t) p o.0))

  module _ (p : Place) (m : Contains (places items) p) (f : Fault) where
    two_from : Contains (two p) f → B f
    two_from h = let o = in_fault (is_unknown (found p)) (fault N2 p.word.span) f h in subst B o.1 (unknown p m (is_unknown_from (found p) o.0))

    three_from : Contains (three p) f → B f
    three_from h = let o = in_fault (is_wrong items p.role (found p)) (fault N3 p.word.span) f h in subst B o.1 (wrong_kind p m o.0)

    four_from : Contains (four p) f → B f
    four_from h =
        let o = in_fault (is_written p.role && is_input (found p)) (fault N4 p.word.span) f h in
        subst B o.1 (input_written p m (first_holds (is_written p.role) (is_input (found p)) o.0) (second_holds (is_written p.role) (is_input (found p)) o.0))

    five_from : Contains (five p) f → B f
    five_from h = let o = in_fault (is_miscounted p.role (found p)) (fault N5 p.word.span) f h in subst B o.1 (miscounted p m o.0)

    seven_from : Contains (seven p) f → B f
    seven_from h =
        let o = in_fault (is_start p.role && is_main p.word) (fault N7 p.word.span) f h in
        let s = split_at p (places items) m in
        subst B o.1 (started_twice s.before s.after p s.is (first_holds (is_start p.role) (is_main p.word) o.0)
        (or_first (is_main p.word) (list_any (starts_text p.word) s.before) (second_holds (is_start p.role) (is_main p.word) o.0)))

    last_from : Contains (five p) f ⊎ Contains (seven p) f → B f
    last_from (inl h) = five_from h
    last_from (inr h) = seven_from h

    third_from : Contains (four p) f ⊎ Contains (five p ++ seven p) f → B f
    third_from (inl h) = four_from h
    third_from (inr h) = last_from (in_either (five p) (seven p) f h)

    second_from : Contains (three p) f ⊎ Contains (four p ++ (five p ++ seven p)) f → B f
    second_from (inl h) = three_from h
    second_from (inr h) = third_from (in_either (four p) (five p ++ seven p) f h)

    place_from : Contains (two p) f ⊎ Contains (three p ++ (four p ++ (five p ++ seven p))) f → B f
    place_from (inl h) = two_from h
    place_from (inr h) = second_from (in_either (three p) (four p ++ (five p ++ seven p)) f h)

  sites_from : (f : Fault) → Contains at_sites f → B f
  sites_from f h =
      let s = in_flat (λ q. site_faults items (site_of q)) (places items) f (subst (λ fs. Contains fs f) (sites_flat items (places items)) h) in
      let p = s.of in
      place_from p s.listed f (in_either (two p) (three p ++ (four p ++ (five p ++ seven p))) f s.found)

  module _ (f : Fault) where
    fifth_part : Contains at_main f ⊎ Contains pausing f → B f
    fifth_part (inl h) = main_from f h
    fifth_part (inr h) = pausing_from f h

    fourth_part : Contains again f ⊎ Contains (at_main ++ pausing) f → B f
    fourth_part (inl h) = again_from f h
    fourth_part (inr h) = fifth_part (in_either at_main pausing f h)

    third_part : Contains at_sites f ⊎ Contains (again ++ (at_main ++ pausing)) f → B f
    third_part (inl h) = sites_from f h
    third_part (inr h) = fourth_part (in_either again (at_main ++ pausing) f h)

    second_part : Contains own f ⊎ Contains (at_sites ++ (again ++ (at_main ++ pausing))) f → B f
    second_part (inl h) = own_from f h
    second_part (inr h) = third_part (in_either at_sites (again ++ (at_main ++ pausing)) f h)

    first_part : Contains twice f ⊎ Contains (own ++ (at_sites ++ (again ++ (at_main ++ pausing)))) f → B f
    first_part (inl h) = twice_from f h
    first_part (inr h) = second_part (in_either own (at_sites ++ (again ++ (at_main ++ pausing))) f h)

    pub is_broken : Contains (faults items end) f → B f
    unfolding faults
    is_broken h = first_part (in_either twice (own ++ (at_sites ++ (again ++ (at_main ++ pausing)))) f h)
