-- All places at which a program breaks a rule on names, rule by rule.
use Rattle.std.specs.Prelude.{ℕ, ◌&&◌, not, List, [], ◌∷◌, ◌++◌, map, find}
use Rattle.std.specs.List.{list_any}
use Rattle.pt_base.specs.declared.Rule.{Rule}
use Rattle.pt_base.specs.declared.Rule.TheVariants.{N1, N2, N3, N4, N5, N6, N7, N8}
use Rattle.pc_grammar.specs.declared.expressions.Word.{Word}
use Rattle.pc_grammar.specs.declared.programs.Item.{Item}
use Rattle.pc_grammar.specs.Places.{word_of, is_among, is_start, is_main, is_thread}
use Rattle.pc_grammar.specs.Breaking.{is_wrong, is_written, is_input, is_miscounted, is_main_item, is_named_main, main_place, own_of, holds_some_pause}
use Rattle.pt_base.specs.First.{Fault, fault_if}
use Rattle.pc_names.specs.Sites.{Site, sites_of}
use Rattle.pc_names.specs.Started.{is_unknown, started}

-- ---- names that stand there a second time

abbrev pub repeats : Rule → List Word → List Word → List Fault
repeats rule before [] = []
repeats rule before (w ∷ rest) = fault_if (is_among w before) (rule, w.span) ++ repeats rule (before ++ w ∷ []) rest

abbrev pub own_faults : List Item → List Fault
own_faults [] = []
own_faults (i ∷ rest) = repeats N1 [] (own_of i) ++ own_faults rest

-- ---- at a place

abbrev pub site_faults : List Item → Site → List Fault
site_faults items s =
    fault_if (is_unknown s.found) (N2, s.word.span)
    ++ (fault_if (is_wrong items s.role s.found) (N3, s.word.span)
    ++ (fault_if (is_written s.role && is_input s.found) (N4, s.word.span)
    ++ (fault_if (is_miscounted s.role s.found) (N5, s.word.span)
    ++ fault_if (is_start s.role && is_main s.word) (N7, s.word.span))))

abbrev pub sites_faults : List Item → List Site → List Fault
sites_faults items [] = []
sites_faults items (s ∷ rest) = site_faults items s ++ sites_faults items rest

-- ---- at items

abbrev pub main_faults : List Item → ℕ → List Fault
main_faults items end = fault_if (not (list_any is_main_item items)) (N6, main_place end (find is_named_main items))

abbrev pub pause_faults : List Item → List Item → List Fault
pause_faults all [] = []
pause_faults all (i ∷ rest) = fault_if (not (is_thread all (word_of i)) && holds_some_pause i) (N8, (word_of i).span) ++ pause_faults all rest

-- ---- all

unfoldable pub faults : List Item → ℕ → List Fault
faults items end =
    repeats N1 [] (map word_of items)
    ++ (own_faults items
    ++ (sites_faults items (sites_of items)
    ++ (repeats N7 [] (started (sites_of items))
    ++ (main_faults items end ++ pause_faults items items))))
