-- Lists of faults that come from the elements of another list.
use Rattle.std.proofs.Common.{◌≡◌, ◌&&◌, List, [], ◌∷◌, ◌++◌, map, refl, ap}
use Rattle.std.specs.Prelude.{not, flat_map}
use Rattle.pt_base.specs.declared.Rule.TheVariants.{N1, N8}
use Rattle.pc_grammar.specs.declared.programs.Item.{Item}
use Rattle.pc_grammar.specs.Places.{Place, word_of, is_thread}
use Rattle.pc_grammar.specs.Breaking.{own_of, holds_some_pause}
use Rattle.pt_base.specs.First.{Fault, fault_if}
use Rattle.pc_names.specs.Sites.{site_of}
use Rattle.pc_names.specs.Faults.{repeats, own_faults, site_faults, sites_faults, pause_faults}

pub own_flat : (items : List Item) → own_faults items ≡ flat_map (λ i. repeats N1 [] (own_of i)) items
own_flat [] = refl
own_flat (i ∷ items) = ap (λ fs. repeats N1 [] (own_of i) ++ fs) (own_flat items)

pub sites_flat : (items : List Item) (ps : List Place) → sites_faults items (map site_of ps) ≡ flat_map (λ p. site_faults items (site_of p)) ps
sites_flat items [] = refl
sites_flat items (p ∷ ps) = ap (λ fs. site_faults items (site_of p) ++ fs) (sites_flat items ps)

abbrev pub pause_fault : List Item → Item → List Fault
pause_fault all i = fault_if (not (is_thread all (word_of i)) && holds_some_pause i) (N8, (word_of i).span)

pub pauses_flat : (all items : List Item) → pause_faults all items ≡ flat_map (pause_fault all) items
pauses_flat all [] = refl
pauses_flat all (i ∷ items) = ap (λ fs. pause_fault all i ++ fs) (pauses_flat all items)
