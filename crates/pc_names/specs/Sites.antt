-- The places of a program, each with what it names.
use Rattle.std.specs.Prelude.{Bool, true, false, List, Option, map}
use Rattle.pc_grammar.specs.declared.expressions.Word.{Word}
use Rattle.pc_grammar.specs.declared.expressions.Expr.{Expr}
use Rattle.pc_grammar.specs.declared.programs.Item.{Item}
use Rattle.pc_grammar.specs.declared.roles.Role.{Role}
use Rattle.pc_grammar.specs.Uses.{Use}
use Rattle.pc_grammar.specs.Places.{Place, place_of, locals_places, item_places, places_from, places, Found, Own, found, found_among}

-- a name, what it does where it stands, and what it is there
pub record Site : Type 0 where
  pub role : Role
  pub word : Word
  pub found : Found

abbrev pub site_of : Place → Site
site_of p = record { role = p.role; word = p.word; found = found p }

-- what a name is that is a parameter or local, or else an item where there is one
abbrev pub found_of : Bool → Option Item → Found
found_of true item = Own
found_of false item = found_among item

abbrev pub site_with : Role → Word → Bool → Option Item → Site
site_with role word own item = record { role = role; word = word; found = found_of own item }

abbrev pub sites_of_uses : List Item → List Word → List (Use Word) → List Site
sites_of_uses before own uses = map (λ u. site_of (place_of before own u)) uses

abbrev pub sites_of_locals : List Item → List Word → List (Word × Option (Expr Word)) → List Site
sites_of_locals before own locals = map site_of (locals_places before own locals)

abbrev pub sites_of_item : List Item → Item → List Site
sites_of_item before item = map site_of (item_places before item)

abbrev pub sites_from : List Item → List Item → List Site
sites_from before rest = map site_of (places_from before rest)

abbrev pub sites_of : List Item → List Site
sites_of items = map site_of (places items)
