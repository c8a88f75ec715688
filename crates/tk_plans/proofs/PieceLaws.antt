-- The bounded loops and calls of a program, one after another, and the one at a place.
use Rattle.std.proofs.Common.{◌≡◌, ℕ, ◌+◌, ◌<◌, ◌==◌, ◌++◌, zero, suc, Bool, true, false, if◌then◌else◌, List, [], ◌∷◌, map, flat_map, take, drop, length, get_or, Some, refl, sym, ap, ◌∙◌, subst, append_assoc, arith}
use Rattle.std.proofs.Math.Seq.{drop-cons}
use Rattle.std.proofs.lemmas.List.{append-nil}
use Rattle.pt_image.specs.declared.Parts.{Parts}
use Rattle.tk_paths.specs.Regions.{Region}
use Rattle.tk_paths.specs.Codes.{Code, Either}
use Rattle.tk_paths.specs.Programs.{Program}
use Rattle.tk_paths.specs.declared.Section.{Section as KeptSection}
use Rattle.tk_paths.specs.declared.Code.{Code as KeptCode}
use Rattle.tk_paths.specs.declared.Code.TheVariants as kept_code
use Rattle.tk_paths.specs.Trees.{regions_from, codes_from, read_code, read_sections}
use Rattle.tk_paths.proofs.Readings.{read-Sequence, read-Either}
use Rattle.tk_paths.specs.Choices.{pieces, code_pieces, section_pieces, piece_in}
use Rattle.tk_paths.specs.Dearest.{find_piece}
use Rattle.tk_numbers.specs.Charges.{routines_in}
use Rattle.tk_numbers.specs.Routines.{read_section}
use Rattle.tk_numbers.proofs.Before.{flat_more}
use Rattle.tk_plans.specs.declared.parts.Next.{Next}
use Rattle.tk_plans.specs.declared.pieces.Piece.{Piece}
use Rattle.tk_plans.specs.Small.{HasSmallWays}
use Rattle.tk_plans.specs.Parts.{crossed, crossed_way}
use Rattle.tk_plans.specs.Ways.{crossing, ArePieces, piece_among, crossed_by, way_by}

-- nothing is added
pub no_piece : (old : List Piece) → old ≡ old ++ []
no_piece old = sym (append-nil old)

pub map-both : {X Y : Type 0} (f : X → Y) (xs ys : List X) → map f (xs ++ ys) ≡ map f xs ++ map f ys
map-both f [] ys = refl
map-both f (x ∷ xs) ys = ap (λ l. f x ∷ l) (map-both f xs ys)

-- the pieces of two lists, one behind the other
pub both_added : {X : Type 0} (f : X → Piece) (xs ys : List X) (old mid new : List Piece) → mid ≡ old ++ map f xs → new ≡ mid ++ map f ys → new ≡ old ++ map f (xs ++ ys)
both_added f xs ys old mid new m n =
    n ∙ ap (λ l. l ++ map f ys) m ∙ append_assoc old (map f xs) (map f ys) ∙ ap (λ l. old ++ l) (sym (map-both f xs ys))

-- wherever they end
pub pieces_anywhere : (rs : List Region) (p q : ℕ) → pieces (regions_from p rs) ≡ pieces (regions_from q rs)
pieces_anywhere [] p q = refl
pieces_anywhere (r ∷ rs) p q = ap (λ l. pieces r ++ l) (pieces_anywhere rs p q)

pub codes_anywhere : (cs : List Code) (p q : ℕ) → code_pieces (codes_from p cs) ≡ code_pieces (codes_from q cs)
codes_anywhere [] p q = refl
codes_anywhere (c ∷ cs) p q = ap (λ l. code_pieces c ++ l) (codes_anywhere cs p q)

-- codes in memory, by what they are made of
pub codes_read : (routines : List Region) (r : KeptCode) (parts all : List KeptCode) (q : ℕ) → r ≡ kept_code.Sequence parts q → all ≡ parts →
    read_code routines r ≡ codes_from q (map (read_code routines) all)
codes_read routines r parts all q e a =
    ap (read_code routines) e ∙ read-Sequence routines parts q ∙ ap (λ ps. codes_from q (map (read_code routines) ps)) (sym a)

pub either_read : (routines : List Region) (r x y first second : KeptCode) (p n at : ℕ) → r ≡ kept_code.Either p n at x y → first ≡ x → second ≡ y →
    read_code routines r ≡ Either p n at (read_code routines first) (read_code routines second)
either_read routines r x y first second p n at e ex ey =
    ap (read_code routines) e ∙ read-Either routines p n at x y
    ∙ ap (λ (z : KeptCode). Either p n at (read_code routines z) (read_code routines y)) (sym ex)
    ∙ ap (λ (z : KeptCode). Either p n at (read_code routines first) (read_code routines z)) (sym ey)

-- where the ways of codes one behind the other are small, so are those of each
pub code_small : (image : Parts) (costs : List ℕ) (f : KeptCode → Code) (q : ℕ) (codes : List KeptCode) (i : ℕ) (x : KeptCode) → i < length codes → x ≡ get_or codes i x →
    HasSmallWays image costs (codes_from q (map f codes)) → HasSmallWays image costs (f x)
code_small image costs f q [] i x h is w = absurd (omega (arith, h))
code_small image costs f q (c ∷ codes) zero x h is w = let P : KeptCode → Type 0 = λ y. HasSmallWays image costs (f y) in subst P (sym is) w.0
code_small image costs f q (c ∷ codes) (suc i) x h is w = code_small image costs f q codes i x (omega (arith, h)) is w.1

-- those of a section more
pub section_step : (f : ℕ × Region → Piece) (xs : List KeptSection) (i : ℕ) (x : KeptSection) (old new all : List Piece) → i < length xs → x ≡ get_or xs i x →
    new ≡ old ++ map f (section_pieces (read_section (routines_in (take i xs)) x)) →
    old ++ map f (flat_map section_pieces (read_sections (routines_in (take i xs)) (drop i xs))) ≡ all →
    new ++ map f (flat_map section_pieces (read_sections (routines_in (take (i + 1) xs)) (drop (i + 1) xs))) ≡ all
section_step f xs i x old new all h is e so =
    let here : List (ℕ × Region) = section_pieces (read_section (routines_in (take i xs)) x) in
    let rest : List (ℕ × Region) = flat_map section_pieces (read_sections (routines_in (take (i + 1) xs)) (drop (i + 1) xs)) in
    ap (λ l. l ++ map f rest) e ∙ append_assoc old (map f here) (map f rest) ∙ ap (λ l. old ++ l) (sym (map-both f here rest))
    ∙ ap (λ (y : KeptSection). old ++ map f (section_pieces (read_section (routines_in (take i xs)) y) ++ rest)) is
    ∙ ap (λ l. old ++ map f l) (flat_more section_pieces xs i x h) ∙ so

-- ---- the one at a place

here : (xs : List Piece) (place i : ℕ) (d : Piece) → i < length xs →
    piece_among (drop i xs) place ≡ (if (get_or xs i d).place == place then Some (get_or xs i d) else piece_among (drop (i + 1) xs) place)
here xs place i d h =
    let e : suc i ≡ i + 1 = omega arith in
    ap (λ (l : List Piece). piece_among l place) (drop-cons xs i d h ∙ ap (λ n. get_or xs i d ∷ drop n xs) e)

pub piece_here : (xs : List Piece) (place i : ℕ) (d : Piece) → i < length xs → ((get_or xs i d).place == place) ≡ true →
    piece_among (drop i xs) place ≡ Some (get_or xs i d)
piece_here xs place i d h t = here xs place i d h ∙ ap (λ (b : Bool). if b then Some (get_or xs i d) else piece_among (drop (i + 1) xs) place) t

pub piece_past : (xs : List Piece) (place i : ℕ) (d : Piece) → i < length xs → ((get_or xs i d).place == place) ≡ false →
    piece_among (drop i xs) place ≡ piece_among (drop (i + 1) xs) place
piece_past xs place i d h t = here xs place i d h ∙ ap (λ (b : Bool). if b then Some (get_or xs i d) else piece_among (drop (i + 1) xs) place) t

module _ (image : Parts) (costs : List ℕ) where
  among-next : (ps : List (ℕ × Region)) (place : ℕ) → crossed_by (piece_among (map (crossing image costs) ps) place) ≡ crossed (piece_in ps place)
  among-next [] place = refl
  among-next (x ∷ ps) place = by (x.0 == place) (among-next ps place)
    where
      by : (b : Bool) → crossed_by (piece_among (map (crossing image costs) ps) place) ≡ crossed (piece_in ps place) →
          crossed_by (if b then Some (crossing image costs x) else piece_among (map (crossing image costs) ps) place)
          ≡ crossed (if b then Some (x.1) else piece_in ps place)
      by true e = refl
      by false e = e

  among-way : (ps : List (ℕ × Region)) (place : ℕ) → way_by (piece_among (map (crossing image costs) ps) place) ≡ crossed_way image costs (piece_in ps place)
  among-way [] place = refl
  among-way (x ∷ ps) place = by (x.0 == place) (among-way ps place)
    where
      by : (b : Bool) → way_by (piece_among (map (crossing image costs) ps) place) ≡ crossed_way image costs (piece_in ps place) →
          way_by (if b then Some (crossing image costs x) else piece_among (map (crossing image costs) ps) place)
          ≡ crossed_way image costs (if b then Some (x.1) else piece_in ps place)
      by true e = refl
      by false e = e

  pub crossed_is : (all : List Piece) (program : Program) (place : ℕ) (n : Next) → ArePieces image costs all program → n ≡ crossed_by (piece_among all place) →
      n ≡ crossed (find_piece program place)
  crossed_is all program place n a e =
      e ∙ ap (λ (l : List Piece). crossed_by (piece_among l place)) a ∙ among-next (flat_map section_pieces program.sections) place

  pub way_is : (all : List Piece) (program : Program) (place : ℕ) (old new : List Bool) → ArePieces image costs all program →
      new ≡ old ++ way_by (piece_among all place) → new ≡ old ++ crossed_way image costs (find_piece program place)
  way_is all program place old new a e =
      e ∙ ap (λ l. old ++ l) (ap (λ (l : List Piece). way_by (piece_among l place)) a ∙ among-way (flat_map section_pieces program.sections) place)
