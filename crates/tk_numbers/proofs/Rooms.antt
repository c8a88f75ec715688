-- Where what begins a region is small, so is all within it.
use Rattle.std.proofs.Common.{◌≡◌, ◌≤◌, ◌<◌, ◌+◌, ◌-◌, ◌*◌, max, ℕ, zero, suc, List, [], ◌∷◌, map, drop, length, get_or, drop-cons, Option, Some, None, Result, Ok, Err, IfOk, refl, sym, ap, ◌∙◌, subst, arith}
use mathlib.Core.Path.{ap₂}
use Rattle.mb_isa.specs.declared.Class.TheVariants as class
use Rattle.pt_image.specs.declared.Parts.{Parts}
use Rattle.tk_paths.specs.Sums.{greater}
use Rattle.tk_paths.specs.Acceptance.{more}
use Rattle.tk_paths.specs.Walks.{most_cycles}
use Rattle.tk_paths.specs.declared.Region.{Region as Kept}
use Rattle.tk_paths.specs.declared.Region.TheVariants as kept
use Rattle.tk_paths.specs.Regions.{Region, Counted, Repeated, to, behind, unit_word, extra, word_cost, tested_turn, plain_turn, leaving, through}
use Rattle.tk_paths.specs.Numbers.{Numbers, after, next_number, branched, jumping, cost}
use Rattle.tk_paths.specs.Trees.{regions_from, read_region}
use Rattle.tk_paths.specs.Faults.{IsSmall, AllSmall, HasRoom}
use Rattle.tk_paths.proofs.Rooms.{small-left, small-right, small-plain, small-greater, small-three, small-four, all-less, room-less, room-onto}
use Rattle.tk_numbers.specs.Charges.{testing_cost, choice_cost, counted_cost, repeated_cost, opening_cost}
use Rattle.tk_numbers.specs.Units.{charged}
use Rattle.tk_numbers.proofs.Values.{parts_read}
use Rattle.tk_numbers.proofs.Lines.{through_anywhere}

-- what holds whatever comes out
pub always : {A E : Type 0} (r : Result A E) (X : Type 0) → X → IfOk r (λ n. X)
always (Ok a) X x = x
always (Err e) X x = tt

-- the same room
pub room_same : (n m : ℕ) (V W : Numbers) → n ≡ m → W ≡ V → HasRoom m V → HasRoom n W
room_same n m V W e f h =
    let P : ℕ → Type 0 = λ x. HasRoom x W in
    let Q : Numbers → Type 0 = λ X. HasRoom m X in
    subst P (sym e) (subst Q (sym f) h)

-- ---- what goes on from a `next`

-- a loop of m turns of weight w more, behind f, and one way out or the other
loop_fits : (f m w next out x b : ℕ) → f + max (suc m * w + next) (m * w + out) + x ≤ b → f + suc m * w + max (next + x) ((out + x) - w) ≤ b
loop_fits f m w next out x b h = let e : suc m * w ≡ m * w + w = omega arith in omega (arith, e, h)

small_next : (c f m w next out : ℕ) (o : Option ℕ) → c ≤ f + suc m * w →
    IsSmall (more (f + max (suc m * w + next) (m * w + out)) o) → IsSmall (more c (next_number next out w o))
small_next c f m w next out None l h = tt
small_next c f m w next out (Some x) l h = let b = loop_fits f m w next out x most_cycles h in omega (arith, b, l)

room_next : (c f m w next out : ℕ) (V : Numbers) → c ≤ f + suc m * w → HasRoom (f + max (suc m * w + next) (m * w + out)) V →
    HasRoom c (λ view. next_number next out w (V view))
room_next c f m w next out V l h = record {
  cycles = (let k = h.cycles in omega (arith, k, l));
  before = λ view. small_next c f m w next out (V view) l (h.before view);
}

once : (m w : ℕ) → w ≤ suc m * w
once m w = let e : suc m * w ≡ m * w + w = omega arith in omega (arith, e)

module _ (image : Parts) (costs : List ℕ) where
  -- ---- a choice whose sides cost tx and ty, the first of which ends at place j

  pub record ChoiceRooms (p n at j tx ty : ℕ) (V : Numbers) : Type 0 where
    pub taken : HasRoom ty V
    pub jump : AllSmall (jumping image costs j V)
    pub untaken : HasRoom tx (jumping image costs j V)
    pub tested : HasRoom (testing_cost image costs p n at) (branched image costs (after tx (jumping image costs j V)) (after ty V))

  pub choice_rooms : (p n at j tx ty : ℕ) (V : Numbers) → HasRoom (choice_cost image costs p n at j tx ty) V → ChoiceRooms p n at j tx ty V
  choice_rooms p n at j tx ty V h =
      let T = testing_cost image costs p n at in
      let J = extra image costs j + cost image costs class.Jump in
      let U = cost image costs class.Untaken in
      let K = cost image costs class.Taken in
      let N = T + max (U + (tx + J)) (K + ty) in
      let all = h.cycles in
      record {
        taken = room-less ty N V (omega arith) h;
        jump = all-less J N V (omega arith) h;
        untaken = room-onto tx J N V (omega arith) h;
        tested = record {
          cycles = omega (arith, all);
          before = λ view.
              small-greater T (more U (more tx (more J (V view)))) (more K (more ty (V view)))
              (small-four T U tx J N (V view) (omega arith) (h.before view)) (small-three T K ty N (V view) (omega arith) (h.before view));
        };
      }

  -- ---- a loop with a test whose body costs t, and one without

  module _ (p m n at : ℕ) (body : Region) (t : ℕ) (V : Numbers) where
    abbrev w : ℕ
    w = tested_turn image costs p n at body t

    abbrev out : ℕ
    out = leaving image costs p n at

    abbrev next : ℕ
    next = cost image costs class.Next

    abbrev pub N : Numbers
    N view = next_number next out w (V view)

    abbrev J : ℕ
    J = extra image costs (to body) + cost image costs class.Jump

    abbrev test : ℕ
    test = testing_cost image costs (behind image p + 1) n at

    pub record CountedRooms : Type 0 where
      pub cheap : t ≤ most_cycles
      pub weight : w ≤ most_cycles
      pub leaves : out ≤ most_cycles
      pub numbers : AllSmall N
      pub last : AllSmall (after (cost image costs class.Drop) V)
      pub jump : AllSmall (jumping image costs (to body) N)
      pub inner : HasRoom t (jumping image costs (to body) N)
      pub opening : HasRoom (opening_cost image costs p m w) N
      pub tests : HasRoom test (branched image costs (after t (jumping image costs (to body) N)) (after (cost image costs class.Drop) V))

    pub counted_rooms : HasRoom (counted_cost image costs p m n at body t) V → CountedRooms
    counted_rooms h =
        let f = extra image costs p + cost image costs class.Loop in
        let all = h.cycles in
        let one = once m w in
        let U = cost image costs class.Untaken in
        let K = cost image costs class.Taken in
        let D = cost image costs class.Drop in
        let whole = f + max (suc m * w + next) (m * w + out) in
        let opens = room_next (opening_cost image costs p m w) f m w next out V (omega arith) h in
        let turn = room_next w f m w next out V (omega (arith, one)) h in
        record {
          cheap = omega (arith, all, one);
          weight = omega (arith, all, one);
          leaves = omega (arith, all);
          numbers = λ view. small-plain w (N view) (turn.before view);
          last = all-less D whole V (omega arith) h;
          jump = all-less J w N (omega arith) turn;
          inner = room-onto t J w N (omega arith) turn;
          opening = opens;
          tests = record {
            cycles = omega (arith, all);
            before = λ view.
                small-greater test (more U (more t (more J (N view)))) (more K (more D (V view)))
                (small-four test U t J w (N view) (omega arith) (turn.before view)) (small-three test K D whole (V view) (omega arith) (h.before view));
          };
        }

  module _ (p m : ℕ) (body : Region) (t : ℕ) (V : Numbers) where
    abbrev v : ℕ
    v = plain_turn image costs body t

    abbrev pub M : Numbers
    M = after (cost image costs class.Next) V

    pub record RepeatedRooms : Type 0 where
      pub weight : v ≤ most_cycles
      pub numbers : AllSmall M
      pub jump : AllSmall (jumping image costs (to body) M)
      pub inner : HasRoom t (jumping image costs (to body) M)
      pub opening : HasRoom (opening_cost image costs p m v) M

    pub repeated_rooms : HasRoom (repeated_cost image costs p m body t) V → RepeatedRooms
    repeated_rooms h =
        let f = extra image costs p + cost image costs class.Loop in
        let all = h.cycles in
        let one = once m v in
        let next = cost image costs class.Next in
        let whole = f + (suc m * v + next) in
        let K = extra image costs (to body) + cost image costs class.Jump in
        let turn = room-onto v next whole V (omega (arith, one)) h in
        record {
          weight = omega (arith, all, one);
          numbers = all-less next whole V (omega arith) h;
          jump = all-less K v M (omega arith) turn;
          inner = room-onto t K v M (omega arith) turn;
          opening = room-onto (opening_cost image costs p m v) next whole V (omega arith) h;
        }

  -- ---- a sequence

  -- what is from a place on is no more than all
  pub rest_less : (f : Kept → Region) (parts : List Kept) (i : ℕ) →
      through image costs (regions_from 0 (map f (drop i parts))) ≤ through image costs (regions_from 0 (map f parts))
  rest_less f parts zero = omega arith
  rest_less f [] (suc i) = omega arith
  rest_less f (x ∷ parts) (suc i) = let r = rest_less f parts i in omega (arith, r)

  -- the first part of what is left is no more than all
  pub first_less : (f : Kept → Region) (parts : List Kept) (i : ℕ) (x : Kept) (rest : List Kept) (total : ℕ) → drop i parts ≡ x ∷ rest →
      total ≡ through image costs (regions_from 0 (map f rest)) → through image costs (f x) + total ≤ through image costs (regions_from 0 (map f parts))
  first_less f parts i x rest total e t =
      let r = rest_less f parts i in
      let g = ap (λ (l : List Kept). through image costs (regions_from 0 (map f l))) e in
      omega (arith, r, g, t)

  -- in a sequence in memory
  module _ (routines : List Region) (r : Kept) (parts all : List Kept) (q : ℕ) (is : r ≡ kept.Sequence parts q) (same : all ≡ parts) where
    whole_is : through image costs (regions_from 0 (map (read_region routines) all)) ≡ through image costs (read_region routines r)
    whole_is = through_anywhere image costs 0 q (map (read_region routines) all) ∙ sym (ap (through image costs) (parts_read routines r parts all q is same))

    pub sequence_room : (V : Numbers) → HasRoom (through image costs (read_region routines r)) V → HasRoom (through image costs (regions_from 0 (map (read_region routines) all))) V
    sequence_room V h = room_same (through image costs (regions_from 0 (map (read_region routines) all))) (through image costs (read_region routines r)) V V whole_is refl h

    part_is : (i : ℕ) (x : Kept) → i < length all → x ≡ get_or all i x → drop i all ≡ x ∷ drop (i + 1) all
    part_is i x h e =
        let k : suc i ≡ i + 1 = omega arith in
        drop-cons all i x h ∙ ap₂ (λ (y : Kept) (n : ℕ). y ∷ drop n all) (sym e) k

    pub part_least : (i : ℕ) (x : Kept) → i < length all → x ≡ get_or all i x → through image costs (read_region routines x) ≤ through image costs (read_region routines r)
    part_least i x h e =
        let l = first_less (read_region routines) all i x (drop (i + 1) all) (through image costs (regions_from 0 (map (read_region routines) (drop (i + 1) all)))) (part_is i x h e) refl in
        let w = whole_is in
        omega (arith, l, w)

    pub parts_least : (i : ℕ) (x : Kept) (total cost : ℕ) → i < length all → x ≡ get_or all i x → cost ≡ through image costs (read_region routines x) →
        total + through image costs (regions_from 0 (map (read_region routines) (drop i all))) ≡ through image costs (regions_from 0 (map (read_region routines) all)) →
        total + cost ≤ through image costs (read_region routines r)
    parts_least i x total cost h e c t =
        let g = ap (λ (l : List Kept). through image costs (regions_from 0 (map (read_region routines) l))) (part_is i x h e) in
        let w = whole_is in
        omega (arith, g, w, c, t)

    pub parts_step : (i : ℕ) (x : Kept) (total cost more : ℕ) → i < length all → x ≡ get_or all i x → cost ≡ through image costs (read_region routines x) → more ≡ total + cost →
        total + through image costs (regions_from 0 (map (read_region routines) (drop i all))) ≡ through image costs (regions_from 0 (map (read_region routines) all)) →
        more + through image costs (regions_from 0 (map (read_region routines) (drop (i + 1) all))) ≡ through image costs (regions_from 0 (map (read_region routines) all))
    parts_step i x total cost more h e c m t =
        let g = ap (λ (l : List Kept). through image costs (regions_from 0 (map (read_region routines) l))) (part_is i x h e) in
        omega (arith, g, c, m, t)

  -- the body of a loop is no more than the loop
  pub counted_least : (p m n at : ℕ) (body : Region) (q : ℕ) → through image costs body ≤ through image costs (Counted p m n at body q)
  counted_least p m n at body q = let one = once m (tested_turn image costs p n at body (through image costs body)) in omega (arith, one)

  pub repeated_least : (p m : ℕ) (body : Region) (q : ℕ) → through image costs body ≤ through image costs (Repeated p m body q)
  repeated_least p m body q = let one = once m (plain_turn image costs body (through image costs body)) in omega (arith, one)

  -- ---- tests and jumps

  pub branch_near : (n : ℕ) (V W : Numbers) → HasRoom n (branched image costs V W) → AllSmall V
  branch_near n V W h view =
      let a = more (cost image costs class.Untaken) (V view) in
      let b = more (cost image costs class.Taken) (W view) in
      small-plain (cost image costs class.Untaken) (V view) (small-left a b (small-plain n (greater a b) (h.before view)))

  pub branch_far : (n : ℕ) (V W : Numbers) → HasRoom n (branched image costs V W) → AllSmall W
  branch_far n V W h view =
      let a = more (cost image costs class.Untaken) (V view) in
      let b = more (cost image costs class.Taken) (W view) in
      small-plain (cost image costs class.Taken) (W view) (small-right a b (small-plain n (greater a b) (h.before view)))

  pub jump_small : (j k : ℕ) (V W : Numbers) → j ≡ k → W ≡ V → AllSmall (jumping image costs k V) → AllSmall (jumping image costs j W)
  jump_small j k V W e f h =
      let P : ℕ → Type 0 = λ x. AllSmall (jumping image costs x W) in
      let Q : Numbers → Type 0 = λ X. AllSmall (jumping image costs k X) in
      subst P (sym e) (subst Q (sym f) h)

  -- ---- units by their places

  charged_rest : (places : List ℕ) (i : ℕ) → charged image costs (drop i places) ≤ charged image costs places
  charged_rest places zero = omega arith
  charged_rest [] (suc i) = omega arith
  charged_rest (p ∷ places) (suc i) = let r = charged_rest places i in omega (arith, r)

  -- the unit before those that are charged
  pub charged_least : (places : List ℕ) (i p word total : ℕ) → drop (i - 1) places ≡ p ∷ drop i places → word ≡ word_cost image costs (unit_word image p) →
      total ≡ charged image costs (drop i places) → extra image costs p + (word + total) ≤ charged image costs places
  charged_least places i p word total e w t =
      let r = charged_rest places (i - 1) in
      let g = ap (charged image costs) e in
      omega (arith, r, g, w, t)

  pub charged_before : (places : List ℕ) (i word total : ℕ) → 1 ≤ i → i ≤ length places → word ≡ word_cost image costs (unit_word image (get_or places (i - 1) 0)) →
      total ≡ charged image costs (drop i places) → extra image costs (get_or places (i - 1) 0) + (word + total) ≤ charged image costs places
  charged_before places i word total some within w t =
      let low : i - 1 < length places = omega (arith, some, within) in
      let k : suc (i - 1) ≡ i = omega (arith, some) in
      charged_least places i (get_or places (i - 1) 0) word total (drop-cons places (i - 1) 0 low ∙ ap (λ (n : ℕ). get_or places (i - 1) 0 ∷ drop n places) k) w t
