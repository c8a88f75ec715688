-- What is put in front, piece by piece, is what a region's lines and weights are.
use Rattle.std.proofs.Common.{◌≡◌, ℕ, suc, ◌+◌, ◌*◌, ◌++◌, List, [], ◌∷◌, ◌-◌, ◌<◌, ◌≤◌, length, drop, get_or, refl, ap, sym, ◌∙◌, append_assoc, drop-cons, arith}
use Rattle.mb_isa.specs.declared.Class.TheVariants as class
use Rattle.pt_image.specs.declared.Parts.{Parts}
use Rattle.tk_cert.specs.declared.cert.Line.{Line}
use Rattle.tk_paths.specs.Regions.{Region, Choice, Counted, Repeated, to, behind, word_place, through, tested_turn, plain_turn}
use Rattle.tk_paths.specs.Numbers.{Kind, Numbers, after, passing, jumping, branched, at_next, inside, line, unit_lines, test_lines, jump_lines, region_lines, region_weights, cost}
use Rattle.tk_paths.specs.Trees.{regions_from}

-- lists that are put in front of one another
pub four : {A : Type 0} → (a b c d old : List A) → a ++ (b ++ (c ++ (d ++ old))) ≡ a ++ b ++ c ++ d ++ old
four a b c d old = sym (append_assoc (a ++ b ++ c) d old ∙ append_assoc (a ++ b) c (d ++ old) ∙ append_assoc a b (c ++ (d ++ old)))

pub three : {A : Type 0} → (a b c old : List A) → a ++ (b ++ (c ++ old)) ≡ a ++ b ++ c ++ old
three a b c old = sym (append_assoc (a ++ b) c old ∙ append_assoc a b (c ++ old))

-- an element before a place, and what is from the place on
pub front_before : {A : Type 0} (all : List A) (i : ℕ) (x : A) → 0 < i → i ≤ length all → x ≡ get_or all (i - 1) x → drop (i - 1) all ≡ x ∷ drop i all
front_before {A} all i x h within is =
    let low : i - 1 < length all = omega arith in
    let e : suc (i - 1) ≡ i = omega arith in
    drop-cons all (i - 1) x low ∙ ap (λ (y : A). y ∷ drop (suc (i - 1)) all) (sym is) ∙ ap (λ (j : ℕ). x ∷ drop j all) e

module _ (image : Parts) (costs : List ℕ) where
  -- the place at the end of a sequence is of no matter within it
  pub through_anywhere : (p q : ℕ) (rs : List Region) → through image costs (regions_from p rs) ≡ through image costs (regions_from q rs)
  through_anywhere p q [] = refl
  through_anywhere p q (r ∷ rs) = ap (λ n. through image costs r + n) (through_anywhere p q rs)

  pub weights_anywhere : (p q : ℕ) (rs : List Region) → region_weights image costs (regions_from p rs) ≡ region_weights image costs (regions_from q rs)
  weights_anywhere p q [] = refl
  weights_anywhere p q (r ∷ rs) = ap (λ ws. region_weights image costs r ++ ws) (weights_anywhere p q rs)

  pub lines_anywhere : (kind : Kind) (V : Numbers) (p q : ℕ) (rs : List Region) →
      region_lines image costs kind (regions_from p rs) V ≡ region_lines image costs kind (regions_from q rs) V
  lines_anywhere kind V p q [] = refl
  lines_anywhere kind V p q (r ∷ rs) =
      ap (λ n. region_lines image costs kind r (after n V) ++ region_lines image costs kind (regions_from p rs) V) (through_anywhere p q rs)
      ∙ ap (λ ls. region_lines image costs kind r (passing image costs (regions_from q rs) V) ++ ls) (lines_anywhere kind V p q rs)

  module _ (kind : Kind) (V : Numbers) (old : List Line) where
    -- one part more of a sequence, the rest of which costs so much
    pub sequence_lines : (x : Region) (rest : List Region) (n : ℕ) (l1 l2 : List Line) →
        n ≡ through image costs (regions_from 0 rest) →
        l1 ≡ region_lines image costs kind (regions_from 0 rest) V ++ old →
        l2 ≡ region_lines image costs kind x (after n V) ++ l1 →
        l2 ≡ region_lines image costs kind (regions_from 0 (x ∷ rest)) V ++ old
    sequence_lines x rest n l1 l2 e e1 e2 =
        e2 ∙ ap (λ l. region_lines image costs kind x (after n V) ++ l) e1
        ∙ ap (λ n. region_lines image costs kind x (after n V) ++ (region_lines image costs kind (regions_from 0 rest) V ++ old)) e
        ∙ sym (append_assoc (region_lines image costs kind x (passing image costs (regions_from 0 rest) V)) (region_lines image costs kind (regions_from 0 rest) V) old)

    -- the sides cost tx and ty, the first ends at place j, and B are the numbers there
    pub choice_lines : (p n at : ℕ) (x y : Region) (tx ty j : ℕ) (B : Numbers) (l1 l2 l3 l4 : List Line) →
        tx ≡ through image costs x → ty ≡ through image costs y → j ≡ to x → B ≡ jumping image costs j V →
        l1 ≡ region_lines image costs kind y V ++ old →
        l2 ≡ jump_lines image costs kind j V ++ l1 →
        l3 ≡ region_lines image costs kind x B ++ l2 →
        l4 ≡ test_lines image costs kind p n at (branched image costs (after tx B) (after ty V)) ++ l3 →
        l4 ≡ region_lines image costs kind (Choice p n at x y) V ++ old
    choice_lines p n at x y tx ty j B l1 l2 l3 l4 ex ey ej eB e1 e2 e3 e4 =
        let T : ℕ → ℕ → Numbers → List Line = λ tx ty B. test_lines image costs kind p n at (branched image costs (after tx B) (after ty V)) in
        let X : Numbers → List Line = λ B. region_lines image costs kind x B in
        let J : ℕ → List Line = λ j. jump_lines image costs kind j V in
        let Y : List Line = region_lines image costs kind y V in
        e4 ∙ ap (λ l. T tx ty B ++ l) (e3 ∙ ap (λ l. X B ++ l) (e2 ∙ ap (λ l. J j ++ l) e1)) ∙ four (T tx ty B) (X B) (J j) Y old
        ∙ ap (λ B. T tx ty B ++ X B ++ J j ++ Y ++ old) eB
        ∙ ap (λ j. T tx ty (jumping image costs j V) ++ X (jumping image costs j V) ++ J j ++ Y ++ old) ej
        ∙ ap (λ t. T t ty (jumping image costs (to x) V) ++ X (jumping image costs (to x) V) ++ J (to x) ++ Y ++ old) ex
        ∙ ap (λ t. T (through image costs x) t (jumping image costs (to x) V) ++ X (jumping image costs (to x) V) ++ J (to x) ++ Y ++ old) ey

    -- the body costs t and ends at place j; N are the numbers at the `next`, B those at the body's end, D those of the `drop`
    pub counted_lines : (p m n at : ℕ) (body : Region) (q : ℕ) (inner : Kind) (t j : ℕ) (N B D : Numbers) (l1 l2 l3 l4 : List Line) →
        inner ≡ inside (word_place image p) kind → t ≡ through image costs body → j ≡ to body →
        N ≡ at_next image costs p n at body V → B ≡ jumping image costs j N → D ≡ after (cost image costs class.Drop) V →
        l1 ≡ line inner (after (cost image costs class.Drop) V) ∷ old →
        l2 ≡ jump_lines image costs inner j N ++ l1 →
        l3 ≡ region_lines image costs inner body B ++ l2 →
        l4 ≡ unit_lines image costs kind p (after (cost image costs class.Loop + suc m * tested_turn image costs p n at body t) N)
        ++ line inner N ∷ test_lines image costs inner (behind image p + 1) n at (branched image costs (after t B) D) ++ l3 →
        l4 ≡ region_lines image costs kind (Counted p m n at body q) V ++ old
    counted_lines p m n at body q inner t j N B D l1 l2 l3 l4 ei et ej eN eB eD e1 e2 e3 e4 =
        let O : Numbers = after (cost image costs class.Drop) V in
        let U : Kind → ℕ → Numbers → Numbers → Numbers → List Line = λ inner t N B D.
        unit_lines image costs kind p (after (cost image costs class.Loop + suc m * tested_turn image costs p n at body t) N)
        ++ line inner N ∷ test_lines image costs inner (behind image p + 1) n at (branched image costs (after t B) D) in
        let X : Kind → Numbers → List Line = λ inner B. region_lines image costs inner body B in
        let J : Kind → ℕ → Numbers → List Line = λ inner j N. jump_lines image costs inner j N in
        let Z : Kind → List Line = λ inner. line inner O ∷ [] in
        let G : Kind → ℕ → ℕ → Numbers → Numbers → Numbers → List Line = λ inner t j N B D. U inner t N B D ++ X inner B ++ J inner j N ++ Z inner ++ old in
        e4 ∙ ap (λ l. U inner t N B D ++ l) (e3 ∙ ap (λ l. X inner B ++ l) (e2 ∙ ap (λ l. J inner j N ++ l) e1))
        ∙ four (U inner t N B D) (X inner B) (J inner j N) (Z inner) old
        ∙ ap (λ D. G inner t j N B D) eD ∙ ap (λ B. G inner t j N B O) eB ∙ ap (λ N. G inner t j N (jumping image costs j N) O) eN
        ∙ ap (λ j. G inner t j (at_next image costs p n at body V) (jumping image costs j (at_next image costs p n at body V)) O) ej
        ∙ ap (λ t. G inner t (to body) (at_next image costs p n at body V) (jumping image costs (to body) (at_next image costs p n at body V)) O) et
        ∙ ap (λ k. G k (through image costs body) (to body) (at_next image costs p n at body V) (jumping image costs (to body) (at_next image costs p n at body V)) O) ei

    pub repeated_lines : (p m : ℕ) (body : Region) (q : ℕ) (inner : Kind) (t j : ℕ) (N B : Numbers) (l1 l2 l3 : List Line) →
        inner ≡ inside (word_place image p) kind → t ≡ through image costs body → j ≡ to body →
        N ≡ after (cost image costs class.Next) V → B ≡ jumping image costs j N →
        l1 ≡ jump_lines image costs inner j N ++ old →
        l2 ≡ region_lines image costs inner body B ++ l1 →
        l3 ≡ unit_lines image costs kind p (after (cost image costs class.Loop + suc m * plain_turn image costs body t) N) ++ line inner N ∷ l2 →
        l3 ≡ region_lines image costs kind (Repeated p m body q) V ++ old
    repeated_lines p m body q inner t j N B l1 l2 l3 ei et ej eN eB e1 e2 e3 =
        let M : Numbers = after (cost image costs class.Next) V in
        let U : ℕ → Numbers → List Line = λ t N. unit_lines image costs kind p (after (cost image costs class.Loop + suc m * plain_turn image costs body t) N) in
        let X : Kind → Numbers → Numbers → List Line = λ inner N B. line inner N ∷ region_lines image costs inner body B in
        let J : Kind → ℕ → Numbers → List Line = λ inner j N. jump_lines image costs inner j N in
        let G : Kind → ℕ → ℕ → Numbers → Numbers → List Line = λ inner t j N B. U t N ++ X inner N B ++ J inner j N ++ old in
        e3 ∙ ap (λ l. U t N ++ line inner N ∷ l) (e2 ∙ ap (λ l. region_lines image costs inner body B ++ l) e1)
        ∙ three (U t N) (X inner N B) (J inner j N) old
        ∙ ap (λ B. G inner t j N B) eB ∙ ap (λ N. G inner t j N (jumping image costs j N)) eN
        ∙ ap (λ j. G inner t j M (jumping image costs j M)) ej
        ∙ ap (λ t. G inner t (to body) M (jumping image costs (to body) M)) et
        ∙ ap (λ k. G k (through image costs body) (to body) M (jumping image costs (to body) M)) ei
