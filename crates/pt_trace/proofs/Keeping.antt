-- The front of the table: what a pull adds to it, and what is left where its first bytes are dropped.
use Rattle.std.proofs.Common.{◌≡◌, ◌≤◌, ◌+◌, ◌-◌, ℕ, List, ◌++◌, Option, Some, None, length, take, drop, sym, ap, ◌∙◌, append_assoc, arith}
use Rattle.std.proofs.Math.Seq.{take-append-add}
use Rattle.std.proofs.lemmas.List.{take-append-le, length-take-le, length-drop, take_at, drop-take}
use Rattle.std.specs.Io.KnownBytes.{Consumes, Keeps, prepend_known}
use Rattle.std.specs.List.{copy_within}
use borrow.Rule.Slice.PartMut.{put_mid, post_of}

-- bytes that were put behind the first n
pub take-put : (n k m : ℕ) (xs ys : List ℕ) → n ≤ length xs → m ≤ length ys → take (n + m) (put_mid n k xs ys) ≡ take n xs ++ take m ys
take-put n k m xs ys some fits =
    let len : length (take n xs) ≡ n = length-take-le n xs some in
    ap (λ (i : ℕ). take (i + m) (take n xs ++ (ys ++ post_of n k xs))) (sym len)
    ∙ take-append-add (take n xs) (ys ++ post_of n k xs) m
    ∙ ap (λ (zs : List ℕ). take n xs ++ zs) (take-append-le m ys (post_of n k xs) fits)

-- what was pulled stands behind what was kept, and nothing is lost
pub unread-pulled : (a b : Option (List ℕ)) (old new bs : List ℕ) → Consumes a b bs → new ≡ old ++ bs → Keeps (prepend_known old a) (prepend_known new b)
unread-pulled None b old new bs p e = tt
unread-pulled (Some xs) None old new bs p e = absurd p
unread-pulled (Some xs) (Some ys) old new bs p e =
    ap (λ (zs : List ℕ). zs ++ ys) e ∙ append_assoc old bs ys ∙ ap (λ (zs : List ℕ). old ++ zs) (sym p)

-- the rest moves to the front
pub take-copied : (xs : List ℕ) (i j : ℕ) → i ≤ j → j ≤ length xs → take (j - i) (copy_within xs i j 0) ≡ drop i (take j xs)
take-copied xs i j le fits =
    let e : i + (j - i) ≡ j = omega arith in
    let len : length (take (j - i) (drop i xs)) ≡ j - i = length-take-le (j - i) (drop i xs) (omega (arith, length-drop i xs)) in
    take_at (take (j - i) (drop i xs)) (drop (0 + (j - i)) xs) (j - i) len
    ∙ sym (drop-take i (j - i) xs)
    ∙ ap (λ (n : ℕ). drop i (take n xs)) e
