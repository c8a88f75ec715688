-- What a scan from the front finds.
use Rattle.std.proofs.Common.{◌≡◌, ◌<◌, ◌+◌, ℕ, suc, List, [], ◌∷◌, Option, Some, None, Bool, true, false, cond, length, drop, get_or, ap, sym, refl, ◌∙◌, ◌++◌, add-one, drop-cons}
use Rattle.std.specs.Ordering.{nat_cmp, is_eq}
use Rattle.std.specs.Cmp.Lexicographic.{slice_cmp, nat_list_cmp_total}
use Rattle.std.specs.FinMap.{find, get, from_entries, get-from_entries}
use Rattle.std.specs.Option.{option_or}
use Rattle.pt_outside.specs.Files.{File}
use Rattle.std.specs.Str.{bytes_eq}
use Rattle.std.proofs.lemmas.Map.Text.{is_eq-slice_cmp}
use Rattle.std.proofs.lemmas.Slice.Eq.{bytes_eq-Decides}
use Rattle.std.proofs.lemmas.Bool.{false_from_ne_true}

-- the test of a scan is that of the map's order, whichever way round
turned : (k q : List ℕ) (b : Bool) → b ≡ bytes_eq k q → is_eq (slice_cmp nat_cmp q k) ≡ b
turned k q true e = is_eq-slice_cmp q k ∙ (bytes_eq-Decides q k).1 (sym ((bytes_eq-Decides k q).0 (sym e)))
turned k q false e = is_eq-slice_cmp q k ∙ false_from_ne_true _ (λ t. cc (e, (bytes_eq-Decides k q).1 (sym ((bytes_eq-Decides q k).0 t))))

-- one step of the scan
pub find-step : (q : List ℕ) (files : List File) (i : ℕ) (x : File) (b : Bool) → i < length files → x ≡ get_or files i x → b ≡ bytes_eq x.0 q →
    find (slice_cmp nat_cmp) q (drop i files) ≡ cond b (Some x.1) (find (slice_cmp nat_cmp) q (drop (i + 1) files))
find-step q files i x b lt is e =
    ap (find (slice_cmp nat_cmp) q) (drop-cons files i x lt ∙ ap (λ (y : File). y ∷ drop (suc i) files) (sym is))
    ∙ ap (λ (t : Bool). cond t (Some x.1) (find (slice_cmp nat_cmp) q (drop (suc i) files))) (turned x.0 q b e)
    ∙ ap (λ (n : ℕ). cond b (Some x.1) (find (slice_cmp nat_cmp) q (drop n files))) (sym (add-one i))

pick : (b : Bool) (x : List ℕ) (o p : Option (List ℕ)) → cond b (Some x) (option_or o p) ≡ option_or (cond b (Some x) o) p
pick true x o p = refl
pick false x o p = refl

-- a scan of two lists, the first before the other
find-joined : (q : List ℕ) (xs ys : List File) → find (slice_cmp nat_cmp) q (xs ++ ys) ≡ option_or (find (slice_cmp nat_cmp) q xs) (find (slice_cmp nat_cmp) q ys)
find-joined q [] ys = refl
find-joined q (x ∷ xs) ys =
    ap (λ (o : Option (List ℕ)). cond (is_eq (slice_cmp nat_cmp q x.0)) (Some x.1) o) (find-joined q xs ys)
    ∙ pick (is_eq (slice_cmp nat_cmp q x.0)) x.1 (find (slice_cmp nat_cmp) q xs) (find (slice_cmp nat_cmp) q ys)

-- what the map of both lists has under a name
get-joined : (q : List ℕ) (xs ys : List File) → get {R = slice_cmp nat_cmp} (from_entries (xs ++ ys)) q ≡ option_or (find (slice_cmp nat_cmp) q xs) (find (slice_cmp nat_cmp) q ys)
get-joined q xs ys = get-from_entries nat_list_cmp_total (xs ++ ys) q ∙ find-joined q xs ys

-- it is what the first list has
pub get-first : (q : List ℕ) (xs ys : List File) (text : List ℕ) → Some text ≡ find (slice_cmp nat_cmp) q xs → Some text ≡ get {R = slice_cmp nat_cmp} (from_entries (xs ++ ys)) q
get-first q xs ys text e = ap (λ (o : Option (List ℕ)). option_or o (find (slice_cmp nat_cmp) q ys)) e ∙ sym (get-joined q xs ys)

-- and where that has nothing, what the second has
pub get-second : (q : List ℕ) (xs ys : List File) → None ≡ find (slice_cmp nat_cmp) q xs → find (slice_cmp nat_cmp) q ys ≡ get {R = slice_cmp nat_cmp} (from_entries (xs ++ ys)) q
get-second q xs ys e = ap (λ (o : Option (List ℕ)). option_or o (find (slice_cmp nat_cmp) q ys)) e ∙ sym (get-joined q xs ys)
