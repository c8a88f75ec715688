-- Reading values one after another, as a loop does.
use Rattle.std.proofs.Common.{◌≡◌, ℕ, suc, ◌-◌, ◌+◌, ◌<◌, List, [], ◌∷◌, ◌++◌, Option, Some, None, Result, Err, refl, sym, ap, ◌∙◌, append_assoc, arith}
use Rattle.std.specs.Option.{option_map, ok_or}
use Rattle.pt_base.specs.declared.fault.Unread.{Unread}
use Rattle.pt_base.specs.declared.fault.Unread.TheVariants.{Form, Memory}
use Rattle.pt_base.specs.Reading.{◌>>=◌, Fails, Reader, many_at}

-- what was read before, and what is still read
abbrev pub with_front : {A : Type 0} → List A → Option (List A × List ℕ) → Option (List A × List ℕ)
with_front front read = read >>= λ x. Some (front ++ x.0, x.1)

regroup : {A : Type 0} (front : List A) (a : A) (read : Option (List A × List ℕ)) → with_front front (read >>= λ x. Some (a ∷ x.0, x.1)) ≡ with_front (front ++ a ∷ []) read
regroup {A} front a (Some x) = ap (λ (xs : List A). Some (xs, x.1)) (simp append_assoc)
regroup front a None = refl

pub goes_on : {A : Type 0} (read : Reader A) (front : List A) (count i : ℕ) (bytes : List ℕ) (a : A) (after : List ℕ) (total : Option (List A × List ℕ)) → i < count → read bytes ≡ Some (a, after)
    → with_front front (many_at read (count - i) bytes) ≡ total → with_front (front ++ a ∷ []) (many_at read (count - (i + 1)) after) ≡ total
goes_on read front count i bytes a after total lt h so_far =
    let k : count - i ≡ suc (count - (i + 1)) = omega arith in
    let one : with_front front (many_at read (count - i) bytes) ≡ with_front (front ++ a ∷ []) (many_at read (count - (i + 1)) after) = rw (k, h) (regroup front a (many_at read (count - (i + 1)) after)) in
    sym one ∙ so_far

pub ends : {A : Type 0} (read : Reader A) (front : List A) (count i : ℕ) (bytes : List ℕ) (total : Option (List A × List ℕ)) → i < count → read bytes ≡ None
    → with_front front (many_at read (count - i) bytes) ≡ total → total ≡ None
ends {A} read front count i bytes total lt h so_far =
    let k : count - i ≡ suc (count - (i + 1)) = omega arith in
    let one : with_front front (many_at read (count - i) bytes) ≡ None = rw (k, h) refl in
    sym so_far ∙ one

-- a reader that gave nothing is a fault of form
abbrev pub refused : {X : Type 0} → Unread → Result X Unread
refused d = Err d

pub form_of : {X : Type 0} (o : Option X) (d : Unread) → refused {X = X} d ≡ ok_or o Form → o ≡ None → d ≡ Form
form_of o d e n = let h = rw n at e in cc

-- what a function gave is what reading gives
pub seen_of : {X Y : Type 0} (view : X → Y) (o p : Option X) (read : Option Y) → option_map view o ≡ read → o ≡ p → read ≡ option_map view p
seen_of view o p read e h = sym e ∙ ap (option_map view) h

-- a loop that ends where a value can't be read ends as that does
pub ends_as : {A : Type 0} (read : Reader A) (front : List A) (count i : ℕ) (bytes : List ℕ) (e : Unread) (total : Option (List A × List ℕ)) → i < count → Fails e (read bytes)
    → with_front front (many_at read (count - i) bytes) ≡ total → Fails e total
ends_as read front count i bytes Form total lt h so_far = ends read front count i bytes total lt h so_far
ends_as read front count i bytes Memory total lt h so_far = tt
