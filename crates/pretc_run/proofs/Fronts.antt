-- Bytes that were written one after another.
use Rattle.std.proofs.Common.{ℕ, List, [], ◌++◌, Option, Some, None, refl, sym, ap, ◌∙◌, append_assoc, append-nil}
use Rattle.std.specs.Io.KnownBytes.{Appends, Keeps}

pub appends_none : (known : Option (List ℕ)) → Appends known known []
appends_none None = tt
appends_none (Some xs) = sym (append-nil xs)

pub appends_keeps : (old mid new : Option (List ℕ)) (text : List ℕ) → Appends old mid text → Keeps mid new → Appends old new text
appends_keeps None mid new text a k = tt
appends_keeps (Some xs) None new text a k = absurd a
appends_keeps (Some xs) (Some ys) None text a k = absurd k
appends_keeps (Some xs) (Some ys) (Some zs) text a k = k ∙ a

pub appends_both : (old mid new : Option (List ℕ)) (a b : List ℕ) → Appends old mid a → Appends mid new b → Appends old new (a ++ b)
appends_both None mid new a b f g = tt
appends_both (Some xs) None new a b f g = absurd f
appends_both (Some xs) (Some ys) None a b f g = absurd g
appends_both (Some xs) (Some ys) (Some zs) a b f g = g ∙ ap (λ l. l ++ b) f ∙ rw append_assoc refl
