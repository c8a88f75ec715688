-- The numbers of a line, level by level.
use Rattle.std.proofs.Common.{◌≡◌, ℕ, List, [], ◌∷◌, ◌++◌, flat_map, length, refl, sym, ap, ◌∙◌}
use Rattle.std.proofs.lemmas.List.{append_assoc}
use Rattle.std.specs.Prelude.{Option}
use Rattle.std.specs.List.{range_with_len}
use Rattle.pt_image.specs.declared.Parts.{Parts}
use Rattle.tk_cert.specs.declared.cert.Line.{Line}
use Rattle.tk_cert.specs.declared.cert.Line.TheVariants.{Thread, Routine, Cond}
use Rattle.tk_cert.specs.declared.cert.CertParts.{CertParts}
use Rattle.tk_cert.specs.Demands.{Demand}
use Rattle.tk_paths.specs.declared.view.View.{View}
use Rattle.tk_paths.specs.declared.view.View.TheVariants.{On, Value}
use Rattle.tk_paths.specs.declared.view.Side.TheVariants.{ToPause, ToEnd}
use Rattle.tk_paths.specs.Kinds.{word_at}
use Rattle.tk_paths.specs.Acceptance.{word_edges, line_edges}
use Rattle.tk_shape.specs.Refused.{refused}
use Rattle.tk_judge.specs.Asks.{level_edges}

two : (g : View → List Demand) (ks : List ℕ) → flat_map g (flat_map (λ k. On ToPause k ∷ On ToEnd k ∷ []) ks) ≡ flat_map (λ k. g (On ToPause k) ++ g (On ToEnd k)) ks
two g [] = refl
two g (k ∷ ks) =
    ap (λ rest. g (On ToPause k) ++ (g (On ToEnd k) ++ rest)) (two g ks)
    ∙ sym (append_assoc (g (On ToPause k)) (g (On ToEnd k)) (flat_map (λ i. g (On ToPause i) ++ g (On ToEnd i)) ks))

nil : (xs : List Demand) → xs ++ [] ≡ xs
nil [] = refl
nil (x ∷ xs) = ap (λ l. x ∷ l) (nil xs)

pub threads : (image : Parts) (cert : CertParts) (costs : List ℕ) (place slot : ℕ) (stack loops : List ℕ) (numbers : List (Option ℕ × Option ℕ)) →
    refused (line_edges image cert costs place (Thread slot stack loops numbers)) ≡
    refused (flat_map (level_edges image cert costs place (Thread slot stack loops numbers) (word_at image cert.lines place)) (range_with_len 0 (length numbers)))
threads image cert costs place slot stack loops numbers =
    ap refused (two (λ view. word_edges image cert costs place (Thread slot stack loops numbers) view (word_at image cert.lines place)) (range_with_len 0 (length numbers)))

pub routines : (image : Parts) (cert : CertParts) (costs : List ℕ) (place height : ℕ) (loops : List ℕ) (value : ℕ) →
    refused (line_edges image cert costs place (Routine height loops value)) ≡ refused (word_edges image cert costs place (Routine height loops value) Value (word_at image cert.lines place))
routines image cert costs place height loops value = ap refused (nil (word_edges image cert costs place (Routine height loops value) Value (word_at image cert.lines place)))

pub conds : (image : Parts) (cert : CertParts) (costs : List ℕ) (place value : ℕ) →
    refused (line_edges image cert costs place (Cond value)) ≡ refused (word_edges image cert costs place (Cond value) Value (word_at image cert.lines place))
conds image cert costs place value = ap refused (nil (word_edges image cert costs place (Cond value) Value (word_at image cert.lines place)))
