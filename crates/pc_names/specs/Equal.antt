-- Names are equal where their texts are.
use Rattle.std.proofs.Common.{◌≡◌, true, ap}
use Rattle.std.specs.Cmp.{IsEquivalence}
use Rattle.std.specs.Cmp.Lexicographic.{bytes_decides, nat_list_eq_equiv}
use Rattle.std.specs.Hash as fed
use Rattle.pc_grammar.specs.declared.expressions.Word.{Word}
use Rattle.pc_grammar.specs.Places.{same_text}

pub same_text_equiv : IsEquivalence same_text
same_text_equiv = record {
  refl = λ x. nat_list_eq_equiv.refl x.text;
  symm = λ x y. nat_list_eq_equiv.symm x.text y.text;
  congr = λ x y z. nat_list_eq_equiv.congr x.text y.text z.text;
}

-- equal names feed a hasher alike
pub same_input : (x y : Word) → same_text x y ≡ true → fed.slice fed.u8 x.text ≡ fed.slice fed.u8 y.text
same_input x y e = ap (λ t. fed.slice fed.u8 t) ((bytes_decides x.text y.text).0 e)
