-- What reading a text gives is right: the lists whose text it is, or the first group of lines at fault.
use Rattle.std.proofs.Common.{◌≡◌, ℕ, ◌≤◌, ltb, List, [], ◌∷◌, ◌++◌, length, take, Option, Some, None, Result, refl, sym, ap, ◌∙◌, arith, lit≤}
use Rattle.std.proofs.lemmas.Bool.{le-ltb, ltb-false}
use Rattle.pt_base.specs.Spelling.{joined}
use Rattle.pt_base.specs.Reading.{past_all_at}
use Rattle.pt_base.specs.Steps.{◌>>=◌, numbered}
use Rattle.pt_base.specs.Forms.{Begins, IsFault}
use Rattle.pt_base.proofs.Laws.{some_is, test_none, past_all_found, past_all_again}
use Rattle.pt_base.proofs.FormLaws.{Known, Outcome, begins, advance}
use Rattle.tk_cert.specs.declared.cert.CertParts.{CertParts}
use Rattle.tk_cert.specs.Text.{heading, groups}
use Rattle.tk_cert.specs.Reading.{bound_at, places_at, loops_at, slots_at, walk_at}
use Rattle.tk_cert.specs.Whole.{most_bytes, heading_at, ended_at, parts_at}
use Rattle.tk_cert.specs.Form.{Ranges, cert_form}
use Rattle.tk_cert.proofs.CertGroups.{no_walk, upto, lower, bound_group, lines_group, weights_group, slots_group, walk_group}

abbrev Right : List ℕ → Result CertParts ℕ → Type 0
Right text r = Outcome cert_form upto 6 text r

abbrev Read : ℕ → List ℕ → CertParts → List ℕ → Type 0
Read number text p rest = Known cert_form upto number text p rest

at_end : (text : List ℕ) (p : CertParts) (rest : List ℕ) → Read 6 text p rest → Right text (ended_at p rest)
unfolding groups
at_end text p [] k = k
at_end text p (b ∷ bs) k = record {
  low = lit≤ tt;
  high = lit≤ tt;
  before = begins cert_form upto 6 text p (b ∷ bs) k (λ late. absurd (omega arith));
  here = λ (s : Begins cert_form 7 text). let o = k.only s.value s.rest (lower 6 7 s.value (lit≤ tt) s.ranges) s.spelled in let clash = sym (s.ended (lit≤ tt)) ∙ o.1 in absurd cc;
}

-- the walk, and what follows
abbrev from_walk : CertParts → List ℕ → Result CertParts ℕ
from_walk p bytes = numbered 6 (walk_at bytes) >>= λ x. ended_at (record p { walk = x.0 }) x.1

at_walk : (text : List ℕ) (p : CertParts) (rest : List ℕ) → Read 5 text p rest → Right text (from_walk p rest)
at_walk text p rest k = advance cert_form upto 6 5 6 walk_group text p rest k (lit≤ tt) (lit≤ tt) refl (λ x. ended_at (record p { walk = x.0 }) x.1) (λ x after known. at_end text (record p { walk = x }) after known)

-- the slots, and what follows
abbrev from_slots : CertParts → List ℕ → Result CertParts ℕ
from_slots p bytes = numbered 5 (slots_at bytes) >>= λ x. from_walk (record p { slot_bounds = x.0 }) x.1

at_slots : (text : List ℕ) (p : CertParts) (rest : List ℕ) → Read 4 text p rest → Right text (from_slots p rest)
at_slots text p rest k = advance cert_form upto 6 4 5 slots_group text p rest k (lit≤ tt) (lit≤ tt) refl (λ x. from_walk (record p { slot_bounds = x.0 }) x.1) (λ x after known. at_walk text (record p { slot_bounds = x }) after known)

-- the weights, and what follows
abbrev from_weights : CertParts → List ℕ → Result CertParts ℕ
from_weights p bytes = numbered 4 (loops_at bytes) >>= λ x. from_slots (record p { weights = x.0 }) x.1

at_weights : (text : List ℕ) (p : CertParts) (rest : List ℕ) → Read 3 text p rest → Right text (from_weights p rest)
at_weights text p rest k = advance cert_form upto 6 3 4 weights_group text p rest k (lit≤ tt) (lit≤ tt) refl (λ x. from_slots (record p { weights = x.0 }) x.1) (λ x after known. at_slots text (record p { weights = x }) after known)

-- the lines, and what follows
abbrev from_lines : CertParts → List ℕ → Result CertParts ℕ
from_lines p bytes = numbered 3 (places_at bytes) >>= λ x. from_weights (record p { lines = x.0 }) x.1

at_lines : (text : List ℕ) (p : CertParts) (rest : List ℕ) → Read 2 text p rest → Right text (from_lines p rest)
at_lines text p rest k = advance cert_form upto 6 2 3 lines_group text p rest k (lit≤ tt) (lit≤ tt) refl (λ x. from_weights (record p { lines = x.0 }) x.1) (λ x after known. at_weights text (record p { lines = x }) after known)

-- the bound, and what follows
abbrev from_bound : CertParts → List ℕ → Result CertParts ℕ
from_bound p bytes = numbered 2 (bound_at bytes) >>= λ x. from_lines (record p { bound = x.0 }) x.1

at_bound : (text : List ℕ) (p : CertParts) (rest : List ℕ) → Read 1 text p rest → Right text (from_bound p rest)
at_bound text p rest k = advance cert_form upto 6 1 2 bound_group text p rest k (lit≤ tt) (lit≤ tt) refl (λ x. from_lines (record p { bound = x.0 }) x.1) (λ x after known. at_lines text (record p { bound = x }) after known)

-- no lists
abbrev nothing : CertParts
nothing = record { bound = 0; lines = []; weights = []; slot_bounds = []; walk = no_walk }

no_ranges : (number : ℕ) → number ≤ 1 → (p : CertParts) → Ranges number p
no_ranges number few p = record {
  bound = λ late. absurd (omega arith);
  lines = λ late. absurd (omega arith);
  weights = λ late. absurd (omega arith);
  slots = λ late. absurd (omega arith);
  walk = λ late. absurd (omega arith);
}

-- the text begins with the heading
headed : (text rest : List ℕ) → length text ≤ most_bytes → text ≡ heading ++ rest → heading_at text ≡ Some rest
unfolding heading_at
headed text rest short e = rw (le-ltb most_bytes (length text) short) (ap (past_all_at heading) e ∙ past_all_again heading rest)

first_only : (q : CertParts) (more : List ℕ) → joined (take 1 (groups q)) ++ more ≡ heading ++ more
unfolding groups
first_only q more = refl

heading_known : (text rest : List ℕ) → heading_at text ≡ Some rest → Read 1 text nothing rest
unfolding heading_at
heading_known text rest e =
    let t = test_none (ltb most_bytes (length text)) (past_all_at heading text) rest e in
    let spelled : text ≡ heading ++ rest = past_all_found heading text rest t.1 in
    record {
      ranges = no_ranges 1 (lit≤ tt) nothing;
      spelled = spelled ∙ sym (first_only nothing rest);
      short = ltb-false most_bytes (length text) t.0;
      only = λ q more ranges other.
          let again = past_all_again heading more in
          let same : past_all_at heading text ≡ Some more = ap (past_all_at heading) (other ∙ first_only q more) ∙ again in
          (refl, some_is more rest (sym same ∙ t.1));
    }

heading_fault : (text : List ℕ) → heading_at text ≡ None → IsFault cert_form 1 text
heading_fault text e = record {
  low = lit≤ tt;
  high = lit≤ tt;
  before = record { value = nothing; rest = text; ranges = no_ranges 0 (lit≤ tt) nothing; spelled = refl; short = λ some. absurd (omega arith); ended = λ late. absurd (omega arith) };
  here = λ (s : Begins cert_form 1 text). let h = headed text s.rest (s.short (lit≤ tt)) (s.spelled ∙ first_only s.value s.rest) in let clash = sym h ∙ e in absurd cc;
}

at_start : (text : List ℕ) (o : Option (List ℕ)) → heading_at text ≡ o → Right text (numbered 1 o >>= λ rest. from_bound nothing rest)
at_start text None e = heading_fault text e
at_start text (Some rest) e = at_bound text nothing rest (heading_known text rest e)

pub outcome : (text : List ℕ) → Right text (parts_at text)
unfolding parts_at
outcome text = at_start text (heading_at text) refl
