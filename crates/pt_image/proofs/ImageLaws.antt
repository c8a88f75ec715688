-- What reading a text gives is right: the lists whose text it is, or the first group of lines at fault.
use Rattle.std.proofs.Common.{◌≡◌, ℕ, ◌≤◌, ltb, List, [], ◌∷◌, ◌++◌, length, take, Option, Some, None, Result, refl, sym, ap, ◌∙◌, arith, lit≤, codes}
use Rattle.std.proofs.lemmas.Bool.{le-ltb, ltb-false}
use Rattle.pt_base.specs.Spelling.{joined}
use Rattle.pt_base.specs.Reading.{past_all_at}
use Rattle.pt_base.specs.Steps.{◌>>=◌, numbered}
use Rattle.pt_base.specs.Forms.{Begins, IsFault}
use Rattle.pt_base.proofs.Laws.{some_is, test_none, past_all_found, past_all_again}
use Rattle.pt_base.proofs.FormLaws.{Known, Outcome, begins, advance}
use Rattle.pt_image.specs.declared.image.Parts.{Parts}
use Rattle.pt_image.specs.Text.{heading, groups}
use Rattle.pt_image.specs.Reading.{code_at, signals_at, slots_at, aborts_at, points_at}
use Rattle.pt_image.specs.Whole.{most_bytes, heading_at, memory_at, ended_at, parts_at}
use Rattle.pt_image.specs.Form.{Ranges, image_form}
use Rattle.pt_image.proofs.ImageGroups.{upto, lower, code_group, memory_group, inputs_group, outputs_group, slots_group, aborts_group, pauses_group, forks_group}

abbrev Right : List ℕ → Result Parts ℕ → Type 0
Right text r = Outcome image_form upto 9 text r

abbrev Read : ℕ → List ℕ → Parts → List ℕ → Type 0
Read number text p rest = Known image_form upto number text p rest

at_end : (text : List ℕ) (p : Parts) (rest : List ℕ) → Read 9 text p rest → Right text (ended_at p rest)
unfolding groups
at_end text p [] k = k
at_end text p (b ∷ bs) k = record {
  low = lit≤ tt;
  high = lit≤ tt;
  before = begins image_form upto 9 text p (b ∷ bs) k (λ late. absurd (omega arith));
  here = λ (s : Begins image_form 10 text). let o = k.only s.value s.rest (lower 9 10 s.value (lit≤ tt) s.ranges) s.spelled in let clash = sym (s.ended (lit≤ tt)) ∙ o.1 in absurd cc;
}

-- the forks, and what follows
abbrev from_forks : Parts → List ℕ → Result Parts ℕ
from_forks p bytes = numbered 9 (points_at (codes "forks ") (length p.code) (length p.slots) (length p.aborts) bytes) >>= λ x. ended_at (record p { forks = x.0 }) x.1

at_forks : (text : List ℕ) (p : Parts) (rest : List ℕ) → Read 8 text p rest → Right text (from_forks p rest)
at_forks text p rest k = advance image_form upto 9 8 9 forks_group text p rest k (lit≤ tt) (lit≤ tt) refl (λ x. ended_at (record p { forks = x.0 }) x.1) (λ x after known. at_end text (record p { forks = x }) after known)

-- the pauses, and what follows
abbrev from_pauses : Parts → List ℕ → Result Parts ℕ
from_pauses p bytes = numbered 8 (points_at (codes "pauses ") (length p.code) (length p.slots) (length p.aborts) bytes) >>= λ x. from_forks (record p { pauses = x.0 }) x.1

at_pauses : (text : List ℕ) (p : Parts) (rest : List ℕ) → Read 7 text p rest → Right text (from_pauses p rest)
at_pauses text p rest k = advance image_form upto 9 7 8 pauses_group text p rest k (lit≤ tt) (lit≤ tt) refl (λ x. from_forks (record p { pauses = x.0 }) x.1) (λ x after known. at_forks text (record p { pauses = x }) after known)

-- the aborts, and what follows
abbrev from_aborts : Parts → List ℕ → Result Parts ℕ
from_aborts p bytes = numbered 7 (aborts_at (length p.code) bytes) >>= λ x. from_pauses (record p { aborts = x.0 }) x.1

at_aborts : (text : List ℕ) (p : Parts) (rest : List ℕ) → Read 6 text p rest → Right text (from_aborts p rest)
at_aborts text p rest k = advance image_form upto 9 6 7 aborts_group text p rest k (lit≤ tt) (lit≤ tt) refl (λ x. from_pauses (record p { aborts = x.0 }) x.1) (λ x after known. at_pauses text (record p { aborts = x }) after known)

-- the slots, and what follows
abbrev from_slots : Parts → List ℕ → Result Parts ℕ
from_slots p bytes = numbered 6 (slots_at (length p.code) bytes) >>= λ x. from_aborts (record p { slots = x.0 }) x.1

at_slots : (text : List ℕ) (p : Parts) (rest : List ℕ) → Read 5 text p rest → Right text (from_slots p rest)
at_slots text p rest k = advance image_form upto 9 5 6 slots_group text p rest k (lit≤ tt) (lit≤ tt) refl (λ x. from_aborts (record p { slots = x.0 }) x.1) (λ x after known. at_aborts text (record p { slots = x }) after known)

-- the outputs, and what follows
abbrev from_outputs : Parts → List ℕ → Result Parts ℕ
from_outputs p bytes = numbered 5 (signals_at (codes "outputs ") (length p.memory) bytes) >>= λ x. from_slots (record p { outputs = x.0 }) x.1

at_outputs : (text : List ℕ) (p : Parts) (rest : List ℕ) → Read 4 text p rest → Right text (from_outputs p rest)
at_outputs text p rest k = advance image_form upto 9 4 5 outputs_group text p rest k (lit≤ tt) (lit≤ tt) refl (λ x. from_slots (record p { outputs = x.0 }) x.1) (λ x after known. at_slots text (record p { outputs = x }) after known)

-- the inputs, and what follows
abbrev from_inputs : Parts → List ℕ → Result Parts ℕ
from_inputs p bytes = numbered 4 (signals_at (codes "inputs ") (length p.memory) bytes) >>= λ x. from_outputs (record p { inputs = x.0 }) x.1

at_inputs : (text : List ℕ) (p : Parts) (rest : List ℕ) → Read 3 text p rest → Right text (from_inputs p rest)
at_inputs text p rest k = advance image_form upto 9 3 4 inputs_group text p rest k (lit≤ tt) (lit≤ tt) refl (λ x. from_outputs (record p { inputs = x.0 }) x.1) (λ x after known. at_outputs text (record p { inputs = x }) after known)

-- the memory, and what follows
abbrev from_memory : Parts → List ℕ → Result Parts ℕ
from_memory p bytes = numbered 3 (memory_at bytes) >>= λ x. from_inputs (record p { memory = x.0 }) x.1

at_memory : (text : List ℕ) (p : Parts) (rest : List ℕ) → Read 2 text p rest → Right text (from_memory p rest)
at_memory text p rest k = advance image_form upto 9 2 3 memory_group text p rest k (lit≤ tt) (lit≤ tt) refl (λ x. from_inputs (record p { memory = x.0 }) x.1) (λ x after known. at_inputs text (record p { memory = x }) after known)

-- the code, and what follows
abbrev from_code : Parts → List ℕ → Result Parts ℕ
from_code p bytes = numbered 2 (code_at bytes) >>= λ x. from_memory (record p { code = x.0 }) x.1

at_code : (text : List ℕ) (p : Parts) (rest : List ℕ) → Read 1 text p rest → Right text (from_code p rest)
at_code text p rest k = advance image_form upto 9 1 2 code_group text p rest k (lit≤ tt) (lit≤ tt) refl (λ x. from_memory (record p { code = x.0 }) x.1) (λ x after known. at_memory text (record p { code = x }) after known)

-- no lists
abbrev nothing : Parts
nothing = record { code = []; memory = []; inputs = []; outputs = []; slots = []; aborts = []; pauses = []; forks = [] }

no_ranges : (number : ℕ) → number ≤ 1 → (p : Parts) → Ranges number p
no_ranges number few p = record {
  code = λ late. absurd (omega arith);
  words = λ late. absurd (omega arith);
  memory = λ late. absurd (omega arith);
  values = λ late. absurd (omega arith);
  inputs = λ late. absurd (omega arith);
  outputs = λ late. absurd (omega arith);
  slots = λ late. absurd (omega arith);
  aborts = λ late. absurd (omega arith);
  pauses = λ late. absurd (omega arith);
  forks = λ late. absurd (omega arith);
}

-- the text begins with the heading
headed : (text rest : List ℕ) → length text ≤ most_bytes → text ≡ heading ++ rest → heading_at text ≡ Some rest
unfolding heading_at
headed text rest short e = rw (le-ltb most_bytes (length text) short) (ap (past_all_at heading) e ∙ past_all_again heading rest)

first_only : (q : Parts) (more : List ℕ) → joined (take 1 (groups q)) ++ more ≡ heading ++ more
unfolding groups
first_only q more = refl

heading_known : (text rest : List ℕ) → heading_at text ≡ Some rest → Read 1 text nothing rest
unfolding heading_at
heading_known text rest e =
    let t = test_none (ltb most_bytes (length text)) (past_all_at heading text) rest e in
    let spelled : text ≡ heading ++ rest = past_all_found heading text rest t.1 in
    record {
      ranges = no_ranges 1 (lit≤ tt) nothing;
      spelled = spelled ∙ sym (first_only nothing rest);
      short = ltb-false most_bytes (length text) t.0;
      only = λ q more ranges other.
          let again = past_all_again heading more in
          let same : past_all_at heading text ≡ Some more = ap (past_all_at heading) (other ∙ first_only q more) ∙ again in
          (refl, some_is more rest (sym same ∙ t.1));
    }

heading_fault : (text : List ℕ) → heading_at text ≡ None → IsFault image_form 1 text
heading_fault text e = record {
  low = lit≤ tt;
  high = lit≤ tt;
  before = record { value = nothing; rest = text; ranges = no_ranges 0 (lit≤ tt) nothing; spelled = refl; short = λ some. absurd (omega arith); ended = λ late. absurd (omega arith) };
  here = λ (s : Begins image_form 1 text). let h = headed text s.rest (s.short (lit≤ tt)) (s.spelled ∙ first_only s.value s.rest) in let clash = sym h ∙ e in absurd cc;
}

at_start : (text : List ℕ) (o : Option (List ℕ)) → heading_at text ≡ o → Right text (numbered 1 o >>= λ rest. from_code nothing rest)
at_start text None e = heading_fault text e
at_start text (Some rest) e = at_code text nothing rest (heading_known text rest e)

pub outcome : (text : List ℕ) → Right text (parts_at text)
unfolding parts_at
outcome text = at_start text (heading_at text) refl
