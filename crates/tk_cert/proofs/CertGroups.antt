-- The certificate's groups of lines as groups of its form.
use Rattle.std.proofs.Common.{◌≡◌, ℕ, ◌≤◌, cond, leb, List, [], ◌++◌, take, Option, refl, append_assoc, arith, lit≤, codes}
use Rattle.std.proofs.lemmas.List.{append-nil}
use Rattle.pt_base.specs.Spelling.{joined, count_text, lines_text}
use Rattle.pt_base.proofs.FormLaws.{Group}
use Rattle.tk_cert.specs.declared.cert.Walk.{Walk}
use Rattle.tk_cert.specs.declared.cert.Line.{Line}
use Rattle.tk_cert.specs.declared.cert.CertParts.{CertParts}
use Rattle.tk_cert.specs.Text.{groups, line_text, weight_text, slot_text, walk_text}
use Rattle.tk_cert.specs.Reading.{bound_at, places_at, loops_at, slots_at, walk_at}
use Rattle.tk_cert.specs.Form.{IsNumber, IsWalk, Ranges, cert_form}
use Rattle.tk_cert.proofs.ListLaws.{bound_reads, PlacesIn, places_read, WeightsIn, loops_read, SlotsIn, slots_read, walk_reads}

abbrev pub no_walk : Walk
no_walk = record { states = []; choices = [] }

-- the first groups of lines alone
abbrev pub upto : ℕ → CertParts → CertParts
upto number q = record {
  bound = cond (leb 2 number) q.bound 0;
  lines = cond (leb 3 number) q.lines [];
  weights = cond (leb 4 number) q.weights [];
  slot_bounds = cond (leb 5 number) q.slot_bounds [];
  walk = cond (leb 6 number) q.walk no_walk;
}

-- ranges of more groups are ranges of fewer
pub lower : (few many : ℕ) (q : CertParts) → few ≤ many → Ranges many q → Ranges few q
lower few many q le r = record {
  bound = λ late. r.bound (omega arith);
  lines = λ late. r.lines (omega arith);
  weights = λ late. r.weights (omega arith);
  slots = λ late. r.slots (omega arith);
  walk = λ late. r.walk (omega arith);
}

pub bound_grows : (p : CertParts) (x : ℕ) → joined (take 2 (groups (record p { bound = x }))) ≡ joined (take 1 (groups p)) ++ count_text (codes "bound ") x
unfolding groups
bound_grows p x = simp (append_assoc, append-nil)

abbrev pub bound_group : Group cert_form upto (ℕ) 1 2
bound_group = record {
  read = λ p. bound_at;
  spell = count_text (codes "bound ");
  IsIn = λ p. IsNumber;
  part = λ p. p.bound;
  put = λ p x. record p { bound = x };
  reads = λ p r. bound_reads;
  grows = bound_grows;
  back = λ q. refl;
  up = λ p x r h. record {
    bound = λ late. h;
    lines = λ late. absurd (omega arith);
    weights = λ late. absurd (omega arith);
    slots = λ late. absurd (omega arith);
    walk = λ late. absurd (omega arith);
  };
  down = λ q r. lower 1 2 q (lit≤ tt) r;
  within = λ q r. r.bound (lit≤ tt);
  upto-put = λ q. refl;
}

pub lines_grows : (p : CertParts) (x : List Line) → joined (take 3 (groups (record p { lines = x }))) ≡ joined (take 2 (groups p)) ++ lines_text (codes "at ") line_text x
unfolding groups
lines_grows p x = simp (append_assoc, append-nil)

abbrev pub lines_group : Group cert_form upto (List Line) 2 3
lines_group = record {
  read = λ p. places_at;
  spell = lines_text (codes "at ") line_text;
  IsIn = λ p. PlacesIn;
  part = λ p. p.lines;
  put = λ p x. record p { lines = x };
  reads = λ p r. places_read;
  grows = lines_grows;
  back = λ q. refl;
  up = λ p x r h. record {
    bound = λ late. r.bound (lit≤ tt);
    lines = λ late. h;
    weights = λ late. absurd (omega arith);
    slots = λ late. absurd (omega arith);
    walk = λ late. absurd (omega arith);
  };
  down = λ q r. lower 2 3 q (lit≤ tt) r;
  within = λ q r. r.lines (lit≤ tt);
  upto-put = λ q. refl;
}

pub weights_grows : (p : CertParts) (x : List (ℕ × ℕ)) → joined (take 4 (groups (record p { weights = x }))) ≡ joined (take 3 (groups p)) ++ lines_text (codes "loops ") weight_text x
unfolding groups
weights_grows p x = simp (append_assoc, append-nil)

abbrev pub weights_group : Group cert_form upto (List (ℕ × ℕ)) 3 4
weights_group = record {
  read = λ p. loops_at;
  spell = lines_text (codes "loops ") weight_text;
  IsIn = λ p. WeightsIn;
  part = λ p. p.weights;
  put = λ p x. record p { weights = x };
  reads = λ p r. loops_read;
  grows = weights_grows;
  back = λ q. refl;
  up = λ p x r h. record {
    bound = λ late. r.bound (lit≤ tt);
    lines = λ late. r.lines (lit≤ tt);
    weights = λ late. h;
    slots = λ late. absurd (omega arith);
    walk = λ late. absurd (omega arith);
  };
  down = λ q r. lower 3 4 q (lit≤ tt) r;
  within = λ q r. r.weights (lit≤ tt);
  upto-put = λ q. refl;
}

pub slots_grows : (p : CertParts) (x : List (Option ℕ × Option ℕ)) → joined (take 5 (groups (record p { slot_bounds = x }))) ≡ joined (take 4 (groups p)) ++ lines_text (codes "slots ") slot_text x
unfolding groups
slots_grows p x = simp (append_assoc, append-nil)

abbrev pub slots_group : Group cert_form upto (List (Option ℕ × Option ℕ)) 4 5
slots_group = record {
  read = λ p. slots_at;
  spell = lines_text (codes "slots ") slot_text;
  IsIn = λ p. SlotsIn;
  part = λ p. p.slot_bounds;
  put = λ p x. record p { slot_bounds = x };
  reads = λ p r. slots_read;
  grows = slots_grows;
  back = λ q. refl;
  up = λ p x r h. record {
    bound = λ late. r.bound (lit≤ tt);
    lines = λ late. r.lines (lit≤ tt);
    weights = λ late. r.weights (lit≤ tt);
    slots = λ late. h;
    walk = λ late. absurd (omega arith);
  };
  down = λ q r. lower 4 5 q (lit≤ tt) r;
  within = λ q r. r.slots (lit≤ tt);
  upto-put = λ q. refl;
}

pub walk_grows : (p : CertParts) (x : Walk) → joined (take 6 (groups (record p { walk = x }))) ≡ joined (take 5 (groups p)) ++ walk_text x
unfolding groups
walk_grows p x = simp (append_assoc, append-nil)

abbrev pub walk_group : Group cert_form upto (Walk) 5 6
walk_group = record {
  read = λ p. walk_at;
  spell = walk_text;
  IsIn = λ p. IsWalk;
  part = λ p. p.walk;
  put = λ p x. record p { walk = x };
  reads = λ p r. walk_reads;
  grows = walk_grows;
  back = λ q. refl;
  up = λ p x r h. record {
    bound = λ late. r.bound (lit≤ tt);
    lines = λ late. r.lines (lit≤ tt);
    weights = λ late. r.weights (lit≤ tt);
    slots = λ late. r.slots (lit≤ tt);
    walk = λ late. h;
  };
  down = λ q r. lower 5 6 q (lit≤ tt) r;
  within = λ q r. r.walk (lit≤ tt);
  upto-put = λ q. refl;
}
