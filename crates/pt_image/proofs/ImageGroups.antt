-- The image's groups of lines as groups of its form.
use Rattle.std.proofs.Common.{◌≡◌, ℕ, ◌^◌, ◌≤◌, ℤ, cond, leb, List, [], ◌++◌, length, take, refl, append_assoc, arith, lit≤, codes}
use Rattle.std.proofs.lemmas.List.{append-nil}
use Rattle.pt_base.specs.Spelling.{joined, number_text, word_text, signed_text, lines_text}
use Rattle.pt_base.proofs.FormLaws.{Group}
use Rattle.pt_image.specs.declared.image.AbortLine.{AbortLine}
use Rattle.pt_image.specs.declared.image.Point.{Point}
use Rattle.pt_image.specs.declared.image.Parts.{Parts}
use Rattle.pt_image.specs.Text.{groups, abort_text, point_text}
use Rattle.pt_image.specs.Reading.{code_at, signals_at, slots_at, aborts_at, points_at}
use Rattle.pt_image.specs.Whole.{memory_at}
use Rattle.pt_image.specs.Form.{Ranges, image_form}
use Rattle.pt_image.proofs.GroupLaws.{CodeIn, code_reads, MemoryIn, memory_reads, SignalsIn, signals_read, SlotsIn, slots_read, AbortsIn, aborts_read, PointsIn, points_read}

-- the first groups of lines alone
abbrev pub upto : ℕ → Parts → Parts
upto number q = record {
  code = cond (leb 2 number) q.code [];
  memory = cond (leb 3 number) q.memory [];
  inputs = cond (leb 4 number) q.inputs [];
  outputs = cond (leb 5 number) q.outputs [];
  slots = cond (leb 6 number) q.slots [];
  aborts = cond (leb 7 number) q.aborts [];
  pauses = cond (leb 8 number) q.pauses [];
  forks = cond (leb 9 number) q.forks [];
}

-- ranges of more groups are ranges of fewer
pub lower : (few many : ℕ) (q : Parts) → few ≤ many → Ranges many q → Ranges few q
lower few many q le r = record {
  code = λ late. r.code (omega arith);
  words = λ late. r.words (omega arith);
  memory = λ late. r.memory (omega arith);
  values = λ late. r.values (omega arith);
  inputs = λ late. r.inputs (omega arith);
  outputs = λ late. r.outputs (omega arith);
  slots = λ late. r.slots (omega arith);
  aborts = λ late. r.aborts (omega arith);
  pauses = λ late. r.pauses (omega arith);
  forks = λ late. r.forks (omega arith);
}

pub few_places : (number : ℕ) (p : Parts) → Ranges number p → 2 ≤ number → length p.code ≤ 2 ^ 64
few_places number p r late = omega (arith, (r.code late).1)

pub few_words : (number : ℕ) (p : Parts) → Ranges number p → 3 ≤ number → length p.memory ≤ 2 ^ 64
few_words number p r late = omega (arith, r.memory late)

pub few_slots : (number : ℕ) (p : Parts) → Ranges number p → 6 ≤ number → length p.slots ≤ 2 ^ 64
few_slots number p r late = omega (arith, (r.slots late).1)

pub few_aborts : (number : ℕ) (p : Parts) → Ranges number p → 7 ≤ number → length p.aborts ≤ 2 ^ 64
few_aborts number p r late = omega (arith, (r.aborts late).0)

pub code_grows : (p : Parts) (x : List ℕ) → joined (take 2 (groups (record p { code = x }))) ≡ joined (take 1 (groups p)) ++ lines_text (codes "code ") word_text x
unfolding groups
code_grows p x = simp (append_assoc, append-nil)

abbrev pub code_group : Group image_form upto (List ℕ) 1 2
code_group = record {
  read = λ p. code_at;
  spell = lines_text (codes "code ") word_text;
  IsIn = λ p. CodeIn;
  part = λ p. p.code;
  put = λ p x. record p { code = x };
  reads = λ p r. code_reads;
  grows = code_grows;
  back = λ q. refl;
  up = λ p x r h. record {
    code = λ late. h.0;
    words = λ late. h.1;
    memory = λ late. absurd (omega arith);
    values = λ late. absurd (omega arith);
    inputs = λ late. absurd (omega arith);
    outputs = λ late. absurd (omega arith);
    slots = λ late. absurd (omega arith);
    aborts = λ late. absurd (omega arith);
    pauses = λ late. absurd (omega arith);
    forks = λ late. absurd (omega arith);
  };
  down = λ q r. lower 1 2 q (lit≤ tt) r;
  within = λ q r. (r.code (lit≤ tt), r.words (lit≤ tt));
  upto-put = λ q. refl;
}

pub memory_grows : (p : Parts) (x : List ℤ) → joined (take 3 (groups (record p { memory = x }))) ≡ joined (take 2 (groups p)) ++ lines_text (codes "memory ") signed_text x
unfolding groups
memory_grows p x = simp (append_assoc, append-nil)

abbrev pub memory_group : Group image_form upto (List ℤ) 2 3
memory_group = record {
  read = λ p. memory_at;
  spell = lines_text (codes "memory ") signed_text;
  IsIn = λ p. MemoryIn;
  part = λ p. p.memory;
  put = λ p x. record p { memory = x };
  reads = λ p r. memory_reads;
  grows = memory_grows;
  back = λ q. refl;
  up = λ p x r h. record {
    code = λ late. r.code (lit≤ tt);
    words = λ late. r.words (lit≤ tt);
    memory = λ late. h.0;
    values = λ late. h.1;
    inputs = λ late. absurd (omega arith);
    outputs = λ late. absurd (omega arith);
    slots = λ late. absurd (omega arith);
    aborts = λ late. absurd (omega arith);
    pauses = λ late. absurd (omega arith);
    forks = λ late. absurd (omega arith);
  };
  down = λ q r. lower 2 3 q (lit≤ tt) r;
  within = λ q r. (r.memory (lit≤ tt), r.values (lit≤ tt));
  upto-put = λ q. refl;
}

pub inputs_grows : (p : Parts) (x : List ℕ) → joined (take 4 (groups (record p { inputs = x }))) ≡ joined (take 3 (groups p)) ++ lines_text (codes "inputs ") (number_text 10) x
unfolding groups
inputs_grows p x = simp (append_assoc, append-nil)

abbrev pub inputs_group : Group image_form upto (List ℕ) 3 4
inputs_group = record {
  read = λ p. signals_at (codes "inputs ") (length p.memory);
  spell = lines_text (codes "inputs ") (number_text 10);
  IsIn = λ p. SignalsIn (length p.memory);
  part = λ p. p.inputs;
  put = λ p x. record p { inputs = x };
  reads = λ p r. signals_read (codes "inputs ") (length p.memory) (few_words 3 p r (lit≤ tt));
  grows = inputs_grows;
  back = λ q. refl;
  up = λ p x r h. record {
    code = λ late. r.code (lit≤ tt);
    words = λ late. r.words (lit≤ tt);
    memory = λ late. r.memory (lit≤ tt);
    values = λ late. r.values (lit≤ tt);
    inputs = λ late. h;
    outputs = λ late. absurd (omega arith);
    slots = λ late. absurd (omega arith);
    aborts = λ late. absurd (omega arith);
    pauses = λ late. absurd (omega arith);
    forks = λ late. absurd (omega arith);
  };
  down = λ q r. lower 3 4 q (lit≤ tt) r;
  within = λ q r. r.inputs (lit≤ tt);
  upto-put = λ q. refl;
}

pub outputs_grows : (p : Parts) (x : List ℕ) → joined (take 5 (groups (record p { outputs = x }))) ≡ joined (take 4 (groups p)) ++ lines_text (codes "outputs ") (number_text 10) x
unfolding groups
outputs_grows p x = simp (append_assoc, append-nil)

abbrev pub outputs_group : Group image_form upto (List ℕ) 4 5
outputs_group = record {
  read = λ p. signals_at (codes "outputs ") (length p.memory);
  spell = lines_text (codes "outputs ") (number_text 10);
  IsIn = λ p. SignalsIn (length p.memory);
  part = λ p. p.outputs;
  put = λ p x. record p { outputs = x };
  reads = λ p r. signals_read (codes "outputs ") (length p.memory) (few_words 4 p r (lit≤ tt));
  grows = outputs_grows;
  back = λ q. refl;
  up = λ p x r h. record {
    code = λ late. r.code (lit≤ tt);
    words = λ late. r.words (lit≤ tt);
    memory = λ late. r.memory (lit≤ tt);
    values = λ late. r.values (lit≤ tt);
    inputs = λ late. r.inputs (lit≤ tt);
    outputs = λ late. h;
    slots = λ late. absurd (omega arith);
    aborts = λ late. absurd (omega arith);
    pauses = λ late. absurd (omega arith);
    forks = λ late. absurd (omega arith);
  };
  down = λ q r. lower 4 5 q (lit≤ tt) r;
  within = λ q r. r.outputs (lit≤ tt);
  upto-put = λ q. refl;
}

pub slots_grows : (p : Parts) (x : List ℕ) → joined (take 6 (groups (record p { slots = x }))) ≡ joined (take 5 (groups p)) ++ lines_text (codes "slots ") (number_text 10) x
unfolding groups
slots_grows p x = simp (append_assoc, append-nil)

abbrev pub slots_group : Group image_form upto (List ℕ) 5 6
slots_group = record {
  read = λ p. slots_at (length p.code);
  spell = lines_text (codes "slots ") (number_text 10);
  IsIn = λ p. SlotsIn (length p.code);
  part = λ p. p.slots;
  put = λ p x. record p { slots = x };
  reads = λ p r. slots_read (length p.code) (few_places 5 p r (lit≤ tt));
  grows = slots_grows;
  back = λ q. refl;
  up = λ p x r h. record {
    code = λ late. r.code (lit≤ tt);
    words = λ late. r.words (lit≤ tt);
    memory = λ late. r.memory (lit≤ tt);
    values = λ late. r.values (lit≤ tt);
    inputs = λ late. r.inputs (lit≤ tt);
    outputs = λ late. r.outputs (lit≤ tt);
    slots = λ late. h;
    aborts = λ late. absurd (omega arith);
    pauses = λ late. absurd (omega arith);
    forks = λ late. absurd (omega arith);
  };
  down = λ q r. lower 5 6 q (lit≤ tt) r;
  within = λ q r. r.slots (lit≤ tt);
  upto-put = λ q. refl;
}

pub aborts_grows : (p : Parts) (x : List AbortLine) → joined (take 7 (groups (record p { aborts = x }))) ≡ joined (take 6 (groups p)) ++ lines_text (codes "aborts ") abort_text x
unfolding groups
aborts_grows p x = simp (append_assoc, append-nil)

abbrev pub aborts_group : Group image_form upto (List AbortLine) 6 7
aborts_group = record {
  read = λ p. aborts_at (length p.code);
  spell = lines_text (codes "aborts ") abort_text;
  IsIn = λ p. AbortsIn (length p.code);
  part = λ p. p.aborts;
  put = λ p x. record p { aborts = x };
  reads = λ p r. aborts_read (length p.code) (few_places 6 p r (lit≤ tt));
  grows = aborts_grows;
  back = λ q. refl;
  up = λ p x r h. record {
    code = λ late. r.code (lit≤ tt);
    words = λ late. r.words (lit≤ tt);
    memory = λ late. r.memory (lit≤ tt);
    values = λ late. r.values (lit≤ tt);
    inputs = λ late. r.inputs (lit≤ tt);
    outputs = λ late. r.outputs (lit≤ tt);
    slots = λ late. r.slots (lit≤ tt);
    aborts = λ late. h;
    pauses = λ late. absurd (omega arith);
    forks = λ late. absurd (omega arith);
  };
  down = λ q r. lower 6 7 q (lit≤ tt) r;
  within = λ q r. r.aborts (lit≤ tt);
  upto-put = λ q. refl;
}

pub pauses_grows : (p : Parts) (x : List Point) → joined (take 8 (groups (record p { pauses = x }))) ≡ joined (take 7 (groups p)) ++ lines_text (codes "pauses ") point_text x
unfolding groups
pauses_grows p x = simp (append_assoc, append-nil)

abbrev pub pauses_group : Group image_form upto (List Point) 7 8
pauses_group = record {
  read = λ p. points_at (codes "pauses ") (length p.code) (length p.slots) (length p.aborts);
  spell = lines_text (codes "pauses ") point_text;
  IsIn = λ p. PointsIn (length p.code) (length p.slots) (length p.aborts);
  part = λ p. p.pauses;
  put = λ p x. record p { pauses = x };
  reads = λ p r. points_read (codes "pauses ") (length p.code) (length p.slots) (length p.aborts) (few_places 7 p r (lit≤ tt)) (few_slots 7 p r (lit≤ tt)) (few_aborts 7 p r (lit≤ tt));
  grows = pauses_grows;
  back = λ q. refl;
  up = λ p x r h. record {
    code = λ late. r.code (lit≤ tt);
    words = λ late. r.words (lit≤ tt);
    memory = λ late. r.memory (lit≤ tt);
    values = λ late. r.values (lit≤ tt);
    inputs = λ late. r.inputs (lit≤ tt);
    outputs = λ late. r.outputs (lit≤ tt);
    slots = λ late. r.slots (lit≤ tt);
    aborts = λ late. r.aborts (lit≤ tt);
    pauses = λ late. h;
    forks = λ late. absurd (omega arith);
  };
  down = λ q r. lower 7 8 q (lit≤ tt) r;
  within = λ q r. r.pauses (lit≤ tt);
  upto-put = λ q. refl;
}

pub forks_grows : (p : Parts) (x : List Point) → joined (take 9 (groups (record p { forks = x }))) ≡ joined (take 8 (groups p)) ++ lines_text (codes "forks ") point_text x
unfolding groups
forks_grows p x = simp (append_assoc, append-nil)

abbrev pub forks_group : Group image_form upto (List Point) 8 9
forks_group = record {
  read = λ p. points_at (codes "forks ") (length p.code) (length p.slots) (length p.aborts);
  spell = lines_text (codes "forks ") point_text;
  IsIn = λ p. PointsIn (length p.code) (length p.slots) (length p.aborts);
  part = λ p. p.forks;
  put = λ p x. record p { forks = x };
  reads = λ p r. points_read (codes "forks ") (length p.code) (length p.slots) (length p.aborts) (few_places 8 p r (lit≤ tt)) (few_slots 8 p r (lit≤ tt)) (few_aborts 8 p r (lit≤ tt));
  grows = forks_grows;
  back = λ q. refl;
  up = λ p x r h. record {
    code = λ late. r.code (lit≤ tt);
    words = λ late. r.words (lit≤ tt);
    memory = λ late. r.memory (lit≤ tt);
    values = λ late. r.values (lit≤ tt);
    inputs = λ late. r.inputs (lit≤ tt);
    outputs = λ late. r.outputs (lit≤ tt);
    slots = λ late. r.slots (lit≤ tt);
    aborts = λ late. r.aborts (lit≤ tt);
    pauses = λ late. r.pauses (lit≤ tt);
    forks = λ late. h;
  };
  down = λ q r. lower 8 9 q (lit≤ tt) r;
  within = λ q r. r.forks (lit≤ tt);
  upto-put = λ q. refl;
}
