-- What a job pushes, and what it comes to.
use Rattle.std.proofs.Common.{◌≡◌, ◌≤◌, ◌++◌, ℕ, ℤ, List, [], ◌∷◌, length, count_by, Some, None, Result, Ok, Err, refl, sym, ap, subst, ◌∙◌}
use Rattle.pt_base.specs.declared.Refusal.{Refusal}
use Rattle.pt_base.specs.declared.Refusal.TheVariants.{Broken, Memory}
use Rattle.pt_outside.specs.Told.{ShelfTold, SourceTold, SinkTold}
use Rattle.pt_outside.specs.declared.traits.Failed.{Failed}
use Rattle.pt_image.specs.declared.image.Parts.{Parts}
use Rattle.pt_trace.specs.Report.{threads_line, bound_line, sum_line, greatest}
use Rattle.mb_isa.specs.Costs.{unit}
use Rattle.mb_core.specs.Machine.{Whole, fresh}
use Rattle.mb_isa.specs.Run.{run_of}
use Rattle.pc_print.specs.Generated.{generated}
use Rattle.pc_grammar.specs.Trees.{Program}
use Rattle.pc_grammar.specs.Typing.{Typing}
use Rattle.pc_rules.specs.declared.sizes.Sizes.{Sizes}
use Rattle.pc_rules.specs.Sizes.{AreSizes}
use Rattle.pc_rules.specs.Verdicts.{IsAccepted, IsJudgedText}
use Rattle.tk_cert.specs.declared.CertParts.{CertParts}
use Rattle.pretc_run.specs.declared.endings.Ending.{Ending}
use Rattle.pretc_run.specs.declared.endings.Ending.TheVariants.{WantOfMemory}
use Rattle.pretc_run.specs.Endings.{line_of}
use Rattle.pretc_run.specs.Told.{told, AllEnded}
use Rattle.pretc_run.specs.Counted.{counted_rows, sum_of}
use Rattle.pretc_run.specs.Writing.{Wrote, BrokeOff, first_of}
use Rattle.pretc_run.proofs.Written.{wrote_both, wrote_broke}
use Rattle.pretc_top.specs.declared.commands.Command.TheVariants.{Job}
use Rattle.pretc_top.specs.Outside.{outside}
use Rattle.pretc_top.specs.Says.{Pushes}
use Rattle.pretc_top.specs.Refusing.{ending_of}
use Rattle.pretc_top.specs.Certified.{IsCertified}
use Rattle.pretc_top.specs.Job.{job_rows, job_ticks, job_lines, IsJob, JobEnds, job_breaks, job_memory}
use Rattle.pretc_top.specs.Comes.{Concludes, Comes, ends, job_ends}
use Rattle.pretc_top.proofs.Within.{words_ended, words_shown, counted_are_words}

pub job_comes : (old new : ShelfTold) (source_told : SourceTold) (sink now : SinkTold) (answer n : ℕ) → new ≡ old → Concludes (JobEnds n) sink now answer →
    Comes (Some (Job n)) (outside old source_told sink) (outside new source_told now) answer
job_comes old new source_told sink now answer n s k = ends k.due k.ending (job_ends n k.due k.ending s k.ends) refl k.answers

-- ---- three lines, one push a line

module _ (T : Type 0) (a b c : List ℕ) (old : SinkTold) where
  pub first_broke : (now : SinkTold) (failed : Failed) → BrokeOff old now [] a → Pushes {T = T} (a ∷ b ∷ c ∷ []) old now (Err failed)
  first_broke now failed h = ([], (a ∷ b ∷ c ∷ [], (refl, h)))

  pub second_broke : (one now : SinkTold) (failed : Failed) → Wrote old one (a ∷ []) → BrokeOff one now [] b → Pushes {T = T} (a ∷ b ∷ c ∷ []) old now (Err failed)
  second_broke one now failed w h = (a ∷ [], (b ∷ c ∷ [], (refl, wrote_broke old one now (a ∷ []) [] b w h)))

  pub third_broke : (one two now : SinkTold) (failed : Failed) → Wrote old one (a ∷ []) → Wrote one two (b ∷ []) → BrokeOff two now [] c →
      Pushes {T = T} (a ∷ b ∷ c ∷ []) old now (Err failed)
  third_broke one two now failed w v h =
      (a ∷ b ∷ [], (c ∷ [], (refl, wrote_broke old two now (a ∷ b ∷ []) [] c (wrote_both old one two (a ∷ []) (b ∷ []) w v) h)))

  pub all_pushed : (one two now : SinkTold) → Wrote old one (a ∷ []) → Wrote one two (b ∷ []) → Wrote two now (c ∷ []) → Wrote old now (a ∷ b ∷ c ∷ [])
  all_pushed one two now w v u = wrote_both old two now (a ∷ b ∷ []) (c ∷ []) (wrote_both old one two (a ∷ []) (b ∷ []) w v) u

-- ---- the totals

module _ (image : Parts) (costs : List ℕ) (m : Whole) (is : m ≡ fresh image costs) where
  pub loaded_is_fresh : m ≡ fresh m.image m.costs
  loaded_is_fresh = is ∙ ap (λ (w : Whole). fresh w.image w.costs) (sym is)

  pub loaded_inputs : (n : ℕ) → n ≡ length image.inputs → n ≡ length m.image.inputs
  loaded_inputs n e = e ∙ ap (λ (w : Whole). length w.image.inputs) (sym is)

  pub loaded_outputs : (n : ℕ) → n ≡ length image.outputs → n ≡ length m.image.outputs
  loaded_outputs n e = e ∙ ap (λ (w : Whole). length w.image.outputs) (sym is)

  pub loaded_ends : (bound : ℕ) → AllEnded (run_of image costs bound (job_rows image)) → AllEnded (run_of m.image m.costs bound (job_rows m.image))
  loaded_ends bound h = let P : Whole → Type 0 = λ w. AllEnded (run_of w.image w.costs bound (job_rows w.image)) in subst P (sym is) h

  pub loaded_sum : (bound : ℕ) (sum : ℤ) → sum ≡ sum_of (told (run_of m.image m.costs bound (job_rows m.image))) → sum ≡ sum_of (told (run_of image costs bound (job_rows image)))
  loaded_sum bound sum h = h ∙ ap (λ (w : Whole). sum_of (told (run_of w.image w.costs bound (job_rows w.image)))) is

  pub loaded_worst : (bound worst : ℕ) → worst ≡ greatest (told (run_of m.image m.costs bound (job_rows m.image))) → worst ≡ greatest (told (run_of image costs bound (job_rows image)))
  loaded_worst bound worst h = h ∙ ap (λ (w : Whole). greatest (told (run_of w.image w.costs bound (job_rows w.image)))) is

-- ---- the whole job

pub job_ended : (t : Typing) (image : Parts) (cert : CertParts) → IsCertified t unit image cert → AllEnded (run_of image unit cert.bound (job_rows image))
job_ended t image cert k = words_ended t image unit cert.bound k.means (job_rows image) (counted_are_words (length image.inputs) 0 1000)

pub job_is : (n : ℕ) (tree : Program) (t : Typing) (sizes : Sizes) (image : Parts) (cert : CertParts) (sum : ℤ) (worst : ℕ) → IsAccepted (generated n) tree t → AreSizes t sizes →
    IsCertified t unit image cert → sum ≡ sum_of (job_ticks image cert.bound) → worst ≡ greatest (job_ticks image cert.bound) →
    IsJob n (threads_line sizes.threads ∷ bound_line cert.bound ∷ sum_line 1000 sum worst ∷ [])
job_is n tree t sizes image cert sum worst a are k s w = record {
  tree = tree;
  typing = t;
  accepted = a;
  image = image;
  cert = cert;
  certified = k;
  shown = words_shown t image unit cert.bound k.means (job_rows image) (counted_are_words (length image.inputs) 0 1000);
  due_is =
      ap (λ x. threads_line x ∷ bound_line cert.bound ∷ sum_line 1000 sum worst ∷ []) are.threads
      ∙ ap (λ x. threads_line (count_by (λ f. f.thread) t.functions) ∷ bound_line cert.bound ∷ sum_line 1000 x worst ∷ []) s
      ∙ ap (λ x. threads_line (count_by (λ f. f.thread) t.functions) ∷ bound_line cert.bound ∷ sum_line 1000 (sum_of (job_ticks image cert.bound)) x ∷ []) w;
}

job_fails_by : (n : ℕ) (f : Refusal) → IsJudgedText (generated n) (Err f) → JobEnds n (line_of (ending_of f) ∷ []) (ending_of f)
job_fails_by n (Broken rule span) j = job_breaks rule span j
job_fails_by n Memory j = job_memory

pub job_fails : (n : ℕ) (text : List ℕ) (f : Refusal) (e : Ending) → text ≡ generated n → IsJudgedText text (Err f) → e ≡ ending_of f → JobEnds n (line_of e ∷ []) e
job_fails n text f e t j is =
    let P : Ending → Type 0 = λ x. JobEnds n (line_of x ∷ []) x in
    let Q : List ℕ → Type 0 = λ x. IsJudgedText x (Err f) in
    subst P (sym is) (job_fails_by n f (subst Q t j))

pub job_done_by : (n : ℕ) (text : List ℕ) (tree : Program) (t : Typing) (sizes : Sizes) (costs : List ℕ) (image : Parts) (cert : CertParts) (most : ℕ) (sum : ℤ) (worst : ℕ) (a b c : List ℕ) →
    text ≡ generated n → IsAccepted text tree t → AreSizes t sizes → costs ≡ unit → IsCertified t costs image cert → most ≡ cert.bound →
    sum ≡ sum_of (job_ticks image most) → worst ≡ greatest (job_ticks image most) →
    a ≡ threads_line sizes.threads → b ≡ bound_line most → c ≡ sum_line 1000 sum worst → IsJob n (a ∷ b ∷ c ∷ [])
job_done_by n text tree t sizes costs image cert most sum worst a b c is accepted are unpriced certified same s w first second third =
    let A : List ℕ → Type 0 = λ x. IsAccepted x tree t in
    let C : List ℕ → Type 0 = λ x. IsCertified t x image cert in
    let J : List (List ℕ) → Type 0 = λ due. IsJob n due in
    let lines : (a ∷ b ∷ c ∷ []) ≡ (threads_line sizes.threads ∷ bound_line cert.bound ∷ sum_line 1000 sum worst ∷ []) =
    ap (λ x. x ∷ b ∷ c ∷ []) first ∙ ap (λ x. threads_line sizes.threads ∷ x ∷ c ∷ []) (second ∙ ap bound_line same)
    ∙ ap (λ x. threads_line sizes.threads ∷ bound_line cert.bound ∷ x ∷ []) third in
    subst J (sym lines)
    (job_is n tree t sizes image cert sum worst (subst A is accepted) are (subst C unpriced certified)
    (s ∙ ap (λ x. sum_of (job_ticks image x)) same) (w ∙ ap (λ x. greatest (job_ticks image x)) same))

pub job_ended_by : (t : Typing) (costs : List ℕ) (image : Parts) (cert : CertParts) (most : ℕ) → costs ≡ unit → IsCertified t costs image cert → most ≡ cert.bound →
    AllEnded (run_of image unit most (job_rows image))
job_ended_by t costs image cert most unpriced certified same =
    let C : List ℕ → Type 0 = λ x. IsCertified t x image cert in
    let E : ℕ → Type 0 = λ x. AllEnded (run_of image unit x (job_rows image)) in
    subst E (sym same) (job_ended t image cert (subst C unpriced certified))

pub no_job : (n : ℕ) (e : Ending) → e ≡ WantOfMemory → JobEnds n (line_of e ∷ []) e
no_job n e is = let P : Ending → Type 0 = λ x. JobEnds n (line_of x ∷ []) x in subst P (sym is) job_memory
