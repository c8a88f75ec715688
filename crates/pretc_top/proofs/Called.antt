-- What a command that reads no trace comes to is what the call comes to.
use Rattle.std.proofs.Common.{◌≡◌, ℕ, List, Option, Some, refl}
use Rattle.pt_outside.specs.Told.{ShelfTold, SourceTold, SinkTold}
use Rattle.pc_rules.specs.Sources as source
use Rattle.pc_rules.specs.Verdicts.{BreaksFirst}
use Rattle.pretc_top.specs.declared.commands.Command.{Command}
use Rattle.pretc_top.specs.declared.commands.Command.TheVariants.{Check, Print, Rules, Gen}
use Rattle.pretc_top.specs.Outside.{outside}
use Rattle.pretc_top.specs.Check.{CheckEnds}
use Rattle.pretc_top.specs.Says.{SaysEnds, IsPrinted, IsRuled, GenEnds}
use Rattle.pretc_top.specs.Comes.{Concludes, Comes, ends, check_ends, print_ends, rules_ends, gen_ends}

module _ (old new : ShelfTold) (source_told : SourceTold) (sink now : SinkTold) (answer : ℕ) where
  pub check_comes : (image cert costs : List ℕ) → Concludes (CheckEnds image cert costs old new) sink now answer →
      Comes (Some (Check image cert costs)) (outside old source_told sink) (outside new source_told now) answer
  check_comes image cert costs k = ends k.due k.ending (check_ends image cert costs k.due k.ending k.ends) refl k.answers

  pub print_comes : (program : List ℕ) → Concludes (SaysEnds source.Breaks IsPrinted program old new) sink now answer →
      Comes (Some (Print program)) (outside old source_told sink) (outside new source_told now) answer
  print_comes program k = ends k.due k.ending (print_ends program k.due k.ending k.ends) refl k.answers

  pub gen_comes : (n : ℕ) → new ≡ old → Concludes (GenEnds n) sink now answer →
      Comes (Some (Gen n)) (outside old source_told sink) (outside new source_told now) answer
  gen_comes n s k = ends k.due k.ending (gen_ends n k.due k.ending s k.ends) refl k.answers

  pub rules_comes : (program : List ℕ) → Concludes (SaysEnds BreaksFirst IsRuled program old new) sink now answer →
      Comes (Some (Rules program)) (outside old source_told sink) (outside new source_told now) answer
  rules_comes program k = ends k.due k.ending (rules_ends program k.due k.ending k.ends) refl k.answers
