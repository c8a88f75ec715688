-- A lowered flow can be emitted, and its image is what the program compiles to.
use Rattle.std.proofs.Common.{ℕ, ◌-◌, List, refl, sym, subst, ◌∙◌, arith}
use Rattle.std.specs.Prelude.{slice_index_or}
use Rattle.std.proofs.lemmas.List.{length-map}
use Rattle.mb_isa.specs.Costs.{IsCosts}
use Rattle.pt_image.specs.declared.image.Parts.{Parts}
use Rattle.pc_grammar.specs.Typing.{Typing}
use Rattle.pc_grammar.specs.Keeping.{IsTyped}
use Rattle.pc_rules.specs.Judging.{IsWithin}
use Rattle.pc_meaning.specs.Programs.{program_of}
use Rattle.pc_lower.specs.Flow.{Flow}
use Rattle.pc_lower.specs.Counts.{BodiesWithin, ConditionsWithin}
use Rattle.pc_lower.specs.Laid.{Placing}
use Rattle.pc_lower.specs.Words.{Writing}
use Rattle.pc_lower.specs.Numbering.{slots_of, parent_of}
use Rattle.pc_lower.specs.Image.{IsImageOf}
use Rattle.pc_lower.specs.Runs.{RunLaws}
use Rattle.pc_lower.proofs.Sizing.{counts}
use Rattle.pc_lower.specs.Placing.{typed_flow, placing_of}
use Rattle.pc_lower.specs.Few.{WritesFew, sizes_for}
use Rattle.pc_lower.specs.Meant.{DoesWhatIsMeant}
use Rattle.pc_lower.proofs.Laid.{can-be-laid}
use Rattle.pc_lower.proofs.Declared.{declared-words}
use Rattle.pc_lower.proofs.Order.{flow-in-order}
use Rattle.pc_lower.proofs.FlowProgram.{fit}
use Rattle.pc_lower.proofs.Rooms.{keeps-cells, inputs-below, outputs-below}
use Rattle.pc_lower.proofs.Within.{limits, words-less, inputs-few, outputs-few, declared-few}
use Rattle.pc_lower.proofs.FlowWhole.{does-what-is-meant}
use Rattle.pc_lower.specs.RegionLaws.{Agree}
use Rattle.pc_regs.specs.declared.placement.Placement.{Placement}
use Rattle.pc_regs.specs.Placement.{memory_words, IsPlacement}
use Rattle.pc_regs.specs.Words.{writing_of}
use Rattle.pc_regs.specs.Represents.{compared}
use Rattle.pc_regs.specs.Assignment.{placement_of}
use Rattle.pc_regs.specs.Laws.{WordsDoTheSteps, WordsAreWork, WordsAreFew}
use Rattle.pc_emit.specs.Image.{entrances_of, image_of}
use Rattle.pc_emit.specs.Fits.{placed, CanBeEmitted, AreSizes}
use Rattle.pc_emit.specs.Sections.{program_of as sections_program}
use Rattle.pc_emit.specs.Laws.{AFlowIsLaidOut, ALaidFlowIsInItsRanges, ALaidFlowListsAll, ALaidFlowIsAProgram, AFlowIsSmall}
use Rattle.tk_paths.specs.Programs.{IsProgram}
use Rattle.tk_paths.specs.Counts.{AreSmall}
use Rattle.pc_emit.specs.Eots.{ListsAll}
use Rattle.pc_compile.specs.Compiled.{Compiles}
use Rattle.pc_compile.proofs.Lowered.{IsLowered}
use Rattle.pc_compile.proofs.Written.{flow-written, temporaries-few}
use Rattle.pc_lower.proofs.Numbers.{pauses-many, forks-many, aborts-many-are}
use Rattle.pc_compile.proofs.Sizes.{writes-few, code-less}

-- of the flow of a program itself
module _ (t : Typing) (typed : IsTyped t) (within : IsWithin t)
    (bodies : BodiesWithin 652 (typed_flow t).bodies) (conditions : ConditionsWithin 652 (typed_flow t).aborts) (work : WordsAreWork) (few : WordsAreFew) where
  abbrev f : Flow
  f = typed_flow t

  abbrev p : Placement
  p = placement_of f

  abbrev writing : Writing
  writing = writing_of p

  abbrev further : ℕ
  further = memory_words p - p.cells

  abbrev placing : Placing
  placing = placing_of t (λ g. slice_index_or (entrances_of writing f) g 0)

  abbrev image : Parts
  image = image_of writing f further

  short : WritesFew writing
  short = writes-few few p

  room : IsPlacement p
  room = record {
    memory = let a = declared-few t typed within in let b = temporaries-few f bodies conditions in omega (arith, a, b);
    held = omega arith;
  }

  can-be-emitted : CanBeEmitted f writing placing further
  can-be-emitted = record {
    laid = can-be-laid t typed within (λ g. slice_index_or (entrances_of writing f) g 0);
    work = work p room;
    written = flow-written f bodies conditions (keeps-cells t typed);
    code = let a = code-less writing short f in let b = words-less t typed within writing short in omega (arith, a, b);
    memory = let a = declared-few t typed within in let b = temporaries-few f bodies conditions in omega (arith, a, b);
    declared = declared-words t typed;
    inputs = (inputs-few t typed within, inputs-below t typed);
    outputs = (outputs-few t typed within, outputs-below t typed);
  }

  sizes-are : AreSizes f writing (sizes_for writing f.bodies)
  sizes-are = record {
    words = λ q. omega arith;
    test_words = λ q. omega arith;
    counts = counts _ _ f.bodies (flow-in-order (program_of t) (fit t typed within));
  }

  module _ (steps : WordsDoTheSteps) (laid : AFlowIsLaidOut) (ranged : ALaidFlowIsInItsRanges) (listed : ALaidFlowListsAll) where
    is-image : (costs : List ℕ) → IsCosts costs → IsImageOf (parent_of f) image costs f writing (sizes_for writing f.bodies) (placed f writing placing)
    is-image costs priced = laid f writing placing further (sizes_for writing f.bodies) costs can-be-emitted sizes-are priced

    run-laws : RunLaws image f writing (Agree (compared p))
    run-laws = steps p image f room (record {
      count = refl;
      words = declared-words t typed;
      memory = refl;
      inputs = refl;
      outputs = refl;
      inputs_are_cells = inputs-below t typed;
      outputs_are_cells = outputs-below t typed;
    })

    faithful : DoesWhatIsMeant (program_of t) image
    faithful =
        does-what-is-meant (program_of t) (fit t typed within) (parent_of f) image writing (sizes_for writing f.bodies) (placed f writing placing)
        is-image (limits t typed within writing short image refl refl) (Agree (compared p)) run-laws

    lists : ListsAll f image
    lists = listed f writing placing further can-be-emitted

    compiles : Compiles t image
    compiles = record {
      ranges = (ranged f writing placing further can-be-emitted).0;
      words = (ranged f writing placing further can-be-emitted).1;
      inputs = refl;
      outputs = refl;
      slots = length-map (slots_of f) _;
      pauses = lists.pauses ∙ pauses-many t typed within;
      places = lists.places;
      forks = lists.forks ∙ forks-many t typed within;
      aborts = lists.aborts ∙ aborts-many-are t typed within;
      faithful = faithful;
    }

  -- the image holds the program that certificates see in it, and no number of its certificates is great
  module _ (held : ALaidFlowIsAProgram) (small : AFlowIsSmall) where
    holds : IsProgram image (sections_program writing f)
    holds = held f writing placing further can-be-emitted

    counts-few : AreSmall image (sections_program writing f)
    counts-few = small f writing placing further (sizes_for writing f.bodies) can-be-emitted sizes-are (limits t typed within writing short image refl refl) holds

-- of a flow that is that of a program
module _ (t : Typing) (g : Flow) (low : IsLowered t g) (work : WordsAreWork) (few : WordsAreFew) where
  bodies-there : BodiesWithin 652 (typed_flow t).bodies
  bodies-there = subst (λ x. BodiesWithin 652 x.bodies) low.same low.bodies

  conditions-there : ConditionsWithin 652 (typed_flow t).aborts
  conditions-there = subst (λ x. ConditionsWithin 652 x.aborts) low.same low.conditions

  pub has-room : IsPlacement (placement_of g)
  has-room = subst (λ x. IsPlacement (placement_of x)) (sym low.same) (room t low.typed low.within bodies-there conditions-there work few)

  pub is-emitted : (placing : Placing) × CanBeEmitted g (writing_of (placement_of g)) placing (memory_words (placement_of g) - (placement_of g).cells)
  is-emitted =
      subst (λ x. (placing : Placing) × CanBeEmitted x (writing_of (placement_of x)) placing (memory_words (placement_of x) - (placement_of x).cells)) (sym low.same)
      (placing t low.typed low.within bodies-there conditions-there work few, can-be-emitted t low.typed low.within bodies-there conditions-there work few)

  pub is-compiled : WordsDoTheSteps → AFlowIsLaidOut → ALaidFlowIsInItsRanges → ALaidFlowListsAll → Compiles t (image_of (writing_of (placement_of g)) g (memory_words (placement_of g) - (placement_of g).cells))
  is-compiled steps laid ranged listed =
      subst (λ x. Compiles t (image_of (writing_of (placement_of x)) x (memory_words (placement_of x) - (placement_of x).cells))) (sym low.same)
      (compiles t low.typed low.within bodies-there conditions-there work few steps laid ranged listed)

  pub is-held : ALaidFlowIsAProgram → AFlowIsSmall →
      IsProgram (image_of (writing_of (placement_of g)) g (memory_words (placement_of g) - (placement_of g).cells)) (sections_program (writing_of (placement_of g)) g)
      × AreSmall (image_of (writing_of (placement_of g)) g (memory_words (placement_of g) - (placement_of g).cells)) (sections_program (writing_of (placement_of g)) g)
  is-held held small =
      subst (λ x. IsProgram (image_of (writing_of (placement_of x)) x (memory_words (placement_of x) - (placement_of x).cells)) (sections_program (writing_of (placement_of x)) x)
      × AreSmall (image_of (writing_of (placement_of x)) x (memory_words (placement_of x) - (placement_of x).cells)) (sections_program (writing_of (placement_of x)) x)) (sym low.same)
      (holds t low.typed low.within bodies-there conditions-there work few held small, counts-few t low.typed low.within bodies-there conditions-there work few held small)
