-- What a call meets outside: docs/architecture.md, "The outside".
use Rattle.std.specs.Prelude.{◌≤◌}
use Rattle.pt_outside.specs.Told.{ShelfTold, SourceTold, SinkTold}

-- the shelf, the source and the sink, as they tell of themselves
pub record Outside : Type 0 where
  pub shelf : ShelfTold
  pub source : SourceTold
  pub sink : SinkTold

abbrev pub outside : ShelfTold → SourceTold → SinkTold → Outside
outside shelf source sink = record { shelf = shelf; source = source; sink = sink }

-- no count of faults fell
pub record IsLater (old new : Outside) : Type 0 where
  pub load_faults : old.shelf.load_faults ≤ new.shelf.load_faults
  pub store_faults : old.shelf.store_faults ≤ new.shelf.store_faults
  pub source_faults : old.source.faults ≤ new.source.faults
  pub sink_faults : old.sink.faults ≤ new.sink.faults
