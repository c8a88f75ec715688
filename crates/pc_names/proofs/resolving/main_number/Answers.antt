use Rattle.pc_names.proofs.Fitting.{front_fits}
use Rattle.pc_names.proofs.resolving.main_number.Goals as goal

pub count_functions-requires : goal.count_functions-requires
count_functions-requires c = front_fits c.args.items.now c.in-Some.place c.requires
