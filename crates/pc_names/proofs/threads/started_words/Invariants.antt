use Rattle.std.proofs.Common.{◌≡◌, ◌++◌, map, drop}
use Rattle.pc_names.specs.Started.{started}
use Rattle.pc_names.proofs.threads.started_words.Given as goal

abbrev pub invariant-loop-site : goal.invariant-loop-site
invariant-loop-site l = map (λ w. w.now) l.words.items ++ started (drop l.site-index l.sites) ≡ started l.sites
