-- The bodies of a flow in memory.
use Rattle.std.proofs.Common.{◌≡◌, ℕ, List, [], map, Some, None, slice_get, ap, ◌∙◌}
use Rattle.std.proofs.lemmas.Option.{slice_get-map}
use Rattle.std.specs.Prelude.{unwrap_or}
use Rattle.std.specs.Option.{option_map}
use Rattle.pc_lower.specs.declared.nodes.Node.{Node as Kept}
use Rattle.pc_lower.specs.Flow.{sequence, no_nodes}
use Rattle.pc_lower.specs.Residuals.{body_at}
use Rattle.pc_lower.specs.Trees.{read}
use Rattle.pc_lower.specs.Limits.{started_by, threads_of}

body_of : (bodies : List Kept) (f : ℕ) → body_at (map read bodies) f ≡ unwrap_or (option_map read (slice_get bodies f)) (sequence no_nodes)
body_of bodies f = ap (λ o. unwrap_or o (sequence no_nodes)) (slice_get-map read bodies f)

-- what a function starts, if it is there
pub started-there : (bodies : List Kept) (f : ℕ) (n : Kept) → slice_get bodies f ≡ Some n → started_by (map read bodies) f ≡ threads_of (read n)
started-there bodies f n h = ap threads_of (body_of bodies f ∙ ap (λ o. unwrap_or (option_map read o) (sequence no_nodes)) h)

pub started-nowhere : (bodies : List Kept) (f : ℕ) → slice_get bodies f ≡ None → started_by (map read bodies) f ≡ []
started-nowhere bodies f h = ap threads_of (body_of bodies f ∙ ap (λ o. unwrap_or (option_map read o) (sequence no_nodes)) h)

pub ruleset bodies = (started-there, started-nowhere)
