use Rattle.std.proofs.Common.{◌≡◌, ◌++◌, drop}
use Rattle.pt_base.specs.Spelling.{each}
use Rattle.pt_image.specs.Text.{point_text}
use Rattle.pt_image.proofs.writing.put_point_lines.Given as goal

abbrev pub invariant-loop-point : goal.invariant-loop-point
invariant-loop-point l = l.out.items ++ each point_text (drop l.point-index l.points) ≡ l.fn.out.items ++ each point_text l.points
