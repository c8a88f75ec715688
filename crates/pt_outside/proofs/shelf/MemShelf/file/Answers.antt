use Rattle.std.proofs.Common.{ap, ◌∙◌, List, ℕ}
use Rattle.std.specs.Ordering.{nat_cmp}
use Rattle.std.specs.Cmp.Lexicographic.{slice_cmp}
use Rattle.std.specs.FinMap.{get, find}
use Rattle.pt_outside.specs.Kept.{Shelved, entries_of}
use Rattle.pt_outside.proofs.Finding.{get-first, get-second}
use Rattle.pt_outside.proofs.shelf.MemShelf.file.Goals as goal

pub returns-in-Some : goal.returns-in-Some
returns-in-Some c =
    get-first c.args.name.now (entries_of c.self.inside.stored) c.self.inside.first _
    (c.in-Some.ensures ∙ ap (λ (q : List ℕ). find (slice_cmp nat_cmp) q (entries_of c.self.inside.stored)) c.bytes.ensures)
    ∙ ap (λ (s : Shelved). get s.files c.args.name.now) c.self.view_is

pub returns-in-None : goal.returns-in-None
returns-in-None c =
    c.find_file.ensures
    ∙ ap (λ (q : List ℕ). find (slice_cmp nat_cmp) q c.items.result.now) c.bytes-in-None.ensures
    ∙ ap (find (slice_cmp nat_cmp) c.args.name.now) c.items.ensures
    ∙ get-second c.args.name.now (entries_of c.self.inside.stored) c.self.inside.first
    (c.in-None.ensures ∙ ap (λ (q : List ℕ). find (slice_cmp nat_cmp) q (entries_of c.self.inside.stored)) c.bytes.ensures)
    ∙ ap (λ (s : Shelved). get s.files c.args.name.now) c.self.view_is
