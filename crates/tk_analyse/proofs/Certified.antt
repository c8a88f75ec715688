-- What comes out is the certificate of the program, and it is accepted.
use Rattle.std.proofs.Common.{◌≡◌, ℕ, ◌+◌, ◌≤◌, ◌++◌, List, [], ◌∷◌, flat_map, length, Option, refl, sym, ap, ◌∙◌, subst}
use Rattle.mb_isa.specs.Costs.{IsCosts}
use Rattle.pt_image.specs.declared.Parts.{Parts}
use Rattle.pt_image.specs.Ranges.{IsImage}
use Rattle.mb_isa.specs.Tick.{base_of}
use Rattle.tk_cert.specs.declared.cert.Line.{Line}
use Rattle.tk_cert.specs.declared.cert.Walk.{Walk}
use Rattle.tk_cert.specs.declared.cert.CertParts.{CertParts}
use Rattle.tk_cert.specs.Shapes.{IsCert}
use Rattle.tk_cert.specs.Form.{IsWalk, IsInForm}
use Rattle.tk_paths.specs.Sums.{greatest}
use Rattle.tk_paths.specs.Bounded.{IsAcceptedFor, FreeTicksAreBounded, RunsAreBounded}
use Rattle.tk_paths.specs.Walks.{most_cycles, IsWorst, IsCostOf}
use Rattle.tk_paths.specs.Greatest.{beginnings}
use Rattle.tk_paths.specs.Programs.{Section, OfThread, OfRoutine, OfCondition, Unused, Program, IsProgram, pair_from, starts_from, certificate, ProgramsAreAccepted, ProgramBoundsAreWorst}
use Rattle.tk_paths.specs.Programs as programs
use Rattle.tk_paths.specs.Counts.{AreSmall, CertificatesAreInForm}
use Rattle.tk_paths.specs.Choices.{plan}
use Rattle.tk_paths.specs.Dearest.{dearest_walk, find_piece, walk_of, WalksCostTheBound, WalksAreInForm}
use Rattle.tk_paths.specs.declared.Section.{Section as KeptSection}
use Rattle.tk_paths.specs.Trees.{codes_of, read_sections, program_of_sections}
use Rattle.tk_paths.specs.Told.{told_by, slots_from}
use Rattle.tk_paths.proofs.Later.{slots_are}
use Rattle.tk_threads.specs.Sections.{lines_of, weights_of}
use Rattle.tk_analyse.specs.Certified.{Certifies}

flat-same : {X Y : Type 0} (f g : X → List Y) (xs : List X) → ((x : X) → f x ≡ g x) → flat_map f xs ≡ flat_map g xs
flat-same f g [] h = refl
flat-same f g (x ∷ xs) h = ap (λ l. l ++ flat_map f xs) (h x) ∙ ap (λ l. g x ++ l) (flat-same f g xs h)

abbrev pub listed : (bound : ℕ) (lines : List Line) (weights : List (ℕ × ℕ)) (bounds : List (Option ℕ × Option ℕ)) (walk : Walk) → CertParts
listed bound lines weights bounds walk = record { bound = bound; lines = lines; weights = weights; slot_bounds = bounds; walk = walk }

module _ (image : Parts) (costs : List ℕ) (program : Program) where
  lines-same : (x : Section) → lines_of image costs (pair_from 0 (starts_from image costs 0 program.threads)) x ≡ programs.section_lines image costs program x
  lines-same (OfThread s code) = refl
  lines-same (OfRoutine r) = refl
  lines-same (OfCondition p n q) = refl
  lines-same (Unused n) = refl

  weights-same : (x : Section) → weights_of image costs x ≡ programs.section_weights image costs program x
  weights-same (OfThread s code) = refl
  weights-same (OfRoutine r) = refl
  weights-same (OfCondition p n q) = refl
  weights-same (Unused n) = refl

  pub lines-are : (starts : List (Option ℕ × Option ℕ)) (lines : List Line) → starts ≡ starts_from image costs 0 program.threads →
      lines ≡ flat_map (lines_of image costs (pair_from 0 starts)) program.sections → lines ≡ programs.lines image costs program
  lines-are starts lines s e =
      e ∙ ap (λ (l : List (Option ℕ × Option ℕ)). flat_map (lines_of image costs (pair_from 0 l)) program.sections) s
      ∙ flat-same (lines_of image costs (pair_from 0 (starts_from image costs 0 program.threads))) (programs.section_lines image costs program) program.sections lines-same

  parts-same : (walk : Walk) (n m : ℕ) (l k : List Line) (w v : List (ℕ × ℕ)) (b c : List (Option ℕ × Option ℕ)) → n ≡ m → l ≡ k → w ≡ v → b ≡ c →
      listed n l w b walk ≡ listed m k v c walk
  parts-same walk n m l k w v b c e f g h =
      ap (λ (x : ℕ). listed x l w b walk) e ∙ ap (λ (x : List Line). listed m x w b walk) f ∙ ap (λ (x : List (ℕ × ℕ)). listed m k x b walk) g
      ∙ ap (λ (x : List (Option ℕ × Option ℕ)). listed m k v x walk) h

  certificate-is : (starts : List (Option ℕ × Option ℕ)) (parts : CertParts) → starts ≡ starts_from image costs 0 program.threads →
      parts.lines ≡ flat_map (lines_of image costs (pair_from 0 starts)) program.sections →
      parts.weights ≡ flat_map (weights_of image costs) program.sections →
      parts.slot_bounds ≡ slots_from image costs parts.lines 0 (length image.slots) →
      parts.bound ≡ base_of image costs + greatest (beginnings image (told_by parts.lines parts.slot_bounds) costs) →
      parts ≡ certificate image costs program parts.walk
  certificate-is starts parts s l w b n =
      let lines : parts.lines ≡ programs.lines image costs program = lines-are starts parts.lines s l in
      let bounds : parts.slot_bounds ≡ programs.slot_bounds image costs program =
      b ∙ ap (λ (x : List Line). slots_from image costs x 0 (length image.slots)) lines ∙ slots_are image costs program 0 (length image.slots) in
      let weights : parts.weights ≡ flat_map (programs.section_weights image costs program) program.sections =
      w ∙ flat-same (weights_of image costs) (programs.section_weights image costs program) program.sections weights-same in
      let bound : parts.bound ≡ (certificate image costs program parts.walk).bound =
      n ∙ ap (λ (x : List Line). base_of image costs + greatest (beginnings image (told_by x parts.slot_bounds) costs)) lines
      ∙ ap (λ (x : List (Option ℕ × Option ℕ)). base_of image costs + greatest (beginnings image (told_by (programs.lines image costs program) x) costs)) bounds in
      parts-same parts.walk parts.bound (certificate image costs program parts.walk).bound parts.lines (certificate image costs program parts.walk).lines
      parts.weights (certificate image costs program parts.walk).weights parts.slot_bounds (certificate image costs program parts.walk).slot_bounds
      bound lines weights bounds

  -- it is accepted
  accepted : ProgramsAreAccepted → IsImage image → IsCosts costs → IsProgram image program → (parts : CertParts) →
      parts ≡ certificate image costs program parts.walk → IsAcceptedFor image parts costs
  accepted law i c p parts e =
      let P : CertParts → Type 0 = λ x. IsAcceptedFor image x costs in
      subst P (sym e) ((law image program costs parts.walk i c p).0)

  pub has_shape : ProgramsAreAccepted → IsImage image → IsCosts costs → IsProgram image program → (parts : CertParts) →
      parts ≡ certificate image costs program parts.walk → IsCert parts
  has_shape law i c p parts e = (accepted law i c p parts e).cert_is

  certifies-parts : ProgramsAreAccepted → ProgramBoundsAreWorst → FreeTicksAreBounded → RunsAreBounded → IsImage image → IsCosts costs →
      IsProgram image program → (parts : CertParts) → parts ≡ certificate image costs program parts.walk → parts.bound ≤ most_cycles →
      IsCostOf image costs parts.walk parts.bound → Certifies image costs parts
  certifies-parts law worst free runs i c p parts e low reached =
      let a : IsAcceptedFor image parts costs = accepted law i c p parts e in
      let b : parts.bound ≡ (certificate image costs program parts.walk).bound = ap (λ (x : CertParts). x.bound) e in
      let Q : ℕ → Type 0 = λ n. n ≤ most_cycles in
      let R : ℕ → Type 0 = λ n. IsWorst image costs n in
      record {
        accepted = a.hold;
        worst = subst R (sym b) (worst image program costs parts.walk i c p (subst Q b low));
        free_ticks = free image parts costs a;
        runs = runs image parts costs a;
        reached = reached;
      }

  -- the walk costs the bound, and is one of the file's form
  within : (parts : CertParts) → parts ≡ certificate image costs program parts.walk → parts.bound ≤ most_cycles →
      (certificate image costs program (walk_of image costs program)).bound ≤ most_cycles
  within parts e low = let Q : ℕ → Type 0 = λ n. n ≤ most_cycles in subst Q (ap (λ (x : CertParts). x.bound) e) low

  reached : WalksCostTheBound → IsImage image → IsCosts costs → IsProgram image program → (parts : CertParts) →
      parts ≡ certificate image costs program parts.walk → parts.bound ≤ most_cycles → parts.walk ≡ walk_of image costs program →
      IsCostOf image costs parts.walk parts.bound
  reached law i c p parts e low w =
      let P : Walk → Type 0 = λ x. IsCostOf image costs x parts.bound in
      let Q : ℕ → Type 0 = λ n. IsCostOf image costs (walk_of image costs program) n in
      subst P (sym w) (subst Q (sym (ap (λ (x : CertParts). x.bound) e)) (law image program costs i c p (within parts e low)))

  pub certifies : ProgramsAreAccepted → ProgramBoundsAreWorst → FreeTicksAreBounded → RunsAreBounded → WalksCostTheBound → IsImage image → IsCosts costs →
      IsProgram image program → (parts cert : CertParts) → cert ≡ parts → parts ≡ certificate image costs program parts.walk →
      parts.bound ≤ most_cycles → parts.walk ≡ walk_of image costs program → Certifies image costs cert
  certifies law worst free runs attained i c p parts cert same e low w =
      let P : CertParts → Type 0 = λ x. Certifies image costs x in
      subst P (sym same) (certifies-parts law worst free runs i c p parts e low (reached attained i c p parts e low w))

  walk-form : WalksAreInForm → IsImage image → IsCosts costs → IsProgram image program → (parts : CertParts) →
      parts ≡ certificate image costs program parts.walk → parts.bound ≤ most_cycles → parts.walk ≡ walk_of image costs program → IsWalk parts.walk
  walk-form law i c p parts e low w =
      let P : Walk → Type 0 = λ x. IsWalk x in
      subst P (sym w) (law image program costs i c p (within parts e low))

  pub has_walk : WalksAreInForm → IsImage image → IsCosts costs → IsProgram image program → (parts cert : CertParts) → cert ≡ parts →
      parts ≡ certificate image costs program parts.walk → parts.bound ≤ most_cycles → parts.walk ≡ walk_of image costs program → IsWalk cert.walk
  has_walk law i c p parts cert same e low w =
      let P : CertParts → Type 0 = λ x. IsWalk x.walk in
      subst P (sym same) (walk-form law i c p parts e low w)

  -- it is in form where the counts are small
  pub in_form : CertificatesAreInForm → WalksAreInForm → IsImage image → IsCosts costs → IsProgram image program → (parts cert : CertParts) → cert ≡ parts →
      parts ≡ certificate image costs program parts.walk → parts.bound ≤ most_cycles → parts.walk ≡ walk_of image costs program →
      AreSmall image program → IsInForm cert
  in_form law walks i c p parts cert same e low w small =
      let P : CertParts → Type 0 = λ x. IsInForm x in
      subst P (sym (same ∙ e)) (law image program costs parts.walk i c p small (walk-form walks i c p parts e low w))

  -- the walk that is told of these lists is that of the program
  pub walk_told : (bound other : ℕ) (lines shown : List Line) (weights : List (ℕ × ℕ)) (bounds seen : List (Option ℕ × Option ℕ)) (walk : Walk) →
      listed bound lines weights bounds walk ≡ certificate image costs program walk → other ≡ bound → shown ≡ lines → seen ≡ bounds →
      walk ≡ dearest_walk image (told_by shown seen) costs (plan image (told_by shown seen) costs (find_piece program) other) →
      walk ≡ walk_of image costs program
  walk_told bound other lines shown weights bounds seen walk e b l s w =
      let by : ℕ → List Line → List (Option ℕ × Option ℕ) → Walk =
      λ n x y. dearest_walk image (told_by x y) costs (plan image (told_by x y) costs (find_piece program) n) in
      w ∙ ap (λ (n : ℕ). by n shown seen) (b ∙ ap (λ (x : CertParts). x.bound) e)
      ∙ ap (λ (x : List Line). by (certificate image costs program walk).bound x seen) (l ∙ ap (λ (x : CertParts). x.lines) e)
      ∙ ap (λ (y : List (Option ℕ × Option ℕ)). by (certificate image costs program walk).bound (certificate image costs program walk).lines y) (s ∙ ap (λ (x : CertParts). x.slot_bounds) e)

-- the lists that are made, as they were handed on, are those of the program
pub made_is : (image : Parts) (costs : List ℕ) (kept seen : List KeptSection) (starts shown : List (Option ℕ × Option ℕ)) (ml il ol sl bl : List Line)
    (mw iw ow : List (ℕ × ℕ)) (bounds ob bb : List (Option ℕ × Option ℕ)) (bound : ℕ) (walk : Walk) → seen ≡ kept →
    starts ≡ starts_from image costs 0 (codes_of (read_sections [] seen)) → shown ≡ starts →
    ml ≡ flat_map (lines_of image costs (pair_from 0 shown)) (read_sections [] seen) → il ≡ ml → ol ≡ il →
    mw ≡ flat_map (weights_of image costs) (read_sections [] seen) → iw ≡ mw → ow ≡ iw →
    sl ≡ il → bounds ≡ slots_from image costs sl 0 (length image.slots) → ob ≡ bounds →
    bl ≡ il → bb ≡ bounds → bound ≡ base_of image costs + greatest (beginnings image (told_by bl bb) costs) →
    listed bound ol ow ob walk
    ≡ certificate image costs (program_of_sections (read_sections [] kept)) walk
made_is image costs kept seen starts shown ml il ol sl bl mw iw ow bounds ob bb bound walk same s h ml-is il-is ol-is mw-is iw-is ow-is sl-is b ob-is bl-is bb-is n =
    let program : Program = program_of_sections (read_sections [] kept) in
    let begun : starts ≡ starts_from image costs 0 program.threads =
    s ∙ ap (λ (z : List KeptSection). starts_from image costs 0 (codes_of (read_sections [] z))) same in
    let lines : ol ≡ flat_map (lines_of image costs (pair_from 0 starts)) program.sections =
    ol-is ∙ il-is ∙ ml-is ∙ ap (λ (z : List (Option ℕ × Option ℕ)). flat_map (lines_of image costs (pair_from 0 z)) (read_sections [] seen)) h
    ∙ ap (λ (z : List KeptSection). flat_map (lines_of image costs (pair_from 0 starts)) (read_sections [] z)) same in
    let weights : ow ≡ flat_map (weights_of image costs) program.sections =
    ow-is ∙ iw-is ∙ mw-is ∙ ap (λ (z : List KeptSection). flat_map (weights_of image costs) (read_sections [] z)) same in
    let slots : ob ≡ slots_from image costs ol 0 (length image.slots) =
    ob-is ∙ b ∙ ap (λ (z : List Line). slots_from image costs z 0 (length image.slots)) (sl-is ∙ sym ol-is) in
    let whole : bound ≡ base_of image costs + greatest (beginnings image (told_by ol ob) costs) =
    n ∙ ap (λ (z : List Line). base_of image costs + greatest (beginnings image (told_by z bb) costs)) (bl-is ∙ sym ol-is)
    ∙ ap (λ (z : List (Option ℕ × Option ℕ)). base_of image costs + greatest (beginnings image (told_by ol z) costs)) (bb-is ∙ sym ob-is) in
    certificate-is image costs program starts (listed bound ol ow ob walk) begun lines weights slots whole
