-- How the conditions of a slot that is resumed answer, by what is told.
use Rattle.std.proofs.Common.{◌≡◌, ◌≤◌, ◌+◌, ◌++◌, ◌&&◌, map, ℕ, suc, Bool, true, false, not, if◌then◌else◌, List, [], ◌∷◌, length, Option, Some, None, refl, sym, ap, ◌∙◌, subst, append_assoc, inl, inr, arith}
use Rattle.std.proofs.lemmas.List.{append-nil}
use Rattle.std.proofs.lemmas.Option.{none-some, same_Some}
use Rattle.mb_isa.specs.Costs.{IsCosts}
use Rattle.mb_pfu.specs.declared.parts.Watch.{Watch}
use Rattle.mb_pfu.specs.Rows.{renewed}
use Rattle.pt_image.specs.declared.Parts.{Parts}
use Rattle.tk_cert.specs.declared.cert.CertParts.{CertParts}
use Rattle.tk_paths.specs.declared.view.Side.{Side}
use Rattle.tk_paths.specs.Sums.{greater}
use Rattle.tk_paths.specs.Words.{instr_at}
use Rattle.tk_paths.specs.Kinds.{abort_at}
use Rattle.tk_paths.specs.Acceptance.{value}
use Rattle.tk_paths.proofs.Inner.{Image}
use Rattle.tk_paths.proofs.Conditions.{Cert, AreAborts, IsAccepted}
use Rattle.tk_paths.proofs.Carried.{image_of, cert_of}
use Rattle.tk_paths.proofs.Accepts.{Accepts}
use Rattle.tk_paths.proofs.Controls.{sums}
use Rattle.tk_paths.specs.Reached.{IsOpen}
use Rattle.tk_paths.specs.Regions.{Region}
use Rattle.tk_paths.specs.Greatest.{num, tested}
use Rattle.tk_paths.specs.Choices.{bare_of, is_second, Plan, holding}
use Rattle.tk_paths.specs.Dearest.{cut_plan}
use Rattle.tk_paths.proofs.OpenPlaces.{IsStepWith}
use Rattle.tk_paths.proofs.Flags.{made, made-more, AreFlags, split}
use Rattle.tk_paths.proofs.MaxPlus.{more-is}
use Rattle.tk_paths.proofs.Extracts.{append-one, length-last}
use Rattle.tk_paths.proofs.RouteTests.{Tested, Answering}
use Rattle.tk_paths.proofs.Fitted.{greater-so}
use Rattle.tk_paths.proofs.Planned.{next, route-of}

by-strong : (b : Bool) (o : Option ℕ) (n : ℕ) → (if b then None else o) ≡ Some n → (b ≡ false) × (o ≡ Some n)
by-strong true o n h = absurd (none-some n h)
by-strong false o n h = (refl, h)

unfired : (b w : Bool) → (b ≡ true → w ≡ true) → b && not w ≡ false
unfired false w h = refl
unfired true w h = ap not (h refl)

module _ (image : Parts) (cert : CertParts) (costs : List ℕ) where
  -- answers whose first are those of the aborts outside, and from the others on something holds
  pub record Told (outside : List ℕ) (i : ℕ) (answers : List Bool) (Q : List Watch → List Bool → Type 0) : Type 0 where
    pub less : List Bool
    pub others : List Bool
    pub is : answers ≡ less ++ others
    pub size : length less ≡ i
    pub are : AreFlags image outside less
    pub holds : Q (made image less outside) others

  pub all-told : (answers : List Bool) (Q : List Watch → List Bool → Type 0) → Told [] 0 answers Q → Q [] answers
  all-told answers Q t = by t.less t.size t.is t.holds
    where
      by : (f : List Bool) → length f ≡ 0 → answers ≡ f ++ t.others → Q (made image f []) t.others → Q [] answers
      by [] e same q = let R : List Bool → Type 0 = λ d. Q [] d in subst R (sym same) q
      by (b ∷ f) e same q = absurd (omega (arith, e))

module _ (image : Parts) (cert : CertParts) (costs : List ℕ) (find : ℕ → Option Region) (ok : Accepts image cert costs) (priced : IsCosts costs)
    (steps : (p s : ℕ) (a : List ℕ) → IsOpen image cert costs p s a → IsStepWith image cert costs find (instr_at image p) p s a) (fuel : ℕ) where
  abbrev view : CertParts
  view = bare_of cert

  abbrev E : Image
  E = image_of image costs

  abbrev D : Cert
  D = cert_of image cert costs

  abbrev acc : IsAccepted E D
  acc = sums image cert costs ok

  abbrev plans : ℕ → Side → ℕ → Plan
  plans = next image cert costs find ok priced steps fuel

  -- ---- the conditions of a slot that is resumed

  abbrev pub Then : List ℕ → (List Watch → Tested) → Side → ℕ → List Bool → List Watch → List Bool → Type 0
  Then a inner side n z ws d = Answering image cert costs ws (map renewed (made image [] a)) inner side n d z

  -- one answer, and what follows it
  go-on : (i : ℕ) (outside : List ℕ) (j : ℕ) (a : List ℕ) (inner : List Watch → Tested) (side : Side) (n m : ℕ) (answers z : List Bool) → length outside ≡ i → n ≡ value image cert costs ((abort_at image j).cond) + m →
      Told image cert costs (outside ++ j ∷ []) (i + 1) answers (Then a inner side m z) → Told image cert costs outside i answers (Then (j ∷ a) inner side n z)
  go-on i outside j a inner side n m answers z e sum r =
      let p = split image outside j r.less (let x = r.size in omega (arith, x, e)) r.are in
      let J : List Watch → Type 0 = λ ws. Answering image cert costs ws (map renewed (made image [] a)) inner side m r.others z in
      record {
        less = p.less;
        others = p.last ∷ r.others;
        is = r.is ∙ ap (λ f. f ++ r.others) p.is ∙ append_assoc p.less (p.last ∷ []) r.others;
        size = p.size ∙ e;
        are = p.flags;
        holds = (
          m,
          sum,
          inr (
            p.last,
            r.others,
            unfired p.last ((abort_at image j).weak) p.weak,
            refl,
            subst J (ap (λ f. made image f (outside ++ j ∷ [])) p.is ∙ made-more image outside p.less p.last j p.size) r.holds,
          ),
        );
      }

  -- a strong abort cuts the slot
  pub cut-told : (s i : ℕ) (outside a : List ℕ) (inner : List Watch → Tested) (rest : Option ℕ) (c : Plan) (side : Side) (n : ℕ) → n ≤ fuel → length outside ≡ i → AreAborts E D s outside a →
      cut_plan image view costs plans side i a rest ≡ Some c → tested image view costs side i a rest ≡ Some n → Told image cert costs outside i c.0 (Then a inner side n c.1)
  cut-told s i outside [] inner rest c side n f e b k h = absurd (none-some c k)
  cut-told s i outside (j ∷ a) inner rest c side n f e b k h =
      let m = more-is (value image cert costs ((abort_at image j).cond)) (greater strong later) n h in
      let sum = m.2 in
      by m.0 sum (is_second strong later) (greater-so strong later m.0 m.1 (is_second strong later) refl) k
      (λ x y. let longer = length-last outside j in cut-told s (i + 1) (outside ++ j ∷ []) a inner rest c side m.0 (omega (arith, f, sum)) (omega (arith, longer, e)) b.2 x y)
    where
      strong : Option ℕ
      strong = if (abort_at image j).weak then None else num image view costs side i ((abort_at image j).handler)

      later : Option ℕ
      later = tested image view costs side (i + 1) a rest

      by : (m : ℕ) → n ≡ value image cert costs ((abort_at image j).cond) + m → (t : Bool) → (if t then later else strong) ≡ Some m →
          (if t then cut_plan image view costs plans side (i + 1) a rest else Some (holding (plans ((abort_at image j).handler) side i))) ≡ Some c →
          (cut_plan image view costs plans side (i + 1) a rest ≡ Some c → later ≡ Some m → Told image cert costs (outside ++ j ∷ []) (i + 1) c.0 (Then a inner side m c.1)) → Told image cert costs outside i c.0 (Then (j ∷ a) inner side n c.1)
      by m sum true x y ih = go-on i outside j a inner side n m c.0 c.1 e sum (ih y x)
      by m sum false x y ih =
          let w = by-strong (abort_at image j).weak (num image view costs side i ((abort_at image j).handler)) m x in
          let q = plans ((abort_at image j).handler) side i in
          let g = route-of image cert costs find ok priced steps fuel s outside i ((abort_at image j).handler) side m (omega (arith, f, sum)) b.1 (omega (arith, e)) w.1 in
          let P : Plan → Type 0 = λ u. Told image cert costs outside i u.0 (Then (j ∷ a) inner side n u.1) in
          subst P (same_Some (holding q) c y) (record { less = q.0; others = true ∷ []; is = refl; size = g.size; are = g.are; holds = (m, sum, inl (w.0, refl, g.holds)) })

  -- the conditions are all run, and what is behind them has a number
  pub uncut-rest : (side : Side) (i : ℕ) (a : List ℕ) (rest : Option ℕ) (n : ℕ) → cut_plan image view costs plans side i a rest ≡ None → tested image view costs side i a rest ≡ Some n → (m : ℕ) × (m ≤ n) × (rest ≡ Some m)
  uncut-rest side i [] rest n k h = (n, omega arith, h)
  uncut-rest side i (j ∷ a) rest n k h =
      let m = more-is (value image cert costs ((abort_at image j).cond)) (greater strong later) n h in
      let sum = m.2 in
      by m.0 (omega (arith, sum)) (is_second strong later) (greater-so strong later m.0 m.1 (is_second strong later) refl) k (λ x y. uncut-rest side (i + 1) a rest m.0 x y)
    where
      strong : Option ℕ
      strong = if (abort_at image j).weak then None else num image view costs side i ((abort_at image j).handler)

      later : Option ℕ
      later = tested image view costs side (i + 1) a rest

      by : (m : ℕ) → m ≤ n → (t : Bool) → (if t then later else strong) ≡ Some m → (if t then cut_plan image view costs plans side (i + 1) a rest else Some (holding (plans ((abort_at image j).handler) side i))) ≡ None →
          (cut_plan image view costs plans side (i + 1) a rest ≡ None → later ≡ Some m → (r : ℕ) × (r ≤ m) × (rest ≡ Some r)) → (r : ℕ) × (r ≤ n) × (rest ≡ Some r)
      by m low true x y ih = let r = ih y x in (r.0, (let l = r.1 in omega (arith, l, low)), r.2)
      by m low false x y ih = absurd (none-some (holding (plans ((abort_at image j).handler) side i)) (sym y))

  pub uncut-told : (s i : ℕ) (outside a : List ℕ) (inner : List Watch → Tested) (rest : Option ℕ) (full : Plan) (side : Side) (n : ℕ) → n ≤ fuel → length outside ≡ i → AreAborts E D s outside a →
      ((m : ℕ) → m ≤ n → rest ≡ Some m → Told image cert costs (outside ++ a) (i + length a) full.0 (λ ws d. inner ws side m d full.1)) →
      cut_plan image view costs plans side i a rest ≡ None → tested image view costs side i a rest ≡ Some n → Told image cert costs outside i full.0 (Then a inner side n full.1)
  uncut-told s i outside [] inner rest full side n f e b g k h =
      let T : List ℕ → ℕ → Type 0 = λ l m. Told image cert costs l m full.0 (λ ws d. inner ws side n d full.1) in
      let z : i + 0 ≡ i = omega arith in
      subst (λ l. T l i) (append-nil outside) (subst (T (outside ++ [])) z (g n (omega arith) h))
  uncut-told s i outside (j ∷ a) inner rest full side n f e b g k h =
      let m = more-is (value image cert costs ((abort_at image j).cond)) (greater strong later) n h in
      let sum = m.2 in
      let longer = length-last outside j in
      let T : List ℕ → ℕ → Type 0 = λ l x. (r : ℕ) → r ≤ n → rest ≡ Some r → Told image cert costs l x full.0 (λ ws d. inner ws side r d full.1) in
      let same : i + suc (length a) ≡ i + 1 + length a = omega arith in
      let deeper : T ((outside ++ j ∷ []) ++ a) (i + 1 + length a) = subst (λ l. T l (i + 1 + length a)) (sym (append-one outside j a)) (subst (T (outside ++ j ∷ a)) same g) in
      by m.0 sum (is_second strong later) (greater-so strong later m.0 m.1 (is_second strong later) refl) k
      (λ x y. uncut-told s (i + 1) (outside ++ j ∷ []) a inner rest full side m.0 (omega (arith, f, sum)) (omega (arith, longer, e)) b.2 (λ r low t. deeper r (omega (arith, low, sum)) t) x y)
    where
      strong : Option ℕ
      strong = if (abort_at image j).weak then None else num image view costs side i ((abort_at image j).handler)

      later : Option ℕ
      later = tested image view costs side (i + 1) a rest

      by : (m : ℕ) → n ≡ value image cert costs ((abort_at image j).cond) + m → (t : Bool) → (if t then later else strong) ≡ Some m →
          (if t then cut_plan image view costs plans side (i + 1) a rest else Some (holding (plans ((abort_at image j).handler) side i))) ≡ None →
          (cut_plan image view costs plans side (i + 1) a rest ≡ None → later ≡ Some m → Told image cert costs (outside ++ j ∷ []) (i + 1) full.0 (Then a inner side m full.1)) → Told image cert costs outside i full.0 (Then (j ∷ a) inner side n full.1)
      by m sum true x y ih = go-on i outside j a inner side n m full.0 full.1 e sum (ih y x)
      by m sum false x y ih = absurd (none-some (holding (plans ((abort_at image j).handler) side i)) (sym y))
