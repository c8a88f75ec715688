-- A number of an open place is that of a route by the choices of the place's plan, where the old aborts fired that the plan says.
use Rattle.std.proofs.Common.{◌≡◌, ◌⊎◌, ◌≤◌, ◌<◌, ◌+◌, ◌-◌, ◌++◌, min, ℕ, zero, suc, nat_le, Bool, true, false, if◌then◌else◌, List, [], ◌∷◌, length, Option, Some, None, refl, sym, ap, ◌∙◌, subst, inl, inr, ⊎_elim, leb-true, arith}
use Rattle.std.proofs.lemmas.Bool.{false≢true}
use Rattle.std.proofs.lemmas.Bool.Decides.{nat_tests}
use Rattle.std.proofs.lemmas.Option.{none-some, same_Some}
use Rattle.mb_isa.specs.declared.Instr.{Instr}
use Rattle.mb_isa.specs.declared.Instr.TheVariants as instr
use Rattle.mb_isa.specs.declared.Class.{Class}
use Rattle.mb_isa.specs.declared.Class.TheVariants as class
use Rattle.mb_isa.specs.Costs.{cost_of, IsCosts}
use Rattle.mb_pfu.specs.declared.parts.Watch.{Watch}
use Rattle.mb_pfu.specs.Rows.{relief}
use Rattle.mb_isa.specs.Control.{Turn, goes}
use Rattle.pt_image.specs.declared.Parts.{Parts}
use Rattle.tk_cert.specs.declared.cert.CertParts.{CertParts}
use Rattle.tk_paths.specs.declared.view.Side.{Side}
use Rattle.tk_paths.specs.declared.view.Side.TheVariants.{ToPause, ToEnd}
use Rattle.tk_paths.specs.declared.word.Word.{Word}
use Rattle.tk_paths.specs.declared.word.Word.TheVariants.{Fork, Abrt, Leave, Jump, Branch}
use Rattle.tk_paths.specs.Sums.{plus, greater, all_ends, most, most_paused}
use Rattle.tk_paths.specs.Words.{instr_at, read_instr}
use Rattle.tk_paths.specs.Kinds.{line_at, start_of, abort_at}
use Rattle.tk_paths.specs.Acceptance.{begins, more}
use Rattle.tk_paths.proofs.SlotFacts.{without_last}
use Rattle.tk_paths.proofs.Inner.{Image}
use Rattle.tk_paths.proofs.Conditions.{Cert, Thread, IsAt, AreAborts, IsFine, IsAccepted}
use Rattle.tk_paths.proofs.Carried.{image_of, cert_of}
use Rattle.tk_paths.proofs.Accepts.{Accepts}
use Rattle.tk_paths.proofs.Controls.{sums}
use Rattle.tk_paths.proofs.Settles.{word-of, read-plain, aborts-of}
use Rattle.tk_paths.specs.Reached.{IsOpen, Has, both_sides}
use Rattle.tk_paths.specs.Regions.{Region, from, to, links_in, counters_in, half, word_place, behind, unit_word, IsUnit, IsLaid, extra, through, dearest_way}
use Rattle.tk_paths.specs.Greatest.{stays, num, handlers, resting, grouping, ended}
use Rattle.tk_paths.specs.Choices.{bare_of, is_second, Plan, behind_choices, fitted, fit, nothing, holding, stretch, handled_plan, resting_plan, ended_choices, most_choices, paused_choices, stretch_plan, straight_plan, word_plan, plan}
use Rattle.tk_paths.proofs.Bare.{resting-same, grouping-same}
use Rattle.tk_paths.proofs.Fitted.{greater-so, fitted-size, fitted-same, fitted-one, stack-at, by-weak, stays-is, fitted-none, fitted-join, made-none}
use Rattle.tk_paths.proofs.Opens.{open-at, at-open}
use Rattle.tk_paths.proofs.OpenPlaces.{IsStep, passing, jumping, branching, IsStepWith}
use Rattle.tk_paths.proofs.MaxPlus.{plus-is, more-is}
use Rattle.tk_paths.proofs.Routes.{Crosses, Route, passes, enters, leaves, pauses, forks, ends, Rested, goes as goes_to, Afterwards, joins, rests, Routes, nobody, child}
use Rattle.tk_paths.proofs.Routes as routes
use Rattle.tk_paths.proofs.RouteWalks.{positive}
use Rattle.tk_paths.proofs.Crossings.{crosses}
use Rattle.tk_paths.proofs.Shortness.{way-short}
use Rattle.tk_paths.proofs.Units.{jump-step, taken-step, untaken-step, unit-lead}
use Rattle.tk_paths.proofs.Extracts.{append-one, length-last}
use Rattle.tk_paths.proofs.Flags.{made, AreFlags, falses, falses-flags, falses-unrelieved, relief-join, flags-join, made-enter, flags-less, flags-more, without-with, made-more, aged_entry, new_entry}

module _ (image : Parts) (cert : CertParts) (costs : List ℕ) (find : ℕ → Option Region) (ok : Accepts image cert costs) (priced : IsCosts costs)
    (steps : (p s : ℕ) (a : List ℕ) → IsOpen image cert costs p s a → IsStepWith image cert costs find (instr_at image p) p s a) where
  abbrev view : CertParts
  view = bare_of cert

  abbrev E : Image
  E = image_of image costs

  abbrev D : Cert
  D = cert_of image cert costs

  abbrev acc : IsAccepted E D
  acc = sums image cert costs ok

  abbrev pub IsIn : ℕ → ℕ → List ℕ → Type 0
  IsIn place s stack = IsAt E D place (Thread s stack [])

  abbrev one : (c : Class) → 1 ≤ cost_of costs c
  one c = positive image cert costs ok priced c

  -- ---- stretches

  crossing-stretch : (r : Region) (p : ℕ) → IsLaid image r → from r ≡ p → 1 ≤ through image costs r → links_in r ≤ 16 → counters_in r ≤ 136 →
      Crosses image costs p (through image costs r) (dearest_way image costs r) (to r)
  crossing-stretch r p laid e low few less =
      let c = crosses image costs r laid in
      let C : ℕ → Type 0 = λ q. Crosses image costs q (through image costs r) (dearest_way image costs r) (to r) in
      subst C e (record {
        costs_one = low;
        short = way-short image costs priced r;
        leads = λ s u flat.
            let a : length u.links ≡ 0 = ap (λ (x : List ℕ). length x) flat.0 in
            let b : length u.counters ≡ 0 = ap (λ (x : List ℕ). length x) flat.1 in
            c.leads s u (omega (arith, a, few)) (omega (arith, b, less));
      })

  jump-stretch : (p q : ℕ) → IsUnit image p (Jump (Some q)) → Crosses image costs p (extra image costs p + cost_of costs class.Jump) [] q
  jump-stretch p q u = record {
    costs_one = (let x = one class.Jump in omega (arith, x));
    short = omega arith;
    leads = λ s v flat. unit-lead image costs (Turn s) p v [] (cost_of costs class.Jump) (goes (Turn s) q v) (jump-step image costs (Turn s) (word_place image p) (half image p) v q u);
  }

  taken-stretch : (p q : ℕ) → IsUnit image p (Branch (Some q)) → Crosses image costs p (extra image costs p + cost_of costs class.Taken) (true ∷ []) q
  taken-stretch p q u = record {
    costs_one = (let x = one class.Taken in omega (arith, x));
    short = (let x = one class.Taken in omega (arith, x));
    leads = λ s v flat. unit-lead image costs (Turn s) p v (true ∷ []) (cost_of costs class.Taken) (goes (Turn s) q v) (taken-step image costs (Turn s) (word_place image p) (half image p) v q u);
  }

  untaken-stretch : (p q : ℕ) → IsUnit image p (Branch (Some q)) → Crosses image costs p (extra image costs p + cost_of costs class.Untaken) (false ∷ []) (behind image p)
  untaken-stretch p q u = record {
    costs_one = (let x = one class.Untaken in omega (arith, x));
    short = (let x = one class.Untaken in omega (arith, x));
    leads = λ s v flat.
        unit-lead image costs (Turn s) p v (false ∷ []) (cost_of costs class.Untaken) (goes (Turn s) (behind image p) v) (untaken-step image costs (Turn s) (word_place image p) (half image p) v q u);
  }

  -- ---- plans

  -- entries of a stack, so many of them old, which fired as a plan says, and from which something holds by the plan's choices
  pub record Planned (a : List ℕ) (k : ℕ) (made_plan : Plan) (P : List Watch → List Bool → Type 0) : Type 0 where
    pub size : length made_plan.0 ≡ k
    pub are : AreFlags image a made_plan.0
    pub holds : P (made image made_plan.0 a) made_plan.1

  -- the same by these choices first
  pub planned-map : (a : List ℕ) (k : ℕ) (x : Plan) (choices : List Bool) (P Q : List Watch → List Bool → Type 0) → ((ws : List Watch) (z : List Bool) → P ws z → Q ws (choices ++ z)) → Planned a k x P → Planned a k (behind_choices choices x) Q
  planned-map a k x choices P Q f r = record { size = r.size; are = r.are; holds = f (made image x.0 a) x.1 r.holds }

  pub planned-same : (a : List ℕ) (k : ℕ) (x : Plan) (P Q : List Watch → List Bool → Type 0) → ((ws : List Watch) (z : List Bool) → P ws z → Q ws z) → Planned a k x P → Planned a k x Q
  planned-same a k x P Q f r = record { size = r.size; are = r.are; holds = f (made image x.0 a) x.1 r.holds }

  abbrev pub next : ℕ → ℕ → Side → ℕ → Plan
  next fuel = plan image view costs find fuel

  abbrev pub RouteAt : ℕ → Side → ℕ → List Watch → List Bool → Type 0
  RouteAt p side n ws z = Route image cert costs ws p side n z

  abbrev pub RestedSo : Side → ℕ → List Watch → List Bool → Type 0
  RestedSo side n ws z = Rested image cert costs ws side n z

  abbrev pub Under : ℕ → Type 0
  Under fuel = (s : ℕ) (a : List ℕ) (k p : ℕ) (side : Side) (n : ℕ) → n ≤ fuel → IsIn p s a → k ≤ length a → Has image cert costs side k p n → Planned a k (next fuel p side k) (RouteAt p side n)

  fine-at : (p s : ℕ) (a : List ℕ) (w : Word) → IsIn p s a → E.code p None ≡ Some w → IsFine E D p (Thread s a []) w
  fine-at p s a w here word = word-of E D acc p (Thread s a []) w here.0 (λ b. b) (read-plain E D acc p w here.1 word)

  none-planned : (a : List ℕ) (k : ℕ) (P : List Watch → List Bool → Type 0) → k ≤ length a → ((ws : List Watch) → relief ws ≡ None → P ws []) → Planned a k (fit k nothing) P
  none-planned a k P h f =
      let same = sym (fitted-none image k) in
      record {
        size = fitted-size k [];
        are = subst (AreFlags image a) same (falses-flags image k a h);
        holds = f (made image (fitted k []) a) (let R : List Bool → Type 0 = λ g. relief (made image g a) ≡ None in subst R same (falses-unrelieved image k a));
      }

  stays-planned : (a : List ℕ) (k : ℕ) (side : Side) (r : ℕ) → k ≤ length a → stays side ≡ Some r → Planned a k (fit k nothing) (RestedSo side r)
  stays-planned a k side r h e = let x = stays-is side r e in none-planned a k (RestedSo side r) h (λ ws none. routes.stays none x.0 x.1 refl)

  -- the handler of one of the old weak aborts
  handled : (fuel : ℕ) → Under fuel → (s i k : ℕ) (outside a : List ℕ) (side : Side) (r : ℕ) → r ≤ fuel → length outside ≡ i → k ≤ length a → AreAborts E D s outside a → handlers image view costs side i a k ≡ Some r →
      Planned (outside ++ a) (i + k) (fit (i + k) (handled_plan image view costs (next fuel) side i a k)) (RestedSo side r)
  handled fuel ih s i k outside [] side r f e h b c = absurd (none-some r c)
  handled fuel ih s i zero outside (j ∷ a) side r f e h b c = absurd (none-some r c)
  handled fuel ih s i (suc k) outside (j ∷ a) side r f e h b c =
      by (is_second own later) (greater-so own later r c (is_second own later) refl)
      (λ x. let longer = length-last outside j in handled fuel ih s (i + 1) k (outside ++ j ∷ []) a side r f (omega (arith, longer, e)) (omega (arith, h)) b.2 x)
    where
      own : Option ℕ
      own = if (abort_at image j).weak then num image view costs side i ((abort_at image j).handler) else None

      later : Option ℕ
      later = handlers image view costs side (i + 1) a k

      by : (t : Bool) → (if t then later else own) ≡ Some r →
          (later ≡ Some r → Planned ((outside ++ j ∷ []) ++ a) (i + 1 + k) (fit (i + 1 + k) (handled_plan image view costs (next fuel) side (i + 1) a k)) (RestedSo side r)) →
          Planned (outside ++ j ∷ a) (i + suc k) (fit (i + suc k) (if t then handled_plan image view costs (next fuel) side (i + 1) a k else holding (next fuel ((abort_at image j).handler) side i))) (RestedSo side r)
      by true x inner =
          let q = inner x in
          let F : List ℕ → ℕ → Type 0 = λ l m. Planned l m (fit m (handled_plan image view costs (next fuel) side (i + 1) a k)) (RestedSo side r) in
          let same : i + 1 + k ≡ i + suc k = omega arith in
          subst (λ l. F l (i + suc k)) (append-one outside j a) (subst (F ((outside ++ j ∷ []) ++ a)) same q)
      by false x inner =
          let w = by-weak (abort_at image j).weak (num image view costs side i ((abort_at image j).handler)) r x in
          let g = ih s outside i ((abort_at image j).handler) side r f b.1 (omega (arith, e)) w.1 in
          let y = next fuel ((abort_at image j).handler) side i in
          let size : length y.0 ≡ length outside = g.size ∙ sym e in
          let more = true ∷ falses image k in
          let weak = w.0 in
          let join = sym (fitted-join image y.0 k (i + suc k) (let z = g.size in omega (arith, z))) in
          let R : List Bool → Type 0 = λ z. Rested image cert costs (made image z (outside ++ j ∷ a)) side r y.1 in
          record {
            size = fitted-size (i + suc k) (y.0 ++ true ∷ []);
            are = subst (AreFlags image (outside ++ j ∷ a)) join (flags-join image outside (j ∷ a) y.0 more size g.are ((λ t. weak), falses-flags image k a (omega (arith, h))));
            holds = subst R join (goes_to (made image y.0 outside) ((abort_at image j).handler) (relief-join image outside a y.0 j k size) g.holds);
          }

  pub rested-planned : (fuel : ℕ) → Under fuel → (p s k : ℕ) (a : List ℕ) (side : Side) (r : ℕ) → r ≤ fuel → IsIn p s a → k ≤ length a → resting image view costs a k side ≡ Some r →
      Planned a k (resting_plan image view costs (next fuel) a k side) (RestedSo side r)
  rested-planned fuel ih p s k a side r f here h c = by (is_second own later) (greater-so own later r c (is_second own later) refl)
    where
      own : Option ℕ
      own = stays side

      later : Option ℕ
      later = handlers image view costs side 0 a k

      by : (t : Bool) → (if t then later else own) ≡ Some r → Planned a k (if t then fit k (handled_plan image view costs (next fuel) side 0 a k) else fit k nothing) (RestedSo side r)
      by true x =
          let F : ℕ → Type 0 = λ m. Planned a m (fit m (handled_plan image view costs (next fuel) side 0 a k)) (RestedSo side r) in
          let same : 0 + k ≡ k = omega arith in
          subst F same (handled fuel ih s 0 k [] a side r f refl h (aborts-of E D acc p s a here.0) x)
      by false x = stays-planned a k side r h x

  -- ---- children that start

  abbrev Starting : ℕ → ℕ → Type 0
  Starting c n = (x : ℕ) → c ≤ x → x < c + n → IsIn (start_of image x) x []

  starting-later : (c n : ℕ) → Starting c (suc n) → Starting (c + 1) n
  starting-later c n at x low high = at x (omega (arith, low)) (omega (arith, high))

  begins-route : (fuel : ℕ) → Under fuel → (c : ℕ) (side : Side) (p : ℕ) → p ≤ fuel → IsIn (start_of image c) c [] → begins image view costs side c ≡ Some p → Route image cert costs [] (start_of image c) side p (next fuel (start_of image c) side 0).1
  begins-route fuel ih c side p f at e =
      let w = ih c [] 0 (start_of image c) side p f at (omega arith) e in
      let x = next fuel (start_of image c) side 0 in
      let R : List Watch → Type 0 = λ ws. Route image cert costs ws (start_of image c) side p x.1 in
      subst R (made-none image x.0) w.holds

  ends-routes : (fuel : ℕ) → Under fuel → (n c : ℕ) → Starting c n → (g : ℕ) → g ≤ fuel → all_ends (begins image view costs) c n ≡ Some g → Routes image cert costs c n ToEnd g (ended_choices image view costs (next fuel) c n)
  ends-routes fuel ih zero c at g f e = nobody refl refl (sym (same_Some 0 g e)) refl
  ends-routes fuel ih (suc n) c at g f e =
      let p = plus-is (begins image view costs ToEnd c) (all_ends (begins image view costs) (c + 1) n) g e in
      let s = p.4 in
      child ToEnd ToEnd p.0 p.1 n ((next fuel (start_of image c) ToEnd 0).1) (ended_choices image view costs (next fuel) (c + 1) n) refl
      (begins-route fuel ih c ToEnd p.0 (omega (arith, s, f)) (at c (omega arith) (omega arith)) p.2)
      (ends-routes fuel ih n (c + 1) (starting-later c n at) p.1 (omega (arith, s, f)) p.3) refl s refl

  most-routes : (fuel : ℕ) → Under fuel → (n c : ℕ) → Starting c n → (g : ℕ) → g ≤ fuel → most (begins image view costs) c n ≡ Some g → (y : Side) × Routes image cert costs c n y g (most_choices image view costs (next fuel) c n)
  most-routes fuel ih zero c at g f e = (ToEnd, nobody refl refl (sym (same_Some 0 g e)) refl)
  most-routes fuel ih (suc n) c at g f e =
      let b = begins image view costs in
      let p = plus-is (greater (b ToPause c) (b ToEnd c)) (most b (c + 1) n) g e in
      let s = p.4 in
      let r = most-routes fuel ih n (c + 1) (starting-later c n at) p.1 (omega (arith, s, f)) p.3 in
      by (is_second (b ToPause c) (b ToEnd c)) p.0 p.1 (greater-so (b ToPause c) (b ToEnd c) p.0 p.2 (is_second (b ToPause c) (b ToEnd c)) refl) s (omega (arith, s, f)) r
    where
      by : (t : Bool) → (x q : ℕ) → (if t then begins image view costs ToEnd c else begins image view costs ToPause c) ≡ Some x → g ≡ x + q → x ≤ fuel → ((y : Side) × Routes image cert costs (c + 1) n y q (most_choices image view costs (next fuel) (c + 1) n)) →
          (y : Side) × Routes image cert costs c (suc n) y g ((if t then (next fuel (start_of image c) ToEnd 0).1 else (next fuel (start_of image c) ToPause 0).1) ++ most_choices image view costs (next fuel) (c + 1) n)
      by true x q k s low r = (
        both_sides ToEnd r.0,
        child ToEnd r.0 x q n ((next fuel (start_of image c) ToEnd 0).1) (most_choices image view costs (next fuel) (c + 1) n) refl (begins-route fuel ih c ToEnd x low (at c (omega arith) (omega arith)) k) r.1 refl s refl,
      )
      by false x q k s low r = (
        both_sides ToPause r.0,
        child ToPause r.0 x q n ((next fuel (start_of image c) ToPause 0).1) (most_choices image view costs (next fuel) (c + 1) n) refl (begins-route fuel ih c ToPause x low (at c (omega arith) (omega arith)) k) r.1 refl s refl,
      )

  paused-routes : (fuel : ℕ) → Under fuel → (n c : ℕ) → Starting c n → (g : ℕ) → g ≤ fuel → most_paused (begins image view costs) c n ≡ Some g → Routes image cert costs c n ToPause g (paused_choices image view costs (next fuel) c n)
  paused-routes fuel ih zero c at g f e = absurd (none-some g e)
  paused-routes fuel ih (suc n) c at g f e =
      by (is_second first second) (greater-so first second g e (is_second first second) refl) (λ q low k. paused-routes fuel ih n (c + 1) (starting-later c n at) q low k)
    where
      first : Option ℕ
      first = plus (begins image view costs ToPause c) (most (begins image view costs) (c + 1) n)

      second : Option ℕ
      second = plus (begins image view costs ToEnd c) (most_paused (begins image view costs) (c + 1) n)

      by : (t : Bool) → (if t then second else first) ≡ Some g →
          ((q : ℕ) → q ≤ fuel → most_paused (begins image view costs) (c + 1) n ≡ Some q → Routes image cert costs (c + 1) n ToPause q (paused_choices image view costs (next fuel) (c + 1) n)) →
          Routes image cert costs c (suc n) ToPause g
          (if t then (next fuel (start_of image c) ToEnd 0).1 ++ paused_choices image view costs (next fuel) (c + 1) n
          else (next fuel (start_of image c) ToPause 0).1 ++ most_choices image view costs (next fuel) (c + 1) n)
      by true k inner =
          let p = plus-is (begins image view costs ToEnd c) (most_paused (begins image view costs) (c + 1) n) g k in
          let s = p.4 in
          child ToEnd ToPause p.0 p.1 n ((next fuel (start_of image c) ToEnd 0).1) (paused_choices image view costs (next fuel) (c + 1) n) refl
          (begins-route fuel ih c ToEnd p.0 (omega (arith, s, f)) (at c (omega arith) (omega arith)) p.2)
          (inner p.1 (omega (arith, s, f)) p.3) refl s refl
      by false k inner =
          let p = plus-is (begins image view costs ToPause c) (most (begins image view costs) (c + 1) n) g k in
          let s = p.4 in
          let r = most-routes fuel ih n (c + 1) (starting-later c n at) p.1 (omega (arith, s, f)) p.3 in
          child ToPause r.0 p.0 p.1 n ((next fuel (start_of image c) ToPause 0).1) (most_choices image view costs (next fuel) (c + 1) n) refl
          (begins-route fuel ih c ToPause p.0 (omega (arith, s, f)) (at c (omega arith) (omega arith)) p.2) r.1 refl s refl

  -- ---- one part of a route

  -- a slot that leaves an abort, which may be old
  left-planned : (outside : List ℕ) (j k : ℕ) (x : Plan) (P : List Watch → List Bool → Type 0) → k ≤ length outside + 1 → Planned outside (min k (length outside)) x P → Planned (outside ++ j ∷ []) k (fit k x) (λ ws z. P (without_last ws) z)
  left-planned outside j k x P h g =
      ⊎_elim
      (λ l.
      let size : length x.0 ≡ k = g.size ∙ l in
      let same = sym (fitted-same k x.0 size) in
      let short : length x.0 ≤ length outside = (let z = g.size in omega (arith, z)) in
      let Q : List Watch → Type 0 = λ ws. P ws x.1 in
      let R : List Bool → Type 0 = λ f. P (without_last (made image f (outside ++ j ∷ []))) x.1 in
      record {
        size = fitted-size k x.0;
        are = subst (AreFlags image (outside ++ j ∷ [])) same (flags-more image outside x.0 j g.are);
        holds = subst R same (subst Q (sym (ap without_last (made-enter image outside x.0 j short) ∙ without-with image (new_entry image j) (made image x.0 outside))) g.holds);
      })
      (λ l.
      let whole : length x.0 ≡ length outside = (let z = g.size in omega (arith, l, z)) in
      let same = sym (fitted-one k x.0 (omega (arith, l, whole))) in
      let Q : List Watch → Type 0 = λ ws. P ws x.1 in
      let R : List Bool → Type 0 = λ f. P (without_last (made image f (outside ++ j ∷ []))) x.1 in
      record {
        size = fitted-size k x.0;
        are = subst (AreFlags image (outside ++ j ∷ [])) same (flags-join image outside (j ∷ []) x.0 (false ∷ []) whole g.are ((λ t. absurd (false≢true t)), tt));
        holds = subst R same (subst Q (sym (ap without_last (made-more image outside x.0 false j whole) ∙ without-with image (aged_entry image j false) (made image x.0 outside))) g.holds);
      })
      (either k (length outside) h)
    where
      either : (k m : ℕ) → k ≤ m + 1 → (min k m ≡ k) ⊎ (k ≡ m + 1)
      either k m h = told (nat_le k m) refl
        where
          told : (b : Bool) → nat_le k m ≡ b → (min k m ≡ k) ⊎ (k ≡ m + 1)
          told true e = let l : k ≤ m = leb-true k m e in inl (omega (arith, l))
          told false e = let l : m < k = grind (arith, nat_tests, e) in inr (omega (arith, l, h))

  same-kind : (s : ℕ) (a : List ℕ) (p q : ℕ) → IsIn p s a → IsIn q s a → IsAt E D q (D.line p)
  same-kind s a p q here there = (there.0 ∙ sym here.0, there.1)

  -- a stretch, and what is behind it
  along : (fuel : ℕ) → Under fuel → (s : ℕ) (a : List ℕ) (k p c q : ℕ) (choices : List Bool) (side : Side) (n : ℕ) → n ≤ suc fuel → IsIn p s a → k ≤ length a → Crosses image costs p c choices q → IsOpen image cert costs q s a →
      more c (num image view costs side k q) ≡ Some n → Planned a k (behind_choices choices (next fuel q side k)) (RouteAt p side n)
  along fuel ih s a k p c q choices side n f here h via at e =
      let m = more-is c (num image view costs side k q) n e in
      let low = via.costs_one in
      let sum = m.2 in
      planned-map a k (next fuel q side k) choices (RouteAt q side m.0) (RouteAt p side n)
      (λ ws z w. passes c q m.0 choices z via (same-kind s a p q here (open-at image cert costs q s a at)) w sum refl)
      (ih s a k q side m.0 (omega (arith, f, sum, low)) (open-at image cert costs q s a at) h m.1)

  stretch-straight : (fuel : ℕ) (p : ℕ) (side : Side) (k : ℕ) (w : Option Word) (r : Region) → stretch image find w p ≡ Some r →
      stretch_plan image view costs find (next fuel) (Some r) side k ≡ straight_plan image view costs find (next fuel) w p side k
  stretch-straight fuel p side k None r e = absurd (none-some r e)
  stretch-straight fuel p side k (Some (Jump None)) r e = absurd (none-some r e)
  stretch-straight fuel p side k (Some (Jump (Some goal))) r e = absurd (none-some r e)
  stretch-straight fuel p side k (Some (Branch None)) r e = absurd (none-some r e)
  stretch-straight fuel p side k (Some (Branch (Some goal))) r e = absurd (none-some r e)
  stretch-straight fuel p side k (Some other) r e = ap (λ o. stretch_plan image view costs find (next fuel) o side k) (sym e)

  straight-planned : (fuel : ℕ) → Under fuel → (s : ℕ) (a : List ℕ) (k p : ℕ) (side : Side) (n : ℕ) → n ≤ suc fuel → IsIn p s a → k ≤ length a → Has image cert costs side k p n → IsStep image cert costs find p s a →
      Planned a k (straight_plan image view costs find (next fuel) (unit_word image p) p side k) (RouteAt p side n)
  straight-planned fuel ih s a k p side n f here h e (passing r laid start low few less at are told) =
      let P : Plan → Type 0 = λ x. Planned a k x (RouteAt p side n) in
      subst P (stretch-straight fuel p side k (unit_word image p) r told)
      (along fuel ih s a k p (through image costs r) (to r) (dearest_way image costs r) side n f here h (crossing-stretch r p laid start low few less) at (sym (are side k h) ∙ e))
  straight-planned fuel ih s a k p side n f here h e (jumping goal u at are) =
      let P : Option Word → Type 0 = λ w. Planned a k (straight_plan image view costs find (next fuel) w p side k) (RouteAt p side n) in
      subst P (sym u) (along fuel ih s a k p (extra image costs p + cost_of costs class.Jump) goal [] side n f here h (jump-stretch p goal u) at (sym (are side k h) ∙ e))
  straight-planned fuel ih s a k p side n f here h e (branching goal u at straight are) =
      let P : Option Word → Type 0 = λ w. Planned a k (straight_plan image view costs find (next fuel) w p side k) (RouteAt p side n) in
      subst P (sym u) (by (is_second first second) (greater-so first second n (sym (are side k h) ∙ e) (is_second first second) refl))
    where
      first : Option ℕ
      first = more (extra image costs p + cost_of costs class.Untaken) (num image view costs side k (behind image p))

      second : Option ℕ
      second = more (extra image costs p + cost_of costs class.Taken) (num image view costs side k goal)

      by : (t : Bool) → (if t then second else first) ≡ Some n → Planned a k (if t then behind_choices (true ∷ []) (next fuel goal side k) else behind_choices (false ∷ []) (next fuel (behind image p) side k)) (RouteAt p side n)
      by true x = along fuel ih s a k p (extra image costs p + cost_of costs class.Taken) goal (true ∷ []) side n f here h (taken-stretch p goal u) at x
      by false x = along fuel ih s a k p (extra image costs p + cost_of costs class.Untaken) (behind image p) (false ∷ []) side n f here h (untaken-stretch p goal u) straight x

  from-step : (fuel : ℕ) → Under fuel → (s : ℕ) (a : List ℕ) (k p : ℕ) (side : Side) (n : ℕ) → n ≤ suc fuel → IsIn p s a → k ≤ length a → Has image cert costs side k p n → (o : Option Instr) → instr_at image p ≡ o →
      IsStepWith image cert costs find o p s a → Planned a k (word_plan image view costs find (next fuel) o a p side k) (RouteAt p side n)
  from-step fuel ih s a k p side n f here h e (Some (instr.Abrt j)) word are =
      let m = more-is (cost_of costs class.Abrt) (num image view costs side k (p + 1)) n (sym (are side k h) ∙ e) in
      let low = one class.Abrt in
      let sum = m.2 in
      let fine = (fine-at p s a (Abrt j) here (ap (read_instr image p None) word)).2 in
      let longer = length-last a j in
      let r = ih s (a ++ j ∷ []) k (p + 1) side m.0 (omega (arith, f, sum, low)) fine (omega (arith, longer, h)) m.1 in
      let x = next fuel (p + 1) side k in
      let short : length x.0 ≤ length a = (let z = r.size in omega (arith, z, h)) in
      let W : List Watch → Type 0 = λ ws. Route image cert costs ws (p + 1) side m.0 x.1 in
      record { size = r.size; are = flags-less image a x.0 j short r.are; holds = enters j m.0 word (subst W (made-enter image a x.0 j short) r.holds) sum }
  from-step fuel ih s a k p side n f here h e (Some instr.Leave) word are =
      let m = more-is (cost_of costs class.Leave) (num image view costs side (min k (length a - 1)) (p + 1)) n (sym (are side k h) ∙ e) in
      let low = one class.Leave in
      let sum = m.2 in
      let fine = fine-at p s a Leave here (ap (read_instr image p None) word) in
      let outside = fine.0 in
      let j = fine.1 in
      let longer = length-last outside j in
      let size = ap (λ (l : List ℕ). length l) fine.2 in
      let less : length a - 1 ≡ length outside = omega (arith, size, longer) in
      let within : k ≤ length outside + 1 = omega (arith, h, size, longer) in
      let N : ℕ → Type 0 = λ i. Has image cert costs side (min k i) (p + 1) m.0 in
      let Q : ℕ → Type 0 = λ i. Planned a k (fit k (next fuel (p + 1) side (min k i))) (RouteAt p side n) in
      let x = next fuel (p + 1) side (min k (length outside)) in
      let L : List ℕ → Type 0 = λ b. Planned b k (fit k x) (RouteAt p side n) in
      subst Q (sym less)
      (subst L (sym fine.2)
      (planned-same (outside ++ j ∷ []) k (fit k x) (λ ws z. Route image cert costs (without_last ws) (p + 1) side m.0 z) (RouteAt p side n) (λ ws z w. leaves m.0 word w sum)
      (left-planned outside j k x (RouteAt (p + 1) side m.0) within (ih s outside (min k (length outside)) (p + 1) side m.0 (omega (arith, f, sum, low)) fine.3 (omega arith) (subst N less m.1)))))
  from-step fuel ih s a k p side n f here h e (Some instr.Eot) word are =
      let m = more-is (cost_of costs class.Eot) (resting image view costs a k side) n (ap (more (cost_of costs class.Eot)) (resting-same image cert costs a k side) ∙ sym (are side k h) ∙ e) in
      let low = one class.Eot in
      let sum = m.2 in
      planned-same a k (resting_plan image view costs (next fuel) a k side) (RestedSo side m.0) (RouteAt p side n) (λ ws z w. pauses m.0 word w sum) (rested-planned fuel ih p s k a side m.0 (omega (arith, f, sum, low)) here h m.1)
  from-step fuel ih s a k p side n f here h e (Some (instr.Fork lo count)) word are =
      let m = more-is (cost_of costs class.Fork) (grouping image view costs p lo count a k side) n (ap (more (cost_of costs class.Fork)) (grouping-same image cert costs p lo count a k side) ∙ sym (are side k h) ∙ e) in
      let low = one class.Fork in
      let sum = m.2 in
      let fine = fine-at p s a (Fork lo count) here (ap (read_instr image p None) word) in
      by m.0 (omega (arith, f, sum, low)) sum fine.0 fine.1.4 (is_second first second) (greater-so first second m.0 m.1 (is_second first second) refl)
    where
      first : Option ℕ
      first = plus (most_paused (begins image view costs) lo count) (resting image view costs a k side)

      second : Option ℕ
      second = plus (all_ends (begins image view costs) lo count) (num image view costs side k (p + 1))

      by : (m : ℕ) → m ≤ fuel → n ≡ cost_of costs class.Fork + m → IsIn (p + 1) s a → Starting lo count → (t : Bool) → (if t then second else first) ≡ Some m →
          Planned a k
          (if t then behind_choices (ended_choices image view costs (next fuel) lo count) (next fuel (p + 1) side k)
          else behind_choices (paused_choices image view costs (next fuel) lo count) (resting_plan image view costs (next fuel) a k side)) (RouteAt p side n)
      by m less sum after kids true x =
          let q = plus-is (all_ends (begins image view costs) lo count) (num image view costs side k (p + 1)) m x in
          let y = q.4 in
          let z = ended_choices image view costs (next fuel) lo count in
          planned-map a k (next fuel (p + 1) side k) z (RouteAt (p + 1) side q.1) (RouteAt p side n)
          (λ ws rest w. forks lo count ToEnd q.0 q.1 z rest word (ends-routes fuel ih count lo kids q.0 (omega (arith, y, less)) q.2) (joins refl w) (omega (arith, sum, y)) refl)
          (ih s a k (p + 1) side q.1 (omega (arith, y, less)) after h q.3)
      by m less sum after kids false x =
          let q = plus-is (most_paused (begins image view costs) lo count) (resting image view costs a k side) m x in
          let y = q.4 in
          let z = paused_choices image view costs (next fuel) lo count in
          planned-map a k (resting_plan image view costs (next fuel) a k side) z (RestedSo side q.1) (RouteAt p side n)
          (λ ws rest w. forks lo count ToPause q.0 q.1 z rest word (paused-routes fuel ih count lo kids q.0 (omega (arith, y, less)) q.2) (rests refl w) (omega (arith, sum, y)) refl)
          (rested-planned fuel ih p s k a side q.1 (omega (arith, y, less)) here h q.3)
  from-step fuel ih s a k p side n f here h e (Some instr.End) word are =
      let x = ended-is side n (sym (are side k h) ∙ e) in
      none-planned a k (RouteAt p side n) h (λ ws none. ends word x.0 x.1 refl)
    where
      ended-is : (y : Side) (m : ℕ) → ended image cert costs y ≡ Some m → (y ≡ ToEnd) × (m ≡ cost_of costs class.End)
      ended-is ToPause m k = absurd (none-some m k)
      ended-is ToEnd m k = (refl, sym (same_Some (cost_of costs class.End) m k))
  from-step fuel ih s a k p side n f here h e (Some other) word g = straight-planned fuel ih s a k p side n f here h e g
  from-step fuel ih s a k p side n f here h e None word g = straight-planned fuel ih s a k p side n f here h e g

  -- each number of an open place is at least one
  straight-least : (s : ℕ) (a : List ℕ) (k p : ℕ) (side : Side) (n : ℕ) → k ≤ length a → Has image cert costs side k p n → IsStep image cert costs find p s a → 1 ≤ n
  straight-least s a k p side n h e (passing r laid start low few less at are told) =
      let m = more-is (through image costs r) (num image view costs side k (to r)) n (sym (are side k h) ∙ e) in
      let sum = m.2 in
      omega (arith, low, sum)
  straight-least s a k p side n h e (jumping goal u at are) =
      let m = more-is (extra image costs p + cost_of costs class.Jump) (num image view costs side k goal) n (sym (are side k h) ∙ e) in
      let sum = m.2 in
      let low = one class.Jump in
      omega (arith, low, sum)
  straight-least s a k p side n h e (branching goal u at straight are) = by (is_second first second) (greater-so first second n (sym (are side k h) ∙ e) (is_second first second) refl)
    where
      first : Option ℕ
      first = more (extra image costs p + cost_of costs class.Untaken) (num image view costs side k (behind image p))

      second : Option ℕ
      second = more (extra image costs p + cost_of costs class.Taken) (num image view costs side k goal)

      by : (t : Bool) → (if t then second else first) ≡ Some n → 1 ≤ n
      by true x =
          let m = more-is (extra image costs p + cost_of costs class.Taken) (num image view costs side k goal) n x in
          let sum = m.2 in
          let low = one class.Taken in
          omega (arith, low, sum)
      by false x =
          let m = more-is (extra image costs p + cost_of costs class.Untaken) (num image view costs side k (behind image p)) n x in
          let sum = m.2 in
          let low = one class.Untaken in
          omega (arith, low, sum)

  costs-least : (c : Class) (o : Option ℕ) (n : ℕ) → more (cost_of costs c) o ≡ Some n → 1 ≤ n
  costs-least c o n e =
      let m = more-is (cost_of costs c) o n e in
      let sum = m.2 in
      let low = one c in
      omega (arith, low, sum)

  least : (s : ℕ) (a : List ℕ) (k p : ℕ) (side : Side) (n : ℕ) → k ≤ length a → Has image cert costs side k p n → (o : Option Instr) → IsStepWith image cert costs find o p s a → 1 ≤ n
  least s a k p side n h e (Some (instr.Abrt j)) are = costs-least class.Abrt (num image view costs side k (p + 1)) n (sym (are side k h) ∙ e)
  least s a k p side n h e (Some instr.Leave) are = costs-least class.Leave (num image view costs side (min k (length a - 1)) (p + 1)) n (sym (are side k h) ∙ e)
  least s a k p side n h e (Some instr.Eot) are = costs-least class.Eot (resting image cert costs a k side) n (sym (are side k h) ∙ e)
  least s a k p side n h e (Some (instr.Fork lo count)) are = costs-least class.Fork (grouping image cert costs p lo count a k side) n (sym (are side k h) ∙ e)
  least s a k p side n h e (Some instr.End) are = ended-least side (sym (are side k h) ∙ e)
    where
      ended-least : (y : Side) → ended image cert costs y ≡ Some n → 1 ≤ n
      ended-least ToPause x = absurd (none-some n x)
      ended-least ToEnd x = let same = same_Some (cost_of costs class.End) n x in let low = one class.End in omega (arith, same, low)
  least s a k p side n h e (Some other) g = straight-least s a k p side n h e g
  least s a k p side n h e None g = straight-least s a k p side n h e g

  pub route-of : (fuel : ℕ) → Under fuel
  route-of zero s a k p side n f here h e = absurd (let low = least s a k p side n h e (instr_at image p) (steps p s a (at-open image cert costs p s a here)) in omega (arith, low, f))
  route-of (suc fuel) s a k p side n f here h e =
      let open_here = at-open image cert costs p s a here in
      let P : List ℕ → Type 0 = λ b. Planned a k (word_plan image view costs find (next fuel) (instr_at image p) b p side k) (RouteAt p side n) in
      subst P (sym (stack-at (line_at cert.lines p) s a open_here.0))
      (from-step fuel (λ s' a' k' p' side' n' f' here' h' e'. route-of fuel s' a' k' p' side' n' f' here' h' e') s a k p side n f here h e (instr_at image p) refl (steps p s a open_here))
