-- Parts of a certificate's lines: what is read of them is spelled so, and what is spelled so is read.
use Rattle.std.proofs.Common.{◌≡◌, ℕ, ◌+◌, true, cond, eqb, leb, List, [], ◌∷◌, ◌++◌, length, Option, Some, None, refl, sym, ap, subst, ◌∙◌, append_assoc, arith, inl, inr, lit≤}
use Rattle.std.specs.Fmt.{decimal}
use Rattle.std.proofs.lemmas.Bool.{eqb-true, ne_eqb, leb-true, le-leb}
use Rattle.pt_base.specs.Spelling.{each, number_text, list_text, numbers_text}
use Rattle.pt_base.specs.Reading.{◌>>=◌, past_at, number_at, number_then_at, list_at, numbers_at, many_at}
use Rattle.pt_base.proofs.Laws.{Reads, Anything, bind_some, some_is, test_some, chosen, past_found, many_found, many_again}
use Rattle.pt_base.proofs.NumberLaws.{NoDigit, leads, number_found, number_again}
use Rattle.pt_base.proofs.FieldLaws.{number_then_reads, list_reads, numbers_read}
use Rattle.tk_cert.specs.declared.cert.Line.{Line}
use Rattle.tk_cert.specs.declared.cert.Line.TheVariants.{Bare, Thread, Routine, Cond}
use Rattle.tk_cert.specs.Text.{optional_text, level_text, thread_text, routine_text, cond_text, line_text}
use Rattle.tk_cert.specs.Reading.{too_large, optional_of, optional_at, level_at, thread_at, routine_at, cond_at, bare_at, line_at}
use Rattle.tk_cert.specs.Form.{IsNumber, IsOptional, ArePair, IsLine}

-- ---- a number or none

optional_of_found : (bytes : List ℕ) (o : Option (List ℕ)) (x : Option ℕ) (rest : List ℕ) → past_at 45 bytes ≡ o → optional_of bytes o ≡ Some (x, rest) → IsOptional x × (bytes ≡ optional_text x ++ rest)
optional_of_found bytes None x rest p e =
    let a = bind_some (number_at too_large bytes) (λ n. Some (Some n.0, n.1)) (x, rest) e in
    let f = number_found too_large bytes a.0.0 a.0.1 (lit≤ tt) a.1 in
    subst (λ (y : Option ℕ × List ℕ). IsOptional y.0 × (bytes ≡ optional_text y.0 ++ y.1)) (some_is (Some a.0.0, a.0.1) (x, rest) a.2) f
optional_of_found bytes (Some after) x rest p e =
    subst (λ (y : Option ℕ × List ℕ). IsOptional y.0 × (bytes ≡ optional_text y.0 ++ y.1)) (some_is (None, after) (x, rest) e) (tt, past_found 45 bytes after p)

optional_found : (bytes : List ℕ) (x : Option ℕ) (rest : List ℕ) → optional_at bytes ≡ Some (x, rest) → IsOptional x × (bytes ≡ optional_text x ++ rest)
unfolding optional_at
optional_found bytes x rest e = optional_of_found bytes (past_at 45 bytes) x rest refl e

optional_again : (x : Option ℕ) (rest : List ℕ) → IsOptional x → NoDigit rest → optional_at (optional_text x ++ rest) ≡ Some (x, rest)
unfolding optional_at
optional_again None rest is stop = refl
optional_again (Some n) rest is stop =
    let l = leads n (omega arith) in
    let plain : past_at 45 (decimal n ++ rest) ≡ None = rw (l.is, ne_eqb l.first 45 (λ e. omega (arith, l.low))) refl in
    rw (plain, number_again too_large n rest (lit≤ tt) is stop) refl

pub optional_reads : Reads optional_at optional_text IsOptional NoDigit
optional_reads = record { found = optional_found; again = optional_again }

-- ---- levels

level_found : (bytes : List ℕ) (x : Option ℕ × Option ℕ) (rest : List ℕ) → level_at bytes ≡ Some (x, rest) → ArePair x × (bytes ≡ level_text x ++ rest)
unfolding level_at
level_found bytes x rest e =
    let a = bind_some (past_at 32 bytes) (λ front. optional_at front >>= λ p. past_at 32 p.1 >>= λ middle. optional_at middle >>= λ q. Some ((p.0, q.0), q.1)) (x, rest) e in
    let p = bind_some (optional_at a.0) (λ p. past_at 32 p.1 >>= λ middle. optional_at middle >>= λ q. Some ((p.0, q.0), q.1)) (x, rest) a.2 in
    let m = bind_some (past_at 32 p.0.1) (λ middle. optional_at middle >>= λ q. Some ((p.0.0, q.0), q.1)) (x, rest) p.2 in
    let q = bind_some (optional_at m.0) (λ q. Some ((p.0.0, q.0), q.1)) (x, rest) m.2 in
    let fp = optional_found a.0 p.0.0 p.0.1 p.1 in
    let fq = optional_found m.0 q.0.0 q.0.1 q.1 in
    let tail : p.0.1 ≡ (32 ∷ optional_text q.0.0) ++ q.0.1 = past_found 32 p.0.1 m.0 m.1 ∙ ap (λ (t : List ℕ). 32 ∷ t) fq.1 in
    let both : bytes ≡ level_text (p.0.0, q.0.0) ++ q.0.1 = past_found 32 bytes a.0 a.1 ∙ ap (λ (t : List ℕ). 32 ∷ t) (fp.1 ∙ ap (λ (t : List ℕ). optional_text p.0.0 ++ t) tail ∙ sym (append_assoc (optional_text p.0.0) (32 ∷ optional_text q.0.0) q.0.1)) in
    subst (λ (y : (Option ℕ × Option ℕ) × List ℕ). ArePair y.0 × (bytes ≡ level_text y.0 ++ y.1)) (some_is ((p.0.0, q.0.0), q.0.1) (x, rest) q.2) ((fp.0, fq.0), both)

level_again : (x : Option ℕ × Option ℕ) (rest : List ℕ) → ArePair x → NoDigit rest → level_at (level_text x ++ rest) ≡ Some (x, rest)
unfolding level_at
level_again x rest is stop =
    let e : level_text x ++ rest ≡ 32 ∷ (optional_text x.0 ++ (32 ∷ (optional_text x.1 ++ rest))) = ap (λ (t : List ℕ). 32 ∷ t) (append_assoc (optional_text x.0) (32 ∷ optional_text x.1) rest) in
    ap level_at e ∙ rw (optional_again x.0 (32 ∷ (optional_text x.1 ++ rest)) is.0 refl, optional_again x.1 rest is.1 stop) refl

pub level_reads : Reads level_at level_text ArePair NoDigit
level_reads = record { found = level_found; again = level_again }

levels_stop : (ls : List (Option ℕ × Option ℕ)) (rest : List ℕ) → NoDigit (each level_text ls ++ (10 ∷ rest))
levels_stop [] rest = refl
levels_stop (l ∷ ls) rest = refl

-- ---- lines

-- what is read behind a letter is the line's text behind it
abbrev Found : ℕ → List ℕ → Line → List ℕ → Type 0
Found letter bytes x rest = IsLine x × (letter ∷ bytes ≡ line_text x ++ rest)

thread_found : (bytes : List ℕ) (x : Line) (rest : List ℕ) → thread_at bytes ≡ Some (x, rest) → Found 84 bytes x rest
unfolding thread_at
thread_found bytes x rest e =
    let a = bind_some (past_at 32 bytes) (λ front. number_then_at 32 64 front >>= λ slot. numbers_at 32 9 4294967296 slot.1 >>= λ stack. list_at 9 65536 stack.1 >>= λ loops. many_at level_at (length stack.0 + 1) loops.1 >>= λ levels. past_at 10 levels.1 >>= λ r. Some (Thread slot.0 stack.0 loops.0 levels.0, r)) (x, rest) e in
    let s = bind_some (number_then_at 32 64 a.0) (λ slot. numbers_at 32 9 4294967296 slot.1 >>= λ stack. list_at 9 65536 stack.1 >>= λ loops. many_at level_at (length stack.0 + 1) loops.1 >>= λ levels. past_at 10 levels.1 >>= λ r. Some (Thread slot.0 stack.0 loops.0 levels.0, r)) (x, rest) a.2 in
    let k = bind_some (numbers_at 32 9 4294967296 s.0.1) (λ stack. list_at 9 65536 stack.1 >>= λ loops. many_at level_at (length stack.0 + 1) loops.1 >>= λ levels. past_at 10 levels.1 >>= λ r. Some (Thread s.0.0 stack.0 loops.0 levels.0, r)) (x, rest) s.2 in
    let m = bind_some (list_at 9 65536 k.0.1) (λ loops. many_at level_at (length k.0.0 + 1) loops.1 >>= λ levels. past_at 10 levels.1 >>= λ r. Some (Thread s.0.0 k.0.0 loops.0 levels.0, r)) (x, rest) k.2 in
    let l = bind_some (many_at level_at (length k.0.0 + 1) m.0.1) (λ levels. past_at 10 levels.1 >>= λ r. Some (Thread s.0.0 k.0.0 m.0.0 levels.0, r)) (x, rest) m.2 in
    let r = bind_some (past_at 10 l.0.1) (λ r. Some (Thread s.0.0 k.0.0 m.0.0 l.0.0, r)) (x, rest) l.2 in
    let fs = (number_then_reads 32 64 (lit≤ tt) refl).found a.0 s.0.0 s.0.1 s.1 in
    let fk = (numbers_read 32 9 4294967296 (lit≤ tt) (lit≤ tt) refl).found s.0.1 k.0.0 k.0.1 k.1 in
    let fm = (list_reads 9 65536 (lit≤ tt) (lit≤ tt)).found k.0.1 m.0.0 m.0.1 m.1 in
    let fl = many_found level_at level_text ArePair NoDigit level_reads (length k.0.0 + 1) m.0.1 l.0.0 l.0.1 l.1 in
    let tail : m.0.1 ≡ (each level_text l.0.0 ++ 10 ∷ []) ++ r.0 = fl.2 ∙ ap (λ (t : List ℕ). each level_text l.0.0 ++ t) (past_found 10 l.0.1 r.0 r.1) ∙ sym (append_assoc (each level_text l.0.0) (10 ∷ []) r.0) in
    let lists : k.0.1 ≡ (list_text m.0.0 ++ (each level_text l.0.0 ++ 10 ∷ [])) ++ r.0 = fm.1 ∙ ap (λ (t : List ℕ). list_text m.0.0 ++ t) tail ∙ sym (append_assoc (list_text m.0.0) (each level_text l.0.0 ++ 10 ∷ []) r.0) in
    let inner : s.0.1 ≡ (numbers_text 32 k.0.0 ++ (list_text m.0.0 ++ (each level_text l.0.0 ++ 10 ∷ []))) ++ r.0 = fk.1 ∙ ap (λ (t : List ℕ). numbers_text 32 k.0.0 ++ t) lists ∙ sym (append_assoc (numbers_text 32 k.0.0) (list_text m.0.0 ++ (each level_text l.0.0 ++ 10 ∷ [])) r.0) in
    let outer : a.0 ≡ (number_text 32 s.0.0 ++ (numbers_text 32 k.0.0 ++ (list_text m.0.0 ++ (each level_text l.0.0 ++ 10 ∷ [])))) ++ r.0 = fs.1 ∙ ap (λ (t : List ℕ). number_text 32 s.0.0 ++ t) inner ∙ sym (append_assoc (number_text 32 s.0.0) (numbers_text 32 k.0.0 ++ (list_text m.0.0 ++ (each level_text l.0.0 ++ 10 ∷ []))) r.0) in
    let whole : 84 ∷ bytes ≡ line_text (Thread s.0.0 k.0.0 m.0.0 l.0.0) ++ r.0 = ap (λ (t : List ℕ). 84 ∷ t) (past_found 32 bytes a.0 a.1 ∙ ap (λ (t : List ℕ). 32 ∷ t) outer) in
    subst (λ (y : Line × List ℕ). Found 84 bytes y.0 y.1) (some_is (Thread s.0.0 k.0.0 m.0.0 l.0.0, r.0) (x, rest) r.2)
    ((fs.0, (omega (arith, fk.0.0), fk.0.1), (omega (arith, fm.0.0), fm.0.1), fl.0, fl.1), whole)

thread_again : (slot : ℕ) (stack loops : List ℕ) (levels : List (Option ℕ × Option ℕ)) (rest : List ℕ) → IsLine (Thread slot stack loops levels) → thread_at (thread_text slot stack loops levels ++ rest) ≡ Some (Thread slot stack loops levels, rest)
unfolding thread_at
thread_again slot stack loops levels rest is =
    let last = each level_text levels ++ (10 ∷ rest) in
    let e1 : (each level_text levels ++ 10 ∷ []) ++ rest ≡ last = append_assoc (each level_text levels) (10 ∷ []) rest in
    let e2 : (list_text loops ++ (each level_text levels ++ 10 ∷ [])) ++ rest ≡ list_text loops ++ last = append_assoc (list_text loops) (each level_text levels ++ 10 ∷ []) rest ∙ ap (λ (t : List ℕ). list_text loops ++ t) e1 in
    let e3 : (numbers_text 32 stack ++ (list_text loops ++ (each level_text levels ++ 10 ∷ []))) ++ rest ≡ numbers_text 32 stack ++ (list_text loops ++ last) = append_assoc (numbers_text 32 stack) (list_text loops ++ (each level_text levels ++ 10 ∷ [])) rest ∙ ap (λ (t : List ℕ). numbers_text 32 stack ++ t) e2 in
    let e4 : thread_text slot stack loops levels ++ rest ≡ 32 ∷ (number_text 32 slot ++ (numbers_text 32 stack ++ (list_text loops ++ last))) = ap (λ (t : List ℕ). 32 ∷ t) (append_assoc (number_text 32 slot) (numbers_text 32 stack ++ (list_text loops ++ (each level_text levels ++ 10 ∷ []))) rest ∙ ap (λ (t : List ℕ). number_text 32 slot ++ t) e3) in
    let m : many_at level_at (length stack + 1) last ≡ Some (levels, 10 ∷ rest) = subst (λ (k : ℕ). many_at level_at k last ≡ Some (levels, 10 ∷ rest)) is.3 (many_again level_at level_text ArePair NoDigit level_reads (λ x r. refl) levels (10 ∷ rest) is.4 refl) in
    ap thread_at e4
    ∙ rw ((number_then_reads 32 64 (lit≤ tt) refl).again slot (numbers_text 32 stack ++ (list_text loops ++ last)) is.0 tt, (numbers_read 32 9 4294967296 (lit≤ tt) (lit≤ tt) refl).again stack (list_text loops ++ last) (omega (arith, is.1.0), is.1.1) tt, (list_reads 9 65536 (lit≤ tt) (lit≤ tt)).again loops last (omega (arith, is.2.0), is.2.1) (levels_stop levels rest), m) refl

routine_found : (bytes : List ℕ) (x : Line) (rest : List ℕ) → routine_at bytes ≡ Some (x, rest) → Found 82 bytes x rest
unfolding routine_at
routine_found bytes x rest e =
    let a = bind_some (past_at 32 bytes) (λ front. number_then_at 32 17 front >>= λ h. numbers_at 32 9 65536 h.1 >>= λ loops. number_then_at 10 too_large loops.1 >>= λ v. cond (leb 1 h.0) (Some (Routine h.0 loops.0 v.0, v.1)) None) (x, rest) e in
    let h = bind_some (number_then_at 32 17 a.0) (λ h. numbers_at 32 9 65536 h.1 >>= λ loops. number_then_at 10 too_large loops.1 >>= λ v. cond (leb 1 h.0) (Some (Routine h.0 loops.0 v.0, v.1)) None) (x, rest) a.2 in
    let m = bind_some (numbers_at 32 9 65536 h.0.1) (λ loops. number_then_at 10 too_large loops.1 >>= λ v. cond (leb 1 h.0.0) (Some (Routine h.0.0 loops.0 v.0, v.1)) None) (x, rest) h.2 in
    let v = bind_some (number_then_at 10 too_large m.0.1) (λ v. cond (leb 1 h.0.0) (Some (Routine h.0.0 m.0.0 v.0, v.1)) None) (x, rest) m.2 in
    let t = test_some (leb 1 h.0.0) (Some (Routine h.0.0 m.0.0 v.0.0, v.0.1)) (x, rest) v.2 in
    let fh = (number_then_reads 32 17 (lit≤ tt) refl).found a.0 h.0.0 h.0.1 h.1 in
    let fm = (numbers_read 32 9 65536 (lit≤ tt) (lit≤ tt) refl).found h.0.1 m.0.0 m.0.1 m.1 in
    let fv = (number_then_reads 10 too_large (lit≤ tt) refl).found m.0.1 v.0.0 v.0.1 v.1 in
    let inner : h.0.1 ≡ (numbers_text 32 m.0.0 ++ number_text 10 v.0.0) ++ v.0.1 = fm.1 ∙ ap (λ (t : List ℕ). numbers_text 32 m.0.0 ++ t) fv.1 ∙ sym (append_assoc (numbers_text 32 m.0.0) (number_text 10 v.0.0) v.0.1) in
    let outer : a.0 ≡ (number_text 32 h.0.0 ++ (numbers_text 32 m.0.0 ++ number_text 10 v.0.0)) ++ v.0.1 = fh.1 ∙ ap (λ (t : List ℕ). number_text 32 h.0.0 ++ t) inner ∙ sym (append_assoc (number_text 32 h.0.0) (numbers_text 32 m.0.0 ++ number_text 10 v.0.0) v.0.1) in
    let whole : 82 ∷ bytes ≡ line_text (Routine h.0.0 m.0.0 v.0.0) ++ v.0.1 = ap (λ (t : List ℕ). 82 ∷ t) (past_found 32 bytes a.0 a.1 ∙ ap (λ (t : List ℕ). 32 ∷ t) outer) in
    subst (λ (y : Line × List ℕ). Found 82 bytes y.0 y.1) (some_is (Routine h.0.0 m.0.0 v.0.0, v.0.1) (x, rest) t.1)
    ((leb-true 1 h.0.0 t.0, omega (arith, fh.0), (omega (arith, fm.0.0), fm.0.1), fv.0), whole)

routine_again : (height : ℕ) (loops : List ℕ) (value : ℕ) (rest : List ℕ) → IsLine (Routine height loops value) → routine_at (routine_text height loops value ++ rest) ≡ Some (Routine height loops value, rest)
unfolding routine_at
routine_again height loops value rest is =
    let e : routine_text height loops value ++ rest ≡ 32 ∷ (number_text 32 height ++ (numbers_text 32 loops ++ (number_text 10 value ++ rest))) = ap (λ (t : List ℕ). 32 ∷ t) (append_assoc (number_text 32 height) (numbers_text 32 loops ++ number_text 10 value) rest ∙ ap (λ (t : List ℕ). number_text 32 height ++ t) (append_assoc (numbers_text 32 loops) (number_text 10 value) rest)) in
    ap routine_at e
    ∙ rw ((number_then_reads 32 17 (lit≤ tt) refl).again height (numbers_text 32 loops ++ (number_text 10 value ++ rest)) (omega (arith, is.1)) tt, (numbers_read 32 9 65536 (lit≤ tt) (lit≤ tt) refl).again loops (number_text 10 value ++ rest) (omega (arith, is.2.0), is.2.1) tt, (number_then_reads 10 too_large (lit≤ tt) refl).again value rest is.3 tt, le-leb 1 height is.0) refl

cond_found : (bytes : List ℕ) (x : Line) (rest : List ℕ) → cond_at bytes ≡ Some (x, rest) → Found 67 bytes x rest
unfolding cond_at
cond_found bytes x rest e =
    let a = bind_some (past_at 32 bytes) (λ front. number_then_at 10 too_large front >>= λ v. Some (Cond v.0, v.1)) (x, rest) e in
    let v = bind_some (number_then_at 10 too_large a.0) (λ v. Some (Cond v.0, v.1)) (x, rest) a.2 in
    let fv = (number_then_reads 10 too_large (lit≤ tt) refl).found a.0 v.0.0 v.0.1 v.1 in
    let whole : 67 ∷ bytes ≡ line_text (Cond v.0.0) ++ v.0.1 = ap (λ (t : List ℕ). 67 ∷ t) (past_found 32 bytes a.0 a.1 ∙ ap (λ (t : List ℕ). 32 ∷ t) fv.1) in
    subst (λ (y : Line × List ℕ). Found 67 bytes y.0 y.1) (some_is (Cond v.0.0, v.0.1) (x, rest) v.2) (fv.0, whole)

cond_again : (value : ℕ) (rest : List ℕ) → IsNumber value → cond_at (cond_text value ++ rest) ≡ Some (Cond value, rest)
unfolding cond_at
cond_again value rest is = rw ((number_then_reads 10 too_large (lit≤ tt) refl).again value rest is tt) refl

bare_found : (bytes : List ℕ) (x : Line) (rest : List ℕ) → bare_at bytes ≡ Some (x, rest) → Found 45 bytes x rest
unfolding bare_at
bare_found bytes x rest e =
    let a = bind_some (past_at 10 bytes) (λ r. Some (Bare, r)) (x, rest) e in
    subst (λ (y : Line × List ℕ). Found 45 bytes y.0 y.1) (some_is (Bare, a.0) (x, rest) a.2) (tt, ap (λ (t : List ℕ). 45 ∷ t) (past_found 10 bytes a.0 a.1))

found_at : (b letter : ℕ) (bytes : List ℕ) (x : Line) (rest : List ℕ) → eqb b letter ≡ true → Found letter bytes x rest → Found b bytes x rest
found_at b letter bytes x rest e f = subst (λ (k : ℕ). Found k bytes x rest) (sym (eqb-true b letter e)) f

line_found : (bytes : List ℕ) (x : Line) (rest : List ℕ) → line_at bytes ≡ Some (x, rest) → IsLine x × (bytes ≡ line_text x ++ rest)
unfolding line_at
line_found [] x rest e = absurd cc
line_found (b ∷ bs) x rest e =
    elim (chosen (eqb b 45) (bare_at bs) (cond (eqb b 84) (thread_at bs) (cond (eqb b 82) (routine_at bs) (cond (eqb b 67) (cond_at bs) None))) (Some (x, rest)) e) [
      | inl p ↦ found_at b 45 bs x rest p.0 (bare_found bs x rest p.1)
      | inr p ↦
          elim (chosen (eqb b 84) (thread_at bs) (cond (eqb b 82) (routine_at bs) (cond (eqb b 67) (cond_at bs) None)) (Some (x, rest)) p.1) [
            | inl q ↦ found_at b 84 bs x rest q.0 (thread_found bs x rest q.1)
            | inr q ↦
                elim (chosen (eqb b 82) (routine_at bs) (cond (eqb b 67) (cond_at bs) None) (Some (x, rest)) q.1) [
                  | inl r ↦ found_at b 82 bs x rest r.0 (routine_found bs x rest r.1)
                  | inr r ↦ let t = test_some (eqb b 67) (cond_at bs) (x, rest) r.1 in found_at b 67 bs x rest t.0 (cond_found bs x rest t.1)
                ]
          ]
    ]

line_again : (x : Line) (rest : List ℕ) → IsLine x → Anything rest → line_at (line_text x ++ rest) ≡ Some (x, rest)
unfolding line_at bare_at
line_again Bare rest is _ = refl
line_again (Thread slot stack loops levels) rest is _ = thread_again slot stack loops levels rest is
line_again (Routine height loops value) rest is _ = routine_again height loops value rest is
line_again (Cond value) rest is _ = cond_again value rest is

pub line_reads : Reads line_at line_text IsLine Anything
line_reads = record { found = line_found; again = line_again }
