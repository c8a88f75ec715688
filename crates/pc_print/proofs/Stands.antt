-- A canonical text whose parts are each read whole is cut into the canonical tokens.
use Rattle.std.proofs.Common.{◌≡◌, ℕ, zero, suc, ◌+◌, ◌-◌, ◌<◌, true, List, [], ◌∷◌, ◌++◌, map, length, take, drop, slice_range, refl, sym, ap, subst, ◌∙◌, append_assoc, append-nil, length-append, arith}
use Rattle.std.proofs.Math.Seq.{take-append_seam}
use Rattle.std.specs.Fmt.{decimal}
use Rattle.pc_grammar.specs.declared.tokens.Sort.{Sort}
use Rattle.pc_grammar.specs.declared.tokens.Sort.TheVariants.{Name, Number}
use Rattle.pc_grammar.specs.declared.tokens.Token.{Token}
use Rattle.pc_grammar.specs.Spelling.{spelling_of}
use Rattle.pc_grammar.specs.Lexing.{is_white, CutEnd, whole, Lexes, done, blank as blank_cut, piece as piece_cut}
use Rattle.pc_grammar.proofs.Cuts.{token_at}
use Rattle.pc_grammar.specs.declared.expressions.Word.{Word}
use Rattle.pc_print.specs.Parts.{Part, mark, word, literal, blank, margin, line_end, blanks, look, text}
use Rattle.pc_print.specs.Tokens.{token_of, tokens, bytes_of_name, plain}
use Rattle.pc_print.proofs.Pieces.{text-append}
use Rattle.pc_print.proofs.Fronts.{ReadWhole, white_front}

-- ---- parts that are read whole

-- a mark is no name
pub record MarkRead (s : Sort) (v : List ℕ) : Type 0 where
  pub read : ReadWhole s (spelling_of s) v
  pub nameless : (x : List ℕ) → bytes_of_name s x ≡ []

-- a name has its bytes in the source
pub record NameRead (source : List ℕ) (w : Word) (v : List ℕ) : Type 0 where
  pub read : ReadWhole Name w.text v
  pub bytes : slice_range source w.span.from w.span.to ≡ w.text

-- before this text, the part is read whole
abbrev pub IsRead : List ℕ → Part → List ℕ → Type 0
IsRead source (mark s) v = MarkRead s v
IsRead source (word w) v = NameRead source w v
IsRead source (literal n) v = ReadWhole (Number n) (decimal n) v
IsRead source blank v = Unit {0}
IsRead source (margin level) v = Unit {0}
IsRead source line_end v = Unit {0}

-- each part is read whole before the next ones and this text
abbrev pub Stands : List ℕ → List Part → List ℕ → Type 0
Stands source [] v = Unit {0}
Stands source (p ∷ parts) v = IsRead source p (text parts ++ v) × Stands source parts v

pub stands-append : (source : List ℕ) (a b : List Part) (v : List ℕ) → Stands source a (text b ++ v) → Stands source b v → Stands source (a ++ b) v
stands-append source [] b v p q = q
stands-append source (x ∷ a) b v p q =
    let e : text a ++ (text b ++ v) ≡ text (a ++ b) ++ v = sym (append_assoc (text a) (text b) v) ∙ ap (λ y. y ++ v) (sym (text-append a b)) in
    (subst (λ y. IsRead source x y) e p.0, stands-append source a b v p.1 q)

-- ---- the cut

drop_front : (u v : List ℕ) → drop (length u) (u ++ v) ≡ v
drop_front [] v = refl
drop_front (b ∷ u) v = drop_front u v

slice_at : (front u v : List ℕ) → slice_range (front ++ (u ++ v)) (length front) (length front + length u) ≡ u
slice_at front u v =
    let e : length front + length u - length front ≡ length u = omega arith in
    ap (λ (n : ℕ). take n (drop (length front) (front ++ (u ++ v)))) e ∙ ap (take (length u)) (drop_front front (u ++ v)) ∙ take-append_seam u v

piece_before : (at : ℕ) (u r : List ℕ) (s : Sort) (ts : List Token) (e : CutEnd) → ReadWhole s u r → Lexes (at + length u) r ts e → Lexes at (u ++ r) (token_at s at (at + length u) ∷ ts) e
piece_before at u r s ts e k d = let some : 0 < length u = k.some in piece_cut s (omega (arith, length-append u r)) k.front (subst (λ x. Lexes (at + length u) x ts e) (sym (drop_front u r)) d)

white_before : (at b : ℕ) (r : List ℕ) (ts : List Token) (e : CutEnd) → is_white b ≡ true → Lexes (at + 1) r ts e → Lexes at (b ∷ r) ts e
white_before at b r ts e white d = blank_cut (omega arith) (white_front b r white) d

margin_before : (at level : ℕ) (r : List ℕ) (ts : List Token) (e : CutEnd) → Lexes (at + length (blanks level)) r ts e → Lexes at (blanks level ++ r) ts e
margin_before at zero r ts e d = subst (λ n. Lexes n r ts e) (omega arith) d
margin_before at (suc level) r ts e d =
    let two : at + length (blanks (suc level)) ≡ at + 1 + 1 + length (blanks level) = omega arith in
    white_before at 32 (32 ∷ (blanks level ++ r)) ts e refl (white_before (at + 1) 32 (blanks level ++ r) ts e refl (margin_before (at + 1 + 1) level r ts e (subst (λ n. Lexes n r ts e) two d)))

-- the text behind `front` and before v is cut into tokens that are alike to the canonical ones
pub record ReadAs (source : List ℕ) (parts : List Part) (front v : List ℕ) (us : List Token) (e : CutEnd) : Type 0 where
  pub cut : List Token
  pub lexed : Lexes (length front) (text parts ++ v) (cut ++ us) e
  pub looks : map (plain (front ++ (text parts ++ v))) cut ≡ map (plain source) (tokens parts)

regrouped : (front u x v : List ℕ) → (front ++ u) ++ (x ++ v) ≡ front ++ ((u ++ x) ++ v)
regrouped front u x v = append_assoc front u (x ++ v) ∙ ap (λ y. front ++ y) (sym (append_assoc u x v))

further_on : (front u : List ℕ) → length (front ++ u) ≡ length front + length u
further_on front u = length-append front u

with_token : (source : List ℕ) (p : Part) (parts : List Part) (s : Sort) (t : Token) (front v : List ℕ) (us : List Token) (e : CutEnd) →
    ReadWhole s (look p) (text parts ++ v) → tokens (p ∷ parts) ≡ t ∷ tokens parts → (s, bytes_of_name s (look p)) ≡ plain source t → ReadAs source parts (front ++ look p) v us e → ReadAs source (p ∷ parts) front v us e
with_token source p parts s t front v us e read is same k =
    let u = look p in
    let new : Token = token_at s (length front) (length front + length u) in
    let bytes = front ++ ((u ++ text parts) ++ v) in
    let slice : slice_range bytes (length front) (length front + length u) ≡ u = ap (λ (x : List ℕ). slice_range (front ++ x) (length front) (length front + length u)) (append_assoc u (text parts) v) ∙ slice_at front u (text parts ++ v) in
    let here : plain bytes new ≡ plain source t = ap (λ (x : List ℕ). let q : Sort × List ℕ = (s, bytes_of_name s x) in q) slice ∙ same in
    let later : map (plain bytes) k.cut ≡ map (plain source) (tokens parts) = ap (λ (b : List ℕ). map (plain b) k.cut) (sym (regrouped front u (text parts) v)) ∙ k.looks in
    let lexed : Lexes (length front) (u ++ (text parts ++ v)) (new ∷ (k.cut ++ us)) e = piece_before (length front) u (text parts ++ v) s (k.cut ++ us) e read (subst (λ n. Lexes n (text parts ++ v) (k.cut ++ us) e) (further_on front u) k.lexed) in
    record {
      cut = new ∷ k.cut;
      lexed = subst (λ x. Lexes (length front) x (new ∷ (k.cut ++ us)) e) (sym (append_assoc u (text parts) v)) lexed;
      looks = ap (λ h. h ∷ map (plain bytes) k.cut) here ∙ ap (λ r. plain source t ∷ r) later ∙ ap (map (plain source)) (sym is);
    }

with_white : (source : List ℕ) (p : Part) (parts : List Part) (front v : List ℕ) (us : List Token) (e : CutEnd) → tokens (p ∷ parts) ≡ tokens parts →
    ((ts : List Token) → Lexes (length front + length (look p)) (text parts ++ v) ts e → Lexes (length front) (look p ++ (text parts ++ v)) ts e) → ReadAs source parts (front ++ look p) v us e → ReadAs source (p ∷ parts) front v us e
with_white source p parts front v us e is before k =
    let u = look p in
    record {
      cut = k.cut;
      lexed = subst (λ x. Lexes (length front) x (k.cut ++ us) e) (sym (append_assoc u (text parts) v)) (before (k.cut ++ us) (subst (λ n. Lexes n (text parts ++ v) (k.cut ++ us) e) (further_on front u) k.lexed));
      looks = ap (λ (b : List ℕ). map (plain b) k.cut) (sym (regrouped front u (text parts) v)) ∙ k.looks ∙ ap (map (plain source)) (sym is);
    }

pub reads : (source : List ℕ) (parts : List Part) (front v : List ℕ) (us : List Token) (e : CutEnd) → Stands source parts v → Lexes (length front + length (text parts)) v us e → ReadAs source parts front v us e
reads source [] front v us e s d = record { cut = []; lexed = subst (λ n. Lexes n v us e) (omega arith) d; looks = refl }
reads source (p ∷ parts) front v us e s d = by_part p s (reads source parts (front ++ look p) v us e s.1 (subst (λ n. Lexes n v us e) long d))
  where
    long : length front + length (text (p ∷ parts)) ≡ length (front ++ look p) + length (text parts)
    long = omega (arith, length-append front (look p), length-append (look p) (text parts))

    by_part : (q : Part) → Stands source (q ∷ parts) v → ReadAs source parts (front ++ look q) v us e → ReadAs source (q ∷ parts) front v us e
    by_part (mark m) st k =
        let r : MarkRead m (text parts ++ v) = st.0 in
        with_token source (mark m) parts m (token_of m) front v us e r.read refl (ap (λ (x : List ℕ). let q : Sort × List ℕ = (m, x) in q) (r.nameless (spelling_of m) ∙ sym (r.nameless (slice_range source 0 0)))) k
    by_part (word w) st k =
        let r : NameRead source w (text parts ++ v) = st.0 in
        with_token source (word w) parts Name (record { sort = Name; span = w.span }) front v us e r.read refl (ap (λ (x : List ℕ). let q : Sort × List ℕ = (Name, x) in q) (sym r.bytes)) k
    by_part (literal n) st k = with_token source (literal n) parts (Number n) (token_of (Number n)) front v us e st.0 refl refl k
    by_part blank st k = with_white source blank parts front v us e refl (λ ts d. white_before (length front) 32 (text parts ++ v) ts e refl d) k
    by_part (margin level) st k = with_white source (margin level) parts front v us e refl (λ ts d. margin_before (length front) level (text parts ++ v) ts e d) k
    by_part line_end st k = with_white source line_end parts front v us e refl (λ ts d. white_before (length front) 10 (text parts ++ v) ts e refl d) k

-- a whole text
pub reads_all : (source : List ℕ) (parts : List Part) → Stands source parts [] → (ts : List Token) × Lexes 0 (text parts) ts whole × (map (plain (text parts)) ts ≡ map (plain source) (tokens parts))
reads_all source parts s =
    let k = reads source parts [] [] [] whole s done in
    (k.cut, subst (λ x. Lexes 0 x k.cut whole) (append-nil (text parts)) (subst (λ x. Lexes 0 (text parts ++ []) x whole) (append-nil k.cut) k.lexed), ap (λ (b : List ℕ). map (plain b) k.cut) (sym (append-nil (text parts))) ∙ k.looks)
