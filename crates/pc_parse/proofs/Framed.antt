-- One lemma for each way on which the parser of a function's frame answers.
use Rattle.std.proofs.Common.{◌≡◌, ℕ, List, [], ◌∷◌, ◌++◌, Option, Some, length, refl, sym, ap, subst, ◌∙◌, append_assoc, append-nil}
use Rattle.pc_grammar.specs.declared.tokens.Sort.{Sort}
use Rattle.pc_grammar.specs.declared.tokens.Sort.TheVariants.{IntWord, CloseBrace, ReturnWord, OpenBrace}
use Rattle.pc_grammar.specs.declared.tokens.Token.{Token}
use Rattle.pc_grammar.specs.declared.expressions.Word.{Word}
use Rattle.pc_grammar.specs.declared.expressions.Expr.{Expr}
use Rattle.pc_grammar.specs.declared.statements.Stmt.{Stmt}
use Rattle.pc_parse.specs.declared.reading.Failure.{Failure}
use Rattle.pc_parse.specs.declared.reading.Failure.TheVariants.{Broken, Memory}
use Rattle.pc_grammar.specs.Refusing.{first}
use Rattle.pc_parse.specs.Reading.{Comes, Refuses, Always}
use Rattle.pc_parse.proofs.Behind.{fails_behind, fails_here}
use Rattle.pc_parse.proofs.Operands.{some_token}
use Rattle.pc_parse.specs.declared.simple.StatementOpening.TheVariants.{Nothing as NothingBeginning}
use Rattle.pc_parse.specs.Simple.{beginning_of}
use Rattle.pc_grammar.specs.Statements.{IsBody, SpellsParts, none as no_parts, more as more_parts}
use Rattle.pc_parse.specs.Statements.{Closes, AtClose, at_end, at_brace, at_return, PartsTakes, PartsFails}
use Rattle.pc_parse.proofs.Ends.{not_start}
use Rattle.pc_parse.proofs.StatementUnique.{unique_parts}
use Rattle.pc_grammar.specs.declared.frames.Frame.{Frame}
use Rattle.pc_grammar.specs.Frames.{SpellsParameters, SpellsLocals, none, SpellsFrame, framed}
use Rattle.pc_parse.specs.Frames.{ParametersTakes, ParametersFails, NoInt, LocalsTakes, LocalsFails, FrameEnds, FrameTakes, FrameFails}
use Rattle.pc_parse.proofs.Parameters.{unique_parameters, parameters_first}
use Rattle.pc_parse.proofs.Locals.{unique_locals}

-- ---- statements don't begin with `int`

int_begins : beginning_of IntWord ≡ NothingBeginning
unfolding beginning_of
int_begins = refl

closed_no_int : {o : Option Sort} → Closes o → o ≡ Some IntWord → ⊥
closed_no_int at_end eq = cc
closed_no_int at_brace eq = cc
closed_no_int at_return eq = cc

parts_no_int : {source : List ℕ} {room : ℕ} {w : List Token} {all : List (Stmt Word)} → SpellsParts source room w all → (r : List Token) → Closes (first r) → first (w ++ r) ≡ Some IntWord → ⊥
parts_no_int no_parts r at h = closed_no_int at h
parts_no_int (more_parts {w = w} {v = v} d ds) r at h = not_start d (v ++ r) IntWord (ap first (sym (append_assoc w v r)) ∙ h) int_begins

-- ---- the parts of a frame

pub record FrameParts (source : List ℕ) (i : List Token) (f : Frame) (rest : List Token) : Type 0 where
  pub w : List Token
  pub b : Token
  pub u : List Token
  pub v : List Token
  pub is_brace : b.sort ≡ OpenBrace
  pub front : SpellsParameters source w f.parameters
  pub locals : SpellsLocals source u f.locals
  pub body : IsBody source v f.body
  pub whole : i ≡ w ++ b ∷ (u ++ (v ++ rest))

pub frame_parts : {source : List ℕ} {w : List Token} {f : Frame} → SpellsFrame source w f → (i rest : List Token) → i ≡ w ++ rest → FrameParts source i f rest
frame_parts (framed {w = w} {u = u} {v = v} b is_brace d e g) i rest eq = record {
  w = w;
  b = b;
  u = u;
  v = v;
  is_brace = is_brace;
  front = d;
  locals = e;
  body = g;
  whole = eq ∙ append_assoc w (b ∷ (u ++ v)) rest ∙ ap (λ x. w ++ b ∷ x) (append_assoc u v rest);
}

pub frame_first : {source : List ℕ} {w : List Token} {f : Frame} → SpellsFrame source w f → (rest : List Token) → first (w ++ rest) ≡ Some Rattle.pc_grammar.specs.declared.tokens.Sort.TheVariants.OpenParenthesis
frame_first (framed {w = w} {u = u} {v = v} b is_brace d e g) rest = ap first (append_assoc w (b ∷ (u ++ v)) rest) ∙ parameters_first d (b ∷ (u ++ v) ++ rest)

same_frame : (ps ps' : List Word) (ls ls' : List (Word × Option (Expr Word))) (all all' : List (Stmt Word)) → ps ≡ ps' → ls ≡ ls' → all ≡ all' → ◌≡◌ {A = Frame} (record { parameters = ps; locals = ls; body = all }) (record { parameters = ps'; locals = ls'; body = all' })
same_frame ps ps' ls ls' all all' p l a = cc

pub unique_frame : {source : List ℕ} {w : List Token} {f : Frame} → SpellsFrame source w f → (w' : List Token) (f' : Frame) (r r' : List Token) → Closes (first r) → SpellsFrame source w' f' → Closes (first r') → w ++ r ≡ w' ++ r' → (r ≡ r') × (f ≡ f')
unique_frame {w = w} {f = f} d w' f' r r' ends d' ends' eq =
    let k = frame_parts d (w ++ r) r refl in
    let m = frame_parts d' (w ++ r) r' eq in
    let p = unique_parameters k.front m.w f'.parameters (k.b ∷ (k.u ++ (k.v ++ r))) (m.b ∷ (m.u ++ (m.v ++ r'))) m.front (sym k.whole ∙ m.whole) in
    let both : k.b ∷ (k.u ++ (k.v ++ r)) ≡ m.b ∷ (m.u ++ (m.v ++ r')) = p.0 in
    let tail : k.u ++ (k.v ++ r) ≡ m.u ++ (m.v ++ r') = cc in
    let l = unique_locals k.locals m.u f'.locals (k.v ++ r) (m.v ++ r') (parts_no_int k.body r ends) m.locals (parts_no_int m.body r' ends') tail in
    let a = unique_parts k.body m.v f'.body r r' ends m.body ends' l.0 in
    (a.0, same_frame f.parameters f'.parameters f.locals f'.locals f.body f'.body p.1 l.1 a.1)

-- ---- the ways of the parser

pub takes_frame : (source : List ℕ) (tokens i j k last : List Token) (ps : List Word) (ls : List (Word × Option (Expr Word))) (all : List (Stmt Word)) → ParametersTakes source tokens ps i → Comes OpenBrace i j → LocalsTakes source j ls k → PartsTakes source 32 k all last →
    FrameTakes source tokens (record { parameters = ps; locals = ls; body = all }) last
takes_frame source tokens i j k last ps ls all p b l a = record {
  used = p.used ++ b.token ∷ (l.used ++ a.used);
  whole = p.whole ∙ ap (λ x. p.used ++ x) (b.whole ∙ ap (λ x. b.token ∷ x) (l.whole ∙ ap (λ x. l.used ++ x) a.whole ∙ sym (append_assoc l.used a.used last))) ∙ sym (append_assoc p.used (b.token ∷ (l.used ++ a.used)) last);
  spelled = framed b.token b.is p.spelled l.spelled a.spelled;
  stops = a.stops;
}

pub parameters_refuse : (source : List ℕ) (tokens : List Token) (f : Failure) → Refuses (ParametersFails source) tokens f → Refuses (FrameFails source) tokens f
parameters_refuse source tokens (Broken n) f =
    fails_behind (SpellsParameters source) Always (SpellsFrame source) FrameEnds [] tokens tokens n refl f
    (λ v ps d. (some_token OpenBrace ∷ [], record { parameters = ps; locals = []; body = [] }, framed (some_token OpenBrace) refl d none no_parts))
    (λ others c r _ same k. let m = frame_parts k.spelled others r k.whole in (c.parameters, m.b ∷ (m.u ++ (m.v ++ r)), record { used = m.w; whole = m.whole; spelled = m.front; stops = tt }))
parameters_refuse source tokens Memory f = tt

pub no_brace : (source : List ℕ) (tokens i : List Token) (ps : List Word) → ParametersTakes source tokens ps i → (first i ≡ Some OpenBrace → ⊥) → FrameFails source tokens (length i)
no_brace source tokens i ps p other =
    fails_here (SpellsFrame source) FrameEnds p.used i tokens p.whole (some_token OpenBrace ∷ [], record { parameters = ps; locals = []; body = [] }, framed (some_token OpenBrace) refl p.spelled none no_parts)
    (λ others c r same k.
    let m = frame_parts k.spelled (p.used ++ others) r k.whole in
    let u = unique_parameters p.spelled m.w c.parameters others (m.b ∷ (m.u ++ (m.v ++ r))) m.front m.whole in
    other (sym same ∙ ap first u.0 ∙ ap Some m.is_brace))

-- what stands behind the brace
behind_brace : (source : List ℕ) (tokens i j : List Token) (ps : List Word) (p : ParametersTakes source tokens ps i) (b : Comes OpenBrace i j) (others : List Token) (c : Frame) (r : List Token) →
    FrameTakes source (p.used ++ b.token ∷ others) c r → (u : List Token) × (v : List Token) × SpellsLocals source u c.locals × IsBody source v c.body × (others ≡ u ++ (v ++ r))
behind_brace source tokens i j ps p b others c r k =
    let m = frame_parts k.spelled (p.used ++ b.token ∷ others) r k.whole in
    let u = unique_parameters p.spelled m.w c.parameters (b.token ∷ others) (m.b ∷ (m.u ++ (m.v ++ r))) m.front m.whole in
    let both : b.token ∷ others ≡ m.b ∷ (m.u ++ (m.v ++ r)) = u.0 in
    (m.u, m.v, m.locals, m.body, cc)

pub locals_refuse : (source : List ℕ) (tokens i j : List Token) (ps : List Word) (f : Failure) → ParametersTakes source tokens ps i → Comes OpenBrace i j → Refuses (LocalsFails source) j f → Refuses (FrameFails source) tokens f
locals_refuse source tokens i j ps (Broken n) p b f =
    fails_behind (SpellsLocals source) NoInt (SpellsFrame source) FrameEnds (p.used ++ b.token ∷ []) j tokens n (p.whole ∙ ap (λ x. p.used ++ x) b.whole ∙ sym (append_assoc p.used (b.token ∷ []) j)) f
    (λ v ls d. (
      [],
      record { parameters = ps; locals = ls; body = [] },
      subst (λ x. SpellsFrame source x (record { parameters = ps; locals = ls; body = [] })) (sym (append-nil ((p.used ++ b.token ∷ []) ++ v) ∙ append_assoc p.used (b.token ∷ []) v))
          (subst (λ x. SpellsFrame source (p.used ++ b.token ∷ x) (record { parameters = ps; locals = ls; body = [] })) (append-nil v) (framed b.token b.is p.spelled d no_parts)),
    ))
    (λ others c r _ same k.
    let m = behind_brace source tokens i j ps p b others c r (subst (λ x. FrameTakes source x c r) (append_assoc p.used (b.token ∷ []) others) k) in
    (c.locals, m.1 ++ r, record { used = m.0; whole = m.4; spelled = m.2; stops = parts_no_int m.3 r k.stops }))
locals_refuse source tokens i j ps Memory p b f = tt

pub body_refuses : (source : List ℕ) (tokens i j k : List Token) (ps : List Word) (ls : List (Word × Option (Expr Word))) (f : Failure) → ParametersTakes source tokens ps i → Comes OpenBrace i j → LocalsTakes source j ls k → Refuses (PartsFails source 32) k f → Refuses (FrameFails source) tokens f
body_refuses source tokens i j k ps ls (Broken n) p b l f =
    let regroup = λ (v : List Token). append_assoc p.used (b.token ∷ l.used) v in
    fails_behind (SpellsParts source 32) AtClose (SpellsFrame source) FrameEnds (p.used ++ b.token ∷ l.used) k tokens n (p.whole ∙ ap (λ x. p.used ++ x) (b.whole ∙ ap (λ x. b.token ∷ x) l.whole) ∙ sym (regroup k)) f
    (λ v all d. ([], record { parameters = ps; locals = ls; body = all }, subst (λ x. SpellsFrame source x (record { parameters = ps; locals = ls; body = all })) (sym (append-nil ((p.used ++ b.token ∷ l.used) ++ v) ∙ regroup v)) (framed b.token b.is p.spelled l.spelled d)))
    (λ others c r _ same t.
    let m = behind_brace source tokens i j ps p b (l.used ++ others) c r (subst (λ x. FrameTakes source x c r) (regroup others) t) in
    let no_int : first others ≡ Some IntWord → ⊥ = λ h. l.stops (sym same ∙ h) in
    let u = unique_locals l.spelled m.0 c.locals others (m.1 ++ r) no_int m.2 (parts_no_int m.3 r t.stops) m.4 in
    (c.body, r, record { used = m.1; whole = u.0; spelled = m.3; stops = t.stops }))
body_refuses source tokens i j k ps ls Memory p b l f = tt

pub ruleset frame_steps = (takes_frame, parameters_refuse, no_brace, locals_refuse, body_refuses)
