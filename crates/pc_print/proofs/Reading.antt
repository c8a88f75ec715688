-- The lines of statements are read whole, whatever follows them.
use Rattle.std.proofs.Common.{◌≡◌, ℕ, ◌+◌, ◌<◌, Bool, true, false, List, [], ◌∷◌, ◌++◌, Option, Some, None, refl, sym, subst}
use Rattle.pc_grammar.specs.declared.tokens.Sort.{Sort}
use Rattle.pc_grammar.specs.declared.tokens.Sort.TheVariants.{OpenParenthesis, CloseParenthesis, OpenBracket, CloseBracket, Semicolon, Comma, IfWord, ElseWord, WhileWord, ParWord, EotWord, AbortWord, WeakWord, WhenWord, PreWord, OpenBrace, CloseBrace}
use Rattle.pc_grammar.specs.declared.tokens.Token.{Token}
use Rattle.pc_grammar.specs.Spelling.{spelling_of}
use Rattle.pc_grammar.specs.declared.expressions.Word.{Word}
use Rattle.pc_grammar.specs.declared.expressions.Expr.{Expr}
use Rattle.pc_grammar.specs.declared.expressions.Goal.{Goal}
use Rattle.pc_grammar.specs.declared.expressions.Goal.TheVariants.{Nothing, Var, Elem}
use Rattle.pc_grammar.specs.declared.statements.Stmt.{Stmt}
use Rattle.pc_grammar.specs.declared.statements.Stmt.TheVariants.{Skip, Assign, Call, Block, If, While, Eot, Par, Abort}
use Rattle.pc_grammar.specs.Expressions.{word_at, IsExpression}
use Rattle.pc_grammar.specs.Lists.{SpellsMore, none, more, SpellsList, list, SpellsListed, listed, SpellsArguments, no_arguments, some_arguments, SpellsName, name}
use Rattle.pc_grammar.specs.Settings.{SpellsSetting, value, call, SpellsLoop, free, counted, SpellsTest, test as tested}
use Rattle.pc_grammar.specs.Simple.{SpellsNamed, variable, element, routine, SpellsSimple, skip, named, eot, par}
use Rattle.pc_grammar.specs.Statements.{SpellsStmt, simple, block, if_open, if_else, while, abort, weak_abort, SpellsAborted, aborted, SpellsParts, none as no_parts, more as more_parts}
use Rattle.pc_print.specs.Parts.{Part, mark, word, literal, blank, line_end, text}
use Rattle.pc_print.specs.Canonical.{expression, in_parentheses, more_listed, listed as listed_parts, named as named_parts, equals, goal, line, most_turns, assignment_line, call_line, threads_line, pause_line, if_line, while_line, abort_line, when_line, statement, statements}
use Rattle.pc_print.proofs.Levels.{statement-Skip, statement-Assign, statement-Call, statement-Block, statement-If-None, statement-If-Some, statement-While, statement-Eot, statement-Par, statement-Abort}
use Rattle.pc_print.proofs.Fronts.{Breaks, read_number, read_open, read_close, read_open_bracket, read_close_bracket}
use Rattle.pc_print.proofs.Stands.{MarkRead, Stands, stands-append}
use Rattle.pc_print.proofs.Sound.{GoodName, Goods, goods_front, goods_back, good_name, name_read, Sound, sound_between, sound_level}
use Rattle.pc_print.proofs.Words.{read_if_word, read_else_word, read_while_word, read_par_word, read_eot_word, read_abort_word, read_weak_word, read_when_word, read_pre_word, read_semicolon, read_comma, read_open_brace, read_close_brace, read_hash, read_equals}

-- read whole before anything that doesn't go on with a word, and before anything at all
pub record Standing (source : List ℕ) (parts : List Part) : Type 0 where
  pub stands : (v : List ℕ) → Breaks v → Stands source parts v

pub record Closed (source : List ℕ) (parts : List Part) : Type 0 where
  pub stands : (v : List ℕ) → Stands source parts v

pub closed_as : (source : List ℕ) (a b : List Part) → a ≡ b → Closed source b → Closed source a
closed_as source a b eq c = subst (Closed source) (sym eq) c

pub closed_both : (source : List ℕ) (a b : List Part) → Closed source a → Closed source b → Closed source (a ++ b)
closed_both source a b p q = record { stands = λ v. stands-append source a b v (p.stands (text b ++ v)) (q.stands v) }

pub closed_none : (source : List ℕ) → Closed source []
closed_none source = record { stands = λ v. tt }

pub then_standing : (source : List ℕ) (a b : List Part) → Closed source a → Standing source b → Standing source (a ++ b)
then_standing source a b p q = record { stands = λ v breaks. stands-append source a b v (p.stands (text b ++ v)) (q.stands v breaks) }

pub standing_closed : (source : List ℕ) (parts : List Part) → Closed source parts → Standing source parts
standing_closed source parts c = record { stands = λ v breaks. c.stands v }

pub standing_expression : (source : List ℕ) (e : Expr Word) → Sound source (expression e) → Standing source (expression e)
standing_expression source e s = record { stands = s.stands }

-- before a line's end
pub closed_line : (source : List ℕ) (level : ℕ) (parts : List Part) → Standing source parts → Closed source (line level parts)
closed_line source level parts s = record { stands = λ v. (tt, stands-append source parts (line_end ∷ []) v (s.stands (10 ∷ v) refl) (tt, tt)) }

semicolon_breaks : (x v : List ℕ) → Breaks ((spelling_of Semicolon ++ x) ++ v)
unfolding spelling_of
semicolon_breaks x v = refl

pub open_breaks : (x v : List ℕ) → Breaks ((spelling_of OpenParenthesis ++ x) ++ v)
unfolding spelling_of
open_breaks x v = refl

close_breaks : (x v : List ℕ) → Breaks ((spelling_of CloseParenthesis ++ x) ++ v)
unfolding spelling_of
close_breaks x v = refl

pub open_bracket_breaks : (x v : List ℕ) → Breaks ((spelling_of OpenBracket ++ x) ++ v)
unfolding spelling_of
open_bracket_breaks x v = refl

pub close_bracket_breaks : (x v : List ℕ) → Breaks ((spelling_of CloseBracket ++ x) ++ v)
unfolding spelling_of
close_bracket_breaks x v = refl

comma_breaks : (x v : List ℕ) → Breaks ((spelling_of Comma ++ x) ++ v)
unfolding spelling_of
comma_breaks x v = refl

-- before `;`
pub closed_stop : (source : List ℕ) (parts : List Part) → Standing source parts → Closed source (parts ++ mark Semicolon ∷ [])
closed_stop source parts s = record { stands = λ v. stands-append source parts (mark Semicolon ∷ []) v (s.stands (text (mark Semicolon ∷ []) ++ v) (semicolon_breaks [] v)) (read_semicolon v, tt) }

pub closed_in_parentheses : (source : List ℕ) (parts : List Part) → Standing source parts → Closed source (in_parentheses parts)
closed_in_parentheses source parts s = record {
  stands = λ v. (
    record { read = read_open (text (parts ++ mark CloseParenthesis ∷ []) ++ v); nameless = λ x. refl },
    stands-append source parts (mark CloseParenthesis ∷ []) v (s.stands (text (mark CloseParenthesis ∷ []) ++ v) (close_breaks [] v)) (record { read = read_close v; nameless = λ x. refl }, tt),
  );
}

-- ---- lists

record Listing (source : List ℕ) {A : Type 0} (show : A → List Part) (rest : List A) : Type 0 where
  stands : (v : List ℕ) → Breaks v → Stands source (more_listed show rest) v
  breaks : (v : List ℕ) → Breaks v → Breaks (text (more_listed show rest) ++ v)

listing_none : (source : List ℕ) {A : Type 0} (show : A → List Part) → Listing source show []
listing_none source show = record { stands = λ v breaks. tt; breaks = λ v breaks. breaks }

listing_more : (source : List ℕ) {A : Type 0} (show : A → List Part) (a : A) (rest : List A) → Standing source (show a) → Listing source show rest → Listing source show (a ∷ rest)
listing_more source show a rest s l = record {
  stands = λ v breaks. (read_comma (text (blank ∷ (show a ++ more_listed show rest)) ++ v), (tt, stands-append source (show a) (more_listed show rest) v (s.stands (text (more_listed show rest) ++ v) (l.breaks v breaks)) (l.stands v breaks)));
  breaks = λ v breaks. comma_breaks (text (blank ∷ (show a ++ more_listed show rest))) v;
}

listing : (source : List ℕ) {A : Type 0} (X : List Token → A → Type 0) (show : A → List Part) → ((w : List Token) (a : A) → X w a → Goods source w → Standing source (show a)) →
    {w : List Token} {all : List A} → SpellsMore X w all → Goods source w → Listing source show all
listing source X show one none g = listing_none source show
listing source X show one (more {w = w} {v = v} {a = a} {rest = rest} t is d ds) g =
    listing_more source show a rest (one w a d (goods_front source w v g.1)) (listing source X show one ds (goods_back source w v g.1))

list_standing : (source : List ℕ) {A : Type 0} (X : List Token → A → Type 0) (show : A → List Part) → ((w : List Token) (a : A) → X w a → Goods source w → Standing source (show a)) →
    {w : List Token} {all : List A} → SpellsList X w all → Goods source w → Standing source (listed_parts show all)
list_standing source X show one (list {w = w} {v = v} {a = a} {rest = rest} d ds) g =
    let s = one w a d (goods_front source w v g) in
    let l = listing source X show one ds (goods_back source w v g) in
    record { stands = λ u breaks. stands-append source (show a) (more_listed show rest) u (s.stands (text (more_listed show rest) ++ u) (l.breaks u breaks)) (l.stands u breaks) }

pub closed_listed : (source : List ℕ) {A : Type 0} (X : List Token → A → Type 0) (show : A → List Part) → ((w : List Token) (a : A) → X w a → Goods source w → Standing source (show a)) →
    {w : List Token} {all : List A} → SpellsListed X w all → Goods source w → Closed source (in_parentheses (listed_parts show all))
closed_listed source X show one (listed {w = w} {all = all} a b opens closes d) g =
    closed_in_parentheses source (listed_parts show all) (list_standing source X show one d (goods_front source w (b ∷ []) g.1))

pub closed_arguments : (source : List ℕ) {w : List Token} {all : List (Expr Word)} → SpellsArguments source w all → Goods source w → Closed source (in_parentheses (listed_parts expression all))
closed_arguments source (no_arguments a b opens closes) g = closed_in_parentheses source [] (standing_closed source [] (closed_none source))
closed_arguments source (some_arguments d) g = closed_listed source (IsExpression source) expression (λ w e s h. standing_expression source e (sound_level s h)) d g

pub name_standing : (source : List ℕ) (w : List Token) (x : Word) → SpellsName source w x → Goods source w → Standing source (named_parts x)
name_standing source w x (name t is) g = record { stands = λ v breaks. (name_read source (word_at source t) v (good_name source t g.0 is) breaks, tt) }

-- ---- settings

pub equals_closed : (source : List ℕ) → Closed source equals
equals_closed source = record { stands = λ v. (tt, (read_equals v, (tt, tt))) }

variable_closed : (source : List ℕ) (x : Word) → GoodName source x → Closed source (goal (Var x))
variable_closed source x good = record { stands = λ v. (name_read source x (text equals ++ v) good refl, (equals_closed source).stands v) }

element_closed : (source : List ℕ) (x : Word) (index : Expr Word) → GoodName source x → Sound source (expression index) → Closed source (goal (Elem x index))
element_closed source x index good s = record {
  stands = λ v. (
    name_read source x (text (mark OpenBracket ∷ (expression index ++ mark CloseBracket ∷ equals)) ++ v) good (open_bracket_breaks (text (expression index ++ mark CloseBracket ∷ equals)) v),
    (
      record { read = read_open_bracket (text (expression index ++ mark CloseBracket ∷ equals) ++ v); nameless = λ x. refl },
      stands-append source (expression index) (mark CloseBracket ∷ equals) v (s.stands (text (mark CloseBracket ∷ equals) ++ v) (close_bracket_breaks (text equals) v))
          (record { read = read_close_bracket (text equals ++ v); nameless = λ x. refl }, (equals_closed source).stands v),
    ),
  );
}

called : (source : List ℕ) (target : Goal Word) (function : Word) (all : List (Expr Word)) → Closed source (goal target) → GoodName source function → Closed source (in_parentheses (listed_parts expression all)) → (level : ℕ) → Closed source (call_line level target function all)
called source target function all t f a level =
    let list_of = in_parentheses (listed_parts expression all) in
    let tail : Standing source (word function ∷ (list_of ++ mark Semicolon ∷ [])) = record {
      stands = λ v breaks. (
        name_read source function (text (list_of ++ mark Semicolon ∷ []) ++ v) f (open_breaks (text (listed_parts expression all ++ mark CloseParenthesis ∷ [] ++ mark Semicolon ∷ [])) v),
        (closed_stop source list_of (standing_closed source list_of a)).stands v,
      );
    } in
    closed_line source level (goal target ++ (word function ∷ (list_of ++ mark Semicolon ∷ []))) (then_standing source (goal target) (word function ∷ (list_of ++ mark Semicolon ∷ [])) t tail)

closed_setting : (source : List ℕ) (target : Goal Word) {w : List Token} {s : Stmt Word} → SpellsSetting source target w s → Goods source w → Closed source (goal target) → (level : ℕ) → Closed source (statement s level)
closed_setting source target (value {e = e} d) g t level =
    closed_as source (statement (Assign target e) level) (assignment_line level target e) (statement-Assign target e level)
    (closed_line source level (goal target ++ (expression e ++ mark Semicolon ∷ [])) (then_standing source (goal target) (expression e ++ mark Semicolon ∷ []) t
    (standing_closed source (expression e ++ mark Semicolon ∷ []) (closed_stop source (expression e) (standing_expression source e (sound_between d g))))))
closed_setting source target (call {w = w} {all = all} a f z is_equals is_name is_end d) g t level =
    closed_as source (statement (Call target (word_at source f) all) level) (call_line level target (word_at source f) all) (statement-Call target (word_at source f) all level)
    (called source target (word_at source f) all t (good_name source f g.1.0 is_name) (closed_arguments source d (goods_front source w (z ∷ []) g.1.1)) level)

-- ---- statements that hold no statement

closed_named : (source : List ℕ) (x : Word) {w : List Token} {s : Stmt Word} → SpellsNamed source x w s → Goods source w → GoodName source x → (level : ℕ) → Closed source (statement s level)
closed_named source x (variable d) g good level = closed_setting source (Var x) d g (variable_closed source x good) level
closed_named source x (element {w = w} {v = v} {index = index} i d) g good level =
    closed_setting source (Elem x index) d (goods_back source w v g) (element_closed source x index good (sound_between i (goods_front source w v g))) level
closed_named source x (routine {w = w} {all = all} z is d) g good level =
    closed_as source (statement (Call Nothing x all) level) (call_line level Nothing x all) (statement-Call Nothing x all level)
    (called source Nothing x all (closed_none source) good (closed_arguments source d (goods_front source w (z ∷ []) g)) level)

mark_standing : (source : List ℕ) (s : Sort) → ((v : List ℕ) → Breaks v → MarkRead s v) → Standing source (mark s ∷ [])
mark_standing source s read = record { stands = λ v breaks. (read v breaks, tt) }

pub closed_mark_line : (source : List ℕ) (level : ℕ) (s : Sort) → ((v : List ℕ) → Breaks v → MarkRead s v) → Closed source (line level (mark s ∷ []))
closed_mark_line source level s read = closed_line source level (mark s ∷ []) (mark_standing source s read)

closed_pause : (source : List ℕ) (level : ℕ) → Closed source (pause_line level)
closed_pause source level = closed_line source level (mark EotWord ∷ mark Semicolon ∷ []) (record {
  stands = λ v breaks. (read_eot_word (text (mark Semicolon ∷ []) ++ v) (semicolon_breaks [] v), (read_semicolon v, tt));
})

closed_threads : (source : List ℕ) (level : ℕ) (all : List Word) → Closed source (in_parentheses (listed_parts named_parts all)) → Closed source (threads_line level all)
closed_threads source level all c =
    let list_of = in_parentheses (listed_parts named_parts all) in
    closed_line source level (mark ParWord ∷ (list_of ++ mark Semicolon ∷ [])) (record {
      stands = λ v breaks. (
        read_par_word (text (list_of ++ mark Semicolon ∷ []) ++ v) (open_breaks (text (listed_parts named_parts all ++ mark CloseParenthesis ∷ [] ++ mark Semicolon ∷ [])) v),
        (closed_stop source list_of (standing_closed source list_of c)).stands v,
      );
    })

pub closed_simple : (source : List ℕ) {w : List Token} {s : Stmt Word} → SpellsSimple source w s → Goods source w → (level : ℕ) → Closed source (statement s level)
closed_simple source (skip t is) g level = closed_as source (statement Skip level) _ (statement-Skip level) (closed_mark_line source level Semicolon (λ v breaks. read_semicolon v))
closed_simple source (named t is d) g level = closed_named source (word_at source t) d g.1 (good_name source t g.0 is) level
closed_simple source (eot t z is ends) g level = closed_as source (statement (Eot t.span) level) _ (statement-Eot t.span level) (closed_pause source level)
closed_simple source (par {w = w} {all = all} t z is ends d) g level =
    closed_as source (statement (Par t.span all) level) _ (statement-Par t.span all level)
    (closed_threads source level all (closed_listed source (SpellsName source) named_parts (name_standing source) d (goods_front source w (z ∷ []) g.1)))

-- ---- statements with parts

closed_if_line : (source : List ℕ) (level : ℕ) (test : Expr Word) → Sound source (expression test) → Closed source (if_line level test)
closed_if_line source level test s =
    let c = closed_in_parentheses source (expression test) (standing_expression source test s) in
    closed_line source level (mark IfWord ∷ blank ∷ in_parentheses (expression test)) (record { stands = λ v breaks. (read_if_word (text (blank ∷ in_parentheses (expression test)) ++ v) refl, (tt, c.stands v)) })

most_standing : (source : List ℕ) (most : ℕ) → ((v : List ℕ) → Breaks v → Stands source (literal most ∷ []) v) → Standing source (most_turns (Some most))
most_standing source most number = record { stands = λ v breaks. (tt, (read_hash (text (literal most ∷ []) ++ v), number v breaks)) }

closed_while_line : (source : List ℕ) (level : ℕ) (p : Expr Word × Option ℕ) → Sound source (expression p.0) → Standing source (most_turns p.1) → Closed source (while_line level p.0 p.1)
closed_while_line source level p s m =
    let c = closed_in_parentheses source (expression p.0) (standing_expression source p.0 s) in
    let front = in_parentheses (expression p.0) in
    closed_line source level (mark WhileWord ∷ blank ∷ (front ++ most_turns p.1)) (record {
      stands = λ v breaks. (read_while_word (text (blank ∷ (front ++ most_turns p.1)) ++ v) refl, (tt, (then_standing source front (most_turns p.1) c m).stands v breaks));
    })

closed_loop : (source : List ℕ) {w : List Token} {p : Expr Word × Option ℕ} → SpellsLoop source w p → Goods source w → (level : ℕ) → Closed source (while_line level p.0 p.1)
closed_loop source (free {e = e} d) g level = closed_while_line source level (e, None) (sound_between d g) (standing_closed source [] (closed_none source))
closed_loop source (counted {w = w} {e = e} {most = most} h n d is_hash is_number) g level =
    let small : most < 4294967296 = (goods_back source w (h ∷ n ∷ []) g).1.0.small most is_number in
    closed_while_line source level (e, Some most) (sound_between d (goods_front source w (h ∷ n ∷ []) g)) (most_standing source most (λ v breaks. (read_number most v small breaks, tt)))

closed_abort_line : (source : List ℕ) (level : ℕ) (weak : Bool) → Closed source (abort_line level weak)
closed_abort_line source level true = closed_line source level (mark WeakWord ∷ blank ∷ mark AbortWord ∷ []) (record { stands = λ v breaks. (read_weak_word (text (blank ∷ mark AbortWord ∷ []) ++ v) refl, (tt, (read_abort_word v breaks, tt))) })
closed_abort_line source level false = closed_line source level (mark AbortWord ∷ []) (mark_standing source AbortWord read_abort_word)

closed_when_line : (source : List ℕ) (level : ℕ) (e : Expr Word) → Sound source (expression e) → Closed source (when_line level e)
closed_when_line source level e s =
    let front = in_parentheses (expression e) in
    let c = closed_in_parentheses source (expression e) (standing_expression source e s) in
    let stop = closed_stop source front (standing_closed source front c) in
    closed_line source level (mark WhenWord ∷ blank ∷ mark PreWord ∷ blank ∷ (front ++ mark Semicolon ∷ [])) (record {
      stands = λ v breaks. (
        read_when_word (text (blank ∷ mark PreWord ∷ blank ∷ (front ++ mark Semicolon ∷ [])) ++ v) refl,
        (tt, (read_pre_word (text (blank ∷ (front ++ mark Semicolon ∷ [])) ++ v) refl, (tt, stop.stands v))),
      );
    })

closed_test : (source : List ℕ) {w : List Token} {e : Expr Word} → SpellsTest source w e → Goods source w → (level : ℕ) → Closed source (when_line level e)
closed_test source (tested {w = w} {e = e} a b z is_when is_pre is_end d) g level = closed_when_line source level e (sound_between d (goods_front source w (z ∷ []) g.1.1))

record ClosedAborted (source : List ℕ) (q : Stmt Word × Expr Word) : Type 0 where
  body : (level : ℕ) → Closed source (statement q.0 level)
  when : (level : ℕ) → Closed source (when_line level q.1)

closed_abort : (source : List ℕ) (t : Token) (weak : Bool) (q : Stmt Word × Expr Word) → ClosedAborted source q → (level : ℕ) → Closed source (statement (Abort t.span weak q.0 q.1) level)
closed_abort source t weak q c level =
    closed_as source (statement (Abort t.span weak q.0 q.1) level) _ (statement-Abort t.span weak q.0 q.1 level)
    (closed_both source (abort_line level weak) (statement q.0 (level + 1) ++ when_line level q.1) (closed_abort_line source level weak)
    (closed_both source (statement q.0 (level + 1)) (when_line level q.1) (c.body (level + 1)) (c.when level)))

mutual
  pub closed_statement : {source : List ℕ} {room : ℕ} {open_end : Bool} {w : List Token} {s : Stmt Word} → SpellsStmt source room open_end w s → Goods source w → (level : ℕ) → Closed source (statement s level)
  closed_statement (simple {source = source} d) g level = closed_simple source d g level
  closed_statement (block {source = source} {w = w} {all = all} a b opens closes d) g level =
      closed_as source (statement (Block all) level) _ (statement-Block all level)
      (closed_both source (line level (mark OpenBrace ∷ [])) (statements (level + 1) all ++ line level (mark CloseBrace ∷ [])) (closed_mark_line source level OpenBrace (λ v breaks. read_open_brace v))
      (closed_both source (statements (level + 1) all) (line level (mark CloseBrace ∷ [])) (closed_parts d (goods_front source w (b ∷ []) g.1) (level + 1)) (closed_mark_line source level CloseBrace (λ v breaks. read_close_brace v))))
  closed_statement (if_open {source = source} {w = w} {v = v} {test = test} {yes = first} t is c d) g level =
      closed_as source (statement (If test first None) level) _ (statement-If-None test first level)
      (closed_both source (if_line level test) (statement first (level + 1) ++ []) (closed_if_line source level test (sound_between c (goods_front source w v g.1)))
      (closed_both source (statement first (level + 1)) [] (closed_statement d (goods_back source w v g.1) (level + 1)) (closed_none source)))
  closed_statement (if_else {source = source} {w = w} {v = v} {u = u} {test = test} {yes = first} {other = second} t x is is_else c d e) g level =
      let behind = goods_back source w (v ++ x ∷ u) g.1 in
      let last = goods_back source v (x ∷ u) behind in
      closed_as source (statement (If test first (Some second)) level) _ (statement-If-Some test first second level)
      (closed_both source (if_line level test) (statement first (level + 1) ++ (line level (mark ElseWord ∷ []) ++ statement second (level + 1))) (closed_if_line source level test (sound_between c (goods_front source w (v ++ x ∷ u) g.1)))
      (closed_both source (statement first (level + 1)) (line level (mark ElseWord ∷ []) ++ statement second (level + 1)) (closed_statement d (goods_front source v (x ∷ u) behind) (level + 1))
      (closed_both source (line level (mark ElseWord ∷ [])) (statement second (level + 1)) (closed_mark_line source level ElseWord read_else_word) (closed_statement e last.1 (level + 1)))))
  closed_statement (while {source = source} {w = w} {v = v} {p = p} {body = body} t is l d) g level =
      closed_as source (statement (While t.span p.0 p.1 body) level) _ (statement-While t.span p.0 p.1 body level)
      (closed_both source (while_line level p.0 p.1) (statement body (level + 1)) (closed_loop source l (goods_front source w v g.1) level) (closed_statement d (goods_back source w v g.1) (level + 1)))
  closed_statement (abort {source = source} {q = q} t is d) g level = closed_abort source t false q (closed_aborted d g.1) level
  closed_statement (weak_abort {source = source} {q = q} t a is is_abort d) g level = closed_abort source t true q (closed_aborted d g.1.1) level

  closed_aborted : {source : List ℕ} {room : ℕ} {w : List Token} {q : Stmt Word × Expr Word} → SpellsAborted source room w q → Goods source w → ClosedAborted source q
  closed_aborted (aborted {source = source} {w = w} {v = v} d c) g = record {
    body = λ level. closed_statement d (goods_front source w v g) level;
    when = λ level. closed_test source c (goods_back source w v g) level;
  }

  pub closed_parts : {source : List ℕ} {room : ℕ} {w : List Token} {all : List (Stmt Word)} → SpellsParts source room w all → Goods source w → (level : ℕ) → Closed source (statements level all)
  closed_parts (no_parts {source = source}) g level = closed_none source
  closed_parts (more_parts {source = source} {w = w} {v = v} {s = s} {all = all} d ds) g level =
      closed_both source (statement s level) (statements level all) (closed_statement d (goods_front source w v g) level) (closed_parts ds (goods_back source w v g) level)
