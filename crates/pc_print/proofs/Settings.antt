-- Tokens that look like the canonical ones of a simple statement spell the same one but for places.
use Rattle.std.proofs.Common.{◌≡◌, ℕ, List, [], ◌∷◌, ◌++◌, map, refl, sym, ap, ◌∙◌, append_assoc, append-nil}
use Rattle.pc_grammar.specs.declared.tokens.Sort.TheVariants.{OpenBracket, CloseBracket, Semicolon, Equals, EotWord, ParWord}
use Rattle.pc_grammar.specs.declared.tokens.Token.{Token}
use Rattle.pc_grammar.specs.declared.expressions.Word.{Word}
use Rattle.pc_grammar.specs.declared.expressions.Expr.{Expr}
use Rattle.pc_grammar.specs.declared.expressions.Goal.{Goal}
use Rattle.pc_grammar.specs.declared.expressions.Goal.TheVariants.{Nothing, Var, Elem}
use Rattle.pc_grammar.specs.declared.statements.Stmt.{Stmt}
use Rattle.pc_grammar.specs.declared.statements.Stmt.TheVariants.{Skip, Assign, Call, Eot, Par}
use Rattle.pc_grammar.specs.Expressions.{word_at}
use Rattle.pc_grammar.specs.Lists.{SpellsName}
use Rattle.pc_grammar.specs.Settings.{SpellsSetting, value, call}
use Rattle.pc_grammar.specs.Simple.{SpellsNamed, variable, element, routine, SpellsSimple, skip, named, eot, par}
use Rattle.pc_print.specs.Parts.{Part, mark, word, line_end}
use Rattle.pc_print.specs.Canonical.{expression, in_parentheses, listed as listed_parts, named as named_parts, equals, goal, line, statement}
use Rattle.pc_print.specs.Tokens.{nowhere, token_of, tokens, bare}
use Rattle.pc_print.proofs.Levels.{statement-Skip, statement-Assign, statement-Call, statement-Eot, statement-Par}
use Rattle.pc_print.proofs.Spelled.{tokens-append}
use Rattle.pc_print.specs.Same.{bare_goal, bare_statement}
use Rattle.pc_print.proofs.BareBodies.{bare-Assign, bare-Call, bare-Eot, bare-Par}
use Rattle.pc_print.proofs.Alike.{Looks, looks_as, head_of, cut_of, only_of, sort_same, name_token, name_same, between_alike, Seen, seen_as, listed_seen, name_again, arguments_seen}

pub line-tokens : (level : ℕ) (parts : List Part) → tokens (line level parts) ≡ tokens parts
line-tokens level parts = tokens-append parts (line_end ∷ []) ∙ append-nil (tokens parts)

pub stop-tokens : (parts : List Part) → tokens (parts ++ mark Semicolon ∷ []) ≡ tokens parts ++ token_of Semicolon ∷ []
stop-tokens parts = tokens-append parts (mark Semicolon ∷ [])

-- ---- settings

-- an index in brackets
abbrev indexed : Expr Word → List Token
indexed index = token_of OpenBracket ∷ (tokens (expression index) ++ token_of CloseBracket ∷ [])

abbrev front : Goal Word → List Token
front Nothing = []
front (Var x) = name_token x ∷ []
front (Elem x index) = name_token x ∷ indexed index

record Settable (target : Goal Word) : Type 0 where
  is : tokens (goal target) ≡ front target ++ token_of Equals ∷ []

settable_variable : (x : Word) → Settable (Var x)
settable_variable x = record { is = refl }

settable_element : (x : Word) (index : Expr Word) → Settable (Elem x index)
settable_element x index = record {
  is = ap (λ r. name_token x ∷ token_of OpenBracket ∷ r) (tokens-append (expression index) (mark CloseBracket ∷ equals) ∙ sym (append_assoc (tokens (expression index)) (token_of CloseBracket ∷ []) (token_of Equals ∷ [])));
}

set_line : (level : ℕ) (target : Goal Word) (parts : List Part) → Settable target → tokens (line level (goal target ++ parts)) ≡ front target ++ (token_of Equals ∷ tokens parts)
set_line level target parts s =
    line-tokens level (goal target ++ parts) ∙ tokens-append (goal target) parts ∙ ap (λ r. r ++ tokens parts) s.is ∙ append_assoc (front target) (token_of Equals ∷ []) (tokens parts)

record SettingAlike (source again : List ℕ) (target : Goal Word) (s : Stmt Word) : Type 0 where
  behind : List Token
  is : (level : ℕ) → tokens (statement s level) ≡ front target ++ behind
  alike : (other : Goal Word) → bare_goal other ≡ bare_goal target → (v : List Token) → Looks source again v behind → Seen (SpellsSetting again other) bare_statement v s

setting_alike : (source again : List ℕ) (target : Goal Word) {w : List Token} {s : Stmt Word} → SpellsSetting source target w s → Settable target → SettingAlike source again target s
setting_alike source again target (value {e = e} d) can = record {
  behind = token_of Equals ∷ (tokens (expression e) ++ token_of Semicolon ∷ []);
  is = λ level. ap tokens (statement-Assign target e level) ∙ set_line level target (expression e ++ mark Semicolon ∷ []) can ∙ ap (λ r. front target ++ (token_of Equals ∷ r)) (stop-tokens (expression e));
  alike = λ other eq v h.
      let i = between_alike d again v h in
      record { tree = Assign other i.tree; spelled = value i.spelled; same = bare-Assign other i.tree ∙ ap (λ g. Assign g (bare i.tree)) eq ∙ ap (λ x. Assign (bare_goal target) x) i.same ∙ sym (bare-Assign target e) };
}
setting_alike source again target (call {all = all} a f z is_equals is_name is_end d) can = record {
  behind = token_of Equals ∷ (name_token (word_at source f) ∷ (tokens (in_parentheses (listed_parts expression all)) ++ token_of Semicolon ∷ []));
  is = λ level. ap tokens (statement-Call target (word_at source f) all level) ∙ set_line level target (word (word_at source f) ∷ (in_parentheses (listed_parts expression all) ++ mark Semicolon ∷ [])) can
      ∙ ap (λ r. front target ++ (token_of Equals ∷ (name_token (word_at source f) ∷ r))) (stop-tokens (in_parentheses (listed_parts expression all)));
  alike = λ other eq v h.
      let list_of = tokens (in_parentheses (listed_parts expression all)) in
      let k = head_of source again v (token_of Equals) (name_token (word_at source f) ∷ (list_of ++ token_of Semicolon ∷ [])) h in
      let n = head_of source again k.rest (name_token (word_at source f)) (list_of ++ token_of Semicolon ∷ []) k.left in
      let c = cut_of source again n.rest list_of (token_of Semicolon ∷ []) n.left in
      let last = only_of source again c.back (token_of Semicolon) c.left in
      let i = arguments_seen source again d c.front c.is in
      let whole : v ≡ k.first ∷ n.first ∷ (c.front ++ last.first ∷ []) = k.whole ∙ ap (λ r. k.first ∷ r) (n.whole ∙ ap (λ r. n.first ∷ r) (c.whole ∙ ap (λ r. c.front ++ r) last.whole)) in
      let g = word_at again n.first in
      seen_as (SpellsSetting again other) bare_statement v (k.first ∷ n.first ∷ (c.front ++ last.first ∷ [])) (Call target (word_at source f) all) whole
      (record {
        tree = Call other g i.tree;
        spelled = call k.first n.first last.first (sort_same source again (token_of Equals) k.first k.is) (sort_same source again (name_token (word_at source f)) n.first n.is) (sort_same source again (token_of Semicolon) last.first last.is) i.spelled;
        same = bare-Call other g i.tree ∙ ap (λ x. Call x g.text (map bare i.tree)) eq ∙ ap (λ x. Call (bare_goal target) x (map bare i.tree)) (name_same source again f n.first n.is) ∙ ap (λ x. Call (bare_goal target) (word_at source f).text x) i.same ∙ sym (bare-Call target (word_at source f) all);
      });
}

-- ---- statements that hold no statement

record NamedAlike (source again : List ℕ) (x : Word) (s : Stmt Word) : Type 0 where
  behind : List Token
  is : (level : ℕ) → tokens (statement s level) ≡ name_token x ∷ behind
  alike : (other : Word) → other.text ≡ x.text → (v : List Token) → Looks source again v behind → Seen (SpellsNamed again other) bare_statement v s

named_alike : (source again : List ℕ) (x : Word) {w : List Token} {s : Stmt Word} → SpellsNamed source x w s → NamedAlike source again x s
named_alike source again x (variable d) =
    let k = setting_alike source again (Var x) d (settable_variable x) in
    record {
      behind = k.behind;
      is = k.is;
      alike = λ other eq v h. let i = k.alike (Var other) (ap (λ y. Var y) eq) v h in record { tree = i.tree; spelled = variable i.spelled; same = i.same };
    }
named_alike source again x (element {index = index} {s = s} i d) =
    let k = setting_alike source again (Elem x index) d (settable_element x index) in
    record {
      behind = indexed index ++ k.behind;
      is = k.is;
      alike = λ other eq v h.
          let c = cut_of source again v (indexed index) k.behind h in
          let j = between_alike i again c.front c.is in
          let l = k.alike (Elem other j.tree) (ap (λ y. Elem y (bare j.tree)) eq ∙ ap (λ y. Elem x.text y) j.same) c.back c.left in
          seen_as (SpellsNamed again other) bare_statement v (c.front ++ c.back) s c.whole
          (record { tree = l.tree; spelled = element j.spelled l.spelled; same = l.same });
    }
named_alike source again x (routine {all = all} z is d) = record {
  behind = tokens (in_parentheses (listed_parts expression all)) ++ token_of Semicolon ∷ [];
  is = λ level. ap tokens (statement-Call Nothing x all level) ∙ line-tokens level (word x ∷ (in_parentheses (listed_parts expression all) ++ mark Semicolon ∷ [])) ∙ ap (λ r. name_token x ∷ r) (stop-tokens (in_parentheses (listed_parts expression all)));
  alike = λ other eq v h.
      let list_of = tokens (in_parentheses (listed_parts expression all)) in
      let c = cut_of source again v list_of (token_of Semicolon ∷ []) h in
      let last = only_of source again c.back (token_of Semicolon) c.left in
      let i = arguments_seen source again d c.front c.is in
      seen_as (SpellsNamed again other) bare_statement v (c.front ++ last.first ∷ []) (Call Nothing x all) (c.whole ∙ ap (λ r. c.front ++ r) last.whole)
      (record {
        tree = Call Nothing other i.tree;
        spelled = routine last.first (sort_same source again (token_of Semicolon) last.first last.is) i.spelled;
        same = bare-Call Nothing other i.tree ∙ ap (λ y. Call Nothing y (map bare i.tree)) eq ∙ ap (λ y. Call Nothing x.text y) i.same ∙ sym (bare-Call Nothing x all);
      });
}

pub simple_seen : (source again : List ℕ) {w : List Token} {s : Stmt Word} → SpellsSimple source w s → (level : ℕ) (v : List Token) → Looks source again v (tokens (statement s level)) → Seen (SpellsSimple again) bare_statement v s
simple_seen source again (skip t is) level v h =
    let k = only_of source again v (token_of Semicolon) (looks_as source again v (tokens (statement Skip level)) (token_of Semicolon ∷ []) (ap tokens (statement-Skip level)) h) in
    seen_as (SpellsSimple again) bare_statement v (k.first ∷ []) Skip k.whole (record { tree = Skip; spelled = skip k.first (sort_same source again (token_of Semicolon) k.first k.is); same = refl })
simple_seen source again (named {s = s} t is d) level v h =
    let x = word_at source t in
    let n = named_alike source again x d in
    let k = head_of source again v (name_token x) n.behind (looks_as source again v (tokens (statement s level)) (name_token x ∷ n.behind) (n.is level) h) in
    let i = n.alike (word_at again k.first) (name_same source again t k.first k.is) k.rest k.left in
    seen_as (SpellsSimple again) bare_statement v (k.first ∷ k.rest) s k.whole (record { tree = i.tree; spelled = named k.first (sort_same source again (name_token x) k.first k.is) i.spelled; same = i.same })
simple_seen source again (eot t z is ends) level v h =
    let k = head_of source again v (token_of EotWord) (token_of Semicolon ∷ []) (looks_as source again v (tokens (statement (Eot t.span) level)) (token_of EotWord ∷ token_of Semicolon ∷ []) (ap tokens (statement-Eot t.span level)) h) in
    let last = only_of source again k.rest (token_of Semicolon) k.left in
    seen_as (SpellsSimple again) bare_statement v (k.first ∷ last.first ∷ []) (Eot t.span) (k.whole ∙ ap (λ r. k.first ∷ r) last.whole)
    (record { tree = Eot k.first.span; spelled = eot k.first last.first (sort_same source again (token_of EotWord) k.first k.is) (sort_same source again (token_of Semicolon) last.first last.is); same = bare-Eot k.first.span ∙ sym (bare-Eot t.span) })
simple_seen source again (par {all = all} t z is ends d) level v h =
    let parts = in_parentheses (listed_parts named_parts all) in
    let eq : tokens (statement (Par t.span all) level) ≡ token_of ParWord ∷ (tokens parts ++ token_of Semicolon ∷ []) = ap tokens (statement-Par t.span all level) ∙ line-tokens level (mark ParWord ∷ (parts ++ mark Semicolon ∷ [])) ∙ ap (λ r. token_of ParWord ∷ r) (stop-tokens parts) in
    let k = head_of source again v (token_of ParWord) (tokens parts ++ token_of Semicolon ∷ []) (looks_as source again v (tokens (statement (Par t.span all) level)) (token_of ParWord ∷ (tokens parts ++ token_of Semicolon ∷ [])) eq h) in
    let c = cut_of source again k.rest (tokens parts) (token_of Semicolon ∷ []) k.left in
    let last = only_of source again c.back (token_of Semicolon) c.left in
    let i = listed_seen source again (SpellsName source) (SpellsName again) named_parts (λ x. x.text) (name_again source again) d c.front c.is in
    seen_as (SpellsSimple again) bare_statement v (k.first ∷ (c.front ++ last.first ∷ [])) (Par t.span all) (k.whole ∙ ap (λ r. k.first ∷ r) (c.whole ∙ ap (λ r. c.front ++ r) last.whole))
    (record {
      tree = Par k.first.span i.tree;
      spelled = par k.first last.first (sort_same source again (token_of ParWord) k.first k.is) (sort_same source again (token_of Semicolon) last.first last.is) i.spelled;
      same = bare-Par k.first.span i.tree ∙ ap (λ y. Par nowhere y) i.same ∙ sym (bare-Par t.span all);
    })
