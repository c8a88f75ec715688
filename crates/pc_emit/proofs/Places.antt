-- Parts put behind others, and the places behind them.
use Rattle.std.proofs.Common.{◌≡◌, ℕ, suc, ◌+◌, ◌<◌, List, [], ◌∷◌, length, drop, get_or, refl, sym, ap, ◌∙◌, append_assoc, append-nil, length-append, drop-cons, add-one}
use Rattle.pc_lower.specs.Flow.{Node, Nodes, and}
use Rattle.pc_lower.specs.Words.{Writing}
use Rattle.pc_lower.specs.Limits.{threads_of}
use Rattle.pc_emit.specs.Part.{Part, joined, just}
use Rattle.pc_emit.specs.Code.{size, code, codes}
use Rattle.pc_emit.proofs.Lengths.{instrs_size, loop_words_size, drop_words_size, option_tested_size, code_size}

pub joined_assoc : (a b c : Part) → joined (joined a b) c ≡ joined a (joined b c)
joined_assoc a b c = rw (append_assoc a.words b.words c.words, append_assoc a.pauses b.pauses c.pauses, append_assoc a.forks b.forks c.forks, append_assoc a.handlers b.handlers c.handlers) refl

-- nothing behind a part
pub joined_nothing : (p : Part) → joined p (just []) ≡ p
joined_nothing p = rw (append-nil p.words, append-nil p.pauses, append-nil p.forks, append-nil p.handlers) refl

pub ruleset places = (append_assoc, append-nil, length-append, joined_assoc, instrs_size, loop_words_size, drop_words_size, option_tested_size, code_size)

-- a part has its words behind those before it
pub behind : (out after p : Part) (n : ℕ) → after ≡ joined out p → length p.words ≡ n → length after.words ≡ length out.words + n
behind out after p n h e = ap (λ (k : Part). length k.words) h ∙ length-append out.words p.words ∙ ap (λ m. length out.words + m) e

-- what is left begins with the next element
pub front : {A : Type 0} (all : List A) (i : ℕ) (x : A) → i < length all → x ≡ get_or all i x → drop i all ≡ x ∷ drop (i + 1) all
front {A} all i x within is = drop-cons all i x within ∙ ap (λ (y : A). y ∷ drop (suc i) all) (sym is) ∙ ap (λ (j : ℕ). x ∷ drop j all) (sym (add-one i))

-- a node, and those behind it
pub node_more : (writing : Writing) (entrances : List ℕ) (slot : ℕ) (stack : List ℕ) (child next : ℕ) (out after : Part) (n : Node) (nodes : Nodes)
    → after ≡ joined out (code writing entrances slot n stack child (length out.words)) → next ≡ child + length (threads_of n)
    → joined after (codes writing entrances slot nodes stack next (length after.words)) ≡ joined out (codes writing entrances slot (and n nodes) stack child (length out.words))
node_more writing entrances slot stack child next out after n nodes h e =
    let at = length out.words in
    let y = code writing entrances slot n stack child at in
    ap (λ k. joined after (codes writing entrances slot nodes stack k (length after.words))) e
    ∙ ap (λ m. joined after (codes writing entrances slot nodes stack (child + length (threads_of n)) m)) (behind out after y (size writing n) h (code_size writing entrances slot n stack child at))
    ∙ ap (λ p. joined p (codes writing entrances slot nodes stack (child + length (threads_of n)) (at + size writing n))) h
    ∙ joined_assoc out y (codes writing entrances slot nodes stack (child + length (threads_of n)) (at + size writing n))
