use Rattle.std.proofs.Common.{subst, ◌≡◌, ◌++◌, List, ℕ, true, false, Option, Some, None, All, Contains, MatchOption}
use Rattle.std.proofs.lemmas.List.Elements.{All-append, Contains-append_right}
use Rattle.pst_words.specs.declared.key.Key.{Key}
use Rattle.pst_words.specs.Table.{needed, optional}
use Rattle.pst_words.specs.Lines.{is_of}
use Rattle.pst_words.proofs.argument.key_of.Goals as goal

behind : (word : List ℕ) (keys more : List Key) (r : Option Key) → All (λ key. is_of key word ≡ false) keys → MatchOption r (All (λ key. is_of key word ≡ false) more) (λ key. Contains more key × (is_of key word ≡ true))
    → MatchOption r (All (λ key. is_of key word ≡ false) (keys ++ more)) (λ key. Contains (keys ++ more) key × (is_of key word ≡ true))
behind word keys more None none rest = All-append (λ key. is_of key word ≡ false) keys more none rest
behind word keys more (Some key) none is = (Contains-append_right keys more key is.0, is.1)

pub returns-in-None : goal.returns-in-None
returns-in-None c =
    behind c.args.word.now (needed c.args.command) (optional c.args.command) c.key_among-in-None.result (subst (All (λ key. is_of key c.args.word.now ≡ false)) c.needed.ensures c.in-None.ensures)
    (subst (λ (keys : List Key). MatchOption c.key_among-in-None.result (All (λ key. is_of key c.args.word.now ≡ false) keys) (λ key. Contains keys key × (is_of key c.args.word.now ≡ true))) c.optional.ensures c.key_among-in-None.ensures)
