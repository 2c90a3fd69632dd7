use Rattle.std.proofs.Common.{sym, refl, subst, ap, ◌∙◌, ◌≡◌, ◌+◌, ℕ, List, true, false, map, string_bytes, Some, drop, length}
use Rattle.std.proofs.lemmas.Option.{slice_get_read}
use Rattle.pst_words.specs.Table.{key_start}
use Rattle.pst_words.specs.Lines.{is_of, given}
use Rattle.pst_words.proofs.Dropped.{dropped}
use Rattle.pst_words.proofs.Given.{given_here, given_later}
use Rattle.pst_words.proofs.argument.find_value.Goals as goal

pub returns-in-Some : goal.returns-in-Some
returns-in-Some c =
    let is = slice_get_read c.args.words.now (length c.args.words.now) c.loop-i.i c.index-words-i.result refl c.loop-i-test.true c.index-words-i.is in
    let seen : is_of c.args.key (string_bytes c.index-words-i.result) ≡ true = subst (λ (t : List ℕ). is_of c.args.key t ≡ true) c.as_bytes.ensures.value c.in-Some.ensures.0 in
    let text : Some (drop (length (key_start c.args.key)) (string_bytes c.index-words-i.result)) ≡ Some c.in-Some.text.now =
    ap (λ (t : List ℕ). Some (drop (length (key_start c.args.key)) t)) (sym c.as_bytes.ensures.value) ∙ ap (λ (t : List ℕ). Some t) (sym c.in-Some.ensures.1) in
    c.loop-i.invariant ∙ ap (given c.args.key) (dropped string_bytes c.args.words.now c.loop-i.i c.index-words-i.result is)
    ∙ given_here c.args.key (string_bytes c.index-words-i.result) (drop (c.loop-i.i + 1) (map string_bytes c.args.words.now)) seen ∙ text

pub loop-i-preserved : goal.loop-i-preserved
loop-i-preserved c =
    let is = slice_get_read c.args.words.now (length c.args.words.now) c.loop-i.i c.index-words-i.result refl c.loop-i-test.true c.index-words-i.is in
    let unseen : is_of c.args.key (string_bytes c.index-words-i.result) ≡ false = subst (λ (t : List ℕ). is_of c.args.key t ≡ false) c.as_bytes.ensures.value c.in_default.ensures in
    c.loop-i.invariant ∙ ap (given c.args.key) (dropped string_bytes c.args.words.now c.loop-i.i c.index-words-i.result is)
    ∙ given_later c.args.key (string_bytes c.index-words-i.result) (drop (c.loop-i.i + 1) (map string_bytes c.args.words.now)) unseen
