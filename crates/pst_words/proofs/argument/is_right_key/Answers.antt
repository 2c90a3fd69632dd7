use Rattle.std.proofs.Common.{refl, sym, not, ◌∙◌, ◌≡◌, true, false, Bool, map, string_bytes}
use Rattle.pst_words.specs.Lines.{is_of}
use Rattle.pst_words.proofs.Dropped.{any_seen}
use Rattle.pst_words.proofs.Right.{by_key}
use Rattle.pst_words.proofs.argument.is_right_key.Goals as goal

not_twice : (b : Bool) → b ≡ not (not b)
not_twice true = refl
not_twice false = refl

pub returns : goal.returns
returns c =
    by_key c.args.command c.args.have (map string_bytes c.args.front.now) c.args.word.now c.in-Some.key c.in-Some-value.text.now c.in-Some.ensures.0 c.in-Some.ensures.1 c.in-Some-value.ensures.1
    c.if-not-is_value.ensures c.requires (not c.is_given_by.result)
    (any_seen string_bytes (is_of c.in-Some.key) c.args.front.now ∙ sym c.is_given_by.ensures ∙ not_twice c.is_given_by.result)
