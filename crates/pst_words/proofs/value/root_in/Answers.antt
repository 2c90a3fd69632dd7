use Rattle.std.proofs.Common.{sym, subst, ◌∙◌, ◌≡◌, codes}
use Rattle.std.proofs.lemmas.List.{append_cancel_left}
use Rattle.pst_token.specs.Lexemes.{IsName}
use Rattle.pst_words.proofs.Roots.{root_parts}
use Rattle.pst_words.proofs.value.root_in.Goals as goal

pub returns-in_default : goal.returns-in_default
returns-in_default c = λ h.
    let parts = root_parts c.args.text.now h c.word_length.result c.word_length.ensures.value in
    c.in_default.ensures h.action (c.split_at.ensures.back ∙ parts.1)

pub returns-then-not-is_name : goal.returns-then-not-is_name
returns-then-not-is_name c = λ h.
    let parts = root_parts c.args.text.now h c.word_length.result c.word_length.ensures.value in
    c.if-not-is_name.ensures (subst IsName (sym (c.split_at.ensures.front ∙ parts.0)) h.component_is_name)

pub returns-then-not-is_name-2 : goal.returns-then-not-is_name-2
returns-then-not-is_name-2 c = λ h.
    let parts = root_parts c.args.text.now h c.word_length.result c.word_length.ensures.value in
    let same : c.in-Some.action.now ≡ h.action = append_cancel_left (codes "::") c.in-Some.action.now h.action (sym c.in-Some.ensures ∙ c.split_at.ensures.back ∙ parts.1) in
    c.if-not-is_name-2.ensures (subst IsName (sym same) h.action_is_name)
