-- Claims, first objects and values are read one after another.
use Rattle.std.proofs.Common.{List, [], ◌++◌, sym, ap, ◌∙◌}
use Rattle.std.specs.Prelude.{flat_map}
use Rattle.std.specs.List.{enumerate_from}
use Rattle.pst_legal.specs.Blanks.{Blank, used_state_pools, claim_blanks, first_blanks, act_blanks, value_blanks}
use Rattle.pst_legal.specs.Reading.{then_read}
use Rattle.pst_legal.specs.ValueReading.{with_firsts, read_blanks, read_values, answer_of}
use Rattle.pst_few_places.proofs.Named.{blanks_join}
use Rattle.pst_read_domains.proofs.Blanks.{reads_on}
use Rattle.pst_read_domains.proofs.Ahead.{sources_on}
use Rattle.pst_read_so_far.specs.Laws.{BlanksAreReadInTurn}

pub in_turn : BlanksAreReadInTurn
in_turn m root seed level front first second third u t v p q r sources claims firsts =
    let pools : List Blank = flat_map (first_blanks m) (used_state_pools m u.actions) in
    let acts : List Blank = flat_map (act_blanks m) (enumerate_from 0 u.actions) in
    ap (λ x. answer_of (then_read x (read_values m seed))) (sources_on m root seed level front (first ++ (second ++ third)) u p [] sources)
    ∙ ap (λ x. answer_of (then_read x (read_blanks m seed (value_blanks m u.actions)))) (reads_on m seed (claim_blanks m u.actions) (with_firsts m u) p first t q [] (second ++ third) claims)
    ∙ ap answer_of (sym (blanks_join m seed pools acts t q (second ++ third)))
    ∙ ap (λ x. answer_of (then_read x (read_blanks m seed acts))) (reads_on m seed pools t q second v r [] third firsts)
