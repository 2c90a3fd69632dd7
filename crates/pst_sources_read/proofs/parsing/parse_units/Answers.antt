use Rattle.std.proofs.Common.{◌≡◌, ◌∙◌, List, length, map, refl, sym, subst}
use Rattle.std.proofs.lemmas.Option.{slice_get_read}
use Rattle.pst_token.specs.declared.token.Token.{Token}
use Rattle.pst_token.specs.Laws.{EndsOnce}
use Rattle.pst_ast.specs.Answers.{IsWhole}
use Rattle.pst_ast.specs.DeclarationView.{view_unit}
use Rattle.pst_sources_read.specs.UnitsParsed.{IsUnitEnd}
use Rattle.pst_sources_read.proofs.Counted.{ends_in_turn}
use Rattle.pst_sources_read.proofs.Units.{more_parsed, end_so_far}
use Rattle.pst_sources_read.proofs.parsing.parse_units.Goals as goal

pub parse_next-requires : goal.parse_next-requires
parse_next-requires c =
    let lexed = c.requires in
    subst EndsOnce (sym c.as_slice.ensures)
    (ends_in_turn c.tokens_are_in_order.ensures 0 lexed.1 lexed.0 c.args.tokens.now 0 (length lexed.1) lexed.2.are.are c.loop-number.number c.index-tokens-number.result
    (slice_get_read c.args.tokens.now (length c.args.tokens.now) c.loop-number.number c.index-tokens-number.result refl c.loop-number-test.true c.index-tokens-number.is))

pub returns-in-Err-clause-end : goal.returns-in-Err-clause-end
returns-in-Err-clause-end c =
    end_so_far c.args.tokens.now c.loop-number.number c.index-tokens-number.result (map view_unit c.loop-number.units.items) c.in-Err.end c.loop-number-test.true c.index-tokens-number.is c.loop-number.invariant
    (subst (λ (ts : List Token). IsUnitEnd ts c.in-Err.end) c.as_slice.ensures c.in-Err.ensures.end)

pub loop-number-preserved : goal.loop-number-preserved
loop-number-preserved c =
    let parsed = c.in-Ok.ensures.parsed in
    more_parsed c.args.tokens.now c.loop-number.number c.index-tokens-number.result (map view_unit c.loop-number.units.items) (map view_unit c.parse_next.new.units.items) parsed.0 c.loop-number-test.true c.index-tokens-number.is
    c.loop-number.invariant (subst (λ (ts : List Token). IsWhole ts parsed.0) c.as_slice.ensures parsed.1) parsed.2
