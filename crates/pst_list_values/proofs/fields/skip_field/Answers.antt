use Rattle.std.proofs.Common.{◌≡◌, ◌<◌, ◌≤◌, sym, subst, arith}
use Rattle.pst_model.specs.ModelView.{view_model}
use Rattle.pst_model.specs.Sound.{IsSound}
use Rattle.pst_legal.specs.ValueReading.{Options}
use Rattle.pst_list_walk.specs.Walks.{answer}
use Rattle.pst_search_loop.specs.Conflicts.{IsEarlier}
use Rattle.pst_field_values.specs.Kept.{AreOfFields}
use Rattle.pst_list_values.proofs.Skips.{start_below}
use Rattle.pst_list_values.proofs.FieldSkips.{read_so, options_of, size_is, all_skipped, some_skipped}
use Rattle.pst_list_values.proofs.fields.skip_field.Goals as goal

pub values_of-requires-clause-sound : goal.values_of-requires-clause-sound
values_of-requires-clause-sound c = subst (λ m. IsSound (view_model m)) (sym c.model.ensures) c.requires.sound

pub values_of-requires-clause-earlier : goal.values_of-requires-clause-earlier
values_of-requires-clause-earlier c =
    let k = c.args.lists.now in
    let s = c.args.scenario.now in
    (c.nodes_stand_for_pieces.ensures.pieces (view_model k.model) k.root k.seed k.level k.choices s (read_so k s c.args.count c.requires.options c.requires.read)).1.earlier

pub returns-in-None : goal.returns-in-None
returns-in-None c =
    let k = c.args.lists.now in
    let s = c.args.scenario.now in
    let f = c.args.field.now in
    let is : answer k ≡ Options s c.args.count = options_of (answer k) c.args.count s c.requires.options c.requires.read in
    let none = subst (AreOfFields (view_model k.model) s c.args.node) c.in-None.is (subst (λ m. AreOfFields (view_model m) s c.args.node c.in_ok-found.found) c.model.ensures c.in_ok-found.ensures) in
    all_skipped k c.args.node f c.requires.field.0 c.requires.field.1 s c.args.count is c.fields_are_places.ensures c.requires.sound c.nodes_stand_for_pieces.ensures.leaves c.handles_have_their_types.ensures
    c.legal_scenarios_are_in_domains.ensures c.longer_lists_keep_what_is_known.ensures c.barren_lists_conflict.ensures none c.earlier-conflict.result
    (subst (IsEarlier c.earlier-conflict.result) c.in_ok-places.ensures c.earlier-conflict.ensures) c.args.from c.requires.named

-- where the next value is looked for

pub start-requires : goal.start-requires
start-requires c = let some = c.requires.some in let most = c.requires.named in omega (arith, some, most)

pub skip-requires-clause-start : goal.skip-requires-clause-start
skip-requires-clause-start c =
    let k = c.args.lists.now in
    let s = c.args.scenario.now in
    let is : answer k ≡ Options s c.args.count = options_of (answer k) c.args.count s c.requires.options c.requires.read in
    let some = c.requires.some in
    let most = c.requires.named in
    subst (λ n. c.in_ok-start-in-Some.start < n) (size_is k c.args.node c.args.field.now c.requires.field.0 c.requires.field.1 s c.args.count is c.fields_are_places.ensures)
    (subst (λ b. b < c.args.count) (sym c.in_ok-start-in-Some.ensures) (start_below k.seed _ c.args.count (omega (arith, some, most))))

pub skip-requires-clause-from : goal.skip-requires-clause-from
skip-requires-clause-from c =
    let k = c.args.lists.now in
    let s = c.args.scenario.now in
    let is : answer k ≡ Options s c.args.count = options_of (answer k) c.args.count s c.requires.options c.requires.read in
    subst (λ n. c.args.from ≤ n) (size_is k c.args.node c.args.field.now c.requires.field.0 c.requires.field.1 s c.args.count is c.fields_are_places.ensures) c.requires.named

pub returns-in_ok-passed-in-Some : goal.returns-in_ok-passed-in-Some
returns-in_ok-passed-in-Some c =
    let k = c.args.lists.now in
    let s = c.args.scenario.now in
    let f = c.args.field.now in
    let is : answer k ≡ Options s c.args.count = options_of (answer k) c.args.count s c.requires.options c.requires.read in
    let kept = subst (AreOfFields (view_model k.model) s c.args.node) c.in-Some.is (subst (λ m. AreOfFields (view_model m) s c.args.node c.in_ok-found.found) c.model.ensures c.in_ok-found.ensures) in
    some_skipped k c.args.node f c.requires.field.0 c.requires.field.1 s c.args.count is c.fields_are_places.ensures c.requires.sound c.nodes_stand_for_pieces.ensures.leaves c.handles_have_their_types.ensures
    c.legal_scenarios_are_in_domains.ensures c.longer_lists_keep_what_is_known.ensures c.barren_lists_conflict.ensures c.fields_have_values.ensures c.excluded_fields_hold_nothing.ensures c.in-Some.valued kept c.in_ok-start-in-Some.start c.in_ok-start-in-Some.ensures
    (c.domains_list_values.ensures f.domain c.is_domain.ensures) c.earlier-conflict.result
    (subst (IsEarlier c.earlier-conflict.result) c.in_ok-places.ensures c.earlier-conflict.ensures) c.args.from c.in_ok-passed-in-Some.passed c.in_ok-passed-in-Some.ensures.skips
