use Rattle.std.proofs.Common.{◌≡◌, get_or, sym, ◌∙◌, refl, Option, length}
use Rattle.std.specs.Prelude.{Some, ◌-◌, if◌then◌else◌}
use Rattle.std.specs.HashMap.{get}
use Rattle.std.proofs.lemmas.Option.{slice_get-get_or}
use Rattle.pst_ast.specs.declared.scope_declaration.Scope.TheVariants.{Part}
use Rattle.pst_members.specs.declared.key.ScopeKey.{ScopeKey}
use Rattle.pst_members.specs.declared.tables.Table.{Table}
use Rattle.pst_members.specs.Keys.{same_key, scope_key}
use Rattle.pst_members.specs.Kept.{IsTable}
use Rattle.pst_members.proofs.Rounds.{blank, cut_next, round_table, either_way, split_table}
use Rattle.pst_members.proofs.Tabled.{stays}
use Rattle.pst_members.proofs.tables.Tables.keep_next.Goals as goal

pub returns-clause-cut : goal.returns-clause-cut
returns-clause-cut c =
    let round = c.args.round.now in
    cut_next c.args.declarations.now round c.requires.round c.args.self.now.versions c.put_members.new.versions c.args.version c.in_ok-added.added c.args.at (get_or round c.args.at blank) (slice_get-get_or round c.args.at blank c.requires.within) c.requires.cut c.in_ok-added.ensures.over

pub returns-clause-tables : goal.returns-clause-tables
returns-clause-tables c = λ key table is.
    let ds = c.args.declarations.now in
    let round = c.args.round.now in
    let action = get_or round c.args.at blank in
    let there = slice_get-get_or round c.args.at blank c.requires.within in
    let new = c.put_members.new.versions in
    let here = scope_key (Part action.name.place) in
    let before : ScopeKey → Option Table = λ q. get same_key c.args.self.now.kept q in
    let after : ScopeKey → Option Table = λ q. get same_key c.keep_table.new.kept q in
    let added : Table = record { action = action; version = c.in_ok-added.added; bases = length round - 1 } in
    let cut = cut_next ds round c.requires.round c.args.self.now.versions new c.args.version c.in_ok-added.added c.args.at action there c.requires.cut c.in_ok-added.ensures.over in
    let stayed : before key ≡ Some table → IsTable ds new table = λ old. stays ds c.args.self.now.versions new table c.in_ok-added.ensures.kept (c.requires.tables key table old) in
    either_way c.keep_table.result ((q : ScopeKey) → after q ≡ (if same_key q here then Some added else before q)) ((q : ScopeKey) → after q ≡ before q) (IsTable ds new table) c.keep_table.ensures.ok c.keep_table.ensures.err
    (λ set. split_table (λ t. IsTable ds new t) (same_key key here) (before key) added table (sym (set key) ∙ is)
    (round_table ds round c.requires.round new c.in_ok-added.added c.args.at action added there cut refl)
    stayed)
    (λ same. stayed (sym (same key) ∙ is))
