use Rattle.std.proofs.Common.{◌≡◌, Bool, true, false, Option, cond, sym, ◌∙◌, refl, subst}
use Rattle.std.specs.Prelude.{Some, Result, Ok, Err, OnOk, OnErr}
use Rattle.std.specs.HashMap.{get}
use Rattle.pst_ast.specs.declared.scope_declaration.Scope.TheVariants.{Part}
use Rattle.pst_members.specs.declared.key.ScopeKey.{ScopeKey}
use Rattle.pst_members.specs.declared.tables.Table.{Table}
use Rattle.pst_members.specs.Keys.{same_key, scope_key}
use Rattle.pst_members.specs.Kept.{IsTable}
use Rattle.pst_members.proofs.Tabled.{is_table, stays}
use Rattle.pst_members.proofs.tables.Tables.keep.Goals as goal

either_way : {T E : Type 0} (r : Result T E) (A B P : Type 0) → OnOk r A → OnErr r B → (A → P) → (B → P) → P
either_way (Ok x) A B P ok err f g = f ok
either_way (Err e) A B P ok err f g = g err

split : (P : Table → Type 0) (b : Bool) (old : Option Table) (new table : Table) → cond b (Some new) old ≡ Some table → P new → (old ≡ Some table → P table) → P table
split P true old new table e here there = let same : new ≡ table = cc in subst P same here
split P false old new table e here there = there e

pub returns : goal.returns
returns c = λ key table is.
    let ds = c.args.declarations.now in
    let old = c.args.self.now.versions in
    let new = c.put_members.new.versions in
    let here = scope_key (Part c.args.action.now.name.place) in
    let before : ScopeKey → Option Table = λ q. get same_key c.args.self.now.kept q in
    let after : ScopeKey → Option Table = λ q. get same_key c.keep_table.new.kept q in
    let added : Table = record { action = c.args.action.now; version = c.in_ok-version.version; bases = c.in-Some.start.bases } in
    let stayed : before key ≡ Some table → IsTable ds new table = λ there. stays ds old new table c.in_ok-version.ensures.kept (c.requires.tables key table there) in
    either_way c.keep_table.result ((q : ScopeKey) → after q ≡ cond (same_key q here) (Some added) (before q)) ((q : ScopeKey) → after q ≡ before q) (IsTable ds new table) c.keep_table.ensures.ok c.keep_table.ensures.err
    (λ set. split (λ t. IsTable ds new t) (same_key key here) (before key) added table (sym (set key) ∙ is)
    (is_table ds old new c.args.action.now c.args.base c.in-Some.start.version c.in-Some.start.bases c.in_ok-version.version c.requires.base c.in-Some.ensures c.in_ok-version.ensures.over added refl)
    stayed)
    (λ same. stayed (sym (same key) ∙ is))
