-- A text is found exactly where the table has it.
use Rattle.std.proofs.Common.{◌≡◌, ◌∙◌, sym, ap, map, string_bytes, Some, true, false}
use Rattle.std.specs.Prelude.{slice_get}
use Rattle.std.specs.List.{list_any}
use Rattle.std.specs.Option.{is_some}
use Rattle.std.specs.Str.{bytes_eq}
use Rattle.pst_base.proofs.Texts.{found_at, found_any, list_any-map}
use Rattle.pst_base.proofs.table.Names.find.Goals as goal

pub returns-in-Some-clause-found : goal.returns-in-Some-clause-found
returns-in-Some-clause-found c =
    let found : slice_get (map string_bytes c.self.inside.texts.keys) c.in-Some.index ≡ Some c.args.text.now = found_at c.args.text.now c.self.inside.texts.keys c.in-Some.index (sym c.get_index_of.ensures.index ∙ c.in-Some.is) in
    ap (λ names. slice_get names c.in-Some.index) (sym c.self.view_is) ∙ found

pub returns-in-Some-clause-none : goal.returns-in-Some-clause-none
returns-in-Some-clause-none c =
    let any : list_any (bytes_eq c.args.text.now) c.args.self.now ≡ true = ap (λ names. list_any (bytes_eq c.args.text.now) names) (sym c.self.view_is) ∙ found_any c.args.text.now c.self.inside.texts.keys c.in-Some.index (sym c.get_index_of.ensures.index ∙ c.in-Some.is) in
    (λ never. cc, λ none. sym any ∙ none)

pub returns-in-None-clause-none : goal.returns-in-None-clause-none
returns-in-None-clause-none c =
    let none : list_any (bytes_eq c.args.text.now) (map string_bytes c.self.inside.texts.keys) ≡ false = list_any-map (bytes_eq c.args.text.now) string_bytes c.self.inside.texts.keys ∙ sym c.get_index_of.ensures.found ∙ ap is_some c.in-None.is in
    (λ same. ap (λ names. list_any (bytes_eq c.args.text.now) names) (sym c.self.view_is) ∙ none, λ same. sym same ∙ same)
