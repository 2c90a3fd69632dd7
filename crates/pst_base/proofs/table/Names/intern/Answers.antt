-- A text that is there stays, and a new one goes last.
use Rattle.std.proofs.Common.{◌≡◌, ◌∙◌, length, sym, ap, refl, map, string_bytes, Some, arith, true}
use Rattle.std.specs.Prelude.{slice_get}
use Rattle.std.proofs.lemmas.List.{length-map}
use Rattle.std.specs.List.{list_any}
use Rattle.std.specs.Str.{bytes_eq}
use Rattle.pst_base.specs.Names.{with_text}
use Rattle.pst_base.proofs.Texts.{found_at, found_any, with_text-insert, different_bytes, stored_at}
use Rattle.pst_base.proofs.table.Names.intern.Goals as goal

pub returns-in-Some-clause-found : goal.returns-in-Some-clause-found
returns-in-Some-clause-found c =
    let found : slice_get (map string_bytes c.self.inside.texts.keys) c.in-Some.index ≡ Some c.args.text.now = found_at c.args.text.now c.self.inside.texts.keys c.in-Some.index (sym c.get_index_of.ensures.index ∙ c.in-Some.is) in
    ap (λ names. slice_get names c.in-Some.index) (sym c.self.view_is) ∙ found

pub returns-in-Some-clause-texts : goal.returns-in-Some-clause-texts
returns-in-Some-clause-texts c =
    let any : list_any (bytes_eq c.args.text.now) (map string_bytes c.self.inside.texts.keys) ≡ true = found_any c.args.text.now c.self.inside.texts.keys c.in-Some.index (sym c.get_index_of.ensures.index ∙ c.in-Some.is) in
    rw (← c.self.view_is, any) refl

pub invariant_of-self-2 : goal.invariant_of-self-2
invariant_of-self-2 c = record {
  fits =
      let many : length c.self.inside.texts.keys ≡ length c.args.self.now = sym (length-map c.self.inside.texts.keys string_bytes) ∙ ap length c.self.view_is in
      grind (arith, c.in_ok-index.ensures.len);
  different = different_bytes c.insert_full.new.self.keys c.in_ok-index.ensures.unique;
}

pub returns-clause-found : goal.returns-clause-found
returns-clause-found c = stored_at c.in_ok-owned.owned c.insert_full.new.self.keys c.in_ok-index.index c.in_ok-index.ensures.stored ∙ ap Some c.in_ok-owned.ensures.ok

pub returns-clause-texts : goal.returns-clause-texts
returns-clause-texts c =
    ap (map string_bytes) c.in_ok-index.ensures.keys
    ∙ with_text-insert c.self.inside.texts.keys c.in_ok-owned.owned
    ∙ ap (with_text (map string_bytes c.self.inside.texts.keys)) c.in_ok-owned.ensures.ok
    ∙ ap (λ names. with_text names c.args.text.now) c.self.view_is

pub returns-clause-different : goal.returns-clause-different
returns-clause-different c = different_bytes c.insert_full.new.self.keys c.in_ok-index.ensures.unique
