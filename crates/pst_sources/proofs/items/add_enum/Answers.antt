use Rattle.std.proofs.Common.{◌≡◌, List, OnOk, subst}
use Rattle.std.specs.Prelude.{ℤ, Option}
use Rattle.pst_base.specs.declared.position.Place.{Place}
use Rattle.pst_sources.specs.Shown.{sources_of}
use Rattle.pst_sources.proofs.Itemed.{enum_is}
use Rattle.pst_sources.proofs.items.add_enum.Goals as goal

pub returns : goal.returns
returns c =
    subst (λ (xs : List (Place × Option ℤ)). OnOk c.add_rest.result (c.add_rest.new.found.items ≡ xs))
    (enum_is (sources_of c.args.known.now) c.args.site.now c.args.found.now.items c.add_item.new.found.items c.in_ok-first.first c.as_slice.result.now c.in_ok-first.ensures.found c.in_ok-first.ensures.next c.as_slice.ensures.value)
    c.add_rest.ensures
