-- While the activity and the sources are read nothing is filled in.
use Rattle.std.proofs.Common.{◌≡◌, ℕ, List, [], get_or, All, Some}
use Rattle.std.specs.Prelude.{slice_get}
use Rattle.std.proofs.lemmas.Option.{slice_get-get_or}
use Rattle.pst_model.specs.ModelTree.{ModelTree}
use Rattle.pst_model.specs.Sound.{IsSound}
use Rattle.pst_scen.specs.declared.act.Filled.{Filled}
use Rattle.pst_scen.specs.declared.scenario.Scenario.{Scenario}
use Rattle.pst_legal.specs.Growing.{nothing_yet}
use Rattle.pst_legal.specs.Reading.{Reads, then_read, read_tree}
use Rattle.pst_legal.specs.SupplyReading.{read_supply}
use Rattle.pst_built.specs.Laws.{IsConcreteRoot}
use Rattle.pst_built.proofs.Spots.{at_act}
use Rattle.pst_built.proofs.Went.{twice}
use Rattle.pst_built.proofs.Filled.{gives_here}
use Rattle.pst_built.proofs.Fresh.{AreFresh, fresh_tree, fresh_supply}
use Rattle.pst_built.proofs.Served.{open_is}
use Rattle.pst_read_domains.proofs.Empty.{IsUnvalued}
use Rattle.pst_blank_values.specs.Values.{IsBareAct, AreBare}

all_from : {A : Type 0} (P : A → Type 0) (xs : List A) → ((k : ℕ) (x : A) → slice_get xs k ≡ Some x → P x) → All P xs
all_from P xs each k d l = each k (get_or xs k d) (slice_get-get_or xs k d l)

-- at a place of the activity or of the sources
pub unvalued_bare : (s : Scenario) → IsUnvalued s → AreBare s.actions
unvalued_bare s none =
    all_from IsBareAct s.actions
    (λ a x at. record {
      fields = none.fields a x at;
      claims = none.claims a x at;
      references = all_from (λ (f : Filled). f.values ≡ []) x.references (λ r f is. none.outputs a r f (at_act s.actions a r x f at is));
    })

-- and once they are read
fresh_bare : (m : ModelTree) → IsSound m → (s : Scenario) → AreFresh m s → AreBare s.actions
fresh_bare m sound s fresh =
    all_from IsBareAct s.actions
    (λ a x at.
    let own = fresh a x at in
    record { fields = own.fields; claims = own.claims; references = all_from (λ (f : Filled). f.values ≡ []) x.references (λ r f is. (open_is m sound x own r f is).values) })

pub sources_bare : (m : ModelTree) (root seed level : ℕ) (choices : List ℕ) (u : Scenario) (place : ℕ) (left : List ℕ) → IsSound m → IsConcreteRoot m root
    → then_read (read_tree m seed root (nothing_yet level) 0 choices) (read_supply m seed) ≡ Reads u place left → AreBare u.actions
sources_bare m root seed level choices u place left sound concrete e =
    let tree = read_tree m seed root (nothing_yet level) 0 choices in
    let v = twice tree (read_supply m seed) u place left e in
    let first = gives_here (AreFresh m) tree v.mid v.place v.left (fresh_tree m sound seed root level 0 choices concrete) v.first in
    fresh_bare m sound u (gives_here (AreFresh m) (read_supply m seed v.mid v.place v.left) u place left (fresh_supply m seed v.mid v.place v.left first) v.second)
