-- What is read of an activity has no links, no claims and no values but those of compound actions.
use Rattle.std.proofs.Common.{◌≡◌, ℕ, ℤ, List, [], ◌∷◌, ◌++◌, map, length, Option, Some, refl, sym, ap, ◌∙◌}
use Rattle.std.proofs.lemmas.List.{map-append}
use Rattle.pst_model.specs.declared.action.Field.{Field}
use Rattle.pst_model.specs.ModelTree.{ModelTree}
use Rattle.pst_scen.specs.declared.act.Act.{Act}
use Rattle.pst_scen.specs.declared.scenario.Scenario.{Scenario}
use Rattle.pst_scen.specs.declared.scenario.First.{First}
use Rattle.pst_legal.specs.Growing.{Look, Inner, Leaf, nothing_yet, with_look, open_act}
use Rattle.pst_legal.specs.Menus.{menu}
use Rattle.pst_legal.specs.Reading.{Reading, Wants, Stops, Reads, read_tree, put_value}
use Rattle.pst_built.proofs.Goes.{Stands, stands}
use Rattle.pst_built.proofs.Readers.{FieldSteps, goes_tree}
use Rattle.pst_built.proofs.Read.{AnyWay, any_ways}
use Rattle.pst_shape_parts.specs.Trees.{bare}
use Rattle.pst_open_ends.specs.Changes.{opened}
use Rattle.pst_supply.specs.Walks.{scenario_at}

pub record IsPlain (m : ModelTree) (level : ℕ) (s : Scenario) : Type 0 where
  pub of_level : s.level ≡ level
  pub firsts : s.firsts ≡ []
  pub acts : map (opened m) (map bare s.actions) ≡ s.actions

plain_look : (m : ModelTree) (level : ℕ) (s : Scenario) (parent : Option ℕ) (look : Look) → IsPlain m level s → IsPlain m level (with_look m s parent look)
plain_look m level s parent (Inner f) plain = record { of_level = plain.of_level; firsts = plain.firsts; acts = plain.acts }
plain_look m level s parent (Leaf action instance) plain =
    let act = open_act m action instance (Some (length s.nodes)) in
    record {
      of_level = plain.of_level;
      firsts = plain.firsts;
      acts = ap (map (opened m)) (map-append bare s.actions (act ∷ []))
          ∙ map-append (opened m) (map bare s.actions) (bare act ∷ [])
          ∙ ap (λ acts. acts ++ act ∷ []) plain.acts;
    }

plain_put : (m : ModelTree) (level : ℕ) (s : Scenario) (n : ℕ) (v : ℤ) → IsPlain m level s → IsPlain m level (put_value s n v)
plain_put m level s n v plain = record { of_level = plain.of_level; firsts = plain.firsts; acts = plain.acts }

abbrev Stays : ModelTree → ℕ → Scenario → Scenario → Type 0
Stays m level s t = IsPlain m level s → IsPlain m level t

plain_fields : (m : ModelTree) (level n : ℕ) (fields : List Field) (s : Scenario) → FieldSteps (Stays m level) n fields s
plain_fields m level n [] s = tt
plain_fields m level n (field ∷ fields) s = λ k l. (plain_put m level s n _, plain_fields m level n fields (put_value s n _))

plain_stands : (m : ModelTree) (level seed root : ℕ) (ds : List ℕ) → Stands (Stays m level) (nothing_yet level) (read_tree m seed root (nothing_yet level) 0 ds)
plain_stands m level seed root ds =
    stands (Stays m level) (nothing_yet level) (read_tree m seed root (nothing_yet level) 0 ds) (λ more. read_tree m seed root (nothing_yet level) 0 (ds ++ more))
    (goes_tree (Stays m level) (λ s h. h) (λ s t u a b h. b (a h)) m AnyWay (λ piece. any_ways (menu m piece))
    (λ s parent look fields is. (plain_look m level s parent look, plain_fields m level _ fields (with_look m s parent look))) seed root (nothing_yet level) 0 ds)

-- what has been read is that
abbrev pub IfThere : (Scenario → Type 0) → Reading → Type 0
IfThere P (Wants t n) = P t
IfThere P Stops = Unit {0}
IfThere P (Reads t q left) = P t

plain_of : (m : ModelTree) (level : ℕ) (r : Reading) → Stands (Stays m level) (nothing_yet level) r → IfThere (IsPlain m level) r
plain_of m level (Wants t n) h = h (record { of_level = refl; firsts = refl; acts = refl })
plain_of m level Stops h = tt
plain_of m level (Reads t q left) h = h (record { of_level = refl; firsts = refl; acts = refl })

pub plain_tree : (m : ModelTree) (level seed root : ℕ) (ds : List ℕ) → IfThere (IsPlain m level) (read_tree m seed root (nothing_yet level) 0 ds)
plain_tree m level seed root ds = plain_of m level (read_tree m seed root (nothing_yet level) 0 ds) (plain_stands m level seed root ds)

abbrev scenario_by : Scenario → ℕ → List Act → List First → Scenario
scenario_by s level acts firsts = record { level = level; nodes = s.nodes; actions = acts; firsts = firsts }

-- so it is what its nodes and bare leaves say
pub plain_is : (m : ModelTree) (level : ℕ) (s : Scenario) → IsPlain m level s → scenario_at m level s.nodes (map bare s.actions) ≡ s
plain_is m level s plain =
    ap (λ acts. scenario_by s level acts []) plain.acts
    ∙ ap (λ l. scenario_by s l s.actions []) (sym plain.of_level)
    ∙ ap (λ firsts. scenario_by s s.level s.actions firsts) (sym plain.firsts)
