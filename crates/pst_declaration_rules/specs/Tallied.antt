-- The counts of the members of types with those of their bases.
use Rattle.std.specs.Prelude.{◌≡◌, ◌↔◌, ℕ, List, [], map, slice_get, slice_index_or, Option, Some, None, IsTrue}
use Rattle.std.specs.HashMap.{get}
use Rattle.std.specs.List.{filter}
use Rattle.pst_ast.specs.ActivityTree.{StatementTree}
use Rattle.pst_ast.specs.DeclarationTree.{UnitTree}
use Rattle.pst_ast.specs.DeclarationView.{view_unit}
use Rattle.pst_ast.specs.declared.scope_declaration.Declaration.{Declaration}
use Rattle.pst_ast.specs.Declarations.{declarations}
use Rattle.pst_ast.specs.Lookups.{base_of}
use Rattle.pst_type_rules.specs.Members.{AreMembers, IsCompound, IsTwofold}
use Rattle.pst_evaluate.specs.Kept.{known_in}
use Rattle.pst_evaluate.specs.Settled.{AreItemValues}
use Rattle.pst_declaration_rules.specs.declared.counted.Kind.TheVariants.{Claim, Field, Reference}
use Rattle.pst_declaration_rules.specs.declared.grouped.By.TheVariants.{OwnScope, OwnText}
use Rattle.pst_declaration_rules.specs.declared.grouped.PlaceKey.{PlaceKey}
use Rattle.pst_declaration_rules.specs.declared.member.Member.{Member}
use Rattle.pst_declaration_rules.specs.declared.sources.TypeSources.{TypeSources}
use Rattle.pst_declaration_rules.specs.declared.tally.Tally.{Tally}
use Rattle.pst_declaration_rules.specs.Counted.{total}
use Rattle.pst_declaration_rules.specs.Fields.{with_fields}
use Rattle.pst_declaration_rules.specs.Grouped.{has_key, items_at, same_key}

abbrev pub units_of : TypeSources → List UnitTree
units_of k = map view_unit k.sites.now

-- a declaration, with how many fields it adds
abbrev pub adding : TypeSources → Declaration → Member
adding k d = with_fields (units_of k) k.index.now k.names.now (known_in k.values.now) d

-- what is known is of the sources
pub record AreKnown (k : TypeSources) : Type 0 where
  pub declared : k.index.now ≡ declarations (units_of k)
  pub values : AreItemValues (units_of k) k.names.now (known_in k.values.now)
  pub members : k.members.now ≡ map (adding k) k.index.now
  pub scopes : (q : PlaceKey) → items_at (get same_key k.scopes.now q) ≡ filter (has_key OwnScope q) k.members.now
  pub texts : (q : PlaceKey) → items_at (get same_key k.texts.now q) ≡ filter (has_key OwnText q) k.members.now

-- these are the counts of these members
pub record AreTotals (k : TypeSources) (members : List Declaration) (t : Tally) : Type 0 where
  pub references : t.references ≡ total Reference (Some 0) (map (adding k) members)
  pub claims : t.claims ≡ total Claim (Some 0) (map (adding k) members)
  pub fields : t.fields ≡ total Field (Some 0) (map (adding k) members)

-- an action has an activity
abbrev pub HasActivity : TypeSources → Declaration → Type 0
HasActivity k d = (statements : List StatementTree) × IsCompound (units_of k) d statements

-- the counts of a type with its bases
pub record IsTallied (k : TypeSources) (d : Declaration) (t : Tally) : Type 0 where
  pub members : List Declaration
  pub are : AreMembers k.index.now d members
  pub totals : AreTotals k members t
  pub compound : IsTrue t.compound ↔ HasActivity k d
  pub twofold : IsTrue t.twofold ↔ IsTwofold (units_of k) d

-- a type has no base, or that one
abbrev pub BaseHas : TypeSources → Declaration → (Declaration → Type 0) → Type 0
BaseHas k d P = (base : Declaration) × (base_of k.index.now d ≡ Some base) × P base

-- the members of the base of a type
pub data AreInherited (k : TypeSources) (d : Declaration) : List Declaration → Type 0 where
  NoBase : base_of k.index.now d ≡ None → AreInherited k d []
  OfBase : (base : Declaration) (members : List Declaration) → base_of k.index.now d ≡ Some base → AreMembers k.index.now base members → AreInherited k d members

-- the counts of the base of a type
pub record IsStart (k : TypeSources) (d : Declaration) (t : Tally) : Type 0 where
  pub members : List Declaration
  pub are : AreInherited k d members
  pub totals : AreTotals k members t
  pub compound : IsTrue t.compound ↔ BaseHas k d (HasActivity k)
  pub twofold : IsTrue t.twofold ↔ BaseHas k d (IsTwofold (units_of k))

-- what is kept are the counts of declarations, by their numbers
abbrev pub AreTallied : TypeSources → List (Option Tally) → Type 0
AreTallied k tallies = (n : ℕ) (m : Member) (t : Tally) → slice_get k.members.now n ≡ Some m → slice_index_or tallies n None ≡ Some t → IsTallied k m.declaration t
