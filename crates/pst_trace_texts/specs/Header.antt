-- The header of a trace.
use Rattle.std.specs.Prelude.{ℕ, zero, suc, ◌+◌, ℤ, List, [], ◌∷◌, ◌++◌, length, get_or, nat_eq, if◌then◌else◌, codes, decimal, Option, None, Some, slice_get}
use Rattle.std.specs.Int.{bit_at}
use Rattle.std.specs.Fmt.{signed_decimal}
use Rattle.pst_model.specs.declared.action.Field.{Field}
use Rattle.pst_model.specs.ModelTree.{ModelTree, ActionTree}
use Rattle.pst_scen.specs.declared.tree.Node.{Node}
use Rattle.pst_scen.specs.declared.tree.Fill.{Fill}
use Rattle.pst_scen.specs.declared.tree.Fill.TheVariants.{Compound, Leaf, Sequence, Parallel, Schedule, Joined, Select, Repeat, Turn, If, Match}
use Rattle.pst_scen.specs.declared.act.Act.{Act}
use Rattle.pst_scen.specs.declared.act.Filled.{Filled}
use Rattle.pst_scen.specs.declared.act.Claimed.{Claimed}
use Rattle.pst_scen.specs.declared.act.Flow.{Flow}
use Rattle.pst_scen.specs.declared.act.Flow.TheVariants.{BufferIn, BufferOut, StreamIn, StreamOut, StateIn, StateOut}
use Rattle.pst_scen.specs.declared.act.Link.{Link}
use Rattle.pst_scen.specs.declared.act.Link.TheVariants as link
use Rattle.pst_scen.specs.declared.scenario.First.{First}
use Rattle.pst_scen.specs.declared.scenario.Scenario.{Scenario}
use Rattle.pst_trace_texts.specs.Lines.{line, each_from}
use Rattle.pst_trace_texts.specs.Named.{name, paths, pool_text, type_text, action_fields, reference_fields, claim_fields, pool_fields, reference_name, claim_name, reference_in, claim_in, act_reference}

-- ---- values

-- `[i]` for an element of an array
abbrev pub element_text : Option ℕ → List ℕ
element_text None = []
element_text (Some index) = codes "[" ++ decimal index ++ codes "]"

-- ` f=v`, or ` f[i]=v` for an element, with a name and a dot before it for a field of an object
abbrev pub value_text : List (List ℕ) → List ℕ → Option Field → ℤ → List ℕ
value_text names before None value = []
value_text names before (Some field) value = codes " " ++ before ++ name names field.name ++ element_text field.element ++ codes "=" ++ signed_decimal value

-- the values of fields in order
abbrev pub values_text : List (List ℕ) → List ℕ → List Field → List ℤ → List ℕ
values_text names before fields values = each_from (λ at value. value_text names before (slice_get fields at) value) 0 values

-- ---- nodes

abbrev pub first_line : List (List ℕ) → ModelTree → First → List ℕ
first_line names m first =
    line (codes "initial " ++ pool_text names m (slice_get m.pools first.pool) ++ values_text names [] (pool_fields m (slice_get m.pools first.pool)) first.values)

-- an instance and a type that is used in it
abbrev pub used_text : List (List ℕ) → ModelTree → ℕ → ℕ → List ℕ
used_text names m instance action = get_or (paths names m) instance [] ++ codes " " ++ type_text names (slice_get m.actions action)

abbrev pub compound_line : List (List ℕ) → ModelTree → ℕ → ℕ → List ℤ → List ℕ
compound_line names m action instance fields =
    line (codes "compound " ++ used_text names m instance action ++ values_text names [] (action_fields (slice_get m.actions action)) fields)

-- a line for a compound action, and none for another node
abbrev pub compound_text : List (List ℕ) → ModelTree → Fill → List ℕ
compound_text names m (Compound action instance fields) = compound_line names m action instance fields
compound_text names m (Leaf act) = []
compound_text names m Sequence = []
compound_text names m Parallel = []
compound_text names m Schedule = []
compound_text names m (Joined parallel joined) = []
compound_text names m (Select branch) = []
compound_text names m Repeat = []
compound_text names m (Turn index) = []
compound_text names m (If taken) = []
compound_text names m (Match arm) = []

-- ` k` for a branch that is joined, whose bit is set
abbrev pub branch_text : ℕ → ℕ → List ℕ
branch_text joined branch = if nat_eq (bit_at joined branch) 1 then codes " " ++ decimal branch else []

-- the joined ones among so many branches from this one on
abbrev pub branches_text : ℕ → ℕ → ℕ → List ℕ
branches_text joined branch zero = []
branches_text joined branch (suc count) = branch_text joined branch ++ branches_text joined (branch + 1) count

-- a line for the node of that number where it is a block with a join form, and none for another node
abbrev pub join_text : ℕ → Fill → List ℕ
join_text number (Joined parallel joined) = line (codes "join " ++ decimal number ++ branches_text joined 0 64)
join_text number (Compound action instance fields) = []
join_text number (Leaf act) = []
join_text number Sequence = []
join_text number Parallel = []
join_text number Schedule = []
join_text number (Select branch) = []
join_text number Repeat = []
join_text number (Turn index) = []
join_text number (If taken) = []
join_text number (Match arm) = []

-- ---- actions

-- the supplier of an input, or the previous writer of a state output
abbrev pub supplier_text : List (List ℕ) → ModelTree → Scenario → List ℕ → Link → List ℕ
supplier_text names m s own link.Nothing = []
supplier_text names m s own link.Initial = codes " " ++ own ++ codes "<initial"
supplier_text names m s own (link.Act act reference) = codes " " ++ own ++ codes "<" ++ decimal act ++ codes "." ++ reference_name names (act_reference m s act reference)

-- what a reference is linked to; nothing is printed for the output of a buffer or a stream
abbrev pub link_text : List (List ℕ) → ModelTree → Scenario → List ℕ → Flow → Link → List ℕ
link_text names m s own BufferIn link = supplier_text names m s own link
link_text names m s own StreamIn link = supplier_text names m s own link
link_text names m s own StateIn link = supplier_text names m s own link
link_text names m s own StateOut link = supplier_text names m s own link
link_text names m s own BufferOut link = []
link_text names m s own StreamOut link = []

-- The values of an output's object, and the link. An input has no values.
abbrev pub reference_text : List (List ℕ) → ModelTree → Scenario → Option ActionTree → ℕ → Filled → List ℕ
reference_text names m s type number filled =
    values_text names (reference_name names (reference_in type number) ++ codes ".") (reference_fields m (reference_in type number)) filled.values
    ++ link_text names m s (reference_name names (reference_in type number)) filled.flow filled.link

-- the claimed instance, and the values of its object
abbrev pub claim_text : List (List ℕ) → ModelTree → Option ActionTree → ℕ → Claimed → List ℕ
claim_text names m type number claimed =
    codes " " ++ claim_name names (claim_in type number) ++ codes "[" ++ decimal claimed.instance ++ codes "]"
    ++ values_text names (claim_name names (claim_in type number) ++ codes ".") (claim_fields m (claim_in type number)) claimed.values

-- whether the action is one of a leaf of the activity, or inferred
abbrev pub origin_text : Option ℕ → List ℕ
origin_text None = codes " inferred"
origin_text (Some node) = codes " leaf"

abbrev pub action_line : List (List ℕ) → ModelTree → Scenario → ℕ → Act → List ℕ
action_line names m s number act =
    line (codes "action " ++ decimal number ++ codes " " ++ used_text names m act.instance act.action ++ origin_text act.node
    ++ values_text names [] (action_fields (slice_get m.actions act.action)) act.fields
    ++ each_from (reference_text names m s (slice_get m.actions act.action)) 0 act.references
    ++ each_from (claim_text names m (slice_get m.actions act.action)) 0 act.claims)

-- ---- the header

-- the joins stand in format 2 alone
abbrev pub joins_text : ℕ → List Node → List ℕ
joins_text format nodes = if nat_eq format 2 then each_from (λ number node. join_text number node.fill) 0 nodes else []

-- the format, and the counts of actions and of inferred ones
abbrev pub counts_text : ℕ → ℕ → ℕ → List ℕ
counts_text format count level = line (codes "pst " ++ decimal format) ++ line (codes "scenario " ++ decimal count ++ codes " " ++ decimal level)

-- the header in a format
abbrev pub header_text : ℕ → List (List ℕ) → ModelTree → Scenario → List ℕ
header_text format names m s =
    counts_text format (length s.actions) s.level
    ++ each_from (λ number first. first_line names m first) 0 s.firsts
    ++ each_from (λ number node. compound_text names m node.fill) 0 s.nodes
    ++ joins_text format s.nodes
    ++ each_from (action_line names m s) 0 s.actions
