-- Lines of a header.
use Rattle.std.proofs.Common.{◌≡◌, ◌≤◌, ◌+◌, ℕ, zero, suc, List, [], ◌∷◌, ◌++◌, length, get_or, nat_eq, Bool, true, false, refl, sym, ap, subst, ◌∙◌, append_assoc, append-nil, decimal, arith}
use Rattle.std.specs.Prelude.{All, ℤ, codes, Option, None, Some, slice_get, Contains, if◌then◌else◌}
use Rattle.std.specs.List.{flat_map}
use Rattle.std.specs.Int.{bit_at}
use Rattle.std.proofs.lemmas.List.Elements.{All-append, All-cons, All-nil, All-head, All-tail, All-weaker}
use Rattle.std.proofs.lemmas.Grind.{flat_map-append}
use Rattle.pst_model.specs.ModelTree.{ModelTree, ActionTree}
use Rattle.pst_scen.specs.declared.event.Event.{Event}
use Rattle.pst_scen.specs.declared.tree.Node.{Node}
use Rattle.pst_scen.specs.declared.tree.Fill.{Fill}
use Rattle.pst_scen.specs.declared.tree.Fill.TheVariants.{Compound, Leaf, Sequence, Parallel, Schedule, Joined, Select, Repeat, Turn, If, Match}
use Rattle.pst_scen.specs.declared.act.Act.{Act}
use Rattle.pst_scen.specs.declared.act.Filled.{Filled}
use Rattle.pst_scen.specs.declared.act.Claimed.{Claimed}
use Rattle.pst_scen.specs.declared.act.Flow.{Flow}
use Rattle.pst_scen.specs.declared.act.Flow.TheVariants.{BufferIn, BufferOut, StreamIn, StreamOut, StateIn, StateOut}
use Rattle.pst_scen.specs.declared.act.Link.{Link}
use Rattle.pst_scen.specs.declared.act.Link.TheVariants as link
use Rattle.pst_scen.specs.declared.scenario.First.{First}
use Rattle.pst_scen.specs.declared.scenario.Scenario.{Scenario}
use Rattle.pst_trace_texts.specs.Lines.{line, each_from}
use Rattle.pst_trace_texts.specs.Named.{action_fields, reference_fields, claim_fields, pool_fields, pool_text, reference_name, claim_name, reference_in, claim_in, act_reference}
use Rattle.pst_trace_texts.specs.Header.{values_text, used_text, first_line, compound_line, compound_text, branch_text, branches_text, join_text, supplier_text, link_text, reference_text, claim_text, origin_text, action_line}
use Rattle.pst_trace_lines.specs.declared.header.HeaderLine.{HeaderLine}
use Rattle.pst_trace_lines.specs.declared.header.HeaderLine.TheVariants.{Initial, Compound as CompoundLine, Join, Action}
use Rattle.pst_trace_lines.specs.declared.last.LastLine.{LastLine}
use Rattle.pst_trace_lines.specs.Headers.{rank, word, IsHeaderLine}
use Rattle.pst_trace_reader.specs.Traces.{AreRest, AHeaderLine, ABlock, TheLast}
use Rattle.pst_written_traces.proofs.Printed.{Printed, joined, number, unbroken}
use Rattle.pst_written_traces.proofs.Named.{each, pool_printed, reference_printed, claim_printed, used_printed, values_printed}

-- ---- one line

word_printed : (sort : HeaderLine) → Printed (word sort)
word_printed Initial = refl
word_printed CompoundLine = refl
word_printed Join = refl
word_printed Action = refl

begin : (sort : HeaderLine) → IsHeaderLine sort (word sort)
begin sort = record { rest = []; begins = sym (append-nil (word sort)); printed = word_printed sort }

on : (sort : HeaderLine) (text more : List ℕ) → IsHeaderLine sort text → Printed more → IsHeaderLine sort (text ++ more)
on sort text more own printed = record {
  rest = own.rest ++ more;
  begins = ap (λ (l : List ℕ). l ++ more) own.begins ∙ append_assoc (word sort) own.rest more;
  printed = joined text more own.printed printed;
}

-- ---- lines of one sort

-- the text is that of header lines of the sort
pub record HasLines (sort : HeaderLine) (text : List ℕ) : Type 0 where
  pub lines : List (List ℕ)
  pub are : flat_map line lines ≡ text
  pub of_sort : All (λ l. IsHeaderLine sort l) lines

one : (sort : HeaderLine) (text : List ℕ) → IsHeaderLine sort text → HasLines sort (line text)
one sort text own = record {
  lines = text ∷ [];
  are = append-nil (line text);
  of_sort = All-cons (λ l. IsHeaderLine sort l) text [] own (All-nil (λ l. IsHeaderLine sort l));
}

none : (sort : HeaderLine) → HasLines sort []
none sort = record { lines = []; are = refl; of_sort = All-nil (λ l. IsHeaderLine sort l) }

pub many : {X : Type 0} (sort : HeaderLine) (text : ℕ → X → List ℕ) (items : List X) → ((number : ℕ) (item : X) → HasLines sort (text number item)) → (number : ℕ) → HasLines sort (each_from text number items)
many sort text [] own number = none sort
many sort text (item ∷ items) own number =
    let first = own number item in
    let rest = many sort text items own (number + 1) in
    record {
      lines = first.lines ++ rest.lines;
      are = flat_map-append line first.lines rest.lines ∙ ap (λ (l : List ℕ). l ++ flat_map line rest.lines) first.are ∙ ap (λ (l : List ℕ). text number item ++ l) rest.are;
      of_sort = All-append (λ l. IsHeaderLine sort l) first.lines rest.lines first.of_sort rest.of_sort;
    }

-- header lines have no line feed
pub all_unbroken : (sort : HeaderLine) (lines : List (List ℕ)) → All (λ l. IsHeaderLine sort l) lines → All (λ l. Contains l 10 → ⊥) lines
all_unbroken sort lines own = All-weaker (λ l. IsHeaderLine sort l) (λ l. Contains l 10 → ⊥) (λ l is. unbroken l is.printed) lines own

-- ---- what they stand for

pub earlier : (format passed other : ℕ) (lines header : List (List ℕ)) (events : List Event) (last : LastLine) → passed ≤ other → AreRest format other lines header events last → AreRest format passed lines header events last
earlier format passed other _ _ events last before (AHeaderLine _ sort text more header _ _ fits join is rest) = AHeaderLine passed sort text more header events last (omega (arith, before, fits)) join is rest
earlier format passed other _ header _ last before (ABlock _ text more _ own events _ is rest) = ABlock passed text more header own events last is rest
earlier format passed other _ _ _ last before (TheLast _ text _ is) = TheLast passed text last is

pub behind_heads : (format passed : ℕ) (sort : HeaderLine) (lines more header : List (List ℕ)) (events : List Event) (last : LastLine) → passed ≤ rank sort → (sort ≡ Join → format ≡ 2)
    → All (λ l. IsHeaderLine sort l) lines → AreRest format (rank sort) more header events last → AreRest format passed (lines ++ more) (lines ++ header) events last
behind_heads format passed sort [] more header events last fits join own rest = earlier format passed (rank sort) more header events last fits rest
behind_heads format passed sort (text ∷ lines) more header events last fits join own rest =
    AHeaderLine passed sort text (lines ++ more) (lines ++ header) events last fits join (All-head (λ l. IsHeaderLine sort l) text lines own)
    (behind_heads format (rank sort) sort lines more header events last (omega arith) join (All-tail (λ l. IsHeaderLine sort l) text lines own) rest)

-- ---- the lines of a scenario

branch_printed : (joined branch : ℕ) → Printed (branch_text joined branch)
branch_printed set branch = by (nat_eq (bit_at set branch) 1)
  where
    by : (b : Bool) → Printed (if b then codes " " ++ decimal branch else [])
    by true = joined (codes " ") (decimal branch) refl (number branch)
    by false = refl

branches_printed : (set branch count : ℕ) → Printed (branches_text set branch count)
branches_printed set branch zero = refl
branches_printed set branch (suc count) = joined (branch_text set branch) (branches_text set (branch + 1) count) (branch_printed set branch) (branches_printed set (branch + 1) count)

pub join_lines : (at : ℕ) (fill : Fill) → HasLines Join (join_text at fill)
join_lines at (Joined parallel set) =
    one Join (codes "join " ++ decimal at ++ branches_text set 0 64)
    (on Join (codes "join " ++ decimal at) (branches_text set 0 64) (on Join (codes "join ") (decimal at) (begin Join) (number at)) (branches_printed set 0 64))
join_lines at (Compound action instance fields) = none Join
join_lines at (Leaf act) = none Join
join_lines at Sequence = none Join
join_lines at Parallel = none Join
join_lines at Schedule = none Join
join_lines at (Select branch) = none Join
join_lines at Repeat = none Join
join_lines at (Turn index) = none Join
join_lines at (If taken) = none Join
join_lines at (Match arm) = none Join

module _ (names : List (List ℕ)) (own : All (λ n. Printed n) names) (m : ModelTree) where
  pub initial_lines : (first : First) → HasLines Initial (first_line names m first)
  initial_lines first =
      one Initial (codes "initial " ++ pool_text names m (slice_get m.pools first.pool) ++ values_text names [] (pool_fields m (slice_get m.pools first.pool)) first.values)
      (on Initial (codes "initial " ++ pool_text names m (slice_get m.pools first.pool)) (values_text names [] (pool_fields m (slice_get m.pools first.pool)) first.values)
      (on Initial (codes "initial ") (pool_text names m (slice_get m.pools first.pool)) (begin Initial) (pool_printed names own m (slice_get m.pools first.pool)))
      (values_printed names own [] refl (pool_fields m (slice_get m.pools first.pool)) first.values))

  pub compound_lines : (fill : Fill) → HasLines CompoundLine (compound_text names m fill)
  compound_lines (Compound action instance fields) =
      one CompoundLine (codes "compound " ++ used_text names m instance action ++ values_text names [] (action_fields (slice_get m.actions action)) fields)
      (on CompoundLine (codes "compound " ++ used_text names m instance action) (values_text names [] (action_fields (slice_get m.actions action)) fields)
      (on CompoundLine (codes "compound ") (used_text names m instance action) (begin CompoundLine) (used_printed names own m instance action))
      (values_printed names own [] refl (action_fields (slice_get m.actions action)) fields))
  compound_lines (Leaf act) = none CompoundLine
  compound_lines Sequence = none CompoundLine
  compound_lines Parallel = none CompoundLine
  compound_lines Schedule = none CompoundLine
  compound_lines (Joined parallel set) = none CompoundLine
  compound_lines (Select branch) = none CompoundLine
  compound_lines Repeat = none CompoundLine
  compound_lines (Turn index) = none CompoundLine
  compound_lines (If taken) = none CompoundLine
  compound_lines (Match arm) = none CompoundLine

  -- ---- actions

  supplier_printed : (s : Scenario) (named : List ℕ) → Printed named → (to : Link) → Printed (supplier_text names m s named to)
  supplier_printed s named is link.Nothing = refl
  supplier_printed s named is link.Initial = joined (codes " " ++ named) (codes "<initial") (joined (codes " ") named refl is) refl
  supplier_printed s named is (link.Act act reference) =
      let one = joined (codes " ") named refl is in
      let two = joined (codes " " ++ named) (codes "<") one refl in
      let three = joined ((codes " " ++ named) ++ codes "<") (decimal act) two (number act) in
      let four = joined (((codes " " ++ named) ++ codes "<") ++ decimal act) (codes ".") three refl in
      joined ((((codes " " ++ named) ++ codes "<") ++ decimal act) ++ codes ".") (reference_name names (act_reference m s act reference)) four (reference_printed names own (act_reference m s act reference))

  link_printed : (s : Scenario) (named : List ℕ) → Printed named → (flow : Flow) (to : Link) → Printed (link_text names m s named flow to)
  link_printed s named is BufferIn to = supplier_printed s named is to
  link_printed s named is StreamIn to = supplier_printed s named is to
  link_printed s named is StateIn to = supplier_printed s named is to
  link_printed s named is StateOut to = supplier_printed s named is to
  link_printed s named is BufferOut to = refl
  link_printed s named is StreamOut to = refl

  filled_printed : (s : Scenario) (type : Option ActionTree) (at : ℕ) (filled : Filled) → Printed (reference_text names m s type at filled)
  filled_printed s type at filled =
      let named = reference_printed names own (reference_in type at) in
      joined (values_text names (reference_name names (reference_in type at) ++ codes ".") (reference_fields m (reference_in type at)) filled.values)
      (link_text names m s (reference_name names (reference_in type at)) filled.flow filled.link)
      (values_printed names own (reference_name names (reference_in type at) ++ codes ".") (joined (reference_name names (reference_in type at)) (codes ".") named refl) (reference_fields m (reference_in type at)) filled.values)
      (link_printed s (reference_name names (reference_in type at)) named filled.flow filled.link)

  claimed_printed : (type : Option ActionTree) (at : ℕ) (claimed : Claimed) → Printed (claim_text names m type at claimed)
  claimed_printed type at claimed =
      let named = claim_printed names own (claim_in type at) in
      let one = joined (codes " ") (claim_name names (claim_in type at)) refl named in
      let two = joined (codes " " ++ claim_name names (claim_in type at)) (codes "[") one refl in
      let three = joined ((codes " " ++ claim_name names (claim_in type at)) ++ codes "[") (decimal claimed.instance) two (number claimed.instance) in
      let four = joined (((codes " " ++ claim_name names (claim_in type at)) ++ codes "[") ++ decimal claimed.instance) (codes "]") three refl in
      joined ((((codes " " ++ claim_name names (claim_in type at)) ++ codes "[") ++ decimal claimed.instance) ++ codes "]")
      (values_text names (claim_name names (claim_in type at) ++ codes ".") (claim_fields m (claim_in type at)) claimed.values) four
      (values_printed names own (claim_name names (claim_in type at) ++ codes ".") (joined (claim_name names (claim_in type at)) (codes ".") named refl) (claim_fields m (claim_in type at)) claimed.values)

  origin_printed : (node : Option ℕ) → Printed (origin_text node)
  origin_printed None = refl
  origin_printed (Some node) = refl

  pub action_lines : (s : Scenario) (at : ℕ) (act : Act) → HasLines Action (action_line names m s at act)
  action_lines s at act =
      let type = slice_get m.actions act.action in
      let a = on Action (codes "action ") (decimal at) (begin Action) (number at) in
      let b = on Action (codes "action " ++ decimal at) (codes " ") a refl in
      let c = on Action (codes "action " ++ decimal at ++ codes " ") (used_text names m act.instance act.action) b (used_printed names own m act.instance act.action) in
      let d = on Action (codes "action " ++ decimal at ++ codes " " ++ used_text names m act.instance act.action) (origin_text act.node) c (origin_printed act.node) in
      let e = on Action (codes "action " ++ decimal at ++ codes " " ++ used_text names m act.instance act.action ++ origin_text act.node) (values_text names [] (action_fields type) act.fields) d
      (values_printed names own [] refl (action_fields type) act.fields) in
      let f = on Action (codes "action " ++ decimal at ++ codes " " ++ used_text names m act.instance act.action ++ origin_text act.node ++ values_text names [] (action_fields type) act.fields)
      (each_from (reference_text names m s type) 0 act.references) e (each (reference_text names m s type) act.references (filled_printed s type) 0) in
      let g = on Action (codes "action " ++ decimal at ++ codes " " ++ used_text names m act.instance act.action ++ origin_text act.node ++ values_text names [] (action_fields type) act.fields
      ++ each_from (reference_text names m s type) 0 act.references)
      (each_from (claim_text names m type) 0 act.claims) f (each (claim_text names m type) act.claims (claimed_printed type) 0) in
      one Action (codes "action " ++ decimal at ++ codes " " ++ used_text names m act.instance act.action ++ origin_text act.node ++ values_text names [] (action_fields type) act.fields
      ++ each_from (reference_text names m s type) 0 act.references ++ each_from (claim_text names m type) 0 act.claims) g
