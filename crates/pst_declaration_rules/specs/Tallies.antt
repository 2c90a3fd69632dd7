-- Counts of the members of types.
use Rattle.std.specs.Prelude.{false, List, Option, Some}
use Rattle.pst_declaration_rules.specs.declared.counted.Kind.TheVariants.{Claim, Field, Reference}
use Rattle.pst_declaration_rules.specs.declared.member.Member.{Member}
use Rattle.pst_declaration_rules.specs.declared.shape.Shape.{Shape}
use Rattle.pst_declaration_rules.specs.declared.tally.Tally.{Tally}
use Rattle.pst_declaration_rules.specs.Counted.{total}
use Rattle.pst_declaration_rules.specs.Shapes.{is_compound, is_twofold}

abbrev pub nothing : Tally
nothing = record { references = Some 0; claims = Some 0; fields = Some 0; compound = false; twofold = false }

-- those of a base with a type's own
abbrev pub with_own : Tally → List Member → Option Shape → Tally
with_own start own shape = record {
  references = total Reference start.references own;
  claims = total Claim start.claims own;
  fields = total Field start.fields own;
  compound = is_compound shape start.compound;
  twofold = is_twofold shape start.twofold;
}
