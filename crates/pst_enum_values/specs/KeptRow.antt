-- How the values of an enum are kept.
use Rattle.pst_enum_values.specs.Gathered.{IsAscending}
use Rattle.pst_enum_values.specs.declared.row.EnumValues.TheInside.{Inside}

-- they ascend
pub record IsEnumValues (v : Inside) : Type 0 where
  pub ascending : IsAscending v.values.items
