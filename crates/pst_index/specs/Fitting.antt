-- What may stand at the end of a path.
use Rattle.std.specs.Prelude.{Bool}
use Rattle.pst_ast.specs.declared.referent.Referent.{Referent}
use Rattle.pst_ast.specs.Paths.{is_value, is_array}
use Rattle.pst_index.specs.declared.ends.PathFor.{PathFor}
use Rattle.pst_index.specs.declared.ends.PathFor.TheVariants as fits

abbrev pub fits_of : PathFor → Referent → Bool → Bool
fits_of fits.Value r index = is_value r index
fits_of fits.Array r index = is_array r index
