-- How the arguments of a call are kept.
use Rattle.std.specs.Prelude.{ℤ, List}
use Rattle.pst_target.specs.declared.call.CallArguments.TheInside.{Inside}

-- the numbers in order
abbrev pub numbers_of : Inside → List ℤ
numbers_of arguments = arguments.numbers.items
