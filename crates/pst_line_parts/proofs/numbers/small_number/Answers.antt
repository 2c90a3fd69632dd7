use Rattle.std.proofs.Common.{◌≡◌, arith, map, string_bytes}
use Rattle.pst_line_parts.proofs.Given.{number_fits}
use Rattle.pst_line_parts.proofs.numbers.small_number.Goals as goal

pub overflow_cast-result : goal.overflow_cast-result
overflow_cast-result c =
    let wide = c.from.ensures in
    record {
      fits = number_fits c.args.key (map string_bytes c.args.line.now.arguments.now) c.args.otherwise c.number-number.result c.ranges.otherwise.fits c.requires c.number-number.ensures.is_given
          (λ e. let same = c.number-number.ensures.is_not e in omega (arith, same, wide));
    }
