use Rattle.std.proofs.Common.{◌∙◌, ◌++◌, ap, arith, length}
use Rattle.pst_files_read.proofs.Opened.{whole_file}
use Rattle.pst_files_read.proofs.files.read_open.Goals as goal

pub returns-in-Ok-clause-finds : goal.returns-in-Ok-clause-finds
returns-in-Ok-clause-finds g c =
    let within = c.in-Ok.ensures.within in
    let empty = c.new-text.ensures.len in
    let long = ap length c.from_vec.ensures in
    let counted = c.read_all.new.into.ok in (
      c.in-Ok.ensures.count,
      whole_file (g.S.Shelf.files c.args.shelf.now) c.args.name.now (g.S.Shelf.rest c.args.shelf.now) c.from_vec.result c.requires.open
          (λ left told. c.from_vec.ensures ∙ c.in-Ok.ensures.whole left told ∙ ap (λ old. old ++ left) c.new-text.ensures.items),
      omega (arith, within, empty, long, counted),
    )
