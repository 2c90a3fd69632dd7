use Rattle.pst_lexer.proofs.Numbered.{stay_name}
use Rattle.pst_lexer.proofs.scan.Scanner.add_name.Goals as goal

pub returns-clause-numbered : goal.returns-clause-numbered
returns-clause-numbered c =
    stay_name c.add.result c.args.self.now c.add.new.self c.args.names.now c.intern.new.self _ c.in_ok-name.name.0 c.args.len c.in_ok-name.ensures.found c.in_ok-name.ensures.texts c.add.ensures.ok
