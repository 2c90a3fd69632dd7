-- Each kind of part is settled, or its fault is certain.
use Rattle.std.proofs.Common.{List, ℕ, refl, sym, ap, subst, take, drop, pos, to_z, of_z, w64}
use Rattle.pst_token.specs.declared.kind.Kind.TheVariants as kind
use Rattle.pst_token.specs.Lexemes.{fixed, name, number}
use Rattle.pst_token.specs.Parts.{Part, lexeme}
use Rattle.pst_token.specs.Tokens.{token_of}
use Rattle.pst_lexer.specs.Finding.{Begins, BeginsNone, IsGap}
use Rattle.pst_lexer.proofs.Settling.{bad_here, wide_here}
use Rattle.pst_lexer.proofs.Numbered.{stay_added}
use Rattle.pst_lexer.proofs.Steps.{gap_scans, add_scans, name_scans, refused_certain, fixed_is_no_name, column_fits, name_bytes, number_value}
use Rattle.pst_lexer.proofs.scan.Scanner.step.Goals as goal

pub pass-requires-clause-column : goal.pass-requires-clause-column
pass-requires-clause-column c =
    let (part, gap, begins) = c.in-Gap.ensures in
    column_fits c.args.is_last c.args.names.now c.args.self.now c.in-Gap.len c.requires.scanning c.requires.small (subst (λ rest. Begins rest c.args.is_last c.in-Gap.len part) c.rest.ensures begins).within

pub add-requires-clause-column : goal.add-requires-clause-column
add-requires-clause-column c =
    column_fits c.args.is_last c.args.names.now c.args.self.now c.in-Fixed.len c.requires.scanning c.requires.small (subst (λ rest. Begins rest c.args.is_last c.in-Fixed.len (lexeme (fixed c.in-Fixed.kind))) c.rest.ensures c.in-Fixed.ensures).within

pub add-requires-in-Number-clause-column : goal.add-requires-in-Number-clause-column
add-requires-in-Number-clause-column c =
    let (n, _, _, begins) = c.in-Number.ensures in
    column_fits c.args.is_last c.args.names.now c.args.self.now c.in-Number.len c.requires.scanning c.requires.small (subst (λ rest. Begins rest c.args.is_last c.in-Number.len (lexeme (number (take c.in-Number.len rest) n))) c.rest.ensures begins).within

pub add_name-requires-clause-word : goal.add_name-requires-clause-word
add_name-requires-clause-word c =
    name_bytes (drop c.args.self.now.start c.args.self.now.taken.items) c.args.is_last c.in-Name.len (subst (λ rest. Begins rest c.args.is_last c.in-Name.len (lexeme (name (take c.in-Name.len rest)))) c.rest.ensures c.in-Name.ensures)

pub add_name-requires-clause-column : goal.add_name-requires-clause-column
add_name-requires-clause-column c =
    column_fits c.args.is_last c.args.names.now c.args.self.now c.in-Name.len c.requires.scanning c.requires.small (subst (λ rest. Begins rest c.args.is_last c.in-Name.len (lexeme (name (take c.in-Name.len rest)))) c.rest.ensures c.in-Name.ensures).within

pub returns-in-Nothing-clause-fault : goal.returns-in-Nothing-clause-fault
returns-in-Nothing-clause-fault c other =
    bad_here c.requires.scanning.settled c.requires.some (subst (λ rest. BeginsNone rest c.args.is_last) c.rest.ensures c.in-Nothing.ensures)

pub returns-in-Wide-clause-fault : goal.returns-in-Wide-clause-fault
returns-in-Wide-clause-fault c other =
    let (n, len, above, begins) = c.in-Wide.ensures in
    wide_here c.requires.scanning.settled len n above (subst (λ rest. Begins rest c.args.is_last len (lexeme (number (take len rest) n))) c.rest.ensures begins)

pub returns-in-Gap-clause-scanning : goal.returns-in-Gap-clause-scanning
returns-in-Gap-clause-scanning c =
    let (part, gap, begins) = c.in-Gap.ensures in
    gap_scans c.args.is_last c.args.names.now c.args.self.now c.pass.new.self c.in-Gap.len c.requires.scanning (part, gap, subst (λ rest. Begins rest c.args.is_last c.in-Gap.len part) c.rest.ensures begins) c.pass.ensures

pub returns-in-Fixed-clause-scanning : goal.returns-in-Fixed-clause-scanning
returns-in-Fixed-clause-scanning c =
    add_scans c.args.is_last c.args.names.now c.args.self.now c.add.new.self c.in-Fixed.len (fixed c.in-Fixed.kind) c.in-Fixed.kind 0 (pos 0) c.add.result c.requires.scanning
    (subst (λ rest. Begins rest c.args.is_last c.in-Fixed.len (lexeme (fixed c.in-Fixed.kind))) c.rest.ensures c.in-Fixed.ensures) tt refl c.add.ensures.ok c.add.ensures.err

pub returns-in-Fixed-clause-fault : goal.returns-in-Fixed-clause-fault
returns-in-Fixed-clause-fault c =
    refused_certain c.args.is_last c.args.names.now c.args.self.now c.add.new.self c.in-Fixed.len (fixed c.in-Fixed.kind) c.add.result c.requires.scanning
    (subst (λ rest. Begins rest c.args.is_last c.in-Fixed.len (lexeme (fixed c.in-Fixed.kind))) c.rest.ensures c.in-Fixed.ensures) tt c.add.ensures.err c.add.ensures.fault

pub returns-in-Number-clause-scanning : goal.returns-in-Number-clause-scanning
returns-in-Number-clause-scanning c =
    let (n, same, below, begins) = c.in-Number.ensures in
    add_scans c.args.is_last c.args.names.now c.args.self.now c.add-in-Number.new.self c.in-Number.len (number (take c.in-Number.len (drop c.args.self.now.start c.args.self.now.taken.items)) n) kind.Number 0 (to_z w64 (of_z w64 c.in-Number.value)) c.add-in-Number.result c.requires.scanning
    (subst (λ rest. Begins rest c.args.is_last c.in-Number.len (lexeme (number (take c.in-Number.len rest) n))) c.rest.ensures begins) below (ap (λ value. token_of kind.Number 0 value c.args.self.now.place) (number_value c.in-Number.value n same below)) c.add-in-Number.ensures.ok c.add-in-Number.ensures.err

pub returns-in-Number-clause-fault : goal.returns-in-Number-clause-fault
returns-in-Number-clause-fault c =
    let (n, same, below, begins) = c.in-Number.ensures in
    refused_certain c.args.is_last c.args.names.now c.args.self.now c.add-in-Number.new.self c.in-Number.len (number (take c.in-Number.len (drop c.args.self.now.start c.args.self.now.taken.items)) n) c.add-in-Number.result c.requires.scanning
    (subst (λ rest. Begins rest c.args.is_last c.in-Number.len (lexeme (number (take c.in-Number.len rest) n))) c.rest.ensures begins) below c.add-in-Number.ensures.err c.add-in-Number.ensures.fault

pub returns-in-Name-clause-scanning : goal.returns-in-Name-clause-scanning
returns-in-Name-clause-scanning c =
    name_scans c.args.is_last c.args.names.now c.add_name.new.names c.args.self.now c.add_name.new.self c.in-Name.len c.add_name.result c.requires.scanning
    (subst (λ rest. Begins rest c.args.is_last c.in-Name.len (lexeme (name (take c.in-Name.len rest)))) c.rest.ensures c.in-Name.ensures) c.add_name.ensures.names c.add_name.ensures.ok c.add_name.ensures.err

pub returns-in-Name-clause-fault : goal.returns-in-Name-clause-fault
returns-in-Name-clause-fault c =
    refused_certain c.args.is_last c.args.names.now c.args.self.now c.add_name.new.self c.in-Name.len (name (take c.in-Name.len (drop c.args.self.now.start c.args.self.now.taken.items))) c.add_name.result c.requires.scanning
    (subst (λ rest. Begins rest c.args.is_last c.in-Name.len (lexeme (name (take c.in-Name.len rest)))) c.rest.ensures c.in-Name.ensures) tt c.add_name.ensures.err c.add_name.ensures.fault

pub returns-in-Fixed-clause-numbered : goal.returns-in-Fixed-clause-numbered
returns-in-Fixed-clause-numbered c =
    stay_added c.add.result c.args.self.now c.add.new.self c.args.names.now c.in-Fixed.kind 0 c.in-Fixed.len _
    (fixed_is_no_name c.rest.result.now c.args.is_last c.in-Fixed.len c.in-Fixed.kind c.in-Fixed.ensures) c.add.ensures.ok

pub returns-in-Number-clause-numbered : goal.returns-in-Number-clause-numbered
returns-in-Number-clause-numbered c =
    stay_added c.add-in-Number.result c.args.self.now c.add-in-Number.new.self c.args.names.now kind.Number 0 c.in-Number.len _ (λ same. cc) c.add-in-Number.ensures.ok
