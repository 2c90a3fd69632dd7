use Rattle.std.proofs.Common.{◌≡◌, ◌<◌, length, sym, Some, None, get_or, []}
use Rattle.pst_io.specs.Named.{file_of}
use Rattle.pst_io.specs.SureShelf.{named}
use Rattle.pst_io.proofs.Finding.{file_of-found, file_of-missing}
use Rattle.pst_io.proofs.sure_shelf.SureShelfShelf.open.Goals as goal
use Rattle.pst_io.proofs.sure_shelf.SureShelfShelf.open.Goals.{In-Some, In-None}

missing : (c : In-None) → file_of (named c.self.inside.files.items) c.args.name.now ≡ None
missing c = file_of-missing c.self.inside.files.items c.args.name.now (rw (← c.as_slice.ensures.value) (sym c.in-None.ensures))

found : (c : In-Some) → (c.in-Some.file < length c.self.inside.files.items) × (file_of (named c.self.inside.files.items) c.args.name.now ≡ Some (get_or (named c.self.inside.files.items) c.in-Some.file ([], [])).1)
found c = file_of-found c.self.inside.files.items c.args.name.now c.in-Some.file (rw (← c.as_slice.ensures.value) (sym c.in-Some.ensures))

pub returns-in-None-clause-answer : goal.returns-in-None-clause-answer
returns-in-None-clause-answer c = rw (← c.self.view_is, missing (goal.at.returns-in-None-clause-answer c).In-None)

pub returns-in-None-clause-shelf : goal.returns-in-None-clause-shelf
returns-in-None-clause-shelf c = rw (← c.self.view_is, missing (goal.at.returns-in-None-clause-shelf c).In-None)

pub returns-in-Some-clause-answer : goal.returns-in-Some-clause-answer
returns-in-Some-clause-answer c = rw (← c.self.view_is, (found (goal.at.returns-in-Some-clause-answer c).In-Some).1)

pub returns-in-Some-clause-shelf : goal.returns-in-Some-clause-shelf
returns-in-Some-clause-shelf c = rw (← c.self.view_is, (found (goal.at.returns-in-Some-clause-shelf c).In-Some).1)
