use Rattle.std.proofs.Common.{◌≡◌, ◌∙◌, ◌-◌, ◌+◌, length, take, drop, ap, sym, get_or, [], min}
use Rattle.std.proofs.Math.Nat.{min_comm}
use Rattle.std.proofs.lemmas.List.{get_or-map, take_rest, take_min, drop_min, drop-drop}
use Rattle.pst_io.specs.Named.{OpenFiles}
use Rattle.pst_io.specs.SureShelf.{named}
use Rattle.pst_io.proofs.Finding.{as_named}
use Rattle.pst_io.proofs.sure_shelf.SureShelfShelf.read.Goals as goal

-- the open file, as it is named
file_is : (c : goal.After-self-1) → get_or (named c.self.inside.files.items) c.in-Some.reading.file ([], []) ≡ as_named c.index.result.now
file_is c =
    get_or-map as_named c.self.inside.files.items c.in-Some.reading.file c.index.result.now ([], []) (c.self.invariant c.in-Some.reading c.in-Some.is).0
    ∙ ap as_named (sym c.index.ensures)

-- what is left of the open file
rest_is : (c : goal.After-self-1) → c.args.self.now.rest ≡ drop c.in-Some.reading.at c.index.result.now.1.items
rest_is c = rw (← c.self.view_is, c.in-Some.is, file_is c)

-- as the code reads it
left_is : (c : goal.After-self-1) → take (length c.deref.result.now - c.in-Some.reading.at) (drop c.in-Some.reading.at c.deref.result.now) ≡ c.args.self.now.rest
left_is c = take_rest c.deref.result.now c.in-Some.reading.at ∙ ap (drop c.in-Some.reading.at) c.deref.ensures.value ∙ sym (rest_is c)

-- how many bytes are moved
count_is : (c : goal.After-self-1) → c.min-n.result ≡ min (length c.args.into.now) (length c.args.self.now.rest)
count_is c = c.min-n.ensures ∙ ap (λ left. min (length c.args.into.now) (length left)) (left_is c)

pub returns-clause-piece : goal.returns-clause-piece
returns-clause-piece c =
    let n = c.min-n.result in
    let into = c.args.into.now in
    let rest = c.args.self.now.rest in
    let moved : c.copy_from_slice.new.self ≡ take (length into) rest =
    c.copy_from_slice.ensures.after ∙ ap (take n) (left_is c) ∙ rw (count_is c) (take_min (length into) rest) in
    let kept : drop n into ≡ drop (length rest) into =
    rw (count_is c, min_comm (length into) (length rest)) (drop_min (length rest) into) in
    rw (moved, kept)

pub returns-clause-shelf : goal.returns-clause-shelf
returns-clause-shelf c =
    let n = c.min-n.result in
    let at = c.in-Some.reading.at in
    let rest = c.args.self.now.rest in
    let behind : drop (at + n) c.index.result.now.1.items ≡ drop (length c.args.into.now) rest =
    sym (drop-drop n at c.index.result.now.1.items) ∙ ap (drop n) (sym (rest_is c)) ∙ rw (count_is c) (drop_min (length c.args.into.now) rest) in
    let files : named c.self.inside.files.items ≡ c.args.self.now.files = ap (λ (shelf : OpenFiles). shelf.files) c.self.view_is in
    rw (file_is c, behind, files)
