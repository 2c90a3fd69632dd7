use Rattle.std.proofs.Common.{ap, sym, ◌∙◌, nat_lt, map, string_bytes}
use Rattle.std.specs.List.{count_by}
use Rattle.pst_words.specs.Lines.{is_file}
use Rattle.pst_words.proofs.Dropped.{count_seen}
use Rattle.pst_words.proofs.Right.{by_room}
use Rattle.pst_words.proofs.argument.is_right.Goals as goal

pub returns : goal.returns
returns c =
    by_room c.args.command c.args.have (map string_bytes c.args.front.now) c.args.word.now (sym c.if-not-is_file_name.ensures) (nat_lt c.count_files.result c.most_files.result)
    (ap (λ n. nat_lt n c.most_files.result) (c.count_files.ensures ∙ sym (count_seen string_bytes is_file c.args.front.now)) ∙ ap (nat_lt (count_by is_file (map string_bytes c.args.front.now))) c.most_files.ensures)
