use Rattle.std.proofs.Common.{arith, refl, sym, subst, ap, ◌∙◌, ◌≡◌, inr, length, take, map, string_bytes}
use Rattle.std.proofs.lemmas.List.{length-map}
use Rattle.std.proofs.Math.Seq.{take-length}
use Rattle.pst_words.specs.Lines.{AreArguments}
use Rattle.pst_words.proofs.Whole.{whole_if, not_whole_if}
use Rattle.pst_words.proofs.reading.read_arguments.Goals as goal

pub returns-then-not-have_needed : goal.returns-then-not-have_needed
returns-then-not-have_needed c =
    let same : length (map string_bytes c.args.arguments.now) ≡ length c.args.arguments.now = length-map c.args.arguments.now string_bytes in
    record {
      few = c.count_few-right.result;
      is = refl;
      inside = omega (arith, same, c.count_few-right.ensures.inside);
      right = c.count_few-right.ensures.right;
      here = inr (omega (arith, same, c.count_few-right.ensures.inside, c.if-right-arguments.false), not_whole_if string_bytes c.args.command c.args.have c.args.arguments.now (sym c.if-not-have_needed.ensures));
    }

pub returns : goal.returns
returns c =
    let same : length (map string_bytes c.args.arguments.now) ≡ length c.args.arguments.now = length-map c.args.arguments.now string_bytes in
    let all : c.count_few-right.result ≡ length (map string_bytes c.args.arguments.now) = omega (arith, same, c.count_few-right.ensures.inside, c.if-right-arguments.false) in
    let whole : take c.count_few-right.result (map string_bytes c.args.arguments.now) ≡ map string_bytes c.args.arguments.now =
    ap (λ n. take n (map string_bytes c.args.arguments.now)) all ∙ take-length (map string_bytes c.args.arguments.now) in
    (refl, refl, whole_if string_bytes c.args.command c.args.have c.args.arguments.now (subst (AreArguments c.args.command c.args.have) whole c.count_few-right.ensures.right) (sym c.if-not-have_needed.ensures))
