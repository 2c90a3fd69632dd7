use Rattle.std.proofs.Common.{ℕ, [], ◌∷◌, sym, subst, append-nil, refl}
use Rattle.pst_trace_reader.specs.Going.{Passes, OfHeader}
use Rattle.pst_trace_reader.proofs.Onward.{bad_header}
use Rattle.pst_trace_reader.proofs.line.read_of_header.Goals as goal

pub returns-then-not-may_stand : goal.returns-then-not-may_stand
returns-then-not-may_stand c = λ more hs es last. bad_header c.args.reading.now.format c.args.reading.now.passed c.args.sort c.args.line.now more hs es last c.requires c.if-not-may_stand.ensures

pub returns : goal.returns
returns c =
    let fits = c.if-not-may_stand.ensures in
    record {
      header = c.args.line.now ∷ [];
      events = [];
      header_is = c.in_ok-keep_line.ensures;
      events_are = sym (append-nil c.args.reading.now.events.items);
      format_is = refl;
      passes = subst (λ (n : ℕ). Passes c.args.reading.now.format c.args.reading.now.passed c.args.line.now (c.args.line.now ∷ []) [] n) (sym c.rank-reading.ensures) (OfHeader c.args.sort fits.0 fits.1 c.requires);
    }
