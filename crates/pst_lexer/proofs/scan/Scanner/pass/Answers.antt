use Rattle.std.proofs.Common.{◌≡◌, ◌+◌, ◌-◌, ◌++◌, take, drop, refl, ap, ◌∙◌, arith}
use Rattle.pst_token.specs.Tokens.{place_after}
use Rattle.pst_lexer.proofs.scan.Scanner.pass.Goals as goal

pub returns : goal.returns
returns c = record {
  kept = record { file = refl; room = refl; taken = refl };
  tokens = refl;
  start = refl;
  seen = refl;
  place = λ before at.
      let behind : c.args.self.now.start + c.args.len - c.args.self.now.start ≡ c.args.len = omega arith in
      c.place_behind-self.ensures c.args.self.now.file before at
      ∙ ap (λ n. place_after c.args.self.now.file (before ++ take n (drop c.args.self.now.start c.deref.result.now))) behind
      ∙ ap (λ bytes. place_after c.args.self.now.file (before ++ take c.args.len (drop c.args.self.now.start bytes))) c.deref.ensures.value;
}
