use Rattle.std.proofs.Common.{◌≡◌, ◌++◌, ◌∷◌, [], take, reverse, refl, ap, ◌∙◌}
use Rattle.std.specs.Prelude.{Option, option_to_list}
use Rattle.std.proofs.lemmas.List.{reverse-append}
use Rattle.pst_reasons.specs.declared.step.Mark.{Mark}
use Rattle.pst_reasons.proofs.reasons.Narrowed.go_back.Goals as goal

pub undo-requires-clause-mark : goal.undo-requires-clause-mark
undo-requires-clause-mark c =
    let xs = c.pop.new.self.items in
    let m = c.in-Some.mark in
    let split : c.args.self.now.marks.items ≡ xs ++ m ∷ [] = c.pop.ensures.items ∙ ap (λ (o : Option Mark). xs ++ option_to_list o) c.in-Some.is in
    (c.requires.can m (reverse xs) (ap reverse split ∙ reverse-append xs (m ∷ []))).room

pub undo-requires-clause-variables : goal.undo-requires-clause-variables
undo-requires-clause-variables c =
    let xs = c.pop.new.self.items in
    let m = c.in-Some.mark in
    let split : c.args.self.now.marks.items ≡ xs ++ m ∷ [] = c.pop.ensures.items ∙ ap (λ (o : Option Mark). xs ++ option_to_list o) c.in-Some.is in
    (c.requires.can m (reverse xs) (ap reverse split ∙ reverse-append xs (m ∷ []))).below

pub returns : goal.returns
returns c =
    let xs = c.pop.new.self.items in
    let m = c.in-Some.mark in
    let split : c.args.self.now.marks.items ≡ xs ++ m ∷ [] = c.pop.ensures.items ∙ ap (λ (o : Option Mark). xs ++ option_to_list o) c.in-Some.is in
    record {
      mark = m;
      marks = ap reverse split ∙ reverse-append xs (m ∷ []);
      constraints = refl;
      watch = refl;
      bounds = c.undo.ensures.bounds;
      trail = c.undo.ensures.trail;
      steps = c.truncate.ensures.items;
      firsts = c.forget_changes.ensures;
      given_is = c.truncate-2.ensures.items ∙ ap (λ k. take k c.args.self.now.given.items) (c.len.ensures ∙ c.pop.new.self.ok.0);
    }
