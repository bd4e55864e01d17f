use Rattle.std.proofs.Common.{refl, ap, sym, ◌∙◌}
use Rattle.refusal.specs.Outcome.{accepted}
use Rattle.readers.proofs.FirstField.{child_read, first-none}
use Rattle.readers.proofs.read_first_field.Goals as goal
use Rattle.readers.proofs.read_first_field.Goals.{else-grammar-word-via-then-grammar-word+else-grammar-ne0, else-grammar-word-via-else-grammar-word}

pub returns-then-grammar-ne0 : goal.returns-then-grammar-ne0
returns-then-grammar-ne0 c =
    let a = c.args in
    let r = c.read_value.ensures in
    record {
      answers = λ t h. child_read a.grammar.now a.bytes.now a.capacity c.requires.0 t h (c.if-grammar-word.true ∙ c.word.ensures) c.if-grammar-ne0.true c.child_at-child.ensures.0 r.answers;
      keeps = r.keeps;
    }

pub returns : goal.returns
returns c =
    let a = c.args in
    record {
      answers = λ t h. ap accepted (first-none a.grammar.now a.bytes.now a.capacity c.requires.0 t h (λ k.
          elim c.else-grammar-word.branch [
            | else-grammar-word-via-then-grammar-word+else-grammar-ne0 w ↦ w.if-grammar-ne0.false
            | else-grammar-word-via-else-grammar-word w ↦ absurd (w.if-grammar-word.false (k ∙ sym c.word.ensures))
          ]));
      keeps = refl;
    }
