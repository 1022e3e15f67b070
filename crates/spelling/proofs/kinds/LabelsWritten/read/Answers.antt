use Rattle.std.proofs.Common.{[], Some, sym, ap, ◌∙◌, ap₂, arith}
use Rattle.spelling.specs.Texts.{followed, hex_bytes}
use Rattle.spelling.proofs.Spelled.{four_bytes, flagged_long}
use Rattle.spelling.proofs.kinds.LabelsWritten.read.Goals as goal

pub returns-in_default-2 : goal.returns-in_default-2
returns-in_default-2 c = λ x f. omega (arith, flagged_long _ _ f)

pub returns : goal.returns
returns c =
    record {
      high = c.in_ok-high.high;
      low = c.in_ok-low.low;
      bytes = sym (ap hex_bytes c.as_bytes.ensures.value) ∙ four_bytes c.as_bytes.result.now (omega arith)
          ∙ ap₂ (λ a b. followed a (followed b (Some []))) (sym c.in_ok-high.ensures) (sym c.in_ok-low.ensures);
      is = omega (arith, c.from_be_bytes.ensures);
    }
