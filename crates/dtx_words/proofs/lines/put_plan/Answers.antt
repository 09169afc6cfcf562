use Rattle.std.proofs.Common.{append_assoc}
use Rattle.dtx_words.proofs.lines.put_plan.Goals as goal

pub returns : goal.returns
returns g c = record {
  written = simp append_assoc
      (rw (c.word.ensures, c.format.ensures.text, c.word-2.ensures) at c.put_all.ensures.written);
  gone = c.put_all.ensures.gone;
}
