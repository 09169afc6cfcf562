use Rattle.std.proofs.Common.{append_assoc}
use Rattle.std.specs.Prelude.{codes, decimal}
use Rattle.dtx_words.proofs.lines.put_count.Goals as goal

pub returns : goal.returns
returns g c = record {
  written = rw (append_assoc c.args.words.now (decimal c.args.number) (codes "\n"), ← c.format.ensures.text)
      c.put_all.ensures.written;
  gone = c.put_all.ensures.gone;
}
