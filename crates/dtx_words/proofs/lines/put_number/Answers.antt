use Rattle.std.proofs.Common.{append-nil}
use Rattle.dtx_words.proofs.lines.put_number.Goals as goal

pub returns : goal.returns
returns g c = record {
  written = rw (append-nil c.format.result.now, c.format.ensures.text) at c.put_all.ensures.written;
  gone = c.put_all.ensures.gone;
}
