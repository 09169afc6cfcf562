use Rattle.std.proofs.Common.{append-nil}
use Rattle.dtx_words.proofs.lines.put_line.Goals as goal

pub returns : goal.returns
returns g c = record {
  written = rw (append-nil c.args.line.now) at c.put_all.ensures.written;
  gone = c.put_all.ensures.gone;
}
