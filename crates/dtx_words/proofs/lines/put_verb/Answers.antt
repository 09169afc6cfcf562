use Rattle.std.proofs.Common.{append-nil, ap}
use Rattle.dtx_words.specs.Rows.{Row}
use Rattle.dtx_words.proofs.lines.put_verb.Goals as goal

pub returns : goal.returns
returns g c = record {
  written = rw (append-nil c.row.result.now.verb.now, ap (λ (row : Row). row.verb) c.row.ensures)
      at c.put_all.ensures.written;
  gone = c.put_all.ensures.gone;
}
