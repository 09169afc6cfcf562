use Rattle.std.proofs.Common.{append_assoc}
use Rattle.std.specs.Prelude.{codes}
use Rattle.dtx_words.proofs.lines.put_name.Goals as goal

pub returns : goal.returns
returns g c = record {
  written = rw (append_assoc c.args.words.now c.args.name.now (codes "\n")) c.put_all.ensures.written;
  gone = c.put_all.ensures.gone;
}
