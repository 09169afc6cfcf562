use Rattle.std.proofs.Common.{sym, ◌∙◌, arith}
use Rattle.std.proofs.lemmas.List.{take_all}
use Rattle.std.proofs.lemmas.Simd.{put_chunk_whole}
use Rattle.dtx_spread.proofs.columns.put_front.Goals as goal

pub returns-then-this-eq16 : goal.returns-then-this-eq16
returns-then-this-eq16 g c =
    put_chunk_whole c.args.bytes.now c.args.row
    (omega (arith, c.requires.bytes, c.requires.row, c.if-this-eq16.true))
    ∙ sym (take_all g.row.W c.args.row (omega (arith, c.requires.row, c.if-this-eq16.true)))
