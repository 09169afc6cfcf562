use Rattle.std.proofs.Common.{◌++◌, suc, [], take, drop, length, ap, arith}
use Rattle.std.proofs.lemmas.List.{length-append}
use Rattle.std.specs.Prelude.{slice_index_or}
use Rattle.dtx_files.specs.LogText.{joined}
use Rattle.dtx_files.proofs.Pushed.{joined-split}
use Rattle.dtx_files.proofs.log_text.push_all.Goals as goal

pub push_str-requires : goal.push_str-requires
push_str-requires c =
    let i = c.loop-piece.piece-index in
    let pieces = c.args.pieces.now in
    let piece = (slice_index_or pieces i (record { ref_ptr = (0, 0); now = [] })).now in
    let rest = joined (drop (suc i) pieces) in
    let all = ap length (joined-split pieces i (record { ref_ptr = (0, 0); now = [] }) c.loop-piece-test.true) in
    let so_far = ap length c.loop-piece.invariant in (
      omega arith,
      omega (
        arith,
        c.requires,
        all,
        so_far,
        length-append (joined (take i pieces)) (piece ++ rest),
        length-append piece rest,
        length-append c.args.text.now.bytes (joined (take i pieces)),
      ),
    )
