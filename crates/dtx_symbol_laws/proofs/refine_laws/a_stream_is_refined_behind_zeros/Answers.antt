use Rattle.std.proofs.Common.{◌++◌, pos, replicate}
use Rattle.dtx_symbol_laws.proofs.RefinedStream.{stream_refined}
use Rattle.dtx_symbol_laws.proofs.refine_laws.a_stream_is_refined_behind_zeros.Goals as goal

pub returns : goal.returns
returns c =
    λ scale r zeros packets symbols some most whole near. stream_refined
    c.nothing_moves_where_no_byte_is_put_right.ensures.codewords scale r packets (replicate zeros (pos 0) ++ symbols)
    some most whole (c.a_stream_is_acquired_behind_zeros.ensures scale zeros packets symbols some near)
