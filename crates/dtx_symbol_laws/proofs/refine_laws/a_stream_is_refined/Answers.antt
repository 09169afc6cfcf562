use Rattle.dtx_symbol_laws.proofs.RefinedStream.{stream_refined}
use Rattle.dtx_symbol_laws.proofs.refine_laws.a_stream_is_refined.Goals as goal

pub returns : goal.returns
returns c =
    λ scale r packets symbols some most whole near. stream_refined
    c.nothing_moves_where_no_byte_is_put_right.ensures.codewords scale r packets symbols some most whole
    (c.a_stream_is_acquired.ensures scale packets symbols some near)
