use Rattle.std.proofs.Common.{◌++◌, length, map}
use Rattle.dtx_coder.specs.Stream.{a53_symbols}
use Rattle.dtx_level.specs.Measures.{later_by}
use Rattle.dtx_level.specs.Standing.{standing}
use Rattle.dtx_symbol_laws.specs.LevelledStream.{stream_measures}
use Rattle.dtx_symbol_laws.proofs.LevelledStream.{levelled_acquired}
use Rattle.dtx_symbol_laws.proofs.level_laws.a_levelled_stream_is_acquired.Goals as goal

pub returns-clause-stream : goal.returns-clause-stream
returns-clause-stream c = λ gain constant packets some.
    levelled_acquired c.a_stream_is_acquired_behind_zeros.ensures 0 packets
    (standing gain constant (a53_symbols packets)) (stream_measures gain constant packets)
    (c.a_stream_is_levelled.ensures.levelled gain constant packets some)

pub returns-clause-behind : goal.returns-clause-behind
returns-clause-behind c = λ gain constant front packets some group silent.
    levelled_acquired c.a_stream_is_acquired_behind_zeros.ensures (length front) packets
    (front ++ standing gain constant (a53_symbols packets))
    (map (later_by (length front)) (stream_measures gain constant packets))
    (c.a_stream_behind_a_front_is_levelled.ensures gain constant front packets some group silent)
