use Rattle.dtx_coder.specs.Stream.{a53_symbols}
use Rattle.dtx_level.specs.Standing.{eightfold, standing}
use Rattle.dtx_symbol_laws.specs.LevelledStream.{stream_measures}
use Rattle.dtx_symbol_laws.proofs.LevelledStream.{front_levelled, some_symbols}
use Rattle.dtx_symbol_laws.proofs.level_laws.a_stream_behind_a_front_is_levelled.Goals as goal

pub returns : goal.returns
returns c = λ gain constant front packets some group silent.
    front_levelled front (standing gain constant (a53_symbols packets)) (eightfold (a53_symbols packets))
    (stream_measures gain constant packets)
    (c.a_capture_begins_anywhere.ensures front (standing gain constant (a53_symbols packets)) silent)
    (c.a_stream_is_levelled.ensures.levelled gain constant packets some) (some_symbols packets group)
