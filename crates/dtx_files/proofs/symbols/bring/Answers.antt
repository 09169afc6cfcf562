use Rattle.std.proofs.Common.{◌*◌, take, ap, ◌∙◌}
use Rattle.std.proofs.lemmas.List.{take-map}
use Rattle.dtx_files.specs.Symbols.{byte_of_symbol}
use Rattle.dtx_files.proofs.symbols.bring.Goals as goal

pub returns-clause-bytes : goal.returns-clause-bytes
returns-clause-bytes c = ap (take (832 * c.args.air.now.segments)) c.to_bytes.ensures
    ∙ take-map byte_of_symbol (832 * c.args.air.now.segments) c.args.air.now.symbols
