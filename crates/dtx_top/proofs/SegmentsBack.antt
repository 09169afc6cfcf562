-- The segments of a symbol file that was written of segments are those segments.
use Rattle.std.proofs.Common.{◌≡◌, ℕ, List, length, arith}
use Rattle.dtx_recipes.specs.SymbolFile as file
use Rattle.dtx_recipes.specs.SymbolFile.{whole_segments}
use Rattle.dtx_jobs.proofs.SymbolsBackLemmas.{segments_read_back, whole_segments_back}
use Rattle.dtx_net.specs.Lives as sent
use Rattle.dtx_net.specs.Steps.{Step}
use Rattle.dtx_plan.specs.declared.transmitter.Transmitter.{Transmitter}
use Rattle.dtx_schedule.specs.TransmitterFiles.{symbol_file}
use Rattle.dtx_top.proofs.SegmentsSent.{sent_long}
use Rattle.dtx_top.proofs.SymbolsBack.{sent_back}

pub whole_segments_sent : (t : Transmitter) (who : ℕ) (steps : List Step)
    → whole_segments (symbol_file t who steps) ≡ length (sent.sent_segments t who steps)
unfolding symbol_file
whole_segments_sent t who steps = whole_segments_back (sent.sent_segments t who steps) (sent_long t who steps)

pub segments_of_file : (t : Transmitter) (who : ℕ) (steps : List Step)
    → file.file_segments (symbol_file t who steps) ≡ sent.sent_segments t who steps
unfolding symbol_file
segments_of_file t who steps = grind (arith, segments_read_back, sent_long, sent_back)
