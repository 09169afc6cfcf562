-- What a step of one transmitter leaves of the others.
use Rattle.std.proofs.Common.{◌≡◌, ◌≢◌, ℕ, List, [], ◌∷◌, ◌++◌, ap, arith}
use Rattle.dtx_files.specs.Symbols.{segment_bytes}
use Rattle.dtx_net.specs.Lives.{sent_segments}
use Rattle.dtx_net.specs.Steps.{Step}
use Rattle.dtx_net.proofs.GrowsLemmas.{segments_same, lines_same}
use Rattle.dtx_net.proofs.LastLifeLemmas.{lives_elsewhere}
use Rattle.dtx_plan.specs.declared.transmitter.Transmitter.{Transmitter}
use Rattle.dtx_schedule.specs.TransmitterFiles.{symbol_file, log_file}

pub segments_elsewhere : (u : Transmitter) (other : ℕ) (steps : List Step) (step : Step) → step.who ≢ other
    → sent_segments u other (steps ++ step ∷ []) ≡ sent_segments u other steps
segments_elsewhere u other steps step n = grind (arith, segments_same, lives_elsewhere)

pub symbols_elsewhere : (u : Transmitter) (other : ℕ) (steps : List Step) (step : Step) → step.who ≢ other
    → symbol_file u other (steps ++ step ∷ []) ≡ symbol_file u other steps
unfolding symbol_file
symbols_elsewhere u other steps step n = ap segment_bytes (segments_elsewhere u other steps step n)

pub log_elsewhere : (u : Transmitter) (other : ℕ) (steps : List Step) (step : Step) → step.who ≢ other
    → log_file u other (steps ++ step ∷ []) ≡ log_file u other steps
unfolding log_file
log_elsewhere u other steps step n = grind (arith, lines_same, lives_elsewhere)
