use Rattle.dtx_jobs.proofs.GivenLemmas.{no_run_in, no_sync_answered, nothing_given}
use Rattle.dtx_recipes.specs.Receive.{with_corrections}
use Rattle.dtx_recipes.proofs.ReceiveLemmas.{corrections_given}
use Rattle.dtx_recipes.specs.SymbolFile.{file_segments}
use Rattle.dtx_symbol_laws.proofs.symbol_laws.nothing_without_a_sync.Goals as goal

pub returns : goal.returns
returns c = record {
  answer = λ file loose none.
      no_sync_answered with_corrections (file_segments file) loose ((no_run_in file).1 none);
  packets = λ file none. nothing_given with_corrections corrections_given file ((no_run_in file).1 none);
}
