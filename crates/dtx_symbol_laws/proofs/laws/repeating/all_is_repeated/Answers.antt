use Rattle.dtx_jobs.proofs.RepeatLemmas.{repeats_front}
use Rattle.dtx_symbol_laws.proofs.RepeatedFiles.{all_repeated, first_repeated, nothing_repeated}
use Rattle.dtx_symbol_laws.proofs.laws.repeating.all_is_repeated.Goals as goal

pub returns : goal.returns
returns c = record {
  done = all_repeated;
  no_sync = nothing_repeated;
  too_long = first_repeated;
  front = repeats_front;
}
