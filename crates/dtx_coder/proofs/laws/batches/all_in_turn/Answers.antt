use Rattle.dtx_coder.proofs.BatchesLemmas.{segments_all, coder_all}
use Rattle.dtx_coder.proofs.laws.batches.all_in_turn.Goals as goal

pub returns-clause-segments : goal.returns-clause-segments
returns-clause-segments c = segments_all

pub returns-clause-coder : goal.returns-clause-coder
returns-clause-coder c = coder_all
