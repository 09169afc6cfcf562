use Rattle.dtx_coder.proofs.RunsLemmas.{coder_append, bytes_append, segments_append}
use Rattle.dtx_coder.proofs.laws.runs.one_after_another.Goals as goal

pub returns-clause-coder : goal.returns-clause-coder
returns-clause-coder c = coder_append

pub returns-clause-bytes : goal.returns-clause-bytes
returns-clause-bytes c = bytes_append

pub returns-clause-segments : goal.returns-clause-segments
returns-clause-segments c = segments_append
