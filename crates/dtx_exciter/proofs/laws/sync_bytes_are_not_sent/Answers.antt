use Rattle.dtx_exciter.proofs.SentAlikeLemmas.{answers_same, emission_same, lines_same}
use Rattle.dtx_exciter.proofs.laws.sync_bytes_are_not_sent.Goals as goal

pub returns-clause-answers : goal.returns-clause-answers
returns-clause-answers c = answers_same

pub returns-clause-segments : goal.returns-clause-segments
returns-clause-segments c = emission_same

pub returns-clause-lines : goal.returns-clause-lines
returns-clause-lines c = lines_same
