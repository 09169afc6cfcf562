use Rattle.dtx_laws.proofs.AnswersLemmas.{answers_same, answer_either, answer_codeword, codeword_never_left}
use Rattle.dtx_laws.proofs.AnswersLemmas.{encoded_answer, encoded_never_left}
use Rattle.dtx_laws.proofs.laws.errors.one_answer.Goals as goal

pub returns-clause-same : goal.returns-clause-same
returns-clause-same c = answers_same

pub returns-clause-either : goal.returns-clause-either
returns-clause-either c = answer_either

pub returns-clause-codeword : goal.returns-clause-codeword
returns-clause-codeword c = answer_codeword

pub returns-clause-never_left : goal.returns-clause-never_left
returns-clause-never_left c = codeword_never_left

pub returns-clause-encoded : goal.returns-clause-encoded
returns-clause-encoded c = encoded_answer

pub returns-clause-encoded_never_left : goal.returns-clause-encoded_never_left
returns-clause-encoded_never_left c = encoded_never_left
