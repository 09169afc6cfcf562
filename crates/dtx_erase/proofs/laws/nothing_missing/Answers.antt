use Rattle.dtx_erase.proofs.UnmarkedLemmas.{all_same, so_far_same, bytes_same}
use Rattle.dtx_erase.proofs.laws.nothing_missing.Goals as goal

pub returns-clause-packets : goal.returns-clause-packets
returns-clause-packets c = all_same

pub returns-clause-so_far : goal.returns-clause-so_far
returns-clause-so_far c = so_far_same

pub returns-clause-bytes : goal.returns-clause-bytes
returns-clause-bytes c = bytes_same
