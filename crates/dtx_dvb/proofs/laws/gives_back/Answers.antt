use Rattle.dtx_dvb.proofs.BackLemmas.{all_back, packets_back, none_flagged, all_fixed, corrected_back}
use Rattle.dtx_dvb.proofs.laws.gives_back.Goals as goal

pub returns-clause-read : goal.returns-clause-read
returns-clause-read c = all_back

pub returns-clause-packets : goal.returns-clause-packets
returns-clause-packets c = packets_back

pub returns-clause-unflagged : goal.returns-clause-unflagged
returns-clause-unflagged c = none_flagged

pub returns-clause-fixed : goal.returns-clause-fixed
returns-clause-fixed c = all_fixed

pub returns-clause-one : goal.returns-clause-one
returns-clause-one c = corrected_back
