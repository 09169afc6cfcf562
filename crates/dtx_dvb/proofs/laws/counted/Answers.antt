use Rattle.dtx_dvb.proofs.CountsLemmas.{fixed_one, flagged_one, fixed-append, flagged-append}
use Rattle.dtx_dvb.proofs.laws.counted.Goals as goal

pub returns-clause-fixed : goal.returns-clause-fixed
returns-clause-fixed c = fixed-append

pub returns-clause-flagged : goal.returns-clause-flagged
returns-clause-flagged c = flagged-append

pub returns-clause-fixed_one : goal.returns-clause-fixed_one
returns-clause-fixed_one c = fixed_one

pub returns-clause-flagged_one : goal.returns-clause-flagged_one
returns-clause-flagged_one c = flagged_one
