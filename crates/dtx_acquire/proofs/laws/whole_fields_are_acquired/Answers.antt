use Rattle.dtx_acquire.proofs.GivenFields.{acquired_segments, field_gives, field_short, none_without_a_run}
use Rattle.dtx_acquire.proofs.laws.whole_fields_are_acquired.Goals as goal

pub returns-clause-segments : goal.returns-clause-segments
returns-clause-segments c = acquired_segments

pub returns-clause-most : goal.returns-clause-most
returns-clause-most c = field_short

pub returns-clause-fields : goal.returns-clause-fields
returns-clause-fields c = field_gives

pub returns-clause-none : goal.returns-clause-none
returns-clause-none c = none_without_a_run
