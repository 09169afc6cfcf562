use Rattle.dtx_net.proofs.LastLifeLemmas.{lives_without, lives_elsewhere}
use Rattle.dtx_net.proofs.GrowsLemmas.{own_same, segments_same, lines_same}
use Rattle.dtx_net.proofs.laws.interleavings.Goals as goal

pub returns-clause-segments : goal.returns-clause-segments
returns-clause-segments c = segments_same

pub returns-clause-lines : goal.returns-clause-lines
returns-clause-lines c = lines_same

pub returns-clause-own : goal.returns-clause-own
returns-clause-own c = own_same

pub returns-clause-anywhere : goal.returns-clause-anywhere
returns-clause-anywhere c = lives_without

pub returns-clause-elsewhere : goal.returns-clause-elsewhere
returns-clause-elsewhere c = lives_elsewhere
