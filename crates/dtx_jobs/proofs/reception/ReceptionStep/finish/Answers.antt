use Rattle.std.proofs.Common.{ap, arith, rules}
use Rattle.dtx_engine.specs.Made.{only}
use Rattle.dtx_jobs.proofs.GivingLemmas.{receives_last}
use Rattle.dtx_recipes.specs.SymbolFile.{file_segments}
use Rattle.dtx_jobs.proofs.SymbolFileLemmas.{length-segments_of}
use Rattle.dtx_recipes.specs.declared.tally.Tally.{Tally}
use Rattle.dtx_jobs.proofs.reception.ReceptionStep.finish.Goals as goal

pub end-requires-clause-most : goal.end-requires-clause-most
end-requires-clause-most g c =
    let units = c.requires.given in
    let some = units.2 in
    let count = ap (λ (t : Tally). t.segments) some.2.receiving.tally in
    omega (arith, count, some.1, units.1, length-segments_of some.0)

pub end-requires-clause-bounded : goal.end-requires-clause-bounded
end-requires-clause-bounded g c = c.requires.given.2.2.bounded

pub end-requires-clause-empty : goal.end-requires-clause-empty
end-requires-clause-empty g c = ap (λ m. m.first) c.requires.empty

pub returns-then-self-eq0-clause-rest : goal.returns-then-self-eq0-clause-rest
returns-then-self-eq0-clause-rest g c = λ given stand.
    let was = stand.receiving in
    ap only (receives_last g.R.SegmentReceiver.giving g.met.R.SegmentReceiver.gives given c.end.new.self.packets
    (c.end.ensures.brought (file_segments given) (record { receiver = was.receiver; tally = was.tally })))

pub returns-else-self-eq0-clause-rest : goal.returns-else-self-eq0-clause-rest
returns-else-self-eq0-clause-rest g c = λ given stand.
    let was = stand.receiving in
    ap only (receives_last g.R.SegmentReceiver.giving g.met.R.SegmentReceiver.gives given c.end.new.self.packets
    (c.end.ensures.brought (file_segments given) (record { receiver = was.receiver; tally = was.tally })))

pub returns-else-self-eq0-clause-outcome : goal.returns-else-self-eq0-clause-outcome
returns-else-self-eq0-clause-outcome g c = search rules
