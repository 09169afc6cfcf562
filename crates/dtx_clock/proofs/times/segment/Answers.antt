use Rattle.std.proofs.Common.{rules}
use Rattle.dtx_clock.proofs.times.segment.Goals as goal

pub returns-then-packet-lt-FIELD_PACKETS-clause-segment : goal.returns-then-packet-lt-FIELD_PACKETS-clause-segment
returns-then-packet-lt-FIELD_PACKETS-clause-segment c = search rules

pub returns-else-packet-lt-FIELD_PACKETS-clause-segment : goal.returns-else-packet-lt-FIELD_PACKETS-clause-segment
returns-else-packet-lt-FIELD_PACKETS-clause-segment c = search rules
