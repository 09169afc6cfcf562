use Rattle.std.proofs.Common.{rules}
use Rattle.dtx_clock.proofs.times.runs.Goals as goal

pub returns-then-ticks-grains : goal.returns-then-ticks-grains
returns-then-ticks-grains c = search rules

pub returns-else-ticks-grains : goal.returns-else-ticks-grains
returns-else-ticks-grains c = search rules
