use Rattle.std.proofs.Common.{◌≡◌, ◌≤◌, ◌+◌, ◌*◌, ◌++◌, ℕ, List, length}
use Rattle.std.specs.List.{flat_map, range_with_len}
use Rattle.dtx_dvb.specs.Given.{given_in}
use Rattle.dtx_dvb.specs.Read.{Read}
use Rattle.dtx_packet_jobs.specs.DvbReading.{IsBounded, HasGathered}
use Rattle.dtx_packet_jobs.proofs.dvb_reading.Gathered.gather_batch.Given as goal

abbrev pub invariant-loop-p : goal.invariant-loop-p
invariant-loop-p l = record {
  gathered : (reads : List Read) (before : List ℕ) → HasGathered l.fn.self reads before
      → HasGathered l.self (reads ++ flat_map (given_in l.taken l.packets) (range_with_len 0 l.p)) before;
  blocks : l.self.blocks ≡ l.fn.self.blocks + l.p;
  bounded : IsBounded l.self;
  long : length l.self.packets ≤ length l.fn.self.packets + 188 * l.p;
}
