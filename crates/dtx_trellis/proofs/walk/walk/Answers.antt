use Rattle.dtx_trellis.proofs.LaneRoundsLemmas.{none_sent}
use Rattle.dtx_trellis.proofs.walk.walk.Goals as goal

pub loop-segment-init : goal.loop-segment-init
loop-segment-init c = record {
  long = c.told-symbols;
  stands = record {
    held = c.laid_out-lanes.ensures c.args.bytes.now;
    sent = none_sent c.args.first c.args.from.now c.args.bytes.now c.args.symbols.now;
  };
}
