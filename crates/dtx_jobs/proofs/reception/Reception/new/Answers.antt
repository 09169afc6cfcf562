use Rattle.std.proofs.Common.{arith, ap, subst, sym, []}
use Rattle.dtx_recipes.specs.declared.tally.Tally.{Tally}
use Rattle.dtx_jobs.proofs.Tallied.{tally_none}
use Rattle.dtx_jobs.proofs.reception.Reception.new.Goals as goal

pub returns : goal.returns
returns g c =
    let is = c.new-4.ensures in
    let runs = ap (λ (t : Tally). t.runs) is in
    let packets = ap (λ (t : Tally). t.packets) is in
    let fixed = ap (λ (t : Tally). t.fixed) is in
    let flagged = ap (λ (t : Tally). t.flagged) is in
    record {
      receiving = record {
        receiver = subst (λ r. g.R.SegmentReceiver.stands r []) (sym c.in_ok-new-2.ensures.ok) c.in_ok-new.ensures;
        tally = tally_none g.R.SegmentReceiver.giving g.met.R.SegmentReceiver.gives c.new-4.result is;
      };
      bounded = record {
        runs = omega (arith, runs);
        packets = omega (arith, packets);
        fixed = omega (arith, fixed);
        flagged = omega (arith, flagged);
      };
    }
