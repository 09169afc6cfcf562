use Rattle.std.proofs.Common.{rules, ◌≡◌, ◌*◌, ◌/◌, ◌<◌, ◌++◌, length, subst, arith}
use Rattle.std.specs.List.{flat_map, range_with_len}
use Rattle.dtx_dvb.specs.Given.{all_given, given_in}
use Rattle.dtx_packet_jobs.specs.DvbReading.{HasGathered}
use Rattle.dtx_packet_jobs.proofs.DvbReads.{given_on}
use Rattle.dtx_packet_jobs.proofs.dvb_reading.Gathered.gather_batch.Goals as goal

pub loop-p-preserved : goal.loop-p-preserved
loop-p-preserved c =
    let p = c.loop-p.p in
    let taken = c.args.taken.now in
    let packets = c.args.packets.now in
    let few : p / 4 < length packets = omega (arith, c.loop-p-test.true) in
    record {
      gathered = λ reads before was.
          subst (λ rs. HasGathered c.gather.new.self rs before)
          (given_on taken packets p _ _ _ _ reads (omega (arith, few, c.requires.same)) few (search rules)
          (search rules))
          (c.gather.ensures.gathered _ before (c.loop-p.invariant.gathered reads before was));
      blocks = search rules;
      bounded = c.gather.ensures.bounded;
      long = omega (arith, c.gather.ensures.long, c.loop-p.invariant.long);
    }

pub returns-clause-gathered : goal.returns-clause-gathered
unfolding all_given
returns-clause-gathered c = λ reads before was.
    let taken = c.args.taken.now in
    let packets = c.args.packets.now in
    let all : c.loop-p.p ≡ 4 * length packets = omega (arith, c.loop-p-test.false, c.loop-p.auto.p-end) in
    subst (λ n. HasGathered c.loop-p.self (reads ++ flat_map (given_in taken packets) (range_with_len 0 n)) before) all
    (c.loop-p.invariant.gathered reads before was)
