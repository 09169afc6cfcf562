use Rattle.std.proofs.Common.{◌%◌, ◌≡◌, length, refl, arith}
use Rattle.std.proofs.lemmas.Grind.{common_steps}
use Rattle.dtx_packets.specs.Packets.{packets_of}
use Rattle.dtx_packet_jobs.proofs.Feeding.{few_of, packets_fed}
use Rattle.dtx_packet_jobs.specs.declared.feeder.Feeder.{Feeder}
use Rattle.dtx_packet_jobs.proofs.feeder.Feeder.part.Goals as goal

pub overflow_add-self-2 : goal.overflow_add-self-2
overflow_add-self-2 c =
    omega (
      arith,
      c.adapt_part-filled.ensures.filled,
      few_of c.args.bytes.now,
      c.requires.counted.filled,
      c.requires.most,
    )

pub returns-clause-counted : goal.returns-clause-counted
returns-clause-counted c = record {
  given = grind (arith, common_steps, c.adapt_part-filled.ensures.given, c.requires.counted.given);
  filled = omega (arith, c.adapt_part-filled.ensures.filled, few_of c.args.bytes.now, c.requires.counted.filled);
}

pub returns-clause-fed : goal.returns-clause-fed
returns-clause-fed c = λ given long is.
    let old : Feeder = c.args.self.now in
    let bytes = c.args.bytes.now in
    let filled = c.adapt_part-filled.result in
    let adapter = c.adapt_part-filled.new.adapter in
    let whole : length given % 188 ≡ 0 = omega (arith, long) in
    packets_fed old _
    given bytes c.adapt_part-filled.new.bytes filled whole refl refl refl c.adapt_part-filled.ensures.filled
    (c.adapt_part-filled.ensures.stands old.plan.now (packets_of given) is.adapter)
    (c.adapt_part-filled.ensures.fed old.plan.now (packets_of given) is.adapter) is
