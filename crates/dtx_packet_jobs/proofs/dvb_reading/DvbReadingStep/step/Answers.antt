use Rattle.std.proofs.Common.{◌*◌, take, ap, ap₂, arith}
use Rattle.std.proofs.lemmas.List.{length-append, length-take-le}
use Rattle.dtx_engine.specs.Made.{both}
use Rattle.dtx_packet_jobs.proofs.dvb_reading.DvbReadingStep.step.Goals as goal

pub read-requires-clause-most : goal.read-requires-clause-most
read-requires-clause-most c =
    let some = c.requires.given in omega (arith, some.1, some.2.blocks, c.requires.most)

pub read-requires-clause-bounded : goal.read-requires-clause-bounded
read-requires-clause-bounded c = c.requires.given.2.bounded

pub returns-clause-stepped : goal.returns-clause-stepped
returns-clause-stepped c = λ given front long stand is.
    let part = take (204 * c.read.result) c.args.bytes.now in
    let read = c.read.ensures.read given front.first (record {
      reader = stand.reader;
      gathered = record { fixed = stand.fixed; flagged = stand.flagged; bytes = ap (λ m. m.first) is };
    }) in
    record {
      stand = record {
        reader = read.reader;
        fixed = read.gathered.fixed;
        flagged = read.gathered.flagged;
        blocks = omega (
          arith,
          c.read.ensures.blocks,
          c.read.ensures.within,
          stand.blocks,
          long,
          length-append given part,
          length-take-le (204 * c.read.result) c.args.bytes.now (omega (arith, c.read.ensures.within)),
        );
        bounded = c.read.ensures.bounded;
      };
      made = ap₂ both read.gathered.bytes (ap (λ m. m.second) is);
    }
