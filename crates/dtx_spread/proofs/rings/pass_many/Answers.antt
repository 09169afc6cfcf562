use Rattle.std.proofs.Common.{◌+◌, arith}
use Rattle.dtx_spread.specs.Rings.{lists_of}
use Rattle.dtx_spread.proofs.Places.{none_passed, passed_on}
use Rattle.dtx_spread.proofs.rings.pass_many.Goals as goal

pub loop-done-init : goal.loop-done-init
loop-done-init g c = record {
  within = omega arith;
  passed = none_passed g.row.B c.args.next 0 (lists_of c.args.rings.now) c.args.bytes.now;
  count = c.requires.rings;
}

pub loop-done-preserved : goal.loop-done-preserved
loop-done-preserved g c =
    let h = c.loop-done.invariant in
    let e = c.pass_next-done.ensures in
    let done = c.loop-done.done in
    record {
      within = e.some.1;
      passed = passed_on g.row.B c.args.next 0 done (done + c.pass_next-done.result) (lists_of c.args.rings.now)
          (lists_of c.loop-done.rings) (lists_of c.pass_next-done.new.rings) c.args.bytes.now c.loop-done.bytes
          c.pass_next-done.new.bytes (omega arith) (omega arith) e.some.1
          (omega (arith, c.loop-done-test.true)) h.passed e.passed;
      count = e.rings;
    }
