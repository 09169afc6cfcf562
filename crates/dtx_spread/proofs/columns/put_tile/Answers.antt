use Rattle.std.proofs.Common.{◌≡◌, [], ◌+◌, ◌-◌, ◌*◌, ◌≤◌, length, get_or, take, refl, ap, ◌∙◌, arith}
use Rattle.std.proofs.lemmas.List.{length-take-le}
use Rattle.dtx_spread.proofs.Strips.{row_there, row_elsewhere, row_room}
use Rattle.dtx_spread.proofs.columns.put_tile.Goals as goal

pub loop-r-preserved : goal.loop-r-preserved
loop-r-preserved g c =
    let n = c.loop-r.r in
    let a = c.args.place + n * g.row.B in
    let h = c.loop-r.invariant in
    let row = get_or c.args.tile.now n [] in
    let lr : length row ≡ 16 = c.requires.tile.long n (omega (arith, c.loop-r-test.true, c.requires.rows.0)) in
    let part = c.put_front.new.bytes in
    let ep : part ≡ take g.row.W row = c.put_front.ensures in
    let lp : length part ≡ g.row.W = ap length ep
    ∙ length-take-le g.row.W row (omega (arith, lr, c.requires.numbers.1)) in
    let within : a ≤ length c.loop-r.bytes =
    omega (
      arith,
      c.loop-r.auto.bytes,
      row_room g.row.B g.row.W c.args.place n (length c.args.bytes.now) c.args.count c.requires.rows.1
          c.loop-r-test.true,
    ) in
    record {
      put = λ k r l m. row_there g.row.B g.row.W c.args.place n a (a + g.row.W - a) k r c.loop-r.bytes part
          c.args.tile.now c.requires.numbers.2 refl within ep (omega (arith, lr, c.requires.numbers.1)) h.put lp l m;
      others = λ i o. row_elsewhere g.row.B g.row.W c.args.place n a (a + g.row.W - a) i c.loop-r.bytes part
          c.requires.numbers.2 refl within lp (omega arith) o ∙ h.others i o;
    }
