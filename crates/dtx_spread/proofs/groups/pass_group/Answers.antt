use Rattle.std.proofs.Common.{ℕ, ◌+◌, ◌/◌, ◌%◌, length, subst, arith}
use Rattle.dtx_spread.specs.Rings.{lists_of, AreExchanged}
use Rattle.dtx_spread.proofs.Tiling.{put_back}
use Rattle.dtx_spread.proofs.groups.pass_group.Goals as goal

pub returns-clause-passed : goal.returns-clause-passed
returns-clause-passed g c =
    let e = c.exchange_columns in
    let len = length c.args.bytes.now in
    put_back g.row.B g.row.W c.args.next c.args.place (lists_of c.args.rings.now) (lists_of e.new.rings)
    c.args.bytes.now c.scatter.new.bytes c.gather.new.columns e.new.gone (omega (arith, c.requires.numbers.1))
    c.requires.places.1 c.requires.places.0 c.scatter.auto.bytes (omega (arith, c.gather.auto.columns))
    c.requires.room c.requires.even c.gather.ensures
    (subst (λ (b : ℕ). AreExchanged b c.args.next c.args.place (c.args.place + g.row.W) 560 (len / g.row.B)
    (len % g.row.B) (lists_of c.args.rings.now) (lists_of e.new.rings) c.gather.new.columns e.new.gone)
    c.requires.rings e.ensures)
    c.scatter.ensures.put c.scatter.ensures.others
