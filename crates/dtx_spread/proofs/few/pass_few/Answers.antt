use Rattle.std.proofs.Common.{ℕ, ◌+◌, ◌/◌, ◌%◌, ◌++◌, length, drop, subst, ap, arith}
use Rattle.dtx_spread.specs.Rings.{lists_of, AreExchanged}
use Rattle.dtx_spread.proofs.ShortCalls.{few_passed}
use Rattle.dtx_spread.proofs.few.pass_few.Goals as goal

pub returns-clause-passed : goal.returns-clause-passed
returns-clause-passed g c =
    let e = c.exchange_columns in
    let len = length c.args.bytes.now in
    let room = drop len c.args.columns.now.rows in
    few_passed g.row.B c.args.next (lists_of c.args.rings.now) (lists_of e.new.rings) c.args.bytes.now
    c.args.columns.now.rows (c.copy_from_slice.new.self ++ room) c.put_places.new.rows c.take_places.new.columns
    e.new.gone
    c.copy_from_slice-2.new.self (omega (arith, c.requires.numbers.1)) c.requires.numbers.0 c.requires.few
    (ap (λ ys. ys ++ room) c.copy_from_slice.ensures.after) (omega (arith, c.take_places.auto.columns))
    c.take_places.ensures
    (subst (λ (b : ℕ). AreExchanged b c.args.next 0 (0 + g.row.B) 16 (len / g.row.B) (len % g.row.B)
    (lists_of c.args.rings.now) (lists_of e.new.rings) c.take_places.new.columns e.new.gone)
    c.requires.rings e.ensures)
    c.put_places.ensures (omega (arith, c.put_places.auto.rows)) c.copy_from_slice-2.ensures.after
