use Rattle.std.proofs.Common.{◌≡◌, ◌+◌, length}
use Rattle.dtx_spread.specs.Rings.{lists_of, AreExchanged}
use Rattle.dtx_spread.proofs.rings.exchange_columns.Given as goal

abbrev pub invariant-loop-c : goal.invariant-loop-c
invariant-loop-c l = record {
  exchanged : AreExchanged (length l.fn.rings) l.places.next l.places.first (l.places.first + l.c) l.rows.stride
      l.rows.whole l.rows.rest (lists_of l.fn.rings) (lists_of l.rings) l.come l.gone;
  count : length l.rings ≡ length l.fn.rings;
  room : length l.gone ≡ length l.fn.gone;
}
