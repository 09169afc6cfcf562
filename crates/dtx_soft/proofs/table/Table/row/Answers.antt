-- The row at a symbol's place is that of the symbol.
use Rattle.std.proofs.Common.{◌≡◌, ℕ, ℤ, pos, ◌+ℤ◌, nat_abs, List, get_or, sym, subst, w8, arith}
use mir.Syntax.{w16}
use mir.Val.{SFits}
use Rattle.std.proofs.lemmas.Int.{ints, to_z-of_z}
use Rattle.dtx_soft.specs.declared.nearest.Nearest.{Nearest}
use Rattle.dtx_soft.specs.Nearest.{AreNearest, IsTable}
use Rattle.dtx_soft.proofs.WrapsLemmas.{read, sum_read}
use Rattle.dtx_soft.proofs.table.Table.row.Goals as goal

place_is : (v : ℤ) → SFits w8 v → nat_abs (read w16 (read w16 (read w8 v) +ℤ pos 128)) ≡ nat_abs (v +ℤ pos 128)
place_is v f = grind (arith, sum_read, read, to_z-of_z, ints)

row_at : (scale n : ℕ) (v : ℤ) (rows : List Nearest) (other : Nearest) → IsTable scale rows → SFits w8 v
    → n ≡ nat_abs (v +ℤ pos 128) → AreNearest scale v (get_or rows n other)
row_at scale n v rows other t f e = grind (arith, ints)

pub returns : goal.returns
returns c = subst (AreNearest c.args.self.now.scale c.args.symbol) (sym c.index.ensures)
    (row_at c.args.self.now.scale _ c.args.symbol c.args.self.now.rows.items c.index.result.now c.args.self.now.right
    c.ranges.symbol (place_is c.args.symbol c.ranges.symbol))
