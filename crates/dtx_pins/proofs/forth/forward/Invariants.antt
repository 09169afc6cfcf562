use Rattle.std.proofs.Common.{◌≡◌, ℕ, ◌*◌, ◌<◌, ◌≤◌, List, [], get_or, length, map, sum}
use Rattle.std.specs.List.{range_with_len}
use Rattle.dtx_soft.specs.Coders.{KeepsSyncs, coder_symbols}
use Rattle.dtx_pins.specs.PinnedField.{moved_in}
use Rattle.dtx_pins.specs.Pins.{coder_pins}
use Rattle.dtx_pins.specs.Trace.{AreStarts, IsStand, stand_at}
use Rattle.dtx_pins.specs.Walks.{AreWalked}
use Rattle.dtx_pins.proofs.PinnedTraces.{IsUnderWay}
use Rattle.dtx_pins.proofs.forth.forward.Given as goal

abbrev pub invariant-loop-i : goal.invariant-loop-i
invariant-loop-i l = record {
  long : length l.decided ≡ length l.fn.decided;
  left : (k : ℕ) → l.i ≤ k → get_or l.decided k [] ≡ get_or l.fn.decided k [];
  syncs : KeepsSyncs l.fn.decided l.decided;
  moved : l.moved
      ≡ sum (map (λ k. moved_in (get_or l.fn.decided k []) (get_or l.decided k [])) (range_with_len 0 l.i));
  few : l.moved ≤ 832 * l.i;
  still : l.moved ≡ 0 → l.decided ≡ l.fn.decided;
  stands : (e : ℕ) → e < 16 → IsStand (69 * l.i) (stand_at l.stands e);
  under_way : (pins : List (List ℕ)) (sums : ℕ → List (List ℕ)) → AreWalked l.scale 0 pins l.heard sums l.marks
      → AreStarts pins sums l.fn.stands → (e : ℕ) → e < 12
      → IsUnderWay l.scale (coder_pins pins e) (coder_symbols l.heard e) (coder_symbols l.decided e) (69 * l.i)
      (stand_at l.stands e);
}
