-- Words of which no byte is wrong and at most twenty are missing can be mended.
use Rattle.std.proofs.Common.{◌≡◌, ℕ, ℤ, ◌+◌, ◌*◌, ◌≤◌, List, arith}
use Rattle.dtx_chain.specs.Damage.{AreFound, codeword_at, from_sync, packet_behind, word_in}
use Rattle.dtx_erase.specs.Marks.{marks_in}
use Rattle.dtx_erase.specs.Mended.{marks_at}
use Rattle.dtx_erase.specs.Mending.{lost, unmarked_distance}
use Rattle.dtx_outer.specs.Inner.{IsComplete, word_at}
use Rattle.dtx_receiver.specs.Bytes.{bytes_in, groups_of}
use Rattle.dtx_recipes.specs.MendedBack.{CanAllBeMended}

pub all_mendable : (packets : List (List ℕ)) (first : ℕ) (sent got : List (List ℤ)) → AreFound first sent got
    → ((j : ℕ) → IsComplete 207 52 4 (828 * groups_of (from_sync first got)) j
    → (unmarked_distance (marks_at (marks_in (from_sync first got)) j)
    (word_at 207 52 4 (bytes_in (from_sync first got)) j) (codeword_at packets (packet_behind first + j)) ≡ 0)
    × (lost (marks_at (marks_in (from_sync first got)) j) ≤ 20)) → CanAllBeMended packets first sent got
unfolding word_in
all_mendable packets first sent got found words = record {
  found = found;
  words = λ j complete.
      cost (unmarked_distance (marks_at (marks_in (from_sync first got)) j)
      (word_at 207 52 4 (bytes_in (from_sync first got)) j) (codeword_at packets (packet_behind first + j)))
      (lost (marks_at (marks_in (from_sync first got)) j)) (words j complete).0 (words j complete).1;
}
  where
    cost : (x y : ℕ) → x ≡ 0 → y ≤ 20 → 2 * x + y ≤ 20
    cost x y e l = omega (arith, e, l)
