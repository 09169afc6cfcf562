-- A burst in segments of a stream is one in the run that begins with their first field sync.
use Rattle.std.proofs.Common.{◌≡◌, ℕ, ℤ, ◌+◌, ◌-◌, ◌*◌, ◌<◌, ◌≤◌, inl, inr, List, [], length, drop, sym, ap, ◌∙◌, arith}
use Rattle.std.proofs.lemmas.List.{get_or-drop, length-drop}
use Rattle.dtx_slice.specs.Slicing.{sliced}
use Rattle.dtx_outer.specs.Inner.{IsComplete, word_at}
use Rattle.dtx_receiver.specs.Bytes.{groups_of, bytes_in}
use Rattle.dtx_chain.specs.Damage.{ArePackets, AreReceived, codeword_at, from_sync, to_sync, packet_behind}
use Rattle.dtx_chain.proofs.FromSyncLemmas.{own_word}
use Rattle.dtx_chain.proofs.NoDamageLemmas.{are_received, is_there, no_groups}
use Rattle.dtx_bursts.specs.Burst.{IsBurst, IsGap, symbol_at, symbol_level}
use Rattle.dtx_bursts.proofs.Bytes.{AreAlike, AreWhole, DifferWithin, same_groups}
use Rattle.dtx_bursts.proofs.Missing.{AreMissing}

symbol_moved : (k n : ℕ) (xs : List (List ℤ)) → symbol_at (drop k xs) n ≡ symbol_at xs (832 * k + n)
symbol_moved k n xs = grind (arith, get_or-drop)

level_moved : (k n : ℕ) (xs : List (List ℤ)) → symbol_level (drop k xs) n ≡ symbol_level xs (832 * k + n)
unfolding symbol_level
level_moved k n xs = ap sliced (symbol_moved k n xs)

pub differ_moved : (k count from : ℕ) (sent got : List (List ℤ)) → length got ≡ length sent
    → IsBurst count from sent got → DifferWithin count (from - 832 * k) (drop k got) (drop k sent)
differ_moved k count from sent got e burst n l side =
    level_moved k n got ∙ burst.others (832 * k + n) (omega (arith, l, e, length-drop k got)) (elim side [
      | inl x ↦ inl (omega (arith, x))
      | inr x ↦ inr (omega (arith, x))
    ]) ∙ sym (level_moved k n sent)

whole_moved : (k : ℕ) (xs : List (List ℤ)) → AreWhole xs → AreWhole (drop k xs)
whole_moved k xs whole i l = ap length (get_or-drop k xs i []) ∙ whole (k + i) (omega (arith, l, length-drop k xs))

pub alike_moved : (ps : List (List ℕ)) (first k : ℕ) (sent got : List (List ℤ)) → AreReceived ps first sent got
    → k < length sent → AreAlike (drop k got) (drop k sent)
alike_moved ps first k sent got r l = grind (arith, whole_moved, are_received, length-drop)

pub missing_moved : (k count from : ℕ) (sent got : List (List ℤ)) → length got ≡ length sent → IsGap count from sent got
    → AreMissing count (from - 832 * k) (drop k got) (drop k sent)
missing_moved k count from sent got e gap = grind (arith, length-drop, symbol_moved, level_moved)

-- ---- the words of the run

-- as it was sent
pub sent_word : (ps : List (List ℕ)) (first j : ℕ) (sent got : List (List ℤ)) → AreReceived ps first sent got
    → ArePackets ps → to_sync first < length sent → IsComplete 207 52 4 (828 * groups_of (from_sync first got)) j
    → word_at 207 52 4 (bytes_in (drop (to_sync first) sent)) j ≡ codeword_at ps (packet_behind first + j)
unfolding packet_behind from_sync
sent_word ps first j sent got r p l c = grind (arith, own_word, is_there, are_received, same_groups, alike_moved)

-- where no field sync is, there is none
pub no_word : (first : ℕ) (got : List (List ℤ)) (j : ℕ) → length got ≤ to_sync first
    → IsComplete 207 52 4 (828 * groups_of (from_sync first got)) j → ⊥
no_word first got j l c = grind (arith, no_groups)
