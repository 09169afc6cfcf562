-- The packets of a run by how many groups it has: those that are given while it is on, and the last one.
use Rattle.std.proofs.Common.{◌≡◌, ◌≢◌, ℕ, ◌+◌, ◌-◌, ◌*◌, ◌%◌, ◌<◌, ◌≤◌, ◌⊎◌, List, [], ◌∷◌, ◌++◌, map, length, sym, ap}
use Rattle.std.proofs.Common.{ap₂, ◌∙◌, arith}
use Rattle.std.specs.List.{range_with_len}
use Rattle.std.proofs.lemmas.List.{length-append}
use Rattle.dtx_lists.proofs.Range.{map-range_same}
use Rattle.dtx_outer.specs.Inner.{word_at, IsComplete}
use Rattle.dtx_outer.proofs.WordsLemmas.{word_stays}
use Rattle.dtx_receiver.proofs.EarlyLemmas.{early_grown, ends_more, ends_none, ends_one, left_by}
use Rattle.dtx_receiver.specs.Packets.{early_by}
use Rattle.dtx_receiver.specs.declared.batch.Received.{Received}
use Rattle.dtx_erase.specs.Marks.{is_set}
use Rattle.dtx_erase.specs.Mended.{mended_at, mended_early, mended_run_packets}
use Rattle.dtx_erase.specs.Sides.{mended_word}
use Rattle.dtx_erase.proofs.MarksLemmas.{marks_word}

-- ---- the packets of groups of bytes and of flags

-- packet k by the flags of its word
abbrev pub flagged : List ℕ → List ℕ → ℕ → Received
flagged bytes flags k = mended_word (187 * (k % 312)) (word_at 207 52 4 bytes k) (word_at 207 52 4 flags k)

pub at_flags : (bytes flags : List ℕ) (k : ℕ) → mended_at bytes (map is_set flags) k ≡ flagged bytes flags k
unfolding mended_at
at_flags bytes flags k = grind (arith, marks_word)

-- the packets whose words are complete stay as they are, whatever comes
pub stays : (bytes more flags fore : List ℕ) (k g : ℕ) → length bytes ≡ 828 * g → length flags ≡ 828 * g
    → IsComplete 207 52 4 (207 * (4 * g)) k → flagged (bytes ++ more) (flags ++ fore) k ≡ flagged bytes flags k
stays bytes more flags fore k g e f c = grind (arith, word_stays)

-- the packets of a run by its flags
by_flags : (bytes flags : List ℕ)
    → mended_early bytes (map is_set flags) ≡ early_by (flagged bytes flags) (length bytes)
unfolding mended_early
by_flags bytes flags = grind (arith, map-range_same, at_flags)

-- h groups more
pub early_more : (bytes more flags fore : List ℕ) (g h : ℕ) → length bytes ≡ 828 * g → length flags ≡ 828 * g
    → length more ≡ 828 * h
    → mended_early (bytes ++ more) (map is_set (flags ++ fore)) ≡ mended_early bytes (map is_set flags)
    ++ map (flagged (bytes ++ more) (flags ++ fore)) (range_with_len (4 * g - 52) (4 * (h - (13 - g))))
early_more bytes more flags fore g h e f l =
    let now : ℕ → Received = flagged (bytes ++ more) (flags ++ fore) in
    by_flags (bytes ++ more) (flags ++ fore)
    ∙ early_grown (flagged bytes flags) now (length bytes) (length (bytes ++ more)) (4 * g) (4 * h)
    (omega (arith, e)) (omega (arith, e, l, length-append bytes more)) (λ k c. stays bytes more flags fore k g e f c)
    ∙ ap₂ (λ (xs : List Received) (n : ℕ). xs ++ map now (range_with_len (4 * g - 52) n)) (sym (by_flags bytes flags))
    (omega arith)

-- ---- the end of a run

pub end_more : (bytes flags : List ℕ) (g : ℕ) → length bytes ≡ 828 * g
    → mended_run_packets bytes (map is_set flags) ≡ mended_early bytes (map is_set flags)
    ++ left_by (mended_at bytes (map is_set flags)) (4 * g)
unfolding mended_run_packets mended_early
end_more bytes flags g e = ends_more (mended_at bytes (map is_set flags)) (length bytes) (4 * g) (omega (arith, e))

pub end_none : (bytes flags : List ℕ) (g : ℕ) → length bytes ≡ 828 * g → (4 * g < 52) ⊎ (4 * g % 52 ≢ 0)
    → mended_run_packets bytes (map is_set flags) ≡ mended_early bytes (map is_set flags) ++ []
unfolding mended_run_packets mended_early
end_none bytes flags g e c = ends_none (mended_at bytes (map is_set flags)) (length bytes) (4 * g) (omega (arith, e)) c

pub end_one : (bytes flags : List ℕ) (g : ℕ) → length bytes ≡ 828 * g → 52 ≤ 4 * g → 4 * g % 52 ≡ 0
    → mended_run_packets bytes (map is_set flags) ≡ mended_early bytes (map is_set flags)
    ++ flagged bytes flags (4 * g - 52) ∷ []
unfolding mended_run_packets mended_early
end_one bytes flags g e l z = ends_one (mended_at bytes (map is_set flags)) (length bytes) (4 * g) (omega arith) l z
    ∙ ap (λ (r : Received). mended_early bytes (map is_set flags) ++ r ∷ []) (at_flags bytes flags (4 * g - 52))
