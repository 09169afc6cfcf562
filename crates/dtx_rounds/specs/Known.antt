-- What is known of a run, and the pins of its fields (ATSC A/53 Part 2, Reed-Solomon encoder and interleaving). It is
-- the words that have a correction, and the bytes of these corrections at their places among the bytes of the run.
use Rattle.std.specs.Prelude.{ℕ, ◌-◌, ◌*◌, ◌/◌, ◌%◌, nat_le, if◌then◌else◌, Option, None, is_some, option_map, List}
use Rattle.std.specs.Prelude.{length, map, filter, slice_index, ◌+◌, unwrap_or, slice_index_or}
use Rattle.std.specs.List.{range_with_len}
use Rattle.dtx_laws.specs.Words.{correction}
use Rattle.dtx_outer.specs.Inner.{word_at}
use Rattle.dtx_receiver.specs.Packets.{is_complete}
use Rattle.dtx_trellis.specs.Trellis.{byte_place, group_place, pair_in}

-- The correction of word k of the bytes of a run. All 207 bytes of the word must stand among them, and it must have
-- one.
unfoldable pub known_word : List ℕ → ℕ → Option (List ℕ)
known_word bytes k = if is_complete (length bytes) k then correction 207 187 (word_at 207 52 4 bytes k) else None

-- byte p of all words one behind the other, where its word is known
unfoldable pub known_code_byte : List ℕ → ℕ → Option ℕ
known_code_byte bytes p = option_map (λ code. slice_index code (p % 207)) (known_word bytes (p / 207))

-- The known byte at place n of a run. The interleaver puts byte n - 208 * (n mod 52) of the words there.
unfoldable pub known_byte : List ℕ → ℕ → Option ℕ
known_byte bytes n = if nat_le (208 * (n % 52)) n then known_code_byte bytes (n - 208 * (n % 52)) else None

-- the known byte at each place of a run, or none
unfoldable pub known_bytes : List ℕ → List (Option ℕ)
known_bytes bytes = map (known_byte bytes) (range_with_len 0 (length bytes))

-- how many words are known
unfoldable pub known_count : List ℕ → ℕ
known_count bytes = length (filter (λ k. is_some (known_word bytes k)) (range_with_len 0 (length bytes / 207)))

-- the place in a run of the byte on which coder e works at step t: 276 steps in each group, and 828 bytes
unfoldable pub byte_at_step : ℕ → ℕ → ℕ
byte_at_step e t = 828 * (t / 276) + byte_place (group_place 0 (t / 276)) (t % 276) e

-- the pin of a byte's pair in round r of a group; where the byte isn't known it is 4, which says nothing
abbrev pub pin_of : Option ℕ → ℕ → ℕ
pin_of byte r = unwrap_or (option_map (λ byte. pair_in byte r) byte) 4

-- the pin of coder e at step t of a run: that of the known byte there
unfoldable pub known_pin : List (Option ℕ) → ℕ → ℕ → ℕ
known_pin known e t = pin_of (slice_index_or known (byte_at_step e t) None) (t % 276)

-- The pins of the first n steps of field f of a run, an entry for each step and in it a pin for each coder. A whole
-- field has 21528 steps.
unfoldable pub field_pins : List (Option ℕ) → ℕ → ℕ → List (List ℕ)
field_pins known f n =
    map (λ t. map (λ e. known_pin known e (21528 * f + t)) (range_with_len 0 12)) (range_with_len 0 n)
