-- The bytes of made streams, one behind another.
use Rattle.std.proofs.Common.{◌≡◌, ℕ, ◌+◌, ◌*◌, ◌/◌, ◌^◌, ◌<◌, zero, suc, List, [], ◌++◌, length, get_or, set, flat_map}
use Rattle.std.proofs.Common.{refl, sym, ap, ◌∙◌, arith, add-one, zero-add}
use Rattle.std.specs.List.{range_with_len}
use Rattle.std.proofs.lemmas.Grind.{flat_map-append}
use Rattle.std.proofs.lemmas.List.{append-nil, length-append}
use Rattle.std.proofs.lemmas.List.Edits.{fill_by_more}
use Rattle.std.proofs.lemmas.List.FromFn.{length-map-range_with_len, fill_by_all}
use Rattle.dtx_lists.proofs.Range.{range_with_len-parts}
use Rattle.dtx_make.specs.Made.{first_number, next_number, number_at, made_payload, made_packet, made_stream}

pub number_first : (seed index : ℕ) → number_at seed index 0 ≡ first_number seed index
unfolding number_at
number_first seed index = refl

pub number_more : (seed index j : ℕ) → number_at seed index (j + 1) ≡ next_number (number_at seed index j)
unfolding number_at
number_more seed index j = ap (number_at seed index) (add-one j)

-- one more byte of a payload
pub payload_more : (seed index : ℕ) (bytes : List ℕ) (i byte : ℕ) → i < length bytes
    → ((k : ℕ) → k < i → get_or bytes k 0 ≡ number_at seed index (k + 1) / 2 ^ 56)
    → byte ≡ number_at seed index (i + 1) / 2 ^ 56 → (k : ℕ) → k < i + 1
    → get_or (set bytes i byte) k 0 ≡ number_at seed index (k + 1) / 2 ^ 56
payload_more seed index bytes i byte within before is k h = ap (λ b. get_or (set bytes i b) k 0) is
    ∙ fill_by_more (λ j. number_at seed index (j + 1) / 2 ^ 56) bytes i 0 within before k h

pub length-made_payload : (seed index : ℕ) → length (made_payload seed index) ≡ 184
unfolding made_payload
length-made_payload seed index = length-map-range_with_len (λ j. number_at seed index (j + 1) / 2 ^ 56) 0 184

-- the bytes that a payload has at each place are the payload
pub made_payload_by : (seed index : ℕ) (bytes : List ℕ) → length bytes ≡ 184
    → ((k : ℕ) → k < 184 → get_or bytes k 0 ≡ number_at seed index (k + 1) / 2 ^ 56) → bytes ≡ made_payload seed index
unfolding made_payload
made_payload_by seed index bytes long each =
    fill_by_all (λ j. number_at seed index (j + 1) / 2 ^ 56) bytes 184 0 long each

pub length-made_packet : (seed index : ℕ) → length (made_packet seed index) ≡ 188
unfolding made_packet
length-made_packet seed index = grind (arith, length-made_payload)

pub made_stream_none : (seed : ℕ) → made_stream seed 0 ≡ []
unfolding made_stream
made_stream_none seed = refl

-- a longer stream begins with a shorter one
pub made_stream-parts : (seed count more : ℕ) → made_stream seed (count + more) ≡ made_stream seed count
    ++ flat_map (made_packet seed) (range_with_len count more)
unfolding made_stream
made_stream-parts seed count more = grind (arith, range_with_len-parts, flat_map-append, zero-add)

-- one more packet
pub made_stream_more : (seed count : ℕ) → made_stream seed (count + 1) ≡ made_stream seed count
    ++ made_packet seed count
made_stream_more seed count = grind (arith, made_stream-parts, append-nil)

pub length-made_stream : (seed count : ℕ) → length (made_stream seed count) ≡ 188 * count
length-made_stream seed zero = ap length (made_stream_none seed)
length-made_stream seed (suc n) = ap (λ k. length (made_stream seed k)) (sym (add-one n))
    ∙ ap length (made_stream_more seed n)
    ∙ length-append (made_stream seed n) (made_packet seed n)
    ∙ omega (arith, length-made_stream seed n, length-made_packet seed n)
