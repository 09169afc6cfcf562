-- Where no byte of a known word is put right, the pins are pairs of the paths themselves. So these stay the least ones,
-- and rounds over a capture leave it as it is.
use Rattle.dtx_trellis.specs.Trellis.{byte_place, group_place, pair_in}
use Rattle.std.proofs.Common.{◌≡◌, ℕ, ℤ, pos, ◌+◌, ◌-◌, ◌*◌, ◌/◌, ◌%◌, ◌<◌, ◌⊎◌, inl, inr, min, nat_lt, true, false}
use Rattle.std.proofs.Common.{cond, Option, Some, List, [], ◌++◌, length, map, take, drop, get_or, refl, sym, ap, ap₂}
use Rattle.std.proofs.Common.{◌∙◌, subst, arith}
use Rattle.std.proofs.lemmas.Bool.{cases_Bool, cases_lt, cond-false, cond-true, leb-true}
use Rattle.std.proofs.lemmas.List.{get_or-append_right, get_or-drop, get_or-map, get_or-take, get_or_past, length-drop}
use Rattle.std.proofs.lemmas.List.{length-take, take_at}
use Rattle.std.proofs.lemmas.List.FromFn.{fill_by_all, get_or-map-range_with_len, length-map-range_with_len}
use Rattle.dtx_lists.proofs.Range.{map-range_same}
use Rattle.dtx_laws.specs.Codeword.{IsCodeword}
use Rattle.dtx_laws.proofs.WordsLemmas.{one_correction, own_correction}
use Rattle.dtx_outer.specs.Inner.{word_at}
use Rattle.dtx_outer.proofs.WordsLemmas.{get_or-word, length-word}
use Rattle.dtx_frame.specs.Segments.{segment_sync}
use Rattle.dtx_slice.specs.Unrolled.{byte_back, coder_of, pair_back, pair_from, precoder_bit, symbol_place}
use Rattle.dtx_slice.proofs.PlacesLemmas.{precoder_bit_next}
use Rattle.dtx_soft.specs.Coders.{coder_symbols, data_symbol}
use Rattle.dtx_soft.specs.Least.{IsLeast, least_levels, least_start}
use Rattle.dtx_soft.specs.Paths.{symbol_at}
use Rattle.dtx_soft.specs.Softened.{least_symbols, softened, softened_segment, softened_symbol}
use Rattle.dtx_soft.proofs.LeastPathLemmas.{least_levels_are, least_path_found}
use Rattle.dtx_soft.proofs.SoftenedLemmas.{coder_small, length-coder, softened_found}
use Rattle.dtx_receiver.specs.Bytes.{bytes_in, data_at, data_count, first_bits, groups_of, levels_in}
use Rattle.dtx_receiver.specs.Packets.{is_complete}
use Rattle.dtx_acquire.specs.Acquired.{in_groups, restored_data, acquired, all_fields, decided}
use Rattle.dtx_acquire.specs.Sent.{groups_behind}
use Rattle.dtx_acquire.proofs.WholeLemmas.{long_acquired}
use Rattle.dtx_pins.specs.LeastPinned.{least_pinned_levels}
use Rattle.dtx_pins.specs.PinnedField.{pinned, pinned_segment, pinned_symbol, pinned_symbols}
use Rattle.dtx_pins.specs.Pins.{Agrees, coder_pins, pin_at, x1_told, x2_told}
use Rattle.dtx_pins.proofs.LeastPinnedLemmas.{least_pinned_is}
use Rattle.dtx_rounds.specs.RunField.{AreSegments}
use Rattle.dtx_rounds.specs.Known.{known_byte, known_bytes, known_code_byte, known_word, byte_at_step, known_pin}
use Rattle.dtx_rounds.specs.Rounds.{groups_in, in_whole_group, paths_in, pins_in, round_segment, rounded, heard_of}
use Rattle.dtx_rounds.specs.Rounds.{refined}
use Rattle.dtx_rounds.proofs.FieldRows.{AreFields, acquired_groups}
use Rattle.dtx_rounds.proofs.Kept.{none_some, field_pin, part}
use Rattle.dtx_rounds.proofs.KnownLemmas.{known_correction, known_parts}
use Rattle.dtx_rounds.proofs.RefinedLemmas.{length-heard, rounds_stay}
use Rattle.dtx_rounds.proofs.RoundLevels.{in_whole_room, in_whole_some, length-groups, level_by, path_small}
use Rattle.dtx_rounds.proofs.RoundLevels.{place_in_groups, same_groups, step_there}
use Rattle.dtx_rounds.proofs.RunLevels.{byte_in, length-bytes, field_of_segment, place_in}
use Rattle.dtx_rounds.proofs.RunWords.{length-known}

-- The segments are decided by the least paths over those received, as the acquirer does it.
pub record AreDecided (scale : ℕ) (heard given : List (List ℤ)) : Type 0 where
  pub some : 0 < scale
  pub most : scale < 19
  pub long : AreSegments given
  pub same : length heard ≡ length given
  pub groups : (f : ℕ) → groups_in given f ≡ map (restored_data scale) (softened scale (groups_in heard f))

-- each known word is its own correction
abbrev pub NoneIsPutRight : List ℕ → Type 0
NoneIsPutRight bytes = (k : ℕ) (code : List ℕ) → known_word bytes k ≡ Some code → code ≡ word_at 207 52 4 bytes k

-- ---- rows

row_place : (d : ℕ) → 313 * (d / 312) + 1 + d % 312 ≡ d + d / 312 + 1
row_place d = omega arith

-- a row of a field's groups
pub group_row : (segments : List (List ℤ)) (f i : ℕ) → i < length (groups_in segments f)
    → get_or (groups_in segments f) i [] ≡ get_or segments (313 * f + 1 + i) []
unfolding groups_behind in_groups
group_row segments f i l =
    let rest : List (List ℤ) = take 312 (drop (313 * f + 1) segments) in
    let long : length rest ≡ min 312 (length segments - (313 * f + 1)) =
    length-take 312 (drop (313 * f + 1) segments) ∙ ap (min 312) (length-drop (313 * f + 1) segments) in
    get_or-take (4 * (length rest / 4)) rest i [] (omega (arith, l, length-groups segments f, long))
    ∙ get_or-take 312 (drop (313 * f + 1) segments) i [] (omega (arith, l, length-groups segments f))
    ∙ get_or-drop (313 * f + 1) segments i []

softened_row : (scale : ℕ) (rows : List (List ℤ)) (i : ℕ) → i < length rows
    → length (get_or (softened scale rows) i []) ≡ 832
unfolding softened softened_segment
softened_row scale rows i l = grind (arith, get_or-map-range_with_len, length-map-range_with_len)

sync_long : length segment_sync ≡ 4
unfolding segment_sync
sync_long = refl

restored_symbol : (scale : ℕ) (row : List ℤ) (k : ℕ) → length row ≡ 832 → k < 828
    → get_or (restored_data scale row) (4 + k) (pos 0) ≡ decided scale (get_or row (4 + k) (pos 0))
unfolding restored_data
restored_symbol scale row k long l =
    get_or-append_right segment_sync (map (decided scale) (drop 4 row)) 4 (4 + k) (pos 0) sync_long (omega arith)
    ∙ ap (λ i. get_or (map (decided scale) (drop 4 row)) i (pos 0)) (omega arith)
    ∙ get_or-map (decided scale) (drop 4 row) k (pos 0) (pos 0) (omega (arith, l, long, length-drop 4 row))
    ∙ ap (decided scale) (get_or-drop 4 row k (pos 0))

-- ---- levels

own_levels : ℕ → List (List ℤ) → ℕ → ℕ → List ℕ
own_levels scale heard f e = least_levels scale (coder_symbols (groups_in heard f) e)

own_symbol : (scale : ℕ) (rows : List (List ℤ)) (e t : ℕ) → e < 12 → t < 69 * length rows
    → data_symbol (softened scale rows) (symbol_place 0 t e)
    ≡ symbol_at scale (get_or (least_levels scale (coder_symbols rows e)) t 0)
unfolding coder_symbols
own_symbol scale rows e t l m =
    let is = softened_found scale rows in
    let one = is.coders e l in
    let many : length one.levels ≡ 69 * length rows = one.least.long ∙ length-coder rows e in
    sym (grind (arith, get_or-map-range_with_len)) ∙ ap (λ (xs : List ℤ). get_or xs t (pos 0)) one.symbols
    ∙ get_or-map (symbol_at scale) one.levels t 0 (pos 0) (omega (arith, m, many))
    ∙ ap (λ (xs : List ℕ). symbol_at scale (get_or xs t 0))
    (sym (least_levels_are scale (coder_symbols rows e) one.start one.levels one.least))

own_level : (scale : ℕ) (heard given : List (List ℤ)) (t e : ℕ) → e < 12 → AreDecided scale heard given
    → t < 276 * groups_of given
    → get_or (levels_in given) (symbol_place 0 t e) 0 ≡ get_or (own_levels scale heard (t / 21528) e) (t % 21528) 0
unfolding own_levels data_at
own_level scale heard given t e l is m =
    let found : IsLeast scale (coder_symbols (groups_in heard (t / 21528)) e)
    (least_start scale (coder_symbols (groups_in heard (t / 21528)) e))
    (least_levels scale (coder_symbols (groups_in heard (t / 21528)) e)) =
    least_path_found scale (coder_symbols (groups_in heard (t / 21528)) e) in
    let path : List ℤ = get_or (softened scale (groups_in heard (t / 21528))) (t / 69 % 312) [] in
    let row : t / 69 < 4 * groups_of given = omega arith in
    let given_room : t / 69 % 312 < length (groups_in given (t / 21528)) =
    subst (λ f. t / 69 % 312 < length (groups_in given f)) (field_of_segment t) (place_in_groups given (t / 69) row) in
    let room : t / 69 % 312 < length (groups_in heard (t / 21528)) =
    omega (arith, given_room, same_groups heard given (t / 21528) is.same) in
    let step : t % 21528 < 69 * length (groups_in heard (t / 21528)) =
    step_there t (length (groups_in heard (t / 21528))) room in
    let full : length path ≡ 832 = softened_row scale (groups_in heard (t / 21528)) (t / 69 % 312) room in
    let data_row : get_or given (t / 69 + t / 69 / 312 + 1) [] ≡ restored_data scale path =
    ap (λ i. get_or given i []) (sym (row_place (t / 69)))
    ∙ ap (λ f. get_or given (313 * f + 1 + t / 69 % 312) []) (field_of_segment t)
    ∙ sym (group_row given (t / 21528) (t / 69 % 312) given_room)
    ∙ ap (λ (rows : List (List ℤ)). get_or rows (t / 69 % 312) []) (is.groups (t / 21528))
    ∙ get_or-map (restored_data scale) (softened scale (groups_in heard (t / 21528))) (t / 69 % 312) [] []
    (omega (arith, room, (softened_found scale (groups_in heard (t / 21528))).long)) in
    level_by scale given (softened scale (groups_in heard (t / 21528)))
    (least_levels scale (coder_symbols (groups_in heard (t / 21528)) e)) t e is.some is.most is.long m
    (ap (λ (row : List ℤ). get_or row (4 + symbol_place 0 t e % 828) (pos 0)) data_row
    ∙ restored_symbol scale path (symbol_place 0 t e % 828) full (place_in t e))
    (own_symbol scale (groups_in heard (t / 21528)) e (t % 21528) l step)
    (path_small (least_levels scale (coder_symbols (groups_in heard (t / 21528)) e))
    (least_start scale (coder_symbols (groups_in heard (t / 21528)) e)) (t % 21528) found.path
    (omega (arith, step, found.long, length-coder (groups_in heard (t / 21528)) e)))

-- ---- bytes

-- the byte at a coder's step
step_part : (bits levels : List ℕ) (t e : ℕ) → e < 12
    → pair_in (byte_back 0 bits levels (byte_at_step e t)) (t % 276) ≡ pair_back 0 bits levels t e
unfolding pair_in byte_back byte_at_step byte_place group_place coder_of pair_back
step_part bits levels t e l = grind (arith, part)

-- ---- what is known

-- a known byte is that of the run
own_byte : (bytes : List ℕ) (n b : ℕ) → NoneIsPutRight bytes → known_byte bytes n ≡ Some b → b ≡ get_or bytes n 0
unfolding known_byte known_code_byte
own_byte bytes n b own e = grind (arith, none_some, get_or-word, leb-true)

-- the byte of a pin
record HasByte (bytes : List ℕ) (e t : ℕ) : Type 0 where
  byte : ℕ
  there : byte_at_step e t < length bytes
  known : known_byte bytes (byte_at_step e t) ≡ Some byte
  pair : known_pin (known_bytes bytes) e t ≡ pair_in byte (t % 276)

has_byte : (bytes : List ℕ) (e t : ℕ) → known_pin (known_bytes bytes) e t < 4 → HasByte bytes e t
unfolding known_pin known_bytes
has_byte bytes e t l = grind (arith, cases_lt, get_or-map-range_with_len, none_some, get_or_past, length-known)

-- ---- the paths stay the least ones

steps_within : (l f t : ℕ) → t < 69 * (4 * (min 312 (l - (313 * f + 1)) / 4))
    → 21528 * f + t < 276 * ((l - (l + 312) / 313) / 4)
steps_within l f t h = omega arith

own_agrees : (scale : ℕ) (heard given : List (List ℤ)) (f e : ℕ) → e < 12 → AreDecided scale heard given
    → NoneIsPutRight (bytes_in given)
    → Agrees (coder_pins (pins_in heard (known_bytes (bytes_in given)) f) e) (own_levels scale heard f e)
unfolding own_levels x1_told x2_told pair_back groups_of data_count
own_agrees scale heard given f e l is own t m p = record {
  x1 = omega (arith, pair_is, now);
  x2 = λ some. (let first = before some in omega (arith, pair_is, now, first));
}
  where
    found : IsLeast scale (coder_symbols (groups_in heard f) e)
        (least_start scale (coder_symbols (groups_in heard f) e))
        (least_levels scale (coder_symbols (groups_in heard f) e))
    found = least_path_found scale (coder_symbols (groups_in heard f) e)

    levels : List ℕ
    levels = least_levels scale (coder_symbols (groups_in heard f) e)

    T : ℕ
    T = 21528 * f + t

    bits : List ℕ
    bits = first_bits given

    room : t < 69 * length (groups_in heard f)
    room = omega (arith, m, found.long, length-coder (groups_in heard f) e)

    step : T < 276 * groups_of given
    step = steps_within (length given) f t (grind (arith, room, same_groups, length-groups))

    pin_there : pin_at (coder_pins (pins_in heard (known_bytes (bytes_in given)) f) e) t
        ≡ known_pin (known_bytes (bytes_in given)) e T
    pin_there = field_pin heard (known_bytes (bytes_in given)) f e t l room

    known : HasByte (bytes_in given) e T
    known = has_byte (bytes_in given) e T (omega (arith, p, pin_there))

    pair_is : pin_at (coder_pins (pins_in heard (known_bytes (bytes_in given)) f) e) t
        ≡ pair_from (precoder_bit 0 bits (levels_in given) T e) (get_or (levels_in given) (symbol_place 0 T e) 0)
    pair_is = pin_there ∙ known.pair
        ∙ ap (λ b. pair_in b (T % 276)) (own_byte (bytes_in given) (byte_at_step e T) known.byte own known.known
        ∙ byte_in given (byte_at_step e T) is.long (omega (arith, known.there, length-bytes given is.long)))
        ∙ step_part bits (levels_in given) T e l

    few : t < 21528
    few = omega (arith, room, length-groups heard f)

    now : get_or (levels_in given) (symbol_place 0 T e) 0 ≡ get_or levels t 0
    now =
        let field : T / 21528 ≡ f = omega (arith, few) in
        let place : T % 21528 ≡ t = omega (arith, few) in
        own_level scale heard given T e l is step
        ∙ ap₂ (λ (g u : ℕ). get_or (least_levels scale (coder_symbols (groups_in heard g) e)) u 0) field place

    before : 0 < t → precoder_bit 0 bits (levels_in given) T e ≡ get_or levels (t - 1) 0 / 4
    before some =
        let next : T ≡ T - 1 + 1 = omega (arith, some) in
        let field : (T - 1) / 21528 ≡ f = omega (arith, few, some) in
        let place : (T - 1) % 21528 ≡ t - 1 = omega (arith, few, some) in
        ap (λ u. precoder_bit 0 bits (levels_in given) u e) next ∙ precoder_bit_next 0 (T - 1) e bits (levels_in given)
        ∙ ap (λ x. x / 4) (own_level scale heard given (T - 1) e l is (omega (arith, step))
        ∙ ap₂ (λ (g u : ℕ). get_or (least_levels scale (coder_symbols (groups_in heard g) e)) u 0) field place)

own_least : (scale : ℕ) (heard given : List (List ℤ)) (f e : ℕ) → e < 12 → AreDecided scale heard given
    → NoneIsPutRight (bytes_in given)
    → least_pinned_levels scale (coder_pins (pins_in heard (known_bytes (bytes_in given)) f) e)
    (coder_symbols (groups_in heard f) e) ≡ least_levels scale (coder_symbols (groups_in heard f) e)
unfolding own_levels
own_least scale heard given f e l is own =
    let found : IsLeast scale (coder_symbols (groups_in heard f) e)
    (least_start scale (coder_symbols (groups_in heard f) e))
    (least_levels scale (coder_symbols (groups_in heard f) e)) =
    least_path_found scale (coder_symbols (groups_in heard f) e) in
    ap (drop 1) (least_pinned_is scale (coder_pins (pins_in heard (known_bytes (bytes_in given)) f) e)
    (coder_symbols (groups_in heard f) e) (least_start scale (coder_symbols (groups_in heard f) e))
    (least_levels scale (coder_symbols (groups_in heard f) e)) (record {
      begins = found.begins;
      long = found.long;
      path = found.path;
      agrees = own_agrees scale heard given f e l is own;
      least = λ state others a b c d. found.least state others a b c;
      first = λ state others a b c d. found.first state others a b c;
    }))

-- where the least path of each coder under its pins is its least path
pub as_softened : (scale : ℕ) (pins : List (List ℕ)) (rows : List (List ℤ))
    → ((e : ℕ) → e < 12 → least_pinned_levels scale (coder_pins pins e) (coder_symbols rows e)
    ≡ least_levels scale (coder_symbols rows e)) → pinned scale pins rows ≡ softened scale rows
unfolding pinned pinned_segment pinned_symbol pinned_symbols softened softened_segment softened_symbol least_symbols
as_softened scale pins rows same =
    map-range_same (pinned_segment scale pins rows) (softened_segment scale rows) 0 (length rows)
    (λ i a b. map-range_same (λ k. cond (nat_lt k 4) (get_or (get_or rows i []) k (pos 0))
    (pinned_symbol scale pins rows (828 * i + (k - 4)))) (λ k. cond (nat_lt k 4) (get_or (get_or rows i []) k (pos 0))
    (softened_symbol scale rows (828 * i + (k - 4)))) 0 832
    (λ k c d. ap (cond (nat_lt k 4) (get_or (get_or rows i []) k (pos 0))) (symbol (828 * i + (k - 4)))))
  where
    symbol : (d : ℕ) → pinned_symbol scale pins rows d ≡ softened_symbol scale rows d
    symbol d = grind (arith, coder_small)

-- ---- the round

whole_place : (i : ℕ) → 0 < i % 313 → 313 * (i / 313) + 1 + (i % 313 - 1) ≡ i
whole_place i l = omega arith

-- a segment that was decided by the paths of the round
pub decided_segment : (scale : ℕ) (heard given : List (List ℤ)) (known : List (Option ℕ)) (i : ℕ)
    → AreDecided scale heard given → paths_in scale heard known (i / 313) ≡ softened scale (groups_in heard (i / 313))
    → round_segment scale heard known given i ≡ get_or given i []
unfolding round_segment restored_data in_whole_group
decided_segment scale heard given known i is paths = by_test (cases_Bool (in_whole_group given i))
  where
    f : ℕ
    f = i / 313

    path : List ℤ
    path = get_or (softened scale (groups_in heard f)) (i % 313 - 1) []

    row_is : in_whole_group given i ≡ true → get_or given i [] ≡ segment_sync ++ map (decided scale) (drop 4 path)
    row_is e =
        grind (arith, in_whole_room, in_whole_some, whole_place, group_row, get_or-map, same_groups, softened_found)

    by_test : (in_whole_group given i ≡ true) ⊎ (in_whole_group given i ≡ false) → cond (in_whole_group given i)
        (take 4 (get_or given i []) ++ map (decided scale)
        (drop 4 (get_or (paths_in scale heard known f) (i % 313 - 1) []))) (get_or given i []) ≡ get_or given i []
    by_test (inl e) = cond-true (in_whole_group given i) _ (get_or given i []) e
        ∙ ap₂ (λ (xs : List ℤ) (rows : List (List ℤ)). take 4 xs ++ map (decided scale)
        (drop 4 (get_or rows (i % 313 - 1) []))) (row_is e) paths
        ∙ ap (λ (xs : List ℤ). xs ++ map (decided scale) (drop 4 path))
        (take_at segment_sync (map (decided scale) (drop 4 path)) 4 sync_long) ∙ sym (row_is e)
    by_test (inr e) = cond-false (in_whole_group given i) _ (get_or given i []) e

-- where nothing is put right, nothing moves
pub own_round : (scale : ℕ) (heard given : List (List ℤ)) → AreDecided scale heard given
    → NoneIsPutRight (bytes_in given) → rounded scale heard given ≡ given
unfolding rounded paths_in
own_round scale heard given is own =
    sym (fill_by_all (round_segment scale heard (known_bytes (bytes_in given)) given) given (length given) [] refl
    (λ i l. sym (grind (arith, decided_segment, as_softened, own_least))))

-- a codeword is its own correction
pub own_code : (bytes : List ℕ) (k : ℕ) (code : List ℕ)
    → (is_complete (length bytes) k ≡ true → IsCodeword 207 187 (word_at 207 52 4 bytes k))
    → known_word bytes k ≡ Some code → code ≡ word_at 207 52 4 bytes k
own_code bytes k code words e =
    let known = known_parts bytes k code e in
    one_correction 207 187 (word_at 207 52 4 bytes k) code (word_at 207 52 4 bytes k) (omega arith)
    (length-word 207 52 4 bytes k) (known_correction bytes k code known)
    (own_correction 207 187 (word_at 207 52 4 bytes k) (words known.complete))

pub are_decided : (scale : ℕ) (symbols : List ℤ) → AreFields (all_fields symbols) → 0 < scale → scale < 19
    → AreDecided scale (heard_of symbols) (acquired scale symbols)
are_decided scale symbols fields some most = grind (arith, long_acquired, length-heard, acquired_groups)

pub still : (scale r : ℕ) (symbols : List ℤ) → AreFields (all_fields symbols) → 0 < scale → scale < 19
    → NoneIsPutRight (bytes_in (acquired scale symbols)) → refined scale symbols r ≡ acquired scale symbols
unfolding refined
still scale r symbols fields some most own = grind (arith, rounds_stay, own_round, are_decided)
