-- A round over a field alone is what the round over the run makes of that field.
use Rattle.std.proofs.Common.{◌≡◌, ℕ, ℤ, zero, suc, ◌+◌, ◌-◌, ◌*◌, ◌/◌, ◌%◌, ◌<◌, ◌≤◌, ◌⊎◌, inl, inr, min, nat_le}
use Rattle.std.proofs.Common.{nat_lt, cond, ◌&&◌, Option, None, List, [], ◌++◌, length, map, take, drop, get_or, sum}
use Rattle.std.proofs.Common.{refl, sym, ap, ap₂, ◌∙◌, arith}
use Rattle.std.specs.List.{range_with_len}
use Rattle.std.proofs.lemmas.Bool.{cases_lt}
use Rattle.std.proofs.lemmas.List.{get_or-drop, get_or-take, length-drop, length-take}
use Rattle.std.proofs.lemmas.List.FromFn.{get_or-map-range_with_len}
use Rattle.dtx_lists.proofs.Range.{map-range_same}
use Rattle.dtx_lists.proofs.RangeMoved.{map-range_moved}
use Rattle.dtx_lists.proofs.RangeSums.{over, over_parts}
use Rattle.dtx_trellis.specs.Trellis.{byte_place, group_place}
use Rattle.dtx_receiver.specs.Bytes.{bytes_in}
use Rattle.dtx_acquire.specs.Acquired.{decided}
use Rattle.dtx_pins.specs.PinnedField.{moved_in, rows_moved}
use Rattle.dtx_rounds.specs.FieldRound.{field_cost, field_rounded}
use Rattle.dtx_rounds.specs.RunField.{rows_of}
use Rattle.dtx_rounds.specs.Known.{known_bytes, byte_at_step, field_pins, known_pin, pin_of}
use Rattle.dtx_rounds.specs.Rounds.{coder_cost, groups_in, in_whole_group, paths_in, round_segment, fields_in, rounded}
use Rattle.dtx_rounds.proofs.OwnRounds.{group_row}
use Rattle.dtx_rounds.proofs.RangeSteps.{sum_next}
use Rattle.dtx_rounds.proofs.RoundLevels.{after, length-after, length-groups}
use Rattle.dtx_rounds.proofs.RowsRounded.{same_items}

-- ---- a field of a run

pub length-rows : (segments : List (List ℤ)) (f : ℕ) → length (rows_of segments f) ≡ min 313 (length segments - 313 * f)
length-rows segments f = length-take 313 (drop (313 * f) segments) ∙ ap (min 313) (length-drop (313 * f) segments)

pub row_of : (segments : List (List ℤ)) (f i : ℕ) → i < 313
    → get_or (rows_of segments f) i [] ≡ get_or segments (313 * f + i) []
row_of segments f i l = get_or-take 313 (drop (313 * f) segments) i [] l ∙ get_or-drop (313 * f) segments i []

-- its data segments in whole groups
groups_of_rows : (segments : List (List ℤ)) (f : ℕ) → groups_in (rows_of segments f) 0 ≡ groups_in segments f
groups_of_rows segments f =
    same_items [] (length (groups_in segments f)) (groups_in (rows_of segments f) 0) (groups_in segments f) long refl
    (λ i l. group_row (rows_of segments f) 0 i (omega (arith, l, long))
    ∙ row_of segments f (313 * 0 + 1 + i) (omega (arith, l, length-groups segments f))
    ∙ (let there : 313 * f + (313 * 0 + 1 + i) ≡ 313 * f + 1 + i = omega arith in ap (λ j. get_or segments j []) there)
    ∙ sym (group_row segments f i l))
  where
    by_count : (l f : ℕ) → 4 * (min 312 (min 313 (l - 313 * f) - (313 * 0 + 1)) / 4)
        ≡ 4 * (min 312 (l - (313 * f + 1)) / 4)
    by_count l f = grind arith

    long : length (groups_in (rows_of segments f) 0) ≡ length (groups_in segments f)
    long = length-groups (rows_of segments f) 0
        ∙ ap (λ n. 4 * (min 312 (n - (313 * 0 + 1)) / 4)) (length-rows segments f) ∙ by_count (length segments) f
        ∙ sym (length-groups segments f)

-- ---- pins

-- the place of a coder's byte, from the field's first on
pub byte_in_field : (e f t : ℕ) → t < 21528 → byte_at_step e (21528 * f + t) ≡ 64584 * f + byte_at_step e t
unfolding byte_at_step byte_place group_place
byte_in_field e f t l = grind arith

pub byte_within : (e t : ℕ) → e < 12 → t < 21528 → byte_at_step e t < 64584
unfolding byte_at_step byte_place group_place
byte_within e t l m = omega arith

-- of the bytes of field f the same is known in a list of its own
abbrev pub KnowSame : List (Option ℕ) → List (Option ℕ) → ℕ → Type 0
KnowSame part known f = (n : ℕ) → n < 64584 → get_or part n None ≡ get_or known (64584 * f + n) None

-- then its pins are the same
same_pins : (part known : List (Option ℕ)) (f n : ℕ) → KnowSame part known f → n ≤ 21528
    → field_pins part 0 n ≡ field_pins known f n
unfolding field_pins known_pin
same_pins part known f n same few =
    map-range_same (λ t. map (λ e. known_pin part e (21528 * 0 + t)) (range_with_len 0 12))
    (λ t. map (λ e. known_pin known e (21528 * f + t)) (range_with_len 0 12)) 0 n
    (λ t a l. map-range_same (λ e. known_pin part e (21528 * 0 + t)) (λ e. known_pin known e (21528 * f + t)) 0 12
    (λ e b m. pin t e (omega arith) (omega arith)))
  where
    pin : (t e : ℕ) → t < 21528 → e < 12
        → pin_of (get_or part (byte_at_step e (21528 * 0 + t)) None) ((21528 * 0 + t) % 276)
        ≡ pin_of (get_or known (byte_at_step e (21528 * f + t)) None) ((21528 * f + t) % 276)
    pin t e l m = grind (arith, byte_within, byte_in_field)

steps_few : (heard : List (List ℤ)) (f : ℕ) → 69 * length (groups_in heard f) ≤ 21528
steps_few heard f = omega (arith, length-groups heard f)

-- ---- segments

-- a segment by its place in its field, the field's groups and their paths
abbrev cell : ℕ → ℕ → List (List ℤ) → List (List ℤ) → List ℤ → List ℤ
cell scale j groups paths segment = cond (nat_lt 0 j && nat_le j (length groups))
    (take 4 segment ++ map (decided scale) (drop 4 (get_or paths (j - 1) []))) segment

cell_is : (scale : ℕ) (heard given : List (List ℤ)) (known : List (Option ℕ)) (f i : ℕ) → i < 313
    → round_segment scale heard known given (313 * f + i)
    ≡ cell scale i (groups_in given f) (paths_in scale heard known f) (get_or given (313 * f + i) [])
unfolding round_segment in_whole_group
cell_is scale heard given known f i l = grind arith

-- segment i of a field after a round over the field alone
pub field_segment : (scale : ℕ) (heard given : List (List ℤ)) (known part : List (Option ℕ)) (f i : ℕ)
    → KnowSame part known f → i < 313 → round_segment scale (rows_of heard f) part (rows_of given f) i
    ≡ round_segment scale heard known given (313 * f + i)
unfolding paths_in
field_segment scale heard given known part f i same l =
    let first : i ≡ 313 * 0 + i = omega arith in
    ap (round_segment scale (rows_of heard f) part (rows_of given f)) first
    ∙ cell_is scale (rows_of heard f) (rows_of given f) part 0 i l
    ∙ grind (arith, groups_of_rows, same_pins, steps_few, row_of, cell_is)

pub row_after : (scale : ℕ) (heard given : List (List ℤ)) (known : List (Option ℕ)) (f i : ℕ)
    → i < length (rows_of given f)
    → get_or (rows_of (after scale heard known given) f) i [] ≡ round_segment scale heard known given (313 * f + i)
row_after scale heard given known f i l =
    row_of (after scale heard known given) f i (omega (arith, l, length-rows given f))
    ∙ get_or-map-range_with_len (round_segment scale heard known given) 0 (length given) (313 * f + i) (313 * f + i) []
    (omega (arith, l, length-rows given f)) (omega arith)

-- the field's segments
pub field_after : (scale : ℕ) (heard given : List (List ℤ)) (known part : List (Option ℕ)) (f : ℕ)
    → KnowSame part known f
    → field_rounded scale (rows_of heard f) part (rows_of given f) ≡ rows_of (after scale heard known given) f
unfolding field_rounded
field_after scale heard given known part f same =
    same_items [] (length (rows_of given f)) (after scale (rows_of heard f) part (rows_of given f))
    (rows_of (after scale heard known given) f) (length-after scale (rows_of heard f) (rows_of given f) part)
    (grind (arith, length-rows, after, length-after))
    (λ i l. get_or-map-range_with_len (round_segment scale (rows_of heard f) part (rows_of given f)) 0
    (length (rows_of given f)) i i [] l (omega arith)
    ∙ field_segment scale heard given known part f i same (omega (arith, l, length-rows given f))
    ∙ sym (row_after scale heard given known f i l))

pub field_of_rounded : (scale : ℕ) (heard given : List (List ℤ)) (part : List (Option ℕ)) (f : ℕ)
    → KnowSame part (known_bytes (bytes_in given)) f
    → field_rounded scale (rows_of heard f) part (rows_of given f) ≡ rows_of (rounded scale heard given) f
unfolding rounded
field_of_rounded scale heard given part f same =
    field_after scale heard given (known_bytes (bytes_in given)) part f same

-- ---- cost and what moves

-- the field's cost is that of its coders in the run
pub field_costs : (scale : ℕ) (heard : List (List ℤ)) (known part : List (Option ℕ)) (f : ℕ) → KnowSame part known f
    → field_cost scale (rows_of heard f) part ≡ sum (map (coder_cost scale heard known f) (range_with_len 0 12))
unfolding field_cost coder_cost
field_costs scale heard known part f same = grind (arith, groups_of_rows, same_pins, steps_few)

-- what moves in the field is what moves in its segments of the run
pub field_moves : (given new : List (List ℤ)) (f : ℕ) → rows_moved (rows_of given f) (rows_of new f)
    ≡ sum (map (λ i. moved_in (get_or given (313 * f + i) []) (get_or new (313 * f + i) []))
    (range_with_len 0 (length (rows_of given f))))
unfolding rows_moved
field_moves given new f = grind (arith, map-range_same, row_of, length-rows)

-- the numbers below n and below the whole, field by field
sum_of_fields : (h : ℕ → ℕ) (whole n : ℕ)
    → sum (map (λ f. over h (313 * f) (min 313 (whole - 313 * f))) (range_with_len 0 n))
    ≡ over h 0 (min (313 * n) whole)
sum_of_fields h whole zero = (let none : 0 ≡ min (313 * 0) whole = omega arith in ap (over h 0) none)
sum_of_fields h whole (suc n) =
    let next : suc n ≡ n + 1 = omega arith in
    ap (λ m. sum (map (λ f. over h (313 * f) (min 313 (whole - 313 * f))) (range_with_len 0 m))) next
    ∙ sum_next (λ f. over h (313 * f) (min 313 (whole - 313 * f))) n
    ∙ ap (λ x. x + over h (313 * n) (min 313 (whole - 313 * n))) (sum_of_fields h whole n)
    ∙ by_room (cases_lt whole (313 * n))
  where
    by_room : (whole < 313 * n) ⊎ (313 * n ≤ whole)
        → over h 0 (min (313 * n) whole) + over h (313 * n) (min 313 (whole - 313 * n))
        ≡ over h 0 (min (313 * suc n) whole)
    by_room (inl past) = grind (arith, over, over_parts)
    by_room (inr more) =
        let all : min (313 * n) whole ≡ 313 * n = omega arith in
        let start : 313 * n ≡ 0 + 313 * n = omega arith in
        let both : 313 * n + min 313 (whole - 313 * n) ≡ min (313 * suc n) whole = omega arith in
        ap₂ (λ m a. over h 0 m + over h a (min 313 (whole - 313 * n))) all start
        ∙ sym (over_parts h 0 (313 * n) (min 313 (whole - 313 * n))) ∙ ap (over h 0) both

-- what moves in all fields is what moves in all segments
pub moves_of_fields : (given new : List (List ℤ))
    → sum (map (λ f. rows_moved (rows_of given f) (rows_of new f)) (range_with_len 0 (fields_in given)))
    ≡ sum (map (λ i. moved_in (get_or given i []) (get_or new i [])) (range_with_len 0 (length given)))
moves_of_fields given new = ap sum (map-range_same (λ f. rows_moved (rows_of given f) (rows_of new f))
    (λ f. over h (313 * f) (min 313 (length given - 313 * f))) 0 (fields_in given) (λ f a l. field_moves given new f
    ∙ ap (λ n. sum (map (λ i. h (313 * f + i)) (range_with_len 0 n))) (length-rows given f)
    ∙ ap sum (map-range_moved (λ i. h (313 * f + i)) h 0 (313 * f) (min 313 (length given - 313 * f))
    (λ i m. (grind (arith, h)))))) ∙ sum_of_fields h (length given) (fields_in given)
    ∙ (let all : min (313 * fields_in given) (length given) ≡ length given = every (length given) in ap (over h 0) all)
  where
    h : ℕ → ℕ
    h i = moved_in (get_or given i []) (get_or new i [])

    every : (l : ℕ) → min (313 * ((l + 312) / 313)) l ≡ l
    every l = omega arith
