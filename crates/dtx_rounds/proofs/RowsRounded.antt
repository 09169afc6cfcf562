-- What is decided of a field's segments in whole groups is a round over the field.
use Rattle.std.proofs.Common.{◌≡◌, ℕ, ℤ, pos, zero, suc, ◌+◌, ◌-◌, ◌*◌, ◌/◌, ◌%◌, ◌<◌, ◌≤◌, ◌⊎◌, inl, inr, nat_le}
use Rattle.std.proofs.Common.{nat_lt, true, cond, Option, List, [], ◌++◌, length, map, take, drop, get_or, sum, refl}
use Rattle.std.proofs.Common.{sym, ap, ap₂, ◌∙◌, subst, arith}
use Rattle.std.specs.List.{range_with_len}
use Rattle.std.specs.Ordering.{int_eq}
use Rattle.std.proofs.lemmas.Bool.{and_from, and_left, and_right, cases_lt, cond-false, cond-true, le-leb, le-ltb}
use Rattle.std.proofs.lemmas.Bool.{lt-leb, lt-ltb}
use Rattle.std.proofs.lemmas.Bool.Decides.{Decides-int_eq}
use Rattle.std.proofs.lemmas.List.{get_or-append_right, get_or-drop, get_or-map, get_or-take, get_or_append_left}
use Rattle.std.proofs.lemmas.List.{length-append, length-drop, length-map, length-take-le}
use Rattle.std.proofs.lemmas.List.FromFn.{fill_by_all}
use borrow.Rule.Slice.PartMut.{put_mid}
use Rattle.dtx_lists.proofs.RangeMoved.{map-range_moved}
use Rattle.dtx_lists.proofs.RangeSums.{over, over_parts}
use Rattle.dtx_lists.proofs.Written.{length-put_mid}
use Rattle.dtx_acquire.specs.Acquired.{decided}
use Rattle.dtx_pins.specs.PinnedField.{moved_in, rows_moved, IsPinned, pinned, pinned_coder_cost, pinned_cost}
use Rattle.dtx_pins.proofs.PinnedFieldLemmas.{pinned_level}
use Rattle.dtx_rounds.specs.FieldRound.{field_cost, field_rounded}
use Rattle.dtx_rounds.specs.RunField.{AreSegments}
use Rattle.dtx_rounds.specs.Known.{field_pins}
use Rattle.dtx_rounds.specs.Rounds.{coder_cost, groups_in, in_whole_group, paths_in, round_segment}
use Rattle.dtx_rounds.proofs.OwnRounds.{group_row}
use Rattle.dtx_rounds.proofs.PinRows.{mid_at, mid_before}
use Rattle.dtx_rounds.proofs.RangeSteps.{sum_none}
use Rattle.dtx_rounds.proofs.RoundLevels.{decided_level, length-groups, path_row}

-- ---- lists

pub same_items : {X : Type 0} (d : X) (n : ℕ) (xs ys : List X) → length xs ≡ n → length ys ≡ n
    → ((j : ℕ) → j < n → get_or xs j d ≡ get_or ys j d) → xs ≡ ys
same_items d n xs ys a b h =
    fill_by_all (λ j. get_or ys j d) xs n d a h ∙ sym (fill_by_all (λ j. get_or ys j d) ys n d b (λ j l. refl))

-- behind the part that was written
mid_behind : (a k i : ℕ) (xs ys : List (List ℤ)) → a + k ≤ length xs → length ys ≡ k → a + k ≤ i
    → get_or (put_mid a k xs ys) i [] ≡ get_or xs i []
mid_behind a k i xs ys l e m = grind (arith, get_or-append_right, length-take-le, get_or-drop)

-- ---- a row

-- a segment behind whose sync stand the symbols of a path, decided
row_is : (scale : ℕ) (old path new : List ℤ) → length old ≡ 832 → length path ≡ 832 → length new ≡ 832
    → ((k : ℕ) → k < 4 → get_or new k (pos 0) ≡ get_or old k (pos 0))
    → ((k : ℕ) → 4 ≤ k → k < 832 → get_or new k (pos 0) ≡ decided scale (get_or path k (pos 0)))
    → new ≡ take 4 old ++ map (decided scale) (drop 4 path)
row_is scale old path new long full whole syncs symbols =
    same_items (pos 0) 832 new (take 4 old ++ map (decided scale) (drop 4 path)) whole
    (length-append (take 4 old) (map (decided scale) (drop 4 path))
    ∙ omega (arith, front, full, length-map (drop 4 path) (decided scale), length-drop 4 path))
    (λ k l. by_place k l (cases_lt k 4))
  where
    front : length (take 4 old) ≡ 4
    front = length-take-le 4 old (omega (arith, long))

    by_place : (k : ℕ) → k < 832 → (k < 4) ⊎ (4 ≤ k)
        → get_or new k (pos 0) ≡ get_or (take 4 old ++ map (decided scale) (drop 4 path)) k (pos 0)
    by_place k l (inl m) = syncs k m
        ∙ sym (get_or_append_left (take 4 old) (map (decided scale) (drop 4 path)) (pos 0) k (omega (arith, front, m))
        ∙ get_or-take 4 old k (pos 0) m)
    by_place k l (inr m) = grind (arith, get_or-append_right, get_or-map, length-drop, get_or-drop)

-- what the decoder writes
decided_row : (scale i : ℕ) (pins : List (List ℕ)) (heard old new : List (List ℤ)) → 0 < scale → scale < 19
    → IsPinned scale 1 pins heard old new → i < length heard → i < length new
    → length (get_or old i []) ≡ 832 → length (get_or new i []) ≡ 832 → get_or new i []
    ≡ take 4 (get_or old i []) ++ map (decided scale) (drop 4 (get_or (pinned scale pins heard) i []))
decided_row scale i pins heard old new some most is there l long whole =
    row_is scale (get_or old i []) (get_or (pinned scale pins heard) i []) (get_or new i []) long
    (path_row scale pins heard i there) whole (λ k m. is.syncs i k m)
    (λ k m n. (let level = pinned_level scale pins heard old new i k is l m n in
    level.3 ∙ sym (ap (decided scale) level.2 ∙ decided_level scale level.0 some most level.1)))

-- ---- the groups of a field

-- of the first n segments of a list, those in whole groups
pub groups_first : (n c : ℕ) (segments : List (List ℤ)) → n ≤ 313 → n ≤ length segments → c ≡ (n - 1) / 4 * 4
    → groups_in (take n segments) 0 ≡ take c (drop 1 segments)
groups_first n c segments few room e = same_items [] c (groups_in (take n segments) 0) (take c (drop 1 segments)) long
    (grind (arith, length-take-le, length-drop)) (λ i l. group_row (take n segments) 0 i (omega (arith, long))
    ∙ get_or-take n segments (313 * 0 + 1 + i) [] (omega arith)
    ∙ sym (get_or-take c (drop 1 segments) i [] l ∙ get_or-drop 1 segments i []))
  where
    long : length (groups_in (take n segments) 0) ≡ c
    long = length-groups (take n segments) 0 ∙ omega (arith, length-take-le n segments room)

-- ---- segments

-- segment i of a field after a round
round_is : (scale n c i : ℕ) (heard given : List (List ℤ)) (known : List (Option ℕ)) → n ≤ 313 → n ≤ length heard
    → n ≤ length given → c ≡ (n - 1) / 4 * 4 → i < n → 0 < i → i ≤ c
    → round_segment scale (take n heard) known (take n given) i
    ≡ take 4 (get_or given i []) ++ map (decided scale) (drop 4 (get_or (pinned scale
    (field_pins known 0 (69 * length (take c (drop 1 heard)))) (take c (drop 1 heard))) (i - 1) []))
unfolding round_segment in_whole_group paths_in
round_is scale n c i heard given known few room own e l some whole =
    let place : i % 313 ≡ i = omega arith in
    let field : i / 313 ≡ 0 = omega arith in
    let long : length (groups_in (take n given) 0) ≡ c =
    length-groups (take n given) 0 ∙ omega (arith, length-take-le n given own) in
    let within : in_whole_group (take n given) i ≡ true =
    and_from (nat_lt 0 (i % 313)) (nat_le (i % 313) (length (groups_in (take n given) (i / 313))))
    (lt-ltb 0 (i % 313) (omega (arith, place, some))) (le-leb (i % 313) (length (groups_in (take n given) (i / 313)))
    (subst (λ f. i % 313 ≤ length (groups_in (take n given) f)) (sym field) (omega (arith, place, long, whole)))) in
    let path : get_or (paths_in scale (take n heard) known (i / 313)) (i % 313 - 1) [] ≡ get_or
    (pinned scale (field_pins known 0 (69 * length (take c (drop 1 heard)))) (take c (drop 1 heard))) (i - 1) [] =
    ap₂ (λ f j. get_or (paths_in scale (take n heard) known f) (j - 1) []) field place
    ∙ ap (λ rows. get_or (pinned scale (field_pins known 0 (69 * length rows)) rows) (i - 1) [])
    (groups_first n c heard few room e) in
    cond-true (in_whole_group (take n given) i) _ (get_or (take n given) i []) within
    ∙ ap₂ (λ (path segment : List ℤ). take 4 segment ++ map (decided scale) (drop 4 path)) path
    (get_or-take n given i [] l)

-- segments that stay
round_stays : (scale n c i : ℕ) (heard given : List (List ℤ)) (known : List (Option ℕ)) → n ≤ 313
    → n ≤ length given → c ≡ (n - 1) / 4 * 4 → i < n → (i ≡ 0) ⊎ (c < i)
    → round_segment scale (take n heard) known (take n given) i ≡ get_or given i []
unfolding round_segment in_whole_group
round_stays scale n c i heard given known few own e l out =
    grind (arith, cond-false, get_or-take, length-groups, length-take-le, and_left, le-ltb, and_right, lt-leb)

-- ---- all of it

-- what was made of a field's segments is a round over the first n, at this cost and with so many symbols moved
pub record IsRounded (scale n : ℕ) (heard given : List (List ℤ)) (known : List (Option ℕ)) (made : List (List ℤ))
    (cost moved : ℕ) : Type 0 where
  pub long : length made ≡ 313
  pub rows : take n made ≡ field_rounded scale (take n heard) known (take n given)
  pub cost_is : cost ≡ field_cost scale (take n heard) known
  pub moved_is : moved ≡ rows_moved (take n given) (take n made)

none_moves : (row : List ℤ) → moved_in row row ≡ 0
unfolding moved_in
none_moves row = sum_none (λ k. cond {A = ℕ} (int_eq (get_or row k (pos 0)) (get_or row k (pos 0))) 0 1) 832
    (λ k l. ap (λ t. cond t 0 1) ((Decides-int_eq (get_or row k (pos 0)) (get_or row k (pos 0))).1 refl))

-- rows that stay move nothing
pub still_rows : (rows : List (List ℤ)) → rows_moved rows rows ≡ 0
unfolding rows_moved
still_rows rows = grind (arith, sum_none, none_moves)

-- a sum of which only a part counts
part_sum : (f g : ℕ → ℕ) (n c : ℕ) → (0 < n → c < n) → (n ≡ 0 → c ≡ 0) → ((j : ℕ) → j < c → f (1 + j) ≡ g j)
    → ((i : ℕ) → i < n → (i ≡ 0) ⊎ (c < i) → f i ≡ 0)
    → sum (map g (range_with_len 0 c)) ≡ sum (map f (range_with_len 0 n))
part_sum f g zero c some none here rest = ap (λ m. sum (map g (range_with_len 0 m))) (none refl)
part_sum f g (suc m) c some none here rest = sym (ap (λ x. over f 0 x) count ∙ over_parts f 0 1 (c + (m - c))
    ∙ ap₂ (λ (x y : ℕ). x + y) first (over_parts f (0 + 1) c (m - c) ∙ ap₂ (λ (x y : ℕ). x + y) middle last)
    ∙ omega arith)
  where
    less : c < suc m
    less = some (omega arith)

    count : suc m ≡ 1 + (c + (m - c))
    count = omega arith

    first : over f 0 1 ≡ 0
    first = sum_none f 1 (λ i l. rest i (omega arith) (inl (omega arith)))

    middle : over f (0 + 1) c ≡ over g 0 c
    middle = grind (arith, map-range_moved)

    last : over f (0 + 1 + c) (m - c) ≡ 0
    last = ap sum (map-range_moved f (λ i. f (1 + c + i)) (0 + 1 + c) 0 (m - c)
        (λ j l. (let same : 0 + 1 + c + j ≡ 1 + c + (0 + j) = omega arith in ap f same)))
        ∙ sum_none (λ i. f (1 + c + i)) (m - c) (λ i l. rest (1 + c + i) (omega arith) (inr (omega arith)))

pub rounded_field : (scale n c : ℕ) (heard given new : List (List ℤ)) (known : List (Option ℕ)) (cost moved : ℕ)
    → 0 < scale → scale < 19 → n ≤ 313 → length heard ≡ 313 → length given ≡ 313 → c ≡ (n - 1) / 4 * 4
    → cost ≡ pinned_cost scale (field_pins known 0 (69 * length (take c (drop 1 heard)))) (take c (drop 1 heard))
    → IsPinned scale 1 (field_pins known 0 (69 * length (take c (drop 1 heard)))) (take c (drop 1 heard))
    (take c (drop 1 given)) new
    → moved ≡ rows_moved (take c (drop 1 given)) new → AreSegments (take c (drop 1 given)) → AreSegments new
    → IsRounded scale n heard given known (put_mid 1 c given new) cost moved
unfolding field_cost field_rounded rows_moved coder_cost pinned_cost
rounded_field scale n c heard given new known cost moved some most few heard_long given_long e cost_is is moved_is
    rows_long rows_whole = record {
      long = long;
      rows = fill_by_all (round_segment scale (take n heard) known (take n given)) (take n made) (length
          (take n given)) []
          (length-take-le n made (omega (arith, long)) ∙ sym (length-take-le n given (omega (arith, given_long))))
          (λ i l. row i (omega (arith, l, length-take-le n given (omega (arith, given_long)))));
      cost_is = cost_is ∙ ap (λ rows. sum (map (pinned_coder_cost scale (field_pins known 0 (69 * length rows)) rows)
          (range_with_len 0 12))) (sym (groups_first n c heard few (omega (arith, heard_long)) e));
      moved_is = moved_is ∙ ap (over (λ i. moved_in (get_or (take c (drop 1 given)) i []) (get_or new i [])) 0) taken
          ∙ part_sum (λ i. moved_in (get_or (take n given) i []) (get_or (take n made) i []))
          (λ i. moved_in (get_or (take c (drop 1 given)) i []) (get_or new i [])) n c (λ l. omega arith)
          (λ l. omega arith) (λ j l. ap₂ moved_in (given_at j l) (made_at j l))
          (λ i l out. ap₂ moved_in (get_or-take n given i [] l) (get_or-take n made i [] l ∙ stays i l out)
          ∙ none_moves (get_or given i []))
          ∙ ap (over (λ i. moved_in (get_or (take n given) i []) (get_or (take n made) i [])) 0)
          (sym (length-take-le n given (omega (arith, given_long))));
    }
  where
    made : List (List ℤ)
    made = put_mid 1 c given new

    inside : c ≤ 312
    inside = omega arith

    taken : length (take c (drop 1 given)) ≡ c
    taken = length-take-le c (drop 1 given) (omega (arith, length-drop 1 given, given_long))

    new_long : length new ≡ c
    new_long = is.long ∙ taken

    long : length made ≡ 313
    long = length-put_mid 1 c given new (omega (arith, given_long)) new_long ∙ given_long

    stays : (i : ℕ) → i < n → (i ≡ 0) ⊎ (c < i) → get_or made i [] ≡ get_or given i []
    stays i l (inl none) = mid_before 1 c i given new (omega arith) (omega (arith, given_long))
    stays i l (inr more) = mid_behind 1 c i given new (omega (arith, given_long)) new_long (omega arith)

    old_at : (j : ℕ) → j < c → get_or given (1 + j) [] ≡ get_or (take c (drop 1 given)) j []
    old_at j l = sym (get_or-take c (drop 1 given) j [] l ∙ get_or-drop 1 given j [])

    given_at : (j : ℕ) → j < c → get_or (take n given) (1 + j) [] ≡ get_or (take c (drop 1 given)) j []
    given_at j l = get_or-take n given (1 + j) [] (omega arith) ∙ old_at j l

    made_at : (j : ℕ) → j < c → get_or (take n made) (1 + j) [] ≡ get_or new j []
    made_at j l = get_or-take n made (1 + j) [] (omega arith)
        ∙ mid_at 1 c j given new (omega (arith, new_long, l)) (omega (arith, given_long))

    written : (j : ℕ) → j < c
        → get_or (take n made) (1 + j) [] ≡ round_segment scale (take n heard) known (take n given) (1 + j)
    written j l = made_at j l
        ∙ decided_row scale j (field_pins known 0 (69 * length (take c (drop 1 heard)))) (take c (drop 1 heard))
        (take c (drop 1 given)) new some most is (omega (
          arith,
          l,
          heard_long,
          length-drop 1 heard,
          length-take-le c (drop 1 heard) (omega (arith, length-drop 1 heard, heard_long)),
        )) (omega (arith, new_long, l))
        (rows_long j (omega (arith, taken, l))) (rows_whole j (omega (arith, new_long, l)))
        ∙ ap₂ (λ (i : ℕ) (segment : List ℤ). take 4 segment ++ map (decided scale) (drop 4 (get_or (pinned scale
        (field_pins known 0 (69 * length (take c (drop 1 heard)))) (take c (drop 1 heard))) i []))) back
        (sym (old_at j l)) ∙ sym (round_is scale n c (1 + j) heard given known few (omega (arith, heard_long)) (omega
        (arith, given_long)) e (omega arith) (omega arith) (omega arith))
      where
        back : j ≡ 1 + j - 1
        back = omega arith

    row : (i : ℕ) → i < n → get_or (take n made) i [] ≡ round_segment scale (take n heard) known (take n given) i
    row i l = by_place (cases_lt 0 i) (cases_lt c i)
      where
        other : (i ≡ 0) ⊎ (c < i)
            → get_or (take n made) i [] ≡ round_segment scale (take n heard) known (take n given) i
        other out = get_or-take n made i [] l ∙ stays i l out
            ∙ sym (round_stays scale n c i heard given known few (omega (arith, given_long)) e l out)

        by_place : (0 < i) ⊎ (i ≤ 0) → (c < i) ⊎ (i ≤ c)
            → get_or (take n made) i [] ≡ round_segment scale (take n heard) known (take n given) i
        by_place (inr none) behind = other (inl (omega arith))
        by_place (inl first) (inl more) = other (inr more)
        by_place (inl first) (inr within) =
            let next : 1 + (i - 1) ≡ i = omega arith in
            subst (λ j. get_or (take n made) j [] ≡ round_segment scale (take n heard) known (take n given) j) next
            (written (i - 1) (omega arith))
