-- A round over the fields of a run: the round of a field that is held, its words and its bytes, and how it goes from
-- the first field to each next one and ends with the last.
use Rattle.std.proofs.Common.{◌≡◌, ℕ, ℤ, ◌+◌, ◌-◌, ◌*◌, ◌/◌, ◌<◌, Bool, false, Option, None, is_some, List, [], ◌++◌}
use Rattle.std.proofs.Common.{length, get_or, take, drop, sym, ap, ap₂, ◌∙◌, arith, ◌≤◌, min, subst}
use Rattle.std.specs.List.{flat_map}
use Rattle.std.proofs.Math.Seq.{take-add}
use Rattle.std.proofs.lemmas.Bool.{cases_lt}
use Rattle.std.proofs.lemmas.List.{length-take-le, take_at, length-drop, take-take, drop-drop, drop_at, get_or-take}
use Rattle.std.proofs.lemmas.List.{take-append-le, take_all}
use Rattle.std.proofs.lemmas.List.FromFn.{get_or-map-range_with_len, length-map-range_with_len}
use Rattle.dtx_lists.proofs.Range.{map-range_same}
use Rattle.dtx_slice.specs.Slicing.{sliced_last}
use Rattle.dtx_slice.specs.Unrolled.{bytes_back, precoder_bits_of}
use Rattle.dtx_receiver.specs.Bytes.{bytes_in, data_count, groups_of, levels_from, data_at, first_bits}
use Rattle.dtx_acquire.specs.Acquired.{decided}
use Rattle.dtx_pins.specs.PinnedField.{rows_moved}
use Rattle.dtx_rounds.specs.Decided.{IsDecided, decided_rows, heard_rows}
use Rattle.dtx_rounds.specs.FieldRound.{field_cost, field_rounded, IsWritten}
use Rattle.dtx_rounds.specs.RunField.{rows_of, AreSegments, IsInRun, IsSettled, codes_upto, IsRounded, IsTurned}
use Rattle.dtx_rounds.specs.RunField.{StayKnown, whole_in, Holds}
use Rattle.dtx_rounds.specs.Found.{bytes_of, bytes_there, whole_segments}
use Rattle.dtx_rounds.specs.Known.{known_byte, known_bytes, known_word}
use Rattle.dtx_rounds.specs.Rounds.{in_whole_group, round_segment, rounded}
use Rattle.dtx_rounds.specs.declared.field.Field.{Field}
use Rattle.dtx_rounds.proofs.FieldBytes.{bytes_in_field, field_bits, levels_rows, last_bits}
use Rattle.dtx_rounds.proofs.FieldRounds.{length-rows, row_of, field_after, field_costs}
use Rattle.dtx_rounds.proofs.FoundFields.{found_field, found_behind}
use Rattle.dtx_rounds.proofs.GroupBytes.{bits_none}
use Rattle.dtx_rounds.proofs.RoundLevels.{after, length-after, same_groups}
use Rattle.dtx_rounds.proofs.RunLevels.{length-bytes}
use Rattle.dtx_rounds.proofs.RunWords.{known_entry, byte_settled, known_byte_same, upto_now, AreThere, known_in_field}
use Rattle.dtx_rounds.proofs.RunWords.{AreSought, upto_before, code_byte_same}

-- ---- a round over what a round gave, under the same pins

segment_twice : (scale : ℕ) (heard given : List (List ℤ)) (known : List (Option ℕ)) (i : ℕ) → AreSegments given
    → i < length given
    → round_segment scale heard known (after scale heard known given) i ≡ round_segment scale heard known given i
unfolding round_segment in_whole_group
segment_twice scale heard given known i long l =
    grind (arith, same_groups, after, length-after, get_or-map-range_with_len, take_at, length-take-le)

pub after_twice : (scale : ℕ) (heard given : List (List ℤ)) (known : List (Option ℕ)) → AreSegments given
    → after scale heard known (after scale heard known given) ≡ after scale heard known given
after_twice scale heard given known long = grind (arith, after, length-after, map-range_same, segment_twice)

rows_long : (given : List (List ℤ)) (f : ℕ) → AreSegments given → AreSegments (rows_of given f)
rows_long given f long i l =
    let many = length-rows given f in
    ap length (row_of given f i (omega (arith, l, many))) ∙ long (313 * f + i) (omega (arith, l, many))

-- ---- the decided field

-- Whether or not its paths are sought again, the field has the segments of a round over it.
pub decided_all : (scale : ℕ) (old new : Field) → IsSettled scale old → IsDecided scale old new
    → decided_rows new ≡ field_rounded scale (heard_rows old) old.known.items (decided_rows old)
decided_all scale old new s d = grind arith

pub cost_all : (scale : ℕ) (old new : Field) → IsSettled scale old → IsDecided scale old new
    → new.cost ≡ field_cost scale (heard_rows old) old.known.items
cost_all scale old new s d = grind arith

heard_decided : (scale : ℕ) (old new : Field) → IsDecided scale old new → heard_rows new ≡ heard_rows old
heard_decided scale old new d = ap₂ (λ n (rows : List (List ℤ)). take n rows) d.count d.heard

-- The field after its round is a field of the run after the round.
pub turned_field : (scale f : ℕ) (heard given : List (List ℤ)) (before now : List ℕ) (old new : Field)
    → AreSegments given → IsInRun scale heard given (codes_upto before now (312 * (f + 1))) f old
    → IsDecided scale old new → IsInRun scale heard (after scale heard (known_bytes now) given) (known_word now) f new
unfolding field_rounded
turned_field scale f heard given before now old new long h d =
    let here : decided_rows new ≡ after scale (rows_of heard f) old.known.items (rows_of given f) =
    decided_all scale old new h.settled d ∙ ap₂ (λ hs gs. after scale hs old.known.items gs) h.heard_are h.decided in
    let rounded : rows_of (after scale heard (known_bytes now) given) f ≡ after scale
    (rows_of heard f) old.known.items (rows_of given f) =
    sym (field_after scale heard given (known_bytes now) old.known.items f
    (λ n l. byte n l ∙ sym (known_entry now (64584 * f + n)))) in
    record {
      count = d.count ∙ h.count
          ∙ sym (ap length rounded ∙ length-after scale (rows_of heard f) (rows_of given f) old.known.items);
      heard_are = heard_decided scale old new d ∙ h.heard_are;
      decided = here ∙ sym rounded;
      known = λ n l. ap (λ (ks : List (Option ℕ)). get_or ks n None) d.known ∙ byte n l
          ∙ sym (known_byte_same now (64584 * f + n));
      words = d.words ∙ h.words ∙ map-range_same (λ k. is_some (codes_upto before now (312 * (f + 1)) (312 * f + k)))
          (λ k. is_some (known_word now (312 * f + k))) 0 312
          (λ k a l. ap is_some (upto_now before now (312 * (f + 1)) (312 * f + k) (omega (arith, l))));
      settled = record {
        segments = λ e.
            ap₂ (λ hs ks. after scale hs ks (decided_rows new)) (heard_decided scale old new d ∙ h.heard_are) d.known
            ∙ ap (after scale (rows_of heard f) old.known.items) here
            ∙ after_twice scale (rows_of heard f) (rows_of given f) old.known.items (rows_long given f long) ∙ sym here;
        cost = λ e. cost_all scale old new h.settled d
            ∙ sym (ap₂ (field_cost scale) (heard_decided scale old new d) d.known);
      };
    }
  where
    byte : (n : ℕ) → n < 64584 → get_or old.known.items n None ≡ known_byte now (64584 * f + n)
    byte n l = h.known n l ∙ byte_settled before now f n l

-- ---- the round of a field

pub rounded_from : (scale f : ℕ) (heard given : List (List ℤ)) (before : List ℕ)
    (held next new new_next : Field) → AreSegments given
    → IsInRun scale heard given (codes_upto before (bytes_in given) (312 * f)) f held
    → AreSought before (bytes_in given) (bytes_there held next) f held.words
    → IsTurned scale held next new new_next → IsRounded scale heard given f new
unfolding rounded
rounded_from scale f heard given before held next new new_next long h s t =
    let found : IsInRun scale heard given (codes_upto before (bytes_in given) (312 * (f + 1))) f t.between =
    found_field scale f heard given before (bytes_in given) (bytes_there held next) held next
    t.between new_next h s t.words in
    let turned : IsInRun scale heard (rounded scale heard given) (known_word (bytes_in given)) f new =
    turned_field scale f heard given before (bytes_in given) t.between new long found t.decided in
    record {
      turned = turned;
      done = t.decided.knows_more;
      cost = cost_all scale t.between new found.settled t.decided
          ∙ ap (λ rows. field_cost scale rows t.between.known.items) found.heard_are
          ∙ field_costs scale heard (known_bytes (bytes_in given)) t.between.known.items f
          (λ n l. found.known n l ∙ byte_settled before (bytes_in given) f n l
          ∙ sym (known_entry (bytes_in given) (64584 * f + n)));
      moved = t.decided.moved ∙ ap₂ rows_moved found.decided turned.decided;
    }

-- ---- its words

pub sought_from : (scale f segments : ℕ) (heard given : List (List ℤ)) (before there : List ℕ) (held : Field)
    → AreSegments given → StayKnown before (bytes_in given)
    → IsInRun scale heard given (codes_upto before (bytes_in given) (312 * f)) f held
    → AreThere f (4 * groups_of given) segments → there ≡ take (207 * segments) (drop (64584 * f) (bytes_in given))
    → AreSought before (bytes_in given) there f held.words
sought_from scale f segments heard given before there held long stays h are e = record {
  stays = stays;
  long = ap length h.words
      ∙ length-map-range_with_len (λ k. is_some (codes_upto before (bytes_in given) (312 * f) (312 * f + k))) 0 312;
  words_are = λ k l. ap (λ (ws : List Bool). get_or ws k false) h.words
      ∙ get_or-map-range_with_len (λ k. is_some (codes_upto before (bytes_in given) (312 * f) (312 * f + k))) 0 312 k k
      false l (omega arith) ∙ ap is_some (upto_before before (bytes_in given) (312 * f) (312 * f + k) (omega arith));
  there_are = λ k l. ap (λ bytes. known_word bytes k) e
      ∙ sym (known_in_field (bytes_in given) f (4 * groups_of given) segments k
      (length-bytes given long ∙ whole (groups_of given)) are l);
}
  where
    whole : (g : ℕ) → 828 * g ≡ 207 * (4 * g)
    whole g = omega arith

-- ---- which segments are there

pub there_next : (n f : ℕ) → 313 * (f + 1) < n → AreThere f (4 * ((n - (n + 312) / 313) / 4))
    ((min 313 (n - 313 * f) - 1) / 4 * 4 + (min 313 (n - 313 * (f + 1)) - 1) / 4 * 4)
there_next n f l = grind (arith, cases_lt)

-- ---- what the groups of a field write

room : (given : List (List ℤ)) (f : ℕ) → 313 * f < length given → 312 * f + whole_in given f ≤ 4 * groups_of given
unfolding groups_of data_count
room given f l = grind (arith, length-rows)

pub written_bytes : (given : List (List ℤ)) (f : ℕ) (field : Field) (last : List ℕ) → AreSegments given
    → 313 * f < length given → field.count ≡ length (rows_of given f)
    → decided_rows field ≡ rows_of given f → precoder_bits_of last ≡ field_bits given f
    → IsWritten field.count field.decided.items last field.bytes.items → take (207 * whole_in given f) (bytes_of field)
    ≡ take (207 * whole_in given f) (drop (64584 * f) (bytes_in given))
written_bytes given f field last long l count rows before written =
    ap (λ n. take (207 * whole_segments n) (bytes_of field)) (sym count) ∙ written.bytes
    ∙ ap₂ (bytes_back 0) before (grind (arith, take-take, levels_rows, length-drop))
    ∙ by_groups ((length (rows_of given f) - 1) / 4) (whole_in given f) (omega arith) (room given f l)
  where
    by_groups : (g n : ℕ) → n ≡ g * 4 → 312 * f + n ≤ 4 * groups_of given
        → bytes_back 0 (field_bits given f) (levels_from given (312 * f) n)
        ≡ take (207 * n) (drop (64584 * f) (bytes_in given))
    by_groups g n e m =
        let segments : n ≡ 4 * g = omega (arith, e) in
        let bytes : 828 * g ≡ 207 * n = omega (arith, e) in
        ap (λ k. bytes_back 0 (field_bits given f) (levels_from given (312 * f) k)) segments
        ∙ sym (grind (arith, bytes_in_field)) ∙ ap (λ k. take k (drop (64584 * f) (bytes_in given))) bytes

-- ---- the first field

same_codes : (scale f : ℕ) (heard given : List (List ℤ)) (codes same : ℕ → Option (List ℕ)) (field : Field)
    → ((k : ℕ) → codes k ≡ same k) → IsInRun scale heard given codes f field → IsInRun scale heard given same f field
same_codes scale f heard given codes same field e h = record {
  count = h.count;
  heard_are = h.heard_are;
  decided = h.decided;
  known = λ n l. h.known n l ∙ code_byte_same codes same (64584 * f + n) (λ valid. e _);
  words = h.words ∙ map-range_same (λ k. is_some (codes (312 * f + k))) (λ k. is_some (same (312 * f + k))) 0 312
      (λ k a b. ap is_some (e (312 * f + k)));
  settled = h.settled;
}

pub held_first : (scale : ℕ) (heard given : List (List ℤ)) (before : List ℕ) (field : Field) → AreSegments given
    → 0 < length given → IsInRun scale heard given (known_word before) 0 field
    → IsWritten field.count field.decided.items (sliced_last (get_or field.decided.items 0 [])) field.bytes.items
    → Holds scale heard given before 0 field
unfolding first_bits levels_from precoder_bits_of
held_first scale heard given before field long some h written = record {
  held = same_codes scale 0 heard given (known_word before) (codes_upto before (bytes_in given) (312 * 0)) field
      (λ k. sym (upto_before before (bytes_in given) (312 * 0) k (omega arith))) h;
  bytes = written_bytes given 0 field (sliced_last (get_or field.decided.items 0 [])) long (omega (arith, some))
      h.count h.decided here written;
}
  where
    here : precoder_bits_of (sliced_last (get_or field.decided.items 0 [])) ≡ field_bits given 0
    here = grind (arith, get_or-take, length-rows, row_of, bits_none, length-map-range_with_len)

-- ---- from a field to the next one

whole_before : (given : List (List ℤ)) (f : ℕ) → 313 * (f + 1) < length given → whole_in given f ≡ 312
whole_before given f l = grind (arith, length-rows)

-- the last segment of a field that isn't the last one
last_is : (given : List (List ℤ)) (f : ℕ) (field : Field) → 313 * (f + 1) < length given
    → field.count ≡ length (rows_of given f) → decided_rows field ≡ rows_of given f
    → get_or field.decided.items 312 [] ≡ data_at given (312 * f + 311)
unfolding data_at
last_is given f field more count rows =
    sym (get_or-take field.count field.decided.items 312 [] (omega (arith, count, length-rows given f, more)))
    ∙ ap (λ (xs : List (List ℤ)). get_or xs 312 []) rows ∙ row_of given f 312 (omega arith)
    ∙ ap (λ n. get_or given n []) (omega arith)

-- the precoder bits behind it
bits_behind : (given : List (List ℤ)) (f : ℕ) (field : Field) → AreSegments given → 313 * (f + 1) < length given
    → field.count ≡ length (rows_of given f) → decided_rows field ≡ rows_of given f
    → precoder_bits_of (sliced_last (get_or field.decided.items 312 [])) ≡ field_bits given (f + 1)
unfolding groups_of data_count
bits_behind given f field long more count rows =
    rw (last_is given f field more count rows, last_bits given f long (omega (arith, more)))

-- the bytes of both fields
join : (own behind all : List ℕ) (f n : ℕ) → length own ≡ 64584
    → take (207 * 312) own ≡ take (207 * 312) (drop (64584 * f) all)
    → take (207 * n) behind ≡ take (207 * n) (drop (64584 * (f + 1)) all)
    → take (207 * (312 + n)) (own ++ behind) ≡ take (207 * (312 + n)) (drop (64584 * f) all)
join own behind all f n long e h =
    let parts : 207 * (312 + n) ≡ 207 * 312 + 207 * n = omega arith in
    let next : 64584 * f + 207 * 312 ≡ 64584 * (f + 1) = omega arith in
    ap (λ m. take m (own ++ behind)) parts ∙ take-add (207 * 312) (207 * n) (own ++ behind)
    ∙ ap₂ (λ (xs ys : List ℕ). xs ++ ys)
    (take_at own behind (207 * 312) long ∙ sym (take_all (207 * 312) own (omega (arith, long))) ∙ e)
    (rw (drop_at own behind (207 * 312) long, h, ← next, ← drop-drop (207 * 312) (64584 * f) all))
    ∙ sym (ap (λ m. take m (drop (64584 * f) all)) parts ∙ take-add (207 * 312) (207 * n) (drop (64584 * f) all))

pub held_next : (scale f : ℕ) (heard given : List (List ℤ)) (before : List ℕ) (held field new new_next : Field)
    → AreSegments given → StayKnown before (bytes_in given) → 313 * (f + 1) < length given
    → Holds scale heard given before f held → IsInRun scale heard given (known_word before) (f + 1) field
    → length (bytes_of held) ≡ 64584
    → IsWritten field.count field.decided.items (sliced_last (get_or held.decided.items 312 [])) field.bytes.items
    → IsTurned scale held field new new_next
    → IsRounded scale heard given f new × Holds scale heard given before (f + 1) new_next
unfolding bytes_there groups_of data_count
held_next scale f heard given before held field new new_next long stays more h k full written t =
    let all : whole_in given f ≡ 312 = whole_before given f more in
    let next : take (207 * whole_in given (f + 1)) (bytes_of field) ≡ take (207 * whole_in given (f + 1))
    (drop (64584 * (f + 1)) (bytes_in given)) =
    written_bytes given (f + 1) field (sliced_last (get_or held.decided.items 312 [])) long more k.count
    k.decided (bits_behind given f held long more h.held.count h.held.decided) written in
    let there_are : bytes_there held field ≡ take (207 * (whole_in given f + whole_in given (f + 1)))
    (drop (64584 * f) (bytes_in given)) =
    ap₂ (λ m n. take (207 * (whole_segments m + whole_segments n)) (bytes_of held ++ bytes_of field))
    h.held.count k.count ∙ ap (λ m. take (207 * (m + whole_in given (f + 1))) (bytes_of held ++ bytes_of field)) all
    ∙ join (bytes_of held) (bytes_of field) (bytes_in given) f (whole_in given (f + 1)) full
    (ap (λ m. take (207 * m) (bytes_of held)) (sym all) ∙ h.bytes
    ∙ ap (λ m. take (207 * m) (drop (64584 * f) (bytes_in given))) all) next
    ∙ ap (λ m. take (207 * (m + whole_in given (f + 1))) (drop (64584 * f) (bytes_in given))) (sym all) in
    let segments : AreThere f (4 * groups_of given) (whole_in given f + whole_in given (f + 1)) =
    subst (λ m. AreThere f (4 * groups_of given) (whole_segments m + whole_in given (f + 1)))
    (sym (length-rows given f)) (subst (λ m. AreThere f (4 * groups_of given)
    (whole_segments (min 313 (length given - 313 * f)) + whole_segments m))
    (sym (length-rows given (f + 1))) (there_next (length given) f more)) in
    let sought : AreSought before (bytes_in given) (bytes_there held field) f held.words =
    sought_from scale f (whole_in given f + whole_in given (f + 1)) heard given before (bytes_there held field)
    held long stays h.held segments there_are in (
      rounded_from scale f heard given before held field new new_next long h.held sought t,
      record {
        held = found_behind scale f heard given before (bytes_in given) (bytes_there held field) held field t.between
            new_next k sought t.words;
        bytes = ap (λ v. take (207 * whole_in given (f + 1)) (flat_map (λ (group : List ℕ). group) v.items))
            t.words.next_rest.bytes ∙ next;
      },
    )

-- ---- the last field

pub held_last : (scale f : ℕ) (heard given : List (List ℤ)) (before : List ℕ) (held field new new_next : Field)
    → AreSegments given → StayKnown before (bytes_in given) → 313 * f < length given → length given ≤ 313 * (f + 1)
    → Holds scale heard given before f held → field.count ≡ 0 → length (bytes_of held) ≡ 64584
    → IsTurned scale held field new new_next → IsRounded scale heard given f new
unfolding bytes_there groups_of data_count
held_last scale f heard given before held field new new_next long stays some most h none full t =
    rounded_from scale f heard given before held field new new_next long h.held
    (sought_from scale f (whole_in given f + whole_segments 0) heard given before (bytes_there held field) held long
    stays h.held segments there_are) t
  where
    few : (n : ℕ) → n ≡ whole_in given f → 207 * (n + 0) ≤ 64584
    few n e = omega (arith, e, length-rows given f)

    there_are : bytes_there held field
        ≡ take (207 * (whole_in given f + whole_segments 0)) (drop (64584 * f) (bytes_in given))
    there_are = grind (arith, take-append-le)

    segments : AreThere f (4 * groups_of given) (whole_in given f + whole_segments 0)
    segments = grind (arith, length-rows)
