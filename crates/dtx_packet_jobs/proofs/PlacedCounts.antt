-- What is counted while placeholders are put, a packet at a time.
use Rattle.std.proofs.Common.{◌≡◌, ℕ, zero, suc, ◌+◌, ◌*◌, ◌/◌, ◌%◌, ◌≤◌, Bool, true, false, not, ◌&&◌, ◌||◌, ◌==◌, ◌<◌}
use Rattle.std.proofs.Common.{◌^◌, Fits, w64, List, [], ◌∷◌, ◌++◌, length, map, refl, sym, ap, ap₂, ◌∙◌, arith, nat_le}
use Rattle.std.proofs.Common.{inl, inr}
use Rattle.std.specs.Prelude.{if◌then◌else◌, count_by}
use mir.Val.{bool_byte}
use Rattle.std.specs.List.{list_any, range_with_len}
use Rattle.std.proofs.lemmas.Bool.{cases_lt, cases_eq, eq-eqb, ne_eqb, le-leb, lt-leb}
use Rattle.std.proofs.lemmas.List.{length-append}
use Rattle.std.proofs.lemmas.List.FromFn.{sum_by-map-range_with_len_more}
use Rattle.std.proofs.lemmas.List.Sums.{count_by-le-length, sum_by-append}
use Rattle.dtx_adapter.specs.Feed.{is_placeholder}
use Rattle.dtx_packet_jobs.specs.declared.placing.Placing.{Placing}
use Rattle.dtx_packet_jobs.specs.Placing.{IsCounted, closed_fields}
use Rattle.dtx_recipes.specs.Place.{bare_fields, becomes, becoming, behind, is_open, placed, placed_count}
use Rattle.dtx_packets.specs.Packets.{pid_of}
use Rattle.dtx_packet_jobs.proofs.PlacedPackets.{any_more, any_same, behind_none, behind_same, length-placed}
use Rattle.dtx_packet_jobs.proofs.PlacedPackets.{length-scanned, scanned-next}

-- ---- placeholders

abbrev pub one_if : Bool → ℕ
one_if test = if test then 1 else 0

-- what the cast of a test gives
pub one_if_is : (test : Bool) → bool_byte test ≡ one_if test
one_if_is true = refl
one_if_is false = refl

-- where one more fits, it fits with a test
pub fits_with : (n : ℕ) (test : Bool) → n + 1 < 2 ^ 64 → Fits w64 (n + bool_byte test)
fits_with n true small = omega (arith, small)
fits_with n false small = omega (arith, small)

pub placed_count-next : (packets : List (List ℕ)) (packet : List ℕ)
    → placed_count (packets ++ packet ∷ []) ≡ placed_count packets + (if becomes packets packet then 1 else 0)
unfolding placed_count
placed_count-next packets packet = ap (count_by (λ (c : Bool). c)) (scanned-next becomes [] packets packet)
    ∙ grind (arith, sum_by-append, none_more)
  where
    none_more : (n : ℕ) → 0 + n ≡ n
    none_more n = omega arith

pub placed_count-most : (packets : List (List ℕ)) → placed_count packets ≤ length packets
unfolding placed_count
placed_count-most packets =
    omega (arith, count_by-le-length (λ (c : Bool). c) (becoming packets), length-scanned becomes [] packets)

-- ---- fields without one

closed_fields-same : (packets : List (List ℕ)) (packet : List ℕ) (count : ℕ) → 312 * count ≤ length packets
    → closed_fields (packets ++ packet ∷ []) count ≡ closed_fields packets count
closed_fields-same packets packet zero ended = refl
closed_fields-same packets packet (suc f) ended =
    ap₂ (λ (k : ℕ) (rest : List (List ℕ)). k + one_if (not (list_any is_open rest)))
    (closed_fields-same packets packet f (omega (arith, ended))) (behind_same packets packet f (omega (arith, ended)))

pub closed_fields-most : (packets : List (List ℕ)) (count : ℕ) → closed_fields packets count ≤ count
closed_fields-most packets zero = omega arith
closed_fields-most packets (suc f) =
    omega (arith, closed_fields-most packets f, one_most (not (list_any is_open (behind packets f))))
  where
    one_most : (t : Bool) → one_if t ≤ 1
    one_most true = omega arith
    one_most false = omega arith

-- they are left without a placeholder
closed_fields-bare : (packets : List (List ℕ)) (count : ℕ)
    → count_by (λ rest. not (list_any is_placeholder rest)) (map (behind (placed packets)) (range_with_len 0 count))
    ≡ closed_fields packets count
closed_fields-bare packets zero = refl
closed_fields-bare packets (suc f) =
    let more : suc f ≡ f + 1 = omega arith in
    ap (λ (n : ℕ). count_by (λ rest. not (list_any is_placeholder rest))
    (map (behind (placed packets)) (range_with_len 0 n))) more
    ∙ sum_by-map-range_with_len_more (λ (rest : List (List ℕ)). one_if (not (list_any is_placeholder rest)))
    (behind (placed packets)) 0 f f (omega arith)
    ∙ ap₂ (λ (k : ℕ) (t : Bool). k + one_if (not t)) (closed_fields-bare packets f) (any_same packets f)

-- what is counted, and the field that is under way
pub bare_is : (s : Placing) (packets : List (List ℕ)) (units : ℕ) → IsCounted s packets → units ≡ length packets
    → s.bare + bool_byte (not (units % 312 == 0) && not s.found) ≡ bare_fields (placed packets)
unfolding bare_fields
bare_is s packets units counted all =
    grind (arith, cases_eq, length-placed, eq-eqb, closed_fields-bare, ne_eqb, one_if_is)

-- ---- one packet more, at this place of its field

-- whether the field has one in whose place a placeholder may stand
found_next : (packets : List (List ℕ)) (packet : List ℕ) (place : ℕ) → place ≡ length packets % 312
    → list_any is_open (behind (packets ++ packet ∷ []) (length packets / 312))
    ≡ (list_any is_open (behind packets (length packets / 312)) || (nat_le 52 place && is_open packet))
found_next packets packet place at =
    let f = length packets / 312 in
    let any = list_any is_open (behind packets f) in
    elim (cases_lt place 52) [
      | inl early ↦ grind (arith, behind_none, length-append, lt-leb)
      | inr late ↦ any_more is_open packets packet f (omega (arith, at, late)) (omega arith)
          ∙ sym (ap (λ (b : Bool). any || (b && is_open packet)) (le-leb 52 place late))
    ]

-- whether it becomes a placeholder
pub becomes_is : (s : Placing) (packets : List (List ℕ)) (packet : List ℕ) (place pid : ℕ) → IsCounted s packets
    → place ≡ length packets % 312 → pid ≡ pid_of packet
    → becomes packets packet ≡ ((pid == 0x1FFF) && (nat_le 52 place && not s.found))
unfolding becomes
becomes_is s packets packet place pid counted at is = grind arith

-- it is counted; the last one of a field ends it
pub counted-next : (s t : Placing) (packets : List (List ℕ)) (packet : List ℕ) (place : ℕ) (found : Bool)
    → IsCounted s packets → place ≡ length packets % 312 → found ≡ (s.found || (nat_le 52 place && is_open packet))
    → t.placed ≡ s.placed + bool_byte (becomes packets packet)
    → t.bare ≡ s.bare + bool_byte ((place == 311) && not found)
    → t.found ≡ (not (place == 311) && found) → IsCounted t (packets ++ packet ∷ [])
counted-next s t packets packet place found counted at is placed_is bare_is found_is =
    let f = length packets / 312 in
    let all = packets ++ packet ∷ [] in
    let more : length all ≡ length packets + 1 = length-append packets (packet ∷ []) in
    let changed : t.placed ≡ placed_count all = grind (arith, one_if_is, placed_count-next) in
    let any : found ≡ list_any is_open (behind all f) = is
    ∙ ap (λ (b : Bool). b || (nat_le 52 place && is_open packet)) counted.field
    ∙ sym (found_next packets packet place at) in
    let before : s.bare ≡ closed_fields all f = counted.without
    ∙ sym (closed_fields-same packets packet f (omega arith)) in
    elim (cases_eq place 311) [
      | inl ends ↦
          let field : length all / 312 ≡ suc f = omega (arith, more, at, ends) in
          record {
            changed = changed;
            without = bare_is ∙ ap (λ (b : Bool). s.bare + bool_byte (b && not found)) (eq-eqb place 311 ends)
                ∙ ap (λ (m : ℕ). s.bare + m) (one_if_is (not found))
                ∙ ap₂ (λ (k : ℕ) (b : Bool). k + one_if (not b)) before any
                ∙ sym (ap (closed_fields all) field);
            field = found_is ∙ ap (λ (b : Bool). not b && found) (eq-eqb place 311 ends)
                ∙ sym (ap (list_any is_open) (behind_none all (length all / 312) (omega (arith, more, at, ends))));
          }
      | inr going ↦
          let field : length all / 312 ≡ f = omega (arith, more, at, going) in
          record {
            changed = changed;
            without = bare_is ∙ ap (λ (b : Bool). s.bare + bool_byte (b && not found)) (ne_eqb place 311 going)
                ∙ (let e : s.bare + 0 ≡ s.bare = omega arith in e) ∙ before ∙ sym (ap (closed_fields all) field);
            field = found_is ∙ ap (λ (b : Bool). not b && found) (ne_eqb place 311 going) ∙ any
                ∙ sym (ap (λ (g : ℕ). list_any is_open (behind all g)) field);
          }
    ]
