-- A repeater hears what is sent, undamaged: its field syncs have few wrong signs.
use Rattle.std.proofs.Common.{◌≡◌, ℕ, ℤ, ◌+◌, ◌-◌, ◌*◌, ◌/◌, ◌%◌, ◌<◌, ◌≤◌, ◌==◌, Bool, true, false, List, [], length}
use Rattle.std.proofs.Common.{drop, get_or, ap, ◌∙◌, arith}
use Rattle.std.specs.Prelude.{nat_le, slice_range}
use Rattle.std.proofs.lemmas.Bool.{cases_eq, eq-eqb, ne_eqb, le-leb, lt-leb, leb-true, leb-false}
use Rattle.std.proofs.lemmas.List.{get_or-drop, get_or-take, length-drop, length-take}
use Rattle.dtx_frame.proofs.AlikeLemmas.{second_told}
use Rattle.dtx_frame.specs.Detection.{looks_second, opposites}
use Rattle.dtx_frame.specs.Segments.{field_sync}
use Rattle.dtx_coder.specs.Stream.{a53, last_before}
use Rattle.dtx_coder.proofs.CountsLemmas.{length-a53}
use Rattle.dtx_chain.specs.Damage.{to_sync, packet_behind}
use Rattle.dtx_chain.proofs.PlacesLemmas.{sync_at}
use Rattle.dtx_chain.proofs.SlightLemmas.{sync_first}
use Rattle.dtx_repeat.specs.Marks.{wrong_signs}
use Rattle.dtx_gap_filler.specs.Heard.{first_sync}

-- a field sync as it is sent has few wrong signs for its own field
few_by : (second : Bool) (segment : List ℤ) → looks_second segment ≡ second → wrong_signs second segment ≤ 31
unfolding looks_second
few_by true segment e = let l : 32 ≤ opposites segment = leb-true 32 (opposites segment) e in omega (arith, l)
few_by false segment e = let l : opposites segment < 32 = leb-false 32 (opposites segment) e in omega (arith, l)

-- the field that begins behind it
second_is : (q : ℕ) → nat_le 312 (4 * (78 * q) % 624) ≡ (312 * q % 624 == 312)
second_is q = grind (arith, cases_eq, le-leb, eq-eqb, lt-leb, ne_eqb)

-- the first field sync among the segments from one on
there : (ps : List (List ℕ)) (first end : ℕ) → to_sync first < length (slice_range (a53 ps) first end)
    → first_sync first (slice_range (a53 ps) first end)
    ≡ field_sync (nat_le 312 (4 * (78 * ((first + to_sync first) / 313)) % 624))
    (last_before ps (78 * ((first + to_sync first) / 313)))
there ps first end l = get_or-take (end - first) (drop first (a53 ps)) (to_sync first) [] (omega (arith, small))
    ∙ get_or-drop first (a53 ps) (to_sync first) [] ∙ ap (λ i. get_or (a53 ps) i []) (grind (arith, place, sync_first))
    ∙ sync_at ps (78 * ((first + to_sync first) / 313))
    (within (first + to_sync first) (length ps / 4) (omega (arith, small, length-a53 ps))) (omega arith)
  where
    small : (to_sync first < end - first) × (first + to_sync first < length (a53 ps))
    small = grind (arith, length-take, length-drop)

    place : (n : ℕ) → n % 313 ≡ 0 → n ≡ 4 * (78 * (n / 313)) + (78 * (n / 313) + 77) / 78
    place n z = omega (arith, z)

    within : (n u : ℕ) → n < 4 * u + (u + 77) / 78 → 78 * (n / 313) < u
    within n u h = omega (arith, h)

pub few_as_sent : (ps : List (List ℕ)) (first end : ℕ) → to_sync first < length (slice_range (a53 ps) first end)
    → wrong_signs (packet_behind first % 624 == 312) (first_sync first (slice_range (a53 ps) first end)) ≤ 31
unfolding packet_behind
few_as_sent ps first end l = grind (arith, few_by, there, second_told, second_is)
