use Rattle.std.proofs.Common.{◌≡◌, ℕ, ◌+◌, ◌-◌, ◌*◌, ◌/◌, ◌%◌, ◌<◌, ◌==◌, ◌↔◌, IsTrue, ap, ◌∙◌, sym, subst, arith}
use Rattle.std.proofs.Common.{rules}
use Rattle.std.proofs.lemmas.Bool.{eq-eqb, eqb-true}
use Rattle.std.proofs.lemmas.Grind.{common_steps}
use Rattle.dtx_trellis.specs.Groups.{sent_place}
use Rattle.dtx_trellis.specs.Lanes.{place_behind, turn}
use Rattle.dtx_trellis.proofs.LaneRoundsLemmas.{first_turn, loaded_bytes, lower_pairs, moved_bytes, moved_states}
use Rattle.dtx_trellis.proofs.LaneRoundsLemmas.{next_sent, round_place, stands_next, upper_pairs}
use Rattle.dtx_trellis.proofs.walk.edge_bytes.Goals as goal

-- the rounds of byte h that begin a segment
second : (h : ℕ) → h < 69 → IsTrue (4 * h + 1 == 69) ↔ ((4 * h + 1) % 69 ≡ 0)
second h l = (λ t. ap (λ n. n % 69) (eqb-true (4 * h + 1) 69 t), λ z. eq-eqb (4 * h + 1) 69 (omega arith))

third : (h : ℕ) → h < 69 → IsTrue (4 * h + 2 == 138) ↔ ((4 * h + 2) % 69 ≡ 0)
third h l = (λ t. ap (λ n. n % 69) (eqb-true (4 * h + 2) 138 t), λ z. eq-eqb (4 * h + 2) 138 (omega arith))

fourth : (h : ℕ) → h < 69 → IsTrue (4 * h + 3 == 207) ↔ ((4 * h + 2 + 1) % 69 ≡ 0)
fourth h l = (λ t. let e = eqb-true (4 * h + 3) 207 t in omega (arith, e), λ z. eq-eqb (4 * h + 3) 207 (omega arith))

-- where its second round is sent, and its third
second_place : (h n : ℕ) → h < 69 → n ≡ place_behind (12 * (4 * h) + 4 * (4 * h / 69 + 1)) (4 * h + 1 == 69)
    → n ≡ sent_place (12 * (4 * h + 1))
second_place h n l e = grind (arith, next_sent, second, round_place)

third_place : (h n m : ℕ) → h < 69 → n ≡ place_behind (12 * (4 * h) + 4 * (4 * h / 69 + 1)) (4 * h + 1 == 69)
    → m ≡ place_behind n (4 * h + 2 == 138) → m ≡ sent_place (12 * (4 * h + 2))
third_place h n m l e f =
    let g : 4 * h + 1 + 1 ≡ 4 * h + 2 = omega arith in
    f ∙ subst (λ r. place_behind n (4 * h + 2 == 138) ≡ sent_place (12 * r)) g
    (next_sent (4 * h + 1) n (4 * h + 2 == 138)
    (subst (λ r. IsTrue (4 * h + 2 == 138) ↔ (r % 69 ≡ 0)) (sym g) (third h l)) (second_place h n l e))

pub two_rounds-middle-requires-clause-place : goal.two_rounds-middle-requires-clause-place
two_rounds-middle-requires-clause-place c = grind (arith, common_steps)

pub two_rounds-requires-clause-lanes : goal.two_rounds-requires-clause-lanes
two_rounds-requires-clause-lanes c = search rules

pub two_rounds-requires-clause-place : goal.two_rounds-requires-clause-place
two_rounds-requires-clause-place c = grind (arith, common_steps)

pub returns-clause-stands : goal.returns-clause-stands
returns-clause-stands c = λ s states in_field stands.
    let h : ℕ = c.args.byte in
    let few = c.requires.byte in
    let bytes = c.args.bytes.now in
    let loaded = c.load-loaded.result in
    let read = loaded_bytes s h bytes loaded c.load-loaded.ensures.long c.load-loaded.ensures.bytes in
    let e : 4 * h ≡ 4 * h + 1 - 1 = omega arith in
    let f : 4 * h + 1 ≡ 4 * h + 2 - 1 = omega arith in
    let middle = c.two_rounds-middle.ensures.coded s (4 * h) states bytes (record {
      first = in_field;
      long = c.told-bytes;
      round = omega (arith, few);
      between = second h few;
      at = round_place (4 * h);
      held = rw (first_turn s h few) stands.held;
      taken = upper_pairs s h (turn s (4 * h)) bytes loaded c.upper-pairs.result read c.upper-pairs.ensures.nibbles
          c.upper-pairs.ensures.lanes;
      sent = stands.sent;
    }) in
    let last = c.two_rounds.ensures.coded s (4 * h + 2) states bytes (record {
      first = in_field;
      long = c.told-bytes;
      round = omega (arith, few);
      between = fourth h few;
      at = third_place h c.next_place.result c.next_place-later.result few c.next_place.ensures
          c.next_place-later.ensures;
      held = moved_states s (4 * h + 2) (4 * h + 2) states bytes c.two_rounds-middle.result c.moved_on-middle.result
          (4 * h + 2 == 138) (omega arith, third h few) c.moved_on-middle.ensures (rw (← f) middle.0);
      taken = lower_pairs s h (turn s (4 * h + 2)) bytes c.moved_on-turned.result c.lower-pairs.result
          (moved_bytes s (4 * h + 2) (4 * h) bytes c.moved_on.result c.moved_on-turned.result (4 * h + 2 == 138)
          (omega arith, third h few) c.moved_on-turned.ensures
          (rw (← f) (moved_bytes s (4 * h + 1) (4 * h) bytes loaded c.moved_on.result (4 * h + 1 == 69)
          (omega arith, second h few) c.moved_on.ensures (rw (← e) read)))) c.lower-pairs.ensures.nibbles
          c.lower-pairs.ensures.lanes;
      sent = middle.1;
    }) in
    stands_next s h states bytes c.two_rounds.result c.two_rounds.new.symbols last
