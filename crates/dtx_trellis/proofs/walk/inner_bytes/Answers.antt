use Rattle.std.proofs.Common.{◌≡◌, ◌≢◌, ℕ, ◌+◌, ◌*◌, ◌%◌, ◌<◌, ◌↔◌, IsTrue, false, sym, ap, ◌∙◌, subst, arith}
use Rattle.std.proofs.lemmas.Bool.{false≢true}
use Rattle.dtx_trellis.specs.Groups.{sent_place}
use Rattle.dtx_trellis.specs.Lanes.{HoldsStates, turn}
use Rattle.dtx_trellis.proofs.LaneRoundsLemmas.{HoldsBytes, first_turn, inside, inside_turn, loaded_bytes, lower_pairs}
use Rattle.dtx_trellis.proofs.LaneRoundsLemmas.{round_place, stands_next, upper_pairs}
use Rattle.dtx_trellis.proofs.walk.inner_bytes.Goals as goal

-- where the first round of byte h is sent, and the third, within segment g
first_place : (h g : ℕ) → g < 4 → 17 * g < h → h < 17 * (g + 1) → 12 * (4 * h) + 4 * (g + 1) ≡ sent_place (12 * (4 * h))
first_place h g l m n = ap (λ i. 12 * (4 * h) + 4 * (i + 1)) (omega arith) ∙ round_place (4 * h)

third_place : (h g : ℕ) → g < 4 → 17 * g < h → h < 17 * (g + 1)
    → 12 * (4 * h) + 4 * (g + 1) + 24 ≡ sent_place (12 * (4 * h + 2))
third_place h g l m n =
    same ∙ ap (λ i. 12 * (4 * h + 2) + 4 * (i + 1)) (sym (inside h g 2 l m n (omega arith)).0) ∙ round_place (4 * h + 2)
  where
    same : 12 * (4 * h) + 4 * (g + 1) + 24 ≡ 12 * (4 * h + 2) + 4 * (g + 1)
    same = omega arith

-- a round that begins no segment
goes_on : (r : ℕ) → r % 69 ≢ 0 → IsTrue false ↔ (r % 69 ≡ 0)
goes_on r n = (λ t. absurd (false≢true t), λ z. absurd (n z))

pub two_rounds-middle-requires-clause-place : goal.two_rounds-middle-requires-clause-place
two_rounds-middle-requires-clause-place c = omega (arith, c.requires.segment, c.requires.before)

pub two_rounds-requires-clause-place : goal.two_rounds-requires-clause-place
two_rounds-requires-clause-place c = omega (arith, c.requires.segment, c.requires.before)

pub returns-clause-stands : goal.returns-clause-stands
returns-clause-stands c = λ s states in_field stands.
    let h : ℕ = c.args.byte in
    let g : ℕ = c.args.segment in
    let few = c.requires.segment in
    let behind = c.requires.behind in
    let before = c.requires.before in
    let bytes = c.args.bytes.now in
    let loaded = c.load-loaded.result in
    let read = loaded_bytes s h bytes loaded c.load-loaded.ensures.long c.load-loaded.ensures.bytes in
    let first = inside_turn s h g 1 few behind before (omega arith) in
    let second = inside_turn s h g 2 few behind before (omega arith) in
    let middle = c.two_rounds-middle.ensures.coded s (4 * h) states bytes (record {
      first = in_field;
      long = c.told-bytes;
      round = omega (arith, few, before);
      between = goes_on (4 * h + 1) (λ e. omega (arith, few, behind, before));
      at = first_place h g few behind before;
      held = rw (first_turn s h (omega (arith, few, before))) stands.held;
      taken = upper_pairs s h (turn s (4 * h)) bytes loaded c.upper.result read c.upper.ensures.nibbles
          c.upper.ensures.lanes;
      sent = stands.sent;
    }) in
    let last = c.two_rounds.ensures.coded s (4 * h + 2) states bytes (record {
      first = in_field;
      long = c.told-bytes;
      round = omega (arith, few, before);
      between = goes_on (4 * h + 2 + 1) (λ e. omega (arith, few, behind, before));
      at = third_place h g few behind before;
      held = subst (λ x. HoldsStates s states bytes (4 * h + 2) x c.two_rounds-middle.result) (sym first ∙ second)
          middle.0;
      taken = lower_pairs s h (turn s (4 * h + 2)) bytes loaded c.lower.result
          (subst (λ x. HoldsBytes s bytes (4 * h) x loaded) second read) c.lower.ensures.nibbles c.lower.ensures.lanes;
      sent = middle.1;
    }) in
    stands_next s h states bytes c.two_rounds.result c.two_rounds.new.symbols last
