use Rattle.std.proofs.Common.{◌≡◌, ℕ, ◌+◌, ◌-◌, ◌%◌, ◌<◌, None, List, take, drop, get_or, ap, ap₂, ◌∙◌, arith}
use Rattle.dtx_trellis.specs.Trellis.{pair_in}
use Rattle.dtx_rounds.proofs.PinRows.{part_byte, pin_parts}
use Rattle.dtx_rounds.proofs.pins.put_row.Goals as goal

pub returns-clause-pins : goal.returns-clause-pins
returns-clause-pins c =
    λ i e l m. c.put_pairs.ensures.pins i e l m
    ∙ ap₂ (λ x y. pair_in x i + y)
    (turned c.read_known.new.bytes c.twice.result c.twice.ensures e m
    ∙ c.read_known.ensures.bytes (source e) (within e))
    (turned c.read_known.new.unknown c.twice-2.result c.twice-2.ensures e m
    ∙ c.read_known.ensures.unknown (source e) (within e))
    ∙ pin_parts i l (get_or c.args.known.now (source e) None)
  where
    first : ℕ
    first = 12 - c.args.turn

    source : ℕ → ℕ
    source e = (e + 12 - c.args.turn) % 12

    within : (e : ℕ) → source e < 12
    within e = omega arith

    turned : (row both : List ℕ) → ((n : ℕ) → n < 24 → get_or both n 0 ≡ get_or row (n % 12) 0) → (e : ℕ) → e < 12
        → get_or (take (first + 12 - first) (drop first both)) e 0 ≡ get_or row (source e) 0
    turned row both each e m =
        let here : first + e ≡ e + 12 - c.args.turn = omega (arith, c.requires.turn) in
        part_byte first (first + 12 - first) e both (omega (arith, m))
        ∙ each (first + e) (omega (arith, m, c.requires.turn)) ∙ ap (λ n. get_or row (n % 12) 0) here
