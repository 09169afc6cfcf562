use Rattle.std.proofs.Common.{◌≡◌, ℕ, zero, suc, ◌+◌, ◌/◌, ◌%◌, ◌<◌, List, [], ◌∷◌, get_or, refl, ap, ◌∙◌, arith}
use Rattle.dtx_trellis.specs.Trellis.{pair_in}
use Rattle.dtx_rounds.proofs.PinRows.{four_rows}
use Rattle.dtx_rounds.proofs.pins.put_pairs.Goals as goal

-- the four divisors bring out the four pairs
pair_0 : (b : ℕ) → b / 64 % 4 ≡ pair_in b 0
unfolding pair_in
pair_0 b = refl

pair_1 : (b : ℕ) → b / 16 % 4 ≡ pair_in b 1
unfolding pair_in
pair_1 b = refl

pair_2 : (b : ℕ) → b / 4 % 4 ≡ pair_in b 2
unfolding pair_in
pair_2 b = refl

pair_3 : (b : ℕ) → b / 1 % 4 ≡ pair_in b 3
unfolding pair_in
pair_3 b = refl

pub returns-clause-pins : goal.returns-clause-pins
returns-clause-pins c =
    λ i e l m. ap (λ (rows : List (List ℕ)). get_or (get_or rows i []) e 0)
    (four_rows c.args.pins.now c.pairs.result c.pairs-2.result c.pairs-3.result c.pairs-4.result c.requires.room)
    ∙ by_row i e l m
  where
    own : ℕ → ℕ → ℕ
    own i e = pair_in (get_or c.args.bytes.now e 0) i + get_or c.args.unknown.now e 0

    by_pair : (e : ℕ) {x y : ℕ} → x ≡ y → x + get_or c.args.unknown.now e 0 ≡ y + get_or c.args.unknown.now e 0
    by_pair e h = ap (λ n. n + get_or c.args.unknown.now e 0) h

    by_row : (i e : ℕ) → i < 4 → e < 12
        → get_or (get_or (c.pairs.result ∷ c.pairs-2.result ∷ c.pairs-3.result ∷ c.pairs-4.result ∷ []) i []) e 0
        ≡ own i e
    by_row zero e l m = c.pairs.ensures e m ∙ by_pair e (pair_0 (get_or c.args.bytes.now e 0))
    by_row (suc zero) e l m = c.pairs-2.ensures e m ∙ by_pair e (pair_1 (get_or c.args.bytes.now e 0))
    by_row (suc (suc zero)) e l m = c.pairs-3.ensures e m ∙ by_pair e (pair_2 (get_or c.args.bytes.now e 0))
    by_row (suc (suc (suc zero))) e l m = c.pairs-4.ensures e m ∙ by_pair e (pair_3 (get_or c.args.bytes.now e 0))
    by_row (suc (suc (suc (suc i)))) e l m = absurd (omega arith)
