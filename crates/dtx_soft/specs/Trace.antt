-- The walk along the least paths, from the first symbol to the last.
use Rattle.std.specs.Prelude.{ℕ, ℤ, pos, ◌≡◌, ◌+◌, ◌*◌, ◌/◌, ◌%◌, ◌^◌, ◌<◌, ◌≤◌, ◌+ℤ◌, ◌-ℤ◌, ◌≤ℤ◌, neg_ℤ, ◌==◌, int_lt}
use Rattle.std.specs.Prelude.{if◌then◌else◌, List, slice_index}
use Rattle.dtx_soft.specs.declared.gaps.Gap.{Gap}
use Rattle.dtx_soft.specs.declared.trace.Stand.{Stand}
use Rattle.dtx_soft.specs.declared.trace.Stands.{Stands}
use Rattle.dtx_soft.specs.Gaps.{HasGaps}
use Rattle.dtx_soft.specs.Paths.{squared}

-- which pair of levels the marks give for a state
abbrev pub pair_of : ℕ → ℕ → ℕ → ℕ
pair_of marks q1 q0 = marks / 2 ^ (2 * q1 + q0) % 2

-- The symbol in the midst of the two levels of pair q1 + 2 * pair.
abbrev pub low_limit : ℕ → ℕ → ℤ
low_limit scale pair = if pair == 0 then neg_ℤ (pos (3 * scale)) else pos scale

abbrev pub shift_of : ℕ → ℕ → ℤ
shift_of scale q1 = if q1 == 0 then pos 0 else pos (2 * scale)

abbrev pub limit_of : ℕ → ℕ → ℕ → ℤ
limit_of scale q1 pair = low_limit scale pair +ℤ shift_of scale q1

-- the symbol of the pair's nearer level
abbrev pub nearer_symbol : ℕ → ℤ → ℕ → ℕ → ℤ
nearer_symbol scale symbol q1 pair =
    if int_lt (limit_of scale q1 pair) symbol then limit_of scale q1 pair +ℤ pos (4 * scale)
    else limit_of scale q1 pair -ℤ pos (4 * scale)

pub record IsStand (stand : Stand) : Type 0 where
  pub q1 : stand.q1 < 2
  pub q0 : stand.q0 < 2
  pub cost : stand.cost ≤ 64516 * 21527

-- one symbol further: the state that the pair leads to, and the symbol of its nearer level
pub record IsNext (scale : ℕ) (symbol : ℤ) (marks : ℕ) (old new : Stand) (written : ℤ) : Type 0 where
  pub from : pos 0 ≤ℤ (symbol +ℤ pos 128)
  pub to : symbol ≤ℤ pos 127
  pub q1 : new.q1 ≡ (pair_of marks old.q1 old.q0 + old.q0) % 2
  pub q0 : new.q0 ≡ old.q1
  pub written_is : written ≡ nearer_symbol scale symbol old.q1 (pair_of marks old.q1 old.q0)
  pub cost : new.cost ≡ old.cost + squared symbol written
  pub small : squared symbol written ≤ 64516

-- one symbol further, with the cost left as it was
pub record IsMoved (scale : ℕ) (symbol : ℤ) (marks : ℕ) (old new : Stand) (written : ℤ) : Type 0 where
  pub q1 : new.q1 ≡ (pair_of marks old.q1 old.q0 + old.q0) % 2
  pub q0 : new.q0 ≡ old.q1
  pub written_is : written ≡ nearer_symbol scale symbol old.q1 (pair_of marks old.q1 old.q0)
  pub from : pos 0 ≤ℤ (written +ℤ pos 126)
  pub to : written ≤ℤ pos 126
  pub cost : new.cost ≡ old.cost

-- the state of least cost, the first of several
pub record IsStart (gap : Gap ℤ) (stand : Stand) : Type 0 where
  pub q1 : stand.q1 < 2
  pub q0 : stand.q0 < 2
  pub cost : stand.cost ≡ 0
  pub least : (scale : ℕ) (costs : List ℕ) → HasGaps scale costs gap → (s : ℕ) → s < 4
      → slice_index costs (2 * stand.q1 + stand.q0) ≤ slice_index costs s
  pub first : (scale : ℕ) (costs : List ℕ) → HasGaps scale costs gap → (s : ℕ) → s < 4
      → slice_index costs s ≡ slice_index costs (2 * stand.q1 + stand.q0) → 2 * stand.q1 + stand.q0 ≤ s

-- the state and the cost so far of one lane's path
abbrev pub stand_at : Stands → ℕ → Stand
stand_at stands n = record {
  q1 = slice_index stands.q1 n;
  q0 = slice_index stands.q0 n;
  cost = slice_index stands.cost n;
}
