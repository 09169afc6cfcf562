-- The numbers of what was received.
use Rattle.std.specs.Prelude.{ℕ, ℤ, ◌+◌, ◌*◌, ◌≤◌, if◌then◌else◌, List, [], ◌∷◌, length}
use Rattle.std.specs.List.{sum_by}
use Rattle.dtx_recipes.specs.declared.tally.Tally.{Tally}
use Rattle.dtx_receiver.specs.Runs.{runs}
use Rattle.dtx_receiver.specs.declared.batch.Received.{Received}

-- how many bytes were put right in the words of packets
abbrev pub fixed_in : List Received → ℕ
fixed_in packets = sum_by (λ p. p.fixed) packets

-- how many packets are flagged: their words had no correction
abbrev pub flagged_in : List Received → ℕ
flagged_in packets = sum_by (λ p. if p.good then 0 else 1) packets

-- the numbers of segments and of packets that they gave
abbrev pub tally_of : List (List ℤ) → List Received → Tally
tally_of segments packets = record {
  segments = length segments;
  runs = length (runs segments);
  packets = length packets;
  fixed = fixed_in packets;
  flagged = flagged_in packets;
}

-- the numbers with these packets more
abbrev pub tally_with : Tally → List Received → Tally
tally_with tally packets = record tally {
  packets = tally.packets + length packets;
  fixed = tally.fixed + fixed_in packets;
  flagged = tally.flagged + flagged_in packets;
}

-- the numbers of the command's line
abbrev pub numbers_in : Tally → ℕ → List ℕ
numbers_in tally loose =
    tally.segments ∷ tally.runs ∷ tally.packets ∷ tally.fixed ∷ tally.flagged ∷ loose ∷ []

-- bounds of the numbers: so many segments give no more
pub record IsBounded (tally : Tally) (segments : ℕ) : Type 0 where
  pub runs : tally.runs ≤ segments
  pub packets : tally.packets ≤ 4 * segments
  pub fixed : tally.fixed ≤ 1020 * segments
  pub flagged : tally.flagged ≤ 4 * segments
