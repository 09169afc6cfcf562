-- What any receiver gives for segments, and what a command makes of a symbol file by it (ATSC A/53 Part 2, the way
-- back).
use Rattle.std.specs.Prelude.{◌≡◌, ℕ, ℤ, true, List, [], ◌∷◌, ◌++◌, length, map, take, drop}
use Rattle.std.specs.List.{flat_map}
use Rattle.dtx_engine.specs.Made.{only, outputs_of}
use Rattle.dtx_engine.specs.Recipe.{Recipe}
use Rattle.dtx_meaning.specs.Meaning.{Meaning}
use Rattle.dtx_meaning.specs.Status.{ended}
use Rattle.dtx_meaning.specs.declared.status.Outcome.{Outcome}
use Rattle.dtx_meaning.specs.declared.status.Status.TheVariants.{NoSync, TooLong}
use Rattle.dtx_receiver.specs.Runs.{runs}
use Rattle.dtx_receiver.specs.declared.batch.Received.{Received}
use Rattle.dtx_sizes.specs.declared.limits.TheConstants.{MOST_SEGMENTS}
use Rattle.dtx_recipes.specs.SymbolFile.{file_segments}
use Rattle.dtx_recipes.specs.Synced.{synced}
use Rattle.dtx_recipes.specs.Tally.{numbers_in, tally_of}

-- What a receiver gives for a list of segments: `so_far` is the packets that it gives while they come. `all` is all
-- their packets, and `packets` is the bytes of each of them.
pub record Giving : Type 0 where
  pub so_far : List (List ℤ) → List Received
  pub all : List (List ℤ) → List Received
  pub packets : List (List ℤ) → List (List ℕ)

-- One segment more, or the end, adds packets behind those that were given before. Where there is no run there is no
-- packet.
pub record IsGiving (giving : Giving) : Type 0 where
  pub none : giving.so_far [] ≡ []
  pub segment : (segments : List (List ℤ)) (x : List ℤ)
      → (brought : List Received) × (giving.so_far (segments ++ x ∷ []) ≡ giving.so_far segments ++ brought)
  pub end : (segments : List (List ℤ))
      → (brought : List Received) × (giving.all segments ≡ giving.so_far segments ++ brought)
  pub packets : (segments : List (List ℤ)) → giving.packets segments ≡ map (λ r. r.packet.0) (giving.all segments)
  pub no_run : (segments : List (List ℤ)) → length (runs segments) ≡ 0 → giving.all segments ≡ []

-- the bytes of packets, one behind the other
abbrev pub bytes_of : List Received → List ℕ
bytes_of packets = flat_map (λ p. p.packet.0) packets

-- the packets of a symbol file, one behind the other
abbrev pub all_bytes : Giving → List ℕ → List ℕ
all_bytes giving file = flat_map (λ p. p) (giving.packets (file_segments file))

-- the packets that are given while its segments come
abbrev pub early_bytes : Giving → List ℕ → List ℕ
early_bytes giving file = bytes_of (giving.so_far (file_segments file))

-- the packets that its end brings
abbrev pub end_bytes : Giving → List ℕ → List ℕ
end_bytes giving file = drop (length (early_bytes giving file)) (all_bytes giving file)

-- the line's numbers for these segments, with `loose` bytes behind them
abbrev pub given_numbers : Giving → List (List ℤ) → ℕ → List ℕ
given_numbers giving list loose = numbers_in (tally_of list (giving.all list)) loose

-- the answer: `NoSync` where there is no run, since no segment looks like a field sync
abbrev pub answer_of : Giving → List (List ℤ) → ℕ → Outcome
answer_of giving list loose = synced (length (runs list)) (given_numbers giving list loose)

-- the recipe
abbrev pub receiving_by : Giving → Recipe
receiving_by giving = record {
  allows = λ _ _. true;
  made = λ bytes. only (early_bytes giving bytes);
  rest = λ bytes. only (end_bytes giving bytes);
  answer = λ bytes loose. answer_of giving (file_segments bytes) loose;
}

-- the answer and the output for all segments of a file, with `loose` bytes behind them
abbrev pub given_of : Giving → List (List ℕ) → List ℕ → ℕ → Meaning
given_of giving names file loose = record {
  outcome = answer_of giving (file_segments file) loose;
  outputs = outputs_of names (only (all_bytes giving file));
}

-- The same for a file of more than MOST_SEGMENTS segments: the answer is `TooLong`. The output is what the first
-- MOST_SEGMENTS segments give while they come.
abbrev pub given_until : Giving → List (List ℕ) → List ℕ → Meaning
given_until giving names file = record {
  outcome = ended TooLong;
  outputs = outputs_of names (only (bytes_of (giving.so_far (take MOST_SEGMENTS (file_segments file)))));
}

-- the same where no segment looks like a field sync: the output is empty
abbrev pub no_sync_in : List (List ℕ) → Meaning
no_sync_in names = record { outcome = ended NoSync; outputs = outputs_of names (only []) }
