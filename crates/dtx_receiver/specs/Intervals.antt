-- Runs as intervals of a list of segments: the place of the first segment, and how many there are. The definitions say
-- which intervals are runs, and which are all of them. They don't follow the steps of the search.
use Rattle.std.specs.Prelude.{ℕ, ℤ, ◌≡◌, ◌+◌, ◌%◌, ◌<◌, ◌≤◌, ◌⊎◌, Bool, true, false, List, [], ◌∷◌, length}
use Rattle.std.specs.Prelude.{slice_index_or, slice_range}
use Rattle.dtx_frame.specs.Detection.{looks_like}

-- whether segment i of a list looks like a field sync
abbrev pub looks_at : List (List ℤ) → ℕ → Bool
looks_at segments i = looks_like (slice_index_or segments i [])

-- No segment from one place up to another looks like a field sync.
abbrev pub NoneLooks : List (List ℤ) → ℕ → ℕ → Type 0
NoneLooks segments a b = (i : ℕ) → a ≤ i → i < b → looks_at segments i ≡ false

-- A run of n segments. Each 313th of them, from the first on, looks like a field sync. It ends with the list, or before
-- a segment at which a field sync is due and which doesn't look like one.
pub record IsRun (segments : List (List ℤ)) (first n : ℕ) : Type 0 where
  pub some : 0 < n
  pub within : first + n ≤ length segments
  pub syncs : (j : ℕ) → j < n → j % 313 ≡ 0 → looks_at segments (first + j) ≡ true
  pub ends : (first + n ≡ length segments) ⊎ ((first + n < length segments) × (n % 313 ≡ 0)
      × (looks_at segments (first + n) ≡ false))

-- The intervals are the runs from a place on, all of them. Each run begins with the first segment that looks like a
-- field sync. The search goes on after the segment that ended the run, so that segment begins no run.
abbrev pub AreRuns : List (List ℤ) → ℕ → List (ℕ × ℕ) → Type 0
AreRuns segments from [] = NoneLooks segments from (length segments)
AreRuns segments from (p ∷ ps) = (from ≤ p.0) × NoneLooks segments from p.0 × IsRun segments p.0 p.1
    × AreRuns segments (p.0 + p.1 + 1) ps

-- the segments of an interval
abbrev pub segments_in : List (List ℤ) → ℕ × ℕ → List (List ℤ)
segments_in segments p = slice_range segments p.0 (p.0 + p.1)
