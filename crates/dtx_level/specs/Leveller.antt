-- What a leveller holds of the symbols that were given to it.
use Rattle.std.specs.Prelude.{ℕ, ℤ, pos, ◌≡◌, ◌+◌, ◌-◌, ◌<◌, ◌==◌, ◌||◌, Bool, true, false, if◌then◌else◌, Option, Some}
use Rattle.std.specs.Prelude.{None, IfSome, List, [], ◌∷◌, ◌++◌, length, map, take, drop, replicate}
use Rattle.dtx_level.specs.declared.measure.Measure.{Measure}
use Rattle.dtx_level.specs.declared.step.Step.{Step}
use Rattle.dtx_level.specs.Shown.{least_shown, shows}
use Rattle.dtx_level.specs.Syncs.{slip_behind, slips}
use Rattle.dtx_level.specs.Levelled.{By, by_sync, last_of, level, levelled_behind, nothing}
use Rattle.dtx_level.specs.Measures.{later_by, measure_at, measures_where}

-- a leveller
pub record Holding : Type 0 where
  -- the symbols that it holds
  pub held : List ℤ
  -- whether a sync is known to stand in front of them
  pub on : Bool
  -- the gain and constant by which they are levelled up to the next sync
  pub by : By
  -- how many symbols were let go where no sync was found yet
  pub silent : ℕ
  -- the zeros and then the symbols that it gave last, and the sync that it measured last
  pub zeros : ℕ
  pub given : List ℤ
  pub measured : Option Measure
  -- how many symbols were given to it
  pub symbols : ℕ
  -- how many syncs it measured, how many of them are slips, and the place of the last
  pub syncs : ℕ
  pub slips : ℕ
  pub last : ℕ

-- all symbols that it gave last: zeros, and those behind them
abbrev pub all_given : Holding → List ℤ
all_given holding = replicate holding.zeros (pos 0) ++ holding.given

-- the measure as a list of none or one
abbrev pub as_list : Option Measure → List Measure
as_list None = []
as_list (Some measure) = measure ∷ []

-- the measures where they are wanted, else none
abbrev pub where_wanted : Bool → List Measure → List Measure
where_wanted wanted told = if wanted then told else []

-- the places of syncs
abbrev pub places_of : List Measure → List ℕ
places_of told = map (λ measure. measure.place) told

-- whether there are any measures
abbrev pub are_some : List Measure → Bool
are_some [] = false
are_some (measure ∷ told) = true

-- the numbers are those of the syncs at these places: how many there are, how many are slips, and the place of the last
pub record IsTally (syncs slips_ last : ℕ) (places : List ℕ) : Type 0 where
  pub syncs_are : syncs ≡ length places
  pub slips_are : slips_ ≡ slips places
  pub last_is : IfSome (last_of places) (λ place. last ≡ place)

-- What the leveller has done with `symbols`, and what is left to do. `told` are the syncs that were measured. `done` is
-- what the symbols became that were let go. Whatever follows, the other syncs are those of the held symbols and of what
-- follows, later by the number of symbols that were let go. The other symbols become what the held ones and those that
-- follow become.
pub record Leaves (holding : Holding) (symbols done : List ℤ) (told : List Measure) : Type 0 where
  pub measures : (wanted : Bool → Bool) (more : List ℤ) → measures_where wanted (symbols ++ more)
      ≡ where_wanted (wanted true) told
      ++ map (later_by (length done)) (measures_where wanted (holding.held ++ more))
  pub levelled : (more : List ℤ) → levelled_behind nothing (symbols ++ more)
      ≡ done ++ levelled_behind holding.by (holding.held ++ more)
  pub symbols_are : holding.symbols ≡ length symbols
  pub long : length done + length holding.held ≡ length symbols
  pub begun_is : holding.by.begun ≡ are_some told
  pub tally : IsTally holding.syncs holding.slips holding.last (places_of told)
  pub silence : holding.on ≡ false → holding.by.begun ≡ false → done ≡ replicate holding.silent (pos 0)

-- The part of `done` that was given: nothing before the first sync is found.
abbrev pub shown : Holding → List ℤ → List ℤ
shown holding done = if holding.on || holding.by.begun then done else []

-- These symbols were given to the leveller. It holds less than one field and one segment, and less than one segment
-- where no sync is in front.
pub record StandsFor (holding : Holding) (symbols : List ℤ) : Type 0 where
  pub few : length holding.held < 261248
  pub off : holding.on ≡ false → length holding.held < 832
  pub rest : holding.on ≡ false → holding.by.begun ≡ true → length holding.held ≡ 831
  pub front : holding.on ≡ true → shows holding.held 0 ≡ true
  pub done : List ℤ
  pub told : List Measure
  pub leaves : Leaves holding symbols done told

-- ---- what each part of a call makes of a leveller

-- What an earlier call gave is forgotten.
abbrev pub cleared : Holding → Holding
cleared h = record h { zeros = 0; given = []; measured = None }

-- More symbols are held.
abbrev pub fed : Holding → List ℤ → Holding
fed h more = record h { held = h.held ++ more; symbols = h.symbols + length more }

-- The symbols before a sync are given. Before the first sync they are zeros, and so are those that went earlier.
abbrev pub found : Holding → ℕ → Holding
found h place = record h {
  held = drop place h.held;
  on = true;
  zeros = if h.by.begun then 0 else h.silent;
  given = map (level h.by) (take place h.held);
}

-- Symbols go at which no sync begins. They are given if a sync was before them, else counted.
abbrev pub passed : Holding → ℕ → Holding
passed h count = record h {
  held = drop count h.held;
  silent = if h.by.begun then h.silent else h.silent + count;
  given = if h.by.begun then map (level h.by) (take count h.held) else h.given;
}

-- The least place that shows a sync is found. Where there is none, all symbols go but the last 831, at which a sync may
-- begin.
abbrev pub sought_at : Holding → Option ℕ → Holding
sought_at h None = passed h (length h.held - 831)
sought_at h (Some place) = found h place

-- A sync is sought unless one is in front.
unfoldable pub sought : Holding → Holding
sought h = if h.on then h else sought_at h (least_shown h.held 0)

-- How many symbols a sync levels, and whether the next sync is behind them. That one is at the least place that shows
-- one. Where there is none, the sync levels all symbols of a field but the last 831.
abbrev pub step_to : Option ℕ → Step
step_to None = record { count = 260417; on = false }
step_to (Some place) = record { count = place; on = true }

-- Where the due place shows a sync, the next one is there. Else it is behind this sync's segment.
unfoldable pub step_at : List ℤ → Step
step_at symbols = if shows symbols 260416 then step_to (Some 260416) else step_to (least_shown symbols 832)

-- 1 where a sync at a place is a slip behind `syncs` others of which the last is at place `last`
abbrev pub slip_after : ℕ → ℕ → ℕ → ℕ
slip_after syncs last place = if syncs == 0 then 0 else slip_behind (Some last) place

-- The sync in front is measured, and levels the symbols of its step, which are given.
abbrev pub stretched : Holding → Step → Holding
stretched h step = record h {
  held = drop step.count h.held;
  on = step.on;
  by = by_sync h.held 0;
  given = map (level (by_sync h.held 0)) (take step.count h.held);
  measured = Some (later_by (h.symbols - length h.held) (measure_at h.held 0));
  syncs = h.syncs + 1;
  slips = h.slips + slip_after h.syncs h.last (h.symbols - length h.held);
  last = h.symbols - length h.held;
}

-- The sync in front levels what is held once its next sync can be looked for.
unfoldable pub settled : Holding → Holding
settled h = if h.on then (if length h.held == 261248 then stretched h (step_at h.held) else h) else h

-- What the end of the symbols makes of it.
unfoldable pub closed : Holding → Holding
closed h = if h.on then stretched h (record { count = length h.held; on = false })
    else if h.by.begun then record h {
      held = drop (length h.held) h.held;
      given = map (level h.by) (take (length h.held) h.held);
    }
    else h

-- What becomes of it where so many more symbols are taken.
abbrev pub taken : Holding → List ℤ → Holding
taken h more = settled (sought (fed (cleared h) more))
