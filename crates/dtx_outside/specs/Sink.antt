-- What a call of a sink does to the bytes written so far, and to the sink's counts.
use Rattle.std.specs.Prelude.{◌≡◌, ℕ, ◌≤◌, List, ◌++◌, length, take, Option, Result, Ok, Err, refl}
use Rattle.std.specs.Coded.{Coded, code_by, coded×, coded_ℕ}
use Rattle.std.specs.Option.{option_map}
use Rattle.dtx_outside.specs.Counts.{Rose}
use Rattle.dtx_outside.specs.Refusals.{raised}
use Rattle.dtx_outside.specs.declared.sink.SinkNo.{SinkNo}
use Rattle.dtx_outside.specs.declared.sink.SinkNo.TheVariants.{Failed, Memory}

-- how often printing failed, and how often it lacked memory
pub record SinkCounts : Type 0 where
  pub faults : ℕ
  pub shortages : ℕ

-- the counts as a value that contracts can see: a pair of numbers
abbrev pub sink_counts_code : Coded SinkCounts
sink_counts_code =
    code_by (ℕ × ℕ) (coded× coded_ℕ coded_ℕ) (λ c. (c.faults, c.shortages))
    (λ p. record { faults = p.0; shortages = p.1 }) (λ _. refl)

-- nothing was refused yet
abbrev pub no_sink_counts : SinkCounts
no_sink_counts = record { faults = 0; shortages = 0 }

-- The bytes written after a `write` with this result, if they are told. After `Failed` a prefix may have been written.
-- After `Memory` nothing was.
abbrev pub IsPrinted : List ℕ → Option (List ℕ) → Result ℕ SinkNo → Option (List ℕ) → Type 0
IsPrinted bytes old (Ok n) new = new ≡ option_map (λ before. before ++ take n bytes) old
IsPrinted bytes old (Err Failed) new =
    (n : ℕ) × (n ≤ length bytes) × (new ≡ option_map (λ before. before ++ take n bytes) old)
IsPrinted bytes old (Err Memory) new = new ≡ old

-- the count of this refusal has risen, and the other one is unchanged; if nothing was refused, both are
abbrev pub HasRisenBy : {T : Type 0} → Result T SinkNo → SinkCounts → SinkCounts → Type 0
HasRisenBy (Ok _) before now = now ≡ before
HasRisenBy (Err Failed) before now = Rose before.faults now.faults × (now.shortages ≡ before.shortages)
HasRisenBy (Err Memory) before now = Rose before.shortages now.shortages × (now.faults ≡ before.faults)

-- the counts after a result: none falls, and only the count of the refusal rises
pub record IsCounted {T : Type 0} (before : SinkCounts) (result : Result T SinkNo) (now : SinkCounts) : Type 0 where
  pub faults : before.faults ≤ now.faults
  pub shortages : before.shortages ≤ now.shortages
  pub risen : HasRisenBy result before now

-- the counts after a `write` with this result
abbrev pub counts_printed : Result ℕ SinkNo → SinkCounts → SinkCounts
counts_printed (Ok _) old = old
counts_printed (Err Failed) old = record old { faults = raised old.faults }
counts_printed (Err Memory) old = record old { shortages = raised old.shortages }
