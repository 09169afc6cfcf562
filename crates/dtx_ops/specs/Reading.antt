-- What a packet reads as (the profile's own).
use Rattle.std.specs.Prelude.{◌≡◌, ℕ, List, [], Option, Some, None, unwrap_or, Result, Ok, Err, drop, take, ◌*◌, ◌%◌}
use Rattle.std.specs.Prelude.{◌==◌, not, nat_le, nat_lt, Bool, false, ◌&&◌, ◌||◌, if◌then◌else◌, is_none, ◌∷◌, ◌++◌}
use Rattle.std.specs.Prelude.{option_map, slice_index}
use Rattle.dtx_laws.specs.Codeword.{IsCorrection}
use Rattle.dtx_packets.specs.Packets.{pid_of}
use Rattle.dtx_ops.specs.declared.fields.Ops.{Ops}
use Rattle.dtx_ops.specs.declared.refusal.OpsNo.{OpsNo}
use Rattle.dtx_ops.specs.Fields.{fields, stamp_in, max_delay_in, index_in, paging_in, count_in, behind_count}
use Rattle.dtx_ops.specs.Fields.{entries_in}
use Rattle.dtx_ops.specs.Spelling.{IsValid, data_of}
use Rattle.std.specs.List.{list_all}
use Rattle.dtx_laws.specs.Words.{correction}
use Rattle.dtx_ops.specs.declared.fields.Entry.{Entry}
use Rattle.dtx_ops.specs.declared.paging.Paging.{Paging}
use Rattle.dtx_ops.specs.declared.refusal.OpsNo.TheVariants.{NotOps, Uncorrectable, Kind, Pad, Stamp, Delay, Index}
use Rattle.dtx_ops.specs.declared.refusal.OpsNo.TheVariants.{Page, Count, Twice, Fill}
use Rattle.dtx_ops.specs.Paging.{page_of, pages_of, most_of}

-- the first rule that holds
abbrev pub first : List (Bool × OpsNo) → Option OpsNo
first [] = None
first (rule ∷ rules) = if rule.0 then Some rule.1 else first rules

-- one of the entries has the address
abbrev pub is_among : ℕ → List Entry → Bool
is_among address [] = false
is_among address (e ∷ es) = e.address == address || is_among address es

-- two of the entries have one address
abbrev pub has_twice : List Entry → Bool
has_twice [] = false
has_twice (e ∷ es) = is_among e.address es || has_twice es

-- the rules on the data before the page: the kind is 1 or 2, the bits behind the states are 0, and the numbers are in
-- range
unfoldable pub head_rules : List ℕ → List (Bool × OpsNo)
head_rules bytes =
    ((not (slice_index bytes 0 == 1) && not (slice_index bytes 0 == 2), Kind)
    ∷ (not (slice_index bytes 5 % 16 == 0), Pad)
    ∷ (nat_le 10000000 (stamp_in bytes), Stamp)
    ∷ (nat_le 10000000 (max_delay_in bytes), Delay)
    ∷ (nat_le 624 (index_in bytes), Index)
    ∷ [])

-- The rules on the page and the count of entries. There are at most 30 pages. The page is below the number of pages,
-- which therefore isn't 0. The entries are not too many. The only page is page 0 of 1.
abbrev pub page_rules : Paging → ℕ → List (Bool × OpsNo)
page_rules paging count =
    ((nat_lt 30 (pages_of paging) || nat_le (pages_of paging) (page_of paging), Page)
    ∷ (nat_lt (most_of paging) count, Count)
    ∷ [])

-- the rules on the entries and the bytes behind them: the addresses differ, and the bytes are 00
abbrev pub rest_rules : List Entry → List ℕ → List (Bool × OpsNo)
rest_rules entries rest =
    ((has_twice entries, Twice)
    ∷ (not (list_all (λ byte. byte == 0) rest), Fill)
    ∷ [])

-- the rules on the data
unfoldable pub data_rules : List ℕ → List (Bool × OpsNo)
data_rules bytes =
    head_rules bytes ++ (page_rules (paging_in bytes) (count_in bytes)
    ++ rest_rules (entries_in (count_in bytes) (behind_count bytes)) (drop (4 * count_in bytes) (behind_count bytes)))

-- the corrected data of a packet, where its payload has a correction
unfoldable pub corrected : List ℕ → Option (List ℕ)
corrected packet = option_map (λ code. take 164 code) (correction 184 164 (drop 4 packet))

-- all eleven rules: the packet identifier is 0x1FFA, the payload has a correction, and then those on the corrected data
unfoldable pub rules : List ℕ → List (Bool × OpsNo)
rules packet =
    ((not (pid_of packet == 0x1FFA), NotOps)
    ∷ (is_none (corrected packet), Uncorrectable)
    ∷ data_rules (unwrap_or (corrected packet) []))

-- the fields, or else the refusal
abbrev pub unless : Option OpsNo → Ops → Result Ops OpsNo
unless None f = Ok f
unless (Some refusal) f = Err refusal

-- what data read as
unfoldable pub data_reading : List ℕ → Result Ops OpsNo
data_reading bytes = unless (first (data_rules bytes)) (fields bytes)

-- what a packet reads as: the fields in its corrected data, or else the refusal of the first rule that holds
unfoldable pub reading : List ℕ → Result Ops OpsNo
reading packet = unless (first (rules packet)) (fields (unwrap_or (corrected packet) []))

-- A packet reads as these fields. They are valid, it has the packet identifier of operations packets, and the data of
-- its payload's correction spell them.
pub record ReadsAs (packet : List ℕ) (f : Ops) : Type 0 where
  pub valid : IsValid f
  pub pid : pid_of packet ≡ 0x1FFA
  pub code : List ℕ
  pub correction : IsCorrection 184 164 (drop 4 packet) code
  pub spelled : take 164 code ≡ data_of f
