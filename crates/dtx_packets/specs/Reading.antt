-- The state of a reader of packets, and what it answers next.
use Rattle.std.specs.Prelude.{◌≡◌, ℕ, ◌+◌, ◌-◌, ◌*◌, ◌/◌, ◌<◌, ◌≤◌, min, List, length, take, drop, map}
use Rattle.std.specs.Prelude.{Option, Some, None, Result, Ok, Err, IsSomeAnd, IfOk, OnErr, IsErrOf}
use Rattle.dtx_sizes.specs.declared.packets.TheConstants.{PACKET}
use Rattle.dtx_packets.specs.declared.packet.Packet.{Packet}
use Rattle.dtx_packets.specs.declared.refusal.NextNo.{NextNo}
use Rattle.dtx_packets.specs.declared.refusal.NextNo.TheVariants.{Absent, Failed, Memory, TooLong}
use Rattle.dtx_packets.specs.Packets.{packet_at, whole_packets, packets_from}

-- its first packet, how many it gives at most, how many it gave, and how many bytes follow the last one
pub record Reading : Type 0 where
  pub first : ℕ
  pub limit : ℕ
  pub given : ℕ
  pub loose : ℕ

-- the number of the next packet
abbrev pub next_of : Reading → ℕ
next_of r = r.first + r.given

-- the next packet is whole
abbrev pub HasNext : List ℕ → Reading → Type 0
HasNext file r = next_of r < whole_packets file

-- no whole packet is left, and the loose bytes were counted
pub record IsEnd (file : List ℕ) (old new : Reading) : Type 0 where
  pub none_left : whole_packets file ≤ next_of old
  pub loose : new.loose ≡ length file - 188 * next_of old

-- why a reader gives no packet of a file, or of none (`found`)
abbrev pub IsRefused : Option (List ℕ) → Reading → NextNo → Type 0
IsRefused found old TooLong = IsSomeAnd found (λ file. HasNext file old)
IsRefused found old Absent = found ≡ None
IsRefused found old Failed = Unit {0}
IsRefused found old Memory = Unit {0}

-- what `next` answers of a file, or of none (`found`)
abbrev pub IsNext : Option (List ℕ) → Reading → Result (Option Packet) NextNo → Reading → Type 0
IsNext found old (Ok (Some packet)) new =
    IsSomeAnd found (λ file. HasNext file old × (packet.0 ≡ packet_at file (next_of old)))
IsNext found old (Ok None) new = IsSomeAnd found (λ file. IsEnd file old new)
IsNext found old (Err refusal) new = IsRefused found old refusal

-- `n` packets are given: as many as there is room for, as the limit still allows and as are left. Where these are none,
-- the file has ended.
pub record IsCount (file : List ℕ) (old : Reading) (room n : ℕ) (new : Reading) : Type 0 where
  pub least : n ≡ min room (min (old.limit - old.given) (whole_packets file - next_of old))
  pub none : n ≡ 0 → IsEnd file old new

-- what `next_many` answers of a file, or of none (`found`)
abbrev pub AreNext : Option (List ℕ) → Reading → Result ℕ NextNo → List Packet → Reading → Type 0
AreNext found old (Ok n) into new = IsSomeAnd found (λ file.
    IsCount file old (length into) n new × (map (λ p. p.0) (take n into) ≡ packets_from file (next_of old) n))
AreNext found old (Err refusal) into new = IsRefused found old refusal

-- what a reader reads to a buffer: the bytes of the next packets
abbrev pub IsAdvance : Option (List ℕ) → Reading → Result ℕ NextNo → List ℕ → Reading → Type 0
IsAdvance found old (Ok n) bytes new = IsSomeAnd found (λ file.
    IsCount file old (whole_packets bytes) n new
    × (take (188 * n) bytes ≡ take (188 * n) (drop (188 * next_of old) file)))
IsAdvance found old (Err refusal) bytes new = IsRefused found old refusal

-- the answer of a reader that has room for `room` packets, and its state after the call, whatever the file holds
pub record IsLeft (old : Reading) (room : ℕ) (result : Result ℕ NextNo) (new : Reading) : Type 0 where
  pub count : IfOk result (λ n. n ≤ room)
  pub packets : IfOk result (λ n. 0 < n →
      (old.given + n ≤ old.limit) × (new ≡ record old { given = old.given + n; loose = 0 }))
  pub end : result ≡ Ok 0 → (new.loose < PACKET) × (new ≡ record old { loose = new.loose })
  pub err : OnErr result (new ≡ old)
  pub too_long : IsErrOf result TooLong → old.given ≡ old.limit

-- after `n` packets the rest of the buffer is as before, and after an error all of it is
pub record IsPlaced (result : Result ℕ NextNo) (old new : List Packet) : Type 0 where
  pub rest : IfOk result (λ n. drop n new ≡ drop n old)
  pub err_rest : OnErr result (new ≡ old)

-- the answer after `filled` bytes were read, and the reader's state then
abbrev pub IsStep : Reading → ℕ → Result ℕ NextNo → Reading → Type 0
IsStep old filled (Ok n) new = (n ≡ filled / 188)
    × (n ≡ 0 → new ≡ record old { loose = filled })
    × (0 < n → (old.given < old.limit) × (new ≡ record old { given = old.given + n; loose = 0 }))
IsStep old filled (Err refusal) new =
    (refusal ≡ TooLong) × (188 ≤ filled) × (old.given ≡ old.limit) × (new ≡ old)
