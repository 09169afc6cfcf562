-- The operations packet, byte by byte: kind 1 has all transmitters, kind 2 one page of them (the profile's own).
-- Numbers are big-endian.
use Rattle.std.specs.Prelude.{◌≡◌, ◌≢◌, ℕ, ◌+◌, ◌-◌, ◌*◌, ◌^◌, ◌<◌, ◌≤◌, List, [], ◌∷◌, ◌++◌, All, AllPairs, EachIndex}
use Rattle.std.specs.Prelude.{FitsSigned, length, map, replicate, slice_index}
use Rattle.std.specs.Int.{w16, cast_unsigned}
use Rattle.std.specs.List.{flat_map, fold}
use Rattle.byteorder.specs.Endian.{big_bytes}
use Rattle.dtx_laws.specs.Words.{codeword}
use Rattle.dtx_ops.specs.declared.fields.Entry.{Entry}
use Rattle.dtx_ops.specs.declared.fields.Ops.{Ops}
use Rattle.dtx_ops.specs.Paging.{kind_of, paging_bytes, IsPaged}

-- twelve states of three bits, coder 0 first and the highest bit first, and then four 0 bits, as a number of forty bits
unfoldable pub states_bits : List ℕ → ℕ
states_bits states = 16 * fold (λ before state. 8 * before + state) 0 states

-- an entry: the address, and then the offset in two's complement
unfoldable pub entry_bytes : Entry → List ℕ
entry_bytes e = big_bytes 2 e.address ++ big_bytes 2 (cast_unsigned w16 e.offset)

-- the stamp, the maximum delay, the frame and the index
unfoldable pub times_bytes : Ops → List ℕ
times_bytes f = big_bytes 3 f.stamp ++ big_bytes 3 f.max_delay ++ big_bytes 4 f.frame ++ big_bytes 2 f.index

-- the data before the entries: the kind, the states, the times, the page where the kind is 2, and the count of entries
unfoldable pub head_bytes : Ops → List ℕ
head_bytes f =
    kind_of f.paging ∷ big_bytes 5 (states_bits f.states) ++ times_bytes f
    ++ (paging_bytes f.paging ++ length f.offsets.items ∷ [])

-- the 164 data bytes: the rest behind the entries is 00
unfoldable pub data_of : Ops → List ℕ
data_of f =
    head_bytes f ++ flat_map entry_bytes f.offsets.items
    ++ replicate (145 - length (paging_bytes f.paging) - 4 * length f.offsets.items) 0

-- the 188 bytes: byte 0, the packet identifier 0x1FFA, the counter, and the codeword of the data
unfoldable pub spelling : Ops → ℕ → ℕ → List ℕ
spelling f counter sync = (sync ∷ 0x1F ∷ 0xFA ∷ (0x10 + counter) ∷ []) ++ codeword 184 164 (data_of f)

-- an entry's numbers have 16 bits, and the offset has a sign
pub record IsEntry (e : Entry) : Type 0 where
  pub address : e.address < 2 ^ 16
  pub offset : FitsSigned w16 e.offset

-- Fields are valid: they have the ranges of their types, and stamp, maximum delay and index are in range. The page and
-- its number of entries are allowed, and the addresses differ.
pub record IsValid (f : Ops) : Type 0 where
  pub twelve : length f.states ≡ 12
  pub states : EachIndex f.states (λ e. slice_index f.states e < 8)
  pub stamp : f.stamp < 10000000
  pub max_delay : f.max_delay < 10000000
  pub frame : f.frame < 2 ^ 32
  pub index : f.index < 624
  pub few : length f.offsets.items ≤ 35
  pub paged : IsPaged f.paging (length f.offsets.items)
  pub entries : All IsEntry f.offsets.items
  pub differ : AllPairs (λ a b. a ≢ b) (map (λ e. e.address) f.offsets.items)
