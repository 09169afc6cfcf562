-- The anchor of the packets that were given, by their sync bytes (the profile's own). A packet is a mark where its sync
-- byte is 0xB8; all other sync bytes are alike.
use Rattle.std.specs.Prelude.{ℕ, ◌≡◌, ◌<◌, ◌-◌, ◌%◌, ◌==◌, ◌&&◌, Bool, not, Option, Some, None, option_map}
use Rattle.std.specs.Prelude.{if◌then◌else◌, List, [], ◌∷◌, ◌++◌, length, slice_index, ◌+◌, false}
use Rattle.std.proofs.Common.{zero, suc}
use Rattle.dtx_cadence.specs.declared.anchor.Lock.{Lock}
use Rattle.dtx_cadence.specs.declared.anchor.Seen.{Seen}
use Rattle.dtx_cadence.specs.declared.anchor.Seen.TheVariants.{Free, Start, Lost, At}

-- whether packet i is a mark
abbrev pub has_mark : List ℕ → ℕ → Bool
has_mark syncs i = slice_index syncs i == 0xB8

-- whether packet i ends an anchor at packet j: a mark is due there, and both this mark and the one due before it are
-- missing
abbrev pub ends_lock : List ℕ → ℕ → ℕ → Bool
ends_lock syncs i j = ((i - j) % 624 == 0) && not (has_mark syncs i) && not (has_mark syncs (i - 624))

-- the anchor at packet i, from the one before it: a first mark becomes the anchor, which then stays until two marks
-- that are due in a row are missing
abbrev pub anchor_at : List ℕ → ℕ → Option ℕ → Option ℕ
anchor_at syncs i None = if has_mark syncs i then Some i else None
anchor_at syncs i (Some j) = if ends_lock syncs i j then None else Some j

-- the anchor behind the first n packets
unfoldable pub anchor_to : List ℕ → ℕ → Option ℕ
anchor_to syncs zero = None
anchor_to syncs (suc i) = anchor_at syncs i (anchor_to syncs i)

-- the anchor behind all of them
unfoldable pub anchor : List ℕ → Option ℕ
anchor syncs = anchor_to syncs (length syncs)

-- the answer to one more sync byte behind n of them, from the anchor before it and the anchor with it
abbrev pub seen_by : ℕ → Option ℕ → Option ℕ → Seen
seen_by n None None = Free
seen_by n None (Some j) = Start
seen_by n (Some a) None = Lost
seen_by n (Some a) (Some j) = At ((n - j) % 624)

-- the answer to one more sync byte
unfoldable pub seen : List ℕ → ℕ → Seen
seen syncs sync = seen_by (length syncs) (anchor syncs) (anchor (syncs ++ sync ∷ []))

-- whether the mark that was due last in the first n packets, under an anchor at packet j, is missing
abbrev pub is_missed : List ℕ → ℕ → ℕ → Bool
is_missed syncs n j = not (has_mark syncs (n - 1 - (n - 1 - j) % 624))

-- the place, modulo 624, of the next packet under the anchor, and whether the mark that was due last is missing
unfoldable pub lock : List ℕ → Option Lock
lock syncs =
    option_map
    (λ j. record { place = (length syncs - j) % 624; missed = is_missed syncs (length syncs) j })
    (anchor syncs)

-- the state that is kept is the one behind these sync bytes
abbrev pub StandsFor : Option Lock → List ℕ → Type 0
StandsFor kept syncs = kept ≡ lock syncs

-- a place under the anchor is below 624
abbrev pub IsSeen : Seen → Type 0
IsSeen (At p) = p < 624
IsSeen other = 0 < 624

-- the state behind the anchor's own packet
abbrev pub first_lock : Lock
first_lock = record { place = 1; missed = false }

-- whether a packet ends the anchor, given whether it is a mark
abbrev pub is_lost : Lock → Bool → Bool
is_lost lock is_mark = (lock.place == 0) && not is_mark && lock.missed

-- the state after a packet with which the anchor stays
abbrev pub moved_on : Lock → Bool → Lock
moved_on lock is_mark = record {
  place = (lock.place + 1) % 624;
  missed = if lock.place == 0 then not is_mark else lock.missed;
}

-- the state after a sync byte
abbrev pub kept_after : Option Lock → ℕ → Option Lock
kept_after None sync = if sync == 0xB8 then Some first_lock else None
kept_after (Some lock) sync = if is_lost lock (sync == 0xB8) then None else Some (moved_on lock (sync == 0xB8))

-- the answer to a sync byte
abbrev pub answer : Option Lock → ℕ → Seen
answer None sync = if sync == 0xB8 then Start else Free
answer (Some lock) sync = if is_lost lock (sync == 0xB8) then Lost else At lock.place
