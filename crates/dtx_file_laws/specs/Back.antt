-- What comes back of the symbols of a stream (the profile's own; what is sent is that of ATSC A/53 Part 2). A packet is
-- the list of its 188 bytes.
use Rattle.std.specs.Prelude.{ℕ, ◌≡◌, ◌+◌, ◌-◌, ◌*◌, ◌/◌, ◌%◌, ◌<◌, ◌==◌, if◌then◌else◌, true, List, [], ◌∷◌, ◌++◌}
use Rattle.std.specs.Prelude.{Option, codes, decimal, length, take, Some, IfSome, IsSomeAnd}
use Rattle.std.specs.List.{flat_map}
use Rattle.dtx_chain.specs.Damage.{as_received}
use Rattle.dtx_coder.specs.Stream.{a53}
use Rattle.dtx_engine.specs.Made.{only, outputs_of}
use Rattle.dtx_meaning.specs.Meaning.{Meaning}
use Rattle.dtx_meaning.specs.Status.{done}
use Rattle.dtx_outside.specs.Shelf.{Files}
use Rattle.dtx_packets.specs.Packets.{packet_at, packets_of, whole_packets}
use Rattle.dtx_recipes.specs.Code.{may_be_coded}
use Rattle.std.specs.FinMap.{get}

-- the files are told, and the file of this name is there and holds these bytes
abbrev pub Holds : Option Files → List ℕ → List ℕ → Type 0
Holds files name bytes = IsSomeAnd files (λ held. get held name ≡ Some bytes)

-- if what was printed is told, it ends with this text
abbrev pub EndsWith : Option (List ℕ) → List ℕ → Type 0
EndsWith written text = IfSome written (λ all. (before : List ℕ) × (all ≡ before ++ text))

-- each whole packet of a stream begins with 0x47, or with the mark 0xB8
abbrev pub CanBeCoded : List ℕ → Type 0
CanBeCoded stream = (k : ℕ) → k < whole_packets stream → may_be_coded (packet_at stream k) ≡ true

-- How many packets come back of `sent` packets that are sent in whole groups of four. All but the last 52 do, or all
-- but the last 51 where 52 divides their number. The bytes of a packet leave the interleaver over 52 packets. (This is
-- for one group or more.)
abbrev pub back_of_sent : ℕ → ℕ
back_of_sent sent = sent - 52 + (if sent % 52 == 0 then 1 else 0)

-- how many come back of a stream of `count` packets, of which only the whole groups are sent
abbrev pub back_of_all : ℕ → ℕ
back_of_all count = back_of_sent (4 * (count / 4))

-- The packets that come back of a stream: its first ones, one after another, with 0x47 as their sync bytes.
abbrev pub packets_back : List (List ℕ) → List ℕ
packets_back packets = flat_map as_received (take (back_of_all (length packets)) packets)

-- How many segments `count` packets are sent as: four for each whole group of four packets, and a field sync for each
-- 78 groups that are begun.
abbrev pub segments_of_all : ℕ → ℕ
segments_of_all count = 4 * (count / 4) + (count / 4 + 77) / 78

-- the line that `receive` and `mend` print if all of `count` packets comes back, with `fixed` bytes put right
abbrev pub line_back : ℕ → ℕ → List ℕ
line_back count fixed =
    codes "segments "
    ++ (decimal (segments_of_all count)
    ++ (codes " runs 1 packets "
    ++ (decimal (back_of_all count) ++ (codes " fixed " ++ (decimal fixed ++ codes " flagged 0 loose 0\n")))))

-- the line that `dvb read` prints if all of `count` packets comes back: all but the last eleven
abbrev pub dvb_line_back : ℕ → ℕ → List ℕ
dvb_line_back count fixed =
    codes "blocks "
    ++ (decimal count
    ++ (codes " packets "
    ++ (decimal (count - 11) ++ (codes " fixed " ++ (decimal fixed ++ codes " flagged 0 loose 0\n")))))

-- What `receive` and `mend` answer and write if all comes back. The numbers are the segments, one run, the packets and
-- the bytes put right. None is flagged, and nothing is loose.
abbrev pub all_back : List (List ℕ) → List (List ℕ) → ℕ → Meaning
all_back names packets fixed = record {
  outcome = done (length (a53 packets) ∷ 1 ∷ back_of_all (length packets) ∷ fixed ∷ 0 ∷ 0 ∷ []);
  outputs = outputs_of names (only (packets_back packets));
}

-- All of a stream comes back, with `fixed` bytes put right. The output holds its packets. The line that is printed has
-- their number and that of these bytes, and none flagged.
pub record IsGivenBack (stream : List ℕ) (fixed : ℕ) (output : List ℕ) (files : Option Files)
    (written : Option (List ℕ)) : Type 0 where
  pub packets : Holds files output (packets_back (packets_of stream))
  pub line : EndsWith written (line_back (whole_packets stream) fixed)

-- All comes back by `dvb read`: the output holds all whole packets but the last eleven, unchanged.
pub record IsReadBack (stream : List ℕ) (fixed : ℕ) (output : List ℕ) (files : Option Files)
    (written : Option (List ℕ)) : Type 0 where
  pub packets : Holds files output (take (188 * (whole_packets stream - 11)) stream)
  pub line : EndsWith written (dvb_line_back (whole_packets stream) fixed)
