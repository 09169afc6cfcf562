-- The place of a packet of a stream in its field. The first packet begins a first field (ATSC A/53 Part 2, data field).
use Rattle.std.specs.Prelude.{ℕ, ◌%◌, nat_le}
use Rattle.dtx_sizes.specs.declared.fields.FieldPlace.{FieldPlace}

-- packet k has the place k modulo 312, and its field is the second one of a frame where k modulo 624 is 312 or more
abbrev pub field_place : ℕ → FieldPlace
field_place k = record { place = k % 312; second = nat_le 312 (k % 624) }
