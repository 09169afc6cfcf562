-- The units in which the commands read their inputs, except those of the DVB outer coding, and how many units an input
-- has at most (the profile's own limits).
use Rattle.dtx_engine.specs.declared.engine.Shape.{Shape}

-- packets of 188 bytes, in groups of four: where one isn't allowed, something is made of the groups before it
abbrev pub packets : Shape
packets = record { unit = 188; units = 348; group = 4; limit = 624000000 }

-- packets of 188 bytes that are coded, in groups of four
abbrev pub coded_packets : Shape
coded_packets = record { unit = 188; units = 208; group = 4; limit = 624000000 }

-- packets of 188 bytes, each a group by itself
abbrev pub single_packets : Shape
single_packets = record { unit = 188; units = 348; group = 1; limit = 624000000 }

-- segments of 832 symbols, one byte each
abbrev pub segments : Shape
segments = record { unit = 832; units = 313; group = 1; limit = 626000000 }

-- single bytes, each a group by itself
abbrev pub single_bytes : Shape
single_bytes = record { unit = 1; units = 262144; group = 1; limit = 520832000000 }
