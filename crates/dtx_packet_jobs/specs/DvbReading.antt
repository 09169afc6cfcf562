-- What the engines of `dvb code` and `dvb read` keep.
use Rattle.std.specs.Prelude.{◌≡◌, ◌*◌, ◌≤◌, ℕ, ◌++◌, List}
use Rattle.dtx_dvb.specs.Read.{Read, fixed_in, flagged_in}
use Rattle.dtx_dvb.specs.Reading.{read_dvb}
use Rattle.dtx_outer.specs.Inner.{StandsFor}
use Rattle.dtx_recipes.specs.DvbRead.{bytes_of_reads, whole_blocks}
use Rattle.dtx_packet_jobs.specs.declared.dvb_reading.DvbReading.{DvbReading}
use Rattle.dtx_packet_jobs.specs.declared.dvb_reading.Gathered.{Gathered}
use Rattle.dtx_dvb.specs.Stream.{HasSent, dvb}
use Rattle.dtx_packets.specs.Packets.{packets_of, whole_packets}
use Rattle.dtx_packet_jobs.specs.declared.dvb_coding.DvbCoding.{DvbCoding}

-- the numbers are those of these packets, and their bytes are held, but for the bytes `before` of earlier pieces
pub record HasGathered (gathered : Gathered) (reads : List Read) (before : List ℕ) : Type 0 where
  pub fixed : gathered.fixed ≡ fixed_in reads
  pub flagged : gathered.flagged ≡ flagged_in reads
  pub bytes : bytes_of_reads reads ≡ before ++ gathered.packets

-- the state in a piece, after these bytes: the reader stands for them, and their packets are gathered
pub record IsReading (state : DvbReading) (bytes before : List ℕ) : Type 0 where
  pub reader : StandsFor 204 188 12 17 state.reader.value bytes
  pub gathered : HasGathered state.gathered (read_dvb bytes) before

-- bounds of the numbers: so many blocks give no more
pub record IsBounded (gathered : Gathered) : Type 0 where
  pub fixed : gathered.fixed ≤ 255 * gathered.blocks
  pub flagged : gathered.flagged ≤ gathered.blocks

-- the state after these bytes: the reader stands for them, and their blocks and packets are counted
pub record WasRead (state : DvbReading) (bytes : List ℕ) : Type 0 where
  pub reader : StandsFor 204 188 12 17 state.reader.value bytes
  pub fixed : state.gathered.fixed ≡ fixed_in (read_dvb bytes)
  pub flagged : state.gathered.flagged ≡ flagged_in (read_dvb bytes)
  pub blocks : state.gathered.blocks ≡ whole_blocks bytes
  pub bounded : IsBounded state.gathered

-- the state in a piece, after these packets: the engine holds the bytes that they gave, but for the bytes `before` of
-- earlier pieces
pub record IsSending (state : DvbCoding) (packets : List (List ℕ)) (before : List ℕ) : Type 0 where
  pub coder : HasSent packets state.coder.value
  pub bytes : dvb packets ≡ before ++ state.sent

-- the state after the packets of these bytes: they were sent and counted
pub record WasSent (state : DvbCoding) (bytes : List ℕ) : Type 0 where
  pub coder : HasSent (packets_of bytes) state.coder.value
  pub packets : state.packets ≡ whole_packets bytes
