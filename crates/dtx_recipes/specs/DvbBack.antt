-- What `dvb code` sends of whole streams, and what `dvb read` gives back of them (EN 300 429).
use Rattle.std.specs.Prelude.{◌≡◌, ℕ, ◌-◌, ◌*◌, ◌%◌, ◌<◌, true, List, [], ◌∷◌, length, take}
use Rattle.std.specs.List.{range_with_len, sum_by}
use Rattle.dtx_dvb.specs.Damage.{wrong_in}
use Rattle.dtx_dvb.specs.Reading.{read_dvb}
use Rattle.dtx_dvb.specs.Stream.{dvb}
use Rattle.dtx_engine.specs.Made.{only, outputs_of}
use Rattle.dtx_meaning.specs.Meaning.{Meaning}
use Rattle.dtx_meaning.specs.Status.{done, ended}
use Rattle.dtx_meaning.specs.declared.status.Status.{Status}
use Rattle.dtx_meaning.specs.declared.status.Status.TheVariants.{TooLong}
use Rattle.dtx_packets.specs.Packets.{packet_at, packets_of, whole_packets}
use Rattle.dtx_sizes.specs.declared.limits.TheConstants.{MOST_PACKETS}
use Rattle.dtx_recipes.specs.DvbCode.{dvb_code_answer}
use Rattle.dtx_recipes.specs.DvbRead.{bytes_of_reads, dvb_read_answer}
use Rattle.dtx_recipes.specs.Place.{has_sync}

-- the first `count` packets of the stream begin with 0x47
abbrev pub HaveSyncs : List ℕ → ℕ → Type 0
HaveSyncs stream count = (k : ℕ) → k < count → has_sync k (packet_at stream k) ≡ true

-- what `dvb code` answers and writes for all packets of a stream
abbrev pub sent_of : List (List ℕ) → List ℕ → Meaning
sent_of names stream = record {
  outcome = dvb_code_answer stream (length stream % 188);
  outputs = outputs_of names (only (dvb (packets_of stream)));
}

-- the same where it refuses the stream behind the first k packets: those are sent
abbrev pub sent_until : List (List ℕ) → List ℕ → ℕ → Status → Meaning
sent_until names stream k refusal = record {
  outcome = ended refusal;
  outputs = outputs_of names (only (dvb (take k (packets_of stream))));
}

-- what `dvb read` answers and writes for all blocks of some bytes
abbrev pub read_of : List (List ℕ) → List ℕ → Meaning
read_of names bytes = record {
  outcome = dvb_read_answer bytes (length bytes % 204);
  outputs = outputs_of names (only (bytes_of_reads (read_dvb bytes)));
}

-- The same where there are more than MOST_PACKETS blocks. The packets are those that the first MOST_PACKETS blocks
-- give, which are the first of all packets.
abbrev pub read_until : List (List ℕ) → List ℕ → Meaning
read_until names bytes = record {
  outcome = ended TooLong;
  outputs = outputs_of names (only (bytes_of_reads (take (MOST_PACKETS - 11) (read_dvb bytes))));
}

-- the same where a stream comes back, with `fixed` bytes put right: its packets but the last eleven, none of them
-- flagged
abbrev pub back_of : List (List ℕ) → List ℕ → ℕ → Meaning
back_of names stream fixed = record {
  outcome = done (whole_packets stream ∷ (whole_packets stream - 11) ∷ fixed ∷ 0 ∷ 0 ∷ []);
  outputs = outputs_of names (only (take (188 * (whole_packets stream - 11)) stream));
}

-- in how many bytes the words of all packets but the last eleven differ from the blocks that were sent
abbrev pub wrong_in_all : List (List ℕ) → List ℕ → ℕ
wrong_in_all packets bytes = sum_by (wrong_in packets bytes) (range_with_len 0 (length packets - 11))
