-- What `dvb code` sends at one end, and `dvb read` gives back at the other, where both calls are done.
use Rattle.std.proofs.Common.{◌≡◌, ℕ, ◌-◌, ◌*◌, ◌≤◌, Bool, true, false, not, List, [], ◌∷◌, length, take, drop}
use Rattle.std.proofs.Common.{refl, sym, ap, ◌∙◌, arith}
use Rattle.std.specs.Prelude.{Option, Some, None, IfSome, min}
use Rattle.std.specs.FinMap.{get}
use Rattle.std.proofs.lemmas.Bool.{eqb-true}
use Rattle.std.proofs.lemmas.List.{length-drop, length-take-le}
use Rattle.dtx_lists.proofs.RangeSearch.{find-range_misses}
use Rattle.dtx_galois.specs.Field.{AreBytes}
use Rattle.dtx_dvb.specs.Damage.{ArePackets}
use Rattle.dtx_dvb.specs.Stream.{dvb}
use Rattle.dtx_engine.specs.Recipe.{first_refused, meaning_of_file}
use Rattle.dtx_meaning.specs.Meaning.{IsAnswered, Meaning}
use Rattle.dtx_meaning.specs.declared.status.Status.{Status}
use Rattle.dtx_meaning.specs.declared.status.Status.TheVariants.{Done}
use Rattle.dtx_outside.specs.Shelf.{Files}
use Rattle.dtx_packets.specs.Packets.{sync_of, packet_at, packets_of, whole_packets}
use Rattle.dtx_recipes.specs.DvbBack.{HaveSyncs, back_of, sent_of}
use Rattle.dtx_recipes.specs.DvbCode.{dvb_coding, blocks, dvb_packets}
use Rattle.dtx_recipes.specs.DvbRead.{dvb_reading}
use Rattle.dtx_recipes.specs.Place.{has_sync}
use Rattle.dtx_jobs.proofs.SymbolsBackLemmas.{each_range}
use Rattle.dtx_words.specs.Line.{done_line}
use Rattle.dtx_words.specs.Printed.{printed}
use Rattle.dtx_words.specs.declared.rows.Command.TheVariants.{DvbRead}
use Rattle.dtx_top.proofs.StreamsLemmas.{AreBytes-packet_at}
use Rattle.dtx_file_laws.specs.Back.{IsReadBack, dvb_line_back, Holds}
use Rattle.dtx_file_laws.proofs.Answered.{one_holds, read_whole}
use Rattle.dtx_file_laws.proofs.BothEnds.{holds_one, told_both, told_so}
use Rattle.dtx_file_laws.proofs.Lines.{ends_with, read_line}

-- ---- what is sent

passes : (t : Bool) → not t ≡ false → t ≡ true
passes true e = refl
passes false e = cc

-- where none is refused, each begins with 0x47
all_begin : (stream : List ℕ) → whole_packets stream ≤ 624000000
    → first_refused dvb_packets dvb_coding stream ≡ None → HaveSyncs stream (whole_packets stream)
unfolding first_refused
all_begin stream few none = λ k l. passes (has_sync k (packet_at stream k))
    (find-range_misses (λ i. not (has_sync i (packet_at stream i))) 0 (min (whole_packets stream) dvb_packets.limit)
    none k (omega arith) (omega (arith, l, few)))

are_packets : (stream : List ℕ) → AreBytes stream → HaveSyncs stream (whole_packets stream)
    → ArePackets (packets_of stream)
are_packets stream are syncs =
    each_range (λ p. (length p ≡ 188) × AreBytes p × (sync_of p ≡ 0x47)) (packet_at stream) 0 (whole_packets stream)
    (λ k l m. (
      length-take-le 188 (drop (188 * k) stream) (omega (arith, m, length-drop (188 * k) stream)),
      AreBytes-packet_at stream are k,
      eqb-true (sync_of (packet_at stream k)) 0x47 (syncs k (omega (arith, m))),
    ))

-- the stream is one that may be sent, and it was
record IsSent (stream : List ℕ) (sent : List ℕ) (now : Option Files) : Type 0 where
  pub few : whole_packets stream ≤ 624000000
  pub syncs : HaveSyncs stream (whole_packets stream)
  pub file : Holds now sent (dvb (packets_of stream))

-- all of a stream is sent, as the law says
abbrev pub SendsAll : Type 0
SendsAll = (names : List (List ℕ)) (stream : List ℕ) → whole_packets stream ≤ 624000000
    → HaveSyncs stream (whole_packets stream)
    → meaning_of_file dvb_packets dvb_coding names stream ≡ sent_of names stream

sent_is : SendsAll → (start now : Option Files) (input sent stream : List ℕ) (status : Status)
    → Holds start input stream → status ≡ Done → IfSome start (λ held. get held input ≡ Some stream → status ≡ Done
    → IsAnswered (meaning_of_file dvb_packets dvb_coding (sent ∷ []) stream) (Some held) status now)
    → IsSent stream sent now
sent_is law start now input sent stream status there done call =
    told_so start input stream _ _ there call (λ held _ here of.
    let m : Meaning = meaning_of_file dvb_packets dvb_coding (sent ∷ []) stream in
    let answered = of here done in
    let whole = read_whole dvb_packets dvb_coding (sent ∷ []) stream (sym answered.answer ∙ done) in
    let syncs = all_begin stream whole.few whole.allowed in
    record {
      few = whole.few;
      syncs = syncs;
      file = one_holds m sent (dvb (packets_of stream)) held now status
          (ap (λ (x : Meaning). x.outputs) (law (sent ∷ []) stream whole.few syncs)) answered;
    })

-- ---- both

-- a call that sends a stream is done
pub record IsCoded (input sent stream : List ℕ) (status : Status) (start now : Option Files) : Type 0 where
  pub there : Holds start input stream
  pub done : status ≡ Done
  pub files : IfSome start (λ held. get held input ≡ Some stream → status ≡ Done
      → IsAnswered (meaning_of_file dvb_packets dvb_coding (sent ∷ []) stream) (Some held) status now)

-- and one that reads a file, and its line is printed
pub record IsCalled (got output file : List ℕ) (status : Status) (start now : Option Files)
    (old new : Option (List ℕ)) : Type 0 where
  pub there : Holds start got file
  pub done : status ≡ Done
  pub files : IfSome start (λ held. get held got ≡ Some file → status ≡ Done
      → IsAnswered (meaning_of_file blocks dvb_reading (output ∷ []) file) (Some held) status now)
  pub line : IfSome start (λ held. get held got ≡ Some file → status ≡ Done
      → new ≡ printed (done_line (Some DvbRead) (meaning_of_file blocks dvb_reading (output ∷ []) file).outcome) old)

pub read_through : SendsAll → (input sent got output stream bytes file : List ℕ) (coded given : Status)
    (start mid at now : Option Files) (old new : Option (List ℕ)) → AreBytes stream
    → IsCoded input sent stream coded start mid → Holds mid sent bytes → IsCalled got output file given at now old new
    → (bytes ≡ dvb (packets_of stream) → whole_packets stream ≤ 624000000 → ArePackets (packets_of stream) → (fixed : ℕ)
    × (meaning_of_file blocks dvb_reading (output ∷ []) file ≡ back_of (output ∷ []) stream fixed))
    → (fixed : ℕ) × IsReadBack stream fixed output now new
read_through law input sent got output stream bytes file coded given start mid at now old new are code left call back =
    let of_code = sent_is law start mid input sent stream coded code.there code.done code.files in
    let same : bytes ≡ dvb (packets_of stream) = holds_one mid sent bytes (dvb (packets_of stream)) left of_code.file in
    let all = back same of_code.few (are_packets stream are of_code.syncs) in
    told_both at got file _ _ _ call.there call.files call.line (λ held here files line.
    let m : Meaning = meaning_of_file blocks dvb_reading (output ∷ []) file in
    let text : done_line (Some DvbRead) m.outcome ≡ dvb_line_back (whole_packets stream) all.0 =
    ap (λ (x : Meaning). done_line (Some DvbRead) x.outcome) all.1 ∙ read_line (output ∷ []) stream all.0 in (
      all.0,
      record {
        packets = one_holds m output (take (188 * (whole_packets stream - 11)) stream) held now given
            (ap (λ (x : Meaning). x.outputs) all.1) (files here call.done);
        line = ends_with old new (dvb_line_back (whole_packets stream) all.0) (grind arith);
      },
    ))
