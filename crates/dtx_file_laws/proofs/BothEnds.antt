-- What is sent at one end and what is made of it at the other, where both calls are done.
use Rattle.std.proofs.Common.{◌≡◌, ◌≢◌, ℕ, ◌*◌, ◌≤◌, ◌⊎◌, inl, inr, List, [], ◌∷◌, length, drop, refl, sym, ap, ◌∙◌}
use Rattle.std.proofs.Common.{subst, arith}
use Rattle.std.specs.Prelude.{Option, Some, None, IfSome}
use Rattle.std.specs.FinMap.{get}
use Rattle.std.proofs.lemmas.Bool.{cases_lt}
use Rattle.std.proofs.lemmas.List.{append-nil, length-drop, length-take-le}
use Rattle.dtx_galois.specs.Field.{AreBytes}
use Rattle.dtx_chain.specs.Damage.{ArePackets}
use Rattle.dtx_coder.proofs.CountsLemmas.{length-a53}
use Rattle.dtx_engine.specs.Recipe.{meaning_of_file}
use Rattle.dtx_forms.proofs.AllowedFileLemmas.{all_read}
use Rattle.dtx_forms.specs.Shapes.{coded_packets, segments}
use Rattle.dtx_meaning.specs.Meaning.{IsAnswered, Meaning, with_outputs}
use Rattle.dtx_meaning.specs.Status.{IsFault}
use Rattle.dtx_meaning.specs.declared.status.Status.{Status}
use Rattle.dtx_meaning.specs.declared.status.Status.TheVariants.{Done, NoSync}
use Rattle.dtx_outside.proofs.FilesLemmas.{get-insert_other}
use Rattle.dtx_outside.specs.Shelf.{ConsistOfBytes, Files}
use Rattle.dtx_packets.specs.Packets.{packet_at, packets_of, whole_packets}
use Rattle.dtx_forms.proofs.FilePacketsLemmas.{length-packets_of}
use Rattle.dtx_recipes.specs.Code.{coding}
use Rattle.dtx_jobs.proofs.GivenLemmas.{nothing_received}
use Rattle.dtx_recipes.specs.Giving.{Giving, IsGiving, receiving_by}
use Rattle.dtx_recipes.specs.SymbolFile.{whole_segments, symbol_bytes}
use Rattle.dtx_jobs.proofs.SymbolsBackLemmas.{each_range}
use Rattle.dtx_words.specs.Line.{done_line}
use Rattle.dtx_words.specs.Printed.{printed}
use Rattle.dtx_words.specs.declared.rows.Command.{Command}
use Rattle.dtx_top.proofs.StreamsLemmas.{AreBytes-packet_at}
use Rattle.dtx_file_laws.specs.Back.{IsGivenBack, all_back, line_back, packets_back, Holds}
use Rattle.dtx_file_laws.proofs.Answered.{one_holds, read_whole}
use Rattle.dtx_file_laws.proofs.Excited.{whole_read}
use Rattle.dtx_file_laws.proofs.Lines.{ends_with}
use Rattle.dtx_file_laws.proofs.Whole.{count_segments}

-- ---- files that are told

-- a file holds one list
pub holds_one : (now : Option Files) (name a b : List ℕ) → Holds now name a → Holds now name b → a ≡ b
holds_one None name a b h g = elim h [ ]
holds_one (Some held) name a b h g = let e : Some a ≡ Some b = sym h ∙ g in cc

-- a file consists of bytes
pub holds_bytes : (now : Option Files) (name file : List ℕ) → IfSome now ConsistOfBytes → Holds now name file
    → AreBytes file
holds_bytes None name file known there = elim there [ ]
holds_bytes (Some held) name file known there = subst (λ (o : Option (List ℕ)). IfSome o AreBytes) there (known name)

-- what follows of a call over files that are told
pub told_so : (start : Option Files) (name bytes : List ℕ) (P : Files → Type 0) (Q : Type 0) → Holds start name bytes
    → IfSome start P → ((held : Files) → start ≡ Some held → get held name ≡ Some bytes → P held → Q) → Q
told_so None name bytes P Q there of so = elim there [ ]
told_so (Some held) name bytes P Q there of so = so held refl there of

pub told_both : (start : Option Files) (name bytes : List ℕ) (P Q : Files → Type 0) (R : Type 0)
    → Holds start name bytes → IfSome start P → IfSome start Q
    → ((held : Files) → get held name ≡ Some bytes → P held → Q held → R) → R
told_both None name bytes P Q R there of line so = elim there [ ]
told_both (Some held) name bytes P Q R there of line so = so held there of line

-- ---- the packets of a file

pub are_packets : (file : List ℕ) → AreBytes file → ArePackets (packets_of file)
are_packets file are =
    each_range (λ p. (length p ≡ 188) × AreBytes p) (packet_at file) 0 (whole_packets file) (λ k l m. (
      length-take-le 188 (drop (188 * k) file) (omega (arith, m, length-drop (188 * k) file)),
      AreBytes-packet_at file are k,
    ))

-- ---- what is sent

pub code_outputs : (sent stream : List ℕ)
    → (meaning_of_file coded_packets coding (sent ∷ []) stream).outcome.status ≡ Done
    → (meaning_of_file coded_packets coding (sent ∷ []) stream).outputs ≡ (sent, symbol_bytes (packets_of stream)) ∷ []
code_outputs sent stream done = grind (arith, read_whole, all_read, append-nil, whole_read)

code_left : (sent stream : List ℕ) (held : Files) (now : Option Files) (status : Status) → status ≡ Done
    → IsAnswered (meaning_of_file coded_packets coding (sent ∷ []) stream) (Some held) status now
    → (whole_packets stream ≤ 624000000) × Holds now sent (symbol_bytes (packets_of stream))
code_left sent stream held now status done answered =
    let m : Meaning = meaning_of_file coded_packets coding (sent ∷ []) stream in
    let own = sym answered.answer ∙ done in (
      (read_whole coded_packets coding (sent ∷ []) stream own).few,
      one_holds m sent (symbol_bytes (packets_of stream)) held now status (code_outputs sent stream own) answered,
    )

pub sent_is : (start now : Option Files) (input sent stream : List ℕ) (status : Status) → Holds start input stream
    → status ≡ Done → IfSome start (λ held. get held input ≡ Some stream → status ≡ Done
    → IsAnswered (meaning_of_file coded_packets coding (sent ∷ []) stream) (Some held) status now)
    → (whole_packets stream ≤ 624000000) × Holds now sent (symbol_bytes (packets_of stream))
sent_is start now input sent stream status there done call = grind (arith, told_so, code_left)

-- ---- what is received

-- a file with a field sync is that of a whole group of packets, at least
some_packets : (giving : Giving) → IsGiving giving → (names packets : List (List ℕ)) (file : List ℕ)
    → length file ≡ length (symbol_bytes packets)
    → (meaning_of_file segments (receiving_by giving) names file).outcome.status ≡ Done → 4 ≤ length packets
some_packets giving is names packets file long done = elim (cases_lt (length packets) 4) [
  | inl few ↦
      let none : whole_segments file ≡ 0 = omega (arith, few, count_segments packets file long, length-a53 packets) in
      let e : NoSync ≡ Done =
      sym (ap (λ (m : Meaning). m.outcome.status) (nothing_received giving is names file (omega (arith, none))
      (λ i _ l. absurd (omega (arith, l, none))))) ∙ done in
      absurd (let no : ⊥ = cc in no)
  | inr some ↦ some
]

-- the laws of one way back: its line where all comes back
abbrev pub LineLaw : Command → Type 0
LineLaw c = (names packets : List (List ℕ)) (fixed : ℕ)
    → done_line (Some c) (all_back names packets fixed).outcome ≡ line_back (length packets) fixed

-- all comes back of a file
abbrev pub ComesBack : Giving → (ℕ → Type 0) → List (List ℕ) → List (List ℕ) → List ℕ → Type 0
ComesBack giving Fixed names packets file = (fixed : ℕ) × Fixed fixed
    × (meaning_of_file segments (receiving_by giving) names file ≡ all_back names packets fixed)

-- a call that reads it is done, and its line is printed
pub record IsCalled (giving : Giving) (c : Command) (got output file : List ℕ) (status : Status)
    (start now : Option Files) (old new : Option (List ℕ)) : Type 0 where
  pub there : Holds start got file
  pub done : status ≡ Done
  pub files : IfSome start (λ held. get held got ≡ Some file → status ≡ Done
      → IsAnswered (meaning_of_file segments (receiving_by giving) (output ∷ []) file) (Some held) status now)
  pub line : IfSome start (λ held. get held got ≡ Some file → status ≡ Done
      → new ≡ printed (done_line (Some c) (meaning_of_file segments (receiving_by giving) (output ∷ []) file).outcome)
      old)

given_is : (giving : Giving) → IsGiving giving → (c : Command) → LineLaw c → (Fixed : ℕ → Type 0) (stream : List ℕ)
    (got output file : List ℕ) (status : Status) (start now : Option Files) (old new : Option (List ℕ))
    → length file ≡ length (symbol_bytes (packets_of stream))
    → IsCalled giving c got output file status start now old new
    → (4 ≤ length (packets_of stream) → ComesBack giving Fixed (output ∷ []) (packets_of stream) file)
    → (fixed : ℕ) × Fixed fixed × IsGivenBack stream fixed output now new
given_is giving is c line_law Fixed stream got output file status start now old new long call back =
    told_both start got file _ _ _ call.there call.files call.line (λ held here files line.
    let answered = files here call.done in
    let m : Meaning = meaning_of_file segments (receiving_by giving) (output ∷ []) file in
    let some = some_packets giving is (output ∷ []) (packets_of stream) file long (sym answered.answer ∙ call.done) in
    let all = back some in
    let text : done_line (Some c) m.outcome ≡ line_back (whole_packets stream) all.0 =
    ap (λ (x : Meaning). done_line (Some c) x.outcome) all.2 ∙ line_law (output ∷ []) (packets_of stream) all.0
    ∙ ap (λ (n : ℕ). line_back n all.0) (length-packets_of stream) in (
      all.0,
      all.1,
      record {
        packets = one_holds m output (packets_back (packets_of stream)) held now status
            (ap (λ (x : Meaning). x.outputs) all.2) answered;
        line = ends_with old new (line_back (whole_packets stream) all.0) (grind arith);
      },
    ))

-- ---- both

pub few_packets : (stream : List ℕ) → whole_packets stream ≤ 624000000 → length (packets_of stream) ≤ 624000000
few_packets stream few = omega (arith, few, length-packets_of stream)

pub enough_packets : (stream : List ℕ) → 4 ≤ whole_packets stream → 4 ≤ length (packets_of stream)
enough_packets stream enough = omega (arith, enough, length-packets_of stream)

-- what is meant is done
pub meant_done : (status meant : Status) → (status ≡ meant) ⊎ IsFault status → meant ≡ Done
    → (status ≡ Done) ⊎ IsFault status
meant_done status meant (inl is) done = inl (is ∙ done)
meant_done status meant (inr fault) done = inr fault

-- a call that sends a stream is done
pub record IsCoded (input sent stream : List ℕ) (status : Status) (start now : Option Files) : Type 0 where
  pub there : Holds start input stream
  pub done : status ≡ Done
  pub files : IfSome start (λ held. get held input ≡ Some stream → status ≡ Done
      → IsAnswered (meaning_of_file coded_packets coding (sent ∷ []) stream) (Some held) status now)

pub coded_is : (input sent stream : List ℕ) (status : Status) (start now : Option Files)
    → IsCoded input sent stream status start now
    → (whole_packets stream ≤ 624000000) × Holds now sent (symbol_bytes (packets_of stream))
coded_is input sent stream status start now call = grind (arith, sent_is)

-- whatever is received, where it is as long as what was sent, and all comes back of it
pub back_through : (giving : Giving) → IsGiving giving → (c : Command) → LineLaw c → (Fixed : ℕ → Type 0)
    (input sent got output stream symbols file : List ℕ) (coded given : Status) (start mid at now : Option Files)
    (old new : Option (List ℕ)) → IsCoded input sent stream coded start mid → Holds mid sent symbols
    → IsCalled giving c got output file given at now old new
    → (symbols ≡ symbol_bytes (packets_of stream) → length (packets_of stream) ≤ 624000000
    → (length file ≡ length (symbol_bytes (packets_of stream)))
    × (4 ≤ length (packets_of stream) → ComesBack giving Fixed (output ∷ []) (packets_of stream) file))
    → (fixed : ℕ) × Fixed fixed × IsGivenBack stream fixed output now new
back_through giving is c line_law Fixed input sent got output stream symbols file coded given start mid at now old new
    code left call back =
    let of_code = coded_is input sent stream coded start mid code in
    let same : symbols ≡ symbol_bytes (packets_of stream) =
    holds_one mid sent symbols (symbol_bytes (packets_of stream)) left of_code.1 in
    let all = back same (few_packets stream of_code.0) in
    given_is giving is c line_law Fixed stream got output file given at now old new all.0 call all.1

-- ---- files that stay

-- a file that isn't written stays
kept : (m : Meaning) (name other bytes written : List ℕ) (start now : Option Files) (status : Status)
    → name ≢ other → m.outputs ≡ (other, written) ∷ [] → Holds start name bytes → IsAnswered m start status now
    → Holds now name bytes
kept m name other bytes written (Some held) now status apart is there answered =
    let P : Option Files → Type 0 = λ (o : Option Files). Holds o name bytes in
    subst P (sym (answered.files ∙ ap (λ outputs. with_outputs outputs (Some held)) is))
    (get-insert_other held other written name apart ∙ there)
kept m name other bytes written None now status apart is there answered = elim there [ ]

pub code_keeps : (input sent stream name bytes : List ℕ) (status : Status) (start now : Option Files)
    → IsCoded input sent stream status start now → name ≢ sent → Holds start name bytes → Holds now name bytes
code_keeps input sent stream name bytes status start now call apart there =
    told_so start input stream _ _ call.there call.files (λ held is here of.
    let m : Meaning = meaning_of_file coded_packets coding (sent ∷ []) stream in
    let answered = of here call.done in
    kept m name sent bytes (symbol_bytes (packets_of stream)) start now status apart
    (code_outputs sent stream (sym answered.answer ∙ call.done)) there
    (subst (λ (o : Option Files). IsAnswered m o status now) (sym is) answered))
