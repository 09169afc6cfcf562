-- What is restored at one end of the symbols that `code` left at the other, where both calls are done.
use Rattle.std.proofs.Common.{◌≡◌, ℕ, ℤ, ◌≤◌, inl, inr, List, [], ◌∷◌, length, sym, ap, ◌∙◌, subst, arith}
use Rattle.std.specs.Prelude.{Option, Some, IfSome}
use Rattle.std.specs.FinMap.{get}
use Rattle.std.proofs.lemmas.Bool.{cases_lt}
use Rattle.std.proofs.lemmas.List.{nil_from_length}
use Rattle.dtx_acquire.specs.Sent.{AreNear}
use Rattle.dtx_coder.proofs.CountsLemmas.{length-a53}
use Rattle.dtx_coder.specs.Stream.{a53, a53_symbols}
use Rattle.dtx_engine.specs.Made.{only}
use Rattle.dtx_engine.specs.Recipe.{meaning_of_file}
use Rattle.dtx_forms.specs.Shapes.{coded_packets, single_bytes}
use Rattle.dtx_meaning.specs.Meaning.{IsAnswered, Meaning}
use Rattle.dtx_meaning.specs.declared.status.Status.{Status}
use Rattle.dtx_meaning.specs.declared.status.Status.TheVariants.{Done, NoSync}
use Rattle.dtx_outside.specs.Shelf.{Files}
use Rattle.dtx_packets.specs.Packets.{packets_of}
use Rattle.dtx_recipes.specs.Code.{coding}
use Rattle.dtx_recipes.specs.Giving.{no_sync_in}
use Rattle.dtx_recipes.specs.Restoring.{Restoring, restoring_by}
use Rattle.dtx_recipes.specs.SymbolFile.{symbols, symbol_bytes}
use Rattle.dtx_repeated_feed.specs.DoneWith.{IsDoneWith}
use Rattle.dtx_file_laws.specs.Damaged.{IsNoisy}
use Rattle.dtx_file_laws.specs.Back.{Holds}
use Rattle.dtx_file_laws.proofs.Answered.{one_holds}
use Rattle.dtx_file_laws.proofs.BothEnds.{few_packets, holds_one, sent_is, told_so}
use Rattle.dtx_file_laws.proofs.Captured.{are_near, few_symbols}

-- What laws say of all that is restored of a file, with these names, as a capture of the symbols of packets.
pub record Laws (restoring : Restoring) (scale : ℕ) (names packets : List (List ℕ)) (file : List ℕ)
    (all : List (List ℤ)) : Type 0 where
  pub stream : AreNear scale (a53_symbols packets) (symbols file) → all ≡ a53 packets
  pub written : 4 ≤ length packets → length packets ≤ 624000000 → IsNoisy scale (symbol_bytes packets) file
      → IsDoneWith names (only (symbol_bytes packets))
      (meaning_of_file single_bytes (restoring_by restoring) names file)
  pub no_sync : length file ≤ 520832000000 → all ≡ []
      → meaning_of_file single_bytes (restoring_by restoring) names file ≡ no_sync_in names

-- a capture of which something is restored is that of a whole group of packets, at least
some_packets : (restoring : Restoring) (scale : ℕ) (names packets : List (List ℕ)) (file : List ℕ)
    (all : List (List ℤ)) → Laws restoring scale names packets file all
    → length packets ≤ 624000000 → IsNoisy scale (symbol_bytes packets) file
    → (meaning_of_file single_bytes (restoring_by restoring) names file).outcome.status ≡ Done → 4 ≤ length packets
some_packets restoring scale names packets file all laws few noisy done = elim (cases_lt (length packets) 4) [
  | inl none ↦
      let nothing : a53 packets ≡ [] = nil_from_length (a53 packets) (omega (arith, none, length-a53 packets)) in
      let is : all ≡ [] = laws.stream (are_near scale packets file noisy) ∙ nothing in
      let e : NoSync ≡ Done = sym (ap (λ (m : Meaning). m.outcome.status)
      (laws.no_sync (few_symbols packets file few noisy.as_many) is)) ∙ done in
      absurd (let no : ⊥ = cc in no)
  | inr some ↦ some
]

pub restore_through : (restoring : Restoring) (all : List (List ℤ)) (start mid at now : Option Files)
    (input sent got output stream bytes file : List ℕ) (scale : ℕ) (coded given : Status)
    → Laws restoring scale (output ∷ []) (packets_of stream) file all
    → Holds start input stream → coded ≡ Done → Holds mid sent bytes
    → IfSome start (λ held. get held input ≡ Some stream → coded ≡ Done
    → IsAnswered (meaning_of_file coded_packets coding (sent ∷ []) stream) (Some held) coded mid)
    → IsNoisy scale bytes file → Holds at got file → given ≡ Done
    → IfSome at (λ held. get held got ≡ Some file → given ≡ Done
    → IsAnswered (meaning_of_file single_bytes (restoring_by restoring) (output ∷ []) file) (Some held) given now)
    → Holds now output bytes
restore_through restoring all start mid at now input sent got output stream bytes file scale coded given laws there
    done left call noise here given_done restores =
    let packets = packets_of stream in
    let of_code = sent_is start mid input sent stream coded there done call in
    let few = few_packets stream of_code.0 in
    let same : bytes ≡ symbol_bytes packets = holds_one mid sent bytes (symbol_bytes packets) left of_code.1 in
    let noisy = subst (λ (b : List ℕ). IsNoisy scale b file) same noise in
    subst (λ (b : List ℕ). Holds now output b) (sym same) (told_so at got file _ _ here restores (λ held _ found of.
    let m : Meaning = meaning_of_file single_bytes (restoring_by restoring) (output ∷ []) file in
    let answered = of found given_done in
    let some = some_packets restoring scale (output ∷ []) packets file all laws few noisy
    (sym answered.answer ∙ given_done) in
    one_holds m output (symbol_bytes packets) held now given (laws.written some few noisy).outputs answered))
