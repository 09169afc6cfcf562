-- Rounds over a stream's segments: each word of their bytes is a codeword, so that no byte is put right.
use Rattle.std.proofs.Common.{◌≡◌, ℕ, ℤ, ◌*◌, ◌/◌, ◌<◌, ◌≤◌, inl, inr, true, List, [], length, sym, ap, ◌∙◌, subst}
use Rattle.std.proofs.Common.{arith}
use Rattle.std.proofs.lemmas.Bool.{cases_lt}
use Rattle.dtx_laws.specs.Codeword.{IsCodeword}
use Rattle.dtx_outer.specs.Inner.{IsComplete, word_at}
use Rattle.dtx_coder.specs.Stream.{whole_groups, a53}
use Rattle.dtx_coder.proofs.BytesLemmas.{length-whole}
use Rattle.dtx_receiver.specs.Bytes.{bytes_in}
use Rattle.dtx_receiver.specs.Packets.{is_complete}
use Rattle.dtx_receiver.proofs.CompleteLemmas.{complete_told}
use Rattle.dtx_chain.specs.Damage.{ArePackets}
use Rattle.dtx_chain.proofs.LevelsLemmas.{bytes_are}
use Rattle.dtx_chain.proofs.WordsLemmas.{own_codeword, whole_small, word_is}
use Rattle.dtx_acquire.specs.Acquired.{acquired}
use Rattle.dtx_rounds.specs.Rounds.{refined}
use Rattle.dtx_symbol_laws.proofs.RefinedFields.{no_bytes}

-- ---- words

-- Each word whose bytes are there is a codeword.
abbrev pub AreCodewords : List ℕ → Type 0
AreCodewords bytes = (k : ℕ) → is_complete (length bytes) k ≡ true → IsCodeword 207 187 (word_at 207 52 4 bytes k)

-- the words of a stream's bytes
groups_coded : (ps : List (List ℕ)) → ArePackets ps → AreCodewords (whole_groups ps)
groups_coded ps h k c =
    let all : IsComplete 207 52 4 (828 * (length ps / 4)) k =
    subst (λ n. IsComplete 207 52 4 n k) (length-whole ps) ((complete_told (length (whole_groups ps)) k).0 c) in
    let there : k < length ps = omega (arith, all 0 (omega arith)) in
    subst (IsCodeword 207 187) (sym (word_is ps k there all)) (own_codeword ps k h there)

-- of no bytes no word is there
none_coded : AreCodewords []
none_coded k c = (let first = (complete_told 0 k).0 c 0 (omega arith) in absurd (omega (arith, first)))

no_segments : (ps : List (List ℕ)) → length ps < 4 → a53 ps ≡ []
unfolding a53
no_segments ps l = grind arith

pub stream_coded : (ps : List (List ℕ)) → ArePackets ps → AreCodewords (bytes_in (a53 ps))
stream_coded ps h = elim (cases_lt (length ps) 4) [
  | inl l ↦ subst AreCodewords (sym (ap bytes_in (no_segments ps l) ∙ no_bytes)) none_coded
  | inr l ↦ subst AreCodewords (sym (bytes_are ps l (whole_small ps h))) (groups_coded ps h)
]

-- ---- rounds

-- that rounds leave acquired segments whose words are codewords
abbrev pub CodewordsStay : Type 0
CodewordsStay = (scale r : ℕ) (symbols : List ℤ) → 0 < scale → scale ≤ 18
    → AreCodewords (bytes_in (acquired scale symbols)) → refined scale symbols r ≡ acquired scale symbols

pub stream_refined : CodewordsStay → (scale r : ℕ) (ps : List (List ℕ)) (symbols : List ℤ) → 0 < scale → scale ≤ 18
    → ArePackets ps → acquired scale symbols ≡ a53 ps → refined scale symbols r ≡ a53 ps
stream_refined stay scale r ps symbols some most h e = stay scale r symbols some most
    (subst (λ (s : List (List ℤ)). AreCodewords (bytes_in s)) (sym e) (stream_coded ps h))
    ∙ e
