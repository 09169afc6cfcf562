-- Each packet that is received has 188 bytes, whatever is received.
use Rattle.std.proofs.Common.{◌≡◌, ℕ, ◌*◌, ◌%◌, Option, Some, None, List, [], ◌∷◌, length, map, take, refl, arith}
use Rattle.std.specs.Prelude.{ℤ}
use Rattle.std.specs.List.{All, flat_map}
use Rattle.std.proofs.lemmas.List.{length-set, length-take-le}
use Rattle.std.proofs.lemmas.List.Elements.{All-append, All-map, All-nil, All-cons}
use Rattle.dtx_laws.proofs.ChoiceLemmas.{correction_is}
use Rattle.dtx_laws.proofs.WhiteningLemmas.{length-whitened}
use Rattle.dtx_laws.specs.Words.{correction}
use Rattle.dtx_outer.specs.Inner.{word_at}
use Rattle.dtx_outer.proofs.WordsLemmas.{length-word}
use Rattle.dtx_whiten.specs.Randomizer.{randomizer_bytes}
use Rattle.dtx_receiver.specs.Bytes.{bytes_in}
use Rattle.dtx_receiver.specs.Packets.{all_packets, packet_bytes, run_packets, received, received_at, received_by}
use Rattle.dtx_receiver.specs.Runs.{runs}
use Rattle.dtx_receiver.specs.declared.batch.Received.{Received}

-- a packet that was received has 188 bytes
abbrev pub IsWhole : Received → Type 0
IsWhole r = length r.packet.0 ≡ 188

length-packet_bytes : (from : ℕ) (word : List ℕ) → length word ≡ 207 → length (packet_bytes from word) ≡ 188
length-packet_bytes from word long =
    omega (arith, length-whitened randomizer_bytes (take 187 word) from, length-take-le 187 word (omega (arith, long)))

-- that of a word, whatever code of 207 bytes was found for it, or none
pub by_word : (from : ℕ) (word : List ℕ) (found : Option (List ℕ)) → length word ≡ 207
    → ((code : List ℕ) → found ≡ Some code → length code ≡ 207) → IsWhole (received_by from word found)
by_word from word None long is = grind (arith, length-set, length-packet_bytes)
by_word from word (Some code) long is = length-packet_bytes from code (is code refl)

received_whole : (bytes : List ℕ) (k : ℕ) → IsWhole (received_at bytes k)
unfolding received_at
received_whole bytes k =
    by_word (187 * (k % 312)) (word_at 207 52 4 bytes k) (correction 207 187 (word_at 207 52 4 bytes k))
    (length-word 207 52 4 bytes k) (λ code is. (correction_is 207 187 (word_at 207 52 4 bytes k) code is).codeword.long)

-- those of words, and of runs
pub each_whole : (at : ℕ → Received) → ((k : ℕ) → IsWhole (at k)) → (ks : List ℕ) → All IsWhole (map at ks)
each_whole at whole [] = All-nil IsWhole
each_whole at whole (k ∷ ks) = All-cons IsWhole (at k) (map at ks) (whole k) (each_whole at whole ks)

run_whole : (run : List (List ℤ)) → All IsWhole (run_packets (bytes_in run))
unfolding run_packets
run_whole run = grind (arith, each_whole, received_whole)

pub runs_whole : (packets : List (List ℤ) → List Received) → ((run : List (List ℤ)) → All IsWhole (packets run))
    → (list : List (List (List ℤ))) → All IsWhole (flat_map packets list)
runs_whole packets whole [] = All-nil IsWhole
runs_whole packets whole (run ∷ list) =
    All-append IsWhole (packets run) (flat_map packets list) (whole run) (runs_whole packets whole list)

pub all_whole : (segments : List (List ℤ)) → All (λ packet. length packet ≡ 188) (received segments)
unfolding received all_packets
all_whole segments = All-map (λ packet. length packet ≡ 188) (λ (r : Received). r.packet.0) (all_packets segments)
    (runs_whole (λ run. run_packets (bytes_in run)) run_whole (runs segments))
