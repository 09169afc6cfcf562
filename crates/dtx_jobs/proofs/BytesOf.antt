-- The bytes of packets, one packet more.
use Rattle.std.proofs.Common.{◌≡◌, ℕ, ◌+◌, ◌<◌, List, [], ◌∷◌, ◌++◌, length, take, get_or, sym, ap, ◌∙◌, arith}
use Rattle.std.proofs.lemmas.List.{take_more, append_assoc, append-nil}
use Rattle.dtx_receiver.specs.declared.batch.Received.{Received}
use Rattle.dtx_recipes.specs.Giving.{bytes_of}
use Rattle.dtx_recipes.proofs.GivingLemmas.{bytes_of-append}

bytes_on : (before : List ℕ) (packets : List Received) (i : ℕ) (d : Received) → i < length packets
    → (before ++ bytes_of (take i packets)) ++ (get_or packets i d).packet.0 ≡ before ++ bytes_of (take (i + 1) packets)
bytes_on before packets i d within = append_assoc before (bytes_of (take i packets)) ((get_or packets i d).packet.0)
    ∙ ap (λ z. before ++ z) (
    ap (λ z. bytes_of (take i packets) ++ z) (sym (append-nil ((get_or packets i d).packet.0)))
    ∙ sym (ap bytes_of (take_more packets i d within) ∙ bytes_of-append (take i packets) (get_or packets i d ∷ [])))

-- in a buffer
pub gathered_on : (before mid now : List ℕ) (packets : List Received) (i : ℕ) (d : Received)
    → now ≡ mid ++ (get_or packets i d).packet.0 → mid ≡ before ++ bytes_of (take i packets) → i < length packets
    → now ≡ before ++ bytes_of (take (i + 1) packets)
gathered_on before mid now packets i d is so_far within = grind (arith, bytes_on)
