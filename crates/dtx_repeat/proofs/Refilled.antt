-- Packets that are restored in place.
use Rattle.std.proofs.Common.{◌≡◌, ℕ, ◌+◌, ◌<◌, ◌%◌, List, [], ◌∷◌, ◌++◌, length, take, drop, get_or, set, sym, ap, ap₂}
use Rattle.std.proofs.Common.{◌∙◌, arith, append_assoc}
use Rattle.std.specs.List.{refill}
use Rattle.std.proofs.lemmas.List.{take_at, take_more, drop_more, get_or_at, set_at, length-take-le}
use Rattle.dtx_cadence.specs.Mark.{marked}
use Rattle.dtx_packets.specs.declared.packet.Packet.{Packet}
use Rattle.dtx_receiver.specs.declared.batch.Received.{Received}
use Rattle.dtx_repeat.specs.Restored.{restored_one, restored}
use Rattle.dtx_repeat.proofs.RestoredLemmas.{restored_none, restored_cons, restored_behind, length-restored}

-- all of a list are
pub refilled : (k : ℕ) (xs ys zs : List Received) → ys ≡ xs → zs ≡ restored k ys
    → refill (length xs) xs zs ≡ restored k xs
refilled k xs ys zs e f =
    let same : zs ≡ restored k xs = f ∙ ap (restored k) e in
    take_at zs (drop (length zs) xs) (length xs) (ap length same ∙ length-restored k xs) ∙ same

one_alone : (n : ℕ) (x : Received) → restored n (x ∷ []) ≡ restored_one n x ∷ []
one_alone n x = grind (arith, restored_cons, restored_none)

-- packet i of a list is, where those before it are
pub one_on : (k i n : ℕ) (xs now : List Received) (d : Received) (packet : Packet) → i < length xs
    → now ≡ restored k (take i xs) ++ drop i xs → n ≡ (k + i) % 624
    → packet.0 ≡ marked n (get_or now i d).packet.0
    → set now i (record { packet = packet; fixed = (get_or now i d).fixed; good = (get_or now i d).good })
    ≡ restored k (take (i + 1) xs) ++ drop (i + 1) xs
one_on k i n xs now d packet inside is place marks =
    ap₂ (λ a b. set a i b) split one
    ∙ set_at front x (drop (i + 1) xs) (restored_one n x) i long
    ∙ sym (append_assoc front (restored_one n x ∷ []) (drop (i + 1) xs)) ∙ sym more
  where
    front : List Received
    front = restored k (take i xs)

    x : Received
    x = get_or xs i d

    taken : length (take i xs) ≡ i
    taken = length-take-le i xs (omega (arith, inside))

    long : length front ≡ i
    long = length-restored k (take i xs) ∙ taken

    split : now ≡ front ++ x ∷ drop (i + 1) xs
    split = grind (arith, is, drop_more)

    here : get_or now i d ≡ x
    here = grind (arith, split, get_or_at, long)

    one : record { packet = packet; fixed = (get_or now i d).fixed; good = (get_or now i d).good } ≡ restored_one n x
    one =
        ap₂ (λ (bytes : List ℕ) (r : Received). record r { packet = record { 0 = bytes } })
        (marks ∙ ap (λ (r : Received). marked n r.packet.0) here) here

    more : restored k (take (i + 1) xs) ++ drop (i + 1) xs ≡ (front ++ restored_one n x ∷ []) ++ drop (i + 1) xs
    more =
        ap (λ z. restored k z ++ drop (i + 1) xs) (take_more xs i d inside)
        ∙ ap (λ z. z ++ drop (i + 1) xs)
        (restored_behind k n (take i xs) (x ∷ []) (omega (arith, place, taken))
        ∙ ap (λ z. front ++ z) (one_alone n x))

-- the place of the next packet
pub next_on : (k i n : ℕ) → n ≡ (k + i) % 624 → (n + 1) % 624 ≡ (k + (i + 1)) % 624
next_on k i n place = omega (arith, place)
