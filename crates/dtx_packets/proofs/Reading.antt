-- What a reader gives: the step over the bytes that it read, and the packets into which they are cut.
use Rattle.std.proofs.Common.{◌≡◌, ℕ, zero, suc, ◌-◌, ◌*◌, ◌/◌, ◌<◌, ◌≤◌, List, ◌++◌, length, take, drop, map, ap, sym}
use Rattle.std.proofs.Common.{◌∙◌, arith}
use Rattle.std.proofs.lemmas.List.{take-append-le, take-take}
use Rattle.std.specs.Prelude.{Option, Some, None, Result, Ok, Err, IfSome, IsSomeAnd, min, max}
use Rattle.dtx_outside.specs.Shelf.{Fills, Files}
use Rattle.std.specs.FinMap.{get}
use Rattle.dtx_packets.specs.declared.packet.Packet.{Packet}
use Rattle.dtx_packets.specs.Packets.{whole_packets, packets_of}
use Rattle.dtx_packets.specs.declared.refusal.NextNo.{NextNo}
use Rattle.dtx_packets.specs.Reading.{Reading, next_of, IsAdvance, AreNext, IsStep, IsLeft}
use Rattle.dtx_packets.proofs.PacketLemmas.{packets_of-piece, whole_packets-piece}

cut_of_file : (found : Option (List ℕ)) (old new : Reading) (n : ℕ) (bytes part : List ℕ) (into : List Packet)
    → whole_packets bytes ≡ length into → part ≡ take (188 * n) bytes
    → IsAdvance found old (Ok n) bytes new → map (λ p. p.0) (take (whole_packets part) into) ≡ packets_of part
    → AreNext found old (Ok n) into new
cut_of_file None old new n bytes part into room is_part advance cut = absurd advance
cut_of_file (Some file) old new n bytes part into room is_part advance cut =
    grind (arith, whole_packets-piece, packets_of-piece)

pub are_next : (told : Option Files) (name : List ℕ) (old new : Reading) (n m : ℕ) (bytes : List ℕ) (into : List Packet)
    → whole_packets bytes ≡ length into → m ≡ 188 * n
    → IfSome told (λ held. IsAdvance (get held name) old (Ok n) bytes new)
    → map (λ p. p.0) (take (whole_packets (take m bytes)) into) ≡ packets_of (take m bytes)
    → IfSome told (λ held. AreNext (get held name) old (Ok n) into new)
are_next None name old new n m bytes into room size advance cut = tt
are_next (Some held) name old new n m bytes into room size advance cut = grind (arith, cut_of_file)

-- how many packets are whole where as many bytes were read as fit and as are left
whole_read : (wanted left filled : ℕ) → filled ≡ min (188 * wanted) left → filled / 188 ≡ min wanted (left / 188)
whole_read wanted left filled count = omega (arith, count)

-- of the packets that fit, those that the limit allows
limited : (room left wanted some n : ℕ) → 0 < room → wanted ≡ min room (max 1 left) → n ≡ min wanted some
    → (0 < n → 0 < left) → n ≡ min room (min left some)
limited room left wanted some zero any wanted_is n_is allowed = omega (arith, any, wanted_is, n_is)
limited room left wanted some (suc n) any wanted_is n_is allowed = omega (arith, wanted_is, n_is, allowed (omega arith))

step_of_file : (found : Option (List ℕ)) (old new : Reading) (filled wanted : ℕ) (result : Result ℕ NextNo)
    (into rest : List ℕ) → 0 < whole_packets (into ++ rest)
    → wanted ≡ min (whole_packets (into ++ rest)) (max 1 (old.limit - old.given)) → length into ≡ 188 * wanted
    → IsSomeAnd found (λ file. Fills file (188 * next_of old) filled into) → IsStep old filled result new
    → IsAdvance found old result (into ++ rest) new
step_of_file None old new filled wanted result into rest any wanted_is long fills step = absurd fills
step_of_file (Some file) old new filled wanted (Ok n) into rest any wanted_is long fills step =
    let left = length file - 188 * next_of old in
    let count : filled ≡ min (188 * wanted) left = fills.count ∙ ap (λ l. min l left) long in
    let n_is : n ≡ min wanted (left / 188) = step.0 ∙ whole_read wanted left filled count in
    let whole : 188 * n ≤ filled = omega (arith, step.0) in
    let least : 0 < wanted = omega (arith, any, wanted_is) in (
      record {
        least = limited (whole_packets (into ++ rest)) (old.limit - old.given) wanted
            (whole_packets file - next_of old) n
            any wanted_is (n_is ∙ ap (min wanted) (omega arith)) (λ given. omega (arith, (step.2 given).0));
        none = λ z. record {
          none_left = omega (arith, n_is, z, least);
          loose = ap (λ (r : Reading). r.loose) (step.1 z) ∙ omega (arith, count, step.0, z, least);
        };
      },
      take-append-le (188 * n) into rest (omega (arith, whole, count, long))
          ∙ sym (take-take (188 * n) filled into whole)
          ∙ ap (take (188 * n)) fills.bytes ∙ take-take (188 * n) filled (drop (188 * next_of old) file) whole,
    )
step_of_file (Some file) old new filled wanted (Err refusal) into rest any wanted_is long fills step = grind arith

pub step_of_told : (told : Option Files) (name : List ℕ) (old new : Reading) (filled wanted : ℕ)
    (result : Result ℕ NextNo) (into rest : List ℕ) → 0 < whole_packets (into ++ rest)
    → wanted ≡ min (whole_packets (into ++ rest)) (max 1 (old.limit - old.given)) → length into ≡ 188 * wanted
    → IfSome told (λ held. IsSomeAnd (get held name) (λ file. Fills file (188 * next_of old) filled into))
    → IsStep old filled result new → IfSome told (λ held. IsAdvance (get held name) old result (into ++ rest) new)
step_of_told None name old new filled wanted result into rest any wanted_is long fills step = tt
step_of_told (Some held) name old new filled wanted result into rest any wanted_is long fills step =
    step_of_file (get held name) old new filled wanted result into rest any wanted_is long fills step

-- and what is left, whatever the file
pub step_leaves : (old new : Reading) (filled wanted room : ℕ) (result : Result ℕ NextNo) → wanted ≤ room
    → wanted ≤ max 1 (old.limit - old.given) → filled ≤ 188 * wanted → IsStep old filled result new
    → IsLeft old room result new
step_leaves old new filled wanted room (Ok n) within allowed fits step = grind arith
step_leaves old new filled wanted room (Err refusal) within allowed fits step = grind arith
