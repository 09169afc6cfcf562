-- Lemmas of the packets of a file, for those who read it piece by piece.
use Rattle.std.proofs.Common.{◌≡◌, ℕ, zero, suc, ◌+◌, ◌-◌, ◌*◌, ◌%◌, ◌<◌, ◌≤◌, List, [], ◌∷◌, ◌++◌, length, take, drop}
use Rattle.std.proofs.Common.{ap, sym, ◌∙◌, arith}
use Rattle.std.proofs.lemmas.List.{drop-drop, drop-take, take-take, length-append, length-take-le, length-drop}
use Rattle.std.proofs.lemmas.List.{map-append}
use Rattle.std.proofs.Math.Seq.{take-append_seam, drop-append_seam}
use Rattle.std.proofs.lemmas.List.FromFn.{get_or-map-range_with_len, length-map-range_with_len, fill_by_all}
use Rattle.std.specs.List.{range_with_len}
use Rattle.dtx_packets.specs.Packets.{packet_at, whole_packets, packets_from, packets_of}

range_with_len-append : (a m n : ℕ) → range_with_len a (m + n) ≡ range_with_len a m ++ range_with_len (a + m) n
range_with_len-append a zero n = grind arith
range_with_len-append a (suc m) n =
    let more : suc m + n ≡ suc (m + n) = omega arith in
    let next : a + 1 + m ≡ a + suc m = omega arith in
    ap (range_with_len a) more ∙ ap (λ xs. a ∷ xs) (rw (range_with_len-append (a + 1) m n, next))

-- the packets of two pieces, one behind the other
pub packets_from-append : (file : List ℕ) (first m n : ℕ)
    → packets_from file first (m + n) ≡ packets_from file first m ++ packets_from file (first + m) n
packets_from-append file first m n = grind (arith, range_with_len-append, map-append)

-- packet k of a piece
packet_at-piece : (file : List ℕ) (first n k : ℕ) → k < n
    → packet_at (take (188 * n) (drop (188 * first) file)) k ≡ packet_at file (first + k)
packet_at-piece file first n k within =
    ap (λ m. take 188 (drop (188 * k) (take m (drop (188 * first) file)))) (omega arith)
    ∙ ap (take 188) (drop-take (188 * k) (188 * n - 188 * k) (drop (188 * first) file))
    ∙ take-take 188 (188 * n - 188 * k) (drop (188 * k) (drop (188 * first) file)) (omega arith)
    ∙ ap (take 188) (drop-drop (188 * k) (188 * first) file ∙ ap (λ m. drop m file) (omega arith))

-- and how many they are
pub whole_packets-piece : (file : List ℕ) (first n : ℕ) → n ≤ whole_packets file - first
    → whole_packets (take (188 * n) (drop (188 * first) file)) ≡ n
whole_packets-piece file first n within = grind (arith, length-take-le, length-drop)

-- the packets of a piece of the file
pub packets_of-piece : (file : List ℕ) (first n : ℕ) → n ≤ whole_packets file - first
    → packets_of (take (188 * n) (drop (188 * first) file)) ≡ packets_from file first n
packets_of-piece file first n within =
    let piece = take (188 * n) (drop (188 * first) file) in
    ap (packets_from piece 0) (whole_packets-piece file first n within)
    ∙ sym (fill_by_all (packet_at piece) (packets_from file first n) n [] (grind (arith, length-map-range_with_len))
    (λ k less. grind (arith, get_or-map-range_with_len, packet_at-piece)))

-- how many whole packets are in bytes that follow whole packets
pub whole_packets-append : (a b : List ℕ) → length a % 188 ≡ 0
    → whole_packets (a ++ b) ≡ whole_packets a + whole_packets b
whole_packets-append a b whole = omega (arith, whole, length-append a b)

-- and which they are
pub packets_of-append : (a b : List ℕ) → length a % 188 ≡ 0 → packets_of (a ++ b) ≡ packets_of a ++ packets_of b
packets_of-append a b whole =
    let m = whole_packets a in
    let n = whole_packets b in
    let long : 188 * m ≡ length a = omega (arith, whole) in
    let both : whole_packets (a ++ b) ≡ m + n = whole_packets-append a b whole in
    let front : take (188 * m) (a ++ b) ≡ a = ap (λ k. take k (a ++ b)) long ∙ take-append_seam a b in
    let second : packets_of b ≡ packets_from (a ++ b) m n = sym (packets_of-piece b 0 n (omega arith))
    ∙ ap (λ z. packets_of (take (188 * n) z)) (sym (ap (λ k. drop k (a ++ b)) long ∙ drop-append_seam a b))
    ∙ packets_of-piece (a ++ b) m n (omega (arith, both)) in
    let place : 0 + m ≡ m = omega arith in
    ap (packets_from (a ++ b) 0) both ∙ packets_from-append (a ++ b) 0 m n
    ∙ ap (λ k. packets_from (a ++ b) 0 m ++ packets_from (a ++ b) k n) place ∙ ap (λ z. z ++ packets_from (a ++ b) m n)
    (sym (ap packets_of (sym front) ∙ packets_of-piece (a ++ b) 0 m (omega (arith, both))))
    ∙ ap (λ z. packets_of a ++ z) (sym second)
