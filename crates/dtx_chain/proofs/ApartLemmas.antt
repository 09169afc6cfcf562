-- Two packets that differ in their last byte alone: their codewords differ in 21 bytes, the fewest that two may differ
-- in. Between them lies a word that has eleven wrong bytes of the one and ten of the other.
use Rattle.std.proofs.Common.{◌≡◌, ◌≢◌, inl, inr, ℕ, zero, suc, ◌+◌, ◌*◌, ◌%◌, ◌<◌, ◌≤◌, ◌==◌, cond, List, [], ◌∷◌}
use Rattle.std.proofs.Common.{◌++◌, length, take, drop, replicate, get_or, sym, ap, ap₂, ◌∙◌, subst, arith, ◌-◌}
use Rattle.std.specs.Int.RustNames.{bit_xor}
use Rattle.std.proofs.lemmas.List.{length-append, length-drop, length-take-le, take-append-drop, take_at, ext_get_or}
use Rattle.std.proofs.lemmas.List.{get_or-take, get_or-drop, get_or_append_left, get_or-append_right, length-replicate}
use Rattle.std.proofs.lemmas.List.{get_or-replicate, drop_all, take-take}
use Rattle.std.proofs.Math.Seq.{drop-cons}
use Rattle.std.proofs.lemmas.List.FromFn.{get_or-map-range_with_len}
use Rattle.dtx_galois.specs.Field.{AreBytes}
use Rattle.dtx_galois.proofs.BytesLemmas.{bytes_append, bytes_drop}
use Rattle.dtx_laws.specs.Codeword.{distance}
use Rattle.dtx_laws.specs.Words.{codeword}
use Rattle.dtx_laws.specs.Whitening.{whitened}
use Rattle.dtx_laws.proofs.ChoiceLemmas.{codeword_begins, codeword_length}
use Rattle.dtx_laws.proofs.PartsLemmas.{bytes_take}
use Rattle.dtx_laws.proofs.WhiteningLemmas.{whitened_twice}
use Rattle.dtx_laws.proofs.WordsLemmas.{codewords_apart, distance_from_front, distance_comm, distance_through}
use Rattle.dtx_laws.proofs.WordsLemmas.{distance_self}
use Rattle.dtx_whiten.specs.Randomizer.{randomizer_byte, randomizer_bytes, randomized}
use Rattle.dtx_whiten.proofs.PacketsLemmas.{length-randomized, randomized_whitened}
use Rattle.dtx_outer.specs.Inner.{word_at}
use Rattle.dtx_receiver.specs.Packets.{received_at}
use Rattle.dtx_receiver.specs.declared.batch.Received.{Received}
use Rattle.dtx_chain.specs.Damage.{ArePackets, as_received, codeword_at, as_corrected}
use Rattle.dtx_chain.proofs.WordsLemmas.{is_codeword, corrected_back, packet_at}

-- ---- the packets

-- the packet with another last byte
abbrev pub other_last : List ℕ → List ℕ
other_last p = take 187 p ++ (get_or p 187 0 + 1) % 256 ∷ []

pub length-other : (p : List ℕ) → length p ≡ 188 → length (other_last p) ≡ 188
length-other p l = length-append (take 187 p) ((get_or p 187 0 + 1) % 256 ∷ [])
    ∙ ap (λ (n : ℕ). n + 1) (length-take-le 187 p (omega (arith, l)))

pub bytes_other : (p : List ℕ) → AreBytes p → AreBytes (other_last p)
bytes_other p b = bytes_append (take 187 p) ((get_or p 187 0 + 1) % 256 ∷ []) (bytes_take 187 p b) (omega arith, tt)

other_at : (p : List ℕ) (i : ℕ) → length p ≡ 188 → i < 187 → get_or (other_last p) i 0 ≡ get_or p i 0
other_at p i l m = get_or_append_left (take 187 p) ((get_or p 187 0 + 1) % 256 ∷ []) 0 i
    (omega (arith, m, length-take-le 187 p (omega (arith, l))))
    ∙ get_or-take 187 p i 0 m

other_end : (p : List ℕ) → length p ≡ 188 → get_or (other_last p) 187 0 ≡ (get_or p 187 0 + 1) % 256
other_end p l = get_or-append_right (take 187 p) ((get_or p 187 0 + 1) % 256 ∷ []) 187 187 0
    (length-take-le 187 p (omega (arith, l))) (omega arith)

pub other_differs : (p : List ℕ) → length p ≡ 188 → drop 1 (other_last p) ≡ drop 1 p → ⊥
other_differs p l e = grind (arith, other_end, get_or-drop)

-- ---- their codewords

-- the codeword of the packet p as packet k of a stream
abbrev pub code_of : ℕ → List ℕ → List ℕ
code_of k p = codeword 207 187 (randomized k p)

pub length-code : (k : ℕ) (p : List ℕ) → length (codeword 207 187 (randomized k p)) ≡ 207
length-code k p = codeword_length 207 187 (randomized k p) ∙ ap (λ (n : ℕ). n + 20) (length-randomized k p)

byte_at : (k i : ℕ) (p : List ℕ) → i < 187
    → get_or (code_of k p) i 0 ≡ bit_xor (get_or p (1 + i) 0) (randomizer_byte (187 * (k % 312) + i))
unfolding randomized
byte_at k i p m = sym (get_or-take 187 (code_of k p) i 0 m)
    ∙ ap (λ (x : List ℕ). get_or x i 0) (codeword_begins 207 187 (randomized k p) (length-randomized k p))
    ∙ get_or-map-range_with_len (λ j. bit_xor (get_or p (1 + j) 0) (randomizer_byte (187 * (k % 312) + j))) 0 187 i i 0
    m (omega arith)

front_same : (k : ℕ) (p : List ℕ) → length p ≡ 188 → take 186 (code_of k (other_last p)) ≡ take 186 (code_of k p)
front_same k p l =
    let long : length (take 186 (code_of k (other_last p))) ≡ 186 =
    length-take-le 186 (code_of k (other_last p)) (omega (arith, length-code k (other_last p))) in
    ext_get_or 0 (take 186 (code_of k (other_last p))) (take 186 (code_of k p))
    (long ∙ sym (length-take-le 186 (code_of k p) (omega (arith, length-code k p)))) (λ i m.
    get_or-take 186 (code_of k (other_last p)) i 0 (omega (arith, m, long)) ∙ byte_at k i (other_last p) (omega arith)
    ∙ ap (λ (x : ℕ). bit_xor x (randomizer_byte (187 * (k % 312) + i))) (other_at p (1 + i) l (omega arith))
    ∙ sym (byte_at k i p (omega arith)) ∙ sym (get_or-take 186 (code_of k p) i 0 (omega (arith, m, long))))

codes_differ : (k : ℕ) (p : List ℕ) → length p ≡ 188 → code_of k (other_last p) ≡ code_of k p → ⊥
codes_differ k p l e =
    let q : List ℕ = other_last p in
    let m : length q ≡ 188 = length-other p l in
    other_differs p l (sym (whitened_twice randomizer_bytes (drop 1 q) (187 * (k % 312)))
    ∙ ap (whitened randomizer_bytes (187 * (k % 312))) (sym (randomized_whitened k q m)
    ∙ (sym (codeword_begins 207 187 (randomized k q) (length-randomized k q)) ∙ ap (take 187) e
    ∙ codeword_begins 207 187 (randomized k p) (length-randomized k p)) ∙ randomized_whitened k p l)
    ∙ whitened_twice randomizer_bytes (drop 1 p) (187 * (k % 312)))

codes_far : (k : ℕ) (p : List ℕ) → length p ≡ 188 → AreBytes p → 21 ≤ distance (code_of k (other_last p)) (code_of k p)
codes_far k p l b = elim (codewords_apart 207 187 (code_of k (other_last p)) (code_of k p) (omega arith)
    (is_codeword k (other_last p) (length-other p l) (bytes_other p b)) (is_codeword k p l b)) [
      | inl e ↦ absurd (codes_differ k p l e)
      | inr h ↦ omega (arith, h)
    ]

-- ---- words that end alike

ends_alike : (xs ys zs : List ℕ) → length xs ≡ length ys → distance (xs ++ zs) (ys ++ zs) ≡ distance xs ys
ends_alike [] [] zs l = distance_self zs
ends_alike [] (y ∷ ys) zs l = absurd (omega (arith, l))
ends_alike (x ∷ xs) [] zs l = absurd (omega (arith, l))
ends_alike (x ∷ xs) (y ∷ ys) zs l = ap (λ (n : ℕ). cond (x == y) 0 1 + n) (ends_alike xs ys zs (omega (arith, l)))

-- the first n of one and the rest of the other differ from that other in n - 186 places at most
within_front : (k n : ℕ) (p : List ℕ) → length p ≡ 188 → 186 ≤ n → n ≤ 207
    → distance (take n (code_of k (other_last p)) ++ drop n (code_of k p)) (code_of k p) ≤ n - 186
within_front k n p l a b =
    let c : List ℕ = code_of k p in
    let d : List ℕ = code_of k (other_last p) in
    let long : length (take n d) ≡ n = length-take-le n d (omega (arith, b, length-code k (other_last p))) in
    let near : distance (take n d) (take n c) ≤ length (take n d) - 186 = distance_from_front 186 (take n d) (take n c)
    (take-take 186 n d a ∙ front_same k p l ∙ sym (take-take 186 n c a)) in
    let same : distance (take n d ++ drop n c) c ≡ distance (take n d) (take n c) =
    ap (distance (take n d ++ drop n c)) (sym (take-append-drop n c)) ∙ ends_alike (take n d) (take n c) (drop n c)
    (long ∙ sym (length-take-le n c (omega (arith, b, length-code k p)))) in
    omega (arith, near, same, long)

-- the last bytes differ
pub last_differs : (k : ℕ) (p : List ℕ) → length p ≡ 188 → AreBytes p
    → get_or (codeword 207 187 (randomized k (other_last p))) 206 0 ≡ get_or (codeword 207 187 (randomized k p)) 206 0
    → ⊥
last_differs k p l b e =
    let c : List ℕ = code_of k p in
    let d : List ℕ = code_of k (other_last p) in
    let own : d ≡ take 206 d ++ drop 206 c = sym (take-append-drop 206 d) ∙ ap (λ (x : List ℕ). take 206 d ++ x)
    (last_one d (length-code k (other_last p)) ∙ ap (λ (x : ℕ). x ∷ []) e ∙ sym (last_one c (length-code k p))) in
    let near = within_front k 206 p l (omega arith) (omega arith) in
    let far = codes_far k p l b in
    omega (arith, far, near, ap (λ (x : List ℕ). distance x c) own)
  where
    last_one : (x : List ℕ) → length x ≡ 207 → drop 206 x ≡ get_or x 206 0 ∷ []
    last_one x m = rw (drop-cons x 206 0 (omega (arith, m)), drop_all 207 x (omega (arith, m)))

-- ---- a word between them

-- the first 197 bytes of the other packet's codeword, and the last ten of the packet's own
abbrev pub between : ℕ → List ℕ → List ℕ
between k p = take 197 (codeword 207 187 (randomized k (other_last p))) ++ drop 197 (codeword 207 187 (randomized k p))

length-between : (k : ℕ) (p : List ℕ) → length (between k p) ≡ 207
length-between k p = length-append (take 197 (code_of k (other_last p))) (drop 197 (code_of k p))
    ∙ ap₂ (λ (x y : ℕ). x + y) (length-take-le 197 (code_of k (other_last p))
    (grind (arith, length-code))) (length-drop 197 (code_of k p) ∙ ap (λ (n : ℕ). n - 197) (length-code k p))

bytes_between : (k : ℕ) (p : List ℕ) → length p ≡ 188 → AreBytes p → AreBytes (between k p)
bytes_between k p l b = bytes_append (take 197 (code_of k (other_last p))) (drop 197 (code_of k p))
    (bytes_take 197 (code_of k (other_last p))
    (is_codeword k (other_last p) (length-other p l) (bytes_other p b)).bytes)
    (bytes_drop (take 197 (code_of k p)) (drop 197 (code_of k p))
    (subst AreBytes (sym (take-append-drop 197 (code_of k p))) (is_codeword k p l b).bytes))

near_other : (k : ℕ) (p : List ℕ) → distance (between k p) (code_of k (other_last p)) ≤ 10
near_other k p =
    let near = distance_from_front 197 (between k p) (code_of k (other_last p))
    (take_at (take 197 (code_of k (other_last p))) (drop 197 (code_of k p)) 197
    (length-take-le 197 (code_of k (other_last p)) (omega (arith, length-code k (other_last p))))) in
    omega (arith, near, length-between k p)

pub eleven_wrong : (k : ℕ) (p : List ℕ) → length p ≡ 188 → AreBytes p
    → distance (between k p) (codeword 207 187 (randomized k p)) ≡ 11
eleven_wrong k p l b =
    let far = codes_far k p l b in
    let near = within_front k 197 p l (omega arith) (omega arith) in
    let through = distance_through (code_of k (other_last p)) (between k p) (code_of k p)
    (length-code k (other_last p) ∙ sym (length-between k p)) (length-between k p ∙ sym (length-code k p)) in
    omega (arith, far, near, through, near_other k p, distance_comm (code_of k (other_last p)) (between k p))

-- it gives the other packet back

others : (n : ℕ) (p : List ℕ) → length p ≡ 188 → AreBytes p → ArePackets (replicate n p)
others zero p l b = tt
others (suc n) p l b = ((l, b), others n p l b)

gives_other : (f j : ℕ) (p y : List ℕ) → length p ≡ 188 → AreBytes p → f % 312 ≡ 0
    → word_at 207 52 4 y j ≡ between (f + j) p → (received_at y j).packet.0 ≡ as_received (other_last p)
unfolding codeword_at as_corrected
gives_other f j p y l b z e =
    let q : List ℕ = other_last p in
    let ps : List (List ℕ) = replicate (f + j + 1) q in
    let there : get_or ps (f + j) [] ≡ q = get_or-replicate (f + j + 1) (f + j) q [] (omega arith) in
    ap (λ (r : Received). r.packet.0) (corrected_back ps y f j
    (others (f + j + 1) q (length-other p l) (bytes_other p b)) z (omega (arith, length-replicate (f + j + 1) q))
    (rw e (rw there (near_other (f + j) p)))) ∙ ap as_received there

pub goes_elsewhere : (ps : List (List ℕ)) (f j : ℕ) → ArePackets ps → f % 312 ≡ 0 → f + j < length ps
    → (word : List ℕ) × (length word ≡ 207) × AreBytes word × (distance word (codeword_at ps (f + j)) ≡ 11)
    × ((y : List ℕ) → word_at 207 52 4 y j ≡ word → (received_at y j).packet.0 ≢ as_received (get_or ps (f + j) []))
unfolding codeword_at as_received
goes_elsewhere ps f j h z l =
    let p : List ℕ = get_or ps (f + j) [] in
    let own : (length (get_or ps (f + j) []) ≡ 188) × AreBytes (get_or ps (f + j) []) = packet_at ps (f + j) h l in (
      between (f + j) p,
      length-between (f + j) p,
      bytes_between (f + j) p own.0 own.1,
      eleven_wrong (f + j) p own.0 own.1,
      λ y e g. other_differs p own.0 (ap (drop 1) (sym (gives_other f j p y own.0 own.1 z e) ∙ g)),
    )
