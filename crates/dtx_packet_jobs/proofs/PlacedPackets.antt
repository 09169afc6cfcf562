-- Placeholders that are put, as the packets come.
use Rattle.std.proofs.Common.{◌≡◌, ◌≢◌, ℕ, ◌+◌, ◌-◌, ◌*◌, ◌/◌, ◌%◌, ◌<◌, ◌≤◌, Bool, true, false, not, ◌&&◌, ◌||◌, List}
use Rattle.std.proofs.Common.{[], ◌∷◌, ◌++◌, length, take, drop, map, get_or, refl, sym, ap, subst, ◌∙◌, arith, cond}
use Rattle.std.proofs.Common.{append_assoc, nat_le, inl, inr}
use Rattle.std.specs.Prelude.{◌⊎◌}
use Rattle.std.specs.List.{list_any, range_with_len}
use Rattle.std.proofs.lemmas.List.{append-nil, length-append, length-drop, length-set, take_all, take-append-le}
use Rattle.std.proofs.lemmas.List.{drop-append-le}
use Rattle.std.proofs.lemmas.Bool.{eqb-true, eq-eqb, ne_eqb, le-leb, lt-leb, and_left, and_right, or_left, cases_lt}
use Rattle.std.proofs.lemmas.Bool.{cond-true, cond-false, and_parts, not-false, not_from_true, or_cases, or_right}
use Rattle.std.proofs.lemmas.Bool.{false≢true, cases_Bool, cases_eq}
use Rattle.std.proofs.lemmas.List.{get_or-set_other, get_or-set_same}
use Rattle.std.proofs.lemmas.List.Folds.{list_any-append}
use Rattle.std.proofs.lemmas.List.FromFn.{length-map-range_with_len, map-range_with_len_more, get_or-map-range_with_len}
use Rattle.std.proofs.Math.ListN.{drop_of_length-le, get_or-append}
use Rattle.std.proofs.Math.Seq.{get_or-append_seam, take-append_seam}
use Rattle.dtx_lists.proofs.Range.{map-range_same}
use Rattle.dtx_adapter.specs.Feed.{is_placeholder}
use Rattle.dtx_packets.specs.Packets.{pid_of}
use Rattle.dtx_recipes.specs.Place.{as_placeholder, becomes, behind, is_null, is_open, placed, placed_one}

-- ---- lists, as they come

-- what holds of no packets, and of one more where it holds of some, holds of all
pub by_last : {X : Type 0} (Q : List X → Type 0) → Q [] → ((xs : List X) (x : X) → Q xs → Q (xs ++ x ∷ []))
    → (xs : List X) → Q xs
by_last {X} Q none more xs = on [] xs none
  where
    on : (front rest : List X) → Q front → Q (front ++ rest)
    on front [] holds = subst Q (sym (append-nil front)) holds
    on front (x ∷ rest) holds =
        subst Q (append_assoc front (x ∷ []) rest) (on (front ++ x ∷ []) rest (more front x holds))

-- a list each of whose elements is made of those of another up to it
abbrev pub scanned : {X Y : Type 0} → (List X → X → Y) → X → List X → List Y
scanned g d xs = map (λ k. g (take k xs) (get_or xs k d)) (range_with_len 0 (length xs))

pub length-scanned : {X Y : Type 0} (g : List X → X → Y) (d : X) (xs : List X) → length (scanned g d xs) ≡ length xs
length-scanned g d xs = length-map-range_with_len (λ k. g (take k xs) (get_or xs k d)) 0 (length xs)

pub scanned-next : {X Y : Type 0} (g : List X → X → Y) (d : X) (xs : List X) (x : X)
    → scanned g d (xs ++ x ∷ []) ≡ scanned g d xs ++ g xs x ∷ []
scanned-next {X} {Y} g d xs x =
    let n = length xs in
    let all = xs ++ x ∷ [] in
    let f = λ (k : ℕ). g (take k all) (get_or all k d) in
    let more : length all ≡ n + 1 = length-append xs (x ∷ []) in
    let same : (k : ℕ) → 0 ≤ k → k < 0 + n → f k ≡ g (take k xs) (get_or xs k d) =
    grind (arith, take-append-le, get_or-append) in
    let last : f n ≡ g xs x = ap (λ (t : List X). g t (get_or all n d)) (take-append_seam xs (x ∷ []))
    ∙ ap (g xs) (get_or-append_seam xs x [] d) in
    ap (λ (m : ℕ). map f (range_with_len 0 m)) more ∙ map-range_with_len_more f 0 n n (omega arith)
    ∙ ap (λ (ys : List Y). ys ++ f n ∷ []) (map-range_same f (λ k. g (take k xs) (get_or xs k d)) 0 n same)
    ∙ ap (λ (y : Y). scanned g d xs ++ y ∷ []) last

-- ---- packets

pub length-placed : (packets : List (List ℕ)) → length (placed packets) ≡ length packets
unfolding placed
length-placed packets = length-scanned placed_one [] packets

pub placed-next : (packets : List (List ℕ)) (packet : List ℕ)
    → placed (packets ++ packet ∷ []) ≡ placed packets ++ placed_one packets packet ∷ []
unfolding placed
placed-next packets packet = scanned-next placed_one [] packets packet

-- ---- the later part of a field

pub behind_same : (packets : List (List ℕ)) (packet : List ℕ) (f : ℕ) → 312 * f + 312 ≤ length packets
    → behind (packets ++ packet ∷ []) f ≡ behind packets f
behind_same packets packet f ended =
    let from = 312 * f + 52 in
    ap (take 260) (drop-append-le from packets (packet ∷ []) (omega (arith, ended)))
    ∙ take-append-le 260 (drop from packets) (packet ∷ []) (omega (arith, length-drop from packets, ended))

pub behind_more : (packets : List (List ℕ)) (packet : List ℕ) (f : ℕ) → 312 * f + 52 ≤ length packets
    → length packets < 312 * f + 312 → behind (packets ++ packet ∷ []) f ≡ behind packets f ++ packet ∷ []
behind_more packets packet f begun going =
    let from = 312 * f + 52 in
    let rest = drop from packets in
    let long : length rest ≡ length packets - from = length-drop from packets in
    ap (take 260) (drop-append-le from packets (packet ∷ []) begun)
    ∙ take_all 260 (rest ++ packet ∷ []) (omega (arith, length-append rest (packet ∷ []), long, begun, going))
    ∙ ap (λ (r : List (List ℕ)). r ++ packet ∷ []) (sym (take_all 260 rest (omega (arith, long, begun, going))))

pub behind_none : (packets : List (List ℕ)) (f : ℕ) → length packets ≤ 312 * f + 52 → behind packets f ≡ []
behind_none packets f before = ap (take 260) (drop_of_length-le packets before)

-- ---- one packet

null_pid : (packet : List ℕ) → is_null packet ≡ true → pid_of packet ≡ 0x1FFF
null_pid packet null = eqb-true (pid_of packet) 0x1FFF null

-- it has its byte 2
null_long : (packet : List ℕ) → pid_of packet ≡ 0x1FFF → 2 < length packet
null_long [] e = absurd (omega (arith, e))
null_long (a ∷ []) e = absurd (omega (arith, e))
null_long (a ∷ (b ∷ [])) e = absurd (omega (arith, e))
null_long (a ∷ (b ∷ (c ∷ rest))) e = omega arith

-- its packet identifier
pub pid-as_placeholder : (packet : List ℕ) → is_null packet ≡ true → pid_of (as_placeholder packet) ≡ 0x1FFA
unfolding as_placeholder
pid-as_placeholder packet null = grind (arith, null_long, null_pid, get_or-set_other, get_or-set_same)

pub is_placeholder-as_placeholder : (packet : List ℕ) → is_null packet ≡ true
    → is_placeholder (as_placeholder packet) ≡ true
unfolding is_placeholder
is_placeholder-as_placeholder packet null = grind (arith, eq-eqb, pid-as_placeholder)

pub is_null-as_placeholder : (packet : List ℕ) → is_null packet ≡ true → is_null (as_placeholder packet) ≡ false
is_null-as_placeholder packet null = grind (arith, ne_eqb, pid-as_placeholder)

-- where a field's later part has a packet that may become one or is one, what is placed has a placeholder there
one_same : (found null held : Bool) (before : List (List ℕ)) (packet : List ℕ) → is_null packet ≡ null
    → is_placeholder packet ≡ held → becomes before packet ≡ (null && not found)
    → (found || is_placeholder (placed_one before packet)) ≡ (found || is_open packet)
unfolding is_open
one_same true null held before packet n h b = refl
one_same false true held before packet n h b = grind (arith, cond-true, is_placeholder-as_placeholder, or_left)
one_same false false held before packet n h b =
    ap is_placeholder (cond-false (becomes before packet) (as_placeholder packet) packet b)
    ∙ ap (λ (t : Bool). t || is_placeholder packet) (sym n)

-- behind place 52 of a field
pub becomes_late : (before : List (List ℕ)) (packet : List ℕ) (f : ℕ) → 312 * f + 52 ≤ length before
    → length before < 312 * f + 312
    → becomes before packet ≡ (is_null packet && not (list_any is_open (behind before f)))
unfolding becomes
becomes_late before packet f begun going =
    let late : nat_le 52 (length before % 312) ≡ true = le-leb 52 (length before % 312) (omega (arith, begun, going)) in
    ap (λ (t : Bool). is_null packet && (t && not (list_any is_open (behind before (length before / 312))))) late
    ∙ ap (λ (g : ℕ). is_null packet && not (list_any is_open (behind before g))) (omega (arith, begun, going))

-- before it
pub becomes_early : (before : List (List ℕ)) (packet : List ℕ) → length before % 312 < 52
    → becomes before packet ≡ false
unfolding becomes
becomes_early before packet early = grind (arith, and_right, and_left, lt-leb)

or_none : (t : Bool) → (t || false) ≡ t
or_none true = refl
or_none false = refl

-- the later part of a field holds a placeholder in what is placed where it held a packet for one
pub any_more : (test : List ℕ → Bool) (packets : List (List ℕ)) (packet : List ℕ) (f : ℕ)
    → 312 * f + 52 ≤ length packets → length packets < 312 * f + 312
    → list_any test (behind (packets ++ packet ∷ []) f) ≡ (list_any test (behind packets f) || test packet)
any_more test packets packet f begun going = grind (arith, behind_more, list_any-append, or_none)

abbrev IsSameBehind : List (List ℕ) → Type 0
IsSameBehind packets = (f : ℕ)
    → list_any is_placeholder (behind (placed packets) f) ≡ list_any is_open (behind packets f)

any_same_more : (packets : List (List ℕ)) (packet : List ℕ) → IsSameBehind packets
    → IsSameBehind (packets ++ packet ∷ [])
any_same_more packets packet same f =
    let out = placed packets in
    let put = placed_one packets packet in
    let n = length packets in
    let long : length out ≡ n = length-placed packets in
    let all = packets ++ packet ∷ [] in
    let by_cases : (n < 312 * f + 52) ⊎ (312 * f + 52 ≤ n) → (n < 312 * f + 312) ⊎ (312 * f + 312 ≤ n)
    → list_any is_placeholder (behind (out ++ put ∷ []) f) ≡ list_any is_open (behind all f) = λ start end.
    elim start [
      | inl before ↦ grind (arith, behind_none, length-append)
      | inr begun ↦ elim end [
        | inl going ↦ any_more is_placeholder out put f (omega (arith, long, begun)) (omega (arith, long, going))
            ∙ ap (λ (t : Bool). t || is_placeholder put) (same f)
            ∙ one_same (list_any is_open (behind packets f)) (is_null packet) (is_placeholder packet) packets packet
            refl refl (becomes_late packets packet f begun going) ∙ sym (any_more is_open packets packet f begun going)
        | inr ended ↦ ap (list_any is_placeholder) (behind_same out put f (omega (arith, long, ended))) ∙ same f
            ∙ sym (ap (list_any is_open) (behind_same packets packet f ended))
      ]
    ] in
    ap (λ (o : List (List ℕ)). list_any is_placeholder (behind o f)) (placed-next packets packet)
    ∙ by_cases (cases_lt n (312 * f + 52)) (cases_lt n (312 * f + 312))

pub any_same : (packets : List (List ℕ)) (f : ℕ)
    → list_any is_placeholder (behind (placed packets) f) ≡ list_any is_open (behind packets f)
any_same = by_last IsSameBehind (λ f. grind (arith, behind_none, length-placed)) any_same_more

-- ---- placed twice

not_null : (before : List (List ℕ)) (packet : List ℕ) → is_null packet ≡ false → becomes before packet ≡ false
unfolding becomes
not_null before packet other = grind (arith, and_left)

was_null : (before : List (List ℕ)) (packet : List ℕ) → becomes before packet ≡ true → is_null packet ≡ true
unfolding becomes
was_null before packet is = grind (arith, and_parts)

-- a null packet that stays has a packet of its kind before it in its field
found_before : (before : List (List ℕ)) (packet : List ℕ) (f : ℕ) → 312 * f + 52 ≤ length before
    → length before < 312 * f + 312 → is_null packet ≡ true → becomes before packet ≡ false
    → list_any is_open (behind before f) ≡ true
found_before before packet f begun going null stays = grind (arith, not-false, becomes_late)

open_of_placeholder : (packets : List (List ℕ)) → list_any is_placeholder packets ≡ true
    → list_any is_open packets ≡ true
unfolding is_open
open_of_placeholder [] is = absurd (false≢true is)
open_of_placeholder (p ∷ ps) is = elim (or_cases (is_placeholder p) (list_any is_placeholder ps) is) [
  | inl here ↦ or_left (is_open p) (list_any is_open ps) (or_right (is_null p) (is_placeholder p) here)
  | inr there ↦ or_right (is_open p) (list_any is_open ps) (open_of_placeholder ps there)
]

-- it stays behind what became of those before it, too
still : (before : List (List ℕ)) (packet : List ℕ) → is_null packet ≡ true → becomes before packet ≡ false
    → becomes (placed before) packet ≡ false
still before packet null stays =
    let n = length before in
    let f = n / 312 in
    let long : length (placed before) ≡ n = length-placed before in
    elim (cases_lt (n % 312) 52) [
      | inl early ↦ becomes_early (placed before) packet (omega (arith, long, early))
      | inr late ↦ becomes_late (placed before) packet f (omega (arith, long, late)) (omega (arith, long))
          ∙ and_right (is_null packet) (not (list_any is_open (behind (placed before) f)))
          (not_from_true (list_any is_open (behind (placed before) f)) (open_of_placeholder (behind (placed before) f)
          (any_same before f ∙ found_before before packet f (omega (arith, late)) (omega arith) null stays)))
    ]

-- what became of a packet stays where it comes behind what became of those before it
again_one : (before : List (List ℕ)) (packet : List ℕ) (changed null : Bool) → becomes before packet ≡ changed
    → is_null packet ≡ null → becomes (placed before) (placed_one before packet) ≡ false
again_one before packet true null is n = grind (arith, not_null, cond-true, is_null-as_placeholder, was_null)
again_one before packet false false is n = not_null (placed before) (placed_one before packet)
    (ap is_null (cond-false (becomes before packet) (as_placeholder packet) packet is) ∙ n)
again_one before packet false true is n =
    ap (becomes (placed before)) (cond-false (becomes before packet) (as_placeholder packet) packet is)
    ∙ still before packet n is

pub placed_twice : (packets : List (List ℕ)) → placed (placed packets) ≡ placed packets
unfolding placed
placed_twice = by_last (λ packets. placed (placed packets) ≡ placed packets) none more
  where
    none : placed (placed []) ≡ placed []
    none = refl

    more : (packets : List (List ℕ)) (packet : List ℕ) → placed (placed packets) ≡ placed packets
        → placed (placed (packets ++ packet ∷ [])) ≡ placed (packets ++ packet ∷ [])
    more packets packet same = grind (arith, cond-false, again_one, placed-next)

-- ---- each packet of what is placed

pub placed_at : (packets : List (List ℕ)) (k : ℕ) → k < length packets
    → get_or (placed packets) k [] ≡ placed_one (take k packets) (get_or packets k [])
unfolding placed
placed_at packets k within = grind (arith, get_or-map-range_with_len)

-- one with another packet identifier stays
pub other_stays : (packets : List (List ℕ)) (k : ℕ) → k < length packets → pid_of (get_or packets k []) ≢ 0x1FFF
    → get_or (placed packets) k [] ≡ get_or packets k []
other_stays packets k within other = grind (arith, placed_at, cond-false, not_null, ne_eqb)

-- all bytes but byte 2 stay
pub bytes_stay : (packets : List (List ℕ)) (k j : ℕ) → k < length packets → j ≢ 2
    → get_or (get_or (placed packets) k []) j 0 ≡ get_or (get_or packets k []) j 0
unfolding as_placeholder
bytes_stay packets k j within other = grind (arith, placed_at, cases_Bool, cond-true, get_or-set_other, cond-false)

-- no byte grows: byte 2 of a packet that is changed is less by five
lower_one : (before : List (List ℕ)) (packet : List ℕ) (changed : Bool) → becomes before packet ≡ changed
    → get_or (cond changed (as_placeholder packet) packet) 2 0 ≤ get_or packet 2 0
unfolding as_placeholder
lower_one before packet true is = grind (arith, null_long, null_pid, was_null, get_or-set_same)
lower_one before packet false is = omega arith

pub bytes_lower : (packets : List (List ℕ)) (k j : ℕ) → k < length packets
    → get_or (get_or (placed packets) k []) j 0 ≤ get_or (get_or packets k []) j 0
bytes_lower packets k j within = grind (arith, cases_eq, placed_at, lower_one, bytes_stay)

pub lengths_stay : (packets : List (List ℕ)) (k : ℕ) → k < length packets
    → length (get_or (placed packets) k []) ≡ length (get_or packets k [])
unfolding as_placeholder
lengths_stay packets k within = grind (arith, placed_at, cases_Bool, cond-true, length-set, cond-false)

-- a packet that is changed has the packet identifier of a placeholder
pub changed_pid : (packets : List (List ℕ)) (k : ℕ) → k < length packets
    → becomes (take k packets) (get_or packets k []) ≡ true → pid_of (get_or (placed packets) k []) ≡ 0x1FFA
changed_pid packets k within is = grind (arith, placed_at, cond-true, pid-as_placeholder, was_null)
