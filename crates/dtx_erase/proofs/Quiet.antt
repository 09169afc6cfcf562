-- Marks that are all clear: zeros pass the branches, and after 13 groups of them these hold nothing else.
use Rattle.std.proofs.Common.{◌≡◌, ◌≢◌, ℕ, ℤ, zero, suc, ◌+◌, ◌-◌, ◌*◌, ◌/◌, ◌%◌, ◌<◌, ◌≤◌, ◌⊎◌, ◌==◌, nat_lt, Bool}
use Rattle.std.proofs.Common.{pos, negsuc, true, false, not, cond, List, [], ◌∷◌, ◌++◌, map, length, get_or, set, take}
use Rattle.std.proofs.Common.{drop, replicate, refl, sym, ap, ap₂, ◌∙◌, subst, inl, inr, arith, add-zero, append_assoc}
use Rattle.std.specs.Int.{w8, cast_signed}
use Rattle.std.specs.List.{range_with_len, AllByRecursion}
use Rattle.std.proofs.lemmas.Bool.{true≢false, cases_lt, cases_eq, eq-eqb, ne_eqb, lt-ltb, le-ltb}
use Rattle.std.proofs.lemmas.List.{length-replicate, set-get_or, replicate-append-replicate, take-replicate}
use Rattle.std.proofs.lemmas.List.{drop-replicate, drop-map, get_or-drop, length-drop, append-nil, length-append}
use Rattle.std.proofs.lemmas.List.{length-map, length_push, get_or-map, get_or_append_left, get_or-append-add}
use Rattle.dtx_laws.specs.Branches.{Branching, HasWidths, gathering, leaving_all, after_all, after_byte}
use Rattle.dtx_laws.proofs.InterleavingLemmas.{HasWidths-all}
use Rattle.dtx_laws.proofs.PlacesLemmas.{Holds, Holds-step, Holds-turn, after_append}
use Rattle.dtx_slice.specs.Unrolled.{symbol_place, precoder_bit, pair_from, pair_back, byte_back, bytes_back}
use Rattle.dtx_slice.specs.Unrolled.{level_groups, precoder_bits_after}
use Rattle.dtx_slice.specs.Slicing.{sliced, sliced_data}
use Rattle.dtx_receiver.specs.Bytes.{data_count, bytes_in, symbols_in, symbols_of}
use Rattle.dtx_receiver.specs.Receiver.{AreGrouped}
use Rattle.dtx_receiver.proofs.GroupedLemmas.{flat, grouping, grouped_data, grouped_group, grouped_none}
use Rattle.dtx_receiver.proofs.LevelsLemmas.{part_now, not_due_now}
use Rattle.dtx_erase.specs.Sides as sides
use Rattle.dtx_erase.specs.Marks.{shown, shown_run}
use Rattle.dtx_erase.specs.Sides.{Side, HaveCome, AreClear, IsFurther, IsQuiet, AreKnown}
use Rattle.dtx_erase.proofs.Mendings.{shown_other}
use Rattle.dtx_erase.proofs.Stands.{further}

abbrev zeros : ℕ → List ℕ
zeros n = replicate {A = ℕ} n 0

pub zero_at : (n i : ℕ) → get_or (zeros n) i 0 ≡ 0
zero_at zero i = refl
zero_at (suc n) zero = refl
zero_at (suc n) (suc i) = zero_at n i

pub none_set : (t : Bool) → not t ≡ true → t ≡ false
none_set true e = sym e
none_set false e = refl

past_end : (xs : List ℕ) (k : ℕ) → length xs ≤ k → get_or xs k 0 ≡ 0
past_end [] k l = refl
past_end (x ∷ xs) zero l = absurd (omega (arith, l))
past_end (x ∷ xs) (suc k) l = past_end xs k (omega (arith, l))

-- ---- what the branches hold after zeros

-- after m bytes, counted from branch 0 of the turn on in which the first came, branch i holds what e says
record Come (w : ℕ → ℕ) (e : ℕ → ℕ → ℕ) (m : ℕ) (v : Branching) : Type 0 where
  q : ℕ
  below : v.next < 52
  count : 52 * q + v.next ≡ m
  holds : Holds 52 w e q v.next v.lists

come_byte : (w : ℕ → ℕ) (e : ℕ → ℕ → ℕ) (m : ℕ) (v : Branching) (c : Come w e m v) → 0 ≡ e v.next (c.q + w v.next)
    → Come w e (m + 1) (after_byte 52 v 0)
come_byte w e m v c z = by_end (cases_eq (v.next + 1) 52)
  where
    lists : List (List ℕ)
    lists = set v.lists v.next (drop 1 (get_or v.lists v.next [] ++ 0 ∷ []))

    further : Holds 52 w e c.q (suc v.next) lists
    further = Holds-step 52 w e c.q v.next v.lists 0 c.holds c.below z

    by_end : (v.next + 1 ≡ 52) ⊎ (v.next + 1 ≡ 52 → ⊥) → Come w e (m + 1) (after_byte 52 v 0)
    by_end (inl h) =
        let n : cond (v.next + 1 == 52) 0 (v.next + 1) ≡ 0 =
        ap (λ (t : Bool). cond t 0 (v.next + 1)) (eq-eqb (v.next + 1) 52 h) in
        record {
          q = c.q + 1;
          below = omega (arith, n);
          count = omega (arith, n, c.count, h);
          holds = subst (λ (r : ℕ). Holds 52 w e (c.q + 1) r lists) (sym n)
              (Holds-turn 52 w e c.q lists (subst (λ (r : ℕ). Holds 52 w e c.q r lists) (next v.next h) further));
        }
      where
        next : (r : ℕ) → r + 1 ≡ 52 → suc r ≡ 52
        next r h = omega (arith, h)
    by_end (inr h) =
        let n : cond (v.next + 1 == 52) 0 (v.next + 1) ≡ v.next + 1 =
        ap (λ (t : Bool). cond t 0 (v.next + 1)) (ne_eqb (v.next + 1) 52 h) in
        record {
          q = c.q;
          below = omega (arith, n, c.below, h);
          count = omega (arith, n, c.count);
          holds = subst (λ (r : ℕ). Holds 52 w e c.q r lists) (next v.next ∙ sym n) further;
        }
      where
        next : (r : ℕ) → suc r ≡ r + 1
        next r = omega arith

come_all : (w : ℕ → ℕ) (e : ℕ → ℕ → ℕ) (m n : ℕ) (v : Branching) → Come w e m v
    → ((q r : ℕ) → m ≤ 52 * q + r → r < 52 → 0 ≡ e r (q + w r)) → Come w e (m + n) (after_all 52 v (zeros n))
unfolding after_all
come_all w e m zero v c z = subst (λ (k : ℕ). Come w e k v) (sym (add-zero m)) c
come_all w e m (suc n) v c z = subst (λ (k : ℕ). Come w e k (after_all 52 (after_byte 52 v 0) (zeros n))) (further m n)
    (come_all w e (m + 1) n (after_byte 52 v 0) (come_byte w e m v c (z c.q v.next (omega (arith, c.count)) c.below))
    (λ q r l h. z q r (omega (arith, l)) h))
  where
    further : (m n : ℕ) → m + 1 + n ≡ m + suc n
    further m n = omega arith

-- all that ever stands in branch i where zeros come: what it holds, behind one byte where the turn is past it
held_first : ℕ → List (List ℕ) → ℕ → ℕ → ℕ
held_first r lists i k = get_or (cond (nat_lt i r) (0 ∷ get_or lists i []) (get_or lists i [])) k 0

nothing_behind : (t : Bool) (xs : List ℕ) (k : ℕ) → length xs + 1 ≤ k → get_or (cond t (0 ∷ xs) xs) k 0 ≡ 0
nothing_behind true xs k l = past_end (0 ∷ xs) k (omega (arith, l))
nothing_behind false xs k l = past_end xs k (omega (arith, l))

come_first : (w : ℕ → ℕ) (v : Branching) → HasWidths 52 w v → Come w (held_first v.next v.lists) v.next v
unfolding held_first
come_first w v h = record {
  q = 0;
  below = h.next;
  count = omega arith;
  holds = record {
    count = h.count;
    long = h.long;
    early = λ i j p k. ap (λ (n : ℕ). get_or (0 ∷ get_or v.lists i []) n 0) (next j)
        ∙ sym (ap (λ (t : Bool). get_or (cond t (0 ∷ get_or v.lists i []) (get_or v.lists i [])) (0 + 1 + j) 0)
        (lt-ltb i v.next p));
    late = λ i j p o k. ap (λ (n : ℕ). get_or (get_or v.lists i []) n 0) (same j)
        ∙ sym (ap (λ (t : Bool). get_or (cond t (0 ∷ get_or v.lists i []) (get_or v.lists i [])) (0 + j) 0)
        (le-ltb i v.next p));
  };
}
  where
    next : (j : ℕ) → suc j ≡ 0 + 1 + j
    next j = omega arith

    same : (j : ℕ) → j ≡ 0 + j
    same j = omega arith

-- a zero comes where each branch has nothing more
zero_comes : (w : ℕ → ℕ) (v : Branching) → HasWidths 52 w v → (q r : ℕ) → v.next ≤ 52 * q + r → r < 52
    → 0 ≡ held_first v.next v.lists r (q + w r)
unfolding held_first
zero_comes w v h q r l m = grind (arith, cases_lt, nothing_behind, le-ltb, past_end)

-- after 13 groups of zeros the branches hold zeros alone
pub clear_after : (v : Branching) → HasWidths 52 (gathering 52 4) v → AreClear (after_all 52 v (zeros (828 * 13)))
unfolding held_first
clear_after v h i j l = elim (cases_lt j (gathering 52 4 i)) [
  | inl m ↦ by_place m (cases_lt i (after_all 52 v (zeros (828 * 13))).next)
  | inr m ↦ past_end (get_or (after_all 52 v (zeros (828 * 13))).lists i []) j (omega (arith, come.holds.long i l, m))
]
  where
    come : Come (gathering 52 4) (held_first v.next v.lists) (v.next + 828 * 13) (after_all 52 v (zeros (828 * 13)))
    come = come_all (gathering 52 4) (held_first v.next v.lists) v.next (828 * 13) v
        (come_first (gathering 52 4) v h) (zero_comes (gathering 52 4) v h)

    turns : come.q ≡ 207
    turns = omega (arith, come.count, come.below, h.next)

    none : (k : ℕ) → come.q ≤ k → held_first v.next v.lists i k ≡ 0
    none k m = nothing_behind (nat_lt i v.next) (get_or v.lists i []) k (omega (arith, h.long i l, m, turns))

    by_place : j < gathering 52 4 i → (i < (after_all 52 v (zeros (828 * 13))).next)
        ⊎ ((after_all 52 v (zeros (828 * 13))).next ≤ i)
        → get_or (get_or (after_all 52 v (zeros (828 * 13))).lists i []) j 0 ≡ 0
    by_place m (inl p) = come.holds.early i j p m ∙ none (come.q + 1 + j) (omega arith)
    by_place m (inr p) = come.holds.late i j p l m ∙ none (come.q + j) (omega arith)

-- ---- zeros to branches of zeros

push_zero : (x : ℕ) (xs : List ℕ) → x ≡ 0 → ((j : ℕ) → get_or xs j 0 ≡ 0) → xs ++ 0 ∷ [] ≡ x ∷ xs
push_zero x [] e h = ap (λ (y : ℕ). y ∷ []) (sym e)
push_zero x (y ∷ ys) e h = ap₂ (λ (z : ℕ) (zs : List ℕ). z ∷ zs) (h 0 ∙ sym e) (push_zero y ys (h 0) (λ j. h (suc j)))

zeros_moved : (xs : List ℕ) → ((j : ℕ) → get_or xs j 0 ≡ 0) → drop 1 (xs ++ 0 ∷ []) ≡ xs
zeros_moved [] h = refl
zeros_moved (x ∷ xs) h = push_zero x xs (h 0) (λ j. h (suc j))

zero_leaves : (xs : List ℕ) → ((j : ℕ) → get_or xs j 0 ≡ 0) → get_or (xs ++ 0 ∷ []) 0 0 ≡ 0
zero_leaves [] h = refl
zero_leaves (x ∷ xs) h = h 0

abbrev next_of : ℕ → ℕ
next_of r = cond (r + 1 == 52) 0 (r + 1)

byte_clear : (v : Branching) → AreClear v → v.next < 52
    → after_byte 52 v 0 ≡ record { next = next_of v.next; lists = v.lists }
byte_clear v c l = grind (arith, zeros_moved, set-get_or)

next_is : (r : ℕ) → r < 52 → next_of r ≡ (r + 1) % 52
next_is r l = grind (arith, cases_eq, eq-eqb, ne_eqb)

pub clear_stays : (n : ℕ) (v : Branching) → AreClear v → v.next < 52
    → after_all 52 v (zeros n) ≡ record { next = (v.next + n) % 52; lists = v.lists }
unfolding after_all
clear_stays zero v c l = ap (λ (r : ℕ). record { next = r; lists = v.lists }) (omega arith)
clear_stays (suc n) v c l = ap (λ (u : Branching). after_all 52 u (zeros n)) (byte_clear v c l)
    ∙ clear_stays n (record { next = next_of v.next; lists = v.lists }) c (omega (arith, next_is v.next l))
    ∙ ap (λ (r : ℕ). record { next = r; lists = v.lists }) (omega (arith, next_is v.next l))

pub clear_leaves : (n : ℕ) (v : Branching) → AreClear v → v.next < 52 → leaving_all 52 v (zeros n) ≡ zeros n
unfolding leaving_all
clear_leaves zero v c l = refl
clear_leaves (suc n) v c l = ap₂ (λ (x : ℕ) (xs : List ℕ). x ∷ xs) (grind (arith, zero_leaves))
    (ap (λ (u : Branching). leaving_all 52 u (zeros n)) (byte_clear v c l)
    ∙ clear_leaves n (record { next = next_of v.next; lists = v.lists }) c (omega (arith, next_is v.next l)))

-- groups of zeros leave such branches as those zeros do that are over whole turns
pub groups_of_zeros : (h : ℕ) (v : Branching) → AreClear v → v.next < 52
    → after_all 52 v (zeros (48 * h % 52)) ≡ after_all 52 v (zeros (828 * h))
groups_of_zeros h v c l = grind (arith, clear_stays)

-- ---- groups of zeros that have come

more_zeros : (m n k : ℕ) → m + n ≡ k → zeros m ++ zeros n ≡ zeros k
more_zeros m n k e = replicate-append-replicate {A = ℕ} m n 0 ∙ ap zeros e

pub none_come : (v : Branching) → HasWidths 52 (gathering 52 4) v → HaveCome 0 v
unfolding after_all
none_come v h = record { before = v; widths = h; come = refl }

pub widths_come : (c : ℕ) (v : Branching) → HaveCome c v → HasWidths 52 (gathering 52 4) v
widths_come c v h = subst (HasWidths 52 (gathering 52 4)) (sym h.come)
    (HasWidths-all 52 (gathering 52 4) h.before (zeros (828 * c)) h.widths)

-- with n groups more
pub more_come : (c n : ℕ) (v : Branching) → HaveCome c v → HaveCome (c + n) (after_all 52 v (zeros (828 * n)))
more_come c n v h = record {
  before = h.before;
  widths = h.widths;
  come = ap (λ (u : Branching). after_all 52 u (zeros (828 * n))) h.come
      ∙ sym (after_append 52 h.before (zeros (828 * c)) (zeros (828 * n)))
      ∙ ap (after_all 52 h.before) (more_zeros (828 * c) (828 * n) (828 * (c + n)) (omega arith));
}

-- fewer may be counted
pub fewer_come : (c n : ℕ) (v : Branching) → n ≤ c → HaveCome c v → HaveCome n v
fewer_come c n v l h = record {
  before = after_all 52 h.before (zeros (828 * (c - n)));
  widths = HasWidths-all 52 (gathering 52 4) h.before (zeros (828 * (c - n))) h.widths;
  come = h.come
      ∙ ap (after_all 52 h.before) (sym (more_zeros (828 * (c - n)) (828 * n) (828 * c) (omega (arith, l))))
      ∙ after_append 52 h.before (zeros (828 * (c - n))) (zeros (828 * n));
}

pub clear_come : (v : Branching) → HaveCome 13 v → AreClear v
clear_come v h = subst AreClear (sym h.come) (clear_after h.before h.widths)

-- ---- levels of 0

range_zeros : (g : ℕ → ℕ) (a n : ℕ) → ((i : ℕ) → g i ≡ 0) → map g (range_with_len a n) ≡ zeros n
range_zeros g a zero h = refl
range_zeros g a (suc n) h = ap₂ (λ (x : ℕ) (xs : List ℕ). x ∷ xs) (h a) (range_zeros g (a + 1) n h)

bit_zero : (s r e : ℕ) → precoder_bit s (zeros 12) (zeros 3312) r e ≡ 0
unfolding precoder_bit
bit_zero s r e = ap₂ (cond (r == 0)) (zero_at 12 e) (ap (λ (x : ℕ). x / 4) (zero_at 3312 (symbol_place s (r - 1) e)))
    ∙ same (r == 0)
  where
    same : (t : Bool) → ◌≡◌ {A = ℕ} (cond t 0 0) 0
    same true = refl
    same false = refl

pair_zero : (s r e : ℕ) → pair_back s (zeros 12) (zeros 3312) r e ≡ 0
unfolding pair_back
pair_zero s r e = ap₂ pair_from (bit_zero s r e) (zero_at 3312 (symbol_place s r e))

byte_zero : (s j : ℕ) → byte_back s (zeros 12) (zeros 3312) j ≡ 0
unfolding byte_back
byte_zero s j = grind (arith, pair_zero)

one_group : level_groups (zeros 3312) ≡ 1
unfolding level_groups
one_group = ap (λ (n : ℕ). n / 3312) (length-replicate {A = ℕ} 3312 0)

pub bytes_zero : (s : ℕ) → bytes_back s (zeros 12) (zeros 3312) ≡ zeros 828
unfolding bytes_back
bytes_zero s = rw (one_group, range_zeros (byte_back s (zeros 12) (zeros 3312)) 0 828 (byte_zero s))

-- whatever was before it, a group of levels of 0 leaves Z2 of 0
pub bits_zero : (s : ℕ) (f : List ℕ) → precoder_bits_after s f (zeros 3312) ≡ zeros 12
unfolding precoder_bits_after precoder_bit
bits_zero s f = ap (λ (n : ℕ). map (precoder_bit s f (zeros 3312) (276 * n)) (range_with_len 0 12)) one_group
    ∙ range_zeros (precoder_bit s f (zeros 3312) 276) 0 12
    (λ e. ap (λ (x : ℕ). x / 4) (zero_at 3312 (symbol_place s 275 e)))

-- ---- what is kept

zeros_put : (n : ℕ) → n < 4 → take (828 * n) (zeros 3312) ++ zeros 828 ++ drop (828 * n + 828) (zeros 3312) ≡ zeros 3312
zeros_put n l = ap₂ (λ (xs ys : List ℕ). xs ++ zeros 828 ++ ys) (take-replicate (828 * n) 3312 0 (omega (arith, l)))
    (drop-replicate (828 * n + 828) 3312 0)
    ∙ ap (λ (xs : List ℕ). xs ++ zeros (3312 - (828 * n + 828))) (more_zeros (828 * n) 828 (828 * n + 828) refl)
    ∙ more_zeros (828 * n + 828) (3312 - (828 * n + 828)) 3312 (omega (arith, l))

-- a segment without marks
quiet_one : (x : List ℤ) (kept : Side) (run : List (List ℤ)) (given : List ℕ) (place : ℕ) → IsQuiet kept
    → sliced_data x ≡ zeros 828 → AreGrouped kept.groups run given → length run % 313 ≡ place + 1
    → AreGrouped kept.groups (run ++ x ∷ []) (given ++ zeros (828 * ((place % 4 + 1) / 4)))
quiet_one x kept run given place q z d e = by_place (cases_eq (place % 4) 3)
  where
    levels_long : length kept.groups.levels ≡ 3312
    levels_long = ap length q.levels ∙ length-replicate {A = ℕ} 3312 0

    segment : length (sliced_data x) ≡ 828
    segment = ap length z ∙ length-replicate {A = ℕ} 828 0

    put : (n : ℕ) → n < 4 → kept.groups.levels ≡ take (828 * n) kept.groups.levels ++ sliced_data x
        ++ drop (828 * n + 828) kept.groups.levels
    put n l = q.levels
        ∙ sym (ap₂ (λ (ls more : List ℕ). take (828 * n) ls ++ more ++ drop (828 * n + 828) ls) q.levels z
        ∙ zeros_put n l)

    by_place : (place % 4 ≡ 3) ⊎ (place % 4 ≢ 3)
        → AreGrouped kept.groups (run ++ x ∷ []) (given ++ zeros (828 * ((place % 4 + 1) / 4)))
    by_place (inl n) =
        let bytes : List ℕ = bytes_back (place - place % 4) kept.groups.precoder_bits (zeros 3312) in
        let whole : bytes_back (place - place % 4) kept.groups.precoder_bits (zeros 3312) ≡ zeros 828 =
        ap (λ (f : List ℕ). bytes_back (place - place % 4) f (zeros 3312)) q.precoder_bits
        ∙ bytes_zero (place - place % 4) in
        let g = grouped_group x kept.groups
        (grouping kept.groups.levels kept.groups.precoder_bits (kept.groups.held ++ bytes ∷ [])) run given place
        (zeros 3312) (grind (arith, levels_long, segment, length-replicate, put))
        d q.levels (q.precoder_bits ∙ sym (bits_zero (place - place % 4) kept.groups.precoder_bits))
        (ap length whole ∙ length-replicate {A = ℕ} 828 0) refl in
        record {
          levels = g.levels;
          bytes = g.bytes ∙ ap₂
              (λ (held : List (List ℕ)) (more : List ℕ). given ++ flat (held ++ more ∷ [])) q.held whole
              ∙ ap (λ (more : List ℕ). given ++ more) (append-nil (zeros 828))
              ∙ ap (λ (m : ℕ). given ++ zeros (828 * m)) (one (place % 4) n)
              ∙ sym (append-nil (given ++ zeros (828 * ((place % 4 + 1) / 4))))
              ∙ ap (λ (held : List (List ℕ)). (given ++ zeros (828 * ((place % 4 + 1) / 4))) ++ flat held) (sym q.held);
          long = d.long;
        }
      where
        one : (p : ℕ) → p ≡ 3 → 1 ≡ (p + 1) / 4
        one p n = omega (arith, n)
    by_place (inr n) =
        let part : data_count run % 4 ≡ place % 4 = part_now run place e in
        subst (λ (m : ℕ). AreGrouped kept.groups (run ++ x ∷ []) (given ++ zeros (828 * m))) (none (place % 4) n below)
        (subst (λ (more : List ℕ). AreGrouped kept.groups (run ++ x ∷ []) more) (sym (append-nil given))
        (grouped_data x kept.groups kept.groups run given d (not_due_now run place e) (λ h. n (sym part ∙ h))
        levels_long segment (put (data_count run % 4) (omega arith)) refl refl))
      where
        below : place % 4 < 4
        below = omega arith

        none : (p : ℕ) → p ≢ 3 → p < 4 → 0 ≡ (p + 1) / 4
        none p n l = omega (arith, n, l)

quiet_many : (xs : List (List ℤ)) (kept : Side) (run : List (List ℤ)) (given : List ℕ) (place : ℕ) → IsQuiet kept
    → AllByRecursion (λ x. sliced_data x ≡ zeros 828) xs → AreGrouped kept.groups run given
    → (0 < length xs → length run % 313 ≡ place + 1) → place + length xs ≤ 312
    → AreGrouped kept.groups (run ++ xs) (given ++ zeros (828 * ((place % 4 + length xs) / 4)))
quiet_many [] kept run given place q z d e l = grind (arith, append-nil)
quiet_many (x ∷ xs) kept run given place q z d e l =
    let a : ℕ = (place % 4 + 1) / 4 in
    let b : ℕ = ((place + 1) % 4 + length xs) / 4 in
    subst (λ (more : List ℕ). AreGrouped kept.groups (run ++ x ∷ xs) more)
    (append_assoc given (zeros (828 * ((place % 4 + 1) / 4))) (zeros (828 * (((place + 1) % 4 + length xs) / 4)))
    ∙ ap (λ (more : List ℕ). given ++ more)
    (more_zeros (828 * ((place % 4 + 1) / 4)) (828 * (((place + 1) % 4 + length xs) / 4))
    (828 * ((place % 4 + suc (length xs)) / 4)) (both place (length xs))))
    (subst (λ (r : List (List ℤ)). AreGrouped kept.groups r ((given ++ zeros (828 * ((place % 4 + 1) / 4)))
    ++ zeros (828 * (((place + 1) % 4 + length xs) / 4)))) (append_assoc run (x ∷ []) xs)
    (quiet_many xs kept (run ++ x ∷ []) (given ++ zeros (828 * ((place % 4 + 1) / 4))) (place + 1) q z.1
    (quiet_one x kept run given place q z.0 d due)
    (λ m. omega (arith, length_push run x, due, l, m)) (omega (arith, l))))
  where
    due : length run % 313 ≡ place + 1
    due = e (omega arith)

    both : (p n : ℕ) → 828 * ((p % 4 + 1) / 4) + 828 * (((p + 1) % 4 + n) / 4) ≡ 828 * ((p % 4 + suc n) / 4)
    both p n = omega arith

-- where so many groups of zeros have passed
abbrev pub moved_on : Side → ℕ → Side
moved_on kept h = record kept { branches = after_all 52 kept.branches (zeros (48 * h % 52)); gathered = zeros 10920 }

pub quiet_further : (kept new : Side) (h place : ℕ) (run xs : List (List ℤ)) → IsQuiet kept
    → AllByRecursion (λ x. sliced_data x ≡ zeros 828) xs → sides.Holds kept run
    → length run % 313 ≡ place + 1 → place + length xs ≤ 312 → length xs ≤ 52 → h ≡ (place % 4 + length xs) / 4
    → new ≡ moved_on kept h → IsFurther new h run (run ++ xs)
quiet_further kept new h place run xs q z d e l m i f =
    let few : h ≤ 13 = omega (arith, i, m) in
    let g : AreGrouped kept.groups (run ++ xs) (bytes_in run ++ zeros (828 * ((place % 4 + length xs) / 4))) =
    quiet_many xs kept run (bytes_in run) place q z (grouped_none kept.groups run d.levels d.none) (λ _. e) l in
    rw f (further kept (moved_on kept h) h run (run ++ xs) (zeros (828 * h)) d g.levels q.held
    (g.bytes ∙ ap (λ (held : List (List ℕ)). (bytes_in run ++ zeros (828 * ((place % 4 + length xs) / 4))) ++ flat held)
    q.held ∙ append-nil (bytes_in run ++ zeros (828 * ((place % 4 + length xs) / 4)))
    ∙ ap (λ (n : ℕ). bytes_in run ++ zeros (828 * n)) (sym i)) (record {
      few = few;
      long = ap length q.begun ∙ length-replicate {A = ℕ} 156 0;
      bytes = length-replicate {A = ℕ} (828 * h) 0;
      branches = groups_of_zeros h kept.branches q.branches q.below;
      gathered = take-replicate (156 + 828 * h) 10920 0 (omega (arith, few))
          ∙ sym (ap₂ (λ (us ys : List ℕ). us ++ ys) q.begun (clear_leaves (828 * h) kept.branches q.branches q.below)
          ∙ more_zeros 156 (828 * h) (156 + 828 * h) refl);
      ends_are = q.begun ∙ sym (ap (take 156) (drop-replicate (828 * h) 10920 0)
          ∙ take-replicate 156 (10920 - 828 * h) 0 (omega (arith, few)));
    }))

pub quiet_still : (kept new : Side) (h : ℕ) → IsQuiet kept → new ≡ moved_on kept h → IsQuiet new
quiet_still kept new h q f = grind (arith, clear_stays)

-- ---- what is known

pub known_afresh : (side : Side) → side.groups.held ≡ [] → HasWidths 52 (gathering 52 4) side.branches
    → AreKnown side 0 false
known_afresh side n w = grind (arith, none_come, true≢false)

pub known_quiet : (side : Side) (quiet : Bool) → IsQuiet side → HasWidths 52 (gathering 52 4) side.branches
    → AreKnown side 0 quiet
known_quiet side quiet q w = record { held = q.held; come = none_come side.branches w; none = λ e. q }

-- groups have passed
pub known_more : (old new : Side) (quiet blank over : Bool) (before h count : ℕ) (more : List ℕ)
    → AreKnown old before quiet → new.groups.held ≡ [] → new.branches ≡ after_all 52 old.branches more
    → (blank ≡ true → more ≡ zeros (828 * h)) → (blank ≡ false → count ≡ 0) → (blank ≡ true → count ≤ before + h)
    → (over ≡ true → (new.groups.levels ≡ zeros 3312) × (new.groups.precoder_bits ≡ zeros 12) × (count ≡ 13)
    × (new.begun ≡ zeros 156)) → AreKnown new count over
known_more old new quiet blank over before h count more k n b clear none some end = record {
  held = n;
  come = come blank refl;
  none = λ t. grind (arith, widths, clear_come, come);
}
  where
    widths : HasWidths 52 (gathering 52 4) new.branches
    widths = subst (HasWidths 52 (gathering 52 4)) (sym b)
        (HasWidths-all 52 (gathering 52 4) old.branches more (widths_come before old.branches k.come))

    come : (t : Bool) → blank ≡ t → HaveCome count new.branches
    come false t = subst (λ (m : ℕ). HaveCome m new.branches) (sym (none t)) (none_come new.branches widths)
    come true t = fewer_come (before + h) count new.branches (some t)
        (subst (HaveCome (before + h)) (sym (b ∙ ap (after_all 52 old.branches) (clear t)))
        (more_come before h old.branches k.come))

-- ---- segments of which no symbol is missing

lowest_all : (xs : List ℤ) → ((j : ℕ) → j < length xs → get_or xs j (pos 0) ≡ negsuc 127 → ⊥)
    → map sliced (map shown xs) ≡ zeros (length xs)
unfolding sliced
lowest_all [] h = refl
lowest_all (x ∷ xs) h = ap₂ (λ (l : ℕ) (ls : List ℕ). l ∷ ls) (ap sliced (shown_other x (λ e. h 0 (omega arith) e)))
    (lowest_all xs (λ j l e. h (suc j) (omega (arith, l)) e))

pub lowest_data : (x : List ℤ) → length x ≡ 832
    → ((j : ℕ) → j < 832 → get_or x j (pos 0) ≡ negsuc 127 → ⊥) → sliced_data (map shown x) ≡ zeros 828
unfolding sliced_data
lowest_data x l h = ap (map sliced) (drop-map shown 4 x)
    ∙ lowest_all (drop 4 x) (λ j m e. h (4 + j) (omega (arith, m, length-drop 4 x, l))
    (sym (get_or-drop 4 x j (pos 0)) ∙ e)) ∙ ap zeros (length-drop 4 x ∙ ap (λ (n : ℕ). n - 4) l)

-- segments, by their symbols' bytes
pub none_missing : (segments : List (List ℕ)) → ((j : ℕ) → j < length segments → length (get_or segments j []) ≡ 832)
    → ((i : ℕ) → i < length (flat segments) → cast_signed w8 (get_or (flat segments) i 0) ≢ negsuc 127)
    → AllByRecursion (λ x. sliced_data x ≡ zeros 828) (shown_run (symbols_in segments))
none_missing [] l h = tt
none_missing (x ∷ xs) l h = (
  lowest_data (symbols_of x) (length-map x (λ byte. cast_signed w8 byte) ∙ l 0 (omega arith))
      (λ j m e. h j (omega (arith, m, l 0 (omega arith), length-append x (flat xs)))
      (ap (cast_signed w8) (get_or_append_left x (flat xs) 0 j (omega (arith, m, l 0 (omega arith))))
      ∙ sym (get_or-map (λ byte. cast_signed w8 byte) x j 0 (pos 0) (omega (arith, m, l 0 (omega arith)))) ∙ e)),
  none_missing xs (λ j m. l (suc j) (omega (arith, m)))
      (λ i m e. h (length x + i) (omega (arith, m, length-append x (flat xs)))
      (grind (arith, get_or-append-add, flat))),
)
