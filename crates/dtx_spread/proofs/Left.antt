-- What leaves, and what stays in the branches, where the bytes at all places have gone through.
use Rattle.std.proofs.Common.{◌≡◌, ℕ, ◌+◌, ◌-◌, ◌/◌, ◌%◌, ◌<◌, ◌≤◌, ◌⊎◌, inl, inr, List, [], ◌++◌, length, get_or, drop}
use Rattle.std.proofs.Common.{sym, ap, ap₂, subst₂, ◌∙◌, arith, mod-eq_of_lt}
use Rattle.std.proofs.lemmas.Bool.{cases_lt}
use Rattle.std.proofs.lemmas.Nat.{mod_below, div-mul-add}
use Rattle.std.proofs.lemmas.List.{ext_get_or, length-append, length-drop, get_or-drop, get_or_append_left}
use Rattle.std.proofs.lemmas.List.{get_or-append_right}
use Rattle.dtx_laws.specs.Branches.{Branching, HasWidths, leaving_all, after_all}
use Rattle.dtx_laws.proofs.PlacesLemmas.{Holds, Stands, Stands-all, leaving_all_is, length_leaving}
use Rattle.dtx_spread.specs.Rings.{count_at, column, ArePassed}
use Rattle.dtx_spread.proofs.Turns.{place_of, later, later_from, later_before, branch_there, place_less, IsTurn, turns}
use Rattle.dtx_spread.proofs.Turns.{row_counts, from_row, come_early, come_late}
use Rattle.dtx_spread.proofs.Column.{length-column, column_at}

-- all that stands in branch i while the bytes come, by turns
ever : ℕ → Branching → List ℕ → ℕ → ℕ → ℕ
ever b v xs i t = get_or (get_or v.lists i [] ++ column b xs (place_of b v.next i)) (t - later v.next i) 0

begin : (b : ℕ) (w : ℕ → ℕ) (v : Branching) (xs : List ℕ) → HasWidths b w v → Holds b w (ever b v xs) 0 v.next v.lists
unfolding ever
begin b w v xs h = record {
  count = h.count;
  long = h.long;
  early = λ i j l k. sym (in_list i (0 + 1 + j - later v.next i) (omega arith)
      (omega (arith, h.long i (omega (arith, h.next)), later_before v.next i l))
      ∙ ap (λ n. get_or (get_or v.lists i []) n 0) (omega (arith, later_before v.next i l)));
  late = λ i j l m k. sym (in_list i (0 + j - later v.next i) m (omega (arith, h.long i m))
      ∙ ap (λ n. get_or (get_or v.lists i []) n 0) (omega (arith, later_from v.next i l)));
}
  where
    in_list : (i n : ℕ) → i < b → n < length (get_or v.lists i [])
        → get_or (get_or v.lists i [] ++ column b xs (place_of b v.next i)) n 0 ≡ get_or (get_or v.lists i []) n 0
    in_list i n m l = get_or_append_left (get_or v.lists i []) (column b xs (place_of b v.next i)) 0 n l

stands : (b : ℕ) (w : ℕ → ℕ) (v : Branching) (xs : List ℕ) → HasWidths b w v → Stands b w (ever b v xs) v.next v
stands b w v xs h = (
  sym (mod-eq_of_lt h.next),
  subst₂ (λ (q r : ℕ). Holds b w (ever b v xs) q r v.lists) (grind (arith, div-mul-add)) (sym (mod-eq_of_lt h.next))
      (begin b w v xs h),
)

comes : (b : ℕ) (w : ℕ → ℕ) (v : Branching) (xs : List ℕ) → HasWidths b w v → (k : ℕ) → k < length xs
    → get_or xs k 0 ≡ ever b v xs ((v.next + k) % b) ((v.next + k) / b + w ((v.next + k) % b))
unfolding ever
comes b w v xs h k l =
    let i : ℕ = (v.next + k) % b in
    let o : 0 < b = omega (arith, h.next) in
    let t : IsTurn b v.next k = turns b v.next k h.next in
    let e : (v.next + k) / b + w ((v.next + k) % b) - later v.next ((v.next + k) % b)
    ≡ w ((v.next + k) % b) + k / b = omega (arith, t.turn) in
    sym (grind (arith, get_or-append_right, column_at, row_counts, from_row))

-- ---- the two clauses of a pass

pub passed_bytes : (b : ℕ) (w : ℕ → ℕ) (v : Branching) (new : List (List ℕ)) (bytes out : List ℕ) → HasWidths b w v
    → ArePassed b v.next 0 b v.lists new bytes out → out ≡ leaving_all b v bytes
unfolding ever
passed_bytes b w v new bytes out h a =
    let o : 0 < b = omega (arith, h.next) in
    ext_get_or 0 out (leaving_all b v bytes) (a.long ∙ sym (length_leaving b v bytes))
    (λ k l. let n : k < length bytes = omega (arith, a.long) in
    let t : IsTurn b v.next k = turns b v.next k h.next in
    let e : (v.next + k) / b - later v.next ((v.next + k) % b) ≡ k / b = omega (arith, t.turn) in
    a.left k n (omega arith) (mod_below k b o)
    ∙ ap (λ i. get_or (get_or v.lists i [] ++ column b bytes (k % b)) (k / b) 0) t.branch
    ∙ sym (leaving_all_is b w (ever b v bytes) v.next v bytes o (stands b w v bytes h) (comes b w v bytes h) k n
    ∙ ap₂ (λ p i. get_or (get_or v.lists ((v.next + k) % b) [] ++ column b bytes p) i 0) t.place e))

pub passed_branches : (b : ℕ) (w : ℕ → ℕ) (v : Branching) (new : List (List ℕ)) (bytes out : List ℕ) → HasWidths b w v
    → ArePassed b v.next 0 b v.lists new bytes out
    → record { next = (v.next + length bytes) % b; lists = new } ≡ after_all b v bytes
unfolding ever
passed_branches b w v new bytes out h a = ap₂ view_of (sym s.0)
    (ext_get_or [] new (after_all b v bytes).lists (a.count ∙ h.count ∙ sym s.1.count)
    (λ i l. list i (omega (arith, a.count, h.count))))
  where
    view_of : ℕ → List (List ℕ) → Branching
    view_of n ls = record { next = n; lists = ls }

    o : 0 < b
    o = omega (arith, h.next)

    s : Stands b w (ever b v bytes) (v.next + length bytes) (after_all b v bytes)
    s = Stands-all b w (ever b v bytes) v.next v bytes o (stands b w v bytes h) (comes b w v bytes h)

    all : ℕ → List ℕ
    all i = get_or v.lists i [] ++ column b bytes (place_of b v.next i)

    kept : (i : ℕ) → i < b → get_or new i [] ≡ drop (count_at b (length bytes) (place_of b v.next i)) (all i)
    kept i l = grind (arith, place_of, branch_there, place_less)

    long : (i : ℕ) → i < b → length (get_or new i []) ≡ w i
    long i l = ap length (kept i l) ∙ length-drop (count_at b (length bytes) (place_of b v.next i)) (all i) ∙ omega (
      arith,
      length-append (get_or v.lists i []) (column b bytes (place_of b v.next i)),
      length-column b bytes (place_of b v.next i),
      h.long i l,
    )

    byte : (i j : ℕ) → i < b → j < w i
        → get_or (get_or new i []) j 0 ≡ get_or (all i) (count_at b (length bytes) (place_of b v.next i) + j) 0
    byte i j l m = rw (kept i l, get_or-drop (count_at b (length bytes) (place_of b v.next i)) (all i) j 0)

    by_turn : (i j : ℕ) → i < b → j < w i → (i < (v.next + length bytes) % b) ⊎ ((v.next + length bytes) % b ≤ i)
        → get_or (get_or new i []) j 0 ≡ get_or (get_or (after_all b v bytes).lists i []) j 0
    by_turn i j l m (inl k) = byte i j l m ∙ ap (λ n. get_or (all i) n 0)
        (omega (arith, come_early b v.next (length bytes) i h.next k)) ∙ sym (s.1.early i j k m)
    by_turn i j l m (inr k) = byte i j l m ∙ ap (λ n. get_or (all i) n 0)
        (omega (arith, come_late b v.next (length bytes) i h.next l k)) ∙ sym (s.1.late i j k l m)

    list : (i : ℕ) → i < b → get_or new i [] ≡ get_or (after_all b v bytes).lists i []
    list i l = ext_get_or 0 (get_or new i []) (get_or (after_all b v bytes).lists i []) (long i l ∙ sym (s.1.long i l))
        (λ j m. by_turn i j l (omega (arith, long i l)) (cases_lt i ((v.next + length bytes) % b)))
