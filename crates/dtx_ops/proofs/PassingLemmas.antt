-- Data that no rule refuses.
use Rattle.std.proofs.Common.{◌≡◌, ℕ, zero, suc, ◌*◌, ◌%◌, ◌<◌, ◌==◌, nat_le, nat_lt, not, Bool, true, false}
use Rattle.std.proofs.Common.{true≢false, ◌&&◌, ◌||◌, if◌then◌else◌, None, List, [], ◌∷◌, length, drop, replicate}
use Rattle.std.proofs.Common.{slice_index, refl, sym, ap₂, arith, rules}
use Rattle.std.proofs.lemmas.Bool.{not-false, eqb-true, eq-eqb, leb-false, lt-leb, le-ltb}
use Rattle.std.proofs.lemmas.Option.{none-some}
use Rattle.std.specs.List.{list_all}
use Rattle.dtx_ops.specs.declared.refusal.OpsNo.TheVariants.{Kind, Pad, Stamp, Delay, Index, Page, Count, Twice, Fill}
use Rattle.dtx_ops.specs.declared.paging.Paging.{Paging}
use Rattle.dtx_ops.specs.declared.paging.Paging.TheVariants.{One, Of}
use Rattle.dtx_ops.specs.Fields.{stamp_in, max_delay_in, index_in, paging_in, count_in, behind_count, entries_in}
use Rattle.dtx_ops.specs.Paging.{page_of, pages_of, kind_of, most_of, IsPaged}
use Rattle.dtx_ops.proofs.PagingLemmas.{paged_unless, page_passes}
use Rattle.dtx_ops.specs.Reading.{first, has_twice, head_rules, data_rules}

pub record Passes (bytes : List ℕ) : Type 0 where
  pub kind : slice_index bytes 0 ≡ kind_of (paging_in bytes)
  pub pad : slice_index bytes 5 % 16 ≡ 0
  pub stamp : stamp_in bytes < 10000000
  pub max_delay : max_delay_in bytes < 10000000
  pub index : index_in bytes < 624
  pub paged : IsPaged (paging_in bytes) (count_in bytes)
  pub once : has_twice (entries_in (count_in bytes) (behind_count bytes)) ≡ false
  pub blank : list_all (λ byte. byte == 0) (drop (4 * count_in bytes) (behind_count bytes)) ≡ true

-- nine rules, none of which holds
record Off (a b c d e f g h i : Bool) : Type 0 where
  a_off : a ≡ false
  b_off : b ≡ false
  c_off : c ≡ false
  d_off : d ≡ false
  e_off : e ≡ false
  f_off : f ≡ false
  g_off : g ≡ false
  h_off : h ≡ false
  i_off : i ≡ false

none_holds : (a b c d e f g h i : Bool) → first ((a, Kind) ∷ (b, Pad) ∷ (c, Stamp) ∷ (d, Delay) ∷ (e, Index)
    ∷ (f, Page) ∷ (g, Count) ∷ (h, Twice) ∷ (i, Fill) ∷ []) ≡ None → Off a b c d e f g h i
none_holds true b c d e f g h i p = absurd (none-some Kind (sym p))
none_holds false true c d e f g h i p = absurd (none-some Pad (sym p))
none_holds false false true d e f g h i p = absurd (none-some Stamp (sym p))
none_holds false false false true e f g h i p = absurd (none-some Delay (sym p))
none_holds false false false false true f g h i p = absurd (none-some Index (sym p))
none_holds false false false false false true g h i p = absurd (none-some Page (sym p))
none_holds false false false false false false true h i p = absurd (none-some Count (sym p))
none_holds false false false false false false false true i p = absurd (none-some Twice (sym p))
none_holds false false false false false false false false true p = absurd (none-some Fill (sym p))
none_holds false false false false false false false false false p = record {
  a_off = refl;
  b_off = refl;
  c_off = refl;
  d_off = refl;
  e_off = refl;
  f_off = refl;
  g_off = refl;
  h_off = refl;
  i_off = refl;
}

-- the kind is 1 or 2
kind_if : (kind page pages : ℕ) (is_one is_two : Bool) → (kind == 1) ≡ is_one → (kind == 2) ≡ is_two
    → (not is_one && not is_two) ≡ false → kind ≡ kind_of (if is_two then Of page pages else One)
kind_if kind page pages is_one true one two h = eqb-true kind 2 two
kind_if kind page pages true false one two h = eqb-true kind 1 one
kind_if kind page pages false false one two h = absurd (true≢false h)

kind_known : (bytes : List ℕ) → (not (slice_index bytes 0 == 1) && not (slice_index bytes 0 == 2)) ≡ false
    → slice_index bytes 0 ≡ kind_of (paging_in bytes)
unfolding paging_in
kind_known bytes h = grind (arith, kind_if)

kind_passes : (p : Paging) (kind : ℕ) → kind ≡ kind_of p → (not (kind == 1) && not (kind == 2)) ≡ false
kind_passes One kind e = rw e refl
kind_passes (Of page pages) kind e = rw e refl

pub passes_unrefused : (bytes : List ℕ) → first (data_rules bytes) ≡ None → Passes bytes
unfolding data_rules head_rules
passes_unrefused bytes h =
    let p : Paging = paging_in bytes in
    let n : ℕ = count_in bytes in
    let off = none_holds (not (slice_index bytes 0 == 1) && not (slice_index bytes 0 == 2))
    (not (slice_index bytes 5 % 16 == 0)) (nat_le 10000000 (stamp_in bytes)) (nat_le 10000000 (max_delay_in bytes))
    (nat_le 624 (index_in bytes)) (nat_lt 30 (pages_of p) || nat_le (pages_of p) (page_of p))
    (nat_lt (most_of p) n) (has_twice (entries_in n (behind_count bytes)))
    (not (list_all (λ byte. byte == 0) (drop (4 * n) (behind_count bytes)))) h in
    record {
      kind = kind_known bytes off.a_off;
      pad = eqb-true (slice_index bytes 5 % 16) 0 (not-false (slice_index bytes 5 % 16 == 0) off.b_off);
      stamp = leb-false 10000000 (stamp_in bytes) off.c_off;
      max_delay = leb-false 10000000 (max_delay_in bytes) off.d_off;
      index = leb-false 624 (index_in bytes) off.e_off;
      paged = paged_unless p n off.f_off off.g_off;
      once = off.h_off;
      blank = not-false (list_all (λ byte. byte == 0) (drop (4 * n) (behind_count bytes))) off.i_off;
    }

pub unrefused_passes : (bytes : List ℕ) → Passes bytes → first (data_rules bytes) ≡ None
unfolding data_rules head_rules
unrefused_passes bytes p = grind (arith, kind_passes, eq-eqb, lt-leb, page_passes, le-ltb)

-- bytes that are all 0
both : (a b : Bool) → (a && b) ≡ true → (a ≡ true) × (b ≡ true)
both true b h = (refl, h)
both false b h = absurd (true≢false (sym h))

pub zeros_blank : (bytes : List ℕ) → list_all (λ byte. byte == 0) bytes ≡ true → bytes ≡ replicate (length bytes) 0
zeros_blank [] h = refl
zeros_blank (x ∷ bytes) h =
    let parts = both (x == 0) (list_all (λ byte. byte == 0) bytes) h in
    ap₂ (λ (y : ℕ) (ys : List ℕ). y ∷ ys) (eqb-true x 0 parts.0) (zeros_blank bytes parts.1)

pub blank_zeros : (n : ℕ) → list_all (λ byte. byte == 0) (replicate n 0) ≡ true
blank_zeros zero = refl
blank_zeros (suc n) = blank_zeros n
