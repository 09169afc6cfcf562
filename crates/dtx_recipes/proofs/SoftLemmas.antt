-- Laws of what `soft` makes, one segment after another.
use Rattle.std.proofs.Common.{◌≡◌, ℕ, ℤ, zero, suc, ◌+◌, ◌-◌, ◌*◌, ◌/◌, ◌<◌, ◌≤◌, ◌⊎◌, inl, inr, Option, Some, None}
use Rattle.std.proofs.Common.{List, [], ◌∷◌, ◌++◌, length, map, take, drop, get_or, unwrap_or, refl, sym, ap, ap₂, ◌∙◌}
use Rattle.std.proofs.Common.{subst, arith}
use Rattle.std.specs.List.{range_with_len}
use Rattle.std.proofs.lemmas.Bool.{cases_lt}
use Rattle.std.proofs.lemmas.List.{append_assoc, append-nil, drop-append-le, get_or-drop, get_or_append_left}
use Rattle.std.proofs.lemmas.List.{length-append, length-drop, length_push, length-take-le, map-append, take-append-le}
use Rattle.std.proofs.lemmas.List.FromFn.{fill_by_all, length-map-range_with_len}
use Rattle.std.proofs.Math.Seq.{get_or-append_seam}
use Rattle.dtx_lists.proofs.Range.{map-range_same, range_with_len-parts}
use Rattle.dtx_lists.proofs.RangeMoved.{map-range_moved}
use Rattle.dtx_soft.specs.Softened.{softened, softened_segment}
use Rattle.dtx_recipes.specs.Soft.{flushed, groups_in, in_groups, next_place, pending, ahead, soft_at, soft_from}
use Rattle.dtx_recipes.specs.Soft.{soft_so_far}
use Rattle.dtx_recipes.proofs.SoftPlacesLemmas.{IsFollowed, before_push, at_push, follows, place_copied, place_on}
use Rattle.dtx_recipes.proofs.SoftPlacesLemmas.{place_ends, follows_on, place_small}

-- ---- what stays

pub part_stays : (s t : List (List ℤ)) (n : ℕ) → n + 312 ≤ length s → in_groups (s ++ t) n ≡ in_groups s n
unfolding in_groups
part_stays s t n l = grind (arith, length-append, drop-append-le, take-append-le, length-drop)

soft_stays : (s t : List (List ℤ)) (n i : ℕ) → IsFollowed s n → i < length s - n → soft_at (s ++ t) i ≡ soft_at s i
unfolding soft_at
soft_stays s t n i h l = grind (arith, before_push, get_or_append_left, part_stays)

so_far_stays : (s t : List (List ℤ)) (n : ℕ) → IsFollowed s n
    → map (soft_at (s ++ t)) (range_with_len 0 (length s - n)) ≡ map (soft_at s) (range_with_len 0 (length s - n))
so_far_stays s t n h = grind (arith, map-range_same, soft_stays)

-- ---- a field

-- the last n segments are the first n data segments of a field
pub record IsField (s : List (List ℤ)) (first n : ℕ) : Type 0 where
  pub few : n ≤ 312
  pub long : first + n ≡ length s
  pub places : (j : ℕ) → j < n → next_place (take (first + j) s) ≡ Some j

pub groups_are : (s : List (List ℤ)) (first n : ℕ) → IsField s first n → in_groups s first ≡ groups_in (drop first s)
unfolding in_groups groups_in
groups_are s first n h = grind (arith, length-drop)

length-softened : (scale : ℕ) (rows : List (List ℤ)) → length (softened scale rows) ≡ length rows
unfolding softened
length-softened scale rows = length-map-range_with_len (softened_segment scale rows) 0 (length rows)

patched : {X : Type 0} (a b : List X) (j : ℕ) (d : X) → length a ≤ length b
    → get_or a j (get_or b j d) ≡ get_or (a ++ drop (length a) b) j d
patched [] b j d l = refl
patched (x ∷ a) [] j d l = absurd (omega arith)
patched (x ∷ a) (y ∷ b) zero d l = refl
patched (x ∷ a) (y ∷ b) (suc j) d l = patched a b j d (omega arith)

pub length-groups : (rows : List (List ℤ)) → length (groups_in rows) ≡ 4 * (length rows / 4)
unfolding groups_in
length-groups rows = length-take-le (4 * (length rows / 4)) rows (omega arith)

field_at : (s : List (List ℤ)) (first n j : ℕ) → IsField s first n → j < n
    → soft_at s (first + j) ≡ get_or (flushed (drop first s)) j []
unfolding soft_at flushed
field_at s first n j h l =
    let rows = drop first s in
    let back : first + j - j ≡ first = omega arith in
    let long : length (softened 1 (groups_in rows)) ≡ 4 * (length rows / 4) =
    length-softened 1 (groups_in rows) ∙ length-groups rows in
    ap (soft_from s (first + j)) (h.places j l)
    ∙ ap₂ (λ (part : List (List ℤ)) (x : List ℤ). get_or (softened 1 part) j x)
    (ap (in_groups s) back ∙ groups_are s first n h) (sym (get_or-drop first s j [])) ∙ grind (arith, patched)

length-flushed : (rows : List (List ℤ)) → length (flushed rows) ≡ length rows
unfolding flushed
length-flushed rows = grind (arith, length-append, length-softened, length-groups, length-drop)

pub field_soft : (s : List (List ℤ)) (first n : ℕ) → IsField s first n
    → map (soft_at s) (range_with_len first n) ≡ flushed (drop first s)
field_soft s first n h =
    let rows = drop first s in
    let long : length (flushed rows) ≡ n = omega (arith, length-flushed rows, length-drop first s, h.long) in
    map-range_moved (soft_at s) (λ j. get_or (flushed rows) j []) first 0 n (λ j l. (field_at s first n j h l
    ∙ ap (λ k. get_or (flushed rows) k []) (sym (omega arith))))
    ∙ sym (fill_by_all (λ j. get_or (flushed rows) j []) (flushed rows) n [] long (λ k l. refl))

-- ---- the pieces

pub followed_field : (s : List (List ℤ)) (n : ℕ) → IsFollowed s n → n ≤ 312 → IsField s (length s - n) n
followed_field s n h l = record { few = l; long = omega (arith, h.within); places = h.places }

pub pending_copied : (s : List (List ℤ)) (x : List ℤ) → next_place s ≡ None → pending (s ++ x ∷ []) ≡ 0
pending_copied s x e = grind (arith, place_copied)

pub pending_is : (s : List (List ℤ)) (o : Option ℕ) → next_place s ≡ o → pending s ≡ unwrap_or o 0
pending_is s o e = ap (λ (o : Option ℕ). unwrap_or o 0) e

follows_at : (s : List (List ℤ)) (o : Option ℕ) → next_place s ≡ o → IsFollowed s (unwrap_or o 0)
follows_at s o e = subst (IsFollowed s) (pending_is s o e) (follows s)

-- What one segment more finishes: `more` segments, out of the new one and the n data segments that waited for their
-- field's end.
pub record IsAhead (s : List (List ℤ)) (x : List ℤ) (n more : ℕ) : Type 0 where
  pub followed : IsFollowed s n
  pub all : ahead (s ++ x ∷ []) ≡ (length s - n) + more
  pub own : length s - n ≡ ahead s

pub ahead_copied : (s : List (List ℤ)) (x : List ℤ) → next_place s ≡ None → IsAhead s x 0 1
ahead_copied s x e = record {
  followed = follows_at s None e;
  all = omega (arith, pending_copied s x e, length_push s x);
  own = omega (arith, pending_is s None e);
}

pub ahead_kept : (s : List (List ℤ)) (x : List ℤ) (p : ℕ) → next_place s ≡ Some p → p + 1 < 312 → IsAhead s x p 0
ahead_kept s x p e l =
    let on = pending_is (s ++ x ∷ []) (Some (p + 1)) (place_on s x p e l) in
    record {
      followed = follows_at s (Some p) e;
      all = omega (arith, on, length_push s x);
      own = omega (arith, pending_is s (Some p) e);
    }

pub ahead_full : (s : List (List ℤ)) (x : List ℤ) → next_place s ≡ Some 311 → IsAhead s x 311 312
ahead_full s x e =
    let f = follows_at s (Some 311) e in
    let within = f.within in
    let on = pending_is (s ++ x ∷ []) None (place_ends s x e) in
    record {
      followed = f;
      all = omega (arith, on, within, length_push s x);
      own = omega (arith, pending_is s (Some 311) e);
    }

-- The segment is the last of its field's 312, so the field is full.
pub full_field : (s : List (List ℤ)) (x : List ℤ) → next_place s ≡ Some 311 → IsFollowed s 311
    → IsField (s ++ x ∷ []) (length s - 311) 312
full_field s x e f = field_of (length (s ++ x ∷ []) - 312) (omega (arith, length_push s x))
    (followed_field (s ++ x ∷ []) 312 (follows_on s x 311 f e) (omega arith))
  where
    field_of : (n : ℕ) → n ≡ length s - 311 → IsField (s ++ x ∷ []) n 312 → IsField (s ++ x ∷ []) (length s - 311) 312
    field_of n e h = subst (λ n. IsField (s ++ x ∷ []) n 312) e h

-- the segments of that field
pub full_rows : (s : List (List ℤ)) (x : List ℤ) → IsAhead s x 311 312
    → drop (length s - 311) (s ++ x ∷ []) ≡ drop (ahead s) s ++ x ∷ []
full_rows s x h = drop-append-le (length s - 311) s (x ∷ []) (omega arith) ∙ ap (λ n. drop n s ++ x ∷ []) h.own

pub so_far_copied : (s : List (List ℤ)) (x : List ℤ) → next_place s ≡ None
    → soft_so_far (s ++ x ∷ []) ≡ soft_so_far s ++ x ∷ []
unfolding soft_so_far soft_at
so_far_copied s x e =
    grind (arith, ahead_copied, range_with_len-parts, map-append, so_far_stays, at_push, get_or-append_seam)

pub so_far_kept : (s : List (List ℤ)) (x : List ℤ) (p : ℕ) → next_place s ≡ Some p → p + 1 < 312
    → soft_so_far (s ++ x ∷ []) ≡ soft_so_far s
unfolding soft_so_far
so_far_kept s x p e l = grind (arith, ahead_kept, so_far_stays)

pub so_far_full : (s : List (List ℤ)) (x : List ℤ) → next_place s ≡ Some 311
    → soft_so_far (s ++ x ∷ []) ≡ soft_so_far s ++ flushed (drop (ahead s) s ++ x ∷ [])
unfolding soft_so_far
so_far_full s x e =
    let h = ahead_full s x e in
    let zero_on : 0 + (length s - 311) ≡ length s - 311 = omega arith in
    ap (λ n. map (soft_at (s ++ x ∷ [])) (range_with_len 0 n)) h.all
    ∙ ap (map (soft_at (s ++ x ∷ []))) (range_with_len-parts 0 (length s - 311) 312)
    ∙ map-append (soft_at (s ++ x ∷ [])) (range_with_len 0 (length s - 311)) (range_with_len (0 + (length s - 311)) 312)
    ∙ ap₂ ◌++◌ (grind (arith, so_far_stays)) (ap (λ n. map (soft_at (s ++ x ∷ [])) (range_with_len n 312)) zero_on
    ∙ field_soft (s ++ x ∷ []) (length s - 311) 312 (full_field s x e h.followed) ∙ ap flushed (full_rows s x h))

-- ---- with more segments more is made

pub one_on : (s : List (List ℤ)) (x : List ℤ)
    → (brought : List (List ℤ)) × (soft_so_far (s ++ x ∷ []) ≡ soft_so_far s ++ brought)
one_on s x = by_place (next_place s) refl
  where
    by_end : (p : ℕ) → next_place s ≡ Some p → (p + 1 < 312) ⊎ (312 ≤ p + 1)
        → (brought : List (List ℤ)) × (soft_so_far (s ++ x ∷ []) ≡ soft_so_far s ++ brought)
    by_end p e (inl l) = ([], so_far_kept s x p e l ∙ sym (append-nil (soft_so_far s)))
    by_end p e (inr l) =
        let small = place_small s p e in
        (flushed (drop (ahead s) s ++ x ∷ []), so_far_full s x (e ∙ ap Some (omega arith)))

    by_place : (o : Option ℕ) → next_place s ≡ o
        → (brought : List (List ℤ)) × (soft_so_far (s ++ x ∷ []) ≡ soft_so_far s ++ brought)
    by_place None e = (x ∷ [], so_far_copied s x e)
    by_place (Some p) e = by_end p e (cases_lt (p + 1) 312)

pub so_far_on : (s more : List (List ℤ))
    → (brought : List (List ℤ)) × (soft_so_far (s ++ more) ≡ soft_so_far s ++ brought)
so_far_on s [] = ([], ap soft_so_far (append-nil s) ∙ sym (append-nil (soft_so_far s)))
so_far_on s (x ∷ more) =
    let first = one_on s x in
    let rest = so_far_on (s ++ x ∷ []) more in (grind (arith, append_assoc))

pub none_so_far : soft_so_far [] ≡ []
unfolding soft_so_far
none_so_far = grind arith

-- ---- numbers

pub within : (s : List (List ℤ)) (p : ℕ) → next_place s ≡ Some p → p ≤ length s
within s p e = (follows_at s (Some p) e).within
