-- Lemmas of what is kept while symbols are softened: one segment more.
use Rattle.std.proofs.Common.{◌≡◌, ℕ, ℤ, ◌+◌, ◌-◌, ◌<◌, ◌≤◌, cond, Bool, true, false, Option, Some, None, List, [], ◌∷◌}
use Rattle.std.proofs.Common.{◌++◌, length, map, take, drop, slice_set, unwrap_or, refl, sym, ap, ap₂, ◌∙◌, arith}
use Rattle.std.specs.Bool.{then_some}
use Rattle.std.proofs.lemmas.List.{append_assoc, append-nil, drop_all, drop-append-le, length_push, take_more_set}
use Rattle.dtx_files.proofs.AppendedLemmas.{segment_bytes-append}
use Rattle.dtx_files.specs.Symbols.{byte_of_symbol, segment_bytes}
use Rattle.dtx_frame.specs.Detection.{looks_like}
use Rattle.dtx_soft.specs.Softened.{softened_cost}
use Rattle.dtx_jobs.specs.declared.softening.Softening.{Softening}
use Rattle.dtx_recipes.specs.Soft.{field_sum, flushed, groups_in, has_group, next_place, pending, ahead, soft_rest}
use Rattle.dtx_recipes.specs.Soft.{soft_so_far}
use Rattle.dtx_jobs.proofs.SoftLemmas.{count_copied, count_full, count_kept, count_rest, no_cost, field_sum_none}
use Rattle.dtx_recipes.proofs.SoftLemmas.{pending_copied, pending_is, so_far_copied, so_far_full, so_far_kept}
use Rattle.dtx_jobs.proofs.SoftLemmas.{rest_is}
use Rattle.dtx_recipes.proofs.SoftPlacesLemmas.{place_copied, place_ends, place_first, place_on}
use Rattle.dtx_jobs.specs.Softening.{IsGathering, IsSoftening}

looked : (b : Bool) → then_some {T = ℕ} b 0 ≡ cond b (Some 0) None
looked true = refl
looked false = refl

-- ---- one segment more

module _ (old new : Softening) (s : List (List ℤ)) (x : List ℤ) (front : List ℕ) (h : IsGathering old s front)
    (count : new.segments ≡ old.segments + 1) where
  was : IsSoftening old s
  was = h.softening

  place_of : (o : Option ℕ) → old.place ≡ o → next_place s ≡ o
  place_of o e = sym was.place ∙ e

  counted : new.segments ≡ length (s ++ x ∷ [])
  counted = count ∙ ap (λ n. n + 1) was.count ∙ sym (length_push s x)

  -- nothing is kept
  no_rows : pending (s ++ x ∷ []) ≡ 0
      → take (pending (s ++ x ∷ [])) new.field.items ≡ drop (ahead (s ++ x ∷ [])) (s ++ x ∷ [])
  no_rows none =
      let all : length (s ++ x ∷ []) ≤ ahead (s ++ x ∷ []) = omega (arith, none) in
      ap (λ n. take n new.field.items) none ∙ sym (drop_all (ahead (s ++ x ∷ [])) (s ++ x ∷ []) all)

  -- a segment that is copied
  pub copied : old.place ≡ None → new.place ≡ then_some {T = ℕ} (looks_like x) 0 → new.fields ≡ old.fields
      → new.cost ≡ old.cost → new.symbols ≡ old.symbols ++ map byte_of_symbol x → IsGathering new (s ++ x ∷ []) front
  copied e place fields cost symbols =
      let here = place_of None e in
      record {
        softening = record {
          place = place ∙ looked (looks_like x) ∙ sym (place_copied s x here);
          field = no_rows (pending_copied s x here);
          count = counted;
          fields = fields ∙ was.fields ∙ sym (count_copied has_group s x here);
          cost = cost ∙ was.cost ∙ sym (count_copied (softened_cost 1) s x here);
        };
        bytes = ap segment_bytes (so_far_copied s x here) ∙ segment_bytes-append (soft_so_far s) (x ∷ [])
            ∙ ap₂ (λ a b. a ++ map byte_of_symbol b) h.bytes (append-nil x)
            ∙ append_assoc front old.symbols (map byte_of_symbol x) ∙ ap (λ z. front ++ z) (sym symbols);
      }

  -- one more of the field's
  rows_more : (p : ℕ) → next_place s ≡ Some p → p < length old.field.items
      → take (p + 1) (slice_set old.field.items p x) ≡ drop (length s - p) s ++ x ∷ []
  rows_more p e l =
      let held = pending_is s (Some p) e in
      let front : ahead s ≡ length s - p = omega (arith, held) in
      cc (take_more_set old.field.items p x l, held, was.field, front)

  -- a segment that is kept
  pub kept : (p : ℕ) → old.place ≡ Some p → p + 1 < 312 → p < length old.field.items → new.place ≡ Some (p + 1)
      → new.field.items ≡ slice_set old.field.items p x → new.fields ≡ old.fields → new.cost ≡ old.cost
      → new.symbols ≡ old.symbols → IsGathering new (s ++ x ∷ []) front
  kept p e l m place field fields cost symbols =
      let here = place_of (Some p) e in
      let on = place_on s x p here l in
      let held = pending_is (s ++ x ∷ []) (Some (p + 1)) on in
      let first : ahead (s ++ x ∷ []) ≡ length s - p = omega (arith, held, length_push s x) in
      record {
        softening = record {
          place = place ∙ sym on;
          field = cc (held, field, rows_more p here m, first, drop-append-le (length s - p) s (x ∷ []) (omega arith));
          count = counted;
          fields = fields ∙ was.fields ∙ sym (count_kept has_group s x p here l);
          cost = cost ∙ was.cost ∙ sym (count_kept (softened_cost 1) s x p here l);
        };
        bytes = ap segment_bytes (so_far_kept s x p here l) ∙ h.bytes ∙ ap (λ z. front ++ z) (sym symbols);
      }

  -- the last one of a field, whose rows are these
  pub full : (rows : List (List ℤ)) → old.place ≡ Some 311 → 311 < length old.field.items
      → rows ≡ take 312 (slice_set old.field.items 311 x) → new.place ≡ None
      → new.fields ≡ old.fields + has_group (groups_in rows)
      → new.cost ≡ old.cost + softened_cost 1 (groups_in rows)
      → new.symbols ≡ old.symbols ++ segment_bytes (flushed rows) → IsGathering new (s ++ x ∷ []) front
  full rows e m are place fields cost symbols =
      let here = place_of (Some 311) e in
      let on = place_ends s x here in
      let first : length s - 311 ≡ ahead s = omega (arith, pending_is s (Some 311) here) in
      let all : rows ≡ drop (ahead s) s ++ x ∷ [] =
      are ∙ rows_more 311 here m ∙ ap (λ n. drop n s ++ x ∷ []) first in
      record {
        softening = record {
          place = place ∙ sym on;
          field = no_rows (pending_is (s ++ x ∷ []) None on);
          count = counted;
          fields = cc (fields, was.fields, all, count_full has_group s x here refl);
          cost = cc (cost, was.cost, all, count_full (softened_cost 1) s x here no_cost);
        };
        bytes = ap segment_bytes (so_far_full s x here)
            ∙ segment_bytes-append (soft_so_far s) (flushed (drop (ahead s) s ++ x ∷ []))
            ∙ ap₂ (λ a b. a ++ segment_bytes (flushed b)) h.bytes (sym all)
            ∙ append_assoc front old.symbols (segment_bytes (flushed rows)) ∙ ap (λ z. front ++ z) (sym symbols);
      }

-- ---- the end

module _ (old : Softening) (s : List (List ℤ)) (rows : ℕ) (h : IsSoftening old s)
    (e : rows ≡ unwrap_or old.place 0) where
  kept_field : take rows old.field.items ≡ drop (ahead s) s
  kept_field = ap (λ n. take n old.field.items) (e ∙ ap (λ (o : Option ℕ). unwrap_or o 0) h.place) ∙ h.field

  pub rest_of : segment_bytes (flushed (take rows old.field.items)) ≡ segment_bytes (soft_rest s)
  rest_of = ap (λ part. segment_bytes (flushed part)) kept_field ∙ ap segment_bytes (sym (rest_is s))

  pub field_sum_all : (count : List (List ℤ) → ℕ) (n all : ℕ) → count [] ≡ 0 → n ≡ field_sum count s (ahead s)
      → all ≡ n + count (groups_in (take rows old.field.items)) → all ≡ field_sum count s (length s)
  field_sum_all count n all none is sum =
      sum ∙ ap₂ (λ a b. a + count (groups_in b)) is kept_field ∙ sym (count_rest count s none)

-- ---- what is made

-- nothing was given
pub softening_none : (new : Softening) → new.place ≡ None → new.segments ≡ 0 → new.fields ≡ 0 → new.cost ≡ 0
    → IsSoftening new []
softening_none new place count fields cost = grind (arith, place_first, pending_is, drop_all, field_sum_none)
