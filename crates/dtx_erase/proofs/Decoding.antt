-- What is kept of both sides of a run, with one segment more, and the packets that it gives.
use Rattle.std.proofs.Common.{◌≡◌, ℕ, ℤ, ◌+◌, ◌-◌, ◌*◌, ◌%◌, ◌<◌, List, [], ◌∷◌, ◌++◌, length, map, sym, ap, ap₂, ◌∙◌}
use Rattle.std.proofs.Common.{subst, arith}
use Rattle.std.proofs.lemmas.List.{append-nil, length-map}
use Rattle.dtx_receiver.specs.Bytes.{groups_of, bytes_in}
use Rattle.dtx_receiver.proofs.SegmentsLemmas.{Still, still_sync, first_groups}
use Rattle.dtx_erase.proofs.GrowingLemmas.{mended_given}
use Rattle.dtx_erase.specs.Marks.{shown, shown_run, is_set}
use Rattle.dtx_receiver.specs.Receiver.{IsDecoder}
use Rattle.dtx_erase.specs.Mended.{mended_early, mended_run, mended_run_early, all_mended, mended_so_far}
use Rattle.dtx_erase.specs.Sides.{Holds, Decoding, Decodes, IsFurther}
use Rattle.dtx_erase.proofs.MarksLemmas.{shown_groups, marks_are, shown_push}
use Rattle.dtx_erase.proofs.Stands.{holds_sync}

shown_long : (run : List (List ℤ)) → length (shown_run run) ≡ length run
shown_long run = length-map run (map shown)

-- both sides take a segment
both : (P : List (List ℤ) → Type 0) (run : List (List ℤ)) (x : List ℤ) → P (shown_run run ++ map shown x ∷ [])
    → P (shown_run (run ++ x ∷ []))
both P run x h = subst P (sym (shown_push run x)) h

pub flags_long : (kept : Decoding) (run : List (List ℤ)) → Decodes kept run
    → length (bytes_in (shown_run run)) ≡ 828 * groups_of run
flags_long kept run d = d.marks.gathers.given ∙ ap (λ g. 828 * g) (shown_groups run)

pub early_is : (kept : Decoding) (run : List (List ℤ)) → Decodes kept run
    → mended_run_early run ≡ mended_early (bytes_in run) (map is_set (bytes_in (shown_run run)))
early_is kept run d = ap (mended_early (bytes_in run)) (marks_are run)

-- ---- the first field sync, and later ones

pub decodes_first : (x : List ℤ) (new : Decoding) → Holds new.bytes (x ∷ []) → Holds new.marks (map shown x ∷ [])
    → new.waits ≡ 13 → new.place ≡ 0 → Decodes new (x ∷ [])
decodes_first x new b m w p = record {
  bytes = b;
  marks = m;
  waits = w ∙ ap (λ g. 13 - g) (sym (first_groups x));
  place = p ∙ ap (λ g. (4 * g - 52) % 312) (sym (first_groups x));
}

sync_groups : (x : List ℤ) (run : List (List ℤ)) → 0 < length run → length run % 313 ≡ 0
    → groups_of (run ++ x ∷ []) ≡ groups_of run
sync_groups x run s z = let t : Still run (run ++ x ∷ []) = still_sync run x s z in t.groups

decodes_sync : (x : List ℤ) (kept : Decoding) (run : List (List ℤ)) → Decodes kept run → length run % 313 ≡ 0
    → Decodes kept (run ++ x ∷ [])
decodes_sync x kept run d z =
    let g : groups_of (run ++ x ∷ []) ≡ groups_of run = sync_groups x run d.bytes.levels.some z in
    record {
      bytes = holds_sync x kept.bytes run d.bytes z;
      marks = both (Holds kept.marks) run x (holds_sync (map shown x) kept.marks (shown_run run) d.marks
          (ap (λ n. n % 313) (shown_long run) ∙ z));
      waits = d.waits ∙ ap (λ n. 13 - n) (sym g);
      place = d.place ∙ ap (λ n. (4 * n - 52) % 312) (sym g);
    }

-- where neither bytes nor marks come
early_still : (x : List ℤ) (kept new : Decoding) (run : List (List ℤ)) → Decodes kept run → Decodes new (run ++ x ∷ [])
    → bytes_in (run ++ x ∷ []) ≡ bytes_in run → bytes_in (shown_run run ++ map shown x ∷ []) ≡ bytes_in (shown_run run)
    → mended_run_early (run ++ x ∷ []) ≡ mended_run_early run ++ []
early_still x kept new run d h e f = grind (arith, early_is, shown_push, append-nil)

early_sync : (x : List ℤ) (kept : Decoding) (run : List (List ℤ)) → Decodes kept run → length run % 313 ≡ 0
    → mended_run_early (run ++ x ∷ []) ≡ mended_run_early run ++ []
early_sync x kept run d z =
    let t : Still (shown_run run) (shown_run run ++ map shown x ∷ []) =
    still_sync (shown_run run) (map shown x) d.marks.levels.some (ap (λ n. n % 313) (shown_long run) ∙ z) in
    early_still x kept kept run d (decodes_sync x kept run d z) (still_sync run x d.bytes.levels.some z).bytes t.bytes

pub mending : IsDecoder Decodes mended_run mended_run_early mended_so_far all_mended
mending = record {
  packets = mended_given;
  sync_held = decodes_sync;
  sync_given = early_sync;
}

-- ---- more segments

pub shown_due : (run : List (List ℤ)) (place : ℕ) → length run % 313 ≡ place + 1
    → length (shown_run run) % 313 ≡ place + 1
shown_due run place e = ap (λ n. n % 313) (shown_long run) ∙ e

-- both sides have come to a longer run, which has h groups more
pub record Both (kept new : Decoding) (h : ℕ) (run longer : List (List ℤ)) : Type 0 where
  pub old : Decodes kept run
  pub bytes : IsFurther new.bytes h run longer
  pub marks : IsFurther new.marks h (shown_run run) (shown_run longer)
  pub waits : new.waits ≡ kept.waits - h
  pub place : new.place ≡ (kept.place + 4 * (h - kept.waits)) % 312

pub decodes_further : (kept new : Decoding) (h : ℕ) (run longer : List (List ℤ)) → Both kept new h run longer
    → Decodes new longer
decodes_further kept new h run longer b = record {
  bytes = b.bytes.holds;
  marks = b.marks.holds;
  waits = b.waits ∙ ap (λ n. n - h) b.old.waits ∙ waited (groups_of run)
      ∙ ap (λ g. 13 - g) (sym b.bytes.count);
  place = b.place ∙ ap₂ (λ (n w : ℕ). (n + 4 * (h - w)) % 312) b.old.place b.old.waits ∙ placed (groups_of run)
      ∙ ap (λ g. (4 * g - 52) % 312) (sym b.bytes.count);
}
  where
    waited : (g : ℕ) → 13 - g - h ≡ 13 - (g + h)
    waited g = omega arith

    placed : (g : ℕ) → ((4 * g - 52) % 312 + 4 * (h - (13 - g))) % 312 ≡ (4 * (g + h) - 52) % 312
    placed g = omega arith
