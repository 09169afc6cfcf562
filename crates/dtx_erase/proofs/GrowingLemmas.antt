-- With one segment more, and at the end of a list, mended packets come behind those that were given before.
use Rattle.std.proofs.Common.{◌≡◌, ℤ, ◌<◌, List, [], ◌∷◌, ◌++◌, length, map, refl, sym, ap, ap₂, ◌∙◌, arith}
use Rattle.std.proofs.lemmas.List.{length-map}
use Rattle.dtx_receiver.specs.Bytes.{bytes_in}
use Rattle.dtx_receiver.specs.Receiver.{AreGiven}
use Rattle.dtx_receiver.specs.Runs.{tracked}
use Rattle.dtx_receiver.specs.declared.batch.Received.{Received}
use Rattle.dtx_receiver.proofs.CountingLemmas.{More, bytes_on, list_ends, list_grows}
use Rattle.dtx_receiver.proofs.SegmentsLemmas.{first_bytes}
use Rattle.dtx_erase.specs.Marks.{is_set, shown, shown_run}
use Rattle.dtx_erase.proofs.MarksLemmas.{bytes_long, flags_long, groups, marks_are, shown_push}
use Rattle.dtx_erase.specs.Mended.{all_mended, mended_early, mended_run, mended_run_early, mended_run_packets}
use Rattle.dtx_erase.specs.Mended.{mended_so_far}
use Rattle.dtx_erase.proofs.MendedLemmas.{early_more, end_more}

-- by the marks, what comes behind what is given by the flags
by_marks : (run : List (List ℤ)) (after : List Received) → More after (mended_early (bytes_in run) (map is_set
    (bytes_in (shown_run run)))) → More after (mended_run_early run)
by_marks run after m = (m.0, m.1 ∙ ap (λ marks. mended_early (bytes_in run) marks ++ m.0) (sym (marks_are run)))

run_on : (run : List (List ℤ)) (x : List ℤ) → 0 < length run
    → More (mended_run_early (run ++ x ∷ [])) (mended_run_early run)
run_on run x some =
    let b = bytes_on run x some in
    let f = bytes_on (shown_run run) (map shown x) (omega (arith, some, length-map run (map shown))) in
    by_marks run (mended_run_early (run ++ x ∷ [])) (
      _,
      ap₂ mended_early b.3 (marks_are (run ++ x ∷ [])
          ∙ ap (λ r. map is_set (bytes_in r)) (shown_push run x) ∙ ap (map is_set) f.3)
          ∙ early_more (bytes_in run) b.0 (bytes_in (shown_run run)) f.0 (groups run) b.1 (bytes_long run)
          (flags_long run) (omega (arith, b.2)),
    )

run_end : (run : List (List ℤ)) → More (mended_run run) (mended_run_early run)
run_end run = by_marks run (mended_run run) (
  _,
  ap (mended_run_packets (bytes_in run)) (marks_are run)
      ∙ end_more (bytes_in run) (bytes_in (shown_run run)) (groups run) (bytes_long run),
)

-- ---- lists of segments

-- what is mended of a list is what is mended of its runs
pub mended_given : AreGiven mended_run mended_run_early mended_so_far all_mended
unfolding mended_early mended_so_far all_mended
mended_given = grind (arith, first_bytes)

pub nothing_mended : mended_so_far [] ≡ []
unfolding mended_so_far tracked
nothing_mended = refl

pub mended_more : (s : List (List ℤ)) (x : List ℤ) → More (mended_so_far (s ++ x ∷ [])) (mended_so_far s)
mended_more s x = list_grows mended_given (record { on = run_on; end = run_end }) s x

pub mended_end : (s : List (List ℤ)) → More (all_mended s) (mended_so_far s)
mended_end s = list_ends mended_given (record { on = run_on; end = run_end }) s
