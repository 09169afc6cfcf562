-- Lemmas of what is made of symbols that are sent again: it grows with them.
use Rattle.std.proofs.Common.{◌≡◌, ℕ, ℤ, List, length, take, drop, refl, sym, ap, ap₂, ◌∙◌, subst}
use Rattle.std.proofs.lemmas.List.{drop_at, take-append-drop}
use Rattle.dtx_engine.specs.Made.{Made, both, joined, AreFrontsOf}
use Rattle.dtx_repeat.specs.Lives.{lives, lives_so_far}
use Rattle.dtx_repeat.proofs.LivesLemmas.{lives_end, some_last}
use Rattle.dtx_recipes.specs.Repeat.{behind_in, sent_in, repeating, repeated_files}
use Rattle.dtx_recipes.specs.SymbolFile.{file_segments}
use Rattle.dtx_recipes.proofs.RepeatLemmas.{Fronts, fronts_on, fronts_given, fronts_segments}

-- what lives make so far is a front part of what all make at the end
fronts_end : (a d : ℕ) (s : List (List ℤ)) → Fronts a d (lives_so_far s) (lives s)
fronts_end a d s = let last = some_last s in
    fronts_given a d (lives_so_far s) (lives s) last.0 (lives_end s last.0 last.1)

-- ---- what is made

-- what the end adds
pub repeats_last : (a d : ℕ) (file : List ℕ) (brought : Made)
    → sent_in a d (lives (file_segments file)) ≡ joined (sent_in a d (lives_so_far (file_segments file))) brought
    → brought ≡ (repeating a d).rest file
repeats_last a d file brought is =
    let front : Made = sent_in a d (lives_so_far (file_segments file)) in
    sym (ap (behind_in front) is
    ∙ ap₂ both (drop_at front.first brought.first (length front.first) refl)
    (drop_at front.second brought.second (length front.second) refl))

-- what is made of all segments is what their runs give
pub repeats_all : (a d : ℕ) (file : List ℕ)
    → joined ((repeating a d).made file) ((repeating a d).rest file) ≡ repeated_files a d file
repeats_all a d file =
    let end = fronts_end a d (file_segments file) in
    let all = ap₂ both end.0.1 end.1.1 in
    ap (joined ((repeating a d).made file)) (sym (repeats_last a d file (both end.0.0 end.1.0) (sym all))) ∙ all

-- what the first segments give while they come is in each output a front part of what all give
pub repeats_front : (a d : ℕ) (list : List (List ℤ)) (n : ℕ)
    → AreFrontsOf (sent_in a d (lives_so_far (take n list))) (sent_in a d (lives list))
repeats_front a d list n = fronts_on a d (lives_so_far (take n list)) (lives_so_far list) (lives list)
    (subst (λ z. Fronts a d (lives_so_far (take n list)) (lives_so_far z)) (take-append-drop n list)
    (fronts_segments a d (take n list) (drop n list))) (fronts_end a d list)
