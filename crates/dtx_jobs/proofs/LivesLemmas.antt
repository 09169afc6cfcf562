-- What an exciter makes of lives, with one packet more and with one life more.
use Rattle.std.proofs.Common.{◌≡◌, ℕ, ◌+◌, ◌<◌, ◌≤◌, List, [], ◌∷◌, ◌++◌, length, refl, sym, ap, ◌∙◌, arith}
use Rattle.std.specs.Prelude.{nat_lt}
use Rattle.std.specs.List.{flat_map}
use Rattle.std.proofs.lemmas.Bool.{cond-true, cond-false, lt-ltb, le-ltb}
use Rattle.std.proofs.lemmas.Grind.{flat_map-append}
use Rattle.std.proofs.lemmas.List.{append-nil, length-append, length_push}
use Rattle.std.proofs.lemmas.List.Sums.{sum_by-append}
use Rattle.dtx_exciter.specs.Log.{Line, restart, log, emission_over}
use Rattle.dtx_files.specs.LogText.{log_text}
use Rattle.dtx_repeat.specs.GoingOn.{last_life, longer}
use Rattle.dtx_repeat.proofs.GoingOnLemmas.{longer_last}
use Rattle.dtx_repeat.proofs.SeveralLemmas.{one_or_none, with_runs}
use Rattle.dtx_recipes.specs.Life.{one_mute, presets_in, mutes_in, tally_with, sent_over, logged_over, lives_tally}
use Rattle.dtx_recipes.specs.Repeat.{restart_with}
use Rattle.dtx_recipes.proofs.LivesLemmas.{lives_but_last, parts, brought_by, line_by, emission_longer, log_longer}
use Rattle.dtx_recipes.proofs.LivesLemmas.{restart_by, emission_begun, log_begun, sent_begun, logged_begun}
use Rattle.dtx_jobs.proofs.LifeOn.{same_tally}

-- ---- the numbers

packets_last : (xs : List (List (List ℕ))) (life : List (List ℕ))
    → length (flat_map (λ (l : List (List ℕ)). l) (xs ++ life ∷ []))
    ≡ length (flat_map (λ (l : List (List ℕ)). l) xs) + length life
packets_last xs life = grind (arith, flat_map-append, length-append, append-nil)

packets_longer : (lives : List (List (List ℕ))) (p : List ℕ) → 0 < length lives
    → length (flat_map (λ (l : List (List ℕ)). l) (longer lives (p ∷ [])))
    ≡ length (flat_map (λ (l : List (List ℕ)). l) lives) + 1
packets_longer lives p some =
    let life : List (List ℕ) = last_life lives in
    let e = parts lives some in
    let count : List (List (List ℕ)) → ℕ = λ z. length (flat_map (λ (l : List (List ℕ)). l) z) in
    omega (
      arith,
      ap (λ z. count (longer z (p ∷ []))) e ∙ ap count (longer_last (lives_but_last lives) life (p ∷ [])),
      packets_last (lives_but_last lives) (life ++ p ∷ []),
      ap count e,
      packets_last (lives_but_last lives) life,
      length_push life p,
    )

pub tally_longer : (a d : ℕ) (lives : List (List (List ℕ))) (p : List ℕ) → 0 < length lives
    → tally_with (lives_tally a d lives) (length (brought_by a d lives p)) (line_by a d lives p)
    ≡ lives_tally a d (longer lives (p ∷ []))
tally_longer a d lives p some =
    let line : List Line = line_by a d lives p in
    same_tally _ _ _ _ _ _ _ _ (sym (packets_longer lives p some)) (sym (ap length (emission_longer a d lives p some)
    ∙ length-append (emission_over a d lives) (brought_by a d lives p))) (grind (arith, log_longer, sum_by-append))
    (sym (ap mutes_in (log_longer a d lives p some) ∙ sum_by-append one_mute (log a d 0 lives) line))

no_presets : (a d : ℕ) (lives : List (List (List ℕ))) → presets_in (restart_by a d lives) ≡ 0
no_presets a d [] = refl
no_presets a d (x ∷ more) = refl

no_mutes : (a d : ℕ) (lives : List (List (List ℕ))) → mutes_in (restart_by a d lives) ≡ 0
no_mutes a d [] = refl
no_mutes a d (x ∷ more) = refl

pub tally_begun : (a d : ℕ) (lives : List (List (List ℕ))) → lives_tally a d lives ≡ lives_tally a d (lives ++ [] ∷ [])
tally_begun a d lives =
    grind (arith, same_tally, packets_last, emission_begun, log_begun, sum_by-append, restart_by, no_presets, no_mutes)

-- ---- where some segments begin one run, or none

pub sent_with : (a d begins : ℕ) (lives : List (List (List ℕ))) → begins ≤ 1
    → sent_over a d (with_runs begins lives) ≡ sent_over a d lives
sent_with a d begins lives most = grind (arith, one_or_none, sent_begun)

restart_is : (a d runs n : ℕ) (lives : List (List (List ℕ))) → runs ≡ length lives
    → n ≡ length (emission_over a d lives) → restart_by a d lives ≡ restart_with 1 runs n
restart_is a d runs n [] e f = sym (cond-false (nat_lt 0 runs) (restart n ∷ []) [] (le-ltb 0 runs (omega (arith, e))))
restart_is a d runs n (x ∷ more) e f = grind (arith, cond-true, lt-ltb)

pub logged_with : (a d begins runs n : ℕ) (lives : List (List (List ℕ))) → begins ≤ 1 → runs ≡ length lives
    → n ≡ length (emission_over a d lives)
    → logged_over a d (with_runs begins lives) ≡ logged_over a d lives ++ log_text (restart_with begins runs n)
logged_with a d begins runs n lives most e f = grind (arith, one_or_none, append-nil, logged_begun, restart_is)

pub tally_with_begun : (a d begins : ℕ) (lives : List (List (List ℕ))) → begins ≤ 1
    → lives_tally a d lives ≡ lives_tally a d (with_runs begins lives)
tally_with_begun a d begins lives most = grind (arith, one_or_none, tally_begun)
