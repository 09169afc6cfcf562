-- Laws of what an exciter makes of lives, with one packet more and with one life more.
use Rattle.std.proofs.Common.{◌≡◌, ℕ, ℤ, ◌+◌, ◌<◌, List, [], ◌∷◌, ◌++◌, length, map, refl, sym, ap, ◌∙◌, append_assoc}
use Rattle.std.proofs.Common.{arith}
use Rattle.std.proofs.lemmas.List.{append-nil, length-append}
use Rattle.dtx_coder.specs.Stream.{symbols_of}
use Rattle.dtx_exciter.specs.Emission.{last_segments, emission}
use Rattle.dtx_exciter.proofs.EmittedLemmas.{emission_push}
use Rattle.dtx_exciter.proofs.InLivesLemmas.{segments_in, lines_in}
use Rattle.dtx_exciter.proofs.LinesLemmas.{lines_more}
use Rattle.dtx_exciter.specs.Log.{Line, restart, line_of, life_lines, log, restarted_lines, restarting_lines}
use Rattle.dtx_exciter.specs.Log.{emission_over}
use Rattle.dtx_exciter.specs.Packets.{last_answer}
use Rattle.dtx_exciter.specs.Stretch.{lines_behind}
use Rattle.dtx_files.proofs.AppendedLemmas.{segment_bytes-append, log_text-append}
use Rattle.dtx_files.specs.LogText.{log_text}
use Rattle.dtx_files.specs.Symbols.{byte_of_symbol}
use Rattle.dtx_repeat.specs.GoingOn.{last_life, longer}
use Rattle.dtx_repeat.proofs.GoingOnLemmas.{longer_last}
use Rattle.dtx_recipes.specs.Life.{sent_over, logged_over}

-- ---- the last of some lives

abbrev pub lives_but_last : List (List (List ℕ)) → List (List (List ℕ))
lives_but_last [] = []
lives_but_last (life ∷ []) = []
lives_but_last (life ∷ (next ∷ more)) = life ∷ lives_but_last (next ∷ more)

pub parts : (lives : List (List (List ℕ))) → 0 < length lives → lives ≡ lives_but_last lives ++ last_life lives ∷ []
parts [] some = absurd (omega (arith, some))
parts (life ∷ []) some = refl
parts (life ∷ (next ∷ more)) some = ap (λ z. life ∷ z) (parts (next ∷ more) (omega arith))

-- ---- one packet more

one_line : (a d n : ℕ) (l : List (List ℕ)) (p : List ℕ) → life_lines a d n (l ++ p ∷ [])
    ≡ life_lines a d n l ++ line_of (n + length (emission a d l)) (length (last_segments a d (l ++ p ∷ [])))
    (last_answer a d (l ++ p ∷ []))
unfolding lines_behind
one_line a d n l p = grind (arith, lines_more, append-nil)

emission_last : (a d : ℕ) (xs : List (List (List ℕ))) (life : List (List ℕ))
    → emission_over a d (xs ++ life ∷ []) ≡ emission_over a d xs ++ emission a d life
emission_last a d xs life = grind (arith, segments_in, append-nil)

log_last : (a d : ℕ) (xs : List (List (List ℕ))) (life : List (List ℕ)) → log a d 0 (xs ++ life ∷ [])
    ≡ restarted_lines a d 0 xs ++ life_lines a d (0 + length (emission_over a d xs)) life
unfolding restarting_lines
log_last a d xs life = grind (arith, lines_in, append-nil)

-- the segments that packet `p` brings when it comes at the end of the last life
abbrev pub brought_by : ℕ → ℕ → List (List (List ℕ)) → List ℕ → List (List ℤ)
brought_by a d lives p = last_segments a d (last_life lives ++ p ∷ [])

-- the line that it brings, or none
abbrev pub line_by : ℕ → ℕ → List (List (List ℕ)) → List ℕ → List Line
line_by a d lives p = line_of (length (emission_over a d lives)) (length (brought_by a d lives p))
    (last_answer a d (last_life lives ++ p ∷ []))

emission_at : (a d : ℕ) (xs : List (List (List ℕ))) (life : List (List ℕ)) (p : List ℕ)
    → emission_over a d (longer (xs ++ life ∷ []) (p ∷ []))
    ≡ emission_over a d (xs ++ life ∷ []) ++ last_segments a d (life ++ p ∷ [])
emission_at a d xs life p = simp (longer_last, emission_last, emission_push, append_assoc)

log_at : (a d : ℕ) (xs : List (List (List ℕ))) (life : List (List ℕ)) (p : List ℕ)
    → log a d 0 (longer (xs ++ life ∷ []) (p ∷ [])) ≡ log a d 0 (xs ++ life ∷ [])
    ++ line_of (length (emission_over a d (xs ++ life ∷ []))) (length (last_segments a d (life ++ p ∷ [])))
    (last_answer a d (life ++ p ∷ []))
log_at a d xs life p =
    let n : ℕ = 0 + length (emission_over a d xs) in
    let line : ℕ → List Line =
    λ m. line_of m (length (last_segments a d (life ++ p ∷ []))) (last_answer a d (life ++ p ∷ [])) in
    ap (log a d 0) (longer_last xs life (p ∷ [])) ∙ log_last a d xs (life ++ p ∷ [])
    ∙ ap (λ z. restarted_lines a d 0 xs ++ z) (one_line a d n life p ∙ ap (λ m. life_lines a d n life ++ line m)
    (omega (arith, ap length (emission_last a d xs life), length-append (emission_over a d xs) (emission a d life))))
    ∙ sym (append_assoc (restarted_lines a d 0 xs) (life_lines a d n life)
    (line (length (emission_over a d (xs ++ life ∷ [])))))
    ∙ ap (λ z. z ++ line (length (emission_over a d (xs ++ life ∷ [])))) (sym (log_last a d xs life))

pub emission_longer : (a d : ℕ) (lives : List (List (List ℕ))) (p : List ℕ) → 0 < length lives
    → emission_over a d (longer lives (p ∷ [])) ≡ emission_over a d lives ++ brought_by a d lives p
emission_longer a d lives p some =
    let e = parts lives some in
    ap (λ z. emission_over a d (longer z (p ∷ []))) e ∙ grind (arith, emission_at)

pub log_longer : (a d : ℕ) (lives : List (List (List ℕ))) (p : List ℕ) → 0 < length lives
    → log a d 0 (longer lives (p ∷ [])) ≡ log a d 0 lives ++ line_by a d lives p
log_longer a d lives p some =
    let e = parts lives some in
    let line : ℕ → List Line =
    λ m. line_of m (length (brought_by a d lives p)) (last_answer a d (last_life lives ++ p ∷ [])) in
    ap (λ z. log a d 0 (longer z (p ∷ []))) e ∙ grind (arith, log_at)

-- ---- one life more

-- the restart line that one life more brings: the first life has none
abbrev pub restart_by : ℕ → ℕ → List (List (List ℕ)) → List Line
restart_by a d [] = []
restart_by a d (life ∷ more) = restart (length (emission_over a d (life ∷ more))) ∷ []

pub emission_begun : (a d : ℕ) (lives : List (List (List ℕ)))
    → emission_over a d (lives ++ [] ∷ []) ≡ emission_over a d lives
unfolding emission
emission_begun a d lives = emission_last a d lives [] ∙ append-nil (emission_over a d lives)

begun_at : (a d : ℕ) (xs : List (List (List ℕ))) (life : List (List ℕ)) → log a d 0 ((xs ++ life ∷ []) ++ [] ∷ [])
    ≡ log a d 0 (xs ++ life ∷ []) ++ restart (length (emission_over a d (xs ++ life ∷ []))) ∷ []
unfolding restarting_lines life_lines
begun_at a d xs life =
    let n : ℕ = 0 + length (emission_over a d xs) in
    let m : ℕ = length (emission_over a d (xs ++ life ∷ [])) in
    let own : List Line = life_lines a d n life in
    let count : n + length (emission a d life) ≡ m = grind (arith, emission_last, length-append) in
    ap (log a d 0) (append_assoc xs (life ∷ []) ([] ∷ [])) ∙ lines_in a d 0 xs ([] ∷ []) life
    ∙ ap (λ k. restarted_lines a d 0 xs ++ (own ++ restart k ∷ [])) count
    ∙ sym (append_assoc (restarted_lines a d 0 xs) own (restart m ∷ []))
    ∙ ap (λ z. z ++ restart m ∷ []) (sym (log_last a d xs life))

pub log_begun : (a d : ℕ) (lives : List (List (List ℕ)))
    → log a d 0 (lives ++ [] ∷ []) ≡ log a d 0 lives ++ restart_by a d lives
unfolding log life_lines
log_begun a d [] = refl
log_begun a d (x ∷ more) =
    let e = parts (x ∷ more) (omega arith) in
    ap (λ z. log a d 0 (z ++ [] ∷ [])) e ∙ grind (arith, begun_at)

-- ---- the files

pub sent_longer : (a d : ℕ) (lives : List (List (List ℕ))) (p : List ℕ) → 0 < length lives
    → sent_over a d (longer lives (p ∷ []))
    ≡ sent_over a d lives ++ map byte_of_symbol (symbols_of (brought_by a d lives p))
sent_longer a d lives p some = grind (arith, emission_longer, segment_bytes-append)

pub logged_longer : (a d : ℕ) (lives : List (List (List ℕ))) (p : List ℕ) → 0 < length lives
    → logged_over a d (longer lives (p ∷ [])) ≡ logged_over a d lives ++ log_text (line_by a d lives p)
logged_longer a d lives p some = grind (arith, log_longer, log_text-append)

pub sent_begun : (a d : ℕ) (lives : List (List (List ℕ))) → sent_over a d (lives ++ [] ∷ []) ≡ sent_over a d lives
sent_begun a d lives = ap (λ ss. map byte_of_symbol (symbols_of ss)) (emission_begun a d lives)

pub logged_begun : (a d : ℕ) (lives : List (List (List ℕ)))
    → logged_over a d (lives ++ [] ∷ []) ≡ logged_over a d lives ++ log_text (restart_by a d lives)
logged_begun a d lives = ap log_text (log_begun a d lives) ∙ log_text-append (log a d 0 lives) (restart_by a d lives)
