-- The log and the segments of several lives, from one of them on.
use Rattle.std.proofs.Common.{◌≡◌, ℕ, ℤ, ◌+◌, List, [], ◌∷◌, ◌++◌, length, refl, sym, ap, ◌∙◌, arith, add-zero}
use Rattle.std.specs.Prelude.{slice_range}
use Rattle.std.proofs.lemmas.Grind.{flat_map-append}
use Rattle.std.proofs.lemmas.List.{append-nil, append_assoc, length-append}
use Rattle.dtx_exciter.specs.Emission.{emission}
use Rattle.dtx_exciter.specs.Lockstep.{IsFeed, locked_from, IsStretch, stretch}
use Rattle.dtx_exciter.specs.Log.{Line, restart, life_lines, log, restarted_lines, restarting_lines, emission_over}
use Rattle.dtx_exciter.specs.Stretch.{emission_behind, lines_behind, before_stretch, stretch_lines}
use Rattle.dtx_exciter.proofs.LinesLemmas.{lines_on}
use Rattle.dtx_exciter.proofs.LockstepIsLemmas.{lockstep_on}

-- ---- the segments

pub segments_in : (a d : ℕ) (xs ys : List (List (List ℕ))) (life : List (List ℕ))
    → emission_over a d (xs ++ life ∷ ys) ≡ emission_over a d xs ++ (emission a d life ++ emission_over a d ys)
segments_in a d xs ys life = flat_map-append (emission a d) xs (life ∷ ys)

-- ---- the lines

-- a first life
log_first : (a d n : ℕ) (life : List (List ℕ)) (ys : List (List (List ℕ)))
    → log a d n (life ∷ ys) ≡ life_lines a d n life ++ restarting_lines a d (n + length (emission a d life)) ys
unfolding log restarting_lines
log_first a d n life [] = sym (append-nil (life_lines a d n life))
log_first a d n life (next ∷ more) = ap (λ x. life_lines a d n life ++ restart (n + length (emission a d life)) ∷ x)
    (log_first a d (n + length (emission a d life)) next more)

-- a life that another one follows
log_next : (a d n : ℕ) (x life : List (List ℕ)) (xs ys : List (List (List ℕ))) → log a d n (x ∷ (xs ++ life ∷ ys))
    ≡ life_lines a d n x ++ restart (n + length (emission a d x)) ∷ log a d (n + length (emission a d x)) (xs
    ++ life ∷ ys)
unfolding log
log_next a d n x life [] ys = refl
log_next a d n x life (z ∷ zs) ys = refl

pub lines_in : (a d n : ℕ) (xs ys : List (List (List ℕ))) (life : List (List ℕ)) → log a d n (xs ++ life ∷ ys)
    ≡ restarted_lines a d n xs ++ (life_lines a d (n + length (emission_over a d xs)) life
    ++ restarting_lines a d (n + length (emission_over a d xs) + length (emission a d life)) ys)
unfolding restarted_lines
lines_in a d n [] ys life = grind (arith, log_first, add-zero)
lines_in a d n (x ∷ xs) ys life =
    let m : ℕ = n + length (emission a d x) in
    let sum : m + length (emission_over a d xs) ≡ n + length (emission_over a d (x ∷ xs)) =
    omega (arith, length-append (emission a d x) (emission_over a d xs)) in
    log_next a d n x life xs ys ∙ ap (λ y. life_lines a d n x ++ restart m ∷ y) (rw (lines_in a d m xs ys life, sum))
    ∙ sym (append_assoc (life_lines a d n x) (restart m ∷ restarted_lines a d m xs)
    (life_lines a d (n + length (emission_over a d (x ∷ xs))) life
    ++ restarting_lines a d (n + length (emission_over a d (x ∷ xs)) + length (emission a d life)) ys))

-- ---- a stretch in one of the lives

pub stretch_segments : (a d : ℕ) (z : ℤ) (feed earlier later : List (List ℕ)) (xs ys : List (List (List ℕ)))
    (mark end k : ℕ) → IsFeed a d z feed → IsStretch a feed (locked_from earlier mark) mark end k
    → emission_over a d (xs ++ (earlier ++ (slice_range feed mark end ++ later)) ∷ ys)
    ≡ (emission_over a d xs ++ before_stretch a d earlier feed mark k)
    ++ (stretch feed k end ++ (emission_behind a d (earlier ++ slice_range feed mark end) later
    ++ emission_over a d ys))
stretch_segments a d z feed earlier later xs ys mark end k f s =
    let before : List (List ℤ) = before_stretch a d earlier feed mark k in
    let after : List (List ℤ) = emission_behind a d (earlier ++ slice_range feed mark end) later in
    segments_in a d xs ys (earlier ++ (slice_range feed mark end ++ later)) ∙ ap (λ x. emission_over a d xs ++ x)
    (ap (λ x. x ++ emission_over a d ys) (lockstep_on a d z feed earlier later mark end k f s)
    ∙ append_assoc before (stretch feed k end ++ after) (emission_over a d ys)
    ∙ ap (λ x. before ++ x) (append_assoc (stretch feed k end) after (emission_over a d ys)))
    ∙ sym (append_assoc (emission_over a d xs) before (stretch feed k end ++ (after ++ emission_over a d ys)))

-- where s segments were given before its life
stretch_by : (a d n s : ℕ) (z : ℤ) (feed earlier later : List (List ℕ)) (xs ys : List (List (List ℕ))) (mark end k : ℕ)
    → IsFeed a d z feed → IsStretch a feed (locked_from earlier mark) mark end k → s ≡ n + length (emission_over a d xs)
    → log a d n (xs ++ (earlier ++ (slice_range feed mark end ++ later)) ∷ ys)
    ≡ (restarted_lines a d n xs ++ life_lines a d s (earlier ++ slice_range feed mark (k + 3)))
    ++ (stretch_lines z (s + length (before_stretch a d earlier feed mark k)) feed k end
    ++ (lines_behind a d s (earlier ++ slice_range feed mark end) later
    ++ restarting_lines a d (s + length (emission a d (earlier ++ (slice_range feed mark end ++ later)))) ys))
stretch_by a d n s z feed earlier later xs ys mark end k f t e =
    let life : List (List ℕ) = earlier ++ (slice_range feed mark end ++ later) in
    let before : List Line = life_lines a d s (earlier ++ slice_range feed mark (k + 3)) in
    let own : List Line = stretch_lines z (s + length (before_stretch a d earlier feed mark k)) feed k end in
    let after : List Line = lines_behind a d s (earlier ++ slice_range feed mark end) later in
    let others : List Line = restarting_lines a d (s + length (emission a d life)) ys in
    lines_in a d n xs ys life
    ∙ ap (λ (m : ℕ). restarted_lines a d n xs ++ (life_lines a d m life
    ++ restarting_lines a d (m + length (emission a d life)) ys)) (sym e)
    ∙ ap (λ x. restarted_lines a d n xs ++ x)
    (ap (λ x. x ++ others) (lines_on a d s z feed earlier later mark end k f t)
    ∙ append_assoc before (own ++ after) others
    ∙ ap (λ x. before ++ x) (append_assoc own after others))
    ∙ sym (append_assoc (restarted_lines a d n xs) before (own ++ (after ++ others)))

pub stretch_log : (a d n : ℕ) (z : ℤ) (feed earlier later : List (List ℕ)) (xs ys : List (List (List ℕ)))
    (mark end k : ℕ) → IsFeed a d z feed → IsStretch a feed (locked_from earlier mark) mark end k
    → let s : ℕ = n + length (emission_over a d xs) in
    log a d n (xs ++ (earlier ++ (slice_range feed mark end ++ later)) ∷ ys)
    ≡ (restarted_lines a d n xs ++ life_lines a d s (earlier ++ slice_range feed mark (k + 3)))
    ++ (stretch_lines z (s + length (before_stretch a d earlier feed mark k)) feed k end
    ++ (lines_behind a d s (earlier ++ slice_range feed mark end) later
    ++ restarting_lines a d (s + length (emission a d (earlier ++ (slice_range feed mark end ++ later)))) ys))
stretch_log a d n z feed earlier later xs ys mark end k f t = grind (arith, stretch_by)
