-- What a transmitter sends and what is logged of it, one step further.
use Rattle.std.proofs.Common.{◌≡◌, ℕ, ℤ, ◌+◌, List, [], ◌∷◌, ◌++◌, length, take, refl, sym, ap, ap₂, ◌∙◌, arith}
use Rattle.std.specs.List.{range_with_len, flat_map}
use Rattle.std.proofs.lemmas.List.{append-nil, append_assoc, length-append, length_push, take-append-le, take_all}
use Rattle.std.proofs.lemmas.Grind.{flat_map-append}
use Rattle.dtx_lists.proofs.Range.{range_with_len-parts}
use Rattle.dtx_lists.proofs.RangeMoved.{flat_map-range_same}
use Rattle.dtx_plan.specs.declared.transmitter.Transmitter.{Transmitter}
use Rattle.dtx_exciter.specs.Packets.{last_answer}
use Rattle.dtx_exciter.specs.Emission.{last_segments, emission}
use Rattle.dtx_exciter.specs.Log.{Line, restart, line_of, life_lines, log, emission_over}
use Rattle.dtx_exciter.proofs.EmittedLemmas.{emission_push}
use Rattle.dtx_net.specs.Steps.{Step, packet_step, restart_step}
use Rattle.dtx_net.specs.Lives.{own_steps, lives_of, last_life, sent_segments, lines_of}
use Rattle.dtx_net.proofs.LastLifeLemmas.{lives}

-- ---- the segments of lives

sent_nothing : (a d : ℕ) → emission a d [] ≡ []
unfolding emission
sent_nothing a d = refl

sent_append : (a d : ℕ) (xs : List (List (List ℕ))) (life : List (List ℕ))
    → emission_over a d (xs ++ life ∷ []) ≡ emission_over a d xs ++ emission a d life
sent_append a d xs life = grind (arith, flat_map-append, append-nil)

sent_cons : (a d : ℕ) (life : List (List ℕ)) (xs : List (List (List ℕ)))
    → emission_over a d (life ∷ xs) ≡ emission a d life ++ emission_over a d xs
sent_cons a d life xs = refl

sent_one : (a d : ℕ) (life : List (List ℕ)) → emission a d life ≡ emission_over a d (life ∷ [])
sent_one a d life = sym (append-nil (emission a d life))

-- a packet more in the last life
sent_push : (a d : ℕ) (xs : List (List (List ℕ))) (life : List (List ℕ)) (p : List ℕ)
    → emission_over a d (xs ++ (life ++ p ∷ []) ∷ []) ≡ emission_over a d (xs ++ life ∷ [])
    ++ last_segments a d (life ++ p ∷ [])
sent_push a d xs life p = grind (arith, sent_append, emission_push, append_assoc)

-- a new life
sent_new : (a d : ℕ) (xs : List (List (List ℕ))) → emission_over a d (xs ++ [] ∷ []) ≡ emission_over a d xs
sent_new a d xs = grind (arith, sent_append, sent_nothing, append-nil)

-- ---- the lines of lives

-- a packet more
life_lines_push : (a d n : ℕ) (life : List (List ℕ)) (p : List ℕ)
    → life_lines a d n (life ++ p ∷ []) ≡ life_lines a d n life
    ++ line_of (n + length (emission a d life)) (length (last_segments a d (life
    ++ p ∷ []))) (last_answer a d (life ++ p ∷ []))
unfolding life_lines
life_lines_push a d n life p =
    let line : List (List ℕ) → ℕ → List Line =
    λ l i. line_of (n + length (emission a d (take i l))) (length (last_segments a d (take (i + 1) l)))
    (last_answer a d (take (i + 1) l)) in
    let k : ℕ = length life in
    ap (λ m. flat_map (line (life ++ p ∷ [])) (range_with_len 0 m)) (length_push life p)
    ∙ ap (flat_map (line (life ++ p ∷ []))) (range_with_len-parts 0 k 1)
    ∙ flat_map-append (line (life ++ p ∷ [])) (range_with_len 0 k) (range_with_len (0 + k) 1) ∙ ap₂ ◌++◌
    (grind (arith, flat_map-range_same, take-append-le)) (append-nil (line (life ++ p ∷ []) (0 + k))
    ∙ ap₂ (λ before upto. line_of (n + length (emission a d before)) (length (last_segments a d upto))
    (last_answer a d upto)) (take-append-le (0 + k) life (p ∷ []) (omega arith) ∙ take_all (0 + k) life (omega arith))
    (take_all (0 + k + 1) (life ++ p ∷ []) (omega (arith, length_push life p))))

nothing_lined : (a d n : ℕ) → life_lines a d n [] ≡ []
unfolding life_lines
nothing_lined a d n = refl

-- one life more at the front
log_cons : (a d n : ℕ) (life : List (List ℕ)) (xs : List (List (List ℕ))) (last : List (List ℕ))
    → log a d n (life ∷ (xs ++ last ∷ [])) ≡ life_lines a d n life
    ++ restart (n + length (emission a d life)) ∷ log a d (n + length (emission a d life)) (xs ++ last ∷ [])
unfolding log
log_cons a d n life [] last = refl
log_cons a d n life (x ∷ xs) last = refl

log_single : (a d n : ℕ) (life : List (List ℕ)) → log a d n (life ∷ []) ≡ life_lines a d n life
unfolding log
log_single a d n life = refl

-- the segments before the next life, and those of all from it on
counted : (a d n : ℕ) (life : List (List ℕ)) (xs : List (List (List ℕ)))
    → n + length (emission a d life) + length (emission_over a d xs) ≡ n + length (emission_over a d (life ∷ xs))
counted a d n life xs = grind (arith, sent_cons, length-append)

-- a packet more in the last life
log_push : (a d n : ℕ) (xs : List (List (List ℕ))) (life : List (List ℕ)) (p : List ℕ)
    → log a d n (xs ++ (life ++ p ∷ []) ∷ []) ≡ log a d n (xs ++ life ∷ [])
    ++ line_of (n + length (emission_over a d (xs ++ life ∷ []))) (length (last_segments a d (life ++ p ∷ [])))
    (last_answer a d (life ++ p ∷ []))
log_push a d n [] life p = grind (arith, log_single, life_lines_push, sent_one)
log_push a d n (x ∷ xs) life p =
    let m : ℕ = n + length (emission a d x) in
    let line : ℕ → List Line = λ k. line_of k (length (last_segments a d (life
    ++ p ∷ []))) (last_answer a d (life ++ p ∷ [])) in
    log_cons a d n x xs (life ++ p ∷ []) ∙ ap (λ y. life_lines a d n x ++ restart m ∷ y) (log_push a d m xs life p)
    ∙ sym (grind (arith, append_assoc))
    ∙ ap₂ (λ y k. y ++ line k) (sym (log_cons a d n x xs life)) (counted a d n x (xs ++ life ∷ []))

-- a new life
log_new : (a d n : ℕ) (xs : List (List (List ℕ))) (life : List (List ℕ))
    → log a d n ((xs ++ life ∷ []) ++ [] ∷ []) ≡ log a d n (xs ++ life ∷ [])
    ++ restart (n + length (emission_over a d (xs ++ life ∷ []))) ∷ []
log_new a d n [] life = log_cons a d n life [] []
    ∙ ap₂ (λ x y. x ++ restart (n + length (emission a d life)) ∷ y) (sym (log_single a d n life))
    (log_single a d (n + length (emission a d life)) [] ∙ nothing_lined a d (n + length (emission a d life)))
    ∙ ap (λ x. log a d n (life ∷ []) ++ restart (n + length x) ∷ []) (sent_one a d life)
log_new a d n (x ∷ xs) life = log_cons a d n x (xs ++ life ∷ []) []
    ∙ ap (λ y. life_lines a d n x ++ restart (n + length (emission a d x)) ∷ y)
    (log_new a d (n + length (emission a d x)) xs life) ∙ sym (grind (arith, append_assoc))
    ∙ ap₂ (λ y k. y ++ restart k ∷ []) (sym (log_cons a d n x xs life)) (counted a d n x (xs ++ life ∷ []))

-- ---- a transmitter's

none_before : (segments : List (List ℤ)) → 0 + length segments ≡ length segments
none_before segments = omega arith

pub segments_given : (t : Transmitter) (who : ℕ) (steps : List Step) (p : List ℕ)
    → sent_segments t who (steps ++ packet_step who p ∷ []) ≡ sent_segments t who steps
    ++ last_segments t.address t.delay (last_life who steps ++ p ∷ [])
unfolding sent_segments
segments_given t who steps p = grind (arith, lives, sent_push)

pub segments_restarted : (t : Transmitter) (who : ℕ) (steps : List Step)
    → sent_segments t who (steps ++ restart_step who ∷ []) ≡ sent_segments t who steps
unfolding sent_segments
segments_restarted t who steps = grind (arith, lives, sent_new)

pub lines_given : (t : Transmitter) (who : ℕ) (steps : List Step) (p : List ℕ)
    → lines_of t who (steps ++ packet_step who p ∷ []) ≡ lines_of t who steps
    ++ line_of (length (sent_segments t who steps)) (length (last_segments t.address t.delay (last_life who steps
    ++ p ∷ []))) (last_answer t.address t.delay (last_life who steps ++ p ∷ []))
unfolding sent_segments lines_of
lines_given t who steps p = grind (arith, lives, log_push, none_before)

pub lines_restarted : (t : Transmitter) (who : ℕ) (steps : List Step)
    → lines_of t who (steps ++ restart_step who ∷ []) ≡ lines_of t who steps
    ++ restart (length (sent_segments t who steps)) ∷ []
unfolding sent_segments lines_of
lines_restarted t who steps = grind (arith, lives, log_new, none_before)

-- those that begin with other lives
pub segments_same : (t : Transmitter) (who : ℕ) (steps others : List Step) → lives_of who steps ≡ lives_of who others
    → sent_segments t who steps ≡ sent_segments t who others
unfolding sent_segments
segments_same t who steps others e = ap (emission_over t.address t.delay) e

pub lines_same : (t : Transmitter) (who : ℕ) (steps others : List Step) → lives_of who steps ≡ lives_of who others
    → lines_of t who steps ≡ lines_of t who others
unfolding lines_of
lines_same t who steps others e = ap (log t.address t.delay 0) e

-- where the same is done with it
pub own_same : (t : Transmitter) (who : ℕ) (steps others : List Step) → own_steps who steps ≡ own_steps who others
    → (lives_of who steps ≡ lives_of who others) × (sent_segments t who steps ≡ sent_segments t who others)
    × (lines_of t who steps ≡ lines_of t who others)
unfolding lives_of sent_segments lines_of
own_same t who steps others e = grind arith
