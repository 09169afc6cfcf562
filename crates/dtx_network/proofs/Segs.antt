-- Of which segments the lines of a log speak: those of a life of nothing before the life, nor of anything behind it.
use Rattle.std.proofs.Common.{◌≡◌, ℕ, ℤ, zero, suc, ◌+◌, ◌-◌, ◌<◌, ◌≤◌, Some, None, All, List, [], ◌∷◌, ◌++◌, length}
use Rattle.std.proofs.Common.{take, drop, get_or, refl, sym, ap, ◌∙◌, arith, length-append, take-append-drop}
use Rattle.std.specs.List.{range_with_len, flat_map}
use Rattle.std.proofs.lemmas.List.{take_more}
use Rattle.std.proofs.lemmas.List.Elements.{All-nil, All-cons, All-append, All-weaker}
use Rattle.std.proofs.lemmas.List.FromFn.{length-map-range_with_len}
use Rattle.dtx_coder.specs.Stream.{four_segments}
use Rattle.dtx_exciter.specs.declared.answers.Preset.{Preset}
use Rattle.dtx_exciter.specs.declared.answers.Told.{Told}
use Rattle.dtx_exciter.specs.declared.answers.Told.TheVariants.{Quiet, Sent, Muted}
use Rattle.dtx_exciter.specs.Told.{told_of}
use Rattle.dtx_exciter.specs.Packets.{anchor_of, under, last_answer}
use Rattle.dtx_exciter.specs.Emission.{segments_since, sent_at, last_segments, emission}
use Rattle.dtx_exciter.specs.Log.{preset, restart, line_of, life_lines, restarted_lines, restarting_lines}
use Rattle.dtx_exciter.specs.Log.{emission_over}
use Rattle.dtx_exciter.specs.Stretch.{emission_behind, lines_behind}
use Rattle.dtx_exciter.proofs.EmittedLemmas.{emission_more, emission_push}
use Rattle.dtx_exciter.proofs.UnderLemmas.{said_drop, length-said}
use Rattle.dtx_network.specs.Headline.{segment_of, line_end}

-- ---- a preset has its group's segments

given_long : (a d : ℕ) (packets : List (List ℕ)) (p : Preset) → last_answer a d packets ≡ Sent (Some p)
    → 4 ≤ length (last_segments a d packets)
unfolding last_answer told_of last_segments under anchor_of sent_at segments_since four_segments
given_long a d packets p e = grind (arith, length-said, length-map-range_with_len, length-append, said_drop)

-- ---- one line

line_down : (n m : ℕ) (t : Told) → ((p : Preset) → t ≡ Sent (Some p) → 4 ≤ m)
    → All (λ line. n ≤ segment_of line) (line_of n m t)
line_down n m Quiet h = All-nil (λ line. n ≤ segment_of line)
line_down n m (Sent None) h = All-nil (λ line. n ≤ segment_of line)
line_down n m (Sent (Some p)) h =
    let few : 4 ≤ m = h p refl in
    All-cons (λ line. n ≤ segment_of line) (preset (n + m - 4) p.frame p.packet p.moment.tick p.moment.grain) []
    (omega (arith, few)) (All-nil (λ line. n ≤ segment_of line))
line_down n m (Muted why) h = grind (arith, All-cons, All-nil)

all_flat : {X : Type 0} (P : X → Type 0) (f : ℕ → List X) (a n : ℕ) → ((i : ℕ) → a ≤ i → i < a + n → All P (f i))
    → All P (flat_map f (range_with_len a n))
all_flat P f a zero h = All-nil P
all_flat P f a (suc n) h = All-append P (f a) (flat_map f (range_with_len (a + 1) n)) (h a (omega arith) (omega arith))
    (all_flat P f (a + 1) n (λ i l m. h i (omega arith) (omega arith)))

-- ---- the lines of a life

-- all that was given up to one packet of it
emission_up : (a d : ℕ) (life : List (List ℕ)) (i : ℕ) → i < length life
    → length (emission a d (take i life)) + length (last_segments a d (take (i + 1) life)) ≤ length (emission a d life)
emission_up a d life i l =
    let more : take (i + 1) life ≡ take i life ++ get_or life i [] ∷ [] = take_more life i [] l in
    omega (
      arith,
      ap (λ (x : List (List ℤ)). length x) (ap (emission a d) more ∙ emission_push a d (take i life) (get_or life i [])
          ∙ ap (λ x. emission a d (take i life) ++ last_segments a d x) (sym more)),
      ap (λ (x : List (List ℤ)). length x) (ap (emission a d) (sym (take-append-drop (i + 1) life))
          ∙ emission_more a d (take (i + 1) life) (drop (i + 1) life)),
      length-append (emission a d (take i life)) (last_segments a d (take (i + 1) life)),
      length-append (emission a d (take (i + 1) life)) (emission_behind a d (take (i + 1) life) (drop (i + 1) life)),
    )

pub life_up : (a d n : ℕ) (life : List (List ℕ))
    → All (λ line. line_end line ≤ n + length (emission a d life)) (life_lines a d n life)
unfolding life_lines
life_up a d n life = all_flat (λ line. line_end line ≤ n + length (emission a d life))
    (λ i. line_of (n + length (emission a d (take i life))) (length (last_segments a d (take (i + 1) life)))
    (last_answer a d (take (i + 1) life))) 0 (length life)
    (λ i l m. grind (arith, emission_up, All-weaker, All-nil, All-cons, given_long))

pub life_down : (a d n : ℕ) (life : List (List ℕ)) → All (λ line. n ≤ segment_of line) (life_lines a d n life)
unfolding life_lines
life_down a d n life = all_flat (λ line. n ≤ segment_of line)
    (λ i. line_of (n + length (emission a d (take i life))) (length (last_segments a d (take (i + 1) life)))
    (last_answer a d (take (i + 1) life))) 0 (length life) (λ i l m. grind (arith, All-weaker, line_down, given_long))

-- the lines of further packets
pub behind_down : (a d n : ℕ) (packets more : List (List ℕ))
    → All (λ line. n + length (emission a d packets) ≤ segment_of line) (lines_behind a d n packets more)
unfolding lines_behind
behind_down a d n packets more = all_flat (λ line. n + length (emission a d packets) ≤ segment_of line)
    (λ i. line_of (n + length (emission a d (packets ++ take i more)))
    (length (last_segments a d (packets ++ take (i + 1) more))) (last_answer a d (packets
    ++ take (i + 1) more))) 0 (length more)
    (λ i l m. grind (arith, emission_more, length-append, All-weaker, line_down, given_long))

-- ---- the lines of other lives

pub restarted_up : (a d n : ℕ) (xs : List (List (List ℕ)))
    → All (λ line. line_end line ≤ n + length (emission_over a d xs)) (restarted_lines a d n xs)
unfolding restarted_lines
restarted_up a d n [] = All-nil (λ line. line_end line ≤ n + 0)
restarted_up a d n (x ∷ xs) =
    let m : ℕ = n + length (emission a d x) in
    let sum : length (emission_over a d (x ∷ xs)) ≡ length (emission a d x) + length (emission_over a d xs) =
    length-append (emission a d x) (emission_over a d xs) in
    All-append (λ line. line_end line ≤ n + length (emission_over a d (x ∷ xs))) (life_lines a d n x)
    (restart m ∷ restarted_lines a d m xs) (grind (arith, All-weaker, life_up))
    (All-cons (λ line. line_end line ≤ n + length (emission_over a d (x ∷ xs))) (restart m) (restarted_lines a d m xs)
    (omega (arith, sum)) (All-weaker (λ line. line_end line ≤ m + length (emission_over a d xs))
    (λ line. line_end line ≤ n + length (emission_over a d (x ∷ xs))) (λ line h. omega (arith, h, sum))
    (restarted_lines a d m xs) (restarted_up a d m xs)))

pub restarting_down : (a d n : ℕ) (xs : List (List (List ℕ)))
    → All (λ line. n ≤ segment_of line) (restarting_lines a d n xs)
unfolding restarting_lines
restarting_down a d n [] = All-nil (λ line. n ≤ segment_of line)
restarting_down a d n (x ∷ xs) =
    let m : ℕ = n + length (emission a d x) in
    All-cons (λ line. n ≤ segment_of line) (restart n) (life_lines a d n x ++ restarting_lines a d m xs) (omega arith)
    (All-append (λ line. n ≤ segment_of line) (life_lines a d n x) (restarting_lines a d m xs) (life_down a d n x)
    (All-weaker (λ line. m ≤ segment_of line) (λ line. n ≤ segment_of line) (λ line h. omega (arith, h))
    (restarting_lines a d m xs) (restarting_down a d m xs)))
