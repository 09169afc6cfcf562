-- The numbers of one life, one packet further, and how much they are at most.
use Rattle.std.proofs.Common.{◌≡◌, ℕ, zero, suc, ◌+◌, ◌*◌, ◌<◌, ◌≤◌, List, [], ◌∷◌, ◌++◌, length, take, refl, arith}
use Rattle.std.specs.Prelude.{Some, None}
use Rattle.std.specs.List.{range_with_len, flat_map}
use Rattle.std.proofs.lemmas.List.{length-append, length_push}
use Rattle.std.proofs.lemmas.List.Sums.{sum_by-append}
use Rattle.dtx_exciter.proofs.EmittedLemmas.{emission_push}
use Rattle.dtx_exciter.specs.Emission.{last_segments, emission}
use Rattle.dtx_exciter.specs.Log.{Line, line_of, life_lines}
use Rattle.dtx_exciter.specs.Packets.{last_answer}
use Rattle.dtx_exciter.specs.declared.answers.Told.{Told}
use Rattle.dtx_exciter.specs.declared.answers.Told.TheVariants.{Quiet, Sent, Muted}
use Rattle.dtx_files.proofs.GivenFewLemmas.{given_few}
use Rattle.dtx_recipes.proofs.ExciteLemmas.{line_at, lines_push}
use Rattle.dtx_recipes.specs.Life.{one_preset, one_mute, presets_in, mutes_in, life_tally, tally_with, HasRoom}
use Rattle.dtx_recipes.specs.declared.life_tally.LifeTally.{LifeTally}

pub tally_none : (a d : ℕ) → life_tally a d [] ≡ record { packets = 0; segments = 0; presets = 0; mutes = 0 }
unfolding life_lines emission
tally_none a d = refl

-- ---- how much that is at most

few_in_all : {X : Type 0} (f : ℕ → List X) (a n : ℕ) → ((i : ℕ) → length (f i) ≤ 5)
    → length (flat_map f (range_with_len a n)) ≤ 5 * n
few_in_all f a zero h = omega arith
few_in_all f a (suc n) h =
    omega (arith, length-append (f a) (flat_map f (range_with_len (a + 1) n)), h a, few_in_all f (a + 1) n h)

pub emission_few : (a d : ℕ) (l : List (List ℕ)) → length (emission a d l) ≤ 5 * length l
unfolding emission
emission_few a d l = grind (arith, few_in_all, given_few)

pub presets_few : (n m : ℕ) (t : Told) → presets_in (line_of n m t) + mutes_in (line_of n m t) ≤ 1
presets_few n m Quiet = omega arith
presets_few n m (Sent None) = omega arith
presets_few n m (Sent (Some p)) = omega arith
presets_few n m (Muted why) = omega arith

pub counted_in_all : (f : ℕ → List Line) (a n : ℕ) → ((i : ℕ) → presets_in (f i) + mutes_in (f i) ≤ 1)
    → presets_in (flat_map f (range_with_len a n)) + mutes_in (flat_map f (range_with_len a n)) ≤ n
counted_in_all f a zero h = omega arith
counted_in_all f a (suc n) h = omega (
  arith,
  sum_by-append one_preset (f a) (flat_map f (range_with_len (a + 1) n)),
  sum_by-append one_mute (f a) (flat_map f (range_with_len (a + 1) n)),
  h a,
  counted_in_all f (a + 1) n h,
)

pub lines_few : (a d : ℕ) (l : List (List ℕ))
    → presets_in (life_lines a d 0 l) + mutes_in (life_lines a d 0 l) ≤ length l
unfolding life_lines
lines_few a d l = counted_in_all (line_at a d l) 0 (length l) (λ i. presets_few _ _ (last_answer a d (take (i + 1) l)))

-- so there is room for what the next packet brings
pub has_room : (a d : ℕ) (l : List (List ℕ)) (p : List ℕ) (tally : LifeTally) → tally ≡ life_tally a d l
    → tally.packets < 624000000 → HasRoom tally (length (last_segments a d (l ++ p ∷ [])))
has_room a d l p tally is most = grind (arith, emission_few, given_few, lines_few)

pub same_tally : (a b c e a' b' c' e' : ℕ) → a ≡ a' → b ≡ b' → c ≡ c' → e ≡ e'
    → ◌≡◌ {A = LifeTally} (record { packets = a; segments = b; presets = c; mutes = e })
    (record { packets = a'; segments = b'; presets = c'; mutes = e' })
same_tally a b c e a' b' c' e' p q r s = rw (p, q, r, s) refl

-- the numbers with one packet more
pub tally_push : (a d : ℕ) (l : List (List ℕ)) (p : List ℕ)
    → tally_with (life_tally a d l) (length (last_segments a d (l ++ p ∷ [])))
    (line_of (length (emission a d l)) (length (last_segments a d (l ++ p ∷ []))) (last_answer a d (l ++ p ∷ [])))
    ≡ life_tally a d (l ++ p ∷ [])
tally_push a d l p = grind (arith, same_tally, length_push, emission_push, length-append, lines_push, sum_by-append)
