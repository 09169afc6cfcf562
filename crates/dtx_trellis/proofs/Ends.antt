-- A group's end: from facts at each place to whole lists.
use Rattle.std.proofs.Common.{◌≡◌, ℕ, ◌+◌, ◌*◌, ◌<◌, ℤ, pos, List, map, take, drop, length, length-drop, get_or, sym}
use Rattle.std.proofs.Common.{ap, ◌∙◌, arith}
use Rattle.std.proofs.lemmas.List.{ext_get_or, get_or-drop, get_or-map, get_or-take, length-map, length-take-le}
use Rattle.std.proofs.lemmas.List.FromFn.{fill_by_all, get_or-map-range_with_len, length-map-range_with_len}
use Rattle.dtx_trellis.specs.Trellis.{AreBits, State, number_of, symbol_of}
use Rattle.dtx_trellis.specs.Groups.{AreSent, level_at, levels_of, coder_after, states_after, sent_place}
use Rattle.dtx_trellis.proofs.CodersLemmas.{one_group}
use Rattle.dtx_trellis.proofs.RoundsLemmas.{coder_bits}

level_in : (s d : ℕ) (states bytes : List ℕ) → length bytes ≡ 828 → d < 3312
    → get_or (levels_of s states bytes) d 0 ≡ level_at s states bytes d
unfolding levels_of
level_in s d states bytes h l = grind (arith, get_or-map-range_with_len, one_group)

long_levels : (s : ℕ) (states bytes : List ℕ) → length bytes ≡ 828 → length (levels_of s states bytes) ≡ 3312
unfolding levels_of
long_levels s states bytes h = grind (arith, length-map-range_with_len, one_group)

-- each symbol at its place: segment by segment
pub symbols_end : (s : ℕ) (states bytes : List ℕ) (symbols : List ℤ) → length bytes ≡ 828 → length symbols ≡ 3328
    → AreSent s states bytes 3312 symbols → (k : ℕ) → k < 4
    → take 828 (drop (832 * k + 4) symbols) ≡ map symbol_of (take 828 (drop (828 * k) (levels_of s states bytes)))
unfolding AreSent sent_place
symbols_end s states bytes symbols h l f k m = segment (levels_of s states bytes) (long_levels s states bytes h)
    (λ d n. level_in s d states bytes h n)
  where
    long : length (take 828 (drop (832 * k + 4) symbols)) ≡ 828
    long = length-take-le 828 (drop (832 * k + 4) symbols) (omega (arith, length-drop (832 * k + 4) symbols))

    segment : (levels : List ℕ) → length levels ≡ 3312
        → ((d : ℕ) → d < 3312 → get_or levels d 0 ≡ level_at s states bytes d)
        → take 828 (drop (832 * k + 4) symbols) ≡ map symbol_of (take 828 (drop (828 * k) levels))
    segment levels e g =
        let piece : List ℕ = take 828 (drop (828 * k) levels) in
        let other : length (take 828 (drop (828 * k) levels)) ≡ 828 =
        length-take-le 828 (drop (828 * k) levels) (omega (arith, length-drop (828 * k) levels)) in
        ext_get_or (pos 0) (take 828 (drop (832 * k + 4) symbols)) (map symbol_of piece)
        (long ∙ sym (length-map piece symbol_of ∙ other)) (λ i n.
        let j : i < 828 = omega (arith, long) in
        get_or-take 828 (drop (832 * k + 4) symbols) i (pos 0) j ∙ get_or-drop (832 * k + 4) symbols i (pos 0)
        ∙ ap (λ p. get_or symbols p (pos 0)) (omega arith) ∙ f (828 * k + i) (omega arith)
        ∙ ap symbol_of (sym (get_or-take 828 (drop (828 * k) levels) i 0 j ∙ get_or-drop (828 * k) levels i 0
        ∙ g (828 * k + i) (omega arith))) ∙ sym (get_or-map symbol_of piece i 0 (pos 0) (omega (arith, other))))

pub states_end : (s : ℕ) (states bytes new : List ℕ) → length bytes ≡ 828 → length new ≡ 12
    → ((e : ℕ) → e < 12 → get_or new e 0 ≡ number_of (coder_after s states bytes 276 e))
    → new ≡ states_after s states bytes
unfolding states_after
states_end s states bytes new h l f =
    rw (fill_by_all (λ e. number_of (coder_after s states bytes 276 e)) new 12 0 l f, one_group bytes h)

number_small : (q : State) → AreBits q → number_of q < 8
number_small q h = omega (arith, h.q2, h.q1, h.q0)

pub state_small : (s e : ℕ) (states bytes : List ℕ) (n : ℕ) → length bytes ≡ 828
    → n ≡ number_of (coder_after s states bytes 276 e) → n < 8
state_small s e states bytes n h f = grind (arith, number_small, coder_bits, one_group)
