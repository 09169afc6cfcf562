-- A group's end: from facts at each place to whole lists.
use Rattle.std.proofs.Common.{◌≡◌, ℕ, ◌*◌, ◌/◌, ◌<◌, List, map, length, get_or, sym, ap, ◌∙◌}
use Rattle.std.specs.List.{range_with_len}
use Rattle.std.proofs.lemmas.List.FromFn.{fill_by_all}
use Rattle.dtx_slice.specs.Unrolled.{precoder_bit, byte_back, level_groups, bytes_back, precoder_bits_after}

-- of one group alone
pub one_group : (levels : List ℕ) → length levels ≡ 3312 → level_groups levels ≡ 1
unfolding level_groups
one_group levels h = ap (λ n. n / 3312) h

pub bytes_end : (s : ℕ) (precoder_bits levels bytes : List ℕ) → length levels ≡ 3312 → length bytes ≡ 828
    → ((j : ℕ) → j < 828 → get_or bytes j 0 ≡ byte_back s precoder_bits levels j)
    → bytes ≡ bytes_back s precoder_bits levels
unfolding bytes_back
bytes_end s precoder_bits levels bytes h l f = fill_by_all (byte_back s precoder_bits levels) bytes 828 0 l f
    ∙ ap (λ n. map (byte_back s precoder_bits levels) (range_with_len 0 (828 * n))) (sym (one_group levels h))

pub precoder_bits_end : (s : ℕ) (precoder_bits levels new : List ℕ) → length levels ≡ 3312 → length new ≡ 12
    → ((e : ℕ) → e < 12 → get_or new e 0 ≡ precoder_bit s precoder_bits levels 276 e)
    → new ≡ precoder_bits_after s precoder_bits levels
unfolding precoder_bits_after
precoder_bits_end s precoder_bits levels new h l f = fill_by_all (precoder_bit s precoder_bits levels 276) new 12 0 l f
    ∙ ap (λ n. map (precoder_bit s precoder_bits levels (276 * n)) (range_with_len 0 12)) (sym (one_group levels h))
