-- Segments whose symbols lie near those that were sent: what is restored of each is what was sent.
use Rattle.std.proofs.Common.{◌≡◌, ℕ, ℤ, pos, ◌+◌, ◌-◌, ◌<◌, ◌≤◌, List, [], ◌++◌, length, map, take, drop, get_or, sym}
use Rattle.std.proofs.Common.{ap, ap₂, ◌∙◌, arith}
use Rattle.std.proofs.lemmas.List.{ext_get_or, get_or-drop, get_or-map, get_or-take}
use Rattle.std.proofs.lemmas.List.{length-drop, length-map, length-take-le}
use Rattle.dtx_trellis.specs.Trellis.{symbol_of}
use Rattle.dtx_frame.specs.Segments.{data_segment, field_sync, segment_sync}
use Rattle.dtx_acquire.specs.Acquired.{restored_data, restored_sync, decided}
use Rattle.dtx_acquire.specs.Sent.{AreLevels, AreNear, IsData, IsSync}
use Rattle.dtx_acquire.proofs.Each.{each_from}
use Rattle.dtx_acquire.proofs.NearLevels.{decided_near}
use Rattle.dtx_acquire.proofs.NearSyncs.{second_near}
use Rattle.dtx_acquire.proofs.SentLemmas.{data_at, last_at, length_data, length_sync}

-- ---- a segment

-- the symbols of levels, from a place on, by what lies near them
decided_from : (scale a n : ℕ) (levels : List ℕ) (sent row : List ℤ) → length sent ≡ a + n → AreLevels n levels
    → ((k : ℕ) → k < n → get_or sent (a + k) (pos 0) ≡ symbol_of (get_or levels k 0)) → AreNear scale sent row
    → map (decided scale) (drop a row) ≡ map symbol_of levels
decided_from scale a n levels sent row long h at near =
    sym (each_from (decided scale) (pos 0) a n row (map symbol_of levels) (near.long ∙ long)
    (length-map levels symbol_of ∙ h.long) (λ k l. grind (arith, get_or-map, decided_near)))

pub data_restored : (scale : ℕ) (sent row : List ℤ) → IsData sent → AreNear scale sent row
    → restored_data scale row ≡ sent
unfolding restored_data data_segment
data_restored scale sent row h near =
    ap (λ xs. segment_sync ++ xs) (decided_from scale 4 828 h.levels sent row (length_data sent h) h.are
    (λ k l. ap (λ (xs : List ℤ). get_or xs (4 + k) (pos 0)) h.is ∙ data_at h.levels k h.are l) near)
    ∙ sym h.is

pub sync_restored : (scale : ℕ) (sent row : List ℤ) → IsSync sent → AreNear scale sent row
    → restored_sync scale row ≡ sent
unfolding restored_sync
sync_restored scale sent row h near =
    let long : length sent ≡ 820 + 12 = ap length h.is ∙ length_sync h.second h.last h.are in
    ap₂ field_sync (second_near scale row h.second (map symbol_of h.last) (λ k l. (grind arith)))
    (decided_from scale 820 12 h.last sent row long h.are
    (λ q l. ap (λ (xs : List ℤ). get_or xs (820 + q) (pos 0)) h.is ∙ last_at h.second h.last q h.are l) near) ∙ sym h.is

-- ---- segments

pub record AreNearRows (scale : ℕ) (sent rows : List (List ℤ)) : Type 0 where
  pub long : length rows ≡ length sent
  pub each : (i : ℕ) → i < length sent → AreNear scale (get_or sent i []) (get_or rows i [])

abbrev pub AreData : List (List ℤ) → Type 0
AreData rows = (i : ℕ) → i < length rows → IsData (get_or rows i [])

pub rows_restored : (scale : ℕ) (sent rows : List (List ℤ)) → AreData sent → AreNearRows scale sent rows
    → map (restored_data scale) rows ≡ sent
rows_restored scale sent rows h near =
    ext_get_or [] (map (restored_data scale) rows) sent (length-map rows (restored_data scale) ∙ near.long)
    (λ i l. (grind (arith, length-map, get_or-map, data_restored)))

pub near_take : (scale n : ℕ) (sent rows : List (List ℤ)) → n ≤ length sent → AreNearRows scale sent rows
    → AreNearRows scale (take n sent) (take n rows)
near_take scale n sent rows l near = grind (arith, length-take-le, get_or-take)

pub near_drop : (scale n : ℕ) (sent rows : List (List ℤ)) → AreNearRows scale sent rows
    → AreNearRows scale (drop n sent) (drop n rows)
near_drop scale n sent rows near = grind (arith, length-drop, get_or-drop)

pub data_take : (n : ℕ) (rows : List (List ℤ)) → n ≤ length rows → AreData rows → AreData (take n rows)
data_take n rows l h = grind (arith, length-take-le, get_or-take)

pub data_drop : (n : ℕ) (rows : List (List ℤ)) → AreData rows → AreData (drop n rows)
data_drop n rows h = grind (arith, get_or-drop, length-drop)
