-- Damage of a few symbols before the first field sync of a stretch is slight.
use Rattle.std.proofs.Common.{◌≡◌, ℕ, ℤ, pos, zero, suc, ◌+◌, ◌-◌, ◌*◌, ◌/◌, ◌<◌, ◌≤◌, cond, Bool, true, false, List}
use Rattle.std.proofs.Common.{[], ◌∷◌, length, map, take, drop, get_or, refl, sym, ap, ◌∙◌, arith}
use Rattle.std.specs.Prelude.{Some, None}
use Rattle.std.specs.List.{range_with_len}
use Rattle.std.proofs.lemmas.Bool.{cond-true, cond-false, eq-eqb}
use Rattle.std.proofs.lemmas.List.{ext_get_or, get_or-drop, get_or-map, get_or-take, length-drop, length-map}
use Rattle.std.proofs.lemmas.List.{length-take, length-take-le}
use Rattle.std.proofs.lemmas.List.FromFn.{get_or-map-range_with_len, length-map-range_with_len}
use Rattle.dtx_lists.proofs.Range.{map-range_same}
use Rattle.dtx_chain.specs.Damage.{AreReceived, damage_at, damaged_symbols, from_sync, to_sync, ArePackets}
use Rattle.dtx_chain.proofs.NoDamageLemmas.{part_received, slight_before}
use Rattle.dtx_exciter.specs.Lockstep.{segment_place}
use Rattle.dtx_frame.proofs.CountsLemmas.{sum_is, total, total_zeros}
use Rattle.dtx_recipes.specs.SymbolFile.{segment_at, file_segments, symbol_of_byte, symbols}
use Rattle.dtx_make.proofs.EntriesLemmas.{covers_before, covers_within}
use Rattle.dtx_make.specs.Hurt.{covers, entry_at, hurt}
use Rattle.dtx_make.proofs.LaidBytesLemmas.{laid_stays}
use Rattle.dtx_make.proofs.LaidLemmas.{length-hurt}
use Rattle.dtx_network.specs.GivesBack.{IsReceivedAlone}
use Rattle.dtx_network.specs.Headline.{last_packet, stretch_of}
use Rattle.dtx_plan.specs.declared.damage.Damage.{Damage}
use Rattle.dtx_top.specs.WorkedNetwork.{IsFew}

-- ---- what an entry covers

-- no more places than it has
hits_few : (e : Damage) (base a n : ℕ) → let s : ℕ = total (λ c. cond (covers (base + c) e) 1 0) a n in
    (s ≤ e.count) × (s ≤ e.at + e.count - (base + a))
hits_few e base a zero = (omega arith, omega arith)
hits_few e base a (suc n) = by_test (covers (base + a) e) refl (total (λ c. cond (covers (base + c) e) 1 0) (suc a) n)
    (hits_few e base (suc a) n)
  where
    by_test : (t : Bool) → covers (base + a) e ≡ t → (s : ℕ) → (s ≤ e.count) × (s ≤ e.at + e.count - (base + suc a))
        → (cond t 1 0 + s ≤ e.count) × (cond t 1 0 + s ≤ e.at + e.count - (base + a))
    by_test true c s h = grind (arith, covers_within)
    by_test false c s h = (omega (arith, h.0), omega (arith, h.1))

total_le : (f g : ℕ → ℕ) (a n : ℕ) → ((i : ℕ) → a ≤ i → i < a + n → f i ≤ g i) → total f a n ≤ total g a n
total_le f g a zero h = omega arith
total_le f g a (suc n) h = omega (
  arith,
  h a (omega arith) (omega arith),
  total_le f g (suc a) n (λ i l m. h i (omega arith) (omega arith)),
)

-- ---- symbols

symbol_at : (file : List ℕ) (i c : ℕ) → 832 * i + 832 ≤ length file → c < 832
    → get_or (segment_at file i) c (pos 0) ≡ symbol_of_byte (get_or file (832 * i + c) 0)
symbol_at file i c l m = get_or-map symbol_of_byte (take 832 (drop (832 * i) file)) c 0 (pos 0)
    (omega (arith, l, m, length-take 832 (drop (832 * i) file), length-drop (832 * i) file))
    ∙ ap symbol_of_byte (get_or-take 832 (drop (832 * i) file) c 0 m ∙ get_or-drop (832 * i) file c 0)

-- a symbol that no entry covers is the same
symbol_stays : (ds : List Damage) (file : List ℕ) (i c : ℕ) → 832 * i + 832 ≤ length file → c < 832
    → entry_at ds (832 * i + c) ≡ None
    → get_or (segment_at (hurt ds file) i) c (pos 0) ≡ get_or (segment_at file i) c (pos 0)
symbol_stays ds file i c l m none = symbol_at (hurt ds file) i c (omega (arith, l, length-hurt ds file)) m
    ∙ ap symbol_of_byte (laid_stays ds 0 (832 * i + c) file (omega (arith, l, m))
    (ap (entry_at ds) (omega arith) ∙ none)) ∙ sym (symbol_at file i c l m)

undamaged_at : (sent got : List ℤ) (c : ℕ) → get_or got c (pos 0) ≡ get_or sent c (pos 0) → damage_at sent got c ≡ 0
unfolding damage_at
undamaged_at sent got c same = grind (arith, cond-true, eq-eqb)

at_most_one : (sent got : List ℤ) (c : ℕ) → damage_at sent got c ≤ 1
unfolding damage_at
at_most_one sent got c = grind arith

below_zero : (t : ℕ) → t ≡ 0 → t ≤ 0
below_zero t e = omega (arith, e)

chain : (d t h c : ℕ) → d ≡ t → t ≤ h → h ≤ c → c ≤ 31 → d ≤ 31
chain d t h c e l m n = omega (arith, e, l, m, n)

-- of a segment at most 31 symbols are damaged
few_damaged : (ds : List Damage) (file : List ℕ) (i : ℕ) → IsFew ds → 832 * i + 832 ≤ length file
    → damaged_symbols (segment_at file i) (segment_at (hurt ds file) i) ≤ 31
unfolding damaged_symbols entry_at
few_damaged [] file i few l =
    let sent : List ℤ = segment_at file i in
    let got : List ℤ = segment_at (hurt [] file) i in
    let none : total (damage_at sent got) 0 515 ≡ 0 = total_zeros (damage_at sent got) 0 515
    (λ c _ m. undamaged_at sent got c (symbol_stays [] file i c l (omega (arith, m)) refl)) in
    chain _ (total (damage_at sent got) 0 515) 0 0 (sum_is (damage_at sent got) 0 515)
    (below_zero _ none) (omega arith) (omega arith)
few_damaged (e ∷ []) file i few l =
    let sent : List ℤ = segment_at file i in
    let got : List ℤ = segment_at (hurt (e ∷ []) file) i in
    let hit : ℕ → ℕ = λ c. cond (covers (832 * i + c) e) 1 0 in
    let hits = hits_few e (832 * i) 0 515 in
    chain _ (total (damage_at sent got) 0 515) (total hit 0 515) e.count (sum_is (damage_at sent got) 0 515)
    (total_le (damage_at sent got) hit 0 515 (λ c _ m. grind (arith, by_test))) hits.0 few.0
  where
    by_test : (c : ℕ) → c < 832 → (t : Bool) → covers (832 * i + c) e ≡ t
        → damage_at (segment_at file i) (segment_at (hurt (e ∷ []) file) i) c ≤ cond t 1 0
    by_test c m true h = at_most_one (segment_at file i) (segment_at (hurt (e ∷ []) file) i) c
    by_test c m false h =
        let same = undamaged_at (segment_at file i) (segment_at (hurt (e ∷ []) file) i) c
        (symbol_stays (e ∷ []) file i c l m (cond-false (covers (832 * i + c) e) (Some e) None h)) in
        omega (arith, same)
few_damaged (e ∷ d ∷ ds) file i few l = absurd few

-- ---- segments

-- those behind the first 212 stay
segment_stays : (ds : List Damage) (file : List ℕ) (i : ℕ) → IsFew ds → 212 ≤ i
    → segment_at (hurt ds file) i ≡ segment_at file i
unfolding entry_at
segment_stays ds file i few far =
    let own : List ℕ = take 832 (drop (832 * i) file) in
    let size = length-take 832 (drop (832 * i) (hurt ds file)) in
    let rest = length-drop (832 * i) (hurt ds file) in
    let all = length-hurt ds file in
    ap symbols (ext_get_or 0 (take 832 (drop (832 * i) (hurt ds file))) own
    (omega (arith, size, rest, all, length-take 832 (drop (832 * i) file), length-drop (832 * i) file)) (λ c l.
    let m : c < 832 = omega (arith, l, size) in
    let within : 832 * i + c < length file = omega (arith, l, size, rest, all) in
    let z : 0 + (832 * i + c) ≡ 832 * i + c = omega arith in
    get_or-take 832 (drop (832 * i) (hurt ds file)) c 0 m ∙ get_or-drop (832 * i) (hurt ds file) c 0
    ∙ laid_stays ds 0 (832 * i + c) file within (grind (arith, cond-false, covers_before))
    ∙ sym (get_or-drop (832 * i) file c 0) ∙ sym (get_or-take 832 (drop (832 * i) file) c 0 m)))

dropped_same : {X : Type 0} (f g : ℕ → X) (a n t : ℕ) → ((i : ℕ) → a + t ≤ i → f i ≡ g i)
    → drop t (map f (range_with_len a n)) ≡ drop t (map g (range_with_len a n))
dropped_same f g a n zero h = map-range_same f g a n (λ i l m. h i (omega (arith, l)))
dropped_same f g a zero (suc t) h = refl
dropped_same f g a (suc n) (suc t) h = dropped_same f g (a + 1) n t (λ i l. h i (omega (arith, l)))

segment_in : (file : List ℕ) (i : ℕ) → i < length file / 832 → get_or (file_segments file) i [] ≡ segment_at file i
segment_in file i l = get_or-map-range_with_len (segment_at file) 0 (length file / 832) i i [] l (omega arith)

behind_same : (ds : List Damage) (file : List ℕ) (k : ℕ) → IsFew ds → k ≤ 100
    → from_sync (segment_place k) (file_segments (hurt ds file)) ≡ from_sync (segment_place k) (file_segments file)
unfolding from_sync to_sync
behind_same ds file k few l = grind (arith, length-hurt, dropped_same, segment_stays)

-- ---- it is slight

pub few_slight : (feed : List (List ℕ)) (k end : ℕ) (file : List ℕ) (ds : List Damage) → ArePackets feed → k ≤ 100
    → file_segments file ≡ stretch_of feed k end → IsFew ds → IsReceivedAlone feed k end (file_segments (hurt ds file))
unfolding stretch_of
few_slight feed k end file ds packets near is few =
    let sent : List (List ℤ) = stretch_of feed k end in
    let got : List (List ℤ) = file_segments (hurt ds file) in
    let count : length (file_segments file) ≡ length file / 832 =
    length-map-range_with_len (segment_at file) 0 (length file / 832) in
    let count_got : length got ≡ length (hurt ds file) / 832 =
    length-map-range_with_len (segment_at (hurt ds file)) 0 (length (hurt ds file) / 832) in
    let all = length-hurt ds file in
    let many : length got ≡ length sent = count_got ∙ ap (λ (n : ℕ). n / 832) all ∙ sym count ∙ ap length is in
    let long : (i : ℕ) → i < length got → length (get_or got i []) ≡ 832 = λ i l.
    let within : i < length (hurt ds file) / 832 = omega (arith, l, count_got) in
    let some : 832 ≤ length (drop (832 * i) (hurt ds file)) =
    omega (arith, within, length-drop (832 * i) (hurt ds file)) in
    ap length (segment_in (hurt ds file) i within)
    ∙ length-map (take 832 (drop (832 * i) (hurt ds file))) symbol_of_byte
    ∙ length-take-le 832 (drop (832 * i) (hurt ds file)) some in
    let own : AreReceived feed (segment_place k) (stretch_of feed k end) (stretch_of feed k end) =
    part_received feed (segment_place k) (segment_place (last_packet end) + 1) in
    record {
      as_many = many;
      long = long;
      slight = slight_before feed (segment_place k) sent got
          (record { in_a_row = own.in_a_row; as_many = many; long = long }) packets
          (behind_same ds file k few near ∙ ap (from_sync (segment_place k)) is)
          (λ i l _. grind (arith, few_damaged, segment_in));
    }
