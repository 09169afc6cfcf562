-- What is known stays known in the next round: its bytes are pinned, but for the first X2 of a coder in a field, which
-- is a bit of byte 0 of a word. So the pins grow more from round to round, and the least paths cost more.
use Rattle.dtx_trellis.specs.Trellis.{byte_place, group_place, pair_in}
use Rattle.dtx_rounds.specs.Known.{byte_at_step, known_bytes, known_word, known_byte, known_code_byte, field_pins}
use Rattle.dtx_rounds.specs.Known.{known_pin}
use Rattle.std.proofs.Common.{◌≡◌, ℕ, ℤ, suc, ◌+◌, ◌-◌, ◌*◌, ◌/◌, ◌%◌, ◌^◌, ◌<◌, ◌≤◌, ◌==◌, Bool, true, false, cond}
use Rattle.std.proofs.Common.{Option, Some, None, List, [], ◌∷◌, length, map, get_or, sym, ap, ap₂, ◌∙◌, subst, arith}
use Rattle.std.specs.List.{range_with_len}
use Rattle.std.proofs.lemmas.List.{ext_get_or, get_or-map}
use Rattle.std.proofs.lemmas.List.FromFn.{get_or-map-range_with_len, length-map-range_with_len}
use Rattle.dtx_laws.specs.Codeword.{IsCorrection, distance}
use Rattle.dtx_laws.proofs.ChoiceLemmas.{correction_only}
use Rattle.dtx_laws.proofs.PartsLemmas.{byte_at}
use Rattle.dtx_laws.proofs.WordsLemmas.{distance_self}
use Rattle.dtx_outer.specs.Inner.{codeword_byte_place, word_at}
use Rattle.dtx_outer.proofs.WordsLemmas.{get_or-word, length-word}
use Rattle.dtx_slice.specs.Unrolled.{byte_back, coder_of, pair_back, pair_from, precoder_bit, symbol_place}
use Rattle.dtx_slice.proofs.InverseLemmas.{coder_of_small}
use Rattle.dtx_slice.proofs.PlacesLemmas.{precoder_bit_next}
use Rattle.dtx_soft.specs.Coders.{coder_symbols}
use Rattle.dtx_soft.specs.Softened.{least_cost}
use Rattle.dtx_soft.proofs.LeastPathLemmas.{least_path_found}
use Rattle.dtx_soft.proofs.SoftenedLemmas.{length-coder}
use Rattle.dtx_receiver.specs.Bytes.{bytes_in, first_bits, groups_of, levels_in}
use Rattle.dtx_pins.specs.LeastPinned.{least_pinned_levels, least_pinned_start}
use Rattle.dtx_pins.specs.PinnedField.{pinned_coder_cost}
use Rattle.dtx_pins.specs.Pins.{TellsPair, coder_pins, pin_at, x1_told, x2_told}
use Rattle.dtx_pins.proofs.LeastPinnedLemmas.{fewer_pins_cost_less, least_pinned_found}
use Rattle.dtx_rounds.specs.RunField.{AreSegments, StayKnown}
use Rattle.dtx_rounds.specs.Rounds.{groups_in, pins_in, coder_cost}
use Rattle.dtx_rounds.proofs.KnownLemmas.{IsKnown, known_at, known_correction, known_from, known_parts, known_place}
use Rattle.dtx_rounds.proofs.RoundLevels.{HasPaths, after, after_long, groups_after, level_after, levels_of}
use Rattle.dtx_rounds.proofs.RoundLevels.{place_in_groups, same_groups}
use Rattle.dtx_rounds.proofs.RunLevels.{byte_in, length-bytes, field_of_segment, later_step}
use Rattle.dtx_rounds.proofs.RunWords.{known_entry}

-- ---- pins

-- pair i of a byte
abbrev pub part : ℕ → ℕ → ℕ
part b i = b / 4 ^ (3 - i) % 4

-- the pin of coder e at step t of a field
pub field_pin : (heard : List (List ℤ)) (known : List (Option ℕ)) (f e t : ℕ) → e < 12
    → t < 69 * length (groups_in heard f)
    → pin_at (coder_pins (pins_in heard known f) e) t ≡ known_pin known e (21528 * f + t)
unfolding coder_pins field_pins
field_pin heard known f e t l m = get_or-map (λ entry. pin_at entry e) (pins_in heard known f) t [] 4
    (grind (arith, length-map-range_with_len, row)) ∙ ap (λ (entry : List ℕ). get_or entry e 4)
    (get_or-map-range_with_len row 0 (69 * length (groups_in heard f)) t t [] m (omega arith))
    ∙ get_or-map-range_with_len (λ e. known_pin known e (21528 * f + t)) 0 12 e e 4 l (omega arith)
  where
    row : ℕ → List ℕ
    row = λ t. map (λ e. known_pin known e (21528 * f + t)) (range_with_len 0 12)

-- ---- bytes

pairs_join : (b : ℕ) → b < 256 → 64 * part b 0 + 16 * part b 1 + 4 * part b 2 + part b 3 ≡ b
pairs_join b l = omega arith

pair_halves : (p : ℕ) → 2 * (p / 2) + p % 2 ≡ p
pair_halves p = omega arith

record IsRound (scale : ℕ) (heard given : List (List ℤ)) : Type 0 where
  some : 0 < scale
  most : scale < 19
  long : AreSegments given
  same : length heard ≡ length given

-- the pair that the levels tell at a step that isn't the first of its field
pair_told : (scale : ℕ) (heard given : List (List ℤ)) (known : List (Option ℕ)) (paths : HasPaths scale heard known)
    (bits : List ℕ) (t e p : ℕ) (l : e < 12) → IsRound scale heard given → t < 276 * groups_of given → 0 < t % 21528
    → known_pin known e t ≡ p → p < 4 → pair_back 0 bits (levels_in (after scale heard known given)) t e ≡ p
unfolding pair_back x1_told x2_told
pair_told scale heard given known paths bits t e p l is m some pin small = ap₂ (λ (x y : ℕ). pair_from x y)
    (ap (λ u. precoder_bit 0 bits levels u e) next ∙ precoder_bit_next 0 (t - 1) e bits levels ∙ ap (λ x. x / 4) before)
    now ∙ told
  where
    levels : List ℕ
    levels = levels_in (after scale heard known given)

    own : List ℕ
    own = levels_of scale heard known paths (t / 21528) e l

    next : t ≡ t - 1 + 1
    next = omega arith

    new : AreSegments (after scale heard known given)
    new = after_long scale heard given known is.long is.same

    now : get_or levels (symbol_place 0 t e) 0 ≡ get_or own (t % 21528) 0
    now = level_after scale heard given known paths t e l is.some is.most is.long new is.same m

    before : get_or levels (symbol_place 0 (t - 1) e) 0 ≡ get_or own (t % 21528 - 1) 0
    before =
        let field : (t - 1) / 21528 ≡ t / 21528 = omega arith in
        let step : (t - 1) % 21528 ≡ t % 21528 - 1 = omega arith in
        level_after scale heard given known paths (t - 1) e l is.some is.most is.long new is.same (omega arith)
        ∙ ap₂ (λ (f u : ℕ). get_or (levels_of scale heard known paths f e l) u 0) field step

    step_there : t % 21528 < 69 * length (groups_in heard (t / 21528))
    step_there =
        let row : t / 69 < 4 * groups_of given = omega arith in
        let room : t / 69 % 312 < length (groups_in heard (t / 69 / 312)) =
        omega (arith, place_in_groups given (t / 69) row, same_groups heard given (t / 69 / 312) is.same) in
        let room_here : t / 69 % 312 < length (groups_in heard (t / 21528)) =
        subst (λ f. t / 69 % 312 < length (groups_in heard f)) (field_of_segment t) room in
        omega (arith, room_here)

    pinned : pin_at (coder_pins (pins_in heard known (t / 21528)) e) (t % 21528) ≡ p
    pinned = field_pin heard known (t / 21528) e (t % 21528) l step_there ∙ ap (known_pin known e) (omega arith) ∙ pin

    tells : TellsPair p own (t % 21528)
    tells =
        let one = (paths (t / 21528)).coders e l in
        subst (λ q. TellsPair q own (t % 21528)) pinned (one.least.agrees (t % 21528)
        (omega (arith, step_there, one.least.long, length-coder (groups_in heard (t / 21528)) e))
        (omega (arith, pinned, small)))

    told : pair_from (get_or own (t % 21528 - 1) 0 / 4) (get_or own (t % 21528) 0) ≡ p
    told = ap₂ (λ (x y : ℕ). 2 * x + y) (tells.x2 some) tells.x1 ∙ pair_halves p

byte_kept : (scale : ℕ) (heard given : List (List ℤ)) (known : List (Option ℕ)) (paths : HasPaths scale heard known)
    (bits : List ℕ) (n b : ℕ) → IsRound scale heard given → n < 828 * groups_of given
    → 0 < 4 * (n / 12) % 21528 → get_or known n None ≡ Some b → b < 256
    → byte_back 0 bits (levels_in (after scale heard known given)) n ≡ b
unfolding byte_back known_pin pair_in byte_at_step byte_place group_place coder_of
byte_kept scale heard given known paths bits n b is l some e small = ap₂ (λ (x y : ℕ). x + y) (ap₂ (λ (x y : ℕ). x + y)
    (ap₂ (λ (x y : ℕ). 64 * x + 16 * y)
    (ap (λ t. pair_back 0 bits levels t (coder_of 0 n)) first ∙ pair 0 (omega arith)) (pair 1 (omega arith)))
    (ap (λ x. 4 * x) (pair 2 (omega arith)))) (pair 3 (omega arith)) ∙ pairs_join b small
  where
    levels : List ℕ
    levels = levels_in (after scale heard known given)

    first : 4 * (n / 12) ≡ 4 * (n / 12) + 0
    first = omega arith

    part_small : (i : ℕ) → part b i < 4
    part_small i = omega arith

    pair : (i : ℕ) → i < 4 → pair_back 0 bits levels (4 * (n / 12) + i) (coder_of 0 n) ≡ part b i
    pair i m = grind (arith, pair_told, coder_of_small)

-- ---- words

few_apart : (xs ys : List ℕ) → length xs ≡ length ys
    → ((j : ℕ) → 0 < j → j < length xs → get_or xs j 0 ≡ get_or ys j 0) → distance xs ys ≤ 1
few_apart [] ys e h = omega arith
few_apart (x ∷ xs) [] e h = absurd (omega arith)
few_apart (x ∷ xs) (y ∷ ys) e h =
    let rest : xs ≡ ys = ext_get_or 0 xs ys (omega (arith, e)) (λ j l. h (suc j) (omega arith) (omega arith)) in
    let none : distance xs ys ≡ 0 = ap (distance xs) (sym rest) ∙ distance_self xs in
    omega (arith, none, first (x == y))
  where
    first : (b : Bool) → cond b 0 1 ≤ 1
    first true = omega arith
    first false = omega arith

-- a known word is known in the next round, with the same correction
pub word_kept : (scale : ℕ) (heard given : List (List ℤ)) (k : ℕ) (code : List ℕ)
    → HasPaths scale heard (known_bytes (bytes_in given)) → 0 < scale → scale < 19 → AreSegments given
    → length heard ≡ length given → known_word (bytes_in given) k ≡ Some code
    → known_word (bytes_in (after scale heard (known_bytes (bytes_in given)) given)) k ≡ Some code
word_kept scale heard given k code paths some most long same e = known_from new k code
    (grind (arith, lengths, was, correction_only, new, length-word, correct, near))
  where
    known : List (Option ℕ)
    known = known_bytes (bytes_in given)

    new : List ℕ
    new = bytes_in (after scale heard known given)

    was : IsKnown (bytes_in given) k code
    was = known_parts (bytes_in given) k code e

    correct : IsCorrection 207 187 (word_at 207 52 4 (bytes_in given) k) code
    correct = known_correction (bytes_in given) k code was

    new_long : AreSegments (after scale heard known given)
    new_long = after_long scale heard given known long same

    lengths : length new ≡ length (bytes_in given)
    lengths =
        length-bytes (after scale heard known given) new_long ∙ ap (λ g. 828 * g) (groups_after scale heard given known)
        ∙ sym (length-bytes given long)

    later : (k j : ℕ) → 0 < j → j < 207 → 0 < 4 * (codeword_byte_place 52 4 (207 * k + j) / 12) % 21528
    later k j a b = (let step = later_step k j 0 a b (omega arith) in omega (arith, step))

    byte : (j : ℕ) → 0 < j → j < 207 → get_or new (codeword_byte_place 52 4 (207 * k + j)) 0 ≡ get_or code j 0
    byte j a b =
        let there : codeword_byte_place 52 4 (207 * k + j) < 828 * groups_of given =
        omega (arith, known_place (bytes_in given) k j code was b, length-bytes given long) in
        let room : codeword_byte_place 52 4 (207 * k + j) < 828 * groups_of (after scale heard known given) =
        omega (arith, there, groups_after scale heard given known) in
        byte_in (after scale heard known given) (codeword_byte_place 52 4 (207 * k + j)) new_long room
        ∙ byte_kept scale heard given known paths (first_bits (after scale heard known given))
        (codeword_byte_place 52 4 (207 * k + j)) (get_or code j 0)
        (record { some = some; most = most; long = long; same = same }) there
        (later k j a b) (known_at (bytes_in given) k j code e b) (byte_at code j correct.codeword.bytes)

    near : distance (word_at 207 52 4 new k) code ≤ 1
    near = few_apart (word_at 207 52 4 new k) code (length-word 207 52 4 new k ∙ sym correct.codeword.long)
        (λ j a b. (let l : j < 207 = omega (arith, b, length-word 207 52 4 new k) in
        get_or-word 207 52 4 new k j l ∙ byte j a l))

pub none_some : {A : Type 0} (x : A) → ◌≡◌ {A = Option A} None (Some x) → ⊥
none_some x e = cc

pin_stays : (old new : List ℕ) (e t : ℕ) → StayKnown old new
    → known_pin (known_bytes old) e t < 4 → known_pin (known_bytes new) e t ≡ known_pin (known_bytes old) e t
unfolding known_pin known_byte known_code_byte
pin_stays old new e t stays l = grind (arith, known_entry, none_some)

pub more_known_costs_more : (scale : ℕ) (heard : List (List ℤ)) (old new : List ℕ) (f e : ℕ) → StayKnown old new
    → e < 12 → coder_cost scale heard (known_bytes old) f e ≤ coder_cost scale heard (known_bytes new) f e
unfolding coder_cost pinned_coder_cost
more_known_costs_more scale heard old new f e stays l =
    grind (arith, fewer_pins_cost_less, length-coder, field_pin, pin_stays)

-- pinned paths cost no less than those without pins
pub known_costs_more : (scale : ℕ) (heard : List (List ℤ)) (known : List (Option ℕ)) (f e : ℕ)
    → least_cost scale (groups_in heard f) e ≤ coder_cost scale heard known f e
unfolding coder_cost pinned_coder_cost least_cost
known_costs_more scale heard known f e =
    let symbols : List ℤ = coder_symbols (groups_in heard f) e in
    let found = least_pinned_found scale (coder_pins (pins_in heard known f) e) symbols in
    (least_path_found scale symbols).least (least_pinned_start scale (coder_pins (pins_in heard known f) e) symbols)
    (least_pinned_levels scale (coder_pins (pins_in heard known f) e) symbols) found.begins found.long found.path
