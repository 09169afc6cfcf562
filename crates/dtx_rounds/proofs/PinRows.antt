-- The pins of twelve bytes, one of each coder, and where they stand among those of a field.
use Rattle.std.proofs.Common.{◌≡◌, ℕ, ◌+◌, ◌-◌, ◌*◌, ◌/◌, ◌%◌, ◌<◌, ◌≤◌, Option, Some, None, List, [], ◌∷◌, length, map}
use Rattle.std.proofs.Common.{option_map, unwrap_or, set, take, drop, get_or, refl, ap, ◌∙◌, arith}
use Rattle.std.specs.List.{range_with_len}
use Rattle.std.proofs.lemmas.List.{get_or-append_right, get_or-drop, get_or-take, get_or_append_left, length-take-le}
use Rattle.std.proofs.lemmas.List.FromFn.{fill_by_all}
use borrow.Rule.Slice.PartMut.{put_mid}
use Rattle.dtx_trellis.specs.Trellis.{byte_place, group_place, pair_in}
use Rattle.dtx_rounds.specs.Known.{byte_at_step, field_pins, known_pin, pin_of}

-- ---- a list of which a part was written

pub mid_before : {X : Type 0} (a k i : ℕ) (xs ys : List (List X)) → i < a → a ≤ length xs
    → get_or (put_mid a k xs ys) i [] ≡ get_or xs i []
mid_before a k i xs ys l m = grind (arith, get_or_append_left, length-take-le, get_or-take)

pub mid_at : {X : Type 0} (a k i : ℕ) (xs ys : List (List X)) → i < length ys → a ≤ length xs
    → get_or (put_mid a k xs ys) (a + i) [] ≡ get_or ys i []
mid_at a k i xs ys l m = grind (arith, get_or-append_right, length-take-le, get_or_append_left)

pub part_entry : (a k x : ℕ) (known : List (Option ℕ)) → x < k
    → get_or (take k (drop a known)) x None ≡ get_or known (a + x) None
part_entry a k x known l = get_or-take k (drop a known) x None l ∙ get_or-drop a known x None

pub part_byte : (a k x : ℕ) (bytes : List ℕ) → x < k → get_or (take k (drop a bytes)) x 0 ≡ get_or bytes (a + x) 0
part_byte a k x bytes l = get_or-take k (drop a bytes) x 0 l ∙ get_or-drop a bytes x 0

-- ---- pins

-- the pin of coder e in step i of the four of byte row b
pub row_pin : (known : List (Option ℕ)) (b i e : ℕ) → i < 4 → e < 12 → known_pin known e (4 * b + i)
    ≡ pin_of (get_or known (12 * b + (e + 12 - 4 * (4 * b / 69 % 3)) % 12) None) i
unfolding known_pin pair_in byte_at_step byte_place group_place
row_pin known b i e l m = grind arith

-- the pin is a pair of the byte, or 4, which is added where the byte isn't known and 0 stands for it
pub pin_parts : (i : ℕ) → i < 4 → (byte : Option ℕ)
    → pair_in (unwrap_or byte 0) i + unwrap_or (option_map (λ byte. 0) byte) 4 ≡ pin_of byte i
unfolding pair_in
pin_parts i l (Some b) = (let same : pair_in b i + 0 ≡ pair_in b i = omega arith in same)
pin_parts i l None = grind arith

-- four rows that were written one by one
pub four_rows : {X : Type 0} (rows : List (List X)) (a b c d : List X) → length rows ≡ 4
    → set (set (set (set rows 0 a) 1 b) 2 c) 3 d ≡ a ∷ b ∷ c ∷ d ∷ []
four_rows [] a b c d l = absurd (omega arith)
four_rows (x ∷ []) a b c d l = absurd (omega arith)
four_rows (x ∷ y ∷ []) a b c d l = absurd (omega arith)
four_rows (x ∷ y ∷ z ∷ []) a b c d l = absurd (omega arith)
four_rows (x ∷ y ∷ z ∷ w ∷ []) a b c d l = refl
four_rows (x ∷ y ∷ z ∷ w ∷ v ∷ more) a b c d l = absurd (omega arith)

-- all pins of a field
pub all_pins : (known : List (Option ℕ)) (n : ℕ) (pins : List (List ℕ)) → length pins ≡ n
    → ((t : ℕ) → t < n → length (get_or pins t []) ≡ 12)
    → ((t e : ℕ) → t < n → e < 12 → get_or (get_or pins t []) e 0 ≡ known_pin known e t) → pins ≡ field_pins known 0 n
unfolding field_pins
all_pins known n pins long rows each =
    fill_by_all (λ t. map (λ e. known_pin known e (21528 * 0 + t)) (range_with_len 0 12)) pins n [] long
    (λ t l. fill_by_all (λ e. known_pin known e (21528 * 0 + t)) (get_or pins t []) 12 0 (rows t l)
    (λ e m. (let none : t ≡ 21528 * 0 + t = omega arith in each t e l m ∙ ap (known_pin known e) none)))
