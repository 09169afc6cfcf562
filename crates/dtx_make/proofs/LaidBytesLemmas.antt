-- Bytes with damage laid over them.
use Rattle.std.proofs.Common.{◌≡◌, ℕ, ◌+◌, ◌-◌, ◌<◌, ◌≤◌, ◌⊎◌, replicate, true, false, ◌&&◌, Option, Some, None, List}
use Rattle.std.proofs.Common.{[], ◌∷◌, length, get_or, take, refl, sym, ap, ◌∙◌, arith, inl, inr}
use borrow.Rule.Slice.PartMut.{put_mid}
use Rattle.std.proofs.Math.Dec.{leb, ltb}
use Rattle.std.proofs.lemmas.Bool.{cases_lt, cond-true, cond-false, and_from, and_left, and_right, le-leb, lt-leb}
use Rattle.std.proofs.lemmas.Bool.{lt-ltb, le-ltb}
use Rattle.std.specs.List.{Contains}
use Rattle.std.specs.Option.{option_or, option_map_or}
use Rattle.std.specs.Int.{w8, cast_unsigned}
use Rattle.std.proofs.lemmas.List.{ext_get_or, get_or_append_left, get_or-append_right, get_or-take, get_or-drop}
use Rattle.std.proofs.lemmas.List.{get_or-replicate, length-append, length-take-le, length-drop, length-replicate}
use Rattle.dtx_plan.specs.declared.damage.Damage.{Damage}
use Rattle.dtx_make.specs.Hurt.{AreInOrder, IsCovered, covers, entry_at, byte_at, damaged_bytes}
use Rattle.dtx_make.proofs.LaidLemmas.{length-laid, get_or-laid}
use Rattle.dtx_make.proofs.EntriesLemmas.{entry_at_more, entry_at_is, one_covers}

-- a list of as many bytes that has at each place what is laid there
pub laid_from : (ds : List Damage) (place : ℕ) (xs ys : List ℕ) → length ys ≡ length xs
    → ((i : ℕ) → i < length xs → get_or ys i 0 ≡ byte_at ds (place + i) (get_or xs i 0))
    → ys ≡ damaged_bytes ds place xs
laid_from ds place xs ys long each = ext_get_or 0 ys (damaged_bytes ds place xs) (long ∙ sym (length-laid ds place xs))
    (λ i l. let within : i < length xs = omega arith in each i within ∙ sym (get_or-laid ds place xs i within))

-- where no entry covers any of the places
pub laid_none : (ds : List Damage) (place : ℕ) (xs : List ℕ)
    → ((k : ℕ) → place ≤ k → k < place + length xs → entry_at ds k ≡ None) → xs ≡ damaged_bytes ds place xs
laid_none ds place xs h = grind (arith, laid_from)

-- where two lists have the same entry at each of the places
pub laid_same : (ds es : List Damage) (place : ℕ) (xs : List ℕ)
    → ((k : ℕ) → place ≤ k → k < place + length xs → entry_at ds k ≡ entry_at es k)
    → damaged_bytes ds place xs ≡ damaged_bytes es place xs
laid_same ds es place xs h = grind (arith, laid_from, length-laid, get_or-laid)

over : (f : Damage → ℕ) (x y : Option Damage) (b : ℕ) → (y ≡ None) ⊎ (x ≡ None)
    → option_map_or f (option_or x y) b ≡ option_map_or f y (option_map_or f x b)
over f None y b h = refl
over f (Some x) None b h = refl
over f (Some x) (Some y) b (inl e) = cc
over f (Some x) (Some y) b (inr e) = cc

-- one more entry is laid over what the entries before it gave
pub laid_more : (ds : List Damage) (d : Damage) (i place : ℕ) (xs : List ℕ) → AreInOrder ds → i < length ds
    → damaged_bytes (get_or ds i d ∷ []) place (damaged_bytes (take i ds) place xs)
    ≡ damaged_bytes (take (i + 1) ds) place xs
laid_more ds d i place xs o l =
    laid_from (take (i + 1) ds) place xs (damaged_bytes (get_or ds i d ∷ []) place (damaged_bytes (take i ds) place xs))
    (grind (arith, length-laid)) each
  where
    put : Damage → ℕ
    put e = cast_unsigned w8 e.put

    each : (j : ℕ) → j < length xs → get_or (damaged_bytes (get_or ds i d ∷ []) place (damaged_bytes
        (take i ds) place xs)) j 0 ≡ byte_at (take (i + 1) ds) (place + j) (get_or xs j 0)
    each j h = get_or-laid (get_or ds i d ∷ []) place (damaged_bytes (take i ds) place xs) j
        (omega (arith, length-laid (take i ds) place xs))
        ∙ ap (byte_at (get_or ds i d ∷ []) (place + j)) (get_or-laid (take i ds) place xs j h)
        ∙ sym (grind (arith, over, one_covers))
        ∙ ap (λ o. option_map_or (λ e. cast_unsigned w8 e.put) o (get_or xs j 0))
        (sym (entry_at_more ds d i (place + j) l))

byte_inside : (e : Damage) (place b : ℕ) → covers place e ≡ true → byte_at (e ∷ []) place b ≡ cast_unsigned w8 e.put
unfolding entry_at
byte_inside e place b t = grind (arith, cond-true)

byte_outside : (e : Damage) (place b : ℕ) → covers place e ≡ false → byte_at (e ∷ []) place b ≡ b
unfolding entry_at
byte_outside e place b t = grind (arith, cond-false)

length-part : (a k : ℕ) (xs ys : List ℕ) → a + k ≤ length xs → length ys ≡ k → length (put_mid a k xs ys) ≡ length xs
length-part a k xs ys h long = grind (arith, length-append, length-take-le, length-drop)

part_before : (a k : ℕ) (xs ys : List ℕ) (i : ℕ) → a ≤ length xs → i < a
    → get_or (put_mid a k xs ys) i 0 ≡ get_or xs i 0
part_before a k xs ys i h l = grind (arith, get_or_append_left, length-take-le, get_or-take)

part_within : (a k : ℕ) (xs ys : List ℕ) (i : ℕ) → a ≤ length xs → length ys ≡ k → a ≤ i → i < a + k
    → get_or (put_mid a k xs ys) i 0 ≡ get_or ys (i - a) 0
part_within a k xs ys i h long l m = grind (arith, get_or-append_right, length-take-le, get_or_append_left)

part_behind : (a k : ℕ) (xs ys : List ℕ) (i : ℕ) → a ≤ length xs → length ys ≡ k → a + k ≤ i
    → get_or (put_mid a k xs ys) i 0 ≡ get_or xs i 0
part_behind a k xs ys i h long l = grind (arith, get_or-append_right, length-take-le, get_or-drop)

-- the part of the bytes that an entry covers, filled
pub laid_part : (e : Damage) (place from to k : ℕ) (xs ys : List ℕ) → IsCovered e place (place + length xs) from to
    → to - place - (from - place) ≡ k
    → ys ≡ replicate k (cast_unsigned w8 e.put) → put_mid (from - place) k xs ys ≡ damaged_bytes (e ∷ []) place xs
laid_part e place from to k xs ys c size filled = laid_from (e ∷ []) place xs (put_mid (from - place) k xs ys)
    (length-part (from - place) k xs ys (omega (arith, c.least, c.order, c.most)) long) each
  where
    long : length ys ≡ k
    long = ap length filled ∙ length-replicate k (cast_unsigned w8 e.put)

    within : from - place ≤ length xs
    within = omega (arith, c.least, c.order, c.most)

    each : (i : ℕ) → i < length xs → get_or (put_mid (from - place) k xs ys) i 0
        ≡ byte_at (e ∷ []) (place + i) (get_or xs i 0)
    each i l = by_place (cases_lt (place + i) from) (cases_lt (place + i) to)
      where
        test : covers (place + i) e ≡ (leb from (place + i) && ltb (place + i) to)
        test = c.covered (place + i) (omega arith) (omega arith)

        by_place : (place + i < from) ⊎ (from ≤ place + i) → (place + i < to) ⊎ (to ≤ place + i)
            → get_or (put_mid (from - place) k xs ys) i 0 ≡ byte_at (e ∷ []) (place + i) (get_or xs i 0)
        by_place (inl before) side = grind (arith, part_before, byte_outside, and_left, leb, ltb, lt-leb)
        by_place (inr begun) (inl open_yet) =
            part_within (from - place) k xs ys i within long (omega arith) (omega (arith, c.least))
            ∙ ap (λ z. get_or z (i - (from - place)) 0) filled
            ∙ get_or-replicate k (i - (from - place)) (cast_unsigned w8 e.put) 0 (omega (arith, c.least))
            ∙ sym (byte_inside e (place + i) (get_or xs i 0) (grind (arith, test, and_from, leb, ltb, le-leb, lt-ltb)))
        by_place (inr begun) (inr over_yet) =
            part_behind (from - place) k xs ys i within long (omega (arith, c.least, c.order))
            ∙ sym (byte_outside e (place + i) (get_or xs i 0) (test
            ∙ and_right (leb from (place + i)) (ltb (place + i) to) (le-ltb (place + i) to over_yet)))

-- the byte at a place that an entry covers
pub laid_covered : (ds : List Damage) (place i : ℕ) (xs : List ℕ) (e : Damage) → AreInOrder ds → i < length xs
    → Contains ds e → covers (place + i) e ≡ true → get_or (damaged_bytes ds place xs) i 0 ≡ cast_unsigned w8 e.put
laid_covered ds place i xs e o l c t = grind (arith, get_or-laid, entry_at_is)

-- the byte at a place that none covers
pub laid_stays : (ds : List Damage) (place i : ℕ) (xs : List ℕ) → i < length xs → entry_at ds (place + i) ≡ None
    → get_or (damaged_bytes ds place xs) i 0 ≡ get_or xs i 0
laid_stays ds place i xs l n = grind (arith, get_or-laid)
