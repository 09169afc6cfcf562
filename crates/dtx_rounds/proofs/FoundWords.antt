-- Fields, with what is known by corrections.
use Rattle.std.proofs.Common.{◌≡◌, ℕ, zero, suc, ◌+◌, ◌<◌, ◌≤◌, ◌⊎◌, inl, inr, ◌||◌, Bool, true, false, Option, Some}
use Rattle.std.proofs.Common.{None, is_some, option_map, List, get_or, refl, sym, ap, ap₂, ◌∙◌, arith}
use Rattle.std.specs.List.{list_any, range_with_len}
use Rattle.std.proofs.lemmas.Bool.{cases_lt, false_from_ne_true, true≢false}
use Rattle.dtx_rounds.specs.Found.{AreFound, code_byte, has_code, has_code_behind, or_else}
use Rattle.dtx_rounds.specs.declared.field.Field.{Field}

-- ---- options

pub map_or : {A B : Type 0} (f : A → B) (x y : Option A)
    → or_else (option_map f x) (option_map f y) ≡ option_map f (or_else x y)
map_or f None y = refl
map_or f (Some a) y = refl

pub some_or : {A : Type 0} (x y : Option A) → (is_some y || is_some x) ≡ is_some (or_else x y)
some_or None None = refl
some_or None (Some b) = refl
some_or (Some a) None = refl
some_or (Some a) (Some b) = refl

pub or_assoc_bool : (x y z : Bool) → (x || (y || z)) ≡ ((x || y) || z)
or_assoc_bool true y z = refl
or_assoc_bool false y z = refl

pub or_false : (x : Bool) → x ≡ (x || false)
or_false true = refl
or_false false = refl

-- ---- some number of a range passes

pub any_none : (f : ℕ → Bool) (a n : ℕ) → ((i : ℕ) → a ≤ i → i < a + n → f i ≡ false)
    → list_any f (range_with_len a n) ≡ false
any_none f a zero h = refl
any_none f a (suc n) h = ap₂ (λ x y. x || y) (h a (omega arith) (omega arith))
    (any_none f (a + 1) n (λ i l m. h i (omega arith) (omega arith)))

pub any_at : (f : ℕ → Bool) (a n k : ℕ) → a ≤ k → k < a + n → f k ≡ true → list_any f (range_with_len a n) ≡ true
any_at f a zero k l m t = absurd (omega arith)
any_at f a (suc n) k l m t = by_place (cases_lt a k) (λ h. any_at f (a + 1) n k (omega arith) (omega arith) t)
  where
    by_place : (a < k) ⊎ (k ≤ a) → (a < k → list_any f (range_with_len (a + 1) n) ≡ true)
        → list_any f (range_with_len a (suc n)) ≡ true
    by_place (inl h) next = grind arith
    by_place (inr h) next = grind arith

pub any_each : (f : ℕ → Bool) (a n k : ℕ) → list_any f (range_with_len a n) ≡ false → a ≤ k → k < a + n → f k ≡ false
any_each f a n k e l m = false_from_ne_true (f k) (λ t. true≢false (sym (any_at f a n k l m t) ∙ e))

any_or : (f g h : ℕ → Bool) (a n : ℕ) → ((i : ℕ) → a ≤ i → i < a + n → f i ≡ (g i || h i))
    → list_any f (range_with_len a n) ≡ (list_any g (range_with_len a n) || list_any h (range_with_len a n))
any_or f g h a zero e = refl
any_or f g h a (suc n) e = ap₂ (λ x y. x || y) (e a (omega arith) (omega arith))
    (any_or f g h (a + 1) n (λ i l m. e i (omega arith) (omega arith)))
    ∙ swapped (g a) (h a) (list_any g (range_with_len (a + 1) n)) (list_any h (range_with_len (a + 1) n))
  where
    swapped : (x y z w : Bool) → ((x || y) || (z || w)) ≡ ((x || z) || (y || w))
    swapped true y z w = refl
    swapped false true true w = refl
    swapped false true false w = refl
    swapped false false z w = refl

-- ---- bytes

pub code_byte_none : (codes : ℕ → Option (List ℕ)) (n : ℕ) → ((k : ℕ) → codes k ≡ None) → code_byte codes n ≡ None
unfolding code_byte
code_byte_none codes n none = grind arith

-- the second corrections come behind the first ones
abbrev Agree : (first second both : ℕ → Option (List ℕ)) → Type 0
Agree first second both = (k : ℕ) → or_else (second k) (first k) ≡ both k

-- ---- whether there is a correction

has_or : (first second both : ℕ → Option (List ℕ)) (n : ℕ) → Agree first second both
    → has_code both n ≡ (has_code first n || has_code second n)
unfolding has_code
has_or first second both n agree = grind (arith, any_or, some_or)

behind_or : (first second both : ℕ → Option (List ℕ)) (n : ℕ) → Agree first second both
    → has_code_behind both n ≡ (has_code_behind first n || has_code_behind second n)
unfolding has_code_behind
behind_or first second both n agree = grind (arith, any_or, some_or)

has_none : (codes : ℕ → Option (List ℕ)) (n : ℕ) → ((k : ℕ) → codes k ≡ None) → has_code codes n ≡ false
unfolding has_code
has_none codes n none = any_none (λ k. is_some (codes k)) 0 n (λ k l m. ap is_some (none k))

behind_none : (codes : ℕ → Option (List ℕ)) (n : ℕ) → ((k : ℕ) → codes k ≡ None) → has_code_behind codes n ≡ false
unfolding has_code_behind
behind_none codes n none = grind (arith, any_none)

-- ---- fields

pub found_none : (codes : ℕ → Option (List ℕ)) (field next : Field) → ((k : ℕ) → codes k ≡ None)
    → AreFound codes field next field next
found_none codes field next none = grind (arith, code_byte_none, or_false, has_none, behind_none)

-- one after the other
pub found_twice : (first second both : ℕ → Option (List ℕ)) (a b p q x y : Field) → AreFound first a b p q
    → AreFound second p q x y → ((k : ℕ) → or_else (second k) (first k) ≡ both k) → AreFound both a b x y
unfolding code_byte
found_twice first second both a b p q x y h k agree = record {
  known = λ n. grind (arith, map_or);
  long = k.long ∙ h.long;
  words = λ i l. k.words i (omega (arith, l, h.long)) ∙ ap (λ x. x || is_some (second i)) (h.words i l)
      ∙ sym (or_assoc_bool (get_or a.words i false) (is_some (first i)) (is_some (second i)))
      ∙ ap (λ x. get_or a.words i false || x) (some_or (second i) (first i) ∙ ap is_some (agree i));
  more = k.more ∙ ap (λ x. x || has_code second 312) h.more ∙ sym (grind (arith, or_assoc_bool))
      ∙ ap (λ x. a.knows_more || x) (sym (has_or first second both 312 agree));
  rest = (grind arith);
  next_words = k.next_words ∙ h.next_words;
  next_more = k.next_more ∙ ap (λ x. x || has_code_behind second 312) h.next_more
      ∙ sym (or_assoc_bool b.knows_more (has_code_behind first 312) (has_code_behind second 312))
      ∙ ap (λ x. b.knows_more || x) (sym (behind_or first second both 312 agree));
  next_rest = (grind arith);
}

-- other corrections that are the same
pub found_same : (codes same : ℕ → Option (List ℕ)) (a b x y : Field) → AreFound codes a b x y
    → ((k : ℕ) → codes k ≡ same k) → AreFound same a b x y
found_same codes same a b x y h e = grind (arith, found_twice, found_none)
