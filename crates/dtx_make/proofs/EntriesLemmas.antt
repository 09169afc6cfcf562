-- Entries of damage in order, and the one of them that covers a place.
use Rattle.std.proofs.Common.{◌≡◌, ℕ, zero, suc, ◌+◌, ◌-◌, ◌<◌, ◌≤◌, ◌⊎◌, Bool, true, false, Option, Some, None, List}
use Rattle.std.proofs.Common.{[], ◌∷◌, ◌++◌, length, get_or, slice_get, take, drop, refl, sym, ap, ◌∙◌, subst, arith}
use Rattle.std.proofs.Common.{inl, inr}
use Rattle.std.specs.List.{find, Contains}
use Rattle.std.specs.Option.{option_or}
use Rattle.std.proofs.Math.Dec.{leb, ltb}
use Rattle.std.proofs.lemmas.Bool.{cases_lt, cases_Bool, leb-true, ltb-true, lt-leb, le-ltb, and_parts, and_left}
use Rattle.std.proofs.lemmas.Bool.{and_right, cond-true, cond-false}
use Rattle.std.proofs.lemmas.List.{take-append-drop, take_more, drop_more, get_or-take, get_or-drop, get_or_default}
use Rattle.std.proofs.lemmas.List.{length-drop, length-take-le}
use Rattle.std.proofs.lemmas.List.Folds.{find-append}
use Rattle.std.proofs.lemmas.Option.{get_or_from_slice_get}
use Rattle.dtx_plan.specs.declared.damage.Damage.{Damage}
use Rattle.dtx_make.specs.Hurt.{AreInOrder, covers, damage_end, entry_at}

apart : (ds : List Damage) (d : Damage) → AreInOrder ds → (n j k : ℕ) → j + n + 1 ≡ k → k < length ds
    → damage_end (get_or ds j d) ≤ (get_or ds k d).at
apart ds d o zero j k e l = grind arith
apart ds d o (suc n) j k e l =
    let at : j + n + 1 + 1 ≡ k = omega arith in
    let before = apart ds d o n j (j + n + 1) refl (omega arith) in
    let next = o (j + n + 1) d (omega arith) in
    subst (λ m. damage_end (get_or ds j d) ≤ (get_or ds m d).at) at (omega (arith, before, next))

-- an entry ends before each later one begins
pub in_order : (ds : List Damage) (d : Damage) → AreInOrder ds → (j k : ℕ) → j < k → k < length ds
    → damage_end (get_or ds j d) ≤ (get_or ds k d).at
in_order ds d o j k l h = apart ds d o (k - j - 1) j k (omega arith) h

-- the ends never fall
pub ends_rise : (ds : List Damage) (d : Damage) → AreInOrder ds → (j k : ℕ) → j ≤ k → k < length ds
    → damage_end (get_or ds j d) ≤ damage_end (get_or ds k d)
ends_rise ds d o j k l h = grind (arith, cases_lt, in_order)

pub covers_within : (place : ℕ) (e : Damage) → covers place e ≡ true → (e.at ≤ place) × (place < damage_end e)
covers_within place e t = grind (arith, and_parts, leb, ltb, leb-true, ltb-true)

pub covers_after : (place : ℕ) (e : Damage) → place < e.at → covers place e ≡ false
covers_after place e l = and_left (leb e.at place) (ltb place (e.at + e.count)) (lt-leb e.at place l)

pub covers_before : (place : ℕ) (e : Damage) → damage_end e ≤ place → covers place e ≡ false
covers_before place e l = and_right (leb e.at place) (ltb place (e.at + e.count)) (le-ltb place (e.at + e.count) l)

find_none : {X : Type 0} (p : X → Bool) (xs : List X) → ((k : ℕ) (d : X) → k < length xs → p (get_or xs k d) ≡ false)
    → find p xs ≡ None
find_none p [] h = refl
find_none p (x ∷ xs) h = cond-false (p x) (Some x) (find p xs) (h 0 x (omega arith))
    ∙ find_none p xs (λ k d l. h (suc k) d (omega arith))

pub entry_at_none : (ds : List Damage) (place : ℕ)
    → ((k : ℕ) (d : Damage) → k < length ds → covers place (get_or ds k d) ≡ false) → entry_at ds place ≡ None
unfolding entry_at
entry_at_none ds place h = find_none (covers place) ds h

pub option_or-none : {X : Type 0} (o : Option X) → option_or o None ≡ o
option_or-none None = refl
option_or-none (Some x) = refl

pub entry_at-append : (ds es : List Damage) (place : ℕ)
    → entry_at (ds ++ es) place ≡ option_or (entry_at ds place) (entry_at es place)
unfolding entry_at
entry_at-append ds es place = find-append (covers place) ds es

-- the later entries do not matter where they cover no such place
pub entry_at-take : (ds : List Damage) (i place : ℕ)
    → ((k : ℕ) (d : Damage) → i ≤ k → k < length ds → covers place (get_or ds k d) ≡ false)
    → entry_at ds place ≡ entry_at (take i ds) place
entry_at-take ds i place h = ap (λ z. entry_at z place) (sym (take-append-drop i ds))
    ∙ entry_at-append (take i ds) (drop i ds) place
    ∙ ap (option_or (entry_at (take i ds) place)) (entry_at_none (drop i ds) place later)
    ∙ option_or-none (entry_at (take i ds) place)
  where
    later : (k : ℕ) (d : Damage) → k < length (drop i ds) → covers place (get_or (drop i ds) k d) ≡ false
    later k d l = ap (covers place) (get_or-drop i ds k d) ∙ h (i + k) d (omega arith) (omega (arith, length-drop i ds))

-- one more entry
pub entry_at_more : (ds : List Damage) (d : Damage) (i place : ℕ) → i < length ds
    → entry_at (take (i + 1) ds) place ≡ option_or (entry_at (take i ds) place) (entry_at (get_or ds i d ∷ []) place)
entry_at_more ds d i place l = rw (take_more ds i d l, entry_at-append (take i ds) (get_or ds i d ∷ []) place)

at_head : (e : Damage) (ds : List Damage) (place : ℕ) → covers place e ≡ true → entry_at (e ∷ ds) place ≡ Some e
unfolding entry_at
at_head e ds place t = cond-true (covers place e) (Some e) (find (covers place) ds) t

-- where an entry covers a place, none before it does
before_it : (ds : List Damage) (d : Damage) (i place : ℕ) → AreInOrder ds → i < length ds
    → covers place (get_or ds i d) ≡ true
    → (k : ℕ) (e : Damage) → k < length (take i ds) → covers place (get_or (take i ds) k e) ≡ false
before_it ds d i place o l t k e h =
    let within : k < i = omega (arith, length-take-le i ds (omega arith)) in
    let begun = (covers_within place (get_or ds i d) t).0 in
    ap (covers place) (get_or-take i ds k e within ∙ sym (get_or_default ds k d e (omega arith)))
    ∙ covers_before place (get_or ds k d) (omega (arith, begun, in_order ds d o k i within l))

one : (e : Damage) (place : ℕ) → covers place e ≡ false → entry_at (e ∷ []) place ≡ None
unfolding entry_at
one e place t = cond-false (covers place e) (Some e) None t

-- of an entry and those before it at most one side covers a place
pub one_covers : (ds : List Damage) (d : Damage) (i place : ℕ) → AreInOrder ds → i < length ds
    → (entry_at (get_or ds i d ∷ []) place ≡ None) ⊎ (entry_at (take i ds) place ≡ None)
one_covers ds d i place o l = elim (cases_Bool (covers place (get_or ds i d))) [
  | inl t ↦ inr (entry_at_none (take i ds) place (before_it ds d i place o l t))
  | inr t ↦ inl (one (get_or ds i d) place t)
]

-- the entries up to one that ends by a place end by it too
pub end_by : (ds : List Damage) (e : Damage) (m place : ℕ) → AreInOrder ds → slice_get ds m ≡ Some e
    → damage_end e ≤ place → m < length ds → (k : ℕ) (d : Damage) → k < m + 1 → damage_end (get_or ds k d) ≤ place
end_by ds e m place o is l h k d n = grind (arith, ends_rise, get_or_from_slice_get)

-- the entries from one on that ends behind a place end behind it too
pub end_behind : (ds : List Damage) (e : Damage) (m place : ℕ) → AreInOrder ds → slice_get ds m ≡ Some e
    → place < damage_end e → (k : ℕ) (d : Damage) → m ≤ k → k < length ds → place < damage_end (get_or ds k d)
end_behind ds e m place o is l k d n h = grind (arith, ends_rise, get_or_from_slice_get)

-- the entries that end by a place cover none from there on
pub entry_at_before : (ds : List Damage) (i place k : ℕ) → i ≤ length ds
    → ((j : ℕ) (d : Damage) → j < i → damage_end (get_or ds j d) ≤ place) → place ≤ k → entry_at (take i ds) k ≡ None
entry_at_before ds i place k h ends l = grind (arith, entry_at_none, length-take-le, get_or-take, covers_before)

-- the entries from one on that begins at a place or behind it cover none before there
pub entry_at_behind : (ds : List Damage) (e : Damage) (i end k : ℕ) → AreInOrder ds → slice_get ds i ≡ Some e
    → end ≤ e.at → k < end → entry_at ds k ≡ entry_at (take i ds) k
entry_at_behind ds e i end k o is l m = entry_at-take ds i k each
  where
    begins : (j : ℕ) (d : Damage) → i ≤ j → j < length ds → (i < j) ⊎ (j ≤ i) → end ≤ (get_or ds j d).at
    begins j d n h (inl later) =
        omega (arith, in_order ds d o i j later h, ap damage_end (get_or_from_slice_get ds i e d is))
    begins j d n h (inr same) = grind (arith, get_or_from_slice_get)

    each : (j : ℕ) (d : Damage) → i ≤ j → j < length ds → covers k (get_or ds j d) ≡ false
    each j d n h = covers_after k (get_or ds j d) (omega (arith, begins j d n h (cases_lt i j)))

pub entry_at_nothing : (place : ℕ) → entry_at [] place ≡ None
unfolding entry_at
entry_at_nothing place = refl

-- in order, each entry that covers a place is the first that does
pub entry_at_is : (ds : List Damage) (e : Damage) (place : ℕ) → AreInOrder ds → Contains ds e → covers place e ≡ true
    → entry_at ds place ≡ Some e
entry_at_is ds e place o c t =
    let i = c.0 in
    let is : get_or ds i e ≡ e = c.2 in
    let within : i < length ds = c.1 in
    ap (λ z. entry_at z place) (sym (take-append-drop i ds) ∙ ap (λ z. take i ds ++ z) (grind (arith, drop_more)))
    ∙ entry_at-append (take i ds) (e ∷ drop (i + 1) ds) place
    ∙ ap (λ z. option_or z (entry_at (e ∷ drop (i + 1) ds) place))
    (entry_at_none (take i ds) place (grind (arith, before_it))) ∙ at_head e (drop (i + 1) ds) place t
