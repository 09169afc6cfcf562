-- What comes of a field behind which a segment is held.
use Rattle.std.proofs.Common.{◌≡◌, ℕ, ℤ, ◌+◌, ◌-◌, ◌*◌, ◌<◌, ◌≤◌, Bool, true, false, ◌&&◌, cond, leb, Option, Some}
use Rattle.std.proofs.Common.{None, option_map, List, [], ◌∷◌, ◌++◌, length, sum, take, drop, append_assoc, refl, sym}
use Rattle.std.proofs.Common.{ap, ap₂, ◌∙◌, arith, length-append}
use Rattle.std.proofs.lemmas.Bool.{cond-true, cond-false, cases_lt, le-leb, le-ltb, lt-ltb}
use Rattle.std.proofs.lemmas.List.{drop-append-le, get_or_append_left, length-drop, length-take-le, take-append-drop}
use Rattle.std.proofs.lemmas.List.{take-append-le}
use Rattle.dtx_lists.proofs.Range.{map-range_same}
use Rattle.dtx_acquire.specs.Agreement.{agrees, are_unlike, is_plus, least_from, sync_sign, unlike, unlike_at}
use Rattle.dtx_acquire.proofs.AgreementLemmas.{past_end}
use Rattle.dtx_acquire.specs.Acquired.{begun_at, behind, field_at, fields_where, given_at, is_met}
use Rattle.dtx_acquire.specs.Acquired.{segments_from, unless_lost}
use Rattle.dtx_acquire.specs.Acquirer.{IsSought, field_of, where_wanted}
use Rattle.dtx_acquire.proofs.PlacesLemmas.{least_gives, least_here, least_misses, least_skip, whole_there}
use Rattle.dtx_acquire.proofs.SyncsLemmas.{agrees_behind, begun_later, later_by, least_from_behind, sync_of}
use Rattle.dtx_acquire.proofs.FieldsLemmas.{fields_next, fields_skip, first_of}

-- ---- symbols in front of more

unlike_at_front : (h more : List ℤ) (p i : ℕ) → p + i < length h → unlike_at (h ++ more) p i ≡ unlike_at h p i
unfolding unlike_at
unlike_at_front h more p i l = grind (arith, get_or_append_left)

pub agrees_front : (h more : List ℤ) (p : ℕ) → p + 832 ≤ length h → agrees (h ++ more) p ≡ agrees h p
unfolding agrees unlike
agrees_front h more p l = ap₂ ◌&&◌ (grind (arith, le-leb, length-append))
    (ap (λ n. leb n 128) (ap sum (map-range_same (unlike_at (h ++ more) p) (unlike_at h p) 0 515
    (λ i a b. unlike_at_front h more p i (omega arith)))))

segments_front : (h more : List ℤ) (n : ℕ) → 832 * n ≤ length h → segments_from (h ++ more) 0 n ≡ segments_from h 0 n
unfolding segments_from
segments_front h more n l =
    map-range_same (λ i. take 832 (drop (0 + 832 * i) (h ++ more))) (λ i. take 832 (drop (0 + 832 * i) h)) 0 n
    (λ i a b. ap (take 832) (drop-append-le (0 + 832 * i) h more (omega arith))
    ∙ take-append-le 832 (drop (0 + 832 * i) h) more (omega (arith, length-drop (0 + 832 * i) h)))

split_at : (k : ℕ) (h more : List ℤ) → take k h ++ (drop k h ++ more) ≡ h ++ more
split_at k h more = sym (append_assoc (take k h) (drop k h) more) ∙ ap (λ xs. xs ++ more) (take-append-drop k h)

pub agrees_dropped : (h : List ℤ) (k p : ℕ) → k ≤ length h → agrees (drop k h) p ≡ agrees h (k + p)
agrees_dropped h k p l = sym (agrees_behind (take k h) (drop k h) p)
    ∙ ap₂ agrees (take-append-drop k h) (ap (λ n. n + p) (length-take-le k h l))

-- ---- what was let go

pub sought_fields : (old new : List ℤ) → IsSought old new → (wanted : Bool → Bool) (begins : Bool) (more : List ℤ)
    → fields_where wanted begins (old ++ more) ≡ fields_where wanted begins (new ++ more)
sought_fields old new h wanted begins more =
    let count = h.count in
    let long : length (take count old) ≡ count = length-take-le count old h.within in
    ap (fields_where wanted begins) (sym (split_at count old more))
    ∙ fields_skip wanted begins (take count old) (drop count old ++ more) (λ p l. grind (arith, split_at, agrees_front))
    ∙ ap (λ (xs : List ℤ). fields_where wanted begins (xs ++ more)) (sym h.left)

-- ---- the next sync

-- where the next sync is behind k symbols
next_at : (wanted : Bool → Bool) (begins next : Bool) (k : ℕ) (front v s : List ℤ) → front ++ v ≡ s → length front ≡ k
    → 0 < k → agrees s 0 ≡ true → is_met s 0 ≡ true → behind s 0 ≡ option_map (later_by k) (first_of next v)
    → fields_where wanted begins s
    ≡ where_wanted (wanted true) (field_at s (sync_of begins 0) ∷ []) ++ fields_where wanted next v
next_at wanted begins next k front v s e l some = grind (arith, later_by, first_of, sync_of, fields_next)

met_full : (h more : List ℤ) → length h ≡ 261248 → is_met (h ++ more) 0 ≡ true
unfolding is_met
met_full h more l = le-leb 261248 (length (h ++ more)) (omega (arith, length-append h more))

behind_met : (s : List ℤ) → is_met s 0 ≡ true
    → behind s 0 ≡ cond (agrees s 260416) (Some (sync_of false 260416)) (begun_at (least_from s 1))
unfolding behind
behind_met s m = grind (arith, cond-true, sync_of)

given_met : (s : List ℤ) → is_met s 0 ≡ true
    → given_at s 0 ≡ cond (agrees s 260416) 313 (unless_lost 0 (least_from s 1))
unfolding given_at
given_met s m = grind (arith, cond-true)

field_is : (h more : List ℤ) (begins : Bool) (count : ℕ) → 832 * count ≤ length h → given_at (h ++ more) 0 ≡ count
    → field_at (h ++ more) (sync_of begins 0) ≡ field_of count begins h
unfolding field_at
field_is h more begins count l e = grind (arith, segments_front)

-- a step, where the next sync is known
step_is : (wanted : Bool → Bool) (begins next : Bool) (k count : ℕ) (h more : List ℤ) → length h ≡ 261248
    → agrees h 0 ≡ true → 0 < k → k ≤ 261248 → count ≤ 313
    → behind (h ++ more) 0 ≡ option_map (later_by k) (first_of next (drop k h ++ more)) → given_at (h ++ more) 0 ≡ count
    → fields_where wanted begins (h ++ more)
    ≡ where_wanted (wanted true) (field_of count begins h ∷ []) ++ fields_where wanted next (drop k h ++ more)
step_is wanted begins next k count h more l a some most few b g =
    next_at wanted begins next k (take k h) (drop k h ++ more) (h ++ more) (split_at k h more)
    (length-take-le k h (omega (arith, l, most))) some (agrees_front h more 0 (omega (arith, l)) ∙ a)
    (met_full h more l) b
    ∙ ap (λ x. where_wanted (wanted true) (x ∷ []) ++ fields_where wanted next (drop k h ++ more))
    (field_is h more begins count (omega (arith, few, l)) g)

-- the next sync is where it is due
pub step_due : (wanted : Bool → Bool) (begins : Bool) (h more : List ℤ) → length h ≡ 261248 → agrees h 0 ≡ true
    → agrees h 260416 ≡ true → fields_where wanted begins (h ++ more)
    ≡ where_wanted (wanted true) (field_of 313 begins h ∷ []) ++ fields_where wanted false (drop 260416 h ++ more)
step_due wanted begins h more l a d =
    let there : agrees (h ++ more) 260416 ≡ true = agrees_front h more 260416 (omega (arith, l)) ∙ d in
    step_is wanted begins false 260416 313 h more l a (omega arith) (omega arith) (omega arith)
    (behind_met (h ++ more) (met_full h more l) ∙ cond-true (agrees (h ++ more) 260416) (Some (sync_of false 260416))
    (begun_at (least_from (h ++ more) 1)) there ∙ ap (λ o. option_map (later_by 260416) (option_map (sync_of false) o))
    (sym (least_here agrees past_end (drop 260416 h ++ more) 0
    (agrees_front (drop 260416 h) more 0 (omega (arith, length-drop 260416 h, l))
    ∙ agrees_dropped h 260416 0 (omega (arith, l)) ∙ d)))) (given_met (h ++ more) (met_full h more l)
    ∙ cond-true (agrees (h ++ more) 260416) 313 (unless_lost 0 (least_from (h ++ more) 1)) there)

-- it isn't, and none is before place k
searched : (h more : List ℤ) (k : ℕ) → length h ≡ 261248 → agrees h 260416 ≡ false → 1 ≤ k → k ≤ 260417
    → ((i : ℕ) → 1 ≤ i → i < k → agrees h i ≡ false)
    → behind (h ++ more) 0 ≡ option_map (later_by k) (first_of true (drop k h ++ more))
searched h more k l d some most none =
    let long : length (take k h) ≡ k = length-take-le k h (omega (arith, l)) in
    let there : length (take k h) + 0 ≡ k = omega (arith, long) in
    behind_met (h ++ more) (met_full h more l)
    ∙ cond-false (agrees (h ++ more) 260416) (Some (sync_of false 260416)) (begun_at (least_from (h ++ more) 1))
    (agrees_front h more 260416 (omega (arith, l)) ∙ d)
    ∙ ap begun_at (least_skip agrees past_end (h ++ more) 1 k some
    (λ i m n. agrees_front h more i (omega (arith, l, n, most)) ∙ none i m n)
    ∙ ap₂ least_from (sym (split_at k h more)) (sym there)
    ∙ least_from_behind (take k h) (drop k h ++ more) 0
    ∙ ap (λ n. option_map (λ i. n + i) (least_from (drop k h ++ more) 0)) long)
    ∙ begun_later k (least_from (drop k h ++ more) 0)

not_due : (s : List ℤ) → is_met s 0 ≡ true → agrees s 260416 ≡ false → given_at s 0 ≡ unless_lost 0 (least_from s 1)
not_due s m d = given_met s m ∙ cond-false (agrees s 260416) 313 (unless_lost 0 (least_from s 1)) d

-- another one is before: symbols were lost
pub step_lost : (wanted : Bool → Bool) (begins : Bool) (r : ℕ) (h more : List ℤ) → length h ≡ 261248
    → agrees h 0 ≡ true → agrees h 260416 ≡ false → least_from h 1 ≡ Some r → fields_where wanted begins (h ++ more)
    ≡ where_wanted (wanted true) (field_of 0 begins h ∷ []) ++ fields_where wanted true (drop r h ++ more)
step_lost wanted begins r h more l a d e =
    let is = least_gives agrees h 1 r e in
    let there = whole_there agrees past_end h r is.passes in
    let low : r < 260416 = before r is.passes (omega (arith, there, l)) d in
    let none = λ (i : ℕ) (m : 1 ≤ i) (n : i < r). is.before i m n in
    let least : least_from (h ++ more) 1 ≡ Some r = least_skip agrees past_end (h ++ more) 1 r (omega (arith, is.least))
    (λ i m n. agrees_front h more i (omega (arith, l, n, low)) ∙ none i m n)
    ∙ least_here agrees past_end (h ++ more) r (agrees_front h more r there ∙ is.passes) in
    step_is wanted begins true r 0 h more l a (omega (arith, is.least)) (omega (arith, low)) (omega arith)
    (searched h more r l d (omega (arith, is.least)) (omega (arith, low)) none)
    (not_due (h ++ more) (met_full h more l) (agrees_front h more 260416 (omega (arith, l)) ∙ d)
    ∙ ap (unless_lost 0) least ∙ lost r low)
  where
    before : (r : ℕ) → agrees h r ≡ true → r ≤ 260416 → agrees h 260416 ≡ false → r < 260416
    before r h m d = grind (arith, cases_lt)

    lost : (r : ℕ) → r < 260416 → unless_lost 0 (Some r) ≡ 0
    lost r m = cond-true _ 0 313 (lt-ltb r 260416 m)

-- none is up to there
pub step_kept : (wanted : Bool → Bool) (begins : Bool) (h more : List ℤ) → length h ≡ 261248
    → agrees h 0 ≡ true → agrees h 260416 ≡ false → least_from h 1 ≡ None → fields_where wanted begins (h ++ more)
    ≡ where_wanted (wanted true) (field_of 313 begins h ∷ []) ++ fields_where wanted true (drop 260417 h ++ more)
step_kept wanted begins h more l a d e =
    let none = λ (i : ℕ) (m : 1 ≤ i) (n : i < 260417). least_misses agrees past_end h 1 i e m in
    step_is wanted begins true 260417 313 h more l a (omega arith) (omega arith) (omega arith)
    (searched h more 260417 l d (omega arith) (omega arith) none)
    (not_due (h ++ more) (met_full h more l) (agrees_front h more 260416 (omega (arith, l)) ∙ d)
    ∙ ap (unless_lost 0) (least_skip agrees past_end (h ++ more) 1 260417 (omega arith)
    (λ i m n. agrees_front h more i (omega (arith, l)) ∙ none i m n)) ∙ kept (least_from (h ++ more) 260417) refl)
  where
    kept : (o : Option ℕ) → least_from (h ++ more) 260417 ≡ o → unless_lost 0 o ≡ 313
    kept None f = refl
    kept (Some r) f = grind (arith, least_gives, cond-false, le-ltb)
