-- Fields of symbols behind others.
use Rattle.std.proofs.Common.{◌≡◌, ℕ, ℤ, zero, suc, ◌+◌, ◌-◌, ◌*◌, ◌/◌, ◌<◌, ◌≤◌, Bool, true, false, cond, Option, Some}
use Rattle.std.proofs.Common.{None, option_map, List, [], ◌∷◌, ◌++◌, length, map, take, drop, filter, append_assoc}
use Rattle.std.proofs.Common.{refl, sym, ap, ap₂, ◌∙◌, arith, length-append}
use Rattle.std.proofs.Math.Seq.{drop-append-add}
use Rattle.std.proofs.lemmas.Bool.{cond-true, cond-false, cases_lt, lt-leb, lt-ltb, le-ltb}
use Rattle.dtx_lists.proofs.Range.{map-range_same}
use Rattle.dtx_acquire.specs.Agreement.{agrees, least_from}
use Rattle.dtx_acquire.proofs.AgreementLemmas.{past_end}
use Rattle.dtx_acquire.specs.Acquired.{Field, Sync, all_syncs, behind, due, field_at, fields_where, given_at}
use Rattle.dtx_acquire.specs.Acquired.{is_met, segments_from, syncs_from, unless_lost}
use Rattle.dtx_acquire.specs.Acquirer.{where_wanted}
use Rattle.dtx_acquire.proofs.PlacesLemmas.{least_gives, least_here, least_skip, whole_there}
use Rattle.dtx_acquire.proofs.SyncsLemmas.{IsEnough, agrees_behind, later_by, least_from_behind, met_behind}
use Rattle.dtx_acquire.proofs.SyncsLemmas.{sync_of, syncs_behind, syncs_enough}

-- ---- a field

segments_behind : (front v : List ℤ) (p n : ℕ) → segments_from (front ++ v) (length front + p) n ≡ segments_from v p n
unfolding segments_from
segments_behind front v p n = map-range_same (λ i. take 832 (drop (length front + p + 832 * i) (front ++ v)))
    (λ i. take 832 (drop (p + 832 * i) v)) 0 n (λ i a b. ap (take 832) (grind (arith, there, drop-append-add)))
  where
    there : (i : ℕ) → length front + p + 832 * i ≡ length front + (p + 832 * i)
    there i = omega arith

lost_behind : (k p : ℕ) (o : Option ℕ) → unless_lost (k + p) (option_map (λ i. k + i) o) ≡ unless_lost p o
lost_behind k p None = refl
lost_behind k p (Some r) = grind (arith, cases_lt, lt-ltb, le-ltb)

given_behind : (front v : List ℤ) (p : ℕ) → given_at (front ++ v) (length front + p) ≡ given_at v p
unfolding given_at
given_behind front v p =
    let there : length front + p + 260416 ≡ length front + (p + 260416) = omega arith in
    let next : length front + p + 1 ≡ length front + (p + 1) = omega arith in
    let left : length (front ++ v) - (length front + p) ≡ length v - p = omega (arith, length-append front v) in
    ap₂ (λ m g. cond m (cond g 313 (unless_lost (length front + p) (least_from (front ++ v) (length front + p + 1))))
    ((length (front ++ v) - (length front + p)) / 832))
    (met_behind front v p) (ap (agrees (front ++ v)) there ∙ agrees_behind front v (p + 260416))
    ∙ ap₂ (λ l x. cond (is_met v p) (cond (agrees v (due p)) 313 l) (x / 832))
    (grind (arith, least_from_behind, lost_behind)) left

field_behind : (front v : List ℤ) (s : Sync) → field_at (front ++ v) (later_by (length front) s) ≡ field_at v s
unfolding field_at
field_behind front v s = grind (arith, given_behind, segments_behind)

-- ---- all fields of syncs

abbrev pub fields_of : (Bool → Bool) → List ℤ → List Sync → List Field
fields_of wanted v syncs = map (field_at v) (filter (λ s. wanted (is_met v s.place)) syncs)

fields_later : (wanted : Bool → Bool) (front v : List ℤ) (syncs : List Sync)
    → fields_of wanted (front ++ v) (map (later_by (length front)) syncs) ≡ fields_of wanted v syncs
fields_later wanted front v [] = refl
fields_later wanted front v (s ∷ syncs) =
    kept (wanted (is_met v s.place)) (wanted (is_met (front ++ v) (length front + s.place)))
    (filter (λ t. wanted (is_met (front ++ v) t.place)) (map (later_by (length front)) syncs))
    (filter (λ t. wanted (is_met v t.place)) syncs) (ap wanted (met_behind front v s.place))
    (fields_later wanted front v syncs)
  where
    kept : (b c : Bool) (xs ys : List Sync) → c ≡ b → map (field_at (front ++ v)) xs ≡ map (field_at v) ys
        → map (field_at (front ++ v)) (cond c (later_by (length front) s ∷ xs) xs)
        ≡ map (field_at v) (cond b (s ∷ ys) ys)
    kept true c xs ys e f = grind (arith, cond-true, later_by, field_behind)
    kept false c xs ys e f = ap (map (field_at (front ++ v))) (cond-false c (later_by (length front) s ∷ xs) xs e) ∙ f

-- the first of some syncs
abbrev pub first_of : Bool → List ℤ → Option Sync
first_of begins v = option_map (sync_of begins) (least_from v 0)

pub enough_first : (begins : Bool) (v : List ℤ) (n : ℕ) → length v ≤ n → IsEnough v n (first_of begins v)
enough_first begins v n l s e = grind (arith, sync_of, least_gives)

later_first : (begins : Bool) (k : ℕ) (o : Option ℕ) → option_map (sync_of begins) (option_map (λ i. k + i) o)
    ≡ option_map (later_by k) (option_map (sync_of begins) o)
later_first begins k None = refl
later_first begins k (Some p) = refl

-- ---- what is in front

pub wanted_both : (b : Bool) (xs ys zs : List Field)
    → where_wanted b xs ++ (where_wanted b ys ++ zs) ≡ where_wanted b (xs ++ ys) ++ zs
wanted_both true xs ys zs = sym (append_assoc xs ys zs)
wanted_both false xs ys zs = refl

-- Where no place of a front agrees, the fields are those behind it.
pub fields_skip : (wanted : Bool → Bool) (begins : Bool) (front v : List ℤ)
    → ((p : ℕ) → p < length front → agrees (front ++ v) p ≡ false)
    → fields_where wanted begins (front ++ v) ≡ fields_where wanted begins v
unfolding fields_where all_syncs
fields_skip wanted begins front v h = ap (fields_of wanted (front ++ v))
    (ap (λ o. syncs_from (front ++ v) (length (front ++ v)) (option_map (sync_of begins) o)) least
    ∙ ap (syncs_from (front ++ v) (length (front ++ v))) (later_first begins (length front) (least_from v 0))
    ∙ syncs_behind front v (length (front ++ v)) (first_of begins v) ∙ ap (map (later_by (length front)))
    (grind (arith, syncs_enough, enough_first, length-append)))
    ∙ fields_later wanted front v (syncs_from v (length v) (first_of begins v))
  where
    least : least_from (front ++ v) 0 ≡ option_map (λ i. length front + i) (least_from v 0)
    least =
        let none : length front ≡ length front + 0 = omega arith in
        least_skip agrees past_end (front ++ v) 0 (length front) (omega arith) (λ i l m. h i m)
        ∙ ap (least_from (front ++ v)) none ∙ least_from_behind front v 0

wanted_first : (b : Bool) (x : Sync) (xs : List Sync) (v : List ℤ)
    → map (field_at v) (cond b (x ∷ xs) xs) ≡ where_wanted b (field_at v x ∷ []) ++ map (field_at v) xs
wanted_first true x xs v = refl
wanted_first false x xs v = refl

-- Where a sync is in front and the next one is behind a front, the first field is known, and the others are those of
-- what is behind.
pub fields_next : (wanted : Bool → Bool) (begins next : Bool) (front v : List ℤ) → agrees (front ++ v) 0 ≡ true
    → is_met (front ++ v) 0 ≡ true → 0 < length front
    → behind (front ++ v) 0 ≡ option_map (later_by (length front)) (first_of next v)
    → fields_where wanted begins (front ++ v)
    ≡ where_wanted (wanted true) (field_at (front ++ v) (sync_of begins 0) ∷ []) ++ fields_where wanted next v
unfolding fields_where all_syncs syncs_from
fields_next wanted begins next front v h met some e = ap (fields_of wanted (front ++ v))
    (ap (λ o. syncs_from (front ++ v) (length (front ++ v)) (option_map (sync_of begins) o))
    (least_here agrees past_end (front ++ v) 0 h) ∙ all_from (length (front ++ v)) (length-append front v))
    ∙ grind (arith, wanted_first, sync_of, later_by, fields_later)
  where
    all_from : (n : ℕ) → n ≡ length front + length v → syncs_from (front ++ v) n (Some (sync_of begins 0))
        ≡ sync_of begins 0 ∷ map (later_by (length front)) (syncs_from v (length v) (first_of next v))
    all_from zero l = absurd (omega arith)
    all_from (suc n) l = ap (λ xs. sync_of begins 0 ∷ xs)
        (ap (syncs_from (front ++ v) n) e ∙ syncs_behind front v n (first_of next v)
        ∙ ap (map (later_by (length front)))
        (syncs_enough v n (length v) (first_of next v) (enough_first next v n (omega arith))
        (enough_first next v (length v) (omega arith))))

-- ---- the end

pub unmet : (v : List ℤ) (p : ℕ) → length v < 261248 → is_met v p ≡ false
unfolding is_met
unmet v p l = lt-leb (p + 260416 + 832) (length v) (omega arith)

-- of few symbols nothing is known whatever follows
pub fields_short : (begins : Bool) (v : List ℤ) → length v < 261248 → fields_where (λ met. met) begins v ≡ []
unfolding fields_where
fields_short begins v l = none (all_syncs begins v)
  where
    none : (xs : List Sync) → fields_of (λ met. met) v xs ≡ []
    none [] = refl
    none (s ∷ xs) = ap (map (field_at v)) (grind (arith, cond-false, unmet)) ∙ none xs

no_syncs : (v : List ℤ) (n : ℕ) → syncs_from v n None ≡ []
unfolding syncs_from
no_syncs v zero = refl
no_syncs v (suc n) = refl

pub fields_none : (wanted : Bool → Bool) (begins : Bool) (v : List ℤ) → least_from v 0 ≡ None
    → fields_where wanted begins v ≡ []
unfolding fields_where all_syncs
fields_none wanted begins v e = grind (arith, sync_of, no_syncs)

-- the last field
pub fields_last : (wanted : Bool → Bool) (begins : Bool) (v : List ℤ) → length v < 261248 → agrees v 0 ≡ true
    → fields_where wanted begins v
    ≡ where_wanted (wanted false) (record { begins = begins; segments = segments_from v 0 (length v / 832) } ∷ [])
unfolding fields_where all_syncs syncs_from behind field_at given_at
fields_last wanted begins v l h =
    let there = whole_there agrees past_end v 0 h in
    ap (fields_of wanted v)
    (ap (λ o. syncs_from v (length v) (option_map (sync_of begins) o)) (least_here agrees past_end v 0 h)
    ∙ one_from (length v) (omega arith)) ∙ wanted_first (wanted (is_met v 0)) (sync_of begins 0) [] v
    ∙ last_wanted (wanted (is_met v 0)) (wanted false) (ap wanted (unmet v 0 l))
  where
    one_from : (n : ℕ) → 0 < n → syncs_from v n (Some (sync_of begins 0)) ≡ sync_of begins 0 ∷ []
    one_from zero l = absurd (omega arith)
    one_from (suc n) m =
        ap (λ xs. sync_of begins 0 ∷ xs) (ap (syncs_from v n) (cond-false (is_met v 0) _ None (unmet v 0 l))
        ∙ no_syncs v n)

    field : field_at v (sync_of begins 0) ≡ record { begins = begins; segments = segments_from v 0 (length v / 832) }
    field = grind (arith, cond-false, unmet)

    last_wanted : (b c : Bool) → b ≡ c → where_wanted b (field_at v (sync_of begins 0) ∷ []) ++ []
        ≡ where_wanted c (record { begins = begins; segments = segments_from v 0 (length v / 832) } ∷ [])
    last_wanted b true e = ap (λ x. where_wanted x (field_at v (sync_of begins 0) ∷ []) ++ []) e
        ∙ ap (λ x. x ∷ []) field
    last_wanted b false e = ap (λ x. where_wanted x (field_at v (sync_of begins 0) ∷ []) ++ []) e
