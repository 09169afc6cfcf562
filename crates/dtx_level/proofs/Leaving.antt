-- What a leveller holds, step by step.
use Rattle.std.proofs.Common.{◌≡◌, ℕ, ℤ, pos, ◌+◌, ◌-◌, ◌<◌, ◌≤◌, refl, ap, ◌∙◌, arith, List, map, length, sym, subst}
use Rattle.std.proofs.Common.{Bool, [], ◌∷◌, ◌++◌, true, false, option_map, cond, take, drop, ap₂, length-append}
use Rattle.std.proofs.Common.{Option, Some, None, append_assoc, replicate}
use Rattle.std.proofs.lemmas.Bool.{le-leb, cond-true, cond-false, true≢false}
use Rattle.std.proofs.lemmas.List.{length-map, length-take-le, take-append-drop, length-drop, map-append}
use Rattle.dtx_acquire.proofs.PlacesLemmas.{whole_there, least_gives, least_here, least_skip, least_misses}
use Rattle.dtx_acquire.specs.Acquired.{is_met}
use Rattle.dtx_level.proofs.MeasuresBehind.{measures_skip, by_front, measure_front, measures_next}
use Rattle.dtx_level.proofs.Shows.{shows_dropped, least_shown_behind, shows_front}
use Rattle.dtx_level.proofs.Steps.{step_is}
use Rattle.dtx_level.proofs.StretchesBehind.{levelled_skip, levelled_next}
use Rattle.dtx_level.proofs.SyncsBehind.{all_next}
use Rattle.dtx_level.proofs.Tallies.{tally_after}
use Rattle.dtx_level.specs.Levelled.{By, by_sync, level, levelled_behind}
use Rattle.dtx_level.specs.Leveller.{Holding, where_wanted, IsTally, slip_after, Leaves, places_of, are_some, cleared}
use Rattle.dtx_level.specs.Leveller.{fed, step_at, step_to, stretched}
use Rattle.dtx_level.specs.Measures.{later_by, measure_at, measures_where}
use Rattle.dtx_level.specs.Shown.{least_shown, shows}
use Rattle.dtx_level.proofs.Shows.{past_end}
use Rattle.dtx_level.specs.Syncs.{behind}
use Rattle.dtx_level.specs.declared.measure.Measure.{Measure}

-- ---- lists

split_at : (k : ℕ) (h more : List ℤ) → take k h ++ (drop k h ++ more) ≡ h ++ more
split_at k h more = sym (append_assoc (take k h) (drop k h) more) ∙ ap (λ xs. xs ++ more) (take-append-drop k h)

later_twice : (a b : ℕ) (xs : List Measure) → map (later_by a) (map (later_by b) xs) ≡ map (later_by (a + b)) xs
later_twice a b [] = refl
later_twice a b (x ∷ xs) = ap₂ ◌∷◌ (grind arith) (later_twice a b xs)

wanted_both : (b : Bool) (xs ys zs : List Measure)
    → where_wanted b xs ++ (where_wanted b ys ++ zs) ≡ where_wanted b (xs ++ ys) ++ zs
wanted_both true xs ys zs = sym (append_assoc xs ys zs)
wanted_both false xs ys zs = refl

wanted_later : (b : Bool) (k : ℕ) (x : Measure)
    → map (later_by k) (where_wanted b (x ∷ [])) ≡ where_wanted b (later_by k x ∷ [])
wanted_later true k x = refl
wanted_later false k x = refl

pub some_more : (xs : List Measure) (x : Measure) → are_some (xs ++ x ∷ []) ≡ true
some_more [] x = refl
some_more (y ∷ xs) x = refl

-- ---- more symbols

pub leaves_fed : (h : Holding) (symbols more done : List ℤ) (told : List Measure) → Leaves h symbols done told
    → Leaves (fed (cleared h) more) (symbols ++ more) done told
leaves_fed h symbols more done told l = record {
  measures = λ wanted rest. simp append_assoc (l.measures wanted (more ++ rest));
  levelled = λ rest. simp append_assoc (l.levelled (more ++ rest));
  symbols_are = ap (λ n. n + length more) l.symbols_are ∙ sym (length-append symbols more);
  long = omega (arith, length-append h.held more, length-append symbols more, l.long);
  begun_is = l.begun_is;
  tally = l.tally;
  silence = l.silence;
}

-- ---- symbols at which none begins

-- No place of the first `count` symbols shows a sync, and a segment stands at each.
pub record IsSought (symbols : List ℤ) (count : ℕ) : Type 0 where
  pub within : count ≤ length symbols
  pub none : (place : ℕ) → place < count → (place + 832 ≤ length symbols) × (shows symbols place ≡ false)

sought_none : (h more : List ℤ) (count : ℕ) → IsSought h count
    → (p : ℕ) → p < length (take count h) → shows (take count h ++ (drop count h ++ more)) p ≡ false
sought_none h more count s p l = grind (arith, length-take-le, split_at, shows_front)

measures_sought : (h more : List ℤ) (count : ℕ) → IsSought h count → (wanted : Bool → Bool)
    → measures_where wanted (h ++ more) ≡ map (later_by count) (measures_where wanted (drop count h ++ more))
measures_sought h more count s wanted = ap (measures_where wanted) (sym (split_at count h more))
    ∙ measures_skip wanted (take count h) (drop count h ++ more) (sought_none h more count s)
    ∙ ap (λ n. map (later_by n) (measures_where wanted (drop count h ++ more))) (length-take-le count h s.within)

-- how long it is then
length_more : (done : List ℤ) (f : ℤ → ℤ) (count : ℕ) (h : List ℤ) → count ≤ length h
    → length (done ++ map f (take count h)) ≡ length done + count
length_more done f count h l = grind (arith, length-append, length-map, length-take-le)

pub leaves_sought : (h : Holding) (count : ℕ) (on : Bool) (silent zeros : ℕ) (given symbols done : List ℤ)
    (told : List Measure) → Leaves h symbols done told → IsSought h.held count
    → (on ≡ false → h.by.begun ≡ false → done ++ map (level h.by) (take count h.held) ≡ replicate silent (pos 0))
    → Leaves (record h { held = drop count h.held; on = on; silent = silent; zeros = zeros; given = given }) symbols
    (done ++ map (level h.by) (take count h.held)) told
leaves_sought h count on silent zeros given symbols done told l s silence =
    let far = length_more done (level h.by) count h.held s.within in
    record {
      measures = λ wanted more.
          l.measures wanted more ∙ ap (λ xs. where_wanted (wanted true) told ++ xs)
          (ap (map (later_by (length done))) (measures_sought h.held more count s wanted)
          ∙ later_twice (length done) count (measures_where wanted (drop count h.held ++ more))
          ∙ ap (λ n. map (later_by n) (measures_where wanted (drop count h.held ++ more))) (sym far));
      levelled = λ more.
          l.levelled more ∙ ap (λ xs. done ++ xs) (grind (arith, split_at, levelled_skip, sought_none))
          ∙ sym (append_assoc done _ (levelled_behind h.by (drop count h.held ++ more)));
      symbols_are = l.symbols_are;
      long = omega (arith, far, length-drop count h.held, s.within, l.long);
      begun_is = l.begun_is;
      tally = l.tally;
      silence = silence;
    }

-- ---- a sync in front

-- The next sync behind the one in front, whatever follows. It is at the least place that shows one once the first
-- `count` symbols are dropped.
abbrev pub IsNext : ℕ → List ℤ → Type 0
IsNext count symbols = (more : List ℤ)
    → behind (symbols ++ more) 0 ≡ option_map (λ i. count + i) (least_shown (drop count symbols ++ more) 0)

met_full : (h more : List ℤ) → length h ≡ 261248 → is_met (h ++ more) 0 ≡ true
unfolding is_met
met_full h more l = le-leb 261248 (length (h ++ more)) (omega (arith, length-append h more))

next_split : (count : ℕ) (h more : List ℤ) → count ≤ length h → IsNext count h
    → behind (take count h ++ (drop count h ++ more)) 0
    ≡ option_map (λ i. length (take count h) + i) (least_shown (drop count h ++ more) 0)
next_split count h more l next = grind (arith, split_at, length-take-le)

shows_split : (count : ℕ) (h more : List ℤ) → shows h 0 ≡ true → shows (take count h ++ (drop count h ++ more)) 0 ≡ true
shows_split count h more s = rw (split_at count h more, shows_front h more 0 (whole_there shows past_end h 0 s), s)

measures_settled : (h more : List ℤ) (count : ℕ) → length h ≡ 261248 → shows h 0 ≡ true → 0 < count
    → count ≤ length h → IsNext count h → (wanted : Bool → Bool) → measures_where wanted (h ++ more)
    ≡ where_wanted (wanted true) (measure_at h 0 ∷ [])
    ++ map (later_by count) (measures_where wanted (drop count h ++ more))
measures_settled h more count full s some l next wanted =
    let long = length-take-le count h l in
    ap (measures_where wanted) (sym (split_at count h more))
    ∙ measures_next wanted (take count h) (drop count h ++ more) (shows_split count h more s)
    (ap (λ (xs : List ℤ). is_met xs 0) (split_at count h more) ∙ met_full h more full)
    (omega (arith, long)) (next_split count h more l next) ∙ ap₂ (λ (x : Measure) n. where_wanted (wanted true) (x ∷ [])
    ++ map (later_by n) (measures_where wanted (drop count h ++ more)))
    (grind (arith, split_at, measure_front, whole_there)) long

levelled_settled : (by : By) (h more : List ℤ) (count : ℕ) → shows h 0 ≡ true → 0 < count → count ≤ length h
    → IsNext count h → levelled_behind by (h ++ more)
    ≡ map (level (by_sync h 0)) (take count h) ++ levelled_behind (by_sync h 0) (drop count h ++ more)
levelled_settled by h more count s some l next =
    let long = length-take-le count h l in
    let there = whole_there shows past_end h 0 s in
    ap (levelled_behind by) (sym (split_at count h more)) ∙ levelled_next by (take count h) (drop count h ++ more)
    (grind (arith, all_next, shows_split, next_split))
    ∙ ap (λ (x : By). map (level x) (take count h) ++ levelled_behind x (drop count h ++ more))
    (ap (λ (xs : List ℤ). by_sync xs 0) (split_at count h more) ∙ by_front h more 0 (omega (arith, there)))

-- ---- where the next sync is

behind_full : (h more : List ℤ) → length h ≡ 261248
    → behind (h ++ more) 0 ≡ cond (shows (h ++ more) 260416) (Some 260416) (least_shown (h ++ more) 832)
unfolding behind
behind_full h more l = grind (arith, cond-true, met_full)

-- where it is due
next_due : (h : List ℤ) → length h ≡ 261248 → shows h 260416 ≡ true → IsNext 260416 h
next_due h l d more = behind_full h more l
    ∙ cond-true (shows (h ++ more) 260416) (Some 260416) (least_shown (h ++ more) 832) (grind (arith, shows_front))
    ∙ ap (option_map (λ i. 260416 + i)) (sym (least_here shows past_end (drop 260416 h ++ more) 0
    (shows_front (drop 260416 h) more 0 (omega (arith, length-drop 260416 h, l))
    ∙ shows_dropped h 260416 0 (omega (arith, l)) ∙ d)))

-- none is there, nor behind the segment of the one in front before place k
searched : (h : List ℤ) (k : ℕ) → length h ≡ 261248 → shows h 260416 ≡ false → 832 ≤ k → k ≤ 260417
    → ((i : ℕ) → 832 ≤ i → i < k → shows h i ≡ false) → IsNext k h
searched h k l d some most none more =
    let long : length (take k h) ≡ k = length-take-le k h (omega (arith, l)) in
    let there : length (take k h) + 0 ≡ k = omega (arith, long) in
    behind_full h more l
    ∙ cond-false (shows (h ++ more) 260416) (Some 260416) (least_shown (h ++ more) 832)
    (shows_front h more 260416 (omega (arith, l)) ∙ d)
    ∙ least_skip shows past_end (h ++ more) 832 k some
    (λ i m n. shows_front h more i (omega (arith, l, n, most)) ∙ none i m n)
    ∙ ap₂ least_shown (sym (split_at k h more)) (sym there)
    ∙ least_shown_behind (take k h) (drop k h ++ more) 0
    ∙ ap (λ n. option_map (λ i. n + i) (least_shown (drop k h ++ more) 0)) long

-- behind the symbols of the step
next_is : (h : List ℤ) → length h ≡ 261248 → IsNext (step_at h).count h
unfolding step_at
next_is h full = by_due (shows h 260416) refl
  where
    by_least : shows h 260416 ≡ false → (o : Option ℕ) → least_shown h 832 ≡ o → IsNext (step_to o).count h
    by_least d None e =
        searched h 260417 full d (omega arith) (omega arith) (λ i m n. least_misses shows past_end h 832 i e m)
    by_least d (Some k) e = grind (arith, least_gives, whole_there, past_end, searched)

    by_due : (d : Bool) → shows h 260416 ≡ d
        → IsNext (cond d (step_to (Some 260416)) (step_to (least_shown h 832))).count h
    by_due true d = next_due h full d
    by_due false d = by_least d (least_shown h 832) refl

-- ---- the sync in front is settled

pub leaves_settled : (h : Holding) (symbols done : List ℤ) (told : List Measure) → Leaves h symbols done told
    → length h.held ≡ 261248 → shows h.held 0 ≡ true → Leaves (stretched h (step_at h.held)) symbols
    (done ++ map (level (by_sync h.held 0)) (take (step_at h.held).count h.held))
    (told ++ later_by (h.symbols - length h.held) (measure_at h.held 0) ∷ [])
unfolding measure_at
leaves_settled h symbols done told l full s =
    let count : ℕ = (step_at h.held).count in
    let is = step_is h.held full in
    let some : 0 < count = omega (arith, is.some) in
    let next = next_is h.held full in
    let far = length_more done (level (by_sync h.held 0)) count h.held is.most in
    let place : h.symbols - length h.held ≡ length done = omega (arith, l.symbols_are, l.long) in
    let none : h.symbols - length h.held + 0 ≡ h.symbols - length h.held = omega arith in
    record {
      measures = λ wanted more.
          l.measures wanted more
          ∙ ap (λ xs. where_wanted (wanted true) told ++ xs)
          (ap (map (later_by (length done))) (measures_settled h.held more count full s some is.most next wanted)
          ∙ map-append (later_by (length done)) (where_wanted (wanted true) (measure_at h.held 0 ∷ []))
          (map (later_by count) (measures_where wanted (drop count h.held ++ more)))
          ∙ ap₂ ◌++◌ (wanted_later (wanted true) (length done) (measure_at h.held 0)
          ∙ ap (λ n. where_wanted (wanted true) (later_by n (measure_at h.held 0) ∷ [])) (sym place))
          (later_twice (length done) count (measures_where wanted (drop count h.held ++ more))
          ∙ ap (λ n. map (later_by n) (measures_where wanted (drop count h.held ++ more))) (sym far)))
          ∙ wanted_both (wanted true) told (later_by (h.symbols - length h.held) (measure_at h.held 0) ∷ []) _;
      levelled = λ more.
          l.levelled more ∙ ap (λ xs. done ++ xs) (levelled_settled h.by h.held more count s some is.most next)
          ∙ sym (append_assoc done _ (levelled_behind (by_sync h.held 0) (drop count h.held ++ more)));
      symbols_are = l.symbols_are;
      long = omega (arith, far, length-drop count h.held, is.most, l.long);
      begun_is = sym (some_more told (later_by (h.symbols - length h.held) (measure_at h.held 0)));
      tally = subst (IsTally (h.syncs + 1) (h.slips + slip_after h.syncs h.last (h.symbols - length h.held))
          (h.symbols - length h.held)) (sym (map-append (λ (x : Measure). x.place) told
          (later_by (h.symbols - length h.held) (measure_at h.held 0) ∷ [])
          ∙ ap (λ n. places_of told ++ n ∷ []) none))
          (tally_after h.syncs h.slips h.last (h.symbols - length h.held) (places_of told) l.tally);
      silence = λ e f. absurd (true≢false f);
    }
