-- What all symbols give that a leveller stands for.
use Rattle.std.proofs.Common.{◌≡◌, ℕ, ℤ, pos, ◌+◌, ◌-◌, ◌<◌, refl, ap, ◌∙◌, arith, List, map, length, sym, subst, Bool}
use Rattle.std.proofs.Common.{[], ◌∷◌, ◌++◌, true, false, ◌||◌, cond, ap₂, Some, None, filter, not, replicate}
use Rattle.std.proofs.Math.Seq.{drop-append-add, take-append-add}
use Rattle.std.proofs.lemmas.Bool.{cond-true, cond-false, lt-leb, true≢false, false≢true}
use Rattle.std.proofs.lemmas.List.{append-nil, map-append, take_all}
use Rattle.dtx_acquire.proofs.PlacesLemmas.{least_none}
use Rattle.dtx_acquire.specs.Acquired.{is_met}
use Rattle.dtx_level.proofs.MeasuresBehind.{measures_none, measures_last}
use Rattle.dtx_level.proofs.Steps.{by_closed}
use Rattle.dtx_level.proofs.StretchesBehind.{levelled_alone, levelled_last}
use Rattle.dtx_level.proofs.SyncsBehind.{unmet, all_last}
use Rattle.dtx_level.proofs.Tallies.{last_more, last_some, met_last, tally_after}
use Rattle.dtx_level.specs.Levelled.{levelled_so_far, nothing, By, level, last_behind, known, levelled, levelled_behind}
use Rattle.dtx_level.specs.Levelled.{levelled_rest, stretches}
use Rattle.dtx_level.specs.Leveller.{Holding, StandsFor, all_given, as_list, where_wanted, IsTally, slip_after}
use Rattle.dtx_level.specs.Leveller.{Leaves, places_of, shown, are_some, closed, cleared, stretched}
use Rattle.dtx_level.specs.Measures.{later_by, measure_at, measures_rest, measures_where}
use Rattle.dtx_level.proofs.Shows.{past_end}
use Rattle.dtx_level.specs.Syncs.{all_syncs, slips_behind, syncs_where, slips, syncs_from}
use Rattle.dtx_level.specs.declared.measure.Measure.{Measure}

-- ---- the places of syncs

places_measured : (v : List ℤ) (places : List ℕ) → places_of (map (measure_at v) places) ≡ places
unfolding measure_at
places_measured v [] = refl
places_measured v (p ∷ places) = ap (λ xs. p ∷ xs) (places_measured v places)

places_where : (wanted : Bool → Bool) (v : List ℤ) → places_of (measures_where wanted v) ≡ syncs_where wanted v
unfolding measures_where
places_where wanted v = places_measured v (syncs_where wanted v)

pub all_wanted : (f : ℕ → Bool) (places : List ℕ) → filter (λ p. true) places ≡ places
all_wanted f [] = refl
all_wanted f (p ∷ places) = ap (λ xs. p ∷ xs) (all_wanted f places)

places_all : (v : List ℤ) → places_of (measures_where (λ met. true) v) ≡ all_syncs v
unfolding syncs_where
places_all v = places_where (λ met. true) v ∙ all_wanted (λ p. true) (all_syncs v)

places_later : (k : ℕ) (told : List Measure) → places_of (map (later_by k) told) ≡ map (λ i. k + i) (places_of told)
places_later k [] = refl
places_later k (x ∷ told) = ap (λ xs. (k + x.place) ∷ xs) (places_later k told)

open_none : (v : List ℤ) → syncs_where not v ≡ [] → filter (λ p. not (is_met v p)) (all_syncs v) ≡ []
unfolding syncs_where
open_none v e = e

-- what the symbols give, with nothing behind them
pub measures_now : (holding : Holding) (symbols done : List ℤ) (told : List Measure) → Leaves holding symbols done told
    → (wanted : Bool → Bool) → measures_where wanted symbols
    ≡ where_wanted (wanted true) told ++ map (later_by (length done)) (measures_where wanted holding.held)
measures_now holding symbols done told h wanted =
    rw (← append-nil symbols, h.measures wanted [], append-nil holding.held)

levelled_now : (holding : Holding) (symbols done : List ℤ) (told : List Measure) → Leaves holding symbols done told
    → levelled_behind nothing symbols ≡ done ++ levelled_behind holding.by holding.held
levelled_now holding symbols done told h = rw (← append-nil symbols, h.levelled [], append-nil holding.held)

syncs_now : (holding : Holding) (symbols done : List ℤ) (told : List Measure) → Leaves holding symbols done told
    → all_syncs symbols ≡ places_of told ++ map (λ i. length done + i) (all_syncs holding.held)
syncs_now holding symbols done told h =
    sym (places_all symbols) ∙ ap places_of (measures_now holding symbols done told h (λ met. true))
    ∙ map-append (λ (x : Measure). x.place) told
    (map (later_by (length done)) (measures_where (λ met. true) holding.held))
    ∙ ap (λ xs. places_of told ++ xs) (grind (arith, places_later, places_all))

pub few_none : (v : List ℤ) → length v < 832 → all_syncs v ≡ []
unfolding all_syncs syncs_from
few_none v l = grind (arith, least_none, past_end)

-- ---- what is known

-- where some are known, and of how many symbols
known_some : (symbols done rest : List ℤ) → levelled_behind nothing symbols ≡ done ++ rest → known symbols ≡ length done
    → (xs : List ℕ) (x : ℕ) → all_syncs symbols ≡ x ∷ xs
    → (levelled_so_far symbols ≡ done) × (levelled_rest symbols ≡ rest)
unfolding levelled_so_far levelled_rest levelled
known_some symbols done rest e k xs x s =
    let none : length done ≡ length done + 0 = omega arith in
    (grind (arith, take-append-add, append-nil, drop-append-add))

pub known_none : (symbols : List ℤ) → all_syncs symbols ≡ []
    → (levelled_so_far symbols ≡ []) × (levelled_rest symbols ≡ [])
unfolding levelled_so_far levelled_rest levelled known
known_none symbols e = grind arith

known_at : (symbols : List ℤ) (places : List ℕ) (p : ℕ) → all_syncs symbols ≡ places ++ p ∷ []
    → is_met symbols p ≡ false → known symbols ≡ p
unfolding known
known_at symbols places p e m = grind (arith, last_more, cond-false)

known_past : (symbols : List ℤ) (places : List ℕ) (x q : ℕ) → all_syncs symbols ≡ x ∷ places
    → last_behind (Some x) places ≡ Some q → is_met symbols q ≡ true → known symbols ≡ length symbols - 831
unfolding known
known_past symbols places x q e l m = grind (arith, cond-true)

not_met : (symbols : List ℤ) (k n p : ℕ) → k + n ≡ length symbols → n < 261248 → p ≡ k + 0 → is_met symbols p ≡ false
unfolding is_met
not_met symbols k n p e l f = lt-leb (p + 260416 + 832) (length symbols) (omega arith)

-- ---- what is given of symbols that it stands for

pub record IsKnown (holding : Holding) (symbols done : List ℤ) : Type 0 where
  pub so_far : levelled_so_far symbols ≡ shown holding done
  pub rest : levelled_rest symbols ≡ shown holding (levelled_behind holding.by holding.held)

known_by : (holding : Holding) (symbols : List ℤ) (h : StandsFor holding symbols) (on begun : Bool)
    → holding.on ≡ on → holding.by.begun ≡ begun → (levelled_so_far symbols ≡ cond (on || begun) h.done [])
    × (levelled_rest symbols ≡ cond (on || begun) (levelled_behind holding.by holding.held) [])
known_by holding symbols h true begun e f =
    let one : all_syncs symbols ≡ places_of h.told ++ (length h.done + 0) ∷ [] =
    rw (syncs_now holding symbols h.done h.told h.leaves, all_last holding.held h.few (h.front e)) in
    let k : known symbols ≡ length h.done + 0 = known_at symbols (places_of h.told) (length h.done + 0) one
    (not_met symbols (length h.done) (length holding.held) (length h.done + 0) h.leaves.long h.few refl) in
    by_places (places_of h.told) one (k ∙ zero_more (length h.done))
  where
    zero_more : (n : ℕ) → n + 0 ≡ n
    zero_more n = omega arith

    by_places : (places : List ℕ) → all_syncs symbols ≡ places ++ (length h.done + 0) ∷ []
        → known symbols ≡ length h.done
        → (levelled_so_far symbols ≡ h.done) × (levelled_rest symbols ≡ levelled_behind holding.by holding.held)
    by_places [] s k = known_some symbols h.done (levelled_behind holding.by holding.held)
        (levelled_now holding symbols h.done h.told h.leaves) k [] (length h.done + 0) s
    by_places (x ∷ places) s k = known_some symbols h.done (levelled_behind holding.by holding.held)
        (levelled_now holding symbols h.done h.told h.leaves) k (places ++ (length h.done + 0) ∷ []) x s
known_by holding symbols h false true e f =
    by_told h.told (sym h.leaves.begun_is ∙ f) (syncs_now holding symbols h.done h.told h.leaves
    ∙ ap (λ xs. places_of h.told ++ map (λ i. length h.done + i) xs) (few_none holding.held (h.off e))
    ∙ append-nil (places_of h.told))
  where
    none_open : syncs_where not symbols ≡ []
    none_open = sym (places_where not symbols) ∙ ap places_of (measures_now holding symbols h.done h.told h.leaves not
        ∙ ap (map (later_by (length h.done))) (measures_none not holding.held (few_none holding.held (h.off e))))

    by_told : (told : List Measure) → are_some told ≡ true → all_syncs symbols ≡ places_of told
        → (levelled_so_far symbols ≡ h.done) × (levelled_rest symbols ≡ levelled_behind holding.by holding.held)
    by_told [] a s = absurd (false≢true a)
    by_told (x ∷ told) a s =
        let last = last_some x.place (places_of told) in
        let met : is_met symbols last.0 ≡ true = met_last (is_met symbols) last.0 (places_of told) x.place
        (sym (ap (filter (λ p. not (is_met symbols p))) s) ∙ open_none symbols none_open) last.1 in
        known_some symbols h.done (levelled_behind holding.by holding.held)
        (levelled_now holding symbols h.done h.told h.leaves) (grind (arith, known_past)) (places_of told) x.place s
known_by holding symbols h false false e f =
    by_told h.told (sym h.leaves.begun_is ∙ f) (syncs_now holding symbols h.done h.told h.leaves
    ∙ ap (λ xs. places_of h.told ++ map (λ i. length h.done + i) xs) (few_none holding.held (h.off e))
    ∙ append-nil (places_of h.told))
  where
    by_told : (told : List Measure) → are_some told ≡ false → all_syncs symbols ≡ places_of told
        → (levelled_so_far symbols ≡ []) × (levelled_rest symbols ≡ [])
    by_told [] a s = known_none symbols s
    by_told (x ∷ told) a s = absurd (false≢true (sym a))

pub known_are : (holding : Holding) (symbols : List ℤ) (h : StandsFor holding symbols) → IsKnown holding symbols h.done
known_are holding symbols h =
    let is = known_by holding symbols h holding.on holding.by.begun refl refl in
    record { so_far = is.0; rest = is.1 }

-- the syncs that were measured
pub measures_short : (v : List ℤ) → length v < 261248 → measures_where (λ met. met) v ≡ []
unfolding measures_where syncs_where
measures_short v l = none (all_syncs v)
  where
    none : (xs : List ℕ) → map (measure_at v) (filter (λ p. is_met v p) xs) ≡ []
    none [] = refl
    none (p ∷ xs) = ap (map (measure_at v)) (grind (arith, cond-false, unmet)) ∙ none xs

pub measures_known : (holding : Holding) (symbols : List ℤ) (h : StandsFor holding symbols)
    → measures_where (λ met. met) symbols ≡ h.told
measures_known holding symbols h = measures_now holding symbols h.done h.told h.leaves (λ met. met)
    ∙ ap (λ xs. h.told ++ map (later_by (length h.done)) xs) (measures_short holding.held h.few)
    ∙ append-nil h.told

-- ---- the end

-- What the end of these symbols brings, and the numbers of all their syncs.
pub record IsEnded (new : Holding) (symbols : List ℤ) : Type 0 where
  pub given : all_given new ≡ levelled_rest symbols
  pub measured : as_list new.measured ≡ measures_rest symbols
  pub syncs_are : new.syncs ≡ length (all_syncs symbols)
  pub slips_are : new.slips ≡ slips (all_syncs symbols)

-- what a value stands for, with what its held symbols bring at their end
ended_by : (h new : Holding) (symbols : List ℤ) → StandsFor h symbols
    → all_given new ≡ shown h (levelled_behind h.by h.held)
    → as_list new.measured ≡ map (later_by (h.symbols - length h.held)) (measures_rest h.held)
    → ((places : List ℕ) → IsTally h.syncs h.slips h.last places → IsTally new.syncs new.slips new.last
    (places ++ map (λ i. (h.symbols - length h.held) + i) (all_syncs h.held))) → IsEnded new symbols
ended_by h new symbols s given measured tally =
    let place : h.symbols - length h.held ≡ length s.done = omega (arith, s.leaves.symbols_are, s.leaves.long) in
    let all = syncs_now h symbols s.done s.told s.leaves
    ∙ ap (λ k. places_of s.told ++ map (λ i. k + i) (all_syncs h.held)) (sym place) in
    let t = tally (places_of s.told) s.leaves.tally in
    record {
      given = given ∙ sym (known_are h symbols s).rest;
      measured = measured ∙ ap (λ k. map (later_by k) (measures_rest h.held)) place
          ∙ sym (measures_now h symbols s.done s.told s.leaves not);
      syncs_are = t.syncs_are ∙ ap length (sym all);
      slips_are = t.slips_are ∙ ap slips (sym all);
    }

pub ended : (h : Holding) (symbols : List ℤ) → StandsFor h symbols → IsEnded (closed (cleared h)) symbols
ended h symbols s = by_closed (λ new. IsEnded new symbols) (cleared h) on (λ e f. off e _ _
    (grind (arith, take_all, cond-true))) (λ e f. off e _ _ (sym (cond-false h.by.begun _ [] f)))
  where
    k : ℕ
    k = h.symbols - length h.held

    -- a sync is in front
    on : h.on ≡ true → IsEnded (stretched (cleared h) (record { count = length h.held; on = false })) symbols
    on e =
        let one = all_last h.held s.few (s.front e) in
        let same : k + 0 ≡ k = omega arith in
        ended_by h _ symbols s (grind (arith, take_all, levelled_last))
        (ap (map (later_by k)) (sym (measures_last not h.held s.few (s.front e))))
        (λ places t. subst (λ (xs : List ℕ). IsTally (h.syncs + 1) (h.slips + slip_after h.syncs h.last k) k
        (places ++ xs)) (ap (λ p. p ∷ []) (sym same) ∙ ap (map (λ i. k + i)) (sym one))
        (tally_after h.syncs h.slips h.last k places t))

    -- none is
    off : h.on ≡ false → (held given : List ℤ) → given ≡ cond h.by.begun (map (level h.by) h.held) []
        → IsEnded (record h { held = held; given = given; zeros = 0; measured = None }) symbols
    off e held given g =
        let open_none = few_none h.held (s.off e) in
        ended_by h _ symbols s (g ∙ ap (λ xs. cond h.by.begun xs []) (sym (levelled_alone h.by h.held open_none))
        ∙ sym (ap (λ b. cond (b || h.by.begun) (levelled_behind h.by h.held) []) e))
        (ap (map (later_by k)) (sym (measures_none not h.held open_none)))
        (λ places t. subst (IsTally h.syncs h.slips h.last)
        (sym (append-nil places) ∙ ap (λ xs. places ++ map (λ i. k + i) xs) (sym open_none)) t)

-- by nothing all become 0
same_level : (by : By) (xs : List ℤ) → by.begun ≡ false → map (level nothing) xs ≡ map (level by) xs
same_level by [] e = refl
same_level by (x ∷ xs) e = ap₂ ◌∷◌ (sym (grind arith)) (same_level by xs e)

same_stretches : (v : List ℤ) (places : List ℕ) (by : By) → by.begun ≡ false
    → stretches nothing v 0 places ≡ stretches by v 0 places
unfolding stretches
same_stretches v [] by e = same_level by v e
same_stretches v (p ∷ places) by e = grind (arith, same_level)

first_by : (more : List ℤ) (by : By) → by.begun ≡ false → levelled_behind nothing more ≡ levelled_behind by more
unfolding levelled_behind
first_by more by e = same_stretches more (all_syncs more) by e

-- nothing was given
pub stands_first : (new : Holding) → new.held ≡ [] → new.on ≡ false → new.by.begun ≡ false → new.silent ≡ 0
    → new.symbols ≡ 0 → new.syncs ≡ 0 → new.slips ≡ 0 → StandsFor new []
unfolding slips_behind
stands_first new held off none silent symbols syncs slips = record {
  few = subst (λ (xs : List ℤ). length xs < 261248) (sym held) (omega arith);
  off = λ e. subst (λ (xs : List ℤ). length xs < 832) (sym held) (omega arith);
  rest = λ e b. absurd (true≢false (sym b ∙ none));
  front = λ e. absurd (true≢false (sym e ∙ off));
  done = [];
  told = [];
  leaves = record {
    measures = λ wanted more.
        ap (measures_where wanted) (sym (ap (λ xs. xs ++ more) held))
        ∙ sym (later_none (measures_where wanted (new.held ++ more)))
        ∙ empty (wanted true) (map (later_by 0) (measures_where wanted (new.held ++ more)));
    levelled = λ more. first_by more new.by none ∙ ap (λ (xs : List ℤ). levelled_behind new.by (xs ++ more)) (sym held);
    symbols_are = symbols;
    long = omega (arith, ap length held);
    begun_is = none;
    tally = record { syncs_are = syncs; slips_are = slips; last_is = tt };
    silence = λ e f. ap (λ n. replicate n (pos 0)) (sym silent);
  };
}
  where
    later_none : (xs : List Measure) → map (later_by 0) xs ≡ xs
    later_none [] = refl
    later_none (x ∷ xs) = ap₂ ◌∷◌ (grind arith) (later_none xs)

    empty : (b : Bool) (xs : List Measure) → xs ≡ where_wanted b [] ++ xs
    empty true xs = refl
    empty false xs = refl
