-- What is levelled of more symbols: for all that were given there is a value that stands for them, symbol by symbol.
use Rattle.std.proofs.Common.{◌≡◌, ℕ, ℤ, ◌<◌, refl, ap, ◌∙◌, arith, List, map, length, sym, subst, [], ◌∷◌, ◌++◌}
use Rattle.std.proofs.Common.{true, false, ap₂, length-append, None, append_assoc, filter, not}
use Rattle.std.proofs.lemmas.Bool.{cond-true}
use Rattle.std.proofs.lemmas.List.{append-nil}
use Rattle.dtx_acquire.specs.Acquired.{is_met}
use Rattle.dtx_level.proofs.Ending.{measures_known, measures_now, stands_first}
use Rattle.dtx_level.proofs.SyncsBehind.{unmet}
use Rattle.dtx_level.proofs.Taking.{taken_is}
use Rattle.dtx_level.specs.Levelled.{levelled_so_far, nothing}
use Rattle.dtx_level.specs.Leveller.{Holding, StandsFor, all_given, as_list, taken}
use Rattle.dtx_level.specs.Measures.{IsGrown, later_by, measure_at, measures, measures_rest, measures_so_far}
use Rattle.dtx_level.specs.Measures.{measures_where}
use Rattle.dtx_level.specs.Syncs.{all_syncs, syncs_where}

-- so many more
record Reaches (symbols more : List ℤ) : Type 0 where
  value : Holding
  stands : StandsFor value (symbols ++ more)
  grown : IsGrown symbols more

reaches : (h : Holding) (symbols more : List ℤ) → StandsFor h symbols → Reaches symbols more
reaches h symbols [] st = record {
  value = h;
  stands = subst (StandsFor h) (sym (append-nil symbols)) st;
  grown = record {
    others = [];
    told = [];
    levelled_is = ap levelled_so_far (append-nil symbols) ∙ sym (append-nil (levelled_so_far symbols));
    measures_are = ap measures_so_far (append-nil symbols) ∙ sym (append-nil (measures_so_far symbols));
  };
}
reaches h symbols (x ∷ more) st =
    let one = x ∷ [] in
    let new : Holding = taken h one in
    let a = taken_is h symbols one st (omega (arith, st.few, length-append h.held one)) in
    let b = reaches new (symbols ++ one) more a.stands in
    let all : (symbols ++ one) ++ more ≡ symbols ++ x ∷ more = append_assoc symbols one more in
    record {
      value = b.value;
      stands = subst (StandsFor b.value) all b.stands;
      grown = record {
        others = all_given new ++ b.grown.others;
        told = as_list new.measured ++ b.grown.told;
        levelled_is = ap levelled_so_far (sym all) ∙ b.grown.levelled_is ∙ ap (λ xs. xs ++ b.grown.others) a.given
            ∙ append_assoc (levelled_so_far symbols) (all_given new) b.grown.others;
        measures_are = ap measures_so_far (sym all) ∙ b.grown.measures_are ∙ ap (λ xs. xs ++ b.grown.told) a.measured
            ∙ append_assoc (measures_so_far symbols) (as_list new.measured) b.grown.told;
      };
    }

-- that before any symbols
first : Holding
first = record {
  held = [];
  on = false;
  by = nothing;
  silent = 0;
  zeros = 0;
  given = [];
  measured = None;
  symbols = 0;
  syncs = 0;
  slips = 0;
  last = 0;
}

first_stands : StandsFor first []
unfolding first
first_stands = stands_first first refl refl refl refl refl refl refl

pub grows : (symbols more : List ℤ) → IsGrown symbols more
grows symbols more =
    let a = reaches first [] symbols first_stands in
    (reaches a.value symbols more a.stands).grown

-- ---- all

-- none of few symbols is one behind which the next is looked for
unmet_all : (v : List ℤ) (places : List ℕ) → length v < 261248 → filter (λ p. not (is_met v p)) places ≡ places
unmet_all v [] few = refl
unmet_all v (p ∷ places) few =
    cond-true (not (is_met v p)) (p ∷ filter (λ q. not (is_met v q)) places) (filter (λ q. not (is_met v q)) places)
    (ap not (unmet v p few))
    ∙ ap (λ xs. p ∷ xs) (unmet_all v places few)

wanted_all : (places : List ℕ) → filter (λ p. true) places ≡ places
wanted_all [] = refl
wanted_all (p ∷ places) = ap (λ xs. p ∷ xs) (wanted_all places)

unmet_measured : (v : List ℤ) → length v < 261248 → measures_where not v ≡ measures v
unfolding measures_where syncs_where
unmet_measured v few = ap (map (measure_at v)) (unmet_all v (all_syncs v) few ∙ sym (wanted_all (all_syncs v)))

-- the syncs behind which the next is looked for, and the last one behind which it isn't, are all
pub measured_in_parts : (symbols : List ℤ) → measures_so_far symbols ++ measures_rest symbols ≡ measures symbols
measured_in_parts symbols =
    let a = reaches first [] symbols first_stands in
    let h = a.stands in
    let later = map (later_by (length h.done)) in
    ap₂ ◌++◌ (measures_known a.value symbols h)
    (measures_now a.value symbols h.done h.told h.leaves not ∙ ap later (unmet_measured a.value.held h.few))
    ∙ sym (measures_now a.value symbols h.done h.told h.leaves (λ met. true))
