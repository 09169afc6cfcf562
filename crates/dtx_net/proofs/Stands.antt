-- What a network stands for, one step further.
use Rattle.std.proofs.Common.{◌≡◌, ℕ, ◌+◌, ◌<◌, ◌⊎◌, Some, List, [], ◌∷◌, ◌++◌, length, set, refl, sym, ap, subst, ◌∙◌}
use Rattle.std.proofs.Common.{arith, vec_len, inl, inr}
use Rattle.std.specs.Prelude.{slice_get}
use Rattle.std.specs.Vec.{with_item}
use Rattle.std.proofs.lemmas.Bool.{cases_eq}
use Rattle.std.proofs.lemmas.List.{length_push}
use Rattle.dtx_plan.specs.declared.transmitter.Transmitter.{Transmitter}
use Rattle.dtx_exciter.specs.declared.exciter.Exciter.{Exciter}
use Rattle.dtx_exciter.specs.Kept as exciter
use Rattle.dtx_net.specs.declared.net.Net.{Net}
use Rattle.dtx_net.specs.Steps.{Step}
use Rattle.dtx_net.specs.Lives.{last_life}
use Rattle.dtx_net.specs.Standing.{StandsFor, AreNew, ChangesOnly}
use Rattle.dtx_net.proofs.PlacesLemmas.{set_here, set_elsewhere, pushed_here}
use Rattle.dtx_net.proofs.LastLifeLemmas.{last_elsewhere}

some_same : {X : Type 0} (x y : X) → Some x ≡ Some y → x ≡ y
some_same x y e = cc

-- one new exciter more
pub new_more : (n : ℕ) (ts : List Transmitter) (es : List Exciter) (t : Transmitter) (made : Exciter) → AreNew n ts es
    → slice_get ts n ≡ Some t → exciter.StandsFor t.address t.delay made [] → AreNew (n + 1) ts (es ++ made ∷ [])
new_more n ts es t made a at_n stands = record {
  long = length_push es made ∙ ap (λ i. i + 1) a.long;
  each = λ who u e at_u at_e. each who u e at_u (pushed_here es who made e at_e);
}
  where
    each : (who : ℕ) (u : Transmitter) (e : Exciter) → slice_get ts who ≡ Some u
        → (slice_get es who ≡ Some e) ⊎ ((who ≡ length es) × (made ≡ e)) → exciter.StandsFor u.address u.delay e []
    each who u e at_u (inl older) = a.each who u e at_u older
    each who u e at_u (inr newest) =
        let same : t ≡ u = some_same t u (sym at_n ∙ ap (slice_get ts) (sym (newest.0 ∙ a.long)) ∙ at_u) in
        subst (λ (x : Exciter). exciter.StandsFor u.address u.delay x []) newest.1
        (subst (λ (x : Transmitter). exciter.StandsFor x.address x.delay made []) same stands)

-- another exciter at a place
abbrev pub replaced : (net : Net) → ℕ → Exciter → length net.transmitters ≡ vec_len net.exciters → Net
replaced net who e same = record net {
  exciters = with_item net.exciters who e;
  same = same;
}

pub stands_replaced : (ts : List Transmitter) (net : Net) (steps : List Step) (step : Step) (made : Exciter)
    (same : length net.transmitters ≡ vec_len net.exciters) → StandsFor ts net steps → step.who < vec_len net.exciters
    → ((t : Transmitter) → slice_get ts step.who ≡ Some t
    → exciter.StandsFor t.address t.delay made (last_life step.who (steps ++ step ∷ [])))
    → StandsFor ts (replaced net step.who made same) (steps ++ step ∷ [])
stands_replaced ts net steps step made same s l h = record {
  transmitters = s.transmitters;
  long = s.long;
  each = λ who t e at_t at_e. each who t e at_t at_e (cases_eq who step.who);
}
  where
    within : step.who < length net.exciters.items
    within = let k = net.exciters.ok.0 in omega (arith, l, k)

    each : (who : ℕ) (t : Transmitter) (e : Exciter) → slice_get ts who ≡ Some t
        → slice_get (set net.exciters.items step.who made) who ≡ Some e → (who ≡ step.who) ⊎ (who ≡ step.who → ⊥)
        → exciter.StandsFor t.address t.delay e (last_life who (steps ++ step ∷ []))
    each who t e at_t at_e (inl same) =
        let is : made ≡ e = some_same made e (sym (set_here net.exciters.items step.who made within)
        ∙ ap (slice_get (set net.exciters.items step.who made)) (sym same) ∙ at_e) in
        subst (λ (i : ℕ). exciter.StandsFor t.address t.delay e (last_life i (steps ++ step ∷ []))) (sym same)
        (subst (λ (x : Exciter). exciter.StandsFor t.address t.delay x (last_life step.who (steps ++ step ∷ []))) is
        (h t (ap (slice_get ts) (sym same) ∙ at_t)))
    each who t e at_t at_e (inr other) =
        subst (exciter.StandsFor t.address t.delay e) (sym (last_elsewhere who steps step (λ x. other (sym x))))
        (s.each who t e at_t (sym (set_elsewhere net.exciters.items step.who who made other) ∙ at_e))

pub elsewhere_replaced : (net : Net) (who : ℕ) (made : Exciter) (same : length net.transmitters ≡ vec_len net.exciters)
    → ChangesOnly who net (replaced net who made same)
elsewhere_replaced net who made same = record {
  transmitters = refl;
  long = refl;
  others = λ other n. set_elsewhere net.exciters.items who other made n;
}
