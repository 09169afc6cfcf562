-- The names of the files of the transmitters, while they are made.
use Rattle.std.proofs.Common.{◌≡◌, ◌⊎◌, ℕ, ◌+◌, ◌<◌, ◌≤◌, ◌^◌, List, [], ◌∷◌, ◌++◌, length, sym, ap, subst, ◌∙◌, inl}
use Rattle.std.proofs.Common.{inr, arith}
use Rattle.std.specs.Prelude.{Some, slice_get}
use Rattle.std.proofs.lemmas.Bool.{cases_lt}
use Rattle.std.proofs.lemmas.List.{length-append}
use Rattle.std.proofs.lemmas.Option.{same_Some, slice_get_within}
use Rattle.dtx_net.proofs.PlacesLemmas.{pushed_here}
use Rattle.dtx_plan.specs.declared.transmitter.Transmitter.{Transmitter}
use Rattle.dtx_schedule.specs.Playout.{AreNamesOf, AreNames}
use Rattle.dtx_schedule.specs.declared.pair.FileNames.{FileNames}

-- the names of the first n transmitters
pub record AreFirstNames (ts : List Transmitter) (n : ℕ) (names : List FileNames) : Type 0 where
  pub long : length names ≡ n
  pub each : (who : ℕ) (t : Transmitter) (its : FileNames) → slice_get ts who ≡ Some t → slice_get names who ≡ Some its
      → AreNamesOf t.address its
  pub small : (who : ℕ) (t : Transmitter) → who < n → slice_get ts who ≡ Some t → t.address < 2 ^ 16

pub none_named : (ts : List Transmitter) (names : List FileNames) → names ≡ [] → AreFirstNames ts 0 names
none_named ts names none = grind (arith, slice_get_within)

pub one_named : (ts : List Transmitter) (n : ℕ) (names more : List FileNames) (t : Transmitter) (its : FileNames)
    → more ≡ names ++ its ∷ []
    → slice_get ts n ≡ Some t → AreNamesOf t.address its → AreFirstNames ts n names → AreFirstNames ts (n + 1) more
one_named ts n names more t its are at_t own first = record {
  long = omega (arith, ap length are, length-append names (its ∷ []), first.long);
  each = λ who u other at_u here. by_cases who u other at_u
      (pushed_here names who its other (sym (ap (λ (xs : List FileNames). slice_get xs who) are) ∙ here));
  small = λ who u l at_u. by_place who u l at_u (cases_lt who n);
}
  where
    by_cases : (who : ℕ) (u : Transmitter) (other : FileNames) → slice_get ts who ≡ Some u
        → (slice_get names who ≡ Some other) ⊎ ((who ≡ length names) × (its ≡ other)) → AreNamesOf u.address other
    by_cases who u other at_u (inl before) = first.each who u other at_u before
    by_cases who u other at_u (inr last) =
        let is : t ≡ u = same_Some t u (sym at_t ∙ ap (slice_get ts) (sym (last.0 ∙ first.long)) ∙ at_u) in
        subst (AreNamesOf u.address) last.1 (subst (λ (x : Transmitter). AreNamesOf x.address its) is own)

    by_place : (who : ℕ) (u : Transmitter) → who < n + 1 → slice_get ts who ≡ Some u → (who < n) ⊎ (n ≤ who)
        → u.address < 2 ^ 16
    by_place who u l at_u (inl less) = first.small who u less at_u
    by_place who u l at_u (inr past) = grind (arith, same_Some)

pub all_named : (ts : List Transmitter) (n : ℕ) (names : List FileNames) → n ≡ length ts → AreFirstNames ts n names
    → AreNames ts names
all_named ts n names all first = grind (arith, slice_get_within)
