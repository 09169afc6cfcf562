-- How far a schedule came of which nothing was played, and one that was played whole.
use Rattle.std.proofs.Common.{◌≡◌, ℕ, suc, ◌+◌, ◌*◌, ◌≤◌, List, [], ◌∷◌, length, take, refl, sym, subst, inl, inr}
use Rattle.std.proofs.Common.{arith}
use Rattle.std.proofs.lemmas.List.{append-nil, take_all}
use Rattle.dtx_meaning.specs.Meaning.{IsFrontOf}
use Rattle.dtx_net.specs.Steps.{Step}
use Rattle.dtx_plan.specs.declared.transmitter.Transmitter.{Transmitter}
use Rattle.dtx_schedule.proofs.FilesLemmas.{no_log_file, no_symbol_file}
use Rattle.dtx_schedule.specs.PlayedSoFar.{Progress}
use Rattle.dtx_schedule.specs.TransmitterFiles.{AreFronts, Contents, files_of, nothing, played}

-- each file has a front part of itself
pub same_fronts : (ts : List Transmitter) (contents : Contents) → AreFronts ts contents contents
same_fronts ts contents = λ who t at_t. (([], append-nil (contents who t).0), ([], append-nil (contents who t).1))

-- ---- nothing was played

front_of_none : (a : List ℕ) → a ≡ [] → IsFrontOf a []
front_of_none [] none = ([], refl)
front_of_none (x ∷ a) none = cc

pub nothing_is_least : (ts : List Transmitter) → AreFronts ts (played []) nothing
nothing_is_least ts = grind (arith, front_of_none, no_symbol_file, no_log_file)

-- so many files were begun, and nothing was played
abbrev pub only_begun : (ts : List Transmitter) (steps : List Step) (n : ℕ) → n ≤ 2 * length ts → Progress ts steps
only_begun ts steps n fits = record {
  begun = n;
  fits = fits;
  done = 0;
  within = omega arith;
  contents = nothing;
  least = nothing_is_least ts;
  most = λ who t at_t. ((_, refl), (_, refl));
  ready = inr (refl, same_fronts ts nothing);
}

-- ---- all was played

two_each : (contents : Contents) (ts : List Transmitter) → length (files_of contents ts) ≡ 2 * length ts
two_each contents [] = refl
two_each contents (t ∷ ts) = omega (arith, two_each (λ who. contents (suc who)) ts)

pub all_files : (contents : Contents) (ts : List Transmitter)
    → take (2 * length ts) (files_of contents ts) ≡ files_of contents ts
all_files contents ts = take_all (2 * length ts) (files_of contents ts) (omega (arith, two_each contents ts))

-- all files were begun, and all steps are done
abbrev pub all_played : (ts : List Transmitter) (steps : List Step) → Progress ts steps
all_played ts steps = record {
  begun = 2 * length ts;
  fits = omega arith;
  done = length steps;
  within = omega arith;
  contents = played steps;
  least = subst (λ all. AreFronts ts (played all) (played steps)) (sym (take_all (length steps) steps (omega arith)))
      (same_fronts ts (played steps));
  most = subst (λ all. AreFronts ts (played steps) (played all))
      (sym (take_all (length steps + 1) steps (omega arith))) (same_fronts ts (played steps));
  ready = inl refl;
}
