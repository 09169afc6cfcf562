-- The numbers of what was received, as segments come.
use Rattle.std.proofs.Common.{◌≡◌, ℕ, ◌+◌, List, [], ◌++◌, length, refl, arith}
use Rattle.std.specs.Prelude.{ℤ, if◌then◌else◌}
use Rattle.std.proofs.lemmas.List.{length-append}
use Rattle.std.proofs.lemmas.List.Sums.{sum_by-append}
use Rattle.dtx_receiver.proofs.CountingLemmas.{no_segments}
use Rattle.dtx_receiver.specs.Runs.{runs}
use Rattle.dtx_receiver.specs.declared.batch.Received.{Received}
use Rattle.dtx_recipes.specs.Giving.{Giving, IsGiving}
use Rattle.dtx_recipes.specs.Tally.{fixed_in, flagged_in, tally_of, tally_with}
use Rattle.dtx_recipes.specs.declared.tally.Tally.{Tally}

-- before the first segment
pub tally_none : (giving : Giving) → IsGiving giving → (tally : Tally)
    → tally ≡ record { segments = 0; runs = 0; packets = 0; fixed = 0; flagged = 0 }
    → tally ≡ tally_of [] (giving.so_far [])
tally_none giving given tally is = rw (given.none, no_segments) is

same_tally : (a b c d e a' b' c' d' e' : ℕ) → a ≡ a' → b ≡ b' → c ≡ c' → d ≡ d' → e ≡ e'
    → ◌≡◌ {A = Tally} (record { segments = a; runs = b; packets = c; fixed = d; flagged = e })
    (record { segments = a'; runs = b'; packets = c'; fixed = d'; flagged = e' })
same_tally a b c d e a' b' c' d' e' p q r s t = rw (p, q, r, s, t) refl

fixed_in-append : (a b : List Received) → fixed_in (a ++ b) ≡ fixed_in a + fixed_in b
fixed_in-append a b = sum_by-append (λ (p : Received). p.fixed) a b

flagged_in-append : (a b : List Received) → flagged_in (a ++ b) ≡ flagged_in a + flagged_in b
flagged_in-append a b = sum_by-append (λ (p : Received). if p.good then 0 else 1) a b

-- with more segments, the runs that began with them, and the packets that they brought
pub tally_on : (giving : Giving) (segments more : List (List ℤ)) (count begins : ℕ) (brought : List Received)
    → length more ≡ count → length (runs (segments ++ more)) ≡ length (runs segments) + begins
    → giving.so_far (segments ++ more) ≡ giving.so_far segments ++ brought
    → tally_with (record (tally_of segments (giving.so_far segments)) {
      segments = length segments + count;
      runs = length (runs segments) + begins;
    }) brought ≡ tally_of (segments ++ more) (giving.so_far (segments ++ more))
tally_on giving segments more count begins brought long begun given =
    grind (arith, same_tally, length-append, fixed_in-append, flagged_in-append)
