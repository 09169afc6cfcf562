-- What `code` answers and writes of a stream whose packets can be coded.
use Rattle.std.proofs.Common.{◌≡◌, ℕ, zero, suc, ◌+◌, ◌<◌, ◌≤◌, Bool, true, not, List, refl, ap, ◌∙◌, arith}
use Rattle.std.specs.Prelude.{min, None}
use Rattle.std.specs.List.{find, range_with_len}
use Rattle.std.proofs.lemmas.Bool.{cond-false}
use Rattle.std.proofs.lemmas.List.{append-nil}
use Rattle.dtx_engine.specs.Made.{only}
use Rattle.dtx_engine.specs.Recipe.{first_refused, meaning_of_file, whole_units}
use Rattle.dtx_forms.proofs.AllowedFileLemmas.{all_read}
use Rattle.dtx_forms.specs.Shapes.{coded_packets}
use Rattle.dtx_packets.specs.Packets.{packet_at, packets_of, whole_packets}
use Rattle.dtx_recipes.specs.Code.{coding, may_be_coded}
use Rattle.dtx_recipes.specs.SymbolFile.{symbol_bytes}
use Rattle.dtx_repeated_feed.specs.DoneWith.{IsDoneWith}
use Rattle.dtx_file_laws.specs.Back.{CanBeCoded}
use Rattle.dtx_file_laws.proofs.Excited.{whole_read}

-- where all pass, none is refused
none_refused : (p : ℕ → Bool) (a n : ℕ) → ((k : ℕ) → a ≤ k → k < a + n → p k ≡ true)
    → find (λ k. not (p k)) (range_with_len a n) ≡ None
none_refused p a zero all = refl
none_refused p a (suc n) all = cond-false _ _ _ (ap not (all a (omega arith) (omega arith)))
    ∙ none_refused p (a + 1) n (λ k l m. all k (omega (arith, l)) (omega (arith, m)))

all_allowed : (stream : List ℕ) → CanBeCoded stream → first_refused coded_packets coding stream ≡ None
unfolding first_refused
all_allowed stream can =
    none_refused (λ k. may_be_coded (packet_at stream k)) 0 (min (whole_units coded_packets stream) coded_packets.limit)
    (λ k l m. can k (omega (arith, m)))

pub coded_with : (names : List (List ℕ)) (stream : List ℕ) → whole_packets stream ≤ 624000000 → CanBeCoded stream
    → IsDoneWith names (only (symbol_bytes (packets_of stream))) (meaning_of_file coded_packets coding names stream)
coded_with names stream few can = grind (arith, all_read, all_allowed, append-nil, whole_read)
