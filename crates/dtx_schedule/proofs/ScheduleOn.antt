-- A schedule, event by event.
use Rattle.std.proofs.Common.{◌≡◌, ℕ, ◌+◌, false, List, [], ◌∷◌, ◌++◌, take, drop, refl, sym, ap, ◌∙◌, arith}
use Rattle.std.specs.Prelude.{All, Some, None, slice_get}
use Rattle.std.proofs.lemmas.List.{append-nil, take_more, take-append-drop}
use Rattle.std.proofs.lemmas.List.Elements.{All-cons, All-get_or, All-head, All-nil, All-tail}
use Rattle.std.proofs.lemmas.Grind.{flat_map-append}
use Rattle.std.proofs.lemmas.Option.{slice_get_within, get_or_from_slice_get}
use Rattle.dtx_plan.specs.declared.event.Event.{Event}
use Rattle.dtx_plan.specs.declared.transmitter.Transmitter.{Transmitter}
use Rattle.dtx_plan.specs.Sound.{IsEvent, IsInRange}
use Rattle.dtx_net.specs.Steps.{schedule, steps_of}
use Rattle.dtx_schedule.specs.Inside.{first_past_feed, reads_past}
use Rattle.dtx_lists.proofs.FirstOf.{position_passes}

pub nothing_yet : (ts : List Transmitter) (feed : List (List ℕ)) → schedule ts feed [] ≡ []
unfolding schedule
nothing_yet ts feed = refl

-- one event more
pub schedule_on : (ts : List Transmitter) (feed : List (List ℕ)) (events : List Event) (i : ℕ) (e : Event)
    → slice_get events i ≡ Some e
    → schedule ts feed (take i events) ++ steps_of ts feed e ≡ schedule ts feed (take (i + 1) events)
unfolding schedule
schedule_on ts feed events i e here =
    let all : take (i + 1) events ≡ take i events ++ e ∷ [] = take_more events i e (slice_get_within events i e here)
    ∙ ap (λ (x : Event). take i events ++ x ∷ []) (get_or_from_slice_get events i e e here) in
    sym (grind (arith, flat_map-append, append-nil))

-- and all behind those
pub schedule_rest : (ts : List Transmitter) (feed : List (List ℕ)) (events : List Event) (n : ℕ)
    → schedule ts feed (take n events) ++ schedule ts feed (drop n events) ≡ schedule ts feed events
unfolding schedule
schedule_rest ts feed events n = simp (← flat_map-append, take-append-drop)

pub event_at : (events : List Event) (i : ℕ) (e : Event) → All IsInRange events → slice_get events i ≡ Some e
    → IsInRange e
event_at events i e each here = grind (arith, get_or_from_slice_get, All-get_or, slice_get_within)

-- events of transmitters of the plan
pub all_in_range : (ts : List Transmitter) (events : List Event) → All (IsEvent ts) events → All IsInRange events
all_in_range ts [] each = All-nil IsInRange
all_in_range ts (e ∷ events) each = All-cons IsInRange e events (All-head (IsEvent ts) e events each).in_range
    (all_in_range ts events (All-tail (IsEvent ts) e events each))

-- where no event reads past the feed, this one doesn't
pub stays_within : (events : List Event) (packets i : ℕ) (e : Event) → first_past_feed events packets ≡ None
    → slice_get events i ≡ Some e → reads_past packets e ≡ false
unfolding first_past_feed
stays_within events packets i e none here = position_passes (reads_past packets) events i e none here
