-- The field syncs of a capture, and where symbols were lost or doubled between them (the profile's own; ATSC A/53 Part
-- 2, data field sync).
use Rattle.std.specs.Prelude.{ℕ, ℤ, ◌+◌, ◌-◌, ◌%◌, ◌==◌, Bool, if◌then◌else◌, Option, Some, None, List, [], ◌∷◌}
use Rattle.std.specs.Prelude.{length, filter}
use Rattle.std.proofs.Common.{zero, suc}
use Rattle.dtx_acquire.specs.Acquired.{due, is_met}
use Rattle.dtx_level.specs.Shown.{least_shown, shows}

-- The next sync behind the one at a place. It is due 313 segments behind. Where no whole segment stands there, there is
-- none. Where the due place shows a sync, it is that one. Else it is at the least place behind this sync's segment that
-- shows one.
unfoldable pub behind : List ℤ → ℕ → Option ℕ
behind symbols place =
    if is_met symbols place then
    (if shows symbols (due place) then Some (due place) else least_shown symbols (place + 832))
    else None

-- the places of the syncs from this one on, at most n
unfoldable pub syncs_from : List ℤ → ℕ → Option ℕ → List ℕ
syncs_from symbols zero sync = []
syncs_from symbols (suc n) None = []
syncs_from symbols (suc n) (Some place) = place ∷ syncs_from symbols n (behind symbols place)

-- the places of all syncs: the first is the least place that shows one
unfoldable pub all_syncs : List ℤ → List ℕ
all_syncs symbols = syncs_from symbols (length symbols) (least_shown symbols 0)

-- The syncs of a wanted kind. The argument is true for a sync behind which the next one can already be looked for,
-- whatever follows. It is false for a last sync, whose due place isn't there yet.
unfoldable pub syncs_where : (Bool → Bool) → List ℤ → List ℕ
syncs_where wanted symbols = filter (λ place. wanted (is_met symbols place)) (all_syncs symbols)

-- 1 where a sync is a slip: it doesn't lie a multiple of 313 segments behind the one before. The first sync is none.
abbrev pub slip_behind : Option ℕ → ℕ → ℕ
slip_behind None place = 0
slip_behind (Some before) place = if (place - before) % 260416 == 0 then 0 else 1

-- how many of the syncs at these places are slips; `before` is the sync before them, if there is one
unfoldable pub slips_behind : Option ℕ → List ℕ → ℕ
slips_behind before [] = 0
slips_behind before (place ∷ places) = slip_behind before place + slips_behind (Some place) places

-- how many of the syncs at these places are slips
abbrev pub slips : List ℕ → ℕ
slips places = slips_behind None places
