-- The rows of an entry of the array `event`.
use Rattle.std.specs.Prelude.{ℕ, ◌-◌, ◌==◌, ◌&&◌, nat_le, codes, Bool, map, if◌then◌else◌, List, [], ◌∷◌, length}
use Rattle.std.specs.Prelude.{Result, Ok}
use Rattle.std.specs.List.{list_all}
use Rattle.std.specs.Str.{bytes_eq}
use Rattle.toml.specs.Data.{Data, Members, get_member}
use Rattle.dtx_plan.specs.declared.key.PlanKey.{PlanKey}
use Rattle.dtx_plan.specs.declared.key.PlanKey.TheVariants as key
use Rattle.dtx_plan.specs.declared.rule.PlanRule.TheVariants.{Range, Stranger}
use Rattle.dtx_plan.specs.declared.refusal.PlanNo.{PlanNo}
use Rattle.dtx_plan.specs.declared.transmitter.Transmitter.{Transmitter}
use Rattle.dtx_plan.specs.declared.event.Event.{Event}
use Rattle.dtx_plan.specs.declared.event.Event.TheVariants as event
use Rattle.dtx_plan.specs.declared.event.EventKind.{EventKind}
use Rattle.dtx_plan.specs.declared.event.EventKind.TheVariants.{Send, Foreign, Flip, Lie, Restart}
use Rattle.dtx_plan.specs.Rows.{◌>>=◌, refused, table, known, whole, text}
use Rattle.dtx_plan.specs.TransmitterTable.{has_address}

-- range: one of the five words
abbrev pub kind_of : List ℕ → ℕ → Result EventKind PlanNo
kind_of word item =
    if bytes_eq word (codes "send") then Ok Send
    else if bytes_eq word (codes "foreign") then Ok Foreign
    else if bytes_eq word (codes "flip") then Ok Flip
    else if bytes_eq word (codes "lie") then Ok Lie
    else if bytes_eq word (codes "restart") then Ok Restart
    else refused key.Do item Range

-- missing; kind string; range
abbrev pub kind : Members → ℕ → Result EventKind PlanNo
kind entry item = text (get_member (codes "do") entry) key.Do item >>= λ word. kind_of word item

-- unknown: `do`, `to` and the keys of its kind
abbrev pub known_keys : EventKind → Members → ℕ → Result (Unit {0}) PlanNo
known_keys Send entry item = known (codes "do" ∷ codes "to" ∷ codes "from" ∷ codes "count" ∷ []) entry key.Event item
known_keys Foreign entry item =
    known (codes "do" ∷ codes "to" ∷ codes "seed" ∷ codes "from" ∷ codes "count" ∷ []) entry key.Event item
known_keys Flip entry item =
    known (codes "do" ∷ codes "to" ∷ codes "from" ∷ codes "at" ∷ codes "with" ∷ []) entry key.Event item
known_keys Lie entry item = known (codes "do" ∷ codes "to" ∷ codes "from" ∷ codes "states" ∷ []) entry key.Event item
known_keys Restart entry item = known (codes "do" ∷ codes "to" ∷ []) entry key.Event item

-- stranger: a transmitter of the plan has the address
abbrev pub no_stranger : ℕ → List Transmitter → PlanKey → ℕ → Result (Unit {0}) PlanNo
no_stranger address ts k item = if has_address address ts then Ok tt else refused k item Stranger

-- `send`: packets of the feed
unfoldable pub send : ℕ → Members → ℕ → Result Event PlanNo
send to entry item = do
  from ← whole (get_member (codes "from") entry) key.From item 0 623999999
  count ← whole (get_member (codes "count") entry) key.Count item 1 (624000000 - from)
  Ok (event.Send to from count)

-- `foreign`: packets that are not of the feed
unfoldable pub foreign : ℕ → Members → ℕ → Result Event PlanNo
foreign to entry item = do
  seed ← whole (get_member (codes "seed") entry) key.Seed item 0 9223372036854775807
  from ← whole (get_member (codes "from") entry) key.From item 0 623999999
  count ← whole (get_member (codes "count") entry) key.Count item 1 (624000000 - from)
  Ok (event.Foreign to seed from count)

-- `flip`: a packet with one wrong byte
unfoldable pub flip : ℕ → Members → ℕ → Result Event PlanNo
flip to entry item = do
  from ← whole (get_member (codes "from") entry) key.From item 0 623999999
  at ← whole (get_member (codes "at") entry) key.At item 0 187
  with ← whole (get_member (codes "with") entry) key.With item 1 255
  Ok (event.Flip to from at with)

-- a digit from 0 to 7
abbrev pub is_state : ℕ → Bool
is_state digit = nat_le 48 digit && nat_le digit 55

-- range: twelve digits from 0 to 7, one for each coder
abbrev pub states_of : List ℕ → ℕ → Result (List ℕ) PlanNo
states_of digits item =
    if length digits == 12 && list_all is_state digits then Ok (map (λ digit. digit - 48) digits)
    else refused key.States item Range

-- missing; kind string; range
abbrev pub states : Members → ℕ → Result (List ℕ) PlanNo
states entry item = text (get_member (codes "states") entry) key.States item >>= λ digits. states_of digits item

-- `lie`: an operations packet with false states
unfoldable pub lie : ℕ → Members → ℕ → Result Event PlanNo
lie to entry item = do
  from ← whole (get_member (codes "from") entry) key.From item 0 623999999
  told ← states entry item
  Ok (event.Lie to from told)

-- the rows that depend on the kind
unfoldable pub event_of : EventKind → ℕ → Members → ℕ → Result Event PlanNo
event_of Send to entry item = send to entry item
event_of Foreign to entry item = foreign to entry item
event_of Flip to entry item = flip to entry item
event_of Lie to entry item = lie to entry item
event_of Restart to entry item = Ok (event.Restart to)

-- entry number `item`
unfoldable pub event_at : List Transmitter → ℕ → Data → Result Event PlanNo
event_at ts item d = do
  entry ← table d key.Event item
  does ← kind entry item
  _ ← known_keys does entry item
  to ← whole (get_member (codes "to") entry) key.To item 0 65535
  _ ← no_stranger to ts key.To item
  event_of does to entry item

-- the entry that follows the earlier ones
abbrev pub event_after : List Transmitter → List Event → Data → Result Event PlanNo
event_after ts earlier d = event_at ts (length earlier) d
