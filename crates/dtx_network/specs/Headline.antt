-- What an exciter emits when it is given a feed unchanged from a mark on. It is locked to the feed from that mark or
-- from the third one on, depending on what it was given before. From its first listing on that begins 52 or more
-- packets behind that mark, it emits exactly the feed's own symbols (ATSC A/53 Part 2), at moments of the plan.
use Rattle.std.specs.Prelude.{ℕ, ℤ, ◌≡◌, ◌+◌, ◌-◌, ◌*◌, ◌/◌, ◌%◌, ◌<◌, ◌≤◌, true, false, List, ◌++◌, All, length}
use Rattle.std.specs.Prelude.{slice_range, pos, ◌+ℤ◌, ◌≤ℤ◌}
use Rattle.dtx_cadence.specs.Anchor.{has_mark}
use Rattle.dtx_coder.specs.Stream.{a53}
use Rattle.dtx_plan.specs.declared.plan.Plan.{Plan}
use Rattle.dtx_plan.specs.declared.transmitter.Transmitter.{Transmitter}
use Rattle.dtx_adapter.specs.Feed.{feed}
use Rattle.dtx_exciter.specs.Lockstep.{segment_place}
use Rattle.dtx_exciter.specs.Packets.{syncs}
use Rattle.dtx_exciter.specs.Emission.{emission}
use Rattle.dtx_exciter.specs.Log.{Line, preset, mute, restart, life_lines, restarted_lines, restarting_lines}
use Rattle.dtx_exciter.specs.Log.{emission_over}
use Rattle.dtx_exciter.specs.Stretch.{emission_behind, lines_behind, before_stretch}
use Rattle.dtx_network.specs.Plans.{IsPlan, IsStream, IsListed}
use Rattle.dtx_network.specs.Orders.{has_listing, presets}

-- A life is given the feed unchanged from a mark on: it holds the n packets of the feed from packet mark on, in a row.
-- It may hold any packets before and behind them.
pub record IsFed (feed life : List (List ℕ)) (mark n : ℕ) : Type 0 where
  pub is_mark : mark % 624 ≡ 0
  pub inside : mark + n ≤ length feed
  pub earlier : List (List ℕ)
  pub later : List (List ℕ)
  pub holds : life ≡ earlier ++ (slice_range feed mark (mark + n) ++ later)

-- The first listing of an address, for an exciter that is locked to the feed from packet z on. The group from packet k
-- on is the first one that begins 52 or more packets behind packet z and has an operations packet that lists the
-- address. It ends at packet `end` or earlier.
pub record IsFirstListing (address : ℕ) (feed : List (List ℕ)) (z end k : ℕ) : Type 0 where
  pub group : k % 4 ≡ 0
  pub behind : z + 52 ≤ k
  pub whole : k + 4 ≤ end
  pub listing : has_listing address feed k ≡ true
  pub least : (i : ℕ) → i % 4 ≡ 0 → z + 52 ≤ i → i < k → has_listing address feed i ≡ false

-- No group that begins 52 or more packets behind packet z and ends at packet `end` or earlier lists the address.
abbrev pub HasNoListing : ℕ → List (List ℕ) → ℕ → ℕ → Type 0
HasNoListing address feed z end =
    (g : ℕ) → g % 4 ≡ 0 → z + 52 ≤ g → g + 4 ≤ end → has_listing address feed g ≡ false

-- None of these packets is a mark, as with those of a feed between two of its marks.
abbrev pub HaveNoMark : List (List ℕ) → Type 0
HaveNoMark packets = (i : ℕ) → i < length packets → has_mark (syncs packets) i ≡ false

-- An exciter is fed anew: it is given packets without a mark, or none, and then the n packets of a plan's feed from
-- packet mark on. It is that of a transmitter of the plan. Its delay may differ from the plan's, and is in time.
pub record IsFedAnew (plan : Plan) (stream : List (List ℕ)) (t : Transmitter) (delay : ℕ) (earlier : List (List ℕ))
    (mark n : ℕ) : Type 0 where
  pub is_plan : IsPlan plan
  pub is_stream : IsStream stream
  pub listed : IsListed plan t
  pub in_time : pos delay ≤ℤ (pos plan.max_delay +ℤ t.offset)
  pub unmarked : HaveNoMark earlier
  pub at_mark : mark % 624 ≡ 0
  pub inside : mark + n ≤ length (feed plan stream)

-- the last packet of the last whole group of a feed that ends at or before packet end
abbrev pub last_packet : ℕ → ℕ
last_packet end = 4 * (end / 4) - 1

-- The stretch: segments of the feed's own symbols. It goes from the first data segment of the group from packet k on to
-- the last data segment of the last group that ends at or before packet end.
unfoldable pub stretch_of : List (List ℕ) → ℕ → ℕ → List (List ℤ)
stretch_of feed k end = slice_range (a53 feed) (segment_place k) (segment_place (last_packet end) + 1)

-- the segment that a line names, as the number of segments before it
abbrev pub segment_of : Line → ℕ
segment_of (preset n frame packet tick grain) = n
segment_of (mute n why) = n
segment_of (restart n) = n

-- the segment behind those of a line: a preset is about its group's four data segments, and another line about none
abbrev pub line_end : Line → ℕ
line_end (preset n frame packet tick grain) = n + 4
line_end (mute n why) = n
line_end (restart n) = n

-- What stands around the packets of a feed in all lives of a transmitter. There are the lives before the one that is
-- given them, what that life is given before and behind them, and the lives behind it.
pub record Around : Type 0 where
  pub lives_before : List (List (List ℕ))
  pub before : List (List ℕ)
  pub behind : List (List ℕ)
  pub lives_behind : List (List (List ℕ))

-- around a life that is given the feed from a mark on, where these lives come before it and those behind it
abbrev pub around : {feed life : List (List ℕ)} {mark n : ℕ} → List (List (List ℕ)) → IsFed feed life mark n
    → List (List (List ℕ)) → Around
around lives_before fed lives_behind = record {
  lives_before = lives_before;
  before = fed.earlier;
  behind = fed.later;
  lives_behind = lives_behind;
}

-- how many segments the lives before it send
abbrev pub sent_before : Transmitter → Around → ℕ
sent_before t a = length (emission_over t.address t.delay a.lives_before)

-- how many segments those lives and this one send, if it is given packets mark to end of the feed
abbrev pub sent_with : Transmitter → List (List ℕ) → ℕ → ℕ → Around → ℕ
sent_with t feed mark end a = sent_before t a
    + length (emission t.address t.delay (a.before ++ (slice_range feed mark end ++ a.behind)))

-- The meaning of "a transmitter emits exactly", when one of its lives is given packets mark to end of the feed. Its
-- segments hold the stretch, in a row and with nothing between. Its log holds the presets of the stretch's orders, at
-- their moments. The record also fixes what stands before the stretch and behind it, so the stretch is the one that
-- this life sends. Each earlier line is about nothing behind the stretch's beginning, and each later one about nothing
-- before its end.
pub record Emits (plan : Plan) (t : Transmitter) (feed : List (List ℕ)) (mark k end : ℕ) (a : Around)
    (segments : List (List ℤ)) (lines : List Line) : Type 0 where
  pub before : List (List ℤ)
  pub after : List (List ℤ)
  pub symbols : segments ≡ before ++ (stretch_of feed k end ++ after)
  -- Before it stands what the earlier lives send, and then what this life sends in front of the stretch.
  pub before_is : before ≡ emission_over t.address t.delay a.lives_before
      ++ before_stretch t.address t.delay a.before feed mark k
  -- Behind it stands what this life sends for the packets that it is given then, and then what the later lives send.
  pub after_is : after ≡ emission_behind t.address t.delay (a.before ++ slice_range feed mark end) a.behind
      ++ emission_over t.address t.delay a.lives_behind
  pub earlier : List Line
  pub later : List Line
  pub log : lines ≡ earlier ++ (presets plan t.offset (length before) feed k end ++ later)
  -- Before these presets stand the earlier lives' lines, each life's with its restart. Then come this life's lines up
  -- to the last packet but one of the stretch's first group, counted on from what the earlier lives send.
  pub earlier_is : earlier ≡ restarted_lines t.address t.delay 0 a.lives_before
      ++ life_lines t.address t.delay (sent_before t a) (a.before ++ slice_range feed mark (k + 3))
  -- Behind them stand this life's lines for the packets that it is given then, and then the later lives' lines, counted
  -- on.
  pub later_is : later
      ≡ lines_behind t.address t.delay (sent_before t a) (a.before ++ slice_range feed mark end) a.behind
      ++ restarting_lines t.address t.delay (sent_with t feed mark end a) a.lives_behind
  pub up_to : All (λ line. line_end line ≤ length before) earlier
  pub behind : All (λ line. length before + length (stretch_of feed k end) ≤ segment_of line) later
