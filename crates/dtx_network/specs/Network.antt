-- The headline of a network, as one definition (the profile's own, in the manner of ATSC A/110; the symbols are those
-- of ATSC A/53 Part 2). It holds for every packet stream and schedule. An exciter is given, from any earlier state, the
-- adapter's feed unchanged through three cadence marks and on. From its first listing whose group starts 52 or more
-- packets later, it emits exactly the symbols of that feed. It does so at moments that differ between transmitters only
-- by the signalled offsets. Symbols with at most ten wrong bytes per codeword give the feed's packets back. The 52
-- packets count from the first of the three marks if the exciter wasn't locked there or was locked in step with it.
-- Otherwise they count from the third.
use Rattle.std.specs.Prelude.{ℕ, ℤ, ◌≡◌, ◌≢◌, ◌⊎◌, ◌+◌, ◌-ℤ◌, ◌/◌, ◌%◌, ◌≤◌, Some, List, ◌∷◌, ◌++◌, length, map}
use Rattle.std.specs.Prelude.{slice_get}
use Rattle.std.specs.List.{Contains, AllByRecursion}
use Rattle.dtx_plan.specs.declared.plan.Plan.{Plan}
use Rattle.dtx_plan.specs.declared.transmitter.Transmitter.{Transmitter}
use Rattle.dtx_plan.specs.declared.event.Event.{Event}
use Rattle.dtx_plan.specs.Sound.{to_of}
use Rattle.dtx_adapter.specs.Feed.{feed}
use Rattle.dtx_exciter.specs.declared.answers.Why.{Why}
use Rattle.dtx_exciter.specs.Lockstep.{locked_from}
use Rattle.dtx_exciter.specs.Log.{Line, preset, mute}
use Rattle.dtx_exciter.specs.Stretch.{IsApart}
use Rattle.dtx_net.specs.Steps.{Step, schedule}
use Rattle.dtx_net.specs.Lives.{lives_of, sent_segments, lines_of}
use Rattle.dtx_network.specs.Plans.{IsInTime}
use Rattle.dtx_network.specs.Orders.{orders, moment_at, preset_at, presets}
use Rattle.dtx_network.specs.Headline.{IsFed, IsFirstListing, stretch_of, around, Emits}
use Rattle.dtx_network.specs.GivesBack.{GivesBack, GivesAllBack}

-- the steps of a schedule, with the feed of the plan and the stream
abbrev pub steps_under : Plan → List (List ℕ) → List Event → List Step
steps_under plan stream events = schedule plan.transmitters (feed plan stream) events

-- these events are of other transmitters than this one
abbrev pub AreOfOthers : Transmitter → List Event → Type 0
AreOfOthers t events = AllByRecursion (λ event. to_of event ≢ t.address) events

-- A transmitter joins the feed. It stands at a place of the plan's list and is in time. One of its lives in the
-- schedule, between the lives before it and those behind it, is given `count` packets of the feed from a mark on,
-- whatever it was given before. Among these packets is its own first listing that counts, in the group from packet k
-- on. A listing counts 52 or more packets behind the packet from which the transmitter is locked to the feed. What that
-- life was given before decides which packet that is.
pub record Joined (plan : Plan) (stream : List (List ℕ)) (events : List Event) : Type 0 where
  pub t : Transmitter
  pub who : ℕ
  pub lives_before : List (List (List ℕ))
  pub life : List (List ℕ)
  pub lives_behind : List (List (List ℕ))
  pub mark : ℕ
  pub count : ℕ
  pub k : ℕ
  pub listed : slice_get plan.transmitters who ≡ Some t
  pub in_time : IsInTime plan t
  pub lived : lives_of who (steps_under plan stream events) ≡ lives_before ++ life ∷ lives_behind
  pub fed : IsFed (feed plan stream) life mark count
  pub listing : IsFirstListing t.address (feed plan stream) (locked_from fed.earlier mark) (mark + count) k

-- What a transmitter sends once it has joined the feed, and which packets are given back of that.
pub record Follows (plan : Plan) (stream : List (List ℕ)) (events : List Event)
    (x : Joined plan stream events) : Type 0 where
  -- Its symbol file holds exactly the feed's own symbols from the first listing's group to the last whole group that it
  -- is given, and its log their presets. They are those of this life. Before them stands all that its earlier lives
  -- sent and that it sent before.
  pub emits : Emits plan x.t (feed plan stream) x.mark x.k (x.mark + x.count)
      (around x.lives_before x.fed x.lives_behind) (sent_segments x.t x.who (steps_under plan stream events))
      (lines_of x.t x.who (steps_under plan stream events))
  -- The first of these presets is that of the first listing's group, and names the segment at which those symbols
  -- begin.
  pub named : presets plan x.t.offset (length emits.before) (feed plan stream) x.k (x.mark + x.count)
      ≡ preset (length emits.before) (x.k / 624) (x.k % 624) (moment_at plan x.t.offset x.k).tick
      (moment_at plan x.t.offset x.k).grain
      ∷ map (preset_at plan x.t.offset (length emits.before) x.k)
      (orders (feed plan stream) (x.k + 1) (x.mark + x.count))
  -- No mute is logged between their beginning and their end.
  pub unmuted : (n : ℕ) (why : Why) → Contains (lines_of x.t x.who (steps_under plan stream events)) (mute n why)
      → (n ≤ length emits.before)
      ⊎ (length emits.before + length (stretch_of (feed plan stream) x.k (x.mark + x.count)) ≤ n)
  -- Let any segments be received that hold those symbols at that segment. A run that begins at one of their field syncs
  -- gives back each packet whose 207 bytes are all among the run's and lie in segments of theirs, and whose word has at
  -- most ten wrong bytes.
  pub gives_back : (got : List (List ℤ)) → GivesBack (feed plan stream) x.k (x.mark + x.count) (length emits.before) got
  -- Those symbols alone, received with slight damage, give all their packets back and no other.
  pub gives_all_back : (got : List (List ℤ)) → GivesAllBack (feed plan stream) x.k (x.mark + x.count) got

-- Two logs hold these lines, which are presets of one packet of one frame, and their moments differ by `ticks` ticks
-- and some whole seconds.
pub record AreApart (ticks : ℤ) (log log_other : List Line) (one other : Line) : Type 0 where
  pub logged : Contains log one
  pub logged_other : Contains log_other other
  pub apart : IsApart ticks one other

-- The headline.
pub record Headline (plan : Plan) (stream : List (List ℕ)) (events : List Event) : Type 0 where
  -- Every transmitter that joins the feed, from any earlier state, emits exactly the feed's symbols in the stretch. A
  -- run that begins at one of their field syncs gives packets back: those whose bytes are all its own and lie in
  -- segments of the stretch, with at most ten wrong bytes a word. The stretch alone does so too with slight damage.
  pub follows : (x : Joined plan stream events) → Follows plan stream events x
  -- Any two of them log a preset of each group with an operations packet that both have. The moments of these two
  -- differ only by the offsets and some whole seconds.
  pub apart : (x y : Joined plan stream events) (g : ℕ) → Contains (orders (feed plan stream) x.k (x.mark + x.count)) g
      → Contains (orders (feed plan stream) y.k (y.mark + y.count)) g
      → AreApart (x.t.offset -ℤ y.t.offset) (lines_of x.t x.who (steps_under plan stream events))
      (lines_of y.t y.who (steps_under plan stream events))
      (preset_at plan x.t.offset (length (follows x).emits.before) x.k g)
      (preset_at plan y.t.offset (length (follows y).emits.before) y.k g)
