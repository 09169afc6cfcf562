-- The headline, as a statement on the files of a network that is done (the profile's own, in the manner of ATSC A/110;
-- the symbols are those of ATSC A/53 Part 2).
use Rattle.std.specs.Prelude.{◌≡◌, ℕ, ◌+◌, Option, Some, IsSomeAnd, List, [], ◌∷◌, length, slice_get}
use Rattle.std.specs.FinMap.{get}
use Rattle.dtx_outside.specs.Shelf.{Files}
use Rattle.dtx_packets.specs.Packets.{packets_of}
use Rattle.dtx_plan.specs.declared.plan.NetPlan.{NetPlan}
use Rattle.dtx_plan.specs.declared.plan.Plan.{Plan}
use Rattle.dtx_plan.specs.declared.plan.ReceivePlan.{ReceivePlan}
use Rattle.dtx_plan.specs.declared.transmitter.Transmitter.{Transmitter}
use Rattle.dtx_receiver.specs.Packets.{received}
use Rattle.dtx_adapter.specs.Feed.{feed}
use Rattle.dtx_net.specs.Lives as sent
use Rattle.dtx_network.specs.GivesBack.{GivesBack, GivesAllBack}
use Rattle.dtx_network.specs.Network.{steps_under, Headline, Joined}
use Rattle.dtx_words.specs.Names.{received_name}
use Rattle.dtx_recipes.specs.SymbolFile.{file_segments}
use Rattle.dtx_schedule.specs.TransmitterFiles.{symbol_file}
use Rattle.dtx_top.specs.Networks.{damaged_file, AreWholeFiles, OfNetwork}

-- The headline of a network that was done, from the files `held` before the call to the files `now`.
pub record HeadlineOfFiles (plan : Plan) (network : NetPlan) (stream : List (List ℕ)) (held now : Files) : Type 0 where
  -- The files are the feed, what each transmitter sends and logs over its lives, and the packets received.
  pub files : AreWholeFiles plan network stream held now
  -- The segments of each symbol file, cut at every 832 bytes, are those that its transmitter sends.
  pub segments : (who : ℕ) (t : Transmitter) → slice_get plan.transmitters who ≡ Some t
      → file_segments (symbol_file t who (steps_under plan stream network.events))
      ≡ sent.sent_segments t who (steps_under plan stream network.events)
  -- Any transmitter is given, from any earlier state, the feed unchanged through three cadence marks and on. From its
  -- first listing whose group starts 52 or more packets later, it emits exactly the symbols of that feed. It does so at
  -- moments that differ between transmitters only by the signalled offsets. These symbols may be received in any way. A
  -- run that begins at one of their field syncs then gives packets back. They are those whose bytes are all among the
  -- run's and lie in segments of theirs, and whose words have at most ten wrong bytes.
  pub headline : Headline plan stream network.events
  -- If the receiver takes the symbol file of one of these transmitters, with the plan's damage, those packets come
  -- back.
  pub gives_back : (receiver : ReceivePlan) (x : Joined plan stream network.events) → network.receive ≡ Some receiver
      → x.t.address ≡ receiver.from
      → GivesBack (feed plan stream) x.k (x.mark + x.count) (length (headline.follows x).emits.before)
      (file_segments (damaged_file plan network stream receiver))
  -- If what it takes is the stretch alone, slightly damaged, all packets from the stretch's first field on come back,
  -- and no other.
  pub gives_all_back : (receiver : ReceivePlan) (x : Joined plan stream network.events)
      → network.receive ≡ Some receiver → x.t.address ≡ receiver.from
      → GivesAllBack (feed plan stream) x.k (x.mark + x.count)
      (file_segments (damaged_file plan network stream receiver))
  -- Packet n of the file `net.ts` is the n-th packet received.
  pub packets : (receiver : ReceivePlan) → network.receive ≡ Some receiver
      → IsSomeAnd (get now received_name)
      (λ file. packets_of file ≡ received (file_segments (damaged_file plan network stream receiver)))

-- The headline holds of the network of these words, from the files `held` before the call to the files `now`.
abbrev pub HasHeadline : List (List ℕ) → Files → Option Files → Type 0
HasHeadline (verb ∷ plan ∷ []) held now =
    OfNetwork plan held (λ said network file. IsSomeAnd now (HeadlineOfFiles said network (packets_of file) held))
HasHeadline words held now = ⊥
