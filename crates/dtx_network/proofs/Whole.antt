-- The headline as a whole.
use Rattle.std.proofs.Common.{◌≡◌, ◌⊎◌, inl, inr, ℕ, ℤ, ◌+◌, ◌<◌, ◌≤◌, Some, List, ◌++◌, length, map, get_or, sym, ap}
use Rattle.std.proofs.Common.{subst, ◌∙◌, arith, slice_get}
use Rattle.std.specs.List.{Contains}
use Rattle.std.proofs.lemmas.Bool.{cases_lt}
use Rattle.std.proofs.lemmas.List.{length-map, get_or-map}
use Rattle.std.proofs.lemmas.List.Elements.{Contains-append_left, Contains-append_right}
use Rattle.std.proofs.lemmas.Option.{slice_get_within, get_or_from_slice_get}
use Rattle.dtx_plan.specs.declared.plan.Plan.{Plan}
use Rattle.dtx_plan.specs.declared.transmitter.Transmitter.{Transmitter}
use Rattle.dtx_plan.specs.declared.event.Event.{Event}
use Rattle.dtx_adapter.specs.Feed.{feed}
use Rattle.dtx_exciter.specs.declared.answers.Why.{Why}
use Rattle.dtx_exciter.specs.Lockstep.{locked_from}
use Rattle.dtx_exciter.specs.Log.{Line, preset, mute, restart, log, emission_over}
use Rattle.dtx_net.specs.Lives.{sent_segments, lines_of}
use Rattle.dtx_chain.specs.Damage.{ArePackets}
use Rattle.dtx_network.specs.Plans.{IsPlan, IsStream}
use Rattle.dtx_network.specs.Orders.{orders, preset_at, presets}
use Rattle.dtx_network.specs.Headline.{stretch_of, Around, around, Emits}
use Rattle.dtx_network.specs.Network.{steps_under, Joined, Follows, Headline}
use Rattle.dtx_network.proofs.Emitting.{emits, first_is, no_other, apart}
use Rattle.dtx_network.proofs.FeedPackets.{feed_packets}
use Rattle.dtx_network.proofs.Back.{back, all_given_back}

-- ---- lists

pub contains_from_get : {X : Type 0} (xs : List X) (k : ℕ) (x : X) → slice_get xs k ≡ Some x → Contains xs x
contains_from_get xs k x e = (k, slice_get_within xs k x e, get_or_from_slice_get xs k x x e)

pub contains_map : {X Y : Type 0} (f : X → Y) (xs : List X) (x : X) → Contains xs x → Contains (map f xs) (f x)
contains_map f xs x c = (c.0, omega (arith, c.1, length-map xs f), get_or-map f xs c.0 x (f x) c.1 ∙ ap f c.2)

-- ---- one transmitter

abbrev EmitsOf : (plan : Plan) (stream : List (List ℕ)) (events : List Event) → Joined plan stream events → Type 0
EmitsOf plan stream events x =
    Emits plan x.t (feed plan stream) x.mark x.k (x.mark + x.count) (around x.lives_before x.fed x.lives_behind)
    (sent_segments x.t x.who (steps_under plan stream events)) (lines_of x.t x.who (steps_under plan stream events))

it_emits : (plan : Plan) (stream : List (List ℕ)) (events : List Event) → IsPlan plan → IsStream stream
    → (x : Joined plan stream events) → EmitsOf plan stream events x
unfolding sent_segments lines_of
it_emits plan stream events p s x =
    subst (λ (all : List (List (List ℕ))). Emits plan x.t (feed plan stream) x.mark x.k (x.mark + x.count)
    (around x.lives_before x.fed x.lives_behind) (emission_over x.t.address x.t.delay all)
    (log x.t.address x.t.delay 0 all)) (sym x.lived)
    (emits plan stream x.t x.lives_before x.lives_behind x.life x.mark x.count x.k p s
    (contains_from_get plan.transmitters x.who x.t x.listed) x.in_time x.fed x.listing)

-- a preset isn't a mute
abbrev IsPreset : Line → Type 0
IsPreset (preset s f p t g) = Unit {0}
IsPreset (mute n why) = ⊥
IsPreset (restart n) = ⊥

preset_no_mute : (line : Line) (n : ℕ) (why : Why) → IsPreset line → line ≡ mute n why → ⊥
preset_no_mute line n why h e = subst IsPreset e h

presets_no_mute : (plan : Plan) (t : Transmitter) (s : ℕ) (fed : List (List ℕ)) (k end n : ℕ) (why : Why)
    → Contains (presets plan t.offset s fed k end) (mute n why) → ⊥
unfolding presets
presets_no_mute plan t s fed k end n why c =
    preset_no_mute (preset_at plan t.offset s k (get_or (orders fed k end) c.0 0)) n why tt
    (sym (grind (arith, get_or-map, length-map)) ∙ c.2)

no_mute : (plan : Plan) (t : Transmitter) (fed : List (List ℕ)) (mark k end : ℕ) (a : Around)
    (segments : List (List ℤ)) (lines : List Line) (e : Emits plan t fed mark k end a segments lines) (n : ℕ)
    (why : Why) → Contains lines (mute n why)
    → (n ≤ length e.before) ⊎ (length e.before + length (stretch_of fed k end) ≤ n)
no_mute plan t fed mark k end a segments lines e n why c =
    by_low (cases_lt (length e.before) n) (cases_lt n (length e.before + length (stretch_of fed k end)))
  where
    by_low : (length e.before < n) ⊎ (n ≤ length e.before) → (n < length e.before + length (stretch_of fed k end))
        ⊎ (length e.before + length (stretch_of fed k end) ≤ n)
        → (n ≤ length e.before) ⊎ (length e.before + length (stretch_of fed k end) ≤ n)
    by_low (inr l) h = inl l
    by_low (inl l) (inr h) = inr h
    by_low (inl l) (inl h) = absurd (presets_no_mute plan t (length e.before) fed k end n why (grind (arith, no_other)))

follows : (plan : Plan) (stream : List (List ℕ)) (events : List Event) → IsPlan plan → IsStream stream
    → (x : Joined plan stream events) → Follows plan stream events x
follows plan stream events p s x =
    let e : EmitsOf plan stream events x = it_emits plan stream events p s x in
    let packets : ArePackets (feed plan stream) = feed_packets plan stream p s in
    record {
      emits = e;
      named = first_is plan x.t.offset (length e.before) x.t.address (feed plan stream)
          (locked_from x.fed.earlier x.mark) (x.mark + x.count) x.k x.listing;
      unmuted = no_mute plan x.t (feed plan stream) x.mark x.k (x.mark + x.count)
          (around x.lives_before x.fed x.lives_behind) (sent_segments x.t x.who (steps_under plan stream events))
          (lines_of x.t x.who (steps_under plan stream events)) e;
      gives_back = λ got. back (feed plan stream) x.k (x.mark + x.count) (length e.before) got packets x.fed.inside;
      gives_all_back = λ got. all_given_back (feed plan stream) x.k (x.mark + x.count) got packets x.fed.inside;
    }

-- ---- two transmitters

-- the preset of each order of the stretch is in the log
preset_logged : (plan : Plan) (t : Transmitter) (fed : List (List ℕ)) (mark k end : ℕ) (a : Around)
    (segments : List (List ℤ)) (lines : List Line) (e : Emits plan t fed mark k end a segments lines) (g : ℕ)
    → Contains (orders fed k end) g → Contains lines (preset_at plan t.offset (length e.before) k g)
unfolding presets
preset_logged plan t fed mark k end a segments lines e g c =
    let own : List Line = map (preset_at plan t.offset (length e.before) k) (orders fed k end) in
    let line : Line = preset_at plan t.offset (length e.before) k g in
    subst (λ ls. Contains ls line) (sym e.log) (Contains-append_right e.earlier (own ++ e.later) line
    (Contains-append_left own e.later line (contains_map (preset_at plan t.offset (length e.before) k)
    (orders fed k end) g c)))

pub headline : (plan : Plan) (stream : List (List ℕ)) (events : List Event) → IsPlan plan → IsStream stream
    → Headline plan stream events
headline plan stream events p s = record {
  follows = follows plan stream events p s;
  apart = λ x y g c d. record {
    logged = logged x g c;
    logged_other = logged y g d;
    apart = apart plan x.t y.t (length (follows plan stream events p s x).emits.before)
        (length (follows plan stream events p s y).emits.before) x.k y.k g;
  };
}
  where
    logged : (x : Joined plan stream events) (g : ℕ) → Contains (orders (feed plan stream) x.k (x.mark + x.count)) g
        → Contains (lines_of x.t x.who (steps_under plan stream events))
        (preset_at plan x.t.offset (length (follows plan stream events p s x).emits.before) x.k g)
    logged x g c = grind (arith, preset_logged, follows)
