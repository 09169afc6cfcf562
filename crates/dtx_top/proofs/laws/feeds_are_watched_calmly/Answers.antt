use Rattle.std.proofs.Common.{◌≡◌, ◌≢◌, ℕ, ◌%◌, ◌<◌, ◌≤◌, Bool, true, false, Option, Some, List, [], ◌∷◌, length, drop}
use Rattle.std.proofs.Common.{refl, sym, ap, subst, ◌∙◌, arith}
use Rattle.std.specs.FinMap.{get}
use Rattle.std.specs.List.{All}
use Rattle.std.specs.Str.{bytes_eq}
use Rattle.std.proofs.lemmas.Bool.{cond-false}
use Rattle.std.proofs.lemmas.List.{length-drop}
use Rattle.std.proofs.lemmas.List.Elements.{All-drop, All-from_recursion, All-weaker}
use Rattle.std.proofs.lemmas.Slice.Eq.{bytes_eq-Decides}
use Rattle.dtx_adapter.specs.Feed.{feed}
use Rattle.dtx_adapter.proofs.FeedsLemmas.{length-feed}
use Rattle.dtx_engine.specs.Recipe.{meaning, meaning_of_file}
use Rattle.dtx_galois.specs.Field.{AreBytes}
use Rattle.dtx_meaning.specs.Meaning.{refused}
use Rattle.dtx_meaning.specs.declared.status.Status.TheVariants.{Same}
use Rattle.dtx_network.specs.Plans.{IsPlan, IsStream}
use Rattle.dtx_outside.specs.Shelf.{Files}
use Rattle.dtx_packets.specs.Packets.{whole_packets}
use Rattle.dtx_plan.specs.declared.plan.Plan.{Plan}
use Rattle.dtx_words.specs.Fitting.{command_of}
use Rattle.dtx_words.specs.declared.rows.Command.{Command}
use Rattle.dtx_words.specs.declared.rows.Command.TheVariants.{Watch}
use Rattle.dtx_recipes.specs.Adapt.{bytes_of_packets}
use Rattle.dtx_forms.proofs.FilePacketsLemmas.{IsLong}
use Rattle.dtx_packet_jobs.proofs.PacketFileLemmas.{length-bytes_of_packets, packets_of-bytes}
use Rattle.dtx_packet_jobs.proofs.PacketFileLemmas.{whole_packets-bytes}
use Rattle.dtx_forms.specs.Shapes.{single_packets}
use Rattle.dtx_recipes.specs.Watch.{watching}
use Rattle.dtx_recipes.specs.WatchedFeed.{IsWatchedCalmly}
use Rattle.dtx_top.specs.Jobs.{means, means_of}
use Rattle.dtx_top.proofs.laws.feeds_are_watched_calmly.Goals as goal

names_differ : (input output : List ℕ) → input ≢ output → (b : Bool) → bytes_eq input output ≡ b
    → bytes_eq input output ≡ false
names_differ input output apart true e = absurd (apart ((bytes_eq-Decides input output).0 e))
names_differ input output apart false e = e

-- what the words mean over such a file
by_words : (verb input output file : List ℕ) (held : Files) → command_of (verb ∷ input ∷ output ∷ []) ≡ Some Watch
    → input ≢ output → get held input ≡ Some file
    → means (verb ∷ input ∷ output ∷ []) held ≡ meaning_of_file single_packets watching (output ∷ []) file
by_words verb input output file held fit apart there =
    ap (λ (command : Option Command). means_of command (verb ∷ input ∷ output ∷ []) held) fit
    ∙ cond-false (bytes_eq input output) (refused Same) (meaning single_packets watching 0 (output ∷ [])
    (get held input)) (names_differ input output apart (bytes_eq input output) refl)
    ∙ ap (meaning single_packets watching 0 (output ∷ [])) there

from_mark : goal.After-sound_feeds_are_watched_calmly → (plan : Plan) (stream : List (List ℕ)) (mark : ℕ)
    (verb input output : List ℕ) (held : Files) → IsPlan plan → IsStream stream → mark % 624 ≡ 0
    → mark < length stream → command_of (verb ∷ input ∷ output ∷ []) ≡ Some Watch → input ≢ output
    → get held input ≡ Some (bytes_of_packets (drop mark (feed plan stream)))
    → IsWatchedCalmly (output ∷ []) (drop mark (feed plan stream)) 0 (means (verb ∷ input ∷ output ∷ []) held)
from_mark c plan stream mark verb input output held p s z inside fit apart there =
    let f : List (List ℕ) = feed plan stream in
    let d : List (List ℕ) = drop mark f in
    let file : List ℕ = bytes_of_packets d in
    let most = s.most in
    let long : All IsLong d =
    All-drop IsLong mark f (All-weaker (λ packet. (length packet ≡ 188) × AreBytes packet) IsLong (λ packet is. is.0) f
    (All-from_recursion (λ packet. (length packet ≡ 188) × AreBytes packet) f (c.packets_of_a_feed.ensures plan stream
    p s))) in
    let few : whole_packets file ≤ 624000000 =
    omega (arith, whole_packets-bytes d long, length-drop mark f, length-feed plan stream, most) in
    let loose : length file % 188 ≡ 0 = omega (arith, length-bytes_of_packets d long) in
    let calm = c.sound_feeds_are_watched_calmly.ensures (output ∷ []) file plan.start plan.max_delay mark f
    (c.a_feed_is_sound.ensures.sound plan stream p s) z (omega (arith, inside, length-feed plan stream))
    (packets_of-bytes d long) few in
    subst (λ m. IsWatchedCalmly (output ∷ []) d 0 m) (sym (by_words verb input output file held fit apart there))
    (subst (λ n. IsWatchedCalmly (output ∷ []) d n (meaning_of_file single_packets watching (output ∷ []) file)) loose
    calm)

pub returns-clause-whole : goal.returns-clause-whole
returns-clause-whole c = λ plan stream verb input output held p s some fit apart there.
    from_mark c plan stream 0 verb input output held p s refl some fit apart there

pub returns-clause-from_a_mark : goal.returns-clause-from_a_mark
returns-clause-from_a_mark c = from_mark c
