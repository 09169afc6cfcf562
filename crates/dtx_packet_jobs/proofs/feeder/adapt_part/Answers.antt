use Rattle.std.proofs.Common.{◌≡◌, ◌+◌, ◌++◌, length, drop, ap, sym, subst, ◌∙◌}
use Rattle.dtx_adapter.specs.Adapting.{StandsFor}
use Rattle.dtx_adapter.specs.Feed.{feed, placeholders}
use Rattle.dtx_packets.specs.Packets.{packets_of}
use Rattle.dtx_forms.proofs.FilePacketsLemmas.{packets_are, length-packets_of}
use Rattle.dtx_recipes.specs.Adapt.{bytes_of_packets, feed_bytes}
use Rattle.dtx_recipes.proofs.FeedLemmas.{feed_bytes-parts}
use Rattle.dtx_packet_jobs.proofs.feeder.adapt_part.Goals as goal

pub returns : goal.returns
returns c =
    let bytes = c.args.bytes.now in
    let given : c.copy_from_slice.new.self ≡ packets_of bytes =
    c.copy_from_slice.ensures.after ∙ c.as_chunks.ensures.front ∙ packets_are bytes in
    record {
      fed = λ plan stream stands.
          feed_bytes-parts plan stream (packets_of bytes)
          ∙ ap (λ packets. feed_bytes plan stream ++ bytes_of_packets packets)
          (ap (λ more. drop (length stream) (feed plan (stream ++ more))) (sym given)
          ∙ sym (c.groups-filled.ensures.fed plan stream stands))
          ∙ ap (λ made. feed_bytes plan stream ++ made)
          (sym (c.copy_from_slice-2.ensures.after ∙ c.as_flattened.ensures.value));
      stands = λ plan stream stands.
          subst (λ more. StandsFor plan c.groups-filled.new.self (stream ++ more)) given
          (c.groups-filled.ensures.stands plan stream stands);
      filled = c.groups-filled.ensures.filled ∙ ap placeholders given;
      given = c.groups-filled.ensures.given
          ∙ ap (λ n. c.args.adapter.now.given + n) (ap length given ∙ length-packets_of bytes);
    }
