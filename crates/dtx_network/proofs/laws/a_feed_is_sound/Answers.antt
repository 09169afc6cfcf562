use Rattle.std.proofs.Common.{drop, refl}
use Rattle.dtx_adapter.specs.Feed.{feed}
use Rattle.dtx_watch.proofs.SoundLemmas.{calm}
use Rattle.dtx_network.proofs.Sound.{sound}
use Rattle.dtx_network.proofs.laws.a_feed_is_sound.Goals as goal

pub returns : goal.returns
returns c = record {
  sound = sound;
  calm = λ plan stream mark k p s z inside l.
      let f = feed plan stream in
      calm plan.start plan.max_delay f (drop mark f) mark k
      (record { sound = sound plan stream p s; mark = z; inside = inside; are = refl }) l;
}
