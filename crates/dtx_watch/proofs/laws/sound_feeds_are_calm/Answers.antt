use Rattle.std.proofs.Common.{drop, refl}
use Rattle.dtx_watch.proofs.SoundLemmas.{calm}
use Rattle.dtx_watch.proofs.laws.sound_feeds_are_calm.Goals as goal

pub returns : goal.returns
returns c = λ start most mark k feed sound z inside l.
    calm start most feed (drop mark feed) mark k
    (record { sound = sound; mark = z; inside = inside; are = refl }) l
