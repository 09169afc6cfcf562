use Rattle.std.proofs.Common.{pos, ◌∙◌, replicate, subst, ◌<◌}
use Rattle.std.proofs.lemmas.List.{length-replicate}
use Rattle.dtx_acquire.proofs.Silence.{none_agrees}
use Rattle.dtx_acquire.proofs.laws.silence_moves_nothing.Goals as goal

pub returns-clause-agreement : goal.returns-clause-agreement
returns-clause-agreement c = none_agrees

pub returns-clause-segments : goal.returns-clause-segments
returns-clause-segments c = λ scale zeros sent symbols some h near.
    (c.a_capture_begins_anywhere.ensures scale (replicate zeros (pos 0)) symbols
    (λ p l. none_agrees scale zeros sent symbols h.segments_are near p
    (subst (λ n. p < n) (length-replicate zeros (pos 0)) l))).segments
    ∙ c.a_small_error_moves_nothing.ensures scale sent symbols some h near
