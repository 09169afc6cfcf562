use Rattle.std.proofs.Common.{refl, sym, ap, ◌∙◌, rules, w64}
use Rattle.std.proofs.lemmas.Int.{to_z-of_z}
use Rattle.dtx_level.specs.Shown.{are_shown, gain}
use Rattle.dtx_level.proofs.Shows.{between, shows_by}
use Rattle.dtx_level.proofs.shown.PatternSyncTest.passes.Goals as goal

pub returns-then-count-lt-TURNED : goal.returns-then-count-lt-TURNED
returns-then-count-lt-TURNED c =
    sym (between c.args.count (gain c.args.symbols.now c.args.place) c.if-count-gt-MAY_BE_UNLIKE.true
    c.if-count-lt-TURNED.true)
    ∙ shows_by c.args.symbols.now c.args.place c.args.count (gain c.args.symbols.now c.args.place) c.requires.room
    c.requires.count refl

pub returns : goal.returns
returns c =
    c.are_shown.ensures ∙ ap (are_shown c.args.count) (to_z-of_z w64 c.standing.result.gain (search rules))
    ∙ shows_by c.args.symbols.now c.args.place c.args.count c.standing.result.gain c.requires.room c.requires.count
    c.standing.ensures.gain
