use Rattle.std.proofs.Common.{◌-◌, ◌++◌, length, refl, sym, ap, ◌∙◌}
use Rattle.std.proofs.lemmas.Bool.{true≢false}
use Rattle.std.proofs.lemmas.List.{append-nil}
use Rattle.dtx_receiver.specs.Bytes.{bytes_in}
use Rattle.dtx_acquire.specs.Acquired.{acquired}
use Rattle.dtx_rounds.specs.Known.{known_count}
use Rattle.dtx_rounds.specs.Rounds.{heard_of, refined, refined_rest, round_cost, round_moved}
use Rattle.dtx_refine.proofs.Ends.{rest_is}
use Rattle.dtx_refine.proofs.refiner.Refiner.finish.Goals as goal

pub returns-clause-begins : goal.returns-clause-begins
returns-clause-begins c = λ symbols h. record {
  going = λ e. (h, refl);
  over = λ e. absurd (true≢false (sym e ∙ h.going));
}

pub returns-clause-more : goal.returns-clause-more
returns-clause-more c = λ symbols before h. record {
  going = λ e. absurd (true≢false (sym c.step.ensures.stepped.over ∙ e));
  over = λ e. c.step.ensures.ended symbols before h;
}

pub returns-clause-all : goal.returns-clause-all
returns-clause-all c = λ symbols before h e.
    let new = c.step.new.self in
    sym (append-nil before) ∙ ap (λ xs. before ++ xs) (sym (c.step.ensures.stepped.none e))
    ∙ rest_is new symbols (before ++ new.given) (c.step.ensures.ended symbols before h)
    (c.step.ensures.all symbols before h e).done
    ∙ ap (λ s. refined_rest s symbols new.rounds) c.step.ensures.stepped.scale
    ∙ ap (λ n. refined_rest c.args.self.now.scale symbols n) c.step.ensures.stepped.rounds

pub returns-clause-runs : goal.returns-clause-runs
returns-clause-runs c = λ symbols before h e. (c.step.ensures.ended symbols before h).runs_are

pub returns-clause-segments : goal.returns-clause-segments
returns-clause-segments c = λ symbols before h e.
    (c.step.ensures.ended symbols before h).segments_are
    ∙ ap (λ s. length (acquired s symbols)) c.step.ensures.stepped.scale

pub returns-clause-known : goal.returns-clause-known
returns-clause-known c = λ symbols before h e.
    (c.step.ensures.all symbols before h e).known_are
    ∙ ap (λ s. known_count (bytes_in (refined s symbols (c.step.new.self.rounds - 1)))) c.step.ensures.stepped.scale
    ∙ ap (λ n. known_count (bytes_in (refined c.args.self.now.scale symbols (n - 1)))) c.step.ensures.stepped.rounds

pub returns-clause-cost : goal.returns-clause-cost
returns-clause-cost c = λ symbols before h e.
    (c.step.ensures.all symbols before h e).cost_is
    ∙ ap (λ s. round_cost s (heard_of symbols) (refined s symbols (c.step.new.self.rounds - 1)))
    c.step.ensures.stepped.scale
    ∙ ap (λ n. round_cost c.args.self.now.scale (heard_of symbols) (refined c.args.self.now.scale symbols (n - 1)))
    c.step.ensures.stepped.rounds

pub returns-clause-moved : goal.returns-clause-moved
returns-clause-moved c = λ symbols before h e.
    (c.step.ensures.all symbols before h e).moved_are
    ∙ ap (λ s. round_moved s (heard_of symbols) (refined s symbols (c.step.new.self.rounds - 1)))
    c.step.ensures.stepped.scale
    ∙ ap (λ n. round_moved c.args.self.now.scale (heard_of symbols) (refined c.args.self.now.scale symbols (n - 1)))
    c.step.ensures.stepped.rounds
