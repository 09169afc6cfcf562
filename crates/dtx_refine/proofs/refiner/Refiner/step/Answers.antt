use Rattle.std.proofs.Common.{◌++◌, sym, ap, ◌∙◌, subst}
use Rattle.std.proofs.lemmas.Bool.{true≢false}
use Rattle.dtx_refine.specs.Refiner.{HasEnded, HasStepped, Refining}
use Rattle.dtx_refine.proofs.Ends.{stepped_two}
use Rattle.dtx_refine.proofs.refiner.Refiner.step.Goals as goal

pub returns-then-self-clause-ended : goal.returns-then-self-clause-ended
returns-then-self-clause-ended c = λ symbols before h.
    c.next.ensures.ended symbols before (h.over (sym (ap (λ (x : Refining). x.ended) c.self.view_is) ∙ c.if-self.true))

pub returns-then-self-clause-all : goal.returns-then-self-clause-all
returns-then-self-clause-all c = λ symbols before h e.
    c.next.ensures.all symbols before (h.over (sym (ap (λ (x : Refining). x.ended) c.self.view_is) ∙ c.if-self.true)) e

pub returns-then-self-clause-some : goal.returns-then-self-clause-some
returns-then-self-clause-some c = λ symbols before h e.
    c.next.ensures.some symbols before (h.over (sym (ap (λ (x : Refining). x.ended) c.self.view_is) ∙ c.if-self.true)) e

pub returns-then-end-clause-ended : goal.returns-then-end-clause-ended
returns-then-end-clause-ended c = λ symbols before h.
    let was = h.going (sym (ap (λ (x : Refining). x.ended) c.self.view_is) ∙ c.if-self.false) in
    subst (λ xs. HasEnded c.end.new.self symbols (xs ++ c.end.new.self.given)) (sym was.1)
    (c.end.ensures.ended symbols was.0)

pub returns-then-end-clause-all : goal.returns-then-end-clause-all
returns-then-end-clause-all c = λ symbols before h e. absurd (true≢false e)

pub returns-then-end-clause-some : goal.returns-then-end-clause-some
returns-then-end-clause-some c = λ symbols before h e.
    c.end.ensures.some symbols (h.going (sym (ap (λ (x : Refining). x.ended) c.self.view_is) ∙ c.if-self.false)).0
    c.if-end.true

pub returns-then-end-clause-stepped : goal.returns-then-end-clause-stepped
returns-then-end-clause-stepped c =
    subst (λ b. HasStepped c.args.self.now c.end.new.self b) c.if-end.true c.end.ensures.stepped

pub returns-else-end-clause-ended : goal.returns-else-end-clause-ended
returns-else-end-clause-ended c = λ symbols before h.
    let was = h.going (sym (ap (λ (x : Refining). x.ended) c.self.view_is) ∙ c.if-self.false) in
    c.next-else-end.ensures.ended symbols before
    (subst (λ xs. HasEnded c.end.new.self symbols xs) (c.end.ensures.stepped.none c.if-end.false ∙ sym was.1)
    (c.end.ensures.ended symbols was.0))

pub returns-else-end-clause-all : goal.returns-else-end-clause-all
returns-else-end-clause-all c = λ symbols before h e.
    let was = h.going (sym (ap (λ (x : Refining). x.ended) c.self.view_is) ∙ c.if-self.false) in
    c.next-else-end.ensures.all symbols before
    (subst (λ xs. HasEnded c.end.new.self symbols xs) (c.end.ensures.stepped.none c.if-end.false ∙ sym was.1)
    (c.end.ensures.ended symbols was.0)) e

pub returns-else-end-clause-some : goal.returns-else-end-clause-some
returns-else-end-clause-some c = λ symbols before h e.
    let was = h.going (sym (ap (λ (x : Refining). x.ended) c.self.view_is) ∙ c.if-self.false) in
    c.next-else-end.ensures.some symbols before
    (subst (λ xs. HasEnded c.end.new.self symbols xs) (c.end.ensures.stepped.none c.if-end.false ∙ sym was.1)
    (c.end.ensures.ended symbols was.0)) e

pub returns-else-end-clause-stepped : goal.returns-else-end-clause-stepped
returns-else-end-clause-stepped c =
    stepped_two c.args.self.now c.end.new.self c.next-else-end.new.self c.next-else-end.result
    (subst (λ b. HasStepped c.args.self.now c.end.new.self b) c.if-end.false c.end.ensures.stepped)
    c.next-else-end.ensures.stepped
