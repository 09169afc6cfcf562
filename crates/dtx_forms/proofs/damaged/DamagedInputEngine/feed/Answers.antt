use Rattle.std.proofs.Common.{◌≡◌, ℕ, List, ◌*◌, length, sym, ap, subst, ◌∙◌, arith}
use Rattle.dtx_engine.specs.Recipe.{IsFed}
use Rattle.dtx_engine.specs.declared.engine.Shape.{Shape}
use Rattle.dtx_make.specs.Hurt.{hurt, damaged_bytes}
use Rattle.dtx_make.proofs.LaidLemmas.{length-hurt}
use Rattle.dtx_forms.proofs.DamagedLemmas.{hurt_fed}
use Rattle.dtx_forms.proofs.damaged.DamagedInputEngine.feed.Goals as goal

pub feed-requires-clause-given : goal.feed-requires-clause-given
feed-requires-clause-given g c = grind (arith, length-hurt)

pub returns-clause-fed : goal.returns-clause-fed
returns-clause-fed g c = λ given long stand.
    let damage = c.args.self.now.damage.now in
    let recipe = g.E.Engine.recipe c.args.self.now.engine in
    let bytes = c.args.bytes.now in
    let stands = g.E.Engine.stands c.feed.new.self in
    let gives = g.E.Engine.gives c.feed.new.self c.feed.new.bytes in
    let place : c.sizes-shape.result.unit * c.args.first ≡ length given =
    ap (λ (s : Shape). s.unit * c.args.first) c.sizes-shape.ensures.same ∙ sym long in
    let here : c.lay.new.bytes ≡ damaged_bytes damage (length given) bytes = c.lay.ensures
    ∙ ap (λ n. damaged_bytes damage n bytes) place in
    let fed = c.feed.ensures.fed (hurt damage given) (length-hurt damage given ∙ long) stand.1 in
    let all = hurt_fed damage recipe given bytes stands gives
    (subst (λ (b : List ℕ). IsFed recipe (hurt damage given) b stands gives) here fed) in
    record { stand = (stand.0, all.stand); made = all.made }
