use Rattle.std.proofs.Common.{◌≡◌, ℤ, List, refl, sym, ap, ◌∙◌, subst}
use Rattle.dtx_level.specs.Leveller.{Holding, StandsFor, cleared, closed}
use Rattle.dtx_level.proofs.Ending.{IsEnded, ended}
use Rattle.dtx_level.proofs.Steps.{closed_room}
use Rattle.dtx_level.proofs.leveller.Leveller.finish.Goals as goal

now_closed : (c : goal.After-close) → c.close.new.self ≡ closed (cleared c.args.self.now)
now_closed c = c.close.ensures ∙ ap closed c.clear.ensures

all : (c : goal.After-close) (symbols : List ℤ) → StandsFor c.args.self.now symbols → IsEnded c.close.new.self symbols
all c symbols h = subst (λ new. IsEnded new symbols) (sym (now_closed c)) (ended c.args.self.now symbols h)

pub returns-clause-given : goal.returns-clause-given
returns-clause-given c = λ symbols h. (all c symbols h).given

pub returns-clause-measured : goal.returns-clause-measured
returns-clause-measured c = λ symbols h. (all c symbols h).measured

pub returns-clause-syncs : goal.returns-clause-syncs
returns-clause-syncs c = λ symbols h. (all c symbols h).syncs_are

pub returns-clause-slips : goal.returns-clause-slips
returns-clause-slips c = λ symbols h. (all c symbols h).slips_are

pub returns-clause-room : goal.returns-clause-room
returns-clause-room c = rw (now_closed c) (closed_room (cleared c.args.self.now) refl).0

pub returns-clause-symbols : goal.returns-clause-symbols
returns-clause-symbols c =
    ap (λ (x : Holding). x.symbols) (now_closed c) ∙ (closed_room (cleared c.args.self.now) refl).1
