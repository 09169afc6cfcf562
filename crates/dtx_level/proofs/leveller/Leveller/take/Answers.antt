use Rattle.std.proofs.Common.{◌≡◌, ◌+◌, ◌<◌, ◌≤◌, ℤ, List, length, take, length-append, refl, sym, ap, ◌∙◌}
use Rattle.std.proofs.Common.{subst, arith}
use Rattle.std.proofs.lemmas.List.{length-take-le}
use Rattle.dtx_level.specs.Leveller.{Holding, StandsFor, cleared, fed, settled, sought, taken}
use Rattle.dtx_level.proofs.Steps.{settled_lines, settled_room, settled_same, sought_room, sought_same}
use Rattle.dtx_level.proofs.Taking.{IsTaken, taken_is}
use Rattle.dtx_level.proofs.leveller.Leveller.take.Goals as goal

-- the symbols that it took
abbrev more : goal.After-settle → List ℤ
more c = take c.hold-count.result c.args.symbols.now

now_fed : (c : goal.After-settle) → c.hold-count.new.self ≡ fed (cleared c.args.self.now) (more c)
now_fed c = c.hold-count.ensures.fed ∙ ap (λ h. fed h (more c)) c.clear.ensures

now_taken : (c : goal.After-settle) → c.settle.new.self ≡ taken c.args.self.now (more c)
now_taken c = c.settle.ensures ∙ ap settled (c.seek.ensures ∙ ap sought (now_fed c))

all : (c : goal.After-settle) (before : List ℤ) → StandsFor c.args.self.now before
    → IsTaken c.args.self.now c.settle.new.self before (more c)
all c before h =
    subst (λ new. IsTaken c.args.self.now new before (more c)) (sym (now_taken c))
    (taken_is c.args.self.now before (more c) h
    (subst (λ (x : Holding). length x.held ≤ 261248) (now_fed c) c.hold-count.ensures.few))

pub returns-clause-some : goal.returns-clause-some
returns-clause-some c = λ before h some.
    c.hold-count.ensures.some some
    (subst (λ (x : Holding). length x.held < 261248) (sym c.clear.ensures) h.few)

pub returns-clause-stands : goal.returns-clause-stands
returns-clause-stands c = λ before h. (all c before h).stands

pub returns-clause-given : goal.returns-clause-given
returns-clause-given c = λ before h. (all c before h).given

pub returns-clause-measured : goal.returns-clause-measured
returns-clause-measured c = λ before h. (all c before h).measured

pub returns-clause-zeros : goal.returns-clause-zeros
returns-clause-zeros c = λ before h. (all c before h).zeros

pub returns-clause-lines : goal.returns-clause-lines
returns-clause-lines c =
    let s = sought (fed (cleared c.args.self.now) (more c)) in
    rw (now_taken c) (settled_lines s (sought_same (fed (cleared c.args.self.now) (more c))).0)

pub returns-clause-room : goal.returns-clause-room
returns-clause-room c =
    let f = fed (cleared c.args.self.now) (more c) in
    rw (now_taken c) (omega (
      arith,
      settled_room (sought f),
      sought_room f refl,
      length-append c.args.self.now.held (more c),
      length-take-le c.hold-count.result c.args.symbols.now c.hold-count.ensures.within,
    ))

pub returns-clause-symbols : goal.returns-clause-symbols
returns-clause-symbols c =
    let f = fed (cleared c.args.self.now) (more c) in
    ap (λ (x : Holding). x.symbols) (now_taken c) ∙ (settled_same (sought f)).1 ∙ (sought_same f).1
    ∙ ap (λ n. c.args.self.now.symbols + n)
    (length-take-le c.hold-count.result c.args.symbols.now c.hold-count.ensures.within)
