use Rattle.std.proofs.Common.{rules, ◌-◌, ◌%◌, ◌≡◌, ℕ, length, set, refl, arith, subst}
use Rattle.dtx_exciter.specs.Step.{IsSent}
use Rattle.dtx_exciter.proofs.Joined.{joined_partial, joined_full}
use Rattle.dtx_exciter.proofs.exciter.Exciter.join.Goals as goal

pub returns-then-place-ne3-clause-joined : goal.returns-then-place-ne3-clause-joined
returns-then-place-ne3-clause-joined c =
    λ l k e. joined_partial c.args.self.now.address c.args.self.now.delay l c.args.self.now c.args.place
    c.args.packet.now c.args.air.now.segments c.args.air.now.symbols k e c.if-place-ne3.true
    (search rules) c.requires.air

pub returns-clause-joined : goal.returns-clause-joined
returns-clause-joined c = λ l k e.
    let last : c.args.place % 4 ≡ 3 = c.if-place-ne3.false in
    joined_full c.args.self.now.address c.args.self.now.delay l c.args.self.now c.send-told.new.self _ c.args.packet.now
    (length l - 3) (c.args.place - 3) c.args.place c.send-told.result c.send-told.new.air.segments
    c.send-told.new.air.symbols
    (record {
      keeps = k;
      ends = record { long = omega (arith, last, e); whole = omega (arith, last, e) };
      place = omega (arith, last, e);
      four = search rules;
    })
    e refl refl
    (subst (λ (n : ℕ). IsSent (c.args.place - 3) (record c.args.self.now
    { packets = set c.args.self.now.packets n c.args.packet.now }) c.send-told.new.self c.send-told.result
    c.send-told.new.air.segments c.send-told.new.air.symbols)
    last c.send-told.ensures)
    c.is_flushed-self.ensures refl refl refl
