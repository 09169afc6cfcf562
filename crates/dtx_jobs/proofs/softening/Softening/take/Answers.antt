use Rattle.std.proofs.Common.{◌≡◌, ◌<◌, ℕ, Option, Some, length, slice_set, take, unwrap_or, refl, ap, ◌∙◌}
use Rattle.std.proofs.Common.{arith, rules}
use Rattle.std.specs.Bool.{then_some}
use Rattle.dtx_jobs.specs.Softening.{kept_rows}
use Rattle.dtx_jobs.proofs.SofteningLemmas.{copied, full, kept}
use Rattle.dtx_jobs.proofs.softening.Softening.take.Goals as goal

pub returns-in-None-clause-gathered : goal.returns-in-None-clause-gathered
returns-in-None-clause-gathered c = λ before front is.
    rw (← c.to_symbols.ensures) (copied c.args.self.now _ before c.to_symbols.new.symbols front is refl
    c.in-None.is (c.then_some-self.ensures ∙ ap (λ b. then_some {T = ℕ} b 0) c.looks.ensures) refl refl c.push.ensures)

pub returns-then-place-lt-FIELD_PACKETS-clause-gathered : goal.returns-then-place-lt-FIELD_PACKETS-clause-gathered
returns-then-place-lt-FIELD_PACKETS-clause-gathered c = λ before front is.
    let within : c.in-Some.place < length c.args.self.now.field.items =
    omega (arith, c.if-place-lt-FIELD_PACKETS.true, c.requires.is_kept.room) in
    rw (← c.to_symbols.ensures) (kept c.args.self.now _ before c.to_symbols.new.symbols front is refl
    c.in-Some.place c.in-Some.is c.if-place-lt-FIELD_PACKETS.true within refl (search rules) refl refl refl)

pub returns-else-place-lt-FIELD_PACKETS-clause-gathered : goal.returns-else-place-lt-FIELD_PACKETS-clause-gathered
returns-else-place-lt-FIELD_PACKETS-clause-gathered c = λ before front is.
    let p = c.in-Some.place in
    let old = c.args.self.now in
    let x = c.to_symbols.new.symbols in
    let rows : kept_rows old ≡ p = ap (λ (o : Option ℕ). unwrap_or o 0) c.in-Some.is in
    let last : p ≡ 311 = omega (arith, rows, c.requires.is_kept.small, c.if-place-lt-FIELD_PACKETS.false) in
    let within : 311 < length old.field.items = omega (arith, c.requires.is_kept.room) in
    rw (← c.to_symbols.ensures) (full old _ before x front is c.flush.ensures.count
    (take 312 (slice_set old.field.items p x)) (c.in-Some.is ∙ ap Some last) within
    (ap (λ q. take 312 (slice_set old.field.items q x)) last) refl c.flush.ensures.fields c.flush.ensures.cost
    c.flush.ensures.symbols)
