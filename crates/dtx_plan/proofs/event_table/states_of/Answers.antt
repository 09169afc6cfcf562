use Rattle.std.proofs.Common.{◌-◌, ◌∙◌, ◌<◌, length, length-set, get_or, ap, sym, refl, arith}
use Rattle.std.proofs.lemmas.Bool.{eq-eqb}
use Rattle.std.proofs.lemmas.List.{take_all}
use Rattle.std.proofs.lemmas.List.Elements.{All-set}
use Rattle.std.specs.List.{list_all}
use Rattle.dtx_plan.specs.EventTable.{is_state}
use Rattle.dtx_plan.proofs.Digits.{read_more, in_digits, sound_more, all_read}
use Rattle.dtx_plan.proofs.event_table.states_of.Goals as goal

pub loop-i-preserved : goal.loop-i-preserved
loop-i-preserved c =
    let h = c.loop-i.invariant in
    let state = get_or c.args.digits.now c.loop-i.i 0 - 48 in
    record {
      long = length-set c.loop-i.states c.loop-i.i state ∙ h.long;
      read = read_more (λ digit. digit - 48) c.loop-i.states c.args.digits.now c.loop-i.i (omega arith) (omega arith)
          h.read;
      sound = sound_more is_state c.args.digits.now c.loop-i.i (omega arith)
          (in_digits (get_or c.args.digits.now c.loop-i.i 0) (omega arith) (omega arith)) h.sound;
      small = All-set (λ n. n < 8) c.loop-i.states c.loop-i.i state (omega arith) h.small;
    }

pub returns : goal.returns
returns c =
    let h = c.loop-i.invariant in
    let all = take_all c.loop-i.i c.args.digits.now (omega arith) in
    let held = all_read (λ digit. digit - 48) c.loop-i.states c.args.digits.now c.loop-i.i (omega arith) (omega arith)
    h.read in
    rw (eq-eqb (length c.args.digits.now) 12 (omega arith), sym (ap (list_all is_state) all) ∙ h.sound, held) refl

pub invariant_of-result : goal.invariant_of-result
invariant_of-result c = λ i within. c.loop-i.invariant.small i 0 within
