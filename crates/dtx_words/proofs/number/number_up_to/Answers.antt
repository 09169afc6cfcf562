use Rattle.std.proofs.Common.{◌≡◌, ◌<◌, ◌^◌, sym, subst, arith, rules}
use Rattle.std.specs.Prelude.{Some, None}
use Rattle.dtx_words.specs.Fitting.{number_in, BeginsPlain}
use Rattle.dtx_words.proofs.Numbers.{number_in_spelled, spelled_as, not_plain, parsed, not_parsed, too_large}
use Rattle.dtx_words.proofs.number.number_up_to.Goals as goal

pub returns-then-not-begins_plain : goal.returns-then-not-begins_plain
returns-then-not-begins_plain c =
    let small : c.args.most < 2 ^ 64 = omega arith in
    let none : None ≡ number_in c.args.most c.args.word.now = sym (not_plain c.args.most c.args.word.now small (λ plain.
    let begins = c.begins_plain.ensures.1 (subst BeginsPlain (sym c.as_bytes.ensures.value) plain) in let stops =
    c.if-not-begins_plain.true in cc)) in
    record { number = none; spelled = spelled_as c.args.most c.args.word.now None small none }

pub returns-in-Ok : goal.returns-in-Ok
returns-in-Ok c =
    let small : c.args.most < 2 ^ 64 = omega arith in
    let plain : BeginsPlain c.args.word.now =
    subst BeginsPlain c.as_bytes.ensures.value (c.begins_plain.ensures.0 (search rules)) in
    let some : Some c.in-Ok.number ≡ number_in c.args.most c.args.word.now =
    sym (number_in_spelled c.args.most c.in-Ok.number c.args.word.now small c.if-number-most.true
    (parsed c.args.word.now c.in-Ok.number c.parse.result plain c.parse.ensures.value.0 c.in-Ok.is)) in
    record { number = some; spelled = spelled_as c.args.most c.args.word.now (Some c.in-Ok.number) small some }

pub returns-in_default : goal.returns-in_default
returns-in_default c =
    let small : c.args.most < 2 ^ 64 = omega arith in
    let plain : BeginsPlain c.args.word.now =
    subst BeginsPlain c.as_bytes.ensures.value (c.begins_plain.ensures.0 (search rules)) in
    let none : None ≡ number_in c.args.most c.args.word.now =
    sym (too_large c.args.most c.in-Ok.number c.args.word.now c.if-number-most.false (omega arith)
    (parsed c.args.word.now c.in-Ok.number c.parse.result plain c.parse.ensures.value.0 c.in-Ok.is)) in
    record { number = none; spelled = spelled_as c.args.most c.args.word.now None small none }

pub returns-in_default-2 : goal.returns-in_default-2
returns-in_default-2 c =
    let small : c.args.most < 2 ^ 64 = omega arith in
    let plain : BeginsPlain c.args.word.now =
    subst BeginsPlain c.as_bytes.ensures.value (c.begins_plain.ensures.0 (search rules)) in
    let none : None ≡ number_in c.args.most c.args.word.now =
    sym (not_parsed c.args.most c.args.word.now c.in_default.field-0 small plain c.in_default.ensures.value.0) in
    record { number = none; spelled = spelled_as c.args.most c.args.word.now None small none }
