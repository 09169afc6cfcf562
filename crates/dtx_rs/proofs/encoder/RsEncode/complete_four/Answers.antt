use Rattle.std.proofs.Common.{◌++◌, ap, ◌∙◌, arith}
use Rattle.dtx_rs.proofs.Encoded.{four_completed}
use Rattle.dtx_rs.proofs.encoder.RsEncode.complete_four.Goals as goal

pub returns-then-this-le-WIDTH : goal.returns-then-this-le-WIDTH
returns-then-this-le-WIDTH g c =
    let one = c.split_at_mut-one in
    let two = c.split_at_mut-two in
    let three = c.split_at_mut-three in
    four_completed g.row.N g.row.K c.args.words.now one.result.0.now two.result.0.now three.result.0.now
    three.result.1.now _ _ _ _ c.args.self.now.code
    (record {
      joined = one.ensures.value
          ∙ ap (λ x. one.result.0.now ++ x) (two.ensures.value
          ∙ ap (λ x. two.result.0.now ++ x) three.ensures.value);
      first = one.ensures.front_len;
      second = two.ensures.front_len;
      third = three.ensures.front_len;
      fourth = omega (arith, one.ensures.back_len, two.ensures.back_len, three.ensures.back_len, c.requires);
    })
    c.complete_by_table.ensures.one c.complete_by_table.ensures.two c.complete_by_table.ensures.three
    c.complete_by_table.ensures.four

pub returns-else-this-le-WIDTH : goal.returns-else-this-le-WIDTH
returns-else-this-le-WIDTH g c =
    let one = c.split_at_mut-one in
    let two = c.split_at_mut-two in
    let three = c.split_at_mut-three in
    four_completed g.row.N g.row.K c.args.words.now one.result.0.now two.result.0.now three.result.0.now
    three.result.1.now _ _ _ _ c.args.self.now.code
    (record {
      joined = one.ensures.value
          ∙ ap (λ x. one.result.0.now ++ x) (two.ensures.value
          ∙ ap (λ x. two.result.0.now ++ x) three.ensures.value);
      first = one.ensures.front_len;
      second = two.ensures.front_len;
      third = three.ensures.front_len;
      fourth = omega (arith, one.ensures.back_len, two.ensures.back_len, three.ensures.back_len, c.requires);
    })
    c.complete_by_register.ensures.one c.complete_by_register.ensures.two c.complete_by_register.ensures.three
    c.complete_by_register.ensures.four
