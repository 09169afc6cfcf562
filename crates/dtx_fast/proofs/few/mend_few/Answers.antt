use Rattle.std.proofs.Common.{sym, subst, ◌∙◌}
use Rattle.dtx_galois.specs.Field.{AreBytes}
use Rattle.dtx_fast.proofs.few.mend_few.Goals as goal

-- the word is as it was
pub mend_two-requires : goal.mend_two-requires
mend_two-requires c =
    let same = sym (c.mend_one.ensures.left c.if-mend_one.false) in
    record {
      code = rw (← same) c.requires.code;
      bytes = subst AreBytes same c.requires.bytes;
      values = rw (← same) c.requires.values;
    }

pub mend_three-requires : goal.mend_three-requires
mend_three-requires c =
    let same = sym (c.mend_two.ensures.left c.if-mend_two.false ∙ c.mend_one.ensures.left c.if-mend_one.false) in
    record {
      code = rw (← same) c.requires.code;
      bytes = subst AreBytes same c.requires.bytes;
      values = rw (← same) c.requires.values;
    }
