use Rattle.std.proofs.Common.{None, false, true, ◌++◌, length, drop, refl, ◌∙◌, arith}
use Rattle.std.proofs.lemmas.List.{get_or-replicate, get_or-take, get_or_append_left}
use Rattle.dtx_rounds.proofs.field.Field.clear.Goals as goal

pub returns-clause-nothing : goal.returns-clause-nothing
returns-clause-nothing c = record {
  bytes = λ n l.
      get_or-take c.args.self.now.known.len
      (c.loop-byte.byte-items ++ drop (length c.loop-byte.byte-items) c.args.self.now.known.items) n None (omega arith)
      ∙ get_or_append_left c.loop-byte.byte-items (drop (length c.loop-byte.byte-items) c.args.self.now.known.items)
      None n (omega arith)
      ∙ c.loop-byte.invariant n (omega arith);
  words = λ k l. get_or-replicate 312 k false true l;
  more = refl;
  still = refl;
}
