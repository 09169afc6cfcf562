use Rattle.std.proofs.Common.{◌<◌, subst, ◌∙◌}
use Rattle.dtx_packets.specs.Packets.{packets_of}
use Rattle.dtx_recipes.specs.DvbBack.{wrong_in_all}
use Rattle.dtx_file_laws.proofs.laws.dvb_bytes.a_burst_is_read.Goals as goal

pub returns : goal.returns
returns c = λ names stream bytes from few are is.
    let ps = packets_of stream in (
      wrong_in_all ps bytes,
      c.streams_come_back.ensures.damaged names stream bytes few are (c.burst.ensures ps bytes from (record {
        as_many = is.as_many ∙ c.sending.ensures.long ps;
        others = λ n l side. is.others n (subst (λ m. n < m) is.as_many l) side;
      })),
    )
