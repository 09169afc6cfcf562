use Rattle.std.proofs.Common.{◌≡◌, ◌*◌, ◌/◌, ◌++◌, ℕ, List, [], length, take, get_or, ap, subst, ◌∙◌, arith}
use Rattle.dtx_packets.proofs.ChunksLemmas.{get_or-first_chunks}
use Rattle.dtx_packet_jobs.specs.DvbReading.{IsReading}
use Rattle.dtx_packet_jobs.proofs.dvb_reading.DvbReading.read.Goals as goal

pub returns-then-fours-eq0-clause-read : goal.returns-then-fours-eq0-clause-read
returns-then-fours-eq0-clause-read c = λ given before is.
    let bytes = c.args.bytes.now in
    subst (λ block. IsReading c.read_one.new.self (given ++ block) before)
    (ap (λ (blocks : List (List ℕ)). get_or blocks 0 []) c.as_chunks.ensures.front
    ∙ get_or-first_chunks 204 (length bytes / 204) bytes 0 (omega (arith, c.requires.some)))
    (c.read_one.ensures.read given before is)

pub returns-clause-read : goal.returns-clause-read
returns-clause-read c = λ given before is.
    let fours = c.min-fours.result in
    let long : 816 * fours ≡ 204 * (4 * fours) = omega arith in
    subst (λ n. IsReading c.read_batch.new.self (given ++ take n c.args.bytes.now) before) long
    (c.read_batch.ensures.read given before is)
