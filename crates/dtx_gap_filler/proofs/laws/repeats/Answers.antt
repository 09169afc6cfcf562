use Rattle.dtx_chain.specs.Damage.{packet_behind}
use Rattle.dtx_gap_filler.specs.Heard.{heard_to}
use Rattle.dtx_gap_filler.proofs.Sent.{cut_heard, fed_anew, sends, logs, sends_nothing, logs_nothing}
use Rattle.dtx_gap_filler.proofs.laws.repeats.Goals as goal

pub returns-clause-segments : goal.returns-clause-segments
returns-clause-segments c = λ plan stream t delay first k sent got h listing.
    let w = cut_heard plan stream t delay first sent got (c.packets_of_a_feed.ensures plan stream h.is_plan h.is_stream)
    h in
    sends plan stream t delay (packet_behind first) (heard_to first got) k got
    (c.is_given_the_feed.ensures.life plan stream t delay first sent got h) w
    (c.from_a_mark.ensures.segments plan stream t delay w.earlier w.mark w.count k
    (fed_anew plan stream t delay first sent got h w)) listing

pub returns-clause-lines : goal.returns-clause-lines
returns-clause-lines c = λ plan stream t delay first k sent got h listing.
    let w = cut_heard plan stream t delay first sent got (c.packets_of_a_feed.ensures plan stream h.is_plan h.is_stream)
    h in
    logs plan stream t delay (packet_behind first) (heard_to first got) k got
    (c.is_given_the_feed.ensures.life plan stream t delay first sent got h) w
    (c.from_a_mark.ensures.lines plan stream t delay w.earlier w.mark w.count k
    (fed_anew plan stream t delay first sent got h w)) listing

pub returns-clause-no_segments : goal.returns-clause-no_segments
returns-clause-no_segments c = λ plan stream t delay first sent got h listing.
    let w = cut_heard plan stream t delay first sent got (c.packets_of_a_feed.ensures plan stream h.is_plan h.is_stream)
    h in
    sends_nothing plan stream t delay (packet_behind first) (heard_to first got) got
    (c.is_given_the_feed.ensures.life plan stream t delay first sent got h) w
    (c.from_a_mark.ensures.no_segments plan stream t delay w.earlier w.mark w.count
    (fed_anew plan stream t delay first sent got h w)) listing

pub returns-clause-no_lines : goal.returns-clause-no_lines
returns-clause-no_lines c = λ plan stream t delay first sent got h listing.
    let w = cut_heard plan stream t delay first sent got (c.packets_of_a_feed.ensures plan stream h.is_plan h.is_stream)
    h in
    logs_nothing plan stream t delay (packet_behind first) (heard_to first got) got
    (c.is_given_the_feed.ensures.life plan stream t delay first sent got h) w
    (c.from_a_mark.ensures.no_lines plan stream t delay w.earlier w.mark w.count
    (fed_anew plan stream t delay first sent got h w)) listing
