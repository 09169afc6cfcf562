use Rattle.dtx_words.proofs.lines.line.Goals as goal

pub returns-in-Done : goal.returns-in-Done
returns-in-Done g c = record {
  written = rw c.in-Done.is c.put_done.ensures.written;
  gone = c.put_done.ensures.gone;
}

pub returns-in-Usage : goal.returns-in-Usage
returns-in-Usage g c = record {
  written = rw c.in-Usage.is c.put_usage.ensures.written;
  gone = c.put_usage.ensures.gone;
}

pub returns-in-Same : goal.returns-in-Same
returns-in-Same g c = record {
  written = rw c.in-Same.is c.put_name.ensures.written;
  gone = c.put_name.ensures.gone;
}

pub returns-in-Absent : goal.returns-in-Absent
returns-in-Absent g c = record {
  written = rw c.in-Absent.is c.put_name-in-Absent.ensures.written;
  gone = c.put_name-in-Absent.ensures.gone;
}

pub returns-in-Plan : goal.returns-in-Plan
returns-in-Plan g c = record {
  written = rw c.in-Plan.is c.put_plan.ensures.written;
  gone = c.put_plan.ensures.gone;
}

pub returns-in-Packet : goal.returns-in-Packet
returns-in-Packet g c = record {
  written = rw c.in-Packet.is c.put_count.ensures.written;
  gone = c.put_count.ensures.gone;
}

pub returns-in-OutOfFeed : goal.returns-in-OutOfFeed
returns-in-OutOfFeed g c = record {
  written = rw c.in-OutOfFeed.is c.put_count-in-OutOfFeed.ensures.written;
  gone = c.put_count-in-OutOfFeed.ensures.gone;
}

pub returns-in-OutOfAir : goal.returns-in-OutOfAir
returns-in-OutOfAir g c = record {
  written = rw c.in-OutOfAir.is c.put_count-in-OutOfAir.ensures.written;
  gone = c.put_count-in-OutOfAir.ensures.gone;
}
