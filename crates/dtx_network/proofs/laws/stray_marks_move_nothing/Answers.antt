use Rattle.dtx_network.proofs.OtherMarks.{stray_marks_pass}
use Rattle.dtx_network.proofs.laws.stray_marks_move_nothing.Goals as goal

pub returns : goal.returns
returns c = stray_marks_pass
