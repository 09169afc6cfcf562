use Rattle.dtx_watch.proofs.WatchLinesLemmas.{words_of-watch_text}
use Rattle.dtx_watch.proofs.laws.watch_text_has_the_words_of_its_notes.Goals as goal

pub returns : goal.returns
returns c = words_of-watch_text
