use Rattle.dtx_calm_feed.proofs.Noted.{calm_again}
use Rattle.dtx_calm_feed.proofs.Words.{text_calm}
use Rattle.dtx_calm_feed.proofs.laws.calm_texts.Goals as goal

pub returns-clause-from : goal.returns-clause-from
returns-clause-from c = λ packets anchor text is. record {
  anchor_is = is;
  calm = λ k behind inside. text_calm packets k text inside;
}

pub returns-clause-feed : goal.returns-clause-feed
returns-clause-feed c = calm_again
