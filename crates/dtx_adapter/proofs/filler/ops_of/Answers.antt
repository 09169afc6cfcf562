use Rattle.dtx_adapter.proofs.PagesLemmas.{few_on_page}
use Rattle.dtx_adapter.proofs.filler.ops_of.Goals as goal

pub entries_on-requires : goal.entries_on-requires
entries_on-requires c =
    few_on_page c.args.entries.now c.first_page-paging.result 0 c.first_page-paging.ensures c.requires
