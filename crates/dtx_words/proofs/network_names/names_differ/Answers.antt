use Rattle.dtx_words.proofs.NetworkNamesLemmas.{logs_differ, symbols_differ, symbols_no_logs}
use Rattle.dtx_words.proofs.network_names.names_differ.Goals as goal

pub returns-clause-symbols : goal.returns-clause-symbols
returns-clause-symbols c = symbols_differ

pub returns-clause-logs : goal.returns-clause-logs
returns-clause-logs c = logs_differ

pub returns-clause-symbols_no_logs : goal.returns-clause-symbols_no_logs
returns-clause-symbols_no_logs c = symbols_no_logs
