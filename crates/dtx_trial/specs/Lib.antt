pub mod TrialFiles
