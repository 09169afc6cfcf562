pub mod MomentsLemmas
pub mod StampsLemmas
